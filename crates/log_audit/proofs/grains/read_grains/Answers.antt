use Rattle.std.proofs.Common.{rules, ◌≡◌, ◌+◌, ◌^◌, ◌<◌, ◌≤◌, length, map, Some, None, Ok, Err, sym, ◌∙◌, subst}
use Rattle.std.proofs.lemmas.Result.{err_from_is_err_and}
use Rattle.host_trait.specs.World.{Disk}
use Rattle.host_trait.proofs.Runs.{asked_then}
use Rattle.host_trait.proofs.Counts.{none_then}
use Rattle.field_codec.specs.declared.formats.Format.TheVariants.{Two}
use Rattle.host_trait.specs.declared.channels.FileId.TheVariants.{Manager}
use Rattle.log_reading.specs.Entries.{entry_said}
use Rattle.log_reading.specs.Blocks.{entries_said}
use Rattle.log_reading.specs.Steps.{log_base_of, next_in}
use Rattle.script_tree.specs.Programs.{ProgramTree}
use Rattle.log_audit.specs.InForce.{types_in_force}
use Rattle.log_audit.specs.WrittenGrains.{grains_added}
use Rattle.log_audit.proofs.ReadEntries.{shape_same, shape_types}
use Rattle.log_audit.proofs.GrainLists.{HasGrains, grains_begun, grains_more, grains_ended, grains_broken, log_fault}
use Rattle.log_audit.proofs.RereadFaults.{read_then}
use Rattle.log_audit.proofs.grains.read_grains.Goals as goal

pub loop-grains-init : goal.loop-grains-init
loop-grains-init g c = record {
  bound = c.in_ok-base.ensures.bound.gate;
  shaped = c.requires.shape;
  has = λ told p typed. grains_begun p ((g.H.Host.world c.args.host.now).disk (Manager c.args.slot)).seen (log_base_of c.in_ok-base.base) c.in_ok-base.base.session c.in_ok-base.base.gate_at (types_in_force c.args.now.now) _ typed
      (c.in_ok-base.ensures.begins told p (shape_same p c.args.now.now c.requires.shape typed))
      (c.in_ok-add_written.ensures ∙ (λ i. grains_added (c.new-grains.ensures.empty i) (map (λ w. w.grain) (c.as_slice.ensures i))));
  asked = c.read_base.ensures.asked;
  calm = c.in_ok-base.ensures.calls.calm;
  ready = c.read_base.ensures.calls.ready;
}

pub next_entry-requires-clause-shape : goal.next_entry-requires-clause-shape
next_entry-requires-clause-shape g c = shape_types c.loop-grains.now c.loop-grains.invariant.shaped

pub returns-in_err-base-clause-unread : goal.returns-in_err-base-clause-unread
returns-in_err-base-clause-unread g c =
    let r = err_from_is_err_and c.from_residual.result c.from_residual.ensures.1 in
    rw (r.1, r.2) λ told p typed log read.
    log_fault p ((g.H.Host.world c.args.host.now).disk (Manager c.args.slot)).seen c.args.slot c.in_err-base.field-0.0
    (λ at place is. c.in_err-base.ensures.damaged at place is told p (shape_same p c.args.now.now c.requires.shape typed)) (λ at is. c.in_err-base.ensures.failed at is)

pub returns-in_err-session-clause-unread : goal.returns-in_err-session-clause-unread
returns-in_err-session-clause-unread g c =
    let r = err_from_is_err_and c.from_residual-in_err-session.result c.from_residual-in_err-session.ensures.1 in
    let inv = c.loop-grains.invariant in
    let types = types_in_force c.loop-grains.now in
    let last = c.loop-grains.last in
    let gate = c.loop-grains.gate_at in
    let file = ((g.H.Host.world c.args.host.now).disk (Manager c.args.slot)).seen in
    rw (r.1, r.2) λ told p typed log read.
    log_fault p file c.args.slot c.in_err-session.field-0.0
    (λ at place is.
    let here = c.in_err-session.ensures.damaged at place is told in
    let there : next_in Two types last gate file ≡ Err place = subst (λ (d : Disk). next_in Two types last gate (d (Manager c.args.slot)).seen ≡ Err place) (inv.asked told).disk here in
    grains_broken p file last gate types _ (inv.has told p typed) place there)
    (λ at is. c.in_err-session.ensures.failed at is)

pub returns-in_err-session-clause-calls : goal.returns-in_err-session-clause-calls
returns-in_err-session-clause-calls g c =
    let r = err_from_is_err_and c.from_residual-in_err-session.result c.from_residual-in_err-session.ensures.1 in
    let inv = c.loop-grains.invariant in
    rw (r.1, r.2) record {
      ready = λ at was. c.next_entry.ensures.calls.ready at (inv.ready at was);
      calm = tt;
      fault = read_then _ _ _ c.in_err-session.field-0.0 inv.calm c.in_err-session.ensures.calls.fault;
    }

pub returns-in_err-session-clause-asked : goal.returns-in_err-session-clause-asked
returns-in_err-session-clause-asked g c told = asked_then _ _ _ (c.loop-grains.invariant.asked told) (c.next_entry.ensures.asked told)

pub returns-in_err-add_said-clause-asked : goal.returns-in_err-add_said-clause-asked
returns-in_err-add_said-clause-asked g c told = asked_then _ _ _ (c.loop-grains.invariant.asked told) (c.next_entry.ensures.asked told)

pub returns-in_err-add_said-clause-calls : goal.returns-in_err-add_said-clause-calls
returns-in_err-add_said-clause-calls g c =
    let r = err_from_is_err_and c.from_residual-in_err-add_said.result c.from_residual-in_err-add_said.ensures.1 in
    let inv = c.loop-grains.invariant in
    rw (r.1, r.2) record {
      ready = λ at was. c.next_entry.ensures.calls.ready at (inv.ready at was);
      calm = tt;
      fault = none_then _ _ _ inv.calm c.in_ok-session.ensures.calls.calm;
    }

pub loop-grains-preserved : goal.loop-grains-preserved
loop-grains-preserved g c =
    let inv = c.loop-grains.invariant in
    let types = types_in_force c.loop-grains.now in
    let last = c.loop-grains.last in
    let gate = c.loop-grains.gate_at in
    let session = c.in-Some.session in
    let entry = entry_said c.in-Some.said in
    let behind = c.in-Some.behind in
    let file = ((g.H.Host.world c.args.host.now).disk (Manager c.args.slot)).seen in
    let far : (gate + 5 + length (entries_said entry) ≤ behind) × (behind < 2 ^ 63) = search rules in
    record {
      bound = far.1;
      shaped = c.in_ok-add_said.ensures.shaped;
      has = λ told p typed.
          let here : next_in Two types last gate ((g.H.Host.world c.loop-grains.host).disk (Manager c.args.slot)).seen ≡ Ok (Some (session, entry, behind)) = search rules in
          let there : next_in Two types last gate file ≡ Ok (Some (session, entry, behind)) = subst (λ (d : Disk). next_in Two types last gate (d (Manager c.args.slot)).seen ≡ Ok (Some (session, entry, behind))) (inv.asked told).disk here in
          subst (λ (t : ProgramTree). HasGrains p file session behind t c.add_said.new.grains.keys) (sym c.in_ok-add_said.ensures.behind) (grains_more p file last gate types c.loop-grains.grains.keys (inv.has told p typed) session entry behind c.add_said.new.grains.keys c.in_ok-add_said.ensures.grains there);
      asked = λ told. asked_then _ _ _ (inv.asked told) (c.next_entry.ensures.asked told);
      calm = none_then _ _ _ inv.calm c.in_ok-session.ensures.calls.calm;
      ready = λ at was. c.next_entry.ensures.calls.ready at (inv.ready at was);
    }

pub returns-clause-found : goal.returns-clause-found
returns-clause-found g c told p typed log is =
    let inv = c.loop-grains.invariant in
    let types = types_in_force c.loop-grains.now in
    let last = c.loop-grains.last in
    let gate = c.loop-grains.gate_at in
    let file = ((g.H.Host.world c.args.host.now).disk (Manager c.args.slot)).seen in
    let here : next_in Two types last gate ((g.H.Host.world c.loop-grains.host).disk (Manager c.args.slot)).seen ≡ Ok None = search rules in
    let there : next_in Two types last gate file ≡ Ok None = subst (λ (d : Disk). next_in Two types last gate (d (Manager c.args.slot)).seen ≡ Ok None) (inv.asked told).disk here in
    grains_ended p file last gate types c.loop-grains.grains.keys (inv.has told p typed) there log is

pub returns-clause-asked : goal.returns-clause-asked
returns-clause-asked g c told = asked_then _ _ _ (c.loop-grains.invariant.asked told) (c.next_entry.ensures.asked told)

pub returns-clause-calls : goal.returns-clause-calls
returns-clause-calls g c =
    let inv = c.loop-grains.invariant in
    record {
      ready = λ at was. c.next_entry.ensures.calls.ready at (inv.ready at was);
      calm = none_then _ _ _ inv.calm c.in_ok-session.ensures.calls.calm;
      fault = tt;
    }
