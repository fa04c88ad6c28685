use Rattle.std.proofs.Common.{rules, ◌≡◌, ◌+◌, ◌^◌, ◌<◌, ◌≤◌, ◌++◌, [], inl, inr, List, length, true, false, Some, None, Ok, Err, sym, ◌∙◌, ap, subst}
use Rattle.std.specs.Prelude.{is_some}
use Rattle.std.specs.List.{fold}
use Rattle.std.proofs.lemmas.Result.{err_from_is_err_and}
use Rattle.base_types.specs.declared.calls.GrainId.{GrainId}
use Rattle.base_types.specs.declared.calls.Value.{Value}
use Rattle.base_types.specs.declared.shapes.Shape.{Shape}
use Rattle.host_trait.specs.World.{Disk, Image}
use Rattle.host_trait.proofs.Runs.{asked_then}
use Rattle.host_trait.proofs.Counts.{none_then}
use Rattle.field_codec.specs.declared.formats.Format.TheVariants.{Two}
use Rattle.commit_log.specs.declared.records.Written.{Written}
use Rattle.host_trait.specs.declared.channels.FileId.TheVariants.{Manager}
use Rattle.log_reading.specs.Entries.{entry_said}
use Rattle.log_reading.specs.Blocks.{LogBase, ReadEntry, entries_said, program_after}
use Rattle.log_reading.specs.Steps.{log_base_of, next_in, seen_in}
use Rattle.script_tree.specs.Programs.{ProgramTree}
use Rattle.promise_spec.specs.Programs.{shape_in}
use Rattle.promise_spec.specs.Records.{put_state}
use Rattle.promise_spec.specs.Entries.{Standing, is_among}
use Rattle.promise_spec.specs.Openings.{entries_logged}
use Rattle.log_audit.specs.InForce.{types_in_force}
use Rattle.log_audit.specs.Replays.{first_states, states_saved_at, AllReplayTo}
use Rattle.log_audit.specs.RereadFaults.{IsWriteFault, IsEntryFault}
use Rattle.log_audit.proofs.GrainLists.{log_fault}
use Rattle.log_audit.proofs.ReadEntries.{shape_same, shape_types, rest_of}
use Rattle.log_audit.proofs.RereadFaults.{read_then}
use Rattle.log_audit.proofs.RereadRefusals.{fault_before, fault_behind}
use Rattle.log_audit.proofs.SavedStates.{stands_saved}
use Rattle.log_audit.proofs.Replays.{HasAudited, before, before_types, rest_said, audit_begun, audit_broken, audit_found, audit_next, audit_done}
use Rattle.log_audit.proofs.replay.replay_log.Goals as goal

pub loop-store-init : goal.loop-store-init
loop-store-init g c =
    let shape = c.args.now.now.shape in
    let image = seen_in (g.H.Host.world c.args.host.now).disk in
    let file = ((g.H.Host.world c.args.host.now).disk (Manager c.args.slot)).seen in
    let base = log_base_of c.in_ok-base.base in
    let store = c.in_ok-store.store in
    record {
      bound = c.in_ok-base.ensures.bound.gate;
      shaped = c.requires.shape;
      fits = c.in_ok-store.ensures.fits (types_in_force c.args.now.now) c.requires.shape;
      audited = λ told p typed.
          let same : seen_in (g.H.Host.world c.read_base.new.host).disk ≡ image = ap seen_in (c.read_base.ensures.asked told).disk in
          let shapes : shape_in p ≡ shape = shape_same p c.args.now.now c.requires.shape typed in
          let saved : states_saved_at c.args.slot shape (seen_in (g.H.Host.world c.read_base.new.host).disk) c.as_slice.result.now ≡ states_saved_at c.args.slot (shape_in p) image base.writes = (λ i. states_saved_at c.args.slot (sym shapes i) (same i) (c.as_slice.ensures i)) in
          audit_begun p c.args.slot image file base c.in_ok-base.base.session c.in_ok-base.base.gate_at (types_in_force c.args.now.now) store typed (c.in_ok-base.ensures.begins told p shapes)
          (stands_saved c.args.slot p image (record { base = base; entries = [] }) store (λ grain. c.in_ok-store.ensures.held told grain ∙ ap (λ (ws : List (GrainId × List Value)). is_among ws grain) saved)
          (c.in_ok-store.ensures.states told p.types ∙ ap (λ (ws : List (GrainId × List Value)). fold put_state (first_states p.types) ws) saved));
      asked = λ told. asked_then _ _ _ (c.read_base.ensures.asked told) (c.saved_store.ensures.asked told);
      calm = none_then _ _ _ c.in_ok-base.ensures.calls.calm c.in_ok-store.ensures.calls.calm;
      ready = λ at was. c.saved_store.ensures.calls.ready at (c.read_base.ensures.calls.ready at was);
    }

pub next_entry-requires-clause-shape : goal.next_entry-requires-clause-shape
next_entry-requires-clause-shape g c = shape_types c.loop-store.now c.loop-store.invariant.shaped

pub replay_said-requires-clause-may : goal.replay_said-requires-clause-may
replay_said-requires-clause-may g c = search rules

pub returns-in_err-base-clause-unread : goal.returns-in_err-base-clause-unread
returns-in_err-base-clause-unread g c =
    let r = err_from_is_err_and c.from_residual.result c.from_residual.ensures.1 in
    rw (r.1, r.2) λ told p typed log is.
    inl (log_fault p ((g.H.Host.world c.args.host.now).disk (Manager c.args.slot)).seen c.args.slot c.in_err-base.field-0.0
    (λ at place fault. c.in_err-base.ensures.damaged at place fault told p (shape_same p c.args.now.now c.requires.shape typed)) (λ at fault. c.in_err-base.ensures.failed at fault))

pub returns-in_err-store-clause-unread : goal.returns-in_err-store-clause-unread
returns-in_err-store-clause-unread g c =
    let r = err_from_is_err_and c.from_residual-in_err-store.result c.from_residual-in_err-store.ensures.1 in
    let shape = c.args.now.now.shape in
    let image = seen_in (g.H.Host.world c.args.host.now).disk in
    let b = c.in_ok-base.base in
    let e = c.in_err-store.field-0.0 in
    rw (r.1, r.2) λ told p typed log is.
    let same : seen_in (g.H.Host.world c.read_base.new.host).disk ≡ image = ap seen_in (c.read_base.ensures.asked told).disk in
    let shapes : shape_in p ≡ shape = shape_same p c.args.now.now c.requires.shape typed in
    let base = (rest_of p ((g.H.Host.world c.args.host.now).disk (Manager c.args.slot)).seen (log_base_of b) [] [] b.session b.gate_at (c.in_ok-base.ensures.begins told p shapes) log is).0 in
    let there : IsWriteFault c.args.slot (shape_in p) image None b.saved e =
    subst (λ (im : Image). IsWriteFault c.args.slot (shape_in p) im None b.saved e) same
    (subst (λ (s : Shape). IsWriteFault c.args.slot s (seen_in (g.H.Host.world c.read_base.new.host).disk) None b.saved e) (sym shapes)
    (subst (λ (ws : List Written). IsWriteFault c.args.slot shape (seen_in (g.H.Host.world c.read_base.new.host).disk) None ws e) c.as_slice.ensures (c.in_err-store.ensures.unread told))) in
    inr (inl (subst (λ (l : LogBase). IsWriteFault c.args.slot (shape_in p) image None l.writes e) base there))

pub returns-in_err-store-clause-asked : goal.returns-in_err-store-clause-asked
returns-in_err-store-clause-asked g c told = asked_then _ _ _ (c.read_base.ensures.asked told) (c.saved_store.ensures.asked told)

pub returns-in_err-store-clause-calls : goal.returns-in_err-store-clause-calls
returns-in_err-store-clause-calls g c =
    let r = err_from_is_err_and c.from_residual-in_err-store.result c.from_residual-in_err-store.ensures.1 in
    rw (r.1, r.2) record {
      ready = λ at was. c.saved_store.ensures.calls.ready at (c.read_base.ensures.calls.ready at was);
      calm = tt;
      fault = read_then _ _ _ c.in_err-store.field-0.0 c.in_ok-base.ensures.calls.calm c.in_err-store.ensures.calls.fault;
    }

pub returns-in_err-session-clause-unread : goal.returns-in_err-session-clause-unread
returns-in_err-session-clause-unread g c =
    let r = err_from_is_err_and c.from_residual-in_err-session.result c.from_residual-in_err-session.ensures.1 in
    let inv = c.loop-store.invariant in
    let types = types_in_force c.loop-store.now in
    let last = c.loop-store.last in
    let gate = c.loop-store.gate_at in
    let image = seen_in (g.H.Host.world c.args.host.now).disk in
    let file = ((g.H.Host.world c.args.host.now).disk (Manager c.args.slot)).seen in
    rw (r.1, r.2) λ told p typed log is.
    inl (log_fault p file c.args.slot c.in_err-session.field-0.0
    (λ at place fault.
    let here = c.in_err-session.ensures.damaged at place fault told in
    let there : next_in Two types last gate file ≡ Err place = subst (λ (d : Disk). next_in Two types last gate (d (Manager c.args.slot)).seen ≡ Err place) (inv.asked told).disk here in
    audit_broken p c.args.slot image file last gate types _ (inv.audited told p typed) place there)
    (λ at fault. c.in_err-session.ensures.failed at fault))

pub returns-in_err-session-clause-calls : goal.returns-in_err-session-clause-calls
returns-in_err-session-clause-calls g c =
    let r = err_from_is_err_and c.from_residual-in_err-session.result c.from_residual-in_err-session.ensures.1 in
    let inv = c.loop-store.invariant in
    rw (r.1, r.2) record {
      ready = λ at was. c.next_entry.ensures.calls.ready at (inv.ready at was);
      calm = tt;
      fault = read_then _ _ _ c.in_err-session.field-0.0 inv.calm c.in_err-session.ensures.calls.fault;
    }

pub returns-in_err-session-clause-asked : goal.returns-in_err-session-clause-asked
returns-in_err-session-clause-asked g c told = asked_then _ _ _ (c.loop-store.invariant.asked told) (c.next_entry.ensures.asked told)

pub returns-in_err-found-clause-unread : goal.returns-in_err-found-clause-unread
returns-in_err-found-clause-unread g c =
    let r = err_from_is_err_and c.from_residual-in_err-found.result c.from_residual-in_err-found.ensures.1 in
    let inv = c.loop-store.invariant in
    let types = types_in_force c.loop-store.now in
    let last = c.loop-store.last in
    let gate = c.loop-store.gate_at in
    let session = c.in-Some.session in
    let entry = entry_said c.in-Some.said in
    let behind = c.in-Some.behind in
    let image = seen_in (g.H.Host.world c.args.host.now).disk in
    let file = ((g.H.Host.world c.args.host.now).disk (Manager c.args.slot)).seen in
    let e = c.in_err-found.field-0.0 in
    rw (r.1, r.2) λ told p typed log is.
    let h = inv.audited told p typed in
    let step : next_in Two types last gate ((g.H.Host.world c.loop-store.host).disk (Manager c.args.slot)).seen ≡ Ok (Some (session, entry, behind)) = search rules in
    let there = subst (λ (d : Disk). next_in Two types last gate (d (Manager c.args.slot)).seen ≡ Ok (Some (session, entry, behind))) (inv.asked told).disk step in
    let rest = rest_said p c.args.slot image file last gate types _ h session entry behind there log is in
    let mid = asked_then _ _ _ (inv.asked told) (c.next_entry.ensures.asked told) in
    let here = subst (λ (d : Disk). IsEntryFault c.args.slot (program_after p h.entries) (seen_in d) (entries_said entry) e) mid.disk (c.in_err-found.ensures.unread told (program_after p h.entries) h.in_force) in
    let all = fault_before c.args.slot image p (h.entries ++ entries_said entry) rest.0 e (fault_behind c.args.slot image p h.entries (entries_said entry) e here) in
    inr (inr (subst (λ (l : List ReadEntry). IsEntryFault c.args.slot p image l e) (sym rest.1) all))

pub returns-in_err-found-clause-calls : goal.returns-in_err-found-clause-calls
returns-in_err-found-clause-calls g c =
    let r = err_from_is_err_and c.from_residual-in_err-found.result c.from_residual-in_err-found.ensures.1 in
    let inv = c.loop-store.invariant in
    rw (r.1, r.2) record {
      ready = λ at was. c.replay_said.ensures.calls.ready at (c.next_entry.ensures.calls.ready at (inv.ready at was));
      calm = tt;
      fault = read_then _ _ _ c.in_err-found.field-0.0 (none_then _ _ _ inv.calm c.in_ok-session.ensures.calls.calm) c.in_err-found.ensures.calls.fault;
    }

pub returns-in_err-found-clause-asked : goal.returns-in_err-found-clause-asked
returns-in_err-found-clause-asked g c told = asked_then _ _ _ (asked_then _ _ _ (c.loop-store.invariant.asked told) (c.next_entry.ensures.asked told)) (c.replay_said.ensures.asked told)

pub returns-then-is_some-clause-replays : goal.returns-then-is_some-clause-replays
returns-then-is_some-clause-replays g c told p typed log is =
    let inv = c.loop-store.invariant in
    let types = types_in_force c.loop-store.now in
    let last = c.loop-store.last in
    let gate = c.loop-store.gate_at in
    let session = c.in-Some.session in
    let entry = entry_said c.in-Some.said in
    let behind = c.in-Some.behind in
    let image = seen_in (g.H.Host.world c.args.host.now).disk in
    let file = ((g.H.Host.world c.args.host.now).disk (Manager c.args.slot)).seen in
    let found = c.in_ok-found.found in
    let some : is_some found ≡ true = sym c.is_some.ensures ∙ c.if-is_some.true in
    let step : next_in Two types last gate ((g.H.Host.world c.loop-store.host).disk (Manager c.args.slot)).seen ≡ Ok (Some (session, entry, behind)) = search rules in
    let there = subst (λ (d : Disk). next_in Two types last gate (d (Manager c.args.slot)).seen ≡ Ok (Some (session, entry, behind))) (inv.asked told).disk step in
    let mid = asked_then _ _ _ (inv.asked told) (c.next_entry.ensures.asked told) in
    let h = inv.audited told p typed in
    let now : Standing = before p c.args.slot image file last gate types c.loop-store.store h in
    let to = subst (λ (d : Disk). AllReplayTo now (entries_logged Two c.args.slot now.program (seen_in d) (entries_said entry)) c.replay_said.new.store found) mid.disk
    (c.in_ok-found.ensures.replays told now (before_types p c.args.slot image file last gate types c.loop-store.store h) h.has) in
    audit_found p c.args.slot image file last gate types c.loop-store.store h session entry behind there c.replay_said.new.store found some to log is

pub returns-then-is_some-clause-asked : goal.returns-then-is_some-clause-asked
returns-then-is_some-clause-asked g c told = asked_then _ _ _ (asked_then _ _ _ (c.loop-store.invariant.asked told) (c.next_entry.ensures.asked told)) (c.replay_said.ensures.asked told)

pub returns-then-is_some-clause-calls : goal.returns-then-is_some-clause-calls
returns-then-is_some-clause-calls g c =
    let inv = c.loop-store.invariant in
    record {
      ready = λ at was. c.replay_said.ensures.calls.ready at (c.next_entry.ensures.calls.ready at (inv.ready at was));
      calm = none_then _ _ _ (none_then _ _ _ inv.calm c.in_ok-session.ensures.calls.calm) c.in_ok-found.ensures.calls.calm;
      fault = tt;
    }

pub loop-store-preserved : goal.loop-store-preserved
loop-store-preserved g c =
    let inv = c.loop-store.invariant in
    let types = types_in_force c.loop-store.now in
    let last = c.loop-store.last in
    let gate = c.loop-store.gate_at in
    let session = c.in-Some.session in
    let entry = entry_said c.in-Some.said in
    let behind = c.in-Some.behind in
    let image = seen_in (g.H.Host.world c.args.host.now).disk in
    let file = ((g.H.Host.world c.args.host.now).disk (Manager c.args.slot)).seen in
    let found = c.in_ok-found.found in
    let none : is_some found ≡ false = sym c.is_some.ensures ∙ c.if-is_some.false in
    let far : (gate + 5 + length (entries_said entry) ≤ behind) × (behind < 2 ^ 63) = search rules in
    record {
      bound = far.1;
      shaped = c.in_ok-found.ensures.shaped;
      fits = c.in_ok-found.ensures.fits;
      audited = λ told p typed.
          let step : next_in Two types last gate ((g.H.Host.world c.loop-store.host).disk (Manager c.args.slot)).seen ≡ Ok (Some (session, entry, behind)) = search rules in
          let there = subst (λ (d : Disk). next_in Two types last gate (d (Manager c.args.slot)).seen ≡ Ok (Some (session, entry, behind))) (inv.asked told).disk step in
          let mid = asked_then _ _ _ (inv.asked told) (c.next_entry.ensures.asked told) in
          let h = inv.audited told p typed in
          let now : Standing = before p c.args.slot image file last gate types c.loop-store.store h in
          let to = subst (λ (d : Disk). AllReplayTo now (entries_logged Two c.args.slot now.program (seen_in d) (entries_said entry)) c.replay_said.new.store found) mid.disk
          (c.in_ok-found.ensures.replays told now (before_types p c.args.slot image file last gate types c.loop-store.store h) h.has) in
          subst (λ (t : ProgramTree). HasAudited p c.args.slot image file session behind t c.replay_said.new.store) (sym c.in_ok-found.ensures.behind)
          (audit_next p c.args.slot image file last gate types c.loop-store.store h session entry behind there c.replay_said.new.store found none to);
      asked = λ told. asked_then _ _ _ (asked_then _ _ _ (inv.asked told) (c.next_entry.ensures.asked told)) (c.replay_said.ensures.asked told);
      calm = none_then _ _ _ (none_then _ _ _ inv.calm c.in_ok-session.ensures.calls.calm) c.in_ok-found.ensures.calls.calm;
      ready = λ at was. c.replay_said.ensures.calls.ready at (c.next_entry.ensures.calls.ready at (inv.ready at was));
    }

pub returns-clause-replays : goal.returns-clause-replays
returns-clause-replays g c told p typed log is =
    let inv = c.loop-store.invariant in
    let types = types_in_force c.loop-store.now in
    let last = c.loop-store.last in
    let gate = c.loop-store.gate_at in
    let image = seen_in (g.H.Host.world c.args.host.now).disk in
    let file = ((g.H.Host.world c.args.host.now).disk (Manager c.args.slot)).seen in
    let step : next_in Two types last gate ((g.H.Host.world c.loop-store.host).disk (Manager c.args.slot)).seen ≡ Ok None = search rules in
    let there = subst (λ (d : Disk). next_in Two types last gate (d (Manager c.args.slot)).seen ≡ Ok None) (inv.asked told).disk step in
    audit_done p c.args.slot image file last gate types _ (inv.audited told p typed) there log is

pub returns-clause-asked : goal.returns-clause-asked
returns-clause-asked g c told = asked_then _ _ _ (c.loop-store.invariant.asked told) (c.next_entry.ensures.asked told)

pub returns-clause-calls : goal.returns-clause-calls
returns-clause-calls g c =
    let inv = c.loop-store.invariant in
    record {
      ready = λ at was. c.next_entry.ensures.calls.ready at (inv.ready at was);
      calm = none_then _ _ _ inv.calm c.in_ok-session.ensures.calls.calm;
      fault = tt;
    }
