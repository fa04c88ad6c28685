use Rattle.std.proofs.Common.{◌≡◌, ℕ, Ok, sym, ◌∙◌, ap, subst}
use Rattle.host_trait.specs.declared.channels.Channel.{Channel}
use Rattle.host_trait.specs.Disk.{settled}
use Rattle.host_trait.specs.World.{Disk, Image}
use Rattle.host_trait.proofs.Counts.{none_then}
use Rattle.field_codec.specs.declared.formats.Format.TheVariants.{Two}
use Rattle.log_reading.specs.Blocks.{log_in_file}
use Rattle.host_trait.specs.declared.channels.FileId.TheVariants.{Manager}
use Rattle.log_reading.specs.Steps.{seen_in}
use Rattle.silo_spec.specs.Slots.{IsLive}
use Rattle.silo_opening.specs.Counts.{OpenFaulted}
use Rattle.silo_opening.specs.OpenedSilo.{ending_of, programs_of}
use Rattle.silo_opening.specs.declared.faults.OpenFault.{OpenFault}
use Rattle.silo_opening.proofs.OpeningCalls.{opens_same, opens_and_asked}
use Rattle.promise_spec.specs.Entries.{Log}
use Rattle.promise_spec.specs.Logs.{IsMagic}
use Rattle.promise_spec.specs.Openings.{log_of, opened_as}
use Rattle.promise_spec.specs.Refusals.{IsRefusedBy}
use Rattle.promise_spec.proofs.Openings.{reads_is_live}
use Rattle.promise_spec.proofs.Slots.{one_slot}
use Rattle.log_audit.specs.InForce.{types_in_force}
use Rattle.log_audit.specs.Replays.{IsFirstFailure}
use Rattle.log_audit.proofs.ReadEntries.{some_program, first_types}
use Rattle.log_audit.specs.RereadFaults.{IsRereadFault}
use Rattle.log_audit.proofs.RereadFaults.{open_faulted, never_last}
use Rattle.log_audit.proofs.RereadRefusals.{refused_again}
use Rattle.log_audit.proofs.audits.audit.Goals as goal

pub replay_log-requires-clause-shape : goal.replay_log-requires-clause-shape
replay_log-requires-clause-shape g c = c.in-Ok-first_of.ensures.shaped

pub first_of-requires : goal.first_of-requires
first_of-requires g c = record { some = some_program c.in-Ok.opened c.in-Ok.ensures.bounds.programs }

pub returns-in-Ok-replay_log-clause-audited : goal.returns-in-Ok-replay_log-clause-audited
returns-in-Ok-replay_log-clause-audited g c told =
    let old = g.H.Host.world c.args.host.now in
    let mid = g.H.Host.world c.open_silo.new.host in
    let opened = c.in-Ok.opened in
    let image = seen_in old.disk in
    let o = (c.in-Ok.ensures.opened told).opened in
    let same : seen_in mid.disk ≡ image = opens_same _ old mid (c.in-Ok.ensures.only told) in
    let typed = first_types o.first o.read.entries (programs_of opened) (types_in_force c.in-Ok-first_of.first) o.programs c.in-Ok-first_of.ensures.same in
    let read : log_in_file Two o.first ((mid.disk (Manager opened.slot)).seen) ≡ Ok o.read = (λ i. log_in_file Two o.first (same i (Manager opened.slot))) ∙ o.read_as in
    let bad = c.in-Ok-replay_log.first_bad in
    let first : IsFirstFailure (log_of Two opened.slot o.first image o.read).base (log_of Two opened.slot o.first image o.read).entries bad =
    subst (λ (im : Image). IsFirstFailure (log_of Two opened.slot o.first im o.read).base (log_of Two opened.slot o.first im o.read).entries bad) same (c.in-Ok-replay_log.ensures.replays told o.first typed o.read read) in
    record {
      live = opened.slot;
      log = o.log;
      reads = o.reads;
      count = o.count;
      first = subst (λ (l : Log). IsFirstFailure l.base l.entries bad) (sym o.log_is) first;
    }

pub returns-in-Ok-replay_log-clause-settled : goal.returns-in-Ok-replay_log-clause-settled
returns-in-Ok-replay_log-clause-settled g c told live is =
    let old = g.H.Host.world c.args.host.now in
    let new = g.H.Host.world c.replay_log.new.host in
    let opened = c.in-Ok.opened in
    let o = (c.in-Ok.ensures.opened told).opened in
    let read : IsLive IsMagic opened.slot (seen_in old.disk) = reads_is_live Two (seen_in old.disk) opened.slot o.log o.reads in
    let here : new.disk (Manager opened.slot) ≡ settled (old.disk (Manager opened.slot)).seen = ap (λ (d : Disk). d (Manager opened.slot)) (c.replay_log.ensures.asked told).disk ∙ (c.in-Ok.ensures.opened told).settled in
    subst (λ (slot : ℕ). new.disk (Manager slot) ≡ settled (old.disk (Manager slot)).seen) (one_slot opened.slot live (seen_in old.disk) read is) here

pub returns-in-Ok-replay_log-clause-calls : goal.returns-in-Ok-replay_log-clause-calls
returns-in-Ok-replay_log-clause-calls g c = record {
  ready = λ file was. c.replay_log.ensures.calls.ready file (c.open_silo.ensures.calls.ready file was);
  calm = none_then _ _ _ c.in-Ok.ensures.calls.calm c.in-Ok-replay_log.ensures.calls.calm;
  fault = tt;
}

pub returns-in-Ok-replay_log-clause-only : goal.returns-in-Ok-replay_log-clause-only
returns-in-Ok-replay_log-clause-only g c told = opens_and_asked _ _ _ _ (c.in-Ok.ensures.only told) (c.replay_log.ensures.asked told)

pub returns-clause-only : goal.returns-clause-only
returns-clause-only g c told = opens_and_asked _ _ _ _ (c.in-Ok.ensures.only told) (c.replay_log.ensures.asked told)

pub returns-clause-refused : goal.returns-clause-refused
returns-clause-refused g c told =
    let old = g.H.Host.world c.args.host.now in
    let mid = g.H.Host.world c.open_silo.new.host in
    let opened = c.in-Ok.opened in
    let image = seen_in old.disk in
    let o = (c.in-Ok.ensures.opened told).opened in
    let same : seen_in mid.disk ≡ image = opens_same _ old mid (c.in-Ok.ensures.only told) in
    let typed = first_types o.first o.read.entries (programs_of opened) (types_in_force c.in-Ok-first_of.first) o.programs c.in-Ok-first_of.ensures.same in
    let read : log_in_file Two o.first ((mid.disk (Manager opened.slot)).seen) ≡ Ok o.read = (λ i. log_in_file Two o.first (same i (Manager opened.slot))) ∙ o.read_as in
    let fault = c.in-Err-replay_log.fault in
    let again : IsRereadFault opened.slot o.first image o.read fault = subst (λ (im : Image). IsRereadFault opened.slot o.first im o.read fault) same (c.in-Err-replay_log.ensures.unread told o.first typed o.read read) in
    subst (λ (e : OpenFault). IsRefusedBy Two image (opened_as image) (ending_of e)) (sym c.not_read.ensures) (refused_again image opened o fault again)

pub returns-clause-calls : goal.returns-clause-calls
returns-clause-calls g c =
    let calm = c.in-Ok.ensures.calls.calm in
    let late : OpenFaulted c.not_read.result (g.H.Host.faults c.open_silo.new.host) (g.H.Host.faults c.replay_log.new.host) =
    subst (λ (e : OpenFault). OpenFaulted e (g.H.Host.faults c.open_silo.new.host) (g.H.Host.faults c.replay_log.new.host)) (sym c.not_read.ensures) (open_faulted _ _ c.in-Err-replay_log.fault c.in-Err-replay_log.ensures.calls.fault) in
    record {
      ready = λ file was. c.replay_log.ensures.calls.ready file (c.open_silo.ensures.calls.ready file was);
      calm = tt;
      fault = subst (λ (x : Channel → ℕ). OpenFaulted c.not_read.result x (g.H.Host.faults c.replay_log.new.host)) (λ i channel. calm channel i) late;
    }

pub returns-clause-not_last : goal.returns-clause-not_last
returns-clause-not_last g c = never_last c.not_read.result c.in-Err-replay_log.fault c.not_read.ensures
