use Rattle.std.proofs.Common.{◌≡◌, ◌≢◌, ◌-◌, ◌<◌, ◌≤◌, ◌^◌, inl, inr, ℕ, length, Err, rules, refl, sym, subst, arith}
use Rattle.host_trait.specs.declared.channels.FileId.{FileId}
use Rattle.host_trait.specs.declared.channels.FileId.TheVariants.{Manager}
use Rattle.host_trait.specs.World.{Image}
use Rattle.host_trait.proofs.Runs.{none_asked}
use Rattle.field_codec.specs.declared.formats.Format.TheVariants.{One}
use Rattle.log_reading.specs.declared.faults.FolderFault.{FolderFault}
use Rattle.log_reading.specs.Steps.{seen_in}
use Rattle.log_reading.proofs.Errors.{other_value}
use Rattle.silo_spec.specs.OpenedDisks.{opening_syncs}
use Rattle.promise_spec.specs.Endings.{Done, Memory, NotOld, HasFailedAs}
use Rattle.promise_spec.specs.Openings.{OtherFormat, reading_in}
use Rattle.promise_spec.specs.Migration.{Migrates}
use Rattle.promise_spec.proofs.Openings.{reads_is_live}
use Rattle.silo_opening.specs.declared.faults.OpenFault.{OpenFault}
use Rattle.silo_opening.specs.OpenedSilo.{in_folder, ending_of, IsOpenedIn, LeavesOpenedIn, IsOpenedInBounds}
use Rattle.silo_opening.proofs.OpeningCalls.{opens_same}
use Rattle.checkpoint.specs.declared.faults.MigrateFault.{MigrateFault}
use Rattle.checkpoint.specs.Steps.{LastsIfLong}
use Rattle.checkpoint.specs.Endings.{migrated_as}
use Rattle.checkpoint.proofs.Endings.{opened_lasts, open_failed, read_failed, calm_before, calm_then, never_bad_use, never_done, not_damaged, unopened, is_last, is_migrated}
use Rattle.checkpoint.proofs.Migrated.{may_copy, migrates_so}
use Rattle.checkpoint.proofs.MigratedSlots.{can_be_copied}
use Rattle.checkpoint.proofs.migration.migrate.Goals as goal

pub returns-in-Ok-None-clause-migrates : goal.returns-in-Ok-None-clause-migrates
returns-in-Ok-None-clause-migrates g c told manner lines =
    let w0 = g.H.Host.world c.args.host.now in
    let w1 = g.H.Host.world c.open_silo_in.new.host in
    let f0 = g.H.Host.faults c.args.host.now in
    let f1 = g.H.Host.faults c.open_silo_in.new.host in
    let other : reading_in One (seen_in w0.disk) ≡ OtherFormat = search rules in
    inl (unopened manner lines f0 f1 One NotOld w0 w1 (c.open_silo_in.ensures.only told) (refl, other) c.in-Ok-None.ensures.calls.calm)

pub returns-in-Err-clause-migrates : goal.returns-in-Err-clause-migrates
returns-in-Err-clause-migrates g c told manner lines =
    let w0 = g.H.Host.world c.args.host.now in
    let w1 = g.H.Host.world c.open_silo_in.new.host in
    let f0 = g.H.Host.faults c.args.host.now in
    let f1 = g.H.Host.faults c.open_silo_in.new.host in
    let e = c.in-Err.fault in
    inl (unopened manner lines f0 f1 One (ending_of e) w0 w1 (c.open_silo_in.ensures.only told) (c.in-Err.ensures.refused told) (open_failed f0 f1 e c.in-Err.ensures.calls.fault))

pub returns-then-opened-clause-migrates : goal.returns-then-opened-clause-migrates
returns-then-opened-clause-migrates g c told manner lines =
    let w0 = g.H.Host.world c.args.host.now in
    let w1 = g.H.Host.world c.open_silo_in.new.host in
    let f0 = g.H.Host.faults c.args.host.now in
    let f1 = g.H.Host.faults c.open_silo_in.new.host in
    let o = c.in-Ok-Some.opened in
    let opens = c.open_silo_in.ensures.only told in
    let left : LeavesOpenedIn One w0 w1 o = (rw c.in-Ok-Some.field-0-is at c.in-Ok-Some.ensures.opened) told in
    let bounds : IsOpenedInBounds o = rw c.in-Ok-Some.field-0-is at c.in-Ok-Some.ensures.bounds in
    let from = subst (λ (i : Image). IsOpenedIn One i o) (sym (opens_same (opening_syncs (seen_in w0.disk)) w0 w1 opens)) left.opened in
    inr (inl (is_last manner lines f0 f1 One o w0 w1 w1 from bounds.slot opens left.left (none_asked w1) c.if-opened.true c.in-Ok-Some.ensures.calls.calm))

pub returns-in-Err-old_silo-clause-migrates : goal.returns-in-Err-old_silo-clause-migrates
returns-in-Err-old_silo-clause-migrates g c told manner lines =
    let w0 = g.H.Host.world c.args.host.now in
    let w1 = g.H.Host.world c.open_silo_in.new.host in
    let f0 = g.H.Host.faults c.args.host.now in
    let f1 = g.H.Host.faults c.open_silo_in.new.host in
    inl (unopened manner lines f0 f1 One Memory w0 w1 (c.open_silo_in.ensures.only told) tt c.in-Ok-Some.ensures.calls.calm)

pub copy_silo-requires-clause-long : goal.copy_silo-requires-clause-long
copy_silo-requires-clause-long g c told =
    let w0 = g.H.Host.world c.args.host.now in
    let w1 = g.H.Host.world c.open_silo_in.new.host in
    let o = c.in-Ok-Some.opened in
    let opens = c.open_silo_in.ensures.only told in
    let left : LeavesOpenedIn One w0 w1 o = (rw c.in-Ok-Some.field-0-is at c.in-Ok-Some.ensures.opened) told in
    let from = subst (λ (i : Image). IsOpenedIn One i o) (sym (opens_same (opening_syncs (seen_in w0.disk)) w0 w1 opens)) left.opened in
    subst (λ (n : ℕ). 16 ≤ length (w1.disk (Manager n)).seen) (sym c.in-Ok.ensures.live) (reads_is_live One (seen_in w1.disk) o.slot from.log from.reads).silo.long

pub copy_silo-requires-clause-lasts : goal.copy_silo-requires-clause-lasts
copy_silo-requires-clause-lasts g c told =
    let w0 = g.H.Host.world c.args.host.now in
    let w1 = g.H.Host.world c.open_silo_in.new.host in
    let o = c.in-Ok-Some.opened in
    let left : LeavesOpenedIn One w0 w1 o = (rw c.in-Ok-Some.field-0-is at c.in-Ok-Some.ensures.opened) told in
    subst (λ (n : ℕ). LastsIfLong (w1.disk (Manager (1 - n)))) (sym c.in-Ok.ensures.live) (opened_lasts (1 - o.slot) w0.disk w1.disk (omega arith) left.left)

pub returns-in-Ok-copy_silo-clause-migrates : goal.returns-in-Ok-copy_silo-clause-migrates
returns-in-Ok-copy_silo-clause-migrates g c told manner lines =
    let w0 = g.H.Host.world c.args.host.now in
    let w1 = g.H.Host.world c.open_silo_in.new.host in
    let w2 = g.H.Host.world c.copy_silo.new.host in
    let f0 = g.H.Host.faults c.args.host.now in
    let f1 = g.H.Host.faults c.open_silo_in.new.host in
    let f2 = g.H.Host.faults c.copy_silo.new.host in
    let o = c.in-Ok-Some.opened in
    let silo = c.in-Ok.silo in
    let opens = c.open_silo_in.ensures.only told in
    let left : LeavesOpenedIn One w0 w1 o = (rw c.in-Ok-Some.field-0-is at c.in-Ok-Some.ensures.opened) told in
    let bounds : IsOpenedInBounds o = rw c.in-Ok-Some.field-0-is at c.in-Ok-Some.ensures.bounds in
    let from = subst (λ (i : Image). IsOpenedIn One i o) (sym (opens_same (opening_syncs (seen_in w0.disk)) w0 w1 opens)) left.opened in
    let other : o.generation ≢ 4294967295 = c.if-opened.false in
    let low : o.generation < 2 ^ 32 = search rules in
    let quietly = c.copy_silo.ensures.quietly told in
    inr (inr (is_migrated manner lines f0 f2 o w0 w1 w1 from bounds.slot opens left.left (none_asked w1) Done w2 other low quietly.unread quietly.quiet (inl refl) (calm_then f0 f1 f2 c.in-Ok-Some.ensures.calls.calm c.in-Ok-copy_silo.ensures.calls.calm)
    (λ whole.
    let stay = λ (file : FileId). g.met.H.Host.seen_may_stay c.args.host.now file told in
    let stay_too = λ (file : FileId). g.met.H.Host.seen_may_stay c.open_silo_in.new.host file told in
    let may = may_copy o silo c.in-Ok.ensures w0 w1 from bounds.slot opens left.left stay stay_too whole in
    migrates_so o silo c.in-Ok.ensures w0 w1 from bounds.slot opens left.left stay stay_too whole manner lines f0 f2 Done w2 (c.copy_silo.ensures.gone told from.log may)
    (λ ends. c.in-Ok-copy_silo.ensures.done told from.log may))))

pub returns-in-Err-copy_silo-clause-migrates : goal.returns-in-Err-copy_silo-clause-migrates
returns-in-Err-copy_silo-clause-migrates g c told manner lines =
    let w0 = g.H.Host.world c.args.host.now in
    let w1 = g.H.Host.world c.open_silo_in.new.host in
    let w2 = g.H.Host.world c.copy_silo.new.host in
    let f0 = g.H.Host.faults c.args.host.now in
    let f1 = g.H.Host.faults c.open_silo_in.new.host in
    let f2 = g.H.Host.faults c.copy_silo.new.host in
    let o = c.in-Ok-Some.opened in
    let silo = c.in-Ok.silo in
    let opens = c.open_silo_in.ensures.only told in
    let left : LeavesOpenedIn One w0 w1 o = (rw c.in-Ok-Some.field-0-is at c.in-Ok-Some.ensures.opened) told in
    let bounds : IsOpenedInBounds o = rw c.in-Ok-Some.field-0-is at c.in-Ok-Some.ensures.bounds in
    let from = subst (λ (i : Image). IsOpenedIn One i o) (sym (opens_same (opening_syncs (seen_in w0.disk)) w0 w1 opens)) left.opened in
    let other : o.generation ≢ 4294967295 = c.if-opened.false in
    let low : o.generation < 2 ^ 32 = search rules in
    let quietly = c.copy_silo.ensures.quietly told in
    let fault = c.in-Err-copy_silo.fault in
    subst (λ (e : OpenFault). Migrates (migrated_as {A = Unit {0}} manner lines w0 w2 f0 f2 (Err (MigrateFault.Open e)))) (sym c.folder_fault.ensures)
    (inr (inr (is_migrated manner lines f0 f2 o w0 w1 w1 from bounds.slot opens left.left (none_asked w1) (ending_of (in_folder fault)) w2 other low quietly.unread quietly.quiet
    (not_damaged {A = Unit {0}} fault (λ file place same. c.in-Err-copy_silo.ensures.damaged file place (other_value _ (FolderFault.Damaged file place) same) told (can_be_copied o silo c.in-Ok.ensures w1 from)))
    (calm_before (ending_of (in_folder fault)) f0 f1 f2 c.in-Ok-Some.ensures.calls.calm (read_failed f1 f2 fault c.in-Err-copy_silo.ensures.calls.fault))
    (λ whole.
    let stay = λ (file : FileId). g.met.H.Host.seen_may_stay c.args.host.now file told in
    let stay_too = λ (file : FileId). g.met.H.Host.seen_may_stay c.open_silo_in.new.host file told in
    let may = may_copy o silo c.in-Ok.ensures w0 w1 from bounds.slot opens left.left stay stay_too whole in
    migrates_so o silo c.in-Ok.ensures w0 w1 from bounds.slot opens left.left stay stay_too whole manner lines f0 f2 (ending_of (in_folder fault)) w2 (c.copy_silo.ensures.gone told from.log may)
    (λ ends. absurd (never_done fault ends))))))

pub returns-in-Ok-None-clause-calls : goal.returns-in-Ok-None-clause-calls
returns-in-Ok-None-clause-calls g c = record {
  exact = c.in-Ok-None.ensures.calls.calm;
  ready = c.open_silo_in.ensures.calls.ready;
}

pub returns-in-Err-clause-calls : goal.returns-in-Err-clause-calls
returns-in-Err-clause-calls g c =
    let f0 = g.H.Host.faults c.args.host.now in
    let f1 = g.H.Host.faults c.open_silo_in.new.host in
    record {
      exact = open_failed f0 f1 c.in-Err.fault c.in-Err.ensures.calls.fault;
      ready = c.open_silo_in.ensures.calls.ready;
    }

pub returns-in-Err-clause-good : goal.returns-in-Err-clause-good
returns-in-Err-clause-good g c = never_bad_use c.in-Err.fault

pub returns-then-opened-clause-calls : goal.returns-then-opened-clause-calls
returns-then-opened-clause-calls g c = record {
  exact = c.in-Ok-Some.ensures.calls.calm;
  ready = c.open_silo_in.ensures.calls.ready;
}

pub returns-in-Err-old_silo-clause-calls : goal.returns-in-Err-old_silo-clause-calls
returns-in-Err-old_silo-clause-calls g c = record {
  exact = c.in-Ok-Some.ensures.calls.calm;
  ready = c.open_silo_in.ensures.calls.ready;
}

pub returns-in-Ok-copy_silo-clause-calls : goal.returns-in-Ok-copy_silo-clause-calls
returns-in-Ok-copy_silo-clause-calls g c =
    let f0 = g.H.Host.faults c.args.host.now in
    let f1 = g.H.Host.faults c.open_silo_in.new.host in
    let f2 = g.H.Host.faults c.copy_silo.new.host in
    record {
      exact = calm_then f0 f1 f2 c.in-Ok-Some.ensures.calls.calm c.in-Ok-copy_silo.ensures.calls.calm;
      ready = λ file was. c.copy_silo.ensures.calls.ready file (c.open_silo_in.ensures.calls.ready file was);
    }

pub returns-in-Err-copy_silo-clause-calls : goal.returns-in-Err-copy_silo-clause-calls
returns-in-Err-copy_silo-clause-calls g c =
    let f0 = g.H.Host.faults c.args.host.now in
    let f1 = g.H.Host.faults c.open_silo_in.new.host in
    let f2 = g.H.Host.faults c.copy_silo.new.host in
    let fault = c.in-Err-copy_silo.fault in
    record {
      exact = subst (λ (e : OpenFault). HasFailedAs (ending_of e) f0 f2) (sym c.folder_fault.ensures) (calm_before (ending_of (in_folder fault)) f0 f1 f2 c.in-Ok-Some.ensures.calls.calm (read_failed f1 f2 fault c.in-Err-copy_silo.ensures.calls.fault));
      ready = λ file was. c.copy_silo.ensures.calls.ready file (c.open_silo_in.ensures.calls.ready file was);
    }

pub returns-in-Err-copy_silo-clause-good : goal.returns-in-Err-copy_silo-clause-good
returns-in-Err-copy_silo-clause-good g c = never_bad_use c.folder_fault.result
