-- How many syncs a run asked for, where nothing failed.
use Rattle.std.proofs.Common.{◌≡◌, ℕ, ◌+◌, List, sym, ap, subst, arith}
use Rattle.core_model.specs.declared.events.CoreEvent.{CoreEvent}
use Rattle.silo_spec.specs.OpenedDisks.{opening_syncs}
use Rattle.promise_spec.specs.Programs.{Program}
use Rattle.promise_spec.specs.Cores.{core_from}
use Rattle.promise_spec.specs.Causes.{NoneRose, syncs_of}
use Rattle.promise_spec.specs.Endings.{Done, InputTooLong, CountsSyncs}
use Rattle.promise_spec.specs.Courses.{Observed, Course, core_run, seen_at_entry}
use Rattle.promise_spec.specs.Entries.{standing_of}
use Rattle.promise_spec.specs.Promise.{Keeps}
use Rattle.promise_spec.proofs.OpenedRuns.{no_events}

module _ (p : Program) (r : Observed) (c : Course) where
  -- one that is done
  pub done_syncs : Keeps p r c → NoneRose r.faults_before r.faults_after → r.ending ≡ Done → r.new.syncs ≡ r.old.syncs + syncs_of (seen_at_entry r) (core_run p c)
  done_syncs keeps calm is = keeps.ended.syncs calm (subst CountsSyncs (sym is) tt)

  -- one whose input has a line that is too long
  pub long_syncs : (line : ℕ) → Keeps p r c → NoneRose r.faults_before r.faults_after → r.ending ≡ InputTooLong line → r.new.syncs ≡ r.old.syncs + syncs_of (seen_at_entry r) (core_run p c)
  long_syncs line keeps calm is = keeps.ended.syncs calm (subst CountsSyncs (sym is) tt)

  -- one in which no line may begin asked for the opening's alone
  pub unbegun_syncs : Keeps p r c → NoneRose r.faults_before r.faults_after → CountsSyncs r.ending → c.allowed ≡ 0 → r.new.syncs ≡ r.old.syncs + opening_syncs (seen_at_entry r)
  unbegun_syncs keeps calm counts none =
      let own : ℕ = opening_syncs (seen_at_entry r) in
      let few : syncs_of (seen_at_entry r) (core_run p c) ≡ own + 0 = ap (λ (events : List CoreEvent). syncs_of (seen_at_entry r) (core_from p.types (standing_of c.opening) events)) (no_events p r c keeps none) in
      let all : r.new.syncs ≡ r.old.syncs + syncs_of (seen_at_entry r) (core_run p c) = keeps.ended.syncs calm counts in
      omega (arith, few, all)
