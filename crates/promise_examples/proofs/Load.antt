-- What a load draws and prints, and loads that don't keep what is promised of them.
use Rattle.std.proofs.Common.{◌≡◌, ◌≢◌, ℕ, ◌+◌, List, [], ◌∷◌, ◌++◌, length, Some, refl, sym, ap, subst, ◌∙◌}
use Rattle.std.specs.Prelude.{codes, slice_get}
use Rattle.std.specs.Fmt.{digits}
use Rattle.serde_json.proofs.OnLiterals.{serde_json_on_literals}
use Rattle.core_model.specs.CoreState.{Member}
use Rattle.host_trait.specs.World.{Moment, Image, IsImage}
use Rattle.script_meaning.specs.WorkedExamples.{at, int, call}
use Rattle.promise_spec.specs.Programs.{Program}
use Rattle.promise_spec.specs.Logs.{IsLog}
use Rattle.promise_spec.specs.Causes.{RunHasDoubt, NoneRose, syncs_of}
use Rattle.promise_spec.specs.Endings as ending
use Rattle.promise_spec.specs.Courses.{Observed, Course, order, moments, lines, core_run, seen_at_entry}
use Rattle.promise_examples.specs.DepositRuns.{deposit_course}
use Rattle.promise_spec.specs.Loads.{load_calls, transfers_after, summary_text, KeepsLoad}

pub two_drawn : transfers_after 7 2 ≡ call (at 1 0) 0 (int 30 ∷ int 63 ∷ int 54 ∷ []) ∷ call (at 1 0) 0 (int 17 ∷ int 41 ∷ int 20 ∷ []) ∷ []
two_drawn = refl

pub many : length (load_calls 2 7) ≡ 66
many = refl

pub last_deposit : slice_get (load_calls 2 7) 63 ≡ Some (call (at 0 63) 0 (int 1000 ∷ []))
last_deposit = refl

module _ (p : Program) (n seed : ℕ) (r : Observed) (c : Course) where
  pub another_summary : KeepsLoad p n seed r c → r.ending ≡ ending.Done → r.new.output ≢ r.old.output ++ summary_text r c → ⊥
  another_summary keeps is differ = differ (keeps.output.output ∙ ap (λ (l : List ℕ). r.old.output ++ l) (keeps.output.whole is))

  pub told_early : KeepsLoad p n seed r c → r.ending ≡ ending.Memory → r.new.output ≢ r.old.output → ⊥
  told_early keeps is differ =
      differ (keeps.silent (λ done. let e : ending.Memory ≡ ending.Done = sym is ∙ done in absurd (cc e)) (λ fault. let e : ending.Memory ≡ ending.WriteFault = sym is ∙ fault in absurd (cc e)))

  pub done_in_doubt : KeepsLoad p n seed r c → RunHasDoubt (core_run p c) → r.ending ≡ ending.Done → ⊥
  done_in_doubt keeps doubt is = subst ending.EndingMayDoubt is (keeps.explained.doubt_ends doubt)

  pub fault_in_doubt : KeepsLoad p n seed r c → RunHasDoubt (core_run p c) → r.ending ≡ ending.WriteFault → ⊥
  fault_in_doubt keeps doubt is = keeps.ended.undoubted is doubt

  pub told_too_soon : (m : Moment) (image : Image) → KeepsLoad p n seed r c → Member m (moments r c) → IsImage m.disk image → (IsLog c.live image (order c) → ⊥) → m.output ≢ r.old.output → ⊥
  told_too_soon m image keeps there left lacks said = lacks (keeps.lasting m image there left said)

  pub other_syncs : KeepsLoad p n seed r c → NoneRose r.faults_before r.faults_after → r.ending ≡ ending.Done → r.new.syncs ≢ r.old.syncs + syncs_of (seen_at_entry r) (core_run p c) → ⊥
  other_syncs keeps calm is differ = differ (keeps.ended.syncs calm is)

pub summed : (r : Observed) (opened : Moment) (sealing : List Moment) → length (lines r) ≡ 1 → summary_text r (deposit_course opened sealing r) ≡ codes "{\"aborted\":0,\"committed\":1,\"faulted\":0,\"requests\":1,\"total\":5}\n"
unfolding serde_json_on_literals digits
summed r opened sealing one = rw one refl
