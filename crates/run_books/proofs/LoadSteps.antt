-- What a step that brings a grain into memory says of the core: the grain is the lowest wanted that isn't there, and nothing is in doubt.
-- So it can be brought.
use Rattle.std.proofs.Common.{◌≡◌, ℕ, List, [], ◌∷◌, length, filter, map, Bool, true, false, true≢false, not, ◌&&◌, ◌||◌, inl, inr, refl, sym, ap, ◌∙◌, arith, Option, Some, None, is_some, is_none, nat_lt}
use Rattle.std.specs.Prelude.{if◌then◌else◌}
use Rattle.std.proofs.lemmas.Bool.{and_from}
use Rattle.cell_model.proofs.Units.{any-member, filter-member, same_grain-is}
use Rattle.core_model.specs.CoreState.{UnitNo, GrainId, Value, Member, same_grain, Batch, CoreState}
use Rattle.core_model.specs.declared.events.CoreEvent.{CoreEvent}
use Rattle.core_model.specs.declared.events.CoreEvent.TheVariants.{Load, Take}
use Rattle.core_model.specs.Events.{applies, run}
use Rattle.core_model.specs.LearnQueue.{next_learn}
use Rattle.core_model.specs.LegalRuns.{Run, begins, ends}
use Rattle.core_model.specs.Settler.{Seals, Writes, Loads, Takes, Rests, first_unvoted, undecided_step, batch_step, learn_step, load_step, last_step, settler_step}
use Rattle.core_model.specs.Tests.{is_wanted}
use Rattle.core_model.specs.WantedGrains.{next_wanted}
use Rattle.core_laws.proofs.Failures.{first_grain-some}
use Rattle.promise_spec.specs.Explanation.{IsUnloaded}
use Rattle.run_books.proofs.BooksWritten.{take-whole}

module _ (w : CoreState) (g : GrainId) where
  -- the grain is the first of those that are wanted and not in memory, and nothing is in doubt
  abbrev pub IsAsked : Type 0
  IsAsked = (next_wanted w ≡ Some g) × (w.manager.doubt ≡ None)

  taken : (takes : Bool) → (if takes then Takes else Rests) ≡ Loads g → ⊥
  taken true z = absurd cc
  taken false z = absurd cc

  last-asks : (unwritten may : Bool) (o : Option GrainId) → (if unwritten then Writes else (if may then load_step w o else Rests)) ≡ Loads g → (o ≡ Some g) × (may ≡ true)
  last-asks true may o q = absurd cc
  last-asks false false o q = absurd cc
  last-asks false true None q = absurd (taken (applies w Take) q)
  last-asks false true (Some k) q = (let same : k ≡ g = cc in (ap Some same, refl))

  later-asks : (doubt : Option ℕ) → w.manager.doubt ≡ doubt → (next : Option (UnitNo × GrainId)) → (if is_some doubt then last_step w false else learn_step w next) ≡ Loads g → IsAsked
  later-asks (Some begins) is next q = absurd (let t = last-asks (nat_lt w.manager.emitted (length w.manager.settled)) (false && not w.units.halt) (next_wanted w) q in true≢false (sym t.1))
  later-asks None is None q = (let t = last-asks (nat_lt w.manager.emitted (length w.manager.settled)) (true && not w.units.halt) (next_wanted w) q in (t.0, is))
  later-asks None is (Some x) q = absurd cc

  batch-asks : (b : Option Batch) → batch_step w b ≡ Loads g → IsAsked
  batch-asks None q = later-asks w.manager.doubt refl (next_learn w) q
  batch-asks (Some b) q = absurd (by (is_some b.decisions) (first_unvoted b) q)
    where
      by : (decided : Bool) (o : Option GrainId) → (if decided then Seals b.number else undecided_step b.number o) ≡ Loads g → ⊥
      by true o z = absurd cc
      by false None z = absurd cc
      by false (Some k) z = absurd cc

  -- so it is where the settler's step is to bring it
  pub step-asks : settler_step w ≡ Loads g → IsAsked
  step-asks q = batch-asks w.manager.batch q

-- at the run's last state the grain is wanted and not in memory
pub unloaded-now : (r : Run) (g : GrainId) → next_wanted (ends r) ≡ Some g → IsUnloaded r g
unloaded-now r g wanted = (length r.events, omega arith, ap (λ (es : List CoreEvent). next_wanted (run (begins r) es)) (take-whole r.events) ∙ wanted)

-- ---- a wanted grain can be brought

-- what a list is made of by a function is made of one of it
made-of : {A B : Type 0} (f : A → B) (xs : List A) (y : B) → Member y (map f xs) → (x : A) × Member x xs × (f x ≡ y)
made-of f [] y m = absurd m
made-of f (x ∷ xs) y (inl q) = (x, inl refl, sym q)
made-of f (x ∷ xs) y (inr m) = (let t = made-of f xs y m in (t.0, inr t.1, t.2))

-- the first of the wanted grains that isn't in memory is brought by any load of it, where nothing is in doubt and no stop stands
pub load-applies : (w : CoreState) (g : GrainId) (u : UnitNo) (state : List Value) → IsAsked w g → w.units.halt ≡ false → applies w (Load g u state) ≡ true
load-applies w g u state asks going =
    let first = (first_grain-some (filter (λ k. not (w.cells.here k)) (map (λ (t : UnitNo × GrainId). t.1) w.units.wants)) g asks.0).0 in
    let away = filter-member (λ k. not (w.cells.here k)) (map (λ (t : UnitNo × GrainId). t.1) w.units.wants) g first in
    let wish = made-of (λ (t : UnitNo × GrainId). t.1) w.units.wants g away.0 in
    let wanted : is_wanted w.units.wants g ≡ true = any-member (λ (t : UnitNo × GrainId). same_grain t.1 g) w.units.wants wish.0 wish.1 (same_grain-is wish.0.1 g wish.2) in
    (λ i. ((is_none (asks.1 i) || false) && (not (going i) || false)) && (not (w.cells.here g) && is_wanted w.units.wants g)) ∙ and_from (not (w.cells.here g)) (is_wanted w.units.wants g) away.1 wanted
