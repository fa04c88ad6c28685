-- The units at the front that are over and have given back all their locks.
use Rattle.std.proofs.Common.{◌≡◌, ℕ, ◌+◌, ◌<◌, ◌≤◌, zero, suc, List, [], ◌∷◌, ◌++◌, length, Bool, true, refl, sym, ap, ◌∙◌, subst, arith, Some}
use Rattle.std.specs.Prelude.{if◌then◌else◌, take, slice_get, slice_set}
use Rattle.std.specs.List.{AllByRecursion}
use Rattle.core_model.specs.declared.events.CoreEvent.{CoreEvent}
use Rattle.core_access.specs.Sights.{Sight, run_seen}
use Rattle.script_tree.specs.Programs.{ProgramTree}
use Rattle.txn_agent.specs.declared.agent.Agent.{Agent}
use Rattle.txn_agent.specs.CoreLink.{Knows}
use Rattle.txn_agent.specs.AgentStep.{has_freed_all}
use Rattle.unit_carrier.specs.CarriedUnits.{AreFreed, HasCoreAlone, moving, units_carried}
use Rattle.unit_carrier.proofs.HeardChildren.{freed-rests}

-- the first of a list, with another element behind them
take-set : {A : Type 0} (n : ℕ) (xs : List A) (i : ℕ) (y : A) → n ≤ i → take n (slice_set xs i y) ≡ take n xs
take-set zero xs i y le = refl
take-set (suc n) [] i y le = refl
take-set (suc n) (x ∷ xs) zero y le = absurd (omega (arith, le))
take-set {A} (suc n) (x ∷ xs) (suc i) y le = ap (λ (ys : List A). x ∷ ys) (take-set n xs i y (omega (arith, le)))

-- and with more behind all of them
take-set-more : {A : Type 0} (n : ℕ) (xs : List A) (i : ℕ) (y : A) (ys : List A) → n ≤ i → i < length xs → take n (slice_set xs i y ++ ys) ≡ take n xs
take-set-more zero xs i y ys le within = refl
take-set-more (suc n) [] i y ys le within = absurd (omega (arith, within))
take-set-more (suc n) (x ∷ xs) zero y ys le within = absurd (omega (arith, le))
take-set-more {A} (suc n) (x ∷ xs) (suc i) y ys le within = ap (λ (zs : List A). x ∷ zs) (take-set-more n xs i y ys (omega (arith, le)) (omega (arith, within)))

-- those at the front stay so where an agent behind them is another
pub freed-set : (agents : List Agent) (n i : ℕ) (a : Agent) → n ≤ i → AreFreed n agents → AreFreed n (slice_set agents i a)
freed-set agents n i a le freed = subst (λ (xs : List Agent). AllByRecursion (λ (x : Agent). has_freed_all x.doing ≡ true) xs) (sym (take-set n agents i a le)) freed

-- and where one more is carried
pub freed-set-more : (agents after : List Agent) (n i : ℕ) (a child : Agent) → after ≡ slice_set agents i a ++ child ∷ [] → n ≤ i → i < length agents → AreFreed n agents → AreFreed n after
freed-set-more agents after n i a child e le within freed =
    subst (λ (xs : List Agent). AllByRecursion (λ (x : Agent). has_freed_all x.doing ≡ true) xs)
    (sym (ap (λ (xs : List Agent). take n xs) e ∙ take-set-more n agents i a (child ∷ []) le within)) freed

-- one more of them, where the next is so too
next-freed : (agents : List Agent) (n : ℕ) (a : Agent) → slice_get agents n ≡ Some a → has_freed_all a.doing ≡ true → AreFreed n agents → AreFreed (suc n) agents
next-freed [] n a q f freed = absurd cc
next-freed (x ∷ agents) zero a q f freed = (subst (λ (y : Agent). has_freed_all y.doing ≡ true) (same a x (sym q)) f, tt)
  where
    same : (y z : Agent) → Some y ≡ Some z → y ≡ z
    same y z e = cc
next-freed (x ∷ agents) (suc n) a q f freed = (freed.0, next-freed agents n a q f freed.1)

pub one-more-freed : (agents : List Agent) (n : ℕ) (a : Agent) → slice_get agents n ≡ Some a → has_freed_all a.doing ≡ true → AreFreed n agents → AreFreed (n + 1) agents
one-more-freed agents n a q f freed = let e : suc n ≡ n + 1 = omega arith in subst (λ (m : ℕ). AreFreed m agents) e (next-freed agents n a q f freed)

-- none of them can move
pub freed-none : (types : ProgramTree) (may : CoreEvent → Bool) (s : Sight) (agents : List Agent) (n : ℕ) → HasCoreAlone may s → AllByRecursion (Knows types s) agents → AreFreed n agents
    → 0 ≡ length (moving types (run_seen s) (take n (units_carried agents)))
freed-none types may s agents zero h known freed = refl
freed-none types may s [] (suc n) h known freed = refl
freed-none types may s (a ∷ agents) (suc n) h known freed =
    freed-none types may s agents n h known.1 freed.1
    ∙ ap (λ (b : Bool). length (if b then a.carried.unit ∷ moving types (run_seen s) (take n (units_carried agents)) else moving types (run_seen s) (take n (units_carried agents))))
    (freed-rests types may s a h known.0 freed.0)
