-- Which unit is found, as those that are carried are gone through.
use Rattle.std.proofs.Common.{◌≡◌, ℕ, ◌+◌, ◌<◌, ◌≤◌, suc, List, length, Bool, true, false, inl, inr, sym, ap, ◌∙◌, subst, arith, take, Some}
use Rattle.std.specs.Prelude.{if◌then◌else◌, slice_get}
use Rattle.std.proofs.lemmas.List.{length-map, take_all}
use Rattle.std.proofs.lemmas.Bool.{cases_lt}
use Rattle.core_model.specs.CoreState.{UnitNo}
use Rattle.core_model.specs.LockAnswers.{IsGoing}
use Rattle.core_access.specs.Sights.{Sight, run_seen}
use Rattle.core_model.specs.LegalRuns.{Run, ends}
use Rattle.script_tree.specs.Programs.{ProgramTree}
use Rattle.promise_spec.specs.UnitAnswers.{got_in}
use Rattle.promise_spec.specs.TurnRule.{can_move}
use Rattle.txn_agent.specs.declared.agent.Agent.{Agent}
use Rattle.unit_carrier.specs.declared.agents.Found.TheVariants.{At, Few}
use Rattle.unit_carrier.specs.CarriedUnits.{FindsMover, FindsWithin, moving, as_carried, units_carried}
use Rattle.unit_carrier.proofs.MoverSearch.{one-more, stands-at, map-at}
use Rattle.unit_carrier.proofs.Places.{units-same}

-- the unit at an index, by what was carried there first
pub unit-first : (first now : List Agent) (i : ℕ) (a : Agent) → as_carried now ≡ as_carried first → slice_get now i ≡ Some a → slice_get (units_carried first) i ≡ Some a.carried.unit
unit-first first now i a e q = subst (λ (us : List UnitNo). slice_get us i ≡ Some a.carried.unit) (units-same now first e) (map-at (λ (x : Agent). x.carried.unit) now i a q)

-- what a look tells of a unit, of the run from which all are gone through
pub told-first : (types : ProgramTree) (first s : Sight) (u : UnitNo) (b : Bool) → s ≡ first
    → (IsGoing (ends (run_seen s)) → b ≡ can_move types (ends (run_seen s)) (got_in (run_seen s)) u) → IsGoing (ends (run_seen first)) → b ≡ can_move types (ends (run_seen first)) (got_in (run_seen first)) u
told-first types first s u b same told =
    subst (λ (x : Sight). IsGoing (ends (run_seen x)) → b ≡ can_move types (ends (run_seen x)) (got_in (run_seen x)) u) same told

-- all were gone through
pub units-past : (agents : List Agent) (n i : ℕ) → n ≡ length agents → n ≤ i → length (units_carried agents) ≤ i
units-past agents n i q le = let l = length-map agents (λ (a : Agent). a.carried.unit) in omega (arith, l, q, le)

-- one at which it was looked is one of them
pub index-within : (agents : List Agent) (n i : ℕ) → n ≡ length agents → i < n → FindsWithin (At i) (length agents)
index-within agents n i q less = omega (arith, q, less)

-- so many and one more are no more than the place
pub one-fits : (movers place : ℕ) → movers ≤ place → (movers ≡ place → ⊥) → movers + 1 ≤ place
one-fits movers place le apart = elim (cases_lt movers place) [ inl less ↦ omega (arith, less) | inr ge ↦ absurd (apart (omega (arith, le, ge))) ]

module _ (types : ProgramTree) (r : Run) (units : List UnitNo) (i : ℕ) (u : UnitNo) (here : slice_get units i ≡ Some u) (movers : ℕ) (count : movers ≡ length (moving types r (take i units))) where
  -- where it moves, and as many as the place were before it, it is the one
  pub found-here : (place : ℕ) → true ≡ can_move types (ends r) (got_in r) u → movers ≡ place → FindsMover types r units place (At i)
  found-here place m e =
      (u, here, subst (λ (n : ℕ). slice_get (moving types r units) n ≡ Some u) (sym count ∙ e) (stands-at (can_move types (ends r) (got_in r)) units i u here (sym m)))

  -- the first of the next place
  next-take : length (moving types r (take (i + 1) units)) ≡ length (moving types r (take (suc i) units))
  next-take = let e : i + 1 ≡ suc i = omega arith in ap (λ (n : ℕ). length (moving types r (take n units))) e

  -- where it moves, there is one more
  pub one-moves : true ≡ can_move types (ends r) (got_in r) u → movers + 1 ≡ length (moving types r (take (i + 1) units))
  one-moves m =
      let more : length (moving types r (take (i + 1) units)) ≡ length (moving types r (take i units)) + 1 =
      next-take ∙ one-more (can_move types (ends r) (got_in r)) units i u here ∙ ap (λ (b : Bool). length (moving types r (take i units)) + (if b then 1 else 0)) (sym m) in
      omega (arith, more, count)

  -- where it doesn't, there are as many
  pub none-moves : false ≡ can_move types (ends r) (got_in r) u → movers ≡ length (moving types r (take (i + 1) units))
  none-moves m =
      let more : length (moving types r (take (i + 1) units)) ≡ length (moving types r (take i units)) + 0 =
      next-take ∙ one-more (can_move types (ends r) (got_in r)) units i u here ∙ ap (λ (b : Bool). length (moving types r (take i units)) + (if b then 1 else 0)) (sym m) in
      omega (arith, more, count)

-- behind all of them
pub all-counted : (types : ProgramTree) (r : Run) (units : List UnitNo) (i movers place : ℕ) → length units ≤ i → movers ≡ length (moving types r (take i units)) → movers ≤ place → FindsMover types r units place (Few movers)
all-counted types r units i movers place past count few =
    (count ∙ ap (λ (us : List UnitNo). length (moving types r us)) (take_all i units past), few)
