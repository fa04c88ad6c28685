-- Whose move it is, by what is found among the units and of the settler.
use Rattle.std.proofs.Common.{◌≡◌, ℕ, zero, suc, ◌+◌, ◌-◌, ◌^◌, ◌<◌, ◌≤◌, ◌%◌, List, [], ◌∷◌, ◌++◌, length, Bool, true, false, refl, sym, ap, ◌∙◌, subst, arith, map, Option, Some, None}
use Rattle.std.specs.Prelude.{slice_get, is_some, if◌then◌else◌, min, filter}
use Rattle.std.proofs.Math.Nat.{mod-lt, mod-eq_of_lt}
use Rattle.std.proofs.lemmas.List.{length-append, length-map}
use Rattle.std.proofs.lemmas.Option.{slice_get_within}
use Rattle.core_model.specs.CoreState.{UnitNo}
use Rattle.core_model.specs.LockAnswers.{IsGoing}
use Rattle.core_model.specs.LegalRuns.{Run, ends}
use Rattle.core_model.specs.Settler.{has_step, settler_step}
use Rattle.script_tree.specs.Programs.{ProgramTree}
use Rattle.promise_spec.specs.TurnRule.{can_move, Mover, OfUnit, OfSettler, picked}
use Rattle.promise_spec.specs.UnitAnswers.{got_in}
use Rattle.turn_rules.specs.CarriedUnits.{movers_of}
use Rattle.core_access.specs.OneHolder.{own_sight}
use Rattle.core_access.specs.Sights.{run_seen}
use Rattle.core_access.proofs.OneHolder.{own-run}
use Rattle.txn_agent.specs.declared.agent.Agent.{Agent}
use Rattle.txn_agent.specs.declared.work.Carried.{Carried}
use Rattle.unit_carrier.specs.CarriedUnits.{moving, FindsMover, as_carried, units_carried}
use Rattle.unit_carrier.specs.declared.agents.Found.{Found}
use Rattle.unit_carrier.specs.declared.agents.Found.TheVariants.{At, Few}
use Rattle.unit_carrier.proofs.MoverSearch.{map-at}

at-front : {A : Type 0} (xs ys : List A) (i : ℕ) (x : A) → slice_get xs i ≡ Some x → slice_get (xs ++ ys) i ≡ Some x
at-front [] ys i x q = absurd cc
at-front (y ∷ xs) ys zero x q = q
at-front (y ∷ xs) ys (suc i) x q = at-front xs ys i x q

at-end : {A : Type 0} (xs : List A) (y : A) (i : ℕ) → i ≡ length xs → slice_get (xs ++ y ∷ []) i ≡ Some y
at-end [] y zero q = refl
at-end [] y (suc i) q = absurd (omega (arith, q))
at-end (x ∷ xs) y zero q = absurd (omega (arith, q))
at-end (x ∷ xs) y (suc i) q = at-end xs y i (omega (arith, q))

none-of : {A : Type 0} (xs : List A) → length xs ≡ 0 → xs ≡ []
none-of [] q = refl
none-of (x ∷ xs) q = absurd (omega (arith, q))

picked-as : (ms : List Mover) (pick : ℕ) (x : Mover) → slice_get ms (pick % length ms) ≡ Some x → picked ms pick ≡ Some x
picked-as [] pick x q = absurd cc
picked-as (m ∷ ms) pick x q = q

-- the settler, behind the units
abbrev tail_by : Bool → List Mover
tail_by b = if b then OfSettler ∷ [] else []

abbrev one_by : Bool → ℕ
one_by b = if b then 1 else 0

tail-length : (b : Bool) → length (tail_by b) ≡ one_by b
tail-length true = refl
tail-length false = refl

all-length : (us : List UnitNo) (b : Bool) → length (map OfUnit us ++ tail_by b) ≡ length us + one_by b
all-length us b = length-append (map OfUnit us) (tail_by b) ∙ ap (λ (n : ℕ). n + length (tail_by b)) (length-map us OfUnit) ∙ ap (λ (n : ℕ). length us + n) (tail-length b)

one-few : (b : Bool) → one_by b ≤ 1
one-few true = omega arith
one-few false = omega arith

-- a unit that is found at the pick among all movers
unit-picked : (us : List UnitNo) (b : Bool) (n pick : ℕ) (u : UnitNo) → n ≡ length us + one_by b → slice_get us (pick % n) ≡ Some u → picked (map OfUnit us ++ tail_by b) pick ≡ Some (OfUnit u)
unit-picked us b n pick u q found =
    picked-as (map OfUnit us ++ tail_by b) pick (OfUnit u)
    (subst (λ (k : ℕ). slice_get (map OfUnit us ++ tail_by b) (pick % k) ≡ Some (OfUnit u)) (q ∙ sym (all-length us b))
    (at-front (map OfUnit us) (tail_by b) (pick % n) (OfUnit u) (map-at OfUnit us (pick % n) u found)))

-- and one at the pick itself
unit-first : (us : List UnitNo) (b : Bool) (pick : ℕ) (u : UnitNo) → slice_get us pick ≡ Some u → picked (map OfUnit us ++ tail_by b) pick ≡ Some (OfUnit u)
unit-first us b pick u found =
    let within : pick < length us = slice_get_within us pick u found in
    let less : pick < length us + one_by b = omega (arith, within) in
    unit-picked us b (length us + one_by b) pick u refl (subst (λ (k : ℕ). slice_get us k ≡ Some u) (sym (mod-eq_of_lt less)) found)

-- where no unit is found, it is the settler
settler-picked : (us : List UnitNo) (b : Bool) (n pick : ℕ) → n ≡ length us + one_by b → (n ≡ 0 → ⊥) → length us ≤ pick % n → picked (map OfUnit us ++ tail_by b) pick ≡ Some OfSettler
settler-picked us true n pick q some few =
    let less : pick % n < n = mod-lt pick (positive n some) in
    picked-as (map OfUnit us ++ tail_by true) pick OfSettler
    (subst (λ (k : ℕ). slice_get (map OfUnit us ++ tail_by true) (pick % k) ≡ Some OfSettler) (q ∙ sym (all-length us true))
    (at-end (map OfUnit us) OfSettler (pick % n) (let same : pick % n ≡ length us = omega (arith, less, q, few) in same ∙ sym (length-map us OfUnit))))
  where
    positive : (k : ℕ) → (k ≡ 0 → ⊥) → zero < k
    positive zero nil = absurd (nil refl)
    positive (suc k) nil = omega arith
settler-picked us false n pick q some few =
    let less : pick % n < n = mod-lt pick (positive n some) in
    absurd (omega (arith, less, q, few))
  where
    positive : (k : ℕ) → (k ≡ 0 → ⊥) → zero < k
    positive zero nil = absurd (nil refl)
    positive (suc k) nil = omega arith

-- without any, nobody is
nobody-left : (us : List UnitNo) (b : Bool) → length us + one_by b ≡ 0 → map OfUnit us ++ tail_by b ≡ []
nobody-left us b q = none-of (map OfUnit us ++ tail_by b) (all-length us b ∙ q)

module _ (types : ProgramTree) (r : Run) (units : List UnitNo) (pick : ℕ) where
  abbrev us : List UnitNo
  us = moving types r units

  abbrev steps : Bool
  steps = has_step (settler_step (ends r))

  -- nothing is in doubt
  pub sure-movers : is_some (ends r).manager.doubt ≡ false → movers_of types r units ≡ map OfUnit us ++ tail_by steps
  sure-movers q = ap (λ (b : Bool). (if b then [] else map OfUnit us) ++ tail_by steps) q

  pub going : is_some (ends r).manager.doubt ≡ false → (ends r).units.halt ≡ false → IsGoing (ends r)
  going q h = (none (ends r).manager.doubt q, h)
    where
      none : (d : Option ℕ) → is_some d ≡ false → d ≡ None
      none None t = refl
      none (Some x) t = absurd cc

  pub found-first : is_some (ends r).manager.doubt ≡ false → (index : ℕ) → FindsMover types r units pick (At index)
      → (u : UnitNo) × (slice_get units index ≡ Some u) × (picked (movers_of types r units) pick ≡ Some (OfUnit u))
  found-first q index f = (f.0, f.1, subst (λ (ms : List Mover). picked ms pick ≡ Some (OfUnit f.0)) (sym (sure-movers q)) (unit-first us steps pick f.0 f.2))

  pub found-next : is_some (ends r).manager.doubt ≡ false → (n index : ℕ) → n ≡ length us + one_by steps → FindsMover types r units (pick % n) (At index)
      → (u : UnitNo) × (slice_get units index ≡ Some u) × (picked (movers_of types r units) pick ≡ Some (OfUnit u))
  found-next q n index is f = (f.0, f.1, subst (λ (ms : List Mover). picked ms pick ≡ Some (OfUnit f.0)) (sym (sure-movers q)) (unit-picked us steps n pick f.0 is f.2))

  pub found-few : is_some (ends r).manager.doubt ≡ false → (n count : ℕ) → n ≡ length us + one_by steps → (n ≡ 0 → ⊥) → FindsMover types r units (pick % n) (Few count)
      → picked (movers_of types r units) pick ≡ Some OfSettler
  found-few q n count is some f =
      subst (λ (ms : List Mover). picked ms pick ≡ Some OfSettler) (sym (sure-movers q))
      (settler-picked us steps n pick is some (subst (λ (k : ℕ). k ≤ pick % n) f.0 f.1))

  pub found-nobody : is_some (ends r).manager.doubt ≡ false → (n : ℕ) → n ≡ length us + one_by steps → n ≡ 0 → movers_of types r units ≡ []
  found-nobody q n is none = sure-movers q ∙ nobody-left us steps (sym is ∙ none)

-- what a find told of the run and of the units, after looks
pub seen-mover : (types : ProgramTree) (r r2 : Run) (before after : List Agent) (place : ℕ) (found : Found) → r2 ≡ r → as_carried after ≡ as_carried before → IsGoing (ends r)
    → (IsGoing (ends (run_seen (own_sight r2))) → FindsMover types (run_seen (own_sight r2)) (units_carried after) place found)
    → FindsMover types r (units_carried before) place found
seen-mover types r r2 before after place found run same g tells =
    let is : run_seen (own_sight r2) ≡ r = own-run r2 ∙ run in
    let at : FindsMover types (run_seen (own_sight r2)) (units_carried after) place found = tells (subst (λ (x : Run). IsGoing (ends x)) (sym is) g) in
    subst (λ (us : List UnitNo). FindsMover types r us place found) (units-same after before same)
    (subst (λ (x : Run). FindsMover types x (units_carried after) place found) is at)
  where
    units-as : (agents : List Agent) → map (λ (c : Carried). c.unit) (as_carried agents) ≡ units_carried agents
    units-as [] = refl
    units-as (a ∷ agents) = ap (λ (l : List UnitNo). a.carried.unit ∷ l) (units-as agents)

    units-same : (xs ys : List Agent) → as_carried xs ≡ as_carried ys → units_carried xs ≡ units_carried ys
    units-same xs ys e = sym (units-as xs) ∙ ap (map (λ (c : Carried). c.unit)) e ∙ units-as ys

-- a call that leaves what is seen leaves the run
pub own-back : (r r2 : Run) → own_sight r2 ≡ own_sight r → r2 ≡ r
own-back r r2 q = sym (own-run r2) ∙ ap run_seen q ∙ own-run r

-- the sum, where it has room
pub sum-fits : (a b count : ℕ) (top : Bool) → count ≡ a → b ≡ one_by top → a < 2 ^ 64 - 1 → min (count + b) (2 ^ 64 - 1) ≡ a + one_by top
sum-fits a b count top q t room = least (count + b) (let few = one-few top in omega (arith, q, t, room, few)) ∙ (let same : count + b ≡ a + one_by top = omega (q, t, arith) in same)
  where
    least : (n : ℕ) → n ≤ 2 ^ 64 - 1 → min n (2 ^ 64 - 1) ≡ n
    least n le = search (arith, le)

-- those that pass are no more than all
pub fewer : {A : Type 0} (p : A → Bool) (xs : List A) → length (filter p xs) ≤ length xs
fewer p [] = omega arith
fewer p (x ∷ xs) = by (p x) (fewer p xs)
  where
    by : (b : Bool) → length (filter p xs) ≤ length xs → length (if b then x ∷ filter p xs else filter p xs) ≤ suc (length xs)
    by true le = omega (arith, le)
    by false le = omega (arith, le)

-- and so are the movers
pub few-movers : (types : ProgramTree) (r : Run) (agents : List Agent) → length agents < 2 ^ 64 - 1 → length (moving types r (units_carried agents)) < 2 ^ 64 - 1
few-movers types r agents few =
    let le = fewer (can_move types (ends r) (got_in r)) (units_carried agents) in
    let same : length (units_carried agents) ≡ length agents = length-map agents (λ (a : Agent). a.carried.unit) in
    omega (arith, few, le, same)

-- how many movers there are, by what was counted
pub sum-is : (types : ProgramTree) (r r2 : Run) (before after : List Agent) (place count n movers : ℕ) → r2 ≡ r → length before < 2 ^ 64 - 1 → IsGoing (ends r)
    → (IsGoing (ends (run_seen (own_sight r))) → FindsMover types (run_seen (own_sight r)) (units_carried before) place (Few count))
    → n ≡ (if has_step (settler_step (ends r2)) then 1 else 0) → movers ≡ min (count + n) 18446744073709551615
    → movers ≡ length (moving types r (units_carried before)) + (if has_step (settler_step (ends r)) then 1 else 0)
sum-is types r r2 before after place count n movers run small g found is sum =
    sum ∙ sum-fits (length (moving types r (units_carried before))) n count (has_step (settler_step (ends r)))
    (seen-mover types r r before before place (Few count) refl refl g found).0
    (is ∙ ap (λ (x : Run). number (has_step (settler_step (ends x)))) run)
    (few-movers types r before small)
  where
    number : Bool → ℕ
    number b = if b then 1 else 0

-- ---- within

-- where the same is carried, there are as many
same-length : (xs ys : List Agent) → as_carried xs ≡ as_carried ys → length xs ≡ length ys
same-length xs ys e = sym (length-map xs carried) ∙ ap (λ (cs : List Carried). length cs) e ∙ length-map ys carried
  where
    carried : Agent → Carried
    carried a = a.carried

-- a place among as many is within them
pub within-new : (now before : List Agent) (index : ℕ) → as_carried now ≡ as_carried before → index < length before → index < length now
within-new now before index same lt = subst (λ (n : ℕ). index < n) (sym (same-length now before same)) lt
