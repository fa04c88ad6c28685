-- The numbers of a run's units.
use Rattle.std.proofs.Common.{◌≡◌, ℕ, zero, suc, ◌+◌, ◌≤◌, ◌<◌, Option, Some, None, List, [], ◌∷◌, ◌++◌, Bool, true, false, inl, inr, refl, sym, ap, ◌∙◌, subst, arith}
use Rattle.std.specs.Prelude.{filter}
use Rattle.std.proofs.lemmas.Bool.{cond-true, cond_both, and_parts, cases_lt}
use Rattle.cell_model.proofs.Units.{Member-append, filter-member}
use Rattle.cell_model.specs.Units.{UnitsAscend}
use Rattle.core_model.specs.CoreState.{UnitNo, Call, Origin, Member, CoreState}
use Rattle.core_model.specs.declared.events.CoreEvent.{CoreEvent}
use Rattle.core_model.specs.declared.events.CoreEvent.TheVariants.{Begin}
use Rattle.core_model.specs.Changes.{swept, swept_by}
use Rattle.core_laws.proofs.EventCases.{Change, bad, begin, lock, raise, refuse, finish, end_plain, end_snapshot, release, take_batch, vote, decide_some, decide_none, seal_batch, spoil_batch, doubt_batch, learn, emit, halt_run, want, load, decode}
use Rattle.core_model.specs.Events.{applies, can, does, is_allowed, step}
use Rattle.promise_spec.specs.TurnRule.{units_from}
use Rattle.turn_rules.specs.NextEvent.{is_begin}

-- ---- the units of a run

-- with one more, it comes last
pub units-last : (n b : ℕ) → units_from (suc n) b ≡ units_from n b ++ (record { 0 = b + n } ∷ [])
units-last zero b = (let e : b ≡ b + 0 = omega arith in ap (λ (z : ℕ). (record { 0 = z }) ∷ []) e)
units-last (suc n) b =
    let e : (b + 1) + n ≡ b + suc n = omega arith in
    ap (λ (l : List UnitNo). record { 0 = b } ∷ l) (units-last n (b + 1) ∙ ap (λ (z : ℕ). units_from n (b + 1) ++ (record { 0 = z } ∷ [])) e)

-- they are below the end
pub units-below : (n b : ℕ) (u : UnitNo) → Member u (units_from n b) → u.0 < b + n
units-below zero b u m = absurd m
units-below (suc n) b u (inl q) = (let e : u.0 ≡ b = ap (λ (x : UnitNo). x.0) q in omega (arith, e))
units-below (suc n) b u (inr m) = (let less = units-below n (b + 1) u m in omega (arith, less))

-- numbers go up where a unit begins alone
next-change : (w : CoreState) (e : CoreEvent) (w' : CoreState) → Change w e w' → is_begin e ≡ false → w'.units.next ≡ w.units.next
next-change w e w' (bad line why q) o = refl
next-change w e w' (begin origin call plain c) o = (let t : true ≡ false = o in cc)
next-change w e w' (lock v g mode running free first here) o = refl
next-change w e w' (raise v g mode running free held here uncovered) o = refl
next-change w e w' (refuse v g mode why running q) o = refl
next-change w e w' (finish v effect running plain of_call reads alone) o = refl
next-change w e w' (end_plain v effect running plain of_call bare) o = refl
next-change w e w' (end_snapshot v at outcome running plain kids answer) o = refl
next-change w e w' (release v g over held) o = refl
next-change w e w' (take_batch n some) o = refl
next-change w e w' (vote n g kept b q number un planned fresh) o = refl
next-change w e w' (decide_some n b q number un voted some) o = refl
next-change w e w' (decide_none n b q number un voted not_one) o = refl
next-change w e w' (seal_batch n b ds q number un) o = refl
next-change w e w' (spoil_batch n b ds q number un) o = refl
next-change w e w' (doubt_batch n b ds q number un) o = refl
next-change w e w' (learn v g wrote final fresh) o = refl
next-change w e w' (emit q) o = refl
next-change w e w' (halt_run q) o = refl
next-change w e w' (want v g running free fresh) o = refl
next-change w e w' (load g v state gone wanted) o = refl

-- grains that leave memory leave the next number
next-swept : (w : CoreState) → (swept w).units.next ≡ w.units.next
next-swept w = go w.cells.capacity
  where
    go : (c : Option ℕ) → (swept_by w c).units.next ≡ w.units.next
    go None = refl
    go (Some m) = refl

-- by an event by which no unit begins
pub next-stays : (w : CoreState) (e : CoreEvent) → is_begin e ≡ false → (step w e).units.next ≡ w.units.next
next-stays w e o = cond_both (applies w e) (swept (does w e)) w (λ (x : CoreState). x.units.next ≡ w.units.next)
    (λ a. next-swept (does w e) ∙ next-change w e (does w e) (decode w e (and_parts (is_allowed w e) (can w e) a).1) o)
    (λ a. refl)

-- a unit that begins takes the next
pub next-begun : (w : CoreState) (origin : Origin) (call : Call) (plain : Bool) → applies w (Begin origin call plain) ≡ true → (step w (Begin origin call plain)).units.next ≡ w.units.next + 1
next-begun w origin call plain a =
    ap (λ (x : CoreState). x.units.next) (cond-true (applies w (Begin origin call plain)) (swept (does w (Begin origin call plain))) w a) ∙ next-swept (does w (Begin origin call plain))

-- each number within is one of them
pub units-member : (n b : ℕ) (u : UnitNo) → b ≤ u.0 → u.0 < b + n → Member u (units_from n b)
units-member zero b u low high = absurd (omega (arith, low, high))
units-member (suc n) b u low high = elim (cases_lt b u.0) [
  | inl less ↦ inr (units-member n (b + 1) u (omega (arith, less)) (omega (arith, high)))
  | inr le ↦ (let e : u.0 ≡ b = omega (arith, low, le) in inl (ap (λ (z : ℕ). record { 0 = z }) e))
]

-- and each of them is within
pub units-within : (n b : ℕ) (u : UnitNo) → Member u (units_from n b) → (b ≤ u.0) × (u.0 < b + n)
units-within zero b u m = absurd m
units-within (suc n) b u (inl q) = (let e : u.0 ≡ b = ap (λ (x : UnitNo). x.0) q in (omega (arith, e), omega (arith, e)))
units-within (suc n) b u (inr m) = (let t = units-within n (b + 1) u m in (omega (arith, t.0), omega (arith, t.1)))

-- ---- in number order

-- one that is younger than all comes last
pub older-last : (us : List UnitNo) (u : UnitNo) → ((v : UnitNo) → Member v us → v.0 < u.0) → UnitsAscend us → UnitsAscend (us ++ (u ∷ []))
older-last [] u below o = ((λ v m. absurd m), tt)
older-last (x ∷ us) u below o = (
  (λ v m. elim (Member-append v us (u ∷ []) m) [
    | inl old ↦ o.0 v old
    | inr new ↦ elim new [ inl q ↦ subst (λ (z : UnitNo). x.0 < z.0) (sym q) (below x (inl refl)) | inr none ↦ absurd none ]
  ]),
  older-last us u (λ v m. below v (inr m)) o.1,
)

-- those that stay are in order
pub older-filter : (p : UnitNo → Bool) (us : List UnitNo) → UnitsAscend us → UnitsAscend (filter p us)
older-filter p [] o = tt
older-filter p (u ∷ us) o = cond_both (p u) (u ∷ filter p us) (filter p us) UnitsAscend
    (λ e. ((λ v m. o.0 v (filter-member p us v m).0), older-filter p us o.1))
    (λ e. older-filter p us o.1)
