-- Phases, what is written, values that are the same, and the dead.
use Rattle.std.proofs.Common.{◌≡◌, ℕ, List, [], ◌∷◌, Bool, true, false, ◌⊎◌, inl, inr, refl, sym, ap, ◌∙◌, eqb-true, Some}
use Rattle.std.specs.Prelude.{◌==◌, if◌then◌else◌}
use Rattle.std.specs.Cmp.{signed_Decides}
use Rattle.std.proofs.lemmas.Bool.{cases_Bool, and_parts}
use Rattle.base_types.specs.declared.calls.Value.TheVariants.{Int, Text}
use Rattle.base_types.specs.declared.calls.Outcome.TheVariants as outcome
use Rattle.base_types.specs.declared.calls.Origin.TheVariants.{Line, Child}
use Rattle.cell_model.proofs.Units.{same_unit-true, same_grain-true}
use Rattle.core_model.specs.Equality.{same_list, same_text, same_value, same_state, same_outcome, same_call, same_origin, same_read, same_reads}
use Rattle.core_model.specs.CoreState.{UnitNo, GrainId, Member, same_unit, same_grain, Value, Outcome, Call, Origin, Write}
use Rattle.core_model.specs.declared.phases.Phase.{Phase}
use Rattle.core_model.specs.declared.phases.Phase.TheVariants.{Unborn, Running, Finished, Refused, Ended}
use Rattle.core_model.specs.declared.phases.Verdict.{Verdict}
use Rattle.core_model.specs.declared.phases.Verdict.TheVariants.{Open, Chosen, Condemned, Committed, Aborted}
use Rattle.core_model.specs.declared.effects.Read.{Read}
use Rattle.core_model.specs.Tests.{is_running, is_over, is_bad, is_good, is_aborted, is_committed, is_final, state_written}
use Rattle.core_model.specs.DeadUnits.{Dead, itself, by_source}

pub is_running-true : (p : Phase) → is_running p ≡ true → p ≡ Running
is_running-true Unborn e = cc
is_running-true Running e = refl
is_running-true Finished e = cc
is_running-true Refused e = cc
is_running-true Ended e = cc

pub is_over-not : (p : Phase) → is_over p ≡ true → p ≡ Running → ⊥
is_over-not p e q = (let t : true ≡ false = sym e ∙ ap is_over q in cc)

pub is_aborted-true : (v : Verdict) → is_aborted v ≡ true → v ≡ Aborted
is_aborted-true Open e = cc
is_aborted-true Chosen e = cc
is_aborted-true Condemned e = cc
is_aborted-true Committed e = cc
is_aborted-true Aborted e = refl

pub is_committed-true : (v : Verdict) → is_committed v ≡ true → v ≡ Committed
is_committed-true Open a = cc
is_committed-true Chosen a = cc
is_committed-true Condemned a = cc
is_committed-true Committed a = refl
is_committed-true Aborted a = cc

pub is_final-cases : (v : Verdict) → is_final v ≡ true → (v ≡ Committed) ⊎ (v ≡ Aborted)
is_final-cases Open a = cc
is_final-cases Chosen a = cc
is_final-cases Condemned a = cc
is_final-cases Committed a = inl refl
is_final-cases Aborted a = inr refl

pub not_both : (v : Verdict) → is_good v ≡ true → is_bad v ≡ true → ⊥
not_both Open a b = cc
not_both Chosen a b = cc
not_both Condemned a b = cc
not_both Committed a b = cc
not_both Aborted a b = cc

pub good_from : (v : Verdict) → (v ≡ Open → ⊥) → is_bad v ≡ false → is_good v ≡ true
good_from Open n e = absurd (n refl)
good_from Chosen n e = refl
good_from Condemned n e = cc
good_from Committed n e = refl
good_from Aborted n e = cc

-- what is written in a grain is one of the writes
pub written-member : (g : GrainId) (v : List Value) (xs : List Write) → state_written g xs ≡ Some v → (x : Write) × Member x xs × (x.0 ≡ g)
written-member g v [] e = cc
written-member g v (x ∷ xs) e =
    elim (cases_Bool (same_grain x.0 g)) [
      | inl h ↦ (x, inl refl, same_grain-true _ _ h)
      | inr h ↦ (let t = written-member g v xs (ap (λ (b : Bool). if b then Some x.1 else state_written g xs) (sym h) ∙ e) in (t.0, inr t.1, t.2))
    ]

-- what is tested to be one, is one
pub same_list-true : {A : Type 0} (same : A → A → Bool) → ((x y : A) → same x y ≡ true → x ≡ y) → (xs ys : List A) → same_list same xs ys ≡ true → xs ≡ ys
same_list-true same one [] [] e = refl
same_list-true same one [] (y ∷ ys) e = cc
same_list-true same one (x ∷ xs) [] e = cc
same_list-true same one (x ∷ xs) (y ∷ ys) e =
    let p = and_parts (same x y) (same_list same xs ys) e in
    let head = one x y p.0 in let rest = same_list-true same one xs ys p.1 in
    λ i. head i ∷ rest i

pub same_text-true : (a b : List ℕ) → same_text a b ≡ true → a ≡ b
same_text-true a b e = same_list-true (λ x y. x == y) (λ x y h. eqb-true x y h) a b e

pub same_value-true : (a b : Value) → same_value a b ≡ true → a ≡ b
same_value-true (Int a) (Int b) e = (let q = (signed_Decides a b).0 e in λ i. Int (q i))
same_value-true (Text a) (Text b) e = ap Text (same_text-true a b e)
same_value-true (Int a) (Text b) e = cc
same_value-true (Text a) (Int b) e = cc

pub same_state-true : (a b : List Value) → same_state a b ≡ true → a ≡ b
same_state-true a b e = same_list-true same_value same_value-true a b e

pub same_outcome-true : (a b : Outcome) → same_outcome a b ≡ true → a ≡ b
same_outcome-true (outcome.Value a) (outcome.Value b) e = ap outcome.Value (same_value-true a b e)
same_outcome-true (outcome.Fault a) (outcome.Fault b) e = ap outcome.Fault (same_text-true a b e)
same_outcome-true outcome.Aborted outcome.Aborted e = refl
same_outcome-true (outcome.Value a) (outcome.Fault b) e = cc
same_outcome-true (outcome.Value a) outcome.Aborted e = cc
same_outcome-true (outcome.Fault a) (outcome.Value b) e = cc
same_outcome-true (outcome.Fault a) outcome.Aborted e = cc
same_outcome-true outcome.Aborted (outcome.Value b) e = cc
same_outcome-true outcome.Aborted (outcome.Fault b) e = cc

pub same_call-true : (a b : Call) → same_call a b ≡ true → a ≡ b
same_call-true a b e =
    let p = and_parts (same_grain a.grain b.grain) _ e in
    let q = and_parts (a.method == b.method) _ p.1 in
    let g = same_grain-true _ _ p.0 in let m = eqb-true _ _ q.0 in let s = same_state-true _ _ q.1 in
    λ i. record { grain = g i; method = m i; args = s i }

pub same_origin-true : (a b : Origin) → same_origin a b ≡ true → a ≡ b
same_origin-true (Line a) (Line b) e = ap Line (eqb-true a b e)
same_origin-true (Child p i d) (Child q j k) e =
    let t = and_parts (same_unit p q) _ e in
    let s = and_parts (i == j) _ t.1 in
    let x = same_unit-true _ _ t.0 in let y = eqb-true _ _ s.0 in let z = eqb-true _ _ s.1 in
    λ m. Child (x m) (y m) (z m)
same_origin-true (Line a) (Child q j k) e = cc
same_origin-true (Child p i d) (Line b) e = cc

pub same_read-true : (a b : Read) → same_read a b ≡ true → a ≡ b
same_read-true a b e =
    let p = and_parts (same_grain a.grain b.grain) _ e in
    let q = and_parts (same_state a.state b.state) _ p.1 in
    let g = same_grain-true _ _ p.0 in let s = same_state-true _ _ q.0 in let o = same_unit-true _ _ q.1 in
    λ i. record { grain = g i; state = s i; source = o i }

pub same_reads-true : (xs ys : List Read) → same_reads xs ys ≡ true → xs ≡ ys
same_reads-true xs ys e = same_list-true same_read same_read-true xs ys e

-- the dead stay dead
pub Dead-more : (v v' : UnitNo → Verdict) (r r' : UnitNo → List Read)
    → ((u : UnitNo) → is_bad (v u) ≡ true → is_bad (v' u) ≡ true)
    → ((u : UnitNo) (x : Read) → Member x (r u) → Member x (r' u))
    → (u : UnitNo) → Dead v r u → Dead v' r' u
Dead-more v v' r r' bad more u (itself e) = itself (bad u e)
Dead-more v v' r r' bad more u (by_source x m d) = by_source x (more u x m) (Dead-more v v' r r' bad more x.source d)

-- where a set is closed under sources and none of it is bad, none of it is dead
pub Dead-not : (v : UnitNo → Verdict) (r : UnitNo → List Read) (P : UnitNo → Type 0)
    → ((u : UnitNo) → P u → is_bad (v u) ≡ true → ⊥)
    → ((u : UnitNo) (x : Read) → P u → Member x (r u) → P x.source)
    → (u : UnitNo) → Dead v r u → P u → ⊥
Dead-not v r P fine closed u (itself e) h = fine u h e
Dead-not v r P fine closed u (by_source x m d) h = Dead-not v r P fine closed x.source d (closed u x h m)
