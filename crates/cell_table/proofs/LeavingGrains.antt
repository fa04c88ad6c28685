-- Which grains leave the table.
use Rattle.std.proofs.Common.{◌≡◌, ℕ, zero, suc, ◌+◌, ◌<◌, arith, length, drop, get_or, List, [], ◌∷◌, Bool, true, false, ◌&&◌, ◌||◌, not, refl, sym, ap, ◌∙◌, Option, Some, None, inl, inr, filter, map}
use Rattle.std.specs.Prelude.{if◌then◌else◌, is_some}
use Rattle.std.proofs.lemmas.Bool.{cases_Bool, cond-true, cond-false}
use Rattle.base_types.specs.Grains.{same_grain}
use Rattle.cell_model.specs.Cells.{Cell}
use Rattle.core_model.specs.Changes.{without_wants}
use Rattle.core_model.specs.CoreState.{UnitNo, GrainId, same_unit, put_grain}
use Rattle.core_model.specs.Tests.{any, is_wanted}
use Rattle.activations.specs.LastUsed.{LastUsed}
use Rattle.cell_memory.specs.KeptCells.{CellsKept}
use Rattle.cell_memory.specs.LeavingGrains.{leaves_as, evicted_by, wanted_of}
use Rattle.cell_table.specs.Table.{is_other_wait, leaves_where, limit_of, used_of}

-- who waits, without a unit's waits
pub others-want : (wants : List (UnitNo × GrainId)) (u : UnitNo) (g : GrainId) → any (is_other_wait u g) wants ≡ is_wanted (without_wants u wants) g
others-want [] u g = refl
others-want (t ∷ ts) u g = elim (cases_Bool (same_unit t.0 u)) [
  | inl e ↦ ap (λ b. (not b && same_grain t.1 g) || any (is_other_wait u g) ts) e ∙ others-want ts u g
      ∙ sym (ap (λ (xs : List (UnitNo × GrainId)). is_wanted xs g) (cond-false (not (same_unit t.0 u)) (t ∷ without_wants u ts) (without_wants u ts) (ap not e)))
  | inr e ↦ ap (λ b. (not b && same_grain t.1 g) || any (is_other_wait u g) ts) e ∙ ap (λ b. same_grain t.1 g || b) (others-want ts u g)
      ∙ sym (ap (λ (xs : List (UnitNo × GrainId)). is_wanted xs g) (cond-true (not (same_unit t.0 u)) (t ∷ without_wants u ts) (without_wants u ts) (ap not e)))
]

-- the test of one grain
where-is : (wants : List (UnitNo × GrainId)) (used : LastUsed) (g : GrainId) (o : Option Cell) → leaves_where (Some used) (is_wanted wants g) g o ≡ leaves_as wants used.grains g o
where-is wants used g None = refl
where-is wants used g (Some x) = refl

-- what is left without one grain, where it leaves
pub one-leaves : (recent : Option LastUsed) (wants : List (UnitNo × GrainId)) (wanted : Bool) (g : GrainId) (cell : CellsKept) → wanted ≡ is_wanted wants g →
    (if leaves_where recent wanted g (cell g) then put_grain cell g None else cell) ≡ evicted_by (limit_of recent) wants (used_of recent) (g ∷ []) cell
one-leaves None wants wanted g cell e = refl
one-leaves (Some used) wants wanted g cell e =
    ap (λ (b : Bool). if b then put_grain cell g None else cell) (ap (λ (b : Bool). leaves_where (Some used) b g (cell g)) e ∙ where-is wants used g (cell g))

-- who leaves does so where memory has a limit
pub leaves-limited : (recent : Option LastUsed) (wanted : Bool) (g : GrainId) (o : Option Cell) → leaves_where recent wanted g o ≡ true → (used : LastUsed) × (recent ≡ Some used)
leaves-limited None wanted g o e = cc
leaves-limited (Some used) wanted g o e = (used, refl)

-- then the others go
pub others-leave : (limit : Option ℕ) (wants : List (UnitNo × GrainId)) (used : List GrainId) (g : GrainId) (gs : List GrainId) (cell : CellsKept) →
    evicted_by limit wants used gs (evicted_by limit wants used (g ∷ []) cell) ≡ evicted_by limit wants used (g ∷ gs) cell
others-leave None wants used g gs cell = refl
others-leave (Some n) wants used g gs cell = refl

-- where memory has none nothing leaves
pub without-limit : (recent : Option LastUsed) (wants : List (UnitNo × GrainId)) (used : List GrainId) (gs : List GrainId) (cell : CellsKept) → is_some recent ≡ false → cell ≡ evicted_by (limit_of recent) wants used gs cell
without-limit None wants used gs cell e = refl
without-limit (Some last) wants used gs cell e = cc

pub none-leave : (limit : Option ℕ) (wants : List (UnitNo × GrainId)) (used : List GrainId) (cell : CellsKept) → evicted_by limit wants used [] cell ≡ cell
none-leave None wants used cell = refl
none-leave (Some n) wants used cell = refl

-- what a unit wants, by the first of all waits
pub wanted-of : (u : UnitNo) (t : UnitNo × GrainId) (ts : List (UnitNo × GrainId)) → same_unit t.0 u ≡ true → wanted_of u (t ∷ ts) ≡ t.1 ∷ wanted_of u ts
wanted-of u t ts e = ap (map (λ (s : UnitNo × GrainId). s.1)) (cond-true (same_unit t.0 u) (t ∷ filter (λ (s : UnitNo × GrainId). same_unit s.0 u) ts) (filter (λ (s : UnitNo × GrainId). same_unit s.0 u) ts) e)

pub wanted-not : (u : UnitNo) (t : UnitNo × GrainId) (ts : List (UnitNo × GrainId)) → same_unit t.0 u ≡ false → wanted_of u (t ∷ ts) ≡ wanted_of u ts
wanted-not u t ts e = ap (map (λ (s : UnitNo × GrainId). s.1)) (cond-false (same_unit t.0 u) (t ∷ filter (λ (s : UnitNo × GrainId). same_unit s.0 u) ts) (filter (λ (s : UnitNo × GrainId). same_unit s.0 u) ts) e)

-- one wait after the other: where it is the unit's its grain is looked at
pub own-wait : (recent : Option LastUsed) (wants : List (UnitNo × GrainId)) (u : UnitNo) (t : UnitNo × GrainId) (ts : List (UnitNo × GrainId)) (cell after : CellsKept) → same_unit t.0 u ≡ true →
    after ≡ (if leaves_where recent (any (is_other_wait u t.1) wants) t.1 (cell t.1) then put_grain cell t.1 None else cell) →
    evicted_by (limit_of recent) (without_wants u wants) (used_of recent) (wanted_of u ts) after ≡ evicted_by (limit_of recent) (without_wants u wants) (used_of recent) (wanted_of u (t ∷ ts)) cell
own-wait recent wants u t ts cell after e is =
    ap (evicted_by (limit_of recent) (without_wants u wants) (used_of recent) (wanted_of u ts)) (is ∙ one-leaves recent (without_wants u wants) (any (is_other_wait u t.1) wants) t.1 cell (others-want wants u t.1))
    ∙ others-leave (limit_of recent) (without_wants u wants) (used_of recent) t.1 (wanted_of u ts) cell
    ∙ sym (ap (λ (gs : List GrainId). evicted_by (limit_of recent) (without_wants u wants) (used_of recent) gs cell) (wanted-of u t ts e))

-- where it isn't nothing is
pub other-wait : (recent : Option LastUsed) (wants : List (UnitNo × GrainId)) (u : UnitNo) (t : UnitNo × GrainId) (ts : List (UnitNo × GrainId)) (cell : CellsKept) → same_unit t.0 u ≡ false →
    evicted_by (limit_of recent) (without_wants u wants) (used_of recent) (wanted_of u ts) cell ≡ evicted_by (limit_of recent) (without_wants u wants) (used_of recent) (wanted_of u (t ∷ ts)) cell
other-wait recent wants u t ts cell e = sym (ap (λ (gs : List GrainId). evicted_by (limit_of recent) (without_wants u wants) (used_of recent) gs cell) (wanted-not u t ts e))

-- the wait at an index, and those behind it
pub waits-from : (wants : List (UnitNo × GrainId)) (i : ℕ) (x : UnitNo × GrainId) → i < length wants → drop i wants ≡ get_or wants i x ∷ drop (i + 1) wants
waits-from [] i x h = absurd (omega arith)
waits-from (t ∷ ts) zero x h = refl
waits-from (t ∷ ts) (suc i) x h = (let e : suc (i + 1) ≡ suc i + 1 = omega arith in waits-from ts i x (omega arith) ∙ ap (λ k. get_or ts i x ∷ drop k (t ∷ ts)) e)
