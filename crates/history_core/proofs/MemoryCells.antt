-- What is kept of the cells, where the grain is in memory and where it isn't.
use Rattle.std.proofs.Common.{◌≡◌, ℕ, suc, zero, ◌+◌, ◌≤◌, List, [], ◌∷◌, Bool, true, false, not, inl, inr, refl, sym, ap, ◌∙◌, subst, arith, Option, Some, None, is_some, length, drop, filter}
use Rattle.std.specs.Prelude.{slice_get}
use Rattle.std.proofs.lemmas.Bool.{cases_Bool, cond-true, cond-false}
use Rattle.cell_model.specs.Cells.{Cell}
use Rattle.core_model.specs.CoreState.{UnitNo, GrainId, Version, Hold, Reading, same_grain, put_grain, Cells, CoreState}
use Rattle.core_model.specs.Changes.{touched}
use Rattle.activations.specs.LastUsed.{LastUsed, others}
use Rattle.cell_memory.specs.KeptCells.{CellsKept, IsCell, StandsForCells}
use Rattle.cell_memory.specs.LeavingGrains.{left_by}
use Rattle.cell_table.specs.Table.{cell_in, cell_or, cells_kept, here_in, left_after, limit_of, opens_with, used_after, used_of}
use Rattle.cell_table.specs.declared.table.CellTable.{CellTable}
use Rattle.history_core.specs.Evictions.{these}

-- what stands for the cells does so under other names
pub stands-as : (limit limit' : Option ℕ) (cell cell' : CellsKept) (used used' : List GrainId) (c : Cells) → limit' ≡ limit → cell' ≡ cell → used' ≡ used →
    StandsForCells limit cell used c → StandsForCells limit' cell' used' c
stands-as limit limit' cell cell' used used' c l k u s = record {
  capacity = s.capacity ∙ sym l;
  used = s.used ∙ sym u;
  here = λ g. s.here g ∙ ap is_some (λ i. sym k i g);
  there = λ g x e. s.there g x ((λ i. sym k i g) ∙ e);
  away = λ g e. s.away g ((λ i. sym k i g) ∙ e);
}

-- memory has a limit where grains used last are kept
pub limit-some : (r : Option LastUsed) → is_some r ≡ is_some (limit_of r)
limit-some None = refl
limit-some (Some used) = refl

-- the same cells are kept in another table
pub stands-in : (t n : CellTable) (c : Cells) → cells_kept n ≡ cells_kept t → n.recent ≡ t.recent → opens_with n ≡ opens_with t →
    StandsForCells (opens_with t).limit (cells_kept t) (used_of t.recent) c → StandsForCells (opens_with n).limit (cells_kept n) (used_of n.recent) c
stands-in t n c kept recent opens s =
    stands-as (opens_with t).limit (opens_with n).limit (cells_kept t) (cells_kept n) (used_of t.recent) (used_of n.recent) c (λ i. (opens i).limit) kept (ap used_of recent) s

-- the cell of a grain in memory
pub cell-here : (t : CellTable) (g : GrainId) → here_in t g ≡ true → cells_kept t g ≡ Some (cell_in t g)
cell-here t g here = go (cells_kept t g) refl here
  where
    go : (o : Option Cell) → cells_kept t g ≡ o → is_some o ≡ true → cells_kept t g ≡ Some (cell_in t g)
    go None q h = cc
    go (Some x) q h = q ∙ ap (λ (k : Option Cell). Some (cell_or k ((opens_with t).states g))) (sym q)

pub cell-away : (t : CellTable) (g : GrainId) → here_in t g ≡ false → cells_kept t g ≡ None
cell-away t g away = go (cells_kept t g) away
  where
    go : (o : Option Cell) → is_some o ≡ false → o ≡ None
    go None h = refl
    go (Some x) h = cc

module _ (t : CellTable) (c : Cells) (s : StandsForCells (opens_with t).limit (cells_kept t) (used_of t.recent) c) where
  -- of each grain the locks and the readings are those of its cell
  pub holds-at : (g : GrainId) → c.holds g ≡ (cell_in t g).holds
  holds-at g = go (cells_kept t g) refl
    where
      go : (o : Option Cell) → cells_kept t g ≡ o → c.holds g ≡ (cell_in t g).holds
      go None q = (s.away g q).0 ∙ ap (λ (k : Option Cell). (cell_or k ((opens_with t).states g)).holds) (sym q)
      go (Some x) q = (s.there g x q).holds ∙ ap (λ (k : Option Cell). (cell_or k ((opens_with t).states g)).holds) (sym q)

  pub holds-is : c.holds ≡ (λ (g : GrainId). (cell_in t g).holds)
  holds-is = λ i g. holds-at g i

  -- and of one in memory the stack too
  pub stack-at : (g : GrainId) → c.here g ≡ true → c.stack g ≡ (cell_in t g).stack
  stack-at g here = (s.there g (cell_in t g) (cell-here t g (sym (s.here g) ∙ here))).stack

-- the grains used last, where one is used
pub used-touched : (g : GrainId) (r : Option LastUsed) → used_of (used_after g r) ≡ touched (limit_of r) g (used_of r)
used-touched g None = refl
used-touched g (Some used) = refl

filter-short : {A : Type 0} (p : A → Bool) (xs : List A) → length (filter p xs) ≤ length xs
filter-short {A = A} p [] = omega arith
filter-short {A = A} p (x ∷ xs) = elim (cases_Bool (p x)) [
  | inl e ↦ (let t = filter-short p xs in let n = ap (λ (ys : List A). length ys) (cond-true (p x) (x ∷ filter p xs) (filter p xs) e) in omega (arith, t, n))
  | inr e ↦ (let t = filter-short p xs in let n = ap (λ (ys : List A). length ys) (cond-false (p x) (x ∷ filter p xs) (filter p xs) e) in omega (arith, t, n))
]

-- at most one stands behind the limit
drop-one : (n : ℕ) (xs : List GrainId) → length xs ≤ suc n → drop n xs ≡ these (slice_get xs n)
drop-one zero [] h = refl
drop-one zero (x ∷ []) h = refl
drop-one zero (x ∷ y ∷ ys) h = absurd (omega (arith, h))
drop-one (suc n) [] h = refl
drop-one (suc n) (x ∷ xs) h = drop-one n xs (omega (arith, h))

-- who goes from those used last is the one that is answered
pub left-is : (g : GrainId) (r : Option LastUsed) → ((n : ℕ) → limit_of r ≡ Some n → length (used_of r) ≤ n) → left_by (limit_of r) g (used_of r) ≡ these (left_after g r)
left-is g None short = refl
left-is g (Some used) short =
    drop-one used.limit (g ∷ others g used.grains)
    (let t = short used.limit refl in let f = filter-short (λ (k : GrainId). not (same_grain k g)) used.grains in omega (arith, t, f))
