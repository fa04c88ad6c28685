-- One grain's cell is written.
use Rattle.std.proofs.Common.{◌≡◌, ◌≢◌, List, Bool, true, false, refl, sym, ap, ◌∙◌, Option, Some, None}
use Rattle.std.specs.Prelude.{is_some}
use Rattle.std.specs.declared.cmp.Ordering.{Ordering}
use Rattle.std.specs.declared.cmp.Ordering.TheVariants.{Less, Equal, Greater}
use Rattle.std.specs.Ordering.{nat_cmp, ordering_then, is_eq}
use Rattle.std.specs.BTreeMap.{BTreeMap, Updates, is_at, get}
use Rattle.std.proofs.lemmas.Map.Lookups.{exact_unsigned}
use Rattle.base_types.specs.declared.calls.GrainId.{GrainId}
use Rattle.base_types.specs.declared.calls.Value.{Value}
use Rattle.base_types.specs.Stores.{grain_cmp}
use Rattle.cell_model.specs.Cells.{Cell, opened}
use Rattle.core_model.specs.CoreState.{put_grain}
use Rattle.core_laws.proofs.Puts.{grain-at, grain-is, grain-other}
use Rattle.grain_cell.specs.Room.{CellInRoom}
use Rattle.cell_table.specs.declared.table.CellTable.{CellTable}
use Rattle.activations.specs.LastUsed.{LastUsed}
use Rattle.cell_memory.specs.KeptCells.{CellsKept}
use Rattle.cell_table.specs.Table.{cell_at, cell_in, cell_or, cells_kept, has_cell, here_in, kept_by, limit_of, opens_with, used_after}

both_equal : (a b : Ordering) → is_eq (ordering_then a b) ≡ true → (a ≡ Equal) × (b ≡ Equal)
both_equal Less b e = absurd (cc e)
both_equal Greater b e = absurd (cc e)
both_equal Equal Less e = absurd (cc e)
both_equal Equal Greater e = absurd (cc e)
both_equal Equal Equal e = (refl, refl)

same_at : (a b : GrainId) → is_at (grain_cmp a) b ≡ true → a ≡ b
same_at a b e =
    let equal = both_equal (nat_cmp a.kind b.kind) (nat_cmp a.key b.key) e in
    let kind : a.kind ≡ b.kind = exact_unsigned a.kind b.kind equal.0 in
    let key : a.key ≡ b.key = exact_unsigned a.key b.key equal.1 in
    λ i. record { kind = kind i; key = key i }

-- the order tells another grain apart
apart : (a b : GrainId) → b ≢ a → is_at (grain_cmp a) b ≡ false
apart a b other = by_test (is_at (grain_cmp a) b) refl
  where
    by_test : (t : Bool) → is_at (grain_cmp a) b ≡ t → is_at (grain_cmp a) b ≡ false
    by_test false e = e
    by_test true e = absurd (other (sym (same_at a b e)))

-- a grain's cell is replaced
pub kept-put : (t : CellTable) (m : BTreeMap GrainId CellInRoom) (g : GrainId) (new : CellInRoom) → Updates grain_cmp t.cells m g (Some new) →
    cells_kept (record t { cells = m }) ≡ put_grain (cells_kept t) g (Some new.cell)
kept-put t m g new updates = λ i q. at q i
  where
    at : (q : GrainId) → cells_kept (record t { cells = m }) q ≡ put_grain (cells_kept t) g (Some new.cell) q
    at q = grain-at (cells_kept t) g (Some new.cell) (λ x. cells_kept (record t { cells = m }) q ≡ x) q
        (λ e. ap (λ k. kept_by (get grain_cmp m k) t.recent ((opens_with t).states q)) e ∙ ap (λ (o : Option CellInRoom). kept_by o t.recent ((opens_with t).states q)) updates.1)
        (λ n. ap (λ (o : Option CellInRoom). kept_by o t.recent ((opens_with t).states q)) (updates.2 q (apart g q n)))

-- what stands for the same leaves all as it was
pub kept-same : (t : CellTable) (m : BTreeMap GrainId CellInRoom) (g : GrainId) (new : CellInRoom) → Updates grain_cmp t.cells m g (Some new) →
    Some new.cell ≡ cells_kept t g → cells_kept (record t { cells = m }) ≡ cells_kept t
kept-same t m g new updates same = kept-put t m g new updates ∙ (λ i q. at q i)
  where
    at : (q : GrainId) → put_grain (cells_kept t) g (Some new.cell) q ≡ cells_kept t q
    at q = grain-at (cells_kept t) g (Some new.cell) (λ x. x ≡ cells_kept t q) q (λ s. same ∙ ap (cells_kept t) (sym s)) (λ n. refl)

-- a grain's cell is changed
pub kept-changed : (t : CellTable) (m : BTreeMap GrainId CellInRoom) (g : GrainId) (old new : CellInRoom) → Some old ≡ get grain_cmp t.cells g →
    Updates grain_cmp t.cells m g (Some new) → (change : Cell → Cell) → new.cell ≡ change old.cell →
    cells_kept (record t { cells = m }) ≡ put_grain (cells_kept t) g (Some (change (cell_in t g)))
kept-changed t m g old new was updates change e =
    kept-put t m g new updates
    ∙ ap (λ (k : Cell). put_grain (cells_kept t) g (Some k)) (e ∙ ap (λ (o : Option CellInRoom). change (cell_or (kept_by o t.recent ((opens_with t).states g)) ((opens_with t).states g))) was)

-- or has other room
pub kept-roomier : (t : CellTable) (m : BTreeMap GrainId CellInRoom) (g : GrainId) (old new : CellInRoom) → Some old ≡ get grain_cmp t.cells g →
    Updates grain_cmp t.cells m g (Some new) → new.cell ≡ old.cell → cells_kept (record t { cells = m }) ≡ cells_kept t
kept-roomier t m g old new was updates e =
    kept-same t m g new updates (ap (λ (k : Cell). Some k) e ∙ ap (λ (o : Option CellInRoom). kept_by o t.recent ((opens_with t).states g)) was)

-- the cell of a grain in memory is made
pub kept-made : (t : CellTable) (m : BTreeMap GrainId CellInRoom) (g : GrainId) (new : CellInRoom) → has_cell t g ≡ false → here_in t g ≡ true →
    Updates grain_cmp t.cells m g (Some new) → new.cell ≡ opened ((opens_with t).states g) → cells_kept (record t { cells = m }) ≡ cells_kept t
kept-made t m g new none here updates e = kept-same t m g new updates (ap (λ (k : Cell). Some k) e ∙ bare (cell_at t g) t.recent none here)
  where
    bare : (o : Option CellInRoom) (r : Option LastUsed) → is_some o ≡ false → is_some (kept_by o r ((opens_with t).states g)) ≡ true → Some (opened ((opens_with t).states g)) ≡ kept_by o r ((opens_with t).states g)
    bare (Some c) r n h = cc
    bare None None n h = refl
    bare None (Some used) n h = cc

-- a cell that goes, of one who has a limit
pub kept-gone : (t : CellTable) (m : BTreeMap GrainId CellInRoom) (g : GrainId) (used : LastUsed) → t.recent ≡ Some used → Updates grain_cmp t.cells m g None →
    cells_kept (record t { cells = m }) ≡ put_grain (cells_kept t) g None
kept-gone t m g used limited updates = λ i q. at q i
  where
    at : (q : GrainId) → cells_kept (record t { cells = m }) q ≡ put_grain (cells_kept t) g None q
    at q = grain-at (cells_kept t) g None (λ x. cells_kept (record t { cells = m }) q ≡ x) q
        (λ e. ap (λ k. kept_by (get grain_cmp m k) t.recent ((opens_with t).states q)) e ∙ (λ i. kept_by (updates.1 i) (limited i) ((opens_with t).states q)))
        (λ n. ap (λ (o : Option CellInRoom). kept_by o t.recent ((opens_with t).states q)) (updates.2 q (apart g q n)))

-- where the grain wasn't in memory, memory has a limit
pub absent-limited : (t : CellTable) (g : GrainId) → here_in t g ≡ false → (used : LastUsed) × (t.recent ≡ Some used)
absent-limited t g away = go (cell_at t g) t.recent refl away
  where
    go : (o : Option CellInRoom) (r : Option LastUsed) → t.recent ≡ r → is_some (kept_by o r ((opens_with t).states g)) ≡ false → (used : LastUsed) × (t.recent ≡ Some used)
    go (Some c) r q h = cc
    go None None q h = cc
    go None (Some used) q h = (used, q)

pub none-is : {A : Type 0} (o : Option A) → is_some o ≡ false → o ≡ None
none-is None h = refl
none-is (Some x) h = cc

-- a cell that came and goes again leaves all as it was
pub kept-back : (k : CellsKept) (g : GrainId) (x : Cell) → k g ≡ None → put_grain (put_grain k g (Some x)) g None ≡ k
kept-back k g x none = λ i q. at q i
  where
    at : (q : GrainId) → put_grain (put_grain k g (Some x)) g None q ≡ k q
    at q = grain-at (put_grain k g (Some x)) g None (λ y. y ≡ k q) q (λ e. sym none ∙ ap k (sym e)) (λ n. grain-other k g (Some x) q n)

-- the use of a grain changes no cell
pub kept-touched : (t : CellTable) (g : GrainId) (r : Option LastUsed) → r ≡ used_after g t.recent → cells_kept (record t { recent = r }) ≡ cells_kept t
kept-touched t g r e = λ i q. at q i
  where
    same : (o : Option CellInRoom) (was : Option LastUsed) (state : List Value) → kept_by o (used_after g was) state ≡ kept_by o was state
    same (Some c) was state = refl
    same None None state = refl
    same None (Some used) state = refl

    at : (q : GrainId) → kept_by (cell_at t q) r ((opens_with t).states q) ≡ cells_kept t q
    at q = ap (λ (x : Option LastUsed). kept_by (cell_at t q) x ((opens_with t).states q)) e ∙ same (cell_at t q) t.recent ((opens_with t).states q)

pub limit-touched : (g : GrainId) (was : Option LastUsed) → limit_of (used_after g was) ≡ limit_of was
limit-touched g None = refl
limit-touched g (Some used) = refl

-- where one cell that is kept is another, each grain has the cell that it had, and that one has it
pub in-put : (t n : CellTable) (g : GrainId) (k : Cell) → cells_kept n ≡ put_grain (cells_kept t) g (Some k) → opens_with n ≡ opens_with t → cell_in n ≡ put_grain (cell_in t) g k
in-put t n g k kept opens = (λ i q. cell_or (kept i q) ((opens i).states q)) ∙ (λ i q. at q i)
  where
    at : (q : GrainId) → cell_or (put_grain (cells_kept t) g (Some k) q) ((opens_with t).states q) ≡ put_grain (cell_in t) g k q
    at q = grain-at (cells_kept t) g (Some k) (λ x. cell_or x ((opens_with t).states q) ≡ put_grain (cell_in t) g k q) q
        (λ e. sym (grain-is (cell_in t) g k q e))
        (λ n. sym (grain-other (cell_in t) g k q n))
