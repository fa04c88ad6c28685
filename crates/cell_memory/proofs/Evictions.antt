-- Code that looks at the touched grains alone leaves what the model's sweep leaves.
use Rattle.std.proofs.Common.{◌≡◌, ℕ, List, [], ◌∷◌, Bool, true, false, true≢false, ◌&&◌, ◌||◌, not, ◌⊎◌, inl, inr, refl, sym, ap, ◌∙◌, subst, Option, Some, None, is_some}
use Rattle.std.proofs.lemmas.Bool.{cases_Bool, and_parts, and_from, cond-true, cond-false, not-true, or_right, or_left}
use Rattle.cell_model.specs.Cells.{Cell}
use Rattle.cell_model.proofs.Units.{cases_grain}
use Rattle.core_model.specs.CoreState.{UnitNo, GrainId, Member, Reading, Hold, same_grain, put_grain, Cells, CoreState}
use Rattle.core_model.specs.Tests.{any, is_empty, is_single, is_wanted, is_idle, is_recent}
use Rattle.core_model.specs.Changes.{stays, swept, swept_by}
use Rattle.core_laws.proofs.Puts.{grain-is, grain-other}
use Rattle.cell_memory.specs.KeptCells.{CellsKept, IsCell, StandsForCells}
use Rattle.cell_memory.specs.LeavingGrains.{idle_cell, leaves_as, without_idle, evicted}

-- what becomes of a grain: it stays as it is, and didn't leave where it was looked at; or it left
abbrev Becomes : List (UnitNo × GrainId) → List GrainId → List GrainId → CellsKept → GrainId → Option Cell → Type 0
Becomes wants recent gs cell k after =
    ((after ≡ cell k) × (Member k gs → leaves_as wants recent k (cell k) ≡ false)) ⊎ ((after ≡ None) × (leaves_as wants recent k (cell k) ≡ true))

becomes : (wants : List (UnitNo × GrainId)) (recent gs : List GrainId) (cell : CellsKept) (k : GrainId) → Becomes wants recent gs cell k (evicted wants recent gs cell k)
becomes wants recent [] cell k = inl (refl, λ m. absurd m)
becomes wants recent (g ∷ gs) cell k = by (cases_Bool (leaves_as wants recent g (cell g))) (becomes wants recent gs next k)
  where
    next : CellsKept
    next = without_idle wants recent g cell

    kept : Becomes wants recent gs next k (evicted wants recent gs next k) → next k ≡ cell k → (k ≡ g → leaves_as wants recent k (cell k) ≡ false) → Becomes wants recent (g ∷ gs) cell k (evicted wants recent gs next k)
    kept ih same here = elim ih [
      | inl t ↦ inl (t.0 ∙ same, λ m. elim m [ inl q ↦ here q | inr n ↦ ap (leaves_as wants recent k) (sym same) ∙ t.1 n ])
      | inr t ↦ inr (t.0, ap (leaves_as wants recent k) (sym same) ∙ t.1)
    ]

    gone : Becomes wants recent gs next k (evicted wants recent gs next k) → next k ≡ None → leaves_as wants recent k (cell k) ≡ true → Becomes wants recent (g ∷ gs) cell k (evicted wants recent gs next k)
    gone ih none l = elim ih [
      | inl t ↦ inr (t.0 ∙ none, l)
      | inr t ↦ inr (t.0, l)
    ]

    by : (leaves_as wants recent g (cell g) ≡ true) ⊎ (leaves_as wants recent g (cell g) ≡ false) → Becomes wants recent gs next k (evicted wants recent gs next k) → Becomes wants recent (g ∷ gs) cell k (evicted wants recent gs next k)
    by (inr stay) ih = kept ih (ap (λ (f : CellsKept). f k) (cond-false (leaves_as wants recent g (cell g)) (put_grain cell g None) cell stay)) (λ q. (λ i. leaves_as wants recent (q i) (cell (q i))) ∙ stay)
    by (inl go) ih = elim (cases_grain k g) [
      | inl q ↦ gone ih (ap (λ (f : CellsKept). f k) (cond-true (leaves_as wants recent g (cell g)) (put_grain cell g None) cell go) ∙ grain-is cell g None k q) ((λ i. leaves_as wants recent (q i) (cell (q i))) ∙ go)
      | inr n ↦ kept ih (ap (λ (f : CellsKept). f k) (cond-true (leaves_as wants recent g (cell g)) (put_grain cell g None) cell go) ∙ grain-other cell g None k n) (λ q. absurd (n q))
    ]

-- who read holds a lock
abbrev pub ReadersHold : Cells → Type 0
ReadersHold c = (g : GrainId) (s : Reading) → Member s (c.readings g) → (h : Hold) × Member h (c.holds g)

none-read : (c : Cells) (g : GrainId) → ReadersHold c → c.holds g ≡ [] → c.readings g ≡ []
none-read c g h e = go (c.readings g) refl
  where
    go : (rs : List Reading) → c.readings g ≡ rs → rs ≡ []
    go [] q = refl
    go (s ∷ rs) q = (let t = h g s (subst (Member s) (sym q) (inl refl)) in absurd (subst (Member t.0) e t.1))

empty-is : (hs : List Hold) → is_empty hs ≡ true → hs ≡ []
empty-is [] e = refl
empty-is (h ∷ hs) e = cc

-- each grain in memory that leaves is one of these
abbrev pub Covers : CoreState → List GrainId → Type 0
Covers v gs = (g : GrainId) → v.cells.here g ≡ true → is_recent v g ≡ false → is_idle v g ≡ true → Member g gs

pub sweeps : (limit : ℕ) (cell : CellsKept) (recent gs : List GrainId) (v : CoreState) → ReadersHold v.cells → Covers v gs → StandsForCells (Some limit) cell recent v.cells → StandsForCells (Some limit) (evicted v.units.wants recent gs cell) recent (swept v).cells
sweeps limit cell recent gs v readers covers s = subst (λ c. StandsForCells (Some limit) (evicted v.units.wants recent gs cell) recent (swept_by v c).cells) (sym s.capacity) (record {
  capacity = s.capacity;
  used = s.used;
  here = here;
  there = there;
  away = away;
})
  where
    wants : List (UnitNo × GrainId)
    wants = v.units.wants

    -- the tests agree
    idle-is : (g : GrainId) (x : Cell) → cell g ≡ Some x → is_idle v g ≡ idle_cell wants g x
    idle-is g x q = (let t = s.there g x q in λ i. is_empty (t.holds i) && (is_single (t.stack i) && not (is_wanted wants g)))

    recent-is : (g : GrainId) → is_recent v g ≡ any (same_grain g) recent
    recent-is g = ap (any (same_grain g)) s.used

    -- a grain that leaves is in memory, wasn't used lately and is idle
    left : (g : GrainId) → leaves_as wants recent g (cell g) ≡ true → (v.cells.here g ≡ true) × (is_recent v g ≡ false) × (is_idle v g ≡ true)
    left g = go (cell g) refl
      where
        go : (o : Option Cell) → cell g ≡ o → leaves_as wants recent g o ≡ true → (v.cells.here g ≡ true) × (is_recent v g ≡ false) × (is_idle v g ≡ true)
        go None q l = absurd (true≢false (sym l))
        go (Some x) q l = (let t = and_parts (not (any (same_grain g) recent)) (idle_cell wants g x) l in
            (s.here g ∙ ap is_some q, recent-is g ∙ not-true _ t.0, idle-is g x q ∙ t.1))

    -- and each such grain leaves
    leaves : (g : GrainId) (x : Cell) → cell g ≡ Some x → is_recent v g ≡ false → is_idle v g ≡ true → leaves_as wants recent g (cell g) ≡ true
    leaves g x q r i = ap (leaves_as wants recent g) q ∙ and_from (not (any (same_grain g) recent)) (idle_cell wants g x) (ap not (sym (recent-is g) ∙ r)) (sym (idle-is g x q) ∙ i)

    here : (g : GrainId) → stays v g ≡ is_some (evicted wants recent gs cell g)
    here g = elim (becomes wants recent gs cell g) [
      | inr t ↦ (let l = left g t.1 in
          (λ i. v.cells.here g && (l.1 i || not (l.2 i))) ∙ no (v.cells.here g) ∙ sym (ap is_some t.0))
      | inl t ↦ stay (cell g) refl t.1 ∙ sym (ap is_some t.0)
    ]
      where
        no : (b : Bool) → (b && (false || not true)) ≡ false
        no true = refl
        no false = refl

        stay : (o : Option Cell) → cell g ≡ o → (Member g gs → leaves_as wants recent g (cell g) ≡ false) → stays v g ≡ is_some (cell g)
        stay None q n = ap (λ b. b && (is_recent v g || not (is_idle v g))) (s.here g ∙ ap is_some q) ∙ sym (ap is_some q)
        stay (Some x) q n = elim (cases_Bool (is_recent v g)) [
          | inl r ↦ and_from (v.cells.here g) _ (s.here g ∙ ap is_some q) (or_left (is_recent v g) _ r) ∙ sym (ap is_some q)
          | inr r ↦ elim (cases_Bool (is_idle v g)) [
            | inl i ↦ absurd (true≢false (sym (leaves g x q r i) ∙ n (covers g (s.here g ∙ ap is_some q) r i)))
            | inr i ↦ and_from (v.cells.here g) _ (s.here g ∙ ap is_some q) (or_right (is_recent v g) _ (ap not i)) ∙ sym (ap is_some q)
          ]
        ]

    there : (g : GrainId) (x : Cell) → evicted wants recent gs cell g ≡ Some x → IsCell (record v.cells { here = λ k. stays v k }) g x
    there g x q = elim (becomes wants recent gs cell g) [
      | inl t ↦ (let c = s.there g x (sym t.0 ∙ q) in record { stack = c.stack; holds = c.holds; readings = c.readings })
      | inr t ↦ (let z : None ≡ Some x = sym t.0 ∙ q in cc)
    ]

    away : (g : GrainId) → evicted wants recent gs cell g ≡ None → (v.cells.holds g ≡ []) × (v.cells.readings g ≡ [])
    away g q = elim (becomes wants recent gs cell g) [
      | inl t ↦ s.away g (sym t.0 ∙ q)
      | inr t ↦ (let l = left g t.1 in
          let none = empty-is (v.cells.holds g) (and_parts (is_empty (v.cells.holds g)) _ l.2).0 in
          (none, none-read v.cells g readers none))
    ]
