-- What is kept stands for the cells once an event did what it does to the one cell that it touches.
use Rattle.std.proofs.Common.{◌≡◌, ℕ, List, [], ◌∷◌, true, inl, inr, refl, sym, ap, ◌∙◌, subst, Option, Some, None, is_some}
use Rattle.cell_model.specs.Cells.{Cell, with_reading, without_reading, stacked, learnt}
use Rattle.cell_model.specs.Locks.{granted, dropped}
use Rattle.cell_model.specs.Stacks.{cut}
use Rattle.cell_model.proofs.Units.{cases_grain}
use Rattle.core_model.specs.CoreState.{UnitNo, GrainId, Value, Version, Mode, top, put_grain, Cells, CoreState}
use Rattle.core_model.specs.Tests.{is_aborted, is_committed, state_written}
use Rattle.core_model.specs.Changes.{restacked, cleaned, touched, after_lock, after_raise, after_release, after_learn, loaded}
use Rattle.core_laws.proofs.Puts.{grain-is, grain-other, grain-same}
use Rattle.cell_memory.specs.KeptCells.{CellsKept, IsCell, StandsForCells}
use Rattle.cell_memory.specs.ChangedCells.{brought, after_grant_in, after_release_in, after_learn_in}

-- the other grains are as they were
abbrev LeavesOthers : GrainId → Cells → Cells → Type 0
LeavesOthers g c c' = (k : GrainId) → (k ≡ g → ⊥) → (c'.stack k ≡ c.stack k) × (c'.holds k ≡ c.holds k) × (c'.readings k ≡ c.readings k) × (c'.here k ≡ c.here k)

-- one cell is another
put-stands : (limit : Option ℕ) (cell : CellsKept) (recent recent' : List GrainId) (c c' : Cells) (g : GrainId) (x : Cell) → StandsForCells limit cell recent c →
    c'.capacity ≡ c.capacity → c'.recent ≡ recent' → c'.here g ≡ true → IsCell c' g x → LeavesOthers g c c' → StandsForCells limit (put_grain cell g (Some x)) recent' c'
put-stands limit cell recent recent' c c' g x s cap used here is rest = record {
  capacity = cap ∙ s.capacity;
  used = used;
  here = λ k. elim (cases_grain k g) [
    | inl q ↦ ap c'.here q ∙ here ∙ sym (ap is_some (grain-is cell g (Some x) k q))
    | inr n ↦ (rest k n).3 ∙ s.here k ∙ sym (ap is_some (grain-other cell g (Some x) k n))
  ];
  there = λ k y e. elim (cases_grain k g) [
    | inl q ↦ (let z : Some x ≡ Some y = sym (grain-is cell g (Some x) k q) ∙ e in let same : x ≡ y = cc in
        subst (λ j. IsCell c' j y) (sym q) (subst (IsCell c' g) same is))
    | inr n ↦ (let o = rest k n in let t = s.there k y (sym (grain-other cell g (Some x) k n) ∙ e) in record { stack = o.0 ∙ t.stack; holds = o.1 ∙ t.holds; readings = o.2 ∙ t.readings })
  ];
  away = λ k e. elim (cases_grain k g) [
    | inl q ↦ (let z : Some x ≡ None = sym (grain-is cell g (Some x) k q) ∙ e in cc)
    | inr n ↦ (let o = rest k n in let t = s.away k (sym (grain-other cell g (Some x) k n) ∙ e) in (o.1 ∙ t.0, o.2 ∙ t.1))
  ];
}

module _ (limit : Option ℕ) (cell : CellsKept) (recent : List GrainId) (w : CoreState) (s : StandsForCells limit cell recent w.cells) where
  -- a grain that wasn't there is brought
  pub load-stands : (g : GrainId) (u : UnitNo) (state : List Value) → cell g ≡ None → StandsForCells limit (put_grain cell g (Some (brought u state))) (touched limit g recent) (loaded w g u state).cells
  load-stands g u state gone =
      let t = s.away g gone in
      put-stands limit cell recent (touched limit g recent) w.cells (loaded w g u state).cells g (brought u state) s refl
      (λ i. touched (s.capacity i) g (s.used i))
      (grain-same w.cells.here g true)
      (record { stack = grain-same w.cells.stack g (record { unit = u; state = state } ∷ []); holds = t.0; readings = t.1 })
      (λ k n. (grain-other w.cells.stack g _ k n, refl, refl, grain-other w.cells.here g true k n))

  module _ (g : GrainId) (x : Cell) (there : cell g ≡ Some x) where
    is : IsCell w.cells g x
    is = s.there g x there

    here : w.cells.here g ≡ true
    here = s.here g ∙ ap is_some there

    -- the top of the cleaned stack
    topped : put_grain w.cells.stack g (cleaned w g) g ≡ cut (λ y. is_aborted (w.manager.verdict y.unit)) x.stack
    topped = grain-same w.cells.stack g (cleaned w g) ∙ ap (cut (λ y. is_aborted (w.manager.verdict y.unit))) is.stack

    granted-is : (u : UnitNo) (mode : Mode) (c' : Cells) → c'.stack ≡ put_grain w.cells.stack g (cleaned w g) → c'.holds ≡ put_grain w.cells.holds g (granted (w.cells.holds g) u mode) →
        c'.readings ≡ put_grain w.cells.readings g (with_reading (w.cells.readings g) u (top (put_grain w.cells.stack g (cleaned w g) g)).unit) → IsCell c' g (after_grant_in w u mode x)
    granted-is u mode c' a b c = record {
      stack = ap (λ (f : GrainId → List Version). f g) a ∙ topped;
      holds = (λ i. b i g) ∙ grain-same w.cells.holds g (granted (w.cells.holds g) u mode) ∙ ap (λ hs. granted hs u mode) is.holds;
      readings = (λ i. c i g) ∙ grain-same w.cells.readings g _ ∙ (λ i. with_reading (is.readings i) u (top (topped i)).unit);
    }

    -- a first lock, and one that is raised
    pub lock-stands : (u : UnitNo) (mode : Mode) → StandsForCells limit (put_grain cell g (Some (after_grant_in w u mode x))) (touched limit g recent) (after_lock (restacked w g (cleaned w g)) u g mode).cells
    lock-stands u mode = put-stands limit cell recent (touched limit g recent) w.cells (after_lock (restacked w g (cleaned w g)) u g mode).cells g (after_grant_in w u mode x) s refl
        (λ i. touched (s.capacity i) g (s.used i)) here (granted-is u mode (after_lock (restacked w g (cleaned w g)) u g mode).cells refl refl refl)
        (λ k n. (grain-other w.cells.stack g _ k n, grain-other w.cells.holds g _ k n, grain-other w.cells.readings g _ k n, refl))

    pub raise-stands : (u : UnitNo) (mode : Mode) → StandsForCells limit (put_grain cell g (Some (after_grant_in w u mode x))) recent (after_raise (restacked w g (cleaned w g)) u g mode).cells
    raise-stands u mode = put-stands limit cell recent recent w.cells (after_raise (restacked w g (cleaned w g)) u g mode).cells g (after_grant_in w u mode x) s refl
        s.used here (granted-is u mode (after_raise (restacked w g (cleaned w g)) u g mode).cells refl refl refl)
        (λ k n. (grain-other w.cells.stack g _ k n, grain-other w.cells.holds g _ k n, grain-other w.cells.readings g _ k n, refl))

    -- a lock that is given back
    pub release-stands : (u : UnitNo) → StandsForCells limit (put_grain cell g (Some (after_release_in w u g x))) recent (after_release w u g).cells
    release-stands u = put-stands limit cell recent recent w.cells (after_release w u g).cells g (after_release_in w u g x) s refl s.used here
        (record {
          stack = grain-same w.cells.stack g _ ∙ (λ i. stacked (is.readings i) (is.stack i) u (state_written g (w.manager.writes u)));
          holds = grain-same w.cells.holds g _ ∙ ap (λ hs. dropped hs u) is.holds;
          readings = grain-same w.cells.readings g _ ∙ ap (λ rs. without_reading rs u) is.readings;
        })
        (λ k n. (grain-other w.cells.stack g _ k n, grain-other w.cells.holds g _ k n, grain-other w.cells.readings g _ k n, refl))

    -- a lesson of a grain in memory
    pub learn-stands : (u : UnitNo) → StandsForCells limit (put_grain cell g (Some (after_learn_in w u x))) recent (after_learn w u g).cells
    learn-stands u = put-stands limit cell recent recent w.cells (after_learn w u g).cells g (after_learn_in w u x) s refl s.used here
        (record { stack = grain-same w.cells.stack g _ ∙ ap (learnt (is_committed (w.manager.verdict u)) u) is.stack; holds = is.holds; readings = is.readings })
        (λ k n. (grain-other w.cells.stack g _ k n, refl, refl, refl))

  -- and of one that isn't there: nothing is kept of it, whatever the model's stack becomes
  pub learn-away : (u : UnitNo) (g : GrainId) → cell g ≡ None → StandsForCells limit cell recent (after_learn w u g).cells
  learn-away u g gone = record {
    capacity = s.capacity;
    used = s.used;
    here = s.here;
    there = λ k y e. (let apart : k ≡ g → ⊥ = λ q. (let z : Some y ≡ None = sym e ∙ ap cell q ∙ gone in cc) in
        let t = s.there k y e in record { stack = grain-other w.cells.stack g _ k apart ∙ t.stack; holds = t.holds; readings = t.readings });
    away = s.away;
  }
