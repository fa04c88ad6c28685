-- What grains have to learn, and the state after one has learnt.
use Rattle.std.proofs.Common.{◌≡◌, ◌<◌, ◌≤◌, List, [], ◌∷◌, Bool, true, false, ◌&&◌, ◌||◌, not, ◌⊎◌, inl, inr, refl, sym, ap, ◌∙◌, subst, arith, Option, Some, None, length, take, map, filter, is_some, get_or-take}
use Rattle.std.specs.Prelude.{if◌then◌else◌}
use Rattle.std.proofs.lemmas.Bool.{and_parts, and_from, cases_Bool, cases_lt}
use Rattle.cell_model.specs.Units.{Member, nobody, same_unit, same_grain}
use Rattle.cell_model.specs.Stacks as stacks
use Rattle.cell_model.specs.Cells.{Cell, opened, cell_learned, learnt}
use Rattle.cell_model.proofs.Units.{any-true, any-member, filter-member, filter-stays, same_unit-true, same_unit-is, same_unit-not, same_grain-true, same_grain-is, cases_unit, cases_grain}
use Rattle.core_model.specs.CoreState.{UnitNo, GrainId, Value, Write, CoreState, put, put_grain}
use Rattle.core_model.specs.declared.phases.Phase.{Phase}
use Rattle.core_model.specs.declared.phases.Phase.TheVariants.{Unborn, Running, Finished, Refused, Ended}
use Rattle.core_model.specs.Tests.{is_final, is_committed, state_written}
use Rattle.core_model.specs.Changes.{after_learn}
use Rattle.core_model.specs.LearnQueue.{to_learn}
use Rattle.core_model.specs.Events.{can_learn}
use Rattle.core_model.specs.declared.events.CoreEvent.TheVariants.{Learn}
use Rattle.core_model.specs.declared.events.CoreReply.TheVariants as reply
use Rattle.core_laws.proofs.Basics.{written-member}
use Rattle.core_laws.proofs.Puts.{put-is, put-other, grain-at, grain-is, grain-other}
use Rattle.core_laws.proofs.Orders.{Member-get, take_length}
use Rattle.core_laws.proofs.Plans.{flat-member, member-flat}
use Rattle.core_parts.specs.Pairs.{is_pair, has_pair, without_first, other_pairs}
use Rattle.core_parts.specs.Room.{PairsInRoom}
use Rattle.grain_cell.specs.Room.{CellInRoom}
use Rattle.activations.specs.LastUsed.{LastUsed}
use Rattle.cell_memory.specs.KeptCells.{StandsForCells}
use Rattle.cell_memory.specs.LeavingGrains.{evicted_by}
use Rattle.cell_memory.specs.ChangedCells.{after_learn_in}
use Rattle.cell_memory.proofs.ChangedCells.{learn-away, learn-stands}
use Rattle.cell_table.specs.Table.{cell_at, cell_in, cell_or, cells_kept, has_cell, here_in, kept_by, opens_with, used_of}
use Rattle.cell_table.specs.declared.table.CellTable.{CellTable}
use Rattle.unit_table.specs.Table.{verdict_in, wants_in}
use Rattle.history_core.specs.declared.parts.Parts.{Parts}
use Rattle.history_core.specs.ClosedUnits.{unlearnt}
use Rattle.history_core.specs.KeptParts.{PartsStand, IsCoreReached}
use Rattle.history_core.specs.Steps.{CanDo, Does}
use Rattle.history_core.proofs.OneEvent.{can-is}
use Rattle.history_core.proofs.Lists.{filter-agree}
use Rattle.history_core.proofs.CoreStates.{rests, unwritten, late-not-final, steady, closed-within}
use Rattle.history_core.proofs.Sweeps.{does-evicting}
use Rattle.history_core.proofs.MemoryCells.{cell-away, cell-here, stands-as}

-- two tests that imply one another are one
same-tests : (a b : Bool) → (a ≡ true → b ≡ true) → (b ≡ true → a ≡ true) → a ≡ b
same-tests true b f g = sym (f refl)
same-tests false true f g = g refl
same-tests false false f g = refl

written-some : (x : Write) (xs : List Write) → Member x xs → is_some (state_written x.0 xs) ≡ true
written-some x [] m = absurd m
written-some x (y ∷ ys) (inl e) = (let t : same_grain y.0 x.0 ≡ true = same_grain-is y.0 x.0 (ap (λ (z : Write). z.0) (sym e)) in ap (λ (b : Bool). is_some (if b then Some y.1 else state_written x.0 ys)) t)
written-some x (y ∷ ys) (inr m) = go (written-some x ys m) (same_grain y.0 x.0)
  where
    go : is_some (state_written x.0 ys) ≡ true → (b : Bool) → is_some (if b then Some y.1 else state_written x.0 ys) ≡ true
    go rest true = refl
    go rest false = rest

wrote : (o : Option (List Value)) → is_some o ≡ true → (v : List Value) × (o ≡ Some v)
wrote None e = cc
wrote (Some v) e = (v, refl)

grain-in : (u : UnitNo) (xs : List Write) (t : UnitNo × GrainId) → Member t (map (λ (x : Write). (u, x.0)) xs) → (x : Write) × Member x xs × (t ≡ (u, x.0))
grain-in u [] t m = absurd m
grain-in u (y ∷ ys) t (inl e) = (y, inl refl, e)
grain-in u (y ∷ ys) t (inr m) = (let k = grain-in u ys t m in (k.0, inr k.1, k.2))

in-grains : (u : UnitNo) (xs : List Write) (x : Write) → Member x xs → Member {A = UnitNo × GrainId} (u, x.0) (map (λ (z : Write). (u, z.0)) xs)
in-grains u [] x m = absurd m
in-grains u (y ∷ ys) x (inl e) = inl (λ i. (u, (e i).0))
in-grains u (y ∷ ys) x (inr m) = inr (in-grains u ys x m)

finished-or : (ph : Phase) → (ph ≡ Finished) ⊎ (ph ≡ Finished → ⊥)
finished-or Unborn = inr (λ z. cc)
finished-or Running = inr (λ z. cc)
finished-or Finished = inl refl
finished-or Refused = inr (λ z. cc)
finished-or Ended = inr (λ z. cc)

-- a unit that wrote has finished
pub wrote-finished : (w : CoreState) → IsCoreReached w → (u : UnitNo) (g : GrainId) → is_some (state_written g (w.manager.writes u)) ≡ true → w.units.phase u ≡ Finished
wrote-finished w r u g e = elim (finished-or (w.units.phase u)) [
  | inl f ↦ f
  | inr n ↦ (let z : false ≡ true = sym (ap (λ xs. is_some (state_written g xs)) (unwritten w r u n)) ∙ e in cc)
]

-- and stands in a closed batch where it is decided for good
decided-closed : (w : CoreState) → IsCoreReached w → (u : UnitNo) → w.units.phase u ≡ Finished → is_final (w.manager.verdict u) ≡ true → Member u (take w.manager.closed w.manager.order)
decided-closed w r u f final =
    let t = (rests w r).prefix.order.placed u f in
    let le : w.manager.place u ≤ w.manager.closed = elim (cases_lt w.manager.closed (w.manager.place u)) [
      | inl lt ↦ (let z : true ≡ false = sym final ∙ late-not-final w r u f lt in cc)
      | inr le ↦ le
    ] in
    let lt : t.0 < w.manager.closed = omega (arith, t.2, le) in
    let len : length (take w.manager.closed w.manager.order) ≡ w.manager.closed = take_length w.manager.closed w.manager.order (closed-within w r) in
    subst (λ z. Member z (take w.manager.closed w.manager.order)) (get_or-take w.manager.closed w.manager.order t.0 nobody lt ∙ t.3)
    (Member-get (take w.manager.closed w.manager.order) t.0 (omega (arith, len, lt)))

-- the pair is among what is to learn exactly where the event applies
pub can-learn-is : (w : CoreState) → IsCoreReached w → (u : UnitNo) (g : GrainId) → has_pair (unlearnt w) u g ≡ can_learn w u g
can-learn-is w r u g = same-tests (has_pair (unlearnt w) u g) (can_learn w u g) there back
  where
    there : has_pair (unlearnt w) u g ≡ true → can_learn w u g ≡ true
    there e =
        let t = any-true (is_pair u g) (unlearnt w) e in
        let k = filter-member (λ (z : UnitNo × GrainId). not (w.cells.learnt z.0 z.1)) (to_learn w) t.0 t.1 in
        let v = flat-member (λ (z : UnitNo). map (λ (x : Write). (z, x.0)) (w.manager.writes z)) (filter (λ z. is_final (w.manager.verdict z)) (take w.manager.closed w.manager.order)) t.0 k.0 in
        let f = filter-member (λ (z : UnitNo). is_final (w.manager.verdict z)) (take w.manager.closed w.manager.order) v.0 v.1 in
        let x = grain-in v.0 (w.manager.writes v.0) t.0 v.2 in
        let p = and_parts (same_unit t.0.0 u) (same_grain t.0.1 g) t.2 in
        let unit : t.0.0 ≡ u = same_unit-true _ _ p.0 in
        let grain : t.0.1 ≡ g = same_grain-true _ _ p.1 in
        let vu : v.0 ≡ u = sym (ap (λ (z : UnitNo × GrainId). z.0) x.2) ∙ unit in
        let xg : x.0.0 ≡ g = sym (ap (λ (z : UnitNo × GrainId). z.1) x.2) ∙ grain in
        let some : is_some (state_written g (w.manager.writes u)) ≡ true = subst (λ z. is_some (state_written g (w.manager.writes z)) ≡ true) vu (subst (λ z. is_some (state_written z (w.manager.writes v.0)) ≡ true) xg (written-some x.0 (w.manager.writes v.0) x.1)) in
        let final : is_final (w.manager.verdict u) ≡ true = subst (λ z. is_final (w.manager.verdict z) ≡ true) vu f.1 in
        let fresh : not (w.cells.learnt u g) ≡ true = (λ i. not (w.cells.learnt (sym unit i) (sym grain i))) ∙ k.1 in
        and_from (is_some (state_written g (w.manager.writes u))) (is_final (w.manager.verdict u) && not (w.cells.learnt u g)) some (and_from (is_final (w.manager.verdict u)) (not (w.cells.learnt u g)) final fresh)

    back : can_learn w u g ≡ true → has_pair (unlearnt w) u g ≡ true
    back e =
        let p = and_parts (is_some (state_written g (w.manager.writes u))) (is_final (w.manager.verdict u) && not (w.cells.learnt u g)) e in
        let q = and_parts (is_final (w.manager.verdict u)) (not (w.cells.learnt u g)) p.1 in
        let v = wrote (state_written g (w.manager.writes u)) p.0 in
        let x = written-member g v.0 (w.manager.writes u) v.1 in
        let m = decided-closed w r u (wrote-finished w r u g p.0) q.0 in
        let f = filter-stays (λ (z : UnitNo). is_final (w.manager.verdict z)) (take w.manager.closed w.manager.order) u m q.0 in
        let i : Member {A = UnitNo × GrainId} (u, g) (map (λ (z : Write). (u, z.0)) (w.manager.writes u)) = subst (λ k. Member {A = UnitNo × GrainId} (u, k) (map (λ (z : Write). (u, z.0)) (w.manager.writes u))) x.2 (in-grains u (w.manager.writes u) x.0 x.1) in
        let l = member-flat (λ (z : UnitNo). map (λ (y : Write). (z, y.0)) (w.manager.writes z)) (filter (λ z. is_final (w.manager.verdict z)) (take w.manager.closed w.manager.order)) (u, g) u f i in
        let n = filter-stays (λ (z : UnitNo × GrainId). not (w.cells.learnt z.0 z.1)) (to_learn w) (u, g) l q.1 in
        any-member (is_pair u g) (unlearnt w) (u, g) n (and_from (same_unit u u) (same_grain g g) (same_unit-is u u refl) (same_grain-is g g refl))

-- nobody has written
pub somebody : (p : Parts) (u : UnitNo) (g : GrainId) → CanDo p (Learn u g) → u ≡ nobody → ⊥
somebody p u g c e =
    let w = c.0 in
    let r = c.2 in
    let q = and_parts (is_some (state_written g (w.manager.writes u))) (is_final (w.manager.verdict u) && not (w.cells.learnt u g)) (can-is w (Learn u g) c.3) in
    let t : Finished ≡ Unborn = sym (wrote-finished w r u g q.0) ∙ ap w.units.phase e ∙ (steady w r).0.0.outside in
    cc

-- what has learnt is no longer to learn
filter-filter : {A : Type 0} (p q : A → Bool) (xs : List A) → filter p (filter q xs) ≡ filter (λ x. q x && p x) xs
filter-filter p q [] = refl
filter-filter p q (x ∷ xs) = go (filter-filter p q xs) (q x) (p x) refl refl
  where
    go : filter p (filter q xs) ≡ filter (λ y. q y && p y) xs → (a b : Bool) → q x ≡ a → p x ≡ b → filter p (if a then x ∷ filter q xs else filter q xs) ≡ (if (a && b) then x ∷ filter (λ y. q y && p y) xs else filter (λ y. q y && p y) xs)
    go rest true true e f = (λ i. if f i then x ∷ filter p (filter q xs) else filter p (filter q xs)) ∙ ap (λ t. x ∷ t) rest
    go rest true false e f = (λ i. if f i then x ∷ filter p (filter q xs) else filter p (filter q xs)) ∙ rest
    go rest false b e f = rest

pub unlearnt-less : (w : CoreState) (u : UnitNo) (g : GrainId) →
    other_pairs (unlearnt w) u g ≡ filter (λ (t : UnitNo × GrainId). not (put w.cells.learnt u (put_grain (w.cells.learnt u) g true) t.0 t.1)) (to_learn w)
unlearnt-less w u g =
    filter-filter (λ (t : UnitNo × GrainId). not (is_pair u g t)) (λ (t : UnitNo × GrainId). not (w.cells.learnt t.0 t.1)) (to_learn w)
    ∙ filter-agree (λ (t : UnitNo × GrainId). not (w.cells.learnt t.0 t.1) && not (is_pair u g t)) (λ (t : UnitNo × GrainId). not (put w.cells.learnt u (put_grain (w.cells.learnt u) g true) t.0 t.1)) (to_learn w)
    (λ t m. at t.0 t.1 (cases_unit t.0 u) (cases_grain t.1 g))
  where
    not-and : (a b : Bool) → b ≡ false → (a && not b) ≡ a
    not-and true b e = ap not e
    not-and false b e = refl

    no-both : (a b : Bool) → b ≡ true → (a && not b) ≡ false
    no-both true b e = ap not e
    no-both false b e = refl

    false-right : (a b : Bool) → b ≡ false → (a && b) ≡ false
    false-right true b e = e
    false-right false b e = refl

    at : (x : UnitNo) (k : GrainId) → ((x ≡ u) ⊎ (x ≡ u → ⊥)) → ((k ≡ g) ⊎ (k ≡ g → ⊥)) →
        (not (w.cells.learnt x k) && not (same_unit x u && same_grain k g)) ≡ not (put w.cells.learnt u (put_grain (w.cells.learnt u) g true) x k)
    at x k (inl e) (inl q) =
        no-both (not (w.cells.learnt x k)) (same_unit x u && same_grain k g) (and_from (same_unit x u) (same_grain k g) (same_unit-is x u e) (same_grain-is k g q))
        ∙ sym (ap (λ (f : GrainId → Bool). not (f k)) (put-is w.cells.learnt u (put_grain (w.cells.learnt u) g true) x e) ∙ ap not (grain-is (w.cells.learnt u) g true k q))
    at x k (inl e) (inr n) =
        not-and (not (w.cells.learnt x k)) (same_unit x u && same_grain k g) (false-right (same_unit x u) (same_grain k g) (apart-grain k g n))
        ∙ ap (λ y. not (w.cells.learnt y k)) e
        ∙ sym (ap (λ (f : GrainId → Bool). not (f k)) (put-is w.cells.learnt u (put_grain (w.cells.learnt u) g true) x e) ∙ ap not (grain-other (w.cells.learnt u) g true k n))
      where
        apart-grain : (a b : GrainId) → (a ≡ b → ⊥) → same_grain a b ≡ false
        apart-grain a b d = elim (cases_Bool (same_grain a b)) [ inl t ↦ absurd (d (same_grain-true a b t)) | inr t ↦ t ]
    at x k (inr n) q =
        not-and (not (w.cells.learnt x k)) (same_unit x u && same_grain k g) (ap (λ b. b && same_grain k g) (same_unit-not x u n))
        ∙ sym (ap (λ (f : GrainId → Bool). not (f k)) (put-other w.cells.learnt u (put_grain (w.cells.learnt u) g true) x n))

-- a grain without a cell has nothing of the unit
learned-opened : (state : List Value) (u : UnitNo) (commits : Bool) → (u ≡ nobody → ⊥) → cell_learned (opened state) u commits ≡ opened state
learned-opened state u commits n = λ i. record { stack = same commits i; holds = []; readings = [] }
  where
    other : same_unit nobody u ≡ false
    other = same_unit-not nobody u (λ e. n (sym e))

    same : (b : Bool) → learnt b u (record { unit = nobody; state = state } ∷ []) ≡ record { unit = nobody; state = state } ∷ []
    same true = (λ i. if other i then record { unit = nobody; state = state } ∷ [] else record { unit = nobody; state = state } ∷ [])
    same false = (λ i. if (other i || false) then [] else record { unit = nobody; state = state } ∷ [])

put-self : {A : Type 0} (f : GrainId → A) (g : GrainId) (x : A) → x ≡ f g → put_grain f g x ≡ f
put-self f g x e = λ i q. at q i
  where
    at : (q : GrainId) → put_grain f g x q ≡ f q
    at q = grain-at f g x (λ y. y ≡ f q) q (λ z. e ∙ ap f (sym z)) (λ n. refl)

pub learnt-nothing : (t : CellTable) (u : UnitNo) (g : GrainId) (commits : Bool) → (u ≡ nobody → ⊥) → has_cell t g ≡ false → here_in t g ≡ true →
    cells_kept t ≡ put_grain (cells_kept t) g (Some (cell_learned (cell_in t g) u commits))
learnt-nothing t u g commits n none here = sym (put-self (cells_kept t) g (Some (cell_learned (cell_in t g) u commits)) (bare (cell_at t g) t.recent none here))
  where
    bare : (o : Option CellInRoom) (r : Option LastUsed) → is_some o ≡ false → is_some (kept_by o r ((opens_with t).states g)) ≡ true →
        Some (cell_learned (cell_or (kept_by o r ((opens_with t).states g)) ((opens_with t).states g)) u commits) ≡ kept_by o r ((opens_with t).states g)
    bare (Some c) r e h = cc
    bare None None e h = ap (λ (k : Cell). Some k) (learned-opened ((opens_with t).states g) u commits n)
    bare None (Some used) e h = cc

-- a grain that has a cell is in memory
pub cell-is-here : (t : CellTable) (g : GrainId) → has_cell t g ≡ true → here_in t g ≡ true
cell-is-here t g h = go (cell_at t g) t.recent h
  where
    go : (o : Option CellInRoom) (r : Option LastUsed) → is_some o ≡ true → is_some (kept_by o r ((opens_with t).states g)) ≡ true
    go (Some c) r e = refl
    go None r e = cc

-- the first pair that goes leaves the others
pub other-first : (ps : List (UnitNo × GrainId)) (u : UnitNo) (g : GrainId) → other_pairs (without_first ps u g) u g ≡ other_pairs ps u g
other-first [] u g = refl
other-first (p ∷ ps) u g = go (other-first ps u g) (is_pair u g p) refl
  where
    go : other_pairs (without_first ps u g) u g ≡ other_pairs ps u g → (b : Bool) → is_pair u g p ≡ b → other_pairs (if b then ps else p ∷ without_first ps u g) u g ≡ (if not b then p ∷ other_pairs ps u g else other_pairs ps u g)
    go rest true e = refl
    go rest false e = ap (λ (b : Bool). if not b then p ∷ other_pairs (without_first ps u g) u g else other_pairs (without_first ps u g) u g) e ∙ ap (λ t. p ∷ t) rest

pub first-shorter : (ps : List (UnitNo × GrainId)) (u : UnitNo) (g : GrainId) → has_pair ps u g ≡ true → length (without_first ps u g) < length ps
first-shorter [] u g e = cc
first-shorter (p ∷ ps) u g e = go (λ h. first-shorter ps u g h) (is_pair u g p) e
  where
    go : (has_pair ps u g ≡ true → length (without_first ps u g) < length ps) → (b : Bool) → (b || has_pair ps u g) ≡ true → length (if b then ps else p ∷ without_first ps u g) < length (p ∷ ps)
    go rest true h = omega arith
    go rest false h = (let t = rest h in omega (arith, t))

pub no-pair : (ps : List (UnitNo × GrainId)) (u : UnitNo) (g : GrainId) → has_pair ps u g ≡ false → other_pairs ps u g ≡ ps
no-pair [] u g e = refl
no-pair (p ∷ ps) u g e = go (λ h. no-pair ps u g h) (is_pair u g p) refl e
  where
    go : (has_pair ps u g ≡ false → other_pairs ps u g ≡ ps) → (b : Bool) → is_pair u g p ≡ b → (b || has_pair ps u g) ≡ false → (if not b then p ∷ other_pairs ps u g else other_pairs ps u g) ≡ p ∷ ps
    go rest true q h = cc
    go rest false q h = ap (λ t. p ∷ t) (rest h)

-- the cells after a lesson
learned-cells : (p : Parts) (w : CoreState) (u : UnitNo) (g : GrainId) (new : CellTable) → PartsStand p w →
    (here_in p.cells g ≡ true → cells_kept new ≡ put_grain (cells_kept p.cells) g (Some (cell_learned (cell_in p.cells g) u (is_committed (verdict_in p.units u))))) →
    (here_in p.cells g ≡ false → cells_kept new ≡ cells_kept p.cells) → new.recent ≡ p.cells.recent → opens_with new ≡ opens_with p.cells →
    (b : Bool) → here_in p.cells g ≡ b → StandsForCells (opens_with new).limit (cells_kept new) (used_of new.recent) (after_learn w u g).cells
learned-cells p w u g new s learns away recent opens true here =
    stands-as (opens_with p.cells).limit (opens_with new).limit (put_grain (cells_kept p.cells) g (Some (after_learn_in w u (cell_in p.cells g)))) (cells_kept new)
    (used_of p.cells.recent) (used_of new.recent) (after_learn w u g).cells (λ i. (opens i).limit)
    (learns here ∙ (λ i. put_grain (cells_kept p.cells) g (Some (cell_learned (cell_in p.cells g) u (is_committed (sym s.verdict i u)))))) (ap used_of recent)
    (learn-stands (opens_with p.cells).limit (cells_kept p.cells) (used_of p.cells.recent) w s.cells g (cell_in p.cells g) (cell-here p.cells g here) u)
learned-cells p w u g new s learns away recent opens false gone =
    stands-as (opens_with p.cells).limit (opens_with new).limit (cells_kept p.cells) (cells_kept new) (used_of p.cells.recent) (used_of new.recent) (after_learn w u g).cells (λ i. (opens i).limit)
    (away gone) (ap used_of recent)
    (learn-away (opens_with p.cells).limit (cells_kept p.cells) (used_of p.cells.recent) w s.cells u g (cell-away p.cells g gone))

-- then the grain goes where it is idle
pub does-learn : (p : Parts) (u : UnitNo) (g : GrainId) (learned new : CellTable) (learn : PairsInRoom) (wants : List (UnitNo × GrainId)) →
    (here_in p.cells g ≡ true → cells_kept learned ≡ put_grain (cells_kept p.cells) g (Some (cell_learned (cell_in p.cells g) u (is_committed (verdict_in p.units u))))) →
    (here_in p.cells g ≡ false → cells_kept learned ≡ cells_kept p.cells) → learned.recent ≡ p.cells.recent → opens_with learned ≡ opens_with p.cells →
    learn.pairs ≡ other_pairs p.learn.pairs u g → p.learn.spare ≤ learn.spare → wants ≡ wants_in p.units →
    cells_kept new ≡ evicted_by (opens_with learned).limit wants (used_of learned.recent) (g ∷ []) (cells_kept learned) → new.recent ≡ learned.recent → opens_with new ≡ opens_with learned →
    Does p (Learn u g) reply.Done (record p { cells = new; learn = learn })
does-learn p u g learned new learn wants learns away recent opens pairs more waits kept same begun =
    does-evicting p (record p { cells = learned; learn = learn }) (Learn u g) reply.Done new wants (g ∷ []) (λ w s r a. (
      record {
        units = s.units;
        cells = learned-cells p w u g learned s learns away recent opens (here_in p.cells g) refl;
        numbers = s.numbers;
        verdict = s.verdict;
        result = s.result;
        effects = s.effects;
        sources = s.sources;
        batch = s.batch;
        batches = s.batches;
        doubt = s.doubt;
        settled = s.settled;
        emitted = s.emitted;
        learn = pairs ∙ ap (λ ps. other_pairs ps u g) s.learn ∙ unlearnt-less w u g;
        handed = s.handed;
        last = s.last;
        room = record { entries = s.room.entries; learn = omega (arith, s.room.learn, more); places = s.room.places };
      },
      refl,
    )) waits (λ w s r a. refl) kept same begun
