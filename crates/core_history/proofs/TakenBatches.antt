-- Batches, read off a history.
use Rattle.std.proofs.Common.{◌≡◌, ℕ, zero, suc, ◌+◌, ◌≤◌, List, [], ◌∷◌, ◌++◌, length, take, drop, map, ◌&&◌, not, refl, sym, ap, ◌∙◌, arith, Option, Some, None, is_some, is_none, append-nil, length-take, length-drop, length-append}
use Rattle.std.specs.Prelude.{if◌then◌else◌}
use Rattle.std.specs.List.{list_all as all, prefix_len}
use Rattle.std.proofs.lemmas.List.{take-take, map_push, take-append-le, drop-append-le, length_push}
use Rattle.cell_model.specs.Locks.{holds_lock}
use Rattle.core_model.specs.declared.events.CoreEvent.{CoreEvent}
use Rattle.core_model.specs.declared.effects.Read.{Read}
use Rattle.core_model.specs.CoreState.{UnitNo, GrainId, Batch, CoreState}
use Rattle.core_model.specs.Tests.{free_prefix, is_free, waiting}
use Rattle.core_model.specs.Changes.{new_batch, decisions_of}
use Rattle.core_model.specs.Events.{batch_size}
use Rattle.core_model.specs.Consistency.{size_of}
use Rattle.core_laws.proofs.Orders.{free_prefix-length}
use Rattle.core_laws.proofs.EventCases.{Change, finish, take_batch, vote, decide_some, decide_none, seal_batch, spoil_batch, doubt_batch}
use Rattle.core_history.specs.Histories.{Applied}
use Rattle.core_history.specs.Units.{finish_order, held, reads_in}
use Rattle.core_history.specs.Batches.{holds_nothing, joined, waiting_in, next_batch, with_taken}
use Rattle.core_history.specs.States.{mode_of, parts, open_sizes, sizes_of, batches_of}
use Rattle.core_history.proofs.Words.{some-is}
use Rattle.core_history.proofs.Phases.{lock-mode}

-- how many units stand in parts of these sizes
abbrev pub total : List ℕ → ℕ
total [] = 0
total (n ∷ ns) = n + total ns

pub total-more : (ns : List ℕ) (n : ℕ) → total (ns ++ n ∷ []) ≡ total ns + n
total-more [] n = omega arith
total-more (m ∷ ns) n = (let t = total-more ns n in omega (arith, t))

-- one more part
pub parts-more : (ns : List ℕ) (n : ℕ) (us : List UnitNo) → parts (ns ++ n ∷ []) us ≡ parts ns us ++ take n (drop (total ns) us) ∷ []
parts-more [] n us = refl
parts-more (m ∷ ns) n us = ap (λ t. take m us ∷ t) (parts-more ns n (drop m us) ∙ ap (λ t. parts ns (drop m us) ++ take n t ∷ []) (drop-sum m (total ns) us))
  where
    drop-sum : (m k : ℕ) (xs : List UnitNo) → drop k (drop m xs) ≡ drop (m + k) xs
    drop-sum zero k xs = (let e : k ≡ 0 + k = omega arith in ap (λ z. drop z xs) e)
    drop-sum (suc m) zero [] = (let e : suc m ≡ suc m + 0 = omega arith in ap (λ z. drop z []) e)
    drop-sum (suc m) (suc k) [] = (let e : suc (m + suc k) ≡ suc m + suc k = omega arith in ap (λ z. drop z []) e)
    drop-sum (suc m) k (x ∷ xs) = (let e : suc (m + k) ≡ suc m + k = omega arith in drop-sum m k xs ∙ ap (λ z. drop z (x ∷ xs)) e)

-- one more unit at the end, after all parts
parts-longer : (ns : List ℕ) (us : List UnitNo) (x : UnitNo) → total ns ≤ length us → parts ns (us ++ x ∷ []) ≡ parts ns us
parts-longer [] us x le = refl
parts-longer (n ∷ ns) us x le =
    let head : take n (us ++ x ∷ []) ≡ take n us = take-append-le n us (x ∷ []) (omega (arith, le)) in
    let rest : parts ns (drop n (us ++ x ∷ [])) ≡ parts ns (drop n us) = ap (parts ns) (drop-append-le n us (x ∷ []) (omega (arith, le))) ∙ parts-longer ns (drop n us) x (omega (arith, le, length-drop n us)) in
    λ i. head i ∷ rest i

-- how many units stand in the parts
pub joined-length : (ns : List ℕ) (us : List UnitNo) → total ns ≤ length us → length (joined (parts ns us)) ≡ total ns
joined-length [] us le = refl
joined-length (n ∷ ns) us le =
    let a = joined-length ns (drop n us) (omega (arith, le, length-drop n us)) in
    let b = length-append (take n us) (joined (parts ns (drop n us))) in
    let c = length-take n us in omega (arith, a, b, c, le)

-- the sizes where a batch is open
pub sizes-open : (past : List Batch) (o : Option Batch) (b : Batch) → o ≡ Some b → sizes_of past o ≡ map (λ (b : Batch). b.size) past ++ b.size ∷ []
sizes-open past o b q = ap (sizes_of past) q

-- the sizes where no batch is open
pub sizes-none : (past : List Batch) (o : Option Batch) → o ≡ None → sizes_of past o ≡ map (λ (b : Batch). b.size) past
sizes-none past o q = ap (sizes_of past) q ∙ append-nil (map (λ (b : Batch). b.size) past)

-- a batch that closes keeps its place
sizes-closed : (past : List Batch) (o : Option Batch) (b c : Batch) → o ≡ Some b → c.size ≡ b.size → sizes_of (past ++ c ∷ []) None ≡ sizes_of past o
sizes-closed past o b c q s =
    append-nil (map (λ (b : Batch). b.size) (past ++ c ∷ [])) ∙ map_push (λ (b : Batch). b.size) past c ∙ ap (λ n. map (λ (b : Batch). b.size) past ++ n ∷ []) s ∙ sym (sizes-open past o b q)

-- the batches of a state follow one another
abbrev pub Parted : CoreState → Type 0
Parted w =
    (total (map (λ (b : Batch). b.size) w.manager.past) ≡ w.manager.closed)
    × (w.manager.closed + size_of w.manager.batch ≤ length w.manager.order)
    × (w.manager.batches ≡ length w.manager.past + length (open_sizes w.manager.batch))
    × ((b : Batch) → w.manager.batch ≡ Some b → b.number ≡ length w.manager.past + 1)

-- how many units stand in all batches
pub total-sizes : (w : CoreState) → Parted w → total (sizes_of w.manager.past w.manager.batch) ≡ w.manager.closed + size_of w.manager.batch
total-sizes w p = go w.manager.batch refl
  where
    go : (o : Option Batch) → w.manager.batch ≡ o → total (sizes_of w.manager.past w.manager.batch) ≡ w.manager.closed + size_of w.manager.batch
    go None q = ap total (sizes-none w.manager.past w.manager.batch q) ∙ p.0 ∙ omega (arith, ap size_of q)
    go (Some b) q = ap total (sizes-open w.manager.past w.manager.batch b q) ∙ total-more (map (λ (b : Batch). b.size) w.manager.past) b.size ∙ omega (arith, p.0, ap size_of q)

-- and that they are finished ones
pub all-in : (w : CoreState) → Parted w → total (sizes_of w.manager.past w.manager.batch) ≤ length w.manager.order
all-in w p = omega (arith, total-sizes w p, p.1)

-- where the open batch keeps its size
parted-same : (w : CoreState) (b c : Batch) → w.manager.batch ≡ Some b → c.number ≡ b.number → c.size ≡ b.size → Parted w → (
    (total (map (λ (b : Batch). b.size) w.manager.past) ≡ w.manager.closed)
    × (w.manager.closed + c.size ≤ length w.manager.order)
    × (w.manager.batches ≡ length w.manager.past + 1)
    × ((d : Batch) → Some c ≡ Some d → d.number ≡ length w.manager.past + 1))
parted-same w b c q n s p =
    (p.0, omega (arith, p.1, ap size_of q, s), p.2 ∙ ap (λ o. length w.manager.past + length (open_sizes o)) q, λ d e. ap (λ (t : Batch). t.number) (sym (some-is c d e)) ∙ n ∙ p.3 b q)

-- where it closes
parted-closed : (w : CoreState) (b c : Batch) → w.manager.batch ≡ Some b → c.size ≡ b.size → Parted w → (
    (total (map (λ (b : Batch). b.size) (w.manager.past ++ c ∷ [])) ≡ w.manager.closed + b.size)
    × (w.manager.closed + b.size + 0 ≤ length w.manager.order)
    × (w.manager.batches ≡ length (w.manager.past ++ c ∷ []) + 0)
    × ((d : Batch) → None ≡ Some d → d.number ≡ length (w.manager.past ++ c ∷ []) + 1))
parted-closed w b c q s p = (
  ap total (map_push (λ (b : Batch). b.size) w.manager.past c) ∙ total-more (map (λ (b : Batch). b.size) w.manager.past) c.size ∙ omega (arith, p.0, s),
  omega (arith, p.1, ap size_of q),
  p.2 ∙ ap (λ o. length w.manager.past + length (open_sizes o)) q ∙ omega (arith, length_push w.manager.past c),
  λ d e. cc,
)

-- the batches after an event follow one another
pub parted-after : (w : CoreState) (e : CoreEvent) (w' : CoreState) → Change w e w' → Parted w → Parted w'
parted-after w e w' (finish u effect running plain of_call reads alone) p = (p.0, omega (arith, p.1, length_push w.manager.order u), p.2, p.3)
parted-after w e w' (take_batch none some) p = (
  p.0,
  omega (arith, free_prefix-length w (take 64 (waiting w)), length-take 64 (waiting w), length-drop w.manager.closed w.manager.order, p.1, ap size_of none),
  (let t = p.2 ∙ ap (λ o. length w.manager.past + length (open_sizes o)) none in omega (arith, t)),
  λ d e. ap (λ (t : Batch). t.number) (sym (some-is (new_batch w (batch_size w)) d e)) ∙ (let t = p.2 ∙ ap (λ o. length w.manager.past + length (open_sizes o)) none in omega (arith, t)),
)
parted-after w e w' (vote n g kept b q number d planned fresh) p = parted-same w b (record b { votes = b.votes ++ (g, kept) ∷ [] }) q refl refl p
parted-after w e w' (decide_some n b q number d voted some) p = parted-same w b (record b { decisions = Some (decisions_of w b) }) q refl refl p
parted-after w e w' (decide_none n b q number d voted none) p = parted-closed w b (record b { decisions = Some (decisions_of w b) }) q refl p
parted-after w e w' (seal_batch n b ds q number d) p = parted-closed w b (record b { decisions = Some ds }) q refl p
parted-after w e w' (spoil_batch n b ds q number d) p = parted-closed w b (record b { decisions = Some ds }) q refl p
parted-after w e w' (doubt_batch n b ds q number d) p = parted-closed w b (record b { decisions = Some ds }) q refl p
parted-after w e w' c p = p

-- who is free by the state is free by the history
free-is : (h : List Applied) (w : CoreState) → ((u : UnitNo) (g : GrainId) → mode_of u (w.cells.holds g) ≡ held u g h) → ((u : UnitNo) → w.units.reads u ≡ reads_in u h) → (u : UnitNo) → holds_nothing h u ≡ is_free w u
free-is h w modes reads u = ap (all (λ r. is_none (held u r.grain h))) (sym (reads u)) ∙ go (w.units.reads u)
  where
    no : {A : Type 0} (o : Option A) → is_none o ≡ not (is_some o)
    no None = refl
    no (Some x) = refl

    go : (rs : List Read) → all (λ r. is_none (held u r.grain h)) rs ≡ all (λ r. not (holds_lock u (w.cells.holds r.grain))) rs
    go [] = refl
    go (r ∷ rs) =
        let head : is_none (held u r.grain h) ≡ not (holds_lock u (w.cells.holds r.grain)) = ap is_none (sym (modes u r.grain)) ∙ no (mode_of u (w.cells.holds r.grain)) ∙ ap not (sym (lock-mode u (w.cells.holds r.grain))) in
        let rest = go rs in λ i. head i && rest i

-- the longest free prefix is the same
prefix-is : (h : List Applied) (w : CoreState) → ((u : UnitNo) → holds_nothing h u ≡ is_free w u) → (us : List UnitNo) → prefix_len (holds_nothing h) us ≡ free_prefix w us
prefix-is h w free [] = refl
prefix-is h w free (u ∷ us) =
    let n : 1 + prefix_len (holds_nothing h) us ≡ free_prefix w us + 1 = (let t = prefix-is h w free us in omega (arith, t)) in
    (λ i. if free u i then n i else 0)

-- the batch that a state takes is the history's next
next-is : (h : List Applied) (w : CoreState) → w.manager.order ≡ finish_order h → ((u : UnitNo) (g : GrainId) → mode_of u (w.cells.holds g) ≡ held u g h) → ((u : UnitNo) → w.units.reads u ≡ reads_in u h) → Parted w →
    w.manager.batch ≡ None → take (batch_size w) (waiting w) ≡ next_batch h (batches_of w)
next-is h w order modes reads p none =
    let first : List UnitNo = take 64 (waiting w) in
    let len : length (joined (batches_of w)) ≡ w.manager.closed = joined-length (sizes_of w.manager.past w.manager.batch) w.manager.order (all-in w p) ∙ total-sizes w p ∙ omega (arith, ap size_of none) in
    let left : waiting_in h (batches_of w) ≡ waiting w = (λ i. drop (len i) (sym order i)) in
    let size : prefix_len (holds_nothing h) first ≡ batch_size w = prefix-is h w (free-is h w modes reads) first in
    sym (take-take (batch_size w) 64 (waiting w) (omega (arith, free_prefix-length w first, length-take 64 (waiting w))))
    ∙ ap (λ n. take n first) (sym size) ∙ ap (λ us. take (prefix_len (holds_nothing h) (take 64 us)) (take 64 us)) (sym left)

-- the batches after an event
pub batches-after : (h : List Applied) (w : CoreState) (e : CoreEvent) (w' : CoreState) → Change w e w' → w.manager.order ≡ finish_order h → ((u : UnitNo) (g : GrainId) → mode_of u (w.cells.holds g) ≡ held u g h) →
    ((u : UnitNo) → w.units.reads u ≡ reads_in u h) → Parted w → batches_of w' ≡ with_taken h (batches_of w) e
batches-after h w e w' (finish u effect running plain of_call reads alone) order modes rs p = parts-longer (sizes_of w.manager.past w.manager.batch) w.manager.order u (all-in w p)
batches-after h w e w' (take_batch none some) order modes rs p =
    (let ns : List ℕ = map (λ (b : Batch). b.size) w.manager.past in
    parts-more ns (batch_size w) w.manager.order
    ∙ ap (λ k. parts ns w.manager.order ++ take (batch_size w) (drop k w.manager.order) ∷ []) p.0
    ∙ ap (λ t. parts ns w.manager.order ++ t ∷ []) (next-is h w order modes rs p none)
    ∙ ap (λ t. parts t w.manager.order ++ next_batch h (batches_of w) ∷ []) (sym (sizes-none w.manager.past w.manager.batch none)))
batches-after h w e w' (vote n g kept b q number d planned fresh) order modes rs p = ap (λ t. parts t w.manager.order) (sym (sizes-open w.manager.past w.manager.batch b q))
batches-after h w e w' (decide_some n b q number d voted some) order modes rs p = ap (λ t. parts t w.manager.order) (sym (sizes-open w.manager.past w.manager.batch b q))
batches-after h w e w' (decide_none n b q number d voted none) order modes rs p = ap (λ t. parts t w.manager.order) (sizes-closed w.manager.past w.manager.batch b (record b { decisions = Some (decisions_of w b) }) q refl)
batches-after h w e w' (seal_batch n b ds q number d) order modes rs p = ap (λ t. parts t w.manager.order) (sizes-closed w.manager.past w.manager.batch b (record b { decisions = Some ds }) q refl)
batches-after h w e w' (spoil_batch n b ds q number d) order modes rs p = ap (λ t. parts t w.manager.order) (sizes-closed w.manager.past w.manager.batch b (record b { decisions = Some ds }) q refl)
batches-after h w e w' (doubt_batch n b ds q number d) order modes rs p = ap (λ t. parts t w.manager.order) (sizes-closed w.manager.past w.manager.batch b (record b { decisions = Some ds }) q refl)
batches-after h w e w' c order modes rs p = refl
