-- Who is in which batch.
use Rattle.std.proofs.Common.{◌≡◌, ℕ, zero, suc, ◌+◌, ◌-◌, ◌<◌, ◌≤◌, List, [], ◌∷◌, ◌++◌, length, get_or, take, drop, map, ◌⊎◌, inl, inr, refl, sym, ap, ◌∙◌, subst, arith, Some, length-drop, length-append}
use Rattle.std.proofs.lemmas.Bool.{cases_lt}
use Rattle.std.proofs.lemmas.List.{length-map, get_or_append_left, get_or_at, get_or_past, length_push}
use Rattle.core_model.specs.declared.events.CoreEvent.{CoreEvent}
use Rattle.core_model.specs.declared.events.CoreEvent.TheVariants.{Take}
use Rattle.core_model.specs.declared.phases.Phase.TheVariants.{Finished}
use Rattle.core_model.specs.CoreState.{UnitNo, GrainId, nobody, Value, Batch, CoreState, Member}
use Rattle.core_model.specs.Tests.{members, waiting}
use Rattle.core_laws.proofs.Invariant.{Inv, loadless-of}
use Rattle.core_laws.proofs.Orders.{in_drop, take_length, at_part, Member-take, Member-get}
use Rattle.core_laws.proofs.KeptInvariant.{Kept}
use Rattle.core_history.specs.Histories.{Applied}
use Rattle.core_history.specs.Batches.{InBatch, with_taken, batches_in, next_batch}
use Rattle.core_history.specs.States.{parts, open_sizes, sizes_of}
use Rattle.core_history.proofs.Words.{more, batches-more}
use Rattle.core_history.proofs.AnyEvents.{Tells}
use Rattle.core_history.proofs.TakenBatches.{parts-more, sizes-open}
use Rattle.core_laws.proofs.Votes.{Member-drop}

parts-length : (ns : List ℕ) (us : List UnitNo) → length (parts ns us) ≡ length ns
parts-length [] us = refl
parts-length (n ∷ ns) us = ap suc (parts-length ns (drop n us))

-- who stands in a part stands in the list
parts-member : (ns : List ℕ) (us : List UnitNo) (i : ℕ) (u : UnitNo) → Member u (get_or (parts ns us) i []) → Member u us
parts-member [] us i u m = absurd m
parts-member (n ∷ ns) us zero u m = Member-take n u us m
parts-member (n ∷ ns) us (suc i) u m = Member-drop n u us (parts-member ns (drop n us) i u m)

-- an item that has members stands in the list
within : (bs : List (List UnitNo)) (i : ℕ) (u : UnitNo) → Member u (get_or bs i []) → i < length bs
within bs i u m = elim (cases_lt i (length bs)) [
  | inl lt ↦ lt
  | inr le ↦ absurd (subst (Member u) (get_or_past bs i [] le) m)
]

-- who stands in a batch has finished
pub batch-finished : (opening : GrainId → List Value) (h : List Applied) (w : CoreState) → Kept opening w → Tells h w → (n : ℕ) (u : UnitNo) → InBatch h n u → w.units.phase u ≡ Finished
batch-finished opening h w k t n u b =
    let m : Member u w.manager.order = parts-member (sizes_of w.manager.past w.manager.batch) w.manager.order b.0 u (subst (λ (bs : List (List UnitNo)). Member u (get_or bs b.0 [])) (sym t.batches) b.2) in
    (in_drop _ w (loadless-of opening _ w k.0) 0 u m).0

-- how many batches there are
pub batch-count : (h : List Applied) (w : CoreState) → Tells h w → length (batches_in h) ≡ w.manager.batches
batch-count h w t =
    ap length (sym t.batches) ∙ parts-length (sizes_of w.manager.past w.manager.batch) w.manager.order
    ∙ length-append (map (λ (b : Batch). b.size) w.manager.past) (open_sizes w.manager.batch)
    ∙ ap (λ n. n + length (open_sizes w.manager.batch)) (length-map w.manager.past (λ (b : Batch). b.size)) ∙ sym t.parted.2

-- only a take adds a batch
is-take : (e : CoreEvent) → (e ≡ Take) ⊎ ((h : List Applied) (bs : List (List UnitNo)) → with_taken h bs e ≡ bs)
is-take Take = inl refl
is-take e = inr (λ h bs. refl)

-- who is in a batch stays in it
pub batch-before : (h : List Applied) (a : Applied) (n : ℕ) (u : UnitNo) → InBatch h n u → InBatch (more h a) n u
batch-before h a n u b = elim (is-take a.event) [
  | inl q ↦ (
    b.0,
    b.1,
    subst (λ (bs : List (List UnitNo)). Member u (get_or bs b.0 [])) (sym (batches-more h a ∙ ap (with_taken h (batches_in h)) q))
        (subst (Member u) (sym (get_or_append_left (batches_in h) (next_batch h (batches_in h) ∷ []) [] b.0 (within (batches_in h) b.0 u b.2))) b.2),
  )
  | inr q ↦ (b.0, b.1, subst (λ (bs : List (List UnitNo)). Member u (get_or bs b.0 [])) (sym (batches-more h a ∙ q h (batches_in h))) b.2)
]

-- and came into it by the event, or before
pub batch-cases : (h : List Applied) (a : Applied) (n : ℕ) (u : UnitNo) → InBatch (more h a) n u → InBatch h n u ⊎ ((a.event ≡ Take) × (n ≡ length (batches_in h) + 1))
batch-cases h a n u b = elim (is-take a.event) [
  | inl q ↦ (let m : Member u (get_or (batches_in h ++ next_batch h (batches_in h) ∷ []) b.0 []) = subst (λ (bs : List (List UnitNo)). Member u (get_or bs b.0 [])) (batches-more h a ∙ ap (with_taken h (batches_in h)) q) b.2 in
      let lt = within (batches_in h ++ next_batch h (batches_in h) ∷ []) b.0 u m in
      elim (cases_lt b.0 (length (batches_in h))) [
        | inl l ↦ inl (b.0, b.1, subst (Member u) (get_or_append_left (batches_in h) (next_batch h (batches_in h) ∷ []) [] b.0 l) m)
        | inr l ↦ inr (q, omega (arith, b.1, l, lt, length_push (batches_in h) (next_batch h (batches_in h))))
      ])
  | inr q ↦ inl (b.0, b.1, subst (λ (bs : List (List UnitNo)). Member u (get_or bs b.0 [])) (batches-more h a ∙ q h (batches_in h)) b.2)
]

-- the open batch is the last one
open-last : (h : List Applied) (w : CoreState) (b : Batch) → Tells h w → w.manager.batch ≡ Some b → get_or (batches_in h) (length w.manager.past) [] ≡ members w b
open-last h w b t q =
    let ns : List ℕ = map (λ (b : Batch). b.size) w.manager.past in
    let is : batches_in h ≡ parts ns w.manager.order ++ members w b ∷ [] =
    sym t.batches ∙ ap (λ z. parts z w.manager.order) (sizes-open w.manager.past w.manager.batch b q) ∙ parts-more ns b.size w.manager.order
    ∙ ap (λ z. parts ns w.manager.order ++ take b.size (drop z w.manager.order) ∷ []) t.parted.0 in
    ap (λ (bs : List (List UnitNo)). get_or bs (length w.manager.past) []) is
    ∙ get_or_at (parts ns w.manager.order) (members w b) [] [] (length w.manager.past) (parts-length ns w.manager.order ∙ length-map w.manager.past (λ (b : Batch). b.size))

-- the units of the open batch are those of its number
pub open-batch : (h : List Applied) (w : CoreState) (b : Batch) → Tells h w → w.manager.batch ≡ Some b → (u : UnitNo) → Member u (members w b) → InBatch h b.number u
open-batch h w b t q u m = (length w.manager.past, t.parted.3 b q, subst (Member u) (sym (open-last h w b t q)) m)

-- and the other way round
pub open-member : (h : List Applied) (w : CoreState) (b : Batch) → Tells h w → w.manager.batch ≡ Some b → (u : UnitNo) → InBatch h b.number u → Member u (members w b)
open-member h w b t q u i =
    let at : i.0 ≡ length w.manager.past = omega (arith, i.1, t.parted.3 b q) in
    subst (Member u) (open-last h w b t q) (subst (λ k. Member u (get_or (batches_in h) k [])) at i.2)

-- a finished unit after the closed batches and up to the open one's end is in the open one
pub placed-member : (opening : GrainId → List Value) (n : ℕ) (w : CoreState) (b : Batch) → Inv opening n w → w.manager.closed + b.size ≤ length w.manager.order → (x : UnitNo) → w.units.phase x ≡ Finished →
    w.manager.closed < w.manager.place x → w.manager.place x ≤ w.manager.closed + b.size → Member x (members w b)
placed-member opening n w b i le x f new last =
    let t = i.placed x f in
    let j : ℕ = t.0 - w.manager.closed in
    let at : w.manager.closed + j ≡ t.0 = omega (arith, t.2, new) in
    let short : length (members w b) ≡ b.size = take_length b.size (waiting w) (omega (arith, length-drop w.manager.closed w.manager.order, le)) in
    let lt : j < b.size = omega (arith, t.2, new, last) in
    subst (λ z. Member z (members w b))
    (at_part b.size w.manager.closed w.manager.order j lt ∙ ap (λ z. get_or w.manager.order z nobody) at ∙ t.3)
    (Member-get (members w b) j (omega (arith, short, lt)))
