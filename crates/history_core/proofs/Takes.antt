-- The size of the next batch, and the state after it was taken.
use Rattle.std.proofs.Common.{◌≡◌, ℕ, zero, suc, ◌+◌, ◌<◌, ◌≤◌, List, [], ◌∷◌, ◌++◌, Bool, true, false, ◌&&◌, not, inl, inr, refl, sym, ap, ◌∙◌, subst, arith, Option, Some, None, length, take, drop, map, nat_lt, is_none, Vec, Global}
use Rattle.std.specs.Prelude.{if◌then◌else◌, slice_get}
use Rattle.std.specs.List.{list_all as all}
use Rattle.std.proofs.lemmas.Bool.{and_parts, lt-ltb}
use Rattle.std.proofs.lemmas.List.{take-map}
use Rattle.cell_model.specs.Locks.{holds_lock}
use Rattle.core_model.specs.CoreState.{UnitNo, GrainId, Batch, CoreState}
use Rattle.core_model.specs.declared.effects.Effect.{Effect}
use Rattle.core_model.specs.declared.effects.Read.{Read}
use Rattle.core_model.specs.declared.events.CoreEvent.TheVariants.{Take}
use Rattle.core_model.specs.declared.events.CoreReply.TheVariants as reply
use Rattle.core_model.specs.Tests.{is_free, free_prefix, waiting, is_bad}
use Rattle.core_model.specs.Answers.{effect_of}
use Rattle.core_model.specs.Changes.{new_batch}
use Rattle.core_model.specs.Events.{batch_size, applies, does, reply_with}
use Rattle.core_laws.proofs.EventCases.{none-true}
use Rattle.core_parts.specs.Room.{EntriesInRoom, PairsInRoom}
use Rattle.core_parts.specs.States.{last_in, has_place}
use Rattle.core_parts.specs.declared.last_states.LastStates.{LastStates}
use Rattle.cell_table.specs.Table.{cell_in}
use Rattle.unit_table.specs.Table.{verdict_in}
use Rattle.open_batch.specs.declared.members.FinishedUnit.{FinishedUnit}
use Rattle.open_batch.specs.Members.{effect_in, sources_in}
use Rattle.open_batch.specs.TakenBatch.{TakenBatch, first_batch}
use Rattle.open_batch.specs.ShownBatch.{AreUnits, ShowsBatch}
use Rattle.open_batch.proofs.ModelBatch.{units-taken}
use Rattle.open_batch.proofs.Stages.{shows-taken}
use Rattle.history_core.specs.declared.parts.Parts.{Parts}
use Rattle.history_core.specs.KeptParts.{PartsStand, IsCoreReached, ShowsOpen, ShowsTakenBatch, HasRoom, AllPlaced, EachPlaced, owed_in, members_in, writes_in}
use Rattle.history_core.specs.UnitsWithoutLocks.{is_free_by, front_by}
use Rattle.history_core.specs.Steps.{CanDo, KeepsMeaning, Does}
use Rattle.history_core.proofs.OpenBatches.{to-cases, from-cases, each-placed, placed-each}
use Rattle.history_core.proofs.OneEvent.{can-is}
use Rattle.history_core.proofs.MemoryCells.{holds-is}

pub are-units : (p : Parts) (w : CoreState) → PartsStand p w → AreUnits p.waiting.items w (waiting w)
are-units p w s = record { effects = s.effects; sources = s.sources }

-- by copies of the grains that it read
pub free-by : (p : Parts) (e : Effect) (told : Bool) (reads : List Read) → told ≡ all (λ (r : Read). not (holds_lock e.unit (cell_in p.cells r.grain).holds)) reads → reads ≡ e.reads → told ≡ is_free_by p e
free-by p e told reads is same = is ∙ ap (λ (rs : List Read). all (λ (r : Read). not (holds_lock e.unit (cell_in p.cells r.grain).holds)) rs) same

free-is : (p : Parts) (w : CoreState) → PartsStand p w → (u : UnitNo) → is_free_by p (effect_of w u) ≡ is_free w u
free-is p w s u = λ i. all (λ (r : Read). not (holds_lock u (sym (holds-is p.cells w.cells s.cells) i r.grain))) (w.units.reads u)

front-prefix : (p : Parts) (w : CoreState) → PartsStand p w → (us : List UnitNo) → front_by p (map (effect_of w) us) ≡ free_prefix w us
front-prefix p w s [] = refl
front-prefix p w s (u ∷ us) = (let one = free-is p w s u in let rest = front-prefix p w s us in λ i. if one i then rest i + 1 else 0)

pub size-is : (p : Parts) (w : CoreState) → PartsStand p w → front_by p (map effect_in (take 64 p.waiting.items)) ≡ batch_size w
size-is p w s =
    ap (front_by p) (sym (take-map effect_in 64 p.waiting.items) ∙ ap (take 64) s.effects ∙ take-map (effect_of w) 64 (waiting w))
    ∙ front-prefix p w s (take 64 (waiting w))

-- a batch has a unit where the first that waits is free
none-fronts : (p : Parts) (ms : List FinishedUnit) → slice_get ms 0 ≡ None → false ≡ nat_lt 0 (front_by p (map effect_in (take 64 ms)))
none-fronts p [] q = refl
none-fronts p (m ∷ ms) q = absurd cc

first-fronts : (p : Parts) (ms : List FinishedUnit) (m : FinishedUnit) → slice_get ms 0 ≡ Some m → is_free_by p m.effect ≡ nat_lt 0 (front_by p (map effect_in (take 64 ms)))
first-fronts p [] m q = absurd cc
first-fronts p (x ∷ ms) m q = ap (λ (y : FinishedUnit). is_free_by p y.effect) (sym (same x m q)) ∙ by (is_free_by p x.effect)
  where
    same : (a b : FinishedUnit) → Some a ≡ Some b → a ≡ b
    same a b e = cc

    by : (b : Bool) → b ≡ nat_lt 0 (if b then front_by p (map effect_in (take 63 ms)) + 1 else 0)
    by true = sym (lt-ltb 0 (front_by p (map effect_in (take 63 ms)) + 1) (omega arith))
    by false = refl

pub none-front : (p : Parts) (w : CoreState) → PartsStand p w → slice_get p.waiting.items 0 ≡ None → false ≡ nat_lt 0 (batch_size w)
none-front p w s q = none-fronts p p.waiting.items q ∙ ap (nat_lt 0) (size-is p w s)

pub first-front : (p : Parts) (w : CoreState) (m : FinishedUnit) → PartsStand p w → slice_get p.waiting.items 0 ≡ Some m → is_free_by p m.effect ≡ nat_lt 0 (batch_size w)
first-front p w m s q = first-fronts p p.waiting.items m q ∙ ap (nat_lt 0) (size-is p w s)

-- what a batch takes its room of, where none is open
pub keeps-room : (p : Parts) (entries : EntriesInRoom) (learn : PairsInRoom) (last : LastStates) → p.batch ≡ None →
    entries.entries ≡ p.entries.entries → entries.emitted ≡ p.entries.emitted → learn.pairs ≡ p.learn.pairs → ((g : GrainId) → last_in last g ≡ last_in p.last g) →
    KeepsMeaning p (record p { entries = entries; learn = learn; last = last })
keeps-room p entries learn last none es em pairs same = λ w s. record {
  units = s.units;
  numbers = s.numbers;
  cells = s.cells;
  verdict = s.verdict;
  result = s.result;
  effects = s.effects;
  sources = s.sources;
  batch = s.batch;
  batches = s.batches;
  doubt = s.doubt;
  settled = s.settled ∙ sym es;
  emitted = s.emitted ∙ sym em;
  learn = pairs ∙ s.learn;
  handed = s.handed;
  last = λ g. same g ∙ s.last g;
  room = record {
    entries = subst (λ o. owed_in o ≤ entries.spare) (sym none) (omega arith);
    learn = subst (λ o. writes_in (take (owed_in o) p.waiting.items) ≤ learn.spare) (sym none) (omega arith);
    places = subst (λ o. EachPlaced (has_place last) (take (owed_in o) p.waiting.items)) (sym none) (λ m i x j. absurd i);
  };
}

-- no batch is open where a take applies
pub none-open : (p : Parts) → CanDo p Take → p.batch ≡ None
none-open p c = go p.batch c.0.manager.batch refl (to-cases p.batch p.waiting.items c.0.manager.batch c.1.batch) (none-true c.0.manager.batch (and_parts (is_none c.0.manager.batch) (nat_lt 0 (batch_size c.0)) (can-is c.0 Take c.3)).0)
  where
    go : (o : Option TakenBatch) (b : Option Batch) → p.batch ≡ o → ShowsOpen p.batch p.waiting.items b → b ≡ None → p.batch ≡ None
    go None b e s n = e
    go (Some x) b e s n = absurd (by_shows (subst (λ z. ShowsOpen z p.waiting.items b) e s) n)
      where
        by_shows : ShowsOpen (Some x) p.waiting.items b → b ≡ None → ⊥
        by_shows t q = subst (λ z. ShowsOpen (Some x) p.waiting.items z) q t

pub takes-at : (p : Parts) (size number : ℕ) (x : TakenBatch) (w : CoreState) → PartsStand p w → size ≡ batch_size w → size ≤ length p.waiting.items → number ≡ p.batches + 1 →
    x ≡ first_batch number (λ u. is_bad (verdict_in p.units u)) (take size p.waiting.items) →
    size ≤ p.entries.spare → writes_in (take size p.waiting.items) ≤ p.learn.spare → AllPlaced (has_place p.last) (take size p.waiting.items) →
    PartsStand (record p { batches = number; batch = Some x }) (does w Take) × (reply.Taken number ≡ reply_with w Take)
takes-at p size number x w s is within n made entries learn places = (
  record {
    units = s.units;
    numbers = s.numbers;
    cells = s.cells;
    verdict = s.verdict;
    result = s.result;
    effects = s.effects;
    sources = s.sources;
    batch = from-cases (Some x) p.waiting.items (Some (new_batch w (batch_size w))) shows;
    batches = ap (λ k. k + 1) s.batches ∙ sym n;
    doubt = s.doubt;
    settled = s.settled;
    emitted = s.emitted;
    learn = s.learn;
    handed = s.handed;
    last = s.last;
    room = record {
      entries = subst (λ k. k ≤ p.entries.spare) (sym len) entries;
      learn = subst (λ k. writes_in (take k p.waiting.items) ≤ p.learn.spare) (sym len) learn;
      places = subst (λ k. EachPlaced (has_place p.last) (take k p.waiting.items)) (sym len) (each-placed (has_place p.last) (take size p.waiting.items) places);
    };
  },
  ap reply.Taken (n ∙ ap (λ k. k + 1) (sym s.batches)),
)
  where
    front_length : {A : Type 0} (k : ℕ) (xs : List A) → k ≤ length xs → length (take k xs) ≡ k
    front_length zero xs h = refl
    front_length (suc k) [] h = absurd (omega arith)
    front_length (suc k) (y ∷ ys) h = ap suc (front_length k ys (omega arith))

    len : x.size ≡ size
    len = ap (λ (z : TakenBatch). z.size) made ∙ front_length size p.waiting.items within

    shows : ShowsBatch x (take (batch_size w) p.waiting.items) (new_batch w (batch_size w))
    shows =
        subst (λ z. ShowsBatch z (take (batch_size w) p.waiting.items) (new_batch w (batch_size w))) (sym (made ∙ ap (λ k. first_batch number (λ u. is_bad (verdict_in p.units u)) (take k p.waiting.items)) is))
        (shows-taken (verdict_in p.units) number (batch_size w) (take (batch_size w) p.waiting.items) w s.verdict (n ∙ ap (λ k. k + 1) (sym s.batches))
        (ap (λ k. length (take k p.waiting.items)) (sym is) ∙ front_length size p.waiting.items within ∙ is)
        (units-taken (batch_size w) p.waiting.items w (waiting w) (are-units p w s)))

pub front-short : {A : Type 0} (n : ℕ) (xs : List A) → length (take n xs) ≤ n
front-short zero xs = omega arith
front-short (suc n) [] = omega arith
front-short (suc n) (x ∷ xs) = (let t = front-short n xs in omega (arith, t))

pub front-within : {A : Type 0} (n : ℕ) (xs : List A) → length (take n xs) ≤ length xs
front-within zero xs = omega arith
front-within (suc n) [] = omega arith
front-within (suc n) (x ∷ xs) = (let t = front-within n xs in omega (arith, t))
