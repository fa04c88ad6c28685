-- The state after a transaction has finished.
use Rattle.std.proofs.Common.{◌≡◌, ℕ, ◌+◌, ◌≤◌, List, [], ◌∷◌, ◌++◌, Bool, true, false, ◌&&◌, not, inl, inr, refl, sym, ap, ◌∙◌, subst, arith, Option, Some, None, length, take, map, filter, length-take, Vec, Global}
use Rattle.std.specs.Prelude.{if◌then◌else◌, flat_map}
use Rattle.std.proofs.lemmas.Bool.{and_from, cases_Bool}
use Rattle.cell_model.specs.Units.{Member, same_unit, same_grain}
use Rattle.cell_model.specs.Locks.{holds_lock, is_hold_of}
use Rattle.cell_model.proofs.Units.{any-true, same_unit-true, same_unit-is, same_unit-not, same_grain-true, same_grain-is, cases_unit, cases_grain}
use Rattle.core_model.specs.CoreState.{UnitNo, GrainId, Value, Write, Outcome, Batch, Units, CoreState, put}
use Rattle.core_model.specs.declared.effects.Read.{Read}
use Rattle.core_model.specs.declared.effects.Effect.{Effect}
use Rattle.core_model.specs.declared.phases.Phase.TheVariants.{Running, Finished}
use Rattle.core_model.specs.declared.events.CoreEvent.TheVariants.{Finish}
use Rattle.core_model.specs.declared.events.CoreReply.TheVariants as reply
use Rattle.core_model.specs.Tests.{is_final, is_running, waiting, state_written}
use Rattle.core_model.specs.Answers.{effect_of}
use Rattle.core_model.specs.Changes.{finished, without_wants}
use Rattle.core_laws.proofs.Puts.{put-is, put-same, put-other}
use Rattle.core_laws.proofs.EventCases.{Change, finish, decode}
use Rattle.core_laws.proofs.UnitPlays.{parts-of}
use Rattle.core_model.specs.Events.{applies, does}
use Rattle.core_laws.proofs.Basics.{is_running-true}
use Rattle.cell_memory.specs.LeavingGrains.{evicted_by, wanted_of}
use Rattle.cell_table.specs.Table.{cells_kept, opens_with, used_of}
use Rattle.cell_table.specs.declared.table.CellTable.{CellTable}
use Rattle.core_parts.specs.States.{handed_in, has_place}
use Rattle.core_parts.specs.declared.handed_states.HandedStates.{HandedStates}
use Rattle.unit_table.specs.Parts.{units_over}
use Rattle.unit_table.specs.Table.{units_of, verdict_in, result_in, deps_in, phase_in, wants_in}
use Rattle.unit_table.specs.declared.table.UnitTable.{UnitTable}
use Rattle.open_batch.specs.declared.members.FinishedUnit.{FinishedUnit}
use Rattle.open_batch.specs.Members.{effect_in, sources_in}
use Rattle.open_batch.specs.TakenBatch.{TakenBatch}
use Rattle.open_batch.specs.ShownBatch.{ShowsBatch}
use Rattle.history_core.specs.declared.parts.Parts.{Parts}
use Rattle.history_core.specs.ClosedUnits.{unlearnt, last_state, last_among}
use Rattle.history_core.specs.HandedWrites.{put_handed, cleared, with_writes}
use Rattle.history_core.specs.KeptParts.{PartsStand, IsCoreReached, ShowsOpen, ShowsTakenBatch, EachPlaced, owed_in, members_in, writes_in}
use Rattle.history_core.specs.Steps.{CanDo, Changes, KeepsMeaning, Does}
use Rattle.history_core.proofs.Sweeps.{does-evicting, waits-over}
use Rattle.history_core.proofs.OneEvent.{can-is}
use Rattle.history_core.proofs.OpenBatches.{to-cases, from-cases}
use Rattle.history_core.proofs.Lists.{map-agree, flat-agree, filter-in, map-last, drop-last, take-last, last-agree}
use Rattle.history_core.proofs.CoreStates.{rests, waits-not, closes-not, closed-within}

-- ---- what is kept of the writes

pub put-handed-is : (f : UnitNo → GrainId → Option (List Value)) (u : UnitNo) (g : GrainId) (s : Option (List Value)) → put_handed f u g s u g ≡ s
unfolding put_handed
put-handed-is f u g s = ap (λ b. if b then s else f u g) (and_from (same_unit u u) (same_grain g g) (same_unit-is u u refl) (same_grain-is g g refl))

pub put-handed-grain : (f : UnitNo → GrainId → Option (List Value)) (u : UnitNo) (g : GrainId) (s : Option (List Value)) (k : GrainId) → (k ≡ g → ⊥) → put_handed f u g s u k ≡ f u k
unfolding put_handed
put-handed-grain f u g s k n = by_test (same_unit u u)
  where
    apart : same_grain k g ≡ false
    apart = elim (cases_Bool (same_grain k g)) [ inl t ↦ absurd (n (same_grain-true k g t)) | inr t ↦ t ]

    by_test : (b : Bool) → (if b && same_grain k g then s else f u k) ≡ f u k
    by_test true = ap (λ b. if b then s else f u k) apart
    by_test false = refl

pub put-handed-unit : (f : UnitNo → GrainId → Option (List Value)) (u : UnitNo) (g : GrainId) (s : Option (List Value)) (x : UnitNo) (k : GrainId) → (x ≡ u → ⊥) → put_handed f u g s x k ≡ f x k
unfolding put_handed
put-handed-unit f u g s x k n = ap (λ b. if b && same_grain k g then s else f x k) (same_unit-not x u n)

cleared-stays : (f : UnitNo → GrainId → Option (List Value)) (u : UnitNo) (rs : List Read) (g : GrainId) → f u g ≡ None → cleared f u rs u g ≡ None
cleared-stays f u [] g e = e
cleared-stays f u (r ∷ rs) g e = cleared-stays (put_handed f u r.grain None) u rs g (elim (cases_grain g r.grain) [
  | inl q ↦ ap (put_handed f u r.grain None u) q ∙ put-handed-is f u r.grain None
  | inr n ↦ put-handed-grain f u r.grain None g n ∙ e
])

cleared-is : (f : UnitNo → GrainId → Option (List Value)) (u : UnitNo) (rs : List Read) (r : Read) → Member r rs → cleared f u rs u r.grain ≡ None
cleared-is f u [] r m = absurd m
cleared-is f u (x ∷ rs) r (inl e) = cleared-stays (put_handed f u x.grain None) u rs r.grain (ap (λ (y : Read). put_handed f u x.grain None u y.grain) e ∙ put-handed-is f u x.grain None)
cleared-is f u (x ∷ rs) r (inr m) = cleared-is (put_handed f u x.grain None) u rs r m

writes-is : (f : UnitNo → GrainId → Option (List Value)) (u : UnitNo) (xs : List Write) (g : GrainId) → f u g ≡ None → with_writes f u xs u g ≡ state_written g xs
writes-is f u [] g e = e
writes-is f u (x ∷ xs) g e = elim (cases_Bool (same_grain x.0 g)) [
  | inl t ↦ (let q = same_grain-true x.0 g t in
      ap (put_handed (with_writes f u xs) u x.0 (Some x.1) u) (sym q) ∙ put-handed-is (with_writes f u xs) u x.0 (Some x.1)
      ∙ sym (ap (λ (b : Bool). if b then Some x.1 else state_written g xs) t))
  | inr t ↦ (let n : g ≡ x.0 → ⊥ = λ q. (let z : true ≡ false = sym (same_grain-is x.0 g (sym q)) ∙ t in cc) in
      put-handed-grain (with_writes f u xs) u x.0 (Some x.1) g n ∙ writes-is f u xs g e
      ∙ sym (ap (λ (b : Bool). if b then Some x.1 else state_written g xs) t))
]

-- ---- what stands behind the queue

take-within : {A : Type 0} (n : ℕ) (xs : List A) → n ≤ length (take n xs) → n ≤ length xs
take-within n xs h = (let t = length-take n xs in omega (arith, t, h))

pub owed-within : (o : Option TakenBatch) (ms : List FinishedUnit) (b : Option Batch) → ShowsOpen o ms b → owed_in o ≤ length ms
owed-within None ms None s = omega arith
owed-within None ms (Some b) s = absurd s
owed-within (Some x) ms None s = absurd s
owed-within (Some x) ms (Some b) s = (let t = take-within b.size ms (omega (arith, s.size, s.taken_of.count)) in omega (arith, s.size, t))

pub shows-more : (o : Option TakenBatch) (ms : List FinishedUnit) (m : FinishedUnit) (b : Option Batch) → ShowsOpen o ms b → ShowsOpen o (ms ++ m ∷ []) b
shows-more None ms m None s = tt
shows-more None ms m (Some b) s = absurd s
shows-more (Some x) ms m None s = absurd s
shows-more (Some x) ms m (Some b) s =
    subst (λ ns. ShowsBatch x ns b) (sym (take-last b.size ms m (take-within b.size ms (omega (arith, s.size, s.taken_of.count))))) s

-- ---- the state after

effect-others : (w : CoreState) (u : UnitNo) (e : Effect) (x : UnitNo) → (x ≡ u → ⊥) → effect_of w x ≡ effect_of (finished w u e) x
effect-others w u e x n = λ i. record (effect_of w x) {
  answers = sym (put-other w.manager.answers u e.answers x n) i;
  writes = sym (put-other w.manager.writes u e.writes x n) i;
  result = sym (put-other w.manager.result u e.result x n) i;
}

-- the effect that the unit brings is what the state shows of it
effect-brought : (w : CoreState) (u : UnitNo) (e : Effect) → (e.unit ≡ u) × (e.origin ≡ w.units.origin u) × (e.call ≡ w.units.call u) → e.reads ≡ w.units.reads u → effect_of (finished w u e) u ≡ e
effect-brought w u e h reads = λ i. record {
  unit = sym h.0 i;
  origin = sym h.1 i;
  call = sym h.2 i;
  answers = put-same w.manager.answers u e.answers i;
  reads = sym reads i;
  writes = put-same w.manager.writes u e.writes i;
  result = put-same w.manager.result u e.result i;
}

effects-more : (w : CoreState) (u : UnitNo) (e : Effect) (ms : List FinishedUnit) (m : FinishedUnit) → IsCoreReached w → w.units.phase u ≡ Running →
    (e.unit ≡ u) × (e.origin ≡ w.units.origin u) × (e.call ≡ w.units.call u) → e.reads ≡ w.units.reads u → m.effect ≡ e → map effect_in ms ≡ map (effect_of w) (waiting w) →
    map effect_in (ms ++ m ∷ []) ≡ map (effect_of (finished w u e)) (waiting (finished w u e))
effects-more w u e ms m r p h reads is s =
    map-last effect_in ms m
    ∙ (λ i. (s ∙ map-agree (effect_of w) (effect_of (finished w u e)) (waiting w) (λ x k. effect-others w u e x (waits-not w r u p x k))) i ++ (is ∙ sym (effect-brought w u e h reads)) i ∷ [])
    ∙ sym (map-last (effect_of (finished w u e)) (waiting w) u)
    ∙ ap (map (effect_of (finished w u e))) (sym (drop-last w.manager.closed w.manager.order u (closed-within w r)))

sources-more : (w : CoreState) (u : UnitNo) (e : Effect) (ms : List FinishedUnit) (m : FinishedUnit) → IsCoreReached w → m.deps.sources ≡ w.units.deps u → map sources_in ms ≡ map w.units.deps (waiting w) →
    map sources_in (ms ++ m ∷ []) ≡ map w.units.deps (waiting (finished w u e))
sources-more w u e ms m r is s =
    map-last sources_in ms m
    ∙ (λ i. s i ++ is i ∷ [])
    ∙ sym (map-last w.units.deps (waiting w) u)
    ∙ ap (map w.units.deps) (sym (drop-last w.manager.closed w.manager.order u (closed-within w r)))

-- what the grains have to learn doesn't rest on it
unlearnt-same : (w : CoreState) (u : UnitNo) (e : Effect) → IsCoreReached w → w.units.phase u ≡ Running → unlearnt w ≡ unlearnt (finished w u e)
unlearnt-same w u e r p = ap (filter (λ (t : UnitNo × GrainId). not (w.cells.learnt t.0 t.1)))
    (flat-agree (λ x. map (λ (y : Write). (x, y.0)) (w.manager.writes x)) (λ x. map (λ (y : Write). (x, y.0)) (put w.manager.writes u e.writes x)) (filter (λ x. is_final (w.manager.verdict x)) (take w.manager.closed w.manager.order))
    (λ x m. ap (map (λ (y : Write). (x, y.0))) (sym (put-other w.manager.writes u e.writes x (closes-not w r u p x (filter-in (λ x. is_final (w.manager.verdict x)) (take w.manager.closed w.manager.order) x m)))))
    ∙ ap (λ us. flat_map (λ x. map (λ (y : Write). (x, y.0)) (put w.manager.writes u e.writes x)) (filter (λ x. is_final (w.manager.verdict x)) us)) (sym (take-last w.manager.closed w.manager.order u (closed-within w r))))

last-same : (w : CoreState) (u : UnitNo) (e : Effect) (g : GrainId) → IsCoreReached w → w.units.phase u ≡ Running → last_state w g ≡ last_state (finished w u e) g
last-same w u e g r p =
    last-agree w.manager.verdict w.manager.verdict w.manager.writes (put w.manager.writes u e.writes) g (take w.manager.closed w.manager.order) None
    (λ x m. refl) (λ x m. sym (put-other w.manager.writes u e.writes x (closes-not w r u p x m)))
    ∙ ap (λ us. last_among w.manager.verdict (put w.manager.writes u e.writes) g us None) (sym (take-last w.manager.closed w.manager.order u (closed-within w r)))

-- what the unit holds it has read, and what it wrote there is kept
handed-new : (w : CoreState) (u : UnitNo) (g : GrainId) (f : UnitNo → GrainId → Option (List Value)) (e : Effect) → IsCoreReached w → e.reads ≡ w.units.reads u → holds_lock u (w.cells.holds g) ≡ true →
    with_writes (cleared f u e.reads) u e.writes u g ≡ state_written g e.writes
handed-new w u g f e r reads held =
    let t = any-true (is_hold_of u) (w.cells.holds g) held in
    let s = (rests w r).read.reading g t.0 t.1 in
    let d = (rests w r).read.source g s.0 s.1 in
    let unit : s.0.unit ≡ u = s.2 ∙ same_unit-true t.0.unit u t.2 in
    let m : Member d.0 (w.units.reads u) = subst (λ x. Member d.0 (w.units.reads x)) unit d.1 in
    let k : Member d.0 e.reads = subst (Member d.0) (sym reads) m in
    writes-is (cleared f u e.reads) u e.writes g (subst (λ j. cleared f u e.reads u j ≡ None) d.2 (cleared-is f u e.reads d.0 k))

-- what the tests of the event say
pub finish-parts : (w : CoreState) (u : UnitNo) (e : Effect) → applies w (Finish u e) ≡ true →
    (w.units.phase u ≡ Running) × ((e.unit ≡ u) × (e.origin ≡ w.units.origin u) × (e.call ≡ w.units.call u)) × (e.reads ≡ w.units.reads u)
finish-parts w u e a = go (does w (Finish u e)) (decode w (Finish u e) (can-is w (Finish u e) a))
  where
    go : (w' : CoreState) → Change w (Finish u e) w' → (w.units.phase u ≡ Running) × ((e.unit ≡ u) × (e.origin ≡ w.units.origin u) × (e.call ≡ w.units.call u)) × (e.reads ≡ w.units.reads u)
    go w' (finish u e running plain of_call reads alone) = (let t = parts-of w u e of_call in (running, (t.0, t.1, t.2), reads))

pub finish-runs : (p : Parts) (u : UnitNo) (e : Effect) → CanDo p (Finish u e) → is_running (phase_in p.units u) ≡ true
finish-runs p u e c = (λ i. is_running ((sym c.1.units i).phase u)) ∙ ap is_running (finish-parts c.0 u e c.3).0

-- room, and what is kept of a running unit's writes, change nothing
pub keeps-handed : (p : Parts) (waiting : Vec FinishedUnit Global) (handed : HandedStates) (u : UnitNo) → is_running (phase_in p.units u) ≡ true → waiting.items ≡ p.waiting.items →
    ((x : UnitNo) (g : GrainId) → (x ≡ u → ⊥) → handed_in handed x g ≡ handed_in p.handed x g) → KeepsMeaning p (record p { waiting = waiting; handed = handed })
keeps-handed p waiting handed u runs same others = λ w s. record {
  units = s.units;
  numbers = s.numbers;
  cells = s.cells;
  verdict = s.verdict;
  result = s.result;
  effects = ap (map effect_in) same ∙ s.effects;
  sources = ap (map sources_in) same ∙ s.sources;
  batch = subst (λ ms. ShowsTakenBatch p.batch ms w.manager.batch) (sym same) s.batch;
  batches = s.batches;
  doubt = s.doubt;
  settled = s.settled;
  emitted = s.emitted;
  learn = s.learn;
  handed = λ x g f h. others x g (not-running w s x f) ∙ s.handed x g f h;
  last = s.last;
  room = record {
    entries = s.room.entries;
    learn = subst (λ (ms : List FinishedUnit). writes_in (take (owed_in p.batch) ms) ≤ p.learn.spare) (sym same) s.room.learn;
    places = subst (λ (ms : List FinishedUnit). EachPlaced (has_place p.last) (take (owed_in p.batch) ms)) (sym same) s.room.places;
  };
}
  where
    not-running : (w : CoreState) → PartsStand p w → (x : UnitNo) → w.units.phase x ≡ Finished → x ≡ u → ⊥
    not-running w s x f e =
        (let t : w.units.phase u ≡ Running = is_running-true _ ((λ i. is_running ((s.units i).phase u)) ∙ runs) in
        let z : Finished ≡ Running = sym f ∙ ap w.units.phase e ∙ t in cc)

pub changes-finish : (p : Parts) (u : UnitNo) (e : Effect) (units : UnitTable) (waiting : Vec FinishedUnit Global) (m : FinishedUnit) (f : UnitNo → GrainId → Option (List Value)) →
    ((seen : UnitNo → Option ℕ) → units_of units seen ≡ units_over (units_of p.units seen) u Finished) → verdict_in units ≡ verdict_in p.units → result_in units ≡ put (result_in p.units) u e.result →
    m.effect ≡ e → m.deps.sources ≡ deps_in p.units u → waiting.items ≡ p.waiting.items ++ m ∷ [] → handed_in p.handed ≡ with_writes (cleared f u e.reads) u e.writes →
    Changes p (Finish u e) reply.Done (record p { units = units; waiting = waiting })
changes-finish p u e units waiting m f us v o effect deps items hands = λ w s r a. (
  (let t = finish-parts w u e a in
      record {
        units = ap (λ (x : Units). units_over x u Finished) s.units ∙ sym (us w.units.seen_at);
        numbers = s.numbers;
        cells = s.cells;
        verdict = s.verdict ∙ sym v;
        result = ap (λ (x : UnitNo → Outcome). put x u e.result) s.result ∙ sym o;
        effects = ap (map effect_in) items ∙ effects-more w u e p.waiting.items m r t.0 t.1 t.2 effect s.effects;
        sources = ap (map sources_in) items ∙ sources-more w u e p.waiting.items m r (deps ∙ (λ i. (sym s.units i).deps u)) s.sources;
        batch = subst (λ ms. ShowsTakenBatch p.batch ms w.manager.batch) (sym items) (from-cases p.batch (p.waiting.items ++ m ∷ []) w.manager.batch (shows-more p.batch p.waiting.items m w.manager.batch (to-cases p.batch p.waiting.items w.manager.batch s.batch)));
        batches = s.batches;
        doubt = s.doubt;
        settled = s.settled;
        emitted = s.emitted;
        learn = s.learn ∙ unlearnt-same w u e r t.0;
        handed = λ x g ph h. elim (cases_unit x u) [
          | inl q ↦
              (let held : holds_lock u (w.cells.holds g) ≡ true = ap (λ y. holds_lock y (w.cells.holds g)) (sym q) ∙ h in
              (λ i. hands i (q i) g) ∙ handed-new w u g f e r t.2 held ∙ ap (state_written g) (sym (put-is w.manager.writes u e.writes x q)))
          | inr n ↦ s.handed x g (sym (put-other w.units.phase u Finished x n) ∙ ph) h ∙ ap (state_written g) (sym (put-other w.manager.writes u e.writes x n))
        ];
        last = λ g. s.last g ∙ last-same w u e g r t.0;
        room = record {
          entries = s.room.entries;
          learn = subst (λ (ms : List FinishedUnit). writes_in ms ≤ p.learn.spare) (sym (front w s)) s.room.learn;
          places = subst (λ (ms : List FinishedUnit). EachPlaced (has_place p.last) ms) (sym (front w s)) s.room.places;
        };
      }),
  refl,
)
  where
    front : (w : CoreState) → PartsStand p w → take (owed_in p.batch) waiting.items ≡ members_in p
    front w s = ap (take (owed_in p.batch)) items ∙ take-last (owed_in p.batch) p.waiting.items m (owed-within p.batch p.waiting.items w.manager.batch (to-cases p.batch p.waiting.items w.manager.batch s.batch))

-- then what it waited for goes where it is idle
pub does-finish : (p : Parts) (u : UnitNo) (e : Effect) (units : UnitTable) (waiting : Vec FinishedUnit Global) (new : CellTable) (wants : List (UnitNo × GrainId)) →
    Changes p (Finish u e) reply.Done (record p { units = units; waiting = waiting }) → ((seen : UnitNo → Option ℕ) → units_of units seen ≡ units_over (units_of p.units seen) u Finished) → wants ≡ wants_in p.units →
    cells_kept new ≡ evicted_by (opens_with p.cells).limit (without_wants u wants) (used_of p.cells.recent) (wanted_of u wants) (cells_kept p.cells) → new.recent ≡ p.cells.recent → opens_with new ≡ opens_with p.cells →
    Does p (Finish u e) reply.Done (record p { units = units; waiting = waiting; cells = new })
does-finish p u e units waiting new wants changes over waits kept recent opens =
    does-evicting p (record p { units = units; waiting = waiting }) (Finish u e) reply.Done new (without_wants u wants) (wanted_of u wants) changes
    (ap (without_wants u) waits ∙ waits-over p.units units u Finished over)
    (λ w s r a. (λ i. wanted_of u (s.units i).wants) ∙ ap (wanted_of u) (sym waits)) kept recent opens

-- the room and the copies of a finish change nothing
pub keeps-prepared : (p q : Parts) (u : UnitNo) → is_running (phase_in p.units u) ≡ true → q ≡ record p { waiting = q.waiting; handed = q.handed } → q.waiting.items ≡ p.waiting.items →
    ((x : UnitNo) (g : GrainId) → (x ≡ u → ⊥) → handed_in q.handed x g ≡ handed_in p.handed x g) → KeepsMeaning p q
keeps-prepared p q u runs rest waiting others = subst (KeepsMeaning p) (sym rest) (keeps-handed p q.waiting q.handed u runs waiting others)
