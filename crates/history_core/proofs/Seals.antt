-- Batches that are decided and close.
use Rattle.std.proofs.Common.{◌≡◌, ℕ, suc, ◌+◌, ◌≤◌, List, [], ◌∷◌, Bool, true, false, ◌&&◌, not, inl, inr, refl, sym, ap, ◌∙◌, subst, arith, Option, Some, None, length, take, map, is_none, is_some, length-drop}
use Rattle.std.specs.Prelude.{◌==◌}
use Rattle.base_types.specs.declared.entries.Settled.TheVariants as settled
use Rattle.cell_model.specs.Units.{Member}
use Rattle.core_model.specs.CoreState.{UnitNo, GrainId, Write, Batch, Decision, CoreState}
use Rattle.core_model.specs.declared.phases.Phase.TheVariants.{Finished}
use Rattle.core_model.specs.declared.events.CoreEvent.{CoreEvent}
use Rattle.core_model.specs.declared.events.CoreEvent.TheVariants.{Sealed, NotSealed, Doubt}
use Rattle.core_model.specs.declared.events.CoreReply.TheVariants as reply
use Rattle.core_model.specs.Tests.{is_over, members, waiting}
use Rattle.core_model.specs.Batches.{AreDecided}
use Rattle.core_model.specs.Consistency.{size_of}
use Rattle.core_model.specs.Answers.{effect_of}
use Rattle.core_model.specs.Changes.{closed, sealed, spoiled, in_doubt, leave, on_decided, on_decisions}
use Rattle.core_model.specs.Events.{applies, does, is_judged, is_after_doubt, is_after_halt}
use Rattle.core_laws.proofs.EventCases.{Change, seal_batch, spoil_batch, doubt_batch, decode, none-true}
use Rattle.core_laws.proofs.Orders.{Member-take, take_length}
use Rattle.core_parts.specs.States.{has_place}
use Rattle.unit_table.specs.Table.{phase_in}
use Rattle.open_batch.specs.declared.members.FinishedUnit.{FinishedUnit}
use Rattle.open_batch.specs.Members.{effect_in}
use Rattle.open_batch.specs.TakenBatch.{TakenBatch}
use Rattle.history_core.specs.declared.parts.Parts.{Parts}
use Rattle.history_core.specs.declared.batch_closing.Closing.TheVariants as how
use Rattle.history_core.specs.Batches.{is_judged_in}
use Rattle.history_core.specs.BatchClosing.{Closes, Ready, IsReadyToClose, decisions_in}
use Rattle.history_core.specs.Fronts.{writes_after, AreOver, PlacedAfter}
use Rattle.history_core.specs.KeptParts.{PartsStand, IsCoreReached, ShowsOpen, AllPlaced, EachPlaced, owed_in, writes_in}
use Rattle.history_core.specs.Steps.{CanDo, Does}
use Rattle.history_core.proofs.OpenBatches.{to-cases, placed-each}
use Rattle.history_core.proofs.OneEvent.{can-is, allowed-is, allowed-answer}
use Rattle.history_core.proofs.BatchClosing.{CanClose, stands-closed}
use Rattle.history_core.proofs.Finishes.{owed-within}
use Rattle.history_core.proofs.CoreStates.{rests, waits, closes-final, late-not-final, readers}
use Rattle.history_core.proofs.Sweeps.{unmoved}

-- ---- what is open

-- what is kept of the batch shows the open one
pub shown : (p : Parts) (w : CoreState) (b : Batch) → PartsStand p w → w.manager.batch ≡ Some b →
    (x : TakenBatch) × (p.batch ≡ Some x) × (x.size ≡ b.size) × (x.decisions ≡ b.decisions)
shown p w b s q = go p.batch refl (subst (ShowsOpen p.batch p.waiting.items) q (to-cases p.batch p.waiting.items w.manager.batch s.batch))
  where
    go : (o : Option TakenBatch) → p.batch ≡ o → ShowsOpen p.batch p.waiting.items (Some b) → (x : TakenBatch) × (p.batch ≡ Some x) × (x.size ≡ b.size) × (x.decisions ≡ b.decisions)
    go None e t = absurd (subst (λ z. ShowsOpen z p.waiting.items (Some b)) e t)
    go (Some x) e t = (let k = subst (λ z. ShowsOpen z p.waiting.items (Some b)) e t in (x, e, k.size, k.decisions))

none-some : {A : Type 0} (o : Option A) → not (is_none o) ≡ is_some o
none-some None = refl
none-some (Some x) = refl

pub judged-is : (o : Option TakenBatch) (ms : List FinishedUnit) (b : Option Batch) (n : ℕ) → ShowsOpen o ms b → is_judged_in o n ≡ is_judged n b
judged-is None ms None n s = refl
judged-is None ms (Some b) n s = absurd s
judged-is (Some x) ms None n s = absurd s
judged-is (Some x) ms (Some b) n s = λ i. (s.number i == n) && (ap (λ d. not (is_none d)) s.decisions ∙ none-some b.decisions) i

-- ---- what it takes to close

pub are-over : (over : UnitNo → Bool) (ds : List Decision) (w : CoreState) (us : List UnitNo) → ((u : UnitNo) → Member u us → over u ≡ true) → AreOver over ds (map (effect_of w) us)
are-over over [] w us e = tt
are-over over (d ∷ ds) w [] e = tt
are-over over (d ∷ ds) w (u ∷ us) e = (e u (inl refl), are-over over ds w us (λ x m. e x (inr m)))

front-writes : (ds : List Decision) (ms : List FinishedUnit) → writes_after ds (map effect_in ms) ≡ writes_in (take (length ds) ms)
front-writes [] ms = refl
front-writes (d ∷ ds) [] = refl
front-writes (d ∷ ds) (m ∷ ms) = ap (λ n. length m.effect.writes + n) (front-writes ds ms)

front-placed : (placed : GrainId → Bool) (ds : List Decision) (ms : List FinishedUnit) → AllPlaced placed (take (length ds) ms) → PlacedAfter placed ds (map effect_in ms)
front-placed placed [] ms h = tt
front-placed placed (d ∷ ds) [] h = tt
front-placed placed (d ∷ ds) (m ∷ ms) h = (h.0, front-placed placed ds ms h.1)

pub is-ready : (p : Parts) (w : CoreState) (ds : List Decision) → PartsStand p w → ((u : UnitNo) → Member u (waiting w) → w.units.phase u ≡ Finished) → length ds ≡ owed_in p.batch → Ready p ds
is-ready p w ds s finished e = record {
  within = (let t = owed-within p.batch p.waiting.items w.manager.batch (to-cases p.batch p.waiting.items w.manager.batch s.batch) in omega (arith, e, t));
  closable = record {
    over = subst (AreOver (λ u. is_over (phase_in p.units u)) ds) (sym s.effects)
        (are-over (λ u. is_over (phase_in p.units u)) ds w (waiting w) (λ u m. (λ i. is_over ((sym s.units i).phase u)) ∙ ap is_over (finished u m)));
    entries = subst (λ n. n ≤ p.entries.spare) (sym e) s.room.entries;
    learn = subst (λ n. n ≤ p.learn.spare) (sym (front-writes ds p.waiting.items)) (subst (λ n. writes_in (take n p.waiting.items) ≤ p.learn.spare) (sym e) s.room.learn);
    placed = front-placed (has_place p.last) ds p.waiting.items (placed-each (has_place p.last) (take (length ds) p.waiting.items) (subst (λ n. EachPlaced (has_place p.last) (take n p.waiting.items)) (sym e) s.room.places));
  };
}

-- ---- a batch that is decided closes

pub size-within : (w : CoreState) (b : Batch) → IsCoreReached w → w.manager.batch ≡ Some b → w.manager.closed + b.size ≤ length w.manager.order
size-within w b r q = subst (λ o. w.manager.closed + size_of o ≤ length w.manager.order) q (rests w r).prefix.within

pub members-length : (w : CoreState) (b : Batch) → IsCoreReached w → w.manager.batch ≡ Some b → length (members w b) ≡ b.size
members-length w b r q = (let t = size-within w b r q in let l = length-drop w.manager.closed w.manager.order in take_length b.size (waiting w) (omega (arith, t, l)))

pub members-fresh : (w : CoreState) (b : Batch) → IsCoreReached w → (x : UnitNo) (g : GrainId) → Member x (members w b) → w.cells.learnt x g ≡ false
members-fresh w b r x g m = go (w.cells.learnt x g) refl
  where
    go : (t : Bool) → w.cells.learnt x g ≡ t → w.cells.learnt x g ≡ false
    go false e = e
    go true e =
        (let k = waits w r x (Member-take b.size x (waiting w) m) in
        let z : true ≡ false = sym ((readers w r).learnt x g e).0 ∙ late-not-final w r x k.0 k.1 in cc)

pub can-close : (w : CoreState) (b : Batch) (ds : List Decision) → IsCoreReached w → w.manager.doubt ≡ None → w.manager.batch ≡ Some b → b.decisions ≡ Some ds → CanClose w b ds
can-close w b ds r none q d = record {
  each = (rests w r).decisions b ds q d ∙ members-length w b r q;
  within = size-within w b r q;
  others = λ x. ((rests w r).judged none).decided b ds q d x;
  final = closes-final w r none;
  unlearnt = λ x g m. members-fresh w b r x g m;
}

no-doubt : (w : CoreState) (e : CoreEvent) → applies w e ≡ true → is_after_doubt e ≡ false → is_after_halt e ≡ true → w.manager.doubt ≡ None
no-doubt w e a x y = none-true w.manager.doubt (sym (allowed-answer w e x y) ∙ allowed-is w e a)

-- ---- the three answers

pub ready-judged : (p : Parts) (w : CoreState) (b : Batch) (ds : List Decision) → PartsStand p w → IsCoreReached w → w.manager.doubt ≡ None → w.manager.batch ≡ Some b → b.decisions ≡ Some ds → IsReadyToClose p
ready-judged p w b ds s r none q d =
    let t = shown p w b s q in
    let c = can-close w b ds r none q d in
    (t.0, ds, t.1, t.3 ∙ d, is-ready p w ds s (λ u m. (waits w r u m).0) (c.each ∙ sym t.2 ∙ ap owed_in (sym t.1)))

judged-parts : (w : CoreState) (n : ℕ) (e : CoreEvent) → applies w e ≡ true → is_after_doubt e ≡ false → is_after_halt e ≡ true →
    ((w' : CoreState) → Change w e w' → (b : Batch) × (ds : List Decision) × (w.manager.batch ≡ Some b) × (b.decisions ≡ Some ds)) →
    (w.manager.doubt ≡ None) × ((b : Batch) × (ds : List Decision) × (w.manager.batch ≡ Some b) × (b.decisions ≡ Some ds))
judged-parts w n e a x y f = (no-doubt w e a x y, f (does w e) (decode w e (can-is w e a)))

seal-parts : (w : CoreState) (n : ℕ) → applies w (Sealed n) ≡ true → (w.manager.doubt ≡ None) × ((b : Batch) × (ds : List Decision) × (w.manager.batch ≡ Some b) × (b.decisions ≡ Some ds))
seal-parts w n a = judged-parts w n (Sealed n) a refl refl go
  where
    go : (w' : CoreState) → Change w (Sealed n) w' → (b : Batch) × (ds : List Decision) × (w.manager.batch ≡ Some b) × (b.decisions ≡ Some ds)
    go w' (seal_batch n b ds q number d) = (b, ds, q, d)

spoil-parts : (w : CoreState) (n : ℕ) → applies w (NotSealed n) ≡ true → (w.manager.doubt ≡ None) × ((b : Batch) × (ds : List Decision) × (w.manager.batch ≡ Some b) × (b.decisions ≡ Some ds))
spoil-parts w n a = judged-parts w n (NotSealed n) a refl refl go
  where
    go : (w' : CoreState) → Change w (NotSealed n) w' → (b : Batch) × (ds : List Decision) × (w.manager.batch ≡ Some b) × (b.decisions ≡ Some ds)
    go w' (spoil_batch n b ds q number d) = (b, ds, q, d)

doubt-parts : (w : CoreState) (n : ℕ) → applies w (Doubt n) ≡ true → (w.manager.doubt ≡ None) × ((b : Batch) × (ds : List Decision) × (w.manager.batch ≡ Some b) × (b.decisions ≡ Some ds))
doubt-parts w n a = judged-parts w n (Doubt n) a refl refl go
  where
    go : (w' : CoreState) → Change w (Doubt n) w' → (b : Batch) × (ds : List Decision) × (w.manager.batch ≡ Some b) × (b.decisions ≡ Some ds)
    go w' (doubt_batch n b ds q number d) = (b, ds, q, d)

pub seal-ready : (p : Parts) (n : ℕ) → CanDo p (Sealed n) → IsReadyToClose p
seal-ready p n c = (let t = seal-parts c.0 n c.3 in ready-judged p c.0 t.1.0 t.1.1 c.1 c.2 t.0 t.1.2 t.1.3)

pub spoil-ready : (p : Parts) (n : ℕ) → CanDo p (NotSealed n) → IsReadyToClose p
spoil-ready p n c = (let t = spoil-parts c.0 n c.3 in ready-judged p c.0 t.1.0 t.1.1 c.1 c.2 t.0 t.1.2 t.1.3)

pub doubt-ready : (p : Parts) (n : ℕ) → CanDo p (Doubt n) → IsReadyToClose p
doubt-ready p n c = (let t = doubt-parts c.0 n c.3 in ready-judged p c.0 t.1.0 t.1.1 c.1 c.2 t.0 t.1.2 t.1.3)

-- the change by the decisions that there are
on-decided : (w : CoreState) (f : Batch → List Decision → CoreState) (b : Batch) (ds : List Decision) → w.manager.batch ≡ Some b → b.decisions ≡ Some ds → on_decided w f w.manager.batch ≡ f b ds
on-decided w f b ds q d = ap (on_decided w f) q ∙ ap (on_decisions w (f b)) d

decided-here : (p : Parts) (w : CoreState) (b : Batch) (ds : List Decision) → PartsStand p w → w.manager.batch ≡ Some b → b.decisions ≡ Some ds → decisions_in p.batch ≡ Some ds
decided-here p w b ds s q d = (let t = shown p w b s q in ap decisions_in t.1 ∙ t.3 ∙ d)

pub does-seal : (p q : Parts) (n : ℕ) → ((ds : List Decision) → decisions_in p.batch ≡ Some ds → Closes how.Sealed ds p q) → q.doubt ≡ p.doubt → Does p (Sealed n) reply.Done q
does-seal p q n k doubt = λ w s r a. (
  unmoved q w (Sealed n) r a refl (let t = seal-parts w n a in
      let b = t.1.0 in let ds = t.1.1 in
      subst (PartsStand q) (sym (on-decided w (sealed w) b ds t.1.2 t.1.3))
      (stands-closed how.Sealed p q w b ds s (can-close w b ds r t.0 t.1.2 t.1.3) (k ds (decided-here p w b ds s t.1.2 t.1.3)) doubt)),
  refl,
)

pub does-spoil : (p q : Parts) (n : ℕ) → ((ds : List Decision) → decisions_in p.batch ≡ Some ds → Closes how.NotSealed ds p q) → q.doubt ≡ p.doubt → Does p (NotSealed n) reply.Done q
does-spoil p q n k doubt = λ w s r a. (
  unmoved q w (NotSealed n) r a refl (let t = spoil-parts w n a in
      let b = t.1.0 in let ds = t.1.1 in
      subst (PartsStand q) (sym (on-decided w (spoiled w) b ds t.1.2 t.1.3))
      (stands-closed how.NotSealed p q w b ds s (can-close w b ds r t.0 t.1.2 t.1.3) (k ds (decided-here p w b ds s t.1.2 t.1.3)) doubt)),
  refl,
)

-- a state in which a batch is in doubt
stands-doubted : (p : Parts) (w : CoreState) (at : ℕ) → PartsStand p w → PartsStand (record p { doubt = true }) (record w { manager = record w.manager { doubt = Some at } })
stands-doubted p w at s = record {
  units = s.units;
  numbers = s.numbers;
  cells = s.cells;
  verdict = s.verdict;
  result = s.result;
  effects = s.effects;
  sources = s.sources;
  batch = s.batch;
  batches = s.batches;
  doubt = refl;
  settled = s.settled;
  emitted = s.emitted;
  learn = s.learn;
  handed = s.handed;
  last = s.last;
  room = record { entries = s.room.entries; learn = s.room.learn; places = s.room.places };
}

pub does-doubt : (p q : Parts) (n : ℕ) → ((ds : List Decision) → decisions_in p.batch ≡ Some ds → Closes how.Doubt ds p q) → q.doubt ≡ p.doubt → Does p (Doubt n) reply.Done (record q { doubt = true })
does-doubt p q n k doubt = λ w s r a. (
  unmoved (record q { doubt = true }) w (Doubt n) r a refl (let t = doubt-parts w n a in
      let b = t.1.0 in let ds = t.1.1 in
      subst (PartsStand (record q { doubt = true })) (sym (on-decided w (in_doubt w) b ds t.1.2 t.1.3))
      (stands-doubted q (closed w leave (λ u. settled.InDoubt) b ds) w.manager.closed
      (stands-closed how.Doubt p q w b ds s (can-close w b ds r t.0 t.1.2 t.1.3) (k ds (decided-here p w b ds s t.1.2 t.1.3)) doubt))),
  refl,
)
