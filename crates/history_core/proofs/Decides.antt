-- The state after a batch was decided.
use Rattle.std.proofs.Common.{◌≡◌, ℕ, zero, suc, ◌+◌, ◌<◌, ◌≤◌, List, [], ◌∷◌, ◌++◌, Bool, true, false, ◌&&◌, not, ◌⊎◌, inl, inr, refl, sym, ap, ◌∙◌, subst, arith, Option, Some, None, length, take, drop, map, is_none, nat_lt, filter, Vec, Global}
use Rattle.std.specs.Prelude.{◌==◌, if◌then◌else◌, flat_map}
use Rattle.std.specs.List.{list_any as any}
use Rattle.std.proofs.lemmas.Bool.{and_parts, cond-true, cond-false, cases_Bool}
use Rattle.std.proofs.lemmas.List.{length-map}
use Rattle.cell_model.specs.Units.{Member}
use Rattle.cell_model.specs.Decisions.{is_commit}
use Rattle.cell_model.proofs.Decisions.{decided-length}
use Rattle.core_model.specs.CoreState.{UnitNo, GrainId, Write, Batch, Decision, CoreState, put}
use Rattle.core_model.specs.declared.effects.Effect.{Effect}
use Rattle.core_model.specs.declared.phases.Verdict.{Verdict}
use Rattle.core_model.specs.declared.events.CoreEvent.TheVariants.{Decide}
use Rattle.core_model.specs.declared.events.CoreReply.TheVariants as reply
use Rattle.core_model.specs.ToldOutcomes.{IsSteady}
use Rattle.core_model.specs.Tests.{is_bad, is_final, is_committed, is_over, is_voted, is_empty, members, waiting, prepared}
use Rattle.core_model.specs.Answers.{effect_of}
use Rattle.core_model.specs.Changes.{closed, sealed, seal, verdict_of, judged, decisions_of, with_decisions, decided, decided_by, on_batch}
use Rattle.core_model.specs.Events.{applies, does, is_open, decided_reply}
use Rattle.core_laws.proofs.EventCases.{Change, decide_some, decide_none, decode, none-true}
use Rattle.core_laws.proofs.Orders.{Member-take, judged-other}
use Rattle.core_laws.proofs.Verdicts.{member-or-not}
use Rattle.core_parts.specs.Room.{EntriesInRoom, PairsInRoom}
use Rattle.core_parts.specs.States.{last_in, has_place, handed_in}
use Rattle.cell_table.specs.Table.{cells_kept, opens_with, used_of}
use Rattle.unit_table.specs.Table.{units_of, verdict_in, result_in, phase_in}
use Rattle.unit_table.specs.declared.table.UnitTable.{UnitTable}
use Rattle.open_batch.specs.declared.members.FinishedUnit.{FinishedUnit}
use Rattle.open_batch.specs.Members.{effect_in, sources_in, decisions_by}
use Rattle.open_batch.specs.TakenBatch as taken
use Rattle.open_batch.specs.TakenBatch.{TakenBatch, IsOf, commits_in}
use Rattle.open_batch.specs.ShownBatch.{ShowsBatch, AreUnits}
use Rattle.open_batch.proofs.ModelBatch.{units-taken, decisions-link}
use Rattle.open_batch.proofs.Stages.{shows-decided, voted-link, commits-some}
use Rattle.history_core.specs.declared.parts.Parts.{Parts}
use Rattle.history_core.specs.Batches.{may_decide_in}
use Rattle.history_core.specs.declared.batch_closing.Closing.TheVariants as how
use Rattle.history_core.specs.BatchClosing.{Closes, IsReadyToClose, decisions_in}
use Rattle.history_core.specs.Decisions.{judged_after, decisions_now, IsUndecided}
use Rattle.history_core.specs.ClosedUnits.{unlearnt, last_state}
use Rattle.history_core.specs.Fronts.{AreOver}
use Rattle.history_core.specs.KeptParts.{PartsStand, IsCoreReached, HasRoom, ShowsOpen, ShowsTakenBatch, AllPlaced, EachPlaced, owed_in, writes_in}
use Rattle.history_core.specs.Steps.{CanDo, Does}
use Rattle.history_core.proofs.OpenBatches.{to-cases, from-cases, each-placed, placed-each}
use Rattle.history_core.proofs.OneEvent.{can-is, allowed-is, allowed-going}
use Rattle.history_core.proofs.BatchClosing.{CanClose, stands-closed}
use Rattle.history_core.proofs.Lists.{filter-agree, last-agree}
use Rattle.history_core.proofs.Finishes.{owed-within}
use Rattle.history_core.proofs.Takes.{are-units}
use Rattle.history_core.proofs.Seals.{is-ready, are-over, size-within, members-length, members-fresh}
use Rattle.history_core.proofs.CoreStates.{rests, waits, closes, closes-final}
use Rattle.history_core.proofs.Sweeps.{unmoved}
use Rattle.cell_memory.specs.KeptCells.{StandsForCells}
use Rattle.cell_table.specs.declared.table.CellTable.{CellTable}

-- whether it can be decided
pub may-decide-is : (o : Option TakenBatch) (ms : List FinishedUnit) (b : Option Batch) (n : ℕ) → ShowsOpen o ms b → may_decide_in o n ≡ is_open n is_voted b
may-decide-is None ms None n s = refl
may-decide-is None ms (Some b) n s = absurd s
may-decide-is (Some x) ms None n s = absurd s
may-decide-is (Some x) ms (Some b) n s = λ i. (s.number i == n) && (is_none (s.decisions i) && voted-link x (take b.size ms) b s i)

-- the batch that is decided
pub decide-parts : (w : CoreState) (n : ℕ) → applies w (Decide n) ≡ true → (b : Batch) × (w.manager.batch ≡ Some b) × (b.decisions ≡ None)
decide-parts w n a = go (does w (Decide n)) (decode w (Decide n) (can-is w (Decide n) a))
  where
    go : (w' : CoreState) → Change w (Decide n) w' → (b : Batch) × (w.manager.batch ≡ Some b) × (b.decisions ≡ None)
    go w' (decide_some n b q number d voted some) = (b, q, d)
    go w' (decide_none n b q number d voted none) = (b, q, d)

going-known : (w : CoreState) (n : ℕ) → applies w (Decide n) ≡ true → w.manager.doubt ≡ None
going-known w n a = none-true w.manager.doubt (and_parts (is_none w.manager.doubt) (not w.units.halt) (sym (allowed-going w (Decide n) refl refl) ∙ allowed-is w (Decide n) a)).0

-- what is kept of it
pub shown-open : (p : Parts) (w : CoreState) (b : Batch) → PartsStand p w → w.manager.batch ≡ Some b → (x : TakenBatch) × (p.batch ≡ Some x) × ShowsBatch x (take b.size p.waiting.items) b
shown-open p w b s q = go p.batch refl (subst (ShowsOpen p.batch p.waiting.items) q (to-cases p.batch p.waiting.items w.manager.batch s.batch))
  where
    go : (o : Option TakenBatch) → p.batch ≡ o → ShowsOpen p.batch p.waiting.items (Some b) → (x : TakenBatch) × (p.batch ≡ Some x) × ShowsBatch x (take b.size p.waiting.items) b
    go None e t = absurd (subst (λ z. ShowsOpen z p.waiting.items (Some b)) e t)
    go (Some x) e t = (x, e, subst (λ z. ShowsOpen z p.waiting.items (Some b)) e t)

-- its decisions are the model's
pub decisions-now : (p : Parts) (w : CoreState) (b : Batch) (x : TakenBatch) → PartsStand p w → ShowsBatch x (take b.size p.waiting.items) b → decisions_now p x ≡ decisions_of w b
decisions-now p w b x s k =
    (λ i. decisions_by (λ u. is_bad (verdict_in p.units u)) (k.votes i) (take (k.size i) p.waiting.items))
    ∙ decisions-link (verdict_in p.units) (take b.size p.waiting.items) w b s.verdict (units-taken b.size p.waiting.items w (waiting w) (are-units p w s))

decisions-length : (w : CoreState) (b : Batch) → IsCoreReached w → w.manager.batch ≡ Some b → length (decisions_of w b) ≡ b.size
decisions-length w b r q =
    decided-length (λ u. is_bad (w.manager.verdict u)) (map (prepared w b) (members w b)) ∙ length-map (members w b) (prepared w b) ∙ members-length w b r q

pub undecided : (p : Parts) (n : ℕ) → CanDo p (Decide n) → IsUndecided p
undecided p n c =
    let w = c.0 in let s = c.1 in let r = c.2 in
    let t = decide-parts w n c.3 in
    let b = t.0 in
    let k = shown-open p w b s t.1 in
    let x = k.0 in
    let same = decisions-now p w b x s k.2 in
    let len : length (decisions_now p x) ≡ x.size = ap (λ (ds : List Decision). length ds) same ∙ decisions-length w b r t.1 ∙ sym k.2.size in
    let within = owed-within p.batch p.waiting.items w.manager.batch (to-cases p.batch p.waiting.items w.manager.batch s.batch) in (
      x,
      k.1,
      k.2.decisions ∙ t.2,
      subst (λ m. IsOf x (take m p.waiting.items)) (sym k.2.size) k.2.taken_of,
      subst (λ o. owed_in o ≤ length p.waiting.items) k.1 within,
      len,
      subst (AreOver (λ u. is_over (phase_in p.units u)) (decisions_now p x)) (sym s.effects)
          (are-over (λ u. is_over (phase_in p.units u)) (decisions_now p x) w (waiting w) (λ u m. (λ i. is_over ((sym s.units i).phase u)) ∙ ap is_over (waits w r u m).0)),
    )

-- ---- the verdicts

judged-link : (ds : List Decision) (w : CoreState) (us : List UnitNo) (v : UnitNo → Verdict) → judged_after ds (map (effect_of w) us) v ≡ judged (take (length ds) us) ds v
judged-link [] w us v = refl
judged-link (d ∷ ds) w [] v = refl
judged-link (d ∷ ds) w (u ∷ us) v = judged-link ds w us (put v u (verdict_of d))

-- what code leaves where it decides a batch
pub record Judges (p q : Parts) (x : TakenBatch) : Type 0 where
  pub units : (seen : UnitNo → Option ℕ) → units_of q.units seen ≡ units_of p.units seen
  pub result : result_in q.units ≡ result_in p.units
  pub verdict : verdict_in q.units ≡ judged_after (decisions_now p x) (map effect_in p.waiting.items) (verdict_in p.units)
  pub batch : q.batch ≡ Some (taken.with_decisions x (decisions_now p x))
  pub cells : q.cells ≡ p.cells
  pub waiting : q.waiting ≡ p.waiting
  pub batches : q.batches ≡ p.batches
  pub doubt : q.doubt ≡ p.doubt
  pub entries : q.entries ≡ p.entries
  pub learn : q.learn ≡ p.learn
  pub last : q.last ≡ p.last
  pub handed : q.handed ≡ p.handed

-- who stands before the batch isn't judged
apart : (w : CoreState) (b : Batch) → IsCoreReached w → (x : UnitNo) → Member x (take w.manager.closed w.manager.order) → Member x (members w b) → ⊥
apart w b r x m k = (let t = closes w r x m in let z = waits w r x (Member-take b.size x (waiting w) k) in omega (arith, t.1, z.1))

judged-before : (w : CoreState) (b : Batch) (ds : List Decision) → IsCoreReached w → (x : UnitNo) → Member x (take w.manager.closed w.manager.order) → judged (members w b) ds w.manager.verdict x ≡ w.manager.verdict x
judged-before w b ds r x m = judged-other (members w b) ds w.manager.verdict x (apart w b r x m)

unlearnt-judged : (w : CoreState) (b : Batch) (ds : List Decision) → IsCoreReached w → unlearnt w ≡ unlearnt (with_decisions w b ds)
unlearnt-judged w b ds r =
    ap (λ us. filter (λ (t : UnitNo × GrainId). not (w.cells.learnt t.0 t.1)) (flat_map (λ x. map (λ (y : Write). (x, y.0)) (w.manager.writes x)) us))
    (filter-agree (λ x. is_final (w.manager.verdict x)) (λ x. is_final (judged (members w b) ds w.manager.verdict x)) (take w.manager.closed w.manager.order)
    (λ x m. ap is_final (sym (judged-before w b ds r x m))))

last-judged : (w : CoreState) (b : Batch) (ds : List Decision) (g : GrainId) → IsCoreReached w → last_state w g ≡ last_state (with_decisions w b ds) g
last-judged w b ds g r =
    last-agree w.manager.verdict (judged (members w b) ds w.manager.verdict) w.manager.writes w.manager.writes g (take w.manager.closed w.manager.order) None
    (λ x m. ap is_committed (sym (judged-before w b ds r x m))) (λ x m. refl)

-- the batch is decided
stands-judged : (p q : Parts) (w : CoreState) (b : Batch) (x : TakenBatch) → PartsStand p w → IsCoreReached w → w.manager.batch ≡ Some b → p.batch ≡ Some x → ShowsBatch x (take b.size p.waiting.items) b → Judges p q x →
    PartsStand q (with_decisions w b (decisions_of w b))
stands-judged p q w b x s r e o k j =
    let ds = decisions_of w b in
    let same : decisions_now p x ≡ ds = decisions-now p w b x s k in
    let len : take (length ds) (waiting w) ≡ members w b = ap (λ n. take n (waiting w)) (decisions-length w b r e) in
    record {
      units = s.units ∙ sym (j.units w.units.seen_at);
      numbers = s.numbers;
      cells = subst (λ (t : CellTable). StandsForCells (opens_with t).limit (cells_kept t) (used_of t.recent) w.cells) (sym j.cells) s.cells;
      verdict =
          ap (λ us. judged us ds w.manager.verdict) (sym len)
          ∙ sym (judged-link ds w (waiting w) w.manager.verdict)
          ∙ (λ i. judged_after (sym same i) (sym s.effects i) (s.verdict i))
          ∙ sym j.verdict;
      result = s.result ∙ sym j.result;
      effects = ap (λ (v : Vec FinishedUnit Global). map effect_in v.items) j.waiting ∙ s.effects;
      sources = ap (λ (v : Vec FinishedUnit Global). map sources_in v.items) j.waiting ∙ s.sources;
      batch = from-cases q.batch q.waiting.items (Some (record b { decisions = Some ds })) (subst (λ y. ShowsOpen y q.waiting.items (Some (record b { decisions = Some ds }))) (sym j.batch)
          (subst (λ ms. ShowsBatch (taken.with_decisions x (decisions_now p x)) ms (record b { decisions = Some ds })) (ap (λ (v : Vec FinishedUnit Global). take b.size v.items) (sym j.waiting))
          (subst (λ y. ShowsBatch (taken.with_decisions x y) (take b.size p.waiting.items) (record b { decisions = Some ds })) (sym same) (shows-decided x (take b.size p.waiting.items) b ds k))));
      batches = s.batches ∙ sym j.batches;
      doubt = s.doubt ∙ sym j.doubt;
      settled = s.settled ∙ ap (λ (t : EntriesInRoom). t.entries) (sym j.entries);
      emitted = s.emitted ∙ ap (λ (t : EntriesInRoom). t.emitted) (sym j.entries);
      learn = ap (λ (t : PairsInRoom). t.pairs) j.learn ∙ s.learn ∙ unlearnt-judged w b ds r;
      handed = λ u g f held. ap (λ t. handed_in t u g) j.handed ∙ s.handed u g f held;
      last = λ g. ap (λ t. last_in t g) j.last ∙ s.last g ∙ last-judged w b ds g r;
      room = rooms same;
    }
  where
    size : owed_in q.batch ≡ owed_in p.batch
    size = ap owed_in j.batch ∙ ap owed_in (sym o)

    rooms : decisions_now p x ≡ decisions_of w b → HasRoom q
    rooms same = record {
      entries = subst (λ (t : EntriesInRoom). owed_in q.batch ≤ t.spare) (sym j.entries) (subst (λ n. n ≤ p.entries.spare) (sym size) s.room.entries);
      learn = subst (λ (t : PairsInRoom). writes_in (take (owed_in q.batch) q.waiting.items) ≤ t.spare) (sym j.learn)
          (subst (λ n. writes_in (take n q.waiting.items) ≤ p.learn.spare) (sym size) (subst (λ (v : Vec FinishedUnit Global). writes_in (take (owed_in p.batch) v.items) ≤ p.learn.spare) (sym j.waiting) s.room.learn));
      places = subst (λ t. EachPlaced (has_place t) (take (owed_in q.batch) q.waiting.items)) (sym j.last)
          (subst (λ n. EachPlaced (has_place p.last) (take n q.waiting.items)) (sym size) (subst (λ (v : Vec FinishedUnit Global). EachPlaced (has_place p.last) (take (owed_in p.batch) v.items)) (sym j.waiting) s.room.places));
    }

decided-closes : (w : CoreState) (b : Batch) → IsCoreReached w → w.manager.doubt ≡ None → w.manager.batch ≡ Some b → b.decisions ≡ None → CanClose (with_decisions w b (decisions_of w b)) b (decisions_of w b)
decided-closes w b r none q d = record {
  each = decisions-length w b r q;
  within = size-within w b r q;
  others = λ x. elim (member-or-not x (members w b)) [
    | inl m ↦ inl m
    | inr n ↦ inr (subst IsSteady (sym (judged-other (members w b) (decisions_of w b) w.manager.verdict x n)) (((rests w r).judged none).undecided (free d) x))
  ];
  final = λ x m. ap is_final (judged-before w b (decisions_of w b) r x m) ∙ closes-final w r none x m;
  unlearnt = λ x g m. members-fresh w b r x g m;
}
  where
    free : b.decisions ≡ None → (c : Batch) → w.manager.batch ≡ Some c → c.decisions ≡ None
    free e c t = subst (λ (z : Option Batch). decisions_if z ≡ None) (sym q ∙ t) e
      where
        decisions_if : Option Batch → Option (List Decision)
        decisions_if None = None
        decisions_if (Some z) = z.decisions

-- the state by the decisions
decide-is : (w : CoreState) (b : Batch) (n : ℕ) → w.manager.batch ≡ Some b → does w (Decide n) ≡ decided_by w b (decisions_of w b)
decide-is w b n q = ap (on_batch w (decided w)) q

commits-is : (p : Parts) (w : CoreState) (b : Batch) (x : TakenBatch) (commits : ℕ) → PartsStand p w → ShowsBatch x (take b.size p.waiting.items) b → commits ≡ commits_in (Some (decisions_now p x)) → nat_lt 0 commits ≡ any is_commit (decisions_of w b)
commits-is p w b x commits s k e = ap (nat_lt 0) e ∙ commits-some (decisions_now p x) ∙ ap (any is_commit) (decisions-now p w b x s k)

reply-is : (p : Parts) (w : CoreState) (b : Batch) (x : TakenBatch) (commits : ℕ) → PartsStand p w → w.manager.batch ≡ Some b → ShowsBatch x (take b.size p.waiting.items) b → commits ≡ commits_in (Some (decisions_now p x)) → reply.Decided commits ≡ decided_reply w w.manager.batch
reply-is p w b x commits s q k e =
    ap reply.Decided (e ∙ ap (λ ds. length (filter is_commit ds)) (decisions-now p w b x s k)) ∙ sym (ap (decided_reply w) q)

pub does-decide : (p q : Parts) (n commits : ℕ) → ((x : TakenBatch) → p.batch ≡ Some x → Judges p q x) → ((x : TakenBatch) → p.batch ≡ Some x → commits ≡ commits_in (Some (decisions_now p x))) → nat_lt 0 commits ≡ true →
    Does p (Decide n) (reply.Decided commits) q
does-decide p q n commits j e some = λ w s r a.
    (let t = decide-parts w n a in
    let b = t.0 in
    let k = shown-open p w b s t.1 in
    let x = k.0 in
    let ds = decisions_of w b in
    let yes : any is_commit ds ≡ true = sym (commits-is p w b x commits s k.2 (e x k.1)) ∙ some in (
      unmoved q w (Decide n) r a refl (subst (PartsStand q) (sym (decide-is w b n t.1 ∙ cond-true (any is_commit ds) (with_decisions w b ds) (sealed (with_decisions w b ds) b ds) yes))
          (stands-judged p q w b x s r t.1 k.1 k.2 (j x k.1))),
      reply-is p w b x commits s t.1 k.2 (e x k.1),
    ))

pub does-decide-none : (p m q : Parts) (n commits : ℕ) → ((x : TakenBatch) → p.batch ≡ Some x → Judges p m x) → ((x : TakenBatch) → p.batch ≡ Some x → commits ≡ commits_in (Some (decisions_now p x))) → nat_lt 0 commits ≡ false →
    ((ds : List Decision) → decisions_in m.batch ≡ Some ds → Closes how.Sealed ds m q) → q.doubt ≡ m.doubt → Does p (Decide n) (reply.Decided commits) q
does-decide-none p m q n commits j e none closing doubt = λ w s r a.
    (let t = decide-parts w n a in
    let b = t.0 in
    let k = shown-open p w b s t.1 in
    let x = k.0 in
    let ds = decisions_of w b in
    let no : any is_commit ds ≡ false = sym (commits-is p w b x commits s k.2 (e x k.1)) ∙ none in
    let mid = stands-judged p m w b x s r t.1 k.1 k.2 (j x k.1) in
    let here : decisions_in m.batch ≡ Some ds = ap decisions_in (j x k.1).batch ∙ ap Some (decisions-now p w b x s k.2) in (
      unmoved q w (Decide n) r a refl (subst (PartsStand q) (sym (decide-is w b n t.1 ∙ cond-false (any is_commit ds) (with_decisions w b ds) (sealed (with_decisions w b ds) b ds) no))
          (stands-closed how.Sealed m q (with_decisions w b ds) b ds mid (decided-closes w b r (going-known w n a) t.1 t.2) (closing ds here) doubt)),
      reply-is p w b x commits s t.1 k.2 (e x k.1),
    ))

-- a batch that is just decided is ready to close
pub ready-decided : (p m : Parts) (n : ℕ) → CanDo p (Decide n) → ((x : TakenBatch) → p.batch ≡ Some x → Judges p m x) → IsReadyToClose m
ready-decided p m n c j =
    let w = c.0 in let s = c.1 in let r = c.2 in
    let t = decide-parts w n c.3 in
    let b = t.0 in
    let k = shown-open p w b s t.1 in
    let x = k.0 in
    let mid = stands-judged p m w b x s r t.1 k.1 k.2 (j x k.1) in
    let len : length (decisions_now p x) ≡ x.size = ap (λ (ds : List Decision). length ds) (decisions-now p w b x s k.2) ∙ decisions-length w b r t.1 ∙ sym k.2.size in (
      taken.with_decisions x (decisions_now p x),
      decisions_now p x,
      (j x k.1).batch,
      refl,
      is-ready m (with_decisions w b (decisions_of w b)) (decisions_now p x) mid (λ u g. (waits w r u g).0) (len ∙ sym (ap owed_in (j x k.1).batch)),
    )
