-- The state after a batch has closed.
use Rattle.std.proofs.Common.{◌≡◌, ℕ, zero, suc, ◌+◌, ◌<◌, ◌≤◌, List, [], ◌∷◌, ◌++◌, Bool, true, false, not, ◌⊎◌, inl, inr, refl, sym, ap, ◌∙◌, subst, arith, Option, Some, None, length, take, drop, map, filter, length-drop}
use Rattle.std.specs.Prelude.{if◌then◌else◌, flat_map}
use Rattle.cell_model.specs.Units.{Member}
use Rattle.cell_model.proofs.Units.{filter-member}
use Rattle.core_model.specs.CoreState.{UnitNo, GrainId, Value, Write, Outcome, Entry, Settled, Batch, Decision, CoreState}
use Rattle.core_model.specs.declared.effects.Effect.{Effect}
use Rattle.core_model.specs.declared.phases.Verdict.{Verdict}
use Rattle.core_model.specs.declared.phases.Verdict.TheVariants.{Open}
use Rattle.core_model.specs.Tests.{is_final, is_committed, members, waiting, state_written}
use Rattle.core_model.specs.ToldOutcomes.{IsSteady}
use Rattle.core_model.specs.LearnQueue.{to_learn}
use Rattle.core_model.specs.Answers.{effect_of}
use Rattle.core_model.specs.Changes.{closed, entries_in}
use Rattle.core_laws.proofs.Plans.{flat-member}
use Rattle.core_parts.specs.States.{last_in, has_place, handed_in}
use Rattle.unit_table.specs.Table.{units_of, verdict_in, result_in}
use Rattle.open_batch.specs.declared.members.FinishedUnit.{FinishedUnit}
use Rattle.open_batch.specs.Members.{effect_in, sources_in}
use Rattle.open_batch.proofs.ModelBatch.{units-left}
use Rattle.history_core.specs.declared.parts.Parts.{Parts}
use Rattle.history_core.specs.declared.batch_closing.Closing.{Closing}
use Rattle.history_core.specs.ClosedUnits.{last_among, last_state, unlearnt, grains_with, mapped}
use Rattle.history_core.specs.BatchClosing.{Closes}
use Rattle.history_core.specs.Fronts.{ends_as, told_as, verdicts_after, entries_after, pairs_after, last_after}
use Rattle.cell_table.specs.Table.{cells_kept, opens_with, used_of}
use Rattle.history_core.specs.KeptParts.{PartsStand, IsCoreReached, ShowsOpen, ShowsTakenBatch, AllPlaced, EachPlaced, owed_in, writes_in}
use Rattle.history_core.proofs.OpenBatches.{to-cases, from-cases, each-placed, placed-each}
use Rattle.history_core.proofs.Lists.{filter-agree, last-agree}
use Rattle.history_core.proofs.Fronts.{ends-open, ends-final, mapped-is, verdicts-link, entries-link, pairs-link, last-link, last-append, take-more, drop-more, filter-append, flat-append, filter-whole}
use Rattle.history_core.proofs.Takes.{are-units}
use Rattle.cell_memory.specs.KeptCells.{StandsForCells}
use Rattle.cell_table.specs.declared.table.CellTable.{CellTable}

-- What a batch needs that closes: one decision for each unit, and units within the finish order. Who isn't of it is steady,
-- who stands before it is decided for good, and no grain has learnt anything of its units.
pub record CanClose (w : CoreState) (b : Batch) (ds : List Decision) : Type 0 where
  pub each : length ds ≡ b.size
  pub within : w.manager.closed + b.size ≤ length w.manager.order
  pub others : (x : UnitNo) → Member x (members w b) ⊎ IsSteady (w.manager.verdict x)
  pub final : (x : UnitNo) → Member x (take w.manager.closed w.manager.order) → is_final (w.manager.verdict x) ≡ true
  pub unlearnt : (x : UnitNo) (g : GrainId) → Member x (members w b) → w.cells.learnt x g ≡ false

steady-stays : (h : Closing) (v : Verdict) → IsSteady v → ends_as h v ≡ v
steady-stays h v (inl e) = ap (ends_as h) e ∙ ends-open h ∙ sym e
steady-stays h v (inr f) = ends-final h v f

-- the closed units after it
closed-order : (w : CoreState) (b : Batch) → take (w.manager.closed + b.size) w.manager.order ≡ take w.manager.closed w.manager.order ++ members w b
closed-order w b = take-more w.manager.closed b.size w.manager.order

front-is : (w : CoreState) (b : Batch) (ds : List Decision) → CanClose w b ds → take (length ds) (waiting w) ≡ members w b
front-is w b ds c = ap (λ n. take n (waiting w)) c.each

-- the verdicts after it
verdicts-closed : (h : Closing) (p : Parts) (w : CoreState) (b : Batch) (ds : List Decision) → PartsStand p w → CanClose w b ds →
    ◌≡◌ {A = UnitNo → Verdict} (λ x. ends_as h (w.manager.verdict x)) (verdicts_after (ends_as h) ds (map effect_in p.waiting.items) (verdict_in p.units))
verdicts-closed h p w b ds s c =
    sym (mapped-is h (members w b) w.manager.verdict (λ x. elim (c.others x) [ inl m ↦ inl m | inr t ↦ inr (steady-stays h (w.manager.verdict x) t) ]))
    ∙ ap (λ us. mapped (ends_as h) us w.manager.verdict) (sym (front-is w b ds c))
    ∙ sym (verdicts-link (ends_as h) ds w (waiting w) w.manager.verdict)
    ∙ (λ i. verdicts_after (ends_as h) ds (sym s.effects i) (s.verdict i))

entries-closed : (h : Closing) (p : Parts) (w : CoreState) (b : Batch) (ds : List Decision) → PartsStand p w → CanClose w b ds →
    entries_in w (λ u. told_as h (w.manager.result u)) (members w b) ds ≡ entries_after h ds (map effect_in p.waiting.items)
entries-closed h p w b ds s c =
    ap (λ us. entries_in w (λ u. told_as h (w.manager.result u)) us ds) (sym (front-is w b ds c))
    ∙ sym (entries-link h ds w (waiting w))
    ∙ ap (entries_after h ds) (sym s.effects)

-- what the grains have to learn after it
unlearnt-closed : (h : Closing) (p : Parts) (w : CoreState) (b : Batch) (ds : List Decision) (answer : UnitNo → Settled) → PartsStand p w → CanClose w b ds →
    unlearnt w ++ pairs_after (ends_as h) ds (map effect_in p.waiting.items) (verdict_in p.units) ≡ unlearnt (closed w (ends_as h) answer b ds)
unlearnt-closed h p w b ds answer s c =
    (λ i. unlearnt w ++ news i)
    ∙ (λ i. filter fresh (flat_map grains (olds i)) ++ kept i)
    ∙ sym (filter-append fresh (flat_map grains (filter after (take w.manager.closed w.manager.order))) (flat_map grains (filter after (members w b))))
    ∙ ap (filter fresh) (sym (flat-append grains (filter after (take w.manager.closed w.manager.order)) (filter after (members w b))))
    ∙ ap (λ us. filter fresh (flat_map grains us)) (sym (filter-append after (take w.manager.closed w.manager.order) (members w b)))
    ∙ ap (λ us. filter fresh (flat_map grains (filter after us))) (sym (closed-order w b))
  where
    fresh : UnitNo × GrainId → Bool
    fresh t = not (w.cells.learnt t.0 t.1)

    grains : UnitNo → List (UnitNo × GrainId)
    grains x = grains_with x (w.manager.writes x)

    after : UnitNo → Bool
    after x = is_final (ends_as h (w.manager.verdict x))

    news : pairs_after (ends_as h) ds (map effect_in p.waiting.items) (verdict_in p.units) ≡ flat_map grains (filter after (members w b))
    news = (λ i. pairs_after (ends_as h) ds (s.effects i) (sym s.verdict i))
        ∙ pairs-link h ds w (waiting w) w.manager.verdict w.manager.verdict (λ x. refl)
        ∙ ap (λ us. flat_map grains (filter after us)) (front-is w b ds c)

    olds : filter (λ x. is_final (w.manager.verdict x)) (take w.manager.closed w.manager.order) ≡ filter after (take w.manager.closed w.manager.order)
    olds = filter-agree (λ x. is_final (w.manager.verdict x)) after (take w.manager.closed w.manager.order)
        (λ x m. ap is_final (sym (ends-final h (w.manager.verdict x) (c.final x m))))

    in-grains : (x : UnitNo) (ws : List Write) (t : UnitNo × GrainId) → Member t (grains_with x ws) → t.0 ≡ x
    in-grains x [] t m = absurd m
    in-grains x (y ∷ ys) t (inl e) = ap (λ (z : UnitNo × GrainId). z.0) e
    in-grains x (y ∷ ys) t (inr m) = in-grains x ys t m

    kept : flat_map grains (filter after (members w b)) ≡ filter fresh (flat_map grains (filter after (members w b)))
    kept = sym (filter-whole fresh (flat_map grains (filter after (members w b))) (λ t m.
        (let k = flat-member grains (filter after (members w b)) t m in
        let u = filter-member after (members w b) k.0 k.1 in
        let e = in-grains k.0 (w.manager.writes k.0) t k.2 in
        ap not (ap (λ z. w.cells.learnt z t.1) e ∙ c.unlearnt k.0 t.1 u.0))))

last-closed : (h : Closing) (p : Parts) (w : CoreState) (b : Batch) (ds : List Decision) (answer : UnitNo → Settled) (g : GrainId) → PartsStand p w → CanClose w b ds →
    last_after (ends_as h) g ds (map effect_in p.waiting.items) (verdict_in p.units) (last_in p.last g) ≡ last_state (closed w (ends_as h) answer b ds) g
last-closed h p w b ds answer g s c =
    (λ i. last_after (ends_as h) g ds (s.effects i) (sym s.verdict i) (s.last g i))
    ∙ last-link h g ds w (waiting w) w.manager.verdict w.manager.verdict (last_state w g) (λ x. refl)
    ∙ (λ i. last_among (λ x. ends_as h (w.manager.verdict x)) w.manager.writes g (front-is w b ds c i) (olds i))
    ∙ sym (last-append (λ x. ends_as h (w.manager.verdict x)) w.manager.writes g (take w.manager.closed w.manager.order) (members w b) None)
    ∙ ap (λ us. last_among (λ x. ends_as h (w.manager.verdict x)) w.manager.writes g us None) (sym (closed-order w b))
  where
    olds : last_state w g ≡ last_among (λ x. ends_as h (w.manager.verdict x)) w.manager.writes g (take w.manager.closed w.manager.order) None
    olds = last-agree w.manager.verdict (λ x. ends_as h (w.manager.verdict x)) w.manager.writes w.manager.writes g (take w.manager.closed w.manager.order) None
        (λ x m. ap is_committed (sym (ends-final h (w.manager.verdict x) (c.final x m)))) (λ x m. refl)

pub stands-closed : (h : Closing) (p q : Parts) (w : CoreState) (b : Batch) (ds : List Decision) → PartsStand p w → CanClose w b ds → Closes h ds p q → q.doubt ≡ p.doubt →
    PartsStand q (closed w (ends_as h) (λ u. told_as h (w.manager.result u)) b ds)
stands-closed h p q w b ds s c k doubt =
    let left = units-left (length ds) p.waiting.items w (waiting w) (are-units p w s) in
    let rest : drop (length ds) (waiting w) ≡ drop (w.manager.closed + b.size) w.manager.order = ap (λ n. drop n (waiting w)) c.each ∙ drop-more w.manager.closed b.size w.manager.order in
    record {
      units = s.units ∙ sym (k.units.others.units w.units.seen_at);
      numbers = s.numbers;
      cells = subst (λ (t : CellTable). StandsForCells (opens_with t).limit (cells_kept t) (used_of t.recent) w.cells) (sym k.cells) s.cells;
      verdict = verdicts-closed h p w b ds s c ∙ sym k.units.verdict;
      result = s.result ∙ sym k.units.others.result;
      effects = ap (map effect_in) k.waiting ∙ left.effects ∙ ap (map (effect_of w)) rest;
      sources = ap (map sources_in) k.waiting ∙ left.sources ∙ ap (map w.units.deps) rest;
      batch = from-cases q.batch q.waiting.items None (subst (λ o. ShowsOpen o q.waiting.items None) (sym k.batch) tt);
      batches = s.batches ∙ sym k.batches;
      doubt = s.doubt ∙ sym doubt;
      settled = (λ i. s.settled i ++ entries-closed h p w b ds s c i) ∙ sym k.units.entries;
      emitted = s.emitted ∙ sym k.units.emitted;
      learn = k.units.pairs ∙ (λ i. s.learn i ++ pairs_after (ends_as h) ds (map effect_in p.waiting.items) (verdict_in p.units)) ∙ unlearnt-closed h p w b ds (λ u. told_as h (w.manager.result u)) s c;
      handed = λ u g f held. ap (λ t. handed_in t u g) k.handed ∙ s.handed u g f held;
      last = λ g. k.units.last g ∙ last-closed h p w b ds (λ u. told_as h (w.manager.result u)) g s c;
      room = record {
        entries = subst (λ o. owed_in o ≤ q.entries.spare) (sym k.batch) (omega arith);
        learn = subst (λ o. writes_in (take (owed_in o) q.waiting.items) ≤ q.learn.spare) (sym k.batch) (omega arith);
        places = subst (λ o. EachPlaced (has_place q.last) (take (owed_in o) q.waiting.items)) (sym k.batch) (λ m i x j. absurd i);
      };
    }
