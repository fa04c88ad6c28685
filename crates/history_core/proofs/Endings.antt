-- The state after a unit was refused, or a plain run has ended.
use Rattle.std.proofs.Common.{◌≡◌, ℕ, ◌+◌, ◌<◌, ◌≤◌, List, [], ◌∷◌, ◌++◌, Bool, true, false, ◌&&◌, not, inl, inr, refl, sym, ap, ◌∙◌, subst, arith, Option, Some, None, is_some, take, map, filter}
use Rattle.std.specs.Prelude.{if◌then◌else◌, flat_map}
use Rattle.cell_model.specs.Units.{Member}
use Rattle.cell_model.specs.Locks.{holds_lock}
use Rattle.base_types.specs.declared.entries.Settled.TheVariants as settled
use Rattle.core_model.specs.CoreState.{UnitNo, GrainId, Mode, Write, Outcome, Origin, Entry, Settled, Units, CoreState, put}
use Rattle.core_model.specs.declared.effects.Effect.{Effect}
use Rattle.core_model.specs.declared.phases.Phase.TheVariants.{Running, Finished, Refused, Ended}
use Rattle.core_model.specs.declared.phases.Verdict.{Verdict}
use Rattle.core_model.specs.declared.phases.Verdict.TheVariants.{Aborted}
use Rattle.core_model.specs.declared.events.CoreEvent.TheVariants.{Refuse, EndPlain, EndSnapshot}
use Rattle.core_model.specs.declared.events.CoreEvent.{CoreEvent}
use Rattle.core_model.specs.declared.events.CoreReply.TheVariants as reply
use Rattle.core_model.specs.Tests.{is_running, is_final, is_committed, ask_answer, waiting, state_written}
use Rattle.core_model.specs.Answers.{effect_of}
use Rattle.core_model.specs.Changes.{after_refusal, refused_by, refusal, after_end, entry_for, swept, without_wants}
use Rattle.core_model.specs.Events.{applies, does}
use Rattle.core_laws.proofs.Basics.{is_running-true}
use Rattle.core_laws.proofs.EventCases.{Change, refuse, end_plain, end_snapshot, decode}
use Rattle.core_laws.proofs.Puts.{put-from, put-other}
use Rattle.cell_memory.specs.LeavingGrains.{evicted_by, wanted_of}
use Rattle.cell_table.specs.Table.{cells_kept, opens_with, used_of}
use Rattle.cell_table.specs.declared.table.CellTable.{CellTable}
use Rattle.core_parts.specs.Room.{EntriesInRoom}
use Rattle.core_parts.specs.States.{handed_in}
use Rattle.unit_table.specs.Parts.{units_over}
use Rattle.unit_table.specs.Table.{units_of, verdict_in, result_in, phase_in, origin_in, wants_in}
use Rattle.unit_table.specs.declared.table.UnitTable.{UnitTable}
use Rattle.history_core.specs.declared.parts.Parts.{Parts}
use Rattle.history_core.specs.LockAnswers.{ask_in}
use Rattle.history_core.proofs.Grants.{ask-is}
use Rattle.history_core.specs.ClosedUnits.{unlearnt, last_state}
use Rattle.history_core.specs.KeptParts.{PartsStand, IsCoreReached, owed_in}
use Rattle.history_core.specs.Steps.{CanDo, Changes, Does}
use Rattle.history_core.specs.Evictions.{EndsAs}
use Rattle.history_core.proofs.Sweeps.{does-evicting, evicts, waits-over}
use Rattle.history_core.proofs.OneEvent.{can-is}
use Rattle.history_core.proofs.Lists.{map-agree, filter-agree, last-agree}
use Rattle.history_core.proofs.CoreStates.{waits-not, closes-not}

unlearnt-refused : (w : CoreState) (u : UnitNo) (why : Settled) → IsCoreReached w → w.units.phase u ≡ Running → unlearnt w ≡ unlearnt (after_refusal w u why)
unlearnt-refused w u why r p =
    ap (λ us. filter (λ (t : UnitNo × GrainId). not (w.cells.learnt t.0 t.1)) (flat_map (λ x. map (λ (y : Write). (x, y.0)) (w.manager.writes x)) us))
    (filter-agree (λ x. is_final (w.manager.verdict x)) (λ x. is_final (put w.manager.verdict u Aborted x)) (take w.manager.closed w.manager.order)
    (λ x m. ap is_final (sym (put-other w.manager.verdict u Aborted x (closes-not w r u p x m)))))

last-refused : (w : CoreState) (u : UnitNo) (why : Settled) (g : GrainId) → IsCoreReached w → w.units.phase u ≡ Running → last_state w g ≡ last_state (after_refusal w u why) g
last-refused w u why g r p =
    last-agree w.manager.verdict (put w.manager.verdict u Aborted) w.manager.writes w.manager.writes g (take w.manager.closed w.manager.order) None
    (λ x m. ap is_committed (sym (put-other w.manager.verdict u Aborted x (closes-not w r u p x m)))) (λ x m. refl)

-- the unit that is refused runs
pub refuse-runs : (w : CoreState) (u : UnitNo) (g : GrainId) (mode : Mode) → applies w (Refuse u g mode) ≡ true → w.units.phase u ≡ Running
refuse-runs w u g mode a = go (does w (Refuse u g mode)) (decode w (Refuse u g mode) (can-is w (Refuse u g mode) a))
  where
    go : (w' : CoreState) → Change w (Refuse u g mode) w' → w.units.phase u ≡ Running
    go w' (refuse u g mode why running q) = running

pub can-refuse-runs : (p : Parts) (u : UnitNo) (g : GrainId) (mode : Mode) → CanDo p (Refuse u g mode) → is_running (phase_in p.units u) ≡ true
can-refuse-runs p u g mode c = (λ i. is_running ((sym c.1.units i).phase u)) ∙ ap is_running (refuse-runs c.0 u g mode c.3)

pub changes-refuse : (p : Parts) (u : UnitNo) (g : GrainId) (mode : Mode) (why : Settled) (origin : Origin) (units : UnitTable) (entries : EntriesInRoom) →
    ((w : CoreState) → PartsStand p w → IsCoreReached w → Some why ≡ refusal g (ask_answer w u g mode)) → ((w : CoreState) → PartsStand p w → origin ≡ w.units.origin u) →
    ((seen : UnitNo → Option ℕ) → units_of units seen ≡ units_over (units_of p.units seen) u Refused) → verdict_in units ≡ put (verdict_in p.units) u Aborted → result_in units ≡ result_in p.units →
    entries.entries ≡ p.entries.entries ++ entry_for origin u why → entries.emitted ≡ p.entries.emitted → owed_in p.batch ≤ entries.spare →
    Changes p (Refuse u g mode) reply.Done (record p { units = units; entries = entries })
changes-refuse p u g mode why origin units entries cause from us v o es em room = λ w s r a. (
  subst (λ c. PartsStand (record p { units = units; entries = entries }) (refused_by w u c)) (cause w s r)
      (let runs = refuse-runs w u g mode a in
      record {
        units = ap (λ (x : Units). units_over x u Refused) s.units ∙ sym (us w.units.seen_at);
        numbers = s.numbers;
        cells = s.cells;
        verdict = ap (λ (x : UnitNo → Verdict). put x u Aborted) s.verdict ∙ sym v;
        result = s.result ∙ sym o;
        effects = s.effects;
        sources = s.sources;
        batch = s.batch;
        batches = s.batches;
        doubt = s.doubt;
        settled = (λ i. s.settled i ++ entry_for (sym (from w s) i) u why) ∙ sym es;
        emitted = s.emitted ∙ sym em;
        learn = s.learn ∙ unlearnt-refused w u why r runs;
        handed = λ x k. put-from w.units.phase u Refused (λ ph. ph ≡ Finished) (holds_lock x (w.cells.holds k) ≡ true → handed_in p.handed x k ≡ state_written k (w.manager.writes x)) x (λ q h. cc) (λ n h. s.handed x k h);
        last = λ k. s.last k ∙ last-refused w u why k r runs;
        room = record { entries = room; learn = s.room.learn; places = s.room.places };
      }),
  refl,
)

-- then what it waited for goes where it is idle
pub does-refuse : (p : Parts) (u : UnitNo) (g : GrainId) (mode : Mode) (units : UnitTable) (entries : EntriesInRoom) (new : CellTable) (wants : List (UnitNo × GrainId)) →
    Changes p (Refuse u g mode) reply.Done (record p { units = units; entries = entries }) → ((seen : UnitNo → Option ℕ) → units_of units seen ≡ units_over (units_of p.units seen) u Refused) → wants ≡ wants_in p.units →
    cells_kept new ≡ evicted_by (opens_with p.cells).limit (without_wants u wants) (used_of p.cells.recent) (wanted_of u wants) (cells_kept p.cells) → new.recent ≡ p.cells.recent → opens_with new ≡ opens_with p.cells →
    Does p (Refuse u g mode) reply.Done (record p { units = units; entries = entries; cells = new })
does-refuse p u g mode units entries new wants changes over waits kept recent opens =
    does-evicting p (record p { units = units; entries = entries }) (Refuse u g mode) reply.Done new (without_wants u wants) (wanted_of u wants) changes
    (ap (without_wants u) waits ∙ waits-over p.units units u Refused over)
    (λ w s r a. (λ i. wanted_of u (s.units i).wants) ∙ ap (wanted_of u) (sym waits)) kept recent opens

effect-ended : (w : CoreState) (u : UnitNo) (answers : List Outcome) (result : Outcome) (at : Option ℕ) (x : UnitNo) → (x ≡ u → ⊥) → effect_of w x ≡ effect_of (after_end w u answers result at) x
effect-ended w u answers result at x n = λ i. record (effect_of w x) {
  answers = sym (put-other w.manager.answers u answers x n) i;
  result = sym (put-other w.manager.result u result x n) i;
}

pub stands-ended : (p : Parts) (w : CoreState) (u : UnitNo) (answers : List Outcome) (result : Outcome) (at : Option ℕ) (origin : Origin) (units : UnitTable) (entries : EntriesInRoom) →
    PartsStand p w → IsCoreReached w → is_running (phase_in p.units u) ≡ true → origin ≡ origin_in p.units u →
    ((seen : UnitNo → Option ℕ) → units_of units seen ≡ units_over (units_of p.units seen) u Ended) → verdict_in units ≡ verdict_in p.units → result_in units ≡ put (result_in p.units) u result →
    entries.entries ≡ p.entries.entries ++ entry_for origin u (settled.Done result) → entries.emitted ≡ p.entries.emitted → owed_in p.batch ≤ entries.spare →
    PartsStand (record p { units = units; entries = entries }) (after_end w u answers result at)
stands-ended p w u answers result at origin units entries s r running from us v o es em room =
    let runs : w.units.phase u ≡ Running = is_running-true _ ((λ i. is_running ((s.units i).phase u)) ∙ running) in
    record {
      units = (λ i. record (units_over (s.units i) u Ended) { seen_at = put w.units.seen_at u at }) ∙ sym (us (put w.units.seen_at u at));
      numbers = s.numbers;
      cells = s.cells;
      verdict = s.verdict ∙ sym v;
      result = ap (λ (x : UnitNo → Outcome). put x u result) s.result ∙ sym o;
      effects = s.effects ∙ map-agree (effect_of w) (effect_of (after_end w u answers result at)) (waiting w) (λ x m. effect-ended w u answers result at x (waits-not w r u runs x m));
      sources = s.sources;
      batch = s.batch;
      batches = s.batches;
      doubt = s.doubt;
      settled = (λ i. s.settled i ++ entry_for ((((λ k. (s.units k).origin u) ∙ sym from)) i) u (settled.Done result)) ∙ sym es;
      emitted = s.emitted ∙ sym em;
      learn = s.learn;
      handed = λ x k. put-from w.units.phase u Ended (λ ph. ph ≡ Finished) (holds_lock x (w.cells.holds k) ≡ true → handed_in p.handed x k ≡ state_written k (w.manager.writes x)) x (λ q h. cc) (λ n h. s.handed x k h);
      last = s.last;
      room = record { entries = room; learn = s.room.learn; places = s.room.places };
    }

-- then what it waited for goes where it is idle
pub ends-evicting : (p : Parts) (w : CoreState) (e : CoreEvent) (u : UnitNo) (answers : List Outcome) (result : Outcome) (at : Option ℕ) (units : UnitTable) (entries : EntriesInRoom) (new : CellTable) (wants : List (UnitNo × GrainId)) →
    PartsStand p w → IsCoreReached w → EndsAs w e u answers result at → PartsStand (record p { units = units; entries = entries }) (after_end w u answers result at) →
    ((seen : UnitNo → Option ℕ) → units_of units seen ≡ units_over (units_of p.units seen) u Ended) → wants ≡ wants_in p.units →
    cells_kept new ≡ evicted_by (opens_with p.cells).limit (without_wants u wants) (used_of p.cells.recent) (wanted_of u wants) (cells_kept p.cells) → new.recent ≡ p.cells.recent → opens_with new ≡ opens_with p.cells →
    PartsStand (record p { units = units; entries = entries; cells = new }) (swept (after_end w u answers result at))
ends-evicting p w e u answers result at units entries new wants s r ends after over waits kept recent opens =
    subst (λ (v : CoreState). PartsStand (record p { units = units; entries = entries; cells = new }) (swept v)) ends.ends
    (evicts (record p { units = units; entries = entries }) w e new (without_wants u wants) (wanted_of u wants) r ends.can
    (subst (PartsStand (record p { units = units; entries = entries })) (sym ends.ends) after)
    ((λ i. without_wants u ((waits ∙ (λ j. (sym s.units j).wants)) i)) ∙ ap (λ (v : CoreState). v.units.wants) (sym ends.ends))
    (ends.leaves ∙ (λ i. wanted_of u (s.units i).wants) ∙ ap (wanted_of u) (sym waits)) kept recent opens)

-- the unit that ends runs
pub plain-runs : (w : CoreState) (u : UnitNo) (e : Effect) → applies w (EndPlain u e) ≡ true → w.units.phase u ≡ Running
plain-runs w u e a = go (does w (EndPlain u e)) (decode w (EndPlain u e) (can-is w (EndPlain u e) a))
  where
    go : (w' : CoreState) → Change w (EndPlain u e) w' → w.units.phase u ≡ Running
    go w' (end_plain u e running plain of_call bare) = running

pub can-plain-runs : (p : Parts) (u : UnitNo) (e : Effect) → CanDo p (EndPlain u e) → is_running (phase_in p.units u) ≡ true
can-plain-runs p u e c = (λ i. is_running ((sym c.1.units i).phase u)) ∙ ap is_running (plain-runs c.0 u e c.3)

pub snapshot-runs : (w : CoreState) (u : UnitNo) (at : ℕ) (o : Outcome) → applies w (EndSnapshot u at o) ≡ true → w.units.phase u ≡ Running
snapshot-runs w u at o a = go (does w (EndSnapshot u at o)) (decode w (EndSnapshot u at o) (can-is w (EndSnapshot u at o) a))
  where
    go : (w' : CoreState) → Change w (EndSnapshot u at o) w' → w.units.phase u ≡ Running
    go w' (end_snapshot u at o running plain kids answer) = running

pub can-snapshot-runs : (p : Parts) (u : UnitNo) (at : ℕ) (o : Outcome) → CanDo p (EndSnapshot u at o) → is_running (phase_in p.units u) ≡ true
can-snapshot-runs p u at o c = (λ i. is_running ((sym c.1.units i).phase u)) ∙ ap is_running (snapshot-runs c.0 u at o c.3)

some-is : {A : Type 0} (o : Option A) → is_some o ≡ true → (x : A) × (o ≡ Some x)
some-is None e = cc
some-is (Some x) e = (x, refl)

-- there is a cause
pub refuse-some : (p : Parts) (u : UnitNo) (g : GrainId) (mode : Mode) → CanDo p (Refuse u g mode) → (why : Settled) × (refusal g (ask_in p u g mode) ≡ Some why)
refuse-some p u g mode c =
    let t = some-is (refusal g (ask_answer c.0 u g mode)) (can-is c.0 (Refuse u g mode) c.3) in
    (t.0, ap (refusal g) (ask-is p c.0 u g mode c.1 c.2) ∙ t.1)
