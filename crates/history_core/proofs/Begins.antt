-- The state after a unit has begun.
use Rattle.std.proofs.Common.{◌≡◌, ℕ, ◌+◌, ◌<◌, ◌≤◌, ◌^◌, List, [], ◌∷◌, Bool, true, false, ◌&&◌, refl, sym, ap, ◌∙◌, subst, arith, eqb-true, Option, Some, None, length, map, is_some, le_refl}
use Rattle.std.specs.Prelude.{◌==◌}
use Rattle.std.specs.List.{list_all as all}
use Rattle.std.proofs.lemmas.Bool.{and_parts}
use Rattle.base_types.specs.declared.calls.Origin.TheVariants.{Line, Child}
use Rattle.cell_model.specs.Locks.{holds_lock}
use Rattle.core_model.specs.CoreState.{UnitNo, GrainId, Member, Call, Origin, Units, CoreState, put}
use Rattle.core_model.specs.declared.phases.Phase.{Phase}
use Rattle.core_model.specs.declared.phases.Phase.TheVariants.{Unborn, Running, Finished}
use Rattle.core_model.specs.declared.effects.Effect.{Effect}
use Rattle.core_model.specs.Tests.{is_running, is_decided, outcome_in, state_written, waiting}
use Rattle.core_model.specs.Answers.{effect_of}
use Rattle.core_model.specs.Changes.{begun, new_unit}
use Rattle.core_model.specs.Events.{can_begin}
use Rattle.core_model.specs.declared.events.CoreEvent.TheVariants.{Begin}
use Rattle.core_model.specs.declared.events.CoreReply.{CoreReply}
use Rattle.core_model.specs.declared.events.CoreReply.TheVariants as reply
use Rattle.core_laws.proofs.Basics.{is_running-true}
use Rattle.core_laws.proofs.Puts.{put-from, put-other}
use Rattle.unit_table.specs.Parts.{units_begun}
use Rattle.unit_table.specs.Table.{units_of, verdict_in, result_in, next_in, phase_in}
use Rattle.unit_table.specs.Rooms.{ParentRuns, LineIsCounted}
use Rattle.unit_table.specs.declared.table.UnitTable.{UnitTable}
use Rattle.history_core.specs.declared.parts.Parts.{Parts}
use Rattle.history_core.specs.LockAnswers.{is_next_child_in, FitsLine}
use Rattle.history_core.specs.KeptParts.{PartsStand, IsCoreReached}
use Rattle.history_core.specs.Steps.{CanDo, Does}
use Rattle.history_core.proofs.OneEvent.{can-is}
use Rattle.history_core.proofs.Lists.{map-agree}
use Rattle.history_core.proofs.CoreStates.{rests, waits}
use Rattle.history_core.proofs.Sweeps.{unmoved}

-- a finished unit isn't the one that begins
finished-not : (w : CoreState) → IsCoreReached w → (x : UnitNo) → w.units.phase x ≡ Finished → x ≡ new_unit w → ⊥
finished-not w r x f e = (let t : Finished ≡ Unborn = sym f ∙ ap w.units.phase e ∙ (rests w r).fresh (new_unit w) (le_refl w.units.next) in cc)

effect-begun : (w : CoreState) (origin : Origin) (call : Call) (plain : Bool) (x : UnitNo) → (x ≡ new_unit w → ⊥) → effect_of w x ≡ effect_of (begun w origin call plain) x
effect-begun w origin call plain x n = λ i. record (effect_of w x) {
  origin = sym (put-other w.units.origin (new_unit w) origin x n) i;
  call = sym (put-other w.units.call (new_unit w) call x n) i;
}

pub does-begin : (p : Parts) (origin : Origin) (call : Call) (plain : Bool) (unit : UnitNo) (units : UnitTable) →
    ((seen : UnitNo → Option ℕ) → units_of units seen ≡ units_begun (units_of p.units seen) origin call plain) → verdict_in units ≡ verdict_in p.units → result_in units ≡ result_in p.units →
    unit ≡ record { 0 = next_in p.units } → next_in p.units < 2 ^ 63 → Does p (Begin origin call plain) (reply.Began unit) (record p { units = units })
does-begin p origin call plain unit units u v o number below = λ w s r a. (
  unmoved (record p { units = units }) w (Begin origin call plain) r a refl (record {
    units = ap (λ us. units_begun us origin call plain) s.units ∙ sym (u w.units.seen_at);
    numbers = (let n : w.units.next ≡ next_in p.units = ap (λ (us : Units). us.next) s.units in omega (arith, n, below));
    cells = s.cells;
    verdict = s.verdict ∙ sym v;
    result = s.result ∙ sym o;
    effects = s.effects ∙ map-agree (effect_of w) (effect_of (begun w origin call plain)) (waiting w)
        (λ x m. effect-begun w origin call plain x (finished-not w r x (waits w r x m).0));
    sources = s.sources;
    batch = s.batch;
    batches = s.batches;
    doubt = s.doubt;
    settled = s.settled;
    emitted = s.emitted;
    learn = s.learn;
    handed = λ x g. put-from w.units.phase (new_unit w) Running (λ ph. ph ≡ Finished) (holds_lock x (w.cells.holds g) ≡ true → _ ≡ state_written g (w.manager.writes x)) x (λ e h. cc) (λ n h. s.handed x g h);
    last = s.last;
    room = record { entries = s.room.entries; learn = s.room.learn; places = s.room.places };
  }),
  ap reply.Began (number ∙ (let n : next_in p.units ≡ w.units.next = ap (λ (us : Units). us.next) (sym s.units) in λ i. record { 0 = n i })),
)

-- a child's parent runs
pub parent-runs : (p : Parts) (origin : Origin) (call : Call) (plain : Bool) → CanDo p (Begin origin call plain) → ParentRuns p.units origin
parent-runs p (Line n) call plain c = tt
parent-runs p (Child q i d) call plain c =
    let t : (is_running (c.0.units.phase q) && ((i == length (c.0.units.kids q)) && all (is_decided c.0) (c.0.units.kids q))) ≡ true = can-is c.0 (Begin (Child q i d) call plain) c.3 in
    (λ k. is_running ((sym c.1.units k).phase q)) ∙ (and_parts (is_running (c.0.units.phase q)) _ t).0

-- a line's number is one of 32 bits, so the lines before it are fewer
pub line-counts : (t : UnitTable) (p : Parts) (origin : Origin) (call : Call) (plain : Bool) → CanDo p (Begin origin call plain) → t.lines ≡ p.units.lines →
    FitsLine origin → LineIsCounted t origin
line-counts t p (Line n) call plain c e fits =
    let q : n ≡ c.0.units.lines + 1 = eqb-true _ _ (can-is c.0 (Begin (Line n) call plain) c.3) in
    let l : c.0.units.lines ≡ p.units.lines = ap (λ (us : Units). us.lines) c.1.units in
    omega (arith, q, l, e, fits)
line-counts t p (Child q i d) call plain c e fits = tt

-- whether a child can begin is told by what is kept
pub next-child-is : (p : Parts) (w : CoreState) (q : UnitNo) (index depth : ℕ) → PartsStand p w → is_next_child_in p q index ≡ can_begin w (Child q index depth)
next-child-is p w q index depth s = λ i.
    is_running ((sym s.units i).phase q)
    && ((index == length ((sym s.units i).kids q)) && all (λ u. is_some (outcome_in ((sym s.units i).phase u) (sym s.verdict i u) (sym s.result i u))) ((sym s.units i).kids q))
