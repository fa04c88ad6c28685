-- The state after a grant.
use Rattle.std.proofs.Common.{◌≡◌, ℕ, ◌≤◌, List, [], ◌∷◌, ◌++◌, Bool, true, false, ◌&&◌, ◌||◌, not, nat_lt, refl, sym, ap, ◌∙◌, subst, arith, length, Option, Some, None, find, map, filter, inl, inr, ◌⊎◌}
use Rattle.std.specs.Prelude.{if◌then◌else◌}
use Rattle.std.proofs.lemmas.Bool.{cond-true, cond-false, and_parts}
use Rattle.cell_model.specs.Units.{same_unit, nobody, Member, oldest}
use Rattle.cell_model.specs.declared.locks.Ask.TheVariants.{Free}
use Rattle.cell_model.specs.Stacks.{top, cut, removed}
use Rattle.cell_model.specs.Sources.{with_source}
use Rattle.cell_model.specs.Locks as locks
use Rattle.cell_model.specs.Locks.{holds_lock, is_hold_of}
use Rattle.cell_model.specs.Cells as cells
use Rattle.cell_model.specs.Cells.{Cell, with_reading}
use Rattle.cell_model.specs.declared.locks.Hold.{Hold}
use Rattle.cell_model.proofs.LockAnswers.{granted-member}
use Rattle.cell_model.proofs.Units.{any-true, any-member, same_unit-true, same_unit-is}
use Rattle.core_model.specs.CoreState.{UnitNo, GrainId, Version, Mode, Units, CoreState, put, put_grain}
use Rattle.core_model.specs.declared.effects.Read.{Read}
use Rattle.core_model.specs.declared.phases.Phase.TheVariants.{Running, Finished}
use Rattle.core_model.specs.declared.effects.Effect.{Effect}
use Rattle.core_model.specs.Tests.{is_running, is_aborted, is_active, is_committed, is_gone, doomed_by, ask_answer, ask_doom, ask_lock, waiting, state_written}
use Rattle.core_model.specs.Answers.{effect_of}
use Rattle.core_model.specs.Changes.{after_grant, after_raise, after_lock, restacked, cleaned, touched, read_of, is_sure, deps_with, without_want}
use Rattle.core_model.specs.Events.{applies, read_reply}
use Rattle.core_model.specs.declared.events.CoreEvent.TheVariants.{Grant}
use Rattle.core_model.specs.declared.events.CoreReply.{CoreReply}
use Rattle.core_model.specs.declared.events.CoreReply.TheVariants as reply
use Rattle.core_laws.proofs.Basics.{is_running-true}
use Rattle.core_laws.proofs.EventCases.{ask-granted}
use Rattle.core_parts.specs.States.{handed_in}
use Rattle.core_laws.proofs.Puts.{grain-at, grain-same, grain-is, grain-other, grain-from, put-other}
use Rattle.grain_cell.specs.Room.{writers, meets, without_aborted}
use Rattle.grain_cell.proofs.Writers.{found-cleans, none-cleans}
use Rattle.activations.specs.LastUsed.{LastUsed}
use Rattle.cell_memory.specs.KeptCells.{StandsForCells}
use Rattle.cell_memory.specs.LeavingGrains.{evicted_by, left_by}
use Rattle.cell_memory.specs.ChangedCells.{after_grant_in, cleared_cell}
use Rattle.cell_memory.proofs.ChangedCells.{lock-stands, raise-stands}
use Rattle.cell_table.specs.Table.{cell_in, cells_kept, here_in, left_after, limit_of, opens_with, used_after, used_of}
use Rattle.cell_table.specs.declared.table.CellTable.{CellTable}
use Rattle.unit_table.specs.Parts.{units_read, deps_after}
use Rattle.unit_table.specs.Table.{units_of, verdict_in, result_in, deps_in, phase_in, reads_in, wants_in}
use Rattle.unit_table.specs.declared.table.UnitTable.{UnitTable}
use Rattle.history_core.specs.declared.parts.Parts.{Parts}
use Rattle.history_core.specs.KeptParts.{PartsStand, IsCoreReached}
use Rattle.history_core.specs.Grants.{Cleans, cell_without, is_sure_in}
use Rattle.history_core.specs.Steps.{CanDo, Changes, Does}
use Rattle.history_core.specs.Evictions.{these}
use Rattle.history_core.specs.LockAnswers.{ask_in, gone_in, is_active_in, is_gone_in}
use Rattle.core_model.specs.declared.questions.AskAnswer.TheVariants as answer
use Rattle.history_core.proofs.OneEvent.{can-is}
use Rattle.history_core.proofs.Sweeps.{does-evicting, unmoved}
use Rattle.history_core.proofs.Lists.{filter-agree, map-agree}
use Rattle.history_core.proofs.MemoryCells.{cell-here, holds-at, left-is, stack-at, stands-as, used-touched}
use Rattle.history_core.proofs.CoreStates.{rests, steady, waits, waits-not}

-- what the oldest aborted writer takes off is what all of them would
left-cleans : (test : UnitNo → Bool) (stack : List Version) (aborted : Option UnitNo) → aborted ≡ find test (writers stack) → without_aborted aborted stack ≡ cut (meets test) stack
left-cleans test stack None e = sym (none-cleans test stack (sym e))
left-cleans test stack (Some unit) e = found-cleans test stack unit (sym e)

-- the grain's cell without what is aborted
cleared-is : (p : Parts) (w : CoreState) (g : GrainId) (aborted : Option UnitNo) → PartsStand p w → Cleans p g aborted → cell_without (cell_in p.cells g) aborted ≡ cleared_cell w (cell_in p.cells g)
cleared-is p w g aborted s e = λ i. record {
  stack = (left-cleans (λ u. is_aborted (verdict_in p.units u)) (cell_in p.cells g).stack aborted e ∙ (λ j. cut (λ x. is_aborted (sym s.verdict j x.unit)) (cell_in p.cells g).stack)) i;
  holds = (cell_in p.cells g).holds;
  readings = (cell_in p.cells g).readings;
}

cleaned-is : (p : Parts) (w : CoreState) (g : GrainId) (aborted : Option UnitNo) → PartsStand p w → w.cells.here g ≡ true → Cleans p g aborted → cleaned w g ≡ without_aborted aborted (cell_in p.cells g).stack
cleaned-is p w g aborted s here e =
    (λ i. cut (λ x. is_aborted (s.verdict i x.unit)) (stack-at p.cells w.cells s.cells g here i))
    ∙ sym (left-cleans (λ u. is_aborted (verdict_in p.units u)) (cell_in p.cells g).stack aborted e)

pub put-twice : {A : Type 0} (f : GrainId → A) (g : GrainId) (x y : A) → put_grain (put_grain f g x) g y ≡ put_grain f g y
put-twice f g x y = λ i q. at q i
  where
    at : (q : GrainId) → put_grain (put_grain f g x) g y q ≡ put_grain f g y q
    at q = grain-at f g y (λ z. put_grain (put_grain f g x) g y q ≡ z) q (λ e. grain-is (put_grain f g x) g y q e) (λ n. grain-other (put_grain f g x) g y q n ∙ grain-other f g x q n)

-- the cells after the grant
module _ (p : Parts) (new : CellTable) (w : CoreState) (u : UnitNo) (g : GrainId) (m : Mode) (aborted : Option UnitNo) (s : PartsStand p w) (e : Cleans p g aborted) (here : w.cells.here g ≡ true)
    (is : cells_kept new ≡ put_grain (cells_kept p.cells) g (Some (cells.cell_granted (cell_without (cell_in p.cells g) aborted) u m))) (opens : opens_with new ≡ opens_with p.cells) where
  there : cells_kept p.cells g ≡ Some (cell_in p.cells g)
  there = cell-here p.cells g (sym (s.cells.here g) ∙ here)

  kept : cells_kept new ≡ put_grain (cells_kept p.cells) g (Some (after_grant_in w u m (cell_in p.cells g)))
  kept = is ∙ ap (λ (k : Cell). put_grain (cells_kept p.cells) g (Some (cells.cell_granted k u m))) (cleared-is p w g aborted s e)

  locked-cells : new.recent ≡ used_after g p.cells.recent → StandsForCells (opens_with new).limit (cells_kept new) (used_of new.recent) (after_lock (restacked w g (cleaned w g)) u g m).cells
  locked-cells used =
      stands-as (opens_with p.cells).limit (opens_with new).limit (put_grain (cells_kept p.cells) g (Some (after_grant_in w u m (cell_in p.cells g)))) (cells_kept new)
      (touched (opens_with p.cells).limit g (used_of p.cells.recent)) (used_of new.recent) (after_lock (restacked w g (cleaned w g)) u g m).cells
      (λ i. (opens i).limit) kept (ap used_of used ∙ used-touched g p.cells.recent)
      (lock-stands (opens_with p.cells).limit (cells_kept p.cells) (used_of p.cells.recent) w s.cells g (cell_in p.cells g) there u m)

  raised-cells : new.recent ≡ p.cells.recent → StandsForCells (opens_with new).limit (cells_kept new) (used_of new.recent) (after_raise (restacked w g (cleaned w g)) u g m).cells
  raised-cells same =
      stands-as (opens_with p.cells).limit (opens_with new).limit (put_grain (cells_kept p.cells) g (Some (after_grant_in w u m (cell_in p.cells g)))) (cells_kept new)
      (used_of p.cells.recent) (used_of new.recent) (after_raise (restacked w g (cleaned w g)) u g m).cells
      (λ i. (opens i).limit) kept (ap used_of same)
      (raise-stands (opens_with p.cells).limit (cells_kept p.cells) (used_of p.cells.recent) w s.cells g (cell_in p.cells g) there u m)

sure-is : (p : Parts) (w : CoreState) → PartsStand p w → (u : UnitNo) → is_sure w u ≡ is_sure_in p u
sure-is p w s u = λ i. same_unit u nobody || is_committed (s.verdict i u)

if-not : {A : Type 0} (b : Bool) (x y : A) → (if b then x else y) ≡ (if not b then y else x)
if-not true x y = refl
if-not false x y = refl

-- the units after a first lock: what was read is the version on top, and a source that isn't sure is a dependency
locked-units : (p : Parts) (w : CoreState) (u : UnitNo) (g : GrainId) (m : Mode) (aborted : Option UnitNo) (read : Read) (depends : Bool) → PartsStand p w → w.cells.here g ≡ true → Cleans p g aborted →
    read ≡ read_of g (top (without_aborted aborted (cell_in p.cells g).stack)) → depends ≡ not (is_sure_in p read.source) →
    (after_lock (restacked w g (cleaned w g)) u g m).units ≡ units_read (units_of p.units w.units.seen_at) u read depends
locked-units p w u g m aborted read depends s here e is more =
    (λ i. record (s.units i) {
      reads = put (s.units i).reads u ((s.units i).reads u ++ now i ∷ []);
      deps = put (s.units i).deps u (if is_sure w (now i).source then (s.units i).deps u else with_source ((s.units i).deps u) (now i).source);
      wants = without_want u (now i).grain (s.units i).wants;
    })
    ∙ (λ i. record (units_of p.units w.units.seen_at) {
      reads = put (deps_units).reads u ((deps_units).reads u ++ read ∷ []);
      deps = put (deps_units).deps u (known i);
      wants = without_want u read.grain (deps_units).wants;
    })
  where
    deps_units : Units
    deps_units = units_of p.units w.units.seen_at

    now : read_of g (top (put_grain w.cells.stack g (cleaned w g) g)) ≡ read
    now = ap (λ (xs : List Version). read_of g (top xs)) (grain-same w.cells.stack g (cleaned w g) ∙ cleaned-is p w g aborted s here e) ∙ sym is

    known : (if is_sure w read.source then deps_in p.units u else with_source (deps_in p.units u) read.source) ≡ deps_after depends (deps_in p.units u) read.source
    known = ap (λ (b : Bool). if b then deps_in p.units u else with_source (deps_in p.units u) read.source) (sure-is p w s read.source)
        ∙ if-not (is_sure_in p read.source) (deps_in p.units u) (with_source (deps_in p.units u) read.source)
        ∙ ap (λ (b : Bool). if b then with_source (deps_in p.units u) read.source else deps_in p.units u) (sym more)

-- who holds the grain after a grant, but the asker, held it before
held-before : (holds : List Hold) (u : UnitNo) (m : Mode) (x : UnitNo) → (x ≡ u → ⊥) → holds_lock x (locks.granted holds u m) ≡ true → holds_lock x holds ≡ true
held-before holds u m x n h =
    let t = any-true (is_hold_of x) (locks.granted holds u m) h in
    elim (granted-member holds u m t.0 t.1) [
      | inl k ↦ any-member (is_hold_of x) holds t.0 k.0 t.2
      | inr k ↦ absurd (n (sym (same_unit-true t.0.unit x t.2) ∙ ap (λ (y : Hold). y.unit) k))
    ]

-- the asker runs
pub grant-runs : (w : CoreState) (u : UnitNo) (g : GrainId) (m : Mode) → applies w (Grant u g m) ≡ true → w.units.phase u ≡ Running
grant-runs w u g m a = is_running-true _ (and_parts (is_running (w.units.phase u)) (nat_lt g.kind w.units.kinds) (ask-granted w u g m (can-is w (Grant u g m) a)).0).0

-- so it isn't one that has finished
runs-not : (w : CoreState) (u : UnitNo) (g : GrainId) (m : Mode) → applies w (Grant u g m) ≡ true → (x : UnitNo) → w.units.phase x ≡ Finished → x ≡ u → ⊥
runs-not w u g m a x f e = (let t : Finished ≡ Running = sym f ∙ ap w.units.phase e ∙ grant-runs w u g m a in cc)

-- the grain is in memory
grant-there : (w : CoreState) (u : UnitNo) (g : GrainId) (m : Mode) → applies w (Grant u g m) ≡ true → w.cells.here g ≡ true
grant-there w u g m a = (ask-granted w u g m (can-is w (Grant u g m) a)).3

-- who has a lock of it
held-is : (p : Parts) (w : CoreState) (u : UnitNo) (g : GrainId) (b : Bool) → PartsStand p w → holds_lock u (cell_in p.cells g).holds ≡ b → holds_lock u (w.cells.holds g) ≡ b
held-is p w u g b s held = ap (holds_lock u) (holds-at p.cells w.cells s.cells g) ∙ held

pub does-raise : (p : Parts) (u : UnitNo) (g : GrainId) (m : Mode) (aborted : Option UnitNo) (new : CellTable) (found : Version) → Cleans p g aborted →
    holds_lock u (cell_in p.cells g).holds ≡ true → cells_kept new ≡ put_grain (cells_kept p.cells) g (Some (cells.cell_granted (cell_without (cell_in p.cells g) aborted) u m)) →
    new.recent ≡ p.cells.recent → opens_with new ≡ opens_with p.cells →
    found ≡ top (without_aborted aborted (cell_in p.cells g).stack) → Does p (Grant u g m) (reply.Granted found.state found.unit) (record p { cells = new })
does-raise p u g m aborted new found e held is same opens top_is = λ w s r a. (
  unmoved (record p { cells = new }) w (Grant u g m) r a (cond-true (holds_lock u (w.cells.holds g)) [] (left_by w.cells.capacity g w.cells.recent) (held-is p w u g true s held))
      (subst (PartsStand (record p { cells = new })) (sym (cond-true (holds_lock u (w.cells.holds g)) (after_raise (restacked w g (cleaned w g)) u g m) (after_lock (restacked w g (cleaned w g)) u g m) (held-is p w u g true s held)))
      (record {
        units = s.units;
        numbers = s.numbers;
        cells = raised-cells p new w u g m aborted s e (grant-there w u g m a) is opens same;
        verdict = s.verdict;
        result = s.result;
        effects = s.effects;
        sources = s.sources;
        batch = s.batch;
        batches = s.batches;
        doubt = s.doubt;
        settled = s.settled;
        emitted = s.emitted;
        learn = s.learn;
        handed = λ x k f. grain-from w.cells.holds g (locks.granted (w.cells.holds g) u m) (λ hs. holds_lock x hs ≡ true) (handed_in p.handed x k ≡ state_written k (w.manager.writes x)) k
            (λ q h. s.handed x k f (ap (λ j. holds_lock x (w.cells.holds j)) q ∙ held-before (w.cells.holds g) u m x (runs-not w u g m a x f) h))
            (λ q h. s.handed x k f h);
        last = s.last;
        room = record { entries = s.room.entries; learn = s.room.learn; places = s.room.places };
      })),
  ap read_reply (top_is ∙ sym (ap top (cleaned-is p w g aborted s (grant-there w u g m a) e))),
)

pub changes-lock : (p : Parts) (u : UnitNo) (g : GrainId) (m : Mode) (aborted : Option UnitNo) (new : CellTable) (units : UnitTable) (found : Version) (read : Read) (depends : Bool) → Cleans p g aborted →
    holds_lock u (cell_in p.cells g).holds ≡ false → cells_kept new ≡ put_grain (cells_kept p.cells) g (Some (cells.cell_granted (cell_without (cell_in p.cells g) aborted) u m)) →
    new.recent ≡ used_after g p.cells.recent → opens_with new ≡ opens_with p.cells →
    found ≡ top (without_aborted aborted (cell_in p.cells g).stack) → read ≡ read_of g found → depends ≡ not (is_sure_in p read.source) →
    ((seen : UnitNo → Option ℕ) → units_of units seen ≡ units_read (units_of p.units seen) u read depends) → verdict_in units ≡ verdict_in p.units → result_in units ≡ result_in p.units →
    Changes p (Grant u g m) (reply.Granted found.state found.unit) (record p { cells = new; units = units })
changes-lock p u g m aborted new units found read depends e held is used opens top_is read_is more us v o = λ w s r a. (
  subst (PartsStand (record p { cells = new; units = units })) (sym (cond-false (holds_lock u (w.cells.holds g)) (after_raise (restacked w g (cleaned w g)) u g m) (after_lock (restacked w g (cleaned w g)) u g m) (held-is p w u g false s held)))
      (record {
        units = locked-units p w u g m aborted read depends s (grant-there w u g m a) e (read_is ∙ ap (read_of g) top_is) more ∙ sym (us w.units.seen_at);
        numbers = s.numbers;
        cells = locked-cells p new w u g m aborted s e (grant-there w u g m a) is opens used;
        verdict = s.verdict ∙ sym v;
        result = s.result ∙ sym o;
        effects = s.effects ∙ map-agree (effect_of w) (effect_of (after_lock (restacked w g (cleaned w g)) u g m)) (waiting w)
            (λ x k i. record (effect_of w x) { reads = sym (put-other w.units.reads u (w.units.reads u ++ read_of g (top (put_grain w.cells.stack g (cleaned w g) g)) ∷ []) x (apart w r a x k)) i });
        sources = s.sources ∙ map-agree w.units.deps (after_lock (restacked w g (cleaned w g)) u g m).units.deps (waiting w)
            (λ x k. sym (put-other w.units.deps u (deps_with w (w.units.deps u) (top (put_grain w.cells.stack g (cleaned w g) g)).unit) x (apart w r a x k)));
        batch = s.batch;
        batches = s.batches;
        doubt = s.doubt;
        settled = s.settled;
        emitted = s.emitted;
        learn = s.learn;
        handed = λ x k f. grain-from w.cells.holds g (locks.granted (w.cells.holds g) u m) (λ hs. holds_lock x hs ≡ true) (handed_in p.handed x k ≡ state_written k (w.manager.writes x)) k
            (λ q h. s.handed x k f (ap (λ j. holds_lock x (w.cells.holds j)) q ∙ held-before (w.cells.holds g) u m x (runs-not w u g m a x f) h))
            (λ q h. s.handed x k f h);
        last = s.last;
        room = record { entries = s.room.entries; learn = s.room.learn; places = s.room.places };
      }),
  ap read_reply (top_is ∙ sym (ap top (cleaned-is p w g aborted s (grant-there w u g m a) e))),
)
  where
    apart : (w : CoreState) → IsCoreReached w → applies w (Grant u g m) ≡ true → (x : UnitNo) → Member x (waiting w) → x ≡ u → ⊥
    apart w r a x k = runs-not w u g m a x (waits w r x k).0

-- no more grains were used last than memory's limit
pub used-short : (p : Parts) (w : CoreState) → PartsStand p w → IsCoreReached w → (n : ℕ) → limit_of p.cells.recent ≡ Some n → length (used_of p.cells.recent) ≤ n
used-short p w s r n q = (let t = (rests w r).memory.limit n (s.cells.capacity ∙ q) in let l = ap (λ (xs : List GrainId). length xs) s.cells.used in omega (arith, t, l))

-- a first lock, and then the grain that is used no more goes where it is idle
pub does-lock : (p : Parts) (u : UnitNo) (g : GrainId) (m : Mode) (locked new : CellTable) (units : UnitTable) (answered : CoreReply) (wants : List (UnitNo × GrainId)) (left : Option GrainId) →
    holds_lock u (cell_in p.cells g).holds ≡ false → Changes p (Grant u g m) answered (record p { cells = locked; units = units }) → left ≡ left_after g p.cells.recent → wants ≡ wants_in units →
    cells_kept new ≡ evicted_by (opens_with locked).limit wants (used_of locked.recent) (these left) (cells_kept locked) → new.recent ≡ locked.recent → opens_with new ≡ opens_with locked →
    Does p (Grant u g m) answered (record p { cells = new; units = units })
does-lock p u g m locked new units answered wants left held changes left_is waits kept recent opens =
    does-evicting p (record p { cells = locked; units = units }) (Grant u g m) answered new wants (these left) changes waits
    (λ w s r a. cond-false (holds_lock u (w.cells.holds g)) [] (left_by w.cells.capacity g w.cells.recent) (held-is p w u g false s held)
    ∙ (λ i. left_by (s.cells.capacity i) g (s.cells.used i)) ∙ left-is g p.cells.recent (used-short p w s r) ∙ ap these (sym left_is))
    kept recent opens

-- the lock is free by what is kept
pub free-here : (p : Parts) (u : UnitNo) (g : GrainId) (m : Mode) → CanDo p (Grant u g m) → locks.ask (cell_in p.cells g).holds u m ≡ Free
free-here p u g m c = ap (λ hs. locks.ask hs u m) (sym (holds-at p.cells c.0.cells c.1.cells g)) ∙ (ask-granted c.0 u g m (can-is c.0 (Grant u g m) c.3)).2

pub grant-here : (p : Parts) (u : UnitNo) (g : GrainId) (m : Mode) → CanDo p (Grant u g m) → is_running (phase_in p.units u) ≡ true
grant-here p u g m c = (λ i. is_running ((sym c.1.units i).phase u)) ∙ ap is_running (grant-runs c.0 u g m c.3)

-- it is in memory by what is kept
pub here-there : (p : Parts) (u : UnitNo) (g : GrainId) (m : Mode) → CanDo p (Grant u g m) → here_in p.cells g ≡ true
here-there p u g m c = sym (c.1.cells.here g) ∙ grant-there c.0 u g m c.3

-- what a running unit read is in memory
read-here : (w : CoreState) → IsCoreReached w → (u : UnitNo) → w.units.phase u ≡ Running → (x : Read) → Member x (w.units.reads u) → w.cells.here x.grain ≡ true
read-here w r u runs x m = (let t = (steady w r).0.0.keeps u x runs m in (rests w r).here x.grain t.0 t.1)

-- so what of it is gone is told by what is kept
gone-is : (p : Parts) (w : CoreState) (u : UnitNo) → PartsStand p w → IsCoreReached w → w.units.phase u ≡ Running → gone_in p (reads_in p.units u) ≡ doomed_by w u
gone-is p w u s r runs =
    (λ i. oldest (map (λ (x : Read). x.source) (filter (is_gone_in p) ((sym s.units i).reads u))))
    ∙ ap (λ (xs : List Read). oldest (map (λ (x : Read). x.source) xs))
    (filter-agree (is_gone_in p) (is_gone w) (w.units.reads u) (λ x m. ap (λ (vs : List Version). not (same_unit (top vs).unit x.source)) (sym (stack-at p.cells w.cells s.cells x.grain (read-here w r u runs x m)))))

-- what is answered to a unit that asks
pub ask-is : (p : Parts) (w : CoreState) (u : UnitNo) (g : GrainId) (m : Mode) → PartsStand p w → IsCoreReached w → ask_in p u g m ≡ ask_answer w u g m
ask-is p w u g m s r = go (is_active w u g) refl
  where
    active : is_active_in p u g ≡ is_active w u g
    active = λ i. is_running ((sym s.units i).phase u) && nat_lt g.kind (sym s.units i).kinds

    go : (b : Bool) → is_active w u g ≡ b → ask_in p u g m ≡ ask_answer w u g m
    go true a =
        let runs : w.units.phase u ≡ Running = is_running-true _ (and_parts (is_running (w.units.phase u)) (nat_lt g.kind w.units.kinds) a).0 in
        cond-true (is_active_in p u g) (ask_doom (gone_in p (reads_in p.units u)) (ask_lock (here_in p.cells g) (locks.ask (cell_in p.cells g).holds u m))) answer.NotActive (active ∙ a)
        ∙ (λ i. ask_doom (gone-is p w u s r runs i) (ask_lock (sym (s.cells.here g) i) (locks.ask (sym (holds-at p.cells w.cells s.cells g) i) u m)))
        ∙ sym (cond-true (is_active w u g) (ask_doom (doomed_by w u) (ask_lock (w.cells.here g) (locks.ask (w.cells.holds g) u m))) answer.NotActive a)
    go false a =
        cond-false (is_active_in p u g) (ask_doom (gone_in p (reads_in p.units u)) (ask_lock (here_in p.cells g) (locks.ask (cell_in p.cells g).holds u m))) answer.NotActive (active ∙ a)
        ∙ sym (cond-false (is_active w u g) (ask_doom (doomed_by w u) (ask_lock (w.cells.here g) (locks.ask (w.cells.holds g) u m))) answer.NotActive a)
