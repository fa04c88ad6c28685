-- The state after a lock was given back.
use Rattle.std.proofs.Common.{◌≡◌, ℕ, List, [], ◌∷◌, Bool, true, false, ◌&&◌, ◌||◌, not, ◌⊎◌, inl, inr, refl, sym, ap, ◌∙◌, subst, Option, Some, None, IsSome}
use Rattle.std.specs.List.{list_any as any}
use Rattle.std.proofs.lemmas.Bool.{and_parts, and_from}
use Rattle.base_types.specs.declared.calls.Mode.TheVariants as mode
use Rattle.cell_model.specs.Units.{Member}
use Rattle.cell_model.specs.Locks.{holds_lock, is_hold_of, is_update, covers, dropped}
use Rattle.cell_model.specs.Cells as cells
use Rattle.cell_model.specs.declared.locks.Hold.{Hold}
use Rattle.cell_model.proofs.LockAnswers.{dropped-member, dropped-none}
use Rattle.cell_model.proofs.Units.{any-true, any-member, same_unit-true, same_unit-is, cases_unit, cases_grain}
use Rattle.core_model.specs.CoreState.{UnitNo, GrainId, Value, CoreState, put_grain}
use Rattle.core_model.specs.declared.phases.Phase.{Phase}
use Rattle.core_model.specs.declared.phases.Phase.TheVariants.{Unborn, Running, Finished, Refused, Ended}
use Rattle.core_model.specs.Changes.{after_release}
use Rattle.core_model.specs.Tests.{is_over, state_written}
use Rattle.core_model.specs.Chains.{WroteGrain}
use Rattle.core_model.specs.declared.events.CoreEvent.TheVariants.{Release}
use Rattle.core_model.specs.declared.events.CoreReply.TheVariants as reply
use Rattle.core_laws.proofs.Puts.{grain-from}
use Rattle.core_parts.specs.States.{handed_in, PutsHanded}
use Rattle.core_parts.specs.declared.handed_states.HandedStates.{HandedStates}
use Rattle.cell_memory.specs.LeavingGrains.{evicted_by}
use Rattle.cell_memory.specs.ChangedCells.{after_release_in}
use Rattle.cell_memory.proofs.ChangedCells.{release-stands}
use Rattle.cell_table.specs.Table.{cell_in, cells_kept, opens_with, used_of}
use Rattle.cell_table.specs.declared.table.CellTable.{CellTable}
use Rattle.unit_table.specs.Table.{phase_in, wants_in}
use Rattle.history_core.specs.declared.parts.Parts.{Parts}
use Rattle.history_core.specs.KeptParts.{PartsStand, IsCoreReached}
use Rattle.history_core.specs.Releases.{if_finished}
use Rattle.history_core.specs.Steps.{CanDo, Changes, Does}
use Rattle.history_core.proofs.OneEvent.{can-is}
use Rattle.history_core.proofs.CoreStates.{rests, unwritten}
use Rattle.history_core.proofs.Sweeps.{does-evicting}
use Rattle.history_core.proofs.MemoryCells.{cell-here, holds-at, stands-as}

-- what is given is what the unit wrote
given-is : (p : Parts) (w : CoreState) (u : UnitNo) (g : GrainId) → PartsStand p w → IsCoreReached w → holds_lock u (w.cells.holds g) ≡ true →
    if_finished (phase_in p.units u) (handed_in p.handed u g) ≡ state_written g (w.manager.writes u)
given-is p w u g s r h = ap (λ ph. if_finished ph (handed_in p.handed u g)) (λ i. (sym s.units i).phase u) ∙ go (w.units.phase u) refl
  where
    none : (ph : Phase) → w.units.phase u ≡ ph → (ph ≡ Finished → ⊥) → ◌≡◌ {A = Option (List Value)} None (state_written g (w.manager.writes u))
    none ph e n = ap (state_written g) (sym (unwritten w r u (λ f. n (sym e ∙ f))))

    go : (ph : Phase) → w.units.phase u ≡ ph → if_finished ph (handed_in p.handed u g) ≡ state_written g (w.manager.writes u)
    go Unborn e = none Unborn e (λ z. cc)
    go Running e = none Running e (λ z. cc)
    go Finished e = s.handed u g e h
    go Refused e = none Refused e (λ z. cc)
    go Ended e = none Ended e (λ z. cc)

some-wrote : (o : Option (List Value)) → IsSome o → (v : List Value) × (o ≡ Some v)
some-wrote None h = cc
some-wrote (Some v) h = (v, refl)

is-finished : (ph : Phase) (kept : Option (List Value)) → IsSome (if_finished ph kept) → ph ≡ Finished
is-finished Unborn kept h = cc
is-finished Running kept h = cc
is-finished Finished kept h = refl
is-finished Refused kept h = cc
is-finished Ended kept h = cc

released-held : (p : Parts) (w : CoreState) (u : UnitNo) (g : GrainId) → PartsStand p w → is_over (w.units.phase u) && holds_lock u (w.cells.holds g) ≡ true → holds_lock u (w.cells.holds g) ≡ true
released-held p w u g s e = (and_parts (is_over (w.units.phase u)) (holds_lock u (w.cells.holds g)) e).1

-- the unit has the lock
pub has-lock : (p : Parts) (u : UnitNo) (g : GrainId) → CanDo p (Release u g) → holds_lock u (cell_in p.cells g).holds ≡ true
has-lock p u g c = ap (holds_lock u) (sym (holds-at p.cells c.0.cells c.1.cells g)) ∙ released-held p c.0 u g c.1 (can-is c.0 (Release u g) c.3)

-- and has it alone where it gives a version
pub has-alone : (p : Parts) (u : UnitNo) (g : GrainId) → CanDo p (Release u g) → IsSome (if_finished (phase_in p.units u) (handed_in p.handed u g)) →
    any (covers u mode.Update) (cell_in p.cells g).holds ≡ true
has-alone p u g c some =
    let w = c.0 in
    let s = c.1 in
    let r = c.2 in
    let h : holds_lock u (w.cells.holds g) ≡ true = released-held p w u g s (can-is w (Release u g) c.3) in
    let finished : w.units.phase u ≡ Finished = (λ i. (s.units i).phase u) ∙ is-finished (phase_in p.units u) (handed_in p.handed u g) some in
    let wrote : WroteGrain w.manager.writes u g = some-wrote (state_written g (w.manager.writes u)) (subst IsSome (given-is p w u g s r h) some) in
    let t = any-true (is_hold_of u) (w.cells.holds g) h in
    let k = (rests w r).writers u g t.0 finished wrote t.1 (same_unit-true t.0.unit u t.2) in
    ap (any (covers u mode.Update)) (sym (holds-at p.cells w.cells s.cells g)) ∙ any-member (covers u mode.Update) (w.cells.holds g) k.0 k.1
    (and_from (is_hold_of u k.0) (is_update k.0.mode || not true) (same k.0 k.2) (ap (λ b. b || not true) k.3))
  where
    same : (h : Hold) → h.unit ≡ u → is_hold_of u h ≡ true
    same h e = same_unit-is h.unit u e

-- who holds the grain after a lock was given back held it before
held-then : (holds : List Hold) (u x : UnitNo) → holds_lock x (dropped holds u) ≡ true → holds_lock x holds ≡ true
held-then holds u x h =
    let t = any-true (is_hold_of x) (dropped holds u) h in
    any-member (is_hold_of x) holds t.0 (dropped-member u holds t.0 t.1).0 t.2

-- what somebody has a lock of is in memory
pub held-there : (w : CoreState) → IsCoreReached w → (u : UnitNo) (g : GrainId) → holds_lock u (w.cells.holds g) ≡ true → w.cells.here g ≡ true
held-there w r u g h = (let t = any-true (is_hold_of u) (w.cells.holds g) h in (rests w r).here g t.0 t.1)

pub changes-release : (p : Parts) (u : UnitNo) (g : GrainId) (new : CellTable) (handed : HandedStates) → PutsHanded p.handed handed u g None →
    cells_kept new ≡ put_grain (cells_kept p.cells) g (Some (cells.cell_released (cell_in p.cells g) u (if_finished (phase_in p.units u) (handed_in p.handed u g)))) →
    new.recent ≡ p.cells.recent → opens_with new ≡ opens_with p.cells → Changes p (Release u g) reply.Done (record p { cells = new; handed = handed })
changes-release p u g new handed puts is recent opens = λ w s r a. (
  (let held : holds_lock u (w.cells.holds g) ≡ true = released-held p w u g s (can-is w (Release u g) a) in
      let gives = given-is p w u g s r held in
      let there = cell-here p.cells g (sym (s.cells.here g) ∙ held-there w r u g held) in
      record {
        units = s.units;
        cells = stands-as (opens_with p.cells).limit (opens_with new).limit (put_grain (cells_kept p.cells) g (Some (after_release_in w u g (cell_in p.cells g)))) (cells_kept new)
            (used_of p.cells.recent) (used_of new.recent) (after_release w u g).cells (λ i. (opens i).limit)
            (is ∙ ap (λ (o : Option (List Value)). put_grain (cells_kept p.cells) g (Some (cells.cell_released (cell_in p.cells g) u o))) gives) (ap used_of recent)
            (release-stands (opens_with p.cells).limit (cells_kept p.cells) (used_of p.cells.recent) w s.cells g (cell_in p.cells g) there u);
        numbers = s.numbers;
        verdict = s.verdict;
        result = s.result;
        effects = s.effects;
        sources = s.sources;
        batch = s.batch;
        batches = s.batches;
        doubt = s.doubt;
        settled = s.settled;
        emitted = s.emitted;
        learn = s.learn;
        handed = λ x k f h. still w s x k f h (cases_unit x u) (cases_grain k g);
        last = s.last;
        room = record { entries = s.room.entries; learn = s.room.learn; places = s.room.places };
      }),
  refl,
)
  where
    before : (w : CoreState) (x : UnitNo) (k : GrainId) → holds_lock x (put_grain w.cells.holds g (dropped (w.cells.holds g) u) k) ≡ true → holds_lock x (w.cells.holds k) ≡ true
    before w x k h = grain-from w.cells.holds g (dropped (w.cells.holds g) u) (λ hs. holds_lock x hs ≡ true) (holds_lock x (w.cells.holds k) ≡ true) k
        (λ q t. ap (λ j. holds_lock x (w.cells.holds j)) q ∙ held-then (w.cells.holds g) u x t) (λ q t. t) h

    still : (w : CoreState) → PartsStand p w → (x : UnitNo) (k : GrainId) → w.units.phase x ≡ Finished → holds_lock x (put_grain w.cells.holds g (dropped (w.cells.holds g) u) k) ≡ true →
        ((x ≡ u) ⊎ (x ≡ u → ⊥)) → ((k ≡ g) ⊎ (k ≡ g → ⊥)) → handed_in handed x k ≡ state_written k (w.manager.writes x)
    still w s x k f h (inl e) (inl q) =
        (let none : holds_lock x (dropped (w.cells.holds g) u) ≡ false = ap (λ y. holds_lock y (dropped (w.cells.holds g) u)) e ∙ dropped-none u (w.cells.holds g) in
        let some : holds_lock x (dropped (w.cells.holds g) u) ≡ true = grain-from w.cells.holds g (dropped (w.cells.holds g) u) (λ hs. holds_lock x hs ≡ true) (holds_lock x (dropped (w.cells.holds g) u) ≡ true) k (λ z t. t) (λ n t. absurd (n q)) h in
        let no : true ≡ false = sym some ∙ none in cc)
    still w s x k f h (inr n) q = puts.others x k (λ t. n t.0) ∙ s.handed x k f (before w x k h)
    still w s x k f h (inl e) (inr n) = puts.others x k (λ t. n t.1) ∙ s.handed x k f (before w x k h)

-- then the grain goes where it is idle
pub does-release : (p q : Parts) (u : UnitNo) (g : GrainId) (new : CellTable) (wants : List (UnitNo × GrainId)) → Changes p (Release u g) reply.Done q → wants ≡ wants_in q.units →
    cells_kept new ≡ evicted_by (opens_with q.cells).limit wants (used_of q.cells.recent) (g ∷ []) (cells_kept q.cells) → new.recent ≡ q.cells.recent → opens_with new ≡ opens_with q.cells →
    Does p (Release u g) reply.Done (record q { cells = new })
does-release p q u g new wants changes waits kept recent opens = does-evicting p q (Release u g) reply.Done new wants (g ∷ []) changes waits (λ w s r a. refl) kept recent opens
