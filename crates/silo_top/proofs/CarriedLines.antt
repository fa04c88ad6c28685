-- What carrying lines in turns leaves, told in whichever manner.
use Rattle.std.specs.Prelude.{IfOk, IfSome, Option, None, Some}
use Rattle.std.proofs.Common.{◌≡◌, ℕ, Bool, true, List, [], length, Result, Ok, Err, subst, refl, sym, ap, ◌∙◌, true≢false}
use Rattle.host_trait.specs.declared.channels.Channel.{Channel}
use Rattle.host_trait.specs.World.{World}
use Rattle.request_wire.specs.declared.requests.Line.{Line}
use Rattle.script_tree.specs.Programs.{ProgramTree}
use Rattle.core_model.specs.LegalRuns.{Run}
use Rattle.promise_spec.specs.TurnRule.{picks_used}
use Rattle.history_core.specs.Cores.{run_of}
use Rattle.history_core.specs.declared.whole_core.Core.{Core}
use Rattle.settle_loop.specs.declared.settler.Settler.{Settler}
use Rattle.run_books.specs.declared.faults.RunFault.{RunFault}
use Rattle.run_books.specs.declared.faults.RunFault.TheVariants.{InDoubt, WriteFault, Memory, LoadFault, LoadDamaged}
use Rattle.run_books.specs.Beginnings.{Outset}
use Rattle.run_books.specs.RecordFrame.{TurnsBeside, EmitsAs}
use Rattle.run_books.specs.Books.{Books}
use Rattle.run_books.specs.Records.{RecordGoesOn, TurnsEndAs}
use Rattle.interleaver.specs.Turns.{TurnsGoOn, WhereTurnsBegin}
use Rattle.interleaver.proofs.RecordFrame.{none-beside}
use Rattle.interleaver.proofs.RunningTurns.{turns-record}
use Rattle.silo_top.specs.CallAnswers.{turns_manner, workers_manner}
use Rattle.silo_top.specs.LineExecution.{CarriesOn, CarriedLines}
use Rattle.run_books.specs.Stages.{Stage, side_by, stage_by}

-- how lines ended to be carried, with the core or without
abbrev pub with_core : {T : Type 0} → Core → Result T RunFault → Result Core RunFault
with_core core (Ok done) = Ok core
with_core core (Err fault) = Err fault

-- what it says is the same
ends_so : {T : Type 0} (tells : Bool) (o : Outset) (b : Books) (s : Stage) (core : Core) (result : Result T RunFault) → TurnsEndAs tells o b s result → TurnsEndAs tells o b s (with_core core result)
ends_so tells o b s core (Ok done) e = e
ends_so tells o b s core (Err InDoubt) e = e
ends_so tells o b s core (Err WriteFault) e = e
ends_so tells o b s core (Err Memory) e = e
ends_so tells o b s core (Err (LoadFault file)) e = e
ends_so tells o b s core (Err (LoadDamaged file place)) e = e

emits_so : {T : Type 0} (core : Core) (result : Result T RunFault) (old new : ℕ) → EmitsAs result old new → EmitsAs (with_core core result) old new
emits_so core (Ok done) old new e = e
emits_so core (Err InDoubt) old new e = e
emits_so core (Err WriteFault) old new e = e
emits_so core (Err Memory) old new e = e
emits_so core (Err (LoadFault file)) old new e = e
emits_so core (Err (LoadDamaged file place)) old new e = e

-- what holds where all is done
with_done : {T : Type 0} (core : Core) (P : Type 0) (result : Result T RunFault) → IfOk result (λ _. P) → IfOk (with_core core result) (λ _. P)
with_done core P (Ok done) p = p
with_done core P (Err fault) p = tt

module _ {T : Type 0} (tells : Bool) (types : ProgramTree) (lines : List Line) (r r' : Run) (s s' : Settler) (f f' : Channel → ℕ) (w w' : World) (core : Core) (result : Result T RunFault) where
  -- beside the record
  pub beside_so : TurnsBeside tells (stage_by r s f w) (stage_by r' s' f' w') result → TurnsBeside tells (stage_by r s f w) (stage_by r' s' f' w') (with_core core result)
  beside_so b = record {
    more = b.more;
    core = b.core;
    quiet = b.quiet;
    input = b.input;
    past = b.past;
    pulled = b.pulled;
    emitted = emits_so core result _ _ b.emitted;
    calm = b.calm;
    hushed = b.hushed;
  }

  -- on one thread
  pub turns_carried : (width : ℕ) (picks : List ℕ) (used used' : ℕ)
      → WhereTurnsBegin tells types lines width picks used (stage_by r s f w) (λ o b. TurnsGoOn tells o b (stage_by r s f w) (stage_by r' s' f' w') result)
      → WhereTurnsBegin tells types lines width picks used (stage_by r s f w) (λ o b. o.ruled ≡ true → IfOk result (λ _. picks_used r' (length r'.events) ≡ used'))
      → CarriesOn tells (turns_manner width picks) types lines used used' (stage_by r s f w) (stage_by r' s' f' w') (with_core core result)
  turns_carried width picks used used' turns counted o b st =
      let g = turns o b st.outset st.can st.fresh st.kept in
      record {
        on = record { books = g.books; record_kept = turns-record g.record_kept; lasts = g.lasts; ended = ends_so tells o g.books (stage_by r' s' f' w') core result g.ended };
        turns = λ one. g.record_kept.turns st.ruled;
        used_by = λ one. with_done core (picks_used r' (length r'.events) ≡ used') result (counted o b st.outset st.can st.fresh st.kept st.ruled);
      }

-- ---- by workers

module _ {T : Type 0} (tells : Bool) (types : ProgramTree) (lines : List Line) (r : Run) (s s' : Settler) (f f' : Channel → ℕ) (w w' : World) (core : Core) (result : Result T RunFault) where
  -- what `run_with_workers` says of its record where the core comes back
  abbrev pub RecordKept : Run → Type 0
  RecordKept r' = WhereTurnsBegin tells types lines 1 [] 0 (stage_by r s f w) (λ o b. RecordGoesOn tells o b (stage_by r s f w) (stage_by r' s' f' w') result)

  workers_carried : (r' : Run) (used : ℕ) → RecordKept r' → CarriesOn tells workers_manner types lines used used (stage_by r s f w) (stage_by r' s' f' w') (with_core core result)
  workers_carried r' used kept o b st =
      let g = kept o b st.outset st.can (record { picks = λ ruled. absurd (true≢false (sym ruled ∙ st.ruled)); doubted = st.fresh.doubted; rest = st.fresh.rest }) st.kept in
      record {
        on = record { books = g.books; record_kept = g.record_kept; lasts = g.lasts; ended = ends_so tells o g.books (stage_by r' s' f' w') core result g.ended };
        turns = λ one. absurd (true≢false one);
        used_by = λ one. absurd (true≢false one);
      }

-- nothing was done, for want of memory
lost_carried : (tells : Bool) (types : ProgramTree) (lines : List Line) (r : Run) (s : Settler) (f : Channel → ℕ) (w : World) (used : ℕ) → CarriesOn {T = Core} tells workers_manner types lines used used (stage_by r s f w) (stage_by r s f w) (Err Memory)
lost_carried tells types lines r s f w used o b st = record {
  on = record { books = b; record_kept = turns-record st.kept; lasts = λ told head l. l; ended = st.fresh.rest };
  turns = λ one. absurd (true≢false one);
  used_by = λ one. absurd (true≢false one);
}

-- ---- what is carried, with the core

core_left : {T : Type 0} (core : Core) (r' : Run) (result : Result T RunFault) → run_of core ≡ r' → IfOk (with_core core result) (λ c. run_of c ≡ r')
core_left core r' (Ok done) q = q
core_left core r' (Err fault) q = tt

-- it ended by this fault, whatever else it would have come to
abbrev fault_of : {T : Type 0} → Result T RunFault → Result Core RunFault
fault_of (Ok done) = Err Memory
fault_of (Err fault) = Err fault

-- no core came back
abbrev no_core : Result Core RunFault
no_core = Err Memory

module _ (tells : Bool) (types : ProgramTree) (lines : List Line) (r : Run) (s s' : Settler) (f f' : Channel → ℕ) (w w' : World) where
  -- by workers, where the core didn't come back
  workers_lost : (used : ℕ) → s' ≡ s → f' ≡ f → w' ≡ w → CarriedLines tells workers_manner types lines used used (stage_by r s f w) (side_by s' f' w') (Err Memory)
  workers_lost used same counts world =
      subst (λ (x : Settler). CarriedLines tells workers_manner types lines used used (stage_by r s f w) (side_by x f' w') (Err Memory)) (sym same)
      (subst (λ (x : Channel → ℕ). CarriedLines tells workers_manner types lines used used (stage_by r s f w) (side_by s x w') (Err Memory)) (sym counts)
      (subst (λ (x : World). CarriedLines tells workers_manner types lines used used (stage_by r s f w) (side_by s f x) (Err Memory)) (sym world)
      (record {
        left = r;
        carries = lost_carried tells types lines r s f w used;
        beside = none-beside tells r r s f w (Err Memory) refl;
        core = tt;
      })))

module _ {T : Type 0} (tells : Bool) (types : ProgramTree) (lines : List Line) (r : Run) (s s' : Settler) (f f' : Channel → ℕ) (w w' : World) where
  -- on one thread
  pub turns_all : (core : Core) (result : Result T RunFault) (width : ℕ) (picks : List ℕ) (used used' : ℕ)
      → WhereTurnsBegin tells types lines width picks used (stage_by r s f w) (λ o b. TurnsGoOn tells o b (stage_by r s f w) (stage_by (run_of core) s' f' w') result)
      → WhereTurnsBegin tells types lines width picks used (stage_by r s f w) (λ o b. o.ruled ≡ true → IfOk result (λ _. picks_used (run_of core) (length (run_of core).events) ≡ used'))
      → TurnsBeside tells (stage_by r s f w) (stage_by (run_of core) s' f' w') result → (answer : Result Core RunFault) → with_core core result ≡ answer
      → CarriedLines tells (turns_manner width picks) types lines used used' (stage_by r s f w) (side_by s' f' w') answer
  turns_all core result width picks used used' turns counted beside answer q =
      subst (CarriedLines tells (turns_manner width picks) types lines used used' (stage_by r s f w) (side_by s' f' w')) q (record {
        left = run_of core;
        carries = turns_carried tells types lines r (run_of core) s s' f f' w w' core result width picks used used' turns counted;
        beside = beside_so tells types lines r (run_of core) s s' f f' w w' core result beside;
        core = core_left core (run_of core) result refl;
      })

  -- what `run_with_workers` says of its record and beside it
  abbrev pub WorkersKeep : Option Core → Result T RunFault → Type 0
  WorkersKeep back result = WhereTurnsBegin tells types lines 1 [] 0 (stage_by r s f w)
      (λ o b. IfSome back (λ c. RecordGoesOn tells o b (stage_by r s f w) (stage_by (run_of c) s' f' w') result))

  -- by workers, where the core came back
  pub workers_all : (used : ℕ) (back : Option Core) (core : Core) → back ≡ Some core → (result : Result T RunFault) → WorkersKeep back result
      → IfSome back (λ c. TurnsBeside tells (stage_by r s f w) (stage_by (run_of c) s' f' w') result) → (answer : Result Core RunFault) → with_core core result ≡ answer → CarriedLines tells workers_manner types lines used used (stage_by r s f w) (side_by s' f' w') answer
  workers_all used back core some result kept beside answer q =
      let kept_so : WorkersKeep (Some core) result = subst (λ (x : Option Core). WorkersKeep x result) some kept in
      let beside_core : TurnsBeside tells (stage_by r s f w) (stage_by (run_of core) s' f' w') result = subst (λ (x : Option Core). IfSome x (λ c. TurnsBeside tells (stage_by r s f w) (stage_by (run_of c) s' f' w') result)) some beside in
      subst (CarriedLines tells workers_manner types lines used used (stage_by r s f w) (side_by s' f' w')) q (record {
        left = run_of core;
        carries = workers_carried tells types lines r s s' f f' w w' core result (run_of core) used kept_so;
        beside = beside_so tells types lines r (run_of core) s s' f f' w w' core result beside_core;
        core = core_left core (run_of core) result refl;
      })

  -- by workers, where it ended by a fault
  pub workers_faulted : (used : ℕ) (back : Option Core) (result : Result T RunFault) → WorkersKeep back result
      → IfSome back (λ c. TurnsBeside tells (stage_by r s f w) (stage_by (run_of c) s' f' w') result) → (back ≡ None → (result ≡ Err Memory) × (s' ≡ s) × (f' ≡ f) × (w' ≡ w))
      → (fault : RunFault) → result ≡ Err fault → CarriedLines tells workers_manner types lines used used (stage_by r s f w) (side_by s' f' w') (Err fault)
  workers_faulted used back result kept beside lost fault q = by back refl
    where
      by : (b : Option Core) → back ≡ b → CarriedLines tells workers_manner types lines used used (stage_by r s f w) (side_by s' f' w') (Err fault)
      by (Some core) some = workers_all used back core some result kept beside (Err fault) (ap (with_core core) q)
      by None none =
          let l = lost none in
          subst (CarriedLines tells workers_manner types lines used used (stage_by r s f w) (side_by s' f' w')) (ap fault_of (sym l.0 ∙ q)) (workers_lost tells types lines r s s' f f' w w' used l.1 l.2 l.3)
