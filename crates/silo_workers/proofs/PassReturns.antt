-- What the calls of a pass leave of it.
use Rattle.std.proofs.Common.{◌≡◌, inl, inr, ℕ, ◌≤◌, List, [], ◌∷◌, Bool, true, false, true≢false, ◌⊎◌, ◌||◌, is_some, refl, sym, ap, ◌∙◌, subst, length, arith}
use Rattle.std.specs.Prelude.{Result, Ok, Err, IfOk, not, ◌&&◌}
use Rattle.base_types.specs.Lists.{Member}
use Rattle.cell_model.specs.Locks.{holds_lock}
use Rattle.core_model.specs.CoreState.{UnitNo, GrainId, CoreState}
use Rattle.core_model.specs.declared.effects.Read.{Read}
use Rattle.core_model.specs.declared.events.CoreEvent.{CoreEvent}
use Rattle.core_model.specs.declared.events.CoreReply.{CoreReply}
use Rattle.core_model.specs.Laws.{extended}
use Rattle.core_model.specs.LegalRuns.{Run, ends}
use Rattle.core_model.specs.LockAnswers.{IsGoing}
use Rattle.core_model.specs.Tests.{all}
use Rattle.turn_cell.specs.declared.view.View.{View}
use Rattle.turn_cell.specs.History.{StartsWith, entries_of}
use Rattle.turn_cell.specs.Passes.{Adds}
use Rattle.turn_cell.proofs.Histories.{starts_self}
use Rattle.core_access.specs.Histories.{Told, reply_in, run_after}
use Rattle.core_access.specs.Sights.{Sight, Tells, Counts}
use Rattle.core_access.specs.PassSights.{sight_of, all_come}
use Rattle.core_access.proofs.ByPass.{pass-tells}
use Rattle.promise_spec.specs.UnitRule.{Basis}
use Rattle.turn_rules.specs.NextEvent.{MayCome}
use Rattle.worker_rules.specs.UnitOwnership.{KeepsPromise}
use Rattle.worker_rules.specs.SharedHistories.{Promised}
use Rattle.worker_rules.specs.Work.{OnlyWorks}
use Rattle.worker_rules.proofs.OwnEntries.{promise-none}
use Rattle.unit_crew.specs.FinishedUnits.{IsHalted, IsPastLine, IsThrough, AreThrough, Showed}
use Rattle.worker_rules.specs.ClosedCore.{HasBegunLines, IsOverAndFree, AreOverAndFree, PutsNothing}
use Rattle.worker_rules.specs.JoinedPasses.{Returns, WasShown}
use Rattle.silo_workers.specs.PassFrame.{PassAside, aside_of}
use Rattle.silo_workers.specs.WorkerPasses.{HasWorked}
use Rattle.silo_workers.specs.declared.work.WorkEnd.TheVariants.{Idle, Through, Lacking}

-- an event that was put
pub cell-tells : {T E : Type 0} (state : T → Run) (v w : View T CoreEvent CoreReply) (e : CoreEvent) (r : Result CoreReply E)
    → IfOk r (λ y. Adds state (λ x f. extended x (f ∷ [])) reply_in v e y w) → IfOk r (λ y. Tells all_come (sight_of state v) e y (sight_of state w))
cell-tells state v w e (Ok y) p = (pass-tells state v w e y p).0
cell-tells state v w e (Err x) p = p

-- ---- a unit that is through

-- who holds no lock has none left of what it read
none-held : (u : UnitNo) (w : CoreState) (rs : List Read) → ((g : GrainId) → holds_lock u (w.cells.holds g) ≡ false) → all (λ (r : Read). not (holds_lock u (w.cells.holds r.grain))) rs ≡ true
none-held u w [] none = refl
none-held u w (r ∷ rs) none = ap (λ (b : Bool). not b && all (λ (x : Read). not (holds_lock u (w.cells.holds x.grain))) rs) (none r.grain) ∙ none-held u w rs none

through-done : (r : Run) (u : UnitNo) → IsThrough r u → IsOverAndFree u r
through-done r u (inl t) going = (t.over, none-held u (ends r) ((ends r).units.reads u) t.locks)
through-done r u (inr t) going = absurd (t.stopped going)

are-done : (s : Sight) → AreThrough s → AreOverAndFree s
are-done s t u began alone = through-done _ u (t u began alone)

-- where nothing was put, no unit began
pub nothing-done : (s : Sight) → PutsNothing s → AreOverAndFree s
nothing-done s none u began = absurd (subst (Member began.0) none began.1)

-- ---- a pass

module _ {T : Type 0} (state : T → Run) (v w : View T CoreEvent CoreReply) where
  -- the first pass, and what was put since
  pub returned : (P : Sight → Type 0) (table table' : _) (seat seat' : ℕ) → aside_of table' seat' w ≡ aside_of table seat v → (sight_of state w).first ≡ (sight_of state v).first
      → (sight_of state w).number ≡ (sight_of state v).number → StartsWith w.seen v.seen → P (sight_of state w) → Returns state P v w
  returned P table table' seat seat' same first number seen p = record {
    first = first;
    seen = seen;
    number = number;
    split_off = ap (λ (a : PassAside). a.split_off) same;
    joined = ap (λ (a : PassAside). a.joined) same;
    holds = p;
  }

  -- a worker that is through
  pub worked-through : (Asked : Basis → Type 0) → Counts (sight_of state w) → OnlyWorks w.hand.mine → ((b : Basis) → Asked b → KeepsPromise b (sight_of state w)) → AreThrough (sight_of state w)
      → HasWorked Asked Through (sight_of state w)
  worked-through Asked counts works promise through = record { counts = counts; works = works; promise = promise; units = are-done (sight_of state w) through }

  pub worked-lacking : (Asked : Basis → Type 0) → Counts (sight_of state w) → OnlyWorks w.hand.mine → ((b : Basis) → Asked b → KeepsPromise b (sight_of state w))
      → HasWorked Asked Lacking (sight_of state w)
  worked-lacking Asked counts works promise = record { counts = counts; works = works; promise = promise; units = tt }

-- a pass that wasn't used
pub returned-same : {T : Type 0} (state : T → Run) (P : Sight → Type 0) (v : View T CoreEvent CoreReply) → P (sight_of state v) → Returns state P v v
returned-same state P v p = record { first = refl; seen = starts_self v.seen; number = refl; split_off = refl; joined = refl; holds = p }

pub worked-idle : {T : Type 0} (state : T → Run) (Asked : Basis → Type 0) (v : View T CoreEvent CoreReply) → v.hand.mine ≡ [] → Returns state (HasWorked Asked Idle) v v
worked-idle state Asked v none = returned-same state (HasWorked Asked Idle) v record {
  counts = subst (λ (l : List Told). length l ≤ length (entries_of v.hand.number v.seen)) (sym none) (omega arith);
  works = λ x i. absurd (subst (Member x) none i);
  promise = λ b asked. subst (λ (l : List Told). Promised (MayCome b) (state v.first) v.hand.number v.seen l) (sym none) (promise-none (MayCome b) (state v.first) v.hand.number v.seen);
  units = none;
}

-- ---- the lines

-- what a look showed where the work is through is that all lines have begun, unless there was a doubt or a stop
halted-not : (r : Run) → IsHalted r → IsGoing (ends r) → ⊥
halted-not r halted going = absurd (true≢false (sym halted ∙ (λ i. going.1 i || is_some (going.0 i))))

pub begun-shown : (lines : ℕ) (s : Sight) → Showed IsHalted s ⊎ Showed (IsPastLine lines) s → (first : Run) → s.first ≡ first → WasShown (HasBegunLines lines) first s.seen
begun-shown lines s shown first same = subst (λ (r : Run). WasShown (HasBegunLines lines) r s.seen) same (by shown)
  where
    by : Showed IsHalted s ⊎ Showed (IsPastLine lines) s → WasShown (HasBegunLines lines) s.first s.seen
    by (inl h) = (h.0, h.1, λ going. absurd (halted-not (run_after s.first h.0) h.2 going))
    by (inr p) = (p.0, p.1, λ going. (let q = p.2 in omega (arith, q)))
