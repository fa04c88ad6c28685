-- The passes of several workers, joined.
use Rattle.std.proofs.Common.{◌≡◌, ℕ, List, [], ◌∷◌, Bool, refl, sym, ap, ◌∙◌, subst, append-nil}
use Rattle.std.specs.Prelude.{Ok, Result, ◌+◌, length, false}
use Rattle.base_types.specs.declared.shapes.Shape.{Shape}
use Rattle.host_trait.specs.declared.channels.Channel.{Channel}
use Rattle.host_trait.specs.World.{World}
use Rattle.core_model.specs.declared.events.CoreEvent.{CoreEvent}
use Rattle.core_model.specs.declared.events.CoreReply.{CoreReply}
use Rattle.core_model.specs.Laws.{extended}
use Rattle.core_model.specs.LegalRuns.{Run}
use Rattle.turn_cell.specs.declared.view.View.{View}
use Rattle.turn_cell.specs.History.{StartsWith}
use Rattle.turn_cell.specs.Hands.{first_hand}
use Rattle.turn_cell.specs.Passes.{view, pass_view, splitter_view, split_off_view, IsPassOf, Joins, Closes}
use Rattle.core_access.specs.Histories.{Told, reply_in, run_after}
use Rattle.core_access.specs.Sights.{Sight, run_seen}
use Rattle.core_access.specs.PassSights.{sight_of}
use Rattle.history_core.specs.Cores.{CoreData, run_of}
use Rattle.script_tree.specs.Programs.{ProgramTree}
use Rattle.request_wire.specs.declared.requests.Line.{Line}
use Rattle.atomic_table.specs.Seated.{TableId}
use Rattle.unit_crew.specs.Crews.{IsBasisOf}
use Rattle.promise_spec.specs.UnitRule.{Basis}
use Rattle.settle_loop.specs.declared.settler.Settler.{Settler}
use Rattle.run_books.specs.declared.faults.RunFault.{RunFault}
use Rattle.run_books.specs.RecordFrame.{TurnsBeside}
use Rattle.run_books.proofs.Reliance.{sees-none}
use Rattle.worker_rules.specs.ClosedCore.{IsClosed, HasBegunLines}
use Rattle.worker_rules.specs.JoinedPasses.{sight_by, Returns, GathersSights}
use Rattle.worker_rules.proofs.Closes.{closed-lines}
use Rattle.worker_rules.proofs.JoinedPasses.{shown-more, gathers-less, gathers-split, closes-known}
use Rattle.silo_workers.specs.SettlerThread.{SettlesBeside, HasSettled}
use Rattle.silo_workers.specs.WorkerPasses.{CorePass, HasWorked, SaysOfUnits, SaysOfLines, BringsBack, BringsTogether, IsGathered, both_ends}
use Rattle.silo_workers.specs.declared.work.WorkEnd.{WorkEnd}
use Rattle.silo_workers.specs.declared.work.WorkEnd.TheVariants.{Idle, Through, Lacking}
use Rattle.silo_workers.proofs.PassReturns.{nothing-done}
use Rattle.run_books.specs.Stages.{Side, side_by, stage_by}

-- ---- two ends

units-left : (a b : WorkEnd) (s : Sight) → SaysOfUnits a s → SaysOfUnits (both_ends a b) s
units-left Idle Idle s p = p
units-left Idle Through s p = nothing-done s p
units-left Idle Lacking s p = tt
units-left Through Idle s p = p
units-left Through Through s p = p
units-left Through Lacking s p = tt
units-left Lacking b s p = tt

units-right : (a b : WorkEnd) (s : Sight) → SaysOfUnits b s → SaysOfUnits (both_ends a b) s
units-right Idle b s p = p
units-right Through Idle s p = nothing-done s p
units-right Through Through s p = p
units-right Through Lacking s p = tt
units-right Lacking b s p = tt

worked-left : (Asked : Basis → Type 0) (a b : WorkEnd) (s : Sight) → HasWorked Asked a s → HasWorked Asked (both_ends a b) s
worked-left Asked a b s h = record { counts = h.counts; works = h.works; promise = h.promise; units = units-left a b s h.units }

worked-right : (Asked : Basis → Type 0) (a b : WorkEnd) (s : Sight) → HasWorked Asked b s → HasWorked Asked (both_ends a b) s
worked-right Asked a b s h = record { counts = h.counts; works = h.works; promise = h.promise; units = units-right a b s h.units }

-- what two workers showed of the lines
pub lines-both : (a b : WorkEnd) (lines : ℕ) (first : Run) (s t u : List Told) → StartsWith u s → StartsWith u t → SaysOfLines a lines first s → SaysOfLines b lines first t
    → SaysOfLines (both_ends a b) lines first u
lines-both Idle Idle lines first s t u x y p q = tt
lines-both Idle Through lines first s t u x y p q = shown-more (HasBegunLines lines) first t u y q
lines-both Idle Lacking lines first s t u x y p q = tt
lines-both Through Idle lines first s t u x y p q = shown-more (HasBegunLines lines) first s u x p
lines-both Through Through lines first s t u x y p q = shown-more (HasBegunLines lines) first s u x p
lines-both Through Lacking lines first s t u x y p q = tt
lines-both Lacking b lines first s t u x y p q = tt

-- ---- a pass is split, and joined

pub crowd-joined : {T : Type 0} (state : T → Run) (Own : Sight → Sight → Type 0) (Asked : Basis → Type 0) (a b : WorkEnd) (v l w k r u : View T CoreEvent CoreReply) → l ≡ splitter_view v → k ≡ split_off_view v
    → GathersSights state (Own (sight_of state l)) (HasWorked Asked b) l w → Returns state (HasWorked Asked a) k r → Joins state (λ x e. extended x (e ∷ [])) reply_in w r u
    → GathersSights state (Own (sight_of state v)) (HasWorked Asked (both_ends a b)) v u
crowd-joined state Own Asked a b v l w k r u is_l is_k g h j =
    gathers-split state (Own (sight_of state v)) (HasWorked Asked (both_ends a b)) v l w k r u is_l is_k
    (gathers-less state (Own (sight_of state v)) (Own (sight_of state v)) (HasWorked Asked b) (HasWorked Asked (both_ends a b)) (λ s p. p) (λ s p. worked-right Asked a b s p) l w
    (subst (λ (z : Sight). GathersSights state (Own z) (HasWorked Asked b) l w) (ap (sight_of state) is_l) g))
    record { first = h.first; seen = h.seen; number = h.number; split_off = h.split_off; joined = h.joined; holds = worked-left Asked a b (sight_of state r) h.holds }
    j

-- one worker's pass more comes back into those that are together
pub brought-together : (Own : Sight → Sight → Type 0) (cell : TableId) (types : ProgramTree) (before : ℕ) (lines : List Line) (a b : WorkEnd) (v l k r w u : CorePass)
    → pass_view l ≡ splitter_view (pass_view v) → pass_view k ≡ split_off_view (pass_view v)
    → BringsTogether cell (Own (sight_of run_of (pass_view l))) types before lines b l w → BringsBack types before lines a k r
    → IsPassOf cell u → Joins run_of (λ x e. extended x (e ∷ [])) reply_in (pass_view w) (pass_view r) (pass_view u)
    → BringsTogether cell (Own (sight_of run_of (pass_view v))) types before lines (both_ends a b) v u
brought-together Own cell types before lines a b v l k r w u is_l is_k g h own j =
    let n = before + length lines in
    let theirs = subst (λ (z : View CoreData CoreEvent CoreReply). SaysOfLines a n (run_of z.first) (pass_view r).seen) is_k h.2 in
    let ours = subst (λ (z : View CoreData CoreEvent CoreReply). SaysOfLines b n (run_of z.first) (pass_view w).seen) is_l g.2 in (
      own,
      crowd-joined run_of Own (IsBasisOf types before lines) a b (pass_view v) (pass_view l) (pass_view w) (pass_view k) (pass_view r) (pass_view u) is_l is_k g.1 h.1 j,
      lines-both a b n (run_of (pass_view v).first) (pass_view r).seen (pass_view w).seen (pass_view u).seen j.other j.one theirs ours,
    )

-- ---- the cell is closed

pub is-gathered : {T : Type 0} {cell : TableId} {started tells : Bool} {shape : Shape} {own settler : Settler} {counts : Channel → ℕ} {now : World} {after : Side} {result : Result T RunFault}
    {types : ProgramTree} {end : WorkEnd} {closed : CoreData} (before : ℕ) (lines : List Line) (v w : CorePass)
    → BringsTogether cell (HasSettled {T = T} started tells shape (side_by own counts now) after result (sight_of run_of (pass_view v))) types before lines end v w
    → own ≡ settler → pass_view v ≡ view (pass_view v).first [] false first_hand → Closes run_of (λ x e. extended x (e ∷ [])) reply_in (pass_view w) closed
    → IsGathered end (before + length lines) (HasSettled {T = T} started tells shape (side_by settler counts now) after result (sight_by (run_of (pass_view v).first) [] [] [])) (HasWorked (IsBasisOf types before lines) end)
    (run_of (pass_view v).first) (run_of closed)
is-gathered {T} {cell} {started} {tells} {shape} {own} {settler} {counts} {now} {after} {result} {types} {end} {closed} before lines v w g same first all =
    let n = before + length lines in
    let r = run_of (pass_view v).first in
    let Own : Settler → Sight → Sight → Type 0 = λ x s. HasSettled {T = T} started tells shape (side_by x counts now) after result s in
    let hand = ap (λ (z : View CoreData CoreEvent CoreReply). z.hand) first in
    let known = closes-known run_of (Own own (sight_of run_of (pass_view v))) (HasWorked (IsBasisOf types before lines) end) (pass_view v) (pass_view w) closed hand g.1 all in
    record {
      closed = subst (λ (x : Settler). IsClosed (Own x (sight_by r [] [] [])) (HasWorked (IsBasisOf types before lines) end) r (run_of closed)) same
          (subst (λ (s : Sight). IsClosed (Own own s) (HasWorked (IsBasisOf types before lines) end) r (run_of closed)) (ap (λ (z : View CoreData CoreEvent CoreReply). sight_of run_of z) first) known);
      shown = λ through. subst (HasBegunLines n) (sym (all.object ∙ ap (λ (x : Run). run_after x all.log) g.1.first))
          (closed-lines r all.log n (shown-more (HasBegunLines n) r (pass_view w).seen all.log all.begins (subst (λ (e : WorkEnd). SaysOfLines e n r (pass_view w).seen) through g.2)));
    }

-- ---- nobody settles

module _ (tells : Bool) (r : Run) (settler : Settler) (faults : Channel → ℕ) (now : World) where
  pub beside-none : {T : Type 0} (done : T) → TurnsBeside {T = T} tells (stage_by r settler faults now) (stage_by r settler faults now) (Ok done)
  beside-none done = record {
    more = [];
    core = λ i. record r { events = sym (append-nil r.events) i };
    quiet = refl;
    input = λ t. refl;
    past = λ t. ([], sym (append-nil now.past));
    pulled = refl;
    emitted = refl;
    calm = λ q. refl;
    hushed = λ q t. record { output = refl; moments = record { more = []; past = sym (append-nil now.past); each = tt } };
  }

pub settles-none : {T : Type 0} (done : T) (tells : Bool) (shape : Shape) (beside : Side) (s : Sight) → SettlesBeside {T = T} tells shape beside beside (Ok done) s s
settles-none done tells shape beside s = record {
  sees = sees-none s;
  own = record { on = sees-none s; own = []; mine = sym (append-nil s.mine); settling = λ x i. absurd i };
  leaves = record {
    promise = λ b p. p;
    books = λ o b can rely. record { goes = record { books = b; kept = can.books; lasts = λ told head l. l }; says = (can.even, can.going) };
    beside = beside-none tells (run_seen s) beside.settler beside.faults beside.world done;
  };
}
