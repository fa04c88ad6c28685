-- A closed core: its run keeps the unit rule and the books, and its units and lines are done.
use Rattle.std.proofs.Common.{◌≡◌, ◌⊎◌, inl, inr, ⊎_elim, ℕ, ◌≤◌, ◌<◌, ◌^◌, List, [], ◌∷◌, ◌++◌, length, Bool, false, refl, sym, ap, ◌∙◌, subst, arith, append-nil}
use Rattle.std.specs.Prelude.{Result, Ok, Err}
use mathlib.Core.List.{append_assoc}
use Rattle.base_types.specs.declared.shapes.Shape.{Shape}
use Rattle.base_types.specs.Lists.{Member}
use Rattle.core_model.specs.declared.events.CoreEvent.{CoreEvent}
use Rattle.core_model.specs.declared.events.CoreReply.{CoreReply}
use Rattle.core_model.specs.declared.events.CoreEvent.TheVariants.{Halt}
use Rattle.core_model.specs.Laws.{extended}
use Rattle.core_model.specs.LegalRuns.{Run, ends}
use Rattle.history_core.specs.Cores.{CoreData, run_of}
use Rattle.turn_cell.specs.declared.view.View.{View}
use Rattle.turn_cell.specs.Hands.{first_hand}
use Rattle.turn_cell.specs.Passes.{view}
use Rattle.turn_cell.specs.History.{entry, entries_of}
use Rattle.turn_cell.proofs.Lists.{in_append}
use Rattle.turn_rules.specs.NextEvent.{MayCome}
use Rattle.turn_rules.specs.QuietRun.{IsQuiet}
use Rattle.core_access.specs.Histories.{Told, run_after}
use Rattle.core_access.specs.Sights.{Sight, run_seen, Counts}
use Rattle.core_access.specs.PassSights.{all_come}
use Rattle.promise_spec.specs.UnitRule.{Basis, KeepsUnitRule}
use Rattle.worker_rules.specs.UnitOwnership.{KeepsPromise}
use Rattle.worker_rules.specs.Work.{OnlyWorks}
use Rattle.worker_rules.proofs.OwnEntries.{promise-none}
use Rattle.worker_rules.proofs.Workers.{work-stops}
use Rattle.run_books.specs.declared.faults.RunFault.{RunFault}
use Rattle.run_books.specs.declared.faults.RunFault.TheVariants.{InDoubt, WriteFault, Memory, LoadFault, LoadDamaged}
use Rattle.run_books.specs.Beginnings.{Outset, basis_of}
use Rattle.run_books.specs.RecordFrame.{TurnsBeside}
use Rattle.run_books.specs.Books.{Books}
use Rattle.run_books.specs.SharedSteps.{MayRely, SeesOn}
use Rattle.run_books.proofs.BooksShared.{others-keep-books, works-leave}
use Rattle.run_books.proofs.Fronts.{events_told, after-is, after-base, after-kinds}
use Rattle.run_books.proofs.Reliance.{counts-on, relies-before}
use Rattle.run_books.proofs.SettlerSights.{going-all}
use Rattle.shared_settling.specs.SharedSettler.{SettlesAmong, StopsAmong, EndsAmong, CanSettleAmong, SettledAmong}
use Rattle.shared_settling.proofs.OthersBooks.{fault-on}
use Rattle.worker_rules.specs.ClosedCore.{IsClosed, PutsNothing, SettlesOrStops, AreOverAndFree, HasBegunLines}
use Rattle.worker_rules.specs.JoinedPasses.{sight_by}
use Rattle.worker_rules.proofs.Closes.{closed-less, closed-rule, settles-alone, works-since, last-since, closed-done, quiet-done, closed-same}
use Rattle.silo_workers.specs.SettlerThread.{HasSettled}
use Rattle.silo_workers.specs.RunEnd.{IsOfProgram, HasGathered}
use Rattle.silo_workers.specs.WorkerPasses.{HasWorked, SaysOfUnits, IsGathered}
use Rattle.silo_workers.specs.declared.work.WorkEnd.{WorkEnd}
use Rattle.silo_workers.specs.declared.work.WorkEnd.TheVariants.{Idle, Through}
use Rattle.run_books.specs.Stages.{Side, stage_with}

-- ---- what the one who settles put

settles-only : (s t : Sight) → s.mine ≡ [] → SettlesAmong s t → SettlesOrStops t.mine
settles-only s t none a x i = inl (a.settling x (subst (Member x) (a.mine ∙ ap (λ (l : List Told). l ++ a.own) none) i))

settles-or-stops : (s t : Sight) → s.mine ≡ [] → SettlesAmong s t ⊎ StopsAmong all_come s t → SettlesOrStops t.mine
settles-or-stops s t none (inl p) = settles-only s t none p
settles-or-stops s t none (inr p) = λ x i. ⊎_elim
    (λ j. settles-only s p.mid none p.settles x j)
    (λ j. ⊎_elim (λ (q : x ≡ entry p.mid.number Halt p.reply). inr (ap (λ (z : Told). z.event) q)) (λ k. absurd k) j)
    (in_append x p.mid.mine (entry p.mid.number Halt p.reply ∷ []) (subst (λ (z : Sight). Member x z.mine) p.stop.sight i))

pub ends-settle : {T : Type 0} (s t : Sight) (result : Result T RunFault) → s.mine ≡ [] → EndsAmong all_come s t result → SettlesOrStops t.mine
ends-settle s t (Ok done) none a = settles-only s t none a
ends-settle s t (Err InDoubt) none a = settles-only s t none a
ends-settle s t (Err WriteFault) none a = settles-or-stops s t none a
ends-settle s t (Err Memory) none a = settles-or-stops s t none a
ends-settle s t (Err (LoadFault file)) none a = settles-or-stops s t none a
ends-settle s t (Err (LoadDamaged file place)) none a = settles-or-stops s t none a

-- ---- the closed core

-- what is known of it, by the core that the cell was made with
pub closed-from : {T : Type 0} {tells : Bool} {shape : Shape} {before after : Side} {result : Result T RunFault} {started : Bool} {end : WorkEnd}
    {lines : ℕ} {Asked : Basis → Type 0} {r' : Run} {v : View CoreData CoreEvent CoreReply} {core : CoreData} → v ≡ view core [] false first_hand
    → IsGathered end lines (HasSettled {T = T} started tells shape before after result (sight_by (run_of v.first) [] [] [])) (HasWorked Asked end) (run_of v.first) r'
    → IsGathered end lines (HasSettled {T = T} started tells shape before after result (sight_by (run_of core) [] [] [])) (HasWorked Asked end) (run_of core) r'
closed-from {T} {tells} {shape} {before} {after} {result} {started} {end} {lines} {Asked} {r'} first g =
    subst (λ (z : View CoreData CoreEvent CoreReply). IsGathered end lines (HasSettled {T = T} started tells shape before after result (sight_by (run_of z.first) [] [] [])) (HasWorked Asked end) (run_of z.first) r') first g

module _ {T : Type 0} {tells : Bool} {shape : Shape} {before after : Side} {result : Result T RunFault} {started : Bool} {end : WorkEnd}
    {lines : ℕ} {Asked : Basis → Type 0} {r r' : Run}
    (g : IsGathered end lines (HasSettled {T = T} started tells shape before after result (sight_by r [] [] [])) (HasWorked Asked end) r r') where
  -- the calling thread's pass, before it was used
  abbrev s : Sight
  s = sight_by r [] [] []

  abbrev c : IsClosed (HasSettled {T = T} started tells shape before after result s) (HasWorked Asked end) r r'
  c = g.closed

  none-first : (basis : Basis) → KeepsPromise basis s
  none-first basis = promise-none (MayCome basis) r [] []

  counts-first : Counts s
  counts-first = omega arith

  abbrev shared : IsClosed Counts (λ z. OnlyWorks z.mine) r r'
  shared = closed-less (HasSettled {T = T} started tells shape before after result s) Counts (HasWorked Asked end) (λ z. OnlyWorks z.mine)
      (λ z h. counts-on s z h.beside.sees counts-first) (λ z h. h.works) r r' c

  -- what the calling thread had seen, and what came since
  abbrev seen : Sight
  seen = sight_by r [] c.own.shown (entries_of [] c.log)

  abbrev came : List Told
  came = c.own.begins.0

  last-is : r' ≡ run_after (run_seen seen) came
  last-is = last-since r r' shared

  -- where nothing was put the run is as it was
  pub gathered-same : started ≡ false → end ≡ Idle → r' ≡ r
  gathered-same none-started idle = closed-same r r'
      (closed-less (HasSettled {T = T} started tells shape before after result s) PutsNothing (HasWorked Asked end) PutsNothing
      (λ z h. h.none none-started) (λ z h. subst (λ (e : WorkEnd). SaysOfUnits e z) idle h.units) r r' c)

  module _ (o : Outset) (b : Books) (asked : Asked (basis_of o)) (program : IsOfProgram o shape r) (units : KeepsUnitRule (basis_of o) r) (can : CanSettleAmong tells o b shape s before)
      (few : (ends r').units.next ≤ 2 ^ 63) (small : (ends r').units.lines < 2 ^ 32) where
    -- each pass kept its promise
    abbrev promised : IsClosed (KeepsPromise (basis_of o)) (KeepsPromise (basis_of o)) r r'
    promised = closed-less (HasSettled {T = T} started tells shape before after result s) (KeepsPromise (basis_of o)) (HasWorked Asked end) (KeepsPromise (basis_of o))
        (λ z h. h.beside.leaves.promise (basis_of o) (none-first (basis_of o))) (λ z h. h.promise (basis_of o) asked) r r' c

    ruled : KeepsUnitRule (basis_of o) r'
    ruled = closed-rule (basis_of o) r r' promised program.above units

    -- so what may be relied on is known, by the whole history and by what the calling thread had seen
    relies : MayRely o (sight_by r [] c.log (entries_of [] c.log))
    relies = record {
      alone = settles-alone r r' shared;
      units = subst (KeepsUnitRule (basis_of o)) c.left ruled;
      few = subst (λ (x : Run). (ends x).units.next ≤ 2 ^ 63) c.left few;
      small = subst (λ (x : Run). (ends x).units.lines < 2 ^ 32) c.left small;
    }

    on : SeesOn seen (sight_by r [] c.log (entries_of [] c.log))
    on = record { first = refl; number = refl; rest = came; seen = c.own.begins.1; own = []; mine = sym (append-nil (entries_of [] c.log)); counts = omega arith }

    relied : MayRely o seen
    relied = relies-before seen (sight_by r [] c.log (entries_of [] c.log)) on o (shared.own.holds) relies

    settled : SettledAmong {T = T} tells o b (stage_with r before) (stage_with (run_seen seen) after) result
    settled = c.own.holds.beside.leaves.books o b can relied

    above-seen : 0 < (run_seen seen).base
    above-seen = subst (λ (n : ℕ). 0 < n) (sym (after-base c.own.shown r)) program.above

    ruled-on : KeepsUnitRule (basis_of o) (run_after (run_seen seen) came)
    ruled-on = subst (KeepsUnitRule (basis_of o)) last-is ruled

    -- the books go on behind what came since
    on-by : (x : Result T RunFault) → SettledAmong {T = T} tells o b (stage_with r before) (stage_with (run_seen seen) after) x → SettledAmong {T = T} tells o b (stage_with r before) (stage_with (run_after (run_seen seen) came) after) x
    on-by (Err f) p = fault-on tells o b r (run_seen seen) came before.settler after.settler before.faults after.faults before.world after.world above-seen ruled-on (works-leave came (works-since r r' shared)) f p
    on-by (Ok done) p =
        let more = others-keep-books tells o p.goes.books (run_seen seen) came after.settler after.faults after.world above-seen ruled-on (works-leave came (works-since r r' shared)) p.says.0 p.goes.kept in
        record {
          goes = record { books = more.0.books; kept = more.0.kept; lasts = λ t head l. more.0.lasts t head (p.goes.lasts t head l) };
          says = (more.1, going-all came (run_seen seen) (λ x i. work-stops x.event (works-since r r' shared x i)) ∙ p.says.1);
        }

    pub gathered-books : SettledAmong {T = T} tells o b (stage_with r before) (stage_with r' after) result
    gathered-books = subst (λ (x : Run). SettledAmong {T = T} tells o b (stage_with r before) (stage_with x after) result) (sym last-is) (on-by result settled)

    -- the units
    abbrev carried : end ≡ Through → IsClosed (λ z. SettlesOrStops z.mine × KeepsPromise (basis_of o) z) (λ z. KeepsPromise (basis_of o) z × AreOverAndFree z) r r'
    carried through = closed-less (HasSettled {T = T} started tells shape before after result s) (λ z. SettlesOrStops z.mine × KeepsPromise (basis_of o) z)
        (HasWorked Asked end) (λ z. KeepsPromise (basis_of o) z × AreOverAndFree z)
        (λ z h. (ends-settle s z result refl h.beside.own, h.beside.leaves.promise (basis_of o) (none-first (basis_of o))))
        (λ z h. (h.promise (basis_of o) asked, subst (λ (e : WorkEnd). SaysOfUnits e z) through h.units)) r r' c

    program-on : IsOfProgram o shape r'
    program-on = record {
      above = subst (λ (x : Run). 0 < x.base) (sym c.left) (subst (λ (n : ℕ). 0 < n) (sym (after-base c.log r)) program.above);
      kinds = ap (λ (x : Run). x.kinds) c.left ∙ (after-kinds c.log r ∙ program.kinds);
      shape_is = program.shape_is;
      accepted = program.accepted;
    }

    -- all that is known of the closed core
    pub has-gathered : IsQuiet (ends r) → lines ≡ length o.asked → HasGathered {T = T} tells o b shape (stage_with r before) (stage_with r' after) end result
    has-gathered quiet all = record {
      program = program-on;
      units = ruled;
      books = gathered-books;
      done = λ through. closed-done (basis_of o) r r' (carried through) program.above units (λ u born. quiet-done r u quiet born);
      lines = λ through. subst (λ (n : ℕ). HasBegunLines n r') all (g.shown through);
    }

  -- ---- and beside

  pub gathered-beside : TurnsBeside {T = T} tells (stage_with r before) (stage_with r' after) result
  gathered-beside =
      let one : TurnsBeside {T = T} tells (stage_with r before) (stage_with (run_seen seen) after) result = c.own.holds.beside.leaves.beside in
      record {
        more = one.more ++ events_told came;
        core = last-is ∙ after-is came (run_seen seen) ∙ ap (λ (x : Run). extended x (events_told came)) one.core ∙ ap (λ (es : List CoreEvent). record r { events = es }) (append_assoc r.events one.more (events_told came));
        quiet = one.quiet;
        input = one.input;
        past = one.past;
        pulled = one.pulled;
        emitted = one.emitted;
        calm = one.calm;
        hushed = one.hushed;
      }
