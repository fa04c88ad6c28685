-- A grain on which somebody holds a lock is in memory, whatever was loaded.
use Rattle.std.proofs.Common.{◌≡◌, ℕ, List, [], ◌∷◌, Bool, true, ◌&&◌, not, refl, sym, ap, ◌∙◌, subst, Option, Some, None}
use Rattle.std.proofs.lemmas.Bool.{and_parts, and_from, or_right, cond_both}
use Rattle.cell_model.specs.Locks.{dropped, granted}
use Rattle.cell_model.proofs.LockAnswers.{dropped-member}
use Rattle.core_model.specs.CoreState.{Member, Hold, CoreState}
use Rattle.core_model.specs.Tests.{is_empty, is_single, is_wanted, is_recent}
use Rattle.core_model.specs.Changes.{swept, swept_by}
use Rattle.core_model.specs.LoadlessLaws.{HeldAreHere}
use Rattle.core_model.specs.Events.{applies, can, does, step, run, is_allowed}
use Rattle.core_model.specs.declared.events.CoreEvent.{CoreEvent}
use Rattle.core_model.specs.LegalRuns.{Run, begins, ends}
use Rattle.core_laws.proofs.Puts.{grain-at, grain-from}
use Rattle.core_laws.proofs.EventCases.{Change, bad, begin, lock, raise, refuse, finish, end_plain, end_snapshot, release, take_batch, vote, decide_some, decide_none, seal_batch, spoil_batch, doubt_batch, learn, emit, halt_run, want, load, decode}

here-change : (w : CoreState) (e : CoreEvent) (w' : CoreState) → Change w e w' → HeldAreHere w → HeldAreHere w'
here-change w e w' (bad line why q) s = s
here-change w e w' (begin origin call plain c) s = s
here-change w e w' (lock u g mode running free first here) s = λ j h m. grain-from w.cells.holds g (granted (w.cells.holds g) u mode) (Member h) (w.cells.here j ≡ true) j
    (λ z n. ap w.cells.here z ∙ here) (λ z n. s j h n) m
here-change w e w' (raise u g mode running free held here uncovered) s = λ j h m. grain-from w.cells.holds g (granted (w.cells.holds g) u mode) (Member h) (w.cells.here j ≡ true) j
    (λ z n. ap w.cells.here z ∙ here) (λ z n. s j h n) m
here-change w e w' (refuse u g mode why running q) s = s
here-change w e w' (finish u effect running plain of_call reads alone) s = s
here-change w e w' (end_plain u effect running plain of_call bare) s = s
here-change w e w' (end_snapshot u at outcome running plain kids answer) s = s
here-change w e w' (release u g over held) s = λ j h m. s j h (grain-from w.cells.holds g (dropped (w.cells.holds g) u) (Member h) (Member h (w.cells.holds j)) j
    (λ z n. subst (λ i. Member h (w.cells.holds i)) (sym z) (dropped-member u (w.cells.holds g) h n).0) (λ z n. n) m)
here-change w e w' (take_batch none some) s = s
here-change w e w' (vote n g kept b q number d planned fresh) s = s
here-change w e w' (decide_some n b q number d voted some) s = s
here-change w e w' (decide_none n b q number d voted none) s = s
here-change w e w' (seal_batch n b ds q number d) s = s
here-change w e w' (spoil_batch n b ds q number d) s = s
here-change w e w' (doubt_batch n b ds q number d) s = s
here-change w e w' (learn u g wrote final fresh) s = s
here-change w e w' (emit q) s = s
here-change w e w' (halt_run q) s = s
here-change w e w' (want u g running free fresh) s = s
here-change w e w' (load g u state gone wanted) s = λ j h m. grain-at w.cells.here g true (λ b. b ≡ true) j (λ i. refl) (λ i. s j h m)

busy : (hs : List Hold) (h : Hold) (rest : Bool) → Member h hs → not (is_empty hs && rest) ≡ true
busy [] h rest m = absurd m
busy (x ∷ xs) h rest m = refl

here-swept : (w : CoreState) → HeldAreHere w → HeldAreHere (swept w)
here-swept w s = go w.cells.capacity
  where
    go : (c : Option ℕ) → HeldAreHere (swept_by w c)
    go None = s
    go (Some n) = λ g h m. and_from (w.cells.here g) _ (s g h m) (or_right (is_recent w g) _ (busy (w.cells.holds g) h (is_single (w.cells.stack g) && not (is_wanted w.units.wants g)) m))

pub here-step : (w : CoreState) (e : CoreEvent) → HeldAreHere w → HeldAreHere (step w e)
here-step w e s = cond_both (applies w e) (swept (does w e)) w HeldAreHere
    (λ a. here-swept (does w e) (here-change w e (does w e) (decode w e (and_parts (is_allowed w e) (can w e) a).1) s))
    (λ a. s)

here-run : (es : List CoreEvent) (w : CoreState) → HeldAreHere w → HeldAreHere (run w es)
here-run [] w s = s
here-run (e ∷ es) w s = here-run es (step w e) (here-step w e s)

pub here-ends : (r : Run) → HeldAreHere (ends r)
here-ends r = here-run r.events (begins r) (λ g h m. absurd m)
