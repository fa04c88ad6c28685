-- Where the core shows that the grain is in memory for whose lock a script asks, its unit lacks none.
use Rattle.std.proofs.Common.{◌≡◌, inl, List, [], ◌∷◌, Bool, true, false, true≢false, refl, sym, ap, ◌∙◌, subst, Option, Some, None}
use Rattle.std.specs.Prelude.{if◌then◌else◌, is_some}
use Rattle.cell_model.specs.Locks as locks
use Rattle.core_model.specs.CoreState.{UnitNo, GrainId, Mode, Hold, Member, CoreState}
use Rattle.core_model.specs.declared.events.CoreEvent.{CoreEvent}
use Rattle.core_model.specs.declared.questions.AskAnswer.{AskAnswer}
use Rattle.core_model.specs.declared.questions.AskAnswer.TheVariants as answer
use Rattle.core_model.specs.LoadlessLaws.{HeldAreHere}
use Rattle.core_model.specs.Tests.{ask_answer, ask_doom, ask_lock, doomed_by, is_active}
use Rattle.core_model.specs.LegalRuns.{ends}
use Rattle.core_laws.proofs.HeldGrains.{here-ends}
use Rattle.core_access.specs.Sights.{Sight, run_seen, Looks, Counts}
use Rattle.script_tree.specs.Programs.{ProgramTree}
use Rattle.script_machine.specs.declared.machine.Pause.TheVariants.{NeedGrain, NeedUnit, Done}
use Rattle.promise_spec.proofs.Lists.{some_is}
use Rattle.txn_agent.specs.declared.work.Carried.{Carried}
use Rattle.txn_agent.specs.declared.work.Doing.{Doing}
use Rattle.txn_agent.specs.declared.work.Doing.TheVariants.{Asks, Awaits, Frees, Stopped}
use Rattle.txn_agent.specs.CoreLink.{KnowsDoing}
use Rattle.txn_agent.specs.Wishes.{HasItsGrain, lock_of, shows_grain}
use Rattle.txn_agent.proofs.WishAnswers.{asked-here, awaits-asks, other-asks, over-idle}

-- an answer that shows it is right: a lock is of a grain in memory, and where nobody has one the answer looks there
shown-here : (w : CoreState) (u : UnitNo) (g : GrainId) (mode : Mode) → HeldAreHere w → shows_grain (ask_answer w u g mode) ≡ true → w.cells.here g ≡ true
shown-here w u g mode held shown = by (w.cells.holds g) refl
  where
    active : (a : Bool) (o : Option UnitNo) (here : Bool) → shows_grain (if a then ask_doom o (ask_lock here (locks.ask [] u mode)) else answer.NotActive) ≡ true → here ≡ true
    active true None true e = refl
    active true None false e = absurd (true≢false (sym e))
    active true (Some s) here e = absurd (true≢false (sym e))
    active false o here e = absurd (true≢false (sym e))

    by : (hs : List Hold) → w.cells.holds g ≡ hs → w.cells.here g ≡ true
    by (h ∷ hs) q = held g h (subst (Member h) (sym q) (inl refl))
    by [] q = active (is_active w u g) (doomed_by w u) (w.cells.here g)
        (subst (λ (l : List Hold). shows_grain (if is_active w u g then ask_doom (doomed_by w u) (ask_lock (w.cells.here g) (locks.ask l u mode)) else answer.NotActive) ≡ true) q shown)

-- who asks for none asks for no lock
none-some : {A : Type 0} (o : Option (GrainId × Mode)) (g : GrainId) (mode : Mode) → o ≡ None → o ≡ Some (g, mode) → A
none-some o g mode none some = absurd (true≢false (ap is_some (sym some ∙ none)))

-- a script that stands for no lock
pub none_lacked : (types : ProgramTree) (s : Sight) (c : Carried) (doing : Doing) → lock_of doing ≡ None → KnowsDoing types s c doing → HasItsGrain types s c.unit doing
none_lacked types s c (Asks work (NeedGrain g mode)) e k = absurd (true≢false (ap is_some e))
none_lacked types s c (Asks work (NeedUnit call depth)) e k = λ heard alone going h m runs asks. none-some _ h m (other-asks types s c work (NeedUnit call depth) refl k alone) asks
none_lacked types s c (Asks work (Done outcome)) e k = λ heard alone going h m runs asks. none-some _ h m (other-asks types s c work (Done outcome) refl k alone) asks
none_lacked types s c (Awaits work child) e k = λ heard alone going h m runs asks. none-some _ h m (awaits-asks types s c work child k heard alone) asks
none_lacked types s c (Frees held) e k = λ heard alone going h m runs asks. absurd (true≢false (sym runs ∙ over-idle ((ends (run_seen s)).units.phase c.unit) (k alone).over))
none_lacked types s c Stopped e k = λ heard alone going. absurd ((k alone).stopped going)

-- one that stands for a lock whose grain was shown
pub shown_lacked : (may : CoreEvent → Bool) (types : ProgramTree) (s t : Sight) (c : Carried) (g : GrainId) (mode : Mode) → Counts s → Looks may s t → (doing : Doing) → lock_of doing ≡ Some (g, mode)
    → KnowsDoing types s c doing → (a : AskAnswer) → a ≡ ask_answer (ends (run_seen t)) c.unit g mode → (b : Bool) → b ≡ shows_grain a → b ≡ true → HasItsGrain types t c.unit doing
shown_lacked may types s t c g mode counts l doing is k a asked b q f = λ heard alone going h m runs asks.
    (let same : (h, m) ≡ (g, mode) = some_is (h, m) (g, mode) (sym asks ∙ asked-here may types s t c g mode counts l doing is k alone) in
    subst (λ (z : GrainId × Mode). (ends (run_seen t)).cells.here z.0 ≡ true) (sym same)
    (shown-here (ends (run_seen t)) c.unit g mode (here-ends (run_seen t)) (sym (ap shows_grain asked) ∙ sym q ∙ f)))
