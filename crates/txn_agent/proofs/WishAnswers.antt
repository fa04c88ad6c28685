-- What a call that may put a wish leaves, and what its answer says.
use Rattle.std.proofs.Common.{◌≡◌, inl, inr, List, [], ◌∷◌, Bool, true, false, true≢false, refl, sym, ap, ◌∙◌, subst, Option, Some, None}
use Rattle.std.specs.Prelude.{not, ◌&&◌, if◌then◌else◌, is_some, filter, map, option_map}
use Rattle.std.proofs.lemmas.Bool.{and_parts, and_from, cases_Bool}
use Rattle.base_types.specs.declared.calls.Mode.{Mode}
use Rattle.cell_model.specs.Locks as locks
use Rattle.cell_model.specs.Locks.{holds_lock, is_hold_of}
use Rattle.core_model.specs.CoreState.{UnitNo, GrainId, Member, same_unit, same_grain, CoreState}
use Rattle.core_model.specs.declared.phases.Phase.{Phase}
use Rattle.core_model.specs.declared.phases.Phase.TheVariants.{Unborn, Running, Finished, Refused, Ended}
use Rattle.core_model.specs.declared.events.CoreEvent.{CoreEvent}
use Rattle.core_model.specs.declared.events.CoreEvent.TheVariants as event
use Rattle.core_model.specs.declared.events.CoreReply.{CoreReply}
use Rattle.core_model.specs.declared.events.CoreReply.TheVariants as reply
use Rattle.core_model.specs.declared.questions.AskAnswer.{AskAnswer}
use Rattle.core_model.specs.declared.questions.AskAnswer.TheVariants as answer
use Rattle.core_model.specs.LockAnswers.{AskedLocks, IsGoing}
use Rattle.core_model.specs.LoadlessLaws.{HeldAreHere}
use Rattle.core_model.specs.Events.{applies, reply_to}
use Rattle.core_model.specs.Tests.{any, ask_answer, ask_doom, ask_lock, doomed_by, first_grain, first_of_two, is_active, is_over, is_running, outcome_of}
use Rattle.core_model.specs.WantedGrains.{next_wanted}
use Rattle.core_model.specs.LegalRuns.{Run, ends}
use Rattle.core_laws.proofs.HeldGrains.{here-ends}
use Rattle.core_laws.proofs.LockAnswers.{asked-locks}
use Rattle.script_tree.specs.Programs.{ProgramTree}
use Rattle.script_meaning.specs.Play.{Want, WantLock, WantRaise, WantUnit, Over, asks}
use Rattle.script_machine.specs.declared.machine.Pause.{Pause}
use Rattle.script_machine.specs.declared.machine.Pause.TheVariants.{NeedGrain, NeedUnit, Done}
use Rattle.script_machine.specs.Machines.{pause_for, rest}
use Rattle.promise_spec.specs.UnitAnswers.{got_in, wanted_by, wanted_lock}
use Rattle.promise_spec.specs.UnitRule.{Basis, KeepsUnitRule}
use Rattle.promise_spec.proofs.Lists.{some_is}
use Rattle.promise_spec.specs.TurnRule.{is_absent, lock_asked, waits_for_load}
use Rattle.turn_rules.proofs.AgentLinks.{wants}
use Rattle.turn_rules.proofs.Growth.{unit-grows}
use Rattle.cell_model.proofs.Units.{any-true, filter-stays, same_grain-true, same_unit-is, same_unit-not, same_unit-true}
use Rattle.worker_rules.specs.UnitOwnership.{leaves_unit, BeganHere, KeepsPromise}
use Rattle.worker_rules.proofs.CallPromises.{is-harmless, looks-promise, tells-promise}
use Rattle.core_access.specs.OneHolder.{none_comes}
use Rattle.core_access.specs.Sights.{Sight, run_seen, saw, Looks, Tells, Counts, IsAlone, IfAlone}
use Rattle.core_access.proofs.Sights.{looks-alone, looks-counts, reply-alone, run-alone, saw-on, tells-alone, tells-counts, tells-on, told-stays}
use Rattle.turn_cell.specs.History.{entry}
use Rattle.turn_cell.proofs.Lists.{in_left}
use Rattle.txn_agent.specs.declared.work.Carried.{Carried}
use Rattle.txn_agent.specs.declared.work.Work.{Work}
use Rattle.txn_agent.specs.declared.work.Doing.{Doing}
use Rattle.txn_agent.specs.declared.work.Doing.TheVariants.{Asks, Awaits, Frees, Stopped}
use Rattle.txn_agent.specs.Replies.{is_done}
use Rattle.txn_agent.specs.CoreLink.{IsPaused, KnowsDoing, KnowsPaused, KnowsWaiting}
use Rattle.txn_agent.specs.AgentStep.{Hears, IsDueFor}
use Rattle.txn_agent.specs.Wishes.{GoesByWish, HasNoWish, PutsWish, WishSays, Wishes, lock_of}
use Rattle.txn_agent.proofs.AgentCalls.{paused-looks, paused-there}
use Rattle.txn_agent.proofs.ComposedSteps.{lock-asked, looks_self}
use Rattle.txn_agent.proofs.DueEvents.{next-is}
use Rattle.txn_agent.proofs.OwnWishes.{wish-paused}
use Rattle.txn_agent.proofs.LoneSteps.{going-applies}
use Rattle.txn_agent.proofs.ShownMoves.{for_grain, given-none}
use Rattle.txn_agent.proofs.StepPromises.{knows-looks, knows-tells}
use Rattle.txn_agent.proofs.UnhopedReplies.{was-done}
use Rattle.txn_agent.proofs.UnitEnds.{idle-asks}

-- ---- no wish

-- who asks for no lock waits for no grain
no-lock : (w : CoreState) (u : UnitNo) (o : Option (GrainId × Mode)) → o ≡ None → waits_for_load w u o ≡ false
no-lock w u o e = ap (waits_for_load w u) e

-- nor does who doesn't run
idle-waits : (w : CoreState) (u : UnitNo) (o : Option (GrainId × Mode)) → is_running (w.units.phase u) ≡ false → waits_for_load w u o ≡ false
idle-waits w u None e = refl
idle-waits w u (Some asked) e = ap is_absent (idle-asks w u asked.0 asked.1 e)

-- who is over doesn't run
pub over-idle : (p : Phase) → is_over p ≡ true → is_running p ≡ false
over-idle Unborn e = refl
over-idle Running e = absurd (true≢false (sym e))
over-idle Finished e = refl
over-idle Refused e = refl
over-idle Ended e = refl

-- who asks for no lock says so
other-lock : (w : Want) (pause : Pause) → pause ≡ pause_for w → for_grain pause ≡ false → wanted_lock (Some w) ≡ None
other-lock (WantLock g mode) pause e f = absurd (true≢false (sym (ap for_grain e) ∙ f))
other-lock (WantRaise g) pause e f = absurd (true≢false (sym (ap for_grain e) ∙ f))
other-lock (WantUnit call depth) pause e f = refl
other-lock (Over o) pause e f = refl

module _ (types : ProgramTree) (s : Sight) (c : Carried) where
  -- who stands for something else asks for no lock
  pub other-asks : (work : Work) (pause : Pause) → for_grain pause ≡ false → KnowsPaused types s c work pause → IfAlone (leaves_unit c.unit) s (λ r. lock_asked types (ends r) (got_in r) c.unit ≡ None)
  other-asks work pause f k = λ alone. (let p = k.linked alone in
      ap wanted_lock (wants types (run_seen s) c.unit k.trail p.given ∙ ap Some (next-is types (run_seen s) c work k.trail _ k.at_work p))
      ∙ other-lock (asks (rest types work.machine)) pause k.ready.asks_for f)

  -- nor does who waits for a child that isn't decided
  pub awaits-asks : (work : Work) (child : UnitNo) → KnowsWaiting types s c work child → outcome_of (ends (run_seen s)) child ≡ None → IfAlone (leaves_unit c.unit) s (λ r. lock_asked types (ends r) (got_in r) c.unit ≡ None)
  awaits-asks work child k heard = λ alone. (let w = k.linked alone in
      ap wanted_lock (ap (wanted_by types (ends (run_seen s)) c.unit) w.awaits.got ∙ ap (option_map _) (given-none (ends (run_seen s)) k.call k.depth child w.awaits.before heard)))

module _ (may : CoreEvent → Bool) (types : ProgramTree) (s : Sight) (c : Carried) where
  -- where the script stands for something else
  other-wish : (work : Work) (pause : Pause) → for_grain pause ≡ false → KnowsPaused types s c work pause → HasNoWish may types c.unit s (Asks work pause) s
  other-wish work pause f k = record {
    looked = looks_self may s;
    here = λ heard alone going. no-lock (ends (run_seen s)) c.unit (lock_asked types (ends (run_seen s)) (got_in (run_seen s)) c.unit) (other-asks types s c work pause f k alone);
  }

  -- a unit that stands for no lock has no wish
  pub no_wish : (doing : Doing) → lock_of doing ≡ None → KnowsDoing types s c doing → HasNoWish may types c.unit s doing s
  no_wish (Asks work (NeedGrain g mode)) e k = absurd (true≢false (ap is_some e))
  no_wish (Asks work (NeedUnit call depth)) e k = other-wish work (NeedUnit call depth) refl k
  no_wish (Asks work (Done outcome)) e k = other-wish work (Done outcome) refl k
  no_wish (Awaits work child) e k = record {
    looked = looks_self may s;
    here = λ heard alone going. no-lock (ends (run_seen s)) c.unit (lock_asked types (ends (run_seen s)) (got_in (run_seen s)) c.unit) (awaits-asks types s c work child k heard alone);
  }
  no_wish (Frees held) e k = record {
    looked = looks_self may s;
    here = λ heard alone going. idle-waits (ends (run_seen s)) c.unit (lock_asked types (ends (run_seen s)) (got_in (run_seen s)) c.unit) (over-idle ((ends (run_seen s)).units.phase c.unit) (k alone).over);
  }
  no_wish Stopped e k = record {
    looked = looks_self may s;
    here = λ heard alone going. absurd ((k alone).stopped going);
  }

-- what is nothing that it could be is none
pub no_lock : (doing : Doing) → ((x : GrainId × Mode) → lock_of doing ≡ Some x → ⊥) → lock_of doing ≡ None
no_lock doing n = by (lock_of doing) n
  where
    by : (o : Option (GrainId × Mode)) → ((x : GrainId × Mode) → o ≡ Some x → ⊥) → o ≡ None
    by None n = refl
    by (Some x) n = absurd (n x refl)

-- ---- a lock for which the script stands

-- then it asks
asks-lock : (doing : Doing) (g : GrainId) (mode : Mode) → lock_of doing ≡ Some (g, mode) → (work : Work) × (doing ≡ Asks work (NeedGrain g mode))
asks-lock (Asks work (NeedGrain h m)) g mode e = (work, ap (λ (z : GrainId × Mode). Asks work (NeedGrain z.0 z.1)) (some_is (h, m) (g, mode) e))
asks-lock (Asks work (NeedUnit call depth)) g mode e = absurd (true≢false (sym (ap is_some e)))
asks-lock (Asks work (Done outcome)) g mode e = absurd (true≢false (sym (ap is_some e)))
asks-lock (Awaits work child) g mode e = absurd (true≢false (sym (ap is_some e)))
asks-lock (Frees held) g mode e = absurd (true≢false (sym (ap is_some e)))
asks-lock Stopped g mode e = absurd (true≢false (sym (ap is_some e)))

-- an answer that the grain isn't in memory
is-absent : (a : AskAnswer) → is_absent a ≡ true → a ≡ answer.Absent
is-absent answer.Absent e = refl
is-absent answer.Free e = absurd (true≢false (sym e))
is-absent answer.NotActive e = absurd (true≢false (sym e))
is-absent (answer.Doomed source) e = absurd (true≢false (sym e))
is-absent answer.Held e = absurd (true≢false (sym e))
is-absent (answer.MustDie holder) e = absurd (true≢false (sym e))
is-absent (answer.MustWait holder) e = absurd (true≢false (sym e))

-- a wish that wasn't done didn't apply
not-done : (w : CoreState) (u : UnitNo) (g : GrainId) (y : CoreReply) → y ≡ reply_to w (event.Want u g) → false ≡ is_done y → y ≡ reply.Unapplied
not-done w u g y q f = by (applies w (event.Want u g)) q
  where
    by : (b : Bool) → y ≡ (if b then reply.Done else reply.Unapplied) → y ≡ reply.Unapplied
    by true e = absurd (true≢false (sym (f ∙ ap is_done e)))
    by false e = e

module _ (may : CoreEvent → Bool) (types : ProgramTree) (s t : Sight) (c : Carried) (g : GrainId) (mode : Mode) (counts : Counts s) (l : Looks may s t) (doing : Doing) (is : lock_of doing ≡ Some (g, mode)) (k : KnowsDoing types s c doing) where
  -- what is known where it asks
  paused : KnowsPaused types s c (asks-lock doing g mode is).0 (NeedGrain g mode)
  paused = subst (KnowsDoing types s c) (asks-lock doing g mode is).1 k

  -- also behind the look
  there : KnowsPaused types t c (asks-lock doing g mode is).0 (NeedGrain g mode)
  there = paused-looks types s c (asks-lock doing g mode is).0 counts may t (NeedGrain g mode) l paused

  -- the lock, wherever the unit stands so
  asked-in : (r : Run) → IsPaused types r c (asks-lock doing g mode is).0 there.trail → lock_asked types (ends r) (got_in r) c.unit ≡ Some (g, mode)
  asked-in r p = lock-asked types r c (asks-lock doing g mode is).0 there.trail _ there.at_work p g mode there.ready.asks_for

  -- so it is behind the look
  pub asked-here : IfAlone (leaves_unit c.unit) t (λ r. lock_asked types (ends r) (got_in r) c.unit ≡ Some (g, mode))
  asked-here alone = asked-in (run_seen t) (there.linked alone)

  -- the grain is in memory, or the lock can't be had
  pub shown_here : (a : AskAnswer) → a ≡ ask_answer (ends (run_seen t)) c.unit g mode → (b : Bool) → b ≡ is_absent a → b ≡ false → HasNoWish may types c.unit s doing t
  shown_here a asked b q f = record {
    looked = l;
    here = λ heard alone going. ap (waits_for_load (ends (run_seen t)) c.unit) (asked-in (run_seen t) (there.linked alone)) ∙ ap is_absent (sym asked) ∙ sym q ∙ f;
  }

  module _ (v : Sight) (y : CoreReply) (told : Tells may t (event.Want c.unit g) y v) where
    -- the wish was put
    wish-puts : ask_answer (ends (run_seen t)) c.unit g mode ≡ answer.Absent → PutsWish may types c.unit s y v
    wish-puts absent = record {
      seen = t;
      grain = g;
      waits = record {
        looked = l;
        mode = mode;
        wants = λ alone. asked-in (run_seen t) (there.linked alone);
        asked = absent;
      };
      told = told;
      due = λ alone b q a. (
        mode,
        subst (λ (T : ProgramTree). lock_asked T (ends (run_seen (saw t told.rest))) (got_in (run_seen (saw t told.rest))) c.unit ≡ Some (g, mode)) (sym q)
            (asked-in (run_seen (saw t told.rest)) (paused-there types t c (asks-lock doing g mode is).0 (looks-counts may s t l counts) (NeedGrain g mode) told.rest there alone)),
      );
    }

    -- what the answer says
    says-by : (done : Bool) → done ≡ is_done y → ask_answer (ends (run_seen t)) c.unit g mode ≡ answer.Absent → WishSays may types c.unit doing s v done
    says-by true q absent = subst (λ (x : CoreReply). PutsWish may types c.unit s x v) (was-done y q) (wish-puts absent)
    says-by false q absent = inr (subst (λ (x : CoreReply). PutsWish may types c.unit s x v) (not-done (ends (run_seen (saw t told.rest))) c.unit g y told.reply q) (wish-puts absent))

    pub wish_says : (done : Bool) → done ≡ is_done y → (a : AskAnswer) → a ≡ ask_answer (ends (run_seen t)) c.unit g mode → (b : Bool) → b ≡ is_absent a → b ≡ true → WishSays may types c.unit doing s v done
    wish_says done q a asked b absent f = says-by done q (sym asked ∙ is-absent a (sym absent ∙ f))

    -- and what is known then
    pub wish_known : KnowsDoing types v c doing
    wish_known = subst (KnowsDoing types v c) (sym (asks-lock doing g mode is).1)
        (wish-paused may types t v c (asks-lock doing g mode is).0 (NeedGrain g mode) g y told (looks-counts may s t l counts) there)

-- ---- what a wish leaves

-- the answer is of a wish
pub says-wishes : (may : CoreEvent → Bool) (types : ProgramTree) (u : UnitNo) (doing : Doing) (s t : Sight) (done : Bool) → WishSays may types u doing s t done → Wishes may types u s t
says-wishes may types u doing s t true p = inr (reply.Done, p)
says-wishes may types u doing s t false (inl n) = inl n.looked
says-wishes may types u doing s t false (inr p) = inr (reply.Unapplied, p)

module _ (may : CoreEvent → Bool) (types : ProgramTree) (u : UnitNo) (s t : Sight) (r : CoreReply) (p : PutsWish may types u s r t) where
  -- the look before it and the wish as one
  abbrev told-of : Tells may s (event.Want u p.grain) r t
  told-of = tells-on may s p.seen t p.waits.looked (event.Want u p.grain) r p.told

  -- it is due there
  due-of : IfAlone (leaves_unit u) (saw s told-of.rest) (λ x. IsDueFor types x (event.Want u p.grain))
  due-of = subst (λ (x : Sight). IfAlone (leaves_unit u) x (λ z. IsDueFor types z (event.Want u p.grain))) (saw-on may s p.seen t p.waits.looked p.told.rest) p.due

-- one's own entries stay counted
pub wishes-counts : (may : CoreEvent → Bool) (types : ProgramTree) (u : UnitNo) (s t : Sight) → Wishes may types u s t → Counts s → Counts t
wishes-counts may types u s t (inl l) n = looks-counts may s t l n
wishes-counts may types u s t (inr (r, p)) n = tells-counts may s t (event.Want u p.grain) r (told-of may types u s t r p) n

-- a unit that began here did
pub wishes-began : (may : CoreEvent → Bool) (types : ProgramTree) (u v : UnitNo) (s t : Sight) → Wishes may types u s t → BeganHere v s → BeganHere v t
wishes-began may types u v s t (inl l) b = subst (BeganHere v) (sym l.sight) b
wishes-began may types u v s t (inr (r, p)) b =
    subst (BeganHere v) (sym (told-of may types u s t r p).sight) (b.0, in_left b.0 s.mine (entry s.number (event.Want u p.grain) r ∷ []) b.1, b.2)

-- what other agents know they know
pub knows-wishes : (may : CoreEvent → Bool) (types : ProgramTree) (c : Carried) (doing : Doing) (other : UnitNo) (s t : Sight) → Wishes may types other s t → (c.unit ≡ other → ⊥) → Counts s → KnowsDoing types s c doing → KnowsDoing types t c doing
knows-wishes may types c doing other s t (inl l) apart n k = knows-looks may types c doing s t l n k
knows-wishes may types c doing other s t (inr (r, p)) apart n k =
    knows-tells may types c doing s t (event.Want other p.grain) r (told-of may types other s t r p)
    (is-harmless c.unit (event.Want other p.grain) (same_unit-not other c.unit (λ q. apart (sym q)))) n k

-- the promise is kept
pub wishes-promise : (may : CoreEvent → Bool) (b : Basis) (u : UnitNo) (s t : Sight) → Wishes may b.types u s t → BeganHere u s → KeepsPromise b s → KeepsPromise b t
wishes-promise may b u s t (inl l) began keeps = looks-promise b may s t l keeps
wishes-promise may b u s t (inr (r, p)) began keeps =
    tells-promise b may s t (event.Want u p.grain) r (told-of may b.types u s t r p)
    (λ w own. subst (λ (z : UnitNo). BeganHere z s) (same_unit-true u w own) began)
    (λ alone. due-of may b.types u s t r p (alone u (same_unit-is u u refl)) b refl) keeps

-- ---- nobody else puts

-- one stays alone
pub wishes-alone : (types : ProgramTree) (u v : UnitNo) (s t : Sight) → Wishes none_comes types u s t → IsAlone (leaves_unit v) s → IsAlone (leaves_unit v) t
wishes-alone types u v s t (inl l) a = subst (IsAlone (leaves_unit v)) (sym (looks-alone s t l)) a
wishes-alone types u v s t (inr (r, p)) a =
    subst (IsAlone (leaves_unit v)) (sym (tells-alone s t (event.Want u p.grain) r (told-of none_comes types u s t r p))) (told-stays (leaves_unit v) s (event.Want u p.grain) r a)

-- and the run keeps the unit rule
pub wishes-rule : (b : Basis) (u : UnitNo) (s t : Sight) → Wishes none_comes b.types u s t → IsAlone (leaves_unit u) s → KeepsUnitRule b (run_seen s) → KeepsUnitRule b (run_seen t)
wishes-rule b u s t (inl l) alone keeps = subst (λ (x : Sight). KeepsUnitRule b (run_seen x)) (sym (looks-alone s t l)) keeps
wishes-rule b u s t (inr (r, p)) alone keeps =
    let told = told-of none_comes b.types u s t r p in
    let same : saw s told.rest ≡ s = looks-alone s (saw s told.rest) (record { rest = told.rest; others = told.others; sight = refl }) in
    subst (KeepsUnitRule b) (sym (run-alone s t (event.Want u p.grain) r told))
    (unit-grows b (run_seen s) (event.Want u p.grain) keeps
    (subst (λ (x : Sight). IfAlone (leaves_unit u) x (λ z. IsDueFor b.types z (event.Want u p.grain))) same (due-of none_comes b.types u s t r p) alone b refl))

module _ (types : ProgramTree) (u : UnitNo) (s t : Sight) (r : CoreReply) (p : PutsWish none_comes types u s r t) (alone : IsAlone (leaves_unit u) s) where
  -- what was seen before the wish is what was seen
  same : p.seen ≡ s
  same = looks-alone s p.seen p.waits.looked

  -- the lock that was asked for
  lock-here : lock_asked types (ends (run_seen s)) (got_in (run_seen s)) u ≡ Some (p.grain, p.waits.mode)
  lock-here = subst (λ (x : Sight). IfAlone (leaves_unit u) x (λ z. lock_asked types (ends z) (got_in z) u ≡ Some (p.grain, p.waits.mode))) same p.waits.wants alone

  -- and its answer
  absent-here : ask_answer (ends (run_seen s)) u p.grain p.waits.mode ≡ answer.Absent
  absent-here = subst (λ (x : Sight). ask_answer (ends (run_seen x)) u p.grain p.waits.mode ≡ answer.Absent) same p.waits.asked

  reply-here : r ≡ reply_to (ends (run_seen s)) (event.Want u p.grain)
  reply-here = reply-alone s t (event.Want u p.grain) r (told-of none_comes types u s t r p)

-- what a reply tells of whether the wish applied
done-applied : (w : CoreState) (u : UnitNo) (g : GrainId) → reply.Done ≡ reply_to w (event.Want u g) → applies w (event.Want u g) ≡ true
done-applied w u g q = by (applies w (event.Want u g)) q
  where
    by : (b : Bool) → reply.Done ≡ (if b then reply.Done else reply.Unapplied) → b ≡ true
    by true e = refl
    by false e = absurd (true≢false (ap is_done e))

unapplied-not : (w : CoreState) (u : UnitNo) (g : GrainId) → reply.Unapplied ≡ reply_to w (event.Want u g) → applies w (event.Want u g) ≡ false
unapplied-not w u g q = by (applies w (event.Want u g)) q
  where
    by : (b : Bool) → reply.Unapplied ≡ (if b then reply.Done else reply.Unapplied) → b ≡ false
    by true e = absurd (true≢false (sym (ap is_done e)))
    by false e = refl

-- a wish that was done
pub alone-wishes : (types : ProgramTree) (u : UnitNo) (doing : Doing) (s t : Sight) → WishSays none_comes types u doing s t true → IsAlone (leaves_unit u) s → GoesByWish types u (run_seen s) (run_seen t)
alone-wishes types u doing s t p alone = record {
  grain = p.grain;
  mode = p.waits.mode;
  asked = lock-here types u s t reply.Done p alone;
  waits = ap (waits_for_load (ends (run_seen s)) u) (lock-here types u s t reply.Done p alone) ∙ ap is_absent (absent-here types u s t reply.Done p alone);
  applied = done-applied (ends (run_seen s)) u p.grain (reply-here types u s t reply.Done p alone);
  run = run-alone s t (event.Want u p.grain) reply.Done (told-of none_comes types u s t reply.Done p);
}

-- ---- a wish that wasn't done

-- no grain is the first of some
first-none : (gs : List GrainId) (g : GrainId) → first_grain gs ≡ None → Member g gs → ⊥
first-none [] g e m = absurd m
first-none (x ∷ xs) g e m = by (first_grain xs) e
  where
    by : (o : Option GrainId) → first_of_two x o ≡ None → ⊥
    by None q = true≢false (ap is_some q)
    by (Some k) q = true≢false (ap is_some q)

-- a grain that is wanted is among those that are
wanted-member : (wants : List (UnitNo × GrainId)) (x : UnitNo × GrainId) → Member x wants → Member x.1 (map (λ (z : UnitNo × GrainId). z.1) wants)
wanted-member [] x m = absurd m
wanted-member (y ∷ ys) x (inl q) = inl (ap (λ (z : UnitNo × GrainId). z.1) q)
wanted-member (y ∷ ys) x (inr m) = inr (wanted-member ys x m)

-- where each wanted grain is in memory, who waits for one doesn't want it yet
unwanted : (w : CoreState) (u : UnitNo) (g : GrainId) → next_wanted w ≡ None → w.cells.here g ≡ false → any (λ (x : UnitNo × GrainId). same_unit x.0 u && same_grain x.1 g) w.units.wants ≡ false
unwanted w u g none gone = elim (cases_Bool (any (λ (x : UnitNo × GrainId). same_unit x.0 u && same_grain x.1 g) w.units.wants)) [
  | inr e ↦ e
  | inl e ↦ (
      let x = any-true (λ (x : UnitNo × GrainId). same_unit x.0 u && same_grain x.1 g) w.units.wants e in
      let is : x.0.1 ≡ g = same_grain-true x.0.1 g (and_parts (same_unit x.0.0 u) (same_grain x.0.1 g) x.2).1 in
      absurd (first-none (filter (λ (k : GrainId). not (w.cells.here k)) (map (λ (z : UnitNo × GrainId). z.1) w.units.wants)) x.0.1 none
      (filter-stays (λ (k : GrainId). not (w.cells.here k)) (map (λ (z : UnitNo × GrainId). z.1) w.units.wants) x.0.1 (wanted-member w.units.wants x.0 x.1)
      (ap (λ (k : GrainId). not (w.cells.here k)) is ∙ ap not gone))))
]

-- nobody has a lock of a grain that isn't in memory
unheld : (w : CoreState) (u : UnitNo) (g : GrainId) → HeldAreHere w → w.cells.here g ≡ false → holds_lock u (w.cells.holds g) ≡ false
unheld w u g here gone = elim (cases_Bool (holds_lock u (w.cells.holds g))) [
  | inr e ↦ e
  | inl e ↦ (let h = any-true (is_hold_of u) (w.cells.holds g) e in absurd (true≢false (sym (here g h.0 h.1) ∙ gone)))
]

-- so its wish applies, where there is no doubt and no stop
wish-applies : (r : Run) (u : UnitNo) (g : GrainId) (mode : Mode) → IsGoing (ends r) → next_wanted (ends r) ≡ None → ask_answer (ends r) u g mode ≡ answer.Absent → applies (ends r) (event.Want u g) ≡ true
wish-applies r u g mode going none absent =
    let locks = subst (AskedLocks (ends r) u g mode) absent (asked-locks (ends r) u g mode) in
    going-applies (ends r) (event.Want u g) going
    (and_from (is_active (ends r) u g) _ active
    (and_from (not (holds_lock u ((ends r).cells.holds g))) _ (ap not (unheld (ends r) u g (here-ends r) locks.2)) (ap not (unwanted (ends r) u g none locks.2))))
  where
    active : is_active (ends r) u g ≡ true
    active = by (is_active (ends r) u g) absent
      where
        by : (b : Bool) → (if b then ask_doom (doomed_by (ends r) u) (ask_lock ((ends r).cells.here g) (locks.ask ((ends r).cells.holds g) u mode)) else answer.NotActive) ≡ answer.Absent → b ≡ true
        by true e = refl
        by false e = absurd (true≢false (sym (ap is_absent e)))

-- who has no wish waits for no grain
pub alone-rests : (types : ProgramTree) (u : UnitNo) (doing : Doing) (s t : Sight) → WishSays none_comes types u doing s t false → IsAlone (leaves_unit u) s
    → IsGoing (ends (run_seen s)) → next_wanted (ends (run_seen s)) ≡ None → Hears s doing
    → (t ≡ s) × (waits_for_load (ends (run_seen s)) u (lock_asked types (ends (run_seen s)) (got_in (run_seen s)) u) ≡ false)
alone-rests types u doing s t (inl n) alone going none heard =
    let same : t ≡ s = looks-alone s t n.looked in
    (same, subst (λ (x : Sight). Hears x doing → IfAlone (leaves_unit u) x (λ z. IsGoing (ends z) → waits_for_load (ends z) u (lock_asked types (ends z) (got_in z) u) ≡ false)) same n.here heard alone going)
alone-rests types u doing s t (inr p) alone going none heard =
    absurd (true≢false (sym (wish-applies (run_seen s) u p.grain p.waits.mode going none (absent-here types u s t reply.Unapplied p alone))
    ∙ unapplied-not (ends (run_seen s)) u p.grain (reply-here types u s t reply.Unapplied p alone)))
