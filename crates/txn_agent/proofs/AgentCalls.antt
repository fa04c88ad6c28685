-- What each call of an agent leaves, as its access tells it.
use Rattle.std.proofs.Common.{◌≡◌, ◌<◌, ℕ, ◌+◌, length, List, Bool, true, false, true≢false, inl, inr, refl, sym, ap, ◌∙◌, subst, arith}
use Rattle.std.specs.Prelude.{◌||◌, is_none, is_some, not}
use Rattle.std.proofs.lemmas.Bool.{and_from}
use Rattle.base_types.specs.declared.calls.Mode.{Mode}
use Rattle.base_types.specs.declared.calls.Origin.TheVariants.{Child}
use Rattle.base_types.specs.declared.calls.Outcome.{Outcome}
use Rattle.core_model.specs.CoreState.{UnitNo, GrainId, Call, Value, CoreState}
use Rattle.core_model.specs.declared.effects.Effect.{Effect}
use Rattle.core_model.specs.declared.events.CoreEvent.{CoreEvent}
use Rattle.core_model.specs.declared.events.CoreEvent.TheVariants.{Begin, Grant, Refuse, Finish, EndPlain}
use Rattle.core_model.specs.declared.events.CoreReply.{CoreReply}
use Rattle.core_model.specs.declared.events.CoreReply.TheVariants as reply
use Rattle.core_model.specs.declared.questions.AskAnswer.TheVariants as answer
use Rattle.core_model.specs.Changes.{refusal}
use Rattle.core_model.specs.Events.{applies, can, is_after_doubt, is_after_halt, is_allowed, is_free_answer}
use Rattle.core_model.specs.Tests.{ask_answer}
use Rattle.core_model.specs.LegalRuns.{Run, ends}
use Rattle.script_tree.specs.Programs.{ProgramTree}
use Rattle.script_holding.specs.Limits.{unit_limit}
use Rattle.script_meaning.specs.Play.{asks}
use Rattle.script_meaning.specs.Trails.{Given, answers_of}
use Rattle.script_machine.specs.declared.machine.Machine.{Machine}
use Rattle.script_machine.specs.declared.machine.Pause.{Pause}
use Rattle.script_machine.specs.declared.machine.Pause.TheVariants.{NeedGrain, NeedUnit, Done}
use Rattle.script_machine.specs.Machines.{FollowsTrail, has_begun, rest}
use Rattle.base_types.specs.Origins.{depth_of}
use Rattle.turn_rules.specs.NextEvent.{with_event}
use Rattle.worker_rules.specs.SharedHistories.{Told}
use Rattle.worker_rules.specs.UnitOwnership.{leaves_unit}
use Rattle.core_access.specs.Sights.{Sight, run_seen, saw, Looks, Tells, Counts}
use Rattle.core_access.proofs.Sights.{looks-none}
use Rattle.core_access.proofs.Knowledge.{saw-knows, looks-knows, tells-knows}
use Rattle.txn_agent.specs.declared.work.Carried.{Carried}
use Rattle.txn_agent.specs.declared.work.Work.{Work}
use Rattle.txn_agent.specs.declared.agent.Advanced.TheVariants as came
use Rattle.txn_agent.specs.MachineState.{IsEffectOf}
use Rattle.txn_agent.specs.Replies.{end_event, is_done}
use Rattle.txn_agent.specs.CoreLink.{IfOwn, IsPaused, IsWaiting, IsOver, IsBarred, KnowsPaused, KnowsWaiting}
use Rattle.txn_agent.specs.AgentStep.{Acts, AnswerSays, Puts}
use Rattle.txn_agent.proofs.Trails.{missing-unit, next-own, unit-wants}
use Rattle.txn_agent.proofs.CoreGrowth.{going-back}
use Rattle.txn_agent.proofs.OthersEvents.{ends-as, paused-on, waiting-on, over-on, stopped-on, paused-as}
use Rattle.txn_agent.proofs.ChildBegins.{began-waiting}
use Rattle.txn_agent.proofs.UnitEnds.{is_began, is_granted, missed, over-refused, over-finished, over-ended}
use Rattle.txn_agent.proofs.DueEvents.{due-grant, due-refuse, due-begin, due-finished, due-ended, can-begin, can-finished, can-ended}

-- ---- what is known, as more is seen

module _ (types : ProgramTree) (s : Sight) (c : Carried) (work : Work) (counts : Counts s) where
  -- where the script asks, behind what others put
  pub paused-there : (pause : Pause) (rest : List Told) (k : KnowsPaused types s c work pause) → IfOwn c (saw s rest) (λ r. IsPaused types r c work k.trail)
  paused-there pause rest k = saw-knows (leaves_unit c.unit) (λ r. IsPaused types r c work k.trail) (λ r e h p. paused-on types r e c h work k.trail p) s rest counts k.linked

  -- behind a look
  abbrev pub paused-looks : (may : CoreEvent → Bool) (t : Sight) (pause : Pause) → Looks may s t → KnowsPaused types s c work pause → KnowsPaused types t c work pause
  paused-looks may t pause l k = record {
    trail = k.trail;
    at_work = k.at_work;
    ready = k.ready;
    linked = looks-knows (leaves_unit c.unit) (λ r. IsPaused types r c work k.trail) (λ r e h p. paused-on types r e c h work k.trail p) may s t l counts k.linked;
  }

  -- where it waits for the unit's child
  abbrev pub waiting-looks : (may : CoreEvent → Bool) (t : Sight) (child : UnitNo) → Looks may s t → KnowsWaiting types s c work child → KnowsWaiting types t c work child
  waiting-looks may t child l k = record {
    trail = k.trail;
    call = k.call;
    depth = k.depth;
    at_work = k.at_work;
    asks_for = k.asks_for;
    linked = looks-knows (leaves_unit c.unit) (λ r. IsWaiting types r c work k.trail child k.call k.depth) (λ r e h p. waiting-on types r e c h work k.trail child k.call k.depth p) may s t l counts k.linked;
  }

module _ (types : ProgramTree) (s : Sight) (c : Carried) (counts : Counts s) where
  -- where the unit is over
  pub over-looks : (may : CoreEvent → Bool) (t : Sight) (held : List GrainId) → Looks may s t → IfOwn c s (λ r. IsOver r c held) → IfOwn c t (λ r. IsOver r c held)
  over-looks may t held l k = looks-knows (leaves_unit c.unit) (λ r. IsOver r c held) (λ r e h p. over-on types r e c h held p) may s t l counts k

  pub over-there : (held : List GrainId) (rest : List Told) → IfOwn c s (λ r. IsOver r c held) → IfOwn c (saw s rest) (λ r. IsOver r c held)
  over-there held rest k = saw-knows (leaves_unit c.unit) (λ r. IsOver r c held) (λ r e h p. over-on types r e c h held p) s rest counts k

  -- where it was stopped
  pub stopped-looks : (may : CoreEvent → Bool) (t : Sight) → Looks may s t → IfOwn c s (λ r. IsBarred r c) → IfOwn c t (λ r. IsBarred r c)
  stopped-looks may t l k = looks-knows (leaves_unit c.unit) (λ r. IsBarred r c) (λ r e h p. stopped-on types r e c h p) may s t l counts k

-- few units were begun
pub few_kids : (types : ProgramTree) (s : Sight) (c : Carried) (work : Work) (call : Call) (depth : ℕ) → KnowsPaused types s c work (NeedUnit call depth) → work.kids < unit_limit
few_kids types s c work call depth k =
    let n = missing-unit types work.call (depth_of c.origin) k.trail k.at_work.follows.named call depth
    (next-own types work.call (depth_of c.origin) work.machine k.trail k.at_work.follows ∙ unit-wants (asks (rest types work.machine)) call depth k.ready.asks_for) in
    let m = k.at_work.kids in
    omega (arith, n, m)

-- ---- a call that puts an event

-- an end that is possible and doesn't apply comes after a doubt or a stop
stopped-by : (types : ProgramTree) (r : Run) (c : Carried) (work : Work) (trail : List Given) (e : CoreEvent) → IsPaused types r c work trail →
    can (ends r) e ≡ true → applies (ends r) e ≡ false → IsBarred (with_event r e) c
stopped-by types r c work trail e p possible a = record {
  above = p.linked.above;
  running = ap (λ (w : CoreState). w.units.phase c.unit) (ends-as r e a) ∙ p.given.running;
  stopped = λ going. (let g = going-back r e going in
      absurd (true≢false (sym (and_from (is_allowed (ends r) e) (can (ends r) e)
      (and_from (is_none (ends r).manager.doubt || is_after_doubt e) (not (ends r).units.halt || is_after_halt e)
      (ap (λ o. is_none o || is_after_doubt e) g.0) (ap (λ b. not b || is_after_halt e) g.1)) possible) ∙ a)));
}

module _ (may : CoreEvent → Bool) (types : ProgramTree) (s t : Sight) (c : Carried) (work : Work) (counts : Counts s) where
  -- where it didn't apply, what is known stays
  paused-missed : (pause : Pause) (e : CoreEvent) (y : CoreReply) (l : Tells may s e y t) → applies (ends (run_seen (saw s l.rest))) e ≡ false →
      KnowsPaused types s c work pause → KnowsPaused types t c work pause
  paused-missed pause e y l a k = record {
    trail = k.trail;
    at_work = k.at_work;
    ready = k.ready;
    linked = tells-knows (leaves_unit c.unit) (λ r. IsPaused types r c work k.trail) (λ r e h p. paused-on types r e c h work k.trail p) (λ r. IsPaused types r c work k.trail)
        may s t e y l counts (λ p. paused-as types (run_seen (saw s l.rest)) e c a work k.trail p) k.linked;
  }

  module _ (g : GrainId) (mode : Mode) (y : CoreReply) (k : KnowsPaused types s c work (NeedGrain g mode)) where
    -- a grant
    abbrev pub grant_puts : Tells may s (Grant c.unit g mode) y t → Puts may types c.unit s (Grant c.unit g mode) y t
    grant_puts l = record {
      told = l;
      own = refl;
      due = λ alone. due-grant types (run_seen (saw s l.rest)) c work k.trail _ k.at_work (paused-there types s c work counts (NeedGrain g mode) l.rest k alone) g mode k.ready.asks_for;
    }

    pub grant_acts : Tells may s (Grant c.unit g mode) y t → Acts may types c.unit s t
    grant_acts l = inr (Grant c.unit g mode, (y, grant_puts l))

    pub grant_happened : Tells may s (Grant c.unit g mode) y t → (state : List Value) (source : UnitNo) → y ≡ reply.Granted state source → (kids : ℕ) → AnswerSays may types c.unit kids s t (came.Granted g source)
    grant_happened l state source is kids = (mode, (state, subst (λ (x : CoreReply). Puts may types c.unit s (Grant c.unit g mode) x t) is (grant_puts l)))

    grant_missed : (l : Tells may s (Grant c.unit g mode) y t) → is_granted y ≡ false → applies (ends (run_seen (saw s l.rest))) (Grant c.unit g mode) ≡ false
    grant_missed l f = missed (ends (run_seen (saw s l.rest))) (Grant c.unit g mode) y is_granted refl l.reply f

    pub grant_stays : Tells may s (Grant c.unit g mode) y t → is_granted y ≡ false → KnowsPaused types t c work (NeedGrain g mode)
    grant_stays l f = paused-missed (NeedGrain g mode) (Grant c.unit g mode) y l (grant_missed l f) k

    pub grant_moves : Tells may s (Grant c.unit g mode) y t → is_granted y ≡ false → ask_answer (ends (run_seen s)) c.unit g mode ≡ answer.Free → (kids : ℕ) → AnswerSays may types c.unit kids s t came.Moved
    grant_moves l f free kids = inr (inl record {
      seen = s;
      before = looks-none may s;
      e = Grant c.unit g mode;
      r = y;
      put = grant_puts l;
      shown = λ alone. ap is_free_answer free;
      missed = grant_missed l f;
    })

    -- a refusal
    abbrev pub refuse_puts : Tells may s (Refuse c.unit g mode) y t → Puts may types c.unit s (Refuse c.unit g mode) y t
    refuse_puts l = record {
      told = l;
      own = refl;
      due = λ alone. due-refuse types (run_seen (saw s l.rest)) c work k.trail _ k.at_work (paused-there types s c work counts (NeedGrain g mode) l.rest k alone) g mode k.ready.asks_for;
    }

    pub refuse_done : Tells may s (Refuse c.unit g mode) y t → y ≡ reply.Done → (kids : ℕ) → AnswerSays may types c.unit kids s t came.Moved
    refuse_done l is kids = inl (Refuse c.unit g mode, subst (λ (x : CoreReply). Puts may types c.unit s (Refuse c.unit g mode) x t) is (refuse_puts l))

    refuse_missed : (l : Tells may s (Refuse c.unit g mode) y t) → is_done y ≡ false → applies (ends (run_seen (saw s l.rest))) (Refuse c.unit g mode) ≡ false
    refuse_missed l f = missed (ends (run_seen (saw s l.rest))) (Refuse c.unit g mode) y is_done refl l.reply f

    pub refuse_stays : Tells may s (Refuse c.unit g mode) y t → is_done y ≡ false → KnowsPaused types t c work (NeedGrain g mode)
    refuse_stays l f = paused-missed (NeedGrain g mode) (Refuse c.unit g mode) y l (refuse_missed l f) k

    pub refuse_moves : Tells may s (Refuse c.unit g mode) y t → is_done y ≡ false → is_some (refusal g (ask_answer (ends (run_seen s)) c.unit g mode)) ≡ true → (kids : ℕ) → AnswerSays may types c.unit kids s t came.Moved
    refuse_moves l f barred kids = inr (inl record {
      seen = s;
      before = looks-none may s;
      e = Refuse c.unit g mode;
      r = y;
      put = refuse_puts l;
      shown = λ alone. barred;
      missed = refuse_missed l f;
    })

    pub refuse_over : Tells may s (Refuse c.unit g mode) y t → y ≡ reply.Done → IfOwn c t (λ r. IsOver r c work.held)
    refuse_over l is = tells-knows (leaves_unit c.unit) (λ r. IsPaused types r c work k.trail) (λ r e h p. paused-on types r e c h work k.trail p) (λ r. IsOver r c work.held)
        may s t (Refuse c.unit g mode) y l counts (λ p. over-refused types (run_seen (saw s l.rest)) c work k.trail p work.held k.at_work.held g mode (sym is ∙ l.reply)) k.linked

  module _ (call : Call) (depth : ℕ) (y : CoreReply) (k : KnowsPaused types s c work (NeedUnit call depth)) where
    -- a child
    abbrev pub begin_puts : Tells may s (Begin (Child c.unit work.kids depth) call false) y t → Puts may types c.unit s (Begin (Child c.unit work.kids depth) call false) y t
    begin_puts l = record {
      told = l;
      own = refl;
      due = λ alone. due-begin types (run_seen (saw s l.rest)) c work k.trail _ k.at_work (paused-there types s c work counts (NeedUnit call depth) l.rest k alone) call depth work.kids k.ready.asks_for;
    }

    pub begin_happened : Tells may s (Begin (Child c.unit work.kids depth) call false) y t → (child : UnitNo) (asked : Call) → y ≡ reply.Began child → asked ≡ call → AnswerSays may types c.unit work.kids s t (came.Began child asked depth)
    begin_happened l child asked is same = subst (λ (x : Call). Puts may types c.unit s (Begin (Child c.unit work.kids depth) x false) (reply.Began child) t) (sym same)
        (subst (λ (x : CoreReply). Puts may types c.unit s (Begin (Child c.unit work.kids depth) call false) x t) is (begin_puts l))

    begin_missed : (l : Tells may s (Begin (Child c.unit work.kids depth) call false) y t) → is_began y ≡ false → applies (ends (run_seen (saw s l.rest))) (Begin (Child c.unit work.kids depth) call false) ≡ false
    begin_missed l f = missed (ends (run_seen (saw s l.rest))) (Begin (Child c.unit work.kids depth) call false) y is_began refl l.reply f

    pub begin_stays : Tells may s (Begin (Child c.unit work.kids depth) call false) y t → is_began y ≡ false → (asked : Call) → asked ≡ call → KnowsPaused types t c work (NeedUnit asked depth)
    begin_stays l f asked same = subst (λ (x : Call). KnowsPaused types t c work (NeedUnit x depth)) (sym same)
        (paused-missed (NeedUnit call depth) (Begin (Child c.unit work.kids depth) call false) y l (begin_missed l f) k)

    pub begin_moves : Tells may s (Begin (Child c.unit work.kids depth) call false) y t → is_began y ≡ false → AnswerSays may types c.unit work.kids s t came.Moved
    begin_moves l f = inr (inl record {
      seen = s;
      before = looks-none may s;
      e = Begin (Child c.unit work.kids depth) call false;
      r = y;
      put = begin_puts l;
      shown = λ alone. can-begin types (run_seen s) c work k.trail (length (answers_of k.trail)) k.at_work (k.linked alone) call depth refl;
      missed = begin_missed l f;
    })

    pub begin_known : (l : Tells may s (Begin (Child c.unit work.kids depth) call false) y t) (work' : Work) (child : UnitNo) → y ≡ reply.Began child → work'.call ≡ work.call → work'.machine ≡ work.machine → work'.held ≡ work.held → work'.sources ≡ work.sources → work'.kids ≡ work.kids + 1 →
        KnowsWaiting types t c work' child
    begin_known l work' child is same machine held sources kids = record {
      trail = k.trail;
      call = call;
      depth = depth;
      at_work = record {
        follows = subst (λ (x : Call). FollowsTrail types x (depth_of c.origin) work'.machine k.trail) (sym same) (subst (λ (m : Machine). FollowsTrail types work.call (depth_of c.origin) m k.trail) (sym machine) k.at_work.follows);
        started = ap has_begun machine ∙ k.at_work.started;
        held = held ∙ k.at_work.held;
        sources = ap length sources ∙ k.at_work.sources;
        kids = kids ∙ ap (λ (n : ℕ). n + 1) k.at_work.kids;
      };
      asks_for = ap (λ (m : Machine). asks (rest types m)) machine ∙ unit-wants (asks (rest types work.machine)) call depth k.ready.asks_for;
      linked = tells-knows (leaves_unit c.unit) (λ r. IsPaused types r c work k.trail) (λ r e h p. paused-on types r e c h work k.trail p) (λ r. IsWaiting types r c work' k.trail child call depth)
          may s t (Begin (Child c.unit work.kids depth) call false) y l counts
          (λ p. began-waiting types (run_seen (saw s l.rest)) c work work' k.trail call depth work.kids child p (sym is ∙ l.reply) same sources) k.linked;
    }

  module _ (outcome : Outcome) (effect : Effect) (y : CoreReply) (k : KnowsPaused types s c work (Done outcome)) (made : IsEffectOf types c work k.trail effect) where
    -- the end of a transaction
    abbrev pub finish_puts : Tells may s (Finish c.unit effect) y t → Puts may types c.unit s (Finish c.unit effect) y t
    finish_puts l = record {
      told = l;
      own = refl;
      due = λ alone. due-finished types (run_seen (saw s l.rest)) c work k.trail _ k.at_work (paused-there types s c work counts (Done outcome) l.rest k alone) effect made;
    }

    finish_done : Tells may s (Finish c.unit effect) y t → y ≡ reply.Done → (kids : ℕ) → AnswerSays may types c.unit kids s t came.Moved
    finish_done l is kids = inl (Finish c.unit effect, subst (λ (x : CoreReply). Puts may types c.unit s (Finish c.unit effect) x t) is (finish_puts l))

    finish_missed : (l : Tells may s (Finish c.unit effect) y t) → is_done y ≡ false → applies (ends (run_seen (saw s l.rest))) (Finish c.unit effect) ≡ false
    finish_missed l f = missed (ends (run_seen (saw s l.rest))) (Finish c.unit effect) y is_done refl l.reply f

    finish_moves : Tells may s (Finish c.unit effect) y t → is_done y ≡ false → c.plain ≡ false → (kids : ℕ) → AnswerSays may types c.unit kids s t came.Moved
    finish_moves l f kind kids = inr (inl record {
      seen = s;
      before = looks-none may s;
      e = Finish c.unit effect;
      r = y;
      put = finish_puts l;
      shown = λ alone. can-finished types (run_seen s) c work k.trail _ k.at_work (k.linked alone) effect made kind;
      missed = finish_missed l f;
    })

    finish_over : Tells may s (Finish c.unit effect) y t → y ≡ reply.Done → (held : List GrainId) → held ≡ work.held → IfOwn c t (λ r. IsOver r c held)
    finish_over l is held same = tells-knows (leaves_unit c.unit) (λ r. IsPaused types r c work k.trail) (λ r e h p. paused-on types r e c h work k.trail p) (λ r. IsOver r c held)
        may s t (Finish c.unit effect) y l counts (λ p. over-finished types (run_seen (saw s l.rest)) c work k.trail p held (same ∙ k.at_work.held) effect (sym is ∙ l.reply)) k.linked

    finish_stopped : Tells may s (Finish c.unit effect) y t → is_done y ≡ false → c.plain ≡ false → IfOwn c t (λ r. IsBarred r c)
    finish_stopped l f kind = tells-knows (leaves_unit c.unit) (λ r. IsPaused types r c work k.trail) (λ r e h p. paused-on types r e c h work k.trail p) (λ r. IsBarred r c)
        may s t (Finish c.unit effect) y l counts
        (λ p. stopped-by types (run_seen (saw s l.rest)) c work k.trail (Finish c.unit effect) p (can-finished types (run_seen (saw s l.rest)) c work k.trail _ k.at_work p effect made kind) (finish_missed l f)) k.linked

    -- the end of a plain run
    abbrev pub end_puts : Tells may s (EndPlain c.unit effect) y t → Puts may types c.unit s (EndPlain c.unit effect) y t
    end_puts l = record {
      told = l;
      own = refl;
      due = λ alone. due-ended types (run_seen (saw s l.rest)) c work k.trail _ k.at_work (paused-there types s c work counts (Done outcome) l.rest k alone) effect made;
    }

    end_done : Tells may s (EndPlain c.unit effect) y t → y ≡ reply.Done → (kids : ℕ) → AnswerSays may types c.unit kids s t came.Moved
    end_done l is kids = inl (EndPlain c.unit effect, subst (λ (x : CoreReply). Puts may types c.unit s (EndPlain c.unit effect) x t) is (end_puts l))

    end_missed : (l : Tells may s (EndPlain c.unit effect) y t) → is_done y ≡ false → applies (ends (run_seen (saw s l.rest))) (EndPlain c.unit effect) ≡ false
    end_missed l f = missed (ends (run_seen (saw s l.rest))) (EndPlain c.unit effect) y is_done refl l.reply f

    end_moves : Tells may s (EndPlain c.unit effect) y t → is_done y ≡ false → c.plain ≡ true → (kids : ℕ) → AnswerSays may types c.unit kids s t came.Moved
    end_moves l f kind kids = inr (inl record {
      seen = s;
      before = looks-none may s;
      e = EndPlain c.unit effect;
      r = y;
      put = end_puts l;
      shown = λ alone. can-ended types (run_seen s) c work k.trail _ k.at_work (k.linked alone) effect made kind;
      missed = end_missed l f;
    })

    end_over : Tells may s (EndPlain c.unit effect) y t → y ≡ reply.Done → (held : List GrainId) → held ≡ work.held → IfOwn c t (λ r. IsOver r c held)
    end_over l is held same = tells-knows (leaves_unit c.unit) (λ r. IsPaused types r c work k.trail) (λ r e h p. paused-on types r e c h work k.trail p) (λ r. IsOver r c held)
        may s t (EndPlain c.unit effect) y l counts (λ p. over-ended types (run_seen (saw s l.rest)) c work k.trail p held (same ∙ k.at_work.held) effect (sym is ∙ l.reply)) k.linked

    end_stopped : Tells may s (EndPlain c.unit effect) y t → is_done y ≡ false → c.plain ≡ true → IfOwn c t (λ r. IsBarred r c)
    end_stopped l f kind = tells-knows (leaves_unit c.unit) (λ r. IsPaused types r c work k.trail) (λ r e h p. paused-on types r e c h work k.trail p) (λ r. IsBarred r c)
        may s t (EndPlain c.unit effect) y l counts
        (λ p. stopped-by types (run_seen (saw s l.rest)) c work k.trail (EndPlain c.unit effect) p (can-ended types (run_seen (saw s l.rest)) c work k.trail _ k.at_work p effect made kind) (end_missed l f)) k.linked

    -- either end
    pub over_done : (plain : Bool) → Tells may s (end_event plain c.unit effect) y t → y ≡ reply.Done → (kids : ℕ) → AnswerSays may types c.unit kids s t came.Moved
    over_done true l = end_done l
    over_done false l = finish_done l

    pub over_moves : (plain : Bool) → c.plain ≡ plain → Tells may s (end_event plain c.unit effect) y t → is_done y ≡ false → (kids : ℕ) → AnswerSays may types c.unit kids s t came.Moved
    over_moves true kind l f = end_moves l f kind
    over_moves false kind l f = finish_moves l f kind

    pub over_frees : (plain : Bool) → Tells may s (end_event plain c.unit effect) y t → y ≡ reply.Done → (held : List GrainId) → held ≡ work.held → IfOwn c t (λ r. IsOver r c held)
    over_frees true l = end_over l
    over_frees false l = finish_over l

    pub over_stopped : (plain : Bool) → c.plain ≡ plain → Tells may s (end_event plain c.unit effect) y t → is_done y ≡ false → IfOwn c t (λ r. IsBarred r c)
    over_stopped true kind l f = end_stopped l f kind
    over_stopped false kind l f = finish_stopped l f kind
