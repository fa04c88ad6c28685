-- A look and then a step, what each answer says of it, and what a look shows of a lock that is asked for.
use Rattle.std.proofs.Common.{◌≡◌, inl, inr, ℕ, ◌<◌, length, List, Bool, true, false, true≢false, refl, sym, ap, ◌∙◌, subst, arith, Some, None}
use Rattle.std.specs.Prelude.{◌&&◌, ◌||◌, not, Result, Ok, Err, IfOk}
use Rattle.std.proofs.lemmas.Bool.{and_from, and_parts}
use Rattle.base_types.specs.declared.calls.Mode.{Mode}
use Rattle.base_types.specs.declared.calls.Mode.TheVariants.{Update}
use Rattle.cell_model.specs.Locks.{is_hold_of, is_update, covers}
use Rattle.cell_model.proofs.Units.{any-true, any-member}
use Rattle.core_model.specs.CoreState.{UnitNo, GrainId, Hold, Member}
use Rattle.core_model.specs.declared.events.CoreEvent.{CoreEvent}
use Rattle.core_model.specs.declared.events.CoreReply.{CoreReply}
use Rattle.core_model.specs.declared.questions.AskAnswer.{AskAnswer}
use Rattle.core_model.specs.declared.questions.AskAnswer.TheVariants as answer
use Rattle.core_model.specs.LockAnswers.{AskedLocks}
use Rattle.core_model.specs.Tests.{any, ask_answer, outcome_of}
use Rattle.core_model.specs.LegalRuns.{Run, ends}
use Rattle.core_laws.proofs.LockAnswers.{asked-locks}
use Rattle.script_tree.specs.Programs.{ProgramTree}
use Rattle.script_meaning.specs.Laws.{IsOfTypes}
use Rattle.script_meaning.specs.Play.{Want, asks, next}
use Rattle.script_meaning.specs.Trails.{Given, answers_of, locks_of}
use Rattle.script_meaning.proofs.AskedTypes.{next_is_of_types_lem}
use Rattle.script_machine.specs.declared.machine.Pause.TheVariants.{NeedGrain}
use Rattle.script_machine.specs.Machines.{pause_for, rest}
use Rattle.base_types.specs.Origins.{depth_of}
use Rattle.promise_spec.specs.UnitAnswers.{got_in, wanted_by, wanted_lock}
use Rattle.turn_rules.proofs.AgentLinks.{wants}
use Rattle.worker_rules.specs.UnitOwnership.{leaves_unit}
use Rattle.core_access.specs.Sights.{Sight, run_seen, Looks, Counts, IfAlone}
use Rattle.core_access.proofs.Sights.{looks-none, looks-on, tells-on, saw-on, looks-counts, tells-counts}
use Rattle.txn_agent.specs.declared.work.Carried.{Carried}
use Rattle.txn_agent.specs.declared.work.Work.{Work}
use Rattle.txn_agent.specs.declared.agent.Advanced.{Advanced}
use Rattle.txn_agent.specs.declared.agent.Advanced.TheVariants.{Moved, Granted, Began, Waits, WaitsLoad, WaitsFor, Ended}
use Rattle.txn_agent.specs.MachineState.{IsAtWork}
use Rattle.txn_agent.specs.CoreLink.{IfOwn, IsPaused, IsBarred, KnowsPaused, KnowsWaiting}
use Rattle.txn_agent.specs.AgentStep.{Acts, AnswerSays, IsDueFor, Misses, Puts}
use Rattle.txn_agent.proofs.Trails.{grain-wants, missing-lock, missing-raise, next-own}
use Rattle.txn_agent.proofs.CoreGrowth.{kinds-ends}
use Rattle.txn_agent.proofs.UnitEnds.{has-ended-stopped}
use Rattle.txn_agent.proofs.DueEvents.{next-is}
use Rattle.txn_agent.proofs.AgentCalls.{paused-looks}

-- ---- a look and then a step

module _ (may : CoreEvent → Bool) (types : ProgramTree) (u : UnitNo) (s t v : Sight) (l : Looks may s t) where
  -- an event that was put
  puts-on : (e : CoreEvent) (r : CoreReply) → Puts may types u t e r v → Puts may types u s e r v
  puts-on e r p = record {
    told = tells-on may s t v l e r p.told;
    own = p.own;
    due = subst (λ (x : Sight). IfAlone (leaves_unit u) x (λ z. IsDueFor types z e)) (saw-on may s t v l p.told.rest) p.due;
  }

  -- what a step does
  pub acts_on : Acts may types u t v → Acts may types u s v
  acts_on (inl m) = inl (looks-on may s t v l m)
  acts_on (inr (e, (r, p))) = inr (e, (r, puts-on e r p))

  misses-on : Misses may types u t v → Misses may types u s v
  misses-on m = record { seen = m.seen; before = looks-on may s t m.seen l m.before; e = m.e; r = m.r; put = m.put; shown = m.shown; missed = m.missed }

  -- what it says
  pub happened_on : (kids : ℕ) (a : Advanced) → AnswerSays may types u kids t v a → AnswerSays may types u kids s v a
  happened_on kids (Granted g source) h = (h.0, (h.1.0, puts-on _ _ h.1.1))
  happened_on kids (Began child call depth) h = puts-on _ _ h
  happened_on kids (Waits holder) h = record { looked = looks-on may s t v l h.looked; grain = h.grain; mode = h.mode; wants = h.wants; asked = h.asked }
  happened_on kids (WaitsLoad grain) h = record { looked = looks-on may s t v l h.looked; mode = h.mode; wants = h.wants; asked = h.asked }
  happened_on kids (WaitsFor child) h = record { looked = looks-on may s t v l h.looked; undecided = h.undecided; last = h.last }
  happened_on kids Ended h = (looks-on may s t v l h.0, h.1)
  happened_on kids Moved (inl (e, p)) = inl (e, puts-on e _ p)
  happened_on kids Moved (inr (inl m)) = inr (inl (misses-on m))
  happened_on kids Moved (inr (inr m)) = inr (inr record { looked = looks-on may s t v l m.looked; never = m.never })

  -- where there was memory
  pub told_on : {D E : Type 0} (kids : ℕ) (r : Result (D × Advanced) E) → IfOk r (λ made. AnswerSays may types u kids t v made.1) → IfOk r (λ made. AnswerSays may types u kids s v made.1)
  told_on kids (Ok made) h = happened_on kids made.1 h
  told_on kids (Err e) h = h

  -- with as many children
  pub told_by : {D E : Type 0} (kids count : ℕ) → kids ≡ count → (r : Result (D × Advanced) E) → IfOk r (λ made. AnswerSays may types u kids t v made.1) → IfOk r (λ made. AnswerSays may types u count s v made.1)
  told_by {D} {E} kids count q r h = subst (λ (n : ℕ). IfOk r (λ made. AnswerSays may types u n s v made.1)) q (told_on kids r h)

-- each answer is of a step
pub happened-acts : (may : CoreEvent → Bool) (types : ProgramTree) (u : UnitNo) (kids : ℕ) (s t : Sight) (a : Advanced) → AnswerSays may types u kids s t a → Acts may types u s t
happened-acts may types u kids s t (Granted g source) h = inr (_, (_, h.1.1))
happened-acts may types u kids s t (Began child call depth) h = inr (_, (_, h))
happened-acts may types u kids s t (Waits holder) h = inl h.looked
happened-acts may types u kids s t (WaitsLoad grain) h = inl h.looked
happened-acts may types u kids s t (WaitsFor child) h = inl h.looked
happened-acts may types u kids s t Ended h = inl h.0
happened-acts may types u kids s t Moved (inl (e, p)) = inr (e, (_, p))
happened-acts may types u kids s t Moved (inr (inl m)) = acts_on may types u s m.seen t m.before (inr (m.e, (m.r, m.put)))
happened-acts may types u kids s t Moved (inr (inr m)) = inl m.looked

-- one's own entries stay counted
pub acts-counts : (may : CoreEvent → Bool) (types : ProgramTree) (u : UnitNo) (s t : Sight) → Acts may types u s t → Counts s → Counts t
acts-counts may types u s t (inl l) n = looks-counts may s t l n
acts-counts may types u s t (inr (e, (r, p))) n = tells-counts may s t e r p.told n

-- ---- in the form that the code's goals ask for

pub looks_self : (may : CoreEvent → Bool) (s : Sight) → Looks may s s
looks_self may s = looks-none may s

pub looks_counted : (may : CoreEvent → Bool) (s t : Sight) → Looks may s t → Counts s → Counts t
looks_counted may s t l n = looks-counts may s t l n

-- ---- a lock that is asked for

-- it is the one that the script asks for in the core's run
pub lock-asked : (types : ProgramTree) (r : Run) (c : Carried) (work : Work) (trail : List Given) (kids : ℕ) → IsAtWork types c work trail kids → IsPaused types r c work trail → (g : GrainId) (mode : Mode) → NeedGrain g mode ≡ pause_for (asks (rest types work.machine)) →
    wanted_lock (wanted_by types (ends r) c.unit (got_in r c.unit)) ≡ Some (g, mode)
lock-asked types r c work trail kids m p g mode e =
    ap wanted_lock (wants types r c.unit trail p.given ∙ ap Some (next-is types r c work trail kids m p)) ∙ as_lock (asks (rest types work.machine)) e
  where
    as_lock : (w : Want) → NeedGrain g mode ≡ pause_for w → wanted_lock (Some w) ≡ Some (g, mode)
    as_lock w e = elim (grain-wants w g mode e) [
      | inl q ↦ ap (λ (z : Want). wanted_lock (Some z)) q
      | inr q ↦ ap (λ (z : Want). wanted_lock (Some z)) q.0 ∙ (λ i. Some (g, sym q.1 i))
    ]

module _ (may : CoreEvent → Bool) (types : ProgramTree) (s t : Sight) (c : Carried) (work : Work) (g : GrainId) (mode : Mode) (kids : ℕ) (counts : Counts s) (l : Looks may s t) (k : KnowsPaused types s c work (NeedGrain g mode)) where
  -- what is known behind the look
  abbrev there : KnowsPaused types t c work (NeedGrain g mode)
  there = paused-looks types s c work counts may t (NeedGrain g mode) l k

  -- that the unit waits
  pub waits_happened : (holder : UnitNo) (a : AskAnswer) → a ≡ answer.MustWait holder → a ≡ ask_answer (ends (run_seen t)) c.unit g mode → AnswerSays may types c.unit kids s t (Waits holder)
  waits_happened holder a is asked = record {
    looked = l;
    grain = g;
    mode = mode;
    wants = λ alone. lock-asked types (run_seen t) c work k.trail _ k.at_work (there.linked alone) g mode k.ready.asks_for;
    asked = sym asked ∙ is;
  }

  -- that its grain isn't in memory
  pub absent_happened : (a : AskAnswer) → a ≡ answer.Absent → a ≡ ask_answer (ends (run_seen t)) c.unit g mode → AnswerSays may types c.unit kids s t (WaitsLoad g)
  absent_happened a is asked = record {
    looked = l;
    mode = mode;
    wants = λ alone. lock-asked types (run_seen t) c work k.trail _ k.at_work (there.linked alone) g mode k.ready.asks_for;
    asked = sym asked ∙ is;
  }

  -- what the core answers to a unit that may go on
  never : (said : AskAnswer) → ask_answer (ends (run_seen t)) c.unit g mode ≡ said → AskedLocks (ends (run_seen t)) c.unit g mode said
  never said q = subst (AskedLocks (ends (run_seen t)) c.unit g mode) q (asked-locks (ends (run_seen t)) c.unit g mode)

  -- the grain's type is one of the program's
  of-types : g.kind < length types
  of-types = by (asks (rest types work.machine)) k.ready.asks_for (subst (IsOfTypes types) (next-own types work.call (depth_of c.origin) work.machine k.trail k.at_work.follows)
      (next_is_of_types_lem types work.call (depth_of c.origin) (locks_of k.trail) (answers_of k.trail)))
    where
      by : (w : Want) → NeedGrain g mode ≡ pause_for w → IsOfTypes types w → g.kind < length types
      by w e o = elim (grain-wants w g mode e) [
        | inl q ↦ subst (IsOfTypes types) q o
        | inr q ↦ subst (IsOfTypes types) q.0 o
      ]

  -- the unit doesn't hold what it asks for
  uncovered : IsPaused types (run_seen t) c work k.trail → any (covers c.unit mode) ((ends (run_seen t)).cells.holds g) ≡ true → ⊥
  uncovered p e = elim (grain-wants (asks (rest types work.machine)) g mode k.ready.asks_for) [
    | inl q ↦
        let free = p.linked.locks g ∙ missing-lock types work.call (depth_of c.origin) k.trail k.at_work.follows.named g mode (named ∙ q) in
        true≢false (sym (any-member (is_hold_of c.unit) ((ends (run_seen t)).cells.holds g) one.0 one.1 (own one.0 one.2)) ∙ free)
    | inr q ↦
        let alone = p.linked.alone g ∙ (missing-raise types work.call (depth_of c.origin) k.trail k.at_work.follows.named g (named ∙ q.0)).1 in
        true≢false (sym (any-member (λ (h : Hold). is_hold_of c.unit h && is_update h.mode) ((ends (run_seen t)).cells.holds g) one.0 one.1 (whole one.0 q.1 one.2)) ∙ alone)
  ]
    where
      named : next types work.call (depth_of c.origin) (locks_of k.trail) (answers_of k.trail) ≡ asks (rest types work.machine)
      named = next-own types work.call (depth_of c.origin) work.machine k.trail k.at_work.follows

      one : (h : Hold) × Member h ((ends (run_seen t)).cells.holds g) × (covers c.unit mode h ≡ true)
      one = any-true (covers c.unit mode) ((ends (run_seen t)).cells.holds g) e

      own : (h : Hold) → covers c.unit mode h ≡ true → is_hold_of c.unit h ≡ true
      own h q = (and_parts (is_hold_of c.unit h) (is_update h.mode || not (is_update mode)) q).0

      whole : (h : Hold) → mode ≡ Update → covers c.unit mode h ≡ true → (is_hold_of c.unit h && is_update h.mode) ≡ true
      whole h m q =
          let parts = and_parts (is_hold_of c.unit h) (is_update h.mode || not (is_update mode)) q in
          and_from (is_hold_of c.unit h) (is_update h.mode) parts.0 (or-false (is_update h.mode) (ap (λ (z : Mode). is_update h.mode || not (is_update z)) (sym m) ∙ parts.1))
        where
          or-false : (b : Bool) → (b || false) ≡ true → b ≡ true
          or-false true f = refl
          or-false false f = f

  -- so these answers don't come where one is alone
  pub inactive_happened : (a : AskAnswer) → a ≡ answer.NotActive → a ≡ ask_answer (ends (run_seen t)) c.unit g mode → AnswerSays may types c.unit kids s t Moved
  inactive_happened a is asked = inr (inr record {
    looked = l;
    never = λ alone kinds. (let p = there.linked alone in
        never answer.NotActive (sym asked ∙ is) (p.given.running, (let n = of-types in let q : (ends (run_seen t)).units.kinds ≡ length types = kinds-ends (run_seen t) ∙ kinds in omega (arith, n, q))));
  })

  pub held_happened : (a : AskAnswer) → a ≡ answer.Held → a ≡ ask_answer (ends (run_seen t)) c.unit g mode → AnswerSays may types c.unit kids s t Moved
  held_happened a is asked = inr (inr record {
    looked = l;
    never = λ alone kinds. (let p = there.linked alone in uncovered p (never answer.Held (sym asked ∙ is)).1);
  })

-- ---- the unit waits for its child, or was stopped

pub waits_for_child : (may : CoreEvent → Bool) (types : ProgramTree) (s t : Sight) (c : Carried) (work : Work) (child : UnitNo) (kids : ℕ) → Looks may s t → outcome_of (ends (run_seen t)) child ≡ None → KnowsWaiting types t c work child →
    AnswerSays may types c.unit kids s t (WaitsFor child)
waits_for_child may types s t c work child kids l none k = record {
  looked = l;
  undecided = none;
  last = λ alone. (k.call, (k.depth, (k.trail, (k.linked alone).awaits)));
}

pub stopped_happened : (may : CoreEvent → Bool) (types : ProgramTree) (s t : Sight) (c : Carried) (kids : ℕ) → Looks may s t → IfOwn c t (λ r. IsBarred r c) → AnswerSays may types c.unit kids s t Ended
stopped_happened may types s t c kids l k = (l, λ alone. has-ended-stopped (run_seen t) c (k alone))
