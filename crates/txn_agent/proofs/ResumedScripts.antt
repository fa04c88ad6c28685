-- What is known once a unit's script was given what it asked for, and once a unit has given a lock back.
use Rattle.std.proofs.Common.{◌≡◌, ℕ, ◌+◌, length, List, [], ◌∷◌, ◌++◌, Bool, true, false, inl, inr, refl, sym, ap, ◌∙◌, subst, append-nil, Option, Some, None}
use Rattle.std.specs.Prelude.{map}
use Rattle.std.proofs.lemmas.Bool.{and_from}
use Rattle.std.proofs.lemmas.List.{length-append}
use Rattle.base_types.specs.declared.calls.Mode.{Mode}
use Rattle.base_types.specs.declared.calls.Outcome.{Outcome}
use Rattle.cell_model.specs.Locks.{holds_lock}
use Rattle.cell_model.proofs.Units.{any-member, any-true, same_grain-true, same_grain-is}
use Rattle.core_model.specs.CoreState.{UnitNo, GrainId, Call, Value, same_grain}
use Rattle.core_model.specs.declared.events.CoreEvent.{CoreEvent}
use Rattle.core_model.specs.declared.events.CoreEvent.TheVariants.{Grant, Release}
use Rattle.core_model.specs.declared.events.CoreReply.{CoreReply}
use Rattle.core_model.specs.declared.events.CoreReply.TheVariants as reply
use Rattle.core_model.specs.declared.questions.KnownOutcome.TheVariants.{Undecided, Decided}
use Rattle.core_model.specs.Answers.{known}
use Rattle.core_model.specs.Events.{applies}
use Rattle.core_model.specs.Tests.{any, first_grain, is_before, is_over, outcome_of}
use Rattle.core_model.specs.LegalRuns.{Run, ends}
use Rattle.script_tree.specs.Programs.{ProgramTree}
use Rattle.script_meaning.specs.Play.{GrainState, IsTransaction, grains_with_states}
use Rattle.script_meaning.specs.Trails.{Given, GivenLock, GivenRaise, GivenOutcome, answers_of, exclusive_in, reads_of}
use Rattle.script_machine.specs.declared.machine.Machine.{Machine}
use Rattle.script_machine.specs.declared.machine.Input.{Input}
use Rattle.script_machine.specs.declared.machine.Input.TheVariants as input
use Rattle.script_machine.specs.declared.machine.Pause.{Pause}
use Rattle.script_machine.specs.declared.machine.Pause.TheVariants.{NeedGrain}
use Rattle.script_machine.specs.Machines.{FollowsTrail, asks_raise, given_by, rest}
use Rattle.base_types.specs.Origins.{depth_of}
use Rattle.promise_spec.specs.UnitAnswers.{given_by as given_in}
use Rattle.turn_rules.proofs.AgentLinks.{heard}
use Rattle.worker_rules.specs.UnitOwnership.{leaves_unit}
use Rattle.core_access.specs.Sights.{Sight, run_seen, saw, Looks, Tells, Counts}
use Rattle.core_access.proofs.Sights.{looks-none}
use Rattle.core_access.proofs.Knowledge.{tells-knows}
use Rattle.txn_agent.specs.declared.work.Carried.{Carried}
use Rattle.txn_agent.specs.declared.work.Work.{Work}
use Rattle.txn_agent.specs.declared.agent.Advanced.TheVariants as came
use Rattle.txn_agent.specs.MachineState.{IsAtWork, IsReady, IsResumed, found_by, source_of}
use Rattle.txn_agent.specs.CoreLink.{IfOwn, IsPaused, IsOver, IsNew, KnowsPaused, KnowsWaiting}
use Rattle.txn_agent.specs.AgentStep.{AnswerSays, Puts, all_but}
use Rattle.txn_agent.proofs.Trails.{answers-last, exclusive-last, first-answer, grains-last, missing-lock, missing-raise, next-own, raise-answer, reads-last, start-answer, unit-answer}
use Rattle.txn_agent.proofs.FirstGrain.{first_grain-none, first_grain-some}
use Rattle.txn_agent.proofs.OthersEvents.{paused-on, over-on, over-as}
use Rattle.txn_agent.proofs.GrantedLocks.{first-linked, again-linked, no-lock-alone}
use Rattle.txn_agent.specs.Replies.{is_done}
use Rattle.txn_agent.proofs.UnitEnds.{missed, done-applied, over-released, has-ended-over}
use Rattle.txn_agent.proofs.AgentCalls.{waiting-looks, over-there}

-- ---- the machine goes on

-- by what it was given, once
at-work-more : (types : ProgramTree) (c : Carried) (work work' : Work) (trail : List Given) (one : Given) (kids kids' : ℕ) (in_ : Input) (pause : Pause) →
    IsAtWork types c work trail kids → IsResumed types work.machine work'.machine in_ pause → given_by (rest types work.machine) in_ ≡ one ∷ [] → work'.call ≡ work.call →
    work'.held ≡ grains_with_states (reads_of (trail ++ (one ∷ []))) → length work'.sources ≡ length (reads_of (trail ++ (one ∷ []))) → work'.kids ≡ kids' → IsAtWork types c work' (trail ++ (one ∷ [])) kids'
at-work-more types c work work' trail one kids kids' in_ pause m resumed gives call held sources count = record {
  follows = subst (λ (x : Call). FollowsTrail types x (depth_of c.origin) work'.machine (trail ++ (one ∷ []))) (sym call)
      (subst (λ (l : List Given). FollowsTrail types work.call (depth_of c.origin) work'.machine (trail ++ l)) gives (resumed.follows work.call (depth_of c.origin) trail m.follows));
  started = resumed.begun;
  held = held;
  sources = sources;
  kids = count;
}

-- it asks for what its pause says
ready-now : (types : ProgramTree) (work work' : Work) (one : Input) (pause : Pause) → IsResumed types work.machine work'.machine one pause → IsReady types work' pause
ready-now types work work' one pause r = record { asks_for = r.asks_for; over = r.over; room = r.room }

-- ---- a first lock

pub first_known : (may : CoreEvent → Bool) (types : ProgramTree) (s t : Sight) (c : Carried) (work work' : Work) (g : GrainId) (mode : Mode) (state : List Value) (source : UnitNo) (pause : Pause) (y : CoreReply) →
    Counts s → KnowsPaused types s c work (NeedGrain g mode) → Tells may s (Grant c.unit g mode) y t → y ≡ reply.Granted state source → asks_raise (rest types work.machine) ≡ false →
    work'.call ≡ work.call → work'.held ≡ work.held ++ (g ∷ []) → work'.sources ≡ work.sources ++ (source ∷ []) → work'.kids ≡ work.kids →
    IsResumed types work.machine work'.machine (input.Grain state) pause → KnowsPaused types t c work' pause
first_known may types s t c work work' g mode state source pause y counts k l is first call held sources kids resumed =
    let gives = first-answer (rest types work.machine) g mode state k.ready.asks_for first in
    let reads : reads_of (k.trail ++ (GivenLock g mode state ∷ [])) ≡ reads_of k.trail ++ ((g, state) ∷ []) = reads-last k.trail (GivenLock g mode state) in
    let answers : answers_of (k.trail ++ (GivenLock g mode state ∷ [])) ≡ answers_of k.trail = answers-last k.trail (GivenLock g mode state) ∙ append-nil (answers_of k.trail) in
    record {
      trail = k.trail ++ (GivenLock g mode state ∷ []);
      at_work = at-work-more types c work work' k.trail (GivenLock g mode state) _ _ (input.Grain state) pause k.at_work resumed gives.0 call
          (held ∙ ap (λ (x : List GrainId). x ++ (g ∷ [])) k.at_work.held ∙ sym (grains-last (reads_of k.trail) (g, state)) ∙ sym (ap grains_with_states reads))
          (ap length sources ∙ length-append work.sources (source ∷ []) ∙ ap (λ (n : ℕ). n + 1) k.at_work.sources ∙ sym (length-append (reads_of k.trail) ((g, state) ∷ [])) ∙ sym (ap length reads))
          (kids ∙ k.at_work.kids ∙ sym (ap length answers));
      ready = ready-now types work work' (input.Grain state) pause resumed;
      linked = tells-knows (leaves_unit c.unit) (λ r. IsPaused types r c work k.trail) (λ r e h p. paused-on types r e c h work k.trail p) (λ r. IsPaused types r c work' (k.trail ++ (GivenLock g mode state ∷ [])))
          may s t (Grant c.unit g mode) y l counts
          (λ p. first-linked types (run_seen (saw s l.rest)) c work work' k.trail g mode state source p (sym is ∙ l.reply) call
          (missing-lock types work.call (depth_of c.origin) k.trail k.at_work.follows.named g mode
          (next-own types work.call (depth_of c.origin) work.machine k.trail k.at_work.follows ∙ gives.2)) sources) k.linked;
    }

-- ---- an exclusive lock in place of a shared one

pub again_known : (may : CoreEvent → Bool) (types : ProgramTree) (s t : Sight) (c : Carried) (work work' : Work) (g : GrainId) (mode : Mode) (state : List Value) (source : UnitNo) (pause : Pause) (y : CoreReply) →
    Counts s → KnowsPaused types s c work (NeedGrain g mode) → Tells may s (Grant c.unit g mode) y t → y ≡ reply.Granted state source → asks_raise (rest types work.machine) ≡ true →
    work'.call ≡ work.call → work'.held ≡ work.held → work'.sources ≡ work.sources → work'.kids ≡ work.kids → IsResumed types work.machine work'.machine input.Held pause → KnowsPaused types t c work' pause
again_known may types s t c work work' g mode state source pause y counts k l is again call held sources kids resumed =
    let gives = raise-answer (rest types work.machine) g mode k.ready.asks_for again in
    let reads : reads_of (k.trail ++ (GivenRaise g ∷ [])) ≡ reads_of k.trail = reads-last k.trail (GivenRaise g) ∙ append-nil (reads_of k.trail) in
    let answers : answers_of (k.trail ++ (GivenRaise g ∷ [])) ≡ answers_of k.trail = answers-last k.trail (GivenRaise g) ∙ append-nil (answers_of k.trail) in
    record {
      trail = k.trail ++ (GivenRaise g ∷ []);
      at_work = at-work-more types c work work' k.trail (GivenRaise g) _ _ input.Held pause k.at_work resumed gives.0 call
          (held ∙ k.at_work.held ∙ sym (ap grains_with_states reads)) (ap length sources ∙ k.at_work.sources ∙ sym (ap length reads)) (kids ∙ k.at_work.kids ∙ sym (ap length answers));
      ready = ready-now types work work' input.Held pause resumed;
      linked = tells-knows (leaves_unit c.unit) (λ r. IsPaused types r c work k.trail) (λ r e h p. paused-on types r e c h work k.trail p) (λ r. IsPaused types r c work' (k.trail ++ (GivenRaise g ∷ [])))
          may s t (Grant c.unit g mode) y l counts
          (λ p. again-linked types (run_seen (saw s l.rest)) c work work' k.trail g mode state source p (sym is ∙ l.reply) call gives.3
          (missing-raise types work.call (depth_of c.origin) k.trail k.at_work.follows.named g
          (next-own types work.call (depth_of c.origin) work.machine k.trail k.at_work.follows ∙ gives.2)).0 sources) k.linked;
    }

-- ---- a child's outcome

-- an outcome that was told
known-some : (k : Option Outcome) (o : Outcome) → Decided o ≡ known k → k ≡ Some o
known-some None o e = absurd cc
known-some (Some p) o e = (let a : p ≡ o = cc in ap Some a)

-- and none
pub known_none : (k : Option Outcome) → Undecided ≡ known k → k ≡ None
known_none None e = refl
known_none (Some o) e = absurd cc

pub heard_known : (may : CoreEvent → Bool) (types : ProgramTree) (s t : Sight) (c : Carried) (work work' : Work) (child : UnitNo) (o : Outcome) (pause : Pause) →
    Counts s → KnowsWaiting types s c work child → Looks may s t → Decided o ≡ known (outcome_of (ends (run_seen t)) child) →
    work'.call ≡ work.call → work'.held ≡ work.held → work'.sources ≡ work.sources → work'.kids ≡ work.kids → IsResumed types work.machine work'.machine (input.Unit o) pause → KnowsPaused types t c work' pause
heard_known may types s t c work work' child o pause counts k l told call held sources kids resumed =
    let gives = unit-answer (rest types work.machine) k.call k.depth o k.asks_for in
    let reads : reads_of (k.trail ++ (GivenOutcome k.call k.depth o ∷ [])) ≡ reads_of k.trail = reads-last k.trail (GivenOutcome k.call k.depth o) ∙ append-nil (reads_of k.trail) in
    let exclusive : exclusive_in (k.trail ++ (GivenOutcome k.call k.depth o ∷ [])) ≡ exclusive_in k.trail = exclusive-last k.trail (GivenOutcome k.call k.depth o) ∙ append-nil (exclusive_in k.trail) in
    let answers : answers_of (k.trail ++ (GivenOutcome k.call k.depth o ∷ [])) ≡ answers_of k.trail ++ (o ∷ []) = answers-last k.trail (GivenOutcome k.call k.depth o) in
    let there = waiting-looks types s c work counts may t child l k in
    record {
      trail = k.trail ++ (GivenOutcome k.call k.depth o ∷ []);
      at_work = at-work-more types c work work' k.trail (GivenOutcome k.call k.depth o) _ _ (input.Unit o) pause k.at_work resumed gives.0 call
          (held ∙ k.at_work.held ∙ sym (ap grains_with_states reads)) (ap length sources ∙ k.at_work.sources ∙ sym (ap length reads))
          (kids ∙ k.at_work.kids ∙ sym (length-append (answers_of k.trail) (o ∷ [])) ∙ sym (ap length answers));
      ready = ready-now types work work' (input.Unit o) pause resumed;
      linked = λ alone.
          (let w = there.linked alone in
          record {
            linked = record {
              above = w.linked.above;
              call = w.linked.call ∙ sym call;
              came = w.linked.came;
              kind = w.linked.kind;
              plainly = λ is x. w.linked.plainly is (subst (λ (z : Call). IsTransaction types z) call x);
              found = w.linked.found ∙ sym reads;
              sources = w.linked.sources ∙ sym sources;
              locks = λ g. w.linked.locks g ∙ sym (ap (λ (f : List GrainState). any (same_grain g) (grains_with_states f)) reads);
              alone = λ g. w.linked.alone g ∙ sym (ap (any (same_grain g)) exclusive);
            };
            given = heard (run_seen t) c.unit child k.call k.depth k.trail o w.awaits (known-some (outcome_of (ends (run_seen t)) child) o told);
          });
    }

-- ---- a unit that has just begun

pub new_known : (types : ProgramTree) (s : Sight) (c : Carried) (call : Call) (machine : Machine) (work : Work) (pause : Pause) → FollowsTrail types call (depth_of c.origin) machine [] → IsResumed types machine work.machine input.First pause →
    work.call ≡ call → work.held ≡ [] → work.sources ≡ [] → work.kids ≡ 0 → IfOwn c s (λ r. IsNew types r c call) → KnowsPaused types s c work pause
new_known types s c call machine work pause follows resumed same held sources kids new = record {
  trail = [];
  at_work = record {
    follows = subst (λ (x : Call). FollowsTrail types x (depth_of c.origin) work.machine []) (sym same)
        (subst (λ (l : List Given). FollowsTrail types call (depth_of c.origin) work.machine ([] ++ l)) (start-answer (rest types machine)) (resumed.follows call (depth_of c.origin) [] follows));
    started = resumed.begun;
    held = held;
    sources = ap length sources;
    kids = kids;
  };
  ready = record { asks_for = resumed.asks_for; over = resumed.over; room = resumed.room };
  linked = λ alone.
      (let n = new alone in
      record {
        linked = record {
          above = n.above;
          call = n.called ∙ sym same;
          came = n.came;
          kind = n.kind;
          plainly = λ is x. n.plainly is (subst (λ (z : Call). IsTransaction types z) same x);
          found = ap (map found_by) n.reads;
          sources = ap (map source_of) n.reads ∙ sym sources;
          locks = n.locks;
          alone = λ g. no-lock-alone c.unit ((ends (run_seen s)).cells.holds g) (n.locks g);
        };
        given = record { running = n.running; given = ap (given_in (ends (run_seen s))) n.got };
      });
}

-- ---- a lock is given back

module _ (may : CoreEvent → Bool) (types : ProgramTree) (s t : Sight) (c : Carried) (held : List GrainId) (g : GrainId) (y : CoreReply) (counts : Counts s) (k : IfOwn c s (λ r. IsOver r c held)) (first : Some g ≡ first_grain held) where
  -- the first one goes first
  abbrev pub release_puts : Tells may s (Release c.unit g) y t → Puts may types c.unit s (Release c.unit g) y t
  release_puts l = record {
    told = l;
    own = refl;
    due = λ alone b q a h e. lowest (run_seen (saw s l.rest)) (over-there types s c counts held l.rest k alone) h e;
  }
    where
      lowest : (r : Run) → IsOver r c held → (h : GrainId) → holds_lock c.unit ((ends r).cells.holds h) ≡ true → is_before h g ≡ false
      lowest r o h e =
          let m = any-true (same_grain h) held (sym (o.locks h) ∙ e) in
          ap (λ (z : GrainId). is_before z g) (same_grain-true h m.0 m.2) ∙ (first_grain-some held g (sym first)).1 m.0 m.1

  pub release_done : Tells may s (Release c.unit g) y t → y ≡ reply.Done → (kids : ℕ) → AnswerSays may types c.unit kids s t came.Moved
  release_done l is kids = inl (Release c.unit g, subst (λ (x : CoreReply). Puts may types c.unit s (Release c.unit g) x t) is (release_puts l))

  release_missed : (l : Tells may s (Release c.unit g) y t) → is_done y ≡ false → applies (ends (run_seen (saw s l.rest))) (Release c.unit g) ≡ false
  release_missed l f = missed (ends (run_seen (saw s l.rest))) (Release c.unit g) y is_done refl l.reply f

  pub release_moves : Tells may s (Release c.unit g) y t → is_done y ≡ false → (kids : ℕ) → AnswerSays may types c.unit kids s t came.Moved
  release_moves l f kids = inr (inl record {
    seen = s;
    before = looks-none may s;
    e = Release c.unit g;
    r = y;
    put = release_puts l;
    shown = λ alone. (let o = k alone in and_from (is_over ((ends (run_seen s)).units.phase c.unit)) (holds_lock c.unit ((ends (run_seen s)).cells.holds g)) o.over
        (o.locks g ∙ any-member (same_grain g) held g (first_grain-some held g (sym first)).0 (same_grain-is g g refl)));
    missed = release_missed l f;
  })

  pub release_over : Tells may s (Release c.unit g) y t → y ≡ reply.Done → IfOwn c t (λ r. IsOver r c (all_but g held))
  release_over l is = tells-knows (leaves_unit c.unit) (λ r. IsOver r c held) (λ r e h p. over-on types r e c h held p) (λ r. IsOver r c (all_but g held))
      may s t (Release c.unit g) y l counts (λ o. over-released (run_seen (saw s l.rest)) c g held (done-applied (ends (run_seen (saw s l.rest))) (Release c.unit g) refl (sym is ∙ l.reply)) o) k

  pub release_stays : Tells may s (Release c.unit g) y t → is_done y ≡ false → IfOwn c t (λ r. IsOver r c held)
  release_stays l f = tells-knows (leaves_unit c.unit) (λ r. IsOver r c held) (λ r e h p. over-on types r e c h held p) (λ r. IsOver r c held)
      may s t (Release c.unit g) y l counts (λ o. over-as types (run_seen (saw s l.rest)) (Release c.unit g) c (release_missed l f) held o) k

-- no first one
no-some : (o : Option GrainId) → ((g : GrainId) → o ≡ Some g → ⊥) → o ≡ None
no-some None n = refl
no-some (Some g) n = absurd (n g refl)

-- a unit that has no lock has ended
pub ended_happened : (may : CoreEvent → Bool) (types : ProgramTree) (s : Sight) (c : Carried) (held : List GrainId) (kids : ℕ) (first : Option GrainId) → first ≡ first_grain held → ((g : GrainId) → first ≡ Some g → ⊥) → IfOwn c s (λ r. IsOver r c held) → AnswerSays may types c.unit kids s s came.Ended
ended_happened may types s c held kids first is none k = (looks-none may s, λ alone. has-ended-over (run_seen s) c (subst (λ (l : List GrainId). IsOver (run_seen s) c l) (first_grain-none held (sym is ∙ no-some first none)) (k alone)))
