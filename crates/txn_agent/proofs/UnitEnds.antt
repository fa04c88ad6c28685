-- What the end of a unit and the giving back of its locks leave, and that a unit which has none has no event left.
use Rattle.std.proofs.Common.{◌≡◌, ℕ, List, [], ◌∷◌, Bool, true, false, true≢false, inl, inr, refl, sym, ap, ◌∙◌, subst, Option, Some, None}
use Rattle.std.specs.Prelude.{if◌then◌else◌, ◌||◌, ◌&&◌, not, is_some, is_none}
use Rattle.std.proofs.lemmas.Bool.{cond-true, cases_Bool, and_parts}
use Rattle.base_types.specs.declared.calls.Origin.TheVariants.{Line, Child}
use Rattle.base_types.specs.declared.entries.Settled.{Settled}
use Rattle.cell_model.specs.Locks as locks
use Rattle.cell_model.specs.Locks.{holds_lock, dropped}
use Rattle.cell_model.proofs.LockAnswers.{dropped-none}
use Rattle.cell_model.proofs.Units.{same_grain-true, same_grain-is, same_unit-true}
use Rattle.core_model.specs.CoreState.{UnitNo, GrainId, Hold, Mode, same_grain, same_unit, put_grain, CoreState}
use Rattle.core_model.specs.declared.effects.Effect.{Effect}
use Rattle.core_model.specs.declared.effects.Read.{Read}
use Rattle.core_model.specs.declared.phases.Phase.{Phase}
use Rattle.core_model.specs.declared.phases.Phase.TheVariants.{Unborn, Running, Refused, Finished, Ended}
use Rattle.core_model.specs.declared.events.CoreEvent.{CoreEvent}
use Rattle.core_model.specs.declared.events.CoreEvent.TheVariants.{Bad, Begin, Grant, Refuse, Finish, EndPlain, EndSnapshot, Release, Take, Vote, Decide, Sealed, NotSealed, Doubt, Learn, Emitted, Halt, Want, Load}
use Rattle.core_model.specs.declared.events.CoreReply.{CoreReply}
use Rattle.core_model.specs.declared.events.CoreReply.TheVariants as reply
use Rattle.core_model.specs.declared.questions.AskAnswer.{AskAnswer}
use Rattle.core_model.specs.declared.questions.AskAnswer.TheVariants as answer
use Rattle.core_model.specs.Tests.{all, any, ask_answer, ask_doom, ask_lock, doomed_by, is_over, is_running}
use Rattle.core_model.specs.Changes.{refusal, refused_by, after_release, swept, swept_by}
use Rattle.core_model.specs.LockAnswers.{IsGoing}
use Rattle.core_model.specs.Events.{applies, can, does, is_after_doubt, is_after_halt, is_allowed, is_free_answer, reply_with, reply_without, reply_to}
use Rattle.core_model.specs.LegalRuns.{Run, ends}
use Rattle.core_laws.proofs.Puts.{grain-at, put-same}
use Rattle.core_laws.proofs.EventCases.{none-true}
use Rattle.script_tree.specs.Programs.{ProgramTree}
use Rattle.script_meaning.specs.Play.{grains_with_states}
use Rattle.script_meaning.specs.Trails.{Given, reads_of}
use Rattle.turn_rules.specs.NextEvent.{with_event, is_own}
use Rattle.turn_rules.proofs.Growth.{ends-more}
use Rattle.txn_agent.specs.declared.work.Carried.{Carried}
use Rattle.txn_agent.specs.declared.work.Work.{Work}
use Rattle.txn_agent.specs.Replies.{is_done}
use Rattle.txn_agent.specs.CoreLink.{IsPaused, IsOver, IsBarred}
use Rattle.txn_agent.specs.AgentStep.{HasNoEventLeft, all_but}

-- ---- the reply

-- the unit began
abbrev pub is_began : CoreReply → Bool
is_began (reply.Began u) = true
is_began _ = false

-- the lock was granted
abbrev pub is_granted : CoreReply → Bool
is_granted (reply.Granted s x) = true
is_granted _ = false

-- a reply that isn't the one of an event that applies
pub missed : (w : CoreState) (e : CoreEvent) (y : CoreReply) (test : CoreReply → Bool) → test (reply_with w e) ≡ true → y ≡ reply_to w e → test y ≡ false → applies w e ≡ false
missed w e y test t q f = by (applies w e) refl q
  where
    by : (b : Bool) → applies w e ≡ b → y ≡ (if b then reply_with w e else reply_without w e) → applies w e ≡ false
    by true a q = absurd (true≢false (sym (ap test q ∙ t) ∙ f))
    by false a q = a

-- done is replied where the event applies
pub done-applied : (w : CoreState) (e : CoreEvent) → is_done (reply_without w e) ≡ false → reply.Done ≡ reply_to w e → applies w e ≡ true
done-applied w e f q = by (applies w e) refl q
  where
    by : (b : Bool) → applies w e ≡ b → reply.Done ≡ (if b then reply_with w e else reply_without w e) → applies w e ≡ true
    by true a q = a
    by false a q = absurd (true≢false (ap is_done q ∙ f))

-- ---- a unit comes to its end

-- What an end leaves: the unit is over, and its locks are there.
record IsEnding (w : CoreState) (u : UnitNo) (w' : CoreState) : Type 0 where
  over : is_over (w'.units.phase u) ≡ true
  holds : w'.cells.holds ≡ w.cells.holds

ending-swept : (w : CoreState) (u : UnitNo) (w' : CoreState) → IsEnding w u w' → IsEnding w u (swept w')
ending-swept w u w' i = go w'.cells.capacity
  where
    go : (c : Option ℕ) → IsEnding w u (swept_by w' c)
    go None = i
    go (Some m) = record { over = i.over; holds = i.holds }

refused-ending : (w : CoreState) (u : UnitNo) (why : Option Settled) → is_some why ≡ true → IsEnding w u (refused_by w u why)
refused-ending w u None e = absurd (true≢false (sym e))
refused-ending w u (Some why) e = record { over = ap is_over (put-same w.units.phase u Refused); holds = refl }

module _ (types : ProgramTree) (r : Run) (c : Carried) (work : Work) (trail : List Given) (p : IsPaused types r c work trail) (held : List GrainId) (is : held ≡ grains_with_states (reads_of trail)) where
  -- behind an event that ends it
  over-behind : (e : CoreEvent) → applies (ends r) e ≡ true → IsEnding (ends r) c.unit (does (ends r) e) → IsOver (with_event r e) c held
  over-behind e a ending =
      let i : IsEnding (ends r) c.unit (ends (with_event r e)) =
      subst (IsEnding (ends r) c.unit) (sym (ends-more r e ∙ cond-true (applies (ends r) e) (swept (does (ends r) e)) (ends r) a)) (ending-swept (ends r) c.unit (does (ends r) e) ending) in
      record {
        above = p.linked.above;
        over = i.over;
        locks = λ h. ap (λ (f : GrainId → List Hold). holds_lock c.unit (f h)) i.holds ∙ p.linked.locks h ∙ sym (ap (any (same_grain h)) is);
      }

  -- a refusal
  pub over-refused : (g : GrainId) (mode : Mode) → reply.Done ≡ reply_to (ends r) (Refuse c.unit g mode) → IsOver (with_event r (Refuse c.unit g mode)) c held
  over-refused g mode q =
      let a = done-applied (ends r) (Refuse c.unit g mode) refl q in
      over-behind (Refuse c.unit g mode) a (refused-ending (ends r) c.unit (refusal g (ask_answer (ends r) c.unit g mode)) (and_parts (is_allowed (ends r) (Refuse c.unit g mode)) (can (ends r) (Refuse c.unit g mode)) a).1)

  -- a transaction's end
  pub over-finished : (effect : Effect) → reply.Done ≡ reply_to (ends r) (Finish c.unit effect) → IsOver (with_event r (Finish c.unit effect)) c held
  over-finished effect q = over-behind (Finish c.unit effect) (done-applied (ends r) (Finish c.unit effect) refl q)
      record { over = ap is_over (put-same (ends r).units.phase c.unit Finished); holds = refl }

  -- a plain run's
  pub over-ended : (effect : Effect) → reply.Done ≡ reply_to (ends r) (EndPlain c.unit effect) → IsOver (with_event r (EndPlain c.unit effect)) c held
  over-ended effect q = over-behind (EndPlain c.unit effect) (done-applied (ends r) (EndPlain c.unit effect) refl q)
      record { over = ap is_over (put-same (ends r).units.phase c.unit Ended); holds = refl }

-- ---- a lock is given back

-- it is none of the others
any-without : (g : GrainId) (held : List GrainId) → any (same_grain g) (all_but g held) ≡ false
any-without g [] = refl
any-without g (x ∷ held) = by (any-without g held) (same_grain x g) refl
  where
    by : any (same_grain g) (all_but g held) ≡ false → (b : Bool) → same_grain x g ≡ b → any (same_grain g) (if not b then x ∷ all_but g held else all_but g held) ≡ false
    by ih true e = ih
    by ih false e = or-both (same_grain g x) (any (same_grain g) (all_but g held)) (back e) ih
      where
        back : same_grain x g ≡ false → same_grain g x ≡ false
        back e = elim (cases_Bool (same_grain g x)) [ inl t ↦ absurd (true≢false (sym (same_grain-is x g (sym (same_grain-true g x t))) ∙ e)) | inr f ↦ f ]

        or-both : (a c : Bool) → a ≡ false → c ≡ false → (a || c) ≡ false
        or-both true c e f = absurd (true≢false e)
        or-both false c e f = f

-- the others are there
any-others : (g h : GrainId) (held : List GrainId) → (h ≡ g → ⊥) → any (same_grain h) (all_but g held) ≡ any (same_grain h) held
any-others g h [] n = refl
any-others g h (x ∷ held) n = by (any-others g h held n) (same_grain x g) refl
  where
    by : any (same_grain h) (all_but g held) ≡ any (same_grain h) held → (b : Bool) → same_grain x g ≡ b → any (same_grain h) (if not b then x ∷ all_but g held else all_but g held) ≡ (same_grain h x || any (same_grain h) held)
    by ih true e = ih ∙ sym (ap (λ (c : Bool). c || any (same_grain h) held) (apart e))
      where
        apart : same_grain x g ≡ true → same_grain h x ≡ false
        apart e = elim (cases_Bool (same_grain h x)) [ inl t ↦ absurd (n (same_grain-true h x t ∙ same_grain-true x g e)) | inr f ↦ f ]
    by ih false e = ap (λ (c : Bool). same_grain h x || c) ih

-- What a release leaves.
record IsReleased (w : CoreState) (u : UnitNo) (g : GrainId) (w' : CoreState) : Type 0 where
  phase : w'.units.phase ≡ w.units.phase
  holds : w'.cells.holds ≡ put_grain w.cells.holds g (dropped (w.cells.holds g) u)

released-swept : (w : CoreState) (u : UnitNo) (g : GrainId) (w' : CoreState) → IsReleased w u g w' → IsReleased w u g (swept w')
released-swept w u g w' i = go w'.cells.capacity
  where
    go : (c : Option ℕ) → IsReleased w u g (swept_by w' c)
    go None = i
    go (Some m) = record { phase = i.phase; holds = i.holds }

-- the unit has one lock less
pub over-released : (r : Run) (c : Carried) (g : GrainId) (held : List GrainId) → applies (ends r) (Release c.unit g) ≡ true → IsOver r c held → IsOver (with_event r (Release c.unit g)) c (all_but g held)
over-released r c g held a o =
    let i : IsReleased (ends r) c.unit g (ends (with_event r (Release c.unit g))) =
    subst (IsReleased (ends r) c.unit g) (sym (ends-more r (Release c.unit g) ∙ cond-true (applies (ends r) (Release c.unit g)) (swept (does (ends r) (Release c.unit g))) (ends r) a))
    (released-swept (ends r) c.unit g (after_release (ends r) c.unit g) record { phase = refl; holds = refl }) in
    record {
      above = o.above;
      over = ap (λ (f : UnitNo → Phase). is_over (f c.unit)) i.phase ∙ o.over;
      locks = λ h. ap (λ (f : GrainId → List Hold). holds_lock c.unit (f h)) i.holds
          ∙ grain-at (ends r).cells.holds g (dropped ((ends r).cells.holds g) c.unit) (λ (hs : List Hold). holds_lock c.unit hs ≡ any (same_grain h) (all_but g held)) h
          (λ q. dropped-none c.unit ((ends r).cells.holds g) ∙ sym (ap (λ (z : GrainId). any (same_grain z) (all_but g held)) q ∙ any-without g held))
          (λ n. o.locks h ∙ sym (any-others g h held n));
    }

-- ---- no event is left

-- both parts are so, where one is not
and-not : (a b : Bool) → a ≡ false → (a && b) ≡ false
and-not true b e = absurd (true≢false e)
and-not false b e = refl

not-and : (a b : Bool) → b ≡ false → (a && b) ≡ false
not-and true b e = e
not-and false b e = refl

-- who is over doesn't run
over-idle : (p : Phase) → is_over p ≡ true → is_running p ≡ false
over-idle Unborn e = absurd (true≢false (sym e))
over-idle Running e = absurd (true≢false (sym e))
over-idle Finished e = refl
over-idle Refused e = refl
over-idle Ended e = refl

-- who doesn't run can only release a lock
idle-can : (w : CoreState) (u v : UnitNo) → is_running (w.units.phase u) ≡ false → same_unit v u ≡ true → is_running (w.units.phase v) ≡ false
idle-can w u v idle q = ap (λ (x : UnitNo). is_running (w.units.phase x)) (same_unit-true v u q) ∙ idle

-- who doesn't run isn't active
pub idle-asks : (w : CoreState) (v : UnitNo) (g : GrainId) (mode : Mode) → is_running (w.units.phase v) ≡ false → ask_answer w v g mode ≡ answer.NotActive
idle-asks w v g mode idle = ap (λ (b : Bool). if b then ask_doom (doomed_by w v) (ask_lock (w.cells.here g) (locks.ask (w.cells.holds g) v mode)) else answer.NotActive) (and-not (is_running (w.units.phase v)) _ idle)

-- so no event of a unit that is over and holds nothing applies
over-none : (r : Run) (c : Carried) → IsOver r c [] → (e : CoreEvent) → is_own c.unit e ≡ true → applies (ends r) e ≡ false
over-none r c o e own = not-and (is_allowed (ends r) e) (can (ends r) e) (by e own)
  where
    w : CoreState
    w = ends r

    idle : (v : UnitNo) → same_unit v c.unit ≡ true → is_running ((ends r).units.phase v) ≡ false
    idle v q = idle-can (ends r) c.unit v (over-idle ((ends r).units.phase c.unit) o.over) q

    by : (e : CoreEvent) → is_own c.unit e ≡ true → can (ends r) e ≡ false
    by (Begin (Child p i d) call plain) q = and-not (is_running ((ends r).units.phase p)) _ (idle p q)
    by (Grant v g mode) q = ap is_free_answer (idle-asks (ends r) v g mode (idle v q))
    by (Refuse v g mode) q = ap (λ (a : AskAnswer). is_some (refusal g a)) (idle-asks (ends r) v g mode (idle v q))
    by (Finish v x) q = and-not _ _ (and-not (is_running ((ends r).units.phase v)) _ (idle v q))
    by (EndPlain v x) q = and-not _ _ (and-not (is_running ((ends r).units.phase v)) _ (idle v q))
    by (EndSnapshot v at outcome) q = and-not _ _ (and-not (is_running ((ends r).units.phase v)) _ (idle v q))
    by (Release v g) q = not-and (is_over ((ends r).units.phase v)) _ (ap (λ (x : UnitNo). holds_lock x ((ends r).cells.holds g)) (same_unit-true v c.unit q) ∙ o.locks g)
    by (Want v g) q = and-not _ _ (and-not (is_running ((ends r).units.phase v)) _ (idle v q))
    by (Bad n why) q = absurd (true≢false (sym q))
    by (Begin (Line n) call plain) q = absurd (true≢false (sym q))
    by Take q = absurd (true≢false (sym q))
    by (Vote n g kept) q = absurd (true≢false (sym q))
    by (Decide n) q = absurd (true≢false (sym q))
    by (Sealed n) q = absurd (true≢false (sym q))
    by (NotSealed n) q = absurd (true≢false (sym q))
    by (Doubt n) q = absurd (true≢false (sym q))
    by (Learn v g) q = absurd (true≢false (sym q))
    by Emitted q = absurd (true≢false (sym q))
    by Halt q = absurd (true≢false (sym q))
    by (Load g v state) q = absurd (true≢false (sym q))

-- ---- a doubt or a stop

or-false : (a : Bool) → (a || false) ≡ true → a ≡ true
or-false true e = refl
or-false false e = e

-- what comes neither behind a doubt nor behind a stop
pub going-is : (w : CoreState) (e : CoreEvent) → is_after_doubt e ≡ false → is_after_halt e ≡ false → is_allowed w e ≡ true → IsGoing w
going-is w e d h a =
    let p = and_parts (is_none w.manager.doubt || is_after_doubt e) (not w.units.halt || is_after_halt e) a in
    (none-true w.manager.doubt (or-false _ (ap (λ (b : Bool). is_none w.manager.doubt || b) (sym d) ∙ p.0)), not-true-is w.units.halt (or-false _ (ap (λ (b : Bool). not w.units.halt || b) (sym h) ∙ p.1)))
  where
    not-true-is : (b : Bool) → not b ≡ true → b ≡ false
    not-true-is true e = absurd (true≢false (sym e))
    not-true-is false e = refl

-- is not allowed where either is
barred : (w : CoreState) (e : CoreEvent) → is_after_doubt e ≡ false → is_after_halt e ≡ false → (IsGoing w → ⊥) → is_allowed w e ≡ false
barred w e d h n = elim (cases_Bool (is_allowed w e)) [ inl a ↦ absurd (n (going-is w e d h a)) | inr f ↦ f ]

-- so no event of a running unit applies
stopped-none : (r : Run) (c : Carried) → IsBarred r c → (e : CoreEvent) → is_own c.unit e ≡ true → applies (ends r) e ≡ false
stopped-none r c s e own = by e own
  where
    no : (e : CoreEvent) → is_after_doubt e ≡ false → is_after_halt e ≡ false → applies (ends r) e ≡ false
    no e d h = and-not (is_allowed (ends r) e) (can (ends r) e) (barred (ends r) e d h s.stopped)

    by : (e : CoreEvent) → is_own c.unit e ≡ true → applies (ends r) e ≡ false
    by (Begin (Child p i d) call plain) q = no (Begin (Child p i d) call plain) refl refl
    by (Grant v g mode) q = no (Grant v g mode) refl refl
    by (Refuse v g mode) q = no (Refuse v g mode) refl refl
    by (Finish v x) q = no (Finish v x) refl refl
    by (EndPlain v x) q = no (EndPlain v x) refl refl
    by (EndSnapshot v at outcome) q = no (EndSnapshot v at outcome) refl refl
    by (Release v g) q = not-and (is_allowed (ends r) (Release v g)) _ (and-not (is_over ((ends r).units.phase v)) _ (ap (λ (x : UnitNo). is_over ((ends r).units.phase x)) (same_unit-true v c.unit q) ∙ ap is_over s.running))
    by (Want v g) q = no (Want v g) refl refl
    by (Bad n why) q = absurd (true≢false (sym q))
    by (Begin (Line n) call plain) q = absurd (true≢false (sym q))
    by Take q = absurd (true≢false (sym q))
    by (Vote n g kept) q = absurd (true≢false (sym q))
    by (Decide n) q = absurd (true≢false (sym q))
    by (Sealed n) q = absurd (true≢false (sym q))
    by (NotSealed n) q = absurd (true≢false (sym q))
    by (Doubt n) q = absurd (true≢false (sym q))
    by (Learn v g) q = absurd (true≢false (sym q))
    by Emitted q = absurd (true≢false (sym q))
    by Halt q = absurd (true≢false (sym q))
    by (Load g v state) q = absurd (true≢false (sym q))

-- who holds no grain holds none that it read
free-all : (u : UnitNo) (w : CoreState) (rs : List Read) → ((g : GrainId) → holds_lock u (w.cells.holds g) ≡ false) → all (λ (x : Read). not (holds_lock u (w.cells.holds x.grain))) rs ≡ true
free-all u w [] none = refl
free-all u w (x ∷ rs) none = and-both (not (holds_lock u (w.cells.holds x.grain))) _ (ap not (none x.grain)) (free-all u w rs none)
  where
    and-both : (a b : Bool) → a ≡ true → b ≡ true → (a && b) ≡ true
    and-both true b p q = q
    and-both false b p q = absurd (true≢false (sym p))

-- so a unit that is over and has no lock has ended
pub has-ended-over : (r : Run) (c : Carried) → IsOver r c [] → HasNoEventLeft (ends r) c.unit
has-ended-over r c o = record { none = over-none r c o; over = λ going. (o.over, free-all c.unit (ends r) ((ends r).units.reads c.unit) o.locks) }

-- and one that was stopped
pub has-ended-stopped : (r : Run) (c : Carried) → IsBarred r c → HasNoEventLeft (ends r) c.unit
has-ended-stopped r c s = record { none = stopped-none r c s; over = λ going. absurd (s.stopped going) }
