-- The link of an agent and the run: what it may put, what stays by events of others, and what its own events make of it.
use Rattle.std.proofs.Common.{◌≡◌, ℕ, Option, Some, None, List, [], ◌∷◌, ◌++◌, Bool, true, false, ◌⊎◌, inl, inr, refl, sym, ap, ◌∙◌, subst, arith}
use Rattle.std.specs.Prelude.{option_and_then, if◌then◌else◌, ◌||◌, ◌&&◌, ◌==◌, nat_lt}
use Rattle.std.proofs.lemmas.Bool.{cond-true, cond-false, cases_Bool, or_from, ltb-true}
use Rattle.base_types.specs.declared.calls.Origin.TheVariants.{Child}
use Rattle.base_types.specs.declared.calls.Mode.TheVariants.{Update}
use Rattle.cell_model.specs.Locks.{holds_lock}
use Rattle.cell_model.proofs.Units.{same_unit-is, same_grain-true, any-true}
use Rattle.core_model.specs.CoreState.{UnitNo, GrainId, Call, Outcome, Mode, Member, same_grain, top, CoreState}
use Rattle.core_model.specs.declared.effects.Effect.{Effect}
use Rattle.core_model.specs.declared.phases.Phase.TheVariants.{Unborn, Running}
use Rattle.core_model.specs.Tests.{is_over, is_before, outcome_of}
use Rattle.core_model.specs.Changes.{new_unit, cleaned}
use Rattle.core_model.specs.declared.events.CoreEvent.{CoreEvent}
use Rattle.core_model.specs.declared.events.CoreEvent.TheVariants.{Begin, Grant, Refuse, Finish, EndPlain, Release}
use Rattle.core_model.specs.Events.{applies, step}
use Rattle.core_model.specs.LegalRuns.{Run, ends}
use Rattle.core_laws.proofs.Growth.{grows-step, grows-outcome}
use Rattle.script_tree.specs.Programs.{ProgramTree}
use Rattle.script_meaning.specs.Trails.{Given, GivenLock, GivenRaise, GivenOutcome}
use Rattle.promise_spec.specs.UnitAnswers.{Got, GotLock, GotRaise, GotChild, got_lock, got_by, and_given, given_by, wanted_by, wanted_lock, got_in}
use Rattle.promise_spec.specs.UnitRule.{Basis, IsDue, IsPlayOf}
use Rattle.turn_rules.specs.NextEvent.{with_event, is_own}
use Rattle.turn_rules.specs.UnitFrame.{IsStill}
use Rattle.turn_rules.specs.Links.{asks_next, HasTrail, IsAwaiting, HoldsLocks, IsFreeing}
use Rattle.script_meaning.specs.Play as script
use Rattle.turn_rules.proofs.Frame.{Extends, given-stays, got-stays, still-step, wants-as}
use Rattle.turn_rules.proofs.Growth.{ends-more, got-event}
use Rattle.turn_rules.proofs.Movers.{still-locks}
use Rattle.promise_spec.proofs.Lists.{some_is}
use Rattle.core_laws.proofs.LoadlessKept.{LoadlessKept}

-- ---- what may be put

-- what it wants is what its script asks for
pub wants : (types : ProgramTree) (r : Run) (u : UnitNo) (trail : List Given) → HasTrail r u trail → wanted_by types (ends r) u (got_in r u) ≡ Some (asks_next types r u trail)
wants types r u trail g = wants-as types (ends r) u (got_in r u) trail g.given

module _ (s : Basis) (r : Run) (u : UnitNo) (trail : List Given) (given : HasTrail r u trail) where
  -- the lock that is asked for
  pub due-lock : (g : GrainId) (mode : Mode) → asks_next s.types r u trail ≡ script.WantLock g mode → IsDue s (ends r) (got_in r) (Grant u g mode)
  due-lock g mode e = ap wanted_lock (wants s.types r u trail given ∙ ap Some e)

  -- the exclusive lock in place of a shared one
  pub due-raise : (g : GrainId) → asks_next s.types r u trail ≡ script.WantRaise g → IsDue s (ends r) (got_in r) (Grant u g Update)
  due-raise g e = ap wanted_lock (wants s.types r u trail given ∙ ap Some e)

  -- the refusal of a lock
  pub due-refusal : (g : GrainId) (mode : Mode) → asks_next s.types r u trail ≡ script.WantLock g mode → IsDue s (ends r) (got_in r) (Refuse u g mode)
  due-refusal g mode e = ap wanted_lock (wants s.types r u trail given ∙ ap Some e)

  -- and of an exclusive one in place of a shared one
  pub due-raise-refusal : (g : GrainId) → asks_next s.types r u trail ≡ script.WantRaise g → IsDue s (ends r) (got_in r) (Refuse u g Update)
  due-raise-refusal g e = ap wanted_lock (wants s.types r u trail given ∙ ap Some e)

  -- the child that is asked for
  pub due-child : (index depth : ℕ) (call : Call) → asks_next s.types r u trail ≡ script.WantUnit call depth → IsDue s (ends r) (got_in r) (Begin (Child u index depth) call false)
  due-child index depth call e = (wants s.types r u trail given ∙ ap Some e, refl)

  -- the end of a transaction
  pub due-finish : (effect : Effect) → asks_next s.types r u trail ≡ script.Over effect.result → IsPlayOf s.types effect → IsDue s (ends r) (got_in r) (Finish u effect)
  due-finish effect e play = (wants s.types r u trail given ∙ ap Some e, play)

  -- and of a plain run
  pub due-end : (effect : Effect) → asks_next s.types r u trail ≡ script.Over effect.result → IsPlayOf s.types effect → IsDue s (ends r) (got_in r) (EndPlain u effect)
  due-end effect e play = (wants s.types r u trail given ∙ ap Some e, play)

-- no grain comes before itself
before-itself : (g : GrainId) → is_before g g ≡ false
before-itself g = by (cases_Bool (nat_lt g.kind g.kind)) (cases_Bool (nat_lt g.key g.key))
  where
    less : (n : ℕ) → nat_lt n n ≡ true → ⊥
    less n e = (let t = ltb-true n n e in omega (arith, t))

    by : (nat_lt g.kind g.kind ≡ true) ⊎ (nat_lt g.kind g.kind ≡ false) → (nat_lt g.key g.key ≡ true) ⊎ (nat_lt g.key g.key ≡ false) → (nat_lt g.kind g.kind || ((g.kind == g.kind) && nat_lt g.key g.key)) ≡ false
    by (inl a) b = absurd (less g.kind a)
    by (inr a) (inl b) = absurd (less g.key b)
    by (inr a) (inr b) = or_from (nat_lt g.kind g.kind) ((g.kind == g.kind) && nat_lt g.key g.key) a (and-none (g.kind == g.kind) (nat_lt g.key g.key) b)
      where
        and-none : (x y : Bool) → y ≡ false → (x && y) ≡ false
        and-none true y e = e
        and-none false y e = refl

-- the first of the locks that are left may be released
pub due-release : (s : Basis) (r : Run) (u : UnitNo) (g : GrainId) (rest : List GrainId) → IsFreeing r u (g ∷ rest) → IsDue s (ends r) (got_in r) (Release u g)
due-release s r u g rest f h e = by (any-true (same_grain h) (g ∷ rest) (sym (f.locks h) ∙ e))
  where
    by : (x : GrainId) × Member x (g ∷ rest) × (same_grain h x ≡ true) → is_before h g ≡ false
    by (x, inl q, s) = ap (λ (z : GrainId). is_before z g) (same_grain-true h x s ∙ q) ∙ before-itself g
    by (x, inr m, s) = ap (λ (z : GrainId). is_before z g) (same_grain-true h x s) ∙ f.ascending.0 x m

-- ---- events of others

-- a known outcome stays
pub outcomes-stay : (r : Run) (e : CoreEvent) → LoadlessKept (ends r) → Extends (outcome_of (ends r)) (outcome_of (ends (with_event r e)))
outcomes-stay r e k = subst (λ (w : CoreState). Extends (outcome_of (ends r)) (outcome_of w)) (sym (ends-more r e)) (grows-outcome (ends r) (step (ends r) e) (grows-step (ends r) e k))

-- who runs has begun
runs-born : (w : CoreState) (u : UnitNo) → w.units.phase u ≡ Running → w.units.phase u ≡ Unborn → ⊥
runs-born w u q e = (let t : Unborn ≡ Running = sym e ∙ q in absurd cc)

-- and who is over
over-born : (w : CoreState) (u : UnitNo) → is_over (w.units.phase u) ≡ true → w.units.phase u ≡ Unborn → ⊥
over-born w u o e = (let t : false ≡ true = sym (ap is_over e) ∙ o in cc)

-- another's event leaves a unit as it was
pub still-others : (r : Run) (u : UnitNo) (e : CoreEvent) → LoadlessKept (ends r) → ((ends r).units.phase u ≡ Unborn → ⊥) → is_own u e ≡ false → IsStill u (ends r) (ends (with_event r e))
still-others r u e k b o = subst (IsStill u (ends r)) (sym (ends-more r e)) (still-step u (ends r) e k b o)

-- and what it was given
pub given-others : (r : Run) (u : UnitNo) (trail : List Given) (e : CoreEvent) → LoadlessKept (ends r) → is_own u e ≡ false → HasTrail r u trail → HasTrail (with_event r e) u trail
given-others r u trail e k o g =
    let s = still-others r u e k (runs-born (ends r) u g.running) o in
    record {
      running = s.phase ∙ g.running;
      given = subst (λ (l : List Got). given_by (ends (with_event r e)) l ≡ Some trail) (sym (got-stays r u e o)) (given-stays (ends r) (ends (with_event r e)) (got_in r u) trail (outcomes-stay r e k) g.given);
    }

-- and the child that it waits for
pub awaiting-others : (r : Run) (u child : UnitNo) (call : Call) (depth : ℕ) (trail : List Given) (e : CoreEvent) → LoadlessKept (ends r) → is_own u e ≡ false →
    IsAwaiting r u child call depth trail → IsAwaiting (with_event r e) u child call depth trail
awaiting-others r u child call depth trail e k o a =
    let s = still-others r u e k (runs-born (ends r) u a.running) o in
    record {
      running = s.phase ∙ a.running;
      before = a.before;
      got = got-stays r u e o ∙ a.got;
      given = given-stays (ends r) (ends (with_event r e)) a.before trail (outcomes-stay r e k) a.given;
    }

-- and its locks
pub holds-others : (r : Run) (u : UnitNo) (held : List GrainId) (e : CoreEvent) → LoadlessKept (ends r) → ((ends r).units.phase u ≡ Unborn → ⊥) → is_own u e ≡ false →
    HoldsLocks r u held → HoldsLocks (with_event r e) u held
holds-others r u held e k b o h g = still-locks u (ends r) (ends (with_event r e)) (still-others r u e k b o) g ∙ h g

-- and those that are left to be released
pub freeing-others : (r : Run) (u : UnitNo) (held : List GrainId) (e : CoreEvent) → LoadlessKept (ends r) → is_own u e ≡ false → IsFreeing r u held → IsFreeing (with_event r e) u held
freeing-others r u held e k o f =
    let b = over-born (ends r) u f.over in
    record {
      over = ap is_over (still-others r u e k b o).phase ∙ f.over;
      locks = holds-others r u held e k b o f.locks;
      ascending = f.ascending;
    }

-- ---- the unit's own events

-- one more was given
given-last : (w : CoreState) (got : List Got) (trail : List Given) (x : Got) (one : Given) → given_by w got ≡ Some trail → given_by w (x ∷ []) ≡ Some (one ∷ []) → given_by w (got ++ (x ∷ [])) ≡ Some (trail ++ (one ∷ []))
given-last w got trail x one e last = by got trail e
  where
    on : (g : Given) (rest : Option (List Given)) (trail : List Given) → and_given g rest ≡ Some trail → (more : List Given) × (rest ≡ Some more) × (g ∷ more ≡ trail)
    on g None trail e = absurd cc
    on g (Some more) trail e = (more, refl, some_is (g ∷ more) trail e)

    step_by : (g : Given) (rest rest' : Option (List Given)) (trail : List Given) → and_given g rest ≡ Some trail → ((more : List Given) → rest ≡ Some more → rest' ≡ Some (more ++ (one ∷ []))) → and_given g rest' ≡ Some (trail ++ (one ∷ []))
    step_by g rest rest' trail e go =
        let t = on g rest trail e in
        ap (and_given g) (go t.0 t.1) ∙ ap (λ (l : List Given). Some (l ++ (one ∷ []))) t.2

    kid : (call : Call) (d : ℕ) (c : UnitNo) (got : List Got) (trail : List Given) → ((more : List Given) → given_by w got ≡ Some more → given_by w (got ++ (x ∷ [])) ≡ Some (more ++ (one ∷ []))) → (o : Option Outcome) →
        option_and_then (λ outcome. and_given (GivenOutcome call d outcome) (given_by w got)) o ≡ Some trail →
        option_and_then (λ outcome. and_given (GivenOutcome call d outcome) (given_by w (got ++ (x ∷ [])))) o ≡ Some (trail ++ (one ∷ []))
    kid call d c got trail go None e = absurd cc
    kid call d c got trail go (Some o) e = step_by (GivenOutcome call d o) (given_by w got) (given_by w (got ++ (x ∷ []))) trail e go

    by : (got : List Got) (trail : List Given) → given_by w got ≡ Some trail → given_by w (got ++ (x ∷ [])) ≡ Some (trail ++ (one ∷ []))
    by [] trail e = last ∙ ap (λ (l : List Given). Some (l ++ (one ∷ []))) (some_is [] trail e)
    by (GotLock g mode state ∷ got) trail e = step_by (GivenLock g mode state) (given_by w got) (given_by w (got ++ (x ∷ []))) trail e (λ more. by got more)
    by (GotRaise g ∷ got) trail e = step_by (GivenRaise g) (given_by w got) (given_by w (got ++ (x ∷ []))) trail e (λ more. by got more)
    by (GotChild call d c ∷ got) trail e = kid call d c got trail (λ more. by got more) (outcome_of w c) e

-- the child is decided: its outcome is given
pub heard : (r : Run) (u child : UnitNo) (call : Call) (depth : ℕ) (trail : List Given) (o : Outcome) → IsAwaiting r u child call depth trail → outcome_of (ends r) child ≡ Some o → HasTrail r u (trail ++ (GivenOutcome call depth o ∷ []))
heard r u child call depth trail o a e = record {
  running = a.running;
  given = subst (λ (l : List Got). given_by (ends r) l ≡ Some (trail ++ (GivenOutcome call depth o ∷ []))) (sym a.got)
      (given-last (ends r) a.before trail (GotChild call depth child) (GivenOutcome call depth o) a.given
      (ap (λ (x : Option Outcome). option_and_then (λ outcome. and_given (GivenOutcome call depth outcome) (Some [])) x) e));
}

-- what the unit got by an event that applies
got-applied : (r : Run) (u : UnitNo) (e : CoreEvent) → applies (ends r) e ≡ true → got_in (with_event r e) u ≡ got_in r u ++ got_by (ends r) u e
got-applied r u e a = got-event r e u ∙ ap (λ (t : Bool). got_in r u ++ (if t then got_by (ends r) u e else [])) a

-- a child of its own began
pub child-began : (r : Run) (u : UnitNo) (index depth : ℕ) (call : Call) (trail : List Given) → LoadlessKept (ends r) → applies (ends r) (Begin (Child u index depth) call false) ≡ true → HasTrail r u trail →
    (ends (with_event r (Begin (Child u index depth) call false))).units.phase u ≡ Running → IsAwaiting (with_event r (Begin (Child u index depth) call false)) u (new_unit (ends r)) call depth trail
child-began r u index depth call trail k a g still = record {
  running = still;
  before = got_in r u;
  got = got-applied r u (Begin (Child u index depth) call false) a ∙ ap (λ (t : Bool). got_in r u ++ (if t then GotChild call depth (new_unit (ends r)) ∷ [] else [])) (same_unit-is u u refl);
  given = given-stays (ends r) (ends (with_event r (Begin (Child u index depth) call false))) (got_in r u) trail (outcomes-stay r (Begin (Child u index depth) call false) k) g.given;
}

-- a grain was locked for the first time
pub locked-first : (r : Run) (u : UnitNo) (g : GrainId) (mode : Mode) (trail : List Given) → LoadlessKept (ends r) → applies (ends r) (Grant u g mode) ≡ true → holds_lock u ((ends r).cells.holds g) ≡ false → HasTrail r u trail →
    (ends (with_event r (Grant u g mode))).units.phase u ≡ Running → HasTrail (with_event r (Grant u g mode)) u (trail ++ (GivenLock g mode (top (cleaned (ends r) g)).state ∷ []))
locked-first r u g mode trail k a fresh given still = record {
  running = still;
  given = subst (λ (l : List Got). given_by (ends (with_event r (Grant u g mode))) l ≡ Some (trail ++ (GivenLock g mode (top (cleaned (ends r) g)).state ∷ [])))
      (sym (got-applied r u (Grant u g mode) a
      ∙ ap (λ (t : Bool). got_in r u ++ (if t then got_lock (ends r) u g mode ∷ [] else [])) (same_unit-is u u refl)
      ∙ ap (λ (x : Got). got_in r u ++ (x ∷ [])) (lock-first fresh)))
      (given-last (ends (with_event r (Grant u g mode))) (got_in r u) trail (GotLock g mode (top (cleaned (ends r) g)).state) (GivenLock g mode (top (cleaned (ends r) g)).state)
      (given-stays (ends r) (ends (with_event r (Grant u g mode))) (got_in r u) trail (outcomes-stay r (Grant u g mode) k) given.given) refl);
}
  where
    lock-first : holds_lock u ((ends r).cells.holds g) ≡ false → got_lock (ends r) u g mode ≡ GotLock g mode (top (cleaned (ends r) g)).state
    lock-first e = cond-false (holds_lock u ((ends r).cells.holds g)) (GotRaise g) (GotLock g mode (top (cleaned (ends r) g)).state) e

-- a shared lock became exclusive
pub locked-again : (r : Run) (u : UnitNo) (g : GrainId) (trail : List Given) → LoadlessKept (ends r) → applies (ends r) (Grant u g Update) ≡ true → holds_lock u ((ends r).cells.holds g) ≡ true → HasTrail r u trail →
    (ends (with_event r (Grant u g Update))).units.phase u ≡ Running → HasTrail (with_event r (Grant u g Update)) u (trail ++ (GivenRaise g ∷ []))
locked-again r u g trail k a held given still = record {
  running = still;
  given = subst (λ (l : List Got). given_by (ends (with_event r (Grant u g Update))) l ≡ Some (trail ++ (GivenRaise g ∷ [])))
      (sym (got-applied r u (Grant u g Update) a
      ∙ ap (λ (t : Bool). got_in r u ++ (if t then got_lock (ends r) u g Update ∷ [] else [])) (same_unit-is u u refl)
      ∙ ap (λ (x : Got). got_in r u ++ (x ∷ [])) (cond-true (holds_lock u ((ends r).cells.holds g)) (GotRaise g) (GotLock g Update (top (cleaned (ends r) g)).state) held)))
      (given-last (ends (with_event r (Grant u g Update))) (got_in r u) trail (GotRaise g) (GivenRaise g)
      (given-stays (ends r) (ends (with_event r (Grant u g Update))) (got_in r u) trail (outcomes-stay r (Grant u g Update) k) given.given) refl);
}
