-- What the begin of a unit leaves of the one that asked for it, and of the new one.
use Rattle.std.proofs.Common.{◌≡◌, ◌≤◌, ℕ, List, [], ◌∷◌, ◌++◌, Bool, true, false, true≢false, refl, sym, ap, ◌∙◌, subst, arith, Option, Some, None, le_refl, inl, inr, ◌<◌}
use Rattle.std.specs.Prelude.{if◌then◌else◌, map}
use Rattle.std.proofs.lemmas.Bool.{cond-true, and_parts, cases_Bool}
use Rattle.base_types.specs.declared.calls.Origin.{Origin}
use Rattle.base_types.specs.declared.calls.Origin.TheVariants.{Line, Child}
use Rattle.cell_model.specs.Locks.{holds_lock, is_hold_of}
use Rattle.cell_model.proofs.Units.{any-none, same_unit-true, same_unit-not}
use Rattle.core_model.specs.CoreState.{UnitNo, GrainId, Hold, Call, Member, same_unit, CoreState}
use Rattle.core_model.specs.declared.effects.Read.{Read}
use Rattle.core_model.specs.declared.phases.Phase.TheVariants.{Unborn, Running}
use Rattle.core_model.specs.declared.events.CoreEvent.{CoreEvent}
use Rattle.core_model.specs.declared.events.CoreEvent.TheVariants.{Bad, Begin, Grant, Refuse, Finish, EndPlain, EndSnapshot, Release, Take, Vote, Decide, Sealed, NotSealed, Doubt, Learn, Emitted, Halt, Want, Load}
use Rattle.core_model.specs.declared.events.CoreReply.TheVariants as reply
use Rattle.core_model.specs.Tests.{is_running}
use Rattle.core_model.specs.Changes.{begun, new_unit, swept, swept_by}
use Rattle.core_model.specs.Events.{applies, can, does, is_allowed, reply_with, reply_without, reply_to, run, step}
use Rattle.core_model.specs.LegalRuns.{Run, begins, ends}
use Rattle.core_laws.proofs.Puts.{put-other, put-same}
use Rattle.core_laws.proofs.EventCases.{ask-granted}
use Rattle.script_tree.specs.Programs.{ProgramTree}
use Rattle.script_meaning.specs.Play.{IsTransaction}
use Rattle.script_meaning.specs.Trails.{Given}
use Rattle.promise_spec.specs.UnitAnswers.{GotChild, got_lock, got_by, got_from, got_in}
use Rattle.turn_rules.specs.NextEvent.{with_event, got_next}
use Rattle.turn_rules.specs.Links.{IsAwaiting}
use Rattle.turn_rules.proofs.Growth.{ends-more, got-event}
use Rattle.turn_rules.proofs.Frame.{begun-old}
use Rattle.turn_rules.proofs.AgentLinks.{child-began}
use Rattle.txn_agent.specs.declared.work.Carried.{Carried}
use Rattle.txn_agent.specs.declared.work.Work.{Work}
use Rattle.txn_agent.specs.MachineState.{found_by, source_of}
use Rattle.txn_agent.specs.CoreLink.{IsPaused, IsWaiting, IsNew}
use Rattle.txn_agent.proofs.CoreGrowth.{next-grows}
use Rattle.txn_agent.proofs.OthersEvents.{runs-born, alone-is}
use Rattle.core_laws.proofs.LoadlessKept.{LoadlessKept, loadless-begins, loadless-step, loadless-ends}

-- the reply with a number comes where the unit began
pub began-reply : (w : CoreState) (origin : Origin) (call : Call) (plain : Bool) (child : UnitNo) → reply.Began child ≡ reply_to w (Begin origin call plain) → (applies w (Begin origin call plain) ≡ true) × (child ≡ new_unit w)
began-reply w origin call plain child e = by (applies w (Begin origin call plain)) refl e
  where
    by : (b : Bool) → applies w (Begin origin call plain) ≡ b → reply.Began child ≡ (if b then reply_with w (Begin origin call plain) else reply_without w (Begin origin call plain)) → (applies w (Begin origin call plain) ≡ true) × (child ≡ new_unit w)
    by true a q = (a, (let z : child ≡ new_unit w = cc in z))
    by false a q = absurd cc

module _ (r : Run) (origin : Origin) (call : Call) (plain : Bool) (a : applies (ends r) (Begin origin call plain) ≡ true) where
  -- the last state, behind the begin
  behind : ends (with_event r (Begin origin call plain)) ≡ swept (begun (ends r) origin call plain)
  behind = ends-more r (Begin origin call plain) ∙ cond-true (applies (ends r) (Begin origin call plain)) (swept (does (ends r) (Begin origin call plain))) (ends r) a

  -- What it leaves of a unit: all but its children, if it isn't the new one.
  record IsParent (u : UnitNo) (w' : CoreState) : Type 0 where
    phase : w'.units.phase u ≡ (ends r).units.phase u
    call_of : w'.units.call u ≡ (ends r).units.call u
    origin_of : w'.units.origin u ≡ (ends r).units.origin u
    plain_of : w'.units.plain u ≡ (ends r).units.plain u
    reads : w'.units.reads ≡ (ends r).units.reads
    holds : w'.cells.holds ≡ (ends r).cells.holds

  parent-swept : (u : UnitNo) (w : CoreState) → IsParent u w → IsParent u (swept w)
  parent-swept u w i = go w.cells.capacity
    where
      go : (c : Option ℕ) → IsParent u (swept_by w c)
      go None = i
      go (Some m) = record { phase = i.phase; call_of = i.call_of; origin_of = i.origin_of; plain_of = i.plain_of; reads = i.reads; holds = i.holds }

  parent-step : (u : UnitNo) → (u ≡ new_unit (ends r) → ⊥) → IsParent u (ends (with_event r (Begin origin call plain)))
  parent-step u n = subst (IsParent u) (sym behind) (parent-swept u (begun (ends r) origin call plain) record {
    phase = put-other (ends r).units.phase (new_unit (ends r)) Running u n;
    call_of = put-other (ends r).units.call (new_unit (ends r)) call u n;
    origin_of = put-other (ends r).units.origin (new_unit (ends r)) origin u n;
    plain_of = put-other (ends r).units.plain (new_unit (ends r)) plain u n;
    reads = refl;
    holds = refl;
  })

  -- What it makes of the new one.
  record IsBorn (w' : CoreState) : Type 0 where
    phase : w'.units.phase (new_unit (ends r)) ≡ Running
    call_of : w'.units.call (new_unit (ends r)) ≡ call
    origin_of : w'.units.origin (new_unit (ends r)) ≡ origin
    plain_of : w'.units.plain (new_unit (ends r)) ≡ plain
    reads : w'.units.reads ≡ (ends r).units.reads
    holds : w'.cells.holds ≡ (ends r).cells.holds

  born-swept : (w : CoreState) → IsBorn w → IsBorn (swept w)
  born-swept w i = go w.cells.capacity
    where
      go : (c : Option ℕ) → IsBorn (swept_by w c)
      go None = i
      go (Some m) = record { phase = i.phase; call_of = i.call_of; origin_of = i.origin_of; plain_of = i.plain_of; reads = i.reads; holds = i.holds }

  born-step : IsBorn (ends (with_event r (Begin origin call plain)))
  born-step = subst IsBorn (sym behind) (born-swept (begun (ends r) origin call plain) record {
    phase = put-same (ends r).units.phase (new_unit (ends r)) Running;
    call_of = put-same (ends r).units.call (new_unit (ends r)) call;
    origin_of = put-same (ends r).units.origin (new_unit (ends r)) origin;
    plain_of = put-same (ends r).units.plain (new_unit (ends r)) plain;
    reads = refl;
    holds = refl;
  })

-- ---- the unit that asked for it

-- waits for it
pub began-waiting : (types : ProgramTree) (r : Run) (c : Carried) (work work' : Work) (trail : List Given) (call : Call) (depth index : ℕ) (child : UnitNo) →
    IsPaused types r c work trail → reply.Began child ≡ reply_to (ends r) (Begin (Child c.unit index depth) call false) → work'.call ≡ work.call → work'.sources ≡ work.sources →
    IsWaiting types (with_event r (Begin (Child c.unit index depth) call false)) c work' trail child call depth
began-waiting types r c work work' trail call depth index child p replied same sources =
    let told = began-reply (ends r) (Child c.unit index depth) call false child replied in
    let i = parent-step r (Child c.unit index depth) call false told.0 c.unit (begun-old (ends r) c.unit (loadless-ends r p.linked.above) (runs-born (ends r) c.unit p.given.running)) in
    record {
      linked = record {
        above = p.linked.above;
        call = i.call_of ∙ p.linked.call ∙ sym same;
        came = i.origin_of ∙ p.linked.came;
        kind = i.plain_of ∙ p.linked.kind;
        plainly = λ is t. p.linked.plainly is (subst (λ (x : Call). IsTransaction types x) same t);
        found = ap (λ (f : UnitNo → List Read). map found_by (f c.unit)) i.reads ∙ p.linked.found;
        sources = ap (λ (f : UnitNo → List Read). map source_of (f c.unit)) i.reads ∙ p.linked.sources ∙ sym sources;
        locks = λ g. ap (λ (f : GrainId → List Hold). holds_lock c.unit (f g)) i.holds ∙ p.linked.locks g;
        alone = λ g. ap (λ (f : GrainId → List Hold). alone-is c.unit (f g)) i.holds ∙ p.linked.alone g;
      };
      awaits = subst (λ (k : UnitNo). IsAwaiting (with_event r (Begin (Child c.unit index depth) call false)) c.unit k call depth trail) (sym told.1)
          (child-began r c.unit index depth call trail (loadless-ends r p.linked.above) told.0 p.given (i.phase ∙ p.given.running));
    }

-- ---- the new one

-- what isn't chosen
none-if : {A : Type 0} (b : Bool) (xs : List A) → b ≡ false → (if b then xs else []) ≡ []
none-if true xs e = absurd (true≢false e)
none-if false xs e = refl

-- a unit that doesn't run gets nothing by an event that applies
idle-gets : (w : CoreState) (u : UnitNo) (e : CoreEvent) → is_running (w.units.phase u) ≡ false → can w e ≡ true → got_by w u e ≡ []
idle-gets w u (Bad n why) idle a = refl
idle-gets w u (Begin (Line n) call plain) idle a = refl
idle-gets w u (Begin (Child p i d) call plain) idle a = none-if (same_unit p u) (GotChild call d (new_unit w) ∷ []) (elim (cases_Bool (same_unit p u)) [
  | inl q ↦ absurd (true≢false (sym (and_parts (is_running (w.units.phase p)) _ a).0 ∙ ap (λ (x : UnitNo). is_running (w.units.phase x)) (same_unit-true p u q) ∙ idle))
  | inr q ↦ q
])
idle-gets w u (Grant v g mode) idle a = none-if (same_unit v u) (got_lock w u g mode ∷ []) (elim (cases_Bool (same_unit v u)) [
  | inl q ↦ absurd (true≢false (sym (and_parts (is_running (w.units.phase v)) _ (ask-granted w v g mode a).0).0 ∙ ap (λ (x : UnitNo). is_running (w.units.phase x)) (same_unit-true v u q) ∙ idle))
  | inr q ↦ q
])
idle-gets w u (Refuse v g mode) idle a = refl
idle-gets w u (Finish v e) idle a = refl
idle-gets w u (EndPlain v e) idle a = refl
idle-gets w u (EndSnapshot v at outcome) idle a = refl
idle-gets w u (Release v g) idle a = refl
idle-gets w u Take idle a = refl
idle-gets w u (Vote n g kept) idle a = refl
idle-gets w u (Decide n) idle a = refl
idle-gets w u (Sealed n) idle a = refl
idle-gets w u (NotSealed n) idle a = refl
idle-gets w u (Doubt n) idle a = refl
idle-gets w u (Learn v g) idle a = refl
idle-gets w u Emitted idle a = refl
idle-gets w u Halt idle a = refl
idle-gets w u (Want v g) idle a = refl
idle-gets w u (Load g v state) idle a = refl

-- a unit whose number isn't reached got nothing
unborn-got : (es : List CoreEvent) (w : CoreState) (u : UnitNo) → LoadlessKept w → (run w es).units.next ≤ u.0 → got_from w es u ≡ []
unborn-got [] w u k far = refl
unborn-got (e ∷ es) w u k far =
    (λ i. by (applies w e) refl i ++ unborn-got es (step w e) u (loadless-step w e k) far i)
  where
    idle : is_running (w.units.phase u) ≡ false
    idle = (let a = next-grows (e ∷ es) w in ap is_running (k.0.unborn u (omega (arith, a, far))))

    by : (b : Bool) → applies w e ≡ b → (if b then got_by w u e else []) ≡ []
    by true a = idle-gets w u e idle (and_parts (is_allowed w e) (can w e) a).1
    by false a = refl

-- it has nothing but its call
pub new-is : (types : ProgramTree) (r : Run) (c : Carried) (call : Call) → 0 < r.base → reply.Began c.unit ≡ reply_to (ends r) (Begin c.origin call c.plain) → (c.plain ≡ true → IsTransaction types call → ⊥) →
    IsNew types (with_event r (Begin c.origin call c.plain)) c call
new-is types r c call above replied plainly = subst (λ (u : UnitNo). IsNew types (with_event r (Begin c.origin call c.plain)) (record { unit = u; origin = c.origin; plain = c.plain }) call) (sym told.1) record {
  above = above;
  running = i.phase;
  called = i.call_of;
  came = i.origin_of;
  kind = i.plain_of;
  plainly = plainly;
  got = got-event r (Begin c.origin call c.plain) u ∙ (λ j. before j ++ next j);
  reads = ap (λ (f : UnitNo → List Read). f u) i.reads ∙ k.0.blank u unborn;
  locks = λ g. ap (λ (f : GrainId → List Hold). holds_lock u (f g)) i.holds ∙ unlocked g;
}
  where
    u : UnitNo
    u = new_unit (ends r)

    told : (applies (ends r) (Begin c.origin call c.plain) ≡ true) × (c.unit ≡ u)
    told = began-reply (ends r) c.origin call c.plain c.unit replied

    i : IsBorn r c.origin call c.plain told.0 (ends (with_event r (Begin c.origin call c.plain)))
    i = born-step r c.origin call c.plain told.0

    k : LoadlessKept (ends r)
    k = loadless-ends r above

    unborn : (ends r).units.phase u ≡ Unborn
    unborn = (loadless-ends r above).0.unborn (new_unit (ends r)) (le_refl (ends r).units.next)

    before : got_in r u ≡ []
    before = unborn-got r.events (begins r) u (loadless-begins r above) (le_refl (ends r).units.next)

    next : got_next (ends r) (Begin c.origin call c.plain) u ≡ []
    next = by (applies (ends r) (Begin c.origin call c.plain)) refl
      where
        by : (b : Bool) → applies (ends r) (Begin c.origin call c.plain) ≡ b → (if b then got_by (ends r) u (Begin c.origin call c.plain) else []) ≡ []
        by true a = idle-gets (ends r) u (Begin c.origin call c.plain) (ap is_running unborn) (and_parts (is_allowed (ends r) (Begin c.origin call c.plain)) (can (ends r) (Begin c.origin call c.plain)) a).1
        by false a = refl

    unlocked : (g : GrainId) → holds_lock u ((ends r).cells.holds g) ≡ false
    unlocked g = any-none (is_hold_of u) ((ends r).cells.holds g) (λ h m. same_unit-not h.unit u (λ q.
        let t = k.0.told g h m in
        let s = k.0.seen g t.0 t.1 in
        nothing s.0 (subst (λ (x : UnitNo). Member s.0 ((ends r).units.reads x)) (t.2 ∙ q) s.1)))
      where
        nothing : (x : Read) → Member x ((ends r).units.reads u) → ⊥
        nothing x m = subst (Member x) (k.0.blank u unborn) m
