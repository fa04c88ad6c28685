-- What an event that applies does, case by case, with what its tests say.
use Rattle.std.proofs.Common.{◌≡◌, ℕ, ◌+◌, ◌<◌, List, [], length, Bool, true, false, ◌&&◌, not, ◌⊎◌, inl, inr, refl, sym, ap, ◌∙◌, subst, Option, Some, None, eqb-true, nat_lt, is_some, is_none}
use Rattle.std.specs.Prelude.{◌==◌, if◌then◌else◌}
use Rattle.std.proofs.lemmas.Bool.{and_parts, cond_both, not-true, ltb-true}
use Rattle.base_types.specs.declared.calls.Outcome.TheVariants.{Aborted as aborted}
use Rattle.base_types.specs.declared.entries.BadRequest.{BadRequest}
use Rattle.base_types.specs.declared.entries.Settled.TheVariants as settled
use Rattle.cell_model.specs.Locks as locks
use Rattle.cell_model.specs.Locks.{covers, conflicts, holds_lock}
use Rattle.cell_model.specs.declared.locks.Ask.{Ask}
use Rattle.cell_model.specs.declared.locks.Ask.TheVariants.{Free, Held, MustWait, MustDie}
use Rattle.cell_model.specs.Decisions.{is_commit}
use Rattle.cell_model.proofs.LockAnswers.{ask-free}
use Rattle.core_model.specs.declared.questions.AskAnswer.TheVariants as answer
use Rattle.core_model.specs.CoreState.{UnitNo, GrainId, Member, same_unit, same_grain, Value, Call, Outcome, Origin, Settled, Hold, Mode, Batch, Decision, CoreState}
use Rattle.core_model.specs.declared.phases.Phase.TheVariants.{Running}
use Rattle.core_model.specs.declared.effects.Effect.{Effect}
use Rattle.core_model.specs.Tests.{any, all, is_running, is_over, is_final, state_written, ask_answer, ask_lock, ask_doom, doomed_by, is_active, is_planned, is_vote_on, is_voted, is_wanted, is_empty}
use Rattle.core_model.specs.Equality.{same_reads, same_outcome}
use Rattle.core_model.specs.Changes.{spoiled_line, begun, restacked, cleaned, after_lock, after_raise, refusal, after_refusal, refused_by, finished, after_end, after_release, after_take, voted, decisions_of, with_decisions, decided, on_batch, on_decided, on_decisions, sealed, spoiled, in_doubt, after_learn, loaded}
use Rattle.core_model.specs.Events.{is_free_answer, can_begin, is_of_call, holds_alone, batch_size, is_open, is_judged, can, does}
use Rattle.core_model.specs.declared.events.CoreEvent.{CoreEvent}
use Rattle.core_model.specs.declared.events.CoreEvent.TheVariants.{Bad, Begin, Grant, Refuse, Finish, EndPlain, EndSnapshot, Release, Take, Vote, Decide, Sealed, NotSealed, Doubt, Learn, Emitted, Halt, Want, Load}
use Rattle.core_laws.proofs.Basics.{is_running-true, same_reads-true}

pub data Change (w : CoreState) : CoreEvent → CoreState → Type 0 where
  bad : (line : ℕ) (why : BadRequest) → line ≡ w.units.lines + 1 → Change w (Bad line why) (spoiled_line w line why)
  begin : (origin : Origin) (call : Call) (plain : Bool) → can_begin w origin ≡ true → Change w (Begin origin call plain) (begun w origin call plain)
  lock : (u : UnitNo) (g : GrainId) (mode : Mode) → w.units.phase u ≡ Running → ((h : Hold) → Member h (w.cells.holds g) → conflicts u mode h ≡ false) →
      holds_lock u (w.cells.holds g) ≡ false → w.cells.here g ≡ true → Change w (Grant u g mode) (after_lock (restacked w g (cleaned w g)) u g mode)
  raise : (u : UnitNo) (g : GrainId) (mode : Mode) → w.units.phase u ≡ Running → ((h : Hold) → Member h (w.cells.holds g) → conflicts u mode h ≡ false) →
      holds_lock u (w.cells.holds g) ≡ true → w.cells.here g ≡ true → any (covers u mode) (w.cells.holds g) ≡ false → Change w (Grant u g mode) (after_raise (restacked w g (cleaned w g)) u g mode)
  refuse : (u : UnitNo) (g : GrainId) (mode : Mode) (why : Settled) → w.units.phase u ≡ Running → refusal g (ask_answer w u g mode) ≡ Some why → Change w (Refuse u g mode) (after_refusal w u why)
  finish : (u : UnitNo) (effect : Effect) → w.units.phase u ≡ Running → w.units.plain u ≡ false → is_of_call w u effect ≡ true → effect.reads ≡ w.units.reads u →
      all (λ x. holds_alone w u x.0) effect.writes ≡ true → Change w (Finish u effect) (finished w u effect)
  end_plain : (u : UnitNo) (effect : Effect) → w.units.phase u ≡ Running → w.units.plain u ≡ true → is_of_call w u effect ≡ true → (is_empty effect.reads ≡ true) × (is_empty effect.writes ≡ true) → Change w (EndPlain u effect) (after_end w u effect.answers effect.result None)
  end_snapshot : (u : UnitNo) (at : ℕ) (outcome : Outcome) → w.units.phase u ≡ Running → w.units.plain u ≡ true → is_empty (w.units.kids u) ≡ true → same_outcome outcome aborted ≡ false →
      Change w (EndSnapshot u at outcome) (after_end w u [] outcome (Some at))
  release : (u : UnitNo) (g : GrainId) → is_over (w.units.phase u) ≡ true → holds_lock u (w.cells.holds g) ≡ true → Change w (Release u g) (after_release w u g)
  take_batch : w.manager.batch ≡ None → 0 < batch_size w → Change w Take (after_take w (batch_size w))
  vote : (n : ℕ) (g : GrainId) (kept : Bool) (b : Batch) → w.manager.batch ≡ Some b → b.number ≡ n → b.decisions ≡ None → is_planned b g ≡ true → any (is_vote_on g) b.votes ≡ false →
      Change w (Vote n g kept) (voted w b g kept)
  decide_some : (n : ℕ) (b : Batch) → w.manager.batch ≡ Some b → b.number ≡ n → b.decisions ≡ None → is_voted b ≡ true → any is_commit (decisions_of w b) ≡ true →
      Change w (Decide n) (with_decisions w b (decisions_of w b))
  decide_none : (n : ℕ) (b : Batch) → w.manager.batch ≡ Some b → b.number ≡ n → b.decisions ≡ None → is_voted b ≡ true → any is_commit (decisions_of w b) ≡ false →
      Change w (Decide n) (sealed (with_decisions w b (decisions_of w b)) b (decisions_of w b))
  seal_batch : (n : ℕ) (b : Batch) (ds : List Decision) → w.manager.batch ≡ Some b → b.number ≡ n → b.decisions ≡ Some ds → Change w (Sealed n) (sealed w b ds)
  spoil_batch : (n : ℕ) (b : Batch) (ds : List Decision) → w.manager.batch ≡ Some b → b.number ≡ n → b.decisions ≡ Some ds → Change w (NotSealed n) (spoiled w b ds)
  doubt_batch : (n : ℕ) (b : Batch) (ds : List Decision) → w.manager.batch ≡ Some b → b.number ≡ n → b.decisions ≡ Some ds → Change w (Doubt n) (in_doubt w b ds)
  learn : (u : UnitNo) (g : GrainId) → is_some (state_written g (w.manager.writes u)) ≡ true → is_final (w.manager.verdict u) ≡ true → w.cells.learnt u g ≡ false → Change w (Learn u g) (after_learn w u g)
  emit : w.manager.emitted < length w.manager.settled → Change w Emitted (does w Emitted)
  halt_run : w.units.halt ≡ false → Change w Halt (does w Halt)
  want : (u : UnitNo) (g : GrainId) → w.units.phase u ≡ Running → holds_lock u (w.cells.holds g) ≡ false → any (λ t. same_unit t.0 u && same_grain t.1 g) w.units.wants ≡ false → Change w (Want u g) (does w (Want u g))
  load : (g : GrainId) (u : UnitNo) (state : List Value) → w.cells.here g ≡ false → is_wanted w.units.wants g ≡ true → Change w (Load g u state) (loaded w g u state)

pub none-true : {A : Type 0} (o : Option A) → is_none o ≡ true → o ≡ None
none-true None e = refl
none-true (Some x) e = cc

some-true : {A : Type 0} (o : Option A) → is_some o ≡ true → (x : A) × (o ≡ Some x)
some-true None e = cc
some-true (Some x) e = (x, refl)

-- a batch that is open, and one that is decided
is_open-true : (n : ℕ) (test : Batch → Bool) (o : Option Batch) → is_open n test o ≡ true → (b : Batch) × (o ≡ Some b) × (b.number ≡ n) × (b.decisions ≡ None) × (test b ≡ true)
is_open-true n test None e = cc
is_open-true n test (Some b) e =
    let p = and_parts (b.number == n) _ e in
    let q = and_parts (is_none b.decisions) (test b) p.1 in
    (b, refl, eqb-true _ _ p.0, none-true b.decisions q.0, q.1)

is_judged-true : (n : ℕ) (o : Option Batch) → is_judged n o ≡ true → (b : Batch) × (o ≡ Some b) × (b.number ≡ n) × ((ds : List Decision) × (b.decisions ≡ Some ds))
is_judged-true n None e = cc
is_judged-true n (Some b) e =
    let p = and_parts (b.number == n) (is_some b.decisions) e in
    (b, refl, eqb-true _ _ p.0, some-true b.decisions p.1)

judged-is : (w : CoreState) (f : Batch → List Decision → CoreState) (b : Batch) (ds : List Decision) → w.manager.batch ≡ Some b → b.decisions ≡ Some ds → on_decided w f w.manager.batch ≡ f b ds
judged-is w f b ds e d = ap (on_decided w f) e ∙ ap (on_decisions w (f b)) d

-- what the tests of a grant say
pub ask-granted : (w : CoreState) (u : UnitNo) (g : GrainId) (mode : Mode) → is_free_answer (ask_answer w u g mode) ≡ true →
    (is_active w u g ≡ true) × (doomed_by w u ≡ None) × (locks.ask (w.cells.holds g) u mode ≡ Free) × (w.cells.here g ≡ true)
ask-granted w u g mode e = by_active (is_active w u g) refl e
  where
    by_lock : (a : Ask) → locks.ask (w.cells.holds g) u mode ≡ a → (here : Bool) → w.cells.here g ≡ here → is_free_answer (ask_lock here a) ≡ true → (locks.ask (w.cells.holds g) u mode ≡ Free) × (w.cells.here g ≡ true)
    by_lock Free q true h t = (q, h)
    by_lock Free q false h t = cc
    by_lock Held q here h t = cc
    by_lock (MustWait v) q here h t = cc
    by_lock (MustDie v) q here h t = cc

    by_doom : (o : Option UnitNo) → doomed_by w u ≡ o → is_free_answer (ask_doom o (ask_lock (w.cells.here g) (locks.ask (w.cells.holds g) u mode))) ≡ true →
        (doomed_by w u ≡ None) × (locks.ask (w.cells.holds g) u mode ≡ Free) × (w.cells.here g ≡ true)
    by_doom None q t = (let r = by_lock (locks.ask (w.cells.holds g) u mode) refl (w.cells.here g) refl t in (q, r.0, r.1))
    by_doom (Some s) q t = cc

    by_active : (a : Bool) → is_active w u g ≡ a → is_free_answer (if a then ask_doom (doomed_by w u) (ask_lock (w.cells.here g) (locks.ask (w.cells.holds g) u mode)) else answer.NotActive) ≡ true →
        (is_active w u g ≡ true) × (doomed_by w u ≡ None) × (locks.ask (w.cells.holds g) u mode ≡ Free) × (w.cells.here g ≡ true)
    by_active true q t = (let r = by_doom (doomed_by w u) refl t in (q, r.0, r.1, r.2))
    by_active false q t = cc

-- what the tests of a refusal say
pub ask-refused : (w : CoreState) (u : UnitNo) (g : GrainId) (mode : Mode) (why : Settled) → refusal g (ask_answer w u g mode) ≡ Some why →
    (is_active w u g ≡ true)
    × (((source : UnitNo) × (doomed_by w u ≡ Some source) × (why ≡ settled.Dependency source))
    ⊎ ((holder : UnitNo) × (doomed_by w u ≡ None) × (locks.ask (w.cells.holds g) u mode ≡ MustDie holder) × (why ≡ settled.Lock holder g)))
ask-refused w u g mode why e = by_active (is_active w u g) refl e
  where
    Reason : Type 0
    Reason = ((source : UnitNo) × (doomed_by w u ≡ Some source) × (why ≡ settled.Dependency source))
        ⊎ ((holder : UnitNo) × (doomed_by w u ≡ None) × (locks.ask (w.cells.holds g) u mode ≡ MustDie holder) × (why ≡ settled.Lock holder g))

    by_lock : doomed_by w u ≡ None → (a : Ask) → locks.ask (w.cells.holds g) u mode ≡ a → (here : Bool) → refusal g (ask_lock here a) ≡ Some why → Reason
    by_lock n Free q true t = cc
    by_lock n Free q false t = cc
    by_lock n Held q here t = cc
    by_lock n (MustWait v) q here t = cc
    by_lock n (MustDie v) q here t = (let z : why ≡ settled.Lock v g = cc in inr (v, n, q, z))

    by_doom : (o : Option UnitNo) → doomed_by w u ≡ o → refusal g (ask_doom o (ask_lock (w.cells.here g) (locks.ask (w.cells.holds g) u mode))) ≡ Some why → Reason
    by_doom None q t = by_lock q (locks.ask (w.cells.holds g) u mode) refl (w.cells.here g) t
    by_doom (Some s) q t = (let z : why ≡ settled.Dependency s = cc in inl (s, q, z))

    by_active : (a : Bool) → is_active w u g ≡ a → refusal g (if a then ask_doom (doomed_by w u) (ask_lock (w.cells.here g) (locks.ask (w.cells.holds g) u mode)) else answer.NotActive) ≡ Some why →
        (is_active w u g ≡ true) × Reason
    by_active true q t = (q, by_doom (doomed_by w u) refl t)
    by_active false q t = cc

active-running : (w : CoreState) (u : UnitNo) (g : GrainId) → is_active w u g ≡ true → w.units.phase u ≡ Running
active-running w u g e = is_running-true _ (and_parts (is_running (w.units.phase u)) (nat_lt g.kind w.units.kinds) e).0

pub decode : (w : CoreState) (e : CoreEvent) → can w e ≡ true → Change w e (does w e)
decode w (Bad line why) c = bad line why (eqb-true _ _ c)
decode w (Begin origin call plain) c = begin origin call plain c
decode w (Grant u g mode) c =
    let t = ask-granted w u g mode c in
    let free = ask-free (w.cells.holds g) u mode t.2 in
    cond_both (holds_lock u (w.cells.holds g)) (after_raise (restacked w g (cleaned w g)) u g mode) (after_lock (restacked w g (cleaned w g)) u g mode) (Change w (Grant u g mode))
    (λ h. raise u g mode (active-running w u g t.0) free.1 h t.3 free.0)
    (λ h. lock u g mode (active-running w u g t.0) free.1 h t.3)
decode w (Refuse u g mode) c =
    let t = some-true (refusal g (ask_answer w u g mode)) c in
    subst (Change w (Refuse u g mode)) (sym (ap (refused_by w u) t.1))
    (refuse u g mode t.0 (active-running w u g (ask-refused w u g mode t.0 t.1).0) t.1)
decode w (Finish u effect) c =
    let p = and_parts (is_running (w.units.phase u) && not (w.units.plain u)) _ c in
    let q = and_parts (is_running (w.units.phase u)) (not (w.units.plain u)) p.0 in
    let r = and_parts (is_of_call w u effect) _ p.1 in
    let s = and_parts (same_reads effect.reads (w.units.reads u)) _ r.1 in
    finish u effect (is_running-true _ q.0) (not-true _ q.1) r.0 (same_reads-true _ _ s.0) s.1
decode w (EndPlain u effect) c =
    let p = and_parts (is_running (w.units.phase u) && w.units.plain u) _ c in
    let q = and_parts (is_running (w.units.phase u)) (w.units.plain u) p.0 in
    let r = and_parts (is_of_call w u effect) _ p.1 in
    end_plain u effect (is_running-true _ q.0) q.1 r.0 (and_parts (is_empty effect.reads) (is_empty effect.writes) r.1)
decode w (EndSnapshot u at outcome) c =
    let p = and_parts (is_running (w.units.phase u) && w.units.plain u) _ c in
    let q = and_parts (is_running (w.units.phase u)) (w.units.plain u) p.0 in
    let r = and_parts (is_empty (w.units.kids u)) _ p.1 in
    end_snapshot u at outcome (is_running-true _ q.0) q.1 r.0 (not-true _ r.1)
decode w (Release u g) c = (let p = and_parts (is_over (w.units.phase u)) _ c in release u g p.0 p.1)
decode w Take c = (let p = and_parts (is_none w.manager.batch) _ c in take_batch (none-true _ p.0) (ltb-true _ _ p.1))
decode w (Vote n g kept) c =
    let t = is_open-true n _ w.manager.batch c in
    let p = and_parts (is_planned t.0 g) _ t.4 in
    subst (Change w (Vote n g kept)) (sym (ap (on_batch w (λ b. voted w b g kept)) t.1))
    (vote n g kept t.0 t.1 t.2 t.3 p.0 (not-true _ p.1))
decode w (Decide n) c =
    let t = is_open-true n _ w.manager.batch c in
    subst (Change w (Decide n)) (sym (ap (on_batch w (decided w)) t.1))
    (cond_both (any is_commit (decisions_of w t.0)) (with_decisions w t.0 (decisions_of w t.0)) (sealed (with_decisions w t.0 (decisions_of w t.0)) t.0 (decisions_of w t.0)) (Change w (Decide n))
    (λ h. decide_some n t.0 t.1 t.2 t.3 t.4 h)
    (λ h. decide_none n t.0 t.1 t.2 t.3 t.4 h))
decode w (Sealed n) c =
    let t = is_judged-true n w.manager.batch c in
    subst (Change w (Sealed n)) (sym (judged-is w (sealed w) t.0 t.3.0 t.1 t.3.1)) (seal_batch n t.0 t.3.0 t.1 t.2 t.3.1)
decode w (NotSealed n) c =
    let t = is_judged-true n w.manager.batch c in
    subst (Change w (NotSealed n)) (sym (judged-is w (spoiled w) t.0 t.3.0 t.1 t.3.1)) (spoil_batch n t.0 t.3.0 t.1 t.2 t.3.1)
decode w (Doubt n) c =
    let t = is_judged-true n w.manager.batch c in
    subst (Change w (Doubt n)) (sym (judged-is w (in_doubt w) t.0 t.3.0 t.1 t.3.1)) (doubt_batch n t.0 t.3.0 t.1 t.2 t.3.1)
decode w (Learn u g) c =
    let p = and_parts (is_some (state_written g (w.manager.writes u))) _ c in
    let q = and_parts (is_final (w.manager.verdict u)) _ p.1 in
    learn u g p.0 q.0 (not-true _ q.1)
decode w Emitted c = emit (ltb-true _ _ c)
decode w Halt c = halt_run (not-true _ c)
decode w (Want u g) c =
    let p = and_parts (is_active w u g) _ c in
    let q = and_parts (not (holds_lock u (w.cells.holds g))) _ p.1 in
    want u g (active-running w u g p.0) (not-true _ q.0) (not-true _ q.1)
decode w (Load g u state) c =
    let p = and_parts (not (w.cells.here g)) _ c in
    load g u state (not-true _ p.0) p.1
