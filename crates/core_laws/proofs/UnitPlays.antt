-- The effects of finished units are plays, whatever was loaded.
use Rattle.std.proofs.Common.{◌≡◌, ℕ, List, [], ◌∷◌, ◌++◌, Bool, true, refl, sym, ap, ◌∙◌, Option, Some, None}
use Rattle.std.proofs.lemmas.Bool.{and_parts, cond_both}
use Rattle.cell_model.proofs.Units.{same_unit-true}
use Rattle.core_model.specs.CoreState.{UnitNo, same_unit, put_grain, Origin, Write, top, CoreState}
use Rattle.core_model.specs.declared.phases.Phase.TheVariants.{Running, Finished, Refused, Ended}
use Rattle.core_model.specs.declared.effects.Read.{Read}
use Rattle.core_model.specs.declared.effects.Effect.{Effect}
use Rattle.core_laws.proofs.Puts.{put-from, put-is, put-other}
use Rattle.core_model.specs.CoreState.{Call, Outcome}
use Rattle.core_model.specs.Equality.{same_origin, same_call}
use Rattle.core_model.specs.Tests.{answered_by}
use Rattle.core_model.specs.Changes.{after_lock, restacked, cleaned, read_of, begun, new_unit, after_end, finished, swept, swept_by}
use Rattle.core_model.specs.Events.{is_of_call, applies, does, step, run, can, is_allowed}
use Rattle.core_model.specs.declared.events.CoreEvent.{CoreEvent}
use Rattle.core_model.specs.Answers.{effect_of}
use Rattle.core_model.specs.SerialOrder.{Plays, AllPlay}
use Rattle.core_model.specs.LegalRuns.{Run, begins, ends}
use Rattle.core_laws.proofs.Basics.{same_origin-true, same_call-true}
use Rattle.core_laws.proofs.EventCases.{Change, bad, begin, lock, raise, refuse, finish, end_plain, end_snapshot, release, take_batch, vote, decide_some, decide_none, seal_batch, spoil_batch, doubt_batch, learn, emit, halt_run, want, load, decode}

abbrev pub Valid : (Effect → Bool) → CoreState → Type 0
Valid plays w = (u : UnitNo) → w.units.phase u ≡ Finished → plays (effect_of w u) ≡ true

same-effect : (u : UnitNo) (origin origin' : Origin) (call call' : Call) (answers answers' : List Outcome) (reads reads' : List Read) (writes writes' : List Write) (result result' : Outcome) →
    origin ≡ origin' → call ≡ call' → answers ≡ answers' → reads ≡ reads' → writes ≡ writes' → result ≡ result' → (e : Effect) → u ≡ e.unit → origin' ≡ e.origin → call' ≡ e.call → answers' ≡ e.answers → reads' ≡ e.reads → writes' ≡ e.writes → result' ≡ e.result →
    record { unit = u; origin = origin; call = call; answers = answers; reads = reads; writes = writes; result = result } ≡ e
same-effect u o o' c c' a a' r r' w w' s s' p1 p2 p3 p4 p5 p6 e q0 q1 q2 q3 q4 q5 q6 =
    let t1 = p1 ∙ q1 in let t2 = p2 ∙ q2 in let t3 = p3 ∙ q3 in let t4 = p4 ∙ q4 in let t5 = p5 ∙ q5 in let t6 = p6 ∙ q6 in
    λ i. record { unit = q0 i; origin = t1 i; call = t2 i; answers = t3 i; reads = t4 i; writes = t5 i; result = t6 i }

-- the parts of an effect that an event leaves alone
other-effect : (w w' : CoreState) (x : UnitNo) → w'.units.origin x ≡ w.units.origin x → w'.units.call x ≡ w.units.call x → w'.manager.answers x ≡ w.manager.answers x → w'.units.reads x ≡ w.units.reads x →
    w'.manager.writes x ≡ w.manager.writes x → w'.manager.result x ≡ w.manager.result x → effect_of w' x ≡ effect_of w x
other-effect w w' x o c a r v s = λ i. record { unit = x; origin = o i; call = c i; answers = a i; reads = r i; writes = v i; result = s i }

pub parts-of : (w : CoreState) (u : UnitNo) (e : Effect) → is_of_call w u e ≡ true → (e.unit ≡ u) × (e.origin ≡ w.units.origin u) × (e.call ≡ w.units.call u) × (answered_by w (w.units.kids u) e.answers ≡ true)
parts-of w u e h =
    let p = and_parts (same_unit e.unit u) _ h in
    let q = and_parts (same_origin e.origin (w.units.origin u)) _ p.1 in
    let r = and_parts (same_call e.call (w.units.call u)) _ q.1 in
    (same_unit-true _ _ p.0, same_origin-true _ _ q.0, same_call-true _ _ r.0, r.1)

valid-change : (plays : Effect → Bool) (w : CoreState) (e : CoreEvent) (w' : CoreState) → Change w e w' → Plays plays e → Valid plays w → Valid plays w'
valid-change plays w e w' (bad line why q) p v = v
valid-change plays w e w' (begin origin call plain c) p v = λ x. put-from w.units.phase (new_unit w) Running (λ z. z ≡ Finished) (plays (effect_of (begun w origin call plain) x) ≡ true) x
    (λ q f. cc)
    (λ q f. ap plays (other-effect w (begun w origin call plain) x (put-other w.units.origin (new_unit w) origin x q) (put-other w.units.call (new_unit w) call x q) refl refl refl refl) ∙ v x f)
valid-change plays w e w' (lock u g mode running free first here) p v = λ x f.
    ap plays (other-effect w (after_lock (restacked w g (cleaned w g)) u g mode) x refl refl refl (put-other w.units.reads u (w.units.reads u ++ read_of g (top (put_grain w.cells.stack g (cleaned w g) g)) ∷ []) x (λ q. (let t : Finished ≡ Running = sym f ∙ ap w.units.phase q ∙ running in cc))) refl refl) ∙ v x f
valid-change plays w e w' (raise u g mode running free held here uncovered) p v = v
valid-change plays w e w' (refuse u g mode why running q) p v = λ x. put-from w.units.phase u Refused (λ z. z ≡ Finished) (plays (effect_of w x) ≡ true) x (λ q f. cc) (λ q f. v x f)
valid-change plays w e w' (finish u effect running plain of_call reads alone) p v = λ x. put-from w.units.phase u Finished (λ z. z ≡ Finished) (plays (effect_of (finished w u effect) x) ≡ true) x
    (λ q f. (let t = parts-of w u effect of_call in
    ap plays (same-effect x _ _ _ _ _ _ _ _ _ _ _ _
    (ap w.units.origin q) (ap w.units.call q) (put-is w.manager.answers u effect.answers x q) (ap w.units.reads q) (put-is w.manager.writes u effect.writes x q) (put-is w.manager.result u effect.result x q)
    effect (q ∙ sym t.0) (sym t.1) (sym t.2) refl (sym reads) refl refl) ∙ p))
    (λ q f. ap plays (other-effect w (finished w u effect) x refl refl (put-other w.manager.answers u effect.answers x q) refl (put-other w.manager.writes u effect.writes x q) (put-other w.manager.result u effect.result x q)) ∙ v x f)
valid-change plays w e w' (end_plain u effect running plain of_call bare) p v = valid-ended plays w u effect.answers effect.result None running v
  where
    valid-ended : (plays : Effect → Bool) (w : CoreState) (u : UnitNo) (answers : List Outcome) (result : Outcome) (at : Option ℕ) → w.units.phase u ≡ Running → Valid plays w → Valid plays (after_end w u answers result at)
    valid-ended plays w u answers result at running v = λ x. put-from w.units.phase u Ended (λ z. z ≡ Finished) (plays (effect_of (after_end w u answers result at) x) ≡ true) x
        (λ q f. cc)
        (λ q f. ap plays (other-effect w (after_end w u answers result at) x refl refl (put-other w.manager.answers u answers x q) refl refl (put-other w.manager.result u result x q)) ∙ v x f)
valid-change plays w e w' (end_snapshot u at outcome running plain kids answer) p v = λ x. put-from w.units.phase u Ended (λ z. z ≡ Finished) (plays (effect_of (after_end w u [] outcome (Some at)) x) ≡ true) x
    (λ q f. cc)
    (λ q f. ap plays (other-effect w (after_end w u [] outcome (Some at)) x refl refl (put-other w.manager.answers u [] x q) refl refl (put-other w.manager.result u outcome x q)) ∙ v x f)
valid-change plays w e w' (release u g over held) p v = v
valid-change plays w e w' (take_batch none some) p v = v
valid-change plays w e w' (vote n g kept b q number d planned fresh) p v = v
valid-change plays w e w' (decide_some n b q number d voted some) p v = v
valid-change plays w e w' (decide_none n b q number d voted none) p v = v
valid-change plays w e w' (seal_batch n b ds q number d) p v = v
valid-change plays w e w' (spoil_batch n b ds q number d) p v = v
valid-change plays w e w' (doubt_batch n b ds q number d) p v = v
valid-change plays w e w' (learn u g wrote final fresh) p v = v
valid-change plays w e w' (emit q) p v = v
valid-change plays w e w' (halt_run q) p v = v
valid-change plays w e w' (want u g running free fresh) p v = v
valid-change plays w e w' (load g u state gone wanted) p v = v

swept-valid : (plays : Effect → Bool) (w : CoreState) → Valid plays w → Valid plays (swept w)
swept-valid plays w v = go w.cells.capacity
  where
    go : (c : Option ℕ) → Valid plays (swept_by w c)
    go None = v
    go (Some m) = v

valid-step : (plays : Effect → Bool) (w : CoreState) (e : CoreEvent) → Plays plays e → Valid plays w → Valid plays (step w e)
valid-step plays w e p v = cond_both (applies w e) (swept (does w e)) w (Valid plays)
    (λ a. swept-valid plays (does w e) (valid-change plays w e (does w e) (decode w e (and_parts (is_allowed w e) (can w e) a).1) p v))
    (λ a. v)

valid-run : (plays : Effect → Bool) (es : List CoreEvent) (w : CoreState) → AllPlay plays es → Valid plays w → Valid plays (run w es)
valid-run plays [] w p v = v
valid-run plays (e ∷ es) w p v = valid-run plays es (step w e) p.1 (valid-step plays w e p.0 v)

-- where each effect is a play, whatever was loaded
pub valid-ends : (plays : Effect → Bool) (r : Run) → AllPlay plays r.events → Valid plays (ends r)
valid-ends plays r p = valid-run plays r.events (begins r) p (λ u f. cc)
