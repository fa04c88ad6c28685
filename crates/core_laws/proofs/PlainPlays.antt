-- The effects of plain runs are plays, whatever was loaded.
use Rattle.std.proofs.Common.{◌≡◌, ℕ, List, [], ◌∷◌, Bool, true, refl, sym, ap, ◌∙◌, Option, Some, None}
use Rattle.std.proofs.lemmas.Bool.{and_parts, cond_both}
use Rattle.core_model.specs.CoreState.{UnitNo, put, CoreState}
use Rattle.core_model.specs.declared.phases.Phase.{Phase}
use Rattle.core_model.specs.declared.phases.Phase.TheVariants.{Running, Finished, Refused, Ended}
use Rattle.core_model.specs.declared.effects.Effect.{Effect}
use Rattle.core_laws.proofs.Puts.{put-from, put-is, put-other}
use Rattle.core_model.specs.CoreState.{Outcome}
use Rattle.core_model.specs.Tests.{is_empty}
use Rattle.core_model.specs.Changes.{begun, new_unit, after_end, finished, swept, swept_by}
use Rattle.core_model.specs.SerialOrder.{Plays, AllPlay}
use Rattle.core_model.specs.Consistency.{plain_effect, PlainRunsArePlays}
use Rattle.core_model.specs.LegalRuns.{Run, begins, ends}
use Rattle.core_model.specs.Events.{applies, can, does, step, run, is_allowed}
use Rattle.core_model.specs.declared.events.CoreEvent.{CoreEvent}
use Rattle.core_laws.proofs.EventCases.{Change, bad, begin, lock, raise, refuse, finish, end_plain, end_snapshot, release, take_batch, vote, decide_some, decide_none, seal_batch, spoil_batch, doubt_batch, learn, emit, halt_run, want, load, decode}
use Rattle.core_laws.proofs.UnitPlays.{parts-of}

-- the parts of a plain run's effect that an event leaves alone
other-plain : (w w' : CoreState) (x : UnitNo) → w'.units.origin x ≡ w.units.origin x → w'.units.call x ≡ w.units.call x → w'.manager.answers x ≡ w.manager.answers x → w'.manager.result x ≡ w.manager.result x → plain_effect w' x ≡ plain_effect w x
other-plain w w' x o c a s = λ i. record { unit = x; origin = o i; call = c i; answers = a i; reads = []; writes = []; result = s i }

empty-list : {A : Type 0} (xs : List A) → is_empty xs ≡ true → xs ≡ []
empty-list [] e = refl
empty-list (x ∷ xs) e = cc

plain-phase : (plays : Effect → Bool) (w : CoreState) (u : UnitNo) (end : Phase) → (end ≡ Ended → ⊥) → PlainRunsArePlays plays w → PlainRunsArePlays plays (record w { units = record w.units { phase = put w.units.phase u end } })
plain-phase plays w u end n v x = put-from w.units.phase u end (λ z. z ≡ Ended) (w.units.seen_at x ≡ None → plays (plain_effect w x) ≡ true) x (λ q f. absurd (n f)) (λ q f. v x f)

-- who ended before isn't the unit that ends now
plain-other : (w : CoreState) (u : UnitNo) (answers : List Outcome) (result : Outcome) (at : Option ℕ) (x : UnitNo) → (x ≡ u → ⊥) → plain_effect (after_end w u answers result at) x ≡ plain_effect w x
plain-other w u answers result at x q = other-plain w (after_end w u answers result at) x refl refl (put-other w.manager.answers u answers x q) (put-other w.manager.result u result x q)

plain-change : (plays : Effect → Bool) (w : CoreState) (e : CoreEvent) (w' : CoreState) → Change w e w' → Plays plays e → PlainRunsArePlays plays w → PlainRunsArePlays plays w'
plain-change plays w e w' (bad line why q) p v = v
plain-change plays w e w' (begin origin call plain c) p v =
    λ x. put-from w.units.phase (new_unit w) Running (λ z. z ≡ Ended) (w.units.seen_at x ≡ None → plays (plain_effect (begun w origin call plain) x) ≡ true) x
    (λ q f. cc)
    (λ q f n. ap plays (other-plain w (begun w origin call plain) x (put-other w.units.origin (new_unit w) origin x q) (put-other w.units.call (new_unit w) call x q) refl refl) ∙ v x f n)
plain-change plays w e w' (lock u g mode running free first here) p v = v
plain-change plays w e w' (raise u g mode running free held here uncovered) p v = v
plain-change plays w e w' (refuse u g mode why running q) p v = plain-phase plays w u Refused (λ z. cc) v
plain-change plays w e w' (finish u effect running plain of_call reads alone) p v =
    λ x. put-from w.units.phase u Finished (λ z. z ≡ Ended) (w.units.seen_at x ≡ None → plays (plain_effect (finished w u effect) x) ≡ true) x
    (λ q f. cc)
    (λ q f n. ap plays (other-plain w (finished w u effect) x refl refl (put-other w.manager.answers u effect.answers x q) (put-other w.manager.result u effect.result x q)) ∙ v x f n)
plain-change plays w e w' (end_plain u effect running plain of_call bare) p v =
    λ x. put-from w.units.phase u Ended (λ z. z ≡ Ended) (put w.units.seen_at u None x ≡ None → plays (plain_effect (after_end w u effect.answers effect.result None) x) ≡ true) x
    (λ q f n. (let t = parts-of w u effect of_call in
    let o : w.units.origin x ≡ effect.origin = ap w.units.origin q ∙ sym t.1 in
    let c : w.units.call x ≡ effect.call = ap w.units.call q ∙ sym t.2 in
    let a : put w.manager.answers u effect.answers x ≡ effect.answers = put-is w.manager.answers u effect.answers x q in
    let s : put w.manager.result u effect.result x ≡ effect.result = put-is w.manager.result u effect.result x q in
    let one : x ≡ effect.unit = q ∙ sym t.0 in
    let rs = sym (empty-list effect.reads bare.0) in let ws = sym (empty-list effect.writes bare.1) in
    let same : plain_effect (after_end w u effect.answers effect.result None) x ≡ effect =
    λ i. record { unit = one i; origin = o i; call = c i; answers = a i; reads = rs i; writes = ws i; result = s i } in
    ap plays same ∙ p))
    (λ q f n. ap plays (plain-other w u effect.answers effect.result None x q) ∙ v x f (sym (put-other w.units.seen_at u None x q) ∙ n))
plain-change plays w e w' (end_snapshot u at outcome running plain kids answer) p v =
    λ x. put-from w.units.phase u Ended (λ z. z ≡ Ended) (put w.units.seen_at u (Some at) x ≡ None → plays (plain_effect (after_end w u [] outcome (Some at)) x) ≡ true) x
    (λ q f n. (let t : Some at ≡ None = sym (put-is w.units.seen_at u (Some at) x q) ∙ n in cc))
    (λ q f n. ap plays (plain-other w u [] outcome (Some at) x q) ∙ v x f (sym (put-other w.units.seen_at u (Some at) x q) ∙ n))
plain-change plays w e w' (release u g over held) p v = v
plain-change plays w e w' (take_batch none some) p v = v
plain-change plays w e w' (vote n g kept b q number d planned fresh) p v = v
plain-change plays w e w' (decide_some n b q number d voted some) p v = v
plain-change plays w e w' (decide_none n b q number d voted none) p v = v
plain-change plays w e w' (seal_batch n b ds q number d) p v = v
plain-change plays w e w' (spoil_batch n b ds q number d) p v = v
plain-change plays w e w' (doubt_batch n b ds q number d) p v = v
plain-change plays w e w' (learn u g wrote final fresh) p v = v
plain-change plays w e w' (emit q) p v = v
plain-change plays w e w' (halt_run q) p v = v
plain-change plays w e w' (want u g running free fresh) p v = v
plain-change plays w e w' (load g u state gone wanted) p v = v

plain-step : (plays : Effect → Bool) (w : CoreState) (e : CoreEvent) → Plays plays e → PlainRunsArePlays plays w → PlainRunsArePlays plays (step w e)
plain-step plays w e p v = cond_both (applies w e) (swept (does w e)) w (PlainRunsArePlays plays)
    (λ a. swept-plain (does w e) (plain-change plays w e (does w e) (decode w e (and_parts (is_allowed w e) (can w e) a).1) p v))
    (λ a. v)
  where
    swept-plain : (w : CoreState) → PlainRunsArePlays plays w → PlainRunsArePlays plays (swept w)
    swept-plain w v = go w.cells.capacity
      where
        go : (c : Option ℕ) → PlainRunsArePlays plays (swept_by w c)
        go None = v
        go (Some m) = v

plain-run : (plays : Effect → Bool) (es : List CoreEvent) (w : CoreState) → AllPlay plays es → PlainRunsArePlays plays w → PlainRunsArePlays plays (run w es)
plain-run plays [] w p v = v
plain-run plays (e ∷ es) w p v = plain-run plays es (step w e) p.1 (plain-step plays w e p.0 v)

-- where each effect is a play, whatever was loaded
pub plain-ends : (plays : Effect → Bool) (r : Run) → AllPlay plays r.events → PlainRunsArePlays plays (ends r)
plain-ends plays r p = plain-run plays r.events (begins r) p (λ u f. cc)
