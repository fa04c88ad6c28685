-- No unit that came to its end has an abort as its result, where no play ends in one, whatever was loaded.
use Rattle.std.proofs.Common.{◌≡◌, List, [], ◌∷◌, Bool, true, false, ◌⊎◌, inl, inr, sym, ap, ◌∙◌, Option, Some, None, ℕ}
use Rattle.std.proofs.lemmas.Bool.{and_parts, cond_both}
use Rattle.base_types.specs.declared.calls.Outcome.TheVariants as outcome
use Rattle.core_model.specs.CoreState.{UnitNo, Outcome, put, CoreState}
use Rattle.core_model.specs.declared.phases.Phase.{Phase}
use Rattle.core_model.specs.declared.phases.Phase.TheVariants.{Running, Finished, Refused, Ended}
use Rattle.core_model.specs.declared.effects.Effect.{Effect}
use Rattle.core_model.specs.Equality.{same_outcome}
use Rattle.core_model.specs.ProperEntries.{NeverAborts}
use Rattle.core_model.specs.Changes.{new_unit, swept, swept_by}
use Rattle.core_model.specs.Events.{applies, can, does, step, run, is_allowed}
use Rattle.core_model.specs.declared.events.CoreEvent.{CoreEvent}
use Rattle.core_model.specs.SerialOrder.{Plays, AllPlay}
use Rattle.core_model.specs.LegalRuns.{Run, begins, ends}
use Rattle.core_laws.proofs.Puts.{put-from, put-is, put-other}
use Rattle.core_laws.proofs.EventCases.{Change, bad, begin, lock, raise, refuse, finish, end_plain, end_snapshot, release, take_batch, vote, decide_some, decide_none, seal_batch, spoil_batch, doubt_batch, learn, emit, halt_run, want, load, decode}

-- the phase of a unit that finished, or ended as a plain run
abbrev pub IsAtEnd : Phase → Type 0
IsAtEnd p = (p ≡ Finished) ⊎ (p ≡ Ended)

-- none of those has an abort as its result
abbrev pub NoneAborts : CoreState → Type 0
NoneAborts w = (u : UnitNo) → IsAtEnd (w.units.phase u) → w.manager.result u ≡ outcome.Aborted → ⊥

-- a unit that comes to its end with that result
none-ended : (w : CoreState) (u : UnitNo) (end : Phase) (result : Outcome) → (result ≡ outcome.Aborted → ⊥) → NoneAborts w → (x : UnitNo) → IsAtEnd (put w.units.phase u end x) → put w.manager.result u result x ≡ outcome.Aborted → ⊥
none-ended w u end result never s x = put-from w.units.phase u end IsAtEnd (put w.manager.result u result x ≡ outcome.Aborted → ⊥) x
    (λ q o z. never (sym (put-is w.manager.result u result x q) ∙ z))
    (λ q o z. s x o (sym (put-other w.manager.result u result x q) ∙ z))

-- and one that goes to another phase
none-else : (w : CoreState) (u : UnitNo) (end : Phase) → (IsAtEnd end → ⊥) → NoneAborts w → (x : UnitNo) → IsAtEnd (put w.units.phase u end x) → w.manager.result x ≡ outcome.Aborted → ⊥
none-else w u end n s x = put-from w.units.phase u end IsAtEnd (w.manager.result x ≡ outcome.Aborted → ⊥) x (λ q o. absurd (n o)) (λ q o. s x o)

-- what a snapshot's test says
not-aborted : (o : Outcome) → same_outcome o outcome.Aborted ≡ false → o ≡ outcome.Aborted → ⊥
not-aborted o n q = (let z : true ≡ false = sym (ap (λ t. same_outcome t outcome.Aborted) q) ∙ n in cc)

-- an event that applies, and whose effect is a play, keeps it
none-change : (plays : Effect → Bool) → NeverAborts plays → (w : CoreState) (e : CoreEvent) (w' : CoreState) → Change w e w' → Plays plays e → NoneAborts w → NoneAborts w'
none-change plays never w e w' (bad line why q) p s = s
none-change plays never w e w' (begin origin call plain c) p s = none-else w (new_unit w) Running (λ o. elim o [ inl z ↦ cc | inr z ↦ cc ]) s
none-change plays never w e w' (lock u g mode running free first here) p s = s
none-change plays never w e w' (raise u g mode running free held here uncovered) p s = s
none-change plays never w e w' (refuse u g mode why running q) p s = none-else w u Refused (λ o. elim o [ inl z ↦ cc | inr z ↦ cc ]) s
none-change plays never w e w' (finish u effect running plain of_call reads alone) p s = none-ended w u Finished effect.result (never effect p) s
none-change plays never w e w' (end_plain u effect running plain of_call bare) p s = none-ended w u Ended effect.result (never effect p) s
none-change plays never w e w' (end_snapshot u at result running plain kids answer) p s = none-ended w u Ended result (not-aborted result answer) s
none-change plays never w e w' (release u g over held) p s = s
none-change plays never w e w' (take_batch none some) p s = s
none-change plays never w e w' (vote n g kept b q number d planned fresh) p s = s
none-change plays never w e w' (decide_some n b q number d voted some) p s = s
none-change plays never w e w' (decide_none n b q number d voted none) p s = s
none-change plays never w e w' (seal_batch n b ds q number d) p s = s
none-change plays never w e w' (spoil_batch n b ds q number d) p s = s
none-change plays never w e w' (doubt_batch n b ds q number d) p s = s
none-change plays never w e w' (learn u g wrote final fresh) p s = s
none-change plays never w e w' (emit q) p s = s
none-change plays never w e w' (halt_run q) p s = s
none-change plays never w e w' (want u g running free fresh) p s = s
none-change plays never w e w' (load g u state gone wanted) p s = s

none-step : (plays : Effect → Bool) → NeverAborts plays → (w : CoreState) (e : CoreEvent) → Plays plays e → NoneAborts w → NoneAborts (step w e)
none-step plays never w e p s = cond_both (applies w e) (swept (does w e)) w NoneAborts
    (λ a. swept-none (does w e) (none-change plays never w e (does w e) (decode w e (and_parts (is_allowed w e) (can w e) a).1) p s))
    (λ a. s)
  where
    swept-none : (v : CoreState) → NoneAborts v → NoneAborts (swept v)
    swept-none v s = go v.cells.capacity
      where
        go : (c : Option ℕ) → NoneAborts (swept_by v c)
        go None = s
        go (Some m) = s

none-run : (plays : Effect → Bool) → NeverAborts plays → (es : List CoreEvent) (w : CoreState) → AllPlay plays es → NoneAborts w → NoneAborts (run w es)
none-run plays never [] w p s = s
none-run plays never (e ∷ es) w p s = none-run plays never es (step w e) p.1 (none-step plays never w e p.0 s)

pub none-ends : (plays : Effect → Bool) → NeverAborts plays → (r : Run) → AllPlay plays r.events → NoneAborts (ends r)
none-ends plays never r p = none-run plays never r.events (begins r) p (λ u o. elim o [ inl f ↦ cc | inr f ↦ cc ])
