-- What others' events leave of what is shown for a seal.
use Rattle.std.proofs.Common.{◌≡◌, ℕ, ◌<◌, List, [], ◌∷◌, ◌++◌, map, filter, Bool, false, refl, sym, ap, ◌∙◌, subst, arith, Option, Some, None}
use Rattle.std.proofs.lemmas.Bool.{and_parts, cond_both}
use Rattle.cell_model.proofs.Units.{filter-member}
use Rattle.core_access.specs.SettlerEvents.{is_settling}
use Rattle.core_access.proofs.SettlerEvents.{others-leave}
use Rattle.core_model.specs.CoreState.{UnitNo, put_grain, top, Member, Batch, CoreState}
use Rattle.core_model.specs.declared.events.CoreEvent.{CoreEvent}
use Rattle.core_model.specs.declared.phases.Phase.TheVariants.{Unborn, Running, Finished}
use Rattle.core_model.specs.declared.phases.Verdict.TheVariants.{Aborted}
use Rattle.core_model.specs.Answers.{effect_of}
use Rattle.core_model.specs.Changes.{cleaned, new_unit, read_of, swept, swept_by}
use Rattle.core_model.specs.Events.{applies, can, does, is_allowed, step}
use Rattle.core_model.specs.Laws.{extended}
use Rattle.core_model.specs.LegalRuns.{Run, ends}
use Rattle.core_model.specs.Settler.{to_commit}
use Rattle.core_model.specs.Tests.{is_good, members}
use Rattle.core_laws.proofs.EventCases.{Change, bad, begin, lock, raise, refuse, finish, end_plain, end_snapshot, release, take_batch, vote, decide_some, decide_none, seal_batch, spoil_batch, doubt_batch, learn, emit, halt_run, want, load, decode}
use Rattle.core_laws.proofs.LoadlessKept.{LoadlessKept, loadless-ends, size-at}
use Rattle.core_laws.proofs.Puts.{put-other}
use Rattle.settler_rules.proofs.Commits.{filter-same, map-same}
use Rattle.settler_rules.proofs.StandingVotes.{ends-more}
use Rattle.core_laws.proofs.Orders.{in_part, take-drop-push}

abbrev good : CoreState → UnitNo → Bool
good w u = is_good (w.manager.verdict u)

-- where a batch's units, their verdicts and what they did stay, so does what is shown
effects-same : (w w' : CoreState) (b : Batch) → members w' b ≡ members w b → ((x : UnitNo) → Member x (members w b) → w'.manager.verdict x ≡ w.manager.verdict x)
    → ((x : UnitNo) → Member x (members w b) → effect_of w' x ≡ effect_of w x) → to_commit w' (Some b) ≡ to_commit w (Some b)
effects-same w w' b us verdicts effects =
    ap (λ xs. map (effect_of w') (filter (good w') xs)) us
    ∙ ap (map (effect_of w')) (filter-same (good w') (good w) (members w b) (λ x m. ap is_good (verdicts x m)))
    ∙ map-same (effect_of w') (effect_of w) (filter (good w) (members w b)) (λ x m. effects x (filter-member (good w) (members w b) x m).0)

module _ (w : CoreState) (k : LoadlessKept w) (b : Batch) (q : w.manager.batch ≡ Some b) where
  -- a unit of the batch has finished
  in-batch : (x : UnitNo) → Member x (members w b) → w.units.phase x ≡ Finished
  in-batch x m = (in_part _ w k.0 w.manager.closed b.size x m).0

  other : (x u : UnitNo) → Member x (members w b) → w.units.phase u ≡ Running → x ≡ u → ⊥
  other x u m running p = (let z : Finished ≡ Running = sym (in-batch x m) ∙ ap w.units.phase p ∙ running in cc)

  not-new : (x : UnitNo) → Member x (members w b) → x ≡ new_unit w → ⊥
  not-new x m p = (let z : Finished ≡ Unborn = sym (in-batch x m) ∙ ap w.units.phase p ∙ k.0.unborn (new_unit w) (omega arith) in cc)

  effects-change : (e : CoreEvent) (w' : CoreState) → Change w e w' → is_settling e ≡ false → (to_commit w' (Some b) ≡ to_commit w (Some b)) × (w'.manager.batch ≡ w.manager.batch)
  effects-change e w' (bad line why p) s = (refl, refl)
  effects-change e w' (begin origin call plain c) s = (
    effects-same w w' b refl (λ x m. refl)
        (λ x m i. record (effect_of w x) { origin = put-other w.units.origin (new_unit w) origin x (not-new x m) i; call = put-other w.units.call (new_unit w) call x (not-new x m) i }),
    refl,
  )
  effects-change e w' (lock u g mode running free first here) s = (
    effects-same w w' b refl (λ x m. refl)
        (λ x m i. record (effect_of w x) { reads = put-other w.units.reads u (w.units.reads u ++ read_of g (top (put_grain w.cells.stack g (cleaned w g) g)) ∷ []) x (other x u m running) i }),
    refl,
  )
  effects-change e w' (raise u g mode running free held here uncovered) s = (refl, refl)
  effects-change e w' (refuse u g mode why running p) s = (effects-same w w' b refl (λ x m. put-other w.manager.verdict u Aborted x (other x u m running)) (λ x m. refl), refl)
  effects-change e w' (finish u effect running plain of_call reads alone) s = (
    effects-same w w' b (take-drop-push b.size w.manager.closed w.manager.order u (size-at w b k q)) (λ x m. refl)
        (λ x m i. record (effect_of w x) {
          answers = put-other w.manager.answers u effect.answers x (other x u m running) i;
          writes = put-other w.manager.writes u effect.writes x (other x u m running) i;
          result = put-other w.manager.result u effect.result x (other x u m running) i;
        }),
    refl,
  )
  effects-change e w' (end_plain u effect running plain of_call bare) s = (
    effects-same w w' b refl (λ x m. refl)
        (λ x m i. record (effect_of w x) { answers = put-other w.manager.answers u effect.answers x (other x u m running) i; result = put-other w.manager.result u effect.result x (other x u m running) i }),
    refl,
  )
  effects-change e w' (end_snapshot u at outcome running plain kids answer) s = (
    effects-same w w' b refl (λ x m. refl)
        (λ x m i. record (effect_of w x) { answers = put-other w.manager.answers u [] x (other x u m running) i; result = put-other w.manager.result u outcome x (other x u m running) i }),
    refl,
  )
  effects-change e w' (release u g over held) s = (refl, refl)
  effects-change e w' (take_batch none some) s = absurd cc
  effects-change e w' (vote n g kept c p number d planned fresh) s = absurd cc
  effects-change e w' (decide_some n c p number d voted some) s = absurd cc
  effects-change e w' (decide_none n c p number d voted none) s = absurd cc
  effects-change e w' (seal_batch n c ds p number d) s = absurd cc
  effects-change e w' (spoil_batch n c ds p number d) s = absurd cc
  effects-change e w' (doubt_batch n c ds p number d) s = absurd cc
  effects-change e w' (learn u g wrote final fresh) s = absurd cc
  effects-change e w' (emit p) s = absurd cc
  effects-change e w' (halt_run p) s = (refl, refl)
  effects-change e w' (want u g running free fresh) s = (refl, refl)
  effects-change e w' (load g u state gone wanted) s = (refl, refl)

  effects-swept : (v : CoreState) → (to_commit v (Some b) ≡ to_commit w (Some b)) × (v.manager.batch ≡ w.manager.batch) → (to_commit (swept v) (Some b) ≡ to_commit w (Some b)) × ((swept v).manager.batch ≡ w.manager.batch)
  effects-swept v h = go v.cells.capacity
    where
      go : (c : Option ℕ) → (to_commit (swept_by v c) (Some b) ≡ to_commit w (Some b)) × ((swept_by v c).manager.batch ≡ w.manager.batch)
      go None = h
      go (Some m) = h

  effects-step : (e : CoreEvent) → is_settling e ≡ false → (to_commit (step w e) (Some b) ≡ to_commit w (Some b)) × ((step w e).manager.batch ≡ w.manager.batch)
  effects-step e s = cond_both (applies w e) (swept (does w e)) w (λ v. (to_commit v (Some b) ≡ to_commit w (Some b)) × (v.manager.batch ≡ w.manager.batch))
      (λ a. effects-swept (does w e) (effects-change e (does w e) (decode w e (and_parts (is_allowed w e) (can w e) a).1) s))
      (λ a. (refl, refl))

  pub effects-stay : (e : CoreEvent) → is_settling e ≡ false → to_commit (step w e) (step w e).manager.batch ≡ to_commit w w.manager.batch
  effects-stay e s =
      let t = effects-step e s in
      ap (to_commit (step w e)) (t.1 ∙ q) ∙ t.0 ∙ sym (ap (to_commit w) q)

-- in a run
pub shown-stay : (r : Run) → 0 < r.base → (e : CoreEvent) → is_settling e ≡ false
    → to_commit (ends (extended r (e ∷ []))) (ends (extended r (e ∷ []))).manager.batch ≡ to_commit (ends r) (ends r).manager.batch
shown-stay r above e others =
    ap (λ (v : CoreState). to_commit v v.manager.batch) (ends-more r (e ∷ [])) ∙ by_batch (ends r).manager.batch refl
  where
    same-batch : (step (ends r) e).manager.batch ≡ (ends r).manager.batch
    same-batch = ap (λ (v : CoreState). v.manager.batch) (sym (ends-more r (e ∷ []))) ∙ (others-leave r e others).batch

    by_batch : (o : Option Batch) → (ends r).manager.batch ≡ o → to_commit (step (ends r) e) (step (ends r) e).manager.batch ≡ to_commit (ends r) (ends r).manager.batch
    by_batch None none = ap (to_commit (step (ends r) e)) (same-batch ∙ none) ∙ sym (ap (to_commit (ends r)) none)
    by_batch (Some b) is = effects-stay (ends r) (loadless-ends r above) b is e others
