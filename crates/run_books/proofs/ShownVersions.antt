-- What others' events leave of what is shown for a vote.
use Rattle.std.proofs.Common.{◌≡◌, ℕ, ◌<◌, List, [], ◌∷◌, ◌++◌, Bool, false, ◌||◌, refl, sym, ap, ◌∙◌, subst, arith, Option, Some, None}
use Rattle.std.specs.Prelude.{flat_map, if◌then◌else◌}
use Rattle.std.specs.List.{list_any as any}
use Rattle.std.proofs.Common.{inl, inr}
use Rattle.std.proofs.lemmas.Bool.{and_parts, cond_both}
use Rattle.core_access.specs.SettlerEvents.{is_settling}
use Rattle.core_access.proofs.SettlerEvents.{others-leave}
use Rattle.core_model.specs.CoreState.{UnitNo, GrainId, Member, Value, Version, Batch, CoreState}
use Rattle.core_model.specs.declared.events.CoreEvent.{CoreEvent}
use Rattle.core_model.specs.declared.phases.Phase.TheVariants.{Unborn, Running, Finished}
use Rattle.core_model.specs.declared.phases.Verdict.TheVariants.{Aborted}
use Rattle.core_model.specs.Changes.{new_unit, swept, swept_by}
use Rattle.core_model.specs.Events.{applies, can, does, is_allowed, step}
use Rattle.core_model.specs.Laws.{extended}
use Rattle.core_model.specs.LegalRuns.{Run, begins, ends}
use Rattle.core_model.specs.SerialOrder.{AllLoadsTrue}
use Rattle.core_model.specs.Settler.{version_written, version_to_write, versions_to_write}
use Rattle.core_model.specs.Tests.{has_bad_source, is_bad, members, state_written}
use Rattle.core_laws.proofs.Consistency.{depends-earlier, depends-ends}
use Rattle.core_laws.proofs.EventCases.{Change, bad, begin, lock, raise, refuse, finish, end_plain, end_snapshot, release, take_batch, vote, decide_some, decide_none, seal_batch, spoil_batch, doubt_batch, learn, emit, halt_run, want, load, decode}
use Rattle.core_laws.proofs.Dependencies.{Depends}
use Rattle.core_laws.proofs.Ends.{kept-ends}
use Rattle.core_laws.proofs.KeptInvariant.{Kept, size-open}
use Rattle.core_laws.proofs.Puts.{put-other}
use Rattle.core_laws.proofs.Reasons.{member-finished}
use Rattle.promise_laws.specs.Legality.{is_play, applied_run}
use Rattle.promise_laws.proofs.LegalRuns.{ends_alike, legal}
use Rattle.promise_spec.specs.UnitRule.{Basis, KeepsUnitRule}
use Rattle.settler_rules.proofs.StandingVotes.{ends-more}
use Rattle.core_laws.proofs.Orders.{take-drop-push}

-- where two tests agree on all of a list
any-same : (p q : UnitNo → Bool) (xs : List UnitNo) → ((x : UnitNo) → Member x xs → p x ≡ q x) → any p xs ≡ any q xs
any-same p q [] h = refl
any-same p q (x ∷ xs) h = λ i. h x (inl refl) i || any-same p q xs (λ y m. h y (inr m)) i

flat-same : (f g : UnitNo → List Version) (xs : List UnitNo) → ((x : UnitNo) → Member x xs → f x ≡ g x) → flat_map f xs ≡ flat_map g xs
flat-same f g [] h = refl
flat-same f g (x ∷ xs) h = λ i. h x (inl refl) i ++ flat-same f g xs (λ y m. h y (inr m)) i

-- a unit's version is the same where what it wrote, whom it read from and their verdicts are
version-same : (w w' : CoreState) (g : GrainId) (x : UnitNo) → w'.manager.writes x ≡ w.manager.writes x → w'.units.deps x ≡ w.units.deps x
    → ((d : UnitNo) → Member d (w.units.deps x) → w'.manager.verdict d ≡ w.manager.verdict d) → version_to_write w' g x ≡ version_to_write w g x
version-same w w' g x writes deps verdicts =
    let same : has_bad_source w' x ≡ has_bad_source w x =
    ap (any (λ d. is_bad (w'.manager.verdict d))) deps ∙ any-same (λ d. is_bad (w'.manager.verdict d)) (λ d. is_bad (w.manager.verdict d)) (w.units.deps x) (λ d m. ap is_bad (verdicts d m)) in
    λ i. if same i then [] else version_written x (state_written g (writes i))

versions-same : (w w' : CoreState) (g : GrainId) (b : Batch) → members w' b ≡ members w b → ((x : UnitNo) → Member x (members w b) → version_to_write w' g x ≡ version_to_write w g x)
    → versions_to_write w' (Some b) g ≡ versions_to_write w (Some b) g
versions-same w w' g b us each =
    ap (flat_map (version_to_write w' g)) us ∙ flat-same (version_to_write w' g) (version_to_write w g) (members w b) each

module _ (opening : GrainId → List Value) (w : CoreState) (k : Kept opening w) (dep : Depends w) (b : Batch) (q : w.manager.batch ≡ Some b) (g : GrainId) where
  other : (x u : UnitNo) → Member x (members w b) → w.units.phase u ≡ Running → x ≡ u → ⊥
  other x u m running p = (let z : Finished ≡ Running = sym (member-finished opening w b k x m) ∙ ap w.units.phase p ∙ running in cc)

  not-new : (x : UnitNo) → Member x (members w b) → x ≡ new_unit w → ⊥
  not-new x m p = (let z : Finished ≡ Unborn = sym (member-finished opening w b k x m) ∙ ap w.units.phase p ∙ k.0.unborn (new_unit w) (omega arith) in cc)

  -- whom a member read from has finished
  source : (x d u : UnitNo) → Member x (members w b) → Member d (w.units.deps x) → w.units.phase u ≡ Running → d ≡ u → ⊥
  source x d u m n running p =
      (let z : Finished ≡ Running = sym (depends-earlier opening _ w k.0 dep x d (member-finished opening w b k x m) n).0 ∙ ap w.units.phase p ∙ running in cc)

  abbrev Stays : CoreState → Type 0
  Stays w' = (versions_to_write w' (Some b) g ≡ versions_to_write w (Some b) g) × (w'.manager.batch ≡ w.manager.batch)

  versions-change : (e : CoreEvent) (w' : CoreState) → Change w e w' → is_settling e ≡ false → Stays w'
  versions-change e w' (bad line why p) s = (refl, refl)
  versions-change e w' (begin origin call plain c) s = (refl, refl)
  versions-change e w' (lock u h mode running free first here) s =
      (versions-same w w' g b refl (λ x m. version-same w w' g x refl (put-other w.units.deps u _ x (other x u m running)) (λ d n. refl)), refl)
  versions-change e w' (raise u h mode running free held here uncovered) s = (refl, refl)
  versions-change e w' (refuse u h mode why running p) s =
      (versions-same w w' g b refl (λ x m. version-same w w' g x refl refl (λ d n. put-other w.manager.verdict u Aborted d (source x d u m n running))), refl)
  versions-change e w' (finish u effect running plain of_call reads alone) s = (
    versions-same w w' g b (take-drop-push b.size w.manager.closed w.manager.order u (size-open opening w b k q))
        (λ x m. version-same w w' g x (put-other w.manager.writes u effect.writes x (other x u m running)) refl (λ d n. refl)),
    refl,
  )
  versions-change e w' (end_plain u effect running plain of_call bare) s = (refl, refl)
  versions-change e w' (end_snapshot u at outcome running plain kids answer) s = (refl, refl)
  versions-change e w' (release u h over held) s = (refl, refl)
  versions-change e w' (take_batch none some) s = absurd cc
  versions-change e w' (vote n h kept c p number d planned fresh) s = absurd cc
  versions-change e w' (decide_some n c p number d voted some) s = absurd cc
  versions-change e w' (decide_none n c p number d voted none) s = absurd cc
  versions-change e w' (seal_batch n c ds p number d) s = absurd cc
  versions-change e w' (spoil_batch n c ds p number d) s = absurd cc
  versions-change e w' (doubt_batch n c ds p number d) s = absurd cc
  versions-change e w' (learn u h wrote final fresh) s = absurd cc
  versions-change e w' (emit p) s = absurd cc
  versions-change e w' (halt_run p) s = (refl, refl)
  versions-change e w' (want u h running free fresh) s = (refl, refl)
  versions-change e w' (load h u state gone wanted) s = absurd cc

  versions-swept : (v : CoreState) → Stays v → Stays (swept v)
  versions-swept v h = go v.cells.capacity
    where
      go : (c : Option ℕ) → Stays (swept_by v c)
      go None = h
      go (Some m) = h

  versions-step : (e : CoreEvent) → is_settling e ≡ false → Stays (step w e)
  versions-step e s = cond_both (applies w e) (swept (does w e)) w Stays
      (λ a. versions-swept (does w e) (versions-change e (does w e) (decode w e (and_parts (is_allowed w e) (can w e) a).1) s))
      (λ a. (refl, refl))

  versions-on : (e : CoreEvent) → is_settling e ≡ false → versions_to_write (step w e) (step w e).manager.batch g ≡ versions_to_write w w.manager.batch g
  versions-on e s =
      let t = versions-step e s in
      ap (λ (o : Option Batch). versions_to_write (step w e) o g) (t.1 ∙ q) ∙ t.0 ∙ sym (ap (λ (o : Option Batch). versions_to_write w o g) q)

-- in a run that keeps the unit rule, and whose loads are true
pub versions-stay : (s : Basis) (r : Run) → 0 < r.base → AllLoadsTrue r.opening (begins r) r.events → KeepsUnitRule s r → (e : CoreEvent) → is_settling e ≡ false → (g : GrainId)
    → versions_to_write (ends (extended r (e ∷ []))) (ends (extended r (e ∷ []))).manager.batch g ≡ versions_to_write (ends r) (ends r).manager.batch g
versions-stay s r above loads keeps e others g =
    ap (λ (v : CoreState). versions_to_write v v.manager.batch g) (ends-more r (e ∷ []))
    ∙ subst (λ (w : CoreState). versions_to_write (step w e) (step w e).manager.batch g ≡ versions_to_write w w.manager.batch g) (ends_alike r) (by_batch (ends q).manager.batch refl)
  where
    q : Run
    q = applied_run r

    same-batch : (step (ends q) e).manager.batch ≡ (ends q).manager.batch
    same-batch = ap (λ (v : CoreState). v.manager.batch) (sym (ends-more q (e ∷ []))) ∙ (others-leave q e others).batch

    by_batch : (o : Option Batch) → (ends q).manager.batch ≡ o → versions_to_write (step (ends q) e) (step (ends q) e).manager.batch g ≡ versions_to_write (ends q) (ends q).manager.batch g
    by_batch None none = ap (λ (o : Option Batch). versions_to_write (step (ends q) e) o g) (same-batch ∙ none) ∙ sym (ap (λ (o : Option Batch). versions_to_write (ends q) o g) none)
    by_batch (Some b) is =
        versions-on q.opening (ends q) (kept-ends (is_play s.types) q (legal s r above loads keeps)) (depends-ends (is_play s.types) q (legal s r above loads keeps)) b is g e others
