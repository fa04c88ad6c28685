-- A batch is in doubt only behind an event that left it so.
use Rattle.std.proofs.Common.{◌≡◌, ◌⊎◌, inl, inr, ℕ, suc, Bool, true, false, List, [], ◌∷◌, take, Option, Some, None, refl, sym, ap, subst, ◌∙◌}
use Rattle.std.specs.Prelude.{slice_get, if◌then◌else◌}
use Rattle.std.proofs.lemmas.Bool.{and_parts}
use Rattle.core_model.specs.declared.events.CoreEvent.{CoreEvent}
use Rattle.core_model.specs.declared.events.CoreEvent.TheVariants.{Doubt}
use Rattle.core_model.specs.Events.{applies, is_allowed, can, does, step, run}
use Rattle.core_model.specs.Changes.{swept, swept_by}
use Rattle.core_model.specs.LegalRuns.{Run, begins, ends}
use Rattle.core_model.specs.CoreState.{CoreState}
use Rattle.core_laws.proofs.EventCases.{Change, bad, begin, lock, raise, refuse, finish, end_plain, end_snapshot, release, take_batch, vote, decide_some, decide_none, seal_batch, spoil_batch, doubt_batch, learn, emit, halt_run, want, load, decode}
use Rattle.promise_spec.specs.Causes.{RunHasDoubt}

-- the event is one of doubt
abbrev IsOfDoubt : CoreEvent → Type 0
IsOfDoubt e = (n : ℕ) × (e ≡ Doubt n)

-- no other changes what is in doubt
one_change : (w w' : CoreState) (e : CoreEvent) → Change w e w' → (w'.manager.doubt ≡ w.manager.doubt) ⊎ IsOfDoubt e
one_change w _ _ (bad line why is) = inl refl
one_change w _ _ (begin origin call plain is) = inl refl
one_change w _ _ (lock u g mode p q r s) = inl refl
one_change w _ _ (raise u g mode p q r s t) = inl refl
one_change w _ _ (refuse u g mode why p q) = inl refl
one_change w _ _ (finish u effect p q r s t) = inl refl
one_change w _ _ (end_plain u effect p q r s) = inl refl
one_change w _ _ (end_snapshot u at outcome p q r s) = inl refl
one_change w _ _ (release u g p q) = inl refl
one_change w _ _ (take_batch p q) = inl refl
one_change w _ _ (vote n g kept b p q r s t) = inl refl
one_change w _ _ (decide_some n b p q r s t) = inl refl
one_change w _ _ (decide_none n b p q r s t) = inl refl
one_change w _ _ (seal_batch n b ds p q r) = inl refl
one_change w _ _ (spoil_batch n b ds p q r) = inl refl
one_change w _ _ (doubt_batch n b ds p q r) = inr (n, refl)
one_change w _ _ (learn u g p q r) = inl refl
one_change w _ _ (emit p) = inl refl
one_change w _ _ (halt_run p) = inl refl
one_change w _ _ (want u g p q r) = inl refl
one_change w _ _ (load g u state p q) = inl refl

swept_same : (w : CoreState) (capacity : Option ℕ) → (swept_by w capacity).manager.doubt ≡ w.manager.doubt
swept_same w None = refl
swept_same w (Some n) = refl

one_step : (w : CoreState) (e : CoreEvent) → ((step w e).manager.doubt ≡ w.manager.doubt) ⊎ (IsOfDoubt e × (applies w e ≡ true))
one_step w e = by_test (applies w e) refl where
  by_test : (b : Bool) → applies w e ≡ b → ((if b then swept (does w e) else w).manager.doubt ≡ w.manager.doubt) ⊎ (IsOfDoubt e × (applies w e ≡ true))
  by_test true is = elim (one_change w (does w e) e (decode w e (and_parts (is_allowed w e) (can w e) is).1)) [
    | inl same ↦ inl (swept_same (does w e) (does w e).cells.capacity ∙ same)
    | inr doubt ↦ inr (doubt, is)
  ]
  by_test false is = inl refl

-- one of the events, which begin in this state, left a batch in doubt
record HasLeft (w : CoreState) (events : List CoreEvent) : Type 0 where
  at : ℕ
  number : ℕ
  there : slice_get events at ≡ Some (Doubt number)
  applied : applies (run w (take at events)) (Doubt number) ≡ true

-- what is in doubt behind some events was so before them, or one of them left it so
left_by : (w : CoreState) (events : List CoreEvent) (begins : ℕ) → (run w events).manager.doubt ≡ Some begins → (w.manager.doubt ≡ Some begins) ⊎ HasLeft w events
left_by w [] begins is = inl is
left_by w (e ∷ events) begins is = elim (left_by (step w e) events begins is) [
  | inl before ↦ elim (one_step w e) [
    | inl same ↦ inl (sym same ∙ before)
    | inr doubt ↦ inr (record { at = 0; number = doubt.0.0; there = ap Some doubt.0.1; applied = subst (λ (x : CoreEvent). applies w x ≡ true) doubt.0.1 doubt.1 })
  ]
  | inr later ↦ inr (record { at = suc later.at; number = later.number; there = later.there; applied = later.applied })
]

-- a run with a batch in doubt at its end has an event that left it so
pub doubt_left : (r : Run) (begins : ℕ) → (ends r).manager.doubt ≡ Some begins → RunHasDoubt r
doubt_left r at is = elim (left_by (begins r) r.events at is) [
  | inl before ↦ absurd (let wrong : None ≡ Some at = before in cc wrong)
  | inr left ↦ record { at = left.at; number = left.number; doubt = record { there = left.there; applied = left.applied } }
]
