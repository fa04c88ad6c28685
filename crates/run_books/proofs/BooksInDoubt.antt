-- What the images keep of the books after a batch is left in doubt.
use Rattle.std.proofs.Common.{◌≡◌, inl, inr, ℕ, zero, suc, ◌<◌, List, [], ◌∷◌, drop, map, filter, Bool, true, false, refl, sym, ap, ◌∙◌, subst, Option, Some, None}
use Rattle.std.specs.Prelude.{if◌then◌else◌}
use Rattle.base_types.specs.declared.calls.Outcome.{Outcome}
use Rattle.base_types.specs.declared.entries.Entry.{Entry}
use Rattle.base_types.specs.declared.entries.Settled.{Settled}
use Rattle.base_types.specs.declared.entries.Settled.TheVariants as settled
use Rattle.std.proofs.lemmas.Bool.{false≢true}
use Rattle.core_model.specs.CoreState.{UnitNo, CoreState, Member, Batch}
use Rattle.core_model.specs.declared.effects.Effect.{Effect}
use Rattle.core_model.specs.declared.events.CoreEvent.{CoreEvent}
use Rattle.core_model.specs.declared.phases.Phase.{Phase}
use Rattle.core_model.specs.declared.phases.Phase.TheVariants.{Unborn, Finished}
use Rattle.core_model.specs.declared.phases.Verdict.{Verdict}
use Rattle.core_model.specs.declared.phases.Verdict.TheVariants.{Open, Chosen, Condemned, Committed, Aborted}
use Rattle.core_model.specs.Tests.{members, waiting, is_good, is_committed, outcome_of, outcome_in}
use Rattle.core_model.specs.Answers.{effect_of}
use Rattle.core_model.specs.Laws.{extended}
use Rattle.core_model.specs.LegalRuns.{Run, ends}
use Rattle.core_model.specs.SerialOrder.{committed, chosen, batch_begin}
use Rattle.core_model.specs.Settler.{to_commit}
use Rattle.core_laws.proofs.Orders.{in_drop}
use Rattle.core_laws.proofs.ToldOutcomes.{told-ends}
use Rattle.promise_spec.specs.Records.{Commit, AreRecordsOf}
use Rattle.promise_spec.specs.Crashes.{HasOutcome, Acknowledges}
use Rattle.settler_rules.specs.CommittedUnits.{IsToldOf}
use Rattle.run_books.proofs.BooksFair.{IsOfUnit, of-unit, member-take, waits-open}
use Rattle.core_laws.proofs.LoadlessKept.{loadless-ends}

outcome-is : (what : Settled) → HasOutcome what → (result : Outcome) × (what ≡ settled.Done result)
outcome-is (settled.Done result) h = (result, refl)
outcome-is (settled.Lock by grain) h = absurd h
outcome-is (settled.Vote grain) h = absurd h
outcome-is (settled.Dependency on) h = absurd h
outcome-is settled.Disk h = absurd h
outcome-is settled.InDoubt h = absurd h
outcome-is (settled.Bad why) h = absurd h

-- whom an entry with an outcome tells of has an outcome
told-outcome : (r : Run) → 0 < r.base → (x : Entry) → Member x (ends r).manager.settled → HasOutcome x.what → (u : UnitNo) → IsToldOf (ends r) x u
    → ((ends r).units.phase u ≡ Unborn → ⊥) → (o : Outcome) × (outcome_of (ends r) u ≡ Some o)
told-outcome r above x m h u of born =
    let told = told-ends r above in
    let result = outcome-is x.what h in
    elim of [
      | inl same ↦ (result.0, ap (outcome_of (ends r)) same ∙ told.known x result.0 m result.1)
      | inr child ↦ told.children x result.0 m result.1 u child.0 child.1 born child.2
    ]

-- a unit's effect among those that are committed is a committed unit's
committed-unit : (w : CoreState) (us : List UnitNo) (u : UnitNo) → Member u us → w.manager.verdict u ≡ Committed → Member (effect_of w u) (map (effect_of w) (filter (λ v. is_committed (w.manager.verdict v)) us))
committed-unit w [] u m is = absurd m
committed-unit w (v ∷ us) u (inl same) is =
    subst (λ (b : Bool). Member (effect_of w u) (map (effect_of w) (if b then v ∷ filter (λ v. is_committed (w.manager.verdict v)) us else filter (λ v. is_committed (w.manager.verdict v)) us)))
    (sym (ap (λ (y : Verdict). is_committed y) (ap w.manager.verdict (sym same) ∙ is))) (inl (ap (effect_of w) same))
committed-unit w (v ∷ us) u (inr m) is = by (is_committed (w.manager.verdict v)) (committed-unit w us u m is)
  where
    by : (b : Bool) → Member (effect_of w u) (map (effect_of w) (filter (λ v. is_committed (w.manager.verdict v)) us))
        → Member (effect_of w u) (map (effect_of w) (if b then v ∷ filter (λ v. is_committed (w.manager.verdict v)) us else filter (λ v. is_committed (w.manager.verdict v)) us))
    by true t = inr t
    by false t = t

unit-committed : (w : CoreState) (us : List UnitNo) (x : Effect) → Member x (map (effect_of w) (filter (λ v. is_committed (w.manager.verdict v)) us)) → w.manager.verdict x.unit ≡ Committed
unit-committed w [] x m = absurd m
unit-committed w (v ∷ us) x m = split (is_committed (w.manager.verdict v)) refl m (λ t. unit-committed w us x t)
  where
    is-it : (y : Verdict) → w.manager.verdict v ≡ y → is_committed y ≡ true → w.manager.verdict v ≡ Committed
    is-it Committed q t = q
    is-it Open q t = absurd (false≢true t)
    is-it Chosen q t = absurd (false≢true t)
    is-it Condemned q t = absurd (false≢true t)
    is-it Aborted q t = absurd (false≢true t)

    split : (b : Bool) → is_committed (w.manager.verdict v) ≡ b
        → Member x (map (effect_of w) (if b then v ∷ filter (λ v. is_committed (w.manager.verdict v)) us else filter (λ v. is_committed (w.manager.verdict v)) us))
        → (Member x (map (effect_of w) (filter (λ v. is_committed (w.manager.verdict v)) us)) → w.manager.verdict x.unit ≡ Committed) → w.manager.verdict x.unit ≡ Committed
    split true q (inl same) more = ap (λ (y : Effect). w.manager.verdict y.unit) same ∙ is-it (w.manager.verdict v) refl q
    split true q (inr t) more = more t
    split false q t more = more t

member-drop : {A : Type 0} (n : ℕ) (xs : List A) (x : A) → Member x (drop n xs) → Member x xs
member-drop zero xs x m = m
member-drop (suc n) [] x m = absurd m
member-drop (suc n) (y ∷ xs) x m = inr (member-drop n xs x m)

-- no entry tells of a unit in doubt
pub fresh-doubt : (r : Run) (e : CoreEvent) (batch : List Commit) → 0 < r.base
    → AreRecordsOf (to_commit (ends r) (ends r).manager.batch) batch → AreRecordsOf (chosen (ends (extended r (e ∷ [])))) batch → committed (ends (extended r (e ∷ []))) ≡ committed (ends r)
    → (x : Entry) (c : Commit) → Member x (ends (extended r (e ∷ []))).manager.settled → Member c batch → Acknowledges x c → ⊥
fresh-doubt r e batch above of_batch of_chosen same x c said there is = by (ends r).manager.batch of_batch
  where
    later : IsOfUnit (ends (extended r (e ∷ []))) (λ u. is_good ((ends (extended r (e ∷ []))).manager.verdict u)) (drop (batch_begin (ends (extended r (e ∷ []))).manager.doubt (ends (extended r (e ∷ []))).manager.closed) (ends (extended r (e ∷ []))).manager.order) c
    later =
        of-unit (ends (extended r (e ∷ []))) (λ u. is_good ((ends (extended r (e ∷ []))).manager.verdict u)) (drop (batch_begin (ends (extended r (e ∷ []))).manager.doubt (ends (extended r (e ∷ []))).manager.closed) (ends (extended r (e ∷ []))).manager.order) batch c of_chosen there

    finished : (ends (extended r (e ∷ []))).units.phase later.unit ≡ Finished
    finished =
        (in_drop _ (ends (extended r (e ∷ []))) (loadless-ends (extended r (e ∷ [])) above).0 0 later.unit
        (member-drop (batch_begin (ends (extended r (e ∷ []))).manager.doubt (ends (extended r (e ∷ []))).manager.closed) (ends (extended r (e ∷ []))).manager.order later.unit later.among)).0

    told : IsToldOf (ends (extended r (e ∷ []))) x later.unit
    told = elim is.1 [
      | inl entry ↦ inl (sym later.is ∙ entry.unit)
      | inr child ↦ inr (child.0, child.1.0, sym later.origin ∙ child.1.1)
    ]

    known : (o : Outcome) × (outcome_of (ends (extended r (e ∷ []))) later.unit ≡ Some o)
    known = told-outcome (extended r (e ∷ [])) above x said is.0 later.unit told (λ q. (let z : Finished ≡ Unborn = sym finished ∙ q in absurd cc))

    is-committed : (v : Verdict) → (ends (extended r (e ∷ []))).manager.verdict later.unit ≡ v → is_good v ≡ true
        → outcome_in Finished v ((ends (extended r (e ∷ []))).manager.result later.unit) ≡ Some known.0 → (ends (extended r (e ∷ []))).manager.verdict later.unit ≡ Committed
    is-committed Committed q good out = q
    is-committed Chosen q good out = absurd cc
    is-committed Open q good out = absurd (false≢true good)
    is-committed Condemned q good out = absurd (false≢true good)
    is-committed Aborted q good out = absurd (false≢true good)

    committed-now : (ends (extended r (e ∷ []))).manager.verdict later.unit ≡ Committed
    committed-now =
        is-committed ((ends (extended r (e ∷ []))).manager.verdict later.unit) refl later.test
        (ap (λ (p : Phase). outcome_in p ((ends (extended r (e ∷ []))).manager.verdict later.unit) ((ends (extended r (e ∷ []))).manager.result later.unit)) (sym finished) ∙ known.1)

    committed-then : (ends r).manager.verdict later.unit ≡ Committed
    committed-then =
        unit-committed (ends r) (ends r).manager.order (effect_of (ends (extended r (e ∷ []))) later.unit)
        (subst (λ (es : List Effect). Member (effect_of (ends (extended r (e ∷ []))) later.unit) es) same
        (committed-unit (ends (extended r (e ∷ []))) (ends (extended r (e ∷ []))).manager.order later.unit
        (member-drop (batch_begin (ends (extended r (e ∷ []))).manager.doubt (ends (extended r (e ∷ []))).manager.closed) (ends (extended r (e ∷ []))).manager.order later.unit later.among) committed-now))

    by : (batch_is : Option Batch) → AreRecordsOf (to_commit (ends r) batch_is) batch → ⊥
    by None are = none batch are there
      where
        none : (ls : List Commit) → AreRecordsOf [] ls → Member c ls → ⊥
        none [] are m = absurd m
        none (l ∷ ls) are m = absurd are
    by (Some b) are =
        let t = of-unit (ends r) (λ u. is_good ((ends r).manager.verdict u)) (members (ends r) b) batch c are there in
        let unit : t.unit ≡ later.unit = sym t.is ∙ later.is in
        waits-open r above t.unit (member-take b.size (waiting (ends r)) t.unit t.among) (ap (ends r).manager.verdict unit ∙ committed-then)
