-- The last version by the run's own records is the last committed one.
use Rattle.std.proofs.Common.{◌≡◌, ℕ, suc, ◌+◌, ◌<◌, ◌≤◌, List, [], ◌∷◌, ◌++◌, Bool, ◌⊎◌, inl, inr, refl, sym, ap, ◌∙◌, subst, arith, Option, Some, None, length, get_or, map, filter, unwrap_or}
use Rattle.std.proofs.lemmas.Bool.{cases_Bool, cond-true, cond-false}
use Rattle.cell_model.proofs.Units.{filter-member, filter-stays}
use Rattle.base_types.specs.declared.stores.Version.{Version}
use Rattle.core_model.specs.CoreState.{UnitNo, GrainId, nobody, Member, Value, CoreState}
use Rattle.core_model.specs.declared.phases.Verdict.TheVariants.{Committed}
use Rattle.core_model.specs.Tests.{is_committed, state_written}
use Rattle.core_model.specs.Answers.{effect_of}
use Rattle.core_model.specs.LegalRuns.{Run, ends}
use Rattle.core_model.specs.SerialOrder.{IsLastVersion, IsLastWriter, committed}
use Rattle.core_model.specs.Consistency.{HasOrderedPlaces}
use Rattle.core_laws.proofs.Basics.{is_committed-true}
use Rattle.core_laws.proofs.Orders.{Member-at, Member-get}
use Rattle.core_laws.proofs.LoadlessRuns.{committed-closed, prefix-ends}
use Rattle.promise_spec.specs.Records.{Commit, States, written, AreRecordsOf}
use Rattle.run_books.specs.LastVersions.{version_after, version_behind, true_load}

-- ---- the records, one by one

-- none of these units wrote the grain
abbrev NoneOf : CoreState → GrainId → List UnitNo → Type 0
NoneOf w g us = (c : UnitNo) (x : List Value) → Member c us → state_written g (w.manager.writes c) ≡ Some x → ⊥

-- one of them did, and none behind it
record Found (w : CoreState) (g : GrainId) (us : List UnitNo) (o : Option Version) : Type 0 where
  front : List UnitNo
  unit : UnitNo
  behind : List UnitNo
  state : List Value
  split : us ≡ front ++ (unit ∷ behind)
  wrote : state_written g (w.manager.writes unit) ≡ Some state
  none : NoneOf w g behind
  is : o ≡ Some (record { unit = unit; state = state })

none-more : (w : CoreState) (g : GrainId) (u : UnitNo) (us : List UnitNo) → NoneOf w g us → state_written g (w.manager.writes u) ≡ None → NoneOf w g (u ∷ us)
none-more w g u us n e = λ c x m f. elim m [
  | inl q ↦ (let z : None ≡ Some x = sym e ∙ ap (λ k. state_written g (w.manager.writes k)) (sym q) ∙ f in cc)
  | inr k ↦ n c x k f
]

look : (w : CoreState) (g : GrainId) (us : List UnitNo) (log : List Commit) (b : Option Version) → AreRecordsOf (map (effect_of w) us) log
    → (NoneOf w g us × (version_behind g log b ≡ b)) ⊎ Found w g us (version_behind g log b)
look w g [] [] b are = inl ((λ c x m f. absurd m), refl)
look w g [] (l ∷ log) b are = absurd are
look w g (u ∷ us) [] b are = absurd are
look w g (u ∷ us) (l ∷ log) b are = elim (look w g us log (version_after l.logged.unit (state_written g (written l)) b) are.1) [
  | inr f ↦ inr (record { front = u ∷ f.front; unit = f.unit; behind = f.behind; state = f.state; split = ap (λ xs. u ∷ xs) f.split; wrote = f.wrote; none = f.none; is = f.is })
  | inl t ↦ here (state_written g (w.manager.writes u)) refl t.0 t.1
]
  where
    wrote-is : state_written g (written l) ≡ state_written g (w.manager.writes u)
    wrote-is = ap (state_written g) are.0.writes

    here : (o : Option (List Value)) → state_written g (w.manager.writes u) ≡ o → NoneOf w g us
        → version_behind g log (version_after l.logged.unit (state_written g (written l)) b) ≡ version_after l.logged.unit (state_written g (written l)) b
        → (NoneOf w g (u ∷ us) × (version_behind g (l ∷ log) b ≡ b)) ⊎ Found w g (u ∷ us) (version_behind g (l ∷ log) b)
    here None q n t = inl (none-more w g u us n q, t ∙ ap (λ o. version_after l.logged.unit o b) (wrote-is ∙ q))
    here (Some s) q n t = inr (record {
      front = [];
      unit = u;
      behind = us;
      state = s;
      split = refl;
      wrote = q;
      none = n;
      is = t ∙ ap (λ o. version_after l.logged.unit o b) (wrote-is ∙ q) ∙ ap (λ z. Some (record { unit = z; state = s })) are.0.unit;
    })

-- ---- places in the finish order

-- each unit has a place below those behind it
abbrev Rises : (UnitNo → ℕ) → List UnitNo → Type 0
Rises place [] = Unit {0}
Rises place (u ∷ us) = ((x : UnitNo) → Member x us → place u ≤ place x) × Rises place us

rises-at : (place : UnitNo → ℕ) (k : ℕ) (us : List UnitNo) → ((i : ℕ) → i < length us → place (get_or us i nobody) ≡ k + i + 1) → Rises place us
rises-at place k [] at = tt
rises-at place k (u ∷ us) at = (
  (λ x m. (let t = Member-at x us m in
      let a : place (get_or us t.0 nobody) ≡ k + suc t.0 + 1 = at (suc t.0) (omega (arith, t.1)) in
      let b : place u ≡ k + 0 + 1 = at 0 (omega arith) in
      let c : place x ≡ k + suc t.0 + 1 = subst (λ z. place z ≡ k + suc t.0 + 1) t.2 a in
      omega (arith, b, c))),
  rises-at place (k + 1) us (λ i h. (let a = at (suc i) (omega (arith, h)) in omega (arith, a))),
)

rises-filter : (place : UnitNo → ℕ) (p : UnitNo → Bool) (us : List UnitNo) → Rises place us → Rises place (filter p us)
rises-filter place p [] r = tt
rises-filter place p (u ∷ us) r = elim (cases_Bool (p u)) [
  | inl e ↦ subst (Rises place) (sym (cond-true (p u) (u ∷ filter p us) (filter p us) e)) ((λ x m. r.0 x (filter-member p us x m).0), rises-filter place p us r.1)
  | inr e ↦ subst (Rises place) (sym (cond-false (p u) (u ∷ filter p us) (filter p us) e)) (rises-filter place p us r.1)
]

member-last : (u : UnitNo) (xs behind : List UnitNo) → Member u (xs ++ (u ∷ behind))
member-last u [] behind = inl refl
member-last u (y ∷ ys) behind = inr (member-last u ys behind)

-- who stands before another has a lower place
front-lower : (place : UnitNo → ℕ) (front : List UnitNo) (u : UnitNo) (behind : List UnitNo) (c : UnitNo) → Rises place (front ++ (u ∷ behind)) → Member c front → place c ≤ place u
front-lower place [] u behind c r m = absurd m
front-lower place (x ∷ front) u behind c r (inl e) = subst (λ z. place z ≤ place u) (sym e) (r.0 u (member-last u front behind))
front-lower place (x ∷ front) u behind c r (inr m) = front-lower place front u behind c r.1 m

member-parts : (c : UnitNo) (xs ys : List UnitNo) → Member c (xs ++ ys) → Member c xs ⊎ Member c ys
member-parts c [] ys m = inr m
member-parts c (x ∷ xs) ys (inl e) = inl (inl e)
member-parts c (x ∷ xs) ys (inr m) = elim (member-parts c xs ys m) [ inl k ↦ inl (inr k) | inr k ↦ inr k ]

-- ---- the committed units

module _ (r : Run) (above : 0 < r.base) where
  abbrev w : CoreState
  w = ends r

  abbrev units : List UnitNo
  units = filter (λ u. is_committed ((ends r).manager.verdict u)) (ends r).manager.order

  ordered : HasOrderedPlaces (ends r)
  ordered = (prefix-ends r above).order

  rises : Rises (ends r).manager.place (filter (λ u. is_committed ((ends r).manager.verdict u)) (ends r).manager.order)
  rises = rises-filter w.manager.place (λ u. is_committed (w.manager.verdict u)) w.manager.order (rises-at w.manager.place 0 w.manager.order (λ i h. (let t = (ordered.listed i h).1 in omega (arith, t))))

  -- a committed unit is one of them
  is-one : (c : UnitNo) → (ends r).manager.verdict c ≡ Committed → Member c (filter (λ u. is_committed ((ends r).manager.verdict u)) (ends r).manager.order)
  is-one c e =
      let f = (committed-closed r above c e).0 in
      let p = ordered.placed c f in
      filter-stays (λ u. is_committed (w.manager.verdict u)) w.manager.order c (subst (λ z. Member z w.manager.order) p.3 (Member-get w.manager.order p.0 p.1)) (ap is_committed e)

  -- and each of them is committed
  commits : (c : UnitNo) → Member c (filter (λ u. is_committed ((ends r).manager.verdict u)) (ends r).manager.order) → (ends r).manager.verdict c ≡ Committed
  commits c m = is_committed-true _ (filter-member (λ u. is_committed (w.manager.verdict u)) w.manager.order c m).1

  found-last : (g : GrainId) (o : Option Version) (f : Found (ends r) g units o) → IsLastWriter (ends r) g f.unit f.state
  found-last g o f = record {
    commits = commits f.unit (subst (Member f.unit) (sym f.split) (member-last f.unit f.front f.behind));
    wrote = f.wrote;
    last = λ c v e q. elim (member-parts c f.front (f.unit ∷ f.behind) (subst (Member c) f.split (is-one c e))) [
      | inl m ↦ front-lower w.manager.place f.front f.unit f.behind c (subst (Rises w.manager.place) f.split rises) m
      | inr m ↦ elim m [
        | inl k ↦ (let s = ap w.manager.place k in omega (arith, s))
        | inr k ↦ absurd (f.none c v k q)
      ]
    ];
  }

  -- by what is found, whatever the grain's state was where the run began
  pub true-load : (opening : States) (commits_are : List Commit) (g : GrainId) → AreRecordsOf (committed (ends r)) commits_are
      → IsLastVersion opening (ends r) g (true_load opening g commits_are).unit (true_load opening g commits_are).state
  true-load opening log g are = elim (look w g units log None are) [
    | inl t ↦ subst (λ (o : Option Version). IsLastVersion opening w g (unwrap_or o first).unit (unwrap_or o first).state) (sym t.1)
        (inl (refl, refl, λ c v e q. t.0 c v (is-one c e) q))
    | inr f ↦ subst (λ (o : Option Version). IsLastVersion opening w g (unwrap_or o first).unit (unwrap_or o first).state) (sym f.is) (inr (found-last g (version_behind g log None) f))
  ]
    where
      first : Version
      first = record { unit = nobody; state = opening g }
