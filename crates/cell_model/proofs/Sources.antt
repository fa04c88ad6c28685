-- Sets of sources.
use Rattle.std.proofs.Common.{◌≡◌, ◌<◌, List, [], ◌∷◌, Bool, true, false, ◌⊎◌, inl, inr, refl, sym, ap, subst, arith, Option, Some, None, filter, nat_lt}
use Rattle.std.specs.Prelude.{if◌then◌else◌, find}
use Rattle.std.proofs.lemmas.Bool.{cond_both, ltb-true, ltb-false, cases_order}
use Rattle.cell_model.specs.Sources.{with_source}
use Rattle.cell_model.specs.Laws.{SourcesFollow}
use Rattle.cell_model.proofs.Units.{same_unit-true, same_unit-false, filter-member, oldest-some}
use Rattle.cell_model.specs.Units.{UnitNo, Member, same_unit, older_first, oldest, UnitsAscend}

with-is : (x : UnitNo) (xs : List UnitNo) (s : UnitNo) (P : List UnitNo → Type 0) →
    (x ≡ s → P (x ∷ xs)) → ((x ≡ s → ⊥) → s.0 < x.0 → P (s ∷ x ∷ xs)) → (x.0 < s.0 → P (x ∷ with_source xs s)) → P (with_source (x ∷ xs) s)
with-is x xs s P same below above =
    cond_both (same_unit x s) (x ∷ xs) (if nat_lt s.0 x.0 then s ∷ x ∷ xs else x ∷ with_source xs s) P
    (λ e. same (same_unit-true x s e))
    (λ e. cond_both (nat_lt s.0 x.0) (s ∷ x ∷ xs) (x ∷ with_source xs s) P
    (λ l. below (same_unit-false x s e) (ltb-true _ _ l))
    (λ l. above (elim (cases_order x.0 s.0) [
      | inl q ↦ absurd (same_unit-false x s e (λ i. record { 0 = q i }))
      | inr q ↦ elim q [ inl m ↦ m | inr m ↦ (let le = ltb-false s.0 x.0 l in absurd (omega (arith, le, m))) ]
    ])))

pub with-has : (xs : List UnitNo) (s : UnitNo) → Member s (with_source xs s)
with-has [] s = inl refl
with-has (x ∷ xs) s = with-is x xs s (Member s) (λ e. inl (sym e)) (λ n l. inl refl) (λ l. inr (with-has xs s))

pub with-keeps : (xs : List UnitNo) (s u : UnitNo) → Member u xs → Member u (with_source xs s)
with-keeps [] s u m = absurd m
with-keeps (x ∷ xs) s u m = with-is x xs s (Member u) (λ e. m) (λ n l. inr m) (λ l. elim m [ inl q ↦ inl q | inr q ↦ inr (with-keeps xs s u q) ])

pub with-only : (xs : List UnitNo) (s u : UnitNo) → Member u (with_source xs s) → (u ≡ s) ⊎ Member u xs
with-only [] s u m = elim m [ inl q ↦ inl q | inr q ↦ absurd q ]
with-only (x ∷ xs) s u m =
    with-is x xs s (λ t. Member u t → (u ≡ s) ⊎ Member u (x ∷ xs)) (λ e m. inr m) (λ n l m. m)
    (λ l m. elim m [ inl q ↦ inr (inl q) | inr q ↦ elim (with-only xs s u q) [ inl a ↦ inl a | inr a ↦ inr (inr a) ] ])
    m

pub with-ascending : (xs : List UnitNo) (s : UnitNo) → UnitsAscend xs → UnitsAscend (with_source xs s)
with-ascending [] s a = ((λ y m. absurd m), tt)
with-ascending (x ∷ xs) s a =
    with-is x xs s UnitsAscend (λ e. a)
    (λ n l. ((λ y m. elim m [ inl q ↦ omega (arith, l, ap (λ (z : UnitNo). z.0) q) | inr q ↦ (let t = a.0 y q in omega (arith, l, t)) ]), a))
    (λ l. (
      (λ y m. elim (with-only xs s y m) [ inl q ↦ omega (arith, l, ap (λ (z : UnitNo). z.0) q) | inr q ↦ a.0 y q ]),
      with-ascending xs s a.1,
    ))

pub sources-follow : (xs : List UnitNo) (s : UnitNo) → UnitsAscend xs → SourcesFollow xs s
sources-follow xs s a = record {
  ascending = with-ascending xs s a;
  has = λ u. ((λ m. with-only xs s u m), (λ o. elim o [ inl q ↦ subst (λ z. Member z (with_source xs s)) (sym q) (with-has xs s) | inr m ↦ with-keeps xs s u m ]));
}

-- in an ascending list the first that meets a test is the oldest
pub first-oldest : (test : UnitNo → Bool) (xs : List UnitNo) → UnitsAscend xs → find test xs ≡ oldest (filter test xs)
first-oldest test [] a = refl
first-oldest test (x ∷ xs) a =
    (let both : (b : Bool) → (if b then Some x else find test xs) ≡ oldest (if b then x ∷ filter test xs else filter test xs) = elim [
      | true ↦ sym (go (oldest (filter test xs)) refl)
      | false ↦ first-oldest test xs a.1
    ] in both (test x))
  where
    go : (o : Option UnitNo) → oldest (filter test xs) ≡ o → older_first x o ≡ Some x
    go None e = refl
    go (Some y) e =
        let m = (filter-member test xs y (oldest-some (filter test xs) y e).0).0 in
        ap Some (cond_both (nat_lt x.0 y.0) x y (λ t. t ≡ x) (λ l. refl) (λ l. (let le = ltb-false x.0 y.0 l in let lt = a.0 y m in absurd (omega (arith, le, lt)))))
