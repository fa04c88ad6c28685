-- Grains that are added one by one are those in ascending order.
use Rattle.std.proofs.Common.{◌≡◌, ◌⊎◌, inl, inr, ℕ, nat_lt, Bool, true, false, if◌then◌else◌, List, [], ◌∷◌, ◌++◌, map, refl, sym, ◌∙◌, ap, arith}
use Rattle.std.specs.Prelude.{◌==◌, ◌&&◌, ◌||◌}
use Rattle.std.specs.List.{list_any}
use Rattle.std.specs.BTreeSet.{insert_key}
use Rattle.std.specs.Ordering.{match_ordering, ordering_then, ordering_reverse}
use Rattle.std.specs.declared.cmp.Ordering.{Ordering}
use Rattle.std.specs.declared.cmp.Ordering.TheVariants.{Less, Equal, Greater}
use Rattle.std.specs.Cmp.{IsTotalOrder}
use Rattle.std.proofs.lemmas.Cmp.{then_total, on_total, nat_cmp_total}
use Rattle.std.proofs.lemmas.Bool.{ltb-true, eqb-true, eq-eqb, and_parts, and_from, false_from_ne_true}
use Rattle.base_types.specs.declared.calls.GrainId.{GrainId}
use Rattle.base_types.specs.Stores.{grain_cmp}
use Rattle.commit_log.specs.declared.records.CommitRecord.{CommitRecord}
use Rattle.commit_log.specs.declared.records.Written.{Written}
use Rattle.base_types.specs.Grains.{same_grain}
use Rattle.log_reading.specs.Versions.{is_before, ascending_with, ascending}
use Rattle.log_audit.specs.WrittenGrains.{grains_recorded, grains_added}

-- ---- two keys that are added to others, in either order

cases_ordering : (o : Ordering) → (o ≡ Less) ⊎ ((o ≡ Equal) ⊎ (o ≡ Greater))
cases_ordering Less = inl refl
cases_ordering Equal = inr (inl refl)
cases_ordering Greater = inr (inr refl)

module _ {K : Type 0} (R : K → K → Ordering) (total : IsTotalOrder R) (equal : (x y : K) → R x y ≡ Equal → x ≡ y) where
  abbrev added : K → List K → List K
  added k xs = insert_key R xs k

  at_less : (k x : K) (xs : List K) → R k x ≡ Less → added k (x ∷ xs) ≡ k ∷ x ∷ xs
  at_less k x xs e = ap (λ (o : Ordering). match_ordering o (k ∷ x ∷ xs) (x ∷ xs) (x ∷ added k xs)) e

  at_equal : (k x : K) (xs : List K) → R k x ≡ Equal → added k (x ∷ xs) ≡ x ∷ xs
  at_equal k x xs e = ap (λ (o : Ordering). match_ordering o (k ∷ x ∷ xs) (x ∷ xs) (x ∷ added k xs)) e

  at_greater : (k x : K) (xs : List K) → R k x ≡ Greater → added k (x ∷ xs) ≡ x ∷ added k xs
  at_greater k x xs e = ap (λ (o : Ordering). match_ordering o (k ∷ x ∷ xs) (x ∷ xs) (x ∷ added k xs)) e

  greater_of : (x y : K) → R x y ≡ Less → R y x ≡ Greater
  greater_of x y e = total.antisymm y x ∙ ap ordering_reverse e

  less_of : (x y : K) → R x y ≡ Greater → R y x ≡ Less
  less_of x y e = total.antisymm y x ∙ ap ordering_reverse e

  equal_of : (x y : K) → R x y ≡ Equal → R y x ≡ Equal
  equal_of x y e = total.antisymm y x ∙ ap ordering_reverse e

  -- both come before the first
  both_first : (a b h : K) (hs : List K) → R a h ≡ Less → R b h ≡ Less → added a (b ∷ h ∷ hs) ≡ added b (a ∷ h ∷ hs)
  both_first a b h hs low also = elim (cases_ordering (R a b)) [
    | inl less ↦ at_less a b (h ∷ hs) less ∙ sym (at_greater b a (h ∷ hs) (greater_of a b less) ∙ ap (λ (l : List K). a ∷ l) (at_less b h hs also))
    | inr (inl same) ↦ at_equal a b (h ∷ hs) same ∙ ap (λ (k : K). k ∷ h ∷ hs) (sym (equal a b same)) ∙ sym (at_equal b a (h ∷ hs) (equal_of a b same))
    | inr (inr more) ↦ at_greater a b (h ∷ hs) more ∙ ap (λ (l : List K). b ∷ l) (at_less a h hs low) ∙ sym (at_less b a (h ∷ hs) (less_of a b more))
  ]

  -- one is the first, or behind it
  one_first : (a b h : K) (hs : List K) → R a h ≡ Less → (R b h ≡ Equal) ⊎ (R b h ≡ Greater) → added a (added b (h ∷ hs)) ≡ added b (added a (h ∷ hs))
  one_first a b h hs low (inl same) =
      let above : R b a ≡ Greater = ap (λ (k : K). R k a) (equal b h same) ∙ greater_of a h low in
      ap (added a) (at_equal b h hs same) ∙ at_less a h hs low
      ∙ sym (ap (added b) (at_less a h hs low) ∙ at_greater b a (h ∷ hs) above ∙ ap (λ (l : List K). a ∷ l) (at_equal b h hs same))
  one_first a b h hs low (inr more) =
      let above : R b a ≡ Greater = greater_of a b (total.trans a h b low (less_of b h more)) in
      ap (added a) (at_greater b h hs more) ∙ at_less a h (added b hs) low
      ∙ sym (ap (added b) (at_less a h hs low) ∙ at_greater b a (h ∷ hs) above ∙ ap (λ (l : List K). a ∷ l) (at_greater b h hs more))

  -- one is the first, and the other behind it
  one_behind : (a b h : K) (hs : List K) → R a h ≡ Equal → R b h ≡ Greater → added a (added b (h ∷ hs)) ≡ added b (added a (h ∷ hs))
  one_behind a b h hs same more =
      ap (added a) (at_greater b h hs more) ∙ at_equal a h (added b hs) same
      ∙ sym (ap (added b) (at_equal a h hs same) ∙ at_greater b h hs more)

  alone : (a b : K) → added a (b ∷ []) ≡ added b (a ∷ [])
  alone a b = elim (cases_ordering (R a b)) [
    | inl less ↦ at_less a b [] less ∙ sym (at_greater b a [] (greater_of a b less))
    | inr (inl same) ↦ at_equal a b [] same ∙ ap (λ (k : K). k ∷ []) (sym (equal a b same)) ∙ sym (at_equal b a [] (equal_of a b same))
    | inr (inr more) ↦ at_greater a b [] more ∙ sym (at_less b a [] (less_of a b more))
  ]

  pub either_first : (a b : K) (xs : List K) → added a (added b xs) ≡ added b (added a xs)
  either_first a b [] = alone a b
  either_first a b (h ∷ hs) = elim (cases_ordering (R a h)) [
    | inl low ↦ elim (cases_ordering (R b h)) [
      | inl also ↦ ap (added a) (at_less b h hs also) ∙ both_first a b h hs low also ∙ sym (ap (added b) (at_less a h hs low))
      | inr other ↦ one_first a b h hs low other
    ]
    | inr (inl same) ↦ elim (cases_ordering (R b h)) [
      | inl low ↦ sym (one_first b a h hs low (inl same))
      | inr (inl also) ↦ ap (added a) (at_equal b h hs also) ∙ at_equal a h hs same ∙ sym (ap (added b) (at_equal a h hs same) ∙ at_equal b h hs also)
      | inr (inr more) ↦ one_behind a b h hs same more
    ]
    | inr (inr more) ↦ elim (cases_ordering (R b h)) [
      | inl low ↦ sym (one_first b a h hs low (inr more))
      | inr (inl also) ↦ sym (one_behind b a h hs also more)
      | inr (inr far) ↦
          ap (added a) (at_greater b h hs far) ∙ at_greater a h (added b hs) more ∙ ap (λ (l : List K). h ∷ l) (either_first a b hs)
          ∙ sym (ap (added b) (at_greater a h hs more) ∙ at_greater b h (added a hs) far)
    ]
  ]

-- ---- grains

grain_total : IsTotalOrder grain_cmp
grain_total = then_total (on_total (λ (g : GrainId). g.kind) nat_cmp_total) (on_total (λ (g : GrainId). g.key) nat_cmp_total)

abbrev two : Bool → Bool → Bool → Bool → Ordering
two b1 b2 b3 b4 = ordering_then (if b1 then Less else (if b2 then Equal else Greater)) (if b3 then Less else (if b4 then Equal else Greater))

both_equal : (b1 b2 b3 b4 : Bool) → two b1 b2 b3 b4 ≡ Equal → (b2 ≡ true) × (b4 ≡ true)
both_equal true b2 b3 b4 e = absurd cc
both_equal false true true b4 e = absurd cc
both_equal false true false true e = (refl, refl)
both_equal false true false false e = absurd cc
both_equal false false b3 b4 e = absurd cc

grain_equal : (x y : GrainId) → grain_cmp x y ≡ Equal → x ≡ y
grain_equal x y e =
    let p = both_equal (nat_lt x.kind y.kind) (x.kind == y.kind) (nat_lt x.key y.key) (x.key == y.key) e in
    let kind : x.kind ≡ y.kind = eqb-true x.kind y.kind p.0 in
    let key : x.key ≡ y.key = eqb-true x.key y.key p.1 in
    λ i. record { kind = kind i; key = key i }

by_tests : (b1 b2 b3 b4 : Bool) → (b1 ≡ true → b2 ≡ false) → (b3 ≡ true → b4 ≡ false) → (low same high : List GrainId)
    → match_ordering (two b1 b2 b3 b4) low same high ≡ (if (b2 && b4) then same else (if (b1 || (b2 && b3)) then low else high))
by_tests true true b3 b4 p q low same high = absurd (let no : true ≡ false = p refl in cc)
by_tests true false b3 b4 p q low same high = refl
by_tests false true true true p q low same high = absurd (let no : true ≡ false = q refl in cc)
by_tests false true true false p q low same high = refl
by_tests false true false true p q low same high = refl
by_tests false true false false p q low same high = refl
by_tests false false b3 b4 p q low same high = refl

less_other : (a b : ℕ) → nat_lt a b ≡ true → (a == b) ≡ false
less_other a b low = false_from_ne_true (a == b) (λ e. absurd (omega (arith, ltb-true a b low, eqb-true a b e)))

-- a set adds a grain as the ascending list does
pub inserted : (xs : List GrainId) (k : GrainId) → insert_key grain_cmp xs k ≡ ascending_with k xs
inserted [] k = refl
inserted (x ∷ xs) k =
    ap (λ (l : List GrainId). match_ordering (grain_cmp k x) (k ∷ x ∷ xs) (x ∷ xs) (x ∷ l)) (inserted xs k)
    ∙ by_tests (nat_lt k.kind x.kind) (k.kind == x.kind) (nat_lt k.key x.key) (k.key == x.key) (less_other k.kind x.kind) (less_other k.key x.key) (k ∷ x ∷ xs) (x ∷ xs) (x ∷ ascending_with k xs)

either_grain : (a b : GrainId) (xs : List GrainId) → ascending_with a (ascending_with b xs) ≡ ascending_with b (ascending_with a xs)
either_grain a b xs =
    sym (inserted (ascending_with b xs) a) ∙ ap (λ (l : List GrainId). insert_key grain_cmp l a) (sym (inserted xs b))
    ∙ either_first grain_cmp grain_total grain_equal a b xs
    ∙ ap (λ (l : List GrainId). insert_key grain_cmp l b) (inserted xs a) ∙ inserted (ascending_with a xs) b

-- ---- a list that ascends already

same_is : (a b : GrainId) → same_grain a b ≡ true → a ≡ b
same_is a b e =
    let p = and_parts (a.kind == b.kind) (a.key == b.key) e in
    let k : a.kind ≡ b.kind = eqb-true a.kind b.kind p.0 in
    let y : a.key ≡ b.key = eqb-true a.key b.key p.1 in
    λ i. record { kind = k i; key = y i }

same_self : (g : GrainId) → same_grain g g ≡ true
same_self g = and_from (g.kind == g.kind) (g.key == g.key) (eq-eqb g.kind g.kind refl) (eq-eqb g.key g.key refl)

-- by how a grain compares to the first
module _ (g h : GrainId) (hs : List GrainId) where
  with_same : same_grain g h ≡ true → ascending_with g (h ∷ hs) ≡ h ∷ hs
  with_same e = ap (λ (b : Bool). if b then h ∷ hs else (if is_before g h then g ∷ h ∷ hs else h ∷ ascending_with g hs)) e

  with_before : same_grain g h ≡ false → is_before g h ≡ true → ascending_with g (h ∷ hs) ≡ g ∷ h ∷ hs
  with_before e k =
      ap (λ (b : Bool). if b then h ∷ hs else (if is_before g h then g ∷ h ∷ hs else h ∷ ascending_with g hs)) e
      ∙ ap (λ (b : Bool). if b then g ∷ h ∷ hs else h ∷ ascending_with g hs) k

  with_after : same_grain g h ≡ false → is_before g h ≡ false → ascending_with g (h ∷ hs) ≡ h ∷ ascending_with g hs
  with_after e k =
      ap (λ (b : Bool). if b then h ∷ hs else (if is_before g h then g ∷ h ∷ hs else h ∷ ascending_with g hs)) e
      ∙ ap (λ (b : Bool). if b then g ∷ h ∷ hs else h ∷ ascending_with g hs) k

  by_first : (P : Type 0) → (same_grain g h ≡ true → P) → (same_grain g h ≡ false → is_before g h ≡ true → P) → (same_grain g h ≡ false → is_before g h ≡ false → P) → P
  by_first P same low high = go (same_grain g h) refl (is_before g h) refl
    where
      go : (b : Bool) → same_grain g h ≡ b → (d : Bool) → is_before g h ≡ d → P
      go true e d k = same e
      go false e true k = low e k
      go false e false k = high e k

with_twice : (g : GrainId) (xs : List GrainId) → ascending_with g (ascending_with g xs) ≡ ascending_with g xs
with_twice g [] = with_same g g [] (same_self g)
with_twice g (h ∷ hs) = by_first g h hs (ascending_with g (ascending_with g (h ∷ hs)) ≡ ascending_with g (h ∷ hs))
    (λ e. ap (ascending_with g) (with_same g h hs e))
    (λ e k. ap (ascending_with g) (with_before g h hs e k) ∙ with_same g g (h ∷ hs) (same_self g) ∙ sym (with_before g h hs e k))
    (λ e k. ap (ascending_with g) (with_after g h hs e k) ∙ with_after g h (ascending_with g hs) e k ∙ ap (λ (l : List GrainId). h ∷ l) (with_twice g hs) ∙ sym (with_after g h hs e k))

of_with : (g : GrainId) (xs : List GrainId) → ascending (ascending_with g xs) ≡ ascending_with g (ascending xs)
of_with g [] = refl
of_with g (h ∷ hs) = by_first g h hs (ascending (ascending_with g (h ∷ hs)) ≡ ascending_with g (ascending (h ∷ hs)))
    (λ e. ap ascending (with_same g h hs e) ∙ sym (with_twice h (ascending hs)) ∙ ap (λ (k : GrainId). ascending_with k (ascending_with h (ascending hs))) (sym (same_is g h e)))
    (λ e k. ap ascending (with_before g h hs e k))
    (λ e k. ap ascending (with_after g h hs e k) ∙ ap (ascending_with h) (of_with g hs) ∙ either_grain h g (ascending hs))

pub ascending_twice : (gs : List GrainId) → ascending (ascending gs) ≡ ascending gs
ascending_twice [] = refl
ascending_twice (g ∷ gs) = of_with g (ascending gs) ∙ ap (ascending_with g) (ascending_twice gs)

or_again : (a b : Bool) → (a || b) ≡ (a || (a || b))
or_again true b = refl
or_again false b = refl

or_turned : (a b c : Bool) → (a || (b || c)) ≡ (b || (a || c))
or_turned true true c = refl
or_turned true false c = refl
or_turned false true c = refl
or_turned false false c = refl

-- a grain is among them or isn't, in whatever order
module _ (grain : GrainId) where
  abbrev one_of : List GrainId → Bool
  one_of gs = list_any (λ g. same_grain g grain) gs

  any_with : (k : GrainId) (xs : List GrainId) → one_of (ascending_with k xs) ≡ (same_grain k grain || one_of xs)
  any_with k [] = refl
  any_with k (h ∷ hs) = by_first k h hs (one_of (ascending_with k (h ∷ hs)) ≡ (same_grain k grain || one_of (h ∷ hs)))
      (λ e. ap one_of (with_same k h hs e) ∙ or_again (same_grain h grain) (one_of hs) ∙ ap (λ (g : GrainId). same_grain g grain || one_of (h ∷ hs)) (sym (same_is k h e)))
      (λ e low. ap one_of (with_before k h hs e low))
      (λ e high. ap one_of (with_after k h hs e high) ∙ ap (λ (b : Bool). same_grain h grain || b) (any_with k hs) ∙ or_turned (same_grain h grain) (same_grain k grain) (one_of hs))

  pub any_ascending : (gs : List GrainId) → one_of (ascending gs) ≡ one_of gs
  any_ascending [] = refl
  any_ascending (g ∷ gs) = any_with g (ascending gs) ∙ ap (λ (b : Bool). same_grain g grain || b) (any_ascending gs)

-- ---- one by one

one_before : (g : GrainId) (kept gs : List GrainId) → grains_added (ascending_with g kept) gs ≡ ascending_with g (grains_added kept gs)
one_before g kept [] = refl
one_before g kept (h ∷ gs) = ap (λ (l : List GrainId). grains_added l gs) (either_grain h g kept) ∙ one_before g (ascending_with h kept) gs

pub are_ascending : (gs : List GrainId) → grains_added [] gs ≡ ascending gs
are_ascending [] = refl
are_ascending (g ∷ gs) = one_before g [] gs ∙ ap (ascending_with g) (are_ascending gs)

pub grains_added-append : (kept xs ys : List GrainId) → grains_added kept (xs ++ ys) ≡ grains_added (grains_added kept xs) ys
grains_added-append kept [] ys = refl
grains_added-append kept (x ∷ xs) ys = grains_added-append (ascending_with x kept) xs ys

abbrev of_writes : List Written → List GrainId
of_writes ws = map (λ (w : Written). w.grain) ws

-- one write more
pub write_more : (w : Written) (more left : List Written) (kept new whole : List GrainId) → left ≡ w ∷ more → new ≡ insert_key grain_cmp kept w.grain → grains_added kept (of_writes left) ≡ whole → grains_added new (of_writes more) ≡ whole
write_more w more left kept new whole next put so_far =
    ap (λ (l : List GrainId). grains_added l (of_writes more)) (put ∙ inserted kept w.grain)
    ∙ sym (ap (λ (l : List Written). grains_added kept (of_writes l)) next) ∙ so_far

pub writes_all : (left : List Written) (kept whole : List GrainId) → left ≡ [] → grains_added kept (of_writes left) ≡ whole → kept ≡ whole
writes_all left kept whole none so_far = sym (ap (λ (l : List Written). grains_added kept (of_writes l)) none) ∙ so_far

-- one record more
pub record_more : (r : CommitRecord) (more left : List CommitRecord) (kept new whole : List GrainId) → left ≡ r ∷ more → new ≡ grains_added kept (of_writes r.writes)
    → grains_added kept (grains_recorded left) ≡ whole → grains_added new (grains_recorded more) ≡ whole
record_more r more left kept new whole next put so_far =
    ap (λ (l : List GrainId). grains_added l (grains_recorded more)) put ∙ sym (grains_added-append kept (of_writes r.writes) (grains_recorded more))
    ∙ sym (ap (λ (l : List CommitRecord). grains_added kept (grains_recorded l)) next) ∙ so_far

pub records_all : (left : List CommitRecord) (kept whole : List GrainId) → left ≡ [] → grains_added kept (grains_recorded left) ≡ whole → kept ≡ whole
records_all left kept whole none so_far = sym (ap (λ (l : List CommitRecord). grains_added kept (grains_recorded l)) none) ∙ so_far
