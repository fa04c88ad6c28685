-- The order of grains, and lists of things that have one each: sorted by it without changing the order of one grain's, they stand by
-- grains.
use Rattle.std.proofs.Common.{◌≡◌, ◌⊎◌, inl, inr, ℕ, suc, ◌<◌, ◌≤◌, nat_lt, ◌==◌, Bool, true, false, ◌&&◌, ◌||◌, not, if◌then◌else◌, List, [], ◌∷◌, ◌++◌, length, map, filter, refl, sym, ◌∙◌, ap, subst, arith}
use Rattle.std.specs.Prelude.{slice_index_or}
use Rattle.std.specs.List.{flat_map, AllByRecursion}
use Rattle.std.specs.List.Sorted.{IsSortedByKey, IsStableByKey, ties}
use Rattle.std.specs.Ordering.{is_lt, ordering_then, on}
use Rattle.std.specs.declared.cmp.Ordering.TheVariants.{Less, Equal, Greater}
use Rattle.std.specs.Cmp.{IsTotalOrder}
use Rattle.std.proofs.lemmas.Cmp.{then_total, on_total, nat_cmp_total}
use Rattle.std.proofs.lemmas.List.Sorted.{sorted_far, ranks_by}
use Rattle.std.proofs.lemmas.Bool.{ltb-true, eqb-true, lt-ltb, eq-eqb, and_parts, and_from, or_cases, or_left, or_right, false_from_ne_true, cond-true, cond-false, cond_both, cases_order, cases_Bool, false≢true}
use Rattle.base_types.specs.declared.calls.GrainId.{GrainId}
use Rattle.base_types.specs.Grains.{same_grain, is_before}
use Rattle.base_types.specs.Lists.{Member}
use Rattle.base_types.specs.Stores.{grain_cmp}

-- ---- grains

abbrev pub Before : GrainId → GrainId → Type 0
Before a b = (a.kind < b.kind) ⊎ ((a.kind ≡ b.kind) × (a.key < b.key))

pub to_before : (a b : GrainId) → is_before a b ≡ true → Before a b
to_before a b e = elim (or_cases (nat_lt a.kind b.kind) _ e) [
  | inl low ↦ inl (ltb-true _ _ low)
  | inr also ↦ (let p = and_parts (a.kind == b.kind) (nat_lt a.key b.key) also in inr (eqb-true _ _ p.0, ltb-true _ _ p.1))
]

pub from_before : (a b : GrainId) → Before a b → is_before a b ≡ true
from_before a b (inl low) = or_left _ _ (lt-ltb _ _ low)
from_before a b (inr p) = or_right _ _ (and_from _ _ (eq-eqb _ _ p.0) (lt-ltb _ _ p.1))

pub same_is : (a b : GrainId) → same_grain a b ≡ true → a ≡ b
same_is a b e =
    let p = and_parts (a.kind == b.kind) (a.key == b.key) e in
    let k : a.kind ≡ b.kind = eqb-true _ _ p.0 in
    let y : a.key ≡ b.key = eqb-true _ _ p.1 in
    λ i. record { kind = k i; key = y i }

pub is_same : (a b : GrainId) → a ≡ b → same_grain a b ≡ true
is_same a b q = and_from _ _ (eq-eqb _ _ (ap (λ (g : GrainId). g.kind) q)) (eq-eqb _ _ (ap (λ (g : GrainId). g.key) q))

pub irref : (a b : GrainId) → a ≡ b → Before a b → ⊥
irref a b same (inl low) = (let k : a.kind ≡ b.kind = ap (λ (g : GrainId). g.kind) same in absurd (omega (arith, k, low)))
irref a b same (inr p) = (let k : a.key ≡ b.key = ap (λ (g : GrainId). g.key) same in absurd (omega (arith, k, p.1)))

pub never_both : (a b : GrainId) → Before a b → Before b a → ⊥
never_both a b (inl low) (inl more) = absurd (omega (arith, low, more))
never_both a b (inl low) (inr q) = absurd (omega (arith, low, q.0))
never_both a b (inr p) (inl more) = absurd (omega (arith, p.0, more))
never_both a b (inr p) (inr q) = absurd (omega (arith, p.1, q.1))

pub chain : (a b c : GrainId) → Before a b → Before b c → Before a c
chain a b c (inl low) (inl more) = inl (omega (arith, low, more))
chain a b c (inl low) (inr q) = inl (omega (arith, low, q.0))
chain a b c (inr p) (inl more) = inl (omega (arith, p.0, more))
chain a b c (inr p) (inr q) = inr (p.0 ∙ q.0, omega (arith, p.1, q.1))

pub one_of : (a b : GrainId) → (a ≡ b) ⊎ (Before a b ⊎ Before b a)
one_of a b = elim (cases_order a.kind b.kind) [
  | inl k ↦ elim (cases_order a.key b.key) [
    | inl y ↦ inl (λ i. record { kind = k i; key = y i })
    | inr (inl low) ↦ inr (inl (inr (k, low)))
    | inr (inr high) ↦ inr (inr (inr (sym k, high)))
  ]
  | inr (inl low) ↦ inr (inl (inl low))
  | inr (inr high) ↦ inr (inr (inl high))
]

-- of two grains that aren't the same, one is before the other
pub other_before : (a b : GrainId) → is_before a b ≡ false → (a ≡ b → ⊥) → Before b a
other_before a b nay other = elim (one_of a b) [
  | inl same ↦ absurd (other same)
  | inr (inl low) ↦ absurd (false≢true (sym nay ∙ from_before a b low))
  | inr (inr high) ↦ high
]

pub not_before : (a b : GrainId) → (Before a b → ⊥) → is_before a b ≡ false
not_before a b nay = false_from_ne_true (is_before a b) (λ e. nay (to_before a b e))

-- before a, and not after it: before
pub before_chain : (a b c : GrainId) → Before a b → is_before c b ≡ false → Before a c
before_chain a b c low nay = elim (one_of c b) [
  | inl same ↦ subst (Before a) (sym same) low
  | inr (inl less) ↦ absurd (false≢true (sym nay ∙ from_before c b less))
  | inr (inr more) ↦ chain a b c low more
]

-- ---- the order that a sort goes by

by_cases : (b1 b2 b3 b4 : Bool) → is_lt (ordering_then (if b1 then Less else (if b2 then Equal else Greater)) (if b3 then Less else (if b4 then Equal else Greater))) ≡ (b1 || (b2 && b3))
by_cases true b2 b3 b4 = refl
by_cases false true true b4 = refl
by_cases false true false true = refl
by_cases false true false false = refl
by_cases false false b3 b4 = refl

pub lt_is : (a b : GrainId) → is_lt (grain_cmp a b) ≡ is_before a b
lt_is a b = by_cases (nat_lt a.kind b.kind) (a.kind == b.kind) (nat_lt a.key b.key) (a.key == b.key)

pub grain_total : IsTotalOrder grain_cmp
grain_total = then_total (on_total (λ (g : GrainId). g.kind) nat_cmp_total) (on_total (λ (g : GrainId). g.key) nat_cmp_total)

tie_bool : (a b : GrainId) → (not (is_lt (grain_cmp a b)) && not (is_lt (grain_cmp b a))) ≡ same_grain b a
tie_bool a b = elim (one_of a b) [
  | inl same ↦ (
      let nay : is_before a b ≡ false = not_before a b (irref a b same) in
      let also : is_before b a ≡ false = not_before b a (irref b a (sym same)) in
      (λ i. not ((lt_is a b ∙ nay) i) && not ((lt_is b a ∙ also) i)) ∙ sym (is_same b a (sym same)))
  | inr (inl low) ↦ (λ i. not ((lt_is a b ∙ from_before a b low) i) && not (is_lt (grain_cmp b a))) ∙ sym (false_from_ne_true (same_grain b a) (λ e. irref a b (sym (same_is b a e)) low))
  | inr (inr high) ↦ (
      let nay : is_before a b ≡ false = not_before a b (λ low. never_both a b low high) in
      (λ i. not ((lt_is a b ∙ nay) i) && not ((lt_is b a ∙ from_before b a high) i)) ∙ sym (false_from_ne_true (same_grain b a) (λ e. irref b a (same_is b a e) high)))
]

-- ---- lists

pub filter_yes : {A : Type 0} (p : A → Bool) (x : A) (xs : List A) → p x ≡ true → filter p (x ∷ xs) ≡ x ∷ filter p xs
filter_yes p x xs e = cond-true (p x) (x ∷ filter p xs) (filter p xs) e

pub filter_no : {A : Type 0} (p : A → Bool) (x : A) (xs : List A) → p x ≡ false → filter p (x ∷ xs) ≡ filter p xs
filter_no p x xs e = cond-false (p x) (x ∷ filter p xs) (filter p xs) e

pub filter_all : {A : Type 0} (p : A → Bool) (xs : List A) → AllByRecursion (λ x. p x ≡ true) xs → filter p xs ≡ xs
filter_all p [] all = refl
filter_all p (x ∷ xs) all = filter_yes p x xs all.0 ∙ ap (λ l. x ∷ l) (filter_all p xs all.1)

pub filter_none : {A : Type 0} (p : A → Bool) (xs : List A) → AllByRecursion (λ x. p x ≡ false) xs → filter p xs ≡ []
filter_none p [] all = refl
filter_none p (x ∷ xs) all = filter_no p x xs all.0 ∙ filter_none p xs all.1

pub all_on : {A : Type 0} (P Q : A → Type 0) → ((x : A) → P x → Q x) → (xs : List A) → AllByRecursion P xs → AllByRecursion Q xs
all_on P Q on [] all = tt
all_on P Q on (x ∷ xs) all = (on x all.0, all_on P Q on xs all.1)

pub all_filter : {A : Type 0} (P Q : A → Type 0) (p : A → Bool) → ((x : A) → p x ≡ true → P x → Q x) → (xs : List A) → AllByRecursion P xs → AllByRecursion Q (filter p xs)
all_filter P Q p on [] all = tt
all_filter P Q p on (x ∷ xs) all =
    let more = all_filter P Q p on xs all.1 in
    cond_both (p x) (x ∷ filter p xs) (filter p xs) (AllByRecursion Q) (λ e. (on x e all.0, more)) (λ e. more)

pub all_at : {A : Type 0} (P : A → Type 0) (xs : List A) → ((j : ℕ) (d : A) → j < length xs → P (slice_index_or xs j d)) → AllByRecursion P xs
all_at P [] each = tt
all_at P (x ∷ xs) each = (each 0 x (omega arith), all_at P xs (λ j d low. each (suc j) d (omega (arith, low))))

pub in_filter : {A : Type 0} (p : A → Bool) (x : A) (xs : List A) → Member x (filter p xs) → Member x xs
in_filter p x [] none = none
in_filter p x (y ∷ xs) m = cond_both (p y) (y ∷ filter p xs) (filter p xs) (λ l. Member x l → Member x (y ∷ xs)) (λ e m. elim m [ inl here ↦ inl here | inr there ↦ inr (in_filter p x xs there) ]) (λ e m. inr (in_filter p x xs m)) m

pub stays : {A : Type 0} (p : A → Bool) (x : A) (xs : List A) → p x ≡ true → Member x xs → Member x (filter p xs)
stays p x [] e none = none
stays p x (y ∷ xs) e m =
    cond_both (p y) (y ∷ filter p xs) (filter p xs) (Member x)
    (λ t. elim m [ inl q ↦ inl q | inr q ↦ inr (stays p x xs e q) ])
    (λ f. elim m [ inl q ↦ absurd (false≢true (sym f ∙ ap p (sym q) ∙ e)) | inr q ↦ stays p x xs e q ])

pub in_map : {A B : Type 0} (f : A → B) (x : A) (xs : List A) → Member x xs → Member (f x) (map f xs)
in_map f x [] none = absurd none
in_map f x (y ∷ xs) (inl here) = inl (ap f here)
in_map f x (y ∷ xs) (inr there) = inr (in_map f x xs there)

pub all_members : {A : Type 0} (P : A → Type 0) (xs : List A) → ((x : A) → Member x xs → P x) → AllByRecursion P xs
all_members P [] each = tt
all_members P (x ∷ xs) each = (each x (inl refl), all_members P xs (λ y there. each y (inr there)))

-- ---- grains in ascending order

abbrev pub Strict : List GrainId → Type 0
Strict [] = Unit {0}
Strict (g ∷ gs) = AllByRecursion (λ h. Before g h) gs × Strict gs

-- ---- things that have a grain each

module _ {A : Type 0} (of : A → GrainId) where
  -- those of a grain
  abbrev pub at : GrainId → A → Bool
  at g n = same_grain (of n) g

  -- those of later grains
  abbrev pub above : GrainId → A → Bool
  above g n = is_before g (of n)

  -- the grains never fall
  abbrev pub Rises : List A → Type 0
  Rises [] = Unit {0}
  Rises (n ∷ ns) = AllByRecursion (λ m. is_before (of m) (of n) ≡ false) ns × Rises ns

  rises_from : (ns : List A) → ((i j : ℕ) (d : A) → i ≤ j → j < length ns → is_before (of (slice_index_or ns j d)) (of (slice_index_or ns i d)) ≡ false) → Rises ns
  rises_from [] far = tt
  rises_from (n ∷ ns) far =
      (all_at (λ m. is_before (of m) (of n) ≡ false) ns (λ j d low. far 0 (suc j) d (omega arith) (omega (arith, low))), rises_from ns (λ i j d le low. far (suc i) (suc j) d (omega (arith, le)) (omega (arith, low))))

  rises_filter : (p : A → Bool) (ns : List A) → Rises ns → Rises (filter p ns)
  rises_filter p [] up = tt
  rises_filter p (n ∷ ns) up =
      let more = rises_filter p ns up.1 in
      cond_both (p n) (n ∷ filter p ns) (filter p ns) Rises (λ e. (all_filter _ (λ m. is_before (of m) (of n) ≡ false) p (λ m t nay. nay) ns up.0, more)) (λ e. more)

  -- those of the least grain come first
  split_at : (g : GrainId) (ns : List A) → Rises ns → AllByRecursion (λ m. is_before (of m) g ≡ false) ns → ns ≡ filter (at g) ns ++ filter (above g) ns
  split_at g [] up low = refl
  split_at g (n ∷ ns) up low = elim (cases_Bool (at g n)) [
    | inl here ↦ (
        let same : of n ≡ g = same_is (of n) g here in
        let nay : above g n ≡ false = not_before g (of n) (irref g (of n) (sym same)) in
        let rest = split_at g ns up.1 low.1 in
        ap (λ l. n ∷ l) rest ∙ (λ i. sym (filter_yes (at g) n ns here) i ++ sym (filter_no (above g) n ns nay) i))
    | inr other ↦ (
        let after : Before g (of n) = other_before (of n) g low.0 (λ same. false≢true (sym other ∙ is_same (of n) g same)) in
        let later : (m : A) → is_before (of m) (of n) ≡ false → Before g (of m) = λ m nay. before_chain g (of n) (of m) after nay in
        let none : filter (at g) ns ≡ [] = filter_none (at g) ns (all_on _ (λ m. at g m ≡ false) (λ m nay. false_from_ne_true (at g m) (λ e. irref g (of m) (sym (same_is (of m) g e)) (later m nay))) ns up.0) in
        let all : filter (above g) ns ≡ ns = filter_all (above g) ns (all_on _ (λ m. above g m ≡ true) (λ m nay. from_before g (of m) (later m nay)) ns up.0) in
        let first : filter (at g) (n ∷ ns) ≡ [] = filter_no (at g) n ns other ∙ none in
        let second : filter (above g) (n ∷ ns) ≡ n ∷ ns = filter_yes (above g) n ns (from_before g (of n) after) ∙ ap (λ l. n ∷ l) all in
        λ i. sym first i ++ sym second i)
  ]

  -- those of a later grain are all behind
  behind : (g h : GrainId) (ns : List A) → Before g h → filter (at h) (filter (above g) ns) ≡ filter (at h) ns
  behind g h [] low = refl
  behind g h (n ∷ ns) low = elim (cases_Bool (at h n)) [
    | inl here ↦ (
        let up : above g n ≡ true = from_before g (of n) (subst (Before g) (sym (same_is (of n) h here)) low) in
        ap (filter (at h)) (filter_yes (above g) n ns up) ∙ filter_yes (at h) n (filter (above g) ns) here ∙ ap (λ l. n ∷ l) (behind g h ns low) ∙ sym (filter_yes (at h) n ns here))
    | inr other ↦ elim (cases_Bool (above g n)) [
      | inl up ↦ ap (filter (at h)) (filter_yes (above g) n ns up) ∙ filter_no (at h) n (filter (above g) ns) other ∙ behind g h ns low ∙ sym (filter_no (at h) n ns other)
      | inr nay ↦ ap (filter (at h)) (filter_no (above g) n ns nay) ∙ behind g h ns low ∙ sym (filter_no (at h) n ns other)
    ]
  ]

  all_behind : (g : GrainId) (ns : List A) (hs : List GrainId) → AllByRecursion (λ h. Before g h) hs → flat_map (λ h. filter (at h) (filter (above g) ns)) hs ≡ flat_map (λ h. filter (at h) ns) hs
  all_behind g ns [] all = refl
  all_behind g ns (h ∷ hs) all = λ i. behind g h ns all.0 i ++ all_behind g ns hs all.1 i

  grouped : (gs : List GrainId) → Strict gs → (ns : List A) → Rises ns → AllByRecursion (λ n. Member (of n) gs) ns → ns ≡ flat_map (λ g. filter (at g) ns) gs
  grouped [] strict [] up all = refl
  grouped [] strict (n ∷ ns) up all = absurd all.0
  grouped (g ∷ gs) strict ns up all =
      let low : AllByRecursion (λ m. is_before (of m) g ≡ false) ns = all_on _ (λ m. is_before (of m) g ≡ false) (λ m there. elim there [
        | inl here ↦ not_before (of m) g (irref (of m) g here)
        | inr later ↦ not_before (of m) g (λ less. never_both (of m) g less (each_before g gs (of m) strict.0 later))
      ]) ns all in
      let zs : List A = filter (above g) ns in
      let inside : AllByRecursion (λ n. Member (of n) gs) zs = all_filter _ (λ n. Member (of n) gs) (above g) (λ n e there. elim there [
        | inl here ↦ absurd (irref g (of n) (sym here) (to_before g (of n) e))
        | inr later ↦ later
      ]) ns all in
      let more : zs ≡ flat_map (λ h. filter (at h) zs) gs = grouped gs strict.1 zs (rises_filter (above g) ns up) inside in
      split_at g ns up low ∙ ap (λ l. filter (at g) ns ++ l) (more ∙ all_behind g ns gs strict.0)
    where
      each_before : (g : GrainId) (gs : List GrainId) (h : GrainId) → AllByRecursion (λ k. Before g k) gs → Member h gs → Before g h
      each_before g [] h all none = absurd none
      each_before g (k ∷ gs) h all (inl here) = subst (Before g) (sym here) all.0
      each_before g (k ∷ gs) h all (inr there) = each_before g gs h all.1 there

  -- Sorted without changing the order of one grain's. Of each grain there is a thing that has it.
  module _ (made : GrainId → A) (made_of : (g : GrainId) → of (made g) ≡ g) (xs ys : List A) (sorted : IsSortedByKey of grain_cmp ys) (stable : IsStableByKey of grain_cmp xs ys) where
    rises : Rises ys
    rises = rises_from ys (λ i j d le low. sym (lt_is (of (slice_index_or ys j d)) (of (slice_index_or ys i d))) ∙ sorted_far (λ (a b : A). is_lt (grain_cmp (of a) (of b))) (ranks_by grain_total of) ys sorted i j d le low)

    -- those of one grain are the same, in the same order
    pub same_of_grain : (g : GrainId) → filter (at g) ys ≡ filter (at g) xs
    same_of_grain g =
        let test : A → Bool = ties (λ (a b : A). is_lt (grain_cmp (of a) (of b))) (made g) in
        let tie : test ≡ at g = λ i n. (tie_bool (of (made g)) (of n) ∙ ap (λ (k : GrainId). same_grain (of n) k) (made_of g)) i in
        ap (λ (p : A → Bool). filter p ys) (sym tie) ∙ stable (made g) ∙ ap (λ (p : A → Bool). filter p xs) tie

    -- the sorted list is that by these grains, which ascend, where each thing has one of them
    pub sorted_by_grains : (gs : List GrainId) → Strict gs → ((n : A) → Member n xs → Member (of n) gs) → ys ≡ flat_map (λ g. filter (at g) xs) gs
    sorted_by_grains gs strict known =
        grouped gs strict ys rises (all_members (λ n. Member (of n) gs) ys named_once) ∙ (λ i. flat_map (λ g. same_of_grain g i) gs)
      where
        named_once : (n : A) → Member n ys → Member (of n) gs
        named_once n there =
            let here : Member n (filter (at (of n)) ys) = stays (at (of n)) n ys (is_same (of n) (of n) refl) there in
            known n (in_filter (at (of n)) n xs (subst (Member n) (same_of_grain (of n)) here))
