-- Named versions, sorted by their grains without changing the order of one grain's, are those of `by_grain`.
use Rattle.std.proofs.Common.{◌≡◌, ◌⊎◌, inl, inr, Bool, true, false, ◌||◌, if◌then◌else◌, None, List, [], ◌∷◌, ◌++◌, map, filter, refl, sym, ◌∙◌, ap, subst, append-nil}
use Rattle.std.specs.List.{flat_map, list_any, AllByRecursion}
use Rattle.std.specs.List.Sorted.{IsSortedByKey, IsStableByKey}
use Rattle.std.proofs.lemmas.Bool.{false_from_ne_true, cond_both, cases_Bool, false≢true}
use Rattle.base_types.specs.declared.calls.GrainId.{GrainId}
use Rattle.base_types.specs.Lists.{Member}
use Rattle.base_types.specs.Stores.{grain_cmp}
use Rattle.base_types.proofs.GrainOrder.{Before, Strict, to_before, from_before, never_both, chain, before_chain, same_is, is_same, irref, other_before, not_before, filter_yes, filter_no, filter_all, filter_none, all_on, all_filter, in_map, sorted_by_grains}
use Rattle.commit_log.specs.declared.records.Named.{Named}
use Rattle.host_trait.specs.Files.{same_grain}
use Rattle.log_reading.specs.Versions.{is_before, ascending_with, ascending, named_by_grain}

abbrev of_named : Named → GrainId
of_named n = n.written.grain

abbrev at : GrainId → Named → Bool
at g n = same_grain n.written.grain g

-- ---- grains in ascending order

all_with : (P : GrainId → Type 0) (g : GrainId) (hs : List GrainId) → P g → AllByRecursion P hs → AllByRecursion P (ascending_with g hs)
all_with P g [] one all = (one, tt)
all_with P g (h ∷ hs) one all =
    let more = all_with P g hs one all.1 in
    cond_both (same_grain g h) (h ∷ hs) (if is_before g h then g ∷ h ∷ hs else h ∷ ascending_with g hs) (AllByRecursion P) (λ e. all)
    (λ e. cond_both (is_before g h) (g ∷ h ∷ hs) (h ∷ ascending_with g hs) (AllByRecursion P) (λ t. (one, all)) (λ f. (all.0, more)))

strict_with : (g : GrainId) (hs : List GrainId) → Strict hs → Strict (ascending_with g hs)
strict_with g [] up = (tt, tt)
strict_with g (h ∷ hs) up =
    let more = strict_with g hs up.1 in
    cond_both (same_grain g h) (h ∷ hs) (if is_before g h then g ∷ h ∷ hs else h ∷ ascending_with g hs) Strict (λ e. up)
    (λ e. cond_both (is_before g h) (g ∷ h ∷ hs) (h ∷ ascending_with g hs) Strict
    (λ t. ((to_before g h t, all_on (Before h) (Before g) (λ k later. chain g h k (to_before g h t) later) hs up.0), up))
    (λ f. (all_with (Before h) g hs (other_before g h f (λ same. false≢true (sym e ∙ is_same g h same))) up.0, more)))

ascending_strict : (gs : List GrainId) → Strict (ascending gs)
ascending_strict [] = tt
ascending_strict (g ∷ gs) = strict_with g (ascending gs) (ascending_strict gs)

in_with : (g x : GrainId) (hs : List GrainId) → Member x (g ∷ hs) → Member x (ascending_with g hs)
in_with g x [] m = m
in_with g x (h ∷ hs) m =
    cond_both (same_grain g h) (h ∷ hs) (if is_before g h then g ∷ h ∷ hs else h ∷ ascending_with g hs) (Member x)
    (λ e. elim m [ inl here ↦ inl (here ∙ same_is g h e) | inr there ↦ there ])
    (λ e. cond_both (is_before g h) (g ∷ h ∷ hs) (h ∷ ascending_with g hs) (Member x) (λ t. m)
    (λ f. elim m [ inl here ↦ inr (in_with g x hs (inl here)) | inr (inl at_h) ↦ inl at_h | inr (inr there) ↦ inr (in_with g x hs (inr there)) ]))

in_ascending : (x : GrainId) (gs : List GrainId) → Member x gs → Member x (ascending gs)
in_ascending x [] none = absurd none
in_ascending x (g ∷ gs) (inl here) = in_with g x (ascending gs) (inl here)
in_ascending x (g ∷ gs) (inr there) = in_with g x (ascending gs) (inr (in_ascending x gs there))

-- ---- a stable sort

-- the sorted list is that by grains
pub sorted_is_by_grain : (xs ys : List Named) → IsSortedByKey (λ (n : Named). n.written.grain) grain_cmp ys → IsStableByKey (λ (n : Named). n.written.grain) grain_cmp xs ys → ys ≡ named_by_grain xs
sorted_is_by_grain xs ys sorted stable =
    sorted_by_grains of_named (λ g. record { unit = None; program = 0; written = record { grain = g; place = record { offset = 0; len = 0 } } }) (λ g. refl) xs ys sorted stable (ascending (map of_named xs)) (ascending_strict (map of_named xs))
    (λ n there. in_ascending (of_named n) (map of_named xs) (in_map of_named n xs there))

-- ---- by grains, without a sort

at_keys : (g : GrainId) (h : GrainId) (xs : List Named) → (g ≡ h → ⊥) → filter (at g) (filter (at h) xs) ≡ []
at_keys g h xs other = filter_none (at g) (filter (at h) xs) (all_filter (λ n. Unit {0}) (λ n. at g n ≡ false) (at h) (λ n e any. false_from_ne_true (at g n) (λ also. other (sym (same_is (of_named n) g also) ∙ same_is (of_named n) h e))) xs (all_any xs))
  where
    all_any : (ns : List Named) → AllByRecursion (λ n. Unit {0}) ns
    all_any [] = tt
    all_any (n ∷ ns) = (tt, all_any ns)

filter_twice : (p : Named → Bool) (xs : List Named) → filter p (filter p xs) ≡ filter p xs
filter_twice p xs = filter_all p (filter p xs) (all_filter (λ n. Unit {0}) (λ n. p n ≡ true) p (λ n e any. e) xs (all_any xs))
  where
    all_any : (ns : List Named) → AllByRecursion (λ n. Unit {0}) ns
    all_any [] = tt
    all_any (n ∷ ns) = (tt, all_any ns)

filter_append : (p : Named → Bool) (xs ys : List Named) → filter p (xs ++ ys) ≡ filter p xs ++ filter p ys
filter_append p [] ys = refl
filter_append p (x ∷ xs) ys = elim (cases_Bool (p x)) [
  | inl e ↦ filter_yes p x (xs ++ ys) e ∙ ap (λ l. x ∷ l) (filter_append p xs ys) ∙ (λ i. sym (filter_yes p x xs e) i ++ filter p ys)
  | inr e ↦ filter_no p x (xs ++ ys) e ∙ filter_append p xs ys ∙ (λ i. sym (filter_no p x xs e) i ++ filter p ys)
]

cases_grain : (a b : GrainId) → (a ≡ b) ⊎ (a ≡ b → ⊥)
cases_grain a b = elim (cases_Bool (same_grain a b)) [
  | inl e ↦ inl (same_is a b e)
  | inr e ↦ inr (λ same. false≢true (sym e ∙ is_same a b same))
]

-- among grains before which this one stands there is none of it
gone_behind : (g : GrainId) (xs : List Named) (gs : List GrainId) → AllByRecursion (λ h. Before g h) gs → filter (at g) (flat_map (λ h. filter (at h) xs) gs) ≡ []
gone_behind g xs [] all = refl
gone_behind g xs (h ∷ gs) all =
    filter_append (at g) (filter (at h) xs) (flat_map (λ k. filter (at k) xs) gs)
    ∙ (λ i. at_keys g h xs (λ same. irref g h same all.0) i ++ gone_behind g xs gs all.1 i)

by_groups : (g : GrainId) (xs : List Named) (gs : List GrainId) → Strict gs → Member g gs → filter (at g) (flat_map (λ h. filter (at h) xs) gs) ≡ filter (at g) xs
by_groups g xs [] strict none = absurd none
by_groups g xs (h ∷ gs) strict there = elim (cases_grain g h) [
  | inl same ↦ (
      let none : filter (at g) (flat_map (λ k. filter (at k) xs) gs) ≡ [] = gone_behind g xs gs (subst (λ (k : GrainId). AllByRecursion (λ j. Before k j) gs) (sym same) strict.0) in
      let own : filter (at g) (filter (at h) xs) ≡ filter (at g) xs = ap (λ (k : GrainId). filter (at g) (filter (at k) xs)) (sym same) ∙ filter_twice (at g) xs in
      filter_append (at g) (filter (at h) xs) (flat_map (λ k. filter (at k) xs) gs) ∙ (λ i. own i ++ none i) ∙ append-nil (filter (at g) xs))
  | inr other ↦ elim there [
    | inl here ↦ absurd (other here)
    | inr later ↦ filter_append (at g) (filter (at h) xs) (flat_map (λ k. filter (at k) xs) gs) ∙ (λ i. at_keys g h xs other i ++ by_groups g xs gs strict.1 later i)
  ]
]

none_of : (g : GrainId) (xs : List Named) (gs : List GrainId) → filter (at g) xs ≡ [] → filter (at g) (flat_map (λ h. filter (at h) xs) gs) ≡ []
none_of g xs [] none = refl
none_of g xs (h ∷ gs) none = filter_append (at g) (filter (at h) xs) (flat_map (λ k. filter (at k) xs) gs) ∙ (λ i. first i ++ none_of g xs gs none i)
  where
    first : filter (at g) (filter (at h) xs) ≡ []
    first = elim (cases_grain g h) [
      | inl same ↦ ap (λ (k : GrainId). filter (at g) (filter (at k) xs)) (sym same) ∙ filter_twice (at g) xs ∙ none
      | inr other ↦ at_keys g h xs other
    ]

empty_or : (g : GrainId) (xs : List Named) → (filter (at g) xs ≡ []) ⊎ Member g (map of_named xs)
empty_or g [] = inl refl
empty_or g (x ∷ xs) = elim (cases_Bool (at g x)) [
  | inl e ↦ inr (inl (sym (same_is (of_named x) g e)))
  | inr e ↦ elim (empty_or g xs) [
    | inl none ↦ inl (filter_no (at g) x xs e ∙ none)
    | inr there ↦ inr (inr there)
  ]
]

-- by grains, those of one grain are as they were
pub by_grain_at : (g : GrainId) (xs : List Named) → filter (λ (n : Named). same_grain n.written.grain g) (named_by_grain xs) ≡ filter (λ (n : Named). same_grain n.written.grain g) xs
by_grain_at g xs = elim (empty_or g xs) [
  | inl none ↦ none_of g xs (ascending (map of_named xs)) none ∙ sym none
  | inr there ↦ by_groups g xs (ascending (map of_named xs)) (ascending_strict (map of_named xs)) (in_ascending g (map of_named xs) there)
]

-- the grains never fall
abbrev pub Climbs : List Named → Type 0
Climbs [] = Unit {0}
Climbs (n ∷ ns) = AllByRecursion (λ m. is_before m.written.grain n.written.grain ≡ false) ns × Climbs ns

all_append : {A : Type 0} (P : A → Type 0) (xs ys : List A) → AllByRecursion P xs → AllByRecursion P ys → AllByRecursion P (xs ++ ys)
all_append P [] ys first all = all
all_append P (x ∷ xs) ys first all = (first.0, all_append P xs ys first.1 all)

climbs_append : (xs ys : List Named) → Climbs xs → Climbs ys → AllByRecursion (λ n. AllByRecursion (λ m. is_before (of_named m) (of_named n) ≡ false) ys) xs → Climbs (xs ++ ys)
climbs_append [] ys up also all = also
climbs_append (x ∷ xs) ys up also all = (all_append _ xs ys up.0 all.0, climbs_append xs ys up.1 also all.1)

all_same : (g : GrainId) (xs : List Named) → AllByRecursion (λ n. of_named n ≡ g) (filter (at g) xs)
all_same g xs = all_filter (λ n. Unit {0}) (λ n. of_named n ≡ g) (at g) (λ n e any. same_is (of_named n) g e) xs (all_any xs)
  where
    all_any : (ns : List Named) → AllByRecursion (λ n. Unit {0}) ns
    all_any [] = tt
    all_any (n ∷ ns) = (tt, all_any ns)

same_climbs : (g : GrainId) (ns : List Named) → AllByRecursion (λ n. of_named n ≡ g) ns → Climbs ns
same_climbs g [] all = tt
same_climbs g (n ∷ ns) all = (all_on _ (λ m. is_before (of_named m) (of_named n) ≡ false) (λ m same. not_before (of_named m) (of_named n) (irref (of_named m) (of_named n) (same ∙ sym all.0))) ns all.1, same_climbs g ns all.1)

later_keys : (g : GrainId) (xs : List Named) (gs : List GrainId) → AllByRecursion (λ h. Before g h) gs → AllByRecursion (λ m. Before g (of_named m)) (flat_map (λ h. filter (at h) xs) gs)
later_keys g xs [] all = tt
later_keys g xs (h ∷ gs) all = all_append _ (filter (at h) xs) (flat_map (λ k. filter (at k) xs) gs) (all_on _ (λ m. Before g (of_named m)) (λ m same. subst (Before g) (sym same) all.0) (filter (at h) xs) (all_same h xs)) (later_keys g xs gs all.1)

groups_climb : (xs : List Named) (gs : List GrainId) → Strict gs → Climbs (flat_map (λ h. filter (at h) xs) gs)
groups_climb xs [] strict = tt
groups_climb xs (g ∷ gs) strict =
    let later = later_keys g xs gs strict.0 in
    climbs_append (filter (at g) xs) (flat_map (λ h. filter (at h) xs) gs) (same_climbs g (filter (at g) xs) (all_same g xs)) (groups_climb xs gs strict.1)
    (all_on _ (λ n. AllByRecursion (λ m. is_before (of_named m) (of_named n) ≡ false) (flat_map (λ h. filter (at h) xs) gs)) (λ n same. all_on _ (λ m. is_before (of_named m) (of_named n) ≡ false) (λ m low. not_before (of_named m) (of_named n) (λ less. never_both (of_named n) (of_named m) (subst (λ (k : GrainId). Before k (of_named m)) (sym same) low) less)) (flat_map (λ h. filter (at h) xs) gs) later) (filter (at g) xs) (all_same g xs))

pub by_grain_climbs : (xs : List Named) → Climbs (named_by_grain xs)
by_grain_climbs xs = groups_climb xs (ascending (map of_named xs)) (ascending_strict (map of_named xs))

pub climbs_behind : (front back : List Named) → Climbs (front ++ back) → Climbs back
climbs_behind [] back up = up
climbs_behind (x ∷ front) back up = climbs_behind front back up.1

pub irreflexive : (g : GrainId) → is_before g g ≡ false
irreflexive g = not_before g g (irref g g refl)

-- a grain that isn't before another, and isn't that one, is behind it
pub climbs_strictly : (g h : GrainId) → is_before h g ≡ false → same_grain g h ≡ false → is_before g h ≡ true
climbs_strictly g h nay other = from_before g h (other_before h g nay (λ same. false≢true (sym other ∙ is_same g h (sym same))))

-- before one, and so before each that isn't before that
pub same_before : (g h k : GrainId) → is_before g h ≡ true → is_before k h ≡ false → is_before g k ≡ true
same_before g h k low nay = from_before g k (before_chain g h k (to_before g h low) nay)

-- ---- whether a grain is named

some_of : List Named → Bool
some_of [] = false
some_of (n ∷ ns) = true

any_filter : (p : Named → Bool) (xs : List Named) → list_any p xs ≡ some_of (filter p xs)
unfolding some_of
any_filter p [] = refl
any_filter p (x ∷ xs) = elim (cases_Bool (p x)) [
  | inl e ↦ ap (λ (b : Bool). b || list_any p xs) e ∙ sym (ap some_of (filter_yes p x xs e))
  | inr e ↦ ap (λ (b : Bool). b || list_any p xs) e ∙ any_filter p xs ∙ sym (ap some_of (filter_no p x xs e))
]

pub list_any_by_grain : (g : GrainId) (xs : List Named) → list_any (λ (n : Named). same_grain n.written.grain g) (named_by_grain xs) ≡ list_any (λ (n : Named). same_grain n.written.grain g) xs
list_any_by_grain g xs = any_filter (at g) (named_by_grain xs) ∙ ap some_of (by_grain_at g xs) ∙ sym (any_filter (at g) xs)
