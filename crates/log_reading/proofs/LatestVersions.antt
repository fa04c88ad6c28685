-- Of named versions by grains the last of each grain: their order, and the states that they leave.
use Rattle.std.proofs.Common.{◌≡◌, inl, inr, ℕ, Bool, true, false, ◌||◌, if◌then◌else◌, Option, Some, None, List, [], ◌∷◌, map, refl, sym, ◌∙◌, ap, subst}
use Rattle.std.specs.List.{list_any, AllByRecursion}
use Rattle.std.proofs.lemmas.Bool.{cases_Bool, cond-true, cond-false, cond_both, false≢true}
use Rattle.base_types.specs.declared.calls.GrainId.{GrainId}
use Rattle.base_types.specs.declared.calls.Value.{Value}
use Rattle.base_types.specs.declared.shapes.Shape.{Shape}
use Rattle.base_types.specs.Lists.{Member}
use Rattle.host_trait.specs.Files.{same_grain}
use Rattle.host_trait.specs.World.{Image}
use Rattle.host_trait.proofs.Names.{same_grain-is, same_grain-refl}
use Rattle.field_codec.specs.declared.formats.Format.{Format}
use Rattle.commit_log.specs.declared.records.Named.{Named}
use Rattle.commit_log.specs.Orders.{is_above, IsAscending}
use Rattle.log_reading.specs.Versions.{is_before, named_by_grain, version_numbered, state_of, goes_on, latest_of}
use Rattle.log_reading.specs.Sums.{state_after}
use Rattle.log_reading.proofs.Orders.{Climbs, by_grain_climbs, climbs_strictly, same_before, irreflexive, list_any_by_grain}

abbrev at : GrainId → Named → Bool
at g n = same_grain n.written.grain g

abbrev grain_of : Named → GrainId
grain_of n = n.written.grain

-- ---- one after the other

pub latest_pass : (n : Named) (ns : List Named) → goes_on n ns ≡ true → latest_of (n ∷ ns) ≡ latest_of ns
latest_pass n ns on = cond-true (goes_on n ns) (latest_of ns) (n ∷ latest_of ns) on

pub latest_keep : (n : Named) (ns : List Named) → goes_on n ns ≡ false → latest_of (n ∷ ns) ≡ n ∷ latest_of ns
latest_keep n ns last = cond-false (goes_on n ns) (latest_of ns) (n ∷ latest_of ns) last

-- what holds of all holds of the last ones
pub latest_all : (P : Named → Type 0) (ns : List Named) → AllByRecursion P ns → AllByRecursion P (latest_of ns)
latest_all P [] all = tt
latest_all P (n ∷ ns) all =
    let more = latest_all P ns all.1 in
    cond_both (goes_on n ns) (latest_of ns) (n ∷ latest_of ns) (AllByRecursion P) (λ on. more) (λ last. (all.0, more))

-- each of the last ones is one of all
pub latest_among : (n : Named) (ns : List Named) → Member n (latest_of ns) → Member n ns
latest_among n [] m = m
latest_among n (k ∷ ns) m =
    cond_both (goes_on k ns) (latest_of ns) (k ∷ latest_of ns) (λ l. Member n l → Member n (k ∷ ns)) (λ on q. inr (latest_among n ns q)) (λ last q. elim q [ inl here ↦ inl here | inr there ↦ inr (latest_among n ns there) ]) m

-- ---- the last of a grain

-- where the next version is of another grain, so are all behind it, and their grains are above
others_behind : (n : Named) (ns : List Named) → Climbs (n ∷ ns) → goes_on n ns ≡ false → AllByRecursion (λ m. is_before (grain_of n) (grain_of m) ≡ true) ns
others_behind n [] up last = tt
others_behind n (m ∷ ns) up last =
    let first : is_before (grain_of n) (grain_of m) ≡ true = climbs_strictly (grain_of n) (grain_of m) up.0.0 last in
    (first, later ns up.1.0)
  where
    later : (ks : List Named) → AllByRecursion (λ k. is_before (grain_of k) (grain_of m) ≡ false) ks → AllByRecursion (λ k. is_before (grain_of n) (grain_of k) ≡ true) ks
    later [] all = tt
    later (k ∷ ks) all = (same_before (grain_of n) (grain_of m) (grain_of k) (climbs_strictly (grain_of n) (grain_of m) up.0.0 last) all.0, later ks all.1)

-- ---- their order

ascends : (ns : List Named) → Climbs ns → (low : Option GrainId) → AllByRecursion (λ n. is_above low (grain_of n) ≡ true) ns → IsAscending low (map (λ n. n.written) (latest_of ns))
ascends [] up low all = tt
ascends (n ∷ ns) up low all = elim (cases_Bool (goes_on n ns)) [
  | inl on ↦ subst (λ (l : List Named). IsAscending low (map (λ m. m.written) l)) (sym (latest_pass n ns on)) (ascends ns up.1 low all.1)
  | inr last ↦ subst (λ (l : List Named). IsAscending low (map (λ m. m.written) l)) (sym (latest_keep n ns last)) (all.0, ascends ns up.1 (Some (grain_of n)) (others_behind n ns up last))
]

any_low : (ns : List Named) → AllByRecursion (λ n. is_above None (grain_of n) ≡ true) ns
any_low [] = tt
any_low (n ∷ ns) = (refl, any_low ns)

pub latest_ascend : (named : List Named) → IsAscending None (map (λ n. n.written) (latest_of (named_by_grain named)))
latest_ascend named = ascends (named_by_grain named) (by_grain_climbs named) None (any_low (named_by_grain named))

-- ---- the states that they leave

module _ (live : ℕ) (format : Format) (shapes : List Shape) (image : Image) where
  abbrev State : Type 0
  State = Option (ℕ × List Value)

  abbrev left_by : Named → State
  left_by n = Some (n.program, state_of (version_numbered live format shapes image n))

  abbrev Leaves : State → List Named → Named → Type 0
  Leaves s ns n = state_after live format shapes image s ns (grain_of n) ≡ left_by n

  -- versions of other grains leave a state as it is
  others_leave : (g : GrainId) (ns : List Named) (s : State) → AllByRecursion (λ m. at g m ≡ false) ns → state_after live format shapes image s ns g ≡ s
  others_leave g [] s all = refl
  others_leave g (n ∷ ns) s all = ap (λ (t : State). state_after live format shapes image t ns g) (cond-false (at g n) (left_by n) s all.0) ∙ others_leave g ns s all.1

  not_same : (g h : GrainId) → is_before g h ≡ true → same_grain h g ≡ false
  not_same g h before = elim (cases_Bool (same_grain h g)) [
    | inl same ↦ absurd (never g h before (same_grain-is h g same))
    | inr other ↦ other
  ]
    where
      never : (g h : GrainId) → is_before g h ≡ true → h ≡ g → ⊥
      never g h before same = false≢true (sym (irreflexive g) ∙ subst (λ (k : GrainId). is_before g k ≡ true) same before)

  all_others : (n : Named) (ns : List Named) → AllByRecursion (λ m. is_before (grain_of n) (grain_of m) ≡ true) ns → AllByRecursion (λ m. at (grain_of n) m ≡ false) ns
  all_others n [] all = tt
  all_others n (m ∷ ns) all = (not_same (grain_of n) (grain_of m) all.0, all_others n ns all.1)

  leave_by : (ns : List Named) → Climbs ns → (s : GrainId → State) → AllByRecursion (λ n. Leaves (s (grain_of n)) ns n) (latest_of ns)
  leave_by [] up s = tt
  leave_by (n ∷ ns) up s = elim (cases_Bool (goes_on n ns)) [
    | inl on ↦ subst (AllByRecursion (λ m. Leaves (s (grain_of m)) (n ∷ ns) m)) (sym (latest_pass n ns on)) (leave_by ns up.1 (λ g. if at g n then left_by n else s g))
    | inr last ↦
        let own : Leaves (s (grain_of n)) (n ∷ ns) n =
        ap (λ (t : State). state_after live format shapes image t ns (grain_of n)) (cond-true (at (grain_of n) n) (left_by n) (s (grain_of n)) (same_grain-refl (grain_of n)))
        ∙ others_leave (grain_of n) ns (left_by n) (all_others n ns (others_behind n ns up last)) in
        subst (AllByRecursion (λ m. Leaves (s (grain_of m)) (n ∷ ns) m)) (sym (latest_keep n ns last)) (own, leave_by ns up.1 (λ g. if at g n then left_by n else s g))
  ]

  pub latest_leave : (s : State) (named : List Named) → AllByRecursion (λ n. Leaves s (named_by_grain named) n) (latest_of (named_by_grain named))
  latest_leave s named = leave_by (named_by_grain named) (by_grain_climbs named) (λ g. s)

-- ---- the grains that are named

module _ (g : GrainId) where
  abbrev any_of : List Named → Bool
  any_of ns = list_any (at g) ns

  same_at : (n m : Named) → same_grain (grain_of n) (grain_of m) ≡ true → at g n ≡ at g m
  same_at n m same = ap (λ (k : GrainId). same_grain k g) (same_grain-is (grain_of n) (grain_of m) same)

  or_same : (b c : Bool) → (b || (b || c)) ≡ (b || c)
  or_same true c = refl
  or_same false c = refl

  any_on : (n : Named) (ns : List Named) → goes_on n ns ≡ true → any_of (n ∷ ns) ≡ any_of ns
  any_on n [] on = absurd (false≢true on)
  any_on n (m ∷ ns) on = ap (λ (b : Bool). b || (at g m || any_of ns)) (same_at n m on) ∙ or_same (at g m) (any_of ns)

  pub latest_any : (ns : List Named) → any_of (latest_of ns) ≡ any_of ns
  latest_any [] = refl
  latest_any (n ∷ ns) = elim (cases_Bool (goes_on n ns)) [
    | inl on ↦ ap any_of (latest_pass n ns on) ∙ latest_any ns ∙ sym (any_on n ns on)
    | inr last ↦ ap any_of (latest_keep n ns last) ∙ ap (λ (b : Bool). at g n || b) (latest_any ns)
  ]

  pub latest_named : (named : List Named) → any_of (latest_of (named_by_grain named)) ≡ any_of named
  latest_named named = latest_any (named_by_grain named) ∙ list_any_by_grain g named
