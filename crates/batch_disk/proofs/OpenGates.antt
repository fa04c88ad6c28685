-- Where a crash may leave a gate open.
use Rattle.std.proofs.Common.{◌≡◌, ◌≢◌, ◌⊎◌, inl, inr, ℕ, ◌+◌, ◌==◌, ◌<◌, ◌≤◌, nat_lt, not, ◌||◌, ◌&&◌, Bool, true, false, List, [], ◌∷◌, length, slice_index, refl, sym, ◌∙◌, ap}
use Rattle.std.proofs.lemmas.Bool.{cases_Bool, and_parts, and_from, not_from_true, ltb-true, ltb-false, lt-ltb, eqb-true, true≢false, false_from_ne_true}
use Rattle.host_trait.specs.Disk.{FileState, Untouched, MayLeave, settled}
use Rattle.batch_disk.specs.Seals.{is_untouched, may_open}

-- a test says no where its negation says yes
was_not : (b : Bool) → not b ≡ true → b ≡ false
was_not true absent = absurd (true≢false (sym absent))
was_not false absent = refl

was : (b : Bool) → not b ≡ false → b ≡ true
was true absent = refl
was false absent = absurd (true≢false absent)

-- where the test says so, none of the ranges has the offset
untouched_is : (ranges : List (ℕ × ℕ)) (i : ℕ) → is_untouched ranges i ≡ true → Untouched ranges i
untouched_is [] i is = tt
untouched_is (range ∷ ranges) i is =
    let parts = and_parts (nat_lt i range.0 || not (nat_lt i (range.0 + range.1))) (is_untouched ranges i) is in
    let out : (i < range.0) ⊎ (range.0 + range.1 ≤ i) = elim (cases_Bool (nat_lt i range.0)) [
      | inl low ↦ inl (ltb-true i range.0 low)
      | inr high ↦ inr (ltb-false i (range.0 + range.1) (was_not (nat_lt i (range.0 + range.1)) (sym (ap (λ (b : Bool). b || not (nat_lt i (range.0 + range.1))) high) ∙ parts.0)))
    ] in
    (out, untouched_is ranges i parts.1)

-- where a crash leaves it open it may
pub opens : (gate : ℕ) (file : FileState) (c : List ℕ) → MayLeave file c → slice_index c gate ≡ 1 → may_open gate file ≡ true
opens gate file c left one =
    let there : Bool = nat_lt gate (length file.base) && is_untouched file.ranges gate in
    elim (cases_Bool (may_open gate file)) [
      | inl is ↦ is
      | inr absent ↦ absurd (
          let both = and_parts there (not (slice_index file.base gate == 1)) (was (there && not (slice_index file.base gate == 1)) absent) in
          let low = and_parts (nat_lt gate (length file.base)) (is_untouched file.ranges gate) both.0 in
          let same : slice_index c gate ≡ slice_index file.base gate = left.same gate (ltb-true gate (length file.base) low.0) (untouched_is file.ranges gate low.1) in
          let open_is : (slice_index file.base gate == 1) ≡ true = ap (λ (n : ℕ). n == 1) (sym same ∙ one) in
          true≢false (sym open_is ∙ was_not (slice_index file.base gate == 1) both.1)
          )
    ]

-- where nothing is pending and it is closed it can't
pub stays_shut : (gate : ℕ) (bytes : List ℕ) → gate < length bytes → slice_index bytes gate ≢ 1 → may_open gate (settled bytes) ≡ false
stays_shut gate bytes there closed =
    let shut : (slice_index bytes gate == 1) ≡ false = false_from_ne_true (slice_index bytes gate == 1) (λ is. closed (eqb-true (slice_index bytes gate) 1 is)) in
    let low : (nat_lt gate (length bytes) && true) ≡ true = and_from (nat_lt gate (length bytes)) true (lt-ltb gate (length bytes) there) refl in
    not_from_true ((nat_lt gate (length bytes) && true) && not (slice_index bytes gate == 1)) (and_from (nat_lt gate (length bytes) && true) (not (slice_index bytes gate == 1)) low (ap not shut))
