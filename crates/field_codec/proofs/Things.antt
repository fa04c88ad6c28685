-- The laws of values, states, calls, versions, origins and outcomes.
use Rattle.std.proofs.Common.{◌≡◌, ℕ, ◌<◌, ◌≤◌, ◌^◌, true, false, eqb, ltb, List, [], ◌++◌, length, refl, sym, ap, subst, ◌∙◌, append-nil, arith, eqb-true}
use Rattle.std.specs.Int.{w8, w16, w32, w64, to_le_bytes, cast_signed, cast_unsigned}
use Rattle.std.specs.List.{flat_map, AllByRecursion}
use Rattle.std.proofs.Math.Facts.{sfits_to_z, Fits-of_lt, Fits-of_z, Fits-lt-pow}
use Rattle.std.proofs.lemmas.Bool.{eqb-false, ltb-true, ltb-false}
use Rattle.std.proofs.lemmas.Int.{of_z-to_z, to_z-of_z}
use Rattle.base_types.specs.declared.calls.Value.{Value}
use Rattle.base_types.specs.declared.calls.Value.TheVariants.{Int, Text}
use Rattle.base_types.specs.declared.calls.Call.{Call}
use Rattle.base_types.specs.declared.calls.Origin.{Origin}
use Rattle.base_types.specs.declared.calls.Origin.TheVariants.{Line, Child}
use Rattle.base_types.specs.declared.calls.Outcome as outcome
use Rattle.base_types.specs.declared.stores.Version.{Version}
use Rattle.field_codec.specs.declared.faults.CodecFault.TheVariants.{BadTag, BadOrder, Unknown}
use Rattle.field_codec.specs.declared.formats.Format.{Format}
use Rattle.field_codec.specs.declared.formats.Format.TheVariants.{One, Two}
use Rattle.field_codec.specs.Formats.{field_limit}
use Rattle.field_codec.specs.declared.units.Numbers.{Numbers}
use Rattle.field_codec.specs.declared.units.Numbers.TheVariants.{Free}
use Rattle.field_codec.specs.Units.{may_be_unit, may_be_parent, HasParent, SessionFits}
use Rattle.field_codec.specs.Spelling.{Stands, spelling_of_session, spelling_of_text, TextFits, spelling_of_value, ValueFits, spelling_of_values, ValuesFit, spelling_of_call, CallFits, spelling_of_version, VersionFits, spelling_of_origin, OriginFits, spelling_of_outcome, AnswerFits, ResultFits}
use Rattle.field_codec.specs.Readers.{whole, refused, field, choice, number_at, count_at, text_at, times}
use Rattle.field_codec.specs.Fields.{value_at, values_at, exactly_at, call_at, version_at, unit_at, parent_at, session_at, origin_at, ended, answer_at, result_at}
use Rattle.field_codec.proofs.Readers.{Reads, Any, then, done, choose, never, put_in, said, ok_is}
use Rattle.field_codec.proofs.TextPlaces.{stands_empty}
use Rattle.field_codec.proofs.Counts.{wide16, wide64, byte_reads, reads16, reads32, reads64, tested_reads, count_reads, list_reads, text_reads, field_limit_small}
use Rattle.field_codec.proofs.Chains.{times_reads}

-- ---- values

abbrev tag_of : Value → ℕ
tag_of (Int z) = 0
tag_of (Text t) = 1

abbrev behind : Value → List ℕ
behind (Int z) = to_le_bytes w64 (cast_unsigned w64 z)
behind (Text t) = spelling_of_text t

is_int : (f : Format) (tag : ℕ) → tag ≡ 0 → (v : Value) → Any v × (tag_of v ≡ tag) → ValueFits f v → (n : ℕ) × (v ≡ Int (cast_signed w64 n)) × (n < 2 ^ 64)
is_int f tag is (Int z) known fits = (cast_unsigned w64 z, ap Int (sym (to_z-of_z w64 z fits)), Fits-lt-pow (Fits-of_z fits))
is_int f tag is (Text t) known fits = absurd (omega (arith, is, known.1))

is_text : (f : Format) (tag : ℕ) → tag ≡ 1 → (v : Value) → Any v × (tag_of v ≡ tag) → ValueFits f v → (t : List ℕ) × (v ≡ Text t) × TextFits f t
is_text f tag is (Int z) known fits = absurd (omega (arith, is, known.1))
is_text f tag is (Text t) known fits = (t, refl, fits)

is_none : (f : Format) (tag : ℕ) → (tag ≡ 0 → ⊥) → (tag ≡ 1 → ⊥) → (v : Value) → Any v × (tag_of v ≡ tag) → ValueFits f v → ⊥
is_none f tag not also (Int z) known fits = not (sym known.1)
is_none f tag not also (Text t) known fits = also (sym known.1)

tagged : (v : Value) → to_le_bytes w8 (tag_of v) ++ behind v ≡ spelling_of_value v
tagged (Int z) = refl
tagged (Text t) = refl

tag_small : (v : Value) → tag_of v < 2 ^ 8
tag_small (Int z) = omega arith
tag_small (Text t) = omega arith

value_behind : (f : Format) (tag from : ℕ) → Reads from (λ v. Any v × (tag_of v ≡ tag)) behind (ValueFits f)
    (choice (eqb tag 0) (field (number_at w64) (λ n here. whole (Int (cast_signed w64 n)))) (choice (eqb tag 1) (field (text_at f) (λ text here. whole (Text text))) (refused (BadTag from tag))))
value_behind f tag from =
    let P : Value → Type 0 = λ v. Any v × (tag_of v ≡ tag) in
    choose from P behind (ValueFits f) (eqb tag 0) _ _
    (
    λ yes0. put_in (λ n. Int (cast_signed w64 n)) (to_le_bytes w64) (λ n. n < 2 ^ 64) (number_at w64) from P behind (ValueFits f)
    (is_int f tag (eqb-true tag 0 yes0)) (λ n. (tt, sym (eqb-true tag 0 yes0))) (λ n lt. ap (to_le_bytes w64) (of_z-to_z w64 n lt)) (λ n lt. sfits_to_z (Fits-of_lt lt)) (reads64 from)
    )
    (
    λ no0. choose from P behind (ValueFits f) (eqb tag 1) _ _
    (λ yes1. put_in Text spelling_of_text (TextFits f) (text_at f) from P behind (ValueFits f) (is_text f tag (eqb-true tag 1 yes1)) (λ t. (tt, sym (eqb-true tag 1 yes1))) (λ t fits. refl) (λ t fits. fits) (text_reads f from))
    (λ no1. never from P behind (ValueFits f) (BadTag from tag) (omega arith) (is_none f tag (eqb-false tag 0 no0) (eqb-false tag 1 no1)))
    )

pub value_reads : (f : Format) (low : ℕ) → Reads low Any spelling_of_value (ValueFits f) (value_at f)
unfolding value_at
value_reads f low =
    said low Any Any (λ v. to_le_bytes w8 (tag_of v) ++ behind v) spelling_of_value (λ v. (tag_of v < 2 ^ 8) × ValueFits f v) (ValueFits f) (value_at f)
    (λ v p. tt) (λ v p. tt) (λ v p. tagged v) (λ v p fits. fits.1) (λ v p fits. (tag_small v, fits))
    (then tag_of (to_le_bytes w8) (λ n. n < 2 ^ 8) (number_at w8) low Any behind (ValueFits f) _ (byte_reads low) (value_behind f))

pub values_read : (f : Format) (most : ℕ) → most < 2 ^ 16 → (low : ℕ) → Reads low Any spelling_of_values (ValuesFit f most) (values_at f most)
values_read f most lt low = list_reads spelling_of_value (ValueFits f) (value_at f) (value_reads f) w16 (2 ^ 16) most wide16 lt low

abbrev pub ValuesFitExactly : Format → ℕ → ℕ → List Value → Type 0
ValuesFitExactly f limit many vs = (length vs ≤ limit) × (AllByRecursion (ValueFits f) vs × (length vs ≡ many))

pub exactly_reads : (f : Format) (limit many : ℕ) → limit < 2 ^ 16 → (low : ℕ) → Reads low Any spelling_of_values (ValuesFitExactly f limit many) (exactly_at f limit many)
unfolding exactly_at
exactly_reads f limit many lt low =
    then (λ (vs : List Value). length vs) (to_le_bytes w16) (λ n. n ≤ limit) (count_at w16 limit) low Any (flat_map spelling_of_value) (λ vs. AllByRecursion (ValueFits f) vs × (length vs ≡ many)) _ (count_reads w16 (2 ^ 16) limit wide16 lt low) λ n from.
    let P : List Value → Type 0 = λ vs. Any vs × (length vs ≡ n) in
    let Fits : List Value → Type 0 = λ vs. AllByRecursion (ValueFits f) vs × (length vs ≡ many) in
    choose from P (flat_map spelling_of_value) Fits (eqb n many) _ _
    (λ same. said from P P (flat_map spelling_of_value) (flat_map spelling_of_value) (AllByRecursion (ValueFits f)) Fits (times (value_at f) n) (λ a p. p) (λ a p. p) (λ a p. refl)
    (λ a p fits. (fits, p.1 ∙ eqb-true n many same)) (λ a p fits. fits.0)
    (times_reads spelling_of_value (ValueFits f) (value_at f) (value_reads f) from n))
    (λ other. never from P (flat_map spelling_of_value) Fits (Unknown from) (omega arith) (λ a p fits. eqb-false n many other (sym p.1 ∙ fits.1)))

-- ---- calls

pub call_reads : (f : Format) (low : ℕ) → Reads low Any spelling_of_call (CallFits f) (call_at f)
unfolding call_at
call_reads f low =
    said low Any Any _ spelling_of_call _ (CallFits f) (call_at f) (λ c p. tt) (λ c p. tt) (λ c p. simp append-nil)
    (λ c p fits. record { kind = fits.0; key = fits.1.0; method = fits.1.1.0; args = fits.1.1.1.0 }) (λ c p fits. (fits.kind, (fits.key, (fits.method, (fits.args, tt)))))
    (then (λ (c : Call). c.grain.kind) (to_le_bytes w16) (λ n. n < 2 ^ 16) (number_at w16) low Any _ _ _ (reads16 low) λ k from0.
    then (λ (c : Call). c.grain.key) (to_le_bytes w32) (λ n. n < 2 ^ 32) (number_at w32) from0 _ _ _ _ (reads32 from0) λ y from1.
    then (λ (c : Call). c.method) (to_le_bytes w16) (λ n. n < 2 ^ 16) (number_at w16) from1 _ _ _ _ (reads16 from1) λ m from2.
    then (λ (c : Call). c.args) spelling_of_values (ValuesFit f 8) (values_at f 8) from2 _ _ _ _ (values_read f 8 (omega arith) from2) λ a from3.
    done from3 _ (record { grain = record { kind = k; key = y }; method = m; args = a }) ((((tt, refl), refl), refl), refl) (λ d known i. record { grain = record { kind = known.0.0.0.1 i; key = known.0.0.1 i }; method = known.0.1 i; args = known.1 i }))

-- ---- versions

pub version_reads : (f : Format) (low : ℕ) → Reads low Any spelling_of_version (VersionFits f) (version_at f)
unfolding version_at
version_reads f low =
    said low Any Any _ spelling_of_version _ (VersionFits f) (version_at f) (λ v p. tt) (λ v p. tt) (λ v p. simp append-nil)
    (λ v p fits. record { unit = fits.0; state = fits.1.0 }) (λ v p fits. (fits.unit, (fits.state, tt)))
    (then (λ (v : Version). v.unit.0) (to_le_bytes w64) (λ n. n < 2 ^ 64) (number_at w64) low Any _ _ _ (reads64 low) λ u from0.
    then (λ (v : Version). v.state) spelling_of_values (ValuesFit f (field_limit f)) (values_at f (field_limit f)) from0 _ _ _ _ (values_read f (field_limit f) (field_limit_small f) from0) λ s from1.
    done from1 _ (record { unit = record { 0 = u }; state = s }) ((tt, refl), refl) (λ d known i. record { unit = record { 0 = known.0.1 i }; state = known.1 i }))

-- ---- origins

abbrev origin_tag : Origin → ℕ
origin_tag (Line line) = 0
origin_tag (Child parent index depth) = 1

abbrev parent_of : Origin → ℕ
parent_of (Line line) = 0
parent_of (Child parent index depth) = parent.0

abbrev index_of : Origin → ℕ
index_of (Line line) = 0
index_of (Child parent index depth) = index

abbrev depth_of : Origin → ℕ
depth_of (Line line) = 0
depth_of (Child parent index depth) = depth

abbrev behind_origin : Origin → List ℕ
behind_origin (Line line) = to_le_bytes w32 line
behind_origin (Child parent index depth) = to_le_bytes w64 parent.0 ++ (to_le_bytes w32 index ++ to_le_bytes w16 depth)

abbrev child_bytes : Origin → List ℕ
child_bytes o = to_le_bytes w64 (parent_of o) ++ (to_le_bytes w32 (index_of o) ++ (to_le_bytes w16 (depth_of o) ++ []))

origin_tagged : (o : Origin) → to_le_bytes w8 (origin_tag o) ++ behind_origin o ≡ spelling_of_origin o
origin_tagged (Line line) = refl
origin_tagged (Child parent index depth) = refl

origin_small : (o : Origin) → origin_tag o < 2 ^ 8
origin_small (Line line) = omega arith
origin_small (Child parent index depth) = omega arith

abbrev OriginIs : ℕ → Origin → Type 0
OriginIs tag o = Any o × (origin_tag o ≡ tag)

as_child : (tag : ℕ) → tag ≡ 1 → (o : Origin) → OriginIs tag o → child_bytes o ≡ behind_origin o
as_child tag is (Line line) known = absurd (omega (arith, is, known.1))
as_child tag is (Child parent index depth) known = simp append-nil

is_child : (tag p i d : ℕ) → tag ≡ 1 → (o : Origin) → ((OriginIs tag o × (parent_of o ≡ p)) × (index_of o ≡ i)) × (depth_of o ≡ d) → o ≡ Child (record { 0 = p }) i d
is_child tag p i d is (Line line) known = absurd (omega (arith, is, known.0.0.0.1))
is_child tag p i d is (Child parent index depth) known = λ x. Child (record { 0 = known.0.0.1 x }) (known.0.1 x) (known.1 x)

module _ (numbers : Numbers) where
  -- an origin within its limits, whose parent's number is one that is taken
  abbrev pub OriginFitsIn : Origin → Type 0
  OriginFitsIn o = OriginFits o × HasParent numbers o

  abbrev ChildFits : Origin → Type 0
  ChildFits o = ((parent_of o < 2 ^ 64) × (may_be_parent numbers (parent_of o) ≡ true)) × ((index_of o < 2 ^ 32) × ((depth_of o < 2 ^ 16) × Unit {0}))

  is_line : (tag : ℕ) → tag ≡ 0 → (o : Origin) → OriginIs tag o → OriginFitsIn o → (n : ℕ) × (o ≡ Line n) × (n < 2 ^ 32)
  is_line tag is (Line line) known fits = (line, refl, fits.0)
  is_line tag is (Child parent index depth) known fits = absurd (omega (arith, is, known.1))

  child_fits : (tag : ℕ) → tag ≡ 1 → (o : Origin) → OriginIs tag o → ChildFits o → OriginFitsIn o
  child_fits tag is (Line line) known fits = absurd (omega (arith, is, known.1))
  child_fits tag is (Child parent index depth) known fits = ((fits.0.0, fits.1.0, fits.1.1.0), fits.0.1)

  fits_child : (tag : ℕ) → tag ≡ 1 → (o : Origin) → OriginIs tag o → OriginFitsIn o → ChildFits o
  fits_child tag is (Line line) known fits = absurd (omega (arith, is, known.1))
  fits_child tag is (Child parent index depth) known fits = ((fits.0.0, fits.1), (fits.0.1, (fits.0.2, tt)))

  no_origin : (tag : ℕ) → (tag ≡ 0 → ⊥) → (tag ≡ 1 → ⊥) → (o : Origin) → OriginIs tag o → OriginFitsIn o → ⊥
  no_origin tag not also (Line line) known fits = not (sym known.1)
  no_origin tag not also (Child parent index depth) known fits = also (sym known.1)

  pub unit_reads : (low : ℕ) → Reads low Any (to_le_bytes w64) (λ n. (n < 2 ^ 64) × (may_be_unit numbers n ≡ true)) (unit_at numbers)
  unfolding unit_at
  unit_reads low = tested_reads w64 (2 ^ 64) wide64 (may_be_unit numbers) Unknown (λ from. omega arith) low

  parent_reads : (low : ℕ) → Reads low Any (to_le_bytes w64) (λ n. (n < 2 ^ 64) × (may_be_parent numbers n ≡ true)) (parent_at numbers)
  unfolding parent_at
  parent_reads low = tested_reads w64 (2 ^ 64) wide64 (may_be_parent numbers) Unknown (λ from. omega arith) low

  origin_behind : (tag from : ℕ) → Reads from (OriginIs tag) behind_origin OriginFitsIn
      (choice (eqb tag 0) (field (number_at w32) λ line here. whole (Line line))
      (choice (eqb tag 1) (field (parent_at numbers) λ parent here. field (number_at w32) λ index there. field (number_at w16) λ depth end. whole (Child (record { 0 = parent }) index depth))
      (refused (BadTag from tag))))
  origin_behind tag from =
      choose from (OriginIs tag) behind_origin OriginFitsIn (eqb tag 0) _ _
      (
      λ yes0. put_in Line (to_le_bytes w32) (λ n. n < 2 ^ 32) (number_at w32) from (OriginIs tag) behind_origin OriginFitsIn
      (is_line tag (eqb-true tag 0 yes0)) (λ n. (tt, sym (eqb-true tag 0 yes0))) (λ n lt. refl) (λ n lt. (lt, tt)) (reads32 from)
      )
      (
      λ no0. choose from (OriginIs tag) behind_origin OriginFitsIn (eqb tag 1) _ _
      (
      λ yes1. let is = eqb-true tag 1 yes1 in
      said from (OriginIs tag) (OriginIs tag) child_bytes behind_origin ChildFits OriginFitsIn _ (λ o p. p) (λ o p. p) (as_child tag is) (child_fits tag is) (fits_child tag is)
      (then parent_of (to_le_bytes w64) (λ n. (n < 2 ^ 64) × (may_be_parent numbers n ≡ true)) (parent_at numbers) from (OriginIs tag) _ _ _ (parent_reads from) λ p from1.
      then index_of (to_le_bytes w32) (λ n. n < 2 ^ 32) (number_at w32) from1 _ _ _ _ (reads32 from1) λ i from2.
      then depth_of (to_le_bytes w16) (λ n. n < 2 ^ 16) (number_at w16) from2 _ _ _ _ (reads16 from2) λ d from3.
      done from3 _ (Child (record { 0 = p }) i d) ((((tt, sym is), refl), refl), refl) (is_child tag p i d is))
      )
      (λ no1. never from (OriginIs tag) behind_origin OriginFitsIn (BadTag from tag) (omega arith) (no_origin tag (eqb-false tag 0 no0) (eqb-false tag 1 no1)))
      )

  pub origin_reads : (low : ℕ) → Reads low Any spelling_of_origin OriginFitsIn (origin_at numbers)
  unfolding origin_at
  origin_reads low =
      said low Any Any (λ o. to_le_bytes w8 (origin_tag o) ++ behind_origin o) spelling_of_origin (λ o. (origin_tag o < 2 ^ 8) × OriginFitsIn o) OriginFitsIn (origin_at numbers)
      (λ o p. tt) (λ o p. tt) (λ o p. origin_tagged o) (λ o p fits. fits.1) (λ o p fits. (origin_small o, fits))
      (then origin_tag (to_le_bytes w8) (λ n. n < 2 ^ 8) (number_at w8) low Any behind_origin OriginFitsIn _ (byte_reads low) origin_behind)

-- ---- sessions

module _ (numbers : Numbers) (last : ℕ) where
  later_session : (low : ℕ) → Reads low Any (to_le_bytes w64) (SessionFits Two numbers last) (session_at Two numbers last)
  unfolding session_at
  later_session low =
      let P : ℕ → ℕ → Type 0 = λ n c. Any c × (c ≡ n) in
      let Passes : ℕ → Type 0 = λ c. (last ≤ c) × (may_be_parent numbers c ≡ true) in
      said low Any Any (λ c. to_le_bytes w64 c ++ []) (to_le_bytes w64) (λ c. (c < 2 ^ 64) × Passes c) (SessionFits Two numbers last) _ (λ c p. tt) (λ c p. tt) (λ c p. simp append-nil) (λ c p fits. fits) (λ c p fits. fits)
      (then (λ (c : ℕ). c) (to_le_bytes w64) (λ n. n < 2 ^ 64) (number_at w64) low Any (λ c. []) Passes _ (reads64 low) λ n from.
      choose from (P n) (λ c. []) Passes (ltb n last) _ _
      (λ falls. never from (P n) (λ c. []) Passes (BadOrder from) (omega arith) (λ c known fits. let lt : n < last = ltb-true _ _ falls in omega (arith, lt, known.1, fits.0)))
      (λ stays. choose from (P n) (λ c. []) Passes (may_be_parent numbers n) _ _
      (λ may. said from (P n) (P n) (λ c. []) (λ c. []) (λ c. Unit {0}) Passes (whole n) (λ c p. p) (λ c p. p) (λ c p. refl)
      (λ c p fits. let le : last ≤ n = ltb-false _ _ stays in (omega (arith, le, p.1), ap (may_be_parent numbers) p.1 ∙ may)) (λ c p fits. tt)
      (done from (P n) n (tt, refl) (λ d known. known.1)))
      (λ not. never from (P n) (λ c. []) Passes (Unknown from) (omega arith) (λ c known fits. let clash : true ≡ false = sym fits.1 ∙ ap (may_be_parent numbers) known.1 ∙ not in cc))))

  no_session : (low : ℕ) → Reads low Any (λ s. []) (SessionFits One numbers last) (session_at One numbers last)
  unfolding session_at whole
  no_session low = record {
    takes = λ bytes at d end are le e.
        let is = ok_is 1 d at end e in
        (tt, sym is.0, subst (λ (n : ℕ). Stands bytes at [] n) is.1 (stands_empty bytes at));
    again = λ bytes at d end le also fits stands.
        let two : end ≡ at = omega (arith, stands.end_at) in
        rw (fits, two) refl;
    falls = λ bytes at fault are low_le le e. absurd cc;
    goes = λ bytes at d end e. let is = ok_is 1 d at end e in omega (arith, is.1);
    later = λ bytes at fault low_le e. absurd cc;
  }

  pub session_reads : (f : Format) (low : ℕ) → Reads low Any (spelling_of_session f) (SessionFits f numbers last) (session_at f numbers last)
  session_reads One low = no_session low
  session_reads Two low = later_session low

-- where any number is taken, each parent's is
pub any_parent : (o : Origin) → HasParent Free o
any_parent (Line line) = tt
any_parent (Child parent index depth) = refl

-- ---- outcomes

abbrev outcome_tag : outcome.Outcome → ℕ
outcome_tag outcome.TheVariants.Aborted = 0
outcome_tag (outcome.TheVariants.Value value) = 1
outcome_tag (outcome.TheVariants.Fault text) = 2

abbrev behind_outcome : outcome.Outcome → List ℕ
behind_outcome outcome.TheVariants.Aborted = []
behind_outcome (outcome.TheVariants.Value value) = spelling_of_value value
behind_outcome (outcome.TheVariants.Fault text) = spelling_of_text text

outcome_tagged : (o : outcome.Outcome) → to_le_bytes w8 (outcome_tag o) ++ behind_outcome o ≡ spelling_of_outcome o
outcome_tagged outcome.TheVariants.Aborted = refl
outcome_tagged (outcome.TheVariants.Value value) = refl
outcome_tagged (outcome.TheVariants.Fault text) = refl

outcome_small : (o : outcome.Outcome) → outcome_tag o < 2 ^ 8
outcome_small outcome.TheVariants.Aborted = omega arith
outcome_small (outcome.TheVariants.Value value) = omega arith
outcome_small (outcome.TheVariants.Fault text) = omega arith

abbrev Tagged : ℕ → outcome.Outcome → Type 0
Tagged tag o = Any o × (outcome_tag o ≡ tag)

is_value : (f : Format) (tag : ℕ) → tag ≡ 1 → (o : outcome.Outcome) → Tagged tag o → ResultFits f o → (v : Value) × (o ≡ outcome.TheVariants.Value v) × ValueFits f v
is_value f tag is outcome.TheVariants.Aborted known fits = absurd fits
is_value f tag is (outcome.TheVariants.Value value) known fits = (value, refl, fits)
is_value f tag is (outcome.TheVariants.Fault text) known fits = absurd (omega (arith, is, known.1))

is_fault : (f : Format) (tag : ℕ) → tag ≡ 2 → (o : outcome.Outcome) → Tagged tag o → ResultFits f o → (t : List ℕ) × (o ≡ outcome.TheVariants.Fault t) × TextFits f t
is_fault f tag is outcome.TheVariants.Aborted known fits = absurd fits
is_fault f tag is (outcome.TheVariants.Value value) known fits = absurd (omega (arith, is, known.1))
is_fault f tag is (outcome.TheVariants.Fault text) known fits = (text, refl, fits)

is_abort : (tag : ℕ) → tag ≡ 0 → (o : outcome.Outcome) → Tagged tag o → o ≡ outcome.TheVariants.Aborted
is_abort tag is outcome.TheVariants.Aborted known = refl
is_abort tag is (outcome.TheVariants.Value value) known = absurd (omega (arith, is, known.1))
is_abort tag is (outcome.TheVariants.Fault text) known = absurd (omega (arith, is, known.1))

no_outcome : (f : Format) (tag : ℕ) → (tag ≡ 1 → ⊥) → (tag ≡ 2 → ⊥) → (o : outcome.Outcome) → Tagged tag o → ResultFits f o → ⊥
no_outcome f tag not1 not2 outcome.TheVariants.Aborted known fits = fits
no_outcome f tag not1 not2 (outcome.TheVariants.Value value) known fits = not1 (sym known.1)
no_outcome f tag not1 not2 (outcome.TheVariants.Fault text) known fits = not2 (sym known.1)

-- behind the tag, where it is no abort
ended_reads : (f : Format) (tag from : ℕ) → Reads from (Tagged tag) behind_outcome (ResultFits f) (ended f tag from)
ended_reads f tag from =
    choose from (Tagged tag) behind_outcome (ResultFits f) (eqb tag 1) _ _
    (λ yes1. put_in outcome.TheVariants.Value spelling_of_value (ValueFits f) (value_at f) from (Tagged tag) behind_outcome (ResultFits f) (is_value f tag (eqb-true tag 1 yes1)) (λ v. (tt, sym (eqb-true tag 1 yes1))) (λ v fits. refl) (λ v fits. fits) (value_reads f from))
    (
    λ no1. choose from (Tagged tag) behind_outcome (ResultFits f) (eqb tag 2) _ _
    (λ yes2. put_in outcome.TheVariants.Fault spelling_of_text (TextFits f) (text_at f) from (Tagged tag) behind_outcome (ResultFits f) (is_fault f tag (eqb-true tag 2 yes2)) (λ t. (tt, sym (eqb-true tag 2 yes2))) (λ t fits. refl) (λ t fits. fits) (text_reads f from))
    (λ no2. never from (Tagged tag) behind_outcome (ResultFits f) (BadTag from tag) (omega arith) (no_outcome f tag (eqb-false tag 1 no1) (eqb-false tag 2 no2)))
    )

pub result_reads : (f : Format) (low : ℕ) → Reads low Any spelling_of_outcome (ResultFits f) (result_at f)
unfolding result_at
result_reads f low =
    said low Any Any (λ o. to_le_bytes w8 (outcome_tag o) ++ behind_outcome o) spelling_of_outcome (λ o. (outcome_tag o < 2 ^ 8) × ResultFits f o) (ResultFits f) (result_at f)
    (λ o p. tt) (λ o p. tt) (λ o p. outcome_tagged o) (λ o p fits. fits.1) (λ o p fits. (outcome_small o, fits))
    (then outcome_tag (to_le_bytes w8) (λ n. n < 2 ^ 8) (number_at w8) low Any behind_outcome (ResultFits f) _ (byte_reads low) (ended_reads f))

-- an answer that is no abort is a result
answer_is_result : (f : Format) (tag : ℕ) → (tag ≡ 0 → ⊥) → (o : outcome.Outcome) → Tagged tag o → AnswerFits f o → ResultFits f o
answer_is_result f tag not0 outcome.TheVariants.Aborted known fits = not0 (sym known.1)
answer_is_result f tag not0 (outcome.TheVariants.Value value) known fits = fits
answer_is_result f tag not0 (outcome.TheVariants.Fault text) known fits = fits

result_is_answer : (f : Format) (o : outcome.Outcome) → ResultFits f o → AnswerFits f o
result_is_answer f outcome.TheVariants.Aborted fits = tt
result_is_answer f (outcome.TheVariants.Value value) fits = fits
result_is_answer f (outcome.TheVariants.Fault text) fits = fits

abort_behind : (tag : ℕ) → tag ≡ 0 → (o : outcome.Outcome) → Tagged tag o → [] ≡ behind_outcome o
abort_behind tag is outcome.TheVariants.Aborted known = refl
abort_behind tag is (outcome.TheVariants.Value value) known = absurd (omega (arith, is, known.1))
abort_behind tag is (outcome.TheVariants.Fault text) known = absurd (omega (arith, is, known.1))

abort_fits : (f : Format) (tag : ℕ) → tag ≡ 0 → (o : outcome.Outcome) → Tagged tag o → AnswerFits f o
abort_fits f tag is outcome.TheVariants.Aborted known = tt
abort_fits f tag is (outcome.TheVariants.Value value) known = absurd (omega (arith, is, known.1))
abort_fits f tag is (outcome.TheVariants.Fault text) known = absurd (omega (arith, is, known.1))

answer_behind : (f : Format) (tag from : ℕ) → Reads from (Tagged tag) behind_outcome (AnswerFits f) (choice (eqb tag 0) (whole outcome.TheVariants.Aborted) (ended f tag from))
answer_behind f tag from =
    choose from (Tagged tag) behind_outcome (AnswerFits f) (eqb tag 0) _ _
    (
    λ yes0. let is = eqb-true tag 0 yes0 in
    said from (Tagged tag) (Tagged tag) (λ o. []) behind_outcome (λ o. Unit {0}) (AnswerFits f) (whole outcome.TheVariants.Aborted) (λ o p. p) (λ o p. p) (abort_behind tag is) (λ o p fits. abort_fits f tag is o p) (λ o p fits. tt)
    (done from (Tagged tag) outcome.TheVariants.Aborted (tt, sym is) (is_abort tag is))
    )
    (λ no0. said from (Tagged tag) (Tagged tag) behind_outcome behind_outcome (ResultFits f) (AnswerFits f) (ended f tag from) (λ o p. p) (λ o p. p) (λ o p. refl) (λ o p fits. result_is_answer f o fits) (answer_is_result f tag (eqb-false tag 0 no0)) (ended_reads f tag from))

pub answer_reads : (f : Format) (low : ℕ) → Reads low Any spelling_of_outcome (AnswerFits f) (answer_at f)
unfolding answer_at
answer_reads f low =
    said low Any Any (λ o. to_le_bytes w8 (outcome_tag o) ++ behind_outcome o) spelling_of_outcome (λ o. (outcome_tag o < 2 ^ 8) × AnswerFits f o) (AnswerFits f) (answer_at f)
    (λ o p. tt) (λ o p. tt) (λ o p. outcome_tagged o) (λ o p fits. fits.1) (λ o p fits. (outcome_small o, fits))
    (then outcome_tag (to_le_bytes w8) (λ n. n < 2 ^ 8) (number_at w8) low Any behind_outcome (AnswerFits f) _ (byte_reads low) (answer_behind f))
