-- Versions of a unit: the eight bytes before a version's state.
use Rattle.std.specs.Prelude.{bytes_eq}
use Rattle.std.proofs.Common.{◌≡◌, inl, inr, ℕ, ◌+◌, ◌-◌, ◌<◌, ◌≤◌, Bool, true, false, if◌then◌else◌, Option, Some, None, List, length, take, drop, Result, Err, refl, sym, ◌∙◌, ap, subst, arith, length-take}
use Rattle.std.proofs.lemmas.Bool.{cases_Bool, cases_lt, false_from_ne_true, le-ltb, lt-ltb}
use Rattle.std.proofs.lemmas.List.{take-take}
use Rattle.std.proofs.lemmas.Slice.Eq.{bytes_eq-Decides}
use Rattle.std.specs.Int.{w64, to_le_bytes, from_le_bytes}
use Rattle.base_types.specs.declared.calls.UnitNo.{UnitNo}
use Rattle.base_types.specs.declared.stores.Place.{Place}
use Rattle.base_types.specs.declared.stores.Version.{Version}
use Rattle.field_codec.specs.declared.formats.Format.{Format}
use Rattle.field_codec.specs.declared.faults.CodecFault.TheVariants.{Short}
use Rattle.field_codec.specs.Readers.{field}
use Rattle.field_codec.specs.Units.{may_be_unit}
use Rattle.field_codec.specs.declared.units.Numbers.TheVariants.{Logged}
use Rattle.field_codec.proofs.Counts.{wide64}
use Rattle.grain_log.specs.declared.faults.VersionFault.{VersionFault}
use Rattle.grain_log.specs.Reads.{version_in, version_of, is_beyond, in_file, version_at_place, version_by_owner, BeginsBy, IsTextAt, GivesVersion}

-- fewer than eight bytes are no number
pub too_short : (text : List ℕ) (unit : ℕ) → length text < 8 → take 8 text ≡ to_le_bytes w64 unit → ⊥
too_short text unit low e =
    let size : length (take 8 text) ≡ length (to_le_bytes w64 unit) = ap length e in
    absurd (omega (arith, size, low, wide64.len unit, length-take 8 text))

-- and no version
pub short_version : (format : Format) (fields : ℕ) (text : List ℕ) → length text < 8 → version_of format fields text ≡ Err (Short 0)
unfolding version_in field
short_version format fields text low = rw (lt-ltb (length text) 8 low) refl

-- ---- what a unit's record, or a checkpoint, names

module _ (owns : List ℕ → Bool) (format : Format) (place : Place) (file : List ℕ) where
  -- the text at the place
  abbrev text_at : List ℕ
  text_at = take place.len (drop place.offset file)

  abbrev by_owner : Result Version ℕ → Bool → Result Version ℕ
  by_owner found owned = if owned then found else Err place.offset

  -- the version at the place, where its first eight bytes pass a test
  abbrev pub tested_version : Option ℕ → Result Version ℕ
  tested_version fields = by_owner (version_at_place format fields place file) (owns (take 8 (drop place.offset file)))

  -- what is damaged at its offset is so whosever it is
  damaged_at_all : (fields : Option ℕ) → version_at_place format fields place file ≡ Err place.offset → tested_version fields ≡ Err place.offset
  damaged_at_all fields damaged = elim (cases_Bool (owns (take 8 (drop place.offset file)))) [
    | inl is ↦ ap (by_owner (version_at_place format fields place file)) is ∙ damaged
    | inr other ↦ ap (by_owner (version_at_place format fields place file)) other
  ]

  -- the first eight bytes of a text of eight or more are the file's
  first_bytes : 8 ≤ place.len → take 8 text_at ≡ take 8 (drop place.offset file)
  first_bytes long = take-take 8 place.len (drop place.offset file) long

  -- a text whose first bytes pass
  is_the_owners : (fields : Option ℕ) → 8 ≤ place.len → owns (take 8 text_at) ≡ true → tested_version fields ≡ version_at_place format fields place file
  is_the_owners fields long own = ap (by_owner (version_at_place format fields place file)) (ap owns (sym (first_bytes long)) ∙ own)

  -- one that has fewer bytes, or whose first bytes don't pass
  is_anothers : (fields : ℕ) → is_beyond format place ≡ false → place.len ≤ length file - place.offset → length text_at ≡ place.len → (8 ≤ place.len → owns (take 8 text_at) ≡ true → ⊥) → tested_version (Some fields) ≡ Err place.offset
  is_anothers fields near within size other = elim (cases_lt place.len 8) [
    | inl short ↦ damaged_at_all (Some fields) (rw (near, le-ltb _ _ within, short_version format fields text_at (omega (arith, size, short))) (λ i. Err (plus_zero i)))
    | inr long ↦ ap (by_owner (version_at_place format (Some fields) place file)) (false_from_ne_true (owns (take 8 (drop place.offset file))) (λ is. other long (ap owns (first_bytes long) ∙ is)))
  ] where
    plus_zero : place.offset + 0 ≡ place.offset
    plus_zero = omega arith

  -- ---- and from its bytes

  module _ (fields : ℕ) (text : List ℕ) (near : is_beyond format place ≡ false) (size : length text ≡ place.len) (here : IsTextAt place file text) where
    -- what is read of a text that passes is what stands there
    pub owners_gives : (result : Result Version VersionFault) → 8 ≤ place.len → owns (take 8 text) ≡ true → GivesVersion result (in_file place.offset (version_of format fields text)) → GivesVersion result (tested_version (Some fields))
    owners_gives result long own gives =
        let read : version_at_place format (Some fields) place file ≡ in_file place.offset (version_of format fields text) = rw (near, le-ltb _ _ here.within) (ap (λ (t : List ℕ). in_file place.offset (version_of format fields t)) (sym here.bytes)) in
        subst (λ (r : Result Version ℕ). GivesVersion result r) (sym (is_the_owners (Some fields) long (ap owns (ap (take 8) (sym here.bytes)) ∙ own) ∙ read)) gives

    -- one that doesn't is damaged at its offset
    pub others_gives : (8 ≤ place.len → owns (take 8 text) ≡ true → ⊥) → tested_version (Some fields) ≡ Err place.offset
    others_gives other = is_anothers fields near here.within (ap length (sym here.bytes) ∙ size) (λ long own. other long (ap owns (ap (take 8) here.bytes) ∙ own))

-- ---- by the owner

-- the test of the first eight bytes
abbrev owns_by : Option UnitNo → List ℕ → Bool
owns_by (Some unit) eight = bytes_eq eight (to_le_bytes w64 unit.0)
owns_by None eight = may_be_unit Logged (from_le_bytes w64 eight)

same_version : (format : Format) (fields : Option ℕ) (owner : Option UnitNo) (place : Place) (file : List ℕ) → version_by_owner format fields owner place file ≡ tested_version (owns_by owner) format place file fields
same_version format fields (Some unit) place file = refl
same_version format fields None place file = refl

begins_owns : (owner : Option UnitNo) (text : List ℕ) → BeginsBy owner text → (8 ≤ length text) × (owns_by owner (take 8 text) ≡ true)
begins_owns (Some unit) text begins =
    let eight : length (take 8 text) ≡ length (to_le_bytes w64 unit.0) = ap length begins in
    (omega (arith, eight, wide64.len unit.0, length-take 8 text), (bytes_eq-Decides (take 8 text) (to_le_bytes w64 unit.0)).1 begins)
begins_owns None text begins = begins

owns_begins : (owner : Option UnitNo) (text : List ℕ) → 8 ≤ length text → owns_by owner (take 8 text) ≡ true → BeginsBy owner text
owns_begins (Some unit) text long owns = (bytes_eq-Decides (take 8 text) (to_le_bytes w64 unit.0)).0 owns
owns_begins None text long owns = (long, owns)

module _ (format : Format) (owner : Option UnitNo) (place : Place) (file : List ℕ) (fields : ℕ) (text : List ℕ) (near : is_beyond format place ≡ false) (size : length text ≡ place.len) (here : IsTextAt place file text) where
  -- what is read of a text of the owner is what stands there
  pub owned_gives : (result : Result Version VersionFault) → BeginsBy owner text → GivesVersion result (in_file place.offset (version_of format fields text)) → GivesVersion result (version_by_owner format (Some fields) owner place file)
  owned_gives result begins gives =
      let owns = begins_owns owner text begins in
      let given = owners_gives (owns_by owner) format place file fields text near size here result (omega (arith, owns.0, size)) owns.1 gives in
      subst (λ (r : Result Version ℕ). GivesVersion result r) (sym (same_version format (Some fields) owner place file)) given

  -- a text of another is damaged at its offset
  pub anothers_gives : (BeginsBy owner text → ⊥) → version_by_owner format (Some fields) owner place file ≡ Err place.offset
  anothers_gives other = same_version format (Some fields) owner place file ∙ others_gives (owns_by owner) format place file fields text near size here (λ long owns. other (owns_begins owner text (omega (arith, long, size)) owns))
