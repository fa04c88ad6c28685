-- The laws of a version with so many fields.
use Rattle.std.proofs.Common.{◌≡◌, ℕ, ◌-◌, ◌<◌, ◌≤◌, ◌^◌, false, ltb, Option, Some, None, List, length, take, drop, Result, Ok, Err, IfOk, IfErr, refl, sym, ap, subst, append-nil, arith}
use Rattle.std.specs.Int.{w64, to_le_bytes}
use Rattle.std.proofs.lemmas.Bool.{ltb-false, le-ltb}
use Rattle.std.proofs.lemmas.List.{length-take, length-drop}
use Rattle.base_types.specs.declared.stores.Place.{Place}
use Rattle.base_types.specs.declared.stores.Version.{Version}
use Rattle.field_codec.specs.declared.faults.CodecFault.{CodecFault}
use Rattle.field_codec.specs.declared.faults.CodecFault.TheVariants as codec
use Rattle.field_codec.specs.declared.formats.Format.{Format}
use Rattle.field_codec.specs.Formats.{field_limit, version_limit}
use Rattle.field_codec.specs.Spelling.{spelling_of_values, spelling_of_version, VersionFits}
use Rattle.field_codec.specs.Readers.{AreBytes, number_at}
use Rattle.field_codec.specs.Fields.{exactly_at}
use Rattle.field_codec.specs.Results.{GivesRead, Faults, named_place, place_of}
use Rattle.field_codec.proofs.Readers.{Reads, Any, then, done, said, past}
use Rattle.field_codec.proofs.Counts.{reads64, field_limit_small}
use Rattle.field_codec.proofs.Things.{ValuesFitExactly, exactly_reads}
use Rattle.field_codec.proofs.Wholes.{whole_within, whole_takes, whole_again}
use Rattle.grain_log.specs.declared.faults.VersionFault.{VersionFault}
use Rattle.grain_log.specs.Reads.{version_in, version_of, in_file, damage_at, is_beyond, text_in, version_at_place, GivesVersion, IsReadAt}
use Rattle.grain_log.specs.Places.{IsVersionOf, IsVersionAt}
use Rattle.field_codec.proofs.Lengths.{version_short}

-- a version within the limits of the format, with so many fields
abbrev pub FitsWith : Format → ℕ → Version → Type 0
FitsWith format fields v = VersionFits format v × (length v.state ≡ fields)

pub version_reads : (format : Format) (fields low : ℕ) → Reads low Any spelling_of_version (FitsWith format fields) (version_in format fields)
unfolding version_in
version_reads format fields low =
    said low Any Any _ spelling_of_version (λ v. (v.unit.0 < 2 ^ 64) × (ValuesFitExactly format (field_limit format) fields v.state × Unit {0})) (FitsWith format fields) (version_in format fields) (λ v p. tt) (λ v p. tt) (λ v p. simp append-nil)
    (λ v p fits. (record { unit = fits.0; state = (fits.1.0.0, fits.1.0.1.0) }, fits.1.0.1.1)) (λ v p fits. (fits.0.unit, ((fits.0.state.0, (fits.0.state.1, fits.1)), tt)))
    (then (λ (v : Version). v.unit.0) (to_le_bytes w64) (λ n. n < 2 ^ 64) (number_at w64) low Any _ _ _ (reads64 low) λ u from0.
    then (λ (v : Version). v.state) spelling_of_values (ValuesFitExactly format (field_limit format) fields) (exactly_at format (field_limit format) fields) from0 _ _ _ _ (exactly_reads format (field_limit format) fields (field_limit_small format) from0) λ s from1.
    done from1 _ (record { unit = record { 0 = u }; state = s }) ((tt, refl), refl) (λ d known i. record { unit = record { 0 = known.0.1 i }; state = known.1 i }))

pub within_text : (format : Format) (fields : ℕ) (text : List ℕ) → AreBytes text → (result : Result Version CodecFault) → GivesRead result (version_of format fields text) → IfErr result (λ fault. place_of fault ≤ length text)
within_text format fields text are result gives = whole_within spelling_of_version (FitsWith format fields) (version_in format fields) (version_reads format fields 0) text are result gives

-- what was read of a whole text has its length
pub shaped_text : (format : Format) (fields : ℕ) (text : List ℕ) → AreBytes text → (result : Result Version CodecFault) → GivesRead result (version_of format fields text) → IfOk result (λ v. IsVersionOf format fields (length text) v)
shaped_text format fields text are (Ok v) gives =
    let is = whole_takes spelling_of_version (FitsWith format fields) (version_in format fields) (version_reads format fields 0) text are v gives in
    record { fits = is.0.0; count = is.0.1; len = ap length (sym is.1) }
shaped_text format fields text are (Err fault) gives = tt

-- a fault, counted in the file
pub damage_gives : (offset : ℕ) (fault : CodecFault) (read : Result Version CodecFault) → Faults fault read → GivesVersion (Err (damage_at offset (named_place fault))) (in_file offset read)
damage_gives offset codec.Memory read fails = tt
damage_gives offset (codec.Short p) read fails = ap (in_file offset) fails
damage_gives offset (codec.BadTag p b) read fails = ap (in_file offset) fails
damage_gives offset (codec.NotUtf8 p) read fails = ap (in_file offset) fails
damage_gives offset (codec.Over p l) read fails = ap (in_file offset) fails
damage_gives offset (codec.BadOrder p) read fails = ap (in_file offset) fails
damage_gives offset (codec.Unknown p) read fails = ap (in_file offset) fails
damage_gives offset (codec.Trailing p) read fails = ap (in_file offset) fails

-- ---- what stands at a place

abbrev cut : Place → List ℕ → List ℕ
cut place file = take place.len (drop place.offset file)

uncounted : (offset : ℕ) (read : Result Version CodecFault) (v : Version) → in_file offset read ≡ Ok v → read ≡ Ok v
uncounted offset (Ok w) v e = let same : w ≡ v = cc in ap (λ (x : Version). Ok x) same
uncounted offset (Err fault) v e = absurd cc

found_at : (format : Format) (o : Option ℕ) (place : Place) (file : List ℕ) (v : Version) → AreBytes (cut place file) → version_at_place format o place file ≡ Ok v
    → (fields : ℕ) × (o ≡ Some fields) × IsVersionAt format fields place file v
found_at format None place file v are gives = absurd cc
found_at format (Some fields) place file v are gives =
    let one = past (is_beyond format place) place.offset (text_in format fields place file) v gives in
    let two = past (ltb (length file - place.offset) place.len) place.offset (in_file place.offset (version_of format fields (cut place file))) v one.1 in
    let read : version_of format fields (cut place file) ≡ Ok v = uncounted place.offset (version_of format fields (cut place file)) v two.1 in
    let is = whole_takes spelling_of_version (FitsWith format fields) (version_in format fields) (version_reads format fields 0) (cut place file) are v read in
    let long : place.len ≤ length file - place.offset = ltb-false _ _ two.0 in
    let size : length (cut place file) ≡ length (spelling_of_version v) = ap length is.1 in
    (fields, refl, record { version_is = record { fits = is.0.0; count = is.0.1; len = omega (arith, size, long, length-take place.len (drop place.offset file), length-drop place.offset file) }; here = is.1 })

pub found_when : (T : Type 0) (format : Format) (o : Option ℕ) (place : Place) (file : List ℕ) (result : Result Version VersionFault) → (T → GivesVersion result (version_at_place format o place file)) → IfOk result (λ v. T → AreBytes (cut place file))
    → IfOk result (λ v. T → (fields : ℕ) × (o ≡ Some fields) × IsVersionAt format fields place file v)
found_when T format o place file (Ok v) gives are = λ told. found_at format o place file v (are told) (gives told)
found_when T format o place file (Err fault) gives are = tt

pub only_at : (format : Format) (o : Option ℕ) (place : Place) (file : List ℕ) (result : Result Version VersionFault) → GivesVersion result (version_at_place format o place file)
    → (fields : ℕ) (v : Version) → o ≡ Some fields → place.offset < 2 ^ 63 → IsVersionAt format fields place file v → GivesVersion result (Ok v)
only_at format o place file result gives fields v some low is =
    let text = cut place file in
    let short : place.len ≤ version_limit format = (let most = version_short format v is.version_is.fits in omega (arith, most, is.version_is.len)) in
    let near : ltb 9223372036854775807 place.offset ≡ false = le-ltb _ _ (omega (arith, low)) in
    let small : ltb (version_limit format) place.len ≡ false = le-ltb _ _ short in
    let size : length text ≡ length (spelling_of_version v) = ap length is.here in
    let within : ltb (length file - place.offset) place.len ≡ false = le-ltb _ _ (omega (arith, size, is.version_is.len, length-take place.len (drop place.offset file), length-drop place.offset file)) in
    let read : version_of format fields text ≡ Ok v = whole_again spelling_of_version (FitsWith format fields) (version_in format fields) (version_reads format fields 0) text v (is.version_is.fits, is.version_is.count) is.here in
    let there : version_at_place format o place file ≡ Ok v = rw (some, near, small, within, read) refl in
    subst (λ (r : Result Version ℕ). GivesVersion result r) there gives

-- what is answered of a place, where what was read of it are bytes
pub read_at : (T : Type 0) (format : Format) (o : Option ℕ) (place : Place) (file : List ℕ) (result : Result Version VersionFault) → T → (T → GivesVersion result (version_at_place format o place file)) → IfOk result (λ v. T → AreBytes (cut place file))
    → IsReadAt format o place file result
read_at T format o place file (Ok v) told gives are = record {
  found = found_when T format o place file (Ok v) gives are told;
  only = only_at format o place file (Ok v) (gives told);
  exact = gives told;
}
read_at T format o place file (Err fault) told gives are = record {
  found = tt;
  only = only_at format o place file (Err fault) (gives told);
  exact = gives told;
}
