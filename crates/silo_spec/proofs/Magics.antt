-- A magic names one format, and what is a silo's by one name is so by each wider one.
use Rattle.std.proofs.Common.{◌≡◌, ◌⊎◌, inl, inr, ℕ, Bool, true, false, ◌||◌, List, take, drop, slice_index, bytes_eq, refl, sym, ap, ◌∙◌, arith}
use Rattle.std.proofs.lemmas.Slice.Eq.{bytes_eq-Decides}
use Rattle.std.proofs.lemmas.Bool.{false≢true}
use Rattle.field_codec.specs.declared.formats.Format.{Format}
use Rattle.field_codec.specs.declared.formats.Format.TheVariants.{One, Two}
use Rattle.field_codec.specs.Formats.{magic_of}
use Rattle.silo_spec.specs.Silos.{IsFormat, IsMagic, is_magic, IsSilo}

-- ---- one format

-- the last byte of a magic tells its format
magics_differ : magic_of One ≡ magic_of Two → ⊥
magics_differ same =
    let last : 49 ≡ 50 = ap (λ (bytes : List ℕ). slice_index bytes 7) same in
    absurd (omega (arith, last))

pub one_format : (f g : Format) → magic_of f ≡ magic_of g → f ≡ g
one_format One One same = refl
one_format One Two same = absurd (magics_differ same)
one_format Two One same = absurd (magics_differ (sym same))
one_format Two Two same = refl

-- the same bytes name no two formats
pub format_is_one : (f g : Format) (bytes : List ℕ) → IsFormat f bytes → IsFormat g bytes → f ≡ g
format_is_one f g bytes one other = one_format f g (sym one ∙ other)

-- a manager file has one format
pub silo_format : (f g : Format) (file : List ℕ) → IsSilo (IsFormat f) file → IsSilo (IsFormat g) file → f ≡ g
silo_format f g file one other = format_is_one f g (take 8 (drop 1 file)) one.named other.named

-- ---- wider names

pub silo_as : (P Q : List ℕ → Type 0) (file : List ℕ) → ((bytes : List ℕ) → P bytes → Q bytes) → IsSilo P file → IsSilo Q file
silo_as P Q file wider silo = record { long = silo.long; gate = silo.gate; named = wider (take 8 (drop 1 file)) silo.named }

-- a silo of a format is one of either
pub silo_of_format : (f : Format) (file : List ℕ) → IsSilo (IsFormat f) file → IsSilo IsMagic file
silo_of_format f file = silo_as (IsFormat f) IsMagic file (λ bytes named. (f, named))

-- a silo of either is one of its format
pub format_of_silo : (file : List ℕ) (silo : IsSilo IsMagic file) → IsSilo (IsFormat silo.named.0) file
format_of_silo file silo = record { long = silo.long; gate = silo.gate; named = silo.named.1 }

-- ---- the test

or_true : (a b : Bool) → (a || b) ≡ true → (a ≡ true) ⊎ (b ≡ true)
or_true true b e = inl refl
or_true false b e = inr e

or_first : (a b : Bool) → a ≡ true → (a || b) ≡ true
or_first true b e = refl
or_first false b e = absurd (false≢true e)

or_second : (a b : Bool) → b ≡ true → (a || b) ≡ true
or_second true b e = refl
or_second false b e = e

-- the test is passed by names of a format alone
pub magic_named : (bytes : List ℕ) → is_magic bytes ≡ true → IsMagic bytes
magic_named bytes e = by (or_true (bytes_eq bytes (magic_of One)) (bytes_eq bytes (magic_of Two)) e)
  where
    by : (bytes_eq bytes (magic_of One) ≡ true) ⊎ (bytes_eq bytes (magic_of Two) ≡ true) → IsMagic bytes
    by (inl one) = (One, (bytes_eq-Decides bytes (magic_of One)).0 one)
    by (inr two) = (Two, (bytes_eq-Decides bytes (magic_of Two)).0 two)

-- and by each
pub named_magic : (bytes : List ℕ) → IsMagic bytes → is_magic bytes ≡ true
named_magic bytes is = by is.0 is.1
  where
    by : (f : Format) → bytes ≡ magic_of f → is_magic bytes ≡ true
    by One one = or_first (bytes_eq bytes (magic_of One)) (bytes_eq bytes (magic_of Two)) ((bytes_eq-Decides bytes (magic_of One)).1 one)
    by Two two = or_second (bytes_eq bytes (magic_of One)) (bytes_eq bytes (magic_of Two)) ((bytes_eq-Decides bytes (magic_of Two)).1 two)
