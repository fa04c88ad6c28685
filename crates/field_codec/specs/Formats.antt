-- The name and the limits of each format of a folder. Spellings have none: a value has one spelling, whatever the format.
use Rattle.std.specs.Prelude.{ℕ, List, codes}
use Rattle.field_codec.specs.declared.formats.Format.{Format}
use Rattle.field_codec.specs.declared.formats.Format.TheVariants.{One, Two}

-- the eight bytes behind the header gate of a manager file, which name the format
abbrev pub magic_of : Format → List ℕ
magic_of One = codes "OTXLOG01"
magic_of Two = codes "OTXLOG02"

-- the most bytes of a text
abbrev pub text_limit : Format → ℕ
text_limit One = 256
text_limit Two = 4096

-- the most values of a state
abbrev pub field_limit : Format → ℕ
field_limit One = 16
field_limit Two = 64

-- the most bytes of a version: its unit's eight, its count's two, and as many texts as a state has values, each as long as a
-- text may be, behind its tag and its length
abbrev pub version_limit : Format → ℕ
version_limit One = 4154
version_limit Two = 262346
