-- Which numbers units and their parents have.
use Rattle.std.specs.Prelude.{◌≡◌, ◌<◌, ◌≤◌, ◌^◌, ℕ, Bool, true, nat_lt, ◌&&◌}
use Rattle.base_types.specs.declared.calls.Origin.{Origin}
use Rattle.base_types.specs.declared.calls.Origin.TheVariants.{Line, Child}
use Rattle.field_codec.specs.declared.formats.Format.{Format}
use Rattle.field_codec.specs.declared.formats.Format.TheVariants.{One, Two}
use Rattle.field_codec.specs.declared.units.Numbers.{Numbers}
use Rattle.field_codec.specs.declared.units.Numbers.TheVariants.{Free, Logged}

-- a unit's number in a log is above 0 and below 2 to the 63
abbrev pub may_be_unit : Numbers → ℕ → Bool
may_be_unit Free n = true
may_be_unit Logged n = nat_lt 0 n && nat_lt n 9223372036854775808

-- a parent's number in a log is below 2 to the 63
abbrev pub may_be_parent : Numbers → ℕ → Bool
may_be_parent Free n = true
may_be_parent Logged n = nat_lt n 9223372036854775808

-- a session behind this one, with a number that is taken; each block of format 1 counts as one of session 1
abbrev pub SessionFits : Format → Numbers → ℕ → ℕ → Type 0
SessionFits One numbers last session = session ≡ 1
SessionFits Two numbers last session = (session < 2 ^ 64) × ((last ≤ session) × (may_be_parent numbers session ≡ true))

-- where there is a parent, its number is one that is taken
abbrev pub HasParent : Numbers → Origin → Type 0
HasParent numbers (Line line) = Unit {0}
HasParent numbers (Child parent index depth) = may_be_parent numbers parent.0 ≡ true
