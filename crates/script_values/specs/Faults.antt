-- The texts of faults that the language itself gives.
use Rattle.std.specs.Prelude.{ℕ, List, codes}
use Rattle.script_tree.specs.declared.options.EntryRefusal.{EntryRefusal}
use Rattle.script_tree.specs.declared.options.EntryRefusal.TheVariants.{NoTransaction, NotAllowed}

-- a number that doesn't fit 64 bits
abbrev pub overflow : List ℕ
overflow = codes "overflow"

-- a zero divisor
abbrev pub divide : List ℕ
divide = codes "divide"

-- an operand, a condition or a place of the wrong kind
abbrev pub kind : List ℕ
kind = codes "kind"

-- a place that is no key
abbrev pub key : List ℕ
key = codes "key"

-- a joined text of more than 4,096 bytes
abbrev pub too_long : List ℕ
too_long = codes "length"

-- a step past the last one of a unit
abbrev pub budget : List ℕ
budget = codes "budget"

-- a frame below the deepest
abbrev pub depth : List ℕ
depth = codes "depth"

-- a unit of its own past the last one that a unit may ask for
abbrev pub units : List ℕ
units = codes "units"

-- a grain past the last one that a unit may hold
abbrev pub grains : List ℕ
grains = codes "grains"

-- an option that refuses a call
abbrev pub option_refusal_text : EntryRefusal → List ℕ
option_refusal_text NoTransaction = codes "no transaction"
option_refusal_text NotAllowed = codes "not allowed"

-- a child that was aborted
abbrev pub aborted : List ℕ
aborted = codes "aborted"

-- a name that stands for nothing, which no checked program has
abbrev pub unknown : List ℕ
unknown = codes "unknown"
