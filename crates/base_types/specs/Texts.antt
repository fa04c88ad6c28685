-- What a text may hold.
use Rattle.std.specs.Prelude.{ℕ, List, length, nat_le, if◌then◌else◌, Option, Some, None}

-- the text, where it has at most 4,096 bytes
abbrev pub short_text : List ℕ → Option (List ℕ)
short_text text = if nat_le (length text) 4096 then Some text else None
