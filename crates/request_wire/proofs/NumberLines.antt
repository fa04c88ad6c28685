-- The line of a number's reply is its words and decimals, one behind the other.
use Rattle.std.proofs.Common.{◌≡◌, ℕ, ℤ, pos, negsuc, List, [], ◌∷◌, ◌++◌, refl, append_assoc, codes, decimal}
use Rattle.std.specs.Fmt.{signed_decimal}
use Rattle.json.specs.Print.{escape_byte}
use Rattle.base_types.specs.declared.calls.Value.TheVariants.{Int}
use Rattle.serde_json.specs.Written.{compact_text}
use Rattle.request_wire.specs.Reply.{carried_data}

-- what is put behind words and pieces in turn is put behind the last word
end_behind : (a b c d x y z end : List ℕ) → (a ++ (x ++ (b ++ (y ++ (c ++ (z ++ d)))))) ++ end ≡ a ++ (x ++ (b ++ (y ++ (c ++ (z ++ (d ++ end))))))
end_behind a b c d x y z end =
    rw (
      append_assoc a (x ++ (b ++ (y ++ (c ++ (z ++ d))))) end,
      append_assoc x (b ++ (y ++ (c ++ (z ++ d)))) end,
      append_assoc b (y ++ (c ++ (z ++ d))) end,
      append_assoc y (c ++ (z ++ d)) end,
      append_assoc c (z ++ d) end,
      append_assoc z d end,
    ) refl

-- a unit's line whose value is a number
pub number_line : (n unit : ℕ) (z : ℤ) → compact_text (carried_data n unit (Int z)) ++ (10 ∷ []) ≡ codes "{\"n\":" ++ (decimal n ++ (codes ",\"reply\":" ++ (signed_decimal z ++ (codes ",\"unit\":" ++ (decimal unit ++ codes "}\n")))))
unfolding escape_byte
number_line n unit (pos k) = end_behind (codes "{\"n\":") (codes ",\"reply\":") (codes ",\"unit\":") (codes "}") (decimal n) (decimal k) (decimal unit) (10 ∷ [])
number_line n unit (negsuc k) = end_behind (codes "{\"n\":") (codes ",\"reply\":") (codes ",\"unit\":") (codes "}") (decimal n) (signed_decimal (negsuc k)) (decimal unit) (10 ∷ [])

pub ruleset number_lines = (number_line)
