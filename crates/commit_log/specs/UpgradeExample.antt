-- An upgrade to a program of one type.
use Rattle.std.specs.Prelude.{ℕ, List, [], ◌∷◌, codes}

-- one type, without fields or methods
abbrev pub small_text : List ℕ
small_text = codes "type a { }"

-- its block in session 2: the body's length, the session, the mark, the text's length, the text, the next gate
abbrev pub small_block : List ℕ
small_block =
    26 ∷ 0 ∷ 0 ∷ 0 ∷ 2 ∷ 0 ∷ 0 ∷ 0 ∷ 0 ∷ 0 ∷ 0 ∷ 0
    ∷ 255 ∷ 255 ∷ 255 ∷ 255
    ∷ 10 ∷ 0 ∷ 0 ∷ 0
    ∷ 116 ∷ 121 ∷ 112 ∷ 101 ∷ 32 ∷ 97 ∷ 32 ∷ 123 ∷ 32 ∷ 125
    ∷ 0 ∷ []
