-- Numbers as texts.
use Rattle.std.specs.Prelude.{◌≡◌, ⊤, ℕ, ◌<◌, ◌^◌, List, [], ◌∷◌}
use Rattle.std.specs.Fmt.{decimal}

-- the texts are those of these numbers below 2 to the 32, one after another
abbrev pub AreNumbers : List (List ℕ) → List ℕ → Type 0
AreNumbers [] [] = ⊤
AreNumbers [] (n ∷ numbers) = ⊥
AreNumbers (text ∷ texts) [] = ⊥
AreNumbers (text ∷ texts) (n ∷ numbers) = ((text ≡ decimal n) × (n < 2 ^ 32)) × AreNumbers texts numbers
