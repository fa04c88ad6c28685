-- The balances that the tests open with.
use Rattle.std.specs.Prelude.{List, [], ◌∷◌, ℤ, pos}
use Rattle.two_silos.specs.Nodes.{GrainId}

-- the accounts 0 to 2 of 10
abbrev pub three : List (GrainId × ℤ)
three = (record { kind = 0; key = 0 }, pos 10) ∷ (record { kind = 0; key = 1 }, pos 10) ∷ (record { kind = 0; key = 2 }, pos 10) ∷ []
