-- The balances that the tests open with may be.
use Rattle.std.proofs.Common.{◌≡◌, ℕ, zero, suc, List, [], ◌∷◌, ◌++◌, Bool, true, false, refl, subst, get_or, Some}
use Rattle.std.specs.Prelude.{if◌then◌else◌, ℤ, pos}
use Rattle.silo_nodes.specs.Packets.{same_grain}
use Rattle.silo_nodes.specs.Node.{is_balance}
use Rattle.silo_nodes.specs.LogCache.{opening_in}
use Rattle.two_silos.specs.Nodes.{GrainId}
use Rattle.two_silos.specs.World.{IsOpening}
use Rattle.two_silos_tests.specs.Openings.{three}

first-opening : (k g : GrainId) (rest : List (GrainId × ℤ)) (b : ℤ) → (opening_in rest g ≡ Some b → is_balance b ≡ true) → opening_in ((k, pos 10) ∷ rest) g ≡ Some b → is_balance b ≡ true
first-opening k g rest b more e = go (same_grain k g) e
  where
    go : (c : Bool) → (if c then Some (pos 10) else opening_in rest g) ≡ Some b → is_balance b ≡ true
    go true e = (let is : pos 10 ≡ b = cc in subst (λ (x : ℤ). is_balance x ≡ true) is refl)
    go false e = more e

abbrev last-one : List (GrainId × ℤ)
last-one = (record { kind = 0; key = 2 }, pos 10) ∷ []

abbrev last-two : List (GrainId × ℤ)
last-two = (record { kind = 0; key = 1 }, pos 10) ∷ last-one

pub three-opening : (g : GrainId) (b : ℤ) → opening_in three g ≡ Some b → is_balance b ≡ true
three-opening g b e =
    first-opening (record { kind = 0; key = 0 }) g last-two b
    (first-opening (record { kind = 0; key = 1 }) g last-one b (first-opening (record { kind = 0; key = 2 }) g [] b (λ none. cc))) e

pub none-opening : (n : ℕ) (g : GrainId) (b : ℤ) → opening_in (get_or [] n []) g ≡ Some b → is_balance b ≡ true
none-opening n g b e = cc

-- one more participant
pub opening_on : (os : List (List (GrainId × ℤ))) → IsOpening os → IsOpening (os ++ three ∷ [])
opening_on [] h zero g b e = three-opening g b e
opening_on [] h (suc n) g b e = none-opening n g b e
opening_on (o ∷ os) h zero g b e = h 0 g b e
opening_on (o ∷ os) h (suc n) g b e = opening_on os (λ m. h (suc m)) n g b e
