-- Loops that do the same so many times, and what a check begins with.
use Rattle.std.proofs.Common.{◌≡◌, ℕ, zero, suc, ◌+◌, ◌-◌, ◌*◌, ◌<◌, ◌≤◌, List, [], ◌∷◌, ◌++◌, Bool, true, false, refl, sym, ap, ◌∙◌, subst, arith, append_assoc, append-nil, Some}
use Rattle.std.specs.Prelude.{if◌then◌else◌, ℤ, pos}
use Rattle.silo_nodes.specs.Packets.{same_grain}
use Rattle.silo_nodes.specs.Node.{is_balance}
use Rattle.silo_nodes.specs.LogCache.{opening_in}
use Rattle.two_silos.specs.Nodes.{GrainId}
use Rattle.two_silos.specs.World.{IsOpening}
use Rattle.two_silos.specs.GeneratedEvents.{times, account, accounts, bank}

-- one more is done
pub times_on : {A : Type 0} (f : A → A) (n i : ℕ) (x y all : A) → i < n → y ≡ f x → times (n - i) f x ≡ all → times (n - (i + 1)) f y ≡ all
times_on f n i x y all h e so_far =
    let one : n - i ≡ suc (n - (i + 1)) = omega (arith, h) in
    ap (times (n - (i + 1)) f) e ∙ ap (λ k. times k f x) (sym one) ∙ so_far

-- none is left
pub times_all : {A : Type 0} (f : A → A) (n i : ℕ) (x all : A) → n ≤ i → times (n - i) f x ≡ all → x ≡ all
times_all f n i x all h so_far =
    let none : n - i ≡ 0 = omega (arith, h) in
    ap (λ k. times k f x) (sym none) ∙ so_far

-- one more account
pub accounts_on : (k n i : ℕ) (now next all : List (GrainId × ℤ)) → i < n → next ≡ now ++ (account (k + 2 * i), pos 1000) ∷ [] →
    now ++ accounts (k + 2 * i) (n - i) ≡ all → next ++ accounts (k + 2 * (i + 1)) (n - (i + 1)) ≡ all
accounts_on k n i now next all h here so_far =
    let one : n - i ≡ suc (n - (i + 1)) = omega (arith, h) in
    let key : k + 2 * (i + 1) ≡ (k + 2 * i) + 2 = omega arith in
    ap (λ l. l ++ accounts (k + 2 * (i + 1)) (n - (i + 1))) here
    ∙ append_assoc now ((account (k + 2 * i), pos 1000) ∷ []) (accounts (k + 2 * (i + 1)) (n - (i + 1)))
    ∙ ap (λ m. now ++ (account (k + 2 * i), pos 1000) ∷ accounts m (n - (i + 1))) key
    ∙ ap (λ m. now ++ accounts (k + 2 * i) m) (sym one) ∙ so_far

-- all accounts are there
pub accounts_all : (k n i : ℕ) (now all : List (GrainId × ℤ)) → n ≤ i → now ++ accounts (k + 2 * i) (n - i) ≡ all → now ≡ all
accounts_all k n i now all h so_far =
    let none : n - i ≡ 0 = omega (arith, h) in
    sym (append-nil now) ∙ ap (λ m. now ++ accounts (k + 2 * i) m) (sym none) ∙ so_far

accounts-opening : (k n : ℕ) (g : GrainId) (b : ℤ) → opening_in (accounts k n) g ≡ Some b → is_balance b ≡ true
accounts-opening k zero g b e = cc
accounts-opening k (suc n) g b e = go (same_grain (account k) g) e (λ more. accounts-opening (k + 2) n g b more)
  where
    go : (c : Bool) → (if c then Some (pos 1000) else opening_in (accounts (k + 2) n) g) ≡ Some b → (opening_in (accounts (k + 2) n) g ≡ Some b → is_balance b ≡ true) → is_balance b ≡ true
    go true e rest = (let is : pos 1000 ≡ b = cc in subst (λ (x : ℤ). is_balance x ≡ true) is refl)
    go false e rest = rest e

-- the balances that a check opens with may be
pub bank-opening : IsOpening bank
bank-opening zero g b e = accounts-opening 0 32 g b e
bank-opening (suc zero) g b e = accounts-opening 1 32 g b e
bank-opening (suc (suc n)) g b e = cc
