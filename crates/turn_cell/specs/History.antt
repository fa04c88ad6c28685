-- One history of an object: when it is legal, the state that it leaves, and the entries of one pass.
use Rattle.std.specs.Prelude.{◌≡◌, ℕ, List, [], ◌∷◌, ◌++◌, Bool, true, false, cond, ◌==◌}
use Rattle.turn_cell.specs.declared.view.Entry.{Entry}

-- two passes have the same number
abbrev pub same_number : List ℕ → List ℕ → Bool
same_number [] [] = true
same_number [] (y ∷ ys) = false
same_number (x ∷ xs) [] = false
same_number (x ∷ xs) (y ∷ ys) = cond (x == y) (same_number xs ys) false

module _ {E R : Type 0} where
  -- the entry of a pass with this number
  abbrev pub entry : List ℕ → E → R → Entry E R
  entry by event reply = record { by = by; event = event; reply = reply }

  -- the entries of the pass with this number, in order
  abbrev pub entries_of : List ℕ → List (Entry E R) → List (Entry E R)
  entries_of number [] = []
  entries_of number (e ∷ es) = cond (same_number number e.by) (e ∷ entries_of number es) (entries_of number es)

  -- the history begins with what was seen of it
  abbrev pub StartsWith : List (Entry E R) → List (Entry E R) → Type 0
  StartsWith log seen = (rest : List (Entry E R)) × (log ≡ seen ++ rest)

module _ {S E R : Type 0} (after : S → E → S) (reply : S → E → R) where
  -- the state that a history leaves
  abbrev pub leaves : S → List (Entry E R) → S
  leaves s [] = s
  leaves s (e ∷ es) = leaves (after s e.event) es

  -- each reply is that of the state which the entries before it leave
  abbrev pub IsLegal : S → List (Entry E R) → Type 0
  IsLegal s [] = Unit {0}
  IsLegal s (e ∷ es) = (e.reply ≡ reply s e.event) × IsLegal (after s e.event) es
