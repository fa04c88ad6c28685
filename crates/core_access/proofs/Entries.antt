-- The entries of one number in a history.
use Rattle.std.proofs.Common.{◌≡◌, ℕ, List, [], ◌∷◌, ◌++◌, length, Bool, true, false, refl, ap, subst, arith, length-append}
use Rattle.std.specs.Prelude.{cond}
use Rattle.base_types.specs.Lists.{Member}
use Rattle.core_model.specs.declared.events.CoreEvent.{CoreEvent}
use Rattle.core_model.specs.declared.events.CoreReply.{CoreReply}
use Rattle.core_model.specs.LegalRuns.{Run}
use Rattle.core_model.specs.Laws.{extended}
use Rattle.turn_cell.specs.History.{entries_of, same_number, entry}
use Rattle.turn_cell.proofs.Names.{same_is}
use Rattle.turn_cell.proofs.Histories.{in_entries}
use Rattle.core_access.specs.Histories.{Told, run_after}

-- the entries of a number in two parts
pub entries-append : (n : List ℕ) (xs ys : List Told) → entries_of n (xs ++ ys) ≡ entries_of n xs ++ entries_of n ys
entries-append n [] ys = refl
entries-append n (x ∷ xs) ys = by (same_number n x.by) (entries-append n xs ys)
  where
    by : (s : Bool) → entries_of n (xs ++ ys) ≡ entries_of n xs ++ entries_of n ys → cond s (x ∷ entries_of n (xs ++ ys)) (entries_of n (xs ++ ys)) ≡ cond s (x ∷ entries_of n xs) (entries_of n xs) ++ entries_of n ys
    by true ih = λ j. x ∷ ih j
    by false ih = ih

-- an entry of this number alone
pub entries-single : (n : List ℕ) (e : CoreEvent) (r : CoreReply) → entries_of n (entry n e r ∷ []) ≡ entry n e r ∷ []
entries-single n e r = ap (λ (b : Bool). cond b (entry n e r ∷ []) []) (same_is n n refl)

-- a list of none is empty
pub nothing : (x : List Told) → length x ≡ 0 → x ≡ []
nothing [] e = refl
nothing (y ∷ ys) e = absurd (omega (arith, e))

-- an entry of the number isn't nothing
pub not-nothing : (n : List ℕ) (xs : List Told) (e : Told) → Member e xs → n ≡ e.by → entries_of n xs ≡ [] → ⊥
not-nothing n xs e i is none = subst (Member e) none (in_entries xs n e is i)

-- the first of a list
abbrev pub front-of : Told → List Told → Told
front-of d [] = d
front-of d (x ∷ xs) = x

-- and those behind it
abbrev pub rest-of : List Told → List Told
rest-of [] = []
rest-of (x ∷ xs) = xs

-- two lists that end with one entry are one before it
pub ends-same : (xs ys : List Told) (x : Told) → xs ++ (x ∷ []) ≡ ys ++ (x ∷ []) → xs ≡ ys
ends-same [] [] x q = refl
ends-same [] (y ∷ ys) x q = let l = ap (length {A = Told}) q in absurd (omega (arith, l, length-append ys (x ∷ [])))
ends-same (z ∷ xs) [] x q = let l = ap (length {A = Told}) q in absurd (omega (arith, l, length-append xs (x ∷ [])))
ends-same (z ∷ xs) (y ∷ ys) x q = let same : z ≡ y = ap (front-of x) q in let rest = ends-same xs ys x (ap rest-of q) in λ j. same j ∷ rest j

-- the run after a history in two parts
pub run-on : (seen rest : List Told) (r : Run) → run_after r (seen ++ rest) ≡ run_after (run_after r seen) rest
run-on [] rest r = refl
run-on (x ∷ seen) rest r = run-on seen rest (extended r (x.event ∷ []))
