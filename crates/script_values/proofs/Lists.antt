-- The values of a list of expressions, one after the other.
use Rattle.std.proofs.Common.{◌≡◌, ℕ, List, [], ◌∷◌, ◌++◌, refl, ap, append_assoc}
use Rattle.std.specs.Prelude.{Result, Ok, Err}
use Rattle.base_types.specs.declared.calls.Value.{Value}
use Rattle.script_values.specs.Expressions.{one_more}

-- these values, and then what the rest gives
abbrev pub behind : List Value → Result (List Value) (List ℕ) → Result (List Value) (List ℕ)
behind values (Err fault) = Err fault
behind values (Ok rest) = Ok (values ++ rest)

-- one value more in front of the rest is one more behind those that are there
pub one_more_behind : (values : List Value) (value : Value) (rest : Result (List Value) (List ℕ)) → behind values (one_more (Ok value) rest) ≡ behind (values ++ value ∷ []) rest
one_more_behind values value (Err fault) = refl
one_more_behind values value (Ok rest) = ap (λ l. let r : Result (List Value) (List ℕ) = Ok l in r) (simp append_assoc)
