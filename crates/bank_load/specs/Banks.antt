-- What the bank program of a load names.
use Rattle.std.specs.Prelude.{List, [], ◌∷◌, codes}
use Rattle.request_wire.specs.Names.{TypeNames}

-- its types in their order, each with its methods and their numbers of parameters
abbrev pub bank_names : List TypeNames
bank_names =
    record {
      name = codes "account";
      methods = (codes "deposit", 1) ∷ (codes "withdraw", 1) ∷ (codes "read", 0) ∷ [];
    }
    ∷ record { name = codes "atm"; methods = (codes "transfer", 3) ∷ [] }
    ∷ record {
      name = codes "probe";
      methods = (codes "spin", 1) ∷ (codes "needs", 0) ∷ (codes "lone", 0) ∷ (codes "calls_lone", 0) ∷ (codes "inner", 0)
          ∷ (codes "outer", 0) ∷ (codes "aside", 2) ∷ (codes "split", 2) ∷ [];
    } ∷ []
