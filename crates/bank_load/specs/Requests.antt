-- The lines of a load, and the texts that they are read from.
use Rattle.std.specs.Prelude.{ℕ, ◌+◌, ◌==◌, if◌then◌else◌, List, [], ◌∷◌, ◌++◌, map, codes, decimal, Ok}
use Rattle.base_types.specs.declared.calls.Call.{Call}
use Rattle.base_types.specs.declared.calls.GrainId.{GrainId}
use Rattle.request_wire.specs.declared.requests.Line.{Line}
use Rattle.serde_json.specs.Data.{Data, string, array, object, member, no_members}
use Rattle.serde_json.specs.Written.{compact_text}
use Rattle.promise_spec.specs.Loads.{load_calls}
use Rattle.promise_spec.specs.Reports.{items_of}

-- the lines that ask for these calls, numbered one after another from the one behind this number on
abbrev pub numbered_from : ℕ → List Call → List Line
numbered_from n [] = []
numbered_from n (c ∷ calls) = record { number = n + 1; what = Ok c } ∷ numbered_from (n + 1) calls

-- what a call of a load names: the deposit of an account, or the transfer of the grain that moves money
abbrev pub name_called : GrainId → List ℕ
name_called g = if g.kind == 0 then codes "account/" ++ (decimal g.key ++ codes ".deposit") else codes "atm/0.transfer"

-- a request as JSON
abbrev pub request_data : Call → Data
request_data c = object (member (codes "args") (array (items_of c.args)) (member (codes "call") (string (name_called c.grain)) no_members))

-- the texts of a load: compact JSON
abbrev pub load_texts : ℕ → ℕ → List (List ℕ)
load_texts n seed = map (λ c. compact_text (request_data c)) (load_calls n seed)
