-- The lines of an input, and what they ask of a program.
use Rattle.std.specs.Prelude.{◌≡◌, ℕ, ◌+◌, List, Some, Ok, Err, Result, slice_get}
use Rattle.base_types.specs.declared.calls.Call.{Call}
use Rattle.base_types.specs.declared.entries.BadRequest.{BadRequest}
use Rattle.request_wire.specs.Names.{names_in}
use Rattle.request_wire.specs.Request.{call_of}
use Rattle.script_tree.specs.Programs.{ProgramTree}

-- there is a line of this number, counted from 1, and it reads so
pub record ReadsLineAs (types : ProgramTree) (lines : List (List ℕ)) (n : ℕ) (request : Result Call BadRequest) : Type 0 where
  pub index : ℕ
  pub text : List ℕ
  pub number : n ≡ index + 1
  pub there : slice_get lines index ≡ Some text
  pub reads : call_of (names_in types) text ≡ request

-- line n asks for this call
abbrev pub IsLineCall : ProgramTree → List (List ℕ) → ℕ → Call → Type 0
IsLineCall types lines n call = ReadsLineAs types lines n (Ok call)

-- line n is bad, since it fails this test
abbrev pub IsBadLine : ProgramTree → List (List ℕ) → ℕ → BadRequest → Type 0
IsBadLine types lines n why = ReadsLineAs types lines n (Err why)
