-- Calls of small programs, and what they give: examples of the meaning, worked out by hand.
use Rattle.std.specs.Prelude.{◌≡◌, ℕ, ◌*◌, List, [], ◌∷◌, pos, negsuc, codes, replicate, None}
use Rattle.base_types.specs.declared.calls.Call.{Call}
use Rattle.base_types.specs.declared.calls.GrainId.{GrainId}
use Rattle.base_types.specs.declared.calls.Mode.{Mode}
use Rattle.base_types.specs.declared.calls.Mode.TheVariants.{Read, Update}
use Rattle.base_types.specs.declared.calls.Outcome.{Outcome}
use Rattle.base_types.specs.declared.calls.Outcome.TheVariants.{Value as Valued, Fault, Aborted}
use Rattle.base_types.specs.declared.calls.Value.{Value}
use Rattle.base_types.specs.declared.calls.Value.TheVariants.{Int, Text}
use Rattle.script_tree.specs.declared.expressions.BinaryOp.TheVariants.{Add, Sub, Lt}
use Rattle.script_tree.specs.declared.expressions.Literal.TheVariants as literal
use Rattle.script_tree.specs.declared.expressions.Name.{Name}
use Rattle.script_tree.specs.declared.options.MethodKind.{MethodKind}
use Rattle.script_tree.specs.declared.options.MethodKind.TheVariants as method
use Rattle.script_tree.specs.declared.options.TxnOption.{TxnOption}
use Rattle.script_tree.specs.declared.options.TxnOption.TheVariants.{Create, Join, CreateOrJoin, Suppress, NotAllowed}
use Rattle.script_tree.specs.declared.programs.FieldDecl.{FieldDecl}
use Rattle.script_tree.specs.Exprs.{ExprTree, CallTree, Constant, Variable, TheKey, Joined}
use Rattle.script_tree.specs.Stmts.{Computed, Called, StmtTree, Bind, Rebind, SetField, Perform, Choose, Repeat, Give, FailWith, Try, NoElse, block_tree}
use Rattle.script_tree.specs.Programs.{MethodTree, TypeTree, ProgramTree}
use Rattle.script_check.specs.Programs.{program_fault}
use Rattle.script_meaning.specs.Play.{GrainState, AskedUnit, Played, Lock, WantLock, WantRaise, WantUnit, Over, play_over, next}

-- names, and expressions
abbrev pub name : List ℕ → Name
name text = record { text = text; at = 0 }

-- a number, as an expression
abbrev pub number : ℕ → ExprTree
number n = Constant (literal.Int (pos n))

-- a name, as an expression
abbrev pub variable : List ℕ → ExprTree
variable text = Variable (name text)

-- a call of a method of a type at a place
abbrev pub call_of : List ℕ → ExprTree → List ℕ → List ExprTree → CallTree
call_of target place method args = record { target = name target; place = place; method = name method; args = args }

-- a method with these statements
abbrev pub method_of : List ℕ → List Name → TxnOption → MethodKind → List StmtTree → MethodTree
method_of text params option kind body =
    record { name = name text; params = params; option = option; option_at = 0; kind = kind; body = block_tree body }

-- a field of this name, which is 0 at first
abbrev pub field_of : List ℕ → FieldDecl
field_of text = record { name = name text; initial = literal.Int (pos 0) }

-- a call, n times, with i from 0 on
abbrev pub counted : CallTree → List StmtTree
counted call =
    Bind (name (codes "i")) (Computed (number 0))
    ∷ Repeat (Joined Lt (variable (codes "i")) (variable (codes "n")))
    (block_tree (Perform call ∷ Rebind (name (codes "i")) (Computed (Joined Add (variable (codes "i")) (number 1))) ∷
    []))
    ∷ Give (variable (codes "i")) ∷ []

-- type account: deposit(n), withdraw(n) and read()
abbrev pub account : TypeTree
account = record {
  name = name (codes "account");
  fields = field_of (codes "balance") ∷ [];
  methods =
      method_of (codes "deposit") (name (codes "n") ∷ []) CreateOrJoin method.Update
      (SetField (name (codes "balance")) (Joined Add (variable (codes "balance")) (variable (codes "n")))
      ∷ Give (variable (codes "balance")) ∷ [])
      ∷ method_of (codes "withdraw") (name (codes "n") ∷ []) CreateOrJoin method.Update
      (Choose (Joined Lt (variable (codes "balance")) (variable (codes "n")))
      (block_tree (FailWith (codes "funds") ∷ [])) NoElse
      ∷ SetField (name (codes "balance")) (Joined Sub (variable (codes "balance")) (variable (codes "n")))
      ∷ Give (variable (codes "balance")) ∷ [])
      ∷ method_of (codes "read") [] CreateOrJoin method.Read (Give (variable (codes "balance")) ∷ [])
      ∷ [];
}

-- type atm: transfer(a, b, n); double(a), which reads before it deposits; and reads(n) and begins(n), which read the
-- first n accounts and ask for n units
abbrev pub atm : TypeTree
atm = record {
  name = name (codes "atm");
  fields = [];
  methods =
      method_of (codes "transfer") (name (codes "a") ∷ name (codes "b") ∷ name (codes "n") ∷ []) Create method.Plain
      (Perform (call_of (codes "account") (variable (codes "a")) (codes "withdraw") (variable (codes "n") ∷ []))
      ∷ Perform (call_of (codes "account") (variable (codes "b")) (codes "deposit") (variable (codes "n") ∷ []))
      ∷ Give (variable (codes "n")) ∷ [])
      ∷ method_of (codes "double") (name (codes "a") ∷ []) Create method.Plain
      (Bind (name (codes "x")) (Called (call_of (codes "account") (variable (codes "a")) (codes "read") []))
      ∷ Bind (name (codes "y")) (Called
      (call_of (codes "account") (variable (codes "a")) (codes "deposit") (variable (codes "x") ∷ [])))
      ∷ Give (variable (codes "y")) ∷ [])
      ∷ method_of (codes "reads") (name (codes "n") ∷ []) Create method.Plain
      (counted (call_of (codes "account") (variable (codes "i")) (codes "read") []))
      ∷ method_of (codes "begins") (name (codes "n") ∷ []) Create method.Plain
      (counted (call_of (codes "probe") (number 0) (codes "inner") []))
      ∷ [];
}

-- type probe: spin(n), needs(), lone(), calls_lone(), inner(), outer(), aside(a, n) and split(a, n)
abbrev pub probe : TypeTree
probe = record {
  name = name (codes "probe");
  fields = field_of (codes "total") ∷ [];
  methods =
      method_of (codes "spin") (name (codes "n") ∷ []) Create method.Plain
      (Bind (name (codes "i")) (Computed (number 0))
      ∷ Repeat (Joined Lt (variable (codes "i")) (variable (codes "n")))
      (block_tree (Rebind (name (codes "i")) (Computed (Joined Add (variable (codes "i")) (number 1))) ∷ []))
      ∷ Give (variable (codes "i")) ∷ [])
      ∷ method_of (codes "needs") [] Join method.Plain (Give (number 1) ∷ [])
      ∷ method_of (codes "lone") [] NotAllowed method.Plain (Give (number 1) ∷ [])
      ∷ method_of (codes "calls_lone") [] Create method.Plain
      (Bind (name (codes "x")) (Called (call_of (codes "probe") (number 0) (codes "lone") [])) ∷ Give
      (variable (codes "x")) ∷ [])
      ∷ method_of (codes "inner") [] Create method.Update
      (SetField (name (codes "total")) (Joined Add (variable (codes "total")) (number 100)) ∷ Give
      (variable (codes "total")) ∷ [])
      ∷ method_of (codes "outer") [] Create method.Update
      (SetField (name (codes "total")) (Joined Add (variable (codes "total")) (number 1))
      ∷ Try 0 (name (codes "r")) (call_of (codes "probe") TheKey (codes "inner") [])
      (block_tree (Give (variable (codes "r")) ∷ []))
      (block_tree (SetField (name (codes "total")) (Joined Add (variable (codes "total")) (number 10)) ∷ []))
      ∷ Give (variable (codes "total")) ∷ [])
      ∷ method_of (codes "aside") (name (codes "a") ∷ name (codes "n") ∷ []) Suppress method.Plain
      (Perform (call_of (codes "account") (variable (codes "a")) (codes "deposit") (variable (codes "n") ∷ [])) ∷ Give
      (number 0) ∷ [])
      ∷ method_of (codes "split") (name (codes "a") ∷ name (codes "n") ∷ []) Create method.Plain
      (Perform (call_of (codes "probe") (number 0) (codes "aside") (variable (codes "a") ∷ variable (codes "n") ∷ []))
      ∷ FailWith (codes "after") ∷ [])
      ∷ [];
}

-- the three types
abbrev pub bank : ProgramTree
bank = account ∷ atm ∷ probe ∷ []

-- a grain, a value, a call, and what a play gives
abbrev pub at : ℕ → ℕ → GrainId
at kind key = record { kind = kind; key = key }

-- a number, as a value
abbrev pub int : ℕ → Value
int n = Int (pos n)

-- a call of a grain's method with these arguments
abbrev pub call : GrainId → ℕ → List Value → Call
call grain method args = record { grain = grain; method = method; args = args }

-- what a play gives: its result, its units, what it read and what it wrote
abbrev pub gives : Outcome → List AskedUnit → List GrainState → List GrainState → Played
gives result asked reads writes = record { result = result; asked = asked; reads = reads; writes = writes }

-- a value for each of 64 children
abbrev pub values : List Outcome
values = replicate 64 (Valued (int 0))

-- each grain has its key, times ten, as its only value
abbrev pub tens : GrainId → List Value
tens grain = int (grain.key * 10) ∷ []

-- what a transfer, a child, an option, a limit and a place give
pub record WorkedPlays : Type 0 where
  -- nothing is at fault in the program
  pub checked : program_fault bank ≡ None
  -- writes ascend, and reads are in the order of the first locks
  pub transfers : play_over bank (call (at 1 0) 0 (int 9 ∷ int 2 ∷ int 30 ∷ [])) 1 tens []
      ≡ gives (Valued (int 30)) [] ((at 0 9, int 90 ∷ []) ∷ (at 0 2, int 20 ∷ []) ∷ [])
      ((at 0 2, int 50 ∷ []) ∷ (at 0 9, int 60 ∷ []) ∷ [])
  -- two frames on one grain share its working state
  pub to_itself : play_over bank (call (at 1 0) 0 (int 9 ∷ int 9 ∷ int 30 ∷ [])) 1 tens []
      ≡ gives (Valued (int 30)) [] ((at 0 9, int 90 ∷ []) ∷ []) ((at 0 9, int 90 ∷ []) ∷ [])
  -- a fault keeps no writes
  pub too_little : play_over bank (call (at 1 0) 0 (int 9 ∷ int 2 ∷ int 91 ∷ [])) 1 tens []
      ≡ gives (Fault (codes "funds")) [] ((at 0 9, int 90 ∷ []) ∷ []) []
  -- a state of another length begins anew
  pub another_length : play_over bank (call (at 0 3) 0 (int 5 ∷ [])) 1 (λ grain. []) []
      ≡ gives (Valued (int 5)) [] ((at 0 3, []) ∷ []) ((at 0 3, int 5 ∷ []) ∷ [])
  -- a child that was aborted, for which there is no answer, and that ended with a value
  pub child_aborted : play_over bank (call (at 2 5) 5 []) 1 tens (Aborted ∷ [])
      ≡ gives (Valued (int 61)) ((call (at 2 5) 4 [], 2) ∷ []) ((at 2 5, int 50 ∷ []) ∷ []) ((at 2 5, int 61 ∷ []) ∷ [])
  pub child_unanswered : play_over bank (call (at 2 5) 5 []) 1 tens []
      ≡ gives (Valued (int 61)) ((call (at 2 5) 4 [], 2) ∷ []) ((at 2 5, int 50 ∷ []) ∷ []) ((at 2 5, int 61 ∷ []) ∷ [])
  pub child_ended : play_over bank (call (at 2 5) 5 []) 1 tens (Valued (int 7) ∷ [])
      ≡ gives (Valued (int 7)) ((call (at 2 5) 4 [], 2) ∷ []) ((at 2 5, int 50 ∷ []) ∷ []) ((at 2 5, int 51 ∷ []) ∷ [])
  -- a plain run asks for a unit, whose fault or abort ends it; one within a transaction does too, a frame deeper
  pub aside : play_over bank (call (at 2 0) 6 (int 7 ∷ int 30 ∷ [])) 1 tens (Valued (int 100) ∷ [])
      ≡ gives (Valued (int 0)) ((call (at 0 7) 0 (int 30 ∷ []), 2) ∷ []) [] []
  pub aside_faulted : play_over bank (call (at 2 0) 6 (int 7 ∷ int 30 ∷ [])) 1 tens (Fault (codes "f") ∷ [])
      ≡ gives (Fault (codes "f")) ((call (at 0 7) 0 (int 30 ∷ []), 2) ∷ []) [] []
  pub aside_aborted : play_over bank (call (at 2 0) 6 (int 7 ∷ int 30 ∷ [])) 1 tens []
      ≡ gives (Fault (codes "aborted")) ((call (at 0 7) 0 (int 30 ∷ []), 2) ∷ []) [] []
  pub split : play_over bank (call (at 2 0) 7 (int 7 ∷ int 30 ∷ [])) 1 tens (Valued (int 100) ∷ [])
      ≡ gives (Fault (codes "after")) ((call (at 0 7) 0 (int 30 ∷ []), 3) ∷ []) [] []
  -- options
  pub needs : play_over bank (call (at 2 0) 1 []) 1 tens [] ≡ gives (Fault (codes "no transaction")) [] [] []
  pub lone : play_over bank (call (at 2 0) 2 []) 1 tens [] ≡ gives (Valued (int 1)) [] [] []
  pub calls_lone : play_over bank (call (at 2 0) 3 []) 1 tens [] ≡ gives (Fault (codes "not allowed")) [] [] []
  -- the 10,000th step is the last, the 32nd frame the deepest, the 64th grain and unit the last
  pub last_step : play_over bank (call (at 2 0) 0 (int 4998 ∷ [])) 1 tens [] ≡ gives (Valued (int 4998)) [] [] []
  pub past_steps : play_over bank (call (at 2 0) 0 (int 4999 ∷ [])) 1 tens [] ≡ gives (Fault (codes "budget")) [] [] []
  pub deepest : play_over bank (call (at 2 5) 5 []) 32 tens []
      ≡ gives (Fault (codes "depth")) [] ((at 2 5, int 50 ∷ []) ∷ []) []
  pub past_depth : play_over bank (call (at 2 5) 5 []) 33 tens [] ≡ gives (Fault (codes "depth")) [] [] []
  pub last_grain : (play_over bank (call (at 1 0) 2 (int 64 ∷ [])) 1 tens []).result ≡ Valued (int 64)
  pub past_grains : (play_over bank (call (at 1 0) 2 (int 65 ∷ [])) 1 tens []).result ≡ Fault (codes "grains")
  pub last_unit : (play_over bank (call (at 1 0) 3 (int 64 ∷ [])) 1 tens values).result ≡ Valued (int 64)
  pub past_units : (play_over bank (call (at 1 0) 3 (int 65 ∷ [])) 1 tens values).result ≡ Fault (codes "units")
  -- places
  pub last_place : play_over bank (call (at 1 0) 1 (int 4294967295 ∷ [])) 1 tens []
      ≡ gives (Valued (int 85899345900)) [] ((at 0 4294967295, int 42949672950 ∷ []) ∷ [])
      ((at 0 4294967295, int 85899345900 ∷ []) ∷ [])
  pub past_places : play_over bank (call (at 1 0) 1 (int 4294967296 ∷ [])) 1 tens []
      ≡ gives (Fault (codes "key")) [] [] []
  pub before_places : play_over bank (call (at 1 0) 1 (Int (negsuc 0) ∷ [])) 1 tens []
      ≡ gives (Fault (codes "key")) [] [] []
  pub no_place : play_over bank (call (at 1 0) 1 (Text (codes "1") ∷ [])) 1 tens []
      ≡ gives (Fault (codes "kind")) [] [] []

-- a lock with a balance
abbrev pub lock : GrainId → Mode → ℕ → Lock
lock grain mode balance = record { grain = grain; mode = mode; state = int balance ∷ [] }

-- what a unit is missing
pub record WorkedNexts : Type 0 where
  -- one account is locked shared, then exclusive
  pub shared : next bank (call (at 1 0) 1 (int 8 ∷ [])) 1 [] [] ≡ WantLock (at 0 8) Read
  pub raised : next bank (call (at 1 0) 1 (int 8 ∷ [])) 1 (lock (at 0 8) Read 3 ∷ []) [] ≡ WantRaise (at 0 8)
  pub doubled : next bank (call (at 1 0) 1 (int 8 ∷ [])) 1 (lock (at 0 8) Read 3 ∷ lock (at 0 8) Update 5 ∷ []) []
      ≡ Over (Valued (int 6))
  -- a grain's lock comes before its frame's child
  pub first_own : next bank (call (at 2 5) 5 []) 1 [] (Aborted ∷ []) ≡ WantLock (at 2 5) Update
  pub then_child : next bank (call (at 2 5) 5 []) 1 (lock (at 2 5) Update 3 ∷ []) [] ≡ WantUnit (call (at 2 5) 4 []) 2
  pub then_over : next bank (call (at 2 5) 5 []) 1 (lock (at 2 5) Update 3 ∷ []) (Aborted ∷ []) ≡ Over (Valued (int 14))
