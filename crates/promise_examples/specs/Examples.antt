-- Examples: a silo of accounts, in which one deposit of 5 was logged.
use Rattle.std.specs.Prelude.{ℕ, zero, suc, ◌+◌, true, false, List, [], ◌∷◌, ◌++◌, take, pos, codes}
use Rattle.base_types.specs.declared.calls.Call.{Call}
use Rattle.base_types.specs.declared.calls.GrainId.{GrainId}
use Rattle.base_types.specs.declared.calls.Mode.TheVariants as mode
use Rattle.base_types.specs.declared.calls.Origin.TheVariants.{Line}
use Rattle.base_types.specs.declared.calls.UnitNo.{UnitNo}
use Rattle.base_types.specs.declared.calls.Outcome.TheVariants as outcome
use Rattle.base_types.specs.declared.calls.Value.TheVariants.{Int}
use Rattle.base_types.specs.declared.entries.Entry.{Entry}
use Rattle.base_types.specs.declared.entries.Settled.TheVariants.{Done, Lock, Vote as VotedDown, Dependency, InDoubt}
use Rattle.host_trait.specs.declared.channels.FileId.TheVariants.{Manager, Program as ProgramFile, Grain}
use Rattle.host_trait.specs.World.{Image}
use Rattle.script_tree.specs.declared.expressions.Name.{Name}
use Rattle.script_tree.specs.declared.expressions.Literal.TheVariants as literal
use Rattle.script_tree.specs.declared.expressions.BinaryOp.TheVariants.{Add}
use Rattle.script_tree.specs.declared.options.MethodKind.TheVariants as kinds
use Rattle.script_tree.specs.declared.options.TxnOption.TheVariants.{CreateOrJoin}
use Rattle.script_tree.specs.Exprs.{Variable, Joined}
use Rattle.script_tree.specs.Stmts.{SetField, Give, NoMore, Then}
use Rattle.script_tree.specs.Programs.{MethodTree, ProgramTree}
use Rattle.field_codec.specs.declared.formats.Format.TheVariants.{Two}
use Rattle.field_codec.specs.Formats.{magic_of}
use Rattle.commit_log.specs.declared.records.CommitRecord.{CommitRecord}
use Rattle.core_model.specs.declared.effects.Effect.{Effect}
use Rattle.core_model.specs.declared.events.CoreEvent.{CoreEvent}
use Rattle.core_model.specs.declared.events.CoreEvent.TheVariants as event
use Rattle.core_model.specs.LegalRuns.{Run}
use Rattle.promise_spec.specs.Programs.{Program}
use Rattle.promise_spec.specs.Records.{Commit}
use Rattle.promise_spec.specs.Entries.{new_silo, Log, new_log, grown, standing_of}
use Rattle.promise_spec.specs.Lines.{IsLineCall}
use Rattle.promise_spec.specs.Cores.{core_from}
use Rattle.promise_spec.specs.UnitRule.{Basis}

-- the text of a program
abbrev pub account_text : List ℕ
account_text =
    codes "type account {\n"
    ++ codes "  field balance = 0;\n"
    ++ codes "  method deposit(n) createorjoin update { set balance = balance + n; return balance; }\n"
    ++ codes "  method read() createorjoin read { return balance; }\n"
    ++ codes "}\n"

-- a name, and where it stands in that text
abbrev pub name : ℕ → List ℕ → Name
name at text = record { text = text; at = at }

-- `method deposit(n) createorjoin update { set balance = balance + n; return balance; }`
abbrev pub deposit_method : MethodTree
deposit_method = record {
  name = name 45 (codes "deposit");
  params = name 53 (codes "n") ∷ [];
  option = CreateOrJoin;
  option_at = 56;
  kind = kinds.Update;
  body = Then (SetField (name 82 (codes "balance")) (Joined Add (Variable (name 92 (codes "balance"))) (Variable (name 102 (codes "n")))))
      (Then (Give (Variable (name 112 (codes "balance")))) NoMore);
}

-- `method read() createorjoin read { return balance; }`
abbrev pub read_method : MethodTree
read_method = record {
  name = name 132 (codes "read");
  params = [];
  option = CreateOrJoin;
  option_at = 139;
  kind = kinds.Read;
  body = Then (Give (Variable (name 166 (codes "balance")))) NoMore;
}

-- one type, `account`, which has a field `balance` and these methods
abbrev pub accounts : ProgramTree
accounts = record {
  name = name 5 (codes "account");
  fields = record { name = name 23 (codes "balance"); initial = literal.Int (pos 0) } ∷ [];
  methods = deposit_method ∷ read_method ∷ [];
} ∷ []

-- the program: the text and its types
abbrev pub account_program : Program
account_program = record { text = account_text; types = accounts }

-- the bytes of its file: the text's length, and the text
abbrev pub program_bytes : List ℕ
program_bytes = 179 ∷ 0 ∷ 0 ∷ 0 ∷ account_text

-- `account/1`
abbrev pub account_1 : GrainId
account_1 = record { kind = 0; key = 1 }

-- `account/2`
abbrev pub account_2 : GrainId
account_2 = record { kind = 0; key = 2 }

-- the call `account/1.deposit` with a number
abbrev pub deposit_of : ℕ → Call
deposit_of n = record { grain = account_1; method = 0; args = Int (pos n) ∷ [] }

-- the same with 5
abbrev pub deposit_call : Call
deposit_call = deposit_of 5

-- the record of that call on line 1. It found 0 there
abbrev pub deposit : CommitRecord
deposit = record {
  unit = record { 0 = 1 };
  origin = Line 1;
  call = deposit_call;
  answers = [];
  result = outcome.Value (Int (pos 5));
  writes = record { grain = account_1; place = record { offset = 0; len = 19 } } ∷ [];
}

-- that record with the state that it left, a balance of 5
abbrev pub first_commit : Commit
first_commit = record { logged = deposit; states = (Int (pos 5) ∷ []) ∷ [] }

-- a second deposit, of n, that says it found so much: it leaves `sum`
abbrev pub next_commit : ℕ → ℕ → Commit
next_commit n sum = record {
  logged = record {
    unit = record { 0 = 2 };
    origin = Line 2;
    call = record { grain = account_1; method = 0; args = Int (pos n) ∷ [] };
    answers = [];
    result = outcome.Value (Int (pos sum));
    writes = record { grain = account_1; place = record { offset = 19; len = 19 } } ∷ [];
  };
  states = (Int (pos sum) ∷ []) ∷ [];
}

-- the 19 bytes of the grain's file: unit 1, and a state of one number, 5
abbrev pub grain_bytes : List ℕ
grain_bytes = 1 ∷ 0 ∷ 0 ∷ 0 ∷ 0 ∷ 0 ∷ 0 ∷ 0 ∷ 1 ∷ 0 ∷ 0 ∷ 5 ∷ 0 ∷ 0 ∷ 0 ∷ 0 ∷ 0 ∷ 0 ∷ 0 ∷ []

-- the block: the body's length, the body, which begins with the session, 1, and the closed gate of the next block
abbrev pub block_bytes : List ℕ
block_bytes =
    76 ∷ 0 ∷ 0 ∷ 0 ∷ 1 ∷ 0 ∷ 0 ∷ 0 ∷ 0 ∷ 0 ∷ 0 ∷ 0 ∷ 1 ∷ 0 ∷ 0 ∷ 0 ∷
    1 ∷ 0 ∷ 0 ∷ 0 ∷ 0 ∷ 0 ∷ 0 ∷ 0 ∷ 0 ∷ 1 ∷ 0 ∷ 0 ∷ 0 ∷
    0 ∷ 0 ∷ 1 ∷ 0 ∷ 0 ∷ 0 ∷ 0 ∷ 0 ∷ 1 ∷ 0 ∷
    0 ∷ 5 ∷ 0 ∷ 0 ∷ 0 ∷ 0 ∷ 0 ∷ 0 ∷ 0 ∷
    0 ∷ 0 ∷ 1 ∷ 0 ∷ 5 ∷ 0 ∷ 0 ∷ 0 ∷ 0 ∷ 0 ∷ 0 ∷ 0 ∷
    1 ∷ 0 ∷ 0 ∷ 0 ∷ 1 ∷ 0 ∷ 0 ∷ 0 ∷ 0 ∷ 0 ∷ 0 ∷ 0 ∷ 0 ∷ 0 ∷ 0 ∷ 0 ∷ 19 ∷ 0 ∷ 0 ∷ 0 ∷ 0 ∷ []

-- a manager file whose first block is this, with this byte as its gate
abbrev pub manager_of : List ℕ → ℕ → List ℕ
manager_of block gate = 1 ∷ (magic_of Two ++ 0 ∷ 0 ∷ 0 ∷ 0 ∷ 0 ∷ 0 ∷ gate ∷ block)

-- the manager file, with this byte as the gate of the deposit's block
abbrev pub manager_bytes : ℕ → List ℕ
manager_bytes = manager_of block_bytes

-- the folder: slot 0 has the manager file, and every grain's file is that one
abbrev pub folder : ℕ → List ℕ → Image
folder gate grain_file (ProgramFile slot) = program_bytes
folder gate grain_file (Manager zero) = manager_bytes gate
folder gate grain_file (Manager (suc slot)) = []
folder gate grain_file (Grain slot grain) = grain_file

-- the same, where the manager file has only its first bytes
abbrev pub torn_folder : ℕ → Image
torn_folder size (ProgramFile slot) = program_bytes
torn_folder size (Manager zero) = take size (manager_bytes 1)
torn_folder size (Manager (suc slot)) = []
torn_folder size (Grain slot grain) = grain_bytes

-- the reply to line 1
abbrev pub first_entry : Entry
first_entry = record { line = 1; unit = record { 0 = 1 }; what = Done (outcome.Value (Int (pos 5))) }

-- ---- the core's events

-- the unit of number n
abbrev pub unit_no : ℕ → UnitNo
unit_no n = record { 0 = n }

-- the deposit of n as unit u's effect, which found `before`, left by that source
abbrev pub deposited : ℕ → ℕ → ℕ → ℕ → Effect
deposited u n before source = record {
  unit = unit_no u;
  origin = Line u;
  call = record { grain = account_1; method = 0; args = Int (pos n) ∷ [] };
  answers = [];
  reads = record { grain = account_1; state = Int (pos before) ∷ []; source = unit_no source } ∷ [];
  writes = (account_1, Int (pos (before + n)) ∷ []) ∷ [];
  result = outcome.Value (Int (pos (before + n)));
}

-- line u begins with a deposit of n
abbrev pub begin_deposit : ℕ → ℕ → CoreEvent
begin_deposit u n = event.Begin (Line u) (record { grain = account_1; method = 0; args = Int (pos n) ∷ [] }) false

-- `account/1` is brought into memory as a new silo has it: nobody's version, a balance of 0
abbrev pub first_load : CoreEvent
first_load = event.Load account_1 (unit_no 0) (Int (pos 0) ∷ [])

-- one deposit of 5: it wants its grain, which is brought, runs to its end, its batch is taken, written, decided and sealed, and its
-- reply is written
abbrev pub deposit_events : List CoreEvent
deposit_events =
    begin_deposit 1 5 ∷ event.Want (unit_no 1) account_1 ∷ first_load
    ∷ event.Grant (unit_no 1) account_1 mode.Update ∷ event.Finish (unit_no 1) (deposited 1 5 0 0)
    ∷ event.Release (unit_no 1) account_1 ∷ event.Take ∷ event.Vote 1 account_1 true ∷ event.Decide 1 ∷ event.Sealed 1
    ∷ event.Learn (unit_no 1) account_1 ∷ event.Emitted ∷ []

-- two deposits at once, of which the first wants the grain for both, and the second meets the first one's lock and dies
abbrev pub conflict_events : List CoreEvent
conflict_events =
    begin_deposit 1 5 ∷ begin_deposit 2 4 ∷ event.Want (unit_no 1) account_1 ∷ first_load
    ∷ event.Grant (unit_no 1) account_1 mode.Update
    ∷ event.Refuse (unit_no 2) account_1 mode.Update
    ∷ event.Emitted ∷ event.Finish (unit_no 1) (deposited 1 5 0 0) ∷ event.Release (unit_no 1) account_1
    ∷ event.Take ∷ event.Vote 1 account_1 true ∷ event.Decide 1 ∷ event.Doubt 1 ∷ event.Emitted ∷ []

-- what these lines are told: the second that it met a lock, and the first that nobody knows
abbrev pub locked_entry : Entry
locked_entry = record { line = 2; unit = unit_no 2; what = Lock (unit_no 1) account_1 }

-- line 1 is told that nobody knows
abbrev pub doubt_entry : Entry
doubt_entry = record { line = 1; unit = unit_no 1; what = InDoubt }

-- what both lines of the conflict are told, in the order of their writing
abbrev pub conflict_entries : List Entry
conflict_entries = locked_entry ∷ doubt_entry ∷ []

-- the call `account/1.read`
abbrev pub read_call : Call
read_call = record { grain = account_1; method = 1; args = [] }

-- what unit 2 does that reads what unit 1 left
abbrev pub looked : Effect
looked = record {
  unit = unit_no 2;
  origin = Line 2;
  call = read_call;
  answers = [];
  reads = record { grain = account_1; state = Int (pos 5) ∷ []; source = unit_no 1 } ∷ [];
  writes = [];
  result = outcome.Value (Int (pos 5));
}

-- a deposit, and a read of what it left before it is logged: the deposit's file can't be written, and both are aborted
abbrev pub vote_events : List CoreEvent
vote_events =
    begin_deposit 1 5 ∷ event.Begin (Line 2) read_call false ∷ event.Want (unit_no 1) account_1 ∷ first_load
    ∷ event.Grant (unit_no 1) account_1 mode.Update
    ∷ event.Finish (unit_no 1) (deposited 1 5 0 0) ∷ event.Release (unit_no 1) account_1
    ∷ event.Grant (unit_no 2) account_1 mode.Read ∷ event.Finish (unit_no 2) looked ∷ event.Release (unit_no 2) account_1
    ∷ event.Take ∷ event.Vote 1 account_1 false ∷ event.Decide 1 ∷ event.Learn (unit_no 1) account_1 ∷ event.Emitted
    ∷ event.Emitted ∷ []

-- what these lines are told: the first that its file wasn't written, and the second what it depends on
abbrev pub voted_entry : Entry
voted_entry = record { line = 1; unit = unit_no 1; what = VotedDown account_1 }

-- line 2 is told on what it depends
abbrev pub dependent_entry : Entry
dependent_entry = record { line = 2; unit = unit_no 2; what = Dependency (unit_no 1) }

-- what both lines are told where the file wasn't written
abbrev pub vote_entries : List Entry
vote_entries = voted_entry ∷ dependent_entry ∷ []

-- line 1 asks for the deposit, and line 2 for the read
pub record AskBoth (lines : List (List ℕ)) : Type 0 where
  pub first : IsLineCall accounts lines 1 deposit_call
  pub second : IsLineCall accounts lines 2 read_call

-- the log of a silo of accounts with these records
abbrev pub account_log : List Commit → Log
account_log records = grown (new_log account_program) records

-- the core's run of these events over an empty log
abbrev pub account_run : List CoreEvent → Run
account_run events = core_from accounts (new_silo account_program) events

-- what the unit rule is told of it, where these lines are asked
abbrev pub account_basis : List (List ℕ) → Basis
account_basis lines = record { types = accounts; lines = lines; opening = new_silo account_program }

-- over the log of the first deposit line 1 begins a deposit, whose grain is brought into memory as the version of this unit, with this
-- balance
abbrev pub bringing : ℕ → ℕ → Run
bringing u n = core_from accounts (standing_of (account_log (first_commit ∷ [])))
    (begin_deposit 1 5 ∷ event.Want (unit_no 2) account_1 ∷ event.Load account_1 (unit_no u) (Int (pos n) ∷ []) ∷ [])

-- the lines 1 and 2 ask for deposits of 5 and 4
pub record AskDeposits (lines : List (List ℕ)) : Type 0 where
  pub first : IsLineCall accounts lines 1 deposit_call
  pub second : IsLineCall accounts lines 2 (record { grain = account_1; method = 0; args = Int (pos 4) ∷ [] })
