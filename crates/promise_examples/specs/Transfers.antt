-- Examples: a silo of a bank, in which account 1 got 100, and 30 of that went to account 2.
use Rattle.std.specs.Prelude.{ℕ, zero, suc, ◌==◌, if◌then◌else◌, List, [], ◌∷◌, ◌++◌}
use Rattle.base_types.specs.declared.calls.Origin.TheVariants.{Line}
use Rattle.base_types.specs.declared.calls.Outcome.TheVariants as outcome
use Rattle.base_types.specs.declared.stores.Version.{Version}
use Rattle.field_codec.specs.declared.formats.Format.TheVariants.{Two}
use Rattle.field_codec.specs.Formats.{magic_of}
use Rattle.commit_log.specs.declared.records.CommitRecord.{CommitRecord}
use Rattle.host_trait.specs.declared.channels.FileId.TheVariants.{Manager, Program as ProgramFile, Grain}
use Rattle.host_trait.specs.World.{Image}
use Rattle.script_meaning.specs.WorkedExamples.{bank, at, int, call}
use Rattle.promise_spec.specs.Programs.{Program}
use Rattle.promise_spec.specs.Records.{Commit}
use Rattle.promise_spec.specs.Entries.{Log, new_log, grown}

-- the bank's program: no text is needed, as only its types are looked at
abbrev pub bank_program : Program
bank_program = record { text = []; types = bank }

-- a log that starts with a new silo of that program, and has these records
abbrev pub bank_log : List Commit → Log
bank_log records = grown (new_log bank_program) records

-- line 1: `account/1.deposit` with 100
abbrev pub paid_in : Commit
paid_in = record {
  logged = record {
    unit = record { 0 = 1 };
    origin = Line 1;
    call = call (at 0 1) 0 (int 100 ∷ []);
    answers = [];
    result = outcome.Value (int 100);
    writes = record { grain = at 0 1; place = record { offset = 0; len = 19 } } ∷ [];
  };
  states = (int 100 ∷ []) ∷ [];
}

-- line 2: `atm/0.transfer` with 1, 2 and 30, which writes both accounts
abbrev pub transfer : CommitRecord
transfer = record {
  unit = record { 0 = 2 };
  origin = Line 2;
  call = call (at 1 0) 0 (int 1 ∷ int 2 ∷ int 30 ∷ []);
  answers = [];
  result = outcome.Value (int 30);
  writes =
      record { grain = at 0 1; place = record { offset = 19; len = 19 } }
      ∷ record { grain = at 0 2; place = record { offset = 0; len = 19 } } ∷ [];
}

-- it leaves these balances
abbrev pub moved : ℕ → ℕ → Commit
moved one other = record { logged = transfer; states = (int one ∷ []) ∷ (int other ∷ []) ∷ [] }

-- the version of a unit that leaves this balance
abbrev pub balance : ℕ → ℕ → Version
balance unit n = record { unit = record { 0 = unit }; state = int n ∷ [] }

-- account 1's file has the deposit's version and, behind it, the transfer's; account 2's has the transfer's other one
abbrev pub version_of_deposit : List ℕ
version_of_deposit = 1 ∷ 0 ∷ 0 ∷ 0 ∷ 0 ∷ 0 ∷ 0 ∷ 0 ∷ 1 ∷ 0 ∷ 0 ∷ 100 ∷ 0 ∷ 0 ∷ 0 ∷ 0 ∷ 0 ∷ 0 ∷ 0 ∷ []

-- the transfer's version of account 1: unit 2, and a balance of 70
abbrev pub version_of_source : List ℕ
version_of_source = 2 ∷ 0 ∷ 0 ∷ 0 ∷ 0 ∷ 0 ∷ 0 ∷ 0 ∷ 1 ∷ 0 ∷ 0 ∷ 70 ∷ 0 ∷ 0 ∷ 0 ∷ 0 ∷ 0 ∷ 0 ∷ 0 ∷ []

-- the transfer's version of account 2: unit 2, and a balance of 30
abbrev pub version_of_target : List ℕ
version_of_target = 2 ∷ 0 ∷ 0 ∷ 0 ∷ 0 ∷ 0 ∷ 0 ∷ 0 ∷ 1 ∷ 0 ∷ 0 ∷ 30 ∷ 0 ∷ 0 ∷ 0 ∷ 0 ∷ 0 ∷ 0 ∷ 0 ∷ []

-- the deposit's body, of 76 bytes: session 1, one record, its unit, line, call, no answers, its result and its write
abbrev pub deposit_body : List ℕ
deposit_body =
    1 ∷ 0 ∷ 0 ∷ 0 ∷ 0 ∷ 0 ∷ 0 ∷ 0 ∷ 1 ∷ 0 ∷ 0 ∷ 0 ∷
    1 ∷ 0 ∷ 0 ∷ 0 ∷ 0 ∷ 0 ∷ 0 ∷ 0 ∷ 0 ∷ 1 ∷ 0 ∷ 0 ∷ 0 ∷
    0 ∷ 0 ∷ 1 ∷ 0 ∷ 0 ∷ 0 ∷ 0 ∷ 0 ∷ 1 ∷ 0 ∷
    0 ∷ 100 ∷ 0 ∷ 0 ∷ 0 ∷ 0 ∷ 0 ∷ 0 ∷ 0 ∷
    0 ∷ 0 ∷ 1 ∷ 0 ∷ 100 ∷ 0 ∷ 0 ∷ 0 ∷ 0 ∷ 0 ∷ 0 ∷ 0 ∷
    1 ∷ 0 ∷ 0 ∷ 0 ∷ 1 ∷ 0 ∷ 0 ∷ 0 ∷ 0 ∷ 0 ∷ 0 ∷ 0 ∷ 0 ∷ 0 ∷ 0 ∷ 0 ∷ 19 ∷ 0 ∷ 0 ∷ 0 ∷ []

-- the transfer's body, of 112 bytes: the same, with three arguments and two writes
abbrev pub transfer_body : List ℕ
transfer_body =
    1 ∷ 0 ∷ 0 ∷ 0 ∷ 0 ∷ 0 ∷ 0 ∷ 0 ∷ 1 ∷ 0 ∷ 0 ∷ 0 ∷
    2 ∷ 0 ∷ 0 ∷ 0 ∷ 0 ∷ 0 ∷ 0 ∷ 0 ∷ 0 ∷ 2 ∷ 0 ∷ 0 ∷ 0 ∷
    1 ∷ 0 ∷ 0 ∷ 0 ∷ 0 ∷ 0 ∷ 0 ∷ 0 ∷ 3 ∷ 0 ∷
    0 ∷ 1 ∷ 0 ∷ 0 ∷ 0 ∷ 0 ∷ 0 ∷ 0 ∷ 0 ∷
    0 ∷ 2 ∷ 0 ∷ 0 ∷ 0 ∷ 0 ∷ 0 ∷ 0 ∷ 0 ∷
    0 ∷ 30 ∷ 0 ∷ 0 ∷ 0 ∷ 0 ∷ 0 ∷ 0 ∷ 0 ∷
    0 ∷ 0 ∷ 1 ∷ 0 ∷ 30 ∷ 0 ∷ 0 ∷ 0 ∷ 0 ∷ 0 ∷ 0 ∷ 0 ∷
    2 ∷ 0 ∷
    0 ∷ 0 ∷ 1 ∷ 0 ∷ 0 ∷ 0 ∷ 19 ∷ 0 ∷ 0 ∷ 0 ∷ 0 ∷ 0 ∷ 0 ∷ 0 ∷ 19 ∷ 0 ∷ 0 ∷ 0 ∷
    0 ∷ 0 ∷ 2 ∷ 0 ∷ 0 ∷ 0 ∷ 0 ∷ 0 ∷ 0 ∷ 0 ∷ 0 ∷ 0 ∷ 0 ∷ 0 ∷ 19 ∷ 0 ∷ 0 ∷ 0 ∷ []

-- the manager file: its header, an open block of each body, and a closed gate
abbrev pub bank_manager : List ℕ
bank_manager =
    1 ∷ (magic_of Two ++ 0 ∷ 0 ∷ 0 ∷ 0 ∷ 0 ∷ 0 ∷ 1 ∷ 76 ∷ 0 ∷ 0 ∷ 0 ∷ (deposit_body ++ 1 ∷ 112 ∷ 0 ∷ 0 ∷ 0 ∷ (transfer_body ++ 0 ∷ [])))

-- the folder
abbrev pub bank_folder : Image
bank_folder (ProgramFile slot) = []
bank_folder (Manager zero) = bank_manager
bank_folder (Manager (suc slot)) = []
bank_folder (Grain slot grain) = if grain.key == 1 then version_of_deposit ++ version_of_source else version_of_target
