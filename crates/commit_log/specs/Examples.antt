-- The first deposit, `account/1.deposit` with 5 as line 1 of a run, as the log has it.
use Rattle.std.specs.Prelude.{ℕ, List, [], ◌∷◌, ◌++◌, pos}
use Rattle.base_types.specs.declared.calls.Value.TheVariants.{Int}
use Rattle.base_types.specs.declared.calls.Origin.TheVariants.{Line}
use Rattle.base_types.specs.declared.calls.Outcome as outcome
use Rattle.commit_log.specs.declared.records.CommitRecord.{CommitRecord}

-- unit 1, which called type 0, key 1, method 0 with 5, answers 5, and wrote the version of 19 bytes at offset 0
abbrev pub first_deposit : CommitRecord
first_deposit = record {
  unit = record { 0 = 1 };
  origin = Line 1;
  call = record { grain = record { kind = 0; key = 1 }; method = 0; args = Int (pos 5) ∷ [] };
  answers = [];
  result = outcome.TheVariants.Value (Int (pos 5));
  writes = record { grain = record { kind = 0; key = 1 }; place = record { offset = 0; len = 19 } } ∷ [];
}

-- what its body says: the count, the unit, the origin, the call, the answers, the result, the writes
abbrev pub first_content : List ℕ
first_content =
    1 ∷ 0 ∷ 0 ∷ 0
    ∷ 1 ∷ 0 ∷ 0 ∷ 0 ∷ 0 ∷ 0 ∷ 0 ∷ 0
    ∷ 0 ∷ 1 ∷ 0 ∷ 0 ∷ 0
    ∷ 0 ∷ 0 ∷ 1 ∷ 0 ∷ 0 ∷ 0 ∷ 0 ∷ 0 ∷ 1 ∷ 0 ∷ 0 ∷ 5 ∷ 0 ∷ 0 ∷ 0 ∷ 0 ∷ 0 ∷ 0 ∷ 0
    ∷ 0 ∷ 0
    ∷ 1 ∷ 0 ∷ 5 ∷ 0 ∷ 0 ∷ 0 ∷ 0 ∷ 0 ∷ 0 ∷ 0
    ∷ 1 ∷ 0 ∷ 0 ∷ 0 ∷ 1 ∷ 0 ∷ 0 ∷ 0 ∷ 0 ∷ 0 ∷ 0 ∷ 0 ∷ 0 ∷ 0 ∷ 0 ∷ 0 ∷ 19 ∷ 0 ∷ 0 ∷ 0
    ∷ []

-- its block: the body's length, the session, the content, the next gate
abbrev pub first_block : List ℕ
first_block = 76 ∷ 0 ∷ 0 ∷ 0 ∷ 1 ∷ 0 ∷ 0 ∷ 0 ∷ 0 ∷ 0 ∷ 0 ∷ 0 ∷ (first_content ++ 0 ∷ [])

-- its block in format 1, which spells no session
abbrev pub first_old_block : List ℕ
first_old_block = 68 ∷ 0 ∷ 0 ∷ 0 ∷ (first_content ++ 0 ∷ [])
