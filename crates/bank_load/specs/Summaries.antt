-- What a load's summary says: how its lines ended, and the balances by what the core keeps.
use Rattle.std.specs.Prelude.{ℕ, zero, suc, List, ◌++◌, codes, decimal, ℤ, pos, ◌+ℤ◌, Option, Some, None, unwrap_or}
use Rattle.std.specs.Fmt.{signed_decimal}
use Rattle.base_types.specs.declared.calls.Value.{Value}
use Rattle.base_types.specs.declared.calls.Value.TheVariants.{Int}
use Rattle.base_types.specs.declared.entries.Entry.{Entry}
use Rattle.core_model.specs.CoreState.{CoreState}
use Rattle.history_core.specs.ClosedUnits.{last_state}
use Rattle.request_wire.specs.Reply.{value_data, counted}
use Rattle.serde_json.specs.Data.{object, member, no_members}
use Rattle.promise_spec.specs.Loads.{account, balance_in, line_valued, is_faulted, line_aborted, how_many_lines}
use Rattle.promise_spec.specs.Reports.{line_of}

-- the line of these entries, so many requests and these balances
abbrev pub summary_line : List Entry → ℕ → ℤ → List ℕ
summary_line entries requests total =
    let asked = counted (codes "requests") requests (member (codes "total") (value_data (Int total)) no_members) in
    let faulted = counted (codes "faulted") (how_many_lines is_faulted entries) asked in
    let committed = counted (codes "committed") (how_many_lines line_valued entries) faulted in
    line_of (object (counted (codes "aborted") (how_many_lines line_aborted entries) committed))

-- that line, piece by piece
abbrev pub said_line : ℕ → ℕ → ℕ → ℕ → ℤ → List ℕ
said_line aborted committed faulted requests total =
    codes "{\"aborted\":" ++ (decimal aborted ++ (codes ",\"committed\":" ++ (decimal committed ++ (codes ",\"faulted\":" ++ (decimal faulted
    ++ (codes ",\"requests\":" ++ (decimal requests ++ (codes ",\"total\":" ++ (signed_decimal total ++ codes "}\n")))))))))

-- the balance of an account with this state, or 0 where there is none
abbrev pub kept_balance : Option (List Value) → ℤ
kept_balance None = pos 0
kept_balance (Some state) = balance_in state

-- the balances of so many accounts, by the last committed writers
abbrev pub total_kept : CoreState → ℕ → ℤ
total_kept w zero = pos 0
total_kept w (suc n) = total_kept w n +ℤ kept_balance (last_state w (account n))
