-- What a check sums up.
use Rattle.std.specs.Prelude.{ℕ, zero, suc, ◌+◌, ◌-◌, ◌%◌, length, Option, Some, None, ℤ, pos, ◌+ℤ◌, List, ◌++◌, codes, decimal}
use Rattle.std.specs.Fmt.{signed_decimal}
use Rattle.silo_nodes.specs.Logs.{undecided}
use Rattle.two_silos.specs.World.{World, balance_in, node_at}
use Rattle.two_silos.specs.GeneratedEvents.{account}
pub use Rattle.two_silos.specs.declared.summary.Summary.{Summary}

-- a balance, 0 where the grain isn't there
abbrev pub or_zero : Option ℤ → ℤ
or_zero None = pos 0
or_zero (Some b) = b

-- the sum of the balances of n accounts from k on, account k at participant k mod 2
abbrev pub sum_from : World → ℕ → ℕ → ℤ
sum_from w k zero = pos 0
sum_from w k (suc n) = or_zero (balance_in w.nodes (k % 2) (account k)) +ℤ sum_from w (k + 1) n

-- how many prepared transactions without a decision a participant has
abbrev pub waiting : World → ℕ → ℕ
waiting w n = length (undecided (node_at w.nodes n).log (node_at w.nodes n).log)

-- the summary of a world after so many starts; aborted are those that are neither committed nor pending
abbrev pub summary_of : ℕ → World → Summary
summary_of starts w = record {
  aborted = starts - (length w.coordinator.commits + length w.coordinator.pending);
  committed = length w.coordinator.commits;
  requests = starts;
  total = sum_from w 0 64;
  undecided = length w.coordinator.pending + (waiting w 0 + waiting w 1);
}

-- the line that tells a summary, with its line feed
abbrev pub line_of : Summary → List ℕ
line_of s =
    codes "{\"aborted\":" ++ (decimal s.aborted ++ (codes ",\"committed\":" ++ (decimal s.committed ++ (codes ",\"requests\":" ++ (decimal s.requests
    ++ (codes ",\"total\":" ++ (signed_decimal s.total ++ (codes ",\"undecided\":" ++ (decimal s.undecided ++ codes "}\n")))))))))
