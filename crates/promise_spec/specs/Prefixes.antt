-- When one log is a prefix of another: over positions, since their bases may differ.
use Rattle.std.specs.Prelude.{◌≡◌, ◌⊎◌, ℕ, ◌+◌, ◌-◌, ◌<◌, max, length, take, drop}
use Rattle.promise_spec.specs.Logs.{IsPrefix}
use Rattle.promise_spec.specs.Entries.{Log, after_entries}

-- the position of a log's last entry
abbrev pub last_position : Log → ℕ
last_position log = log.base.count + length log.entries

-- the log from a position on: the entries up to there are in its base
abbrev pub from_position : ℕ → Log → Log
from_position at log = record {
  base = after_entries log.base (take (at - log.base.count) log.entries);
  entries = drop (at - log.base.count) log.entries;
}

-- From this position on both logs have the same base, and the entries of the first are a first part of the other's.
pub record GoesOn (at : ℕ) (a b : Log) : Type 0 where
  pub base : (from_position at a).base ≡ (from_position at b).base
  pub entries : IsPrefix (from_position at a).entries (from_position at b).entries

-- The first ends before the other's base, of which nothing is known but what it stands for; or from the greater of both bases
-- on the other goes on as the first.
abbrev pub IsPrefixOf : Log → Log → Type 0
IsPrefixOf a b = (last_position a < b.base.count) ⊎ GoesOn (max a.base.count b.base.count) a b
