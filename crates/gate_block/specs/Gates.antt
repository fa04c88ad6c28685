-- Gates in a file. A gate is open exactly where its byte is 1.
use Rattle.std.specs.Prelude.{◌≢◌, ℕ, ◌<◌, ◌==◌, Bool, List, length, slice_index}

-- there is a gate, and it isn't open
abbrev pub IsClosedAt : ℕ → List ℕ → Type 0
IsClosedAt gate file = (gate < length file) × (slice_index file gate ≢ 1)

-- There is a gate, and it is open. (A byte past the end counts as 0.)
abbrev pub is_open_at : ℕ → List ℕ → Bool
is_open_at gate file = slice_index file gate == 1
