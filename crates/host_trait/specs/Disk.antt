-- One file between two syncs, and what a crash may leave of it.
use Rattle.std.specs.Prelude.{◌≡◌, ◌⊎◌, ℕ, ◌+◌, ◌≤◌, ◌<◌, max, Bool, true, false, List, [], ◌∷◌, ◌++◌, length, take, drop, slice_index}

-- A file: its bytes at the last successful sync, what a read gives now, each range written since that sync
-- (its offset and length), and the greatest length that the file has had, or was being given, since then.
pub record FileState : Type 0 where
  pub base : List ℕ
  pub seen : List ℕ
  pub ranges : List (ℕ × ℕ)
  pub longest : ℕ

-- none of these ranges has this offset
abbrev pub Untouched : List (ℕ × ℕ) → ℕ → Type 0
Untouched [] i = Unit {0}
Untouched (range ∷ ranges) i = ((i < range.0) ⊎ (range.0 + range.1 ≤ i)) × Untouched ranges i

-- The disk model. After a crash each range written since the last sync, and all that lies past the base's end, may
-- hold any bytes. All other bytes are the base's. The length is any from the base's to the longest.
pub record MayLeave (file : FileState) (bytes : List ℕ) : Type 0 where
  pub no_shorter : length file.base ≤ length bytes
  pub no_longer : length bytes ≤ file.longest
  pub same : (i : ℕ) → i < length file.base → Untouched file.ranges i → slice_index bytes i ≡ slice_index file.base i

-- a file of which nothing is pending: a crash leaves these bytes
abbrev pub settled : List ℕ → FileState
settled bytes = record { base = bytes; seen = bytes; ranges = []; longest = length bytes }

-- the file with these bytes from this offset on
abbrev pub overlaid : List ℕ → ℕ → List ℕ → List ℕ
overlaid file at bytes = take at file ++ bytes ++ drop (at + length bytes) file

-- A write of n bytes at this offset that was cut short: any bytes in its range, the old ones elsewhere, and any
-- length from the old one to what the write would have given.
pub record Tears (at n : ℕ) (old new : List ℕ) : Type 0 where
  pub before : take at new ≡ take at old
  pub after : drop (at + n) new ≡ drop (at + n) old
  pub no_shorter : length old ≤ length new
  pub no_longer : length new ≤ max (length old) (at + n)

-- one more range is pending
pub record Pends (at n : ℕ) (old new : FileState) : Type 0 where
  pub base : new.base ≡ old.base
  pub ranges : new.ranges ≡ (at, n) ∷ old.ranges
  pub longest : new.longest ≡ max old.longest (at + n)

-- What a write does to its file, whether it succeeds or not: its range is pending, or it never began.
pub record Wrote (at n : ℕ) (old new : FileState) : Type 0 where
  pub pends : Pends at n old new ⊎ (new ≡ old)
  pub seen : Tears at n old.seen new.seen

-- what a write that succeeds does: its range is pending, and a read gives its bytes
pub record Overwrote (at : ℕ) (bytes : List ℕ) (old new : FileState) : Type 0 where
  pub pends : Pends at (length bytes) old new
  pub seen : new.seen ≡ overlaid old.seen at bytes

-- what a sync makes of its file, by whether it succeeds: after success nothing is pending
abbrev pub after_sync : Bool → FileState → FileState
after_sync true file = settled file.seen
after_sync false file = file
