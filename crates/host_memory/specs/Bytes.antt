-- The first bytes of an outcome.
use Rattle.std.specs.Prelude.{◌≡◌, ℕ, ◌<◌, List, length, slice_index}
use Rattle.host_trait.specs.Disk.{Untouched}

-- so many bytes, the same as before wherever no range of a write has touched them
pub record KeepsBytes (base : List ℕ) (ranges : List (ℕ × ℕ)) (bytes : List ℕ) (count : ℕ) : Type 0 where
  pub len : length bytes ≡ count
  pub same : (i : ℕ) → i < count → i < length base → Untouched ranges i → slice_index bytes i ≡ slice_index base i
