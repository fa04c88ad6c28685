-- What bytes bring to a window, as far as it has been seen.
use Rattle.std.specs.Prelude.{◌≡◌, ℕ, ◌+◌, ◌*◌, ◌<◌, ◌≤◌, ◌==◌, false, List, ◌++◌, length, take, Some, None}
use Rattle.std.specs.List.{AllByRecursion}
use Rattle.request_wire.specs.Lines.{lines_of}
use Rattle.promise_spec.specs.Windows.{feeds, first_bad}
use Rattle.input_windows.specs.Lines.{IsFull}
use Rattle.input_windows.specs.declared.scan.Found.{Found}

-- What has been seen of a window behind so many lines: so many lines have ended, and so many bytes stand in the open one. None of
-- them is bad, and what follows goes on in the open line.
pub record ScanStands (before : ℕ) (seen : List ℕ) (lines stood : ℕ) : Type 0 where
  pub ended : List (List ℕ)
  pub open_line : List ℕ
  pub count : length ended ≡ lines
  pub size : length open_line ≡ stood
  pub plain : AllByRecursion (λ b. (b == 10) ≡ false) open_line
  pub seam : (more : List ℕ) → lines_of (seen ++ more) ≡ ended ++ lines_of (open_line ++ more)
  pub good : first_bad before ended ≡ None
  pub few : before + lines ≤ 4294967295
  pub short : stood ≤ 65536
  pub numbered : 0 < stood → before + lines < 4294967295
  pub fed : feeds seen ≡ lines
  pub bound : length seen ≤ lines * 65537 + stood

-- a whole window, all of whose lines have a number and can be taken, and whose lines the next bytes leave
pub record WindowEnds (before : ℕ) (window : List ℕ) : Type 0 where
  pub full : IsFull window
  pub good : first_bad before (lines_of window) ≡ None
  pub few : before + 4096 ≤ 4294967295
  pub seam : (more : List ℕ) → lines_of (window ++ more) ≡ lines_of window ++ lines_of more

-- the first bad line is this one, whatever follows
abbrev pub HasBadLine : ℕ → List ℕ → ℕ → Type 0
HasBadLine before bytes number = (more : List ℕ) → first_bad before (lines_of (bytes ++ more)) ≡ Some number

-- neither a whole window nor a bad line stands in these bytes
pub record HasNoEnd (before : ℕ) (bytes : List ℕ) : Type 0 where
  pub good : first_bad before (lines_of bytes) ≡ None
  pub few : feeds bytes < 4096

-- what is found in these bytes behind those that were seen
abbrev pub IsFound : ℕ → List ℕ → List ℕ → Found → Type 0
IsFound before seen bytes (Found.End size) = (0 < size) × (size ≤ length bytes) × WindowEnds before (seen ++ take size bytes)
IsFound before seen bytes (Found.BadLine behind) =
    HasBadLine before (seen ++ bytes) (before + behind + 1) × (behind < 4096) × (before + behind ≤ 4294967295)
IsFound before seen bytes (Found.Open lines size) = ScanStands before (seen ++ bytes) lines size × (lines < 4096) × (size ≤ 65536)
