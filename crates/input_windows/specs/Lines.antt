-- How the lines of an input are cut into windows.
use Rattle.std.specs.Prelude.{◌≡◌, ℕ, ◌<◌, List, [], ◌∷◌, ◌++◌, length, take, drop}
use Rattle.request_wire.specs.Lines.{lines_of}

-- a window that the input goes on behind: 4,096 lines, the last of them with its line feed
pub record IsFull (window : List ℕ) : Type 0 where
  pub front : List ℕ
  pub last : window ≡ front ++ (10 ∷ [])
  pub count : length (lines_of window) ≡ 4096

-- the first window of an input, and what is left of it: the window has its first 4,096 lines, or all where it has no more
pub record IsNextLine (window input rest : List ℕ) : Type 0 where
  pub cut : input ≡ window ++ rest
  pub some : 0 < length (lines_of window)
  pub lines : lines_of window ≡ take 4096 (lines_of input)
  pub later : lines_of rest ≡ drop 4096 (lines_of input)

-- these are the windows of an input, all of them and in order
abbrev pub AreWindows : List (List ℕ) → List ℕ → Type 0
AreWindows [] input = input ≡ []
AreWindows (window ∷ windows) input = (rest : List ℕ) × IsNextLine window input rest × AreWindows windows rest

-- the lines of all these windows, one window after another
abbrev pub lines_in : List (List ℕ) → List (List ℕ)
lines_in [] = []
lines_in (window ∷ windows) = lines_of window ++ lines_in windows

-- the bytes of all these windows
abbrev pub bytes_in : List (List ℕ) → List ℕ
bytes_in [] = []
bytes_in (window ∷ windows) = window ++ bytes_in windows
