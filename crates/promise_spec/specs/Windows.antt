-- How an input is cut into windows, and which lines it may have.
use Rattle.std.specs.Prelude.{ℕ, ◌+◌, ◌-◌, ◌*◌, ◌/◌, ◌%◌, ◌^◌, ◌==◌, ◌||◌, nat_lt, Bool, List, [], ◌∷◌, length, Option, Some, None, if◌then◌else◌}
use Rattle.std.specs.List.{count_by}
use Rattle.request_wire.specs.Lines.{lines_of}

-- how many lines a window has, unless the input ends before
abbrev pub window_lines : ℕ
window_lines = 4096

-- the most bytes that a line may have, without its line feed
abbrev pub line_limit : ℕ
line_limit = 65536

-- how many line feeds stand in these bytes
abbrev pub feeds : List ℕ → ℕ
feeds bytes = count_by (λ b. b == 10) bytes

-- whether a line of this number can't be taken: it has too many bytes, or its number more than 32 bits
abbrev pub is_bad : ℕ → List ℕ → Bool
is_bad number line = nat_lt line_limit (length line) || nat_lt 4294967295 number

-- the number of the first of these lines that can't be taken, where so many lines stand before them
abbrev pub first_bad : ℕ → List (List ℕ) → Option ℕ
first_bad before [] = None
first_bad before (line ∷ lines) = if is_bad (before + 1) line then Some (before + 1) else first_bad (before + 1) lines

-- the number that is told of a bad line: 0 where it has more than 32 bits
abbrev pub told_number : ℕ → ℕ
told_number number = number % (2 ^ 32)

-- so many lines, without those behind the last window's end
abbrev pub in_windows : ℕ → ℕ
in_windows lines = lines / window_lines * window_lines

-- how many lines the windows before the one of this line have
abbrev pub before_bad : ℕ → ℕ
before_bad number = in_windows (number - 1)

-- how many lines the windows have that stand whole before a bad line, where there is one; of so many lines that have ended
abbrev pub before_first : Option ℕ → ℕ → ℕ
before_first None ended = in_windows ended
before_first (Some number) ended = before_bad number

-- how many lines the windows have that stand whole in these bytes of an input, which it begins with
abbrev pub whole_windows : List ℕ → ℕ
whole_windows bytes = before_first (first_bad 0 (lines_of bytes)) (feeds bytes)
