-- How many lines may begin, in numbers.
use Rattle.std.proofs.Common.{◌≡◌, ℕ, ◌+◌, List, [], ◌∷◌, ◌++◌, length, Option, Some, None, sym, ap, subst, ◌∙◌}
use Rattle.std.specs.Prelude.{◌||◌, nat_lt, if◌then◌else◌}
use Rattle.request_wire.specs.Lines.{lines_of}
use Rattle.promise_spec.specs.Programs.{Program}
use Rattle.promise_spec.specs.Windows.{line_limit, feeds, first_bad, told_number, before_bad, before_first, whole_windows}
use Rattle.promise_spec.specs.Endings as ending
use Rattle.promise_spec.specs.Courses.{Observed, Course, lines}
use Rattle.promise_spec.specs.Promise.{AllowsWindows, AllowsBefore, AllowedBy, KeepsAnywhere}
use Rattle.promise_spec.proofs.Lists.{some_is}
use Rattle.promise_examples.proofs.BadLines.{one_front}

-- one line, by how long it is
abbrev of_length : ℕ → ℕ → Option ℕ
of_length before size = if nat_lt line_limit size || nat_lt 4294967295 (before + 1) then Some (before + 1) else None

pub longest_line : (line : List ℕ) → length line ≡ 65536 → first_bad 0 (line ∷ []) ≡ None
longest_line line long = ap (of_length 0) long

pub longer_line : (line : List ℕ) → length line ≡ 65537 → first_bad 0 (line ∷ []) ≡ Some 1
longer_line line long = ap (of_length 0) long

-- so many lines have ended, and none is bad
pub ended_lines : (bytes : List ℕ) (n : ℕ) → first_bad 0 (lines_of bytes) ≡ None → feeds bytes ≡ n → whole_windows bytes ≡ before_first None n
ended_lines bytes n good ended = ap (λ (o : Option ℕ). before_first o (feeds bytes)) good ∙ ap (before_first None) ended

-- or this is the first bad one
pub bad_line : (bytes : List ℕ) (n : ℕ) → first_bad 0 (lines_of bytes) ≡ Some n → whole_windows bytes ≡ before_bad n
bad_line bytes n first = ap (λ (o : Option ℕ). before_first o (feeds bytes)) first

module _ (p : Program) (r : Observed) (c : Course) (keeps : KeepsAnywhere p r c) where
  -- a line that is too long is told, and the windows before its own begin
  pub long_line : (told n : ℕ) → r.ending ≡ ending.InputTooLong told → first_bad 0 (lines r) ≡ Some n → (c.allowed ≡ before_bad n) × (told ≡ told_number n)
  long_line told n is first =
      let k = keeps.ended.read in
      let l : AllowsBefore k.pulled told r c.allowed = subst (λ (x : ending.Ending). AllowedBy x k.pulled r c.allowed) is k.allowed in
      let same : l.number ≡ n = some_is l.number n (sym l.first ∙ first) in
      (l.before ∙ ap before_bad same, l.is_told ∙ ap told_number same)

  -- where reading fails, those that stand whole in what was pulled
  pub read_lines : (front : List ℕ) (n : ℕ) → r.ending ≡ ending.ReadFault → r.old.input ≡ front ++ r.new.input → feeds front ≡ n → c.allowed ≡ before_first None n
  read_lines front n is split ended =
      let k = keeps.ended.read in
      let a : AllowsWindows k.pulled c.allowed = subst (λ (x : ending.Ending). AllowedBy x k.pulled r c.allowed) is k.allowed in
      let same : k.pulled ≡ front = one_front r.old.input r.new.input k.pulled front k.input split in
      a.windows ∙ ended_lines k.pulled n a.good (ap feeds same ∙ ended)
