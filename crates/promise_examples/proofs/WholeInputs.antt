-- A run that read its whole input, of which all lines may begin.
use Rattle.std.proofs.Common.{◌≡◌, ℕ, ◌≤◌, List, [], ◌++◌, length, None, sym, ap, subst, ◌∙◌, append-nil}
use Rattle.std.specs.Prelude.{take}
use Rattle.std.proofs.Math.Seq.{take-length}
use Rattle.promise_spec.specs.Programs.{Program}
use Rattle.promise_spec.specs.Windows.{first_bad}
use Rattle.promise_spec.specs.Courses.{Observed, Course, lines, core_end}
use Rattle.promise_spec.specs.Promise.{AllowsAll, AllowedBy, HasRead}

-- the first lines, as many as there are, are all lines
pub all_lines : (xs : List (List ℕ)) (n : ℕ) → n ≡ length xs → take n xs ≡ xs
all_lines xs n all = ap (λ (m : ℕ). take m xs) all ∙ take-length xs

pub whole_read : (p : Program) (r : Observed) (c : Course) → r.new.input ≡ [] → c.allowed ≡ length (lines r) → first_bad 0 (lines r) ≡ None → (core_end p c).units.lines ≤ c.allowed
    → (c.allowed ≡ 0 → c.events ≡ []) → (AllowsAll r c.allowed → AllowedBy r.ending r.old.input r c.allowed) → HasRead p r c
whole_read p r c left all good few none by_ending = record {
  pulled = r.old.input;
  input = sym (append-nil r.old.input) ∙ ap (λ (l : List ℕ). r.old.input ++ l) (sym left);
  few = few;
  none = none;
  good = subst (λ (l : List (List ℕ)). first_bad 0 l ≡ None) (sym (all_lines (lines r) c.allowed all)) good;
  allowed = by_ending (record { input = left; all = all });
}
