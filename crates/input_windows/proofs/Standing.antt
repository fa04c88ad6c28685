-- What has been seen of a window goes on with the next byte.
use Rattle.std.proofs.Common.{◌≡◌, ◌≢◌, ℕ, zero, suc, get_or, take, drop, drop-cons, ◌+◌, ◌<◌, ◌≤◌, ◌==◌, min, false, if◌then◌else◌, List, [], ◌∷◌, ◌++◌, length, Some, None, refl, sym, ap, subst, ◌∙◌, arith, append-nil, append_assoc, length-append}
use Rattle.std.proofs.lemmas.List.{take_more, take-append-drop}
use Rattle.std.proofs.lemmas.List.Sums.{sum_by-append}
use Rattle.std.proofs.lemmas.Bool.Decides.{nat_tests}
use Rattle.request_wire.specs.Lines.{lines_of}
use Rattle.promise_spec.specs.Windows.{feeds, first_bad}
use Rattle.input_windows.specs.Scans.{ScanStands, WindowEnds, HasBadLine, HasNoEnd}
use Rattle.input_windows.proofs.Cuts.{IsPlain, plain_behind, line_ended, line_begun, line_alone, line_there, bad_behind, long_is_bad, late_is_bad, line_is_good}

none_has_length : {A : Type 0} (xs : List A) → length xs ≡ 0 → xs ≡ []
none_has_length [] e = refl
none_has_length (x ∷ xs) e = absurd (omega (arith, e))

-- ---- line feeds

feeds_behind : (xs : List ℕ) (b : ℕ) → feeds (xs ++ (b ∷ [])) ≡ feeds xs + feeds (b ∷ [])
feeds_behind xs b = sum_by-append (λ (b : ℕ). if b == 10 then 1 else 0) xs (b ∷ [])

other_is_none : (b : ℕ) → (b == 10) ≡ false → feeds (b ∷ []) ≡ 0
other_is_none b e = rw e refl

-- ---- a window begins

pub nothing_stands : (before : ℕ) → before ≤ 4294967295 → ScanStands before [] 0 0
nothing_stands before few = record {
  ended = [];
  open_line = [];
  count = refl;
  size = refl;
  plain = tt;
  seam = λ more. refl;
  good = refl;
  few = omega (arith, few);
  short = omega arith;
  numbered = λ h. absurd (omega (arith, h));
  fed = refl;
  bound = omega arith;
}

-- ---- the next byte

-- a line feed ends the open line
pub stands_behind_feed : (before lines stood : ℕ) (seen : List ℕ) → ScanStands before seen lines stood → before + lines < 4294967295 → ScanStands before (seen ++ (10 ∷ [])) (lines + 1) 0
stands_behind_feed before lines stood seen s few =
    let count = s.count in
    let size = s.size in
    let short = s.short in
    let bound = s.bound in
    record {
      ended = s.ended ++ (s.open_line ∷ []);
      open_line = [];
      count = length-append s.ended (s.open_line ∷ []) ∙ ap (λ (n : ℕ). n + 1) count;
      size = refl;
      plain = tt;
      seam = λ more.
          ap lines_of (append_assoc seen (10 ∷ []) more) ∙ s.seam (10 ∷ more) ∙ ap (λ (l : List (List ℕ)). s.ended ++ l) (line_ended s.open_line more s.plain)
          ∙ sym (append_assoc s.ended (s.open_line ∷ []) (lines_of more));
      good = bad_behind before s.ended (s.open_line ∷ []) s.good ∙ line_is_good (before + length s.ended) s.open_line (omega (arith, size, short)) (omega (arith, count, few));
      few = omega (arith, few);
      short = omega arith;
      numbered = λ h. absurd (omega (arith, h));
      fed = feeds_behind seen 10 ∙ ap (λ (n : ℕ). n + 1) s.fed;
      bound = (let l = length-append seen (10 ∷ []) in omega (arith, l, bound, short));
    }

-- any other byte goes on in the open line
pub stands_behind_byte : (before lines stood : ℕ) (seen : List ℕ) (b : ℕ) → ScanStands before seen lines stood → (b == 10) ≡ false → before + lines < 4294967295 → stood < 65536 → ScanStands before (seen ++ (b ∷ [])) lines (stood + 1)
stands_behind_byte before lines stood seen b s other few short =
    let bound = s.bound in
    record {
      ended = s.ended;
      open_line = s.open_line ++ (b ∷ []);
      count = s.count;
      size = length-append s.open_line (b ∷ []) ∙ ap (λ (n : ℕ). n + 1) s.size;
      plain = plain_behind s.open_line (b ∷ []) s.plain (other, tt);
      seam = λ more.
          ap lines_of (append_assoc seen (b ∷ []) more) ∙ s.seam (b ∷ more) ∙ ap (λ (l : List ℕ). s.ended ++ lines_of l) (sym (append_assoc s.open_line (b ∷ []) more));
      good = s.good;
      few = s.few;
      short = omega (arith, short);
      numbered = λ h. few;
      fed = feeds_behind seen b ∙ ap (λ (n : ℕ). feeds seen + n) (other_is_none b other) ∙ (let f = s.fed in let q : feeds seen + 0 ≡ lines = omega (arith, f) in q);
      bound = (let l = length-append seen (b ∷ []) in omega (arith, l, bound));
    }

-- ---- ends

-- the lines of what has been seen, where no line is open
lines_ended : (before lines : ℕ) (seen : List ℕ) (s : ScanStands before seen lines 0) (more : List ℕ) → lines_of (seen ++ more) ≡ s.ended ++ lines_of more
lines_ended before lines seen s more = s.seam more ∙ ap (λ (l : List ℕ). s.ended ++ lines_of (l ++ more)) (none_has_length s.open_line s.size)

-- a window of 4,096 lines ends at the last line feed
pub window_ends : (before lines : ℕ) (front : List ℕ) → ScanStands before (front ++ (10 ∷ [])) lines 0 → lines ≡ 4096 → WindowEnds before (front ++ (10 ∷ []))
window_ends before lines front s whole =
    let window = front ++ (10 ∷ []) in
    let all : lines_of window ≡ s.ended = ap lines_of (sym (append-nil window)) ∙ lines_ended before lines window s [] ∙ append-nil s.ended in
    record {
      full = record { front = front; last = refl; count = ap length all ∙ s.count ∙ whole };
      good = ap (first_bad before) all ∙ s.good;
      few = (let f = s.few in omega (arith, f, whole));
      seam = λ more. lines_ended before lines window s more ∙ ap (λ (l : List (List ℕ)). l ++ lines_of more) (sym all);
    }

-- a byte of a line that has no number
pub line_too_many : (before lines stood : ℕ) (seen : List ℕ) (b : ℕ) (rest : List ℕ) → ScanStands before seen lines stood → before + lines ≡ 4294967295 → HasBadLine before (seen ++ (b ∷ rest)) (before + lines + 1)
line_too_many before lines stood seen b rest s late more =
    let numbered = s.numbered in
    let size = s.size in
    let count = s.count in
    let none : stood ≡ 0 = by stood numbered in
    let there = line_there b (rest ++ more) in
    ap (first_bad before) (ap lines_of (append_assoc seen (b ∷ rest) more) ∙ s.seam (b ∷ (rest ++ more))
    ∙ ap (λ (l : List ℕ). s.ended ++ lines_of (l ++ (b ∷ (rest ++ more)))) (none_has_length s.open_line (size ∙ none)) ∙ ap (λ (l : List (List ℕ)). s.ended ++ l) there.2)
    ∙ bad_behind before s.ended (there.0 ∷ there.1) s.good
    ∙ late_is_bad (before + length s.ended) there.0 there.1 (omega (arith, count, late))
    ∙ ap (λ (n : ℕ). Some (before + n + 1)) count
  where
    by : (n : ℕ) → (0 < n → before + lines < 4294967295) → n ≡ 0
    by zero h = refl
    by (suc n) h = let k = h (omega arith) in absurd (omega (arith, k, late))

-- a byte behind the 65,536th of a line
pub line_too_long : (before lines stood : ℕ) (seen : List ℕ) (b : ℕ) (rest : List ℕ) → ScanStands before seen lines stood → (b == 10) ≡ false → stood ≡ 65536 → HasBadLine before (seen ++ (b ∷ rest)) (before + lines + 1)
line_too_long before lines stood seen b rest s other long more =
    let size = s.size in
    let count = s.count in
    let line = s.open_line ++ (b ∷ []) in
    let grown = length-append s.open_line (b ∷ []) in
    let begun = line_begun line (rest ++ more) (plain_behind s.open_line (b ∷ []) s.plain (other, tt)) (omega (arith, grown)) in
    let reach = begun.3 in
    ap (first_bad before) (ap lines_of (append_assoc seen (b ∷ rest) more) ∙ s.seam (b ∷ (rest ++ more))
    ∙ ap (λ (l : List ℕ). s.ended ++ lines_of l) (sym (append_assoc s.open_line (b ∷ []) (rest ++ more))) ∙ ap (λ (l : List (List ℕ)). s.ended ++ l) begun.2)
    ∙ bad_behind before s.ended (begun.0 ∷ begun.1) s.good
    ∙ long_is_bad (before + length s.ended) begun.0 begun.1 (omega (arith, grown, size, long, reach))
    ∙ ap (λ (n : ℕ). Some (before + n + 1)) count

-- ---- what stands at last

-- the lines of what has been seen: those that have ended, and the open one where it has a byte; none of them is bad
pub lines_that_stand : (before lines stood : ℕ) (seen : List ℕ) → ScanStands before seen lines stood
    → (length (lines_of seen) ≡ lines + min stood 1) × (first_bad before (lines_of seen) ≡ None)
lines_that_stand before lines stood seen s = by s.open_line s.size s.plain (ap lines_of (sym (append-nil seen)) ∙ s.seam [] ∙ ap (λ (l : List ℕ). s.ended ++ lines_of l) (append-nil s.open_line))
  where
    by : (line : List ℕ) → length line ≡ stood → IsPlain line → lines_of seen ≡ s.ended ++ lines_of line → (length (lines_of seen) ≡ lines + min stood 1) × (first_bad before (lines_of seen) ≡ None)
    by [] size plain is =
        let count = s.count in
        let all = ap length is ∙ length-append s.ended [] in
        (omega (arith, count, all, size), ap (first_bad before) (is ∙ append-nil s.ended) ∙ s.good)
    by (b ∷ line) size plain is =
        let count = s.count in
        let alone = line_alone b line plain in
        let is_all : lines_of seen ≡ s.ended ++ ((b ∷ line) ∷ []) = is ∙ ap (λ (l : List (List ℕ)). s.ended ++ l) alone in
        let all = ap length is_all ∙ length-append s.ended ((b ∷ line) ∷ []) in
        let short = s.short in
        let few = s.numbered (omega (arith, size)) in (
          omega (arith, count, all, size),
          ap (first_bad before) is_all ∙ bad_behind before s.ended ((b ∷ line) ∷ []) s.good ∙ line_is_good (before + length s.ended) (b ∷ line) (omega (arith, size, short)) (omega (arith, count, few)),
        )

-- they are no more than have a number
pub few_stand : (before lines stood : ℕ) (seen : List ℕ) → ScanStands before seen lines stood → before + (lines + min stood 1) ≤ 4294967295
few_stand before lines stood seen s = by stood s.few s.numbered
  where
    by : (n : ℕ) → before + lines ≤ 4294967295 → (0 < n → before + lines < 4294967295) → before + (lines + min n 1) ≤ 4294967295
    by zero few numbered = omega (arith, few)
    by (suc n) few numbered = let h = numbered (omega arith) in omega (arith, h)

-- neither a window nor a bad line
pub nothing_ends : (before lines stood : ℕ) (seen : List ℕ) → ScanStands before seen lines stood → lines < 4096 → HasNoEnd before seen
nothing_ends before lines stood seen s few = record {
  good = (lines_that_stand before lines stood seen s).1;
  few = (let f = s.fed in omega (arith, f, few));
}

-- ---- a byte at its place

one_more : (seen bytes : List ℕ) (i : ℕ) → i < length bytes → (seen ++ take i bytes) ++ (get_or bytes i 0 ∷ []) ≡ seen ++ take (i + 1) bytes
one_more seen bytes i within = append_assoc seen (take i bytes) (get_or bytes i 0 ∷ []) ∙ ap (λ (l : List ℕ). seen ++ l) (sym (take_more bytes i 0 within))

all_of_them : (seen bytes : List ℕ) (i : ℕ) → i < length bytes → (seen ++ take i bytes) ++ (get_or bytes i 0 ∷ drop (suc i) bytes) ≡ seen ++ bytes
all_of_them seen bytes i within =
    append_assoc seen (take i bytes) (get_or bytes i 0 ∷ drop (suc i) bytes)
    ∙ ap (λ (l : List ℕ). seen ++ l) (ap (λ (l : List ℕ). take i bytes ++ l) (sym (drop-cons bytes i 0 within)) ∙ take-append-drop i bytes)

other_than_feed : (b : ℕ) → b ≢ 10 → (b == 10) ≡ false
other_than_feed b h = grind (arith, nat_tests)

pub feed_here : (before lines stood : ℕ) (seen bytes : List ℕ) (i : ℕ) → i < length bytes → ScanStands before (seen ++ take i bytes) lines stood → get_or bytes i 0 ≡ 10 → before + lines < 4294967295
    → ScanStands before (seen ++ take (i + 1) bytes) (lines + 1) 0
feed_here before lines stood seen bytes i within s feed few =
    subst (λ (l : List ℕ). ScanStands before l (lines + 1) 0) (ap (λ (b : ℕ). (seen ++ take i bytes) ++ (b ∷ [])) (sym feed) ∙ one_more seen bytes i within)
    (stands_behind_feed before lines stood (seen ++ take i bytes) s few)

pub byte_here : (before lines stood : ℕ) (seen bytes : List ℕ) (i : ℕ) → i < length bytes → ScanStands before (seen ++ take i bytes) lines stood → get_or bytes i 0 ≢ 10 → before + lines < 4294967295 → stood < 65536
    → ScanStands before (seen ++ take (i + 1) bytes) lines (stood + 1)
byte_here before lines stood seen bytes i within s other few short =
    subst (λ (l : List ℕ). ScanStands before l lines (stood + 1)) (one_more seen bytes i within)
    (stands_behind_byte before lines stood (seen ++ take i bytes) (get_or bytes i 0) s (other_than_feed (get_or bytes i 0) other) few short)

pub window_ends_here : (before lines stood : ℕ) (seen bytes : List ℕ) (i : ℕ) → i < length bytes → ScanStands before (seen ++ take i bytes) lines stood → get_or bytes i 0 ≡ 10 → before + lines < 4294967295 → lines + 1 ≡ 4096
    → WindowEnds before (seen ++ take (i + 1) bytes)
window_ends_here before lines stood seen bytes i within s feed few whole =
    subst (WindowEnds before) (ap (λ (b : ℕ). (seen ++ take i bytes) ++ (b ∷ [])) (sym feed) ∙ one_more seen bytes i within)
    (window_ends before (lines + 1) (seen ++ take i bytes) (stands_behind_feed before lines stood (seen ++ take i bytes) s few) whole)

pub too_many_here : (before lines stood : ℕ) (seen bytes : List ℕ) (i : ℕ) → i < length bytes → ScanStands before (seen ++ take i bytes) lines stood → before + lines ≡ 4294967295
    → HasBadLine before (seen ++ bytes) (before + lines + 1)
too_many_here before lines stood seen bytes i within s late =
    subst (λ (l : List ℕ). HasBadLine before l (before + lines + 1)) (all_of_them seen bytes i within)
    (line_too_many before lines stood (seen ++ take i bytes) (get_or bytes i 0) (drop (suc i) bytes) s late)

pub too_long_here : (before lines stood : ℕ) (seen bytes : List ℕ) (i : ℕ) → i < length bytes → ScanStands before (seen ++ take i bytes) lines stood → get_or bytes i 0 ≢ 10 → stood ≡ 65536
    → HasBadLine before (seen ++ bytes) (before + lines + 1)
too_long_here before lines stood seen bytes i within s other long =
    subst (λ (l : List ℕ). HasBadLine before l (before + lines + 1)) (all_of_them seen bytes i within)
    (line_too_long before lines stood (seen ++ take i bytes) (get_or bytes i 0) (drop (suc i) bytes) s (other_than_feed (get_or bytes i 0) other) long)
