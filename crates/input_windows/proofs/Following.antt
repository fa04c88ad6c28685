-- Windows that follow one another.
use Rattle.std.proofs.Common.{◌≡◌, ◌≢◌, ℕ, ◌+◌, ◌%◌, ◌<◌, ◌≤◌, List, [], ◌∷◌, ◌++◌, length, take, drop, refl, sym, ap, ◌∙◌, arith, append-nil, append_assoc, take_all}
use Rattle.std.proofs.Math.ListN.{drop_of_length-le}
use Rattle.std.proofs.Math.Seq.{take-append_seam, drop-append_seam}
use Rattle.std.proofs.lemmas.List.{take-append-drop, length-take, length-drop}
use Rattle.request_wire.specs.Lines.{lines_of}
use Rattle.promise_spec.specs.Windows.{before_bad}
use Rattle.input_windows.specs.Lines.{AreWindows, IsFull, IsNextLine, bytes_in, lines_in}
use Rattle.input_windows.proofs.Cuts.{line_there, lines_on_both_sides}

-- behind a whole window the lines are its own and those behind it
pub full_seam : (window more : List ℕ) → IsFull window → lines_of (window ++ more) ≡ lines_of window ++ lines_of more
full_seam window more full =
    ap (λ (l : List ℕ). lines_of (l ++ more)) full.last ∙ ap lines_of (append_assoc full.front (10 ∷ []) more) ∙ lines_on_both_sides full.front more
    ∙ ap (λ (l : List ℕ). lines_of l ++ lines_of more) (sym full.last)

-- ---- the next window

-- the next window is one that is full
pub full_is_next : (window input rest : List ℕ) → input ≡ window ++ rest → IsFull window → IsNextLine window input rest
full_is_next window input rest cut full =
    let all : lines_of input ≡ lines_of window ++ lines_of rest = ap lines_of cut ∙ full_seam window rest full in
    let count = full.count in
    record {
      cut = cut;
      some = omega (arith, count);
      lines = sym (take-append_seam (lines_of window) (lines_of rest)) ∙ ap (λ (n : ℕ). take n (lines_of window ++ lines_of rest)) count ∙ ap (take 4096) (sym all);
      later = sym (drop-append_seam (lines_of window) (lines_of rest)) ∙ ap (λ (n : ℕ). drop n (lines_of window ++ lines_of rest)) count ∙ ap (drop 4096) (sym all);
    }

-- or it is all
pub last_is_next : (window input rest : List ℕ) → input ≡ window ++ rest → rest ≡ [] → 0 < length (lines_of window) → length (lines_of window) ≤ 4096 → IsNextLine window input rest
last_is_next window input rest cut none some most =
    let all : lines_of input ≡ lines_of window = ap lines_of (cut ∙ ap (λ (l : List ℕ). window ++ l) none ∙ append-nil window) in
    record {
      cut = cut;
      some = some;
      lines = sym (take_all 4096 (lines_of window) most) ∙ ap (take 4096) (sym all);
      later = ap lines_of none ∙ sym (drop_of_length-le (lines_of window) most) ∙ ap (drop 4096) (sym all);
    }

-- ---- all windows

pub windows_are_bytes : (windows : List (List ℕ)) (input : List ℕ) → AreWindows windows input → input ≡ bytes_in windows
windows_are_bytes [] input are = are
windows_are_bytes (window ∷ windows) input are = are.1.cut ∙ ap (λ (l : List ℕ). window ++ l) (windows_are_bytes windows are.0 are.2)

pub windows_are_lines : (windows : List (List ℕ)) (input : List ℕ) → AreWindows windows input → lines_of input ≡ lines_in windows
windows_are_lines [] input are = ap lines_of are
windows_are_lines (window ∷ windows) input are =
    let next = are.1 in
    sym (take-append-drop 4096 (lines_of input)) ∙ ap (λ (l : List (List ℕ)). l ++ drop 4096 (lines_of input)) (sym next.lines)
    ∙ ap (λ (l : List (List ℕ)). lines_of window ++ l) (sym next.later ∙ windows_are_lines windows are.0 are.2)

-- a window that something follows has 4,096 lines
pub followed_is_full : (window input rest : List ℕ) → IsNextLine window input rest → rest ≢ [] → length (lines_of window) ≡ 4096
followed_is_full window input [] next some = absurd (some refl)
followed_is_full window input (b ∷ rest) next some =
    let there = line_there b rest in
    let left : there.0 ∷ there.1 ≡ drop 4096 (lines_of input) = sym there.2 ∙ next.later in
    let l = ap length left ∙ length-drop 4096 (lines_of input) in
    let t = ap length next.lines ∙ length-take 4096 (lines_of input) in
    omega (arith, l, t)

-- ---- the window of a bad line

pub before_is : (before number : ℕ) → before % 4096 ≡ 0 → before < number → number ≤ before + 4096 → before_bad number ≡ before
before_is before number whole above within = omega (arith, whole, above, within)
