-- How lines stand in bytes, whatever follows.
use Rattle.std.proofs.Common.{◌≡◌, ℕ, ◌+◌, ◌<◌, ◌≤◌, ◌==◌, ◌||◌, nat_lt, Bool, true, false, cond, if◌then◌else◌, List, [], ◌∷◌, ◌++◌, length, Some, None, refl, sym, ap, ◌∙◌, arith, append-nil}
use Rattle.std.specs.List.{slice_split, onto_first, AllByRecursion}
use Rattle.std.proofs.lemmas.List.Splits.{slice_split_at, slice_split_none, slice_split-cons_no}
use Rattle.std.proofs.lemmas.List.Elements.{All-from_recursion}
use Rattle.std.proofs.lemmas.List.Sums.{sum_by-append}
use Rattle.std.proofs.lemmas.Bool.Decides.{nat_tests}
use Rattle.request_wire.specs.Lines.{lines_of, without_empty_last}
use Rattle.request_wire.proofs.Cuts.{slice_split-cons, keeps_first}
use Rattle.promise_spec.specs.Windows.{feeds, is_bad, first_bad}

-- none of these bytes is a line feed
abbrev pub IsPlain : List ℕ → Type 0
IsPlain bytes = AllByRecursion (λ b. (b == 10) ≡ false) bytes

pub plain_behind : (xs ys : List ℕ) → IsPlain xs → IsPlain ys → IsPlain (xs ++ ys)
plain_behind [] ys h k = k
plain_behind (x ∷ xs) ys h k = (h.0, plain_behind xs ys h.1 k)

-- a line without line feeds that a line feed ends
pub line_ended : (line more : List ℕ) → IsPlain line → lines_of (line ++ (10 ∷ more)) ≡ line ∷ lines_of more
line_ended line more plain =
    let some = slice_split-cons (λ b. b == 10) more in
    ap without_empty_last (slice_split_at (λ b. b == 10) line 10 more (All-from_recursion (λ b. (b == 10) ≡ false) line plain) refl) ∙ keeps_first line some.0 some.1 _ some.2

-- the first piece is at least what stands before the first line feed
piece_grows : (line more : List ℕ) → IsPlain line → (y : List ℕ) × (ys : List (List ℕ)) × (slice_split (λ b. b == 10) (line ++ more) ≡ y ∷ ys) × (length line ≤ length y)
piece_grows [] more plain = let some = slice_split-cons (λ b. b == 10) more in (some.0, some.1, some.2, omega arith)
piece_grows (b ∷ line) more plain =
    let later = piece_grows line more plain.1 in (
      b ∷ later.0,
      later.1,
      slice_split-cons_no (λ b. b == 10) b (line ++ more) plain.0 ∙ ap (onto_first b) later.2,
      (let h = later.3 in omega (arith, h)),
    )

has_byte : (b : ℕ) (line : List ℕ) → (length (b ∷ line) == 0) ≡ false
has_byte b line = grind (arith, nat_tests)

-- a first piece that isn't empty is a line
piece_is_line : (y : List ℕ) (ys : List (List ℕ)) → 0 < length y → (zs : List (List ℕ)) × (without_empty_last (y ∷ ys) ≡ y ∷ zs)
piece_is_line [] ys h = absurd (omega (arith, h))
piece_is_line (b ∷ y) [] h = ([], ap (λ (none : Bool). if none then [] else (b ∷ y) ∷ []) (has_byte b y))
piece_is_line (b ∷ y) (z ∷ ys) h = (without_empty_last (z ∷ ys), refl)

-- a line that has begun is there, and doesn't get shorter
pub line_begun : (line more : List ℕ) → IsPlain line → 0 < length line → (y : List ℕ) × (ys : List (List ℕ)) × (lines_of (line ++ more) ≡ y ∷ ys) × (length line ≤ length y)
line_begun line more plain some =
    let piece = piece_grows line more plain in
    let h = piece.3 in
    let is = piece_is_line piece.0 piece.1 (omega (arith, h, some)) in
    (piece.0, is.0, ap without_empty_last piece.2 ∙ is.1, h)

-- a line that nothing follows
pub line_alone : (b : ℕ) (line : List ℕ) → IsPlain (b ∷ line) → lines_of (b ∷ line) ≡ (b ∷ line) ∷ []
line_alone b line plain =
    ap without_empty_last (slice_split_none (λ b. b == 10) (b ∷ line) (All-from_recursion (λ b. (b == 10) ≡ false) (b ∷ line) plain))
    ∙ ap (λ (none : Bool). if none then [] else (b ∷ line) ∷ []) (has_byte b line)

-- where a byte stands, a line does
pub line_there : (b : ℕ) (more : List ℕ) → (y : List ℕ) × (ys : List (List ℕ)) × (lines_of (b ∷ more) ≡ y ∷ ys)
line_there b more = by (b == 10) refl
  where
    by : (is_feed : Bool) → (b == 10) ≡ is_feed → (y : List ℕ) × (ys : List (List ℕ)) × (lines_of (b ∷ more) ≡ y ∷ ys)
    by true e = let is : b ≡ 10 = grind (arith, nat_tests) in ([], lines_of more, ap (λ (x : ℕ). lines_of (x ∷ more)) is ∙ line_ended [] more tt)
    by false e = let begun = line_begun (b ∷ []) more (e, tt) (omega arith) in (begun.0, begun.1, begun.2)

-- ---- behind a line feed

pieces_behind_feed : (front rest : List ℕ) → slice_split (λ b. b == 10) (front ++ (10 ∷ rest)) ≡ slice_split (λ b. b == 10) front ++ slice_split (λ b. b == 10) rest
pieces_behind_feed [] rest = refl
pieces_behind_feed (b ∷ front) rest = by (pieces_behind_feed front rest) (b == 10)
  where
    onto_front : (xs ys : List (List ℕ)) (y : List ℕ) (zs : List (List ℕ)) → xs ≡ y ∷ zs → onto_first b (xs ++ ys) ≡ onto_first b xs ++ ys
    onto_front [] ys y zs e = absurd cc
    onto_front (x ∷ xs) ys y zs e = refl

    by : slice_split (λ b. b == 10) (front ++ (10 ∷ rest)) ≡ slice_split (λ b. b == 10) front ++ slice_split (λ b. b == 10) rest → (is_feed : Bool)
        → cond is_feed ([] ∷ slice_split (λ b. b == 10) (front ++ (10 ∷ rest))) (onto_first b (slice_split (λ b. b == 10) (front ++ (10 ∷ rest))))
        ≡ cond is_feed ([] ∷ slice_split (λ b. b == 10) front) (onto_first b (slice_split (λ b. b == 10) front)) ++ slice_split (λ b. b == 10) rest
    by later true = ap (λ (l : List (List ℕ)). [] ∷ l) later
    by later false =
        let some = slice_split-cons (λ b. b == 10) front in
        ap (onto_first b) later ∙ onto_front (slice_split (λ b. b == 10) front) (slice_split (λ b. b == 10) rest) some.0 some.1 some.2

last_stays : (xs ys : List (List ℕ)) (y : List ℕ) (zs : List (List ℕ)) → ys ≡ y ∷ zs → without_empty_last (xs ++ ys) ≡ xs ++ without_empty_last ys
last_stays [] ys y zs e = refl
last_stays (x ∷ []) [] y zs e = absurd cc
last_stays (x ∷ []) (w ∷ ws) y zs e = refl
last_stays (x ∷ (v ∷ xs)) ys y zs e = ap (λ (l : List (List ℕ)). x ∷ l) (last_stays (v ∷ xs) ys y zs e)

pub lines_behind_feed : (front rest : List ℕ) → lines_of (front ++ (10 ∷ rest)) ≡ slice_split (λ b. b == 10) front ++ lines_of rest
lines_behind_feed front rest =
    let some = slice_split-cons (λ b. b == 10) rest in
    ap without_empty_last (pieces_behind_feed front rest) ∙ last_stays (slice_split (λ b. b == 10) front) (slice_split (λ b. b == 10) rest) some.0 some.1 some.2

-- behind a line feed the lines are those before and those behind
pub lines_on_both_sides : (front rest : List ℕ) → lines_of (front ++ (10 ∷ rest)) ≡ lines_of (front ++ (10 ∷ [])) ++ lines_of rest
lines_on_both_sides front rest =
    lines_behind_feed front rest ∙ ap (λ (l : List (List ℕ)). l ++ lines_of rest) (sym (lines_behind_feed front [] ∙ append-nil (slice_split (λ b. b == 10) front)))

-- ---- as many lines as line feeds

-- a byte before pieces adds none
onto_count : (b : ℕ) (pieces : List (List ℕ)) (y : List ℕ) (ys : List (List ℕ)) → pieces ≡ y ∷ ys → length (onto_first b pieces) ≡ length pieces
onto_count b [] y ys e = absurd cc
onto_count b (x ∷ xs) y ys e = refl

-- a byte that is a line feed counts as one, and another as none
feed_is_one : (b : ℕ) → (b == 10) ≡ true → feeds (b ∷ []) ≡ 1
feed_is_one b e = rw e refl

other_is_none : (b : ℕ) → (b == 10) ≡ false → feeds (b ∷ []) ≡ 0
other_is_none b e = rw e refl

feeds_more : (b : ℕ) (bytes : List ℕ) → feeds (b ∷ bytes) ≡ feeds (b ∷ []) + feeds bytes
feeds_more b bytes = sum_by-append (λ (b : ℕ). if b == 10 then 1 else 0) (b ∷ []) bytes

-- the line feeds cut bytes into one piece more than they are
pieces_count : (bytes : List ℕ) → length (slice_split (λ b. b == 10) bytes) ≡ feeds bytes + 1
pieces_count [] = refl
pieces_count (b ∷ bytes) = by (pieces_count bytes) (b == 10) refl
  where
    by : length (slice_split (λ b. b == 10) bytes) ≡ feeds bytes + 1 → (is_feed : Bool) → (b == 10) ≡ is_feed
        → length (cond is_feed ([] ∷ slice_split (λ b. b == 10) bytes) (onto_first b (slice_split (λ b. b == 10) bytes))) ≡ feeds (b ∷ bytes) + 1
    by later true e =
        let all = feeds_more b bytes in
        let one = feed_is_one b e in
        omega (arith, later, all, one)
    by later false e =
        let some = slice_split-cons (λ b. b == 10) bytes in
        let same = onto_count b (slice_split (λ b. b == 10) bytes) some.0 some.1 some.2 in
        let all = feeds_more b bytes in
        let none = other_is_none b e in
        omega (arith, later, same, all, none)

-- bytes that end with a line feed have a line for each
pub fed_lines : (front : List ℕ) → feeds (front ++ (10 ∷ [])) ≡ length (lines_of (front ++ (10 ∷ [])))
fed_lines front =
    let lines = ap length (lines_behind_feed front [] ∙ append-nil (slice_split (λ b. b == 10) front)) in
    let pieces = pieces_count front in
    let fed : feeds (front ++ (10 ∷ [])) ≡ feeds front + 1 = sum_by-append (λ (b : ℕ). if b == 10 then 1 else 0) front (10 ∷ []) in
    omega (arith, lines, pieces, fed)

-- ---- bad lines

-- behind good lines the others are looked at
pub bad_behind : (before : ℕ) (xs ys : List (List ℕ)) → first_bad before xs ≡ None → first_bad before (xs ++ ys) ≡ first_bad (before + length xs) ys
bad_behind before [] ys good = ap (λ (n : ℕ). first_bad n ys) (let e : before ≡ before + 0 = omega arith in e)
bad_behind before (x ∷ xs) ys good = by (λ later. bad_behind (before + 1) xs ys later) (is_bad (before + 1) x) good
  where
    by : (first_bad (before + 1) xs ≡ None → first_bad (before + 1) (xs ++ ys) ≡ first_bad (before + 1 + length xs) ys) → (bad : Bool) → (if bad then Some (before + 1) else first_bad (before + 1) xs) ≡ None
        → (if bad then Some (before + 1) else first_bad (before + 1) (xs ++ ys)) ≡ first_bad (before + length (x ∷ xs)) ys
    by next true e = absurd cc
    by next false e = next e ∙ ap (λ (n : ℕ). first_bad n ys) (let q : before + 1 + length xs ≡ before + length (x ∷ xs) = omega arith in q)

-- a line that is too long
pub long_is_bad : (before : ℕ) (y : List ℕ) (ys : List (List ℕ)) → 65536 < length y → first_bad before (y ∷ ys) ≡ Some (before + 1)
long_is_bad before y ys long =
    let e : (nat_lt 65536 (length y) || nat_lt 4294967295 (before + 1)) ≡ true = grind (arith, nat_tests) in
    ap (λ (b : Bool). if b then Some (before + 1) else first_bad (before + 1) ys) e

-- a line whose number has more than 32 bits
pub late_is_bad : (before : ℕ) (y : List ℕ) (ys : List (List ℕ)) → before ≡ 4294967295 → first_bad before (y ∷ ys) ≡ Some (before + 1)
late_is_bad before y ys late =
    let e : (nat_lt 65536 (length y) || nat_lt 4294967295 (before + 1)) ≡ true = by (nat_lt 65536 (length y)) in
    ap (λ (b : Bool). if b then Some (before + 1) else first_bad (before + 1) ys) e
  where
    by : (b : Bool) → (b || nat_lt 4294967295 (before + 1)) ≡ true
    by true = refl
    by false = grind (arith, nat_tests)

-- a line that can be taken
pub line_is_good : (before : ℕ) (line : List ℕ) → length line ≤ 65536 → before < 4294967295 → first_bad before (line ∷ []) ≡ None
line_is_good before line short few =
    let e : is_bad (before + 1) line ≡ false = grind (arith, nat_tests) in
    ap (λ (b : Bool). if b then Some (before + 1) else None) e
