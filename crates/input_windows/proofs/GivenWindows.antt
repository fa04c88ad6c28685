-- What is given of an input, window by window.
use Rattle.std.proofs.Common.{◌≡◌, ◌⊎◌, inl, inr, ℕ, ◌+◌, ◌%◌, ◌<◌, ◌≤◌, ◌==◌, Bool, true, false, IsTrue, if◌then◌else◌, List, [], ◌∷◌, ◌++◌, length, take, Option, Some, None, refl, sym, ap, subst, ◌∙◌, arith, append-nil, append_assoc, length-append, take_all}
use Rattle.std.proofs.Math.Seq.{take-append_seam}
use Rattle.std.proofs.lemmas.List.Sums.{sum_by-append}
use Rattle.host_trait.specs.World.{World}
use Rattle.request_wire.specs.Lines.{lines_of}
use Rattle.promise_spec.specs.Endings as ending
use Rattle.promise_spec.specs.Windows.{feeds, is_bad, first_bad, before_bad, in_windows, before_first, whole_windows}
use Rattle.input_windows.specs.Lines.{IsFull}
use Rattle.input_windows.specs.Pulls.{Took}
use Rattle.input_windows.specs.Scans.{HasNoEnd}
use Rattle.input_windows.specs.declared.windows.InputWindows.{InputWindows}
use Rattle.input_windows.specs.declared.windows.WindowFault.{WindowFault}
use Rattle.input_windows.specs.Windows.{window_in, left_in, before_in, given_in, is_last_in, input_behind, InputHasEnded, EndsBy, GaveWindow, GaveEnd, Refused}
use Rattle.input_windows.specs.GivenWindows.{AreWhole, GivenTo, HasGiven, HasNext, IsGood, InputEndsAs, InputEnds, input_ending}
use Rattle.input_windows.proofs.Cuts.{bad_behind, fed_lines}
use Rattle.input_windows.proofs.Following.{full_seam, before_is}

-- ---- counts

pub feeds_append : (xs ys : List ℕ) → feeds (xs ++ ys) ≡ feeds xs + feeds ys
feeds_append xs ys = sum_by-append (λ (b : ℕ). if b == 10 then 1 else 0) xs ys

-- behind whole windows the windows of what follows are added
windows_on : (lines more : ℕ) → lines % 4096 ≡ 0 → more < 4096 → in_windows (lines + more) ≡ lines
windows_on lines more whole few = omega (arith, whole, few)

windows_most : (lines more : ℕ) → lines % 4096 ≡ 0 → lines ≤ in_windows (lines + more)
windows_most lines more whole = omega (arith, whole)

-- a bad line behind whole windows leaves them
windows_before : (lines number : ℕ) → lines % 4096 ≡ 0 → lines < number → lines ≤ before_bad number
windows_before lines number whole above = omega (arith, whole, above)

-- a whole window has as many line feeds as lines
full_fed : (window : List ℕ) → IsFull window → feeds window ≡ length (lines_of window)
full_fed window full = ap feeds full.last ∙ fed_lines full.front ∙ ap (λ (x : List ℕ). length (lines_of x)) (sym full.last)

-- the first bad line comes behind those before
bad_above : (before n : ℕ) (lines : List (List ℕ)) → first_bad before lines ≡ Some n → before < n
bad_above before n [] e = absurd cc
bad_above before n (line ∷ lines) e = by (λ q. bad_above (before + 1) n lines q) (is_bad (before + 1) line) e
  where
    some_same : (a b : ℕ) → Some a ≡ Some b → a ≡ b
    some_same a b q = cc q

    by : (first_bad (before + 1) lines ≡ Some n → before + 1 < n) → (bad : Bool) → (if bad then Some (before + 1) else first_bad (before + 1) lines) ≡ Some n → before < n
    by later true q = let s = some_same (before + 1) n q in omega (arith, s)
    by later false q = let s = later q in omega (arith, s)

-- ---- at the begin

pub given_none : (tells : Bool) (input : List ℕ) (w : InputWindows) (now : World) → (IsTrue tells → input ≡ now.input) → left_in w ≡ [] → given_in w ≡ 0 → is_last_in w ≡ false → HasGiven tells input [] w now
given_none tells input w now is none zero_is first = record {
  given = [];
  whole = λ told. is told ∙ ap (λ (l : List ℕ). l ++ now.input) (sym none);
  lines = refl;
  good = refl;
  count = zero_is;
  ends = subst (λ (last : Bool). GivenTo last tells [] [] w now) (sym first) (record { fed = refl; seam = omega arith; later = λ more. refl });
}

-- ---- with what is pulled

module _ (tells : Bool) (input : List ℕ) (asked : List (List ℕ)) (w w' : InputWindows) (old new : World) (g : HasGiven tells input asked w old) where
  -- what was left and what was pulled, cut otherwise
  cut_again : (a b : List ℕ) → Took tells old new (left_in w) (a ++ b) → IsTrue tells → input ≡ (g.given ++ a) ++ (b ++ new.input)
  cut_again a b took told =
      g.whole told
      ∙ ap (λ (l : List ℕ). g.given ++ l)
      (ap (λ (l : List ℕ). left_in w ++ l) (took.input told) ∙ sym (append_assoc (left_in w) took.bytes new.input) ∙ ap (λ (l : List ℕ). l ++ new.input) (sym took.stand) ∙ append_assoc a b new.input)
      ∙ sym (append_assoc g.given a (b ++ new.input))

  module _ (are : AreWhole g.given asked) where
    -- the given lines are the first
    front : (rest : List ℕ) → input ≡ g.given ++ rest → take (length asked) (lines_of input) ≡ asked
    front rest is = ap (λ (l : List ℕ). take (length asked) (lines_of l)) is ∙ ap (take (length asked)) (are.later rest) ∙ take-append_seam asked (lines_of rest)

    bad_after : (more : List (List ℕ)) → first_bad 0 (asked ++ more) ≡ first_bad (length asked) more
    bad_after more = bad_behind 0 asked more g.good ∙ ap (λ (n : ℕ). first_bad n more) (let same : 0 + length asked ≡ length asked = omega arith in same)

    bad_on : (more : List ℕ) → first_bad 0 (lines_of (g.given ++ more)) ≡ first_bad (length asked) (lines_of more)
    bad_on more = ap (first_bad 0) (are.later more) ∙ bad_after (lines_of more)

    -- ---- a window came

    module _ (took : Took tells old new (left_in w) (window_in w' ++ left_in w')) (before : before_in w' ≡ given_in w) (lines : given_in w' ≡ before_in w' + length (lines_of (window_in w'))) where
      given_further : GaveWindow tells w' new → HasGiven tells input (asked ++ lines_of (window_in w')) w' new
      given_further gave = record {
        given = g.given ++ window_in w';
        whole = λ told. cut_again (window_in w') (left_in w') took told;
        lines = are.later (window_in w');
        good = bad_after (lines_of (window_in w')) ∙ ap (λ (n : ℕ). first_bad n (lines_of (window_in w'))) (sym (before ∙ g.count)) ∙ gave.good;
        count = (let l = length-append asked (lines_of (window_in w')) in let c = g.count in omega (arith, lines, before, l, c));
        ends = by (is_last_in w') gave.ends;
      }
        where
          by : (last : Bool) → EndsBy last tells w' new → GivenTo last tells (g.given ++ window_in w') (asked ++ lines_of (window_in w')) w' new
          by true ends = ends
          by false full =
              let l = length-append asked (lines_of (window_in w')) in
              let c = full.count in
              let seam = are.seam in
              let fed = are.fed in
              let f = feeds_append g.given (window_in w') in
              let all = full_fed (window_in w') full in
              record {
                fed = omega (arith, f, fed, all, l);
                seam = omega (arith, l, c, seam);
                later = λ more.
                    ap lines_of (append_assoc g.given (window_in w') more) ∙ are.later (window_in w' ++ more) ∙ ap (λ (x : List (List ℕ)). asked ++ x) (full_seam (window_in w') more full)
                    ∙ sym (append_assoc asked (lines_of (window_in w')) (lines_of more));
              }

      pub gives_next : GaveWindow tells w' new → HasNext tells input asked w' new
      gives_next gave = record {
        given = given_further gave;
        before = before ∙ g.count;
        seam = are.seam;
        some = gave.some;
        most = gave.most;
      }

    -- ---- none came

    -- at the end of the input
    pub gives_end : Took tells old new (left_in w) (window_in w' ++ left_in w') → GaveEnd tells w' new → InputEnds tells input asked ending.Done new
    gives_end took gave =
        let is : IsTrue tells → input ≡ g.given ++ new.input = (λ told. cut_again (window_in w') (left_in w') took told
        ∙ ap (λ (l : List ℕ). l ++ (left_in w' ++ new.input)) (ap (λ (l : List ℕ). g.given ++ l) gave.window ∙ append-nil g.given) ∙ ap (λ (l : List ℕ). g.given ++ (l ++ new.input)) gave.ended.left) in
        record {
          pulled = g.given;
          whole = is;
          front = λ told. front new.input (is told);
          good = g.good;
          by = record { input = gave.ended.input; lines = g.lines };
        }

    -- by a fault
    pub refuses : (e : WindowFault) → Took tells old new (left_in w) (window_in w' ++ left_in w') → window_in w' ≡ [] → Refused e (given_in w) (left_in w') → InputEnds tells input asked (input_ending e) new
    refuses e took none refused = record {
      pulled = g.given ++ left_in w';
      whole = λ told. is told ∙ sym (append_assoc g.given (left_in w') new.input);
      front = λ told. front (left_in w' ++ new.input) (is told);
      good = g.good;
      by = by e refused;
    }
      where
        is : IsTrue tells → input ≡ g.given ++ (left_in w' ++ new.input)
        is told = cut_again (window_in w') (left_in w') took told ∙ ap (λ (l : List ℕ). l ++ (left_in w' ++ new.input)) (ap (λ (l : List ℕ). g.given ++ l) none ∙ append-nil g.given)

        no_end : HasNoEnd (given_in w) (left_in w') → IsGood (g.given ++ left_in w') asked
        no_end n =
            let good : first_bad 0 (lines_of (g.given ++ left_in w')) ≡ None = bad_on (left_in w') ∙ ap (λ (n : ℕ). first_bad n (lines_of (left_in w'))) (sym g.count) ∙ n.good in
            let few = n.few in
            let fed = are.fed in
            record {
              good = good;
              windows = sym (ap (λ (x : Option ℕ). before_first x (feeds (g.given ++ left_in w'))) good ∙ ap in_windows (feeds_append g.given (left_in w') ∙ ap (λ (n : ℕ). n + feeds (left_in w')) fed)
                  ∙ windows_on (length asked) (feeds (left_in w')) are.seam few);
            }

        by : (e : WindowFault) → Refused e (given_in w) (left_in w') → InputEndsAs (input_ending e) tells (g.given ++ left_in w') asked new
        by WindowFault.Memory r = no_end r
        by WindowFault.Failed r = no_end r
        by (WindowFault.TooLong line) r =
            let count = g.count in
            let above = r.2 in
            let within = r.3 in
            record {
              number = r.0;
              bad = λ more. ap (λ (l : List ℕ). first_bad 0 (lines_of l)) (append_assoc g.given (left_in w') more) ∙ bad_on (left_in w' ++ more)
                  ∙ ap (λ (n : ℕ). first_bad n (lines_of (left_in w' ++ more))) (sym count) ∙ r.1 more;
              before = sym (before_is (length asked) r.0 are.seam (omega (arith, above, count)) (omega (arith, within, count)));
              is_told = r.4;
            }

    -- ---- whole windows stand in what was pulled

    pub whole_within : length asked ≤ whole_windows (g.given ++ left_in w)
    whole_within = by (first_bad 0 (lines_of (g.given ++ left_in w))) refl
      where
        by : (bad : Option ℕ) → first_bad 0 (lines_of (g.given ++ left_in w)) ≡ bad → length asked ≤ before_first bad (feeds (g.given ++ left_in w))
        by None q =
            let f = feeds_append g.given (left_in w) in
            let fed = are.fed in
            let same : length asked + feeds (left_in w) ≡ feeds (g.given ++ left_in w) = omega (arith, f, fed) in
            subst (λ (n : ℕ). length asked ≤ in_windows n) same (windows_most (length asked) (feeds (left_in w)) are.seam)
        by (Some n) q =
            windows_before (length asked) n are.seam (bad_above (length asked) n (lines_of (left_in w)) (sym (bad_on (left_in w)) ∙ q))

  -- ---- the window was the last

  pub ends_behind : InputHasEnded tells w old → InputEnds tells input asked ending.Done old
  ends_behind ended =
      let is : IsTrue tells → input ≡ g.given ++ old.input = (λ told. g.whole told ∙ ap (λ (l : List ℕ). g.given ++ (l ++ old.input)) ended.left) in
      record {
        pulled = g.given;
        whole = is;
        front = λ told. ap (λ (l : List ℕ). take (length asked) (lines_of l)) (is told ∙ ap (λ (l : List ℕ). g.given ++ l) (ended.input told) ∙ append-nil g.given) ∙ ap (take (length asked)) g.lines ∙ take_all (length asked) asked (omega arith);
        good = g.good;
        by = record { input = ended.input; lines = g.lines };
      }

-- ---- what was given, while no input is pulled

module _ (tells : Bool) (input : List ℕ) (asked : List (List ℕ)) (w : InputWindows) (now : World) (g : HasGiven tells input asked w now) where
  pub given_still : (next : World) → (IsTrue tells → next.input ≡ now.input) → HasGiven tells input asked w next
  given_still next same = record {
    given = g.given;
    whole = λ told. g.whole told ∙ ap (λ (l : List ℕ). g.given ++ (left_in w ++ l)) (sym (same told));
    lines = g.lines;
    good = g.good;
    count = g.count;
    ends = by (is_last_in w) g.ends;
  }
    where
      by : (last : Bool) → GivenTo last tells g.given asked w now → GivenTo last tells g.given asked w next
      by true e = record { left = e.left; input = λ told. same told ∙ e.input told }
      by false e = e

  -- the lines are the input's first
  pub given_front : IsTrue tells → take (length asked) (lines_of input) ≡ asked
  given_front told = by (is_last_in w) g.ends
    where
      by : (last : Bool) → GivenTo last tells g.given asked w now → take (length asked) (lines_of input) ≡ asked
      by true e =
          ap (λ (l : List ℕ). take (length asked) (lines_of l)) (g.whole told ∙ ap (λ (l : List ℕ). g.given ++ (l ++ now.input)) e.left ∙ ap (λ (l : List ℕ). g.given ++ l) (e.input told) ∙ append-nil g.given)
          ∙ ap (take (length asked)) g.lines ∙ take_all (length asked) asked (omega arith)
      by false e = front tells input asked w w now now g e (input_behind w now) (g.whole told)

  -- all lines may begin, where the input has ended, or those of some windows that stand whole in what was pulled
  pub given_allows : IsTrue tells → ((now.input ≡ []) × (length asked ≡ length (lines_of input))) ⊎ ((length asked % 4096 ≡ 0) × (length asked ≤ whole_windows (g.given ++ left_in w)))
  given_allows told = by (is_last_in w) g.ends
    where
      by : (last : Bool) → GivenTo last tells g.given asked w now
          → ((now.input ≡ []) × (length asked ≡ length (lines_of input))) ⊎ ((length asked % 4096 ≡ 0) × (length asked ≤ whole_windows (g.given ++ left_in w)))
      by true e = inl (
        e.input told,
        ap length (sym (ap lines_of (g.whole told ∙ ap (λ (l : List ℕ). g.given ++ (l ++ now.input)) e.left ∙ ap (λ (l : List ℕ). g.given ++ l) (e.input told) ∙ append-nil g.given) ∙ g.lines)),
      )
      by false e = inr (e.seam, whole_within tells input asked w w now now g e)
