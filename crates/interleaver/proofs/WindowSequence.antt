-- Window after window: where one was carried the next begins, and the record of those so far is that of all of them.
use Rattle.std.proofs.Common.{◌≡◌, ℕ, zero, suc, ◌+◌, ◌<◌, ◌≤◌, ◌%◌, Some, List, [], ◌∷◌, ◌++◌, length, length-append, Bool, true, false, inl, inr, refl, sym, ap, subst, arith, eqb, eqb-true, slice_get}
use Rattle.std.proofs.lemmas.Bool.{cases_Bool}
use Rattle.request_wire.specs.declared.requests.Line.{Line}
use Rattle.request_wire.specs.Names.{names_in}
use Rattle.request_wire.specs.Request.{call_of}
use Rattle.core_model.specs.LegalRuns.{ends}
use Rattle.core_model.specs.Lines.{EntriesAreOnce}
use Rattle.core_laws.proofs.LineEntries.{once-ends}
use Rattle.script_tree.specs.Programs.{ProgramTree}
use Rattle.promise_spec.specs.Lines.{ReadsLineAs}
use Rattle.promise_spec.specs.Windows.{window_lines}
use Rattle.promise_spec.specs.TurnRule.{at_seam, picks_used}
use Rattle.run_lines.specs.LineReadings.{line_from_text, lines_from_texts}
use Rattle.run_books.specs.Beginnings.{Outset, GoUpFrom, with_more}
use Rattle.run_books.specs.Books.{Books}
use Rattle.run_books.specs.Records.{HasCarriedAll}
use Rattle.run_books.specs.Stages.{Stage}
use Rattle.run_books.proofs.MoreLines.{begun-lines, record-more, rule-more}
use Rattle.interleaver.specs.Turns.{KeepsTurns, LinesMayBegin, StandsBehind}
use Rattle.interleaver.proofs.RunContinuation.{can-again, fresh-again}
use Rattle.interleaver.proofs.RunningTurns.{turns-record}

-- ---- lines

-- lines that are read one after another have these numbers
numbered : (types : ProgramTree) (n : ℕ) (texts : List (List ℕ)) → GoUpFrom n (lines_from_texts types n texts)
numbered types n [] = tt
numbered types n (text ∷ texts) = (refl, numbered types (n + 1) texts)

-- and there are as many as texts
as-many : (types : ProgramTree) (n : ℕ) (texts : List (List ℕ)) → length (lines_from_texts types n texts) ≡ length texts
as-many types n [] = refl
as-many types n (text ∷ texts) = ap suc (as-many types (n + 1) texts)

-- each is what its text reads as
reads-text : (types : ProgramTree) (n : ℕ) (texts : List (List ℕ)) (at : ℕ) (line : Line) → slice_get (lines_from_texts types n texts) at ≡ Some line
    → (text : List ℕ) × (slice_get texts at ≡ Some text) × (call_of (names_in types) text ≡ line.what)
reads-text types n [] at line is = absurd (cc is)
reads-text types n (text ∷ texts) zero line is = (text, refl, some-same (line_from_text types (n + 1) text) line is)
  where
    some-same : (a b : Line) → Some a ≡ Some b → a.what ≡ b.what
    some-same a b e = ap (λ (x : Line). x.what) (let same : a ≡ b = cc e in same)
reads-text types n (text ∷ texts) (suc at) line is = reads-text types (n + 1) texts at line is

-- what stands in a list stands so far behind another
behind : {A : Type 0} (xs ys : List A) (at i : ℕ) (y : A) → i ≡ length xs + at → slice_get ys at ≡ Some y → slice_get (xs ++ ys) i ≡ Some y
behind [] ys at i y q there = subst (λ (k : ℕ). slice_get ys k ≡ Some y) (let same : at ≡ i = omega (arith, q) in same) there
behind (x ∷ xs) ys at zero y q there = absurd (omega (arith, q))
behind (x ∷ xs) ys at (suc i) y q there = behind xs ys at i y (omega (arith, q)) there

reads-behind : (types : ProgramTree) (before texts : List (List ℕ)) (at : ℕ) (line : Line) → slice_get (lines_from_texts types (length before) texts) at ≡ Some line
    → ReadsLineAs types (before ++ texts) (length before + at + 1) line.what
reads-behind types before texts at line is =
    let k = reads-text types (length before) texts at line is in
    record { index = length before + at; text = k.0; number = refl; there = behind before texts at (length before + at) k.0 refl k.1; reads = k.2 }

-- ---- windows

-- within a window no number is a window's end
inner-seams : (windowed : Bool) (start all : ℕ) → at_seam windowed start ≡ true → all ≤ start + window_lines → (n : ℕ) → start < n → n < all → at_seam windowed n ≡ false
inner-seams false start all seam most n lo hi = refl
inner-seams true start all seam most n lo hi = elim (cases_Bool (eqb (n % 4096) 0)) [
  | inr fails ↦ fails
  | inl holds ↦ absurd (let q : n % 4096 ≡ 0 = eqb-true _ _ holds in let z : start % 4096 ≡ 0 = eqb-true _ _ seam in let few : all ≤ start + 4096 = most in omega (arith, q, z, lo, hi, few))
]

module _ (tells : Bool) (o : Outset) (b : Books) (s : Stage) (kept : KeepsTurns tells o b s) where
  -- the record of the windows so far is that of these and the next
  pub turns-more : (more : List (List ℕ)) → at_seam o.windowed (length o.asked) ≡ true → KeepsTurns tells (with_more o more) b s
  turns-more more seam =
      let k = record-more o more tells b s (turns-record kept) in
      record { above = k.above; units = k.units; turns = λ ruled. rule-more o more s.run kept.units seam (kept.turns ruled); books = k.books }

  -- where all lines so far are carried, all have begun
  all-begun : HasCarriedAll o s → (ends s.run).units.lines ≡ length o.asked
  all-begun all =
      let few = begun-lines o s.run kept.units in
      let most : length o.asked ≤ (ends s.run).units.lines = no-less (length o.asked) (omega arith) in
      omega (arith, few, most)
    where
      no-less : (n : ℕ) → n ≤ length o.asked → n ≤ (ends s.run).units.lines
      no-less zero le = omega arith
      no-less (suc n) le =
          let once : EntriesAreOnce (ends s.run) = once-ends s.run kept.above in
          let a = all.run.answered (suc n) (omega arith) le in
          let e = once.entry a.0 a.1 in
          let line = a.2 in
          let within = e.1 in
          omega (arith, line, within)

  -- where a window was carried, the run stands behind it
  pub window-ends : (used : ℕ) → HasCarriedAll o s → b.rest ≡ [] → (o.ruled ≡ true → picks_used s.run (length s.run.events) ≡ used) → StandsBehind tells o b used s
  window-ends used all rest picks = record {
    lines = all-begun all;
    can = can-again tells o b s (turns-record kept) all [] tt;
    fresh = fresh-again tells o b s (turns-record kept) all rest o used picks;
    kept = kept;
  }

-- and the lines of the next may begin
pub window-begins : (tells : Bool) (o : Outset) (b : Books) (used : ℕ) (s : Stage) (types : ProgramTree) (more : List (List ℕ)) → StandsBehind tells o b used s
    → at_seam o.windowed (length o.asked) ≡ true → length more ≤ window_lines → o.program.types ≡ types → s.run.kinds ≡ length types → 0 < o.width
    → LinesMayBegin tells (with_more o more) b types (lines_from_texts types (length o.asked) more) o.width o.picks used s
window-begins tells o b used s types more stands seam most types-are kinds wide =
    let at : length o.asked ≡ (ends s.run).units.lines = sym stands.lines in
    let many = as-many types (length o.asked) more in
    let both = length-append o.asked more in
    record {
      outset = record {
        types_are = types-are;
        kinds = kinds;
        width_is = refl;
        wide = wide;
        picks_are = refl;
        all = omega (arith, at, many, both);
        reads = λ i line there. subst (λ (n : ℕ). ReadsLineAs types (o.asked ++ more) (n + i + 1) line.what) at (reads-behind types o.asked more i line there);
        inner = λ n lo hi. inner-seams o.windowed (length o.asked) (length (o.asked ++ more)) seam (let few : length more ≤ 4096 = most in omega (arith, both, few)) n (omega (arith, at, lo)) hi;
      };
      can = record {
        quiet = stands.can.quiet;
        going = stands.can.going;
        rests = stands.can.rests;
        numbers = subst (λ (n : ℕ). GoUpFrom n (lines_from_texts types (length o.asked) more)) at (numbered types (length o.asked) more);
        sure = stands.can.sure;
        written = stands.can.written;
      };
      fresh = record { picks = stands.fresh.picks; doubted = stands.fresh.doubted; rest = stands.fresh.rest };
      kept = turns-more tells o b s stands.kept more seam;
    }
