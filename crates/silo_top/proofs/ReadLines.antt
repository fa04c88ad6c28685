-- Lines that were read from their texts.
use Rattle.std.proofs.Common.{◌≡◌, ℕ, zero, suc, ◌+◌, List, [], ◌∷◌, length, slice_get, Some, refl, ◌∙◌, ap, arith}
use Rattle.std.specs.Prelude.{⊤}
use Rattle.request_wire.specs.declared.requests.Line.{Line}
use Rattle.request_wire.specs.Names.{names_in}
use Rattle.request_wire.specs.Request.{call_of}
use Rattle.script_tree.specs.Programs.{ProgramTree}
use Rattle.promise_spec.specs.Lines.{ReadsLineAs}
use Rattle.run_books.specs.Beginnings.{GoUpFrom}
use Rattle.run_lines.specs.LineReadings.{lines_from_texts}

-- the lines are these texts', one for each, numbered one after another from the one behind this number on, and each is what its
-- text reads as
abbrev pub AreReadFrom : ProgramTree → ℕ → List (List ℕ) → List Line → Type 0
AreReadFrom types n [] [] = ⊤
AreReadFrom types n [] (line ∷ lines) = ⊥
AreReadFrom types n (text ∷ texts) [] = ⊥
AreReadFrom types n (text ∷ texts) (line ∷ lines) =
    (line.number ≡ n + 1) × (call_of (names_in types) text ≡ line.what) × AreReadFrom types (n + 1) texts lines

-- so are the lines of an input
pub lines_are_read : (types : ProgramTree) (n : ℕ) (texts : List (List ℕ)) → AreReadFrom types n texts (lines_from_texts types n texts)
lines_are_read types n [] = tt
lines_are_read types n (text ∷ texts) = (refl, refl, lines_are_read types (n + 1) texts)

-- ---- what the lines are

-- they are as many as their texts
pub as_many : (types : ProgramTree) (n : ℕ) (texts : List (List ℕ)) (lines : List Line) → AreReadFrom types n texts lines → length texts ≡ length lines
as_many types n [] [] are = refl
as_many types n [] (line ∷ lines) are = absurd are
as_many types n (text ∷ texts) [] are = absurd are
as_many types n (text ∷ texts) (line ∷ lines) are = ap suc (as_many types (n + 1) texts lines are.2)

-- they are numbered one after another
pub go_up : (types : ProgramTree) (n : ℕ) (texts : List (List ℕ)) (lines : List Line) → AreReadFrom types n texts lines → GoUpFrom n lines
go_up types n [] [] are = tt
go_up types n [] (line ∷ lines) are = absurd are
go_up types n (text ∷ texts) [] are = absurd are
go_up types n (text ∷ texts) (line ∷ lines) are = (are.0, go_up types (n + 1) texts lines are.2)

-- each is what its text reads as
pub reads_at : (types : ProgramTree) (n : ℕ) (texts : List (List ℕ)) (lines : List Line) → AreReadFrom types n texts lines → (at : ℕ) (line : Line) → slice_get lines at ≡ Some line
    → (text : List ℕ) × (slice_get texts at ≡ Some text) × (call_of (names_in types) text ≡ line.what)
reads_at types n [] [] are at line is = absurd (cc is)
reads_at types n [] (first ∷ lines) are at line is = absurd are
reads_at types n (text ∷ texts) [] are at line is = absurd are
reads_at types n (text ∷ texts) (first ∷ lines) are zero line is = (text, refl, are.1 ∙ ap (λ (l : Line). l.what) (some_same first line is))
  where
    some_same : (a b : Line) → Some a ≡ Some b → a ≡ b
    some_same a b e = cc e
reads_at types n (text ∷ texts) (first ∷ lines) are (suc at) line is = reads_at types (n + 1) texts lines are.2 at line is

-- the line of an index has this number, and is what its text reads as
pub read_as : (types : ProgramTree) (texts : List (List ℕ)) (lines : List Line) → AreReadFrom types 0 texts lines → (at : ℕ) (line : Line) → slice_get lines at ≡ Some line
    → ReadsLineAs types texts (0 + at + 1) line.what
read_as types texts lines are at line is =
    let k = reads_at types 0 texts lines are at line is in
    record { index = at; text = k.0; number = omega arith; there = k.1; reads = k.2 }
