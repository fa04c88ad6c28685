-- What is known of a log, once what a block says is added; and the program in force.
use Rattle.std.proofs.Common.{◌≡◌, ◌+◌, ◌-◌, ◌<◌, ℕ, zero, suc, List, [], ◌∷◌, ◌++◌, map, length, Some, None, slice_get, refl, sym, ◌∙◌, ap, arith, append-nil}
use Rattle.std.proofs.lemmas.List.{length-map, map-append}
use Rattle.commit_log.specs.declared.records.CommitRecord.{CommitRecord}
use Rattle.commit_log.specs.declared.records.Named.{Named}
use Rattle.script_tree.specs.declared.programs.Program.{Program as TreeProgram}
use Rattle.script_tree.specs.Programs.{ProgramTree, program_tree}
use Rattle.script_check.specs.Shapes.{type_shapes}
use Rattle.script_check.specs.Comparison.{last_program}
use Rattle.program_file.specs.Programs.{Program}
use Rattle.log_reading.specs.Entries.{Recorded, Upgraded}
use Rattle.log_reading.specs.declared.entries.LogSoFar.{LogSoFar}
use Rattle.log_reading.specs.Blocks.{ReadRecord}
use Rattle.log_reading.specs.Sums.{named_of_records, next_after, AddsEntry}
use Rattle.log_reading.proofs.RecordSums.{records_of_records, programs_of_records, named_of_entries}

pub adds_batch : (old new : LogSoFar) (rs : List CommitRecord) → new.count ≡ old.count + length rs → new.next ≡ next_after old.next rs → new.named ≡ old.named ++ named_of_records (length old.later) rs
    → new.later ≡ old.later → new.shape ≡ old.shape → new.text ≡ old.text → AddsEntry old new (Recorded rs)
adds_batch old new rs count next named later shape text = record {
  count = count ∙ ap (λ (n : ℕ). old.count + n) (sym (length-map rs ReadRecord));
  next = next ∙ ap (next_after old.next) (sym (records_of_records rs));
  named = named ∙ ap (λ (l : List Named). old.named ++ l) (sym (named_of_entries (length old.later) rs));
  later = ap (map program_tree) later ∙ sym (append-nil (map program_tree old.later)) ∙ ap (λ (l : List Program). map program_tree old.later ++ map (λ (q : Program). q.types) l) (sym (programs_of_records rs));
  shape = ap (λ s. s.types) shape;
  text = text;
}

pub adds_upgrade : (old new : LogSoFar) (text : List ℕ) (checked : TreeProgram) → new.count ≡ old.count + 1 → new.next ≡ old.next → new.named ≡ old.named → new.later ≡ old.later ++ checked ∷ []
    → new.shape.types ≡ type_shapes (program_tree checked) → new.text ≡ Some text → AddsEntry old new (Upgraded (record { text = text; types = program_tree checked }))
adds_upgrade old new text checked count next named later shape is = record {
  count = count;
  next = next;
  named = named ∙ sym (append-nil old.named);
  later = ap (map program_tree) later ∙ map-append program_tree old.later (checked ∷ []);
  shape = shape;
  text = is;
}

-- ---- the program in force

some_at : {A : Type 0} (xs : List A) (i : ℕ) → i < length xs → slice_get xs i ≡ None → ⊥
some_at [] i low is = omega (arith, low)
some_at (x ∷ xs) zero low is = absurd cc
some_at (x ∷ xs) (suc i) low is = some_at xs i (omega (arith, low)) is

in_force_at : (first : ProgramTree) (xs : List TreeProgram) (i : ℕ) (x : TreeProgram) → i + 1 ≡ length xs → slice_get xs i ≡ Some x → program_tree x ≡ last_program first (map program_tree xs)
in_force_at first [] i x last is = absurd (omega (arith, last))
in_force_at first (y ∷ []) zero x last is = (let same : y ≡ x = cc in ap program_tree (sym same))
in_force_at first (y ∷ []) (suc i) x last is = absurd (omega (arith, last))
in_force_at first (y ∷ (z ∷ ys)) zero x last is = absurd (omega (arith, last))
in_force_at first (y ∷ (z ∷ ys)) (suc i) x last is = in_force_at (program_tree y) (z ∷ ys) i x (omega (arith, last)) is

pub in_force_some : (first : ProgramTree) (xs : List TreeProgram) (x : TreeProgram) → slice_get xs (length xs - 1) ≡ Some x → program_tree x ≡ last_program first (map program_tree xs)
in_force_some first [] x is = absurd cc
in_force_some first (y ∷ xs) x is = in_force_at first (y ∷ xs) (length (y ∷ xs) - 1) x (omega arith) is

pub in_force_none : (first : ProgramTree) (xs : List TreeProgram) → slice_get xs (length xs - 1) ≡ None → first ≡ last_program first (map program_tree xs)
in_force_none first [] is = refl
in_force_none first (y ∷ xs) is = absurd (some_at (y ∷ xs) (length (y ∷ xs) - 1) (omega arith) is)
