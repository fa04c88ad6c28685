-- What the readers give is what the grammar and the checks have.
use Rattle.std.proofs.Common.{◌≡◌, ◌↔◌, ℕ, List, Ok, Err, Result, None, Some, Option, refl, subst}
use Rattle.script_tree.specs.Programs.{ProgramTree}
use Rattle.script_lexer.specs.declared.faults.ParseFault.{ParseFault}
use Rattle.script_scopes.specs.declared.faults.CheckFault.{CheckFault}
use Rattle.script_parser.specs.Programs.{program_of}
use Rattle.script_parser.specs.Grammar.{IsProgram}
use Rattle.script_parser.proofs.SoundParts.{program_sound}
use Rattle.script_parser.proofs.CompleteParts.{program_read}
use Rattle.script_check.specs.Programs.{program_fault}
use Rattle.script_check.specs.AcceptedPrograms.{IsAcceptedProgram}
use Rattle.script_check.proofs.WholePrograms.{program_iff}
use Rattle.program_file.specs.Programs.{program_in, checked_in, unless_fault}

-- by the grammar
pub by_grammar : (text : List ℕ) (types : ProgramTree) → (program_of text ≡ Ok types) ↔ IsProgram text types
by_grammar text types = (program_sound text types, program_read text types)

-- what was read stands where nothing is at fault in it
pub faultless : (types made : ProgramTree) (fault : Option CheckFault) → unless_fault types fault ≡ Ok made → (fault ≡ None) × (types ≡ made)
faultless types made None e = (refl, cc)
faultless types made (Some fault) e = absurd cc

-- the tree that was checked is the one that was read, and has no fault
pub as_checked : (read : Result ProgramTree ParseFault) (made : ProgramTree) → checked_in read ≡ Ok made → (read ≡ Ok made) × (program_fault made ≡ None)
as_checked (Ok types) made e =
    let f = faultless types made (program_fault types) e in
    (let same : types ≡ made = f.1 in cc, subst (λ (t : ProgramTree). program_fault t ≡ None) f.1 f.0)
as_checked (Err fault) made e = absurd cc

-- and the other way round
pub checked_as : (read : Result ProgramTree ParseFault) (made : ProgramTree) → read ≡ Ok made → program_fault made ≡ None → checked_in read ≡ Ok made
checked_as read made r f = rw r (rw f refl)

-- by both
pub by_both : (text : List ℕ) (types : ProgramTree) → (program_in text ≡ Ok types) ↔ (IsProgram text types × IsAcceptedProgram types)
by_both text types = (
  (λ e. let a = as_checked (program_of text) types e in (program_sound text types a.0, (program_iff types).0 a.1)),
  (λ h. checked_as (program_of text) types (program_read text types h.0) ((program_iff types).1 h.1)),
)
