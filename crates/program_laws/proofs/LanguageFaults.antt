-- What the readers refuse is refused by the grammar and the checks.
use Rattle.std.proofs.Common.{◌≡◌, ◌≢◌, ℕ, List, Err, Result, Some}
use Rattle.script_tree.specs.declared.programs.Program.{Program}
use Rattle.script_tree.specs.Programs.{ProgramTree}
use Rattle.script_lexer.specs.declared.faults.ParseFault.{ParseFault}
use Rattle.script_lexer.specs.declared.faults.ParseFault.TheVariants.{BadToken, Unexpected, TooDeep, Memory}
use Rattle.script_expressions.specs.TokenReaders.{FailsReading}
use Rattle.script_parser.specs.Programs.{program_of}
use Rattle.script_parser.specs.Refusals.{IsRefusal}
use Rattle.script_parser.proofs.Refusals.{if_refused}
use Rattle.script_scopes.specs.declared.faults.CheckFault.{CheckFault}
use Rattle.script_scopes.specs.declared.faults.CheckFault.TheVariants as check
use Rattle.script_scopes.specs.FirstFaults.{FirstFault, Fails}
use Rattle.script_check.specs.Programs.{program_fault}
use Rattle.script_check.specs.Mentions.{IsFirstFault}
use Rattle.script_check.proofs.Firsts.{names_first}

-- a reading that fails so is one with this fault
fails_reading : (fault : ParseFault) (read : Result ProgramTree ParseFault) → read ≡ Err fault → FailsReading fault read
fails_reading (BadToken at) read e = e
fails_reading (Unexpected at) read e = e
fails_reading (TooDeep at) read e = e
fails_reading Memory read e = tt

-- it is explained by the grammar
pub explained : (text : List ℕ) (fault : ParseFault) → program_of text ≡ Err fault → IsRefusal text fault
explained text fault e = let r : Result Program ParseFault = Err fault in if_refused text r (fails_reading fault (program_of text) e)

-- a check that finds this fault fails with it
fails : (fault : CheckFault) (found : FirstFault) → found ≡ Some fault → Fails fault found
fails (check.UnknownName at) found e = e
fails (check.TwiceNamed at) found e = e
fails (check.Arity at) found e = e
fails (check.FieldInPlain at) found e = e
fails (check.SetInRead at) found e = e
fails (check.TooMany at) found e = e
fails (check.NeedsTransaction at) found e = e
fails check.Memory found e = tt

-- it is that of the first name that has one
pub first : (types : ProgramTree) (fault : CheckFault) → program_fault types ≡ Some fault → fault ≢ check.Memory → IsFirstFault types fault
first types fault e other = names_first fault types (fails fault (program_fault types) e) other
