-- The programs of a log that was read: they stand in turn, and the last is that of the text in force.
use Rattle.std.proofs.Common.{◌≡◌, ◌<◌, ◌≤◌, ◌^◌, List, [], ◌∷◌, map, length, Ok, ◌∙◌, ap, arith}
use Rattle.std.proofs.lemmas.List.{length-map}
use Rattle.script_tree.specs.Programs.{ProgramTree}
use Rattle.script_check.specs.Comparison.{GoOnInTurn}
use Rattle.program_file.specs.Programs.{Program, text_limit, IsChecked, unless_fault, checked_in, program_in}
use Rattle.program_file.specs.Succession.{ArePrograms, newest_program}
use Rattle.log_reading.specs.Blocks.{ReadEntry, ReadRecord, ReadUpgrade, programs_read, program_after, types_read}
use Rattle.log_reading.specs.Sums.{AreUpgradesIn}

abbrev pub types_of : Program → ProgramTree
types_of q = q.types

-- they go on in turn
go_on : (p : Program) (entries : List ReadEntry) → AreUpgradesIn p entries → GoOnInTurn p.types (map types_of (programs_read entries))
go_on p [] follow = tt
go_on p (ReadRecord r ∷ entries) follow = go_on p entries follow
go_on p (ReadUpgrade q ∷ entries) follow = (follow.0.1, go_on q entries follow.1)

pub are_programs : (p : Program) (entries : List ReadEntry) → AreUpgradesIn p entries → length (programs_read entries) < 2 ^ 32 → ArePrograms (types_read p entries)
are_programs p entries follow few = record {
  in_turn = go_on p entries follow;
  few = (let size : length (map types_of (programs_read entries)) ≡ length (programs_read entries) = length-map (programs_read entries) types_of in omega (arith, few, size));
}

-- a checked program is that of its text
pub is_program : (q : Program) → IsChecked q → program_in q.text ≡ Ok q.types
is_program q is = ap checked_in is.parsed ∙ ap (unless_fault q.types) is.checked

-- the last is that of the text in force
pub newest_text : (p : Program) (entries : List ReadEntry) → AreUpgradesIn p entries → program_in p.text ≡ Ok p.types → program_in (program_after p entries).text ≡ Ok (newest_program (types_read p entries))
newest_text p [] follow is = is
newest_text p (ReadRecord r ∷ entries) follow is = newest_text p entries follow is
newest_text p (ReadUpgrade q ∷ entries) follow is = newest_text q entries follow.1 (is_program q follow.0.0)

-- which is as long as a text may be
pub text_small : (p : Program) (entries : List ReadEntry) → AreUpgradesIn p entries → length p.text ≤ text_limit → length (program_after p entries).text ≤ text_limit
text_small p [] follow small = small
text_small p (ReadRecord r ∷ entries) follow small = text_small p entries follow small
text_small p (ReadUpgrade q ∷ entries) follow small = text_small q entries follow.1 follow.0.0.small
