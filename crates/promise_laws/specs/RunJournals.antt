-- The journal that a run's loop carries, as one value; where it stands; and how it grows.
use Rattle.std.specs.Prelude.{◌≡◌, ℕ, List, [], ◌∷◌, ◌++◌}
use Rattle.std.specs.List.{AllByRecursion}
use Rattle.base_types.specs.declared.entries.Entry.{Entry}
use Rattle.host_trait.specs.World.{World}
use Rattle.request_wire.specs.Reply.{reply_line}
use Rattle.promise_spec.specs.Programs.{Program, shape_in}
use Rattle.promise_spec.specs.Entries.{Log, grown}
use Rattle.promise_spec.specs.Outputs.{IsProper}
use Rattle.promise_spec.specs.Journals.{Settlement, JournalAt, DoubtAt, CutAt, commits_of, entries_of}

-- A run's journal: the live slot, the program in force, the log that was opened, and the world behind the opening; then what is settled
-- and written, and what is settled and not yet written.
pub record RunJournal : Type 0 where
  pub live : ℕ
  pub program : Program
  pub opening : Log
  pub old : World
  pub said : List Settlement
  pub unsaid : List Settlement

-- the log that was opened, with the records of all that is settled
abbrev pub journal_log : RunJournal → Log
journal_log j = grown j.opening (commits_of (j.said ++ j.unsaid))

-- the line of an entry
abbrev pub journal_line : RunJournal → Entry → List ℕ
journal_line j e = reply_line (shape_in j.program) e

-- it stands here: what is said is the output, each image has its log, and all moments since the opening keep it
abbrev pub IsJournalAt : RunJournal → World → Type 0
IsJournalAt j now = JournalAt j.live j.program j.opening j.old j.said j.unsaid now

-- it stands here, and this batch behind it, which an image may have or not
abbrev pub IsDoubtedAt : RunJournal → Settlement → World → Type 0
IsDoubtedAt j batch now = DoubtAt j.live j.program j.opening j.old j.said j.unsaid batch now

-- it stands here, but that this rest of a line was written too; what stands later is the batch in doubt, or nothing
abbrev pub IsCutShortAt : RunJournal → List Settlement → List ℕ → World → Type 0
IsCutShortAt j later rest now = CutAt j.live j.program j.opening j.old j.said j.unsaid later rest now

-- each entry that is written is one that a line can say
abbrev pub HasProperLines : RunJournal → Type 0
HasProperLines j = AllByRecursion (IsProper (shape_in j.program)) (entries_of j.said)

-- more is settled
abbrev pub with_settled : RunJournal → List Settlement → RunJournal
with_settled j more = record j { unsaid = j.unsaid ++ more }

-- these are said too, and those are left
abbrev pub with_said : RunJournal → List Settlement → List Settlement → RunJournal
with_said j moved left = record j { said = j.said ++ moved; unsaid = left }

-- This entry is the next to be written: it is the one of the first part of what is unsaid, and a line can say it.
pub record IsNextEntry (j : RunJournal) (moved left : List Settlement) (e : Entry) : Type 0 where
  pub parts : j.unsaid ≡ moved ++ left
  pub one : entries_of moved ≡ e ∷ []
  pub proper : HasProperLines (with_said j moved left)
