-- What a system in memory holds, and what it has answered.
use Rattle.std.specs.Prelude.{drop}
use Rattle.system_calls.specs.System.{System}
use Rattle.system_calls.specs.Answers.{AnswerCounts}
use Rattle.system_memory.specs.declared.system.MemorySystem.{MemorySystem}
use Rattle.system_memory.specs.MemoryState.{system_of, held_of}

-- what a system in memory holds: the input that is left, and what its events made
abbrev pub system_in : MemorySystem → System
system_in s = system_of (drop s.taken s.input.items) (held_of s.events.items)

-- what it has answered so far: calls that were refused, calls that were interrupted, and lost entries
abbrev pub system_answers : MemorySystem → AnswerCounts
system_answers s = record { refusals = s.refusals; interruptions = s.interruptions; stand_ins = 0; has_lost_entries = s.has_lost_entries }
