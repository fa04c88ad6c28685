-- What the words ask for.
use Rattle.std.specs.Prelude.{◌≡◌, false, ◌<◌, ◌≤◌, ℕ, List, [], Option, None, Some, unwrap_or, ⊤}
use Rattle.promise_spec.specs.Calls.{Understands}
use Rattle.promise_spec.specs.Words.{Manner, Command, Init as MakesOne, Run as CarriesLines, Show as TellsStates, History as TellsRecords, Audit as PlaysAgain, Load as CarriesLoad, Check as ChecksCommits, Compact as WritesAnew, Upgrade as Reprograms, Migrate as WritesInNewFormat}
use Rattle.command_words.specs.Options.{Chosen}
use Rattle.silo_top.specs.CallAnswers.{turns_manner, workers_manner, manner_for}
use Rattle.silo_top.specs.declared.asked_command.Carriage.{Carriage}
use Rattle.silo_top.specs.declared.asked_command.Carriage.TheVariants.{Turns, Workers}
use Rattle.silo_top.specs.declared.asked_command.Asked.{Asked}
use Rattle.silo_top.specs.declared.asked_command.Asked.TheVariants.{Init, Run, Show, History, Audit, Load, Check, Compact, Upgrade, Migrate}
use Rattle.silo_top.specs.declared.commands.ByWorkers.{ByWorkers}

-- ---- how lines are carried

-- in this manner
abbrev pub carriage_manner : Carriage → Manner
carriage_manner (Turns width picks) = turns_manner width picks
carriage_manner (Workers n) = workers_manner

-- a line may be in flight; and there are from 1 to 16 workers
abbrev pub IsCarriage : Carriage → Type 0
IsCarriage (Turns width picks) = 0 < width
IsCarriage (Workers n) = (1 ≤ n) × (n ≤ 16)

-- by workers, where some are asked for, else on one thread
abbrev pub carriage_by : Option ℕ → ℕ → List ℕ → Carriage
carriage_by None width picks = Turns width picks
carriage_by (Some n) width picks = Workers n

-- what the options choose
abbrev pub carriage_of : Chosen → Carriage
carriage_of chosen = carriage_by chosen.workers (unwrap_or chosen.width 1) (unwrap_or chosen.turns [])

-- ---- commands

-- the command that is asked for
abbrev pub asked_command : Asked → Command
asked_command Init = MakesOne
asked_command (Run how) = CarriesLines (carriage_manner how)
asked_command Show = TellsStates
asked_command History = TellsRecords
asked_command Audit = PlaysAgain
asked_command (Load transfers seed how) = CarriesLoad transfers seed (carriage_manner how)
asked_command (Check starts seed) = ChecksCommits starts seed
asked_command Compact = WritesAnew
asked_command Upgrade = Reprograms
asked_command Migrate = WritesInNewFormat

-- lines can be carried so, and a load has so many transfers at most
abbrev pub MayBeCarried : Asked → Type 0
MayBeCarried Init = ⊤
MayBeCarried (Run how) = IsCarriage how
MayBeCarried Show = ⊤
MayBeCarried History = ⊤
MayBeCarried Audit = ⊤
MayBeCarried (Load transfers seed how) = IsCarriage how × (transfers ≤ 100000)
MayBeCarried (Check starts seed) = ⊤
MayBeCarried Compact = ⊤
MayBeCarried Upgrade = ⊤
MayBeCarried Migrate = ⊤

-- ---- what is left to workers

-- no command that the words say carries lines by workers
abbrev pub AskForNoWorkers : List (List ℕ) → Type 0
AskForNoWorkers words = (c : Command) → Understands words c → (manner_for c).threaded ≡ false

-- the command
abbrev pub left_command : ByWorkers → Command
left_command (ByWorkers.Run workers) = CarriesLines workers_manner
left_command (ByWorkers.Load transfers seed workers) = CarriesLoad transfers seed workers_manner

-- there are from 1 to 16, and a load has so many transfers at most
abbrev pub MayBeLeft : ByWorkers → Type 0
MayBeLeft (ByWorkers.Run workers) = (1 ≤ workers) × (workers ≤ 16)
MayBeLeft (ByWorkers.Load transfers seed workers) = ((1 ≤ workers) × (workers ≤ 16)) × (transfers ≤ 100000)
