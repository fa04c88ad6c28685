-- What the program says and answers at its end.
use Rattle.std.specs.Prelude.{ℕ, List, ◌++◌, codes, decimal, unwrap_or}
use Rattle.host_trait.specs.Files.{name_of}
use Rattle.program_file.specs.Answers.{program_fault_place}
use Rattle.promise_spec.specs.Endings as ending
use Rattle.silo_top.specs.declared.status.Status.{Status}
use Rattle.silo_top.specs.declared.status.Status.TheVariants.{Done, BadUse, Memory, ReadFault, WriteFault, DiskFault, NotASilo, AlreadyASilo, Damaged, BadProgram, InputTooLong, LastGeneration, UpgradeRefused, OldFormat, NotOld}

-- the number that the program ends with
abbrev pub status_number : Status → ℕ
status_number Done = 0
status_number BadUse = 2
status_number Memory = 3
status_number ReadFault = 4
status_number WriteFault = 5
status_number (DiskFault file) = 6
status_number NotASilo = 7
status_number AlreadyASilo = 8
status_number (Damaged file place) = 9
status_number (BadProgram fault) = 10
status_number (InputTooLong line) = 11
status_number LastGeneration = 12
status_number (UpgradeRefused at) = 13
status_number OldFormat = 14
status_number NotOld = 15

-- the words that it says
abbrev pub status_text : Status → List ℕ
status_text Done = codes "done"
status_text BadUse = codes "bad use"
status_text Memory = codes "no memory"
status_text ReadFault = codes "read fault"
status_text WriteFault = codes "write fault"
status_text (DiskFault file) = codes "disk fault in " ++ name_of file
status_text NotASilo = codes "not a silo"
status_text AlreadyASilo = codes "already a silo"
status_text (Damaged file place) = codes "damaged " ++ (name_of file ++ (codes " at " ++ decimal place))
status_text (BadProgram fault) = codes "bad program at " ++ decimal (unwrap_or (program_fault_place fault) 0)
status_text (InputTooLong line) = codes "input too long"
status_text LastGeneration = codes "last generation"
status_text (UpgradeRefused at) = codes "upgrade refused at " ++ decimal at
status_text OldFormat = codes "old format"
status_text NotOld = codes "not an old format"

-- the ending that a status is
abbrev pub status_ending : Status → ending.Ending
status_ending Done = ending.Done
status_ending BadUse = ending.BadUse
status_ending Memory = ending.Memory
status_ending ReadFault = ending.ReadFault
status_ending WriteFault = ending.WriteFault
status_ending (DiskFault file) = ending.DiskFault file
status_ending NotASilo = ending.NotASilo
status_ending AlreadyASilo = ending.AlreadyASilo
status_ending (Damaged file place) = ending.Damaged file place
status_ending (BadProgram fault) = ending.BadProgram fault
status_ending (InputTooLong line) = ending.InputTooLong line
status_ending LastGeneration = ending.LastGeneration
status_ending (UpgradeRefused at) = ending.UpgradeRefused at
status_ending OldFormat = ending.OldFormat
status_ending NotOld = ending.NotOld
