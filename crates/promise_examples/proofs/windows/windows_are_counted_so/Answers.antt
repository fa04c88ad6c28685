use Rattle.std.proofs.Common.{refl}
use Rattle.promise_examples.proofs.CountedWindows.{longest_line, longer_line, ended_lines, bad_line, long_line, read_lines}
use Rattle.promise_examples.proofs.windows.windows_are_counted_so.Goals as goal

pub returns-clause-longest : goal.returns-clause-longest
returns-clause-longest c = longest_line

pub returns-clause-longer : goal.returns-clause-longer
returns-clause-longer c = longer_line

pub returns-clause-numbered : goal.returns-clause-numbered
returns-clause-numbered c = refl

pub returns-clause-before : goal.returns-clause-before
returns-clause-before c = (refl, refl, refl, refl, refl)

pub returns-clause-told : goal.returns-clause-told
returns-clause-told c = (refl, refl, refl, refl)

pub returns-clause-small : goal.returns-clause-small
returns-clause-small c = refl

pub returns-clause-none_bad : goal.returns-clause-none_bad
returns-clause-none_bad c bytes good ended = ended_lines bytes 10000 good ended

pub returns-clause-some_bad : goal.returns-clause-some_bad
returns-clause-some_bad c bytes first = bad_line bytes 5000 first

pub returns-clause-second_long : goal.returns-clause-second_long
returns-clause-second_long c p r course told keeps is first = long_line p r course keeps told 2 is first

pub returns-clause-later_long : goal.returns-clause-later_long
returns-clause-later_long c p r course told keeps is first = long_line p r course keeps told 4097 is first

pub returns-clause-fault : goal.returns-clause-fault
returns-clause-fault c p r course front keeps is split ended = read_lines p r course keeps front 4095 is split ended

pub returns-clause-later_fault : goal.returns-clause-later_fault
returns-clause-later_fault c p r course front keeps is split ended = read_lines p r course keeps front 4096 is split ended
