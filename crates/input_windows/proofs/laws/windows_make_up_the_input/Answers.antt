use Rattle.input_windows.proofs.Cuts.{bad_behind}
use Rattle.input_windows.proofs.Following.{full_seam, windows_are_bytes, windows_are_lines, followed_is_full, before_is}
use Rattle.input_windows.proofs.laws.windows_make_up_the_input.Goals as goal

pub returns-clause-seam : goal.returns-clause-seam
returns-clause-seam c = full_seam

pub returns-clause-bytes : goal.returns-clause-bytes
returns-clause-bytes c = windows_are_bytes

pub returns-clause-lines : goal.returns-clause-lines
returns-clause-lines c = windows_are_lines

pub returns-clause-full : goal.returns-clause-full
returns-clause-full c = followed_is_full

pub returns-clause-before : goal.returns-clause-before
returns-clause-before c = before_is

pub returns-clause-bad : goal.returns-clause-bad
returns-clause-bad c = bad_behind
