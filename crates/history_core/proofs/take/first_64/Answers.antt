use Rattle.std.proofs.Common.{sym, arith}
use Rattle.std.proofs.lemmas.List.{take_all}
use Rattle.history_core.proofs.take.first_64.Goals as goal

pub returns-then-members-lt64 : goal.returns-then-members-lt64
returns-then-members-lt64 c = sym (take_all 64 c.args.members.now (omega arith))
