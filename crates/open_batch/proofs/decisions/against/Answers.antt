use Rattle.std.proofs.Common.{◌∙◌, sym}
use Rattle.open_batch.proofs.YesVotes.{yes-decide}
use Rattle.open_batch.proofs.decisions.against.Goals as goal

pub returns-then-are_yes : goal.returns-then-are_yes
returns-then-are_yes c = λ bad members. yes-decide bad c.args.votes.now members (sym c.are_yes.ensures ∙ c.if-are_yes.true)
