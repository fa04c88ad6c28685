use Rattle.std.proofs.Common.{refl}
use Rattle.core_model.specs.Settler.{settler_step}
use Rattle.settle_loop.specs.SettlerStep.{state_shown}
use Rattle.settle_loop.proofs.StepJournal.{journals}
use Rattle.settle_loop.proofs.laws.steps_are_journaled.Goals as goal

pub returns : goal.returns
returns g c may p head log bodies before after s e old new told a fair keeps =
    journals g.H.Host.tells told g.H.Host.world g.H.Host.faults before.writer.slot p head log bodies (state_shown a.seen) before.writer after.writer old new keeps fair before.quiet
    (settler_step (state_shown a.seen)) e refl a.makes a.does
