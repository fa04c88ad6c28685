use Rattle.std.proofs.Common.{ap, subst}
use Rattle.core_access.proofs.ByPass.{pass-tells}
use Rattle.core_access.specs.PassSights.{sight_of, all_come}
use Rattle.core_access.specs.Sights.{Tells}
use Rattle.core_model.specs.declared.events.CoreEvent.{CoreEvent}
use Rattle.core_model.specs.declared.events.CoreReply.{CoreReply}
use Rattle.history_core.specs.Cores.{CoreData, run_of}
use Rattle.turn_cell.specs.declared.view.View.{View}
use Rattle.turn_cell.specs.Passes.{pass_view}
use Rattle.agent_tests.proofs.shared_core.SharedCoreAccess.put.Goals as goal

pub returns-in-Ok-clause-put : goal.returns-in-Ok-clause-put
returns-in-Ok-clause-put g c = subst
    (λ (v : View CoreData CoreEvent CoreReply). Tells all_come (sight_of run_of v) c.args.event c.in-Ok.reply (sight_of run_of (pass_view c.put.new.pass)))
    (ap pass_view c.let_others.ensures.pass)
    (pass-tells run_of c.let_others.new.self.pass.me.0 c.put.new.pass.me.0 c.args.event c.in-Ok.reply c.in-Ok.ensures.call).0
