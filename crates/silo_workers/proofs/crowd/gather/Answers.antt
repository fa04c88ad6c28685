use Rattle.std.proofs.Common.{rules, ◌≡◌, ◌∙◌, ap}
use Rattle.core_model.specs.declared.events.CoreEvent.{CoreEvent}
use Rattle.core_model.specs.declared.events.CoreReply.{CoreReply}
use Rattle.history_core.specs.Cores.{CoreData, run_of}
use Rattle.turn_cell.specs.declared.view.View.{View}
use Rattle.worker_rules.proofs.JoinedPasses.{whole-gathered}
use Rattle.silo_workers.proofs.JoinedPasses.{is-gathered}
use Rattle.silo_workers.proofs.crowd.gather.Goals as goal

pub close-requires : goal.close-requires
close-requires g c =
    let together = c.in_scope-pass.ensures.together in
    (together.0, whole-gathered run_of _ _ c.args.pass.me.0 c.in_scope-pass.result.0.me.0 (ap (λ (z : View CoreData CoreEvent CoreReply). z.hand) c.requires.first) together.1)

pub returns-clause-closed : goal.returns-clause-closed
returns-clause-closed g c =
    let same : c.replace-own.result ≡ c.args.settler.now = search rules in
    is-gathered c.args.team.before (g.L.Lines.lines c.args.team.lines.now) c.args.pass c.in_scope-pass.result.0 c.in_scope-pass.ensures.together same c.requires.first c.close.ensures

pub returns-clause-none : goal.returns-clause-none
returns-clause-none g c = λ q.
    let same : c.replace-own.result ≡ c.args.settler.now = search rules in
    let none = c.in_scope-pass.ensures.none q in
    (none.0 ∙ same, none.1)
