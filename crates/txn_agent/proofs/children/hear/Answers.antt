use Rattle.std.proofs.Common.{◌∙◌, sym}
use Rattle.script_tree.specs.Programs.{program_tree}
use Rattle.txn_agent.proofs.AgentCalls.{waiting-looks}
use Rattle.txn_agent.proofs.ResumedScripts.{heard_known, known_none}
use Rattle.txn_agent.proofs.children.hear.Goals as goal

pub returns-in-Undecided-clause-heard : goal.returns-in-Undecided-clause-heard
returns-in-Undecided-clause-heard g c = known_none _ (sym c.in-Undecided.is ∙ c.in_ok-known_of.ensures.answer)

pub returns-in-Undecided-clause-doing : goal.returns-in-Undecided-clause-doing
returns-in-Undecided-clause-doing g c = waiting-looks (program_tree c.args.checked.now) (g.A.Access.sight c.args.access.now) c.args.carried c.args.work c.requires.counts g.A.Access.may_come (g.A.Access.sight c.known_of.new.access) c.args.child c.known_of.ensures.looked c.requires.waits

pub returns-in_ok-work-in-Decided-clause-doing : goal.returns-in_ok-work-in-Decided-clause-doing
returns-in_ok-work-in-Decided-clause-doing g c =
    let on = c.in_ok-work-in-Decided.ensures in
    heard_known g.A.Access.may_come (program_tree c.args.checked.now) (g.A.Access.sight c.args.access.now) (g.A.Access.sight c.known_of.new.access) c.args.carried c.args.work
    c.in_ok-work-in-Decided.work c.args.child c.in-Decided.outcome c.in_ok-work-in-Decided.pause
    c.requires.counts c.requires.waits c.known_of.ensures.looked (sym c.in-Decided.is ∙ c.in_ok-known_of.ensures.answer) on.call on.held on.sources on.kids on.machine
