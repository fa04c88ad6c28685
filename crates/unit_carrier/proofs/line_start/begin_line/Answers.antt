use Rattle.script_tree.specs.Programs.{program_tree}
use Rattle.unit_carrier.proofs.LineUnit.{line-begins, line-carried}
use Rattle.unit_carrier.proofs.line_start.begin_line.Goals as goal

pub returns-clause-begins : goal.returns-clause-begins
returns-clause-begins g c =
    line-begins (program_tree c.args.checked.now) g.A.Access.may_come (g.A.Access.sight c.args.access.now) (g.A.Access.sight c.start_line.new.access) c.args.line.now.number c.args.agents.now.list.items c.args.line.now.what
    c.start_line.new.agents.list.items c.in_ok-began.began c.in_ok-began.ensures.starts

pub returns-clause-carried : goal.returns-clause-carried
returns-clause-carried g c =
    line-carried (program_tree c.args.checked.now) g.A.Access.may_come (g.A.Access.sight c.args.access.now) (g.A.Access.sight c.start_line.new.access) c.args.line.now.number c.args.agents.now.list.items c.args.line.now.what
    c.start_line.new.agents.list.items c.in_ok-began.began c.in_ok-began.ensures.starts c.requires.carried
