use Rattle.script_tree.specs.Programs.{program_tree}
use Rattle.unit_crew.specs.Crews.{HasTypes}
use Rattle.unit_crew.proofs.CrewKnowledge.{looks-crew}
use Rattle.unit_crew.proofs.Works.{works-looks, works-on}
use Rattle.unit_crew.proofs.crew.go_on.Goals as goal

pub returns-clause-works : goal.returns-clause-works
returns-clause-works g c = works-on (HasTypes (program_tree c.args.checked.now)) (g.A.Access.sight c.args.access.now) (g.A.Access.sight c.go_each.new.access) (g.A.Access.sight c.tell_death.new.access) c.go_each.ensures.works (works-looks (HasTypes (program_tree c.args.checked.now)) g.A.Access.may_come (g.A.Access.sight c.go_each.new.access) (g.A.Access.sight c.tell_death.new.access) c.tell_death.ensures.looked)

pub returns-clause-crew : goal.returns-clause-crew
returns-clause-crew g c = looks-crew (program_tree c.args.checked.now) g.A.Access.may_come (g.A.Access.sight c.go_each.new.access) (g.A.Access.sight c.tell_death.new.access) c.go_each.new.agents.list.items c.in_ok-moved.ensures.crew c.tell_death.ensures.looked
