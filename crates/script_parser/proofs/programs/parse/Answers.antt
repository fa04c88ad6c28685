use Rattle.script_parser.proofs.CompleteParts.{if_found, only_this}
use Rattle.script_parser.proofs.NamePlaces.{if_in_order}
use Rattle.script_parser.proofs.Refusals.{if_refused}
use Rattle.script_parser.proofs.programs.parse.Goals as goal

pub returns-clause-found : goal.returns-clause-found
returns-clause-found c = if_found c.args.text.now c.parsed.result c.parsed.ensures

pub returns-clause-only : goal.returns-clause-only
returns-clause-only c = λ tree is. only_this c.args.text.now tree c.parsed.result is c.parsed.ensures

pub returns-clause-placed : goal.returns-clause-placed
returns-clause-placed c = if_in_order c.args.text.now c.parsed.result c.parsed.ensures

pub returns-clause-refused : goal.returns-clause-refused
returns-clause-refused c = if_refused c.args.text.now c.parsed.result c.parsed.ensures
