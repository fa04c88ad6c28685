use Rattle.std.proofs.Common.{ap, sym, ◌∙◌, subst, List}
use Rattle.script_tree.specs.Programs.{program_tree}
use Rattle.script_meaning.specs.Requests.{Requests}
use Rattle.script_meaning.specs.Statements.{Next}
use Rattle.script_machine.specs.declared.frames.OpenBlock.{OpenBlock}
use Rattle.script_machine.specs.Frames.{after}
use Rattle.script_machine.specs.Runs.{GoesTo, back_of}
use Rattle.script_machine.proofs.FramePlaces.{stands_past, after_push}
use Rattle.script_machine.proofs.runs.Run.leave.Goals as goal

pub returns-in-Some-clause-tree : goal.returns-in-Some-clause-tree
returns-in-Some-clause-tree c =
    let run = c.args.self.now in
    let types = program_tree c.args.checked.now in
    let post = run.top.post in
    let back = back_of types run in
    let past = stands_past types post back run.top.path.items run.top.at c.requires.past in
    let one = ap (λ (path : List OpenBlock). after types post back path) c.in-Some.ensures.items in
    let within = after_push types post back c.pop.new.self.items c.in-Some.opened in
    subst (λ (left : Requests). GoesTo left types c.back_to.new.self c.back_to.result) (sym (ap (λ (k : Next). k run.top.locals.items run.has) (past ∙ one ∙ within))) c.back_to.ensures.tree
