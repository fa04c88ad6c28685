use Rattle.std.proofs.Common.{ap, sym, ◌∙◌, List, arith}
use Rattle.std.proofs.lemmas.List.Sums.{fold_push}
use Rattle.script_tree.specs.Programs.{program_tree}
use Rattle.script_meaning.specs.Requests.{Back}
use Rattle.script_meaning.specs.Play.{ends_unit}
use Rattle.script_machine.specs.declared.frames.Frame.{Frame}
use Rattle.script_machine.specs.Frames.{below_of, waits}
use Rattle.script_machine.specs.Runs.{frame_size, sizes}
use Rattle.script_machine.proofs.Sizes.{sizes_push}
use Rattle.script_machine.proofs.runs.Run.give.Goals as goal

pub returns-in_ok-receive-in-Some-clause-tree : goal.returns-in_ok-receive-in-Some-clause-tree
returns-in_ok-receive-in-Some-clause-tree c =
    let run = c.args.self.now in
    let types = program_tree c.args.checked.now in
    let below = c.pop.new.self.items in
    ap (λ (frames : List Frame). below_of types frames c.args.value run.has) c.in-Some.ensures.items
    ∙ ap (λ (back : Back). back c.args.value run.has) (fold_push (waits types) ends_unit below c.in-Some.frame)
    ∙ ap (λ (frame : Frame). waits types (below_of types below) frame c.args.value run.has) (sym c.replace.ensures.after)
    ∙ c.in_ok-receive-in-Some.ensures.tree

pub returns-in_ok-receive-in-Some-clause-less : goal.returns-in_ok-receive-in-Some-clause-less
returns-in_ok-receive-in-Some-clause-less c =
    let pushed = ap sizes c.in-Some.ensures.items ∙ sizes_push c.pop.new.self.items c.in-Some.frame in
    let top = ap frame_size c.replace.ensures.after in
    omega (arith, pushed, top, c.in_ok-receive-in-Some.ensures.less)
