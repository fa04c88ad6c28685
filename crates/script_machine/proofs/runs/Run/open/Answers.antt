use Rattle.std.proofs.Common.{◌≡◌, ap, sym, ◌∙◌, ◌+◌, List, arith}
use Rattle.std.specs.Prelude.{length}
use Rattle.std.proofs.lemmas.List.Sums.{fold_push}
use Rattle.script_meaning.specs.Calls.{bound}
use Rattle.script_meaning.specs.Play.{ends_unit}
use Rattle.script_machine.specs.declared.frames.Frame.{Frame}
use Rattle.script_machine.specs.declared.frames.OpenBlock.{OpenBlock}
use Rattle.script_machine.specs.Frames.{below_of, goes_on, waits}
use Rattle.script_machine.specs.Runs.{back_here, frame_size, sizes}
use Rattle.script_machine.proofs.Entries.{begins_goes}
use Rattle.script_machine.proofs.Sizes.{sizes_push}
use Rattle.script_machine.proofs.runs.Run.open.Goals as goal

pub returns-clause-goes : goal.returns-clause-goes
returns-clause-goes c types there has =
    let run = c.args.self.now in
    let made = c.in_ok-frame.ensures in
    let below = ap (below_of types) c.in_ok-push.ensures.items ∙ fold_push (waits types) ends_unit run.below.items c.replace-caller.result ∙ ap (waits types (below_of types run.below.items)) c.replace-caller.ensures.value in
    begins_goes types c.args.callee.now c.args.kind c.args.context (run.top.post.depth + 1) c.args.args (back_here types run) has c.in_ok-frame.frame there made.post
    (made.locals ∙ (λ j. bound (c.as_slice.ensures j) (c.as_slice-2.ensures j))) made.path made.at
    ∙ (λ j. goes_on types (sym c.replace-caller.ensures.after j) (sym below j) has)

pub returns-clause-less : goal.returns-clause-less
returns-clause-less c =
    let run = c.args.self.now in
    let below = ap sizes c.in_ok-push.ensures.items ∙ sizes_push run.below.items c.replace-caller.result ∙ ap (λ (f : Frame). sizes run.below.items + frame_size f) c.replace-caller.ensures.value in
    let top : frame_size c.replace-caller.new.dest ≡ 2 = ap frame_size c.replace-caller.ensures.after ∙ ap (λ (l : List OpenBlock). length l + 2) c.in_ok-frame.ensures.path in
    omega (arith, below, top)
