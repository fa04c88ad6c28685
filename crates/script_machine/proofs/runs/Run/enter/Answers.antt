use Rattle.std.proofs.Common.{◌≡◌, ◌+◌, ◌-◌, suc, ap, sym, ◌∙◌, subst, arith}
use Rattle.std.specs.Prelude.{slice_get}
use Rattle.script_tree.specs.declared.options.Entered.{Entered}
use Rattle.script_tree.specs.declared.options.Entered.TheVariants.{Joined, NewUnit, Plain, Refused}
use Rattle.script_tree.specs.Options.{entered}
use Rattle.script_tree.specs.Programs.{program_tree}
use Rattle.script_holding.specs.Limits.{depth_limit}
use Rattle.script_meaning.specs.Requests.{Requests, stop}
use Rattle.script_meaning.specs.Calls.{enters, joined}
use Rattle.script_machine.specs.Callees.{target_of}
use Rattle.script_machine.specs.Frames.{fields_of, goes_on, runner_of}
use Rattle.script_machine.specs.Runs.{Goes, back_of, back_here, caught_here}
use Rattle.script_machine.proofs.Stops.{left_at}
use Rattle.script_machine.proofs.Entries.{enters_unit, enters_plain, enters_joined}
use Rattle.script_machine.proofs.runs.Run.enter.Goals as goal

pub returns-in_ok-goes_deeper-in-NewUnit-clause-tree : goal.returns-in_ok-goes_deeper-in-NewUnit-clause-tree
returns-in_ok-goes_deeper-in-NewUnit-clause-tree c =
    let run = c.args.self.now in
    let types = program_tree c.args.checked.now in
    let callee = c.args.callee.now in
    let d = run.top.post.depth in
    let target = target_of callee in
    let fits : depth_limit - d ≡ suc (depth_limit - (d + 1)) = omega (arith, c.in_ok-goes_deeper-in-NewUnit.ensures) in
    let way : entered target.method.option run.top.post.context ≡ NewUnit = sym c.enter.ensures.table ∙ c.in-NewUnit.is in
    let left = ap (λ (w : Entered). enters (runner_of types run.top.post) w (d + 1) callee.grain target c.args.args (back_here types run) (caught_here types run) run.has) way
    ∙ enters_unit types callee c.args.args (back_here types run) (caught_here types run) run.has (depth_limit - d) (d + 1) fits in
    subst (λ (left : Requests). Goes left types c.ask.new.self c.ask.result) (sym left) (c.ask.ensures.tree types)

pub returns-in_ok-open-in-Plain-clause-tree : goal.returns-in_ok-open-in-Plain-clause-tree
returns-in_ok-open-in-Plain-clause-tree c =
    let run = c.args.self.now in
    let types = program_tree c.args.checked.now in
    let callee = c.args.callee.now in
    let d = run.top.post.depth in
    let target = target_of callee in
    let context = c.in-Plain.context in
    let fits : depth_limit - d ≡ suc (depth_limit - (d + 1)) = omega (arith, c.in_ok-goes_deeper-in-Plain.ensures) in
    let way : entered target.method.option run.top.post.context ≡ Plain context = sym c.enter.ensures.table ∙ c.in-Plain.is in
    ap (λ (w : Entered). enters (runner_of types run.top.post) w (d + 1) callee.grain target c.args.args (back_here types run) (caught_here types run) run.has) way
    ∙ enters_plain types callee c.args.args (back_here types run) (caught_here types run) run.has (depth_limit - d) (d + 1) context fits c.requires.there
    ∙ c.in_ok-open-in-Plain.ensures.goes types c.requires.there run.has
    ∙ ap (goes_on types c.open.new.self.top (back_of types c.open.new.self)) (sym c.in_ok-open-in-Plain.ensures.has)

pub returns-in_ok-open-in-Joined-clause-tree : goal.returns-in_ok-open-in-Joined-clause-tree
returns-in_ok-open-in-Joined-clause-tree c =
    let run = c.args.self.now in
    let types = program_tree c.args.checked.now in
    let callee = c.args.callee.now in
    let d = run.top.post.depth in
    let target = target_of callee in
    let opened = c.in_ok-open-in-Joined.ensures in
    let fits : depth_limit - d ≡ suc (depth_limit - (d + 1)) = omega (arith, c.in_ok-goes_deeper-in-Joined.ensures) in
    let way : entered target.method.option run.top.post.context ≡ Joined = sym c.enter.ensures.table ∙ c.in-Joined.is in
    let left = ap (λ (w : Entered). enters (runner_of types run.top.post) w (d + 1) callee.grain target c.args.args (back_here types run) (caught_here types run) run.has) way
    ∙ enters_joined types callee c.args.args (back_here types run) (caught_here types run) run.has (depth_limit - d) (d + 1) fits c.requires.there
    ∙ (λ j. joined target.method.kind callee.grain (fields_of (slice_get types callee.grain.kind)) (λ has. opened.goes types c.requires.there has j) (sym opened.has j)) in
    subst (λ (left : Requests). Goes left types c.lock.new.self c.lock.result) (sym left) (c.lock.ensures.tree types)

pub returns-in-Refused-clause-tree : goal.returns-in-Refused-clause-tree
returns-in-Refused-clause-tree c =
    let run = c.args.self.now in
    let types = program_tree c.args.checked.now in
    let callee = c.args.callee.now in
    let target = target_of callee in
    let way : entered target.method.option run.top.post.context ≡ Refused c.in-Refused.why = sym c.enter.ensures.table ∙ c.in-Refused.is in
    left_at _ _ c.stop_at.ensures _ run
    (ap (λ (w : Entered). enters (runner_of types run.top.post) w (run.top.post.depth + 1) callee.grain target c.args.args (back_here types run) (caught_here types run) run.has) way
    ∙ ap (λ words. stop words run.has) (sym c.refusal.ensures))
