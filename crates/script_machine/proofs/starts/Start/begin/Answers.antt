use Rattle.std.proofs.Common.{◌≡◌, ◌-◌, suc, ap, sym, ◌∙◌, arith}
use Rattle.std.specs.Prelude.{slice_get}
use Rattle.script_tree.specs.Programs.{program_tree}
use Rattle.script_meaning.specs.Calls.{joined}
use Rattle.script_machine.specs.Frames.{fields_of}
use Rattle.script_machine.specs.Machines.{first_opened}
use Rattle.script_machine.proofs.starts.Start.begin.Goals as goal

pub returns-in-Ok : goal.returns-in-Ok
returns-in-Ok c =
    let types = program_tree c.args.checked.now in
    let callee = c.args.callee.now in
    let n : 33 - c.args.depth ≡ suc (32 - c.args.depth) = omega (arith, c.if-depth-gt-DEPTH_LIMIT.false) in
    ap (λ k. first_opened types k callee c.args.kind c.args.context c.args.args.now c.args.depth) n
    ∙ (λ j. joined c.args.kind callee.grain (fields_of (slice_get types callee.grain.kind)) (λ has. c.in_ok-run.ensures.goes types c.requires.there has j) (sym c.in_ok-run.ensures.has j))
    ∙ c.in-Ok.ensures types
