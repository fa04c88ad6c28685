use Rattle.std.proofs.Common.{sym, subst}
use Rattle.std.specs.Prelude.{slice_get}
use Rattle.script_tree.specs.declared.options.MethodKind.{MethodKind}
use Rattle.script_meaning.specs.Calls.{joined}
use Rattle.script_machine.specs.Frames.{fields_of, goes_on}
use Rattle.script_machine.specs.Runs.{Goes, back_of}
use Rattle.script_machine.proofs.runs.Run.lock.Goals as goal

pub returns-in-Read-clause-tree : goal.returns-in-Read-clause-tree
returns-in-Read-clause-tree c = λ types.
    let run = c.args.self.now in
    subst (λ (k : MethodKind). Goes (joined k c.args.grain (fields_of (slice_get types c.args.grain.kind)) (goes_on types run.top (back_of types run)) run.has) types c.lock_in.new.self c.lock_in.result) (sym c.in-Read.is) (c.lock_in.ensures.tree types)

pub returns-in-Update-clause-tree : goal.returns-in-Update-clause-tree
returns-in-Update-clause-tree c = λ types.
    let run = c.args.self.now in
    subst (λ (k : MethodKind). Goes (joined k c.args.grain (fields_of (slice_get types c.args.grain.kind)) (goes_on types run.top (back_of types run)) run.has) types c.lock_in-in-Update.new.self c.lock_in-in-Update.result) (sym c.in-Update.is) (c.lock_in-in-Update.ensures.tree types)
