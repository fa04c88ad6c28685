use Rattle.std.proofs.Common.{List, [], ◌∷◌, ◌++◌, sym, subst, Bor}
use Rattle.script_tree.specs.declared.statements.Stmt.{Stmt}
use Rattle.script_machine.specs.OpenBlocks.{AreOpen}
use Rattle.script_machine.proofs.OpenBlocks.{open_push, seen}
use Rattle.script_machine.proofs.open_blocks.Open.enter.Goals as goal

pub returns : goal.returns
returns c = λ whole path are.
    let open_blocks = c.args.self.now in
    subst (λ (l : List (Bor (List Stmt))). AreOpen whole (path ++ c.args.opened ∷ []) (seen l) c.within-self.result.now) (sym c.in_ok-push.ensures.items)
    (open_push whole path c.args.opened open_blocks.around.items open_blocks.block c.within-self.result.now are c.within-self.ensures)
