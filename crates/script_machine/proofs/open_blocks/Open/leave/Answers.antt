use Rattle.std.proofs.Common.{List, [], ◌∷◌, ◌++◌, ◌≡◌, subst, Bor, rules}
use Rattle.script_tree.specs.declared.statements.Stmt.{Stmt}
use Rattle.script_machine.specs.OpenBlocks.{AreOpen}
use Rattle.script_machine.proofs.OpenBlocks.{open_none, open_pop, seen}
use Rattle.script_machine.proofs.open_blocks.Open.leave.Goals as goal

pub returns-in-None : goal.returns-in-None
returns-in-None c = λ whole path one are.
    let open_blocks = c.args.self.now in
    let none : open_blocks.around.items ≡ [] = search rules in
    absurd (open_none whole path one open_blocks.block.now (subst (λ (l : List (Bor (List Stmt))). AreOpen whole (path ++ one ∷ []) (seen l) open_blocks.block.now) none are))

pub returns-in-Some : goal.returns-in-Some
returns-in-Some c = λ whole path one are.
    let open_blocks = c.args.self.now in
    open_pop whole path one c.pop.new.self.items c.in-Some.block open_blocks.block.now
    (subst (λ (l : List (Bor (List Stmt))). AreOpen whole (path ++ one ∷ []) (seen l) open_blocks.block.now) c.in-Some.ensures.items are)
