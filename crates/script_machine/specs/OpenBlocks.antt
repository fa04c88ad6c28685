-- The open blocks of a frame, as the code keeps them.
use Rattle.std.specs.Prelude.{◌≡◌, List, [], ◌∷◌, map}
use Rattle.std.specs.List.{fold}
use Rattle.script_tree.specs.declared.statements.Stmt.{Stmt}
use Rattle.script_tree.specs.Stmts.{BlockTree, block_tree, stmt_trees}
use Rattle.script_machine.specs.declared.frames.OpenBlock.{OpenBlock}
use Rattle.script_machine.specs.declared.open_blocks.Open.{Open}
use Rattle.script_machine.specs.Blocks.{inner}

-- the blocks around the innermost of these open blocks, from the outermost in
abbrev pub blocks_around : BlockTree → List OpenBlock → List BlockTree
blocks_around block [] = []
blocks_around block (one ∷ path) = block ∷ blocks_around (inner block one) path

-- a block that the code holds
abbrev pub block_in_code : List Stmt → BlockTree
block_in_code stmts = block_tree (stmt_trees stmts)

-- these are the blocks around the innermost, and the innermost, where this path leads from a method's body
pub record AreOpen (body : BlockTree) (path : List OpenBlock) (outside : List (List Stmt)) (innermost : List Stmt) : Type 0 where
  pub around : map block_in_code outside ≡ blocks_around body path
  pub block : block_in_code innermost ≡ fold inner body path

-- the same of what the code keeps
abbrev pub IsOpen : BlockTree → List OpenBlock → Open → Type 0
IsOpen body path blocks = AreOpen body path (map (λ block. block.now) blocks.around.items) blocks.block.now
