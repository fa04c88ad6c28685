-- The blocks of a method, and what follows them.
use Rattle.std.specs.Prelude.{ℕ, zero, suc, ◌+◌, List, [], ◌∷◌, Option, Some, None}
use Rattle.base_types.specs.declared.calls.Value.{Value}
use Rattle.base_types.specs.declared.calls.Value.TheVariants.{Text}
use Rattle.script_tree.specs.Stmts.{StmtTree, BlockTree, ElseTree, Bind, Rebind, SetField, Perform, Choose, Repeat, Give, FailWith, Try, NoMore, Then, NoElse, Else}
use Rattle.script_tree.specs.Programs.{ProgramTree}
use Rattle.script_values.specs.Expressions.{put_local}
use Rattle.script_meaning.specs.Requests.{Back, stop}
use Rattle.script_meaning.specs.Calls.{Site, Runner}
use Rattle.script_meaning.specs.Statements.{Next, does, runs}
use Rattle.script_machine.specs.declared.frames.Part.{Part}
use Rattle.script_machine.specs.declared.frames.Part.TheVariants.{First, Second}
use Rattle.script_machine.specs.declared.frames.OpenBlock.{OpenBlock}

-- a block from its statement of this number on
abbrev pub from : ℕ → BlockTree → BlockTree
from zero block = block
from (suc n) NoMore = NoMore
from (suc n) (Then first rest) = from n rest

-- the first statement of a block
abbrev pub first_in : BlockTree → Option StmtTree
first_in NoMore = None
first_in (Then first rest) = Some first

-- the statement of this number
abbrev pub statement_at : ℕ → BlockTree → Option StmtTree
statement_at i block = first_in (from i block)

-- a second block, no statements where it is left out
abbrev pub else_block : ElseTree → BlockTree
else_block NoElse = NoMore
else_block (Else block) = block

-- a block of a statement: a loop's body is its first
abbrev pub part_of : Part → StmtTree → BlockTree
part_of First (Choose test block other) = block
part_of Second (Choose test block other) = else_block other
part_of First (Repeat test block) = block
part_of First (Try at name call block other) = block
part_of Second (Try at name call block other) = other
part_of First (Bind name source) = NoMore
part_of First (Rebind name source) = NoMore
part_of First (SetField name value) = NoMore
part_of First (Perform call) = NoMore
part_of First (Give value) = NoMore
part_of First (FailWith text) = NoMore
part_of Second (Bind name source) = NoMore
part_of Second (Rebind name source) = NoMore
part_of Second (SetField name value) = NoMore
part_of Second (Perform call) = NoMore
part_of Second (Repeat test block) = NoMore
part_of Second (Give value) = NoMore
part_of Second (FailWith text) = NoMore

-- the same, no statements where there is no statement
abbrev pub part_at : Part → Option StmtTree → BlockTree
part_at part None = NoMore
part_at part (Some stmt) = part_of part stmt

-- a block within a block
abbrev pub inner : BlockTree → OpenBlock → BlockTree
inner block open_block = part_at open_block.part (statement_at open_block.at block)

module _ (types : ProgramTree) (runner : Runner) (site : Site) (back : Back) where
  -- what follows the end of a block of this statement: a loop begins its next turn
  abbrev pub outer : Option StmtTree → Next → Next
  outer (Some (Repeat test block)) next = does types runner site back (Repeat test block) next
  outer None next = next
  outer (Some (Bind name source)) next = next
  outer (Some (Rebind name source)) next = next
  outer (Some (SetField name value)) next = next
  outer (Some (Perform call)) next = next
  outer (Some (Choose test block other)) next = next
  outer (Some (Give value)) next = next
  outer (Some (FailWith text)) next = next
  outer (Some (Try at name call block other)) next = next

  -- the same, where the statement is looked up in the block around it
  abbrev pub follows : BlockTree → Next → OpenBlock → Next
  follows block next open_block = outer (statement_at open_block.at block) (runs types runner site back (from (open_block.at + 1) block) next)

  -- what follows the end of the innermost of these open blocks
  abbrev pub beyond : BlockTree → Next → List OpenBlock → Next
  beyond block next [] = next
  beyond block next (open_block ∷ path) = beyond (inner block open_block) (follows block next open_block) path

  -- what the call at this statement does with its value
  abbrev pub received : Option StmtTree → Next → Value → Next
  received (Some (Bind name source)) next value = λ locals. next (put_local name.text value locals)
  received (Some (Rebind name source)) next value = λ locals. next (put_local name.text value locals)
  received (Some (Try at name call block other)) next value = λ locals. runs types runner site back block next (put_local name.text value locals)
  received None next value = next
  received (Some (SetField name given)) next value = next
  received (Some (Perform call)) next value = next
  received (Some (Choose test block other)) next value = next
  received (Some (Repeat test block)) next value = next
  received (Some (Give given)) next value = next
  received (Some (FailWith text)) next value = next

  -- and with the fault of a unit of its own
  abbrev pub caught : Option StmtTree → Next → List ℕ → Next
  caught (Some (Try at name call block other)) next text = λ locals. runs types runner site back other next (put_local name.text (Text text) locals)
  caught None next text = λ locals. stop text
  caught (Some (Bind name source)) next text = λ locals. stop text
  caught (Some (Rebind name source)) next text = λ locals. stop text
  caught (Some (SetField name value)) next text = λ locals. stop text
  caught (Some (Perform call)) next text = λ locals. stop text
  caught (Some (Choose test block other)) next text = λ locals. stop text
  caught (Some (Repeat test block)) next text = λ locals. stop text
  caught (Some (Give value)) next text = λ locals. stop text
  caught (Some (FailWith why)) next text = λ locals. stop text
