-- A step that is taken, and the turns of a loop.
use Rattle.std.proofs.Common.{◌≡◌, ℕ, zero, suc, ◌-◌, true, false, Option, Some, None, refl, sym, ap, ◌∙◌, arith}
use Rattle.std.specs.Prelude.{nat_lt}
use Rattle.script_tree.specs.declared.expressions.Expr.{Expr}
use Rattle.script_tree.specs.declared.items.Items.{Items}
use Rattle.script_tree.specs.declared.statements.Stmt.{Stmt}
use Rattle.script_tree.specs.declared.statements.Stmt as stmt
use Rattle.script_tree.specs.declared.statements.Stmt.TheOpen as open_stmt
use Rattle.script_tree.specs.declared.statements.Stmt.TheFolds.{fold-roll-Stmt}
use Rattle.script_tree.specs.Exprs.{ExprTree, expr_tree}
use Rattle.script_tree.specs.Stmts.{StmtTree, stmt_step, stmt_tree, Bind, Rebind, SetField, Perform, Choose, Repeat, Give, FailWith, Try}
use Rattle.script_tree.specs.Programs.{ProgramTree}
use Rattle.script_values.specs.Faults.{budget}
use Rattle.script_values.specs.Expressions.{Locals}
use Rattle.script_holding.specs.Limits.{depth_limit}
use Rattle.script_holding.specs.Holding.{Holding, with_left}
use Rattle.script_meaning.specs.Requests.{Back, stop}
use Rattle.script_meaning.specs.Statements.{Next, takes_step, with_step, does, runs, given}
use Rattle.script_meaning.proofs.StepCounts.{while_once}
use Rattle.script_machine.specs.declared.frames.Post.{Post}
use Rattle.script_machine.specs.declared.frames.Part.TheVariants.{First}
use Rattle.script_machine.specs.Blocks.{part_of, outer}
use Rattle.script_machine.specs.Frames.{site_of, runner_of}
use Rattle.script_machine.specs.Runs.{chosen_by}

-- the same for a number of steps
taken_at : (left : ℕ) (next : Next) (locals : Locals) (has then_has : Holding) → true ≡ nat_lt 0 left → then_has ≡ with_left (left - 1) has → with_step left next locals has ≡ next locals then_has
taken_at zero next locals has then_has there taken = absurd (cc)
taken_at (suc left) next locals has then_has there taken =
    let less : left ≡ suc left - 1 = omega arith in
    ap (next locals) (ap (λ n. with_left n has) less ∙ sym taken)

-- a step that is left is taken
pub step_taken : (next : Next) (locals : Locals) (has then_has : Holding) → true ≡ nat_lt 0 has.left → then_has ≡ with_left (has.left - 1) has → takes_step next locals has ≡ next locals then_has
step_taken next locals has then_has there taken = taken_at has.left next locals has then_has there taken

-- the same for a number of steps
none_at : (left : ℕ) (next : Next) (locals : Locals) (has : Holding) → false ≡ nat_lt 0 left → with_step left next locals has ≡ stop budget has
none_at zero next locals has none = refl
none_at (suc left) next locals has none = absurd (grind (arith, none))

-- no step is left
pub no_step : (next : Next) (locals : Locals) (has : Holding) → false ≡ nat_lt 0 has.left → takes_step next locals has ≡ stop budget has
no_step next locals has none = none_at has.left next locals has none

-- and where none is left, none is taken
left_same : (left : ℕ) (has : Holding) → false ≡ nat_lt 0 left → left ≡ left - 1
left_same zero has none = refl
left_same (suc left) has none = absurd (grind (arith, none))

pub none_taken : (has then_has : Holding) → false ≡ nat_lt 0 has.left → then_has ≡ with_left (has.left - 1) has → has ≡ then_has
none_taken has then_has none taken = ap (λ n. with_left n has) (left_same has.left has none) ∙ sym taken

-- the test of a loop
abbrev pub loop_test : StmtTree → Option ExprTree
loop_test (Repeat test block) = Some test
loop_test stmt = None

-- a loop that the code holds
pub while_test : (test : Expr) (body : Items Stmt) → loop_test (stmt_tree (stmt.While test body)) ≡ Some (expr_tree test)
unfolding stmt.roll-Stmt denote.Hole.Carrier.roll
while_test test body = ap loop_test (fold-roll-Stmt StmtTree stmt_step (open_stmt.While test body))

-- one test is the other
same_test : (one other : ExprTree) → Some one ≡ Some other → one ≡ other
same_test one other e = cc

-- no test is not one
no_loop : (test : ExprTree) → ◌≡◌ {A = Option ExprTree} None (Some test) → ⊥
no_loop test e = absurd (cc)

module _ (types : ProgramTree) (post : Post) (back : Back) where
  -- a loop's next turn: a step, the test, and then its block or what follows
  pub turn_again : (stmt : StmtTree) (test : ExprTree) → loop_test stmt ≡ Some test → (next : Next) (locals : Locals) (has then_has : Holding) → true ≡ nat_lt 0 has.left → then_has ≡ with_left (has.left - 1) has →
      outer types (runner_of types post) (site_of types post) back (Some stmt) next locals has
      ≡ chosen_by (given types (runner_of types post) (site_of types post) back test locals then_has) then_has
      (runs types (runner_of types post) (site_of types post) back (part_of First stmt) (outer types (runner_of types post) (site_of types post) back (Some stmt) next) locals then_has)
      (next locals then_has)
  turn_again (Repeat one block) test e next locals has then_has there taken =
      while_once types (depth_limit - post.depth) (site_of types post) back one block next locals has
      ∙ step_taken _ locals has then_has there taken
      ∙ ap (λ (x : ExprTree). chosen_by (given types (runner_of types post) (site_of types post) back x locals then_has) then_has
      (runs types (runner_of types post) (site_of types post) back block (does types (runner_of types post) (site_of types post) back (Repeat one block) next) locals then_has)
      (next locals then_has)) (same_test one test e)
  turn_again (Bind name value) test e next locals has then_has there taken = absurd (no_loop test e)
  turn_again (Rebind name value) test e next locals has then_has there taken = absurd (no_loop test e)
  turn_again (SetField name value) test e next locals has then_has there taken = absurd (no_loop test e)
  turn_again (Perform call) test e next locals has then_has there taken = absurd (no_loop test e)
  turn_again (Choose one block other) test e next locals has then_has there taken = absurd (no_loop test e)
  turn_again (Give value) test e next locals has then_has there taken = absurd (no_loop test e)
  turn_again (FailWith text) test e next locals has then_has there taken = absurd (no_loop test e)
  turn_again (Try at name call block other) test e next locals has then_has there taken = absurd (no_loop test e)

  -- or no step is left for it
  pub turn_stops : (stmt : StmtTree) (test : ExprTree) → loop_test stmt ≡ Some test → (next : Next) (locals : Locals) (has : Holding) → false ≡ nat_lt 0 has.left →
      outer types (runner_of types post) (site_of types post) back (Some stmt) next locals has ≡ stop budget has
  turn_stops (Repeat one block) test e next locals has none = while_once types (depth_limit - post.depth) (site_of types post) back one block next locals has ∙ no_step _ locals has none
  turn_stops (Bind name value) test e next locals has none = absurd (no_loop test e)
  turn_stops (Rebind name value) test e next locals has none = absurd (no_loop test e)
  turn_stops (SetField name value) test e next locals has none = absurd (no_loop test e)
  turn_stops (Perform call) test e next locals has none = absurd (no_loop test e)
  turn_stops (Choose one block other) test e next locals has none = absurd (no_loop test e)
  turn_stops (Give value) test e next locals has none = absurd (no_loop test e)
  turn_stops (FailWith text) test e next locals has none = absurd (no_loop test e)
  turn_stops (Try at name call block other) test e next locals has none = absurd (no_loop test e)
