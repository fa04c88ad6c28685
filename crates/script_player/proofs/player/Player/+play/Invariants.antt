use Rattle.std.proofs.Common.{◌≡◌, ◌≤◌, ◌+◌, ◌*◌, drop}
use Rattle.script_tree.specs.Exprs.{expr_tree}
use Rattle.script_tree.specs.Stmts.{Repeat, stmt_trees, block_tree}
use Rattle.script_meaning.specs.Requests.{Back}
use Rattle.script_meaning.specs.Statements.{Next, does, runs}
use Rattle.script_player.specs.PlayState.{types_in, site_of, below, heard}
use Rattle.script_player.proofs.player.Player.+play.Given as goal

abbrev pub decreases-play_step : goal.decreases-play_step
decreases-play_step l = 8 * l.self.now.has.left

abbrev pub decreases-play_loop : goal.decreases-play_loop
decreases-play_loop l = 8 * l.self.now.has.left

abbrev pub decreases-play_block : goal.decreases-play_block
decreases-play_block l = 8 * l.self.now.has.left + 1

abbrev pub decreases-play_method : goal.decreases-play_method
decreases-play_method l = 8 * l.self.now.has.left + 2

abbrev pub decreases-play_target : goal.decreases-play_target
decreases-play_target l = 8 * l.self.now.has.left + 3

abbrev pub decreases-play_call : goal.decreases-play_call
decreases-play_call l = 8 * l.self.now.has.left + 4

abbrev pub decreases-play_plainly : goal.decreases-play_plainly
decreases-play_plainly l = 8 * l.self.now.has.left + 5

abbrev pub decreases-play_source : goal.decreases-play_source
decreases-play_source l = 8 * l.self.now.has.left + 6

abbrev pub decreases-play_statement : goal.decreases-play_statement
decreases-play_statement l = 8 * l.self.now.has.left + 7

abbrev pub invariant-play_block-loop-stmt : goal.invariant-play_block-loop-stmt
invariant-play_block-loop-stmt l = record {
  fewer : l.self.has.left ≤ l.fn.self.has.left;
  led : (back : Back) (next : Next) →
      heard l.world l.self.progress (runs (types_in l.world) (below l.world l.site.depth) (site_of l.site) back (block_tree (stmt_trees (drop l.stmt-index l.block))) next l.locals.items l.self.has)
      ≡ heard l.world l.fn.self.progress (runs (types_in l.world) (below l.world l.site.depth) (site_of l.site) back (block_tree (stmt_trees l.block)) next l.fn.locals.items l.fn.self.has);
}

abbrev pub invariant-play_loop-turns : goal.invariant-play_loop-turns
invariant-play_loop-turns l = record {
  fewer : l.self.has.left ≤ l.fn.self.has.left;
  led : (back : Back) (next : Next) →
      heard l.world l.self.progress (does (types_in l.world) (below l.world l.site.depth) (site_of l.site) back (Repeat (expr_tree l.test) (block_tree (stmt_trees l.body))) next l.locals.items l.self.has)
      ≡ heard l.world l.fn.self.progress (does (types_in l.world) (below l.world l.site.depth) (site_of l.site) back (Repeat (expr_tree l.test) (block_tree (stmt_trees l.body))) next l.fn.locals.items l.fn.self.has);
}

abbrev pub decreases-play_loop-turns : goal.decreases-play_loop-turns
decreases-play_loop-turns l = l.self.has.left
