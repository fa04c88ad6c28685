use Rattle.std.proofs.Common.{◌≡◌, ◌-◌, ◌<◌, ◌≤◌, ℕ, Bool, true, List, map, Option, ap, sym, ◌∙◌, arith}
use Rattle.std.specs.Prelude.{if◌then◌else◌, slice_get}
use Rattle.std.proofs.lemmas.Result.{err_from_is_err_and}
use Rattle.base_types.specs.declared.calls.GrainId.{GrainId}
use Rattle.base_types.specs.declared.calls.Value.{Value}
use Rattle.base_types.specs.declared.calls.Value.TheVariants.{Text}
use Rattle.script_tree.specs.declared.expressions.Expr.{Expr}
use Rattle.script_tree.specs.declared.items.Items.{Items}
use Rattle.script_tree.specs.declared.options.Entered.{Entered}
use Rattle.script_tree.specs.declared.options.MethodKind.TheVariants as kinds
use Rattle.script_tree.specs.declared.programs.FieldDecl.{FieldDecl}
use Rattle.script_tree.specs.declared.programs.TypeDecl.{TypeDecl}
use Rattle.script_tree.specs.declared.statements.Source.{Source}
use Rattle.script_tree.specs.declared.statements.Stmt.{Stmt}
use Rattle.script_tree.specs.Exprs.{expr_tree, call_tree}
use Rattle.script_tree.specs.Stmts.{StmtTree, Repeat, source_tree, stmt_tree, stmt_trees, block_tree, else_tree}
use Rattle.script_tree.specs.Programs.{type_tree}
use Rattle.script_values.specs.Expressions.{Locals, put_local, value_in, values_in}
use Rattle.script_values.specs.Faults.{unknown, budget, depth}
use Rattle.script_values.specs.Reasons.{reason_text}
use Rattle.script_holding.specs.Holding.{Holding}
use Rattle.script_meaning.specs.Requests.{Back, stop, with_value}
use Rattle.script_meaning.specs.Calls.{Target, bound, joined, enters, method_target, to_type, to_target, type_from}
use Rattle.script_meaning.specs.Statements.{around, calls, by_truth, deep, does, runs, runs_else, sourced}
use Rattle.script_meaning.specs.Targets.{target_of}
use Rattle.script_player.specs.PlayState.{types_in, site_of, surrounds, below, plays_method, heard, flowing, answering}
use Rattle.script_player.specs.declared.flows.Flow.{Flow}
use Rattle.script_player.specs.declared.flows.Answer.{Answer}
use Rattle.script_player.proofs.PlayProgress.{ends_at, ends_on, leads_on}
use Rattle.script_player.proofs.Steps.{step_refused, turn_reached, turn_refused, call_reached, enters_plain, enters_joined, past_deepest}
use Rattle.script_tree.proofs.StatementTrees.{let_tree, assign_tree, call_statement_tree, if_tree, while_tree, attempt_tree}
use Rattle.script_player.proofs.player.Player.+play.Goals as goal

pub play_call-returns-in_default-clause-led : goal.play_call-returns-in_default-clause-led
play_call-returns-in_default-clause-led t c = λ back onto caught.
    let world = c.args.world.now in
    let has = c.args.self.now.has in
    let progress = c.args.self.now.progress in
    let types = types_in world in
    let run = below world c.args.site.now.depth in
    let site = site_of c.args.site.now in
    let call = call_tree c.args.call.now in
    let locals = c.args.locals.now in
    let args = c.in_ok-args.args in
    let key = c.in_ok-key.key in
    let args_is = ap (λ (l : List Expr). values_in (around types run site back locals has) (map expr_tree l)) (sym c.as_slice.ensures) ∙ c.in_ok-args.ensures {u = tt} in
    let so_far = call_reached world progress types run site back call onto caught locals has c.in_ok-place.place args key (c.in_ok-place.ensures {u = tt}) args_is (c.in_ok-key.ensures {u = tt} world) in
    let none = sym (c.in_default.ensures {u = tt} ∙ ap (λ (l : List TypeDecl). type_from 0 call.target.text (map type_tree l)) c.types-types.ensures.same) in
    let middle = to_type types run site (type_from 0 call.target.text types) key call.method.text args onto caught has in
    ends_on world c.args.self.now progress progress c.stop_at.result middle (calls types run site back call onto caught locals has)
    (ends_at world has progress c.stop_at.result unknown middle c.stop_at.ensures
    (ap (λ (o : Option ℕ). to_type types run site o key call.method.text args onto caught has) none))
    so_far

pub play_call-returns-in_default-target_named-clause-led : goal.play_call-returns-in_default-target_named-clause-led
play_call-returns-in_default-target_named-clause-led t c = λ back onto caught.
    let world = c.args.world.now in
    let has = c.args.self.now.has in
    let progress = c.args.self.now.progress in
    let types = types_in world in
    let run = below world c.args.site.now.depth in
    let site = site_of c.args.site.now in
    let call = call_tree c.args.call.now in
    let locals = c.args.locals.now in
    let args = c.in_ok-args.args in
    let key = c.in_ok-key.key in
    let kind = c.in-Some.kind in
    let grain : GrainId = record { kind = kind; key = key } in
    let args_is = ap (λ (l : List Expr). values_in (around types run site back locals has) (map expr_tree l)) (sym c.as_slice.ensures) ∙ c.in_ok-args.ensures {u = tt} in
    let so_far = call_reached world progress types run site back call onto caught locals has c.in_ok-place.place args key (c.in_ok-place.ensures {u = tt}) args_is (c.in_ok-key.ensures {u = tt} world) in
    let some = sym (c.in-Some.ensures {u = tt} ∙ ap (λ (l : List TypeDecl). type_from 0 call.target.text (map type_tree l)) c.types-types.ensures.same) in
    let none = sym ((c.in_default-target_named.ensures {u = tt}).found ∙ ap (λ (l : List TypeDecl). method_target (slice_get (map type_tree l) kind) call.method.text) c.types-types.ensures.same) in
    let middle = to_type types run site (type_from 0 call.target.text types) key call.method.text args onto caught has in
    ends_on world c.args.self.now progress progress c.stop_at-in_default-target_named.result middle (calls types run site back call onto caught locals has)
    (ends_at world has progress c.stop_at-in_default-target_named.result unknown middle c.stop_at-in_default-target_named.ensures
    (ap (λ (o : Option ℕ). to_type types run site o key call.method.text args onto caught has) some
    ∙ ap (λ (o : Option Target). to_target run site grain o args onto caught has) none))
    so_far

pub play_loop-returns-then-not-take_step-clause-led : goal.play_loop-returns-then-not-take_step-clause-led
play_loop-returns-then-not-take_step-clause-led t c = λ back next.
    let world = c.args.world.now in
    let types = types_in world in
    let progress = c.turns.self.progress in
    let n = 32 - c.args.site.now.depth in
    let site = site_of c.args.site.now in
    let test = expr_tree c.args.test.now in
    let block = block_tree (stmt_trees c.args.body.now) in
    let locals = c.turns.locals.items in
    let has = c.turns.self.has in
    let after = c.take_step.new.self in
    let refused = c.if-not-take_step.ensures {u = tt} in
    let again = does types (deep types n) site back (Repeat test block) next in
    ends_on world (record { has = after; progress = progress }) progress c.args.self.now.progress c.stop_at.result (again locals has) (again c.args.locals.now.items c.args.self.now.has)
    (ends_at world after progress c.stop_at.result budget (again locals has) c.stop_at.ensures
    (turn_refused types n site back test block next locals has after refused.there refused.taken))
    (c.turns.invariant.led back next)

pub play_loop-returns-in_err-holds-clause-led : goal.play_loop-returns-in_err-holds-clause-led
play_loop-returns-in_err-holds-clause-led t c = λ back next.
    let world = c.args.world.now in
    let types = types_in world in
    let progress = c.turns.self.progress in
    let n = 32 - c.args.site.now.depth in
    let site = site_of c.args.site.now in
    let test = expr_tree c.args.test.now in
    let block = block_tree (stmt_trees c.args.body.now) in
    let locals = c.turns.locals.items in
    let found = c.as_slice.result.now in
    let after = c.take_step.new.self in
    let granted = c.if-not-take_step.ensures {u = tt} in
    let again = does types (deep types n) site back (Repeat test block) next in
    let first = runs types (deep types n) site back block again locals after in
    let second = next locals after in
    let p = err_from_is_err_and c.from_residual.result c.from_residual.ensures.1 in
    rw (p.1, p.2) (ends_on world (record { has = after; progress = progress }) progress c.args.self.now.progress c.in_err-holds.field-0.0
    (with_value (value_in (surrounds site found after) test) after (λ value. by_truth value after first second))
    (again c.args.locals.now.items c.args.self.now.has)
    (c.in_err-holds.ensures {u = tt} world first second)
    (turn_reached world progress n site back test block next locals found c.turns.self.has after c.as_slice.ensures.value granted.there granted.taken
    ∙ c.turns.invariant.led back next))

pub play_loop-returns-then-not-holds-clause-led : goal.play_loop-returns-then-not-holds-clause-led
play_loop-returns-then-not-holds-clause-led t c = λ back next.
    let world = c.args.world.now in
    let types = types_in world in
    let progress = c.turns.self.progress in
    let n = 32 - c.args.site.now.depth in
    let site = site_of c.args.site.now in
    let test = expr_tree c.args.test.now in
    let block = block_tree (stmt_trees c.args.body.now) in
    let locals = c.turns.locals.items in
    let after = c.take_step.new.self in
    let granted = c.if-not-take_step.ensures {u = tt} in
    let first = runs types (deep types n) site back block (does types (deep types n) site back (Repeat test block) next) locals after in
    let second = next locals after in
    ap (λ (b : Bool). heard world progress (if b then first else second)) (sym c.if-not-holds.true)
    ∙ c.in_ok-holds.ensures {u = tt} world first second
    ∙ turn_reached world progress n site back test block next locals c.as_slice.result.now c.turns.self.has after c.as_slice.ensures.value granted.there granted.taken
    ∙ c.turns.invariant.led back next

pub play_loop-returns-in_err-play_block-clause-led : goal.play_loop-returns-in_err-play_block-clause-led
play_loop-returns-in_err-play_block-clause-led t c = λ back next.
    let world = c.args.world.now in
    let types = types_in world in
    let progress = c.turns.self.progress in
    let n = 32 - c.args.site.now.depth in
    let site = site_of c.args.site.now in
    let test = expr_tree c.args.test.now in
    let block = block_tree (stmt_trees c.args.body.now) in
    let locals = c.turns.locals.items in
    let after = c.take_step.new.self in
    let granted = c.if-not-take_step.ensures {u = tt} in
    let again = does types (deep types n) site back (Repeat test block) next in
    let first = runs types (deep types n) site back block again locals after in
    let second = next locals after in
    let p = err_from_is_err_and c.from_residual-in_err-play_block.result c.from_residual-in_err-play_block.ensures.1 in
    rw (p.1, p.2) (ends_on world c.play_block.new.self progress c.args.self.now.progress c.in_err-play_block.field-0.0 first (again c.args.locals.now.items c.args.self.now.has)
    ((c.in_err-play_block.ensures {u = tt}).led back again)
    (ap (λ (b : Bool). heard world progress (if b then first else second)) (sym c.if-not-holds.false)
    ∙ c.in_ok-holds.ensures {u = tt} world first second
    ∙ turn_reached world progress n site back test block next locals c.as_slice.result.now c.turns.self.has after c.as_slice.ensures.value granted.there granted.taken
    ∙ c.turns.invariant.led back next))

pub play_loop-turns-preserved : goal.play_loop-turns-preserved
play_loop-turns-preserved t c =
    let after = c.take_step.new.self in
    let granted = c.if-not-take_step.ensures {u = tt} in
    let ran = c.in_ok-play_block.ensures {u = tt} in
    let taken : after.left ≡ c.turns.self.has.left - 1 = ap (λ (h : Holding). h.left) granted.taken in
    record {
      fewer = omega (arith, taken, ran.fewer, c.turns.invariant.fewer);
      led = λ back next.
          let world = c.args.world.now in
          let types = types_in world in
          let progress = c.turns.self.progress in
          let n = 32 - c.args.site.now.depth in
          let site = site_of c.args.site.now in
          let test = expr_tree c.args.test.now in
          let block = block_tree (stmt_trees c.args.body.now) in
          let locals = c.turns.locals.items in
          let again = does types (deep types n) site back (Repeat test block) next in
          let first = runs types (deep types n) site back block again locals after in
          let second = next locals after in
          let turned = c.play_block.new.self in
          ap (λ (f : Flow). heard world turned.progress (flowing f back again c.play_block.new.locals.items turned.has)) (sym c.in-Next.is)
          ∙ ran.led back again
          ∙ ap (λ (b : Bool). heard world progress (if b then first else second)) (sym c.if-not-holds.false)
          ∙ c.in_ok-holds.ensures {u = tt} world first second
          ∙ turn_reached world progress n site back test block next locals c.as_slice.result.now c.turns.self.has after c.as_slice.ensures.value granted.there granted.taken
          ∙ c.turns.invariant.led back next;
    }

pub play_loop-returns-in-Return-clause-led : goal.play_loop-returns-in-Return-clause-led
play_loop-returns-in-Return-clause-led t c = λ back next.
    let world = c.args.world.now in
    let types = types_in world in
    let progress = c.turns.self.progress in
    let n = 32 - c.args.site.now.depth in
    let site = site_of c.args.site.now in
    let test = expr_tree c.args.test.now in
    let block = block_tree (stmt_trees c.args.body.now) in
    let locals = c.turns.locals.items in
    let after = c.take_step.new.self in
    let granted = c.if-not-take_step.ensures {u = tt} in
    let again = does types (deep types n) site back (Repeat test block) next in
    let first = runs types (deep types n) site back block again locals after in
    let second = next locals after in
    let turned = c.play_block.new.self in
    ap (λ (f : Flow). heard world turned.progress (flowing f back again c.play_block.new.locals.items turned.has)) (sym c.in-Return.is)
    ∙ (c.in_ok-play_block.ensures {u = tt}).led back again
    ∙ ap (λ (b : Bool). heard world progress (if b then first else second)) (sym c.if-not-holds.false)
    ∙ c.in_ok-holds.ensures {u = tt} world first second
    ∙ turn_reached world progress n site back test block next locals c.as_slice.result.now c.turns.self.has after c.as_slice.ensures.value granted.there granted.taken
    ∙ c.turns.invariant.led back next

pub play_plainly-returns-in-Value-clause-led : goal.play_plainly-returns-in-Value-clause-led
play_plainly-returns-in-Value-clause-led t c = λ back onto.
    ap (λ (a : Answer). heard c.args.world.now c.play_call.new.self.progress (answering a onto stop c.play_call.new.self.has)) (sym c.in-Value.is)
    ∙ (c.in_ok-value.ensures {u = tt}).led back onto stop

pub play_plainly-returns-in-Caught-clause-led : goal.play_plainly-returns-in-Caught-clause-led
play_plainly-returns-in-Caught-clause-led t c = λ back onto.
    ap (λ (a : Answer). heard c.args.world.now c.play_call.new.self.progress (answering a onto stop c.play_call.new.self.has)) (sym c.in-Caught.is)
    ∙ (c.in_ok-value.ensures {u = tt}).led back onto stop

pub play_source-returns-in-Call-clause-led : goal.play_source-returns-in-Call-clause-led
play_source-returns-in-Call-clause-led t c = λ back onto.
    let world = c.args.world.now in
    let has = c.args.self.now.has in
    let progress = c.args.self.now.progress in
    let types = types_in world in
    let run = below world c.args.site.now.depth in
    let site = site_of c.args.site.now in
    let locals = c.args.locals.now in
    leads_on world c.play_plainly.new.self progress progress c.play_plainly.result (λ value. onto value locals c.play_plainly.new.self.has)
    (calls types run site back (call_tree c.in-Call.call) (λ value. onto value locals) stop locals has)
    (sourced types run site back (source_tree c.args.source.now) onto locals has)
    (c.play_plainly.ensures.led back (λ value. onto value locals))
    (ap (λ (s : Source). heard world progress (sourced types run site back (source_tree s) onto locals has)) (sym c.in-Call.is))

pub play_statement-returns-in_err-value-in-Let-clause-led : goal.play_statement-returns-in_err-value-in-Let-clause-led
play_statement-returns-in_err-value-in-Let-clause-led t c = λ back next.
    let world = c.args.world.now in
    let has = c.args.self.now.has in
    let progress = c.args.self.now.progress in
    let types = types_in world in
    let run = below world c.args.site.now.depth in
    let site = site_of c.args.site.now in
    let locals = c.args.locals.now.items in
    let onto = λ (value : Value) (l : Locals). next (put_local c.in-Let.name.text value l) in
    let source = source_tree c.in-Let.value in
    let p = err_from_is_err_and c.from_residual.result c.from_residual.ensures.1 in
    rw (p.1, p.2) (ends_on world c.play_source.new.self progress progress c.in_err-value-in-Let.field-0.0
    (sourced types run site back source onto c.as_slice.result.now has) (does types run site back (stmt_tree c.args.stmt.now) next locals has)
    ((c.in_err-value-in-Let.ensures {u = tt}).led back onto)
    (ap (λ (l : Locals). heard world progress (sourced types run site back source onto l has)) c.as_slice.ensures.value
    ∙ ap (λ (s : StmtTree). heard world progress (does types run site back s next locals has)) (sym (ap stmt_tree c.in-Let.is ∙ let_tree c.in-Let.name c.in-Let.value))))

pub play_statement-returns-in_err-value-in-Assign-clause-led : goal.play_statement-returns-in_err-value-in-Assign-clause-led
play_statement-returns-in_err-value-in-Assign-clause-led t c = λ back next.
    let world = c.args.world.now in
    let has = c.args.self.now.has in
    let progress = c.args.self.now.progress in
    let types = types_in world in
    let run = below world c.args.site.now.depth in
    let site = site_of c.args.site.now in
    let locals = c.args.locals.now.items in
    let onto = λ (value : Value) (l : Locals). next (put_local c.in-Assign.name.text value l) in
    let source = source_tree c.in-Assign.value in
    let p = err_from_is_err_and c.from_residual-in_err-value-in-Assign.result c.from_residual-in_err-value-in-Assign.ensures.1 in
    rw (p.1, p.2) (ends_on world c.play_source-in-Assign.new.self progress progress c.in_err-value-in-Assign.field-0.0
    (sourced types run site back source onto c.as_slice-in-Assign.result.now has) (does types run site back (stmt_tree c.args.stmt.now) next locals has)
    ((c.in_err-value-in-Assign.ensures {u = tt}).led back onto)
    (ap (λ (l : Locals). heard world progress (sourced types run site back source onto l has)) c.as_slice-in-Assign.ensures.value
    ∙ ap (λ (s : StmtTree). heard world progress (does types run site back s next locals has)) (sym (ap stmt_tree c.in-Assign.is ∙ assign_tree c.in-Assign.name c.in-Assign.value))))

pub play_statement-returns-in_ok-assign-in-Let-clause-led : goal.play_statement-returns-in_ok-assign-in-Let-clause-led
play_statement-returns-in_ok-assign-in-Let-clause-led t c = λ back next.
    let world = c.args.world.now in
    let has = c.args.self.now.has in
    let progress = c.args.self.now.progress in
    let types = types_in world in
    let run = below world c.args.site.now.depth in
    let site = site_of c.args.site.now in
    let locals = c.args.locals.now.items in
    let name = c.in-Let.name.text in
    let onto = λ (value : Value) (l : Locals). next (put_local name value l) in
    let source = source_tree c.in-Let.value in
    let then_at = c.play_source.new.self in
    ap (λ (l : Locals). heard world then_at.progress (next l then_at.has)) (c.in_ok-assign-in-Let.ensures {u = tt}).ok
    ∙ ap (λ (l : Locals). heard world then_at.progress (next (put_local name c.in_ok-value-in-Let.value l) then_at.has)) (sym c.as_slice.ensures.value)
    ∙ (c.in_ok-value-in-Let.ensures {u = tt}).led back onto
    ∙ ap (λ (l : Locals). heard world progress (sourced types run site back source onto l has)) c.as_slice.ensures.value
    ∙ ap (λ (s : StmtTree). heard world progress (does types run site back s next locals has)) (sym (ap stmt_tree c.in-Let.is ∙ let_tree c.in-Let.name c.in-Let.value))

pub play_statement-returns-in_ok-assign-in-Assign-clause-led : goal.play_statement-returns-in_ok-assign-in-Assign-clause-led
play_statement-returns-in_ok-assign-in-Assign-clause-led t c = λ back next.
    let world = c.args.world.now in
    let has = c.args.self.now.has in
    let progress = c.args.self.now.progress in
    let types = types_in world in
    let run = below world c.args.site.now.depth in
    let site = site_of c.args.site.now in
    let locals = c.args.locals.now.items in
    let name = c.in-Assign.name.text in
    let onto = λ (value : Value) (l : Locals). next (put_local name value l) in
    let source = source_tree c.in-Assign.value in
    let then_at = c.play_source-in-Assign.new.self in
    ap (λ (l : Locals). heard world then_at.progress (next l then_at.has)) (c.in_ok-assign-in-Assign.ensures {u = tt}).ok
    ∙ ap (λ (l : Locals). heard world then_at.progress (next (put_local name c.in_ok-value-in-Assign.value l) then_at.has)) (sym c.as_slice-in-Assign.ensures.value)
    ∙ (c.in_ok-value-in-Assign.ensures {u = tt}).led back onto
    ∙ ap (λ (l : Locals). heard world progress (sourced types run site back source onto l has)) c.as_slice-in-Assign.ensures.value
    ∙ ap (λ (s : StmtTree). heard world progress (does types run site back s next locals has)) (sym (ap stmt_tree c.in-Assign.is ∙ assign_tree c.in-Assign.name c.in-Assign.value))

pub play_statement-returns-in_ok-play_plainly-in-Call-clause-led : goal.play_statement-returns-in_ok-play_plainly-in-Call-clause-led
play_statement-returns-in_ok-play_plainly-in-Call-clause-led t c = λ back next.
    let world = c.args.world.now in
    let has = c.args.self.now.has in
    let progress = c.args.self.now.progress in
    let types = types_in world in
    let run = below world c.args.site.now.depth in
    let site = site_of c.args.site.now in
    let locals = c.args.locals.now.items in
    (c.in_ok-play_plainly-in-Call.ensures {u = tt}).led back (λ value. next locals)
    ∙ ap (λ (l : Locals). heard world progress (calls types run site back (call_tree c.in-Call.call) (λ value. next locals) stop l has)) c.as_slice-in-Call.ensures.value
    ∙ ap (λ (s : StmtTree). heard world progress (does types run site back s next locals has)) (sym (ap stmt_tree c.in-Call.is ∙ call_statement_tree c.in-Call.call))

pub play_statement-returns-in_err-holds-in-If-clause-led : goal.play_statement-returns-in_err-holds-in-If-clause-led
play_statement-returns-in_err-holds-in-If-clause-led t c = λ back next.
    let world = c.args.world.now in
    let has = c.args.self.now.has in
    let progress = c.args.self.now.progress in
    let types = types_in world in
    let run = below world c.args.site.now.depth in
    let site = site_of c.args.site.now in
    let locals = c.args.locals.now.items in
    let test = expr_tree c.in-If.test in
    let first = runs types run site back (block_tree (stmt_trees c.in-If.then.list.items)) next locals has in
    let second = runs_else types run site back (else_tree c.in-If.other) next locals has in
    let p = err_from_is_err_and c.from_residual-in_err-holds-in-If.result c.from_residual-in_err-holds-in-If.ensures.1 in
    rw (p.1, p.2) (ends_on world c.args.self.now progress progress c.in_err-holds-in-If.field-0.0
    (with_value (value_in (surrounds site c.as_slice-in-If.result.now has) test) has (λ value. by_truth value has first second))
    (does types run site back (stmt_tree c.args.stmt.now) next locals has)
    (c.in_err-holds-in-If.ensures {u = tt} world first second)
    (ap (λ (l : Locals). heard world progress (with_value (value_in (surrounds site l has) test) has (λ value. by_truth value has first second))) c.as_slice-in-If.ensures.value
    ∙ ap (λ (s : StmtTree). heard world progress (does types run site back s next locals has)) (sym (ap stmt_tree c.in-If.is ∙ if_tree c.in-If.test c.in-If.then c.in-If.other))))

pub play_statement-returns-then-holds-clause-led : goal.play_statement-returns-then-holds-clause-led
play_statement-returns-then-holds-clause-led t c = λ back next.
    let world = c.args.world.now in
    let has = c.args.self.now.has in
    let progress = c.args.self.now.progress in
    let types = types_in world in
    let run = below world c.args.site.now.depth in
    let site = site_of c.args.site.now in
    let locals = c.args.locals.now.items in
    let test = expr_tree c.in-If.test in
    let first = runs types run site back (block_tree (stmt_trees c.in-If.then.list.items)) next locals has in
    let second = runs_else types run site back (else_tree c.in-If.other) next locals has in
    leads_on world c.play_block.new.self progress progress c.play_block.result (λ flow. flowing flow back next c.play_block.new.locals.items c.play_block.new.self.has)
    (runs types run site back (block_tree (stmt_trees c.as_slice-then-holds.result.now)) next locals has)
    (does types run site back (stmt_tree c.args.stmt.now) next locals has)
    (c.play_block.ensures.led back next)
    (ap (λ (l : List Stmt). heard world progress (runs types run site back (block_tree (stmt_trees l)) next locals has)) c.as_slice-then-holds.ensures
    ∙ ap (λ (b : Bool). heard world progress (if b then first else second)) (sym c.if-holds.true)
    ∙ c.in_ok-holds-in-If.ensures {u = tt} world first second
    ∙ ap (λ (l : Locals). heard world progress (with_value (value_in (surrounds site l has) test) has (λ value. by_truth value has first second))) c.as_slice-in-If.ensures.value
    ∙ ap (λ (s : StmtTree). heard world progress (does types run site back s next locals has)) (sym (ap stmt_tree c.in-If.is ∙ if_tree c.in-If.test c.in-If.then c.in-If.other)))

pub play_statement-returns-in-Some-clause-led : goal.play_statement-returns-in-Some-clause-led
play_statement-returns-in-Some-clause-led t c = λ back next.
    let world = c.args.world.now in
    let has = c.args.self.now.has in
    let progress = c.args.self.now.progress in
    let types = types_in world in
    let run = below world c.args.site.now.depth in
    let site = site_of c.args.site.now in
    let locals = c.args.locals.now.items in
    let test = expr_tree c.in-If.test in
    let first = runs types run site back (block_tree (stmt_trees c.in-If.then.list.items)) next locals has in
    let second = runs_else types run site back (else_tree c.in-If.other) next locals has in
    leads_on world c.play_block-in-Some.new.self progress progress c.play_block-in-Some.result (λ flow. flowing flow back next c.play_block-in-Some.new.locals.items c.play_block-in-Some.new.self.has)
    (runs types run site back (block_tree (stmt_trees c.as_slice-in-Some.result.now)) next locals has)
    (does types run site back (stmt_tree c.args.stmt.now) next locals has)
    (c.play_block-in-Some.ensures.led back next)
    (ap (λ (l : List Stmt). heard world progress (runs types run site back (block_tree (stmt_trees l)) next locals has)) c.as_slice-in-Some.ensures
    ∙ ap (λ (o : Option (Items Stmt)). heard world progress (runs_else types run site back (else_tree o) next locals has)) (sym c.in-Some.is)
    ∙ ap (λ (b : Bool). heard world progress (if b then first else second)) (sym c.if-holds.false)
    ∙ c.in_ok-holds-in-If.ensures {u = tt} world first second
    ∙ ap (λ (l : Locals). heard world progress (with_value (value_in (surrounds site l has) test) has (λ value. by_truth value has first second))) c.as_slice-in-If.ensures.value
    ∙ ap (λ (s : StmtTree). heard world progress (does types run site back s next locals has)) (sym (ap stmt_tree c.in-If.is ∙ if_tree c.in-If.test c.in-If.then c.in-If.other)))

pub play_statement-returns-in-None-clause-led : goal.play_statement-returns-in-None-clause-led
play_statement-returns-in-None-clause-led t c = λ back next.
    let world = c.args.world.now in
    let has = c.args.self.now.has in
    let progress = c.args.self.now.progress in
    let types = types_in world in
    let run = below world c.args.site.now.depth in
    let site = site_of c.args.site.now in
    let locals = c.args.locals.now.items in
    let test = expr_tree c.in-If.test in
    let first = runs types run site back (block_tree (stmt_trees c.in-If.then.list.items)) next locals has in
    let second = runs_else types run site back (else_tree c.in-If.other) next locals has in
    ap (λ (o : Option (Items Stmt)). heard world progress (runs_else types run site back (else_tree o) next locals has)) (sym c.in-None.is)
    ∙ ap (λ (b : Bool). heard world progress (if b then first else second)) (sym c.if-holds.false)
    ∙ c.in_ok-holds-in-If.ensures {u = tt} world first second
    ∙ ap (λ (l : Locals). heard world progress (with_value (value_in (surrounds site l has) test) has (λ value. by_truth value has first second))) c.as_slice-in-If.ensures.value
    ∙ ap (λ (s : StmtTree). heard world progress (does types run site back s next locals has)) (sym (ap stmt_tree c.in-If.is ∙ if_tree c.in-If.test c.in-If.then c.in-If.other))

pub play_statement-returns-in-While-clause-led : goal.play_statement-returns-in-While-clause-led
play_statement-returns-in-While-clause-led t c = λ back next.
    let world = c.args.world.now in
    let has = c.args.self.now.has in
    let progress = c.args.self.now.progress in
    let types = types_in world in
    let run = below world c.args.site.now.depth in
    let site = site_of c.args.site.now in
    let locals = c.args.locals.now.items in
    let test = expr_tree c.in-While.test in
    leads_on world c.play_loop.new.self progress progress c.play_loop.result (λ flow. flowing flow back next c.play_loop.new.locals.items c.play_loop.new.self.has)
    (does types run site back (Repeat test (block_tree (stmt_trees c.as_slice-in-While.result.now))) next locals has)
    (does types run site back (stmt_tree c.args.stmt.now) next locals has)
    (c.play_loop.ensures.led back next)
    (ap (λ (l : List Stmt). heard world progress (does types run site back (Repeat test (block_tree (stmt_trees l))) next locals has)) c.as_slice-in-While.ensures
    ∙ ap (λ (s : StmtTree). heard world progress (does types run site back s next locals has)) (sym (ap stmt_tree c.in-While.is ∙ while_tree c.in-While.test c.in-While.body)))

pub play_statement-returns-in_ok-assign-in-Value-clause-led : goal.play_statement-returns-in_ok-assign-in-Value-clause-led
play_statement-returns-in_ok-assign-in-Value-clause-led t c = λ back next.
    let world = c.args.world.now in
    let has = c.args.self.now.has in
    let progress = c.args.self.now.progress in
    let types = types_in world in
    let run = below world c.args.site.now.depth in
    let site = site_of c.args.site.now in
    let locals = c.args.locals.now.items in
    let name = c.in-Attempt.name.text in
    let first = block_tree (stmt_trees c.in-Attempt.then.list.items) in
    let second = block_tree (stmt_trees c.in-Attempt.other.list.items) in
    let onto : Back = λ value. runs types run site back first next (put_local name value locals) in
    let caught = λ (fault : List ℕ). runs types run site back second next (put_local name (Text fault) locals) in
    let called = c.play_call.new.self in
    leads_on world c.play_block-in-Value.new.self called.progress progress c.play_block-in-Value.result (λ flow. flowing flow back next c.play_block-in-Value.new.locals.items c.play_block-in-Value.new.self.has)
    (runs types run site back (block_tree (stmt_trees c.as_slice-in-Value.result.now)) next c.assign-in-Value.new.locals.items called.has)
    (does types run site back (stmt_tree c.args.stmt.now) next locals has)
    (c.play_block-in-Value.ensures.led back next)
    (ap (λ (l : List Stmt). heard world called.progress (runs types run site back (block_tree (stmt_trees l)) next c.assign-in-Value.new.locals.items called.has)) c.as_slice-in-Value.ensures
    ∙ ap (λ (l : Locals). heard world called.progress (runs types run site back first next l called.has)) (c.in_ok-assign-in-Value.ensures {u = tt}).ok
    ∙ ap (λ (a : Answer). heard world called.progress (answering a onto caught called.has)) (sym c.in-Value.is)
    ∙ (c.in_ok-value-in-Attempt.ensures {u = tt}).led back onto caught
    ∙ ap (λ (l : Locals). heard world progress (calls types run site back (call_tree c.in-Attempt.call) onto caught l has)) c.as_slice-in-Attempt.ensures.value
    ∙ ap (λ (s : StmtTree). heard world progress (does types run site back s next locals has)) (sym (ap stmt_tree c.in-Attempt.is ∙ attempt_tree c.in-Attempt.at c.in-Attempt.name c.in-Attempt.call c.in-Attempt.then c.in-Attempt.other)))

pub play_statement-returns-in_ok-assign-in-Caught-clause-led : goal.play_statement-returns-in_ok-assign-in-Caught-clause-led
play_statement-returns-in_ok-assign-in-Caught-clause-led t c = λ back next.
    let world = c.args.world.now in
    let has = c.args.self.now.has in
    let progress = c.args.self.now.progress in
    let types = types_in world in
    let run = below world c.args.site.now.depth in
    let site = site_of c.args.site.now in
    let locals = c.args.locals.now.items in
    let name = c.in-Attempt.name.text in
    let first = block_tree (stmt_trees c.in-Attempt.then.list.items) in
    let second = block_tree (stmt_trees c.in-Attempt.other.list.items) in
    let onto : Back = λ value. runs types run site back first next (put_local name value locals) in
    let caught = λ (fault : List ℕ). runs types run site back second next (put_local name (Text fault) locals) in
    let called = c.play_call.new.self in
    leads_on world c.play_block-in-Caught.new.self called.progress progress c.play_block-in-Caught.result (λ flow. flowing flow back next c.play_block-in-Caught.new.locals.items c.play_block-in-Caught.new.self.has)
    (runs types run site back (block_tree (stmt_trees c.as_slice-in-Caught.result.now)) next c.assign-in-Caught.new.locals.items called.has)
    (does types run site back (stmt_tree c.args.stmt.now) next locals has)
    (c.play_block-in-Caught.ensures.led back next)
    (ap (λ (l : List Stmt). heard world called.progress (runs types run site back (block_tree (stmt_trees l)) next c.assign-in-Caught.new.locals.items called.has)) c.as_slice-in-Caught.ensures
    ∙ ap (λ (l : Locals). heard world called.progress (runs types run site back second next l called.has)) (c.in_ok-assign-in-Caught.ensures {u = tt}).ok
    ∙ ap (λ (a : Answer). heard world called.progress (answering a onto caught called.has)) (sym c.in-Caught.is)
    ∙ (c.in_ok-value-in-Attempt.ensures {u = tt}).led back onto caught
    ∙ ap (λ (l : Locals). heard world progress (calls types run site back (call_tree c.in-Attempt.call) onto caught l has)) c.as_slice-in-Attempt.ensures.value
    ∙ ap (λ (s : StmtTree). heard world progress (does types run site back s next locals has)) (sym (ap stmt_tree c.in-Attempt.is ∙ attempt_tree c.in-Attempt.at c.in-Attempt.name c.in-Attempt.call c.in-Attempt.then c.in-Attempt.other)))

pub play_step-returns-then-not-take_step-clause-led : goal.play_step-returns-then-not-take_step-clause-led
play_step-returns-then-not-take_step-clause-led t c = λ back next.
    let world = c.args.world.now in
    let types = types_in world in
    let refused = c.if-not-take_step.ensures {u = tt} in
    ends_at world c.take_step.new.self c.args.self.now.progress c.stop_at.result budget _ c.stop_at.ensures
    (step_refused (does types (below world c.args.site.now.depth) (site_of c.args.site.now) back (stmt_tree c.args.stmt.now) next) c.args.locals.now.items c.args.self.now.has c.take_step.new.self refused.there refused.taken)

pub play_target-returns-in-Refused-clause-led : goal.play_target-returns-in-Refused-clause-led
play_target-returns-in-Refused-clause-led t c = λ onto caught.
    let world = c.args.world.now in
    let has = c.args.self.now.has in
    let at = c.args.depth in
    let run = deep (types_in world) (33 - at) in
    let target = target_of c.args.target in
    ends_at world has c.args.self.now.progress c.stop_at.result (reason_text c.refusal.result)
    (enters run c.args.way at c.args.grain target c.args.args onto caught has) c.stop_at.ensures
    (ap (λ (w : Entered). enters run w at c.args.grain target c.args.args onto caught has) c.in-Refused.is
    ∙ ap (λ (text : List ℕ). stop text has) (sym c.refusal.ensures))

pub play_target-returns-then-depth-gt-DEPTH_LIMIT : goal.play_target-returns-then-depth-gt-DEPTH_LIMIT
play_target-returns-then-depth-gt-DEPTH_LIMIT t c =
    let past : 32 < c.args.depth = omega arith in
    record {
      led = λ onto caught.
          ends_at c.args.world.now c.args.self.now.has c.args.self.now.progress c.stop_at-then-depth-gt-DEPTH_LIMIT.result depth _ c.stop_at-then-depth-gt-DEPTH_LIMIT.ensures
          (past_deepest c.args.world.now c.args.depth c.args.way c.args.grain (target_of c.args.target) c.args.args onto caught c.args.self.now.has past c.in_default.not-Refused);
      fewer = omega arith;
    }

pub play_target-returns-in_err-value-in-Plain : goal.play_target-returns-in_err-value-in-Plain
play_target-returns-in_err-value-in-Plain t c =
    let within : c.args.depth ≤ 32 = omega arith in
    let p = err_from_is_err_and c.from_residual.result c.from_residual.ensures.1 in
    let fact = c.in_err-value-in-Plain.ensures {u = tt} in
    record {
      led = λ onto caught.
          let world = c.args.world.now in
          let has = c.args.self.now.has in
          let progress = c.args.self.now.progress in
          let target = target_of c.args.target in
          let frame = λ (fields : List FieldDecl).
          plays_method world (record { fields = fields; kind = kinds.Plain; grain = c.args.grain; context = c.in-Plain.context; depth = c.args.depth }) target.method (bound target.method.params c.args.args) onto has in
          rw (p.1, p.2) (ends_on world c.play_method.new.self progress progress c.in_err-value-in-Plain.field-0.0
          (frame c.as_slice-fields.result.now)
          (enters (deep (types_in world) (33 - c.args.depth)) c.args.way c.args.depth c.args.grain target c.args.args onto caught has)
          (fact.led onto)
          (ap (λ (fields : List FieldDecl). heard world progress (frame fields)) c.as_slice-fields.ensures
          ∙ ap (heard world progress) (enters_plain world c.args.depth c.args.way c.in-Plain.context c.args.grain target c.args.args onto caught has within c.in-Plain.is)));
      fewer = fact.fewer;
    }

pub play_target-returns-in_err-value-in-Joined : goal.play_target-returns-in_err-value-in-Joined
play_target-returns-in_err-value-in-Joined t c =
    let within : c.args.depth ≤ 32 = omega arith in
    let p = err_from_is_err_and c.from_residual-in_err-value-in-Joined.result c.from_residual-in_err-value-in-Joined.ensures.1 in
    let fact = c.in_err-value-in-Joined.ensures {u = tt} in
    let entry = c.in_ok-join-in-Joined.ensures {u = tt} in
    record {
      led = λ onto caught.
          let world = c.args.world.now in
          let has = c.args.self.now.has in
          let progress = c.args.self.now.progress in
          let target = target_of c.args.target in
          let kind = target.method.kind in
          let frame = λ (fields : List FieldDecl) (h : Holding).
          plays_method world (record { fields = fields; kind = kind; grain = c.args.grain; context = true; depth = c.args.depth }) target.method (bound target.method.params c.args.args) onto h in
          let found = c.as_slice-fields.result.now in
          rw (p.1, p.2) (ends_on world c.play_method-in-Joined.new.self c.join.new.self.progress progress c.in_err-value-in-Joined.field-0.0
          (frame found c.join.new.self.has)
          (enters (deep (types_in world) (33 - c.args.depth)) c.args.way c.args.depth c.args.grain target c.args.args onto caught has)
          (fact.led onto)
          (entry.led (frame found)
          ∙ ap (λ (fields : List FieldDecl). heard world progress (joined kind c.args.grain fields (frame fields) has)) c.as_slice-fields.ensures
          ∙ ap (heard world progress) (enters_joined world c.args.depth c.args.way c.args.grain target c.args.args onto caught has within c.in-Joined.is)));
      fewer = omega (arith, fact.fewer, entry.fewer);
    }
