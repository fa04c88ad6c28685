use Rattle.std.proofs.Common.{◌≡◌, ◌+◌, ◌-◌, sym, ◌∙◌, arith, Ok, subst, eq-eqb}
use Rattle.std.proofs.lemmas.Bool.{ne_eqb}
use Rattle.std.proofs.lemmas.Result.{err_from_is_err_and}
use Rattle.script_tree.specs.Exprs.{expr_tree}
use Rattle.script_lexer.specs.declared.faults.ParseFault.{ParseFault}
use Rattle.script_expressions.specs.TokenReaders.{FailsReading}
use Rattle.script_expressions.specs.Expressions.{tiers, operand}
use Rattle.script_expressions.proofs.Steps.{chain_none, chain_end, chain_full, chain_goes, chain_compared, chain_fails, fails_is}
use Rattle.script_expressions.proofs.cursor.Cursor.+expression.Goals as goal

pub tier-returns-in_default-clause-read : goal.tier-returns-in_default-clause-read
tier-returns-in_default-clause-read t c =
    let nothing = c.in_default.ensures.found.0 in
    subst (λ l. tiers (operand c.args.self.now.stop c.args.depth) c.args.tier c.args.room c.args.self.now.tokens.now ≡ Ok ((expr_tree c.loop-turn.left, c.loop-turn.spare), l)) (sym c.in_default.ensures.found.1)
    (sym c.loop-turn.invariant.so_far ∙ chain_none _ _ _ _ _ _ nothing)

pub tier-returns-then-spare-eq0-clause-read : goal.tier-returns-then-spare-eq0-clause-read
tier-returns-then-spare-eq0-clause-read t c = sym c.loop-turn.invariant.so_far ∙ chain_full _ _ _ _ _ _ _ (omega arith) c.if-spare-eq0.true c.in-Some.ensures.found

pub tier-returns-in_err-right-clause-read : goal.tier-returns-in_err-right-clause-read
tier-returns-in_err-right-clause-read t c =
    let p = err_from_is_err_and c.from_residual-in_err-right.result c.from_residual-in_err-right.ensures.1 in
    let kept = c.in-Some.ensures.stop ∙ c.loop-turn.invariant.kept in
    let side = tiers (operand c.args.self.now.stop c.args.depth) (c.args.tier - 1) in
    let right = subst (λ (s : ParseFault). FailsReading c.in_err-right.field-0.0 (tiers (operand s c.args.depth) (c.args.tier - 1) (c.loop-turn.spare - 1) c.operator.new.self.tokens.now)) kept c.in_err-right.ensures.read in
    rw (p.1, p.2) (fails_is _ _ _ c.loop-turn.invariant.so_far (chain_fails side c.args.tier _ (33 - c.loop-turn.turn) (33 - (c.loop-turn.turn + 1)) (expr_tree c.loop-turn.left) c.loop-turn.spare (c.loop-turn.spare - 1) ((c.in-Some.op, c.in-Some.at), c.operator.new.self.tokens.now) c.loop-turn.self.tokens.now (omega arith) (omega arith) c.in-Some.ensures.found right))

pub tier-returns-then-tier-eq-COMPARISON-clause-read :
    goal.tier-returns-then-tier-eq-COMPARISON-clause-read
tier-returns-then-tier-eq-COMPARISON-clause-read t c =
    let kept = c.in-Some.ensures.stop ∙ c.loop-turn.invariant.kept in
    let side = tiers (operand c.args.self.now.stop c.args.depth) (c.args.tier - 1) in
    let right = subst (λ (s : ParseFault). tiers (operand s c.args.depth) (c.args.tier - 1) (c.loop-turn.spare - 1) c.operator.new.self.tokens.now ≡ Ok ((expr_tree c.in_ok-right.right, c.in_ok-right.rest), c.tier-in-loop-turn.new.self.tokens.now)) kept c.in_ok-right.ensures.read in
    rw c.in_ok-left-2.ensures (sym c.loop-turn.invariant.so_far ∙ chain_compared side c.args.tier (33 - c.loop-turn.turn) (33 - (c.loop-turn.turn + 1)) (expr_tree c.loop-turn.left) c.loop-turn.spare (c.loop-turn.spare - 1) ((c.in-Some.op, c.in-Some.at), c.operator.new.self.tokens.now) c.loop-turn.self.tokens.now _ _ _ (omega arith) (omega arith) c.in-Some.ensures.found right (eq-eqb c.args.tier 3 c.if-tier-eq-COMPARISON.true))

pub tier-loop-turn-preserved : goal.tier-loop-turn-preserved
tier-loop-turn-preserved t c =
    let kept = c.in-Some.ensures.stop ∙ c.loop-turn.invariant.kept in
    let side = tiers (operand c.args.self.now.stop c.args.depth) (c.args.tier - 1) in
    let right = subst (λ (s : ParseFault). tiers (operand s c.args.depth) (c.args.tier - 1) (c.loop-turn.spare - 1) c.operator.new.self.tokens.now ≡ Ok ((expr_tree c.in_ok-right.right, c.in_ok-right.rest), c.tier-in-loop-turn.new.self.tokens.now)) kept c.in_ok-right.ensures.read in
    record {
      kept = c.in_ok-right.ensures.stop ∙ kept;
      so_far = rw c.in_ok-left-2.ensures (sym (chain_goes side c.args.tier (33 - c.loop-turn.turn) (33 - (c.loop-turn.turn + 1)) (expr_tree c.loop-turn.left) c.loop-turn.spare (c.loop-turn.spare - 1) ((c.in-Some.op, c.in-Some.at), c.operator.new.self.tokens.now) c.loop-turn.self.tokens.now _ _ _ (omega arith) (omega arith) c.in-Some.ensures.found right (ne_eqb c.args.tier 3 c.if-tier-eq-COMPARISON.false)) ∙ c.loop-turn.invariant.so_far);
    }

pub tier-returns-clause-read : goal.tier-returns-clause-read
tier-returns-clause-read t c = sym c.loop-turn.invariant.so_far ∙ chain_end _ _ _ _ _ _ (omega arith)
