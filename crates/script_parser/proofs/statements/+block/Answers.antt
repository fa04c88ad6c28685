use Rattle.std.proofs.Common.{◌≡◌, ◌++◌, ◌∷◌, [], ◌-◌, ◌+◌, List, length, subst, sym, ap, refl, ◌∙◌, arith, Ok}
use Rattle.std.proofs.lemmas.List.{map_push}
use Rattle.script_tree.specs.Stmts.{StmtTree, stmt_tree, stmt_trees, else_tree}
use Rattle.script_lexer.specs.declared.faults.ParseFault.{ParseFault}
use Rattle.script_lexer.specs.declared.tokens.Spanned.{Spanned}
use Rattle.script_lexer.specs.declared.tokens.Word.TheVariants as word
use Rattle.script_expressions.specs.Tokens.{expected_word}
use Rattle.script_parser.specs.Statements.{statement_over, block, if_at, else_at, while_at}
use Rattle.script_parser.proofs.PartLists.{statements_go}
use Rattle.script_parser.proofs.statements.+block.Goals as goal

pub read_statements-loop-turn-preserved : goal.read_statements-loop-turn-preserved
read_statements-loop-turn-preserved t c =
    let stop = c.args.cursor.now.stop in
    let depth = c.args.depth in
    let all = length c.args.cursor.now.tokens.now in
    let kept = c.if-takes.ensures.stop ∙ c.loop-turn.invariant.kept in
    let read = subst (λ (s : ParseFault). statement_over s depth (block s depth) c.takes.new.self.tokens.now ≡ Ok (stmt_tree c.in_ok-one.one, c.statement.new.cursor.tokens.now)) kept c.in_ok-one.ensures.read in
    let one = subst (λ (l : List Spanned). statement_over stop depth (block stop depth) l ≡ Ok (stmt_tree c.in_ok-one.one, c.statement.new.cursor.tokens.now)) c.if-takes.ensures.taken.1 read in
    let found : stmt_trees c.push.new.self.list.items ≡ stmt_trees c.loop-turn.found.list.items ++ stmt_tree c.in_ok-one.one ∷ [] = rw c.in_ok-push.ensures.pushed (map_push stmt_tree c.loop-turn.found.list.items c.in_ok-one.one) in
    record {
      kept = c.in_ok-one.ensures.stop ∙ kept;
      so_far = rw found (statements_go stop (statement_over stop depth (block stop depth)) (all - c.loop-turn.turn) (all - (c.loop-turn.turn + 1)) (stmt_trees c.loop-turn.found.list.items) c.loop-turn.cursor.tokens.now c.statement.new.cursor.tokens.now (stmt_tree c.in_ok-one.one) _ (omega arith) c.if-takes.ensures.taken.0 one c.loop-turn.invariant.so_far);
    }

pub choice-returns-clause-read : goal.choice-returns-clause-read
unfolding if_at
choice-returns-clause-read t c =
    let depth = c.args.depth in
    let kept = c.in_ok-test.ensures.stop in
    let body = subst (λ (s : ParseFault). block s depth c.expression.new.self.tokens.now ≡ Ok (stmt_trees c.in_ok-then.then.list.items, c.read_block.new.cursor.tokens.now)) kept c.in_ok-then.ensures.read in
    let other = subst (λ (s : ParseFault). else_at s (block s depth) c.read_block.new.cursor.tokens.now ≡ Ok (else_tree c.in_ok-other.other, c.other_block.new.cursor.tokens.now)) (c.in_ok-then.ensures.stop ∙ kept) c.in_ok-other.ensures.read in
    rw (c.in_ok-test.ensures.read, body, other) (ap (λ (s : StmtTree). Ok (s, c.other_block.new.cursor.tokens.now)) (sym c.choose.ensures))

pub repetition-returns-clause-read : goal.repetition-returns-clause-read
unfolding while_at
repetition-returns-clause-read t c =
    let body = subst (λ (s : ParseFault). block s c.args.depth c.expression.new.self.tokens.now ≡ Ok (stmt_trees c.in_ok-body.body.list.items, c.read_block.new.cursor.tokens.now)) c.in_ok-test.ensures.stop c.in_ok-body.ensures.read in
    rw (c.in_ok-test.ensures.read, body) (ap (λ (s : StmtTree). Ok (s, c.read_block.new.cursor.tokens.now)) (sym c.repeat.ensures))

pub attempt_blocks-returns-clause-read : goal.attempt_blocks-returns-clause-read
attempt_blocks-returns-clause-read t c = λ at name call.
    let kept = c.in_ok-then.ensures.stop in
    let else_word = subst (λ (s : ParseFault). expected_word s word.Else c.read_block.new.cursor.tokens.now ≡ Ok (c.in_ok-expect_word.field-0, c.expect_word.new.self.tokens.now)) kept c.in_ok-expect_word.ensures.read in
    let other = subst (λ (s : ParseFault). block s c.args.depth c.expect_word.new.self.tokens.now ≡ Ok (stmt_trees c.in_ok-other.other.list.items, c.read_block-2.new.cursor.tokens.now)) (c.in_ok-expect_word.ensures.stop ∙ kept) c.in_ok-other.ensures.read in
    rw (c.in_ok-then.ensures.read, else_word, other) refl
