-- What ends a statement.
use Rattle.std.specs.Prelude.{Ok}
use Rattle.script_tree.specs.Stmts.{StmtTree}
use Rattle.script_lexer.specs.declared.faults.ParseFault.{ParseFault}
use Rattle.script_lexer.specs.declared.tokens.Symbol.TheVariants as symbol
use Rattle.script_expressions.specs.TokenReaders.{Read, ◌>>=◌}
use Rattle.script_expressions.specs.Tokens.{expected}

-- a statement that was read, where a semicolon ends it
abbrev pub ended_at : ParseFault → StmtTree → Read StmtTree
ended_at stop statement ts = expected stop symbol.Semicolon ts >>= λ end. Ok (statement, end.1)
