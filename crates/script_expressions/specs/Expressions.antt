-- Expressions, read from the left.
use Rattle.std.specs.Prelude.{ℕ, zero, suc, List, [], ◌∷◌, Ok, Err, Option, Some, None, nat_eq, if◌then◌else◌}
use Rattle.script_tree.specs.declared.expressions.Literal.TheVariants as literal
use Rattle.script_tree.specs.declared.expressions.UnaryOp.{UnaryOp}
use Rattle.script_tree.specs.declared.expressions.UnaryOp.TheVariants as unary
use Rattle.script_tree.specs.declared.expressions.BinaryOp.{BinaryOp}
use Rattle.script_tree.specs.declared.expressions.BinaryOp.TheVariants as op
use Rattle.script_tree.specs.Exprs.{ExprTree, Constant, Variable, TheKey, Prefixed, Joined, expr_tree}
use Rattle.script_lexer.specs.declared.faults.ParseFault.{ParseFault}
use Rattle.script_lexer.specs.declared.faults.ParseFault.TheVariants.{Unexpected, TooDeep}
use Rattle.script_lexer.specs.declared.tokens.Spanned.{Spanned}
use Rattle.script_lexer.specs.declared.tokens.Token.{Token}
use Rattle.script_lexer.specs.declared.tokens.Token.TheVariants as token
use Rattle.script_lexer.specs.declared.tokens.Symbol.{Symbol}
use Rattle.script_lexer.specs.declared.tokens.Symbol.TheVariants as symbol
use Rattle.script_lexer.specs.declared.tokens.Word.{Word}
use Rattle.script_lexer.specs.declared.tokens.Word.TheVariants as word
use Rattle.script_expressions.specs.declared.operators.Start.{Start}
use Rattle.script_expressions.specs.declared.operators.Start.TheVariants as start
use Rattle.script_expressions.specs.TokenReaders.{Part, Read, ◌>>=◌}
use Rattle.script_expressions.specs.Tokens.{expected}

-- how an operand begins: it is whole, or an operator or a parenthesis stands before more; or it doesn't
pub data Beginning : Type 0 where
  Whole : ExprTree → Beginning
  Prefix : UnaryOp → Beginning
  Open : Beginning
  Never : Beginning

-- how it begins with a word, a symbol, a token at a place
abbrev pub word_starts : Word → Beginning
word_starts word.Key = Whole TheKey
word_starts word.Type = Never
word_starts word.Field = Never
word_starts word.Method = Never
word_starts word.Let = Never
word_starts word.Set = Never
word_starts word.If = Never
word_starts word.Else = Never
word_starts word.While = Never
word_starts word.Return = Never
word_starts word.Fail = Never
word_starts word.Call = Never
word_starts word.Attempt = Never

-- what may begin with a symbol: an operand behind a prefix operator, one in parentheses, or none
abbrev pub symbol_starts : Symbol → Beginning
symbol_starts symbol.Minus = Prefix unary.Minus
symbol_starts symbol.Not = Prefix unary.Not
symbol_starts symbol.LeftParen = Open
symbol_starts symbol.LeftBrace = Never
symbol_starts symbol.RightBrace = Never
symbol_starts symbol.RightParen = Never
symbol_starts symbol.Semicolon = Never
symbol_starts symbol.Comma = Never
symbol_starts symbol.Dot = Never
symbol_starts symbol.Assign = Never
symbol_starts symbol.Plus = Never
symbol_starts symbol.Star = Never
symbol_starts symbol.Slash = Never
symbol_starts symbol.Percent = Never
symbol_starts symbol.Less = Never
symbol_starts symbol.Greater = Never
symbol_starts symbol.LessEqual = Never
symbol_starts symbol.GreaterEqual = Never
symbol_starts symbol.Equal = Never
symbol_starts symbol.NotEqual = Never
symbol_starts symbol.And = Never
symbol_starts symbol.Or = Never

-- what may begin with a token: a whole operand, a longer one, or none
abbrev pub starts : Token → ℕ → Beginning
starts (token.Name s) at = Whole (Variable (record { text = s; at = at }))
starts (token.Word w) at = word_starts w
starts (token.Int n) at = Whole (Constant (literal.Int n))
starts (token.Text s) at = Whole (Constant (literal.Chars s))
starts (token.Symbol s) at = symbol_starts s

-- the beginning that the code holds
abbrev pub start_tree : Start → Beginning
start_tree (start.Whole e) = Whole (expr_tree e)
start_tree (start.Prefix o) = Prefix o
start_tree start.Open = Open
start_tree start.NoStart = Never

-- The operator between operands that a symbol is, with its tier: products, sums, comparisons, `&&`, `||`. A higher one binds looser.
abbrev pub symbol_joins : Symbol → Option (ℕ × BinaryOp)
symbol_joins symbol.Star = Some (1, op.Mul)
symbol_joins symbol.Slash = Some (1, op.Div)
symbol_joins symbol.Percent = Some (1, op.Rem)
symbol_joins symbol.Plus = Some (2, op.Add)
symbol_joins symbol.Minus = Some (2, op.Sub)
symbol_joins symbol.Equal = Some (3, op.Eq)
symbol_joins symbol.NotEqual = Some (3, op.Ne)
symbol_joins symbol.Less = Some (3, op.Lt)
symbol_joins symbol.LessEqual = Some (3, op.Le)
symbol_joins symbol.Greater = Some (3, op.Gt)
symbol_joins symbol.GreaterEqual = Some (3, op.Ge)
symbol_joins symbol.And = Some (4, op.And)
symbol_joins symbol.Or = Some (5, op.Or)
symbol_joins symbol.LeftBrace = None
symbol_joins symbol.RightBrace = None
symbol_joins symbol.LeftParen = None
symbol_joins symbol.RightParen = None
symbol_joins symbol.Semicolon = None
symbol_joins symbol.Comma = None
symbol_joins symbol.Dot = None
symbol_joins symbol.Assign = None
symbol_joins symbol.Not = None

-- the tier and the operator of a token that stands between operands
abbrev pub joins : Token → Option (ℕ × BinaryOp)
joins (token.Symbol s) = symbol_joins s
joins (token.Name s) = None
joins (token.Word w) = None
joins (token.Int n) = None
joins (token.Text s) = None

-- an operator with its place, and the tokens after it
abbrev pub Operator : Type 0
Operator = (BinaryOp × ℕ) × List Spanned

-- an operator with its place and the tokens after it, where it is one of this tier
abbrev pub of_tier : ℕ → Option (ℕ × BinaryOp) → ℕ → List Spanned → Option Operator
of_tier tier None at ts = None
of_tier tier (Some x) at ts = if nat_eq x.0 tier then Some ((x.1, at), ts) else None

-- the operator of this tier that stands next
unfoldable pub operator_at : ℕ → List Spanned → Option Operator
operator_at tier [] = None
operator_at tier (t ∷ ts) = of_tier tier (joins t.token) t.at ts

-- a part of an expression, and how many more operators the expression may have
abbrev pub Sized : Type 0
Sized = ExprTree × ℕ

-- What follows a left side: nothing, or an operator with its right side, and more of them. Comparisons don't follow one another.
abbrev pub linked : (ℕ → Read Sized) → ℕ → (ExprTree → ℕ → Read Sized) → ExprTree → ℕ → List Spanned → Option Operator → Part Sized
linked side tier more left room ts None = Ok ((left, room), ts)
linked side tier more left zero ts (Some o) = Err (TooDeep o.0.1)
linked side tier more left (suc room) ts (Some o) = side room o.1 >>= λ x. if nat_eq tier 3 then Ok ((Joined o.0.0 left x.0.0, x.0.1), x.1) else more (Joined o.0.0 left x.0.0) x.0.1 x.1

-- The operators of one tier from the left, over the right sides that `side` reads. The second number bounds the turns; 33 are always enough.
unfoldable pub operand_chain : (ℕ → Read Sized) → ℕ → ℕ → ExprTree → ℕ → Read Sized
operand_chain side tier zero left room ts = Ok ((left, room), ts)
operand_chain side tier (suc n) left room ts = linked side tier (operand_chain side tier n) left room ts (operator_at tier ts)

-- the operators up to a tier, over the operands that `next` reads
unfoldable pub tiers : Read ExprTree → ℕ → ℕ → Read Sized
tiers next zero room ts = next ts >>= λ x. Ok ((x.0, room), x.1)
tiers next (suc tier) room ts = tiers next tier room ts >>= λ x. operand_chain (tiers next tier) (suc tier) 33 x.0.0 x.0.1 x.1

-- an expression of at most 32 operators over these operands
unfoldable pub expression_over : Read ExprTree → Read ExprTree
expression_over next ts = tiers next 5 32 ts >>= λ x. Ok (x.0.0, x.1)

-- an expression behind an open parenthesis, and the one that closes it
unfoldable pub enclosed_over : ParseFault → Read ExprTree → Read ExprTree
enclosed_over stop next ts = expression_over next ts >>= λ x. expected stop symbol.RightParen x.1 >>= λ c. Ok (x.0, c.1)

-- what follows a prefix operator and a parenthesis; none where no more may be open
abbrev pub Deeper : Type 0
Deeper = Option (Read ExprTree)

-- an operand that begins so
abbrev pub operand_from : ParseFault → Deeper → Beginning → ℕ → Read ExprTree
operand_from stop deeper (Whole tree) at ts = Ok (tree, ts)
operand_from stop deeper Never at ts = Err (Unexpected at)
operand_from stop None (Prefix o) at ts = Err (TooDeep at)
operand_from stop None Open at ts = Err (TooDeep at)
operand_from stop (Some next) (Prefix o) at ts = next ts >>= λ x. Ok (Prefixed o x.0, x.1)
operand_from stop (Some next) Open at ts = enclosed_over stop next ts

-- an operand from these tokens on; the fault where there is none left
abbrev pub operand_of : ParseFault → Deeper → Read ExprTree
operand_of stop deeper [] = Err stop
operand_of stop deeper (t ∷ ts) = operand_from stop deeper (starts t.token t.at) t.at ts

-- an operand, where so many braces, parentheses and prefix operators may be open
unfoldable pub operand : ParseFault → ℕ → Read ExprTree
operand stop zero ts = operand_of stop None ts
operand stop (suc depth) ts = operand_of stop (Some (operand stop depth)) ts

-- an expression, where so many may be open
unfoldable pub expression : ParseFault → ℕ → Read ExprTree
expression stop depth ts = expression_over (operand stop depth) ts

-- the same in parentheses, behind the first
unfoldable pub enclosed : ParseFault → ℕ → Read ExprTree
enclosed stop depth ts = enclosed_over stop (operand stop depth) ts
