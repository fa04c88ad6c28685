-- The grammar of expressions and calls, apart from any reader.
--
-- `IsX depth ts x after` says that the tokens ts begin with an X, which is x, and that after are the tokens behind
-- it; as many as depth more braces, parentheses and prefix operators may be open.
use Rattle.std.specs.Prelude.{◌≡◌, ◌≢◌, ℕ, ℤ, zero, suc, ◌<◌, List, [], ◌∷◌, Some, None}
use Rattle.script_tree.specs.declared.expressions.Name.{Name}
use Rattle.script_tree.specs.declared.expressions.Literal.TheVariants as literal
use Rattle.script_tree.specs.declared.expressions.UnaryOp.{UnaryOp}
use Rattle.script_tree.specs.declared.expressions.BinaryOp.{BinaryOp}
use Rattle.script_tree.specs.Exprs.{ExprTree, Constant, Variable, TheKey, Prefixed, Joined, CallTree}
use Rattle.script_lexer.specs.declared.tokens.Spanned.{Spanned}
use Rattle.script_lexer.specs.declared.tokens.Token.TheVariants as token
use Rattle.script_lexer.specs.declared.tokens.Symbol.{Symbol}
use Rattle.script_lexer.specs.declared.tokens.Symbol.TheVariants as symbol
use Rattle.script_lexer.specs.declared.tokens.Word.{Word}
use Rattle.script_lexer.specs.declared.tokens.Word.TheVariants as word
use Rattle.script_expressions.specs.Expressions.{Whole, Prefix, Open, starts, joins, operator_at}

-- what tokens begin with, and the tokens behind it
abbrev pub Grammar : Type 0 → Type 1
Grammar A = List Spanned → A → List Spanned → Type 0

-- the token is this symbol, this word, this name at its place
abbrev pub IsSymbol : Spanned → Symbol → Type 0
IsSymbol t s = t.token ≡ token.Symbol s

-- the token is this word
abbrev pub IsWord : Spanned → Word → Type 0
IsWord t w = t.token ≡ token.Word w

-- the token is this name, at its place
abbrev pub IsName : Spanned → Name → Type 0
IsName t name = (t.token ≡ token.Name name.text) × (t.at ≡ name.at)

-- the token is an operator that stands between operands
abbrev pub IsOperator : Spanned → Type 0
IsOperator t = joins t.token ≢ None

-- A part of an expression over operands. Tier 0 is an operand; 1 to 5 are products, sums, comparisons, `&&` and
-- `||`, each over the tiers below it. Operators of one tier group from the left, and a comparison has no comparison
-- beside it. The second number falls to the third by the operators.
pub data Derives (Operand : Grammar ExprTree) : ℕ → ℕ → List Spanned → ExprTree → ℕ → List Spanned → Type 0 where
  single : (room : ℕ) (ts : List Spanned) (tree : ExprTree) (after : List Spanned)
      → Operand ts tree after
      → Derives Operand 0 room ts tree room after
  alone : (tier room left : ℕ) (ts : List Spanned) (tree : ExprTree) (after : List Spanned)
      → Derives Operand tier room ts tree left after
      → Derives Operand (suc tier) room ts tree left after
  joined : (tier room mid left : ℕ) (t : Spanned) (ts us : List Spanned) (o : BinaryOp) (a b : ExprTree) (after : List Spanned)
      → suc tier ≢ 3
      → joins t.token ≡ Some (suc tier, o)
      → Derives Operand (suc tier) room ts a (suc mid) (t ∷ us)
      → Derives Operand tier mid us b left after
      → Derives Operand (suc tier) room ts (Joined o a b) left after
  compared : (room mid left : ℕ) (t : Spanned) (ts us : List Spanned) (o : BinaryOp) (a b : ExprTree) (after : List Spanned)
      → joins t.token ≡ Some (3, o)
      → Derives Operand 2 room ts a (suc mid) (t ∷ us)
      → Derives Operand 2 mid us b left after
      → Derives Operand 3 room ts (Joined o a b) left after

-- an expression of at most 32 operators over these operands
abbrev pub ExpressionOver : Grammar ExprTree → Grammar ExprTree
ExpressionOver Operand ts tree after = (left : ℕ) × Derives Operand 5 32 ts tree left after

-- an operand: whole, or behind a prefix operator, or in parentheses, over the operands that may stand inside
pub data OperandOver (Inner : Grammar ExprTree) : List Spanned → ExprTree → List Spanned → Type 0 where
  whole : (t : Spanned) (tree : ExprTree) (after : List Spanned)
      → starts t.token t.at ≡ Whole tree
      → OperandOver Inner (t ∷ after) tree after
  prefix : (t : Spanned) (ts : List Spanned) (o : UnaryOp) (tree : ExprTree) (after : List Spanned)
      → starts t.token t.at ≡ Prefix o
      → Inner ts tree after
      → OperandOver Inner (t ∷ ts) (Prefixed o tree) after
  parens : (t c : Spanned) (ts : List Spanned) (tree : ExprTree) (after : List Spanned)
      → starts t.token t.at ≡ Open
      → ExpressionOver Inner ts tree (c ∷ after)
      → IsSymbol c symbol.RightParen
      → OperandOver Inner (t ∷ ts) tree after

-- nothing, where no more may be open
abbrev pub Nothing : Grammar ExprTree
Nothing ts tree after = ⊥

-- tokens begin with an operand in which so many more may be open
abbrev pub IsOperand : ℕ → Grammar ExprTree
IsOperand zero = OperandOver Nothing
IsOperand (suc depth) = OperandOver (IsOperand depth)

-- tokens begin with an expression in which so many more may be open
abbrev pub IsExpression : ℕ → Grammar ExprTree
IsExpression depth = ExpressionOver (IsOperand depth)

-- no operator of these tiers stands next
abbrev pub Stops : ℕ → List Spanned → Type 0
Stops tier ts = (k : ℕ) → k < tier → operator_at (suc k) ts ≡ None

-- the key of the grain that is called
pub data IsPlace : ℕ → List Spanned → ExprTree → List Spanned → Type 0 where
  number : (depth : ℕ) (t : Spanned) (n : ℤ) (after : List Spanned)
      → t.token ≡ token.Int n
      → IsPlace depth (t ∷ after) (Constant (literal.Int n)) after
  named : (depth : ℕ) (t : Spanned) (name : Name) (after : List Spanned)
      → IsName t name
      → IsPlace depth (t ∷ after) (Variable name) after
  key : (depth : ℕ) (t : Spanned) (after : List Spanned)
      → IsWord t word.Key
      → IsPlace depth (t ∷ after) TheKey after
  enclosed : (depth : ℕ) (o c : Spanned) (ts : List Spanned) (tree : ExprTree) (after : List Spanned)
      → IsSymbol o symbol.LeftParen
      → IsExpression depth ts tree (c ∷ after)
      → IsSymbol c symbol.RightParen
      → IsPlace (suc depth) (o ∷ ts) tree after

-- items with commas between them, and the parenthesis behind the last
pub data IsList (A : Type 0) (One : Grammar A) : List Spanned → List A → List Spanned → Type 0 where
  last : (c : Spanned) (ts : List Spanned) (x : A) (after : List Spanned)
      → One ts x (c ∷ after)
      → IsSymbol c symbol.RightParen
      → IsList A One ts (x ∷ []) after
  more : (c : Spanned) (ts us : List Spanned) (x : A) (xs : List A) (after : List Spanned)
      → One ts x (c ∷ us)
      → IsSymbol c symbol.Comma
      → IsList A One us xs after
      → IsList A One ts (x ∷ xs) after

-- a list in parentheses, which may be empty
pub data IsEnclosedList (A : Type 0) (One : Grammar A) : List Spanned → List A → List Spanned → Type 0 where
  empty : (o c : Spanned) (after : List Spanned)
      → IsSymbol o symbol.LeftParen
      → IsSymbol c symbol.RightParen
      → IsEnclosedList A One (o ∷ c ∷ after) [] after
  filled : (o : Spanned) (ts : List Spanned) (xs : List A) (after : List Spanned)
      → IsSymbol o symbol.LeftParen
      → IsList A One ts xs after
      → IsEnclosedList A One (o ∷ ts) xs after

-- a call, behind its first word: type, `/`, place, `.`, method, arguments
pub data IsCall : ℕ → List Spanned → CallTree → List Spanned → Type 0 where
  call : (depth : ℕ) (n s d m : Spanned) (target : Name) (place : ExprTree) (method : Name) (args : List ExprTree)
      (ts us after : List Spanned)
      → IsName n target
      → IsSymbol s symbol.Slash
      → IsPlace (suc depth) ts place (d ∷ m ∷ us)
      → IsSymbol d symbol.Dot
      → IsName m method
      → IsEnclosedList ExprTree (IsExpression depth) us args after
      → IsCall (suc depth) (n ∷ s ∷ ts) (record { target = target; place = place; method = method; args = args }) after
