-- Why a text is no program, over the grammar apart from any reader.
use Rattle.std.specs.Prelude.{◌≡◌, ℕ, List, [], ◌∷◌, ◌++◌, ◌⊎◌}
use Rattle.script_tree.specs.Programs.{TypeTree, ProgramTree}
use Rattle.script_lexer.specs.declared.faults.ParseFault.{ParseFault}
use Rattle.script_lexer.specs.declared.faults.ParseFault.TheVariants.{BadToken, Unexpected, TooDeep, Memory}
use Rattle.script_lexer.specs.declared.tokens.Spanned.{Spanned}
use Rattle.script_lexer.specs.TokenTexts.{IsLexed}
use Rattle.script_expressions.specs.Grammar.{IsOperator}
use Rattle.script_parser.specs.Grammar.{Many, IsType}

-- these tokens are the types of a program to their end, where so many braces, parentheses and prefix operators may be open
abbrev pub AreProgram : ℕ → List Spanned → ProgramTree → Type 0
AreProgram open_at_most tokens tree = Many TypeTree (IsType open_at_most) tokens tree []

-- such a program begins with these tokens
abbrev pub Begin : ℕ → List Spanned → Type 0
Begin open_at_most tokens = (more : List Spanned) × (tree : ProgramTree) × AreProgram open_at_most (tokens ++ more) tree

-- one of these tokens, which stands at a place, with those before it and those behind it
pub record TokenAt (tokens : List Spanned) (at : ℕ) : Type 0 where
  pub before : List Spanned
  pub token : Spanned
  pub after : List Spanned
  pub are : tokens ≡ before ++ (token ∷ after)
  pub place : at ≡ token.at

-- Where one more may be open, the token at the place is the first that can't follow those before it: a program begins
-- with those before it, and none with those and the token, whatever stands behind it. One before it may be too deep.
pub record IsUnexpectedAt (tokens : List Spanned) (at : ℕ) : Type 0 where
  pub here : TokenAt tokens at
  pub begins : Begin 33 here.before
  pub ends : ¬ (Begin 33 (here.before ++ (here.token ∷ [])))

-- No program begins with the tokens up to the one at the place and with it. Where one more may be open one begins with
-- those before it, and with it too, or it is an operator between operands. It need open nothing, and one before it may
-- be too deep.
pub record IsTooDeepAt (tokens : List Spanned) (at : ℕ) : Type 0 where
  pub here : TokenAt tokens at
  pub begins : Begin 33 here.before
  pub ends : ¬ (Begin 32 (here.before ++ (here.token ∷ [])))
  pub goes_on : Begin 33 (here.before ++ (here.token ∷ [])) ⊎ IsOperator here.token

-- what a fault says of the tokens of a text and of what ends them: a token is wrong; or the text ends where its tokens
-- begin a program and are none; or they begin a program and a byte behind them begins no token. Want of memory says nothing.
abbrev pub Explains : List Spanned → ParseFault → ParseFault → Type 0
Explains tokens stop (Unexpected at) = IsUnexpectedAt tokens at ⊎ ((stop ≡ Unexpected at) × Begin 33 tokens × ((tree : ProgramTree) → ¬ (AreProgram 32 tokens tree)))
Explains tokens stop (TooDeep at) = IsTooDeepAt tokens at
Explains tokens stop (BadToken at) = (stop ≡ BadToken at) × Begin 33 tokens
Explains tokens stop Memory = Unit {0}

-- the text is no program, for the reason that the fault says
pub record IsRefusal (text : List ℕ) (fault : ParseFault) : Type 0 where
  pub tokens : List Spanned
  pub stop : ParseFault
  pub lexed : IsLexed text tokens stop
  pub explains : Explains tokens stop fault
