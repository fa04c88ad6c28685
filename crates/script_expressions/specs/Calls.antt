-- Calls, read from the left.
use Rattle.std.specs.Prelude.{ℕ, zero, suc, List, [], ◌∷◌, length, Ok, Err, Option, Some, None}
use Rattle.script_tree.specs.declared.expressions.Literal.TheVariants as literal
use Rattle.script_tree.specs.declared.expressions.Name.{Name}
use Rattle.script_tree.specs.Exprs.{ExprTree, Constant, Variable, TheKey, CallTree}
use Rattle.script_lexer.specs.declared.faults.ParseFault.{ParseFault}
use Rattle.script_lexer.specs.declared.faults.ParseFault.TheVariants.{TooDeep}
use Rattle.script_lexer.specs.declared.tokens.Spanned.{Spanned}
use Rattle.script_lexer.specs.declared.tokens.Token.{Token}
use Rattle.script_lexer.specs.declared.tokens.Token.TheVariants as token
use Rattle.script_lexer.specs.declared.tokens.Symbol.TheVariants as symbol
use Rattle.script_lexer.specs.declared.tokens.Word.{Word}
use Rattle.script_lexer.specs.declared.tokens.Word.TheVariants as word
use Rattle.script_expressions.specs.TokenReaders.{Part, Read, ◌>>=◌}
use Rattle.script_expressions.specs.Tokens.{refused_token, expected, name_at, taken}
use Rattle.script_expressions.specs.Expressions.{expression, enclosed}

module _ (stop : ParseFault) where
  -- an expression in parentheses, behind the first, which is open at a place
  abbrev pub enclosed_in : ℕ → ℕ → Read ExprTree
  enclosed_in zero at ts = Err (TooDeep at)
  enclosed_in (suc depth) at ts = enclosed stop depth ts

  -- an expression in parentheses
  unfoldable pub parenthesised : ℕ → Read ExprTree
  parenthesised depth ts = expected stop symbol.LeftParen ts >>= λ o. enclosed_in depth o.0 o.1

  -- the key that begins with a word, or with a token, at a place, before tokens; all of them are the last
  abbrev pub word_place : ℕ → Word → List Spanned → Read ExprTree
  word_place depth word.Key ts all = Ok (TheKey, ts)
  word_place depth word.Type ts all = parenthesised depth all
  word_place depth word.Field ts all = parenthesised depth all
  word_place depth word.Method ts all = parenthesised depth all
  word_place depth word.Let ts all = parenthesised depth all
  word_place depth word.Set ts all = parenthesised depth all
  word_place depth word.If ts all = parenthesised depth all
  word_place depth word.Else ts all = parenthesised depth all
  word_place depth word.While ts all = parenthesised depth all
  word_place depth word.Return ts all = parenthesised depth all
  word_place depth word.Fail ts all = parenthesised depth all
  word_place depth word.Call ts all = parenthesised depth all
  word_place depth word.Attempt ts all = parenthesised depth all

  -- such a key, by the token at its begin and its place
  abbrev pub place_from : ℕ → Token → ℕ → List Spanned → Read ExprTree
  place_from depth (token.Int n) at ts all = Ok (Constant (literal.Int n), ts)
  place_from depth (token.Name s) at ts all = Ok (Variable (record { text = s; at = at }), ts)
  place_from depth (token.Word w) at ts all = word_place depth w ts all
  place_from depth (token.Symbol s) at ts all = parenthesised depth all
  place_from depth (token.Text s) at ts all = parenthesised depth all

  -- the key of the grain that is called: a number, a name, the caller's own key, or an expression in parentheses
  unfoldable pub place_at : ℕ → Read ExprTree
  place_at depth [] = Err stop
  place_at depth (t ∷ ts) = place_from depth t.token t.at ts (t ∷ ts)

  -- the list ends behind an item, or goes on behind a comma
  abbrev pub goes_on : {A : Type 0} → Read (List A) → A → List Spanned → Option (List Spanned) → Part (List A)
  goes_on more x ts (Some after) = Ok (x ∷ [], after)
  goes_on more x ts None = expected stop symbol.Comma ts >>= λ c. more c.1 >>= λ r. Ok (x ∷ r.0, r.1)

  -- Items with commas between them, and the parenthesis behind the last. The number bounds the turns; the count of the tokens is always enough.
  unfoldable pub listed : {A : Type 0} → Read A → ℕ → Read (List A)
  listed one zero ts = Err (refused_token stop ts)
  listed one (suc n) ts = one ts >>= λ x. goes_on (listed one n) x.0 x.1 (taken symbol.RightParen x.1)

  -- a list in parentheses, behind the first, which may be empty
  abbrev pub listed_or_none : {A : Type 0} → Read A → List Spanned → Option (List Spanned) → Part (List A)
  listed_or_none one ts (Some after) = Ok ([], after)
  listed_or_none one ts None = listed one (length ts) ts

  -- arguments behind their parenthesis, which is open at a place
  abbrev pub arguments_in : ℕ → ℕ → Read (List ExprTree)
  arguments_in zero at ts = Err (TooDeep at)
  arguments_in (suc depth) at ts = listed_or_none (expression stop depth) ts (taken symbol.RightParen ts)

  -- the arguments in their parentheses
  unfoldable pub arguments : ℕ → Read (List ExprTree)
  arguments depth ts = expected stop symbol.LeftParen ts >>= λ o. arguments_in depth o.0 o.1

  -- the method of a call and its arguments, behind its type and its key
  abbrev pub called_at : ℕ → Name → ExprTree → Read CallTree
  called_at depth target place ts = do
    dot ← expected stop symbol.Dot ts
    method ← name_at stop dot.1
    args ← arguments depth method.1
    Ok (record { target = target; place = place; method = method.0; args = args.0 }, args.1)

  -- a call, behind its first word
  unfoldable pub call_at : ℕ → Read CallTree
  call_at depth ts = do
    target ← name_at stop ts
    slash ← expected stop symbol.Slash target.1
    place ← place_at depth slash.1
    called_at depth target.0 place.0 place.1
