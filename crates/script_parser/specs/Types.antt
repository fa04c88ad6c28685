-- Fields and types, read from the left.
use Rattle.std.specs.Prelude.{ℕ, zero, suc, List, [], ◌∷◌, length, Ok, Err, Option, Some, None}
use Rattle.std.specs.Int.{int_wrapping_neg, w64}
use Rattle.script_tree.specs.declared.expressions.Literal.{Literal}
use Rattle.script_tree.specs.declared.expressions.Literal.TheVariants as literal
use Rattle.script_tree.specs.declared.programs.FieldDecl.{FieldDecl}
use Rattle.script_tree.specs.Programs.{MethodTree, TypeTree}
use Rattle.script_lexer.specs.declared.faults.ParseFault.{ParseFault}
use Rattle.script_lexer.specs.declared.faults.ParseFault.TheVariants.{Unexpected, TooDeep}
use Rattle.script_lexer.specs.declared.tokens.Spanned.{Spanned}
use Rattle.script_lexer.specs.declared.tokens.Token.{Token}
use Rattle.script_lexer.specs.declared.tokens.Token.TheVariants as token
use Rattle.script_lexer.specs.declared.tokens.Symbol.{Symbol}
use Rattle.script_lexer.specs.declared.tokens.Symbol.TheVariants as symbol
use Rattle.script_lexer.specs.declared.tokens.Word.{Word}
use Rattle.script_lexer.specs.declared.tokens.Word.TheVariants as word
use Rattle.script_expressions.specs.TokenReaders.{Part, Read, ◌>>=◌}
use Rattle.script_expressions.specs.Tokens.{expected, name_at, taken_word}
use Rattle.script_parser.specs.Methods.{method_at}

-- a part that stands behind its word, or none
abbrev pub more_parts_of : {A : Type 0} → Read A → Read (List A) → List Spanned → Option (List Spanned) → Part (List A)
more_parts_of one more ts None = Ok ([], ts)
more_parts_of one more ts (Some after) = one after >>= λ x. more x.1 >>= λ r. Ok (x.0 ∷ r.0, r.1)

-- The parts that stand next, each behind this word. The number bounds the turns; the count of the tokens is always enough.
unfoldable pub repeated : {A : Type 0} → Word → Read A → ℕ → Read (List A)
repeated w one zero ts = Ok ([], ts)
repeated w one (suc n) ts = more_parts_of one (repeated w one n) ts (taken_word w ts)

-- a number with its sign turned; a token's number is from 0
abbrev pub negative_from : Token → ℕ → Read Literal
negative_from (token.Int n) at ts = Ok (literal.Int (int_wrapping_neg w64 n), ts)
negative_from (token.Name s) at ts = Err (Unexpected at)
negative_from (token.Word w) at ts = Err (Unexpected at)
negative_from (token.Text s) at ts = Err (Unexpected at)
negative_from (token.Symbol s) at ts = Err (Unexpected at)

module _ (stop : ParseFault) where
  -- a number behind a minus
  unfoldable pub number_at : Read Literal
  number_at [] = Err stop
  number_at (t ∷ ts) = negative_from t.token t.at ts

  -- what a field has at first, by the symbol that it begins with: a number below 0
  abbrev pub symbol_initial : Symbol → ℕ → Read Literal
  symbol_initial symbol.Minus at ts = number_at ts
  symbol_initial symbol.LeftBrace at ts = Err (Unexpected at)
  symbol_initial symbol.RightBrace at ts = Err (Unexpected at)
  symbol_initial symbol.LeftParen at ts = Err (Unexpected at)
  symbol_initial symbol.RightParen at ts = Err (Unexpected at)
  symbol_initial symbol.Semicolon at ts = Err (Unexpected at)
  symbol_initial symbol.Comma at ts = Err (Unexpected at)
  symbol_initial symbol.Dot at ts = Err (Unexpected at)
  symbol_initial symbol.Assign at ts = Err (Unexpected at)
  symbol_initial symbol.Plus at ts = Err (Unexpected at)
  symbol_initial symbol.Star at ts = Err (Unexpected at)
  symbol_initial symbol.Slash at ts = Err (Unexpected at)
  symbol_initial symbol.Percent at ts = Err (Unexpected at)
  symbol_initial symbol.Less at ts = Err (Unexpected at)
  symbol_initial symbol.Greater at ts = Err (Unexpected at)
  symbol_initial symbol.LessEqual at ts = Err (Unexpected at)
  symbol_initial symbol.GreaterEqual at ts = Err (Unexpected at)
  symbol_initial symbol.Equal at ts = Err (Unexpected at)
  symbol_initial symbol.NotEqual at ts = Err (Unexpected at)
  symbol_initial symbol.And at ts = Err (Unexpected at)
  symbol_initial symbol.Or at ts = Err (Unexpected at)
  symbol_initial symbol.Not at ts = Err (Unexpected at)

  -- what a field has at first, by the token that it begins with
  abbrev pub initial_from : Token → ℕ → Read Literal
  initial_from (token.Int n) at ts = Ok (literal.Int n, ts)
  initial_from (token.Text s) at ts = Ok (literal.Chars s, ts)
  initial_from (token.Symbol s) at ts = symbol_initial s at ts
  initial_from (token.Name s) at ts = Err (Unexpected at)
  initial_from (token.Word w) at ts = Err (Unexpected at)

  -- what a field has at first: a number, which may have a sign, or a text
  unfoldable pub initial_at : Read Literal
  initial_at [] = Err stop
  initial_at (t ∷ ts) = initial_from t.token t.at ts

  -- a field, behind its first word
  unfoldable pub field_at : Read FieldDecl
  field_at ts = do
    name ← name_at stop ts
    assign ← expected stop symbol.Assign name.1
    first ← initial_at assign.1
    end ← expected stop symbol.Semicolon first.1
    Ok (record { name = name.0; initial = first.0 }, end.1)

  -- fields and methods behind a brace that is open at a place, and the brace that closes it
  abbrev pub members_in : ℕ → ℕ → Read (List FieldDecl × List MethodTree)
  members_in zero at ts = Err (TooDeep at)
  members_in (suc depth) at ts = do
    fields ← repeated word.Field field_at (length ts) ts
    methods ← repeated word.Method (method_at stop depth) (length fields.1) fields.1
    end ← expected stop symbol.RightBrace methods.1
    Ok ((fields.0, methods.0), end.1)

  -- a type, behind its first word
  unfoldable pub type_at : ℕ → Read TypeTree
  type_at depth ts = do
    name ← name_at stop ts
    opening ← expected stop symbol.LeftBrace name.1
    members ← members_in depth opening.0 opening.1
    Ok (record { name = name.0; fields = members.0.0; methods = members.0.1 }, members.1)
