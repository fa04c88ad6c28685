-- Methods, read from the left.
use Rattle.std.specs.Prelude.{ℕ, zero, suc, List, [], ◌∷◌, Ok, Err, Option, Some, None, codes, bytes_eq}
use Rattle.std.specs.List.{find}
use Rattle.std.specs.Option.{option_map}
use Rattle.script_tree.specs.declared.expressions.Name.{Name}
use Rattle.script_tree.specs.declared.options.TxnOption.{TxnOption}
use Rattle.script_tree.specs.declared.options.TxnOption.TheVariants as option
use Rattle.script_tree.specs.declared.options.MethodKind.{MethodKind}
use Rattle.script_tree.specs.declared.options.MethodKind.TheVariants as kind
use Rattle.script_tree.specs.Stmts.{block_tree}
use Rattle.script_tree.specs.Programs.{MethodTree}
use Rattle.script_lexer.specs.declared.faults.ParseFault.{ParseFault}
use Rattle.script_lexer.specs.declared.faults.ParseFault.TheVariants.{Unexpected, TooDeep}
use Rattle.script_lexer.specs.declared.tokens.Token.{Token}
use Rattle.script_lexer.specs.declared.tokens.Token.TheVariants as token
use Rattle.script_lexer.specs.declared.tokens.Symbol.TheVariants as symbol
use Rattle.script_expressions.specs.TokenReaders.{Read, ◌>>=◌}
use Rattle.script_expressions.specs.Tokens.{expected, name_at, taken}
use Rattle.script_expressions.specs.Calls.{listed_or_none}
use Rattle.script_parser.specs.declared.methods.TheConstants.{OPTIONS, KINDS}
use Rattle.script_parser.specs.Statements.{block}

-- the word of an option, and of a kind
abbrev pub option_word : TxnOption → List ℕ
option_word option.Create = codes "create"
option_word option.Join = codes "join"
option_word option.CreateOrJoin = codes "createorjoin"
option_word option.Suppress = codes "suppress"
option_word option.Supported = codes "supported"
option_word option.NotAllowed = codes "notallowed"

-- the word of a method's kind
abbrev pub kind_word : MethodKind → List ℕ
kind_word kind.Read = codes "read"
kind_word kind.Update = codes "update"
kind_word kind.Plain = codes "plain"

-- the option, and the kind, that a name is
abbrev pub option_named : List ℕ → Option TxnOption
option_named name = option_map (λ o. o) (find (λ o. bytes_eq (option_word o) name) OPTIONS)

-- the kind that a name says, if it says one
abbrev pub kind_named : List ℕ → Option MethodKind
kind_named name = option_map (λ k. k) (find (λ k. bytes_eq (kind_word k) name) KINDS)

-- a word that was looked up at a place
abbrev pub option_found : Option TxnOption → ℕ → Read (TxnOption × ℕ)
option_found (Some o) at ts = Ok ((o, at), ts)
option_found None at ts = Err (Unexpected at)

-- a kind that was named, or the fault at its place
abbrev pub kind_found : Option MethodKind → ℕ → Read MethodKind
kind_found (Some k) at ts = Ok (k, ts)
kind_found None at ts = Err (Unexpected at)

-- an option is read from a name; any other token is a fault
abbrev pub option_from : Token → ℕ → Read (TxnOption × ℕ)
option_from (token.Name s) at ts = option_found (option_named s) at ts
option_from (token.Word w) at ts = Err (Unexpected at)
option_from (token.Int n) at ts = Err (Unexpected at)
option_from (token.Text s) at ts = Err (Unexpected at)
option_from (token.Symbol s) at ts = Err (Unexpected at)

-- a kind is read from a name; any other token is a fault
abbrev pub kind_from : Token → ℕ → Read MethodKind
kind_from (token.Name s) at ts = kind_found (kind_named s) at ts
kind_from (token.Word w) at ts = Err (Unexpected at)
kind_from (token.Int n) at ts = Err (Unexpected at)
kind_from (token.Text s) at ts = Err (Unexpected at)
kind_from (token.Symbol s) at ts = Err (Unexpected at)

module _ (stop : ParseFault) where
  -- an option's word that must stand next: the option and its place
  unfoldable pub option_at : Read (TxnOption × ℕ)
  option_at [] = Err stop
  option_at (t ∷ ts) = option_from t.token t.at ts

  -- a kind's word that must stand next
  unfoldable pub kind_at : Read MethodKind
  kind_at [] = Err stop
  kind_at (t ∷ ts) = kind_from t.token t.at ts

  -- parameters behind their parenthesis, which is open at a place
  abbrev pub params_in : ℕ → ℕ → Read (List Name)
  params_in zero at ts = Err (TooDeep at)
  params_in (suc depth) at ts = listed_or_none stop (name_at stop) ts (taken symbol.RightParen ts)

  -- the parameters in their parentheses
  unfoldable pub params_at : ℕ → Read (List Name)
  params_at depth ts = expected stop symbol.LeftParen ts >>= λ o. params_in depth o.0 o.1

  -- a method, behind its first word
  unfoldable pub method_at : ℕ → Read MethodTree
  method_at depth ts = do
    name ← name_at stop ts
    params ← params_at depth name.1
    opt ← option_at params.1
    knd ← kind_at opt.1
    body ← block stop depth knd.1
    Ok (record { name = name.0; params = params.0; option = opt.0.0; option_at = opt.0.1; kind = knd.0; body = block_tree body.0 }, body.1)
