-- The grammar of programs, apart from any reader.
--
-- `IsX depth ts x after` says that the tokens ts begin with an X, which is x, and that after are the tokens behind
-- it; as many as depth more braces, parentheses and prefix operators may be open.
use Rattle.std.specs.Prelude.{◌≡◌, ℕ, ℤ, zero, suc, List, [], ◌∷◌, length}
use Rattle.std.specs.Int.{int_wrapping_neg, w64}
use Rattle.script_tree.specs.declared.expressions.Name.{Name}
use Rattle.script_tree.specs.declared.expressions.Literal.{Literal}
use Rattle.script_tree.specs.declared.expressions.Literal.TheVariants as literal
use Rattle.script_tree.specs.declared.options.TxnOption.{TxnOption}
use Rattle.script_tree.specs.declared.options.MethodKind.{MethodKind}
use Rattle.script_tree.specs.declared.programs.FieldDecl.{FieldDecl}
use Rattle.script_tree.specs.Exprs.{ExprTree, CallTree}
use Rattle.script_tree.specs.Stmts.{SourceTree, Computed, Called, StmtTree, Bind, Rebind, SetField, Perform, Choose, Repeat, Give, FailWith, Try, BlockTree, NoMore, Then, ElseTree, NoElse, Else}
use Rattle.script_tree.specs.Programs.{MethodTree, TypeTree, ProgramTree}
use Rattle.script_lexer.specs.declared.faults.ParseFault.TheVariants.{Unexpected}
use Rattle.script_lexer.specs.declared.tokens.Spanned.{Spanned}
use Rattle.script_lexer.specs.declared.tokens.Token.TheVariants as token
use Rattle.script_lexer.specs.declared.tokens.Symbol.TheVariants as symbol
use Rattle.script_lexer.specs.declared.tokens.Word.TheVariants as word
use Rattle.script_lexer.specs.TokenTexts.{IsLexed}
use Rattle.script_expressions.specs.Grammar.{Grammar, IsSymbol, IsWord, IsName, IsExpression, IsCall, IsEnclosedList}
use Rattle.script_parser.specs.Methods.{option_word, kind_word}

-- a token that is no `else`
abbrev pub NoElseNext : List Spanned → Type 0
NoElseNext ts = (t : Spanned) (us : List Spanned) → ts ≡ t ∷ us → ¬ (IsWord t word.Else)

-- what a local is given: an expression, or a call behind its word
pub data IsSource : ℕ → List Spanned → SourceTree → List Spanned → Type 0 where
  computed : (depth : ℕ) (ts : List Spanned) (value : ExprTree) (after : List Spanned)
      → IsExpression depth ts value after
      → IsSource depth ts (Computed value) after
  called : (depth : ℕ) (w : Spanned) (ts : List Spanned) (call : CallTree) (after : List Spanned)
      → IsWord w word.Call
      → IsCall depth ts call after
      → IsSource depth (w ∷ ts) (Called call) after

-- the second block of an if, which may be left out
pub data IsElse (Block : Grammar BlockTree) : List Spanned → ElseTree → List Spanned → Type 0 where
  left_out : (after : List Spanned) → NoElseNext after → IsElse Block after NoElse after
  other : (w : Spanned) (ts : List Spanned) (body : BlockTree) (after : List Spanned)
      → IsWord w word.Else
      → Block ts body after
      → IsElse Block (w ∷ ts) (Else body) after

-- a statement over the blocks that it may have
pub data IsStmt (depth : ℕ) (Block : Grammar BlockTree) : List Spanned → StmtTree → List Spanned → Type 0 where
  bind : (w n a e : Spanned) (name : Name) (value : SourceTree) (ts after : List Spanned)
      → IsWord w word.Let
      → IsName n name
      → IsSymbol a symbol.Assign
      → IsSource depth ts value (e ∷ after)
      → IsSymbol e symbol.Semicolon
      → IsStmt depth Block (w ∷ n ∷ a ∷ ts) (Bind name value) after
  rebind : (n a e : Spanned) (name : Name) (value : SourceTree) (ts after : List Spanned)
      → IsName n name
      → IsSymbol a symbol.Assign
      → IsSource depth ts value (e ∷ after)
      → IsSymbol e symbol.Semicolon
      → IsStmt depth Block (n ∷ a ∷ ts) (Rebind name value) after
  set_field : (w n a e : Spanned) (name : Name) (value : ExprTree) (ts after : List Spanned)
      → IsWord w word.Set
      → IsName n name
      → IsSymbol a symbol.Assign
      → IsExpression depth ts value (e ∷ after)
      → IsSymbol e symbol.Semicolon
      → IsStmt depth Block (w ∷ n ∷ a ∷ ts) (SetField name value) after
  perform : (w e : Spanned) (call : CallTree) (ts after : List Spanned)
      → IsWord w word.Call
      → IsCall depth ts call (e ∷ after)
      → IsSymbol e symbol.Semicolon
      → IsStmt depth Block (w ∷ ts) (Perform call) after
  choose : (w : Spanned) (test : ExprTree) (first : BlockTree) (second : ElseTree) (ts us vs after : List Spanned)
      → IsWord w word.If
      → IsExpression depth ts test us
      → Block us first vs
      → IsElse Block vs second after
      → IsStmt depth Block (w ∷ ts) (Choose test first second) after
  repeat : (w : Spanned) (test : ExprTree) (body : BlockTree)
      (ts us after : List Spanned)
      → IsWord w word.While
      → IsExpression depth ts test us
      → Block us body after
      → IsStmt depth Block (w ∷ ts) (Repeat test body) after
  give : (w e : Spanned) (value : ExprTree) (ts after : List Spanned)
      → IsWord w word.Return
      → IsExpression depth ts value (e ∷ after)
      → IsSymbol e symbol.Semicolon
      → IsStmt depth Block (w ∷ ts) (Give value) after
  fail_with : (w s e : Spanned) (said : List ℕ) (after : List Spanned)
      → IsWord w word.Fail
      → s.token ≡ token.Text said
      → IsSymbol e symbol.Semicolon
      → IsStmt depth Block (w ∷ s ∷ e ∷ after) (FailWith said) after
  attempt : (w n a c o : Spanned) (name : Name) (call : CallTree) (first second : BlockTree) (ts us vs after : List Spanned)
      → IsWord w word.Attempt
      → IsName n name
      → IsSymbol a symbol.Assign
      → IsWord c word.Call
      → IsCall depth ts call us
      → Block us first (o ∷ vs)
      → IsWord o word.Else
      → Block vs second after
      → IsStmt depth Block (w ∷ n ∷ a ∷ c ∷ ts) (Try w.at name call first second) after

-- statements, and the brace behind the last
pub data IsBody (Stmt : Grammar StmtTree) : List Spanned → BlockTree → List Spanned → Type 0 where
  no_more : (c : Spanned) (after : List Spanned)
      → IsSymbol c symbol.RightBrace
      → IsBody Stmt (c ∷ after) NoMore after
  then_more : (s : StmtTree) (b : BlockTree) (ts us after : List Spanned)
      → Stmt ts s us
      → IsBody Stmt us b after
      → IsBody Stmt ts (Then s b) after

-- statements in braces
pub data IsBraced (Stmt : Grammar StmtTree) : List Spanned → BlockTree → List Spanned → Type 0 where
  braces : (o : Spanned) (b : BlockTree) (ts after : List Spanned)
      → IsSymbol o symbol.LeftBrace
      → IsBody Stmt ts b after
      → IsBraced Stmt (o ∷ ts) b after

-- a block: none where no more may be open
abbrev pub IsBlock : ℕ → Grammar BlockTree
IsBlock zero ts b after = ⊥
IsBlock (suc depth) ts b after = IsBraced (IsStmt depth (IsBlock depth)) ts b after

-- a name that stands next
abbrev pub OneName : Grammar Name
OneName ts name after = (t : Spanned) × (ts ≡ t ∷ after) × IsName t name

-- a method: its word, name, parameters, option, kind and block
pub data IsMethod : ℕ → List Spanned → MethodTree → List Spanned → Type 0 where
  method : (depth : ℕ) (w n o k : Spanned) (name : Name) (params : List Name) (option : TxnOption) (kind : MethodKind) (body : BlockTree)
      (ts us after : List Spanned)
      → IsWord w word.Method
      → IsName n name
      → IsEnclosedList Name OneName ts params (o ∷ k ∷ us)
      → o.token ≡ token.Name (option_word option)
      → k.token ≡ token.Name (kind_word kind)
      → IsBlock (suc depth) us body after
      → IsMethod (suc depth) (w ∷ n ∷ ts)
      (record { name = name; params = params; option = option; option_at = o.at; kind = kind; body = body }) after

-- what a field has at first: a number, which may have a sign, or a text
pub data IsInitial : List Spanned → Literal → List Spanned → Type 0 where
  positive : (t : Spanned) (n : ℤ) (after : List Spanned)
      → t.token ≡ token.Int n
      → IsInitial (t ∷ after) (literal.Int n) after
  negative : (m t : Spanned) (n : ℤ) (after : List Spanned)
      → IsSymbol m symbol.Minus
      → t.token ≡ token.Int n
      → IsInitial (m ∷ t ∷ after) (literal.Int (int_wrapping_neg w64 n)) after
  worded : (t : Spanned) (said : List ℕ) (after : List Spanned)
      → t.token ≡ token.Text said
      → IsInitial (t ∷ after) (literal.Chars said) after

-- a field: its word, name, `=`, what it has at first, `;`
pub data IsField : List Spanned → FieldDecl → List Spanned → Type 0 where
  field : (w n a e : Spanned) (name : Name) (initial : Literal) (ts after : List Spanned)
      → IsWord w word.Field
      → IsName n name
      → IsSymbol a symbol.Assign
      → IsInitial ts initial (e ∷ after)
      → IsSymbol e symbol.Semicolon
      → IsField (w ∷ n ∷ a ∷ ts) (record { name = name; initial = initial }) after

-- parts one after another
pub data Many (A : Type 0) (One : Grammar A) : List Spanned → List A → List Spanned → Type 0 where
  none : (after : List Spanned) → Many A One after [] after
  one_more : (x : A) (xs : List A) (ts us after : List Spanned)
      → One ts x us
      → Many A One us xs after
      → Many A One ts (x ∷ xs) after

-- a type: its word, name, fields and methods in braces
pub data IsType : ℕ → List Spanned → TypeTree → List Spanned → Type 0 where
  type : (depth : ℕ) (w n o c : Spanned) (name : Name) (fields : List FieldDecl) (methods : List MethodTree)
      (ts us after : List Spanned)
      → IsWord w word.Type
      → IsName n name
      → IsSymbol o symbol.LeftBrace
      → Many FieldDecl IsField ts fields us
      → Many MethodTree (IsMethod depth) us methods (c ∷ after)
      → IsSymbol c symbol.RightBrace
      → IsType (suc depth) (w ∷ n ∷ o ∷ ts) (record { name = name; fields = fields; methods = methods }) after

-- The program that a text is: the text is blanks, comments and the spellings of tokens to its end, and the tokens are
-- types, where as many as 32 braces, parentheses and prefix operators may be open.
pub record IsProgram (text : List ℕ) (tree : ProgramTree) : Type 0 where
  pub tokens : List Spanned
  pub lexed : IsLexed text tokens (Unexpected (length text))
  pub types : Many TypeTree (IsType 32) tokens tree []
