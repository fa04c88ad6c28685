-- What is in the grammar is read: methods, types and programs.
use Rattle.std.proofs.Common.{◌≡◌, ℕ, ℤ, zero, suc, ◌<◌, ◌≤◌, List, [], ◌∷◌, Some, None, Result, Ok, Err, refl, ap, subst, ◌∙◌, arith, length}
use Rattle.std.specs.Prelude.{IfOk}
use Rattle.std.specs.Int.{int_wrapping_neg, w64}
use Rattle.script_tree.specs.declared.expressions.Name.{Name}
use Rattle.script_tree.specs.declared.expressions.Literal.{Literal}
use Rattle.script_tree.specs.declared.expressions.Literal.TheVariants as literal
use Rattle.script_tree.specs.declared.options.TxnOption.{TxnOption}
use Rattle.script_tree.specs.declared.options.TxnOption.TheVariants as option
use Rattle.script_tree.specs.declared.options.MethodKind.{MethodKind}
use Rattle.script_tree.specs.declared.options.MethodKind.TheVariants as kind
use Rattle.script_tree.specs.declared.programs.FieldDecl.{FieldDecl}
use Rattle.script_tree.specs.declared.programs.Program.{Program}
use Rattle.script_tree.specs.Stmts.{StmtTree, BlockTree, block_tree}
use Rattle.script_tree.specs.Programs.{MethodTree, TypeTree, ProgramTree, program_tree}
use Rattle.script_lexer.specs.declared.faults.ParseFault.{ParseFault}
use Rattle.script_lexer.specs.declared.faults.ParseFault.TheVariants.{Unexpected}
use Rattle.script_lexer.specs.declared.tokens.Spanned.{Spanned}
use Rattle.script_lexer.specs.declared.tokens.Token.{Token}
use Rattle.script_lexer.specs.declared.tokens.Token.TheVariants as token
use Rattle.script_lexer.specs.declared.tokens.Symbol.TheVariants as symbol
use Rattle.script_lexer.specs.declared.tokens.Word.{Word}
use Rattle.script_lexer.specs.declared.tokens.Word.TheVariants as word
use Rattle.script_lexer.proofs.Laws.{reads_lexed}
use Rattle.script_expressions.specs.TokenReaders.{Read, Makes}
use Rattle.script_expressions.specs.Tokens.{is_symbol, is_word, name_at, taken, taken_word}
use Rattle.script_expressions.specs.Grammar.{IsSymbol, IsWord, IsName, IsEnclosedList}
use Rattle.script_expressions.proofs.Completeness.{symbol_read, word_taken, not_taken, not_taken_word}
use Rattle.script_expressions.proofs.CallLaws.{name_read, Reads, enclosed_list_read, enclosed_takes}
use Rattle.script_parser.specs.Statements.{block}
use Rattle.script_parser.specs.Methods.{option_word, kind_word, option_named, kind_named, option_at, kind_at, params_at, method_at}
use Rattle.script_parser.specs.Types.{repeated, number_at, initial_from, initial_at, field_at, members_in, type_at}
use Rattle.script_parser.specs.Programs.{program_over, program_of}
use Rattle.script_parser.specs.Grammar.{OneName, IsMethod, method, IsInitial, positive, negative, worded, IsField, field, Many, none, one_more, IsType, type, IsProgram}
use Rattle.script_parser.proofs.SoundParts.{program_sound}
use Rattle.script_parser.proofs.Completeness.{blocks_read}

-- each option and each kind is found by its word
option_back : (o : TxnOption) → option_named (option_word o) ≡ Some o
option_back option.Create = refl
option_back _ = refl

kind_back : (k : MethodKind) → kind_named (kind_word k) ≡ Some k
kind_back kind.Read = refl
kind_back _ = refl

module _ (stop : ParseFault) where
  option_read : (t : Spanned) (o : TxnOption) (ts : List Spanned) → t.token ≡ token.Name (option_word o) → option_at stop (t ∷ ts) ≡ Ok ((o, t.at), ts)
  unfolding option_at
  option_read t o ts e = rw (e, option_back o) refl

  kind_read : (t : Spanned) (k : MethodKind) (ts : List Spanned) → t.token ≡ token.Name (kind_word k) → kind_at stop (t ∷ ts) ≡ Ok (k, ts)
  unfolding kind_at
  kind_read t k ts e = rw (e, kind_back k) refl

  -- ---- parameters

  names_read : Reads stop Name OneName (name_at stop)
  names_read = record {
    read = λ ts x c us d behind. ap (name_at stop) d.1 ∙ name_read stop d.0 x (c ∷ us) d.2;
    takes = λ ts x after d. (let size : length ts ≡ suc (length after) = ap length d.1 in omega arith);
    begins = λ ts x after d. ap (taken symbol.RightParen) d.1 ∙ not_taken symbol.RightParen d.0 after (ap (is_symbol symbol.RightParen) d.2.0);
  }

  params_read : (depth : ℕ) (ts : List Spanned) (params : List Name) (after : List Spanned) → IsEnclosedList Name OneName ts params after → params_at stop (suc depth) ts ≡ Ok (params, after)
  unfolding params_at
  params_read depth ts params after l =
      let k = enclosed_list_read stop Name OneName (name_at stop) names_read ts params after l in
      rw (k.2, symbol_read stop symbol.LeftParen k.0 k.1 k.3) k.4

  -- ---- parts behind their word

  pub record PartsRead (A : Type 0) (w : Word) (Is : List Spanned → A → List Spanned → Type 0) (one : Read A) : Type 0 where
    pub read : (ts : List Spanned) (x : A) (after : List Spanned) → Is ts x after → (t : Spanned) × (us : List Spanned) × (ts ≡ t ∷ us) × IsWord t w × (one us ≡ Ok (x, after))
    pub takes : (ts : List Spanned) (x : A) (after : List Spanned) → Is ts x after → length after < length ts

  part_goes : (A : Type 0) (w : Word) (one : Read A) (n : ℕ) (t : Spanned) (us vs : List Spanned) (x : A) (xs : List A) (after : List Spanned) → IsWord t w → one us ≡ Ok (x, vs) → repeated w one n vs ≡ Ok (xs, after) → repeated w one (suc n) (t ∷ us) ≡ Ok (x ∷ xs, after)
  unfolding repeated
  part_goes A w one n t us vs x xs after is e rest = rw (word_taken w t us is, e, rest) refl

  parts_end : (A : Type 0) (w : Word) (one : Read A) (n : ℕ) (after : List Spanned) → taken_word w after ≡ None → repeated w one n after ≡ Ok ([], after)
  unfolding repeated
  parts_end A w one zero after e = refl
  parts_end A w one (suc n) after e = rw e refl

  many_read : (A : Type 0) (w : Word) (Is : List Spanned → A → List Spanned → Type 0) (one : Read A) → PartsRead A w Is one → (n : ℕ) (ts : List Spanned) (xs : List A) (after : List Spanned) → length ts ≤ n → Many A Is ts xs after → taken_word w after ≡ None → repeated w one n ts ≡ Ok (xs, after)
  many_read A w Is one r n _ _ _ le (none after) e = parts_end A w one n after e
  many_read A w Is one r zero _ _ _ le (one_more x xs ts us after d rest) e = let k = r.takes ts x us d in absurd (omega arith)
  many_read A w Is one r (suc n) _ _ _ le (one_more x xs ts us after d rest) e =
      let k = r.read ts x us d in
      let shorter : length us < length ts = r.takes ts x us d in
      ap (repeated w one (suc n)) k.2 ∙ part_goes A w one n k.0 k.1 us x xs after k.3 k.4 (many_read A w Is one r n us xs after (omega arith) rest e)

  many_takes : (A : Type 0) (Is : List Spanned → A → List Spanned → Type 0) → ((ts : List Spanned) (x : A) (after : List Spanned) → Is ts x after → length after < length ts) → (ts : List Spanned) (xs : List A) (after : List Spanned) → Many A Is ts xs after → length after ≤ length ts
  many_takes A Is k _ _ _ (none after) = omega arith
  many_takes A Is k _ _ _ (one_more x xs ts us after d rest) = omega (arith, k ts x us d, many_takes A Is k us xs after rest)

  -- ---- methods

  method_here : (depth : ℕ) (n o k : Spanned) (name : Name) (params : List Name) (opt : TxnOption) (knd : MethodKind) (xs : List StmtTree) (ts us after : List Spanned) → IsName n name → params_at stop depth ts ≡ Ok (params, o ∷ k ∷ us) → o.token ≡ token.Name (option_word opt) → k.token ≡ token.Name (kind_word knd) → block stop depth us ≡ Ok (xs, after) → method_at stop depth (n ∷ ts) ≡ Ok (record { name = name; params = params; option = opt; option_at = o.at; kind = knd; body = block_tree xs }, after)
  unfolding method_at
  method_here depth n o k name params opt knd xs ts us after is p eo ek b = rw (name_read stop n name ts is, p, option_read o opt (k ∷ us) eo, kind_read k knd us ek, b) refl

  method_parts : (depth : ℕ) (ts : List Spanned) (x : MethodTree) (after : List Spanned) → IsMethod depth ts x after → (t : Spanned) × (us : List Spanned) × (ts ≡ t ∷ us) × IsWord t word.Method × (method_at stop depth us ≡ Ok (x, after))
  method_parts _ _ _ _ (method depth w n o k name params opt knd body ts us after is named p eo ek b) =
      let r = (blocks_read stop (suc depth) depth).read us body after b in
      let made : BlockTree → MethodTree = λ t. record { name = name; params = params; option = opt; option_at = o.at; kind = knd; body = t } in
      (w, n ∷ ts, refl, is, method_here (suc depth) n o k name params opt knd r.0 ts us after named (params_read depth ts params (o ∷ k ∷ us) p) eo ek r.2 ∙ ap (λ (t : BlockTree). Ok (made t, after)) r.1)

  method_takes : (depth : ℕ) (ts : List Spanned) (x : MethodTree) (after : List Spanned) → IsMethod depth ts x after → length after < length ts
  method_takes _ _ _ _ (method depth w n o k name params opt knd body ts us after is named p eo ek b) =
      let from_params = enclosed_takes Name OneName names_read.takes ts params (o ∷ k ∷ us) p in
      let from_body = (blocks_read stop (suc depth) depth).takes us body after b in
      omega arith

  methods_read : (depth : ℕ) → PartsRead MethodTree word.Method (IsMethod depth) (method_at stop depth)
  methods_read depth = record { read = method_parts depth; takes = method_takes depth }

  -- ---- fields

  initial_by : (t : Spanned) (k : Token) (ts : List Spanned) → t.token ≡ k → initial_at stop (t ∷ ts) ≡ initial_from stop k t.at ts
  unfolding initial_at
  initial_by t k ts e = ap (λ j. initial_from stop j t.at ts) e

  number_here : (t : Spanned) (n : ℤ) (ts : List Spanned) → t.token ≡ token.Int n → number_at stop (t ∷ ts) ≡ Ok (literal.Int (int_wrapping_neg w64 n), ts)
  unfolding number_at
  number_here t n ts e = rw e refl

  initial_read : (ts : List Spanned) (x : Literal) (after : List Spanned) → IsInitial ts x after → initial_at stop ts ≡ Ok (x, after)
  initial_read _ _ _ (positive t n after e) = initial_by t (token.Int n) after e
  initial_read _ _ _ (negative m t n after minus e) = initial_by m (token.Symbol symbol.Minus) (t ∷ after) minus ∙ number_here t n after e
  initial_read _ _ _ (worded t said after e) = initial_by t (token.Text said) after e

  initial_takes : (ts : List Spanned) (x : Literal) (after : List Spanned) → IsInitial ts x after → length after < length ts
  initial_takes _ _ _ (positive t n after e) = omega arith
  initial_takes _ _ _ (negative m t n after minus e) = omega arith
  initial_takes _ _ _ (worded t said after e) = omega arith

  field_here : (n a e : Spanned) (name : Name) (first : Literal) (ts after : List Spanned) → IsName n name → IsSymbol a symbol.Assign → initial_at stop ts ≡ Ok (first, e ∷ after) → IsSymbol e symbol.Semicolon → field_at stop (n ∷ a ∷ ts) ≡ Ok (record { name = name; initial = first }, after)
  unfolding field_at
  field_here n a e name first ts after is assign d end = rw (name_read stop n name (a ∷ ts) is, symbol_read stop symbol.Assign a ts assign, d, symbol_read stop symbol.Semicolon e after end) refl

  field_parts : (ts : List Spanned) (x : FieldDecl) (after : List Spanned) → IsField ts x after → (t : Spanned) × (us : List Spanned) × (ts ≡ t ∷ us) × IsWord t word.Field × (field_at stop us ≡ Ok (x, after))
  field_parts _ _ _ (field w n a e name first ts after is named assign d end) = (w, n ∷ a ∷ ts, refl, is, field_here n a e name first ts after named assign (initial_read ts first (e ∷ after) d) end)

  field_takes : (ts : List Spanned) (x : FieldDecl) (after : List Spanned) → IsField ts x after → length after < length ts
  field_takes _ _ _ (field w n a e name first ts after is named assign d end) = let k = initial_takes ts first (e ∷ after) d in omega arith

  fields_read : PartsRead FieldDecl word.Field IsField (field_at stop)
  fields_read = record { read = field_parts; takes = field_takes }

  -- ---- types

  brace_no_word : (w : Word) (c : Spanned) (after : List Spanned) → IsSymbol c symbol.RightBrace → taken_word w (c ∷ after) ≡ None
  brace_no_word w c after close = not_taken_word w c after (ap (is_word w) close)

  -- behind the fields stands no `field`
  no_field : (depth : ℕ) (ts : List Spanned) (xs : List MethodTree) (after : List Spanned) → Many MethodTree (IsMethod depth) ts xs after → taken_word word.Field after ≡ None → taken_word word.Field ts ≡ None
  no_field depth _ _ _ (none after) e = e
  no_field depth _ _ _ (one_more x xs ts us after d rest) e =
      let k = method_parts depth ts x us d in
      ap (taken_word word.Field) k.2 ∙ not_taken_word word.Field k.0 k.1 (ap (is_word word.Field) k.3)

  members_here : (depth at : ℕ) (c : Spanned) (fields : List FieldDecl) (methods : List MethodTree) (ts us after : List Spanned) → repeated word.Field (field_at stop) (length ts) ts ≡ Ok (fields, us) → repeated word.Method (method_at stop depth) (length us) us ≡ Ok (methods, c ∷ after) → IsSymbol c symbol.RightBrace → members_in stop (suc depth) at ts ≡ Ok ((fields, methods), after)
  members_here depth at c fields methods ts us after f m close = rw (f, m, symbol_read stop symbol.RightBrace c after close) refl

  type_here : (depth : ℕ) (n o : Spanned) (name : Name) (fields : List FieldDecl) (methods : List MethodTree) (ts after : List Spanned) → IsName n name → IsSymbol o symbol.LeftBrace → members_in stop depth o.at ts ≡ Ok ((fields, methods), after) → type_at stop depth (n ∷ o ∷ ts) ≡ Ok (record { name = name; fields = fields; methods = methods }, after)
  unfolding type_at
  type_here depth n o name fields methods ts after is opens m = rw (name_read stop n name (o ∷ ts) is, symbol_read stop symbol.LeftBrace o ts opens, m) refl

  type_parts : (depth : ℕ) (ts : List Spanned) (x : TypeTree) (after : List Spanned) → IsType depth ts x after → (t : Spanned) × (us : List Spanned) × (ts ≡ t ∷ us) × IsWord t word.Type × (type_at stop depth us ≡ Ok (x, after))
  type_parts _ _ _ _ (type depth w n o c name fields methods ts us after is named opens f m close) =
      let e1 = many_read FieldDecl word.Field IsField (field_at stop) fields_read (length ts) ts fields us (omega arith) f (no_field depth us methods (c ∷ after) m (brace_no_word word.Field c after close)) in
      let e2 = many_read MethodTree word.Method (IsMethod depth) (method_at stop depth) (methods_read depth) (length us) us methods (c ∷ after) (omega arith) m (brace_no_word word.Method c after close) in
      (w, n ∷ o ∷ ts, refl, is, type_here (suc depth) n o name fields methods ts after named opens (members_here depth o.at c fields methods ts us after e1 e2 close))

  type_takes : (depth : ℕ) (ts : List Spanned) (x : TypeTree) (after : List Spanned) → IsType depth ts x after → length after < length ts
  type_takes _ _ _ _ (type depth w n o c name fields methods ts us after is named opens f m close) =
      let k1 = many_takes FieldDecl IsField field_takes ts fields us f in
      let k2 = many_takes MethodTree (IsMethod depth) (method_takes depth) us methods (c ∷ after) m in
      omega arith

  types_read : (depth : ℕ) → PartsRead TypeTree word.Type (IsType depth) (type_at stop depth)
  types_read depth = record { read = type_parts depth; takes = type_takes depth }

-- ---- programs

nothing_left : taken_word word.Type [] ≡ None
unfolding taken_word
nothing_left = refl

-- the types of a program are read to the end
pub all_types_read : (stop : ParseFault) (depth : ℕ) (ts : List Spanned) (tree : ProgramTree) → Many TypeTree (IsType depth) ts tree [] → repeated word.Type (type_at stop depth) (length ts) ts ≡ Ok (tree, [])
all_types_read stop depth ts tree is = many_read stop TypeTree word.Type (IsType depth) (type_at stop depth) (types_read stop depth) (length ts) ts tree [] (omega arith) is nothing_left

over_read : (at : ℕ) (ts : List Spanned) (tree : ProgramTree) → repeated word.Type (type_at (Unexpected at) 32) (length ts) ts ≡ Ok (tree, []) → program_over (Unexpected at) ts ≡ Ok tree
unfolding program_over
over_read at ts tree e = rw e refl

pub program_read : (text : List ℕ) (tree : ProgramTree) → IsProgram text tree → program_of text ≡ Ok tree
program_read text tree p =
    let stop = Unexpected (length text) in
    let types = all_types_read stop 32 p.tokens tree p.types in
    rw (reads_lexed text p.tokens stop p.lexed) (over_read (length text) p.tokens tree types)

-- the same of what a function returned
pub if_found : (text : List ℕ) (r : Result Program ParseFault) → Makes program_tree r (program_of text) → IfOk r (λ made. IsProgram text (program_tree made))
if_found text (Ok made) e = program_sound text (program_tree made) e
if_found text (Err f) e = tt

pub only_this : (text : List ℕ) (tree : ProgramTree) (r : Result Program ParseFault) → IsProgram text tree → Makes program_tree r (program_of text) → let made : Result ProgramTree ParseFault = Ok tree in Makes program_tree r made
only_this text tree r p e = subst (λ (read : Result ProgramTree ParseFault). Makes program_tree r read) (program_read text tree p) e
