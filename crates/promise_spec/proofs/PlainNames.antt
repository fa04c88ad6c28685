-- The names of a checked program's types are plain.
use Rattle.std.proofs.Common.{◌≡◌, ◌≢◌, ℕ, zero, suc, ◌+◌, ◌≤◌, Bool, true, List, [], ◌∷◌, length, map, take, Some, None, refl, sym, subst, ◌∙◌, arith}
use Rattle.std.specs.Prelude.{if◌then◌else◌, unwrap_or, nat_le}
use Rattle.std.specs.List.{All, AllByRecursion, list_all}
use Rattle.std.specs.Str.Lossy.{utf8_valid_len}
use Rattle.std.proofs.lemmas.Bool.{and_parts, le-leb}
use Rattle.std.proofs.lemmas.List.Elements.{All-head, All-tail}
use Rattle.script_tree.specs.declared.expressions.Name.{Name}
use Rattle.script_tree.specs.declared.expressions.Literal.{Literal}
use Rattle.script_tree.specs.declared.programs.FieldDecl.{FieldDecl}
use Rattle.script_tree.specs.Exprs.{ExprTree, CallTree}
use Rattle.script_tree.specs.Stmts.{SourceTree, StmtTree, BlockTree, ElseTree}
use Rattle.script_tree.specs.Programs.{MethodTree, TypeTree}
use Rattle.script_lexer.specs.declared.tokens.Spanned.{Spanned}
use Rattle.script_lexer.specs.declared.tokens.Token.{Token}
use Rattle.script_lexer.specs.declared.tokens.Token.TheVariants as token
use Rattle.script_lexer.specs.Spellings.{is_letter, in_name}
use Rattle.script_lexer.specs.TokenTexts.{Spells, Reads, name, word, nought, number as counted, text, symbol, done, gap, spelling}
use Rattle.script_expressions.specs.Grammar.{Derives, single, alone, joined, compared, OperandOver, whole, prefix, parens, Nothing, IsOperand, IsExpression, IsPlace, number, named, key, enclosed, IsList, last, more, IsEnclosedList, empty, filled, IsCall, call}
use Rattle.script_parser.specs.Grammar.{IsSource, computed, called, IsElse, left_out, other, IsStmt, bind, rebind, set_field, perform, choose, repeat, give, fail_with, attempt, IsBody, no_more, then_more, IsBraced, braces, IsBlock, OneName, IsMethod, method, IsInitial, positive, negative, worded, IsField, field, Many, none, one_more, IsType, type}
use Rattle.script_parser.proofs.SoundParts.{program_sound}
use Rattle.script_check.specs.AcceptedPrograms.{AreNamesApart}
use Rattle.script_check.specs.Shapes.{fitted, type_shapes}
use Rattle.script_check.proofs.WholePrograms.{program_iff}
use Rattle.promise_spec.specs.Programs.{Program, IsChecked, shape_in}
use Rattle.promise_spec.specs.Outputs.{HavePlainNames}

-- a name that a text can have: it has at most 32 bytes, and no `/`
record IsPlain (said : List ℕ) : Type 0 where
  short : length said ≤ 32
  plain : AllByRecursion (λ (byte : ℕ). byte ≢ 47) said

abbrev IsPlainToken : Token → Type 0
IsPlainToken (token.Name said) = IsPlain said
IsPlainToken (token.Word w) = Unit {0}
IsPlainToken (token.Int n) = Unit {0}
IsPlainToken (token.Text said) = Unit {0}
IsPlainToken (token.Symbol s) = Unit {0}

-- each name of these tokens is plain
abbrev Plain : List Spanned → Type 0
Plain ts = AllByRecursion (λ (t : Spanned). IsPlainToken t.token) ts

-- what stands behind a part are tokens of those before
abbrev Leaves : (A : Type 0) → (List Spanned → A → List Spanned → Type 0) → Type 0
Leaves A Is = (ts : List Spanned) (x : A) (after : List Spanned) → Is ts x after → Plain ts → Plain after

-- ---- tokens of a text

not_slash : (p : ℕ → Bool) (b : ℕ) → p b ≡ true → (p 47 ≡ true → ⊥) → b ≢ 47
not_slash p b passes never same = never (subst (λ (x : ℕ). p x ≡ true) same passes)

letter_no_slash : is_letter 47 ≡ true → ⊥
letter_no_slash e = absurd (cc e)

name_no_slash : in_name 47 ≡ true → ⊥
name_no_slash e = absurd (cc e)

all_plain : (bs : List ℕ) → list_all in_name bs ≡ true → AllByRecursion (λ (byte : ℕ). byte ≢ 47) bs
all_plain [] all = tt
all_plain (b ∷ bs) all = let parts = and_parts (in_name b) (list_all in_name bs) all in (not_slash in_name b parts.0 name_no_slash, all_plain bs parts.1)

spelled_plain : (t : Token) (piece rest : List ℕ) → Spells t piece rest → IsPlainToken t
spelled_plain _ _ _ (name b bs rest letter all short reserved stop) = record { short = omega arith; plain = (not_slash is_letter b letter letter_no_slash, all_plain bs all) }
spelled_plain _ _ _ (word w rest stop) = tt
spelled_plain _ _ _ (nought rest) = tt
spelled_plain _ _ _ (counted b bs rest first above all small stop) = tt
spelled_plain _ _ _ (text bs rest all short) = tt
spelled_plain _ _ _ (symbol s rest longest) = tt

read_plain : (at : ℕ) (bytes : List ℕ) (tokens : List Spanned) (end : ℕ) (left : List ℕ) → Reads at bytes tokens end left → Plain tokens
read_plain _ _ _ _ _ (done at left) = tt
read_plain _ _ _ _ _ (gap at end piece rest left tokens g r) = read_plain (at + length piece) rest tokens end left r
read_plain _ _ _ _ _ (spelling at end piece rest left tokens t s r) = (spelled_plain t piece rest s, read_plain (at + length piece) rest tokens end left r)

-- ---- expressions and calls

module _ (Operand : List Spanned → ExprTree → List Spanned → Type 0) (leaves : Leaves ExprTree Operand) where
  derives_leaves : (tier room left : ℕ) (ts : List Spanned) (tree : ExprTree) (after : List Spanned) → Derives Operand tier room ts tree left after → Plain ts → Plain after
  derives_leaves _ _ _ _ _ _ (single room ts tree after d) h = leaves ts tree after d h
  derives_leaves _ _ _ _ _ _ (alone tier room left ts tree after d) h = derives_leaves tier room left ts tree after d h
  derives_leaves _ _ _ _ _ _ (joined tier room mid left t ts us o a b after ne j d1 d2) h = derives_leaves tier mid left us b after d2 (derives_leaves (suc tier) room (suc mid) ts a (t ∷ us) d1 h).1
  derives_leaves _ _ _ _ _ _ (compared room mid left t ts us o a b after j d1 d2) h = derives_leaves 2 mid left us b after d2 (derives_leaves 2 room (suc mid) ts a (t ∷ us) d1 h).1

  operand_over_leaves : Leaves ExprTree (OperandOver Operand)
  operand_over_leaves _ _ _ (whole t tree after e) h = h.1
  operand_over_leaves _ _ _ (prefix t ts o tree after e d) h = leaves ts tree after d h.1
  operand_over_leaves _ _ _ (parens t c ts tree after e d close) h = (derives_leaves 5 32 d.0 ts tree (c ∷ after) d.1 h.1).1

nothing_leaves : Leaves ExprTree Nothing
nothing_leaves ts x after d h = absurd d

operand_leaves : (depth : ℕ) → Leaves ExprTree (IsOperand depth)
operand_leaves zero ts x after d h = operand_over_leaves Nothing nothing_leaves ts x after d h
operand_leaves (suc depth) ts x after d h = operand_over_leaves (IsOperand depth) (operand_leaves depth) ts x after d h

expression_leaves : (depth : ℕ) → Leaves ExprTree (IsExpression depth)
expression_leaves depth ts x after d h = derives_leaves (IsOperand depth) (operand_leaves depth) 5 32 d.0 ts x after d.1 h

place_leaves : (depth : ℕ) → Leaves ExprTree (IsPlace depth)
place_leaves _ _ _ _ (number depth t n after is) h = h.1
place_leaves _ _ _ _ (named depth t n after is) h = h.1
place_leaves _ _ _ _ (key depth t after is) h = h.1
place_leaves _ _ _ _ (enclosed depth o c ts tree after opens d close) h = (expression_leaves depth ts tree (c ∷ after) d h.1).1

module _ (A : Type 0) (One : List Spanned → A → List Spanned → Type 0) (one : Leaves A One) where
  list_leaves : Leaves (List A) (IsList A One)
  list_leaves _ _ _ (last c ts x after d close) h = (one ts x (c ∷ after) d h).1
  list_leaves _ _ _ (more c ts us x xs after d comma rest) h = list_leaves us xs after rest (one ts x (c ∷ us) d h).1

  enclosed_list_leaves : Leaves (List A) (IsEnclosedList A One)
  enclosed_list_leaves _ _ _ (empty o c after opens close) h = h.1.1
  enclosed_list_leaves _ _ _ (filled o ts xs after opens d) h = list_leaves ts xs after d h.1

  many_leaves : Leaves (List A) (Many A One)
  many_leaves _ _ _ (none after) h = h
  many_leaves _ _ _ (one_more x xs ts us after d rest) h = many_leaves us xs after rest (one ts x us d h)

call_leaves : (depth : ℕ) → Leaves CallTree (IsCall depth)
call_leaves _ _ _ _ (call depth n s d m target place spoken args ts us after is slash p dot spelled a) h =
    enclosed_list_leaves ExprTree (IsExpression depth) (expression_leaves depth) us args after a (place_leaves (suc depth) ts place (d ∷ m ∷ us) p h.1.1).1.1

-- ---- statements

source_leaves : (depth : ℕ) → Leaves SourceTree (IsSource depth)
source_leaves _ _ _ _ (computed depth ts value after d) h = expression_leaves depth ts value after d h
source_leaves _ _ _ _ (called depth w ts c after is d) h = call_leaves depth ts c after d h.1

module _ (depth : ℕ) (Block : List Spanned → BlockTree → List Spanned → Type 0) (blocks : Leaves BlockTree Block) where
  else_leaves : Leaves ElseTree (IsElse Block)
  else_leaves _ _ _ (left_out after n) h = h
  else_leaves _ _ _ (other w ts body after is d) h = blocks ts body after d h.1

  stmt_leaves : Leaves StmtTree (IsStmt depth Block)
  stmt_leaves _ _ _ (bind w n a e local value ts after is its_name assign d end) h = (source_leaves depth ts value (e ∷ after) d h.1.1.1).1
  stmt_leaves _ _ _ (rebind n a e local value ts after its_name assign d end) h = (source_leaves depth ts value (e ∷ after) d h.1.1).1
  stmt_leaves _ _ _ (set_field w n a e local value ts after is its_name assign d end) h = (expression_leaves depth ts value (e ∷ after) d h.1.1.1).1
  stmt_leaves _ _ _ (perform w e asked ts after is d end) h = (call_leaves depth ts asked (e ∷ after) d h.1).1
  stmt_leaves _ _ _ (choose w test first second ts us vs after is d b o) h = else_leaves vs second after o (blocks us first vs b (expression_leaves depth ts test us d h.1))
  stmt_leaves _ _ _ (repeat w test body ts us after is d b) h = blocks us body after b (expression_leaves depth ts test us d h.1)
  stmt_leaves _ _ _ (give w e value ts after is d end) h = (expression_leaves depth ts value (e ∷ after) d h.1).1
  stmt_leaves _ _ _ (fail_with w s e said after is said_is end) h = h.1.1.1
  stmt_leaves _ _ _ (attempt w n a c o local asked first second ts us vs after is its_name assign asks d b1 others b2) h = blocks vs second after b2 (blocks us first (o ∷ vs) b1 (call_leaves depth ts asked us d h.1.1.1.1)).1

  body_leaves : Leaves BlockTree (IsBody (IsStmt depth Block))
  body_leaves _ _ _ (no_more c after close) h = h.1
  body_leaves _ _ _ (then_more s b ts us after d rest) h = body_leaves us b after rest (stmt_leaves ts s us d h)

  braced_leaves : Leaves BlockTree (IsBraced (IsStmt depth Block))
  braced_leaves _ _ _ (braces o b ts after opens d) h = body_leaves ts b after d h.1

block_leaves : (depth : ℕ) → Leaves BlockTree (IsBlock depth)
block_leaves zero ts b after d h = absurd d
block_leaves (suc depth) ts b after d h = braced_leaves depth (IsBlock depth) (block_leaves depth) ts b after d h

-- ---- types

parameter_leaves : Leaves Name OneName
parameter_leaves ts x after d h = let here : Plain (d.0 ∷ after) = subst Plain d.1 h in here.1

method_leaves : (depth : ℕ) → Leaves MethodTree (IsMethod depth)
method_leaves _ _ _ _ (method depth w n o k spoken params option kind body ts us after is its_name p opt knd b) h =
    block_leaves (suc depth) us body after b (enclosed_list_leaves Name OneName parameter_leaves ts params (o ∷ k ∷ us) p h.1.1).1.1

initial_leaves : Leaves Literal IsInitial
initial_leaves _ _ _ (positive t n after is) h = h.1
initial_leaves _ _ _ (negative m t n after minus is) h = h.1.1
initial_leaves _ _ _ (worded t said after is) h = h.1

field_leaves : Leaves FieldDecl IsField
field_leaves _ _ _ (field w n a e spoken initial ts after is its_name assign d end) h = (initial_leaves ts initial (e ∷ after) d h.1.1.1).1

type_leaves : (depth : ℕ) → Leaves TypeTree (IsType depth)
type_leaves _ _ _ _ (type depth w n o c spoken fields methods ts us after is its_name opens f m close) h =
    (many_leaves MethodTree (IsMethod depth) (method_leaves depth) us methods (c ∷ after) m (many_leaves FieldDecl IsField field_leaves ts fields us f h.1.1.1)).1

type_plain : (depth : ℕ) (ts : List Spanned) (t : TypeTree) (after : List Spanned) → IsType depth ts t after → Plain ts → IsPlain t.name.text
type_plain _ _ _ _ (type depth w n o c spoken fields methods ts us after is its_name opens f m close) h = subst IsPlainToken its_name.0 h.1.0

types_plain : (ts : List Spanned) (types : List TypeTree) (after : List Spanned) → Many TypeTree (IsType 32) ts types after → Plain ts → AllByRecursion (λ (t : TypeTree). IsPlain t.name.text) types
types_plain _ _ _ (none after) h = tt
types_plain _ _ _ (one_more x xs ts us after d rest) h = (type_plain 32 ts x us d h, types_plain us xs after rest (type_leaves 32 ts x us d h))

-- ---- shapes

when_short : (b : Bool) (said : List ℕ) → b ≡ true → unwrap_or (if b then Some said else None) [] ≡ said
when_short b said is = rw is refl

fitted_same : (said : List ℕ) → length said ≤ 32 → fitted said ≡ said
fitted_same said short = when_short (nat_le (length said) 4096) said (le-leb (length said) 4096 (omega arith))

apart_shapes : (said : List ℕ) (types : List TypeTree) → All (λ (other_name : List ℕ). said ≢ other_name) (map (λ (t : TypeTree). t.name.text) types) → AllByRecursion (λ (t : TypeTree). IsPlain t.name.text) types
    → AllByRecursion (λ u. u.name ≢ said) (type_shapes types)
apart_shapes said [] differ all = tt
apart_shapes said (t ∷ types) differ all = (
  (λ same. All-head (λ (other_name : List ℕ). said ≢ other_name) t.name.text (map (λ (u : TypeTree). u.name.text) types) differ (sym same ∙ fitted_same t.name.text all.0.short)),
  apart_shapes said types (All-tail (λ (other_name : List ℕ). said ≢ other_name) t.name.text (map (λ (u : TypeTree). u.name.text) types) differ) all.1,
)

plain_shapes : (types : List TypeTree) → AreNamesApart (map (λ (t : TypeTree). t.name.text) types) → AllByRecursion (λ (t : TypeTree). IsPlain t.name.text) types → HavePlainNames (type_shapes types)
plain_shapes [] apart all = tt
plain_shapes (t ∷ types) apart all =
    let same : fitted t.name.text ≡ t.name.text = fitted_same t.name.text all.0.short in (
      subst (λ (said : List ℕ). AllByRecursion (λ (byte : ℕ). byte ≢ 47) said) (sym same) all.0.plain,
      subst (λ (said : List ℕ). AllByRecursion (λ u. u.name ≢ said) (type_shapes types)) (sym same) (apart_shapes t.name.text types (λ k d within. apart 0 (suc k) d (omega arith) (omega arith)) all.1),
      plain_shapes types (λ i j d before within. apart (suc i) (suc j) d (omega arith) (omega arith)) all.1,
    )

pub plain_names : (p : Program) → IsChecked p → HavePlainNames (shape_in p).types
plain_names p checked =
    let is = program_sound p.text p.types checked.parsed in
    let lexed = is.lexed in
    let plain : Plain is.tokens = read_plain 0 (take (utf8_valid_len p.text) p.text) is.tokens lexed.place lexed.left lexed.reads in
    plain_shapes p.types ((program_iff p.types).0 checked.checked).apart (types_plain is.tokens p.types [] is.types plain)
