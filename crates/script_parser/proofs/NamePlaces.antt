-- The names of a program stand at the places of its tokens, in their order.
use Rattle.std.proofs.Common.{◌≡◌, ℕ, zero, suc, ◌+◌, ◌≤◌, List, [], ◌∷◌, ◌++◌, Result, Ok, Err, subst, arith, take}
use Rattle.std.specs.Prelude.{IfOk}
use Rattle.std.specs.Str.Lossy.{utf8_valid_len}
use Rattle.script_tree.specs.declared.expressions.Name.{Name}
use Rattle.script_tree.specs.declared.expressions.Literal.{Literal}
use Rattle.script_tree.specs.declared.programs.FieldDecl.{FieldDecl}
use Rattle.script_tree.specs.declared.programs.Program.{Program}
use Rattle.script_tree.specs.Stmts.{SourceTree, StmtTree, BlockTree, ElseTree}
use Rattle.script_tree.specs.Programs.{MethodTree, TypeTree, ProgramTree, program_tree}
use Rattle.script_tree.specs.Names.{names_in_expression, names_in_each, names_in_call, names_in_source, names_in_statement, names_in_block, names_in_else, names_in_field, names_in_parameter, names_in_method, names_in_type, names_in_program, AreInOrder}
use Rattle.script_lexer.specs.declared.faults.ParseFault.{ParseFault}
use Rattle.script_lexer.specs.declared.tokens.Spanned.{Spanned}
use Rattle.script_lexer.proofs.Places.{Above, reads_above}
use Rattle.script_expressions.specs.TokenReaders.{Makes}
use Rattle.script_expressions.proofs.NamePlaces.{in_order, Kept, no_name, from, past, and_name, join, Keeps, expression_keeps, enclosed_list_keeps, call_keeps}
use Rattle.script_parser.specs.Grammar.{IsSource, computed, called, IsElse, left_out, other, IsStmt, bind, rebind, set_field, perform, choose, repeat, give, fail_with, attempt, IsBody, no_more, then_more, IsBraced, braces, IsBlock, OneName, IsMethod, method, IsInitial, positive, negative, worded, IsField, field, Many, none, one_more, IsType, type, IsProgram}
use Rattle.script_parser.specs.Programs.{program_of}
use Rattle.script_parser.proofs.SoundParts.{program_sound}

source_keeps : (depth : ℕ) → Keeps SourceTree names_in_source (IsSource depth)
unfolding names_in_source
source_keeps _ _ _ _ (computed depth ts value after d) low h = expression_keeps depth ts value after d low h
source_keeps _ _ _ _ (called depth w ts c after is d) low h = let first : low ≤ w.at = h.0 in from low (w.at + 1) (names_in_call c) after (omega arith) (call_keeps depth ts c after d (w.at + 1) h.1)

module _ (depth : ℕ) (Block : List Spanned → BlockTree → List Spanned → Type 0) (blocks : Keeps BlockTree names_in_block Block) where
  else_keeps : Keeps ElseTree names_in_else (IsElse Block)
  unfolding names_in_else
  else_keeps _ _ _ (left_out after n) low h = no_name low after h
  else_keeps _ _ _ (other w ts body after is d) low h = let first : low ≤ w.at = h.0 in from low (w.at + 1) (names_in_block body) after (omega arith) (blocks ts body after d (w.at + 1) h.1)

  stmt_keeps : Keeps StmtTree names_in_statement (IsStmt depth Block)
  unfolding names_in_statement
  stmt_keeps _ _ _ (bind w n a e name value ts after is named assign d end) low h =
      let first : low ≤ w.at = h.0 in
      let second : w.at + 1 ≤ n.at = h.1.0 in
      let third : n.at + 1 ≤ a.at = h.1.1.0 in
      let same : n.at ≡ name.at = named.1 in
      and_name low (a.at + 1) name (names_in_source value) after (omega arith) (omega arith) (past (a.at + 1) (names_in_source value) e after (source_keeps depth ts value (e ∷ after) d (a.at + 1) h.1.1.1))
  stmt_keeps _ _ _ (rebind n a e name value ts after named assign d end) low h =
      let first : low ≤ n.at = h.0 in
      let second : n.at + 1 ≤ a.at = h.1.0 in
      let same : n.at ≡ name.at = named.1 in
      and_name low (a.at + 1) name (names_in_source value) after (omega arith) (omega arith) (past (a.at + 1) (names_in_source value) e after (source_keeps depth ts value (e ∷ after) d (a.at + 1) h.1.1))
  stmt_keeps _ _ _ (set_field w n a e name value ts after is named assign d end) low h =
      let first : low ≤ w.at = h.0 in
      let second : w.at + 1 ≤ n.at = h.1.0 in
      let third : n.at + 1 ≤ a.at = h.1.1.0 in
      let same : n.at ≡ name.at = named.1 in
      and_name low (a.at + 1) name (names_in_expression value) after (omega arith) (omega arith) (past (a.at + 1) (names_in_expression value) e after (expression_keeps depth ts value (e ∷ after) d (a.at + 1) h.1.1.1))
  stmt_keeps _ _ _ (perform w e c ts after is d end) low h =
      let first : low ≤ w.at = h.0 in
      from low (w.at + 1) (names_in_call c) after (omega arith) (past (w.at + 1) (names_in_call c) e after (call_keeps depth ts c (e ∷ after) d (w.at + 1) h.1))
  stmt_keeps _ _ _ (choose w test first second ts us vs after is d b o) low h =
      let begins : low ≤ w.at = h.0 in
      let k1 = expression_keeps depth ts test us d (w.at + 1) h.1 in
      let k2 = join (w.at + 1) (names_in_expression test) (names_in_block first) us vs k1 (blocks us first vs b k1.high k1.above) in
      let k3 = join (w.at + 1) (names_in_expression test ++ names_in_block first) (names_in_else second) vs after k2 (else_keeps vs second after o k2.high k2.above) in
      from low (w.at + 1) (names_in_expression test ++ names_in_block first ++ names_in_else second) after (omega arith) k3
  stmt_keeps _ _ _ (repeat w test body ts us after is d b) low h =
      let begins : low ≤ w.at = h.0 in
      let k1 = expression_keeps depth ts test us d (w.at + 1) h.1 in
      from low (w.at + 1) (names_in_expression test ++ names_in_block body) after (omega arith) (join (w.at + 1) (names_in_expression test) (names_in_block body) us after k1 (blocks us body after b k1.high k1.above))
  stmt_keeps _ _ _ (give w e value ts after is d end) low h =
      let first : low ≤ w.at = h.0 in
      from low (w.at + 1) (names_in_expression value) after (omega arith) (past (w.at + 1) (names_in_expression value) e after (expression_keeps depth ts value (e ∷ after) d (w.at + 1) h.1))
  stmt_keeps _ _ _ (fail_with w s e said after is text end) low h =
      let first : low ≤ w.at = h.0 in
      let second : w.at + 1 ≤ s.at = h.1.0 in
      let third : s.at + 1 ≤ e.at = h.1.1.0 in
      from low (e.at + 1) [] after (omega arith) (no_name (e.at + 1) after h.1.1.1)
  stmt_keeps _ _ _ (attempt w n a c o name asked first second ts us vs after is named assign asks d b1 others b2) low h =
      let h1 : low ≤ w.at = h.0 in
      let h2 : w.at + 1 ≤ n.at = h.1.0 in
      let h3 : n.at + 1 ≤ a.at = h.1.1.0 in
      let h4 : a.at + 1 ≤ c.at = h.1.1.1.0 in
      let same : n.at ≡ name.at = named.1 in
      let k1 = call_keeps depth ts asked us d (c.at + 1) h.1.1.1.1 in
      let k2 = join (c.at + 1) (names_in_call asked) (names_in_block first) us (o ∷ vs) k1 (blocks us first (o ∷ vs) b1 k1.high k1.above) in
      let k3 = past (c.at + 1) (names_in_call asked ++ names_in_block first) o vs k2 in
      let k4 = join (c.at + 1) (names_in_call asked ++ names_in_block first) (names_in_block second) vs after k3 (blocks vs second after b2 k3.high k3.above) in
      and_name low (c.at + 1) name (names_in_call asked ++ names_in_block first ++ names_in_block second) after (omega arith) (omega arith) k4

  body_keeps : Keeps BlockTree names_in_block (IsBody (IsStmt depth Block))
  unfolding names_in_block
  body_keeps _ _ _ (no_more c after close) low h = let first : low ≤ c.at = h.0 in from low (c.at + 1) [] after (omega arith) (no_name (c.at + 1) after h.1)
  body_keeps _ _ _ (then_more s b ts us after d rest) low h =
      let k = stmt_keeps ts s us d low h in
      join low (names_in_statement s) (names_in_block b) us after k (body_keeps us b after rest k.high k.above)

  braced_keeps : Keeps BlockTree names_in_block (IsBraced (IsStmt depth Block))
  braced_keeps _ _ _ (braces o b ts after opens d) low h = let first : low ≤ o.at = h.0 in from low (o.at + 1) (names_in_block b) after (omega arith) (body_keeps ts b after d (o.at + 1) h.1)

block_keeps : (depth : ℕ) → Keeps BlockTree names_in_block (IsBlock depth)
block_keeps zero ts b after d low h = absurd d
block_keeps (suc depth) ts b after d low h = braced_keeps depth (IsBlock depth) (block_keeps depth) ts b after d low h

parameter_keeps : Keeps Name names_in_parameter OneName
parameter_keeps ts name after d low h =
    let here : Above low (d.0 ∷ after) = subst (λ (l : List Spanned). Above low l) d.1 h in
    let first : low ≤ d.0.at = here.0 in
    let same : d.0.at ≡ name.at = d.2.1 in
    and_name low (d.0.at + 1) name [] after (omega arith) (omega arith) (no_name (d.0.at + 1) after here.1)

method_keeps : (depth : ℕ) → Keeps MethodTree names_in_method (IsMethod depth)
method_keeps _ _ _ _ (method depth w n o k name params option kind body ts us after is named p opt knd b) low h =
    let first : low ≤ w.at = h.0 in
    let second : w.at + 1 ≤ n.at = h.1.0 in
    let same : n.at ≡ name.at = named.1 in
    let k1 = enclosed_list_keeps Name names_in_parameter OneName parameter_keeps ts params (o ∷ k ∷ us) p (n.at + 1) h.1.1 in
    let k2 = past (n.at + 1) (names_in_each names_in_parameter params) k us (past (n.at + 1) (names_in_each names_in_parameter params) o (k ∷ us) k1) in
    let k3 = join (n.at + 1) (names_in_each names_in_parameter params) (names_in_block body) us after k2 (block_keeps (suc depth) us body after b k2.high k2.above) in
    and_name low (n.at + 1) name (names_in_each names_in_parameter params ++ names_in_block body) after (omega arith) (omega arith) k3

initial_above : (low : ℕ) (ts : List Spanned) (x : Literal) (after : List Spanned) → IsInitial ts x after → Above low ts → Kept low [] after
initial_above low _ _ _ (positive t n after is) h = let first : low ≤ t.at = h.0 in from low (t.at + 1) [] after (omega arith) (no_name (t.at + 1) after h.1)
initial_above low _ _ _ (negative m t n after minus is) h =
    let first : low ≤ m.at = h.0 in
    let second : m.at + 1 ≤ t.at = h.1.0 in
    from low (t.at + 1) [] after (omega arith) (no_name (t.at + 1) after h.1.1)
initial_above low _ _ _ (worded t said after is) h = let first : low ≤ t.at = h.0 in from low (t.at + 1) [] after (omega arith) (no_name (t.at + 1) after h.1)

field_keeps : Keeps FieldDecl names_in_field IsField
field_keeps _ _ _ (field w n a e name initial ts after is named assign d end) low h =
    let first : low ≤ w.at = h.0 in
    let second : w.at + 1 ≤ n.at = h.1.0 in
    let third : n.at + 1 ≤ a.at = h.1.1.0 in
    let same : n.at ≡ name.at = named.1 in
    and_name low (a.at + 1) name [] after (omega arith) (omega arith) (past (a.at + 1) [] e after (initial_above (a.at + 1) ts initial (e ∷ after) d h.1.1.1))

many_keeps : (A : Type 0) (names : A → List Name) (One : List Spanned → A → List Spanned → Type 0) → Keeps A names One → Keeps (List A) (names_in_each names) (Many A One)
unfolding names_in_each
many_keeps A names One one _ _ _ (none after) low h = no_name low after h
many_keeps A names One one _ _ _ (one_more x xs ts us after d rest) low h =
    let k = one ts x us d low h in
    join low (names x) (names_in_each names xs) us after k (many_keeps A names One one us xs after rest k.high k.above)

type_keeps : (depth : ℕ) → Keeps TypeTree names_in_type (IsType depth)
type_keeps _ _ _ _ (type depth w n o c name fields methods ts us after is named opens f m close) low h =
    let first : low ≤ w.at = h.0 in
    let second : w.at + 1 ≤ n.at = h.1.0 in
    let third : n.at + 1 ≤ o.at = h.1.1.0 in
    let same : n.at ≡ name.at = named.1 in
    let k1 = many_keeps FieldDecl names_in_field IsField field_keeps ts fields us f (o.at + 1) h.1.1.1 in
    let k2 = join (o.at + 1) (names_in_each names_in_field fields) (names_in_each names_in_method methods) us (c ∷ after) k1 (many_keeps MethodTree names_in_method (IsMethod depth) (method_keeps depth) us methods (c ∷ after) m k1.high k1.above) in
    let k3 = past (o.at + 1) (names_in_each names_in_field fields ++ names_in_each names_in_method methods) c after k2 in
    and_name low (o.at + 1) name (names_in_each names_in_field fields ++ names_in_each names_in_method methods) after (omega arith) (omega arith) k3

-- the names of a program of the grammar stand in order
program_in_order : (text : List ℕ) (tree : ProgramTree) → IsProgram text tree → AreInOrder (names_in_program tree)
unfolding names_in_program
program_in_order text tree p =
    let k = many_keeps TypeTree names_in_type (IsType 32) (type_keeps 32) p.tokens tree [] p.types 0 (reads_above 0 (take (utf8_valid_len text) text) p.tokens p.lexed.place p.lexed.left p.lexed.reads) in
    in_order 0 (names_in_each names_in_type tree) k.high k.rise

-- the same of what a function returned
pub if_in_order : (text : List ℕ) (r : Result Program ParseFault) → Makes program_tree r (program_of text) → IfOk r (λ made. AreInOrder (names_in_program (program_tree made)))
if_in_order text (Ok made) e = program_in_order text (program_tree made) (program_sound text (program_tree made) e)
if_in_order text (Err f) e = tt
