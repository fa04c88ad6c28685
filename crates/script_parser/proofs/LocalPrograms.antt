-- Readers of methods, types and programs depend on nothing behind the token that stands next, or that they name; and what
-- they have read can be completed.
use Rattle.std.proofs.Common.{inl, inr, ◌≡◌, ℕ, zero, suc, ◌<◌, ◌≤◌, List, [], ◌∷◌, Option, Some, None, Ok, Err, Bool, true, false, refl, sym, ap, ◌∙◌, arith, length}
use Rattle.std.specs.Prelude.{bytes_eq, pos}
use Rattle.std.specs.List.{find}
use Rattle.std.specs.Option.{option_map}
use Rattle.std.specs.Int.{int_wrapping_neg, w64}
use Rattle.script_tree.specs.declared.expressions.Name.{Name}
use Rattle.script_tree.specs.declared.expressions.Literal.{Literal}
use Rattle.script_tree.specs.declared.expressions.Literal.TheVariants as literal
use Rattle.script_tree.specs.declared.options.TxnOption.{TxnOption}
use Rattle.script_tree.specs.declared.options.TxnOption.TheVariants as option
use Rattle.script_tree.specs.declared.options.MethodKind.{MethodKind}
use Rattle.script_tree.specs.declared.options.MethodKind.TheVariants as kind
use Rattle.script_tree.specs.declared.programs.FieldDecl.{FieldDecl}
use Rattle.script_tree.specs.Stmts.{StmtTree, block_tree}
use Rattle.script_tree.specs.Programs.{MethodTree, TypeTree}
use Rattle.script_lexer.specs.declared.faults.ParseFault.{ParseFault}
use Rattle.script_lexer.specs.declared.faults.ParseFault.TheVariants.{Unexpected}
use Rattle.script_lexer.specs.declared.tokens.Spanned.{Spanned}
use Rattle.script_lexer.specs.declared.tokens.Token.{Token}
use Rattle.script_lexer.specs.declared.tokens.Token.TheVariants as token
use Rattle.script_lexer.specs.declared.tokens.Symbol.{Symbol}
use Rattle.script_lexer.specs.declared.tokens.Symbol.TheVariants as symbol
use Rattle.script_lexer.specs.declared.tokens.Word.{Word}
use Rattle.script_lexer.specs.declared.tokens.Word.TheVariants as word
use Rattle.script_expressions.specs.TokenReaders.{◌>>=◌, Part, Read}
use Rattle.script_expressions.specs.Tokens.{is_word, expected, name_at, taken, taken_word}
use Rattle.script_expressions.specs.Grammar.{IsSymbol}
use Rattle.script_expressions.proofs.Soundness.{bind_ok, ok_is, took}
use Rattle.script_expressions.proofs.Completeness.{symbol_read}
use Rattle.script_expressions.proofs.Locality.{whole_turns, Follow, Any, NoOperator, of_symbol, Canon, Split, Local, Step, leaves, takes, refuses, stops, ends, step_at, end_at, then_at, canon_then, then_local, done_canon, done_split, done_local, by_next, symbol_refused, symbol_local, name_local, shut_local, split_no_longer, bind_same, Loop, loop_split}
use Rattle.script_expressions.proofs.LocalExpressions.{nought, any_first, name_eats, list_local}
use Rattle.script_parser.specs.declared.methods.TheConstants.{OPTIONS, KINDS}
use Rattle.script_parser.specs.Statements.{block}
use Rattle.script_parser.specs.Methods.{option_word, kind_word, option_found, kind_found, option_from, kind_from, option_at, kind_at, params_in, params_at, method_at}
use Rattle.script_parser.specs.Types.{more_parts_of, repeated, number_at, initial_at, field_at, members_in, type_at}
use Rattle.script_parser.proofs.Soundness.{took_next}
use Rattle.script_parser.proofs.LocalStatements.{block_local}

-- this word doesn't stand next
abbrev NotWord : Word → Follow
NotWord w ws = taken_word w ws ≡ None

-- neither does a field nor a method
abbrev NoMember : Follow
NoMember ws = NotWord word.Field ws × NotWord word.Method ws

-- nothing follows
abbrev pub IsEnd : Follow
IsEnd ws = ws ≡ []

end_is_no_member : (ws : List Spanned) → NoMember (of_symbol symbol.RightBrace ∷ ws)
unfolding taken_word
end_is_no_member ws = (refl, refl)

end_is_no_word : (w : Word) (ws : List Spanned) → IsEnd ws → NotWord w ws
unfolding taken_word
end_is_no_word w [] h = refl
end_is_no_word w (v ∷ vs) h = absurd (let clash : v ∷ vs ≡ [] = h in cc)

module _ (stop : ParseFault) where
  -- ---- options and kinds

  abbrev OptionAt : Type 0
  OptionAt = TxnOption × ℕ

  -- a word that is looked up
  abbrev spelled : List ℕ → Spanned
  spelled name = record { token = token.Name name; at = 0 }

  option_named_step : (t : Spanned) (ts : List Spanned) (s : List ℕ) (q : Option TxnOption) → t.token ≡ token.Name s → find (λ o. bytes_eq (option_word o) s) OPTIONS ≡ q → Step stop OptionAt Any (option_at stop) (option_at stop) t ts
  unfolding option_at
  option_named_step t ts s (Some o) e q =
      let eq : (vs : List Spanned) → option_at stop (t ∷ vs) ≡ Ok ((o, t.at), vs) = λ vs. ap (λ (k : Token). option_from k t.at vs) e ∙ ap (λ (r : Option TxnOption). option_found (option_map (λ o. o) r) t.at vs) q in
      takes (λ m. Ok ((o, t.at), m)) (λ m. Ok ((o, t.at), m)) (done_split stop OptionAt Any (o, t.at) ts) eq eq
  option_named_step t ts s None e q =
      let eq : (vs : List Spanned) → option_at stop (t ∷ vs) ≡ Err (Unexpected t.at) = λ vs. ap (λ (k : Token). option_from k t.at vs) e ∙ ap (λ (r : Option TxnOption). option_found (option_map (λ o. o) r) t.at vs) q in
      refuses (Unexpected t.at) refl eq eq

  option_step : (t : Spanned) (ts : List Spanned) (k : Token) → t.token ≡ k → Step stop OptionAt Any (option_at stop) (option_at stop) t ts
  unfolding option_at
  option_step t ts (token.Name s) e = option_named_step t ts s (find (λ o. bytes_eq (option_word o) s) OPTIONS) e refl
  option_step t ts (token.Word w) e = refuses (Unexpected t.at) refl (λ vs. rw e refl) (λ vs. rw e refl)
  option_step t ts (token.Int n) e = refuses (Unexpected t.at) refl (λ vs. rw e refl) (λ vs. rw e refl)
  option_step t ts (token.Text s) e = refuses (Unexpected t.at) refl (λ vs. rw e refl) (λ vs. rw e refl)
  option_step t ts (token.Symbol s) e = refuses (Unexpected t.at) refl (λ vs. rw e refl) (λ vs. rw e refl)

  option_local : Local stop OptionAt Any Any (option_at stop) (option_at stop)
  unfolding option_at
  option_local =
      by_next stop OptionAt Any Any (option_at stop) (option_at stop) (record { more = spelled (option_word option.Create) ∷ []; part = (option.Create, 0); starts = λ ws h. tt; goes = λ ws h. refl })
      (stops refl) (λ t ts. option_step t ts t.token refl)

  kind_named_step : (t : Spanned) (ts : List Spanned) (s : List ℕ) (q : Option MethodKind) → t.token ≡ token.Name s → find (λ o. bytes_eq (kind_word o) s) KINDS ≡ q → Step stop MethodKind Any (kind_at stop) (kind_at stop) t ts
  unfolding kind_at
  kind_named_step t ts s (Some o) e q =
      let eq : (vs : List Spanned) → kind_at stop (t ∷ vs) ≡ Ok (o, vs) = λ vs. ap (λ (k : Token). kind_from k t.at vs) e ∙ ap (λ (r : Option MethodKind). kind_found (option_map (λ o. o) r) t.at vs) q in
      takes (λ m. Ok (o, m)) (λ m. Ok (o, m)) (done_split stop MethodKind Any o ts) eq eq
  kind_named_step t ts s None e q =
      let eq : (vs : List Spanned) → kind_at stop (t ∷ vs) ≡ Err (Unexpected t.at) = λ vs. ap (λ (k : Token). kind_from k t.at vs) e ∙ ap (λ (r : Option MethodKind). kind_found (option_map (λ o. o) r) t.at vs) q in
      refuses (Unexpected t.at) refl eq eq

  kind_step : (t : Spanned) (ts : List Spanned) (k : Token) → t.token ≡ k → Step stop MethodKind Any (kind_at stop) (kind_at stop) t ts
  unfolding kind_at
  kind_step t ts (token.Name s) e = kind_named_step t ts s (find (λ o. bytes_eq (kind_word o) s) KINDS) e refl
  kind_step t ts (token.Word w) e = refuses (Unexpected t.at) refl (λ vs. rw e refl) (λ vs. rw e refl)
  kind_step t ts (token.Int n) e = refuses (Unexpected t.at) refl (λ vs. rw e refl) (λ vs. rw e refl)
  kind_step t ts (token.Text s) e = refuses (Unexpected t.at) refl (λ vs. rw e refl) (λ vs. rw e refl)
  kind_step t ts (token.Symbol s) e = refuses (Unexpected t.at) refl (λ vs. rw e refl) (λ vs. rw e refl)

  kind_local : Local stop MethodKind Any Any (kind_at stop) (kind_at stop)
  unfolding kind_at
  kind_local =
      by_next stop MethodKind Any Any (kind_at stop) (kind_at stop) (record { more = spelled (kind_word kind.Read) ∷ []; part = kind.Read; starts = λ ws h. tt; goes = λ ws h. refl })
      (stops refl) (λ t ts. kind_step t ts t.token refl)

  -- ---- methods

  no_params : (t : Spanned) → IsSymbol t symbol.LeftParen → (ws : List Spanned) → params_at stop 1 (t ∷ of_symbol symbol.RightParen ∷ ws) ≡ Ok ([], ws)
  unfolding params_at taken
  no_params t is ws = rw (symbol_read stop symbol.LeftParen t (of_symbol symbol.RightParen ∷ ws) is) refl

  no_name : name_at stop [] ≡ Err stop
  unfolding name_at
  no_name = refl

  params_local : (depth : ℕ) → Local stop (List Name) Any Any (params_at stop depth) (params_at stop (suc depth))
  unfolding params_at
  params_local zero =
      shut_local stop Any Any (List Name) symbol.LeftParen (params_at stop 1)
      (record { more = of_symbol symbol.LeftParen ∷ of_symbol symbol.RightParen ∷ []; part = []; starts = λ ws h. tt; goes = λ ws h. no_params (of_symbol symbol.LeftParen) refl ws })
      (λ t is. record { more = of_symbol symbol.RightParen ∷ []; part = []; goes = λ ws h. no_params t is ws })
      (λ t e vs. rw (symbol_refused stop symbol.LeftParen t vs e) refl)
  params_local (suc depth) =
      then_local stop ℕ (List Name) Any Any Any (expected stop symbol.LeftParen) (expected stop symbol.LeftParen) (λ o. params_in stop (suc depth) o.0 o.1) (λ o. params_in stop (suc (suc depth)) o.0 o.1)
      (λ y z e. inl (λ ws h. tt)) (symbol_local stop Any Any symbol.LeftParen (λ ws. tt))
      (λ a. list_local stop Name Any Any (name_at stop) (name_at stop) (λ ws h. h) (λ ws. tt) (name_local stop Any Any (λ ws. tt)) (name_eats stop) (name_eats stop) no_name no_name)

  method_local : (depth : ℕ) → Local stop MethodTree Any Any (method_at stop depth) (method_at stop (suc depth))
  unfolding method_at
  method_local depth =
      then_local stop Name MethodTree Any Any Any (name_at stop) (name_at stop) _ _ (λ y z e. inl (λ ws h. tt)) (name_local stop Any Any (λ ws. tt)) (λ name.
      then_local stop (List Name) MethodTree Any Any Any (params_at stop depth) (params_at stop (suc depth)) _ _ (λ y z e. inl (λ ws h. tt)) (params_local depth) (λ params.
      then_local stop OptionAt MethodTree Any Any Any (option_at stop) (option_at stop) _ _ (λ y z e. inl (λ ws h. tt)) option_local (λ opt.
      then_local stop MethodKind MethodTree Any Any Any (kind_at stop) (kind_at stop) _ _ (λ y z e. inl (λ ws h. tt)) kind_local (λ knd.
      then_local stop (List StmtTree) MethodTree Any Any Any (block stop depth) (block stop (suc depth)) _ _ (λ y z e. inl (λ ws h. tt)) (any_first stop (List StmtTree) NoOperator Any (block stop depth) (block stop (suc depth)) (block_local stop depth Any)) (λ body.
      done_local stop MethodTree Any Any (λ ws h. h) (record { name = name; params = params; option = opt.0; option_at = opt.1; kind = knd; body = block_tree body }))))))

  -- ---- fields

  number_step : (t : Spanned) (ts : List Spanned) (k : Token) → t.token ≡ k → Step stop Literal Any (number_at stop) (number_at stop) t ts
  unfolding number_at
  number_step t ts (token.Int n) e =
      let value : Literal = literal.Int (int_wrapping_neg w64 n) in
      takes (λ m. Ok (value, m)) (λ m. Ok (value, m)) (done_split stop Literal Any value ts) (λ vs. rw e refl) (λ vs. rw e refl)
  number_step t ts (token.Name s) e = refuses (Unexpected t.at) refl (λ vs. rw e refl) (λ vs. rw e refl)
  number_step t ts (token.Word w) e = refuses (Unexpected t.at) refl (λ vs. rw e refl) (λ vs. rw e refl)
  number_step t ts (token.Text s) e = refuses (Unexpected t.at) refl (λ vs. rw e refl) (λ vs. rw e refl)
  number_step t ts (token.Symbol s) e = refuses (Unexpected t.at) refl (λ vs. rw e refl) (λ vs. rw e refl)

  number_local : Local stop Literal Any Any (number_at stop) (number_at stop)
  unfolding number_at
  number_local =
      by_next stop Literal Any Any (number_at stop) (number_at stop) (record { more = nought ∷ []; part = literal.Int (int_wrapping_neg w64 (pos 0)); starts = λ ws h. tt; goes = λ ws h. refl })
      (stops refl) (λ t ts. number_step t ts t.token refl)

  sign_step : (t : Spanned) (ts : List Spanned) (s : Symbol) → t.token ≡ token.Symbol s → Step stop Literal Any (initial_at stop) (initial_at stop) t ts
  unfolding initial_at
  sign_step t ts symbol.Minus e = takes (number_at stop) (number_at stop) (number_local.split ts) (λ vs. rw e refl) (λ vs. rw e refl)
  sign_step t ts _ e = refuses (Unexpected t.at) refl (λ vs. rw e refl) (λ vs. rw e refl)

  initial_step : (t : Spanned) (ts : List Spanned) (k : Token) → t.token ≡ k → Step stop Literal Any (initial_at stop) (initial_at stop) t ts
  unfolding initial_at
  initial_step t ts (token.Int n) e = let value : Literal = literal.Int n in takes (λ m. Ok (value, m)) (λ m. Ok (value, m)) (done_split stop Literal Any value ts) (λ vs. rw e refl) (λ vs. rw e refl)
  initial_step t ts (token.Text s) e = let value : Literal = literal.Chars s in takes (λ m. Ok (value, m)) (λ m. Ok (value, m)) (done_split stop Literal Any value ts) (λ vs. rw e refl) (λ vs. rw e refl)
  initial_step t ts (token.Symbol s) e = sign_step t ts s e
  initial_step t ts (token.Name s) e = refuses (Unexpected t.at) refl (λ vs. rw e refl) (λ vs. rw e refl)
  initial_step t ts (token.Word w) e = refuses (Unexpected t.at) refl (λ vs. rw e refl) (λ vs. rw e refl)

  initial_local : Local stop Literal Any Any (initial_at stop) (initial_at stop)
  unfolding initial_at
  initial_local =
      by_next stop Literal Any Any (initial_at stop) (initial_at stop) (record { more = nought ∷ []; part = literal.Int (pos 0); starts = λ ws h. tt; goes = λ ws h. refl }) (stops refl) (λ t ts. initial_step t ts t.token refl)

  field_local : Local stop FieldDecl Any Any (field_at stop) (field_at stop)
  unfolding field_at
  field_local =
      then_local stop Name FieldDecl Any Any Any (name_at stop) (name_at stop) _ _ (λ y z e. inl (λ ws h. tt)) (name_local stop Any Any (λ ws. tt)) (λ name.
      then_local stop ℕ FieldDecl Any Any Any (expected stop symbol.Assign) (expected stop symbol.Assign) _ _ (λ y z e. inl (λ ws h. tt)) (symbol_local stop Any Any symbol.Assign (λ ws. tt)) (λ assign.
      then_local stop Literal FieldDecl Any Any Any (initial_at stop) (initial_at stop) _ _ (λ y z e. inl (λ ws h. tt)) initial_local (λ first.
      then_local stop ℕ FieldDecl Any Any Any (expected stop symbol.Semicolon) (expected stop symbol.Semicolon) _ _ (λ y z e. inl (λ ws h. tt)) (symbol_local stop Any Any symbol.Semicolon (λ ws. tt)) (λ end.
      done_local stop FieldDecl Any Any (λ ws h. h) (record { name = name; initial = first })))))

  -- ---- parts one after another

  module _ (A : Type 0) (w : Word) where
    abbrev goes_on : Read A → Read (List A) → Read (List A)
    goes_on one r m = one m >>= λ x. r x.1 >>= λ q. Ok (x.0 ∷ q.0, q.1)

    abbrev turn : Read A → Read (List A) → Read (List A)
    turn one r ts = more_parts_of one r ts (taken_word w ts)

    none_at_all : (one : Read A) (n : ℕ) → repeated w one n [] ≡ Ok ([], [])
    unfolding repeated taken_word
    none_at_all one zero = refl
    none_at_all one (suc n) = refl

    turn_nil : (one : Read A) (r : Read (List A)) → turn one r [] ≡ Ok ([], [])
    unfolding taken_word
    turn_nil one r = refl

    turns : (one : Read A) (n : ℕ) (t : Spanned) (ts : List Spanned) → repeated w one (suc n) (t ∷ ts) ≡ turn one (repeated w one n) (t ∷ ts)
    unfolding repeated
    turns one n t ts = refl

    -- a reader of parts that leaves no more than there was
    module _ (one : Read A) (shorter : (ts : List Spanned) (y : A × List Spanned) → one ts ≡ Ok y → length y.1 ≤ length ts) where
      goes_fewer : (r s : Read (List A)) (ts : List Spanned) → ((us : List Spanned) → length us < length ts → r us ≡ s us) → (q : Option (List Spanned)) → taken_word w ts ≡ q → more_parts_of one r ts q ≡ more_parts_of one s ts q
      goes_fewer r s ts same None q = refl
      goes_fewer r s ts same (Some after) q =
          let t = took_next w ts after q in
          bind_same A (List A) (one after) (λ x. r x.1 >>= λ q. Ok (x.0 ∷ q.0, q.1)) (λ x. s x.1 >>= λ q. Ok (x.0 ∷ q.0, q.1))
          (λ x e.
          let less : length x.1 ≤ length after = shorter after x e in
          ap (λ (p : Part (List A)). p >>= λ q. Ok (x.0 ∷ q.0, q.1)) (same x.1 (omega (arith, ap length t.1))))

      parts_loop : Loop (List A) (repeated w one) (turn one)
      parts_loop = record {
        unroll = turns one;
        idle = λ n. none_at_all one n ∙ sym (none_at_all one 0);
        nil = λ r. turn_nil one r ∙ sym (none_at_all one 0);
        fewer = λ r s ts same. goes_fewer r s ts same (taken_word w ts) refl;
      }

    module _ (First H : Follow) (sub : (ws : List Spanned) → H ws → First ws) (apart : (ws : List Spanned) → H ws → NotWord w ws) (one one' : Read A) (local : Local stop A Any Any one one')
        (shorter' : (ts : List Spanned) (y : A × List Spanned) → one' ts ≡ Ok y → length y.1 ≤ length ts) where
      abbrev pub parts : Read A → Read (List A)
      parts by m = repeated w by (length m) m

      shorter : (ts : List Spanned) (y : A × List Spanned) → one ts ≡ Ok y → length y.1 ≤ length ts
      shorter ts y e = split_no_longer stop A Any one one' ts (local.split ts) y e

      stopped : (by : Read A) (r : Read (List A)) (ws : List Spanned) → NotWord w ws → turn by r ws ≡ Ok ([], ws)
      stopped by r ws h = rw h refl

      turns_are : (ts : List Spanned) → parts one' ts ≡ turn one' (parts one') ts
      turns_are = whole_turns (List A) (repeated w one') (turn one') (parts_loop one' shorter')

      parts_goes : (ws : List Spanned) → H ws → parts one' ws ≡ Ok ([], ws)
      parts_goes ws h = turns_are ws ∙ stopped one' (parts one') ws (apart ws h)

      parts_canon : (F : Follow) → ((ws : List Spanned) → H ws → F ws) → Canon (List A) F H (parts one')
      parts_canon F into = record { more = []; part = []; starts = into; goes = parts_goes }

      turn_canon : Canon (List A) Any H (turn one' (parts one'))
      turn_canon = record { more = []; part = []; starts = λ ws h. tt; goes = λ ws h. stopped one' (parts one') ws (apart ws h) }

      more_canon : (x : A) → Canon (List A) Any H (λ m. parts one' m >>= λ q. Ok (x ∷ q.0, q.1))
      more_canon x = canon_then stop (List A) (List A) Any H H (parts one') (λ q. Ok (x ∷ q.0, q.1)) (parts_canon Any (λ ws h. tt)) (λ a. done_canon stop (List A) H H (λ ws h. h) (x ∷ a))

      abbrev Fewer : List Spanned → Type 0
      Fewer ts = (us : List Spanned) → length us < length ts → Split stop (List A) H (parts one) (parts one') us (parts one us)

      more_at : (x : A) (us : List Spanned) → Split stop (List A) H (parts one) (parts one') us (parts one us) → Split stop (List A) H (λ m. parts one m >>= λ q. Ok (x ∷ q.0, q.1)) (λ m. parts one' m >>= λ q. Ok (x ∷ q.0, q.1)) us (parts one us >>= λ q. Ok (x ∷ q.0, q.1))
      more_at x us split =
          then_at stop (List A) (List A) H H (parts one) (parts one') (λ q. Ok (x ∷ q.0, q.1)) (λ q. Ok (x ∷ q.0, q.1)) us (λ a. done_canon stop (List A) H H (λ ws h. h) (x ∷ a)) (λ y z e h. inl (λ ws h. h)) (λ q e. done_split stop (List A) H (x ∷ q.0) q.1) (parts one us) refl split

      goes_at : (t : Spanned) (ts : List Spanned) → Fewer (t ∷ ts) → Split stop (List A) H (goes_on one (parts one)) (goes_on one' (parts one')) ts (goes_on one (parts one) ts)
      goes_at t ts more =
          then_at stop A (List A) Any H one one' (λ x. parts one x.1 >>= λ q. Ok (x.0 ∷ q.0, q.1)) (λ x. parts one' x.1 >>= λ q. Ok (x.0 ∷ q.0, q.1)) ts more_canon (λ y z e h. inl (λ ws h. tt))
          (λ x e. let less : length x.1 ≤ length ts = shorter ts x e in more_at x.0 x.1 (more x.1 (omega arith))) (one ts) refl (local.split ts)

      turn_step : (t : Spanned) (ts : List Spanned) → Fewer (t ∷ ts) → (b : Bool) → is_word w t.token ≡ b → Step stop (List A) H (turn one (parts one)) (turn one' (parts one')) t ts
      unfolding taken_word
      turn_step t ts more true e = takes (goes_on one (parts one)) (goes_on one' (parts one')) (goes_at t ts more) (λ vs. rw e refl) (λ vs. rw e refl)
      turn_step t ts more false e = leaves [] (λ vs. rw e refl) (λ vs. rw e refl) (λ vs h. stopped one' (parts one') vs (apart vs h))

      turn_at : (ts : List Spanned) → Fewer ts → Split stop (List A) H (turn one (parts one)) (turn one' (parts one')) ts (turn one (parts one) ts)
      turn_at [] more = end_at stop (List A) Any H (turn one (parts one)) (turn one' (parts one')) turn_canon (ends [] (turn_nil one (parts one)) (turn_nil one' (parts one')) (λ vs h. stopped one' (parts one') vs (apart vs h)))
      turn_at (t ∷ ts) more = step_at stop (List A) Any H (turn one (parts one)) (turn one' (parts one')) t ts turn_canon (turn_step t ts more (is_word w t.token) refl)

      pub parts_local : Local stop (List A) First H (λ m. repeated w one (length m) m) (λ m. repeated w one' (length m) m)
      parts_local = record {
        canon = parts_canon First sub;
        split = loop_split stop (List A) H (repeated w one) (repeated w one') (turn one) (turn one') (parts_loop one shorter) (parts_loop one' shorter') turn_at;
      }

  -- ---- types

  field_shorter : (ts : List Spanned) (y : FieldDecl × List Spanned) → field_at stop ts ≡ Ok y → length y.1 ≤ length ts
  field_shorter ts y e = split_no_longer stop FieldDecl Any (field_at stop) (field_at stop) ts (field_local.split ts) y e

  method_shorter : (depth : ℕ) (ts : List Spanned) (y : MethodTree × List Spanned) → method_at stop depth ts ≡ Ok y → length y.1 ≤ length ts
  method_shorter depth ts y e = split_no_longer stop MethodTree Any (method_at stop depth) (method_at stop (suc depth)) ts ((method_local depth).split ts) y e

  abbrev Members : Type 0
  Members = List FieldDecl × List MethodTree

  abbrev fields : Read (List FieldDecl)
  fields m = repeated word.Field (field_at stop) (length m) m

  abbrev methods : ℕ → Read (List MethodTree)
  methods depth m = repeated word.Method (method_at stop depth) (length m) m

  fields_local : Local stop (List FieldDecl) Any (NotWord word.Field) fields fields
  fields_local = parts_local FieldDecl word.Field Any (NotWord word.Field) (λ ws h. tt) (λ ws h. h) (field_at stop) (field_at stop) field_local field_shorter

  methods_local : (depth : ℕ) → Local stop (List MethodTree) (NotWord word.Field) NoMember (methods depth) (methods (suc depth))
  methods_local depth =
      parts_local MethodTree word.Method (NotWord word.Field) NoMember (λ ws h. h.0) (λ ws h. h.1) (method_at stop depth) (method_at stop (suc depth)) (method_local depth) (method_shorter (suc depth))

  -- the brace that ends a type
  abbrev closes : List FieldDecl → List MethodTree → Read Members
  closes fs ms m = expected stop symbol.RightBrace m >>= λ end. Ok ((fs, ms), end.1)

  closes_local : (fs : List FieldDecl) (ms : List MethodTree) → Local stop Members NoMember Any (closes fs ms) (closes fs ms)
  closes_local fs ms =
      then_local stop ℕ Members NoMember Any Any (expected stop symbol.RightBrace) (expected stop symbol.RightBrace) (λ end. Ok ((fs, ms), end.1)) (λ end. Ok ((fs, ms), end.1)) (λ y z e. inl (λ ws h. tt)) (symbol_local stop NoMember Any symbol.RightBrace end_is_no_member) (λ a. done_local stop Members Any Any (λ ws h. h) (fs, ms))

  closes_eats : (fs : List FieldDecl) (ms : List MethodTree) (us : List Spanned) (z : Members × List Spanned) → closes fs ms us ≡ Ok z → length z.1 < length us
  closes_eats fs ms us z e =
      let c = bind_ok (expected stop symbol.RightBrace us) (λ end. Ok ((fs, ms), end.1)) z e in
      let t = took stop symbol.RightBrace us c.0 c.1 in
      let end : Members × List Spanned = ((fs, ms), c.0.1) in
      let same : c.0.1 ≡ z.1 = ap (λ (p : Members × List Spanned). p.1) (ok_is end z c.2) in
      omega (arith, ap length t.is, ap length same)

  rest_eats : (depth : ℕ) (fs : List FieldDecl) (us : List Spanned) (z : Members × List Spanned) → (methods depth us >>= λ ms. closes fs ms.0 ms.1) ≡ Ok z → length z.1 < length us
  rest_eats depth fs us z e =
      let m = bind_ok (methods depth us) (λ ms. closes fs ms.0 ms.1) z e in
      let first : length m.0.1 ≤ length us = split_no_longer stop (List MethodTree) NoMember (methods depth) (methods (suc depth)) us ((methods_local depth).split us) m.0 m.1 in
      let last : length z.1 < length m.0.1 = closes_eats fs m.0.0 m.0.1 z m.2 in
      omega arith

  members_local : (depth at : ℕ) → Local stop Members Any Any (members_in stop (suc depth) at) (members_in stop (suc (suc depth)) at)
  members_local depth at =
      then_local stop (List FieldDecl) Members Any (NotWord word.Field) Any fields fields (λ fs. methods depth fs.1 >>= λ ms. closes fs.0 ms.0 ms.1) (λ fs. methods (suc depth) fs.1 >>= λ ms. closes fs.0 ms.0 ms.1)
      (λ y z e. inr (rest_eats depth y.0 y.1 z e)) fields_local (λ fs.
      then_local stop (List MethodTree) Members (NotWord word.Field) NoMember Any (methods depth) (methods (suc depth)) (λ ms. closes fs ms.0 ms.1) (λ ms. closes fs ms.0 ms.1)
      (λ y z e. inr (closes_eats fs y.0 y.1 z e)) (methods_local depth) (λ ms. closes_local fs ms))

  type_local : (depth : ℕ) → Local stop TypeTree Any Any (type_at stop (suc depth)) (type_at stop (suc (suc depth)))
  unfolding type_at
  type_local depth =
      then_local stop Name TypeTree Any Any Any (name_at stop) (name_at stop) _ _ (λ y z e. inl (λ ws h. tt)) (name_local stop Any Any (λ ws. tt)) (λ name.
      then_local stop ℕ TypeTree Any Any Any (expected stop symbol.LeftBrace) (expected stop symbol.LeftBrace) _ _ (λ y z e. inl (λ ws h. tt)) (symbol_local stop Any Any symbol.LeftBrace (λ ws. tt)) (λ opening.
      then_local stop Members TypeTree Any Any Any (members_in stop (suc depth) opening) (members_in stop (suc (suc depth)) opening) _ _ (λ y z e. inl (λ ws h. tt)) (members_local depth opening) (λ members.
      done_local stop TypeTree Any Any (λ ws h. h) (record { name = name; fields = members.0; methods = members.1 }))))

  type_shorter : (depth : ℕ) (ts : List Spanned) (y : TypeTree × List Spanned) → type_at stop (suc depth) ts ≡ Ok y → length y.1 ≤ length ts
  type_shorter depth ts y e = split_no_longer stop TypeTree Any (type_at stop (suc depth)) (type_at stop (suc (suc depth))) ts ((type_local depth).split ts) y e

  -- the types of a program, and those where one more may be open
  pub types_local : Local stop (List TypeTree) Any IsEnd (λ m. repeated word.Type (type_at stop 32) (length m) m) (λ m. repeated word.Type (type_at stop 33) (length m) m)
  types_local = parts_local TypeTree word.Type Any IsEnd (λ ws h. tt) (λ ws h. end_is_no_word word.Type ws h) (type_at stop 32) (type_at stop 33) (type_local 31) (type_shorter 32)
