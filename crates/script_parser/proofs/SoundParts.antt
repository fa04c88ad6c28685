-- Methods, types and programs that are read are in the grammar.
use Rattle.std.proofs.Common.{◌≡◌, ℕ, zero, suc, List, [], ◌∷◌, Option, Some, None, Ok, Bool, true, false, cond, refl, sym, ap, subst, ◌∙◌, length}
use Rattle.std.specs.Prelude.{bytes_eq, nat_lt}
use Rattle.std.specs.List.{find}
use Rattle.std.specs.Option.{option_map}
use Rattle.std.specs.Str.Lossy.{utf8_valid_len}
use Rattle.std.proofs.lemmas.Slice.Eq.{bytes_eq-Decides}
use Rattle.script_tree.specs.declared.expressions.Name.{Name}
use Rattle.script_tree.specs.declared.expressions.Literal.{Literal}
use Rattle.script_tree.specs.declared.options.TxnOption.{TxnOption}
use Rattle.script_tree.specs.declared.options.MethodKind.{MethodKind}
use Rattle.script_tree.specs.declared.programs.FieldDecl.{FieldDecl}
use Rattle.script_tree.specs.Stmts.{block_tree}
use Rattle.script_tree.specs.Programs.{MethodTree, TypeTree, ProgramTree}
use Rattle.script_lexer.specs.declared.faults.ParseFault.{ParseFault}
use Rattle.script_lexer.specs.declared.faults.ParseFault.TheVariants.{BadToken, Unexpected, TooDeep, Memory}
use Rattle.script_lexer.specs.declared.tokens.Spanned.{Spanned}
use Rattle.script_lexer.specs.declared.tokens.Token.{Token}
use Rattle.script_lexer.specs.declared.tokens.Token.TheVariants as token
use Rattle.script_lexer.specs.declared.tokens.Symbol.{Symbol}
use Rattle.script_lexer.specs.declared.tokens.Symbol.TheVariants as symbol
use Rattle.script_lexer.specs.declared.tokens.Word.{Word}
use Rattle.script_lexer.specs.declared.tokens.Word.TheVariants as word
use Rattle.script_lexer.specs.Lexer.{lexed, end_of}
use Rattle.script_lexer.specs.TokenTexts.{Ends, IsLexed}
use Rattle.script_lexer.proofs.LexemeEnds.{find_passes}
use Rattle.script_lexer.proofs.Laws.{lexed_reads}
use Rattle.script_expressions.specs.TokenReaders.{◌>>=◌, Read}
use Rattle.script_expressions.specs.Tokens.{expected, name_at, taken, taken_word}
use Rattle.script_expressions.specs.Grammar.{IsSymbol, IsWord, IsEnclosedList}
use Rattle.script_expressions.proofs.Soundness.{bind_ok, ok_is, took, Sound}
use Rattle.script_expressions.proofs.CallLaws.{took_name, enclosed_list_sound}
use Rattle.script_parser.specs.declared.methods.TheConstants.{OPTIONS, KINDS}
use Rattle.script_parser.specs.Statements.{block}
use Rattle.script_parser.specs.Methods.{option_word, kind_word, option_found, kind_found, option_from, kind_from, option_at, kind_at, params_in, params_at, method_at}
use Rattle.script_parser.specs.Types.{more_parts_of, repeated, negative_from, number_at, symbol_initial, initial_from, initial_at, field_at, members_in, type_at}
use Rattle.script_parser.specs.Programs.{at_text_end, program_over, program_of}
use Rattle.script_parser.specs.Grammar.{OneName, IsMethod, method, IsInitial, positive, negative, worded, IsField, field, Many, none, one_more, IsBlock, IsType, type, IsProgram}
use Rattle.script_parser.proofs.Soundness.{took_next, block_sound}

-- ---- options and kinds

option_spelled : (s : List ℕ) (t : Spanned) (ts : List Spanned) (x : (TxnOption × ℕ) × List Spanned) (q : Option TxnOption) → t.token ≡ token.Name s → find (λ o. bytes_eq (option_word o) s) OPTIONS ≡ q → option_found (option_map (λ o. o) q) t.at ts ≡ Ok x → (u : Spanned) × ((t ∷ ts) ≡ u ∷ x.1) × (u.token ≡ token.Name (option_word x.0.0)) × (u.at ≡ x.0.1)
option_spelled s t ts x (Some o) k q e =
    let found : (TxnOption × ℕ) × List Spanned = ((o, t.at), ts) in
    let same : found ≡ x = ok_is found x e in
    let spelled : option_word o ≡ s = (bytes_eq-Decides (option_word o) s).0 (find_passes (λ r. bytes_eq (option_word r) s) OPTIONS o q) in
    subst (λ (y : (TxnOption × ℕ) × List Spanned). (u : Spanned) × ((t ∷ ts) ≡ u ∷ y.1) × (u.token ≡ token.Name (option_word y.0.0)) × (u.at ≡ y.0.1)) same (t, refl, k ∙ ap token.Name (sym spelled), refl)
option_spelled s t ts x None k q e = absurd cc

option_is : (k : Token) (t : Spanned) (ts : List Spanned) (x : (TxnOption × ℕ) × List Spanned) → t.token ≡ k → option_from k t.at ts ≡ Ok x → (u : Spanned) × ((t ∷ ts) ≡ u ∷ x.1) × (u.token ≡ token.Name (option_word x.0.0)) × (u.at ≡ x.0.1)
option_is (token.Name s) t ts x k e = option_spelled s t ts x (find (λ o. bytes_eq (option_word o) s) OPTIONS) k refl e
option_is (token.Word w) t ts x k e = absurd cc
option_is (token.Int n) t ts x k e = absurd cc
option_is (token.Text s) t ts x k e = absurd cc
option_is (token.Symbol s) t ts x k e = absurd cc

kind_spelled : (s : List ℕ) (t : Spanned) (ts : List Spanned) (x : MethodKind × List Spanned) (q : Option MethodKind) → t.token ≡ token.Name s → find (λ k. bytes_eq (kind_word k) s) KINDS ≡ q → kind_found (option_map (λ k. k) q) t.at ts ≡ Ok x → (u : Spanned) × ((t ∷ ts) ≡ u ∷ x.1) × (u.token ≡ token.Name (kind_word x.0))
kind_spelled s t ts x (Some o) k q e =
    let found : MethodKind × List Spanned = (o, ts) in
    let same : found ≡ x = ok_is found x e in
    let spelled : kind_word o ≡ s = (bytes_eq-Decides (kind_word o) s).0 (find_passes (λ r. bytes_eq (kind_word r) s) KINDS o q) in
    subst (λ (y : MethodKind × List Spanned). (u : Spanned) × ((t ∷ ts) ≡ u ∷ y.1) × (u.token ≡ token.Name (kind_word y.0))) same (t, refl, k ∙ ap token.Name (sym spelled))
kind_spelled s t ts x None k q e = absurd cc

kind_is : (k : Token) (t : Spanned) (ts : List Spanned) (x : MethodKind × List Spanned) → t.token ≡ k → kind_from k t.at ts ≡ Ok x → (u : Spanned) × ((t ∷ ts) ≡ u ∷ x.1) × (u.token ≡ token.Name (kind_word x.0))
kind_is (token.Name s) t ts x k e = kind_spelled s t ts x (find (λ o. bytes_eq (kind_word o) s) KINDS) k refl e
kind_is (token.Word w) t ts x k e = absurd cc
kind_is (token.Int n) t ts x k e = absurd cc
kind_is (token.Text s) t ts x k e = absurd cc
kind_is (token.Symbol s) t ts x k e = absurd cc

module _ (stop : ParseFault) where
  took_option : (ts : List Spanned) (x : (TxnOption × ℕ) × List Spanned) → option_at stop ts ≡ Ok x → (u : Spanned) × (ts ≡ u ∷ x.1) × (u.token ≡ token.Name (option_word x.0.0)) × (u.at ≡ x.0.1)
  unfolding option_at
  took_option [] x e = absurd cc
  took_option (t ∷ ts) x e = option_is t.token t ts x refl e

  took_kind : (ts : List Spanned) (x : MethodKind × List Spanned) → kind_at stop ts ≡ Ok x → (u : Spanned) × (ts ≡ u ∷ x.1) × (u.token ≡ token.Name (kind_word x.0))
  unfolding kind_at
  took_kind [] x e = absurd cc
  took_kind (t ∷ ts) x e = kind_is t.token t ts x refl e

  -- ---- methods

  params_in_sound : (depth : ℕ) (o : Spanned) (at : ℕ) (ts : List Spanned) (x : List Name × List Spanned) → IsSymbol o symbol.LeftParen → params_in stop depth at ts ≡ Ok x → (d : ℕ) × (depth ≡ suc d) × IsEnclosedList Name OneName (o ∷ ts) x.0 x.1
  params_in_sound zero o at ts x opens e = absurd cc
  params_in_sound (suc d) o at ts x opens e = (d, refl, enclosed_list_sound stop Name OneName (name_at stop) (took_name stop) o opens ts x (taken symbol.RightParen ts) refl e)

  params_sound : (depth : ℕ) (ts : List Spanned) (x : List Name × List Spanned) → params_at stop depth ts ≡ Ok x → (d : ℕ) × (depth ≡ suc d) × IsEnclosedList Name OneName ts x.0 x.1
  unfolding params_at
  params_sound depth ts x e =
      let o = bind_ok (expected stop symbol.LeftParen ts) (λ o. params_in stop depth o.0 o.1) x e in
      let t = took stop symbol.LeftParen ts o.0 o.1 in
      let k = params_in_sound depth t.token o.0.0 o.0.1 x t.symbol o.2 in
      (k.0, k.1, subst (λ (l : List Spanned). IsEnclosedList Name OneName l x.0 x.1) (sym t.is) k.2)

  -- parts that stand behind their word
  abbrev Behind : (A : Type 0) → Word → (List Spanned → A → List Spanned → Type 0) → Read A → Type 0
  Behind A w Is read = (t : Spanned) → IsWord t w → (ts : List Spanned) (x : A × List Spanned) → read ts ≡ Ok x → Is (t ∷ ts) x.0 x.1

  method_sound : (depth : ℕ) → Behind MethodTree word.Method (IsMethod depth) (method_at stop depth)
  unfolding method_at
  method_sound depth w is ts x e =
      let s1 = bind_ok (name_at stop ts) _ x e in
      let s2 = bind_ok (params_at stop depth s1.0.1) _ x s1.2 in
      let s3 = bind_ok (option_at stop s2.0.1) _ x s2.2 in
      let s4 = bind_ok (kind_at stop s3.0.1) _ x s3.2 in
      let s5 = bind_ok (block stop depth s4.0.1) _ x s4.2 in
      let n = took_name stop ts s1.0 s1.1 in
      let p = params_sound depth s1.0.1 s2.0 s2.1 in
      let o = took_option s2.0.1 s3.0 s3.1 in
      let k = took_kind s3.0.1 s4.0 s4.1 in
      let made : ℕ → MethodTree = λ at. record { name = s1.0.0; params = s2.0.0; option = s3.0.0.0; option_at = at; kind = s4.0.0; body = block_tree s5.0.0 } in
      let params : IsEnclosedList Name OneName s1.0.1 s2.0.0 (o.0 ∷ k.0 ∷ s4.0.1) = subst (λ (l : List Spanned). IsEnclosedList Name OneName s1.0.1 s2.0.0 l) (o.1 ∙ ap (λ (l : List Spanned). o.0 ∷ l) k.1) p.2 in
      let body : IsBlock (suc p.0) s4.0.1 (block_tree s5.0.0) s5.0.1 = subst (λ d. IsBlock d s4.0.1 (block_tree s5.0.0) s5.0.1) p.1 (block_sound stop depth s4.0.1 s5.0 s5.1) in
      let whole : IsMethod (suc p.0) (w ∷ n.0 ∷ s1.0.1) (made o.0.at) s5.0.1 = method p.0 w n.0 o.0 k.0 s1.0.0 s2.0.0 s3.0.0.0 s4.0.0 (block_tree s5.0.0) s1.0.1 s4.0.1 s5.0.1 is n.2 params o.2 k.2 body in
      let placed : IsMethod (suc p.0) (w ∷ n.0 ∷ s1.0.1) (made s3.0.0.1) s5.0.1 = subst (λ at. IsMethod (suc p.0) (w ∷ n.0 ∷ s1.0.1) (made at) s5.0.1) o.3 whole in
      subst (λ (y : MethodTree × List Spanned). IsMethod depth (w ∷ ts) y.0 y.1) (ok_is (made s3.0.0.1, s5.0.1) x s5.2)
      (subst (λ d. IsMethod d (w ∷ ts) (made s3.0.0.1) s5.0.1) (sym p.1) (subst (λ (l : List Spanned). IsMethod (suc p.0) (w ∷ l) (made s3.0.0.1) s5.0.1) (sym n.1) placed))

  -- ---- fields

  negative_sound : (m : Spanned) → IsSymbol m symbol.Minus → (k : Token) (t : Spanned) (ts : List Spanned) (x : Literal × List Spanned) → t.token ≡ k → negative_from k t.at ts ≡ Ok x → IsInitial (m ∷ t ∷ ts) x.0 x.1
  negative_sound m is (token.Int n) t ts x k e = subst (λ (y : Literal × List Spanned). IsInitial (m ∷ t ∷ ts) y.0 y.1) (ok_is _ x e) (negative m t n ts is k)
  negative_sound m is (token.Name s) t ts x k e = absurd cc
  negative_sound m is (token.Word w) t ts x k e = absurd cc
  negative_sound m is (token.Text s) t ts x k e = absurd cc
  negative_sound m is (token.Symbol s) t ts x k e = absurd cc

  number_sound : (m : Spanned) → IsSymbol m symbol.Minus → (ts : List Spanned) (x : Literal × List Spanned) → number_at stop ts ≡ Ok x → IsInitial (m ∷ ts) x.0 x.1
  unfolding number_at
  number_sound m is [] x e = absurd cc
  number_sound m is (t ∷ ts) x e = negative_sound m is t.token t ts x refl e

  symbol_initial_sound : (s : Symbol) (t : Spanned) → IsSymbol t s → (ts : List Spanned) (x : Literal × List Spanned) → symbol_initial stop s t.at ts ≡ Ok x → IsInitial (t ∷ ts) x.0 x.1
  symbol_initial_sound symbol.Minus t is ts x e = number_sound t is ts x e
  symbol_initial_sound _ t is ts x e = absurd cc

  initial_from_sound : (k : Token) (t : Spanned) (ts : List Spanned) (x : Literal × List Spanned) → t.token ≡ k → initial_from stop k t.at ts ≡ Ok x → IsInitial (t ∷ ts) x.0 x.1
  initial_from_sound (token.Int n) t ts x k e = subst (λ (y : Literal × List Spanned). IsInitial (t ∷ ts) y.0 y.1) (ok_is _ x e) (positive t n ts k)
  initial_from_sound (token.Text s) t ts x k e = subst (λ (y : Literal × List Spanned). IsInitial (t ∷ ts) y.0 y.1) (ok_is _ x e) (worded t s ts k)
  initial_from_sound (token.Symbol s) t ts x k e = symbol_initial_sound s t k ts x e
  initial_from_sound (token.Name s) t ts x k e = absurd cc
  initial_from_sound (token.Word w) t ts x k e = absurd cc

  initial_sound : Sound Literal IsInitial (initial_at stop)
  unfolding initial_at
  initial_sound [] x e = absurd cc
  initial_sound (t ∷ ts) x e = initial_from_sound t.token t ts x refl e

  field_sound : Behind FieldDecl word.Field IsField (field_at stop)
  unfolding field_at
  field_sound w is ts x e =
      let s1 = bind_ok (name_at stop ts) _ x e in
      let s2 = bind_ok (expected stop symbol.Assign s1.0.1) _ x s1.2 in
      let s3 = bind_ok (initial_at stop s2.0.1) _ x s2.2 in
      let s4 = bind_ok (expected stop symbol.Semicolon s3.0.1) _ x s3.2 in
      let n = took_name stop ts s1.0 s1.1 in
      let a = took stop symbol.Assign s1.0.1 s2.0 s2.1 in
      let z = took stop symbol.Semicolon s3.0.1 s4.0 s4.1 in
      let made : FieldDecl = record { name = s1.0.0; initial = s3.0.0 } in
      let value : IsInitial s2.0.1 s3.0.0 (z.token ∷ s4.0.1) = subst (λ (l : List Spanned). IsInitial s2.0.1 s3.0.0 l) z.is (initial_sound s2.0.1 s3.0 s3.1) in
      let here : ts ≡ n.0 ∷ a.token ∷ s2.0.1 = n.1 ∙ ap (λ (l : List Spanned). n.0 ∷ l) a.is in
      subst (λ (y : FieldDecl × List Spanned). IsField (w ∷ ts) y.0 y.1) (ok_is (made, s4.0.1) x s4.2)
      (subst (λ (l : List Spanned). IsField (w ∷ l) made s4.0.1) (sym here) (field w n.0 a.token z.token s1.0.0 s3.0.0 s2.0.1 s4.0.1 is n.2 a.symbol value z.symbol))

  -- ---- parts one after another

  more_sound : (A : Type 0) (w : Word) (Is : List Spanned → A → List Spanned → Type 0) (one : Read A) → Behind A w Is one → (rest : Read (List A)) → ((us : List Spanned) (y : List A × List Spanned) → rest us ≡ Ok y → Many A Is us y.0 y.1) → (ts : List Spanned) (x : List A × List Spanned) (q : Option (List Spanned)) → taken_word w ts ≡ q → more_parts_of one rest ts q ≡ Ok x → Many A Is ts x.0 x.1
  more_sound A w Is one ones rest rests ts x None q e = subst (λ (y : List A × List Spanned). Many A Is ts y.0 y.1) (ok_is ([], ts) x e) (none ts)
  more_sound A w Is one ones rest rests ts x (Some after) q e =
      let t = took_next w ts after q in
      let s = bind_ok (one after) (λ s. rest s.1 >>= λ r. Ok (s.0 ∷ r.0, r.1)) x e in
      let r = bind_ok (rest s.0.1) (λ r. Ok (s.0.0 ∷ r.0, r.1)) x s.2 in
      let first : Is ts s.0.0 s.0.1 = subst (λ (l : List Spanned). Is l s.0.0 s.0.1) (sym t.1) (ones t.0 t.2 after s.0 s.1) in
      subst (λ (y : List A × List Spanned). Many A Is ts y.0 y.1) (ok_is (s.0.0 ∷ r.0.0, r.0.1) x r.2) (one_more s.0.0 r.0.0 ts s.0.1 r.0.1 first (rests s.0.1 r.0 r.1))

  pub repeated_sound : (A : Type 0) (w : Word) (Is : List Spanned → A → List Spanned → Type 0) (one : Read A) → Behind A w Is one → (n : ℕ) (ts : List Spanned) (x : List A × List Spanned) → repeated w one n ts ≡ Ok x → Many A Is ts x.0 x.1
  unfolding repeated
  repeated_sound A w Is one ones zero ts x e = subst (λ (y : List A × List Spanned). Many A Is ts y.0 y.1) (ok_is ([], ts) x e) (none ts)
  repeated_sound A w Is one ones (suc n) ts x e = more_sound A w Is one ones (repeated w one n) (λ us y f. repeated_sound A w Is one ones n us y f) ts x (taken_word w ts) refl e

  -- ---- types

  pub type_sound : (depth : ℕ) → Behind TypeTree word.Type (IsType depth) (type_at stop depth)
  unfolding type_at
  type_sound zero w is ts x e =
      let s1 = bind_ok (name_at stop ts) _ x e in
      let s2 = bind_ok (expected stop symbol.LeftBrace s1.0.1) _ x s1.2 in
      absurd (let clash = s2.2 in cc)
  type_sound (suc depth) w is ts x e =
      let s1 = bind_ok (name_at stop ts) _ x e in
      let s2 = bind_ok (expected stop symbol.LeftBrace s1.0.1) _ x s1.2 in
      let s3 = bind_ok (members_in stop (suc depth) s2.0.0 s2.0.1) _ x s2.2 in
      let f = bind_ok (repeated word.Field (field_at stop) (length s2.0.1) s2.0.1) _ s3.0 s3.1 in
      let m = bind_ok (repeated word.Method (method_at stop depth) (length f.0.1) f.0.1) _ s3.0 f.2 in
      let c = bind_ok (expected stop symbol.RightBrace m.0.1) _ s3.0 m.2 in
      let n = took_name stop ts s1.0 s1.1 in
      let o = took stop symbol.LeftBrace s1.0.1 s2.0 s2.1 in
      let z = took stop symbol.RightBrace m.0.1 c.0 c.1 in
      let found : (List FieldDecl × List MethodTree) × List Spanned = ((f.0.0, m.0.0), c.0.1) in
      let same : found ≡ s3.0 = ok_is found s3.0 c.2 in
      let made : TypeTree = record { name = s1.0.0; fields = f.0.0; methods = m.0.0 } in
      let fields : Many FieldDecl IsField s2.0.1 f.0.0 f.0.1 = repeated_sound FieldDecl word.Field IsField (field_at stop) field_sound (length s2.0.1) s2.0.1 f.0 f.1 in
      let methods : Many MethodTree (IsMethod depth) f.0.1 m.0.0 (z.token ∷ c.0.1) = subst (λ (l : List Spanned). Many MethodTree (IsMethod depth) f.0.1 m.0.0 l) z.is (repeated_sound MethodTree word.Method (IsMethod depth) (method_at stop depth) (method_sound depth) (length f.0.1) f.0.1 m.0 m.1) in
      let here : ts ≡ n.0 ∷ o.token ∷ s2.0.1 = n.1 ∙ ap (λ (l : List Spanned). n.0 ∷ l) o.is in
      let whole : IsType (suc depth) (w ∷ n.0 ∷ o.token ∷ s2.0.1) made c.0.1 = type depth w n.0 o.token z.token s1.0.0 f.0.0 m.0.0 s2.0.1 f.0.1 c.0.1 is n.2 o.symbol fields methods z.symbol in
      let at_end : (TypeTree × List Spanned) = (record { name = s1.0.0; fields = s3.0.0.0; methods = s3.0.0.1 }, s3.0.1) in
      let moved : IsType (suc depth) (w ∷ n.0 ∷ o.token ∷ s2.0.1) at_end.0 at_end.1 = subst (λ (y : (List FieldDecl × List MethodTree) × List Spanned). IsType (suc depth) (w ∷ n.0 ∷ o.token ∷ s2.0.1) (record { name = s1.0.0; fields = y.0.0; methods = y.0.1 }) y.1) same whole in
      subst (λ (y : TypeTree × List Spanned). IsType (suc depth) (w ∷ ts) y.0 y.1) (ok_is at_end x s3.2)
      (subst (λ (l : List Spanned). IsType (suc depth) (w ∷ l) at_end.0 at_end.1) (sym here) moved)

-- ---- programs

finished_is : (stop : ParseFault) (ts : List Spanned) (x : Unit {0}) → at_text_end stop ts ≡ Ok x → (ts ≡ []) × ((at : ℕ) × (stop ≡ Unexpected at))
finished_is (Unexpected at) [] x e = (refl, (at, refl))
finished_is (BadToken at) [] x e = absurd cc
finished_is (TooDeep at) [] x e = absurd cc
finished_is Memory [] x e = absurd cc
finished_is stop (t ∷ ts) x e = absurd cc

end_if : (len valid at : ℕ) (b : Bool) → Unexpected at ≡ cond b (BadToken valid) (Unexpected len) → Unexpected at ≡ Unexpected len
end_if len valid at true e = absurd cc
end_if len valid at false e = e

stop_is_end : (end : ParseFault) (place : ℕ) (left : List ℕ) (at : ℕ) → Ends end place left (Unexpected at) → Unexpected at ≡ end
stop_is_end end place [] at e = e
stop_is_end end place (b ∷ bs) at e = absurd (let clash = e.1 in cc)

lexed_to_end : (text : List ℕ) (tokens : List Spanned) (at : ℕ) → IsLexed text tokens (Unexpected at) → IsLexed text tokens (Unexpected (length text))
lexed_to_end text tokens at l =
    let here : Unexpected at ≡ end_of (length text) (utf8_valid_len text) = stop_is_end (end_of (length text) (utf8_valid_len text)) l.place l.left at l.ends in
    subst (λ (f : ParseFault). IsLexed text tokens f) (end_if (length text) (utf8_valid_len text) at (nat_lt (utf8_valid_len text) (length text)) here) l

over_sound : (stop : ParseFault) (ts : List Spanned) (tree : ProgramTree) → program_over stop ts ≡ Ok tree → Many TypeTree (IsType 32) ts tree [] × ((at : ℕ) × (stop ≡ Unexpected at))
unfolding program_over
over_sound stop ts tree e =
    let s1 = bind_ok (repeated word.Type (type_at stop 32) (length ts) ts) _ tree e in
    let s2 = bind_ok (at_text_end stop s1.0.1) _ tree s1.2 in
    let f = finished_is stop s1.0.1 s2.0 s2.1 in
    let all : Many TypeTree (IsType 32) ts s1.0.0 [] = subst (λ (l : List Spanned). Many TypeTree (IsType 32) ts s1.0.0 l) f.0 (repeated_sound stop TypeTree word.Type (IsType 32) (type_at stop 32) (type_sound stop 32) (length ts) ts s1.0 s1.1) in
    (subst (λ (t : ProgramTree). Many TypeTree (IsType 32) ts t []) (ok_is s1.0.0 tree s2.2) all, f.1)

pub program_sound : (text : List ℕ) (tree : ProgramTree) → program_of text ≡ Ok tree → IsProgram text tree
program_sound text tree e =
    let s = over_sound (lexed text).1 (lexed text).0 tree e in
    let l : IsLexed text (lexed text).0 (Unexpected s.1.0) = subst (λ (f : ParseFault). IsLexed text (lexed text).0 f) s.1.1 (lexed_reads text) in
    record { tokens = (lexed text).0; lexed = lexed_to_end text (lexed text).0 s.1.0 l; types = s.0 }
