-- Where one more may be open, a program begins with the tokens before the one that a refusal names; within the limit
-- none begins with those up to it and with it.
use Rattle.std.proofs.Common.{◌≡◌, ℕ, ◌⊎◌, inl, inr, List, [], ◌∷◌, ◌++◌, Result, Ok, Err, Bool, true, false, cond, refl, sym, ap, subst, ◌∙◌, append_assoc, length}
use Rattle.std.specs.Prelude.{IfErr, nat_lt}
use Rattle.std.proofs.lemmas.List.{append-nil}
use Rattle.std.specs.Str.Lossy.{utf8_valid_len}
use Rattle.script_tree.specs.declared.programs.Program.{Program}
use Rattle.script_tree.specs.Programs.{TypeTree, ProgramTree, program_tree}
use Rattle.script_lexer.specs.declared.faults.ParseFault.{ParseFault}
use Rattle.script_lexer.specs.declared.faults.ParseFault.TheVariants.{BadToken, Unexpected, TooDeep, Memory}
use Rattle.script_lexer.specs.declared.tokens.Spanned.{Spanned}
use Rattle.script_lexer.specs.declared.tokens.Word.TheVariants as word
use Rattle.script_lexer.specs.Lexer.{lexed, end_of}
use Rattle.script_lexer.specs.TokenTexts.{Ends, IsLexed}
use Rattle.script_lexer.proofs.Laws.{lexed_reads}
use Rattle.script_expressions.specs.TokenReaders.{◌>>=◌, Part, FailsReading, Makes}
use Rattle.script_expressions.proofs.Soundness.{ok_is}
use Rattle.script_expressions.specs.Grammar.{IsOperator}
use Rattle.script_expressions.proofs.Locality.{Goes, Kept, Refused, Split}
use Rattle.script_parser.specs.Types.{repeated, type_at}
use Rattle.script_parser.specs.Programs.{at_text_end, program_over, program_of}
use Rattle.script_parser.specs.Refusals.{AreProgram, Begin, IsUnexpectedAt, Explains, IsRefusal}
use Rattle.script_parser.specs.Grammar.{IsType}
use Rattle.script_parser.proofs.SoundParts.{repeated_sound, type_sound}
use Rattle.script_parser.proofs.CompleteParts.{all_types_read}
use Rattle.script_parser.proofs.LocalPrograms.{IsEnd, types_local}

-- ---- what ends the tokens of a text

-- the text's end, or a byte that begins no token
abbrev EndsText : ParseFault → Type 0
EndsText (Unexpected at) = Unit {0}
EndsText (BadToken at) = Unit {0}
EndsText (TooDeep at) = ⊥
EndsText Memory = ⊥

end_ends : (len valid : ℕ) (b : Bool) → EndsText (cond b (BadToken valid) (Unexpected len))
end_ends len valid true = tt
end_ends len valid false = tt

stop_ends : (end : ParseFault) (place : ℕ) (left : List ℕ) (stop : ParseFault) → EndsText end → Ends end place left stop → EndsText stop
stop_ends end place [] stop h e = subst EndsText (sym e) h
stop_ends end place (b ∷ bs) stop h e = subst EndsText (sym e.1) tt

lexed_ends : (text : List ℕ) (tokens : List Spanned) (stop : ParseFault) → IsLexed text tokens stop → EndsText stop
lexed_ends text tokens stop l = stop_ends (end_of (length text) (utf8_valid_len text)) l.place l.left stop (end_ends (length text) (utf8_valid_len text) (nat_lt (utf8_valid_len text) (length text))) l.ends

module _ (stop : ParseFault) where
  -- the types that tokens begin with, where so many may be open
  abbrev types : ℕ → List Spanned → Part ProgramTree
  types depth ts = repeated word.Type (type_at stop depth) (length ts) ts

  -- an answer that is no program to the end of the tokens
  abbrev NoProgram : Part ProgramTree → Type 0
  NoProgram r = (all : ProgramTree) → let whole : Part ProgramTree = Ok (all, []) in r ≡ whole → ⊥

  -- tokens that aren't read to their end as types are no program
  none_of : (depth : ℕ) (ts : List Spanned) (tree : ProgramTree) (r : Part ProgramTree) → types depth ts ≡ r → NoProgram r → ¬ (AreProgram depth ts tree)
  none_of depth ts tree r e never is = never tree (sym e ∙ all_types_read stop depth ts tree is)

  -- tokens that are completed begin a program
  some_of : (front : List Spanned) → Goes ProgramTree IsEnd (types 33) front → Begin 33 front
  some_of front v = (v.more ++ [], v.part, repeated_sound stop TypeTree word.Type (IsType 33) (type_at stop 33) (type_sound stop 33) (length (front ++ (v.more ++ []))) (front ++ (v.more ++ [])) (v.part, []) (v.goes [] refl))

  -- so do tokens that were read before others
  some_read : (ts : List Spanned) (y : ProgramTree × List Spanned) (k : Kept ProgramTree IsEnd (types 32) (types 33) ts y) → Begin 33 k.pre
  some_read ts y k = some_of k.pre (record { more = []; part = y.0; goes = λ ws end. k.ends ws end })

  -- tokens that are refused whatever stands behind them begin none
  begin_none : (depth : ℕ) (before : List Spanned) (token : Spanned) → ((vs : List Spanned) → (r : Part ProgramTree) × (types depth (before ++ (token ∷ vs)) ≡ r) × NoProgram r) → ¬ (Begin depth (before ++ (token ∷ [])))
  begin_none depth before token always b =
      let k = always b.0 in
      none_of depth (before ++ (token ∷ b.0)) b.1 k.0 k.1 k.2 (subst (λ (l : List Spanned). AreProgram depth l b.1) (append_assoc before (token ∷ []) b.0) b.2)

  err_is_no_end : (e : ParseFault) → let failed : Part ProgramTree = Err e in NoProgram failed
  err_is_no_end e all h = cc

  rest_is_no_end : (tree : ProgramTree) (t : Spanned) (vs : List Spanned) → let part : Part ProgramTree = Ok (tree, t ∷ vs) in NoProgram part
  rest_is_no_end tree t vs all h =
      let part : ProgramTree × List Spanned = (tree, t ∷ vs) in
      let whole : ProgramTree × List Spanned = (all, []) in
      let same : t ∷ vs ≡ [] = ap (λ (y : ProgramTree × List Spanned). y.1) (ok_is part whole h) in
      absurd (let clash = same in cc)

  goes_further : (front : List Spanned) (t : Spanned) → Goes ProgramTree IsEnd (types 33) front ⊎ IsOperator t → Begin 33 front ⊎ IsOperator t
  goes_further front t (inl v) = inl (some_of front v)
  goes_further front t (inr o) = inr o

  -- where a token is refused
  explains_refused : (ts : List Spanned) (e : ParseFault) → Refused ProgramTree IsEnd (types 32) (types 33) ts e → Explains ts stop e
  explains_refused ts (Unexpected at) s = inl (record {
    here = record { before = s.before; token = s.token; after = s.after; are = s.is; place = s.place };
    begins = some_of s.before s.begun;
    ends = begin_none 33 s.before s.token (λ vs. (Err (Unexpected at), s.onward vs, err_is_no_end (Unexpected at)));
  })
  explains_refused ts (TooDeep at) s = record {
    here = record { before = s.before; token = s.token; after = s.after; are = s.is; place = s.place };
    begins = some_of s.before s.begun;
    ends = begin_none 32 s.before s.token (λ vs. (Err (TooDeep at), s.always vs, err_is_no_end (TooDeep at)));
    goes_on = goes_further (s.before ++ (s.token ∷ [])) s.token s.onward;
  }
  explains_refused ts (BadToken at) s = absurd s.place
  explains_refused ts Memory s = tt

  -- where a token stands behind a whole program
  explains_behind : (ts : List Spanned) (tree : ProgramTree) (t : Spanned) (us : List Spanned) → Kept ProgramTree IsEnd (types 32) (types 33) ts (tree, t ∷ us) → IsUnexpectedAt ts t.at
  explains_behind ts tree t us k = record {
    here = record { before = k.pre; token = t; after = us; are = k.is; place = refl };
    begins = some_read ts (tree, t ∷ us) k;
    ends = begin_none 33 k.pre t (λ vs. (Ok (tree, t ∷ vs), k.below (t ∷ vs) refl, rest_is_no_end tree t vs));
  }

  -- where the tokens ran out
  explains_end : (ts : List Spanned) (e : ParseFault) → EndsText e → stop ≡ e → Begin 33 ts → ((tree : ProgramTree) → ¬ (AreProgram 32 ts tree)) → Explains ts stop e
  explains_end ts (Unexpected at) h is some none = inr (is, some, none)
  explains_end ts (BadToken at) h is some none = (is, some)
  explains_end ts (TooDeep at) h is some none = absurd h
  explains_end ts Memory h is some none = absurd h

  -- what was read, then the end
  abbrev ended : Part ProgramTree → Result ProgramTree ParseFault
  ended r = r >>= λ x. at_text_end stop x.1 >>= λ end. Ok x.0

  -- nothing is left, and no program ends so
  explains_nothing : (ts : List Spanned) (tree : ProgramTree) (end e : ParseFault) → EndsText end → stop ≡ end → Begin 33 ts → (at_text_end end [] >>= λ done. Ok tree) ≡ Err e → Explains ts stop e
  explains_nothing ts tree (Unexpected at) e h is some f = absurd (let clash = f in cc)
  explains_nothing ts tree (BadToken at) e h is some f = let same : BadToken at ≡ e = cc in subst (Explains ts stop) same (is, some)
  explains_nothing ts tree (TooDeep at) e h is some f = absurd h
  explains_nothing ts tree Memory e h is some f = absurd h

  explains_read : (ts : List Spanned) (e : ParseFault) → EndsText stop → (r : Part ProgramTree) → types 32 ts ≡ r → Split stop ProgramTree IsEnd (types 32) (types 33) ts r → ended r ≡ Err e → Explains ts stop e
  explains_read ts e h (Err x) is (inl ran_out) f =
      let named : x ≡ e = cc in
      explains_end ts e (subst EndsText (sym ran_out.0 ∙ named) h) (sym ran_out.0 ∙ named) (some_of ts ran_out.1) (λ tree. none_of 32 ts tree (Err x) is (err_is_no_end x))
  explains_read ts e h (Err x) is (inr s) f = let named : x ≡ e = cc in subst (Explains ts stop) named (explains_refused ts x s)
  explains_read ts e h (Ok (tree, [])) is k f = explains_nothing ts tree stop e h refl (subst (Begin 33) (sym (append-nil k.pre) ∙ sym k.is) (some_read ts (tree, []) k)) f
  explains_read ts e h (Ok (tree, t ∷ us)) is k f =
      let named : Unexpected t.at ≡ e = cc in
      subst (Explains ts stop) named (inl (explains_behind ts tree t us k))

  over_refused : (ts : List Spanned) (e : ParseFault) → EndsText stop → program_over stop ts ≡ Err e → Explains ts stop e
  unfolding program_over
  over_refused ts e h f = explains_read ts e h (types 32 ts) refl ((types_local stop).split ts) f

-- ---- texts

refuses : (text : List ℕ) (e : ParseFault) → program_of text ≡ Err e → IsRefusal text e
refuses text e f =
    let l = lexed_reads text in
    record { tokens = (lexed text).0; stop = (lexed text).1; lexed = l; explains = over_refused (lexed text).1 (lexed text).0 e (lexed_ends text (lexed text).0 (lexed text).1 l) f }

fault_refuses : (text : List ℕ) (e : ParseFault) → FailsReading e (program_of text) → IsRefusal text e
fault_refuses text (Unexpected at) f = refuses text (Unexpected at) f
fault_refuses text (BadToken at) f = refuses text (BadToken at) f
fault_refuses text (TooDeep at) f = refuses text (TooDeep at) f
fault_refuses text Memory f = record { tokens = (lexed text).0; stop = (lexed text).1; lexed = lexed_reads text; explains = tt }

-- the same of what a function returned
pub if_refused : (text : List ℕ) (r : Result Program ParseFault) → Makes program_tree r (program_of text) → IfErr r (λ fault. IsRefusal text fault)
if_refused text (Ok made) e = tt
if_refused text (Err fault) e = fault_refuses text fault e
