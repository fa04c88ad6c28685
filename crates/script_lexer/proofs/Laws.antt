-- A text is lexed exactly as it reads.
use Rattle.std.proofs.Common.{◌≡◌, ℕ, zero, suc, ◌+◌, ◌≤◌, List, [], ◌∷◌, ◌++◌, length, take, drop, refl, sym, ap, subst, ◌∙◌, arith, length-drop, length-append}
use Rattle.std.specs.Prelude.{Result, Ok, Err, IfOk}
use Rattle.std.specs.Str.Lossy.{utf8_valid_len}
use Rattle.std.proofs.lemmas.List.{take-append-drop, drop_at, length-take-le, append-nil}
use Rattle.script_lexer.specs.declared.faults.ParseFault.{ParseFault}
use Rattle.script_lexer.specs.declared.tokens.Spanned.{Spanned}
use Rattle.script_lexer.specs.declared.lexer.Lexed.{Lexed}
use Rattle.script_lexer.specs.declared.lexemes.Lexeme.{Lexeme}
use Rattle.script_lexer.specs.declared.lexemes.Lexeme.TheVariants.{Gap, Whole, Bad}
use Rattle.script_lexer.specs.Lexemes.{lexeme, length_behind}
use Rattle.script_lexer.specs.Lexer.{TokensAndStop, in_front, lex_step, lex, lexed, end_of}
use Rattle.script_lexer.specs.TokenTexts.{Reads, done, gap, spelling, NothingBegins, Ends, IsLexed}
use Rattle.script_lexer.proofs.LexemeEnds.{lexeme_within}
use Rattle.script_lexer.proofs.Turns.{lex_skip, lex_first, lex_nil}
use Rattle.script_lexer.proofs.RightLexemes.{IsRight, lexeme_right}
use Rattle.script_lexer.proofs.FoundLexemes.{Begins, gap_found, token_found}

-- these tokens and this stop are read from a place on
record HasRead (stop : ParseFault) (at : ℕ) (bytes : List ℕ) (found : TokensAndStop) : Type 0 where
  place : ℕ
  left : List ℕ
  reads : Reads at bytes found.0 place left
  ends : Ends stop place left found.1

-- bytes that differ in their first or their others differ
first_is : (a b : ℕ) (xs ys : List ℕ) → a ∷ xs ≡ b ∷ ys → a ≡ b
first_is a b xs ys e = cc

others_are : (a b : ℕ) (xs ys : List ℕ) → a ∷ xs ≡ b ∷ ys → xs ≡ ys
others_are a b xs ys e = cc

begins_here : (b : ℕ) (bs piece rest : List ℕ) (found : ℕ → Lexeme) → b ∷ bs ≡ piece ++ rest → (k : Begins (piece ++ rest) (length piece) found) → lexeme b bs ≡ found k.more
begins_here b bs piece rest found e k =
    let same : b ∷ bs ≡ k.first ∷ k.others = e ∙ k.is in
    ap (λ c. lexeme c bs) (first_is b k.first bs k.others same) ∙ ap (lexeme k.first) (others_are b k.first bs k.others same) ∙ k.reads

-- where a lexeme is bad nothing begins
bad_begins : (b : ℕ) (bs : List ℕ) → lexeme b bs ≡ Bad → NothingBegins (b ∷ bs)
bad_begins b bs e piece rest is = (
  λ g. let clash : Bad ≡ Gap (gap_found piece rest g).more = sym e ∙ begins_here b bs piece rest Gap is (gap_found piece rest g) in absurd cc,
  λ t s. let clash : Bad ≡ Whole t (token_found t piece rest s).more = sym e ∙ begins_here b bs piece rest (λ more. Whole t more) is (token_found t piece rest s) in absurd cc,
)

-- and where nothing begins it is bad
nothing_is_bad : (b : ℕ) (bs : List ℕ) → NothingBegins (b ∷ bs) → (l : Lexeme) → lexeme b bs ≡ l → IsRight b bs l → l ≡ Bad
nothing_is_bad b bs n (Gap more) e right = absurd ((n (b ∷ take more bs) (drop more bs) (ap (λ (l : List ℕ). b ∷ l) (sym (take-append-drop more bs)))).0 right)
nothing_is_bad b bs n (Whole t more) e right = absurd ((n (b ∷ take more bs) (drop more bs) (ap (λ (l : List ℕ). b ∷ l) (sym (take-append-drop more bs)))).1 t right)
nothing_is_bad b bs n Bad e right = refl

module _ (stop : ParseFault) where
  -- ---- what is lexed is read

  turn : (at : ℕ) (b : ℕ) (bs : List ℕ) → ((a : ℕ) (xs : List ℕ) → length xs ≤ length bs → HasRead stop a xs (lex stop a 0 xs)) → (l : Lexeme) → lexeme b bs ≡ l → length_behind l ≤ length bs → IsRight b bs l → HasRead stop at (b ∷ bs) (lex_step at (λ more. lex stop (at + 1) more bs) l)
  turn at b bs rest (Gap more) e le right =
      let next = rest (at + 1 + more) (drop more bs) (omega (arith, length-drop more bs)) in
      let size : at + length (b ∷ take more bs) ≡ at + 1 + more = omega (arith, length-take-le more bs le) in
      let whole : b ∷ take more bs ++ drop more bs ≡ b ∷ bs = ap (λ (l : List ℕ). b ∷ l) (take-append-drop more bs) in
      let goes : lex stop (at + 1) more bs ≡ lex stop (at + 1 + more) 0 (drop more bs) = lex_skip stop (at + 1) more bs le in
      let found = lex stop (at + 1 + more) 0 (drop more bs) in
      let reads : Reads at (b ∷ bs) found.0 next.place next.left = subst (λ (l : List ℕ). Reads at l found.0 next.place next.left) whole (gap at next.place (b ∷ take more bs) (drop more bs) next.left found.0 right (subst (λ a. Reads a (drop more bs) found.0 next.place next.left) (sym size) next.reads)) in
      subst (λ (f : TokensAndStop). HasRead stop at (b ∷ bs) f) (sym goes) (record { place = next.place; left = next.left; reads = reads; ends = next.ends })
  turn at b bs rest (Whole t more) e le right =
      let next = rest (at + 1 + more) (drop more bs) (omega (arith, length-drop more bs)) in
      let size : at + length (b ∷ take more bs) ≡ at + 1 + more = omega (arith, length-take-le more bs le) in
      let whole : b ∷ take more bs ++ drop more bs ≡ b ∷ bs = ap (λ (l : List ℕ). b ∷ l) (take-append-drop more bs) in
      let goes : lex stop (at + 1) more bs ≡ lex stop (at + 1 + more) 0 (drop more bs) = lex_skip stop (at + 1) more bs le in
      let found = lex stop (at + 1 + more) 0 (drop more bs) in
      let s : Spanned = record { token = t; at = at } in
      let reads : Reads at (b ∷ bs) (s ∷ found.0) next.place next.left = subst (λ (l : List ℕ). Reads at l (s ∷ found.0) next.place next.left) whole (spelling at next.place (b ∷ take more bs) (drop more bs) next.left found.0 t right (subst (λ a. Reads a (drop more bs) found.0 next.place next.left) (sym size) next.reads)) in
      subst (λ (f : TokensAndStop). HasRead stop at (b ∷ bs) (s ∷ f.0, f.1)) (sym goes) (record { place = next.place; left = next.left; reads = reads; ends = next.ends })
  turn at b bs rest Bad e le right = record { place = at; left = b ∷ bs; reads = done at (b ∷ bs); ends = (bad_begins b bs e, refl) }

  has_read : (n : ℕ) (at : ℕ) (bytes : List ℕ) → length bytes ≤ n → HasRead stop at bytes (lex stop at 0 bytes)
  has_read n at [] le = subst (λ (f : TokensAndStop). HasRead stop at [] f) (sym (lex_nil stop at [] refl)) (record { place = at; left = []; reads = done at []; ends = refl })
  has_read zero at (b ∷ bs) le = absurd (omega arith)
  has_read (suc n) at (b ∷ bs) le =
      subst (λ (f : TokensAndStop). HasRead stop at (b ∷ bs) f) (sym (lex_first stop at b bs))
      (turn at b bs (λ a xs less. has_read n a xs (omega arith)) (lexeme b bs) refl (lexeme_within b bs) (lexeme_right b bs))

  -- ---- what is read is lexed

  past : (at : ℕ) (piece rest : List ℕ) (found : ℕ → Lexeme) → (k : Begins (piece ++ rest) (length piece) found) → lex stop at 0 (piece ++ rest) ≡ lex_step at (λ m. lex stop (at + 1) m k.others) (found k.more)
  past at piece rest found k = ap (lex stop at 0) k.is ∙ lex_first stop at k.first k.others ∙ ap (lex_step at (λ m. lex stop (at + 1) m k.others)) k.reads

  behind : (at : ℕ) (piece rest : List ℕ) (found : ℕ → Lexeme) → (k : Begins (piece ++ rest) (length piece) found) → lex stop (at + 1) k.more k.others ≡ lex stop (at + length piece) 0 rest
  behind at piece rest found k =
      let all : length piece + length rest ≡ suc (length k.others) = sym (length-append piece rest) ∙ ap length k.is in
      let fits : k.more ≤ length k.others = omega (arith, k.count) in
      let place : at + 1 + k.more ≡ at + length piece = omega (arith, k.count) in
      let left : drop k.more k.others ≡ rest = ap (drop (suc k.more)) (sym k.is) ∙ drop_at piece rest (suc k.more) k.count in
      lex_skip stop (at + 1) k.more k.others fits ∙ ap (λ (l : List ℕ). lex stop (at + 1 + k.more) 0 l) left ∙ ap (λ a. lex stop a 0 rest) place

  is_lexed : (at : ℕ) (bytes : List ℕ) (tokens : List Spanned) (place : ℕ) (left : List ℕ) → Reads at bytes tokens place left → lex stop at 0 bytes ≡ in_front tokens (lex stop place 0 left)
  is_lexed _ _ _ _ _ (done at left) = refl
  is_lexed _ _ _ _ _ (gap at end piece rest left tokens g r) =
      let k = gap_found piece rest g in
      past at piece rest Gap k ∙ behind at piece rest Gap k ∙ is_lexed (at + length piece) rest tokens end left r
  is_lexed _ _ _ _ _ (spelling at end piece rest left tokens t s r) =
      let k = token_found t piece rest s in
      let one : Spanned = record { token = t; at = at } in
      past at piece rest (λ more. Whole t more) k ∙ ap (in_front (one ∷ [])) (behind at piece rest (λ more. Whole t more) k ∙ is_lexed (at + length piece) rest tokens end left r)

  at_end : (place : ℕ) (left : List ℕ) (answer : ParseFault) → Ends stop place left answer → lex stop place 0 left ≡ ([], answer)
  at_end place [] answer e = lex_nil stop place [] refl ∙ ap (λ (f : ParseFault). ([], f)) (sym e)
  at_end place (b ∷ bs) answer e =
      let bad : lexeme b bs ≡ Bad = nothing_is_bad b bs e.0 (lexeme b bs) refl (lexeme_right b bs) in
      lex_first stop place b bs ∙ ap (lex_step place (λ m. lex stop (place + 1) m bs)) bad ∙ ap (λ (f : ParseFault). ([], f)) (sym e.1)

-- ---- texts

pub lexed_reads : (text : List ℕ) → IsLexed text (lexed text).0 (lexed text).1
unfolding lexed
lexed_reads text =
    let front = take (utf8_valid_len text) text in
    let r = has_read (end_of (length text) (utf8_valid_len text)) (length front) 0 front (omega arith) in
    record { place = r.place; left = r.left; reads = r.reads; ends = r.ends }

pub reads_lexed : (text : List ℕ) (tokens : List Spanned) (stop : ParseFault) → IsLexed text tokens stop → lexed text ≡ (tokens, stop)
unfolding lexed
reads_lexed text tokens stop r =
    let end = end_of (length text) (utf8_valid_len text) in
    is_lexed end 0 (take (utf8_valid_len text) text) tokens r.place r.left r.reads ∙ ap (in_front tokens) (at_end end r.place r.left stop r.ends) ∙ ap (λ (l : List Spanned). (l, stop)) (append-nil tokens)

-- the same of what a function returned
pub if_spelled : {E : Type 0} (text : List ℕ) (r : Result Lexed E) → IfOk r (λ found. (found.tokens.items, found.stop) ≡ lexed text) → IfOk r (λ found. IsLexed text found.tokens.items found.stop)
if_spelled text (Ok found) e = subst (λ (f : TokensAndStop). IsLexed text f.0 f.1) (sym e) (lexed_reads text)
if_spelled text (Err f) e = tt

pub if_only : {E : Type 0} (text : List ℕ) (tokens : List Spanned) (stop : ParseFault) → IsLexed text tokens stop → (r : Result Lexed E) → IfOk r (λ found. (found.tokens.items, found.stop) ≡ lexed text) → IfOk r (λ found. (found.tokens.items ≡ tokens) × (found.stop ≡ stop))
if_only text tokens stop is (Ok found) e =
    let same = e ∙ reads_lexed text tokens stop is in
    (ap (λ (f : TokensAndStop). f.0) same, ap (λ (f : TokensAndStop). f.1) same)
if_only text tokens stop is (Err f) e = tt
