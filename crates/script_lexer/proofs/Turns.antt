-- Lexing one lexeme after the other.
use Rattle.std.proofs.Common.{◌≡◌, ℕ, zero, suc, ◌+◌, ◌<◌, ◌≤◌, List, [], ◌∷◌, ◌++◌, length, drop, get_or, refl, sym, ap, ◌∙◌, arith, append_assoc, length-drop}
use Rattle.std.proofs.lemmas.List.{append-nil, drop_more, drop-drop}
use Rattle.script_lexer.specs.declared.faults.ParseFault.{ParseFault}
use Rattle.script_lexer.specs.declared.faults.ParseFault.TheVariants.{BadToken}
use Rattle.script_lexer.specs.declared.tokens.Spanned.{Spanned}
use Rattle.script_lexer.specs.declared.tokens.Token.{Token}
use Rattle.script_lexer.specs.declared.lexemes.Lexeme.TheVariants.{Gap, Whole, Bad}
use Rattle.script_lexer.specs.Lexemes.{lexeme}
use Rattle.script_lexer.specs.Lexer.{TokensAndStop, in_front, lex_step, lex}

-- the rest of a lexeme is passed over
pub lex_skip : (stop : ParseFault) (at n : ℕ) (bs : List ℕ) → n ≤ length bs → lex stop at n bs ≡ lex stop (at + n) 0 (drop n bs)
unfolding lex
lex_skip stop at zero bs le = let e : at + 0 ≡ at = omega arith in rw e refl
lex_skip stop at (suc n) [] le = absurd (omega arith)
lex_skip stop at (suc n) (b ∷ bs) le = let e : at + suc n ≡ at + 1 + n = omega arith in rw e (lex_skip stop (at + 1) n bs (omega arith))

-- a lexeme at the front
pub lex_first : (stop : ParseFault) (at : ℕ) (b : ℕ) (bs : List ℕ) → lex stop at 0 (b ∷ bs) ≡ lex_step at (λ more. lex stop (at + 1) more bs) (lexeme b bs)
unfolding lex
lex_first stop at b bs = refl

-- at the end
pub lex_nil : (stop : ParseFault) (at : ℕ) (rest : List ℕ) → length rest ≡ 0 → lex stop at 0 rest ≡ ([], stop)
unfolding lex
lex_nil stop at [] e = refl
lex_nil stop at (b ∷ bs) e = absurd (omega arith)

-- what the text gives is what was found so far, before what the rest gives
pub record Reaches (stop : ParseFault) (text : List ℕ) (tokens : List Spanned) (at : ℕ) : Type 0 where
  pub within : at ≤ length text
  pub so_far : in_front tokens (lex stop at 0 (drop at text)) ≡ lex stop 0 0 text

module _ (stop : ParseFault) (text : List ℕ) where
  pub begins : Reaches stop text [] 0
  begins = record { within = omega arith; so_far = refl }

  -- the lexeme at this place
  here : (at : ℕ) → at < length text → lex stop at 0 (drop at text) ≡ lex_step at (λ more. lex stop (at + 1) more (drop (at + 1) text)) (lexeme (get_or text at 0) (drop (at + 1) text))
  here at lt = ap (lex stop at 0) (drop_more text at 0 lt) ∙ lex_first stop at (get_or text at 0) (drop (at + 1) text)

  -- the place behind it
  behind : (at more : ℕ) → at + more < length text → lex stop (at + 1) more (drop (at + 1) text) ≡ lex stop (at + (more + 1)) 0 (drop (at + (more + 1)) text)
  behind at more lt =
      let fits : more ≤ length (drop (at + 1) text) = omega (arith, length-drop (at + 1) text) in
      let place : at + 1 + more ≡ at + (more + 1) = omega arith in
      lex_skip stop (at + 1) more (drop (at + 1) text) fits ∙ rw (drop-drop more (at + 1) text, place) refl

  pub past_gap : (at more : ℕ) (tokens : List Spanned) → at + more < length text → lexeme (get_or text at 0) (drop (at + 1) text) ≡ Gap more → Reaches stop text tokens at → Reaches stop text tokens (at + (more + 1))
  past_gap at more tokens lt e r =
      let one : lex stop at 0 (drop at text) ≡ lex stop (at + (more + 1)) 0 (drop (at + (more + 1)) text) = here at (omega arith) ∙ ap (lex_step at (λ m. lex stop (at + 1) m (drop (at + 1) text))) e ∙ behind at more lt in
      record { within = omega arith; so_far = ap (in_front tokens) (sym one) ∙ r.so_far }

  pub past_token : (at more : ℕ) (tokens : List Spanned) (t : Token) → at + more < length text → lexeme (get_or text at 0) (drop (at + 1) text) ≡ Whole t more → Reaches stop text tokens at → Reaches stop text (tokens ++ record { token = t; at = at } ∷ []) (at + (more + 1))
  past_token at more tokens t lt e r =
      let s : Spanned = record { token = t; at = at } in
      let rest : TokensAndStop = lex stop (at + (more + 1)) 0 (drop (at + (more + 1)) text) in
      let one : lex stop at 0 (drop at text) ≡ in_front (s ∷ []) rest = here at (omega arith) ∙ ap (lex_step at (λ m. lex stop (at + 1) m (drop (at + 1) text))) e ∙ ap (in_front (s ∷ [])) (behind at more lt) in
      let grouped : in_front (tokens ++ s ∷ []) rest ≡ in_front tokens (in_front (s ∷ []) rest) = ap (λ (l : List Spanned). (l, rest.1)) (append_assoc tokens (s ∷ []) rest.0) in
      record { within = omega arith; so_far = grouped ∙ ap (in_front tokens) (sym one) ∙ r.so_far }

  pub ends_bad : (at : ℕ) (tokens : List Spanned) → at < length text → lexeme (get_or text at 0) (drop (at + 1) text) ≡ Bad → Reaches stop text tokens at → (tokens, BadToken at) ≡ lex stop 0 0 text
  ends_bad at tokens lt e r =
      let one : lex stop at 0 (drop at text) ≡ ([], BadToken at) = here at lt ∙ ap (lex_step at (λ m. lex stop (at + 1) m (drop (at + 1) text))) e in
      ap (λ (l : List Spanned). (l, BadToken at)) (sym (append-nil tokens)) ∙ ap (in_front tokens) (sym one) ∙ r.so_far

  pub ends : (at : ℕ) (tokens : List Spanned) → length text ≤ at → Reaches stop text tokens at → (tokens, stop) ≡ lex stop 0 0 text
  ends at tokens le r =
      let one : lex stop at 0 (drop at text) ≡ ([], stop) = lex_nil stop at (drop at text) (omega (arith, length-drop at text)) in
      ap (λ (l : List Spanned). (l, stop)) (sym (append-nil tokens)) ∙ ap (in_front tokens) (sym one) ∙ r.so_far
