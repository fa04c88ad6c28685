-- The tokens of a text stand at rising places.
use Rattle.std.proofs.Common.{ℕ, ◌+◌, ◌≤◌, List, [], ◌∷◌, length, arith}
use Rattle.script_lexer.specs.declared.tokens.Spanned.{Spanned}
use Rattle.script_lexer.specs.TokenTexts.{Reads, done, gap, spelling}
use Rattle.script_lexer.proofs.FoundLexemes.{token_found}

-- each of these tokens stands at or above a bound, and before those behind it
abbrev pub Above : ℕ → List Spanned → Type 0
Above low [] = Unit {0}
Above low (t ∷ ts) = (low ≤ t.at) × Above (t.at + 1) ts

-- the same with a lower bound
pub above_less : (low high : ℕ) (ts : List Spanned) → low ≤ high → Above high ts → Above low ts
above_less low high [] le h = tt
above_less low high (t ∷ ts) le h = (let first : high ≤ t.at = h.0 in omega arith, h.1)

-- what is read stands at or above the place where it begins
pub reads_above : (at : ℕ) (bytes : List ℕ) (tokens : List Spanned) (place : ℕ) (left : List ℕ) → Reads at bytes tokens place left → Above at tokens
reads_above _ _ _ _ _ (done at left) = tt
reads_above _ _ _ _ _ (gap at end piece rest left tokens g r) = above_less at (at + length piece) tokens (omega arith) (reads_above (at + length piece) rest tokens end left r)
reads_above _ _ _ _ _ (spelling at end piece rest left tokens t s r) =
    let k = token_found t piece rest s in
    (omega arith, above_less (at + 1) (at + length piece) tokens (omega (arith, k.count)) (reads_above (at + length piece) rest tokens end left r))
