-- A text that is UTF-8 is lexed to its end.
use Rattle.std.proofs.Common.{◌≡◌, ℕ, List, length, refl, arith, false, IsUtf8}
use Rattle.std.specs.Prelude.{nat_lt}
use Rattle.std.specs.Str.Lossy.{utf8_valid_len}
use Rattle.std.proofs.lemmas.Str.{utf8_valid_len-IsUtf8}
use Rattle.std.proofs.lemmas.Bool.{le-ltb}
use Rattle.std.proofs.Math.Seq.{take-length}
use Rattle.script_lexer.specs.declared.faults.ParseFault.TheVariants.{Unexpected}
use Rattle.script_lexer.specs.Lexer.{lex, lexed}

pub lexed_text : (text : List ℕ) → IsUtf8 text → lexed text ≡ lex (Unexpected (length text)) 0 0 text
unfolding lexed
lexed_text text h =
    let e : utf8_valid_len text ≡ length text = utf8_valid_len-IsUtf8 text h in
    let n : nat_lt (length text) (length text) ≡ false = le-ltb _ _ (omega arith) in
    rw (e, n, take-length text) refl
