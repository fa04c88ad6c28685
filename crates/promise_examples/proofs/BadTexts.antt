-- What a folder reads as whose program file has a text that is no program.
use Rattle.std.proofs.Common.{◌≡◌, ℕ, true, List, take, length, Err, refl, ◌∙◌, ap, arith}
use Rattle.std.specs.Prelude.{codes}
use Rattle.std.specs.Str.Lossy.{utf8_valid_len}
use Rattle.std.proofs.lemmas.List.{take_all}
use Rattle.std.proofs.lemmas.Str.{utf8_valid_len-IsUtf8}
use Rattle.json.proofs.Printed.Utf8.{are_ascii, IsUtf8-are_ascii}
use Rattle.script_lexer.specs.Lexemes.{name_lexeme, number_lexeme, text_lexeme, symbol_lexeme, lexeme}
use Rattle.script_lexer.specs.Lexer.{TokensAndStop, lex, lexed, end_of}
use Rattle.script_expressions.specs.Tokens.{expected, name_at, taken, taken_word}
use Rattle.script_expressions.specs.Calls.{listed}
use Rattle.script_expressions.specs.Expressions.{operator_at, operand_chain, tiers, expression_over, operand, expression}
use Rattle.script_parser.specs.Statements.{set_at, return_at, statement_over, statements, block}
use Rattle.script_parser.specs.Methods.{option_at, kind_at, params_at, method_at}
use Rattle.script_parser.specs.Types.{repeated, initial_at, field_at, type_at}
use Rattle.script_parser.specs.Programs.{program_over}
use Rattle.script_scopes.specs.Expressions.{expression_fault}
use Rattle.script_scopes.specs.Statements.{statement_fault, block_fault}
use Rattle.script_check.specs.Programs.{each_fault, program_fault}
use Rattle.silo_spec.specs.Silos.{program_file}
use Rattle.field_codec.specs.declared.formats.Format.TheVariants.{Two}
use Rattle.promise_spec.specs.Programs.{checked_in, program_in}
use Rattle.promise_spec.specs.Openings.{Reading, DamagedAt, with_types, with_program, opened_as}
use Rattle.promise_examples.specs.Readings.{program_folder, program_with}
use Rattle.promise_examples.specs.WrittenInit.{cut_text, cut_fault}

-- the tokens of a text of ASCII
text_lexed : (text : List ℕ) → are_ascii text ≡ true → lexed text ≡ lex (end_of (length text) (length text)) 0 0 text
unfolding lexed
text_lexed text ascii =
    let all : utf8_valid_len text ≡ length text = utf8_valid_len-IsUtf8 text (IsUtf8-are_ascii text ascii) in
    ap (λ (n : ℕ). lex (end_of (length text) n) 0 0 (take n text)) all
    ∙ ap (λ (l : List ℕ). lex (end_of (length text) (length text)) 0 0 l) (take_all (length text) text (omega arith))

-- what a program file of such a text reads as
abbrev of_tokens : List ℕ → TokensAndStop → Reading
of_tokens text found = with_program Two 0 (program_folder (program_with text)) (with_types text (checked_in (program_over found.1 found.0)))

-- what the texts read as
pub record Texts : Type 0 where
  pub bad_token : opened_as (program_folder (program_with (codes "type A { }"))) ≡ DamagedAt program_file 9
  pub unexpected : opened_as (program_folder (program_with (codes "type a { field x = 01; }"))) ≡ DamagedAt program_file 24
  pub ended : opened_as (program_folder (program_with (codes "type a {"))) ≡ DamagedAt program_file 12
  pub twice : opened_as (program_folder (program_with (codes "type a { } type a { }"))) ≡ DamagedAt program_file 20

pub texts_read : Texts
unfolding lex lexeme name_lexeme number_lexeme text_lexeme symbol_lexeme program_over repeated type_at field_at initial_at method_at option_at kind_at params_at listed block statements statement_over set_at return_at expression operand expression_over tiers operand_chain operator_at expected name_at taken taken_word program_fault each_fault expression_fault statement_fault block_fault
texts_read = record {
  bad_token = ap (λ (l : TokensAndStop). of_tokens (codes "type A { }") l) (text_lexed (codes "type A { }") refl);
  unexpected = ap (λ (l : TokensAndStop). of_tokens (codes "type a { field x = 01; }") l) (text_lexed (codes "type a { field x = 01; }") refl);
  ended = ap (λ (l : TokensAndStop). of_tokens (codes "type a {") l) (text_lexed (codes "type a {") refl);
  twice = ap (λ (l : TokensAndStop). of_tokens (codes "type a { } type a { }") l) (text_lexed (codes "type a { } type a { }") refl);
}

-- a type whose closing brace is missing ends too early
pub cut_is_no_program : program_in cut_text ≡ Err cut_fault
unfolding lex lexeme name_lexeme number_lexeme text_lexeme symbol_lexeme program_over repeated type_at field_at initial_at method_at option_at kind_at params_at listed block statements statement_over set_at return_at expression operand expression_over tiers operand_chain operator_at expected name_at taken taken_word program_fault each_fault expression_fault statement_fault block_fault
cut_is_no_program = ap (λ (found : TokensAndStop). checked_in (program_over found.1 found.0)) (text_lexed cut_text refl)
