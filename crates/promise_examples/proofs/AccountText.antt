-- The program of the accounts is a checked one: its text read as tokens, the tokens as types, and the types checked.
use Rattle.std.proofs.Common.{◌≡◌, ℕ, List, [], ◌∷◌, take, Ok, None, pos, refl, ◌∙◌, ap, lit<}
use Rattle.std.specs.Prelude.{codes}
use Rattle.std.specs.Str.Lossy.{utf8_valid_len}
use Rattle.std.proofs.lemmas.Str.{utf8_valid_len-IsUtf8}
use Rattle.json.proofs.Printed.Utf8.{IsUtf8-are_ascii}
use Rattle.script_lexer.specs.declared.faults.ParseFault.TheVariants.{Unexpected}
use Rattle.script_lexer.specs.declared.tokens.Spanned.{Spanned}
use Rattle.script_lexer.specs.declared.tokens.Token.{Token}
use Rattle.script_lexer.specs.declared.tokens.Token.TheVariants as token
use Rattle.script_lexer.specs.declared.tokens.Symbol.TheVariants as symbol
use Rattle.script_lexer.specs.declared.tokens.Word.TheVariants as word
use Rattle.script_lexer.specs.Lexemes.{name_lexeme, number_lexeme, text_lexeme, symbol_lexeme, lexeme}
use Rattle.script_lexer.specs.Lexer.{TokensAndStop, lex, lexed, end_of}
use Rattle.script_expressions.specs.Tokens.{expected, name_at, taken, taken_word}
use Rattle.script_expressions.specs.Calls.{listed}
use Rattle.script_expressions.specs.Expressions.{operator_at, operand_chain, tiers, expression_over, operand, expression}
use Rattle.script_parser.specs.Statements.{set_at, return_at, statement_over, statements, block}
use Rattle.script_parser.specs.Methods.{option_at, kind_at, params_at, method_at}
use Rattle.script_parser.specs.Types.{repeated, initial_at, field_at, type_at}
use Rattle.script_parser.specs.Programs.{program_over}
use Rattle.script_scopes.specs.Expressions.{expression_fault}
use Rattle.script_scopes.specs.Statements.{statement_fault, block_fault}
use Rattle.script_check.specs.Programs.{each_fault, program_fault}
use Rattle.promise_spec.specs.Programs.{IsChecked}
use Rattle.promise_examples.specs.Examples.{account_text, accounts, account_program}

-- a token at a place
abbrev at : ℕ → Token → Spanned
at place t = record { token = t; at = place }

-- the tokens of the text
abbrev tokens : List Spanned
tokens =
    at 0 (token.Word word.Type) ∷ at 5 (token.Name (codes "account")) ∷ at 13 (token.Symbol symbol.LeftBrace)
    ∷ at 17 (token.Word word.Field) ∷ at 23 (token.Name (codes "balance")) ∷ at 31 (token.Symbol symbol.Assign) ∷ at 33 (token.Int (pos 0)) ∷ at 34 (token.Symbol symbol.Semicolon)
    ∷ at 38 (token.Word word.Method) ∷ at 45 (token.Name (codes "deposit")) ∷ at 52 (token.Symbol symbol.LeftParen) ∷ at 53 (token.Name (codes "n")) ∷ at 54 (token.Symbol symbol.RightParen)
    ∷ at 56 (token.Name (codes "createorjoin")) ∷ at 69 (token.Name (codes "update")) ∷ at 76 (token.Symbol symbol.LeftBrace)
    ∷ at 78 (token.Word word.Set) ∷ at 82 (token.Name (codes "balance")) ∷ at 90 (token.Symbol symbol.Assign) ∷ at 92 (token.Name (codes "balance")) ∷ at 100 (token.Symbol symbol.Plus) ∷ at 102 (token.Name (codes "n")) ∷ at 103 (token.Symbol symbol.Semicolon)
    ∷ at 105 (token.Word word.Return) ∷ at 112 (token.Name (codes "balance")) ∷ at 119 (token.Symbol symbol.Semicolon) ∷ at 121 (token.Symbol symbol.RightBrace)
    ∷ at 125 (token.Word word.Method) ∷ at 132 (token.Name (codes "read")) ∷ at 136 (token.Symbol symbol.LeftParen) ∷ at 137 (token.Symbol symbol.RightParen)
    ∷ at 139 (token.Name (codes "createorjoin")) ∷ at 152 (token.Name (codes "read")) ∷ at 157 (token.Symbol symbol.LeftBrace)
    ∷ at 159 (token.Word word.Return) ∷ at 166 (token.Name (codes "balance")) ∷ at 173 (token.Symbol symbol.Semicolon) ∷ at 175 (token.Symbol symbol.RightBrace)
    ∷ at 177 (token.Symbol symbol.RightBrace) ∷ []

-- the text is UTF-8 to its end
all_text : utf8_valid_len account_text ≡ 179
all_text = utf8_valid_len-IsUtf8 account_text (IsUtf8-are_ascii account_text refl)

-- the tokens of the text, and where they end
lexed_so : lex (Unexpected 179) 0 0 account_text ≡ (tokens, Unexpected 179)
unfolding lex lexeme name_lexeme number_lexeme text_lexeme symbol_lexeme
lexed_so = refl

text_lexed : lexed account_text ≡ (tokens, Unexpected 179)
unfolding lexed
text_lexed = ap (λ (n : ℕ). lex (end_of 179 n) 0 0 (take n account_text)) all_text ∙ lexed_so

-- the types of the tokens
tokens_parsed : program_over (Unexpected 179) tokens ≡ Ok accounts
unfolding program_over repeated type_at field_at initial_at method_at option_at kind_at params_at listed block statements statement_over set_at return_at expression operand expression_over tiers operand_chain operator_at expected name_at taken taken_word
tokens_parsed = refl

-- nothing is at fault in them
no_fault : program_fault accounts ≡ None
unfolding program_fault each_fault expression_fault statement_fault block_fault
no_fault = refl

pub account_is_checked : IsChecked account_program
account_is_checked = record {
  small = lit< tt;
  parsed = ap (λ (l : TokensAndStop). program_over l.1 l.0) text_lexed ∙ tokens_parsed;
  checked = no_fault;
}
