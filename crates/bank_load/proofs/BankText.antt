-- The bank program of a load is a checked one: its text read as tokens, the tokens as types, and the types checked.
use Rattle.std.proofs.Common.{◌≡◌, ℕ, List, [], ◌∷◌, take, Ok, Err, None, Result, true, refl, ◌∙◌, ap, sym, lit<}
use Rattle.std.specs.Prelude.{Bool, false, is_none, length, slice_get, pos}
use Rattle.std.specs.Str.Lossy.{utf8_valid_len}
use Rattle.std.proofs.lemmas.Str.{utf8_valid_len-IsUtf8}
use Rattle.json.proofs.Printed.Utf8.{IsUtf8-are_ascii}
use Rattle.script_lexer.specs.declared.faults.ParseFault.{ParseFault}
use Rattle.script_lexer.specs.declared.faults.ParseFault.TheVariants.{Unexpected}
use Rattle.script_lexer.specs.Lexemes.{name_lexeme, number_lexeme, text_lexeme, symbol_lexeme, lexeme}
use Rattle.script_lexer.specs.Lexer.{TokensAndStop, lex, lexed, end_of}
use Rattle.script_tree.specs.Programs.{ProgramTree}
use Rattle.script_expressions.specs.Tokens.{expected, expected_word, name_at, spelling_at, taken, taken_word}
use Rattle.script_expressions.specs.Calls.{parenthesised, place_at, listed, arguments, call_at}
use Rattle.script_expressions.specs.Expressions.{operator_at, operand_chain, tiers, expression_over, enclosed_over, operand, expression, enclosed}
use Rattle.script_parser.specs.Statements.{source_at, let_at, assign_at, set_at, call_statement_at, return_at, fail_at, else_at, if_at, while_at, attempt_at, statement_over, statements, block}
use Rattle.script_parser.specs.Methods.{option_at, kind_at, params_at, method_at}
use Rattle.script_parser.specs.Types.{repeated, number_at, initial_at, field_at, type_at}
use Rattle.script_parser.specs.Programs.{program_over}
use Rattle.script_scopes.specs.Expressions.{expression_fault, arguments_fault, call_fault}
use Rattle.script_scopes.specs.Statements.{source_fault, statement_fault, block_fault}
use Rattle.script_check.specs.Programs.{each_fault, program_fault}
use Rattle.request_wire.specs.Names.{TypeNames, names_in}
use Rattle.script_parser.specs.Programs.{program_of}
use Rattle.promise_spec.specs.Programs.{Program, IsChecked}
use Rattle.base_types.specs.declared.calls.Value.{Value}
use Rattle.base_types.specs.declared.calls.Value.TheVariants.{Int}
use Rattle.script_meaning.specs.Play.{initial_of}
use Rattle.promise_spec.specs.Entries.{new_silo}
use Rattle.promise_spec.specs.Loads.{account, bank_text}
use Rattle.bank_load.specs.Banks.{bank_names}
use Rattle.core_laws.proofs.EventCases.{none-true}

size_is : length bank_text ≡ 1130
size_is = refl

-- the text is UTF-8 to its end
all_text : utf8_valid_len bank_text ≡ 1130
all_text = utf8_valid_len-IsUtf8 bank_text (IsUtf8-are_ascii bank_text refl)

-- types were read, and nothing is at fault in them
is_good : Result ProgramTree ParseFault → Bool
is_good (Ok types) = is_none (program_fault types)
is_good (Err fault) = false

-- the tokens of the text, and where they end
abbrev lexed_so : TokensAndStop
lexed_so = lex (Unexpected 1130) 0 0 bank_text

text_lexed : lexed bank_text ≡ lexed_so
unfolding lexed
text_lexed = ap (λ (n : ℕ). lex (end_of 1130 n) 0 0 (take n bank_text)) all_text

all_good : is_good (program_over lexed_so.1 lexed_so.0) ≡ true
unfolding is_good lex lexeme name_lexeme number_lexeme text_lexeme symbol_lexeme program_over repeated type_at field_at initial_at number_at method_at option_at kind_at params_at listed block statements statement_over source_at let_at assign_at set_at call_statement_at return_at fail_at else_at if_at while_at attempt_at expression operand expression_over enclosed_over enclosed tiers operand_chain operator_at expected expected_word name_at spelling_at taken taken_word parenthesised place_at arguments call_at program_fault each_fault expression_fault arguments_fault call_fault source_fault statement_fault block_fault
all_good = refl

-- the names of the types that were read
names_or_none : Result ProgramTree ParseFault → List TypeNames
names_or_none (Ok types) = names_in types
names_or_none (Err fault) = []

all_names : names_or_none (program_over lexed_so.1 lexed_so.0) ≡ bank_names
unfolding names_or_none lex lexeme name_lexeme number_lexeme text_lexeme symbol_lexeme program_over repeated type_at field_at initial_at number_at method_at option_at kind_at params_at listed block statements statement_over source_at let_at assign_at set_at call_statement_at return_at fail_at else_at if_at while_at attempt_at expression operand expression_over enclosed_over enclosed tiers operand_chain operator_at expected expected_word name_at spelling_at taken taken_word parenthesised place_at arguments call_at program_fault each_fault expression_fault arguments_fault call_fault source_fault statement_fault block_fault
all_names = refl

-- what was read without a fault is a program
read_types : (x : Result ProgramTree ParseFault) → is_good x ≡ true → (types : ProgramTree) × (x ≡ Ok types) × (program_fault types ≡ None)
unfolding is_good
read_types (Ok types) good = (types, refl, none-true (program_fault types) good)
read_types (Err fault) good = absurd (cc good)

text_read : program_of bank_text ≡ program_over lexed_so.1 lexed_so.0
text_read = ap (λ (l : TokensAndStop). program_over l.1 l.0) text_lexed

-- the text is that of a checked program
pub bank_is_checked : (p : Program) × IsChecked p × (p.text ≡ bank_text)
bank_is_checked =
    let t = read_types (program_over lexed_so.1 lexed_so.0) all_good in
    (record { text = bank_text; types = t.0 }, record { small = lit< tt; parsed = text_read ∙ t.1; checked = t.2 }, refl)

-- and each checked program of the text has these names
pub bank_is_named : (p : Program) → IsChecked p → p.text ≡ bank_text → names_in p.types ≡ bank_names
unfolding names_or_none
bank_is_named p checked same =
    let read : program_over lexed_so.1 lexed_so.0 ≡ Ok p.types = sym text_read ∙ ap program_of (sym same) ∙ checked.parsed in
    sym (ap names_or_none read) ∙ all_names

-- the initial fields of its first type
initial_or_none : Result ProgramTree ParseFault → List Value
initial_or_none (Ok types) = initial_of (slice_get types 0)
initial_or_none (Err fault) = []

first_initial : initial_or_none (program_over lexed_so.1 lexed_so.0) ≡ Int (pos 0) ∷ []
unfolding initial_or_none lex lexeme name_lexeme number_lexeme text_lexeme symbol_lexeme program_over repeated type_at field_at initial_at number_at method_at option_at kind_at params_at listed block statements statement_over source_at let_at assign_at set_at call_statement_at return_at fail_at else_at if_at while_at attempt_at expression operand expression_over enclosed_over enclosed tiers operand_chain operator_at expected expected_word name_at spelling_at taken taken_word parenthesised place_at arguments call_at
first_initial = refl

-- so an account of a new silo is empty
pub bank_is_empty : (p : Program) (k : ℕ) → IsChecked p → p.text ≡ bank_text → (new_silo p).states (account k) ≡ Int (pos 0) ∷ []
unfolding initial_or_none
bank_is_empty p k checked same =
    let read : program_over lexed_so.1 lexed_so.0 ≡ Ok p.types = sym text_read ∙ ap program_of (sym same) ∙ checked.parsed in
    sym (ap initial_or_none read) ∙ first_initial
