-- The command that `clap` reads, and what its matches say.
use Rattle.std.specs.Prelude.{◌≡◌, ℕ, true, List, [], Some, codes, unwrap_or, option_map}
use Rattle.clap.specs.Walk.{Rule}
use Rattle.clap.specs.Simple.{App, Shape, new_rule, new_app, on_top, with_rule}
use Rattle.clap.specs.Matches.{matched_of, raw_values}
use Rattle.clap.specs.declared.parser.matches.Found.{Found}
use Rattle.clap.specs.declared.builder.action.ArgAction.TheVariants.{Append}
use Rattle.command_words.specs.Parts.{OptionName, bare_name, WordPart, option_values, number_words}

-- an option, and the words that are none
abbrev pub option_rule : List ℕ → Rule
option_rule name = record (new_rule name) { long = Some name; action = Some Append }

-- the words that are no option: as many as there are, each kept
abbrev pub number_rule : Rule
number_rule = record (new_rule (codes "number")) { action = Some Append }

-- the command: three options, which keep each value that they are given, and words that are no option; no help and no version
abbrev pub no_help : Shape → Shape
no_help s = record s { disable_help_flag = true }

-- the command `silo`, with its three options and the words that are none
abbrev pub silo_app : App
silo_app = with_rule (with_rule (with_rule (with_rule (on_top no_help (new_app (codes "silo")))
    (option_rule (codes "width"))) (option_rule (codes "turns"))) (option_rule (codes "workers"))) number_rule

-- the values of an argument in clap's matches
abbrev pub matched_values : Found → List ℕ → List (List ℕ)
matched_values found id = unwrap_or (option_map raw_values (matched_of found id)) []

-- the matches say these parts
pub record SaysParts (found : Found) (parts : List WordPart) : Type 0 where
  pub options : (name : OptionName) → matched_values found (bare_name name) ≡ option_values name parts
  pub numbers : matched_values found (codes "number") ≡ number_words parts
