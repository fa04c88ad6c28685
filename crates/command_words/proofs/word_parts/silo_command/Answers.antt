use Rattle.std.proofs.Common.{◌≡◌, ◌∙◌, ap, codes, Result, Ok, Err, IfOk}
use Rattle.clap.specs.Walk.{Rule, rule_of}
use Rattle.clap.specs.Simple.{App, app_of, app_of_fields, with_rule, on_top, new_app}
use Rattle.command_words.specs.Clap.{option_rule, number_rule, silo_app, no_help}
use Rattle.command_words.proofs.word_parts.silo_command.Goals as goal

-- what a success says says more
then_ok : {X Y : Type 0} {P : X → Type 0} (r : Result X Y) (Q : X → Type 0) → IfOk r P → ((x : X) → P x → Q x) → IfOk r Q
then_ok (Ok x) Q p f = f x p
then_ok (Err y) Q p f = tt

pub returns : goal.returns
returns c =
    let begun : app_of c.disable_help_flag-command.result ≡ on_top no_help (new_app (codes "silo")) = ap app_of_fields c.disable_help_flag-command.ensures ∙ ap (on_top no_help) c.new.ensures.app in
    let width : app_of c.in_ok-command.command ≡ with_rule (on_top no_help (new_app (codes "silo"))) (option_rule (codes "width")) = c.in_ok-command.ensures.shape c.option_arg.ensures.local ∙ (λ i. with_rule (begun i) (c.option_arg.ensures.rule i)) in
    let turns : app_of c.in_ok-command-2.command ≡ with_rule (with_rule (on_top no_help (new_app (codes "silo"))) (option_rule (codes "width"))) (option_rule (codes "turns")) = c.in_ok-command-2.ensures.shape c.option_arg-2.ensures.local ∙ (λ i. with_rule (width i) (c.option_arg-2.ensures.rule i)) in
    let workers : app_of c.in_ok-command-3.command ≡ with_rule (with_rule (with_rule (on_top no_help (new_app (codes "silo"))) (option_rule (codes "width"))) (option_rule (codes "turns"))) (option_rule (codes "workers")) = c.in_ok-command-3.ensures.shape c.option_arg-3.ensures.local ∙ (λ i. with_rule (turns i) (c.option_arg-3.ensures.rule i)) in
    then_ok c.arg-4.result (λ command. app_of command ≡ silo_app) c.arg-4.ensures (λ made adds. adds.shape c.number_arg.ensures.local ∙ (λ i. with_rule (workers i) (c.number_arg.ensures.rule i)))
