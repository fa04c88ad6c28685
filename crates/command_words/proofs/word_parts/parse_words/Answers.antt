use Rattle.std.proofs.Common.{◌≡◌, ◌∙◌, sym, ap, subst, true≢false, [], drop}
use Rattle.clap.specs.Simple.{App, app_of, is_simple, matches_of}
use Rattle.clap.specs.Walk.{rows_of}
use Rattle.clap.specs.Faults.{fault_of, is_simple_and_free}
use Rattle.clap.specs.Kinds.{HasKind}
use Rattle.clap.specs.Matches.{found_of}
use Rattle.command_words.specs.CutParts.{texts_of}
use Rattle.command_words.proofs.ClapWalk.{app_is_simple, app_is_free}
use Rattle.command_words.proofs.CutFacts.{some_stray, taken, refused}
use Rattle.command_words.proofs.word_parts.parse_words.Goals as goal

pub returns-then-has_stray-clause-bad_use : goal.returns-then-has_stray-clause-bad_use
returns-then-has_stray-clause-bad_use c = λ e parts h. some_stray (drop 1 (texts_of c.args.words.now)) (sym c.has_stray.ensures ∙ c.if-has_stray.true) h.usual

pub returns-in-Ok-clause-parts : goal.returns-in-Ok-clause-parts
returns-in-Ok-clause-parts c =
    let app = c.in_ok-command.ensures in
    let well : fault_of (app_of c.in_ok-command.command) (texts_of c.args.words.now) ≡ [] = c.in-Ok.ensures.kinds (ap is_simple_and_free app ∙ app_is_free) in
    let rows = (c.in-Ok.ensures.matches (ap is_simple app ∙ app_is_simple)).0 in
    taken (texts_of c.args.words.now) (found_of c.in-Ok.matches) (sym c.has_stray.ensures ∙ c.if-has_stray.false)
    (subst (λ (a : App). fault_of a (texts_of c.args.words.now) ≡ []) app well)
    (subst (λ (a : App). rows_of (found_of c.in-Ok.matches) ≡ matches_of a (texts_of c.args.words.now)) app rows)

pub returns-else-eq-clause-bad_use : goal.returns-else-eq-clause-bad_use
returns-else-eq-clause-bad_use c = λ e parts h.
    let app = c.in_ok-command.ensures in
    let has : HasKind (fault_of (app_of c.in_ok-command.command) (texts_of c.args.words.now)) c.in-Err.error = c.in-Err.ensures.kinds (ap is_simple_and_free app ∙ app_is_free) in
    refused (texts_of c.args.words.now) c.in-Err.error
    (subst (λ (a : App). HasKind (fault_of a (texts_of c.args.words.now)) c.in-Err.error) app has)
    (λ m. true≢false (sym (rw (c.kind.ensures ∙ m) at c.if-eq.ensures)))
    parts h
