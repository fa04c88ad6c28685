use Rattle.std.proofs.Common.{◌∙◌, sym, codes}
use Rattle.command_words.specs.CutParts.{texts_of}
use Rattle.command_words.specs.declared.faults.WordsFault.TheVariants as WordsFault
use Rattle.command_words.proofs.Commands.{same_fault, run_said, load_said, check_said, only_word, run_unsaid, load_unsaid, check_unsaid}
use Rattle.command_words.proofs.command_reader.read_words.Goals as goal

pub returns-in_err-read_run-clause-bad_use : goal.returns-in_err-read_run-clause-bad_use
returns-in_err-read_run-clause-bad_use c = λ e. run_unsaid (texts_of c.args.words.now) (sym c.first_is.ensures ∙ c.if-first_is.true)
    (c.in_err-read_run.ensures.bad_use (same_fault c.from_residual.result c.in_err-read_run.field-0.0 WordsFault.BadUse c.from_residual.ensures.1 e))

pub returns-then-first_is-clause-said : goal.returns-then-first_is-clause-said
returns-then-first_is-clause-said c = run_said (texts_of c.args.words.now) c.in_ok-read_run.field-0 (sym c.first_is.ensures ∙ c.if-first_is.true) c.in_ok-read_run.ensures.said

pub returns-in_err-read_load-clause-bad_use : goal.returns-in_err-read_load-clause-bad_use
returns-in_err-read_load-clause-bad_use c = λ e. load_unsaid (texts_of c.args.words.now) (sym c.first_is-2.ensures ∙ c.if-first_is-2.true)
    (c.in_err-read_load.ensures.bad_use (same_fault c.from_residual-in_err-read_load.result c.in_err-read_load.field-0.0 WordsFault.BadUse c.from_residual-in_err-read_load.ensures.1 e))

pub returns-then-first_is-2-clause-said : goal.returns-then-first_is-2-clause-said
returns-then-first_is-2-clause-said c = load_said (texts_of c.args.words.now) c.in_ok-read_load.field-0 (sym c.first_is-2.ensures ∙ c.if-first_is-2.true) c.in_ok-read_load.ensures.said.0 c.in_ok-read_load.ensures.said.1

pub returns-in_err-read_check-clause-bad_use : goal.returns-in_err-read_check-clause-bad_use
returns-in_err-read_check-clause-bad_use c = λ e. check_unsaid (texts_of c.args.words.now) (sym c.first_is-3.ensures ∙ c.if-first_is-3.true)
    (c.in_err-read_check.ensures.bad_use (same_fault c.from_residual-in_err-read_check.result c.in_err-read_check.field-0.0 WordsFault.BadUse c.from_residual-in_err-read_check.ensures.1 e))

pub returns-then-first_is-3-clause-said : goal.returns-then-first_is-3-clause-said
returns-then-first_is-3-clause-said c = check_said (texts_of c.args.words.now) c.in_ok-read_check.field-0.starts c.in_ok-read_check.field-0.seed (sym c.first_is-3.ensures ∙ c.if-first_is-3.true) c.in_ok-read_check.ensures.said.0 c.in_ok-read_check.ensures.said.1

pub returns-then-first_is-4-clause-said : goal.returns-then-first_is-4-clause-said
returns-then-first_is-4-clause-said c = only_word (codes "init") c.args.words.now c.if-words-ne1.false (sym c.first_is-4.ensures ∙ c.if-first_is-4.true)

pub returns-then-first_is-5-clause-said : goal.returns-then-first_is-5-clause-said
returns-then-first_is-5-clause-said c = only_word (codes "show") c.args.words.now c.if-words-ne1.false (sym c.first_is-5.ensures ∙ c.if-first_is-5.true)

pub returns-then-first_is-6-clause-said : goal.returns-then-first_is-6-clause-said
returns-then-first_is-6-clause-said c = only_word (codes "history") c.args.words.now c.if-words-ne1.false (sym c.first_is-6.ensures ∙ c.if-first_is-6.true)

pub returns-then-first_is-7-clause-said : goal.returns-then-first_is-7-clause-said
returns-then-first_is-7-clause-said c = only_word (codes "audit") c.args.words.now c.if-words-ne1.false (sym c.first_is-7.ensures ∙ c.if-first_is-7.true)

pub returns-then-first_is-8-clause-said : goal.returns-then-first_is-8-clause-said
returns-then-first_is-8-clause-said c = only_word (codes "compact") c.args.words.now c.if-words-ne1.false (sym c.first_is-8.ensures ∙ c.if-first_is-8.true)

pub returns-then-first_is-9-clause-said : goal.returns-then-first_is-9-clause-said
returns-then-first_is-9-clause-said c = only_word (codes "upgrade") c.args.words.now c.if-words-ne1.false (sym c.first_is-9.ensures ∙ c.if-first_is-9.true)

pub returns-then-first_is-10-clause-said : goal.returns-then-first_is-10-clause-said
returns-then-first_is-10-clause-said c = only_word (codes "migrate") c.args.words.now c.if-words-ne1.false (sym c.first_is-10.ensures ∙ c.if-first_is-10.true)
