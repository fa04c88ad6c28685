use Rattle.std.proofs.Common.{refl, inl, [], drop}
use Rattle.command_words.specs.CutParts.{texts_of}
use Rattle.command_words.specs.declared.faults.WordsFault.TheVariants as WordsFault
use Rattle.command_words.proofs.SpelledOptions.{few_asked}
use Rattle.command_words.proofs.Commands.{same_fault}
use Rattle.command_words.proofs.command_reader.read_run.Goals as goal

pub returns-in_err-cut-clause-bad_use : goal.returns-in_err-cut-clause-bad_use
returns-in_err-cut-clause-bad_use c = λ e chosen a. c.in_err-cut.ensures.bad_use (same_fault c.from_residual.result c.in_err-cut.field-0.0 WordsFault.BadUse c.from_residual.ensures.1 e) a.parts a.have (few_asked (drop 1 (texts_of c.args.words.now)) chosen [] a (inl refl))
