use Rattle.std.proofs.Common.{◌∙◌}
use Rattle.command_words.proofs.CutFacts.{stray_behind}
use Rattle.command_words.proofs.word_parts.has_stray.Goals as goal

pub returns-in-len1-up : goal.returns-in-len1-up
returns-in-len1-up c = c.any_stray.ensures ∙ stray_behind c.args.words.now
