use Rattle.script_check.proofs.MentionedNames.{program_named}
use Rattle.script_check.proofs.laws.each_name_is_mentioned.Goals as goal

pub returns : goal.returns
returns c = program_named
