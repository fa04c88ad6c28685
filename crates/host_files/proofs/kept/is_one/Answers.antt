use Rattle.std.proofs.Common.{sym, ◌∙◌}
use Rattle.host_trait.proofs.Names.{same_file-is}
use Rattle.host_files.proofs.kept.is_one.Goals as goal

pub returns : goal.returns
returns c = λ yes. same_file-is c.args.a c.args.b (sym c.is_same-same.ensures ∙ yes)
