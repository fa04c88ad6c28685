use Rattle.std.proofs.Common.{arith}
use Rattle.grain_log.proofs.Versions.{within_text, shaped_text}
use Rattle.grain_log.proofs.reads.decode.Goals as goal

pub returns-clause-within : goal.returns-clause-within
returns-clause-within c = within_text c.args.format c.args.fields c.args.text.now (λ i. omega (arith, c.type_inv.text i)) c.get_whole.result c.get_whole.ensures

pub returns-clause-shaped : goal.returns-clause-shaped
returns-clause-shaped c = shaped_text c.args.format c.args.fields c.args.text.now (λ i. omega (arith, c.type_inv.text i)) c.get_whole.result c.get_whole.ensures
