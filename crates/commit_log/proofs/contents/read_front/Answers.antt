use Rattle.std.proofs.Common.{arith}
use Rattle.field_codec.specs.declared.units.Numbers.TheVariants.{Logged}
use Rattle.field_codec.specs.Spelling.{Stands}
use Rattle.field_codec.specs.Units.{SessionFits}
use Rattle.commit_log.specs.Contents.{IsContentIn}
use Rattle.commit_log.specs.Sessions.{spelling_with_session}
use Rattle.commit_log.proofs.Decoding.{if_ok}
use Rattle.commit_log.proofs.FrontsRead.{found_front, within_front}
use Rattle.commit_log.proofs.contents.read_front.Goals as goal

pub returns-clause-found : goal.returns-clause-found
returns-clause-found c =
    if_ok (λ said. SessionFits c.args.format Logged c.args.session said.0.0 × IsContentIn c.args.format Logged c.args.shape.now said.0.1 × Stands c.args.body.now 0 (spelling_with_session c.args.format said.0.0 said.0.1) said.1) c.get_front.result
    (found_front c.args.format Logged c.args.shape.now c.args.session c.args.body.now c.get_front.result c.get_front.ensures (λ i. omega (arith, c.type_inv.body i)))

pub returns-clause-within : goal.returns-clause-within
returns-clause-within c = within_front c.args.format Logged c.args.shape.now c.args.session c.args.body.now c.get_front.result c.get_front.ensures (λ i. omega (arith, c.type_inv.body i))
