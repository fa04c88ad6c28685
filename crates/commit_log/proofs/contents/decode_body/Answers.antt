use Rattle.std.proofs.Common.{arith}
use Rattle.field_codec.specs.declared.formats.Format.TheVariants.{Two}
use Rattle.field_codec.specs.declared.units.Numbers.TheVariants.{Free}
use Rattle.commit_log.specs.Sessions.{IsSessionBody}
use Rattle.commit_log.proofs.Decoding.{if_ok}
use Rattle.commit_log.proofs.FrontsRead.{found_body, only_body, within_body}
use Rattle.commit_log.proofs.contents.decode_body.Goals as goal

pub returns-clause-found : goal.returns-clause-found
returns-clause-found c = if_ok (λ said. IsSessionBody Two Free c.args.shape.now c.args.session said.0 said.1 c.args.body.now) c.get_body.result (found_body Two Free c.args.shape.now c.args.session c.args.body.now c.get_body.result c.get_body.ensures (λ i. omega (arith, c.type_inv.body i)))

pub returns-clause-only : goal.returns-clause-only
returns-clause-only c = only_body Two Free c.args.shape.now c.args.session c.args.body.now c.get_body.result c.get_body.ensures

pub returns-clause-within : goal.returns-clause-within
returns-clause-within c = within_body Two Free c.args.shape.now c.args.session c.args.body.now c.get_body.result c.get_body.ensures (λ i. omega (arith, c.type_inv.body i))
