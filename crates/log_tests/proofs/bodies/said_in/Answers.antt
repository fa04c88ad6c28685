use Rattle.field_codec.specs.declared.formats.Format.TheVariants.{Two}
use Rattle.field_codec.specs.declared.units.Numbers.TheVariants.{Free, Logged}
use Rattle.log_tests.proofs.Encodable.{encodable}
use Rattle.log_tests.proofs.bodies.said_in.Goals as goal

pub returns-then-end-body : goal.returns-then-end-body
returns-then-end-body c = encodable c.args.reading.format Logged c.args.shape.now c.in_ok-said.said.1 c.in_ok-said.ensures.found.1

pub returns : goal.returns
returns c = encodable Two Free c.args.shape.now c.in_ok-said-2.said.1 c.in_ok-said-2.ensures.found.content_fits
