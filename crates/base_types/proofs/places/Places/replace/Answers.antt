use Rattle.base_types.proofs.GrainPlaces.{puts_placed}
use Rattle.base_types.proofs.places.Places.replace.Goals as goal

pub returns-clause-replaced : goal.returns-clause-replaced
returns-clause-replaced c = puts_placed c.args.self.now (record { places = c.replace.new.self }) c.args.grain c.args.placed c.replace.ensures.sets
