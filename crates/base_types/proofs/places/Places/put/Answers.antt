use Rattle.base_types.proofs.GrainPlaces.{puts_placed}
use Rattle.base_types.proofs.places.Places.put.Goals as goal

pub returns-clause-ok : goal.returns-clause-ok
returns-clause-ok c = puts_placed c.args.self.now (record { places = c.put.new.self }) c.args.grain c.args.placed c.in_ok-put.ensures.ok
