use Rattle.std.proofs.Common.{◌≡◌, sym, false, None}
use Rattle.core_parts.specs.States.{is_placed}
use Rattle.core_parts.proofs.Keys.{same_kept, keeps_placed}
use Rattle.core_parts.proofs.kept_states.KeptStates.make_place.Goals as goal

pub returns-clause-same : goal.returns-clause-same
returns-clause-same c =
    let none : is_placed c.args.self.now c.args.grain ≡ false = sym c.if-contains_key.ensures in
    same_kept c.args.self.now (record { states = c.insert.new.self }) c.args.grain none c.in_ok-insert.ensures.updates

pub returns-clause-places : goal.returns-clause-places
returns-clause-places c = keeps_placed c.args.self.now (record { states = c.insert.new.self }) c.args.grain None c.in_ok-insert.ensures.updates
