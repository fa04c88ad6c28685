use Rattle.std.proofs.Common.{sym, Some}
use Rattle.core_parts.proofs.Keys.{when_ok, puts_kept, keeps_placed}
use Rattle.core_parts.proofs.kept_states.KeptStates.put.Goals as goal

pub returns-clause-put : goal.returns-clause-put
returns-clause-put c =
    let updates = when_ok c.insert-done.result c.insert-done.ensures.updates (sym c.if-prove.ensures.value) in
    puts_kept c.args.self.now (record { states = c.insert-done.new.self }) c.args.grain c.args.state updates

pub returns-clause-places : goal.returns-clause-places
returns-clause-places c =
    let updates = when_ok c.insert-done.result c.insert-done.ensures.updates (sym c.if-prove.ensures.value) in
    keeps_placed c.args.self.now (record { states = c.insert-done.new.self }) c.args.grain (Some c.args.state) updates
