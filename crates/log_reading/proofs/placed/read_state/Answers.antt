use Rattle.std.proofs.Common.{rules, ◌≡◌, List, Option, Ok, Some, None, map, sym, subst}
use Rattle.base_types.specs.declared.calls.Value.{Value}
use Rattle.base_types.specs.declared.places.Placed.{Placed}
use Rattle.base_types.specs.declared.shapes.Shape.{Shape}
use Rattle.base_types.specs.Places.{placed_in}
use Rattle.script_tree.specs.Programs.{program_tree}
use Rattle.base_types.specs.Stores.{state_in, PutsState}
use Rattle.program_file.specs.Succession.{shapes_in_turn}
use Rattle.log_reading.specs.Steps.{seen_in}
use Rattle.log_reading.specs.PlacedVersions.{placed_numbered, IsUnreadAt}
use Rattle.log_reading.proofs.PlacedVersions.{state_unplaced, state_put}
use Rattle.log_reading.proofs.placed.read_state.Goals as goal

pub returns-in_default-clause-stand : goal.returns-in_default-clause-stand
returns-in_default-clause-stand g c told other =
    let none : placed_in c.args.places.now c.args.grain ≡ None = search rules in
    state_unplaced c.args.slot c.args.format (map program_tree c.args.programs.now) (seen_in (g.H.Host.world c.args.host.now).disk) c.args.places.now c.args.grain other (state_in c.args.store.now other) none

pub returns-in-Err-clause-unread : goal.returns-in-Err-clause-unread
returns-in-Err-clause-unread g c told =
    let placed : placed_in c.args.places.now c.args.grain ≡ Some c.in-Some.placed.now = search rules in
    subst (λ (p : Option Placed). IsUnreadAt c.args.slot c.args.format c.args.shapes.now (seen_in (g.H.Host.world c.args.host.now).disk) c.args.grain p c.in-Err.fault) (sym placed) (c.in-Err.ensures.unread told)

pub returns-clause-stand : goal.returns-clause-stand
returns-clause-stand g c told other =
    let programs = map program_tree c.args.programs.now in
    let image = seen_in (g.H.Host.world c.args.host.now).disk in
    let places = c.args.places.now in
    let p = c.in-Some.placed.now in
    let placed : placed_in places c.args.grain ≡ Some p = search rules in
    let found : placed_numbered c.args.slot c.args.format (shapes_in_turn programs) image c.args.grain p ≡ Ok c.in-Ok.version =
    subst (λ (shapes : List Shape). placed_numbered c.args.slot c.args.format shapes image c.args.grain p ≡ Ok c.in-Ok.version) c.requires.shapes (c.in-Ok.ensures.found told) in
    let puts = subst (λ (state : List Value). PutsState c.args.store.now c.put.new.self c.args.grain state) c.in_ok-state.ensures c.in_ok-put.ensures.ok in
    state_put c.args.slot c.args.format programs image places c.args.store.now c.put.new.self c.args.grain other p c.in-Ok.version placed found puts
