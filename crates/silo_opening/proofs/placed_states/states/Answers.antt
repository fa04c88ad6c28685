use Rattle.std.proofs.Common.{rules, ◌≡◌, Option, None, List, map, ◌∙◌, ap, subst}
use Rattle.std.specs.Prelude.{unwrap_or}
use Rattle.base_types.specs.declared.calls.GrainId.{GrainId}
use Rattle.base_types.specs.declared.calls.Value.{Value}
use Rattle.base_types.specs.Places.{placed_in}
use Rattle.field_codec.specs.declared.formats.Format.TheVariants.{Two}
use Rattle.log_reading.specs.Steps.{seen_in}
use Rattle.log_reading.specs.PlacedVersions.{state_placed, IsUnreadAt}
use Rattle.script_tree.specs.Programs.{program_tree}
use Rattle.script_check.specs.declared.checked_program.Checked.{Checked}
use Rattle.program_file.specs.Succession.{shapes_in_turn}
use Rattle.promise_spec.specs.Entries.{initial_states}
use Rattle.silo_opening.specs.OpenedSilo.{program_in}
use Rattle.silo_opening.proofs.PlacedStates.{states_stand, only_failed, never_last}
use Rattle.silo_opening.proofs.placed_states.states.Goals as goal

pub returns-in-Ok-clause-stand : goal.returns-in-Ok-clause-stand
returns-in-Ok-clause-stand g c told o grain =
    let image = seen_in (g.H.Host.world c.args.host.now).disk in
    let opened = c.args.opened.now in
    let programs : c.as_slice.result.now ≡ opened.programs = search rules in
    ap (λ (s : Option (List Value)). unwrap_or s (initial_states (program_in opened) grain))
    (c.in-Ok.ensures.stand told grain ∙ ap (λ (ps : List Checked). state_placed opened.slot Two (map program_tree ps) image grain (placed_in opened.places grain) None) programs)
    ∙ states_stand image opened o grain

pub returns-in-Err-clause-refused : goal.returns-in-Err-clause-refused
returns-in-Err-clause-refused g c told o =
    let image = seen_in (g.H.Host.world c.args.host.now).disk in
    let opened = c.args.opened.now in
    let programs : c.as_slice.result.now ≡ opened.programs = search rules in
    let fault = c.in-Err.fault in
    only_failed image opened o fault
    (subst (λ (ps : List Checked). (grain : GrainId) × IsUnreadAt opened.slot Two (shapes_in_turn (map program_tree ps)) image grain (placed_in opened.places grain) fault) programs (c.in-Err.ensures.unread told))
    c.folder_fault.result c.folder_fault.ensures

pub returns-in-Err-clause-not_last : goal.returns-in-Err-clause-not_last
returns-in-Err-clause-not_last g c is = never_last c.folder_fault.result c.in-Err.fault c.folder_fault.ensures is
