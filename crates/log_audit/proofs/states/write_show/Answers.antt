use Rattle.std.proofs.Common.{◌≡◌, ◌<◌, ◌++◌, ℕ, List, [], length, map, Some, Ok, refl, sym, ◌∙◌, ap, subst}
use Rattle.std.specs.Prelude.{is_ok, slice_get}
use Rattle.std.proofs.lemmas.Result.{err_from_is_err_and}
use Rattle.base_types.specs.declared.shapes.Shape.{Shape}
use Rattle.host_trait.specs.World.{Disk}
use Rattle.host_trait.proofs.Counts.{none_then}
use Rattle.host_trait.proofs.Runs.{asked_then}
use Rattle.field_codec.specs.declared.formats.Format.TheVariants.{Two}
use Rattle.log_reading.specs.Blocks.{log_in_file}
use Rattle.host_trait.specs.declared.channels.FileId.TheVariants.{Manager}
use Rattle.log_reading.specs.Steps.{seen_in}
use Rattle.script_tree.specs.declared.programs.Program.{Program as TreeProgram}
use Rattle.script_tree.specs.Programs.{program_tree}
use Rattle.promise_spec.specs.Programs.{shape_in}
use Rattle.promise_spec.specs.Endings.{Ending, HasFailedAs}
use Rattle.silo_opening.specs.OpenedSilo.{program_in, programs_of, AreStates}
use Rattle.promise_spec.specs.Reports.{line_of}
use Rattle.log_audit.specs.Lines.{grain_lines, count_data}
use Rattle.log_audit.specs.ReportOutput.{PutsPart}
use Rattle.log_audit.proofs.TextParts.{asked_puts, part_then, part_front}
use Rattle.log_audit.proofs.ShownReports.{failed_then, open_failed}
use Rattle.log_audit.proofs.RereadFaults.{opened_ends}
use Rattle.log_audit.proofs.ReadEntries.{some_program, first_program}
use Rattle.log_audit.proofs.ReportTexts.{show_opened, grains_held, named_grains, held_names}
use Rattle.log_audit.proofs.states.write_show.Goals as goal

pub log_grains-requires-clause-some : goal.log_grains-requires-clause-some
log_grains-requires-clause-some g c = subst (λ (l : List TreeProgram). 0 < length l) (sym c.replace-programs.ensures.value) (some_program c.args.opened.now c.requires.programs)

pub returns-in-Err-clause-puts : goal.returns-in-Err-clause-puts
returns-in-Err-clause-puts g c told o = (
  named_grains (seen_in (g.H.Host.world c.args.host.now).disk) c.args.opened.now o,
  held_names (seen_in (g.H.Host.world c.args.host.now).disk) c.args.opened.now o,
  part_front _ _ [] _ _ (asked_puts _ _ (c.states.ensures.asked told)) refl,
)

pub returns-in-Err-clause-ended : goal.returns-in-Err-clause-ended
returns-in-Err-clause-ended g c told o = opened_ends c.args.opened.now.slot c.in-Err.fault (c.in-Err.ensures.refused told o) c.unopened.result c.unopened.ensures

pub returns-in-Err-clause-calls : goal.returns-in-Err-clause-calls
returns-in-Err-clause-calls g c = record {
  exact = subst (λ (e : Ending). HasFailedAs e (g.H.Host.faults c.args.host.now) (g.H.Host.faults c.states.new.host)) (sym c.unopened.ensures) (open_failed _ _ c.in-Err.fault c.in-Err.ensures.calls.fault);
  ready = c.states.ensures.calls.ready;
}

pub returns-in_err-shape-clause-puts : goal.returns-in_err-shape-clause-puts
returns-in_err-shape-clause-puts g c =
    let p = err_from_is_err_and c.from_residual.result c.from_residual.ensures.1 in
    rw p.1 λ told o. (
      named_grains (seen_in (g.H.Host.world c.args.host.now).disk) c.args.opened.now o,
      held_names (seen_in (g.H.Host.world c.args.host.now).disk) c.args.opened.now o,
      part_front _ _ [] _ _ (asked_puts _ _ (c.states.ensures.asked told)) refl,
    )

pub returns-in_err-grains-clause-puts : goal.returns-in_err-grains-clause-puts
returns-in_err-grains-clause-puts g c =
    let p = err_from_is_err_and c.from_residual-in_err-grains.result c.from_residual-in_err-grains.ensures.1 in
    rw p.1 λ told o. (
      named_grains (seen_in (g.H.Host.world c.args.host.now).disk) c.args.opened.now o,
      held_names (seen_in (g.H.Host.world c.args.host.now).disk) c.args.opened.now o,
      part_front _ _ [] _ _ (asked_puts _ _ (asked_then _ _ _ (c.states.ensures.asked told) (c.log_grains.ensures.asked told))) refl,
    )

pub returns-in_err-grains-clause-ended : goal.returns-in_err-grains-clause-ended
returns-in_err-grains-clause-ended g c =
    let p = err_from_is_err_and c.from_residual-in_err-grains.result c.from_residual-in_err-grains.ensures.1 in
    let opened = c.args.opened.now in
    rw (p.1, p.2) λ told o.
    let again : log_in_file Two o.first ((g.H.Host.world c.states.new.host).disk (Manager opened.slot)).seen ≡ Ok o.read =
    subst (λ (d : Disk). log_in_file Two o.first (d (Manager opened.slot)).seen ≡ Ok o.read) (sym (c.states.ensures.asked told).disk) o.read_as in
    let first : slice_get (map program_tree c.replace-programs.result) 0 ≡ Some o.first.types =
    ap (λ (l : List TreeProgram). slice_get (map program_tree l) 0) c.replace-programs.ensures.value ∙ first_program o.first o.read.entries (programs_of opened) o.programs in
    c.in_err-grains.ensures.ended told o.first first o.read again

pub returns-in_err-grains-clause-calls : goal.returns-in_err-grains-clause-calls
returns-in_err-grains-clause-calls g c =
    let p = err_from_is_err_and c.from_residual-in_err-grains.result c.from_residual-in_err-grains.ensures.1 in
    rw (p.1, p.2) record {
      exact = failed_then _ _ _ _ c.in-Ok.ensures.calls.calm c.in_err-grains.ensures.calls.exact;
      ready = λ file was. c.log_grains.ensures.calls.ready file (c.states.ensures.calls.ready file was);
    }

pub returns-clause-puts : goal.returns-clause-puts
returns-clause-puts g c told o =
    let opened = c.args.opened.now in
    let types = program_tree opened.checked in
    let image = seen_in (g.H.Host.world c.args.host.now).disk in
    let program = program_in opened in
    let shape : c.in_ok-shape.shape ≡ shape_in program = (λ i. record { types = c.in_ok-shape.ensures i }) in
    let again : log_in_file Two o.first ((g.H.Host.world c.states.new.host).disk (Manager opened.slot)).seen ≡ Ok o.read =
    subst (λ (d : Disk). log_in_file Two o.first (d (Manager opened.slot)).seen ≡ Ok o.read) (sym (c.states.ensures.asked told).disk) o.read_as in
    let first : slice_get (map program_tree c.replace-programs.result) 0 ≡ Some o.first.types =
    ap (λ (l : List TreeProgram). slice_get (map program_tree l) 0) c.replace-programs.ensures.value ∙ first_program o.first o.read.entries (programs_of opened) o.programs in
    let keys = c.in_ok-grains.grains.keys in
    let store = c.in-Ok.store in
    let are : AreStates program store o.log = c.in-Ok.ensures.stand told o in
    let asked = asked_puts _ _ (asked_then _ _ _ (c.states.ensures.asked told) (c.log_grains.ensures.asked told)) in
    let text : List ℕ = grain_lines (shape_in program) types store keys ++ line_of (count_data opened.count) in
    let part = subst (λ (s : Shape). PutsPart (grain_lines s types store keys ++ line_of (count_data opened.count)) (is_ok c.write_states.result) (g.H.Host.world c.log_grains.new.host) (g.H.Host.world c.write_states.new.host)) shape (c.write_states.ensures.puts told) in (
      keys,
      grains_held image opened o keys (c.in_ok-grains.ensures.found told o.first first o.read again),
      part_then _ _ [] text _ _ _ asked part (show_opened image opened o store are keys),
    )

pub returns-clause-calls : goal.returns-clause-calls
returns-clause-calls g c = record {
  exact = failed_then _ _ _ _ (none_then _ _ _ c.in-Ok.ensures.calls.calm c.in_ok-grains.ensures.calls.exact) c.write_states.ensures.calls.exact;
  ready = λ file was. c.write_states.ensures.calls.ready file (c.log_grains.ensures.calls.ready file (c.states.ensures.calls.ready file was));
}
