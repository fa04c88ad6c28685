use Rattle.std.proofs.Common.{◌≡◌, ℕ, List, [], false, refl, ◌∙◌, subst}
use Rattle.std.specs.Prelude.{is_ok}
use Rattle.std.proofs.lemmas.Result.{err_from_is_err_and}
use Rattle.script_tree.specs.Programs.{program_tree}
use Rattle.promise_spec.specs.Reports.{line_of}
use Rattle.log_audit.specs.Lines.{grain_lines, count_data}
use Rattle.log_audit.specs.ReportOutput.{PutsPart}
use Rattle.log_audit.proofs.TextParts.{none_put, part_then, part_front, part_cut, part_done}
use Rattle.log_audit.proofs.ShownReports.{failed_then}
use Rattle.log_audit.proofs.states.write_states.Goals as goal

pub returns-in_err-write_grains-clause-puts : goal.returns-in_err-write_grains-clause-puts
returns-in_err-write_grains-clause-puts g c =
    let p = err_from_is_err_and c.from_residual.result c.from_residual.ensures.1 in
    let text : List ℕ = grain_lines c.args.shape.now (program_tree c.args.checked.now) c.args.store.now c.args.grains.keys in
    rw p.1 λ told. part_cut _ _ [] text (line_of (count_data c.args.count)) false _ _ (none_put (g.H.Host.world c.args.host.now)) (c.in_err-write_grains.ensures.puts told) refl

pub returns-in_err-write_grains-clause-calls : goal.returns-in_err-write_grains-clause-calls
returns-in_err-write_grains-clause-calls g c =
    let p = err_from_is_err_and c.from_residual.result c.from_residual.ensures.1 in
    rw (p.1, p.2) record {
      exact = c.in_err-write_grains.ensures.calls.exact;
      ready = c.write_grains.ensures.calls.ready;
    }

pub returns-in_err-line-clause-puts : goal.returns-in_err-line-clause-puts
returns-in_err-line-clause-puts g c =
    let p = err_from_is_err_and c.from_residual-in_err-line.result c.from_residual-in_err-line.ensures.1 in
    let text : List ℕ = grain_lines c.args.shape.now (program_tree c.args.checked.now) c.args.store.now c.args.grains.keys in
    rw p.1 λ told. part_front _ _ text (line_of (count_data c.args.count)) _ (part_done text _ _ (c.in_ok-write_grains.ensures.puts told)) refl

pub returns-clause-puts : goal.returns-clause-puts
returns-clause-puts g c told =
    let text : List ℕ = grain_lines c.args.shape.now (program_tree c.args.checked.now) c.args.store.now c.args.grains.keys in
    let line : c.as_bytes.result.now ≡ line_of (count_data c.args.count) = c.as_bytes.ensures.value ∙ c.in_ok-line.ensures in
    let last = subst (λ (l : List ℕ). PutsPart l (is_ok c.write_line.result) (g.H.Host.world c.write_grains.new.host) (g.H.Host.world c.write_line.new.host)) line (c.write_line.ensures.puts told) in
    part_then _ _ text (line_of (count_data c.args.count)) _ _ _ (part_done text _ _ (c.in_ok-write_grains.ensures.puts told)) last refl

pub returns-clause-calls : goal.returns-clause-calls
returns-clause-calls g c = record {
  exact = failed_then _ _ _ _ c.in_ok-write_grains.ensures.calls.exact c.write_line.ensures.calls.exact;
  ready = λ file was. c.write_line.ensures.calls.ready file (c.write_grains.ensures.calls.ready file was);
}
