use Rattle.std.proofs.Common.{◌≡◌, ◌+◌, ℕ, List, true, false, map, drop, refl, ◌∙◌, ap, subst}
use Rattle.std.proofs.lemmas.Result.{err_from_is_err_and}
use Rattle.host_trait.proofs.Counts.{none_then}
use Rattle.commit_log.specs.declared.records.CommitRecord.{CommitRecord}
use Rattle.log_reading.proofs.RecordSums.{next_item, no_item}
use Rattle.script_tree.specs.declared.programs.Program.{Program}
use Rattle.script_tree.specs.declared.programs.TypeDecl.{TypeDecl}
use Rattle.script_tree.specs.Programs.{type_tree, program_tree}
use Rattle.promise_spec.specs.Reports.{line_of}
use Rattle.log_audit.specs.Lines.{record_data, record_lines}
use Rattle.log_audit.specs.ReportOutput.{PutsPart}
use Rattle.log_audit.proofs.TextParts.{gone_none, gone_more, gone_cut, gone_stopped, gone_all}
use Rattle.log_audit.proofs.ShownReports.{failed_then}
use Rattle.log_audit.proofs.records.write_records.Goals as goal

pub loop-entry-init : goal.loop-entry-init
loop-entry-init g c = record { puts = λ told. gone_none _ _; calm = λ channel. refl; ready = λ file was. was }

pub returns-in_err-line-clause-puts : goal.returns-in_err-line-clause-puts
returns-in_err-line-clause-puts g c =
    let p = err_from_is_err_and c.from_residual.result c.from_residual.ensures.1 in
    rw p.1 λ told. gone_stopped _ _ _ _ (c.loop-entry.invariant.puts told)

pub returns-in_err-write_line-clause-puts : goal.returns-in_err-write_line-clause-puts
returns-in_err-write_line-clause-puts g c =
    let p = err_from_is_err_and c.from_residual-in_err-write_line.result c.from_residual-in_err-write_line.ensures.1 in
    let shape = c.args.shape.now in
    let types = program_tree c.args.checked.now in
    let i = c.loop-entry.entry-index in
    let xs = c.args.records.now in
    let x = c.entry-item.result in
    let text : c.as_bytes.result.now ≡ line_of (record_data shape types c.args.session x) = c.as_bytes.ensures.value ∙ c.in_ok-line.ensures ∙ ap (λ (ts : List TypeDecl). line_of (record_data shape (map type_tree ts) c.args.session x)) (c.as_slice-types.ensures ∙ ap (λ (p : Program). p.types.list.items) c.program.ensures.same) in
    rw p.1 λ told.
    gone_cut _ _ _ (line_of (record_data shape types c.args.session x)) (record_lines shape types c.args.session (drop (i + 1) xs)) false _ _ (c.loop-entry.invariant.puts told)
    (ap (λ (l : List CommitRecord). record_lines shape types c.args.session l) (next_item i xs x c.loop-entry-test.true c.entry-item.is))
    (subst (λ (l : List ℕ). PutsPart l false (g.H.Host.world c.loop-entry.host) (g.H.Host.world c.write_line.new.host)) text (c.in_err-write_line.ensures.puts told))

pub returns-in_err-write_line-clause-calls : goal.returns-in_err-write_line-clause-calls
returns-in_err-write_line-clause-calls g c =
    let p = err_from_is_err_and c.from_residual-in_err-write_line.result c.from_residual-in_err-write_line.ensures.1 in
    rw (p.1, p.2) record {
      exact = failed_then _ _ _ _ c.loop-entry.invariant.calm c.in_err-write_line.ensures.calls.exact;
      ready = λ file was. c.write_line.ensures.calls.ready file (c.loop-entry.invariant.ready file was);
    }

pub loop-entry-preserved : goal.loop-entry-preserved
loop-entry-preserved g c =
    let inv = c.loop-entry.invariant in
    let shape = c.args.shape.now in
    let types = program_tree c.args.checked.now in
    let i = c.loop-entry.entry-index in
    let xs = c.args.records.now in
    let x = c.entry-item.result in
    let text : c.as_bytes.result.now ≡ line_of (record_data shape types c.args.session x) = c.as_bytes.ensures.value ∙ c.in_ok-line.ensures ∙ ap (λ (ts : List TypeDecl). line_of (record_data shape (map type_tree ts) c.args.session x)) (c.as_slice-types.ensures ∙ ap (λ (p : Program). p.types.list.items) c.program.ensures.same) in
    record {
      puts = λ told.
          gone_more _ _ _ (line_of (record_data shape types c.args.session x)) (record_lines shape types c.args.session (drop (i + 1) xs)) _ _ (inv.puts told)
          (ap (λ (l : List CommitRecord). record_lines shape types c.args.session l) (next_item i xs x c.loop-entry-test.true c.entry-item.is))
          (subst (λ (l : List ℕ). PutsPart l true (g.H.Host.world c.loop-entry.host) (g.H.Host.world c.write_line.new.host)) text (c.in_ok-write_line.ensures.puts told));
      calm = none_then _ _ _ inv.calm c.in_ok-write_line.ensures.calls.exact;
      ready = λ file was. c.write_line.ensures.calls.ready file (inv.ready file was);
    }

pub returns-clause-puts : goal.returns-clause-puts
returns-clause-puts g c told =
    gone_all _ _ _ _ (c.loop-entry.invariant.puts told)
    (ap (λ (l : List CommitRecord). record_lines c.args.shape.now (program_tree c.args.checked.now) c.args.session l) (no_item c.loop-entry.entry-index c.args.records.now c.loop-entry-test.false))
