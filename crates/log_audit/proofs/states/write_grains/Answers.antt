use Rattle.std.proofs.Common.{rules, ◌≡◌, ℕ, List, [], true, false, length, refl, ◌∙◌, ap, subst}
use Rattle.std.proofs.lemmas.Result.{err_from_is_err_and}
use Rattle.base_types.specs.declared.calls.GrainId.{GrainId}
use Rattle.host_trait.proofs.Counts.{none_then}
use Rattle.script_tree.specs.Programs.{program_tree}
use Rattle.script_meaning.specs.Play.{found_in}
use Rattle.promise_spec.specs.Reports.{line_of}
use Rattle.log_audit.specs.Lines.{grain_data, grain_lines}
use Rattle.log_audit.specs.ReportOutput.{PutsPart}
use Rattle.log_audit.proofs.TextParts.{gone_none, gone_more, gone_cut, gone_stopped, gone_all, none_left}
use Rattle.log_audit.proofs.ShownReports.{failed_then}
use Rattle.log_audit.proofs.states.write_grains.Goals as goal

pub loop-grain-init : goal.loop-grain-init
loop-grain-init g c = record { puts = λ told. gone_none _ _; calm = λ channel. refl; ready = λ file was. was }

pub returns-in_err-line-clause-puts : goal.returns-in_err-line-clause-puts
returns-in_err-line-clause-puts g c =
    let p = err_from_is_err_and c.from_residual.result c.from_residual.ensures.1 in
    rw p.1 λ told. gone_stopped _ _ _ _ (c.loop-grain.invariant.puts told)

pub returns-in_err-write_line-clause-puts : goal.returns-in_err-write_line-clause-puts
returns-in_err-write_line-clause-puts g c =
    let p = err_from_is_err_and c.from_residual-in_err-write_line.result c.from_residual-in_err-write_line.ensures.1 in
    let shape = c.args.shape.now in
    let types = program_tree c.args.checked.now in
    let store = c.args.store.now in
    let grain = c.in-Some.grain in
    let text : c.as_bytes.result.now ≡ line_of (grain_data shape types grain (found_in types store grain)) = c.as_bytes.ensures.value ∙ c.in_ok-line.ensures in
    rw p.1 λ told.
    gone_cut _ _ _ (line_of (grain_data shape types grain (found_in types store grain))) (grain_lines shape types store c.pop_first.new.self.keys) false _ _ (c.loop-grain.invariant.puts told)
    (ap (λ (l : List GrainId). grain_lines shape types store l) c.in-Some.ensures.removal)
    (subst (λ (l : List ℕ). PutsPart l false (g.H.Host.world c.loop-grain.host) (g.H.Host.world c.write_line.new.host)) text (c.in_err-write_line.ensures.puts told))

pub returns-in_err-write_line-clause-calls : goal.returns-in_err-write_line-clause-calls
returns-in_err-write_line-clause-calls g c =
    let p = err_from_is_err_and c.from_residual-in_err-write_line.result c.from_residual-in_err-write_line.ensures.1 in
    rw (p.1, p.2) record {
      exact = failed_then _ _ _ _ c.loop-grain.invariant.calm c.in_err-write_line.ensures.calls.exact;
      ready = λ file was. c.write_line.ensures.calls.ready file (c.loop-grain.invariant.ready file was);
    }

pub loop-grain-preserved : goal.loop-grain-preserved
loop-grain-preserved g c =
    let inv = c.loop-grain.invariant in
    let shape = c.args.shape.now in
    let types = program_tree c.args.checked.now in
    let store = c.args.store.now in
    let grain = c.in-Some.grain in
    let text : c.as_bytes.result.now ≡ line_of (grain_data shape types grain (found_in types store grain)) = c.as_bytes.ensures.value ∙ c.in_ok-line.ensures in
    record {
      puts = λ told.
          gone_more _ _ _ (line_of (grain_data shape types grain (found_in types store grain))) (grain_lines shape types store c.pop_first.new.self.keys) _ _ (inv.puts told)
          (ap (λ (l : List GrainId). grain_lines shape types store l) c.in-Some.ensures.removal)
          (subst (λ (l : List ℕ). PutsPart l true (g.H.Host.world c.loop-grain.host) (g.H.Host.world c.write_line.new.host)) text (c.in_ok-write_line.ensures.puts told));
      calm = none_then _ _ _ inv.calm c.in_ok-write_line.ensures.calls.exact;
      ready = λ file was. c.write_line.ensures.calls.ready file (inv.ready file was);
    }

pub returns-clause-puts : goal.returns-clause-puts
returns-clause-puts g c told =
    let size : length c.loop-grain.left.keys ≡ 0 = search rules in
    let none : c.loop-grain.left.keys ≡ [] = none_left c.loop-grain.left.keys size in
    gone_all _ _ _ _ (c.loop-grain.invariant.puts told)
    (ap (λ (l : List GrainId). grain_lines c.args.shape.now (program_tree c.args.checked.now) c.args.store.now l) none)
