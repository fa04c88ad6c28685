use Rattle.std.proofs.Common.{◌≡◌, ◌<◌, ◌+◌, ◌-◌, ◌∙◌, sym, ap, arith, List, cond, filter, length, get_or, drop}
use Rattle.base_types.specs.declared.calls.UnitNo.{UnitNo}
use Rattle.cell_model.specs.Units.{nobody}
use Rattle.cell_model.specs.Sources.{with_source}
use Rattle.core_model.specs.Tests.{is_aborted}
use Rattle.core_model.specs.Answers.{as_set}
use Rattle.unit_table.specs.Table.{verdict_in}
use Rattle.open_batch.proofs.Steps.{next-read, set-step}
use Rattle.open_batch.proofs.outcomes.aborted_among.Goals as goal

pub loop-at-preserved : goal.loop-at-preserved
loop-at-preserved c =
    let gone = λ (u : UnitNo). is_aborted (verdict_in c.args.units.now u) in
    let sources = c.args.sources.now in
    let n = c.loop-at.at - 1 in
    let more : n + 1 ≡ c.loop-at.at = omega (arith, c.loop-at-test.true) in
    let within : n < length sources = omega (arith, c.loop-at-test.true, c.loop-at.invariant.within) in
    let source = get_or sources n nobody in
    record {
      grown = c.in_ok-add_aborted.ensures
          ∙ ap (λ (us : List UnitNo). cond (gone source) (with_source us source) us) c.loop-at.invariant.grown
          ∙ set-step gone source (drop c.loop-at.at sources)
          ∙ ap (λ (us : List UnitNo). as_set (filter gone us)) (sym (next-read sources c.loop-at.at n nobody more within));
      within = omega (arith, within);
    }
