use Rattle.std.proofs.Common.{◌≡◌, ◌∙◌, ◌++◌, ap, List}
use Rattle.core_model.specs.CoreState.{Write, put}
use Rattle.core_model.specs.Changes.{entry_for}
use Rattle.core_model.specs.Tests.{is_final, is_committed, state_written}
use Rattle.core_model.specs.declared.phases.Verdict.{Verdict}
use Rattle.base_types.specs.declared.entries.Settled.{Settled}
use Rattle.core_parts.specs.States.{last_in}
use Rattle.unit_table.specs.Table.{verdict_in}
use Rattle.history_core.specs.BatchClosing.{verdict_by}
use Rattle.history_core.specs.ClosedUnits.{state_after}
use Rattle.history_core.specs.Fronts.{ends_as, pairs_of}
use Rattle.history_core.proofs.batch_closing.close_one.Goals as goal

pub returns-clause-verdict : goal.returns-clause-verdict
returns-clause-verdict c = c.set_verdict.ensures.verdict ∙ ap (put (verdict_in c.args.units.now) c.args.done.effect.unit) (c.ends_as-verdict.ensures ∙ ap (ends_as c.args.how) c.verdict.ensures)

pub returns-clause-entries : goal.returns-clause-entries
returns-clause-entries c =
    c.settle.ensures.entries ∙ ap (λ (what : Settled). c.args.entries.now.entries ++ entry_for c.args.done.effect.origin c.args.done.effect.unit what) c.told.ensures

pub returns-clause-pairs : goal.returns-clause-pairs
returns-clause-pairs c =
    let by : c.ends_as-verdict.result ≡ verdict_by c.args.how c.args.units.now c.args.done.effect.unit = c.ends_as-verdict.ensures ∙ ap (ends_as c.args.how) c.verdict.ensures in
    let final = c.is_final.ensures ∙ ap is_final by in
    c.teach.ensures.pairs ∙ (λ i. c.args.learn.now.pairs ++ pairs_of (final i) c.args.done.effect.unit (c.as_slice.ensures i))

pub returns-clause-last : goal.returns-clause-last
returns-clause-last c = λ g.
    let by : c.ends_as-verdict.result ≡ verdict_by c.args.how c.args.units.now c.args.done.effect.unit = c.ends_as-verdict.ensures ∙ ap (ends_as c.args.how) c.verdict.ensures in
    c.keep.ensures.last g ∙ ap (λ b. state_after b (state_written g c.args.done.effect.writes) (last_in c.args.last.now g)) (c.is_committed.ensures ∙ ap is_committed by)
