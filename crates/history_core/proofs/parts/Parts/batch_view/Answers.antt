use Rattle.std.proofs.Common.{◌∙◌, ap, Some, List}
use Rattle.core_model.specs.Tests.{is_aborted}
use Rattle.core_model.specs.declared.questions.BatchView.{BatchView}
use Rattle.unit_table.specs.Table.{verdict_in}
use Rattle.open_batch.specs.declared.members.FinishedUnit.{FinishedUnit}
use Rattle.open_batch.specs.TakenBatch.{view_by}
use Rattle.history_core.proofs.QuestionAnswers.{view-is}
use Rattle.history_core.proofs.parts.Parts.batch_view.Goals as goal

pub returns-in_ok-shown-in-Some : goal.returns-in_ok-shown-in-Some
returns-in_ok-shown-in-Some c = λ w s.
    ap (λ (x : BatchView). Some x)
    (c.in_ok-shown-in-Some.ensures ∙ ap (λ (ms : List FinishedUnit). view_by (λ u. is_aborted (verdict_in c.args.self.now.units u)) c.in-Some.batch ms) c.members.ensures)
    ∙ view-is c.args.self.now w c.in-Some.batch s c.in-Some.is
