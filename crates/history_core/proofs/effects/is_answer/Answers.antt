use Rattle.std.proofs.Common.{◌∙◌, sym, ap, Bool, None}
use Rattle.std.specs.Prelude.{if◌then◌else◌}
use Rattle.core_model.specs.Tests.{is_answer}
use Rattle.unit_table.specs.Table.{outcome_known}
use Rattle.history_core.proofs.effects.is_answer.Goals as goal

pub returns-then-is_past : goal.returns-then-is_past
returns-then-is_past c =
    ap (λ (b : Bool). is_answer (if b then None else outcome_known c.args.table.now c.args.unit) c.args.answer.now) (sym c.if-is_past.true ∙ c.is_past.ensures)

pub returns : goal.returns
returns c =
    c.is_kept_answer.ensures
    ∙ ap (λ (b : Bool). is_answer (if b then None else outcome_known c.args.table.now c.args.unit) c.args.answer.now) (sym c.if-is_past.false ∙ c.is_past.ensures)
