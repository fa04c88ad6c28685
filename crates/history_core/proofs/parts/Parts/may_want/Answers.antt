use Rattle.std.proofs.Common.{◌≡◌, ◌∙◌, sym, ap, true, false, ◌&&◌, not}
use Rattle.cell_model.specs.Locks.{holds_lock}
use Rattle.cell_table.specs.Table.{cell_in}
use Rattle.history_core.specs.LockAnswers.{is_active_in}
use Rattle.history_core.proofs.OtherEvents.{waits-in, want-is}
use Rattle.history_core.proofs.parts.Parts.may_want.Goals as goal

pub returns-then-not-is_active : goal.returns-then-not-is_active
returns-then-not-is_active c = λ w s.
    let p = c.args.self.now in let u = c.args.unit in let g = c.args.grain in
    let idle : is_active_in p u g ≡ false = sym c.is_active.ensures ∙ c.if-not-is_active.true in
    (λ i. sym idle i && (not (holds_lock u (cell_in p.cells g).holds) && not (waits-in p u g))) ∙ want-is p w u g s

pub returns-then-not-is_held_by : goal.returns-then-not-is_held_by
returns-then-not-is_held_by c = λ w s.
    let p = c.args.self.now in let u = c.args.unit in let g = c.args.grain in
    let active : is_active_in p u g ≡ true = sym c.is_active.ensures ∙ c.if-not-is_active.false in
    let held : holds_lock u (cell_in p.cells g).holds ≡ false = sym c.is_held_by.ensures ∙ c.if-not-is_held_by.true in
    ap not c.wants.ensures ∙ (λ i. sym active i && (not (sym held i) && not (waits-in p u g))) ∙ want-is p w u g s

pub returns-else-not-is_held_by : goal.returns-else-not-is_held_by
returns-else-not-is_held_by c = λ w s.
    let p = c.args.self.now in let u = c.args.unit in let g = c.args.grain in
    let active : is_active_in p u g ≡ true = sym c.is_active.ensures ∙ c.if-not-is_active.false in
    let held : holds_lock u (cell_in p.cells g).holds ≡ true = sym c.is_held_by.ensures ∙ c.if-not-is_held_by.false in
    ap not c.if-not-is_held_by.false ∙ (λ i. sym active i && (not (sym held i) && not (waits-in p u g))) ∙ want-is p w u g s
