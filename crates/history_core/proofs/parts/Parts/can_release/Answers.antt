use Rattle.std.proofs.Common.{◌∙◌, sym, ap, refl, ◌&&◌}
use Rattle.cell_model.specs.Locks.{holds_lock}
use Rattle.core_model.specs.Tests.{is_over}
use Rattle.core_model.specs.declared.events.CoreEvent.TheVariants.{Release}
use Rattle.cell_table.specs.Table.{cell_in}
use Rattle.unit_table.specs.Table.{phase_in}
use Rattle.history_core.proofs.MemoryCells.{holds-at}
use Rattle.history_core.proofs.OneEvent.{tells-always}
use Rattle.history_core.proofs.parts.Parts.can_release.Goals as goal

pub returns-then-is_over : goal.returns-then-is_over
returns-then-is_over c = λ w s r.
    let p = c.args.self.now in let u = c.args.unit in let g = c.args.grain in
    let t = holds_lock u (cell_in p.cells g).holds in
    c.is_held_by.ensures ∙ ap (λ b. b && t) (sym c.if-is_over.true ∙ c.is_over.ensures)
    ∙ tells-always p (Release u g) (is_over (phase_in p.units u) && t) refl refl (λ v k q i. is_over ((sym k.units i).phase u) && holds_lock u (sym (holds-at p.cells v.cells k.cells g) i)) w s r
