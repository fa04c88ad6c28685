use Rattle.std.proofs.Common.{◌∙◌, sym, ap, refl, ◌&&◌, not}
use Rattle.core_model.specs.Tests.{is_wanted}
use Rattle.core_model.specs.declared.events.CoreEvent.TheVariants.{Load}
use Rattle.cell_table.specs.Table.{here_in}
use Rattle.unit_table.specs.Table.{wants_in}
use Rattle.history_core.proofs.Loads.{can-load-is}
use Rattle.history_core.proofs.OneEvent.{tells-going}
use Rattle.history_core.proofs.parts.Parts.can_load.Goals as goal

pub returns-then-is_going : goal.returns-then-is_going
returns-then-is_going c = λ u state w s r.
    let p = c.args.self.now in
    let t = not (here_in p.cells c.args.grain) && is_wanted (wants_in p.units) c.args.grain in
    c.may_load.ensures ∙ ap (λ b. b && t) (sym c.if-is_going.true)
    ∙ tells-going p (Load c.args.grain u state) c.is_going.result t refl refl c.is_going.ensures (λ v k q. can-load-is p v c.args.grain u state k) w s r
