use Rattle.std.proofs.Common.{◌∙◌, ap, rules, subst, refl, sym, IsSome, Some}
use Rattle.std.proofs.lemmas.Int.{to_z-of_z}
use mir.Syntax.{w64}
use mir.Val.{SFits}
use Rattle.silo_nodes.specs.LogCache.{settled_cell}
use Rattle.silo_nodes.proofs.Ledger.{one-written}
use Rattle.silo_nodes.proofs.cells.settle_one.Goals as goal

pub returns-in-Some : goal.returns-in-Some
returns-in-Some c =
    let wrote = (c.get_mut.follows.holds c.after.result).3 (subst IsSome c.in-Some.ensures.value refl) in
    let fits : SFits w64 c.args.shift.delta = search rules in
    one-written c.args.cells.now (c.get_mut.follows.lender c.after.result) c.args.shift.grain c.in-Some.cell.now c.after.result c.args.shift.delta c.args.commit
    (sym c.in-Some.ensures.value) wrote.1 wrote.2 (c.after.ensures ∙ ap (λ d. settled_cell c.args.commit d (Some c.in-Some.cell.now)) (to_z-of_z w64 c.args.shift.delta fits))
