use Rattle.std.proofs.Common.{◌∙◌, sym, subst}
use Rattle.core_access.specs.Sights.{Sight}
use Rattle.script_tree.specs.Programs.{program_tree}
use Rattle.txn_agent.specs.CoreLink.{Knows}
use Rattle.unit_carrier.proofs.HeardChildren.{freed-rests, move-told}
use Rattle.unit_carrier.proofs.CarriedUnits.{looks-same}
use Rattle.unit_carrier.proofs.moves.can_move_now.Goals as goal

pub returns-then-has_freed_all-clause-moves : goal.returns-then-has_freed_all-clause-moves
returns-then-has_freed_all-clause-moves g c = λ going.
    freed-rests (program_tree c.args.checked.now) g.A.Access.may_come (g.A.Access.sight c.args.access.now) c.args.agent.now c.requires.holds c.requires.knows (sym c.has_freed_all.ensures ∙ c.if-has_freed_all.true)

pub returns-in_err-ready-clause-same : goal.returns-in_err-ready-clause-same
returns-in_err-ready-clause-same g c =
    looks-same g.A.Access.may_come (g.A.Access.sight c.args.access.now) (g.A.Access.sight c.ready.new.access) c.requires.holds.none c.ready.ensures.looked

pub returns-clause-same : goal.returns-clause-same
returns-clause-same g c =
    looks-same g.A.Access.may_come (g.A.Access.sight c.ready.new.access) (g.A.Access.sight c.can_move.new.access) c.requires.holds.none c.can_move.ensures.looked
    ∙ looks-same g.A.Access.may_come (g.A.Access.sight c.args.access.now) (g.A.Access.sight c.ready.new.access) c.requires.holds.none c.ready.ensures.looked

pub returns-clause-knows : goal.returns-clause-knows
returns-clause-knows g c =
    subst (λ (s : Sight). Knows (program_tree c.args.checked.now) s c.ready.new.self)
    (sym (looks-same g.A.Access.may_come (g.A.Access.sight c.ready.new.access) (g.A.Access.sight c.can_move.new.access) c.requires.holds.none c.can_move.ensures.looked))
    c.in_ok-ready.ensures.knows

pub returns-clause-moves : goal.returns-clause-moves
returns-clause-moves g c = λ going.
    move-told (program_tree c.args.checked.now) g.A.Access.may_come (g.A.Access.sight c.args.access.now) (g.A.Access.sight c.ready.new.access) (g.A.Access.sight c.can_move.new.access)
    c.args.agent.now c.ready.new.self c.in_ok-moves.moves c.requires.holds c.ready.ensures.looked c.can_move.ensures.looked
    c.ready.ensures.carried c.in_ok-ready.ensures.knows c.in_ok-ready.ensures.heard (c.in_ok-moves.ensures.moves (program_tree c.args.checked.now)) going
