use Rattle.std.proofs.Common.{◌∙◌, sym, subst, ap}
use Rattle.core_model.specs.CoreState.{UnitNo}
use Rattle.core_access.specs.Sights.{Sight, run_seen}
use Rattle.core_access.proofs.Sights.{looks-counts}
use Rattle.script_tree.specs.Programs.{program_tree}
use Rattle.txn_agent.specs.declared.work.Carried.{Carried}
use Rattle.txn_agent.specs.CoreLink.{Knows}
use Rattle.txn_agent.specs.Wishes.{LacksNoGrain}
use Rattle.unit_carrier.proofs.CarriedUnits.{looks-same}
use Rattle.unit_carrier.proofs.CarriedWishes.{has-told}
use Rattle.unit_carrier.proofs.moves.has_grain_now.Goals as goal

pub returns-in_err-ready-clause-same : goal.returns-in_err-ready-clause-same
returns-in_err-ready-clause-same g c = looks-same g.A.Access.may_come (g.A.Access.sight c.args.access.now) (g.A.Access.sight c.ready.new.access) c.requires.holds.none c.ready.ensures.looked

pub returns-clause-same : goal.returns-clause-same
returns-clause-same g c =
    looks-same g.A.Access.may_come (g.A.Access.sight c.ready.new.access) (g.A.Access.sight c.has_grain-has.new.access) c.requires.holds.none c.has_grain-has.ensures.looked
    ∙ looks-same g.A.Access.may_come (g.A.Access.sight c.args.access.now) (g.A.Access.sight c.ready.new.access) c.requires.holds.none c.ready.ensures.looked

pub returns-clause-knows : goal.returns-clause-knows
returns-clause-knows g c =
    subst (λ (s : Sight). Knows (program_tree c.args.checked.now) s c.ready.new.self)
    (sym (looks-same g.A.Access.may_come (g.A.Access.sight c.ready.new.access) (g.A.Access.sight c.has_grain-has.new.access) c.requires.holds.none c.has_grain-has.ensures.looked))
    c.in_ok-ready.ensures.knows

pub returns-clause-has : goal.returns-clause-has
returns-clause-has g c = λ is going.
    let counts = looks-counts g.A.Access.may_come (g.A.Access.sight c.args.access.now) (g.A.Access.sight c.ready.new.access) c.ready.ensures.looked c.requires.holds.counts in
    subst (λ (u : UnitNo). LacksNoGrain (program_tree c.args.checked.now) u (run_seen (g.A.Access.sight c.args.access.now))) (ap (λ (x : Carried). x.unit) c.ready.ensures.carried)
    (has-told (program_tree c.args.checked.now) g.A.Access.may_come (g.A.Access.sight c.args.access.now) (g.A.Access.sight c.ready.new.access) (g.A.Access.sight c.has_grain-has.new.access) c.ready.new.self.carried.unit c.ready.new.self.doing c.requires.holds c.ready.ensures.looked c.has_grain-has.ensures.looked c.in_ok-ready.ensures.heard
    (c.has_grain-has.ensures.has (program_tree c.args.checked.now) counts c.in_ok-ready.ensures.knows is) going)
