use Rattle.std.proofs.Common.{inl, subst, ap}
use Rattle.core_model.specs.CoreState.{UnitNo}
use Rattle.core_access.specs.Sights.{Sight}
use Rattle.core_access.proofs.Sights.{looks-counts, looks-on}
use Rattle.script_tree.specs.Programs.{program_tree}
use Rattle.txn_agent.specs.declared.work.Carried.{Carried}
use Rattle.txn_agent.specs.Wishes.{Wishes}
use Rattle.txn_agent.proofs.WishAnswers.{says-wishes}
use Rattle.unit_carrier.specs.CarriedUnits.{WishesAt}
use Rattle.unit_carrier.proofs.CarriedUnits.{looks-same}
use Rattle.unit_carrier.proofs.CarriedWishes.{wish-told}
use Rattle.unit_carrier.proofs.moves.want_now.Goals as goal

pub returns-in_err-ready-clause-wishes : goal.returns-in_err-ready-clause-wishes
returns-in_err-ready-clause-wishes g c = inl c.ready.ensures.looked

pub returns-in_err-wished-clause-wishes : goal.returns-in_err-wished-clause-wishes
returns-in_err-wished-clause-wishes g c =
    inl (looks-on g.A.Access.may_come (g.A.Access.sight c.args.access.now) (g.A.Access.sight c.ready.new.access) (g.A.Access.sight c.want.new.access) c.ready.ensures.looked c.in_err-wished.ensures.looked)

pub returns-clause-wishes : goal.returns-clause-wishes
returns-clause-wishes g c =
    let types = program_tree c.args.checked.now in
    let one = looks-same g.A.Access.may_come (g.A.Access.sight c.args.access.now) (g.A.Access.sight c.ready.new.access) c.requires.holds.none c.ready.ensures.looked in
    let counts = looks-counts g.A.Access.may_come (g.A.Access.sight c.args.access.now) (g.A.Access.sight c.ready.new.access) c.ready.ensures.looked c.requires.holds.counts in
    subst (λ (u : UnitNo). Wishes g.A.Access.may_come types u (g.A.Access.sight c.args.access.now) (g.A.Access.sight c.want.new.access)) (ap (λ (x : Carried). x.unit) c.ready.ensures.carried)
    (subst (λ (x : Sight). Wishes g.A.Access.may_come types c.ready.new.self.carried.unit x (g.A.Access.sight c.want.new.access)) one
    (says-wishes g.A.Access.may_come types c.ready.new.self.carried.unit c.ready.new.self.doing (g.A.Access.sight c.ready.new.access) (g.A.Access.sight c.want.new.access) c.in_ok-wished.wished
    (c.in_ok-wished.ensures.told types counts c.in_ok-ready.ensures.knows)))

pub returns-clause-knows : goal.returns-clause-knows
returns-clause-knows g c =
    let counts = looks-counts g.A.Access.may_come (g.A.Access.sight c.args.access.now) (g.A.Access.sight c.ready.new.access) c.ready.ensures.looked c.requires.holds.counts in
    c.want.ensures.knows (program_tree c.args.checked.now) counts c.in_ok-ready.ensures.knows

pub returns-clause-told : goal.returns-clause-told
returns-clause-told g c =
    let types = program_tree c.args.checked.now in
    let counts = looks-counts g.A.Access.may_come (g.A.Access.sight c.args.access.now) (g.A.Access.sight c.ready.new.access) c.ready.ensures.looked c.requires.holds.counts in
    subst (λ (u : UnitNo). WishesAt types u (g.A.Access.sight c.args.access.now) (g.A.Access.sight c.want.new.access) c.in_ok-wished.wished) (ap (λ (x : Carried). x.unit) c.ready.ensures.carried)
    (wish-told types g.A.Access.may_come (g.A.Access.sight c.args.access.now) (g.A.Access.sight c.ready.new.access) (g.A.Access.sight c.want.new.access) c.ready.new.self.carried.unit c.ready.new.self.doing c.in_ok-wished.wished
    c.requires.holds c.ready.ensures.looked c.in_ok-ready.ensures.heard (c.in_ok-wished.ensures.told types counts c.in_ok-ready.ensures.knows))
