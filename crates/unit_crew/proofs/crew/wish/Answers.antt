use Rattle.std.proofs.Common.{◌≡◌, refl, Some}
use Rattle.std.specs.Prelude.{slice_get}
use Rattle.std.proofs.lemmas.Option.{slice_get_read}
use Rattle.unit_crew.specs.Crews.{HasTypes}
use Rattle.unit_crew.proofs.BegunUnits.{wishes-back}
use Rattle.unit_crew.proofs.CrewKnowledge.{crew-knows, crew-so, looks-crew, own-here, wishes-so}
use Rattle.unit_crew.proofs.Works.{works-looks, works-wishes}
use Rattle.txn_agent.proofs.WishAnswers.{says-wishes}
use Rattle.unit_crew.proofs.crew.wish.Goals as goal

pub returns-in_err-wished-clause-works : goal.returns-in_err-wished-clause-works
returns-in_err-wished-clause-works g c = λ types crew. works-looks (HasTypes types) g.A.Access.may_come (g.A.Access.sight c.args.access.now) (g.A.Access.sight c.want.new.access) c.in_err-wished.ensures.looked

pub returns-in_err-wished-clause-crew : goal.returns-in_err-wished-clause-crew
returns-in_err-wished-clause-crew g c = λ types crew. looks-crew types g.A.Access.may_come (g.A.Access.sight c.args.access.now) (g.A.Access.sight c.want.new.access) c.args.agents.now.list.items crew c.in_err-wished.ensures.looked

pub returns-clause-works : goal.returns-clause-works
returns-clause-works g c = λ types crew.
    let q : slice_get c.args.agents.now.list.items c.args.index ≡ Some c.index.result.now = slice_get_read c.args.agents.now.list.items _ c.args.index c.index.result.now refl c.requires.within c.index.ensures in
    works-wishes g.A.Access.may_come types c.index.result.now.carried.unit (g.A.Access.sight c.args.access.now) (g.A.Access.sight c.want.new.access)
    (says-wishes g.A.Access.may_come types c.index.result.now.carried.unit c.index.result.now.doing (g.A.Access.sight c.args.access.now) (g.A.Access.sight c.want.new.access) c.in_ok-wished.wished
    (c.in_ok-wished.ensures.told types crew.counts (crew-knows types (g.A.Access.sight c.args.access.now) c.args.agents.now.list.items crew c.args.index c.index.result.now q)))
    (own-here types g.A.Access.may_come (g.A.Access.sight c.args.access.now) (g.A.Access.sight c.want.new.access) c.args.agents.now.list.items crew c.args.index c.index.result.now c.index.result.now q refl)

pub returns-clause-crew : goal.returns-clause-crew
returns-clause-crew g c = λ types crew.
    let q : slice_get c.args.agents.now.list.items c.args.index ≡ Some c.index.result.now = slice_get_read c.args.agents.now.list.items _ c.args.index c.index.result.now refl c.requires.within c.index.ensures in
    let knows = crew-knows types (g.A.Access.sight c.args.access.now) c.args.agents.now.list.items crew c.args.index c.index.result.now q in
    let wishes = says-wishes g.A.Access.may_come types c.index.result.now.carried.unit c.index.result.now.doing (g.A.Access.sight c.args.access.now) (g.A.Access.sight c.want.new.access) c.in_ok-wished.wished (c.in_ok-wished.ensures.told types crew.counts knows) in
    crew-so types (g.A.Access.sight c.args.access.now) (g.A.Access.sight c.want.new.access) c.args.agents.now.list.items (λ v b. wishes-back g.A.Access.may_come types c.index.result.now.carried.unit (g.A.Access.sight c.args.access.now) (g.A.Access.sight c.want.new.access) v wishes b)
    (wishes-so types g.A.Access.may_come (g.A.Access.sight c.args.access.now) (g.A.Access.sight c.want.new.access) c.args.agents.now.list.items crew c.args.index c.index.result.now c.index.result.now q refl wishes (c.want.ensures.knows types crew.counts knows))

pub returns-in_err-wished-clause-kept : goal.returns-in_err-wished-clause-kept
returns-in_err-wished-clause-kept g c = c.want.ensures.kept

pub returns-clause-kept : goal.returns-clause-kept
returns-clause-kept g c = c.want.ensures.kept
