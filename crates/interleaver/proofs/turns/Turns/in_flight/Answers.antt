use Rattle.std.proofs.Common.{◌≡◌, ◌∙◌, subst, length}
use Rattle.std.specs.Prelude.{Option}
use Rattle.unit_carrier.specs.CarriedUnits.{units_carried}
use Rattle.interleaver.specs.LastLook.{IsLooked}
use Rattle.interleaver.proofs.LastLook.{looked-many}
use Rattle.interleaver.proofs.turns.Turns.in_flight.Goals as goal

pub returns-in-Some : goal.returns-in-Some
returns-in-Some c = λ types r carried known.
    let many : c.len.result ≡ length c.args.self.now.agents.list.items = search in
    many
    ∙ looked-many types r c.args.self.now.agents.list.items carried c.in-Some._settled (subst (λ (o : Option _). IsLooked o r (units_carried c.args.self.now.agents.list.items)) c.in-Some.is known)
