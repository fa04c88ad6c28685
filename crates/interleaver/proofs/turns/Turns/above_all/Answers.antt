use Rattle.std.proofs.Common.{◌≡◌, ◌∙◌, ◌-◌, sym, ap, subst, arith, List, Some}
use Rattle.std.specs.Prelude.{length, slice_get}
use Rattle.std.specs.Option.{option_copied}
use Rattle.core_model.specs.CoreState.{UnitNo}
use Rattle.txn_agent.specs.declared.agent.Agent.{Agent}
use Rattle.interleaver.proofs.SureTurns.{last-below}
use Rattle.interleaver.proofs.turns.Turns.above_all.Goals as goal

pub returns-in-Some : goal.returns-in-Some
returns-in-Some c = λ n below.
    let at : slice_get c.deref.result.now (length c.deref.result.now - 1) ≡ Some c.in-Some.agent.now = sym c.last.ensures.value ∙ ap option_copied c.in-Some.is in
    let here : slice_get c.args.self.now.agents.list.items (length c.args.self.now.agents.list.items - 1) ≡ Some c.in-Some.agent.now =
    subst (λ (l : List Agent). slice_get l (length l - 1) ≡ Some c.in-Some.agent.now) c.deref.ensures.value at in
    let low = last-below c.args.self.now.agents.list.items c.in-Some.agent.now n here below in
    let is = ap (λ (u : UnitNo). u.0) c.unit.ensures in
    let sum = c.saturating_add.ensures in
    omega (arith, low, is, sum)
