use Rattle.std.proofs.Common.{refl}
use Rattle.script_machine.specs.declared.machine.Pause.TheVariants.{NeedUnit, Done}
use Rattle.txn_agent.proofs.ComposedSteps.{looks_self}
use Rattle.txn_agent.proofs.ShownMoves.{grain_all, other_all, waiting_all, freeing_all, stopped_all}
use Rattle.txn_agent.proofs.steps.moves_now.Goals as goal

pub returns-in-NeedGrain-clause-moves : goal.returns-in-NeedGrain-clause-moves
returns-in-NeedGrain-clause-moves g c = λ types n k.
    grain_all g.A.Access.may_come types (g.A.Access.sight c.args.access.now) (g.A.Access.sight c.ask_for-answer.new.access) c.args.carried c.ask_for-answer.ensures.looked n c.args.doing.now k c.in-Asks.work c.in-Asks.pause c.in-NeedGrain.grain c.in-NeedGrain.mode c.ask_for-answer.result c.must_wait.result
    c.in-Asks.is c.in-NeedGrain.is c.ask_for-answer.ensures.answer c.must_wait.ensures

pub returns-in-NeedUnit-clause-moves : goal.returns-in-NeedUnit-clause-moves
returns-in-NeedUnit-clause-moves g c = λ types n k.
    other_all g.A.Access.may_come types (g.A.Access.sight c.args.access.now) (g.A.Access.sight c.args.access.now) c.args.carried (looks_self g.A.Access.may_come (g.A.Access.sight c.args.access.now)) n c.args.doing.now k c.in-Asks.work c.in-Asks.pause (NeedUnit c.in-NeedUnit.call c.in-NeedUnit.depth) c.in-Asks.is c.in-NeedUnit.is refl

pub returns-in-Done-clause-moves : goal.returns-in-Done-clause-moves
returns-in-Done-clause-moves g c = λ types n k.
    other_all g.A.Access.may_come types (g.A.Access.sight c.args.access.now) (g.A.Access.sight c.args.access.now) c.args.carried (looks_self g.A.Access.may_come (g.A.Access.sight c.args.access.now)) n c.args.doing.now k c.in-Asks.work c.in-Asks.pause (Done c.in-Done.outcome) c.in-Asks.is c.in-Done.is refl

pub returns-in_ok-decided-in-Awaits-clause-moves : goal.returns-in_ok-decided-in-Awaits-clause-moves
returns-in_ok-decided-in-Awaits-clause-moves g c = λ types n k.
    waiting_all g.A.Access.may_come types (g.A.Access.sight c.args.access.now) (g.A.Access.sight c.is_decided.new.access) c.args.carried c.is_decided.ensures.looked n c.args.doing.now k c.in-Awaits.work c.in-Awaits.child c.in_ok-decided-in-Awaits.decided c.in-Awaits.is c.in_ok-decided-in-Awaits.ensures.answer

pub returns-in-Frees-clause-moves : goal.returns-in-Frees-clause-moves
returns-in-Frees-clause-moves g c = λ types n k.
    freeing_all g.A.Access.may_come types (g.A.Access.sight c.args.access.now) (g.A.Access.sight c.args.access.now) c.args.carried (looks_self g.A.Access.may_come (g.A.Access.sight c.args.access.now)) n c.args.doing.now k c.in-Frees.held c.is_empty.result c.in-Frees.is c.is_empty.ensures

pub returns-in-Stopped-clause-moves : goal.returns-in-Stopped-clause-moves
returns-in-Stopped-clause-moves g c = λ types n k. stopped_all g.A.Access.may_come types (g.A.Access.sight c.args.access.now) (g.A.Access.sight c.args.access.now) c.args.carried (looks_self g.A.Access.may_come (g.A.Access.sight c.args.access.now)) n c.args.doing.now k c.in-Stopped.is
