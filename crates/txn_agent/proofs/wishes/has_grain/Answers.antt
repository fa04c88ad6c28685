use Rattle.std.proofs.Common.{◌∙◌, sym}
use Rattle.txn_agent.proofs.ShownGrains.{none_lacked, shown_lacked}
use Rattle.txn_agent.proofs.WishAnswers.{no_lock}
use Rattle.txn_agent.proofs.wishes.has_grain.Goals as goal

pub returns-in_default-clause-has : goal.returns-in_default-clause-has
returns-in_default-clause-has g c = λ types n k is. none_lacked types (g.A.Access.sight c.args.access.now) c.args.carried c.args.doing.now
    (no_lock c.args.doing.now (λ x e. c.in_default.not-Some x (c.lock_of.ensures ∙ e))) k

pub returns-clause-has : goal.returns-clause-has
returns-clause-has g c = λ types n k is. shown_lacked g.A.Access.may_come types (g.A.Access.sight c.args.access.now) (g.A.Access.sight c.ask_for.new.access) c.args.carried c.in-Some.grain c.in-Some.mode
    n c.ask_for.ensures.looked c.args.doing.now (sym c.lock_of.ensures ∙ c.in-Some.is) k c.ask_for.result c.ask_for.ensures.answer c.shows_grain.result c.shows_grain.ensures is
