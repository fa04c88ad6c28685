use Rattle.std.proofs.Common.{◌∙◌, sym, inl}
use Rattle.std.proofs.lemmas.Result.{err_from_is_err_and}
use Rattle.core_access.proofs.Sights.{looks-on}
use Rattle.txn_agent.proofs.StepPromises.{knows-looks}
use Rattle.txn_agent.proofs.WishAnswers.{no_lock, no_wish, shown_here, wish_known, wish_says}
use Rattle.txn_agent.proofs.wishes.wish.Goals as goal

pub returns-in_default-clause-told : goal.returns-in_default-clause-told
returns-in_default-clause-told g c = λ types n k. inl (no_wish g.A.Access.may_come types (g.A.Access.sight c.args.access.now) c.args.carried c.args.doing.now
    (no_lock c.args.doing.now (λ x e. c.in_default.not-Some x (c.lock_of.ensures ∙ e))) k)

pub returns-then-not-is_absent-clause-told : goal.returns-then-not-is_absent-clause-told
returns-then-not-is_absent-clause-told g c = λ types n k. inl (shown_here g.A.Access.may_come types (g.A.Access.sight c.args.access.now) (g.A.Access.sight c.ask_for.new.access) c.args.carried c.in-Some.grain c.in-Some.mode
    n c.ask_for.ensures.looked c.args.doing.now (sym c.lock_of.ensures ∙ c.in-Some.is) k c.ask_for.result c.ask_for.ensures.answer c.is_absent.result c.is_absent.ensures c.if-not-is_absent.true)

pub returns-then-not-is_absent-clause-knows : goal.returns-then-not-is_absent-clause-knows
returns-then-not-is_absent-clause-knows g c = λ types n k. knows-looks g.A.Access.may_come types c.args.carried c.args.doing.now (g.A.Access.sight c.args.access.now) (g.A.Access.sight c.ask_for.new.access) c.ask_for.ensures.looked n k

pub returns-in_err-done-clause-looked : goal.returns-in_err-done-clause-looked
returns-in_err-done-clause-looked g c =
    let p = err_from_is_err_and c.from_residual.result c.from_residual.ensures.1 in
    rw p.1 (looks-on g.A.Access.may_come (g.A.Access.sight c.args.access.now) (g.A.Access.sight c.ask_for.new.access) (g.A.Access.sight c.put_want.new.access) c.ask_for.ensures.looked c.in_err-done.ensures.looked)

pub returns-in_err-done-clause-knows : goal.returns-in_err-done-clause-knows
returns-in_err-done-clause-knows g c = λ types n k. knows-looks g.A.Access.may_come types c.args.carried c.args.doing.now (g.A.Access.sight c.args.access.now) (g.A.Access.sight c.put_want.new.access)
    (looks-on g.A.Access.may_come (g.A.Access.sight c.args.access.now) (g.A.Access.sight c.ask_for.new.access) (g.A.Access.sight c.put_want.new.access) c.ask_for.ensures.looked c.in_err-done.ensures.looked) n k

pub returns-clause-told : goal.returns-clause-told
returns-clause-told g c = λ types n k. wish_says g.A.Access.may_come types (g.A.Access.sight c.args.access.now) (g.A.Access.sight c.ask_for.new.access) c.args.carried c.in-Some.grain c.in-Some.mode
    n c.ask_for.ensures.looked c.args.doing.now (sym c.lock_of.ensures ∙ c.in-Some.is) k (g.A.Access.sight c.put_want.new.access)
    c.in_ok-done.ensures.said.0 c.in_ok-done.ensures.said.1 c.in_ok-done.done c.in_ok-done.ensures.said.2 c.ask_for.result c.ask_for.ensures.answer c.is_absent.result c.is_absent.ensures c.if-not-is_absent.false

pub returns-clause-knows : goal.returns-clause-knows
returns-clause-knows g c = λ types n k. wish_known g.A.Access.may_come types (g.A.Access.sight c.args.access.now) (g.A.Access.sight c.ask_for.new.access) c.args.carried c.in-Some.grain c.in-Some.mode
    n c.ask_for.ensures.looked c.args.doing.now (sym c.lock_of.ensures ∙ c.in-Some.is) k (g.A.Access.sight c.put_want.new.access)
    c.in_ok-done.ensures.said.0 c.in_ok-done.ensures.said.1
