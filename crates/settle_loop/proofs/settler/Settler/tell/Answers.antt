use Rattle.std.proofs.Common.{inl, refl, sym, ◌∙◌}
use Rattle.settle_loop.proofs.ToldEvents.{told_in_vain, told_calmly, told_doubt, told_more, none_told}
use Rattle.settle_loop.proofs.settler.Settler.tell.Goals as goal

pub returns-in_err-reply-clause-told : goal.returns-in_err-reply-clause-told
returns-in_err-reply-clause-told g c =
    none_told g.A.Access.may_come c.args.event c.args.writes c.args.doubts c.args.self.now c.args.self.now (g.A.Access.sight c.args.access.now) (g.A.Access.sight c.put.new.access) c.from_residual.result c.from_residual.ensures.0
    (inl (record { looked = c.in_err-reply.ensures.refused; unspared = c.in_err-reply.ensures.unspared; settler = refl }))

pub returns-then-not-applied-clause-told : goal.returns-then-not-applied-clause-told
returns-then-not-applied-clause-told g c =
    let s = g.A.Access.sight c.args.access.now in
    let mid = g.A.Access.sight c.put.new.access in
    let r = c.in_ok-reply.reply in
    (r, (mid, told_in_vain g.A.Access.may_come c.args.event c.args.writes c.args.doubts c.args.self.now c.args.self.now s mid r c.in_ok-reply.ensures.told (sym c.has_applied-applied.ensures ∙ c.if-not-applied.true) refl))

pub returns-then-not-self-clause-told : goal.returns-then-not-self-clause-told
returns-then-not-self-clause-told g c =
    let s = g.A.Access.sight c.args.access.now in
    let mid = g.A.Access.sight c.put.new.access in
    let r = c.in_ok-reply.reply in
    (r, (mid, told_calmly g.A.Access.may_come c.args.event c.args.writes c.args.doubts c.args.self.now c.count.new.self s mid r c.in_ok-reply.ensures.told (sym c.has_applied-applied.ensures ∙ c.if-not-applied.false) c.count.ensures c.if-not-self.true))

pub returns-then-branch-clause-told : goal.returns-then-branch-clause-told
returns-then-branch-clause-told g c =
    let s = g.A.Access.sight c.args.access.now in
    let mid = g.A.Access.sight c.put.new.access in
    let t = g.A.Access.sight c.sees_unwritten.new.access in
    let r = c.in_ok-reply.reply in (
      r,
      (
        mid,
        told_more g.A.Access.may_come c.args.event c.args.writes c.args.doubts c.args.self.now c.count.new.self s mid r c.in_ok-reply.ensures.told
            (sym c.has_applied-applied.ensures ∙ c.if-not-applied.false) c.count.ensures c.if-not-self.false t c.sees_unwritten.ensures.looked (sym c.in_ok-sees_unwritten.ensures.answer ∙ c.if-branch.true),
      ),
    )

pub returns-clause-told : goal.returns-clause-told
returns-clause-told g c =
    let s = g.A.Access.sight c.args.access.now in
    let mid = g.A.Access.sight c.put.new.access in
    let t = g.A.Access.sight c.sees_unwritten.new.access in
    let r = c.in_ok-reply.reply in (
      r,
      (
        mid,
        (
          told_doubt g.A.Access.may_come c.args.event c.args.writes c.args.doubts c.args.self.now c.count.new.self s mid r c.in_ok-reply.ensures.told
              (sym c.has_applied-applied.ensures ∙ c.if-not-applied.false) c.count.ensures c.if-not-self.false t c.sees_unwritten.ensures.looked,
          sym c.in_ok-sees_unwritten.ensures.answer ∙ c.if-branch.false,
        ),
      ),
    )
