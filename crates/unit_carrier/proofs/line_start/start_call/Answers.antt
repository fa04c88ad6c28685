use Rattle.std.proofs.Common.{inl, inr, refl, sym, ◌∙◌}
use Rattle.std.specs.Prelude.{not}
use Rattle.std.proofs.lemmas.Result.{err_from_is_err_and}
use Rattle.core_access.proofs.Sights.{looks-none}
use Rattle.script_tree.specs.Programs.{program_tree}
use Rattle.unit_carrier.proofs.LineUnit.{carries-call, makes-transaction, puts-call, starts-call}
use Rattle.unit_carrier.proofs.line_start.start_call.Goals as goal

pub returns-in_ok-carry-in-Some-clause-starts : goal.returns-in_ok-carry-in-Some-clause-starts
returns-in_ok-carry-in-Some-clause-starts g c =
    starts-call (program_tree c.args.checked.now) g.A.Access.may_come (g.A.Access.sight c.args.access.now) (g.A.Access.sight c.put.new.access) c.args.line c.args.call.now c.in_ok-call.call c.in_ok-call.ensures (not c.makes_transaction-plain.result)
    (makes-transaction (program_tree c.args.checked.now) c.args.call.now c.makes_transaction-plain.result c.makes_transaction-plain.ensures) c.in_ok-reply.reply c.in_ok-reply.ensures.told
    _ (sym c.in-Some.is ∙ c.begun-began.ensures) c.args.agents.now.list.items c.carry.new.self.list.items
    (carries-call (program_tree c.args.checked.now) c.in-Some.unit c.args.line c.args.call.now c.in_ok-asked.asked (not c.makes_transaction-plain.result) c.args.agents.now.list.items c.carry.new.self.list.items c.in_ok-asked.ensures c.in_ok-carry-in-Some.ensures)

pub returns-in_err-asked-clause-kept : goal.returns-in_err-asked-clause-kept
returns-in_err-asked-clause-kept g c = record { fit = c.requires.fit; aside = refl }

pub returns-in_err-asked-clause-put : goal.returns-in_err-asked-clause-put
returns-in_err-asked-clause-put g c =
    let q = err_from_is_err_and c.from_residual.result c.from_residual.ensures.1 in rw q.1 (inl (looks-none g.A.Access.may_come (g.A.Access.sight c.args.access.now)))

pub returns-in_err-asked-clause-same : goal.returns-in_err-asked-clause-same
returns-in_err-asked-clause-same g c =
    let q = err_from_is_err_and c.from_residual.result c.from_residual.ensures.1 in rw q.1 refl

pub returns-in_err-asked-clause-starts : goal.returns-in_err-asked-clause-starts
returns-in_err-asked-clause-starts g c =
    let q = err_from_is_err_and c.from_residual.result c.from_residual.ensures.1 in rw q.1 tt

pub returns-in_err-call-clause-kept : goal.returns-in_err-call-clause-kept
returns-in_err-call-clause-kept g c = record { fit = c.requires.fit; aside = refl }

pub returns-in_err-call-clause-put : goal.returns-in_err-call-clause-put
returns-in_err-call-clause-put g c =
    let q = err_from_is_err_and c.from_residual-in_err-call.result c.from_residual-in_err-call.ensures.1 in rw q.1 (inl (looks-none g.A.Access.may_come (g.A.Access.sight c.args.access.now)))

pub returns-in_err-call-clause-same : goal.returns-in_err-call-clause-same
returns-in_err-call-clause-same g c =
    let q = err_from_is_err_and c.from_residual-in_err-call.result c.from_residual-in_err-call.ensures.1 in rw q.1 refl

pub returns-in_err-call-clause-starts : goal.returns-in_err-call-clause-starts
returns-in_err-call-clause-starts g c =
    let q = err_from_is_err_and c.from_residual-in_err-call.result c.from_residual-in_err-call.ensures.1 in rw q.1 tt

pub returns-in_err-reply-clause-kept : goal.returns-in_err-reply-clause-kept
returns-in_err-reply-clause-kept g c = c.put.ensures.kept

pub returns-in_err-reply-clause-put : goal.returns-in_err-reply-clause-put
returns-in_err-reply-clause-put g c =
    let q = err_from_is_err_and c.from_residual-in_err-reply.result c.from_residual-in_err-reply.ensures.1 in rw q.1 (inl c.in_err-reply.ensures.refused)

pub returns-in_err-reply-clause-same : goal.returns-in_err-reply-clause-same
returns-in_err-reply-clause-same g c =
    let q = err_from_is_err_and c.from_residual-in_err-reply.result c.from_residual-in_err-reply.ensures.1 in rw q.1 refl

pub returns-in_err-reply-clause-starts : goal.returns-in_err-reply-clause-starts
returns-in_err-reply-clause-starts g c =
    let q = err_from_is_err_and c.from_residual-in_err-reply.result c.from_residual-in_err-reply.ensures.1 in rw q.1 tt

pub returns-in_err-carry-in-Some-clause-kept : goal.returns-in_err-carry-in-Some-clause-kept
returns-in_err-carry-in-Some-clause-kept g c = c.put.ensures.kept

pub returns-in_err-carry-in-Some-clause-put : goal.returns-in_err-carry-in-Some-clause-put
returns-in_err-carry-in-Some-clause-put g c =
    let q = err_from_is_err_and c.from_residual-in_err-carry-in-Some.result c.from_residual-in_err-carry-in-Some.ensures.1 in rw q.1 (inr (
      c.in_ok-reply.reply,
      puts-call (program_tree c.args.checked.now) g.A.Access.may_come (g.A.Access.sight c.args.access.now) (g.A.Access.sight c.put.new.access) c.args.line c.args.call.now c.in_ok-call.call c.in_ok-call.ensures (not c.makes_transaction-plain.result)
          (makes-transaction (program_tree c.args.checked.now) c.args.call.now c.makes_transaction-plain.result c.makes_transaction-plain.ensures) c.in_ok-reply.reply c.in_ok-reply.ensures.told,
    ))

pub returns-in_err-carry-in-Some-clause-same : goal.returns-in_err-carry-in-Some-clause-same
returns-in_err-carry-in-Some-clause-same g c =
    let q = err_from_is_err_and c.from_residual-in_err-carry-in-Some.result c.from_residual-in_err-carry-in-Some.ensures.1 in rw q.1 c.in_err-carry-in-Some.ensures

pub returns-in_err-carry-in-Some-clause-starts : goal.returns-in_err-carry-in-Some-clause-starts
returns-in_err-carry-in-Some-clause-starts g c =
    let q = err_from_is_err_and c.from_residual-in_err-carry-in-Some.result c.from_residual-in_err-carry-in-Some.ensures.1 in rw q.1 tt

pub returns-in_ok-carry-in-Some-clause-kept : goal.returns-in_ok-carry-in-Some-clause-kept
returns-in_ok-carry-in-Some-clause-kept g c = c.put.ensures.kept

pub returns-in-None-clause-kept : goal.returns-in-None-clause-kept
returns-in-None-clause-kept g c = c.put.ensures.kept

pub returns-in-None-clause-starts : goal.returns-in-None-clause-starts
returns-in-None-clause-starts g c =
    starts-call (program_tree c.args.checked.now) g.A.Access.may_come (g.A.Access.sight c.args.access.now) (g.A.Access.sight c.put.new.access) c.args.line c.args.call.now c.in_ok-call.call c.in_ok-call.ensures (not c.makes_transaction-plain.result)
    (makes-transaction (program_tree c.args.checked.now) c.args.call.now c.makes_transaction-plain.result c.makes_transaction-plain.ensures) c.in_ok-reply.reply c.in_ok-reply.ensures.told
    _ (sym c.in-None.is ∙ c.begun-began.ensures) c.args.agents.now.list.items c.args.agents.now.list.items refl
