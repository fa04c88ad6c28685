use Rattle.std.proofs.Common.{inl, refl}
use Rattle.std.proofs.lemmas.Result.{err_from_is_err_and}
use Rattle.unit_carrier.proofs.line_start.start_line.Goals as goal

pub returns-in-Ok-clause-kept : goal.returns-in-Ok-clause-kept
returns-in-Ok-clause-kept g c = c.start_call.ensures.kept

pub returns-in-Ok-clause-put : goal.returns-in-Ok-clause-put
returns-in-Ok-clause-put g c = rw c.in-Ok.is c.start_call.ensures.put

pub returns-in-Ok-clause-same : goal.returns-in-Ok-clause-same
returns-in-Ok-clause-same g c = c.start_call.ensures.same

pub returns-in-Ok-clause-starts : goal.returns-in-Ok-clause-starts
returns-in-Ok-clause-starts g c = rw c.in-Ok.is c.start_call.ensures.starts

pub returns-in_err-reply-in-Err-clause-kept : goal.returns-in_err-reply-in-Err-clause-kept
returns-in_err-reply-in-Err-clause-kept g c = c.put.ensures.kept

pub returns-in_err-reply-in-Err-clause-put : goal.returns-in_err-reply-in-Err-clause-put
returns-in_err-reply-in-Err-clause-put g c =
    let q = err_from_is_err_and c.from_residual.result c.from_residual.ensures.1 in rw q.1 (inl c.in_err-reply-in-Err.ensures.refused)

pub returns-in_err-reply-in-Err-clause-same : goal.returns-in_err-reply-in-Err-clause-same
returns-in_err-reply-in-Err-clause-same g c =
    let q = err_from_is_err_and c.from_residual.result c.from_residual.ensures.1 in rw q.1 refl

pub returns-in_err-reply-in-Err-clause-starts : goal.returns-in_err-reply-in-Err-clause-starts
returns-in_err-reply-in-Err-clause-starts g c =
    let q = err_from_is_err_and c.from_residual.result c.from_residual.ensures.1 in rw q.1 tt

pub returns-in_ok-reply-in-Err-clause-kept : goal.returns-in_ok-reply-in-Err-clause-kept
returns-in_ok-reply-in-Err-clause-kept g c = c.put.ensures.kept

pub returns-in_ok-reply-in-Err-clause-starts : goal.returns-in_ok-reply-in-Err-clause-starts
returns-in_ok-reply-in-Err-clause-starts g c = rw c.in-Err.is (record { r = c.in_ok-reply-in-Err.reply; told = c.in_ok-reply-in-Err.ensures.told; is = refl; same = refl })
