use Rattle.std.proofs.Common.{is_ok, ap}
use Rattle.std.proofs.lemmas.Result.{err_from_is_err_and}
use Rattle.host_files.proofs.FileEnds.{ended_ill, no_failure}
use Rattle.host_files.proofs.folder.Folder.sync.Goals as goal

pub invariant_of-self-2-clause-keeps : goal.invariant_of-self-2-clause-keeps
invariant_of-self-2-clause-keeps g c = λ told.
    c.keep.ensures.stay g.S.SystemCalls.is_regular (c.sync_entries.new.self.keeps told) (c.in_ok-opened.ensures.regular told)

pub returns-in_err-refuse_lost-clause-ends : goal.returns-in_err-refuse_lost-clause-ends
returns-in_err-refuse_lost-clause-ends g c =
    let p = err_from_is_err_and c.from_residual.result c.from_residual.ensures.1 in
    ended_ill _ _ _ _ _ _ (ap is_ok p.1) (λ told well un. no_failure _ _ (c.refuse_lost.ensures.calm un.0.believed) c.in_err-refuse_lost.was)
