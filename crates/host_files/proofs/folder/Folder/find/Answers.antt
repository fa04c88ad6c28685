use Rattle.std.proofs.Common.{is_ok, ap}
use Rattle.std.proofs.lemmas.Result.{err_from_is_err_and}
use Rattle.host_files.proofs.FileEnds.{failed_fairly, no_failure}
use Rattle.host_files.proofs.folder.Folder.find.Goals as goal

pub returns-in_err-take_folder-clause-ends : goal.returns-in_err-take_folder-clause-ends
returns-in_err-take_folder-clause-ends g c = λ told.
    let p = err_from_is_err_and c.from_residual.result c.from_residual.ensures.1 in
    failed_fairly _ _ _ _ (ap is_ok p.1) (λ well un. no_failure _ _ (c.take_folder.ensures.fine told well) c.in_err-take_folder.was) (c.take_folder.ensures.known told)
