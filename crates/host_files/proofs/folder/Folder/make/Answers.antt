use Rattle.host_files.proofs.folder.Folder.make.Goals as goal

pub returns-in_err-opened-clause-fine : goal.returns-in_err-opened-clause-fine
returns-in_err-opened-clause-fine g c = λ told well taken. absurd ((c.in_err-opened.ensures.answers told).changed well.unrefused)
