use Rattle.host_files.proofs.folder.Folder.measure.Goals as goal

pub returns-in_err-found-clause-fine : goal.returns-in_err-found-clause-fine
returns-in_err-found-clause-fine g c = λ told same regular short. absurd ((c.in_err-found.ensures.answers told).changed same)
