use Rattle.std.proofs.Common.{subst, List}
use Rattle.batch_disk.specs.ImagesAtRest.{Voted}
use Rattle.batch_disk.specs.Writers.{kept_of, voted_of}
use Rattle.batch_disk.specs.Records.{AreRecordsFor}
use Rattle.batch_disk.proofs.BatchRecords.{all_kept}
use Rattle.batch_disk.proofs.MovedPlaces.{own_places}
use Rattle.batch_disk.proofs.WriterState.{voted_within}
use Rattle.batch_disk.proofs.writer.BatchWriter.prepare.Goals as goal

pub returns-in-Ok-clause-sealable : goal.returns-in-Ok-clause-sealable
returns-in-Ok-clause-sealable c =
    let a = c.args.self.now in
    let es = c.args.effects in
    let rs = c.in-Ok.work.records in
    let are : AreRecordsFor (voted_of c.args.batch a) es rs = subst (λ (vs : List Voted). AreRecordsFor vs es rs) c.votes_of-votes.ensures c.in-Ok.ensures.records in
    record { fits = c.in-Ok.ensures.fits; small = c.in-Ok.ensures.small; block = c.in-Ok.ensures.block; kept = all_kept (voted_of c.args.batch a) (kept_of a) (voted_within a c.args.batch) es rs are; own = own_places a c.args.batch es rs are }
