use Rattle.std.proofs.Common.{ℕ, Option, refl, ap}
use Rattle.std.specs.Prelude.{unwrap_or}
use Rattle.batch_disk.proofs.writer.BatchWriter.make_room.Goals as goal

pub returns-in_err-reserve-clause-same : goal.returns-in_err-reserve-clause-same
returns-in_err-reserve-clause-same c = record { slot = refl; gate = refl; session = refl; ends = λ g. refl; places = λ g. refl; programs = refl; doubt = refl }

pub returns-in_err-room-clause-same : goal.returns-in_err-room-clause-same
returns-in_err-room-clause-same c = record { slot = refl; gate = refl; session = refl; ends = λ g. ap (λ (end : Option ℕ). unwrap_or end 0) (c.room.ensures.same g); places = λ g. refl; programs = refl; doubt = refl }

pub returns-in_err-room-2-clause-same : goal.returns-in_err-room-2-clause-same
returns-in_err-room-2-clause-same c = record { slot = refl; gate = refl; session = refl; ends = λ g. ap (λ (end : Option ℕ). unwrap_or end 0) (c.room.ensures.same g); places = c.room-2.ensures.same; programs = refl; doubt = refl }

pub returns-clause-same : goal.returns-clause-same
returns-clause-same c = record { slot = refl; gate = refl; session = refl; ends = λ g. ap (λ (end : Option ℕ). unwrap_or end 0) (c.room.ensures.same g); places = c.room-2.ensures.same; programs = refl; doubt = refl }
