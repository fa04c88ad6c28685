use Rattle.std.proofs.Common.{◌≡◌, drop}
use Rattle.base_types.specs.Places.{placed_in, KeepsSeats}
use Rattle.base_types.specs.Stores.{KeepsRoom}
use Rattle.base_types.specs.declared.calls.GrainId.{GrainId}
use Rattle.batch_disk.specs.ImagesAtRest.{raised_ends}
use Rattle.batch_disk.specs.Writers.{file_end, kept_of, newest_number, IsInBounds}
use Rattle.batch_disk.specs.MovedPlaces.{moved_by_writes}
use Rattle.batch_disk.proofs.writer.BatchWriter.count_writes.Given as goal

abbrev pub invariant-loop-write : goal.invariant-loop-write
invariant-loop-write l = record {
  slot : l.self.slot ≡ l.fn.self.slot;
  gate : l.self.gate_at ≡ l.fn.self.gate_at;
  session : l.self.session ≡ l.fn.self.session;
  doubt : l.self.in_doubt ≡ l.fn.self.in_doubt;
  kept : l.self.kept ≡ l.fn.self.kept;
  programs : l.self.programs ≡ l.fn.self.programs;
  room : KeepsRoom l.fn.self.ends l.self.ends;
  seats : KeepsSeats l.fn.self.places l.self.places;
  bounds : IsInBounds l.self;
  ends : (g : GrainId) → raised_ends (file_end l.self) (drop l.write-index l.writes) g ≡ raised_ends (file_end l.fn.self) l.writes g;
  places : (g : GrainId)
      → moved_by_writes (newest_number l.fn.self) (kept_of l.fn.self) l.unit (drop l.write-index l.writes) g (placed_in l.self.places g) ≡ moved_by_writes (newest_number l.fn.self) (kept_of l.fn.self) l.unit l.writes g (placed_in l.fn.self.places g);
}
