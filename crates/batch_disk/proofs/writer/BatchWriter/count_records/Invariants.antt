use Rattle.std.proofs.Common.{◌≡◌, drop}
use Rattle.std.specs.List.{flat_map}
use Rattle.base_types.specs.Places.{placed_in, KeepsSeats}
use Rattle.base_types.specs.Stores.{KeepsRoom}
use Rattle.base_types.specs.declared.calls.GrainId.{GrainId}
use Rattle.batch_disk.specs.ImagesAtRest.{raised_ends}
use Rattle.batch_disk.specs.Writers.{file_end, kept_of, newest_number, IsInBounds}
use Rattle.batch_disk.specs.MovedPlaces.{moved_by_records}
use Rattle.batch_disk.proofs.writer.BatchWriter.count_records.Given as goal

abbrev pub invariant-loop-record : goal.invariant-loop-record
invariant-loop-record l = record {
  slot : l.self.slot ≡ l.fn.self.slot;
  gate : l.self.gate_at ≡ l.fn.self.gate_at;
  session : l.self.session ≡ l.fn.self.session;
  doubt : l.self.in_doubt ≡ l.fn.self.in_doubt;
  kept : l.self.kept ≡ l.fn.self.kept;
  programs : l.self.programs ≡ l.fn.self.programs;
  room : KeepsRoom l.fn.self.ends l.self.ends;
  seats : KeepsSeats l.fn.self.places l.self.places;
  bounds : IsInBounds l.self;
  ends : (g : GrainId) → raised_ends (file_end l.self) (flat_map (λ r. r.writes) (drop l.record-index l.records)) g ≡ raised_ends (file_end l.fn.self) (flat_map (λ r. r.writes) l.records) g;
  places : (g : GrainId)
      → moved_by_records (newest_number l.fn.self) (kept_of l.fn.self) (drop l.record-index l.records) g (placed_in l.self.places g) ≡ moved_by_records (newest_number l.fn.self) (kept_of l.fn.self) l.records g (placed_in l.fn.self.places g);
}
