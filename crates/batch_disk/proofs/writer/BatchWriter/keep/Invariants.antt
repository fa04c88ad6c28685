use Rattle.std.proofs.Common.{◌≡◌, ◌+◌, ◌≤◌, ◌++◌, length, drop}
use Rattle.std.specs.Prelude.{vec_len, vec_capacity}
use Rattle.batch_disk.specs.ImagesAtRest.{voted_at}
use Rattle.batch_disk.specs.Writers.{kept_of}
use Rattle.batch_disk.proofs.writer.BatchWriter.keep.Given as goal

abbrev pub invariant-loop-at : goal.invariant-loop-at
invariant-loop-at l = record {
  slot : l.self.slot ≡ l.fn.self.slot;
  gate : l.self.gate_at ≡ l.fn.self.gate_at;
  session : l.self.session ≡ l.fn.self.session;
  doubt : l.self.in_doubt ≡ l.fn.self.in_doubt;
  batch : l.self.batch ≡ l.fn.self.batch;
  ends : l.self.ends ≡ l.fn.self.ends;
  places : l.self.places ≡ l.fn.self.places;
  programs : l.self.programs ≡ l.fn.self.programs;
  space : vec_len l.self.kept + length l.versions ≤ vec_capacity l.self.kept + l.at;
  kept : kept_of l.self ++ voted_at l.grain (drop l.at l.places) (drop l.at l.versions) ≡ kept_of l.fn.self ++ voted_at l.grain l.places l.versions;
}
