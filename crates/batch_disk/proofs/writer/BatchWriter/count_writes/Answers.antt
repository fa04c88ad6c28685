use Rattle.std.proofs.Common.{◌≡◌, true, List, get_or, map, refl, sym, ap, ◌∙◌}
use Rattle.base_types.specs.Places.{placed_in, has_seat}
use Rattle.base_types.specs.declared.calls.GrainId.{GrainId}
use Rattle.commit_log.specs.declared.records.Written.{Written}
use Rattle.batch_disk.specs.ImagesAtRest.{Voted, raised_end, raised_ends}
use Rattle.program_file.specs.ProgramsInTurn.{newest_in}
use Rattle.batch_disk.specs.Writers.{file_end, voted_by, kept_of, newest_number}
use Rattle.batch_disk.specs.MovedPlaces.{moved_by_write, moved_by_writes}
use Rattle.batch_disk.specs.declared.writer.BatchWriter.{BatchWriter}
use Rattle.batch_disk.proofs.Lists.{each_at}
use Rattle.batch_disk.proofs.Ends.{next_raised}
use Rattle.batch_disk.proofs.SealSteps.{WriteCanCount}
use Rattle.batch_disk.proofs.FileEnds.{raise_is, raised_bounds}
use Rattle.batch_disk.proofs.MovedPlaces.{next_write}
use Rattle.batch_disk.proofs.writer.BatchWriter.count_writes.Goals as goal

pub raise-requires : goal.raise-requires
raise-requires c =
    c.loop-write.invariant.room _
    (each_at (WriteCanCount c.args.self.now) c.args.writes.now c.loop-write.write-index (record { grain = record { kind = 0; key = 0 }; place = record { offset = 0; len = 0 } }) c.requires.can c.loop-write-test.true).0

pub move_place-requires : goal.move_place-requires
move_place-requires c =
    c.loop-write.invariant.seats _
    (each_at (λ (w : Written). has_seat c.args.self.now.places w.grain ≡ true) c.args.writes.now c.loop-write.write-index (record { grain = record { kind = 0; key = 0 }; place = record { offset = 0; len = 0 } }) c.requires.seats c.loop-write-test.true)

pub loop-write-preserved : goal.loop-write-preserved
loop-write-preserved c =
    let ws = c.args.writes.now in
    let i = c.loop-write.write-index in
    let d : Written = record { grain = record { kind = 0; key = 0 }; place = record { offset = 0; len = 0 } } in
    let w : Written = get_or ws i d in
    let a = c.loop-write.self in
    let b : BatchWriter = record { slot = a.slot; session = a.session; gate_at = a.gate_at; ends = c.raise.new.self; places = c.move_place.new.places; programs = a.programs; batch = a.batch; kept = a.kept; in_doubt = a.in_doubt } in
    let can : WriteCanCount c.args.self.now w = each_at (WriteCanCount c.args.self.now) ws i d c.requires.can c.loop-write-test.true in
    let before = c.args.self.now in
    let kept : List Voted = kept_of before in
    let these : map voted_by c.as_slice.result.now ≡ kept = ap (map voted_by) (c.as_slice.ensures.value ∙ ap (λ k. k.items) c.loop-write.invariant.kept) in
    let moved : (g : GrainId) → placed_in b.places g ≡ moved_by_write (newest_number before) kept c.args.unit w.grain g (placed_in a.places g) =
    λ g. c.move_place.ensures.moved g ∙ (λ i. moved_by_write (c.newest-program.ensures i) (these i) c.args.unit w.grain g (placed_in a.places g)) in
    let ends : (h : GrainId) → file_end b h ≡ raised_end (file_end a) w h = raise_is a.ends c.raise.new.self w c.raise.ensures.raised in
    record {
      slot = c.loop-write.invariant.slot;
      gate = c.loop-write.invariant.gate;
      session = c.loop-write.invariant.session;
      doubt = c.loop-write.invariant.doubt;
      kept = c.loop-write.invariant.kept;
      programs = c.loop-write.invariant.programs;
      room = λ g there. c.raise.ensures.room g (c.loop-write.invariant.room g there);
      bounds = raised_bounds a b c.args.unit w refl refl refl refl
          (λ g. moved g ∙ (λ i. moved_by_write (newest_in (sym c.loop-write.invariant.programs i)) (map voted_by (sym c.loop-write.invariant.kept i).items) c.args.unit w.grain g (placed_in a.places g)))
          refl c.raise.ensures.room c.move_place.ensures.seats ends can.1 c.loop-write.invariant.bounds;
      ends = λ g. next_raised (file_end a) (file_end b) (λ (h : GrainId). raised_ends (file_end c.args.self.now) ws h) ws i d g c.loop-write-test.true ends (c.loop-write.invariant.ends g);
      seats = λ g there. c.move_place.ensures.seats g (c.loop-write.invariant.seats g there);
      places = λ g.
          next_write (newest_number before) kept c.args.unit ws i d g c.loop-write-test.true (placed_in a.places g) (placed_in b.places g) (moved g)
          (moved_by_writes (newest_number before) kept c.args.unit ws g (placed_in c.args.self.now.places g)) (c.loop-write.invariant.places g);
    }
