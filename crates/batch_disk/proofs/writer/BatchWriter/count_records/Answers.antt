use Rattle.std.proofs.Common.{◌≡◌, ℕ, true, List, map, sym, subst, ap, ◌∙◌}
use Rattle.std.specs.List.{flat_map, AllByRecursion}
use Rattle.base_types.specs.Places.{placed_in, has_seat}
use Rattle.base_types.specs.declared.calls.GrainId.{GrainId}
use Rattle.commit_log.specs.declared.records.Written.{Written}
use Rattle.batch_disk.specs.ImagesAtRest.{Voted, raised_ends}
use Rattle.program_file.specs.ProgramsInTurn.{newest_in}
use Rattle.batch_disk.specs.Writers.{file_end, voted_by, kept_of, newest_number}
use Rattle.batch_disk.specs.MovedPlaces.{moved_by_writes, moved_by_records}
use Rattle.batch_disk.proofs.Ends.{next_record}
use Rattle.batch_disk.proofs.SealSteps.{WriteCanCount}
use Rattle.batch_disk.proofs.FileEnds.{writes_can_still, record_can, writes_seated_still, record_seated}
use Rattle.batch_disk.proofs.MovedPlaces.{next_moved}
use Rattle.batch_disk.proofs.writer.BatchWriter.count_records.Goals as goal

pub count_writes-requires-clause-can : goal.count_writes-requires-clause-can
count_writes-requires-clause-can c =
    let a = c.args.self.now in
    let r = c.record-item.result in
    subst (AllByRecursion (WriteCanCount c.loop-record.self)) (sym c.as_slice.ensures)
    (writes_can_still a c.loop-record.self r.writes c.loop-record.invariant.room (record_can a c.args.records.now c.loop-record.record-index r c.requires.can c.loop-record-test.true c.record-item.is))

pub count_writes-requires-clause-seats : goal.count_writes-requires-clause-seats
count_writes-requires-clause-seats c =
    let a = c.args.self.now in
    let r = c.record-item.result in
    subst (AllByRecursion (λ w. has_seat c.loop-record.self.places w.grain ≡ true)) (sym c.as_slice.ensures)
    (writes_seated_still a c.loop-record.self r.writes c.loop-record.invariant.seats (record_seated a c.args.records.now c.loop-record.record-index r c.requires.seats c.loop-record-test.true c.record-item.is))

pub loop-record-preserved : goal.loop-record-preserved
loop-record-preserved c =
    let rs = c.args.records.now in
    let so_far = c.loop-record.invariant in
    record {
      slot = c.count_writes.ensures.slot ∙ so_far.slot;
      gate = c.count_writes.ensures.gate ∙ so_far.gate;
      session = c.count_writes.ensures.session ∙ so_far.session;
      doubt = c.count_writes.ensures.doubt ∙ so_far.doubt;
      kept = c.count_writes.ensures.kept ∙ so_far.kept;
      programs = c.count_writes.ensures.programs ∙ so_far.programs;
      room = λ g there. c.count_writes.ensures.room g (so_far.room g there);
      bounds = c.count_writes.ensures.bounds;
      ends = λ g. next_record (file_end c.loop-record.self) (file_end c.count_writes.new.self) (λ (h : GrainId). raised_ends (file_end c.args.self.now) (flat_map (λ r. r.writes) rs) h)
          rs c.loop-record.record-index c.record-item.result g c.loop-record-test.true c.record-item.is
          (λ h. c.count_writes.ensures.ends h ∙ ap (λ (ws : List Written). raised_ends (file_end c.loop-record.self) ws h) c.as_slice.ensures) (so_far.ends g);
      seats = λ g there. c.count_writes.ensures.kept_seats g (so_far.seats g there);
      places = λ g.
          let kept : List Voted = kept_of c.args.self.now in
          let r = c.record-item.result in
          let old = placed_in c.loop-record.self.places g in
          let these : kept_of c.loop-record.self ≡ kept = ap (λ k. map voted_by k.items) so_far.kept in
          let n : ℕ = newest_number c.args.self.now in
          next_moved n kept rs c.loop-record.record-index r g c.loop-record-test.true c.record-item.is old (placed_in c.count_writes.new.self.places g)
          (c.count_writes.ensures.places g ∙ (λ i. moved_by_writes (newest_in (so_far.programs i)) (these i) r.unit (c.as_slice.ensures i) g old))
          (moved_by_records n kept rs g (placed_in c.args.self.now.places g)) (so_far.places g);
    }
