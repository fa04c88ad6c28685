use Rattle.std.proofs.Common.{◌≡◌, ℕ, ◌+◌, true, [], List, length, map, refl, sym, subst, ap, ◌∙◌}
use Rattle.std.specs.List.{flat_map, AllByRecursion}
use Rattle.base_types.specs.Places.{placed_in, has_seat}
use Rattle.base_types.specs.declared.calls.GrainId.{GrainId}
use Rattle.host_trait.specs.declared.channels.FileId.{FileId}
use Rattle.host_trait.specs.declared.channels.FileId.TheVariants.{Manager}
use Rattle.host_trait.specs.Disk.{MayLeave, Tears}
use Rattle.host_trait.specs.Runs.{RunsOnFile}
use Rattle.commit_log.specs.declared.records.CommitRecord.{CommitRecord}
use Rattle.commit_log.specs.declared.gate.Sealing.TheVariants.{Sealed, NotSealed, InDoubt}
use Rattle.commit_log.specs.SealImages.{SealHasCause}
use Rattle.field_codec.specs.declared.formats.Format.TheVariants.{Two}
use Rattle.gate_block.specs.Blocks.{block_of}
use Rattle.promise_spec.specs.Blocks.{Records, body_of}
use Rattle.batch_disk.specs.ImagesAtRest.{raised_ends}
use Rattle.batch_disk.specs.Writers.{file_end, voted_by, kept_of, voted_of, newest_number, CanCount, HasSeat, HasSameEnds}
use Rattle.batch_disk.specs.declared.writer.BatchWriter.{BatchWriter}
use Rattle.batch_disk.specs.MovedPlaces.{moved_by_records}
use Rattle.batch_disk.specs.Records.{commits_by, sealed_body}
use Rattle.batch_disk.proofs.SealSteps.{WriteCanCount, records_can_count, records_seated, fits_sealed, fits_unsealed, fits_in_doubt, is_next, seals_as, stands_sealed, stands_unsealed, stands_in_doubt}
use Rattle.batch_disk.proofs.WriterState.{own_fits}
use Rattle.batch_disk.proofs.MovedPlaces.{version_within, records_move}
use Rattle.batch_disk.proofs.StandingPlaces.{places_sealed, places_unsealed, places_in_doubt}
use Rattle.batch_disk.proofs.writer.BatchWriter.seal.Goals as goal

pub seal-requires-clause-block : goal.seal-requires-clause-block
seal-requires-clause-block g c = record { body = sealed_body c.args.self.now.session c.args.work.records; small = c.requires.work.small; is = c.as_slice.ensures ∙ c.requires.work.block }

pub count_records-requires-clause-can : goal.count_records-requires-clause-can
count_records-requires-clause-can g c =
    let a = c.args.self.now in
    subst (λ (rs : List CommitRecord). AllByRecursion (λ r. AllByRecursion (WriteCanCount a) r.writes) rs) (sym c.as_slice-in-Sealed.ensures)
    (records_can_count a c.args.work.records c.requires.safe.bounds.kept c.requires.work.kept)

pub count_records-requires-clause-seats : goal.count_records-requires-clause-seats
count_records-requires-clause-seats g c =
    let a = c.args.self.now in
    subst (λ (rs : List CommitRecord). AllByRecursion (λ r. AllByRecursion (λ w. has_seat a.places w.grain ≡ true) r.writes) rs) (sym c.as_slice-in-Sealed.ensures)
    (records_seated a c.args.work.records c.requires.safe.bounds.seats c.requires.work.kept)

pub returns-in-Sealed-clause-seals : goal.returns-in-Sealed-clause-seals
returns-in-Sealed-clause-seals g c =
    let a = c.args.self.now in
    let rs = c.args.work.records in
    let block = c.as_slice.result.now in
    let is : block ≡ block_of (sealed_body a.session rs) = c.as_slice.ensures ∙ c.requires.work.block in
    let w0 = g.H.Host.world c.args.host.now in
    let w2 = g.H.Host.world c.seal.new.host in
    let d : BatchWriter = record { slot = c.count_records.new.self.slot; session = c.count_records.new.self.session; gate_at = c.count_records.new.self.gate_at; ends = c.count_records.new.self.ends; places = c.count_records.new.self.places; programs = c.count_records.new.self.programs; batch = c.count_records.new.self.batch; kept = c.clear.new.self; in_doubt = c.count_records.new.self.in_doubt } in
    let ends : (q : GrainId) → file_end d q ≡ raised_ends (file_end a) (flat_map (λ r. r.writes) rs) q =
    λ q. c.count_records.ensures.ends q ∙ ap (λ (l : List CommitRecord). raised_ends (file_end a) (flat_map (λ r. r.writes) l) q) c.as_slice-in-Sealed.ensures in
    let none : kept_of d ≡ [] = ap (map voted_by) c.clear.ensures.items in
    let places : (q : GrainId) → placed_in d.places q ≡ moved_by_records (newest_number a) (kept_of a) rs q (placed_in a.places q) =
    λ q. c.count_records.ensures.places q ∙ ap (λ (l : List CommitRecord). moved_by_records (newest_number a) (kept_of a) l q (placed_in a.places q)) c.as_slice-in-Sealed.ensures in
    record {
      run = λ told. subst (λ (l : List ℕ). RunsOnFile (Manager a.slot) (Tears a.gate_at (length l + 1)) 2 w0 w2) c.as_slice.ensures (c.seal.ensures.run told);
      twice = λ told next is. (c.in-Sealed.ensures.end told).1;
      seals = λ told shape head log bodies batch es are logged true_of keeps.
          let seen : (f : FileId) → MayLeave (w0.disk f) (w0.disk f).seen = λ f. g.met.H.Host.seen_may_stay c.args.host.now f told in
          let body = body_of Two (Records a.session (commits_by es rs)) in
          let next = is_next a.slot shape head log bodies batch es a rs block c.requires.safe.bounds.session c.requires.work.fits c.requires.work.small is are logged true_of w0 w2 keeps seen in
          seals_as a.slot shape head log bodies batch es a rs block c.requires.safe.bounds.session c.requires.work.fits c.requires.work.small is are logged true_of w0 w2 keeps seen (c.seal.ensures.run told) (Sealed c.in-Sealed.next_gate) d (c.seal.ensures.moments told bodies body next)
          (stands_sealed a.slot shape head log bodies batch es a rs block c.requires.safe.bounds.session c.requires.work.fits c.requires.work.small is are logged true_of w0 w2 keeps seen (c.seal.ensures.run told) c.in-Sealed.next_gate d (c.in-Sealed.ensures.logs told bodies body next) c.count_records.ensures.gate c.count_records.ensures.session none ends);
      placed = λ told shape stand. places_sealed a.slot shape a d (length block + 1) 2 w0 w2 (c.seal.ensures.run told) stand rs c.requires.work.own none ends c.count_records.ensures.programs places;
      places = λ batch es are true_of q. places q ∙ records_move (newest_number a) (kept_of a) (voted_of batch a) (version_within a batch) es rs q (placed_in a.places q) are true_of;
      slot = c.count_records.ensures.slot;
      session = c.count_records.ensures.session;
      programs = c.count_records.ensures.programs;
      after_is = (c.count_records.ensures.gate, (ends, (c.count_records.ensures.doubt, none)));
      cause = subst (λ (l : List ℕ). SealHasCause a.slot (Sealed c.in-Sealed.next_gate) a.gate_at (length l) (g.H.Host.faults c.args.host.now) (g.H.Host.faults c.seal.new.host)) c.as_slice.ensures c.in-Sealed.ensures.cause;
    }

pub returns-in-Sealed-clause-safe : goal.returns-in-Sealed-clause-safe
returns-in-Sealed-clause-safe g c =
    let a = c.args.self.now in
    let rs = c.args.work.records in
    let block = c.as_slice.result.now in
    let is : block ≡ block_of (sealed_body a.session rs) = c.as_slice.ensures ∙ c.requires.work.block in
    let w0 = g.H.Host.world c.args.host.now in
    let w2 = g.H.Host.world c.seal.new.host in
    let d : BatchWriter = record { slot = c.count_records.new.self.slot; session = c.count_records.new.self.session; gate_at = c.count_records.new.self.gate_at; ends = c.count_records.new.self.ends; places = c.count_records.new.self.places; programs = c.count_records.new.self.programs; batch = c.count_records.new.self.batch; kept = c.clear.new.self; in_doubt = c.count_records.new.self.in_doubt } in
    let ends : (q : GrainId) → file_end d q ≡ raised_ends (file_end a) (flat_map (λ r. r.writes) rs) q =
    λ q. c.count_records.ensures.ends q ∙ ap (λ (l : List CommitRecord). raised_ends (file_end a) (flat_map (λ r. r.writes) l) q) c.as_slice-in-Sealed.ensures in
    let none : kept_of d ≡ [] = ap (map voted_by) c.clear.ensures.items in
    record {
      bounds = record { slot = c.count_records.ensures.bounds.slot; gate = c.count_records.ensures.bounds.gate; session = c.count_records.ensures.bounds.session; ends = c.count_records.ensures.bounds.ends; kept = subst (AllByRecursion (CanCount d)) (sym none) tt; seats = subst (AllByRecursion (HasSeat d)) (sym none) tt; programs = c.count_records.ensures.bounds.programs; shapes = c.count_records.ensures.bounds.shapes; numbered = c.count_records.ensures.bounds.numbered };
      fits = λ told. own_fits a d w2.disk c.count_records.ensures.slot (fits_sealed a.slot a d (length block + 1) 2 w0 w2 (c.seal.ensures.run told) (c.requires.safe.fits told) c.in-Sealed.next_gate rs block c.requires.sure is c.requires.work.kept (c.in-Sealed.ensures.end told).0 c.in-Sealed.ensures.cause.0
          c.count_records.ensures.gate none ends);
    }

pub returns-in-NotSealed-clause-seals : goal.returns-in-NotSealed-clause-seals
returns-in-NotSealed-clause-seals g c =
    let a = c.args.self.now in
    let rs = c.args.work.records in
    let block = c.as_slice.result.now in
    let is : block ≡ block_of (sealed_body a.session rs) = c.as_slice.ensures ∙ c.requires.work.block in
    let w0 = g.H.Host.world c.args.host.now in
    let w2 = g.H.Host.world c.seal.new.host in
    let d : BatchWriter = record { slot = a.slot; session = a.session; gate_at = a.gate_at; ends = a.ends; places = a.places; programs = a.programs; batch = a.batch; kept = c.clear-in-NotSealed.new.self; in_doubt = a.in_doubt } in
    let same : HasSameEnds a d = record { slot = refl; gate = refl; session = refl; ends = λ q. refl; places = λ q. refl; programs = refl; doubt = refl } in
    let none : kept_of d ≡ [] = ap (map voted_by) c.clear-in-NotSealed.ensures.items in
    record {
      run = λ told. subst (λ (l : List ℕ). RunsOnFile (Manager a.slot) (Tears a.gate_at (length l + 1)) 2 w0 w2) c.as_slice.ensures (c.seal.ensures.run told);
      twice = λ told next is. absurd (cc is);
      seals = λ told shape head log bodies batch es are logged true_of keeps.
          let seen : (f : FileId) → MayLeave (w0.disk f) (w0.disk f).seen = λ f. g.met.H.Host.seen_may_stay c.args.host.now f told in
          let body = body_of Two (Records a.session (commits_by es rs)) in
          let next = is_next a.slot shape head log bodies batch es a rs block c.requires.safe.bounds.session c.requires.work.fits c.requires.work.small is are logged true_of w0 w2 keeps seen in
          seals_as a.slot shape head log bodies batch es a rs block c.requires.safe.bounds.session c.requires.work.fits c.requires.work.small is are logged true_of w0 w2 keeps seen (c.seal.ensures.run told) NotSealed d (c.seal.ensures.moments told bodies body next)
          (stands_unsealed a.slot shape head log bodies batch es a rs block c.requires.safe.bounds.session c.requires.work.fits c.requires.work.small is are logged true_of w0 w2 keeps seen (c.seal.ensures.run told) d (c.in-NotSealed.ensures.logs told bodies body next) same none);
      placed = λ told shape stand. places_unsealed a.slot shape a d (length block + 1) 2 w0 w2 (c.seal.ensures.run told) stand same none;
      places = λ batch es are true_of q. refl;
      slot = refl;
      session = refl;
      programs = refl;
      after_is = (same, none);
      cause = subst (λ (l : List ℕ). SealHasCause a.slot NotSealed a.gate_at (length l) (g.H.Host.faults c.args.host.now) (g.H.Host.faults c.seal.new.host)) c.as_slice.ensures c.in-NotSealed.ensures.cause;
    }

pub returns-in-NotSealed-clause-safe : goal.returns-in-NotSealed-clause-safe
returns-in-NotSealed-clause-safe g c =
    let a = c.args.self.now in
    let rs = c.args.work.records in
    let block = c.as_slice.result.now in
    let is : block ≡ block_of (sealed_body a.session rs) = c.as_slice.ensures ∙ c.requires.work.block in
    let w0 = g.H.Host.world c.args.host.now in
    let w2 = g.H.Host.world c.seal.new.host in
    let d : BatchWriter = record { slot = a.slot; session = a.session; gate_at = a.gate_at; ends = a.ends; places = a.places; programs = a.programs; batch = a.batch; kept = c.clear-in-NotSealed.new.self; in_doubt = a.in_doubt } in
    let same : HasSameEnds a d = record { slot = refl; gate = refl; session = refl; ends = λ q. refl; places = λ q. refl; programs = refl; doubt = refl } in
    let none : kept_of d ≡ [] = ap (map voted_by) c.clear-in-NotSealed.ensures.items in
    record {
      bounds = record { slot = c.requires.safe.bounds.slot; gate = c.requires.safe.bounds.gate; session = c.requires.safe.bounds.session; ends = c.requires.safe.bounds.ends; kept = subst (AllByRecursion (CanCount d)) (sym none) tt; seats = subst (AllByRecursion (HasSeat d)) (sym none) tt; programs = c.requires.safe.bounds.programs; shapes = c.requires.safe.bounds.shapes; numbered = c.requires.safe.bounds.numbered };
      fits = λ told. fits_unsealed a.slot a d (length block + 1) 2 w0 w2 (c.seal.ensures.run told) (c.requires.safe.fits told) (length block) c.requires.sure (c.in-NotSealed.ensures.end told).seen same none;
    }

pub returns-clause-seals : goal.returns-clause-seals
returns-clause-seals g c =
    let a = c.args.self.now in
    let rs = c.args.work.records in
    let block = c.as_slice.result.now in
    let is : block ≡ block_of (sealed_body a.session rs) = c.as_slice.ensures ∙ c.requires.work.block in
    let w0 = g.H.Host.world c.args.host.now in
    let w2 = g.H.Host.world c.seal.new.host in
    let d : BatchWriter = record { slot = a.slot; session = a.session; gate_at = a.gate_at; ends = a.ends; places = a.places; programs = a.programs; batch = a.batch; kept = a.kept; in_doubt = true } in
    record {
      run = λ told. subst (λ (l : List ℕ). RunsOnFile (Manager a.slot) (Tears a.gate_at (length l + 1)) 2 w0 w2) c.as_slice.ensures (c.seal.ensures.run told);
      twice = λ told next is. absurd (cc is);
      seals = λ told shape head log bodies batch es are logged true_of keeps.
          let seen : (f : FileId) → MayLeave (w0.disk f) (w0.disk f).seen = λ f. g.met.H.Host.seen_may_stay c.args.host.now f told in
          let body = body_of Two (Records a.session (commits_by es rs)) in
          let next = is_next a.slot shape head log bodies batch es a rs block c.requires.safe.bounds.session c.requires.work.fits c.requires.work.small is are logged true_of w0 w2 keeps seen in
          seals_as a.slot shape head log bodies batch es a rs block c.requires.safe.bounds.session c.requires.work.fits c.requires.work.small is are logged true_of w0 w2 keeps seen (c.seal.ensures.run told) InDoubt d (c.seal.ensures.moments told bodies body next)
          (stands_in_doubt a.slot shape head log bodies batch es a rs block c.requires.safe.bounds.session c.requires.work.fits c.requires.work.small is are logged true_of w0 w2 keeps seen (c.seal.ensures.run told) d (λ f. g.met.H.Host.seen_may_stay c.seal.new.host f told) (c.in-InDoubt.ensures.end told) (c.in-InDoubt.ensures.logs told bodies body next) (c.in-InDoubt.ensures.which told bodies body next));
      placed = λ told shape stand. places_in_doubt a.slot shape a d (length block + 1) 2 w0 w2 (c.seal.ensures.run told) stand refl;
      places = λ batch es are true_of q. refl;
      slot = refl;
      session = refl;
      programs = refl;
      after_is = refl;
      cause = subst (λ (l : List ℕ). SealHasCause a.slot InDoubt a.gate_at (length l) (g.H.Host.faults c.args.host.now) (g.H.Host.faults c.seal.new.host)) c.as_slice.ensures c.in-InDoubt.ensures.cause;
    }

pub returns-clause-safe : goal.returns-clause-safe
returns-clause-safe g c =
    let a = c.args.self.now in
    let rs = c.args.work.records in
    let block = c.as_slice.result.now in
    let is : block ≡ block_of (sealed_body a.session rs) = c.as_slice.ensures ∙ c.requires.work.block in
    let w0 = g.H.Host.world c.args.host.now in
    let w2 = g.H.Host.world c.seal.new.host in
    let d : BatchWriter = record { slot = a.slot; session = a.session; gate_at = a.gate_at; ends = a.ends; places = a.places; programs = a.programs; batch = a.batch; kept = a.kept; in_doubt = true } in
    record {
      bounds = record { slot = c.requires.safe.bounds.slot; gate = c.requires.safe.bounds.gate; session = c.requires.safe.bounds.session; ends = c.requires.safe.bounds.ends; kept = c.requires.safe.bounds.kept; seats = c.requires.safe.bounds.seats; programs = c.requires.safe.bounds.programs; shapes = c.requires.safe.bounds.shapes; numbered = c.requires.safe.bounds.numbered };
      fits = λ told. fits_in_doubt a.slot a d (length block + 1) 2 w0 w2 (c.seal.ensures.run told) (c.requires.safe.fits told) refl;
    }
