use Rattle.std.proofs.Common.{◌≡◌, ◌++◌, ◌<◌, ◌+◌, ◌^◌, ℕ, true, length, refl, ap, sym, subst, ◌∙◌}
use Rattle.std.specs.Prelude.{IsTrue, Err}
use Rattle.std.proofs.lemmas.Result.{MatchResult-from_err}
use Rattle.base_types.specs.Places.{has_seat}
use Rattle.base_types.specs.Stores.{has_room}
use Rattle.host_trait.specs.declared.channels.FileId.TheVariants.{Grain}
use Rattle.host_trait.specs.Disk.{Tears}
use Rattle.host_trait.specs.Runs.{RunsOnFile}
use Rattle.grain_log.specs.declared.faults.LogFault.{LogFault}
use Rattle.grain_log.specs.Counts.{WriteFaulted}
use Rattle.grain_log.specs.Places.{spelling_of_versions, places_from, WroteVersions}
use Rattle.batch_disk.specs.ImagesAtRest.{voted_at}
use Rattle.batch_disk.specs.VoteAnswers.{LacksRoom}
use Rattle.batch_disk.specs.Writers.{file_end, kept_of}
use Rattle.batch_disk.proofs.WriterState.{IsReadyFor, KeepsMore, ready_for, keeps_more, places-length, no_run, run_at, bounds_some, bounds_more, own_fits, fits_some, fits_more}
use Rattle.batch_disk.proofs.VoteAnswers.{votes_no, votes_yes, lacks_room}
use Rattle.batch_disk.proofs.writer.BatchWriter.write_work.Goals as goal

pub returns-in_err-make_room-clause-lacked : goal.returns-in_err-make_room-clause-lacked
returns-in_err-make_room-clause-lacked g c =
    let batch = c.args.batch in
    let grain = c.args.grain in
    let vs = c.args.versions.now in
    let size = length (spelling_of_versions vs) in
    let a = c.args.self.now in
    let m = c.go_to.new.self in
    let b = c.make_room.new.self in
    let r : IsReadyFor batch a b = ready_for batch a m b c.go_to.ensures.same c.go_to.ensures.kept c.go_to.ensures.batch c.go_to.ensures.ends c.go_to.ensures.places c.make_room.ensures.same c.make_room.ensures.kept c.make_room.ensures.batch c.make_room.ensures.room c.make_room.ensures.seats in
    let h = c.args.host.now in
    let lacks = lacks_room g.H.Host.tells g.H.Host.world g.H.Host.faults batch grain vs a b h h (λ told. no_run (Grain a.slot grain) (file_end a grain) size (g.H.Host.world h)) r (λ f. refl) (λ told. refl) in
    MatchResult-from_err c.from_residual.result (λ x. Unit {0}) (λ x. LacksRoom g.H.Host.tells g.H.Host.world g.H.Host.faults a.slot batch grain vs a b h h) c.from_residual.ensures.0 (λ x. lacks)

pub returns-in-Err-Failed-clause-voted : goal.returns-in-Err-Failed-clause-voted
returns-in-Err-Failed-clause-voted g c =
    let batch = c.args.batch in
    let grain = c.args.grain in
    let vs = c.args.versions.now in
    let size = length (spelling_of_versions vs) in
    let a = c.args.self.now in
    let m = c.go_to.new.self in
    let b = c.make_room.new.self in
    let r : IsReadyFor batch a b = ready_for batch a m b c.go_to.ensures.same c.go_to.ensures.kept c.go_to.ensures.batch c.go_to.ensures.ends c.go_to.ensures.places c.make_room.ensures.same c.make_room.ensures.kept c.make_room.ensures.batch c.make_room.ensures.room c.make_room.ensures.seats in
    let w0 = g.H.Host.world c.args.host.now in
    let w2 = g.H.Host.world c.write_versions.new.host in
    let run : IsTrue g.H.Host.tells → RunsOnFile (Grain a.slot grain) (Tears (file_end a grain) size) 1 w0 w2 = λ told. run_at a.slot grain c.file_end-at.result (file_end a grain) size w0 w2 c.file_end-at.ensures (c.write_versions.ensures.run told) in
    votes_no g.H.Host.tells g.H.Host.world g.H.Host.faults batch grain vs a b c.args.host.now c.write_versions.new.host run r
    (subst (λ (e : LogFault). WriteFaulted (Grain a.slot grain) e (g.H.Host.faults c.args.host.now) (g.H.Host.faults c.write_versions.new.host)) c.in-Err-Failed.field-0-is c.in-Err-Failed.ensures.calls.fault)

pub returns-in-Err-Memory-clause-lacked : goal.returns-in-Err-Memory-clause-lacked
returns-in-Err-Memory-clause-lacked g c =
    let batch = c.args.batch in
    let grain = c.args.grain in
    let vs = c.args.versions.now in
    let size = length (spelling_of_versions vs) in
    let a = c.args.self.now in
    let m = c.go_to.new.self in
    let b = c.make_room.new.self in
    let r : IsReadyFor batch a b = ready_for batch a m b c.go_to.ensures.same c.go_to.ensures.kept c.go_to.ensures.batch c.go_to.ensures.ends c.go_to.ensures.places c.make_room.ensures.same c.make_room.ensures.kept c.make_room.ensures.batch c.make_room.ensures.room c.make_room.ensures.seats in
    let w0 = g.H.Host.world c.args.host.now in
    let w2 = g.H.Host.world c.write_versions.new.host in
    let run : IsTrue g.H.Host.tells → RunsOnFile (Grain a.slot grain) (Tears (file_end a grain) size) 1 w0 w2 = λ told. run_at a.slot grain c.file_end-at.result (file_end a grain) size w0 w2 c.file_end-at.ensures (c.write_versions.ensures.run told) in
    lacks_room g.H.Host.tells g.H.Host.world g.H.Host.faults batch grain vs a b c.args.host.now c.write_versions.new.host run r
    (subst (λ (e : LogFault). WriteFaulted (Grain a.slot grain) e (g.H.Host.faults c.args.host.now) (g.H.Host.faults c.write_versions.new.host)) c.in-Err-Memory.field-0-is c.in-Err-Memory.ensures.calls.fault)
    (c.write_versions.ensures.memory (c.in-Err-Memory.is ∙ ap Err c.in-Err-Memory.field-0-is))

pub returns-in-Ok-clause-voted : goal.returns-in-Ok-clause-voted
returns-in-Ok-clause-voted g c =
    let batch = c.args.batch in
    let grain = c.args.grain in
    let vs = c.args.versions.now in
    let size = length (spelling_of_versions vs) in
    let a = c.args.self.now in
    let m = c.go_to.new.self in
    let b = c.make_room.new.self in
    let r : IsReadyFor batch a b = ready_for batch a m b c.go_to.ensures.same c.go_to.ensures.kept c.go_to.ensures.batch c.go_to.ensures.ends c.go_to.ensures.places c.make_room.ensures.same c.make_room.ensures.kept c.make_room.ensures.batch c.make_room.ensures.room c.make_room.ensures.seats in
    let w0 = g.H.Host.world c.args.host.now in
    let w2 = g.H.Host.world c.write_versions.new.host in
    let run : IsTrue g.H.Host.tells → RunsOnFile (Grain a.slot grain) (Tears (file_end a grain) size) 1 w0 w2 = λ told. run_at a.slot grain c.file_end-at.result (file_end a grain) size w0 w2 c.file_end-at.ensures (c.write_versions.ensures.run told) in
    let d = c.keep.new.self in
    let k : KeepsMore batch grain (file_end a grain) vs a d = keeps_more batch grain (file_end a grain) vs c.in-Ok.places a b d r
    (c.in-Ok.ensures.places ∙ ap (λ (n : ℕ). places_from n vs) c.file_end-at.ensures) (c.keep.ensures.kept ∙ (λ i. kept_of b ++ voted_at grain (c.as_slice-placed.ensures i) (c.as_slice-written.ensures i))) c.keep.ensures.slot c.keep.ensures.gate c.keep.ensures.session c.keep.ensures.doubt c.keep.ensures.batch c.keep.ensures.ends c.keep.ensures.places c.keep.ensures.programs in
    votes_yes g.H.Host.tells g.H.Host.world g.H.Host.faults batch grain vs a d c.args.host.now c.write_versions.new.host run k c.in-Ok.ensures.calls.calm
    (λ told. subst (λ (n : ℕ). WroteVersions (Grain a.slot grain) n vs w0 w2) c.file_end-at.ensures (c.in-Ok.ensures.wrote told)) c.in-Ok.ensures.fits (subst (λ (n : ℕ). n + size < 2 ^ 63) c.file_end-at.ensures c.in-Ok.ensures.bound)

pub returns-in_err-make_room-clause-safe : goal.returns-in_err-make_room-clause-safe
returns-in_err-make_room-clause-safe g c =
    let batch = c.args.batch in
    let grain = c.args.grain in
    let vs = c.args.versions.now in
    let size = length (spelling_of_versions vs) in
    let a = c.args.self.now in
    let m = c.go_to.new.self in
    let b = c.make_room.new.self in
    let r : IsReadyFor batch a b = ready_for batch a m b c.go_to.ensures.same c.go_to.ensures.kept c.go_to.ensures.batch c.go_to.ensures.ends c.go_to.ensures.places c.make_room.ensures.same c.make_room.ensures.kept c.make_room.ensures.batch c.make_room.ensures.room c.make_room.ensures.seats in
    let w0 = g.H.Host.world c.args.host.now in
    record {
      bounds = bounds_some a b batch r.same r.kept r.room r.seats c.requires.safe.bounds;
      fits = λ told. own_fits a b w0.disk r.same.slot (fits_some a.slot grain (file_end a grain) size 1 w0 w0 (no_run (Grain a.slot grain) (file_end a grain) size w0) a b batch r.same r.kept (c.requires.safe.fits told));
    }

pub returns-in-Err-Failed-clause-safe : goal.returns-in-Err-Failed-clause-safe
returns-in-Err-Failed-clause-safe g c =
    let batch = c.args.batch in
    let grain = c.args.grain in
    let vs = c.args.versions.now in
    let size = length (spelling_of_versions vs) in
    let a = c.args.self.now in
    let m = c.go_to.new.self in
    let b = c.make_room.new.self in
    let r : IsReadyFor batch a b = ready_for batch a m b c.go_to.ensures.same c.go_to.ensures.kept c.go_to.ensures.batch c.go_to.ensures.ends c.go_to.ensures.places c.make_room.ensures.same c.make_room.ensures.kept c.make_room.ensures.batch c.make_room.ensures.room c.make_room.ensures.seats in
    let w0 = g.H.Host.world c.args.host.now in
    let w2 = g.H.Host.world c.write_versions.new.host in
    record {
      bounds = bounds_some a b batch r.same r.kept r.room r.seats c.requires.safe.bounds;
      fits = λ told. own_fits a b w2.disk r.same.slot (fits_some a.slot grain (file_end a grain) size 1 w0 w2 (run_at a.slot grain c.file_end-at.result (file_end a grain) size w0 w2 c.file_end-at.ensures (c.write_versions.ensures.run told)) a b batch r.same r.kept (c.requires.safe.fits told));
    }

pub returns-in-Err-Memory-clause-safe : goal.returns-in-Err-Memory-clause-safe
returns-in-Err-Memory-clause-safe g c =
    let batch = c.args.batch in
    let grain = c.args.grain in
    let vs = c.args.versions.now in
    let size = length (spelling_of_versions vs) in
    let a = c.args.self.now in
    let m = c.go_to.new.self in
    let b = c.make_room.new.self in
    let r : IsReadyFor batch a b = ready_for batch a m b c.go_to.ensures.same c.go_to.ensures.kept c.go_to.ensures.batch c.go_to.ensures.ends c.go_to.ensures.places c.make_room.ensures.same c.make_room.ensures.kept c.make_room.ensures.batch c.make_room.ensures.room c.make_room.ensures.seats in
    let w0 = g.H.Host.world c.args.host.now in
    let w2 = g.H.Host.world c.write_versions.new.host in
    record {
      bounds = bounds_some a b batch r.same r.kept r.room r.seats c.requires.safe.bounds;
      fits = λ told. own_fits a b w2.disk r.same.slot (fits_some a.slot grain (file_end a grain) size 1 w0 w2 (run_at a.slot grain c.file_end-at.result (file_end a grain) size w0 w2 c.file_end-at.ensures (c.write_versions.ensures.run told)) a b batch r.same r.kept (c.requires.safe.fits told));
    }

pub returns-in-Ok-clause-safe : goal.returns-in-Ok-clause-safe
returns-in-Ok-clause-safe g c =
    let batch = c.args.batch in
    let grain = c.args.grain in
    let vs = c.args.versions.now in
    let size = length (spelling_of_versions vs) in
    let a = c.args.self.now in
    let m = c.go_to.new.self in
    let b = c.make_room.new.self in
    let r : IsReadyFor batch a b = ready_for batch a m b c.go_to.ensures.same c.go_to.ensures.kept c.go_to.ensures.batch c.go_to.ensures.ends c.go_to.ensures.places c.make_room.ensures.same c.make_room.ensures.kept c.make_room.ensures.batch c.make_room.ensures.room c.make_room.ensures.seats in
    let w0 = g.H.Host.world c.args.host.now in
    let w2 = g.H.Host.world c.write_versions.new.host in
    let d = c.keep.new.self in
    let k : KeepsMore batch grain (file_end a grain) vs a d = keeps_more batch grain (file_end a grain) vs c.in-Ok.places a b d r
    (c.in-Ok.ensures.places ∙ ap (λ (n : ℕ). places_from n vs) c.file_end-at.ensures) (c.keep.ensures.kept ∙ (λ i. kept_of b ++ voted_at grain (c.as_slice-placed.ensures i) (c.as_slice-written.ensures i))) c.keep.ensures.slot c.keep.ensures.gate c.keep.ensures.session c.keep.ensures.doubt c.keep.ensures.batch c.keep.ensures.ends c.keep.ensures.places c.keep.ensures.programs in
    record {
      bounds = bounds_more a d batch grain (file_end a grain) vs k.same k.kept k.room k.seats (subst (λ e. has_room e grain ≡ true) (sym c.keep.ensures.ends) c.in_ok-make_room.ensures.made)
          (subst (λ p. has_seat p grain ≡ true) (sym c.keep.ensures.places) c.in_ok-make_room.ensures.seated) (subst (λ (n : ℕ). n + size < 2 ^ 63) c.file_end-at.ensures c.in-Ok.ensures.bound) c.requires.safe.bounds;
      fits = λ told. own_fits a d w2.disk k.same.slot (fits_more a.slot grain (file_end a grain) size 1 w0 w2 (run_at a.slot grain c.file_end-at.result (file_end a grain) size w0 w2 c.file_end-at.ensures (c.write_versions.ensures.run told)) a d batch vs k.same k.kept ((c.requires.safe.fits told).long grain)
          (subst (λ (n : ℕ). WroteVersions (Grain a.slot grain) n vs w0 w2) c.file_end-at.ensures (c.in-Ok.ensures.wrote told)).there (c.requires.safe.fits told));
    }

pub keep-requires-clause-each : goal.keep-requires-clause-each
keep-requires-clause-each g c =
    ap length (c.as_slice-placed.ensures ∙ c.in-Ok.ensures.places) ∙ places-length c.file_end-at.result c.args.versions.now ∙ ap length (sym c.as_slice-written.ensures)
