-- The record of a run where nothing but input is pulled: it holds again.
use Rattle.std.proofs.Common.{◌≡◌, inl, ℕ, ◌≤◌, Bool, IsTrue, List, [], ◌++◌, false, refl, sym, ◌∙◌, ap, subst, arith}
use Rattle.std.specs.List.{AllByRecursion}
use Rattle.host_trait.specs.declared.channels.Channel.{Channel}
use Rattle.host_trait.specs.declared.channels.Channel.TheVariants.{Input, Output, File}
use Rattle.host_trait.specs.declared.channels.FileId.{FileId}
use Rattle.host_trait.specs.declared.channels.FileId.TheVariants.{Manager, Grain}
use Rattle.host_trait.specs.World.{World, Moment, Disk, IsImage, moment_of}
use Rattle.host_trait.proofs.Moments.{both, weaker, same_moment}
use Rattle.input_windows.specs.Pulls.{PulledOnly}
use Rattle.core_model.specs.LegalRuns.{Run, ends}
use Rattle.batch_disk.specs.Writers.{FitsDisk}
use Rattle.batch_disk.specs.declared.writer.BatchWriter.{BatchWriter}
use Rattle.promise_spec.specs.Causes.{NoneRose, RoseBy, is_no, is_unsealed, RunHasDoubt}
use Rattle.promise_spec.specs.Cores.{how_many}
use Rattle.promise_spec.specs.Entries.{Log, grown}
use Rattle.promise_spec.specs.Journals.{Settlement, AllLog, IsSealing, Seals, JournalAt, CutAt, commits_of, entries_of}
use Rattle.promise_spec.specs.Logs.{IsLog}
use Rattle.promise_spec.specs.Outputs.{Grew, IsProper}
use Rattle.promise_spec.specs.Programs.{shape_in}
use Rattle.promise_spec.proofs.Standings.{grown_none}
use Rattle.promise_laws.proofs.JournalSteps.{stays_on, whole_cut}
use Rattle.promise_laws.specs.Closings.{AllEnd}
use Rattle.settle_loop.specs.declared.settler.Settler.{Settler}
use Rattle.interleaver.specs.Turns.{KeepsTurns}
use Rattle.run_books.specs.Beginnings.{Outset}
use Rattle.run_books.specs.Books.{Books, booked_journal}
use Rattle.run_books.specs.Images.{LeavesAside, HasOpenBlock, KeepsFolder, LastsSo, SomeHas}
use Rattle.run_books.specs.Places.{KeepsVersions}
use Rattle.run_books.specs.Records.{KeepsBooks}
use Rattle.run_books.specs.Stages.{IsSafe, stage_by}
use Rattle.run_books.proofs.BooksCalls.{calls-same}
use Rattle.run_books.proofs.BooksImages.{uncut}
use Rattle.silo_top.proofs.InputPieces.{still_file}

-- ---- the books

module _ (tells : Bool) (o : Outset) (b : Books) (r : Run) (s : Settler) (f f' : Channel → ℕ) (now now' : World) (pulled : IsTrue tells → PulledOnly now now') (input : f Input ≡ o.faults Input)
    (output : f' Output ≡ f Output) (files : (file : FileId) → f' (File file) ≡ f (File file)) (more : f Input ≤ f' Input) where
  later : (c : Channel) → f c ≤ f' c
  later Input = more
  later Output = omega (arith, output)
  later (File file) = let e = files file in omega (arith, e)

  -- where no count has risen by now, none had before
  none_before : NoneRose o.faults f' → NoneRose o.faults f
  none_before none Input = (input, (none Input).1)
  none_before none Output = (sym output ∙ (none Output).0, (none Output).1)
  none_before none (File file) = (sym (files file) ∙ (none (File file)).0, (none (File file)).1)

  pub books_pulled : KeepsBooks tells o b (stage_by r s f now) → KeepsBooks tells o b (stage_by r s f' now')
  books_pulled k = record {
    faults = record {
      votes = λ g. subst (RoseBy (how_many (is_no g) r) (o.faults (File (Grain o.live g)))) (sym (files (Grain o.live g))) (k.faults.votes g);
      seals = subst (RoseBy (how_many is_unsealed r) (o.faults (File (Manager o.live)))) (sym (files (Manager o.live))) k.faults.seals;
    };
    later = λ c. (let before = k.later c in let on = later c in omega (arith, before, on));
    booked = k.booked;
    said = k.said;
    cut = k.cut;
    slot = k.slot;
    doubt = k.doubt;
    unsure = k.unsure;
    written = k.written;
    versions = λ told. subst (KeepsVersions o b r s.writer) (sym (pulled told).disk) (k.versions told);
    outside = λ told. record {
      output = subst (λ (l : List ℕ). Grew (shape_in o.program) o.world.output l (entries_of b.said) b.rest) (sym (pulled told).output) (k.outside told).output;
      calls = calls-same o r r f f' now now' (k.outside told).calls none_before refl refl refl (λ g. refl) (pulled told).syncs (λ g. still_file (Grain o.live g) now now' (pulled told));
    };
  }

  pub turns_pulled : KeepsTurns tells o b (stage_by r s f now) → KeepsTurns tells o b (stage_by r s f' now')
  turns_pulled k = record { above = k.above; units = k.units; turns = k.turns; books = books_pulled k.books }

-- ---- the images

module _ (o : Outset) (head : List ℕ) (b : Books) (r : Run) (writer : BatchWriter) (now now' : World) (pulled : PulledOnly now now') (l : LastsSo o head b r writer now) where
  disk_is : now'.disk ≡ now.disk
  disk_is = pulled.disk

  now_is : moment_of now' ≡ moment_of now
  now_is = same_moment now now' pulled.output pulled.disk

  -- the journal, where nothing is in doubt and no line is cut off
  module _ (proper : AllByRecursion (IsProper (shape_in o.program)) (entries_of b.said)) where
    abbrev log : Log
    log = grown o.opening (commits_of (b.said ++ b.unsaid))

    seals : AllLog o.live log now.disk → Seals o.live log [] now now'
    seals all = record {
      moments = weaker (λ (x : Moment). x ≡ moment_of now) (IsSealing o.live log [] now) at pulled.moments;
      output = pulled.output;
      log = λ image left. subst (λ (x : Log). IsLog o.live image x) (sym (grown_none log)) (all image (subst (λ (d : Disk). IsImage d image) pulled.disk left));
    }
      where
        at : (x : Moment) → x ≡ moment_of now → IsSealing o.live log [] now x
        at x e = record {
          output = ap (λ (y : Moment). y.output) e;
          log = λ image left. inl (all image (subst (λ (y : Moment). IsImage y.disk image) e left));
        }

    journal_of : CutAt o.live o.program o.opening o.world b.said b.unsaid [] [] now → CutAt o.live o.program o.opening o.world b.said b.unsaid [] [] now'
    journal_of cut =
        let at : JournalAt o.live o.program o.opening o.world b.said b.unsaid now = uncut o.live o.program o.opening o.world b.said b.unsaid now cut in
        whole_cut o.live o.program o.opening o.world b.said b.unsaid now' (stays_on o.live o.program o.opening o.world b.said b.unsaid now now' proper at (seals at.log))

    journal_pulled : b.doubted ≡ [] → b.rest ≡ [] → CutAt o.live o.program o.opening o.world b.said b.unsaid b.doubted b.rest now'
    journal_pulled sure whole =
        subst (λ (d : List Settlement). CutAt o.live o.program o.opening o.world b.said b.unsaid d b.rest now') (sym sure)
        (subst (λ (rest : List ℕ). CutAt o.live o.program o.opening o.world b.said b.unsaid [] rest now') (sym whole)
        (journal_of (subst (λ (rest : List ℕ). CutAt o.live o.program o.opening o.world b.said b.unsaid [] rest now) whole
        (subst (λ (d : List Settlement). CutAt o.live o.program o.opening o.world b.said b.unsaid d b.rest now) sure l.journal))))

    pub lasts_pulled : b.doubted ≡ [] → b.rest ≡ [] → LastsSo o head b r writer now'
    lasts_pulled sure whole = record {
      journal = journal_pulled sure whole;
      backs = l.backs;
      batches = both (AllEnd o.live (ends r) o.opening) l.batches
          (weaker (λ (x : Moment). x ≡ moment_of now) (AllEnd o.live (ends r) o.opening) (λ x e. subst (AllEnd o.live (ends r) o.opening) (sym e) l.batches_now) pulled.moments);
      batches_now = subst (AllEnd o.live (ends r) o.opening) (sym now_is) l.batches_now;
      alone = both (LeavesAside o.live head o.world) l.alone
          (weaker (λ (x : Moment). x ≡ moment_of now) (LeavesAside o.live head o.world) (λ x e. subst (LeavesAside o.live head o.world) (sym e) l.alone_now) pulled.moments);
      alone_now = subst (LeavesAside o.live head o.world) (sym now_is) l.alone_now;
      some = subst (SomeHas o b) (sym disk_is) l.some;
      block = subst (λ (d : Disk). RunHasDoubt r → HasOpenBlock o.live (grown o.opening (commits_of (booked_journal b))) (ends r) d) (sym disk_is) l.block;
      folder = subst (λ (d : Disk). writer.in_doubt ≡ false → KeepsFolder o head b r writer d) (sym disk_is) l.folder;
    }

-- ---- the writer

pub safe_pulled : (tells : Bool) (writer : BatchWriter) (now now' : World) → (IsTrue tells → PulledOnly now now') → IsSafe tells writer now → IsSafe tells writer now'
safe_pulled tells writer now now' pulled safe = record {
  bounds = safe.bounds;
  fits = λ told. subst (FitsDisk writer) (sym (pulled told).disk) (safe.fits told);
}
