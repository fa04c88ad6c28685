-- What the images keep of the books where the output alone changed, or nothing.
use Rattle.std.proofs.Common.{◌≡◌, ℕ, ◌<◌, List, [], ◌∷◌, ◌++◌, length, take, false, refl, sym, ap, ◌∙◌, subst, Some, slice_get}
use Rattle.std.specs.List.{AllByRecursion}
use Rattle.base_types.specs.declared.entries.Entry.{Entry}
use Rattle.host_trait.specs.declared.channels.FileId.TheVariants.{Manager}
use Rattle.host_trait.specs.World.{World, Disk, Moment, IsImage, Passes, moment_of, Emitted as IsAppended, IsEmitted}
use Rattle.request_wire.specs.Reply.{reply_line}
use Rattle.core_model.specs.CoreState.{CoreState}
use Rattle.core_model.specs.declared.events.CoreEvent.{CoreEvent}
use Rattle.core_model.specs.Laws.{extended}
use Rattle.core_model.specs.LegalRuns.{Run, ends}
use Rattle.promise_spec.specs.Entries.{grown}
use Rattle.promise_spec.specs.Programs.{shape_in}
use Rattle.promise_spec.specs.Logs.{IsLog}
use Rattle.promise_spec.specs.Outputs.{IsProper}
use Rattle.promise_spec.specs.Causes.{RunHasDoubt, is_unsealed}
use Rattle.promise_spec.specs.UnitRule.{KeepsUnitRule}
use Rattle.promise_spec.specs.Journals.{Settlement, CutAt, Backs, commits_of, entries_of}
use Rattle.promise_spec.proofs.Doubts.{doubt_left}
use Rattle.promise_laws.proofs.JournalSteps.{emits_on, cuts_on, doubt_emits_on, doubt_cuts_on, whole_cut, doubt_cut}
use Rattle.promise_laws.specs.Closings.{AllEnd}
use Rattle.promise_laws.proofs.BatchEnds.{moments-stay, batch-stays-run}
use Rattle.settler_rules.proofs.Commits.{doubt-stays}
use Rattle.batch_disk.specs.ImagesAtRest.{SomeImage}
use Rattle.batch_disk.specs.Writers.{KeepsDisk}
use Rattle.batch_disk.specs.declared.writer.BatchWriter.{BatchWriter}
use Rattle.run_books.specs.Beginnings.{Outset, basis_of}
use Rattle.run_books.specs.Books.{Books, booked_journal, AreInDoubt, AreBooked}
use Rattle.run_books.specs.Images.{LeavesAside, HasOpenBlock, EndsAsBegun, KeepsFolder, LastsSo}
use Rattle.run_books.specs.BooksSteps.{AreEven}
use Rattle.run_books.proofs.BooksCounts.{doubt-ends, none-before}
use Rattle.run_books.proofs.BooksImages.{uncut, uncut-doubt, block-kept}
use Rattle.run_books.proofs.BooksWritten.{parts, said_next}

module _ (o : Outset) (head : List ℕ) (b c : Books) (r : Run) (more : List CoreEvent) (writer writer' : BatchWriter) (now now' : World)
    (above : 0 < r.base) (after : KeepsUnitRule (basis_of o) (extended r more)) (l : LastsSo o head b r writer now)
    (front : c.said ++ c.unsaid ≡ b.said ++ b.unsaid) (doubted : c.doubted ≡ b.doubted) (writer_is : writer' ≡ writer) (disk : now'.disk ≡ now.disk)
    (doubt : (ends (extended r more)).manager.doubt ≡ (ends r).manager.doubt)
    (passes : (P : Moment → Type 0) → P (moment_of now') → Passes P o.world.past now.past → Passes P o.world.past now'.past) where
  abbrev r' : Run
  r' = extended r more

  same : booked_journal c ≡ booked_journal b
  same = λ i. front i ++ doubted i

  ends-now : AllEnd o.live (ends r') o.opening (moment_of now')
  ends-now image log left is =
      batch-stays-run (basis_of o) r more o.opening log above after
      (l.batches_now image log (subst (λ (d : Disk). IsImage d image) disk left) is)

  aside-now : LeavesAside o.live head o.world (moment_of now')
  aside-now = record {
    aside = λ file is. ap (λ (d : Disk). d file) disk ∙ l.alone_now.aside file is;
    header = λ image left. l.alone_now.header image (subst (λ (d : Disk). IsImage d image) disk left);
  }

  block-on : RunHasDoubt r' → HasOpenBlock o.live (grown o.opening (commits_of (booked_journal c))) (ends r') now'.disk
  block-on d =
      let there = doubt-ends r' d in
      let before : (ends r).manager.doubt ≡ Some there.0 = sym doubt ∙ there.1 in
      subst (λ (k : Disk). HasOpenBlock o.live (grown o.opening (commits_of (booked_journal c))) (ends r') k) (sym disk)
      (block-kept o.live (grown o.opening (commits_of (booked_journal b))) (grown o.opening (commits_of (booked_journal c))) (ends r) (ends r') now.disk (ap (λ (j : List Settlement). grown o.opening (commits_of j)) same)
      (doubt-stays r more there.0 before).chosen (l.block (doubt_left r there.0 before)))

  folder-on : writer'.in_doubt ≡ false → KeepsFolder o head c r' writer' now'.disk
  folder-on sure =
      let f = l.folder (sym (ap (λ (w : BatchWriter). w.in_doubt) writer_is) ∙ sure) in
      subst (λ (w : BatchWriter). KeepsFolder o head c r' w now'.disk) (sym writer_is)
      (record {
        stood = f.stood;
        bodies = f.bodies;
        log = f.log ∙ ap (λ (j : List Settlement). grown o.opening (commits_of j)) (sym front);
        keeps = subst (λ (k : Disk). KeepsDisk o.live (shape_in o.program) head f.stood f.bodies writer k) (sym disk) f.keeps;
        behind = λ none. subst (λ (k : Disk). EndsAsBegun o writer.gate_at (k (Manager o.live))) (sym disk) (f.behind (none-before is_unsealed r more none));
      })

  pub output-lasts : CutAt o.live o.program o.opening o.world c.said c.unsaid c.doubted c.rest now' → LastsSo o head c r' writer' now'
  output-lasts journal = record {
    journal = journal;
    backs = subst (λ (j : List Settlement). Backs j (commits_of j)) (sym same) l.backs;
    batches = passes (AllEnd o.live (ends r') o.opening) ends-now (moments-stay o.live (basis_of o) r more o.opening o.world.past now.past above after l.batches);
    batches_now = ends-now;
    alone = passes (LeavesAside o.live head o.world) aside-now l.alone;
    alone_now = aside-now;
    some = λ there. subst (λ (k : Disk). SomeImage (λ image. IsLog o.live image (grown o.opening (commits_of (booked_journal c)))) k) (sym disk)
        (subst (λ (j : List Settlement). SomeImage (λ image. IsLog o.live image (grown o.opening (commits_of j))) now.disk) (sym same) (l.some (λ none. there (doubted ∙ none))));
    block = block-on;
    folder = folder-on;
  }

-- ---- the journal, with a line or a part of it

module _ (o : Outset) (b : Books) (w : CoreState) (x : Entry) (booked : AreBooked b w) (next : slice_get w.manager.settled w.manager.emitted ≡ Some x) (even : AreEven false b w) (now now' : World)
    (proper : AllByRecursion (IsProper (shape_in o.program)) (entries_of (said_next b w x booked next even).said)) (cut : CutAt o.live o.program o.opening o.world b.said b.unsaid b.doubted b.rest now) where
  abbrev moved : List Settlement
  moved = (parts b w x booked next even).moved

  abbrev later : List Settlement
  later = (parts b w x booked next even).later

  whole-before : (d : List Settlement) → b.doubted ≡ d → CutAt o.live o.program o.opening o.world b.said (moved ++ later) d [] now
  whole-before d q =
      subst (λ (u : List Settlement). CutAt o.live o.program o.opening o.world b.said u d [] now) (parts b w x booked next even).split
      (subst (λ (t : List ℕ). CutAt o.live o.program o.opening o.world b.said b.unsaid d t now) even.rest
      (subst (λ (k : List Settlement). CutAt o.live o.program o.opening o.world b.said b.unsaid k b.rest now) q cut))

  whole-by : (d : List Settlement) → b.doubted ≡ d → AreInDoubt w d → IsEmitted (reply_line (shape_in o.program) x) now now' → CutAt o.live o.program o.opening o.world (b.said ++ moved) later d [] now'
  whole-by [] q is line =
      whole_cut o.live o.program o.opening o.world (b.said ++ moved) later now'
      (emits_on o.live o.program o.opening o.world b.said moved later x (parts b w x booked next even).one proper now now'
      (uncut o.live o.program o.opening o.world b.said (moved ++ later) now (whole-before [] q)) line)
  whole-by (batch ∷ []) q is line =
      doubt_cut o.live o.program o.opening o.world (b.said ++ moved) later batch now'
      (doubt_emits_on o.live o.program o.opening o.world b.said moved later batch x (parts b w x booked next even).one proper now now'
      (uncut-doubt o.live o.program o.opening o.world b.said (moved ++ later) now batch (whole-before (batch ∷ []) q)) line)
  whole-by (batch ∷ (another ∷ rest)) q is line = absurd is

  -- the whole line
  pub whole-told : IsEmitted (reply_line (shape_in o.program) x) now now' → CutAt o.live o.program o.opening o.world (b.said ++ moved) later b.doubted b.rest now'
  whole-told line = subst (λ (t : List ℕ). CutAt o.live o.program o.opening o.world (b.said ++ moved) later b.doubted t now') (sym even.rest) (whole-by b.doubted refl booked.doubted line)

  part-by : (d : List Settlement) → b.doubted ≡ d → AreInDoubt w d → (n : ℕ) → n < length (reply_line (shape_in o.program) x) → IsAppended n (reply_line (shape_in o.program) x) now now'
      → CutAt o.live o.program o.opening o.world b.said (moved ++ later) d (take n (reply_line (shape_in o.program) x)) now'
  part-by [] q is n low line =
      cuts_on o.live o.program o.opening o.world b.said moved later x (parts b w x booked next even).one proper n now now'
      (uncut o.live o.program o.opening o.world b.said (moved ++ later) now (whole-before [] q)) line low
  part-by (batch ∷ []) q is n low line =
      doubt_cuts_on o.live o.program o.opening o.world b.said moved later batch x (parts b w x booked next even).one proper n now now'
      (uncut-doubt o.live o.program o.opening o.world b.said (moved ++ later) now batch (whole-before (batch ∷ []) q)) line low
  part-by (batch ∷ (another ∷ rest)) q is n low line = absurd is

  -- a part of it
  pub part-told : (n : ℕ) → n < length (reply_line (shape_in o.program) x) → IsAppended n (reply_line (shape_in o.program) x) now now'
      → CutAt o.live o.program o.opening o.world b.said b.unsaid b.doubted (take n (reply_line (shape_in o.program) x)) now'
  part-told n low line =
      subst (λ (u : List Settlement). CutAt o.live o.program o.opening o.world b.said u b.doubted (take n (reply_line (shape_in o.program) x)) now') (sym (parts b w x booked next even).split)
      (part-by b.doubted refl booked.doubted n low line)
