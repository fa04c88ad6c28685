-- What the images keep of the books after an event that puts nothing out.
use Rattle.std.proofs.Common.{◌≡◌, inl, inr, ℕ, ◌<◌, List, [], ◌∷◌, ◌++◌, false, refl, sym, ap, ◌∙◌, subst, append-nil}
use Rattle.std.specs.List.{AllByRecursion}
use Rattle.base_types.specs.declared.entries.Entry.{Entry}
use Rattle.host_trait.specs.World.{World, Moment, Passes, moment_of}
use Rattle.host_trait.proofs.Moments.{both, weaker}
use Rattle.core_model.specs.CoreState.{Member}
use Rattle.core_model.specs.declared.events.CoreEvent.{CoreEvent}
use Rattle.core_model.specs.Laws.{extended}
use Rattle.core_model.specs.LegalRuns.{Run, ends}
use Rattle.promise_spec.proofs.Standings.{grown_twice}
use Rattle.promise_spec.specs.Entries.{Log, grown}
use Rattle.promise_spec.specs.Programs.{shape_in}
use Rattle.promise_spec.specs.Records.{Commit}
use Rattle.promise_spec.specs.Crashes.{Acknowledges}
use Rattle.promise_spec.specs.Outputs.{IsProper}
use Rattle.promise_spec.specs.Batches.{EndsABatch}
use Rattle.promise_spec.specs.Causes.{RunHasDoubt}
use Rattle.promise_spec.specs.UnitRule.{KeepsUnitRule}
use Rattle.promise_spec.specs.Journals.{Settlement, IsSealing, Seals, JournalAt, CutAt, Backs, commits_of, entries_of}
use Rattle.promise_laws.proofs.JournalSteps.{seals_on, settles_on, whole_cut}
use Rattle.promise_laws.proofs.JournalGrowth.{backs_on}
use Rattle.promise_spec.proofs.Lists.{in_append, in_flat}
use Rattle.promise_laws.specs.Closings.{AllEnd}
use Rattle.promise_laws.proofs.BatchEnds.{moments-stay, batch-stays-run, records-end}
use Rattle.promise_laws.proofs.KeptRuns.{logged_ends, sealing_ends}
use Rattle.batch_disk.specs.Moments.{LeavesRest}
use Rattle.batch_disk.specs.declared.writer.BatchWriter.{BatchWriter}
use Rattle.run_books.specs.Beginnings.{Outset, basis_of}
use Rattle.run_books.specs.Books.{Books, booked_journal, AreBooked}
use Rattle.run_books.specs.Images.{LeavesAside, HasOpenBlock, KeepsFolder, LastsSo}
use Rattle.run_books.proofs.BooksLists.{alone, alone-commits}
use Rattle.run_books.proofs.BooksGrown.{grown_books, grown-front, grown-commits}
use Rattle.run_books.proofs.BooksImages.{uncut, backs-alone}

-- what came later left other files and the header as they were
pub aside-later : (live : ℕ) (head : List ℕ) (old now : World) (m : Moment) → LeavesAside live head old (moment_of now) → LeavesRest live head now m → LeavesAside live head old m
aside-later live head old now m a rest = record { aside = λ file is. rest.aside file is ∙ a.aside file is; header = rest.header }

module _ (o : Outset) (head : List ℕ) (b : Books) (r : Run) (e : CoreEvent) (writer writer' : BatchWriter) (now now' : World) (more : List Entry) (batch : List Settlement)
    (above : 0 < r.base) (units : KeepsUnitRule (basis_of o) r) (after : KeepsUnitRule (basis_of o) (extended r (e ∷ [])))
    (booked : AreBooked b (ends r)) (sure : b.doubted ≡ []) (whole : b.rest ≡ []) (proper : AllByRecursion (IsProper (shape_in o.program)) (entries_of b.said))
    (l : LastsSo o head b r writer now) (none : entries_of batch ≡ [])
    (booked' : AreBooked (grown_books b more batch []) (ends (extended r (e ∷ []))))
    (seals : Seals o.live (grown o.opening (commits_of (b.said ++ b.unsaid))) batch now now') (rest : Passes (LeavesRest o.live head now) now.past now'.past) (rest_now : LeavesRest o.live head now (moment_of now'))
    (fresh : (x : Entry) (c : Commit) → Member x (entries_of (b.said ++ b.unsaid)) → Member c (commits_of batch) → Acknowledges x c → ⊥) where
  abbrev r' : Run
  r' = extended r (e ∷ [])

  abbrev front : List Settlement
  front = b.said ++ b.unsaid

  abbrev log : Log
  log = grown o.opening (commits_of front)

  abbrev books : Books
  books = grown_books b more batch []

  was-whole : booked_journal b ≡ front
  was-whole = ap (λ (d : List Settlement). front ++ d) sure ∙ append-nil front

  is-whole : booked_journal books ≡ (front ++ batch) ++ alone more
  is-whole = append-nil (books.said ++ books.unsaid) ∙ grown-front b more batch []

  log-is : grown o.opening (commits_of (books.said ++ books.unsaid)) ≡ grown log (commits_of batch)
  log-is = ap (grown o.opening) (grown-commits b more batch []) ∙ sym (grown_twice o.opening (commits_of front) (commits_of batch))

  before : JournalAt o.live o.program o.opening o.world b.said b.unsaid now
  before =
      uncut o.live o.program o.opening o.world b.said b.unsaid now
      (subst (λ (t : List ℕ). CutAt o.live o.program o.opening o.world b.said b.unsaid [] t now) whole
      (subst (λ (d : List Settlement). CutAt o.live o.program o.opening o.world b.said b.unsaid d b.rest now) sure l.journal))

  journal : CutAt o.live o.program o.opening o.world books.said books.unsaid [] books.rest now'
  journal =
      let sealed : JournalAt o.live o.program o.opening o.world b.said (b.unsaid ++ batch) now' = seals_on o.live o.program o.opening o.world b.said b.unsaid batch now now' proper before seals in
      let settled : JournalAt o.live o.program o.opening o.world b.said ((b.unsaid ++ batch) ++ alone more) now' =
      settles_on o.live o.program o.opening o.world b.said (b.unsaid ++ batch) (alone more) now' (alone-commits more) sealed in
      subst (λ (t : List ℕ). CutAt o.live o.program o.opening o.world b.said books.unsaid [] t now') (sym whole) (whole_cut o.live o.program o.opening o.world b.said books.unsaid now' settled)

  backs : Backs (booked_journal books) (commits_of (booked_journal books))
  backs =
      let was : Backs front (commits_of front) = subst (λ (j : List Settlement). Backs j (commits_of j)) was-whole l.backs in
      let more_backs : Backs (front ++ batch) (commits_of (front ++ batch)) =
      backs_on front batch was fresh
      (λ x c s fore back split there added is. absurd
      (subst (λ (xs : List Entry). Member x xs) none
      (in_flat (λ (t : Settlement). t.entries) s x batch (subst (λ (j : List Settlement). Member s j) (sym split) (in_append s fore (s ∷ back) (inr (inl refl)))) there))) in
      subst (λ (j : List Settlement). Backs j (commits_of j)) (sym is-whole) (backs-alone (front ++ batch) more more_backs)

  first : EndsABatch (ends r') o.opening log
  first = batch-stays-run (basis_of o) r (e ∷ []) o.opening log above after (records-end (basis_of o) r o.opening (commits_of front) above units (inl booked.commits))

  second : EndsABatch (ends r') o.opening (grown log (commits_of batch))
  second = subst (EndsABatch (ends r') o.opening) log-is (records-end (basis_of o) r' o.opening (commits_of (books.said ++ books.unsaid)) above after (inl booked'.commits))

  batches : Passes (AllEnd o.live (ends r') o.opening) o.world.past now'.past
  batches =
      both (AllEnd o.live (ends r') o.opening) (moments-stay o.live (basis_of o) r (e ∷ []) o.opening o.world.past now.past above after l.batches)
      (weaker (IsSealing o.live log batch now) (AllEnd o.live (ends r') o.opening) (λ m s. sealing_ends o.live (ends r') o.opening log batch now m s first second) seals.moments)

  alone-moments : Passes (LeavesAside o.live head o.world) o.world.past now'.past
  alone-moments = both (LeavesAside o.live head o.world) l.alone (weaker (LeavesRest o.live head now) (LeavesAside o.live head o.world) (λ m k. aside-later o.live head o.world now m l.alone_now k) rest)

  -- with what stands of a doubt's block, and of the folder
  pub seals-last : (RunHasDoubt r' → HasOpenBlock o.live (grown o.opening (commits_of (booked_journal books))) (ends r') now'.disk) → (writer'.in_doubt ≡ false → KeepsFolder o head books r' writer' now'.disk)
      → LastsSo o head books r' writer' now'
  seals-last block folder = record {
    journal = journal;
    backs = backs;
    batches = batches;
    batches_now = logged_ends o.live (ends r') o.opening (grown log (commits_of batch)) (moment_of now') seals.log second;
    alone = alone-moments;
    alone_now = aside-later o.live head o.world now (moment_of now') l.alone_now rest_now;
    some = λ there. absurd (there refl);
    block = block;
    folder = folder;
  }
