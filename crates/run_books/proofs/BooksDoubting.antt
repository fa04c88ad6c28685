-- The journal, where a batch may be in doubt.
use Rattle.std.proofs.Common.{◌≡◌, inl, inr, ℕ, ◌<◌, List, [], ◌∷◌, ◌++◌, true, false, refl, sym, ap, ◌∙◌, subst, append-nil}
use Rattle.std.specs.List.{AllByRecursion}
use Rattle.base_types.specs.declared.entries.Entry.{Entry}
use Rattle.host_trait.specs.World.{World, Passes, moment_of}
use Rattle.host_trait.proofs.Moments.{both, weaker}
use Rattle.core_model.specs.CoreState.{Member}
use Rattle.core_model.specs.declared.events.CoreEvent.{CoreEvent}
use Rattle.core_model.specs.Laws.{extended}
use Rattle.core_model.specs.LegalRuns.{Run, ends}
use Rattle.promise_spec.proofs.Standings.{grown_twice}
use Rattle.promise_spec.specs.Entries.{Log, grown}
use Rattle.promise_spec.specs.Programs.{shape_in}
use Rattle.promise_spec.specs.Records.{Commit}
use Rattle.promise_spec.specs.Logs.{IsLog}
use Rattle.promise_spec.specs.Crashes.{Acknowledges}
use Rattle.promise_spec.specs.Outputs.{IsProper}
use Rattle.promise_spec.specs.Batches.{EndsABatch}
use Rattle.promise_spec.specs.UnitRule.{KeepsUnitRule}
use Rattle.promise_spec.specs.Journals.{Settlement, IsSealing, Doubts, JournalAt, DoubtAt, CutAt, Backs, commits_of, entries_of}
use Rattle.promise_laws.proofs.JournalCrashes.{commits_of-append}
use Rattle.promise_laws.proofs.JournalSteps.{doubts_on, doubt_cut}
use Rattle.promise_laws.proofs.JournalGrowth.{backs_on}
use Rattle.promise_spec.proofs.Lists.{in_append, in_flat}
use Rattle.promise_laws.specs.Closings.{AllEnd}
use Rattle.promise_laws.proofs.BatchEnds.{moments-stay, batch-stays-run, records-end}
use Rattle.promise_laws.proofs.KeptRuns.{sealing_ends}
use Rattle.batch_disk.specs.ImagesAtRest.{SomeImage}
use Rattle.batch_disk.specs.Moments.{LeavesRest}
use Rattle.batch_disk.specs.declared.writer.BatchWriter.{BatchWriter}
use Rattle.settle_loop.specs.StepJournal.{as_settled}
use Rattle.run_books.specs.Beginnings.{Outset, basis_of}
use Rattle.run_books.specs.Books.{Books, booked_journal, AreBooked}
use Rattle.run_books.specs.Images.{LeavesAside, HasOpenBlock, LastsSo}
use Rattle.run_books.proofs.ShownRecord.{added-by}
use Rattle.run_books.proofs.BooksLists.{alone, alone-commits}
use Rattle.run_books.proofs.BooksGrown.{grown_books, grown-front, grown-commits}
use Rattle.run_books.proofs.BooksImages.{uncut, backs-alone}
use Rattle.run_books.proofs.BooksSeals.{aside-later}

module _ (o : Outset) (head : List ℕ) (b : Books) (r : Run) (e : CoreEvent) (writer writer' : BatchWriter) (now now' : World) (more : List Entry) (batch : List Commit)
    (above : 0 < r.base) (units : KeepsUnitRule (basis_of o) r) (after : KeepsUnitRule (basis_of o) (extended r (e ∷ [])))
    (booked : AreBooked b (ends r)) (sure : b.doubted ≡ []) (whole : b.rest ≡ []) (proper : AllByRecursion (IsProper (shape_in o.program)) (entries_of b.said))
    (l : LastsSo o head b r writer now) (booked' : AreBooked (grown_books b more [] (as_settled batch ∷ [])) (ends (extended r (e ∷ []))))
    (doubts : Doubts o.live (grown o.opening (commits_of (b.said ++ b.unsaid))) (as_settled batch) now now')
    (some : SomeImage (λ image. IsLog o.live image (grown (grown o.opening (commits_of (b.said ++ b.unsaid))) batch)) now'.disk)
    (rest : Passes (LeavesRest o.live head now) now.past now'.past) (rest_now : LeavesRest o.live head now (moment_of now'))
    (fresh : (x : Entry) (c : Commit) → Member x (entries_of ((b.said ++ b.unsaid) ++ alone more)) → Member c batch → Acknowledges x c → ⊥) where
  abbrev r' : Run
  r' = extended r (e ∷ [])

  abbrev front : List Settlement
  front = b.said ++ b.unsaid

  abbrev log : Log
  log = grown o.opening (commits_of front)

  abbrev books : Books
  books = grown_books b more [] (as_settled batch ∷ [])

  was-whole : booked_journal b ≡ front
  was-whole = ap (λ (d : List Settlement). front ++ d) sure ∙ append-nil front

  front-is : books.said ++ books.unsaid ≡ front ++ alone more
  front-is = grown-front b more [] (as_settled batch ∷ []) ∙ ap (λ (j : List Settlement). j ++ alone more) (append-nil front)

  log-is : grown o.opening (commits_of (books.said ++ books.unsaid)) ≡ log
  log-is = ap (grown o.opening) (grown-commits b more [] (as_settled batch ∷ []) ∙ append-nil (commits_of front))

  longer-is : grown o.opening (commits_of (booked_journal books)) ≡ grown log (commits_of (as_settled batch ∷ []))
  longer-is =
      ap (grown o.opening) (commits_of-append (books.said ++ books.unsaid) (as_settled batch ∷ []))
      ∙ sym (grown_twice o.opening (commits_of (books.said ++ books.unsaid)) (commits_of (as_settled batch ∷ [])))
      ∙ ap (λ (c : Log). grown c (commits_of (as_settled batch ∷ []))) log-is

  before : JournalAt o.live o.program o.opening o.world b.said b.unsaid now
  before =
      uncut o.live o.program o.opening o.world b.said b.unsaid now
      (subst (λ (t : List ℕ). CutAt o.live o.program o.opening o.world b.said b.unsaid [] t now) whole
      (subst (λ (d : List Settlement). CutAt o.live o.program o.opening o.world b.said b.unsaid d b.rest now) sure l.journal))

  journal : CutAt o.live o.program o.opening o.world books.said books.unsaid books.doubted books.rest now'
  journal =
      let at : DoubtAt o.live o.program o.opening o.world b.said (b.unsaid ++ alone more) (as_settled batch) now' =
      doubts_on o.live o.program o.opening o.world b.said b.unsaid (alone more) (as_settled batch) now now' (alone-commits more) proper before doubts in
      subst (λ (t : List ℕ). CutAt o.live o.program o.opening o.world b.said books.unsaid (as_settled batch ∷ []) t now') (sym whole)
      (doubt_cut o.live o.program o.opening o.world b.said books.unsaid (as_settled batch) now'
      (subst (λ (u : List Settlement). DoubtAt o.live o.program o.opening o.world b.said (u ++ alone more) (as_settled batch) now') (sym (append-nil b.unsaid)) at))

  no-entry : (x : Entry) (s : Settlement) (fore back : List Settlement) → as_settled batch ∷ [] ≡ fore ++ (s ∷ back) → Member x s.entries → ⊥
  no-entry x s fore back split there =
      in_flat (λ (t : Settlement). t.entries) s x (as_settled batch ∷ []) (subst (λ (j : List Settlement). Member s j) (sym split) (in_append s fore (s ∷ back) (inr (inl refl)))) there

  backs : Backs (booked_journal books) (commits_of (booked_journal books))
  backs =
      let was : Backs front (commits_of front) = subst (λ (j : List Settlement). Backs j (commits_of j)) was-whole l.backs in
      let named : Backs (front ++ alone more) (commits_of (front ++ alone more)) = backs-alone front more was in
      subst (λ (j : List Settlement). Backs (j ++ as_settled batch ∷ []) (commits_of (j ++ as_settled batch ∷ []))) (sym front-is)
      (backs_on (front ++ alone more) (as_settled batch ∷ []) named
      (λ x c said there is. fresh x c said (subst (λ (cs : List Commit). Member c cs) (append-nil batch) there) is)
      (λ x c s fore back split there added is. absurd (no-entry x s fore back split there)))

  first : EndsABatch (ends r') o.opening log
  first = batch-stays-run (basis_of o) r (e ∷ []) o.opening log above after (records-end (basis_of o) r o.opening (commits_of front) above units (inl booked.commits))

  second : EndsABatch (ends r') o.opening (grown log (commits_of (as_settled batch ∷ [])))
  second = subst (EndsABatch (ends r') o.opening) longer-is
      (records-end (basis_of o) r' o.opening (commits_of (booked_journal books)) above after (added-by (ends r') (books.said ++ books.unsaid) (as_settled batch ∷ []) booked'.commits booked'.doubted))

  ends-now : AllEnd o.live (ends r') o.opening (moment_of now')
  ends-now =
      sealing_ends o.live (ends r') o.opening log (as_settled batch ∷ []) now (moment_of now')
      (record { output = doubts.output; log = doubts.log }) first second

  -- with what stands of its block
  pub doubt-lasts : HasOpenBlock o.live (grown o.opening (commits_of (booked_journal books))) (ends r') now'.disk → writer'.in_doubt ≡ true → LastsSo o head books r' writer' now'
  doubt-lasts block unsure = record {
    journal = journal;
    backs = backs;
    batches = both (AllEnd o.live (ends r') o.opening) (moments-stay o.live (basis_of o) r (e ∷ []) o.opening o.world.past now.past above after l.batches)
        (weaker (IsSealing o.live log (as_settled batch ∷ []) now) (AllEnd o.live (ends r') o.opening) (λ m s. sealing_ends o.live (ends r') o.opening log (as_settled batch ∷ []) now m s first second) doubts.moments);
    batches_now = ends-now;
    alone = both (LeavesAside o.live head o.world) l.alone (weaker (LeavesRest o.live head now) (LeavesAside o.live head o.world) (λ m k. aside-later o.live head o.world now m l.alone_now k) rest);
    alone_now = aside-later o.live head o.world now (moment_of now') l.alone_now rest_now;
    some = λ there. record {
      image = some.image;
      left = some.left;
      holds = subst (λ (c : Log). IsLog o.live some.image c) (sym (longer-is ∙ ap (grown log) (append-nil batch))) some.holds;
    };
    block = λ d. block;
    folder = λ q. absurd (let z : true ≡ false = sym unsure ∙ q in cc);
  }
