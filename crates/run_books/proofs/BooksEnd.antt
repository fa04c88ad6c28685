-- The books after a doubt and after an entry, and so after whichever event a step of the settler puts.
use Rattle.std.proofs.Common.{◌≡◌, ◌⊎◌, inl, inr, ℕ, List, [], ◌∷◌, ◌++◌, Bool, true, false, refl, sym, ap, ◌∙◌, subst, append-nil}
use Rattle.std.specs.Prelude.{IsTrue}
use Rattle.std.proofs.lemmas.Bool.{or_right}
use Rattle.base_types.specs.declared.entries.Entry.{Entry}
use Rattle.host_trait.specs.declared.channels.FileId.TheVariants.{Manager}
use Rattle.host_trait.specs.declared.channels.Channel.{Channel}
use Rattle.host_trait.specs.World.{World}
use Rattle.core_model.specs.CoreState.{Member}
use Rattle.core_model.specs.declared.effects.Effect.{Effect}
use Rattle.core_model.specs.declared.events.CoreEvent.{CoreEvent}
use Rattle.core_model.specs.declared.events.CoreEvent.TheVariants as event
use Rattle.core_model.specs.Laws.{extended}
use Rattle.core_model.specs.LegalRuns.{Run, ends}
use Rattle.core_model.specs.SerialOrder.{chosen}
use Rattle.core_model.specs.Settler.{Step, Votes, Decides, Seals as SealStep, Learns, Writes, Loads, Takes, Rests, MakesEvent, settler_step, to_commit}
use Rattle.promise_spec.proofs.Standings.{grown_twice}
use Rattle.promise_spec.specs.Entries.{Log, grown}
use Rattle.promise_spec.specs.Programs.{shape_in}
use Rattle.promise_spec.specs.Records.{Commit, AreRecordsOf}
use Rattle.promise_spec.specs.Journals.{Settlement, Seals, Doubts, commits_of, entries_of}
use Rattle.promise_laws.proofs.JournalCrashes.{commits_of-append}
use Rattle.batch_disk.specs.ImagesAtRest.{SomeImage}
use Rattle.batch_disk.specs.Records.{commits_by}
use Rattle.base_types.specs.Places.{placed_in}
use Rattle.batch_disk.specs.Seals.{SealsAs, WriterAfter, may_open}
use Rattle.batch_disk.specs.declared.writer.BatchWriter.{BatchWriter}
use Rattle.commit_log.specs.declared.records.CommitRecord.{CommitRecord}
use Rattle.run_books.specs.Places.{AreOfVotes, KeepsVersions}
use Rattle.run_books.proofs.BooksVersions.{votes-still, versions-on}
use Rattle.batch_disk.specs.Writers.{voted_of}
use Rattle.batch_disk.proofs.BatchRecords.{records_are}
use Rattle.commit_log.specs.declared.gate.Sealing.{Sealing}
use Rattle.commit_log.specs.declared.gate.Sealing.TheVariants as sealing
use Rattle.promise_spec.specs.Logs.{IsLog}
use Rattle.settler_rules.proofs.Commits.{doubt-chosen, others-leave as committed-stays}
use Rattle.settle_loop.specs.ShownWork.{event_of}
use Rattle.settle_loop.specs.HostSteps.{SealsUnits, DoubtsAgain}
use Rattle.settle_loop.specs.StepJournal.{as_settled, DoubtsBatch}
use Rattle.settle_loop.specs.declared.settler.Settler.{Settler}
use Rattle.settle_loop.proofs.StepJournal.{doubted}
use Rattle.run_books.specs.Beginnings.{Outset}
use Rattle.run_books.specs.Books.{Books, AreBooked}
use Rattle.run_books.specs.Images.{HasOpenBlock, KeepsFolder, LastsSo}
use Rattle.run_books.specs.Records.{KeepsBooks}
use Rattle.run_books.specs.BooksSteps.{AreEven, CanSettle}
use Rattle.run_books.proofs.BooksCore.{Moves, moves-run}
use Rattle.run_books.proofs.BooksLists.{alone}
use Rattle.run_books.proofs.BooksGrown.{grown_books, grown-front, grown-commits}
use Rattle.run_books.proofs.BooksKept.{AddsBatch, books-kept, books-even}
use Rattle.run_books.proofs.BooksEvents.{doubted_by, adds-doubt, not-again}
use Rattle.run_books.proofs.BooksFair.{is-fair}
use Rattle.run_books.proofs.BooksInDoubt.{fresh-doubt}
use Rattle.run_books.proofs.BooksSeals.{seals-last}
use Rattle.run_books.proofs.BooksDoubting.{doubt-lasts}
use Rattle.run_books.proofs.BooksStep.{StepDone, IsCounted, sure, writer-sure}
use Rattle.run_books.specs.Stages.{stage_of}

-- the step that leaves a doubt is that of the seal
seals-step : (n : ℕ) (s : Step) → MakesEvent s (event.Doubt n) → s ≡ SealStep n
seals-step n (Votes k g) m = absurd (let q = m.1 in cc q)
seals-step n (Decides k) m = absurd (cc m)
seals-step n (SealStep k) (inl m) = absurd (cc m)
seals-step n (SealStep k) (inr (inl m)) = absurd (cc m)
seals-step n (SealStep k) (inr (inr m)) = (let q : n ≡ k = cc in ap SealStep (sym q))
seals-step n (Learns u g) m = absurd (cc m)
seals-step n Writes m = absurd (cc m)
seals-step n (Loads g) m = absurd (let q = m.2 in cc q)
seals-step n Takes m = absurd (cc m)
seals-step n Rests m = absurd m

module _ {H : Type 0} (tells : Bool) (world : H → World) (faults : H → Channel → ℕ) (o : Outset) (b : Books) (r : Run) (before after : Settler) (old new : H)
    (can : CanSettle o (shape_in o.program) r) (even : AreEven before.quiet b (ends r)) (k : KeepsBooks tells o b (stage_of world faults r before old)) where
  abbrev Done : CoreEvent → Type 0
  Done e = StepDone tells world faults o b r before after old new can even k e

  abbrev Counted : CoreEvent → Type 0
  Counted e = IsCounted tells world faults o b r before after old new can even k e

  -- ---- a doubt

  module _ (n : ℕ) (makes : MakesEvent (settler_step (ends r)) (event.Doubt n)) (does : SealsUnits tells world faults o.live n (event.Doubt n) (to_commit (ends r) (ends r).manager.batch) before.writer after.writer old new) (c : Counted (event.Doubt n)) where
    abbrev e : CoreEvent
    e = event.Doubt n

    abbrev r' : Run
    r' = extended r (event.Doubt n ∷ [])

    abbrev effects : List Effect
    effects = to_commit (ends r) (ends r).manager.batch

    abbrev batch : List Commit
    batch = commits_by (to_commit (ends r) (ends r).manager.batch) does.work.records

    abbrev may : Bool
    may = may_open before.writer.gate_at ((world new).disk (Manager o.live))

    m : Moves (ends r) (event.Doubt n) (ends (extended r (event.Doubt n ∷ [])))
    m = moves-run r (event.Doubt n) c.applied

    unsure : after.doubted ≡ true
    unsure = c.doubted ∙ or_right before.doubted true refl

    adds : AddsBatch tells o r (extended r (event.Doubt n ∷ [])) before after (faults old) (faults new) (world old) (world new) [] (doubted_by (may_open before.writer.gate_at ((world new).disk (Manager o.live))) (to_commit (ends r) (ends r).manager.batch) does.work.records)
    adds = adds-doubt tells world faults o b r before after old new can.above can.units k n c.applied m c.quiet c.written unsure does

    books : Books
    books = grown_books b m.more [] (doubted_by may effects does.work.records)

    doubt-writer-is : (x : Sealing) (made : List CommitRecord) (v w : BatchWriter) → event.Doubt n ≡ event_of n x → WriterAfter x made v w → w ≡ record v { in_doubt = true }
    doubt-writer-is (sealing.Sealed next) made v w q is = absurd (cc q)
    doubt-writer-is sealing.NotSealed made v w q is = absurd (cc q)
    doubt-writer-is sealing.InDoubt made v w q is = is

    writer-is : after.writer ≡ record before.writer { in_doubt = true }
    writer-is = doubt-writer-is does.answer does.work.records before.writer after.writer does.event does.leaves.after_is

    versions : IsTrue tells → KeepsVersions o (grown_books b m.more [] (doubted_by may effects does.work.records)) r' after.writer (world new).disk
    versions t =
        versions-on o b (grown_books b m.more [] (doubted_by may effects does.work.records)) r before.writer after.writer (world old).disk (world new).disk (k.versions t)
        (does.leaves.placed t (shape_in o.program) (k.versions t).stand) (λ g. ap (λ (w : BatchWriter). placed_in w.places g) writer-is)
        (grown-commits b m.more [] (doubted_by may effects does.work.records) ∙ append-nil (commits_of (b.said ++ b.unsaid))) (event.Doubt n) tt
        (subst (λ (w : BatchWriter). AreOfVotes r' w) (sym writer-is) (votes-still r (event.Doubt n) before.writer can.above (k.versions t).votes))

    kept : KeepsBooks tells o (grown_books b m.more [] (doubted_by may effects does.work.records)) (stage_of world faults r' after new)
    kept = books-kept tells o b r e before after (faults old) (faults new) (world old) (world new) [] (doubted_by may effects does.work.records) can.above can.units even k m refl adds versions

    again : AreEven after.quiet (grown_books b m.more [] (doubted_by may effects does.work.records)) (ends r')
    again = books-even tells o b r e before after (faults old) (faults new) (world old) (world new) [] (doubted_by may effects does.work.records) can.above can.units even k m refl adds

    writer-unsure : after.writer.in_doubt ≡ true
    writer-unsure = adds.unsure ∙ unsure

    of_batch : AreRecordsOf effects batch
    of_batch = records_are (voted_of n before.writer) effects does.work.records does.records

    of_chosen : AreRecordsOf (chosen (ends r')) batch
    of_chosen = subst (λ (es : List Effect). AreRecordsOf es batch) (sym (doubt-chosen r can.above n c.applied)) of_batch

    no-doubts : b.doubted ≡ []
    no-doubts = sure tells world faults o b r before after old new can even k e c refl refl

    as-doubt : (t : IsTrue tells) (head : List ℕ) (f : KeepsFolder o head b r before.writer (world old).disk) → (x : Sealing) → event.Doubt n ≡ event_of n x
        → SealsAs o.live (shape_in o.program) head f.stood f.bodies effects does.work.records x before.writer after.writer (world old) (world new)
        → DoubtsBatch o.live o.program head f.stood f.bodies before.writer after.writer (world old) (world new) before.writer.gate_at effects batch
    as-doubt t head f (sealing.Sealed next) q s = absurd (cc q)
    as-doubt t head f sealing.NotSealed q s = absurd (cc q)
    as-doubt t head f sealing.InDoubt q s =
        subst (DoubtsBatch o.live o.program head f.stood f.bodies before.writer after.writer (world old) (world new) before.writer.gate_at effects) s.made_of
        (doubted o.live o.program head f.stood f.bodies before.writer after.writer (world old) (world new) f.keeps effects does.work.records (does.leaves.run t).now.output (does.leaves.run t).clock s)

    doubt-of : (t : IsTrue tells) (head : List ℕ) (f : KeepsFolder o head b r before.writer (world old).disk) → DoubtsBatch o.live o.program head f.stood f.bodies before.writer after.writer (world old) (world new) before.writer.gate_at effects batch
    doubt-of t head f =
        let fair = (is-fair o r before.writer can.above can.units can.kinds can.accepted can.numbers (k.versions t).votes).seal n (seals-step n (settler_step (ends r)) makes) in
        as-doubt t head f does.answer does.event (does.leaves.seals t (shape_in o.program) head f.stood f.bodies n effects does.records fair.0 fair.1 f.keeps)

    module _ (t : IsTrue tells) (head : List ℕ) (l : LastsSo o head b r before.writer (world old)) where
      abbrev Lasting : List Settlement → Type 0
      Lasting d = LastsSo o head (grown_books b m.more [] d) r' after.writer (world new)

      f : KeepsFolder o head b r before.writer (world old).disk
      f = l.folder (writer-sure tells world faults o b r before after old new can even k e c refl refl)

      log-is : grown o.opening (commits_of (b.said ++ ((b.unsaid ++ []) ++ alone m.more))) ≡ f.stood
      log-is = ap (grown o.opening) (grown-commits b m.more [] [] ∙ append-nil (commits_of (b.said ++ b.unsaid))) ∙ sym f.log

      block-of : DoubtsBatch o.live o.program head f.stood f.bodies before.writer after.writer (world old) (world new) before.writer.gate_at effects batch → (log : Log)
          → (log ≡ f.stood) ⊎ (log ≡ grown f.stood batch) → HasOpenBlock o.live log (ends r') (world new).disk
      block-of d log which = record {
        gate = before.writer.gate_at;
        batch = batch;
        before = f.stood;
        bodies = f.bodies;
        records = of_chosen;
        log_is = which;
        reached = d.doubt.reached;
        session = before.writer.session;
        follows = d.doubt.later;
        front = d.doubt.front;
        block = d.doubt.block;
        differ = d.doubt.differ;
      }

      unbegun : DoubtsBatch o.live o.program head f.stood f.bodies before.writer after.writer (world old) (world new) before.writer.gate_at effects batch → may ≡ false
          → Seals o.live f.stood [] (world old) (world new) → Lasting (doubted_by may effects does.work.records)
      unbegun d no-open seals =
          let nothing : doubted_by may effects does.work.records ≡ [] = ap (λ (x : Bool). doubted_by x effects does.work.records) no-open in
          subst Lasting (sym nothing)
          (seals-last o head b r e before.writer after.writer (world old) (world new) m.more [] can.above can.units c.units k.booked no-doubts even.rest (k.outside t).output.proper l refl
          (subst (λ (x : List Settlement). AreBooked (grown_books b m.more [] x) (ends r')) nothing kept.booked)
          (subst (λ (log : Log). Seals o.live log [] (world old) (world new)) f.log seals) d.rest d.doubt.rest
          (λ x y said there is. there)
          (λ h. block-of d (grown o.opening (commits_of ((b.said ++ ((b.unsaid ++ []) ++ alone m.more)) ++ [])))
          (inl (ap (λ (j : List Settlement). grown o.opening (commits_of j)) (append-nil (b.said ++ ((b.unsaid ++ []) ++ alone m.more))) ∙ log-is)))
          (λ q. absurd (let z : true ≡ false = sym writer-unsure ∙ q in cc)))

      begun : DoubtsBatch o.live o.program head f.stood f.bodies before.writer after.writer (world old) (world new) before.writer.gate_at effects batch → may ≡ true
          → Doubts o.live f.stood (as_settled batch) (world old) (world new) → SomeImage (λ image. IsLog o.live image (grown f.stood batch)) (world new).disk
          → Lasting (doubted_by may effects does.work.records)
      begun d is-open doubts some =
          let it : doubted_by may effects does.work.records ≡ as_settled batch ∷ [] = ap (λ (x : Bool). doubted_by x effects does.work.records) is-open in
          let booked' : AreBooked (grown_books b m.more [] (as_settled batch ∷ [])) (ends r') = subst (λ (x : List Settlement). AreBooked (grown_books b m.more [] x) (ends r')) it kept.booked in
          let named : b.said ++ ((b.unsaid ++ []) ++ alone m.more) ≡ (b.said ++ b.unsaid) ++ alone m.more =
          grown-front b m.more [] [] ∙ ap (λ (j : List Settlement). j ++ alone m.more) (append-nil (b.said ++ b.unsaid)) in
          subst Lasting (sym it)
          (doubt-lasts o head b r e before.writer after.writer (world old) (world new) m.more batch can.above can.units c.units k.booked no-doubts even.rest (k.outside t).output.proper l booked'
          (subst (λ (log : Log). Doubts o.live log (as_settled batch) (world old) (world new)) f.log doubts)
          (subst (λ (log : Log). SomeImage (λ image. IsLog o.live image (grown log batch)) (world new).disk) f.log some) d.rest d.doubt.rest
          (λ x y said there is.
          fresh-doubt r e batch can.above of_batch of_chosen (committed-stays r can.above e refl) x y
          (subst (λ (xs : List Entry). Member x xs) booked'.entries (subst (λ (j : List Settlement). Member x (entries_of j)) (sym named) said)) there is)
          (block-of d (grown o.opening (commits_of ((b.said ++ ((b.unsaid ++ []) ++ alone m.more)) ++ as_settled batch ∷ [])))
          (inr (
          ap (grown o.opening) (commits_of-append (b.said ++ ((b.unsaid ++ []) ++ alone m.more)) (as_settled batch ∷ []))
          ∙ sym (grown_twice o.opening (commits_of (b.said ++ ((b.unsaid ++ []) ++ alone m.more))) (commits_of (as_settled batch ∷ [])))
          ∙ (λ i. grown (log-is i) (append-nil batch i)))))
          writer-unsure)

      lasts : Lasting (doubted_by may effects does.work.records)
      lasts =
          let d = doubt-of t head f in
          elim d.journal [
            | inl x ↦ unbegun d x.0 x.1
            | inr x ↦ begun d x.0 x.1.0 x.1.1
          ]

    doubt-done : Done (event.Doubt n)
    doubt-done = record { books = grown_books b m.more [] (doubted_by may effects does.work.records); kept = kept; even_again = again; lasts = λ t head l. lasts t head l }

  pub by-doubt : (n : ℕ) → MakesEvent (settler_step (ends r)) (event.Doubt n) → SealsUnits tells world faults o.live n (event.Doubt n) (to_commit (ends r) (ends r).manager.batch) before.writer after.writer old new ⊎ DoubtsAgain tells world faults before.writer after.writer old new
      → Counted (event.Doubt n) → Done (event.Doubt n)
  by-doubt n makes (inl does) c = doubt-done n makes does c
  by-doubt n makes (inr does) c = absurd (not-again tells world faults o b r before after old new can.above can.units k n c.applied does)
