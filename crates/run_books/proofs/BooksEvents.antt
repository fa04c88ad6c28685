-- What each event of the settler that puts nothing out adds to the books.
use Rattle.std.proofs.Common.{◌≡◌, ℕ, ◌+◌, ◌<◌, List, [], ◌∷◌, ◌++◌, length, Bool, true, false, ◌&&◌, true≢false, refl, sym, ap, ◌∙◌, subst, arith, append-nil, Some, is_some}
use Rattle.std.specs.Prelude.{IsTrue}
use Rattle.std.proofs.lemmas.Bool.{and_right}
use Rattle.base_types.specs.declared.calls.GrainId.{GrainId}
use Rattle.base_types.specs.declared.stores.Version.{Version}
use Rattle.host_trait.specs.declared.channels.Channel.{Channel}
use Rattle.host_trait.specs.declared.channels.Channel.TheVariants.{File}
use Rattle.host_trait.specs.declared.channels.FileId.TheVariants.{Grain, Manager}
use Rattle.host_trait.specs.Faults.{NoneFailed, FailedOn}
use Rattle.host_trait.specs.Files.{same_grain}
use Rattle.host_trait.specs.World.{World}
use Rattle.host_trait.specs.Runs.{RunsOnFile, OnlyAsked}
use Rattle.commit_log.specs.declared.gate.Sealing.{Sealing}
use Rattle.commit_log.specs.declared.gate.Sealing.TheVariants as sealing
use Rattle.commit_log.specs.declared.records.CommitRecord.{CommitRecord}
use Rattle.commit_log.specs.SealImages.{SealHasCause}
use Rattle.core_model.specs.CoreState.{CoreState}
use Rattle.core_model.specs.declared.effects.Effect.{Effect}
use Rattle.core_model.specs.declared.events.CoreEvent.{CoreEvent}
use Rattle.core_model.specs.declared.events.CoreEvent.TheVariants as event
use Rattle.core_model.specs.Events.{applies}
use Rattle.core_model.specs.Laws.{extended}
use Rattle.core_model.specs.LegalRuns.{Run, ends}
use Rattle.core_model.specs.SerialOrder.{committed, chosen}
use Rattle.core_model.specs.Settler.{to_commit}
use Rattle.core_laws.proofs.CommitOrder.{no_doubt}
use Rattle.promise_spec.specs.Records.{Commit, AreRecordsOf}
use Rattle.promise_spec.specs.Causes.{AreFaults, is_no, is_unsealed, is_vote, is_vote_of, is_sealed}
use Rattle.promise_spec.specs.Cores.{how_many}
use Rattle.promise_spec.specs.UnitRule.{KeepsUnitRule}
use Rattle.promise_spec.specs.Journals.{Settlement, commits_of, entries_of}
use Rattle.batch_disk.specs.Records.{commits_by}
use Rattle.batch_disk.specs.Seals.{WriterAfter, may_open}
use Rattle.batch_disk.specs.Writers.{voted_of}
use Rattle.batch_disk.specs.declared.writer.BatchWriter.{BatchWriter}
use Rattle.batch_disk.proofs.BatchRecords.{records_are}
use Rattle.settler_rules.proofs.Commits.{sealed-commit, others-leave as committed-stays, doubt-chosen}
use Rattle.settle_loop.specs.ShownWork.{event_of, tells_doubt}
use Rattle.batch_disk.specs.VoteAnswers.{VotesOn}
use Rattle.settle_loop.specs.HostSteps.{MakesNoCall, SealsUnits, DoubtsAgain}
use Rattle.settle_loop.specs.StepJournal.{as_settled}
use Rattle.settle_loop.specs.declared.settler.Settler.{Settler}
use Rattle.run_books.specs.Beginnings.{Outset, basis_of}
use Rattle.run_books.specs.Books.{Books, AreInDoubt}
use Rattle.run_books.specs.Records.{KeepsBooks, CountsCalls}
use Rattle.run_books.proofs.BooksCalls.{file-same, file-asked, votes-none, calls-same, calls-vote, calls-seal}
use Rattle.run_books.proofs.BooksCore.{Moves}
use Rattle.run_books.proofs.BooksCounts.{how-same, how-one}
use Rattle.run_books.proofs.BooksFaults.{NoneFell, failed-later, calm-later, faults-same, faults-unsealed, faults-no, rose-back, none-failed}
use Rattle.run_books.proofs.BooksImages.{doubt-kept}
use Rattle.run_books.proofs.BooksKept.{AddsBatch}
use Rattle.run_books.specs.Stages.{stage_of}

-- the batch that was made, as one settlement
abbrev pub made_batch : List Effect → List CommitRecord → List Settlement
made_batch effects made = as_settled (commits_by effects made) ∷ []

-- where a crash may leave its gate open it is in doubt
abbrev pub doubted_by : Bool → List Effect → List CommitRecord → List Settlement
doubted_by true effects made = made_batch effects made
doubted_by false effects made = []

made-records : (writer : BatchWriter) (n : ℕ) (effects : List Effect) (x : List CommitRecord) → AreRecordsOf effects (commits_by effects x) → AreRecordsOf effects (commits_of (made_batch effects x))
made-records writer n effects x are = subst (λ (l : List Commit). AreRecordsOf effects l) (sym (append-nil (commits_by effects x))) are

module _ {H : Type 0} (tells : Bool) (world : H → World) (faults : H → Channel → ℕ) (o : Outset) (b : Books) (r : Run) (before after : Settler) (old new : H)
    (above : 0 < r.base) (units : KeepsUnitRule (basis_of o) r) (k : KeepsBooks tells o b (stage_of world faults r before old)) where
  module _ (e : CoreEvent) (a : applies (ends r) e ≡ true) (m : Moves (ends r) e (ends (extended r (e ∷ [])))) (quiet : after.quiet ≡ before.quiet) (written : after.written ≡ before.written) where
    abbrev r' : Run
    r' = extended r (e ∷ [])

    -- an event that leaves no doubt
    plain-adds : tells_doubt e ≡ false → after.doubted ≡ before.doubted → after.writer.in_doubt ≡ before.writer.in_doubt → after.writer.slot ≡ before.writer.slot
        → (batch : List Settlement) (effects : List Effect) → entries_of batch ≡ [] → committed (ends r') ≡ committed (ends r) ++ effects → AreRecordsOf effects (commits_of batch)
        → AreFaults o.live r' o.faults (faults new) → NoneFell (faults old) (faults new) → (IsTrue tells → (world new).output ≡ (world old).output)
        → (IsTrue tells → CountsCalls o r' (faults new) (world new)) → AddsBatch tells o r r' before after (faults old) (faults new) (world old) (world new) batch b.doubted
    plain-adds sure doubted writer slot batch effects none commits records counted later output calls = record {
      effects = effects;
      none = none;
      commits = commits;
      records = records;
      doubted = doubt-kept r (e ∷ []) b.doubted k.booked.doubted;
      faults = counted;
      later = later;
      quiet = quiet;
      doubt = doubted ∙ k.doubt ∙ ap is_some (sym (m.doubt sure));
      slot = slot;
      unsure = writer ∙ k.unsure ∙ sym doubted;
      written = written;
      output = output;
      calls = calls;
    }

    none-more : is_sealed e ≡ false → committed (ends r') ≡ committed (ends r) ++ []
    none-more other = committed-stays r above e other ∙ sym (append-nil (committed (ends r)))

    -- without a host call
    pub adds-none : tells_doubt e ≡ false → after.doubted ≡ before.doubted → ((g : GrainId) → is_no g e ≡ false) → is_unsealed e ≡ false → is_vote e ≡ false → is_sealed e ≡ false
        → MakesNoCall tells world faults before.writer after.writer old new → AddsBatch tells o r r' before after (faults old) (faults new) (world old) (world new) [] b.doubted
    adds-none sure doubted votes unsealed vote sealed does =
        let later : NoneFell (faults old) (faults new) = calm-later (faults old) (faults new) (λ c. ap (λ (h : H). faults h c) does.host) in
        plain-adds sure doubted (ap (λ (w : BatchWriter). w.in_doubt) does.writer) (ap (λ (w : BatchWriter). w.slot) does.writer) [] [] refl (none-more sealed) tt
        (faults-same o.live r r' o.faults (faults old) (faults new) k.faults later (λ g. how-same (is_no g) r e (votes g)) (how-same is_unsealed r e unsealed))
        later (λ t. ap (λ (h : H). (world h).output) does.host)
        (λ t. calls-same o r r' (faults old) (faults new) (world old) (world new) (k.outside t).calls (rose-back o.faults (faults old) (faults new) k.later later)
        (how-same is_vote r e vote) (how-same is_sealed r e sealed) (how-same is_unsealed r e unsealed) (λ g. how-same (is_vote_of g) r e (votes-none g e vote))
        (ap (λ (h : H). (world h).syncs) does.host) (λ g. file-same (Grain o.live g) (world old) (world new) (ap world does.host)))

    -- where a grain's version was read
    pub adds-asked : tells_doubt e ≡ false → after.doubted ≡ before.doubted → ((g : GrainId) → is_no g e ≡ false) → is_unsealed e ≡ false → is_vote e ≡ false → is_sealed e ≡ false
        → after.writer ≡ before.writer → NoneFailed (faults old) (faults new) → (IsTrue tells → OnlyAsked (world old) (world new))
        → AddsBatch tells o r r' before after (faults old) (faults new) (world old) (world new) [] b.doubted
    adds-asked sure doubted votes unsealed vote sealed writer calm asked =
        let later : NoneFell (faults old) (faults new) = calm-later (faults old) (faults new) calm in
        plain-adds sure doubted (ap (λ (w : BatchWriter). w.in_doubt) writer) (ap (λ (w : BatchWriter). w.slot) writer) [] [] refl (none-more sealed) tt
        (faults-same o.live r r' o.faults (faults old) (faults new) k.faults later (λ g. how-same (is_no g) r e (votes g)) (how-same is_unsealed r e unsealed))
        later (λ t. (asked t).output)
        (λ t. calls-same o r r' (faults old) (faults new) (world old) (world new) (k.outside t).calls (rose-back o.faults (faults old) (faults new) k.later later)
        (how-same is_vote r e vote) (how-same is_sealed r e sealed) (how-same is_unsealed r e unsealed) (λ g. how-same (is_vote_of g) r e (votes-none g e vote))
        (asked t).syncs (λ g. file-asked (Grain o.live g) (world old) (world new) (asked t)))

  -- a vote
  pub adds-vote : (n : ℕ) (g : GrainId) (said : Bool) (versions : List Version) → applies (ends r) (event.Vote n g said) ≡ true → Moves (ends r) (event.Vote n g said) (ends (extended r (event.Vote n g said ∷ [])))
      → after.quiet ≡ before.quiet → after.written ≡ before.written → after.doubted ≡ before.doubted
      → VotesOn tells world faults o.live n g said versions before.writer after.writer old new
      → AddsBatch tells o r (extended r (event.Vote n g said ∷ [])) before after (faults old) (faults new) (world old) (world new) [] b.doubted
  adds-vote n g true versions a m quiet written doubted does =
      let e : CoreEvent = event.Vote n g true in
      let later : NoneFell (faults old) (faults new) = calm-later (faults old) (faults new) does.cause in
      plain-adds e a m quiet written refl doubted does.same.doubt does.same.slot [] [] refl (none-more e a m quiet written refl) tt
      (faults-same o.live r (extended r (e ∷ [])) o.faults (faults old) (faults new) k.faults later (λ h. how-same (is_no h) r e (and_right (same_grain g h) false refl)) (how-same is_unsealed r e refl))
      later (λ t. (does.run t).now.output)
      (λ t. calls-vote o r n g true (faults old) (faults new) (world old) (world new) _ (k.outside t).calls a (does.run t) (λ none.
      (does.there t refl).once
      ∙ ap (λ (x : ℕ). x + 1) ((k.outside t).calls.each (rose-back o.faults (faults old) (faults new) k.later later none))
      ∙ (let votes : how_many is_vote (extended r (e ∷ [])) ≡ how_many is_vote r + 1 = how-one is_vote r e refl a in
      let seals : how_many is_sealed (extended r (e ∷ [])) ≡ how_many is_sealed r = how-same is_sealed r e refl in
      omega (arith, votes, seals))))
  adds-vote n g false versions a m quiet written doubted does =
      let e : CoreEvent = event.Vote n g false in
      let later : NoneFell (faults old) (faults new) = failed-later (File (Grain o.live g)) (faults old) (faults new) does.cause in
      plain-adds e a m quiet written refl doubted does.same.doubt does.same.slot [] [] refl (none-more e a m quiet written refl) tt
      (faults-no o.live r (extended r (e ∷ [])) o.faults (faults old) (faults new) k.faults later g
      (λ h apart. how-same (is_no h) r e (ap (λ (x : Bool). x && true) apart)) (λ h same. how-one (is_no h) r e (ap (λ (x : Bool). x && true) same) a)
      (how-same is_unsealed r e refl) does.cause.rose)
      later (λ t. (does.run t).now.output)
      (λ t. calls-vote o r n g false (faults old) (faults new) (world old) (world new) _ (k.outside t).calls a (does.run t)
      (λ none. absurd (none-failed o.faults (faults old) (faults new) (File (Grain o.live g)) k.later does.cause none)))

  -- ---- seals

  sealed-calm : (n gate size : ℕ) (x : Sealing) → event.Sealed n ≡ event_of n x → SealHasCause o.live x gate size (faults old) (faults new) → NoneFailed (faults old) (faults new)
  sealed-calm n gate size (sealing.Sealed next) q cause = cause.1.1
  sealed-calm n gate size sealing.NotSealed q cause = absurd (cc q)
  sealed-calm n gate size sealing.InDoubt q cause = absurd (cc q)

  sealed-next : (n : ℕ) (x : Sealing) → event.Sealed n ≡ event_of n x → (next : ℕ) × (x ≡ sealing.Sealed next)
  sealed-next n (sealing.Sealed next) q = (next, refl)
  sealed-next n sealing.NotSealed q = absurd (cc q)
  sealed-next n sealing.InDoubt q = absurd (cc q)

  sealed-writer : (n : ℕ) (x : Sealing) (made : List CommitRecord) (v w : BatchWriter) → event.Sealed n ≡ event_of n x → WriterAfter x made v w → w.in_doubt ≡ v.in_doubt
  sealed-writer n (sealing.Sealed next) made v w q is = is.1.1.0
  sealed-writer n sealing.NotSealed made v w q is = absurd (cc q)
  sealed-writer n sealing.InDoubt made v w q is = absurd (cc q)

  unsealed-failed : (n gate size : ℕ) (x : Sealing) → event.NotSealed n ≡ event_of n x → SealHasCause o.live x gate size (faults old) (faults new) → FailedOn (File (Manager o.live)) (faults old) (faults new)
  unsealed-failed n gate size (sealing.Sealed next) q cause = absurd (cc q)
  unsealed-failed n gate size sealing.NotSealed q cause = cause
  unsealed-failed n gate size sealing.InDoubt q cause = absurd (cc q)

  unsealed-writer : (n : ℕ) (x : Sealing) (made : List CommitRecord) (v w : BatchWriter) → event.NotSealed n ≡ event_of n x → WriterAfter x made v w → w.in_doubt ≡ v.in_doubt
  unsealed-writer n (sealing.Sealed next) made v w q is = absurd (cc q)
  unsealed-writer n sealing.NotSealed made v w q is = is.0.doubt
  unsealed-writer n sealing.InDoubt made v w q is = absurd (cc q)

  doubt-failed : (n gate size : ℕ) (x : Sealing) → event.Doubt n ≡ event_of n x → SealHasCause o.live x gate size (faults old) (faults new) → FailedOn (File (Manager o.live)) (faults old) (faults new)
  doubt-failed n gate size (sealing.Sealed next) q cause = absurd (cc q)
  doubt-failed n gate size sealing.NotSealed q cause = absurd (cc q)
  doubt-failed n gate size sealing.InDoubt q cause = cause

  doubt-writer : (n : ℕ) (x : Sealing) (made : List CommitRecord) (v w : BatchWriter) → event.Doubt n ≡ event_of n x → WriterAfter x made v w → w.in_doubt ≡ true
  doubt-writer n (sealing.Sealed next) made v w q is = absurd (cc q)
  doubt-writer n sealing.NotSealed made v w q is = absurd (cc q)
  doubt-writer n sealing.InDoubt made v w q is = ap (λ (u : BatchWriter). u.in_doubt) is

  -- a batch on disk
  pub adds-sealed : (n : ℕ) → applies (ends r) (event.Sealed n) ≡ true → Moves (ends r) (event.Sealed n) (ends (extended r (event.Sealed n ∷ [])))
      → after.quiet ≡ before.quiet → after.written ≡ before.written → after.doubted ≡ before.doubted
      → (does : SealsUnits tells world faults o.live n (event.Sealed n) (to_commit (ends r) (ends r).manager.batch) before.writer after.writer old new)
      → AddsBatch tells o r (extended r (event.Sealed n ∷ [])) before after (faults old) (faults new) (world old) (world new) (made_batch (to_commit (ends r) (ends r).manager.batch) does.work.records) b.doubted
  adds-sealed n a m quiet written doubted does =
      let e : CoreEvent = event.Sealed n in
      let effects : List Effect = to_commit (ends r) (ends r).manager.batch in
      let later : NoneFell (faults old) (faults new) = calm-later (faults old) (faults new) (sealed-calm n before.writer.gate_at (length does.work.block) does.answer does.event does.leaves.cause) in
      plain-adds e a m quiet written refl doubted (sealed-writer n does.answer does.work.records before.writer after.writer does.event does.leaves.after_is) does.leaves.slot
      (made_batch effects does.work.records) effects refl (sealed-commit r above n a)
      (made-records before.writer n effects does.work.records (records_are (voted_of n before.writer) effects does.work.records does.records))
      (faults-same o.live r (extended r (e ∷ [])) o.faults (faults old) (faults new) k.faults later (λ g. how-same (is_no g) r e refl) (how-same is_unsealed r e refl))
      later (λ t. (does.leaves.run t).now.output)
      (λ t. calls-seal o r (extended r (e ∷ [])) (faults old) (faults new) (world old) (world new) _ (k.outside t).calls (how-same is_vote r e refl)
      (let seals : how_many is_sealed (extended r (e ∷ [])) ≡ how_many is_sealed r + 1 = how-one is_sealed r e refl a in
      let unsealed : how_many is_unsealed (extended r (e ∷ [])) ≡ how_many is_unsealed r = how-same is_unsealed r e refl in
      omega (arith, seals, unsealed)) (λ g. how-same (is_vote_of g) r e refl) (does.leaves.run t) (λ none.
      (let next = sealed-next n does.answer does.event in does.leaves.twice t next.0 next.1)
      ∙ ap (λ (x : ℕ). x + 2) ((k.outside t).calls.each (rose-back o.faults (faults old) (faults new) k.later later none))
      ∙ (let votes : how_many is_vote (extended r (e ∷ [])) ≡ how_many is_vote r = how-same is_vote r e refl in
      let seals : how_many is_sealed (extended r (e ∷ [])) ≡ how_many is_sealed r + 1 = how-one is_sealed r e refl a in
      omega (arith, votes, seals))))

  -- the calls of one that isn't
  calls-unsealed : (e : CoreEvent) → applies (ends r) e ≡ true → is_vote e ≡ false → is_sealed e ≡ false → is_unsealed e ≡ true → FailedOn (File (Manager o.live)) (faults old) (faults new)
      → {R : List ℕ → List ℕ → Type 0} → (IsTrue tells → RunsOnFile (Manager o.live) R 2 (world old) (world new)) → IsTrue tells → CountsCalls o (extended r (e ∷ [])) (faults new) (world new)
  calls-unsealed e a vote sealed unsealed failed {R} run t =
      calls-seal o r (extended r (e ∷ [])) (faults old) (faults new) (world old) (world new) R (k.outside t).calls (how-same is_vote r e vote)
      (let seals : how_many is_sealed (extended r (e ∷ [])) ≡ how_many is_sealed r = how-same is_sealed r e sealed in
      let more : how_many is_unsealed (extended r (e ∷ [])) ≡ how_many is_unsealed r + 1 = how-one is_unsealed r e unsealed a in
      omega (arith, seals, more)) (λ g. how-same (is_vote_of g) r e (votes-none g e vote)) (run t)
      (λ none. absurd (none-failed o.faults (faults old) (faults new) (File (Manager o.live)) k.later failed none))

  -- one that isn't
  pub adds-unsealed : (n : ℕ) → applies (ends r) (event.NotSealed n) ≡ true → Moves (ends r) (event.NotSealed n) (ends (extended r (event.NotSealed n ∷ [])))
      → after.quiet ≡ before.quiet → after.written ≡ before.written → after.doubted ≡ before.doubted
      → SealsUnits tells world faults o.live n (event.NotSealed n) (to_commit (ends r) (ends r).manager.batch) before.writer after.writer old new
      → AddsBatch tells o r (extended r (event.NotSealed n ∷ [])) before after (faults old) (faults new) (world old) (world new) [] b.doubted
  adds-unsealed n a m quiet written doubted does =
      let e : CoreEvent = event.NotSealed n in
      let failed : FailedOn (File (Manager o.live)) (faults old) (faults new) = unsealed-failed n before.writer.gate_at (length does.work.block) does.answer does.event does.leaves.cause in
      let later : NoneFell (faults old) (faults new) = failed-later (File (Manager o.live)) (faults old) (faults new) failed in
      plain-adds e a m quiet written refl doubted (unsealed-writer n does.answer does.work.records before.writer after.writer does.event does.leaves.after_is) does.leaves.slot
      [] [] refl (none-more e a m quiet written refl) tt
      (faults-unsealed o.live r (extended r (e ∷ [])) o.faults (faults old) (faults new) k.faults later (λ g. how-same (is_no g) r e refl) (how-one is_unsealed r e refl a) failed.rose)
      later (λ t. (does.leaves.run t).now.output) (calls-unsealed e a refl refl refl failed (λ t. does.leaves.run t))

  -- ---- a doubt

  doubted-are : (x : Bool) (w' : CoreState) (begins : ℕ) (effects : List Effect) (made : List CommitRecord) → w'.manager.doubt ≡ Some begins → chosen w' ≡ effects → AreRecordsOf effects (commits_by effects made)
      → AreInDoubt w' (doubted_by x effects made)
  doubted-are true w' begins effects made doubt are records = (begins, doubt, subst (λ (es : List Effect). AreRecordsOf es (commits_by effects made)) (sym are) records, refl)
  doubted-are false w' begins effects made doubt are records = tt

  -- a batch in doubt
  pub adds-doubt : (n : ℕ) → applies (ends r) (event.Doubt n) ≡ true → Moves (ends r) (event.Doubt n) (ends (extended r (event.Doubt n ∷ [])))
      → after.quiet ≡ before.quiet → after.written ≡ before.written → after.doubted ≡ true
      → (does : SealsUnits tells world faults o.live n (event.Doubt n) (to_commit (ends r) (ends r).manager.batch) before.writer after.writer old new)
      → AddsBatch tells o r (extended r (event.Doubt n ∷ [])) before after (faults old) (faults new) (world old) (world new) []
      (doubted_by (may_open before.writer.gate_at ((world new).disk (Manager o.live))) (to_commit (ends r) (ends r).manager.batch) does.work.records)
  adds-doubt n a m quiet written doubted does =
      let e : CoreEvent = event.Doubt n in
      let effects : List Effect = to_commit (ends r) (ends r).manager.batch in
      let failed : FailedOn (File (Manager o.live)) (faults old) (faults new) = doubt-failed n before.writer.gate_at (length does.work.block) does.answer does.event does.leaves.cause in
      let later : NoneFell (faults old) (faults new) = failed-later (File (Manager o.live)) (faults old) (faults new) failed in
      let left = m.doubted refl in
      record {
        effects = [];
        none = refl;
        commits = none-more e a m quiet written refl;
        records = tt;
        doubted = doubted-are (may_open before.writer.gate_at ((world new).disk (Manager o.live))) (ends (extended r (e ∷ []))) left.0 effects does.work.records left.1 (doubt-chosen r above n a)
            (records_are (voted_of n before.writer) effects does.work.records does.records);
        faults = faults-unsealed o.live r (extended r (e ∷ [])) o.faults (faults old) (faults new) k.faults later (λ g. how-same (is_no g) r e refl) (how-one is_unsealed r e refl a) failed.rose;
        later = later;
        quiet = quiet;
        doubt = doubted ∙ ap is_some (sym left.1);
        slot = does.leaves.slot;
        unsure = doubt-writer n does.answer does.work.records before.writer after.writer does.event does.leaves.after_is ∙ sym doubted;
        written = written;
        output = λ t. (does.leaves.run t).now.output;
        calls = calls-unsealed e a refl refl refl failed (λ t. does.leaves.run t);
      }

  -- none is told again, where none stands
  pub not-again : (n : ℕ) → applies (ends r) (event.Doubt n) ≡ true → DoubtsAgain tells world faults before.writer after.writer old new → ⊥
  not-again n a does =
      true≢false (sym does.unsure ∙ k.unsure ∙ k.doubt ∙ ap is_some (no_doubt (ends r) (event.Doubt n) a refl))
