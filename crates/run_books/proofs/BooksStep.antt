-- The books after the event that a step of the settler puts.
use Rattle.std.proofs.Common.{◌≡◌, inl, inr, ℕ, ◌+◌, List, [], ◌∷◌, ◌++◌, length, drop, Bool, true, false, ◌||◌, refl, sym, ap, ◌∙◌, subst, append-nil, Some, None, is_some, arith, drop-drop}
use Rattle.std.specs.Prelude.{IsTrue, if◌then◌else◌, AllPairs, Option}
use Rattle.base_types.specs.declared.calls.GrainId.{GrainId}
use Rattle.base_types.specs.declared.entries.Entry.{Entry}
use Rattle.base_types.specs.declared.stores.Version.{Version}
use Rattle.host_trait.specs.declared.channels.FileId.TheVariants.{Manager}
use Rattle.host_trait.specs.declared.channels.Channel.{Channel}
use Rattle.host_trait.specs.World.{World, Disk, Passes, moment_of}
use Rattle.host_trait.proofs.Moments.{started}
use Rattle.core_model.specs.CoreState.{UnitNo, Value, CoreState, Member}
use Rattle.core_model.specs.declared.effects.Effect.{Effect}
use Rattle.core_model.specs.declared.events.CoreEvent.{CoreEvent}
use Rattle.core_model.specs.declared.events.CoreEvent.TheVariants as event
use Rattle.core_model.specs.Events.{applies, is_after_doubt}
use Rattle.core_model.specs.Laws.{extended}
use Rattle.core_model.specs.LegalRuns.{Run, ends}
use Rattle.core_model.specs.Settler.{Step, Votes, Decides, Seals as SealStep, Learns, Writes, Loads, Takes, Rests, MakesEvent, settler_step, to_commit, versions_to_write}
use Rattle.core_laws.proofs.CommitOrder.{no_doubt}
use Rattle.field_codec.specs.declared.formats.Format.TheVariants.{Two}
use Rattle.promise_spec.specs.Blocks.{Records, body_of}
use Rattle.promise_spec.proofs.Standings.{grown_none, grown_twice}
use Rattle.promise_spec.specs.Entries.{Log, grown}
use Rattle.promise_spec.specs.Programs.{shape_in}
use Rattle.promise_spec.specs.Records.{Commit}
use Rattle.promise_spec.specs.Crashes.{Acknowledges}
use Rattle.promise_spec.specs.Cores.{how_many}
use Rattle.promise_spec.specs.Causes.{is_unsealed}
use Rattle.promise_spec.specs.UnitRule.{KeepsUnitRule}
use Rattle.promise_spec.specs.Journals.{Settlement, Seals, commits_of}
use Rattle.batch_disk.specs.ImagesAtRest.{Voted}
use Rattle.batch_disk.specs.Moments.{LeavesRest, KeepsLog}
use Rattle.batch_disk.specs.Records.{commits_by}
use Rattle.batch_disk.specs.Seals.{WriterAfter}
use Rattle.batch_disk.specs.Writers.{KeepsDisk, kept_of, voted_of, newest_number}
use Rattle.batch_disk.specs.declared.writer.BatchWriter.{BatchWriter}
use Rattle.batch_disk.proofs.BatchRecords.{records_are}
use Rattle.commit_log.specs.declared.gate.Sealing.{Sealing}
use Rattle.commit_log.specs.declared.gate.Sealing.TheVariants as sealing
use Rattle.commit_log.specs.declared.records.CommitRecord.{CommitRecord}
use Rattle.commit_log.specs.SealImages.{SealHasCause}
use Rattle.settle_loop.specs.ShownWork.{event_of, tells_entry, tells_doubt, counted_up}
use Rattle.batch_disk.specs.VoteAnswers.{VotesOn}
use Rattle.batch_disk.proofs.WriterState.{keeps_log}
use Rattle.host_trait.proofs.Runs.{asked_keeps, arrives_asked}
use Rattle.host_trait.specs.Runs.{OnlyAsked}
use Rattle.settle_loop.specs.HostSteps.{MakesNoCall, LoadsGrain, SealsUnits, DoesFor, batch_made}
use Rattle.settle_loop.specs.StepJournal.{as_settled, LeavesLogs, JournalsAs}
use Rattle.settle_loop.specs.declared.settler.Settler.{Settler}
use Rattle.settle_loop.proofs.StepJournal.{journals, leaves}
use Rattle.run_books.specs.Beginnings.{Outset, basis_of}
use Rattle.run_books.specs.Books.{Books, AreInDoubt, AreBooked}
use Rattle.run_books.specs.Images.{EndsAsBegun, KeepsFolder, LastsSo}
use Rattle.run_books.specs.Records.{KeepsBooks}
use Rattle.run_books.specs.BooksSteps.{AreEven, CanSettle}
use Rattle.run_books.proofs.BooksCore.{Moves, moves-run}
use Rattle.run_books.proofs.BooksCounts.{doubt-ends, how-one, none-before}
use Rattle.run_books.proofs.BooksLists.{alone}
use Rattle.run_books.proofs.BooksGrown.{grown_books, grown-commits}
use Rattle.run_books.proofs.BooksKept.{AddsBatch, books-kept, books-even}
use Rattle.run_books.proofs.BooksEvents.{adds-none, adds-asked, adds-vote, adds-sealed, adds-unsealed}
use Rattle.run_books.specs.Places.{AreOfVotes, KeepsVersions}
use Rattle.run_books.proofs.BooksVersions.{step-true, versions-same, versions-on, versions-sealed}
use Rattle.run_books.proofs.BooksFair.{all-of, is-fair, written as effects-written, votes-after, fresh-batch}
use Rattle.settler_rules.proofs.LoggedUnits.{IsBelow, fits-format}
use Rattle.batch_disk.specs.MovedPlaces.{place_after, placed_by_commits}
use Rattle.batch_disk.specs.Records.{IsAsWritten}
use Rattle.base_types.specs.Places.{placed_in}
use Rattle.base_types.specs.declared.places.Placed.{Placed}
use Rattle.core_model.specs.SerialOrder.{IsTrueLoad}
use Rattle.run_books.proofs.BooksSeals.{seals-last}
use Rattle.run_books.specs.Stages.{stage_of}

-- nothing is in doubt, and so no batch of the books
pub none-doubted : (w : CoreState) (d : List Settlement) → AreInDoubt w d → w.manager.doubt ≡ None → d ≡ []
none-doubted w [] is none = refl
none-doubted w (batch ∷ []) is none = absurd (let z : Some is.0 ≡ None = sym is.1 ∙ none in cc)
none-doubted w (batch ∷ (another ∷ rest)) is none = absurd is

-- the step that makes a vote is that vote
votes-step : (n : ℕ) (g : GrainId) (said : Bool) (s : Step) → MakesEvent s (event.Vote n g said) → s ≡ Votes n g
votes-step n g said (Votes k h) m = (let q = m.1 in cc)
votes-step n g said (Decides k) m = absurd (cc m)
votes-step n g said (SealStep k) (inl m) = absurd (cc m)
votes-step n g said (SealStep k) (inr (inl m)) = absurd (cc m)
votes-step n g said (SealStep k) (inr (inr m)) = absurd (cc m)
votes-step n g said (Learns u h) m = absurd (cc m)
votes-step n g said Writes m = absurd (cc m)
votes-step n g said (Loads h) m = absurd (let q = m.2 in cc q)
votes-step n g said Takes m = absurd (cc m)
votes-step n g said Rests m = absurd m

-- what stood behind the gate before stands behind the next one
behind-block : (gate size next : ℕ) (was now begun : List ℕ) → next ≡ gate + size → drop (gate + (size + 1)) now ≡ drop (gate + (size + 1)) was → drop (gate + 1) was ≡ drop (gate + 1) begun → drop (next + 1) now ≡ drop (next + 1) begun
behind-block gate size next was now begun is torn same =
    let one : next + 1 ≡ gate + (size + 1) = omega (arith, is) in
    let two : gate + (size + 1) ≡ gate + 1 + size = omega arith in
    ap (λ (n : ℕ). drop n now) one ∙ torn ∙ ap (λ (n : ℕ). drop n was) two ∙ sym (drop-drop size (gate + 1) was) ∙ ap (drop size) same ∙ drop-drop size (gate + 1) begun
    ∙ ap (λ (n : ℕ). drop n begun) (sym two ∙ sym one)

module _ {H : Type 0} (tells : Bool) (world : H → World) (faults : H → Channel → ℕ) (o : Outset) (b : Books) (r : Run) (before after : Settler) (old new : H)
    (can : CanSettle o (shape_in o.program) r) (even : AreEven before.quiet b (ends r)) (k : KeepsBooks tells o b (stage_of world faults r before old)) where
  -- the books with what the event adds
  pub record StepDone (e : CoreEvent) : Type 0 where
    pub books : Books
    pub kept : KeepsBooks tells o books (stage_of world faults (extended r (e ∷ [])) after new)
    pub even_again : AreEven after.quiet books (ends (extended r (e ∷ [])))
    pub lasts : IsTrue tells → (head : List ℕ) → LastsSo o head b r before.writer (world old) → LastsSo o head books (extended r (e ∷ [])) after.writer (world new)

  -- what becomes of the settler, and that the event applies
  pub record IsCounted (e : CoreEvent) : Type 0 where
    pub applied : applies (ends r) e ≡ true
    pub quiet : after.quiet ≡ before.quiet
    pub written : after.written ≡ (if tells_entry e then counted_up before.written else before.written)
    pub doubted : after.doubted ≡ (before.doubted || tells_doubt e)
    pub units : KeepsUnitRule (basis_of o) (extended r (e ∷ []))

  -- what is left of the folder where no batch is in doubt
  record DiskAfter (e : CoreEvent) (head : List ℕ) (f : KeepsFolder o head b r before.writer (world old).disk) (batch : List Settlement) : Type 0 where
    stood : Log
    bodies : List (List ℕ)
    log : stood ≡ grown f.stood (commits_of batch)
    keeps : KeepsDisk o.live (shape_in o.program) head stood bodies after.writer (world new).disk
    seals : Seals o.live f.stood batch (world old) (world new)
    rest : Passes (LeavesRest o.live head (world old)) (world old).past (world new).past
    rest_now : LeavesRest o.live head (world old) (moment_of (world new))
    behind : how_many is_unsealed (extended r (e ∷ [])) ≡ 0 → EndsAsBegun o after.writer.gate_at ((world new).disk (Manager o.live))

  module _ (e : CoreEvent) (c : IsCounted e) (entry : tells_entry e ≡ false) (late : is_after_doubt e ≡ false) where
    abbrev r' : Run
    r' = extended r (e ∷ [])

    abbrev pub m : Moves (ends r) e (ends r')
    m = moves-run r e c.applied

    pub none : (ends r).manager.doubt ≡ None
    none = no_doubt (ends r) e c.applied late

    pub sure : b.doubted ≡ []
    sure = none-doubted (ends r) b.doubted k.booked.doubted none

    pub writer-sure : before.writer.in_doubt ≡ false
    writer-sure = k.unsure ∙ k.doubt ∙ ap is_some none

    -- an event that leaves no doubt
    plain-done : (plain : tells_doubt e ≡ false) (batch : List Settlement) (adds : AddsBatch tells o r r' before after (faults old) (faults new) (world old) (world new) batch b.doubted)
        → (IsTrue tells → KeepsVersions o (grown_books b m.more batch b.doubted) r' after.writer (world new).disk)
        → (IsTrue tells → (head : List ℕ) (f : KeepsFolder o head b r before.writer (world old).disk) → DiskAfter e head f batch)
        → (IsTrue tells → (x : Entry) (l : Commit) → Member x (ends r).manager.settled → Member l (commits_of batch) → Acknowledges x l → ⊥) → StepDone e
    plain-done plain batch adds versions disk fresh = record {
      books = grown_books b m.more batch b.doubted;
      kept = kept;
      even_again = books-even tells o b r e before after (faults old) (faults new) (world old) (world new) batch b.doubted can.above can.units even k m entry adds;
      lasts = λ t head l. (
          let f = l.folder writer-sure in
          let d = disk t head f in
          subst (λ (x : List Settlement). LastsSo o head (grown_books b m.more batch x) r' after.writer (world new)) (sym sure)
          (seals-last o head b r e before.writer after.writer (world old) (world new) m.more batch can.above can.units c.units k.booked sure even.rest (k.outside t).output.proper l adds.none
          (subst (λ (x : List Settlement). AreBooked (grown_books b m.more batch x) (ends r')) sure kept.booked)
          (subst (λ (log : Log). Seals o.live log batch (world old) (world new)) f.log d.seals) d.rest d.rest_now
          (λ x y said there is. fresh t x y (subst (λ (xs : List Entry). Member x xs) k.booked.entries said) there is)
          (λ h. absurd (let left = doubt-ends r' h in let z : Some left.0 ≡ None = sym left.1 ∙ (m.doubt plain ∙ none) in cc))
          (λ q. record {
            stood = d.stood;
            bodies = d.bodies;
            log = d.log ∙ ap (λ (x : Log). grown x (commits_of batch)) f.log ∙ grown_twice o.opening (commits_of (b.said ++ b.unsaid)) (commits_of batch)
                ∙ ap (grown o.opening) (sym (grown-commits b m.more batch []));
            keeps = d.keeps;
            behind = d.behind;
          }))
          );
    }
      where
        kept : KeepsBooks tells o (grown_books b m.more batch b.doubted) (stage_of world faults (extended r (e ∷ [])) after new)
        kept = books-kept tells o b r e before after (faults old) (faults new) (world old) (world new) batch b.doubted can.above can.units even k m entry adds versions

    -- what the journal law says of it, where it is the settler's step
    journal-of : MakesEvent (settler_step (ends r)) e → (t : IsTrue tells) (head : List ℕ) (f : KeepsFolder o head b r before.writer (world old).disk) (does : DoesFor tells world faults o.live e before.quiet (shape_in o.program) (ends r) before.writer after.writer old new)
        → JournalsAs o.live o.program head f.stood f.bodies before.writer after.writer (world old) (world new) e before.quiet (ends r) (batch_made tells world faults o.live e before.quiet (shape_in o.program) (ends r) before.writer after.writer old new does)
    journal-of makes t head f does =
        journals tells t world faults o.live o.program head f.stood f.bodies (ends r) before.writer after.writer old new f.keeps
        (is-fair o r before.writer can.above can.units can.kinds can.accepted can.numbers (k.versions t).votes) before.quiet (settler_step (ends r)) e refl makes does

    -- without a host call no log changes
    no-call : (head : List ℕ) (f : KeepsFolder o head b r before.writer (world old).disk) → MakesNoCall tells world faults before.writer after.writer old new
        → LeavesLogs o.live o.program head f.stood f.bodies before.writer after.writer (world old) (world new)
    no-call head f none =
        let same : LeavesLogs o.live o.program head f.stood f.bodies before.writer before.writer (world old) (world old) =
        leaves o.live o.program head f.stood f.bodies before.writer before.writer (world old) (world old) f.keeps refl (record { more = []; past = sym (append-nil (world old).past); last = refl })
        (started (KeepsLog o.live head f.stood (world old)) (world old).past) f.keeps in
        subst (λ (x : BatchWriter). LeavesLogs o.live o.program head f.stood f.bodies before.writer x (world old) (world new)) (sym none.writer)
        (subst (λ (h : H). LeavesLogs o.live o.program head f.stood f.bodies before.writer before.writer (world old) (world h)) (sym none.host) same)

    -- a read changes none
    only-asked : (head : List ℕ) (f : KeepsFolder o head b r before.writer (world old).disk) → OnlyAsked (world old) (world new) → after.writer ≡ before.writer
        → LeavesLogs o.live o.program head f.stood f.bodies before.writer after.writer (world old) (world new)
    only-asked head f asked same =
        let here : KeepsLog o.live head f.stood (world old) (moment_of (world old)) = record {
          rest = record { output = refl; aside = λ file is. refl; header = λ image left. (f.keeps.images image left).header };
          logs = keeps_log o.live (shape_in o.program) head f.stood f.bodies before.writer (world old).disk f.keeps;
        } in
        let kept : KeepsDisk o.live (shape_in o.program) head f.stood f.bodies before.writer (world new).disk = subst (KeepsDisk o.live (shape_in o.program) head f.stood f.bodies before.writer) (sym asked.disk) f.keeps in
        leaves o.live o.program head f.stood f.bodies before.writer after.writer (world old) (world new) f.keeps asked.output (arrives_asked (world old) (world new) asked)
        (asked_keeps (KeepsLog o.live head f.stood (world old)) (world old) (world new) asked here)
        (subst (λ (w : BatchWriter). KeepsDisk o.live (shape_in o.program) head f.stood f.bodies w (world new).disk) (sym same) kept)

    -- no log changes
    leaves-disk : (head : List ℕ) (f : KeepsFolder o head b r before.writer (world old).disk) → LeavesLogs o.live o.program head f.stood f.bodies before.writer after.writer (world old) (world new)
        → (how_many is_unsealed (extended r (e ∷ [])) ≡ 0 → EndsAsBegun o after.writer.gate_at ((world new).disk (Manager o.live))) → DiskAfter e head f []
    leaves-disk head f left behind = record {
      stood = f.stood;
      bodies = f.bodies;
      log = sym (grown_none f.stood);
      keeps = left.disk;
      seals = left.seals;
      rest = left.rest;
      rest_now = left.rest_now;
      behind = behind;
    }

    -- without a host call nothing is left behind the log
    behind-still : (head : List ℕ) (f : KeepsFolder o head b r before.writer (world old).disk) → MakesNoCall tells world faults before.writer after.writer old new
        → how_many is_unsealed (extended r (e ∷ [])) ≡ 0 → EndsAsBegun o after.writer.gate_at ((world new).disk (Manager o.live))
    behind-still head f does none =
        subst (λ (x : BatchWriter). EndsAsBegun o x.gate_at ((world new).disk (Manager o.live))) (sym does.writer)
        (subst (λ (h : H). EndsAsBegun o before.writer.gate_at ((world h).disk (Manager o.live))) (sym does.host) (f.behind (none-before is_unsealed r (e ∷ []) none)))

    -- no record comes
    pub no-commits : commits_of (b.said ++ ((b.unsaid ++ []) ++ alone m.more)) ≡ commits_of (b.said ++ b.unsaid)
    no-commits = grown-commits b m.more [] b.doubted ∙ append-nil (commits_of (b.said ++ b.unsaid))

    -- without a host call places and versions are as they were
    versions-still : IsTrueLoad r.opening (ends r) e → MakesNoCall tells world faults before.writer after.writer old new → IsTrue tells → KeepsVersions o (grown_books b m.more [] b.doubted) r' after.writer (world new).disk
    versions-still true_is does t =
        versions-same o b (grown_books b m.more [] b.doubted) r before.writer after.writer (world old).disk (world new).disk (k.versions t) does.writer (ap (λ (h : H). (world h).disk) does.host) no-commits e can.above true_is

    votes-gone : kept_of after.writer ≡ [] → AreOfVotes r' after.writer
    votes-gone gone v there = absurd (subst (λ (vs : List Voted). Member v vs) gone there)

  no-older : IsTrue tells → (x : Entry) (l : Commit) → Member x (ends r).manager.settled → Member l (commits_of []) → Acknowledges x l → ⊥
  no-older t x l said there is = there

  or-none : (x : Bool) → (x || false) ≡ x
  or-none true = refl
  or-none false = refl

  -- a vote leaves the manager file alone
  vote-behind : (n : ℕ) (g : GrainId) (said : Bool) (versions : List Version) (t : IsTrue tells) → VotesOn tells world faults o.live n g said versions before.writer after.writer old new
      → EndsAsBegun o before.writer.gate_at ((world old).disk (Manager o.live)) → EndsAsBegun o after.writer.gate_at ((world new).disk (Manager o.live))
  vote-behind n g said versions t does was =
      subst (λ (gate : ℕ). EndsAsBegun o gate ((world new).disk (Manager o.live))) (sym does.same.gate)
      (subst (EndsAsBegun o before.writer.gate_at) (sym ((does.run t).now.others (Manager o.live) (λ q. cc q))) was)

  -- and a batch on disk moves its gate behind the block
  next-gate : (n : ℕ) (x : Sealing) (made : List CommitRecord) (v w : BatchWriter) (size : ℕ) → event.Sealed n ≡ event_of n x → SealHasCause o.live x v.gate_at size (faults old) (faults new) → WriterAfter x made v w → w.gate_at ≡ v.gate_at + size
  next-gate n (sealing.Sealed next) made v w size q cause is = is.0 ∙ cause.0
  next-gate n sealing.NotSealed made v w size q cause is = absurd (cc q)
  next-gate n sealing.InDoubt made v w size q cause is = absurd (cc q)

  seal-behind : (n : ℕ) (t : IsTrue tells) → (does : SealsUnits tells world faults o.live n (event.Sealed n) (to_commit (ends r) (ends r).manager.batch) before.writer after.writer old new)
      → EndsAsBegun o before.writer.gate_at ((world old).disk (Manager o.live)) → EndsAsBegun o after.writer.gate_at ((world new).disk (Manager o.live))
  seal-behind n t does was bytes left =
      let gate : ℕ = before.writer.gate_at in
      let size : ℕ = length does.work.block in
      let next : after.writer.gate_at ≡ gate + size = next-gate n does.answer does.work.records before.writer after.writer size does.event does.leaves.cause does.leaves.after_is in
      let crash = (does.leaves.run t).now.crash bytes left in
      behind-block gate size after.writer.gate_at crash.0 bytes (o.world.disk (Manager o.live)).seen next crash.2.after (was crash.0 crash.1)

  -- the three events without a host call
  pub by-decide : (n : ℕ) → MakesNoCall tells world faults before.writer after.writer old new → IsCounted (event.Decide n) → StepDone (event.Decide n)
  by-decide n does c =
      let e : CoreEvent = event.Decide n in
      plain-done e c refl refl refl []
      (adds-none tells world faults o b r before after old new can.above can.units k e c.applied (moves-run r e c.applied) c.quiet c.written refl (c.doubted ∙ or-none before.doubted) (λ g. refl) refl refl refl does)
      (λ t. versions-still e c refl refl tt does t)
      (λ t head f. leaves-disk e c refl refl head f (no-call e c refl refl head f does) (behind-still e c refl refl head f does)) no-older

  pub by-learn : (u : UnitNo) (g : GrainId) → MakesNoCall tells world faults before.writer after.writer old new → IsCounted (event.Learn u g) → StepDone (event.Learn u g)
  by-learn u g does c =
      let e : CoreEvent = event.Learn u g in
      plain-done e c refl refl refl []
      (adds-none tells world faults o b r before after old new can.above can.units k e c.applied (moves-run r e c.applied) c.quiet c.written refl (c.doubted ∙ or-none before.doubted) (λ h. refl) refl refl refl does)
      (λ t. versions-still e c refl refl tt does t)
      (λ t head f. leaves-disk e c refl refl head f (no-call e c refl refl head f does) (behind-still e c refl refl head f does)) no-older

  pub by-take : MakesNoCall tells world faults before.writer after.writer old new → IsCounted event.Take → StepDone event.Take
  by-take does c =
      let e : CoreEvent = event.Take in
      plain-done e c refl refl refl []
      (adds-none tells world faults o b r before after old new can.above can.units k e c.applied (moves-run r e c.applied) c.quiet c.written refl (c.doubted ∙ or-none before.doubted) (λ g. refl) refl refl refl does)
      (λ t. versions-still e c refl refl tt does t)
      (λ t head f. leaves-disk e c refl refl head f (no-call e c refl refl head f does) (behind-still e c refl refl head f does)) no-older

  -- a grain that is brought into memory
  pub by-load : (g : GrainId) (u : UnitNo) (state : List Value) → LoadsGrain tells world faults o.live (shape_in o.program) g (record { unit = u; state = state }) before.writer after.writer old new
      → IsCounted (event.Load g u state) → StepDone (event.Load g u state)
  by-load g u state does c =
      let e : CoreEvent = event.Load g u state in
      plain-done e c refl refl refl []
      (adds-asked tells world faults o b r before after old new can.above can.units k e c.applied (moves-run r e c.applied) c.quiet c.written refl (c.doubted ∙ or-none before.doubted) (λ h. refl) refl refl refl does.writer does.calm does.asked)
      (λ t.
      versions-same o b (grown_books b (moves-run r e c.applied).more [] b.doubted) r before.writer after.writer (world old).disk (world new).disk (k.versions t) does.writer (does.asked t).disk (no-commits e c refl refl) e can.above
      (step-true o b r before.writer (world old).disk g u state can.above k.booked (k.versions t) (does.told t (k.versions t).stand)))
      (λ t head f. leaves-disk e c refl refl head f (only-asked e c refl refl head f (does.asked t) does.writer)
      (λ none. subst (λ (w : BatchWriter). EndsAsBegun o w.gate_at ((world new).disk (Manager o.live))) (sym does.writer)
      (subst (λ (d : Disk). EndsAsBegun o before.writer.gate_at (d (Manager o.live))) (sym (does.asked t).disk) (f.behind (none-before is_unsealed r (e ∷ []) none))))) no-older

  -- a vote
  pub by-vote : (n : ℕ) (g : GrainId) (said : Bool) (versions : List Version) → MakesEvent (settler_step (ends r)) (event.Vote n g said) → (IsTrue tells → versions ≡ versions_to_write (ends r) (ends r).manager.batch g)
      → VotesOn tells world faults o.live n g said versions before.writer after.writer old new → IsCounted (event.Vote n g said) → StepDone (event.Vote n g said)
  by-vote n g said versions makes shown does c =
      let e : CoreEvent = event.Vote n g said in
      let as-shown : IsTrue tells → VotesOn tells world faults o.live n g said (versions_to_write (ends r) (ends r).manager.batch g) before.writer after.writer old new =
      (λ t. subst (λ (vs : List Version). VotesOn tells world faults o.live n g said vs before.writer after.writer old new) (shown t) does) in
      plain-done e c refl refl refl []
      (adds-vote tells world faults o b r before after old new can.above can.units k n g said versions c.applied (moves-run r e c.applied) c.quiet c.written (c.doubted ∙ or-none before.doubted) does)
      (λ t. (
      let fair = (is-fair o r before.writer can.above can.units can.kinds can.accepted can.numbers (k.versions t).votes).vote n g (votes-step n g said (settler_step (ends r)) makes) in
      versions-on o b (grown_books b (moves-run r e c.applied).more [] b.doubted) r before.writer after.writer (world old).disk (world new).disk (k.versions t)
      (((as-shown t).images t).placed (shape_in o.program) fair.0 fair.1 (k.versions t).stand) does.same.places (no-commits e c refl refl) e tt
      (votes-after r n g said before.writer after.writer can.above c.applied does.batch (as-shown t).kept (k.versions t).votes)))
      (λ t head f. leaves-disk e c refl refl head f (journal-of e c refl refl makes t head f (as-shown t))
      (λ none. vote-behind n g said versions t does (f.behind (none-before is_unsealed r (e ∷ []) none)))) no-older

  -- a batch on disk, or not
  sealed-gone : (n : ℕ) (x : Sealing) (made : List CommitRecord) (v w : BatchWriter) → event.Sealed n ≡ event_of n x → WriterAfter x made v w → kept_of w ≡ []
  sealed-gone n (sealing.Sealed next) made v w q is = is.1.1.1
  sealed-gone n sealing.NotSealed made v w q is = absurd (cc q)
  sealed-gone n sealing.InDoubt made v w q is = absurd (cc q)

  unsealed-gone : (n : ℕ) (x : Sealing) (made : List CommitRecord) (v w : BatchWriter) → event.NotSealed n ≡ event_of n x → WriterAfter x made v w → kept_of w ≡ []
  unsealed-gone n (sealing.Sealed next) made v w q is = absurd (cc q)
  unsealed-gone n sealing.NotSealed made v w q is = is.1
  unsealed-gone n sealing.InDoubt made v w q is = absurd (cc q)

  sealed-places : (number n : ℕ) (x : Sealing) (batch : List Commit) (g : GrainId) (p : Option Placed) → event.Sealed n ≡ event_of n x → place_after number x batch g p ≡ placed_by_commits number batch g p
  sealed-places number n (sealing.Sealed next) batch g p q = refl
  sealed-places number n sealing.NotSealed batch g p q = absurd (cc q)
  sealed-places number n sealing.InDoubt batch g p q = absurd (cc q)

  unsealed-places : (n : ℕ) (x : Sealing) (made : List CommitRecord) (v w : BatchWriter) → event.NotSealed n ≡ event_of n x → WriterAfter x made v w → (g : GrainId) → placed_in w.places g ≡ placed_in v.places g
  unsealed-places n (sealing.Sealed next) made v w q is = absurd (cc q)
  unsealed-places n sealing.NotSealed made v w q is = is.0.places
  unsealed-places n sealing.InDoubt made v w q is = absurd (cc q)

  pub by-unsealed : (n : ℕ) → MakesEvent (settler_step (ends r)) (event.NotSealed n) → SealsUnits tells world faults o.live n (event.NotSealed n) (to_commit (ends r) (ends r).manager.batch) before.writer after.writer old new → IsCounted (event.NotSealed n) → StepDone (event.NotSealed n)
  by-unsealed n makes does c =
      let e : CoreEvent = event.NotSealed n in
      plain-done e c refl refl refl []
      (adds-unsealed tells world faults o b r before after old new can.above can.units k n c.applied (moves-run r e c.applied) c.quiet c.written (c.doubted ∙ or-none before.doubted) does)
      (λ t.
      versions-on o b (grown_books b (moves-run r e c.applied).more [] b.doubted) r before.writer after.writer (world old).disk (world new).disk (k.versions t)
      (does.leaves.placed t (shape_in o.program) (k.versions t).stand) (unsealed-places n does.answer does.work.records before.writer after.writer does.event does.leaves.after_is) (no-commits e c refl refl) e tt
      (votes-gone e c refl refl (unsealed-gone n does.answer does.work.records before.writer after.writer does.event does.leaves.after_is)))
      (λ t head f. leaves-disk e c refl refl head f (journal-of e c refl refl makes t head f does)
      (λ none. absurd (let one = how-one is_unsealed r e refl c.applied in omega (arith, one, none)))) no-older

  pub by-sealed : (n : ℕ) → MakesEvent (settler_step (ends r)) (event.Sealed n) → SealsUnits tells world faults o.live n (event.Sealed n) (to_commit (ends r) (ends r).manager.batch) before.writer after.writer old new → IsCounted (event.Sealed n) → StepDone (event.Sealed n)
  by-sealed n makes does c =
      let e : CoreEvent = event.Sealed n in
      let effects : List Effect = to_commit (ends r) (ends r).manager.batch in
      let batch : List Commit = commits_by effects does.work.records in
      let adds = adds-sealed tells world faults o b r before after old new can.above can.units k n c.applied (moves-run r e c.applied) c.quiet c.written (c.doubted ∙ or-none before.doubted) does in
      let m = moves-run r e c.applied in
      let versions : IsTrue tells → KeepsVersions o (grown_books b m.more (as_settled batch ∷ []) b.doubted) (extended r (e ∷ [])) after.writer (world new).disk =
      (λ t. (
      let up = all-of (λ (x : Effect). AllPairs IsBelow x.writes) effects (λ x there. (fits-format (basis_of o) r can.above can.units can.accepted x there).ascending) in
      let as_written = all-of (IsAsWritten (voted_of n before.writer)) effects (effects-written o r before.writer can.above can.units can.kinds can.accepted can.numbers (k.versions t).votes n) in
      versions-sealed o b (grown_books b m.more (as_settled batch ∷ []) b.doubted) r e before.writer after.writer (world old).disk (world new).disk effects batch (k.versions t) tt
      (votes-gone e c refl refl (sealed-gone n does.answer does.work.records before.writer after.writer does.event does.leaves.after_is)) (does.leaves.placed t (shape_in o.program) (k.versions t).stand)
      (records_are (voted_of n before.writer) effects does.work.records does.records) up
      (λ g. does.leaves.places n effects does.records as_written g ∙ sealed-places (newest_number before.writer) n does.answer batch g (placed_in before.writer.places g) does.event)
      (grown-commits b m.more (as_settled batch ∷ []) b.doubted ∙ ap (λ (cs : List Commit). commits_of (b.said ++ b.unsaid) ++ cs) (append-nil batch)))) in
      let kept = books-kept tells o b r e before after (faults old) (faults new) (world old) (world new) (as_settled batch ∷ []) b.doubted can.above can.units even k m refl adds versions in
      plain-done e c refl refl refl (as_settled batch ∷ []) adds versions
      (λ t head f. (
      let s = journal-of e c refl refl makes t head f does in
      record {
        stood = grown f.stood batch;
        bodies = f.bodies ++ body_of Two (Records before.writer.session batch) ∷ [];
        log = ap (grown f.stood) (sym (append-nil batch));
        keeps = s.disk;
        seals = s.seals;
        rest = s.rest;
        rest_now = s.rest_now;
        behind = λ none. seal-behind n t does (f.behind (none-before is_unsealed r (e ∷ []) none));
      }))
      (λ t x l said there is. fresh-batch r e batch (commits_of (b.said ++ ((b.unsaid ++ as_settled batch ∷ []) ++ alone m.more))) can.above
      (records_are (voted_of n before.writer) effects does.work.records does.records) kept.booked.commits
      (λ y among. subst (λ (ls : List Commit). Member y ls) (sym (grown-commits b m.more (as_settled batch ∷ []) b.doubted))
      (in-back y (commits_of (b.said ++ b.unsaid)) (commits_of (as_settled batch ∷ [])) (subst (λ (ls : List Commit). Member y ls) (sym (append-nil batch)) among)))
      x l said (subst (λ (ls : List Commit). Member l ls) (append-nil batch) there) is)
    where
      in-back : {A : Type 0} (x : A) (xs ys : List A) → Member x ys → Member x (xs ++ ys)
      in-back x [] ys there = there
      in-back x (z ∷ xs) ys there = inr (in-back x xs ys there)
