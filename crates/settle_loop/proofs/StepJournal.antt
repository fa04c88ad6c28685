-- A step as a run's journal takes it.
use Rattle.std.proofs.Common.{◌≡◌, ◌⊎◌, inl, inr, ℕ, List, [], ◌∷◌, ◌++◌, Bool, true, false, refl, sym, ap, subst, ◌∙◌, append-nil}
use Rattle.std.proofs.lemmas.List.{append_cancel_left}
use Rattle.std.specs.List.{AllByRecursion}
use Rattle.base_types.specs.declared.calls.GrainId.{GrainId}
use Rattle.host_trait.specs.declared.channels.Channel.{Channel}
use Rattle.host_trait.specs.World.{World, Moment, Passes, Arrives, moment_of, last_of}
use Rattle.host_trait.proofs.Moments.{started, weaker}
use Rattle.host_trait.proofs.Runs.{asked_keeps, arrives_asked}
use Rattle.base_types.specs.declared.stores.Version.{Version}
use Rattle.commit_log.specs.declared.records.CommitRecord.{CommitRecord}
use Rattle.commit_log.specs.declared.gate.Sealing.{Sealing}
use Rattle.commit_log.specs.declared.gate.Sealing.TheVariants as sealing
use Rattle.field_codec.specs.declared.formats.Format.TheVariants.{Two}
use Rattle.core_model.specs.CoreState.{CoreState}
use Rattle.core_model.specs.declared.effects.Effect.{Effect}
use Rattle.core_model.specs.declared.events.CoreEvent.{CoreEvent}
use Rattle.core_model.specs.declared.events.CoreEvent.TheVariants as event
use Rattle.core_model.specs.Settler.{Step, Votes, Decides, Seals as SealStep, Learns, Writes, Loads, Takes, Rests, MakesEvent, settler_step, versions_to_write, to_commit}
use Rattle.promise_spec.specs.Programs.{Program, shape_in}
use Rattle.promise_spec.specs.Records.{Commit}
use Rattle.promise_spec.specs.Entries.{Log, grown}
use Rattle.promise_spec.specs.Blocks.{Records, body_of}
use Rattle.batch_disk.specs.Moments.{LeavesRest, KeepsLog, IsSeam}
use Rattle.batch_disk.specs.Writers.{KeepsDisk}
use Rattle.batch_disk.specs.Records.{commits_by}
use Rattle.batch_disk.specs.Seals.{SealsAs}
use Rattle.batch_disk.specs.declared.writer.BatchWriter.{BatchWriter}
use Rattle.batch_disk.proofs.WriterState.{keeps_log}
use Rattle.batch_disk.proofs.Journal.{as_it_was, seals_on, doubt_on}
use Rattle.settle_loop.specs.ShownWork.{event_of}
use Rattle.batch_disk.specs.VoteAnswers.{VotesOn}
use Rattle.settle_loop.specs.HostSteps.{MakesNoCall, LoadsGrain, SealsUnits, DoubtsAgain, WritesEntry, DoesFor, batch_made}
use Rattle.settle_loop.specs.StepJournal.{IsFair, as_settled, LeavesLogs, SealsBatch, DoubtsBatch, JournalsAs}

-- ---- what holds at each moment holds now

last_has : (P : Moment → Type 0) (m : Moment) (ms : List Moment) → P m → AllByRecursion P ms → P (last_of m ms)
last_has P m [] here each = here
last_has P m (x ∷ ms) here each = last_has P x ms each.0 each.1

pub holds_now : (P : Moment → Type 0) (old new : World) → P (moment_of old) → Passes P old.past new.past → Arrives old new → P (moment_of new)
holds_now P old new here run clock =
    let same : clock.more ≡ run.more = append_cancel_left old.past clock.more run.more (sym clock.past ∙ run.past) in
    subst P clock.last (last_has P (moment_of old) clock.more here (subst (AllByRecursion P) (sym same) run.each))

-- the clock where no call was made
stays_now : (w : World) → Arrives w w
stays_now w = record { more = []; past = sym (append-nil w.past); last = refl }

module _ (live : ℕ) (p : Program) (head : List ℕ) (log : Log) (bodies : List (List ℕ)) (before after : BatchWriter) (old new : World) (keeps : KeepsDisk live (shape_in p) head log bodies before old.disk) where
  start : LeavesRest live head old (moment_of old)
  start = record { output = refl; aside = λ file is. refl; header = λ image left. (keeps.images image left).header }

  -- no log changes
  pub leaves : new.output ≡ old.output → Arrives old new → Passes (KeepsLog live head log old) old.past new.past
      → KeepsDisk live (shape_in p) head log bodies after new.disk → LeavesLogs live p head log bodies before after old new
  leaves output clock moments after_keeps =
      let rest : Passes (LeavesRest live head old) old.past new.past = weaker (KeepsLog live head log old) (LeavesRest live head old) (λ m k. k.rest) moments in
      record {
        seals = as_it_was live head log old new output moments (keeps_log live (shape_in p) head log bodies after new.disk after_keeps);
        rest = rest;
        rest_now = holds_now (LeavesRest live head old) old new start rest clock;
        disk = after_keeps;
      }

  module _ (effects : List Effect) (made : List CommitRecord) (output : new.output ≡ old.output) (clock : Arrives old new) where
    seam_rest : (batch : List Commit) → Passes (IsSeam live head log batch old) old.past new.past → Passes (LeavesRest live head old) old.past new.past
    seam_rest batch moments = weaker (IsSeam live head log batch old) (LeavesRest live head old) (λ m k. k.rest) moments

    -- a batch is sealed
    pub sealed : (next : ℕ) → (s : SealsAs live (shape_in p) head log bodies effects made (sealing.Sealed next) before after old new) → SealsBatch live p head log bodies before after old new effects s.batch
    sealed next s =
        let rest : Passes (LeavesRest live head old) old.past new.past = seam_rest s.batch s.moments in
        record {
          records = s.records;
          seals = seals_on live head log old new output s.batch (as_settled s.batch ∷ []) (append-nil s.batch) s.moments (keeps_log live (shape_in p) head (grown log s.batch) (bodies ++ body_of Two (Records before.session s.batch) ∷ []) after new.disk s.stands);
          rest = rest;
          rest_now = holds_now (LeavesRest live head old) old new start rest clock;
          disk = s.stands;
        }

    -- it isn't
    pub not_sealed : SealsAs live (shape_in p) head log bodies effects made sealing.NotSealed before after old new → LeavesLogs live p head log bodies before after old new
    not_sealed s = leaves output clock s.stands.0 s.stands.1

    -- it is in doubt
    pub doubted : (s : SealsAs live (shape_in p) head log bodies effects made sealing.InDoubt before after old new) → DoubtsBatch live p head log bodies before after old new before.gate_at effects s.batch
    doubted s = record {
      records = s.records;
      journal = doubt_on live head log old new output s.batch (as_settled s.batch) refl s.moments s.stands.logs s.stands.which;
      rest = seam_rest s.batch s.moments;
      doubt = s.stands;
    }

module _ {H : Type 0} (tells : Bool) (told : tells ≡ true) (world : H → World) (faults : H → Channel → ℕ) (live : ℕ) (p : Program) (head : List ℕ) (log : Log) (bodies : List (List ℕ)) (w : CoreState) (before after : BatchWriter) (old new : H)
    (keeps : KeepsDisk live (shape_in p) head log bodies before (world old).disk) (fair : IsFair (shape_in p) before w) where
  -- a vote
  by_vote : (n : ℕ) (g : GrainId) (kept : Bool) → settler_step w ≡ Votes n g → VotesOn tells world faults live n g kept (versions_to_write w w.manager.batch g) before after old new
      → LeavesLogs live p head log bodies before after (world old) (world new)
  by_vote n g kept is v =
      let facts = fair.vote n g is in
      leaves live p head log bodies before after (world old) (world new) keeps (v.run told).now.output (v.run told).clock
      ((v.images told).still (shape_in p) head log bodies facts.0 keeps) ((v.images told).keeps (shape_in p) head log bodies facts.0 facts.1 keeps)

  -- a seal, by its answer
  seals : (n : ℕ) (e : CoreEvent) → settler_step w ≡ SealStep n → (x : SealsUnits tells world faults live n e (to_commit w w.manager.batch) before after old new)
      → SealsAs live (shape_in p) head log bodies (to_commit w w.manager.batch) x.work.records x.answer before after (world old) (world new)
  seals n e is x = let facts = fair.seal n is in x.leaves.seals told (shape_in p) head log bodies n (to_commit w w.manager.batch) x.records facts.0 facts.1 keeps

  by_sealed : (n : ℕ) (made : List CommitRecord) (a : Sealing) → event.Sealed n ≡ event_of n a → (world new).output ≡ (world old).output → Arrives (world old) (world new)
      → SealsAs live (shape_in p) head log bodies (to_commit w w.manager.batch) made a before after (world old) (world new) → SealsBatch live p head log bodies before after (world old) (world new) (to_commit w w.manager.batch) (commits_by (to_commit w w.manager.batch) made)
  by_sealed n made (sealing.Sealed next) q output clock s =
      subst (SealsBatch live p head log bodies before after (world old) (world new) (to_commit w w.manager.batch)) s.made_of
      (sealed live p head log bodies before after (world old) (world new) keeps (to_commit w w.manager.batch) made output clock next s)
  by_sealed n made sealing.NotSealed q output clock s = absurd (cc q)
  by_sealed n made sealing.InDoubt q output clock s = absurd (cc q)

  by_not_sealed : (n : ℕ) (made : List CommitRecord) (a : Sealing) → event.NotSealed n ≡ event_of n a → (world new).output ≡ (world old).output → Arrives (world old) (world new)
      → SealsAs live (shape_in p) head log bodies (to_commit w w.manager.batch) made a before after (world old) (world new) → LeavesLogs live p head log bodies before after (world old) (world new)
  by_not_sealed n made (sealing.Sealed next) q output clock s = absurd (cc q)
  by_not_sealed n made sealing.NotSealed q output clock s = not_sealed live p head log bodies before after (world old) (world new) keeps (to_commit w w.manager.batch) made output clock s
  by_not_sealed n made sealing.InDoubt q output clock s = absurd (cc q)

  by_doubt : (n : ℕ) (made : List CommitRecord) (a : Sealing) → event.Doubt n ≡ event_of n a → (world new).output ≡ (world old).output → Arrives (world old) (world new)
      → SealsAs live (shape_in p) head log bodies (to_commit w w.manager.batch) made a before after (world old) (world new) → DoubtsBatch live p head log bodies before after (world old) (world new) before.gate_at (to_commit w w.manager.batch) (commits_by (to_commit w w.manager.batch) made)
  by_doubt n made (sealing.Sealed next) q output clock s = absurd (cc q)
  by_doubt n made sealing.NotSealed q output clock s = absurd (cc q)
  by_doubt n made sealing.InDoubt q output clock s =
      subst (DoubtsBatch live p head log bodies before after (world old) (world new) before.gate_at (to_commit w w.manager.batch)) s.made_of
      (doubted live p head log bodies before after (world old) (world new) keeps (to_commit w w.manager.batch) made output clock s)

  -- no call
  by_none : MakesNoCall tells world faults before after old new → LeavesLogs live p head log bodies before after (world old) (world new)
  by_none none =
      let same : LeavesLogs live p head log bodies before before (world old) (world old) =
      leaves live p head log bodies before before (world old) (world old) keeps refl (stays_now (world old)) (started (KeepsLog live head log (world old)) (world old).past) keeps in
      subst (λ (x : BatchWriter). LeavesLogs live p head log bodies before x (world old) (world new)) (sym none.writer)
      (subst (λ (h : H). LeavesLogs live p head log bodies before before (world old) (world h)) (sym none.host) same)

  -- a read
  by_load : (g : GrainId) (loaded : Version) → LoadsGrain tells world faults live (shape_in p) g loaded before after old new → LeavesLogs live p head log bodies before after (world old) (world new)
  by_load g loaded x =
      let asked = x.asked told in
      let here : KeepsLog live head log (world old) (moment_of (world old)) = record { rest = start live p head log bodies before before (world old) (world old) keeps; logs = keeps_log live (shape_in p) head log bodies before (world old).disk keeps } in
      let kept : KeepsDisk live (shape_in p) head log bodies before (world new).disk = subst (KeepsDisk live (shape_in p) head log bodies before) (sym asked.disk) keeps in
      leaves live p head log bodies before after (world old) (world new) keeps asked.output (arrives_asked (world old) (world new) asked) (asked_keeps (KeepsLog live head log (world old)) (world old) (world new) asked here)
      (subst (λ (v : BatchWriter). KeepsDisk live (shape_in p) head log bodies v (world new).disk) (sym x.writer) kept)

  -- a doubt, of this seal or an earlier one
  doubt_or_not : (n : ℕ) (quiet : Bool) → settler_step w ≡ SealStep n → (does : SealsUnits tells world faults live n (event.Doubt n) (to_commit w w.manager.batch) before after old new ⊎ DoubtsAgain tells world faults before after old new)
      → DoubtsBatch live p head log bodies before after (world old) (world new) before.gate_at (to_commit w w.manager.batch) (batch_made tells world faults live (event.Doubt n) quiet (shape_in p) w before after old new does) ⊎ (world new ≡ world old)
  doubt_or_not n quiet is (inl x) = inl (by_doubt n x.work.records x.answer x.event (x.leaves.run told).now.output (x.leaves.run told).clock (seals n (event.Doubt n) is x))
  doubt_or_not n quiet is (inr d) = inr (ap world d.none.host)

  -- an entry
  by_write : (quiet : Bool) → WritesEntry tells world faults quiet (shape_in p) w before after old new → JournalsAs live p head log bodies before after (world old) (world new) event.Emitted quiet w []
  by_write true x = (ap world x.line, x.writer)
  by_write false x = (x.writer, (x.entry, x.line.1 told))

  -- what an event journals, whatever was done for it
  abbrev Journal : Bool → CoreEvent → Type 0
  Journal quiet x = (does : DoesFor tells world faults live x quiet (shape_in p) w before after old new)
      → JournalsAs live p head log bodies before after (world old) (world new) x quiet w (batch_made tells world faults live x quiet (shape_in p) w before after old new does)

  -- the step's event, whichever it is
  pub journals : (quiet : Bool) (s : Step) (e : CoreEvent) → settler_step w ≡ s → MakesEvent s e → (does : DoesFor tells world faults live e quiet (shape_in p) w before after old new)
      → JournalsAs live p head log bodies before after (world old) (world new) e quiet w (batch_made tells world faults live e quiet (shape_in p) w before after old new does)
  journals quiet (Votes n g) e is m does =
      subst (Journal quiet)
      (sym m.1) (λ v. by_vote n g m.0 is v) does
  journals quiet (Decides n) e is m does =
      subst (Journal quiet)
      (sym m) (λ none. by_none none) does
  journals quiet (SealStep n) e is (inl m) does =
      subst (Journal quiet)
      (sym m) (λ x. by_sealed n x.work.records x.answer x.event (x.leaves.run told).now.output (x.leaves.run told).clock (seals n (event.Sealed n) is x)) does
  journals quiet (SealStep n) e is (inr (inl m)) does =
      subst (Journal quiet)
      (sym m) (λ x. by_not_sealed n x.work.records x.answer x.event (x.leaves.run told).now.output (x.leaves.run told).clock (seals n (event.NotSealed n) is x)) does
  journals quiet (SealStep n) e is (inr (inr m)) does =
      subst (Journal quiet)
      (sym m) (λ d. doubt_or_not n quiet is d) does
  journals quiet (Learns u g) e is m does =
      subst (Journal quiet)
      (sym m) (λ none. by_none none) does
  journals quiet Writes e is m does =
      subst (Journal quiet)
      (sym m) (λ x. by_write quiet x) does
  journals quiet (Loads g) e is m does =
      subst (Journal quiet)
      (sym m.2) (λ x. by_load g (record { unit = m.0; state = m.1 }) x) does
  journals quiet Takes e is m does =
      subst (Journal quiet)
      (sym m) (λ none. by_none none) does
  journals quiet Rests e is m does = absurd m
