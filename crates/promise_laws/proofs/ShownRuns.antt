-- What a run shows is enough for its promise.
use Rattle.std.proofs.Common.{◌≡◌, ◌≢◌, ℕ, ◌<◌, ◌∙◌, Some, List, [], ◌∷◌, ◌++◌, inl, inr, refl, sym, ap, subst, arith}
use Rattle.core_model.specs.CoreState.{Member}
use Rattle.host_trait.specs.declared.channels.Channel.{Channel}
use Rattle.host_trait.specs.declared.channels.Channel.TheVariants.{Input, Output, File}
use Rattle.host_trait.specs.Faults.{Rose}
use Rattle.host_trait.specs.World.{Moment, Image, IsImage, moment_of, last_of}
use Rattle.field_codec.specs.declared.formats.Format.TheVariants.{Two}
use Rattle.promise_spec.specs.Programs.{Program}
use Rattle.promise_spec.specs.Records.{Commit}
use Rattle.promise_spec.specs.Entries.{Log, records_of, standing_of, grown}
use Rattle.promise_spec.specs.SerialExecution.{IsSerialFrom}
use Rattle.promise_spec.specs.Logs.{IsLog}
use Rattle.promise_spec.specs.Images.{AreNumbered, IsWholeSilo, IsSound, IsSoundFolder}
use Rattle.promise_spec.specs.Moments.{IsImageOf, IsLongest}
use Rattle.promise_spec.specs.Causes.{NoneRose, RunHasDoubt}
use Rattle.promise_spec.specs.Endings as ending
use Rattle.promise_spec.specs.Endings.{Ending, HasRisen, IsCarried, IsCalm}
use Rattle.promise_spec.specs.Courses.{Observed, Course, order, moments, lines, seen_at_entry, basis, core_run, core_end}
use Rattle.promise_spec.specs.Orders.{IsOrdered}
use Rattle.promise_spec.specs.Replies.{AreReplies}
use Rattle.promise_spec.specs.Crashes.{SurvivesCrashes, StaySound, HoldsReplies}
use Rattle.promise_spec.specs.Explanation.{ComeOfEvents, IsExplained}
use Rattle.promise_spec.specs.Exits.{ImagesMayDiffer, IsExit}
use Rattle.promise_spec.specs.Journals.{KeepsJournal, commits_of}
use Rattle.promise_spec.specs.Promise.{HasEnded, Keeps}
use Rattle.promise_spec.proofs.OneLog.{one_log}
use Rattle.promise_laws.proofs.JournalCrashes as journaled
use Rattle.promise_laws.specs.Obligations.{Opens, Journals, ExplainsEvents, Shows, ShowsAnywhere}
use Rattle.promise_laws.proofs.SerialRecords.{above_entries, explained_serial}
use Rattle.promise_laws.proofs.Bases.{begins_above}
use Rattle.promise_laws.proofs.AbortCauses.{explained_aborts}
use Rattle.promise_laws.proofs.OneFamily.{explained_family}
use Rattle.promise_laws.proofs.TrueReplies.{known_of, in_settled, replies_within, replies_once, replies_ordered, replies_true}
use Rattle.promise_laws.proofs.CalmRuns.{calm_undisturbed}
use Rattle.promise_laws.proofs.SingleRuns.{single_unlocked}
use Rattle.promise_spec.proofs.Doubts.{doubt_left}
use Rattle.promise_laws.proofs.DoubtedBatches.{doubt-rose, doubt-told}
use Rattle.promise_laws.proofs.ShownOrder.{order_serial, order_numbered}

-- ---- causes

-- each abort has its cause by the unit rule
pub explained : (p : Program) (r : Observed) (c : Course) → 0 < c.opening.base.next → ExplainsEvents p r c → IsExplained p r c
explained p r c based e = record {
  records = e.records;
  units = e.units;
  turns = e.turns;
  loads = e.loads;
  caused = explained_aborts (basis p r c) (core_run p c) (above_entries c.opening.base c.opening.entries based) e.loads e.units;
  faults = e.faults;
  doubted = e.doubted;
  doubt_ends = e.ended;
  unvoted = e.unvoted;
}

-- ---- the opening log

-- the last moment is the one before all, or one of them
last-in : (before : Moment) (ms : List Moment) → Member (last_of before ms) (before ∷ ms)
last-in before [] = inl refl
last-in before (m ∷ ms) = inr (last-in m ms)

-- each image at the return of the opening's last sync is one of those at entry
pub at_entry : (r : Observed) (c : Course) → Opens r c → (image : Image) → IsImage (last_of (moment_of r.old) c.early).disk image → IsImage r.old.disk image
at_entry r c o image is = elim (last-in (moment_of r.old) c.early) [
  | inl same ↦ subst (λ (m : Moment). IsImage m.disk image) same is
  | inr there ↦ o.before image (record { moment = last_of (moment_of r.old) c.early; member = there; left = is })
]

-- the opening log's units are numbered
pub opening_numbered : (r : Observed) (c : Course) → Opens r c → AreNumbered c.opening.base.next (records_of c.opening)
opening_numbered r c o =
    let log : IsLog c.live o.some c.opening = o.opened o.some o.possible in
    let s : IsWholeSilo c.live o.some = o.folder.whole o.some (at_entry r c o o.some o.possible) c.live log.is_live in
    subst (λ (l : Log). AreNumbered l.base.next (records_of l)) (one_log s.format Two c.live c.live o.some s.log c.opening s.is log) s.numbered

-- and over a sound folder it is serial from its base
pub opening_serial : (r : Observed) (c : Course) → Opens r c → IsSoundFolder r.old → IsSerialFrom c.opening.base c.opening.entries
opening_serial r c o folder =
    let log : IsLog c.live o.some c.opening = o.opened o.some o.possible in
    let s : IsSound c.live o.some = folder.sound o.some (at_entry r c o o.some o.possible) c.live log.is_live in
    subst (λ (l : Log). IsSerialFrom l.base l.entries) (one_log s.format Two c.live c.live o.some s.log c.opening s.is log) s.serial

-- ---- the end

module _ (p : Program) (r : Observed) (c : Course) (based : 0 < c.opening.base.next) (a : ShowsAnywhere p r c) where
  -- where no count rose, no fault ended the run
  calm : NoneRose r.faults_before r.faults_after → IsCalm r.ending
  calm none = go r.ending a.ends.carried a.ends.risen
    where
      rose : (channel : Channel) → Rose (r.faults_before channel) (r.faults_after channel) → ⊥
      rose channel more = (let n = none channel in absurd (omega (arith, more, n.0, n.1)))

      go : (e : Ending) → IsCarried e → HasRisen e r.faults_before r.faults_after → IsCalm e
      go ending.Done carried risen = tt
      go ending.BadUse carried risen = absurd carried
      go ending.Memory carried risen = tt
      go ending.ReadFault carried risen = rose Input risen
      go ending.WriteFault carried risen = rose Output risen
      go (ending.DiskFault file) carried risen = rose (File file) risen
      go ending.NotASilo carried risen = absurd carried
      go ending.OldFormat carried risen = absurd carried
      go ending.NotOld carried risen = absurd carried
      go ending.AlreadyASilo carried risen = absurd carried
      go (ending.Damaged file place) carried risen = absurd carried
      go (ending.BadProgram fault) carried risen = absurd carried
      go (ending.InputTooLong line) carried risen = tt
      go ending.LastGeneration carried risen = absurd carried
      go (ending.UpgradeRefused at) carried risen = absurd carried

  -- and no line was aborted for one; at width 1 none for a lock
  pub ended_anywhere : HasEnded p r c
  ended_anywhere = record {
    given = a.ends.given;
    risen = a.ends.risen;
    carried = a.ends.carried;
    read = a.ends.read;
    answered = a.ends.answered;
    complete = λ none. record { calm = calm none; undisturbed = λ e m. calm_undisturbed p r c based (explained p r c based a.explains) none e (in_settled p c a.settled.entries e m) };
    alone = λ unthreaded one childless e m. single_unlocked p r c based (explained p r c based a.explains) unthreaded one childless e (in_settled p c a.settled.entries e m);
    syncs = a.ends.syncs;
    most = a.ends.most;
  }

-- what a run shows of what it answers
pub answers_of : (p : Program) (r : Observed) (c : Course) → Shows p r c → ShowsAnywhere p r c
answers_of p r c s = record { in_force = s.in_force; explains = s.explains; settled = s.settled; output = s.output; whole = s.whole; ends = s.ends }

-- ---- clauses

-- what each image keeps of the journal
kept_in : (p : Program) (r : Observed) (c : Course) → (j : Journals p r c) → (image : Image) → (of : IsImageOf (moments r c) image) → KeepsJournal c.live p c.opening r.old.output j.journal of.moment image
kept_in p r c j image of = (j.kept of.moment of.member image of.left).0

-- the order is the opening log with the journal's records
order_is : (p : Program) (r : Observed) (c : Course) → (j : Journals p r c) → order c ≡ grown c.opening (commits_of j.journal)
order_is p r c j = ap (λ (l : List Commit). grown c.opening l) j.commits

module _ (p : Program) (r : Observed) (c : Course) (s : Shows p r c) where
  o : Opens r c
  o = s.opens

  based : 0 < c.opening.base.next
  based = begins_above c.live (seen_at_entry r) c.opening s.opens.read

  j : Journals p r c
  j = s.journals

  is : IsExplained p r c
  is = explained p r c based s.explains

  -- the records are the core's, behind the opening log
  ordered : IsOrdered p r c
  ordered = record {
    in_force = s.in_force;
    read = o.read;
    opened = λ image possible. record { entry = at_entry r c o image possible; log = o.opened image possible };
    longest =
        subst (IsLongest c.live (moments r c)) (sym (order_is p r c j))
        (journaled.longest c.live p c.opening r.old.output j.journal (moments r c) j.last j.left (subst (IsLog c.live j.last) (order_is p r c j) j.longest)
        (λ m there image left. (j.kept m there image left).0));
    serial = explained_serial p r c based is;
  }

  -- the entries are a first part of those that the core settled
  replies : AreReplies p r c
  replies = record {
    output = s.output;
    whole = s.whole;
    within = replies_within p r c based is s.settled.entries;
    once = replies_once p r c based is s.settled.entries;
    true_each = replies_true p r c based is (opening_numbered r c o) s.settled.entries;
    in_order = replies_ordered p r c based is s.settled.entries;
  }

  -- the order's units are numbered
  numbered : AreNumbered c.opening.base.next (records_of (grown c.opening (commits_of j.journal)))
  numbered = subst (λ (l : Log). AreNumbered c.opening.base.next (records_of l)) (order_is p r c j) (order_numbered p r c based is (opening_numbered r c o))

  -- each image of each moment keeps the journal
  crashes : SurvivesCrashes r c
  crashes = record {
    past = o.past;
    quiet = o.quiet;
    before = o.before;
    chain = λ one other of_one of_other. journaled.chained c.live p c.opening r.old.output j.journal of_one.moment of_other.moment one other (kept_in p r c j one of_one) (kept_in p r c j other of_other);
    whole = λ image of. journaled.whole c.live p c.opening r.old.output j.journal of.moment image (kept_in p r c j image of) numbered;
    keeps = λ image of.
        (let k = kept_in p r c j image of in
        record {
          more = commits_of (k.said ++ k.unsaid);
          is = k.log;
          front = (commits_of k.later, j.commits ∙ ap commits_of k.split ∙ journaled.commits_of-append (k.said ++ k.unsaid) k.later);
        });
    alone = j.alone;
  }

  -- and is sound where the folder was
  sound : IsSoundFolder r.old → StaySound r c
  sound folder image of =
      let serial : IsSerialFrom c.opening.base (grown c.opening (commits_of j.journal)).entries =
      subst (λ (l : Log). IsSerialFrom c.opening.base l.entries) (order_is p r c j) (order_serial p r c s.in_force based is (opening_serial r c o folder)) in
      journaled.sound c.live p c.opening r.old.output j.journal of.moment image (kept_in p r c j image of) serial numbered

  -- the records come from the lines, and each image's log ends where a batch does
  records : ComeOfEvents p r c
  records = record { family = explained_family p r c based is (opening_numbered r c o); whole = j.batches }

  holds : HoldsReplies p r c
  holds m image there left =
      let k = j.kept m there image left in
      journaled.holds p r c j.journal m image j.backs k.0 k.1

  -- where images have different logs, one lacks the batch in doubt
  doubtful_batch : (one other : Image) (a b : Log) → IsImage r.new.disk one → IsImage r.new.disk other → IsLog c.live one a → IsLog c.live other b → a ≢ b
      → (begins : ℕ) × ((core_end p c).manager.doubt ≡ Some begins)
  doubtful_batch one other a b left left_too is_a is_b differ =
      let x = s.leaves.logs one left in
      let y = s.leaves.logs other left_too in
      elim x.which [
        | inl whole ↦ elim y.which [
          | inl whole_too ↦ absurd (differ (one_log Two Two c.live c.live one a x.log is_a x.is ∙ whole ∙ sym whole_too ∙ one_log Two Two c.live c.live other y.log b y.is is_b))
          | inr lacks ↦ (lacks.begins, lacks.doubt)
        ]
        | inr lacks ↦ (lacks.begins, lacks.doubt)
      ]

  -- so the manager file failed, and who is in the batch was told of the doubt
  doubted : (begins : ℕ) → (core_end p c).manager.doubt ≡ Some begins → ImagesMayDiffer c.live r c (core_end p c)
  doubted begins d =
      let left : RunHasDoubt (core_run p c) = doubt_left (core_run p c) begins d in
      record {
        rose = doubt-rose (core_run p c) _ _ left is.faults.seals;
        ending = is.doubt_ends left;
        told = λ e m doubtful. doubt-told p.types (lines r) (standing_of c.opening).states (standing_of c.opening).next (core_end p c) (known_of p r c based is) e (in_settled p c s.settled.entries e m) doubtful;
      }

  -- so different logs show a doubt
  exit : IsExit p r c
  exit = record {
    logs = s.leaves.logs;
    doubt = λ one other a b left left_too is_a is_b differ. (let d = doubtful_batch one other a b left left_too is_a is_b differ in doubted d.0 d.1);
    nowhere = s.leaves.nowhere;
    block = s.leaves.block;
    behind = s.leaves.behind;
  }

  -- all clauses
  pub shown : Keeps p r c
  shown = record {
    headline = record { ordered = ordered; replies = replies; crashes = crashes; sound = sound; holds = holds };
    traced = records;
    settled = s.settled;
    explained = is;
    exit = exit;
    ended = ended_anywhere p r c based (answers_of p r c s);
  }
