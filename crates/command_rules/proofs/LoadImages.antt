-- What each image of a load keeps: that of its turns, since the files stay while the summary is printed.
use Rattle.std.proofs.Common.{◌≡◌, ◌≢◌, ◌⊎◌, inl, inr, ℕ, ◌<◌, List, [], ◌∷◌, ◌++◌, Some, refl, sym, ap, ◌∙◌, subst, append_assoc}
use Rattle.core_model.specs.CoreState.{Member}
use Rattle.host_trait.specs.declared.channels.Channel.{Channel}
use Rattle.host_trait.specs.World.{World, Disk, Moment, Image, IsImage, moment_of, last_of}
use Rattle.promise_spec.specs.Programs.{Program}
use Rattle.promise_spec.specs.Records.{Commit}
use Rattle.promise_spec.specs.Entries.{Log, grown, records_of, standing_of}
use Rattle.promise_spec.specs.SerialExecution.{IsSerialFrom}
use Rattle.field_codec.specs.declared.formats.Format.TheVariants.{Two}
use Rattle.promise_spec.specs.Logs.{IsLog}
use Rattle.promise_spec.specs.Images.{AreNumbered, IsSoundFolder}
use Rattle.promise_spec.specs.Moments.{IsImageOf, IsLongest}
use Rattle.promise_spec.specs.Causes.{RunHasDoubt}
use Rattle.promise_spec.specs.Endings.{Ending}
use Rattle.promise_spec.specs.Courses.{Observed, Course, order, moments, lines, seen_at_entry, core_run, core_end}
use Rattle.promise_spec.specs.Orders.{IsOrdered}
use Rattle.promise_spec.specs.Crashes.{SurvivesCrashes, StaySound}
use Rattle.promise_spec.specs.Explanation.{ComeOfEvents, IsExplained}
use Rattle.promise_spec.specs.Exits.{ImagesMayDiffer, IsExit}
use Rattle.promise_spec.specs.Journals.{KeepsJournal, commits_of}
use Rattle.promise_spec.proofs.Lists.{either_in, in_append}
use Rattle.promise_spec.proofs.OneLog.{one_log}
use Rattle.promise_spec.proofs.Standings.{grown_records}
use Rattle.promise_laws.proofs.JournalCrashes as journaled
use Rattle.promise_spec.proofs.Doubts.{doubt_left}
use Rattle.promise_laws.specs.Obligations.{Opens, Journals}
use Rattle.promise_laws.proofs.Bases.{begins_above}
use Rattle.promise_laws.proofs.SerialRecords.{explained_serial}
use Rattle.promise_laws.proofs.OneFamily.{explained_family}
use Rattle.promise_laws.proofs.TrueReplies.{known_of}
use Rattle.promise_laws.proofs.ShownOrder.{order_serial, order_numbered}
use Rattle.promise_laws.proofs.ShownRuns.{explained, at_entry, opening_numbered, opening_serial}
use Rattle.promise_laws.proofs.DoubtedBatches.{doubt-rose, doubt-told}
use Rattle.command_rules.specs.LoadObligations.{at_turns_end, turned_course, ShowsLoad}

-- one of these moments has the disk of this one
pub record HasDiskIn (moments : List Moment) (m : Moment) : Type 0 where
  pub moment : Moment
  pub member : Member moment moments
  pub disk : m.disk ≡ moment.disk

-- an image of moments whose disks stand among others is an image of those
image_among : (ms ns : List Moment) (image : Image) → ((m : Moment) → Member m ms → HasDiskIn ns m) → IsImageOf ms image → IsImageOf ns image
image_among ms ns image among is =
    let h = among is.moment is.member in
    record { moment = h.moment; member = h.member; left = subst (λ (d : Disk). IsImage d image) h.disk is.left }

module _ (p : Program) (n seed : ℕ) (r : Observed) (c : Course) (mid : World) (counts : Channel → ℕ) (turns_end : Ending) (turns told : List Moment) (s : ShowsLoad p n seed r c mid counts turns_end turns told) where
  abbrev then_seen : Observed
  then_seen = at_turns_end r mid counts turns_end

  abbrev then_course : Course
  then_course = turned_course c turns

  o : Opens then_seen then_course
  o = s.lasts.opens

  j : Journals p then_seen then_course
  j = s.lasts.journals

  pub based : 0 < c.opening.base.next
  based = begins_above c.live (seen_at_entry r) c.opening o.read

  pub is : IsExplained p r c
  is = explained p r c based s.explains

  -- ---- moments

  now_then : Member (moment_of mid) (moments then_seen then_course)
  now_then = inr (in_append (moment_of mid) turns (moment_of mid ∷ []) (inr (inl refl)))

  -- a moment that counts for the load: it begins at the return of the opening's last sync, is one of the turns, or is behind them
  pub part_of : (m : Moment) → Member m (moments r c) → (m ≡ last_of (moment_of r.old) c.early) ⊎ (Member m turns ⊎ (Member m told ⊎ (m ≡ moment_of r.new)))
  part_of m (inl here) = inl here
  part_of m (inr there) =
      elim (either_in m (turns ++ told) (moment_of r.new ∷ []) (subst (λ (l : List Moment). Member m (l ++ moment_of r.new ∷ [])) s.late there)) [
        | inl x ↦ inr (elim (either_in m turns told x) [ inl y ↦ inl y | inr y ↦ inr (inl y) ])
        | inr x ↦ inr (inr (inr (elim x [ inl here ↦ here | inr none ↦ absurd none ])))
      ]

  -- it has the disk of one of the turns
  to_turns : (m : Moment) → Member m (moments r c) → HasDiskIn (moments then_seen then_course) m
  to_turns m there = elim (part_of m there) [
    | inl first ↦ record { moment = last_of (moment_of r.old) c.early; member = inl refl; disk = ap (λ (x : Moment). x.disk) first }
    | inr (inl y) ↦ record { moment = m; member = inr (in_append m turns (moment_of mid ∷ []) (inl y)); disk = refl }
    | inr (inr (inl y)) ↦ record { moment = moment_of mid; member = now_then; disk = s.left m y }
    | inr (inr (inr y)) ↦ record { moment = moment_of mid; member = now_then; disk = ap (λ (x : Moment). x.disk) y ∙ s.disk }
  ]

  -- and the other way round
  of_turns : (m : Moment) → Member m (moments then_seen then_course) → HasDiskIn (moments r c) m
  of_turns m (inl here) = record { moment = last_of (moment_of r.old) c.early; member = inl refl; disk = ap (λ (x : Moment). x.disk) here }
  of_turns m (inr there) = elim (either_in m turns (moment_of mid ∷ []) there) [
    | inl x ↦ record {
      moment = m;
      member = inr (in_append m c.late (moment_of r.new ∷ []) (inl (subst (λ (l : List Moment). Member m l) (sym s.late) (in_append m turns told (inl x)))));
      disk = refl;
    }
    | inr x ↦ record {
      moment = moment_of r.new;
      member = inr (in_append (moment_of r.new) c.late (moment_of r.new ∷ []) (inr (inl refl)));
      disk = elim x [ inl here ↦ ap (λ (y : Moment). y.disk) here ∙ sym s.disk | inr none ↦ absurd none ];
    }
  ]

  to_image : (image : Image) → IsImageOf (moments r c) image → IsImageOf (moments then_seen then_course) image
  to_image image of = image_among (moments r c) (moments then_seen then_course) image to_turns of

  of_image : (image : Image) → IsImageOf (moments then_seen then_course) image → IsImageOf (moments r c) image
  of_image image of = image_among (moments then_seen then_course) (moments r c) image of_turns of

  at_exit : (image : Image) → IsImage r.new.disk image → IsImage mid.disk image
  at_exit image left = subst (λ (d : Disk). IsImage d image) s.disk left

  -- ---- the opening log

  numbered : AreNumbered c.opening.base.next (records_of c.opening)
  numbered = opening_numbered then_seen then_course o

  serial : IsSoundFolder r.old → IsSerialFrom c.opening.base c.opening.entries
  serial folder = opening_serial then_seen then_course o folder

  -- ---- clauses

  order_is : order c ≡ grown c.opening (commits_of j.journal)
  order_is = ap (λ (l : List Commit). grown c.opening l) j.commits

  -- the order's units are numbered
  all_numbered : AreNumbered c.opening.base.next (records_of (grown c.opening (commits_of j.journal)))
  all_numbered = subst (λ (l : Log). AreNumbered c.opening.base.next (records_of l)) order_is (order_numbered p r c based is numbered)

  kept_in : (image : Image) → (of : IsImageOf (moments then_seen then_course) image) → KeepsJournal c.live p c.opening r.old.output j.journal of.moment image
  kept_in image of = (j.kept of.moment of.member image of.left).0

  longest : IsLongest c.live (moments then_seen then_course) (order c)
  longest =
      subst (IsLongest c.live (moments then_seen then_course)) (sym order_is)
      (journaled.longest c.live p c.opening r.old.output j.journal (moments then_seen then_course) j.last j.left (subst (IsLog c.live j.last) order_is j.longest)
      (λ m there image left. (j.kept m there image left).0))

  pub ordered : IsOrdered p r c
  ordered = record {
    in_force = s.in_force;
    read = o.read;
    opened = λ image possible. record { entry = at_entry then_seen then_course o image possible; log = o.opened image possible };
    longest = record {
      image = longest.image;
      left = of_image longest.image longest.left;
      log = longest.log;
      longest = λ other log of has. longest.longest other log (to_image other of) has;
    };
    serial = explained_serial p r c based is;
  }

  past : r.new.past ≡ r.old.past ++ (c.early ++ c.late)
  past =
      s.past ∙ ap (λ (l : List Moment). l ++ told) o.past ∙ append_assoc r.old.past (c.early ++ turns) told
      ∙ ap (λ (l : List Moment). r.old.past ++ l) (append_assoc c.early turns told)
      ∙ ap (λ (l : List Moment). r.old.past ++ (c.early ++ l)) (sym s.late)

  pub crashes : SurvivesCrashes r c
  crashes = record {
    past = past;
    quiet = o.quiet;
    before = o.before;
    chain = λ one other of_one of_other.
        (let a = to_image one of_one in
        let b = to_image other of_other in
        journaled.chained c.live p c.opening r.old.output j.journal a.moment b.moment one other (kept_in one a) (kept_in other b));
    whole = λ image of.
        (let a = to_image image of in
        journaled.whole c.live p c.opening r.old.output j.journal a.moment image (kept_in image a) all_numbered);
    keeps = λ image of.
        (let k = kept_in image (to_image image of) in
        record {
          more = commits_of (k.said ++ k.unsaid);
          is = k.log;
          front = (commits_of k.later, j.commits ∙ ap commits_of k.split ∙ journaled.commits_of-append (k.said ++ k.unsaid) k.later);
        });
    alone = λ m there.
        (let h = to_turns m there in
        let a = j.alone h.moment h.member in
        record {
          aside = λ file aside. ap (λ (d : Disk). d file) h.disk ∙ a.aside file aside;
          header = λ image left. a.header image (subst (λ (d : Disk). IsImage d image) h.disk left);
        });
  }

  pub sound : IsSoundFolder r.old → StaySound r c
  sound folder image of =
      let a = to_image image of in
      let all : IsSerialFrom c.opening.base (grown c.opening (commits_of j.journal)).entries =
      subst (λ (l : Log). IsSerialFrom c.opening.base l.entries) order_is (order_serial p r c s.in_force based is (serial folder)) in
      journaled.sound c.live p c.opening r.old.output j.journal a.moment image (kept_in image a) all all_numbered

  pub records : ComeOfEvents p r c
  records = record {
    family = explained_family p r c based is numbered;
    whole = λ image log of is_log. j.batches image log (to_image image of) is_log;
  }

  -- ---- the exit

  logs : (image : Image) → IsImage r.new.disk image → (log : Log) × IsLog c.live image log × ((log ≡ order c) ⊎ ((begins : ℕ) × ((core_end p c).manager.doubt ≡ Some begins)))
  logs image left =
      let x = s.lasts.leaves.logs image (at_exit image left) in
      (x.log, x.is, elim x.which [ inl whole ↦ inl whole | inr lacks ↦ inr (lacks.begins, lacks.doubt) ])

  doubted : (begins : ℕ) → (core_end p c).manager.doubt ≡ Some begins → ImagesMayDiffer c.live r c (core_end p c)
  doubted begins d =
      let left : RunHasDoubt (core_run p c) = doubt_left (core_run p c) begins d in
      record {
        rose = doubt-rose (core_run p c) _ _ left is.faults.seals;
        ending = is.doubt_ends left;
        told = λ e m doubtful. doubt-told p.types (lines r) (standing_of c.opening).states (standing_of c.opening).next (core_end p c) (known_of p r c based is) e (subst (λ l. Member e l) s.settled m) doubtful;
      }

  doubtful_batch : (one other : Image) (a b : Log) → IsImage r.new.disk one → IsImage r.new.disk other → IsLog c.live one a → IsLog c.live other b → a ≢ b
      → (begins : ℕ) × ((core_end p c).manager.doubt ≡ Some begins)
  doubtful_batch one other a b left left_too is_a is_b differ =
      let x = logs one left in
      let y = logs other left_too in
      elim x.2 [
        | inl whole ↦ elim y.2 [
          | inl whole_too ↦ absurd (differ (one_log Two Two c.live c.live one a x.0 is_a x.1 ∙ whole ∙ sym whole_too ∙ one_log Two Two c.live c.live other y.0 b y.1 is_b))
          | inr lacks ↦ lacks
        ]
        | inr lacks ↦ lacks
      ]

  pub exit : IsExit p r c
  exit = record {
    logs = λ image left.
        (let x = s.lasts.leaves.logs image (at_exit image left) in
        record {
          log = x.log;
          is = x.is;
          which = elim x.which [
            | inl whole ↦ inl whole
            | inr lacks ↦ inr (record { begins = lacks.begins; doubt = lacks.doubt; last = lacks.last; split = lacks.split; units = lacks.units })
          ];
        });
    doubt = λ one other a b left left_too is_a is_b differ. (let d = doubtful_batch one other a b left left_too is_a is_b differ in doubted d.0 d.1);
    nowhere = λ e there what none l member. none s.whole.image (order c) l (subst (λ (d : Disk). IsImage d s.whole.image) (sym s.disk) s.whole.left) s.whole.has (subst (Member l) (sym (grown_records c.opening c.added)) (in_append l (records_of c.opening) c.added (inr member)));
    block = λ d.
        (let b = s.lasts.leaves.block d in
        record {
          gate = b.gate;
          batch = b.batch;
          before = b.before;
          bodies = b.bodies;
          reached = b.reached;
          session = b.session;
          follows = b.follows;
          records = b.records;
          log = b.log;
          front = λ image left. b.front image (at_exit image left);
          block = λ image left. b.block image (at_exit image left);
          differ = λ one other left left_too. b.differ one other (at_exit one left) (at_exit other left_too);
        });
    behind = λ none image left. s.lasts.leaves.behind none image (at_exit image left);
  }

  -- where no batch is in doubt each image has the whole order
  pub whole_order : (RunHasDoubt (core_run p c) → ⊥) → (image : Image) → IsImage mid.disk image → IsLog c.live image (order c)
  whole_order sure image left =
      let x = logs image (subst (λ (d : Disk). IsImage d image) (sym s.disk) left) in
      elim x.2 [
        | inl whole ↦ subst (λ (l : Log). IsLog c.live image l) whole x.1
        | inr lacks ↦ absurd (sure (doubt_left (core_run p c) lacks.0 lacks.1))
      ]
