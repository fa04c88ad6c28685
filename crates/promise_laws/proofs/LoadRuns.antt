-- A load that follows a run keeps what is promised of a load.
use Rattle.std.proofs.Common.{◌≡◌, ◌≢◌, ◌⊎◌, inl, inr, ℕ, ◌+◌, List, [], ◌∷◌, ◌++◌, map, refl, sym, ap, subst, ◌∙◌, arith}
use Rattle.std.proofs.lemmas.List.{append-nil}
use Rattle.core_model.specs.CoreState.{Member, CoreState}
use Rattle.host_trait.specs.World.{Disk, Moment, Image, IsImage, moment_of, last_of}
use Rattle.promise_spec.specs.Programs.{Program}
use Rattle.promise_spec.specs.Entries.{Log}
use Rattle.promise_spec.specs.Logs.{IsLog}
use Rattle.promise_spec.specs.Causes.{syncs_of}
use Rattle.promise_spec.specs.Moments.{IsImageOf}
use Rattle.promise_spec.specs.Endings.{Ending, Done, WriteFault, CountsSyncs, IsLoadCarried, IsAllWritten, EndingMayDoubt}
use Rattle.promise_spec.specs.Courses.{Observed, Course, order, moments, lines, core_run, core_end, seen_at_entry}
use Rattle.promise_spec.specs.Images.{IsSoundFolder}
use Rattle.promise_spec.specs.Orders.{IsOrdered}
use Rattle.host_trait.specs.declared.channels.FileId.TheVariants.{Grain}
use Rattle.promise_spec.specs.Crashes.{SurvivesCrashes, StaySound}
use Rattle.promise_spec.specs.Exits.{IsExit, LogLacksDoubt}
use Rattle.promise_spec.specs.Explanation.{ComeOfEvents, IsExplained}
use Rattle.promise_spec.specs.Promise.{AllowedBy, Keeps}
use Rattle.promise_spec.specs.Commands.{Prints}
use Rattle.promise_spec.specs.Loads.{AskFor, HasLoaded, KeepsLoad, load_calls, summary_text}
use Rattle.promise_laws.specs.QuietRuns.{IsQuietRun, quieted, quiet_course}
use Rattle.promise_spec.proofs.Lists.{either_in, in_append}
use Rattle.promise_spec.proofs.Doubts.{doubt_left}

-- ---- moments by their disks

-- one of these moments has the disk of this one
record HasDiskIn (moments : List Moment) (m : Moment) : Type 0 where
  moment : Moment
  member : Member moment moments
  disk : m.disk ≡ moment.disk

-- a quieted moment has the disk of one that isn't
loud : (output : List ℕ) (late : List Moment) (m : Moment) → Member m (map (quieted output) late) → HasDiskIn late m
loud output [] m none = absurd none
loud output (x ∷ late) m (inl here) = record { moment = x; member = inl refl; disk = ap (λ (n : Moment). n.disk) here }
loud output (x ∷ late) m (inr there) = let h = loud output late m there in record { moment = h.moment; member = inr h.member; disk = h.disk }

-- and the other way round
hushed : (output : List ℕ) (late : List Moment) (m : Moment) → Member m late → HasDiskIn (map (quieted output) late) m
hushed output [] m none = absurd none
hushed output (x ∷ late) m (inl here) = record { moment = quieted output x; member = inl refl; disk = ap (λ (n : Moment). n.disk) here }
hushed output (x ∷ late) m (inr there) = let h = hushed output late m there in record { moment = h.moment; member = inr h.member; disk = h.disk }

-- an image of moments whose disks stand among others is an image of those
image_among : (ms ns : List Moment) (image : Image) → ((m : Moment) → Member m ms → HasDiskIn ns m) → IsImageOf ms image → IsImageOf ns image
image_among ms ns image among is =
    let h = among is.moment is.member in
    record { moment = h.moment; member = h.member; left = subst (λ d. IsImage d image) h.disk is.left }

-- ---- moments by what was written

-- a quieted moment has written nothing more
said_nothing : (output : List ℕ) (late : List Moment) (m : Moment) → Member m (map (quieted output) late) → m.output ≡ output
said_nothing output [] m none = absurd none
said_nothing output (x ∷ late) m (inl here) = ap (λ (n : Moment). n.output) here
said_nothing output (x ∷ late) m (inr there) = said_nothing output late m there

-- nor has the last of some that haven't
last_quiet : (output : List ℕ) (before : Moment) (early : List Moment) → before.output ≡ output → ((m : Moment) → Member m early → m.output ≡ output) → (last_of before early).output ≡ output
last_quiet output before [] same quiet = same
last_quiet output before (x ∷ early) same quiet = last_quiet output x early (quiet x (inl refl)) (λ m there. quiet m (inr there))

-- ---- the load with what the run shows

-- the load, but that what it shows like the run is the run's
abbrev alike : Observed → Observed → Observed
alike r s = record {
  manner = r.manner;
  asked = r.asked;
  windowed = r.windowed;
  old = record s.old { disk = r.old.disk; output = r.old.output };
  new = record s.new { disk = r.new.disk };
  faults_before = r.faults_before;
  faults_after = r.faults_after;
  ending = r.ending;
}

-- it is the load
same_load : (r : Observed) (c : Course) (text : List ℕ) (told : List Moment) (s : Observed) → IsQuietRun r c text told s → s ≡ alike r s
same_load r c text told s q = λ i. record {
  manner = q.manner i;
  asked = q.asked i;
  windowed = q.windowed i;
  old = record s.old { disk = q.disk_before i; output = q.output_before i };
  new = record s.new { disk = q.disk_after i };
  faults_before = q.faults_before i;
  faults_after = q.faults_after i;
  ending = q.ending i;
}

module _ (p : Program) (r s : Observed) (c : Course) (told : List Moment) (told_disk : (m : Moment) → Member m told → m.disk ≡ r.new.disk) where
  -- a moment that counts for the load has the disk of one that counts for the run
  to_run : (m : Moment) → Member m (moments (alike r s) (quiet_course r c told)) → HasDiskIn (moments r c) m
  to_run m (inl here) = record { moment = last_of (moment_of r.old) c.early; member = inl refl; disk = ap (λ (n : Moment). n.disk) here }
  to_run m (inr there) =
      let late : List Moment = map (quieted r.old.output) c.late in
      let left : m.disk ≡ r.new.disk → HasDiskIn (moments r c) m =
      λ same. record { moment = moment_of r.new; member = inr (in_append (moment_of r.new) c.late (moment_of r.new ∷ []) (inr (inl refl))); disk = same } in
      elim (either_in m (late ++ told) (moment_of (alike r s).new ∷ []) there) [
        | inl x ↦ elim (either_in m late told x) [
          | inl y ↦
              let h = loud r.old.output c.late m y in
              record { moment = h.moment; member = inr (in_append h.moment c.late (moment_of r.new ∷ []) (inl h.member)); disk = h.disk }
          | inr y ↦ left (told_disk m y)
        ]
        | inr x ↦ left (elim x [ inl here ↦ ap (λ (n : Moment). n.disk) here | inr none ↦ absurd none ])
      ]

  -- and the other way round
  to_load : (m : Moment) → Member m (moments r c) → HasDiskIn (moments (alike r s) (quiet_course r c told)) m
  to_load m (inl here) = record { moment = last_of (moment_of r.old) c.early; member = inl refl; disk = ap (λ (n : Moment). n.disk) here }
  to_load m (inr there) =
      let now : Moment = moment_of (alike r s).new in
      let late : List Moment = map (quieted r.old.output) c.late in
      elim (either_in m c.late (moment_of r.new ∷ []) there) [
        | inl x ↦
            let h = hushed r.old.output c.late m x in
            record { moment = h.moment; member = inr (in_append h.moment (late ++ told) (now ∷ []) (inl (in_append h.moment late told (inl h.member)))); disk = h.disk }
        | inr x ↦ record {
          moment = now;
          member = inr (in_append now (late ++ told) (now ∷ []) (inr (inl refl)));
          disk = elim x [ inl here ↦ ap (λ (n : Moment). n.disk) here | inr none ↦ absurd none ];
        }
      ]

  -- an image that a crash of the load may leave is one that a crash of the run may
  of_run : (image : Image) → IsImageOf (moments (alike r s) (quiet_course r c told)) image → IsImageOf (moments r c) image
  of_run image is = image_among (moments (alike r s) (quiet_course r c told)) (moments r c) image to_run is

  of_load : (image : Image) → IsImageOf (moments r c) image → IsImageOf (moments (alike r s) (quiet_course r c told)) image
  of_load image is = image_among (moments r c) (moments (alike r s) (quiet_course r c told)) image to_load is

  -- ---- the clauses

  ordered : IsOrdered p r c → IsOrdered p (alike r s) (quiet_course r c told)
  ordered k = record {
    in_force = k.in_force;
    read = k.read;
    opened = λ image is. let o = k.opened image is in record { entry = o.entry; log = o.log };
    longest = record {
      image = k.longest.image;
      left = of_load k.longest.image k.longest.left;
      log = k.longest.log;
      longest = λ other log is. k.longest.longest other log (of_run other is);
    };
    serial = k.serial;
  }

  crashes : (alike r s).new.past ≡ s.old.past ++ (c.early ++ (map (quieted r.old.output) c.late ++ told)) → SurvivesCrashes r c → SurvivesCrashes (alike r s) (quiet_course r c told)
  crashes past k = record {
    past = past;
    quiet = k.quiet;
    before = k.before;
    chain = λ one other is_one is_other. k.chain one other (of_run one is_one) (of_run other is_other);
    whole = λ image is. k.whole image (of_run image is);
    keeps = λ image is. let o = k.keeps image (of_run image is) in record { more = o.more; is = o.is; front = o.front };
    alone = λ m there.
        let h = to_run m there in
        let o = k.alone h.moment h.member in
        record {
          aside = λ file is. ap (λ d. d file) h.disk ∙ o.aside file is;
          header = λ image is. o.header image (subst (λ d. IsImage d image) h.disk is);
        };
  }

  sound : (IsSoundFolder r.old → StaySound r c) → IsSoundFolder (alike r s).old → StaySound (alike r s) (quiet_course r c told)
  sound k folder image is = k (record { chain = folder.chain; sound = folder.sound; shows = folder.shows }) image (of_run image is)

  records : ComeOfEvents p r c → ComeOfEvents p (alike r s) (quiet_course r c told)
  records k = record {
    family = k.family;
    whole = λ image log is is_log. let o = k.whole image log (of_run image is) is_log in record { batches = o.batches; more = o.more; split = o.split; records = o.records };
  }

  lacks : (w : CoreState) (log : _) → LogLacksDoubt c w log → LogLacksDoubt (quiet_course r c told) w log
  lacks w log k = record { begins = k.begins; doubt = k.doubt; last = k.last; split = k.split; units = k.units }

  exit : IsExit p r c → IsExit p (alike r s) (quiet_course r c told)
  exit k = record {
    logs = λ image is.
        let o = k.logs image is in
        record { log = o.log; is = o.is; which = elim o.which [ inl whole ↦ inl whole | inr lack ↦ inr (lacks (core_end p c) o.log lack) ] };
    doubt = λ one other a b is_one is_other log_one log_other differ.
        let o = k.doubt one other a b is_one is_other log_one log_other differ in
        record { rose = o.rose; ending = o.ending; told = o.told };
    nowhere = k.nowhere;
    block = λ doubted.
        let o = k.block doubted in
        record { gate = o.gate; reached = o.reached; session = o.session; follows = o.follows; batch = o.batch; before = o.before; bodies = o.bodies; records = o.records; log = o.log; front = o.front; block = o.block; differ = o.differ };
    behind = k.behind;
  }

  explained : IsExplained p r c → IsExplained p (alike r s) (quiet_course r c told)
  explained k = record {
    records = k.records;
    units = k.units;
    turns = k.turns;
    loads = k.loads;
    caused = k.caused;
    faults = k.faults;
    doubted = k.doubted;
    doubt_ends = k.doubt_ends;
    unvoted = λ g m none there. (let h = to_run m there in ap (λ (d : Disk). d (Grain c.live g)) h.disk ∙ k.unvoted g h.moment none h.member);
  }

  -- where the run is done, each image that it left has the whole order
  whole_order : Keeps p r c → r.ending ≡ Done → (image : Image) → IsImage r.new.disk image → IsLog c.live image (order c)
  whole_order k done image left =
      let o = k.exit.logs image left in
      elim o.which [
        | inl whole ↦ subst (λ (l : Log). IsLog c.live image l) whole o.is
        | inr lack ↦ absurd (subst EndingMayDoubt done (k.explained.doubt_ends (doubt_left (core_run p c) lack.begins lack.doubt)))
      ]

  -- a moment of the load has written nothing, or has the disk that the run left
  unsaid_or_left : SurvivesCrashes r c → (m : Moment) → Member m (moments (alike r s) (quiet_course r c told)) → (m.output ≡ r.old.output) ⊎ (m.disk ≡ r.new.disk)
  unsaid_or_left k m (inl here) = inl (ap (λ (n : Moment). n.output) here ∙ last_quiet r.old.output (moment_of r.old) c.early refl k.quiet)
  unsaid_or_left k m (inr there) =
      let late : List Moment = map (quieted r.old.output) c.late in
      elim (either_in m (late ++ told) (moment_of (alike r s).new ∷ []) there) [
        | inl x ↦ elim (either_in m late told x) [
          | inl y ↦ inl (said_nothing r.old.output c.late m y)
          | inr y ↦ inr (told_disk m y)
        ]
        | inr x ↦ inr (elim x [ inl here ↦ ap (λ (n : Moment). n.disk) here | inr none ↦ absurd none ])
      ]

  lasting : Keeps p r c → r.ending ≡ Done → (m : Moment) (image : Image) → Member m (moments (alike r s) (quiet_course r c told)) → IsImage m.disk image → m.output ≢ r.old.output → IsLog c.live image (order c)
  lasting k done m image there left said = elim (unsaid_or_left k.headline.crashes m there) [
    | inl quiet ↦ absurd (said quiet)
    | inr same ↦ whole_order k done image (subst (λ d. IsImage d image) same left)
  ]

  ended : Keeps p r c → r.ending ≡ Done → s.new.input ≡ s.old.input → s.old.syncs ≡ r.old.syncs → s.new.syncs ≡ r.new.syncs → HasLoaded p (alike r s) (quiet_course r c told)
  ended k done unread before after = record {
    unread = unread;
    carried = subst IsLoadCarried (sym done) tt;
    allowed = (subst (λ (e : Ending). AllowedBy e k.ended.read.pulled r c.allowed) done k.ended.read.allowed).all;
    risen = k.ended.risen;
    done = λ is. k.ended.answered (subst IsAllWritten (sym done) tt);
    undoubted = λ fault doubt. absurd (let e : Done ≡ WriteFault = sym done ∙ fault in cc e);
    complete = λ calm. let o = k.ended.complete calm in record { calm = o.calm; undisturbed = o.undisturbed };
    alone = k.ended.alone;
    syncs = λ calm is. after ∙ k.ended.syncs calm (subst CountsSyncs (sym is) tt) ∙ ap (λ (n : ℕ). n + syncs_of (seen_at_entry r) (core_run p c)) (sym before);
    most = (let m = k.ended.most in omega (arith, m, after, before));
  }

  prints : (text : List ℕ) → r.ending ≡ Done → s.new.output ≡ r.old.output ++ text → Prints text (alike r s)
  prints text done output = record {
    added = text;
    output = output;
    front = ([], sym (append-nil text));
    whole = λ is. refl;
    none = inr (inl done);
  }

  -- the load with what the run shows keeps what is promised of a load
  alike_keeps : (n seed : ℕ) → Keeps p r c → r.ending ≡ Done → AskFor p.types (lines r) (load_calls n seed) → IsQuietRun r c (summary_text r c) told s → KeepsLoad p n seed (alike r s) (quiet_course r c told)
  alike_keeps n seed k done asked q = record {
    asked = asked;
    ordered = ordered k.headline.ordered;
    crashes = crashes q.past k.headline.crashes;
    sound = sound k.headline.sound;
    traced = records k.traced;
    exit = exit k.exit;
    settled = k.settled.all (inl (subst IsAllWritten (sym done) tt));
    explained = explained k.explained;
    output = prints (summary_text r c) done (q.output ∙ ap (λ (o : List ℕ). o ++ summary_text r c) q.output_before);
    lasting = lasting k done;
    silent = λ undone. absurd (undone done);
    ended = ended k done q.unread q.syncs_before q.syncs_after;
  }

-- a load that follows a run keeps what is promised of a load
pub follows : (p : Program) (n seed : ℕ) (r s : Observed) (c : Course) (told : List Moment) → Keeps p r c → r.ending ≡ Done → AskFor p.types (lines r) (load_calls n seed) → IsQuietRun r c (summary_text r c) told s → KeepsLoad p n seed s (quiet_course r c told)
follows p n seed r s c told k done asked q = subst (λ (t : Observed). KeepsLoad p n seed t (quiet_course r c told)) (sym (same_load r c (summary_text r c) told s q)) (alike_keeps p r s c told q.left n seed k done asked q)
