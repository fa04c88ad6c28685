-- From what a run's loop carries to what lasts.
use Rattle.std.proofs.Common.{◌≡◌, ◌≢◌, ◌⊎◌, take, inl, inr, ℕ, ◌≤◌, nat_le, Bool, true, if◌then◌else◌, length, Some, List, [], ◌∷◌, ◌++◌, refl, sym, ap, subst, ◌∙◌, append_assoc, append-nil}
use Rattle.std.specs.List.{AllByRecursion}
use Rattle.std.proofs.lemmas.Bool.{cases_eq, and_from, le-leb}
use Rattle.std.proofs.lemmas.List.{append_cancel_left}
use Rattle.base_types.specs.declared.entries.Entry.{Entry}
use Rattle.host_trait.specs.Disk.{FileState, MayLeave, settled}
use Rattle.host_trait.specs.Files.{slot_of}
use Rattle.host_trait.specs.declared.channels.FileId.{FileId}
use Rattle.host_trait.specs.declared.channels.FileId.TheVariants.{Program as ProgramFile, Manager, Grain}
use Rattle.host_trait.specs.World.{World, Moment, Image, IsImage, Passes, moment_of}
use Rattle.host_trait.proofs.Crashes.{settled_only}
use Rattle.core_model.specs.CoreState as core
use Rattle.core_model.specs.CoreState.{Member}
use Rattle.silo_spec.specs.Moments.{IsAsAtEntry}
use Rattle.silo_spec.specs.OpenedDisks.{is_synced}
use Rattle.field_codec.specs.declared.formats.Format.TheVariants.{Two}
use Rattle.promise_spec.specs.Programs.{Program, shape_in}
use Rattle.promise_spec.specs.Records.{Commit}
use Rattle.promise_spec.specs.Entries.{Log, records_of, grown}
use Rattle.promise_spec.specs.Logs.{IsLog}
use Rattle.promise_spec.specs.Images.{IsWholeSilo, IsWholeFolder}
use Rattle.promise_spec.specs.Outputs.{IsProper, Grew}
use Rattle.promise_spec.specs.Courses.{Observed, Course, order, moments, seen_at_entry, core_end}
use Rattle.promise_spec.specs.Crashes.{IsAside, LeavesAlone}
use Rattle.promise_spec.specs.Batches.{EndsABatch}
use Rattle.promise_spec.specs.Exits.{HasLogAtExit, IsNowhere, AreOf, units_in_doubt}
use Rattle.promise_spec.specs.Journals.{Settlement, KeepsJournal, AllSay, AllLog, CutAt, IsSealing, commits_of, entries_of}
use Rattle.promise_spec.specs.Promise.{Promises}
use Rattle.promise_spec.specs.Replies.{HasNoRecord}
use Rattle.promise_spec.proofs.Standings.{grown_none, grown_records}
use Rattle.promise_spec.proofs.Lists.{each_of, in_append, either_in}
use Rattle.promise_spec.proofs.OneLog.{one_log}
use Rattle.promise_spec.proofs.Openings.{reads_is_live, whole_read}
use Rattle.promise_laws.proofs.SettledLogs.{settled_logs}
use Rattle.promise_laws.proofs.JournalSteps.{entries_of-append, joined_logs, begins_at, now_says, keep_more, say_more, cut_says}
use Rattle.promise_laws.specs.Closings.{ReadsMayStay, IsBehind, AllEnd, Carries}
use Rattle.promise_laws.specs.Obligations.{ShowsAnywhere, Opens, SaysIn, Journals, Lasts}
use Rattle.promise_laws.proofs.OpenedRuns.{answered_promised}
use Rattle.promise_spec.specs.Words.{Manner}

-- ---- the opening

module _ (p : Program) (r : Observed) (c : Course) (mid : World) (b : IsBehind r c mid) where
  -- over a whole folder the files have the log that they read as
  pub read_log : IsWholeFolder r.old → ReadsMayStay r.old → IsLog c.live (seen_at_entry r) c.opening
  read_log whole stay =
      let s : IsWholeSilo c.live (seen_at_entry r) = whole.whole (seen_at_entry r) stay c.live (reads_is_live Two (seen_at_entry r) c.live c.opening b.reads) in
      whole_read Two c.live (seen_at_entry r) c.opening s b.reads

  -- the early moments are those of the opening
  early_is : b.untouched.moments.more ≡ c.early
  early_is = append_cancel_left r.old.past b.untouched.moments.more c.early (sym b.untouched.moments.past ∙ b.early)

  -- at each of them all is as at entry
  as_entry : (m : Moment) → Member m c.early → IsAsAtEntry r.old m
  as_entry m there = each_of (IsAsAtEntry r.old) b.untouched.moments.more m b.untouched.moments.each (subst (λ (l : List Moment). Member m l) (sym early_is) there)

  -- the live manager file has nothing pending behind the opening
  live_settled : (image : Image) → IsImage mid.disk image → image (Manager c.live) ≡ (r.old.disk (Manager c.live)).seen
  live_settled image left = settled_only (seen_at_entry r (Manager c.live)) (image (Manager c.live)) (subst (λ (f : FileState). MayLeave f (image (Manager c.live))) b.settled (left (Manager c.live)))

  -- nor has another that was long enough
  long_settled : (image : Image) → IsImage mid.disk image → (slot : ℕ) → slot ≤ 1 → slot ≢ c.live → 16 ≤ length (r.old.disk (Manager slot)).seen → image (Manager slot) ≡ (r.old.disk (Manager slot)).seen
  long_settled image left slot low other long =
      let apart : Manager slot ≢ Manager c.live = λ same. other (ap slot_of same) in
      let synced : is_synced (Manager slot) (r.old.disk (Manager slot)).seen ≡ true = and_from (nat_le 16 (length (r.old.disk (Manager slot)).seen)) (nat_le slot 1) (le-leb 16 (length (r.old.disk (Manager slot)).seen) long) (le-leb slot 1 low) in
      let there : mid.disk (Manager slot) ≡ settled (r.old.disk (Manager slot)).seen =
      b.others (Manager slot) apart ∙ ap (λ (t : Bool). if t then settled (r.old.disk (Manager slot)).seen else r.old.disk (Manager slot)) synced in
      settled_only (r.old.disk (Manager slot)).seen (image (Manager slot)) (subst (λ (f : FileState). MayLeave f (image (Manager slot))) there (left (Manager slot)))

  -- each image behind the opening is one of entry, with the manager files as they read
  stays_sound : (image : Image) → IsImage mid.disk image → IsImage r.old.disk image
      × ((slot : ℕ) → slot ≤ 1 → (slot ≡ c.live) ⊎ (16 ≤ length (r.old.disk (Manager slot)).seen) → image (Manager slot) ≡ (r.old.disk (Manager slot)).seen)
  stays_sound image left = (b.untouched.now.images image left, λ slot low which. by slot low (cases_eq slot c.live) which)
    where
      mine : (slot : ℕ) → slot ≡ c.live → image (Manager slot) ≡ (r.old.disk (Manager slot)).seen
      mine slot same = subst (λ (s : ℕ). image (Manager s) ≡ (r.old.disk (Manager s)).seen) (sym same) (live_settled image left)

      by : (slot : ℕ) → slot ≤ 1 → (slot ≡ c.live) ⊎ (slot ≢ c.live) → (slot ≡ c.live) ⊎ (16 ≤ length (r.old.disk (Manager slot)).seen) → image (Manager slot) ≡ (r.old.disk (Manager slot)).seen
      by slot low (inl same) which = mine slot same
      by slot low (inr other) (inl same) = mine slot same
      by slot low (inr other) (inr long) = long_settled image left slot low other long

  -- over a whole folder whose files have the log
  pub opens : IsWholeFolder r.old → ReadsMayStay r.old → ReadsMayStay mid → IsLog c.live (seen_at_entry r) c.opening → Opens r c
  opens whole stay stay_mid read =
      let all : AllLog c.live c.opening mid.disk = settled_logs Two c.live r.old mid.disk c.opening whole stay stays_sound read in
      record {
        folder = whole;
        read = read;
        opened = subst (λ (m : Moment). AllLog c.live c.opening m.disk) (sym b.last) all;
        some = λ file. (mid.disk file).seen;
        possible = subst (λ (m : Moment). IsImage m.disk (λ file. (mid.disk file).seen)) (sym b.last) stay_mid;
        past = b.late ∙ ap (λ (l : List Moment). l ++ c.late) b.early ∙ append_assoc r.old.past c.early c.late;
        quiet = λ m there. (as_entry m there).quiet;
        before = λ image of. (as_entry of.moment of.member).images image of.left;
      }

  -- and over a whole one
  pub opens_whole : IsWholeFolder r.old → ReadsMayStay r.old → ReadsMayStay mid → Opens r c
  opens_whole whole stay stay_mid = opens whole stay stay_mid (read_log whole stay)

  -- each image behind the opening has the opening log
  opened_at : Opens r c → AllLog c.live c.opening mid.disk
  opened_at o = subst (λ (m : Moment). AllLog c.live c.opening m.disk) b.last o.opened

  -- ---- the moments

  -- what holds behind the opening, at each moment since and at the exit holds at each moment that counts
  pub gather : (P : Moment → Type 0) → P (moment_of mid) → Passes P mid.past r.new.past → P (moment_of r.new) → (m : Moment) → Member m (moments r c) → P m
  gather P first passes now m (inl same) = subst P (sym (same ∙ b.last)) first
  gather P first passes now m (inr there) = elim (either_in m c.late (moment_of r.new ∷ []) there) [
    | inl late ↦ each_of P passes.more m passes.each (subst (λ (l : List Moment). Member m l) (sym late_is) late)
    | inr end ↦ elim end [
      | inl same ↦ subst P (sym same) now
      | inr none ↦ absurd none
    ]
  ]
    where
      late_is : passes.more ≡ c.late
      late_is = append_cancel_left mid.past passes.more c.late (sym passes.past ∙ b.late)

  -- behind the opening each log is the opening log: no batch
  first_ends : Opens r c → AllEnd c.live (core_end p c) c.opening (moment_of mid)
  first_ends o image log left is = record {
    batches = 0;
    more = [];
    split = one_log Two Two c.live c.live image log c.opening is (opened_at o image left) ∙ sym (grown_none c.opening);
    records = tt;
  }

  -- and files and header are as they were
  first_alone : LeavesAlone c.live r (moment_of mid)
  first_alone = record {
    aside = λ file is. b.others file (apart file is);
    header = λ image left. ap (λ (l : List ℕ). take 15 l) (live_settled image left);
  }
    where
      apart : (file : FileId) → IsAside c.live file → file ≢ Manager c.live
      apart (ProgramFile slot) is same = absurd (cc same)
      apart (Manager slot) is same = is (cc same)
      apart (Grain slot grain) is same = absurd (cc same)

  module _ (o : Opens r c) (said journal : List Settlement) (entries : c.entries ≡ entries_of said) where
    -- what an image keeps was said in the entries
    says_in : (m : Moment) → AllSay c.live p c.opening mid.output said journal m → SaysIn p r c journal m
    says_in m all image left =
        let t = all image left in
        let k : KeepsJournal c.live p c.opening mid.output journal m image = t.0 in
        let quiet : mid.output ≡ r.old.output = b.untouched.now.quiet in
        let more : entries_of said ≡ entries_of k.said ++ entries_of t.1.0 = ap entries_of t.1.1 ∙ entries_of-append k.said t.1.0 in (
          record {
            said = k.said;
            unsaid = k.unsaid;
            later = k.later;
            rest = k.rest;
            split = k.split;
            log = k.log;
            output = subst (λ (before : List ℕ). Grew (shape_in p) before m.output (entries_of k.said) k.rest) quiet k.output;
          },
          (entries_of t.1.0, entries ∙ more),
        )

    -- at the return of the opening's last sync
    first_says : AllSay c.live p c.opening mid.output said journal (moment_of mid)
    first_says =
        keep_more c.live p c.opening mid.output said [] journal (moment_of mid)
        (say_more c.live p c.opening mid.output [] said [] (moment_of mid)
        (now_says c.live p c.opening mid [] [] mid tt (begins_at c.live p c.opening mid mid refl refl (opened_at o))))

    -- so it is at each moment that counts
    pub says_all : Passes (AllSay c.live p c.opening mid.output said journal) mid.past r.new.past → AllSay c.live p c.opening mid.output said journal (moment_of r.new)
        → (m : Moment) → Member m (moments r c) → SaysIn p r c journal m
    says_all passes now m there = says_in m (gather (AllSay c.live p c.opening mid.output said journal) first_says passes now m there)

  -- ---- the end

  module _ (o : Opens r c) (said unsaid later : List Settlement) (cut : CutAt c.live p c.opening mid said unsaid later c.rest r.new) (entries : c.entries ≡ entries_of said)
      (proper : AllByRecursion (IsProper (shape_in p)) (entries_of said)) (carries : Carries p r c mid ((said ++ unsaid) ++ later))
      (last : Image) (left : IsImage r.new.disk last) (has : IsLog c.live last (order c)) where
    order_is : order c ≡ grown c.opening (commits_of ((said ++ unsaid) ++ later))
    order_is = ap (λ (l : List Commit). grown c.opening l) carries.commits

    -- the journal that was kept is what a run has to show of one
    journals : Journals p r c
    journals = record {
      journal = (said ++ unsaid) ++ later;
      commits = carries.commits;
      backs = carries.backs;
      kept = says_all o said ((said ++ unsaid) ++ later) entries cut.moments (cut_says c.live p c.opening mid said unsaid later c.rest r.new proper cut);
      batches = λ image log of is. gather (AllEnd c.live (core_end p c) c.opening) (first_ends o) carries.batches carries.batches_now of.moment of.member image log of.left is;
      last = last;
      left = record { moment = moment_of r.new; member = inr (in_append (moment_of r.new) c.late (moment_of r.new ∷ []) (inr (inl refl))); left = left };
      longest = has;
      alone = gather (LeavesAlone c.live r) first_alone carries.alone carries.alone_now;
    }

    -- an image with all that is in the journal has the whole order
    whole_order : (image : Image) → IsLog c.live image (grown c.opening (commits_of ((said ++ unsaid) ++ later))) → HasLogAtExit c (core_end p c) image
    whole_order image is = record { log = order c; is = subst (IsLog c.live image) (sym order_is) is; which = inl refl }

    -- a unit that no image has is in no record
    nowhere : (e : Entry) → IsNowhere c.live r e.unit → HasNoRecord c e.unit
    nowhere e none l there = none last (order c) l left has (subst (λ (cs : List Commit). Member l cs) (sym (grown_records c.opening c.added)) (in_append l (records_of c.opening) c.added (inr there)))

    -- and what its images hold, where those that lack the last batch are explained
    lasts : ((image : Image) → IsLog c.live image (grown c.opening (commits_of (said ++ unsaid))) → HasLogAtExit c (core_end p c) image) → Lasts p r c
    lasts short = record {
      opens = o;
      journals = journals;
      leaves = record {
        logs = λ image may. elim (cut.log image may) [ inl was ↦ short image was | inr is ↦ whole_order image is ];
        nowhere = λ e there what none. nowhere e none;
        block = carries.block;
        behind = carries.behind;
      };
    }

  -- no batch is in doubt, or none that an image may have
  pub whole_lasts : (said unsaid : List Settlement) → Opens r c → ReadsMayStay r.new → CutAt c.live p c.opening mid said unsaid [] c.rest r.new → c.entries ≡ entries_of said
      → AllByRecursion (IsProper (shape_in p)) (entries_of said) → Carries p r c mid (said ++ unsaid) → Lasts p r c
  whole_lasts said unsaid o stay cut entries proper carries =
      lasts o said unsaid [] cut entries proper (subst (Carries p r c mid) (sym (append-nil (said ++ unsaid))) carries) (λ file. (r.new.disk file).seen) stay (all (λ file. (r.new.disk file).seen) (short (λ file. (r.new.disk file).seen) stay))
      (λ image is. record { log = order c; is = all image is; which = inl refl })
    where
      short : (image : Image) → IsImage r.new.disk image → IsLog c.live image (grown c.opening (commits_of (said ++ unsaid)))
      short image left = elim (cut.log image left) [
        | inl was ↦ was
        | inr is ↦ subst (λ (l : List Settlement). IsLog c.live image (grown c.opening (commits_of l))) (append-nil (said ++ unsaid)) is
      ]

      all : (image : Image) → IsLog c.live image (grown c.opening (commits_of (said ++ unsaid))) → IsLog c.live image (order c)
      all image is = subst (λ (l : List Commit). IsLog c.live image (grown c.opening l)) (sym carries.commits) is

  -- a batch is in doubt, and an image has it
  pub doubt_lasts : (said unsaid : List Settlement) (batch : Settlement) (last : Image) (begins : ℕ) → Opens r c → CutAt c.live p c.opening mid said unsaid (batch ∷ []) c.rest r.new → c.entries ≡ entries_of said
      → AllByRecursion (IsProper (shape_in p)) (entries_of said) → Carries p r c mid ((said ++ unsaid) ++ batch ∷ []) → IsImage r.new.disk last → IsLog c.live last (order c)
      → (core_end p c).manager.doubt ≡ Some begins → AreOf (units_in_doubt (core_end p c)) (commits_of (batch ∷ [])) → Lasts p r c
  doubt_lasts said unsaid batch last begins o cut entries proper carries left has doubt units =
      lasts o said unsaid (batch ∷ []) cut entries proper carries last left has
      (λ image is. record {
        log = grown c.opening (commits_of (said ++ unsaid));
        is = is;
        which = inr (record {
          begins = begins;
          doubt = doubt;
          last = commits_of (batch ∷ []);
          split = ap (λ (l : List Commit). grown c.opening l) carries.commits ∙ sym (joined_logs c.opening (said ++ unsaid) (batch ∷ []));
          units = units;
        });
      })

-- ---- the promise

-- what a run answers, and what lasts where its folder was opened so, is the whole promise
pub carried_promised : (m : Manner) (p : Program) (r : Observed) (c : Course) (mid : World) → ShowsAnywhere p r c → r.manner ≡ m → r.windowed ≡ true → IsBehind r c mid → ReadsMayStay r.old → ReadsMayStay mid
    → (Opens r c → Lasts p r c) → Promises m r
carried_promised m p r c mid answers is windowed behind stay stay_mid lasts =
    answered_promised p r c answers m is windowed behind.reads (λ whole. lasts (opens_whole p r c mid behind whole stay stay_mid))

-- ---- batches at the moments of a step

-- another log of the image is the same, and ends so too
same_ends : (live : ℕ) (w : core.CoreState) (opening log other : Log) (image : Image) → EndsABatch w opening log → IsLog live image log → IsLog live image other → EndsABatch w opening other
same_ends live w opening log other image ends is is_too = subst (EndsABatch w opening) (one_log Two Two live live image log other is is_too) ends

-- where each image has one log
pub logged_ends : (live : ℕ) (w : core.CoreState) (opening log : Log) (m : Moment) → AllLog live log m.disk → EndsABatch w opening log → AllEnd live w opening m
logged_ends live w opening log m all ends image other left is = same_ends live w opening log other image ends (all image left) is

-- while a batch is sealed, by whichever state both logs end so
pub sealing_ends : (live : ℕ) (w : core.CoreState) (opening before : Log) (batch : List Settlement) (mid : World) (m : Moment) → IsSealing live before batch mid m
    → EndsABatch w opening before → EndsABatch w opening (grown before (commits_of batch)) → AllEnd live w opening m
sealing_ends live w opening before batch mid m s first second image log left is = elim (s.log image left) [
  | inl was ↦ same_ends live w opening before log image first was is
  | inr has ↦ same_ends live w opening (grown before (commits_of batch)) log image second has is
]
