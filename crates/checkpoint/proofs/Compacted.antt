-- What `compact` and `migrate` show of the folder that they opened.
use Rattle.std.proofs.Common.{◌≡◌, ◌⊎◌, inl, inr, ℕ, ◌+◌, ◌-◌, ◌<◌, ◌≤◌, false, List, [], ◌∷◌, ◌++◌, length, Ok, refl, sym, ◌∙◌, ap, subst, append_assoc}
use Rattle.std.specs.List.{AllByRecursion}
use Rattle.std.proofs.lemmas.List.{append_cancel_left}
use Rattle.base_types.specs.declared.shapes.Shape.{Shape}
use Rattle.base_types.specs.declared.stores.Version.{Version}
use Rattle.host_trait.specs.declared.channels.Channel.{Channel}
use Rattle.host_trait.specs.declared.channels.FileId.{FileId}
use Rattle.host_trait.specs.declared.channels.FileId.TheVariants.{Manager}
use Rattle.host_trait.specs.Disk.{FileState, MayLeave, settled}
use Rattle.host_trait.specs.Runs.{OnlyAsked}
use Rattle.host_trait.specs.World.{World, Moment, Disk, Image, IsImage, Passes, Arrives, last_of, moment_of}
use Rattle.host_trait.proofs.Moments.{arrives_then}
use Rattle.host_trait.proofs.Runs.{settled_image, arrives_asked}
use Rattle.field_codec.specs.declared.formats.Format.{Format}
use Rattle.field_codec.specs.declared.formats.Format.TheVariants.{Two}
use Rattle.cell_model.specs.Units.{Member}
use Rattle.commit_log.specs.declared.records.Named.{Named}
use Rattle.log_reading.specs.Blocks.{log_in_file, shapes_read}
use Rattle.log_reading.specs.Steps.{seen_in}
use Rattle.log_reading.specs.Versions.{named_in, named_by_grain, latest_of}
use Rattle.script_tree.specs.Programs.{program_tree}
use Rattle.program_file.specs.Succession.{newest_program, shapes_in_turn, carried_from}
use Rattle.silo_spec.specs.Moments.{IsAsAtEntry, IsUntouched}
use Rattle.silo_spec.specs.OpenedDisks.{opened_disk, opening_syncs, OnlyOpens}
use Rattle.silo_spec.specs.Slots.{generation, ShowsSilos}
use Rattle.promise_spec.specs.Programs.{Program, IsChecked}
use Rattle.promise_spec.specs.Entries.{Log}
use Rattle.promise_spec.specs.Blocks.{AreKept}
use Rattle.promise_spec.specs.Logs.{IsMagic, StandsUpTo, IsLogOf}
use Rattle.promise_spec.specs.Images.{IsWholeFolder}
use Rattle.promise_spec.specs.Moments.{counted_moments}
use Rattle.promise_spec.specs.Openings.{Reads, reading_in}
use Rattle.promise_spec.specs.Words.{Manner}
use Rattle.promise_spec.specs.Endings.{Ending, Done}
use Rattle.promise_spec.specs.Courses.{Observed}
use Rattle.promise_spec.specs.EitherSlot.{IsCompactable}
use Rattle.promise_spec.specs.Compaction.{IsRewriting, Rewrites}
use Rattle.promise_spec.proofs.Lists.{each_of, either_in}
use Rattle.promise_spec.proofs.Openings.{reads_is_live, whole_read}
use Rattle.promise_spec.proofs.Batched.{base_program}
use Rattle.promise_laws.proofs.SettledLogs.{settled_logs}
use Rattle.silo_opening.specs.declared.opened_silo.Opened.{Opened}
use Rattle.silo_opening.specs.OpenedSilo.{program_in, programs_of, shapes_of, IsOpenedIn, IsOpenedFrom, IsLatest, AreLatest}
use Rattle.silo_opening.proofs.OpeningCalls.{long_opened, opens_same, opens_and_asked, opens_untouched}
use Rattle.checkpoint.specs.NextGeneration.{IsOnTheWay, IsLastVersionOf, IsMadeOf, next_generation}
use Rattle.checkpoint.specs.Copies.{AreThere}
use Rattle.checkpoint.proofs.NamedVersions.{IsNamedIn, latest_named_in, checked_behind}

-- the last versions, with what the log says of each
one_named : (o : Opened) (image : Image) (log : Log) (n : Named) → IsLatest image o log n → IsNamedIn o.slot (shapes_of o) image n → IsLastVersionOf o.slot (programs_of o) image log n
one_named o image log n l m =
    let same : m.version ≡ l.version = (let both : Ok m.version ≡ Ok l.version = sym m.there ∙ l.there in cc both) in
    record {
      version = m.version;
      there = m.there;
      unit = m.unit;
      state = ap (λ (v : Version). carried_from (programs_of o) n.program n.written.grain.kind v.state) same ∙ l.state;
    }

both_named : (o : Opened) (image : Image) (log : Log) (named : List Named) → AllByRecursion (IsLatest image o log) named → AllByRecursion (IsNamedIn o.slot (shapes_of o) image) named
    → AllByRecursion (IsLastVersionOf o.slot (programs_of o) image log) named
both_named o image log [] latest named = tt
both_named o image log (n ∷ more) latest named = (one_named o image log n latest.0 named.0, both_named o image log more latest.1 named.1)

-- they are there
pub latest_there : (o : Opened) (image : Image) (log : Log) (named : List Named) → AllByRecursion (IsLatest image o log) named → AreThere o.slot (shapes_of o) image named
latest_there o image log [] all = tt
latest_there o image log (n ∷ named) all = ((all.0.version, all.0.there), latest_there o image log named all.1)

module _ (f : Format) (o : Opened) (w0 w1 w2 : World) (from : IsOpenedIn f (seen_in w1.disk) o) (slot : o.slot ≤ 1) (opens : OnlyOpens w0 w1) (left : w1.disk ≡ opened_disk w0.disk) (asked : OnlyAsked w1 w2) where
  -- what was read at entry
  same : seen_in w1.disk ≡ seen_in w0.disk
  same = opens_same (opening_syncs (seen_in w0.disk)) w0 w1 opens

  same_too : seen_in w2.disk ≡ seen_in w0.disk
  same_too = ap seen_in asked.disk ∙ same

  disk_is : w2.disk ≡ opened_disk w0.disk
  disk_is = asked.disk ∙ left

  pub read_so : reading_in f (seen_in w0.disk) ≡ Reads o.slot from.log
  read_so = subst (λ (i : Image). reading_in f i ≡ Reads o.slot from.log) same from.reads

  pub generation_so : generation (w0.disk (Manager o.slot)).seen ≡ o.generation
  generation_so = subst (λ (i : Image). generation (i (Manager o.slot)) ≡ o.generation) same from.generation_is

  pub opens_too : OnlyOpens w0 w2
  opens_too = opens_and_asked (opening_syncs (seen_in w0.disk)) w0 w1 w2 opens asked

  pub untouched : IsUntouched w0 w2
  untouched = opens_untouched (opening_syncs (seen_in w0.disk)) w0 w2 opens_too

  module _ (stay : (file : FileId) → MayLeave (w0.disk file) (w0.disk file).seen) (stay_too : (file : FileId) → MayLeave (w2.disk file) (w2.disk file).seen) (whole : IsWholeFolder w0) where
    -- the log that was read
    pub log_there : IsLogOf f o.slot (seen_in w0.disk) from.log
    log_there = whole_read f o.slot (seen_in w0.disk) from.log (whole.whole (seen_in w0.disk) stay o.slot (reads_is_live f (seen_in w0.disk) o.slot from.log read_so)) read_so

    pub manager_long : 16 ≤ length (w0.disk (Manager o.slot)).seen
    manager_long = log_there.is_live.silo.long

    settled_so : (n : ℕ) → n ≤ 1 → 16 ≤ length (w0.disk (Manager n)).seen → w2.disk (Manager n) ≡ settled (w0.disk (Manager n)).seen
    settled_so n low long = ap (λ (d : Disk). d (Manager n)) disk_is ∙ long_opened n (w0.disk (Manager n)) low long

    image_so : (image : Image) → IsImage w2.disk image → IsImage w0.disk image
        × ((n : ℕ) → n ≤ 1 → (n ≡ o.slot) ⊎ (16 ≤ length (w0.disk (Manager n)).seen) → image (Manager n) ≡ (w0.disk (Manager n)).seen)
    image_so image is = (untouched.now.images image is, λ n low which. by n low which)
      where
        by : (n : ℕ) → n ≤ 1 → (n ≡ o.slot) ⊎ (16 ≤ length (w0.disk (Manager n)).seen) → image (Manager n) ≡ (w0.disk (Manager n)).seen
        by n low (inr long) = settled_image w2.disk (Manager n) (w0.disk (Manager n)).seen (image (Manager n)) (settled_so n low long) (is (Manager n))
        by n low (inl this) =
            let long : 16 ≤ length (w0.disk (Manager n)).seen = subst (λ (k : ℕ). 16 ≤ length (w0.disk (Manager k)).seen) (sym this) manager_long in
            settled_image w2.disk (Manager n) (w0.disk (Manager n)).seen (image (Manager n)) (settled_so n low long) (is (Manager n))

    pub can : IsCompactable f o.slot from.log w2
    can = record {
      slot = slot;
      seen = stay_too;
      lasts = (let there : w2.disk (Manager o.slot) ≡ settled (w0.disk (Manager o.slot)).seen = settled_so o.slot slot manager_long in there ∙ ap (λ (s : FileState). settled s.seen) (sym there));
      logged = settled_logs f o.slot w0 w2.disk from.log whole stay image_so log_there;
    }

    pub shown : ShowsSilos IsMagic w2.disk
    shown image is n low short silo =
        whole.shows image (image_so image is).0 n low (subst (λ (i : Image). length (i (Manager n)) < 16) same_too short) silo

    -- ---- what was written

    module _ (manner : Manner) (lines : List (List ℕ)) (before after : Channel → ℕ) (ending : Ending) (w3 : World)
        (next : Log) (moments : Passes (IsOnTheWay f o.slot from.log next w2) w2.past w3.past) (now : IsOnTheWay f o.slot from.log next w2 (moment_of w3)) (shows : ShowsSilos IsMagic w3.disk)
        (done : ending ≡ Done → (image : Image) → IsImage w3.disk image → IsLogOf Two (1 - o.slot) image next × (generation (image (Manager (1 - o.slot))) ≡ o.generation + 1)) where
      abbrev r : Observed
      r = record { manner = manner; asked = lines; windowed = false; old = w0; new = w3; faults_before = before; faults_after = after; ending = ending }

      rewriting : (m : Moment) → IsOnTheWay f o.slot from.log next w2 m → IsRewriting f Two o.slot from.log next r m
      rewriting m way = record {
        quiet = way.quiet ∙ opens_too.now.output;
        kept = λ file here. way.kept file here ∙ ap (λ (d : Disk). d file) disk_is;
        either = way.either;
      }

      first : IsOnTheWay f o.slot from.log next w2 (moment_of w2)
      first = record { quiet = refl; kept = λ file here. refl; either = λ image is. inl (can.logged image is) }

      clock : Arrives w0 w2
      clock = arrives_then w0 w1 w2 opens.clock (arrives_asked w1 w2 asked)

      last_is : last_of (moment_of w0) untouched.moments.more ≡ moment_of w2
      last_is = ap (last_of (moment_of w0)) (append_cancel_left w0.past untouched.moments.more clock.more (sym untouched.moments.past ∙ clock.past)) ∙ clock.last

      counted : (m : Moment) → Member m (counted_moments w0 untouched.moments.more moments.more w3) → IsRewriting f Two o.slot from.log next r m
      counted m (inl this) = subst (IsRewriting f Two o.slot from.log next r) (sym (this ∙ last_is)) (rewriting (moment_of w2) first)
      counted m (inr there) = elim (either_in m moments.more (moment_of w3 ∷ []) there) [
        | inl late ↦ rewriting m (each_of (IsOnTheWay f o.slot from.log next w2) moments.more m moments.each late)
        | inr end ↦ elim end [
          | inl this ↦ subst (IsRewriting f Two o.slot from.log next r) (sym this) (rewriting (moment_of w3) now)
          | inr none ↦ absurd none
        ]
      ]

      pub rewrites : Rewrites f Two o.slot from.log next r
      rewrites = record {
        read = log_there;
        early = untouched.moments.more;
        late = moments.more;
        past = moments.past ∙ ap (λ (l : List Moment). l ++ moments.more) untouched.moments.past ∙ append_assoc w0.past untouched.moments.more moments.more;
        before = λ m there. each_of (IsAsAtEntry w0) untouched.moments.more m untouched.moments.each there;
        moments = counted;
        shows = shows;
        done = λ ends image is. (let t = done ends image is in (t.0, t.1 ∙ ap (λ (n : ℕ). n + 1) (sym generation_so)));
      }

-- what the next generation is made of that `compact` writes
module _ (o : Opened) (w0 w1 w2 : World) (from : IsOpenedFrom (seen_in w1.disk) o) (slot : o.slot ≤ 1) (opens : OnlyOpens w0 w1) (left : w1.disk ≡ opened_disk w0.disk) (asked : OnlyAsked w1 w2)
    (stay : (file : FileId) → MayLeave (w0.disk file) (w0.disk file).seen) (stay_too : (file : FileId) → MayLeave (w2.disk file) (w2.disk file).seen) (whole : IsWholeFolder w0) where
  pub made : newest_program (programs_of o) ≡ program_tree o.checked → (latest : List Named) → AreLatest (seen_in w1.disk) o from.log latest
      → IsMadeOf (next_generation o latest) (programs_of o) (program_in o) (seen_in w2.disk) from.log
  made newest latest are = record {
    program = from.program;
    newest = newest;
    text = refl;
    checked = subst IsChecked from.program (checked_behind o.slot (seen_in w1.disk) from.log.base from.log.entries kept (subst IsChecked (sym base_is) stands.checked));
    count = from.count;
    next_unit = from.next;
    generation_is = ap (λ (n : ℕ). n + 1) (sym (subst (λ (i : Image). generation (i (Manager o.slot)) ≡ o.generation) (sym (ap seen_in asked.disk ∙ opens_same (opening_syncs (seen_in w0.disk)) w0 w1 opens)) (generation_so Two o w0 w1 w2 from slot opens left asked)));
    held = are.held;
    each = subst (λ (i : Image). AllByRecursion (IsLastVersionOf o.slot (programs_of o) i from.log) latest) (sym (ap seen_in asked.disk)) there;
  }
    where
      is_there : IsLogOf Two o.slot (seen_in w1.disk) from.log
      is_there = subst (λ (i : Image). IsLogOf Two o.slot i from.log) (sym (opens_same (opening_syncs (seen_in w0.disk)) w0 w1 opens)) (log_there Two o w0 w1 w2 from slot opens left asked stay stay_too whole)

      stands : StandsUpTo Two o.slot (seen_in w1.disk) from.log is_there.is.bodies is_there.is.gate is_there.is.session
      stands = is_there.is.stands

      base_is : from.log.base.program ≡ stands.program
      base_is = base_program Two o.slot (seen_in w1.disk) from.log is_there.is.bodies is_there.is.gate is_there.is.session stands

      kept : AreKept Two o.slot (seen_in w1.disk) from.log.base.program from.log.entries
      kept = subst (λ (p : Program). AreKept Two o.slot (seen_in w1.disk) p from.log.entries) (sym base_is) stands.kept

      -- the program file's
      first_is : stands.program ≡ from.first
      first_is = sym base_is ∙ ap (λ (l : Log). l.base.program) from.log_is

      named : AllByRecursion (IsNamedIn o.slot (shapes_of o) (seen_in w1.disk)) latest
      named =
          let read : log_in_file Two stands.program ((seen_in w1.disk) (Manager o.slot)) ≡ Ok from.read =
          subst (λ (p : Program). log_in_file Two p ((seen_in w1.disk) (Manager o.slot)) ≡ Ok from.read) (sym first_is) from.read_as in
          let all : AllByRecursion (IsNamedIn o.slot (shapes_read stands.program from.read) (seen_in w1.disk)) (latest_of (named_by_grain (named_in from.read))) =
          latest_named_in o.slot (seen_in w1.disk) from.log is_there.is from.read read in
          let shapes : shapes_read stands.program from.read ≡ shapes_of o = ap (λ (p : Program). shapes_read p from.read) first_is ∙ ap shapes_in_turn (sym from.programs) in
          subst (λ (l : List Shape). AllByRecursion (IsNamedIn o.slot l (seen_in w1.disk)) latest) shapes
          (subst (AllByRecursion (IsNamedIn o.slot (shapes_read stands.program from.read) (seen_in w1.disk))) (sym (are.latest from.first from.read from.first_is from.read_as)) all)

      there : AllByRecursion (IsLastVersionOf o.slot (programs_of o) (seen_in w1.disk) from.log) latest
      there = both_named o (seen_in w1.disk) from.log latest are.each named
