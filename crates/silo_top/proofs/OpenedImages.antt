-- An opened folder as the settler's writer keeps it: where each image has the log that was opened, each has it up to the writer's
-- gate, and the writer's ends are those of the places that it names.
use Rattle.std.proofs.Common.{Ok, ◌≡◌, ◌≢◌, slice_index, ℕ, ◌+◌, ◌≤◌, max, Bool, true, false, if◌then◌else◌, List, [], ◌∷◌, Option, Some, None, length, unwrap_or, refl, sym, ◌∙◌, ap, subst, arith}
use Rattle.std.specs.Prelude.{map, take, drop}
use Rattle.std.specs.List.{AllByRecursion}
use Rattle.base_types.specs.declared.calls.GrainId.{GrainId}
use Rattle.host_trait.specs.declared.channels.FileId.TheVariants.{Manager, Grain}
use Rattle.host_trait.specs.Files.{same_grain}
use Rattle.host_trait.specs.Disk.{FileState, MayLeave, settled}
use Rattle.host_trait.specs.World.{Disk, Image, IsImage}
use Rattle.host_trait.proofs.Crashes.{settled_only}
use Rattle.gate_block.specs.Log.{LogsUpTo, gate_of}
use Rattle.gate_block.proofs.Logs.{logged, one_log}
use Rattle.field_codec.specs.declared.formats.Format.TheVariants.{Two}
use Rattle.commit_log.specs.declared.records.Named.{Named}
use Rattle.commit_log.specs.declared.records.Written.{Written}
use Rattle.log_reading.specs.Sessions.{session_in_file}
use Rattle.log_reading.specs.Blocks.{LogBase, ReadEntry, LogRead, log_in_file}
use Rattle.log_reading.specs.Versions.{named_by, named_of_base, named_in, named_by_grain}
use Rattle.log_reading.specs.Sums.{end_after, greater_end}
use Rattle.core_model.specs.CoreState.{Member}
use Rattle.core_model.specs.LegalRuns.{Run}
use Rattle.promise_spec.specs.Programs.{Program, shape_in}
use Rattle.promise_spec.specs.Records.{Commit}
use Rattle.promise_spec.specs.Entries.{LogEntry, Recorded, Upgraded, records_among, Log, records_of, standing_of}
use Rattle.promise_spec.specs.Blocks.{AreKept, Saved, saved_by, IsSaved, Beginning, Fresh, From, BeginsWhole}
use Rattle.promise_spec.specs.Logs.{StandsUpTo, IsLog, IsLogIn}
use Rattle.promise_spec.proofs.Batched.{base_program}
use Rattle.promise_spec.proofs.ReadLogs.{IsReadIn, read_base, read_in, read_is}
use Rattle.promise_spec.proofs.ReadSessions.{greatest_read}
use Rattle.promise_spec.proofs.Standings.{grown_none}
use Rattle.promise_spec.specs.Journals.{AllLog}
use Rattle.promise_spec.proofs.ReadVersions.{all_in_order, all_of_order, entry_seen}
use Rattle.batch_disk.specs.ImagesAtRest.{IsAtRest, StandsIn, IsBelow, AreBelow, AreNamedBy, write_end, raised_end, raised_ends, all_writes}
use Rattle.batch_disk.specs.Writers.{file_end, kept_of}
use Rattle.batch_disk.specs.declared.writer.BatchWriter.{BatchWriter}
use Rattle.batch_disk.proofs.Ends.{raised_each, raised_long, stands_within, kept_within}
use Rattle.batch_disk.proofs.Lists.{both_parts, split_parts, each_list}
use Rattle.run_books.specs.Beginnings.{Outset}
use Rattle.run_books.specs.Images.{KeepsFolder}
use Rattle.silo_opening.specs.OpenedSilo.{IsOpenedFrom}
use Rattle.silo_opening.specs.declared.opened_silo.Opened.{Opened}
use Rattle.silo_top.specs.RunStart.{IsStartOf}
use Rattle.silo_top.specs.declared.run_start.Started.{Started}
use Rattle.silo_top.proofs.TurnStart.{no_books}

-- ---- all places that a log names, in the order in which its versions are read

-- what holds of each result of a function, holds of each one's result
all_map : {A B : Type 0} (P : B → Type 0) (f : A → B) (xs : List A) → AllByRecursion P (map f xs) → AllByRecursion (λ x. P (f x)) xs
all_map P f [] all = tt
all_map P f (x ∷ xs) all = (all.0, all_map P f xs all.1)

map_all : {A B : Type 0} (P : B → Type 0) (f : A → B) (xs : List A) → AllByRecursion (λ x. P (f x)) xs → AllByRecursion P (map f xs)
map_all P f [] all = tt
map_all P f (x ∷ xs) all = (all.0, map_all P f xs all.1)

-- the place of a version that is named
abbrev place_named : Named → Written
place_named n = n.written

-- the places that a log names as it is read, by grains
abbrev places_read : LogRead → List Written
places_read l = map place_named (named_by_grain (named_in l))

module _ (P : Written → Type 0) where
  abbrev IsNamed : Named → Type 0
  IsNamed n = P n.written

  from_named : (number : ℕ) (entries : List LogEntry) → AllByRecursion IsNamed (named_by number (map entry_seen entries)) → AllByRecursion (λ c. AllByRecursion P c.logged.writes) (records_among entries)
  from_named number [] all = tt
  from_named number (Recorded c ∷ entries) all =
      let parts = split_parts IsNamed (map (λ w. record { unit = Some c.logged.unit; program = number; written = w }) c.logged.writes) (named_by number (map entry_seen entries)) all in
      (all_map IsNamed (λ w. record { unit = Some c.logged.unit; program = number; written = w }) c.logged.writes parts.0, from_named number entries parts.1)
  from_named number (Upgraded q ∷ entries) all = from_named (number + 1) entries all

  to_named : (number : ℕ) (entries : List LogEntry) → AllByRecursion (λ c. AllByRecursion P c.logged.writes) (records_among entries) → AllByRecursion IsNamed (named_by number (map entry_seen entries))
  to_named number [] all = tt
  to_named number (Recorded c ∷ entries) all =
      both_parts IsNamed (map (λ w. record { unit = Some c.logged.unit; program = number; written = w }) c.logged.writes) (named_by number (map entry_seen entries))
      (map_all IsNamed (λ w. record { unit = Some c.logged.unit; program = number; written = w }) c.logged.writes all.0) (to_named number entries all.1)
  to_named number (Upgraded q ∷ entries) all = to_named (number + 1) entries all

  from_saved : (b : Beginning) → AllByRecursion P (read_base b).writes → AreNamedBy P b
  from_saved Fresh all = tt
  from_saved (From ck) all = all_map P (λ (s : Saved). s.write) (saved_by ck) all

  -- what holds of all that are read holds of each that is named
  all_named : (l : LogRead) → AllByRecursion P (places_read l) → AllByRecursion IsNamed (named_in l)
  all_named l all = all_of_order IsNamed (named_in l) (all_map P place_named (named_by_grain (named_in l)) all)

  -- and so of each record's, and of each of the log's beginning
  of_records : (l : LogRead) (entries : List LogEntry) → l.entries ≡ map entry_seen entries → AllByRecursion IsNamed (named_in l) → AllByRecursion (λ c. AllByRecursion P c.logged.writes) (records_among entries)
  of_records l entries same all =
      from_named 0 entries (subst (λ (es : List ReadEntry). AllByRecursion IsNamed (named_by 0 es)) same (split_parts IsNamed (named_of_base l.base) (named_by 0 l.entries) all).1)

  of_base : (l : LogRead) (b : Beginning) → l.base ≡ read_base b → AllByRecursion IsNamed (named_in l) → AreNamedBy P b
  of_base l b base all =
      let first : AllByRecursion IsNamed (named_of_base l.base) = (split_parts IsNamed (named_of_base l.base) (named_by 0 l.entries) all).0 in
      from_saved b (subst (λ (o : LogBase). AllByRecursion P o.writes) base (all_map IsNamed (λ w. record { unit = None; program = 0; written = w }) l.base.writes first))

  -- and the other way round
  all_read : (l : LogRead) (b : Beginning) (entries : List LogEntry) → l.base ≡ read_base b → l.entries ≡ map entry_seen entries
      → AllByRecursion P (read_base b).writes → AllByRecursion P (all_writes (records_among entries)) → AllByRecursion P (places_read l)
  all_read l b entries base same first all =
      let saved : AllByRecursion IsNamed (named_of_base l.base) =
      map_all IsNamed (λ w. record { unit = None; program = 0; written = w }) l.base.writes (subst (λ (o : LogBase). AllByRecursion P o.writes) (sym base) first) in
      let later : AllByRecursion IsNamed (named_by 0 l.entries) =
      subst (λ (es : List ReadEntry). AllByRecursion IsNamed (named_by 0 es)) (sym same) (to_named 0 entries (each_list P (λ (c : Commit). c.logged.writes) (records_among entries) all)) in
      map_all P place_named (named_by_grain (named_in l)) (all_in_order IsNamed (named_in l) (both_parts IsNamed (named_of_base l.base) (named_by 0 l.entries) saved later))

-- what entries that are kept name lies in the grains' files
entries_within : (live : ℕ) (p : Program) (image : Image) (entries : List LogEntry) → AreKept Two live image p entries → AllByRecursion (λ w. write_end w ≤ length (image (Grain live w.grain))) (all_writes (records_among entries))
entries_within live p image [] kept = tt
entries_within live p image (Recorded c ∷ entries) kept =
    let P : Written → Type 0 = λ w. write_end w ≤ length (image (Grain live w.grain)) in
    both_parts P c.logged.writes (all_writes (records_among entries)) (split_parts P c.logged.writes [] (kept_within live (shape_in p) image (c ∷ []) (kept.0, tt))).0 (entries_within live p image entries kept.1)
entries_within live p image (Upgraded q ∷ entries) kept = entries_within live q image entries kept.1

-- what a log begins with lies in the grains' files
saved_within : (live : ℕ) (p : Program) (image : Image) (ss : List Saved) → AllByRecursion (IsSaved Two live p image) ss → AllByRecursion (λ w. write_end w ≤ length (image (Grain live w.grain))) (map (λ (s : Saved). s.write) ss)
saved_within live p image [] all = tt
saved_within live p image (s ∷ ss) all = (stands_within live (shape_in p) image s.unit s.write s.state all.0.stands, saved_within live p image ss all.1)

base_within : (live : ℕ) (p : Program) (image : Image) (b : Beginning) → BeginsWhole Two live p image b → AllByRecursion (λ w. write_end w ≤ length (image (Grain live w.grain))) (read_base b).writes
base_within live p image Fresh whole = tt
base_within live p image (From ck) whole = saved_within live p image (saved_by ck) whole.each

-- what is read of a log begins with what it begins with
base_read : (live : ℕ) (image : Image) (log : Log) (is : IsLogIn Two live image log) → (read_in Two live image log is).l.base ≡ read_base is.stands.begins
base_read live image log is = ap (λ (l : LogRead). l.base) (read_is Two live image log is)

-- ---- the ends

one_end : (b : Bool) (end : Option ℕ) (x e : ℕ) → unwrap_or end 0 ≡ e → unwrap_or (if b then greater_end end x else end) 0 ≡ (if b then max e x else e)
one_end false end x e is = is
one_end true None x e is = omega (arith, is)
one_end true (Some last) x e is = ap (λ (n : ℕ). max n x) is

-- a grain's end, as an opening keeps it, is what the places raise it to
end_is : (named : List Named) (grain : GrainId) (end : Option ℕ) (start : GrainId → ℕ) → unwrap_or end 0 ≡ start grain → unwrap_or (end_after end named grain) 0 ≡ raised_ends start (map place_named named) grain
end_is [] grain end start is = is
end_is (n ∷ named) grain end start is =
    end_is named grain (if same_grain n.written.grain grain then greater_end end (write_end n.written) else end) (raised_end start n.written)
    (one_end (same_grain n.written.grain grain) end (write_end n.written) (start grain) is)

-- where nothing is named
abbrev from_zero : GrainId → ℕ
from_zero grain = 0

-- ---- the folder

module _ (o : Outset) (x : Opened) (st : Started) (seen : Image) (is : IsOpenedFrom seen x) (start : IsStartOf x st) (opening : o.opening ≡ is.log) (in_force : (standing_of o.opening).program ≡ o.program) (slot : o.live ≡ x.slot) where
  abbrev writer : BatchWriter
  writer = st.settler.writer

  abbrev places : List Written
  places = places_read is.read

  ends_are : file_end writer ≡ raised_ends from_zero places
  ends_are = λ i grain. (start.ends grain ∙ ap (λ (e : Option ℕ). unwrap_or e 0) (is.ends grain) ∙ end_is (named_by_grain (named_in is.read)) grain None from_zero refl) i

  all_below : AllByRecursion (λ n. IsBelow (file_end writer) n.written) (named_in is.read)
  all_below = subst (λ (e : GrainId → ℕ). AllByRecursion (λ n. IsBelow e n.written) (named_in is.read)) (sym ends_are)
      (all_named (IsBelow (raised_ends from_zero places)) is.read (raised_each from_zero places))

  -- an image with the log and the manager file that was read
  module _ (image : Image) (has : IsLog o.live image o.opening) (same : image (Manager o.live) ≡ seen (Manager o.live)) where
    abbrev r : IsReadIn Two o.live has.is.stands.program image o.opening
    r = read_in Two o.live image o.opening has.is

    -- the program of the folder is the one with which it was opened: that of the log's base
    program_is : has.is.stands.program ≡ is.first
    program_is = sym (base_program Two o.live image o.opening has.is.bodies has.is.gate has.is.session has.is.stands)
        ∙ ap (λ (l : Log). l.base.program) (opening ∙ is.log_is)

    file_is : image (Manager o.live) ≡ seen (Manager x.slot)
    file_is = same ∙ ap (λ (n : ℕ). seen (Manager n)) slot

    -- reads as the log that was read
    log_is : r.l ≡ is.read
    log_is = let read : Ok r.l ≡ Ok is.read = sym r.read ∙ (λ i. log_in_file Two (program_is i) (file_is i)) ∙ is.read_as in cc

    -- and so it has the session that was read
    session_is : has.is.session ≡ x.session
    session_is = greatest_read Two o.live image o.opening has.is ∙ (λ i. session_in_file Two (program_is i) (file_is i)) ∙ sym is.session

    named_below : AllByRecursion (λ n. IsBelow (file_end writer) n.written) (named_in r.l)
    named_below = subst (λ (l : LogRead). AllByRecursion (λ n. IsBelow (file_end writer) n.written) (named_in l)) (sym log_is) all_below

    below : AreBelow (file_end writer) (records_of o.opening)
    below = of_records (IsBelow (file_end writer)) r.l o.opening.entries r.entries named_below

    base_below : AreNamedBy (IsBelow (file_end writer)) has.is.stands.begins
    base_below = of_base (IsBelow (file_end writer)) r.l has.is.stands.begins (base_read o.live image o.opening has.is) named_below

    within : AllByRecursion (λ w. write_end w ≤ length (image (Grain o.live w.grain))) places
    within = subst (λ (l : LogRead). AllByRecursion (λ w. write_end w ≤ length (image (Grain o.live w.grain))) (places_read l)) log_is
        (all_read (λ (w : Written). write_end w ≤ length (image (Grain o.live w.grain))) r.l has.is.stands.begins o.opening.entries (base_read o.live image o.opening has.is) r.entries
        (base_within o.live has.is.stands.program image has.is.stands.begins has.is.stands.whole)
        (entries_within o.live has.is.stands.program image o.opening.entries has.is.stands.kept))

    long : (grain : GrainId) → file_end writer grain ≤ length (image (Grain o.live grain))
    long grain = subst (λ (e : GrainId → ℕ). e grain ≤ length (image (Grain o.live grain))) (sym ends_are) (raised_long o.live image from_zero places (λ g. omega arith) within grain)

  -- the log stands in an image up to this closed gate, with this session at last, and all that it begins with ends at most where the writer's ends are
  abbrev RestsUpTo : Image → List (List ℕ) → ℕ → ℕ → Type 0
  RestsUpTo image bodies gate reached =
      (s : StandsUpTo Two o.live image o.opening bodies gate reached) × (slice_index (image (Manager o.live)) gate ≢ 1) × AreNamedBy (IsBelow (file_end writer)) s.begins

  -- Where nothing is pending in the manager file and each image has the log, the writer keeps the folder so.
  pub starts_resting : (r : Run) (disk : Disk) → disk (Manager o.live) ≡ settled (seen (Manager o.live)) → (o.world.disk (Manager o.live)).seen ≡ seen (Manager o.live) → IsImage disk seen → AllLog o.live o.opening disk → KeepsFolder o (take 15 (seen (Manager o.live))) no_books r writer disk
  starts_resting r disk still begun left all = record {
    stood = o.opening;
    bodies = own.is.bodies;
    log = sym (grown_none o.opening);
    keeps = record {
      named = record {
        shape_is = ap shape_in (sym in_force);
        below = below seen own refl;
      };
      reached = x.session;
      later = (let mine = start.session in omega (arith, mine));
      images = each;
    };
    behind = λ none bytes may. ap (drop (writer.gate_at + 1)) (settled_only (seen (Manager o.live)) bytes (subst (λ (f : FileState). MayLeave f bytes) still may) ∙ sym begun);
  }
    where
      own : IsLog o.live seen o.opening
      own = all seen left

      same : (image : Image) → IsImage disk image → image (Manager o.live) ≡ seen (Manager o.live)
      same image image_is = settled_only (seen (Manager o.live)) (image (Manager o.live)) (subst (λ (f : FileState). MayLeave f (image (Manager o.live))) still (image_is (Manager o.live)))

      own_logs : LogsUpTo own.is.bodies own.is.gate (seen (Manager o.live))
      own_logs = record { blocks = own.is.stands.stand; closed = own.is.closed }

      gate : own.is.gate ≡ writer.gate_at
      gate = sym (logged own.is.bodies own.is.gate (seen (Manager o.live)) own_logs).1 ∙ ap (λ (n : ℕ). gate_of (seen (Manager n))) slot ∙ is.gate ∙ sym start.gate

      each : (image : Image) → IsImage disk image → IsAtRest o.live (shape_in o.program) (take 15 (seen (Manager o.live))) o.opening own.is.bodies writer.gate_at x.session (file_end writer) (kept_of writer) image
      each image image_is =
          let has : IsLog o.live image o.opening = all image image_is in
          let logs : LogsUpTo has.is.bodies has.is.gate (image (Manager o.live)) = record { blocks = has.is.stands.stand; closed = has.is.closed } in
          let one = one_log has.is.bodies own.is.bodies has.is.gate own.is.gate (seen (Manager o.live)) (subst (LogsUpTo has.is.bodies has.is.gate) (same image image_is) logs) own_logs in
          let at : RestsUpTo image own.is.bodies writer.gate_at x.session =
          subst (λ (n : ℕ). RestsUpTo image own.is.bodies n x.session) (one.1 ∙ gate)
          (subst (λ (bodies : List (List ℕ)). RestsUpTo image bodies has.is.gate x.session) one.0
          (subst (λ (n : ℕ). RestsUpTo image has.is.bodies has.is.gate n) (session_is image has (same image image_is)) (has.is.stands, has.is.closed, base_below image has (same image image_is)))) in
          record {
            is_live = has.is_live;
            header = ap (take 15) (same image image_is);
            stands = at.0;
            closed = at.1;
            begun = at.2;
            long = long image has (same image image_is);
            stand = subst (AllByRecursion (StandsIn o.live (shape_in o.program) image)) (sym start.kept) tt;
          }
