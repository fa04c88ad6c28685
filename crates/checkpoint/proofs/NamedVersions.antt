-- The versions that a whole log names.
use Rattle.std.proofs.Common.{◌≡◌, ℕ, ◌+◌, ◌<◌, ◌^◌, nat_lt, true, List, [], ◌∷◌, map, drop, None, Some, Ok, refl, sym, ◌∙◌, subst, arith}
use Rattle.std.specs.Prelude.{slice_get}
use Rattle.std.specs.List.{AllByRecursion}
use Rattle.std.proofs.lemmas.Bool.{ltb-true, and_parts}
use Rattle.base_types.specs.declared.calls.UnitNo.{UnitNo}
use Rattle.base_types.specs.declared.calls.Value.{Value}
use Rattle.base_types.specs.declared.shapes.Shape.{Shape}
use Rattle.base_types.specs.declared.stores.Version.{Version}
use Rattle.host_trait.specs.declared.channels.FileId.TheVariants.{Manager}
use Rattle.host_trait.specs.World.{Image}
use Rattle.field_codec.specs.declared.formats.Format.TheVariants.{Two}
use Rattle.field_codec.specs.declared.units.Numbers.TheVariants.{Logged}
use Rattle.field_codec.specs.Units.{may_be_unit}
use Rattle.commit_log.specs.declared.records.Named.{Named}
use Rattle.commit_log.specs.declared.records.Written.{Written}
use Rattle.program_file.specs.Succession.{shapes_in_turn}
use Rattle.log_reading.specs.Blocks.{ReadEntry, ReadUpgrade, LogRead, log_in_file, types_read, shapes_read}
use Rattle.log_reading.specs.Versions.{named_by, named_of_base, named_in, named_by_grain, version_numbered, latest_of}
use Rattle.log_reading.proofs.LatestVersions.{latest_all}
use Rattle.promise_spec.specs.Programs.{Program, IsChecked, shape_in}
use Rattle.promise_spec.specs.Entries.{LogEntry, Recorded, Upgraded, Standing, Log, after_entry, after_entries}
use Rattle.promise_spec.specs.Versions.{WritesStand}
use Rattle.promise_spec.specs.Blocks.{Saved, saved_by, IsSaved, AreKept, Beginning, Fresh, From, BeginsWhole}
use Rattle.promise_spec.specs.Logs.{IsLogIn}
use Rattle.promise_spec.proofs.Lists.{both_parts}
use Rattle.promise_spec.proofs.ReadLogs.{read_base, read_in, read_is}
use Rattle.promise_spec.proofs.ReadVersions.{stood, saved_stood, by_number, item_at, entry_seen, later_shapes, all_in_order}

-- A named version is there, of a unit that may be logged.
pub record IsNamedIn (live : ℕ) (shapes : List Shape) (image : Image) (n : Named) : Type 0 where
  pub version : Version
  pub there : version_numbered live Two shapes image n ≡ Ok version
  pub unit : (0 < version.unit.0) × (version.unit.0 < 2 ^ 63)

may_log : (unit : UnitNo) → may_be_unit Logged unit.0 ≡ true → (0 < unit.0) × (unit.0 < 2 ^ 63)
may_log unit may =
    let both = and_parts (nat_lt 0 unit.0) (nat_lt unit.0 9223372036854775808) may in
    let below : unit.0 < 9223372036854775808 = ltb-true unit.0 9223372036854775808 both.1 in
    (ltb-true 0 unit.0 both.0, omega (arith, below))

module _ (live : ℕ) (shapes : List Shape) (image : Image) where
  -- those of a checkpoint
  saved_named : (p : Program) → slice_get shapes 0 ≡ Some (shape_in p) → (saved : List Saved) → AllByRecursion (IsSaved Two live p image) saved
      → AllByRecursion (IsNamedIn live shapes image) (map (λ w. record { unit = None; program = 0; written = w }) (map (λ s. s.write) saved))
  saved_named p first [] all = tt
  saved_named p first (s ∷ saved) all = (
    record {
      version = record { unit = s.unit; state = s.state };
      there = by_number Two live shapes image 0 (shape_in p) first None s.write ∙ saved_stood Two live (shape_in p) image s.write s.unit s.state all.0.unit.0 all.0.unit.1 all.0.stands;
      unit = all.0.unit;
    },
    saved_named p first saved all.1,
  )

  base_named : (p : Program) → slice_get shapes 0 ≡ Some (shape_in p) → (b : Beginning) → BeginsWhole Two live p image b → AllByRecursion (IsNamedIn live shapes image) (named_of_base (read_base b))
  base_named p first Fresh whole = tt
  base_named p first (From ck) whole = saved_named p first (saved_by ck) whole.each

  -- those of a record
  own_named : (number : ℕ) (shape : Shape) → slice_get shapes number ≡ Some shape → (unit : UnitNo) → (0 < unit.0) × (unit.0 < 2 ^ 63) → (ws : List Written) (states : List (List Value))
      → WritesStand Two live shape image unit ws states → AllByRecursion (IsNamedIn live shapes image) (map (λ w. record { unit = Some unit; program = number; written = w }) ws)
  own_named number shape at unit may [] states all = tt
  own_named number shape at unit may (w ∷ ws) [] all = absurd all
  own_named number shape at unit may (w ∷ ws) (state ∷ states) all = (
    record {
      version = record { unit = unit; state = state };
      there = by_number Two live shapes image number shape at (Some unit) w ∙ stood Two live shape image unit w state all.0;
      unit = may;
    },
    own_named number shape at unit may ws states all.1,
  )

  -- those of entries, by the program of their time
  entries_named : (number : ℕ) (p : Program) (entries : List LogEntry) → drop number shapes ≡ shapes_in_turn (types_read p (map entry_seen entries)) → AreKept Two live image p entries
      → AllByRecursion (IsNamedIn live shapes image) (named_by number (map entry_seen entries))
  entries_named number p [] goes kept = tt
  entries_named number p (Recorded c ∷ entries) goes kept =
      let at = item_at number shapes (shape_in p) (later_shapes (map entry_seen entries)) goes in
      both_parts (IsNamedIn live shapes image) (map (λ w. record { unit = Some c.logged.unit; program = number; written = w }) c.logged.writes) (named_by number (map entry_seen entries))
      (own_named number (shape_in p) at.0 c.logged.unit (may_log c.logged.unit kept.0.fits.units.unit) c.logged.writes c.states kept.0.whole) (entries_named number p entries goes kept.1)
  entries_named number p (Upgraded q ∷ entries) goes kept =
      let at = item_at number shapes (shape_in p) (later_shapes (ReadUpgrade q ∷ map entry_seen entries)) goes in
      entries_named (number + 1) q entries at.1 kept.1

-- what is read of a log begins as it does, and has its entries
pub read_as_logged : (live : ℕ) (image : Image) (log : Log) (is : IsLogIn Two live image log) (l : LogRead) → log_in_file Two is.stands.program (image (Manager live)) ≡ Ok l
    → l ≡ record { base = read_base is.stands.begins; entries = map entry_seen log.entries }
read_as_logged live image log is l read =
    let again = read_in Two live image log is in
    let both : Ok l ≡ Ok again.l = sym read ∙ again.read in
    let same : l ≡ again.l = cc both in
    same ∙ read_is Two live image log is

-- all that it names
pub all_named : (live : ℕ) (image : Image) (log : Log) (is : IsLogIn Two live image log) (l : LogRead) → log_in_file Two is.stands.program (image (Manager live)) ≡ Ok l
    → AllByRecursion (IsNamedIn live (shapes_read is.stands.program l) image) (named_in l)
all_named live image log is l read =
    let s = is.stands in
    let p : Program = s.program in
    let seen : List ReadEntry = map entry_seen log.entries in
    let k : LogRead = record { base = read_base s.begins; entries = seen } in
    let shapes : List Shape = shapes_read p k in
    subst (λ (m : LogRead). AllByRecursion (IsNamedIn live (shapes_read p m) image) (named_in m)) (sym (read_as_logged live image log is l read))
    (both_parts (IsNamedIn live shapes image) (named_of_base (read_base s.begins)) (named_by 0 seen) (base_named live shapes image p refl s.begins s.whole) (entries_named live shapes image 0 p log.entries refl s.kept))

-- and the last of each grain
pub latest_named_in : (live : ℕ) (image : Image) (log : Log) (is : IsLogIn Two live image log) (l : LogRead) → log_in_file Two is.stands.program (image (Manager live)) ≡ Ok l
    → AllByRecursion (IsNamedIn live (shapes_read is.stands.program l) image) (latest_of (named_by_grain (named_in l)))
latest_named_in live image log is l read =
    let shapes : List Shape = shapes_read is.stands.program l in
    latest_all (IsNamedIn live shapes image) (named_by_grain (named_in l)) (all_in_order (IsNamedIn live shapes image) (named_in l) (all_named live image log is l read))

-- the program in force behind entries that are kept is a checked one
pub checked_behind : (live : ℕ) (image : Image) (before : Standing) (entries : List LogEntry) → AreKept Two live image before.program entries → IsChecked before.program → IsChecked (after_entries before entries).program
checked_behind live image before [] kept checked = checked
checked_behind live image before (Recorded c ∷ entries) kept checked = checked_behind live image (after_entry before (Recorded c)) entries kept.1 checked
checked_behind live image before (Upgraded q ∷ entries) kept checked = checked_behind live image (after_entry before (Upgraded q)) entries kept.1 kept.0.0
