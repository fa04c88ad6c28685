-- Entries that are read block by block, each under the program of its time.
use Rattle.std.proofs.Common.{◌≡◌, ◌<◌, ℕ, List, [], ◌∷◌, ◌++◌, length, map, Option, Some, None, Result, Ok, Err, refl, sym, ◌∙◌, ap, arith}
use Rattle.std.specs.Prelude.{slice_get}
use Rattle.std.proofs.lemmas.List.{length-map}
use Rattle.base_types.specs.declared.shapes.Shape.{Shape}
use Rattle.host_trait.specs.World.{Image}
use Rattle.field_codec.specs.declared.formats.Format.TheVariants.{Two}
use Rattle.commit_log.specs.declared.records.CommitRecord.{CommitRecord}
use Rattle.script_tree.specs.Programs.{ProgramTree, program_tree}
use Rattle.script_check.specs.Shapes.{type_shapes}
use Rattle.program_file.specs.Succession.{AreInTurn, ArePrograms}
use Rattle.log_reading.specs.Entries as says
use Rattle.log_reading.specs.Entries.{BodyEntry}
use Rattle.log_reading.specs.Blocks.{LogBase, ReadEntry, ReadRecord, ReadUpgrade, LogRead, program_behind, program_after, before_others, behind_base, records_read, types_read, log_in_file}
use Rattle.log_reading.specs.Steps.{next_in, entries_from, IsFollowedBy}
use Rattle.log_reading.proofs.LogBlocks.{follows_ends}
use Rattle.silo_opening.specs.OpenedSilo.{programs_of}
use Rattle.silo_opening.specs.declared.opened_silo.Opened.{Opened}
use Rattle.promise_spec.specs.Programs.{Program, shape_in}
use Rattle.promise_spec.specs.Entries.{LogEntry, Recorded, Upgraded, Standing, after_entry, after_entries}
use Rattle.promise_spec.specs.Openings.{commit_of, entries_logged}
use Rattle.log_audit.specs.InForce.{types_in_force, HasShape, types_behind}
use Rattle.log_audit.specs.declared.in_force.InForce.{InForce}
use Rattle.log_audit.specs.Replays.{entries_of_records}

-- ---- the program in force

-- behind what a block says
pub behind_is : (p : Program) (types : ProgramTree) (entry : BodyEntry) → p.types ≡ types → (program_behind p entry).types ≡ types_behind types entry
behind_is p types (says.Recorded records) is = is
behind_is p types (says.Upgraded q) is = refl

-- the first program of an opened silo
pub some_program : (o : Opened) → ArePrograms (programs_of o) → 0 < length o.programs
some_program o are = (let same : length (programs_of o) ≡ length o.programs = length-map o.programs program_tree in by (programs_of o) are.in_turn same)
  where
    by : (programs : List ProgramTree) → AreInTurn programs → length programs ≡ length o.programs → 0 < length o.programs
    by [] none same = absurd none
    by (first ∷ later) some same = omega (arith, same)

-- the types of the program that these begin with
pub first_program : (p : Program) (entries : List ReadEntry) (programs : List ProgramTree) → programs ≡ types_read p entries → slice_get programs 0 ≡ Some p.types
first_program p entries programs are = ap (λ (l : List ProgramTree). slice_get l 0) are

pub same_types : (first : Option ProgramTree) (a b : ProgramTree) → first ≡ Some a → first ≡ Some b → a ≡ b
same_types first a b one other = (let both : Some a ≡ Some b = sym one ∙ other in cc both)

pub first_types : (p : Program) (entries : List ReadEntry) (programs : List ProgramTree) (types : ProgramTree) → programs ≡ types_read p entries → slice_get programs 0 ≡ Some types → p.types ≡ types
first_types p entries programs types are first = same_types _ p.types types (first_program p entries programs are) first

-- its shape is that of a program with its types
pub shape_same : (p : Program) (now : InForce) → HasShape now → p.types ≡ types_in_force now → shape_in p ≡ now.shape
shape_same p now shape typed = ap (λ (t : ProgramTree). record { types = type_shapes t }) typed ∙ sym shape

pub shape_types : (now : InForce) → HasShape now → now.shape.types ≡ type_shapes (types_in_force now)
shape_types now shape = ap (λ (s : Shape). s.types) shape

-- ---- what was read of a log

-- where the log ends, its beginning and all of its entries were read
pub all_read : (p : Program) (file : List ℕ) (base : LogBase) (done : List ReadEntry) (sessions : List ℕ) (last gate : ℕ) → IsFollowedBy Two p file base done sessions last gate → next_in Two (program_after p done).types last gate file ≡ Ok None
    → (log : LogRead) → log_in_file Two p file ≡ Ok log → (base ≡ log.base) × (done ≡ log.entries)
all_read p file base done sessions last gate f end log is =
    let same : record { base = base; entries = done } ≡ log = (let both : Ok (record { base = base; entries = done }) ≡ Ok log = sym (follows_ends Two p file base done sessions last gate f end).0 ∙ is in cc both) in
    (ap (λ (l : LogRead). l.base) same, ap (λ (l : LogRead). l.entries) same)

-- what the log begins with was read, and what is left behind the entries that were
pub rest_of : (p : Program) (file : List ℕ) (base : LogBase) (done : List ReadEntry) (sessions : List ℕ) (last gate : ℕ) → IsFollowedBy Two p file base done sessions last gate → (log : LogRead) → log_in_file Two p file ≡ Ok log
    → (base ≡ log.base) × ((rest : List ReadEntry) × (log.entries ≡ done ++ rest))
rest_of p file base done sessions last gate f log is = by (entries_from Two (program_after p done) last f.fuel gate file) (f.rest ∙ is)
  where
    by : (r : Result (List ReadEntry) ℕ) → behind_base base (before_others done r) ≡ Ok log → (base ≡ log.base) × ((rest : List ReadEntry) × (log.entries ≡ done ++ rest))
    by (Ok rest) e =
        let same : record { base = base; entries = done ++ rest } ≡ log = (let both : Ok (record { base = base; entries = done ++ rest }) ≡ Ok log = e in cc both) in
        (ap (λ (l : LogRead). l.base) same, (rest, sym (ap (λ (l : LogRead). l.entries) same)))
    by (Err place) e = absurd cc

-- ---- as entries of a log

module _ (live : ℕ) (image : Image) where
  pub logged_both : (p : Program) (a b : List ReadEntry) → entries_logged Two live p image (a ++ b) ≡ entries_logged Two live p image a ++ entries_logged Two live (program_after p a) image b
  logged_both p [] b = refl
  logged_both p (ReadRecord r ∷ a) b = ap (λ (l : List LogEntry). Recorded (commit_of Two live (shape_in p) image r) ∷ l) (logged_both p a b)
  logged_both p (ReadUpgrade q ∷ a) b = ap (λ (l : List LogEntry). Upgraded q ∷ l) (logged_both q a b)

  -- those of a block of records
  pub logged_records : (p : Program) (records : List CommitRecord) → entries_logged Two live p image (map ReadRecord records) ≡ entries_of_records live (shape_in p) image records
  logged_records p [] = refl
  logged_records p (r ∷ records) = ap (λ (l : List LogEntry). Recorded (commit_of Two live (shape_in p) image r) ∷ l) (logged_records p records)

  -- and the program in force behind them
  pub program_logged : (p : Program) (before : Standing) → before.program ≡ p → (entries : List ReadEntry) → (after_entries before (entries_logged Two live p image entries)).program ≡ program_after p entries
  program_logged p before is [] = is
  program_logged p before is (ReadRecord r ∷ entries) = program_logged p (after_entry before (Recorded (commit_of Two live (shape_in p) image r))) is entries
  program_logged p before is (ReadUpgrade q ∷ entries) = program_logged q (after_entry before (Upgraded q)) refl entries

-- ---- their records

pub records_both : (a b : List ReadEntry) → records_read (a ++ b) ≡ records_read a ++ records_read b
records_both [] b = refl
records_both (ReadRecord r ∷ a) b = ap (λ (l : List CommitRecord). r ∷ l) (records_both a b)
records_both (ReadUpgrade q ∷ a) b = records_both a b

pub records_seen : (records : List CommitRecord) → records_read (map ReadRecord records) ≡ records
records_seen [] = refl
records_seen (r ∷ records) = ap (λ (l : List CommitRecord). r ∷ l) (records_seen records)
