-- Blocks of records, as batches.
use Rattle.std.proofs.Common.{◌≡◌, ℕ, ◌≤◌, List, [], ◌∷◌, ◌++◌, length, map, slice_index, refl, ap, arith, ◌∙◌}
use Rattle.std.specs.List.{flat_map, AllByRecursion}
use Rattle.std.proofs.lemmas.List.{map-append}
use Rattle.base_types.specs.declared.shapes.Shape.{Shape}
use Rattle.host_trait.specs.declared.channels.FileId.TheVariants.{Manager, Program as ProgramFile}
use Rattle.host_trait.specs.World.{Image}
use Rattle.field_codec.specs.declared.formats.Format.{Format}
use Rattle.gate_block.specs.Log.{LogsUpTo}
use Rattle.silo_spec.specs.Silos.{IsSilo, HasProgram}
use Rattle.promise_spec.specs.Programs.{Program, IsChecked, shape_in}
use Rattle.promise_spec.specs.Records.{Commit}
use Rattle.promise_spec.specs.Entries.{LogEntry, Recorded, Standing, Log, new_log, grown}
use Rattle.promise_spec.specs.Versions.{IsKept}
use Rattle.promise_spec.specs.Blocks.{Records, entries_in, body_of, SessionIs, BlockFits, NeverFall, AreKept, Fresh}
use Rattle.promise_spec.specs.Logs.{IsFormat, StandsUpTo, IsLogIn}
use Rattle.promise_spec.proofs.Growing.{program_begins}

-- ---- blocks of records alone

-- the body of a batch of this session
abbrev pub batch_body : Format → ℕ → List Commit → List ℕ
batch_body format session batch = body_of format (Records session batch)

bodies_again : (format : Format) (session : ℕ) (batches : List (List Commit)) → map (batch_body format session) batches ≡ map (body_of format) (map (Records session) batches)
bodies_again format session [] = refl
bodies_again format session (batch ∷ batches) = ap (λ (l : List (List ℕ)). batch_body format session batch ∷ l) (bodies_again format session batches)

sizes_again : (format : Format) (session : ℕ) (batches : List (List Commit)) → SessionIs format session → AllByRecursion (λ (batch : List Commit). length batch ≤ 64) batches
    → AllByRecursion (BlockFits format) (map (Records session) batches)
sizes_again format session [] may all = tt
sizes_again format session (batch ∷ batches) may all = ((all.0, may), sizes_again format session batches may all.1)

entries_again : (session : ℕ) (batches : List (List Commit)) → map Recorded (flat_map (λ (batch : List Commit). batch) batches) ≡ flat_map entries_in (map (Records session) batches)
entries_again session [] = refl
entries_again session (batch ∷ batches) =
    map-append Recorded batch (flat_map (λ (b : List Commit). b) batches) ∙ ap (λ (l : List LogEntry). map Recorded batch ++ l) (entries_again session batches)

kept_again : (format : Format) (live : ℕ) (p : Program) (image : Image) (commits : List Commit) → AllByRecursion (IsKept format live (shape_in p) image) commits → AreKept format live image p (map Recorded commits)
kept_again format live p image [] all = tt
kept_again format live p image (c ∷ commits) all = (all.0, kept_again format live p image commits all.1)

-- the greatest session behind so many batches of one session
abbrev session_behind : ℕ → ℕ → List (List Commit) → ℕ
session_behind from session [] = from
session_behind from session (batch ∷ batches) = session_behind session session batches

batches_rise : (from session : ℕ) (batches : List (List Commit)) → from ≤ session → NeverFall from (map (Records session) batches) (session_behind from session batches)
batches_rise from session [] up = refl
batches_rise from session (batch ∷ batches) up = (up, batches_rise session session batches (omega arith))

-- ---- where a log begins

-- the program of the folder is in force there
pub base_program : (format : Format) (live : ℕ) (image : Image) (log : Log) (bodies : List (List ℕ)) (gate session : ℕ) → (s : StandsUpTo format live image log bodies gate session) → log.base.program ≡ s.program
base_program format live image log bodies gate session s = ap (λ (b : Standing). b.program) s.base ∙ program_begins s.program s.begins

-- ---- a log behind a new silo

-- A slot's manager file has these records from the beginning on, in batches of one session up to a closed gate, and each is kept whole.
pub record IsBatched (format : Format) (session live : ℕ) (shape : Shape) (image : Image) (commits : List Commit) : Type 0 where
  pub kind : slice_index (image (Manager live)) 13 ≡ 0
  pub zero : slice_index (image (Manager live)) 14 ≡ 0
  pub batches : List (List Commit)
  pub gate : ℕ
  pub blocks : LogsUpTo (map (batch_body format session) batches) gate (image (Manager live))
  pub may : SessionIs format session
  pub sizes : AllByRecursion (λ (batch : List Commit). length batch ≤ 64) batches
  pub are : commits ≡ flat_map (λ (batch : List Commit). batch) batches
  pub kept : AllByRecursion (IsKept format live shape image) commits

-- records that stand so behind a checked program are its log
pub logged_in : (format : Format) (session live : ℕ) (image : Image) (p : Program) (commits : List Commit) → IsSilo (IsFormat format) (image (Manager live)) → IsChecked p → HasProgram p.text (image (ProgramFile live))
    → IsBatched format session live (shape_in p) image commits → IsLogIn format live image (grown (new_log p) commits)
logged_in format session live image p commits silo checked text b = record {
  bodies = map (batch_body format session) b.batches;
  gate = b.gate;
  session = session_behind 0 session b.batches;
  stands = record {
    silo = silo;
    program = p;
    checked = checked;
    text = text;
    begins = Fresh;
    kind = b.kind;
    zero = b.zero;
    base = refl;
    whole = tt;
    blocks = map (Records session) b.batches;
    fit = sizes_again format session b.batches b.may b.sizes;
    never_fall = batches_rise 0 session b.batches (omega arith);
    spelled = bodies_again format session b.batches;
    stand = b.blocks.blocks;
    entries = ap (map Recorded) b.are ∙ entries_again session b.batches;
    kept = kept_again format live p image commits b.kept;
  };
  closed = b.blocks.closed;
}
