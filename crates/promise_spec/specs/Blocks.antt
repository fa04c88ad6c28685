-- What stands in the blocks of a log: the pieces of a checkpoint first, where it begins with one, and then the records and upgrades.
use Rattle.std.specs.Prelude.{ℕ, ◌^◌, ◌<◌, ◌≤◌, ◌≡◌, List, [], ◌∷◌, ◌++◌, length, map, fold, None, ⊤}
use Rattle.std.specs.List.{flat_map, AllByRecursion}
use Rattle.base_types.specs.declared.calls.GrainId.{GrainId}
use Rattle.base_types.specs.declared.calls.UnitNo.{UnitNo}
use Rattle.base_types.specs.declared.calls.Value.{Value}
use Rattle.host_trait.specs.World.{Image}
use Rattle.field_codec.specs.declared.formats.Format.{Format}
use Rattle.field_codec.specs.declared.formats.Format.TheVariants.{One, Two}
use Rattle.commit_log.specs.declared.records.Written.{Written}
use Rattle.commit_log.specs.declared.contents.Body.TheVariants as body
use Rattle.commit_log.specs.Sessions.{spelling_with_session}
use Rattle.commit_log.specs.Orders.{IsAscending}
use Rattle.commit_log.specs.Spelling.{WriteFits}
use Rattle.commit_log.specs.Checkpoints.{spelling_of_piece}
-- when a program may come into force after another
pub use Rattle.log_reading.specs.Entries.{MayFollow}
use Rattle.promise_spec.specs.Programs.{Program, shape_in}
use Rattle.promise_spec.specs.Records.{Commit, put_state}
use Rattle.promise_spec.specs.Entries.{LogEntry, Recorded, Upgraded, Standing, initial_states, is_among, new_silo}
use Rattle.promise_spec.specs.Versions.{WriteStands, IsKept}

-- ---- records and upgrades

-- a block: the session of the call that wrote it, and the records of a batch, or an upgrade to a program
pub data Block : Type 0 where
  Records : ℕ → List Commit → Block
  Upgrade : ℕ → Program → Block

-- its session
abbrev pub session_in : Block → ℕ
session_in (Records session batch) = session
session_in (Upgrade session p) = session

-- its entries
abbrev pub entries_in : Block → List LogEntry
entries_in (Records session batch) = map Recorded batch
entries_in (Upgrade session p) = Upgraded p ∷ []

-- the session of each of these
abbrev pub sessions_in : Block → List ℕ
sessions_in b = map (λ entry. session_in b) (entries_in b)

-- its body, which spells the session in format 2 alone
abbrev pub body_of : Format → Block → List ℕ
body_of format (Records session batch) = spelling_with_session format session (body.Records (map (λ c. c.logged) batch))
body_of format (Upgrade session p) = spelling_with_session format session (body.Upgrade p.text)

-- a session that a log may have: each block of format 1 counts as one of session 1
abbrev pub SessionIs : Format → ℕ → Type 0
SessionIs One session = session ≡ 1
SessionIs Two session = session < 2 ^ 63

-- a batch has at most 64 records, and the session is one that a log may have
abbrev pub BlockFits : Format → Block → Type 0
BlockFits format (Records session batch) = (length batch ≤ 64) × SessionIs format session
BlockFits format (Upgrade session p) = SessionIs format session

-- sessions never fall, from the one before these blocks to that of the last, which is the one before them where there are none
abbrev pub NeverFall : ℕ → List Block → ℕ → Type 0
NeverFall from [] to = from ≡ to
NeverFall from (b ∷ blocks) to = (from ≤ session_in b) × NeverFall (session_in b) blocks to

-- each entry is kept whole, under the program of its time; an upgrade is to a program that may follow the one in force
abbrev pub AreKept : Format → ℕ → Image → Program → List LogEntry → Type 0
AreKept format live image p [] = ⊤
AreKept format live image p (Recorded c ∷ later) = IsKept format live (shape_in p) image c × AreKept format live image p later
AreKept format live image p (Upgraded q ∷ later) = MayFollow p q × AreKept format live image q later

-- ---- checkpoints

-- a version that a checkpoint names: whose it is, the write, and the state at its place
pub record Saved : Type 0 where
  pub unit : UnitNo
  pub write : Written
  pub state : List Value

-- a checkpoint: a position, the next unit, the greatest session before it, and the versions that it names, in pieces of a block each
pub record Checkpoint : Type 0 where
  pub count : ℕ
  pub next : ℕ
  pub session : ℕ
  pub front : List (List Saved)
  pub last : List Saved

-- all versions that it names
abbrev pub saved_by : Checkpoint → List Saved
saved_by ck = flat_map (λ piece. piece) ck.front ++ ck.last

-- the body of a piece; the flag says whether another one follows
abbrev pub spelled_piece : Format → Checkpoint → ℕ → List Saved → List ℕ
spelled_piece format ck flag piece = spelling_of_piece format flag ck.count ck.next ck.session (map (λ s. s.write) piece)

-- the bodies of its pieces
abbrev pub pieces_of : Format → Checkpoint → List (List ℕ)
pieces_of format ck = map (spelled_piece format ck 1) ck.front ++ spelled_piece format ck 0 ck.last ∷ []

-- a version that is named stands whole, and is a unit's that may be logged
pub record IsSaved (format : Format) (live : ℕ) (p : Program) (image : Image) (s : Saved) : Type 0 where
  pub fits : WriteFits s.write
  pub unit : (0 < s.unit.0) × (s.unit.0 < 2 ^ 63)
  pub stands : WriteStands format live (shape_in p) image s.unit s.write s.state

-- The checkpoint is within the format's limits, its grains ascend over all pieces, and its versions stand.
pub record IsCheckpoint (format : Format) (live : ℕ) (p : Program) (image : Image) (ck : Checkpoint) : Type 0 where
  pub count : ck.count < 2 ^ 63
  pub next : (1 ≤ ck.next) × (ck.next ≤ 2 ^ 63)
  pub session : SessionIs format ck.session
  pub sizes : AllByRecursion (λ (piece : List Saved). length piece ≤ 65536) (ck.front ++ ck.last ∷ [])
  pub order : IsAscending None (map (λ s. s.write) (saved_by ck))
  pub each : AllByRecursion (IsSaved format live p image) (saved_by ck)

-- the grains that it names, each with its state
abbrev pub states_saved : Checkpoint → List (GrainId × List Value)
states_saved ck = map (λ s. (s.write.grain, s.state)) (saved_by ck)

-- what stands at a position where these grains have a state in the store, each this one
abbrev pub standing_with : Program → ℕ → ℕ → List (GrainId × List Value) → Standing
standing_with p count next states = record {
  count = count;
  next = next;
  program = p;
  held = is_among states;
  states = fold put_state (initial_states p) states;
}

-- what a checkpoint stands for
abbrev pub standing_saved : Program → Checkpoint → Standing
standing_saved p ck = standing_with p ck.count ck.next (states_saved ck)

-- a checkpoint of what stands: its position and next unit, and each grain that has a state, once or more, with that state
pub record IsSavedFrom (standing : Standing) (ck : Checkpoint) : Type 0 where
  pub count : ck.count ≡ standing.count
  pub next : ck.next ≡ standing.next
  pub held : (grain : GrainId) → is_among (states_saved ck) grain ≡ standing.held grain
  pub states : AllByRecursion (λ (w : GrainId × List Value). w.1 ≡ standing.states w.0) (states_saved ck)

-- ---- where a log begins

-- from a new silo, or from a checkpoint
pub data Beginning : Type 0 where
  Fresh : Beginning
  From : Checkpoint → Beginning

-- byte 13 of the header
abbrev pub begin_byte : Beginning → ℕ
begin_byte Fresh = 0
begin_byte (From ck) = 1

-- what stands there, under the program of the folder
abbrev pub base_of : Program → Beginning → Standing
base_of p Fresh = new_silo p
base_of p (From ck) = standing_saved p ck

-- the greatest session before the first block, 0 where there is none
abbrev pub session_before : Beginning → ℕ
session_before Fresh = 0
session_before (From ck) = ck.session

-- the bodies before those of the records
abbrev pub bodies_before : Format → Beginning → List (List ℕ)
bodies_before format Fresh = []
bodies_before format (From ck) = pieces_of format ck

-- a checkpoint stands whole
abbrev pub BeginsWhole : Format → ℕ → Program → Image → Beginning → Type 0
BeginsWhole format live p image Fresh = ⊤
BeginsWhole format live p image (From ck) = IsCheckpoint format live p image ck
