-- What playing a log's entries over a store gives.
use Rattle.std.specs.Prelude.{◌≡◌, ◌≢◌, ℕ, ◌++◌, ◌∷◌, Bool, true, false, ◌==◌, ◌&&◌, not, List, length, map, slice_get, Option, Some, None, is_some}
use Rattle.base_types.specs.declared.calls.GrainId.{GrainId}
use Rattle.base_types.specs.declared.calls.Value.{Value}
use Rattle.base_types.specs.declared.calls.Outcome.{Outcome}
use Rattle.base_types.specs.declared.shapes.Shape.{Shape}
use Rattle.base_types.specs.declared.stores.Store.{Store}
use Rattle.base_types.specs.Stores.{state_in}
use Rattle.base_types.specs.Grains.{same_grain}
use Rattle.host_trait.specs.World.{Image}
use Rattle.field_codec.specs.declared.formats.Format.TheVariants.{Two}
use Rattle.commit_log.specs.declared.records.CommitRecord.{CommitRecord}
use Rattle.commit_log.specs.declared.records.Written.{Written}
use Rattle.core_model.specs.Equality.{same_list, same_state, same_outcome}
use Rattle.script_tree.specs.Programs.{ProgramTree}
use Rattle.script_meaning.specs.Play.{Played, found_in, initial_of}
use Rattle.log_reading.specs.Versions.{version_named, state_of}
use Rattle.promise_spec.specs.Records.{Commit, States, written}
use Rattle.promise_spec.specs.Entries.{LogEntry, Recorded, Standing, after_entry, after_entries}
use Rattle.promise_spec.specs.SerialExecution.{IsSerialFrom, Replays, played}
use Rattle.promise_spec.specs.Openings.{commit_of}
use Rattle.log_audit.specs.declared.replay.Bad.{Bad}

-- one grain with one state
abbrev pub same_write : GrainId × List Value → GrainId × List Value → Bool
same_write a b = same_grain a.0 b.0 && same_state a.1 b.1

-- the tests that a record passes which replays: its call writes the same, gives its result, and asks for as many units as it has
-- answers
abbrev pub agree : Bool → Outcome → Outcome → ℕ → ℕ → Bool
agree same gives kept asked answers = same && (same_outcome gives kept && (asked == answers))

-- a record passes them whose call gives this, and which wrote these states
abbrev pub passes : CommitRecord → Played → List (GrainId × List Value) → Bool
passes r given kept = agree (same_list same_write given.writes kept) given.result r.result (length given.asked) (length r.answers)

-- it does, or this tells how it doesn't
abbrev pub IsJudged : CommitRecord → Played → List (GrainId × List Value) → Option Bad → Type 0
IsJudged r given kept None = passes r given kept ≡ true
IsJudged r given kept (Some bad) = (passes r given kept ≡ false)
    × (bad ≡ record { unit = r.unit; kept = r.result; played = given.result; states_differ = not (same_list same_write given.writes kept) })

-- the initial fields of each grain
abbrev pub first_states : ProgramTree → States
first_states types grain = initial_of (slice_get types grain.kind)

-- the states that stand at the places of these writes, whichever units' they are
abbrev pub states_saved_at : ℕ → Shape → Image → List Written → List (GrainId × List Value)
states_saved_at live shape image ws = map (λ w. (w.grain, state_of (version_named live Two shape image (record { unit = None; program = 0; written = w })))) ws

-- the entries of records, with the states that stand at their places
abbrev pub entries_of_records : ℕ → Shape → Image → List CommitRecord → List LogEntry
entries_of_records live shape image records = map Recorded (map (commit_of Two live shape image) records)

-- The store has what stands: a state of exactly the grains that have one, and each grain's state, under the program in force.
pub record IsStoreOf (store : Store) (now : Standing) : Type 0 where
  pub held : (grain : GrainId) → is_some (state_in store grain) ≡ now.held grain
  pub states : found_in now.program.types store ≡ now.states

-- The record doesn't replay over these states: its unit and result are told, the result that its call gives, and whether
-- its call writes other grains or states.
pub record FailsToReplay (types : ProgramTree) (states : States) (c : Commit) (bad : Bad) : Type 0 where
  pub unit : c.logged.unit ≡ bad.unit
  pub kept : bad.kept ≡ c.logged.result
  pub gives : bad.played ≡ (played types states c.logged).result
  pub same : bad.states_differ ≡ false → (played types states c.logged).writes ≡ written c
  pub other : bad.states_differ ≡ true → (played types states c.logged).writes ≢ written c
  pub fails : Replays types states c → ⊥

-- a record was played over what stood: it replays, and the store has what stands after it; or it doesn't
abbrev pub ReplaysTo : Standing → Commit → Store → Option Bad → Type 0
ReplaysTo before c after None = Replays before.program.types before.states c × IsStoreOf after (after_entry before (Recorded c))
ReplaysTo before c after (Some bad) = FailsToReplay before.program.types before.states c bad

-- of these entries, over what stood, this is the first record that doesn't replay, by the program and the states of its time
pub record FailsFirst (before : Standing) (entries : List LogEntry) (bad : Bad) : Type 0 where
  pub front : List LogEntry
  pub here : Commit
  pub back : List LogEntry
  pub are : entries ≡ front ++ (Recorded here ∷ back)
  pub serial : IsSerialFrom before front
  pub fails : FailsToReplay (after_entries before front).program.types (after_entries before front).states here bad

-- the entries were played over what stood: all records replay, and the store has what stands after them; or this is the first that doesn't
abbrev pub AllReplayTo : Standing → List LogEntry → Store → Option Bad → Type 0
AllReplayTo before entries after None = IsSerialFrom before entries × IsStoreOf after (after_entries before entries)
AllReplayTo before entries after (Some bad) = FailsFirst before entries bad

-- the first record of these entries that doesn't replay over what stood, and none where all do
abbrev pub IsFirstFailure : Standing → List LogEntry → Option Bad → Type 0
IsFirstFailure before entries None = IsSerialFrom before entries
IsFirstFailure before entries (Some bad) = FailsFirst before entries bad
