-- Serial execution: the logged units, played whole, one after another.
use Rattle.std.specs.Prelude.{◌≡◌, List, [], ◌∷◌, length, ⊤}
use Rattle.base_types.specs.Origins.{depth_of}
use Rattle.commit_log.specs.declared.records.CommitRecord.{CommitRecord}
use Rattle.script_tree.specs.Programs.{ProgramTree}
use Rattle.script_meaning.specs.Play.{Played, play_over}
use Rattle.promise_spec.specs.Records.{Commit, States, written, after_writes}
use Rattle.promise_spec.specs.Entries.{LogEntry, Recorded, Upgraded, Standing, after_entry}

-- what the one-thread store gives for a logged unit's call and answers
abbrev pub played : ProgramTree → States → CommitRecord → Played
played types states r = play_over types r.call (depth_of r.origin) states r.answers

-- over these states the one-thread store gives what the log says: the result, as many children as there are answers,
-- and exactly the written grains with their states
pub record Replays (types : ProgramTree) (states : States) (c : Commit) : Type 0 where
  pub result : (played types states c.logged).result ≡ c.logged.result
  pub asked : length (played types states c.logged).asked ≡ length c.logged.answers
  pub writes : (played types states c.logged).writes ≡ written c

-- each unit replays over the states that those before it left
abbrev pub IsSerial : ProgramTree → States → List Commit → Type 0
IsSerial types states [] = ⊤
IsSerial types states (c ∷ later) = Replays types states c × IsSerial types (after_writes states c) later

-- each record is what the one-thread store gives under the program of its time, over the states that those before it left
abbrev pub IsSerialFrom : Standing → List LogEntry → Type 0
IsSerialFrom before [] = ⊤
IsSerialFrom before (Recorded c ∷ later) = Replays before.program.types before.states c × IsSerialFrom (after_entry before (Recorded c)) later
IsSerialFrom before (Upgraded p ∷ later) = IsSerialFrom (after_entry before (Upgraded p)) later
