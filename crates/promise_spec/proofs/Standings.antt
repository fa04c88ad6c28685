-- What a log stands for, part by part, and what it stands for once it has grown.
use Rattle.std.proofs.Common.{◌≡◌, ◌↔◌, ℕ, ◌+◌, max, List, [], ◌∷◌, ◌++◌, length, map, fold, refl, sym, ap, ◌∙◌, arith, append_assoc, append-nil}
use Rattle.std.proofs.lemmas.List.{map-append}
use Rattle.promise_spec.specs.Records.{Commit, after_writes}
use Rattle.promise_spec.specs.Entries.{LogEntry, Recorded, Upgraded, records_among, Standing, after_entry, after_entries, Log, records_of, standing_of, grown}
use Rattle.promise_spec.specs.SerialExecution.{IsSerial, IsSerialFrom}

-- how many entries there are
pub counted : (before : Standing) (entries : List LogEntry) → (after_entries before entries).count ≡ before.count + length entries
counted before [] = omega arith
counted before (Recorded c ∷ entries) = (let more : (after_entries before (Recorded c ∷ entries)).count ≡ (before.count + 1) + length entries = counted (after_entry before (Recorded c)) entries in omega (arith, more))
counted before (Upgraded p ∷ entries) = (let more : (after_entries before (Upgraded p ∷ entries)).count ≡ (before.count + 1) + length entries = counted (after_entry before (Upgraded p)) entries in omega (arith, more))

-- the number of the next unit
pub numbered : (before : Standing) (entries : List LogEntry) → (after_entries before entries).next ≡ fold (λ (next : ℕ) (c : Commit). max next (c.logged.unit.0 + 1)) before.next (records_among entries)
numbered before [] = refl
numbered before (Recorded c ∷ entries) = numbered (after_entry before (Recorded c)) entries
numbered before (Upgraded p ∷ entries) = numbered (after_entry before (Upgraded p)) entries

-- the records that are entries
pub records_back : (commits : List Commit) → records_among (map Recorded commits) ≡ commits
records_back [] = refl
records_back (c ∷ commits) = ap (λ (l : List Commit). c ∷ l) (records_back commits)

-- behind records alone: the program stays in force, and the states are those after their writes
pub program_stays : (before : Standing) (more : List Commit) → (after_entries before (map Recorded more)).program ≡ before.program
program_stays before [] = refl
program_stays before (c ∷ more) = program_stays (after_entry before (Recorded c)) more

pub states_are : (before : Standing) (more : List Commit) → (after_entries before (map Recorded more)).states ≡ fold after_writes before.states more
states_are before [] = refl
states_are before (c ∷ more) = states_are (after_entry before (Recorded c)) more

-- first some, and then the others
pub in_parts : (before : Standing) (entries more : List LogEntry) → after_entries before (entries ++ more) ≡ after_entries (after_entries before entries) more
in_parts before [] more = refl
in_parts before (e ∷ entries) more = in_parts (after_entry before e) entries more

-- ---- logs that have grown

pub grown_none : (log : Log) → grown log [] ≡ log
grown_none log = (let same : log.entries ++ [] ≡ log.entries = append-nil log.entries in λ i. record { base = log.base; entries = same i })

pub grown_twice : (log : Log) (more later : List Commit) → grown (grown log more) later ≡ grown log (more ++ later)
grown_twice log more later =
    let same : (log.entries ++ map Recorded more) ++ map Recorded later ≡ log.entries ++ map Recorded (more ++ later) =
    append_assoc log.entries (map Recorded more) (map Recorded later) ∙ ap (λ (l : List LogEntry). log.entries ++ l) (sym (map-append Recorded more later)) in
    λ i. record { base = log.base; entries = same i }

pub grown_stands : (log : Log) (more : List Commit) → standing_of (grown log more) ≡ after_entries (standing_of log) (map Recorded more)
grown_stands log more = in_parts log.base log.entries (map Recorded more)

-- records are serial behind a standing where they are serial from its states
pub serial_from : (before : Standing) (more : List Commit) → IsSerialFrom before (map Recorded more) ↔ IsSerial before.program.types before.states more
serial_from before [] = (λ all. tt, λ all. tt)
serial_from before (c ∷ more) =
    let rest = serial_from (after_entry before (Recorded c)) more in
    (λ all. (all.0, rest.0 all.1), λ all. (all.0, rest.1 all.1))

-- its records
pub records_append : (entries more : List LogEntry) → records_among (entries ++ more) ≡ records_among entries ++ records_among more
records_append [] more = refl
records_append (Recorded c ∷ entries) more = ap (λ (l : List Commit). c ∷ l) (records_append entries more)
records_append (Upgraded p ∷ entries) more = records_append entries more

pub grown_records : (log : Log) (more : List Commit) → records_of (grown log more) ≡ records_of log ++ more
grown_records log more = records_append log.entries (map Recorded more) ∙ ap (λ (l : List Commit). records_of log ++ l) (records_back more)
