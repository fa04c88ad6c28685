-- The run of one deposit more over the folder that the first left, written out with its host calls: the account's file can't be read,
-- so the grain isn't brought into memory, and the run ends.
use Rattle.std.specs.Prelude.{ℕ, true, false, List, [], ◌∷◌, ◌++◌}
use Rattle.base_types.specs.declared.calls.Origin.TheVariants.{Line}
use Rattle.host_trait.specs.declared.channels.Channel.{Channel}
use Rattle.host_trait.specs.declared.channels.FileId.TheVariants.{Grain}
use Rattle.host_trait.specs.World.{World}
use Rattle.core_model.specs.declared.events.CoreEvent.{CoreEvent}
use Rattle.core_model.specs.declared.events.CoreEvent.TheVariants as event
use Rattle.silo_spec.specs.Silos.{manager}
use Rattle.promise_spec.specs.Words.{plain_manner}
use Rattle.promise_spec.specs.Endings.{DiskFault}
use Rattle.promise_spec.specs.Courses.{Observed, Course}
use Rattle.promise_examples.specs.Examples.{account_log, account_1, unit_no, deposit_call, first_commit}
use Rattle.promise_examples.specs.HostCalls.{HostState, HostStep, Pull, FailedRead, Sync}
use Rattle.promise_examples.specs.StillRuns.{still_course}
use Rattle.promise_examples.specs.WrittenRun.{sealed_disk, request_line, moment}
use Rattle.promise_examples.specs.WrittenVote.{grain_fault}

-- the line begins as the next unit, which wants its grain: no version is brought
abbrev pub wanting_events : List CoreEvent
wanting_events = event.Begin (Line 1) deposit_call false ∷ event.Want (unit_no 2) account_1 ∷ []

-- what the host holds before
abbrev pub unbrought_before : World
unbrought_before = record { input = request_line ++ 10 ∷ []; output = []; disk = sealed_disk; syncs = 0; past = [] }

-- and after: the input is read, and one sync was asked for, the opening's
abbrev pub unbrought_after : World
unbrought_after = record { input = []; output = []; disk = sealed_disk; syncs = 1; past = moment [] sealed_disk ∷ [] }

-- the run: it answers no line, and ends with the fault of the account's file
abbrev pub unbrought : Observed
unbrought = record {
  manner = plain_manner;
  asked = request_line ∷ [];
  windowed = true;
  old = unbrought_before;
  new = unbrought_after;
  faults_before = λ channel. 0;
  faults_after = grain_fault;
  ending = DiskFault (Grain 0 account_1);
}

-- its course
abbrev pub unbrought_course : Course
unbrought_course = still_course unbrought (account_log (first_commit ∷ [])) 1 wanting_events

-- ---- the host's calls

-- what is held behind the opening's sync, with this input left and these counts
abbrev pub unbrought_at : List ℕ → (Channel → ℕ) → HostState
unbrought_at input faults = record {
  world = record { input = input; output = []; disk = sealed_disk; syncs = 1; past = moment [] sealed_disk ∷ [] };
  faults = faults;
}

-- The opening's sync; the input, of 40 bytes, and its end; and the read of the account's file, which fails.
abbrev pub unbrought_steps : List HostStep
unbrought_steps =
    record { call = Sync manager; after = unbrought_at unbrought_before.input (λ channel. 0) }
    ∷ record { call = Pull 40 unbrought_before.input; after = unbrought_at [] (λ channel. 0) }
    ∷ record { call = Pull 0 unbrought_before.input; after = unbrought_at [] (λ channel. 0) }
    ∷ record { call = FailedRead (Grain 0 account_1); after = unbrought_at [] grain_fault } ∷ []
