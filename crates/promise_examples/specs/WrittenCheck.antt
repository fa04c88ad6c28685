-- A call of `check`, written out with its one host call: without a start, over an empty folder.
use Rattle.std.specs.Prelude.{ℕ, false, List, [], ◌∷◌, codes}
use Rattle.host_trait.specs.World.{World}
use Rattle.promise_spec.specs.Words.{plain_manner}
use Rattle.promise_spec.specs.Endings.{Done}
use Rattle.promise_spec.specs.Courses.{Observed}
use Rattle.promise_examples.specs.HostCalls.{HostStep, Emit}
use Rattle.promise_examples.specs.WrittenRun.{moment}
use Rattle.promise_examples.specs.WrittenInit.{empty_disk, init_before}

-- the words
abbrev pub check_words : List (List ℕ)
check_words = codes "check" ∷ codes "0" ∷ codes "1" ∷ []

-- the line: 64 accounts of 1000, and nothing else
abbrev pub check_line : List ℕ
check_line = codes "{\"aborted\":0,\"committed\":0,\"requests\":0,\"total\":64000,\"undecided\":0}\n"

-- what the host holds after: the line was put out, and the input is unread
abbrev pub check_after : World
check_after = record init_before { output = check_line; past = moment check_line empty_disk ∷ [] }

-- the call: it's done, and no host call fails
abbrev pub check_call : Observed
check_call = record {
  manner = plain_manner;
  asked = [];
  windowed = false;
  old = init_before;
  new = check_after;
  faults_before = λ channel. 0;
  faults_after = λ channel. 0;
  ending = Done;
}

-- the one call
abbrev pub check_steps : List HostStep
check_steps = record { call = Emit check_line; after = record { world = check_after; faults = λ channel. 0 } } ∷ []
