-- What is kept of a grain while a log is read: its last state in the store, the program under which that was written, and the programs
-- that came into force after it.
use Rattle.std.specs.Prelude.{◌≡◌, ℕ, ◌+◌, if◌then◌else◌, List, [], ◌∷◌, ◌++◌, map, fold, drop, slice_get, Option, Some, None}
use Rattle.base_types.specs.declared.calls.GrainId.{GrainId}
use Rattle.base_types.specs.declared.calls.Value.{Value}
use Rattle.script_holding.specs.Holding.{same_grain}
use Rattle.script_check.specs.Carrying.{carried_along}
use Rattle.promise_spec.specs.Programs.{Program}
use Rattle.promise_spec.specs.Records.{written}
use Rattle.promise_spec.specs.Entries.{Standing, initial_states, LogEntry, Recorded, Upgraded}

-- a state, the program of its time, and the programs after it
pub record KeptState : Type 0 where
  pub of_time : Program
  pub later : List Program
  pub state : List Value

-- a state that was written just now
abbrev pub just_written : Program → List Value → KeptState
just_written p state = record { of_time = p; later = []; state = state }

-- one program more has come into force since
abbrev pub with_later : Program → Option KeptState → Option KeptState
with_later p None = None
with_later p (Some k) = Some (record { of_time = k.of_time; later = k.later ++ p ∷ []; state = k.state })

-- after a write: that state is the last one, where it is this grain's
abbrev pub kept_write : Program → GrainId → Option KeptState → GrainId × List Value → Option KeptState
kept_write p grain kept w = if same_grain w.0 grain then Some (just_written p w.1) else kept

-- what is kept of a grain after these entries, from what was kept of it, and the program in force before them
abbrev pub kept_after : GrainId → Program → Option KeptState → List LogEntry → Option KeptState
kept_after grain p kept [] = kept
kept_after grain p kept (Recorded c ∷ later) = kept_after grain p (fold (kept_write p grain) kept (written c)) later
kept_after grain p kept (Upgraded q ∷ later) = kept_after grain q (with_later q kept) later

-- what is kept of a grain of a base
abbrev pub kept_of_base : Standing → GrainId → Option KeptState
kept_of_base before grain = if before.held grain then Some (just_written before.program (before.states grain)) else None

-- the state that is meant: it is carried to each later program in turn; where none is kept, the initial fields of the program in force
abbrev pub state_meant : Program → GrainId → Option KeptState → List Value
state_meant p grain None = initial_states p grain
state_meant p grain (Some k) = carried_along k.of_time.types (map (λ q. q.types) k.later) grain.kind k.state

-- ---- by numbers

-- a state, and the number of the program of its time, from 0, that of the base
pub record NumberedState : Type 0 where
  pub number : ℕ
  pub state : List Value

-- after a write under the program of a number
abbrev pub numbered_write : ℕ → GrainId → Option NumberedState → GrainId × List Value → Option NumberedState
numbered_write n grain kept w = if same_grain w.0 grain then Some (record { number = n; state = w.1 }) else kept

-- what is kept of a grain after these entries, from what was kept of it, and the number of the program in force before them
abbrev pub numbered_after : GrainId → ℕ → Option NumberedState → List LogEntry → Option NumberedState
numbered_after grain n kept [] = kept
numbered_after grain n kept (Recorded c ∷ later) = numbered_after grain n (fold (numbered_write n grain) kept (written c)) later
numbered_after grain n kept (Upgraded q ∷ later) = numbered_after grain (n + 1) kept later

-- what is kept of a grain of a base
abbrev pub numbered_of_base : Standing → GrainId → Option NumberedState
numbered_of_base before grain = if before.held grain then Some (record { number = 0; state = before.states grain }) else None

-- by its number a state is that of the program of its time, and those behind it in the list came into force after it
pub record IsOfNumber (programs : List Program) (n : NumberedState) (k : KeptState) : Type 0 where
  pub state : n.state ≡ k.state
  pub of_time : slice_get programs n.number ≡ Some k.of_time
  pub later : drop (n.number + 1) programs ≡ k.later

-- the same is kept, by numbers and by programs
abbrev pub MeansKept : List Program → Option NumberedState → Option KeptState → Type 0
MeansKept programs None None = Unit {0}
MeansKept programs (Some n) (Some k) = IsOfNumber programs n k
MeansKept programs _ _ = ⊥
