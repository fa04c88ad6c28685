-- What the settler does next, by the state of the core, the event that it makes, and what is shown to it.
use Rattle.std.specs.Prelude.{◌≡◌, ◌⊎◌, ℕ, nat_lt, Bool, true, false, ◌&&◌, not, if◌then◌else◌, List, [], ◌∷◌, map, filter, find, length, flat_map, Option, Some, None, is_some, slice_get}
use Rattle.std.specs.List.{list_any as any}
use Rattle.core_model.specs.CoreState.{UnitNo, GrainId, Value, Version, Effect, Entry, Batch, CoreState}
use Rattle.core_model.specs.WantedGrains.{next_wanted}
use Rattle.core_model.specs.Tests.{is_good, state_written, members, has_bad_source, is_vote_on}
use Rattle.core_model.specs.Effects.{effect_of}
use Rattle.core_model.specs.LearnQueue.{next_learn}
use Rattle.core_model.specs.Events.{CoreEvent, Take, Vote, Decide, Sealed, NotSealed, Doubt, Learn, Emitted, Load, applies}
use Rattle.core_model.specs.declared.questions.SettlerWork.{SettlerWork}
use Rattle.core_model.specs.declared.questions.SettlerWork.TheVariants as work

-- what the settler does next: it has a grain's versions of the batch written and votes, decides the batch, seals it,
-- has a grain learn a decision, writes an entry, brings a grain into memory, takes a batch, or has nothing to do
pub data Step : Type 0 where
  Votes : ℕ → GrainId → Step
  Decides : ℕ → Step
  Seals : ℕ → Step
  Learns : UnitNo → GrainId → Step
  Writes : Step
  Loads : GrainId → Step
  Takes : Step
  Rests : Step

-- the first grain of the plan without a vote
abbrev pub first_unvoted : Batch → Option GrainId
first_unvoted b = find (λ g. not (any (is_vote_on g) b.votes)) b.plan

-- a batch, where one can be taken
abbrev pub take_step : CoreState → Step
take_step w = if applies w Take then Takes else Rests

-- a wanted grain that isn't in memory comes before
abbrev pub load_step : CoreState → Option GrainId → Step
load_step w None = take_step w
load_step w (Some g) = Loads g

-- what is to write comes before what is to load and to take, where that may be and no stop stands
abbrev pub last_step : CoreState → Bool → Step
last_step w may =
    if nat_lt w.manager.emitted (length w.manager.settled) then Writes else (if may && not w.units.halt then load_step w (next_wanted w) else Rests)

-- what is to learn comes before
abbrev pub learn_step : CoreState → Option (UnitNo × GrainId) → Step
learn_step w None = last_step w true
learn_step w (Some x) = Learns x.0 x.1

-- behind the open batch come what is to learn, what is to write, what is to load, and what is to take; after a doubt
-- entries alone are written
abbrev pub later_step : CoreState → Step
later_step w = if is_some w.manager.doubt then last_step w false else learn_step w (next_learn w)

-- an open batch: its votes, then its decision
abbrev pub undecided_step : ℕ → Option GrainId → Step
undecided_step number None = Decides number
undecided_step number (Some g) = Votes number g

-- an open batch comes first: its work, then its seal
abbrev pub batch_step : CoreState → Option Batch → Step
batch_step w None = later_step w
batch_step w (Some b) = if is_some b.decisions then Seals b.number else undecided_step b.number (first_unvoted b)

-- the first of the settler's cases that applies
abbrev pub settler_step : CoreState → Step
settler_step w = batch_step w w.manager.batch

-- the event brings that grain into memory
abbrev pub IsLoadOf : GrainId → CoreEvent → Type 0
IsLoadOf g e = (u : UnitNo) × (state : List Value) × (e ≡ Load g u state)

-- the step makes this event; the vote, the answer of the seal and what is loaded are the host's
abbrev pub MakesEvent : Step → CoreEvent → Type 0
MakesEvent (Votes number g) e = (kept : Bool) × (e ≡ Vote number g kept)
MakesEvent (Decides number) e = e ≡ Decide number
MakesEvent (Seals number) e = (e ≡ Sealed number) ⊎ ((e ≡ NotSealed number) ⊎ (e ≡ Doubt number))
MakesEvent (Learns u g) e = e ≡ Learn u g
MakesEvent Writes e = e ≡ Emitted
MakesEvent (Loads g) e = IsLoadOf g e
MakesEvent Takes e = e ≡ Take
MakesEvent Rests e = ⊥

-- the settler has something to do
abbrev pub has_step : Step → Bool
has_step (Votes number g) = true
has_step (Decides number) = true
has_step (Seals number) = true
has_step (Learns u g) = true
has_step Writes = true
has_step (Loads g) = true
has_step Takes = true
has_step Rests = false

-- the unit's version, where it wrote the grain
abbrev pub version_written : UnitNo → Option (List Value) → List Version
version_written u None = []
version_written u (Some state) = record { unit = u; state = state } ∷ []

-- the grain's version that goes to its file, none where the unit read from one that is aborted, or to abort
abbrev pub version_to_write : CoreState → GrainId → UnitNo → List Version
version_to_write w g u = if has_bad_source w u then [] else version_written u (state_written g (w.manager.writes u))

-- the grain's versions of the open batch, in batch order
abbrev pub versions_to_write : CoreState → Option Batch → GrainId → List Version
versions_to_write w None g = []
versions_to_write w (Some b) g = flat_map (version_to_write w g) (members w b)

-- what the units of the open batch that are to commit did, in batch order
abbrev pub to_commit : CoreState → Option Batch → List Effect
to_commit w None = []
to_commit w (Some b) = map (effect_of w) (filter (λ u. is_good (w.manager.verdict u)) (members w b))

-- an entry is to be written, where there is one
abbrev pub write_work : Option Entry → SettlerWork
write_work None = work.Nothing
write_work (Some entry) = work.Write entry

-- what is shown to the settler for its step
abbrev pub work_in : CoreState → Step → SettlerWork
work_in w (Votes number g) = work.Vote number g (versions_to_write w w.manager.batch g)
work_in w (Decides number) = work.Decide number
work_in w (Seals number) = work.Seal number (to_commit w w.manager.batch)
work_in w (Learns u g) = work.Learn u g
work_in w Writes = write_work (slice_get w.manager.settled w.manager.emitted)
work_in w (Loads g) = work.Load g
work_in w Takes = work.Take
work_in w Rests = work.Nothing

-- the step that is shown
abbrev pub step_of : SettlerWork → Step
step_of (work.Vote number g versions) = Votes number g
step_of (work.Decide number) = Decides number
step_of (work.Seal number effects) = Seals number
step_of (work.Learn u g) = Learns u g
step_of (work.Write entry) = Writes
step_of (work.Load g) = Loads g
step_of work.Take = Takes
step_of work.Nothing = Rests
