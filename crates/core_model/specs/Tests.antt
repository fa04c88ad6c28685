-- What the state tells of units and grains.
use Rattle.std.specs.Prelude.{ℕ, ◌+◌, List, [], ◌∷◌, Bool, true, false, ◌&&◌, not, Option, Some, None, if◌then◌else◌, take, drop, nat_lt, is_some, map, filter, flat_map}
pub use Rattle.std.specs.List.{list_any as any, list_all as all}
use Rattle.base_types.specs.declared.calls.Outcome.TheVariants as outcome
pub use Rattle.base_types.specs.Grains.{is_before}
use Rattle.cell_model.specs.Units.{oldest}
use Rattle.cell_model.specs.Locks.{is_update, is_hold_of, holds_lock}
use Rattle.cell_model.specs.declared.locks.Ask.{Ask}
use Rattle.cell_model.specs.declared.locks.Ask.TheVariants.{Free, Held, MustWait, MustDie}
use Rattle.cell_model.specs.Locks as locks
use Rattle.core_model.specs.declared.questions.AskAnswer.{AskAnswer}
use Rattle.core_model.specs.declared.questions.AskAnswer.TheVariants as answer
use Rattle.core_model.specs.Equality.{same_outcome}
use Rattle.core_model.specs.CoreState.{UnitNo, GrainId, same_unit, same_grain, top, Mode, Value, Outcome, Read, Write, Prepared, Phase, Unborn, Running, Finished, Refused, Ended, Verdict, Chosen, Condemned, Committed, Aborted, Batch, CoreState, Open}

-- between its begin and its end
abbrev pub is_running : Phase → Bool
is_running Running = true
is_running Unborn = false
is_running Finished = false
is_running Refused = false
is_running Ended = false

-- the unit has ended, in one way or another
abbrev pub is_over : Phase → Bool
is_over Unborn = false
is_over Running = false
is_over Finished = true
is_over Refused = true
is_over Ended = true

-- aborted, or to abort
abbrev pub is_bad : Verdict → Bool
is_bad Condemned = true
is_bad Aborted = true
is_bad Open = false
is_bad Chosen = false
is_bad Committed = false

-- committed, or to commit
abbrev pub is_good : Verdict → Bool
is_good Chosen = true
is_good Committed = true
is_good Open = false
is_good Condemned = false
is_good Aborted = false

-- decided for good
abbrev pub is_final : Verdict → Bool
is_final Committed = true
is_final Aborted = true
is_final Open = false
is_final Chosen = false
is_final Condemned = false

-- decided to commit, for good
abbrev pub is_committed : Verdict → Bool
is_committed Committed = true
is_committed Open = false
is_committed Chosen = false
is_committed Condemned = false
is_committed Aborted = false

-- decided to abort, for good
abbrev pub is_aborted : Verdict → Bool
is_aborted Aborted = true
is_aborted Open = false
is_aborted Chosen = false
is_aborted Condemned = false
is_aborted Committed = false

-- the state that these writes leave in the grain
abbrev pub state_written : GrainId → List Write → Option (List Value)
state_written g [] = None
state_written g (x ∷ xs) = if same_grain x.0 g then Some x.1 else state_written g xs

-- the first of a grain and one that may be missing
abbrev pub first_of_two : GrainId → Option GrainId → Option GrainId
first_of_two g None = Some g
first_of_two g (Some k) = Some (if is_before k g then k else g)

-- the first of these grains, none where there is none
abbrev pub first_grain : List GrainId → Option GrainId
first_grain [] = None
first_grain (g ∷ gs) = first_of_two g (first_grain gs)

-- a unit's outcome, once it is decided for good
abbrev pub outcome_in : Phase → Verdict → Outcome → Option Outcome
outcome_in Refused verdict result = Some outcome.Aborted
outcome_in Ended verdict result = Some result
outcome_in Unborn verdict result = None
outcome_in Running verdict result = None
outcome_in Finished Committed result = Some result
outcome_in Finished Aborted result = Some outcome.Aborted
outcome_in Finished Open result = None
outcome_in Finished Chosen result = None
outcome_in Finished Condemned result = None

-- the outcome of a unit in a state
abbrev pub outcome_of : CoreState → UnitNo → Option Outcome
outcome_of w u = outcome_in (w.units.phase u) (w.manager.verdict u) (w.manager.result u)

-- the unit is decided
abbrev pub is_decided : CoreState → UnitNo → Bool
is_decided w u = is_some (outcome_of w u)

-- the outcome is known, and is that one
abbrev pub is_answer : Option Outcome → Outcome → Bool
is_answer None a = false
is_answer (Some o) a = same_outcome o a

-- these units are decided, with these outcomes
abbrev pub answered_by : CoreState → List UnitNo → List Outcome → Bool
answered_by w [] [] = true
answered_by w (k ∷ ks) (a ∷ rest) = is_answer (outcome_of w k) a && answered_by w ks rest
answered_by w [] (a ∷ rest) = false
answered_by w (k ∷ ks) [] = false

-- the version that was read is no longer on top of its grain
abbrev pub is_gone : CoreState → Read → Bool
is_gone w r = not (same_unit (top (w.cells.stack r.grain)).unit r.source)

-- the oldest source whose version, read by the unit, was taken off
abbrev pub doomed_by : CoreState → UnitNo → Option UnitNo
doomed_by w u = oldest (map (λ r. r.source) (filter (is_gone w) (w.units.reads u)))

-- the unit runs, and the grain's type is known
abbrev pub is_active : CoreState → UnitNo → GrainId → Bool
is_active w u g = is_running (w.units.phase u) && nat_lt g.kind w.units.kinds

-- what the lock table says, where the grain is in memory
abbrev pub ask_lock : Bool → Ask → AskAnswer
ask_lock here Held = answer.Held
ask_lock here (MustDie holder) = answer.MustDie holder
ask_lock here (MustWait holder) = answer.MustWait holder
ask_lock here Free = if here then answer.Free else answer.Absent

-- a unit that read what is gone is doomed, whatever else stands
abbrev pub ask_doom : Option UnitNo → AskAnswer → AskAnswer
ask_doom None next = next
ask_doom (Some source) next = answer.Doomed source

-- what the core answers to a unit that asks for a lock
abbrev pub ask_answer : CoreState → UnitNo → GrainId → Mode → AskAnswer
ask_answer w u g mode =
    if is_active w u g
    then ask_doom (doomed_by w u) (ask_lock (w.cells.here g) (locks.ask (w.cells.holds g) u mode))
    else answer.NotActive

-- the unit holds none of the grains that it read
abbrev pub is_free : CoreState → UnitNo → Bool
is_free w u = all (λ r. not (holds_lock u (w.cells.holds r.grain))) (w.units.reads u)

-- how many units from the first on hold no lock
abbrev pub free_prefix : CoreState → List UnitNo → ℕ
free_prefix w [] = 0
free_prefix w (u ∷ us) = if is_free w u then free_prefix w us + 1 else 0

-- the finished units that no batch was taken of
abbrev pub waiting : CoreState → List UnitNo
waiting w = drop w.manager.closed w.manager.order

-- the units of a batch
abbrev pub members : CoreState → Batch → List UnitNo
members w b = take b.size (waiting w)

-- one of the unit's sources is aborted, or to abort
abbrev pub has_bad_source : CoreState → UnitNo → Bool
has_bad_source w u = any (λ d. is_bad (w.manager.verdict d)) (w.units.deps u)

-- the grains with one more, in its place
abbrev pub with_grain : List GrainId → GrainId → List GrainId
with_grain [] g = g ∷ []
with_grain (x ∷ xs) g =
    if same_grain x g then x ∷ xs else if is_before g x then g ∷ x ∷ xs else x ∷ with_grain xs g

-- these grains in order, each once
abbrev pub grains_of : List GrainId → List GrainId
grains_of [] = []
grains_of (g ∷ gs) = with_grain (grains_of gs) g

-- the grains that the unit wrote, none where it read from a unit that is aborted, or to abort
abbrev pub grains_to_write : CoreState → UnitNo → List GrainId
grains_to_write w u = if has_bad_source w u then [] else map (λ (x : Write). x.0) (w.manager.writes u)

-- the grains whose files are the work of a batch of these units
abbrev pub planned : CoreState → List UnitNo → List GrainId
planned w us = grains_of (flat_map (grains_to_write w) us)

-- the grain's file is part of the batch's work
abbrev pub is_planned : Batch → GrainId → Bool
is_planned b g = any (same_grain g) b.plan

-- the vote is on that grain
abbrev pub is_vote_on : GrainId → GrainId × Bool → Bool
is_vote_on g v = same_grain v.0 g

-- every planned grain has its vote
abbrev pub is_voted : Batch → Bool
is_voted b = all (λ g. any (is_vote_on g) b.votes) b.plan

-- the file of the grain failed
abbrev pub has_failed : List (GrainId × Bool) → GrainId → Bool
has_failed votes g = any (λ v. is_vote_on g v && not v.1) votes

-- the first grain that these writes name whose file failed
abbrev pub failed_in : List (GrainId × Bool) → List Write → Option GrainId
failed_in votes writes = first_grain (filter (has_failed votes) (map (λ x. x.0) writes))

-- a unit, as it is decided
abbrev pub prepared : CoreState → Batch → UnitNo → Prepared
prepared w b u = record { unit = u; failed = failed_in b.votes (w.manager.writes u); deps = w.units.deps u }

-- somebody waits for the grain to be loaded
abbrev pub is_wanted : List (UnitNo × GrainId) → GrainId → Bool
is_wanted wants g = any (λ t. same_grain t.1 g) wants

-- the list has no element
abbrev pub is_empty : {A : Type 0} → List A → Bool
is_empty [] = true
is_empty (x ∷ xs) = false

-- the list has one element
abbrev pub is_single : {A : Type 0} → List A → Bool
is_single [] = false
is_single (x ∷ []) = true
is_single (x ∷ y ∷ ys) = false

-- nobody holds or wants the grain, and its stack has one version
abbrev pub is_idle : CoreState → GrainId → Bool
is_idle w g = is_empty (w.cells.holds g) && (is_single (w.cells.stack g) && not (is_wanted w.units.wants g))

-- the grain is among those used last
abbrev pub is_recent : CoreState → GrainId → Bool
is_recent w g = any (same_grain g) w.cells.recent
