-- The units that a run carries, what is known of them, and who of them moves.
use Rattle.std.specs.Prelude.{◌≡◌, ◌<◌, ◌≤◌, ℕ, ⊤, Bool, List, [], ◌∷◌, ◌++◌, length, map, filter, slice_get, get_or, take, true, false, Some, None}
use Rattle.std.specs.List.{AllByRecursion}
use Rattle.base_types.specs.declared.calls.Call.{Call}
use Rattle.base_types.specs.declared.calls.Origin.{Origin}
use Rattle.cell_model.specs.Units.{UnitsAscend}
use Rattle.core_model.specs.CoreState.{UnitNo, Member, nobody}
use Rattle.core_model.specs.LegalRuns.{Run, ends}
use Rattle.core_model.specs.declared.events.CoreEvent.{CoreEvent}
use Rattle.core_access.specs.OneHolder.{none_comes}
use Rattle.core_access.specs.Sights.{Sight, Counts, IsAlone, run_seen}
use Rattle.script_tree.specs.Programs.{ProgramTree}
use Rattle.promise_spec.specs.UnitAnswers.{got_in}
use Rattle.core_model.specs.LockAnswers.{IsGoing}
use Rattle.core_model.specs.WantedGrains.{next_wanted}
use Rattle.promise_spec.specs.TurnRule.{can_move, lock_asked, waits_for_load}
use Rattle.txn_agent.specs.declared.agent.Advanced.{Advanced}
use Rattle.txn_agent.specs.declared.agent.Advanced.TheVariants as advanced
use Rattle.txn_agent.specs.declared.agent.Agent.{Agent}
use Rattle.txn_agent.specs.declared.work.Carried.{Carried}
use Rattle.txn_agent.specs.CoreLink.{IfOwn, IsNew, Knows}
use Rattle.txn_agent.specs.AgentStep.{AnswerSays, has_freed_all}
use Rattle.txn_agent.specs.Wishes.{GoesByWish}
use Rattle.unit_carrier.specs.declared.agents.Found.{Found}
use Rattle.unit_carrier.specs.declared.agents.Found.TheVariants.{At, Few}
use Rattle.unit_carrier.specs.declared.agents.Went.{Went}
use Rattle.unit_carrier.specs.declared.agents.Went.TheVariants.{Moved, Granted, Began, Stayed}

-- the units of these agents, as they began
abbrev pub as_carried : List Agent → List Carried
as_carried agents = map (λ (a : Agent). a.carried) agents

-- and their numbers
abbrev pub units_carried : List Agent → List UnitNo
units_carried agents = map (λ (a : Agent). a.carried.unit) agents

-- the unit at an index
abbrev pub unit_at : List Agent → ℕ → UnitNo
unit_at agents index = get_or (units_carried agents) index nobody

-- Nobody else puts events into the core: all that was seen is one's own, behind a run without events.
pub record HasCoreAlone (may_come : CoreEvent → Bool) (s : Sight) : Type 0 where
  pub none : may_come ≡ none_comes
  pub counts : Counts s
  pub alone : (harmless : CoreEvent → Bool) → IsAlone harmless s
  pub above : 0 < s.first.base

-- the agent's unit is of the origin that the agent has
abbrev pub CameAs : Sight → Agent → Type 0
CameAs s a = (ends (run_seen s)).units.origin a.carried.unit ≡ a.carried.origin

-- Each agent knows its unit, and where it came from; they stand in number order, and have begun.
pub record AreCarried (types : ProgramTree) (may_come : CoreEvent → Bool) (s : Sight) (agents : List Agent) : Type 0 where
  pub holds : HasCoreAlone may_come s
  pub known : AllByRecursion (Knows types s) agents
  pub came : AllByRecursion (CameAs s) agents
  pub older : UnitsAscend (units_carried agents)
  pub below : (u : UnitNo) → Member u (units_carried agents) → u.0 < (ends (run_seen s)).units.next

-- so many of the agents, from the first on, are of units that are over and have given back all their locks
abbrev pub AreFreed : ℕ → List Agent → Type 0
AreFreed count agents = AllByRecursion (λ (a : Agent). has_freed_all a.doing ≡ true) (take count agents)

-- those of these units that can move
abbrev pub moving : ProgramTree → Run → List UnitNo → List UnitNo
moving types r units = filter (can_move types (ends r) (got_in r)) units

-- the mover at this place is the unit at that index; or there are so many, and no more than the place
abbrev pub FindsMover : ProgramTree → Run → List UnitNo → ℕ → Found → Type 0
FindsMover types r units place (At index) = (u : UnitNo) × (slice_get units index ≡ Some u) × (slice_get (moving types r units) place ≡ Some u)
FindsMover types r units place (Few count) = (count ≡ length (moving types r units)) × (count ≤ place)

-- where a unit was found, it is one of so many
abbrev pub FindsWithin : Found → ℕ → Type 0
FindsWithin (At index) many = index < many
FindsWithin (Few count) many = ⊤

-- the units with the child, where one began
abbrev pub with_child : List UnitNo → Advanced → List UnitNo
with_child units (advanced.Began child call depth) = units ++ child ∷ []
with_child units _ = units

-- what is told of a step
abbrev pub went_by : Advanced → Went
went_by advanced.Moved = Moved
went_by (advanced.Granted grain source) = Granted grain source
went_by (advanced.Began child call depth) = Began child
went_by (advanced.Waits holder) = Stayed
went_by (advanced.WaitsLoad grain) = Stayed
went_by (advanced.WaitsFor child) = Stayed
went_by advanced.Ended = Stayed

-- The unit's step answered so; a child that began is carried too, behind all others.
pub record StepsOn (may_come : CoreEvent → Bool) (types : ProgramTree) (u : UnitNo) (s t : Sight) (before after : List UnitNo) (went : Went) : Type 0 where
  pub answer : Advanced
  pub kids : ℕ
  pub says : AnswerSays may_come types u kids s t answer
  pub units : after ≡ with_child before answer
  pub is : went ≡ went_by answer

-- The unit is carried too, behind the others; its agent knows it where it is new.
pub record CarriesOneMore (types : ProgramTree) (unit : UnitNo) (origin : Origin) (call : Call) (plain : Bool) (before after : List Agent) : Type 0 where
  pub agent : Agent
  pub list : after ≡ before ++ agent ∷ []
  pub carried : agent.carried ≡ record { unit = unit; origin = origin; plain = plain }
  pub knows : (s : Sight) → IfOwn agent.carried s (λ r. IsNew types r agent.carried call) → Knows types s agent

-- The unit's wish was done, and is all by which the run went on; or it has none, and nothing changed, where there is no doubt and no
-- stop and each wanted grain is in memory: then it waits for none.
abbrev pub WishesAt : ProgramTree → UnitNo → Sight → Sight → Bool → Type 0
WishesAt types u s t true = GoesByWish types u (run_seen s) (run_seen t)
WishesAt types u s t false = IsGoing (ends (run_seen s)) → next_wanted (ends (run_seen s)) ≡ None
    → (t ≡ s) × (waits_for_load (ends (run_seen s)) u (lock_asked types (ends (run_seen s)) (got_in (run_seen s)) u) ≡ false)
