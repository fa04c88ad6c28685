-- What is known of a core that workers shared, once all passes are joined and its cell is closed.
use Rattle.std.specs.Prelude.{◌⊎◌, ◌≡◌, ◌≤◌, ℕ, List, [], true}
use Rattle.base_types.specs.Lists.{Member}
use Rattle.core_model.specs.LockAnswers.{IsGoing}
use Rattle.core_model.specs.CoreState.{UnitNo}
use Rattle.core_model.specs.declared.events.CoreEvent.TheVariants.{Halt}
use Rattle.core_model.specs.LegalRuns.{Run, ends}
use Rattle.core_model.specs.Tests.{is_over, is_free}
use Rattle.turn_cell.specs.History.{entries_of}
use Rattle.core_access.specs.Histories.{Told, run_after, IsTrue}
use Rattle.core_access.specs.SettlerEvents.{is_settling}
use Rattle.core_access.specs.Sights.{Sight, IfAlone}
use Rattle.worker_rules.specs.UnitOwnership.{leaves_unit, BeganHere}
use Rattle.worker_rules.specs.JoinedPasses.{Knew}

-- The last run is the first one with a history, and each entry of it is of the first pass's number or of one that was joined
-- into it. The one was known of the first pass, the other of each other one.
pub record IsClosed (Own Their : Sight → Type 0) (first last : Run) : Type 0 where
  pub log : List Told
  pub legal : IsTrue first log
  pub left : last ≡ run_after first log
  pub own : Knew Own first [] log (entries_of [] log)
  pub theirs : (x : Told) → Member x log → (x.by ≡ []) ⊎ Knew Their first x.by log (entries_of x.by log)

-- nothing was put
abbrev pub PutsNothing : Sight → Type 0
PutsNothing s = s.mine ≡ []

-- each of these entries is of an event of the settler's, or of a stop
abbrev pub SettlesOrStops : List Told → Type 0
SettlesOrStops mine = (x : Told) → Member x mine → (is_settling x.event ≡ true) ⊎ (x.event ≡ Halt)

-- the unit is over and holds no lock, unless there is a doubt or a stop
abbrev pub IsOverAndFree : UnitNo → Run → Type 0
IsOverAndFree u r = IsGoing (ends r) → (is_over ((ends r).units.phase u) ≡ true) × (is_free (ends r) u ≡ true)

-- so is each unit that began by an entry of one's own, if nobody else made an event of it
abbrev pub AreOverAndFree : Sight → Type 0
AreOverAndFree s = (u : UnitNo) → BeganHere u s → IfAlone (leaves_unit u) s (IsOverAndFree u)

-- so many lines have begun, unless there is a doubt or a stop
abbrev pub HasBegunLines : ℕ → Run → Type 0
HasBegunLines lines r = IsGoing (ends r) → lines ≤ (ends r).units.lines
