-- The unit rule: each event of a unit is what its script asks for next.
use Rattle.std.specs.Prelude.{◌≡◌, ◌↔◌, ℕ, true, false, List, length, map, take, Some, ⊤}
use Rattle.base_types.specs.declared.calls.Mode.{Mode}
use Rattle.base_types.specs.declared.calls.Origin.TheVariants.{Line, Child}
use Rattle.cell_model.specs.Locks.{holds_lock}
use Rattle.core_model.specs.declared.effects.Effect.{Effect}
use Rattle.core_model.specs.CoreState.{UnitNo, GrainId, CoreState}
use Rattle.core_model.specs.Tests.{is_before}
use Rattle.core_model.specs.declared.events.CoreEvent.{CoreEvent}
use Rattle.core_model.specs.declared.events.CoreEvent.TheVariants.{Bad, Begin, Grant, Refuse, Finish, EndPlain, EndSnapshot, Release, Want, Load}
use Rattle.core_model.specs.LegalRuns.{Run, begins}
use Rattle.script_tree.specs.Programs.{ProgramTree}
use Rattle.script_meaning.specs.Play.{Played, WantUnit, Over, play_over, IsTransaction}
use Rattle.script_meaning.specs.Trails.{states_of}
use Rattle.promise_spec.specs.Entries.{Standing}
use Rattle.base_types.specs.Origins.{depth_of}
use Rattle.promise_spec.specs.Lines.{IsLineCall, IsBadLine}
use Rattle.promise_spec.specs.Cores.{AppliesAt, state_before}
use Rattle.promise_spec.specs.UnitAnswers.{Got, got_from, wanted_by, wanted_lock}

-- What the unit rule is told from outside: the program's types, the lines that are asked, and what the opening log stands
-- for. What a later rule is told of, as the order or the manner of a run, has its place here.
pub record Basis : Type 0 where
  pub types : ProgramTree
  pub lines : List (List ℕ)
  pub opening : Standing

-- what a call does over what a unit read and was answered
abbrev pub played_by : ProgramTree → Effect → Played
played_by types e =
    play_over types e.call (depth_of e.origin) (states_of (map (λ r. (r.grain, r.state)) e.reads)) e.answers

-- the effect is what its call does over its reads and answers, and it has an answer for each unit that was asked for
pub record IsPlayOf (types : ProgramTree) (e : Effect) : Type 0 where
  pub result : (played_by types e).result ≡ e.result
  pub asked : length (played_by types e).asked ≡ length e.answers
  pub reads : (played_by types e).reads ≡ map (λ r. (r.grain, r.state)) e.reads
  pub writes : (played_by types e).writes ≡ e.writes

-- the unit holds no grain before this one
abbrev pub IsLowestHeld : CoreState → UnitNo → GrainId → Type 0
IsLowestHeld w u g = (h : GrainId) → holds_lock u (w.cells.holds h) ≡ true → is_before h g ≡ false

-- An event may be made of a unit or a line in this state, by what each unit got: a line's event is what the line
-- reads as; each other one is what the unit's script asks for next, over what it was given, and at its end the whole
-- effect is the call's; locks go in ascending order. A unit wants the grain of the lock that its script asks for next to be in
-- memory. Events of the settler and loads are no unit's: whether a load is true is said beside this rule.
abbrev pub IsDue : Basis → CoreState → (UnitNo → List Got) → CoreEvent → Type 0
IsDue s w got (Bad n why) = IsBadLine s.types s.lines n why
IsDue s w got (Begin (Line n) call plain) =
    IsLineCall s.types s.lines n call × ((plain ≡ false) ↔ IsTransaction s.types call)
IsDue s w got (Begin (Child parent index depth) call plain) =
    (wanted_by s.types w parent (got parent) ≡ Some (WantUnit call depth)) × (plain ≡ false)
IsDue s w got (Grant u g mode) = wanted_lock (wanted_by s.types w u (got u)) ≡ Some (g, mode)
IsDue s w got (Refuse u g mode) = wanted_lock (wanted_by s.types w u (got u)) ≡ Some (g, mode)
IsDue s w got (Finish u e) = (wanted_by s.types w u (got u) ≡ Some (Over e.result)) × IsPlayOf s.types e
IsDue s w got (EndPlain u e) = (wanted_by s.types w u (got u) ≡ Some (Over e.result)) × IsPlayOf s.types e
IsDue s w got (Release u g) = IsLowestHeld w u g
IsDue s w got (EndSnapshot u at outcome) = ⊥
IsDue s w got (Want u g) = (mode : Mode) × (wanted_lock (wanted_by s.types w u (got u)) ≡ Some (g, mode))
IsDue s w got _ = ⊤

-- each event of the run that applies is due in the state before it
abbrev pub KeepsUnitRule : Basis → Run → Type 0
KeepsUnitRule s r =
    (at : ℕ) (e : CoreEvent) → AppliesAt r at e →
    IsDue s (state_before r at) (got_from (begins r) (take at r.events)) e
