-- What is told is final, and who is judged is of the decided open batch.
use Rattle.std.specs.Prelude.{◌≡◌, ◌⊎◌, ℕ, List, true, Some, None}
use Rattle.base_types.specs.declared.calls.Origin.TheVariants.{Child}
use Rattle.base_types.specs.declared.entries.Settled.TheVariants as settled
use Rattle.core_model.specs.CoreState.{UnitNo, same_unit, Member, Outcome, Unborn, Finished, Ended, Verdict, Open, Entry, Batch, Decision, CoreState}
use Rattle.core_model.specs.Tests.{any, is_decided, is_final, members, outcome_of}
use Rattle.core_model.specs.Lines.{HasBegunFor}

-- each child of the unit is decided
abbrev pub ChildrenAreDecided : CoreState → UnitNo → Type 0
ChildrenAreDecided w p = (c : UnitNo) (i d : ℕ) → (w.units.phase c ≡ Unborn → ⊥) → w.units.origin c ≡ Child p i d → (o : Outcome) × (outcome_of w c ≡ Some o)

-- An entry with an outcome tells its unit's, which is known, as are those of the unit's children. A unit that came to its
-- end has decided children.
pub record ToldIsFinal (w : CoreState) : Type 0 where
  pub known : (x : Entry) (result : Outcome) → Member x w.manager.settled → x.what ≡ settled.Done result → outcome_of w x.unit ≡ Some result
  pub children : (x : Entry) (result : Outcome) → Member x w.manager.settled → x.what ≡ settled.Done result → ChildrenAreDecided w x.unit
  pub ended : (p : UnitNo) → (w.units.phase p ≡ Finished) ⊎ (w.units.phase p ≡ Ended) → ChildrenAreDecided w p

-- not judged, or for good
abbrev pub IsSteady : Verdict → Type 0
IsSteady v = (v ≡ Open) ⊎ (is_final v ≡ true)

-- Unless a batch is in doubt, who is judged and not for good is of the open batch, which is decided.
pub record OnlyTheBatchIsJudged (w : CoreState) : Type 0 where
  pub undecided : ((b : Batch) → w.manager.batch ≡ Some b → b.decisions ≡ None) → (u : UnitNo) → IsSteady (w.manager.verdict u)
  pub decided : (b : Batch) (ds : List Decision) → w.manager.batch ≡ Some b → b.decisions ≡ Some ds → (u : UnitNo) → Member u (members w b) ⊎ IsSteady (w.manager.verdict u)

-- a line's unit is decided exactly where it has its entry
abbrev pub LinesAreTold : CoreState → Type 0
LinesAreTold w = (u : UnitNo) (n : ℕ) → HasBegunFor w u n → is_decided w u ≡ any (λ (x : Entry). same_unit x.unit u) w.manager.settled
