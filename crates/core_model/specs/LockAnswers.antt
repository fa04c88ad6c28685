-- What a unit is answered that asks for a lock, when a grant and a take apply, and when a stack is down to one version.
use Rattle.std.specs.Prelude.{◌≡◌, ◌↔◌, ◌≤◌, ◌<◌, ◌+◌, List, [], ◌∷◌, true, false, Some, None, take}
use Rattle.cell_model.specs.Laws.{AnswersExactly}
use Rattle.cell_model.specs.declared.locks.Ask.{Ask}
use Rattle.cell_model.specs.declared.locks.Ask.TheVariants as locks
use Rattle.core_model.specs.declared.questions.AskAnswer.{AskAnswer}
use Rattle.core_model.specs.declared.questions.AskAnswer.TheVariants as answer
use Rattle.core_model.specs.CoreState.{UnitNo, GrainId, Member, Value, Version, Mode, Read, Running, Finished, Batch, CoreState}
use Rattle.core_model.specs.Tests.{ask_answer, is_final, members, waiting}
use Rattle.core_model.specs.Chains.{WroteGrain}
use Rattle.core_model.specs.Causes.{IsRemoved}
use Rattle.core_model.specs.LearnQueue.{next_learn}
use Rattle.core_model.specs.SerialOrder.{IsLastVersion}
use Rattle.core_model.specs.Events.{Grant, Take, applies, batch_size}

-- the unit runs, and the program has the grain's type
abbrev pub IsActive : CoreState → UnitNo → GrainId → Type 0
IsActive w u g = (w.units.phase u ≡ Running) × (g.kind < w.units.kinds)

-- What the unit read from the other is gone from its grain's stack, and the other is the oldest such source.
pub record IsOldestRemoved (w : CoreState) (u source : UnitNo) : Type 0 where
  pub removed : (r : Read) × Member r (w.units.reads u) × (r.source ≡ source) × IsRemoved w r
  pub oldest : (r : Read) → Member r (w.units.reads u) → IsRemoved w r → source.0 ≤ r.source.0

-- The unit may ask, nothing that it read is gone, and the grain's locks say that.
pub record IsAskAnswered (w : CoreState) (u : UnitNo) (g : GrainId) (mode : Mode) (said : Ask) : Type 0 where
  pub active : IsActive w u g
  pub unharmed : (r : Read) → Member r (w.units.reads u) → IsRemoved w r → ⊥
  pub lock : AnswersExactly (w.cells.holds g) u mode said

-- when each answer comes
abbrev pub AskExactly : CoreState → UnitNo → GrainId → Mode → AskAnswer → Type 0
AskExactly w u g mode answer.NotActive = IsActive w u g → ⊥
AskExactly w u g mode (answer.Doomed source) = IsActive w u g × IsOldestRemoved w u source
AskExactly w u g mode answer.Held = IsAskAnswered w u g mode locks.Held
AskExactly w u g mode (answer.MustDie holder) = IsAskAnswered w u g mode (locks.MustDie holder)
AskExactly w u g mode (answer.MustWait holder) = IsAskAnswered w u g mode (locks.MustWait holder)
AskExactly w u g mode answer.Absent = IsAskAnswered w u g mode locks.Free × (w.cells.here g ≡ false)
AskExactly w u g mode answer.Free = IsAskAnswered w u g mode locks.Free × (w.cells.here g ≡ true)

-- what each answer says of the unit, of the grain's locks, and whether the grain is in memory
abbrev pub AskedLocks : CoreState → UnitNo → GrainId → Mode → AskAnswer → Type 0
AskedLocks w u g mode answer.NotActive = IsActive w u g → ⊥
AskedLocks w u g mode (answer.Doomed source) = IsActive w u g
AskedLocks w u g mode answer.Held = IsActive w u g × AnswersExactly (w.cells.holds g) u mode locks.Held
AskedLocks w u g mode (answer.MustDie holder) = IsActive w u g × AnswersExactly (w.cells.holds g) u mode (locks.MustDie holder)
AskedLocks w u g mode (answer.MustWait holder) = IsActive w u g × AnswersExactly (w.cells.holds g) u mode (locks.MustWait holder)
AskedLocks w u g mode answer.Absent = IsActive w u g × AnswersExactly (w.cells.holds g) u mode locks.Free × (w.cells.here g ≡ false)
AskedLocks w u g mode answer.Free = IsActive w u g × AnswersExactly (w.cells.holds g) u mode locks.Free × (w.cells.here g ≡ true)

-- no batch is in doubt, and the run isn't to stop
abbrev pub IsGoing : CoreState → Type 0
IsGoing w = (w.manager.doubt ≡ None) × (w.units.halt ≡ false)

-- a grant applies exactly where the answer is that the lock can be had
abbrev pub GrantApplies : CoreState → UnitNo → GrainId → Mode → Type 0
GrantApplies w u g mode = (applies w (Grant u g mode) ≡ true) ↔ (IsGoing w × (ask_answer w u g mode ≡ answer.Free))

-- a take applies exactly where no batch is open and a finished undecided unit stands in front that holds no lock
abbrev pub TakeApplies : CoreState → Type 0
TakeApplies w = (applies w Take ≡ true) ↔ (IsGoing w × (w.manager.batch ≡ None) × (0 < batch_size w))

-- The open batch is the next one, of so many of the finished undecided units; it has no votes and isn't decided.
pub record TakesBatch (w next : CoreState) (b : Batch) : Type 0 where
  pub batch : next.manager.batch ≡ Some b
  pub number : b.number ≡ w.manager.batches + 1
  pub units : members next b ≡ take (batch_size w) (waiting w)
  pub votes : b.votes ≡ []
  pub undecided : b.decisions ≡ None

-- each finished unit that wrote the grain is decided for good
abbrev pub IsSettledGrain : CoreState → GrainId → Type 0
IsSettledGrain w g = (u : UnitNo) → w.units.phase u ≡ Finished → WroteGrain w.manager.writes u g → is_final (w.manager.verdict u) ≡ true

-- Where every grain has learnt what there is to learn, the stack of a grain whose writers are all decided is one version:
-- the last committed one.
abbrev pub SettledStacksAreSingle : (GrainId → List Value) → CoreState → Type 0
SettledStacksAreSingle opening w = next_learn w ≡ None → (g : GrainId) → IsSettledGrain w g →
    (x : Version) × (w.cells.stack g ≡ x ∷ []) × IsLastVersion opening w g x.unit x.state
