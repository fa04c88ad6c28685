-- Serial execution.
use Rattle.std.specs.Prelude.{ℕ, List, [], ◌∷◌, Bool, true, Option, Some, None, ◌≡◌, filter, map, drop, unwrap_or, ⊤, ◌⊎◌, ◌≤◌}
use Rattle.core_model.specs.CoreState.{UnitNo, GrainId, nobody, Member, Value, Read, Write, Effect, Committed, CoreState}
use Rattle.core_model.specs.Tests.{is_good, is_committed, state_written}
use Rattle.core_model.specs.Events.{CoreEvent, Finish, EndPlain, Load, applies, step, Bad, Begin, Grant, Refuse, EndSnapshot, Release, Take, Vote, Decide, Sealed, NotSealed, Doubt, Learn, Emitted, Halt, Want}
use Rattle.core_model.specs.Answers.{effect_of}

-- the store after a unit's writes
abbrev pub after : (GrainId → List Value) → List Write → GrainId → List Value
after store writes g = unwrap_or (state_written g writes) (store g)

-- Each unit finds in the store what it read, its effect is a play, and the next unit finds its writes.
abbrev pub IsSerialOrder : (Effect → Bool) → (GrainId → List Value) → List Effect → Type 0
IsSerialOrder plays store [] = ⊤
IsSerialOrder plays store (e ∷ es) =
    ((r : Read) → Member r e.reads → r.state ≡ store r.grain) × (plays e ≡ true) × IsSerialOrder plays (after store e.writes) es

-- the committed units, in the order in which they finished
abbrev pub committed : CoreState → List Effect
committed w = map (effect_of w) (filter (λ u. is_committed (w.manager.verdict u)) w.manager.order)

-- where the batch that is open or in doubt begins in the finish order
abbrev pub batch_begin : Option ℕ → ℕ → ℕ
batch_begin None closed = closed
batch_begin (Some begin) closed = begin

-- those to commit in the batch that is open or in doubt
abbrev pub chosen : CoreState → List Effect
chosen w = map (effect_of w) (filter (λ u. is_good (w.manager.verdict u)) (drop (batch_begin w.manager.doubt w.manager.closed) w.manager.order))

-- an effect that an event brings is one that its call makes of its reads and answers
abbrev pub Plays : (Effect → Bool) → CoreEvent → Type 0
Plays plays (Finish u effect) = plays effect ≡ true
Plays plays (EndPlain u effect) = plays effect ≡ true
Plays plays (Bad line why) = ⊤
Plays plays (Begin origin call plain) = ⊤
Plays plays (Grant v g mode) = ⊤
Plays plays (Refuse v g mode) = ⊤
Plays plays (EndSnapshot v at outcome) = ⊤
Plays plays (Release v g) = ⊤
Plays plays Take = ⊤
Plays plays (Vote n g kept) = ⊤
Plays plays (Decide n) = ⊤
Plays plays (Sealed n) = ⊤
Plays plays (NotSealed n) = ⊤
Plays plays (Doubt n) = ⊤
Plays plays (Learn v g) = ⊤
Plays plays Emitted = ⊤
Plays plays Halt = ⊤
Plays plays (Want v g) = ⊤
Plays plays (Load g v state) = ⊤

-- each effect of the list is a play
abbrev pub AllPlay : (Effect → Bool) → List CoreEvent → Type 0
AllPlay plays [] = ⊤
AllPlay plays (e ∷ es) = Plays plays e × AllPlay plays es

-- no committed unit wrote the grain
abbrev pub IsUnwritten : CoreState → GrainId → Type 0
IsUnwritten w g = (c : UnitNo) (v : List Value) → w.manager.verdict c ≡ Committed → state_written g (w.manager.writes c) ≡ Some v → ⊥

-- the unit is the last committed writer of the grain, and wrote that state
pub record IsLastWriter (w : CoreState) (g : GrainId) (u : UnitNo) (state : List Value) : Type 0 where
  pub commits : w.manager.verdict u ≡ Committed
  pub wrote : state_written g (w.manager.writes u) ≡ Some state
  pub last : (c : UnitNo) (v : List Value) → w.manager.verdict c ≡ Committed → state_written g (w.manager.writes c) ≡ Some v → w.manager.place c ≤ w.manager.place u

-- the version is the grain's last committed one, or nobody's with the opening state
abbrev pub IsLastVersion : (GrainId → List Value) → CoreState → GrainId → UnitNo → List Value → Type 0
IsLastVersion opening w g u state = ((u ≡ nobody) × (state ≡ opening g) × IsUnwritten w g) ⊎ IsLastWriter w g u state

-- what is loaded is the last committed version
abbrev pub IsTrueLoad : (GrainId → List Value) → CoreState → CoreEvent → Type 0
IsTrueLoad opening w (Load g u state) = applies w (Load g u state) ≡ true → IsLastVersion opening w g u state
IsTrueLoad opening w (Bad line why) = ⊤
IsTrueLoad opening w (Begin origin call plain) = ⊤
IsTrueLoad opening w (Grant v g mode) = ⊤
IsTrueLoad opening w (Refuse v g mode) = ⊤
IsTrueLoad opening w (Finish v effect) = ⊤
IsTrueLoad opening w (EndPlain v effect) = ⊤
IsTrueLoad opening w (EndSnapshot v at outcome) = ⊤
IsTrueLoad opening w (Release v g) = ⊤
IsTrueLoad opening w Take = ⊤
IsTrueLoad opening w (Vote n g kept) = ⊤
IsTrueLoad opening w (Decide n) = ⊤
IsTrueLoad opening w (Sealed n) = ⊤
IsTrueLoad opening w (NotSealed n) = ⊤
IsTrueLoad opening w (Doubt n) = ⊤
IsTrueLoad opening w (Learn v g) = ⊤
IsTrueLoad opening w Emitted = ⊤
IsTrueLoad opening w Halt = ⊤
IsTrueLoad opening w (Want v g) = ⊤

-- each load of the list that applies is true
abbrev pub AllLoadsTrue : (GrainId → List Value) → CoreState → List CoreEvent → Type 0
AllLoadsTrue opening w [] = ⊤
AllLoadsTrue opening w (e ∷ es) = IsTrueLoad opening w e × AllLoadsTrue opening (step w e) es
