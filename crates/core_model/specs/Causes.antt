-- What each settled entry comes from.
use Rattle.std.specs.Prelude.{◌≡◌, ◌↔◌, ◌⊎◌, ◌≤◌, ◌<◌, ◌+◌, ℕ, List, ◌∷◌, ◌++◌, true, false, Some, ⊤}
use Rattle.base_types.specs.declared.calls.Origin.TheVariants.{Line}
use Rattle.base_types.specs.declared.entries.Settled.TheVariants as settled
use Rattle.cell_model.specs.Laws.{IsOldestRival}
use Rattle.core_model.specs.CoreState.{UnitNo, GrainId, nobody, Member, Mode, Outcome, Read, Version, Running, Entry, Settled, Batch, CoreState}
use Rattle.core_model.specs.Tests.{is_gone, is_before, has_failed, members, outcome_of}
use Rattle.core_model.specs.DeadUnits.{IsDead}
use Rattle.core_model.specs.Chains.{WroteGrain}
use Rattle.core_model.specs.Changes.{with_decisions, decisions_of}
use Rattle.core_model.specs.Events.{CoreEvent, Bad, Refuse, EndPlain, EndSnapshot, Decide, Sealed, NotSealed, Doubt, applies, step, run, Begin, Grant, Finish, Release, Take, Vote, Learn, Emitted, Halt, Want, Load}
use Rattle.core_model.specs.LegalRuns.{Run, begins}

-- The unit wrote the grain, whose file failed, and it is the first such grain.
pub record IsVotedDown (w : CoreState) (b : Batch) (u : UnitNo) (g : GrainId) : Type 0 where
  pub wrote : WroteGrain w.manager.writes u g
  pub failed : has_failed b.votes g ≡ true
  pub first : (k : GrainId) → WroteGrain w.manager.writes u k → has_failed b.votes k ≡ true → is_before k g ≡ false

-- no file that the unit wrote failed
abbrev pub IsWritten : CoreState → Batch → UnitNo → Type 0
IsWritten w b u = (g : GrainId) → WroteGrain w.manager.writes u g → has_failed b.votes g ≡ false

-- No file that the unit wrote failed; the other unit is the oldest of its dependencies that are dead.
pub record DependsOnDead (w : CoreState) (b : Batch) (u on : UnitNo) : Type 0 where
  pub written : IsWritten w b u
  pub source : Member on (w.units.deps u)
  pub dead : IsDead w on
  pub oldest : (d : UnitNo) → Member d (w.units.deps u) → IsDead w d → on.0 ≤ d.0

-- No file that the unit wrote failed, and none of its dependencies is dead.
pub record CanCommit (w : CoreState) (b : Batch) (u : UnitNo) : Type 0 where
  pub written : IsWritten w b u
  pub alive : (d : UnitNo) → Member d (w.units.deps u) → IsDead w d → ⊥

-- The unit is refused, and the other is the oldest source whose version, read by the unit, is gone; it is dead.
pub record IsRefusedFor (w : CoreState) (e : CoreEvent) (u on : UnitNo) : Type 0 where
  pub refused : (g : GrainId) × ((mode : Mode) × (e ≡ Refuse u g mode))
  pub gone : (r : Read) × Member r (w.units.reads u) × (r.source ≡ on) × (is_gone w r ≡ true)
  pub dead : IsDead w on
  pub oldest : (r : Read) → Member r (w.units.reads u) → is_gone w r ≡ true → on.0 ≤ r.source.0

-- The unit is refused that grain, and the other is the oldest who holds it in a conflicting mode, and older than the unit.
pub record IsRefusedLock (w : CoreState) (e : CoreEvent) (u by : UnitNo) (g : GrainId) : Type 0 where
  pub mode : Mode
  pub refused : e ≡ Refuse u g mode
  pub rival : IsOldestRival (w.cells.holds g) u mode by
  pub older : by.0 < u.0

-- the state in which the open batch is decided, where the event decides or closes it
abbrev pub decided_state : CoreState → CoreEvent → Batch → CoreState
decided_state w (Decide n) b = with_decisions w b (decisions_of w b)
decided_state w (Bad line why) b = w
decided_state w (Begin origin call plain) b = w
decided_state w (Grant v g mode) b = w
decided_state w (Refuse v g mode) b = w
decided_state w (Finish v effect) b = w
decided_state w (EndPlain v effect) b = w
decided_state w (EndSnapshot v at outcome) b = w
decided_state w (Release v g) b = w
decided_state w Take b = w
decided_state w (Vote n g kept) b = w
decided_state w (Sealed n) b = w
decided_state w (NotSealed n) b = w
decided_state w (Doubt n) b = w
decided_state w (Learn v g) b = w
decided_state w Emitted b = w
decided_state w Halt b = w
decided_state w (Want v g) b = w
decided_state w (Load g v state) b = w

-- the event decides or ends the batch of that number
abbrev pub Settles : CoreEvent → ℕ → Type 0
Settles (Decide m) n = m ≡ n
Settles (Sealed m) n = m ≡ n
Settles (NotSealed m) n = m ≡ n
Settles (Doubt m) n = m ≡ n
Settles (Bad line why) n = ⊥
Settles (Begin origin call plain) n = ⊥
Settles (Grant v g mode) n = ⊥
Settles (Refuse v g mode) n = ⊥
Settles (Finish v effect) n = ⊥
Settles (EndPlain v effect) n = ⊥
Settles (EndSnapshot v at outcome) n = ⊥
Settles (Release v g) n = ⊥
Settles Take n = ⊥
Settles (Vote m g kept) n = ⊥
Settles (Learn v g) n = ⊥
Settles Emitted n = ⊥
Settles Halt n = ⊥
Settles (Want v g) n = ⊥
Settles (Load g v state) n = ⊥

-- The unit is one of the open batch, which the event decides or ends, and this holds of it where the batch is decided.
abbrev pub AtDecision : CoreState → CoreEvent → UnitNo → (CoreState → Batch → Type 0) → Type 0
AtDecision w e u Holds =
    (b : Batch) × (w.manager.batch ≡ Some b) × Settles e b.number × Member u (members w b) × Holds (decided_state w e b) b

-- the unit comes to its end as a plain run with that result, or its batch is on disk, it can commit, and it finished with
-- that result
abbrev pub EndsWith : CoreState → CoreEvent → UnitNo → Outcome → Type 0
EndsWith w (EndPlain v effect) u result = (v ≡ u) × (effect.result ≡ result)
EndsWith w (EndSnapshot v at outcome) u result = (v ≡ u) × (outcome ≡ result)
EndsWith w (Sealed n) u result = (w.manager.result u ≡ result) × AtDecision w (Sealed n) u (λ v b. CanCommit v b u)
EndsWith w (Bad line why) u result = ⊥
EndsWith w (Begin origin call plain) u result = ⊥
EndsWith w (Grant v g mode) u result = ⊥
EndsWith w (Refuse v g mode) u result = ⊥
EndsWith w (Finish v effect) u result = ⊥
EndsWith w (Release v g) u result = ⊥
EndsWith w Take u result = ⊥
EndsWith w (Vote n g kept) u result = ⊥
EndsWith w (Decide n) u result = ⊥
EndsWith w (NotSealed n) u result = ⊥
EndsWith w (Doubt n) u result = ⊥
EndsWith w (Learn v g) u result = ⊥
EndsWith w Emitted u result = ⊥
EndsWith w Halt u result = ⊥
EndsWith w (Want v g) u result = ⊥
EndsWith w (Load g v state) u result = ⊥

-- why an event that leads from a state to the next settles a unit so
abbrev pub HasCause : CoreState → CoreEvent → CoreState → UnitNo → Settled → Type 0
HasCause w e next u (settled.Done result) = (outcome_of next u ≡ Some result) × EndsWith w e u result
HasCause w e next u (settled.Lock by g) = IsRefusedLock w e u by g
HasCause w e next u (settled.Vote g) = AtDecision w e u (λ v b. IsVotedDown v b u g)
HasCause w e next u (settled.Dependency on) = IsRefusedFor w e u on ⊎ AtDecision w e u (λ v b. DependsOnDead v b u on)
HasCause w e next u settled.Disk = ((n : ℕ) × (e ≡ NotSealed n)) × AtDecision w e u (λ v b. CanCommit v b u)
HasCause w e next u settled.InDoubt = ((n : ℕ) × (e ≡ Doubt n)) × AtDecision w e u (λ v b. CanCommit v b u)
HasCause w e next u (settled.Bad why) = (line : ℕ) × (e ≡ Bad line why)

-- what may become of a unit that is aborted
abbrev pub IsAbort : Settled → Type 0
IsAbort (settled.Done result) = ⊥
IsAbort (settled.Lock by g) = ⊤
IsAbort (settled.Vote g) = ⊤
IsAbort (settled.Dependency on) = ⊤
IsAbort settled.Disk = ⊤
IsAbort settled.InDoubt = ⊥
IsAbort (settled.Bad why) = ⊥

-- a bad line has nobody's unit and the next number; every other entry has its unit's line
abbrev pub HasLine : CoreState → Entry → Settled → Type 0
HasLine w x (settled.Bad why) = (x.unit ≡ nobody) × (x.line ≡ w.units.lines + 1)
HasLine w x (settled.Done result) = w.units.origin x.unit ≡ Line x.line
HasLine w x (settled.Lock by g) = w.units.origin x.unit ≡ Line x.line
HasLine w x (settled.Vote g) = w.units.origin x.unit ≡ Line x.line
HasLine w x (settled.Dependency on) = w.units.origin x.unit ≡ Line x.line
HasLine w x settled.Disk = w.units.origin x.unit ≡ Line x.line
HasLine w x settled.InDoubt = w.units.origin x.unit ≡ Line x.line

-- an event of the run settled the entry, with its cause
pub record IsCaused (r : Run) (x : Entry) : Type 0 where
  pub before : List CoreEvent
  pub event : CoreEvent
  pub later : List CoreEvent
  pub split : r.events ≡ before ++ event ∷ later
  pub applied : applies (run (begins r) before) event ≡ true
  pub cause : HasCause (run (begins r) before) event (step (run (begins r) before) event) x.unit x.what
  pub line : HasLine (run (begins r) before) x x.what

-- the version that was read is nowhere in the grain's stack
abbrev pub IsRemoved : CoreState → Read → Type 0
IsRemoved w r = (x : Version) → Member x (w.cells.stack r.grain) → x.unit ≡ r.source → ⊥

-- what a running unit read is no longer on top exactly where it was removed
abbrev pub GoneIsRemoved : CoreState → Type 0
GoneIsRemoved w = (u : UnitNo) (r : Read) → w.units.phase u ≡ Running → Member r (w.units.reads u) → (is_gone w r ≡ true) ↔ IsRemoved w r
