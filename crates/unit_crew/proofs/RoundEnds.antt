-- Agents that are dropped, and how a round ends.
use Rattle.std.proofs.Common.{◌≡◌, ◌⊎◌, ℕ, ◌+◌, ◌-◌, ◌≤◌, zero, suc, List, [], ◌∷◌, length, inl, inr, Bool, true, false, true≢false, refl, sym, ◌∙◌, subst, arith, count_by, Option, Some, None}
use Rattle.std.specs.Prelude.{filter, not, ◌==◌, ◌||◌, slice_get, if◌then◌else◌, is_some}
use Rattle.std.specs.List.{AllByRecursion}
use Rattle.std.proofs.lemmas.Bool.{eqb-true}
use Rattle.std.proofs.lemmas.List.Sums.{length-filter}
use Rattle.core_model.specs.LockAnswers.{IsGoing}
use Rattle.core_model.specs.CoreState.{UnitNo, GrainId, Member}
use Rattle.core_model.specs.LegalRuns.{Run, ends}
use Rattle.core_model.specs.declared.events.CoreEvent.{CoreEvent}
use Rattle.core_access.specs.Sights.{Sight, Counts, IfAlone, Looks, run_seen}
use Rattle.script_tree.specs.Programs.{ProgramTree}
use Rattle.promise_spec.specs.UnitRule.{Basis}
use Rattle.worker_rules.specs.UnitOwnership.{leaves_unit, BeganHere}
use Rattle.txn_agent.specs.declared.agent.Agent.{Agent}
use Rattle.txn_agent.specs.declared.work.Carried.{Carried}
use Rattle.txn_agent.specs.declared.work.Doing.{Doing}
use Rattle.txn_agent.specs.declared.work.Doing.TheVariants.{Asks, Awaits, Frees, Stopped}
use Rattle.txn_agent.specs.CoreLink.{IsOver, Knows, KnowsDoing}
use Rattle.txn_agent.specs.AgentStep.{has_freed_all, is_freeing}
use Rattle.unit_carrier.specs.CarriedUnits.{units_carried}
use Rattle.unit_carrier.proofs.CarriedUnits.{all-filter, older-some}
use Rattle.unit_crew.specs.Crews.{IsCrew, IsOwnUnit, WorksOn}
use Rattle.unit_crew.specs.FinishedUnits.{AreThrough, IsHalted, IsPastLine, IsThrough}
use Rattle.unit_crew.proofs.FinishedUnits.{barred-held, lines-seen, looks-through, over-let-go, seen-going}

-- ---- agents that are dropped

-- a list of length 0
no-length : {A : Type 0} (xs : List A) → (length xs == 0) ≡ true → xs ≡ []
no-length [] e = refl
no-length (x ∷ xs) e = absurd (let z : suc (length xs) ≡ 0 = eqb-true (suc (length xs)) 0 e in omega (arith, z))

-- a unit that has given back all is through
freed-through : (types : ProgramTree) (s : Sight) (c : Carried) (doing : Doing) → has_freed_all doing ≡ true → KnowsDoing types s c doing → IfAlone (leaves_unit c.unit) s (λ r. IsThrough r c.unit)
freed-through types s c (Asks work pause) e k alone = absurd (true≢false (sym e))
freed-through types s c (Awaits work child) e k alone = absurd (true≢false (sym e))
freed-through types s c (Frees held) e k alone = inl (over-let-go (run_seen s) c (subst (λ (x : List GrainId). IsOver (run_seen s) c x) (no-length held e) (k alone)))
freed-through types s c Stopped e k alone = absurd (true≢false (sym e))

-- the agent is kept
abbrev pub is_left : Agent → Bool
is_left a = not (has_freed_all a.doing)

-- the unit is one of these, or through
abbrev IsLeft : Sight → UnitNo → List Agent → Type 0
IsLeft s u agents = Member u (units_carried agents) ⊎ IfAlone (leaves_unit u) s (λ r. IsThrough r u)

-- with one before them
left-more : (s : Sight) (u : UnitNo) (a : Agent) (agents : List Agent) → IsLeft s u agents → IsLeft s u (a ∷ agents)
left-more s u a agents (inl m) = inl (inr m)
left-more s u a agents (inr k) = inr k

-- the first is kept, or has given back all
left-first : (types : ProgramTree) (s : Sight) (a : Agent) (agents : List Agent) (u : UnitNo) (b : Bool) → has_freed_all a.doing ≡ b → Knows types s a → u ≡ a.carried.unit
    → IsLeft s u (if not b then a ∷ agents else agents)
left-first types s a agents u true e k q = inr (subst (λ (x : UnitNo). IfAlone (leaves_unit x) s (λ r. IsThrough r x)) (sym q) (freed-through types s a.carried a.doing e k))
left-first types s a agents u false e k q = inl (inl q)

-- so are those behind it
left-behind : (s : Sight) (a : Agent) (agents : List Agent) (u : UnitNo) (b : Bool) → IsLeft s u agents → IsLeft s u (if not b then a ∷ agents else agents)
left-behind s a agents u true k = k
left-behind s a agents u false k = left-more s u a agents k

-- each unit is kept, or through
kept-or-through : (types : ProgramTree) (s : Sight) (agents : List Agent) (u : UnitNo) → AllByRecursion (Knows types s) agents → Member u (units_carried agents) → IsLeft s u (filter is_left agents)
kept-or-through types s [] u all m = absurd m
kept-or-through types s (a ∷ agents) u all (inl q) = left-first types s a (filter is_left agents) u (has_freed_all a.doing) refl all.0 q
kept-or-through types s (a ∷ agents) u all (inr m) = left-behind s a (filter is_left agents) u (has_freed_all a.doing) (kept-or-through types s agents u all.1 m)

-- the crew without those who have given back all
pub drops-crew : (types : ProgramTree) (s : Sight) (agents left : List Agent) → left ≡ filter is_left agents → IsCrew types s agents → IsCrew types s left
drops-crew types s agents left e c = subst (IsCrew types s) (sym e) (record {
  counts = c.counts;
  above = c.above;
  only = c.only;
  below = c.below;
  known = all-filter (Knows types s) is_left agents c.known;
  own = all-filter (IsOwnUnit s) is_left agents c.own;
  older = older-some is_left agents c.older;
  rest = λ u b. elim (c.rest u b) [ inl m ↦ kept-or-through types s agents u c.known m | inr k ↦ inr k ];
})

-- ---- the end

-- a crew without agents is through
pub none-through : (types : ProgramTree) (s : Sight) (agents : List Agent) → length agents ≡ 0 → IsCrew types s agents → AreThrough s
none-through types s [] e c u b = elim (c.rest u b) [ inl m ↦ absurd m | inr k ↦ k ]
none-through types s (a ∷ agents) e c u b = absurd (omega (arith, e))

-- where the run is halted, so is a unit that runs
held-through : (types : ProgramTree) (s : Sight) (c : Carried) (doing : Doing) → is_freeing doing ≡ false → (IsGoing (ends (run_seen s)) → ⊥) → KnowsDoing types s c doing
    → IfAlone (leaves_unit c.unit) s (λ r. IsThrough r c.unit)
held-through types s c (Asks work pause) e halted k alone = inr (record { above = (k.linked alone).linked.above; running = (k.linked alone).given.running; stopped = halted })
held-through types s c (Awaits work child) e halted k alone = inr (record { above = (k.linked alone).linked.above; running = (k.linked alone).awaits.running; stopped = halted })
held-through types s c (Frees held) e halted k alone = absurd (true≢false e)
held-through types s c Stopped e halted k alone = inr (barred-held (run_seen s) c (k alone))

-- the agent's unit is over
abbrev pub is_over_now : Agent → Bool
is_over_now a = is_freeing a.doing

-- where none passes, the first doesn't
none-first : (a : Agent) (agents : List Agent) (b : Bool) → length (if b then a ∷ agents else agents) ≡ 0 → (b ≡ false) × (length agents ≡ 0)
none-first a agents true e = absurd (let z : suc (length agents) ≡ 0 = e in omega (arith, z))
none-first a agents false e = (refl, e)

-- where none is over, each of them
held-all : (types : ProgramTree) (s : Sight) (agents : List Agent) → length (filter is_over_now agents) ≡ 0 → (IsGoing (ends (run_seen s)) → ⊥) → AllByRecursion (Knows types s) agents
    → (u : UnitNo) → Member u (units_carried agents) → IfAlone (leaves_unit u) s (λ r. IsThrough r u)
held-all types s [] n halted all u m = absurd m
held-all types s (a ∷ agents) n halted all u (inl q) =
    subst (λ (x : UnitNo). IfAlone (leaves_unit x) s (λ r. IsThrough r x)) (sym q)
    (held-through types s a.carried a.doing (none-first a (filter is_over_now agents) (is_freeing a.doing) n).0 halted all.0)
held-all types s (a ∷ agents) n halted all u (inr m) =
    held-all types s agents (none-first a (filter is_over_now agents) (is_freeing a.doing) n).1 halted all.1 u m

-- a run that is halted doesn't go on
halted-not : (r : Run) → IsHalted r → IsGoing (ends r) → ⊥
halted-not r h g = by (ends r).units.halt (ends r).manager.doubt g.1 g.0 h
  where
    by : {A : Type 0} (stop : Bool) (doubt : Option A) → stop ≡ false → doubt ≡ None → (stop || is_some doubt) ≡ true → ⊥
    by true doubt e f q = absurd (true≢false e)
    by false None e f q = absurd (true≢false (sym q))
    by false (Some x) e f q = absurd cc

-- so where a halt was shown and no unit is over, all is through
pub halted-through : (Asked : Basis → Type 0) (types : ProgramTree) (first s : Sight) (agents : List Agent) → IsHalted (run_seen first) → WorksOn Asked first s
    → count_by (λ (a : Agent). is_freeing a.doing) agents ≡ 0 → IsCrew types s agents → AreThrough s
halted-through Asked types first s agents h w n c u b =
    elim (c.rest u b) [ inl m ↦ held-all types s agents (length-filter is_over_now agents ∙ n) (λ g. halted-not (run_seen first) h (seen-going first s w.first w.seen g)) c.known u m | inr k ↦ k ]

-- through behind a look
pub looks-all : (may : CoreEvent → Bool) (s t : Sight) → Looks may s t → Counts s → AreThrough s → AreThrough t
looks-all may s t l n all u b = looks-through may u s t l n (all u (subst (BeganHere u) l.sight b))

-- ---- lines

-- nothing stands at a place behind the last
none-there : {A : Type 0} (xs : List A) (place : ℕ) → None ≡ slice_get xs place → length xs ≤ place
none-there [] place e = omega arith
none-there (x ∷ xs) zero e = absurd cc
none-there (x ∷ xs) (suc place) e = let ih : length xs ≤ place = none-there xs place e in omega (arith, ih)

-- where the next line has no place, none is left
pub past-lines : {A : Type 0} (s : Sight) (before next place : ℕ) (lines : List A) → before ≤ (ends s.first).units.lines → next ≡ (ends (run_seen s)).units.lines + 1 → place ≡ next - 1 - before
    → None ≡ slice_get lines place → IsPastLine (before + length lines) (run_seen s)
past-lines s before next place lines low is at none =
    let up : (ends s.first).units.lines ≤ (ends (run_seen s)).units.lines = lines-seen s in
    let few : length lines ≤ place = none-there lines place none in
    omega (arith, up, few, low, is, at)
