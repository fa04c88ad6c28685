-- What stays of a unit that is through, and how a run goes on behind what was seen.
use Rattle.std.proofs.Common.{◌≡◌, ◌≤◌, ℕ, List, [], ◌∷◌, inl, inr, Bool, true, false, Option, Some, None, refl, sym, ap, ◌∙◌, subst, arith, le_refl}
use Rattle.std.specs.Prelude.{if◌then◌else◌}
use Rattle.std.proofs.lemmas.Bool.{and_parts}
use Rattle.base_types.specs.declared.calls.Origin.TheVariants.{Line as OfLine, Child}
use Rattle.base_types.specs.Lists.{Member}
use Rattle.core_model.specs.LockAnswers.{IsGoing}
use Rattle.core_model.specs.CoreState.{UnitNo, CoreState}
use Rattle.core_model.specs.Changes.{swept, swept_by}
use Rattle.core_model.specs.declared.events.CoreEvent.{CoreEvent}
use Rattle.core_model.specs.declared.events.CoreReply.{CoreReply}
use Rattle.core_model.specs.Events.{applies, is_allowed, can, does, step}
use Rattle.core_model.specs.LegalRuns.{Run, ends}
use Rattle.core_laws.proofs.EventCases.{Change, bad, begin, lock, raise, refuse, finish, end_plain, end_snapshot, release, take_batch, vote, decide_some, decide_none, seal_batch, spoil_batch, doubt_batch, learn, emit, halt_run, want, load, decode}
use Rattle.core_access.specs.Histories.{Told, run_after}
use Rattle.core_access.specs.Sights.{Sight, Counts, IfAlone, Looks, Tells, run_seen, saw}
use Rattle.core_access.proofs.Entries.{run-on}
use Rattle.core_access.proofs.Knowledge.{saw-knows, looks-knows, tells-knows}
use Rattle.turn_cell.specs.History.{StartsWith}
use Rattle.turn_rules.specs.NextEvent.{with_event}
use Rattle.turn_rules.proofs.Growth.{ends-more}
use Rattle.worker_rules.specs.UnitOwnership.{leaves_unit}
use Rattle.worker_rules.proofs.Numbers.{step-next}
use Rattle.txn_agent.specs.declared.work.Carried.{Carried}
use Rattle.txn_agent.specs.CoreLink.{IsBarred, IsOver}
use Rattle.txn_agent.specs.AgentStep.{HasNoEventLeft}
use Rattle.txn_agent.proofs.UnitEnds.{has-ended-over, has-ended-stopped}
use Rattle.txn_agent.proofs.OthersEvents.{over-on, stopped-on}
use Rattle.txn_agent.proofs.CoreGrowth.{going-back}
use Rattle.unit_crew.specs.FinishedUnits.{AreThrough, HasLetGo, IsHeldUp, IsThrough}

-- ---- a unit that is through

-- a unit of this number; the rest of how it began is of no matter here
unfoldable pub as-begun : UnitNo → Carried
as-begun u = record { unit = u; origin = OfLine 0; plain = false }

pub let-go-over : (r : Run) (u : UnitNo) → HasLetGo r u → IsOver r (as-begun u) []
unfolding as-begun
let-go-over r u x = record { above = x.above; over = x.over; locks = x.locks }

pub over-let-go : (r : Run) (c : Carried) → IsOver r c [] → HasLetGo r c.unit
over-let-go r c x = record { above = x.above; over = x.over; locks = x.locks }

held-barred : (r : Run) (u : UnitNo) → IsHeldUp r u → IsBarred r (as-begun u)
unfolding as-begun
held-barred r u x = record { above = x.above; running = x.running; stopped = x.stopped }

pub barred-held : (r : Run) (c : Carried) → IsBarred r c → IsHeldUp r c.unit
barred-held r c x = record { above = x.above; running = x.running; stopped = x.stopped }

-- it stays so by an event of others
pub through-on : (u : UnitNo) (r : Run) (e : CoreEvent) → leaves_unit u e ≡ true → IsThrough r u → IsThrough (with_event r e) u
unfolding as-begun
through-on u r e leaves (inl x) = inl (over-let-go (with_event r e) (as-begun u) (over-on [] r e (as-begun u) leaves [] (let-go-over r u x)))
through-on u r e leaves (inr x) = inr (barred-held (with_event r e) (as-begun u) (stopped-on [] r e (as-begun u) leaves (held-barred r u x)))

-- behind a look
pub looks-through : (may : CoreEvent → Bool) (u : UnitNo) (s t : Sight) → Looks may s t → Counts s
    → IfAlone (leaves_unit u) s (λ r. IsThrough r u) → IfAlone (leaves_unit u) t (λ r. IsThrough r u)
looks-through may u s t l n k = looks-knows (leaves_unit u) (λ (r : Run). IsThrough r u) (λ r e h p. through-on u r e h p) may s t l n k

-- behind an event that isn't the unit's
pub tells-through : (may : CoreEvent → Bool) (u : UnitNo) (s t : Sight) (e : CoreEvent) (r : CoreReply) → Tells may s e r t → leaves_unit u e ≡ true → Counts s
    → IfAlone (leaves_unit u) s (λ r. IsThrough r u) → IfAlone (leaves_unit u) t (λ r. IsThrough r u)
tells-through may u s t e r l h n k =
    tells-knows (leaves_unit u) (λ (r : Run). IsThrough r u) (λ r e h p. through-on u r e h p) (λ (r : Run). IsThrough r u) may s t e r l n (λ p. through-on u (run_seen (saw s l.rest)) e h p) k

-- the sight with what was seen since
saw-is : (s t : Sight) → t.first ≡ s.first → t.number ≡ s.number → t.mine ≡ s.mine → (w : StartsWith t.seen s.seen) → t ≡ saw s w.0
saw-is s t f n m w = λ i. record { first = f i; number = n i; seen = w.1 i; mine = m i }

-- whatever others put
pub through-stays : (u : UnitNo) (s t : Sight) → Counts s → t.first ≡ s.first → t.number ≡ s.number → t.mine ≡ s.mine → StartsWith t.seen s.seen
    → IfAlone (leaves_unit u) s (λ r. IsThrough r u) → IfAlone (leaves_unit u) t (λ r. IsThrough r u)
through-stays u s t n f number m w k =
    subst (λ (x : Sight). IfAlone (leaves_unit u) x (λ r. IsThrough r u)) (sym (saw-is s t f number m w))
    (saw-knows (leaves_unit u) (λ (r : Run). IsThrough r u) (λ r e h p. through-on u r e h p) s w.0 n k)

-- so all do
pub all-stay : (s t : Sight) → Counts s → t.first ≡ s.first → t.number ≡ s.number → t.mine ≡ s.mine → StartsWith t.seen s.seen → AreThrough s → AreThrough t
all-stay s t n f number m w all u b = through-stays u s t n f number m w (all u (b.0, subst (λ (l : List Told). Member b.0 l) m b.1, b.2))

-- it has no event left
pub through-ended : (r : Run) (u : UnitNo) → IsThrough r u → HasNoEventLeft (ends r) u
unfolding as-begun
through-ended r u (inl x) = has-ended-over r (as-begun u) (let-go-over r u x)
through-ended r u (inr x) = has-ended-stopped r (as-begun u) (held-barred r u x)

-- and where nothing stops it, it has let go
pub through-freed : (r : Run) (u : UnitNo) → IsThrough r u → IsGoing (ends r) → HasLetGo r u
through-freed r u (inl x) going = x
through-freed r u (inr x) going = absurd (x.stopped going)

-- ---- behind what was seen

-- units that began have begun
after-next : (rest : List Told) (r : Run) → (ends r).units.next ≤ (ends (run_after r rest)).units.next
after-next [] r = le_refl (ends r).units.next
after-next (x ∷ rest) r =
    let one : (ends r).units.next ≤ (step (ends r) x.event).units.next = step-next (ends r) x.event in
    let same : (ends (with_event r x.event)).units.next ≡ (step (ends r) x.event).units.next = ap (λ (w : CoreState). w.units.next) (ends-more r x.event) in
    let more : (ends (with_event r x.event)).units.next ≤ (ends (run_after r (x ∷ rest))).units.next = after-next rest (with_event r x.event) in
    omega (arith, one, same, more)

pub saw-next : (s : Sight) (rest : List Told) → (ends (run_seen s)).units.next ≤ (ends (run_seen (saw s rest))).units.next
saw-next s rest = subst (λ (r : Run). (ends (run_seen s)).units.next ≤ (ends r).units.next) (sym (run-on s.seen rest s.first)) (after-next rest (run_seen s))

-- where a doubt or a stop stands, it stands
after-going : (rest : List Told) (r : Run) → IsGoing (ends (run_after r rest)) → IsGoing (ends r)
after-going [] r g = g
after-going (x ∷ rest) r g = going-back r x.event (after-going rest (with_event r x.event) g)

pub seen-going : (s t : Sight) → t.first ≡ s.first → StartsWith t.seen s.seen → IsGoing (ends (run_seen t)) → IsGoing (ends (run_seen s))
seen-going s t f w g = after-going w.0 (run_seen s) (subst (λ (r : Run). IsGoing (ends r)) is g)
  where
    is : run_seen t ≡ run_after (run_seen s) w.0
    is = (λ i. run_after (f i) (w.1 i)) ∙ run-on s.seen w.0 s.first

-- lines that were taken are taken
swept-lines : (w : CoreState) → (swept w).units.lines ≡ w.units.lines
swept-lines w = go w.cells.capacity
  where
    go : (c : Option ℕ) → (swept_by w c).units.lines ≡ w.units.lines
    go None = refl
    go (Some n) = refl

change-lines : (w : CoreState) (e : CoreEvent) (w' : CoreState) → Change w e w' → w.units.lines ≤ w'.units.lines
change-lines w e w' (bad line why q) = omega arith
change-lines w e w' (begin (OfLine n) call plain c) = omega arith
change-lines w e w' (begin (Child parent index depth) call plain c) = le_refl w.units.lines
change-lines w e w' (lock u g mode running free first here) = le_refl w.units.lines
change-lines w e w' (raise u g mode running free held here uncovered) = le_refl w.units.lines
change-lines w e w' (refuse u g mode why running q) = le_refl w.units.lines
change-lines w e w' (finish u effect running plain of_call reads alone) = le_refl w.units.lines
change-lines w e w' (end_plain u effect running plain of_call bare) = le_refl w.units.lines
change-lines w e w' (end_snapshot u at outcome running plain kids answer) = le_refl w.units.lines
change-lines w e w' (release u g over held) = le_refl w.units.lines
change-lines w e w' (take_batch none some) = le_refl w.units.lines
change-lines w e w' (vote n g kept b q number d planned fresh) = le_refl w.units.lines
change-lines w e w' (decide_some n b q number d voted some) = le_refl w.units.lines
change-lines w e w' (decide_none n b q number d voted none) = le_refl w.units.lines
change-lines w e w' (seal_batch n b ds q number d) = le_refl w.units.lines
change-lines w e w' (spoil_batch n b ds q number d) = le_refl w.units.lines
change-lines w e w' (doubt_batch n b ds q number d) = le_refl w.units.lines
change-lines w e w' (learn u g wrote final fresh) = le_refl w.units.lines
change-lines w e w' (emit q) = le_refl w.units.lines
change-lines w e w' (halt_run q) = le_refl w.units.lines
change-lines w e w' (want u g running free fresh) = le_refl w.units.lines
change-lines w e w' (load g u state gone wanted) = le_refl w.units.lines

step-lines : (w : CoreState) (e : CoreEvent) → w.units.lines ≤ (step w e).units.lines
step-lines w e = by (applies w e) refl
  where
    by : (a : Bool) → applies w e ≡ a → w.units.lines ≤ (if a then swept (does w e) else w).units.lines
    by true a =
        let c = change-lines w e (does w e) (decode w e (and_parts (is_allowed w e) (can w e) a).1) in
        let s = swept-lines (does w e) in
        omega (arith, c, s)
    by false a = le_refl w.units.lines

after-lines : (rest : List Told) (r : Run) → (ends r).units.lines ≤ (ends (run_after r rest)).units.lines
after-lines [] r = le_refl (ends r).units.lines
after-lines (x ∷ rest) r =
    let one : (ends r).units.lines ≤ (step (ends r) x.event).units.lines = step-lines (ends r) x.event in
    let same : (ends (with_event r x.event)).units.lines ≡ (step (ends r) x.event).units.lines = ap (λ (w : CoreState). w.units.lines) (ends-more r x.event) in
    let more : (ends (with_event r x.event)).units.lines ≤ (ends (run_after r (x ∷ rest))).units.lines = after-lines rest (with_event r x.event) in
    omega (arith, one, same, more)

-- of the run from which all was seen
pub lines-seen : (s : Sight) → (ends s.first).units.lines ≤ (ends (run_seen s)).units.lines
lines-seen s = after-lines s.seen s.first
