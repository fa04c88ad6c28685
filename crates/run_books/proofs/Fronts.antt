-- What holds of a run held of its first part: the unit rule, and that it isn't stopped; and units and lines were no more.
use Rattle.std.proofs.Common.{◌≡◌, ℕ, zero, suc, ◌≤◌, List, [], ◌∷◌, ◌++◌, length, map, take, Bool, true, false, true≢false, refl, sym, ap, ◌∙◌, subst, arith, append-nil, append_assoc, Some}
use Rattle.std.specs.Prelude.{slice_get}
use Rattle.std.proofs.lemmas.List.{take-append-le}
use Rattle.base_types.specs.declared.calls.Origin.{Origin}
use Rattle.base_types.specs.declared.calls.Origin.TheVariants.{Line, Child}
use Rattle.core_model.specs.CoreState.{CoreState}
use Rattle.core_model.specs.Changes.{lines_with}
use Rattle.core_model.specs.declared.events.CoreEvent.{CoreEvent}
use Rattle.core_model.specs.Events.{applies, run}
use Rattle.core_model.specs.Laws.{extended}
use Rattle.core_model.specs.LegalRuns.{Run, begins, ends}
use Rattle.core_laws.proofs.EventCases.{Change, bad, begin, lock, raise, refuse, finish, end_plain, end_snapshot, release, take_batch, vote, decide_some, decide_none, seal_batch, spoil_batch, doubt_batch, learn, emit, halt_run, want, load}
use Rattle.core_laws.proofs.AnyEvents.{run-keeps}
use Rattle.core_laws.proofs.Numbers.{grown-run}
use Rattle.core_access.specs.Histories.{Told, run_after}
use Rattle.promise_spec.specs.UnitAnswers.{got_from}
use Rattle.promise_spec.specs.UnitRule.{Basis, IsDue, KeepsUnitRule}
use Rattle.settler_rules.proofs.StandingVotes.{ends-more}

-- ---- the rule

pub get-front : {A : Type 0} (xs ys : List A) (at : ℕ) (x : A) → slice_get xs at ≡ Some x → (slice_get (xs ++ ys) at ≡ Some x) × (at ≤ length xs)
get-front [] ys at x there = absurd cc
get-front (z ∷ xs) ys zero x there = (there, omega arith)
get-front (z ∷ xs) ys (suc at) x there = (let t = get-front xs ys at x there in (t.0, omega (arith, t.1)))

-- a first part of a run keeps the unit rule
pub front-units : (s : Basis) (r : Run) (more : List CoreEvent) → KeepsUnitRule s (extended r more) → KeepsUnitRule s r
front-units s r more keeps at e here =
    let t = get-front r.events more at e here.there in
    let same : take at (r.events ++ more) ≡ take at r.events = take-append-le at r.events more t.1 in
    subst (λ (es : List CoreEvent). IsDue s (run (begins r) es) (got_from (begins r) es) e) same
    (keeps at e (record { there = t.0; applied = subst (λ (es : List CoreEvent). applies (run (begins r) es) e ≡ true) (sym same) here.applied }))

-- ---- numbers

-- the next unit's number only grows
pub front-next : (r : Run) (more : List CoreEvent) → (ends r).units.next ≤ (ends (extended r more)).units.next
front-next r more = subst (λ (w : CoreState). (ends r).units.next ≤ w.units.next) (sym (ends-more r more)) (grown-run (ends r) more).0

lines-up : (n : ℕ) (lines : ℕ) (x : Origin) → n ≤ lines → n ≤ lines_with lines x
lines-up n lines (Line k) le = omega (arith, le)
lines-up n lines (Child p i d) le = le

abbrev HasLines : ℕ → CoreState → Type 0
HasLines n w = n ≤ w.units.lines

lines-change : (n : ℕ) (w : CoreState) (e : CoreEvent) (w' : CoreState) → Change w e w' → applies w e ≡ true → HasLines n w → HasLines n w'
lines-change n w e w' (bad line why q) a s = omega (arith, s)
lines-change n w e w' (begin origin call plain c) a s = lines-up n w.units.lines origin s
lines-change n w e w' (lock v g mode running free first here) a s = s
lines-change n w e w' (raise v g mode running free held here uncovered) a s = s
lines-change n w e w' (refuse v g mode why running q) a s = s
lines-change n w e w' (finish v effect running plain of_call reads alone) a s = s
lines-change n w e w' (end_plain v effect running plain of_call bare) a s = s
lines-change n w e w' (end_snapshot v at outcome running plain kids answer) a s = s
lines-change n w e w' (release v g over held) a s = s
lines-change n w e w' (take_batch none some) a s = s
lines-change n w e w' (vote k g kept b q number un planned fresh) a s = s
lines-change n w e w' (decide_some k b q number un voted some) a s = s
lines-change n w e w' (decide_none k b q number un voted not_one) a s = s
lines-change n w e w' (seal_batch k b ds q number un) a s = s
lines-change n w e w' (spoil_batch k b ds q number un) a s = s
lines-change n w e w' (doubt_batch k b ds q number un) a s = s
lines-change n w e w' (learn v g wrote final fresh) a s = s
lines-change n w e w' (emit q) a s = s
lines-change n w e w' (halt_run q) a s = s
lines-change n w e w' (want v g running free fresh) a s = s
lines-change n w e w' (load g v state gone wanted) a s = s

-- so does the count of lines
pub front-lines : (r : Run) (more : List CoreEvent) → (ends r).units.lines ≤ (ends (extended r more)).units.lines
front-lines r more =
    subst (λ (w : CoreState). (ends r).units.lines ≤ w.units.lines) (sym (ends-more r more))
    (run-keeps (HasLines (ends r).units.lines) (lines-change (ends r).units.lines) (λ w here s. s) more (ends r) (omega arith))

-- ---- a stop

abbrev IsStopped : CoreState → Type 0
IsStopped w = w.units.halt ≡ true

stop-change : (w : CoreState) (e : CoreEvent) (w' : CoreState) → Change w e w' → applies w e ≡ true → IsStopped w → IsStopped w'
stop-change w e w' (bad line why q) a s = s
stop-change w e w' (begin origin call plain c) a s = s
stop-change w e w' (lock v g mode running free first here) a s = s
stop-change w e w' (raise v g mode running free held here uncovered) a s = s
stop-change w e w' (refuse v g mode why running q) a s = s
stop-change w e w' (finish v effect running plain of_call reads alone) a s = s
stop-change w e w' (end_plain v effect running plain of_call bare) a s = s
stop-change w e w' (end_snapshot v at outcome running plain kids answer) a s = s
stop-change w e w' (release v g over held) a s = s
stop-change w e w' (take_batch none some) a s = s
stop-change w e w' (vote k g kept b q number un planned fresh) a s = s
stop-change w e w' (decide_some k b q number un voted some) a s = s
stop-change w e w' (decide_none k b q number un voted not_one) a s = s
stop-change w e w' (seal_batch k b ds q number un) a s = s
stop-change w e w' (spoil_batch k b ds q number un) a s = s
stop-change w e w' (doubt_batch k b ds q number un) a s = s
stop-change w e w' (learn v g wrote final fresh) a s = s
stop-change w e w' (emit q) a s = s
stop-change w e w' (halt_run q) a s = refl
stop-change w e w' (want v g running free fresh) a s = s
stop-change w e w' (load g v state gone wanted) a s = s

-- who isn't stopped wasn't
pub front-going : (r : Run) (more : List CoreEvent) → (ends (extended r more)).units.halt ≡ false → (ends r).units.halt ≡ false
front-going r more going = by (ends r).units.halt refl
  where
    by : (h : Bool) → (ends r).units.halt ≡ h → (ends r).units.halt ≡ false
    by false q = q
    by true q =
        absurd (true≢false (sym (subst IsStopped (sym (ends-more r more)) (run-keeps IsStopped stop-change (λ w here s. s) more (ends r) q)) ∙ going))

-- ---- entries behind a run

-- their events
abbrev pub events_told : List Told → List CoreEvent
events_told rest = map (λ (x : Told). x.event) rest

-- the run behind them is the run with their events
pub after-is : (rest : List Told) (r : Run) → run_after r rest ≡ extended r (events_told rest)
after-is [] r = λ i. record r { events = sym (append-nil r.events) i }
after-is (x ∷ rest) r = after-is rest (extended r (x.event ∷ [])) ∙ ap (λ (es : List CoreEvent). record r { events = es }) (append_assoc r.events (x.event ∷ []) (events_told rest))

pub after-base : (rest : List Told) (r : Run) → (run_after r rest).base ≡ r.base
after-base rest r = ap (λ (x : Run). x.base) (after-is rest r)

pub after-kinds : (rest : List Told) (r : Run) → (run_after r rest).kinds ≡ r.kinds
after-kinds rest r = ap (λ (x : Run). x.kinds) (after-is rest r)

module _ (r : Run) (rest : List Told) where
  pub after-units : (s : Basis) → KeepsUnitRule s (run_after r rest) → KeepsUnitRule s r
  after-units s keeps = front-units s r (events_told rest) (subst (KeepsUnitRule s) (after-is rest r) keeps)

  pub after-going : (ends (run_after r rest)).units.halt ≡ false → (ends r).units.halt ≡ false
  after-going going = front-going r (events_told rest) (ap (λ (x : Run). (ends x).units.halt) (sym (after-is rest r)) ∙ going)

  pub after-next : (ends r).units.next ≤ (ends (run_after r rest)).units.next
  after-next = subst (λ (x : Run). (ends r).units.next ≤ (ends x).units.next) (sym (after-is rest r)) (front-next r (events_told rest))

  pub after-lines : (ends r).units.lines ≤ (ends (run_after r rest)).units.lines
  after-lines = subst (λ (x : Run). (ends r).units.lines ≤ (ends x).units.lines) (sym (after-is rest r)) (front-lines r (events_told rest))
