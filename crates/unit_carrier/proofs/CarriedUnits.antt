-- What is known of carried units, as calls follow one another.
use Rattle.std.proofs.Common.{◌≡◌, ℕ, ◌<◌, ◌≤◌, List, [], ◌∷◌, Bool, true, false, inl, inr, ⊎_elim, refl, sym, ap, ◌∙◌, subst, arith, map, None}
use Rattle.std.specs.Prelude.{filter, is_some}
use Rattle.std.specs.List.{AllByRecursion}
use Rattle.cell_model.specs.Units.{UnitsAscend}
use Rattle.core_model.specs.CoreState.{UnitNo, Member, CoreState}
use Rattle.core_model.specs.LockAnswers.{IsGoing}
use Rattle.core_model.specs.Tests.{is_decided, outcome_of}
use Rattle.core_model.specs.LegalRuns.{Run, ends}
use Rattle.core_model.specs.Laws.{extended}
use Rattle.core_model.specs.declared.events.CoreEvent.{CoreEvent}
use Rattle.core_model.specs.declared.events.CoreReply.{CoreReply}
use Rattle.core_laws.proofs.Proper.{grown-ends}
use Rattle.std.proofs.lemmas.Bool.{cond_both}
use Rattle.core_access.specs.OneHolder.{none_comes, own_sight}
use Rattle.core_access.specs.SettlerEvents.{is_settling}
use Rattle.core_access.specs.Sights.{Sight, run_seen, told, Looks, Tells, Counts}
use Rattle.core_access.proofs.Sights.{looks-alone, run-told, tells-alone, tells-counts, told-stays}
use Rattle.core_access.proofs.OneHolder.{own-counts, own-alone}
use Rattle.script_tree.specs.Programs.{ProgramTree}
use Rattle.turn_rules.proofs.Growth.{ends-more}
use Rattle.txn_agent.specs.declared.agent.Agent.{Agent}
use Rattle.txn_agent.specs.declared.work.Doing.TheVariants.{Asks, Awaits, Frees, Stopped}
use Rattle.txn_agent.specs.declared.work.Doing.{Doing}
use Rattle.txn_agent.specs.declared.work.Carried.{Carried}
use Rattle.txn_agent.specs.CoreLink.{Knows, KnowsDoing}
use Rattle.txn_agent.specs.AgentStep.{Acts, Hears}
use Rattle.txn_agent.specs.ShownMoves.{ShowsMove, moves}
use Rattle.txn_agent.proofs.StepPromises.{knows-settles}
use Rattle.unit_carrier.specs.CarriedUnits.{HasCoreAlone, AreCarried, CameAs, units_carried}
use Rattle.unit_carrier.proofs.Origins.{origin-event}

-- ---- nobody else puts events

-- a look shows nothing new
pub looks-same : (may : CoreEvent → Bool) (s t : Sight) → may ≡ none_comes → Looks may s t → t ≡ s
looks-same may s t none l = looks-alone s t (subst (λ (m : CoreEvent → Bool). Looks m s t) none l)

-- an event is one entry more
pub tells-same : (may : CoreEvent → Bool) (s t : Sight) (e : CoreEvent) (r : CoreReply) → may ≡ none_comes → Tells may s e r t → t ≡ told s e r
tells-same may s t e r none l = tells-alone s t e r (subst (λ (m : CoreEvent → Bool). Tells m s e r t) none l)

-- so one has it alone still
pub tells-holds : (may : CoreEvent → Bool) (s t : Sight) (e : CoreEvent) (r : CoreReply) → Tells may s e r t → HasCoreAlone may s → HasCoreAlone may t
tells-holds may s t e r l h =
    subst (HasCoreAlone may) (sym (tells-same may s t e r h.none l)) (record {
      none = h.none;
      counts = subst Counts (tells-same may s t e r h.none l) (tells-counts may s t e r l h.counts);
      alone = λ harmless. told-stays harmless s e r (h.alone harmless);
      above = h.above;
    })

-- a step leaves one alone with the core
pub acts-holds : (may : CoreEvent → Bool) (types : ProgramTree) (u : UnitNo) (s t : Sight) → Acts may types u s t → HasCoreAlone may s → HasCoreAlone may t
acts-holds may types u s t (inl l) h = subst (HasCoreAlone may) (sym (looks-same may s t h.none l)) h
acts-holds may types u s t (inr (e, (r, p))) h = tells-holds may s t e r p.told h

-- ---- units that have begun

-- what began by then has begun behind more
pub next-more : (r : Run) (e : CoreEvent) → (ends r).units.next ≤ (ends (extended r (e ∷ []))).units.next
next-more r e = (grown-ends (extended r (e ∷ [])) r.events (e ∷ []) refl).0

pub tells-next : (may : CoreEvent → Bool) (s t : Sight) (e : CoreEvent) (r : CoreReply) → may ≡ none_comes → Tells may s e r t → (ends (run_seen s)).units.next ≤ (ends (run_seen t)).units.next
tells-next may s t e r none l =
    subst (λ (x : Run). (ends (run_seen s)).units.next ≤ (ends x).units.next)
    (sym (ap run_seen (tells-same may s t e r none l) ∙ run-told s e r)) (next-more (run_seen s) e)

pub acts-next : (may : CoreEvent → Bool) (types : ProgramTree) (u : UnitNo) (s t : Sight) → may ≡ none_comes → Acts may types u s t → (ends (run_seen s)).units.next ≤ (ends (run_seen t)).units.next
acts-next may types u s t none (inl l) = let e : t ≡ s = looks-same may s t none l in subst (λ (x : Sight). (ends (run_seen s)).units.next ≤ (ends (run_seen x)).units.next) (sym e) (same (ends (run_seen s)).units.next)
  where
    same : (n : ℕ) → n ≤ n
    same n = omega arith
acts-next may types u s t none (inr (e, (r, p))) = tells-next may s t e r none p.told

pub below-more : (us : List UnitNo) (a b : ℕ) → a ≤ b → ((u : UnitNo) → Member u us → u.0 < a) → (u : UnitNo) → Member u us → u.0 < b
below-more us a b le below u m = let x = below u m in omega (arith, x, le)

-- and is of the same origin
pub tells-origin : (may : CoreEvent → Bool) (s t : Sight) (e : CoreEvent) (r : CoreReply) (u : UnitNo) → may ≡ none_comes → Tells may s e r t → u.0 < (ends (run_seen s)).units.next
    → (ends (run_seen t)).units.origin u ≡ (ends (run_seen s)).units.origin u
tells-origin may s t e r u none l less =
    ap (λ (x : Run). (ends x).units.origin u) (ap run_seen (tells-same may s t e r none l) ∙ run-told s e r)
    ∙ ap (λ (w : CoreState). w.units.origin u) (ends-more (run_seen s) e) ∙ origin-event u (ends (run_seen s)) e less

pub acts-origin : (may : CoreEvent → Bool) (types : ProgramTree) (u : UnitNo) (s t : Sight) (v : UnitNo) → may ≡ none_comes → Acts may types u s t → v.0 < (ends (run_seen s)).units.next
    → (ends (run_seen t)).units.origin v ≡ (ends (run_seen s)).units.origin v
acts-origin may types u s t v none (inl l) less = ap (λ (x : Sight). (ends (run_seen x)).units.origin v) (looks-same may s t none l)
acts-origin may types u s t v none (inr (e, (r, p))) less = tells-origin may s t e r v none p.told less

-- ---- all of a list

pub all-each : {A : Type 0} (P Q : A → Type 0) (xs : List A) → ((x : A) → Member x xs → P x → Q x) → AllByRecursion P xs → AllByRecursion Q xs
all-each P Q [] f all = all
all-each P Q (x ∷ xs) f all = (f x (inl refl) all.0, all-each P Q xs (λ y m. f y (inr m)) all.1)

-- what an element of it is made to is one of those
pub map-member : {A B : Type 0} (f : A → B) (xs : List A) (x : A) → Member x xs → Member (f x) (map f xs)
map-member f [] x m = absurd m
map-member f (y ∷ xs) x (inl e) = inl (ap f e)
map-member f (y ∷ xs) x (inr m) = inr (map-member f xs x m)

pub all-filter : {A : Type 0} (P : A → Type 0) (p : A → Bool) (xs : List A) → AllByRecursion P xs → AllByRecursion P (filter p xs)
all-filter P p [] all = all
all-filter P p (x ∷ xs) all = cond_both (p x) (x ∷ filter p xs) (filter p xs) (AllByRecursion P) (λ e. (all.0, all-filter P p xs all.1)) (λ e. all-filter P p xs all.1)

-- those that stay of the units
map-filter-member : {A B : Type 0} (f : A → B) (p : A → Bool) (xs : List A) (y : B) → Member y (map f (filter p xs)) → Member y (map f xs)
map-filter-member f p [] y m = m
map-filter-member {A} f p (x ∷ xs) y m =
    cond_both (p x) (x ∷ filter p xs) (filter p xs) (λ (l : List A). Member y (map f l) → Member y (f x ∷ map f xs))
    (λ e n. ⊎_elim (λ q. inl q) (λ k. inr (map-filter-member f p xs y k)) n)
    (λ e n. inr (map-filter-member f p xs y n)) m

pub older-some : (p : Agent → Bool) (agents : List Agent) → UnitsAscend (units_carried agents) → UnitsAscend (units_carried (filter p agents))
older-some p [] o = o
older-some p (a ∷ agents) o =
    cond_both (p a) (a ∷ filter p agents) (filter p agents) (λ (l : List Agent). UnitsAscend (units_carried l))
    (λ e. ((λ v m. o.0 v (map-filter-member (λ (x : Agent). x.carried.unit) p agents v m)), older-some p agents o.1))
    (λ e. older-some p agents o.1)

-- ---- what is known of all

-- they came from where they came, where each unit that has begun is of the same origin
pub came-still : (s t : Sight) (agents : List Agent) → ((v : UnitNo) → v.0 < (ends (run_seen s)).units.next → (ends (run_seen t)).units.origin v ≡ (ends (run_seen s)).units.origin v)
    → ((u : UnitNo) → Member u (units_carried agents) → u.0 < (ends (run_seen s)).units.next) → AllByRecursion (CameAs s) agents → AllByRecursion (CameAs t) agents
came-still s t agents same below all =
    all-each (CameAs s) (CameAs t) agents (λ a m k. same a.carried.unit (below a.carried.unit (map-member (λ (x : Agent). x.carried.unit) agents a m)) ∙ k) all

-- behind an event of the settler's
pub settles-carried : (types : ProgramTree) (may : CoreEvent → Bool) (s t : Sight) (e : CoreEvent) (r : CoreReply) (agents : List Agent)
    → Tells may s e r t → is_settling e ≡ true → AreCarried types may s agents → AreCarried types may t agents
settles-carried types may s t e r agents l q c = record {
  holds = tells-holds may s t e r l c.holds;
  known = all-each (Knows types s) (Knows types t) agents (λ a m k. knows-settles may types a.carried a.doing s t e r l q c.holds.counts k) c.known;
  came = came-still s t agents (λ v less. tells-origin may s t e r v c.holds.none l less) c.below c.came;
  older = c.older;
  below = below-more (units_carried agents) (ends (run_seen s)).units.next (ends (run_seen t)).units.next (tells-next may s t e r c.holds.none l) c.below;
}

-- where some are dropped
pub drops-carried : (types : ProgramTree) (may : CoreEvent → Bool) (s : Sight) (agents : List Agent) (stays : Agent → Bool) → AreCarried types may s agents → AreCarried types may s (filter stays agents)
drops-carried types may s agents stays c = record {
  holds = c.holds;
  known = all-filter (Knows types s) stays agents c.known;
  came = all-filter (CameAs s) stays agents c.came;
  older = older-some stays agents c.older;
  below = λ u m. c.below u (map-filter-member (λ (a : Agent). a.carried.unit) stays agents u m);
}

-- nobody, by one who has a core
pub none-carried : (types : ProgramTree) (r : Run) → 0 < r.base → AreCarried types none_comes (own_sight r) []
none-carried types r above = record {
  holds = record { none = refl; counts = own-counts r; alone = λ harmless. own-alone harmless r; above = above };
  known = tt;
  came = tt;
  older = tt;
  below = λ u m. absurd m;
}

-- ---- who can move

undecided : (w : CoreState) (child : UnitNo) → outcome_of w child ≡ None → is_decided w child ≡ false
undecided w child e = ap is_some e

-- what is shown of a unit that has heard is the turn rule's
pub shows-move : (types : ProgramTree) (may : CoreEvent → Bool) (s : Sight) (c : Carried) (doing : Doing) (b : Bool) → HasCoreAlone may s → KnowsDoing types s c doing → Hears s doing
    → ShowsMove types (run_seen s) c doing b → IsGoing (ends (run_seen s)) → b ≡ moves types (run_seen s) c
shows-move types may s c (Asks work pause) b h knows hears shows going = shows
shows-move types may s c (Awaits work child) b h knows hears shows going =
    let no : b ≡ false = shows.0 ∙ undecided (ends (run_seen s)) child hears in no ∙ sym (shows.1 no)
shows-move types may s c (Frees held) b h knows hears shows going = shows
shows-move types may s c Stopped b h knows hears shows going = absurd ((knows (h.alone _)).stopped going)
