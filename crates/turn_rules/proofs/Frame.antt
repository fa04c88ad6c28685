-- Events of others leave a unit as it was: its phase, its locks, what it got, and what its script asks for.
use Rattle.std.proofs.Common.{◌≡◌, ℕ, ◌≤◌, List, [], ◌∷◌, ◌++◌, Bool, true, false, ◌⊎◌, inl, inr, Option, Some, None, refl, sym, ap, ◌∙◌, subst, append-nil, le_refl}
use Rattle.std.specs.Prelude.{not, if◌then◌else◌, option_map, option_and_then}
use Rattle.std.proofs.lemmas.List.Elements.{filter-append}
use Rattle.std.proofs.lemmas.Bool.{and_parts, cond_both, cases_Bool}
use Rattle.base_types.specs.declared.calls.Origin.TheVariants.{Line, Child}
use Rattle.cell_model.specs.Locks.{is_hold_of, dropped, granted}
use Rattle.cell_model.proofs.Units.{same_unit-true, same_unit-false}
use Rattle.core_model.specs.CoreState.{UnitNo, GrainId, same_unit, put_grain, Hold, Mode, Outcome, Origin, Call, Units, CoreState}
use Rattle.core_model.specs.declared.phases.Phase.TheVariants.{Unborn}
use Rattle.core_model.specs.Tests.{outcome_of}
use Rattle.core_model.specs.declared.events.CoreEvent.{CoreEvent}
use Rattle.core_model.specs.declared.events.CoreEvent.TheVariants.{Bad, Begin, Grant, Refuse, Finish, EndPlain, EndSnapshot, Release, Take, Vote, Decide, Sealed, NotSealed, Doubt, Learn, Emitted, Halt, Want, Load}
use Rattle.core_model.specs.Changes.{new_unit, begun, swept, swept_by}
use Rattle.core_model.specs.Events.{applies, can, does, step, is_allowed}
use Rattle.core_model.specs.LegalRuns.{Run, ends}
use Rattle.core_laws.proofs.Puts.{put-other, grain-at}
use Rattle.core_laws.proofs.EventCases.{Change, bad, begin, lock, raise, refuse, finish, end_plain, end_snapshot, release, take_batch, vote, decide_some, decide_none, seal_batch, spoil_batch, doubt_batch, learn, emit, halt_run, want, load, decode}
use Rattle.script_tree.specs.Programs.{ProgramTree}
use Rattle.script_meaning.specs.Trails.{Given, GivenLock, GivenRaise, GivenOutcome, locks_of, answers_of}
use Rattle.base_types.specs.Origins.{depth_of}
use Rattle.promise_spec.specs.UnitAnswers.{Got, GotLock, GotRaise, GotChild, got_lock, got_by, and_given, given_by, wanted_by, got_in}
use Rattle.turn_rules.specs.NextEvent.{with_event, is_begin, is_own}
use Rattle.turn_rules.specs.UnitFrame.{own_holds, IsStill}
use Rattle.script_meaning.specs.Play as script
use Rattle.turn_rules.proofs.Growth.{got-event}
use Rattle.promise_spec.proofs.Lists.{some_is}
use Rattle.core_laws.proofs.LoadlessKept.{LoadlessKept}

-- a list that isn't chosen is empty
none-if : {A : Type 0} (b : Bool) (xs : List A) → b ≡ false → (if b then xs else []) ≡ []
none-if true xs e = absurd cc
none-if false xs e = refl

-- another's event gives the unit nothing
pub got-others : (w : CoreState) (u : UnitNo) (e : CoreEvent) → is_own u e ≡ false → got_by w u e ≡ []
got-others w u (Bad n why) o = refl
got-others w u (Begin (Line n) call plain) o = refl
got-others w u (Begin (Child p i d) call plain) o = none-if (same_unit p u) (GotChild call d (new_unit w) ∷ []) o
got-others w u (Grant v g mode) o = none-if (same_unit v u) (got_lock w u g mode ∷ []) o
got-others w u (Refuse v g mode) o = refl
got-others w u (Finish v e) o = refl
got-others w u (EndPlain v e) o = refl
got-others w u (EndSnapshot v at outcome) o = refl
got-others w u (Release v g) o = refl
got-others w u Take o = refl
got-others w u (Vote n g kept) o = refl
got-others w u (Decide n) o = refl
got-others w u (Sealed n) o = refl
got-others w u (NotSealed n) o = refl
got-others w u (Doubt n) o = refl
got-others w u (Learn v g) o = refl
got-others w u Emitted o = refl
got-others w u Halt o = refl
got-others w u (Want v g) o = refl
got-others w u (Load g v state) o = refl

-- so what it got stays
pub got-stays : (r : Run) (u : UnitNo) (e : CoreEvent) → is_own u e ≡ false → got_in (with_event r e) u ≡ got_in r u
got-stays r u e o = got-event r e u ∙ ap (λ (l : List Got). got_in r u ++ l) (nothing (applies (ends r) e)) ∙ append-nil (got_in r u)
  where
    nothing : (b : Bool) → (if b then got_by (ends r) u e else []) ≡ []
    nothing true = got-others (ends r) u e o
    nothing false = refl

-- ---- locks

-- the locks of one unit stand without those of another
own-dropped : (u v : UnitNo) (hs : List Hold) → (u ≡ v → ⊥) → own_holds u (dropped hs v) ≡ own_holds u hs
own-dropped u v [] n = refl
own-dropped u v (h ∷ hs) n = by (own-dropped u v hs n) (cases_Bool (is_hold_of v h)) (cases_Bool (is_hold_of u h))
  where
    by : own_holds u (dropped hs v) ≡ own_holds u hs → (is_hold_of v h ≡ true) ⊎ (is_hold_of v h ≡ false) → (is_hold_of u h ≡ true) ⊎ (is_hold_of u h ≡ false) → own_holds u (dropped (h ∷ hs) v) ≡ own_holds u (h ∷ hs)
    by more (inl a) (inl b) = absurd (n (sym (same_unit-true h.unit u b) ∙ same_unit-true h.unit v a))
    by more (inl a) (inr b) =
        subst (λ (t : Bool). own_holds u (if not t then h ∷ dropped hs v else dropped hs v) ≡ own_holds u (h ∷ hs)) (sym a)
        (subst (λ (t : Bool). own_holds u (dropped hs v) ≡ (if t then h ∷ own_holds u hs else own_holds u hs)) (sym b) more)
    by more (inr a) b =
        subst (λ (t : Bool). own_holds u (if not t then h ∷ dropped hs v else dropped hs v) ≡ own_holds u (h ∷ hs)) (sym a) (with (is_hold_of u h))
      where
        with : (t : Bool) → (if t then h ∷ own_holds u (dropped hs v) else own_holds u (dropped hs v)) ≡ (if t then h ∷ own_holds u hs else own_holds u hs)
        with true = ap (λ (l : List Hold). h ∷ l) more
        with false = more

-- a lock is granted to another
own-granted : (u v : UnitNo) (hs : List Hold) (mode : Mode) → (u ≡ v → ⊥) → own_holds u (granted hs v mode) ≡ own_holds u hs
own-granted u v hs mode n =
    filter-append (is_hold_of u) (dropped hs v) (record { unit = v; mode = mode } ∷ [])
    ∙ ap (λ (l : List Hold). own_holds u (dropped hs v) ++ l) (none-if (is_hold_of u new) (new ∷ []) (none (is_hold_of u new) refl))
    ∙ append-nil (own_holds u (dropped hs v))
    ∙ own-dropped u v hs n
  where
    new : Hold
    new = record { unit = v; mode = mode }

    none : (t : Bool) → is_hold_of u new ≡ t → is_hold_of u new ≡ false
    none true a = absurd (n (sym (same_unit-true v u a)))
    none false a = a

-- one grain has other locks, of others
own-put : (u : UnitNo) (w : CoreState) (g : GrainId) (hs : List Hold) → own_holds u hs ≡ own_holds u (w.cells.holds g) → (k : GrainId) → own_holds u (put_grain w.cells.holds g hs k) ≡ own_holds u (w.cells.holds k)
own-put u w g hs e k = grain-at w.cells.holds g hs (λ (l : List Hold). own_holds u l ≡ own_holds u (w.cells.holds k)) k
    (λ q. e ∙ ap (λ (z : GrainId). own_holds u (w.cells.holds z)) (sym q)) (λ q. refl)

-- ---- the unit

-- a unit is as it was
pub still-same : (u : UnitNo) (w : CoreState) → IsStill u w w
still-same u w = record { phase = refl; origin = refl; call = refl; plain = refl; kids = refl; reads = refl; own = λ g. refl }

-- and stays so from state to state
pub still-more : (u : UnitNo) (a b c : CoreState) → IsStill u a b → IsStill u b c → IsStill u a c
still-more u a b c s t = record {
  phase = t.phase ∙ s.phase;
  origin = t.origin ∙ s.origin;
  call = t.call ∙ s.call;
  plain = t.plain ∙ s.plain;
  kids = t.kids ∙ s.kids;
  reads = t.reads ∙ s.reads;
  own = λ g. t.own g ∙ s.own g;
}

-- units of other numbers differ
other : (u v : UnitNo) → same_unit v u ≡ false → u ≡ v → ⊥
other u v o q = same_unit-false v u o (sym q)

-- another unit begins
still-begun : (u : UnitNo) (w : CoreState) (origin : Origin) (call : Call) (plain : Bool) → (u ≡ new_unit w → ⊥) → is_own u (Begin origin call plain) ≡ false → IsStill u w (begun w origin call plain)
still-begun u w (Line n) call plain new o = record {
  phase = put-other w.units.phase (new_unit w) _ u new;
  origin = put-other w.units.origin (new_unit w) _ u new;
  call = put-other w.units.call (new_unit w) call u new;
  plain = put-other w.units.plain (new_unit w) plain u new;
  kids = refl;
  reads = refl;
  own = λ g. refl;
}
still-begun u w (Child p i d) call plain new o = record {
  phase = put-other w.units.phase (new_unit w) _ u new;
  origin = put-other w.units.origin (new_unit w) _ u new;
  call = put-other w.units.call (new_unit w) call u new;
  plain = put-other w.units.plain (new_unit w) plain u new;
  kids = put-other w.units.kids p _ u (other u p o);
  reads = refl;
  own = λ g. refl;
}

-- units and locks are the same
still-units : (u : UnitNo) (w w' : CoreState) → w'.units ≡ w.units → w'.cells.holds ≡ w.cells.holds → IsStill u w w'
still-units u w w' units holds = record {
  phase = ap (λ (x : Units). x.phase u) units;
  origin = ap (λ (x : Units). x.origin u) units;
  call = ap (λ (x : Units). x.call u) units;
  plain = ap (λ (x : Units). x.plain u) units;
  kids = ap (λ (x : Units). x.kids u) units;
  reads = ap (λ (x : Units). x.reads u) units;
  own = λ g. ap (λ (f : GrainId → List Hold). own_holds u (f g)) holds;
}

-- an event of others that applies
still-change : (u : UnitNo) (w : CoreState) (e : CoreEvent) (w' : CoreState) → Change w e w' → (is_begin e ≡ true → u ≡ new_unit w → ⊥) → is_own u e ≡ false → IsStill u w w'
still-change u w e w' (bad line why q) new o = record { phase = refl; origin = refl; call = refl; plain = refl; kids = refl; reads = refl; own = λ k. refl }
still-change u w e w' (begin origin call plain c) new o = still-begun u w origin call plain (new refl) o
still-change u w e w' (lock v g mode running free first here) new o = record {
  phase = refl;
  origin = refl;
  call = refl;
  plain = refl;
  kids = refl;
  reads = put-other w.units.reads v _ u (other u v o);
  own = own-put u w g (granted (w.cells.holds g) v mode) (own-granted u v (w.cells.holds g) mode (other u v o));
}
still-change u w e w' (raise v g mode running free held here uncovered) new o = record {
  phase = refl;
  origin = refl;
  call = refl;
  plain = refl;
  kids = refl;
  reads = refl;
  own = own-put u w g (granted (w.cells.holds g) v mode) (own-granted u v (w.cells.holds g) mode (other u v o));
}
still-change u w e w' (refuse v g mode why running q) new o = record {
  phase = put-other w.units.phase v _ u (other u v o);
  origin = refl;
  call = refl;
  plain = refl;
  kids = refl;
  reads = refl;
  own = λ k. refl;
}
still-change u w e w' (finish v effect running plain of_call reads alone) new o = record {
  phase = put-other w.units.phase v _ u (other u v o);
  origin = refl;
  call = refl;
  plain = refl;
  kids = refl;
  reads = refl;
  own = λ k. refl;
}
still-change u w e w' (end_plain v effect running plain of_call bare) new o = record {
  phase = put-other w.units.phase v _ u (other u v o);
  origin = refl;
  call = refl;
  plain = refl;
  kids = refl;
  reads = refl;
  own = λ k. refl;
}
still-change u w e w' (end_snapshot v at outcome running plain kids answer) new o = record {
  phase = put-other w.units.phase v _ u (other u v o);
  origin = refl;
  call = refl;
  plain = refl;
  kids = refl;
  reads = refl;
  own = λ k. refl;
}
still-change u w e w' (release v g over held) new o = record {
  phase = refl;
  origin = refl;
  call = refl;
  plain = refl;
  kids = refl;
  reads = refl;
  own = own-put u w g (dropped (w.cells.holds g) v) (own-dropped u v (w.cells.holds g) (other u v o));
}
still-change u w e w' (take_batch none some) new o = still-units u w w' refl refl
still-change u w e w' (vote n g kept b q number un planned fresh) new o = still-units u w w' refl refl
still-change u w e w' (decide_some n b q number un voted some) new o = still-units u w w' refl refl
still-change u w e w' (decide_none n b q number un voted none) new o = still-units u w w' refl refl
still-change u w e w' (seal_batch n b ds q number un) new o = still-units u w w' refl refl
still-change u w e w' (spoil_batch n b ds q number un) new o = still-units u w w' refl refl
still-change u w e w' (doubt_batch n b ds q number un) new o = still-units u w w' refl refl
still-change u w e w' (learn v g wrote final fresh) new o = still-units u w w' refl refl
still-change u w e w' (emit q) new o = still-units u w w' refl refl
still-change u w e w' (halt_run q) new o = record { phase = refl; origin = refl; call = refl; plain = refl; kids = refl; reads = refl; own = λ k. refl }
still-change u w e w' (want v g running free fresh) new o = record { phase = refl; origin = refl; call = refl; plain = refl; kids = refl; reads = refl; own = λ k. refl }
still-change u w e w' (load g v state gone wanted) new o = record { phase = refl; origin = refl; call = refl; plain = refl; kids = refl; reads = refl; own = λ k. refl }

-- grains that leave memory
still-swept : (u : UnitNo) (w w' : CoreState) → IsStill u w w' → IsStill u w (swept w')
still-swept u w w' s = go w'.cells.capacity
  where
    go : (c : Option ℕ) → IsStill u w (swept_by w' c)
    go None = s
    go (Some m) = record { phase = s.phase; origin = s.origin; call = s.call; plain = s.plain; kids = s.kids; reads = s.reads; own = s.own }

-- a unit that has begun isn't the next one
pub begun-old : (w : CoreState) (u : UnitNo) → LoadlessKept w → (w.units.phase u ≡ Unborn → ⊥) → u ≡ new_unit w → ⊥
begun-old w u k born q = born (k.0.unborn u (subst (λ (v : UnitNo). w.units.next ≤ v.0) (sym q) (le_refl w.units.next)))

-- one event of others
pub still-event : (u : UnitNo) (w : CoreState) (e : CoreEvent) → (is_begin e ≡ true → u ≡ new_unit w → ⊥) → is_own u e ≡ false → IsStill u w (step w e)
still-event u w e new o = cond_both (applies w e) (swept (does w e)) w (IsStill u w)
    (λ a. still-swept u w (does w e) (still-change u w e (does w e) (decode w e (and_parts (is_allowed w e) (can w e) a).1) new o))
    (λ a. still-same u w)

-- one event of others, for a unit that has begun
pub still-step : (u : UnitNo) (w : CoreState) (e : CoreEvent) → LoadlessKept w → (w.units.phase u ≡ Unborn → ⊥) → is_own u e ≡ false → IsStill u w (step w e)
still-step u w e k born o = still-event u w e (λ b. begun-old w u k born) o

-- ---- what the script asks for

-- outcomes that are known stay
abbrev pub Extends : (UnitNo → Option Outcome) → (UnitNo → Option Outcome) → Type 0
Extends outcome more = (u : UnitNo) (o : Outcome) → outcome u ≡ Some o → more u ≡ Some o

-- what was given in two parts
and_given-some : (one : Given) (o : Option (List Given)) (trail : List Given) → and_given one o ≡ Some trail → (more : List Given) × (o ≡ Some more) × (one ∷ more ≡ trail)
and_given-some one None trail e = absurd cc
and_given-some one (Some more) trail e = (more, refl, some_is (one ∷ more) trail e)

-- and put together
and_given-as : (one : Given) (o : Option (List Given)) (more trail : List Given) → o ≡ Some more → one ∷ more ≡ trail → and_given one o ≡ Some trail
and_given-as one o more trail e q = ap (and_given one) e ∙ ap Some q

-- what was given is given still
pub given-stays : (w w' : CoreState) (got : List Got) (trail : List Given) → Extends (outcome_of w) (outcome_of w') → given_by w got ≡ Some trail → given_by w' got ≡ Some trail
given-stays w w' [] trail ext e = e
given-stays w w' (GotLock g mode state ∷ got) trail ext e =
    let t = and_given-some (GivenLock g mode state) (given_by w got) trail e in
    and_given-as (GivenLock g mode state) (given_by w' got) t.0 trail (given-stays w w' got t.0 ext t.1) t.2
given-stays w w' (GotRaise g ∷ got) trail ext e =
    let t = and_given-some (GivenRaise g) (given_by w got) trail e in
    and_given-as (GivenRaise g) (given_by w' got) t.0 trail (given-stays w w' got t.0 ext t.1) t.2
given-stays w w' (GotChild call depth child ∷ got) trail ext e = by (λ more. given-stays w w' got more ext) (outcome_of w child) refl e
  where
    by : ((more : List Given) → given_by w got ≡ Some more → given_by w' got ≡ Some more) → (o : Option Outcome) → outcome_of w child ≡ o → option_and_then (λ outcome. and_given (GivenOutcome call depth outcome) (given_by w got)) o ≡ Some trail →
        option_and_then (λ outcome. and_given (GivenOutcome call depth outcome) (given_by w' got)) (outcome_of w' child) ≡ Some trail
    by rest None q h = absurd cc
    by rest (Some o) q h =
        let t = and_given-some (GivenOutcome call depth o) (given_by w got) trail h in
        ap (λ x. option_and_then (λ outcome. and_given (GivenOutcome call depth outcome) (given_by w' got)) x) (ext child o q)
        ∙ and_given-as (GivenOutcome call depth o) (given_by w' got) t.0 trail (rest t.0 t.1) t.2

-- what it asks for over what it was given
pub wants-as : (types : ProgramTree) (w : CoreState) (u : UnitNo) (got : List Got) (trail : List Given) → given_by w got ≡ Some trail →
    wanted_by types w u got ≡ Some (script.next types (w.units.call u) (depth_of (w.units.origin u)) (locks_of trail) (answers_of trail))
wants-as types w u got trail e = ap (λ (o : Option (List Given)). option_map (λ given. script.next types (w.units.call u) (depth_of (w.units.origin u)) (locks_of given) (answers_of given)) o) e
