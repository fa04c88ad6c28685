-- What a unit got as what it was given, once its children are decided, and why it got each thing.
use Rattle.std.proofs.Common.{◌≡◌, ℕ, ◌<◌, zero, suc, List, [], ◌∷◌, ◌++◌, length, map, get_or, Option, Some, None, refl, sym, ap, ◌∙◌, subst, arith, append_assoc, append-nil}
use Rattle.std.specs.Prelude.{slice_get, option_map, option_and_then}
use Rattle.base_types.specs.declared.calls.Call.{Call}
use Rattle.base_types.specs.declared.calls.Outcome.{Outcome}
use Rattle.core_model.specs.CoreState.{UnitNo, nobody, CoreState}
use Rattle.core_model.specs.Tests.{outcome_of}
use Rattle.script_tree.specs.Programs.{ProgramTree}
use Rattle.script_meaning.specs.Play.{GrainState, Want, next}
use Rattle.script_meaning.specs.Trails.{Given, GivenLock, GivenRaise, GivenOutcome, wanted, locks_of, answers_of, reads_of, IsTrail}
use Rattle.script_meaning.proofs.Plays.{trails_grow_lem}
use Rattle.base_types.specs.Origins.{depth_of}
use Rattle.promise_spec.specs.UnitAnswers.{Got, GotLock, GotRaise, GotChild, and_given, given_by, wanted_by, kids_got}
use Rattle.promise_spec.proofs.Lists.{head_of, tail_of, none_is, none_at, some_is}
use Rattle.promise_laws.specs.UnitAnswers.{IsGiven, AreGiven, want_of, reads_got, AreNamed}

-- those of two lists
pub reads_got-append : (xs ys : List Got) → reads_got (xs ++ ys) ≡ reads_got xs ++ reads_got ys
reads_got-append [] ys = refl
reads_got-append (GotLock g mode state ∷ xs) ys = ap (λ (l : List GrainState). (g, state) ∷ l) (reads_got-append xs ys)
reads_got-append (GotRaise g ∷ xs) ys = reads_got-append xs ys
reads_got-append (GotChild call depth child ∷ xs) ys = reads_got-append xs ys

pub kids_got-append : (xs ys : List Got) → kids_got (xs ++ ys) ≡ kids_got xs ++ kids_got ys
kids_got-append [] ys = refl
kids_got-append (GotLock g mode state ∷ xs) ys = kids_got-append xs ys
kids_got-append (GotRaise g ∷ xs) ys = kids_got-append xs ys
kids_got-append (GotChild call depth child ∷ xs) ys = ap (λ (l : List UnitNo). child ∷ l) (kids_got-append xs ys)

-- one more in front of what may be missing
and_given-some : (one : Given) (o : Option (List Given)) (trail : List Given) → and_given one o ≡ Some trail → (more : List Given) × (o ≡ Some more) × (one ∷ more ≡ trail)
and_given-some one None trail e = absurd (cc)
and_given-some one (Some more) trail e = (more, refl, some_is (one ∷ more) trail e)

-- a child is given where its outcome is known
given-child : (w : CoreState) (call : Call) (depth : ℕ) (child : UnitNo) (got : List Got) (trail : List Given) → ((more : List Given) → given_by w got ≡ Some more → AreGiven (outcome_of w) got more) →
    (o : Option Outcome) → outcome_of w child ≡ o → option_and_then (λ outcome. and_given (GivenOutcome call depth outcome) (given_by w got)) o ≡ Some trail →
    AreGiven (outcome_of w) (GotChild call depth child ∷ got) trail
given-child w call depth child got trail rest None q h = absurd (cc)
given-child w call depth child got trail rest (Some o) q h =
    let t = and_given-some (GivenOutcome call depth o) (given_by w got) trail h in
    subst (AreGiven (outcome_of w) (GotChild call depth child ∷ got)) t.2 ((o, q, refl), rest t.0 t.1)

-- what is given by now is such a list
pub are_given : (w : CoreState) (got : List Got) (trail : List Given) → given_by w got ≡ Some trail → AreGiven (outcome_of w) got trail
are_given w [] trail e = subst (AreGiven (outcome_of w) []) (some_is [] trail e) tt
are_given w (GotLock g mode state ∷ got) trail e =
    let t = and_given-some (GivenLock g mode state) (given_by w got) trail e in
    subst (AreGiven (outcome_of w) (GotLock g mode state ∷ got)) t.2 (refl, are_given w got t.0 t.1)
are_given w (GotRaise g ∷ got) trail e =
    let t = and_given-some (GivenRaise g) (given_by w got) trail e in
    subst (AreGiven (outcome_of w) (GotRaise g ∷ got)) t.2 (refl, are_given w got t.0 t.1)
are_given w (GotChild call depth child ∷ got) trail e = given-child w call depth child got trail (are_given w got) (outcome_of w child) refl e

-- what a unit wants next it wants after what it was given
pub wants : (types : ProgramTree) (w : CoreState) (u : UnitNo) (got : List Got) (want : Want) → wanted_by types w u got ≡ Some want →
    (trail : List Given) × AreGiven (outcome_of w) got trail × (next types (w.units.call u) (depth_of (w.units.origin u)) (locks_of trail) (answers_of trail) ≡ want)
wants types w u got want e = by_given (given_by w got) refl e
  where
    by_given : (o : Option (List Given)) → given_by w got ≡ o →
        option_map (λ given. next types (w.units.call u) (depth_of (w.units.origin u)) (locks_of given) (answers_of given)) o ≡ Some want →
        (trail : List Given) × AreGiven (outcome_of w) got trail × (next types (w.units.call u) (depth_of (w.units.origin u)) (locks_of trail) (answers_of trail) ≡ want)
    by_given None q h = absurd (cc)
    by_given (Some trail) q h = (trail, are_given w got trail q, some_is (next types (w.units.call u) (depth_of (w.units.origin u)) (locks_of trail) (answers_of trail)) want h)

-- there is one such thing alone
given-one : (outcome : UnitNo → Option Outcome) (x : Got) (a b : Given) → IsGiven outcome x a → IsGiven outcome x b → a ≡ b
given-one outcome (GotLock g mode state) a b p q = p ∙ sym q
given-one outcome (GotRaise g) a b p q = p ∙ sym q
given-one outcome (GotChild call depth child) a b p q =
    let same : p.0 ≡ q.0 = some_is p.0 q.0 (sym p.1 ∙ q.1) in
    p.2 ∙ ap (GivenOutcome call depth) same ∙ sym q.2

-- and one such list alone
given-alike : (outcome : UnitNo → Option Outcome) (got : List Got) (a b : List Given) → AreGiven outcome got a → AreGiven outcome got b → a ≡ b
given-alike outcome [] [] [] p q = refl
given-alike outcome [] [] (y ∷ b) p q = absurd q
given-alike outcome [] (x ∷ a) b p q = absurd p
given-alike outcome (g ∷ got) [] b p q = absurd p
given-alike outcome (g ∷ got) (x ∷ a) [] p q = absurd q
given-alike outcome (g ∷ got) (x ∷ a) (y ∷ b) p q =
    let head = given-one outcome g x y p.0 q.0 in let rest = given-alike outcome got a b p.1 q.1 in
    λ i. head i ∷ rest i

-- one more at the end
given-push : (outcome : UnitNo → Option Outcome) (got : List Got) (trail : List Given) (x : Got) (one : Given) → AreGiven outcome got trail → IsGiven outcome x one → AreGiven outcome (got ++ (x ∷ [])) (trail ++ (one ∷ []))
given-push outcome [] [] x one all is = (is, tt)
given-push outcome [] (y ∷ trail) x one all is = absurd all
given-push outcome (g ∷ got) [] x one all is = absurd all
given-push outcome (g ∷ got) (y ∷ trail) x one all is = (all.0, given-push outcome got trail x one all.1 is)

-- outcomes that are known stay
abbrev pub Extends : (UnitNo → Option Outcome) → (UnitNo → Option Outcome) → Type 0
Extends outcome more = (u : UnitNo) (o : Outcome) → outcome u ≡ Some o → more u ≡ Some o

-- so what was given then is given still
given-later : (outcome more : UnitNo → Option Outcome) → Extends outcome more → (x : Got) (one : Given) → IsGiven outcome x one → IsGiven more x one
given-later outcome more ext (GotLock g mode state) one is = is
given-later outcome more ext (GotRaise g) one is = is
given-later outcome more ext (GotChild call depth child) one is = (is.0, ext child is.0 is.1, is.2)

all-later : (outcome more : UnitNo → Option Outcome) → Extends outcome more → (got : List Got) (trail : List Given) → AreGiven outcome got trail → AreGiven more got trail
all-later outcome more ext [] [] all = tt
all-later outcome more ext [] (y ∷ trail) all = absurd all
all-later outcome more ext (x ∷ got) [] all = absurd all
all-later outcome more ext (x ∷ got) (y ∷ trail) all = (given-later outcome more ext x y all.0, all-later outcome more ext got trail all.1)

-- what it was given has the states of its first locks
pub given-reads : (outcome : UnitNo → Option Outcome) (got : List Got) (trail : List Given) → AreGiven outcome got trail → reads_of trail ≡ reads_got got
given-reads outcome [] [] all = refl
given-reads outcome [] (y ∷ trail) all = absurd all
given-reads outcome (x ∷ got) [] all = absurd all
given-reads outcome (GotLock g mode state ∷ got) (y ∷ trail) all =
    ap (λ (one : Given). reads_of (one ∷ trail)) all.0 ∙ ap (λ (l : List GrainState). (g, state) ∷ l) (given-reads outcome got trail all.1)
given-reads outcome (GotRaise g ∷ got) (y ∷ trail) all = ap (λ (one : Given). reads_of (one ∷ trail)) all.0 ∙ given-reads outcome got trail all.1
given-reads outcome (GotChild call depth child ∷ got) (y ∷ trail) all = ap (λ (one : Given). reads_of (one ∷ trail)) all.0.2 ∙ given-reads outcome got trail all.1

-- and its children's outcomes
pub given-outcomes : (outcome : UnitNo → Option Outcome) (got : List Got) (trail : List Given) → AreGiven outcome got trail → map outcome (kids_got got) ≡ map Some (answers_of trail)
given-outcomes outcome [] [] all = refl
given-outcomes outcome [] (y ∷ trail) all = absurd all
given-outcomes outcome (x ∷ got) [] all = absurd all
given-outcomes outcome (GotLock g mode state ∷ got) (y ∷ trail) all = given-outcomes outcome got trail all.1 ∙ ap (λ (one : Given). map Some (answers_of (one ∷ trail))) (sym all.0)
given-outcomes outcome (GotRaise g ∷ got) (y ∷ trail) all = given-outcomes outcome got trail all.1 ∙ ap (λ (one : Given). map Some (answers_of (one ∷ trail))) (sym all.0)
given-outcomes outcome (GotChild call depth child ∷ got) (y ∷ trail) all =
    let head = all.0.1 in let rest = given-outcomes outcome got trail all.1 in
    (λ i. head i ∷ rest i) ∙ ap (λ (one : Given). map Some (answers_of (one ∷ trail))) (sym all.0.2)

-- the outcome at an index
pub outcome-at : (outcome : UnitNo → Option Outcome) (ks : List UnitNo) (os : List Outcome) → map outcome ks ≡ map Some os → (j : ℕ) (o : Outcome) → slice_get os j ≡ Some o →
    (j < length ks) × (outcome (get_or ks j nobody) ≡ Some o)
outcome-at outcome ks [] e j o there = absurd (none_at j o there)
outcome-at outcome [] (x ∷ os) e j o there = absurd (none_is (Some x) (map Some os) (sym e))
outcome-at outcome (k ∷ ks) (x ∷ os) e zero o there = (omega arith, head_of (outcome k) (Some x) (map outcome ks) (map Some os) e ∙ there)
outcome-at outcome (k ∷ ks) (x ∷ os) e (suc j) o there =
    let t = outcome-at outcome ks os (tail_of (outcome k) (Some x) (map outcome ks) (map Some os) e) j o there in
    (omega (arith, t.0), t.1)

-- as many outcomes as children
pub as-many : (outcome : UnitNo → Option Outcome) (ks : List UnitNo) (os : List Outcome) → map outcome ks ≡ map Some os → length os ≡ length ks
as-many outcome [] [] e = refl
as-many outcome [] (x ∷ os) e = absurd (none_is (Some x) (map Some os) (sym e))
as-many outcome (k ∷ ks) [] e = absurd (none_is (outcome k) (map outcome ks) e)
as-many outcome (k ∷ ks) (x ∷ os) e = ap suc (as-many outcome ks os (tail_of (outcome k) (Some x) (map outcome ks) (map Some os) e))

-- that stays
pub named-later : (outcome more : UnitNo → Option Outcome) → Extends outcome more → (types : ProgramTree) (call : Call) (depth : ℕ) (before got : List Got) →
    AreNamed outcome types call depth before got → AreNamed more types call depth before got
named-later outcome more ext types call depth before [] all = tt
named-later outcome more ext types call depth before (x ∷ got) all = (
  record { trail = all.0.trail; given = all-later outcome more ext before all.0.trail all.0.given; named = all.0.named },
  named-later outcome more ext types call depth (before ++ (x ∷ [])) got all.1,
)

-- one more is asked for
pub named-push : (outcome : UnitNo → Option Outcome) (types : ProgramTree) (call : Call) (depth : ℕ) (before got : List Got) (x : Got) → AreNamed outcome types call depth before got →
    (trail : List Given) → AreGiven outcome (before ++ got) trail → next types call depth (locks_of trail) (answers_of trail) ≡ want_of x → AreNamed outcome types call depth before (got ++ (x ∷ []))
named-push outcome types call depth before [] x all trail given named =
    (record { trail = trail; given = subst (λ (l : List Got). AreGiven outcome l trail) (append-nil before) given; named = named }, tt)
named-push outcome types call depth before (y ∷ got) x all trail given named = (
  all.0,
  named-push outcome types call depth (before ++ (y ∷ [])) got x all.1 trail (subst (λ (l : List Got). AreGiven outcome l trail) (sym (append_assoc before (y ∷ []) got)) given) named,
)

-- what is given answers what it was got for
given-want : (outcome : UnitNo → Option Outcome) (x : Got) (one : Given) → IsGiven outcome x one → wanted one ≡ want_of x
given-want outcome (GotLock g mode state) one is = ap wanted is
given-want outcome (GotRaise g) one is = ap wanted is
given-want outcome (GotChild call depth child) one is = ap wanted is.2

-- what was asked for one by one is a trail
trail-on : (outcome : UnitNo → Option Outcome) (types : ProgramTree) (call : Call) (depth : ℕ) (before got : List Got) (front trail : List Given) → AreNamed outcome types call depth before got →
    AreGiven outcome before front → AreGiven outcome got trail → IsTrail types call depth front → IsTrail types call depth (front ++ trail)
trail-on outcome types call depth before [] front [] all given more is =
    subst (IsTrail types call depth) (sym (append-nil front)) is
trail-on outcome types call depth before [] front (one ∷ trail) all given more is = absurd more
trail-on outcome types call depth before (x ∷ got) front [] all given more is = absurd more
trail-on outcome types call depth before (x ∷ got) front (one ∷ trail) all given more is =
    let same : all.0.trail ≡ front = given-alike outcome before all.0.trail front all.0.given given in
    let named : next types call depth (locks_of front) (answers_of front) ≡ wanted one =
    subst (λ (t : List Given). next types call depth (locks_of t) (answers_of t) ≡ wanted one) same (all.0.named ∙ sym (given-want outcome x one more.0)) in
    subst (IsTrail types call depth) (append_assoc front (one ∷ []) trail)
    (trail-on outcome types call depth (before ++ (x ∷ [])) got (front ++ (one ∷ [])) trail all.1
    (given-push outcome before front x one given more.0) more.1 ((trails_grow_lem types call depth).grows front one is named))

-- from the first one on
pub named-trail : (outcome : UnitNo → Option Outcome) (types : ProgramTree) (call : Call) (depth : ℕ) (got : List Got) (trail : List Given) → AreNamed outcome types call depth [] got →
    AreGiven outcome got trail → IsTrail types call depth trail
named-trail outcome types call depth got trail all given = trail-on outcome types call depth [] got [] trail all tt given (trails_grow_lem types call depth).begins
