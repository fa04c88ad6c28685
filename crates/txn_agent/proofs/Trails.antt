-- What a trail grows by, what is missing behind it, and what a machine is given by an input.
use Rattle.std.proofs.Common.{◌≡◌, ◌<◌, ℕ, zero, suc, length, get_or, List, [], ◌∷◌, ◌++◌, Bool, true, false, true≢false, ◌⊎◌, inl, inr, refl, sym, ap, ◌∙◌, subst, arith}
use Rattle.std.specs.Prelude.{◌||◌}
use Rattle.std.specs.List.{Contains}
use Rattle.std.proofs.lemmas.Bool.{cases_Bool}
use Rattle.std.proofs.Math.Bool.{or-false}
use Rattle.base_types.specs.declared.calls.Mode.{Mode}
use Rattle.base_types.specs.declared.calls.Mode.TheVariants.{Read, Update}
use Rattle.base_types.specs.declared.calls.Outcome.{Outcome}
use Rattle.cell_model.proofs.Units.{any-member, any-none, same_grain-true, same_grain-is}
use Rattle.core_model.specs.CoreState.{GrainId, Member, Call, Value, same_grain}
use Rattle.core_model.specs.Tests.{any}
use Rattle.script_tree.specs.Programs.{ProgramTree}
use Rattle.script_holding.specs.Limits.{unit_limit}
use Rattle.script_meaning.specs.Laws.{IsMissing}
use Rattle.script_meaning.specs.Requests.{Requests, End, AskLock, AskRaise, AskUnit}
use Rattle.script_meaning.specs.Play.{GrainState, Want, WantLock, WantRaise, WantUnit, Over, asks, grains_with_states, next}
use Rattle.script_meaning.specs.Trails.{Given, GivenLock, GivenRaise, GivenOutcome, IsTrail, answers_of, asked_of, exclusive_in, locks_of, reads_of}
use Rattle.script_meaning.proofs.Plays.{next_is_missing_lem}
use Rattle.script_machine.specs.declared.machine.Input.TheVariants as input
use Rattle.script_machine.specs.declared.machine.Machine.{Machine}
use Rattle.script_machine.specs.declared.machine.Pause.TheVariants.{NeedGrain, NeedUnit, Done}
use Rattle.script_machine.specs.Machines.{AnswersRequest, FollowsTrail, asks_raise, given_by, pause_for, rest}

-- ---- one more was given

-- what was read
pub reads-last : (trail : List Given) (one : Given) → reads_of (trail ++ (one ∷ [])) ≡ reads_of trail ++ reads_of (one ∷ [])
reads-last [] one = refl
reads-last (GivenLock g mode s ∷ trail) one = ap (λ (l : List GrainState). (g, s) ∷ l) (reads-last trail one)
reads-last (GivenRaise g ∷ trail) one = reads-last trail one
reads-last (GivenOutcome call d o ∷ trail) one = reads-last trail one

-- what was answered
pub answers-last : (trail : List Given) (one : Given) → answers_of (trail ++ (one ∷ [])) ≡ answers_of trail ++ answers_of (one ∷ [])
answers-last [] one = refl
answers-last (GivenLock g mode s ∷ trail) one = answers-last trail one
answers-last (GivenRaise g ∷ trail) one = answers-last trail one
answers-last (GivenOutcome call d o ∷ trail) one = ap (λ (l : List Outcome). o ∷ l) (answers-last trail one)

-- what was locked exclusive
pub exclusive-last : (trail : List Given) (one : Given) → exclusive_in (trail ++ (one ∷ [])) ≡ exclusive_in trail ++ exclusive_in (one ∷ [])
exclusive-last [] one = nothing one
  where
    nothing : (one : Given) → exclusive_in (one ∷ []) ≡ [] ++ exclusive_in (one ∷ [])
    nothing one = refl
exclusive-last (GivenLock g Read s ∷ trail) one = exclusive-last trail one
exclusive-last (GivenLock g Update s ∷ trail) one = ap (λ (l : List GrainId). g ∷ l) (exclusive-last trail one)
exclusive-last (GivenRaise g ∷ trail) one = ap (λ (l : List GrainId). g ∷ l) (exclusive-last trail one)
exclusive-last (GivenOutcome call d o ∷ trail) one = exclusive-last trail one

-- the grains of one more read
pub grains-last : (found : List GrainState) (one : GrainState) → grains_with_states (found ++ (one ∷ [])) ≡ grains_with_states found ++ (one.0 ∷ [])
grains-last [] one = refl
grains-last (x ∷ found) one = ap (λ (l : List GrainId). x.0 ∷ l) (grains-last found one)

-- whether a grain is in a list with one more
pub any-last : (h : GrainId) (gs : List GrainId) (g : GrainId) → any (same_grain h) (gs ++ (g ∷ [])) ≡ (any (same_grain h) gs || same_grain h g)
any-last h [] g = or-false (same_grain h g)
any-last h (x ∷ gs) g = ap (λ (b : Bool). same_grain h x || b) (any-last h gs g) ∙ or-assoc (same_grain h x) (any (same_grain h) gs) (same_grain h g)
  where
    or-assoc : (a b c : Bool) → (a || (b || c)) ≡ ((a || b) || c)
    or-assoc true b c = refl
    or-assoc false b c = refl

-- as many outcomes as units that were asked for
pub asked-answered : (trail : List Given) → length (asked_of trail) ≡ length (answers_of trail)
asked-answered [] = refl
asked-answered (GivenLock g mode s ∷ trail) = asked-answered trail
asked-answered (GivenRaise g ∷ trail) = asked-answered trail
asked-answered (GivenOutcome call d o ∷ trail) = ap suc (asked-answered trail)

-- ---- what is asked for next is missing

-- a place in a list is of a member
contains-member : {A : Type 0} (xs : List A) (x : A) (k : ℕ) → k < length xs → get_or xs k x ≡ x → Member x xs
contains-member [] x k lt e = absurd (omega (arith, lt))
contains-member (y ∷ xs) x zero lt e = inl (sym e)
contains-member (y ∷ xs) x (suc k) lt e = inr (contains-member xs x k (omega (arith, lt)) e)

-- and a member has a place
pub member-contains : {A : Type 0} (xs : List A) (x : A) → Member x xs → Contains xs x
member-contains [] x m = absurd m
member-contains (y ∷ xs) x (inl e) = (0, omega arith, sym e)
member-contains (y ∷ xs) x (inr m) = (let t = member-contains xs x m in (suc t.0, omega (arith, t.1), t.2))

-- so a test finds it
pub contains-any : (gs : List GrainId) (g : GrainId) → Contains gs g → any (same_grain g) gs ≡ true
contains-any gs g c = any-member (same_grain g) gs g (contains-member gs g c.0 c.1 c.2) (same_grain-is g g refl)

-- and finds nothing else
missing-any : (gs : List GrainId) (g : GrainId) → (Contains gs g → ⊥) → any (same_grain g) gs ≡ false
missing-any gs g n = any-none (same_grain g) gs (λ h m. elim (cases_Bool (same_grain g h)) [
  | inl a ↦ absurd (n (subst (Contains gs) (sym (same_grain-true g h a)) (member-contains gs h m)))
  | inr a ↦ a
])

module _ (types : ProgramTree) (call : Call) (depth : ℕ) (trail : List Given) (is : IsTrail types call depth trail) where
  -- what is asked for is missing
  missing : (w : Want) → next types call depth (locks_of trail) (answers_of trail) ≡ w → IsMissing types depth trail w
  missing w e = subst (IsMissing types depth trail) e (next_is_missing_lem types call depth trail is)

  -- a first lock is of a grain that wasn't read
  pub missing-lock : (g : GrainId) (mode : Mode) → next types call depth (locks_of trail) (answers_of trail) ≡ WantLock g mode → any (same_grain g) (grains_with_states (reads_of trail)) ≡ false
  missing-lock g mode e = missing-any (grains_with_states (reads_of trail)) g (missing (WantLock g mode) e).0

  -- an exclusive lock in place of a shared one is of one that was, and isn't locked exclusive
  pub missing-raise : (g : GrainId) → next types call depth (locks_of trail) (answers_of trail) ≡ WantRaise g →
      (any (same_grain g) (grains_with_states (reads_of trail)) ≡ true) × (any (same_grain g) (exclusive_in trail) ≡ false)
  missing-raise g e = (let m = missing (WantRaise g) e in (contains-any (grains_with_states (reads_of trail)) g m.0, missing-any (exclusive_in trail) g m.1))

  -- a unit is asked for where there were fewer than 64
  pub missing-unit : (of : Call) (at : ℕ) → next types call depth (locks_of trail) (answers_of trail) ≡ WantUnit of at → length (answers_of trail) < unit_limit
  missing-unit of at e = (missing (WantUnit of at) e).1

-- ---- what an input gives

-- a first lock
pub first-answer : (q : Requests) (g : GrainId) (mode : Mode) (s : List Value) → NeedGrain g mode ≡ pause_for (asks q) → asks_raise q ≡ false →
    (given_by q (input.Grain s) ≡ GivenLock g mode s ∷ []) × AnswersRequest q (input.Grain s) × (asks q ≡ WantLock g mode)
first-answer (End o has) g mode s e f = absurd cc
first-answer (AskLock h m go) g mode s e f = (let a : h ≡ g = cc in let b : m ≡ mode = cc in ((λ i. GivenLock (a i) (b i) s ∷ []), tt, (λ i. WantLock (a i) (b i))))
first-answer (AskRaise h left) g mode s e f = absurd (true≢false f)
first-answer (AskUnit call depth go) g mode s e f = absurd cc

-- an exclusive lock in place of a shared one
pub raise-answer : (q : Requests) (g : GrainId) (mode : Mode) → NeedGrain g mode ≡ pause_for (asks q) → asks_raise q ≡ true →
    (given_by q input.Held ≡ GivenRaise g ∷ []) × AnswersRequest q input.Held × (asks q ≡ WantRaise g) × (mode ≡ Update)
raise-answer (End o has) g mode e f = absurd cc
raise-answer (AskLock h m go) g mode e f = absurd (true≢false (sym f))
raise-answer (AskRaise h left) g mode e f = (let a : h ≡ g = cc in let b : mode ≡ Update = cc in ((λ i. GivenRaise (a i) ∷ []), tt, (λ i. WantRaise (a i)), b))
raise-answer (AskUnit call depth go) g mode e f = absurd cc

-- a child's outcome
pub unit-answer : (q : Requests) (call : Call) (depth : ℕ) (o : Outcome) → asks q ≡ WantUnit call depth →
    (given_by q (input.Unit o) ≡ GivenOutcome call depth o ∷ []) × AnswersRequest q (input.Unit o)
unit-answer (End p has) call depth o e = absurd cc
unit-answer (AskLock h m go) call depth o e = absurd cc
unit-answer (AskRaise h left) call depth o e = absurd cc
unit-answer (AskUnit c d go) call depth o e = (let a : c ≡ call = cc in let b : d ≡ depth = cc in ((λ i. GivenOutcome (a i) (b i) o ∷ []), tt))

-- the first input gives nothing
pub start-answer : (q : Requests) → given_by q input.First ≡ []
start-answer (End p has) = refl
start-answer (AskLock h m go) = refl
start-answer (AskRaise h left) = refl
start-answer (AskUnit c d go) = refl

-- ---- what a pause asks for

-- a grain
pub grain-wants : (w : Want) (g : GrainId) (mode : Mode) → NeedGrain g mode ≡ pause_for w → (w ≡ WantLock g mode) ⊎ ((w ≡ WantRaise g) × (mode ≡ Update))
grain-wants (WantLock h m) g mode e = (let a : g ≡ h = cc in let b : mode ≡ m = cc in inl (λ i. WantLock (sym a i) (sym b i)))
grain-wants (WantRaise h) g mode e = (let a : g ≡ h = cc in let b : mode ≡ Update = cc in inr ((λ i. WantRaise (sym a i)), b))
grain-wants (WantUnit call depth) g mode e = absurd cc
grain-wants (Over outcome) g mode e = absurd cc

-- a unit
pub unit-wants : (w : Want) (c : Call) (d : ℕ) → NeedUnit c d ≡ pause_for w → w ≡ WantUnit c d
unit-wants (WantLock h m) c d e = absurd cc
unit-wants (WantRaise h) c d e = absurd cc
unit-wants (WantUnit call depth) c d e = (let a : call ≡ c = cc in let b : depth ≡ d = cc in (λ i. WantUnit (a i) (b i)))
unit-wants (Over q) c d e = absurd cc

-- nothing more
pub over-wants : (w : Want) (o : Outcome) → Done o ≡ pause_for w → w ≡ Over o
over-wants (WantLock h m) o e = absurd cc
over-wants (WantRaise h) o e = absurd cc
over-wants (WantUnit call depth) o e = absurd cc
over-wants (Over q) o e = (let a : q ≡ o = cc in ap Over a)

-- what comes first in what a machine has left is what its trail leads to
pub next-own : (types : ProgramTree) (call : Call) (depth : ℕ) (machine : Machine) (trail : List Given) → FollowsTrail types call depth machine trail → next types call depth (locks_of trail) (answers_of trail) ≡ asks (rest types machine)
unfolding next
next-own types call depth machine trail f = ap asks f.left
