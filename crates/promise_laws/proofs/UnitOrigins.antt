-- Why each unit of a run began, and what each got: what holds of both after any events that keep the unit rule.
use Rattle.std.proofs.Common.{◌≡◌, ℕ, ◌<◌, ◌≤◌, zero, suc, List, [], ◌∷◌, ◌++◌, length, map, get_or, Bool, true, false, ◌⊎◌, inl, inr, Option, Some, None, refl, sym, ap, ◌∙◌, subst, arith, append-nil, le_refl, eqb-true}
use Rattle.std.specs.Prelude.{slice_get, if◌then◌else◌, ◌==◌}
use Rattle.std.specs.List.{Contains}
use Rattle.std.proofs.lemmas.Bool.{and_parts, cond_both}
use Rattle.base_types.specs.declared.calls.Mode.TheVariants.{Update}
use Rattle.base_types.specs.declared.calls.Origin.TheVariants.{Line, Child}
use Rattle.cell_model.specs.Locks.{is_hold_of, holds_lock}
use Rattle.cell_model.proofs.Units.{same_unit-true, same_unit-false, same_unit-is, any-true, any-member, cases_unit}
use Rattle.core_model.specs.CoreState.{UnitNo, GrainId, nobody, same_unit, put, Member, Mode, Call, Origin, Outcome, CoreState}
use Rattle.core_model.specs.declared.effects.Read.{Read}
use Rattle.core_model.specs.declared.phases.Phase.{Phase}
use Rattle.core_model.specs.declared.phases.Phase.TheVariants.{Unborn, Running, Ended}
use Rattle.core_model.specs.declared.events.CoreEvent.TheVariants.{Begin}
use Rattle.core_model.specs.Tests.{is_running, outcome_of}
use Rattle.core_model.specs.Changes.{new_unit, begun}
use Rattle.core_model.specs.Events.{can_begin}
use Rattle.core_laws.proofs.Basics.{is_running-true}
use Rattle.core_laws.proofs.Puts.{put-from, put-same, put-is, put-other}
use Rattle.core_laws.proofs.LoadlessKept.{LoadlessKept}
use Rattle.core_laws.proofs.Children.{Kin}
use Rattle.core_laws.proofs.Growth.{Grows, grows-outcome}
use Rattle.script_tree.specs.Programs.{ProgramTree}
use Rattle.script_meaning.specs.Play.{GrainState, Want, WantLock, WantRaise, WantUnit, Over, grains_with_states, next}
use Rattle.script_meaning.specs.Laws.{IsMissing}
use Rattle.script_meaning.specs.Trails.{Given, locks_of, answers_of, reads_of, IsTrail}
use Rattle.script_meaning.proofs.Plays.{next_is_missing_lem}
use Rattle.base_types.specs.Origins.{depth_of}
use Rattle.promise_spec.specs.Lines.{IsLineCall}
use Rattle.promise_spec.specs.Cores.{HasBegun}
use Rattle.promise_spec.specs.UnitAnswers.{Got, GotChild, got_by, wanted_by, wanted_lock, kids_got}
use Rattle.promise_spec.specs.UnitRule.{Basis, IsDue}
use Rattle.promise_spec.proofs.Lists.{some_is}
use Rattle.promise_laws.specs.UnitAnswers.{AreGiven, AreNamed, want_of, reads_got, found, Traced}
use Rattle.promise_laws.proofs.UnitAnswers.{Extends, reads_got-append, kids_got-append, wants, given-reads, given-outcomes, outcome-at, as-many, named-later, named-push, named-trail}

-- ---- what is kept

-- a child of this index has begun, and has this outcome
pub record HasOutcome (w : CoreState) (p : UnitNo) (j : ℕ) (o : Outcome) : Type 0 where
  pub kid : UnitNo
  pub depth : ℕ
  pub begun : HasBegun w kid
  pub origin : w.units.origin kid ≡ Child p j depth
  pub outcome : outcome_of w kid ≡ Some o

-- what led from a unit to its child with this call: a trail of what the unit was given, after which it asked for the child
pub record Led (types : ProgramTree) (w : CoreState) (child : Call) (p : UnitNo) (i d : ℕ) : Type 0 where
  pub parent : HasBegun w p
  pub trail : List Given
  pub is : IsTrail types (w.units.call p) (depth_of (w.units.origin p)) trail
  pub reads : (one : GrainState) → Member one (reads_of trail) → (r : Read) × Member r (w.units.reads p) × (found r ≡ one)
  pub answered : (j : ℕ) (o : Outcome) → slice_get (answers_of trail) j ≡ Some o → HasOutcome w p j o
  pub count : length (answers_of trail) ≡ i
  pub named : next types (w.units.call p) (depth_of (w.units.origin p)) (locks_of trail) (answers_of trail) ≡ WantUnit child d

-- Units are numbered from the base on. A line's unit has the line's call; a child isn't plain, and was led to; who ended
-- as a plain run is plain.
pub record Known (types : ProgramTree) (lines : List (List ℕ)) (base : ℕ) (w : CoreState) : Type 0 where
  pub above : base ≤ w.units.next
  pub numbered : (u : UnitNo) → HasBegun w u → base ≤ u.0
  pub line : (u : UnitNo) (n : ℕ) → HasBegun w u → w.units.origin u ≡ Line n → IsLineCall types lines n (w.units.call u)
  pub whole : (u p : UnitNo) (i d : ℕ) → HasBegun w u → w.units.origin u ≡ Child p i d → w.units.plain u ≡ false
  pub ended : (u : UnitNo) → w.units.phase u ≡ Ended → w.units.plain u ≡ true
  pub led : (u p : UnitNo) (i d : ℕ) → HasBegun w u → w.units.origin u ≡ Child p i d → Led types w (w.units.call u) p i d

-- ---- what stays

-- what is once set of a unit stays
record Stays (w w' : CoreState) : Type 0 where
  begun : (u : UnitNo) → HasBegun w u → HasBegun w' u
  origin : (u : UnitNo) → HasBegun w u → w'.units.origin u ≡ w.units.origin u
  call : (u : UnitNo) → HasBegun w u → w'.units.call u ≡ w.units.call u
  reads : (u : UnitNo) (r : Read) → Member r (w.units.reads u) → Member r (w'.units.reads u)
  outcome : Extends (outcome_of w) (outcome_of w')

-- a child's outcome stays
outcome-stays : (w w' : CoreState) (p : UnitNo) (j : ℕ) (o : Outcome) → Stays w w' → HasOutcome w p j o → HasOutcome w' p j o
outcome-stays w w' p j o s h = record {
  kid = h.kid;
  depth = h.depth;
  begun = s.begun h.kid h.begun;
  origin = s.origin h.kid h.begun ∙ h.origin;
  outcome = s.outcome h.kid o h.outcome;
}

-- and what led to a child
led-stays : (types : ProgramTree) (w w' : CoreState) (child : Call) (p : UnitNo) (i d : ℕ) → Stays w w' → Led types w child p i d → Led types w' child p i d
led-stays types w w' child p i d s l =
    let call : w.units.call p ≡ w'.units.call p = sym (s.call p l.parent) in
    let origin : w.units.origin p ≡ w'.units.origin p = sym (s.origin p l.parent) in
    record {
      parent = s.begun p l.parent;
      trail = l.trail;
      is = subst (λ (o : Origin). IsTrail types (w'.units.call p) (depth_of o) l.trail) origin (subst (λ (c : Call). IsTrail types c (depth_of (w.units.origin p)) l.trail) call l.is);
      reads = λ one m. (let t = l.reads one m in (t.0, s.reads p t.0 t.1, t.2));
      answered = λ j o there. outcome-stays w w' p j o s (l.answered j o there);
      count = l.count;
      named = subst (λ (o : Origin). next types (w'.units.call p) (depth_of o) (locks_of l.trail) (answers_of l.trail) ≡ WantUnit child d) origin
          (subst (λ (c : Call). next types c (depth_of (w.units.origin p)) (locks_of l.trail) (answers_of l.trail) ≡ WantUnit child d) call l.named);
    }

-- no unit begins
pub record IsSteady (w w' : CoreState) : Type 0 where
  number : w'.units.next ≡ w.units.next
  born : (u : UnitNo) → HasBegun w' u → HasBegun w u
  begun : (u : UnitNo) → HasBegun w u → HasBegun w' u
  ended : (u : UnitNo) → w'.units.phase u ≡ Ended → (w.units.phase u ≡ Ended) ⊎ (w.units.plain u ≡ true)
  fresh : (u : UnitNo) → w'.units.phase u ≡ Unborn → w.units.phase u ≡ Unborn
  origin : w'.units.origin ≡ w.units.origin
  call : w'.units.call ≡ w.units.call
  plain : w'.units.plain ≡ w.units.plain
  kids : w'.units.kids ≡ w.units.kids

-- then all that is set stays
steady-stays : (w w' : CoreState) → IsSteady w w' → Grows w w' → Stays w w'
steady-stays w w' s g = record {
  begun = s.begun;
  origin = λ u b. ap (λ (f : UnitNo → Origin). f u) s.origin;
  call = λ u b. ap (λ (f : UnitNo → Call). f u) s.call;
  reads = g.2;
  outcome = grows-outcome w w' g;
}

-- and what is known of the units stays
pub known-steady : (types : ProgramTree) (lines : List (List ℕ)) (base : ℕ) (w w' : CoreState) → IsSteady w w' → Grows w w' → Known types lines base w → Known types lines base w'
known-steady types lines base w w' s g k = record {
  above = subst (λ n. base ≤ n) (sym s.number) k.above;
  numbered = λ u b. k.numbered u (s.born u b);
  line = λ u n b e. subst (λ (f : UnitNo → Call). IsLineCall types lines n (f u)) (sym s.call) (k.line u n (s.born u b) (origin u ∙ e));
  whole = λ u p i d b e. ap (λ (f : UnitNo → Bool). f u) s.plain ∙ k.whole u p i d (s.born u b) (origin u ∙ e);
  ended = λ u e. ap (λ (f : UnitNo → Bool). f u) s.plain ∙ (elim (s.ended u e) [ inl o ↦ k.ended u o | inr o ↦ o ]);
  led = λ u p i d b e. subst (λ (f : UnitNo → Call). Led types w' (f u) p i d) (sym s.call) (led-stays types w w' (w.units.call u) p i d (steady-stays w w' s g) (k.led u p i d (s.born u b) (origin u ∙ e)));
}
  where
    origin : (u : UnitNo) → w.units.origin u ≡ w'.units.origin u
    origin u = sym (ap (λ (f : UnitNo → Origin). f u) s.origin)

-- the names stay where no unit begins
named-steady : (types : ProgramTree) (w w' : CoreState) (got : UnitNo → List Got) → IsSteady w w' → Grows w w' → Traced types w got → (u : UnitNo) →
    AreNamed (outcome_of w') types (w'.units.call u) (depth_of (w'.units.origin u)) [] (got u)
named-steady types w w' got s g t u =
    subst (λ (f : UnitNo → Origin). AreNamed (outcome_of w') types (w'.units.call u) (depth_of (f u)) [] (got u)) (sym s.origin)
    (subst (λ (f : UnitNo → Call). AreNamed (outcome_of w') types (f u) (depth_of (w.units.origin u)) [] (got u)) (sym s.call)
    (named-later (outcome_of w) (outcome_of w') (grows-outcome w w' g) types (w.units.call u) (depth_of (w.units.origin u)) [] (got u) (t.named u)))

-- and what each got, where nobody reads more
pub traced-steady : (types : ProgramTree) (w w' : CoreState) (got : UnitNo → List Got) → IsSteady w w' → Grows w w' → w'.units.reads ≡ w.units.reads → Traced types w got → Traced types w' got
traced-steady types w w' got s g reads t = record {
  fresh = λ u e. t.fresh u (s.fresh u e);
  reads = λ u. t.reads u ∙ ap (λ (f : UnitNo → List Read). map found (f u)) (sym reads);
  kids = λ u. t.kids u ∙ ap (λ (f : UnitNo → List UnitNo). f u) (sym s.kids);
  named = λ u. named-steady types w w' got s g t u;
}

-- both
abbrev pub Told : ProgramTree → List (List ℕ) → ℕ → CoreState → (UnitNo → List Got) → Type 0
Told types lines base w got = Known types lines base w × Traced types w got

-- units that have all as before
pub steady-same : (w w' : CoreState) → w'.units.next ≡ w.units.next → w'.units.phase ≡ w.units.phase → w'.units.origin ≡ w.units.origin → w'.units.call ≡ w.units.call → w'.units.plain ≡ w.units.plain → w'.units.kids ≡ w.units.kids → IsSteady w w'
steady-same w w' number phase origin call plain kids = record {
  number = number;
  born = λ u b q. b (at u ∙ q);
  begun = λ u b q. b (sym (at u) ∙ q);
  ended = λ u e. inl (sym (at u) ∙ e);
  fresh = λ u e. sym (at u) ∙ e;
  origin = origin;
  call = call;
  plain = plain;
  kids = kids;
}
  where
    at : (u : UnitNo) → w'.units.phase u ≡ w.units.phase u
    at u = ap (λ (f : UnitNo → Phase). f u) phase

-- a unit that ran has another phase
pub steady-phase : (w w' : CoreState) (u : UnitNo) (end : Phase) → w.units.phase u ≡ Running → (end ≡ Unborn → ⊥) → (end ≡ Ended → w.units.plain u ≡ true) →
    w'.units.next ≡ w.units.next → w'.units.phase ≡ put w.units.phase u end → w'.units.origin ≡ w.units.origin → w'.units.call ≡ w.units.call → w'.units.plain ≡ w.units.plain → w'.units.kids ≡ w.units.kids → IsSteady w w'
steady-phase w w' u end running over plainly number phase origin call plain kids = record {
  number = number;
  born = λ x b q. elim (cases_unit x u) [
    | inl e ↦ (let z : Unborn ≡ Running = sym q ∙ ap w.units.phase e ∙ running in cc)
    | inr n ↦ b (at x ∙ put-other w.units.phase u end x n ∙ q)
  ];
  begun = λ x b q. put-from w.units.phase u end (λ p. p ≡ Unborn) ⊥ x (λ e z. over z) (λ n z. b z) (sym (at x) ∙ q);
  ended = λ x q. put-from w.units.phase u end (λ p. p ≡ Ended) ((w.units.phase x ≡ Ended) ⊎ (w.units.plain x ≡ true)) x (λ e z. inr (ap w.units.plain e ∙ plainly z)) (λ n z. inl z) (sym (at x) ∙ q);
  fresh = λ x q. put-from w.units.phase u end (λ p. p ≡ Unborn) (w.units.phase x ≡ Unborn) x (λ e z. absurd (over z)) (λ n z. z) (sym (at x) ∙ q);
  origin = origin;
  call = call;
  plain = plain;
  kids = kids;
}
  where
    at : (x : UnitNo) → w'.units.phase x ≡ put w.units.phase u end x
    at x = ap (λ (f : UnitNo → Phase). f x) phase

-- nobody got more
pub nothing_more : (types : ProgramTree) (w : CoreState) (got : UnitNo → List Got) → Traced types w got → Traced types w (λ u. got u ++ [])
nothing_more types w got t = subst (Traced types w) (λ i u. sym (append-nil (got u)) i) t

-- an event by which no unit begins or gets anything
pub quiet : (types : ProgramTree) (lines : List (List ℕ)) (base : ℕ) (w w' : CoreState) (got : UnitNo → List Got) → IsSteady w w' → w'.units.reads ≡ w.units.reads → Grows w w' → Told types lines base w got → Told types lines base w' (λ u. got u ++ [])
quiet types lines base w w' got s reads g t =
    (known-steady types lines base w w' s g t.0, nothing_more types w' got (traced-steady types w w' got s g reads t.1))

-- ---- one more for one unit

-- a fact of what each has, where one unit got one more
got-at : (got : UnitNo → List Got) (v : UnitNo) (f : UnitNo → Got) (P : UnitNo → List Got → Type 0) (u : UnitNo) → P v (got v ++ (f v ∷ [])) → ((u ≡ v → ⊥) → P u (got u)) →
    P u (got u ++ (if same_unit v u then f u ∷ [] else []))
got-at got v f P u at other = cond_both (same_unit v u) (f u ∷ []) [] (λ l. P u (got u ++ l))
    (λ e. subst (λ x. P x (got x ++ (f x ∷ []))) (same_unit-true v u e) at)
    (λ e. subst (P u) (sym (append-nil (got u))) (other (λ q. same_unit-false v u e (sym q))))

-- what stands at a place
contains-member : {A : Type 0} (xs : List A) (x : A) (k : ℕ) → k < length xs → get_or xs k x ≡ x → Member x xs
contains-member [] x k lt e = absurd (omega (arith, lt))
contains-member (y ∷ xs) x zero lt e = inl (sym e)
contains-member (y ∷ xs) x (suc k) lt e = inr (contains-member xs x k (omega (arith, lt)) e)

-- a member stands at a place
member-contains : {A : Type 0} (xs : List A) (x : A) → Member x xs → Contains xs x
member-contains [] x m = absurd m
member-contains (y ∷ xs) x (inl e) = (0, omega arith, sym e)
member-contains (y ∷ xs) x (inr m) = (let t = member-contains xs x m in (suc t.0, omega (arith, t.1), t.2))

-- members of a mapped list
map-member : {A B : Type 0} (f : A → B) (xs : List A) (y : B) → Member y (map f xs) → (x : A) × Member x xs × (f x ≡ y)
map-member f [] y m = absurd m
map-member f (x ∷ xs) y (inl e) = (x, inl refl, sym e)
map-member f (x ∷ xs) y (inr m) = (let t = map-member f xs y m in (t.0, inr t.1, t.2))

member-map : {A B : Type 0} (f : A → B) (xs : List A) (x : A) → Member x xs → Member (f x) (map f xs)
member-map f [] x m = absurd m
member-map f (y ∷ xs) x (inl e) = inl (ap f e)
member-map f (y ∷ xs) x (inr m) = inr (member-map f xs x m)

-- the trail that a unit has, and that it reads what the trail reads
record Trailed (types : ProgramTree) (w : CoreState) (got : UnitNo → List Got) (u : UnitNo) (asked : Want) : Type 0 where
  trail : List Given
  given : AreGiven (outcome_of w) (got u) trail
  named : next types (w.units.call u) (depth_of (w.units.origin u)) (locks_of trail) (answers_of trail) ≡ asked
  is : IsTrail types (w.units.call u) (depth_of (w.units.origin u)) trail
  reads : reads_of trail ≡ map found (w.units.reads u)

-- where a unit wants something, it has a trail
trailed : (types : ProgramTree) (w : CoreState) (got : UnitNo → List Got) (u : UnitNo) (asked : Want) → Traced types w got → wanted_by types w u (got u) ≡ Some asked → Trailed types w got u asked
trailed types w got u asked t e =
    let g = wants types w u (got u) asked e in
    record {
      trail = g.0;
      given = g.1;
      named = g.2;
      is = named-trail (outcome_of w) types (w.units.call u) (depth_of (w.units.origin u)) (got u) g.0 (t.named u) g.1;
      reads = given-reads (outcome_of w) (got u) g.0 g.1 ∙ t.reads u;
    }

-- what asks for a lock is a first lock or a raise
lock-cases : (o : Option Want) (g : GrainId) (mode : Mode) → wanted_lock o ≡ Some (g, mode) → (o ≡ Some (WantLock g mode)) ⊎ (o ≡ Some (WantRaise g))
lock-cases None g mode e = absurd (cc)
lock-cases (Some (WantLock h m)) g mode e =
    let p = some_is (h, m) (g, mode) e in
    let a : h ≡ g = ap (λ (z : GrainId × Mode). z.0) p in let b : m ≡ mode = ap (λ (z : GrainId × Mode). z.1) p in
    inl (λ i. Some (WantLock (a i) (b i)))
lock-cases (Some (WantRaise h)) g mode e =
    let p = some_is (h, Update) (g, mode) e in
    let a : h ≡ g = ap (λ (z : GrainId × Mode). z.0) p in
    inr (λ i. Some (WantRaise (a i)))
lock-cases (Some (WantUnit call depth)) g mode e = absurd (cc)
lock-cases (Some (Over outcome)) g mode e = absurd (cc)

-- who holds a grain has read it
holder-read : (w : CoreState) (u : UnitNo) (g : GrainId) → LoadlessKept w → holds_lock u (w.cells.holds g) ≡ true → (r : Read) × Member r (w.units.reads u) × (r.grain ≡ g)
holder-read w u g k e =
    let h = any-true (is_hold_of u) (w.cells.holds g) e in
    let of : h.0.unit ≡ u = same_unit-true h.0.unit u h.2 in
    let s = k.0.told g h.0 h.1 in
    let r = k.0.seen g s.0 s.1 in
    (r.0, subst (λ x. Member r.0 (w.units.reads x)) (s.2 ∙ of) r.1, r.2)

-- and who has read it and runs holds it
reader-holds : (w : CoreState) (u : UnitNo) (r : Read) → LoadlessKept w → w.units.phase u ≡ Running → Member r (w.units.reads u) → holds_lock u (w.cells.holds r.grain) ≡ true
reader-holds w u r k running m =
    let h = k.0.keeps u r running m in
    any-member (is_hold_of u) (w.cells.holds r.grain) h.0 h.1 (same_unit-is h.0.unit u h.2)

-- a grain of the reads is that of a read, and the other way round
read-there : (rs : List Read) (fs : List GrainState) (g : GrainId) → fs ≡ map found rs → Contains (grains_with_states fs) g → (r : Read) × Member r rs × (r.grain ≡ g)
read-there rs fs g e there =
    let t = map-member (λ (f : GrainState). f.0) fs g (contains-member (grains_with_states fs) g there.0 there.1 there.2) in
    let r = map-member found rs t.0 (subst (Member t.0) e t.1) in
    (r.0, r.1, ap (λ (f : GrainState). f.0) r.2 ∙ t.2)

there-read : (rs : List Read) (fs : List GrainState) (g : GrainId) (r : Read) → fs ≡ map found rs → Member r rs → r.grain ≡ g → Contains (grains_with_states fs) g
there-read rs fs g r e m same =
    subst (Contains (grains_with_states fs)) same
    (member-contains (grains_with_states fs) r.grain (member-map (λ (f : GrainState). f.0) fs (found r) (subst (Member (found r)) (sym e) (member-map found rs r m))))

-- not both
both-ways : (b : Bool) → b ≡ true → b ≡ false → ⊥
both-ways b t f = (let z : true ≡ false = sym t ∙ f in cc)

-- a grain that isn't held is locked for the first time
pub first-lock : (types : ProgramTree) (w : CoreState) (got : UnitNo → List Got) (u : UnitNo) (g : GrainId) (mode : Mode) → LoadlessKept w → Traced types w got →
    w.units.phase u ≡ Running → holds_lock u (w.cells.holds g) ≡ false → wanted_lock (wanted_by types w u (got u)) ≡ Some (g, mode) → wanted_by types w u (got u) ≡ Some (WantLock g mode)
first-lock types w got u g mode k t running free due = elim (lock-cases (wanted_by types w u (got u)) g mode due) [
  | inl e ↦ e
  | inr e ↦
      let s : Trailed types w got u (WantRaise g) = trailed types w got u (WantRaise g) t e in
      let missing : IsMissing types (depth_of (w.units.origin u)) s.trail (WantRaise g) = subst (λ (x : Want). IsMissing types (depth_of (w.units.origin u)) s.trail x) s.named
      (next_is_missing_lem types (w.units.call u) (depth_of (w.units.origin u)) s.trail s.is) in
      let read : (r : Read) × Member r (w.units.reads u) × (r.grain ≡ g) = read-there (w.units.reads u) (reads_of s.trail) g s.reads missing.0 in
      let held : holds_lock u (w.cells.holds g) ≡ true = subst (λ h. holds_lock u (w.cells.holds h) ≡ true) read.2 (reader-holds w u read.0 k running read.1) in
      absurd (both-ways (holds_lock u (w.cells.holds g)) held free)
]

-- a grain that is held is raised
pub then-raise : (types : ProgramTree) (w : CoreState) (got : UnitNo → List Got) (u : UnitNo) (g : GrainId) (mode : Mode) → LoadlessKept w → Traced types w got →
    holds_lock u (w.cells.holds g) ≡ true → wanted_lock (wanted_by types w u (got u)) ≡ Some (g, mode) → wanted_by types w u (got u) ≡ Some (WantRaise g)
then-raise types w got u g mode k t held due = elim (lock-cases (wanted_by types w u (got u)) g mode due) [
  | inl e ↦
      let s : Trailed types w got u (WantLock g mode) = trailed types w got u (WantLock g mode) t e in
      let missing : IsMissing types (depth_of (w.units.origin u)) s.trail (WantLock g mode) = subst (λ (x : Want). IsMissing types (depth_of (w.units.origin u)) s.trail x) s.named
      (next_is_missing_lem types (w.units.call u) (depth_of (w.units.origin u)) s.trail s.is) in
      let read : (r : Read) × Member r (w.units.reads u) × (r.grain ≡ g) = holder-read w u g k held in
      absurd (missing.0 (there-read (w.units.reads u) (reads_of s.trail) g read.0 s.reads read.1 read.2))
  | inr e ↦ e
]

-- where no unit begins, the names stay and grow by what was asked for
named-more : (types : ProgramTree) (w w' : CoreState) (got : UnitNo → List Got) (v : UnitNo) (x : Got) → IsSteady w w' → Grows w w' → Traced types w got → wanted_by types w v (got v) ≡ Some (want_of x) →
    AreNamed (outcome_of w') types (w'.units.call v) (depth_of (w'.units.origin v)) [] (got v ++ (x ∷ []))
named-more types w w' got v x s g t due =
    let a = trailed types w got v (want_of x) t due in
    subst (λ (f : UnitNo → Origin). AreNamed (outcome_of w') types (w'.units.call v) (depth_of (f v)) [] (got v ++ (x ∷ []))) (sym s.origin)
    (subst (λ (f : UnitNo → Call). AreNamed (outcome_of w') types (f v) (depth_of (w.units.origin v)) [] (got v ++ (x ∷ []))) (sym s.call)
    (named-later (outcome_of w) (outcome_of w') (grows-outcome w w' g) types (w.units.call v) (depth_of (w.units.origin v)) [] (got v ++ (x ∷ []))
    (named-push (outcome_of w) types (w.units.call v) (depth_of (w.units.origin v)) [] (got v) x (t.named v) a.trail a.given a.named)))

-- one more read at the end
pub map-push : (rs : List Read) (r : Read) → map found (rs ++ (r ∷ [])) ≡ map found rs ++ (found r ∷ [])
map-push [] r = refl
map-push (x ∷ rs) r = ap (λ (l : List GrainState). found x ∷ l) (map-push rs r)

-- one unit got a lock or a raise
pub traced-got : (types : ProgramTree) (w w' : CoreState) (got : UnitNo → List Got) (v : UnitNo) (f : UnitNo → Got) → IsSteady w w' → Grows w w' → Traced types w got → w.units.phase v ≡ Running →
    wanted_by types w v (got v) ≡ Some (want_of (f v)) → kids_got (f v ∷ []) ≡ [] →
    ((u : UnitNo) → (u ≡ v → ⊥) → w'.units.reads u ≡ w.units.reads u) → reads_got (got v) ++ reads_got (f v ∷ []) ≡ map found (w'.units.reads v) →
    Traced types w' (λ u. got u ++ (if same_unit v u then f u ∷ [] else []))
traced-got types w w' got v f s g t running due no_kid others reads = record {
  fresh = λ u. got-at got v f (λ x l. w'.units.phase x ≡ Unborn → l ≡ []) u
      (λ e. (let z : Unborn ≡ Running = sym (s.fresh v e) ∙ running in cc))
      (λ n e. t.fresh u (s.fresh u e));
  reads = λ u. got-at got v f (λ x l. reads_got l ≡ map found (w'.units.reads x)) u
      (reads_got-append (got v) (f v ∷ []) ∙ reads)
      (λ n. t.reads u ∙ ap (map found) (sym (others u n)));
  kids = λ u. got-at got v f (λ x l. kids_got l ≡ w'.units.kids x) u
      (kids_got-append (got v) (f v ∷ []) ∙ ap (λ (l : List UnitNo). kids_got (got v) ++ l) no_kid ∙ append-nil (kids_got (got v)) ∙ t.kids v ∙ ap (λ (h : UnitNo → List UnitNo). h v) (sym s.kids))
      (λ n. t.kids u ∙ ap (λ (h : UnitNo → List UnitNo). h u) (sym s.kids));
  named = λ u. got-at got v f (λ x l. AreNamed (outcome_of w') types (w'.units.call x) (depth_of (w'.units.origin x)) [] l) u
      (named-more types w w' got v (f v) s g t due)
      (λ n. named-steady types w w' got s g t u);
}

-- ---- a unit begins

stays-begun : (w : CoreState) (origin : Origin) (call : Call) (plain : Bool) → LoadlessKept w → Grows w (begun w origin call plain) → Stays w (begun w origin call plain)
stays-begun w origin call plain k g = record {
  begun = λ u b z. b (sym (put-other w.units.phase (new_unit w) Running u (apart u b)) ∙ z);
  origin = λ u b. put-other w.units.origin (new_unit w) origin u (apart u b);
  call = λ u b. put-other w.units.call (new_unit w) call u (apart u b);
  reads = g.2;
  outcome = grows-outcome w (begun w origin call plain) g;
}
  where
    apart : (u : UnitNo) → HasBegun w u → u ≡ new_unit w → ⊥
    apart u b q = b (ap w.units.phase q ∙ k.0.unborn (new_unit w) (le_refl w.units.next))

-- the new unit is a line's or a child's, as it must be
known-begun : (types : ProgramTree) (lines : List (List ℕ)) (base : ℕ) (w : CoreState) (origin : Origin) (call : Call) (plain : Bool) → LoadlessKept w → Grows w (begun w origin call plain) →
    ((m : ℕ) → origin ≡ Line m → IsLineCall types lines m call) → ((p : UnitNo) (i d : ℕ) → origin ≡ Child p i d → (plain ≡ false) × Led types w call p i d) →
    Known types lines base w → Known types lines base (begun w origin call plain)
known-begun types lines base w origin call plain k g of_line of_child s = record {
  above = omega (arith, s.above);
  numbered = λ u b. elim (cases_unit u n) [
    | inl q ↦ omega (arith, s.above, ap (λ (x : UnitNo). x.0) q)
    | inr a ↦ s.numbered u (old u a b)
  ];
  line = λ u m b e. elim (cases_unit u n) [
    | inl q ↦ subst (IsLineCall types lines m) (sym (put-is w.units.call n call u q)) (of_line m (sym (put-is w.units.origin n origin u q) ∙ e))
    | inr a ↦ subst (IsLineCall types lines m) (sym (put-other w.units.call n call u a)) (s.line u m (old u a b) (sym (put-other w.units.origin n origin u a) ∙ e))
  ];
  whole = λ u p i d b e. elim (cases_unit u n) [
    | inl q ↦ put-is w.units.plain n plain u q ∙ (of_child p i d (sym (put-is w.units.origin n origin u q) ∙ e)).0
    | inr a ↦ put-other w.units.plain n plain u a ∙ s.whole u p i d (old u a b) (sym (put-other w.units.origin n origin u a) ∙ e)
  ];
  ended = λ u e. elim (cases_unit u n) [
    | inl q ↦ (let z : Running ≡ Ended = sym (put-is w.units.phase n Running u q) ∙ e in absurd (cc))
    | inr a ↦ put-other w.units.plain n plain u a ∙ s.ended u (sym (put-other w.units.phase n Running u a) ∙ e)
  ];
  led = λ u p i d b e. elim (cases_unit u n) [
    | inl q ↦ subst (λ (c : Call). Led types (begun w origin call plain) c p i d) (sym (put-is w.units.call n call u q))
        (led-stays types w (begun w origin call plain) call p i d stays (of_child p i d (sym (put-is w.units.origin n origin u q) ∙ e)).1)
    | inr a ↦ subst (λ (c : Call). Led types (begun w origin call plain) c p i d) (sym (put-other w.units.call n call u a))
        (led-stays types w (begun w origin call plain) (w.units.call u) p i d stays (s.led u p i d (old u a b) (sym (put-other w.units.origin n origin u a) ∙ e)))
  ];
}
  where
    n : UnitNo
    n = new_unit w

    stays : Stays w (begun w origin call plain)
    stays = stays-begun w origin call plain k g

    old : (u : UnitNo) → (u ≡ new_unit w → ⊥) → HasBegun (begun w origin call plain) u → HasBegun w u
    old u a b z = b (put-other w.units.phase (new_unit w) Running u a ∙ z)

-- what the others got keeps its names, and the new unit got nothing
named-begun : (types : ProgramTree) (w : CoreState) (got : UnitNo → List Got) (origin : Origin) (call : Call) (plain : Bool) → LoadlessKept w → Grows w (begun w origin call plain) →
    Traced types w got → (u : UnitNo) →
    AreNamed (outcome_of (begun w origin call plain)) types (put w.units.call (new_unit w) call u) (depth_of (put w.units.origin (new_unit w) origin u)) [] (got u)
named-begun types w got origin call plain k g t u = elim (cases_unit u (new_unit w)) [
  | inl q ↦ subst (AreNamed (outcome_of (begun w origin call plain)) types (put w.units.call (new_unit w) call u) (depth_of (put w.units.origin (new_unit w) origin u)) [])
      (sym (t.fresh u (ap w.units.phase q ∙ k.0.unborn (new_unit w) (le_refl w.units.next)))) tt
  | inr a ↦
      subst (λ (o : Origin). AreNamed (outcome_of (begun w origin call plain)) types (put w.units.call (new_unit w) call u) (depth_of o) [] (got u)) (sym (put-other w.units.origin (new_unit w) origin u a))
      (subst (λ (c : Call). AreNamed (outcome_of (begun w origin call plain)) types c (depth_of (w.units.origin u)) [] (got u)) (sym (put-other w.units.call (new_unit w) call u a))
      (named-later (outcome_of w) (outcome_of (begun w origin call plain)) (grows-outcome w (begun w origin call plain) g) types (w.units.call u) (depth_of (w.units.origin u)) [] (got u) (t.named u)))
]

-- a line's unit begins
traced-line : (types : ProgramTree) (w : CoreState) (got : UnitNo → List Got) (m : ℕ) (call : Call) (plain : Bool) → LoadlessKept w → Grows w (begun w (Line m) call plain) →
    Traced types w got → Traced types (begun w (Line m) call plain) got
traced-line types w got m call plain k g t = record {
  fresh = λ u e. put-from w.units.phase (new_unit w) Running (λ p. p ≡ Unborn) (got u ≡ []) u (λ q z. absurd (cc)) (λ q z. t.fresh u z) e;
  reads = t.reads;
  kids = t.kids;
  named = named-begun types w got (Line m) call plain k g t;
}

-- a child begins
traced-child : (types : ProgramTree) (w : CoreState) (got : UnitNo → List Got) (p : UnitNo) (i d : ℕ) (call : Call) (plain : Bool) → LoadlessKept w → Grows w (begun w (Child p i d) call plain) →
    w.units.phase p ≡ Running → wanted_by types w p (got p) ≡ Some (WantUnit call d) → Traced types w got →
    Traced types (begun w (Child p i d) call plain) (λ u. got u ++ (if same_unit p u then GotChild call d (new_unit w) ∷ [] else []))
traced-child types w got p i d call plain k g running due t = record {
  fresh = λ u. got-at got p one (λ x l. put w.units.phase n Running x ≡ Unborn → l ≡ []) u
      (λ e. (let z : Unborn ≡ Running = sym e ∙ put-other w.units.phase n Running p apart ∙ running in absurd (cc)))
      (λ q e. put-from w.units.phase n Running (λ z. z ≡ Unborn) (got u ≡ []) u (λ h z. absurd (cc)) (λ h z. t.fresh u z) e);
  reads = λ u. got-at got p one (λ x l. reads_got l ≡ map found (w.units.reads x)) u
      (reads_got-append (got p) (one p ∷ []) ∙ append-nil (reads_got (got p)) ∙ t.reads p)
      (λ q. t.reads u);
  kids = λ u. got-at got p one (λ x l. kids_got l ≡ put w.units.kids p (w.units.kids p ++ n ∷ []) x) u
      (kids_got-append (got p) (one p ∷ []) ∙ ap (λ (l : List UnitNo). l ++ (n ∷ [])) (t.kids p) ∙ sym (put-same w.units.kids p (w.units.kids p ++ n ∷ [])))
      (λ q. t.kids u ∙ sym (put-other w.units.kids p (w.units.kids p ++ n ∷ []) u q));
  named = λ u. got-at got p one (λ x l. AreNamed (outcome_of w') types (put w.units.call n call x) (depth_of (put w.units.origin n (Child p i d) x)) [] l) u
      named-parent
      (λ q. named-begun types w got (Child p i d) call plain k g t u);
}
  where
    n : UnitNo
    n = new_unit w

    w' : CoreState
    w' = begun w (Child p i d) call plain

    one : UnitNo → Got
    one u = GotChild call d (new_unit w)

    apart : p ≡ new_unit w → ⊥
    apart q = (let z : Unborn ≡ Running = sym (k.0.unborn (new_unit w) (le_refl w.units.next)) ∙ sym (ap w.units.phase q) ∙ running in cc)

    named-parent : AreNamed (outcome_of (begun w (Child p i d) call plain)) types (put w.units.call (new_unit w) call p) (depth_of (put w.units.origin (new_unit w) (Child p i d) p)) [] (got p ++ (GotChild call d (new_unit w) ∷ []))
    named-parent =
        let a = trailed types w got p (WantUnit call d) t due in
        subst (λ (o : Origin). AreNamed (outcome_of (begun w (Child p i d) call plain)) types (put w.units.call (new_unit w) call p) (depth_of o) [] (got p ++ (GotChild call d (new_unit w) ∷ [])))
        (sym (put-other w.units.origin (new_unit w) (Child p i d) p apart))
        (subst (λ (c : Call). AreNamed (outcome_of (begun w (Child p i d) call plain)) types c (depth_of (w.units.origin p)) [] (got p ++ (GotChild call d (new_unit w) ∷ [])))
        (sym (put-other w.units.call (new_unit w) call p apart))
        (named-later (outcome_of w) (outcome_of (begun w (Child p i d) call plain)) (grows-outcome w (begun w (Child p i d) call plain) g) types (w.units.call p) (depth_of (w.units.origin p)) [] (got p ++ (GotChild call d (new_unit w) ∷ []))
        (named-push (outcome_of w) types (w.units.call p) (depth_of (w.units.origin p)) [] (got p) (GotChild call d (new_unit w)) (t.named p) a.trail a.given a.named)))

-- what its parent was given led to it
led-child : (types : ProgramTree) (w : CoreState) (got : UnitNo → List Got) (p : UnitNo) (i d : ℕ) (call : Call) → Kin w → w.units.phase p ≡ Running → i ≡ length (w.units.kids p) →
    wanted_by types w p (got p) ≡ Some (WantUnit call d) → Traced types w got → Led types w call p i d
led-child types w got p i d call kin running at due t =
    let a : Trailed types w got p (WantUnit call d) = trailed types w got p (WantUnit call d) t due in
    let outcomes : map (outcome_of w) (w.units.kids p) ≡ map Some (answers_of a.trail) =
    ap (map (outcome_of w)) (sym (t.kids p)) ∙ given-outcomes (outcome_of w) (got p) a.trail a.given in
    record {
      parent = λ z. (let q : Unborn ≡ Running = sym z ∙ running in cc);
      trail = a.trail;
      is = a.is;
      reads = λ one m. map-member found (w.units.reads p) one (subst (Member one) a.reads m);
      answered = λ j o there.
          (let h = outcome-at (outcome_of w) (w.units.kids p) (answers_of a.trail) outcomes j o there in
          let kid = kin.1 p j h.0 in
          record { kid = get_or (w.units.kids p) j nobody; depth = kid.0; begun = kid.2; origin = kid.1; outcome = h.1 });
      count = as-many (outcome_of w) (w.units.kids p) (answers_of a.trail) outcomes ∙ sym at;
      named = a.named;
    }

-- a unit that begins is due
pub told-begun : (s : Basis) (base : ℕ) (w : CoreState) (got : UnitNo → List Got) (origin : Origin) (call : Call) (plain : Bool) → LoadlessKept w → Kin w →
    Grows w (begun w origin call plain) → can_begin w origin ≡ true → IsDue s w got (Begin origin call plain) → Told s.types s.lines base w got →
    Told s.types s.lines base (begun w origin call plain) (λ u. got u ++ got_by w u (Begin origin call plain))
told-begun s base w got (Line m) call plain k kin g c due t = (
  known-begun s.types s.lines base w (Line m) call plain k g
      (λ n e. (let same : m ≡ n = cc in subst (λ (x : ℕ). IsLineCall s.types s.lines x call) same due.0))
      (λ p i d e. absurd (cc)) t.0,
  nothing_more s.types (begun w (Line m) call plain) got (traced-line s.types w got m call plain k g t.1),
)
told-begun s base w got (Child q i0 d0) call plain k kin g c due t =
    let tests = and_parts (is_running (w.units.phase q)) _ c in
    let running : w.units.phase q ≡ Running = is_running-true (w.units.phase q) tests.0 in
    let at : i0 ≡ length (w.units.kids q) = eqb-true _ _ (and_parts (i0 == length (w.units.kids q)) _ tests.1).0 in
    let led : Led s.types w call q i0 d0 = led-child s.types w got q i0 d0 call kin running at due.0 t.1 in (
      known-begun s.types s.lines base w (Child q i0 d0) call plain k g
          (λ n e. absurd (cc))
          (λ p i d e. (let parent : q ≡ p = cc in let index : i0 ≡ i = cc in let depth : d0 ≡ d = cc in
          (due.1, subst (λ (x : ℕ). Led s.types w call p i x) depth (subst (λ (x : ℕ). Led s.types w call p x d0) index (subst (λ (x : UnitNo). Led s.types w call x i0 d0) parent led))))) t.0,
      traced-child s.types w got q i0 d0 call plain k g running due.0 t.1,
    )
