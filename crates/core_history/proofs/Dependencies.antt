-- Dependencies, read off a history.
use Rattle.std.proofs.Common.{◌≡◌, List, [], ◌∷◌, ◌++◌, true, false, ◌⊎◌, inl, inr, refl, sym, ap, ◌∙◌, subst, Some, None, append_assoc}
use Rattle.std.specs.Prelude.{◌↔◌}
use Rattle.std.proofs.lemmas.Bool.{cases_Bool, cond_both, cond-true, cond-false, or_from, or_parts}
use Rattle.cell_model.specs.Locks.{holds_lock}
use Rattle.cell_model.specs.Sources.{with_source}
use Rattle.cell_model.proofs.Sources.{with-has, with-keeps, with-only}
use Rattle.cell_model.proofs.Units.{same_unit-true, same_unit-false, same_unit-is, same_unit-not}
use Rattle.core_model.specs.declared.events.CoreEvent.{CoreEvent}
use Rattle.core_model.specs.declared.events.CoreEvent.TheVariants.{Grant}
use Rattle.core_model.specs.declared.effects.Read.{Read}
use Rattle.core_model.specs.declared.phases.Phase.TheVariants.{Running}
use Rattle.core_model.specs.CoreState.{UnitNo, GrainId, Mode, Value, CoreState, Member, nobody, same_unit, top, put, put_grain}
use Rattle.core_model.specs.Tests.{is_over, is_committed}
use Rattle.core_model.specs.Changes.{cleaned, restacked, deps_with, is_sure, read_of}
use Rattle.core_laws.proofs.EventCases.{Change, lock, raise}
use Rattle.core_laws.proofs.Basics.{is_committed-true}
use Rattle.core_laws.proofs.Puts.{put-at, put-from, grain-same}
use Rattle.core_history.specs.Histories.{Applied}
use Rattle.core_history.specs.Units.{shown, has_read, reads_in}
use Rattle.core_history.specs.Fates.{IsCommittedIn}
use Rattle.core_history.specs.Dependencies.{IsDependency}
use Rattle.core_history.proofs.Words.{some-is, more}
use Rattle.core_history.proofs.RunHistory.{answered}
use Rattle.core_history.proofs.Phases.{lock-mode}
use Rattle.core_history.proofs.AnyEvents.{Tells}
use Rattle.core_history.proofs.Cores.{Core}
use Rattle.core_history.proofs.Fates.{FatesOf, committed-in, committed-by}

-- the last event of a list stands at its end, or in what comes before
pub split-last : (front back h : List Applied) (x a : Applied) → front ++ (x ∷ back) ≡ more h a → ((front ≡ h) × (x ≡ a)) ⊎ ((b : List Applied) × (h ≡ front ++ (x ∷ b)))
split-last [] back [] x a e = (let q : x ≡ a = cc in inl (refl, q))
split-last [] back (y ∷ h) x a e = (let q : y ≡ x = cc in inr (h, ap (λ t. t ∷ h) q))
split-last (z ∷ front) back [] x a e = (let q : front ++ (x ∷ back) ≡ [] = cc in absurd (never front q))
  where
    never : (f : List Applied) → f ++ (x ∷ back) ≡ [] → ⊥
    never [] q = cc
    never (y ∷ f) q = cc
split-last (z ∷ front) back (y ∷ h) x a e =
    (let q : front ++ (x ∷ back) ≡ more h a = cc in
    let same : z ≡ y = cc in
    elim (split-last front back h x a q) [
      | inl t ↦ inl ((λ i. same i ∷ t.0 i), t.1)
      | inr t ↦ inr (t.0, λ i. sym same i ∷ t.1 i)
    ])

-- what makes the other a dependency at an event
pub record IsNew (h : List Applied) (a : Applied) (u d : UnitNo) : Type 0 where
  pub read : Read
  pub granted : shown u a.event a.reply ≡ Some read
  pub first : has_read read.grain (reads_in u h) ≡ false
  pub source : read.source ≡ d
  pub somebody : d ≡ nobody → ⊥
  pub unsure : IsCommittedIn h d → ⊥

-- what is a dependency stays one
pub depends-before : (h : List Applied) (a : Applied) (u d : UnitNo) → IsDependency h u d → IsDependency (more h a) u d
depends-before h a u d x = record {
  front = x.front;
  at = x.at;
  back = x.back ++ a ∷ [];
  split = ap (λ t. t ++ a ∷ []) x.split ∙ append_assoc x.front (x.at ∷ x.back) (a ∷ []);
  read = x.read;
  granted = x.granted;
  first = x.first;
  source = x.source;
  somebody = x.somebody;
  unsure = x.unsure;
}

-- and is one where an event makes it so
depends-now : (h : List Applied) (a : Applied) (u d : UnitNo) → IsNew h a u d → IsDependency (more h a) u d
depends-now h a u d x = record { front = h; at = a; back = []; split = refl; read = x.read; granted = x.granted; first = x.first; source = x.source; somebody = x.somebody; unsure = x.unsure }

-- and only then
depends-cases : (h : List Applied) (a : Applied) (u d : UnitNo) → IsDependency (more h a) u d → IsDependency h u d ⊎ IsNew h a u d
depends-cases h a u d x = elim (split-last x.front x.back h x.at a (sym x.split)) [
  | inl t ↦ inr (record {
    read = x.read;
    granted = ap (λ (z : Applied). shown u z.event z.reply) (sym t.1) ∙ x.granted;
    first = ap (λ z. has_read x.read.grain (reads_in u z)) (sym t.0) ∙ x.first;
    source = x.source;
    somebody = x.somebody;
    unsure = λ c. x.unsure (subst (λ z. IsCommittedIn z d) (sym t.0) c);
  })
  | inr t ↦ inl (record { front = x.front; at = x.at; back = t.0; split = t.1; read = x.read; granted = x.granted; first = x.first; source = x.source; somebody = x.somebody; unsure = x.unsure })
]

-- the dependencies of a state are those of the history
abbrev pub DependsOf : List Applied → CoreState → Type 0
DependsOf h w = (u d : UnitNo) → Member d (w.units.deps u) ↔ IsDependency h u d

-- a unit's first lock of a grain
locked-to : (opening : GrainId → List Value) (h : List Applied) (w : CoreState) (u : UnitNo) (g : GrainId) (mode : Mode) → Core opening w → Tells h w → FatesOf h w → DependsOf h w → w.units.phase u ≡ Running → holds_lock u (w.cells.holds g) ≡ false → (x d : UnitNo) →
    Member d (put w.units.deps u (deps_with (restacked w g (cleaned w g)) (w.units.deps u) (top (put_grain w.cells.stack g (cleaned w g) g)).unit) x) → IsDependency (more h (answered w (Grant u g mode))) x d
locked-to opening h w u g mode core t f s running free x d =
    put-from w.units.deps u (deps_with w2 (w.units.deps u) source) (Member d) (IsDependency (more h (answered w (Grant u g mode))) x d) x
    (λ e. cond_both (is_sure w2 source) (w.units.deps u) (with_source (w.units.deps u) source) (λ z. Member d z → IsDependency (more h (answered w (Grant u g mode))) x d)
    (λ q m. old (subst (λ z. Member d (w.units.deps z)) (sym e) m))
    (λ q m. elim (with-only (w.units.deps u) source d m) [
      | inr o ↦ old (subst (λ z. Member d (w.units.deps z)) (sym e) o)
      | inl o ↦ depends-now h (answered w (Grant u g mode)) x d (new e q o)
    ]))
    (λ e m. old m)
  where
    w2 : CoreState
    w2 = restacked w g (cleaned w g)

    source : UnitNo
    source = (top (put_grain w.cells.stack g (cleaned w g) g)).unit

    same : source ≡ (top (cleaned w g)).unit
    same = ap (λ z. (top z).unit) (grain-same w.cells.stack g (cleaned w g))

    old : Member d (w.units.deps x) → IsDependency (more h (answered w (Grant u g mode))) x d
    old m = depends-before h (answered w (Grant u g mode)) x d ((s x d).0 m)

    new : x ≡ u → is_sure w2 source ≡ false → d ≡ source → IsNew h (answered w (Grant u g mode)) x d
    new e q o =
        let p = or_parts (same_unit source nobody) (is_committed (w.manager.verdict source)) q in
        record {
          read = read_of g (top (cleaned w g));
          granted = cond-true (same_unit u x) (Some (read_of g (top (cleaned w g)))) None (same_unit-is u x (sym e));
          first = ap (has_read g) (sym (t.reads x)) ∙ t.held_read x g (ap is_over (ap w.units.phase e ∙ running)) ∙ sym (lock-mode x (w.cells.holds g)) ∙ ap (λ z. holds_lock z (w.cells.holds g)) e ∙ free;
          source = sym same ∙ sym o;
          somebody = λ n. same_unit-false source nobody p.0 (sym o ∙ n);
          unsure = λ c. (let v = committed-by h w t f d c in let z : true ≡ false = sym (ap is_committed v) ∙ ap (λ k. is_committed (w.manager.verdict k)) o ∙ p.1 in cc);
        }

-- the other way round
locked-from : (opening : GrainId → List Value) (h : List Applied) (w : CoreState) (u : UnitNo) (g : GrainId) (mode : Mode) → Core opening w → Tells h w → FatesOf h w → DependsOf h w → (x d : UnitNo) →
    IsDependency (more h (answered w (Grant u g mode))) x d → Member d (put w.units.deps u (deps_with (restacked w g (cleaned w g)) (w.units.deps u) (top (put_grain w.cells.stack g (cleaned w g) g)).unit) x)
locked-from opening h w u g mode core t f s x d dep = elim (depends-cases h (answered w (Grant u g mode)) x d dep) [
  | inl o ↦ (let m = (s x d).1 o in
      put-at w.units.deps u (deps_with w2 (w.units.deps u) source) (Member d) x
      (λ e. cond_both (is_sure w2 source) (w.units.deps u) (with_source (w.units.deps u) source) (Member d)
      (λ q. subst (λ z. Member d (w.units.deps z)) e m)
      (λ q. with-keeps (w.units.deps u) source d (subst (λ z. Member d (w.units.deps z)) e m)))
      (λ e. m))
  | inr n ↦ elim (cases_Bool (same_unit u x)) [
    | inr no_unit ↦ (let z : None ≡ Some n.read = sym (cond-false (same_unit u x) (Some (read_of g (top (cleaned w g)))) None no_unit) ∙ n.granted in cc)
    | inl is_unit ↦ (let r : read_of g (top (cleaned w g)) ≡ n.read = some-is _ n.read (sym (cond-true (same_unit u x) (Some (read_of g (top (cleaned w g)))) None is_unit) ∙ n.granted) in
        let is : d ≡ source = sym n.source ∙ sym (ap (λ (z : Read). z.source) r) ∙ sym same in
        put-at w.units.deps u (deps_with w2 (w.units.deps u) source) (Member d) x
        (λ e. subst (Member d) (sym (cond-false (is_sure w2 source) (w.units.deps u) (with_source (w.units.deps u) source) (unsure n is)))
        (subst (λ z. Member z (with_source (w.units.deps u) source)) (sym is) (with-has (w.units.deps u) source)))
        (λ e. absurd (e (sym (same_unit-true u x is_unit)))))
  ]
]
  where
    w2 : CoreState
    w2 = restacked w g (cleaned w g)

    source : UnitNo
    source = (top (put_grain w.cells.stack g (cleaned w g) g)).unit

    same : source ≡ (top (cleaned w g)).unit
    same = ap (λ z. (top z).unit) (grain-same w.cells.stack g (cleaned w g))

    unsure : IsNew h (answered w (Grant u g mode)) x d → d ≡ source → is_sure w2 source ≡ false
    unsure n is = or_from (same_unit source nobody) (is_committed (w.manager.verdict source))
        (same_unit-not source nobody (λ z. n.somebody (is ∙ z)))
        (elim (cases_Bool (is_committed (w.manager.verdict source))) [
          | inl y ↦ absurd (n.unsure (committed-in opening h w core t f d (ap w.manager.verdict is ∙ is_committed-true (w.manager.verdict source) y)))
          | inr y ↦ y
        ])

-- a later grant shows nothing new
raised-from : (h : List Applied) (w : CoreState) (u : UnitNo) (g : GrainId) (mode : Mode) → Tells h w → DependsOf h w → w.units.phase u ≡ Running → holds_lock u (w.cells.holds g) ≡ true → (x d : UnitNo) → IsDependency (more h (answered w (Grant u g mode))) x d → Member d (w.units.deps x)
raised-from h w u g mode t s running own x d dep = elim (depends-cases h (answered w (Grant u g mode)) x d dep) [
  | inl o ↦ (s x d).1 o
  | inr n ↦ elim (cases_Bool (same_unit u x)) [
    | inr no_unit ↦ (let z : None ≡ Some n.read = sym (cond-false (same_unit u x) (Some (read_of g (top (cleaned w g)))) None no_unit) ∙ n.granted in cc)
    | inl is_unit ↦ (let r : read_of g (top (cleaned w g)) ≡ n.read = some-is _ n.read (sym (cond-true (same_unit u x) (Some (read_of g (top (cleaned w g)))) None is_unit) ∙ n.granted) in
        let e : x ≡ u = sym (same_unit-true u x is_unit) in
        let read : has_read g (reads_in x h) ≡ true = ap (has_read g) (sym (t.reads x)) ∙ t.held_read x g (ap is_over (ap w.units.phase e ∙ running)) ∙ sym (lock-mode x (w.cells.holds g)) ∙ ap (λ z. holds_lock z (w.cells.holds g)) e ∙ own in
        let z : true ≡ false = sym read ∙ ap (λ (y : Read). has_read y.grain (reads_in x h)) r ∙ n.first in cc)
  ]
]

-- each dependency after an event is one of the history
depends-to : (opening : GrainId → List Value) (h : List Applied) (w : CoreState) (e : CoreEvent) (w' : CoreState) → Change w e w' → Core opening w → Tells h w → FatesOf h w → DependsOf h w → (x d : UnitNo) → Member d (w'.units.deps x) → IsDependency (more h (answered w e)) x d
depends-to opening h w e w' (lock u g mode running free first here) core t f s x d = locked-to opening h w u g mode core t f s running first x d
depends-to opening h w e w' c core t f s x d = λ m. depends-before h (answered w e) x d ((s x d).0 m)

-- and each of the history is one
depends-from : (opening : GrainId → List Value) (h : List Applied) (w : CoreState) (e : CoreEvent) (w' : CoreState) → Change w e w' → Core opening w → Tells h w → FatesOf h w → DependsOf h w → (x d : UnitNo) → IsDependency (more h (answered w e)) x d → Member d (w'.units.deps x)
depends-from opening h w e w' (lock u g mode running free first here) core t f s x d = locked-from opening h w u g mode core t f s x d
depends-from opening h w e w' (raise u g mode running free own here uncovered) core t f s x d = raised-from h w u g mode t s running own x d
depends-from opening h w e w' c core t f s x d = λ dep. elim (depends-cases h (answered w e) x d dep) [
  | inl o ↦ (s x d).1 o
  | inr n ↦ (let z : None ≡ Some n.read = n.granted in cc)
]

-- the dependencies after an event
pub depends-after : (opening : GrainId → List Value) (h : List Applied) (w : CoreState) (e : CoreEvent) (w' : CoreState) → Change w e w' → Core opening w → Tells h w → FatesOf h w → DependsOf h w → DependsOf (more h (answered w e)) w'
depends-after opening h w e w' c core t f s x d = (depends-to opening h w e w' c core t f s x d, depends-from opening h w e w' c core t f s x d)
