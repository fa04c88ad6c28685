-- The plan of a batch, as it is taken and as it stays.
use Rattle.std.proofs.Common.{◌≡◌, ℕ, ◌<◌, List, [], ◌∷◌, ◌++◌, Bool, true, false, ◌⊎◌, inl, inr, refl, sym, ap, ◌∙◌, subst, arith, Option, Some, None}
use Rattle.std.specs.Prelude.{if◌then◌else◌, flat_map, map}
use Rattle.std.proofs.lemmas.Bool.{and_parts, cases_Bool, cases_lt, cond_both, cond-false}
use Rattle.cell_model.proofs.Units.{any-true, any-none, any-member, same_grain-true, same_grain-false, same_grain-is, Member-append, Member-left, Member-right}
use Rattle.core_model.specs.CoreState.{UnitNo, GrainId, same_grain, Member, Value, Write, Batch, CoreState}
use Rattle.core_model.specs.declared.phases.Phase.TheVariants.{Running, Finished}
use Rattle.core_model.specs.declared.phases.Verdict.TheVariants.{Aborted}
use Rattle.core_model.specs.declared.effects.Effect.{Effect}
use Rattle.core_model.specs.Tests.{any, is_bad, is_before, members, has_bad_source, with_grain, grains_of, grains_to_write, planned}
use Rattle.core_model.specs.Chains.{WroteGrain}
use Rattle.core_model.specs.Changes.{finished, after_take, swept, swept_by}
use Rattle.core_model.specs.Events.{applies, batch_size, can, does, step, run, is_allowed}
use Rattle.core_model.specs.declared.events.CoreEvent.{CoreEvent}
use Rattle.core_model.specs.declared.events.CoreEvent.TheVariants.{Take}
use Rattle.core_model.specs.Steps.{AreAscending, IsPlan}
use Rattle.core_model.specs.LegalRuns.{Run, IsLegal, begins, ends}
use Rattle.core_model.specs.SerialOrder.{AllLoadsTrue}
use Rattle.core_laws.proofs.Puts.{put-other}
use Rattle.core_laws.proofs.Failures.{before-true, before-false, named-written, written-named}
use Rattle.core_laws.proofs.EventCases.{Change, bad, begin, lock, raise, refuse, finish, end_plain, end_snapshot, release, take_batch, vote, decide_some, decide_none, seal_batch, spoil_batch, doubt_batch, learn, emit, halt_run, want, load, decode}
use Rattle.core_laws.proofs.Reasons.{member-finished}
use Rattle.core_laws.proofs.Dependencies.{Depends, depends-step}
use Rattle.core_laws.proofs.Consistency.{depends-earlier}
use Rattle.core_laws.proofs.Ends.{kept-begins}
use Rattle.core_laws.proofs.KeptInvariant.{Kept, kept-step, size-open}
use Rattle.core_laws.proofs.Orders.{take-drop-push}

-- ---- grains in order

pub with-new : (xs : List GrainId) (g : GrainId) → Member g (with_grain xs g)
with-new [] g = inl refl
with-new (x ∷ xs) g = cond_both (same_grain x g) (x ∷ xs) (if is_before g x then g ∷ x ∷ xs else x ∷ with_grain xs g) (Member g)
    (λ e. inl (sym (same_grain-true _ _ e)))
    (λ e. cond_both (is_before g x) (g ∷ x ∷ xs) (x ∷ with_grain xs g) (Member g) (λ b. inl refl) (λ b. inr (with-new xs g)))

pub with-old : (xs : List GrainId) (g k : GrainId) → Member k xs → Member k (with_grain xs g)
with-old [] g k m = absurd m
with-old (x ∷ xs) g k m = cond_both (same_grain x g) (x ∷ xs) (if is_before g x then g ∷ x ∷ xs else x ∷ with_grain xs g) (Member k)
    (λ e. m)
    (λ e. cond_both (is_before g x) (g ∷ x ∷ xs) (x ∷ with_grain xs g) (Member k) (λ b. inr m) (λ b. elim m [ inl q ↦ inl q | inr n ↦ inr (with-old xs g k n) ]))

pub with-only : (xs : List GrainId) (g k : GrainId) → Member k (with_grain xs g) → (k ≡ g) ⊎ Member k xs
with-only [] g k (inl e) = inl e
with-only [] g k (inr m) = absurd m
with-only (x ∷ xs) g k h = cond_both (same_grain x g) (x ∷ xs) (if is_before g x then g ∷ x ∷ xs else x ∷ with_grain xs g) (λ ys. Member k ys → (k ≡ g) ⊎ Member k (x ∷ xs))
    (λ e m. inr m)
    (λ e. cond_both (is_before g x) (g ∷ x ∷ xs) (x ∷ with_grain xs g) (λ ys. Member k ys → (k ≡ g) ⊎ Member k (x ∷ xs)) (λ b m. m)
    (λ b m. elim m [ inl q ↦ inr (inl q) | inr n ↦ elim (with-only xs g k n) [ inl q ↦ inl q | inr o ↦ inr (inr o) ] ])) h

pub grains-in : (gs : List GrainId) (k : GrainId) → Member k gs → Member k (grains_of gs)
grains-in [] k m = absurd m
grains-in (g ∷ gs) k (inl e) = subst (λ z. Member z (with_grain (grains_of gs) g)) (sym e) (with-new (grains_of gs) g)
grains-in (g ∷ gs) k (inr m) = with-old (grains_of gs) g k (grains-in gs k m)

pub grains-only : (gs : List GrainId) (k : GrainId) → Member k (grains_of gs) → Member k gs
grains-only [] k m = absurd m
grains-only (g ∷ gs) k m = elim (with-only (grains_of gs) g k m) [ inl e ↦ inl e | inr o ↦ inr (grains-only gs k o) ]

before-from : (a b : GrainId) → (a.kind < b.kind) ⊎ ((a.kind ≡ b.kind) × (a.key < b.key)) → is_before a b ≡ true
before-from a b o = elim (cases_Bool (is_before a b)) [
  | inl e ↦ e
  | inr e ↦ absurd (elim (before-false a b e) [
    | inl p ↦ elim o [ inl m ↦ omega (arith, p, m) | inr m ↦ omega (arith, p, m.0) ]
    | inr p ↦ elim o [ inl m ↦ omega (arith, p.0, m) | inr m ↦ omega (arith, p.1, m.1) ]
  ])
]

before-through : (a b c : GrainId) → is_before a b ≡ true → is_before b c ≡ true → is_before a c ≡ true
before-through a b c p q = before-from a c (elim (before-true a b p) [
  | inl l ↦ elim (before-true b c q) [ inl m ↦ inl (omega (arith, l, m)) | inr m ↦ inl (omega (arith, l, m.0)) ]
  | inr l ↦ elim (before-true b c q) [ inl m ↦ inl (omega (arith, l.0, m)) | inr m ↦ inr (l.0 ∙ m.0, omega (arith, l.1, m.1)) ]
])

-- of two grains that aren't one, one comes before the other
before-other : (a b : GrainId) → same_grain a b ≡ false → is_before b a ≡ false → is_before a b ≡ true
before-other a b n e = elim (before-false b a e) [
  | inl l ↦ before-from a b (inl l)
  | inr l ↦ elim (cases_lt a.key b.key) [
    | inl m ↦ before-from a b (inr (sym l.0, m))
    | inr m ↦ absurd (same_grain-false a b n (let kinds = sym l.0 in let keys : a.key ≡ b.key = omega (arith, l.1, m) in λ i. record { kind = kinds i; key = keys i }))
  ]
]

with-ascends : (xs : List GrainId) (g : GrainId) → AreAscending xs → AreAscending (with_grain xs g)
with-ascends [] g a = ((λ k m. absurd m), tt)
with-ascends (x ∷ xs) g a = cond_both (same_grain x g) (x ∷ xs) (if is_before g x then g ∷ x ∷ xs else x ∷ with_grain xs g) AreAscending
    (λ e. a)
    (λ e. cond_both (is_before g x) (g ∷ x ∷ xs) (x ∷ with_grain xs g) AreAscending
    (λ b. ((λ k m. elim m [ inl q ↦ subst (λ z. is_before g z ≡ true) (sym q) b | inr n ↦ before-through g x k b (a.0 k n) ]), a))
    (λ b. ((λ k m. elim (with-only xs g k m) [ inl q ↦ subst (λ z. is_before x z ≡ true) (sym q) (before-other x g e b) | inr n ↦ a.0 k n ]), with-ascends xs g a.1)))

grains-ascend : (gs : List GrainId) → AreAscending (grains_of gs)
grains-ascend [] = tt
grains-ascend (g ∷ gs) = with-ascends (grains_of gs) g (grains-ascend gs)

-- ---- what is planned

pub flat-member : {A : Type 0} (f : UnitNo → List A) (us : List UnitNo) (k : A) → Member k (flat_map f us) → (u : UnitNo) × Member u us × Member k (f u)
flat-member f [] k m = absurd m
flat-member f (u ∷ us) k m = elim (Member-append k (f u) (flat_map f us) m) [
  | inl h ↦ (u, inl refl, h)
  | inr h ↦ (let t = flat-member f us k h in (t.0, inr t.1, t.2))
]

pub member-flat : {A : Type 0} (f : UnitNo → List A) (us : List UnitNo) (k : A) (u : UnitNo) → Member u us → Member k (f u) → Member k (flat_map f us)
member-flat f [] k u m h = absurd m
member-flat f (x ∷ us) k u (inl e) h = Member-left k (f x) (flat_map f us) (subst (λ z. Member k (f z)) e h)
member-flat f (x ∷ us) k u (inr m) h = Member-right k (f x) (flat_map f us) (member-flat f us k u m h)

pub flat-same : {A : Type 0} (f g : UnitNo → List A) (us : List UnitNo) → ((u : UnitNo) → Member u us → f u ≡ g u) → flat_map f us ≡ flat_map g us
flat-same f g [] h = refl
flat-same f g (u ∷ us) h =
    let a = h u (inl refl) in
    let b = flat-same f g us (λ x m. h x (inr m)) in
    λ i. a i ++ b i

-- a grain is in the plan of these units exactly where one that doesn't read from an aborted unit wrote it
pub planned-by : (w : CoreState) (us : List UnitNo) (g : GrainId) → Member g (planned w us) → (u : UnitNo) × Member u us × (has_bad_source w u ≡ false) × WroteGrain w.manager.writes u g
planned-by w us g m =
    let t = flat-member (grains_to_write w) us g (grains-only (flat_map (grains_to_write w) us) g m) in
    let s = by t.0 t.2 in (t.0, t.1, s.0, s.1)
  where
    by : (u : UnitNo) → Member g (grains_to_write w u) → (has_bad_source w u ≡ false) × WroteGrain w.manager.writes u g
    by u = cond_both (has_bad_source w u) [] (map (λ (x : Write). x.0) (w.manager.writes u)) (λ gs. Member g gs → (has_bad_source w u ≡ false) × WroteGrain w.manager.writes u g)
        (λ b n. absurd n)
        (λ b n. (b, named-written g (w.manager.writes u) n))

pub in-plan : (w : CoreState) (us : List UnitNo) (g : GrainId) (u : UnitNo) → Member u us → has_bad_source w u ≡ false → WroteGrain w.manager.writes u g → Member g (planned w us)
in-plan w us g u m b wrote =
    grains-in (flat_map (grains_to_write w) us) g (member-flat (grains_to_write w) us g u m
    (subst (Member g) (sym (cond-false (has_bad_source w u) [] (map (λ (x : Write). x.0) (w.manager.writes u)) b)) (written-named g wrote.0 (w.manager.writes u) wrote.1)))

-- what is planned of a batch is a plan
plan-is : (w : CoreState) (b : Batch) → b.plan ≡ planned w (members w b) → IsPlan w b
plan-is w b e = record {
  ascending = subst AreAscending (sym e) (grains-ascend (flat_map (grains_to_write w) (members w b)));
  work = λ g. (
    (λ p. (let t = any-true (same_grain g) b.plan p in planned-by w (members w b) g (subst (Member g) e (subst (λ z. Member z b.plan) (sym (same_grain-true g t.0 t.2)) t.1)))),
    (λ o. any-member (same_grain g) b.plan g (subst (Member g) (sym e) (in-plan w (members w b) g o.0 o.1 o.2 o.3)) (same_grain-is g g refl)),
  );
}

-- the plan of an open undecided batch is the grains that its units wrote, but for those that read from an aborted one
abbrev pub Planned : CoreState → Type 0
Planned w = (b : Batch) → w.manager.batch ≡ Some b → b.decisions ≡ None → b.plan ≡ planned w (members w b)

some-is : {A : Type 0} (x y : A) → Some x ≡ Some y → x ≡ y
some-is x y e = cc

none-some : {A : Type 0} (o : Option A) (x : A) → o ≡ None → o ≡ Some x → ⊥
none-some o x n s = (let t : None ≡ Some x = sym n ∙ s in cc)

-- the test of a list by a test that agrees on it
any-same : {A : Type 0} (p q : A → Bool) (xs : List A) → ((x : A) → Member x xs → p x ≡ q x) → any p xs ≡ any q xs
any-same p q xs h = elim (cases_Bool (any q xs)) [
  | inl e ↦ (let t = any-true q xs e in any-member p xs t.0 t.1 (h t.0 t.1 ∙ t.2) ∙ sym e)
  | inr e ↦ any-none p xs (λ x m. elim (cases_Bool (q x)) [
    | inl y ↦ (let z : true ≡ false = sym (any-member q xs x m y) ∙ e in cc)
    | inr y ↦ h x m ∙ y
  ]) ∙ sym e
]

-- what is planned stays where the units' writes and dependencies and those dependencies' verdicts do
planned-same : (w v : CoreState) (us : List UnitNo) →
    ((u : UnitNo) → Member u us → (v.manager.writes u ≡ w.manager.writes u) × (v.units.deps u ≡ w.units.deps u) × ((d : UnitNo) → Member d (w.units.deps u) → v.manager.verdict d ≡ w.manager.verdict d)) →
    planned v us ≡ planned w us
planned-same w v us h = ap grains_of (flat-same (grains_to_write v) (grains_to_write w) us (λ u m.
    (let t = h u m in
    let b : has_bad_source v u ≡ has_bad_source w u =
    ap (λ ds. any (λ d. is_bad (v.manager.verdict d)) ds) t.1
    ∙ any-same (λ d. is_bad (v.manager.verdict d)) (λ d. is_bad (w.manager.verdict d)) (w.units.deps u) (λ d n. ap is_bad (t.2 d n)) in
    λ i. if b i then [] else map (λ (x : Write). x.0) (t.0 i))))

pub planned-change : (opening : GrainId → List Value) (w : CoreState) (e : CoreEvent) (w' : CoreState) → Change w e w' → applies w e ≡ true → Kept opening w → Depends w → Planned w → Planned w'
planned-change opening w e w' (bad line why q) a k dep s = s
planned-change opening w e w' (begin origin call plain c) a k dep s = s
planned-change opening w e w' (lock u g mode running free first here) a k dep s =
    λ b z d. s b z d ∙ sym (planned-same w w' (members w b) (λ x m. (
      refl,
      put-other w.units.deps u _ x (λ q. (let t : Finished ≡ Running = sym (member-finished opening w b k x m) ∙ ap w.units.phase q ∙ running in cc)),
      λ y n. refl,
    )))
planned-change opening w e w' (raise u g mode running free held here uncovered) a k dep s = s
planned-change opening w e w' (refuse u g mode why running q) a k dep s =
    λ b z d. s b z d ∙ sym (planned-same w w' (members w b) (λ x m. (
      refl,
      refl,
      λ y n. put-other w.manager.verdict u Aborted y (λ j. (let t : Finished ≡ Running = sym (depends-earlier opening _ w k.0 dep x y (member-finished opening w b k x m) n).0 ∙ ap w.units.phase j ∙ running in cc)),
    )))
planned-change opening w e w' (finish u effect running plain of_call reads alone) a k dep s =
    λ b z d.
    let same : members (finished w u effect) b ≡ members w b = take-drop-push b.size w.manager.closed w.manager.order u (size-open opening w b k z) in
    s b z d ∙ sym (ap (planned (finished w u effect)) same ∙ planned-same w (finished w u effect) (members w b) (λ x m. (
      put-other w.manager.writes u effect.writes x (λ j. (let t : Finished ≡ Running = sym (member-finished opening w b k x m) ∙ ap w.units.phase j ∙ running in cc)),
      refl,
      λ y n. refl,
    )))
planned-change opening w e w' (end_plain u effect running plain of_call bare) a k dep s = s
planned-change opening w e w' (end_snapshot u at outcome running plain kids answer) a k dep s = s
planned-change opening w e w' (release u g over held) a k dep s = s
planned-change opening w e w' (take_batch none some) a k dep s = λ b z d. (let is = some-is _ b z in subst (λ (t : Batch). t.plan ≡ planned w (members w t)) is refl)
planned-change opening w e w' (vote n g kept b q number d at fresh) a k dep s = λ c z y. (let is = some-is _ c z in subst (λ (t : Batch). t.plan ≡ planned w (members w t)) is (s b q d))
planned-change opening w e w' (decide_some n b q number d all some) a k dep s = λ c z y. absurd (none-some c.decisions _ y (ap (λ (t : Batch). t.decisions) (sym (some-is _ c z))))
planned-change opening w e w' (decide_none n b q number d all none) a k dep s = λ c z y. (let t : None ≡ Some c = z in cc)
planned-change opening w e w' (seal_batch n b ds q number d) a k dep s = λ c z y. (let t : None ≡ Some c = z in cc)
planned-change opening w e w' (spoil_batch n b ds q number d) a k dep s = λ c z y. (let t : None ≡ Some c = z in cc)
planned-change opening w e w' (doubt_batch n b ds q number d) a k dep s = λ c z y. (let t : None ≡ Some c = z in cc)
planned-change opening w e w' (learn u g wrote final fresh) a k dep s = s
planned-change opening w e w' (emit q) a k dep s = s
planned-change opening w e w' (halt_run q) a k dep s = s
planned-change opening w e w' (want u g running free fresh) a k dep s = s
planned-change opening w e w' (load g u state gone wanted) a k dep s = s

swept-planned : (w : CoreState) → Planned w → Planned (swept w)
swept-planned w s = go w.cells.capacity
  where
    go : (c : Option ℕ) → Planned (swept_by w c)
    go None = s
    go (Some m) = s

pub planned-step : (opening : GrainId → List Value) (w : CoreState) (e : CoreEvent) → Kept opening w → Depends w → Planned w → Planned (step w e)
planned-step opening w e k dep s = cond_both (applies w e) (swept (does w e)) w Planned
    (λ a. swept-planned (does w e) (planned-change opening w e (does w e) (decode w e (and_parts (is_allowed w e) (can w e) a).1) a k dep s))
    (λ a. s)

planned-run : (opening : GrainId → List Value) (es : List CoreEvent) (w : CoreState) → AllLoadsTrue opening w es → Kept opening w → Depends w → Planned w → Planned (run w es)
planned-run opening [] w l k dep s = s
planned-run opening (e ∷ es) w l k dep s =
    planned-run opening es (step w e) l.1 (kept-step opening w e l.0 k) (depends-step opening w e l.0 k dep) (planned-step opening w e k dep s)

pub planned-ends : (plays : Effect → Bool) (r : Run) → IsLegal plays r → Planned (ends r)
planned-ends plays r l = planned-run r.opening r.events (begins r) l.loads (kept-begins plays r l) ((λ u. tt), (λ u d m. absurd m)) (λ b q. cc)

-- a batch that is taken has its plan
pub plan-taken : (w : CoreState) → applies w Take ≡ true → (b : Batch) → (step w Take).manager.batch ≡ Some b → IsPlan (step w Take) b
plan-taken w a b q = plan-is (step w Take) b (cond_both (applies w Take) (swept (does w Take)) w (λ v. v.manager.batch ≡ Some b → b.plan ≡ planned v (members v b))
    (λ t. by w.cells.capacity)
    (λ f. (let z : true ≡ false = sym a ∙ f in cc)) q)
  where
    by : (c : Option ℕ) → (swept_by (after_take w (batch_size w)) c).manager.batch ≡ Some b → b.plan ≡ planned (swept_by (after_take w (batch_size w)) c) (members (swept_by (after_take w (batch_size w)) c) b)
    by None z = (let is = some-is _ b z in subst (λ (t : Batch). t.plan ≡ planned w (members w t)) is refl)
    by (Some m) z = (let is = some-is _ b z in subst (λ (t : Batch). t.plan ≡ planned w (members w t)) is refl)

-- and keeps it
pub plan-ends : (plays : Effect → Bool) (r : Run) → IsLegal plays r → (b : Batch) → (ends r).manager.batch ≡ Some b → b.decisions ≡ None → IsPlan (ends r) b
plan-ends plays r l b q d = plan-is (ends r) b (planned-ends plays r l b q d)
