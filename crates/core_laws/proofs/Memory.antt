-- Which grains are in memory, and who wants them.
use Rattle.std.proofs.Common.{◌≡◌, ℕ, zero, suc, ◌≤◌, List, [], ◌∷◌, length, Bool, true, false, ◌&&◌, not, ◌⊎◌, inl, inr, refl, sym, ap, ◌∙◌, subst, arith, Option, Some, None, ◌<◌}
use Rattle.std.proofs.lemmas.Bool.{and_parts, and_from, not-true, cond_both}
use Rattle.cell_model.specs.Locks.{is_hold_of, dropped}
use Rattle.cell_model.proofs.Units.{same_unit-true, same_unit-false, same_unit-is, any-true, any-false, any-member, Member-append, filter-member}
use Rattle.core_model.specs.CoreState.{UnitNo, GrainId, same_unit, same_grain, put, Member, Hold, CoreState}
use Rattle.core_model.specs.declared.phases.Phase.{Phase}
use Rattle.core_model.specs.declared.phases.Phase.TheVariants.{Running, Finished, Refused, Ended}
use Rattle.core_model.specs.Tests.{any}
use Rattle.core_laws.proofs.Puts.{put-at, put-other, grain-at, grain-from, grain-is}
use Rattle.std.proofs.Common.{take, filter, is_none}
use Rattle.std.proofs.lemmas.Bool.{or_cases, or_right}
use Rattle.cell_model.specs.Locks.{granted}
use Rattle.cell_model.proofs.LockAnswers.{granted-member, dropped-member}
use Rattle.cell_model.proofs.Units.{same_grain-true, same_grain-is}
use Rattle.std.proofs.lemmas.Bool.{or_left}
use Rattle.core_model.specs.Tests.{is_recent, is_idle}
use Rattle.core_model.specs.Memory.{MemoryIsBounded}
use Rattle.core_model.specs.Changes.{new_unit, touched, without_wants, swept, swept_by}
use Rattle.core_model.specs.LegalRuns.{Run, begins, ends}
use Rattle.core_model.specs.Events.{applies, can, does, step, run, is_allowed}
use Rattle.core_model.specs.declared.events.CoreEvent.{CoreEvent}
use Rattle.core_laws.proofs.EventCases.{Change, bad, begin, lock, raise, refuse, finish, end_plain, end_snapshot, release, take_batch, vote, decide_some, decide_none, seal_batch, spoil_batch, doubt_batch, learn, emit, halt_run, want, load, decode}
use Rattle.core_laws.proofs.LoadlessKept.{LoadlessKept, loadless-begins, loadless-step}

abbrev pub Limited : CoreState → Type 0
Limited w = (n : ℕ) → w.cells.capacity ≡ Some n → length w.cells.recent ≤ n

abbrev pub Present : CoreState → Type 0
Present w = (g : GrainId) → is_recent w g ≡ true → w.cells.here g ≡ true

abbrev pub Whole : CoreState → Type 0
Whole w = (g : GrainId) → w.cells.capacity ≡ None → w.cells.here g ≡ true

abbrev pub Wants : CoreState → Type 0
Wants w = (u : UnitNo) (g : GrainId) → Member (u, g) w.units.wants → (w.units.phase u ≡ Running) × ((h : Hold) → Member h (w.cells.holds g) → h.unit ≡ u → ⊥)

abbrev pub Remembers : CoreState → Type 0
Remembers w = Limited w × Present w × Whole w × Wants w

take-short : {A : Type 0} (n : ℕ) (xs : List A) → length (take n xs) ≤ n
take-short zero xs = omega arith
take-short (suc n) [] = omega arith
take-short (suc n) (x ∷ xs) = (let t = take-short n xs in omega (arith, t))

take-any : {A : Type 0} (p : A → Bool) (n : ℕ) (xs : List A) → any p (take n xs) ≡ true → any p xs ≡ true
take-any p zero xs e = cc
take-any p (suc n) [] e = cc
take-any p (suc n) (x ∷ xs) e = elim (or_cases (p x) (any p (take n xs)) e) [
  | inl h ↦ or_left (p x) (any p xs) h
  | inr h ↦ or_right (p x) (any p xs) (take-any p n xs h)
]

filter-any : {A : Type 0} (p q : A → Bool) (xs : List A) → any p (filter q xs) ≡ true → any p xs ≡ true
filter-any p q xs e = (let t = any-true p (filter q xs) e in any-member p xs t.0 (filter-member q xs t.0 t.1).0 t.2)

limited-touched : (c : Option ℕ) (g : GrainId) (recent : List GrainId) → ((n : ℕ) → c ≡ Some n → length recent ≤ n) → (n : ℕ) → c ≡ Some n → length (touched c g recent) ≤ n
limited-touched None g recent h n q = h n q
limited-touched (Some m) g recent h n q = (let e : m ≡ n = cc in omega (arith, take-short m (g ∷ filter (λ k. not (same_grain k g)) recent), e))

-- a grain used lately is the one used now, or was used lately before
touched-recent : (c : Option ℕ) (g : GrainId) (recent : List GrainId) (k : GrainId) → any (same_grain k) (touched c g recent) ≡ true → (k ≡ g) ⊎ (any (same_grain k) recent ≡ true)
touched-recent None g recent k e = inr e
touched-recent (Some n) g recent k e = elim (or_cases (same_grain k g) _ (take-any (same_grain k) n (g ∷ filter (λ j. not (same_grain j g)) recent) e)) [
  | inl h ↦ inl (same_grain-true k g h)
  | inr h ↦ inr (filter-any (same_grain k) (λ j. not (same_grain j g)) recent h)
]

wants-phase : (w : CoreState) (u : UnitNo) (end : Phase) → Wants w → (x : UnitNo) (g : GrainId) → Member (x, g) (without_wants u w.units.wants) → (put w.units.phase u end x ≡ Running) × ((h : Hold) → Member h (w.cells.holds g) → h.unit ≡ x → ⊥)
wants-phase w u end s x g m =
    let t = filter-member (λ (t : UnitNo × GrainId). not (same_unit t.0 u)) w.units.wants (x, g) m in
    let o = s x g t.0 in
    (put-other w.units.phase u end x (same_unit-false x u (not-true _ t.1)) ∙ o.0, o.1)

remembers-phase : (w : CoreState) (u : UnitNo) (end : Phase) → Remembers w → Remembers (record w { units = record w.units { phase = put w.units.phase u end; wants = without_wants u w.units.wants } })
remembers-phase w u end s = (s.0, s.1, s.2, λ x g m. wants-phase w u end s.3 x g m)

-- the wait that a first lock ends
not_wanted : {u : UnitNo} {g : GrainId} (x : UnitNo) (j : GrainId) → x ≡ u → j ≡ g → (same_unit x u && same_grain j g) ≡ false → ⊥
not_wanted {u} {g} x j p q e = (let t : true ≡ false = sym (and_from _ _ (same_unit-is x u p) (same_grain-is j g q)) ∙ e in cc)

pub remembers-change : (w : CoreState) (e : CoreEvent) (w' : CoreState) → Change w e w' → applies w e ≡ true → LoadlessKept w → Remembers w → Remembers w'
remembers-change w e w' (bad line why q) a k s = s
remembers-change w e w' (begin origin call plain c) a k s = (s.0, s.1, s.2, λ x g m. (let t = s.3 x g m in (put-at w.units.phase (new_unit w) Running (λ p. p ≡ Running) x (λ z. refl) (λ z. t.0), t.1)))
remembers-change w e w' (lock u g mode running free first here) a k s = (
  limited-touched w.cells.capacity g w.cells.recent s.0,
  (λ j z. elim (touched-recent w.cells.capacity g w.cells.recent j z) [ inl y ↦ ap w.cells.here y ∙ here | inr y ↦ s.1 j y ]),
  s.2,
  (λ x j m. (let t = filter-member (λ (t : UnitNo × GrainId). not (same_unit t.0 u && same_grain t.1 g)) w.units.wants (x, j) m in
      let o = s.3 x j t.0 in (
        o.0,
        λ h n q. grain-from w.cells.holds g (granted (w.cells.holds g) u mode) (Member h) ⊥ j
            (λ z n'. elim (granted-member (w.cells.holds g) u mode h n') [
              | inl y ↦ o.1 h (subst (λ i. Member h (w.cells.holds i)) (sym z) y.0) q
              | inr y ↦ not_wanted x j (sym q ∙ ap (λ (i : Hold). i.unit) y) z (not-true _ t.1)
            ])
            (λ z n'. o.1 h n' q) n,
      ))),
)
remembers-change w e w' (raise u g mode running free held here uncovered) a k s = (
  s.0,
  s.1,
  s.2,
  (λ x j m. (let o = s.3 x j m in (
    o.0,
    λ h n q. grain-from w.cells.holds g (granted (w.cells.holds g) u mode) (Member h) ⊥ j
        (λ z n'. elim (granted-member (w.cells.holds g) u mode h n') [
          | inl y ↦ o.1 h (subst (λ i. Member h (w.cells.holds i)) (sym z) y.0) q
          | inr y ↦ (let own = any-true (is_hold_of u) (w.cells.holds g) held in
              o.1 own.0 (subst (λ i. Member own.0 (w.cells.holds i)) (sym z) own.1) (same_unit-true _ _ own.2 ∙ sym (ap (λ (i : Hold). i.unit) y) ∙ q))
        ])
        (λ z n'. o.1 h n' q) n,
  ))),
)
remembers-change w e w' (refuse u g mode why running q) a k s = remembers-phase w u Refused s
remembers-change w e w' (finish u effect running plain of_call reads alone) a k s = remembers-phase w u Finished s
remembers-change w e w' (end_plain u effect running plain of_call bare) a k s = remembers-phase w u Ended s
remembers-change w e w' (end_snapshot u at outcome running plain kids answer) a k s = remembers-phase w u Ended s
remembers-change w e w' (release u g over held) a k s = (
  s.0,
  s.1,
  s.2,
  (λ x j m. (let o = s.3 x j m in (
    o.0,
    λ h n q. o.1 h (grain-from w.cells.holds g (dropped (w.cells.holds g) u) (Member h) (Member h (w.cells.holds j)) j
        (λ z n'. subst (λ i. Member h (w.cells.holds i)) (sym z) (dropped-member u (w.cells.holds g) h n').0) (λ z n'. n') n) q,
  ))),
)
remembers-change w e w' (take_batch none some) a k s = s
remembers-change w e w' (vote n g kept b q number d planned fresh) a k s = s
remembers-change w e w' (decide_some n b q number d voted some) a k s = s
remembers-change w e w' (decide_none n b q number d voted none) a k s = s
remembers-change w e w' (seal_batch n b ds q number d) a k s = s
remembers-change w e w' (spoil_batch n b ds q number d) a k s = s
remembers-change w e w' (doubt_batch n b ds q number d) a k s = s
remembers-change w e w' (learn u g wrote final fresh) a k s = s
remembers-change w e w' (emit q) a k s = s
remembers-change w e w' (halt_run q) a k s = s
remembers-change w e w' (want u g running free fresh) a k s = (
  s.0,
  s.1,
  s.2,
  (λ x j m. elim (Member-append (x, j) w.units.wants ((u, g) ∷ []) m) [
    | inl o ↦ s.3 x j o
    | inr o ↦ elim o [
      | inl q ↦ (
        ap w.units.phase (ap (λ (t : UnitNo × GrainId). t.0) q) ∙ running,
        λ h n z. same_unit-false h.unit u (any-false (is_hold_of u) (w.cells.holds g) free h (subst (λ i. Member h (w.cells.holds i)) (ap (λ (t : UnitNo × GrainId). t.1) q) n)) (z ∙ ap (λ (t : UnitNo × GrainId). t.0) q),
      )
      | inr q ↦ absurd q
    ]
  ]),
)
remembers-change w e w' (load g u state gone wanted) a k s = (
  limited-touched w.cells.capacity g w.cells.recent s.0,
  (λ j z. elim (touched-recent w.cells.capacity g w.cells.recent j z) [
    | inl y ↦ grain-is w.cells.here g true j y
    | inr y ↦ grain-at w.cells.here g true (λ b. b ≡ true) j (λ i. refl) (λ i. s.1 j y)
  ]),
  (λ j z. grain-at w.cells.here g true (λ b. b ≡ true) j (λ i. refl) (λ i. s.2 j z)),
  s.3,
)

-- what leaves wasn't used lately
swept-remembers : (w : CoreState) → Remembers w → Remembers (swept w)
swept-remembers w s = go w.cells.capacity refl
  where
    go : (c : Option ℕ) → w.cells.capacity ≡ c → Remembers (swept_by w c)
    go None q = s
    go (Some n) q = (
      s.0,
      (λ g e. and_from _ _ (s.1 g e) (or_left (is_recent w g) _ e)),
      (λ g e. (let t : Some n ≡ None = sym q ∙ e in cc)),
      s.3,
    )

pub remembers-step : (w : CoreState) (e : CoreEvent) → LoadlessKept w → Remembers w → Remembers (step w e)
remembers-step w e k s = cond_both (applies w e) (swept (does w e)) w Remembers
    (λ a. swept-remembers (does w e) (remembers-change w e (does w e) (decode w e (and_parts (is_allowed w e) (can w e) a).1) a k s))
    (λ a. s)

-- a grain in memory was used lately, or isn't idle
abbrev pub Used : CoreState → Type 0
Used w = (n : ℕ) (g : GrainId) → w.cells.capacity ≡ Some n → w.cells.here g ≡ true → (is_recent w g ≡ true) ⊎ (is_idle w g ≡ false)

swept-used : (w : CoreState) → Used (swept w)
swept-used w = go w.cells.capacity refl
  where
    go : (c : Option ℕ) → w.cells.capacity ≡ c → Used (swept_by w c)
    go None q n g e h = (let t : None ≡ Some n = sym q ∙ e in cc)
    go (Some m) q n g e h = elim (or_cases (is_recent w g) (not (is_idle w g)) (and_parts (w.cells.here g) _ h).1) [
      | inl r ↦ inl r
      | inr r ↦ inr (not-true _ r)
    ]

used-step : (w : CoreState) (e : CoreEvent) → Used w → Used (step w e)
used-step w e s = cond_both (applies w e) (swept (does w e)) w Used (λ a. swept-used (does w e)) (λ a. s)

remembers-run : (es : List CoreEvent) (w : CoreState) → LoadlessKept w → Remembers w → Used w → Remembers (run w es) × Used (run w es)
remembers-run [] w k s u = (s, u)
remembers-run (e ∷ es) w k s u = remembers-run es (step w e) (loadless-step w e k) (remembers-step w e k s) (used-step w e u)

pub bounded-ends : (r : Run) → 0 < r.base → MemoryIsBounded (ends r)
bounded-ends r above =
    let t = remembers-run r.events (begins r) (loadless-begins r above)
    ((λ n q. omega arith), (λ g q. cc), (λ g q. ap is_none q), (λ u g m. absurd m))
    (λ n g q h. (let z : true ≡ false = sym h ∙ ap is_none q in cc)) in
    record { limit = t.0.0; used = t.1; kept = t.0.1; all = t.0.2; wanted = t.0.3 }
