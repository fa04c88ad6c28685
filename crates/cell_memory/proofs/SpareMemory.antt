-- While memory has space for one grain more none has left it.
use Rattle.std.proofs.Common.{◌≡◌, ◌<◌, ◌≤◌, ℕ, zero, suc, List, [], ◌∷◌, Bool, true, false, true≢false, not, ◌⊎◌, inl, inr, refl, sym, ap, ◌∙◌, subst, arith, Option, Some, None, take, filter, length, is_none}
use Rattle.std.specs.Prelude.{⊤}
use Rattle.std.proofs.lemmas.Bool.{cases_Bool, cond_both, cond-true, cond-false, and_parts, or_from, or_left, or_right, or_parts, ltb-true}
use Rattle.cell_model.proofs.Units.{same_grain-true, same_grain-is, cases_grain, any-true, any-false, any-none, any-member, filter-member, filter-stays}
use Rattle.core_model.specs.CoreState.{GrainId, Member, same_grain, CoreState}
use Rattle.core_model.specs.Tests.{any, is_recent}
use Rattle.core_model.specs.Changes.{touched, swept, swept_by}
use Rattle.core_model.specs.Events.{applies, can, does, step, run, is_allowed}
use Rattle.core_model.specs.declared.events.CoreEvent.{CoreEvent}
use Rattle.core_model.specs.Laws.{extended}
use Rattle.core_model.specs.Memory.{MemoryIsBounded}
use Rattle.core_model.specs.LegalRuns.{Run, begins, ends}
use Rattle.core_laws.proofs.EventCases.{Change, bad, begin, lock, raise, refuse, finish, end_plain, end_snapshot, release, take_batch, vote, decide_some, decide_none, seal_batch, spoil_batch, doubt_batch, learn, emit, halt_run, want, load, decode}
use Rattle.core_laws.proofs.FurtherLaws.{run-append}
use Rattle.core_laws.proofs.Memory.{bounded-ends}
use Rattle.core_laws.proofs.Puts.{grain-other}
use Rattle.cell_memory.specs.SpareMemory.{has_space, has_space_for}
use Rattle.cell_memory.proofs.EveryEvent.{same-limit}

-- ---- those used last

-- those that aren't the grain
abbrev others : GrainId → List GrainId → List GrainId
others g gs = filter (λ k. not (same_grain k g)) gs

-- no grain stands twice
abbrev Once : List GrainId → Type 0
Once [] = ⊤
Once (g ∷ gs) = (any (same_grain g) gs ≡ false) × Once gs

none-take : (p : GrainId → Bool) (n : ℕ) (xs : List GrainId) → any p xs ≡ false → any p (take n xs) ≡ false
none-take p zero xs e = refl
none-take p (suc n) [] e = refl
none-take p (suc n) (x ∷ xs) e = (let t = or_parts (p x) (any p xs) e in or_from (p x) (any p (take n xs)) t.0 (none-take p n xs t.1))

once-take : (n : ℕ) (xs : List GrainId) → Once xs → Once (take n xs)
once-take zero xs o = tt
once-take (suc n) [] o = tt
once-take (suc n) (x ∷ xs) o = (none-take (same_grain x) n xs o.0, once-take n xs o.1)

once-others : (g : GrainId) (xs : List GrainId) → Once xs → Once (others g xs)
once-others g [] o = tt
once-others g (x ∷ xs) o = cond_both (not (same_grain x g)) (x ∷ others g xs) (others g xs) Once
    (λ e. (any-none (same_grain x) (others g xs) (λ k m. any-false (same_grain x) xs o.0 k (filter-member (λ j. not (same_grain j g)) xs k m).0), once-others g xs o.1))
    (λ e. once-others g xs o.1)

-- the grain isn't among the others
others-not : (g : GrainId) (xs : List GrainId) → any (same_grain g) (others g xs) ≡ false
others-not g xs = any-none (same_grain g) (others g xs) (λ k m. apart k (filter-member (λ j. not (same_grain j g)) xs k m).1)
  where
    apart : (k : GrainId) → not (same_grain k g) ≡ true → same_grain g k ≡ false
    apart k e = elim (cases_Bool (same_grain g k)) [
      | inl y ↦ absurd (true≢false (sym e ∙ ap not (same_grain-is k g (sym (same_grain-true g k y)))))
      | inr n ↦ n
    ]

-- without a grain that isn't among them they are all there
others-all : (g : GrainId) (xs : List GrainId) → any (same_grain g) xs ≡ false → others g xs ≡ xs
others-all g [] e = refl
others-all g (x ∷ xs) e =
    let t = or_parts (same_grain g x) (any (same_grain g) xs) e in
    cond-true (not (same_grain x g)) (x ∷ others g xs) (others g xs) (apart t.0) ∙ ap (λ ys. x ∷ ys) (others-all g xs t.1)
  where
    apart : same_grain g x ≡ false → not (same_grain x g) ≡ true
    apart n = elim (cases_Bool (same_grain x g)) [
      | inl y ↦ absurd (true≢false (sym (same_grain-is g x (sym (same_grain-true x g y))) ∙ n))
      | inr z ↦ ap not z
    ]

-- one at most goes
one-less : (g : GrainId) (xs : List GrainId) → Once xs → length xs ≤ suc (length (others g xs))
one-less g [] o = omega arith
one-less g (x ∷ xs) o = elim (cases_Bool (same_grain x g)) [
  | inl y ↦ (let gone : others g (x ∷ xs) ≡ others g xs = cond-false (not (same_grain x g)) (x ∷ others g xs) (others g xs) (ap not y) in
      let all : others g xs ≡ xs = others-all g xs (subst (λ k. any (same_grain k) xs ≡ false) (same_grain-true x g y) o.0) in
      let n : length (others g (x ∷ xs)) ≡ length xs = ap (λ (ys : List GrainId). length ys) (gone ∙ all) in omega (arith, n))
  | inr z ↦ (let kept : others g (x ∷ xs) ≡ x ∷ others g xs = cond-true (not (same_grain x g)) (x ∷ others g xs) (others g xs) (ap not z) in
      let n : length (others g (x ∷ xs)) ≡ suc (length (others g xs)) = ap (λ (ys : List GrainId). length ys) kept in
      let t = one-less g xs o.1 in omega (arith, n, t))
]

-- fewer than so many are all of them
take-all : (n : ℕ) (xs : List GrainId) → length (take n xs) < n → take n xs ≡ xs
take-all zero xs h = absurd (omega (arith, h))
take-all (suc n) [] h = refl
take-all (suc n) (x ∷ xs) h = ap (λ ys. x ∷ ys) (take-all n xs (omega (arith, h)))

-- ---- from one state to another

-- where fewer grains were used, those used before are all among them, and so is each that came into memory
record Goes (n : ℕ) (w w' : CoreState) : Type 0 where
  more : length w.cells.recent ≤ length w'.cells.recent
  keeps : (k : GrainId) → is_recent w k ≡ true → is_recent w' k ≡ true
  came : (k : GrainId) → w'.cells.here k ≡ true → (w.cells.here k ≡ true) ⊎ (is_recent w' k ≡ true)

-- so it is, and none stands twice
abbrev GoesOn : ℕ → CoreState → CoreState → Type 0
GoesOn n w w' = Once w'.cells.recent × (length w'.cells.recent < n → Goes n w w')

-- nobody used a grain
unused : (n : ℕ) (w w' : CoreState) → Once w.cells.recent → w'.cells.recent ≡ w.cells.recent → w'.cells.here ≡ w.cells.here → GoesOn n w w'
unused n w w' o r h = (
  subst Once (sym r) o,
  λ few. record {
    more = (let t = ap (λ (xs : List GrainId). length xs) r in omega (arith, t));
    keeps = λ k e. ap (λ xs. any (same_grain k) xs) r ∙ e;
    came = λ k e. inl (ap (λ f. f k) (sym h) ∙ e);
  },
)

-- somebody used this one
used : (n : ℕ) (g : GrainId) (w w' : CoreState) → Once w.cells.recent → w'.cells.recent ≡ touched (Some n) g w.cells.recent →
    ((k : GrainId) → w'.cells.here k ≡ true → (w.cells.here k ≡ true) ⊎ (k ≡ g)) → GoesOn n w w'
used n g w w' o r h = (subst Once (sym r) (once-take n (g ∷ others g w.cells.recent) (others-not g w.cells.recent, once-others g w.cells.recent o)), goes)
  where
    goes : length w'.cells.recent < n → Goes n w w'
    goes few = (let few' : length (take n (g ∷ others g w.cells.recent)) < n = subst (λ (xs : List GrainId). length xs < n) r few in
        let all : w'.cells.recent ≡ g ∷ others g w.cells.recent = r ∙ take-all n (g ∷ others g w.cells.recent) few' in
        let own : (k : GrainId) → k ≡ g → is_recent w' k ≡ true = λ k q. ap (any (same_grain k)) all ∙ or_left (same_grain k g) (any (same_grain k) (others g w.cells.recent)) (same_grain-is k g q) in
        record {
          more = (let t = ap (λ (xs : List GrainId). length xs) all in let l = one-less g w.cells.recent o in omega (arith, t, l));
          keeps = λ k e. elim (cases_grain k g) [
            | inl q ↦ own k q
            | inr m ↦ ap (any (same_grain k)) all ∙ or_right (same_grain k g) (any (same_grain k) (others g w.cells.recent)) (stays k m e)
          ];
          came = λ k e. elim (h k e) [ inl y ↦ inl y | inr q ↦ inr (own k q) ];
        })
      where
        other : (k : GrainId) → (k ≡ g → ⊥) → not (same_grain k g) ≡ true
        other k m = elim (cases_Bool (same_grain k g)) [ inl y ↦ absurd (m (same_grain-true k g y)) | inr z ↦ ap not z ]

        stays : (k : GrainId) → (k ≡ g → ⊥) → is_recent w k ≡ true → any (same_grain k) (others g w.cells.recent) ≡ true
        stays k m e =
            let t = any-true (same_grain k) w.cells.recent e in
            let mine : Member k w.cells.recent = subst (λ z. Member z w.cells.recent) (sym (same_grain-true k t.0 t.2)) t.1 in
            any-member (same_grain k) (others g w.cells.recent) k (filter-stays (λ j. not (same_grain j g)) w.cells.recent k mine (other k m)) (same_grain-is k k refl)

goes-change : (n : ℕ) (w : CoreState) (e : CoreEvent) (w' : CoreState) → w.cells.capacity ≡ Some n → Once w.cells.recent → Change w e w' → GoesOn n w w'
goes-change n w e w' c o (bad line why q) = unused n w w' o refl refl
goes-change n w e w' c o (begin origin call plain q) = unused n w w' o refl refl
goes-change n w e w' c o (lock u g mode running free first here) = used n g w w' o (ap (λ z. touched z g w.cells.recent) c) (λ k h. inl h)
goes-change n w e w' c o (raise u g mode running free held here uncovered) = unused n w w' o refl refl
goes-change n w e w' c o (refuse u g mode why running q) = unused n w w' o refl refl
goes-change n w e w' c o (finish u effect running plain of_call reads alone) = unused n w w' o refl refl
goes-change n w e w' c o (end_plain u effect running plain of_call bare) = unused n w w' o refl refl
goes-change n w e w' c o (end_snapshot u at outcome running plain kids answer) = unused n w w' o refl refl
goes-change n w e w' c o (release u g over held) = unused n w w' o refl refl
goes-change n w e w' c o (take_batch none some) = unused n w w' o refl refl
goes-change n w e w' c o (vote m g kept b q number d planned fresh) = unused n w w' o refl refl
goes-change n w e w' c o (decide_some m b q number d voted some) = unused n w w' o refl refl
goes-change n w e w' c o (decide_none m b q number d voted none) = unused n w w' o refl refl
goes-change n w e w' c o (seal_batch m b ds q number d) = unused n w w' o refl refl
goes-change n w e w' c o (spoil_batch m b ds q number d) = unused n w w' o refl refl
goes-change n w e w' c o (doubt_batch m b ds q number d) = unused n w w' o refl refl
goes-change n w e w' c o (learn u g wrote final fresh) = unused n w w' o refl refl
goes-change n w e w' c o (emit q) = unused n w w' o refl refl
goes-change n w e w' c o (halt_run q) = unused n w w' o refl refl
goes-change n w e w' c o (want u g running free fresh) = unused n w w' o refl refl
goes-change n w e w' c o (load g u state gone wanted) = used n g w w' o (ap (λ z. touched z g w.cells.recent) c) (λ k h. elim (cases_grain k g) [
  | inl q ↦ inr q
  | inr m ↦ inl (sym (grain-other w.cells.here g true k m) ∙ h)
])

-- grains that leave do it no harm
goes-swept : (n : ℕ) (w v : CoreState) → GoesOn n w v → GoesOn n w (swept v)
goes-swept n w v g = go v.cells.capacity
  where
    go : (c : Option ℕ) → GoesOn n w (swept_by v c)
    go None = g
    go (Some m) = (g.0, λ few. (let t = g.1 few in record { more = t.more; keeps = t.keeps; came = λ k e. t.came k (and_parts (v.cells.here k) _ e).0 }))

-- ---- a run

limit-swept : (v : CoreState) → (swept v).cells.capacity ≡ v.cells.capacity
limit-swept v = go v.cells.capacity
  where
    go : (c : Option ℕ) → (swept_by v c).cells.capacity ≡ v.cells.capacity
    go None = refl
    go (Some m) = refl

limit-step : (w : CoreState) (e : CoreEvent) → (step w e).cells.capacity ≡ w.cells.capacity
limit-step w e = cond_both (applies w e) (swept (does w e)) w (λ (v : CoreState). v.cells.capacity ≡ w.cells.capacity)
    (λ a. limit-swept (does w e) ∙ same-limit w e (does w e) (decode w e (and_parts (is_allowed w e) (can w e) a).1))
    (λ a. refl)

pub limit-run : (es : List CoreEvent) (w : CoreState) → (run w es).cells.capacity ≡ w.cells.capacity
limit-run [] w = refl
limit-run (e ∷ es) w = limit-run es (step w e) ∙ limit-step w e

goes-step : (n : ℕ) (w : CoreState) (e : CoreEvent) → w.cells.capacity ≡ Some n → Once w.cells.recent → GoesOn n w (step w e)
goes-step n w e c o = cond_both (applies w e) (swept (does w e)) w (GoesOn n w)
    (λ a. goes-swept n w (does w e) (goes-change n w e (does w e) c o (decode w e (and_parts (is_allowed w e) (can w e) a).1)))
    (λ a. unused n w w o refl refl)

-- one after the other
goes-both : (n : ℕ) (w v x : CoreState) → GoesOn n w v → GoesOn n v x → GoesOn n w x
goes-both n w v x one rest = (
  rest.0,
  λ few. (let last = rest.1 few in
      let first = one.1 (omega (arith, few, last.more)) in
      record {
        more = omega (arith, first.more, last.more);
        keeps = λ k q. last.keeps k (first.keeps k q);
        came = λ k h. elim (last.came k h) [
          | inl y ↦ elim (first.came k y) [ inl z ↦ inl z | inr z ↦ inr (last.keeps k z) ]
          | inr y ↦ inr y
        ];
      }),
)

goes-run : (n : ℕ) (es : List CoreEvent) (w : CoreState) → w.cells.capacity ≡ Some n → Once w.cells.recent → GoesOn n w (run w es)
goes-run n [] w c o = unused n w w o refl refl
goes-run n (e ∷ es) w c o =
    let one : GoesOn n w (step w e) = goes-step n w e c o in
    goes-both n w (step w e) (run (step w e) es) one (goes-run n es (step w e) (limit-step w e ∙ c) one.0)

-- what was in memory once is in it still
pub here-still : (r : Run) (more : List CoreEvent) (g : GrainId) → 0 < r.base → has_space (ends (extended r more)).cells ≡ true → (ends r).cells.here g ≡ true → (ends (extended r more)).cells.here g ≡ true
here-still r more g above space here = go r.capacity refl
  where
    later : CoreState
    later = ends (extended r more)

    limit : later.cells.capacity ≡ r.capacity
    limit = limit-run (extended r more).events (begins r)

    memory : MemoryIsBounded later
    memory = bounded-ends (extended r more) above

    go : (c : Option ℕ) → r.capacity ≡ c → later.cells.here g ≡ true
    go None q = memory.all g (limit ∙ q)
    go (Some n) q =
        let few : length later.cells.recent < n = ltb-true (length later.cells.recent) n (subst (λ c. has_space_for c later.cells.recent ≡ true) (limit ∙ q) space) in
        let so : GoesOn n (begins r) (ends r) = goes-run n r.events (begins r) q tt in
        let on : GoesOn n (ends r) later = subst (GoesOn n (ends r)) (sym (run-append (begins r) r.events more)) (goes-run n more (ends r) (limit-run r.events (begins r) ∙ q) so.0) in
        let last = on.1 few in
        let first = so.1 (omega (arith, few, last.more)) in
        memory.kept g (last.keeps g (elim (first.came g here) [
          | inl z ↦ absurd (true≢false (sym z ∙ ap is_none q))
          | inr z ↦ z
        ]))
