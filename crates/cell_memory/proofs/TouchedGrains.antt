-- A grain that an event leaves idle and not used lately is one that it touches.
use Rattle.std.proofs.Common.{◌≡◌, ℕ, zero, suc, List, [], ◌∷◌, ◌++◌, Bool, true, false, true≢false, ◌&&◌, ◌||◌, not, ◌⊎◌, inl, inr, refl, sym, ap, ◌∙◌, subst, Some, take, drop, filter, map}
use Rattle.std.specs.Prelude.{if◌then◌else◌}
use Rattle.std.proofs.lemmas.Bool.{cases_Bool, and_parts, and_from, cond-false, not-true, or_parts, or_from}
use Rattle.cell_model.specs.Locks.{holds_lock, dropped, granted}
use Rattle.cell_model.specs.Cells.{stacked, learnt}
use Rattle.cell_model.proofs.Units.{same_grain-true, same_grain-is, cases_grain, any-true, any-member, filter-stays}
use Rattle.core_model.specs.CoreState.{UnitNo, GrainId, Member, Hold, same_unit, same_grain, put_grain, CoreState}
use Rattle.core_model.specs.Tests.{any, is_empty, is_single, is_wanted, is_idle, is_recent, is_committed, state_written}
use Rattle.core_model.specs.Changes.{without_wants, without_want, touched, cleaned}
use Rattle.core_model.specs.declared.events.CoreEvent.{CoreEvent}
use Rattle.core_laws.proofs.Puts.{grain-is, grain-other}
use Rattle.core_laws.proofs.EventCases.{Change, bad, begin, lock, raise, refuse, finish, end_plain, end_snapshot, release, take_batch, vote, decide_some, decide_none, seal_batch, spoil_batch, doubt_batch, learn, emit, halt_run, want, load}
use Rattle.cell_memory.specs.LeavingGrains.{left_by, wanted_of, touches}
use Rattle.cell_memory.proofs.Evictions.{Covers}

-- a grain in memory was used lately, or isn't idle
abbrev pub Used : CoreState → Type 0
Used w = (n : ℕ) (g : GrainId) → w.cells.capacity ≡ Some n → w.cells.here g ≡ true → (is_recent w g ≡ true) ⊎ (is_idle w g ≡ false)

-- by the parts of the state that it reads
abbrev idle_by : List Hold → Bool → Bool → Bool
idle_by holds single wanted = is_empty holds && (single && not wanted)

idle-parts : (holds : List Hold) (single wanted : Bool) → idle_by holds single wanted ≡ true → (is_empty holds ≡ true) × (single ≡ true) × (wanted ≡ false)
idle-parts holds single wanted e = (let p = and_parts (is_empty holds) (single && not wanted) e in let q = and_parts single (not wanted) p.1 in (p.0, q.0, not-true wanted q.1))

idle-from : (holds : List Hold) (single wanted : Bool) → is_empty holds ≡ true → single ≡ true → wanted ≡ false → idle_by holds single wanted ≡ true
idle-from holds single wanted a b c = and_from (is_empty holds) (single && not wanted) a (and_from single (not wanted) b (ap not c))

-- ---- waits

front-none : {A : Type 0} (p : A → Bool) (xs ys : List A) → any p (xs ++ ys) ≡ false → any p xs ≡ false
front-none p [] ys e = refl
front-none p (x ∷ xs) ys e = (let t = or_parts (p x) (any p (xs ++ ys)) e in or_from (p x) (any p xs) t.0 (front-none p xs ys t.1))

-- what isn't wanted once the unit's waits are gone wasn't, or the unit wanted it
ended-wants : (wants : List (UnitNo × GrainId)) (u : UnitNo) (j : GrainId) → is_wanted (without_wants u wants) j ≡ false → (is_wanted wants j ≡ false) ⊎ Member j (wanted_of u wants)
ended-wants [] u j e = inl refl
ended-wants (t ∷ ts) u j e = elim (cases_Bool (same_unit t.0 u)) [
  | inl q ↦ (let rest : is_wanted (without_wants u ts) j ≡ false = subst (λ (b : Bool). any (λ (s : UnitNo × GrainId). same_grain s.1 j) (if not b then t ∷ without_wants u ts else without_wants u ts) ≡ false) q e in
      let mine : (xs : List (UnitNo × GrainId)) → map (λ (s : UnitNo × GrainId). s.1) (if same_unit t.0 u then t ∷ xs else xs) ≡ t.1 ∷ map (λ (s : UnitNo × GrainId). s.1) xs = λ xs. ap (λ (b : Bool). map (λ (s : UnitNo × GrainId). s.1) (if b then t ∷ xs else xs)) q in
      elim (cases_Bool (same_grain t.1 j)) [
        | inl y ↦ inr (subst (Member j) (sym (mine (filter (λ (s : UnitNo × GrainId). same_unit s.0 u) ts))) (inl (sym (same_grain-true t.1 j y))))
        | inr n ↦ elim (ended-wants ts u j rest) [
          | inl z ↦ inl (or_from (same_grain t.1 j) (is_wanted ts j) n z)
          | inr z ↦ inr (subst (Member j) (sym (mine (filter (λ (s : UnitNo × GrainId). same_unit s.0 u) ts))) (inr z))
        ]
      ])
  | inr q ↦ (let both : (same_grain t.1 j || is_wanted (without_wants u ts) j) ≡ false = subst (λ (b : Bool). any (λ (s : UnitNo × GrainId). same_grain s.1 j) (if not b then t ∷ without_wants u ts else without_wants u ts) ≡ false) q e in
      let p = or_parts (same_grain t.1 j) (is_wanted (without_wants u ts) j) both in
      elim (ended-wants ts u j p.1) [
        | inl z ↦ inl (or_from (same_grain t.1 j) (is_wanted ts j) p.0 z)
        | inr z ↦ inr (ap-skip q z)
      ])
]
  where
    ap-skip : same_unit t.0 u ≡ false → Member j (wanted_of u ts) → Member j (wanted_of u (t ∷ ts))
    ap-skip q z = subst (λ (b : Bool). Member j (map (λ (s : UnitNo × GrainId). s.1) (if b then t ∷ filter (λ (s : UnitNo × GrainId). same_unit s.0 u) ts else filter (λ (s : UnitNo × GrainId). same_unit s.0 u) ts))) (sym q) z

-- of another grain what isn't wanted once that wait is gone wasn't
other-wants : (wants : List (UnitNo × GrainId)) (u : UnitNo) (g j : GrainId) → (j ≡ g → ⊥) → is_wanted (without_want u g wants) j ≡ false → is_wanted wants j ≡ false
other-wants [] u g j n e = refl
other-wants (t ∷ ts) u g j n e = elim (cases_Bool (same_unit t.0 u && same_grain t.1 g)) [
  | inl q ↦ (let rest : is_wanted (without_want u g ts) j ≡ false = subst (λ (b : Bool). any (λ (s : UnitNo × GrainId). same_grain s.1 j) (if not b then t ∷ without_want u g ts else without_want u g ts) ≡ false) q e in
      let its : t.1 ≡ g = same_grain-true t.1 g (and_parts (same_unit t.0 u) (same_grain t.1 g) q).1 in
      or_from (same_grain t.1 j) (is_wanted ts j) (not-same t.1 (λ z. n (sym z ∙ its))) (other-wants ts u g j n rest))
  | inr q ↦ (let both : (same_grain t.1 j || is_wanted (without_want u g ts) j) ≡ false = subst (λ (b : Bool). any (λ (s : UnitNo × GrainId). same_grain s.1 j) (if not b then t ∷ without_want u g ts else without_want u g ts) ≡ false) q e in
      let p = or_parts (same_grain t.1 j) (is_wanted (without_want u g ts) j) both in
      or_from (same_grain t.1 j) (is_wanted ts j) p.0 (other-wants ts u g j n p.1))
]
  where
    not-same : (k : GrainId) → (k ≡ j → ⊥) → same_grain k j ≡ false
    not-same k m = elim (cases_Bool (same_grain k j)) [ inl y ↦ absurd (m (same_grain-true k j y)) | inr y ↦ y ]

-- ---- use

in-part : (j : GrainId) (n : ℕ) (xs : List GrainId) → Member j xs → Member j (take n xs) ⊎ Member j (drop n xs)
in-part j zero xs m = inr m
in-part j (suc n) [] m = absurd m
in-part j (suc n) (x ∷ xs) (inl q) = inl (inl q)
in-part j (suc n) (x ∷ xs) (inr m) = elim (in-part j n xs m) [ inl k ↦ inl (inr k) | inr k ↦ inr k ]

-- who was used lately, and no longer is where another grain is used, goes
goes : (n : ℕ) (g : GrainId) (recent : List GrainId) (j : GrainId) → (j ≡ g → ⊥) → any (same_grain j) recent ≡ true → any (same_grain j) (touched (Some n) g recent) ≡ false → Member j (left_by (Some n) g recent)
goes n g recent j apart was now =
    let t = any-true (same_grain j) recent was in
    let mine : Member j recent = subst (λ z. Member z recent) (sym (same_grain-true j t.0 t.2)) t.1 in
    let kept : Member j (filter (λ k. not (same_grain k g)) recent) = filter-stays (λ k. not (same_grain k g)) recent j mine (not-same (cases_Bool (same_grain j g))) in
    elim (in-part j n (g ∷ filter (λ k. not (same_grain k g)) recent) (inr kept)) [
      | inl m ↦ absurd (true≢false (sym (any-member (same_grain j) (take n (g ∷ filter (λ k. not (same_grain k g)) recent)) j m (same_grain-is j j refl)) ∙ now))
      | inr m ↦ m
    ]
  where
    not-same : (same_grain j g ≡ true) ⊎ (same_grain j g ≡ false) → not (same_grain j g) ≡ true
    not-same (inl y) = absurd (apart (same_grain-true j g y))
    not-same (inr y) = ap not y

granted-busy : (hs : List Hold) (u : UnitNo) (mode : _) → is_empty (granted hs u mode) ≡ false
granted-busy hs u mode = go (dropped hs u)
  where
    go : (xs : List Hold) → is_empty (xs ++ record { unit = u; mode = mode } ∷ []) ≡ false
    go [] = refl
    go (x ∷ xs) = refl

module _ (n : ℕ) (w : CoreState) (limit : w.cells.capacity ≡ Some n) (used : Used w) where
  -- no grain in memory is idle and not used lately
  never : (g : GrainId) → w.cells.here g ≡ true → is_recent w g ≡ false → is_idle w g ≡ true → ⊥
  never g h r i = elim (used n g limit h) [
    | inl y ↦ true≢false (sym y ∙ r)
    | inr y ↦ true≢false (sym i ∙ y)
  ]

  -- an idle one was used lately
  lately : (g : GrainId) → w.cells.here g ≡ true → is_idle w g ≡ true → is_recent w g ≡ true
  lately g h i = elim (used n g limit h) [ inl y ↦ y | inr y ↦ absurd (true≢false (sym i ∙ y)) ]

  -- the waits of a unit that ends
  ends-so : (u : UnitNo) (j : GrainId) → w.cells.here j ≡ true → is_recent w j ≡ false → idle_by (w.cells.holds j) (is_single (w.cells.stack j)) (is_wanted (without_wants u w.units.wants) j) ≡ true → Member j (wanted_of u w.units.wants)
  ends-so u j h r i =
      let p = idle-parts (w.cells.holds j) (is_single (w.cells.stack j)) (is_wanted (without_wants u w.units.wants) j) i in
      elim (ended-wants w.units.wants u j p.2) [
        | inl z ↦ absurd (never j h r (idle-from (w.cells.holds j) (is_single (w.cells.stack j)) (is_wanted w.units.wants j) p.0 p.1 z))
        | inr z ↦ z
      ]

  pub covered : (e : CoreEvent) (w' : CoreState) → Change w e w' → Covers w' (touches w e)
  covered e w' (bad line why q) = λ j h r i. absurd (never j h r i)
  covered e w' (begin origin call plain c) = λ j h r i. absurd (never j h r i)
  covered e w' (lock u g mode running free first here) = λ j h r i. subst (Member j) (sym (cond-false (holds_lock u (w.cells.holds g)) [] (left_by w.cells.capacity g w.cells.recent) first)) (elim (cases_grain j g) [
    | inl q ↦ absurd (true≢false (sym (ap is_empty (sym (grain-is w.cells.holds g (granted (w.cells.holds g) u mode) j q)) ∙ (idle-parts (put_grain w.cells.holds g (granted (w.cells.holds g) u mode) j) (is_single (put_grain w.cells.stack g (cleaned w g) j)) (is_wanted (without_want u g w.units.wants) j) i).0) ∙ granted-busy (w.cells.holds g) u mode))
    | inr m ↦ (let p = idle-parts (put_grain w.cells.holds g (granted (w.cells.holds g) u mode) j) (is_single (put_grain w.cells.stack g (cleaned w g) j)) (is_wanted (without_want u g w.units.wants) j) i in
        let was : is_recent w j ≡ true = lately j h (idle-from (w.cells.holds j) (is_single (w.cells.stack j)) (is_wanted w.units.wants j)
        (ap is_empty (sym (grain-other w.cells.holds g (granted (w.cells.holds g) u mode) j m)) ∙ p.0)
        (ap is_single (sym (grain-other w.cells.stack g (cleaned w g) j m)) ∙ p.1)
        (other-wants w.units.wants u g j m p.2)) in
        subst (λ c. Member j (left_by c g w.cells.recent)) (sym limit) (goes n g w.cells.recent j m was (ap (λ c. any (same_grain j) (touched c g w.cells.recent)) (sym limit) ∙ r)))
  ])
  covered e w' (raise u g mode running free held here uncovered) = λ j h r i. elim (cases_grain j g) [
    | inl q ↦ absurd (true≢false (sym (ap is_empty (sym (grain-is w.cells.holds g (granted (w.cells.holds g) u mode) j q)) ∙ (idle-parts (put_grain w.cells.holds g (granted (w.cells.holds g) u mode) j) (is_single (put_grain w.cells.stack g (cleaned w g) j)) (is_wanted w.units.wants j) i).0) ∙ granted-busy (w.cells.holds g) u mode))
    | inr m ↦ (let p = idle-parts (put_grain w.cells.holds g (granted (w.cells.holds g) u mode) j) (is_single (put_grain w.cells.stack g (cleaned w g) j)) (is_wanted w.units.wants j) i in
        absurd (never j h r (idle-from (w.cells.holds j) (is_single (w.cells.stack j)) (is_wanted w.units.wants j)
        (ap is_empty (sym (grain-other w.cells.holds g (granted (w.cells.holds g) u mode) j m)) ∙ p.0)
        (ap is_single (sym (grain-other w.cells.stack g (cleaned w g) j m)) ∙ p.1)
        p.2)))
  ]
  covered e w' (refuse u g mode why running q) = λ j h r i. ends-so u j h r i
  covered e w' (finish u effect running plain of_call reads alone) = λ j h r i. ends-so u j h r i
  covered e w' (end_plain u effect running plain of_call bare) = λ j h r i. ends-so u j h r i
  covered e w' (end_snapshot u at outcome running plain kids answer) = λ j h r i. ends-so u j h r i
  covered e w' (release u g over held) = λ j h r i. elim (cases_grain j g) [
    | inl q ↦ inl q
    | inr m ↦ (let p = idle-parts (put_grain w.cells.holds g (dropped (w.cells.holds g) u) j) (is_single (put_grain w.cells.stack g (stacked (w.cells.readings g) (w.cells.stack g) u (state_written g (w.manager.writes u))) j)) (is_wanted w.units.wants j) i in
        absurd (never j h r (idle-from (w.cells.holds j) (is_single (w.cells.stack j)) (is_wanted w.units.wants j)
        (ap is_empty (sym (grain-other w.cells.holds g (dropped (w.cells.holds g) u) j m)) ∙ p.0)
        (ap is_single (sym (grain-other w.cells.stack g (stacked (w.cells.readings g) (w.cells.stack g) u (state_written g (w.manager.writes u))) j m)) ∙ p.1)
        p.2)))
  ]
  covered e w' (take_batch none some) = λ j h r i. absurd (never j h r i)
  covered e w' (vote b g kept c q number d planned fresh) = λ j h r i. absurd (never j h r i)
  covered e w' (decide_some b c q number d voted some) = λ j h r i. absurd (never j h r i)
  covered e w' (decide_none b c q number d voted none) = λ j h r i. absurd (never j h r i)
  covered e w' (seal_batch b c ds q number d) = λ j h r i. absurd (never j h r i)
  covered e w' (spoil_batch b c ds q number d) = λ j h r i. absurd (never j h r i)
  covered e w' (doubt_batch b c ds q number d) = λ j h r i. absurd (never j h r i)
  covered e w' (learn u g wrote final fresh) = λ j h r i. elim (cases_grain j g) [
    | inl q ↦ inl q
    | inr m ↦ (let p = idle-parts (w.cells.holds j) (is_single (put_grain w.cells.stack g (learnt (is_committed (w.manager.verdict u)) u (w.cells.stack g)) j)) (is_wanted w.units.wants j) i in
        absurd (never j h r (idle-from (w.cells.holds j) (is_single (w.cells.stack j)) (is_wanted w.units.wants j)
        p.0
        (ap is_single (sym (grain-other w.cells.stack g (learnt (is_committed (w.manager.verdict u)) u (w.cells.stack g)) j m)) ∙ p.1)
        p.2)))
  ]
  covered e w' (emit q) = λ j h r i. absurd (never j h r i)
  covered e w' (halt_run q) = λ j h r i. absurd (never j h r i)
  covered e w' (want u g running free fresh) = λ j h r i. (let p = idle-parts (w.cells.holds j) (is_single (w.cells.stack j)) (is_wanted (w.units.wants ++ (u, g) ∷ []) j) i in
      absurd (never j h r (idle-from (w.cells.holds j) (is_single (w.cells.stack j)) (is_wanted w.units.wants j) p.0 p.1 (front-none (λ (t : UnitNo × GrainId). same_grain t.1 j) w.units.wants ((u, g) ∷ []) p.2))))
  covered e w' (load g u state gone wanted) = λ j h r i. elim (cases_grain j g) [
    | inl q ↦ (let p = idle-parts (w.cells.holds j) (is_single (put_grain w.cells.stack g (record { unit = u; state = state } ∷ []) j)) (is_wanted w.units.wants j) i in
        absurd (true≢false (sym (ap (is_wanted w.units.wants) q ∙ wanted) ∙ p.2)))
    | inr m ↦ (let p = idle-parts (w.cells.holds j) (is_single (put_grain w.cells.stack g (record { unit = u; state = state } ∷ []) j)) (is_wanted w.units.wants j) i in
        let was : is_recent w j ≡ true = lately j (sym (grain-other w.cells.here g true j m) ∙ h) (idle-from (w.cells.holds j) (is_single (w.cells.stack j)) (is_wanted w.units.wants j)
        p.0
        (ap is_single (sym (grain-other w.cells.stack g (record { unit = u; state = state } ∷ []) j m)) ∙ p.1)
        p.2) in
        subst (λ c. Member j (left_by c g w.cells.recent)) (sym limit) (goes n g w.cells.recent j m was (ap (λ c. any (same_grain j) (touched c g w.cells.recent)) (sym limit) ∙ r)))
  ]
