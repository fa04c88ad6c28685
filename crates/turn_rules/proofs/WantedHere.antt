-- Which wanted grains aren't in memory: none before a wish, the one that is wished for behind it, and none again behind its load.
use Rattle.std.proofs.Common.{◌≡◌, ◌⊎◌, ℕ, List, [], ◌∷◌, ◌++◌, Bool, true, false, true≢false, ◌&&◌, ◌||◌, not, inl, inr, refl, sym, ap, ◌∙◌, subst, Option, Some, None, is_some, filter, map}
use Rattle.std.specs.Prelude.{if◌then◌else◌}
use Rattle.std.proofs.lemmas.Bool.{and_parts, and_from, or_right, cases_Bool, cond_both, cond-true}
use Rattle.cell_model.proofs.Units.{any-member, any-true, filter-member, filter-stays, same_grain-is, same_grain-true}
use Rattle.core_model.specs.CoreState.{UnitNo, GrainId, Value, Member, nobody, same_grain, same_unit, CoreState}
use Rattle.core_model.specs.Tests.{first_grain, first_of_two, is_empty, is_idle, is_recent, is_single, is_wanted}
use Rattle.core_model.specs.Changes.{stays, swept, swept_by}
use Rattle.core_model.specs.WantedGrains.{next_wanted}
use Rattle.core_model.specs.declared.events.CoreEvent.{CoreEvent}
use Rattle.core_model.specs.declared.events.CoreEvent.TheVariants.{Want, Load}
use Rattle.core_model.specs.Events.{applies, can, does, is_allowed, step}
use Rattle.core_laws.proofs.EventCases.{Change, bad, begin, lock, raise, refuse, finish, end_plain, end_snapshot, release, take_batch, vote, decide_some, decide_none, seal_batch, spoil_batch, doubt_batch, learn, emit, halt_run, want, load, decode}
use Rattle.core_model.specs.LegalRuns.{Run, ends}
use Rattle.core_model.specs.Settler.{MakesEvent, Step, Loads, settler_step}
use Rattle.core_laws.proofs.SettlerSteps.{step-applies}
use Rattle.core_laws.proofs.Puts.{grain-at}
use Rattle.turn_rules.specs.TurnLoop.{MissesOnly}
use Rattle.turn_rules.proofs.ListTests.{filter-none}

-- ---- each wanted grain is in memory

-- but for one, where one is named
abbrev pub AreHere : Option GrainId → CoreState → Type 0
AreHere None w = (x : UnitNo × GrainId) → Member x w.units.wants → w.cells.here x.1 ≡ true
AreHere (Some g) w = (x : UnitNo × GrainId) → Member x w.units.wants → same_grain x.1 g ≡ false → w.cells.here x.1 ≡ true

-- no grain is the first of some
first-none : (gs : List GrainId) → first_grain gs ≡ None → gs ≡ []
first-none [] e = refl
first-none (x ∷ xs) e = absurd (by (first_grain xs) e)
  where
    by : (o : Option GrainId) → first_of_two x o ≡ None → ⊥
    by None q = true≢false (ap is_some q)
    by (Some k) q = true≢false (ap is_some q)

-- a grain that is wanted is among those that are
wanted-member : (wants : List (UnitNo × GrainId)) (x : UnitNo × GrainId) → Member x wants → Member x.1 (map (λ (z : UnitNo × GrainId). z.1) wants)
wanted-member [] x m = absurd m
wanted-member (y ∷ ys) x (inl q) = inl (ap (λ (z : UnitNo × GrainId). z.1) q)
wanted-member (y ∷ ys) x (inr m) = inr (wanted-member ys x m)

-- and the other way
member-wanted : (wants : List (UnitNo × GrainId)) (g : GrainId) → Member g (map (λ (z : UnitNo × GrainId). z.1) wants) → (x : UnitNo × GrainId) × Member x wants × (x.1 ≡ g)
member-wanted [] g m = absurd m
member-wanted (y ∷ ys) g (inl q) = (y, inl refl, sym q)
member-wanted (y ∷ ys) g (inr m) = (let t = member-wanted ys g m in (t.0, inr t.1, t.2))

-- where none is missing
pub none-here : (w : CoreState) → next_wanted w ≡ None → AreHere None w
none-here w e x m = elim (cases_Bool (w.cells.here x.1)) [
  | inl h ↦ h
  | inr h ↦ (let f = filter-stays (λ (k : GrainId). not (w.cells.here k)) (map (λ (z : UnitNo × GrainId). z.1) w.units.wants) x.1 (wanted-member w.units.wants x m) (ap not h) in
      absurd (subst (Member x.1) (first-none (filter (λ (k : GrainId). not (w.cells.here k)) (map (λ (z : UnitNo × GrainId). z.1) w.units.wants)) e) f))
]

pub here-none : (w : CoreState) → AreHere None w → next_wanted w ≡ None
here-none w s = ap first_grain (filter-none (λ (k : GrainId). not (w.cells.here k)) (map (λ (z : UnitNo × GrainId). z.1) w.units.wants)
    (λ k m. (let t = member-wanted w.units.wants k m in ap not (subst (λ (z : GrainId). w.cells.here z ≡ true) t.2 (s t.0 t.1)))))

-- ---- by each event

-- an event that is no wish
abbrev pub is_wish : CoreEvent → Bool
is_wish (Want u g) = true
is_wish _ = false

here-change : (w : CoreState) (e : CoreEvent) (w' : CoreState) → Change w e w' → is_wish e ≡ false → AreHere None w → AreHere None w'
here-change w e w' (bad line why q) n s = s
here-change w e w' (begin origin call plain c) n s = s
here-change w e w' (lock u g mode running free first here) n s = λ x m. s x (filter-member (λ (t : UnitNo × GrainId). not (same_unit t.0 u && same_grain t.1 g)) w.units.wants x m).0
here-change w e w' (raise u g mode running free held here uncovered) n s = s
here-change w e w' (refuse u g mode why running q) n s = λ x m. s x (filter-member (λ (t : UnitNo × GrainId). not (same_unit t.0 u)) w.units.wants x m).0
here-change w e w' (finish u effect running plain of_call reads alone) n s = λ x m. s x (filter-member (λ (t : UnitNo × GrainId). not (same_unit t.0 u)) w.units.wants x m).0
here-change w e w' (end_plain u effect running plain of_call bare) n s = λ x m. s x (filter-member (λ (t : UnitNo × GrainId). not (same_unit t.0 u)) w.units.wants x m).0
here-change w e w' (end_snapshot u at outcome running plain kids answer) n s = λ x m. s x (filter-member (λ (t : UnitNo × GrainId). not (same_unit t.0 u)) w.units.wants x m).0
here-change w e w' (release u g over held) n s = s
here-change w e w' (take_batch none some) n s = s
here-change w e w' (vote k g kept b q number d planned fresh) n s = s
here-change w e w' (decide_some k b q number d voted some) n s = s
here-change w e w' (decide_none k b q number d voted none) n s = s
here-change w e w' (seal_batch k b ds q number d) n s = s
here-change w e w' (spoil_batch k b ds q number d) n s = s
here-change w e w' (doubt_batch k b ds q number d) n s = s
here-change w e w' (learn u g wrote final fresh) n s = s
here-change w e w' (emit q) n s = s
here-change w e w' (halt_run q) n s = s
here-change w e w' (want u g running free fresh) n s = absurd (true≢false n)
here-change w e w' (load g u state gone wanted) n s = λ x m. grain-at w.cells.here g true (λ b. b ≡ true) x.1 (λ i. refl) (λ i. s x m)

-- a grain that is wanted doesn't leave memory
busy : (holds single : Bool) → not (holds && (single && not true)) ≡ true
busy true true = refl
busy true false = refl
busy false s = refl

pub wanted-stays : (w : CoreState) (g : GrainId) → is_wanted w.units.wants g ≡ true → w.cells.here g ≡ true → stays w g ≡ true
wanted-stays w g wanted here = and_from (w.cells.here g) _ here (or_right (is_recent w g) (not (is_idle w g))
    ((λ i. not (is_empty (w.cells.holds g) && (is_single (w.cells.stack g) && not (wanted i)))) ∙ busy (is_empty (w.cells.holds g)) (is_single (w.cells.stack g))))

member-is-wanted : (w : CoreState) (x : UnitNo × GrainId) → Member x w.units.wants → is_wanted w.units.wants x.1 ≡ true
member-is-wanted w x m = any-member (λ (t : UnitNo × GrainId). same_grain t.1 x.1) w.units.wants x m (same_grain-is x.1 x.1 refl)

here-swept : (due : Option GrainId) (w : CoreState) → AreHere due w → AreHere due (swept w)
here-swept None w s = go w.cells.capacity
  where
    go : (c : Option ℕ) → AreHere None (swept_by w c)
    go None = s
    go (Some n) = λ x m. wanted-stays w x.1 (member-is-wanted w x m) (s x m)
here-swept (Some g) w s = go w.cells.capacity
  where
    go : (c : Option ℕ) → AreHere (Some g) (swept_by w c)
    go None = s
    go (Some n) = λ x m other. wanted-stays w x.1 (member-is-wanted w x m) (s x m other)

-- no event but a wish makes one missing
pub none-step : (w : CoreState) (e : CoreEvent) → is_wish e ≡ false → next_wanted w ≡ None → next_wanted (step w e) ≡ None
none-step w e n q = here-none (step w e)
    (cond_both (applies w e) (swept (does w e)) w (AreHere None)
    (λ a. here-swept None (does w e) (here-change w e (does w e) (decode w e (and_parts (is_allowed w e) (can w e) a).1) n (none-here w q)))
    (λ a. none-here w q))

-- ---- a wish and its load

-- of two lists of grains that aren't in memory
filter-two : (p : GrainId → Bool) (xs ys : List GrainId) → filter p (xs ++ ys) ≡ filter p xs ++ filter p ys
filter-two p [] ys = refl
filter-two p (x ∷ xs) ys = by (p x) (filter-two p xs ys)
  where
    by : (b : Bool) → filter p (xs ++ ys) ≡ filter p xs ++ filter p ys → (if b then x ∷ filter p (xs ++ ys) else filter p (xs ++ ys)) ≡ (if b then x ∷ filter p xs else filter p xs) ++ filter p ys
    by true q = ap (λ (l : List GrainId). x ∷ l) q
    by false q = q

map-two : (xs ys : List (UnitNo × GrainId)) → map (λ (z : UnitNo × GrainId). z.1) (xs ++ ys) ≡ map (λ (z : UnitNo × GrainId). z.1) xs ++ map (λ (z : UnitNo × GrainId). z.1) ys
map-two [] ys = refl
map-two (x ∷ xs) ys = ap (λ (l : List GrainId). x.1 ∷ l) (map-two xs ys)

last-or-before : (xs : List (UnitNo × GrainId)) (y x : UnitNo × GrainId) → Member x (xs ++ (y ∷ [])) → Member x xs ⊎ (x ≡ y)
last-or-before [] y x (inl q) = inr q
last-or-before [] y x (inr m) = absurd m
last-or-before (z ∷ xs) y x (inl q) = inl (inl q)
last-or-before (z ∷ xs) y x (inr m) = elim (last-or-before xs y x m) [ inl k ↦ inl (inr k) | inr q ↦ inr q ]

module _ (w : CoreState) (u : UnitNo) (g : GrainId) (gone : w.cells.here g ≡ false) (none : next_wanted w ≡ None) where
  -- the state behind the wish, before grains leave
  abbrev after : CoreState
  after = does w (Want u g)

  -- what is missing, where these are in memory that were
  only-one : (here : GrainId → Bool) → here g ≡ false → ((x : UnitNo × GrainId) → Member x w.units.wants → here x.1 ≡ true) →
      first_grain (filter (λ (k : GrainId). not (here k)) (map (λ (z : UnitNo × GrainId). z.1) (w.units.wants ++ ((u, g) ∷ [])))) ≡ Some g
  only-one here out inside =
      ap (λ (l : List GrainId). first_grain (filter (λ (k : GrainId). not (here k)) l)) (map-two w.units.wants ((u, g) ∷ []))
      ∙ ap first_grain (filter-two (λ (k : GrainId). not (here k)) (map (λ (z : UnitNo × GrainId). z.1) w.units.wants) (g ∷ [])
      ∙ ap (λ (l : List GrainId). l ++ filter (λ (k : GrainId). not (here k)) (g ∷ []))
      (filter-none (λ (k : GrainId). not (here k)) (map (λ (z : UnitNo × GrainId). z.1) w.units.wants) (λ k m. (let t = member-wanted w.units.wants k m in ap not (subst (λ (z : GrainId). here z ≡ true) t.2 (inside t.0 t.1)))))
      ∙ cond-true (not (here g)) (g ∷ []) [] (ap not out))

  wished-misses : MissesOnly (Some g) after
  wished-misses = (
    only-one w.cells.here gone (none-here w none),
    λ x m other. elim (last-or-before w.units.wants (u, g) x m) [
      | inl k ↦ none-here w none x k
      | inr q ↦ absurd (true≢false (sym (same_grain-is x.1 g (ap (λ (z : UnitNo × GrainId). z.1) q)) ∙ other))
    ],
  )

  wished-swept : MissesOnly (Some g) (swept after)
  wished-swept = go w.cells.capacity
    where
      go : (c : Option ℕ) → MissesOnly (Some g) (swept_by after c)
      go None = wished-misses
      go (Some n) = (
        only-one (λ k. stays after k) (ap (λ b. b && (is_recent after g || not (is_idle after g))) gone)
            (λ x m. wanted-stays after x.1 (wanted-more x m) (none-here w none x m)),
        λ x m other. wanted-stays after x.1 (member-is-wanted after x m) (wished-misses.1 x m other),
      )
        where
          wanted-more : (x : UnitNo × GrainId) → Member x w.units.wants → is_wanted after.units.wants x.1 ≡ true
          wanted-more x m = member-is-wanted after x (left w.units.wants m)
            where
              left : (xs : List (UnitNo × GrainId)) → Member x xs → Member x (xs ++ ((u, g) ∷ []))
              left [] m = absurd m
              left (y ∷ ys) (inl q) = inl q
              left (y ∷ ys) (inr m) = inr (left ys m)

  -- behind the wish its grain alone is missing
  pub wish-misses : applies w (Want u g) ≡ true → MissesOnly (Some g) (step w (Want u g))
  wish-misses a = subst (MissesOnly (Some g)) (sym (cond-true (applies w (Want u g)) (swept (does w (Want u g))) w a)) wished-swept

-- behind its load none is
pub load-misses : (w : CoreState) (g : GrainId) (u : UnitNo) (state : List Value) → MissesOnly (Some g) w → applies w (Load g u state) ≡ true → next_wanted (step w (Load g u state)) ≡ None
load-misses w g u state misses a =
    subst (λ (v : CoreState). next_wanted v ≡ None) (sym (cond-true (applies w (Load g u state)) (swept (does w (Load g u state))) w a))
    (here-none (swept (does w (Load g u state))) (here-swept None (does w (Load g u state))
    (λ x m. grain-at w.cells.here g true (λ b. b ≡ true) x.1 (λ i. refl) (λ n. misses.1 x m (apart x.1 n)))))
  where
    apart : (h : GrainId) → (h ≡ g → ⊥) → same_grain h g ≡ false
    apart h n = elim (cases_Bool (same_grain h g)) [ inl e ↦ absurd (n (same_grain-true h g e)) | inr e ↦ e ]

-- ---- the settler

-- where none is missing the settler's step brings none into memory
pub no-load-step : (r : Run) → (ends r).units.halt ≡ false → next_wanted (ends r) ≡ None → (g : GrainId) → settler_step (ends r) ≡ Loads g → ⊥
no-load-step r going none g q =
    let a : applies (ends r) (Load g nobody []) ≡ true = step-applies r (Load g nobody []) (subst (λ (s : Step). MakesEvent s (Load g nobody [])) (sym q) (nobody, [], refl)) ∙ ap (λ (b : Bool). not b || false) going in
    let can = and_parts (not ((ends r).cells.here g)) (is_wanted (ends r).units.wants g) (and_parts (is_allowed (ends r) (Load g nobody [])) (can (ends r) (Load g nobody [])) a).1 in
    let x = any-true (λ (t : UnitNo × GrainId). same_grain t.1 g) (ends r).units.wants can.1 in
    let here : (ends r).cells.here g ≡ true = subst (λ (k : GrainId). (ends r).cells.here k ≡ true) (same_grain-true x.0.1 g x.2) (none-here (ends r) none x.0 x.1) in
    true≢false (sym can.0 ∙ ap not here)
