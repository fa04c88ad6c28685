-- Locks.
use Rattle.std.proofs.Common.{◌≡◌, ◌<◌, List, [], ◌∷◌, true, false, ◌||◌, not, ◌⊎◌, inl, inr, refl, sym, ap, ◌∙◌, subst, arith, Option, Some, None, filter, map, nat_lt}
use Rattle.std.specs.List.{list_any as any}
use Rattle.std.proofs.lemmas.Bool.{cond_both, and_cases, and_parts, not-true, not-false, not_from_false, or_parts, true≢false, ltb-true, ltb-false, cases_Bool, cases_order}
use Rattle.cell_model.specs.Units.{UnitNo, Member, oldest}
use Rattle.cell_model.specs.Locks.{Hold, Mode, Free, Held, MustWait, MustDie, is_update, is_hold_of, holds_lock, covers, conflicts, rivals, wait_or_die, ask, dropped, granted}
use Rattle.cell_model.specs.Laws.{IsOldestRival, AnswersExactly, LocksFollow}
use Rattle.cell_model.proofs.Units.{same_unit-true, same_unit-false, same_unit-not, filter-member, filter-stays, Member-append, Member-left, Member-last, any-none, oldest-some, oldest-none}

pub dropped-member : (unit : UnitNo) (holds : List Hold) (h : Hold) → Member h (dropped holds unit) → Member h holds × (h.unit ≡ unit → ⊥)
dropped-member unit holds h m =
    let t = filter-member (λ h. not (is_hold_of unit h)) holds h m in
    (t.0, same_unit-false h.unit unit (not-true _ t.1))

pub dropped-stays : (unit : UnitNo) (holds : List Hold) (h : Hold) → Member h holds → (h.unit ≡ unit → ⊥) → Member h (dropped holds unit)
dropped-stays unit holds h m n = filter-stays (λ h. not (is_hold_of unit h)) holds h m (not_from_false _ (same_unit-not h.unit unit n))

pub dropped-none : (unit : UnitNo) (holds : List Hold) → holds_lock unit (dropped holds unit) ≡ false
dropped-none unit holds = any-none (is_hold_of unit) (dropped holds unit) (λ h m. same_unit-not h.unit unit (dropped-member unit holds h m).1)

pub granted-member : (holds : List Hold) (unit : UnitNo) (mode : Mode) (h : Hold) → Member h (granted holds unit mode) → (Member h holds × (h.unit ≡ unit → ⊥)) ⊎ (h ≡ record { unit = unit; mode = mode })
granted-member holds unit mode h m =
    elim (Member-append h (dropped holds unit) (record { unit = unit; mode = mode } ∷ []) m) [
      | inl a ↦ inl (dropped-member unit holds h a)
      | inr a ↦ elim a [ inl q ↦ inr q | inr q ↦ absurd q ]
    ]

pub granted-new : (holds : List Hold) (unit : UnitNo) (mode : Mode) → Member (record { unit = unit; mode = mode }) (granted holds unit mode)
granted-new holds unit mode = Member-last (record { unit = unit; mode = mode }) (dropped holds unit)

pub granted-stays : (holds : List Hold) (unit : UnitNo) (mode : Mode) (h : Hold) → Member h holds → (h.unit ≡ unit → ⊥) → Member h (granted holds unit mode)
granted-stays holds unit mode h m n = Member-left h (dropped holds unit) (record { unit = unit; mode = mode } ∷ []) (dropped-stays unit holds h m n)

pub locks-follow : (holds : List Hold) (unit : UnitNo) (mode : Mode) → LocksFollow holds unit mode
locks-follow holds unit mode = record {
  given = granted-new holds unit mode;
  gone = dropped-none unit holds;
  others = λ h n. (
    (λ m. elim (granted-member holds unit mode h m) [ inl a ↦ a.0 | inr q ↦ absurd (n (ap (λ (z : Hold). z.unit) q)) ]),
    (λ m. granted-stays holds unit mode h m n),
  );
}

-- a lock that doesn't conflict is the unit's own, where one of the two modes is for one unit alone
pub no_conflict : (unit : UnitNo) (mode : Mode) (h : Hold) → conflicts unit mode h ≡ false → (is_update mode ≡ true) ⊎ (is_update h.mode ≡ true) → h.unit ≡ unit
no_conflict unit mode h e o =
    elim (and_cases (not (is_hold_of unit h)) (is_update mode || is_update h.mode) e) [
      | inl a ↦ same_unit-true h.unit unit (not-false _ a)
      | inr a ↦ (let p = or_parts (is_update mode) (is_update h.mode) a in
          elim o [ inl q ↦ absurd (true≢false (sym q ∙ p.0)) | inr q ↦ absurd (true≢false (sym q ∙ p.1)) ])
    ]

pub rivals-member : (unit : UnitNo) (mode : Mode) (holds : List Hold) (v : UnitNo) → Member v (rivals unit mode holds) → (h : Hold) × Member h holds × (conflicts unit mode h ≡ true) × (h.unit ≡ v)
rivals-member unit mode holds v m = go (filter (conflicts unit mode) holds) m (λ h k. filter-member (conflicts unit mode) holds h k)
  where
    go : (hs : List Hold) → Member v (map (λ h. h.unit) hs) → ((h : Hold) → Member h hs → Member h holds × (conflicts unit mode h ≡ true)) → (h : Hold) × Member h holds × (conflicts unit mode h ≡ true) × (h.unit ≡ v)
    go [] m only = absurd m
    go (h ∷ hs) (inl q) only = (h, (only h (inl refl)).0, (only h (inl refl)).1, sym q)
    go (h ∷ hs) (inr k) only = go hs k (λ x y. only x (inr y))

pub rivals-has : (unit : UnitNo) (mode : Mode) (holds : List Hold) (h : Hold) → Member h holds → conflicts unit mode h ≡ true → Member h.unit (rivals unit mode holds)
rivals-has unit mode holds h m e = go (filter (conflicts unit mode) holds) (filter-stays (conflicts unit mode) holds h m e)
  where
    go : (hs : List Hold) → Member h hs → Member h.unit (map (λ h. h.unit) hs)
    go [] k = absurd k
    go (x ∷ xs) (inl q) = inl (ap (λ (z : Hold). z.unit) q)
    go (x ∷ xs) (inr q) = inr (go xs q)

pub oldest-rival : (unit : UnitNo) (mode : Mode) (holds : List Hold) (v : UnitNo) → oldest (rivals unit mode holds) ≡ Some v → IsOldestRival holds unit mode v
oldest-rival unit mode holds v e =
    let t = oldest-some (rivals unit mode holds) v e in
    record { rival = rivals-member unit mode holds v t.0; oldest = λ h m c. t.1 h.unit (rivals-has unit mode holds h m c) }

pub no-rival : (unit : UnitNo) (mode : Mode) (holds : List Hold) → oldest (rivals unit mode holds) ≡ None → (h : Hold) → Member h holds → conflicts unit mode h ≡ false
no-rival unit mode holds e h m = elim (cases_Bool (conflicts unit mode h)) [
  | inl c ↦ absurd (subst (Member h.unit) (oldest-none (rivals unit mode holds) e) (rivals-has unit mode holds h m c))
  | inr c ↦ c
]

pub ask-exact : (holds : List Hold) (unit : UnitNo) (mode : Mode) → AnswersExactly holds unit mode (ask holds unit mode)
ask-exact holds unit mode =
    cond_both (any (covers unit mode) holds) Held (wait_or_die unit (oldest (rivals unit mode holds))) (AnswersExactly holds unit mode)
    (λ e. e) (λ e. go e (oldest (rivals unit mode holds)) refl)
  where
    apart : (v : UnitNo) → IsOldestRival holds unit mode v → v.0 ≡ unit.0 → ⊥
    apart v o q =
        let c = and_parts (not (is_hold_of unit o.rival.0)) _ o.rival.2 in
        same_unit-false o.rival.0.unit unit (not-true _ c.0) (o.rival.3 ∙ (λ i. record { 0 = q i }))

    go : any (covers unit mode) holds ≡ false → (o : Option UnitNo) → oldest (rivals unit mode holds) ≡ o → AnswersExactly holds unit mode (wait_or_die unit o)
    go e None q = (e, no-rival unit mode holds q)
    go e (Some v) q =
        let o = oldest-rival unit mode holds v q in
        cond_both (nat_lt v.0 unit.0) (MustDie v) (MustWait v) (AnswersExactly holds unit mode)
        (λ t. (e, o, ltb-true _ _ t))
        (λ t. (
          e,
          o,
          elim (cases_order unit.0 v.0) [
            | inl s ↦ absurd (apart v o (sym s))
            | inr s ↦ elim s [ inl l ↦ l | inr l ↦ (let le = ltb-false v.0 unit.0 t in absurd (omega (arith, le, l))) ]
          ],
        ))

-- what a free lock means
pub ask-free : (holds : List Hold) (unit : UnitNo) (mode : Mode) → ask holds unit mode ≡ Free → (any (covers unit mode) holds ≡ false) × ((h : Hold) → Member h holds → conflicts unit mode h ≡ false)
ask-free holds unit mode e = subst (AnswersExactly holds unit mode) e (ask-exact holds unit mode)

pub ask-die : (holds : List Hold) (unit : UnitNo) (mode : Mode) (v : UnitNo) → ask holds unit mode ≡ MustDie v → (any (covers unit mode) holds ≡ false) × IsOldestRival holds unit mode v × (v.0 < unit.0)
ask-die holds unit mode v e = subst (AnswersExactly holds unit mode) e (ask-exact holds unit mode)
