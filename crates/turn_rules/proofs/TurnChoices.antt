-- Whose turn an event is, by what the turn rule looks at; and which unit of the pass wants its grain next.
use Rattle.std.proofs.Common.{◌≡◌, ◌⊎◌, inl, inr, ℕ, zero, suc, ◌+◌, ◌<◌, ◌≤◌, List, [], ◌∷◌, Option, Some, None, Bool, true, false, refl, sym, ap, ◌∙◌, subst, arith, is_some}
use Rattle.std.specs.Prelude.{find, nat_le, ◌&&◌, ◌||◌, if◌then◌else◌}
use Rattle.std.proofs.lemmas.Bool.{cond-true, cond-false, and_from, cases_Bool, cases_lt, le-leb, leb-true}
use Rattle.core_model.specs.CoreState.{UnitNo, GrainId, Mode, Member, CoreState}
use Rattle.core_model.specs.WantedGrains.{next_wanted}
use Rattle.core_model.specs.declared.events.CoreEvent.{CoreEvent}
use Rattle.core_model.specs.LegalRuns.{Run, ends}
use Rattle.script_tree.specs.Programs.{ProgramTree}
use Rattle.promise_spec.specs.TurnRule.{Mover, OfLine, OfWant, OfLoad, IsTurnOf, IsMadeBy, and_wish, grain_due, line_can_begin, mover_of, next_wish, picked, turn_of, units_from, waits_for_load}
use Rattle.turn_rules.specs.NextEvent.{movers_in, wish_in}

-- ---- a grain that is due

-- none is, where none is missing
pub none-due : (w : CoreState) → next_wanted w ≡ None → grain_due w ≡ None
none-due w q = by (is_some w.manager.doubt || w.units.halt)
  where
    by : (b : Bool) → (if b then None else next_wanted w) ≡ None
    by true = refl
    by false = q

-- the one that is missing is, where there is no doubt and no stop
pub some-due : (w : CoreState) (g : GrainId) → w.manager.doubt ≡ None → w.units.halt ≡ false → next_wanted w ≡ Some g → grain_due w ≡ Some g
some-due w g sure going q = (λ i. if is_some (sure i) || going i then None else q i)

-- ---- whose turn it is

-- a line can begin
abbrev pub begins_line : ProgramTree → Bool → ℕ → ℕ → Run → Bool
begins_line types windowed lines width r = line_can_begin windowed width lines r (ends r) (and_wish (wish_in types r) (movers_in types r))

module _ (types : ProgramTree) (windowed : Bool) (lines width : ℕ) (r : Run) (pick : ℕ) (e : CoreEvent) where
  -- the event is that of the turn
  abbrev pub IsTurnHere : Type 0
  IsTurnHere = IsTurnOf windowed lines width r (ends r) (wish_in types r) (movers_in types r) pick e

  -- by what the rule looks at
  turn-by : (due : Option GrainId) (b : Bool) (wish : Option UnitNo) → grain_due (ends r) ≡ due → begins_line types windowed lines width r ≡ b → wish_in types r ≡ wish
      → turn_of due b wish (picked (movers_in types r) pick) ≡ Some (mover_of e) → IsMadeBy (ends r) e (mover_of e) → IsTurnHere
  turn-by due b wish d c s whose made = record {
    whose = (λ i. turn_of (d i) (c i) (s i) (picked (movers_in types r) pick)) ∙ whose;
    made = made;
  }

  -- a line's event is, where no grain is due and a line can begin
  pub line-turn : mover_of e ≡ OfLine → grain_due (ends r) ≡ None → begins_line types windowed lines width r ≡ true → IsTurnHere
  line-turn m d c = turn-by None true (wish_in types r) d c refl (ap Some (sym m)) (subst (IsMadeBy (ends r) e) (sym m) tt)

  -- so is the wish of the unit whose it is next
  pub wish-turn : (u : UnitNo) → mover_of e ≡ OfWant u → grain_due (ends r) ≡ None → begins_line types windowed lines width r ≡ false → wish_in types r ≡ Some u → IsTurnHere
  wish-turn u m d c s = turn-by None false (Some u) d c s (ap Some (sym m)) (subst (IsMadeBy (ends r) e) (sym m) tt)

  -- the load of the grain that is due
  pub load-turn : (g : GrainId) → mover_of e ≡ OfLoad → grain_due (ends r) ≡ Some g → IsMadeBy (ends r) e OfLoad → IsTurnHere
  load-turn g m d made = turn-by (Some g) (begins_line types windowed lines width r) (wish_in types r) d refl refl (ap Some (sym m)) (subst (IsMadeBy (ends r) e) (sym m) made)

  -- and the event of the mover at the pick, where nobody wants a grain
  pub picked-turn : (m : Mover) → mover_of e ≡ m → grain_due (ends r) ≡ None → begins_line types windowed lines width r ≡ false → wish_in types r ≡ None → picked (movers_in types r) pick ≡ Some m → IsMadeBy (ends r) e m → IsTurnHere
  picked-turn m q d c s p made = turn-by None false None d c s (p ∙ ap Some (sym q)) (subst (IsMadeBy (ends r) e) (sym q) made)

  -- what a turn that is no line's looks at: the grain that is due, a wish, or the pick
  pub other-turn : (m : Mover) → (m ≡ OfLine → ⊥) → IsTurnHere → mover_of e ≡ m → (grain_due (ends r) ≡ None → ⊥) ⊎ ((wish_in types r ≡ None → ⊥) ⊎ (picked (movers_in types r) pick ≡ Some m))
  other-turn m other t q = by (grain_due (ends r)) refl (begins_line types windowed lines width r) (wish_in types r) refl (t.whose ∙ ap Some q)
    where
      by : (due : Option GrainId) → grain_due (ends r) ≡ due → (b : Bool) (wish : Option UnitNo) → wish_in types r ≡ wish → turn_of due b wish (picked (movers_in types r) pick) ≡ Some m
          → (grain_due (ends r) ≡ None → ⊥) ⊎ ((wish_in types r ≡ None → ⊥) ⊎ (picked (movers_in types r) pick ≡ Some m))
      by (Some g) d b wish s h = inl (λ none. (let z : Some g ≡ None = sym d ∙ none in absurd cc))
      by None d true wish s h = absurd (other (let z : OfLine ≡ m = cc in sym z))
      by None d false (Some u) s h = inr (inl (λ none. (let z : Some u ≡ None = sym s ∙ none in absurd cc)))
      by None d false None s h = inr (inr h)

-- ---- whose wish is next

-- nobody's, behind a doubt
pub doubt-wish : (w : CoreState) (units : List UnitNo) (asks : UnitNo → Option (GrainId × Mode)) (reached : ℕ) → is_some w.manager.doubt ≡ true → next_wish w units asks reached ≡ None
doubt-wish w units asks reached d = cond-true (is_some w.manager.doubt || w.units.halt) None (find (λ (u : UnitNo). nat_le reached u.0 && waits_for_load w u (asks u)) units)
    (ap (λ (b : Bool). b || w.units.halt) d)

-- none of a list passes a test that none of it passes
none-found : (p : UnitNo → Bool) (us : List UnitNo) → ((u : UnitNo) → Member u us → p u ≡ false) → find p us ≡ None
none-found p [] fails = refl
none-found p (u ∷ us) fails = cond-false (p u) (Some u) (find p us) (fails u (inl refl)) ∙ none-found p us (λ v m. fails v (inr m))

-- nor where each that isn't passed waits for none
pub none-wish : (w : CoreState) (units : List UnitNo) (asks : UnitNo → Option (GrainId × Mode)) (reached : ℕ) → ((u : UnitNo) → Member u units → reached ≤ u.0 → waits_for_load w u (asks u) ≡ false)
    → next_wish w units asks reached ≡ None
none-wish w units asks reached calm = by (is_some w.manager.doubt || w.units.halt)
  where
    fails : (u : UnitNo) → Member u units → (nat_le reached u.0 && waits_for_load w u (asks u)) ≡ false
    fails u m = elim (cases_Bool (nat_le reached u.0)) [
      | inl q ↦ ap (λ (b : Bool). b && waits_for_load w u (asks u)) q ∙ calm u m (leb-true reached u.0 q)
      | inr q ↦ ap (λ (b : Bool). b && waits_for_load w u (asks u)) q
    ]

    by : (b : Bool) → (if b then None else find (λ (u : UnitNo). nat_le reached u.0 && waits_for_load w u (asks u)) units) ≡ None
    by true = refl
    by false = none-found (λ (u : UnitNo). nat_le reached u.0 && waits_for_load w u (asks u)) units fails

-- the first of numbered units that passes a test
find-from : (p : UnitNo → Bool) (n b : ℕ) (u : UnitNo) → b ≤ u.0 → u.0 < b + n → p u ≡ true → ((v : UnitNo) → b ≤ v.0 → v.0 < u.0 → p v ≡ false) → find p (units_from n b) ≡ Some u
find-from p zero b u low high is before = absurd (omega (arith, low, high))
find-from p (suc n) b u low high is before = elim (cases_lt b u.0) [
  | inl less ↦ cond-false (p (record { 0 = b })) (Some (record { 0 = b })) (find p (units_from n (b + 1))) (before (record { 0 = b }) (omega arith) less)
      ∙ find-from p n (b + 1) u (omega (arith, less)) (omega (arith, high)) is (λ v above below. before v (omega (arith, above)) below)
  | inr not_less ↦
      let q : b ≡ u.0 = omega (arith, low, not_less) in
      let same : record { 0 = b } ≡ u = (λ i. record { 0 = q i }) in
      cond-true (p (record { 0 = b })) (Some (record { 0 = b })) (find p (units_from n (b + 1))) (ap p same ∙ is) ∙ ap Some same
]

-- the first unit that isn't passed and waits for its grain
pub some-wish : (w : CoreState) (n b : ℕ) (asks : UnitNo → Option (GrainId × Mode)) (reached : ℕ) (u : UnitNo) → w.manager.doubt ≡ None → w.units.halt ≡ false → b ≤ u.0 → u.0 < b + n → reached ≤ u.0
    → waits_for_load w u (asks u) ≡ true → ((v : UnitNo) → b ≤ v.0 → reached ≤ v.0 → v.0 < u.0 → waits_for_load w v (asks v) ≡ false) → next_wish w (units_from n b) asks reached ≡ Some u
some-wish w n b asks reached u sure going low high from waits calm =
    (λ i. if is_some (sure i) || going i then None else find test (units_from n b))
    ∙ find-from test n b u low high (and_from (nat_le reached u.0) (waits_for_load w u (asks u)) (le-leb reached u.0 from) waits) fails
  where
    test : UnitNo → Bool
    test v = nat_le reached v.0 && waits_for_load w v (asks v)

    fails : (v : UnitNo) → b ≤ v.0 → v.0 < u.0 → test v ≡ false
    fails v above below = elim (cases_Bool (nat_le reached v.0)) [
      | inl q ↦ ap (λ (c : Bool). c && waits_for_load w v (asks v)) q ∙ calm v above (leb-true reached v.0 q) below
      | inr q ↦ ap (λ (c : Bool). c && waits_for_load w v (asks v)) q
    ]
