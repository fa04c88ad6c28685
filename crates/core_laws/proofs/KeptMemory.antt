-- Grains that come into memory and leave it keep the invariant.
use Rattle.std.proofs.Common.{◌≡◌, ℕ, ◌≤◌, List, [], ◌∷◌, Bool, true, false, ◌||◌, not, ◌⊎◌, inl, inr, refl, sym, ap, ◌∙◌, subst, arith, Option, Some, None}
use Rattle.std.proofs.lemmas.Bool.{and_parts, not-false, or_parts}
use Rattle.core_model.specs.CoreState.{UnitNo, GrainId, put_grain, Member, Value, Version, top, CoreState}
use Rattle.core_model.specs.declared.phases.Phase.TheVariants.{Finished}
use Rattle.core_model.specs.declared.phases.Verdict.TheVariants.{Committed}
use Rattle.core_model.specs.Tests.{is_good, state_written}
use Rattle.core_model.specs.DeadUnits.{Dead}
use Rattle.core_model.specs.Chains.{Chain, WroteGrain, IsBottom, IsLink}
use Rattle.core_laws.proofs.Puts.{grain-at}
use Rattle.core_laws.proofs.Invariant.{Inv, same_place, wrote-finished}
use Rattle.std.proofs.lemmas.Bool.{and_cases}
use Rattle.core_model.specs.Tests.{is_empty, is_single, is_idle, is_recent}
use Rattle.core_model.specs.Changes.{restacked, loaded, stays, swept_by, swept}
use Rattle.core_model.specs.SerialOrder.{IsLastVersion}
use Rattle.core_laws.proofs.KeptStack.{kept-restacked}
use Rattle.core_laws.proofs.Alive.{good-alive}

-- which grains are in memory is in one part of the invariant
pub kept-here : (opening : GrainId → List Value) (n : ℕ) (w : CoreState) (here : GrainId → Bool) → Inv opening n w →
    ((g : GrainId) → here g ≡ false → (w.cells.holds g ≡ []) × ((x : Version) × (w.cells.stack g ≡ x ∷ []))) → Inv opening n (record w { cells = record w.cells { here = here } })
kept-here opening n w here i away =
    record {
      fresh = i.fresh;
      unborn = i.unborn;
      outside = i.outside;
      origin = i.origin;
      blank = i.blank;
      unwritten = i.unwritten;
      undecided = i.undecided;
      listed = i.listed;
      placed = i.placed;
      within = i.within;
      early = i.early;
      late = i.late;
      alone = i.alone;
      keeps = i.keeps;
      strong = i.strong;
      told = i.told;
      seen = i.seen;
      kept = i.kept;
      view = i.view;
      source = i.source;
      gap = i.gap;
      chain = i.chain;
      latest = i.latest;
      good = i.good;
      sure = i.sure;
      sees = i.sees;
      away = away;
    }

is_empty-true : {A : Type 0} (xs : List A) → is_empty xs ≡ true → xs ≡ []
is_empty-true [] e = refl
is_empty-true (x ∷ xs) e = cc

is_single-true : {A : Type 0} (xs : List A) → is_single xs ≡ true → (x : A) × (xs ≡ x ∷ [])
is_single-true [] e = cc
is_single-true (x ∷ []) e = (x, refl)
is_single-true (x ∷ y ∷ ys) e = cc

-- idle grains that leave
pub kept-swept : (opening : GrainId → List Value) (n : ℕ) (w : CoreState) → Inv opening n w → Inv opening n (swept w)
kept-swept opening n w i = go w.cells.capacity
  where
    go : (c : Option ℕ) → Inv opening n (swept_by w c)
    go None = i
    go (Some m) = kept-here opening n w (λ g. stays w g) i (λ g e. elim (and_cases (w.cells.here g) (is_recent w g || not (is_idle w g)) e) [
      | inl h ↦ i.away g h
      | inr h ↦ (let idle = not-false _ (or_parts (is_recent w g) (not (is_idle w g)) h).1 in
          let p = and_parts (is_empty (w.cells.holds g)) _ idle in
          let q = and_parts (is_single (w.cells.stack g)) _ p.1 in
          (is_empty-true _ p.0, is_single-true _ q.0))
    ])

-- A load of the last committed version finds what the stack was when the cell left.
load-same : (opening : GrainId → List Value) (n : ℕ) (w : CoreState) (g : GrainId) (u : UnitNo) (s : List Value) (x : Version) → Inv opening n w →
    w.cells.holds g ≡ [] → w.cells.stack g ≡ x ∷ [] → IsLastVersion opening w g u s → x ≡ record { unit = u; state = s }
load-same opening n w g u s x i none is last =
    go (subst (λ t. Chain (IsBottom opening w.units.phase w.manager.writes w.manager.verdict g) (IsLink w.units.phase w.manager.writes w.units.reads g) t) is (i.chain g)) last
  where
    below : (c : UnitNo) (v : List Value) → w.manager.verdict c ≡ Committed → state_written g (w.manager.writes c) ≡ Some v → w.manager.place c ≤ w.manager.place x.unit
    below c v q wr =
        elim (i.latest c g (wrote-finished opening n w i c g v wr) (v, wr) (λ h m e up. subst (Member h) none m)) [
          | inl d ↦ absurd (good-alive opening n w i c (ap is_good q) d)
          | inr le ↦ subst (λ t. w.manager.place c ≤ w.manager.place (top t).unit) is le
        ]

    go : IsBottom opening w.units.phase w.manager.writes w.manager.verdict g x → IsLastVersion opening w g u s → x ≡ record { unit = u; state = s }
    go (inl a) (inl b) = λ j. record { unit = (a.0 ∙ sym b.0) j; state = (a.1 ∙ sym b.1) j }
    go (inl a) (inr b) =
        let le = below u s b.commits b.wrote in
        let t = i.placed u (wrote-finished opening n w i u g s b.wrote) in
        absurd (omega (arith, ap w.manager.place a.0, i.origin, le, t.2))
    go (inr a) (inl b) = absurd (b.2 x.unit x.state a.0 a.1.1)
    go (inr a) (inr b) =
        let e = same_place opening n w i x.unit u a.1.0 (wrote-finished opening n w i u g s b.wrote) (omega (arith, below u s b.commits b.wrote, b.last x.unit x.state a.0 a.1.1)) in
        let q : Some x.state ≡ Some s = sym a.1.1 ∙ ap (λ z. state_written g (w.manager.writes z)) e ∙ b.wrote in
        let r : x.state ≡ s = cc in
        λ j. record { unit = e j; state = r j }

pub kept-loaded : (opening : GrainId → List Value) (n : ℕ) (w : CoreState) (g : GrainId) (u : UnitNo) (s : List Value) → Inv opening n w → w.cells.here g ≡ false → IsLastVersion opening w g u s → Inv opening n (loaded w g u s)
kept-loaded opening n w g u s i gone last =
    kept-here opening n (restacked w g xs) (put_grain w.cells.here g true) kept
    (λ k. grain-at w.cells.here g true (λ b. b ≡ false → (w.cells.holds k ≡ []) × ((x : Version) × (put_grain w.cells.stack g xs k ≡ x ∷ []))) k (λ e h. cc) (λ e h. kept.away k h))
  where
    xs : List Version
    xs = record { unit = u; state = s } ∷ []

    same : w.cells.stack g ≡ xs
    same = (let t = i.away g gone in t.1.1 ∙ ap (λ z. z ∷ []) (load-same opening n w g u s t.1.0 i t.0 t.1.1 last))

    kept : Inv opening n (restacked w g xs)
    kept =
        kept-restacked opening n w g xs i (λ h. (record { unit = u; state = s }, refl))
        (subst (λ t. Chain (IsBottom opening w.units.phase w.manager.writes w.manager.verdict g) (IsLink w.units.phase w.manager.writes w.units.reads g) t) same (i.chain g))
        (λ k. subst (λ t. (w.units.phase k ≡ Finished → WroteGrain w.manager.writes k g → Dead w.manager.verdict w.units.reads k ⊎ (w.manager.place k ≤ w.manager.place (top (w.cells.stack g)).unit) → Dead w.manager.verdict w.units.reads k ⊎ (w.manager.place k ≤ w.manager.place (top t).unit))
        × ((k ≡ (top (w.cells.stack g)).unit) ⊎ Dead w.manager.verdict w.units.reads k → (k ≡ (top t).unit) ⊎ Dead w.manager.verdict w.units.reads k)) same ((λ f wr h. h), (λ h. h)))
