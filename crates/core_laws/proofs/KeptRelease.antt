-- A release keeps the invariant.
use Rattle.std.proofs.Common.{◌≡◌, ℕ, ◌<◌, ◌≤◌, List, true, false, ◌⊎◌, inl, inr, refl, sym, ap, ◌∙◌, subst, arith, Option, Some, None}
use Rattle.std.proofs.lemmas.Bool.{cases_Bool, cond-true, cond-false}
use Rattle.cell_model.specs.Locks.{is_update, is_hold_of, holds_lock, dropped}
use Rattle.cell_model.proofs.Units.{same_unit-true, cases_unit, any-true}
use Rattle.core_model.specs.CoreState.{UnitNo, GrainId, put_grain, Member, Value, Version, top, Hold, Reading, CoreState}
use Rattle.core_model.specs.declared.phases.Phase.TheVariants.{Running, Finished}
use Rattle.core_model.specs.declared.effects.Read.{Read}
use Rattle.core_model.specs.Tests.{state_written}
use Rattle.core_model.specs.DeadUnits.{Dead, by_source}
use Rattle.core_model.specs.Chains.{Chain, WroteGrain, IsBottom, IsLink}
use Rattle.core_laws.proofs.Puts.{grain-at, grain-from, grain-other}
use Rattle.core_laws.proofs.StackChains.{Chain-push}
use Rattle.core_laws.proofs.Invariant.{Inv, wrote-finished}
use Rattle.cell_model.specs.Stacks.{pushed}
use Rattle.cell_model.specs.Cells.{stacked, reads_top, without_reading}
use Rattle.cell_model.proofs.LockAnswers.{dropped-member, dropped-stays}
use Rattle.core_model.specs.Changes.{after_release}
use Rattle.core_laws.proofs.Readings.{without_reading-member, reads_top-true, reads_top-has}
use Rattle.core_laws.proofs.Invariant.{loadless-of}
use Rattle.core_laws.proofs.LoadlessEvents.{loadless-released}

pub kept-released : (opening : GrainId → List Value) (n : ℕ) (w : CoreState) (u : UnitNo) (g : GrainId) → Inv opening n w →
    (w.units.phase u ≡ Running → ⊥) → holds_lock u (w.cells.holds g) ≡ true → Inv opening n (after_release w u g)
kept-released opening n w u g i stopped held =
    let p = loadless-released n w u g (loadless-of opening n w i) stopped held in
    record {
      fresh = p.fresh;
      unborn = p.unborn;
      outside = p.outside;
      blank = p.blank;
      unwritten = p.unwritten;
      undecided = p.undecided;
      listed = p.listed;
      placed = p.placed;
      within = p.within;
      early = p.early;
      late = p.late;
      alone = p.alone;
      keeps = p.keeps;
      strong = p.strong;
      told = p.told;
      seen = p.seen;
      kept = p.kept;
      origin = i.origin;
      view = λ k s m. grain-at w.cells.stack g stack_g (λ t. (s.source ≡ (top t).unit) ⊎ Dead w.manager.verdict w.units.reads s.source) k
          (λ e. elim (i.view k s (old_reading k s m)) [
            | inl a ↦ (let t = i.kept k s (old_reading k s m) in
                let q = without_reading-member (w.cells.readings g) u s (grain-from w.cells.readings g readings_g (Member s) (Member s readings_g) k (λ z y. y) (λ z y. absurd (z e)) m) in
                inl (a ∙ ap (λ j. (top (w.cells.stack j)).unit) e ∙ same_top t.0 (dropped-stays u (w.cells.holds g) t.0 (subst (λ j. Member t.0 (w.cells.holds j)) e t.1) (λ z. q.1 (sym t.2 ∙ z)))))
            | inr a ↦ inr a
          ])
          (λ e. i.view k s (old_reading k s m));
      source = i.source;
      gap = i.gap;
      chain = λ k. grain-at w.cells.stack g stack_g (λ s. Chain (IsBottom opening w.units.phase w.manager.writes w.manager.verdict k) (IsLink w.units.phase w.manager.writes w.units.reads k) s) k
          (λ e. subst (λ j. Chain (IsBottom opening w.units.phase w.manager.writes w.manager.verdict j) (IsLink w.units.phase w.manager.writes w.units.reads j) stack_g) (sym e) chain_g)
          (λ e. i.chain k);
      latest = λ x k f wr none. grain-at w.cells.stack g stack_g (λ s. Dead w.manager.verdict w.units.reads x ⊎ (w.manager.place x ≤ w.manager.place (top s).unit)) k
          (λ e. latest_g x f (subst (WroteGrain w.manager.writes x) e wr)
          (λ h m. none h (grain-at w.cells.holds g holds_g (Member h) k (λ z. m) (λ z. absurd (z e)))) (cases_unit x u))
          (λ e. i.latest x k f wr (λ h m. none h (grain-at w.cells.holds g holds_g (Member h) k (λ z. absurd (e z)) (λ z. m))));
      good = i.good;
      sure = i.sure;
      sees = λ x r p m. grain-at w.cells.stack g stack_g (λ s. (r.source ≡ (top s).unit) ⊎ Dead w.manager.verdict w.units.reads r.source) r.grain
          (λ e. elim (i.sees x r p m) [
            | inl a ↦ (let t = i.keeps x r p m in
                inl (a ∙ ap (λ j. (top (w.cells.stack j)).unit) e ∙ same_top t.0 (dropped-stays u (w.cells.holds g) t.0 (subst (λ j. Member t.0 (w.cells.holds j)) e t.1) (λ q. stopped (ap w.units.phase (sym q ∙ t.2) ∙ p)))))
            | inr a ↦ inr a
          ])
          (λ e. i.sees x r p m);
      away = λ k h. (let t = i.away k h in
          let apart : k ≡ g → ⊥ = λ e. subst (Member own.0) (ap w.cells.holds (sym e) ∙ t.0) own.1 in
          (grain-other w.cells.holds g holds_g k apart ∙ t.0, (t.1.0, grain-other w.cells.stack g stack_g k apart ∙ t.1.1)));
    }
  where
    holds_g : List Hold
    holds_g = dropped (w.cells.holds g) u

    readings_g : List Reading
    readings_g = without_reading (w.cells.readings g) u

    stack_g : List Version
    stack_g = stacked (w.cells.readings g) (w.cells.stack g) u (state_written g (w.manager.writes u))

    own : (h : Hold) × Member h (w.cells.holds g) × (is_hold_of u h ≡ true)
    own = any-true (is_hold_of u) (w.cells.holds g) held

    old_reading : (k : GrainId) (s : Reading) → Member s (put_grain w.cells.readings g readings_g k) → Member s (w.cells.readings k)
    old_reading k s = grain-from w.cells.readings g readings_g (Member s) (Member s (w.cells.readings k)) k
        (λ e m. subst (λ j. Member s (w.cells.readings j)) (sym e) (without_reading-member (w.cells.readings g) u s m).0) (λ e m. m)

    -- a version is pushed where the unit wrote the grain and what it read is on top
    Pushes : Type 0
    Pushes = ((v : List Value) × (state_written g (w.manager.writes u) ≡ Some v) × (reads_top (w.cells.readings g) (w.cells.stack g) u ≡ true) × (stack_g ≡ pushed (w.cells.stack g) u v))

    Same : Type 0
    Same = (stack_g ≡ w.cells.stack g) × ((v : List Value) → state_written g (w.manager.writes u) ≡ Some v → reads_top (w.cells.readings g) (w.cells.stack g) u ≡ false)

    either : Pushes ⊎ Same
    either = go (state_written g (w.manager.writes u)) refl (cases_Bool (reads_top (w.cells.readings g) (w.cells.stack g) u))
      where
        go : (o : Option (List Value)) → state_written g (w.manager.writes u) ≡ o → (reads_top (w.cells.readings g) (w.cells.stack g) u ≡ true) ⊎ (reads_top (w.cells.readings g) (w.cells.stack g) u ≡ false) → Pushes ⊎ Same
        go None e t = inr (ap (stacked (w.cells.readings g) (w.cells.stack g) u) e, λ v q. (let z : Some v ≡ None = sym q ∙ e in cc))
        go (Some v) e (inl t) = inl (v, e, t, ap (stacked (w.cells.readings g) (w.cells.stack g) u) e ∙ cond-true _ (pushed (w.cells.stack g) u v) (w.cells.stack g) t)
        go (Some v) e (inr t) = inr (ap (stacked (w.cells.readings g) (w.cells.stack g) u) e ∙ cond-false _ (pushed (w.cells.stack g) u v) (w.cells.stack g) t, λ v' q. t)

    read_top : Pushes → (r : Read) × Member r (w.units.reads u) × (r.grain ≡ g) × (r.source ≡ (top (w.cells.stack g)).unit)
    read_top p =
        let t = reads_top-true (w.cells.readings g) (w.cells.stack g) u p.2 in
        let s = i.seen g t.0 t.1 in
        (s.0, subst (λ z. Member s.0 (w.units.reads z)) t.2 s.1, s.2, s.3 ∙ t.3)

    done : Pushes → w.units.phase u ≡ Finished
    done p = wrote-finished opening n w i u g p.0 p.1

    same_top : (h : Hold) → Member h (dropped (w.cells.holds g) u) → (top (w.cells.stack g)).unit ≡ (top stack_g).unit
    same_top h m = elim either [
      | inr s ↦ ap (λ z. (top z).unit) (sym s.0)
      | inl p ↦ (let t = dropped-member u (w.cells.holds g) h m in
          let k = i.strong u g own.0 (done p) (p.0, p.1) own.1 (same_unit-true _ _ own.2) in
          absurd (t.1 (i.alone g k.0 h k.1 t.0 k.3 ∙ k.2)))
    ]

    chain_g : Chain (IsBottom opening w.units.phase w.manager.writes w.manager.verdict g) (IsLink w.units.phase w.manager.writes w.units.reads g) stack_g
    chain_g = elim either [
      | inr s ↦ subst (Chain (IsBottom opening w.units.phase w.manager.writes w.manager.verdict g) (IsLink w.units.phase w.manager.writes w.units.reads g)) (sym s.0) (i.chain g)
      | inl p ↦ subst (Chain (IsBottom opening w.units.phase w.manager.writes w.manager.verdict g) (IsLink w.units.phase w.manager.writes w.units.reads g)) (sym p.3)
          (Chain-push (IsBottom opening w.units.phase w.manager.writes w.manager.verdict g) (IsLink w.units.phase w.manager.writes w.units.reads g) (record { unit = u; state = p.0 }) (w.cells.stack g) ((done p, p.1), read_top p) (i.chain g))
    ]

    above : Pushes → w.manager.place (top (w.cells.stack g)).unit ≤ w.manager.place u
    above p =
        let t = read_top p in
        let le : w.manager.place t.0.source ≤ w.manager.place u = elim (i.source u t.0 t.1) [
          | inl o ↦ (let z : w.manager.place t.0.source ≡ 0 = ap w.manager.place o.0 ∙ i.origin in omega arith)
          | inr o ↦ (let z : w.manager.place t.0.source < w.manager.place u = o.2 (done p) in omega arith)
        ] in
        subst (λ k. w.manager.place k ≤ w.manager.place u) t.3 le

    raise : (x : UnitNo) → w.manager.place x ≤ w.manager.place (top (w.cells.stack g)).unit → w.manager.place x ≤ w.manager.place (top stack_g).unit
    raise x le = elim either [
      | inr s ↦ subst (λ z. w.manager.place x ≤ w.manager.place (top z).unit) (sym s.0) le
      | inl p ↦ subst (λ z. w.manager.place x ≤ w.manager.place (top z).unit) (sym p.3) (omega (arith, above p, le))
    ]

    own_latest : (x : UnitNo) → x ≡ u → WroteGrain w.manager.writes x g → Dead w.manager.verdict w.units.reads x ⊎ (w.manager.place x ≤ w.manager.place (top stack_g).unit)
    own_latest x q wr = elim either [
      | inl p ↦ inr (subst (λ z. w.manager.place x ≤ w.manager.place (top z).unit) (sym p.3) (omega (arith, ap w.manager.place q)))
      | inr s ↦ (let t = i.told g own.0 own.1 in
          let k = i.seen g t.0 t.1 in
          let mine : t.0.unit ≡ u = t.2 ∙ same_unit-true _ _ own.2 in
          elim (i.view g t.0 t.1) [
            | inl a ↦ (let z : true ≡ false = sym (reads_top-has (w.cells.readings g) (w.cells.stack g) u t.0 t.1 mine a) ∙ s.1 wr.0 (ap (λ k. state_written g (w.manager.writes k)) (sym q) ∙ wr.1) in cc)
            | inr d ↦ inl (by_source k.0 (subst (λ z. Member k.0 (w.units.reads z)) (mine ∙ sym q) k.1) (subst (Dead w.manager.verdict w.units.reads) (sym k.3) d))
          ])
    ]

    latest_g : (x : UnitNo) → w.units.phase x ≡ Finished → WroteGrain w.manager.writes x g → ((h : Hold) → Member h (dropped (w.cells.holds g) u) → h.unit ≡ x → is_update h.mode ≡ true → ⊥) → (x ≡ u) ⊎ (x ≡ u → ⊥) →
        Dead w.manager.verdict w.units.reads x ⊎ (w.manager.place x ≤ w.manager.place (top stack_g).unit)
    latest_g x f wr none (inl q) = own_latest x q wr
    latest_g x f wr none (inr q) =
        elim (i.latest x g f wr (λ h m z up. none h (dropped-stays u (w.cells.holds g) h m (λ y. q (sym z ∙ y))) z up)) [
          | inl d ↦ inl d
          | inr le ↦ inr (raise x le)
        ]
