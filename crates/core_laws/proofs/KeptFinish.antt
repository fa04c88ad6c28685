-- A unit that finishes keeps the invariant.
use Rattle.std.proofs.Common.{◌≡◌, ℕ, ◌+◌, ◌<◌, ◌≤◌, List, length, true, ◌⊎◌, inl, inr, refl, sym, ap, ◌∙◌, subst, arith, Some}
use Rattle.std.proofs.lemmas.Bool.{and_parts}
use Rattle.cell_model.specs.Locks.{is_update, is_hold_of}
use Rattle.cell_model.proofs.Units.{same_unit-true, cases_unit, any-true, all-true}
use Rattle.core_model.specs.CoreState.{UnitNo, GrainId, nobody, put, Member, Value, Write, Version, top, Hold, CoreState}
use Rattle.core_model.specs.declared.phases.Phase.TheVariants.{Unborn, Running, Finished}
use Rattle.core_model.specs.declared.effects.Read.{Read}
use Rattle.core_model.specs.declared.effects.Effect.{Effect}
use Rattle.core_model.specs.Tests.{any, all, state_written}
use Rattle.core_model.specs.Chains.{WroteGrain, IsVersion, IsBottom, IsLink}
use Rattle.core_laws.proofs.Puts.{put-at, put-from, put-other}
use Rattle.core_laws.proofs.Basics.{written-member}
use Rattle.core_laws.proofs.StackChains.{Chain-more, Chain-top}
use Rattle.core_laws.proofs.Invariant.{Inv}
use Rattle.core_model.specs.Changes.{finished}
use Rattle.core_model.specs.Events.{holds_alone}
use Rattle.core_laws.proofs.Invariant.{loadless-of}
use Rattle.core_laws.proofs.LoadlessEvents.{is_alone, loadless-finished}

pub kept-finished : (opening : GrainId → List Value) (n : ℕ) (w : CoreState) (u : UnitNo) (effect : Effect) → Inv opening n w →
    w.units.phase u ≡ Running → all (λ x. holds_alone w u x.0) effect.writes ≡ true → Inv opening n (finished w u effect)
kept-finished opening n w u effect i running holds =
    let p = loadless-finished n w u effect (loadless-of opening n w i) running holds in
    record {
      fresh = p.fresh;
      unborn = p.unborn;
      outside = p.outside;
      blank = p.blank;
      unwritten = p.unwritten;
      undecided = p.undecided;
      listed = p.listed;
      placed = p.placed;
      within = p.within;
      early = p.early;
      late = p.late;
      alone = p.alone;
      keeps = p.keeps;
      strong = p.strong;
      told = p.told;
      seen = p.seen;
      kept = p.kept;
      origin = put-other w.manager.place u last nobody (λ e. not_unborn nobody e i.outside) ∙ i.origin;
      view = i.view;
      source = λ x r m. elim (i.source x r m) [
        | inl a ↦ inl a
        | inr a ↦ inr (
          back _ a.0,
          ap (state_written r.grain) (put-other w.manager.writes u ws r.source (λ e. not_finished _ e a.0)) ∙ a.1,
          put-from w.units.phase u Finished (λ p. p ≡ Finished) _ x
              (λ e f. omega (arith, put-other w.manager.place u last r.source (λ q. not_finished _ q a.0), place_new x e, place_old r.source a.0))
              (λ e f. omega (arith, put-other w.manager.place u last r.source (λ q. not_finished _ q a.0), put-other w.manager.place u last x e, a.2 f)),
        )
      ];
      gap = λ x r y m o f wr lt. elim (cases_unit y u) [
        | inl e ↦ absurd (writer_last x r m (subst (λ k. (put w.units.phase u Finished x ≡ Running) ⊎ ((put w.units.phase u Finished x ≡ Finished) × (put w.manager.place u last k < put w.manager.place u last x))) e o) (wrote_new y r.grain e wr))
        | inr e ↦ (let fy = fin y e f in i.gap x r y m (reader x y o e fy) fy (old_wrote y r.grain e wr) (old_lower x r y m e fy lt))
      ];
      chain = λ g. Chain-more (IsBottom opening w.units.phase w.manager.writes w.manager.verdict g) _ (IsLink w.units.phase w.manager.writes w.units.reads g) _
          (λ x b. elim b [ inl a ↦ inl a | inr a ↦ inr (a.0, entry g x a.1) ])
          (λ x y l. (entry g x l.0, l.1)) (w.cells.stack g) (i.chain g);
      latest = λ x g f wr none. elim (cases_unit x u) [
        | inl e ↦ (let t = holder g (wrote_new x g e wr) in absurd (none t.0 t.1 (t.2 ∙ sym e) t.3))
        | inr e ↦ elim (i.latest x g (fin x e f) (old_wrote x g e wr) none) [
          | inl d ↦ inl d
          | inr le ↦ inr (omega (arith, put-other w.manager.place u last x e, put-other w.manager.place u last (top (w.cells.stack g)).unit (top_apart g), le))
        ]
      ];
      good = i.good;
      sure = i.sure;
      sees = λ x r p m. i.sees x r (run x p) m;
      away = i.away;
    }
  where
    ws : List Write
    ws = effect.writes

    last : ℕ
    last = length w.manager.order + 1

    not_unborn : (x : UnitNo) → x ≡ u → w.units.phase x ≡ Unborn → ⊥
    not_unborn x q e = (let t : Unborn ≡ Running = sym e ∙ ap w.units.phase q ∙ running in cc)

    not_finished : (x : UnitNo) → x ≡ u → w.units.phase x ≡ Finished → ⊥
    not_finished x q e = (let t : Finished ≡ Running = sym e ∙ ap w.units.phase q ∙ running in cc)

    back : (x : UnitNo) → w.units.phase x ≡ Finished → put w.units.phase u Finished x ≡ Finished
    back x f = put-at w.units.phase u Finished (λ p. p ≡ Finished) x (λ e. refl) (λ m. f)

    run : (x : UnitNo) → put w.units.phase u Finished x ≡ Running → w.units.phase x ≡ Running
    run x = put-at w.units.phase u Finished (λ p. p ≡ Running → w.units.phase x ≡ Running) x (λ e h. cc) (λ k h. h)

    holder : (g : GrainId) → (v : List Value) × (state_written g ws ≡ Some v) → (k : Hold) × Member k (w.cells.holds g) × (k.unit ≡ u) × (is_update k.mode ≡ true)
    holder g wr =
        let a = written-member g wr.0 ws wr.1 in
        let b = any-true (is_alone u) (w.cells.holds a.0.0) (all-true (λ (x : Write). any (is_alone u) (w.cells.holds x.0)) ws holds a.0 a.1) in
        let c = and_parts (is_hold_of u b.0) (is_update b.0.mode) b.2 in
        (b.0, subst (λ k. Member b.0 (w.cells.holds k)) a.2 b.1, same_unit-true _ _ c.0, c.1)

    old_wrote : (x : UnitNo) (g : GrainId) → (x ≡ u → ⊥) → WroteGrain (put w.manager.writes u ws) x g → WroteGrain w.manager.writes x g
    old_wrote x g e wr = (wr.0, ap (state_written g) (sym (put-other w.manager.writes u ws x e)) ∙ wr.1)

    entry : (g : GrainId) (x : Version) → IsVersion w.units.phase w.manager.writes g x → IsVersion (put w.units.phase u Finished) (put w.manager.writes u ws) g x
    entry g x a = (back _ a.0, ap (state_written g) (put-other w.manager.writes u ws x.unit (λ e. not_finished _ e a.0)) ∙ a.1)

    place_new : (x : UnitNo) → x ≡ u → put w.manager.place u last x ≡ length w.manager.order + 1
    place_new x e = put-at w.manager.place u last (λ z. z ≡ length w.manager.order + 1) x (λ q. refl) (λ q. absurd (q e))

    place_old : (x : UnitNo) → w.units.phase x ≡ Finished → w.manager.place x ≤ length w.manager.order
    place_old x f = (let t = i.placed x f in omega (arith, t.1, t.2))

    wrote_new : (x : UnitNo) (g : GrainId) → x ≡ u → WroteGrain (put w.manager.writes u ws) x g → (v : List Value) × (state_written g ws ≡ Some v)
    wrote_new x g e = put-from w.manager.writes u ws (λ t. (v : List Value) × (state_written g t ≡ Some v)) _ x (λ k z. z) (λ k z. absurd (k e))

    fin : (x : UnitNo) → (x ≡ u → ⊥) → put w.units.phase u Finished x ≡ Finished → w.units.phase x ≡ Finished
    fin x e = put-at w.units.phase u Finished (λ p. p ≡ Finished → w.units.phase x ≡ Finished) x (λ q. absurd (e q)) (λ q h. h)

    top_apart : (g : GrainId) → (top (w.cells.stack g)).unit ≡ u → ⊥
    top_apart g e =
        elim (Chain-top (IsBottom opening w.units.phase w.manager.writes w.manager.verdict g) (IsLink w.units.phase w.manager.writes w.units.reads g) (w.cells.stack g) (i.chain g)) [
          | inl b ↦ elim b [ inl o ↦ not_unborn nobody (sym o.0 ∙ e) i.outside | inr o ↦ not_finished _ e o.1.0 ]
          | inr l ↦ not_finished _ e l.1.0.0
        ]

    old_lower : (x : UnitNo) (r : Read) (y : UnitNo) → Member r (w.units.reads x) → (y ≡ u → ⊥) → w.units.phase y ≡ Finished → put w.manager.place u last r.source < put w.manager.place u last y → w.manager.place r.source < w.manager.place y
    old_lower x r y m e f lt =
        let apart : r.source ≡ u → ⊥ = λ q. elim (i.source x r m) [ inl o ↦ not_unborn nobody (sym o.0 ∙ q) i.outside | inr o ↦ not_finished _ q o.0 ] in
        omega (arith, put-other w.manager.place u last r.source apart, put-other w.manager.place u last y e, lt)

    reader : (x y : UnitNo) → (put w.units.phase u Finished x ≡ Running) ⊎ ((put w.units.phase u Finished x ≡ Finished) × (put w.manager.place u last y < put w.manager.place u last x)) → (y ≡ u → ⊥) → w.units.phase y ≡ Finished →
        (w.units.phase x ≡ Running) ⊎ ((w.units.phase x ≡ Finished) × (w.manager.place y < w.manager.place x))
    reader x y (inl a) e f = inl (run x a)
    reader x y (inr a) e f = elim (cases_unit x u) [
      | inl q ↦ inl (ap w.units.phase q ∙ running)
      | inr q ↦ inr (fin x q a.0, omega (arith, put-other w.manager.place u last x q, put-other w.manager.place u last y e, a.1))
    ]

    writer_last : (x : UnitNo) (r : Read) → Member r (w.units.reads x) → (put w.units.phase u Finished x ≡ Running) ⊎ ((put w.units.phase u Finished x ≡ Finished) × (put w.manager.place u last u < put w.manager.place u last x)) → (v : List Value) × (state_written r.grain ws ≡ Some v) → ⊥
    writer_last x r m (inl a) wr =
        let h = i.keeps x r (run x a) m in
        let k = holder r.grain wr in
        let same : x ≡ u = sym h.2 ∙ i.alone r.grain k.0 h.0 k.1 h.1 k.3 ∙ k.2 in
        (let t : Finished ≡ Running = sym (put-at w.units.phase u Finished (λ p. p ≡ Finished) x (λ q. refl) (λ q. absurd (q same))) ∙ a in cc)
    writer_last x r m (inr a) wr = elim (cases_unit x u) [
      | inl q ↦ omega (arith, place_new x q, place_new u refl, a.1)
      | inr q ↦ omega (arith, place_old x (fin x q a.0), put-other w.manager.place u last x q, place_new u refl, a.1)
    ]
