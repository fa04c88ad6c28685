-- A unit that begins keeps the invariant.
use Rattle.std.proofs.Common.{◌≡◌, ℕ, List, Bool, inl, inr, sym, ap, ◌∙◌, subst, le_refl}
use Rattle.core_model.specs.CoreState.{UnitNo, GrainId, put, Member, Value, Call, Origin, CoreState}
use Rattle.core_model.specs.declared.phases.Phase.TheVariants.{Unborn, Running, Finished}
use Rattle.core_model.specs.declared.effects.Read.{Read}
use Rattle.core_model.specs.Changes.{begun, new_unit}
use Rattle.core_model.specs.Chains.{IsBottom, IsLink}
use Rattle.core_laws.proofs.Puts.{put-at}
use Rattle.core_laws.proofs.StackChains.{Chain-more}
use Rattle.core_laws.proofs.Invariant.{Inv}
use Rattle.core_laws.proofs.Invariant.{loadless-of}
use Rattle.core_laws.proofs.LoadlessEvents.{loadless-begun}

pub kept-begun : (opening : GrainId → List Value) (n : ℕ) (w : CoreState) (origin : Origin) (call : Call) (plain : Bool) → Inv opening n w → Inv opening n (begun w origin call plain)
kept-begun opening n w origin call plain i =
    let p = loadless-begun n w origin call plain (loadless-of opening n w i) in
    record {
      fresh = p.fresh;
      unborn = p.unborn;
      outside = p.outside;
      blank = p.blank;
      unwritten = p.unwritten;
      undecided = p.undecided;
      listed = p.listed;
      placed = p.placed;
      within = p.within;
      early = p.early;
      late = p.late;
      alone = p.alone;
      keeps = p.keeps;
      strong = p.strong;
      told = p.told;
      seen = p.seen;
      kept = p.kept;
      origin = i.origin;
      view = i.view;
      source = λ u r m. elim (i.source u r m) [ inl a ↦ inl a | inr a ↦ inr (back _ a.0, a.1, λ f. a.2 (fin u f)) ];
      gap = λ u r x m o f. i.gap u r x m
          (elim o [ inl a ↦ inl (run u r m a) | inr a ↦ inr (fin u a.0, a.1) ]) (fin x f);
      chain = λ g. Chain-more (IsBottom opening w.units.phase w.manager.writes w.manager.verdict g) _ (IsLink w.units.phase w.manager.writes w.units.reads g) _
          (λ x b. elim b [ inl a ↦ inl a | inr a ↦ inr (a.0, (back _ a.1.0, a.1.1)) ])
          (λ x y l. ((back _ l.0.0, l.0.1), l.1)) (w.cells.stack g) (i.chain g);
      latest = λ u g f. i.latest u g (fin u f);
      good = i.good;
      sure = i.sure;
      sees = λ u r p m. i.sees u r (run u r m p) m;
      away = i.away;
    }
  where
    new : w.units.phase (new_unit w) ≡ Unborn
    new = i.unborn (new_unit w) (le_refl w.units.next)

    fin : (u : UnitNo) → put w.units.phase (new_unit w) Running u ≡ Finished → w.units.phase u ≡ Finished
    fin u = put-at w.units.phase (new_unit w) Running (λ p. p ≡ Finished → w.units.phase u ≡ Finished) u (λ e h. cc) (λ m h. h)

    back : (u : UnitNo) → w.units.phase u ≡ Finished → put w.units.phase (new_unit w) Running u ≡ Finished
    back u f = put-at w.units.phase (new_unit w) Running (λ p. p ≡ Finished) u (λ e. (let t : Unborn ≡ Finished = sym new ∙ ap w.units.phase (sym e) ∙ f in cc)) (λ m. f)

    none : (u : UnitNo) (r : Read) → u ≡ new_unit w → Member r (w.units.reads u) → ⊥
    none u r e m = subst (Member r) (i.blank u (ap w.units.phase e ∙ new)) m

    run : (u : UnitNo) (r : Read) → Member r (w.units.reads u) → put w.units.phase (new_unit w) Running u ≡ Running → w.units.phase u ≡ Running
    run u r m = put-at w.units.phase (new_unit w) Running (λ p. p ≡ Running → w.units.phase u ≡ Running) u (λ e h. absurd (none u r e m)) (λ k h. h)
