-- A unit that is over keeps the invariant.
use Rattle.std.proofs.Common.{◌≡◌, ℕ, List, true, false, ◌⊎◌, inl, inr, refl, sym, ap, ◌∙◌}
use Rattle.core_model.specs.CoreState.{UnitNo, GrainId, nobody, put, Member, Value, Settled, CoreState}
use Rattle.core_model.specs.declared.phases.Phase.{Phase}
use Rattle.core_model.specs.declared.phases.Phase.TheVariants.{Unborn, Running, Finished, Refused}
use Rattle.core_model.specs.declared.phases.Verdict.TheVariants.{Open, Committed, Aborted}
use Rattle.core_model.specs.Tests.{is_bad, is_good}
use Rattle.core_model.specs.DeadUnits.{Dead}
use Rattle.core_model.specs.Chains.{IsBottom, IsLink}
use Rattle.core_laws.proofs.Puts.{put-at, put-from, put-same, put-other}
use Rattle.core_laws.proofs.Basics.{Dead-more}
use Rattle.core_laws.proofs.StackChains.{Chain-more}
use Rattle.core_laws.proofs.Invariant.{Inv}
use Rattle.core_model.specs.Changes.{after_refusal}
use Rattle.core_laws.proofs.Invariant.{loadless-of}
use Rattle.core_laws.proofs.LoadlessEvents.{loadless-over}
use Rattle.core_laws.proofs.Invariant.{loadless-of}
use Rattle.core_laws.proofs.LoadlessEvents.{loadless-aborted}

-- a running unit that ends without an effect
pub kept-over : (opening : GrainId → List Value) (n : ℕ) (w : CoreState) (u : UnitNo) (end : Phase) → Inv opening n w → w.units.phase u ≡ Running →
    (end ≡ Unborn → ⊥) → (end ≡ Running → ⊥) → (end ≡ Finished → ⊥) → Inv opening n (record w { units = record w.units { phase = put w.units.phase u end } })
kept-over opening n w u end i running n0 n1 n2 =
    let p = loadless-over n w u end (loadless-of opening n w i) running n0 n1 n2 in
    record {
      fresh = p.fresh;
      unborn = p.unborn;
      outside = p.outside;
      blank = p.blank;
      unwritten = p.unwritten;
      undecided = p.undecided;
      listed = p.listed;
      placed = p.placed;
      within = p.within;
      early = p.early;
      late = p.late;
      alone = p.alone;
      keeps = p.keeps;
      strong = p.strong;
      told = p.told;
      seen = p.seen;
      kept = p.kept;
      origin = i.origin;
      view = i.view;
      source = λ x r m. elim (i.source x r m) [ inl a ↦ inl a | inr a ↦ inr (back _ a.0, a.1, λ f. a.2 (fin x f)) ];
      gap = λ x r y m o f. i.gap x r y m (elim o [ inl a ↦ inl (run x a) | inr a ↦ inr (fin x a.0, a.1) ]) (fin y f);
      chain = λ g. Chain-more (IsBottom opening w.units.phase w.manager.writes w.manager.verdict g) _ (IsLink w.units.phase w.manager.writes w.units.reads g) _
          (λ x b. elim b [ inl a ↦ inl a | inr a ↦ inr (a.0, (back _ a.1.0, a.1.1)) ])
          (λ x y l. ((back _ l.0.0, l.0.1), l.1)) (w.cells.stack g) (i.chain g);
      latest = λ x g f. i.latest x g (fin x f);
      good = i.good;
      sure = i.sure;
      sees = λ x r p m. i.sees x r (run x p) m;
      away = i.away;
    }
  where
    not_finished : (x : UnitNo) → x ≡ u → w.units.phase x ≡ Finished → ⊥
    not_finished x q e = (let t : Finished ≡ Running = sym e ∙ ap w.units.phase q ∙ running in cc)

    fin : (x : UnitNo) → put w.units.phase u end x ≡ Finished → w.units.phase x ≡ Finished
    fin x = put-at w.units.phase u end (λ p. p ≡ Finished → w.units.phase x ≡ Finished) x (λ e h. absurd (n2 h)) (λ m h. h)

    back : (x : UnitNo) → w.units.phase x ≡ Finished → put w.units.phase u end x ≡ Finished
    back x f = put-at w.units.phase u end (λ p. p ≡ Finished) x (λ e. absurd (not_finished x e f)) (λ m. f)

    run : (x : UnitNo) → put w.units.phase u end x ≡ Running → w.units.phase x ≡ Running
    run x = put-at w.units.phase u end (λ p. p ≡ Running → w.units.phase x ≡ Running) x (λ e h. absurd (n1 h)) (λ k h. h)

-- a unit that has no effect, and isn't decided, is aborted
pub kept-aborted : (opening : GrainId → List Value) (n : ℕ) (w : CoreState) (u : UnitNo) → Inv opening n w → w.units.phase u ≡ Refused → w.manager.verdict u ≡ Open →
    Inv opening n (record w { manager = record w.manager { verdict = put w.manager.verdict u Aborted } })
kept-aborted opening n w u i refused_u open_u =
    let p = loadless-aborted n w u (loadless-of opening n w i) refused_u open_u in
    record {
      fresh = p.fresh;
      unborn = p.unborn;
      outside = p.outside;
      blank = p.blank;
      unwritten = p.unwritten;
      undecided = p.undecided;
      listed = p.listed;
      placed = p.placed;
      within = p.within;
      early = p.early;
      late = p.late;
      alone = p.alone;
      keeps = p.keeps;
      strong = p.strong;
      told = p.told;
      seen = p.seen;
      kept = p.kept;
      origin = i.origin;
      view = λ g s m. elim (i.view g s m) [ inl a ↦ inl a | inr a ↦ inr (more _ a) ];
      source = i.source;
      gap = λ x r y m o f wr lt. more y (i.gap x r y m o f wr lt);
      chain = λ g. Chain-more (IsBottom opening w.units.phase w.manager.writes w.manager.verdict g) _ (IsLink w.units.phase w.manager.writes w.units.reads g) _
          (λ x b. elim b [ inl a ↦ inl a | inr a ↦ inr (put-other w.manager.verdict u Aborted x.unit (λ e. not_finished x.unit e a.1.0) ∙ a.0, a.1) ])
          (λ x y l. l) (w.cells.stack g) (i.chain g);
      latest = λ x g f wr none. elim (i.latest x g f wr none) [ inl d ↦ inl (more x d) | inr d ↦ inr d ];
      good = λ x r. put-from w.manager.verdict u Aborted (λ v. is_good v ≡ true) (Member r (w.units.reads x) → (r.source ≡ nobody) ⊎ (is_good (put w.manager.verdict u Aborted r.source) ≡ true)) x (λ e q. cc)
          (λ e q m. elim (i.good x r q m) [ inl a ↦ inl a | inr a ↦ inr (put-at w.manager.verdict u Aborted (λ v. is_good v ≡ true) r.source (λ k. absurd (not_good r.source k a)) (λ k. a)) ]);
      sure = λ x r. put-from w.manager.verdict u Aborted (λ v. v ≡ Committed) (Member r (w.units.reads x) → (r.source ≡ nobody) ⊎ (put w.manager.verdict u Aborted r.source ≡ Committed)) x (λ e q. cc)
          (λ e q m. elim (i.sure x r q m) [ inl a ↦ inl a | inr a ↦ inr (put-at w.manager.verdict u Aborted (λ v. v ≡ Committed) r.source (λ k. absurd (not_good r.source k (ap is_good a))) (λ k. a)) ]);
      sees = λ x r p m. elim (i.sees x r p m) [ inl a ↦ inl a | inr a ↦ inr (more _ a) ];
      away = i.away;
    }
  where
    not_finished : (x : UnitNo) → x ≡ u → w.units.phase x ≡ Finished → ⊥
    not_finished x q e = (let t : Finished ≡ Refused = sym e ∙ ap w.units.phase q ∙ refused_u in cc)

    not_good : (x : UnitNo) → x ≡ u → is_good (w.manager.verdict x) ≡ true → ⊥
    not_good x q e = (let t : true ≡ false = sym e ∙ ap is_good (ap w.manager.verdict q ∙ open_u) in cc)

    more : (x : UnitNo) → Dead w.manager.verdict w.units.reads x → Dead (put w.manager.verdict u Aborted) w.units.reads x
    more = Dead-more w.manager.verdict (put w.manager.verdict u Aborted) w.units.reads w.units.reads (λ k h. put-at w.manager.verdict u Aborted (λ v. is_bad v ≡ true) k (λ e. refl) (λ e. h)) (λ k r m. m)

pub kept-refused : (opening : GrainId → List Value) (n : ℕ) (w : CoreState) (u : UnitNo) (why : Settled) → Inv opening n w → w.units.phase u ≡ Running → Inv opening n (after_refusal w u why)
kept-refused opening n w u why i running =
    kept-aborted opening n (record w { units = record w.units { phase = put w.units.phase u Refused } }) u
    (kept-over opening n w u Refused i running (λ e. cc) (λ e. cc) (λ e. cc)) (put-same w.units.phase u Refused) (i.undecided u (inr running))
