-- A stack whose top falls keeps the invariant.
use Rattle.std.proofs.Common.{◌≡◌, ℕ, ◌≤◌, List, [], ◌∷◌, Bool, true, false, ◌⊎◌, inl, inr, sym, ap, ◌∙◌, subst}
use Rattle.cell_model.proofs.Units.{same_unit-true}
use Rattle.core_model.specs.CoreState.{UnitNo, GrainId, nobody, Value, Version, top, cut, CoreState}
use Rattle.core_model.specs.declared.phases.Phase.TheVariants.{Finished}
use Rattle.core_model.specs.declared.phases.Verdict.TheVariants.{Open, Committed, Aborted}
use Rattle.core_model.specs.Tests.{is_bad, is_aborted, is_committed, is_final}
use Rattle.core_model.specs.DeadUnits.{Dead, itself, by_source}
use Rattle.core_model.specs.Chains.{Chain, WroteGrain, IsBottom, IsLink}
use Rattle.core_laws.proofs.Puts.{grain-at}
use Rattle.core_laws.proofs.Basics.{is_aborted-true, is_final-cases}
use Rattle.core_laws.proofs.StackChains.{cut-top, cut-Chain, committed-Chain, cut-single, committed-single}
use Rattle.core_laws.proofs.Invariant.{Inv, down-latest}
use Rattle.core_model.specs.Changes.{restacked, cleaned}
use Rattle.cell_model.specs.Stacks.{is_of, committed_stack}
use Rattle.cell_model.specs.Cells.{learnt}
use Rattle.cell_model.proofs.Stacks.{committed-top}

-- A fact about the top that passes down from a dead version to the one under it, passes to the new top.
abbrev pub Lowers : CoreState → GrainId → List Version → Type 0
Lowers w g xs = (u : UnitNo) →
    ((w.units.phase u ≡ Finished → WroteGrain w.manager.writes u g → Dead w.manager.verdict w.units.reads u ⊎ (w.manager.place u ≤ w.manager.place (top (w.cells.stack g)).unit) → Dead w.manager.verdict w.units.reads u ⊎ (w.manager.place u ≤ w.manager.place (top xs).unit))
    × ((u ≡ (top (w.cells.stack g)).unit) ⊎ Dead w.manager.verdict w.units.reads u → (u ≡ (top xs).unit) ⊎ Dead w.manager.verdict w.units.reads u))

pub kept-restacked : (opening : GrainId → List Value) (n : ℕ) (w : CoreState) (g : GrainId) (xs : List Version) → Inv opening n w →
    (w.cells.here g ≡ false → (x : Version) × (xs ≡ x ∷ [])) →
    Chain (IsBottom opening w.units.phase w.manager.writes w.manager.verdict g) (IsLink w.units.phase w.manager.writes w.units.reads g) xs → Lowers w g xs → Inv opening n (restacked w g xs)
kept-restacked opening n w g xs i gone c lowers =
    record {
      fresh = i.fresh;
      unborn = i.unborn;
      outside = i.outside;
      origin = i.origin;
      blank = i.blank;
      unwritten = i.unwritten;
      undecided = i.undecided;
      listed = i.listed;
      placed = i.placed;
      within = i.within;
      early = i.early;
      late = i.late;
      alone = i.alone;
      keeps = i.keeps;
      strong = i.strong;
      told = i.told;
      seen = i.seen;
      kept = i.kept;
      view = λ k h m. grain-at w.cells.stack g xs (λ s. (h.source ≡ (top s).unit) ⊎ Dead w.manager.verdict w.units.reads h.source) k
          (λ e. (lowers h.source).1 (subst (λ j. (h.source ≡ (top (w.cells.stack j)).unit) ⊎ Dead w.manager.verdict w.units.reads h.source) e (i.view k h m)))
          (λ e. i.view k h m);
      source = i.source;
      gap = i.gap;
      chain = λ k. grain-at w.cells.stack g xs (λ s. Chain (IsBottom opening w.units.phase w.manager.writes w.manager.verdict k) (IsLink w.units.phase w.manager.writes w.units.reads k) s) k
          (λ e. subst (λ j. Chain (IsBottom opening w.units.phase w.manager.writes w.manager.verdict j) (IsLink w.units.phase w.manager.writes w.units.reads j) xs) (sym e) c)
          (λ e. i.chain k);
      latest = λ u k f wr no. grain-at w.cells.stack g xs (λ s. Dead w.manager.verdict w.units.reads u ⊎ (w.manager.place u ≤ w.manager.place (top s).unit)) k
          (λ e. (lowers u).0 f (subst (λ j. WroteGrain w.manager.writes u j) e wr) (subst (λ j. Dead w.manager.verdict w.units.reads u ⊎ (w.manager.place u ≤ w.manager.place (top (w.cells.stack j)).unit)) e (i.latest u k f wr no)))
          (λ e. i.latest u k f wr no);
      good = i.good;
      sure = i.sure;
      sees = λ u r p m. grain-at w.cells.stack g xs (λ s. (r.source ≡ (top s).unit) ⊎ Dead w.manager.verdict w.units.reads r.source) r.grain (λ e. (lowers r.source).1 (subst (λ j. (r.source ≡ (top (w.cells.stack j)).unit) ⊎ Dead w.manager.verdict w.units.reads r.source) e (i.sees u r p m))) (λ e. i.sees u r p m);
      away = λ k h. grain-at w.cells.stack g xs (λ s. (w.cells.holds k ≡ []) × ((x : Version) × (s ≡ x ∷ []))) k (λ e. ((i.away k h).0, gone (ap w.cells.here (sym e) ∙ h))) (λ e. i.away k h);
    }

-- versions of aborted units are cut off
pub kept-cut : (opening : GrainId → List Value) (n : ℕ) (w : CoreState) (g : GrainId) (p : Version → Bool) → Inv opening n w →
    ((x : Version) → p x ≡ true → w.manager.verdict x.unit ≡ Aborted) → Inv opening n (restacked w g (cut p (w.cells.stack g)))
kept-cut opening n w g p i only =
    kept-restacked opening n w g (cut p (w.cells.stack g)) i single
    (cut-Chain (IsBottom opening w.units.phase w.manager.writes w.manager.verdict g) (IsLink w.units.phase w.manager.writes w.units.reads g) p not_bottom (w.cells.stack g) (i.chain g))
    (λ u. (
      (λ f wr. cut-top B L p D (λ x. Dead w.manager.verdict w.units.reads u ⊎ (w.manager.place u ≤ w.manager.place x.unit)) not_bottom here up
          (λ x y l d h. down-latest opening n w i u g f wr x y l d h) (w.cells.stack g) (i.chain g)),
      cut-top B L p D (λ x. (u ≡ x.unit) ⊎ Dead w.manager.verdict w.units.reads u) not_bottom here up
          (λ x y l d h. inr (elim h [ inl e ↦ subst (Dead w.manager.verdict w.units.reads) (sym e) d | inr q ↦ q ])) (w.cells.stack g) (i.chain g),
    ))
  where
    B : Version → Type 0
    B = IsBottom opening w.units.phase w.manager.writes w.manager.verdict g

    L : Version → Version → Type 0
    L = IsLink w.units.phase w.manager.writes w.units.reads g

    D : Version → Type 0
    D x = Dead w.manager.verdict w.units.reads x.unit

    not_bottom : (x : Version) → IsBottom opening w.units.phase w.manager.writes w.manager.verdict g x → p x ≡ true → ⊥
    not_bottom x (inl b) e = (let t : Open ≡ Aborted = sym (ap w.manager.verdict b.0 ∙ i.undecided nobody (inl i.outside)) ∙ only x e in cc)
    not_bottom x (inr b) e = (let t : Committed ≡ Aborted = sym b.0 ∙ only x e in cc)

    single : w.cells.here g ≡ false → (x : Version) × (cut p (w.cells.stack g) ≡ x ∷ [])
    single h =
        let t = (i.away g h).1 in
        let b = subst (λ z. Chain B L z) t.1 (i.chain g) in
        (t.0, ap (cut p) t.1 ∙ cut-single p t.0 (not_bottom t.0 b))

    here : (x : Version) → p x ≡ true → Dead w.manager.verdict w.units.reads x.unit
    here x e = itself (ap is_bad (only x e))

    up : (x y : Version) → IsLink w.units.phase w.manager.writes w.units.reads g x y → Dead w.manager.verdict w.units.reads y.unit → Dead w.manager.verdict w.units.reads x.unit
    up x y l d = by_source l.1.0 l.1.1 (subst (Dead w.manager.verdict w.units.reads) (sym l.1.3) d)

pub kept-cleaned : (opening : GrainId → List Value) (n : ℕ) (w : CoreState) (g : GrainId) → Inv opening n w → Inv opening n (restacked w g (cleaned w g))
kept-cleaned opening n w g i = kept-cut opening n w g (λ x. is_aborted (w.manager.verdict x.unit)) i (λ x e. is_aborted-true _ e)

-- a decided unit's verdict is learnt
pub kept-learnt : (opening : GrainId → List Value) (n : ℕ) (w : CoreState) (u : UnitNo) (g : GrainId) → Inv opening n w → is_final (w.manager.verdict u) ≡ true →
    Inv opening n (restacked w g (learnt (is_committed (w.manager.verdict u)) u (w.cells.stack g)))
kept-learnt opening n w u g i final = elim (is_final-cases (w.manager.verdict u) final) [
  | inl c ↦ subst (λ b. Inv opening n (restacked w g (learnt b u (w.cells.stack g)))) (sym (ap is_committed c)) (commits c)
  | inr c ↦ subst (λ b. Inv opening n (restacked w g (learnt b u (w.cells.stack g)))) (sym (ap is_committed c))
      (kept-cut opening n w g (is_of u) i (λ x q. ap w.manager.verdict (same_unit-true _ _ q) ∙ c))
]
  where
    commits : w.manager.verdict u ≡ Committed → Inv opening n (restacked w g (committed_stack u (w.cells.stack g)))
    commits e =
        kept-restacked opening n w g (committed_stack u (w.cells.stack g)) i
        (λ h. (let t = (i.away g h).1 in (t.0, ap (committed_stack u) t.1 ∙ committed-single u t.0)))
        (committed-Chain (IsBottom opening w.units.phase w.manager.writes w.manager.verdict g) (IsLink w.units.phase w.manager.writes w.units.reads g) u (λ x y q l. inr (ap w.manager.verdict q ∙ e, l.0)) (w.cells.stack g) (i.chain g))
        (λ k. subst (λ t. ((w.units.phase k ≡ Finished → WroteGrain w.manager.writes k g → Dead w.manager.verdict w.units.reads k ⊎ (w.manager.place k ≤ w.manager.place (top (w.cells.stack g)).unit) → Dead w.manager.verdict w.units.reads k ⊎ (w.manager.place k ≤ w.manager.place t.unit))
        × ((k ≡ (top (w.cells.stack g)).unit) ⊎ Dead w.manager.verdict w.units.reads k → (k ≡ t.unit) ⊎ Dead w.manager.verdict w.units.reads k))) (sym (committed-top u (w.cells.stack g))) ((λ f wr h. h), (λ h. h)))
