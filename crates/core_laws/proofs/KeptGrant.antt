-- A grant keeps the invariant.
use Rattle.std.proofs.Common.{◌≡◌, ℕ, ◌<◌, List, [], ◌∷◌, ◌++◌, true, false, ◌⊎◌, inl, inr, refl, sym, ap, ◌∙◌, subst, arith, Some}
use Rattle.cell_model.specs.Locks.{is_hold_of, holds_lock, conflicts}
use Rattle.cell_model.proofs.Units.{same_unit-true, same_unit-false, any-true, any-false, Member-append, Member-left}
use Rattle.core_model.specs.CoreState.{UnitNo, GrainId, nobody, put, put_grain, Member, Value, top, Hold, Mode, Reading, CoreState}
use Rattle.core_model.specs.declared.phases.Phase.TheVariants.{Running, Finished}
use Rattle.core_model.specs.declared.effects.Read.{Read}
use Rattle.core_model.specs.Tests.{is_good, state_written}
use Rattle.core_model.specs.DeadUnits.{Dead}
use Rattle.core_model.specs.Chains.{WroteGrain, IsBottom, IsLink}
use Rattle.core_laws.proofs.Puts.{put-at, put-from, grain-at, grain-from, grain-other}
use Rattle.core_laws.proofs.Basics.{Dead-more}
use Rattle.core_laws.proofs.StackChains.{Chain-more, Chain-top}
use Rattle.core_laws.proofs.Invariant.{Inv}
use Rattle.cell_model.specs.Locks.{granted}
use Rattle.cell_model.specs.Cells.{with_reading}
use Rattle.cell_model.proofs.LockAnswers.{no_conflict, granted-stays}
use Rattle.core_model.specs.Changes.{after_lock, after_raise, read_of}
use Rattle.core_laws.proofs.Readings.{with_reading-member, with_reading-same}
use Rattle.core_laws.proofs.Invariant.{loadless-of}
use Rattle.core_laws.proofs.LoadlessEvents.{loadless-locked}
use Rattle.core_laws.proofs.Invariant.{loadless-of}
use Rattle.core_laws.proofs.LoadlessEvents.{loadless-raised}

-- where a read came from
abbrev Src : (GrainId → List Value) → CoreState → UnitNo → Read → Type 0
Src opening w x r = ((r.source ≡ nobody) × (r.state ≡ opening r.grain))
    ⊎ ((w.units.phase r.source ≡ Finished) × (state_written r.grain (w.manager.writes r.source) ≡ Some r.state) × (w.units.phase x ≡ Finished → w.manager.place r.source < w.manager.place x))

pub kept-locked : (opening : GrainId → List Value) (n : ℕ) (w : CoreState) (u : UnitNo) (g : GrainId) (mode : Mode) → Inv opening n w →
    w.units.phase u ≡ Running → ((h : Hold) → Member h (w.cells.holds g) → conflicts u mode h ≡ false) → holds_lock u (w.cells.holds g) ≡ false → w.cells.here g ≡ true → Inv opening n (after_lock w u g mode)
kept-locked opening n w u g mode i running free first here_g =
    let p = loadless-locked n w u g mode (loadless-of opening n w i) running free first here_g in
    record {
      fresh = p.fresh;
      unborn = p.unborn;
      outside = p.outside;
      blank = p.blank;
      unwritten = p.unwritten;
      undecided = p.undecided;
      listed = p.listed;
      placed = p.placed;
      within = p.within;
      early = p.early;
      late = p.late;
      alone = p.alone;
      keeps = p.keeps;
      strong = p.strong;
      told = p.told;
      seen = p.seen;
      kept = p.kept;
      origin = i.origin;
      view = λ k s. grain-from w.cells.readings g readings_g (Member s) ((s.source ≡ (top (w.cells.stack k)).unit) ⊎ Dead w.manager.verdict (put w.units.reads u reads_u) s.source) k
          (λ e m. elim (with_reading-member (w.cells.readings g) u (top (w.cells.stack g)).unit s m) [
            | inl a ↦ more_view s.source k (i.view k s (subst (λ j. Member s (w.cells.readings j)) (sym e) a))
            | inr q ↦ inl (ap (λ (z : Reading). z.source) q ∙ ap (λ j. (top (w.cells.stack j)).unit) (sym e))
          ])
          (λ e m. more_view s.source k (i.view k s m));
      source = λ x r. put-from w.units.reads u reads_u (Member r) _ x
          (λ e m. elim (Member-append r (w.units.reads u) (new ∷ []) m) [
            | inl o ↦ i.source x r (subst (λ z. Member r (w.units.reads z)) (sym e) o)
            | inr o ↦ elim o [ inl q ↦ subst (λ z. Src opening w x z) (sym q) (new_source x e) | inr q ↦ absurd q ]
          ])
          (λ e m. i.source x r m);
      gap = λ x r y m o f wr lt. more y (put-from w.units.reads u reads_u (Member r) (Dead w.manager.verdict w.units.reads y) x
          (λ e m'. elim (Member-append r (w.units.reads u) (new ∷ []) m') [
            | inl a ↦ i.gap x r y (subst (λ z. Member r (w.units.reads z)) (sym e) a) o f wr lt
            | inr a ↦ elim a [
              | inl q ↦ new_gap y f (subst (λ k. WroteGrain w.manager.writes y k) (ap (λ (z : Read). z.grain) q) wr) (subst (λ k. w.manager.place k < w.manager.place y) (ap (λ (z : Read). z.source) q) lt)
              | inr q ↦ absurd q
            ]
          ])
          (λ e m'. i.gap x r y m' o f wr lt) m);
      chain = λ k. Chain-more (IsBottom opening w.units.phase w.manager.writes w.manager.verdict k) _ (IsLink w.units.phase w.manager.writes w.units.reads k) _
          (λ x b. b)
          (λ x y l. (l.0, (l.1.0, more_reads x.unit l.1.0 l.1.1, l.1.2, l.1.3))) (w.cells.stack k) (i.chain k);
      latest = λ x k f wr no. elim (i.latest x k f wr (λ h m. no h (more_hold k h m))) [ inl d ↦ inl (more x d) | inr d ↦ inr d ];
      good = λ x r q. put-from w.units.reads u reads_u (Member r) _ x (λ e m. absurd (undecided_u x e q)) (λ e m. i.good x r q m);
      sure = λ x r q. put-from w.units.reads u reads_u (Member r) _ x (λ e m. absurd (undecided_u x e (ap is_good q))) (λ e m. i.sure x r q m);
      sees = λ x r p. put-from w.units.reads u reads_u (Member r) _ x
          (λ e m. elim (Member-append r (w.units.reads u) (new ∷ []) m) [
            | inl o ↦ more_sees r (i.sees x r p (subst (λ z. Member r (w.units.reads z)) (sym e) o))
            | inr o ↦ elim o [ inl q ↦ inl (ap (λ (z : Read). z.source) q ∙ ap (λ (z : Read). (top (w.cells.stack z.grain)).unit) (sym q)) | inr q ↦ absurd q ]
          ])
          (λ e m. more_sees r (i.sees x r p m));
      away = λ k h. (let t = i.away k h in (grain-other w.cells.holds g holds_g k (λ e. (let z : true ≡ false = sym here_g ∙ ap w.cells.here (sym e) ∙ h in cc)) ∙ t.0, t.1));
    }
  where
    new : Read
    new = read_of g (top (w.cells.stack g))

    reads_u : List Read
    reads_u = w.units.reads u ++ new ∷ []

    holds_g : List Hold
    holds_g = granted (w.cells.holds g) u mode

    readings_g : List Reading
    readings_g = with_reading (w.cells.readings g) u (top (w.cells.stack g)).unit

    old_stays : (h : Hold) → Member h (w.cells.holds g) → Member h holds_g
    old_stays h m = granted-stays (w.cells.holds g) u mode h m (same_unit-false h.unit u (any-false (is_hold_of u) (w.cells.holds g) first h m))

    more_reads : (x : UnitNo) (r : Read) → Member r (w.units.reads x) → Member r (put w.units.reads u reads_u x)
    more_reads x r m = put-at w.units.reads u reads_u (Member r) x (λ e. Member-left r (w.units.reads u) (new ∷ []) (subst (λ z. Member r (w.units.reads z)) e m)) (λ e. m)

    more : (x : UnitNo) → Dead w.manager.verdict w.units.reads x → Dead w.manager.verdict (put w.units.reads u reads_u) x
    more x d = Dead-more w.manager.verdict w.manager.verdict w.units.reads (put w.units.reads u reads_u) (λ k h. h) more_reads x d

    more_sees : (r : Read) → (r.source ≡ (top (w.cells.stack r.grain)).unit) ⊎ Dead w.manager.verdict w.units.reads r.source → (r.source ≡ (top (w.cells.stack r.grain)).unit) ⊎ Dead w.manager.verdict (put w.units.reads u reads_u) r.source
    more_sees r (inl a) = inl a
    more_sees r (inr a) = inr (more _ a)

    more_hold : (k : GrainId) (h : Hold) → Member h (w.cells.holds k) → Member h (put_grain w.cells.holds g holds_g k)
    more_hold k h m = grain-at w.cells.holds g holds_g (Member h) k (λ e. old_stays h (subst (λ j. Member h (w.cells.holds j)) e m)) (λ e. m)

    more_view : (source : UnitNo) (k : GrainId) → (source ≡ (top (w.cells.stack k)).unit) ⊎ Dead w.manager.verdict w.units.reads source → (source ≡ (top (w.cells.stack k)).unit) ⊎ Dead w.manager.verdict (put w.units.reads u reads_u) source
    more_view source k (inl a) = inl a
    more_view source k (inr a) = inr (more _ a)

    not_finished : (x : UnitNo) → x ≡ u → w.units.phase x ≡ Finished → ⊥
    not_finished x e f = (let t : Running ≡ Finished = sym running ∙ ap w.units.phase (sym e) ∙ f in cc)

    new_source : (x : UnitNo) → x ≡ u → Src opening w x new
    new_source x e =
        elim (Chain-top (IsBottom opening w.units.phase w.manager.writes w.manager.verdict g) (IsLink w.units.phase w.manager.writes w.units.reads g) (w.cells.stack g) (i.chain g)) [
          | inl b ↦ elim b [ inl o ↦ inl o | inr o ↦ inr (o.1.0, o.1.1, λ f. absurd (not_finished x e f)) ]
          | inr l ↦ inr (l.1.0.0, l.1.0.1, λ f. absurd (not_finished x e f))
        ]

    new_gap : (y : UnitNo) → w.units.phase y ≡ Finished → WroteGrain w.manager.writes y g → w.manager.place (top (w.cells.stack g)).unit < w.manager.place y → Dead w.manager.verdict w.units.reads y
    new_gap y f wr lt =
        elim (i.latest y g f wr (λ h m q up. not_finished y (sym q ∙ no_conflict u mode h (free h m) (inr up)) f)) [
          | inl d ↦ d
          | inr le ↦ absurd (omega arith)
        ]

    undecided_u : (x : UnitNo) → x ≡ u → is_good (w.manager.verdict x) ≡ true → ⊥
    undecided_u x e q = (let t : false ≡ true = sym (ap is_good (ap w.manager.verdict e ∙ i.undecided u (inr running))) ∙ q in cc)

-- the unit's own lock becomes one for an update
pub kept-raised : (opening : GrainId → List Value) (n : ℕ) (w : CoreState) (u : UnitNo) (g : GrainId) (mode : Mode) → Inv opening n w →
    w.units.phase u ≡ Running → ((h : Hold) → Member h (w.cells.holds g) → conflicts u mode h ≡ false) → holds_lock u (w.cells.holds g) ≡ true → w.cells.here g ≡ true → Inv opening n (after_raise w u g mode)
kept-raised opening n w u g mode i running free held here_g =
    let p = loadless-raised n w u g mode (loadless-of opening n w i) running free held here_g in
    record {
      fresh = p.fresh;
      unborn = p.unborn;
      outside = p.outside;
      blank = p.blank;
      unwritten = p.unwritten;
      undecided = p.undecided;
      listed = p.listed;
      placed = p.placed;
      within = p.within;
      early = p.early;
      late = p.late;
      alone = p.alone;
      keeps = p.keeps;
      strong = p.strong;
      told = p.told;
      seen = p.seen;
      kept = p.kept;
      origin = i.origin;
      view = λ k s m. i.view k s (subst (Member s) (same_readings k) m);
      source = i.source;
      gap = i.gap;
      chain = i.chain;
      latest = λ x k f wr no. i.latest x k f wr (λ h m q up. no h (stays k h m (λ e. not_finished x (sym q ∙ e) f)) q up);
      sees = i.sees;
      away = λ k h. (let t = i.away k h in (grain-other w.cells.holds g holders_g k (λ e. (let z : true ≡ false = sym here_g ∙ ap w.cells.here (sym e) ∙ h in cc)) ∙ t.0, t.1));
      good = i.good;
      sure = i.sure;
    }
  where
    holders_g : List Hold
    holders_g = granted (w.cells.holds g) u mode

    own_hold : (h : Hold) × Member h (w.cells.holds g) × (is_hold_of u h ≡ true)
    own_hold = any-true (is_hold_of u) (w.cells.holds g) held

    same_readings : (k : GrainId) → put_grain w.cells.readings g (with_reading (w.cells.readings g) u (top (w.cells.stack g)).unit) k ≡ w.cells.readings k
    same_readings k = grain-at w.cells.readings g _ (λ rs. rs ≡ w.cells.readings k) k
        (λ e. (let t = i.told g own_hold.0 own_hold.1 in
        with_reading-same (w.cells.readings g) u (top (w.cells.stack g)).unit t.0 t.1 (t.2 ∙ same_unit-true _ _ own_hold.2) ∙ ap w.cells.readings (sym e)))
        (λ e. refl)

    not_finished : (x : UnitNo) → x ≡ u → w.units.phase x ≡ Finished → ⊥
    not_finished x e f = (let t : Running ≡ Finished = sym running ∙ ap w.units.phase (sym e) ∙ f in cc)

    stays : (k : GrainId) (h : Hold) → Member h (w.cells.holds k) → (h.unit ≡ u → ⊥) → Member h (put_grain w.cells.holds g holders_g k)
    stays k h m apart = grain-at w.cells.holds g holders_g (Member h) k (λ e. granted-stays (w.cells.holds g) u mode h (subst (λ j. Member h (w.cells.holds j)) e m) apart) (λ e. m)
