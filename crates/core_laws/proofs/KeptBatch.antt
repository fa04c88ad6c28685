-- Decisions and the end of a batch keep the invariant.
use Rattle.std.proofs.Common.{◌≡◌, ℕ, suc, ◌+◌, ◌<◌, List, [], ◌∷◌, length, get_or, Bool, true, false, ◌&&◌, ◌||◌, not, ◌⊎◌, inl, inr, refl, sym, ap, ◌∙◌, subst, arith, Option}
use Rattle.std.proofs.lemmas.Bool.{cases_Bool}
use Rattle.cell_model.specs.Locks.{covers}
use Rattle.cell_model.proofs.Units.{same_unit-true, same_unit-false, cases_unit}
use Rattle.core_model.specs.CoreState.{UnitNo, GrainId, nobody, same_unit, put, Member, Value, Decision, CoreState}
use Rattle.core_model.specs.declared.phases.Phase.TheVariants.{Finished}
use Rattle.core_model.specs.declared.phases.Verdict.{Verdict}
use Rattle.core_model.specs.declared.phases.Verdict.TheVariants.{Open, Chosen, Condemned, Committed, Aborted}
use Rattle.core_model.specs.declared.effects.Read.{Read}
use Rattle.core_model.specs.Tests.{is_bad, is_good}
use Rattle.core_model.specs.DeadUnits.{Dead}
use Rattle.core_model.specs.Chains.{IsBottom, IsLink}
use Rattle.core_laws.proofs.Puts.{put-at, put-from, put-is, put-other}
use Rattle.core_laws.proofs.Basics.{Dead-more, good_from}
use Rattle.core_laws.proofs.StackChains.{Chain-more}
use Rattle.core_laws.proofs.Invariant.{Inv}
use Rattle.std.proofs.Common.{map}
use Rattle.cell_model.specs.declared.outcomes.Decision.TheVariants as decision
use Rattle.cell_model.specs.Decisions.{is_commit, decision, all_decided, and_itself}
use Rattle.cell_model.proofs.Decisions.{commits-exactly}
use Rattle.core_model.specs.CoreState.{Prepared}
use Rattle.core_model.specs.Changes.{verdict_of, judged, seal, spoil, leave}
use Rattle.core_laws.proofs.Invariant.{loadless-of}
use Rattle.core_laws.proofs.LoadlessEvents.{with_verdict, mapped, loadless-judged}
use Rattle.core_laws.proofs.Invariant.{loadless-of}
use Rattle.core_laws.proofs.LoadlessEvents.{loadless-mapped}

pub kept-judged : (opening : GrainId → List Value) (n : ℕ) (w : CoreState) (u : UnitNo) (d : Verdict) → Inv opening n w →
    n < length w.manager.order → u ≡ get_or w.manager.order n nobody → (d ≡ Open → ⊥) → (d ≡ Committed → ⊥) →
    (is_good d ≡ true → (r : Read) → Member r (w.units.reads u) → (r.source ≡ nobody) ⊎ (is_good (w.manager.verdict r.source) ≡ true)) → Inv opening (n + 1) (with_verdict w u d)
kept-judged opening n w u d i lt is d_not_open d_not_committed alive =
    let p = loadless-judged n w u d (loadless-of opening n w i) lt is d_not_open in
    record {
      fresh = p.fresh;
      unborn = p.unborn;
      outside = p.outside;
      blank = p.blank;
      unwritten = p.unwritten;
      undecided = p.undecided;
      listed = p.listed;
      placed = p.placed;
      within = p.within;
      early = p.early;
      late = p.late;
      alone = p.alone;
      keeps = p.keeps;
      strong = p.strong;
      told = p.told;
      seen = p.seen;
      kept = p.kept;
      origin = i.origin;
      view = λ g s m. elim (i.view g s m) [ inl a ↦ inl a | inr a ↦ inr (more _ a) ];
      source = i.source;
      gap = λ x r y m o f wr l. more y (i.gap x r y m o f wr l);
      chain = λ g. Chain-more (IsBottom opening w.units.phase w.manager.writes w.manager.verdict g) _ (IsLink w.units.phase w.manager.writes w.units.reads g) _
          (λ x b. elim b [ inl a ↦ inl a | inr a ↦ inr (same_committed x.unit a.0, a.1) ])
          (λ x y l. l) (w.cells.stack g) (i.chain g);
      latest = λ x g f wr no. elim (i.latest x g f wr no) [ inl a ↦ inl (more x a) | inr a ↦ inr a ];
      good = λ x r. put-from w.manager.verdict u d (λ v. is_good v ≡ true) (Member r (w.units.reads x) → (r.source ≡ nobody) ⊎ (is_good (put w.manager.verdict u d r.source) ≡ true)) x
          (λ e q m. good_source r q (subst (λ z. Member r (w.units.reads z)) e m))
          (λ e q m. elim (i.good x r q m) [ inl a ↦ inl a | inr a ↦ inr (same_good r.source a) ]);
      sure = λ x r. put-from w.manager.verdict u d (λ v. v ≡ Committed) (Member r (w.units.reads x) → (r.source ≡ nobody) ⊎ (put w.manager.verdict u d r.source ≡ Committed)) x (λ e q. absurd (d_not_committed q))
          (λ e q m. elim (i.sure x r q m) [ inl a ↦ inl a | inr a ↦ inr (same_committed r.source a) ]);
      sees = λ x r p m. elim (i.sees x r p m) [ inl a ↦ inl a | inr a ↦ inr (more _ a) ];
      away = i.away;
    }
  where
    here : (w.units.phase u ≡ Finished) × (w.manager.place u ≡ n + 1)
    here = subst (λ z. (w.units.phase z ≡ Finished) × (w.manager.place z ≡ n + 1)) (sym is) (i.listed n lt)

    open_u : w.manager.verdict u ≡ Open
    open_u = i.late u here.0 (omega (arith, here.1))

    more : (x : UnitNo) → Dead w.manager.verdict w.units.reads x → Dead (put w.manager.verdict u d) w.units.reads x
    more = Dead-more w.manager.verdict (put w.manager.verdict u d) w.units.reads w.units.reads
        (λ k h. put-at w.manager.verdict u d (λ v. is_bad v ≡ true) k (λ e. (let t : false ≡ true = sym (ap is_bad (ap w.manager.verdict e ∙ open_u)) ∙ h in cc)) (λ e. h)) (λ k r m. m)

    same_good : (x : UnitNo) → is_good (w.manager.verdict x) ≡ true → is_good (put w.manager.verdict u d x) ≡ true
    same_good x a = put-at w.manager.verdict u d (λ v. is_good v ≡ true) x (λ e. (let t : false ≡ true = sym (ap is_good (ap w.manager.verdict e ∙ open_u)) ∙ a in cc)) (λ e. a)

    same_committed : (x : UnitNo) → w.manager.verdict x ≡ Committed → put w.manager.verdict u d x ≡ Committed
    same_committed x a = put-at w.manager.verdict u d (λ v. v ≡ Committed) x (λ e. (let t : Open ≡ Committed = sym (ap w.manager.verdict e ∙ open_u) ∙ a in cc)) (λ e. a)

    good_source : (r : Read) → is_good d ≡ true → Member r (w.units.reads u) → (r.source ≡ nobody) ⊎ (is_good (put w.manager.verdict u d r.source) ≡ true)
    good_source r q m = elim (alive q r m) [ inl a ↦ inl a | inr a ↦ inr (same_good r.source a) ]

-- each source of a read is nobody, is committed, or is a dependency
abbrev pub Covers : (UnitNo → List Read) → (UnitNo → List UnitNo) → (UnitNo → Verdict) → Type 0
Covers reads deps verdict = (u : UnitNo) (r : Read) → Member r (reads u) → (r.source ≡ nobody) ⊎ ((verdict r.source ≡ Committed) ⊎ Member r.source (deps u))

-- units as they are decided, with any failures
abbrev pub prepare : (UnitNo → Option GrainId) → (UnitNo → List UnitNo) → UnitNo → Prepared
prepare failed deps u = record { unit = u; failed = failed u; deps = deps u }

verdict_of-chosen : (d : Decision) → is_good (verdict_of d) ≡ true → d ≡ decision.Commit
verdict_of-chosen decision.Commit e = refl
verdict_of-chosen (decision.Vote g) e = cc
verdict_of-chosen (decision.Dependency u) e = cc

pub verdict_of-open : (d : Decision) → verdict_of d ≡ Open → ⊥
verdict_of-open decision.Commit e = cc
verdict_of-open (decision.Vote g) e = cc
verdict_of-open (decision.Dependency u) e = cc

verdict_of-committed : (d : Decision) → verdict_of d ≡ Committed → ⊥
verdict_of-committed decision.Commit e = cc
verdict_of-committed (decision.Vote g) e = cc
verdict_of-committed (decision.Dependency u) e = cc

verdict_of-bad : (d : Decision) → not (is_commit d) ≡ is_bad (verdict_of d)
verdict_of-bad decision.Commit = refl
verdict_of-bad (decision.Vote g) = refl
verdict_of-bad (decision.Dependency u) = refl

-- the test of the dead keeps up with the verdicts
pub dead-agrees : (dead : UnitNo → Bool) (verdict : UnitNo → Verdict) (p : Prepared) → ((x : UnitNo) → dead x ≡ is_bad (verdict x)) → verdict p.unit ≡ Open →
    (x : UnitNo) → and_itself dead p x ≡ is_bad (put verdict p.unit (verdict_of (decision dead p)) x)
dead-agrees dead verdict p agree open_p x = elim (cases_Bool (same_unit x p.unit)) [
  | inl e ↦
      ap (λ b. (b && not (is_commit (decision dead p))) || dead x) e
      ∙ ap (λ b. not (is_commit (decision dead p)) || b) (agree x ∙ ap (λ z. is_bad (verdict z)) (same_unit-true x p.unit e) ∙ ap is_bad open_p)
      ∙ or_false _ ∙ verdict_of-bad (decision dead p)
      ∙ ap is_bad (sym (put-is verdict p.unit _ x (same_unit-true x p.unit e)))
  | inr e ↦
      ap (λ b. (b && not (is_commit (decision dead p))) || dead x) e
      ∙ agree x ∙ ap is_bad (sym (put-other verdict p.unit _ x (same_unit-false x p.unit e)))
]
  where
    or_false : (b : Bool) → (b || false) ≡ b
    or_false true = refl
    or_false false = refl

-- a source of a unit whose turn it is to be decided is decided
source_decided : (opening : GrainId → List Value) (n : ℕ) (w : CoreState) → Inv opening n w → (u : UnitNo) (r : Read) → Member r (w.units.reads u) →
    u ≡ get_or w.manager.order n nobody → n < length w.manager.order → (r.source ≡ nobody → ⊥) → w.manager.verdict r.source ≡ Open → ⊥
source_decided opening n w i u r m is lt apart = elim (i.source u r m) [
  | inl o ↦ absurd (apart o.0)
  | inr o ↦ (let t = i.listed n lt in
      let here : w.units.phase u ≡ Finished = ap w.units.phase is ∙ t.0 in
      let place : w.manager.place u ≡ n + 1 = ap w.manager.place is ∙ t.1 in
      i.early r.source o.0 (omega (arith, o.2 here, place)))
]

-- A batch that is decided, unit by unit.
pub kept-decide : (opening : GrainId → List Value) (dead : UnitNo → Bool) (failed : UnitNo → Option GrainId) (us : List UnitNo) (n : ℕ) (w : CoreState) → Inv opening n w →
    ((x : UnitNo) → dead x ≡ is_bad (w.manager.verdict x)) → Covers w.units.reads w.units.deps w.manager.verdict →
    ((k : ℕ) → k < length us → (n + k < length w.manager.order) × (get_or us k nobody ≡ get_or w.manager.order (n + k) nobody)) →
    Inv opening (n + length us) (record w { manager = record w.manager { verdict = judged us (all_decided dead (map (prepare failed w.units.deps) us)) w.manager.verdict } })
kept-decide opening dead failed [] n w i agree covers at = subst (λ k. Inv opening k w) (omega arith) i
kept-decide opening dead failed (u ∷ us) n w i agree covers at =
    let a = at 0 (omega arith) in
    let lt : n < length w.manager.order = omega (arith, a.0) in
    let is : u ≡ get_or w.manager.order n nobody = a.1 ∙ ap (λ k. get_or w.manager.order k nobody) (omega arith) in
    let here = i.listed n lt in
    let open_u : w.manager.verdict u ≡ Open = ap w.manager.verdict is ∙ i.late (get_or w.manager.order n nobody) here.0 (omega (arith, here.1)) in
    let next = kept-judged opening n w u (verdict_of (decision dead (prepare failed w.units.deps u))) i lt is
    (verdict_of-open _) (verdict_of-committed _)
    (λ q r m. elim (covers u r m) [
      | inl z ↦ inl z
      | inr z ↦ elim z [
        | inl c ↦ inr (ap is_good c)
        | inr d ↦ elim (cases_unit r.source nobody) [
          | inl e ↦ inl e
          | inr e ↦ inr (good_from (w.manager.verdict r.source) (source_decided opening n w i u r m is lt e)
              (sym (agree r.source) ∙ ((commits-exactly dead (prepare failed w.units.deps u)).0 (verdict_of-chosen _ q)).1 r.source d))
        ]
      ]
    ]) in
    subst (λ k. Inv opening k (record w { manager = record w.manager { verdict = judged (u ∷ us) (all_decided dead (map (prepare failed w.units.deps) (u ∷ us))) w.manager.verdict } })) (omega arith)
    (kept-decide opening (and_itself dead (prepare failed w.units.deps u)) failed us (n + 1) (with_verdict w u (verdict_of (decision dead (prepare failed w.units.deps u)))) next
    (dead-agrees dead w.manager.verdict (prepare failed w.units.deps u) agree open_u)
    (λ x r m. elim (covers x r m) [
      | inl z ↦ inl z
      | inr z ↦ inr (elim z [
        | inl c ↦ inl (put-other w.manager.verdict u _ r.source (λ e. (let t : Open ≡ Committed = sym open_u ∙ ap w.manager.verdict (sym e) ∙ c in cc)) ∙ c)
        | inr d ↦ inr d
      ])
    ])
    (λ k h. (let b = at (suc k) (omega arith) in
    let e : n + suc k ≡ n + 1 + k = omega arith in
    (omega (arith, b.0), b.1 ∙ ap (λ j. get_or w.manager.order j nobody) e))))

-- how the verdicts change where a batch ends
pub record Ends (f : Verdict → Verdict) : Type 0 where
  pub bad : (v : Verdict) → is_bad v ≡ true → is_bad (f v) ≡ true
  pub opens : (v : Verdict) → f v ≡ Open → v ≡ Open
  pub still : f Open ≡ Open
  pub sure : f Committed ≡ Committed
  pub good : (v : Verdict) → is_good (f v) ≡ true → (v ≡ Committed) ⊎ ((is_good v ≡ true) × ((x : Verdict) → is_good x ≡ true → is_good (f x) ≡ true))
  pub from : (v : Verdict) → f v ≡ Committed → (v ≡ Committed) ⊎ ((is_good v ≡ true) × ((x : Verdict) → is_good x ≡ true → f x ≡ Committed))

pub kept-mapped : (opening : GrainId → List Value) (n : ℕ) (w : CoreState) (f : Verdict → Verdict) → Ends f → Inv opening n w → Inv opening n (mapped f w)
kept-mapped opening n w f ends i =
    let p = loadless-mapped n w f ends.still ends.opens (loadless-of opening n w i) in
    record {
      fresh = p.fresh;
      unborn = p.unborn;
      outside = p.outside;
      blank = p.blank;
      unwritten = p.unwritten;
      undecided = p.undecided;
      listed = p.listed;
      placed = p.placed;
      within = p.within;
      early = p.early;
      late = p.late;
      alone = p.alone;
      keeps = p.keeps;
      strong = p.strong;
      told = p.told;
      seen = p.seen;
      kept = p.kept;
      origin = i.origin;
      view = λ g s m. elim (i.view g s m) [ inl a ↦ inl a | inr a ↦ inr (more _ a) ];
      source = i.source;
      gap = λ x r y m o p wr l. more y (i.gap x r y m o p wr l);
      chain = λ g. Chain-more (IsBottom opening w.units.phase w.manager.writes w.manager.verdict g) _ (IsLink w.units.phase w.manager.writes w.units.reads g) _
          (λ x b. elim b [ inl a ↦ inl a | inr a ↦ inr (ap f a.0 ∙ ends.sure, a.1) ])
          (λ x y l. l) (w.cells.stack g) (i.chain g);
      latest = λ x g p wr none. elim (i.latest x g p wr none) [ inl a ↦ inl (more x a) | inr a ↦ inr a ];
      good = λ x r q m. elim (ends.good _ q) [
        | inl c ↦ elim (i.sure x r c m) [ inl a ↦ inl a | inr a ↦ inr (ap is_good (ap f a ∙ ends.sure)) ]
        | inr c ↦ elim (i.good x r c.0 m) [ inl a ↦ inl a | inr a ↦ inr (c.1 _ a) ]
      ];
      sure = source;
      sees = λ x r p m. elim (i.sees x r p m) [ inl a ↦ inl a | inr a ↦ inr (more _ a) ];
      away = i.away;
    }
  where
    more : (x : UnitNo) → Dead w.manager.verdict w.units.reads x → Dead (λ u. f (w.manager.verdict u)) w.units.reads x
    more = Dead-more w.manager.verdict (λ u. f (w.manager.verdict u)) w.units.reads w.units.reads (λ k h. ends.bad _ h) (λ k r m. m)

    source : (x : UnitNo) (r : Read) → f (w.manager.verdict x) ≡ Committed → Member r (w.units.reads x) → (r.source ≡ nobody) ⊎ (f (w.manager.verdict r.source) ≡ Committed)
    source x r q m = elim (ends.from _ q) [
      | inl c ↦ elim (i.sure x r c m) [ inl a ↦ inl a | inr a ↦ inr (ap f a ∙ ends.sure) ]
      | inr c ↦ elim (i.good x r c.0 m) [ inl a ↦ inl a | inr a ↦ inr (c.1 _ a) ]
    ]

pub ends-seal : Ends seal
ends-seal = record {
  bad = elim [ Open ↦ (λ e. cc) | Chosen ↦ (λ e. cc) | Condemned ↦ (λ e. refl) | Committed ↦ (λ e. cc) | Aborted ↦ (λ e. refl) ];
  opens = elim [ Open ↦ (λ e. refl) | Chosen ↦ (λ e. cc) | Condemned ↦ (λ e. cc) | Committed ↦ (λ e. cc) | Aborted ↦ (λ e. cc) ];
  still = refl;
  sure = refl;
  good = elim [ Open ↦ (λ e. cc) | Chosen ↦ (λ e. inr (refl, λ x h. ap is_good (all x h))) | Condemned ↦ (λ e. cc) | Committed ↦ (λ e. inl refl) | Aborted ↦ (λ e. cc) ];
  from = elim [ Open ↦ (λ e. cc) | Chosen ↦ (λ e. inr (refl, all)) | Condemned ↦ (λ e. cc) | Committed ↦ (λ e. inl refl) | Aborted ↦ (λ e. cc) ];
}
  where
    all : (x : Verdict) → is_good x ≡ true → seal x ≡ Committed
    all Open e = cc
    all Chosen e = refl
    all Condemned e = cc
    all Committed e = refl
    all Aborted e = cc

pub ends-spoil : Ends spoil
ends-spoil = record {
  bad = elim [ Open ↦ (λ e. cc) | Chosen ↦ (λ e. cc) | Condemned ↦ (λ e. refl) | Committed ↦ (λ e. cc) | Aborted ↦ (λ e. refl) ];
  opens = elim [ Open ↦ (λ e. refl) | Chosen ↦ (λ e. cc) | Condemned ↦ (λ e. cc) | Committed ↦ (λ e. cc) | Aborted ↦ (λ e. cc) ];
  still = refl;
  sure = refl;
  good = elim [ Open ↦ (λ e. cc) | Chosen ↦ (λ e. cc) | Condemned ↦ (λ e. cc) | Committed ↦ (λ e. inl refl) | Aborted ↦ (λ e. cc) ];
  from = elim [ Open ↦ (λ e. cc) | Chosen ↦ (λ e. cc) | Condemned ↦ (λ e. cc) | Committed ↦ (λ e. inl refl) | Aborted ↦ (λ e. cc) ];
}

pub ends-leave : Ends leave
ends-leave = record {
  bad = elim [ Open ↦ (λ e. cc) | Chosen ↦ (λ e. cc) | Condemned ↦ (λ e. refl) | Committed ↦ (λ e. cc) | Aborted ↦ (λ e. refl) ];
  opens = elim [ Open ↦ (λ e. refl) | Chosen ↦ (λ e. cc) | Condemned ↦ (λ e. cc) | Committed ↦ (λ e. cc) | Aborted ↦ (λ e. cc) ];
  still = refl;
  sure = refl;
  good = elim [ Open ↦ (λ e. cc) | Chosen ↦ (λ e. inr (refl, all)) | Condemned ↦ (λ e. cc) | Committed ↦ (λ e. inl refl) | Aborted ↦ (λ e. cc) ];
  from = elim [ Open ↦ (λ e. cc) | Chosen ↦ (λ e. cc) | Condemned ↦ (λ e. cc) | Committed ↦ (λ e. inl refl) | Aborted ↦ (λ e. cc) ];
}
  where
    all : (x : Verdict) → is_good x ≡ true → is_good (leave x) ≡ true
    all Open e = cc
    all Chosen e = refl
    all Condemned e = cc
    all Committed e = refl
    all Aborted e = cc
