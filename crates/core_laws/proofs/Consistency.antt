-- The nine facts.
use Rattle.std.proofs.Common.{◌≡◌, ℕ, ◌<◌, ◌≤◌, List, [], ◌∷◌, Bool, true, false, ◌⊎◌, inl, inr, refl, sym, ap, ◌∙◌, subst, arith, Some}
use Rattle.std.proofs.lemmas.Bool.{cases_lt}
use Rattle.cell_model.specs.Locks.{is_update}
use Rattle.core_model.specs.CoreState.{UnitNo, GrainId, Member, Value, Version, top, Hold, CoreState}
use Rattle.core_model.specs.declared.phases.Phase.TheVariants.{Finished}
use Rattle.core_model.specs.declared.phases.Verdict.TheVariants.{Committed}
use Rattle.core_model.specs.declared.effects.Effect.{Effect}
use Rattle.core_model.specs.Tests.{is_good, state_written}
use Rattle.core_model.specs.DeadUnits.{Dead}
use Rattle.core_model.specs.Chains.{Chain, WroteGrain, IsBottom, IsLink}
use Rattle.core_laws.proofs.Invariant.{Inv, same_place, wrote-finished}
use Rattle.core_model.specs.LegalRuns.{Run, IsLegal, begins, ends}
use Rattle.core_model.specs.SerialOrder.{IsLastVersion}
use Rattle.core_model.specs.Consistency.{ClosedBatchesArePrefix, IsConsistent, bottom}
use Rattle.core_laws.proofs.LoadlessRuns.{prefix-ends}
use Rattle.core_laws.proofs.Alive.{good-alive}
use Rattle.core_laws.proofs.KeptInvariant.{Kept}
use Rattle.core_laws.proofs.ReleasedGrains.{Gone, gone-run}
use Rattle.core_laws.proofs.Dependencies.{Depends, depends-run}
use Rattle.core_laws.proofs.UnitPlays.{Valid, valid-ends}
use Rattle.core_laws.proofs.Ends.{kept-begins, kept-ends}

-- A released writer that isn't dead is in the stack, or stands before the bottom's unit.
pub in_stack_or_below : (opening : GrainId → List Value) (n : ℕ) (w : CoreState) → Inv opening n w →
    (u : UnitNo) (g : GrainId) → w.units.phase u ≡ Finished → WroteGrain w.manager.writes u g → ((h : Hold) → Member h (w.cells.holds g) → h.unit ≡ u → is_update h.mode ≡ true → ⊥) →
    Dead w.manager.verdict w.units.reads u ⊎ (((x : Version) × Member x (w.cells.stack g) × (x.unit ≡ u)) ⊎ (w.manager.place u < w.manager.place (bottom (w.cells.stack g)).unit))
in_stack_or_below opening n w i u g f wr free =
    elim (i.latest u g f wr free) [ inl d ↦ inl d | inr le ↦ go (w.cells.stack g) (i.chain g) le ]
  where
    here : 0 < w.manager.place u
    here = (let t = i.placed u f in omega (arith, t.2))

    go : (xs : List Version) → Chain (IsBottom opening w.units.phase w.manager.writes w.manager.verdict g) (IsLink w.units.phase w.manager.writes w.units.reads g) xs → w.manager.place u ≤ w.manager.place (top xs).unit →
        Dead w.manager.verdict w.units.reads u ⊎ (((x : Version) × Member x xs × (x.unit ≡ u)) ⊎ (w.manager.place u < w.manager.place (bottom xs).unit))
    go [] c le = absurd c
    go (x ∷ []) c le = elim (cases_lt (w.manager.place u) (w.manager.place x.unit)) [
      | inl lt ↦ inr (inr lt)
      | inr ge ↦ elim c [
        | inl o ↦ (let z : w.manager.place x.unit ≡ 0 = ap w.manager.place o.0 ∙ i.origin in absurd (omega (arith, here)))
        | inr o ↦ inr (inl (x, inl refl, same_place opening n w i x.unit u o.1.0 f (omega arith)))
      ]
    ]
    go (x ∷ y ∷ ys) c le = elim (cases_lt (w.manager.place u) (w.manager.place x.unit)) [
      | inl lt ↦ elim (cases_lt (w.manager.place y.unit) (w.manager.place u)) [
        | inl above ↦ inl (i.gap x.unit c.0.1.0 u c.0.1.1 (inr (c.0.0.0, lt)) f (wr.0, ap (λ k. state_written k (w.manager.writes u)) c.0.1.2 ∙ wr.1)
            (subst (λ k. w.manager.place k < w.manager.place u) (sym c.0.1.3) above))
        | inr below ↦ elim (go (y ∷ ys) c.1 below) [
          | inl d ↦ inl d
          | inr o ↦ inr (elim o [ inl t ↦ inl (t.0, inr t.1, t.2) | inr lt' ↦ inr lt' ])
        ]
      ]
      | inr ge ↦ inr (inl (x, inl refl, same_place opening n w i x.unit u c.0.0.0 f (omega arith)))
    ]

-- the stack of a grain out of memory is its last committed version
pub last-version : (opening : GrainId → List Value) (n : ℕ) (w : CoreState) → Inv opening n w → (g : GrainId) → w.cells.here g ≡ false → (x : Version) × (w.cells.stack g ≡ x ∷ []) × IsLastVersion opening w g x.unit x.state
last-version opening n w i g h =
    let t = i.away g h in
    (t.1.0, t.1.1, go t.0 t.1.0 t.1.1 (subst (Chain (IsBottom opening w.units.phase w.manager.writes w.manager.verdict g) (IsLink w.units.phase w.manager.writes w.units.reads g)) t.1.1 (i.chain g)))
  where
    below : w.cells.holds g ≡ [] → (x : Version) → w.cells.stack g ≡ x ∷ [] → (c : UnitNo) (v : List Value) → w.manager.verdict c ≡ Committed → state_written g (w.manager.writes c) ≡ Some v → w.manager.place c ≤ w.manager.place x.unit
    below none x is c v q wr =
        elim (i.latest c g (wrote-finished opening n w i c g v wr) (v, wr) (λ h m e up. subst (Member h) none m)) [
          | inl d ↦ absurd (good-alive opening n w i c (ap is_good q) d)
          | inr le ↦ subst (λ t. w.manager.place c ≤ w.manager.place (top t).unit) is le
        ]

    go : w.cells.holds g ≡ [] → (x : Version) → w.cells.stack g ≡ x ∷ [] → IsBottom opening w.units.phase w.manager.writes w.manager.verdict g x → IsLastVersion opening w g x.unit x.state
    go none x is (inl a) = inl (
      a.0,
      a.1,
      λ c v q wr.
          (let le = below none x is c v q wr in
          let t = i.placed c (wrote-finished opening n w i c g v wr) in
          omega (arith, ap w.manager.place a.0, i.origin, le, t.2)),
    )
    go none x is (inr a) = inr (record { commits = a.0; wrote = a.1.1; last = below none x is })

-- a dependency of a finished unit is finished before it
pub depends-earlier : (opening : GrainId → List Value) (n : ℕ) (w : CoreState) → Inv opening n w → Depends w → (u d : UnitNo) → w.units.phase u ≡ Finished → Member d (w.units.deps u) → (w.units.phase d ≡ Finished) × (w.manager.place d < w.manager.place u)
depends-earlier opening n w i s u d f m =
    let t = s.1 u d m in
    elim (i.source u t.0 t.1) [
      | inl o ↦ absurd (t.3 (sym t.2 ∙ o.0))
      | inr o ↦ subst (λ z. (w.units.phase z ≡ Finished) × (w.manager.place z < w.manager.place u)) t.2 (o.0, o.2 f)
    ]

pub consistent : (plays : Effect → Bool) (opening : GrainId → List Value) (w : CoreState) → Kept opening w → Valid plays w → ClosedBatchesArePrefix w → Gone w → Depends w → IsConsistent plays opening w
consistent plays opening w k v prefix gone depends = record {
  closed_batches_are_a_prefix = prefix;
  exclusive_holder_is_alone = record { alone = k.0.alone; holds = k.0.keeps };
  sources_are_truthful = k.0.source;
  no_live_writer_between = k.0.gap;
  dependencies_come_earlier = record {
    ascending = depends.0;
    sources = depends.1;
    others = k.2;
    earlier = λ u d f m. depends-earlier opening _ w k.0 depends u d f m;
  };
  stacks_are_chains = record { chain = k.0.chain; released = gone };
  no_live_writer_is_lost = record {
    in_stack = λ u g f wr free. in_stack_or_below opening _ w k.0 u g f wr (λ h m e up. free h m e);
    out_of_memory = λ g h. last-version opening _ w k.0 g h;
  };
  committed_are_alive = record {
    alive = λ u q d. good-alive opening _ w k.0 u q d;
    to_commit = k.0.good;
    committed = k.0.sure;
  };
  effects_are_plays = v;
}

pub gone-ends : (plays : Effect → Bool) (r : Run) → IsLegal plays r → Gone (ends r)
gone-ends plays r l = gone-run r.opening r.events (begins r) l.loads (kept-begins plays r l) (λ g x h m n. absurd n)

pub depends-ends : (plays : Effect → Bool) (r : Run) → IsLegal plays r → Depends (ends r)
depends-ends plays r l = depends-run r.opening r.events (begins r) l.loads (kept-begins plays r l) ((λ u. tt), (λ u d m. absurd m))

pub consistent-ends : (plays : Effect → Bool) (r : Run) → IsLegal plays r → IsConsistent plays r.opening (ends r)
consistent-ends plays r l =
    consistent plays r.opening (ends r) (kept-ends plays r l) (valid-ends plays r l.effects) (prefix-ends r l.above) (gone-ends plays r l) (depends-ends plays r l)
