-- The committed units are serial.
use Rattle.std.proofs.Common.{◌≡◌, ℕ, suc, ◌+◌, ◌<◌, ◌≤◌, List, [], ◌∷◌, length, get_or, Bool, true, false, ◌⊎◌, inl, inr, refl, sym, ap, ◌∙◌, subst, arith, Option, Some, None}
use Rattle.std.proofs.lemmas.Bool.{cases_lt, cond_both}
use Rattle.core_model.specs.CoreState.{UnitNo, GrainId, nobody, Member, Value, CoreState}
use Rattle.core_model.specs.declared.phases.Phase.TheVariants.{Unborn, Finished}
use Rattle.core_model.specs.declared.phases.Verdict.{Verdict}
use Rattle.core_model.specs.declared.effects.Read.{Read}
use Rattle.core_model.specs.declared.effects.Effect.{Effect}
use Rattle.core_model.specs.Tests.{is_good, is_committed, state_written}
use Rattle.core_model.specs.Chains.{WroteGrain}
use Rattle.core_laws.proofs.Basics.{is_committed-true}
use Rattle.core_laws.proofs.Invariant.{Inv, same_place}
use Rattle.std.proofs.Common.{map, filter, unwrap_or}
use Rattle.core_model.specs.Answers.{effect_of}
use Rattle.core_model.specs.SerialOrder.{IsSerialOrder, after, committed}
use Rattle.core_laws.proofs.Alive.{good-alive}
use Rattle.core_laws.proofs.KeptInvariant.{Kept}
use Rattle.core_laws.proofs.UnitPlays.{Valid}

-- A test of verdicts that holds of a unit's sources where it holds of the unit, and of no unit that is bad.
pub record Closed (w : CoreState) (t : Verdict → Bool) : Type 0 where
  pub sources : (u : UnitNo) (r : Read) → t (w.manager.verdict u) ≡ true → Member r (w.units.reads u) → (r.source ≡ nobody) ⊎ (t (w.manager.verdict r.source) ≡ true)
  pub good : (v : Verdict) → t v ≡ true → is_good v ≡ true

-- a unit that meets the test, among the first k, that wrote the grain
pub record Writer (w : CoreState) (t : Verdict → Bool) (g : GrainId) (k : ℕ) (c : UnitNo) : Type 0 where
  pub sure : t (w.manager.verdict c) ≡ true
  pub done : w.units.phase c ≡ Finished
  pub wrote : WroteGrain w.manager.writes c g
  pub among : w.manager.place c ≤ k

-- the store after the committed units among the first k
abbrev pub Stands : (GrainId → List Value) → CoreState → (Verdict → Bool) → ℕ → (GrainId → List Value) → Type 0
Stands opening w t k store = (g : GrainId) →
    ((store g ≡ opening g) × ((c : UnitNo) → Writer w t g k c → ⊥))
    ⊎ ((c : UnitNo) × Writer w t g k c × (state_written g (w.manager.writes c) ≡ Some (store g)) × ((d : UnitNo) → Writer w t g k d → w.manager.place d ≤ w.manager.place c))

pub serial-from : (plays : Effect → Bool) (opening : GrainId → List Value) (n : ℕ) (w : CoreState) → Inv opening n w → Valid plays w → (t : Verdict → Bool) → Closed w t → (us : List UnitNo) (k : ℕ) (store : GrainId → List Value) →
    ((j : ℕ) → j < length us → (k + j < length w.manager.order) × (get_or us j nobody ≡ get_or w.manager.order (k + j) nobody)) → Stands opening w t k store →
    IsSerialOrder plays store (map (effect_of w) (filter (λ u. t (w.manager.verdict u)) us))
serial-from plays opening n w i valid t closed [] k store at s = tt
serial-from plays opening n w i valid t closed (u ∷ us) k store at s =
    cond_both (t (w.manager.verdict u)) (u ∷ filter (λ x. t (w.manager.verdict x)) us) (filter (λ x. t (w.manager.verdict x)) us)
    (λ z. IsSerialOrder plays store (map (effect_of w) z))
    (λ e. (reads e, valid u here.0, serial-from plays opening n w i valid t closed us (k + 1) (after store (w.manager.writes u)) later (stands e)))
    (λ e. serial-from plays opening n w i valid t closed us (k + 1) store later (skipped (λ q. (let z : true ≡ false = sym q ∙ e in cc))))
  where
    here : (w.units.phase u ≡ Finished) × (w.manager.place u ≡ k + 1)
    here =
        let a = at 0 (omega arith) in
        subst (λ x. (w.units.phase x ≡ Finished) × (w.manager.place x ≡ k + 1)) (sym (a.1 ∙ ap (λ j. get_or w.manager.order j nobody) (omega arith)))
        (i.listed k (omega (arith, a.0)))

    later : (j : ℕ) → j < length us → (k + 1 + j < length w.manager.order) × (get_or us j nobody ≡ get_or w.manager.order (k + 1 + j) nobody)
    later j h =
        let b = at (suc j) (omega arith) in
        let e : k + suc j ≡ k + 1 + j = omega arith in
        (omega (arith, b.0), b.1 ∙ ap (λ x. get_or w.manager.order x nobody) e)

    -- a writer among one more is the unit, or was a writer before
    last : (g : GrainId) (c : UnitNo) → Writer w t g (k + 1) c → Writer w t g k c ⊎ (c ≡ u)
    last g c h = elim (cases_lt k (w.manager.place c)) [
      | inl lt ↦ inr (same_place opening n w i c u h.done here.0 (omega (arith, h.among, here.1, lt)))
      | inr le ↦ inl (record { sure = h.sure; done = h.done; wrote = h.wrote; among = le })
    ]

    more : (g : GrainId) (c : UnitNo) → Writer w t g k c → Writer w t g (k + 1) c
    more g c h = record { sure = h.sure; done = h.done; wrote = h.wrote; among = omega (arith, h.among) }

    skipped : (t (w.manager.verdict u) ≡ true → ⊥) → Stands opening w t (k + 1) store
    skipped other g = elim (s g) [
      | inl a ↦ inl (a.0, λ c h. elim (last g c h) [ inl o ↦ a.1 c o | inr q ↦ other (ap (λ z. t (w.manager.verdict z)) (sym q) ∙ h.sure) ])
      | inr a ↦ inr (a.0, more g a.0 a.1, a.2, λ c h. elim (last g c h) [ inl o ↦ a.3 c o | inr q ↦ absurd (other (ap (λ z. t (w.manager.verdict z)) (sym q) ∙ h.sure)) ])
    ]

    stands : t (w.manager.verdict u) ≡ true → Stands opening w t (k + 1) (after store (w.manager.writes u))
    stands c g = go (state_written g (w.manager.writes u)) refl
      where
        go : (o : Option (List Value)) → state_written g (w.manager.writes u) ≡ o →
            ((unwrap_or o (store g) ≡ opening g) × ((x : UnitNo) → Writer w t g (k + 1) x → ⊥))
            ⊎ ((x : UnitNo) × Writer w t g (k + 1) x × (state_written g (w.manager.writes x) ≡ Some (unwrap_or o (store g))) × ((d : UnitNo) → Writer w t g (k + 1) d → w.manager.place d ≤ w.manager.place x))
        go (Some v) e = inr (u, record { sure = c; done = here.0; wrote = (v, e); among = omega (arith, here.1) }, e, λ d h. omega (arith, h.among, here.1))
        go None e = elim (s g) [
          | inl a ↦ inl (a.0, λ x h. elim (last g x h) [ inl o ↦ a.1 x o | inr q ↦ no_write x h q e ])
          | inr a ↦ inr (a.0, more g a.0 a.1, a.2, λ x h. elim (last g x h) [ inl o ↦ a.3 x o | inr q ↦ absurd (no_write x h q e) ])
        ]
          where
            no_write : (x : UnitNo) → Writer w t g (k + 1) x → x ≡ u → state_written g (w.manager.writes u) ≡ None → ⊥
            no_write x h q e = (let z : Some h.wrote.0 ≡ None = sym h.wrote.1 ∙ ap (λ z. state_written g (w.manager.writes z)) q ∙ e in cc)

    reads : t (w.manager.verdict u) ≡ true → (r : Read) → Member r (w.units.reads u) → r.state ≡ store r.grain
    reads c r m = go (i.source u r m) (s r.grain)
      where
        between : (d : UnitNo) → Writer w t r.grain k d → w.manager.place r.source < w.manager.place d → ⊥
        between d h lt = good-alive opening n w i d (closed.good _ h.sure) (i.gap u r d m (inr (here.0, omega (arith, h.among, here.1))) h.done h.wrote lt)

        first : (d : UnitNo) → Writer w t r.grain k d → r.source ≡ nobody → ⊥
        first d h q = between d h (let y = i.placed d h.done in let z : w.manager.place r.source ≡ 0 = ap w.manager.place q ∙ i.origin in omega (arith, y.2))

        from : (w.units.phase r.source ≡ Finished) → (state_written r.grain (w.manager.writes r.source) ≡ Some r.state) → (w.units.phase u ≡ Finished → w.manager.place r.source < w.manager.place u) → Writer w t r.grain k r.source
        from f wr lt = record {
          sure = elim (closed.sources u r c m) [ inl q ↦ absurd (let z : Finished ≡ Unborn = sym f ∙ ap w.units.phase q ∙ i.outside in cc) | inr q ↦ q ];
          done = f;
          wrote = (r.state, wr);
          among = omega (arith, lt here.0, here.1);
        }

        go : ((r.source ≡ nobody) × (r.state ≡ opening r.grain)) ⊎ ((w.units.phase r.source ≡ Finished) × (state_written r.grain (w.manager.writes r.source) ≡ Some r.state) × (w.units.phase u ≡ Finished → w.manager.place r.source < w.manager.place u)) →
            ((store r.grain ≡ opening r.grain) × ((c : UnitNo) → Writer w t r.grain k c → ⊥))
            ⊎ ((c : UnitNo) × Writer w t r.grain k c × (state_written r.grain (w.manager.writes c) ≡ Some (store r.grain)) × ((d : UnitNo) → Writer w t r.grain k d → w.manager.place d ≤ w.manager.place c)) → r.state ≡ store r.grain
        go (inl a) (inl b) = a.1 ∙ sym b.0
        go (inl a) (inr b) = absurd (first b.0 b.1 a.0)
        go (inr a) (inl b) = absurd (b.1 r.source (from a.0 a.1 a.2))
        go (inr a) (inr b) = elim (cases_lt (w.manager.place r.source) (w.manager.place b.0)) [
          | inl lt ↦ absurd (between b.0 b.1 lt)
          | inr le ↦ (let e = same_place opening n w i r.source b.0 a.0 b.1.done (omega (arith, le, b.3 r.source (from a.0 a.1 a.2))) in
              let z : Some r.state ≡ Some (store r.grain) = sym a.1 ∙ ap (λ z. state_written r.grain (w.manager.writes z)) e ∙ b.2 in cc)
        ]

closed_committed : (opening : GrainId → List Value) (n : ℕ) (w : CoreState) → Inv opening n w → Closed w is_committed
closed_committed opening n w i = record {
  sources = λ u r c m. elim (i.sure u r (is_committed-true _ c) m) [ inl a ↦ inl a | inr a ↦ inr (ap is_committed a) ];
  good = λ v c. ap is_good (is_committed-true v c);
}

closed_good : (opening : GrainId → List Value) (n : ℕ) (w : CoreState) → Inv opening n w → Closed w is_good
closed_good opening n w i = record { sources = i.good; good = λ v c. c }

-- the units that meet the test, in the finish order
serial_all : (plays : Effect → Bool) (opening : GrainId → List Value) (w : CoreState) → Kept opening w → Valid plays w → (t : Verdict → Bool) → Closed w t →
    IsSerialOrder plays opening (map (effect_of w) (filter (λ u. t (w.manager.verdict u)) w.manager.order))
serial_all plays opening w k v t closed =
    serial-from plays opening _ w k.0 v t closed w.manager.order 0 opening
    (λ j h. (omega arith, ap (λ x. get_or w.manager.order x nobody) (omega arith)))
    (λ g. inl (refl, λ c h. (let y = k.0.placed c h.done in omega (arith, y.2, h.among))))

pub serial-committed : (plays : Effect → Bool) (opening : GrainId → List Value) (w : CoreState) → Kept opening w → Valid plays w → IsSerialOrder plays opening (committed w)
serial-committed plays opening w k v = serial_all plays opening w k v is_committed (closed_committed opening _ w k.0)

-- with the units to commit too
pub serial-good : (plays : Effect → Bool) (opening : GrainId → List Value) (w : CoreState) → Kept opening w → Valid plays w →
    IsSerialOrder plays opening (map (effect_of w) (filter (λ u. is_good (w.manager.verdict u)) w.manager.order))
serial-good plays opening w k v = serial_all plays opening w k v is_good (closed_good opening _ w k.0)
