-- What holds of each state that a core can be in.
use Rattle.std.proofs.Common.{◌≡◌, ℕ, zero, suc, ◌+◌, ◌<◌, ◌≤◌, List, [], ◌∷◌, Bool, true, false, inr, refl, sym, ap, ◌∙◌, subst, arith, None, length, get_or, take, length-drop, get_or-drop, get_or-take}
use Rattle.core_model.specs.CoreState.{UnitNo, nobody, Member, CoreState}
use Rattle.core_model.specs.declared.phases.Phase.TheVariants.{Running, Finished}
use Rattle.core_model.specs.declared.phases.Verdict.TheVariants.{Open, Committed}
use Rattle.core_model.specs.Tests.{waiting, is_final}
use Rattle.core_model.specs.Consistency.{ClosedBatchesArePrefix}
use Rattle.core_model.specs.Holders.{HoldersHaveRead}
use Rattle.core_model.specs.LoadlessLaws.{HoldsWithoutLoads}
use Rattle.core_laws.proofs.Orders.{Member-at}
use Rattle.core_laws.proofs.LoadlessRuns.{Steady, steady-ends}
use Rattle.core_laws.proofs.LoadlessLaws.{holds-ends}
use Rattle.history_core.specs.KeptParts.{IsCoreReached}

pub rests : (w : CoreState) → IsCoreReached w → HoldsWithoutLoads w
rests w r = subst HoldsWithoutLoads r.2 (holds-ends r.0 r.1)

pub steady : (w : CoreState) → IsCoreReached w → Steady w
steady w r = subst Steady r.2 (steady-ends r.0 r.1)

pub readers : (w : CoreState) → IsCoreReached w → HoldersHaveRead w
readers w r = (rests w r).read

pub prefixes : (w : CoreState) → IsCoreReached w → ClosedBatchesArePrefix w
prefixes w r = (rests w r).prefix

-- who isn't finished has written nothing
pub unwritten : (w : CoreState) → IsCoreReached w → (u : UnitNo) → (w.units.phase u ≡ Finished → ⊥) → w.manager.writes u ≡ []
unwritten w r u n = (steady w r).0.0.unwritten u n

-- who runs is undecided
pub running-open : (w : CoreState) → IsCoreReached w → (u : UnitNo) → w.units.phase u ≡ Running → w.manager.verdict u ≡ Open
running-open w r u p = (steady w r).0.0.undecided u (inr p)

pub closed-within : (w : CoreState) → IsCoreReached w → w.manager.closed ≤ length w.manager.order
closed-within w r = (let t = (rests w r).prefix.within in omega (arith, t))

-- what stands after the closed ones has finished, with a later place
pub waits : (w : CoreState) → IsCoreReached w → (x : UnitNo) → Member x (waiting w) → (w.units.phase x ≡ Finished) × (w.manager.closed < w.manager.place x)
waits w r x h =
    let i = (rests w r).prefix.order in
    let t = Member-at x (waiting w) h in
    let lt : w.manager.closed + t.0 < length w.manager.order = omega (arith, t.1, length-drop w.manager.closed w.manager.order) in
    let e : get_or w.manager.order (w.manager.closed + t.0) nobody ≡ x = sym (get_or-drop w.manager.closed w.manager.order t.0 nobody) ∙ t.2 in
    let l = i.listed (w.manager.closed + t.0) lt in
    (subst (λ z. w.units.phase z ≡ Finished) e l.0, subst (λ z. w.manager.closed < w.manager.place z) e (omega (arith, l.1)))

-- the closed ones have finished, with places up to their count
pub closes : (w : CoreState) → IsCoreReached w → (x : UnitNo) → Member x (take w.manager.closed w.manager.order) → (w.units.phase x ≡ Finished) × (w.manager.place x ≤ w.manager.closed)
closes w r x h =
    let i = (rests w r).prefix.order in
    let t = Member-at x (take w.manager.closed w.manager.order) h in
    let lt : t.0 < w.manager.closed = at_most w.manager.closed w.manager.order t.0 t.1 in
    let e : get_or w.manager.order t.0 nobody ≡ x = sym (get_or-take w.manager.closed w.manager.order t.0 nobody lt) ∙ t.2 in
    let l = i.listed t.0 (omega (arith, lt, closed-within w r)) in
    (subst (λ z. w.units.phase z ≡ Finished) e l.0, subst (λ z. w.manager.place z ≤ w.manager.closed) e (omega (arith, l.1, lt)))
  where
    at_most : (m : ℕ) (xs : List UnitNo) (j : ℕ) → j < length (take m xs) → j < m
    at_most zero xs j h = absurd (omega arith)
    at_most (suc m) [] j h = absurd (omega arith)
    at_most (suc m) (y ∷ xs) zero h = omega arith
    at_most (suc m) (y ∷ xs) (suc j) h = omega (arith, at_most m xs j (omega arith))

-- a unit that runs is neither
pub waits-not : (w : CoreState) → IsCoreReached w → (u : UnitNo) → w.units.phase u ≡ Running → (x : UnitNo) → Member x (waiting w) → x ≡ u → ⊥
waits-not w r u p x m e = (let t : Finished ≡ Running = sym (waits w r x m).0 ∙ ap w.units.phase e ∙ p in cc)

pub closes-not : (w : CoreState) → IsCoreReached w → (u : UnitNo) → w.units.phase u ≡ Running → (x : UnitNo) → Member x (take w.manager.closed w.manager.order) → x ≡ u → ⊥
closes-not w r u p x m e = (let t : Finished ≡ Running = sym (closes w r x m).0 ∙ ap w.units.phase e ∙ p in cc)

-- unless a batch is in doubt, the closed ones are decided for good
pub closes-final : (w : CoreState) → IsCoreReached w → w.manager.doubt ≡ None → (x : UnitNo) → Member x (take w.manager.closed w.manager.order) → is_final (w.manager.verdict x) ≡ true
closes-final w r none x m = (let t = closes w r x m in (steady w r).2 none x t.0 t.1)

-- a unit that has finished has its place up to the closed ones or after them
pub late-not-final : (w : CoreState) → IsCoreReached w → (x : UnitNo) → w.units.phase x ≡ Finished → w.manager.closed < w.manager.place x → is_final (w.manager.verdict x) ≡ false
late-not-final w r x f lt = (prefixes w r).undecided x f lt

-- a committed unit has finished, with a place up to the closed ones
pub committed-closed : (w : CoreState) → IsCoreReached w → (u : UnitNo) → w.manager.verdict u ≡ Committed → (w.units.phase u ≡ Finished) × (w.manager.place u ≤ w.manager.closed)
committed-closed w r = (rests w r).locks.committed

-- a child is younger than its parent
pub younger : (w : CoreState) → IsCoreReached w → (p c : UnitNo) → Member c (w.units.kids p) → p.0 < c.0
younger w r = (rests w r).children.younger
