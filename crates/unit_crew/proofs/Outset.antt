-- A worker that has put nothing, and what its call comes to.
use Rattle.std.proofs.Common.{◌≡◌, ◌⊎◌, ◌+◌, ℕ, List, [], length, inl, inr, sym, ap, subst, arith, Bool, ◌<◌}
use Rattle.base_types.specs.Lists.{Member}
use Rattle.core_model.specs.declared.events.CoreEvent.{CoreEvent}
use Rattle.core_access.specs.Histories.{Told}
use Rattle.core_access.specs.Sights.{Sight, Counts, Looks}
use Rattle.request_wire.specs.declared.requests.Line.{Line}
use Rattle.script_tree.specs.Programs.{ProgramTree}
use Rattle.promise_spec.specs.UnitRule.{Basis}
use Rattle.turn_rules.specs.NextEvent.{MayCome}
use Rattle.worker_rules.specs.UnitOwnership.{KeepsPromise}
use Rattle.worker_rules.specs.SharedHistories.{Promised}
use Rattle.worker_rules.specs.Work.{OnlyWorks}
use Rattle.worker_rules.proofs.OwnEntries.{promise-none}
use Rattle.unit_crew.specs.Crews.{IsCrew, WorksOn}
use Rattle.unit_crew.specs.Rounds.{IsOverAt}
use Rattle.unit_crew.specs.FinishedUnits.{AreThrough, IsHalted, IsPastLine, Showed}
use Rattle.unit_crew.specs.declared.rounds.Round.{Round}
use Rattle.unit_crew.proofs.RoundEnds.{looks-all}
use Rattle.unit_crew.proofs.Works.{showed-on, works-looks, works-on}

-- nothing is an own entry
none-in : {A : Type 0} (s : Sight) → s.mine ≡ [] → (x : Told) → Member x s.mine → A
none-in s e x i = absurd (subst (Member x) e i)

-- nobody is carried
pub crew-none : (types : ProgramTree) (s : Sight) → 0 < s.first.base → s.mine ≡ [] → IsCrew types s []
crew-none types s above e = record {
  counts = none-counts;
  above = above;
  only = λ x i. none-in s e x i;
  below = λ u b. none-in s e b.0 b.1;
  known = tt;
  own = tt;
  older = tt;
  rest = λ u b. none-in s e b.0 b.1;
}
  where
    none-counts : Counts s
    none-counts = let n : length s.mine ≡ 0 = ap (length {A = Told}) e in omega (arith, n)

-- what was put is a worker's
pub only-works : (Asked : Basis → Type 0) (s t : Sight) → s.mine ≡ [] → WorksOn Asked s t → OnlyWorks t.mine
only-works Asked s t e w = w.only (λ x i. none-in s e x i)

-- and promised
pub keeps-promise : (Asked : Basis → Type 0) (s t : Sight) → s.mine ≡ [] → WorksOn Asked s t → (b : Basis) → Asked b → KeepsPromise b t
keeps-promise Asked s t e w b q = w.promise b q (subst (λ (l : List Told). Promised (MayCome b) s.first s.number s.seen l) (sym e) (promise-none (MayCome b) s.first s.number s.seen))

-- what was put is counted
pub none-counted : (s : Sight) → s.mine ≡ [] → Counts s
none-counted s e = let n : length s.mine ≡ 0 = ap (length {A = Told}) e in omega (arith, n)

-- and then a look
pub works-look : (Asked : Basis → Type 0) (may : CoreEvent → Bool) (s t u : Sight) → WorksOn Asked s t → Looks may t u → WorksOn Asked s u
works-look Asked may s t u w l = works-on Asked s t u w (works-looks Asked may t u l)

-- what was shown stays shown
pub shown-look : (Asked : Basis → Type 0) (may : CoreEvent → Bool) (last : ℕ) (t u : Sight) → Looks may t u → Showed IsHalted t ⊎ Showed (IsPastLine last) t → Showed IsHalted u ⊎ Showed (IsPastLine last) u
shown-look Asked may last t u l (inl x) = inl (showed-on Asked IsHalted t u (works-looks Asked may t u l) x)
shown-look Asked may last t u l (inr x) = inr (showed-on Asked (IsPastLine last) t u (works-looks Asked may t u l) x)

-- what is through stays through
pub through-look : (Asked : Basis → Type 0) (may : CoreEvent → Bool) (s t u : Sight) → s.mine ≡ [] → WorksOn Asked s t → Looks may t u → AreThrough t → AreThrough u
through-look Asked may s t u e w l all = looks-all may t u l (w.counts (none-counted s e)) all

-- of the same lines
pub over-same : (before : ℕ) (ls ls' : List Line) (s : Sight) (round : Round) → ls ≡ ls' → IsOverAt (before + length ls) s round → IsOverAt (before + length ls') s round
over-same before ls ls' s round e x = subst (λ (l : List Line). IsOverAt (before + length l) s round) e x
