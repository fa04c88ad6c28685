-- What is kept of the open batch, case by case.
use Rattle.std.proofs.Common.{◌≡◌, List, [], ◌∷◌, Bool, true, false, refl, sym, ap, ◌∙◌, subst, Option, Some, None, take, inl, inr}
use Rattle.cell_model.specs.Units.{Member}
use Rattle.core_model.specs.CoreState.{GrainId, Write, Batch}
use Rattle.open_batch.specs.declared.members.FinishedUnit.{FinishedUnit}
use Rattle.open_batch.specs.TakenBatch.{TakenBatch}
use Rattle.open_batch.specs.ShownBatch.{ShowsBatch}
use Rattle.history_core.specs.ClosedUnits.{ArePlaced}
use Rattle.history_core.specs.KeptParts.{ShowsOpen, ShowsTakenBatch, AllPlaced, EachPlaced}

pub to-cases : (o : Option TakenBatch) (ms : List FinishedUnit) (b : Option Batch) → ShowsTakenBatch o ms b → ShowsOpen o ms b
to-cases None ms None h = tt
to-cases (Some x) ms (Some c) h = h.shows x c refl refl
to-cases None ms (Some c) h = (let t : false ≡ true = h.same in cc)
to-cases (Some x) ms None h = (let t : true ≡ false = h.same in cc)

pub from-cases : (o : Option TakenBatch) (ms : List FinishedUnit) (b : Option Batch) → ShowsOpen o ms b → ShowsTakenBatch o ms b
from-cases None ms None h = record { same = refl; shows = λ x c e. (let t : None ≡ Some x = e in cc) }
from-cases (Some x) ms (Some c) h = record {
  same = refl;
  shows = λ y d e f.
      (let q : x ≡ y = some-same x y e in
      let r : c ≡ d = some-same c d f in
      subst (λ z. ShowsBatch z (take d.size ms) d) q (subst (λ z. ShowsBatch x (take z.size ms) z) r h));
}
  where
    some-same : {A : Type 0} (a b : A) → ◌≡◌ {A = Option A} (Some a) (Some b) → a ≡ b
    some-same a b e = cc
from-cases None ms (Some c) h = absurd h
from-cases (Some x) ms None h = absurd h

are-placed : (placed : GrainId → Bool) (xs : List Write) → ArePlaced placed xs → (x : Write) → Member x xs → placed x.0 ≡ true
are-placed placed [] h x m = absurd m
are-placed placed (y ∷ ys) h x (inl e) = ap (λ (z : Write). placed z.0) e ∙ h.0
are-placed placed (y ∷ ys) h x (inr m) = are-placed placed ys h.1 x m

pub each-placed : (placed : GrainId → Bool) (ms : List FinishedUnit) → AllPlaced placed ms → EachPlaced placed ms
each-placed placed [] h m i x j = absurd i
each-placed placed (n ∷ ns) h m (inl e) x j = are-placed placed n.effect.writes h.0 x (subst (λ (z : FinishedUnit). Member x z.effect.writes) e j)
each-placed placed (n ∷ ns) h m (inr i) x j = each-placed placed ns h.1 m i x j

placed-are : (placed : GrainId → Bool) (xs : List Write) → ((x : Write) → Member x xs → placed x.0 ≡ true) → ArePlaced placed xs
placed-are placed [] h = tt
placed-are placed (y ∷ ys) h = (h y (inl refl), placed-are placed ys (λ x m. h x (inr m)))

pub placed-each : (placed : GrainId → Bool) (ms : List FinishedUnit) → EachPlaced placed ms → AllPlaced placed ms
placed-each placed [] h = tt
placed-each placed (n ∷ ns) h = (placed-are placed n.effect.writes (λ x j. h n (inl refl) x j), placed-each placed ns (λ m i x j. h m (inr i) x j))
