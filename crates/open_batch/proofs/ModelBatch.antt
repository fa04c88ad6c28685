-- What a batch in code decides and shows is what the model does.
use Rattle.std.proofs.Common.{◌≡◌, ℕ, List, [], ◌∷◌, ◌++◌, Bool, true, false, refl, sym, ap, ◌∙◌, zero, suc, filter, map, zip, take, drop, Some, cond}
use Rattle.std.specs.Prelude.{if◌then◌else◌}
use Rattle.std.specs.List.{list_any as any, flat_map}
use Rattle.std.proofs.lemmas.List.{take-map}
use Rattle.std.proofs.lemmas.List.Folds.{flat_map-map}
use Rattle.base_types.specs.declared.calls.UnitNo.{UnitNo}
use Rattle.base_types.specs.declared.calls.GrainId.{GrainId}
use Rattle.cell_model.specs.Decisions.{all_decided}
use Rattle.core_model.specs.declared.effects.Effect.{Effect}
use Rattle.core_model.specs.declared.phases.Verdict.{Verdict}
use Rattle.core_model.specs.CoreState.{Write, Batch, CoreState}
use Rattle.core_model.specs.Tests.{members, planned, is_bad, is_good, is_aborted, state_written, failed_in, grains_of}
use Rattle.core_model.specs.Effects.{effect_of}
use Rattle.core_model.specs.Changes.{decisions_of}
use Rattle.core_model.specs.Answers.{as_set, aborted_sources, view}
use Rattle.core_model.specs.Settler.{version_written, versions_to_write, to_commit}
use Rattle.open_batch.specs.declared.members.FinishedUnit.{FinishedUnit}
use Rattle.open_batch.specs.Members.{effect_in, sources_in, sources_of, plan_of, decisions_by, versions_by, to_commit_by, aborted_by}
use Rattle.open_batch.specs.TakenBatch.{TakenBatch, view_by}
use Rattle.open_batch.specs.ShownBatch.{AreUnits, ShowsBatch}

flat-pairs : {A B : Type 0} (f : Effect × List UnitNo → List B) (g : A → Effect) (h : A → List UnitNo) (xs : List A) → flat_map f (zip (map g xs) (map h xs)) ≡ flat_map (λ x. f (g x, h x)) xs
flat-pairs f g h [] = refl
flat-pairs f g h (x ∷ xs) = ap (λ t. f (g x, h x) ++ t) (flat-pairs f g h xs)

map-pairs : {A B : Type 0} (f : Effect × List UnitNo → B) (g : A → Effect) (h : A → List UnitNo) (xs : List A) → map f (zip (map g xs) (map h xs)) ≡ map (λ x. f (g x, h x)) xs
map-pairs f g h [] = refl
map-pairs f g h (x ∷ xs) = ap (λ t. f (g x, h x) ∷ t) (map-pairs f g h xs)

-- what is made of each unit's effect and sources
flat-link : {B : Type 0} (f : Effect × List UnitNo → List B) (ms : List FinishedUnit) (w : CoreState) (us : List UnitNo) → AreUnits ms w us →
    flat_map (λ m. f (effect_in m, sources_in m)) ms ≡ flat_map (λ u. f (effect_of w u, w.units.deps u)) us
flat-link f ms w us s =
    sym (flat-pairs f effect_in sources_in ms) ∙ (λ i. flat_map f (zip (s.effects i) (s.sources i))) ∙ flat-pairs f (effect_of w) w.units.deps us

map-link : {B : Type 0} (f : Effect × List UnitNo → B) (ms : List FinishedUnit) (w : CoreState) (us : List UnitNo) → AreUnits ms w us →
    map (λ m. f (effect_in m, sources_in m)) ms ≡ map (λ u. f (effect_of w u, w.units.deps u)) us
map-link f ms w us s =
    sym (map-pairs f effect_in sources_in ms) ∙ (λ i. map f (zip (s.effects i) (s.sources i))) ∙ map-pairs f (effect_of w) w.units.deps us

-- the first of the units
pub units-taken : (n : ℕ) (ms : List FinishedUnit) (w : CoreState) (us : List UnitNo) → AreUnits ms w us → AreUnits (take n ms) w (take n us)
units-taken n ms w us s = record {
  effects = sym (take-map effect_in n ms) ∙ ap (take n) s.effects ∙ take-map (effect_of w) n us;
  sources = sym (take-map sources_in n ms) ∙ ap (take n) s.sources ∙ take-map w.units.deps n us;
}

drop-map : {A B : Type 0} (f : A → B) (n : ℕ) (xs : List A) → drop n (map f xs) ≡ map f (drop n xs)
drop-map f zero [] = refl
drop-map f zero (x ∷ xs) = refl
drop-map f (suc n) [] = refl
drop-map f (suc n) (x ∷ xs) = drop-map f n xs

-- the units behind the first
pub units-left : (n : ℕ) (ms : List FinishedUnit) (w : CoreState) (us : List UnitNo) → AreUnits ms w us → AreUnits (drop n ms) w (drop n us)
units-left n ms w us s = record {
  effects = sym (drop-map effect_in n ms) ∙ ap (drop n) s.effects ∙ drop-map (effect_of w) n us;
  sources = sym (drop-map sources_in n ms) ∙ ap (drop n) s.sources ∙ drop-map w.units.deps n us;
}

-- the plan is the model's
pub plan-link : (v : UnitNo → Verdict) (ms : List FinishedUnit) (w : CoreState) (us : List UnitNo) → w.manager.verdict ≡ v → AreUnits ms w us → plan_of (λ u. is_bad (v u)) ms ≡ planned w us
plan-link v ms w us e s =
    ap (λ t. plan_of (λ u. is_bad (t u)) ms) (sym e)
    ∙ ap grains_of (flat-link (λ p. if any (λ u. is_bad (w.manager.verdict u)) p.1 then [] else map (λ (x : Write). x.0) p.0.writes) ms w us s)

-- the decisions are the model's
pub decisions-link : (v : UnitNo → Verdict) (ms : List FinishedUnit) (w : CoreState) (b : Batch) → w.manager.verdict ≡ v → AreUnits ms w (members w b) → decisions_by (λ u. is_bad (v u)) b.votes ms ≡ decisions_of w b
decisions-link v ms w b e s =
    ap (λ t. decisions_by (λ u. is_bad (t u)) b.votes ms) (sym e)
    ∙ ap (all_decided (λ u. is_bad (w.manager.verdict u))) (map-link (λ p. record { unit = p.0.unit; failed = failed_in b.votes p.0.writes; deps = p.1 }) ms w (members w b) s)

-- the versions that go to a grain's file are the model's
pub versions-link : (v : UnitNo → Verdict) (ms : List FinishedUnit) (w : CoreState) (b : Batch) (g : GrainId) → w.manager.verdict ≡ v → AreUnits ms w (members w b) → versions_by (λ u. is_bad (v u)) g ms ≡ versions_to_write w (Some b) g
versions-link v ms w b g e s =
    ap (λ t. versions_by (λ u. is_bad (t u)) g ms) (sym e)
    ∙ flat-link (λ p. if any (λ u. is_bad (w.manager.verdict u)) p.1 then [] else version_written p.0.unit (state_written g p.0.writes)) ms w (members w b) s

-- one unit after the other, where the test tells that it is kept
flat-filter : {A B : Type 0} (f : A → B) (p : A → Bool) (xs : List A) → flat_map (λ x. if p x then f x ∷ [] else []) xs ≡ map f (filter p xs)
flat-filter f p [] = refl
flat-filter f p (x ∷ xs) = by_test (p x) (flat-filter f p xs)
  where
    by_test : (t : Bool) → flat_map (λ y. if p y then f y ∷ [] else []) xs ≡ map f (filter p xs) → (if t then f x ∷ [] else []) ++ flat_map (λ y. if p y then f y ∷ [] else []) xs ≡ map f (cond t (x ∷ filter p xs) (filter p xs))
    by_test true r = ap (λ t. f x ∷ t) r
    by_test false r = r

-- those that are to commit are the model's
pub commit-link : (v : UnitNo → Verdict) (ms : List FinishedUnit) (w : CoreState) (b : Batch) → w.manager.verdict ≡ v → AreUnits ms w (members w b) → to_commit_by (λ u. is_good (v u)) ms ≡ to_commit w (Some b)
commit-link v ms w b e s =
    ap (λ t. to_commit_by (λ u. is_good (t u)) ms) (sym e)
    ∙ flat-link (λ p. if is_good (w.manager.verdict p.0.unit) then p.0 ∷ [] else []) ms w (members w b) s
    ∙ flat-filter (effect_of w) (λ u. is_good (w.manager.verdict u)) (members w b)

-- the sources are the model's
pub sources-link : (ms : List FinishedUnit) (w : CoreState) (us : List UnitNo) → AreUnits ms w us → sources_of ms ≡ flat_map (λ u. w.units.deps u) us
sources-link ms w us s =
    sym (flat_map-map (λ ds. ds) sources_in ms) ∙ ap (flat_map (λ ds. ds)) s.sources ∙ flat_map-map (λ ds. ds) w.units.deps us

-- and the aborted ones among them
pub aborted-link : (v : UnitNo → Verdict) (ms : List FinishedUnit) (w : CoreState) (us : List UnitNo) → w.manager.verdict ≡ v → AreUnits ms w us → aborted_by (λ u. is_aborted (v u)) ms ≡ aborted_sources w us
aborted-link v ms w us e s =
    ap (λ t. aborted_by (λ u. is_aborted (t u)) ms) (sym e)
    ∙ ap (λ ds. as_set (filter (λ d. is_aborted (w.manager.verdict d)) ds)) (sources-link ms w us s)

-- what is shown of the batch is the model's view
pub view-link : (v : UnitNo → Verdict) (x : TakenBatch) (ms : List FinishedUnit) (w : CoreState) (b : Batch) → w.manager.verdict ≡ v → ShowsBatch x ms b → AreUnits ms w (members w b) → view_by (λ u. is_aborted (v u)) x ms ≡ view w b
view-link v x ms w b e shows s = λ i. record {
  batch = shows.number i;
  effects = s.effects i;
  aborted = aborted-link v ms w (members w b) e s i;
  votes = shows.votes i;
  decisions = shows.decisions i;
}
