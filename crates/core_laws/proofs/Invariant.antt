-- What holds of the core after any events.
use Rattle.std.proofs.Common.{◌≡◌, ℕ, ◌+◌, ◌<◌, ◌≤◌, List, [], ◌∷◌, length, get_or, Bool, true, false, ◌⊎◌, inl, inr, refl, sym, ap, ◌∙◌, subst, arith, Some, None}
use Rattle.std.proofs.lemmas.Bool.{cases_lt}
use Rattle.cell_model.specs.Locks.{is_update}
use Rattle.core_model.specs.CoreState.{UnitNo, GrainId, nobody, Member, Value, Write, Version, top, Hold, Reading, CoreState}
use Rattle.core_model.specs.declared.phases.Phase.{Phase}
use Rattle.core_model.specs.declared.phases.Phase.TheVariants.{Unborn, Running, Finished, Refused, Ended}
use Rattle.core_model.specs.declared.phases.Verdict.{Verdict}
use Rattle.core_model.specs.declared.phases.Verdict.TheVariants.{Open, Committed}
use Rattle.core_model.specs.declared.effects.Read.{Read}
use Rattle.core_model.specs.Tests.{is_good, state_written}
use Rattle.core_model.specs.DeadUnits.{Dead}
use Rattle.core_model.specs.Chains.{Chain, WroteGrain, IsBottom, IsLink}
use Rattle.core_laws.proofs.Loadless.{LoadlessAt}

-- The first n units of the finish order are decided, or judged in the open batch. Each part of the state is an
-- argument, so that an event that leaves those parts alone keeps all of this.
pub record Facts (opening : GrainId → List Value) (n : ℕ) (next : ℕ) (phase : UnitNo → Phase) (reads : UnitNo → List Read)
    (place : UnitNo → ℕ) (order : List UnitNo) (writes : UnitNo → List Write) (verdict : UnitNo → Verdict)
    (holds : GrainId → List Hold) (readings : GrainId → List Reading) (stack : GrainId → List Version) (here : GrainId → Bool) : Type 0 where
  pub fresh : 0 < next
  pub unborn : (u : UnitNo) → next ≤ u.0 → phase u ≡ Unborn
  pub outside : phase nobody ≡ Unborn
  pub origin : place nobody ≡ 0
  pub blank : (u : UnitNo) → phase u ≡ Unborn → reads u ≡ []
  pub unwritten : (u : UnitNo) → (phase u ≡ Finished → ⊥) → writes u ≡ []
  pub undecided : (u : UnitNo) → (phase u ≡ Unborn) ⊎ (phase u ≡ Running) → verdict u ≡ Open
  pub listed : (i : ℕ) → i < length order → (phase (get_or order i nobody) ≡ Finished) × (place (get_or order i nobody) ≡ i + 1)
  pub placed : (u : UnitNo) → phase u ≡ Finished → (i : ℕ) × (i < length order) × (place u ≡ i + 1) × (get_or order i nobody ≡ u)
  pub within : n ≤ length order
  pub early : (u : UnitNo) → phase u ≡ Finished → place u ≤ n → verdict u ≡ Open → ⊥
  pub late : (u : UnitNo) → phase u ≡ Finished → n < place u → verdict u ≡ Open
  pub alone : (g : GrainId) (h k : Hold) → Member h (holds g) → Member k (holds g) → is_update h.mode ≡ true → k.unit ≡ h.unit
  pub keeps : (u : UnitNo) (r : Read) → phase u ≡ Running → Member r (reads u) → (h : Hold) × Member h (holds r.grain) × (h.unit ≡ u)
  pub strong : (u : UnitNo) (g : GrainId) (h : Hold) → phase u ≡ Finished → WroteGrain writes u g → Member h (holds g) → h.unit ≡ u → (k : Hold) × Member k (holds g) × (k.unit ≡ u) × (is_update k.mode ≡ true)
  pub told : (g : GrainId) (h : Hold) → Member h (holds g) → (s : Reading) × Member s (readings g) × (s.unit ≡ h.unit)
  pub seen : (g : GrainId) (s : Reading) → Member s (readings g) → (r : Read) × Member r (reads s.unit) × (r.grain ≡ g) × (r.source ≡ s.source)
  pub kept : (g : GrainId) (s : Reading) → Member s (readings g) → (h : Hold) × Member h (holds g) × (h.unit ≡ s.unit)
  pub view : (g : GrainId) (s : Reading) → Member s (readings g) → (s.source ≡ (top (stack g)).unit) ⊎ Dead verdict reads s.source
  pub source : (u : UnitNo) (r : Read) → Member r (reads u) →
      ((r.source ≡ nobody) × (r.state ≡ opening r.grain))
      ⊎ ((phase r.source ≡ Finished) × (state_written r.grain (writes r.source) ≡ Some r.state) × (phase u ≡ Finished → place r.source < place u))
  pub gap : (u : UnitNo) (r : Read) (x : UnitNo) → Member r (reads u) → (phase u ≡ Running) ⊎ ((phase u ≡ Finished) × (place x < place u)) →
      phase x ≡ Finished → WroteGrain writes x r.grain → place r.source < place x → Dead verdict reads x
  pub chain : (g : GrainId) → Chain (IsBottom opening phase writes verdict g) (IsLink phase writes reads g) (stack g)
  pub latest : (u : UnitNo) (g : GrainId) → phase u ≡ Finished → WroteGrain writes u g → ((h : Hold) → Member h (holds g) → h.unit ≡ u → is_update h.mode ≡ true → ⊥) →
      Dead verdict reads u ⊎ (place u ≤ place (top (stack g)).unit)
  pub good : (u : UnitNo) (r : Read) → is_good (verdict u) ≡ true → Member r (reads u) → (r.source ≡ nobody) ⊎ (is_good (verdict r.source) ≡ true)
  pub sure : (u : UnitNo) (r : Read) → verdict u ≡ Committed → Member r (reads u) → (r.source ≡ nobody) ⊎ (verdict r.source ≡ Committed)
  pub sees : (u : UnitNo) (r : Read) → phase u ≡ Running → Member r (reads u) → (r.source ≡ (top (stack r.grain)).unit) ⊎ Dead verdict reads r.source
  pub away : (g : GrainId) → here g ≡ false → (holds g ≡ []) × ((x : Version) × (stack g ≡ x ∷ []))

-- that of a state
abbrev pub Inv : (GrainId → List Value) → ℕ → CoreState → Type 0
Inv opening n w =
    Facts opening n w.units.next w.units.phase w.units.reads w.manager.place w.manager.order w.manager.writes w.manager.verdict
    w.cells.holds w.cells.readings w.cells.stack w.cells.here

-- what of it needs no true loads
pub loadless-of : (opening : GrainId → List Value) (n : ℕ) (w : CoreState) → Inv opening n w → LoadlessAt n w
loadless-of opening n w i = record {
  fresh = i.fresh;
  unborn = i.unborn;
  outside = i.outside;
  blank = i.blank;
  unwritten = i.unwritten;
  undecided = i.undecided;
  listed = i.listed;
  placed = i.placed;
  within = i.within;
  early = i.early;
  late = i.late;
  alone = i.alone;
  keeps = i.keeps;
  strong = i.strong;
  told = i.told;
  seen = i.seen;
  kept = i.kept;
}

-- two finished units have different places
pub same_place : (opening : GrainId → List Value) (n : ℕ) (w : CoreState) → Inv opening n w →
    (u x : UnitNo) → w.units.phase u ≡ Finished → w.units.phase x ≡ Finished → w.manager.place u ≡ w.manager.place x → u ≡ x
same_place opening n w i u x fu fx e =
    let a = i.placed u fu in
    let b = i.placed x fx in
    let same : a.0 ≡ b.0 = omega (arith, a.2, b.2, e) in
    sym a.3 ∙ ap (λ k. get_or w.manager.order k nobody) same ∙ b.3

-- a unit that wrote has finished
pub wrote-finished : (opening : GrainId → List Value) (n : ℕ) (w : CoreState) → Inv opening n w →
    (u : UnitNo) (g : GrainId) (v : List Value) → state_written g (w.manager.writes u) ≡ Some v → w.units.phase u ≡ Finished
wrote-finished opening n w i u g v e = go (w.units.phase u) refl
  where
    no_write : (w.units.phase u ≡ Finished → ⊥) → ⊥
    no_write h = (let t : Some v ≡ None = sym e ∙ ap (state_written g) (i.unwritten u h) in cc)

    go : (p : Phase) → w.units.phase u ≡ p → w.units.phase u ≡ Finished
    go Unborn q = absurd (no_write (λ f. cc))
    go Running q = absurd (no_write (λ f. cc))
    go Finished q = q
    go Refused q = absurd (no_write (λ f. cc))
    go Ended q = absurd (no_write (λ f. cc))

-- The step down a stack in the proof that the latest live writer is on top: between two neighbours all writers are dead.
pub down-latest : (opening : GrainId → List Value) (n : ℕ) (w : CoreState) → Inv opening n w →
    (u : UnitNo) (g : GrainId) → w.units.phase u ≡ Finished → WroteGrain w.manager.writes u g → (x y : Version) → IsLink w.units.phase w.manager.writes w.units.reads g x y → Dead w.manager.verdict w.units.reads x.unit →
    Dead w.manager.verdict w.units.reads u ⊎ (w.manager.place u ≤ w.manager.place x.unit) → Dead w.manager.verdict w.units.reads u ⊎ (w.manager.place u ≤ w.manager.place y.unit)
down-latest opening n w i u g fu wu x y l d (inl h) = inl h
down-latest opening n w i u g fu wu x y l d (inr h) = go (cases_lt (w.manager.place y.unit) (w.manager.place u)) (cases_lt (w.manager.place u) (w.manager.place x.unit))
  where
    go : (w.manager.place y.unit < w.manager.place u) ⊎ (w.manager.place u ≤ w.manager.place y.unit) → (w.manager.place u < w.manager.place x.unit) ⊎ (w.manager.place x.unit ≤ w.manager.place u) → Dead w.manager.verdict w.units.reads u ⊎ (w.manager.place u ≤ w.manager.place y.unit)
    go (inr a) b = inr a
    go (inl a) (inl b) =
        inl (i.gap x.unit l.1.0 u l.1.1 (inr (l.0.0, b)) fu (wu.0, ap (λ k. state_written k (w.manager.writes u)) l.1.2 ∙ wu.1)
        (subst (λ k. w.manager.place k < w.manager.place u) (sym l.1.3) a))
    go (inl a) (inr b) =
        let e : w.manager.place x.unit ≡ w.manager.place u = omega arith in
        inl (subst (λ k. Dead w.manager.verdict w.units.reads k) (same_place opening n w i x.unit u l.0.0 fu e) d)
