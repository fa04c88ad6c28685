-- The pass goes on over units that lack no grain for sure, without a look at them.
use Rattle.std.proofs.Common.{◌≡◌, inl, inr, ℕ, zero, suc, ◌+◌, ◌-◌, ◌<◌, ◌≤◌, Option, Some, List, [], ◌∷◌, length, Bool, true, false, refl, sym, ap, ◌∙◌, subst, arith}
use Rattle.std.specs.Prelude.{get_or, take}
use Rattle.std.proofs.lemmas.Bool.{cases_lt}
use Rattle.std.proofs.lemmas.Option.{slice_get-get_or}
use Rattle.cell_model.specs.Units.{UnitsAscend}
use Rattle.cell_memory.specs.SpareMemory.{has_space}
use Rattle.core_model.specs.CoreState.{UnitNo, nobody}
use Rattle.core_model.specs.LegalRuns.{ends}
use Rattle.request_wire.specs.declared.requests.Line.{Line}
use Rattle.script_tree.specs.Programs.{ProgramTree}
use Rattle.turn_rules.specs.TurnLoop.{Pass}
use Rattle.txn_agent.specs.declared.agent.Agent.{Agent}
use Rattle.unit_carrier.specs.CarriedUnits.{unit_at, units_carried}
use Rattle.run_books.specs.Beginnings.{Outset}
use Rattle.run_books.specs.Books.{Books}
use Rattle.run_books.specs.Stages.{Stage}
use Rattle.run_books.proofs.BooksOthers.{others-keep}
use Rattle.interleaver.specs.declared.turns.Turns.{Turns}
use Rattle.interleaver.specs.SureUnits.{AreSure, AreSureFrom, LackNone, LacksNone, SureBySpace}
use Rattle.interleaver.specs.TurnStages.{IsAsking, TurnStage, WentOn, passing_stage}
use Rattle.interleaver.proofs.AskedUnits.{at-member}
use Rattle.interleaver.proofs.PassAnswers.{asked-says, many-carried}
use Rattle.interleaver.proofs.SureTurns.{lack-next, sure-none, sure-wishes}
use Rattle.interleaver.proofs.TurnSequence.{went-then}

-- ---- units by their indices

-- who stands behind another is younger
pub ascend-at : (us : List UnitNo) → UnitsAscend us → (i j : ℕ) → i < j → j < length us → (get_or us i nobody).0 < (get_or us j nobody).0
ascend-at [] older i j less within = absurd (omega (arith, within))
ascend-at (u ∷ us) older i zero less within = absurd (omega (arith, less))
ascend-at (u ∷ us) older zero (suc j) less within = older.0 (get_or us j nobody) (at-member us j (get_or us j nobody) (slice_get-get_or us j nobody (omega (arith, within))))
ascend-at (u ∷ us) older (suc i) (suc j) less within = ascend-at us older.1 i j (omega (arith, less)) (omega (arith, within))

-- so it is of those that are carried
pub younger-at : (agents : List Agent) → UnitsAscend (units_carried agents) → (i j : ℕ) → i < j → j < length agents → (unit_at agents i).0 < (unit_at agents j).0
younger-at agents older i j less within = ascend-at (units_carried agents) older i j less (let many = many-carried agents in omega (arith, many, within))

-- those before the last one that is below a number are below it
pub all-below : (agents : List Agent) → UnitsAscend (units_carried agents) → (end sure : ℕ) → end ≤ length agents → (unit_at agents (end - 1)).0 < sure → (i : ℕ) → i < end → (unit_at agents i).0 < sure
all-below agents older end sure within last i less = elim (cases_lt i (end - 1)) [
  | inl before ↦ (let up = younger-at agents older i (end - 1) before (omega (arith, within, less)) in omega (arith, up, last))
  | inr behind ↦ subst (λ (n : ℕ). (unit_at agents n).0 < sure) (omega (arith, behind, less)) last
]

-- a unit that stands at one index stands at no other
pub not-twice : (agents : List Agent) → UnitsAscend (units_carried agents) → (moved : Option UnitNo) (u : UnitNo) (at i : ℕ) → moved ≡ Some u → at < length agents → i < length agents → unit_at agents at ≡ u → (at ≡ i → ⊥)
    → moved ≡ Some (unit_at agents i) → ⊥
not-twice agents older moved u at i is at-within within here other there =
    let q : (unit_at agents at).0 ≡ (unit_at agents i).0 = ap (λ (x : UnitNo). x.0) here ∙ number u (unit_at agents i) (sym is ∙ there) in
    elim (cases_lt at i) [
      | inl less ↦ (let up = younger-at agents older at i less within in absurd (omega (arith, up, q)))
      | inr le ↦ elim (cases_lt i at) [
        | inl less ↦ (let up = younger-at agents older i at less at-within in absurd (omega (arith, up, q)))
        | inr ge ↦ other (omega (arith, le, ge))
      ]
    ]
  where
    number : (a b : UnitNo) → Some a ≡ Some b → a.0 ≡ b.0
    number a b e = ap (λ (y : UnitNo). y.0) (let z : a ≡ b = cc in z)

-- two that are the same unit
pub some-same : (a b : UnitNo) → Some a ≡ Some b → a ≡ b
some-same a b e = cc

-- ---- the pass goes on over them

module _ (types : ProgramTree) (at : Stage) (state : Turns) (sure : AreSure types at.run (units_carried state.agents.list.items) state.sure state.moved) (space : SureBySpace state.sure at.run)
    (index next : ℕ) (behind : index ≤ next) (within : index < next → next ≤ length state.agents.list.items) (are : AreSureFrom state.sure state.moved state.agents.list.items index next) where
  -- each of them is carried
  there : (i : ℕ) → index ≤ i → i < next → i < length state.agents.list.items
  there i low high = (let most = within (omega (arith, low, high)) in omega (arith, most, high))

  -- and lacks none
  none : (i : ℕ) → index ≤ i → i < next → LacksNone types at.run at.run (unit_at state.agents.list.items i)
  none i low high = sure-none types at.run state.agents.list.items i (unit_at state.agents.list.items i) state.sure state.moved sure (there i low high) refl (are i low high)

  roomy : (i : ℕ) → index ≤ i → i < next → has_space (ends at.run).cells ≡ true
  roomy i low high = (let less = (are i low high).0 in space (omega (arith, less)))

  -- the pass stands behind so many of them
  over : (tells : Bool) (o : Outset) (lines : List Line) (width : ℕ) (picks : List ℕ) (b : Books) (s : TurnStage) → at.settler.doubted ≡ false → (k : ℕ) → index + k ≤ next
      → (p : Pass) × WentOn tells o types lines width picks b s (passing_stage at state p) × IsAsking o (passing_stage at state p) index
      → (p : Pass) × WentOn tells o types lines width picks b s (passing_stage at state p) × IsAsking o (passing_stage at state p) (index + k)
  over tells o lines width picks b s calm zero le w = (w.0, w.1, subst (λ (n : ℕ). IsAsking o (passing_stage at state w.0) n) (omega arith) w.2)
  over tells o lines width picks b s calm (suc k) le w =
      let on = over tells o lines width picks b s calm k (omega (arith, le)) w in
      let low : index ≤ index + k = omega arith in
      let high : index + k < next = omega (arith, le) in
      let one = asked-says others-keep tells o types lines width picks on.1.books at state on.0 (index + k) on.1.under_way calm on.2 (there (index + k) low high) at state refl refl refl refl refl refl {T = Bool} true
      (sure-wishes types at.run (unit_at state.agents.list.items (index + k)) (roomy (index + k) low high) (none (index + k) low high).1) in (
        one.0,
        went-then tells o types lines width picks b s (passing_stage at state on.0) (passing_stage at state one.0) on.1 one.1,
        subst (λ (n : ℕ). IsAsking o (passing_stage at state one.0) n) (omega arith) one.2,
      )

  -- and then behind all of them
  pub skipped : (tells : Bool) (o : Outset) (lines : List Line) (width : ℕ) (picks : List ℕ) (b : Books) (s : TurnStage) → at.settler.doubted ≡ false
      → (p : Pass) × WentOn tells o types lines width picks b s (passing_stage at state p) × IsAsking o (passing_stage at state p) index
      → (p : Pass) × WentOn tells o types lines width picks b s (passing_stage at state p) × IsAsking o (passing_stage at state p) next
  skipped tells o lines width picks b s calm w =
      let on = over tells o lines width picks b s calm (next - index) (omega (arith, behind)) w in
      (on.0, on.1, subst (λ (n : ℕ). IsAsking o (passing_stage at state on.0) n) (omega (arith, behind)) on.2)

  -- those at the front lack none, with so many of them
  lack-over : (k : ℕ) → index + k ≤ next → LackNone types at.run (take index (units_carried state.agents.list.items)) → LackNone types at.run (take (index + k) (units_carried state.agents.list.items))
  lack-over zero le lack = subst (λ (n : ℕ). LackNone types at.run (take n (units_carried state.agents.list.items))) (omega arith) lack
  lack-over (suc k) le lack =
      let low : index ≤ index + k = omega arith in
      let high : index + k < next = omega (arith, le) in
      subst (λ (n : ℕ). LackNone types at.run (take n (units_carried state.agents.list.items))) (omega arith)
      (lack-next types at.run at.run state.agents.list.items state.agents.list.items (index + k) refl (lack-over k (omega (arith, le)) lack) (none (index + k) low high))

  -- and then with all of them
  pub lack-skipped : LackNone types at.run (take index (units_carried state.agents.list.items)) → LackNone types at.run (take next (units_carried state.agents.list.items))
  lack-skipped lack = subst (λ (n : ℕ). LackNone types at.run (take n (units_carried state.agents.list.items))) (omega (arith, behind)) (lack-over (next - index) (omega (arith, behind)) lack)
