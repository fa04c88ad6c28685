-- Units that are no more to be looked at, and how many lines are in flight.
use Rattle.std.proofs.Common.{◌≡◌, suc, None, List, [], ◌∷◌, length, is_some, Bool, true, false, true≢false, inl, inr, refl, sym, ap, ◌∙◌, subst, arith, ◌<◌}
use Rattle.std.specs.Prelude.{if◌then◌else◌, filter, not, ◌&&◌, ◌||◌, ◌==◌}
use Rattle.std.specs.List.{AllByRecursion}
use Rattle.std.proofs.lemmas.Bool.{cases_Bool}
use Rattle.base_types.specs.declared.calls.Origin.{Origin}
use Rattle.base_types.specs.declared.calls.Origin.TheVariants.{Line as OfLineOrigin, Child}
use Rattle.core_model.specs.CoreState.{UnitNo, CoreState}
use Rattle.core_model.specs.declared.phases.Phase.{Phase}
use Rattle.core_model.specs.declared.phases.Phase.TheVariants.{Unborn, Running, Finished, Refused, Ended}
use Rattle.core_model.specs.Tests.{any, is_decided, is_free, is_over, is_running, outcome_in}
use Rattle.core_model.specs.LockAnswers.{IsGoing}
use Rattle.core_model.specs.LegalRuns.{Run, ends}
use Rattle.core_laws.proofs.ToldOutcomes.{lines-ends}
use Rattle.core_laws.proofs.BatchPrefix.{free-holds, unfree-holds}
use Rattle.cell_model.proofs.Units.{same_unit-is, same_unit-true, same_grain-is, any-member, any-true}
use Rattle.cell_model.specs.Locks.{holds_lock, is_hold_of}
use Rattle.core_model.specs.CoreState.{GrainId, same_grain}
use Rattle.txn_agent.specs.declared.work.Carried.{Carried}
use Rattle.std.proofs.Common.{eqb-true}
use Rattle.core_access.specs.OneHolder.{own_sight}
use Rattle.core_access.specs.Sights.{run_seen}
use Rattle.core_access.proofs.OneHolder.{own-run, own-alone}
use Rattle.script_tree.specs.Programs.{ProgramTree}
use Rattle.promise_spec.specs.Cores.{HasBegun}
use Rattle.promise_spec.specs.TurnRule.{is_line, is_settled}
use Rattle.turn_rules.specs.CarriedUnits.{is_flying, is_kept}
use Rattle.txn_agent.specs.declared.agent.Agent.{Agent}
use Rattle.txn_agent.specs.declared.work.Doing.{Doing}
use Rattle.txn_agent.specs.declared.work.Doing.TheVariants.{Asks, Awaits, Frees, Stopped}
use Rattle.txn_agent.specs.CoreLink.{IsBarred, IsOver, Knows, KnowsDoing, KnowsPaused, KnowsWaiting}
use Rattle.txn_agent.specs.AgentStep.{has_freed_all}
use Rattle.std.proofs.lemmas.List.Sums.{length-filter}
use Rattle.unit_carrier.specs.CarriedUnits.{units_carried}
use Rattle.interleaver.specs.Flights.{is_flown, lines_carried}
use Rattle.core_laws.proofs.LoadlessKept.{loadless-ends}

-- who is over isn't running
over-runs : (p : Phase) → is_over p ≡ true → is_running p ≡ false
over-runs Unborn q = refl
over-runs Running q = absurd (true≢false (sym q))
over-runs Finished q = refl
over-runs Refused q = refl
over-runs Ended q = refl

over-begun : (p : Phase) → is_over p ≡ true → p ≡ Unborn → ⊥
over-begun p q e = absurd (true≢false (sym q ∙ ap is_over e))

not-true : (b : Bool) → not b ≡ false → b ≡ true
not-true true q = refl
not-true false q = absurd (true≢false q)

not-false : (b : Bool) → not b ≡ true → b ≡ false
not-false true q = absurd (true≢false (sym q))
not-false false q = refl

or-right : (a b : Bool) → b ≡ true → (a || b) ≡ true
or-right true b q = refl
or-right false b q = q

or-false : (a b : Bool) → (a || b) ≡ false → (a ≡ false) × (b ≡ false)
or-false true b q = absurd (true≢false q)
or-false false b q = (refl, q)

-- who is over is free where no lock is left
not-none : (g : GrainId) (held : List GrainId) → (length (g ∷ held) == 0) ≡ false
not-none g held = elim (cases_Bool (length (g ∷ held) == 0)) [
  | inl t ↦ absurd (let z = eqb-true (length (g ∷ held)) 0 t in omega (arith, z))
  | inr f ↦ f
]

free-is : (r : Run) (c : Carried) (held : List GrainId) → IsOver r c held → is_free (ends r) c.unit ≡ (length held == 0)
free-is r c [] o = elim (cases_Bool (is_free (ends r) c.unit)) [
  | inl e ↦ e
  | inr e ↦ (let t = unfree-holds (ends r) c.unit e in absurd (true≢false (sym (any-member (is_hold_of c.unit) ((ends r).cells.holds t.0) t.1.0 t.1.1 (same_unit-is t.1.0.unit c.unit t.1.2)) ∙ o.locks t.0)))
]
free-is r c (g ∷ held) o = elim (cases_Bool (is_free (ends r) c.unit)) [
  | inr e ↦ e ∙ sym (not-none g held)
  | inl e ↦ (
      let has : holds_lock c.unit ((ends r).cells.holds g) ≡ true = o.locks g ∙ ap (λ (b : Bool). b || any (same_grain g) held) (same_grain-is g g refl) in
      let t = any-true (is_hold_of c.unit) ((ends r).cells.holds g) has in
      absurd (free-holds _ (ends r) (loadless-ends r o.above).0 c.unit e g t.0 t.1 (same_unit-true t.0.unit c.unit t.2)))
]

module _ (types : ProgramTree) (r : Run) (above : 0 < r.base) (calm : (ends r).manager.doubt ≡ None) where
  -- who has freed all is free, and over
  freed : (a : Agent) → Knows types (own_sight r) a → has_freed_all a.doing ≡ true → (is_over ((ends r).units.phase a.carried.unit) ≡ true) × (is_free (ends r) a.carried.unit ≡ true)
  freed a knows q = by a.doing refl
    where
      by : (d : Doing) → a.doing ≡ d → (is_over ((ends r).units.phase a.carried.unit) ≡ true) × (is_free (ends r) a.carried.unit ≡ true)
      by (Asks work pause) e = absurd (true≢false (sym q ∙ ap has_freed_all e))
      by (Awaits work child) e = absurd (true≢false (sym q ∙ ap has_freed_all e))
      by (Frees held) e =
          let over : IsOver (run_seen (own_sight r)) a.carried held = subst (KnowsDoing types (own_sight r) a.carried) e knows (own-alone _ r) in
          let at : IsOver r a.carried held = subst (λ (x : Run). IsOver x a.carried held) (own-run r) over in
          (at.over, free-is r a.carried held at ∙ sym (ap has_freed_all e) ∙ q)
      by Stopped e = absurd (true≢false (sym q ∙ ap has_freed_all e))

  -- a line's unit is settled where it is decided
  told : (u : UnitNo) → HasBegun (ends r) u → (x : Origin) → (ends r).units.origin u ≡ x → is_line x ≡ true → is_decided (ends r) u ≡ is_settled (ends r) u
  told u begun (OfLineOrigin n) q line = lines-ends r above calm u n (begun, q)
  told u begun (Child p i d) q line = absurd (true≢false (sym line))

  -- who isn't flown is no more to be looked at
  pub unflown : (a : Agent) → Knows types (own_sight r) a → (ends r).units.origin a.carried.unit ≡ a.carried.origin → is_flown (ends r) a ≡ false → is_kept (ends r) a.carried.unit ≡ false
  unflown a knows came q =
      let w : CoreState = ends r in
      let u : UnitNo = a.carried.unit in
      let both = or-false (not (has_freed_all a.doing)) (is_line a.carried.origin && not (is_decided w u)) q in
      let f = freed a knows (not-true (has_freed_all a.doing) both.0) in
      let flies : is_flying w u ≡ false = elim (cases_Bool (is_line (w.units.origin u))) [
        | inr other ↦ ap (λ (b : Bool). b && (not (is_settled w u) || not (is_free w u))) other
        | inl of-line ↦ (
            let line : is_line a.carried.origin ≡ true = ap is_line (sym came) ∙ of-line in
            let decided : is_decided w u ≡ true = not-true (is_decided w u) (ap (λ (b : Bool). b && not (is_decided w u)) (sym line) ∙ both.1) in
            let settled : is_settled w u ≡ true = sym (told u (over-begun (w.units.phase u) f.0) (w.units.origin u) refl of-line) ∙ decided in
            ap (λ (b : Bool). b && (not (is_settled w u) || not (is_free w u))) of-line ∙ ap (λ (b : Bool). not b || not (is_free w u)) settled ∙ ap not f.1)
      ] in
      ap (λ (b : Bool). (b || (is_over (w.units.phase u) && not (is_free w u))) || is_flying w u) (over-runs (w.units.phase u) f.0)
      ∙ ap (λ (b : Bool). (b && not (is_free w u)) || is_flying w u) f.0
      ∙ ap (λ (b : Bool). not b || is_flying w u) f.1 ∙ flies

  -- those that are dropped were none
  pub kept-flown : (agents : List Agent) → AllByRecursion (Knows types (own_sight r)) agents → AllByRecursion (λ (a : Agent). (ends r).units.origin a.carried.unit ≡ a.carried.origin) agents
      → filter (is_kept (ends r)) (units_carried (filter (is_flown (ends r)) agents)) ≡ filter (is_kept (ends r)) (units_carried agents)
  kept-flown [] known came = refl
  kept-flown (a ∷ agents) known came = by (is_flown (ends r) a) refl (kept-flown agents known.1 came.1)
    where
      by : (b : Bool) → is_flown (ends r) a ≡ b → filter (is_kept (ends r)) (units_carried (filter (is_flown (ends r)) agents)) ≡ filter (is_kept (ends r)) (units_carried agents)
          → filter (is_kept (ends r)) (units_carried (if b then a ∷ filter (is_flown (ends r)) agents else filter (is_flown (ends r)) agents)) ≡ filter (is_kept (ends r)) (units_carried (a ∷ agents))
      by true e more = ap (λ (l : List UnitNo). if is_kept (ends r) a.carried.unit then a.carried.unit ∷ l else l) more
      by false e more =
          more ∙ sym (ap (λ (b : Bool). if b then a.carried.unit ∷ filter (is_kept (ends r)) (units_carried agents) else filter (is_kept (ends r)) (units_carried agents)) (unflown a known.0 came.0 e))

  -- ---- who is looked at still

  -- who runs isn't decided
  undecided : (u : UnitNo) → (ends r).units.phase u ≡ Running → is_decided (ends r) u ≡ false
  undecided u q = ap (λ (p : Phase). is_some (outcome_in p ((ends r).manager.verdict u) ((ends r).manager.result u))) q

  running-begun : (u : UnitNo) → (ends r).units.phase u ≡ Running → HasBegun (ends r) u
  running-begun u q e = apart (sym q ∙ e)
    where
      apart : Running ≡ Unborn → ⊥
      apart t = absurd cc

  -- a line's unit that isn't decided is in flight
  flies-undecided : (u : UnitNo) → HasBegun (ends r) u → is_line ((ends r).units.origin u) ≡ true → is_decided (ends r) u ≡ false → (not (is_settled (ends r) u) || not (is_free (ends r) u)) ≡ true
  flies-undecided u begun line undone =
      ap (λ (b : Bool). not b || not (is_free (ends r) u)) (sym (told u begun ((ends r).units.origin u) refl line) ∙ undone)

  -- of those that are flown the lines' are in flight
  flies-line : (going : (ends r).units.halt ≡ false) (a : Agent) → Knows types (own_sight r) a → (ends r).units.origin a.carried.unit ≡ a.carried.origin → is_flown (ends r) a ≡ true → is_line a.carried.origin ≡ true
      → (not (is_settled (ends r) a.carried.unit) || not (is_free (ends r) a.carried.unit)) ≡ true
  flies-line going a knows came flown line = by a.doing refl
    where
      of-line : is_line ((ends r).units.origin a.carried.unit) ≡ true
      of-line = ap is_line came ∙ line

      runs : (ends r).units.phase a.carried.unit ≡ Running → (not (is_settled (ends r) a.carried.unit) || not (is_free (ends r) a.carried.unit)) ≡ true
      runs q = flies-undecided a.carried.unit (running-begun a.carried.unit q) of-line (undecided a.carried.unit q)

      over : (held : List GrainId) → a.doing ≡ Frees held → IsOver r a.carried held → (b : Bool) → (length held == 0) ≡ b → (not (is_settled (ends r) a.carried.unit) || not (is_free (ends r) a.carried.unit)) ≡ true
      over held e at true q =
          let f : (not (has_freed_all a.doing) || (is_line a.carried.origin && not (is_decided (ends r) a.carried.unit))) ≡ true = flown in
          let freed-all : has_freed_all a.doing ≡ true = ap has_freed_all e ∙ q in
          let left : not (is_decided (ends r) a.carried.unit) ≡ true = sym (ap (λ (b : Bool). not b || (is_line a.carried.origin && not (is_decided (ends r) a.carried.unit))) freed-all ∙ ap (λ (b : Bool). b && not (is_decided (ends r) a.carried.unit)) line) ∙ f in
          flies-undecided a.carried.unit (over-begun ((ends r).units.phase a.carried.unit) at.over) of-line (not-false (is_decided (ends r) a.carried.unit) left)
      over held e at false q = or-right (not (is_settled (ends r) a.carried.unit)) (not (is_free (ends r) a.carried.unit)) (ap not (free-is r a.carried held at ∙ q))

      by : (d : Doing) → a.doing ≡ d → (not (is_settled (ends r) a.carried.unit) || not (is_free (ends r) a.carried.unit)) ≡ true
      by (Asks work pause) e =
          let k : KnowsPaused types (own_sight r) a.carried work pause = subst (KnowsDoing types (own_sight r) a.carried) e knows in
          runs (subst (λ (x : Run). (ends x).units.phase a.carried.unit ≡ Running) (own-run r) (k.linked (own-alone _ r)).given.running)
      by (Awaits work child) e =
          let k : KnowsWaiting types (own_sight r) a.carried work child = subst (KnowsDoing types (own_sight r) a.carried) e knows in
          runs (subst (λ (x : Run). (ends x).units.phase a.carried.unit ≡ Running) (own-run r) (k.linked (own-alone _ r)).awaits.running)
      by (Frees held) e =
          let k : IsOver (run_seen (own_sight r)) a.carried held = subst (KnowsDoing types (own_sight r) a.carried) e knows (own-alone _ r) in
          over held e (subst (λ (x : Run). IsOver x a.carried held) (own-run r) k) (length held == 0) refl
      by Stopped e =
          let k : IsBarred (run_seen (own_sight r)) a.carried = subst (KnowsDoing types (own_sight r) a.carried) e knows (own-alone _ r) in
          absurd (k.stopped (subst (λ (x : Run). IsGoing (ends x)) (sym (own-run r)) (calm, going)))

  flies-as : (going : (ends r).units.halt ≡ false) (a : Agent) → Knows types (own_sight r) a → (ends r).units.origin a.carried.unit ≡ a.carried.origin → is_flown (ends r) a ≡ true
      → is_flying (ends r) a.carried.unit ≡ is_line a.carried.origin
  flies-as going a knows came flown = by (is_line a.carried.origin) refl
    where
      by : (b : Bool) → is_line a.carried.origin ≡ b → is_flying (ends r) a.carried.unit ≡ is_line a.carried.origin
      by true line = ap (λ (x : Origin). is_line x && (not (is_settled (ends r) a.carried.unit) || not (is_free (ends r) a.carried.unit))) came
          ∙ ap (λ (b : Bool). b && (not (is_settled (ends r) a.carried.unit) || not (is_free (ends r) a.carried.unit))) line ∙ flies-line going a knows came flown line ∙ sym line
      by false other = ap (λ (x : Origin). is_line x && (not (is_settled (ends r) a.carried.unit) || not (is_free (ends r) a.carried.unit))) came
          ∙ ap (λ (b : Bool). b && (not (is_settled (ends r) a.carried.unit) || not (is_free (ends r) a.carried.unit))) other ∙ sym other

  -- so many lines are in flight as agents of lines are left
  pub lines-flying : (going : (ends r).units.halt ≡ false) (agents : List Agent) → AllByRecursion (Knows types (own_sight r)) agents → AllByRecursion (λ (a : Agent). (ends r).units.origin a.carried.unit ≡ a.carried.origin) agents
      → length (filter (is_flying (ends r)) (units_carried (filter (is_flown (ends r)) agents))) ≡ lines_carried (filter (is_flown (ends r)) agents)
  lines-flying going agents known came = many agents known came ∙ length-filter (λ (a : Agent). is_line a.carried.origin) (filter (is_flown (ends r)) agents)
    where
      one : (a : Agent) (us : List UnitNo) (left : List Agent) → is_flying (ends r) a.carried.unit ≡ is_line a.carried.origin → length us ≡ length left
          → length (if is_flying (ends r) a.carried.unit then a.carried.unit ∷ us else us) ≡ length (if is_line a.carried.origin then a ∷ left else left)
      one a us left q more = ap (λ (b : Bool). length (if b then a.carried.unit ∷ us else us)) q ∙ by (is_line a.carried.origin)
        where
          by : (b : Bool) → length (if b then a.carried.unit ∷ us else us) ≡ length (if b then a ∷ left else left)
          by true = ap suc more
          by false = more

      many : (xs : List Agent) → AllByRecursion (Knows types (own_sight r)) xs → AllByRecursion (λ (a : Agent). (ends r).units.origin a.carried.unit ≡ a.carried.origin) xs
          → length (filter (is_flying (ends r)) (units_carried (filter (is_flown (ends r)) xs))) ≡ length (filter (λ (z : Agent). is_line z.carried.origin) (filter (is_flown (ends r)) xs))
      many [] k c = refl
      many (a ∷ xs) k c = by (is_flown (ends r) a) refl (many xs k.1 c.1)
        where
          by : (b : Bool) → is_flown (ends r) a ≡ b → length (filter (is_flying (ends r)) (units_carried (filter (is_flown (ends r)) xs))) ≡ length (filter (λ (z : Agent). is_line z.carried.origin) (filter (is_flown (ends r)) xs))
              → length (filter (is_flying (ends r)) (units_carried (if b then a ∷ filter (is_flown (ends r)) xs else filter (is_flown (ends r)) xs))) ≡ length (filter (λ (z : Agent). is_line z.carried.origin) (if b then a ∷ filter (is_flown (ends r)) xs else filter (is_flown (ends r)) xs))
          by true e more = one a (filter (is_flying (ends r)) (units_carried (filter (is_flown (ends r)) xs))) (filter (λ (z : Agent). is_line z.carried.origin) (filter (is_flown (ends r)) xs)) (flies-as going a k.0 c.0 e) more
          by false e more = more

  -- who is carried has begun
  begun-agent : (a : Agent) → Knows types (own_sight r) a → HasBegun (ends r) a.carried.unit
  begun-agent a knows = by a.doing refl
    where
      runs : (x : Run) → x ≡ r → (ends x).units.phase a.carried.unit ≡ Running → HasBegun (ends r) a.carried.unit
      runs x e q = running-begun a.carried.unit (subst (λ (z : Run). (ends z).units.phase a.carried.unit ≡ Running) e q)

      by : (d : Doing) → a.doing ≡ d → HasBegun (ends r) a.carried.unit
      by (Asks work pause) e =
          let k : KnowsPaused types (own_sight r) a.carried work pause = subst (KnowsDoing types (own_sight r) a.carried) e knows in
          runs (run_seen (own_sight r)) (own-run r) (k.linked (own-alone _ r)).given.running
      by (Awaits work child) e =
          let k : KnowsWaiting types (own_sight r) a.carried work child = subst (KnowsDoing types (own_sight r) a.carried) e knows in
          runs (run_seen (own_sight r)) (own-run r) (k.linked (own-alone _ r)).awaits.running
      by (Frees held) e =
          let k : IsOver (run_seen (own_sight r)) a.carried held = subst (KnowsDoing types (own_sight r) a.carried) e knows (own-alone _ r) in
          over-begun ((ends r).units.phase a.carried.unit) (subst (λ (x : Run). IsOver x a.carried held) (own-run r) k).over
      by Stopped e =
          let k : IsBarred (run_seen (own_sight r)) a.carried = subst (KnowsDoing types (own_sight r) a.carried) e knows (own-alone _ r) in
          runs (run_seen (own_sight r)) (own-run r) k.running

  -- a line's unit that is carried is decided where it is settled
  pub told-agent : (a : Agent) → Knows types (own_sight r) a → (ends r).units.origin a.carried.unit ≡ a.carried.origin → is_line a.carried.origin ≡ true
      → is_decided (ends r) a.carried.unit ≡ is_settled (ends r) a.carried.unit
  told-agent a knows came line = told a.carried.unit (begun-agent a knows) ((ends r).units.origin a.carried.unit) refl (ap is_line came ∙ line)
