-- Whom the pass of a turn has asked, and who of them waits for no grain.
use Rattle.std.proofs.Common.{◌≡◌, ◌⊎◌, inl, inr, ℕ, zero, suc, ◌+◌, ◌<◌, ◌≤◌, Option, Some, None, List, [], ◌∷◌, length, Bool, true, false, true≢false, refl, sym, ap, ◌∙◌, subst, arith}
use Rattle.std.specs.Prelude.{take, drop, slice_get}
use Rattle.std.specs.List.{AllByRecursion}
use Rattle.std.proofs.lemmas.Bool.{cases_Bool, cases_lt}
use Rattle.cell_model.specs.Units.{UnitsAscend}
use Rattle.core_model.specs.CoreState.{UnitNo, GrainId, Member, Mode}
use Rattle.core_model.specs.declared.events.CoreEvent.{CoreEvent}
use Rattle.core_model.specs.declared.phases.Phase.{Phase}
use Rattle.core_model.specs.declared.phases.Phase.TheVariants.{Unborn, Running, Finished, Refused, Ended}
use Rattle.core_model.specs.Tests.{is_over, is_running}
use Rattle.core_model.specs.LegalRuns.{Run, ends}
use Rattle.core_laws.proofs.WithoutLimit.{here-without-limit}
use Rattle.core_access.specs.OneHolder.{none_comes, own_sight}
use Rattle.core_access.specs.Sights.{Sight, run_seen}
use Rattle.core_access.proofs.OneHolder.{own-run}
use Rattle.script_tree.specs.Programs.{ProgramTree}
use Rattle.promise_spec.specs.UnitAnswers.{got_in}
use Rattle.promise_spec.specs.TurnRule.{lock_asked, waits_for_load}
use Rattle.turn_rules.specs.TurnLoop.{waits_in}
use Rattle.turn_rules.proofs.Passes.{waits-free, waits-run}
use Rattle.txn_agent.specs.declared.agent.Agent.{Agent}
use Rattle.txn_agent.specs.declared.work.Doing.{Doing}
use Rattle.txn_agent.specs.declared.work.Doing.TheVariants.{Asks, Awaits, Frees, Stopped}
use Rattle.txn_agent.specs.AgentStep.{has_freed_all}
use Rattle.txn_agent.specs.CoreLink.{IsOver, Knows}
use Rattle.unit_carrier.specs.CarriedUnits.{AreCarried, AreFreed, HasCoreAlone, units_carried}
use Rattle.interleaver.specs.TurnStages.{HasReached}

-- ---- units in number order

-- who is behind the front is one of them
left-member : (units : List UnitNo) (i : ℕ) (v : UnitNo) → Member v (drop i units) → Member v units
left-member units zero v m = m
left-member [] (suc i) v m = absurd m
left-member (u ∷ units) (suc i) v m = inr (left-member units i v m)

-- each is at the front or behind it
pub front-or-left : (units : List UnitNo) (i : ℕ) (v : UnitNo) → Member v units → Member v (take i units) ⊎ Member v (drop i units)
front-or-left units zero v m = inr m
front-or-left [] (suc i) v m = absurd m
front-or-left (u ∷ units) (suc i) v (inl q) = inl (inl q)
front-or-left (u ∷ units) (suc i) v (inr m) = elim (front-or-left units i v m) [ inl f ↦ inl (inr f) | inr b ↦ inr b ]

-- the one at an index is one of them
pub at-member : (units : List UnitNo) (i : ℕ) (u : UnitNo) → slice_get units i ≡ Some u → Member u units
at-member [] i u q = absurd cc
at-member (x ∷ units) zero u q = inl (same x u q)
  where
    same : (a b : UnitNo) → Some a ≡ Some b → b ≡ a
    same a b e = cc
at-member (x ∷ units) (suc i) u q = inr (at-member units i u q)

-- and is left where those before it were asked
pub at-left : (units : List UnitNo) (i : ℕ) (u : UnitNo) → slice_get units i ≡ Some u → Member u (drop i units)
at-left units zero u q = at-member units zero u q
at-left [] (suc i) u q = absurd cc
at-left (x ∷ units) (suc i) u q = at-left units i u q

-- those before it and itself are no younger
front-below : (units : List UnitNo) → UnitsAscend units → (i : ℕ) (u : UnitNo) → slice_get units i ≡ Some u → (v : UnitNo) → Member v (take (suc i) units) → v.0 ≤ u.0
front-below [] older i u q v m = absurd m
front-below (x ∷ units) older zero u q v (inl e) = (let n : v.0 ≡ x.0 = ap (λ (y : UnitNo). y.0) e in let k : x.0 ≡ u.0 = number x u q in omega (arith, n, k))
  where
    number : (a b : UnitNo) → Some a ≡ Some b → a.0 ≡ b.0
    number a b e = ap (λ (y : UnitNo). y.0) (let z : a ≡ b = cc in z)
front-below (x ∷ units) older zero u q v (inr m) = absurd m
front-below (x ∷ units) older (suc i) u q v (inl e) = (let n : v.0 ≡ x.0 = ap (λ (y : UnitNo). y.0) e in let less = older.0 u (at-member units i u q) in omega (arith, n, less))
front-below (x ∷ units) older (suc i) u q v (inr m) = front-below units older.1 i u q v m

-- and those behind it are younger
left-above : (units : List UnitNo) → UnitsAscend units → (i : ℕ) (u : UnitNo) → slice_get units i ≡ Some u → (v : UnitNo) → Member v (drop (suc i) units) → u.0 < v.0
left-above [] older i u q v m = absurd m
left-above (x ∷ units) older zero u q v m = (let less = older.0 v m in let k : x.0 ≡ u.0 = number x u q in omega (arith, less, k))
  where
    number : (a b : UnitNo) → Some a ≡ Some b → a.0 ≡ b.0
    number a b e = ap (λ (y : UnitNo). y.0) (let z : a ≡ b = cc in z)
left-above (x ∷ units) older (suc i) u q v m = left-above units older.1 i u q v m

-- ---- whom the pass has reached

-- behind the unit at an index
pub reached-next : (units : List UnitNo) → UnitsAscend units → (i : ℕ) (u : UnitNo) → slice_get units i ≡ Some u → HasReached units (i + 1) (u.0 + 1)
reached-next units older i u q =
    let e : suc i ≡ i + 1 = omega arith in
    subst (λ (k : ℕ). HasReached units k (u.0 + 1)) e (record {
      asked = λ v m. (let le = front-below units older i u q v m in omega (arith, le));
      left = λ v m. (let less = left-above units older i u q v m in omega (arith, less));
    })

-- before it
pub reached-at : (units : List UnitNo) (i n : ℕ) (u : UnitNo) → HasReached units i n → slice_get units i ≡ Some u → n ≤ u.0
reached-at units i n u reached q = reached.left u (at-left units i u q)

-- of those that wait between where the pass stands and it there is none
pub none-between : (units : List UnitNo) → UnitsAscend units → (i n : ℕ) (u : UnitNo) → HasReached units i n → slice_get units i ≡ Some u → (v : UnitNo) → Member v units → n ≤ v.0 → v.0 < u.0 → ⊥
none-between units older i n u reached q v m low high = elim (front-or-left units (suc i) v m) [
  | inl front ↦ elim (front-or-left units i v m) [
    | inl before ↦ (let less = reached.asked v before in absurd (omega (arith, less, low)))
    | inr left ↦ behind units older i u q v left high
  ]
  | inr left ↦ (let less = left-above units older i u q v left in absurd (omega (arith, less, high)))
]
  where
    behind : (units : List UnitNo) → UnitsAscend units → (i : ℕ) (u : UnitNo) → slice_get units i ≡ Some u → (v : UnitNo) → Member v (drop i units) → v.0 < u.0 → ⊥
    behind [] older i u q v m less = absurd cc
    behind (x ∷ units) older zero u q v (inl e) less =
        (let n : v.0 ≡ x.0 = ap (λ (y : UnitNo). y.0) e in let k : x.0 ≡ u.0 = number x u q in absurd (omega (arith, n, k, less)))
      where
        number : (a b : UnitNo) → Some a ≡ Some b → a.0 ≡ b.0
        number a b e = ap (λ (y : UnitNo). y.0) (let z : a ≡ b = cc in z)
    behind (x ∷ units) older zero u q v (inr m) less = (let more = left-above (x ∷ units) older zero u q v m in absurd (omega (arith, more, less)))
    behind (x ∷ units) older (suc i) u q v m less = behind units older.1 i u q v m less

-- some number stands between the front and all behind it
pub reached-some : (units : List UnitNo) → UnitsAscend units → (i : ℕ) → (n : ℕ) × HasReached units i n
reached-some units older zero = (0, record { asked = λ v m. absurd m; left = λ v m. omega arith })
reached-some [] older (suc i) = (0, record { asked = λ v m. absurd m; left = λ v m. absurd m })
reached-some (u ∷ units) older (suc i) =
    let t = reached-some units older.1 i in
    elim (cases_lt u.0 t.0) [
      | inl less ↦ (
        t.0,
        record {
          asked = λ v m. elim m [ inl q ↦ (let n : v.0 ≡ u.0 = ap (λ (x : UnitNo). x.0) q in omega (arith, n, less)) | inr more ↦ t.1.asked v more ];
          left = λ v m. t.1.left v m;
        },
      )
      | inr le ↦ (
        u.0 + 1,
        record {
          asked = λ v m. elim m [ inl q ↦ (let n : v.0 ≡ u.0 = ap (λ (x : UnitNo). x.0) q in omega (arith, n)) | inr more ↦ (let below = t.1.asked v more in omega (arith, below, le)) ];
          left = λ v m. (let above = older.0 v (left-member units i v m) in omega (arith, above));
        },
      )
    ]

-- where all were asked none is left
pub reached-all : (units : List UnitNo) (i n : ℕ) → length units ≤ i → HasReached units i n → (v : UnitNo) → Member v units → v.0 < n
reached-all units i n le reached v m = reached.asked v (all-front units i le v m)
  where
    all-front : (units : List UnitNo) (i : ℕ) → length units ≤ i → (v : UnitNo) → Member v units → Member v (take i units)
    all-front [] i le v m = absurd m
    all-front (u ∷ units) zero le v m = absurd (omega (arith, le))
    all-front (u ∷ units) (suc i) le v (inl q) = inl q
    all-front (u ∷ units) (suc i) le v (inr m) = inr (all-front units i (omega (arith, le)) v m)

-- ---- who waits for no grain

over-rests : (p : Phase) → is_over p ≡ true → is_running p ≡ false
over-rests Unborn q = refl
over-rests Running q = absurd (true≢false (sym q))
over-rests Finished q = refl
over-rests Refused q = refl
over-rests Ended q = refl

-- who doesn't run waits for none
idle-calm : (types : ProgramTree) (r : Run) (u : UnitNo) → is_running ((ends r).units.phase u) ≡ false → waits_in types r u ≡ false
idle-calm types r u idle = elim (cases_Bool (waits_in types r u)) [
  | inr fails ↦ fails
  | inl waits ↦ absurd (true≢false (sym (waits-run (ends r) u (lock_asked types (ends r) (got_in r) u) waits) ∙ idle))
]

-- the unit of an agent that has given back all its locks doesn't run
freed-over : (types : ProgramTree) (may : CoreEvent → Bool) (s : Sight) (a : Agent) → HasCoreAlone may s → Knows types s a → has_freed_all a.doing ≡ true → is_running ((ends (run_seen s)).units.phase a.carried.unit) ≡ false
freed-over types may s a h knows q = by a.doing knows q
  where
    by : (d : Doing) → Knows types s (record a { doing = d }) → has_freed_all d ≡ true → is_running ((ends (run_seen s)).units.phase a.carried.unit) ≡ false
    by (Asks work pause) k e = absurd (true≢false (sym e))
    by (Awaits work child) k e = absurd (true≢false (sym e))
    by (Frees held) k e = (let over : IsOver (run_seen s) a.carried held = k (h.alone _) in over-rests ((ends (run_seen s)).units.phase a.carried.unit) over.over)
    by Stopped k e = absurd (true≢false (sym e))

-- so those at the front don't
pub freed-idle : (types : ProgramTree) (r : Run) (agents : List Agent) (n : ℕ) → AreCarried types none_comes (own_sight r) agents → AreFreed n agents
    → (v : UnitNo) → Member v (take n (units_carried agents)) → is_running ((ends r).units.phase v) ≡ false
freed-idle types r agents n c freed = go agents n c.known freed
  where
    go : (xs : List Agent) (k : ℕ) → AllByRecursion (Knows types (own_sight r)) xs → AreFreed k xs → (v : UnitNo) → Member v (take k (units_carried xs)) → is_running ((ends r).units.phase v) ≡ false
    go xs zero known freed v m = absurd m
    go [] (suc k) known freed v m = absurd m
    go (a ∷ xs) (suc k) known freed v (inr m) = go xs k known.1 freed.1 v m
    go (a ∷ xs) (suc k) known freed v (inl q) =
        subst (λ (u : UnitNo). is_running ((ends r).units.phase u) ≡ false) (sym q)
        (subst (λ (x : Run). is_running ((ends x).units.phase a.carried.unit) ≡ false) (own-run r) (freed-over types none_comes (own_sight r) a c.holds known.0 freed.0))

-- and wait for none
pub freed-calm : (types : ProgramTree) (r : Run) (agents : List Agent) (n : ℕ) → AreCarried types none_comes (own_sight r) agents → AreFreed n agents
    → (v : UnitNo) → Member v (take n (units_carried agents)) → waits_in types r v ≡ false
freed-calm types r agents n c freed v m = idle-calm types r v (freed-idle types r agents n c freed v m)

-- and nobody does where memory has no limit
pub here-calm : (types : ProgramTree) (r : Run) → r.capacity ≡ None → (u : UnitNo) → waits_in types r u ≡ false
here-calm types r limit u = by (lock_asked types (ends r) (got_in r) u)
  where
    by : (o : Option (GrainId × Mode)) → waits_for_load (ends r) u o ≡ false
    by None = refl
    by (Some asked) = elim (cases_Bool (waits_for_load (ends r) u (Some asked))) [
      | inr fails ↦ fails
      | inl waits ↦ absurd (true≢false (sym (here-without-limit r limit asked.0) ∙ (waits-free r u asked.0 asked.1 waits).0))
    ]
