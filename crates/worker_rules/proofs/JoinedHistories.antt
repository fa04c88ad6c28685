-- A history in which each event is due at its place, behind a run that keeps the unit rule: which units began in it, and that
-- who is done stays done.
use Rattle.std.proofs.Common.{◌≡◌, ◌⊎◌, inl, inr, ⊎_elim, ℕ, ◌≤◌, ◌<◌, List, [], ◌∷◌, ◌++◌, Bool, true, false, true≢false, refl, sym, ap, ◌∙◌, subst, arith}
use Rattle.std.proofs.lemmas.Bool.{cases_Bool, cases_lt, cond-true, cond-false}
use Rattle.base_types.specs.Lists.{Member}
use Rattle.core_model.specs.CoreState.{UnitNo, Call, Origin, CoreState}
use Rattle.core_model.specs.Changes.{swept}
use Rattle.core_model.specs.Tests.{is_over}
use Rattle.core_model.specs.declared.events.CoreEvent.{CoreEvent}
use Rattle.core_model.specs.declared.events.CoreEvent.TheVariants.{Begin}
use Rattle.core_model.specs.declared.events.CoreReply.TheVariants.{Began}
use Rattle.core_model.specs.Events.{applies, does, step, reply_to, reply_with, reply_without}
use Rattle.core_model.specs.LegalRuns.{Run, ends}
use Rattle.promise_spec.specs.Cores.{HasBegun}
use Rattle.promise_spec.specs.UnitAnswers.{got_in}
use Rattle.promise_spec.specs.UnitRule.{Basis, KeepsUnitRule}
use Rattle.turn_rules.specs.NextEvent.{with_event, is_begin, is_own, MayCome}
use Rattle.turn_rules.specs.RunCounts.{IsCounted}
use Rattle.turn_rules.specs.UnitFrame.{IsStill}
use Rattle.turn_rules.proofs.RunCounts.{counted-ends}
use Rattle.turn_rules.proofs.Frame.{still-step}
use Rattle.turn_rules.proofs.Growth.{ends-more, unit-grows}
use Rattle.turn_rules.proofs.Movers.{still-free}
use Rattle.turn_rules.proofs.Numbers.{next-stays, next-begun}
use Rattle.core_access.specs.Histories.{Told, reply_in, run_after, IsTrue}
use Rattle.core_access.specs.SettlerEvents.{is_settling}
use Rattle.worker_rules.specs.SharedHistories.{IsRuled}
use Rattle.worker_rules.proofs.Numbers.{began-next}
use Rattle.worker_rules.specs.ClosedCore.{IsOverAndFree}
use Rattle.worker_rules.proofs.Growth.{going-event}
use Rattle.core_laws.proofs.LoadlessKept.{loadless-ends}

-- The run keeps the unit rule, and behind it the history is true and each of its events is due.
pub record Story (b : Basis) (r : Run) (log : List Told) : Type 0 where
  pub above : 0 < r.base
  pub rule : KeepsUnitRule b r
  pub ruled : IsRuled (MayCome b) r log
  pub legal : IsTrue r log

-- behind its first entry
pub story-tail : (b : Basis) (r : Run) (x : Told) (log : List Told) → Story b r (x ∷ log) → Story b (with_event r x.event) log
story-tail b r x log s = record {
  above = s.above;
  rule = unit-grows b r x.event s.rule (s.ruled [] x log refl);
  ruled = λ before e rest q. s.ruled (x ∷ before) e rest (λ j. x ∷ q j);
  legal = s.legal.1;
}

-- behind a first part
pub story-rest : (b : Basis) (shown rest : List Told) (r : Run) → Story b r (shown ++ rest) → Story b (run_after r shown) rest
story-rest b [] rest r s = s
story-rest b (x ∷ shown) rest r s = story-rest b shown rest (with_event r x.event) (story-tail b r x (shown ++ rest) s)

-- the last run keeps the unit rule
pub story-end : (b : Basis) (log : List Told) (r : Run) → Story b r log → KeepsUnitRule b (run_after r log)
story-end b [] r s = s.rule
story-end b (x ∷ log) r s = story-end b log (with_event r x.event) (story-tail b r x log s)

-- ---- who began

-- an event begins a unit, or is another one
abbrev Begins : CoreEvent → Type 0
Begins e = (origin : Origin) × (call : Call) × (plain : Bool) × (e ≡ Begin origin call plain)

begins-or : (e : CoreEvent) → Begins e ⊎ (is_begin e ≡ false)
begins-or (Begin origin call plain) = inl (origin, call, plain, refl)
begins-or _ = inr refl

-- a unit that has begun behind an event had begun before it, or the event is answered by its number
begun-event : (r : Run) (e : CoreEvent) (u : UnitNo) → 0 < r.base → HasBegun (ends (with_event r e)) u → HasBegun (ends r) u ⊎ (reply_in r e ≡ Began u)
begun-event r e u above born = elim (cases_lt u.0 (ends r).units.next) [
  | inl less ↦ inl (counted.born u low less)
  | inr le ↦ inr (elim (begins-or e) [
    | inl g ↦ subst (λ (x : CoreEvent). reply_in r x ≡ Began u) (sym g.3) (begun g.0 g.1 g.2 g.3 le)
    | inr o ↦ absurd (let same = ap (λ (w : CoreState). w.units.next) (ends-more r e) ∙ next-stays (ends r) e o in omega (arith, same, high, le))
  ])
]
  where
    counted : IsCounted r.base (ends r) (got_in r)
    counted = counted-ends r above

    low : r.base ≤ u.0
    low = (counted-ends (with_event r e) above).numbered u born

    high : u.0 < (ends (with_event r e)).units.next
    high = elim (cases_lt u.0 (ends (with_event r e)).units.next) [
      | inl less ↦ less
      | inr le ↦ absurd (born ((loadless-ends (with_event r e) above).0.unborn u le))
    ]

    begun : (origin : Origin) (call : Call) (plain : Bool) → e ≡ Begin origin call plain → (ends r).units.next ≤ u.0 → reply_in r (Begin origin call plain) ≡ Began u
    begun origin call plain is le = elim (cases_Bool (applies (ends r) (Begin origin call plain))) [
      | inl a ↦ (
          let more = ap (λ (w : CoreState). w.units.next) (ends-more r e) ∙ (ap (λ (x : CoreEvent). (step (ends r) x).units.next) is ∙ next-begun (ends r) origin call plain a) in
          let number : (ends r).units.next ≡ u.0 = omega (arith, more, high, le) in
          cond-true (applies (ends r) (Begin origin call plain)) (reply_with (ends r) (Begin origin call plain)) (reply_without (ends r) (Begin origin call plain)) a
          ∙ ap (λ (n : ℕ). Began (record { 0 = n })) number)
      | inr a ↦ absurd (
          let none : step (ends r) (Begin origin call plain) ≡ ends r = cond-false (applies (ends r) (Begin origin call plain)) (swept (does (ends r) (Begin origin call plain))) (ends r) a in
          let same : (ends (with_event r e)).units.next ≡ (ends r).units.next = ap (λ (w : CoreState). w.units.next) (ends-more r e ∙ (ap (step (ends r)) is ∙ none)) in
          omega (arith, same, high, le))
    ]

-- so a unit that has begun behind a history had begun before it, or began by one of its entries
pub begun-after : (b : Basis) (log : List Told) (r : Run) (u : UnitNo) → Story b r log → HasBegun (ends (run_after r log)) u
    → HasBegun (ends r) u ⊎ ((x : Told) × Member x log × (x.reply ≡ Began u))
begun-after b [] r u s born = inl born
begun-after b (x ∷ log) r u s born =
    let t = story-tail b r x log s in
    elim (begun-after b log (with_event r x.event) u t born) [
      | inl there ↦ elim (begun-event r x.event u s.above there) [
        | inl here ↦ inl here
        | inr said ↦ inr (x, inl refl, s.legal.0 ∙ said)
      ]
      | inr y ↦ inr (y.0, inr y.1, y.2)
    ]

-- the reply of an entry is that of some state to its event
pub reply-there : (log : List Told) (r : Run) (x : Told) → IsTrue r log → Member x log → (w : CoreState) × (x.reply ≡ reply_to w x.event)
reply-there [] r x legal i = absurd i
reply-there (y ∷ log) r x legal i = ⊎_elim
    (λ (t : x ≡ y). (ends r, subst (λ (z : Told). z.reply ≡ reply_to (ends r) z.event) (sym t) legal.0))
    (λ (t : Member x log). reply-there log (with_event r y.event) x legal.1 t)
    i

-- no unit begins by what isn't a begin
pub none-began : (w : CoreState) (e : CoreEvent) (u : UnitNo) → is_begin e ≡ false → reply_to w e ≡ Began u → ⊥
none-began w e u o q = let more = (began-next w e u q).1 in let same = next-stays w e o in omega (arith, more, same)

-- no event of the settler's is one
pub settles-no-begin : (e : CoreEvent) → is_settling e ≡ true → is_begin e ≡ false
settles-no-begin (Begin origin call plain) q = absurd (true≢false (sym q))
settles-no-begin _ q = refl

-- ---- who is done

done-event : (b : Basis) (r : Run) (x : Told) (log : List Told) (u : UnitNo) → Story b r (x ∷ log) → is_own u x.event ≡ false → IsOverAndFree u r → IsOverAndFree u (with_event r x.event)
done-event b r x log u s other done going =
    let d = done (going-event r x.event going) in
    let still : IsStill u (ends r) (ends (with_event r x.event)) = subst (IsStill u (ends r)) (sym (ends-more r x.event))
    (still-step u (ends r) x.event (loadless-ends r s.above)
    (λ q. true≢false (sym d.0 ∙ ap is_over q)) other) in (
      ap is_over still.phase ∙ d.0,
      still-free u (ends r) (ends (with_event r x.event)) still ∙ d.1,
    )

-- one is so behind a history without events of the unit
pub done-after : (b : Basis) (log : List Told) (r : Run) (u : UnitNo) → Story b r log → ((x : Told) → Member x log → is_own u x.event ≡ false) → IsOverAndFree u r → IsOverAndFree u (run_after r log)
done-after b [] r u s others done = done
done-after b (x ∷ log) r u s others done =
    done-after b log (with_event r x.event) u (story-tail b r x log s) (λ y i. others y (inr i)) (done-event b r x log u s (others x (inl refl)) done)
