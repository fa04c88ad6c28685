-- What was looked at stays so where a line begins: its unit is a line's, and has no entry.
use Rattle.std.proofs.Common.{◌≡◌, ◌<◌, ◌≤◌, ◌++◌, ℕ, Bool, true, false, List, [], ◌∷◌, Option, Some, None, inl, inr, refl, sym, ap, ◌∙◌, subst, arith, Ok, Err}
use Rattle.std.specs.Prelude.{Result}
use Rattle.std.specs.List.{AllByRecursion}
use Rattle.std.proofs.lemmas.Bool.{cases_Bool, cond-true}
use Rattle.base_types.specs.declared.calls.Call.{Call}
use Rattle.base_types.specs.declared.calls.Origin.{Origin}
use Rattle.base_types.specs.declared.calls.Origin.TheVariants.{Line as OfLine}
use Rattle.base_types.specs.declared.entries.BadRequest.{BadRequest}
use Rattle.base_types.specs.declared.entries.Settled.TheVariants as settled
use Rattle.cell_model.proofs.Units.{any-true, same_unit-true}
use Rattle.core_model.specs.Changes.{begun, new_unit, swept, swept_by}
use Rattle.core_model.specs.CoreState.{UnitNo, Entry, Settled, CoreState, same_unit}
use Rattle.core_model.specs.Events.{applies, does, reply_to}
use Rattle.core_model.specs.LegalRuns.{Run, ends}
use Rattle.core_model.specs.ProperEntries.{HasUnitOf}
use Rattle.core_model.specs.Tests.{any}
use Rattle.core_model.specs.declared.events.CoreEvent.{CoreEvent}
use Rattle.core_model.specs.declared.events.CoreEvent.TheVariants.{Begin}
use Rattle.core_model.specs.declared.events.CoreReply.TheVariants as reply
use Rattle.core_laws.proofs.Numbers.{numbered-ends}
use Rattle.core_laws.proofs.Proper.{has-unit-ends}
use Rattle.core_laws.proofs.Puts.{put-same}
use Rattle.core_access.specs.OneHolder.{none_comes, own_sight}
use Rattle.core_access.proofs.OneHolder.{own-run}
use Rattle.core_access.proofs.Sights.{reply-alone}
use Rattle.script_tree.specs.Programs.{ProgramTree}
use Rattle.promise_spec.specs.TurnRule.{is_line, is_settled}
use Rattle.turn_rules.specs.NextEvent.{with_event}
use Rattle.turn_rules.proofs.Growth.{ends-more}
use Rattle.txn_agent.specs.declared.agent.Agent.{Agent}
use Rattle.txn_agent.specs.Replies.{began_by}
use Rattle.txn_agent.proofs.ChildBegins.{began-reply}
use Rattle.unit_carrier.specs.CarriedUnits.{AreCarried, units_carried}
use Rattle.unit_carrier.specs.Lines.{BeginsOn, IsEventOf, with_begun}
use Rattle.unit_carrier.proofs.LineUnit.{bad-none, began-is}
use Rattle.interleaver.specs.LastLook.{IsLooked}
use Rattle.interleaver.proofs.LastLook.{below-of, event-looked}
use Rattle.interleaver.proofs.LonePasses.{own-told}

-- ---- the unit that begins next

-- an entry's unit is another one
apart-next : (base : ℕ) (w : CoreState) (u : UnitNo) (what : Settled) → 0 < base → base ≤ w.units.next → HasUnitOf base w u what → u.0 ≡ w.units.next → ⊥
apart-next base w u (settled.Bad why) first low h q = let none : u.0 ≡ 0 = ap (λ (x : UnitNo). x.0) h in absurd (omega (arith, first, low, none, q))
apart-next base w u (settled.Done result) first low h q = let below = h.1 in absurd (omega (arith, below, q))
apart-next base w u (settled.Lock by g) first low h q = let below = h.1 in absurd (omega (arith, below, q))
apart-next base w u (settled.Vote g) first low h q = let below = h.1 in absurd (omega (arith, below, q))
apart-next base w u (settled.Dependency on) first low h q = let below = h.1 in absurd (omega (arith, below, q))
apart-next base w u settled.Disk first low h q = let below = h.1 in absurd (omega (arith, below, q))
apart-next base w u settled.InDoubt first low h q = let below = h.1 in absurd (omega (arith, below, q))

-- so it has none
next-unsettled : (r : Run) → 0 < r.base → is_settled (ends r) (new_unit (ends r)) ≡ false
next-unsettled r first = elim (cases_Bool (is_settled (ends r) (new_unit (ends r)))) [
  | inr none ↦ none
  | inl some ↦ (
      let x = any-true (λ (x : Entry). same_unit x.unit (new_unit (ends r))) (ends r).manager.settled some in
      let q : x.0.unit.0 ≡ (ends r).units.next = ap (λ (u : UnitNo). u.0) (same_unit-true x.0.unit (new_unit (ends r)) x.2) in
      absurd (apart-next r.base (ends r) x.0.unit x.0.what first (numbered-ends r).0 (has-unit-ends r first x.0 x.1) q))
]

-- grains that leave memory leave entries and origins
swept-leaves : (w : CoreState) → ((swept w).manager.settled ≡ w.manager.settled) × ((swept w).units.origin ≡ w.units.origin)
swept-leaves w = go w.cells.capacity
  where
    go : (c : Option ℕ) → ((swept_by w c).manager.settled ≡ w.manager.settled) × ((swept_by w c).units.origin ≡ w.units.origin)
    go None = (refl, refl)
    go (Some n) = (refl, refl)

module _ (r : Run) (first : 0 < r.base) (number : ℕ) (call : Call) (plain : Bool) (a : applies (ends r) (Begin (OfLine number) call plain) ≡ true) where
  abbrev e : CoreEvent
  e = Begin (OfLine number) call plain

  abbrev w' : CoreState
  w' = begun (ends r) (OfLine number) call plain

  -- the last state, behind the begin
  behind : ends (with_event r e) ≡ swept w'
  behind = ends-more r e ∙ cond-true (applies (ends r) e) (swept (does (ends r) e)) (ends r) a

  -- once it began, it is a line's
  begun-line : is_line ((ends (with_event r e)).units.origin (new_unit (ends r))) ≡ true
  begun-line =
      ap (λ (w : CoreState). is_line (w.units.origin (new_unit (ends r)))) behind
      ∙ ap (λ (f : UnitNo → Origin). is_line (f (new_unit (ends r)))) (swept-leaves w').1
      ∙ ap is_line (put-same (ends r).units.origin (new_unit (ends r)) (OfLine number))

  -- and has no entry still
  begun-unsettled : is_settled (ends (with_event r e)) (new_unit (ends r)) ≡ false
  begun-unsettled =
      ap (λ (w : CoreState). is_settled w (new_unit (ends r))) behind
      ∙ ap (λ (l : List Entry). any (λ (x : Entry). same_unit x.unit (new_unit (ends r))) l) (swept-leaves w').0
      ∙ next-unsettled r first

-- ---- what was looked at

-- of all, and of one more
all-more : {A : Type 0} (P : A → Type 0) (xs : List A) (x : A) → AllByRecursion P xs → P x → AllByRecursion P (xs ++ (x ∷ []))
all-more P [] x all p = (p, tt)
all-more P (y ∷ xs) x all p = (all.0, all-more P xs x all.1 p)

-- a line's unit that has no entry is looked at too
more-looked : (looked : Option ℕ) (r : Run) (us : List UnitNo) (v : UnitNo) → is_line ((ends r).units.origin v) ≡ true → is_settled (ends r) v ≡ false → IsLooked looked r us → IsLooked looked r (us ++ (v ∷ []))
more-looked None r us v line out known = tt
more-looked (Some many) r us v line out known = record {
  lines = all-more (λ (u : UnitNo). is_line ((ends r).units.origin u) ≡ true) us v known.lines line;
  fewer = known.fewer;
  out = λ q. all-more (λ (u : UnitNo). is_settled (ends r) u ≡ false) us v (known.out q) out;
}

-- behind a line's event
pub begins-looked : (types : ProgramTree) (number : ℕ) (what : Result Call BadRequest) (looked : Option ℕ) (r r' : Run) (before : List Agent) (after : List UnitNo) (began : Option UnitNo) → AreCarried types none_comes (own_sight r) before → 0 < r.base
    → BeginsOn none_comes types number what (own_sight r) (own_sight r') (units_carried before) after began → IsLooked looked r (units_carried before) → IsLooked looked r' after
begins-looked types number what looked r r' before after began c first on known =
    subst (λ (us : List UnitNo). IsLooked looked r' us) (sym on.units)
    (subst (λ (x : Run). IsLooked looked x (with_begun (units_carried before) began)) (sym (own-told r r' on.put.e on.r on.put.told))
    (by began (sym on.is) what on.put.is))
  where
    still : (e : CoreEvent) → IsLooked looked (with_event r e) (units_carried before)
    still e = event-looked looked r e (units_carried before) (below-of types r before c) known

    replied : on.r ≡ reply_to (ends r) on.put.e
    replied = reply-alone (own_sight r) (own_sight r') on.put.e on.r on.put.told ∙ ap (λ (x : Run). reply_to (ends x) on.put.e) (own-run r)

    one-none : (v : UnitNo) → Some v ≡ None → ⊥
    one-none v q = absurd cc

    more : (call : Call) (plain : Bool) (v : UnitNo) → reply.Began v ≡ reply_to (ends r) (Begin (OfLine number) call plain) → IsLooked looked (with_event r (Begin (OfLine number) call plain)) (units_carried before ++ (v ∷ []))
    more call plain v q =
        let new = began-reply (ends r) (OfLine number) call plain v q in
        subst (λ (u : UnitNo). IsLooked looked (with_event r (Begin (OfLine number) call plain)) (units_carried before ++ (u ∷ []))) (sym new.1)
        (more-looked looked (with_event r (Begin (OfLine number) call plain)) (units_carried before) (new_unit (ends r)) (begun-line r first number call plain new.0) (begun-unsettled r first number call plain new.0)
        (still (Begin (OfLine number) call plain)))

    by : (o : Option UnitNo) → began_by on.r ≡ o → (what : Result Call BadRequest) → IsEventOf types number what on.put.e → IsLooked looked (with_event r on.put.e) (with_begun (units_carried before) o)
    by None q what is = still on.put.e
    by (Some v) q (Ok call) is =
        subst (λ (e : CoreEvent). IsLooked looked (with_event r e) (units_carried before ++ (v ∷ []))) (sym is.1)
        (more call is.0 v (sym (began-is on.r v q) ∙ replied ∙ ap (reply_to (ends r)) is.1))
    by (Some v) q (Err why) is = absurd (one-none v (sym q ∙ sym (bad-none (ends r) number why on.r (replied ∙ ap (reply_to (ends r)) is))))
