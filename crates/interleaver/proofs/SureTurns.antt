-- A pass that goes past a unit which lacks no grain for sure, and one that is asked behind a look at its child.
use Rattle.std.proofs.Common.{◌≡◌, ◌⊎◌, inl, inr, ℕ, zero, suc, ◌+◌, ◌-◌, ◌<◌, ◌≤◌, List, [], ◌∷◌, arith, Bool, true, false, true≢false, refl, sym, ap, ◌∙◌, subst, Option, Some, None, Ok, Err}
use Rattle.std.specs.Prelude.{Result, drop, length, slice_get, take}
use Rattle.std.proofs.lemmas.Bool.{cases_Bool}
use Rattle.std.proofs.lemmas.Option.{get_or_from_slice_get, slice_get-get_or}
use Rattle.cell_memory.specs.SpareMemory.{has_space}
use Rattle.core_model.specs.CoreState.{UnitNo, GrainId, Mode, Member, nobody}
use Rattle.core_model.specs.LockAnswers.{IsGoing}
use Rattle.core_model.specs.LegalRuns.{Run, ends}
use Rattle.core_access.specs.OneHolder.{none_comes, own_sight}
use Rattle.core_access.specs.Sights.{Sight, Looks, run_seen}
use Rattle.core_access.proofs.OneHolder.{own-run}
use Rattle.txn_agent.proofs.ComposedSteps.{looks_self}
use Rattle.request_wire.specs.declared.requests.Line.{Line}
use Rattle.script_tree.specs.Programs.{ProgramTree}
use Rattle.promise_spec.specs.TurnRule.{lock_asked, waits_for_load}
use Rattle.promise_spec.specs.UnitAnswers.{got_in}
use Rattle.turn_rules.specs.CarriedUnits.{can_begin_by}
use Rattle.turn_rules.specs.TurnLoop.{waits_in}
use Rattle.turn_rules.proofs.Passes.{waits-free, waits-run}
use Rattle.txn_agent.specs.declared.agent.Agent.{Agent}
use Rattle.txn_agent.specs.AgentStep.{is_awaiting}
use Rattle.txn_agent.specs.Wishes.{LacksNoGrain, Wishes}
use Rattle.unit_carrier.specs.CarriedUnits.{AreCarried, AreFreed, WishesAt, as_carried, unit_at, units_carried}
use Rattle.unit_carrier.proofs.MoverSearch.{all-at, map-at}
use Rattle.unit_carrier.proofs.Places.{units-same}
use Rattle.run_books.proofs.SettlerFrame.{beside-fault, beside-well}
use Rattle.run_books.specs.declared.faults.RunFault.{RunFault}
use Rattle.run_books.specs.Beginnings.{Outset}
use Rattle.run_books.specs.Books.{Books}
use Rattle.run_books.specs.Stages.{Stage}
use Rattle.interleaver.specs.declared.turns.Turns.{Turns}
use Rattle.interleaver.specs.SureUnits.{AreSure, LackNone, LacksNone, NeedsNone}
use Rattle.interleaver.specs.TurnStages.{AskedSays, AsksOne, IsAsking, HasReached, IsUnderWay, PassGoesOn, TurnStage, WentOn, passing_stage, turn_stage}
use Rattle.interleaver.proofs.OtherTurns.{loop-into, still-went}
use Rattle.interleaver.proofs.PickedTurns.{at-outset}
use Rattle.interleaver.proofs.AskedUnits.{at-member, freed-idle}
use Rattle.interleaver.proofs.PassAnswers.{many-carried}
use Rattle.interleaver.proofs.SureUnits.{idle-needs, needs-rests, shown-needs}
use Rattle.interleaver.proofs.TurnSequence.{ends-then, went-then}

-- ---- who lacks no grain has no wish

-- for sure
pub sure-wishes : (types : ProgramTree) (r : Run) (u : UnitNo) → has_space (ends r).cells ≡ true → (IsGoing (ends r) → NeedsNone types r u) → WishesAt types u (own_sight r) (own_sight r) false
sure-wishes types r u space need = λ going none. (
  refl,
  subst (λ (x : Run). waits_in types x u ≡ false) (sym (own-run r)) (needs-rests types r u space (need (subst (λ (x : Run). IsGoing (ends x)) (own-run r) going))),
)

-- who is shown to lack none doesn't wait
lacks-rests : (types : ProgramTree) (r : Run) (u : UnitNo) → LacksNoGrain types u r → waits_in types r u ≡ false
lacks-rests types r u lacks = elim (cases_Bool (waits_in types r u)) [
  | inr rests ↦ rests
  | inl waits ↦ absurd (by (lock_asked types (ends r) (got_in r) u) refl waits)
]
  where
    by : (o : Option (GrainId × Mode)) → lock_asked types (ends r) (got_in r) u ≡ o → waits_in types r u ≡ true → ⊥
    by None q waits = true≢false (sym waits ∙ ap (waits_for_load (ends r) u) q)
    by (Some (g, mode)) q waits =
        true≢false (sym (lacks g mode (waits-run (ends r) u (lock_asked types (ends r) (got_in r) u) waits) q) ∙ (waits-free r u g mode (ap (waits_for_load (ends r) u) (sym q) ∙ waits)).0)

-- as the core shows
pub lacks-wishes : (types : ProgramTree) (r r' : Run) (u : UnitNo) → own_sight r' ≡ own_sight r → (IsGoing (ends (run_seen (own_sight r))) → LacksNoGrain types u (run_seen (own_sight r)))
    → WishesAt types u (own_sight r) (own_sight r') false
lacks-wishes types r r' u same has = λ going none. (same, lacks-rests types (run_seen (own_sight r)) u (has going))

-- the same sights are of the same run
pub sight-run : (r r' : Run) → own_sight r' ≡ own_sight r → r' ≡ r
sight-run r r' same = sym (own-run r') ∙ ap run_seen same ∙ own-run r

-- and a look is all that was done
pub sight-looks : (types : ProgramTree) (r r' : Run) (u : UnitNo) → own_sight r' ≡ own_sight r → Wishes none_comes types u (own_sight r) (own_sight r')
sight-looks types r r' u same = inl (subst (λ (x : Sight). Looks none_comes (own_sight r) x) (sym same) (looks_self none_comes (own_sight r)))

-- where its agent waits for no child, it lacks none from then on
pub shown-none : (types : ProgramTree) (r r' : Run) (agents : List Agent) (index : ℕ) (a : Agent) (u : UnitNo) → AreCarried types none_comes (own_sight r') agents → slice_get agents index ≡ Some a → u ≡ a.carried.unit
    → own_sight r' ≡ own_sight r → (IsGoing (ends (run_seen (own_sight r))) → LacksNoGrain types u (run_seen (own_sight r))) → is_awaiting a.doing ≡ false → LacksNone types r r' u
shown-none types r r' agents index a u c at is same has none = (
  sight-run r r' same,
  λ going.
      subst (λ (x : Run). NeedsNone types x u) (ap run_seen same ∙ own-run r)
      (subst (λ (v : UnitNo). NeedsNone types (run_seen (own_sight r')) v) (sym is)
      (shown-needs types (own_sight r') a.carried a.doing c.holds (subst (λ (x : Run). 0 < x.base) (sym (own-run r')) c.holds.above) (all-at _ agents index a at c.known) none
      (subst (λ (x : Run). IsGoing (ends x)) (sym (ap run_seen same ∙ own-run r)) going)
      (subst (λ (v : UnitNo). LacksNoGrain types v (run_seen (own_sight r'))) is
      (subst (λ (x : Run). LacksNoGrain types u x) (sym (ap run_seen same)) (has (subst (λ (x : Run). IsGoing (ends x)) (sym (own-run r)) going)))))),
)

-- ---- the pass

-- what is so where the same units stand on is so where they stood
pub asks-from : {T : Type 0} (tells : Bool) (types : ProgramTree) (index : ℕ) (at : Stage) (state mid : Turns) (at' : Stage) (state' : Turns) (result : Result T RunFault)
    → units_carried mid.agents.list.items ≡ units_carried state.agents.list.items → mid.used ≡ state.used → mid.begun ≡ state.begun
    → AsksOne {T = T} tells types index at mid at' state' result → AsksOne {T = T} tells types index at state at' state' result
asks-from {T} tells types index at state mid at' state' result units used begun asks = record {
  says = λ o b lines width picks p way calm asking.
      let s : TurnStage = passing_stage at state p in
      let m : TurnStage = passing_stage at mid p in
      let on : WentOn tells o types lines width picks b s m =
      at-outset (λ t k ps. IsUnderWay tells o t lines k ps b s → WentOn tells o t lines k ps b s m) o types at.run (drop state.begun lines) width picks way.outset
      (λ w. still-went tells o lines b s m w begun refl refl refl refl
      (loop-into o at.run at.run (units_carried state.agents.list.items) (units_carried mid.agents.list.items) state.used mid.used p p refl units used refl w.turning)) way in
      let asking' : IsAsking o m index = record {
        full = ap (λ (v : List UnitNo). can_begin_by o.width (length o.asked) at.run v) units ∙ asking.full;
        none_due = asking.none_due;
        reached = subst (λ (v : List UnitNo). HasReached v index p.before) (sym units) asking.reached;
      } in
      by o b lines width picks s m on result (asks.says o on.books lines width picks p on.under_way calm asking');
  beside = asks.beside;
}
  where
    by : (o : Outset) (b : Books) (lines : List Line) (width : ℕ) (picks : List ℕ) (s m : TurnStage) (on : WentOn tells o types lines width picks b s m) (res : Result T RunFault)
        → AskedSays {T = T} tells o types lines width picks on.books m at' state' (index + 1) res → AskedSays {T = T} tells o types lines width picks b s at' state' (index + 1) res
    by o b lines width picks s m on (Ok done) (q, went, asking) = (q, went-then tells o types lines width picks b s m (passing_stage at' state' q) on went, asking)
    by o b lines width picks s m on (Err fault) out = ends-then tells o types lines width picks b s m {T = Bool} (turn_stage at' state') on fault out

-- what is told of one that is sure is told whatever else it answers
pub asks-told : {T U : Type 0} (tells : Bool) (types : ProgramTree) (index : ℕ) (at : Stage) (state : Turns) (at' : Stage) (state' : Turns) (done : T) (other : U) → AsksOne {T = T} tells types index at state at' state' (Ok done)
    → AsksOne {T = U} tells types index at state at' state' (Ok other)
asks-told {T} {U} tells types index at state at' state' done other asks = record {
  says = λ o b lines width picks p way calm asking. asks.says o b lines width picks p way calm asking;
  beside = beside-well tells at.run at'.run at.settler at'.settler at.faults at'.faults at.world at'.world {T = T} {U = U} done (Ok other) asks.beside;
}

-- so is a fault
pub asks-failed : {T U : Type 0} (tells : Bool) (types : ProgramTree) (index : ℕ) (at : Stage) (state : Turns) (at' : Stage) (state' : Turns) (fault : RunFault) → AsksOne {T = T} tells types index at state at' state' (Err fault)
    → AsksOne {T = U} tells types index at state at' state' (Err fault)
asks-failed {T} {U} tells types index at state at' state' fault asks = record {
  says = λ o b lines width picks p way calm asking. asks.says o b lines width picks p way calm asking;
  beside = beside-fault tells at.run at'.run at.settler at'.settler at.faults at'.faults at.world at'.world {T = T} {U = U} fault asks.beside;
}

-- ---- all units

-- who is at the front with one unit more is so without it, or is that
taken-next : (us : List UnitNo) (i : ℕ) (v : UnitNo) → Member v (take (suc i) us) → Member v (take i us) ⊎ (slice_get us i ≡ Some v)
taken-next [] i v m = absurd m
taken-next (x ∷ us) zero v (inl e) = inr (ap Some (sym e))
taken-next (x ∷ us) zero v (inr m) = absurd m
taken-next (x ∷ us) (suc i) v (inl e) = inl (inl e)
taken-next (x ∷ us) (suc i) v (inr m) = elim (taken-next us i v m) [ inl k ↦ inl (inr k) | inr e ↦ inr e ]

-- each is at the front where that is all
taken-all : (us : List UnitNo) (n : ℕ) → length us ≤ n → (v : UnitNo) → Member v us → Member v (take n us)
taken-all [] n le v m = absurd m
taken-all (x ∷ us) zero le v m = absurd (omega (arith, le))
taken-all (x ∷ us) (suc n) le v (inl e) = inl e
taken-all (x ∷ us) (suc n) le v (inr m) = inr (taken-all us n (omega (arith, le)) v m)

-- those at the front lack none, with one more that lacks none
pub lack-next : (types : ProgramTree) (r r' : Run) (agents agents' : List Agent) (index : ℕ) → as_carried agents' ≡ as_carried agents
    → LackNone types r (take index (units_carried agents)) → LacksNone types r r' (unit_at agents index) → LackNone types r' (take (index + 1) (units_carried agents'))
lack-next types r r' agents agents' index same lack one =
    let e : index + 1 ≡ suc index = omega arith in
    subst (λ (x : Run). LackNone types x (take (index + 1) (units_carried agents'))) (sym one.0)
    (subst (λ (us : List UnitNo). LackNone types r (take (index + 1) us)) (sym (units-same agents' agents same))
    (subst (λ (n : ℕ). LackNone types r (take n (units_carried agents))) (sym e)
    (λ going v m. elim (taken-next (units_carried agents) index v m) [
      | inl front ↦ lack going v front
      | inr at ↦ subst (NeedsNone types r) (get_or_from_slice_get (units_carried agents) index v nobody at) (one.1 going)
    ])))

-- those that have given back all their locks lack none
pub lack-freed : (types : ProgramTree) (r : Run) (agents : List Agent) (front : ℕ) → AreCarried types none_comes (own_sight r) agents → AreFreed front agents → LackNone types r (take front (units_carried agents))
lack-freed types r agents front carried freed = λ going v m. idle-needs types r v (freed-idle types r agents front carried freed v m)

-- all lack none where all are at the front
pub lack-all : (types : ProgramTree) (r : Run) (agents : List Agent) (n : ℕ) → length agents ≤ n → LackNone types r (take n (units_carried agents)) → LackNone types r (units_carried agents)
lack-all types r agents n le lack = λ going v m. lack going v (taken-all (units_carried agents) n (let q = many-carried agents in omega (arith, q, le)) v m)

-- the unit at an index that is sure lacks none
pub sure-none : (types : ProgramTree) (r : Run) (agents : List Agent) (index : ℕ) (u : UnitNo) (sure : ℕ) (moved : Option UnitNo) → AreSure types r (units_carried agents) sure moved → index < length agents → unit_at agents index ≡ u
    → (u.0 < sure) × (moved ≡ Some u → ⊥) → LacksNone types r r (unit_at agents index)
sure-none types r agents index u sure moved s within is low = (
  refl,
  λ going. subst (NeedsNone types r) (sym is) (s.need going u (subst (λ (x : UnitNo). Member x (units_carried agents)) is
      (at-member (units_carried agents) index (unit_at agents index) (slice_get-get_or (units_carried agents) index nobody (subst (λ (n : ℕ). index < n) (sym (many-carried agents)) within)))) low.0 low.1),
)

-- and where all lack none the next pass asks none of them
pub all-sure : (types : ProgramTree) (r : Run) (agents : List Agent) (sure : ℕ) → AreCarried types none_comes (own_sight r) agents
    → ((n : ℕ) → ((u : UnitNo) → Member u (units_carried agents) → u.0 < n) → sure ≤ n) → LackNone types r (units_carried agents) → AreSure types r (units_carried agents) sure None
all-sure types r agents sure carried above lack = record {
  below = above (ends r).units.next (λ u m. subst (λ (x : Run). u.0 < (ends x).units.next) (own-run r) (carried.below u m));
  need = λ going u m low apart. lack going u m;
}

-- what a pass tells it tells whatever else it answers
pub passes-told : {T U : Type 0} (tells : Bool) (types : ProgramTree) (s : TurnStage) (at : Stage) (state : Turns) (done : T) (other : U) → PassGoesOn {T = T} tells types s at state (Ok done) → PassGoesOn {T = U} tells types s at state (Ok other)
passes-told {T} {U} tells types s at state done other passes = record {
  says = λ o b lines width picks way full. passes.says o b lines width picks way full;
  beside = beside-well tells s.at.run at.run s.at.settler at.settler s.at.faults at.faults s.at.world at.world {T = T} {U = U} done (Ok other) passes.beside;
}

-- so does a fault
pub passes-failed : {T U : Type 0} (tells : Bool) (types : ProgramTree) (s : TurnStage) (at : Stage) (state : Turns) (fault : RunFault) → PassGoesOn {T = T} tells types s at state (Err fault) → PassGoesOn {T = U} tells types s at state (Err fault)
passes-failed {T} {U} tells types s at state fault passes = record {
  says = λ o b lines width picks way full. passes.says o b lines width picks way full;
  beside = beside-fault tells s.at.run at.run s.at.settler at.settler s.at.faults at.faults s.at.world at.world {T = T} {U = U} fault passes.beside;
}

-- ---- the last unit

-- the last that is carried is below what all are below
pub last-below : (agents : List Agent) (last : Agent) (n : ℕ) → slice_get agents (length agents - 1) ≡ Some last → ((u : UnitNo) → Member u (units_carried agents) → u.0 < n) → last.carried.unit.0 < n
last-below agents last n at below =
    below last.carried.unit (at-member (units_carried agents) (length agents - 1) last.carried.unit (map-at (λ (a : Agent). a.carried.unit) agents (length agents - 1) last at))
