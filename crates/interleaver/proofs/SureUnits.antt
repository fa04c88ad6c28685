-- Who lacks no grain lacks none behind another's event, and needn't be asked while memory has space.
use Rattle.std.proofs.Common.{◌≡◌, inl, inr, ℕ, ◌<◌, ◌≤◌, List, [], ◌∷◌, ◌++◌, Bool, true, false, true≢false, refl, sym, ap, ◌∙◌, subst, arith, Option, Some, None, append-nil, append_assoc, Ok, Err}
use Rattle.std.specs.Prelude.{Result, filter}
use Rattle.std.specs.List.{AllByRecursion}
use Rattle.std.proofs.lemmas.Bool.{cases_Bool, cond_both}
use Rattle.base_types.specs.declared.calls.Call.{Call}
use Rattle.base_types.specs.declared.entries.BadRequest.{BadRequest}
use Rattle.cell_model.proofs.Units.{Member-append}
use Rattle.cell_memory.specs.SpareMemory.{has_space}
use Rattle.cell_memory.proofs.SpareMemory.{here-still}
use Rattle.core_model.specs.CoreState.{UnitNo, GrainId, Mode, Member}
use Rattle.core_model.specs.LockAnswers.{IsGoing}
use Rattle.core_model.specs.Settler.{Step}
use Rattle.core_model.specs.Tests.{is_over, is_running}
use Rattle.core_model.specs.CoreState.{CoreState}
use Rattle.core_model.specs.declared.events.CoreEvent.{CoreEvent}
use Rattle.core_model.specs.declared.events.CoreReply.{CoreReply}
use Rattle.core_model.specs.declared.events.CoreReply.TheVariants as reply
use Rattle.core_model.specs.LegalRuns.{Run, ends}
use Rattle.core_access.specs.OneHolder.{none_comes, own_sight}
use Rattle.core_access.specs.Sights.{Sight, Tells, run_seen}
use Rattle.core_access.proofs.OneHolder.{own-run}
use Rattle.core_access.proofs.Sights.{reply-alone}
use Rattle.script_tree.specs.Programs.{ProgramTree}
use Rattle.script_meaning.specs.Play.{Want}
use Rattle.promise_spec.specs.Cores.{HasBegun}
use Rattle.promise_spec.specs.TurnRule.{lock_asked, waits_for_load}
use Rattle.promise_spec.specs.UnitAnswers.{got_in, wanted_by, wanted_lock}
use Rattle.turn_rules.specs.NextEvent.{is_own, with_event}
use Rattle.turn_rules.specs.TurnLoop.{waits_in}
use Rattle.turn_rules.specs.UnitFrame.{IsStill}
use Rattle.turn_rules.proofs.AgentLinks.{wants}
use Rattle.turn_rules.proofs.OthersEvents.{still-on, wants-on}
use Rattle.turn_rules.proofs.Passes.{waits-free, waits-run}
use Rattle.turn_rules.proofs.Settlers.{settlers-others}
use Rattle.worker_rules.proofs.Growth.{going-event}
use Rattle.worker_rules.proofs.Numbers.{began-next}
use Rattle.txn_agent.specs.declared.agent.Advanced.{Advanced}
use Rattle.txn_agent.specs.declared.agent.Advanced.TheVariants as advanced
use Rattle.txn_agent.specs.declared.agent.Agent.{Agent}
use Rattle.txn_agent.specs.declared.work.Carried.{Carried}
use Rattle.txn_agent.specs.declared.work.Doing.{Doing}
use Rattle.txn_agent.specs.declared.work.Doing.TheVariants.{Asks, Awaits, Frees, Stopped}
use Rattle.txn_agent.specs.AgentStep.{Acts, AnswerSays, is_awaiting}
use Rattle.txn_agent.specs.CoreLink.{Knows, KnowsDoing}
use Rattle.txn_agent.specs.Replies.{began_by}
use Rattle.txn_agent.specs.Wishes.{LacksNoGrain}
use Rattle.txn_agent.proofs.StepPromises.{moves-one}
use Rattle.txn_agent.proofs.WishAnswers.{over-idle}
use Rattle.unit_carrier.specs.CarriedUnits.{AreCarried, HasCoreAlone, StepsOn, units_carried, with_child}
use Rattle.unit_carrier.specs.declared.agents.Went.{Went}
use Rattle.unit_carrier.specs.Lines.{BeginsOn, IsEventOf, with_begun}
use Rattle.unit_carrier.proofs.CarriedUnits.{next-more}
use Rattle.unit_carrier.proofs.LineUnit.{began-is}
use Rattle.interleaver.specs.Flights.{flown_unless, is_flown}
use Rattle.interleaver.specs.SureUnits.{AreSure, NeedsNone, WasHere}
use Rattle.interleaver.specs.TurnStages.{GoesBy}
use Rattle.interleaver.proofs.LonePasses.{own-same, own-told}

-- ---- one unit

-- what was in memory once was so behind one event more
was-on : (r : Run) (e : CoreEvent) (g : GrainId) → WasHere r g → WasHere (with_event r e) g
was-on r e g w = record {
  before = w.before;
  more = w.more ++ (e ∷ []);
  run = ap (λ (x : Run). with_event x e) w.run ∙ ap (λ (l : List CoreEvent). record w.before { events = l }) (append_assoc w.before.events w.more (e ∷ []));
  first = w.first;
  here = w.here;
}

-- what is in memory is so
was-now : (r : Run) (g : GrainId) → 0 < r.base → (ends r).cells.here g ≡ true → WasHere r g
was-now r g first here = record {
  before = r;
  more = [];
  run = ap (λ (l : List CoreEvent). record r { events = l }) (sym (append-nil r.events));
  first = first;
  here = here;
}

-- and is in it still while memory has space
was-still : (r : Run) (g : GrainId) → has_space (ends r).cells ≡ true → WasHere r g → (ends r).cells.here g ≡ true
was-still r g space w =
    subst (λ (x : Run). (ends x).cells.here g ≡ true) (sym w.run)
    (here-still w.before w.more g w.first (subst (λ (x : Run). has_space (ends x).cells ≡ true) w.run space) w.here)

-- who lacks none doesn't wait for one
pub needs-rests : (types : ProgramTree) (r : Run) (u : UnitNo) → has_space (ends r).cells ≡ true → NeedsNone types r u → waits_in types r u ≡ false
needs-rests types r u space n = elim (cases_Bool (waits_in types r u)) [
  | inr rests ↦ rests
  | inl waits ↦ absurd (by (lock_asked types (ends r) (got_in r) u) refl waits)
]
  where
    by : (o : Option (GrainId × Mode)) → lock_asked types (ends r) (got_in r) u ≡ o → waits_in types r u ≡ true → ⊥
    by None q waits = true≢false (sym waits ∙ ap (waits_for_load (ends r) u) q)
    by (Some (g, mode)) q waits =
        true≢false (sym (was-still r g space (n.was g mode (waits-run (ends r) u (lock_asked types (ends r) (got_in r) u) waits) q))
        ∙ (waits-free r u g mode (ap (waits_for_load (ends r) u) (sym q) ∙ waits)).0)

-- another's event leaves it so
needs-on : (types : ProgramTree) (r : Run) (e : CoreEvent) (u : UnitNo) → 0 < r.base → is_own u e ≡ false → HasBegun (ends r) u → NeedsNone types r u → NeedsNone types (with_event r e) u
needs-on types r e u first other begun n =
    let still : IsStill u (ends r) (ends (with_event r e)) = still-on r e u first other begun in record {
      told = λ runs. (let t = n.told (ap is_running (sym still.phase) ∙ runs) in (t.0, wants-on r e u first other types t.0 begun t.1));
      was = λ g mode runs asks.
          let back = ap is_running (sym still.phase) ∙ runs in
          let t = n.told back in
          was-on r e g (n.was g mode back (ap wanted_lock t.1 ∙ sym (ap wanted_lock (wants-on r e u first other types t.0 begun t.1)) ∙ asks));
    }

-- the unit of an agent that waits for no child, of which it is shown that it lacks none
pub shown-needs : (types : ProgramTree) (s : Sight) (c : Carried) (doing : Doing) → HasCoreAlone none_comes s → 0 < (run_seen s).base → KnowsDoing types s c doing → is_awaiting doing ≡ false → IsGoing (ends (run_seen s))
    → LacksNoGrain types c.unit (run_seen s) → NeedsNone types (run_seen s) c.unit
shown-needs types s c doing h first k none going lacks = record {
  told = λ runs. told doing k none runs;
  was = λ g mode runs asks. was-now (run_seen s) g first (lacks g mode runs asks);
}
  where
    told : (doing : Doing) → KnowsDoing types s c doing → is_awaiting doing ≡ false → is_running ((ends (run_seen s)).units.phase c.unit) ≡ true → (x : Want) × (wanted_by types (ends (run_seen s)) c.unit (got_in (run_seen s) c.unit) ≡ Some x)
    told (Asks work pause) k none runs = (_, wants types (run_seen s) c.unit k.trail (k.linked (h.alone _)).given)
    told (Awaits work child) k none runs = absurd (true≢false none)
    told (Frees held) k none runs = absurd (true≢false (sym runs ∙ over-idle ((ends (run_seen s)).units.phase c.unit) (k (h.alone _)).over))
    told Stopped k none runs = absurd ((k (h.alone _)).stopped going)

-- one that doesn't run lacks none
pub idle-needs : (types : ProgramTree) (r : Run) (u : UnitNo) → is_running ((ends r).units.phase u) ≡ false → NeedsNone types r u
idle-needs types r u idle = record { told = λ runs. absurd (true≢false (sym runs ∙ idle)); was = λ g mode runs asks. absurd (true≢false (sym runs ∙ idle)) }

-- ---- those that are carried

-- each has begun
knows-begun : (types : ProgramTree) (s : Sight) (c : Carried) (doing : Doing) → HasCoreAlone none_comes s → KnowsDoing types s c doing → HasBegun (ends (run_seen s)) c.unit
knows-begun types s c (Asks work pause) h k q = true≢false (ap is_running (sym (k.linked (h.alone _)).given.running ∙ q))
knows-begun types s c (Awaits work child) h k q = true≢false (ap is_running (sym (k.linked (h.alone _)).awaits.running ∙ q))
knows-begun types s c (Frees held) h k q = true≢false (sym (k (h.alone _)).over ∙ ap is_over q)
knows-begun types s c Stopped h k q = true≢false (ap is_running (sym (k (h.alone _)).running ∙ q))

all-begun : (types : ProgramTree) (s : Sight) (agents : List Agent) → HasCoreAlone none_comes s → AllByRecursion (Knows types s) agents → (u : UnitNo) → Member u (units_carried agents) → HasBegun (ends (run_seen s)) u
all-begun types s [] h known u m = absurd m
all-begun types s (a ∷ agents) h known u (inl q) = subst (HasBegun (ends (run_seen s))) (sym q) (knows-begun types s a.carried a.doing h known.0)
all-begun types s (a ∷ agents) h known u (inr m) = all-begun types s agents h known.1 u m

carried-begun : (types : ProgramTree) (r : Run) (agents : List Agent) → AreCarried types none_comes (own_sight r) agents → (u : UnitNo) → Member u (units_carried agents) → HasBegun (ends r) u
carried-begun types r agents c u m = subst (λ (x : Run). HasBegun (ends x) u) (own-run r) (all-begun types (own_sight r) agents c.holds c.known u m)

-- ---- which are sure

-- none is where the number is 0
pub none-sure : (types : ProgramTree) (r : Run) (units : List UnitNo) (sure : ℕ) (moved : Option UnitNo) → sure ≡ 0 → AreSure types r units sure moved
none-sure types r units sure moved none = record { below = omega (arith, none); need = λ going u m low apart. absurd (omega (arith, low, none)) }

-- fewer are by a lower number, and of fewer units
pub fewer-sure : (types : ProgramTree) (r : Run) (units units' : List UnitNo) (sure sure' : ℕ) (moved : Option UnitNo) → sure' ≤ sure → ((u : UnitNo) → Member u units' → Member u units)
    → AreSure types r units sure moved → AreSure types r units' sure' moved
fewer-sure types r units units' sure sure' moved less among s = record {
  below = (let b = s.below in omega (arith, less, b));
  need = λ going u m low apart. s.need going u (among u m) (omega (arith, low, less)) apart;
}

-- where units were dropped, those that are left are
pub dropped-sure : (types : ProgramTree) (r : Run) (doubted : Bool) (before after : List Agent) (sure : ℕ) (moved : Option UnitNo) → after ≡ flown_unless doubted (ends r) before
    → AreSure types r (units_carried before) sure moved → AreSure types r (units_carried after) sure moved
dropped-sure types r doubted before after sure moved is s = subst (λ (l : List Agent). AreSure types r (units_carried l) sure moved) (sym is) (by doubted)
  where
    left : (p : Agent → Bool) (l : List Agent) (u : UnitNo) → Member u (units_carried (filter p l)) → Member u (units_carried l)
    left p [] u m = absurd m
    left p (a ∷ l) u m = cond_both (p a) (a ∷ filter p l) (filter p l) (λ (k : List Agent). Member u (units_carried k) → Member u (units_carried (a ∷ l)))
        (λ e n. elim n [ inl q ↦ inl q | inr k ↦ inr (left p l u k) ])
        (λ e n. inr (left p l u n)) m

    by : (d : Bool) → AreSure types r (units_carried (flown_unless d (ends r) before)) sure moved
    by true = s
    by false = fewer-sure types r (units_carried before) (units_carried (filter (is_flown (ends r)) before)) sure sure moved (omega arith) (left (is_flown (ends r)) before) s

-- those that were are with one more behind them that begins next
pub more-sure : (types : ProgramTree) (r r' : Run) (units : List UnitNo) (v : UnitNo) (sure : ℕ) (moved : Option UnitNo) → sure ≤ (ends r).units.next → v.0 ≡ (ends r).units.next → AreSure types r' units sure moved
    → AreSure types r' (units ++ (v ∷ [])) sure moved
more-sure types r r' units v sure moved most number s = record {
  below = s.below;
  need = λ going u m low apart. elim (Member-append u units (v ∷ []) m) [
    | inl old ↦ s.need going u old low apart
    | inr new ↦ elim new [ inl q ↦ (let n : u.0 ≡ v.0 = ap (λ (x : UnitNo). x.0) q in absurd (omega (arith, n, number, most, low))) | inr none ↦ absurd none ]
  ];
}

-- behind an event of none of them but the one that moves
pub event-sure : (types : ProgramTree) (r : Run) (e : CoreEvent) (agents : List Agent) (sure : ℕ) (moved moved' : Option UnitNo) → AreCarried types none_comes (own_sight r) agents → 0 < r.base
    → ((u : UnitNo) → (moved' ≡ Some u → ⊥) → is_own u e ≡ false) → ((u : UnitNo) → u.0 < sure → (moved' ≡ Some u → ⊥) → moved ≡ Some u → ⊥)
    → AreSure types r (units_carried agents) sure moved → AreSure types (with_event r e) (units_carried agents) sure moved'
event-sure types r e agents sure moved moved' c first other back s = record {
  below = (let b = s.below in let n = next-more r e in omega (arith, b, n));
  need = λ going u m low apart. needs-on types r e u first (other u apart) (carried-begun types r agents c u m) (s.need (going-event r e going) u m low (back u low apart));
}

-- the same run and units
pub same-sure : (types : ProgramTree) (r r' : Run) (us us' : List UnitNo) (sure : ℕ) (moved : Option UnitNo) → r' ≡ r → us' ≡ us → AreSure types r us sure moved → AreSure types r' us' sure moved
same-sure types r r' us us' sure moved run units s = subst (λ (x : Run). AreSure types x us' sure moved) (sym run) (subst (λ (v : List UnitNo). AreSure types r v sure moved) (sym units) s)

-- behind a step of the settler, or a load
pub goes-sure : (types : ProgramTree) (next : CoreState → Step) (r r' : Run) (agents : List Agent) (sure : ℕ) (moved : Option UnitNo) → AreCarried types none_comes (own_sight r) agents → 0 < r.base → GoesBy next r r'
    → AreSure types r (units_carried agents) sure moved → AreSure types r' (units_carried agents) sure moved
goes-sure types next r r' agents sure moved c first (inl q) s = same-sure types r r' (units_carried agents) (units_carried agents) sure moved q refl s
goes-sure types next r r' agents sure moved c first (inr (e, makes, q)) s =
    subst (λ (x : Run). AreSure types x (units_carried agents) sure moved) (sym q)
    (event-sure types r e agents sure moved moved c first (λ u apart. settlers-others u (next (ends r)) e makes) (λ u low apart. apart) s)

-- the number of a unit that begins
new-number : (r r' : Run) (e : CoreEvent) (v : UnitNo) → Tells none_comes (own_sight r) e (reply.Began v) (own_sight r') → v.0 ≡ (ends r).units.next
new-number r r' e v told =
    subst (λ (x : Run). v.0 ≡ (ends x).units.next) (own-run r) (began-next (ends (run_seen (own_sight r))) e v (sym (reply-alone (own_sight r) (own_sight r') e (reply.Began v) told))).0

-- ---- a step of a unit

-- whatever was sure is, but for the unit, where no other had moved
pub moves-sure : (types : ProgramTree) (r r' : Run) (u : UnitNo) (before : List Agent) (after : List UnitNo) (went : Went) (sure sure' : ℕ) (moved : Option UnitNo) → AreCarried types none_comes (own_sight r) before → 0 < r.base
    → sure' ≤ sure → ((v : UnitNo) → moved ≡ Some v → sure' ≡ 0) → Acts none_comes types u (own_sight r) (own_sight r') → StepsOn none_comes types u (own_sight r) (own_sight r') (units_carried before) after went
    → AreSure types r (units_carried before) sure moved → AreSure types r' after sure' (Some u)
moves-sure types r r' u before after went sure sure' moved c first less lost acts steps s =
    subst (λ (us : List UnitNo). AreSure types r' us sure' (Some u)) (sym steps.units) (by steps.answer steps.says (on acts))
  where
    low : AreSure types r (units_carried before) sure' moved
    low = fewer-sure types r (units_carried before) (units_carried before) sure sure' moved less (λ v m. m) s

    back : (v : UnitNo) → v.0 < sure' → moved ≡ Some v → ⊥
    back v below q = (let none = lost v q in absurd (omega (arith, below, none)))

    own-by : (e : CoreEvent) → ((v : UnitNo) → is_own v e ≡ true → v ≡ u) → (v : UnitNo) → (Some u ≡ Some v → ⊥) → is_own v e ≡ false
    own-by e one v apart = elim (cases_Bool (is_own v e)) [ inr n ↦ n | inl y ↦ absurd (apart (ap Some (sym (one v y)))) ]

    on : Acts none_comes types u (own_sight r) (own_sight r') → AreSure types r' (units_carried before) sure' (Some u)
    on (inl looks) = subst (λ (x : Run). AreSure types x (units_carried before) sure' (Some u)) (sym (own-same r r' looks)) (record {
      below = low.below;
      need = λ going v m below apart. low.need going v m below (back v below);
    })
    on (inr (e, (y, p))) =
        subst (λ (x : Run). AreSure types x (units_carried before) sure' (Some u)) (sym (own-told r r' e y p.told))
        (event-sure types r e before sure' moved (Some u) c first (own-by e (λ v own. moves-one u v e p.own own)) (λ v below apart. back v below) low)

    by : (a : Advanced) → AnswerSays none_comes types u steps.kids (own_sight r) (own_sight r') a → AreSure types r' (units_carried before) sure' (Some u) → AreSure types r' (with_child (units_carried before) a) sure' (Some u)
    by advanced.Moved x k = k
    by (advanced.Granted g source) x k = k
    by (advanced.Began child call depth) x k = more-sure types r r' (units_carried before) child sure' (Some u) low.below (new-number r r' _ child x.told) k
    by (advanced.Waits holder) x k = k
    by (advanced.WaitsLoad grain) x k = k
    by (advanced.WaitsFor child) x k = k
    by advanced.Ended x k = k

-- ---- a line begins

pub begins-sure : (types : ProgramTree) (number : ℕ) (what : Result Call BadRequest) (r r' : Run) (before : List Agent) (after : List UnitNo) (began : Option UnitNo) (sure : ℕ) (moved : Option UnitNo) → AreCarried types none_comes (own_sight r) before → 0 < r.base
    → BeginsOn none_comes types number what (own_sight r) (own_sight r') (units_carried before) after began → AreSure types r (units_carried before) sure moved → AreSure types r' after sure moved
begins-sure types number what r r' before after began sure moved c first on s =
    subst (λ (us : List UnitNo). AreSure types r' us sure moved) (sym on.units)
    (by began (sym on.is) then_sure)
  where
    line-owns : (what : Result Call BadRequest) (e : CoreEvent) → IsEventOf types number what e → (u : UnitNo) → is_own u e ≡ false
    line-owns what e is u = own what is
      where
        own : (what : Result Call BadRequest) → IsEventOf types number what e → is_own u e ≡ false
        own (Ok call) (plain, q, kind) = ap (is_own u) q
        own (Err why) q = ap (is_own u) q

    then_sure : AreSure types r' (units_carried before) sure moved
    then_sure = subst (λ (x : Run). AreSure types x (units_carried before) sure moved) (sym (own-told r r' on.put.e on.r on.put.told))
        (event-sure types r on.put.e before sure moved moved c first (λ u apart. line-owns what on.put.e on.put.is u) (λ u low apart. apart) s)

    by : (o : Option UnitNo) → began_by on.r ≡ o → AreSure types r' (units_carried before) sure moved → AreSure types r' (with_begun (units_carried before) o) sure moved
    by None q k = k
    by (Some v) q k =
        more-sure types r r' (units_carried before) v sure moved s.below
        (new-number r r' on.put.e v (subst (λ (y : CoreReply). Tells none_comes (own_sight r) on.put.e y (own_sight r')) (began-is on.r v q) on.put.told)) k
