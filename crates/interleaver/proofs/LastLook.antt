-- What is known by the last look at all units that are carried, and that it stays as long as nothing is settled.
use Rattle.std.proofs.Common.{◌≡◌, ◌≤◌, ◌<◌, ◌&&◌, ◌||◌, ◌++◌, ℕ, Bool, true, false, true≢false, not, List, [], ◌∷◌, length, filter, cond, Option, Some, None, inl, inr, refl, sym, ap, ◌∙◌, subst, arith, length-append, append-nil}
use Rattle.std.specs.Prelude.{if◌then◌else◌, slice_get}
use Rattle.std.specs.List.{AllByRecursion, list_all}
use Rattle.std.proofs.lemmas.Bool.{and_parts, le-ltb, lt-ltb}
use Rattle.std.proofs.lemmas.List.Sums.{length-filter}
use Rattle.request_wire.specs.declared.requests.Line.{Line}
use Rattle.core_model.specs.CoreState.{UnitNo, Member, Entry, CoreState, same_unit}
use Rattle.core_model.specs.LegalRuns.{Run, ends}
use Rattle.core_model.specs.Settler.{Step}
use Rattle.core_model.specs.Tests.{any, is_decided}
use Rattle.core_model.specs.declared.events.CoreEvent.{CoreEvent}
use Rattle.core_model.specs.declared.events.CoreEvent.TheVariants.{Want}
use Rattle.core_laws.proofs.Replies.{extends-ends}
use Rattle.core_access.specs.OneHolder.{none_comes, own_sight}
use Rattle.core_access.proofs.OneHolder.{own-run}
use Rattle.script_tree.specs.Programs.{ProgramTree}
use Rattle.promise_spec.specs.TurnRule.{is_line, is_settled}
use Rattle.turn_rules.specs.NextEvent.{with_event}
use Rattle.turn_rules.proofs.Growth.{ends-more}
use Rattle.txn_agent.specs.declared.agent.Agent.{Agent}
use Rattle.txn_agent.specs.CoreLink.{Knows}
use Rattle.txn_agent.specs.AgentStep.{Acts, has_freed_all}
use Rattle.txn_agent.specs.Wishes.{Wishes}
use Rattle.txn_agent.specs.declared.agent.Advanced.{Advanced}
use Rattle.txn_agent.specs.declared.agent.Advanced.TheVariants as advanced
use Rattle.unit_carrier.specs.CarriedUnits.{AreCarried, StepsOn, units_carried, went_by, with_child}
use Rattle.unit_carrier.proofs.Origins.{origin-event}
use Rattle.interleaver.specs.Flights.{is_flown, is_open_line, lines_carried, next_line_by}
use Rattle.interleaver.specs.LastLook.{IsLooked, IsLastLook, IsNow, looked_after}
use Rattle.interleaver.specs.TurnStages.{GoesBy}
use Rattle.interleaver.proofs.LonePasses.{own-same, own-told, own-wished}
use Rattle.interleaver.proofs.UnitsInFlight.{told-agent}

-- ---- lists

all-pass : {A : Type 0} (p : A → Bool) (xs : List A) → AllByRecursion (λ (x : A). p x ≡ true) xs → filter p xs ≡ xs
all-pass p [] all = refl
all-pass p (x ∷ xs) all = ap (λ (b : Bool). cond b (x ∷ filter p xs) (filter p xs)) all.0 ∙ ap (λ ys. x ∷ ys) (all-pass p xs all.1)

none-more : {A : Type 0} (xs more : List A) → length (xs ++ more) ≤ length xs → more ≡ []
none-more xs [] le = refl
none-more xs (y ∷ more) le = absurd (let e = length-append xs (y ∷ more) in omega (arith, e, le))

-- each element that is there, of two facts of all
both-each : {A : Type 0} (P Q R : A → Type 0) (xs : List A) → ((x : A) → P x → Q x → R x) → AllByRecursion P xs → AllByRecursion Q xs → AllByRecursion R xs
both-each P Q R [] f p q = tt
both-each P Q R (x ∷ xs) f p q = (f x p.0 q.0, both-each P Q R xs f p.1 q.1)

member-each : {A : Type 0} (P Q : A → Type 0) (xs : List A) → ((x : A) → Member x xs → P x → Q x) → AllByRecursion P xs → AllByRecursion Q xs
member-each P Q [] f all = tt
member-each P Q (x ∷ xs) f all = (f x (inl refl) all.0, member-each P Q xs (λ y m. f y (inr m)) all.1)

-- of the units that are carried, by the agents
of-units : (P : UnitNo → Type 0) (agents : List Agent) → AllByRecursion (λ (a : Agent). P a.carried.unit) agents → AllByRecursion P (units_carried agents)
of-units P [] all = tt
of-units P (a ∷ agents) all = (all.0, of-units P agents all.1)

by-units : (P : UnitNo → Type 0) (agents : List Agent) → AllByRecursion P (units_carried agents) → AllByRecursion (λ (a : Agent). P a.carried.unit) agents
by-units P [] all = tt
by-units P (a ∷ agents) all = (all.0, by-units P agents all.1)

pub all-open : (p : Agent → Bool) (agents : List Agent) → list_all p agents ≡ true → AllByRecursion (λ (a : Agent). p a ≡ true) agents
all-open p [] q = tt
all-open p (a ∷ agents) q = let both = and_parts (p a) (list_all p agents) q in (both.0, all-open p agents both.1)

-- ---- the run

-- who is open is looked at still
open-flies : (w : CoreState) (a : Agent) → is_open_line w a ≡ true → is_flown w a ≡ true
open-flies w a q = by (not (has_freed_all a.doing))
  where
    by : (b : Bool) → (b || is_open_line w a) ≡ true
    by true = refl
    by false = q

module _ (types : ProgramTree) (r : Run) (agents : List Agent) (c : AreCarried types none_comes (own_sight r) agents) where
  came : AllByRecursion (λ (a : Agent). (ends r).units.origin a.carried.unit ≡ a.carried.origin) agents
  came = subst (λ (x : Run). AllByRecursion (λ (a : Agent). (ends x).units.origin a.carried.unit ≡ a.carried.origin) agents) (own-run r) c.came

  -- all that are open are looked at still
  pub open-flown : AllByRecursion (λ (a : Agent). is_open_line (ends r) a ≡ true) agents → agents ≡ filter (is_flown (ends r)) agents
  open-flown all = sym (all-pass (is_flown (ends r)) agents (member-each (λ (a : Agent). is_open_line (ends r) a ≡ true) (λ (a : Agent). is_flown (ends r) a ≡ true) agents (λ a m q. open-flies (ends r) a q) all))

  -- and so it is known
  pub open-looked : (ends r).manager.doubt ≡ None → AllByRecursion (λ (a : Agent). is_open_line (ends r) a ≡ true) agents → IsLastLook (length (ends r).manager.settled) r (units_carried agents)
  open-looked calm all = record {
    lines = of-units (λ (u : UnitNo). is_line ((ends r).units.origin u) ≡ true) agents
        (both-each (λ (a : Agent). (ends r).units.origin a.carried.unit ≡ a.carried.origin) (λ (a : Agent). is_open_line (ends r) a ≡ true) (λ (a : Agent). is_line ((ends r).units.origin a.carried.unit) ≡ true) agents
        (λ a from q. ap is_line from ∙ (and_parts (is_line a.carried.origin) (not (is_decided (ends r) a.carried.unit)) q).0) came all);
    fewer = omega arith;
    out = λ e. of-units (λ (u : UnitNo). is_settled (ends r) u ≡ false) agents (outs agents c.known came all);
  }
    where
      not-false : (b : Bool) → not b ≡ true → b ≡ false
      not-false true q = absurd (true≢false (sym q))
      not-false false q = refl

      outs : (xs : List Agent) → AllByRecursion (Knows types (own_sight r)) xs → AllByRecursion (λ (a : Agent). (ends r).units.origin a.carried.unit ≡ a.carried.origin) xs
          → AllByRecursion (λ (a : Agent). is_open_line (ends r) a ≡ true) xs → AllByRecursion (λ (a : Agent). is_settled (ends r) a.carried.unit ≡ false) xs
      outs [] k f o = tt
      outs (a ∷ xs) k f o =
          let both = and_parts (is_line a.carried.origin) (not (is_decided (ends r) a.carried.unit)) o.0 in
          (sym (told-agent types r c.holds.above calm a k.0 f.0 both.0) ∙ not-false (is_decided (ends r) a.carried.unit) both.1, outs xs k.1 f.1 o.1)

  pub now-looked : (now : Option ℕ) → IsNow now r → AllByRecursion (λ (a : Agent). is_open_line (ends r) a ≡ true) agents → IsLooked now r (units_carried agents)
  now-looked None n all = tt
  now-looked (Some settled) n all = subst (λ (k : ℕ). IsLastLook k r (units_carried agents)) (sym n.0) (open-looked n.1 all)

  -- the agents are lines'
  lines-of : AllByRecursion (λ (u : UnitNo). is_line ((ends r).units.origin u) ≡ true) (units_carried agents) → AllByRecursion (λ (a : Agent). is_line a.carried.origin ≡ true) agents
  lines-of all =
      both-each (λ (a : Agent). (ends r).units.origin a.carried.unit ≡ a.carried.origin) (λ (a : Agent). is_line ((ends r).units.origin a.carried.unit) ≡ true) (λ (a : Agent). is_line a.carried.origin ≡ true) agents
      (λ a from q. sym (ap is_line from) ∙ q) came (by-units (λ (u : UnitNo). is_line ((ends r).units.origin u) ≡ true) agents all)

  -- as many lines are carried as units
  pub looked-many : (settled : ℕ) → IsLastLook settled r (units_carried agents) → length agents ≡ lines_carried agents
  looked-many settled looked =
      sym (ap length (all-pass (λ (a : Agent). is_line a.carried.origin) agents (lines-of looked.lines))) ∙ length-filter (λ (a : Agent). is_line a.carried.origin) agents

  -- where nothing is settled since, all are looked at still
  pub looked-flown : (settled : ℕ) → IsLastLook settled r (units_carried agents) → settled ≡ length (ends r).manager.settled → (ends r).manager.doubt ≡ None → agents ≡ filter (is_flown (ends r)) agents
  looked-flown settled looked same calm = open-flown (opens agents c.known came (lines-of looked.lines) (by-units (λ (u : UnitNo). is_settled (ends r) u ≡ false) agents (looked.out (sym same))))
    where
      opens : (xs : List Agent) → AllByRecursion (Knows types (own_sight r)) xs → AllByRecursion (λ (a : Agent). (ends r).units.origin a.carried.unit ≡ a.carried.origin) xs
          → AllByRecursion (λ (a : Agent). is_line a.carried.origin ≡ true) xs → AllByRecursion (λ (a : Agent). is_settled (ends r) a.carried.unit ≡ false) xs
          → AllByRecursion (λ (a : Agent). is_open_line (ends r) a ≡ true) xs
      opens [] k f l o = tt
      opens (a ∷ xs) k f l o =
          (ap (λ (b : Bool). b && not (is_decided (ends r) a.carried.unit)) l.0 ∙ ap not (told-agent types r c.holds.above calm a k.0 f.0 l.0 ∙ o.0), opens xs k.1 f.1 l.1 o.1)

-- ---- what stays

-- behind one event more
pub event-looked : (looked : Option ℕ) (r : Run) (e : CoreEvent) (us : List UnitNo) → ((u : UnitNo) → Member u us → u.0 < (ends r).units.next) → IsLooked looked r us → IsLooked looked (with_event r e) us
event-looked None r e us below known = tt
event-looked (Some settled) r e us below known =
    let more = (extends-ends r (e ∷ [])).settled in
    let longer = ap length more.1 ∙ length-append (ends r).manager.settled more.0 in
    let fewer = known.fewer in record {
      lines = member-each (λ (u : UnitNo). is_line ((ends r).units.origin u) ≡ true) (λ (u : UnitNo). is_line ((ends (with_event r e)).units.origin u) ≡ true) us
          (λ u m q. ap is_line (ap (λ (w : CoreState). w.units.origin u) (ends-more r e) ∙ origin-event u (ends r) e (below u m)) ∙ q) known.lines;
      fewer = omega (arith, longer, fewer);
      out = λ q.
          let short : length ((ends r).manager.settled ++ more.0) ≤ length (ends r).manager.settled = (let l = ap length more.1 in omega (arith, l, q, fewer)) in
          let none : more.0 ≡ [] = none-more (ends r).manager.settled more.0 short in
          let same : (ends (with_event r e)).manager.settled ≡ (ends r).manager.settled = more.1 ∙ ap (λ (l : List Entry). (ends r).manager.settled ++ l) none ∙ append-nil (ends r).manager.settled in
          member-each (λ (u : UnitNo). is_settled (ends r) u ≡ false) (λ (u : UnitNo). is_settled (ends (with_event r e)) u ≡ false) us
          (λ u m o. ap (λ (l : List Entry). any (λ (x : Entry). same_unit x.unit u) l) same ∙ o) (known.out (sym (ap length same) ∙ q));
    }

-- the units that are carried have begun
pub below-of : (types : ProgramTree) (r : Run) (agents : List Agent) → AreCarried types none_comes (own_sight r) agents → (u : UnitNo) → Member u (units_carried agents) → u.0 < (ends r).units.next
below-of types r agents c u m = subst (λ (x : Run). u.0 < (ends x).units.next) (own-run r) (c.below u m)

-- behind a step of the settler, or a load
pub goes-looked : (types : ProgramTree) (looked : Option ℕ) (next : CoreState → Step) (r r' : Run) (agents : List Agent) → AreCarried types none_comes (own_sight r) agents → GoesBy next r r'
    → IsLooked looked r (units_carried agents) → IsLooked looked r' (units_carried agents)
goes-looked types looked next r r' agents c (inl q) known = subst (λ (x : Run). IsLooked looked x (units_carried agents)) (sym q) known
goes-looked types looked next r r' agents c (inr s) known =
    subst (λ (x : Run). IsLooked looked x (units_carried agents)) (sym s.2) (event-looked looked r s.0 (units_carried agents) (below-of types r agents c) known)

-- behind a unit's wish, or none
pub wish-looked : (types : ProgramTree) (looked : Option ℕ) (r r' : Run) (u : UnitNo) (agents : List Agent) → AreCarried types none_comes (own_sight r) agents → Wishes none_comes types u (own_sight r) (own_sight r')
    → IsLooked looked r (units_carried agents) → IsLooked looked r' (units_carried agents)
wish-looked types looked r r' u agents c (inl looks) known = subst (λ (x : Run). IsLooked looked x (units_carried agents)) (sym (own-same r r' looks)) known
wish-looked types looked r r' u agents c (inr w) known =
    subst (λ (x : Run). IsLooked looked x (units_carried agents)) (sym (own-wished types r r' u w)) (event-looked looked r (Want u w.1.grain) (units_carried agents) (below-of types r agents c) known)

-- behind a step of a unit
pub moves-looked : (types : ProgramTree) (looked : Option ℕ) (r r' : Run) (u : UnitNo) (before after : List Agent) (went : _) → AreCarried types none_comes (own_sight r) before
    → Acts none_comes types u (own_sight r) (own_sight r') → StepsOn none_comes types u (own_sight r) (own_sight r') (units_carried before) (units_carried after) went
    → IsLooked looked r (units_carried before) → IsLooked (looked_after looked went) r' (units_carried after)
moves-looked types looked r r' u before after went c acts steps known =
    subst (λ g. IsLooked (looked_after looked g) r' (units_carried after)) (sym steps.is)
    (subst (λ (us : List UnitNo). IsLooked (looked_after looked (went_by steps.answer)) r' us) (sym steps.units) (by steps.answer (on acts)))
  where
    on : Acts none_comes types u (own_sight r) (own_sight r') → IsLooked looked r' (units_carried before)
    on (inl looks) = subst (λ (x : Run). IsLooked looked x (units_carried before)) (sym (own-same r r' looks)) known
    on (inr (e, (y, p))) =
        subst (λ (x : Run). IsLooked looked x (units_carried before)) (sym (own-told r r' e y p.told)) (event-looked looked r e (units_carried before) (below-of types r before c) known)

    by : (a : Advanced) → IsLooked looked r' (units_carried before) → IsLooked (looked_after looked (went_by a)) r' (with_child (units_carried before) a)
    by advanced.Moved k = k
    by (advanced.Granted g source) k = k
    by (advanced.Began child call depth) k = tt
    by (advanced.Waits holder) k = k
    by (advanced.WaitsLoad grain) k = k
    by (advanced.WaitsFor child) k = k
    by advanced.Ended k = k

-- where the same run and the same units are
pub same-looked : (looked : Option ℕ) (r r' : Run) (us us' : List UnitNo) → r' ≡ r → us' ≡ us → IsLooked looked r us → IsLooked looked r' us'
same-looked looked r r' us us' run units known = subst (λ (x : Run). IsLooked looked x us') (sym run) (subst (IsLooked looked r) (sym units) known)

-- ---- the line that begins next

pub none-doubted : (doubted : Bool) (agents : List Agent) (width begun : ℕ) (lines : List Line) → doubted ≡ true → None ≡ next_line_by doubted agents width begun lines
none-doubted doubted agents width begun lines q = ap (λ (d : Bool). next_line_by d agents width begun lines) (sym q)

pub none-full : (doubted : Bool) (agents : List Agent) (many width begun : ℕ) (lines : List Line) → many ≡ lines_carried agents → width ≤ many → None ≡ next_line_by doubted agents width begun lines
none-full doubted agents many width begun lines is full =
    either doubted ∙ ap (λ (b : Bool). if doubted || not b then None else slice_get lines begun) (sym (le-ltb (lines_carried agents) width (subst (λ (n : ℕ). width ≤ n) is full)))
  where
    either : (d : Bool) → None ≡ (if d || not false then None else slice_get lines begun)
    either true = refl
    either false = refl

pub some-next : (doubted : Bool) (agents : List Agent) (many width begun : ℕ) (lines : List Line) (line : Option Line) → doubted ≡ false → many ≡ lines_carried agents → many < width → line ≡ slice_get lines begun
    → line ≡ next_line_by doubted agents width begun lines
some-next doubted agents many width begun lines line q is few at =
    at ∙ (λ i. if sym q i || not (sym (lt-ltb (lines_carried agents) width (subst (λ (n : ℕ). n < width) is few)) i) then None else slice_get lines begun)
