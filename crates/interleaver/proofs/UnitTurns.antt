-- A turn of a unit that was picked.
use Rattle.std.proofs.Common.{◌≡◌, ◌⊎◌, ℕ, zero, suc, ◌+◌, ◌^◌, ◌≤◌, ◌<◌, ◌%◌, Option, Some, None, List, [], ◌∷◌, ◌++◌, length, Bool, true, false, true≢false, inl, inr, refl, sym, ap, ◌∙◌, subst, map}
use Rattle.std.specs.Prelude.{if◌then◌else◌, is_some, slice_get, filter}
use Rattle.base_types.specs.declared.calls.Origin.TheVariants.{Child}
use Rattle.request_wire.specs.declared.requests.Line.{Line}
use Rattle.core_model.specs.CoreState.{UnitNo, Call}
use Rattle.core_model.specs.LockAnswers.{IsGoing}
use Rattle.core_model.specs.declared.events.CoreEvent.{CoreEvent}
use Rattle.core_model.specs.declared.events.CoreEvent.TheVariants as event
use Rattle.core_model.specs.declared.events.CoreReply.{CoreReply}
use Rattle.core_model.specs.declared.events.CoreReply.TheVariants as reply
use Rattle.core_model.specs.Changes.{new_unit}
use Rattle.core_model.specs.Events.{applies, reply_to}
use Rattle.core_model.specs.LegalRuns.{Run, ends}
use Rattle.core_access.specs.OneHolder.{none_comes, own_sight}
use Rattle.core_access.specs.Sights.{Sight, run_seen, saw, IsAlone}
use Rattle.core_access.proofs.OneHolder.{own-run, own-alone}
use Rattle.core_access.proofs.Sights.{reply-alone, run-alone, looks-alone}
use Rattle.worker_rules.specs.UnitOwnership.{leaves_unit}
use Rattle.promise_spec.specs.UnitRule.{KeepsUnitRule}
use Rattle.promise_spec.specs.TurnRule.{OfUnit, OfSettler, mover_of, can_move, picked, Mover}
use Rattle.turn_rules.specs.NextEvent.{with_event, is_begin, MayCome}
use Rattle.turn_rules.specs.CarriedUnits.{movers_of}
use Rattle.turn_rules.specs.TurnLoop.{IsTurning, IsPicked, no_pass, turned, with_new, TurnLoop}
use Rattle.turn_rules.proofs.Turns.{turn-unit, turn-child}
use Rattle.txn_agent.specs.declared.agent.Advanced.{Advanced}
use Rattle.txn_agent.specs.declared.agent.Advanced.TheVariants as advanced
use Rattle.txn_agent.specs.AgentStep.{Puts, AnswerSays, is_move}
use Rattle.txn_agent.proofs.LoneSteps.{puts-applied, missed-not}
use Rattle.txn_agent.proofs.MoveAnswers.{alone-tells}
use Rattle.unit_carrier.specs.CarriedUnits.{StepsOn, units_carried, with_child}
use Rattle.unit_carrier.specs.declared.agents.Went.{Went}
use Rattle.run_books.specs.Beginnings.{Outset, basis_of}
use Rattle.run_books.specs.Books.{Books}
use Rattle.interleaver.specs.Flights.{loop_at}
use Rattle.interleaver.specs.TurnStages.{TurnStage, IsUnderWay, WentOn}
use Rattle.interleaver.proofs.Frames.{unit-others, unit-no-line, done-begins-none, began-is-new}
use Rattle.interleaver.proofs.OtherTurns.{event-went, loop-into}
use Rattle.run_books.proofs.BooksStated.{OthersKeep}
use Rattle.core_model.specs.Settler.{has_step, settler_step}
use Rattle.script_tree.specs.Programs.{ProgramTree}
use Rattle.promise_spec.specs.UnitAnswers.{got_in}

-- the event of a unit by which the run went on, and the units that are carried then
pub record GoesByUnit (o : Outset) (u : UnitNo) (r r' : Run) (units units' : List UnitNo) : Type 0 where
  pub e : CoreEvent
  pub own : mover_of e ≡ OfUnit u
  pub applied : applies (ends r) e ≡ true
  pub due : MayCome (basis_of o) r e
  pub run : r' ≡ with_event r e
  pub carries : ((is_begin e ≡ false) × (units' ≡ units)) ⊎ ((index : ℕ) × (depth : ℕ) × (call : Call) × (e ≡ event.Begin (Child u index depth) call false) × (units' ≡ units ++ (new_unit (ends r) ∷ [])))

module _ (o : Outset) (r r' : Run) (u : UnitNo) (units units' : List UnitNo) (going : IsGoing (ends r)) (kinds : r.kinds ≡ length o.program.types) where
  abbrev s : Sight
  s = own_sight r

  abbrev t : Sight
  t = own_sight r'

  alone : IsAlone (leaves_unit u) s
  alone = own-alone (leaves_unit u) r

  at : run_seen s ≡ r
  at = own-run r

  goes-seen : IsGoing (ends (run_seen s))
  goes-seen = subst (λ (x : Run). IsGoing (ends x)) (sym at) going

  -- a put of the unit's event that applies
  by-put : (e : CoreEvent) (y : CoreReply) (p : Puts none_comes o.program.types u s e y t) → applies (ends (run_seen s)) e ≡ true
      → (((is_begin e ≡ false) × (units' ≡ units)) ⊎ ((index : ℕ) × (depth : ℕ) × (call : Call) × (e ≡ event.Begin (Child u index depth) call false) × (units' ≡ units ++ (new_unit (ends r) ∷ []))))
      → GoesByUnit o u r r' units units'
  by-put e y p a which = record {
    e = e;
    own = p.own;
    applied = subst (λ (x : Run). applies (ends x) e ≡ true) at a;
    due = subst (λ (x : Run). MayCome (basis_of o) x e) (ap run_seen (saw-same p) ∙ at) (p.due (subst (IsAlone (leaves_unit u)) (sym (saw-same p)) alone) (basis_of o) refl);
    run = sym (own-run r') ∙ run-alone s t e y p.told ∙ ap (λ (x : Run). with_event x e) at;
    carries = which;
  }
    where
      saw-same : (p : Puts none_comes o.program.types u s e y t) → saw s p.told.rest ≡ s
      saw-same p = looks-alone s (saw s p.told.rest) (record { rest = p.told.rest; others = p.told.others; sight = refl })

  put-reply : (e : CoreEvent) (y : CoreReply) → Puts none_comes o.program.types u s e y t → y ≡ reply_to (ends r) e
  put-reply e y p = reply-alone s t e y p.told ∙ ap (λ (x : Run). reply_to (ends x) e) at

  -- a step that moved
  by-answer : (kids : ℕ) (a : Advanced) → AnswerSays none_comes o.program.types u kids s t a → is_move a ≡ true → units' ≡ with_child units a
      → GoesByUnit o u r r' units units'
  by-answer kids (advanced.Granted grain source) says m us =
      by-put (event.Grant u grain says.0) (reply.Granted says.1.0 source) says.1.1 (puts-applied o.program.types u s t (event.Grant u grain says.0) (reply.Granted says.1.0 source) refl says.1.1) (inl (refl, us))
  by-answer kids (advanced.Began child call depth) says m us =
      let a : applies (ends (run_seen s)) (event.Begin (Child u kids depth) call false) ≡ true = puts-applied o.program.types u s t (event.Begin (Child u kids depth) call false) (reply.Began child) refl says in
      let new : child ≡ new_unit (ends r) =
      began-is-new (ends r) (Child u kids depth) call false child (subst (λ (x : Run). applies (ends x) (event.Begin (Child u kids depth) call false) ≡ true) at a)
      (put-reply (event.Begin (Child u kids depth) call false) (reply.Began child) says) in
      by-put (event.Begin (Child u kids depth) call false) (reply.Began child) says a
      (inr (
        kids,
        depth,
        call,
        refl,
        us ∙ ap (λ (x : UnitNo). units ++ (x ∷ [])) new,
      ))
  by-answer kids (advanced.Waits holder) says m us = absurd (true≢false (sym m))
  by-answer kids (advanced.WaitsLoad grain) says m us = absurd (true≢false (sym m))
  by-answer kids (advanced.WaitsFor child) says m us = absurd (true≢false (sym m))
  by-answer kids advanced.Ended says m us = absurd (true≢false (sym m))
  by-answer kids advanced.Moved (inl (e, p)) m us =
      let a : applies (ends (run_seen s)) e ≡ true = puts-applied o.program.types u s t e reply.Done refl p in
      by-put e reply.Done p a (inl (done-begins-none (ends r) e (subst (λ (x : Run). applies (ends x) e ≡ true) at a) (put-reply e reply.Done p), us))
  by-answer kids advanced.Moved (inr (inl miss)) m us = absurd (missed-not o.program.types u s t miss alone goes-seen)
  by-answer kids advanced.Moved (inr (inr stray)) m us =
      let same : t ≡ s = looks-alone s t stray.looked in
      absurd (stray.never (subst (IsAlone (leaves_unit u)) (sym same) alone) (ap (λ (x : Run). x.kinds) (ap run_seen same ∙ at) ∙ kinds))

  -- the step of a unit that can move
  pub by-step : (first : 0 < r.base) (rule : KeepsUnitRule (basis_of o) r) (w : Went) → StepsOn none_comes o.program.types u s t units units' w → can_move o.program.types (ends r) (got_in r) u ≡ true
      → GoesByUnit o u r r' units units'
  by-step first rule w st moves =
      let above : 0 < (run_seen s).base = subst (λ (x : Run). 0 < x.base) (sym at) first in
      let move : is_move st.answer ≡ true =
      alone-tells (basis_of o) u st.kids s t st.answer st.says alone (ap (λ (x : Run). x.kinds) at ∙ kinds) goes-seen above
      ∙ ap (λ (x : Run). can_move o.program.types (ends x) (got_in x) u) at ∙ moves in
      by-answer st.kids st.answer st.says move st.units

-- ---- who was picked

-- an element of a list at some place
in-filter : (p : UnitNo → Bool) (us : List UnitNo) (tail : List Mover) (i : ℕ) (u : UnitNo) → ((j : ℕ) → slice_get tail j ≡ Some (OfUnit u) → ⊥) → slice_get (map OfUnit (filter p us) ++ tail) i ≡ Some (OfUnit u) → p u ≡ true
in-filter p [] tail i u none q = absurd (none i q)
in-filter p (v ∷ us) tail i u none q = by (p v) refl q (λ j x. in-filter p us tail j u none x)
  where
    same : (a b : UnitNo) → Some (OfUnit a) ≡ Some (OfUnit b) → a ≡ b
    same a b e = cc

    at : (i : ℕ) → p v ≡ true → slice_get (OfUnit v ∷ (map OfUnit (filter p us) ++ tail)) i ≡ Some (OfUnit u) → ((j : ℕ) → slice_get (map OfUnit (filter p us) ++ tail) j ≡ Some (OfUnit u) → p u ≡ true) → p u ≡ true
    at zero e x more = subst (λ (z : UnitNo). p z ≡ true) (same v u x) e
    at (suc i) e x more = more i x

    by : (b : Bool) → p v ≡ b → slice_get (map OfUnit (if b then v ∷ filter p us else filter p us) ++ tail) i ≡ Some (OfUnit u)
        → ((j : ℕ) → slice_get (map OfUnit (filter p us) ++ tail) j ≡ Some (OfUnit u) → p u ≡ true) → p u ≡ true
    by true e x more = at i e x more
    by false e x more = more i x

in-picked : (ms : List Mover) (pick : ℕ) (m : Mover) → picked ms pick ≡ Some m → (i : ℕ) × (slice_get ms i ≡ Some m)
in-picked [] pick m q = absurd cc
in-picked (x ∷ ms) pick m q = (pick % length (x ∷ ms), q)

tail-none : (b : Bool) (u : UnitNo) (j : ℕ) → slice_get (if b then OfSettler ∷ [] else []) j ≡ Some (OfUnit u) → ⊥
tail-none true u zero q = absurd cc
tail-none true u (suc j) q = absurd cc
tail-none false u j q = absurd cc

-- a unit that was picked can move, and nothing is in doubt
pub picked-moves : (types : ProgramTree) (r : Run) (units : List UnitNo) (pick : ℕ) (u : UnitNo) → picked (movers_of types r units) pick ≡ Some (OfUnit u)
    → (can_move types (ends r) (got_in r) u ≡ true) × ((ends r).manager.doubt ≡ None)
picked-moves types r units pick u q = by (ends r).manager.doubt refl
  where
    steps : Bool
    steps = has_step (settler_step (ends r))

    found : (i : ℕ) × (slice_get (movers_of types r units) i ≡ Some (OfUnit u))
    found = in-picked (movers_of types r units) pick (OfUnit u) q

    by : (d : Option ℕ) → (ends r).manager.doubt ≡ d → (can_move types (ends r) (got_in r) u ≡ true) × ((ends r).manager.doubt ≡ None)
    by None e = (
      in-filter (can_move types (ends r) (got_in r)) units (if steps then OfSettler ∷ [] else []) found.0 u (tail-none steps u)
          (subst (λ (d : Option ℕ). slice_get ((if is_some d then [] else map OfUnit (filter (can_move types (ends r) (got_in r)) units)) ++ (if steps then OfSettler ∷ [] else [])) found.0 ≡ Some (OfUnit u)) e found.1),
      e,
    )
    by (Some d) e =
        absurd (tail-none steps u found.0
        (subst (λ (d : Option ℕ). slice_get ((if is_some d then [] else map OfUnit (filter (can_move types (ends r) (got_in r)) units)) ++ (if steps then OfSettler ∷ [] else [])) found.0 ≡ Some (OfUnit u)) e found.1))

-- ---- the loop

module _ (keeps : OthersKeep) (tells : Bool) (o : Outset) (lines : List Line) (b : Books) (s s' : TurnStage)
    (way : IsUnderWay tells o o.program.types lines o.width o.picks b s) where
  abbrev l : TurnLoop
  l = loop_at o s.at.run s.agents s.used s.pass

  -- the rules go on by the unit's event
  pub unit-turning : (u : UnitNo) → IsPicked l (OfUnit u) → GoesByUnit o u s.at.run s'.at.run (units_carried s.agents) (units_carried s'.agents) → s'.used ≡ s.used + 1 → s'.pass ≡ no_pass
      → IsTurning (loop_at o s'.at.run s'.agents s'.used s'.pass)
  unit-turning u pick g used fresh = by g.carries
    where
      into : (us : List UnitNo) → units_carried s'.agents ≡ us → IsTurning (turned l g.e us (s.used + 1)) → IsTurning (loop_at o s'.at.run s'.agents s'.used s'.pass)
      into us q t = loop-into o (with_event s.at.run g.e) s'.at.run us (units_carried s'.agents) (s.used + 1) s'.used no_pass s'.pass g.run q used fresh t

      by : ((is_begin g.e ≡ false) × (units_carried s'.agents ≡ units_carried s.agents)) ⊎ ((index : ℕ) × (depth : ℕ) × (call : Call) × (g.e ≡ event.Begin (Child u index depth) call false) × (units_carried s'.agents ≡ units_carried s.agents ++ (new_unit (ends s.at.run) ∷ [])))
          → IsTurning (loop_at o s'.at.run s'.agents s'.used s'.pass)
      by (inl x) = into (units_carried s.agents) x.1 (turn-unit l way.turning u g.e pick g.own x.0 g.due g.applied)
      by (inr (index, depth, call, is, us)) =
          into (units_carried s.agents ++ (new_unit (ends s.at.run) ∷ [])) us
          (subst (λ (e : CoreEvent). IsTurning (turned l e (with_new l) (s.used + 1))) (sym is)
          (turn-child l way.turning u index depth call pick (subst (MayCome (basis_of o) s.at.run) is g.due) (subst (λ (e : CoreEvent). applies (ends s.at.run) e ≡ true) is g.applied)))

  -- and so does all
  pub unit-went : (u : UnitNo) → IsPicked l (OfUnit u) → GoesByUnit o u s.at.run s'.at.run (units_carried s.agents) (units_carried s'.agents) → s'.used ≡ s.used + 1 → s'.pass ≡ no_pass → s'.begun ≡ s.begun
      → s'.at.settler ≡ s.at.settler → s'.at.faults ≡ s.at.faults → s'.at.world ≡ s.at.world → s.at.settler.doubted ≡ false → (ends s'.at.run).units.next ≤ 2 ^ 63
      → WentOn tells o o.program.types lines o.width o.picks b s s'
  unit-went u pick g used fresh begun settler counts world sure few =
      event-went tells o lines b s s' way begun settler counts world keeps g.e g.run (unit-others u g.e g.own) (unit-no-line u g.e g.own) (unit-turning u pick g used fresh) sure few
