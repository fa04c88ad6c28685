-- A turn of who was picked, by what the calls of a turn say.
use Rattle.std.proofs.Common.{◌≡◌, ℕ, zero, suc, ◌+◌, ◌%◌, ◌++◌, Some, None, List, [], ◌∷◌, length, Bool, true, false, inl, inr, refl, sym, ap, ◌∙◌, subst}
use Rattle.std.specs.Prelude.{drop, filter, map, if◌then◌else◌, get_or, slice_get, Result, Ok, Err, is_some}
use Rattle.std.proofs.lemmas.Option.{get_or_from_slice_get}
use Rattle.request_wire.specs.declared.requests.Line.{Line}
use Rattle.core_model.specs.CoreState.{UnitNo, CoreState, nobody}
use Rattle.core_model.specs.LegalRuns.{Run, ends}
use Rattle.core_model.specs.Settler.{has_step, settler_step, Step, Rests}
use Rattle.core_access.specs.Histories.{reply_in}
use Rattle.core_access.specs.OneHolder.{none_comes, own_sight}
use Rattle.core_access.proofs.OneHolder.{own-tells}
use Rattle.script_tree.specs.Programs.{ProgramTree}
use Rattle.promise_spec.specs.TurnRule.{Mover, can_move, OfUnit, OfSettler, picked}
use Rattle.promise_spec.specs.UnitAnswers.{got_in}
use Rattle.turn_rules.specs.CarriedUnits.{movers_of}
use Rattle.turn_rules.specs.TurnLoop.{IsPicked, no_pass}
use Rattle.turn_rules.proofs.Settlers.{settlers-others}
use Rattle.txn_agent.specs.declared.agent.Agent.{Agent}
use Rattle.txn_agent.specs.AgentStep.{Acts}
use Rattle.unit_carrier.specs.CarriedUnits.{AreCarried, StepsOn, as_carried, unit_at, units_carried}
use Rattle.unit_carrier.proofs.Places.{tells-carried, units-same}
use Rattle.run_books.specs.Beginnings.{Outset, IsOutset}
use Rattle.run_books.specs.Books.{Books}
use Rattle.interleaver.specs.Flights.{loop_at, IsNextMover}
use Rattle.run_books.specs.Records.{HasCarriedAll}
use Rattle.promise_spec.specs.Causes.{RunHasDoubt}
use Rattle.turn_rules.specs.QuietRun.{HasRun}
use Rattle.interleaver.specs.Turns.{TurnsGoOn as RecordGoesOn}
use Rattle.run_books.specs.declared.faults.RunFault.TheVariants.{Memory}
use Rattle.interleaver.specs.declared.movers.NextMover.TheVariants.{Unit as OfIndex}
use Rattle.interleaver.specs.TurnStages.{TurnSays, TurnStage, GoesBy, HasPassed, IsUnderWay, WentOn, MovedOn, SettlesBy, SettlesOne, SettledOn}
use Rattle.interleaver.proofs.RunningTurns.{way-unstopped}
use Rattle.run_books.proofs.BooksStated.{OthersKeep}
use Rattle.interleaver.proofs.UnitTurns.{by-step, picked-moves, unit-went}
use Rattle.interleaver.proofs.MemoryEnds.{unit-lacks, lacks-none}
use Rattle.interleaver.proofs.RunEnds.{has-carried}
use Rattle.interleaver.proofs.OtherTurns.{loop-into, settler-went, settler-ends, still-went}
use Rattle.settle_loop.specs.declared.settler.Settler.{Settler}
use Rattle.run_books.specs.declared.faults.RunFault.{RunFault}
use Rattle.run_books.specs.Stages.{stage_by}

-- what the outset says it is told of
pub at-outset : (P : ProgramTree → ℕ → List ℕ → Type 0) (o : Outset) (types : ProgramTree) (r : Run) (lines : List Line) (width : ℕ) (picks : List ℕ) → IsOutset o types r lines width picks
    → P o.program.types o.width o.picks → P types width picks
at-outset P o types r lines width picks is p =
    subst (λ (t : ProgramTree). P t width picks) is.types_are (subst (λ (n : ℕ). P o.program.types n picks) is.width_is (subst (P o.program.types o.width) is.picks_are p))

-- what is known of carried units stays by a step of the settler, or a load
pub goes-known : (types : ProgramTree) (agents : List Agent) (next : CoreState → Step) (r r' : Run) → GoesBy next r r' → AreCarried types none_comes (own_sight r) agents → AreCarried types none_comes (own_sight r') agents
goes-known types agents next r r' (inl q) c = subst (λ (x : Run). AreCarried types none_comes (own_sight x) agents) (sym q) c
goes-known types agents next r r' (inr (e, makes, q)) c =
    subst (λ (x : Run). AreCarried types none_comes (own_sight x) agents) (sym q)
    (tells-carried types none_comes (own_sight r) _ e (reply_in r e) agents (own-tells r e) (λ u. settlers-others u (next (ends r)) e makes) c)

module _ (keeps : OthersKeep) (tells : Bool) (o : Outset) (lines : List Line) (b : Books) (s : TurnStage) (r1 : Run) (agents1 : List Agent)
    (way : IsUnderWay tells o o.program.types lines o.width o.picks b s) (passed : HasPassed o s)
    (index : ℕ) (is : IsNextMover o.program.types s.at.run (units_carried s.agents) (get_or o.picks s.used 0) (OfIndex index)) (run : r1 ≡ s.at.run) (same : as_carried agents1 ≡ as_carried s.agents) where
  u : UnitNo
  u = is.0

  units : units_carried agents1 ≡ units_carried s.agents
  units = units-same agents1 s.agents same

  at : unit_at agents1 index ≡ is.0
  at = ap (λ (us : List UnitNo). get_or us index nobody) units ∙ get_or_from_slice_get (units_carried s.agents) index is.0 nobody is.1

  pick : IsPicked (loop_at o s.at.run s.agents s.used s.pass) (OfUnit is.0)
  pick = record { none = passed.full; through = passed.through; pick = is.2 }

  -- the unit moves
  pub unit-turn : (s' : TurnStage) → MovedOn o.program.types index r1 s'.at.run agents1 s'.agents → s'.used ≡ s.used + 1 → s'.pass ≡ no_pass → s'.begun ≡ s.begun → s'.at.settler ≡ s.at.settler → s'.at.faults ≡ s.at.faults → s'.at.world ≡ s.at.world
      → WentOn tells o o.program.types lines o.width o.picks b s s'
  unit-turn s' m used fresh begun settler counts world =
      let moves = picked-moves o.program.types s.at.run (units_carried s.agents) (get_or o.picks s.used 0) is.0 is.2 in
      let on : StepsOn none_comes o.program.types is.0 (own_sight s.at.run) (own_sight s'.at.run) (units_carried s.agents) (units_carried s'.agents) m.went =
      subst (λ (x : Run). StepsOn none_comes o.program.types is.0 (own_sight x) (own_sight s'.at.run) (units_carried s.agents) (units_carried s'.agents) m.went) run
      (subst (λ (us : List UnitNo). StepsOn none_comes o.program.types is.0 (own_sight r1) (own_sight s'.at.run) us (units_carried s'.agents) m.went) units
      (subst (λ (v : UnitNo). StepsOn none_comes o.program.types v (own_sight r1) (own_sight s'.at.run) (units_carried agents1) (units_carried s'.agents) m.went) at m.on)) in
      unit-went keeps tells o lines b s s' way is.0 pick
      (by-step o s.at.run s'.at.run is.0 (units_carried s.agents) (units_carried s'.agents) (moves.1, (way-unstopped way)) way.outset.kinds way.turning.first way.turning.unit_rule m.went on moves.0)
      used fresh begun settler counts world (way.books.doubt ∙ ap is_some moves.1) m.few

  -- or has no memory
  pub unit-out : (r' : Run) → Acts none_comes o.program.types (unit_at agents1 index) (own_sight r1) (own_sight r') → RecordGoesOn {T = Bool} tells o b s.at (stage_by r' s.at.settler s.at.faults s.at.world) (Err Memory)
  unit-out r' acts =
      unit-lacks keeps tells o lines b s r' way is.0 pick
      (subst (λ (x : Run). Acts none_comes o.program.types is.0 (own_sight x) (own_sight r')) run
      (subst (λ (v : UnitNo). Acts none_comes o.program.types v (own_sight r1) (own_sight r')) at acts))

-- the settler has a step where it was picked
tail-steps : (us : List UnitNo) (b : Bool) (i : ℕ) → slice_get (map OfUnit us ++ (if b then OfSettler ∷ [] else [])) i ≡ Some OfSettler → b ≡ true
tail-steps us true i q = refl
tail-steps [] false i q = absurd cc
tail-steps (u ∷ us) false zero q = absurd cc
tail-steps (u ∷ us) false (suc i) q = tail-steps us false i q

in-some : (ms : List Mover) (pick : ℕ) (m : Mover) → picked ms pick ≡ Some m → (i : ℕ) × (slice_get ms i ≡ Some m)
in-some [] pick m q = absurd cc
in-some (x ∷ ms) pick m q = (pick % length (x ∷ ms), q)

picked-steps : (types : ProgramTree) (r : Run) (units : List UnitNo) (pick : ℕ) → picked (movers_of types r units) pick ≡ Some OfSettler → has_step (settler_step (ends r)) ≡ true
picked-steps types r units pick q = by (is_some (ends r).manager.doubt) found.1
  where
    found : (i : ℕ) × (slice_get (movers_of types r units) i ≡ Some OfSettler)
    found = in-some (movers_of types r units) pick OfSettler q

    by : (d : Bool) → slice_get ((if d then [] else map OfUnit (filter (can_move types (ends r) (got_in r)) units)) ++ (if has_step (settler_step (ends r)) then OfSettler ∷ [] else [])) found.0 ≡ Some OfSettler → has_step (settler_step (ends r)) ≡ true
    by true x = tail-steps [] (has_step (settler_step (ends r))) found.0 x
    by false x = tail-steps (filter (can_move types (ends r) (got_in r)) units) (has_step (settler_step (ends r))) found.0 x

-- want of memory is what a turn says of it
pub says-lack : (tells : Bool) (o : Outset) (types : ProgramTree) (lines : List Line) (width : ℕ) (picks : List ℕ) (b : Books) (s s' : TurnStage) (result : Result Bool RunFault) (f : RunFault) → result ≡ Err f
    → RecordGoesOn {T = Bool} tells o b s.at s'.at (Err f) → TurnSays tells o types lines width picks b s s' result
says-lack tells o types lines width picks b s s' result f q g = subst (TurnSays tells o types lines width picks b s s') (sym q) g

module _ (keeps : OthersKeep) (tells : Bool) (o : Outset) (types : ProgramTree) (lines : List Line) (width : ℕ) (picks : List ℕ) (b : Books) (s : TurnStage)
    (way : IsUnderWay tells o types lines width picks b s) (passed : HasPassed o s) where
  -- nothing was put
  pub none-out : (r' : Run) → r' ≡ s.at.run → RecordGoesOn {T = Bool} tells o b s.at (stage_by r' s.at.settler s.at.faults s.at.world) (Err Memory)
  none-out r' q =
      at-outset (λ t n ps. IsUnderWay tells o t lines n ps b s → RecordGoesOn {T = Bool} tells o b s.at (stage_by r' s.at.settler s.at.faults s.at.world) (Err Memory))
      o types s.at.run (drop s.begun lines) width picks way.outset (λ w. lacks-none keeps tells o lines b s r' w q) way

  -- nobody can move
  pub nobody-says : (s' : TurnStage) → s'.at.run ≡ s.at.run → units_carried s'.agents ≡ units_carried s.agents → s'.used ≡ s.used → s'.begun ≡ s.begun → s'.at.settler ≡ s.at.settler → s'.at.faults ≡ s.at.faults → s'.at.world ≡ s.at.world
      → movers_of types s.at.run (units_carried s.agents) ≡ [] → TurnSays tells o types lines width picks b s s' (Ok false)
  nobody-says s' run us used begun settler counts world none =
      at-outset (λ t n ps. IsUnderWay tells o t lines n ps b s → movers_of t s.at.run (units_carried s.agents) ≡ [] → TurnSays tells o t lines n ps b s s' (Ok false))
      o types s.at.run (drop s.begun lines) width picks way.outset
      (λ w m. (s.pass, went w, carried (has-carried tells o lines b s w m passed.full passed.through))) way none
    where
      carried : HasCarriedAll o s.at → HasCarriedAll o s'.at
      carried all = record {
        run = subst (λ (x : Run). HasRun (length o.asked) (ends x)) (sym run) all.run;
        none = subst (λ (x : Run). (ends x).manager.doubt ≡ None) (sym run) all.none;
        never = subst (λ (x : Run). RunHasDoubt x → ⊥) (sym run) all.never;
        unstopped = subst (λ (x : Run). (ends x).units.halt ≡ false) (sym run) all.unstopped;
        rests = subst (λ (x : Run). settler_step (ends x) ≡ Rests) (sym run) all.rests;
        written = subst (λ (x : Settler). x.written ≡ (ends s'.at.run).units.lines) (sym settler)
            (subst (λ (x : Run). s.at.settler.written ≡ (ends x).units.lines) (sym run) all.written);
      }

      went : IsUnderWay tells o o.program.types lines o.width o.picks b s → WentOn tells o o.program.types lines o.width o.picks b s (record s' { pass = s.pass })
      went w = still-went tells o lines b s (record s' { pass = s.pass }) w begun settler counts world run
          (loop-into o s.at.run s'.at.run (units_carried s.agents) (units_carried s'.agents) s.used s'.used s.pass s.pass run us used refl w.turning)

  -- the picked unit's step
  pub unit-says : (s' : TurnStage) (r1 : Run) (agents1 : List Agent) (index : ℕ) (pick : ℕ) → pick ≡ get_or picks s.used 0 → IsNextMover types s.at.run (units_carried s.agents) pick (OfIndex index) → r1 ≡ s.at.run → as_carried agents1 ≡ as_carried s.agents
      → MovedOn types index r1 s'.at.run agents1 s'.agents → s'.used ≡ s.used + 1 → s'.pass ≡ no_pass → s'.begun ≡ s.begun → s'.at.settler ≡ s.at.settler → s'.at.faults ≡ s.at.faults → s'.at.world ≡ s.at.world
      → WentOn tells o types lines width picks b s s'
  unit-says s' r1 agents1 index pick at is run same m used fresh begun settler counts world =
      at-outset (λ t n ps. IsUnderWay tells o t lines n ps b s → IsNextMover t s.at.run (units_carried s.agents) (get_or ps s.used 0) (OfIndex index) → MovedOn t index r1 s'.at.run agents1 s'.agents → WentOn tells o t lines n ps b s s')
      o types s.at.run (drop s.begun lines) width picks way.outset
      (λ w i x. unit-turn keeps tells o lines b s r1 agents1 w passed index i run same s' x used fresh begun settler counts world) way
      (subst (λ (p : ℕ). IsNextMover types s.at.run (units_carried s.agents) p (OfIndex index)) at is) m

  pub unit-out-says : (r' r1 : Run) (agents1 : List Agent) (index : ℕ) (pick : ℕ) → pick ≡ get_or picks s.used 0 → IsNextMover types s.at.run (units_carried s.agents) pick (OfIndex index) → r1 ≡ s.at.run → as_carried agents1 ≡ as_carried s.agents
      → Acts none_comes types (unit_at agents1 index) (own_sight r1) (own_sight r') → RecordGoesOn {T = Bool} tells o b s.at (stage_by r' s.at.settler s.at.faults s.at.world) (Err Memory)
  unit-out-says r' r1 agents1 index pick at is run same acts =
      at-outset (λ t n ps. IsUnderWay tells o t lines n ps b s → IsNextMover t s.at.run (units_carried s.agents) (get_or ps s.used 0) (OfIndex index) → Acts none_comes t (unit_at agents1 index) (own_sight r1) (own_sight r')
      → RecordGoesOn {T = Bool} tells o b s.at (stage_by r' s.at.settler s.at.faults s.at.world) (Err Memory))
      o types s.at.run (drop s.begun lines) width picks way.outset
      (λ w i x. unit-out keeps tells o lines b s r1 agents1 w passed index i run same r' x) way
      (subst (λ (p : ℕ). IsNextMover types s.at.run (units_carried s.agents) p (OfIndex index)) at is) acts

  -- the settler's step
  pub settler-says : (s' : TurnStage) (pick : ℕ) → pick ≡ get_or picks s.used 0 → picked (movers_of types s.at.run (units_carried s.agents)) pick ≡ Some OfSettler
      → (has_step (settler_step (ends s.at.run)) ≡ true → SettlesOne s.at.run s'.at.run) → SettledOn {T = Unit} tells o b s.at s'.at (Ok tt)
      → units_carried s'.agents ≡ units_carried s.agents → s'.used ≡ s.used + 1 → s'.begun ≡ s.begun → s'.pass ≡ no_pass → WentOn tells o types lines width picks b s s'
  settler-says s' pick at is acts on us used begun fresh =
      at-outset (λ t n ps. IsUnderWay tells o t lines n ps b s → picked (movers_of t s.at.run (units_carried s.agents)) (get_or ps s.used 0) ≡ Some OfSettler → WentOn tells o t lines n ps b s s')
      o types s.at.run (drop s.begun lines) width picks way.outset
      (λ w i. let e = acts (picked-steps o.program.types s.at.run (units_carried s.agents) (get_or o.picks s.used 0) i) in
      settler-went tells o lines b s s' w tt (record { none = passed.full; through = passed.through; pick = i }) e.0 e.1 e.2 on us used begun fresh) way
      (subst (λ (p : ℕ). picked (movers_of types s.at.run (units_carried s.agents)) p ≡ Some OfSettler) at is)

  pub settler-out-says : (s' : TurnStage) (pick : ℕ) → pick ≡ get_or picks s.used 0 → picked (movers_of types s.at.run (units_carried s.agents)) pick ≡ Some OfSettler
      → SettlesBy s.at.run s'.at.run → (f : RunFault) → SettledOn {T = Unit} tells o b s.at s'.at (Err f)
      → RecordGoesOn {T = Bool} tells o b s.at s'.at (Err f)
  settler-out-says s' pick at is by f on =
      at-outset (λ t n ps. IsUnderWay tells o t lines n ps b s → picked (movers_of t s.at.run (units_carried s.agents)) (get_or ps s.used 0) ≡ Some OfSettler → RecordGoesOn {T = Bool} tells o b s.at s'.at (Err f))
      o types s.at.run (drop s.begun lines) width picks way.outset
      (λ w i. settler-ends tells o lines b s s' w (record { none = passed.full; through = passed.through; pick = i }) by f on) way
      (subst (λ (p : ℕ). picked (movers_of types s.at.run (units_carried s.agents)) p ≡ Some OfSettler) at is)
