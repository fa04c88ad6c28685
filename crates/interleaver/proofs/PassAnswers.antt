-- What the pass of a turn says, of one unit and of all.
use Rattle.std.proofs.Common.{◌≡◌, inl, inr, ℕ, suc, ◌+◌, ◌<◌, ◌≤◌, Option, Some, None, List, [], ◌∷◌, length, Bool, true, false, true≢false, refl, sym, ap, ◌∙◌, subst, arith}
use Rattle.std.specs.Prelude.{drop, slice_get, is_some, not, ◌&&◌, Result, Ok, Err}
use Rattle.std.proofs.lemmas.Bool.{cases_Bool, cases_lt}
use Rattle.std.proofs.lemmas.Option.{slice_get-get_or}
use Rattle.base_types.specs.declared.shapes.Shape.{Shape}
use Rattle.request_wire.specs.declared.requests.Line.{Line}
use Rattle.core_model.specs.CoreState.{UnitNo, GrainId, Member, nobody}
use Rattle.core_model.specs.LegalRuns.{Run, ends}
use Rattle.core_model.specs.Settler.{has_step}
use Rattle.core_model.specs.WantedGrains.{next_wanted}
use Rattle.core_access.specs.OneHolder.{none_comes, own_sight}
use Rattle.core_access.specs.Sights.{IsAlone, run_seen}
use Rattle.core_access.proofs.OneHolder.{own-alone, own-run}
use Rattle.core_access.proofs.Sights.{looks-alone}
use Rattle.worker_rules.specs.UnitOwnership.{leaves_unit}
use Rattle.core_model.specs.Tests.{ask_answer}
use Rattle.core_model.specs.declared.questions.AskAnswer.TheVariants as answer
use Rattle.promise_spec.specs.TurnRule.{is_absent, lock_asked, waits_for_load}
use Rattle.promise_spec.specs.UnitAnswers.{got_in}
use Rattle.script_check.specs.Shapes.{type_shapes}
use Rattle.script_tree.specs.Programs.{ProgramTree}
use Rattle.turn_rules.specs.TurnLoop.{MissesOnly, Pass, has_room, no_pass, waits_in}
use Rattle.turn_rules.proofs.Turns.{pass-looks}
use Rattle.settle_loop.specs.SettlerStep.{load_of, wanted_step}
use Rattle.txn_agent.specs.declared.agent.Agent.{Agent}
use Rattle.txn_agent.specs.Wishes.{GoesByWish, Wishes}
use Rattle.unit_carrier.specs.CarriedUnits.{AreCarried, AreFreed, WishesAt, as_carried, unit_at, units_carried}
use Rattle.unit_carrier.proofs.Places.{units-same}
use Rattle.run_books.specs.declared.faults.RunFault.{RunFault}
use Rattle.run_books.specs.declared.faults.RunFault.TheVariants.{Memory}
use Rattle.run_books.specs.Beginnings.{Outset}
use Rattle.run_books.specs.Books.{Books}
use Rattle.run_books.specs.Stages.{Stage, stage_by}
use Rattle.run_books.proofs.BooksStated.{OthersKeep}
use Rattle.interleaver.specs.declared.turns.Turns.{Turns}
use Rattle.interleaver.specs.Flights.{loop_at}
use Rattle.interleaver.specs.Turns.{TurnsGoOn as RecordGoesOn}
use Rattle.interleaver.specs.TurnStages.{TurnStage, AskedSays, HasPassed, IsAsking, IsUnderWay, LoadsBy, LoadsOne, PassGoesOn, SettledOn, StepLoads, TurnSays, WentOn, passing_stage, turn_stage}
use Rattle.interleaver.proofs.AskedUnits.{freed-calm, front-or-left, here-calm, reached-all, reached-some}
use Rattle.interleaver.proofs.LonePasses.{own-same, own-wished}
use Rattle.interleaver.proofs.MemoryEnds.{lacks-none}
use Rattle.interleaver.proofs.OtherTurns.{still-went}
use Rattle.interleaver.proofs.PassTurns.{has-loaded, has-wished, load-ends, looked-past, misses, wish-lacks, wished-sure}
use Rattle.interleaver.proofs.PickedTurns.{at-outset}
use Rattle.interleaver.proofs.RunEnds.{can-settle}
use Rattle.interleaver.proofs.RunningTurns.{way-unstopped}
use Rattle.interleaver.proofs.TurnSequence.{nothing-went, says-behind}

-- as many units are carried as agents
pub many-carried : (agents : List Agent) → length (units_carried agents) ≡ length agents
many-carried [] = refl
many-carried (a ∷ agents) = ap suc (many-carried agents)

-- and no more where the same are carried
pub many-same : (xs ys : List Agent) → as_carried xs ≡ as_carried ys → length xs ≡ length ys
many-same xs ys e = sym (many-carried xs) ∙ ap length (units-same xs ys e) ∙ many-carried ys

none-of : (d : Option ℕ) → is_some d ≡ false → d ≡ None
none-of None q = refl
none-of (Some n) q = absurd cc

-- no doubt stands where the settler knows of none
pub way-sure : {tells : Bool} {o : Outset} {types : ProgramTree} {lines : List Line} {width : ℕ} {picks : List ℕ} {b : Books} {s : TurnStage} → IsUnderWay tells o types lines width picks b s
    → s.at.settler.doubted ≡ false → (ends s.at.run).manager.doubt ≡ None
way-sure {s = s} way calm = none-of (ends s.at.run).manager.doubt (sym way.books.doubt ∙ calm)

-- a sight that is as it was is of the run as it was
seen-same : (r r' : Run) → own_sight r' ≡ own_sight r → r' ≡ r
seen-same r r' q = sym (own-run r') ∙ ap run_seen q ∙ own-run r

module _ (keeps : OthersKeep) (tells : Bool) (o : Outset) (types : ProgramTree) (lines : List Line) (width : ℕ) (picks : List ℕ) (b : Books) (at : Stage) (state : Turns) (p : Pass) (index : ℕ)
    (way : IsUnderWay tells o types lines width picks b (passing_stage at state p)) (calm : at.settler.doubted ≡ false) (asking : IsAsking o (passing_stage at state p) index)
    (within : index < length state.agents.list.items) where
  abbrev s : TurnStage
  s = passing_stage at state p

  abbrev u : UnitNo
  u = unit_at state.agents.list.items index

  there : slice_get (units_carried state.agents.list.items) index ≡ Some u
  there = slice_get-get_or (units_carried state.agents.list.items) index nobody (subst (λ (n : ℕ). index < n) (sym (many-carried state.agents.list.items)) within)

  sure : (ends at.run).manager.doubt ≡ None
  sure = way-sure way calm

  -- there was no memory for the wish, or behind it
  pub unasked-says : (r' : Run) → Wishes none_comes types u (own_sight at.run) (own_sight r') → RecordGoesOn {T = Bool} tells o b at (stage_by r' at.settler at.faults at.world) (Err Memory)
  unasked-says r' wishes =
      at-outset (λ t n ps. IsUnderWay tells o t lines n ps b s → Wishes none_comes t u (own_sight at.run) (own_sight r') → RecordGoesOn {T = Bool} tells o b at (stage_by r' at.settler at.faults at.world) (Err Memory))
      o types at.run (drop state.begun lines) width picks way.outset (λ w x. by w x) way wishes
    where
      by : IsUnderWay tells o o.program.types lines o.width o.picks b s → Wishes none_comes o.program.types u (own_sight at.run) (own_sight r')
          → RecordGoesOn {T = Bool} tells o b at (stage_by r' at.settler at.faults at.world) (Err Memory)
      by w (inl looked) = lacks-none keeps tells o lines b s r' w (own-same at.run r' looked)
      by w (inr x) =
          let wish = x.1.waits in
          let seen : x.1.seen ≡ own_sight at.run = looks-alone (own_sight at.run) x.1.seen wish.looked in
          let asked : lock_asked o.program.types (ends at.run) (got_in at.run) u ≡ Some (x.1.grain, wish.mode) =
          subst (λ (r : Run). lock_asked o.program.types (ends r) (got_in r) u ≡ Some (x.1.grain, wish.mode)) (ap run_seen seen ∙ own-run at.run)
          (wish.wants (subst (IsAlone (leaves_unit u)) (sym seen) (own-alone (leaves_unit u) at.run))) in
          let absent : ask_answer (ends at.run) u x.1.grain wish.mode ≡ answer.Absent = subst (λ (r : Run). ask_answer (ends r) u x.1.grain wish.mode ≡ answer.Absent) (ap run_seen seen ∙ own-run at.run) wish.asked in
          wish-lacks keeps tells o lines b s index u w sure calm asking there r' x.1.grain wish.mode (own-wished o.program.types at.run r' u x) asked (ap (waits_for_load (ends at.run) u) asked ∙ ap is_absent absent)

  -- what stays where the unit at the index waits for no grain, or where it wants one
  module _ (at' : Stage) (state' : Turns) (units : units_carried state'.agents.list.items ≡ units_carried state.agents.list.items) (used : state'.used ≡ state.used) (begun : state'.begun ≡ state.begun)
      (settler : at'.settler ≡ at.settler) (counts : at'.faults ≡ at.faults) (world : at'.world ≡ at.world) where
    abbrev s' : TurnStage
    s' = passing_stage at' state' no_pass

    -- it waits for none
    pub asked-says : {T : Type 0} (done : T) → WishesAt types u (own_sight at.run) (own_sight at'.run) false → AskedSays {T = T} tells o types lines width picks b s at' state' (index + 1) (Ok done)
    asked-says done wishes =
        at-outset (λ t n ps. IsUnderWay tells o t lines n ps b s → WishesAt t u (own_sight at.run) (own_sight at'.run) false
        → (q : Pass) × WentOn tells o t lines n ps b s (passing_stage at' state' q) × IsAsking o (passing_stage at' state' q) (index + 1))
        o types at.run (drop state.begun lines) width picks way.outset (λ w x. by w x) way wishes
      where
        by : (w : IsUnderWay tells o o.program.types lines o.width o.picks b s) → WishesAt o.program.types u (own_sight at.run) (own_sight at'.run) false
            → (q : Pass) × WentOn tells o o.program.types lines o.width o.picks b s (passing_stage at' state' q) × IsAsking o (passing_stage at' state' q) (index + 1)
        by w x =
            let none : next_wanted (ends at.run) ≡ None = subst (λ (g : Option GrainId). MissesOnly g (ends at.run)) asking.none_due w.turning.passing.missing in
            let back : run_seen (own_sight at.run) ≡ at.run = own-run at.run in
            let said = x (subst (λ (r : Run). ((ends r).manager.doubt ≡ None) × ((ends r).units.halt ≡ false)) (sym back) (sure, way-unstopped w)) (subst (λ (r : Run). next_wanted (ends r) ≡ None) (sym back) none) in
            let rests : waits_in o.program.types at.run u ≡ false = subst (λ (r : Run). waits_in o.program.types r u ≡ false) back said.1 in
            let on = looked-past keeps tells o lines b s index u w sure calm asking there s' (seen-same at.run at'.run said.0) units used begun settler counts world rests in
            (record p { before = u.0 + 1 }, on.0, on.1)

    -- its wish was done
    wish-runs : (t : ProgramTree) → WishesAt t u (own_sight at.run) (own_sight at'.run) true → GoesByWish t u at.run at'.run
    wish-runs t x = subst (λ (r : Run). GoesByWish t u r at'.run) (own-run at.run) (subst (GoesByWish t u (run_seen (own_sight at.run))) (own-run at'.run) x)

    -- and the grain was brought, or the run has ended
    pub loaded-says : {T : Type 0} (at'' : Stage) (state'' : Turns) (shape : Shape) → shape.types ≡ type_shapes types → units_carried state''.agents.list.items ≡ units_carried state'.agents.list.items → state''.used ≡ state'.used
        → state''.begun ≡ state'.begun → WishesAt types u (own_sight at.run) (own_sight at'.run) true → (result : Result T RunFault) → StepLoads {T = T} tells shape at' at'' result
        → LoadsBy at'.run at''.run → ((done : T) → result ≡ Ok done → has_step (wanted_step (ends at'.run)) ≡ true → LoadsOne at'.run at''.run)
        → AskedSays {T = T} tells o types lines width picks b s at'' state'' (index + 1) result
    loaded-says {T} at'' state'' shape shape-is units' used' begun' wishes result goes moved acted =
        at-outset (λ t n ps. IsUnderWay tells o t lines n ps b s → shape.types ≡ type_shapes t → WishesAt t u (own_sight at.run) (own_sight at'.run) true → AskedSays {T = T} tells o t lines n ps b s at'' state'' (index + 1) result)
        o types at.run (drop state.begun lines) width picks way.outset (λ w k x. by w k x result refl) way shape-is wishes
      where
        by : IsUnderWay tells o o.program.types lines o.width o.picks b s → shape.types ≡ type_shapes o.program.types → WishesAt o.program.types u (own_sight at.run) (own_sight at'.run) true
            → (x : Result T RunFault) → result ≡ x → AskedSays {T = T} tells o o.program.types lines o.width o.picks b s at'' state'' (index + 1) x
        by w k x res is =
            let wish = wish-runs o.program.types x in
            let mid = has-wished keeps tells o lines b s index u w sure calm asking there s' wish units used begun settler counts world in
            let none = wished-sure keeps tells o lines b s index u w sure calm asking there s' wish units used begun settler counts world in
            let can = can-settle tells o o.program.types lines o.width o.picks mid.books _ shape mid.under_way k in
            let on : SettledOn {T = T} tells o mid.books at' at'' res = subst (λ (y : Result T RunFault). SettledOn {T = T} tells o mid.books at' at'' y) is (goes o mid.books can mid.under_way.even none mid.under_way.books) in
            ends w x res is on
          where
            ends : (w : IsUnderWay tells o o.program.types lines o.width o.picks b s) (x : WishesAt o.program.types u (own_sight at.run) (own_sight at'.run) true) (res : Result T RunFault) → result ≡ res
                → SettledOn {T = T} tells o (has-wished keeps tells o lines b s index u w sure calm asking there s' (wish-runs o.program.types x) units used begun settler counts world).books at' at'' res
                → AskedSays {T = T} tells o o.program.types lines o.width o.picks b s at'' state'' (index + 1) res
            ends w x (Ok done) is on =
                let wish = wish-runs o.program.types x in
                let found = misses keeps tells o lines b s index u w sure calm asking there s' wish units used begun settler counts world in
                let one = acted done is (ap (λ (g : Option GrainId). has_step (load_of g)) found.0) in
                let went = has-loaded keeps tells o lines b s index u w sure calm asking there s' wish units used begun settler counts world {T = T} done (passing_stage at'' state'' no_pass) one on units' used' begun' in
                (record { before = u.0 + 1; last = u.0 + 1; due = None }, went.0, went.1)
            ends w x (Err fault) is on =
                load-ends keeps tells o lines b s index u w sure calm asking there s' (wish-runs o.program.types x) units used begun settler counts world {T = T} at'' moved fault on

-- ---- where the pass begins and ends

-- whatever pass stands, no line may begin
module _ (tells : Bool) (o : Outset) (types : ProgramTree) (lines : List Line) (width : ℕ) (picks : List ℕ) (b : Books) (s : TurnStage) (way : IsUnderWay tells o types lines width picks b s) where
  -- the pass goes on over units that wait for none
  passed-over : (n : ℕ) → s.pass.due ≡ None → s.pass.before ≤ n → ((t : ProgramTree) → t ≡ types → (v : UnitNo) → Member v (units_carried s.agents) → s.pass.before ≤ v.0 → v.0 < n → waits_in t s.at.run v ≡ false)
      → WentOn tells o types lines width picks b s (record s { pass = record s.pass { before = n } })
  passed-over n none more rests =
      at-outset (λ t k ps. t ≡ types → IsUnderWay tells o t lines k ps b s → WentOn tells o t lines k ps b s (record s { pass = record s.pass { before = n } }))
      o types s.at.run (drop s.begun lines) width picks way.outset
      (λ q w. still-went tells o lines b s (record s { pass = record s.pass { before = n } }) w refl refl refl refl refl
      (pass-looks (loop_at o s.at.run s.agents s.used s.pass) w.turning n none more (λ v m low high. rests o.program.types q v m low high))) refl way

-- it begins behind those that have given back all their locks
pub pass-begins : (tells : Bool) (o : Outset) (types : ProgramTree) (lines : List Line) (width : ℕ) (picks : List ℕ) (b : Books) (at : Stage) (state : Turns) (front : ℕ)
    → AreCarried types none_comes (own_sight at.run) state.agents.list.items → AreFreed front state.agents.list.items → IsUnderWay tells o types lines width picks b (turn_stage at state)
    → has_room (loop_at o at.run state.agents.list.items state.used no_pass) ≡ false
    → (p : Pass) × WentOn tells o types lines width picks b (turn_stage at state) (passing_stage at state p) × IsAsking o (passing_stage at state p) front
pass-begins tells o types lines width picks b at state front carried freed way full =
    let t = reached-some (units_carried state.agents.list.items) way.turning.older front in (
      record no_pass { before = t.0 },
      passed-over tells o types lines width picks b (turn_stage at state) way t.0 refl (omega arith) (λ k q v m low high.
          subst (λ (x : ProgramTree). waits_in x at.run v ≡ false) (sym q) (elim (front-or-left (units_carried state.agents.list.items) front v m) [
            | inl before ↦ freed-calm types at.run state.agents.list.items front carried freed v before
            | inr left ↦ (let le = t.1.left v left in absurd (omega (arith, le, high)))
          ])),
      record { full = full; none_due = refl; reached = t.1 },
    )

-- and where all were asked it has come to its end
pub pass-ends : (tells : Bool) (o : Outset) (types : ProgramTree) (lines : List Line) (width : ℕ) (picks : List ℕ) (b : Books) (at : Stage) (state : Turns) (p : Pass) (index : ℕ)
    → IsUnderWay tells o types lines width picks b (passing_stage at state p) → IsAsking o (passing_stage at state p) index → length state.agents.list.items ≤ index
    → (q : Pass) × WentOn tells o types lines width picks b (passing_stage at state p) (passing_stage at state q) × HasPassed o (passing_stage at state q)
pass-ends tells o types lines width picks b at state p index way asking all =
    let units : List UnitNo = units_carried state.agents.list.items in
    let many = many-carried state.agents.list.items in
    let asked : (v : UnitNo) → Member v units → v.0 < p.before = (λ v m. reached-all units index p.before (omega (arith, all, many)) asking.reached v m) in
    elim (cases_lt p.before (ends at.run).units.next) [
      | inl less ↦ (
        record p { before = (ends at.run).units.next },
        passed-over tells o types lines width picks b (passing_stage at state p) way (ends at.run).units.next asking.none_due (omega (arith, less))
            (λ t q v m low high. (let below = asked v m in absurd (omega (arith, below, low)))),
        record { full = asking.full; through = record { none_due = asking.none_due; all = inr (omega arith) } },
      )
      | inr le ↦ (p, nothing-went tells o types lines width picks b (passing_stage at state p) way, record { full = asking.full; through = record { none_due = asking.none_due; all = inr (omega (arith, le)) } })
    ]

-- it is at its end where something is in doubt
pass-doubted : (tells : Bool) (o : Outset) (types : ProgramTree) (lines : List Line) (width : ℕ) (picks : List ℕ) (b : Books) (at : Stage) (state : Turns) → IsUnderWay tells o types lines width picks b (turn_stage at state)
    → has_room (loop_at o at.run state.agents.list.items state.used no_pass) ≡ false → at.settler.doubted ≡ true
    → (q : Pass) × WentOn tells o types lines width picks b (turn_stage at state) (passing_stage at state q) × HasPassed o (passing_stage at state q)
pass-doubted tells o types lines width picks b at state way full doubted = (
  no_pass,
  nothing-went tells o types lines width picks b (turn_stage at state) way,
  record { full = full; through = record { none_due = refl; all = inl (sym way.books.doubt ∙ doubted) } },
)

-- and where memory has no limit
pass-unlimited : (tells : Bool) (o : Outset) (types : ProgramTree) (lines : List Line) (width : ℕ) (picks : List ℕ) (b : Books) (at : Stage) (state : Turns) → IsUnderWay tells o types lines width picks b (turn_stage at state)
    → has_room (loop_at o at.run state.agents.list.items state.used no_pass) ≡ false → is_some at.run.capacity ≡ false
    → (q : Pass) × WentOn tells o types lines width picks b (turn_stage at state) (passing_stage at state q) × HasPassed o (passing_stage at state q)
pass-unlimited tells o types lines width picks b at state way full none = (
  record no_pass { before = (ends at.run).units.next },
  passed-over tells o types lines width picks b (turn_stage at state) way (ends at.run).units.next refl (omega arith) (λ t q v m low high. here-calm t at.run (none-of at.run.capacity none) v),
  record { full = full; through = record { none_due = refl; all = inr (omega arith) } },
)

-- so nobody is asked where none can be missing
pub pass-skipped : (tells : Bool) (o : Outset) (types : ProgramTree) (lines : List Line) (width : ℕ) (picks : List ℕ) (b : Books) (at : Stage) (state : Turns) → IsUnderWay tells o types lines width picks b (turn_stage at state)
    → has_room (loop_at o at.run state.agents.list.items state.used no_pass) ≡ false → (is_some at.run.capacity && not at.settler.doubted) ≡ false
    → (q : Pass) × WentOn tells o types lines width picks b (turn_stage at state) (passing_stage at state q) × HasPassed o (passing_stage at state q)
pass-skipped tells o types lines width picks b at state way full none = elim (cases_Bool at.settler.doubted) [
  | inl doubted ↦ pass-doubted tells o types lines width picks b at state way full doubted
  | inr sure ↦ pass-unlimited tells o types lines width picks b at state way full (limitless (is_some at.run.capacity) at.settler.doubted sure none)
]
  where
    limitless : (l d : Bool) → d ≡ false → (l && not d) ≡ false → l ≡ false
    limitless false d q none = refl
    limitless true d q none = absurd (true≢false (sym (ap not q) ∙ none))

-- and nothing is in doubt where one can
pub missing-calm : (l d : Bool) → (l && not d) ≡ true → d ≡ false
missing-calm l false q = refl
missing-calm true true q = absurd (true≢false (sym q))
missing-calm false true q = absurd (true≢false (sym q))

-- ---- a move behind the pass

-- what it says behind a pass that has come to its end, it says of both
pub behind-pass : {T : Type 0} (tells : Bool) (types : ProgramTree) (picks : List ℕ) (s : TurnStage) (at : Stage) (state : Turns) (u : TurnStage) (done : T) (result : Result Bool RunFault)
    → PassGoesOn {T = T} tells types s at state (Ok done)
    → ((o : Outset) (b : Books) (lines : List Line) (width : ℕ) (p : Pass) → IsUnderWay tells o types lines width picks b (passing_stage at state p) → HasPassed o (passing_stage at state p)
    → TurnSays tells o types lines width picks b (passing_stage at state p) u result)
    → (o : Outset) (b : Books) (lines : List Line) (width : ℕ) → IsUnderWay tells o types lines width picks b s → has_room (loop_at o s.at.run s.agents s.used s.pass) ≡ false
    → TurnSays tells o types lines width picks b s u result
behind-pass tells types picks s at state u done result passes moves o b lines width way full =
    let said = passes.says o b lines width picks way full in
    says-behind tells o types lines width picks b s (passing_stage at state said.0) u said.1 result (moves o said.1.books lines width said.0 said.1.under_way said.2)

-- where the pass ends the run, so does the turn
pub pass-fails : {T : Type 0} (tells : Bool) (types : ProgramTree) (picks : List ℕ) (s : TurnStage) (at : Stage) (state : Turns) (u : TurnStage) (f : RunFault) → u.at ≡ at
    → PassGoesOn {T = T} tells types s at state (Err f)
    → (o : Outset) (b : Books) (lines : List Line) (width : ℕ) → IsUnderWay tells o types lines width picks b s → has_room (loop_at o s.at.run s.agents s.used s.pass) ≡ false
    → RecordGoesOn {T = Bool} tells o b s.at u.at (Err f)
pass-fails tells types picks s at state u f same passes o b lines width way full =
    subst (λ (x : Stage). RecordGoesOn {T = Bool} tells o b s.at x (Err f)) (sym same) (passes.says o b lines width picks way full)
