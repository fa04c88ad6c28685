-- A turn behind the dropping of units: whether a line may begin there, and what the turn comes to.
use Rattle.std.proofs.Common.{◌≡◌, ◌⊎◌, ℕ, zero, suc, ◌+◌, ◌<◌, Option, Some, None, List, [], ◌∷◌, length, Bool, true, false, inl, inr, refl, sym, ap, ◌∙◌, subst, arith, nat_lt, is_some, is_none}
use Rattle.std.specs.Prelude.{if◌then◌else◌, filter, not, ◌&&◌, ◌||◌, slice_get, drop, Result, Ok, Err}
use Rattle.std.specs.List.{AllByRecursion}
use Rattle.std.proofs.lemmas.Bool.{cases_Bool, ltb-true, lt-ltb}
use Rattle.request_wire.specs.declared.requests.Line.{Line}
use Rattle.core_model.specs.declared.events.CoreReply.{CoreReply}
use Rattle.core_model.specs.LegalRuns.{Run, ends}
use Rattle.core_access.specs.OneHolder.{none_comes, own_sight}
use Rattle.core_access.specs.Sights.{Looks}
use Rattle.core_access.proofs.OneHolder.{own-run}
use Rattle.script_tree.specs.Programs.{ProgramTree}
use Rattle.turn_rules.specs.CarriedUnits.{is_flying, is_kept}
use Rattle.turn_rules.specs.TurnLoop.{IsTurning, has_room, no_pass}
use Rattle.txn_agent.specs.declared.agent.Agent.{Agent}
use Rattle.unit_carrier.specs.CarriedUnits.{AreCarried, units_carried}
use Rattle.unit_carrier.specs.Lines.{PutsLine}
use Rattle.unit_carrier.proofs.CarriedUnits.{drops-carried}
use Rattle.run_books.specs.declared.faults.RunFault.{RunFault}
use Rattle.run_books.specs.declared.faults.RunFault.TheVariants.{Memory}
use Rattle.run_books.specs.Beginnings.{Outset}
use Rattle.run_books.specs.Books.{Books}
use Rattle.interleaver.specs.Flights.{flown_unless, is_flown, lines_carried, loop_at, next_line_by}
use Rattle.interleaver.specs.Turns.{TurnsGoOn as RecordGoesOn}
use Rattle.interleaver.specs.TurnStages.{BeganOn, IsUnderWay, TurnSays, TurnStage, WentOn}
use Rattle.interleaver.proofs.RunningTurns.{way-unstopped}
use Rattle.run_books.proofs.BooksStated.{OthersKeep}
use Rattle.interleaver.proofs.PickedTurns.{at-outset}
use Rattle.interleaver.proofs.UnitsInFlight.{kept-flown, lines-flying}
use Rattle.interleaver.proofs.MemoryEnds.{lacks-none, line-lacks}
use Rattle.interleaver.proofs.LineTurns.{drop-at, line-went}
use Rattle.run_books.specs.Stages.{stage_by}

-- nothing is behind the last
drop-none : {A : Type 0} (xs : List A) (i : ℕ) → slice_get xs i ≡ None → drop i xs ≡ []
drop-none [] zero q = refl
drop-none [] (suc i) q = refl
drop-none (y ∷ xs) zero q = absurd cc
drop-none (y ∷ xs) (suc i) q = drop-none xs i q

none-of : (d : Option ℕ) → is_some d ≡ false → d ≡ None
none-of None q = refl
none-of (Some n) q = absurd cc

some-is : (d : Option ℕ) → is_some d ≡ true → is_none d ≡ false
some-is None q = absurd cc
some-is (Some n) q = refl

-- where units were dropped, those that are left are known still
pub still-carried : (types : ProgramTree) (r : Run) (doubted : Bool) (before after : List Agent) → after ≡ flown_unless doubted (ends r) before
    → AreCarried types none_comes (own_sight r) before → AreCarried types none_comes (own_sight r) after
still-carried types r doubted before after is carried = subst (AreCarried types none_comes (own_sight r)) (sym is) (by doubted)
  where
    by : (d : Bool) → AreCarried types none_comes (own_sight r) (flown_unless d (ends r) before)
    by true = carried
    by false = drops-carried types none_comes (own_sight r) before (is_flown (ends r)) carried

module _ (tells : Bool) (o : Outset) (types : ProgramTree) (lines : List Line) (width : ℕ) (picks : List ℕ) (b : Books) (s : TurnStage) (agents : List Agent)
    (is : agents ≡ flown_unless s.at.settler.doubted (ends s.at.run) s.agents) (carried : AreCarried types none_comes (own_sight s.at.run) s.agents) (way : IsUnderWay tells o types lines width picks b s) where
  calm : s.at.settler.doubted ≡ false → (ends s.at.run).manager.doubt ≡ None
  calm q = none-of (ends s.at.run).manager.doubt (sym way.books.doubt ∙ q)

  came : AllByRecursion (λ (a : Agent). (ends s.at.run).units.origin a.carried.unit ≡ a.carried.origin) s.agents
  came = subst (λ (x : Run). AllByRecursion (λ (a : Agent). (ends x).units.origin a.carried.unit ≡ a.carried.origin) s.agents) (own-run s.at.run) carried.came

  still : AreCarried types none_comes (own_sight s.at.run) agents
  still = still-carried types s.at.run s.at.settler.doubted s.agents agents is carried

  kept-same : filter (is_kept (ends s.at.run)) (units_carried agents) ≡ filter (is_kept (ends s.at.run)) (units_carried s.agents)
  kept-same = subst (λ (xs : List Agent). filter (is_kept (ends s.at.run)) (units_carried xs) ≡ filter (is_kept (ends s.at.run)) (units_carried s.agents)) (sym is) (by s.at.settler.doubted refl)
    where
      by : (d : Bool) → s.at.settler.doubted ≡ d → filter (is_kept (ends s.at.run)) (units_carried (flown_unless d (ends s.at.run) s.agents)) ≡ filter (is_kept (ends s.at.run)) (units_carried s.agents)
      by true q = refl
      by false q = kept-flown types s.at.run way.turning.first (calm q) s.agents carried.known came

  turning : IsTurning (loop_at o s.at.run agents s.used s.pass)
  turning = record {
    first = way.turning.first;
    passing = way.turning.passing;
    unit_rule = way.turning.unit_rule;
    unstopped = way.turning.unstopped;
    turn_rule = way.turning.turn_rule;
    within = way.turning.within;
    kept = record {
      kept = kept-same ∙ way.turning.kept.kept;
      below = λ u m. subst (λ (x : Run). u.0 < (ends x).units.next) (own-run s.at.run) (still.below u m);
    };
    older = still.older;
    count = way.turning.count;
  }

  -- it is under way without them
  pub dropped-way : IsUnderWay tells o types lines width picks b (record s { agents = agents })
  dropped-way = record {
    outset = way.outset;
    numbers = way.numbers;
    accepted = way.accepted;
    few = way.few;
    room = way.room;
    turning = turning;
    books = way.books;
    even = way.even;
    left = way.left;
  }

  -- so many lines are in flight as agents of lines are left
  flying : s.at.settler.doubted ≡ false → length (filter (is_flying (ends s.at.run)) (units_carried agents)) ≡ lines_carried agents
  flying q = subst (λ (xs : List Agent). length (filter (is_flying (ends s.at.run)) (units_carried xs)) ≡ lines_carried xs) (sym (is ∙ ap (λ (d : Bool). flown_unless d (ends s.at.run) s.agents) q))
      (lines-flying types s.at.run way.turning.first (calm q) (way-unstopped way) s.agents carried.known came)

  narrow : s.at.settler.doubted ≡ false → nat_lt (length (filter (is_flying (ends s.at.run)) (units_carried agents))) o.width ≡ nat_lt (lines_carried agents) width
  narrow q = ap (λ (n : ℕ). nat_lt n o.width) (flying q) ∙ ap (λ (k : ℕ). nat_lt (lines_carried agents) k) way.outset.width_is

  abbrev Left : Bool
  Left = nat_lt (ends s.at.run).units.lines (length o.asked)

  -- the line that begins next has room
  pub room-some : (line : Line) → Some line ≡ next_line_by s.at.settler.doubted agents width s.begun lines
      → (slice_get lines s.begun ≡ Some line) × (has_room (loop_at o s.at.run agents s.used s.pass) ≡ true) × (s.at.settler.doubted ≡ false)
  room-some line = by s.at.settler.doubted refl (nat_lt (lines_carried agents) width) refl
    where
      by : (d : Bool) → s.at.settler.doubted ≡ d → (few : Bool) → nat_lt (lines_carried agents) width ≡ few → Some line ≡ (if d || not few then None else slice_get lines s.begun)
          → (slice_get lines s.begun ≡ Some line) × (has_room (loop_at o s.at.run agents s.used s.pass) ≡ true) × (s.at.settler.doubted ≡ false)
      by true q few p x = absurd cc
      by false q false p x = absurd cc
      by false q true p x =
          let at = drop-at lines s.begun line (sym x) in
          let long : length (drop s.begun lines) ≡ suc (length (drop (suc s.begun) lines)) = ap length at in
          let all = way.outset.all in
          let some : (ends s.at.run).units.lines < length o.asked = omega (arith, all, long) in (
            sym x,
            ap (λ (z : Bool). z && (nat_lt (length (filter (is_flying (ends s.at.run)) (units_carried agents))) o.width && Left)) (ap is_none (calm q))
                ∙ ap (λ (z : Bool). z && Left) (narrow q ∙ p) ∙ lt-ltb (ends s.at.run).units.lines (length o.asked) some,
            q,
          )

  -- where none begins, none has
  pub room-none : None ≡ next_line_by s.at.settler.doubted agents width s.begun lines → has_room (loop_at o s.at.run agents s.used s.pass) ≡ false
  room-none = by s.at.settler.doubted refl (nat_lt (lines_carried agents) width) refl
    where
      by : (d : Bool) → s.at.settler.doubted ≡ d → (few : Bool) → nat_lt (lines_carried agents) width ≡ few → None ≡ (if d || not few then None else slice_get lines s.begun) → has_room (loop_at o s.at.run agents s.used s.pass) ≡ false
      by true q few p x =
          ap (λ (z : Bool). z && (nat_lt (length (filter (is_flying (ends s.at.run)) (units_carried agents))) o.width && Left)) (some-is (ends s.at.run).manager.doubt (sym way.books.doubt ∙ q))
      by false q false p x =
          ap (λ (z : Bool). z && (nat_lt (length (filter (is_flying (ends s.at.run)) (units_carried agents))) o.width && Left)) (ap is_none (calm q))
          ∙ ap (λ (z : Bool). z && Left) (narrow q ∙ p)
      by false q true p x =
          ap (λ (z : Bool). z && (nat_lt (length (filter (is_flying (ends s.at.run)) (units_carried agents))) o.width && Left)) (ap is_none (calm q))
          ∙ ap (λ (z : Bool). z && Left) (narrow q ∙ p) ∙ none-left
        where
          none-left : Left ≡ false
          none-left = elim (cases_Bool Left) [
            | inr f ↦ f
            | inl t ↦ absurd (
                let lt : (ends s.at.run).units.lines < length o.asked = ltb-true (ends s.at.run).units.lines (length o.asked) t in
                let none : length (drop s.begun lines) ≡ 0 = ap length (drop-none lines s.begun (sym x)) in
                let all = way.outset.all in omega (arith, lt, none, all))
          ]

  went-from : (s' : TurnStage) → WentOn tells o types lines width picks b (record s { agents = agents }) s' → WentOn tells o types lines width picks b s s'
  went-from s' w = record { books = w.books; under_way = w.under_way; lasts = w.lasts }

  -- what a turn says behind the dropping it says of the whole
  pub says-from : (s' : TurnStage) (result : Result Bool RunFault) → TurnSays tells o types lines width picks b (record s { agents = agents }) s' result → TurnSays tells o types lines width picks b s s' result
  says-from s' (Ok true) w = went-from s' w
  says-from s' (Ok false) w = (w.0, went-from (record s' { pass = w.0 }) w.1, w.2)
  says-from s' (Err f) g = g

  -- a line's turn
  pub line-says : (keeps : OthersKeep) → s.pass.due ≡ None → (line : Line) → Some line ≡ next_line_by s.at.settler.doubted agents width s.begun lines → (s' : TurnStage) → BeganOn types line s.at.run s'.at.run agents s'.agents
      → s'.used ≡ s.used → s'.pass ≡ no_pass → s'.begun ≡ s.begun + 1 → s'.at.settler ≡ s.at.settler → s'.at.faults ≡ s.at.faults → s'.at.world ≡ s.at.world → WentOn tells o types lines width picks b s s'
  line-says keeps due line next s' g used fresh begun settler counts world =
      let found = room-some line next in
      went-from s'
      (at-outset (λ t n ps. IsUnderWay tells o t lines n ps b (record s { agents = agents }) → BeganOn t line s.at.run s'.at.run agents s'.agents → WentOn tells o t lines n ps b (record s { agents = agents }) s')
      o types s.at.run (drop s.begun lines) width picks way.outset
      (λ w x. line-went keeps tells o lines b (record s { agents = agents }) s' w line found.0 due found.1 x used fresh begun settler counts world found.2) dropped-way g)

  -- or its event has no memory
  pub line-out-says : (keeps : OthersKeep) → s.pass.due ≡ None → (line : Line) → Some line ≡ next_line_by s.at.settler.doubted agents width s.begun lines → (r' : Run)
      → Looks none_comes (own_sight s.at.run) (own_sight r') ⊎ ((y : CoreReply) × PutsLine none_comes types line.number line.what (own_sight s.at.run) (own_sight r') y)
      → RecordGoesOn {T = Bool} tells o b s.at (stage_by r' s.at.settler s.at.faults s.at.world) (Err Memory)
  line-out-says keeps due line next r' put =
      let found = room-some line next in
      at-outset (λ t n ps. IsUnderWay tells o t lines n ps b (record s { agents = agents }) → Looks none_comes (own_sight s.at.run) (own_sight r') ⊎ ((y : CoreReply) × PutsLine none_comes t line.number line.what (own_sight s.at.run) (own_sight r') y)
      → RecordGoesOn {T = Bool} tells o b s.at (stage_by r' s.at.settler s.at.faults s.at.world) (Err Memory))
      o types s.at.run (drop s.begun lines) width picks way.outset
      (λ w x. line-lacks keeps tells o lines b (record s { agents = agents }) r' w line found.0 due found.1 x) dropped-way put

  -- or there was none for the line itself
  pub unread-says : (keeps : OthersKeep) → RecordGoesOn {T = Bool} tells o b s.at s.at (Err Memory)
  unread-says keeps =
      at-outset (λ t n ps. IsUnderWay tells o t lines n ps b s → RecordGoesOn {T = Bool} tells o b s.at s.at (Err Memory))
      o types s.at.run (drop s.begun lines) width picks way.outset (λ w. lacks-none keeps tells o lines b s s.at.run w refl) way
