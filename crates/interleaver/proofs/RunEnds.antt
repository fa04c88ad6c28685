-- Where nobody can move: all is done.
use Rattle.std.proofs.Common.{◌≡◌, ℕ, zero, suc, ◌≤◌, ◌<◌, Option, Some, None, List, [], ◌∷◌, ◌++◌, length, Bool, true, false, true≢false, refl, sym, ap, ◌∙◌, subst, arith}
use Rattle.std.specs.Prelude.{if◌then◌else◌, is_some, nat_lt, slice_get, take, drop, filter, map, ◌&&◌}
use Rattle.std.proofs.lemmas.Bool.{lt-ltb, cond-true, and_parts}
use Rattle.base_types.specs.declared.shapes.Shape.{Shape}
use Rattle.base_types.specs.declared.shapes.TypeShape.{TypeShape}
use Rattle.script_check.specs.AcceptedPrograms.{IsAcceptedProgram}
use Rattle.script_check.specs.Shapes.{type_shapes}
use Rattle.script_tree.specs.Programs.{ProgramTree}
use Rattle.run_books.specs.BooksSteps.{CanSettle}
use Rattle.run_books.proofs.LineCounts.{so-many, at-most}
use Rattle.core_model.specs.Changes.{swept, swept_by}
use Rattle.core_laws.proofs.EventCases.{Change, bad, begin, lock, raise, refuse, finish, end_plain, end_snapshot, release, take_batch, vote, decide_some, decide_none, seal_batch, spoil_batch, doubt_batch, learn, emit, halt_run, want, load, decode}
use Rattle.settle_loop.specs.ShownWork.{tells_doubt}
use Rattle.settler_rules.proofs.Commits.{doubt-stays}
use Rattle.turn_rules.specs.NextEvent.{with_event}
use Rattle.turn_rules.proofs.Growth.{ends-more}
use Rattle.std.proofs.lemmas.Option.{slice_get_within}
use Rattle.base_types.specs.declared.entries.Entry.{Entry}
use Rattle.request_wire.specs.declared.requests.Line.{Line}
use Rattle.core_model.specs.CoreState.{Batch, CoreState, GrainId}
use Rattle.core_model.specs.declared.events.CoreEvent.{CoreEvent}
use Rattle.core_model.specs.declared.events.CoreEvent.TheVariants.{Doubt, Take}
use Rattle.core_model.specs.LegalRuns.{Run, ends}
use Rattle.core_model.specs.Laws.{extended}
use Rattle.core_model.specs.Lines.{EntriesAreOnce}
use Rattle.core_model.specs.Events.{applies, step, does, can, is_allowed}
use Rattle.core_model.specs.LearnQueue.{next_learn}
use Rattle.promise_spec.specs.UnitAnswers.{got_in}
use Rattle.promise_spec.specs.TurnRule.{OfUnit, can_move, OfSettler, Mover}
use Rattle.core_model.specs.Settler.{Seals, Writes, Takes, Rests, has_step, settler_step, batch_step, last_step, learn_step, undecided_step, first_unvoted}
use Rattle.core_laws.proofs.LineEntries.{once-ends}
use Rattle.promise_spec.specs.Causes.{RunHasDoubt}
use Rattle.turn_rules.specs.CarriedUnits.{movers_of}
use Rattle.turn_rules.specs.QuietRun.{HasRun}
use Rattle.turn_rules.specs.TurnLoop.{IsThrough, has_room}
use Rattle.turn_rules.proofs.ListTests.{empty-append}
use Rattle.turn_rules.proofs.SettlerRest.{no-step}
use Rattle.turn_rules.proofs.Turns.{turn-ended}
use Rattle.settle_loop.specs.SettlerStep.{has_unwritten}
use Rattle.unit_carrier.specs.CarriedUnits.{units_carried}
use Rattle.run_books.specs.Beginnings.{Outset}
use Rattle.run_books.specs.Books.{Books}
use Rattle.interleaver.specs.Flights.{loop_at}
use Rattle.run_books.specs.Records.{HasCarriedAll}
use Rattle.interleaver.specs.TurnStages.{TurnStage, IsUnderWay}
use Rattle.interleaver.proofs.RunningTurns.{way-unstopped}

-- ---- a doubt

-- a list by an element at an index
split-at : {A : Type 0} (xs : List A) (i : ℕ) (x : A) → slice_get xs i ≡ Some x → xs ≡ (take i xs ++ (x ∷ [])) ++ drop (suc i) xs
split-at [] i x q = absurd cc
split-at {A} (y ∷ xs) zero x q = ap (λ (a : A). a ∷ xs) (same y x q)
  where
    same : (a b : A) → Some a ≡ Some b → a ≡ b
    same a b e = cc
split-at {A} (y ∷ xs) (suc i) x q = ap (λ (l : List A). y ∷ l) (split-at xs i x q)

-- a doubt that applies stands
change-doubts : (w : CoreState) (e : CoreEvent) (w' : CoreState) → Change w e w' → tells_doubt e ≡ true → is_some w'.manager.doubt ≡ true
change-doubts w e w' (bad line why q) o = absurd (true≢false (sym o))
change-doubts w e w' (begin origin call plain c) o = absurd (true≢false (sym o))
change-doubts w e w' (lock v g mode running free first here) o = absurd (true≢false (sym o))
change-doubts w e w' (raise v g mode running free held here uncovered) o = absurd (true≢false (sym o))
change-doubts w e w' (refuse v g mode why running q) o = absurd (true≢false (sym o))
change-doubts w e w' (finish v effect running plain of_call reads alone) o = absurd (true≢false (sym o))
change-doubts w e w' (end_plain v effect running plain of_call bare) o = absurd (true≢false (sym o))
change-doubts w e w' (end_snapshot v at outcome running plain kids answer) o = absurd (true≢false (sym o))
change-doubts w e w' (release v g over held) o = absurd (true≢false (sym o))
change-doubts w e w' (take_batch n some) o = absurd (true≢false (sym o))
change-doubts w e w' (vote n g kept b q number un planned fresh) o = absurd (true≢false (sym o))
change-doubts w e w' (decide_some n b q number un voted some) o = absurd (true≢false (sym o))
change-doubts w e w' (decide_none n b q number un voted not_one) o = absurd (true≢false (sym o))
change-doubts w e w' (seal_batch n b ds q number un) o = absurd (true≢false (sym o))
change-doubts w e w' (spoil_batch n b ds q number un) o = absurd (true≢false (sym o))
change-doubts w e w' (doubt_batch n b ds q number un) o = refl
change-doubts w e w' (learn v g wrote final fresh) o = absurd (true≢false (sym o))
change-doubts w e w' (emit q) o = absurd (true≢false (sym o))
change-doubts w e w' (halt_run q) o = absurd (true≢false (sym o))
change-doubts w e w' (want v g running free fresh) o = absurd (true≢false (sym o))
change-doubts w e w' (load g v state gone wanted) o = absurd (true≢false (sym o))

swept-doubt : (w : CoreState) → (swept w).manager.doubt ≡ w.manager.doubt
swept-doubt w = go w.cells.capacity
  where
    go : (c : Option ℕ) → (swept_by w c).manager.doubt ≡ w.manager.doubt
    go None = refl
    go (Some m) = refl

step-doubts : (w : CoreState) (n : ℕ) → applies w (Doubt n) ≡ true → is_some (step w (Doubt n)).manager.doubt ≡ true
step-doubts w n a =
    ap (λ (x : CoreState). is_some x.manager.doubt) (cond-true (applies w (Doubt n)) (swept (does w (Doubt n))) w a)
    ∙ ap is_some (swept-doubt (does w (Doubt n)))
    ∙ change-doubts w (Doubt n) (does w (Doubt n)) (decode w (Doubt n) (and_parts (is_allowed w (Doubt n)) (can w (Doubt n)) a).1) refl

-- and whoever had one has it still
pub doubted-now : (r : Run) → RunHasDoubt r → is_some (ends r).manager.doubt ≡ true
doubted-now r d =
    let front : Run = record r { events = take d.at r.events } in
    let mid : Run = with_event front (Doubt d.number) in
    let whole : extended mid (drop (suc d.at) r.events) ≡ r = sym (ap (λ (l : List CoreEvent). record r { events = l }) (split-at r.events d.at (Doubt d.number) d.doubt.there)) in
    let now : is_some (ends mid).manager.doubt ≡ true = ap (λ (x : CoreState). is_some x.manager.doubt) (ends-more front (Doubt d.number)) ∙ step-doubts (ends front) d.number d.doubt.applied in
    by mid (drop (suc d.at) r.events) (ends mid).manager.doubt refl now whole
  where
    by : (mid : Run) (more : List CoreEvent) (x : Option ℕ) → (ends mid).manager.doubt ≡ x → is_some (ends mid).manager.doubt ≡ true → extended mid more ≡ r → is_some (ends r).manager.doubt ≡ true
    by mid more None q now whole = absurd (true≢false (sym now ∙ ap is_some q))
    by mid more (Some n) q now whole =
        ap (λ (z : Run). is_some (ends z).manager.doubt) (sym whole) ∙ ap is_some (doubt-stays mid more n q).doubt ∙ now

-- an entry that is left after a doubt is the settler's to write
doubt-steps : (w : CoreState) → is_some w.manager.doubt ≡ true → has_unwritten w ≡ true → has_step (settler_step w) ≡ true
doubt-steps w d left = by w.manager.batch
  where
    less : (o : Option Entry) → slice_get w.manager.settled w.manager.emitted ≡ o → is_some o ≡ true → w.manager.emitted < length w.manager.settled
    less None e t = absurd (true≢false (sym t))
    less (Some x) e t = slice_get_within w.manager.settled w.manager.emitted x e

    writes : nat_lt w.manager.emitted (length w.manager.settled) ≡ true
    writes = lt-ltb w.manager.emitted (length w.manager.settled) (less (slice_get w.manager.settled w.manager.emitted) refl left)

    of-open : (b : Bool) (n : ℕ) (b' : Batch) → has_step (if b then Seals n else undecided_step n (first_unvoted b')) ≡ true
    of-open true n b' = refl
    of-open false n b' = votes (first_unvoted b')
      where
        votes : (g : Option GrainId) → has_step (undecided_step n g) ≡ true
        votes None = refl
        votes (Some g) = refl

    by : (b : Option Batch) → has_step (batch_step w b) ≡ true
    by None =
        ap (λ (x : Bool). has_step (if x then last_step w false else learn_step w (next_learn w))) d
        ∙ ap (λ (x : Bool). has_step (if x then Writes else (if false && applies w Take then Takes else Rests))) writes
    by (Some b) = of-open (is_some b.decisions) b.number b

module _ (tells : Bool) (o : Outset) (lines : List Line) (b : Books) (s : TurnStage) (way : IsUnderWay tells o o.program.types lines o.width o.picks b s)
    (nobody : movers_of o.program.types s.at.run (units_carried s.agents) ≡ []) (full : has_room (loop_at o s.at.run s.agents s.used s.pass) ≡ false)
    (through : IsThrough (loop_at o s.at.run s.agents s.used s.pass)) where
  w : CoreState
  w = ends s.at.run

  -- nothing is in doubt
  no-doubt : (ends s.at.run).manager.doubt ≡ None
  no-doubt = by (ends s.at.run).manager.doubt refl
    where
      by : (d : Option ℕ) → (ends s.at.run).manager.doubt ≡ d → (ends s.at.run).manager.doubt ≡ None
      by None e = e
      by (Some n) e =
          let some : is_some (ends s.at.run).manager.doubt ≡ true = ap is_some e in
          let steps : has_step (settler_step (ends s.at.run)) ≡ true = doubt-steps (ends s.at.run) some (way.left (way.books.doubt ∙ some)) in
          absurd (none-in (ends s.at.run).manager.doubt (sym (ap (λ (x : Bool). (if is_some (ends s.at.run).manager.doubt then [] else map OfUnit (filter (can_move o.program.types (ends s.at.run) (got_in s.at.run)) (units_carried s.agents))) ++ (if x then OfSettler ∷ [] else [])) steps) ∙ nobody))
        where
          none-in : (d : Option ℕ) → ((if is_some d then [] else map OfUnit (filter (can_move o.program.types (ends s.at.run) (got_in s.at.run)) (units_carried s.agents))) ++ (OfSettler ∷ [])) ≡ [] → ⊥
          none-in d q = last-in (if is_some d then [] else map OfUnit (filter (can_move o.program.types (ends s.at.run) (got_in s.at.run)) (units_carried s.agents))) q
            where
              last-in : (ms : List Mover) → ms ++ (OfSettler ∷ []) ≡ [] → ⊥
              last-in [] t = absurd cc
              last-in (m ∷ ms) t = absurd cc

  pub has-carried : HasCarriedAll o s.at
  has-carried =
      let run : HasRun (length o.asked) (ends s.at.run) = (turn-ended (loop_at o s.at.run s.agents s.used s.pass) way.turning no-doubt nobody through (subst (λ (n : ℕ). 0 < n) (sym way.outset.width_is) way.outset.wide) full).0 in
      let once : EntriesAreOnce (ends s.at.run) = once-ends s.at.run way.turning.first in
      let le = once.written in
      let ge = run.quiet.written in
      let few : (ends s.at.run).units.lines ≤ length o.asked = (let q = way.outset.all in omega (arith, q)) in
      let many : length (ends s.at.run).manager.settled ≡ (ends s.at.run).units.lines =
      so-many (ends s.at.run).units.lines (ends s.at.run).manager.settled once.differ (λ x m. let e = once.entry x m in (e.0, e.1)) (λ k lo hi. let a = run.answered k lo (omega (arith, hi, few)) in (a.0, a.1, a.2)) in
      record {
        run = run;
        none = no-doubt;
        never = λ d. absurd (true≢false (sym (doubted-now s.at.run d) ∙ ap is_some no-doubt));
        unstopped = way-unstopped way;
        rests = no-step (settler_step (ends s.at.run))
            (empty-append (if is_some (ends s.at.run).manager.doubt then [] else map OfUnit (filter (can_move o.program.types (ends s.at.run) (got_in s.at.run)) (units_carried s.agents)))
            (if has_step (settler_step (ends s.at.run)) then OfSettler ∷ [] else []) nobody).1;
        written = way.books.written ∙ (let x : (ends s.at.run).manager.emitted ≡ (ends s.at.run).units.lines = omega (arith, le, ge, many) in x);
      }

-- what the settler's step needs to know of a run under way
pub can-settle : (tells : Bool) (o : Outset) (types : ProgramTree) (lines : List Line) (width : ℕ) (picks : List ℕ) (b : Books) (s : TurnStage) (shape : Shape) → IsUnderWay tells o types lines width picks b s
    → shape.types ≡ type_shapes types → CanSettle o shape s.at.run
can-settle tells o types lines width picks b s shape way is =
    let once : EntriesAreOnce (ends s.at.run) = once-ends s.at.run way.turning.first in
    let le = once.written in
    let few = way.room in
    let most : length (ends s.at.run).manager.settled ≤ (ends s.at.run).units.lines = at-most (ends s.at.run).units.lines (ends s.at.run).manager.settled once.differ (λ x m. let e = once.entry x m in (e.0, e.1)) in
    record {
      above = way.turning.first;
      units = way.turning.unit_rule;
      kinds = way.outset.kinds ∙ ap length (sym way.outset.types_are);
      shape_is = ap (λ (ts : List TypeShape). record { types = ts }) (is ∙ ap type_shapes (sym way.outset.types_are));
      accepted = subst IsAcceptedProgram (sym way.outset.types_are) way.accepted;
      numbers = way.few;
      room = omega (arith, le, few, most);
      unstopped = way-unstopped way;
    }
