-- The records of serial effects are serial.
use Rattle.std.proofs.Common.{◌≡◌, ◌<◌, inl, inr, List, [], ◌∷◌, ◌++◌, length, map, Some, None, unwrap_or, refl, sym, ap, ◌∙◌, subst, arith}
use Rattle.std.specs.Prelude.{if◌then◌else◌, IsTrue, nat_eq, nat_lt, fold}
use Rattle.std.specs.List.{All, AllPairs}
use Rattle.std.proofs.lemmas.Bool.{cases_Bool, and_parts, or_cases, ltb-true}
use Rattle.std.proofs.lemmas.List.Elements.{All-nil, All-cons, All-head, All-tail, All-map}
use Rattle.base_types.specs.declared.calls.GrainId.{GrainId}
use Rattle.base_types.specs.declared.calls.Outcome.{Outcome}
use Rattle.cell_model.proofs.Units.{same_grain-true}
use Rattle.core_model.specs.declared.effects.Effect.{Effect}
use Rattle.core_model.specs.declared.effects.Read.{Read}
use Rattle.core_model.specs.CoreState.{Member, same_grain}
use Rattle.core_model.specs.Tests as core
use Rattle.core_model.specs.SerialOrder as model
use Rattle.core_model.specs.LegalRuns.{Run, IsLegal, ends}
use Rattle.core_laws.proofs.Ends.{serial-ends, serial-chosen-ends}
use Rattle.script_tree.specs.Programs.{ProgramTree}
use Rattle.script_meaning.specs.Play.{GrainState, Played, play_over, is_below}
use Rattle.script_meaning.specs.Trails.{Has, states_of}
use Rattle.script_meaning.proofs.Lists.{pairs_first, pairs_rest}
use Rattle.script_meaning.proofs.Plays.{play_rests_on_reads_lem, plays_are_orderly_lem}
use Rattle.promise_spec.specs.Programs.{Program}
use Rattle.promise_spec.specs.Records.{Commit, States, put_state, after_writes, IsRecordOf, AreRecordsOf}
use Rattle.promise_spec.specs.Entries.{LogEntry, Recorded, Upgraded, Standing, after_entry, after_entries, standing_of}
use Rattle.base_types.specs.Origins.{depth_of}
use Rattle.promise_spec.specs.SerialExecution.{IsSerial, Replays, played}
use Rattle.promise_spec.specs.UnitRule.{played_by, IsPlayOf}
use Rattle.promise_spec.specs.Courses.{Observed, Course, basis, core_run, core_end}
use Rattle.promise_spec.specs.Explanation.{IsExplained}
use Rattle.promise_laws.specs.Legality.{is_play, applied_run}
use Rattle.promise_laws.proofs.LegalRuns.{is_play-true, ends_alike, legal}

-- no grain is below itself
irreflexive : (g : GrainId) → IsTrue (is_below g g) → ⊥
irreflexive g t = elim (or_cases (nat_lt g.kind g.kind) _ t) [
  | inl k ↦ (let less = ltb-true g.kind g.kind k in omega (arith, less))
  | inr y ↦ (let less = ltb-true g.key g.key (and_parts (nat_eq g.kind g.kind) (nat_lt g.key g.key) y).1 in omega (arith, less))
]

-- one grain before another
abbrev IsBelow : GrainState → GrainState → Type 0
IsBelow one other = IsTrue (is_below one.0 other.0)

-- what stands below all that is written isn't written
unwritten : (x : GrainState) (ws : List GrainState) → All (IsBelow x) ws → core.state_written x.0 ws ≡ None
unwritten x [] below = refl
unwritten x (w ∷ ws) below =
    elim (cases_Bool (same_grain w.0 x.0)) [
      | inl e ↦ absurd (irreflexive x.0 (subst (λ g. IsTrue (is_below x.0 g)) (same_grain-true w.0 x.0 e) (All-head (IsBelow x) w ws below)))
      | inr e ↦ ap (λ b. if b then Some w.1 else core.state_written x.0 ws) e ∙ unwritten x ws (All-tail (IsBelow x) w ws below)
    ]

-- after ascending writes the core and the log have the same states
same_after : (store states : States) (ws : List GrainState) → AllPairs IsBelow ws → ((g : GrainId) → store g ≡ states g) → (g : GrainId) → unwrap_or (core.state_written g ws) (store g) ≡ fold put_state states ws g
same_after store states [] pairs same g = same g
same_after store states (w ∷ ws) pairs same g =
    let next : States = put_state states w in
    let rest : unwrap_or (core.state_written g ws) (next g) ≡ fold put_state next ws g = same_after next next ws (pairs_rest IsBelow w ws pairs) (λ h. refl) g in
    elim (cases_Bool (same_grain w.0 g)) [
      | inl e ↦
          let here : w.0 ≡ g = same_grain-true w.0 g e in
          let none : core.state_written g ws ≡ None = subst (λ h. core.state_written h ws ≡ None) here (unwritten w ws (pairs_first IsBelow w ws pairs)) in
          ap (λ b. unwrap_or (if b then Some w.1 else core.state_written g ws) (store g)) e
          ∙ sym (ap (λ b. if b then w.1 else states g) e)
          ∙ ap (λ o. unwrap_or o (next g)) (sym none) ∙ rest
      | inr e ↦
          ap (λ b. unwrap_or (if b then Some w.1 else core.state_written g ws) (store g)) e
          ∙ ap (unwrap_or (core.state_written g ws)) (same g ∙ sym (ap (λ b. if b then w.1 else states g) e))
          ∙ rest
    ]

-- what a unit read stands in the states, so its call does the same over them
has_reads : (states : States) (reads : List Read) → ((r : Read) → Member r reads → r.state ≡ states r.grain) → All (λ (r : Read). states r.grain ≡ r.state) reads
has_reads states [] found = All-nil (λ (r : Read). states r.grain ≡ r.state)
has_reads states (r ∷ reads) found = All-cons (λ (r : Read). states r.grain ≡ r.state) r reads (sym (found r (inl refl))) (has_reads states reads (λ x m. found x (inr m)))

pub plays_again : (types : ProgramTree) (states : States) (e : Effect) → IsPlayOf types e → ((r : Read) → Member r e.reads → r.state ≡ states r.grain)
    → play_over types e.call (depth_of e.origin) states e.answers ≡ played_by types e
plays_again types states e is found =
    let has : Has states (map (λ (r : Read). (r.grain, r.state)) e.reads) = All-map (λ (one : GrainState). states one.0 ≡ one.1) (λ (r : Read). (r.grain, r.state)) e.reads (has_reads states e.reads found) in
    play_rests_on_reads_lem types e.call (depth_of e.origin) (states_of (map (λ (r : Read). (r.grain, r.state)) e.reads)) states e.answers e.answers (subst (Has states) (sym is.reads) has) refl

-- a record's play is that of its unit
played-record : (types : ProgramTree) (states : States) (e : Effect) (l : Commit) → IsRecordOf e l → played types states l.logged ≡ play_over types e.call (depth_of e.origin) states e.answers
played-record types states e l is = λ i. play_over types (is.call i) (depth_of (is.origin i)) states (is.answers i)

replays : (types : ProgramTree) (states : States) (e : Effect) (l : Commit) → IsRecordOf e l → IsPlayOf types e → ((r : Read) → Member r e.reads → r.state ≡ states r.grain) → Replays types states l
replays types states e l of_unit is found =
    let same : played types states l.logged ≡ played_by types e = played-record types states e l of_unit ∙ plays_again types states e is found in
    record {
      result = ap (λ (p : Played). p.result) same ∙ is.result ∙ sym of_unit.result;
      asked = ap (λ (p : Played). length p.asked) same ∙ is.asked ∙ sym (ap (λ (a : List Outcome). length a) of_unit.answers);
      writes = ap (λ (p : Played). p.writes) same ∙ is.writes ∙ sym of_unit.writes;
    }

-- the writes of a play ascend
writes_ascend : (types : ProgramTree) (e : Effect) → IsPlayOf types e → AllPairs IsBelow e.writes
writes_ascend types e is =
    subst (AllPairs IsBelow) is.writes
    (plays_are_orderly_lem types e.call (depth_of e.origin) (states_of (map (λ (r : Read). (r.grain, r.state)) e.reads)) e.answers).ascending

-- after a unit's writes the core and the log have the same states
pub next-states : (types : ProgramTree) (store states : States) (e : Effect) (l : Commit) → IsPlayOf types e → IsRecordOf e l → ((g : GrainId) → store g ≡ states g) →
    (g : GrainId) → model.after store e.writes g ≡ after_writes states l g
next-states types store states e l is of_unit same g =
    same_after store states e.writes (writes_ascend types e is) same g ∙ ap (λ (ws : List GrainState). fold put_state states ws g) (sym of_unit.writes)

-- the records of serial effects are serial
pub serial_records : (types : ProgramTree) (store states : States) (es : List Effect) (log : List Commit) → ((g : GrainId) → store g ≡ states g)
    → model.IsSerialOrder (is_play types) store es → AreRecordsOf es log → IsSerial types states log
serial_records types store states [] [] same serial are = tt
serial_records types store states [] (l ∷ log) same serial are = absurd are
serial_records types store states (e ∷ es) [] same serial are = absurd are
serial_records types store states (e ∷ es) (l ∷ log) same serial are =
    let is : IsPlayOf types e = is_play-true types e serial.1 in (
      replays types states e l are.0 is (λ r m. serial.0 r m ∙ same r.grain),
      serial_records types (model.after store e.writes) (after_writes states l) es log (next-states types store states e l is are.0 same) serial.2 are.1,
    )

-- the next number is above 0
pub above_entries : (before : Standing) (entries : List LogEntry) → 0 < before.next → 0 < (after_entries before entries).next
above_entries before [] above = above
above_entries before (Recorded c ∷ entries) above = above_entries (after_entry before (Recorded c)) entries (omega (arith, above))
above_entries before (Upgraded p ∷ entries) above = above_entries (after_entry before (Upgraded p)) entries above

pub explained_serial : (p : Program) (r : Observed) (c : Course) → 0 < c.opening.base.next → IsExplained p r c → IsSerial p.types (standing_of c.opening).states c.added
explained_serial p r c based is =
    let run : Run = applied_run (core_run p c) in
    let lawful : IsLegal (is_play p.types) run = legal (basis p r c) (core_run p c) (above_entries c.opening.base c.opening.entries based) is.loads is.units in
    let same : ends run ≡ core_end p c = ends_alike (core_run p c) in
    elim is.records [
      | inl all ↦
          serial_records p.types (standing_of c.opening).states (standing_of c.opening).states (model.committed (core_end p c)) c.added (λ g. refl)
          (subst (λ w. model.IsSerialOrder (is_play p.types) (standing_of c.opening).states (model.committed w)) same (serial-ends (is_play p.types) run lawful)) all
      | inr more ↦
          serial_records p.types (standing_of c.opening).states (standing_of c.opening).states (model.committed (core_end p c) ++ model.chosen (core_end p c)) c.added (λ g. refl)
          (subst (λ w. model.IsSerialOrder (is_play p.types) (standing_of c.opening).states (model.committed w ++ model.chosen w)) same (serial-chosen-ends (is_play p.types) run lawful)) more.records
    ]
