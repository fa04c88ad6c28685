-- The laws of plays.
use Rattle.std.proofs.Common.{◌≡◌, ◌≢◌, ℕ, ◌+◌, ◌≤◌, List, [], ◌∷◌, ◌++◌, length, map, true, false, Some, refl, sym, ap, ◌∙◌, subst, arith}
use Rattle.std.specs.Prelude.{slice_get, IsTrue, unwrap_or}
use Rattle.std.specs.List.{All, AllPairs, Contains}
use Rattle.std.proofs.Common.{append_assoc, ◌⊎◌, inl, inr}
use Rattle.std.proofs.lemmas.List.{length-map}
use Rattle.std.proofs.lemmas.List.Elements.{All-weaker, All-nil, All-contains, All-contains_itself}
use Rattle.base_types.specs.declared.calls.Call.{Call}
use Rattle.base_types.specs.declared.calls.GrainId.{GrainId}
use Rattle.base_types.specs.declared.calls.Mode.TheVariants.{Read, Update}
use Rattle.base_types.specs.declared.calls.Outcome.{Outcome}
use Rattle.base_types.specs.declared.calls.Outcome.TheVariants.{Value as Valued, Fault, Aborted}
use Rattle.base_types.specs.declared.calls.Value.{Value}
use Rattle.script_tree.specs.Programs.{ProgramTree}
use Rattle.script_holding.specs.declared.held_grain.Held.{Held}
use Rattle.script_holding.specs.Limits.{unit_limit, grain_limit}
use Rattle.script_holding.specs.Holding.{Holding, mode_at}
use Rattle.script_meaning.specs.Requests.{Requests, End, AskLock, AskRaise, AskUnit}
use Rattle.script_meaning.specs.Play.{GrainState, AskedUnit, Played, grains_with_states, is_below, states_set, writes_of, serve, rest_of, asks, unit, initial_of, play_over, play, next}
use Rattle.script_meaning.specs.Trails.{Given, answers_of, asked_of, locks_of, reads_of, exclusive_in, Has, IsWholeTrail, IsShown, outcomes, states_of}
use Rattle.script_meaning.specs.Laws.{PlayIsNext, NextIsPlay, PlayRestsOnReads, PlayIsAgain, EqualStoresPlayAlike, IsChild, HasEachField, IsOrderly, PlaysAreOrderly, PlainRunsLockNothing, IsMissing, NextIsMissing, TrailsGrow}
use Rattle.script_meaning.specs.Calls.{Target, numbered}
use Rattle.script_meaning.specs.Texts.{own_faults, BlockFails, MayFail, FaultsAreKnown}
use Rattle.script_meaning.proofs.ExpressionResults.{Says}
use Rattle.script_meaning.proofs.KnownFaults.{unit_said, serve_said}
use Rattle.script_meaning.proofs.Lists.{All-from_map, AllPairs-from_map, AllPairs-map}
use Rattle.script_meaning.proofs.Grains.{bare, mode_at-none, mode_at-some, grains-bare}
use Rattle.script_meaning.proofs.RunLeads.{Leads, goes, follows_leads, leads_follows, leads_on, leads_rest, over_ends, trail_of, end_of, serve_leads, serve_asked, serve_reads, serve_writes, serve_answers, serve_has, leads_is_play}
use Rattle.script_meaning.proofs.PlayInputs.{outcomes_again, serve_rests, states_of_has}
use Rattle.script_meaning.proofs.RunInvariant.{EndsWell, IsSound, unit_sound}
use Rattle.script_meaning.proofs.GrantedLocks.{held_after, asked_after, AreGranted, GoesOn, sound_leads, reads_once, grains_after, few_held, few_asked, all_children, exclusive_is_held, IsIn, held_is_exclusive, plain_locks_nothing, asked_after_is}
use Rattle.script_meaning.proofs.WrittenGrains.{All-written, length-written, written_ascends}

-- what holds of what was set, and of nothing, holds of what is written
of_writes : (Q : List GrainState → Type 0) (result : Outcome) (has : Holding) → Q (states_set has.held) → Q [] →
    Q (writes_of result has)
of_writes Q (Valued value) has set none = set
of_writes Q (Fault text) has set none = none
of_writes Q Aborted has set none = none

-- no grain is held where none is without its state
nothing_bare : (held : List Held) → map bare held ≡ [] → held ≡ []
nothing_bare [] e = refl
nothing_bare (first ∷ rest) e = absurd (cc)

-- a run to an end: what it was given, and what it holds at the end
module _ (types : ProgramTree) (depth : ℕ) (trail : List Given) (result : Outcome) (has : Holding)
    (granted : AreGranted types true depth [] 0 trail) (ends : EndsWell types (held_after [] trail) result has) where
  -- the grains that it holds are those that were read
  ends_with_reads : map (λ one. one.grain) has.held ≡ grains_with_states (reads_of trail)
  ends_with_reads = sym (grains-bare has.held) ∙ ap (map (λ (one : Held). one.grain)) ends.holds
      ∙ grains_after types true depth [] 0 trail granted

  -- at most so many grains are held
  few_at_end : length has.held ≤ grain_limit
  few_at_end =
      let few : length (held_after [] trail) ≤ grain_limit =
      few_held types true depth [] 0 trail granted (omega arith) in
      let e : length (map bare has.held) ≡ length has.held = length-map has.held bare in
      let f : length (map bare has.held) ≡ length (held_after [] trail) = ap length ends.holds in
      omega (arith, few, e, f)

  -- at most so many grains are read
  few_reads : length (reads_of trail) ≤ grain_limit
  few_reads =
      let grain_of : Held → GrainId = λ one. one.grain in
      let first : GrainState → GrainId = λ one. one.0 in
      let e : length (map grain_of has.held) ≡ length has.held = length-map has.held grain_of in
      let f : length (map grain_of has.held) ≡ length (grains_with_states (reads_of trail)) = ap length ends_with_reads in
      let g : length (grains_with_states (reads_of trail)) ≡ length (reads_of trail) = length-map (reads_of trail) first in
      let few : length has.held ≤ grain_limit = few_at_end in
      omega (arith, e, f, g, few)

  -- written grains are locked exclusive
  writes_are_locked : All (λ one. Contains (exclusive_in trail) one.0) (writes_of result has)
  writes_are_locked =
      let P : GrainState → Type 0 = λ one. Contains (exclusive_in trail) one.0 in
      let bares : All (IsIn types true depth (exclusive_in trail)) (map bare has.held) =
      subst (All (IsIn types true depth (exclusive_in trail))) (sym ends.holds)
      (held_is_exclusive types true depth [] [] trail (All-nil (IsIn types true depth []))) in
      let each : All (λ one. IsIn types true depth (exclusive_in trail) (bare one)) has.held =
      All-from_map (IsIn types true depth (exclusive_in trail)) bare has.held bares in
      of_writes (All P) result has
      (All-written P has.held (λ k d within set. each k d within ((ends.fit k d within).locked set))) (All-nil P)

  -- written states have each field
  writes_have_fields : All (λ one. HasEachField types one.0 one.1) (writes_of result has)
  writes_have_fields =
      let P : GrainState → Type 0 = λ one. HasEachField types one.0 one.1 in
      of_writes (All P) result has (All-written P has.held (λ k d within set. (ends.fit k d within).whole)) (All-nil P)

  -- written grains were read
  writes_were_read : All (λ one. Contains (grains_with_states (reads_of trail)) one.0) (writes_of result has)
  writes_were_read =
      let P : GrainState → Type 0 = λ one. Contains (grains_with_states (reads_of trail)) one.0 in
      let grain_of : Held → GrainId = λ one. one.grain in
      let itself : All (Contains (grains_with_states (reads_of trail))) (map grain_of has.held) =
      subst (λ (gs : List GrainId). All (Contains gs) (map grain_of has.held)) ends_with_reads
      (All-contains_itself (map grain_of has.held)) in
      let each : All (λ one. Contains (grains_with_states (reads_of trail)) (grain_of one)) has.held =
      All-from_map (Contains (grains_with_states (reads_of trail))) grain_of has.held itself in
      of_writes (All P) result has (All-written P has.held (λ k d within set. each k d within)) (All-nil P)

  -- written grains ascend
  writes_ascend : AllPairs (λ one other. IsTrue (is_below one.0 other.0)) (writes_of result has)
  writes_ascend =
      let R : GrainId → GrainId → Type 0 = λ one other. one ≢ other in
      let grain_of : Held → GrainId = λ one. one.grain in
      let first : GrainState → GrainId = λ one. one.0 in
      let grains : AllPairs R (grains_with_states (reads_of trail)) =
      AllPairs-map R first (reads_of trail) (reads_once types true depth [] 0 trail granted) in
      let held : AllPairs (λ one other. one.grain ≢ other.grain) has.held =
      AllPairs-from_map R grain_of has.held (subst (AllPairs R) (sym ends_with_reads) grains) in
      of_writes (AllPairs (λ one other. IsTrue (is_below one.0 other.0))) result has (written_ascends has.held held)
      (λ i j d below within. absurd (omega (arith, within)))

  -- at most so many grains are written
  few_writes : length (writes_of result has) ≤ grain_limit
  few_writes =
      let few : length has.held ≤ grain_limit = few_at_end in
      let e : length (states_set has.held) ≤ length has.held = length-written has.held in
      of_writes (λ found. length found ≤ grain_limit) result has (omega (arith, few, e)) (omega arith)

-- a play is a run to its end
module _ (types : ProgramTree) (call : Call) (depth : ℕ) (states : GrainId → List Value) (answers : List Outcome) where
  -- the call's run, what the play is given, what it gives and what the unit has at its end
  abbrev run : Requests
  run = unit types call depth

  abbrev trail : List Given
  trail = trail_of run states answers

  abbrev played : Played
  played = serve run states answers

  abbrev has : Holding
  has = end_of run states answers

  -- what a play is given was missing, and it ends well
  run_goes_on : GoesOn types true depth [] 0 trail (End played.result has)
  run_goes_on = sound_leads types true depth run trail (End played.result has) [] 0
      (unit_sound types true depth call (λ t. refl)) (serve_leads run states answers)

  -- its trail shows what it gives
  run_shows : IsShown trail played.result played
  run_shows = record {
    result = refl;
    asked = serve_asked run states answers;
    reads = serve_reads run states answers;
    locked = subst (All (λ (one : GrainState). Contains (exclusive_in trail) one.0)) (sym (serve_writes run states answers))
        (writes_are_locked types depth trail played.result has run_goes_on.0 run_goes_on.1);
  }

  -- its trail is what `next` names
  run_is_whole : IsWholeTrail types call depth trail played.result
  unfolding next
  run_is_whole = record {
    named = record { each = leads_follows run trail (End played.result has) (serve_leads run states answers) };
    over = ap asks (leads_rest run trail (End played.result has) (serve_leads run states answers));
  }

  -- what it gives is orderly
  run_is_orderly : IsOrderly types depth played
  run_is_orderly =
      let granted : AreGranted types true depth [] 0 trail = run_goes_on.0 in
      let ends : EndsWell types (held_after [] trail) played.result has = run_goes_on.1 in
      let reads : reads_of trail ≡ played.reads = sym (serve_reads run states answers) in
      let writes : writes_of played.result has ≡ played.writes = sym (serve_writes run states answers) in
      let asked : asked_of trail ≡ played.asked = sym (serve_asked run states answers) in
      record {
        ended = ends.ended;
        once = subst (AllPairs (λ (one other : GrainState). one.0 ≢ other.0)) reads
            (reads_once types true depth [] 0 trail granted);
        few_reads = subst (λ (found : List GrainState). length found ≤ grain_limit) reads
            (few_reads types depth trail played.result has granted ends);
        ascending = subst (AllPairs (λ (one other : GrainState). IsTrue (is_below one.0 other.0))) writes
            (writes_ascend types depth trail played.result has granted ends);
        few_writes = subst (λ (found : List GrainState). length found ≤ grain_limit) writes
            (few_writes types depth trail played.result has granted ends);
        writes_are_read =
            subst (λ (found : List GrainState). All (λ (one : GrainState). Contains (grains_with_states found) one.0) played.writes) reads
            (subst (All (λ (one : GrainState). Contains (grains_with_states (reads_of trail)) one.0)) writes
            (writes_were_read types depth trail played.result has granted ends));
        whole_states = subst (All (λ (one : GrainState). HasEachField types one.0 one.1)) writes
            (writes_have_fields types depth trail played.result has granted ends);
        few_units = subst (λ (units : List AskedUnit). length units ≤ unit_limit) asked
            (let few : 0 + length (asked_of trail) ≤ unit_limit =
            few_asked types true depth [] 0 trail granted (omega arith) in omega (arith, few));
        children = subst (All (IsChild types depth)) asked (all_children types true depth [] 0 trail granted);
      }

pub play_is_next_lem : PlayIsNext
unfolding play_over
play_is_next_lem types call depth states answers = (
  trail_of (unit types call depth) states answers,
  run_is_whole types call depth states answers,
  run_shows types call depth states answers,
  serve_answers (unit types call depth) states answers,
  serve_has (unit types call depth) states answers,
)

pub plays_are_orderly_lem : PlaysAreOrderly
unfolding play_over
plays_are_orderly_lem types call depth states answers = run_is_orderly types call depth states answers

pub next_is_play_lem : NextIsPlay
unfolding play_over next
next_is_play_lem types call depth trail result whole states found =
    let run : Requests = unit types call depth in
    let rest : Requests = rest_of run (locks_of trail) (answers_of trail) in
    let over : (has : Holding) × (rest ≡ End result has) = over_ends rest result whole.over in
    let leads : Leads run trail (End result over.0) =
    subst (Leads run trail) over.1 (follows_leads run trail whole.named.each) in
    let goes_on : GoesOn types true depth [] 0 trail (End result over.0) =
    sound_leads types true depth run trail _ [] 0 (unit_sound types true depth call (λ t. refl)) leads in
    let is : serve run states (answers_of trail)
    ≡ record { result = result; asked = asked_of trail; reads = reads_of trail; writes = writes_of result over.0 } =
    leads_is_play run trail result over.0 states leads found in
    record {
      result = ap (λ (p : Played). p.result) is;
      asked = ap (λ (p : Played). p.asked) is;
      reads = ap (λ (p : Played). p.reads) is;
      locked = subst (All (λ (one : GrainState). Contains (exclusive_in trail) one.0))
          (ap (λ (p : Played). p.writes) (sym is))
          (writes_are_locked types depth trail result over.0 goes_on.0 goes_on.1);
    }

pub play_rests_on_reads_lem : PlayRestsOnReads
unfolding play_over
play_rests_on_reads_lem types call depth states other answers more found same =
    serve_rests (unit types call depth) states other answers more found same

pub play_is_again_lem : PlayIsAgain
unfolding play_over
play_is_again_lem types call depth states answers =
    let run : Requests = unit types call depth in
    let played : Played = serve run states answers in
    let found : Has states played.reads =
    subst (Has states) (sym (serve_reads run states answers)) (serve_has run states answers) in
    serve_rests run states (states_of played.reads) answers (outcomes (length played.asked) answers)
    (states_of_has states played.reads found) (outcomes_again (length played.asked) answers)

pub equal_stores_play_alike_lem : EqualStoresPlayAlike
unfolding play
equal_stores_play_alike_lem types call depth store other answers same =
    λ i. play_over types call depth
    (λ grain. unwrap_or (same grain i) (initial_of (slice_get types grain.kind))) answers

pub plain_runs_lock_nothing_lem : PlainRunsLockNothing
unfolding play_over
plain_runs_lock_nothing_lem types call depth states answers plain =
    let run : Requests = unit types call depth in
    let trail : List Given = trail_of run states answers in
    let played : Played = serve run states answers in
    let has : Holding = end_of run states answers in
    let goes_on : GoesOn types false depth [] 0 trail (End played.result has) =
    sound_leads types false depth run trail (End played.result has) [] 0
    (unit_sound types false depth call (λ t. absurd (plain t))) (serve_leads run states answers) in
    let nothing : (reads_of trail ≡ []) × (held_after [] trail ≡ []) =
    plain_locks_nothing types false depth refl [] 0 trail goes_on.0 in
    let none : has.held ≡ [] = nothing_bare has.held (goes_on.1.holds ∙ nothing.1) in
    let writes : writes_of played.result has ≡ [] =
    of_writes (λ found. found ≡ []) played.result has (ap states_set none) refl in
    (serve_reads run states answers ∙ nothing.0, serve_writes run states answers ∙ writes)

-- what a sound run asks for is missing
missing : (types : ProgramTree) (depth : ℕ) (trail : List Given) (after : Requests) →
    AreGranted types true depth [] 0 trail →
    IsSound types true depth (held_after [] trail) (asked_after 0 trail) after →
    IsMissing types depth trail (asks after)
missing types depth trail (End result has) granted sound = sound.ended
missing types depth trail (AskLock grain mode go) granted sound =
    let grains : map (λ one. one.grain) (held_after [] trail) ≡ grains_with_states (reads_of trail) =
    grains_after types true depth [] 0 trail granted in
    let grain_of : Held → GrainId = λ one. one.grain in
    let first : GrainState → GrainId = λ one. one.0 in
    let e : length (map grain_of (held_after [] trail)) ≡ length (held_after [] trail) =
    length-map (held_after [] trail) grain_of in
    let f : length (map grain_of (held_after [] trail)) ≡ length (grains_with_states (reads_of trail)) = ap length grains in
    let g : length (grains_with_states (reads_of trail)) ≡ length (reads_of trail) = length-map (reads_of trail) first in (
      subst (λ (l : List GrainId). ¬ Contains l grain) grains (mode_at-none grain (held_after [] trail) sound.1),
      omega (arith, e, f, g, sound.2),
    )
missing types depth trail (AskRaise grain rest) granted sound =
    let grains : map (λ one. one.grain) (held_after [] trail) ≡ grains_with_states (reads_of trail) =
    grains_after types true depth [] 0 trail granted in (
      subst (λ (l : List GrainId). Contains l grain) grains (mode_at-some grain (held_after [] trail) Read sound.1),
      λ locked.
          let exclusive : mode_at grain (held_after [] trail) ≡ Some Update =
          All-contains (λ (g : GrainId). mode_at g (held_after [] trail) ≡ Some Update) (exclusive_in trail) grain
          (exclusive_is_held types true depth [] 0 trail granted) locked in
          let shared : mode_at grain (held_after [] trail) ≡ Some Read = sound.1 in
          cc,
    )
missing types depth trail (AskUnit call at go) granted sound =
    let e : asked_after 0 trail ≡ 0 + length (answers_of trail) = asked_after_is 0 trail in
    (sound.1, omega (arith, e, sound.0))

pub next_is_missing_lem : NextIsMissing
unfolding next
next_is_missing_lem types call depth trail follows =
    let run : Requests = unit types call depth in
    let after : Requests = rest_of run (locks_of trail) (answers_of trail) in
    let goes_on : GoesOn types true depth [] 0 trail after =
    sound_leads types true depth run trail after [] 0 (unit_sound types true depth call (λ t. refl))
    (follows_leads run trail follows.each) in
    missing types depth trail after goes_on.0 goes_on.1

pub trails_grow_lem : TrailsGrow
unfolding next
trails_grow_lem types call depth =
    let run : Requests = unit types call depth in
    record {
      begins = record { each = leads_follows run [] run refl };
      grows = λ trail one follows named. record {
        each =
            let after : Requests = rest_of run (locks_of trail) (answers_of trail) in
            leads_follows run (trail ++ (one ∷ [])) (goes after one)
            (leads_on run trail after one (follows_leads run trail follows.each) named);
      };
      began = λ trail more follows. record {
        each = λ before one after e.
            follows.each before one (after ++ more)
            (ap (λ (l : List Given). l ++ more) e ∙ append_assoc before (one ∷ after) more);
      };
    }

pub faults_are_known_lem : FaultsAreKnown
unfolding play_over
faults_are_known_lem types call depth states answers text program right e =
    let Q : List ℕ → Type 0 = λ text. Contains own_faults text ⊎ MayFail types text ⊎ Contains answers (Fault text) in
    let own : Says Q = record {
      overflow = inl (0, omega arith, refl);
      divide = inl (1, omega arith, refl);
      kind = inl (2, omega arith, refl);
      key = inl (3, omega arith, refl);
      too_long = inl (4, omega arith, refl);
      budget = inl (5, omega arith, refl);
      depth = inl (6, omega arith, refl);
      units = inl (7, omega arith, refl);
      grains = inl (8, omega arith, refl);
      no_transaction = inl (9, omega arith, refl);
      not_allowed = inl (10, omega arith, refl);
      aborted =
          inl (11, omega arith, refl);
    } in
    let fails : (kind : ℕ) (target : Target) → numbered (slice_get types kind) target.number ≡ Some target →
    (text : List ℕ) → BlockFails target.method.body text → Q text =
    λ kind target is text f. inr (inl (record { of_kind = kind; target = target; is_there = is; fails = f })) in
    let known : All (λ answer. (text : List ℕ) → answer ≡ Fault text → Q text) answers =
    All-weaker (Contains answers) (λ (answer : Outcome). (text : List ℕ) → answer ≡ Fault text → Q text)
    (λ answer among text e. inr (inr (subst (Contains answers) e among))) answers (All-contains_itself answers) in
    serve_said types program Q own (unit types call depth)
    (unit_said types program Q own fails call depth right) states answers known text e
