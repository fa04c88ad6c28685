-- What `play` and `next` have to do with each other, and what a play rests on.
use Rattle.std.specs.Prelude.{◌≡◌, ◌≢◌, ◌≤◌, ◌<◌, ℕ, List, [], ◌∷◌, ◌++◌, length, IsTrue, Some, slice_get, ⊤}
use Rattle.std.specs.List.{All, AllPairs, Contains}
use Rattle.base_types.specs.declared.calls.Call.{Call}
use Rattle.base_types.specs.declared.calls.GrainId.{GrainId}
use Rattle.base_types.specs.declared.calls.Outcome.{Outcome}
use Rattle.base_types.specs.declared.calls.Outcome.TheVariants.{Aborted}
use Rattle.base_types.specs.declared.calls.Value.{Value}
use Rattle.base_types.specs.declared.stores.Store.{Store}
use Rattle.base_types.specs.Stores.{state_in}
use Rattle.script_tree.specs.Exprs.{ExprTree}
use Rattle.script_tree.specs.Stmts.{BlockTree, Repeat}
use Rattle.script_tree.specs.Programs.{TypeTree, ProgramTree}
use Rattle.script_check.specs.AcceptedPrograms.{IsAcceptedProgram}
use Rattle.script_values.specs.Expressions.{Locals}
use Rattle.script_holding.specs.Holding.{Holding}
use Rattle.script_holding.specs.Limits.{depth_limit, unit_limit, grain_limit}
use Rattle.script_meaning.specs.Requests.{Back, with_value}
use Rattle.script_meaning.specs.Calls.{Site, Target, numbered}
use Rattle.script_meaning.specs.Statements.{Next, takes_step, by_truth, given, does, runs, deep}
use Rattle.script_meaning.specs.Play.{IsTransaction, AskedUnit, Played, Lock, Want, WantLock, WantRaise, WantUnit, Over, grains_with_states, is_below, play_over, play, next}
use Rattle.script_meaning.specs.Trails.{Given, wanted, locks_of, answers_of, reads_of, exclusive_in, Has, IsTrail, IsWholeTrail, IsShown, outcomes, states_of}

-- a play is a run of `next` to its end, over states of the store and the outcomes of the children
abbrev pub PlayIsNext : Type 0
PlayIsNext = (types : ProgramTree) (call : Call) (depth : ℕ) (states : GrainId → List Value) (answers : List Outcome) →
    let played = play_over types call depth states answers in
    (trail : List Given) × IsWholeTrail types call depth trail played.result × IsShown trail played.result played
    × (answers_of trail ≡ outcomes (length played.asked) answers) × Has states (reads_of trail)

-- and each run of `next` to its end is a play, over every store with the states that it found
abbrev pub NextIsPlay : Type 0
NextIsPlay = (types : ProgramTree) (call : Call) (depth : ℕ) (trail : List Given) (result : Outcome) →
    IsWholeTrail types call depth trail result →
    (states : GrainId → List Value) → Has states (reads_of trail) →
    IsShown trail result (play_over types call depth states (answers_of trail))

-- a play depends on no state but those that it reads, and on no answer but those that it asks for
abbrev pub PlayRestsOnReads : Type 0
PlayRestsOnReads = (types : ProgramTree) (call : Call) (depth : ℕ) (states other : GrainId → List Value)
    (answers more : List Outcome) →
    let played = play_over types call depth states answers in
    Has other played.reads → outcomes (length played.asked) more ≡ outcomes (length played.asked) answers →
    play_over types call depth other more ≡ played

-- over its own reads and answers a play gives the same again
abbrev pub PlayIsAgain : Type 0
PlayIsAgain = (types : ProgramTree) (call : Call) (depth : ℕ) (states : GrainId → List Value) (answers : List Outcome) →
    let played = play_over types call depth states answers in
    play_over types call depth (states_of played.reads) (outcomes (length played.asked) answers) ≡ played

-- equal stores give equal plays
abbrev pub EqualStoresPlayAlike : Type 0
EqualStoresPlayAlike = (types : ProgramTree) (call : Call) (depth : ℕ) (store other : Store) (answers : List Outcome) →
    ((grain : GrainId) → state_in store grain ≡ state_in other grain) →
    play types call depth store answers ≡ play types call depth other answers

-- a call with as many arguments as its method has parameters
abbrev pub HasArity : ProgramTree → Call → Type 0
HasArity types call = (target : Target) → numbered (slice_get types call.grain.kind) call.method ≡ Some target →
    length call.args ≡ length target.method.params

-- a unit that may be asked for by one whose first frame has this depth: a transaction of its own, deeper than that
-- frame and no deeper than a frame may be, and with the right arguments where the program was checked
pub record IsChild (types : ProgramTree) (depth : ℕ) (asked : AskedUnit) : Type 0 where
  pub transaction : IsTransaction types asked.0
  pub deeper : depth < asked.1
  pub not_too_deep : asked.1 ≤ depth_limit
  pub arity : IsAcceptedProgram types → HasArity types asked.0

-- a state with as many values as its grain's type has fields
abbrev pub HasEachField : ProgramTree → GrainId → List Value → Type 0
HasEachField types grain state = (of_type : TypeTree) → slice_get types grain.kind ≡ Some of_type →
    length state ≡ length of_type.fields

-- a play ends with a value or a fault; it reads each grain once, at most 64 of them, and writes grains that it read,
-- in ascending order and with all their fields; it asks for at most 64 units
pub record IsOrderly (types : ProgramTree) (depth : ℕ) (played : Played) : Type 0 where
  pub ended : played.result ≢ Aborted
  pub once : AllPairs (λ one other. one.0 ≢ other.0) played.reads
  pub few_reads : length played.reads ≤ grain_limit
  pub ascending : AllPairs (λ one other. IsTrue (is_below one.0 other.0)) played.writes
  pub few_writes : length played.writes ≤ grain_limit
  pub writes_are_read : All (λ one. Contains (grains_with_states played.reads) one.0) played.writes
  pub whole_states : All (λ one. HasEachField types one.0 one.1) played.writes
  pub few_units : length played.asked ≤ unit_limit
  pub children : All (IsChild types depth) played.asked

-- every play is orderly, whatever the states and the answers
abbrev pub PlaysAreOrderly : Type 0
PlaysAreOrderly = (types : ProgramTree) (call : Call) (depth : ℕ) (states : GrainId → List Value)
    (answers : List Outcome) →
    IsOrderly types depth (play_over types call depth states answers)

-- a plain run locks nothing, so it reads and writes nothing
abbrev pub PlainRunsLockNothing : Type 0
PlainRunsLockNothing = (types : ProgramTree) (call : Call) (depth : ℕ) (states : GrainId → List Value)
    (answers : List Outcome) → ¬ IsTransaction types call →
    let played = play_over types call depth states answers in (played.reads ≡ []) × (played.writes ≡ [])

-- what is asked for next is missing still: a first lock of a grain that isn't locked, at most the 64th; an exclusive
-- lock of one that is locked shared only; at most the 64th unit of its own
abbrev pub IsMissing : ProgramTree → ℕ → List Given → Want → Type 0
IsMissing types depth trail (WantLock grain mode) = (¬ Contains (grains_with_states (reads_of trail)) grain)
    × (length (reads_of trail) < grain_limit)
IsMissing types depth trail (WantRaise grain) = Contains (grains_with_states (reads_of trail)) grain
    × ¬ Contains (exclusive_in trail) grain
IsMissing types depth trail (WantUnit call at) = IsChild types depth (call, at)
    × (length (answers_of trail) < unit_limit)
IsMissing types depth trail (Over outcome) = outcome ≢ Aborted

-- so it is behind every trail
abbrev pub NextIsMissing : Type 0
NextIsMissing = (types : ProgramTree) (call : Call) (depth : ℕ) (trail : List Given) → IsTrail types call depth trail →
    IsMissing types depth trail (next types call depth (locks_of trail) (answers_of trail))

-- a trail begins empty and grows by what `next` names, and each beginning of one is one
pub record TrailGrows (types : ProgramTree) (call : Call) (depth : ℕ) : Type 0 where
  pub begins : IsTrail types call depth []
  pub grows : (trail : List Given) (one : Given) → IsTrail types call depth trail →
      next types call depth (locks_of trail) (answers_of trail) ≡ wanted one →
      IsTrail types call depth (trail ++ (one ∷ []))
  pub began : (trail more : List Given) → IsTrail types call depth (trail ++ more) → IsTrail types call depth trail

-- every trail begins and grows so
abbrev pub TrailsGrow : Type 0
TrailsGrow = (types : ProgramTree) (call : Call) (depth : ℕ) → TrailGrows types call depth

-- a trail reads each grain once, so what its reads found are those grains' states
pub record ReadsOnce (trail : List Given) : Type 0 where
  pub once : AllPairs (λ one other. one.0 ≢ other.0) (reads_of trail)
  pub found : Has (states_of (reads_of trail)) (reads_of trail)

-- every trail does
abbrev pub TrailsReadOnce : Type 0
TrailsReadOnce = (types : ProgramTree) (call : Call) (depth : ℕ) (trail : List Given) → IsTrail types call depth trail → ReadsOnce trail

-- what is asked for is of a type of the program: the grain that is to be locked, and that of a unit's call
abbrev pub IsOfTypes : ProgramTree → Want → Type 0
IsOfTypes types (WantLock grain mode) = grain.kind < length types
IsOfTypes types (WantRaise grain) = grain.kind < length types
IsOfTypes types (WantUnit call at) = call.grain.kind < length types
IsOfTypes types (Over outcome) = ⊤

-- so it is whatever was given before
abbrev pub NextIsOfTypes : Type 0
NextIsOfTypes = (types : ProgramTree) (call : Call) (depth : ℕ) (locks : List Lock) (answers : List Outcome) →
    IsOfTypes types (next types call depth locks answers)

-- A `while` takes a step, then its test chooses between its block, behind which stands the same `while`, and what
-- follows: the count of turns in its definition never ends it.
abbrev pub LoopsGoOn : Type 0
LoopsGoOn = (types : ProgramTree) (n : ℕ) (site : Site) (back : Back) (test : ExprTree) (block : BlockTree) (next : Next) →
    let loop : Next = does types (deep types n) site back (Repeat test block) next in
    let turn : Next = λ locals has.
    with_value (given types (deep types n) site back test locals has) has
    (λ value. by_truth value has (runs types (deep types n) site back block loop locals has) (next locals has)) in
    (locals : Locals) (has : Holding) → loop locals has ≡ takes_step turn locals has
