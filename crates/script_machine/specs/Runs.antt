-- What a run still has before it.
use Rattle.std.specs.Prelude.{◌≡◌, ℕ, ◌+◌, ◌*◌, ◌<◌, ◌≤◌, ◌^◌, Bool, List, [], ◌∷◌, ◌++◌, length, if◌then◌else◌, Option, Some, None, slice_get, Result, Ok, Err}
use Rattle.base_types.specs.declared.calls.GrainId.{GrainId}
use Rattle.base_types.specs.declared.calls.Mode.{Mode}
use Rattle.base_types.specs.declared.calls.Value.{Value}
use Rattle.script_tree.specs.Exprs.{ExprTree, CallTree}
use Rattle.script_tree.specs.declared.statements.Stmt.{Stmt}
use Rattle.script_tree.specs.Stmts.{Computed, Called, StmtTree, Bind, Rebind, SetField, Perform, Choose, Repeat, Give, FailWith, Try, NoMore, Then, stmt_tree}
use Rattle.script_tree.specs.Programs.{ProgramTree}
use Rattle.script_values.specs.declared.stops.Stop.{Stop}
use Rattle.script_values.specs.declared.stops.Stop.TheVariants.{Fault, Memory}
use Rattle.script_values.specs.Values.{ValueOrFault}
use Rattle.script_values.specs.Expressions.{Surroundings, field_named}
use Rattle.script_values.specs.Faults.{depth}
use Rattle.script_holding.specs.Limits.{depth_limit}
use Rattle.script_holding.specs.Holding.{Holding, change, raised, newly_held, with_held}
use Rattle.script_meaning.specs.Requests.{Requests, End, AskLock, AskRaise, AskUnit, Back, Caught, stop, with_value}
use Rattle.script_meaning.specs.Calls.{answered, settable, with_key}
use Rattle.script_meaning.specs.Statements.{Next, does, runs, given, calls, around, by_truth, sets}
use Rattle.script_machine.specs.declared.frames.Part.{Part}
use Rattle.script_machine.specs.declared.frames.Frame.{Frame}
use Rattle.script_machine.specs.declared.runs.Run.{Run}
use Rattle.script_machine.specs.declared.runs.Wait.{Wait}
use Rattle.script_machine.specs.declared.runs.Wait.TheVariants.{Lock, Raise, Child, Over}
use Rattle.script_machine.specs.declared.runs.Flow.{Flow}
use Rattle.script_machine.specs.declared.runs.Flow.TheVariants.{Moved, Paused}
use Rattle.script_machine.specs.declared.runs.Onward.{Onward}
use Rattle.script_machine.specs.declared.runs.Onward.TheVariants.{Here, Into, Away}
use Rattle.script_machine.specs.declared.frames.OpenBlock.{OpenBlock}
use Rattle.script_machine.specs.declared.frames.Post.{Post}
use Rattle.script_machine.specs.declared.open_blocks.Open.{Open}
use Rattle.script_machine.specs.Blocks.{from, part_of, outer, received, caught}
use Rattle.script_machine.specs.OpenBlocks.{IsOpen}
use Rattle.script_machine.specs.Frames.{fields_of, site_of, runner_of, block_of, body_at, from_at, goes_on, waits, catches_in, below_of}

-- what becomes of the value of the topmost frame
abbrev pub back_of : ProgramTree → Run → Back
back_of types run = below_of types run.below.items

-- the topmost frame goes on
abbrev pub running : ProgramTree → Run → Requests
running types run = goes_on types run.top (back_of types run) run.has

-- the same with one more grain, which is locked and was found in this state
abbrev pub with_lock : ProgramTree → Run → GrainId → Mode → List Value → Requests
with_lock types run grain mode found =
    goes_on types run.top (back_of types run) (with_held run.has (run.has.held ++ (newly_held grain mode (fields_of (slice_get types grain.kind)) found ∷ [])))

-- the same with a grain whose lock became exclusive
abbrev pub with_raise : ProgramTree → Run → GrainId → Requests
with_raise types run grain = goes_on types run.top (back_of types run) (with_held run.has (change grain raised run.has.held))

-- what the value of a call of the topmost frame is followed by
abbrev pub back_here : ProgramTree → Run → Back
back_here types run = waits types (back_of types run) run.top

-- and the fault of a unit of its own
abbrev pub caught_here : ProgramTree → Run → Caught
caught_here types run = catches_in types (back_of types run) run.top

-- what a run has before it that waits
abbrev pub waiting : ProgramTree → Run → Wait → Requests
waiting types run (Lock grain mode) = AskLock grain mode (with_lock types run grain mode)
waiting types run (Raise grain) = AskRaise grain (with_raise types run grain)
waiting types run (Child call depth) = AskUnit call depth (λ outcome. answered outcome (back_here types run) (caught_here types run) run.has)
waiting types run (Over outcome) = End outcome run.has

-- what a run that has paused has before it
abbrev pub rest_of_run : ProgramTree → Run → Requests
rest_of_run types run = waiting types run run.wait

-- a run that has just gone on, or has paused
abbrev pub stays : ProgramTree → Run → Flow → Requests
stays types run Moved = running types run
stays types run Paused = rest_of_run types run

-- the same wherever it goes on
abbrev pub goes_to : ProgramTree → Run → Onward → Requests
goes_to types run Here = running types run
goes_to types run (Into one) = running types run
goes_to types run (Away flow) = stays types run flow

-- this is what is left: the run goes on or pauses with it, or it is the fault that ends the unit
abbrev pub Left : Requests → Run → Stop → Type 0
Left left run (Fault text) = left ≡ stop text run.has
Left left run Memory = Unit {0}

-- what is left is what the run goes on or pauses with, or the fault that ends it
abbrev pub Goes : Requests → ProgramTree → Run → Result Flow Stop → Type 0
Goes left types run (Ok flow) = left ≡ stays types run flow
Goes left types run (Err why) = Left left run why

-- the same wherever it goes on
abbrev pub GoesTo : Requests → ProgramTree → Run → Result Onward Stop → Type 0
GoesTo left types run (Ok onward) = left ≡ goes_to types run onward
GoesTo left types run (Err why) = Left left run why

-- the open blocks of the topmost frame are those of this path, or one more
abbrev pub Moves : Post → List OpenBlock → Run → Onward → Type 0
Moves post path run Here = (run.top.post ≡ post) × (run.top.path.items ≡ path)
Moves post path run (Into one) = (run.top.post ≡ post) × (run.top.path.items ≡ path ++ one ∷ [])
Moves post path run (Away flow) = Unit {0}

-- the code keeps the open blocks of the topmost frame
abbrev pub HasOpen : ProgramTree → Run → Open → Type 0
HasOpen types run blocks = IsOpen (body_at types run.top.post) run.top.path.items blocks

-- the same, but for the block that is gone into
abbrev pub Tracks : ProgramTree → Run → Open → Onward → Type 0
Tracks types run blocks Here = HasOpen types run blocks
Tracks types run blocks (Into one) = (path : List OpenBlock) × (run.top.path.items ≡ path ++ one ∷ []) × IsOpen (body_at types run.top.post) path blocks
Tracks types run blocks (Away flow) = Unit {0}

-- the same, unless the run has paused
abbrev pub OpenUnless : ProgramTree → Run → Open → Flow → Type 0
OpenUnless types run blocks Moved = HasOpen types run blocks
OpenUnless types run blocks Paused = Unit {0}

-- how large a frame is: one for each open block, and two for the frame
abbrev pub frame_size : Frame → ℕ
frame_size frame = length frame.path.items + 2

-- all the frames below
abbrev pub sizes : List Frame → ℕ
sizes [] = 0
sizes (frame ∷ frames) = frame_size frame + sizes frames

-- how much a run may still do without a pause: four for each step, and its frames
abbrev pub size : Run → ℕ
size run = 4 * run.has.left + frame_size run.top + sizes run.below.items

-- less is left to do, unless the run has paused
abbrev pub Shrinks : ℕ → Run → Flow → Type 0
Shrinks n run Moved = size run < n
Shrinks n run Paused = Unit {0}

-- the same wherever it goes on
abbrev pub ShrinksOn : ℕ → Run → Onward → Type 0
ShrinksOn n run Here = size run < n
ShrinksOn n run (Into one) = size run < n
ShrinksOn n run (Away flow) = Shrinks n run flow

-- the topmost frame stands at this statement
pub record StandsAt (types : ProgramTree) (run : Run) (stmt : StmtTree) : Type 0 where
  pub here : from run.top.at (block_of types run.top) ≡ Then stmt (from (run.top.at + 1) (block_of types run.top))
  pub small : run.top.at < 2 ^ 63

-- the topmost frame stands at this statement of the code, or at the end of its innermost block
abbrev pub StandsWith : ProgramTree → Run → Option Stmt → Type 0
StandsWith types run None = from run.top.at (block_of types run.top) ≡ NoMore
StandsWith types run (Some stmt) = StandsAt types run (stmt_tree stmt)

-- the call that a statement makes
abbrev pub call_in : StmtTree → Option CallTree
call_in (Bind name (Called call)) = Some call
call_in (Rebind name (Called call)) = Some call
call_in (Perform call) = Some call
call_in (Try at name call block other) = Some call
call_in (Bind name (Computed value)) = None
call_in (Rebind name (Computed value)) = None
call_in (SetField name value) = None
call_in (Choose test block other) = None
call_in (Repeat test block) = None
call_in (Give value) = None
call_in (FailWith text) = None

-- what follows the statement at which the topmost frame stands
abbrev pub next_here : ProgramTree → Run → Next
next_here types run = from_at types run.top.post (back_of types run) run.top.path.items (run.top.at + 1)

-- what an expression is evaluated in
abbrev pub around_here : ProgramTree → Run → Surroundings
around_here types run = around types (runner_of types run.top.post) (site_of types run.top.post) (back_of types run) run.top.locals.items run.has

-- the value of an expression
abbrev pub value_here : ProgramTree → Run → ExprTree → ValueOrFault
value_here types run expression = given types (runner_of types run.top.post) (site_of types run.top.post) (back_of types run) expression run.top.locals.items run.has

-- what this statement does in the topmost frame, once its step is taken
abbrev pub does_here : ProgramTree → Run → StmtTree → Requests
does_here types run stmt = does types (runner_of types run.top.post) (site_of types run.top.post) (back_of types run) stmt (next_here types run) run.top.locals.items run.has

-- what follows a block of this statement
abbrev pub outer_here : ProgramTree → Run → Option StmtTree → Next → Next
outer_here types run = outer types (runner_of types run.top.post) (site_of types run.top.post) (back_of types run)

-- a block of this statement, and what follows
abbrev pub part_here : ProgramTree → Run → Part → StmtTree → Requests
part_here types run part stmt =
    runs types (runner_of types run.top.post) (site_of types run.top.post) (back_of types run) (part_of part stmt) (outer_here types run (Some stmt) (next_here types run)) run.top.locals.items run.has

-- what this statement does with the value of its call
abbrev pub received_here : ProgramTree → Run → StmtTree → Back
received_here types run stmt value = received types (runner_of types run.top.post) (site_of types run.top.post) (back_of types run) (Some stmt) (next_here types run) value run.top.locals.items

-- and with the fault of a unit of its own
abbrev pub refused_here : ProgramTree → Run → StmtTree → Caught
refused_here types run stmt text = caught types (runner_of types run.top.post) (site_of types run.top.post) (back_of types run) (Some stmt) (next_here types run) text run.top.locals.items

-- a call of the topmost frame
abbrev pub calls_here : ProgramTree → Run → CallTree → Back → Caught → Requests
calls_here types run call onto refused =
    calls types (runner_of types run.top.post) (site_of types run.top.post) (back_of types run) call onto refused run.top.locals.items run.has

-- what a condition chooses between
abbrev pub chosen_by : ValueOrFault → Holding → Requests → Requests → Requests
chosen_by value has first second = with_value value has (λ found. by_truth found has first second)

-- the condition holds or not, or this is its fault
abbrev pub GivesTruth : Result Bool Stop → ValueOrFault → Type 0
GivesTruth (Ok holds) value = (has : Holding) (first second : Requests) → chosen_by value has first second ≡ (if holds then first else second)
GivesTruth (Err (Fault text)) value = (has : Holding) (first second : Requests) → chosen_by value has first second ≡ stop text has
GivesTruth (Err Memory) value = Unit {0}

-- a field of the topmost frame's grain is set
abbrev pub sets_here : ProgramTree → Run → List ℕ → Value → Requests
sets_here types run name value =
    sets types (runner_of types run.top.post) (site_of types run.top.post) (back_of types run)
    (field_named name (settable run.top.post.kind (fields_of (slice_get types run.top.post.grain.kind)))) value (next_here types run) run.top.locals.items run.has

-- the key that a place is, or its fault
abbrev pub GivesKey : Result ℕ Stop → Value → Type 0
GivesKey (Ok key) place = (has : Holding) (go : ℕ → Requests) → with_key place has go ≡ go key
GivesKey (Err (Fault text)) place = (has : Holding) (go : ℕ → Requests) → with_key place has go ≡ stop text has
GivesKey (Err Memory) place = Unit {0}

-- one more frame may open above one of this depth, or it is too deep
abbrev pub AllowsDepth : Result (Unit {0}) Stop → ℕ → Type 0
AllowsDepth (Ok done) at = at < depth_limit
AllowsDepth (Err (Fault text)) at = (depth_limit ≤ at) × (text ≡ depth)
AllowsDepth (Err Memory) at = Unit {0}
