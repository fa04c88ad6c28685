-- A play in progress, as the plain player keeps it.
use Rattle.std.specs.Prelude.{◌≡◌, ℕ, ◌-◌, List, [], ◌++◌, drop, pos, None, Result, Ok, Err}
use Rattle.base_types.specs.declared.calls.Value.TheVariants.{Int}
use Rattle.script_tree.specs.Programs.{MethodTree, ProgramTree, program_tree}
use Rattle.script_values.specs.Expressions.{Locals, Surroundings}
use Rattle.script_values.specs.declared.stops.Stop.{Stop}
use Rattle.script_values.specs.declared.stops.Stop.TheVariants.{Fault, Memory}
use Rattle.script_holding.specs.Limits.{depth_limit}
use Rattle.script_holding.specs.Holding.{Holding}
use Rattle.script_meaning.specs.Requests.{Requests, Back, Caught, stop}
use Rattle.script_meaning.specs.Calls.{Site, Runner}
use Rattle.script_meaning.specs.Statements.{Next, around, runs, deep}
use Rattle.script_meaning.specs.Play.{AskedUnit, GrainState, Played, ends_unit, serve, found_in}
use Rattle.script_player.specs.declared.flows.Flow.{Flow}
use Rattle.script_player.specs.declared.flows.Flow.TheVariants as flow
use Rattle.script_player.specs.declared.flows.Answer.{Answer}
use Rattle.script_player.specs.declared.flows.Answer.TheVariants as answer
use Rattle.script_player.specs.declared.frames.World.{World}
use Rattle.script_player.specs.declared.frames.Site.{Site as CodeSite}
use Rattle.script_player.specs.declared.player.Progress.{Progress}
use Rattle.script_player.specs.declared.player.Player.{Player}
use Rattle.script_player.specs.declared.units.Played as code

-- the types of the program that is played
abbrev pub types_in : World → ProgramTree
types_in world = program_tree world.program.now

-- where the code's frame runs
abbrev pub site_of : CodeSite → Site
site_of site =
    record { fields = site.fields.now; kind = site.kind; grain = site.grain; context = site.context; depth = site.depth }

-- what the expressions of a frame are evaluated in
abbrev pub surrounds : Site → Locals → Holding → Surroundings
surrounds site locals has = around [] None site ends_unit locals has

-- what runs the frames below one at this depth
abbrev pub below : World → ℕ → Runner
below world depth = deep (types_in world) (depth_limit - depth)

-- a method's body in this frame; without a `return` it gives 0
abbrev pub plays_method : World → Site → MethodTree → Locals → Back → Holding → Requests
plays_method world site method locals back has =
    runs (types_in world) (below world site.depth) site back method.body (λ after has. back (Int (pos 0)) has) locals has

-- what a play gives whose first part asked for these units and read these grains
abbrev pub continued : List AskedUnit → List GrainState → Played → Played
continued asked reads rest =
    record { result = rest.result; asked = asked ++ rest.asked; reads = reads ++ rest.reads; writes = rest.writes }

-- what a play gives that came so far and has this left to run
unfoldable pub heard : World → Progress → Requests → Played
heard world progress rest =
    continued progress.asked progress.reads
    (serve rest (found_in (types_in world) world.store.now) (drop progress.used world.answers.now))

-- where a statement leads, if not to the unit's end: to what follows it, or out of the method with a value
abbrev pub flowing : Flow → Back → Next → Next
flowing flow.Next back next locals has = next locals has
flowing (flow.Return value) back next locals has = back value has

-- where a call leads, if not to the unit's end: to its value, or to a fault that its caller may catch
abbrev pub answering : Answer → Back → Caught → Holding → Requests
answering (answer.Value value) back caught has = back value has
answering (answer.Caught text) back caught has = caught text has

-- the unit ends with this fault, which gives the same play as what was left to run before it; want of memory may
-- come at any time
abbrev pub EndsPlay : World → Player → Progress → Stop → Requests → Type 0
EndsPlay world player old (Fault text) before = heard world player.progress (stop text player.has) ≡ heard world old before
EndsPlay world player old Memory before = Unit {0}

-- what an answer leads to gives the same play as what was left to run before it; or the unit ends
abbrev pub Leads : {A : Type 0} → World → Player → Progress → Result A Stop → (A → Requests) → Requests → Type 0
Leads world player old (Ok answer) go before = heard world player.progress (go answer) ≡ heard world old before
Leads world player old (Err why) go before = EndsPlay world player old why before

-- what the code's play gives
abbrev pub played_of : code.Played → Played
played_of played =
    record { result = played.result; asked = played.asked; reads = played.reads; writes = played.writes }
