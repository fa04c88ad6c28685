-- What the frames of a run stand for.
use Rattle.std.specs.Prelude.{ℕ, ◌+◌, ◌-◌, List, [], pos, Option, Some, None, slice_get}
use Rattle.std.specs.List.{fold}
use Rattle.base_types.specs.declared.calls.Value.{Value}
use Rattle.base_types.specs.declared.calls.Value.TheVariants.{Int}
use Rattle.script_tree.specs.declared.programs.FieldDecl.{FieldDecl}
use Rattle.script_tree.specs.Stmts.{BlockTree, NoMore}
use Rattle.script_tree.specs.Programs.{TypeTree, ProgramTree}
use Rattle.script_holding.specs.Limits.{depth_limit}
use Rattle.script_holding.specs.Holding.{Holding}
use Rattle.script_meaning.specs.Requests.{Requests, Back, Caught}
use Rattle.script_meaning.specs.Calls.{Site, Runner, Target, numbered, bound}
use Rattle.script_meaning.specs.Statements.{Next, runs, deep}
use Rattle.script_meaning.specs.Play.{ends_unit}
use Rattle.script_machine.specs.declared.frames.Post.{Post}
use Rattle.script_machine.specs.declared.frames.OpenBlock.{OpenBlock}
use Rattle.script_machine.specs.declared.frames.Frame.{Frame}
use Rattle.script_machine.specs.Blocks.{from, statement_at, inner, beyond, received, caught}

-- the fields of a type, none where there is no type
abbrev pub fields_of : Option TypeTree → List FieldDecl
fields_of None = []
fields_of (Some of_type) = of_type.fields

-- the body of a method, no statements where there is none
abbrev pub body_of : Option Target → BlockTree
body_of None = NoMore
body_of (Some target) = target.method.body

-- where a frame runs
abbrev pub site_of : ProgramTree → Post → Site
site_of types post = record { fields = fields_of (slice_get types post.grain.kind); kind = post.kind; grain = post.grain; context = post.context; depth = post.depth }

-- what runs the frames that it opens
abbrev pub runner_of : ProgramTree → Post → Runner
runner_of types post = deep types (depth_limit - post.depth)

-- the body of a frame's method
abbrev pub body_at : ProgramTree → Post → BlockTree
body_at types post = body_of (numbered (slice_get types post.grain.kind) post.method)

-- a body without a `return` gives 0
abbrev pub gives_zero : Back → Next
gives_zero back locals has = back (Int (pos 0)) has

module _ (types : ProgramTree) (post : Post) (back : Back) where
  -- the innermost of the open blocks of a frame whose value goes to `back`
  abbrev pub block_in : List OpenBlock → BlockTree
  block_in path = fold inner (body_at types post) path

  -- what follows its end
  abbrev pub after : List OpenBlock → Next
  after path = beyond types (runner_of types post) (site_of types post) back (body_at types post) (gives_zero back) path

  -- that block from its statement of this number on, and what follows
  abbrev pub from_at : List OpenBlock → ℕ → Next
  from_at path i = runs types (runner_of types post) (site_of types post) back (from i (block_in path)) (after path)

  -- what a frame that waits at this statement does with its call's value
  abbrev pub receives : List OpenBlock → ℕ → Value → Next
  receives path i value = received types (runner_of types post) (site_of types post) back (statement_at i (block_in path)) (from_at path (i + 1)) value

  -- what it does with the text of a fault of a unit of its own
  abbrev pub catches : List OpenBlock → ℕ → List ℕ → Next
  catches path i text = caught types (runner_of types post) (site_of types post) back (statement_at i (block_in path)) (from_at path (i + 1)) text

-- a frame's innermost block
abbrev pub block_of : ProgramTree → Frame → BlockTree
block_of types frame = fold inner (body_at types frame.post) frame.path.items

-- a frame that goes on
abbrev pub goes_on : ProgramTree → Frame → Back → Holding → Requests
goes_on types frame back has = from_at types frame.post back frame.path.items frame.at frame.locals.items has

-- a frame that waits for the value of its call
abbrev pub waits : ProgramTree → Back → Frame → Back
waits types back frame value has = receives types frame.post back frame.path.items frame.at value frame.locals.items has

-- a frame that waits for a unit of its own, which ends with a fault
abbrev pub catches_in : ProgramTree → Back → Frame → Caught
catches_in types back frame text has = catches types frame.post back frame.path.items frame.at text frame.locals.items has

-- what becomes of the value of a frame that these frames wait for, the last of them first
abbrev pub below_of : ProgramTree → List Frame → Back
below_of types frames = fold (waits types) ends_unit frames

-- a method's body in a new frame
abbrev pub begins : ProgramTree → Post → Target → List Value → Back → Holding → Requests
begins types post target args back has =
    runs types (runner_of types post) (site_of types post) back target.method.body (gives_zero back) (bound target.method.params args) has
