-- How a call is carried out, once its place and arguments are evaluated.
use Rattle.std.specs.Prelude.{ℕ, ◌+◌, ◌^◌, Bool, true, if◌then◌else◌, nat_lt, bytes_eq, List, [], ◌∷◌, ◌++◌, length, ℤ, pos, negsuc, Option, Some, None, slice_get}
use Rattle.base_types.specs.declared.calls.Call.{Call}
use Rattle.base_types.specs.declared.calls.GrainId.{GrainId}
use Rattle.base_types.specs.declared.calls.Mode.{Mode}
use Rattle.base_types.specs.declared.calls.Mode.TheVariants.{Read, Update}
use Rattle.base_types.specs.declared.calls.Outcome.{Outcome}
use Rattle.base_types.specs.declared.calls.Outcome.TheVariants.{Value as Valued, Fault, Aborted}
use Rattle.base_types.specs.declared.calls.Value.{Value}
use Rattle.base_types.specs.declared.calls.Value.TheVariants.{Int, Text}
use Rattle.script_tree.specs.declared.expressions.Name.{Name}
use Rattle.script_tree.specs.declared.options.Entered.{Entered}
use Rattle.script_tree.specs.declared.options.Entered.TheVariants.{Joined, NewUnit, Plain, Refused}
use Rattle.script_tree.specs.declared.options.MethodKind.{MethodKind}
use Rattle.script_tree.specs.declared.options.MethodKind.TheVariants as does
use Rattle.script_tree.specs.declared.programs.FieldDecl.{FieldDecl}
use Rattle.script_tree.specs.Options.{entered}
use Rattle.script_tree.specs.Programs.{MethodTree, TypeTree, ProgramTree}
use Rattle.script_values.specs.Expressions.{Locals}
use Rattle.script_values.specs.Faults.{kind, key, depth, units, grains, aborted, option_refusal_text, unknown}
use Rattle.script_holding.specs.Limits.{unit_limit, grain_limit}
use Rattle.script_holding.specs.Holding.{Holding, mode_at, change, raised, newly_held, with_held, one_asked}
use Rattle.script_meaning.specs.Requests.{Requests, AskLock, AskRaise, AskUnit, Back, Caught, stop}

-- where a frame runs: its type's fields, what it does with them, its grain, whether it has a transaction's
-- context, and its depth
pub record Site : Type 0 where
  pub fields : List FieldDecl
  pub kind : MethodKind
  pub grain : GrainId
  pub context : Bool
  pub depth : ℕ

-- the fields that may be read, and those that may be set
abbrev pub readable : MethodKind → List FieldDecl → List FieldDecl
readable does.Plain fields = []
readable does.Read fields = fields
readable does.Update fields = fields

-- the fields that may be set: a method that updates sets all, others none
abbrev pub settable : MethodKind → List FieldDecl → List FieldDecl
settable does.Plain fields = []
settable does.Read fields = []
settable does.Update fields = fields

-- what runs a method's body in a frame of its own, or nothing where no deeper frame may open
abbrev pub Runner : Type 0
Runner = Option (Site → MethodTree → Locals → Back → Holding → Requests)

-- a method's parameters with these arguments
abbrev pub bound : List Name → List Value → Locals
bound [] values = []
bound (name ∷ names) [] = []
bound (name ∷ names) (value ∷ values) = (record { name = name.text; value = value }) ∷ bound names values

-- what a caller does with a child's outcome: an abort is the fault `aborted`
abbrev pub answered : Outcome → Back → Caught → Holding → Requests
answered (Valued value) back caught has = back value has
answered (Fault text) back caught has = caught text has
answered Aborted back caught has = caught aborted has

-- a grain's lock is asked for, unless it is held already: one more grain, or exclusive in place of shared
abbrev pub locked : Option Mode → Mode → GrainId → List FieldDecl → (Holding → Requests) → Holding → Requests
locked None mode grain fields go has =
    if nat_lt (length has.held) grain_limit
    then AskLock grain mode (λ found. go (with_held has (has.held ++ (newly_held grain mode fields found ∷ []))))
    else stop grains has
locked (Some Update) mode grain fields go has = go has
locked (Some Read) Read grain fields go has = go has
locked (Some Read) Update grain fields go has = AskRaise grain (go (with_held has (change grain raised has.held)))

-- a frame that joins: a method that reads locks its grain shared, one that updates exclusive, a plain one not
abbrev pub joined : MethodKind → GrainId → List FieldDecl → (Holding → Requests) → Holding → Requests
joined does.Plain grain fields go has = go has
joined does.Read grain fields go has = locked (mode_at grain has.held) Read grain fields go has
joined does.Update grain fields go has = locked (mode_at grain has.held) Update grain fields go has

-- a unit of its own, at most the last that a unit may ask for
abbrev pub in_own_unit : Call → ℕ → Back → Caught → Holding → Requests
in_own_unit call depth back caught has =
    if nat_lt has.asked unit_limit then AskUnit call depth (λ outcome. answered outcome back caught (one_asked has)) else stop units has

-- a called method: its type, its number there, and the method
pub record Target : Type 0 where
  pub of_type : TypeTree
  pub number : ℕ
  pub method : MethodTree

-- a method's frame or unit, at this depth; a frame outside the transaction speaks of no field
abbrev pub enters : Runner → Entered → ℕ → GrainId → Target → List Value → Back → Caught → Holding → Requests
enters runner (Refused why) at grain target args back caught has = stop (option_refusal_text why) has
enters None way at grain target args back caught has = stop depth has
enters (Some run) NewUnit at grain target args back caught has =
    in_own_unit (record { grain = grain; method = target.number; args = args }) at back caught has
enters (Some run) (Plain context) at grain target args back caught has =
    run (record { fields = target.of_type.fields; kind = does.Plain; grain = grain; context = context; depth = at }) target.method (bound target.method.params args) back has
enters (Some run) Joined at grain target args back caught has =
    joined target.method.kind grain target.of_type.fields
    (run (record { fields = target.of_type.fields; kind = target.method.kind; grain = grain; context = true; depth = at }) target.method (bound target.method.params args) back) has

-- the number of a type of this name, and of a method, counted from here on
abbrev pub type_from : ℕ → List ℕ → ProgramTree → Option ℕ
type_from i name [] = None
type_from i name (first ∷ rest) = if bytes_eq first.name.text name then Some i else type_from (i + 1) name rest

-- the number of the first method of this name, counted from here on
abbrev pub method_from : ℕ → List ℕ → List MethodTree → Option ℕ
method_from i name [] = None
method_from i name (first ∷ rest) = if bytes_eq first.name.text name then Some i else method_from (i + 1) name rest

-- a method of a type, by its number
abbrev pub method_there : TypeTree → ℕ → Option MethodTree → Option Target
method_there of_type number None = None
method_there of_type number (Some method) = Some (record { of_type = of_type; number = number; method = method })

-- a type's method by its number, where both are there
abbrev pub numbered : Option TypeTree → ℕ → Option Target
numbered None number = None
numbered (Some of_type) number = method_there of_type number (slice_get of_type.methods number)

-- a method of a type, by its name, the first declared first
abbrev pub numbered_by : TypeTree → Option ℕ → Option Target
numbered_by of_type None = None
numbered_by of_type (Some number) = numbered (Some of_type) number

-- a type's method by its name, where both are there
abbrev pub method_target : Option TypeTree → List ℕ → Option Target
method_target None name = None
method_target (Some of_type) name = numbered_by of_type (method_from 0 name of_type.methods)

-- a call of a method that is there: its option is looked up
abbrev pub to_target : Runner → Site → GrainId → Option Target → List Value → Back → Caught → Holding → Requests
to_target runner site grain None args back caught has = stop unknown has
to_target runner site grain (Some target) args back caught has =
    enters runner (entered target.method.option site.context) (site.depth + 1) grain target args back caught has

-- a call on a grain of the type of this number
abbrev pub to_type : ProgramTree → Runner → Site → Option ℕ → ℕ → List ℕ → List Value → Back → Caught → Holding → Requests
to_type types runner site None at name args back caught has = stop unknown has
to_type types runner site (Some number) at name args back caught has =
    to_target runner site (record { kind = number; key = at }) (method_target (slice_get types number) name) args back caught has

-- what follows a place: a number from 0 on that fits 32 bits
abbrev pub in_range : ℤ → Holding → (ℕ → Requests) → Requests
in_range (negsuc n) has go = stop key has
in_range (pos n) has go = if nat_lt n (2 ^ 32) then go n else stop key has

-- what goes on with the key that a value is; a text is no key
abbrev pub with_key : Value → Holding → (ℕ → Requests) → Requests
with_key (Int place) has go = in_range place has go
with_key (Text place) has go = stop kind has
