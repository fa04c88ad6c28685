-- What statements do, and what follows them.
use Rattle.std.specs.Prelude.{ℕ, zero, suc, if◌then◌else◌, pos, Option, Some, None}
use Rattle.base_types.specs.declared.calls.Value.{Value}
use Rattle.base_types.specs.declared.calls.Value.TheVariants.{Int, Text}
use Rattle.script_tree.specs.Exprs.{ExprTree, CallTree}
use Rattle.script_tree.specs.Stmts.{SourceTree, Computed, Called, StmtTree, BlockTree, ElseTree, Bind, Rebind, SetField, Perform, Choose, Repeat, Give, FailWith, Try, NoMore, Then, NoElse, Else}
use Rattle.script_tree.specs.Programs.{ProgramTree}
use Rattle.script_check.specs.Shapes.{fitted}
use Rattle.script_values.specs.Faults.{kind, budget, unknown}
use Rattle.script_values.specs.Values.{ValueOrFault, is_true}
use Rattle.script_values.specs.Expressions.{Locals, Surroundings, put_local, field_named, value_in, values_in}
use Rattle.script_holding.specs.Holding.{Holding, state_at, change, with_field, with_held, with_left}
use Rattle.script_meaning.specs.Requests.{Requests, Back, Caught, stop, with_value, with_values}
use Rattle.script_meaning.specs.Calls.{Site, Runner, readable, settable, type_from, to_type, with_key}

-- what follows a statement: the locals, and what the unit has
abbrev pub Next : Type 0
Next = Locals → Holding → Requests

-- one step is taken, where one is left
abbrev pub with_step : ℕ → Next → Next
with_step zero next locals has = stop budget has
with_step (suc left) next locals has = next locals (with_left left has)

-- what follows takes a step more
abbrev pub takes_step : Next → Next
takes_step next locals has = with_step has.left next locals has

-- what a condition chooses: a number other than 0 is true, and a text is no condition
abbrev pub by_truth : Value → Holding → Requests → Requests → Requests
by_truth (Int number) has first second = if is_true number then first else second
by_truth (Text text) has first second = stop kind has

module _ (types : ProgramTree) (runner : Runner) (site : Site) (back : Back) where
  -- what an expression is evaluated in
  abbrev pub around : Locals → Holding → Surroundings
  around locals has = record { fields = readable site.kind site.fields; key = site.grain.key; state = state_at site.grain has.held; locals = locals }

  -- what an expression gives there: a value, or its fault
  abbrev pub given : ExprTree → Locals → Holding → ValueOrFault
  given expression locals has = value_in (around locals has) expression

  -- a call: its place and its arguments are evaluated, then the place is tested
  abbrev pub calls : CallTree → Back → Caught → Next
  calls call onto caught locals has =
      with_value (given call.place locals has) has (λ place.
      with_values (values_in (around locals has) call.args) has (λ args.
      with_key place has (λ key.
      to_type types runner site (type_from 0 call.target.text types) key call.method.text args onto caught has)))

  -- what a local is given
  abbrev pub sourced : SourceTree → (Value → Next) → Next
  sourced (Computed expression) onto locals has = with_value (given expression locals has) has (λ value. onto value locals has)
  sourced (Called call) onto locals has = calls call (λ value. onto value locals) stop locals has

  -- a field of the frame's grain is set
  abbrev pub sets : Option ℕ → Value → Next → Next
  sets None value next locals has = stop unknown has
  sets (Some i) value next locals has = next locals (with_held has (change site.grain (with_field i value) has.held))

  -- at most so many turns of a loop: each begins with a step and the test
  abbrev pub turns : ℕ → ExprTree → (Next → Next) → Next → Next
  turns zero test body next = λ locals has. stop budget has
  turns (suc n) test body next =
      takes_step (λ locals has. with_value (given test locals has) has (λ value. by_truth value has (body (turns n test body next) locals has) (next locals has)))

  -- a loop: each turn takes a step, so one turn more than there are steps left is enough
  abbrev pub loops : ExprTree → (Next → Next) → Next → Next
  loops test body next locals has = turns (suc has.left) test body next locals has

  abbrev mutual
    -- what a statement does once its step is taken, and then what follows it
    pub does : StmtTree → Next → Next
    does (Bind name value) next = sourced value (λ found locals. next (put_local name.text found locals))
    does (Rebind name value) next = sourced value (λ found locals. next (put_local name.text found locals))
    does (SetField name value) next = λ locals has. with_value (given value locals has) has (λ found. sets (field_named name.text (settable site.kind site.fields)) found next locals has)
    does (Perform call) next = λ locals has. calls call (λ value. next locals) stop locals has
    does (Choose test block other) next = λ locals has. with_value (given test locals has) has (λ value. by_truth value has (runs block next locals has) (runs_else other next locals has))
    does (Repeat test block) next = loops test (runs block) next
    does (Give value) next = λ locals has. with_value (given value locals has) has (λ found. back found has)
    does (FailWith text) next = λ locals has. stop (fitted text) has
    does (Try at name call block other) next =
        λ locals has. calls call (λ value. runs block next (put_local name.text value locals)) (λ fault. runs other next (put_local name.text (Text fault) locals)) locals has

    -- what a block does: each statement takes a step
    pub runs : BlockTree → Next → Next
    runs NoMore next = next
    runs (Then first rest) next = takes_step (does first (runs rest next))

    -- what the second block of an `if` does, where it is there
    pub runs_else : ElseTree → Next → Next
    runs_else NoElse next = next
    runs_else (Else block) next = runs block next

-- a method's body in a frame of its own, where so many frames may be open from this one on; without a
-- `return` it gives 0
abbrev pub deep : ProgramTree → ℕ → Runner
deep types zero = None
deep types (suc n) = Some (λ site method locals back. runs types (deep types n) site back method.body (λ after has. back (Int (pos 0)) has) locals)
