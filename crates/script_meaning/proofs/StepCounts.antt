-- What follows a statement is looked at only with as many steps left as there are, so a loop with more turns than
-- steps is the same with yet more.
use Rattle.std.proofs.Common.{◌≡◌, ℕ, zero, suc, ◌+◌, ◌≤◌, ◌<◌, List, [], ◌∷◌, ◌++◌, length, pos, negsuc, Option, Some, None, Result, Ok, Err, refl, ap, arith}
use Rattle.std.specs.Prelude.{◌^◌, if◌then◌else◌, nat_lt, slice_get}
use Rattle.base_types.specs.declared.calls.GrainId.{GrainId}
use Rattle.base_types.specs.declared.calls.Mode.{Mode}
use Rattle.base_types.specs.declared.calls.Mode.TheVariants.{Read, Update}
use Rattle.base_types.specs.declared.calls.Outcome.{Outcome}
use Rattle.base_types.specs.declared.calls.Outcome.TheVariants.{Value as Valued, Fault, Aborted}
use Rattle.base_types.specs.declared.calls.Value.{Value}
use Rattle.base_types.specs.declared.calls.Value.TheVariants.{Int, Text}
use Rattle.script_tree.specs.declared.options.Entered.{Entered}
use Rattle.script_tree.specs.declared.options.Entered.TheVariants.{Joined, NewUnit, Plain, Refused}
use Rattle.script_tree.specs.declared.options.MethodKind.{MethodKind}
use Rattle.script_tree.specs.declared.options.MethodKind.TheVariants as does_what
use Rattle.script_tree.specs.declared.programs.FieldDecl.{FieldDecl}
use Rattle.script_tree.specs.Options.{entered}
use Rattle.script_tree.specs.Exprs.{ExprTree, CallTree}
use Rattle.script_tree.specs.Stmts.{SourceTree, Computed, Called, StmtTree, BlockTree, ElseTree, Bind, Rebind, SetField, Perform, Choose, Repeat, Give, FailWith, Try, NoMore, Then, NoElse, Else}
use Rattle.script_tree.specs.Programs.{MethodTree, ProgramTree}
use Rattle.script_values.specs.Expressions.{Locals, put_local, field_named, values_in}
use Rattle.script_values.specs.Faults.{key, units, grains}
use Rattle.script_values.specs.Values.{ValueOrFault}
use Rattle.script_holding.specs.Limits.{unit_limit, grain_limit}
use Rattle.script_holding.specs.Holding.{Holding, mode_at, change, raised, newly_held, with_held, with_left, one_asked}
use Rattle.script_meaning.specs.Requests.{Requests, AskLock, AskRaise, AskUnit, Back, Caught, stop, with_value, with_values}
use Rattle.script_meaning.specs.Calls.{Site, Runner, Target, settable, answered, locked, joined, enters, to_target, to_type, method_target, type_from, with_key}
use Rattle.script_meaning.specs.Statements.{Next, takes_step, with_step, by_truth, around, given, calls, sourced, sets, turns, loops, does, runs, runs_else, deep}

-- two continuations are the same with at most this many steps left: after a statement, a value, a fault
abbrev pub Agree : ℕ → Next → Next → Type 0
Agree most one other = (locals : Locals) (has : Holding) → has.left ≤ most → one locals has ≡ other locals has

abbrev pub AgreeBack : ℕ → Back → Back → Type 0
AgreeBack most one other = (value : Value) (has : Holding) → has.left ≤ most → one value has ≡ other value has

abbrev pub AgreeCaught : ℕ → Caught → Caught → Type 0
AgreeCaught most one other = (fault : List ℕ) (has : Holding) → has.left ≤ most → one fault has ≡ other fault has

abbrev pub AgreeGo : ℕ → (Holding → Requests) → (Holding → Requests) → Type 0
AgreeGo most one other = (has : Holding) → has.left ≤ most → one has ≡ other has

-- what runs deeper frames looks at what follows only with as many steps left as there are
abbrev pub IsSteady : Runner → Type 0
IsSteady None = Unit {0}
IsSteady (Some run) =
    (most : ℕ) (site : Site) (method : MethodTree) (locals : Locals) (one other : Back) → AgreeBack most one other →
    AgreeGo most (run site method locals one) (run site method locals other)

-- what a block does, or a part of it, looks at what follows in this way
abbrev pub IsSteadyBody : (Next → Next) → Type 0
IsSteadyBody body = (most : ℕ) (one other : Next) → Agree most one other → Agree most (body one) (body other)

-- a step leaves fewer steps
with_step_agrees : (left most : ℕ) (one other : Next) (locals : Locals) (has : Holding) → left ≤ most →
    Agree most one other →
    with_step left one locals has ≡ with_step left other locals has
with_step_agrees zero most one other locals has le agree = refl
with_step_agrees (suc left) most one other locals has le agree = agree locals (with_left left has) (omega (arith, le))

-- a step looks no further
step_agrees : (most : ℕ) (one other : Next) → Agree most one other → Agree most (takes_step one) (takes_step other)
step_agrees most one other agree locals has le = with_step_agrees has.left most one other locals has le agree

-- what follows values, keys and conditions
with_value_agrees : (found : ValueOrFault) (has : Holding) (one other : Value → Requests) →
    ((value : Value) → one value ≡ other value) →
    with_value found has one ≡ with_value found has other
with_value_agrees (Err fault) has one other agree = refl
with_value_agrees (Ok value) has one other agree = agree value

with_values_agrees : (found : Result (List Value) (List ℕ)) (has : Holding) (one other : List Value → Requests) →
    ((values : List Value) → one values ≡ other values) → with_values found has one ≡ with_values found has other
with_values_agrees (Err fault) has one other agree = refl
with_values_agrees (Ok values) has one other agree = agree values

with_key_agrees : (place : Value) (has : Holding) (one other : ℕ → Requests) → ((at : ℕ) → one at ≡ other at) →
    with_key place has one ≡ with_key place has other
with_key_agrees (Int (negsuc n)) has one other agree = refl
with_key_agrees (Int (pos n)) has one other agree =
    ap (λ (run : Requests). if nat_lt n (2 ^ 32) then run else stop key has) (agree n)
with_key_agrees (Text place) has one other agree = refl

chosen_agrees : (value : Value) (has : Holding) (first first' second second' : Requests) → first ≡ first' →
    second ≡ second' →
    by_truth value has first second ≡ by_truth value has first' second'
chosen_agrees value has first first' second second' e f = λ i. by_truth value has (e i) (f i)

-- what follows a child, a lock and a called method
answered_agrees : (most : ℕ) (outcome : Outcome) (one other : Back) (caught caught' : Caught) →
    AgreeBack most one other →
    AgreeCaught most caught caught' → AgreeGo most (answered outcome one caught) (answered outcome other caught')
answered_agrees most (Valued value) one other caught caught' agree agree_caught has le = agree value has le
answered_agrees most (Fault text) one other caught caught' agree agree_caught has le = agree_caught text has le
answered_agrees most Aborted one other caught caught' agree agree_caught has le = agree_caught _ has le

-- what follows a lock
locked_agrees : (most : ℕ) (held : Option Mode) (mode : Mode) (grain : GrainId) (fields : List FieldDecl)
    (one other : Holding → Requests) →
    AgreeGo most one other → AgreeGo most (locked held mode grain fields one) (locked held mode grain fields other)
locked_agrees most None mode grain fields one other agree has le =
    ap (λ (run : Requests). if nat_lt (length has.held) grain_limit then run else stop grains has)
    (λ i. AskLock grain mode (λ found.
    agree (with_held has (has.held ++ (newly_held grain mode fields found ∷ []))) le i))
locked_agrees most (Some Update) mode grain fields one other agree has le = agree has le
locked_agrees most (Some Read) Read grain fields one other agree has le = agree has le
locked_agrees most (Some Read) Update grain fields one other agree has le =
    ap (AskRaise grain) (agree (with_held has (change grain raised has.held)) le)

-- what follows the lock of a frame that joins
joined_agrees : (most : ℕ) (kind : MethodKind) (grain : GrainId) (fields : List FieldDecl)
    (one other : Holding → Requests) →
    AgreeGo most one other → AgreeGo most (joined kind grain fields one) (joined kind grain fields other)
joined_agrees most does_what.Plain grain fields one other agree has le = agree has le
joined_agrees most does_what.Read grain fields one other agree has le =
    locked_agrees most (mode_at grain has.held) Read grain fields one other agree has le
joined_agrees most does_what.Update grain fields one other agree has le =
    locked_agrees most (mode_at grain has.held) Update grain fields one other agree has le

-- what follows a called method
enters_agrees : (most : ℕ) (runner : Runner) → IsSteady runner →
    (way : Entered) (at : ℕ) (grain : GrainId) (target : Target) (args : List Value)
    (one other : Back) (caught caught' : Caught) → AgreeBack most one other → AgreeCaught most caught caught' →
    AgreeGo most (enters runner way at grain target args one caught)
    (enters runner way at grain target args other caught')
enters_agrees most runner steady
    (Refused why) at grain target args one other caught caught' agree agree_caught has le = refl
enters_agrees most None steady NewUnit at grain target args one other caught caught' agree agree_caught has le = refl
enters_agrees most None steady Joined at grain target args one other caught caught' agree agree_caught has le = refl
enters_agrees most None steady (Plain context) at grain target args one other caught caught' agree agree_caught has le
    = refl
enters_agrees most (Some run) steady NewUnit at grain target args one other caught caught' agree agree_caught has le =
    ap (λ (run : Requests). if nat_lt has.asked unit_limit then run else stop units has)
    (λ i. AskUnit (record { grain = grain; method = target.number; args = args }) at
    (λ outcome. answered_agrees most outcome one other caught caught' agree agree_caught (one_asked has) le i))
enters_agrees most (Some run) steady Joined at grain target args one other caught caught' agree agree_caught has le =
    joined_agrees most target.method.kind grain target.of_type.fields _ _
    (steady most _ target.method _ one other agree) has le
enters_agrees most (Some run) steady
    (Plain context) at grain target args one other caught caught' agree agree_caught has le =
    steady most _ target.method _ one other agree has le

-- what follows a call of a method that is looked up
to_target_agrees : (most : ℕ) (runner : Runner) → IsSteady runner →
    (site : Site) (grain : GrainId) (target : Option Target) (args : List Value)
    (one other : Back) (caught caught' : Caught) → AgreeBack most one other → AgreeCaught most caught caught' →
    AgreeGo most (to_target runner site grain target args one caught)
    (to_target runner site grain target args other caught')
to_target_agrees most runner steady site grain None args one other caught caught' agree agree_caught has le = refl
to_target_agrees most runner steady site grain (Some target) args one other caught caught' agree agree_caught has le =
    enters_agrees most runner steady (entered target.method.option site.context)
    (site.depth + 1) grain target args one other caught caught' agree agree_caught has le

-- what follows a call on a grain of a type
to_type_agrees : (most : ℕ) (types : ProgramTree) (runner : Runner) → IsSteady runner →
    (site : Site) (number : Option ℕ) (at : ℕ) (name : List ℕ)
    (args : List Value) (one other : Back) (caught caught' : Caught) → AgreeBack most one other →
    AgreeCaught most caught caught' →
    AgreeGo most (to_type types runner site number at name args one caught)
    (to_type types runner site number at name args other caught')
to_type_agrees most types runner steady site None at name args one other caught caught' agree agree_caught has le = refl
to_type_agrees most types runner steady site
    (Some number) at name args one other caught caught' agree agree_caught has le =
    to_target_agrees most runner steady site _
    (method_target (slice_get types number) name) args one other caught caught' agree agree_caught has le

module _ (types : ProgramTree) (runner : Runner) (steady : IsSteady runner) (site : Site) (back back' : Back) where
  -- what follows a call
  calls_agree : (most : ℕ) (call : CallTree) (one other : Back) (caught caught' : Caught) → AgreeBack most one other →
      AgreeCaught most caught caught' →
      Agree most (calls types runner site back call one caught) (calls types runner site back' call other caught')
  calls_agree most call one other caught caught' agree agree_caught locals has le =
      with_value_agrees (given types runner site back call.place locals has) has _ _ (λ place.
      with_values_agrees (values_in (around types runner site back locals has) call.args) has _ _ (λ args.
      with_key_agrees place has _ _ (λ at.
      to_type_agrees most types runner steady site
      (type_from 0 call.target.text types) at call.method.text args one other caught caught' agree agree_caught has
      le)))

  -- what follows what a local is given
  sourced_agrees : (most : ℕ) (source : SourceTree) (one other : Value → Next) →
      ((value : Value) → Agree most (one value) (other value)) →
      Agree most (sourced types runner site back source one) (sourced types runner site back' source other)
  sourced_agrees most (Computed expression) one other agree locals has le =
      with_value_agrees (given types runner site back expression locals has) has _ _
      (λ value. agree value locals has le)
  sourced_agrees most (Called call) one other agree locals has le =
      calls_agree most call (λ value. one value locals) (λ value. other value locals) stop stop
      (λ value has le. agree value locals has le) (λ fault has le. refl) locals has le

  -- what follows a field that is set
  sets_agree : (most : ℕ) (number : Option ℕ) (value : Value) (one other : Next) → Agree most one other →
      Agree most (sets types runner site back number value one) (sets types runner site back' number value other)
  sets_agree most None value one other agree locals has le = refl
  sets_agree most (Some number) value one other agree locals has le = agree locals _ le

  -- what follows turns of a loop
  turns_agree : (most count : ℕ) (test : ExprTree) (body body' : Next → Next) →
      ((one other : Next) → Agree most one other → Agree most (body one) (body' other)) → (one other : Next) →
      Agree most one other →
      Agree most (turns types runner site back count test body one)
      (turns types runner site back' count test body' other)
  turns_agree most zero test body body' bodies one other agree = λ locals has le. refl
  turns_agree most (suc count) test body body' bodies one other agree =
      step_agrees most _ _ (λ locals has le.
      with_value_agrees (given types runner site back test locals has) has _ _ (λ value.
      chosen_agrees value has _ _ _ _
      (bodies _ _ (turns_agree most count test body body' bodies one other agree) locals has le)
      (agree locals has le)))

  -- what follows a loop
  loops_agree : (most : ℕ) (test : ExprTree) (body body' : Next → Next) →
      ((one other : Next) → Agree most one other → Agree most (body one) (body' other)) → (one other : Next) →
      Agree most one other →
      Agree most (loops types runner site back test body one) (loops types runner site back' test body' other)
  loops_agree most test body body' bodies one other agree locals has le =
      turns_agree most (suc has.left) test body body' bodies one other agree locals has le

  mutual
    -- a statement, a block and the second block of an `if` look at what follows in this way
    pub does_agree : (most : ℕ) → AgreeBack most back back' → (stmt : StmtTree) (one other : Next) →
        Agree most one other →
        Agree most (does types runner site back stmt one) (does types runner site back' stmt other)
    does_agree most backs (Bind name value) one other agree =
        sourced_agrees most value _ _ (λ found locals has le. agree _ has le)
    does_agree most backs (Rebind name value) one other agree =
        sourced_agrees most value _ _ (λ found locals has le. agree _ has le)
    does_agree most backs (SetField name value) one other agree = λ locals has le.
        with_value_agrees (given types runner site back value locals has) has _ _ (λ found.
        sets_agree most (field_named name.text (settable site.kind site.fields)) found one other agree locals has le)
    does_agree most backs (Perform call) one other agree = λ locals has le.
        calls_agree most call (λ value. one locals) (λ value. other locals) stop stop
        (λ value has le. agree locals has le) (λ fault has le. refl) locals has le
    does_agree most backs (Choose test block otherwise) one other agree = λ locals has le.
        with_value_agrees (given types runner site back test locals has) has _ _ (λ value.
        chosen_agrees value has _ _ _ _ (runs_agree most backs block one other agree locals has le)
        (runs_else_agree most backs otherwise one other agree locals has le))
    does_agree most backs (Repeat test block) one other agree =
        loops_agree most test _ _ (λ one other agree. runs_agree most backs block one other agree) one other agree
    does_agree most backs (Give value) one other agree = λ locals has le.
        with_value_agrees (given types runner site back value locals has) has _ _ (λ found. backs found has le)
    does_agree most backs (FailWith text) one other agree = λ locals has le. refl
    does_agree most backs (Try at name call block otherwise) one other agree = λ locals has le.
        calls_agree most call _ _ _ _ (λ value.
        runs_agree most backs block one other agree (put_local name.text value locals))
        (λ fault. runs_agree most backs otherwise one other agree (put_local name.text (Text fault) locals)) locals has le

    pub runs_agree : (most : ℕ) → AgreeBack most back back' → (block : BlockTree) (one other : Next) →
        Agree most one other →
        Agree most (runs types runner site back block one) (runs types runner site back' block other)
    runs_agree most backs NoMore one other agree = agree
    runs_agree most backs (Then first rest) one other agree =
        step_agrees most _ _ (does_agree most backs first _ _ (runs_agree most backs rest one other agree))

    pub runs_else_agree : (most : ℕ) → AgreeBack most back back' → (block : ElseTree) (one other : Next) →
        Agree most one other →
        Agree most (runs_else types runner site back block one) (runs_else types runner site back' block other)
    runs_else_agree most backs NoElse one other agree = agree
    runs_else_agree most backs (Else block) one other agree = runs_agree most backs block one other agree

-- so does what runs frames that are at most so deep
pub deep_is_steady : (types : ProgramTree) (n : ℕ) → IsSteady (deep types n)
deep_is_steady types zero = tt
deep_is_steady types (suc n) = λ most site method locals one other agree has le.
    runs_agree types (deep types n) (deep_is_steady types n) site one other most agree method.body _ _
    (λ locals has le. agree _ has le) locals has le

module _ (types : ProgramTree) (runner : Runner) (site : Site) (back : Back) (test : ExprTree) (body : Next → Next)
    (steady : IsSteadyBody body) (next : Next) where
  -- one turn of a loop after its step: the test, then the body and what is done again, or what follows
  abbrev pub turn : Next → Next
  turn again locals has = with_value (given types runner site back test locals has) has
      (λ value. by_truth value has (body again locals has) (next locals has))

  -- one turn after its step looks at what is done again with fewer steps only
  turn_agrees : (left : ℕ) (one other : Next) → ((less : ℕ) → left ≡ suc less → Agree less one other) →
      (locals : Locals) (has : Holding) →
      with_step left (turn one) locals has ≡ with_step left (turn other) locals has
  turn_agrees zero one other agree locals has = refl
  turn_agrees (suc left) one other agree locals has =
      let after : Holding = with_left left has in
      let le : after.left ≤ left = omega arith in
      with_value_agrees (given types runner site back test locals after) after _ _ (λ value.
      chosen_agrees value after _ _ _ _ (steady left one other (agree left refl) locals after le) refl)

  -- two counts of turns that are both more than the steps left are the same
  pub turns_enough : (count more : ℕ) (locals : Locals) (has : Holding) → has.left < count → has.left < more →
      turns types runner site back count test body next locals has
      ≡ turns types runner site back more test body next locals has
  turns_enough zero more locals has below below' = absurd (omega (arith, below))
  turns_enough (suc count) zero locals has below below' = absurd (omega (arith, below'))
  turns_enough (suc count) (suc more) locals has below below' =
      turn_agrees has.left _ _ (λ less e locals' has' le.
      turns_enough count more locals' has' (omega (arith, below, e, le)) (omega (arith, below', e, le))) locals has

  -- a loop is a step, then a turn with the loop itself as what is done again
  pub loops_once : (locals : Locals) (has : Holding) →
      loops types runner site back test body next locals has
      ≡ takes_step (turn (loops types runner site back test body next)) locals has
  loops_once locals has =
      turn_agrees has.left _ _ (λ less e locals' has' le.
      turns_enough has.left (suc has'.left) locals' has' (omega (arith, e, le)) (omega arith)) locals has

-- what a block does is the body of such a loop
runs_is_steady : (types : ProgramTree) (runner : Runner) → IsSteady runner →
    (site : Site) (back : Back) (block : BlockTree) →
    IsSteadyBody (runs types runner site back block)
runs_is_steady types runner steady site back block most one other agree =
    runs_agree types runner steady site back back most (λ value has le. refl) block one other agree

-- A `while` in a frame that is at most so deep: a step, then the test, then the block and the same `while` again,
-- or what follows.
pub while_once : (types : ProgramTree) (n : ℕ) (site : Site) (back : Back) (test : ExprTree) (block : BlockTree)
    (next : Next) (locals : Locals) (has : Holding) →
    does types (deep types n) site back (Repeat test block) next locals has
    ≡ takes_step (λ locals has. with_value (given types (deep types n) site back test locals has) has (λ value.
    by_truth value has (runs types (deep types n) site back block
    (does types (deep types n) site back (Repeat test block) next) locals has) (next locals has))) locals has
while_once types n site back test block next locals has =
    loops_once types (deep types n) site back test (runs types (deep types n) site back block)
    (runs_is_steady types (deep types n) (deep_is_steady types n) site back block) next locals has
