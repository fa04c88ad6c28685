-- Steps that are taken, the frames that may be open, and calls that are reached.
use Rattle.std.proofs.Common.{◌≡◌, ◌-◌, ◌<◌, ◌≤◌, ℕ, zero, suc, Bool, true, false, List, Some, None, Result, Ok, refl, ap, sym, ◌∙◌, pos, arith}
use Rattle.std.specs.Prelude.{nat_lt, slice_get}
use Rattle.std.proofs.lemmas.Bool.Decides.{nat_tests}
use Rattle.base_types.specs.declared.calls.Call.{Call}
use Rattle.base_types.specs.declared.calls.GrainId.{GrainId}
use Rattle.base_types.specs.declared.calls.Value.{Value}
use Rattle.base_types.specs.declared.calls.Value.TheVariants.{Int}
use Rattle.script_tree.specs.declared.options.Entered.{Entered}
use Rattle.script_tree.specs.declared.options.Entered.TheVariants.{Joined, NewUnit, Plain, Refused}
use Rattle.script_tree.specs.declared.options.EntryRefusal.{EntryRefusal}
use Rattle.script_tree.specs.declared.options.MethodKind.TheVariants as kinds
use Rattle.script_tree.specs.Options.{entered}
use Rattle.script_tree.specs.Exprs.{ExprTree, CallTree}
use Rattle.script_tree.specs.Stmts.{BlockTree, Repeat}
use Rattle.script_tree.specs.Programs.{ProgramTree}
use Rattle.script_values.specs.Expressions.{Locals, value_in, values_in}
use Rattle.script_values.specs.Faults.{budget, depth, unknown}
use Rattle.script_values.specs.Values.{ValueOrFault}
use Rattle.script_holding.specs.Holding.{Holding, with_left}
use Rattle.script_meaning.specs.Requests.{Requests, Back, Caught, stop, with_value, with_values}
use Rattle.script_meaning.specs.Calls.{Site, Runner, Target, bound, joined, enters, numbered, to_type, type_from, with_key}
use Rattle.script_meaning.specs.Statements.{Next, with_step, takes_step, given, around, calls, by_truth, does, runs, deep}
use Rattle.script_meaning.specs.Play.{at_start, as_first, ends_unit, first_frame, unit}
use Rattle.script_player.specs.PlayState.{types_in, surrounds, plays_method, heard}
use Rattle.script_player.specs.declared.frames.World.{World}
use Rattle.script_player.specs.declared.player.Progress.{Progress}
use Rattle.script_meaning.proofs.StepCounts.{while_once}

taken_by : (left : ℕ) (next : Next) (locals : Locals) (has : Holding) → true ≡ nat_lt 0 left → next locals (with_left (left - 1) has) ≡ with_step left next locals has
taken_by zero next locals has some = absurd (cc)
taken_by (suc left) next locals has some =
    let one : suc left - 1 ≡ left = omega arith in
    ap (λ n. next locals (with_left n has)) one

-- a step is taken where one is left
step_taken : (next : Next) (locals : Locals) (has after : Holding) → true ≡ nat_lt 0 has.left → after ≡ with_left (has.left - 1) has →
    next locals after ≡ takes_step next locals has
step_taken next locals has after some is = ap (next locals) is ∙ taken_by has.left next locals has some

refused_by : (left : ℕ) (next : Next) (locals : Locals) (has : Holding) → false ≡ nat_lt 0 left → with_step left next locals has ≡ stop budget has
refused_by zero next locals has none = refl
refused_by (suc left) next locals has none = absurd (grind (arith, nat_tests))

-- and none is taken past the last
pub step_refused : (next : Next) (locals : Locals) (has after : Holding) → false ≡ nat_lt 0 has.left → after ≡ with_left (has.left - 1) has →
    takes_step next locals has ≡ stop budget after
step_refused next locals has after none is =
    let rest : has.left - 1 ≡ has.left = grind (arith, nat_tests) in
    refused_by has.left next locals has none ∙ ap (λ (h : Holding). stop budget h) (sym (is ∙ ap (λ n. with_left n has) rest))

-- a frame at this depth may be open
room_at : (types : ProgramTree) (depth : ℕ) → depth ≤ 32 →
    deep types (33 - depth) ≡ Some (λ site method locals back. runs types (deep types (32 - depth)) site back method.body (λ after has. back (Int (pos 0)) has) locals)
room_at types depth within =
    let more : 33 - depth ≡ suc (32 - depth) = omega (arith, within) in
    ap (deep types) more

-- and none below the deepest
no_room_at : (types : ProgramTree) (depth : ℕ) → 32 < depth → deep types (33 - depth) ≡ None
no_room_at types depth past =
    let none : 33 - depth ≡ zero = omega (arith, past) in
    ap (deep types) none

-- a call is reached when its place and its arguments are evaluated and the place is a key
pub call_reached : (world : World) (progress : Progress) (types : ProgramTree) (runner : Runner) (site : Site) (back : Back) (call : CallTree) (onto : Back) (caught : Caught)
    (locals : Locals) (has : Holding) (place : Value) (args : List Value) (key : ℕ) →
    given types runner site back call.place locals has ≡ Ok place →
    values_in (around types runner site back locals has) call.args ≡ Ok args →
    ((go : ℕ → Requests) → heard world progress (go key) ≡ heard world progress (with_key place has go)) →
    heard world progress (to_type types runner site (type_from 0 call.target.text types) key call.method.text args onto caught has)
    ≡ heard world progress (calls types runner site back call onto caught locals has)
call_reached world progress types runner site back call onto caught locals has place args key place_is args_is key_is =
    let reach = λ (args : List Value) (key : ℕ). to_type types runner site (type_from 0 call.target.text types) key call.method.text args onto caught has in
    let values = values_in (around types runner site back locals has) call.args in
    key_is (reach args)
    ∙ ap (λ (g : Result (List Value) (List ℕ)). heard world progress (with_values g has (λ args. with_key place has (reach args)))) (sym args_is)
    ∙ ap (λ (g : ValueOrFault). heard world progress (with_value g has (λ place. with_values values has (λ args. with_key place has (reach args))))) (sym place_is)

-- what runs in a frame outside the transaction, and in one that joins
pub enters_plain : (world : World) (depth : ℕ) (way : Entered) (context : Bool) (grain : GrainId) (target : Target) (args : List Value) (onto : Back) (caught : Caught) (has : Holding) →
    depth ≤ 32 → way ≡ Plain context →
    plays_method world (record { fields = target.of_type.fields; kind = kinds.Plain; grain = grain; context = context; depth = depth }) target.method (bound target.method.params args) onto has
    ≡ enters (deep (types_in world) (33 - depth)) way depth grain target args onto caught has
enters_plain world depth way context grain target args onto caught has within is =
    ap (λ (r : Runner). enters r (Plain context) depth grain target args onto caught has) (sym (room_at (types_in world) depth within))
    ∙ ap (λ (w : Entered). enters (deep (types_in world) (33 - depth)) w depth grain target args onto caught has) (sym is)

pub enters_joined : (world : World) (depth : ℕ) (way : Entered) (grain : GrainId) (target : Target) (args : List Value) (onto : Back) (caught : Caught) (has : Holding) →
    depth ≤ 32 → way ≡ Joined →
    joined target.method.kind grain target.of_type.fields (plays_method world (record { fields = target.of_type.fields; kind = target.method.kind; grain = grain; context = true; depth = depth }) target.method (bound target.method.params args) onto) has
    ≡ enters (deep (types_in world) (33 - depth)) way depth grain target args onto caught has
enters_joined world depth way grain target args onto caught has within is =
    ap (λ (r : Runner). enters r Joined depth grain target args onto caught has) (sym (room_at (types_in world) depth within))
    ∙ ap (λ (w : Entered). enters (deep (types_in world) (33 - depth)) w depth grain target args onto caught has) (sym is)

-- no frame opens below the deepest, unless the option refuses the call anyway
pub past_deepest : (world : World) (at : ℕ) (way : Entered) (grain : GrainId) (target : Target) (args : List Value) (onto : Back) (caught : Caught) (has : Holding) →
    32 < at → ((why : EntryRefusal) → way ≡ Refused why → ⊥) →
    enters (deep (types_in world) (33 - at)) way at grain target args onto caught has ≡ stop depth has
past_deepest world at (Refused why) grain target args onto caught has past allowed = absurd (allowed why refl)
past_deepest world at NewUnit grain target args onto caught has past allowed =
    ap (λ (r : Runner). enters r NewUnit at grain target args onto caught has) (no_room_at (types_in world) at past)
past_deepest world at Joined grain target args onto caught has past allowed =
    ap (λ (r : Runner). enters r Joined at grain target args onto caught has) (no_room_at (types_in world) at past)
past_deepest world at (Plain context) grain target args onto caught has past allowed =
    ap (λ (r : Runner). enters r (Plain context) at grain target args onto caught has) (no_room_at (types_in world) at past)

-- a turn of a loop, once its step is taken: what its test leads to is what the loop leads to
pub turn_reached : (world : World) (progress : Progress) (n : ℕ) (site : Site) (back : Back) (test : ExprTree) (block : BlockTree) (next : Next)
    (locals found : Locals) (has after : Holding) → found ≡ locals → true ≡ nat_lt 0 has.left → after ≡ with_left (has.left - 1) has →
    let types = types_in world in
    heard world progress (with_value (value_in (surrounds site found after) test) after (λ value. by_truth value after
    (runs types (deep types n) site back block (does types (deep types n) site back (Repeat test block) next) locals after) (next locals after)))
    ≡ heard world progress (does types (deep types n) site back (Repeat test block) next locals has)
turn_reached world progress n site back test block next locals found has after same some is =
    let types = types_in world in
    let again = does types (deep types n) site back (Repeat test block) next in
    let turn : Next = λ locals has. with_value (value_in (surrounds site locals has) test) has (λ value. by_truth value has (runs types (deep types n) site back block again locals has) (next locals has)) in
    ap (λ (l : Locals). heard world progress (with_value (value_in (surrounds site l after) test) after (λ value. by_truth value after (runs types (deep types n) site back block again locals after) (next locals after)))) same
    ∙ ap (heard world progress) (step_taken turn locals has after some is ∙ sym (while_once types n site back test block next locals has))

-- and where no step is left for it
pub turn_refused : (types : ProgramTree) (n : ℕ) (site : Site) (back : Back) (test : ExprTree) (block : BlockTree) (next : Next)
    (locals : Locals) (has after : Holding) → false ≡ nat_lt 0 has.left → after ≡ with_left (has.left - 1) has →
    does types (deep types n) site back (Repeat test block) next locals has ≡ stop budget after
turn_refused types n site back test block next locals has after none is =
    let again = does types (deep types n) site back (Repeat test block) next in
    let turn : Next = λ locals has. with_value (value_in (surrounds site locals has) test) has (λ value. by_truth value has (runs types (deep types n) site back block again locals has) (next locals has)) in
    while_once types n site back test block next locals has ∙ step_refused turn locals has after none is

-- a unit's first frame, and the fault of a call that is outside the program
pub unit_some : (types : ProgramTree) (call : Call) (at : ℕ) (target : Target) → numbered (slice_get types call.grain.kind) call.method ≡ Some target →
    unit types call at ≡ enters (deep types (33 - at)) (as_first (entered target.method.option false)) at call.grain target call.args ends_unit stop at_start
unfolding unit
unit_some types call at target there = ap (first_frame (deep types (33 - at)) at call) there

pub unit_none : (types : ProgramTree) (call : Call) (at : ℕ) → numbered (slice_get types call.grain.kind) call.method ≡ None →
    unit types call at ≡ stop unknown at_start
unfolding unit
unit_none types call at none = ap (first_frame (deep types (33 - at)) at call) none
