-- What each run of a unit keeps: it asks for what is missing and may be asked for, and it ends with a value or a fault
-- and with the grains that it locked.
use Rattle.std.proofs.Common.{◌≡◌, ◌≢◌, ℕ, zero, suc, ◌+◌, ◌-◌, ◌≤◌, ◌<◌, List, [], ◌∷◌, ◌++◌, length, map, pos, negsuc, Bool, true, false, Option, Some, None, Result, Ok, Err, refl, sym, ap, ◌∙◌, subst, arith}
use Rattle.std.specs.Prelude.{◌^◌, if◌then◌else◌, nat_lt, nat_eq, slice_get, IsTrue}
use Rattle.std.specs.List.{All}
use Rattle.std.proofs.lemmas.Bool.{ltb-true, eqb-true}
use Rattle.std.proofs.lemmas.List.{map-append, length-map, length-set}
use Rattle.std.proofs.lemmas.List.Elements.{All-nil, All-push}
use Rattle.std.proofs.lemmas.Option.{slice_get_within}
use Rattle.base_types.specs.declared.calls.Call.{Call}
use Rattle.base_types.specs.declared.calls.GrainId.{GrainId}
use Rattle.base_types.specs.declared.calls.Mode.{Mode}
use Rattle.base_types.specs.declared.calls.Mode.TheVariants.{Read, Update}
use Rattle.base_types.specs.declared.calls.Outcome.{Outcome}
use Rattle.base_types.specs.declared.calls.Outcome.TheVariants.{Value as Valued, Fault, Aborted}
use Rattle.base_types.specs.declared.calls.Value.{Value}
use Rattle.base_types.specs.declared.calls.Value.TheVariants.{Int, Text}
use Rattle.script_tree.specs.declared.options.Entered.{Entered}
use Rattle.script_tree.specs.declared.options.Entered.TheVariants.{Joined, NewUnit, Plain, Refused}
use Rattle.script_tree.specs.declared.options.MethodKind.{MethodKind}
use Rattle.script_tree.specs.declared.options.MethodKind.TheVariants as does_what
use Rattle.script_tree.specs.declared.options.TxnOption.{TxnOption}
use Rattle.script_tree.specs.declared.options.TxnOption.TheVariants as option
use Rattle.script_tree.specs.declared.programs.FieldDecl.{FieldDecl}
use Rattle.script_tree.specs.Options.{entered}
use Rattle.script_tree.specs.Exprs.{ExprTree, CallTree}
use Rattle.script_tree.specs.Stmts.{SourceTree, Computed, Called, StmtTree, BlockTree, ElseTree, Bind, Rebind, SetField, Perform, Choose, Repeat, Give, FailWith, Try, NoMore, Then, NoElse, Else}
use Rattle.script_tree.specs.Programs.{MethodTree, TypeTree, ProgramTree}
use Rattle.script_scopes.specs.Names.{Scope, Setting}
use Rattle.script_scopes.specs.Statements.{with_name, scope_after}
use Rattle.script_scopes.specs.Bodies.{IsCallInScope, IsSourceInScope, IsStatementInScope, IsBlockInScope, IsElseInScope}
use Rattle.script_check.specs.Programs.{field_names}
use Rattle.script_check.specs.AcceptedPrograms.{IsAcceptedMethod, IsAcceptedProgram}
use Rattle.script_check.specs.Shapes.{value_of}
use Rattle.script_values.specs.Expressions.{Locals, Surroundings, put_local, field_named, value_in, one_more, values_in}
use Rattle.script_values.specs.Faults.{key, units, grains, unknown}
use Rattle.script_values.specs.Values.{ValueOrFault, is_true}
use Rattle.script_holding.specs.declared.held_grain.Held.{Held}
use Rattle.script_holding.specs.Limits.{depth_limit, unit_limit, grain_limit}
use Rattle.script_holding.specs.Holding.{Holding, mode_at, change, raised, with_field, newly_held, initial_fields, with_held, with_left, one_asked}
use Rattle.script_meaning.specs.Requests.{Requests, End, AskLock, AskRaise, AskUnit, Back, Caught, stop, with_value, with_values}
use Rattle.script_meaning.specs.Calls.{Site, Runner, Target, settable, bound, answered, locked, joined, enters, to_target, to_type, numbered, method_target, type_from, with_key}
use Rattle.script_meaning.specs.Statements.{Next, takes_step, with_step, by_truth, around, given, calls, sourced, sets, turns, does, runs, runs_else, deep}
use Rattle.script_meaning.specs.Play.{IsTransaction, as_first, first_frame, ends_unit, at_start, unit}
use Rattle.script_meaning.specs.Laws.{IsChild, HasArity, HasEachField}
use Rattle.script_meaning.proofs.Lookups.{numbered_type, numbered_is, method_of_is, target_is_method, call_has_arity}
use Rattle.script_meaning.proofs.Grains.{held_in, bare, mode_at-bare, mode_at-with_field, mode_at-more, mode_at-added, mode_at-raised, mode_at-raised_other, bare-raised, bare-with_field, All-change}

-- the values of arguments are as many as the arguments
one_more_length : (first : ValueOrFault) (rest : Result (List Value) (List ℕ)) (values : List Value) (n : ℕ) →
    one_more first rest ≡ Ok values →
    ((others : List Value) → rest ≡ Ok others → length others ≡ n) → length values ≡ suc n
one_more_length (Err fault) rest values n e count = absurd (cc)
one_more_length (Ok value) (Err fault) values n e count = absurd (cc)
one_more_length (Ok value) (Ok others) values n e count = let same : values ≡ value ∷ others = cc in
    ap length same ∙ ap suc (count others refl)

pub values_in_length : (around : Surroundings) (args : List ExprTree) (values : List Value) →
    values_in around args ≡ Ok values → length values ≡ length args
values_in_length around [] values e = let same : values ≡ [] = cc in ap length same
values_in_length around (first ∷ rest) values e =
    one_more_length (value_in around first) (values_in around rest) values (length rest) e
    (λ others f. values_in_length around rest others f)

-- a grain that is locked anew has each field of its type
begun_whole : (same : Bool) (found : List Value) (fields : List FieldDecl) →
    (same ≡ true → length found ≡ length fields) →
    length (if same then found else initial_fields fields) ≡ length fields
begun_whole true found fields e = e refl
begun_whole false found fields e = length-map fields (λ (f : FieldDecl). value_of f.initial)

-- the working state of a grain that is locked anew has each field of its type
pub newly_held_whole : (types : ProgramTree) (grain : GrainId) (of_type : TypeTree) (found : List Value) →
    slice_get types grain.kind ≡ Some of_type →
    HasEachField types grain (if nat_eq (length found)
    (length of_type.fields) then found else initial_fields of_type.fields)
newly_held_whole types grain of_type found is other e =
    let same : of_type ≡ other = cc in
    begun_whole (nat_eq (length found) (length of_type.fields)) found of_type.fields
    (λ e. eqb-true (length found) (length of_type.fields) e)
    ∙ ap (λ (t : TypeTree). length t.fields) same

-- these grains are held exclusive
abbrev pub Above : List GrainId → List Held → Type 0
Above [] held = Unit {0}
Above (grain ∷ floor) held = (mode_at grain held ≡ Some Update) × Above floor held

-- grains that are held exclusive stay so where each of them does
Above-kept : (floor : List GrainId) (held after : List Held) →
    ((grain : GrainId) → mode_at grain held ≡ Some Update → mode_at grain after ≡ Some Update) →
    Above floor held → Above floor after
Above-kept [] held after keeps above = tt
Above-kept (grain ∷ floor) held after keeps above = (keeps grain above.0, Above-kept floor held after keeps above.1)

module _ (types : ProgramTree) where
  -- a held grain as it must be: set only under an exclusive lock, and with each field of its type
  pub record IsFit (one : Held) : Type 0 where
    pub locked : IsTrue one.written → one.mode ≡ Update
    pub whole : HasEachField types one.grain one.state

  -- an end of a run that locked these grains
  pub record EndsWell (held : List Held) (result : Outcome) (has : Holding) : Type 0 where
    pub ended : result ≢ Aborted
    pub holds : map bare has.held ≡ held
    pub fit : All IsFit has.held

  module _ (may : Bool) (depth : ℕ) where
    -- a lock may be asked for, of a grain of the program's types
    abbrev pub MayLock : GrainId → Type 0
    MayLock grain = (may ≡ true) × (grain.kind < length types)

    -- a run of a unit whose first frame has this depth, which holds these grains and has asked for so many units:
    -- it asks for a lock only where it may
    abbrev pub IsSound : List Held → ℕ → Requests → Type 0
    IsSound held asked (End result has) = EndsWell held result has
    IsSound held asked (AskLock grain mode go) =
        MayLock grain × (mode_at grain held ≡ None) × (length held < grain_limit)
        × ((found : List Value) → IsSound (held ++ (held_in grain mode ∷ [])) asked (go found))
    IsSound held asked (AskRaise grain rest) = MayLock grain × (mode_at grain held ≡ Some Read)
        × IsSound (change grain raised held) asked rest
    IsSound held asked (AskUnit call at go) = (asked < unit_limit) × IsChild types depth (call, at)
        × ((outcome : Outcome) → IsSound held (asked + 1) (go outcome))

    -- a run from what a unit has
    abbrev pub SoundAt : Holding → Requests → Type 0
    SoundAt has run = IsSound (map bare has.held) has.asked run

    -- what a frame may rest on: held grains are as they must be, and these are held exclusive
    abbrev pub Kept : List GrainId → Holding → Type 0
    Kept floor has = All IsFit has.held × Above floor has.held

    -- what follows is sound, for what a unit has, a value, a fault and locals
    abbrev pub SoundGo : List GrainId → (Holding → Requests) → Type 0
    SoundGo floor go = (has : Holding) → Kept floor has → SoundAt has (go has)

    abbrev pub SoundBack : List GrainId → Back → Type 0
    SoundBack floor back = (value : Value) → SoundGo floor (back value)

    abbrev pub SoundCaught : List GrainId → Caught → Type 0
    SoundCaught floor caught = (fault : List ℕ) → SoundGo floor (caught fault)

    abbrev pub SoundNext : List GrainId → Next → Type 0
    SoundNext floor next = (locals : Locals) → SoundGo floor (next locals)

    -- a frame that updates has its grain held exclusive, and one with a transaction's context runs where locks may be
    -- asked for
    pub record IsPlaced (floor : List GrainId) (site : Site) : Type 0 where
      pub within : site.context ≡ true → may ≡ true
      pub own : site.kind ≡ does_what.Update → (held : List Held) → Above floor held →
          mode_at site.grain held ≡ Some Update

    -- what runs frames of this depth, of methods that are right in a program that was checked
    abbrev pub SoundFrames : ℕ → (Site → MethodTree → Locals → Back → Holding → Requests) → Type 0
    SoundFrames at run =
        (floor : List GrainId) (fields : Scope) (site : Site) (method : MethodTree) (locals : Locals) (back : Back) →
        site.depth ≡ at → IsPlaced floor site →
        (IsAcceptedProgram types → IsAcceptedMethod types fields method) → SoundBack floor back →
        SoundGo floor (run site method locals back)

    -- what runs deeper frames does it so
    abbrev pub IsSafe : ℕ → Runner → Type 0
    IsSafe at None = Unit {0}
    IsSafe at (Some run) = (at ≤ depth_limit) × SoundFrames at run

    -- a unit may end with a fault anywhere
    stop_sound : (floor : List GrainId) → SoundCaught floor stop
    stop_sound floor fault has kept = record { ended = λ e. cc; holds = refl; fit = kept.0 }

    -- a step, or the fault that none is left
    with_step_sound : (floor : List GrainId) (left : ℕ) (next : Next) → SoundNext floor next →
        SoundNext floor (with_step left next)
    with_step_sound floor zero next sound locals has kept = stop_sound floor _ has kept
    with_step_sound floor (suc left) next sound locals has kept = sound locals (with_left left has) kept

    step_sound : (floor : List GrainId) (next : Next) → SoundNext floor next → SoundNext floor (takes_step next)
    step_sound floor next sound locals has kept = with_step_sound floor has.left next sound locals has kept

    -- what follows an expression's value
    with_value_sound : (floor : List GrainId) (found : ValueOrFault) (has : Holding) (go : Value → Requests) →
        Kept floor has → ((value : Value) → SoundAt has (go value)) →
        SoundAt has (with_value found has go)
    with_value_sound floor (Err fault) has go kept sound = stop_sound floor fault has kept
    with_value_sound floor (Ok value) has go kept sound = sound value

    -- what follows arguments' values
    with_values_sound : (floor : List GrainId) (found : Result (List Value) (List ℕ)) (has : Holding)
        (go : List Value → Requests) → Kept floor has →
        ((values : List Value) → found ≡ Ok values → SoundAt has (go values)) → SoundAt has (with_values found has go)
    with_values_sound floor (Err fault) has go kept sound = stop_sound floor fault has kept
    with_values_sound floor (Ok values) has go kept sound = sound values refl

    -- a choice of two runs
    one_of_sound : (has : Holding) (test : Bool) (first second : Requests) → (test ≡ true → SoundAt has first) →
        SoundAt has second →
        SoundAt has (if test then first else second)
    one_of_sound has true first second sound sound' = sound refl
    one_of_sound has false first second sound sound' = sound'

    -- what follows a place
    with_key_sound : (floor : List GrainId) (place : Value) (has : Holding) (go : ℕ → Requests) → Kept floor has →
        ((at : ℕ) → SoundAt has (go at)) →
        SoundAt has (with_key place has go)
    with_key_sound floor (Int (negsuc n)) has go kept sound = stop_sound floor key has kept
    with_key_sound floor (Int (pos n)) has go kept sound =
        one_of_sound has (nat_lt n (2 ^ 32)) (go n) (stop key has) (λ e. sound n) (stop_sound floor key has kept)
    with_key_sound floor (Text place) has go kept sound = stop_sound floor _ has kept

    -- what a condition chooses
    chosen_sound : (floor : List GrainId) (value : Value) (has : Holding) (first second : Requests) → Kept floor has →
        SoundAt has first → SoundAt has second →
        SoundAt has (by_truth value has first second)
    chosen_sound floor (Int number) has first second kept sound sound' =
        one_of_sound has (is_true number) first second (λ e. sound) sound'
    chosen_sound floor (Text text) has first second kept sound sound' = stop_sound floor _ has kept

    -- what a caller does with a child's outcome
    answered_sound : (floor : List GrainId) (outcome : Outcome) (back : Back) (caught : Caught) →
        SoundBack floor back → SoundCaught floor caught →
        SoundGo floor (answered outcome back caught)
    answered_sound floor (Valued value) back caught sound sound' = sound value
    answered_sound floor (Fault text) back caught sound sound' = sound' text
    answered_sound floor Aborted back caught sound sound' = sound' _

    -- a grain that is locked anew is as it must be
    newly_held_fit : (grain : GrainId) (mode : Mode) (of_type : TypeTree) (found : List Value) →
        slice_get types grain.kind ≡ Some of_type → IsFit (newly_held grain mode of_type.fields found)
    newly_held_fit grain mode of_type found is =
        record { locked = λ e. absurd (cc); whole = newly_held_whole types grain of_type found is }

    -- what follows a lock holds the grain so
    abbrev pub SoundHeld : List GrainId → GrainId → Mode → (Holding → Requests) → Type 0
    SoundHeld floor grain mode go = (has : Holding) → Kept floor has →
        (mode ≡ Update → mode_at grain has.held ≡ Some Update) → SoundAt has (go has)

    -- a grain's first lock
    first_lock_sound : (floor : List GrainId) (mode : Mode) (grain : GrainId) (of_type : TypeTree)
        (go : Holding → Requests) → may ≡ true →
        slice_get types grain.kind ≡ Some of_type → SoundHeld floor grain mode go → (has : Holding) → Kept floor has →
        mode_at grain has.held ≡ None → length has.held < grain_limit →
        SoundAt has (AskLock grain mode
        (λ found. go (with_held has (has.held ++ (newly_held grain mode of_type.fields found ∷ [])))))
    first_lock_sound floor mode grain of_type go permits is sound has kept free room = (
      (permits, slice_get_within types grain.kind of_type is),
      mode_at-bare grain has.held ∙ free,
      subst (λ (n : ℕ). n < grain_limit) (sym (length-map has.held bare)) room,
      λ found.
          let one : Held = newly_held grain mode of_type.fields found in
          let after : Holding = with_held has (has.held ++ (one ∷ [])) in
          let fit : All IsFit after.held =
          All-push IsFit has.held one kept.0 (newly_held_fit grain mode of_type found is) in
          let above : Above floor after.held =
          Above-kept floor has.held after.held (λ g e. mode_at-more g has.held (one ∷ []) Update e) kept.1 in
          let at : mode_at grain after.held ≡ Some mode = mode_at-added one has.held free in
          subst (λ (held : List Held). IsSound held has.asked (go after)) (map-append bare has.held (one ∷ []))
          (sound after (fit, above) (λ e. at ∙ ap (λ (m : Mode). Some m) e)),
    )

    -- an exclusive lock in place of a shared one
    raise_sound : (floor : List GrainId) (grain : GrainId) (go : Holding → Requests) → MayLock grain →
        SoundHeld floor grain Update go →
        (has : Holding) → Kept floor has → mode_at grain has.held ≡ Some Read →
        SoundAt has (AskRaise grain (go (with_held has (change grain raised has.held))))
    raise_sound floor grain go permits sound has kept at =
        let after : Holding = with_held has (change grain raised has.held) in
        let fit : All IsFit after.held =
        All-change IsFit grain raised has.held kept.0
        (λ one e f fits. record { locked = λ set. refl; whole = fits.whole }) in
        let above : Above floor after.held =
        Above-kept floor has.held after.held (λ g e. mode_at-raised_other g grain has.held e) kept.1 in (
          permits,
          mode_at-bare grain has.held ∙ at,
          subst (λ (held : List Held). IsSound held has.asked (go after)) (bare-raised grain has.held)
              (sound after (fit, above) (λ e. mode_at-raised grain has.held Read at)),
        )

    -- a lock that is asked for, or is held already
    locked_sound : (floor : List GrainId) (held : Option Mode) (mode : Mode) (grain : GrainId) (of_type : TypeTree)
        (go : Holding → Requests) → may ≡ true →
        slice_get types grain.kind ≡ Some of_type → SoundHeld floor grain mode go → (has : Holding) → Kept floor has →
        mode_at grain has.held ≡ held →
        SoundAt has (locked held mode grain of_type.fields go has)
    locked_sound floor None mode grain of_type go permits is sound has kept at =
        one_of_sound has (nat_lt (length has.held) grain_limit) _ (stop grains has)
        (λ room. first_lock_sound floor mode grain of_type go permits is sound has kept at
        (ltb-true (length has.held) grain_limit room))
        (stop_sound floor grains has kept)
    locked_sound floor (Some Update) mode grain of_type go permits is sound has kept at = sound has kept (λ e. at)
    locked_sound floor (Some Read) Read grain of_type go permits is sound has kept at =
        sound has kept (λ e. absurd (cc))
    locked_sound floor (Some Read) Update grain of_type go permits is sound has kept at =
        raise_sound floor grain go (permits, slice_get_within types grain.kind of_type is) sound has kept at

    -- how a frame may be entered: it joins only where locks may be asked for, passes a context on only there, and a unit
    -- of its own is a transaction, deeper than the unit's first frame, and has the right arguments
    pub record IsWay (at : ℕ) (way : Entered) (target : Target) (args : List Value) : Type 0 where
      pub joins : way ≡ Joined → may ≡ true
      pub passes : (context : Bool) → way ≡ Plain context → context ≡ true → may ≡ true
      pub begins : way ≡ NewUnit → (entered target.method.option false ≡ NewUnit) × (depth < at)
          × (IsAcceptedProgram types → length args ≡ length target.method.params)

    -- a frame that joins
    joined_sound : (floor : List GrainId) (fields : Scope)
        (run : Site → MethodTree → Locals → Back → Holding → Requests) (at : ℕ) → SoundFrames at run → may ≡ true →
        (kind : MethodKind) (grain : GrainId) (of_type : TypeTree) (method : MethodTree) (locals : Locals)
        (back : Back) → slice_get types grain.kind ≡ Some of_type →
        (IsAcceptedProgram types → IsAcceptedMethod types fields method) → SoundBack floor back →
        SoundGo floor (joined kind grain of_type.fields
        (run (record { fields = of_type.fields; kind = kind; grain = grain; context = true; depth = at }) method
        locals back))
    joined_sound floor fields run at safe permits does_what.Plain grain of_type method locals back is right sound has
        kept =
        safe floor fields _ method locals back refl
        (record { within = λ e. permits; own = λ e held above. absurd (cc) }) right sound has kept
    joined_sound floor fields run at safe permits does_what.Read grain of_type method locals back is right sound has
        kept =
        locked_sound floor (mode_at grain has.held) Read grain of_type _ permits is
        (λ has kept held. safe floor fields _ method locals back refl
        (record { within = λ e. permits; own = λ e held above. absurd (cc) }) right sound has kept) has kept refl
    joined_sound floor fields run at safe permits does_what.Update grain of_type method locals back is right sound has
        kept =
        locked_sound floor (mode_at grain has.held) Update grain of_type _ permits is
        (λ has kept held. safe (grain ∷ floor) fields _ method locals back refl
        (record { within = λ e. permits; own = λ e held above. above.0 }) right
        (λ value has kept. sound value has (kept.0, kept.1.1)) has (kept.0, (held refl, kept.1))) has kept refl

    -- a frame or a unit of a called method
    enters_sound : (floor : List GrainId) (runner : Runner) (at : ℕ) → IsSafe at runner →
        (way : Entered) (grain : GrainId) (target : Target) (args : List Value) → IsWay at way target args →
        numbered (slice_get types grain.kind) target.number ≡ Some target → (back : Back) (caught : Caught) →
        SoundBack floor back → SoundCaught floor caught →
        SoundGo floor (enters runner way at grain target args back caught)
    enters_sound floor runner at safe (Refused why) grain target args allowed is back caught sound sound' has kept =
        stop_sound floor _ has kept
    enters_sound floor None at safe NewUnit grain target args allowed is back caught sound sound' has kept =
        stop_sound floor _ has kept
    enters_sound floor None at safe Joined grain target args allowed is back caught sound sound' has kept =
        stop_sound floor _ has kept
    enters_sound floor None at safe (Plain context) grain target args allowed is back caught sound sound' has kept =
        stop_sound floor _ has kept
    enters_sound floor (Some run) at safe NewUnit grain target args allowed is back caught sound sound' has kept =
        let call : Call = record { grain = grain; method = target.number; args = args } in
        let begins : (entered target.method.option false ≡ NewUnit) × (depth < at)
        × (IsAcceptedProgram types → length args ≡ length target.method.params) = allowed.begins refl in
        let transaction : IsTransaction types call = (target, is, begins.0) in
        let arity : IsAcceptedProgram types → HasArity types call =
        λ program other e. let same : target ≡ other = cc in
        begins.2 program ∙ ap (λ (t : Target). length t.method.params) same in
        let child : IsChild types depth (call, at) =
        record { transaction = transaction; deeper = begins.1; not_too_deep = safe.0; arity = arity } in
        one_of_sound has (nat_lt has.asked unit_limit) _ (stop units has)
        (λ room. (
          ltb-true has.asked unit_limit room,
          child,
          λ outcome.
              answered_sound floor outcome back caught sound sound' (one_asked has) kept,
        ))
        (stop_sound floor units has kept)
    enters_sound floor (Some run) at safe Joined grain target args allowed is back caught sound sound' has kept =
        joined_sound floor (field_names target.of_type.fields) run at safe.1
        (allowed.joins refl) target.method.kind grain target.of_type target.method
        (bound target.method.params args) back
        (numbered_type (slice_get types grain.kind) target.number target is)
        (λ program. target_is_method types grain.kind target is program) sound has kept
    enters_sound floor (Some run) at safe
        (Plain context) grain target args allowed is back caught sound sound' has kept =
        safe.1 floor (field_names target.of_type.fields) _ target.method (bound target.method.params args) back refl
        (record { within = λ e. allowed.passes context refl e; own = λ e held above. absurd (cc) })
        (λ program. target_is_method types grain.kind target is program) sound has kept

    -- how a method's option lets it be entered from a frame
    entered_way : (at : ℕ) (context : Bool) (target : Target) (args : List Value) (chosen : TxnOption) →
        target.method.option ≡ chosen → (context ≡ true → may ≡ true) → depth < at →
        (IsAcceptedProgram types → length args ≡ length target.method.params) → IsWay at (entered chosen context) target args
    entered_way at false target args option.Create e within deeper arity =
        record {
          joins = λ e. absurd (cc);
          passes = λ c e t. absurd (cc);
          begins =
              λ way. (ap (λ o. entered o false) e, deeper, arity);
        }
    entered_way at true target args option.Create e within deeper arity =
        record {
          joins = λ e. absurd (cc);
          passes = λ c e t. absurd (cc);
          begins =
              λ way. (ap (λ o. entered o false) e, deeper, arity);
        }
    entered_way at false target args option.Join e within deeper arity =
        record { joins = λ e. absurd (cc); passes = λ c e t. absurd (cc); begins = λ way. absurd (cc) }
    entered_way at true target args option.Join e within deeper arity =
        record { joins = λ e. within refl; passes = λ c e t. absurd (cc); begins = λ way. absurd (cc) }
    entered_way at false target args option.CreateOrJoin e within deeper arity =
        record {
          joins = λ e. absurd (cc);
          passes = λ c e t. absurd (cc);
          begins =
              λ way. (ap (λ o. entered o false) e, deeper, arity);
        }
    entered_way at true target args option.CreateOrJoin e within deeper arity =
        record { joins = λ e. within refl; passes = λ c e t. absurd (cc); begins = λ way. absurd (cc) }
    entered_way at false target args option.Suppress e within deeper arity =
        record { joins = λ e. absurd (cc); passes = λ c e t. absurd (cc); begins = λ way. absurd (cc) }
    entered_way at true target args option.Suppress e within deeper arity =
        record { joins = λ e. absurd (cc); passes = λ c e t. absurd (cc); begins = λ way. absurd (cc) }
    entered_way at false target args option.Supported e within deeper arity =
        record { joins = λ e. absurd (cc); passes = λ c e t. absurd (cc); begins = λ way. absurd (cc) }
    entered_way at true target args option.Supported e within deeper arity =
        record { joins = λ e. absurd (cc); passes = λ c e t. within refl; begins = λ way. absurd (cc) }
    entered_way at false target args option.NotAllowed e within deeper arity =
        record { joins = λ e. absurd (cc); passes = λ c e t. absurd (cc); begins = λ way. absurd (cc) }
    entered_way at true target args option.NotAllowed e within deeper arity =
        record { joins = λ e. absurd (cc); passes = λ c e t. absurd (cc); begins = λ way. absurd (cc) }

    module _ (floor : List GrainId) (runner : Runner) (site : Site) (safe : IsSafe (site.depth + 1) runner)
        (below : depth ≤ site.depth) (placed : IsPlaced floor site) (back : Back)
        (fields : Scope) (kind : MethodKind) where
      -- what the body of the frame's method was checked in
      abbrev setting : Setting
      setting = record { types = types; fields = fields; kind = kind }

      -- a call of a method
      to_target_sound : (grain : GrainId) (target : Option Target) →
          ((found : Target) → target ≡ Some found → numbered (slice_get types grain.kind) found.number ≡ Some found) →
          (args : List Value) → (IsAcceptedProgram types → (found : Target) → target ≡ Some found →
          length args ≡ length found.method.params) →
          (onto : Back) (caught : Caught) → SoundBack floor onto → SoundCaught floor caught →
          SoundGo floor (to_target runner site grain target args onto caught)
      to_target_sound grain None is args arity onto caught sound sound' has kept = stop_sound floor unknown has kept
      to_target_sound grain (Some target) is args arity onto caught sound sound' has kept =
          enters_sound floor runner (site.depth + 1) safe (entered target.method.option site.context) grain target args
          (entered_way (site.depth + 1) site.context target args target.method.option refl placed.within
          (omega (arith, below)) (λ program. arity program target refl))
          (is target refl) onto caught sound sound' has kept

      -- a call on a grain of a type
      to_type_sound : (number : Option ℕ) (at : ℕ) (name : List ℕ) (args : List Value) →
          (IsAcceptedProgram types → (n : ℕ) (found : Target) → number ≡ Some n →
          method_target (slice_get types n) name ≡ Some found → length args ≡ length found.method.params) →
          (onto : Back) (caught : Caught) → SoundBack floor onto → SoundCaught floor caught →
          SoundGo floor (to_type types runner site number at name args onto caught)
      to_type_sound None at name args arity onto caught sound sound' has kept = stop_sound floor unknown has kept
      to_type_sound (Some number) at name args arity onto caught sound sound' has kept =
          to_target_sound (record { kind = number; key = at }) (method_target (slice_get types number) name)
          (λ found e. method_of_is (slice_get types number) name found e) args
          (λ program found e. arity program number found refl e) onto caught sound sound' has kept

      -- a call
      calls_sound : (scope : Scope) (call : CallTree) → (IsAcceptedProgram types → IsCallInScope setting scope call) →
          (onto : Back) (caught : Caught) → SoundBack floor onto → SoundCaught floor caught →
          SoundNext floor (calls types runner site back call onto caught)
      calls_sound scope call right onto caught sound sound' locals has kept =
          with_value_sound floor (given types runner site back call.place locals has) has _ kept (λ place.
          with_values_sound floor (values_in (around types runner site back locals has) call.args) has _ kept (λ args e.
          with_key_sound floor place has _ kept (λ at.
          to_type_sound (type_from 0 call.target.text types) at call.method.text args
          (λ program n found from is. values_in_length (around types runner site back locals has) call.args args e
          ∙ call_has_arity setting scope call (right program) n found from is)
          onto caught sound sound' has kept)))

      -- what a local is given
      sourced_sound : (scope : Scope) (source : SourceTree) → (IsAcceptedProgram types → IsSourceInScope setting scope source) →
          (onto : Value → Next) → ((value : Value) → SoundNext floor (onto value)) →
          SoundNext floor (sourced types runner site back source onto)
      unfolding IsSourceInScope
      sourced_sound scope (Computed expression) right onto sound locals has kept =
          with_value_sound floor (given types runner site back expression locals has) has _ kept
          (λ value. sound value locals has kept)
      sourced_sound scope (Called call) right onto sound locals has kept =
          calls_sound scope call right (λ value. onto value locals) stop
          (λ value has kept. sound value locals has kept) (stop_sound floor) locals has kept

      -- a field is set, in a frame whose grain is held exclusive
      set_sound : (number : Option ℕ) (value : Value) (next : Next) →
          ((held : List Held) → Above floor held → mode_at site.grain held ≡ Some Update) → SoundNext floor next →
          SoundNext floor (sets types runner site back number value next)
      set_sound None value next own sound locals has kept = stop_sound floor unknown has kept
      set_sound (Some i) value next own sound locals has kept =
          let after : Holding = with_held has (change site.grain (with_field i value) has.held) in
          let at : mode_at site.grain has.held ≡ Some Update = own has.held kept.1 in
          let fit : All IsFit after.held = All-change IsFit site.grain (with_field i value) has.held kept.0
          (λ one e f fits. let mode : one.mode ≡ Update = cc in
          record {
            locked = λ set. mode;
            whole = λ of_type is. length-set one.state i value
                ∙ fits.whole of_type is;
          }) in
          let above : Above floor after.held =
          Above-kept floor has.held after.held
          (λ g e. mode_at-with_field g site.grain i value has.held ∙ e) kept.1 in
          subst (λ (held : List Held). IsSound held has.asked (next locals after))
          (bare-with_field site.grain i value has.held) (sound locals after (fit, above))

      -- a field is set only in a frame that updates
      sets_sound : (how : MethodKind) →
          (how ≡ does_what.Update → (held : List Held) → Above floor held → mode_at site.grain held ≡ Some Update) →
          (name : List ℕ) (value : Value) (next : Next) → SoundNext floor next →
          SoundNext floor (sets types runner site back (field_named name (settable how site.fields)) value next)
      sets_sound does_what.Plain own name value next sound locals has kept = stop_sound floor unknown has kept
      sets_sound does_what.Read own name value next sound locals has kept = stop_sound floor unknown has kept
      sets_sound does_what.Update own name value next sound locals has kept =
          set_sound (field_named name site.fields) value next (own refl) sound locals has kept

      -- turns of a loop
      turns_sound : (count : ℕ) (test : ExprTree) (body : Next → Next) →
          ((next : Next) → SoundNext floor next → SoundNext floor (body next)) → (next : Next) → SoundNext floor next →
          SoundNext floor (turns types runner site back count test body next)
      turns_sound zero test body bodies next sound = λ locals has kept. stop_sound floor _ has kept
      turns_sound (suc count) test body bodies next sound =
          step_sound floor _ (λ locals has kept.
          with_value_sound floor (given types runner site back test locals has) has _ kept (λ value.
          chosen_sound floor value has _ _ kept
          (bodies _ (turns_sound count test body bodies next sound) locals has kept) (sound locals has kept)))

      module _ (backs : SoundBack floor back) where
        mutual
          unfolding IsStatementInScope IsBlockInScope IsElseInScope

          -- a statement, a block and a second block, where what follows is sound
          does_sound : (scope : Scope) (stmt : StmtTree) → (IsAcceptedProgram types → IsStatementInScope setting scope stmt) →
              (next : Next) → SoundNext floor next →
              SoundNext floor (does types runner site back stmt next)
          does_sound scope (Bind name value) right next sound =
              sourced_sound scope value (λ p. (right p).1) _ (λ found locals has kept. sound _ has kept)
          does_sound scope (Rebind name value) right next sound =
              sourced_sound scope value (λ p. (right p).1) _ (λ found locals has kept. sound _ has kept)
          does_sound scope (SetField name value) right next sound =
              λ locals has kept. with_value_sound floor (given types runner site back value locals has) has _ kept
              (λ found.
              sets_sound site.kind placed.own name.text found next sound locals has kept)
          does_sound scope (Perform call) right next sound =
              λ locals has kept. calls_sound scope call right _ stop (λ value has kept. sound locals has kept)
              (stop_sound floor) locals has kept
          does_sound scope (Choose test block otherwise) right next sound =
              λ locals has kept. with_value_sound floor (given types runner site back test locals has) has _ kept
              (λ value.
              chosen_sound floor value has _ _ kept
              (runs_sound scope block (λ p. (right p).0.1) next sound locals has kept)
              (runs_else_sound scope otherwise (λ p. (right p).1) next sound locals has kept))
          does_sound scope (Repeat test block) right next sound = λ locals has kept.
              turns_sound (suc has.left) test _
              (λ next sound. runs_sound scope block (λ p. (right p).1) next sound) next sound locals has kept
          does_sound scope (Give value) right next sound =
              λ locals has kept. with_value_sound floor (given types runner site back value locals has) has _ kept
              (λ found. backs found has kept)
          does_sound scope (FailWith text) right next sound = λ locals has kept. stop_sound floor _ has kept
          does_sound scope (Try at name call block otherwise) right next sound = λ locals has kept.
              calls_sound scope call (λ p. (right p).0.0.1) _ _
              (λ value has kept. runs_sound (with_name scope name) block (λ p. (right p).0.1) next sound
              (put_local name.text value locals) has kept)
              (λ fault has kept. runs_sound (with_name scope name) otherwise (λ p. (right p).1) next sound
              (put_local name.text (Text fault) locals) has kept) locals has kept

          runs_sound : (scope : Scope) (block : BlockTree) → (IsAcceptedProgram types → IsBlockInScope setting scope block) →
              (next : Next) → SoundNext floor next →
              SoundNext floor (runs types runner site back block next)
          runs_sound scope NoMore right next sound = sound
          runs_sound scope (Then first rest) right next sound =
              step_sound floor _ (does_sound scope first (λ p. (right p).0) _
              (runs_sound (scope_after scope first) rest (λ p. (right p).1) next sound))

          runs_else_sound : (scope : Scope) (block : ElseTree) → (IsAcceptedProgram types → IsElseInScope setting scope block) →
              (next : Next) → SoundNext floor next →
              SoundNext floor (runs_else types runner site back block next)
          runs_else_sound scope NoElse right next sound = sound
          runs_else_sound scope (Else block) right next sound = runs_sound scope block right next sound

    -- frames that are at most so deep
    deep_is_safe : (n at : ℕ) → depth ≤ at → (0 < n → at + n ≤ depth_limit + 1) → IsSafe at (deep types n)
    deep_is_safe zero at below room = tt
    deep_is_safe (suc n) at below room =
        let fits : at + suc n ≤ depth_limit + 1 = room (omega arith) in (
          omega (arith, fits),
          λ floor fields site method locals back e placed right sound.
              runs_sound floor (deep types n) site
              (subst (λ (d : ℕ). IsSafe (d + 1) (deep types n)) (sym e)
              (deep_is_safe n (at + 1) (omega (arith, below)) (λ some. omega (arith, fits))))
              (omega (arith, below, e)) placed back fields method.kind sound
              (map (λ n. n.text) method.params) method.body (λ program. (right program).body) _
              (λ after has kept. sound (Int (pos 0)) has kept) locals,
        )

    -- how a unit's first frame is entered
    first_way : (at : ℕ) (target : Target) (args : List Value) (chosen : TxnOption) → target.method.option ≡ chosen →
        (entered chosen false ≡ NewUnit → may ≡ true) →
        IsWay at (as_first (entered chosen false)) target args
    first_way at target args option.Create e permits =
        record { joins = λ e. permits refl; passes = λ c e t. absurd (cc); begins = λ e. absurd (cc) }
    first_way at target args option.Join e permits =
        record { joins = λ e. absurd (cc); passes = λ c e t. absurd (cc); begins = λ e. absurd (cc) }
    first_way at target args option.CreateOrJoin e permits =
        record { joins = λ e. permits refl; passes = λ c e t. absurd (cc); begins = λ e. absurd (cc) }
    first_way at target args option.Suppress e permits =
        record { joins = λ e. absurd (cc); passes = λ c e t. absurd (cc); begins = λ e. absurd (cc) }
    first_way at target args option.Supported e permits =
        record { joins = λ e. absurd (cc); passes = λ c e t. absurd (cc); begins = λ e. absurd (cc) }
    first_way at target args option.NotAllowed e permits =
        record { joins = λ e. absurd (cc); passes = λ c e t. absurd (cc); begins = λ e. absurd (cc) }

    -- a unit's first frame
    first_frame_sound : (runner : Runner) → IsSafe depth runner → (call : Call) (target : Option Target) →
        ((found : Target) → target ≡ Some found →
        numbered (slice_get types call.grain.kind) found.number ≡ Some found) →
        ((found : Target) → target ≡ Some found → entered found.method.option false ≡ NewUnit → may ≡ true) →
        IsSound [] 0 (first_frame runner depth call target)
    first_frame_sound runner safe call None is permits = stop_sound [] unknown at_start (All-nil IsFit, tt)
    first_frame_sound runner safe call (Some target) is permits =
        enters_sound [] runner depth safe (as_first (entered target.method.option false)) call.grain target call.args
        (first_way depth target call.args target.method.option refl (permits target refl)) (is target refl) ends_unit stop
        (λ value has kept. record { ended = λ e. cc; holds = refl; fit = kept.0 }) (stop_sound []) at_start
        (All-nil IsFit, tt)

    -- the run of a call is sound, where locks may be asked for if it is a transaction
    pub unit_sound : (call : Call) → (IsTransaction types call → may ≡ true) → IsSound [] 0 (unit types call depth)
    unfolding unit
    unit_sound call permits =
        first_frame_sound (deep types (depth_limit + 1 - depth))
        (deep_is_safe (depth_limit + 1 - depth) depth (omega arith) (λ some. omega (arith, some))) call
        (numbered (slice_get types call.grain.kind) call.method)
        (λ found e. numbered_is (slice_get types call.grain.kind) call.method found e)
        (λ found e new. permits (found, e, new))
