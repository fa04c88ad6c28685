-- The faults with which runs of a checked program end.
use Rattle.std.proofs.Common.{◌≡◌, ◌≢◌, ℕ, zero, suc, ◌+◌, ◌-◌, ◌<◌, List, [], ◌∷◌, ◌++◌, length, map, pos, negsuc, Bool, true, false, Option, Some, None, Result, Ok, Err, refl, sym, ap, ◌∙◌, subst, inl, inr, arith}
use Rattle.std.specs.Prelude.{◌^◌, if◌then◌else◌, nat_lt, bytes_eq, slice_get}
use Rattle.std.specs.List.{All, Contains}
use Rattle.std.proofs.lemmas.List.{length-set}
use Rattle.std.proofs.lemmas.List.Elements.{All-nil, All-push, All-head, All-tail, Contains-append_left}
use Rattle.base_types.specs.declared.calls.Call.{Call}
use Rattle.base_types.specs.declared.calls.GrainId.{GrainId}
use Rattle.base_types.specs.declared.calls.Mode.{Mode}
use Rattle.base_types.specs.declared.calls.Mode.TheVariants.{Read, Update}
use Rattle.base_types.specs.declared.calls.Outcome.{Outcome}
use Rattle.base_types.specs.declared.calls.Outcome.TheVariants.{Value as Valued, Fault, Aborted}
use Rattle.base_types.specs.declared.calls.Value.{Value}
use Rattle.base_types.specs.declared.calls.Value.TheVariants.{Int, Text}
use Rattle.script_tree.specs.declared.expressions.Name.{Name}
use Rattle.script_tree.specs.declared.options.Entered.{Entered}
use Rattle.script_tree.specs.declared.options.Entered.TheVariants.{Joined, NewUnit, Plain, Refused}
use Rattle.script_tree.specs.declared.options.EntryRefusal.{EntryRefusal}
use Rattle.script_tree.specs.declared.options.EntryRefusal.TheVariants.{NoTransaction, NotAllowed}
use Rattle.script_tree.specs.declared.options.MethodKind.{MethodKind}
use Rattle.script_tree.specs.declared.options.MethodKind.TheVariants as does_what
use Rattle.script_tree.specs.declared.options.TxnOption.{TxnOption}
use Rattle.script_tree.specs.declared.programs.FieldDecl.{FieldDecl}
use Rattle.script_tree.specs.Options.{entered}
use Rattle.script_tree.specs.Exprs.{ExprTree, CallTree}
use Rattle.script_tree.specs.Stmts.{SourceTree, Computed, Called, StmtTree, BlockTree, ElseTree, Bind, Rebind, SetField, Perform, Choose, Repeat, Give, FailWith, Try, NoMore, Then, NoElse, Else}
use Rattle.script_tree.specs.Programs.{MethodTree, TypeTree, ProgramTree}
use Rattle.script_scopes.specs.Names.{Scope, Setting}
use Rattle.script_scopes.specs.Statements.{with_name, scope_after}
use Rattle.script_scopes.specs.Bodies.{IsExpressionInScope, IsCallInScope, IsSourceInScope, IsStatementInScope, IsBlockInScope, IsElseInScope}
use Rattle.script_check.specs.Shapes.{fitted}
use Rattle.script_check.specs.Programs.{field_names}
use Rattle.script_check.specs.AcceptedPrograms.{IsTransacted, IsAcceptedMethod, IsAcceptedProgram}
use Rattle.script_values.specs.Expressions.{Locals, put_local, local_named, field_named, values_in}
use Rattle.script_values.specs.Faults.{budget, depth, units, option_refusal_text}
use Rattle.script_values.specs.Values.{ValueOrFault, is_true}
use Rattle.script_holding.specs.declared.held_grain.Held.{Held}
use Rattle.script_holding.specs.Limits.{depth_limit, unit_limit, grain_limit}
use Rattle.script_holding.specs.Holding.{Holding, same_grain, held_at, working, state_at, mode_at, change, raised, with_field, newly_held, with_held, with_left, one_asked}
use Rattle.script_meaning.specs.Requests.{Requests, End, AskLock, AskRaise, AskUnit, Back, Caught, stop, with_value, with_values}
use Rattle.script_meaning.specs.Calls.{Site, Runner, Target, readable, settable, bound, answered, locked, joined, enters, to_target, to_type, numbered, method_target, type_from, with_key}
use Rattle.script_meaning.specs.Statements.{Next, takes_step, with_step, by_truth, around, given, calls, sourced, sets, turns, does, runs, runs_else, deep}
use Rattle.script_meaning.specs.Play.{as_first, first_frame, ends_unit, at_start, unit, serve}
use Rattle.script_meaning.specs.Laws.{HasEachField}
use Rattle.script_meaning.specs.Texts.{StatementFails, BlockFails, ElseFails, IsCallOf}
use Rattle.script_meaning.proofs.Lookups.{numbered_type, numbered_is, method_of_is, target_is_method, call_has_arity, call_finds}
use Rattle.script_meaning.proofs.Grains.{same_grain_is, mode_at-with_field, mode_at-more, mode_at-added, mode_at-raised, mode_at-not_raised, All-change}
use Rattle.script_meaning.proofs.RunInvariant.{values_in_length, newly_held_whole}
use Rattle.script_meaning.proofs.ExpressionResults.{Covers, put_covers, put_covers_more, in_rest, field_is_there, Holds, Says, IsSaidOf, value_in_said, values_in_said}

-- parameters with as many arguments have values
bound_covers : (params : List Name) (args : List Value) → length args ≡ length params →
    Covers (map (λ n. n.text) params) (bound params args)
bound_covers [] args e name among = absurd (omega (arith, among.1))
bound_covers (first ∷ rest) [] e name among = absurd (omega (arith, e))
bound_covers (first ∷ rest) (value ∷ args) e name among =
    elim (bytes_eq first.text name) as
    (λ b. bytes_eq first.text name ≡ b →
    (found : Value) × ((if b then Some value else local_named name (bound rest args)) ≡ Some found)) [
      | true ↦ λ same. (value, refl)
      | false ↦ λ differ. bound_covers rest args (omega (arith, e)) name
          (in_rest first.text (map (λ n. n.text) rest) name among differ)
    ] refl

-- a held grain stays held where another is raised
stays_held : (grain at : GrainId) (held : List Held) (mode : Mode) → mode_at grain held ≡ Some mode →
    (found : Option Mode) → mode_at grain (change at raised held) ≡ found →
    (after : Mode) × (found ≡ Some after)
stays_held grain at held mode e (Some after) f = (after, refl)
stays_held grain at held mode e None f =
    absurd (let g : mode_at grain held ≡ None = mode_at-not_raised grain at held f in cc)

module _ (types : ProgramTree) (program : IsAcceptedProgram types) (Q : List ℕ → Type 0) (own : Says Q) where
  -- a run whose faults are known, where those of the units that it asks for are
  abbrev pub IsSaid : Requests → Type 0
  IsSaid (End result has) = (text : List ℕ) → result ≡ Fault text → Q text
  IsSaid (AskLock grain mode go) = (found : List Value) → IsSaid (go found)
  IsSaid (AskRaise grain rest) = IsSaid rest
  IsSaid (AskUnit call at go) = (outcome : Outcome) → ((text : List ℕ) → outcome ≡ Fault text → Q text) →
      IsSaid (go outcome)

  -- a held grain's working state has each field of its type
  abbrev pub IsWhole : Held → Type 0
  IsWhole one = HasEachField types one.grain one.state

  -- these grains are held
  abbrev pub Above : List GrainId → List Held → Type 0
  Above [] held = Unit {0}
  Above (grain ∷ floor) held = ((mode : Mode) × (mode_at grain held ≡ Some mode)) × Above floor held

  -- held grains stay held where each of them does
  Above-kept : (floor : List GrainId) (held after : List Held) →
      ((grain : GrainId) (mode : Mode) → mode_at grain held ≡ Some mode →
      (still : Mode) × (mode_at grain after ≡ Some still)) → Above floor held → Above floor after
  Above-kept [] held after keeps above = tt
  Above-kept (grain ∷ floor) held after keeps above =
      (keeps grain above.0.0 above.0.1, Above-kept floor held after keeps above.1)

  -- what a frame rests on: whole states, and these grains held
  abbrev pub Kept : List GrainId → Holding → Type 0
  Kept floor has = All IsWhole has.held × Above floor has.held

  -- what follows is known, for what a unit has, a value, a fault that is known, and locals with a value for each name
  abbrev pub SaidGo : List GrainId → (Holding → Requests) → Type 0
  SaidGo floor go = (has : Holding) → Kept floor has → IsSaid (go has)

  abbrev pub SaidBack : List GrainId → Back → Type 0
  SaidBack floor back = (value : Value) → SaidGo floor (back value)

  abbrev pub SaidCaught : List GrainId → Caught → Type 0
  SaidCaught floor caught = (fault : List ℕ) → Q fault → SaidGo floor (caught fault)

  abbrev pub SaidNext : List GrainId → Scope → Next → Type 0
  SaidNext floor scope next = (locals : Locals) → Covers scope locals → SaidGo floor (next locals)

  -- a held grain's working state has each field of its type
  state_is_whole : (grain : GrainId) (of_type : TypeTree) (held : List Held) (mode : Mode) →
      slice_get types grain.kind ≡ Some of_type → All IsWhole held →
      mode_at grain held ≡ Some mode → length (state_at grain held) ≡ length of_type.fields
  state_is_whole grain of_type [] mode is all e = absurd (cc)
  state_is_whole grain of_type (first ∷ rest) mode is all e =
      (elim (same_grain first.grain grain) as
      (λ b. same_grain first.grain grain ≡ b → (if b then Some first.mode else mode_at grain rest) ≡ Some mode →
      length (working (if b then Some first else held_at grain rest)) ≡ length of_type.fields) [
        | true ↦ λ same h.
            let there : slice_get types first.grain.kind ≡ Some of_type =
            ap (λ (g : GrainId). slice_get types g.kind) (same_grain_is first.grain grain same) ∙ is in
            All-head IsWhole first rest all of_type there
        | false ↦ λ same h. state_is_whole grain of_type rest mode is (All-tail IsWhole first rest all) h
      ]) refl e

  -- a frame that uses fields does so on a grain that is held
  pub record IsPlaced (floor : List GrainId) (site : Site) (kind : MethodKind) (fields : Scope) : Type 0 where
    pub same_kind : kind ≡ site.kind
    pub same_fields : fields ≡ field_names site.fields
    pub whole : site.kind ≢ does_what.Plain → (has : Holding) → Kept floor has →
        length (state_at site.grain has.held) ≡ length site.fields

  -- the runs of frames of checked methods are known
  abbrev pub SaidFrames : (Site → MethodTree → Locals → Back → Holding → Requests) → Type 0
  SaidFrames run =
      (floor : List GrainId) (fields : Scope) (site : Site) (method : MethodTree) (locals : Locals) (back : Back) →
      IsPlaced floor site method.kind fields →
      IsAcceptedMethod types fields method → ((text : List ℕ) → BlockFails method.body text → Q text) →
      Covers (map (λ n. n.text) method.params) locals →
      SaidBack floor back → SaidGo floor (run site method locals back)

  -- what runs deeper frames does it so
  abbrev pub IsSafe : Runner → Type 0
  IsSafe None = Unit {0}
  IsSafe (Some run) = SaidFrames run

  -- a unit that ends with a known fault
  stop_said : (floor : List GrainId) → SaidCaught floor stop
  stop_said floor fault said has kept text e = let same : fault ≡ text = cc in subst Q same said

  -- a step, or the fault that none is left
  with_step_said : (floor : List GrainId) (scope : Scope) (left : ℕ) (next : Next) → SaidNext floor scope next →
      SaidNext floor scope (with_step left next)
  with_step_said floor scope zero next said locals covers has kept = stop_said floor _ own.budget has kept
  with_step_said floor scope (suc left) next said locals covers has kept = said locals covers (with_left left has) kept

  step_said : (floor : List GrainId) (scope : Scope) (next : Next) → SaidNext floor scope next →
      SaidNext floor scope (takes_step next)
  step_said floor scope next said locals covers has kept =
      with_step_said floor scope has.left next said locals covers has kept

  -- what follows an expression's value, or its fault
  with_value_said : (floor : List GrainId) (found : ValueOrFault) (has : Holding) (go : Value → Requests) → Kept floor has →
      IsSaidOf Q own found → ((value : Value) → IsSaid (go value)) →
      IsSaid (with_value found has go)
  with_value_said floor (Err fault) has go kept given said = stop_said floor fault given has kept
  with_value_said floor (Ok value) has go kept given said = said value

  -- what follows arguments' values, or their fault
  with_values_said : (floor : List GrainId) (found : Result (List Value) (List ℕ)) (has : Holding)
      (go : List Value → Requests) → Kept floor has → IsSaidOf Q own found →
      ((values : List Value) → found ≡ Ok values → IsSaid (go values)) → IsSaid (with_values found has go)
  with_values_said floor (Err fault) has go kept given said = stop_said floor fault given has kept
  with_values_said floor (Ok values) has go kept given said = said values refl

  -- a choice of two runs
  one_of_said : (test : Bool) (first second : Requests) → IsSaid first → IsSaid second →
      IsSaid (if test then first else second)
  one_of_said true first second said said' = said
  one_of_said false first second said said' = said'

  -- what follows a place, or its fault
  with_key_said : (floor : List GrainId) (place : Value) (has : Holding) (go : ℕ → Requests) → Kept floor has →
      ((at : ℕ) → IsSaid (go at)) → IsSaid (with_key place has go)
  with_key_said floor (Int (negsuc n)) has go kept said = stop_said floor _ own.key has kept
  with_key_said floor (Int (pos n)) has go kept said =
      one_of_said (nat_lt n (2 ^ 32)) (go n) _ (said n) (stop_said floor _ own.key has kept)
  with_key_said floor (Text place) has go kept said = stop_said floor _ own.kind has kept

  -- what a condition chooses, or its fault
  chosen_said : (floor : List GrainId) (value : Value) (has : Holding) (first second : Requests) → Kept floor has →
      IsSaid first → IsSaid second → IsSaid (by_truth value has first second)
  chosen_said floor (Int number) has first second kept said said' = one_of_said (is_true number) first second said said'
  chosen_said floor (Text text) has first second kept said said' = stop_said floor _ own.kind has kept

  -- what a caller does with a child's outcome
  answered_said : (floor : List GrainId) (outcome : Outcome) (back : Back) (caught : Caught) →
      ((text : List ℕ) → outcome ≡ Fault text → Q text) → SaidBack floor back → SaidCaught floor caught →
      SaidGo floor (answered outcome back caught)
  answered_said floor (Valued value) back caught known said said' = said value
  answered_said floor (Fault text) back caught known said said' = said' text (known text refl)
  answered_said floor Aborted back caught known said said' = said' _ own.aborted

  -- the refusal of an option is one of the own faults
  refusal_said : (why : EntryRefusal) → Q (option_refusal_text why)
  refusal_said NoTransaction = own.no_transaction
  refusal_said NotAllowed = own.not_allowed

  -- what follows a lock holds the grain
  abbrev pub SaidHeld : List GrainId → GrainId → (Holding → Requests) → Type 0
  SaidHeld floor grain go = (has : Holding) → Kept floor has → (mode : Mode) × (mode_at grain has.held ≡ Some mode) →
      IsSaid (go has)

  -- a lock that is asked for or is held already, or the fault that no more may be held
  locked_said : (floor : List GrainId) (held : Option Mode) (mode : Mode) (grain : GrainId) (of_type : TypeTree)
      (go : Holding → Requests) →
      slice_get types grain.kind ≡ Some of_type → SaidHeld floor grain go → (has : Holding) → Kept floor has →
      mode_at grain has.held ≡ held →
      IsSaid (locked held mode grain of_type.fields go has)
  locked_said floor None mode grain of_type go is said has kept at =
      one_of_said (nat_lt (length has.held) grain_limit) _ _
      (λ found.
      let one : Held = newly_held grain mode of_type.fields found in
      let after : Holding = with_held has (has.held ++ (one ∷ [])) in
      let whole : IsWhole one = newly_held_whole types grain of_type found is in
      let above : Above floor after.held =
      Above-kept floor has.held after.held (λ g m e. (m, mode_at-more g has.held (one ∷ []) m e)) kept.1 in
      said after (All-push IsWhole has.held one kept.0 whole, above) (mode, mode_at-added one has.held at))
      (stop_said floor _ own.grains has kept)
  locked_said floor (Some Update) mode grain of_type go is said has kept at = said has kept (Update, at)
  locked_said floor (Some Read) Read grain of_type go is said has kept at = said has kept (Read, at)
  locked_said floor (Some Read) Update grain of_type go is said has kept at =
      let after : Holding = with_held has (change grain raised has.held) in
      let above : Above floor after.held =
      Above-kept floor has.held after.held
      (λ g m e. stays_held g grain has.held m e (mode_at g after.held) refl) kept.1 in
      said after (All-change IsWhole grain raised has.held kept.0 (λ one e f whole. whole), above)
      (Update, mode_at-raised grain has.held Read at)

  -- a frame of its own, of a method of the program
  module _ (fails : (kind : ℕ) (target : Target) → numbered (slice_get types kind) target.number ≡ Some target →
      (text : List ℕ) → BlockFails target.method.body text → Q text) where
    -- a method's frame on a grain that is held
    held_frame : (floor : List GrainId) (run : Site → MethodTree → Locals → Back → Holding → Requests) →
        SaidFrames run →
        (kind : MethodKind) (at : ℕ) (grain : GrainId) (target : Target) (args : List Value) (back : Back) →
        numbered (slice_get types grain.kind) target.number ≡ Some target → target.method.kind ≡ kind →
        length args ≡ length target.method.params → SaidBack floor back →
        SaidHeld floor grain (run (record {
          fields = target.of_type.fields;
          kind = kind;
          grain = grain;
          context = true;
          depth = at;
        })
        target.method (bound target.method.params args) back)
    held_frame floor run safe how at grain target args back is same arity said has kept held =
        let there : slice_get types grain.kind ≡ Some target.of_type =
        numbered_type (slice_get types grain.kind) target.number target is in
        safe (grain ∷ floor) (field_names target.of_type.fields) _ target.method (bound target.method.params args) back
        (record {
          same_kind = same;
          same_fields = refl;
          whole = λ ne has kept. state_is_whole grain target.of_type has.held kept.1.0.0 there kept.0 kept.1.0.1;
        })
        (target_is_method types grain.kind target is program) (fails grain.kind target is)
        (bound_covers target.method.params args arity)
        (λ value has kept. said value has (kept.0, kept.1.1)) has (kept.0, (held, kept.1))

    -- a frame that joins
    joined_said : (floor : List GrainId) (run : Site → MethodTree → Locals → Back → Holding → Requests) →
        SaidFrames run →
        (kind : MethodKind) (at : ℕ) (grain : GrainId) (target : Target) (args : List Value) (back : Back) →
        numbered (slice_get types grain.kind) target.number ≡ Some target → target.method.kind ≡ kind →
        length args ≡ length target.method.params → SaidBack floor back →
        SaidGo floor (joined kind grain target.of_type.fields
        (run (record { fields = target.of_type.fields; kind = kind; grain = grain; context = true; depth = at })
        target.method (bound target.method.params args) back))
    joined_said floor run safe does_what.Plain at grain target args back is same arity said has kept =
        safe floor (field_names target.of_type.fields) _ target.method (bound target.method.params args) back
        (record { same_kind = same; same_fields = refl; whole = λ ne has kept. absurd (ne refl) })
        (target_is_method types grain.kind target is program) (fails grain.kind target is)
        (bound_covers target.method.params args arity)
        said has kept
    joined_said floor run safe does_what.Read at grain target args back is same arity said has kept =
        locked_said floor (mode_at grain has.held) Read grain target.of_type _
        (numbered_type (slice_get types grain.kind) target.number target is)
        (held_frame floor run safe does_what.Read at grain target args back is same arity said) has kept refl
    joined_said floor run safe does_what.Update at grain target args back is same arity said has kept =
        locked_said floor (mode_at grain has.held) Update grain target.of_type _
        (numbered_type (slice_get types grain.kind) target.number target is)
        (held_frame floor run safe does_what.Update at grain target args back is same arity said) has kept refl

    -- a method that may run without a transaction uses no field
    plain_kind : (kind : MethodKind) (option : TxnOption) → IsTransacted kind option → (within passed : Bool) →
        entered option within ≡ Plain passed → kind ≡ does_what.Plain
    plain_kind does_what.Plain option transacted within passed e = refl
    plain_kind does_what.Read option transacted within passed e = absurd (transacted (λ f. cc) within passed e)
    plain_kind does_what.Update option transacted within passed e = absurd (transacted (λ f. cc) within passed e)

    -- a frame or a unit of a called method, or the fault that refuses it
    enters_said : (floor : List GrainId) (runner : Runner) → IsSafe runner →
        (way : Entered) (at : ℕ) (grain : GrainId) (target : Target) →
        ((passed : Bool) → way ≡ Plain passed → target.method.kind ≡ does_what.Plain) →
        numbered (slice_get types grain.kind) target.number ≡ Some target → (args : List Value) →
        length args ≡ length target.method.params →
        (back : Back) (caught : Caught) → SaidBack floor back → SaidCaught floor caught →
        SaidGo floor (enters runner way at grain target args back caught)
    enters_said floor runner safe (Refused why) at grain target plain is args arity back caught said said' has kept =
        stop_said floor (option_refusal_text why) (refusal_said why) has kept
    enters_said floor None safe NewUnit at grain target plain is args arity back caught said said' has kept =
        stop_said floor depth own.depth has kept
    enters_said floor None safe Joined at grain target plain is args arity back caught said said' has kept =
        stop_said floor depth own.depth has kept
    enters_said floor None safe (Plain passed) at grain target plain is args arity back caught said said' has kept =
        stop_said floor depth own.depth has kept
    enters_said floor (Some run) safe NewUnit at grain target plain is args arity back caught said said' has kept =
        one_of_said (nat_lt has.asked unit_limit) _ _
        (λ outcome known. answered_said floor outcome back caught known said said' (one_asked has) kept)
        (stop_said floor units own.units has kept)
    enters_said floor (Some run) safe Joined at grain target plain is args arity back caught said said' has kept =
        joined_said floor run safe target.method.kind at grain target args back is refl arity said has kept
    enters_said floor (Some run) safe
        (Plain passed) at grain target plain is args arity back caught said said' has kept =
        safe floor (field_names target.of_type.fields) _ target.method (bound target.method.params args) back
        (record { same_kind = plain passed refl; same_fields = refl; whole = λ ne has kept. absurd (ne refl) })
        (target_is_method types grain.kind target is program) (fails grain.kind target is)
        (bound_covers target.method.params args arity)
        said has kept

    -- fields that may be read are all there
    readable_all : (kind : MethodKind) (fields : List FieldDecl) → kind ≢ does_what.Plain →
        readable kind fields ≡ fields
    readable_all does_what.Plain fields ne = absurd (ne refl)
    readable_all does_what.Read fields ne = refl
    readable_all does_what.Update fields ne = refl

    -- what stands for something before a name or a statement does behind it too
    name_before : (scope : Scope) (name : Name) (locals : Locals) → Covers (with_name scope name) locals →
        Covers scope locals
    name_before scope name locals covers other among =
        covers other (Contains-append_left scope (name.text ∷ []) other among)

    -- what stands for something before a statement does behind it too
    scope_before : (scope : Scope) (stmt : StmtTree) (locals : Locals) → Covers (scope_after scope stmt) locals →
        Covers scope locals
    scope_before scope (Bind name value) locals covers = name_before scope name locals covers
    scope_before scope (Rebind name value) locals covers = covers
    scope_before scope (SetField name value) locals covers = covers
    scope_before scope (Perform call) locals covers = covers
    scope_before scope (Choose test block other) locals covers = covers
    scope_before scope (Repeat test block) locals covers = covers
    scope_before scope (Give value) locals covers = covers
    scope_before scope (FailWith text) locals covers = covers
    scope_before scope (Try at name call block other) locals covers = covers

    module _ (floor : List GrainId) (runner : Runner) (site : Site) (safe : IsSafe runner) (back : Back)
        (fields : Scope) (kind : MethodKind)
        (placed : IsPlaced floor site kind fields) where
      -- what the body of the frame's method was checked in
      abbrev setting : Setting
      setting = record { types = types; fields = fields; kind = kind }

      -- names in the frame's expressions stand for something
      holds : (scope : Scope) (locals : Locals) → Covers scope locals → (has : Holding) → Kept floor has →
          Holds setting scope (around types runner site back locals has)
      holds scope locals covers has kept = record {
        covers = covers;
        fields = λ ne. let uses : site.kind ≢ does_what.Plain = λ e. ne (placed.same_kind ∙ e) in
            placed.same_fields ∙ ap field_names (sym (readable_all site.kind site.fields uses));
        whole = λ ne. let uses : site.kind ≢ does_what.Plain = λ e. ne (placed.same_kind ∙ e) in
            placed.whole uses has kept ∙ ap length (sym (readable_all site.kind site.fields uses));
      }

      -- an expression in the frame
      given_said : (scope : Scope) (expression : ExprTree) → IsExpressionInScope setting scope expression →
          (locals : Locals) → Covers scope locals →
          (has : Holding) → Kept floor has → IsSaidOf Q own (given types runner site back expression locals has)
      given_said scope expression right locals covers has kept =
          value_in_said Q own setting scope (around types runner site back locals has)
          (holds scope locals covers has kept) expression right

      -- a call of a method that is there
      to_target_said : (grain : GrainId) (target : Option Target) (found : Target) → target ≡ Some found →
          numbered (slice_get types grain.kind) found.number ≡ Some found → (args : List Value) →
          length args ≡ length found.method.params →
          (onto : Back) (caught : Caught) → SaidBack floor onto → SaidCaught floor caught →
          SaidGo floor (to_target runner site grain target args onto caught)
      to_target_said grain None found e is args arity onto caught said said' has kept = absurd (cc)
      to_target_said grain (Some target) found e is args arity onto caught said said' has kept =
          let same : found ≡ target = cc in
          let there : numbered (slice_get types grain.kind) target.number ≡ Some target =
          subst (λ (t : Target). numbered (slice_get types grain.kind) t.number ≡ Some t) same is in
          let method : IsAcceptedMethod types (field_names target.of_type.fields) target.method =
          target_is_method types grain.kind target there program in
          enters_said floor runner safe (entered target.method.option site.context) (site.depth + 1) grain target
          (λ passed f. plain_kind target.method.kind target.method.option method.transacted site.context passed f)
          there args
          (arity ∙ ap (λ (t : Target). length t.method.params) same) onto caught said said' has kept

      -- a call on a grain of a type that is there
      to_type_said : (number : Option ℕ) (n : ℕ) → number ≡ Some n →
          (at : ℕ) (name : List ℕ) (args : List Value) (found : Target) →
          method_target (slice_get types n) name ≡ Some found → length args ≡ length found.method.params →
          (onto : Back) (caught : Caught) → SaidBack floor onto → SaidCaught floor caught →
          SaidGo floor (to_type types runner site number at name args onto caught)
      to_type_said None n e at name args found is arity onto caught said said' has kept = absurd (cc)
      to_type_said (Some number) n e at name args found is arity onto caught said said' has kept =
          let same : n ≡ number = cc in
          let there : method_target (slice_get types number) name ≡ Some found =
          subst (λ (m : ℕ). method_target (slice_get types m) name ≡ Some found) same is in
          to_target_said (record { kind = number; key = at }) (method_target (slice_get types number) name) found there
          (method_of_is (slice_get types number) name found there) args arity onto caught said said' has kept

      -- a checked call
      calls_said : (scope : Scope) (call : CallTree) → IsCallInScope setting scope call → (onto : Back) (caught : Caught) →
          SaidBack floor onto →
          SaidCaught floor caught → (locals : Locals) → Covers scope locals →
          SaidGo floor (calls types runner site back call onto caught locals)
      calls_said scope call right onto caught said said' locals covers has kept =
          let finds : (n : ℕ) × (type_from 0 call.target.text types ≡ Some n) × (found : Target)
          × (method_target (slice_get types n) call.method.text ≡ Some found) =
          call_finds setting scope call right in
          with_value_said floor (given types runner site back call.place locals has) has _ kept
          (given_said scope call.place right.place locals covers has kept) (λ place.
          with_values_said floor (values_in (around types runner site back locals has) call.args) has _ kept
          (values_in_said Q own setting scope (around types runner site back locals has)
          (holds scope locals covers has kept) call.args right.args) (λ args e.
          with_key_said floor place has _ kept (λ at.
          to_type_said (type_from 0 call.target.text types) finds.0 finds.1 at call.method.text args finds.2 finds.3
          (values_in_length (around types runner site back locals has) call.args args e
          ∙ call_has_arity setting scope call right finds.0 finds.2 finds.1 finds.3)
          onto caught said said' has kept)))

      -- what a local is given
      sourced_said : (scope : Scope) (source : SourceTree) → IsSourceInScope setting scope source → (onto : Value → Next) →
          ((value : Value) (locals : Locals) → Covers scope locals → SaidGo floor (onto value locals)) →
          SaidNext floor scope (sourced types runner site back source onto)
      unfolding IsSourceInScope
      sourced_said scope (Computed expression) right onto said locals covers has kept =
          with_value_said floor (given types runner site back expression locals has) has _ kept
          (given_said scope expression right locals covers has kept)
          (λ value. said value locals covers has kept)
      sourced_said scope (Called call) right onto said locals covers has kept =
          calls_said scope call right (λ value. onto value locals) stop
          (λ value has kept. said value locals covers has kept) (stop_said floor) locals covers has kept

      -- a field that is there is set
      sets_said : (scope : Scope) (number : Option ℕ) (i : ℕ) → number ≡ Some i → (value : Value) (next : Next) →
          SaidNext floor scope next →
          SaidNext floor scope (sets types runner site back number value next)
      sets_said scope None i e value next said locals covers has kept = absurd (cc)
      sets_said scope (Some number) i e value next said locals covers has kept =
          let after : Holding = with_held has (change site.grain (with_field number value) has.held) in
          let whole : All IsWhole after.held = All-change IsWhole site.grain (with_field number value) has.held kept.0
          (λ one e f is of_type there. length-set one.state number value ∙ is of_type there) in
          let above : Above floor after.held =
          Above-kept floor has.held after.held
          (λ g m e. (m, mode_at-with_field g site.grain number value has.held ∙ e)) kept.1 in
          said locals covers after (whole, above)

      -- turns of a loop
      turns_said : (scope : Scope) (count : ℕ) (test : ExprTree) → IsExpressionInScope setting scope test →
          (body : Next → Next) →
          ((next : Next) → SaidNext floor scope next → SaidNext floor scope (body next)) → (next : Next) →
          SaidNext floor scope next →
          SaidNext floor scope (turns types runner site back count test body next)
      turns_said scope zero test right body bodies next said =
          λ locals covers has kept. stop_said floor budget own.budget has kept
      turns_said scope (suc count) test right body bodies next said =
          step_said floor scope _ (λ locals covers has kept.
          with_value_said floor (given types runner site back test locals has) has _ kept
          (given_said scope test right locals covers has kept) (λ value.
          chosen_said floor value has _ _ kept
          (bodies _ (turns_said scope count test right body bodies next said) locals covers has kept)
          (said locals covers has kept)))

      module _ (backs : SaidBack floor back) where
        mutual
          unfolding IsStatementInScope IsBlockInScope IsElseInScope

          -- a checked statement, block and second block, where what follows is known
          does_said : (scope : Scope) (stmt : StmtTree) → IsStatementInScope setting scope stmt →
              ((text : List ℕ) → StatementFails stmt text → Q text) →
              (next : Next) → SaidNext floor (scope_after scope stmt) next →
              SaidNext floor scope (does types runner site back stmt next)
          does_said scope (Bind name value) right says next said =
              sourced_said scope value right.1 _
              (λ found locals covers has kept.
              said _ (put_covers_more scope name.text found locals covers) has kept)
          does_said scope (Rebind name value) right says next said =
              sourced_said scope value right.1 _
              (λ found locals covers has kept. said _ (put_covers scope name.text found locals covers) has kept)
          does_said scope (SetField name value) right says next said = λ locals covers has kept.
              let among : Contains (field_names site.fields) name.text =
              subst (λ (l : Scope). Contains l name.text) placed.same_fields right.0.0 in
              let there : (k : ℕ) × (field_named name.text site.fields ≡ Some (0 + k)) × (k < length site.fields) =
              field_is_there 0 name.text site.fields among in
              let updates : site.kind ≡ does_what.Update = sym placed.same_kind ∙ right.0.1 in
              let number : field_named name.text (settable site.kind site.fields) ≡ Some (0 + there.0) =
              ap (λ (k : MethodKind). field_named name.text (settable k site.fields)) updates ∙ there.1 in
              with_value_said floor (given types runner site back value locals has) has _ kept
              (given_said scope value right.1 locals covers has kept) (λ found.
              sets_said scope (field_named name.text (settable site.kind site.fields))
              (0 + there.0) number found next said locals covers has kept)
          does_said scope (Perform call) right says next said = λ locals covers has kept.
              calls_said scope call right _ stop (λ value has kept. said locals covers has kept)
              (stop_said floor) locals covers has kept
          does_said scope (Choose test block otherwise) right says next said = λ locals covers has kept.
              with_value_said floor (given types runner site back test locals has) has _ kept
              (given_said scope test right.0.0 locals covers has kept) (λ value.
              chosen_said floor value has _ _ kept
              (runs_said scope block right.0.1 (λ text f. says text (inl f)) next said locals covers has kept)
              (runs_else_said scope otherwise right.1
              (λ text f. says text (inr f)) next said locals covers has kept))
          does_said scope (Repeat test block) right says next said = λ locals covers has kept.
              turns_said scope (suc has.left) test right.0 (runs types runner site back block)
              (λ next said. runs_said scope block right.1 says next said) next said locals covers has kept
          does_said scope (Give value) right says next said = λ locals covers has kept.
              with_value_said floor (given types runner site back value locals has) has _ kept
              (given_said scope value right locals covers has kept)
              (λ found. backs found has kept)
          does_said scope (FailWith text) right says next said =
              λ locals covers has kept. stop_said floor (fitted text) (says (fitted text) refl) has kept
          does_said scope (Try at name call block otherwise) right says next said = λ locals covers has kept.
              let next_said : SaidNext floor (with_name scope name) next =
              λ locals covers. said locals (name_before scope name locals covers) in
              calls_said scope call right.0.0.1 _ _
              (λ value has kept. runs_said (with_name scope name) block right.0.1
              (λ text f. says text (inl f)) next next_said (put_local name.text value locals)
              (put_covers_more scope name.text value locals covers) has kept)
              (λ fault known has kept. runs_said (with_name scope name) otherwise right.1
              (λ text f. says text (inr f)) next next_said (put_local name.text (Text fault) locals)
              (put_covers_more scope name.text (Text fault) locals covers) has kept)
              locals covers has kept

          runs_said : (scope : Scope) (block : BlockTree) → IsBlockInScope setting scope block →
              ((text : List ℕ) → BlockFails block text → Q text) → (next : Next) →
              SaidNext floor scope next → SaidNext floor scope (runs types runner site back block next)
          runs_said scope NoMore right says next said = said
          runs_said scope (Then first rest) right says next said =
              step_said floor scope _ (does_said scope first right.0 (λ text f. says text (inl f)) _
              (runs_said (scope_after scope first) rest right.1 (λ text f. says text (inr f)) next
              (λ locals covers. said locals (scope_before scope first locals covers))))

          runs_else_said : (scope : Scope) (block : ElseTree) → IsElseInScope setting scope block →
              ((text : List ℕ) → ElseFails block text → Q text) → (next : Next) →
              SaidNext floor scope next → SaidNext floor scope (runs_else types runner site back block next)
          runs_else_said scope NoElse right says next said = said
          runs_else_said scope (Else block) right says next said = runs_said scope block right says next said

    -- frames that are at most so deep
    deep_is_said : (n : ℕ) → IsSafe (deep types n)
    deep_is_said zero = tt
    deep_is_said (suc n) = λ floor fields site method locals back placed right says covers backs.
        runs_said floor (deep types n) site (deep_is_said n) back fields method.kind placed backs
        (map (λ n. n.text) method.params) method.body right.body says _
        (λ after cover has kept. backs (Int (pos 0)) has kept) locals covers

    -- a first frame is plain only where its option makes it so
    as_first_plain : (way : Entered) (passed : Bool) → as_first way ≡ Plain passed → way ≡ Plain passed
    as_first_plain NewUnit passed e = absurd (cc)
    as_first_plain Joined passed e = absurd (cc)
    as_first_plain (Plain context) passed e = e
    as_first_plain (Refused why) passed e = absurd (cc)

    -- a unit's first frame
    first_frame_said : (runner : Runner) → IsSafe runner →
        (at : ℕ) (call : Call) (target : Option Target) (found : Target) → target ≡ Some found →
        numbered (slice_get types call.grain.kind) found.number ≡ Some found →
        length call.args ≡ length found.method.params → IsSaid (first_frame runner at call target)
    first_frame_said runner safe at call None found e is arity = absurd (cc)
    first_frame_said runner safe at call (Some target) found e is arity =
        let same : found ≡ target = cc in
        let there : numbered (slice_get types call.grain.kind) target.number ≡ Some target =
        subst (λ (t : Target). numbered (slice_get types call.grain.kind) t.number ≡ Some t) same is in
        let method : IsAcceptedMethod types (field_names target.of_type.fields) target.method =
        target_is_method types call.grain.kind target there program in
        enters_said [] runner safe (as_first (entered target.method.option false)) at call.grain target
        (λ passed f. plain_kind target.method.kind target.method.option method.transacted false passed
        (as_first_plain (entered target.method.option false) passed f)) there
        call.args (arity ∙ ap (λ (t : Target). length t.method.params) same) ends_unit stop
        (λ value has kept text e. absurd (cc)) (stop_said []) at_start (All-nil IsWhole, tt)

    -- the run of a call of a checked program
    pub unit_said : (call : Call) (at : ℕ) → IsCallOf types call → IsSaid (unit types call at)
    unfolding unit
    unit_said call at right =
        first_frame_said (deep types (depth_limit + 1 - at)) (deep_is_said (depth_limit + 1 - at)) at call
        (numbered (slice_get types call.grain.kind) call.method) right.target right.is_there
        (numbered_is (slice_get types call.grain.kind) call.method right.target right.is_there) right.arity

  -- over answers whose faults are known, the fault of a play is
  pub serve_said : (run : Requests) → IsSaid run → (states : GrainId → List Value) (answers : List Outcome) →
      All (λ answer. (text : List ℕ) → answer ≡ Fault text → Q text) answers → (text : List ℕ) →
      (serve run states answers).result ≡ Fault text → Q text
  serve_said (End result has) said states answers known text e = said text e
  serve_said (AskLock grain mode go) said states answers known text e =
      serve_said (go (states grain)) (said (states grain)) states answers known text e
  serve_said (AskRaise grain rest) said states answers known text e = serve_said rest said states answers known text e
  serve_said (AskUnit call at go) said states [] known text e =
      serve_said (go Aborted) (said Aborted (λ t f. absurd (cc))) states [] known text e
  serve_said (AskUnit call at go) said states (answer ∷ answers) known text e =
      let P : Outcome → Type 0 = λ answer. (text : List ℕ) → answer ≡ Fault text → Q text in
      serve_said (go answer) (said answer (All-head P answer answers known)) states answers
      (All-tail P answer answers known) text e
