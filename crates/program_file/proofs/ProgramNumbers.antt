-- Programs by their numbers, what stands behind one of them, and what a state means that was written under it.
use Rattle.std.proofs.Common.{◌≡◌, ◌<◌, ◌+◌, ◌-◌, ℕ, zero, suc, List, [], ◌∷◌, length, map, take, drop, get_or, Option, Some, None, Result, Ok, Err, slice_get, refl, sym, ap, subst, ◌∙◌, arith}
use Rattle.std.specs.Prelude.{option_map, IfOk}
use Rattle.std.proofs.lemmas.List.{length-map, length-drop, take_all, drop-map, drop_all}
use Rattle.std.proofs.lemmas.Option.{slice_get-map, slice_get_read}
use Rattle.base_types.specs.declared.calls.GrainId.{GrainId}
use Rattle.base_types.specs.declared.calls.Value.{Value}
use Rattle.base_types.specs.declared.shapes.Shape.{Shape}
use Rattle.base_types.specs.declared.stores.Version.{Version}
use Rattle.grain_log.specs.Reads.{fields_of}
use Rattle.script_tree.specs.declared.programs.Program.{Program}
use Rattle.script_tree.specs.Programs.{ProgramTree, program_tree}
use Rattle.script_tree.specs.declared.programs.FieldDecl.{FieldDecl}
use Rattle.script_check.specs.Shapes.{value_of, type_shapes}
use Rattle.script_check.specs.Comparison.{GoesOnFrom, GoOnInTurn, last_program}
use Rattle.script_check.specs.Carrying.{fields_of_kind, carried_along}
use Rattle.script_check.proofs.ComparedNames.{along, types}
use Rattle.script_check.proofs.CarriedFields.{counts}
use Rattle.program_file.specs.Succession.{AreInTurn, ArePrograms, newest_program, shapes_in_turn, carried_on, carried_from, version_meant}
use Rattle.program_file.specs.ProgramsInTurn.{programs_in, newest_in, HasItsFields, HasFieldsBy, HasFieldsUnder}
use Rattle.program_file.specs.declared.programs_in_turn.ProgramsInTurn.{ProgramsInTurn}

-- ---- one of them

-- the types of a program that was read at a number
pub program_at : (programs : List Program) (n : ℕ) (p : Program) → n < length programs → p ≡ get_or programs n p → slice_get (map program_tree programs) n ≡ Some (program_tree p)
program_at programs n p low is = slice_get-map program_tree programs n ∙ ap (option_map program_tree) (slice_get_read programs (length programs) n p refl low is)

-- the shape of a program of this number
pub shape_at : (programs : List ProgramTree) (n : ℕ) (t : ProgramTree) → slice_get programs n ≡ Some t → slice_get (shapes_in_turn programs) n ≡ Some (record { types = type_shapes t })
shape_at programs n t is = slice_get-map (λ (x : ProgramTree). record { types = type_shapes x }) programs n ∙ ap (option_map (λ (x : ProgramTree). record { types = type_shapes x })) is

-- those that came into force after it go on from it
pub behind : (programs : List ProgramTree) (n : ℕ) (t : ProgramTree) → AreInTurn programs → slice_get programs n ≡ Some t → GoOnInTurn t (drop (n + 1) programs)
behind [] n t all is = absurd all
behind (x ∷ programs) zero t all is = (let same : x ≡ t = cc in subst (λ (y : ProgramTree). GoOnInTurn y programs) same all)
behind (x ∷ []) (suc n) t all is = absurd cc
behind (x ∷ (y ∷ programs)) (suc n) t all is = (let same : suc (n + 1) ≡ suc n + 1 = omega arith in subst (λ (k : ℕ). GoOnInTurn t (drop k (x ∷ (y ∷ programs)))) same (behind (y ∷ programs) n t all.1 is))

-- which are these
pub later_are : (read programs : List Program) (n : ℕ) → read ≡ programs → map program_tree (take (length read - (n + 1)) (drop (n + 1) read)) ≡ drop (n + 1) (map program_tree programs)
later_are read programs n same =
    let all : take (length read - (n + 1)) (drop (n + 1) read) ≡ drop (n + 1) read = take_all (length read - (n + 1)) (drop (n + 1) read) (let many = length-drop (n + 1) read in omega (arith, many)) in
    ap (map program_tree) all ∙ sym (drop-map program_tree (n + 1) read) ∙ ap (λ (l : List Program). drop (n + 1) (map program_tree l)) same

-- the last of them is the last of all
pub newest_behind : (programs : List ProgramTree) (n : ℕ) (t : ProgramTree) → slice_get programs n ≡ Some t → last_program t (drop (n + 1) programs) ≡ newest_program programs
newest_behind [] n t is = absurd cc
newest_behind (x ∷ programs) zero t is = (let same : x ≡ t = cc in ap (λ (y : ProgramTree). last_program y programs) (sym same))
newest_behind (x ∷ []) (suc n) t is = absurd cc
newest_behind (x ∷ (y ∷ programs)) (suc n) t is = (let same : suc (n + 1) ≡ suc n + 1 = omega arith in ap (λ (k : ℕ). last_program t (drop k (x ∷ (y ∷ programs)))) (sym same) ∙ newest_behind (y ∷ programs) n t is)

-- it has the last number
pub newest_at : (programs : List ProgramTree) (n : ℕ) → n + 1 ≡ length programs → slice_get programs n ≡ Some (newest_program programs)
newest_at [] n last = absurd (omega (arith, last))
newest_at (x ∷ []) zero last = refl
newest_at (x ∷ []) (suc n) last = absurd (omega (arith, last))
newest_at (x ∷ (y ∷ programs)) zero last = absurd (omega (arith, last))
newest_at (x ∷ (y ∷ programs)) (suc n) last = newest_at (y ∷ programs) n (omega (arith, last))

-- there is one
pub some_program : (programs : List ProgramTree) → AreInTurn programs → length programs - 1 + 1 ≡ length programs
some_program [] all = absurd all
some_program (x ∷ programs) all = omega arith

-- the number of the one in force is that of one
pub newest_low : (known : ProgramsInTurn) → ArePrograms (programs_in known) → newest_in known < length known.checked
newest_low known are =
    let same : length (programs_in known) ≡ length known.checked = length-map known.checked program_tree in
    let some = some_program (programs_in known) are.in_turn in
    omega (arith, same, some)

-- and its shape is that of the last
pub newest_shape : (known : ProgramsInTurn) → ArePrograms (programs_in known) → slice_get (shapes_in_turn (programs_in known)) (newest_in known) ≡ Some (record { types = type_shapes (newest_program (programs_in known)) })
newest_shape known are =
    let same : length (programs_in known) ≡ length known.checked = length-map known.checked program_tree in
    let some = some_program (programs_in known) are.in_turn in
    shape_at (programs_in known) (newest_in known) (newest_program (programs_in known)) (newest_at (programs_in known) (newest_in known) (omega (arith, same, some)))

-- a number at which there is one
pub some_low : {A : Type 0} (xs : List A) (n : ℕ) (x : A) → slice_get xs n ≡ Some x → n < length xs
some_low [] n x is = absurd cc
some_low (y ∷ xs) zero x is = omega arith
some_low (y ∷ xs) (suc n) x is = (let rest = some_low xs n x is in omega (arith, rest))

-- where it has a shape it is the last number
pub newest_last : (known : ProgramsInTurn) (shape : Shape) → slice_get (shapes_in_turn (programs_in known)) (newest_in known) ≡ Some shape → newest_in known + 1 ≡ length (programs_in known)
newest_last known shape is =
    let low = some_low (shapes_in_turn (programs_in known)) (newest_in known) shape is in
    let shapes : length (shapes_in_turn (programs_in known)) ≡ length (programs_in known) = length-map (programs_in known) (λ (x : ProgramTree). record { types = type_shapes x }) in
    let programs : length (programs_in known) ≡ length known.checked = length-map known.checked program_tree in
    omega (arith, low, shapes, programs)

-- ---- states

-- how many fields a type has by the shape and by the program
fields_there : (t : ProgramTree) (kind count : ℕ) → fields_of (slice_get (type_shapes t) kind) ≡ Some count → (kind < length t) × (count ≡ length (fields_of_kind t kind))
fields_there [] kind count is = absurd cc
fields_there (x ∷ t) zero count is = (let same : length (map (λ (f : FieldDecl). value_of f.initial) x.fields) ≡ count = cc in (omega arith, sym same ∙ length-map x.fields (λ (f : FieldDecl). value_of f.initial)))
fields_there (x ∷ t) (suc kind) count is = (let rest = fields_there t kind count is in (omega (arith, rest.0), rest.1))

-- a state with as many fields as the shape says
pub has_fields : (programs : List ProgramTree) (n : ℕ) (t : ProgramTree) (g : GrainId) (state : List Value) → slice_get programs n ≡ Some t → fields_of (slice_get (type_shapes t) g.kind) ≡ Some (length state) → HasFieldsUnder programs n g state
has_fields programs n t g state is typed =
    let there = fields_there t g.kind (length state) typed in
    subst (λ (o : Option ProgramTree). HasFieldsBy o g state) (sym is) (record { kind = there.0; fields = there.1 })

-- only under a program that is there
pub fields_low : (programs : List ProgramTree) (n : ℕ) (g : GrainId) (state : List Value) → HasFieldsUnder programs n g state → n < length programs
fields_low [] n g state typed = absurd typed
fields_low (x ∷ programs) zero g state typed = omega arith
fields_low (x ∷ programs) (suc n) g state typed = (let rest = fields_low programs n g state typed in omega (arith, rest))

-- under a program that is there
pub fields_at : (programs : List ProgramTree) (n : ℕ) (t : ProgramTree) (g : GrainId) (state : List Value) → slice_get programs n ≡ Some t → HasFieldsUnder programs n g state → HasItsFields t g state
fields_at programs n t g state is typed = subst (λ (o : Option ProgramTree). HasFieldsBy o g state) is typed

-- what a state means under a program that is there
pub carried_is : (programs : List ProgramTree) (n : ℕ) (t : ProgramTree) (kind : ℕ) (state : List Value) → slice_get programs n ≡ Some t → carried_from programs n kind state ≡ carried_along t (drop (n + 1) programs) kind state
carried_is programs n t kind state is = ap (λ (o : Option ProgramTree). carried_on o (drop (n + 1) programs) kind state) is

-- it has the fields of the last one
pub carried_fits : (programs : List ProgramTree) (n : ℕ) (t : ProgramTree) (g : GrainId) (state : List Value) → AreInTurn programs → slice_get programs n ≡ Some t → HasItsFields t g state
    → HasItsFields (newest_program programs) g (carried_along t (drop (n + 1) programs) g.kind state)
carried_fits programs n t g state all is typed =
    let later = drop (n + 1) programs in
    let on : GoesOnFrom t (last_program t later) = along t later (behind programs n t all is) in
    subst (λ (y : ProgramTree). HasItsFields y g (carried_along t later g.kind state)) (newest_behind programs n t is)
    (record { kind = types t (last_program t later) g.kind on typed.kind; fields = counts t later g.kind state typed.fields })

carried_none : (o : Option ProgramTree) (later : List ProgramTree) (kind : ℕ) (state : List Value) → later ≡ [] → carried_on o later kind state ≡ state
carried_none None later kind state none = refl
carried_none (Some t) later kind state none = ap (λ (l : List ProgramTree). carried_along t l kind state) none

-- a state that was written under the last one means itself
pub carried_newest : (programs : List ProgramTree) (n kind : ℕ) (state : List Value) → n + 1 ≡ length programs → carried_from programs n kind state ≡ state
carried_newest programs n kind state last = carried_none (slice_get programs n) (drop (n + 1) programs) kind state (drop_all (n + 1) programs (omega (arith, last)))

-- and so does a version
pub meant_newest : (programs : List ProgramTree) (n : ℕ) (g : GrainId) (v : Version) → n + 1 ≡ length programs → version_meant programs n g v ≡ v
meant_newest programs n g v last = λ i. record { unit = v.unit; state = carried_newest programs n g.kind v.state last i }

-- what an answer says leads to more
pub if_ok : {T E : Type 0} (P Q : T → Type 0) (r : Result T E) → ((x : T) → P x → Q x) → IfOk r P → IfOk r Q
if_ok P Q (Ok x) lead p = lead x p
if_ok P Q (Err e) lead p = tt
