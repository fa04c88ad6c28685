-- Fields that keep their values.
use Rattle.std.proofs.Common.{◌≡◌, ◌≢◌, ◌⊎◌, inl, inr, ℕ, zero, suc, ◌<◌, ◌≤◌, Bool, true, false, cond, List, [], ◌∷◌, ◌++◌, length, map, get_or, Option, Some, None, refl, sym, subst, ap, ◌∙◌, arith}
use Rattle.std.specs.Prelude.{bytes_eq, nat_lt}
use Rattle.std.specs.List.{position, position_or_len}
use Rattle.std.proofs.lemmas.List.{length-map, get_or_default, ext_get_or}
use Rattle.std.proofs.lemmas.List.Sums.{position_or_len_is}
use Rattle.std.proofs.lemmas.Slice.Eq.{bytes_eq-Decides}
use Rattle.std.proofs.lemmas.List.Elements.{All-head, All-tail, All-weaker}
use Rattle.std.specs.List.{All}
use Rattle.base_types.specs.declared.calls.Value.{Value}
use Rattle.base_types.specs.Lists.{Member}
use Rattle.script_tree.specs.declared.programs.FieldDecl.{FieldDecl}
use Rattle.script_tree.specs.Programs.{TypeTree, ProgramTree}
use Rattle.script_check.specs.Programs.{field_names}
use Rattle.script_check.specs.AcceptedPrograms.{AreNamesApart, IsAcceptedType, IsAcceptedProgram}
use Rattle.script_check.specs.Shapes.{value_of}
use Rattle.script_check.specs.Carrying.{kept_at, kept_value, carried_fields, carried_state, carried_along, fields_of_kind, initials}
use Rattle.script_check.specs.Comparison.{last_program}

-- ---- places

below : (n : ℕ) → nat_lt n n ≡ false
below n = grind arith

within : (i n : ℕ) → i < n → nat_lt i n ≡ true
within i n lt = grind arith

-- the first item that passes is at its place
at_place : {X : Type 0} (p : X → Bool) (xs : List X) (i : ℕ) (d : X) → i < length xs → ((k : ℕ) → k < i → p (get_or xs k d) ≡ false) → p (get_or xs i d) ≡ true → position p xs ≡ Some i
at_place p xs i d lt before here =
    let le : i ≤ length xs = omega (arith, lt) in
    let e : position_or_len p xs ≡ i = position_or_len_is p xs i d le before (λ _. here) in
    ap (λ (n : ℕ). cond (nat_lt n (length xs)) (Some n) None) e ∙ ap (λ (b : Bool). cond b (Some i) None) (within i (length xs) lt)

-- where none passes there is no place
no_place : {X : Type 0} (p : X → Bool) (xs : List X) (d : X) → ((k : ℕ) → k < length xs → p (get_or xs k d) ≡ false) → position p xs ≡ None
no_place p xs d none =
    let le : length xs ≤ length xs = omega arith in
    let e : position_or_len p xs ≡ length xs = position_or_len_is p xs (length xs) d le none (λ lt. absurd (omega (arith, lt))) in
    ap (λ (n : ℕ). cond (nat_lt n (length xs)) (Some n) None) e ∙ ap (λ (b : Bool). cond b (Some (length xs)) None) (below (length xs))

-- an item of a mapped list
pub mapped_at : {X Y : Type 0} (f : X → Y) (xs : List X) (i : ℕ) (d : X) (e : Y) → i < length xs → get_or (map f xs) i e ≡ f (get_or xs i d)
mapped_at f [] i d e lt = absurd (omega (arith, lt))
mapped_at f (x ∷ xs) zero d e lt = refl
mapped_at f (x ∷ xs) (suc i) d e lt = (let less : i < length xs = omega (arith, lt) in mapped_at f xs i d e less)

-- ---- names

no_match : (a b : List ℕ) → a ≢ b → bytes_eq a b ≡ false
no_match a b ne = by_case (bytes_eq a b) refl where
  by_case : (t : Bool) → bytes_eq a b ≡ t → bytes_eq a b ≡ false
  by_case true e = absurd (ne ((bytes_eq-Decides a b).0 e))
  by_case false e = e

-- the field that a name is of
abbrev pub has_name : List ℕ → FieldDecl → Bool
has_name name g = bytes_eq g.name.text name

found : (olds : List FieldDecl) (i : ℕ) (f : FieldDecl) (name : List ℕ) → AreNamesApart (field_names olds) → i < length olds → (get_or olds i f).name.text ≡ name → position (has_name name) olds ≡ Some i
found olds i f name apart lt is =
    at_place (has_name name) olds i f lt
    (λ k less. no_match (get_or olds k f).name.text name (λ same.
    let short : k < length olds = omega (arith, less, lt) in
    let reaches : i < length (field_names olds) = (let n = length-map olds (λ g. g.name.text) in omega (arith, n, lt)) in
    apart k i f.name.text less reaches
    (mapped_at (λ (g : FieldDecl). g.name.text) olds k f f.name.text short ∙ same ∙ sym is ∙ sym (mapped_at (λ (g : FieldDecl). g.name.text) olds i f f.name.text lt))))
    ((bytes_eq-Decides (get_or olds i f).name.text name).1 is)

-- ---- carried states

pub count : (olds news : List FieldDecl) (values : List Value) → length (carried_fields olds news values) ≡ length news
count olds news values = length-map news (kept_value olds values)

pub kept : (olds news : List FieldDecl) (values : List Value) (i j : ℕ) (f : FieldDecl) (v : Value) → AreNamesApart (field_names olds) → i < length olds → j < length news → length values ≡ length olds → (get_or olds i f).name.text ≡ (get_or news j f).name.text → get_or (carried_fields olds news values) j v ≡ get_or values i v
kept olds news values i j f v apart lt less many is =
    let new = get_or news j f in
    let place : position (has_name new.name.text) olds ≡ Some i = found olds i f new.name.text apart lt is in
    let there : i < length values = omega (arith, lt, many) in
    mapped_at (kept_value olds values) news j f v less ∙ ap (λ (o : Option ℕ). kept_at o values (value_of new.initial)) place ∙ get_or_default values i (value_of new.initial) v there

pub added : (olds news : List FieldDecl) (values : List Value) (j : ℕ) (f : FieldDecl) (v : Value) → j < length news → ((i : ℕ) → i < length olds → (get_or olds i f).name.text ≢ (get_or news j f).name.text) → get_or (carried_fields olds news values) j v ≡ value_of (get_or news j f).initial
added olds news values j f v less none =
    let new = get_or news j f in
    let place : position (has_name new.name.text) olds ≡ None = no_place (has_name new.name.text) olds f (λ k lt. no_match (get_or olds k f).name.text new.name.text (none k lt)) in
    mapped_at (kept_value olds values) news j f v less ∙ ap (λ (o : Option ℕ). kept_at o values (value_of new.initial)) place

a_field : FieldDecl → List FieldDecl → FieldDecl
a_field d [] = d
a_field d (f ∷ fs) = f

pub same : (fields : List FieldDecl) (values : List Value) → AreNamesApart (field_names fields) → length values ≡ length fields → carried_fields fields fields values ≡ values
same [] [] apart many = refl
same [] (v ∷ vs) apart many = absurd (omega (arith, many))
same (f ∷ fs) values apart many =
    let fields = f ∷ fs in
    ext_get_or (value_of f.initial) (carried_fields fields fields values) values (count fields fields values ∙ sym many)
    (λ j lt. let less : j < length fields = (let n = count fields fields values in omega (arith, n, lt)) in
    kept fields fields values j j f (value_of f.initial) apart less less many refl)

-- the fields of a type have names of their own
abbrev pub HasNamesApart : TypeTree → Type 0
HasNamesApart t = AreNamesApart (field_names t.fields)

under_itself : (types : ProgramTree) (kind : ℕ) (values : List Value) → All HasNamesApart types → length values ≡ length (fields_of_kind types kind) → carried_fields (fields_of_kind types kind) (fields_of_kind types kind) values ≡ values
under_itself [] kind [] apart many = refl
under_itself [] kind (v ∷ vs) apart many = absurd (omega (arith, many))
under_itself (t ∷ ts) zero values apart many = same t.fields values (All-head HasNamesApart t ts apart) many
under_itself (t ∷ ts) (suc kind) values apart many = under_itself ts kind values (All-tail HasNamesApart t ts apart) many

pub again : (program : ProgramTree) (kind : ℕ) (values : List Value) → IsAcceptedProgram program → length values ≡ length (fields_of_kind program kind) → carried_state program program kind values ≡ values
again program kind values ok many = under_itself program kind values (All-weaker (IsAcceptedType program) HasNamesApart (λ t h. h.fields_apart) program ok.each) many

-- a value that is read is one of those there, or the one in place of a missing one
got : (values : List Value) (i : ℕ) (d : Value) → Member (get_or values i d) values ⊎ (get_or values i d ≡ d)
got [] i d = inr refl
got (v ∷ vs) zero d = inl (inl refl)
got (v ∷ vs) (suc i) d = elim (got vs i d) [ inl m ↦ inl (inr m) | inr e ↦ inr e ]

one_kept : (o : Option ℕ) (values : List Value) (d v : Value) → v ≡ kept_at o values d → Member v values ⊎ (v ≡ d)
one_kept None values d v e = inr e
one_kept (Some i) values d v e = elim (got values i d) [ inl m ↦ inl (subst (λ (x : Value). Member x values) (sym e) m) | inr is ↦ inr (e ∙ is) ]

pub only : (olds news : List FieldDecl) (values : List Value) (v : Value) → Member v (carried_fields olds news values) → Member v values ⊎ Member v (initials news)
only olds [] values v m = absurd m
only olds (f ∷ fs) values v (inl e) = elim (one_kept (position (has_name f.name.text) olds) values (value_of f.initial) v e) [ inl m ↦ inl m | inr is ↦ inr (inl is) ]
only olds (f ∷ fs) values v (inr m) = elim (only olds fs values v m) [ inl there ↦ inl there | inr new ↦ inr (inr new) ]

-- ---- along programs

pub along : (first : ProgramTree) (some more : List ProgramTree) (kind : ℕ) (values : List Value) → carried_along first (some ++ more) kind values ≡ carried_along (last_program first some) more kind (carried_along first some kind values)
along first [] more kind values = refl
along first (next ∷ later) more kind values = along next later more kind (carried_state first next kind values)

pub counts : (first : ProgramTree) (later : List ProgramTree) (kind : ℕ) (values : List Value) → length values ≡ length (fields_of_kind first kind) → length (carried_along first later kind values) ≡ length (fields_of_kind (last_program first later) kind)
counts first [] kind values many = many
counts first (next ∷ later) kind values many = counts next later kind (carried_state first next kind values) (count (fields_of_kind first kind) (fields_of_kind next kind) values)
