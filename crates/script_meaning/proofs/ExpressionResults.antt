-- What an expression of a checked program gives: a value, or a fault of the language's own.
use Rattle.std.proofs.Common.{◌≡◌, ◌≢◌, ℕ, zero, suc, ◌+◌, ◌<◌, List, [], ◌∷◌, ◌++◌, length, Bool, true, false, ◌⊎◌, pos, negsuc, Option, Some, None, Result, Ok, Err, refl, sym, ap, ◌∙◌, subst, inl, inr, arith}
use Rattle.std.specs.Prelude.{if◌then◌else◌, nat_le, bytes_eq, slice_get, ℤ, ◌+ℤ◌, ◌-ℤ◌, ◌*ℤ◌, neg_ℤ, int_div, int_rem}
use Rattle.std.specs.List.{All, Contains}
use Rattle.std.proofs.lemmas.Slice.Eq.{bytes_eq-Decides}
use Rattle.std.proofs.lemmas.Option.{slice_get-get_or}
use Rattle.std.proofs.lemmas.List.Elements.{All-head, All-tail, Contains-push_cases}
use Rattle.base_types.specs.declared.calls.Value.{Value}
use Rattle.base_types.specs.declared.calls.Value.TheVariants.{Int, Text}
use Rattle.script_tree.specs.declared.expressions.Name.{Name}
use Rattle.script_tree.specs.declared.expressions.UnaryOp.{UnaryOp}
use Rattle.script_tree.specs.declared.expressions.UnaryOp.TheVariants.{Minus, Not}
use Rattle.script_tree.specs.declared.expressions.BinaryOp.{BinaryOp}
use Rattle.script_tree.specs.declared.expressions.BinaryOp.TheVariants.{Add, Sub, Mul, Div, Rem, Lt, Le, Gt, Ge, Eq, Ne, And, Or}
use Rattle.script_tree.specs.declared.options.EntryRefusal.TheVariants.{NoTransaction, NotAllowed}
use Rattle.script_tree.specs.declared.options.MethodKind.TheVariants.{Plain}
use Rattle.script_tree.specs.declared.programs.FieldDecl.{FieldDecl}
use Rattle.script_tree.specs.Exprs.{ExprTree, Constant, Variable, TheKey, Prefixed, Joined}
use Rattle.script_scopes.specs.Names.{Scope, Setting}
use Rattle.script_scopes.specs.Bodies.{IsVariable, IsExpressionInScope}
use Rattle.script_check.specs.Programs.{field_names}
use Rattle.script_values.specs.Expressions.{Locals, Surroundings, put_local, local_named, field_from, field_named, known_value, field_value, or_field, value_named, and_so_on, or_so_on, between, value_in, one_more, values_in}
use Rattle.script_values.specs.Faults.{overflow, divide, kind, key, too_long, budget, depth, units, grains, option_refusal_text, aborted}
use Rattle.script_values.specs.Values.{ValueOrFault, then_value, with_number, fits, within, joined_text, is_true, prefixed, quotient, remainder, of_numbers, of_texts, of_kinds, combined}

-- a local or parameter of each name in scope has a value
abbrev pub Covers : Scope → Locals → Type 0
Covers scope locals = (name : List ℕ) → Contains scope name → (value : Value) × (local_named name locals ≡ Some value)

-- a name that gets a value has one, and each other keeps its own
put_same : (name : List ℕ) (value : Value) (locals : Locals) → local_named name (put_local name value locals) ≡ Some value
put_same name value [] = ap (λ (b : Bool). if b then Some value else None) ((bytes_eq-Decides name name).1 refl)
put_same name value (first ∷ rest) =
    (elim (bytes_eq first.name name) as (λ b. bytes_eq first.name name ≡ b →
    local_named name (if b then (record { name = first.name; value = value }) ∷ rest else first ∷ put_local name value
    rest) ≡ Some value) [
      | true ↦ λ e. ap (λ (b : Bool). if b then Some value else local_named name rest) e
      | false ↦ λ e. ap (λ (b : Bool). if b then Some first.value else local_named name (put_local name value rest)) e
          ∙ put_same name value rest
    ]) refl

-- each other name keeps a value
put_keeps : (name other : List ℕ) (value : Value) (locals : Locals) →
    (had : Value) × (local_named other locals ≡ Some had) →
    (has : Value) × (local_named other (put_local name value locals) ≡ Some has)
put_keeps name other value [] had = absurd (let e : local_named other [] ≡ Some had.0 = had.1 in cc)
put_keeps name other value (first ∷ rest) had =
    elim (bytes_eq first.name name) as
    (λ b. (has : Value) × (local_named other
    (if b then (record { name = first.name; value = value }) ∷ rest else first ∷ put_local name value rest) ≡ Some has)) [
      | true ↦ (elim (bytes_eq first.name other) as
          (λ b. (if b then Some first.value else local_named other rest) ≡ Some had.0 →
          (has : Value) × ((if b then Some value else local_named other rest) ≡ Some has))
          [ true ↦ λ e. (value, refl) | false ↦ λ e. (had.0, e) ]) had.1
      | false ↦ (elim (bytes_eq first.name other) as
          (λ b. (if b then Some first.value else local_named other rest) ≡ Some had.0 →
          (has : Value) × ((if b then Some first.value else local_named other (put_local name value rest)) ≡ Some has))
          [ true ↦ λ e. (had.0, e) | false ↦ λ e. put_keeps name other value rest (had.0, e) ]) had.1
    ]

-- names in scope keep values
pub put_covers : (scope : Scope) (name : List ℕ) (value : Value) (locals : Locals) → Covers scope locals →
    Covers scope (put_local name value locals)
put_covers scope name value locals covers other among = put_keeps name other value locals (covers other among)

-- one name more has a value too
pub put_covers_more : (scope : Scope) (name : List ℕ) (value : Value) (locals : Locals) → Covers scope locals →
    Covers (scope ++ (name ∷ [])) (put_local name value locals)
put_covers_more scope name value locals covers other among =
    elim (Contains-push_cases scope name other among) [
      | inl there ↦ put_covers scope name value locals covers other there
      | inr same ↦ (
        value,
        ap (λ (n : List ℕ). local_named n (put_local name value locals)) (sym same)
            ∙ put_same name value locals,
      )
    ]

-- a name that isn't the first is one of the rest
pub in_rest : (first : List ℕ) (rest : Scope) (name : List ℕ) → Contains (first ∷ rest) name →
    bytes_eq first name ≡ false → Contains rest name
in_rest first rest name (zero, below, is) differ =
    absurd (let e : bytes_eq first name ≡ true = (bytes_eq-Decides first name).1 is in cc)
in_rest first rest name (suc k, below, is) differ = (k, omega (arith, below), is)

-- a field of this name has a number below the number of fields
pub field_is_there : (i : ℕ) (name : List ℕ) (fields : List FieldDecl) → Contains (field_names fields) name →
    (k : ℕ) × (field_from i name fields ≡ Some (i + k)) × (k < length fields)
field_is_there i name [] among = absurd (omega (arith, among.1))
field_is_there i name (first ∷ rest) among =
    (elim (bytes_eq first.name.text name) as (λ b. bytes_eq first.name.text name ≡ b →
    (k : ℕ) × ((if b then Some i else field_from (i + 1) name rest) ≡ Some (i + k)) × (k < suc (length rest))) [
      | true ↦ λ e. let same : i ≡ i + 0 = omega arith in (0, ap (λ (n : ℕ). Some n) same, omega arith)
      | false ↦ λ e.
          let later : (k : ℕ) × (field_from (i + 1) name rest ≡ Some ((i + 1) + k)) × (k < length rest) =
          field_is_there (i + 1) name rest (in_rest first.name.text (field_names rest) name among e) in
          let same : (i + 1) + later.0 ≡ i + suc later.0 = omega arith in
          (suc later.0, later.1 ∙ ap (λ (n : ℕ). Some n) same, omega (arith, later.2))
    ]) refl

-- what a name in an expression may stand for
pub record Holds (setting : Setting) (scope : Scope) (around : Surroundings) : Type 0 where
  pub covers : Covers scope around.locals
  pub fields : setting.kind ≢ Plain → setting.fields ≡ field_names around.fields
  pub whole : setting.kind ≢ Plain → length around.state ≡ length around.fields

-- the faults that the language itself gives, of which this holds
pub record Says (Q : List ℕ → Type 0) : Type 0 where
  pub overflow : Q overflow
  pub divide : Q divide
  pub kind : Q kind
  pub key : Q key
  pub too_long : Q too_long
  pub budget : Q budget
  pub depth : Q depth
  pub units : Q units
  pub grains : Q grains
  pub no_transaction : Q (option_refusal_text NoTransaction)
  pub not_allowed : Q (option_refusal_text NotAllowed)
  pub aborted : Q aborted

module _ (Q : List ℕ → Type 0) (own : Says Q) where
  -- a fault of which this holds, or a value
  abbrev pub IsSaidOf : {A : Type 0} → Result A (List ℕ) → Type 0
  IsSaidOf (Err fault) = Q fault
  IsSaidOf (Ok value) = Unit {0}

  -- what follows a value
  then_value_said : (found : ValueOrFault) (go : Value → ValueOrFault) → IsSaidOf found → ((value : Value) → IsSaidOf (go value)) →
      IsSaidOf (then_value found go)
  then_value_said (Err fault) go said later = said
  then_value_said (Ok value) go said later = later value

  -- what follows a number; a text is of the wrong kind
  with_number_said : (value : Value) (go : ℤ → ValueOrFault) → ((number : ℤ) → IsSaidOf (go number)) →
      IsSaidOf (with_number value go)
  with_number_said (Int number) go said = said number
  with_number_said (Text text) go said = own.kind

  -- one of two
  either_said : (test : Bool) (first second : ValueOrFault) → IsSaidOf first → IsSaidOf second →
      IsSaidOf (if test then first else second)
  either_said true first second said said' = said
  either_said false first second said said' = said'

  -- a number, or an overflow
  within_said : (number : ℤ) → IsSaidOf (within number)
  within_said number = either_said (fits number) (Ok (Int number)) (Err overflow) tt own.overflow

  -- a text, or one that is too long
  joined_said : (text : List ℕ) → IsSaidOf (joined_text text)
  joined_said text = either_said (nat_le (length text) 4096) (Ok (Text text)) (Err too_long) tt own.too_long

  -- an operator before a number
  prefixed_said : (op : UnaryOp) (number : ℤ) → IsSaidOf (prefixed op number)
  prefixed_said Minus number = within_said (neg_ℤ number)
  prefixed_said Not number = tt

  -- a quotient
  quotient_said : (left right : ℤ) → IsSaidOf (quotient left right)
  quotient_said left (pos zero) = own.divide
  quotient_said left (pos (suc n)) = within_said (int_div left (pos (suc n)))
  quotient_said left (negsuc n) = within_said (int_div left (negsuc n))

  -- a remainder
  remainder_said : (left right : ℤ) → IsSaidOf (remainder left right)
  remainder_said left right = then_value_said (quotient left right) (λ whole. Ok (Int (int_rem left right)))
      (quotient_said left right) (λ value. tt)

  -- operators between numbers, texts, and values of two kinds
  of_numbers_said : (op : BinaryOp) (left right : ℤ) → IsSaidOf (of_numbers op left right)
  of_numbers_said Add left right = within_said (left +ℤ right)
  of_numbers_said Sub left right = within_said (left -ℤ right)
  of_numbers_said Mul left right = within_said (left *ℤ right)
  of_numbers_said Div left right = quotient_said left right
  of_numbers_said Rem left right = remainder_said left right
  of_numbers_said Lt left right = tt
  of_numbers_said Le left right = tt
  of_numbers_said Gt left right = tt
  of_numbers_said Ge left right = tt
  of_numbers_said Eq left right = tt
  of_numbers_said Ne left right = tt
  of_numbers_said And left right = tt
  of_numbers_said Or left right = tt

  of_texts_said : (op : BinaryOp) (left right : List ℕ) → IsSaidOf (of_texts op left right)
  of_texts_said Add left right = joined_said (left ++ right)
  of_texts_said Sub left right = own.kind
  of_texts_said Mul left right = own.kind
  of_texts_said Div left right = own.kind
  of_texts_said Rem left right = own.kind
  of_texts_said Lt left right = own.kind
  of_texts_said Le left right = own.kind
  of_texts_said Gt left right = own.kind
  of_texts_said Ge left right = own.kind
  of_texts_said Eq left right = tt
  of_texts_said Ne left right = tt
  of_texts_said And left right = own.kind
  of_texts_said Or left right = own.kind

  of_kinds_said : (op : BinaryOp) → IsSaidOf (of_kinds op)
  of_kinds_said Add = own.kind
  of_kinds_said Sub = own.kind
  of_kinds_said Mul = own.kind
  of_kinds_said Div = own.kind
  of_kinds_said Rem = own.kind
  of_kinds_said Lt = own.kind
  of_kinds_said Le = own.kind
  of_kinds_said Gt = own.kind
  of_kinds_said Ge = own.kind
  of_kinds_said Eq = tt
  of_kinds_said Ne = tt
  of_kinds_said And = own.kind
  of_kinds_said Or = own.kind

  -- an operator between two values
  combined_said : (op : BinaryOp) (left right : Value) → IsSaidOf (combined op left right)
  combined_said op (Int left) (Int right) = of_numbers_said op left right
  combined_said op (Text left) (Text right) = of_texts_said op left right
  combined_said op (Int left) (Text right) = of_kinds_said op
  combined_said op (Text left) (Int right) = of_kinds_said op

  -- the two operators whose left side may decide
  and_so_on_said : (left : ℤ) (right : ValueOrFault) → IsSaidOf right → IsSaidOf (and_so_on left right)
  and_so_on_said left right said =
      either_said (is_true left) (then_value right (combined And (Int left))) _
      (then_value_said right (combined And (Int left)) said (combined_said And (Int left))) tt

  or_so_on_said : (left : ℤ) (right : ValueOrFault) → IsSaidOf right → IsSaidOf (or_so_on left right)
  or_so_on_said left right said =
      either_said (is_true left) _ (then_value right (combined Or (Int left))) tt
      (then_value_said right (combined Or (Int left)) said (combined_said Or (Int left)))

  -- an operator between a value and what the right side gives
  between_said : (op : BinaryOp) (left : Value) (right : ValueOrFault) → IsSaidOf right → IsSaidOf (between op left right)
  between_said Add left right said = then_value_said right (combined Add left) said (combined_said Add left)
  between_said Sub left right said = then_value_said right (combined Sub left) said (combined_said Sub left)
  between_said Mul left right said = then_value_said right (combined Mul left) said (combined_said Mul left)
  between_said Div left right said = then_value_said right (combined Div left) said (combined_said Div left)
  between_said Rem left right said = then_value_said right (combined Rem left) said (combined_said Rem left)
  between_said Lt left right said = then_value_said right (combined Lt left) said (combined_said Lt left)
  between_said Le left right said = then_value_said right (combined Le left) said (combined_said Le left)
  between_said Gt left right said = then_value_said right (combined Gt left) said (combined_said Gt left)
  between_said Ge left right said = then_value_said right (combined Ge left) said (combined_said Ge left)
  between_said Eq left right said = then_value_said right (combined Eq left) said (combined_said Eq left)
  between_said Ne left right said = then_value_said right (combined Ne left) said (combined_said Ne left)
  between_said And left right said =
      with_number_said left (λ number. and_so_on number right) (λ number. and_so_on_said number right said)
  between_said Or left right said =
      with_number_said left (λ number. or_so_on number right) (λ number. or_so_on_said number right said)

  -- a local that has a value, or a field that has one
  or_field_said : (local : Option Value) (field : ValueOrFault) → ((value : Value) × (local ≡ Some value)) ⊎ IsSaidOf field →
      IsSaidOf (or_field local field)
  or_field_said (Some value) field is = tt
  or_field_said None field (inl there) = absurd (let e : None ≡ Some there.0 = there.1 in cc)
  or_field_said None field (inr said) = said

  -- a field whose number is below the number of values
  field_value_said : (state : List Value) (number : Option ℕ) → (k : ℕ) × (number ≡ Some k) × (k < length state) →
      IsSaidOf (field_value state number)
  field_value_said state None there = absurd (let e : None ≡ Some there.0 = there.1 in cc)
  field_value_said state (Some i) there =
      let same : i ≡ there.0 = let e : Some i ≡ Some there.0 = there.1 in cc in
      let below : i < length state = omega (arith, same, there.2) in
      at_place (slice_get state i) state i below refl
    where
      at_place : (found : Option Value) (state : List Value) (i : ℕ) → i < length state → slice_get state i ≡ found →
          IsSaidOf (known_value found)
      at_place (Some value) state i below e = tt
      at_place None [] i below e = absurd (omega (arith, below))
      at_place None (first ∷ rest) i below e = absurd (let f = slice_get-get_or (first ∷ rest) i first below in cc)

  module _ (setting : Setting) (scope : Scope) (around : Surroundings) (holds : Holds setting scope around) where
    -- a name of a checked expression
    named_said : (name : Name) → IsVariable setting scope name → IsSaidOf (value_named around name.text)
    named_said name (inl local) = or_field_said (local_named name.text around.locals) _
        (inl (holds.covers name.text local))
    named_said name (inr field) =
        let among : Contains (field_names around.fields) name.text =
        subst (λ (l : Scope). Contains l name.text) (holds.fields field.1) field.0 in
        let there : (k : ℕ) × (field_from 0 name.text around.fields ≡ Some (0 + k)) × (k < length around.fields) =
        field_is_there 0 name.text around.fields among in
        or_field_said (local_named name.text around.locals) _
        (inr (field_value_said around.state (field_named name.text around.fields) (
          0 + there.0,
          there.1,
          (let e : length around.state ≡ length around.fields = holds.whole field.1 in
              omega (arith, e, there.2)),
        )))

    -- a checked expression, and checked arguments
    pub value_in_said : (expression : ExprTree) → IsExpressionInScope setting scope expression →
        IsSaidOf (value_in around expression)
    unfolding IsExpressionInScope
    value_in_said (Constant literal) right = tt
    value_in_said (Variable name) right = named_said name right
    value_in_said TheKey right = tt
    value_in_said (Prefixed op of) right =
        then_value_said (value_in around of) _ (value_in_said of right)
        (λ value. with_number_said value (prefixed op) (prefixed_said op))
    value_in_said (Joined op left right) (is, is') =
        then_value_said (value_in around left) _ (value_in_said left is)
        (λ value. between_said op value (value_in around right) (value_in_said right is'))

    one_more_said : (first : ValueOrFault) (rest : Result (List Value) (List ℕ)) → IsSaidOf first → IsSaidOf rest →
        IsSaidOf (one_more first rest)
    one_more_said (Err fault) rest said said' = said
    one_more_said (Ok value) (Err fault) said said' = said'
    one_more_said (Ok value) (Ok values) said said' = tt

    pub values_in_said : (args : List ExprTree) → All (IsExpressionInScope setting scope) args →
        IsSaidOf (values_in around args)
    values_in_said [] right = tt
    values_in_said (first ∷ rest) right =
        one_more_said (value_in around first) (values_in around rest)
        (value_in_said first (All-head (IsExpressionInScope setting scope) first rest right))
        (values_in_said rest (All-tail (IsExpressionInScope setting scope) first rest right))
