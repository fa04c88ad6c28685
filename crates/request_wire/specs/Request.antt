-- What a request line asks: five tests in order, and the call of a line that passes them.
use Rattle.std.specs.Prelude.{ℕ, suc, Bool, ◌^◌, ◌&&◌, ◌==◌, List, [], ◌∷◌, length, slice_get, slice_index, nat_lt, codes, if◌then◌else◌, Option, Some, None, option_map, option_and_then, Result, Ok, Err}
use Rattle.std.specs.Option.{ok_or}
use Rattle.std.specs.List.{position_or_len, before_first, after_first, list_all}
use Rattle.std.specs.Char.{is_ascii_digit}
use Rattle.std.specs.Str.{is_utf8}
use Rattle.std.specs.Str.Parse.{digits_value}
use Rattle.base_types.specs.Texts.{short_text}
use Rattle.base_types.specs.declared.calls.Call.{Call}
use Rattle.base_types.specs.declared.calls.GrainId.{GrainId}
use Rattle.base_types.specs.declared.calls.Value.{Value}
use Rattle.base_types.specs.declared.calls.Value.TheVariants.{Int, Text}
use Rattle.base_types.specs.declared.entries.BadRequest.{BadRequest}
use Rattle.base_types.specs.declared.entries.BadRequest.TheVariants.{Json, Shape, Grain, Method, Args}
use Rattle.request_wire.specs.Names.{TypeNames, named}
use Rattle.serde_json.specs.Data.{Data, null, boolean, number, string, array, object, Items, no_items, item, Members, no_members, member}
use Rattle.serde_json.specs.Find.{get, as_array, as_str, as_i64}
use Rattle.serde_json.specs.Read.{read}

-- ---- json

-- the JSON value that a line is, where it is text and JSON
abbrev pub json_of : List ℕ → Option Data
json_of line = if is_utf8 line then read line else None

-- ---- shape

-- how many members there are
abbrev pub members_count : Members → ℕ
members_count no_members = 0
members_count (member k d ms) = suc (members_count ms)

-- how many keys an object has, and 0 for what is no object
abbrev pub keys_count : Data → ℕ
keys_count null = 0
keys_count (boolean b) = 0
keys_count (number n) = 0
keys_count (string s) = 0
keys_count (array ds) = 0
keys_count (object ms) = members_count ms

-- the arguments and the call of an object with exactly the keys `args`, an array, and `call`, a string
abbrev pub shape_of : Data → Option (Items × List ℕ)
shape_of d = if keys_count d == 2
    then option_and_then (λ args. option_map (λ call. (args, call)) (option_and_then as_str (get (codes "call") d))) (option_and_then as_array (get (codes "args") d))
    else None

-- ---- grain

-- what stands before and after the first such byte
abbrev pub split_at_first : ℕ → List ℕ → Option (List ℕ × List ℕ)
split_at_first byte text = if nat_lt (position_or_len (λ b. b == byte) text) (length text)
    then Some (before_first (λ b. b == byte) text, after_first (λ b. b == byte) text)
    else None

-- digits alone
abbrev pub is_digits : List ℕ → Bool
is_digits text = list_all is_ascii_digit text

-- the number that digits are, where there are some and it is below 2 to the 32
abbrev pub number_of : List ℕ → Option ℕ
number_of text = if nat_lt 0 (length text) && nat_lt (digits_value 10 text) (2 ^ 32) then Some (digits_value 10 text) else None

-- a key: `0`, or digits without a leading zero, below 2 to the 32
abbrev pub key_of : List ℕ → Option ℕ
key_of text = if is_digits text
    then (if nat_lt 1 (length text) && (slice_index text 0 == 48) then None else number_of text)
    else None

-- the number of the type of a name
abbrev pub type_of : List TypeNames → List ℕ → Option ℕ
type_of types name = option_map (λ t. t.0) (named (λ t. t.name) 0 types name)

-- the grain of a type's name and a key's text
abbrev pub grain_named : List TypeNames → List ℕ → List ℕ → Option GrainId
grain_named types name text = option_and_then (λ kind. option_map (λ key. record { kind = kind; key = key }) (key_of text)) (type_of types name)

-- the grain and the method's name of `TYPE/KEY.METHOD`, cut at the first `/` and at the first `.` after it
abbrev pub grain_of : List TypeNames → List ℕ → Option (GrainId × List ℕ)
grain_of types call = option_and_then
    (λ outer. option_and_then
    (λ inner. option_map (λ grain. (grain, inner.1)) (grain_named types outer.0 inner.0))
    (split_at_first 46 outer.1))
    (split_at_first 47 call)

-- ---- method

-- the number of a type's method by its name, and how many parameters it has
abbrev pub method_of : List TypeNames → ℕ → List ℕ → Option (ℕ × ℕ)
method_of types kind name = option_and_then
    (λ t. option_map (λ m. (m.0, m.1.1)) (named (λ m. m.0) 0 t.methods name))
    (slice_get types kind)

-- ---- args

-- the value that an argument is: a number that `as_i64` gives, or a string of at most 4,096 bytes
abbrev pub value_of_json : Data → Option Value
value_of_json null = None
value_of_json (boolean b) = None
value_of_json (number n) = option_map Int (as_i64 n)
value_of_json (string s) = option_map Text (short_text s)
value_of_json (array ds) = None
value_of_json (object ms) = None

-- the values of all, where each is one
abbrev pub values_of : Items → Option (List Value)
values_of no_items = Some []
values_of (item d ds) = option_and_then (λ v. option_map (λ vs. v ∷ vs) (values_of ds)) (value_of_json d)

-- how many items there are
abbrev pub items_count : Items → ℕ
items_count no_items = 0
items_count (item d ds) = suc (items_count ds)

-- the arguments, as many as parameters
abbrev pub args_of : ℕ → Items → Option (List Value)
args_of params items = if items_count items == params then values_of items else None

-- ---- all five

-- the next test, where this one passed
abbrev pub passed : {A B : Type 0} → Result A BadRequest → (A → Result B BadRequest) → Result B BadRequest
passed (Ok a) next = next a
passed (Err why) next = Err why

-- the call that a line asks of a program with these types, or the first test that it fails
abbrev pub call_of : List TypeNames → List ℕ → Result Call BadRequest
call_of types line = passed (ok_or (json_of line) Json)
    (λ d. passed (ok_or (shape_of d) Shape)
    (λ shape. passed (ok_or (grain_of types shape.1) Grain)
    (λ grain. passed (ok_or (method_of types grain.0.kind grain.1) Method)
    (λ method. passed (ok_or (args_of method.1 shape.0) Args)
    (λ args. Ok (record { grain = grain.0; method = method.0; args = args }))))))
