-- Clap's walk over words is the cutting of the words into parts.
use Rattle.std.proofs.Common.{◌≡◌, ◌∙◌, Bool, true, false, cond, List, [], ◌∷◌, ◌++◌, Option, Some, None, refl, sym, ap, true≢false, append-nil, append_assoc, drop, codes}
use Rattle.std.specs.Prelude.{fold, is_some, option_map, ◌||◌}
use Rattle.std.specs.List.{AllByRecursion}
use Rattle.std.specs.Str.{bytes_eq}
use Rattle.std.proofs.lemmas.Bool.Decides.{eqb_tells}
use Rattle.std.proofs.Common.{inl, inr}
use Rattle.clap.specs.Lexer.{long_of, short_of}
use Rattle.clap.specs.Walk.{Row, Rule, Text, Held, Walk, Waiting, idle, option, positional, arg_by_long, has_row, walk, walked, nothing_held, settled, settled_rows, finished, with_default}
use Rattle.clap.specs.Simple.{Shape, built, is_simple, matches_of, entered}
use Rattle.clap.specs.Faults.{fault_of, is_simple_and_free, level_fault, entered_fault, walk_fault, turn_fault, settle_fault, defaults_fault, default_fault}
use Rattle.clap.specs.Kinds.{Kinds, or_else}
use Rattle.clap.specs.declared.builder.value_parser.ValueParser.TheVariants as parser
use Rattle.promise_spec.specs.Words.{Form, Apart, Joined}
use Rattle.command_words.specs.Parts.{OptionName, WidthName, TurnsName, WorkersName, bare_name, option_of_name, WordPart, OptionPart, NumberPart, is_stray, onto_parts, cut_value, cut_option, cut_word, is_long, word_parts_from, option_values, number_words}
use Rattle.command_words.specs.Clap.{option_rule, number_rule, silo_app}
use Rattle.command_words.proofs.Rows.{values_at, with_value, value_at_own, value_at_other}

-- ---- the command as clap builds it

abbrev built_rule : Rule → Rule
built_rule a = record a { parser = Some parser.String; range = Some (record { start_inclusive = 1; end_inclusive = 1 }) }

abbrev ready : OptionName → Rule
ready name = built_rule (option_rule (bare_name name))

abbrev ready_number : Rule
ready_number = record (built_rule number_rule) { index = Some 1 }

abbrev rules : List Rule
rules = ready WidthName ∷ ready TurnsName ∷ ready WorkersName ∷ ready_number ∷ []

abbrev top : Shape
top = (built silo_app).top

rules_are : top.rules ≡ rules
rules_are = refl

pub app_is_simple : is_simple silo_app ≡ true
app_is_simple = refl

pub app_is_free : is_simple_and_free silo_app ≡ true
app_is_free = refl

-- ---- where the walk stands

-- which argument
data Slot : Type 0 where
  Optional : OptionName → Slot
  Number : Slot

abbrev slot_id : Slot → Text
slot_id (Optional name) = bare_name name
slot_id Number = codes "number"

-- between two words: an option awaits its value, or nothing is awaited and a value may be pending
data Spot : Type 0 where
  Awaits : OptionName → Spot
  Rests : Bool → Option (Slot × Text) → Spot

abbrev pending_of : Option (Slot × Text) → Option (Text × List Text)
pending_of None = None
pending_of (Some p) = Some (slot_id p.0, p.1 ∷ [])

abbrev pending_at : Spot → Option (Text × List Text)
pending_at (Awaits name) = Some (bare_name name, [])
pending_at (Rests behind p) = pending_of p

abbrev waiting_at : Spot → Waiting
waiting_at (Awaits name) = option (bare_name name)
waiting_at (Rests true p) = positional
waiting_at (Rests false p) = idle

abbrev walk_at : List Row → Spot → Walk
walk_at rows spot = record {
  held = record { rows = rows; pending = pending_at spot; skip = 0 };
  waiting = waiting_at spot;
  position = 1;
  is_trailing = false;
  stopped = None;
}

-- the rows with what is pending
abbrev rows_at : Option (Slot × Text) → List Row → List Row
rows_at None rows = rows
rows_at (Some p) rows = with_value (slot_id p.0) p.1 rows

abbrev all_rows : Spot → List Row → List Row
all_rows (Awaits name) rows = rows
all_rows (Rests behind p) rows = rows_at p rows

-- the option that awaits its value
abbrev awaited : Spot → Option OptionName
awaited (Awaits name) = Some name
awaited (Rests behind p) = None

-- ---- what the walk comes to, from where it stands

abbrev end_of : List Row → Spot → List Text → Held
end_of rows spot words = (fold (walked rules []) (walk_at rows spot) words).held

abbrev fault_from : List Row → Spot → List Text → Kinds
fault_from rows spot words = or_else (walk_fault top [] (walk_at rows spot) words) (settle_fault rules false (end_of rows spot words))

abbrev rows_from : List Row → Spot → List Text → List Row
rows_from rows spot words = (settled rules (end_of rows spot words)).rows

-- the values that a part gives to an argument, before others
abbrev slot_values : Slot → List WordPart → List Text
slot_values (Optional name) parts = option_values name parts
slot_values Number parts = number_words parts

abbrev has_fault : Kinds → Bool
has_fault [] = false
has_fault (k ∷ ks) = true

-- the walk fails where the words have no parts; where they have, it gives each argument its values
abbrev Follows : List Row → Spot → List Text → Option (List WordPart) → Type 0
Follows rows spot words None = has_fault (fault_from rows spot words) ≡ true
Follows rows spot words (Some parts) = (fault_from rows spot words ≡ [])
    × ((s : Slot) → values_at (slot_id s) (rows_from rows spot words) ≡ values_at (slot_id s) (all_rows spot rows) ++ slot_values s parts)

-- ---- at the end

ends_awaiting : (rows : List Row) (name : OptionName) → has_fault (fault_from rows (Awaits name) []) ≡ true
unfolding walk_fault
ends_awaiting rows WidthName = refl
ends_awaiting rows TurnsName = refl
ends_awaiting rows WorkersName = refl

ends_resting : (rows : List Row) (behind : Bool) (p : Option (Slot × Text)) → Follows rows (Rests behind p) [] (Some [])
unfolding walk_fault
ends_resting rows behind None = (refl, λ s. sym (append-nil (values_at (slot_id s) rows)) ∙ λ i. values_at (slot_id s) rows ++ slot_none s i)
  where
    slot_none : (s : Slot) → [] ≡ slot_values s []
    slot_none (Optional name) = refl
    slot_none Number = refl
ends_resting rows behind (Some p) = go p.0 p.1
  where
    slot_none : (s : Slot) → [] ≡ slot_values s []
    slot_none (Optional name) = refl
    slot_none Number = refl

    nothing : (more : List Row) (s : Slot) → values_at (slot_id s) more ≡ values_at (slot_id s) more ++ slot_values s []
    nothing more s = sym (append-nil (values_at (slot_id s) more)) ∙ λ i. values_at (slot_id s) more ++ slot_none s i

    go : (slot : Slot) (value : Text) → Follows rows (Rests behind (Some (slot, value))) [] (Some [])
    go (Optional WidthName) value = (refl, nothing (with_value (codes "width") value rows))
    go (Optional TurnsName) value = (refl, nothing (with_value (codes "turns") value rows))
    go (Optional WorkersName) value = (refl, nothing (with_value (codes "workers") value rows))
    go Number value = (refl, nothing (with_value (codes "number") value rows))

-- ---- one word

-- a word without dashes is the value that is awaited, or stands alone
takes_value : (rows : List Row) (name : OptionName) (word : Text) → bytes_eq word (45 ∷ 45 ∷ []) ≡ false → long_of word ≡ None → short_of word ≡ None
    → (walked rules [] (walk_at rows (Awaits name)) word ≡ walk_at rows (Rests false (Some (Optional name, word)))) × (turn_fault top [] (walk_at rows (Awaits name)) word ≡ [])
unfolding walked
takes_value rows WidthName word a b c = (rw (a, b, c) refl, rw (a, b, c) refl)
takes_value rows TurnsName word a b c = (rw (a, b, c) refl, rw (a, b, c) refl)
takes_value rows WorkersName word a b c = (rw (a, b, c) refl, rw (a, b, c) refl)

stands_alone : (rows : List Row) (behind : Bool) (p : Option (Slot × Text)) (word : Text) → bytes_eq word (45 ∷ 45 ∷ []) ≡ false → long_of word ≡ None → short_of word ≡ None
    → (walked rules [] (walk_at rows (Rests behind p)) word ≡ walk_at (rows_at p rows) (Rests true (Some (Number, word)))) × (turn_fault top [] (walk_at rows (Rests behind p)) word ≡ [])
unfolding walked
stands_alone rows true None word a b c = (rw (a, b, c) refl, rw (a, b, c) refl)
stands_alone rows false None word a b c = (rw (a, b, c) refl, rw (a, b, c) refl)
stands_alone rows true (Some (Optional WidthName, v)) word a b c = (rw (a, b, c) refl, rw (a, b, c) refl)
stands_alone rows true (Some (Optional TurnsName, v)) word a b c = (rw (a, b, c) refl, rw (a, b, c) refl)
stands_alone rows true (Some (Optional WorkersName, v)) word a b c = (rw (a, b, c) refl, rw (a, b, c) refl)
stands_alone rows true (Some (Number, v)) word a b c = (rw (a, b, c) refl, rw (a, b, c) refl)
stands_alone rows false (Some (Optional WidthName, v)) word a b c = (rw (a, b, c) refl, rw (a, b, c) refl)
stands_alone rows false (Some (Optional TurnsName, v)) word a b c = (rw (a, b, c) refl, rw (a, b, c) refl)
stands_alone rows false (Some (Optional WorkersName, v)) word a b c = (rw (a, b, c) refl, rw (a, b, c) refl)
stands_alone rows false (Some (Number, v)) word a b c = (rw (a, b, c) refl, rw (a, b, c) refl)

-- what is pending is used, without a fault
settles : (rows : List Row) (p : Option (Slot × Text)) → settled_rows rules (pending_of p) rows ≡ rows_at p rows
settles rows None = refl
settles rows (Some (Optional WidthName, v)) = refl
settles rows (Some (Optional TurnsName, v)) = refl
settles rows (Some (Optional WorkersName, v)) = refl
settles rows (Some (Number, v)) = refl

settles_well : (rows : List Row) (p : Option (Slot × Text)) → settle_fault rules false (record { rows = rows; pending = pending_of p; skip = 0 }) ≡ []
settles_well rows None = refl
settles_well rows (Some (Optional WidthName, v)) = refl
settles_well rows (Some (Optional TurnsName, v)) = refl
settles_well rows (Some (Optional WorkersName, v)) = refl
settles_well rows (Some (Number, v)) = refl

-- the argument of a name
rule_named : (name : Text) → arg_by_long rules name ≡ option_map ready (option_of_name name)
rule_named name = go (bytes_eq (codes "width") name) (bytes_eq (codes "turns") name) (bytes_eq (codes "workers") name)
  where
    go : (a b c : Bool) → cond (a || false) (Some (ready WidthName)) (cond (b || false) (Some (ready TurnsName)) (cond (c || false) (Some (ready WorkersName)) None))
        ≡ option_map ready (cond a (Some WidthName) (cond b (Some TurnsName) (cond c (Some WorkersName) None)))
    go true b c = refl
    go false true c = refl
    go false false true = refl
    go false false false = refl

-- an option with its value behind an equals sign
gives_value : (rows : List Row) (behind : Bool) (p : Option (Slot × Text)) (name : OptionName) (word text value : Text)
    → bytes_eq word (45 ∷ 45 ∷ []) ≡ false → long_of word ≡ Some (text, Some value) → arg_by_long rules text ≡ Some (ready name)
    → (walked rules [] (walk_at rows (Rests behind p)) word ≡ walk_at (with_value (bare_name name) value (rows_at p rows)) (Rests false None))
    × (turn_fault top [] (walk_at rows (Rests behind p)) word ≡ [])
unfolding walked
gives_value rows true p WidthName word text value a b c = (rw (a, b, c, settles rows p) refl, rw (a, b, c, settles_well rows p) refl)
gives_value rows true p TurnsName word text value a b c = (rw (a, b, c, settles rows p) refl, rw (a, b, c, settles_well rows p) refl)
gives_value rows true p WorkersName word text value a b c = (rw (a, b, c, settles rows p) refl, rw (a, b, c, settles_well rows p) refl)
gives_value rows false p WidthName word text value a b c = (rw (a, b, c, settles rows p) refl, rw (a, b, c, settles_well rows p) refl)
gives_value rows false p TurnsName word text value a b c = (rw (a, b, c, settles rows p) refl, rw (a, b, c, settles_well rows p) refl)
gives_value rows false p WorkersName word text value a b c = (rw (a, b, c, settles rows p) refl, rw (a, b, c, settles_well rows p) refl)

-- an option whose value is the next word
waits_for : (rows : List Row) (behind : Bool) (p : Option (Slot × Text)) (name : OptionName) (word text : Text)
    → bytes_eq word (45 ∷ 45 ∷ []) ≡ false → long_of word ≡ Some (text, None) → arg_by_long rules text ≡ Some (ready name)
    → (walked rules [] (walk_at rows (Rests behind p)) word ≡ walk_at (rows_at p rows) (Awaits name))
    × (turn_fault top [] (walk_at rows (Rests behind p)) word ≡ [])
unfolding walked
waits_for rows true p WidthName word text a b c = (rw (a, b, c, settles rows p) refl, rw (a, b, c, settles_well rows p) refl)
waits_for rows true p TurnsName word text a b c = (rw (a, b, c, settles rows p) refl, rw (a, b, c, settles_well rows p) refl)
waits_for rows true p WorkersName word text a b c = (rw (a, b, c, settles rows p) refl, rw (a, b, c, settles_well rows p) refl)
waits_for rows false p WidthName word text a b c = (rw (a, b, c, settles rows p) refl, rw (a, b, c, settles_well rows p) refl)
waits_for rows false p TurnsName word text a b c = (rw (a, b, c, settles rows p) refl, rw (a, b, c, settles_well rows p) refl)
waits_for rows false p WorkersName word text a b c = (rw (a, b, c, settles rows p) refl, rw (a, b, c, settles_well rows p) refl)

-- no option has the name
is_unknown : (rows : List Row) (spot : Spot) (word text : Text) (value : Option Text)
    → bytes_eq word (45 ∷ 45 ∷ []) ≡ false → long_of word ≡ Some (text, value) → arg_by_long rules text ≡ None
    → has_fault (turn_fault top [] (walk_at rows spot) word) ≡ true
is_unknown rows (Awaits name) word text value a b c = rw (a, b, c) refl
is_unknown rows (Rests true p) word text value a b c = rw (a, b, c) refl
is_unknown rows (Rests false p) word text value a b c = rw (a, b, c) refl

-- an option in place of a value
is_missing : (rows : List Row) (waiting name : OptionName) (word text : Text) (value : Option Text)
    → bytes_eq word (45 ∷ 45 ∷ []) ≡ false → long_of word ≡ Some (text, value) → arg_by_long rules text ≡ Some (ready name)
    → has_fault (turn_fault top [] (walk_at rows (Awaits waiting)) word) ≡ true
is_missing rows waiting name word text None a b c = go waiting name c
  where
    go : (waiting name : OptionName) → arg_by_long rules text ≡ Some (ready name) → has_fault (turn_fault top [] (walk_at rows (Awaits waiting)) word) ≡ true
    go WidthName WidthName c = rw (a, b, c) refl
    go WidthName TurnsName c = rw (a, b, c) refl
    go WidthName WorkersName c = rw (a, b, c) refl
    go TurnsName WidthName c = rw (a, b, c) refl
    go TurnsName TurnsName c = rw (a, b, c) refl
    go TurnsName WorkersName c = rw (a, b, c) refl
    go WorkersName WidthName c = rw (a, b, c) refl
    go WorkersName TurnsName c = rw (a, b, c) refl
    go WorkersName WorkersName c = rw (a, b, c) refl
is_missing rows waiting name word text (Some value) a b c = go waiting name c
  where
    go : (waiting name : OptionName) → arg_by_long rules text ≡ Some (ready name) → has_fault (turn_fault top [] (walk_at rows (Awaits waiting)) word) ≡ true
    go WidthName WidthName c = rw (a, b, c) refl
    go WidthName TurnsName c = rw (a, b, c) refl
    go WidthName WorkersName c = rw (a, b, c) refl
    go TurnsName WidthName c = rw (a, b, c) refl
    go TurnsName TurnsName c = rw (a, b, c) refl
    go TurnsName WorkersName c = rw (a, b, c) refl
    go WorkersName WidthName c = rw (a, b, c) refl
    go WorkersName TurnsName c = rw (a, b, c) refl
    go WorkersName WorkersName c = rw (a, b, c) refl

-- ---- what a word adds

gains_option : (s : Slot) (name : OptionName) (form : Form) (value : Text) (rows : List Row) (parts : List WordPart)
    → values_at (slot_id s) (with_value (bare_name name) value rows) ++ slot_values s parts ≡ values_at (slot_id s) rows ++ slot_values s (OptionPart name form value ∷ parts)
gains_option s name form value rows parts = go s name
  where
    own : (id : Text) (more : List Text) → bytes_eq id id ≡ true → values_at id (with_value id value rows) ++ more ≡ values_at id rows ++ (value ∷ more)
    own id more same = ap (λ (l : List Text). l ++ more) (value_at_own id value rows same) ∙ append_assoc (values_at id rows) (value ∷ []) more

    other : (id id' : Text) (more : List Text) → bytes_eq id' id ≡ false → values_at id (with_value id' value rows) ++ more ≡ values_at id rows ++ more
    other id id' more differ = ap (λ (l : List Text). l ++ more) (value_at_other id id' value rows differ)

    go : (s : Slot) (name : OptionName) → values_at (slot_id s) (with_value (bare_name name) value rows) ++ slot_values s parts ≡ values_at (slot_id s) rows ++ slot_values s (OptionPart name form value ∷ parts)
    go (Optional WidthName) WidthName = own (codes "width") (option_values WidthName parts) refl
    go (Optional WidthName) TurnsName = other (codes "width") (codes "turns") (option_values WidthName parts) refl
    go (Optional WidthName) WorkersName = other (codes "width") (codes "workers") (option_values WidthName parts) refl
    go (Optional TurnsName) WidthName = other (codes "turns") (codes "width") (option_values TurnsName parts) refl
    go (Optional TurnsName) TurnsName = own (codes "turns") (option_values TurnsName parts) refl
    go (Optional TurnsName) WorkersName = other (codes "turns") (codes "workers") (option_values TurnsName parts) refl
    go (Optional WorkersName) WidthName = other (codes "workers") (codes "width") (option_values WorkersName parts) refl
    go (Optional WorkersName) TurnsName = other (codes "workers") (codes "turns") (option_values WorkersName parts) refl
    go (Optional WorkersName) WorkersName = own (codes "workers") (option_values WorkersName parts) refl
    go Number WidthName = other (codes "number") (codes "width") (number_words parts) refl
    go Number TurnsName = other (codes "number") (codes "turns") (number_words parts) refl
    go Number WorkersName = other (codes "number") (codes "workers") (number_words parts) refl

gains_number : (s : Slot) (word : Text) (rows : List Row) (parts : List WordPart)
    → values_at (slot_id s) (with_value (codes "number") word rows) ++ slot_values s parts ≡ values_at (slot_id s) rows ++ slot_values s (NumberPart word ∷ parts)
gains_number (Optional WidthName) word rows parts = ap (λ (l : List Text). l ++ option_values WidthName parts) (value_at_other (codes "width") (codes "number") word rows refl)
gains_number (Optional TurnsName) word rows parts = ap (λ (l : List Text). l ++ option_values TurnsName parts) (value_at_other (codes "turns") (codes "number") word rows refl)
gains_number (Optional WorkersName) word rows parts = ap (λ (l : List Text). l ++ option_values WorkersName parts) (value_at_other (codes "workers") (codes "number") word rows refl)
gains_number Number word rows parts =
    ap (λ (l : List Text). l ++ number_words parts) (value_at_own (codes "number") word rows refl) ∙ append_assoc (values_at (codes "number") rows) (word ∷ []) (number_words parts)

-- ---- the walk goes on

first_fault : (a b c : Kinds) → has_fault a ≡ true → has_fault (or_else (or_else a b) c) ≡ true
first_fault [] b c e = absurd (true≢false (sym e))
first_fault (k ∷ ks) b c e = refl

module _ (rows : List Row) (spot : Spot) (word : Text) (rest : List Text) where
  stops : has_fault (turn_fault top [] (walk_at rows spot) word) ≡ true → has_fault (fault_from rows spot (word ∷ rest)) ≡ true
  unfolding walk_fault
  stops e = first_fault (turn_fault top [] (walk_at rows spot) word) _ _ e

  module _ (more : List Row) (next : Spot) (e : walked rules [] (walk_at rows spot) word ≡ walk_at more next) (t : turn_fault top [] (walk_at rows spot) word ≡ []) where
    same_fault : fault_from rows spot (word ∷ rest) ≡ fault_from more next rest
    unfolding walk_fault
    same_fault = λ i. or_else (or_else (t i) (walk_fault top [] (e i) rest)) (settle_fault rules false (fold (walked rules []) (e i) rest).held)

    same_rows : rows_from rows spot (word ∷ rest) ≡ rows_from more next rest
    same_rows = λ i. (settled rules (fold (walked rules []) (e i) rest).held).rows

    goes_on : ((s : Slot) → values_at (slot_id s) (all_rows next more) ≡ values_at (slot_id s) (all_rows spot rows))
        → (c : Option (List WordPart)) → Follows more next rest c → Follows rows spot (word ∷ rest) c
    goes_on same None f = ap has_fault same_fault ∙ f
    goes_on same (Some parts) f = (
      same_fault ∙ f.0,
      λ s. ap (values_at (slot_id s)) same_rows ∙ f.1 s ∙ ap (λ (l : List Text). l ++ slot_values s parts) (same s),
    )

    goes_on_with : (part : WordPart) → ((s : Slot) (parts : List WordPart) → values_at (slot_id s) (all_rows next more) ++ slot_values s parts
        ≡ values_at (slot_id s) (all_rows spot rows) ++ slot_values s (part ∷ parts))
        → (c : Option (List WordPart)) → Follows more next rest c → Follows rows spot (word ∷ rest) (onto_parts part c)
    goes_on_with part gains None f = ap has_fault same_fault ∙ f
    goes_on_with part gains (Some parts) f = (same_fault ∙ f.0, λ s. ap (values_at (slot_id s)) same_rows ∙ f.1 s ∙ gains s parts)

-- a word that is not stray is no two dashes, and no short flags
no_flags : (word : Text) → is_stray word ≡ false → (bytes_eq word (45 ∷ 45 ∷ []) ≡ false) × (long_of word ≡ None → short_of word ≡ None)
no_flags [] e = (refl, λ l. refl)
no_flags (a ∷ []) e = elim (eqb_tells a 45) [
  | inl h ↦ (rw h.0 refl, λ l. rw h.0 refl)
  | inr h ↦ (rw h.0 refl, λ l. rw h.0 refl)
]
no_flags (a ∷ b ∷ []) e = (rw e refl, λ l. rw e refl)
no_flags (a ∷ b ∷ c ∷ rest) e = elim (eqb_tells a 45) [
  | inl h ↦ elim (eqb_tells b 45) [
    | inl g ↦ (rw (h.0, g.0) refl, λ l. absurd (true≢false (ap is_some (rw (h.0, g.0) at l))))
    | inr g ↦ absurd (true≢false (rw (h.0, g.0) at e))
  ]
  | inr h ↦ (rw h.0 refl, λ l. rw h.0 refl)
]

-- ---- over all words

abbrev AreUsual : List Text → Type 0
AreUsual words = AllByRecursion (λ (w : Text). is_stray w ≡ false) words

module _ (word : Text) (rest : List Text) (dashes : bytes_eq word (45 ∷ 45 ∷ []) ≡ false) (short : long_of word ≡ None → short_of word ≡ None)
    (later : (rows : List Row) (spot : Spot) → Follows rows spot rest (word_parts_from (awaited spot) rest)) where
  awaiting : (rows : List Row) (name : OptionName) (l : Option (Text × Option Text)) → long_of word ≡ l
      → Follows rows (Awaits name) (word ∷ rest) (cut_value name (is_long l) word (word_parts_from None rest))
  awaiting rows name None e =
      let step = takes_value rows name word dashes e (short e) in
      goes_on_with rows (Awaits name) word rest rows (Rests false (Some (Optional name, word))) step.0 step.1 (OptionPart name Apart word)
      (λ s parts. gains_option s name Apart word rows parts) (word_parts_from None rest) (later rows (Rests false (Some (Optional name, word))))
  awaiting rows name (Some p) e = stops rows (Awaits name) word rest (go (option_of_name p.0) refl)
    where
      go : (o : Option OptionName) → option_of_name p.0 ≡ o → has_fault (turn_fault top [] (walk_at rows (Awaits name)) word) ≡ true
      go None n = is_unknown rows (Awaits name) word p.0 p.1 dashes e (rule_named p.0 ∙ ap (option_map ready) n)
      go (Some other) n = is_missing rows name other word p.0 p.1 dashes e (rule_named p.0 ∙ ap (option_map ready) n)

  resting : (rows : List Row) (behind : Bool) (p : Option (Slot × Text)) (l : Option (Text × Option Text)) → long_of word ≡ l
      → Follows rows (Rests behind p) (word ∷ rest) (cut_word l word (word_parts_from None rest) (λ name. word_parts_from (Some name) rest))
  resting rows behind p None e =
      let step = stands_alone rows behind p word dashes e (short e) in
      goes_on_with rows (Rests behind p) word rest (rows_at p rows) (Rests true (Some (Number, word))) step.0 step.1 (NumberPart word)
      (λ s parts. gains_number s word (rows_at p rows) parts) (word_parts_from None rest) (later (rows_at p rows) (Rests true (Some (Number, word))))
  resting rows behind p (Some q) e = go (option_of_name q.0) refl q.1 e
    where
      go : (o : Option OptionName) → option_of_name q.0 ≡ o → (value : Option Text) → long_of word ≡ Some (q.0, value)
          → Follows rows (Rests behind p) (word ∷ rest) (cut_option o value (word_parts_from None rest) (λ name. word_parts_from (Some name) rest))
      go None n value e = stops rows (Rests behind p) word rest (is_unknown rows (Rests behind p) word q.0 value dashes e (rule_named q.0 ∙ ap (option_map ready) n))
      go (Some name) n None e =
          let step = waits_for rows behind p name word q.0 dashes e (rule_named q.0 ∙ ap (option_map ready) n) in
          goes_on rows (Rests behind p) word rest (rows_at p rows) (Awaits name) step.0 step.1 (λ s. refl) (word_parts_from (Some name) rest) (later (rows_at p rows) (Awaits name))
      go (Some name) n (Some value) e =
          let step = gives_value rows behind p name word q.0 value dashes e (rule_named q.0 ∙ ap (option_map ready) n) in
          goes_on_with rows (Rests behind p) word rest (with_value (bare_name name) value (rows_at p rows)) (Rests false None) step.0 step.1 (OptionPart name Joined value)
          (λ s parts. gains_option s name Joined value (rows_at p rows) parts) (word_parts_from None rest) (later (with_value (bare_name name) value (rows_at p rows)) (Rests false None))

-- the walk follows the cutting
follows : (words : List Text) → AreUsual words → (rows : List Row) (spot : Spot) → Follows rows spot words (word_parts_from (awaited spot) words)
follows [] usual rows (Awaits name) = ends_awaiting rows name
follows [] usual rows (Rests behind p) = ends_resting rows behind p
follows (word ∷ rest) usual rows (Awaits name) =
    let facts = no_flags word usual.0 in
    awaiting word rest facts.0 facts.1 (follows rest usual.1) rows name (long_of word) refl
follows (word ∷ rest) usual rows (Rests behind p) =
    let facts = no_flags word usual.0 in
    resting word rest facts.0 facts.1 (follows rest usual.1) rows behind p (long_of word) refl

-- ---- a whole parse

or_nothing : (a : Kinds) → or_else a [] ≡ a
or_nothing [] = refl
or_nothing (k ∷ ks) = refl

-- no argument has a default
no_default : (b : Bool) (x : Kinds) → cond (b || true) [] x ≡ []
no_default true x = refl
no_default false x = refl

same_either : (b : Bool) (rows : List Row) → cond b rows rows ≡ rows
same_either true rows = refl
same_either false rows = refl

default_adds : (a : Rule) → a.defaults ≡ [] → (rows : List Row) → with_default rows a ≡ rows
default_adds a none rows = rw none (same_either (has_row a.id rows) rows)

defaults_well : (rows : List Row) → defaults_fault rows rules ≡ []
unfolding defaults_fault
defaults_well rows =
    let first : List Row = with_default rows (ready WidthName) in
    let second : List Row = with_default first (ready TurnsName) in
    let third : List Row = with_default second (ready WorkersName) in
    step rows (ready WidthName) _ refl (step first (ready TurnsName) _ refl (step second (ready WorkersName) _ refl (step third ready_number _ refl refl)))
  where
    step : (more : List Row) (a : Rule) (rest : Kinds) → a.defaults ≡ [] → rest ≡ [] → or_else (default_fault more a) rest ≡ []
    step more a rest none well = rw (none, no_default (has_row a.id more)) well

finished_rows : (h : Held) → finished rules h ≡ (settled rules h).rows
finished_rows h =
    let r0 : List Row = (settled rules h).rows in
    let e1 : with_default r0 (ready WidthName) ≡ r0 = default_adds (ready WidthName) refl r0 in
    let e2 : with_default (with_default r0 (ready WidthName)) (ready TurnsName) ≡ r0 = default_adds (ready TurnsName) refl (with_default r0 (ready WidthName)) ∙ e1 in
    let e3 : with_default (with_default (with_default r0 (ready WidthName)) (ready TurnsName)) (ready WorkersName) ≡ r0 =
    default_adds (ready WorkersName) refl (with_default (with_default r0 (ready WidthName)) (ready TurnsName)) ∙ e2 in
    default_adds ready_number refl (with_default (with_default (with_default r0 (ready WidthName)) (ready TurnsName)) (ready WorkersName)) ∙ e3

-- there are no subcommands
none_entered : (stop : Option (Text × List Text)) → entered (built silo_app) stop ≡ None
none_entered None = refl
none_entered (Some p) = refl

none_fails : (stop : Option (Text × List Text)) → entered_fault (built silo_app) stop ≡ []
none_fails None = refl
none_fails (Some p) = refl

abbrev start : Spot
start = Rests false None

fault_is : (words : List Text) → fault_of silo_app words ≡ fault_from [] start (drop 1 words)
fault_is words =
    let rest : List Text = drop 1 words in
    let stop : Option (Text × List Text) = (walk rules [] nothing_held rest).stopped in
    let end : Held = end_of [] start rest in
    (λ i. level_fault top [] nothing_held rest (is_some (none_entered stop i)) (none_fails stop i))
    ∙ ap (λ (k : Kinds). or_else (walk_fault top [] (walk_at [] start) rest) (or_else (settle_fault rules false end) k))
    (rw (defaults_well (settled rules end).rows) refl)
    ∙ ap (or_else (walk_fault top [] (walk_at [] start) rest)) (or_nothing (settle_fault rules false end))

matches_are : (words : List Text) → matches_of silo_app words ≡ rows_from [] start (drop 1 words)
matches_are words = finished_rows (end_of [] start (drop 1 words))

-- what a parse of usual words comes to, where the words have these parts
abbrev pub ParsesTo : List Text → Option (List WordPart) → Type 0
ParsesTo words None = fault_of silo_app words ≡ [] → ⊥
ParsesTo words (Some parts) = (fault_of silo_app words ≡ [])
    × ((name : OptionName) → values_at (bare_name name) (matches_of silo_app words) ≡ option_values name parts)
    × (values_at (codes "number") (matches_of silo_app words) ≡ number_words parts)

-- clap takes words exactly where they have parts, and says the parts' values
pub parses : (words : List Text) → AllByRecursion (λ (w : Text). is_stray w ≡ false) (drop 1 words) → ParsesTo words (word_parts_from None (drop 1 words))
parses words usual = go (word_parts_from None (drop 1 words)) (follows (drop 1 words) usual [] start)
  where
    go : (c : Option (List WordPart)) → Follows [] start (drop 1 words) c → ParsesTo words c
    go None f = λ e. absurd (true≢false (sym f ∙ ap has_fault (sym (fault_is words) ∙ e)))
    go (Some parts) f = (
      fault_is words ∙ f.0,
      λ name. ap (values_at (bare_name name)) (matches_are words) ∙ f.1 (Optional name),
      ap (values_at (codes "number")) (matches_are words) ∙ f.1 Number,
    )
