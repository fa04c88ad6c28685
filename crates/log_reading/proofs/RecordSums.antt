-- What is kept of records, batch by batch.
use Rattle.std.proofs.Common.{◌≡◌, ℕ, ◌+◌, ◌<◌, ◌≤◌, ◌^◌, max, Some, List, [], ◌∷◌, ◌++◌, length, map, refl, sym, ◌∙◌, ap, arith, subst, length-append, append_assoc, append-nil, drop, get_or, drop-cons, add-one, w32}
use Rattle.std.proofs.Math.ListN.{drop_of_length-le}
use Rattle.std.specs.List.{flat_map, AllByRecursion}
use Rattle.std.proofs.lemmas.List.Sums.{fold-append}
use Rattle.std.proofs.lemmas.List.{length-map}
use Rattle.std.proofs.lemmas.Bool.{and_parts, ltb-true}
use Rattle.base_types.specs.declared.shapes.Shape.{Shape}
use Rattle.field_codec.specs.declared.formats.Format.{Format}
use Rattle.field_codec.specs.declared.formats.Format.TheVariants.{One, Two}
use Rattle.field_codec.specs.Units.{SessionFits}
use Rattle.field_codec.specs.declared.units.Numbers.TheVariants.{Logged}
use Rattle.field_codec.proofs.Counts.{wide32, wide64}
use Rattle.commit_log.specs.declared.records.CommitRecord.{CommitRecord}
use Rattle.commit_log.specs.Bodies.{IsRecordIn}
use Rattle.commit_log.specs.Spelling.{spelling_of_record, spelling_of_body}
use Rattle.commit_log.specs.declared.records.Named.{Named}
use Rattle.field_codec.specs.Spelling.{spelling_of_session, spelling_of_program}
use Rattle.program_file.specs.Programs.{Program, shape_in}
use Rattle.log_reading.specs.Entries.{BodyEntry, Recorded, Upgraded, IsEntryIn, body_said}
use Rattle.log_reading.specs.Blocks.{ReadRecord, entries_said, records_read, programs_read}
use Rattle.log_reading.specs.Versions.{named_by}
use Rattle.log_reading.specs.Sums.{next_after, named_of_records, AreUnitsLow}
use Rattle.std.specs.Int.{w64, to_le_bytes}

pub next_after-append : (next : ℕ) (xs ys : List CommitRecord) → next_after next (xs ++ ys) ≡ next_after (next_after next xs) ys
next_after-append next xs ys = fold-append (λ (n : ℕ) (r : CommitRecord). max n (r.unit.0 + 1)) next xs ys

-- what holds of all of two lists holds of all of both
pub both_parts : {A : Type 0} (P : A → Type 0) (xs ys : List A) → AllByRecursion P xs → AllByRecursion P ys → AllByRecursion P (xs ++ ys)
both_parts P [] ys first all = all
both_parts P (x ∷ xs) ys first all = (first.0, both_parts P xs ys first.1 all)

pub weaker_all : {A : Type 0} (P Q : A → Type 0) → ((x : A) → P x → Q x) → (xs : List A) → AllByRecursion P xs → AllByRecursion Q xs
weaker_all P Q on [] all = tt
weaker_all P Q on (x ∷ xs) all = (on x all.0, weaker_all P Q on xs all.1)

-- a record's unit has a number below 2 to the 63
pub low_unit : (format : Format) (shape : Shape) (r : CommitRecord) → IsRecordIn format Logged shape r → r.unit.0 < 2 ^ 63
low_unit format shape r is = ltb-true r.unit.0 9223372036854775808 (and_parts _ _ is.units.unit).1

pub low_next : (next : ℕ) (rs : List CommitRecord) → next ≤ 2 ^ 63 → AllByRecursion (λ r. r.unit.0 < 2 ^ 63) rs → next_after next rs ≤ 2 ^ 63
low_next next [] low all = low
low_next next (r ∷ rs) low all = low_next (max next (r.unit.0 + 1)) rs (omega (arith, low, all.0)) all.1

pub high_next : (next : ℕ) (rs : List CommitRecord) → 0 < next → 0 < next_after next rs
high_next next [] low = low
high_next next (r ∷ rs) low = high_next (max next (r.unit.0 + 1)) rs (omega (arith, low))

first_long : (a b : List ℕ) → length a ≡ 8 → 8 ≤ length (a ++ b)
first_long a b e = let size : length (a ++ b) ≡ length a + length b = length-append a b in omega (arith, size, e)

each_long : (rs : List CommitRecord) → length rs ≤ length (flat_map spelling_of_record rs)
each_long [] = omega arith
each_long (r ∷ rs) =
    let more = each_long rs in
    let size : length (spelling_of_record r ++ flat_map spelling_of_record rs) ≡ length (spelling_of_record r) + length (flat_map spelling_of_record rs) = length-append (spelling_of_record r) (flat_map spelling_of_record rs) in
    let some : 8 ≤ length (spelling_of_record r) = first_long (to_le_bytes w64 r.unit.0) _ (wide64.len r.unit.0) in
    omega (arith, more, size, some)

-- a body has at least as many bytes as records
pub few_records : (rs : List CommitRecord) (body : List ℕ) → body ≡ spelling_of_body rs → length rs ≤ length body
few_records rs body is =
    let all : length body ≡ length (spelling_of_body rs) = ap length is in
    let size : length (spelling_of_body rs) ≡ length (to_le_bytes w32 (length rs)) + length (flat_map spelling_of_record rs) = length-append (to_le_bytes w32 (length rs)) (flat_map spelling_of_record rs) in
    let more = each_long rs in
    omega (arith, all, size, more)

-- ---- item by item

pub next_item : {A : Type 0} (i : ℕ) (xs : List A) (x : A) → i < length xs → x ≡ get_or xs i x → drop i xs ≡ x ∷ drop (i + 1) xs
next_item i xs x lt e =
    let h : drop i xs ≡ get_or xs i x ∷ drop (i + 1) xs = rw (add-one, drop-cons xs i x) refl in
    h ∙ ap (λ y. y ∷ drop (i + 1) xs) (sym e)

pub next_default : {A : Type 0} (i : ℕ) (xs : List A) (d : A) → i < length xs → drop i xs ≡ get_or xs i d ∷ drop (i + 1) xs
next_default i xs d lt = rw (add-one, drop-cons xs i d) refl

pub no_item : {A : Type 0} (i : ℕ) (xs : List A) → length xs ≤ i → drop i xs ≡ []
no_item i xs le = drop_of_length-le xs le

pub pushed_more : {A B : Type 0} (f : A → B) (x : A) (rest items : List A) (old new all : List B) → items ≡ x ∷ rest → new ≡ old ++ f x ∷ [] → old ++ map f items ≡ all → new ++ map f rest ≡ all
pushed_more f x rest items old new all are is so_far =
    ap (λ l. l ++ map f rest) is ∙ append_assoc old (f x ∷ []) (map f rest) ∙ ap (λ l. old ++ map f l) (sym are) ∙ so_far

pub pushed_all : {A B : Type 0} (f : A → B) (items : List A) (old all : List B) → items ≡ [] → old ++ map f items ≡ all → old ≡ all
pushed_all f items old all are so_far = sym (append-nil old) ∙ ap (λ l. old ++ map f l) (sym are) ∙ so_far

pub named_more : (number : ℕ) (x : CommitRecord) (rest items : List CommitRecord) (old new all : List Named) → items ≡ x ∷ rest → new ≡ old ++ map (λ w. record { unit = Some x.unit; program = number; written = w }) x.writes → old ++ named_of_records number items ≡ all
    → new ++ named_of_records number rest ≡ all
named_more number x rest items old new all are is so_far =
    let own : List Named = map (λ w. record { unit = Some x.unit; program = number; written = w }) x.writes in
    ap (λ (l : List Named). l ++ named_of_records number rest) is ∙ append_assoc old own (named_of_records number rest) ∙ ap (λ (l : List CommitRecord). old ++ named_of_records number l) (sym are) ∙ so_far

pub named_all : (number : ℕ) (items : List CommitRecord) (old all : List Named) → items ≡ [] → old ++ named_of_records number items ≡ all → old ≡ all
named_all number items old all are so_far = sym (append-nil old) ∙ ap (λ (l : List CommitRecord). old ++ named_of_records number l) (sym are) ∙ so_far

-- ---- what a body of records says

pub records_of_records : (rs : List CommitRecord) → records_read (map ReadRecord rs) ≡ rs
records_of_records [] = refl
records_of_records (r ∷ rs) = ap (λ (l : List CommitRecord). r ∷ l) (records_of_records rs)

pub programs_of_records : (rs : List CommitRecord) → programs_read (map ReadRecord rs) ≡ []
programs_of_records [] = refl
programs_of_records (r ∷ rs) = programs_of_records rs

pub named_of_entries : (number : ℕ) (rs : List CommitRecord) → named_by number (map ReadRecord rs) ≡ named_of_records number rs
named_of_entries number [] = refl
named_of_entries number (r ∷ rs) = ap (λ (l : List Named). map (λ w. let n : Named = record { unit = Some r.unit; program = number; written = w } in n) r.writes ++ l) (named_of_entries number rs)

-- the units of a body within the limits have low numbers
pub units_low : (format : Format) (p : Program) (entry : BodyEntry) → IsEntryIn format p entry → AreUnitsLow entry
units_low format p (Recorded rs) is = weaker_all (IsRecordIn format Logged (shape_in p)) (λ r. r.unit.0 < 2 ^ 63) (low_unit format (shape_in p)) rs is.1
units_low format p (Upgraded q) is = tt

pub said_low : (entry : BodyEntry) → AreUnitsLow entry → AllByRecursion (λ r. r.unit.0 < 2 ^ 63) (records_read (entries_said entry))
said_low (Recorded rs) low = subst (AllByRecursion (λ r. r.unit.0 < 2 ^ 63)) (sym (records_of_records rs)) low
said_low (Upgraded q) low = tt

-- a session that a log may have is below 2 to the 63
pub session_low : (format : Format) (last session : ℕ) → SessionFits format Logged last session → session < 2 ^ 63
session_low One last session fits = omega (arith, fits)
session_low Two last session fits = ltb-true session 9223372036854775808 fits.1.1

-- a body has at least as many bytes as entries
pub few_entries : (format : Format) (session : ℕ) (entry : BodyEntry) (bytes : List ℕ) → bytes ≡ body_said format session entry → length (entries_said entry) ≤ length bytes
few_entries format session (Recorded rs) bytes is =
    let few : length rs ≤ length (spelling_of_body rs) = few_records rs (spelling_of_body rs) refl in
    let size : length bytes ≡ length (spelling_of_session format session ++ spelling_of_body rs) = ap length is in
    subst (λ (n : ℕ). n ≤ length bytes) (sym (length-map rs ReadRecord)) (omega (arith, few, size, length-append (spelling_of_session format session) (spelling_of_body rs)))
few_entries format session (Upgraded q) bytes is =
    let text : List ℕ = spelling_of_program q.text in
    let size : length bytes ≡ length (spelling_of_session format session ++ (to_le_bytes w32 4294967295 ++ text)) = ap length is in
    omega (arith, size, length-append (spelling_of_session format session) (to_le_bytes w32 4294967295 ++ text), length-append (to_le_bytes w32 4294967295) text, wide32.len 4294967295)

pub next_more : (x : CommitRecord) (rest items : List CommitRecord) (old new all : ℕ) → items ≡ x ∷ rest → new ≡ max old (x.unit.0 + 1) → next_after old items ≡ all → next_after new rest ≡ all
next_more x rest items old new all are is so_far = ap (λ (n : ℕ). next_after n rest) is ∙ ap (λ (l : List CommitRecord). next_after old l) (sym are) ∙ so_far
