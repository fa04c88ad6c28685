-- An entry's line determines the entry.
use Rattle.std.proofs.Common.{◌≡◌, ◌≢◌, ℕ, zero, suc, ◌+◌, ◌<◌, ◌≤◌, ◌^◌, Bool, true, false, ℤ, pos, negsuc, List, [], ◌∷◌, ◌++◌, length, Option, Some, None, option_map, refl, sym, ap, subst, ◌∙◌, arith, decimal, add-zero, lit<, lit≤, inl, inr, append_assoc}
use Rattle.std.specs.Prelude.{codes, bytes_eq, is_some, slice_get, unwrap_or, if◌then◌else◌, ◌==◌, FitsSigned}
use Rattle.std.specs.Int.{w64}
use Rattle.std.specs.List.{AllByRecursion}
use Rattle.std.proofs.lemmas.List.{append_cancel_left, append_cancel_right}
use Rattle.std.proofs.lemmas.Slice.Eq.{bytes_eq-Decides}
use Rattle.std.proofs.lemmas.Bool.Decides.{nat_tests}
use Rattle.base_types.specs.declared.calls.GrainId.{GrainId}
use Rattle.base_types.specs.declared.calls.Outcome.TheVariants as outcome
use Rattle.base_types.specs.declared.calls.UnitNo.{UnitNo}
use Rattle.base_types.specs.declared.calls.Value.{Value}
use Rattle.base_types.specs.declared.calls.Value.TheVariants.{Int, Text}
use Rattle.base_types.specs.declared.entries.BadRequest.{BadRequest}
use Rattle.base_types.specs.declared.entries.BadRequest.TheVariants.{Json, Shape as ShapeTest, Grain, Method, Args}
use Rattle.base_types.specs.declared.entries.Entry.{Entry}
use Rattle.base_types.specs.declared.entries.Settled.{Settled}
use Rattle.base_types.specs.declared.entries.Settled.TheVariants.{Done, Lock, Vote, Dependency, Disk, InDoubt, Bad}
use Rattle.base_types.specs.declared.shapes.Shape.{Shape}
use Rattle.base_types.specs.declared.shapes.TypeShape.{TypeShape}
use Rattle.json.specs.Json as json
use Rattle.json.specs.Tree.{depth, HasNumbers}
use Rattle.json.specs.Print.{IsNumber}
use Rattle.json.proofs.Printed.Decimals.{IsNumber-decimal, IsNumber-signed_decimal}
use Rattle.json.proofs.Printed.Trees.{document-print}
use Rattle.serde_json.specs.Data.{Num, unsigned, negative, float}
use Rattle.serde_json.specs.Find.{of_integer}
use Rattle.serde_json.specs.Read.{number_of}
use Rattle.serde_json.specs.Written.{number_text, outline, compact_text}
use Rattle.serde_json.proofs.Numbers.{number_of-decimal, number_of-negative}
use Rattle.serde_json.proofs.Texts.{print-outline}
use Rattle.field_codec.specs.declared.formats.Format.TheVariants.{Two}
use Rattle.field_codec.specs.Spelling.{ValueFits}
use Rattle.core_model.specs.CoreState.{Member}
use Rattle.request_wire.specs.Lines.{lines_of}
use Rattle.request_wire.proofs.OneLine.{reply_line-first}
use Rattle.request_wire.specs.Reply.{grain_text, value_data, settled_data, reply_data, reply_line}
use Rattle.promise_spec.specs.Outputs.{HasUnit, MaySay, IsProper, HavePlainNames, Grew, reply_lines}
use Rattle.promise_spec.proofs.Lists.{some_is, head_of, each_of, in_append}

-- ---- what a line says, read from its JSON

abbrev find_in : List ℕ → json.Members → Option json.Json
find_in k json.no_members = None
find_in k (json.member l j ms) = if bytes_eq k l then Some j else find_in k ms

abbrev members_in : json.Json → json.Members
members_in json.null = json.no_members
members_in (json.boolean b) = json.no_members
members_in (json.number s) = json.no_members
members_in (json.string s) = json.no_members
members_in (json.array js) = json.no_members
members_in (json.object ms) = ms

abbrev unsigned_in : Option Num → ℕ
unsigned_in None = 0
unsigned_in (Some (unsigned n)) = n
unsigned_in (Some (negative z)) = 0
unsigned_in (Some (float x)) = 0

abbrev integer_in : Option Num → ℤ
integer_in None = pos 0
integer_in (Some (unsigned n)) = pos n
integer_in (Some (negative z)) = z
integer_in (Some (float x)) = pos 0

abbrev number_in : Option json.Json → List ℕ
number_in None = []
number_in (Some json.null) = []
number_in (Some (json.boolean b)) = []
number_in (Some (json.number s)) = s
number_in (Some (json.string s)) = []
number_in (Some (json.array js)) = []
number_in (Some (json.object ms)) = []

abbrev text_in : Option json.Json → List ℕ
text_in None = []
text_in (Some json.null) = []
text_in (Some (json.boolean b)) = []
text_in (Some (json.number s)) = []
text_in (Some (json.string s)) = s
text_in (Some (json.array js)) = []
text_in (Some (json.object ms)) = []

abbrev value_in : Option json.Json → Value
value_in None = Text []
value_in (Some json.null) = Text []
value_in (Some (json.boolean b)) = Text []
value_in (Some (json.number s)) = Int (integer_in (number_of s))
value_in (Some (json.string s)) = Text s
value_in (Some (json.array js)) = Text []
value_in (Some (json.object ms)) = Text []

abbrev count_at : List ℕ → json.Members → ℕ
count_at k ms = unsigned_in (number_of (number_in (find_in k ms)))

-- ---- grains, read from their texts

abbrev before_slash : List ℕ → List ℕ
before_slash [] = []
before_slash (x ∷ xs) = if x == 47 then [] else x ∷ before_slash xs

abbrev after_slash : List ℕ → List ℕ
after_slash [] = []
after_slash (x ∷ xs) = if x == 47 then xs else after_slash xs

abbrev kind_from : ℕ → List TypeShape → List ℕ → ℕ
kind_from i [] name = i
kind_from i (t ∷ ts) name = if bytes_eq name t.name then i else kind_from (i + 1) ts name

abbrev grain_in : Shape → List ℕ → GrainId
grain_in shape text = record { kind = kind_from 0 shape.types (before_slash text); key = unsigned_in (number_of (after_slash text)) }

-- ---- what a line says, by its members

abbrev cause_in : Shape → json.Members → List ℕ → Settled
cause_in shape ms cause =
    if bytes_eq cause (codes "lock") then Lock (record { 0 = count_at (codes "by") ms }) (grain_in shape (text_in (find_in (codes "grain") ms)))
    else (if bytes_eq cause (codes "vote") then Vote (grain_in shape (text_in (find_in (codes "grain") ms)))
    else (if bytes_eq cause (codes "dependency") then Dependency (record { 0 = count_at (codes "on") ms }) else Disk))

abbrev test_in : List ℕ → BadRequest
test_in text =
    if bytes_eq text (codes "json") then Json
    else (if bytes_eq text (codes "shape") then ShapeTest
    else (if bytes_eq text (codes "grain") then Grain
    else (if bytes_eq text (codes "method") then Method else Args)))

abbrev settled_in : Shape → json.Members → Settled
settled_in shape ms =
    if is_some (find_in (codes "reply") ms) then Done (outcome.Value (value_in (find_in (codes "reply") ms)))
    else (if is_some (find_in (codes "fault") ms) then Done (outcome.Fault (text_in (find_in (codes "fault") ms)))
    else (if is_some (find_in (codes "in_doubt") ms) then InDoubt
    else (if is_some (find_in (codes "bad") ms) then Bad (test_in (text_in (find_in (codes "bad") ms)))
    else cause_in shape ms (text_in (find_in (codes "aborted") ms)))))

-- ---- numbers are read back

count_back : (n : ℕ) → n < 2 ^ 64 → unsigned_in (number_of (decimal n)) ≡ n
count_back n h = ap unsigned_in (number_of-decimal n h)

int_back : (z : ℤ) → FitsSigned w64 z → integer_in (number_of (number_text (of_integer z))) ≡ z
int_back (pos n) fits = ap integer_in (number_of-decimal n (omega arith))
int_back (negsuc n) fits = ap integer_in (number_of-negative n (omega arith))

int_number : (z : ℤ) → FitsSigned w64 z → IsNumber (number_text (of_integer z))
int_number (pos n) fits = IsNumber-decimal n (omega arith)
int_number (negsuc n) fits = IsNumber-signed_decimal (negsuc n) (omega arith)

-- ---- grains are read back

eqb-ne : (x : ℕ) → x ≢ 47 → (x == 47) ≡ false
eqb-ne x differ = grind (arith, nat_tests)

before_back : (name key : List ℕ) → AllByRecursion (λ (byte : ℕ). byte ≢ 47) name → before_slash (name ++ (47 ∷ key)) ≡ name
before_back [] key plain = refl
before_back (x ∷ name) key plain = rw (eqb-ne x plain.0) (ap (λ (l : List ℕ). x ∷ l) (before_back name key plain.1))

after_back : (name key : List ℕ) → AllByRecursion (λ (byte : ℕ). byte ≢ 47) name → after_slash (name ++ (47 ∷ key)) ≡ key
after_back [] key plain = refl
after_back (x ∷ name) key plain = rw (eqb-ne x plain.0) (after_back name key plain.1)

abbrev name_at : List TypeShape → ℕ → List ℕ
name_at types k = unwrap_or (option_map (λ t. t.name) (slice_get types k)) []

plain_at : (types : List TypeShape) (k : ℕ) → HavePlainNames types → k < length types → AllByRecursion (λ (byte : ℕ). byte ≢ 47) (name_at types k)
plain_at [] k plain within = absurd (omega arith)
plain_at (t ∷ types) zero plain within = plain.0
plain_at (t ∷ types) (suc k) plain within = plain_at types k plain.2 (omega arith)

other_name : (types : List TypeShape) (k : ℕ) (name : List ℕ) → AllByRecursion (λ (u : TypeShape). u.name ≢ name) types → k < length types → name_at types k ≢ name
other_name [] k name apart within same = absurd (omega arith)
other_name (t ∷ types) zero name apart within same = apart.0 same
other_name (t ∷ types) (suc k) name apart within same = other_name types k name apart.1 (omega arith) same

not_same : (a b : List ℕ) (test : Bool) → bytes_eq a b ≡ test → a ≢ b → test ≡ false
not_same a b true is differ = absurd (differ ((bytes_eq-Decides a b).0 is))
not_same a b false is differ = refl

kind_back : (i : ℕ) (types : List TypeShape) (k : ℕ) → HavePlainNames types → k < length types → kind_from i types (name_at types k) ≡ i + k
kind_back i [] k plain within = absurd (omega arith)
kind_back i (t ∷ types) zero plain within = rw ((bytes_eq-Decides t.name t.name).1 refl) (sym (add-zero i))
kind_back i (t ∷ types) (suc k) plain within =
    let later : k < length types = omega arith in
    let differ : bytes_eq (name_at types k) t.name ≡ false = not_same (name_at types k) t.name (bytes_eq (name_at types k) t.name) refl (other_name types k t.name plain.1 later) in
    let more : kind_from (i + 1) types (name_at types k) ≡ i + 1 + k = kind_back (i + 1) types k plain.2 later in
    rw differ (more ∙ omega arith)

module _ (shape : Shape) (plain : HavePlainNames shape.types) where
  grain_back : (g : GrainId) → g.kind < length shape.types → g.key < 2 ^ 32 → grain_in shape (grain_text shape g) ≡ g
  grain_back g known small =
      let names = plain_at shape.types g.kind plain known in
      let kind : kind_from 0 shape.types (before_slash (grain_text shape g)) ≡ g.kind =
      ap (kind_from 0 shape.types) (before_back (name_at shape.types g.kind) (decimal g.key) names) ∙ kind_back 0 shape.types g.kind plain known ∙ omega arith in
      let key : unsigned_in (number_of (after_slash (grain_text shape g))) ≡ g.key =
      ap (λ (l : List ℕ). unsigned_in (number_of l)) (after_back (name_at shape.types g.kind) (decimal g.key) names) ∙ count_back g.key (omega (arith, small)) in
      λ i. record { kind = kind i; key = key i }

  -- ---- entries are read back

  abbrev json_of : Entry → json.Json
  json_of e = outline (reply_data shape e)

  abbrev unit_in : json.Members → ℕ
  unit_in ms = if is_some (find_in (codes "bad") ms) then 0 else count_at (codes "unit") ms

  value_back : (v : Value) → ValueFits Two v → value_in (Some (outline (value_data v))) ≡ v
  value_back (Int z) fits = ap Int (int_back z fits)
  value_back (Text text) fits = refl

  settled_back : (n u : ℕ) (what : Settled) → MaySay shape what → settled_in shape (members_in (outline (settled_data shape n u what))) ≡ what
  settled_back n u (Done (outcome.Value v)) may = ap (λ (x : Value). Done (outcome.Value x)) (value_back v may)
  settled_back n u (Done (outcome.Fault text)) may = refl
  settled_back n u (Done outcome.Aborted) may = absurd may
  settled_back n u (Lock by g) may =
      let count : unsigned_in (number_of (decimal by.0)) ≡ by.0 = count_back by.0 may.0 in
      let grain : grain_in shape (grain_text shape g) ≡ g = grain_back g may.1.0 may.1.1 in
      λ i. Lock (record { 0 = count i }) (grain i)
  settled_back n u (Vote g) may = ap Vote (grain_back g may.0 may.1)
  settled_back n u (Dependency on) may = ap (λ (k : ℕ). Dependency (record { 0 = k })) (count_back on.0 may)
  settled_back n u Disk may = refl
  settled_back n u InDoubt may = refl
  settled_back n u (Bad Json) may = refl
  settled_back n u (Bad ShapeTest) may = refl
  settled_back n u (Bad Grain) may = refl
  settled_back n u (Bad Method) may = refl
  settled_back n u (Bad Args) may = refl

  line_back : (n u : ℕ) (what : Settled) → n < 2 ^ 64 → count_at (codes "n") (members_in (outline (settled_data shape n u what))) ≡ n
  line_back n u (Done (outcome.Value v)) h = count_back n h
  line_back n u (Done (outcome.Fault text)) h = count_back n h
  line_back n u (Done outcome.Aborted) h = count_back n h
  line_back n u (Lock by g) h = count_back n h
  line_back n u (Vote g) h = count_back n h
  line_back n u (Dependency on) h = count_back n h
  line_back n u Disk h = count_back n h
  line_back n u InDoubt h = count_back n h
  line_back n u (Bad why) h = count_back n h

  unit_back : (n : ℕ) (u : UnitNo) (what : Settled) → HasUnit u what → unit_in (members_in (outline (settled_data shape n u.0 what))) ≡ u.0
  unit_back n u (Done (outcome.Value v)) h = count_back u.0 h.1
  unit_back n u (Done (outcome.Fault text)) h = count_back u.0 h.1
  unit_back n u (Done outcome.Aborted) h = count_back u.0 h.1
  unit_back n u (Lock by g) h = count_back u.0 h.1
  unit_back n u (Vote g) h = count_back u.0 h.1
  unit_back n u (Dependency on) h = count_back u.0 h.1
  unit_back n u Disk h = count_back u.0 h.1
  unit_back n u InDoubt h = count_back u.0 h.1
  unit_back n u (Bad why) h = ap (λ (v : UnitNo). v.0) (sym h)

  numbers_in : (n u : ℕ) (what : Settled) → n < 2 ^ 64 → u < 2 ^ 64 → MaySay shape what → HasNumbers (outline (settled_data shape n u what))
  numbers_in n u (Done (outcome.Value (Int z))) h k may = (IsNumber-decimal n h, (int_number z may, (IsNumber-decimal u k, tt)))
  numbers_in n u (Done (outcome.Value (Text text))) h k may = (IsNumber-decimal n h, (tt, (IsNumber-decimal u k, tt)))
  numbers_in n u (Done (outcome.Fault text)) h k may = (tt, (IsNumber-decimal n h, (IsNumber-decimal u k, tt)))
  numbers_in n u (Done outcome.Aborted) h k may = absurd may
  numbers_in n u (Lock by g) h k may = (tt, (IsNumber-decimal by.0 may.0, (tt, (IsNumber-decimal n h, (IsNumber-decimal u k, tt)))))
  numbers_in n u (Vote g) h k may = (tt, (tt, (IsNumber-decimal n h, (IsNumber-decimal u k, tt))))
  numbers_in n u (Dependency on) h k may = (tt, (IsNumber-decimal n h, (IsNumber-decimal on.0 may, (IsNumber-decimal u k, tt))))
  numbers_in n u Disk h k may = (tt, (IsNumber-decimal n h, (IsNumber-decimal u k, tt)))
  numbers_in n u InDoubt h k may = (tt, (IsNumber-decimal n h, (IsNumber-decimal u k, tt)))
  numbers_in n u (Bad why) h k may = (tt, (IsNumber-decimal n h, tt))

  shallow : (n u : ℕ) (what : Settled) → depth (outline (settled_data shape n u what)) ≤ json.max_depth
  shallow n u (Done (outcome.Value (Int z))) = lit≤ tt
  shallow n u (Done (outcome.Value (Text text))) = lit≤ tt
  shallow n u (Done (outcome.Fault text)) = lit≤ tt
  shallow n u (Done outcome.Aborted) = lit≤ tt
  shallow n u (Lock by g) = lit≤ tt
  shallow n u (Vote g) = lit≤ tt
  shallow n u (Dependency on) = lit≤ tt
  shallow n u Disk = lit≤ tt
  shallow n u InDoubt = lit≤ tt
  shallow n u (Bad why) = lit≤ tt

  unit_small : (u : UnitNo) (what : Settled) → HasUnit u what → u.0 < 2 ^ 64
  unit_small u (Done outcome) h = h.1
  unit_small u (Lock by g) h = h.1
  unit_small u (Vote g) h = h.1
  unit_small u (Dependency on) h = h.1
  unit_small u Disk h = h.1
  unit_small u InDoubt h = h.1
  unit_small u (Bad why) h = subst (λ (v : UnitNo). v.0 < 2 ^ 64) (sym h) (lit< tt)

  -- the JSON of a line is read back from its text
  read_back : (e : Entry) → IsProper shape e → json.document (compact_text (reply_data shape e)) ≡ Some (json_of e)
  read_back e proper =
      let line : e.line < 2 ^ 64 = (let small : e.line < 2 ^ 32 = proper.line.1 in omega arith) in
      ap json.document (sym (print-outline (reply_data shape e)))
      ∙ document-print (json_of e) (numbers_in e.line e.unit.0 e.what line (unit_small e.unit e.what proper.unit) proper.what) (shallow e.line e.unit.0 e.what)

  pub entry_same : (d e : Entry) → IsProper shape d → IsProper shape e → reply_line shape d ≡ reply_line shape e → d ≡ e
  entry_same d e first second same =
      let texts : compact_text (reply_data shape d) ≡ compact_text (reply_data shape e) = append_cancel_right (compact_text (reply_data shape d)) (compact_text (reply_data shape e)) (10 ∷ []) same in
      let jsons : json_of d ≡ json_of e = some_is (json_of d) (json_of e) (sym (read_back d first) ∙ ap json.document texts ∙ read_back e second) in
      let small_d : d.line < 2 ^ 64 = (let small : d.line < 2 ^ 32 = first.line.1 in omega arith) in
      let small_e : e.line < 2 ^ 64 = (let small : e.line < 2 ^ 32 = second.line.1 in omega arith) in
      let line : d.line ≡ e.line = sym (line_back d.line d.unit.0 d.what small_d) ∙ ap (λ (j : json.Json). count_at (codes "n") (members_in j)) jsons ∙ line_back e.line e.unit.0 e.what small_e in
      let unit : d.unit.0 ≡ e.unit.0 = sym (unit_back d.line d.unit d.what first.unit) ∙ ap (λ (j : json.Json). unit_in (members_in j)) jsons ∙ unit_back e.line e.unit e.what second.unit in
      let what : d.what ≡ e.what = sym (settled_back d.line d.unit.0 d.what first.what) ∙ ap (λ (j : json.Json). settled_in shape (members_in j)) jsons ∙ settled_back e.line e.unit.0 e.what second.what in
      λ i. record { line = line i; unit = record { 0 = unit i }; what = what i }

-- ---- outputs are cut in one way

feed_there : (text more : List ℕ) → Member 10 ((text ++ 10 ∷ []) ++ more)
feed_there text more = in_append 10 (text ++ 10 ∷ []) more (inl (in_append 10 text (10 ∷ []) (inr (inl refl))))

no_line : (shape : Shape) (e : Entry) (rest more : List ℕ) → AllByRecursion (λ (byte : ℕ). byte ≢ 10) rest → rest ≡ reply_line shape e ++ more → ⊥
no_line shape e rest more unended same =
    each_of (λ (byte : ℕ). byte ≢ 10) rest 10 unended (subst (λ (l : List ℕ). Member 10 l) (sym same) (feed_there (compact_text (reply_data shape e)) more)) refl

module _ (shape : Shape) (plain : HavePlainNames shape.types) where
  lines_same : (ds es : List Entry) (r s : List ℕ) → AllByRecursion (IsProper shape) ds → AllByRecursion (IsProper shape) es → AllByRecursion (λ (byte : ℕ). byte ≢ 10) r → AllByRecursion (λ (byte : ℕ). byte ≢ 10) s
      → reply_lines shape ds ++ r ≡ reply_lines shape es ++ s → (ds ≡ es) × (r ≡ s)
  lines_same [] [] r s first second ends ends_too same = (refl, same)
  lines_same [] (e ∷ es) r s first second ends ends_too same =
      absurd (no_line shape e r (reply_lines shape es ++ s) ends (same ∙ append_assoc (reply_line shape e) (reply_lines shape es) s))
  lines_same (d ∷ ds) [] r s first second ends ends_too same =
      absurd (no_line shape d s (reply_lines shape ds ++ r) ends_too (sym same ∙ append_assoc (reply_line shape d) (reply_lines shape ds) r))
  lines_same (d ∷ ds) (e ∷ es) r s first second ends ends_too same =
      let split : reply_line shape d ++ (reply_lines shape ds ++ r) ≡ reply_line shape e ++ (reply_lines shape es ++ s) =
      sym (append_assoc (reply_line shape d) (reply_lines shape ds) r) ∙ same ∙ append_assoc (reply_line shape e) (reply_lines shape es) s in
      let cut : compact_text (reply_data shape d) ∷ lines_of (reply_lines shape ds ++ r) ≡ compact_text (reply_data shape e) ∷ lines_of (reply_lines shape es ++ s) =
      sym (reply_line-first shape d (reply_lines shape ds ++ r)) ∙ ap lines_of split ∙ reply_line-first shape e (reply_lines shape es ++ s) in
      let text : compact_text (reply_data shape d) ≡ compact_text (reply_data shape e) = head_of (compact_text (reply_data shape d)) (compact_text (reply_data shape e)) _ _ cut in
      let line : reply_line shape d ≡ reply_line shape e = ap (λ (t : List ℕ). t ++ 10 ∷ []) text in
      let one : d ≡ e = entry_same shape plain d e first.0 second.0 line in
      let rest : reply_lines shape ds ++ r ≡ reply_lines shape es ++ s =
      append_cancel_left (reply_line shape d) (reply_lines shape ds ++ r) (reply_lines shape es ++ s) (split ∙ ap (λ (t : List ℕ). t ++ (reply_lines shape es ++ s)) (sym line)) in
      let more = lines_same ds es r s first.1 second.1 ends ends_too rest in
      ((λ i. one i ∷ more.0 i), more.1)

  pub output_same : (before now : List ℕ) (ds es : List Entry) (r s : List ℕ) → Grew shape before now ds r → Grew shape before now es s → (ds ≡ es) × (r ≡ s)
  output_same before now ds es r s first second =
      lines_same ds es r s first.proper second.proper first.unended second.unended
      (append_cancel_left before (reply_lines shape ds ++ r) (reply_lines shape es ++ s) (sym first.output ∙ second.output))
