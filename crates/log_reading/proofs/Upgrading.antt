-- What an upgrade's body says, whatever follows its text; and which bodies say an upgrade, or records.
use Rattle.std.proofs.Common.{◌≡◌, ℕ, ◌+◌, ◌-◌, ◌<◌, ◌≤◌, ◌^◌, Bool, true, false, cond, eqb, ltb, List, [], ◌∷◌, ◌++◌, length, Option, Some, None, Result, Ok, Err, refl, sym, ap, ◌∙◌, length-append, arith, eq-eqb, subst, eqb-true}
use Rattle.std.specs.Int.{w32, w64, to_le_bytes, from_le_bytes}
use Rattle.std.proofs.lemmas.Bool.{ne_eqb, ltb-false}
use Rattle.std.proofs.lemmas.List.{take_at, take_all, append-nil}
use Rattle.base_types.specs.declared.shapes.Shape.{Shape}
use Rattle.field_codec.specs.declared.faults.CodecFault.{CodecFault}
use Rattle.field_codec.specs.declared.faults.CodecFault.TheVariants.{BadOrder, Unknown}
use Rattle.field_codec.specs.declared.formats.Format.{Format}
use Rattle.field_codec.specs.declared.formats.Format.TheVariants.{One, Two}
use Rattle.field_codec.specs.declared.units.Numbers.TheVariants.{Logged}
use Rattle.field_codec.specs.Spelling.{Stands, spelling_of_session, ProgramFits}
use Rattle.field_codec.specs.Units.{SessionFits, may_be_parent}
use Rattle.field_codec.specs.Fields.{session_at, session_of}
use Rattle.field_codec.specs.Readers.{AreBytes, and_then, whole, refused, field, choice, number_at}
use Rattle.field_codec.specs.Results.{place_of}
use Rattle.field_codec.proofs.Counts.{reads64, wide64}
use Rattle.field_codec.proofs.TextPlaces.{stands_first}
use Rattle.commit_log.specs.declared.records.CommitRecord.{CommitRecord}
use Rattle.script_tree.specs.Programs.{ProgramTree}
use Rattle.script_lexer.specs.declared.faults.ParseFault.{ParseFault}
use Rattle.script_parser.specs.Programs.{program_of}
use Rattle.script_scopes.specs.declared.faults.CheckFault.{CheckFault}
use Rattle.script_check.specs.Programs.{program_fault}
use Rattle.program_file.specs.declared.faults.ProgramFault.{ProgramFault}
use Rattle.program_file.specs.Programs.{Program, IsChecked, program_in, fault_place, unless_fault, checked_in}
use Rattle.script_check.specs.Comparison.{GoesOnFrom, compared}
use Rattle.script_check.proofs.ComparedNames.{accepts}
use Rattle.commit_log.specs.declared.contents.Body.{Body}
use Rattle.commit_log.specs.declared.contents.Body.TheVariants as body
use Rattle.commit_log.specs.Contents.{spelling_of_content, IsContentIn, content_in, upgrade_mark}
use Rattle.commit_log.specs.Sessions.{spelling_with_session, IsSessionBody, front_in}
use Rattle.commit_log.proofs.FrontsRead.{front_reads}
use Rattle.log_reading.specs.Entries.{BodyEntry, Recorded, Upgraded, where_ended, where_followed, where_accepted, entry_by_content, entry_read, entry_of_body}

-- the types of a checked program are those of its text
checked_text : (p : Program) → IsChecked p → program_in p.text ≡ Ok p.types
checked_text p is = ap checked_in is.parsed ∙ ap (λ (o : Option CheckFault). unless_fault p.types o) is.checked

-- ---- from the spelling

no_match : (a b : ℕ) → a < b → eqb a b ≡ false
no_match a b lt = ne_eqb a b (λ is. omega (arith, lt, is))

module _ (f : Format) (types : ProgramTree) (shape : Shape) (last session : ℕ) (taken : SessionFits f Logged last session) where
  abbrev bytes_of : Body → List ℕ
  bytes_of b = spelling_with_session f session b

  -- where an upgrade's text begins
  abbrev begin : ℕ
  begin = length (spelling_of_session f session) + 8

  text_ends : (text : List ℕ) → length (bytes_of (body.Upgrade text)) ≡ begin + length text
  text_ends text =
      omega (arith, length-append (spelling_of_session f session) (spelling_of_content (body.Upgrade text)), length-append (to_le_bytes w32 upgrade_mark) (to_le_bytes w32 (length text) ++ text), length-append (to_le_bytes w32 (length text)) text)

  -- what was spelled is read at the begin, whatever follows
  read_again : (b : Body) (behind : List ℕ) → IsContentIn f Logged shape b
      → entry_of_body f types shape last (bytes_of b ++ behind) ≡ entry_by_content (bytes_of b ++ behind) types (length (bytes_of b)) b
  read_again b behind fits =
      let bytes = bytes_of b ++ behind in
      let stands : Stands bytes 0 (bytes_of b) (length (bytes_of b)) = record { end_at = omega arith; here = take_at (bytes_of b) behind (length (bytes_of b)) refl } in
      ap (entry_read bytes types) ((front_reads f Logged shape last 0).again bytes 0 (session, b) (length (bytes_of b)) (omega arith) tt (taken, fits) stands)

  abbrev upgrade_bytes : List ℕ → List ℕ → List ℕ
  upgrade_bytes text behind = bytes_of (body.Upgrade text) ++ behind

  accepted_at : (text behind : List ℕ) → ProgramFits text
      → entry_of_body f types shape last (upgrade_bytes text behind) ≡ where_accepted (upgrade_bytes text behind) types begin (begin + length text) text (program_in text)
  accepted_at text behind fits =
      let bytes = upgrade_bytes text behind in
      let end : length (bytes_of (body.Upgrade text)) ≡ begin + length text = text_ends text in
      let begins : length (bytes_of (body.Upgrade text)) - length text ≡ begin = omega (arith, end) in
      read_again (body.Upgrade text) behind fits
      ∙ ap (λ (n : ℕ). where_accepted bytes types n (length (bytes_of (body.Upgrade text))) text (program_in text)) begins
      ∙ ap (λ (n : ℕ). where_accepted bytes types begin n text (program_in text)) end

  pub text_first : (text behind : List ℕ) (fault : ProgramFault) → ProgramFits text → program_in text ≡ Err fault
      → entry_of_body f types shape last (upgrade_bytes text behind) ≡ Err (begin + fault_place fault)
  text_first text behind fault fits e =
      accepted_at text behind fits ∙ ap (λ (r : Result ProgramTree ProgramFault). where_accepted (upgrade_bytes text behind) types begin (begin + length text) text r) e

  followed_at : (news : ProgramTree) (text behind : List ℕ) → ProgramFits text → program_in text ≡ Ok news
      → entry_of_body f types shape last (upgrade_bytes text behind) ≡ where_followed (upgrade_bytes text behind) begin (begin + length text) (record { text = text; types = news }) (compared types news (length text))
  followed_at news text behind fits e =
      accepted_at text behind fits ∙ ap (λ (r : Result ProgramTree ProgramFault). where_accepted (upgrade_bytes text behind) types begin (begin + length text) text r) e

  pub name_next : (news : ProgramTree) (text behind : List ℕ) (at : ℕ) → ProgramFits text → program_in text ≡ Ok news → compared types news (length text) ≡ Some at
      → entry_of_body f types shape last (upgrade_bytes text behind) ≡ Err (begin + at)
  name_next news text behind at fits e other =
      followed_at news text behind fits e
      ∙ ap (λ (o : Option ℕ). where_followed (upgrade_bytes text behind) begin (begin + length text) (record { text = text; types = news }) o) other

  ended_at : (news : ProgramTree) (text behind : List ℕ) → ProgramFits text → program_in text ≡ Ok news → GoesOnFrom types news
      → entry_of_body f types shape last (upgrade_bytes text behind) ≡ where_ended (upgrade_bytes text behind) (begin + length text) (Upgraded (record { text = text; types = news }))
  ended_at news text behind fits e goes =
      followed_at news text behind fits e
      ∙ ap (λ (o : Option ℕ). where_followed (upgrade_bytes text behind) begin (begin + length text) (record { text = text; types = news }) o) ((accepts types news (length text)).1 goes)

  pub bytes_behind : (news : ProgramTree) (text more : List ℕ) (byte : ℕ) → ProgramFits text → program_in text ≡ Ok news → GoesOnFrom types news
      → entry_of_body f types shape last (upgrade_bytes text (byte ∷ more)) ≡ Err (begin + length text)
  bytes_behind news text more byte fits e goes =
      let bytes = upgrade_bytes text (byte ∷ more) in
      let further : begin + length text < length bytes = omega (arith, text_ends text, length-append (bytes_of (body.Upgrade text)) (byte ∷ more)) in
      ended_at news text (byte ∷ more) fits e goes
      ∙ ap (λ (b : Bool). cond b (Ok (Upgraded (record { text = text; types = news }))) (Err (begin + length text))) (no_match (begin + length text) (length bytes) further)

  pub spelled : (p : Program) → IsChecked p → GoesOnFrom types p.types → entry_of_body f types shape last (bytes_of (body.Upgrade p.text)) ≡ Ok (Upgraded p)
  spelled p is goes =
      let bytes = upgrade_bytes p.text [] in
      let all : length bytes ≡ begin + length p.text = omega (arith, text_ends p.text, length-append (bytes_of (body.Upgrade p.text)) []) in
      ap (entry_of_body f types shape last) (sym (append-nil (bytes_of (body.Upgrade p.text))))
      ∙ ended_at p.types p.text [] is.small (checked_text p is) goes
      ∙ ap (λ (b : Bool). cond b (Ok (Upgraded p)) (Err (begin + length p.text))) (eq-eqb (begin + length p.text) (length bytes) (sym all))

  recorded_again : (rs : List CommitRecord) → IsContentIn f Logged shape (body.Records rs) → entry_of_body f types shape last (bytes_of (body.Records rs)) ≡ Ok (Recorded rs)
  recorded_again rs fits =
      let whole = bytes_of (body.Records rs) in
      let all : length whole ≡ length (whole ++ []) = omega (arith, length-append whole []) in
      ap (entry_of_body f types shape last) (sym (append-nil whole))
      ∙ read_again (body.Records rs) [] fits
      ∙ ap (λ (b : Bool). cond b (Ok (Recorded rs)) (Err (length whole))) (eq-eqb (length whole) (length (whole ++ [])) all)

abbrev as_session : ℕ × ℕ → Result (ℕ × ℕ) CodecFault
as_session x = Ok x

refused_so : (falls may : Bool) (session : ℕ) → (falls ≡ false → may ≡ true → ⊥)
    → (fault : CodecFault) × (cond falls (Err (BadOrder 0)) (cond may (as_session (session, 8)) (Err (Unknown 0))) ≡ Err fault) × (place_of fault ≡ 0)
refused_so true may session not = (BadOrder 0, refl, refl)
refused_so false false session not = (Unknown 0, refl, refl)
refused_so false true session not = absurd (not refl refl)

session_refused : (last session : ℕ) (behind : List ℕ) → session < 2 ^ 64 → (SessionFits Two Logged last session → ⊥)
    → (fault : CodecFault) × (session_at Two Logged last (to_le_bytes w64 session ++ behind) 0 ≡ Err fault) × (place_of fault ≡ 0)
unfolding session_at field choice refused whole
session_refused last session behind small not =
    let bytes = to_le_bytes w64 session ++ behind in
    let stands : Stands bytes 0 (to_le_bytes w64 session) 8 = record { end_at = refl; here = take_at (to_le_bytes w64 session) behind 8 refl } in
    let read : number_at w64 bytes 0 ≡ Ok (session, 8) = (reads64 0).again bytes 0 session 8 (omega arith) tt small stands in
    let r = refused_so (ltb session last) (may_be_parent Logged session) session (λ stays may. not (small, (ltb-false session last stays, may))) in
    (r.0, ap (λ (x : Result (ℕ × ℕ) CodecFault). and_then x (λ y. cond (ltb y.0 last) (Err (BadOrder 0)) (cond (may_be_parent Logged y.0) (as_session (y.0, y.1)) (Err (Unknown 0))))) read ∙ r.1, r.2)

-- a session that isn't taken is damaged at its begin, whatever follows
pub session_first : (types : ProgramTree) (shape : Shape) (last session : ℕ) (behind : List ℕ) → session < 2 ^ 64 → (SessionFits Two Logged last session → ⊥)
    → entry_of_body Two types shape last (spelling_of_session Two session ++ behind) ≡ Err 0
unfolding front_in field whole
session_first types shape last session behind small not =
    let bytes = spelling_of_session Two session ++ behind in
    let r = session_refused last session behind small not in
    ap (λ (x : Result (ℕ × ℕ) CodecFault). entry_read bytes types (and_then x (λ s. and_then (content_in Two Logged shape bytes s.1) (λ c. Ok ((s.0, c.0), c.1))))) r.1 ∙ ap (λ (n : ℕ). Err n) r.2

-- ---- to the spelling

-- the body ended, with this entry
ended_so : (b : Bool) (one other : BodyEntry) (end : ℕ) → cond b (Ok one) (Err end) ≡ Ok other → (b ≡ true) × (one ≡ other)
ended_so true one other end e = (refl, cc)
ended_so false one other end e = absurd cc

-- what was read, where a body says an upgrade
record SaysUpgrade (bytes : List ℕ) (types : ProgramTree) (p : Program) (r : Result ((ℕ × Body) × ℕ) CodecFault) : Type 0 where
  session : ℕ
  end : ℕ
  read : r ≡ Ok ((session, body.Upgrade p.text), end)
  whole : eqb end (length bytes) ≡ true
  accepted : program_in p.text ≡ Ok p.types
  followed : compared types p.types (length p.text) ≡ None

from_followed : (bytes : List ℕ) (types : ProgramTree) (p q : Program) (end start : ℕ) (o : Option ℕ) → where_followed bytes start end q o ≡ Ok (Upgraded p) → (o ≡ None) × ((eqb end (length bytes) ≡ true) × (q ≡ p))
from_followed bytes types p q end start (Some at) e = absurd cc
from_followed bytes types p q end start None e = (let h = ended_so (eqb end (length bytes)) (Upgraded q) (Upgraded p) end e in let is : q ≡ p = (let u = h.1 in cc) in (refl, (h.0, is)))

from_accepted : (bytes : List ℕ) (types : ProgramTree) (p : Program) (end start : ℕ) (text : List ℕ) (r : Result ProgramTree ProgramFault) → where_accepted bytes types start end text r ≡ Ok (Upgraded p)
    → (news : ProgramTree) × (r ≡ Ok news) × (compared types news (length text) ≡ None) × (eqb end (length bytes) ≡ true) × (record { text = text; types = news } ≡ p)
from_accepted bytes types p end start text (Err fault) e = absurd cc
from_accepted bytes types p end start text (Ok news) e =
    let q : Program = record { text = text; types = news } in
    let h = from_followed bytes types p q end start (compared types news (length text)) e in
    (news, refl, h.0, h.1.0, h.1.1)

from_body : (bytes : List ℕ) (types : ProgramTree) (p : Program) (session end : ℕ) (b : Body) → entry_by_content bytes types end b ≡ Ok (Upgraded p) → SaysUpgrade bytes types p (Ok ((session, b), end))
from_body bytes types p session end (body.Records records) e = (let h = ended_so (eqb end (length bytes)) (Recorded records) (Upgraded p) end e in absurd (let u = h.1 in cc))
from_body bytes types p session end (body.Upgrade text) e =
    let h = from_accepted bytes types p end (end - length text) text (program_in text) e in
    let q : Program = record { text = text; types = h.0 } in
    let is : q ≡ p = h.4 in
    let same : text ≡ p.text = ap (λ (x : Program). x.text) is in
    let news : h.0 ≡ p.types = ap (λ (x : Program). x.types) is in
    record {
      session = session;
      end = end;
      read = ap (λ (t : List ℕ). Ok ((session, body.Upgrade t), end)) same;
      whole = h.3;
      accepted = ap program_in (sym same) ∙ h.1 ∙ ap (λ (x : ProgramTree). Ok x) news;
      followed = ap (λ (x : Program). compared types x.types (length x.text)) (sym is) ∙ h.2;
    }

from_read : (bytes : List ℕ) (types : ProgramTree) (p : Program) (r : Result ((ℕ × Body) × ℕ) CodecFault) → entry_read bytes types r ≡ Ok (Upgraded p) → SaysUpgrade bytes types p r
from_read bytes types p (Err fault) e = absurd cc
from_read bytes types p (Ok found) e = from_body bytes types p found.0.0 found.1 found.0.1 e

-- these types were parsed
abbrev is_parsed : ProgramTree → Result ProgramTree ParseFault
is_parsed types = Ok types

-- a text whose types are these is a checked program
checked_if : (r : Result ProgramTree ParseFault) (types : ProgramTree) → checked_in r ≡ Ok types → (r ≡ Ok types) × (program_fault types ≡ None)
checked_if (Err fault) types e = absurd cc
checked_if (Ok found) types e = by_fault (program_fault found) refl e where
  by_fault : (o : Option CheckFault) → program_fault found ≡ o → unless_fault found o ≡ Ok types → (is_parsed found ≡ is_parsed types) × (program_fault types ≡ None)
  by_fault (Some fault) at h = absurd cc
  by_fault None at h = (let is : found ≡ types = cc in (ap is_parsed is, ap program_fault (sym is) ∙ at))

-- a session that stands at the begin is the one that the body names
session_there : (f : Format) (last session end : ℕ) (bytes : List ℕ) (content : Body) → SessionFits f Logged last session → Stands bytes 0 (spelling_with_session f session content) end → session ≡ session_of f bytes
session_there One last session end bytes content fits stands = fits
session_there Two last session end bytes content fits stands =
    sym (ap (from_le_bytes w64) (stands_first bytes 0 end (to_le_bytes w64 session) (spelling_of_content content) stands).here ∙ wide64.again session fits.0)

-- what was read to the end is the body's
body_found : (f : Format) (shape : Shape) (last : ℕ) (bytes : List ℕ) (b : Body) (session end : ℕ) → AreBytes bytes → front_in f Logged shape last bytes 0 ≡ Ok ((session, b), end)
    → eqb end (length bytes) ≡ true → IsSessionBody f Logged shape last (session_of f bytes) b bytes
body_found f shape last bytes b session end are front last_byte =
    let whole = spelling_with_session f session b in
    let t = (front_reads f Logged shape last 0).takes bytes 0 (session, b) end are (omega arith) front in
    let named : session ≡ session_of f bytes = session_there f last session end bytes b t.1.0 t.2 in
    let all : end ≡ length bytes = eqb-true end (length bytes) last_byte in
    let long : length bytes ≤ length whole = (let at = t.2.end_at in omega (arith, at, all)) in
    let is : bytes ≡ whole = sym (take_all (length whole) bytes long) ∙ t.2.here in
    record {
      session_fits = subst (λ (s : ℕ). SessionFits f Logged last s) named t.1.0;
      content_fits = t.1.1;
      spelled = is ∙ ap (λ (s : ℕ). spelling_with_session f s b) named;
    }

pub read : (f : Format) (types : ProgramTree) (shape : Shape) (last : ℕ) (bytes : List ℕ) (p : Program) → AreBytes bytes → entry_of_body f types shape last bytes ≡ Ok (Upgraded p)
    → IsSessionBody f Logged shape last (session_of f bytes) (body.Upgrade p.text) bytes × IsChecked p × GoesOnFrom types p.types
read f types shape last bytes p are e =
    let h = from_read bytes types p (front_in f Logged shape last bytes 0) e in
    let is = body_found f shape last bytes (body.Upgrade p.text) h.session h.end are h.read h.whole in
    let c = checked_if (program_of p.text) p.types h.accepted in
    (is, record { small = is.content_fits; parsed = c.0; checked = c.1 }, (accepts types p.types (length p.text)).0 h.followed)

-- ---- records

record SaysRecords (bytes : List ℕ) (records : List CommitRecord) (r : Result ((ℕ × Body) × ℕ) CodecFault) : Type 0 where
  session : ℕ
  end : ℕ
  read : r ≡ Ok ((session, body.Records records), end)
  whole : eqb end (length bytes) ≡ true

no_records : (bytes : List ℕ) (types : ProgramTree) (p : Program) (end start : ℕ) (records : List CommitRecord) (o : Option ℕ) → where_followed bytes start end p o ≡ Ok (Recorded records) → ⊥
no_records bytes types p end start records (Some at) e = absurd cc
no_records bytes types p end start records None e = (let h = ended_so (eqb end (length bytes)) (Upgraded p) (Recorded records) end e in let u = h.1 in absurd cc)

never_records : (bytes : List ℕ) (types : ProgramTree) (end start : ℕ) (text : List ℕ) (records : List CommitRecord) (r : Result ProgramTree ProgramFault) → where_accepted bytes types start end text r ≡ Ok (Recorded records) → ⊥
never_records bytes types end start text records (Err fault) e = absurd cc
never_records bytes types end start text records (Ok news) e = no_records bytes types (record { text = text; types = news }) end start records (compared types news (length text)) e

records_of_body : (bytes : List ℕ) (types : ProgramTree) (records : List CommitRecord) (session end : ℕ) (b : Body) → entry_by_content bytes types end b ≡ Ok (Recorded records) → SaysRecords bytes records (Ok ((session, b), end))
records_of_body bytes types records session end (body.Records found) e =
    let h = ended_so (eqb end (length bytes)) (Recorded found) (Recorded records) end e in
    let is : found ≡ records = (let u = h.1 in cc) in
    record { session = session; end = end; read = ap (λ (x : List CommitRecord). Ok ((session, body.Records x), end)) is; whole = h.0 }
records_of_body bytes types records session end (body.Upgrade text) e = absurd (never_records bytes types end (end - length text) text records (program_in text) e)

records_of_read : (bytes : List ℕ) (types : ProgramTree) (records : List CommitRecord) (r : Result ((ℕ × Body) × ℕ) CodecFault) → entry_read bytes types r ≡ Ok (Recorded records) → SaysRecords bytes records r
records_of_read bytes types records (Err fault) e = absurd cc
records_of_read bytes types records (Ok found) e = records_of_body bytes types records found.0.0 found.1 found.0.1 e

pub records : (f : Format) (types : ProgramTree) (shape : Shape) (last : ℕ) (bytes : List ℕ) (rs : List CommitRecord) → AreBytes bytes → entry_of_body f types shape last bytes ≡ Ok (Recorded rs)
    → IsSessionBody f Logged shape last (session_of f bytes) (body.Records rs) bytes
records f types shape last bytes rs are e =
    let h = records_of_read bytes types rs (front_in f Logged shape last bytes 0) e in
    body_found f shape last bytes (body.Records rs) h.session h.end are h.read h.whole

pub recorded : (f : Format) (types : ProgramTree) (shape : Shape) (last session : ℕ) (bytes : List ℕ) (rs : List CommitRecord) → IsSessionBody f Logged shape last session (body.Records rs) bytes
    → entry_of_body f types shape last bytes ≡ Ok (Recorded rs)
recorded f types shape last session bytes rs is =
    ap (entry_of_body f types shape last) is.spelled ∙ recorded_again f types shape last session is.session_fits rs is.content_fits
