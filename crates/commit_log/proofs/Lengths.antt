-- How long a spelling is at most.
use Rattle.std.proofs.Common.{◌≡◌, ℕ, ◌-◌, ap, ◌∙◌, ◌*◌, ◌<◌, ◌≤◌, ◌^◌, List, [], ◌∷◌, ◌++◌, length, length-append, arith}
use Rattle.std.specs.Int.{w16, w64, to_le_bytes}
use Rattle.std.specs.List.{flat_map, AllByRecursion}
use Rattle.base_types.specs.declared.calls.Outcome as outcome
use Rattle.field_codec.specs.declared.formats.Format.{Format}
use Rattle.field_codec.specs.declared.formats.Format.TheVariants.{One, Two}
use Rattle.field_codec.specs.Spelling.{spelling_of_session, spelling_of_origin, spelling_of_call, spelling_of_outcome, AnswerFits, ResultFits}
use Rattle.field_codec.proofs.Lengths.{flat_short, call_short, origin_short, outcome_short}
use Rattle.field_codec.proofs.FormatGrowth.{each_grows, call_grows, answer_grows, result_grows}
use Rattle.commit_log.specs.declared.records.CommitRecord.{CommitRecord}
use Rattle.commit_log.specs.Spelling.{spelling_of_write, spelling_of_record, RecordFits, spelling_of_body, RecordsFit}
use Rattle.commit_log.specs.EncodableRecords.{IsNoAbort}
use Rattle.commit_log.specs.declared.contents.Body.TheVariants.{Records}
use Rattle.commit_log.specs.Sessions.{spelling_with_session}

-- nothing is asked of any
all_any : {A : Type 0} (xs : List A) → AllByRecursion (λ x. Unit {0}) xs
all_any [] = tt
all_any (x ∷ xs) = (tt, all_any xs)

result_is_answer : (o : outcome.Outcome) → ResultFits Two o → AnswerFits Two o
result_is_answer outcome.TheVariants.Aborted fits = absurd fits
result_is_answer (outcome.TheVariants.Value value) fits = fits
result_is_answer (outcome.TheVariants.Fault text) fits = fits

record_short : (r : CommitRecord) → RecordFits Two r → length (spelling_of_record r) ≤ 300481
record_short r fits =
    let call = call_short r.call fits.call in
    let origin = origin_short r.origin in
    let answers = flat_short spelling_of_outcome (AnswerFits Two) 4100 outcome_short r.answers fits.answers.1 in
    let result = outcome_short r.result (result_is_answer r.result fits.result) in
    let writes : length (flat_map spelling_of_write r.writes) ≤ 18 * length r.writes = flat_short spelling_of_write (λ w. Unit {0}) 18 (λ w u. omega arith) r.writes (all_any r.writes) in
    let a : length (spelling_of_outcome r.result ++ (to_le_bytes w16 (length r.writes) ++ flat_map spelling_of_write r.writes)) ≤ 5254 = omega (arith, result, writes, fits.writes.0, length-append (spelling_of_outcome r.result) (to_le_bytes w16 (length r.writes) ++ flat_map spelling_of_write r.writes)) in
    let b : length ((to_le_bytes w16 (length r.answers) ++ flat_map spelling_of_outcome r.answers) ++ (spelling_of_outcome r.result ++ (to_le_bytes w16 (length r.writes) ++ flat_map spelling_of_write r.writes))) ≤ 267656 =
    omega (arith, a, answers, fits.answers.0, length-append (to_le_bytes w16 (length r.answers) ++ flat_map spelling_of_outcome r.answers) (spelling_of_outcome r.result ++ (to_le_bytes w16 (length r.writes) ++ flat_map spelling_of_write r.writes))) in
    let rest : List ℕ = (to_le_bytes w16 (length r.answers) ++ flat_map spelling_of_outcome r.answers) ++ (spelling_of_outcome r.result ++ (to_le_bytes w16 (length r.writes) ++ flat_map spelling_of_write r.writes)) in
    let c : length (spelling_of_call r.call ++ rest) ≤ 300458 = omega (arith, call, b, length-append (spelling_of_call r.call) rest) in
    omega (arith, c, origin, length-append (spelling_of_origin r.origin) (spelling_of_call r.call ++ rest))

-- a record within the limits of format 1 is within those of format 2
pub record_grows : (r : CommitRecord) → RecordFits One r → RecordFits Two r
record_grows r fits = record {
  unit = fits.unit;
  origin = fits.origin;
  call = call_grows r.call fits.call;
  answers = (fits.answers.0, each_grows (AnswerFits One) (AnswerFits Two) answer_grows r.answers fits.answers.1);
  result = result_grows r.result fits.result;
  writes = fits.writes;
}

records_grow : (records : List CommitRecord) → AllByRecursion (RecordFits One) records → AllByRecursion (RecordFits Two) records
records_grow records fits = each_grows (RecordFits One) (RecordFits Two) record_grows records fits

-- an outcome that is no abort is a result
pub result_fits : (o : outcome.Outcome) → AnswerFits Two o → IsNoAbort o → ResultFits Two o
result_fits outcome.TheVariants.Aborted fits ended = ended
result_fits (outcome.TheVariants.Value value) fits ended = fits
result_fits (outcome.TheVariants.Fault text) fits ended = fits

-- a session has eight bytes at most
session_short : (format : Format) (session : ℕ) → length (spelling_of_session format session) ≤ 8
session_short One session = omega arith
session_short Two session = omega arith

records_short : (format : Format) (records : List CommitRecord) → RecordsFit format records → length (spelling_of_body records) ≤ 19230788
records_short One records fits = let all = flat_short spelling_of_record (RecordFits Two) 300481 record_short records (records_grow records fits.1) in omega (arith, all, fits.0)
records_short Two records fits = let all = flat_short spelling_of_record (RecordFits Two) 300481 record_short records fits.1 in omega (arith, all, fits.0)

-- a body's length fits its field
pub body_short : (format : Format) (session : ℕ) (records : List CommitRecord) → RecordsFit format records → length (spelling_with_session format session (Records records)) < 2 ^ 32
body_short format session records fits =
    let front = session_short format session in
    let rest = records_short format records fits in
    omega (arith, front, rest, length-append (spelling_of_session format session) (spelling_of_body records))

-- the number of bytes behind a length field fits the field
pub size_fits : (start front all : List ℕ) (session : ℕ) (records : List CommitRecord) (len : ℕ) → RecordsFit Two records → length start ≡ 4 → front ≡ start ++ to_le_bytes w64 session → all ≡ front ++ spelling_of_body records → len ≡ length all → len - 4 < 2 ^ 32
size_fits start front all session records len fits four begins is count =
    let rest = records_short Two records fits in
    let twelve : length front ≡ 12 = ap length begins ∙ (omega (arith, four, length-append start (to_le_bytes w64 session))) in
    let sum : length all ≡ length (front ++ spelling_of_body records) = ap length is in
    omega (arith, rest, sum, twelve, count, length-append front (spelling_of_body records))
