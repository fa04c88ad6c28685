-- The reading of a log, beside the one that takes any number.
use Rattle.std.proofs.Common.{◌≡◌, ◌⊎◌, inl, inr, ℕ, zero, suc, ◌+◌, ◌<◌, ◌≤◌, Bool, true, false, cond, eqb, ltb, List, [], ◌∷◌, length, take, drop, Result, Ok, Err, IfErr, refl, sym, ap, subst, arith}
use Rattle.std.specs.Prelude.{◌&&◌}
use Rattle.std.specs.Int.{w8, w16, w32, w64, byte_len, from_le_bytes}
use Rattle.std.specs.List.{AllByRecursion}
use Rattle.base_types.specs.declared.calls.Origin.{Origin}
use Rattle.base_types.specs.declared.calls.Origin.TheVariants.{Line, Child}
use Rattle.base_types.specs.declared.shapes.Shape.{Shape}
use Rattle.field_codec.specs.declared.formats.Format.{Format}
use Rattle.field_codec.specs.declared.formats.Format.TheVariants.{One, Two}
use Rattle.field_codec.specs.declared.faults.CodecFault.{CodecFault}
use Rattle.field_codec.specs.declared.faults.CodecFault.TheVariants.{Short, BadTag, Over, Unknown, Trailing}
use Rattle.field_codec.specs.declared.units.Numbers.TheVariants.{Free, Logged}
use Rattle.field_codec.specs.Units.{may_be_unit, may_be_parent, SessionFits}
use Rattle.field_codec.specs.Readers.{Reader, and_then, whole, refused, field, choice, chain, times, number_at, program_at}
use Rattle.field_codec.specs.Fields.{unit_at, parent_at, session_at, origin_at, result_at}
use Rattle.field_codec.specs.Results.{place_of}
use Rattle.field_codec.proofs.Readers.{Reads, past, ok_is}
use Rattle.field_codec.proofs.Counts.{reads16, reads32}
use Rattle.field_codec.proofs.Things.{origin_reads, result_reads}
use Rattle.commit_log.specs.declared.records.CommitRecord.{CommitRecord}
use Rattle.commit_log.specs.declared.contents.Body.{Body}
use Rattle.commit_log.specs.declared.contents.Body.TheVariants.{Records, Upgrade}
use Rattle.commit_log.specs.Bodies.{HasNumbers, IsRecordIn}
use Rattle.commit_log.specs.Fields.{call_in, answers_at, writes_in, record_in}
use Rattle.commit_log.specs.Contents.{upgrade_mark, IsContentIn, content_in}
use Rattle.commit_log.specs.Sessions.{IsSessionBody, front_in, body_with_session}
use Rattle.commit_log.specs.Agreement.{IsNoUnitAt, Agrees, AreLogged}
use Rattle.commit_log.proofs.Fields.{call_reads, answers_read, writes_reads, record_reads}
use Rattle.commit_log.proofs.ContentsRead.{content_reads}

which : (b : Bool) → (b ≡ true) ⊎ (b ≡ false)
which true = inl refl
which false = inr refl

and_false : (a b : Bool) → b ≡ false → (a && b) ≡ false
and_false true b e = e
and_false false b e = refl

-- no parent of a log, no unit of a log
no_unit : (n : ℕ) → may_be_parent Logged n ≡ false → may_be_unit Logged n ≡ false
no_unit n not = and_false (ltb 0 n) (ltb n 9223372036854775808) not

-- ---- places: what a reading ends with, or names

-- it ends behind this place, or names a fault behind it
abbrev Behind : {A : Type 0} → ℕ → Result (A × ℕ) CodecFault → Type 0
Behind place (Ok x) = place < x.1
Behind place (Err fault) = place < place_of fault

-- it ends here or behind, or names a fault here or behind
abbrev From : {A : Type 0} → ℕ → Result (A × ℕ) CodecFault → Type 0
From at (Ok x) = at ≤ x.1
From at (Err fault) = at ≤ place_of fault

farther : {A : Type 0} (at mid : ℕ) (r : Result (A × ℕ) CodecFault) → at ≤ mid → From mid r → From at r
farther at mid (Ok x) le one = omega (arith, le, one)
farther at mid (Err fault) le one = omega (arith, le, one)

beyond : {A : Type 0} (place end : ℕ) (r : Result (A × ℕ) CodecFault) → place < end → From end r → Behind place r
beyond place end (Ok x) lt one = omega (arith, lt, one)
beyond place end (Err fault) lt one = omega (arith, lt, one)

from_then : {A C : Type 0} (at : ℕ) (r : Result (A × ℕ) CodecFault) (f : A × ℕ → Result (C × ℕ) CodecFault) → From at r → ((x : A × ℕ) → From x.1 (f x)) → From at (and_then r f)
from_then at (Ok x) f one each = farther at x.1 (f x) one (each x)
from_then at (Err fault) f one each = one

from_is : {A : Type 0} (at : ℕ) (r : Result (A × ℕ) CodecFault) → ((a : A) (end : ℕ) → r ≡ Ok (a, end) → at ≤ end) → ((fault : CodecFault) → r ≡ Err fault → at ≤ place_of fault) → From at r
from_is at (Ok x) goes later = goes x.0 x.1 refl
from_is at (Err fault) goes later = later fault refl

-- what is left of a text, where it is named
trailing : {A : Type 0} (b : Bool) (a : A) (place end : ℕ) → place < end → IfErr (cond b (Ok a) (Err (Trailing end))) (λ fault. place < place_of fault)
trailing true a place end lt = tt
trailing false a place end lt = lt

module _ (bytes : List ℕ) where
  -- ---- readings that only go on

  abbrev Onward : {A : Type 0} → Reader A → Type 0
  Onward read = (at : ℕ) → From at (read bytes at)

  onward : {A : Type 0} {P : A → Type 0} {spell : A → List ℕ} {Fits : A → Type 0} (read : Reader A) → ((low : ℕ) → Reads low P spell Fits read) → Onward read
  onward read reads at = from_is at (read bytes at) (λ a end e. (reads at).goes bytes at a end e) (λ fault e. (reads at).later bytes at fault (omega arith) e)

  field_onward : {A C : Type 0} (r : Reader A) (k : A → ℕ → Reader C) → Onward r → ((a : A) (place : ℕ) → Onward (k a place)) → Onward (field r k)
  unfolding field
  field_onward r k first rest at = from_then at (r bytes at) (λ x. k x.0 at bytes x.1) (first at) (λ x. rest x.0 at x.1)

  whole_onward : {A : Type 0} (a : A) → Onward (whole a)
  unfolding whole
  whole_onward a at = omega arith

  chain_onward : {S A : Type 0} (s : S → Reader A) (next : S → A → S) → ((t : S) → Onward (s t)) → (n : ℕ) (t : S) → Onward (chain s next t n)
  unfolding chain
  chain_onward s next each zero t at = omega arith
  chain_onward s next each (suc n) t at =
      from_then at (s t bytes at) (λ x. and_then (chain s next (next t x.0) n bytes x.1) (λ xs. Ok (x.0 ∷ xs.0, xs.1))) (each t at)
      (λ x. from_then x.1 (chain s next (next t x.0) n bytes x.1) (λ xs. Ok (x.0 ∷ xs.0, xs.1)) (chain_onward s next each n (next t x.0) x.1) (λ xs. omega arith))

  -- ---- readings that agree

  -- the same is read, or the reading of a log names a number that stands before the other's end or fault
  abbrev AgreesOn : {A : Type 0} → Result (A × ℕ) CodecFault → Result (A × ℕ) CodecFault → Type 0
  AgreesOn logged free = (logged ≡ free) ⊎ ((place : ℕ) × (logged ≡ Err (Unknown place)) × IsNoUnitAt bytes place × Behind place free)

  -- two readings that agree, each followed by one that agrees
  and_agree : {A B : Type 0} (r s : Result (A × ℕ) CodecFault) (f g : A × ℕ → Result (B × ℕ) CodecFault) → AgreesOn r s → ((x : A × ℕ) → s ≡ Ok x → AgreesOn (f x) (g x)) → ((x : A × ℕ) → From x.1 (g x)) → AgreesOn (and_then r f) (and_then s g)
  and_agree {A} {B} r (Ok x) f g (inl same) each more = subst (λ (t : Result (A × ℕ) CodecFault). AgreesOn (and_then t f) (g x)) (sym same) (each x refl)
  and_agree {A} {B} r (Err d) f g (inl same) each more = inl (ap (λ (t : Result (A × ℕ) CodecFault). and_then t f) same)
  and_agree {A} {B} r (Ok x) f g (inr bad) each more = inr (bad.0, ap (λ (t : Result (A × ℕ) CodecFault). and_then t f) bad.1, bad.2, beyond bad.0 x.1 (g x) bad.3 (more x))
  and_agree {A} {B} r (Err d) f g (inr bad) each more = inr (bad.0, ap (λ (t : Result (A × ℕ) CodecFault). and_then t f) bad.1, bad.2, bad.3)

  and_same : {A B : Type 0} (r : Result (A × ℕ) CodecFault) (f g : A × ℕ → Result (B × ℕ) CodecFault) → ((x : A × ℕ) → r ≡ Ok x → AgreesOn (f x) (g x)) → AgreesOn (and_then r f) (and_then r g)
  and_same (Ok x) f g each = each x refl
  and_same (Err d) f g each = inl refl

  abbrev Alike : {A : Type 0} → Reader A → Reader A → Type 0
  Alike logged free = (at : ℕ) → AgreesOn (logged bytes at) (free bytes at)

  field_alike : {A C : Type 0} (r s : Reader A) (k l : A → ℕ → Reader C) → Alike r s → ((a : A) (place : ℕ) → Alike (k a place) (l a place)) → ((a : A) (place : ℕ) → Onward (l a place)) → Alike (field r k) (field s l)
  unfolding field
  field_alike r s k l first rest more at = and_agree (r bytes at) (s bytes at) (λ x. k x.0 at bytes x.1) (λ x. l x.0 at bytes x.1) (first at) (λ x is. rest x.0 at x.1) (λ x. more x.0 at x.1)

  field_same : {A C : Type 0} (r : Reader A) (k l : A → ℕ → Reader C) → ((a : A) (place : ℕ) → Alike (k a place) (l a place)) → Alike (field r k) (field r l)
  unfolding field
  field_same r k l rest at = and_same (r bytes at) (λ x. k x.0 at bytes x.1) (λ x. l x.0 at bytes x.1) (λ x is. rest x.0 at x.1)

  same_alike : {A : Type 0} (r : Reader A) → Alike r r
  same_alike r at = inl refl

  choice_alike : {A : Type 0} (b : Bool) (r s t : Reader A) → Alike r s → Alike (choice b r t) (choice b s t)
  unfolding choice
  choice_alike true r s t both at = both at
  choice_alike false r s t both at = inl refl

  other_alike : {A : Type 0} (b : Bool) (t r s : Reader A) → Alike r s → Alike (choice b t r) (choice b t s)
  unfolding choice
  other_alike true t r s both at = inl refl
  other_alike false t r s both at = both at

  chain_alike : {S A : Type 0} (r s : S → Reader A) (next : S → A → S) → ((t : S) → Alike (r t) (s t)) → ((t : S) → Onward (s t)) → (n : ℕ) (t : S) → Alike (chain r next t n) (chain s next t n)
  unfolding chain
  chain_alike r s next each more zero t at = inl refl
  chain_alike {S} {A} r s next each more (suc n) t at =
      let last : A → List A × ℕ → Result (List A × ℕ) CodecFault = λ a xs. Ok (a ∷ xs.0, xs.1) in
      and_agree (r t bytes at) (s t bytes at) (λ x. and_then (chain r next (next t x.0) n bytes x.1) (last x.0)) (λ x. and_then (chain s next (next t x.0) n bytes x.1) (last x.0)) (each t at)
      (λ x is. and_agree (chain r next (next t x.0) n bytes x.1) (chain s next (next t x.0) n bytes x.1) (last x.0) (last x.0) (chain_alike r s next each more n (next t x.0) x.1) (λ xs is. inl refl) (λ xs. omega arith))
      (λ x. from_then x.1 (chain s next (next t x.0) n bytes x.1) (last x.0) (chain_onward s next more n (next t x.0) x.1) (λ xs. omega arith))

  -- a number ends behind its place
  number_ends : (at n end : ℕ) → number_at w64 bytes at ≡ Ok (n, end) → at < end
  number_ends at n end e =
      let number = from_le_bytes w64 (take (byte_len w64) (drop at bytes)) in
      let g = past (ltb (length bytes) (at + byte_len w64)) (Short at) (Ok (number, at + byte_len w64)) (n, end) e in
      let is = ok_is number n (at + byte_len w64) end g.1 in
      omega (arith, is.1)

  -- a number that is tested, and one that isn't
  tested_alike : (test : ℕ → Bool) → ((n : ℕ) → test n ≡ false → may_be_unit Logged n ≡ false)
      → Alike (field (number_at w64) λ n place. choice (test n) (whole n) (refused (Unknown place))) (field (number_at w64) λ n place. choice true (whole n) (refused (Unknown place)))
  unfolding field choice whole refused
  tested_alike test none at =
      and_same (number_at w64 bytes at) _ _
      (λ x is. elim (which (test x.0)) [ inl passes ↦ inl (rw passes refl) | inr fails ↦ inr (at, rw fails refl, record { number = x.0; end = x.1; there = is; none = none x.0 fails }, number_ends at x.0 x.1 is) ])

  unit_alike : Alike (unit_at Logged) (unit_at Free)
  unfolding unit_at
  unit_alike at = tested_alike (may_be_unit Logged) (λ n not. not) at

  parent_alike : Alike (parent_at Logged) (parent_at Free)
  unfolding parent_at
  parent_alike at = tested_alike (may_be_parent Logged) no_unit at

  origin_alike : Alike (origin_at Logged) (origin_at Free)
  unfolding origin_at
  origin_alike at =
      field_same (number_at w8) _ _ (λ tag place.
      other_alike (eqb tag 0) (field (number_at w32) λ line here. whole (Line line)) _ _
      (choice_alike (eqb tag 1) _ _ (refused (BadTag place tag))
      (field_alike (parent_at Logged) (parent_at Free) _ _ parent_alike
      (λ parent here. same_alike (field (number_at w32) λ index there. field (number_at w16) λ depth end. whole (Child (record { 0 = parent }) index depth)))
      (λ parent here. field_onward (number_at w32) _ (onward (number_at w32) reads32) (λ index there. field_onward (number_at w16) _ (onward (number_at w16) reads16) (λ depth end. whole_onward (Child (record { 0 = parent }) index depth))))))) at

  module _ (format : Format) (shape : Shape) where
    -- a record behind its origin
    abbrev behind_origin : ℕ → Origin → Reader CommitRecord
    behind_origin unit origin = field (call_in format shape) λ call p2. field (answers_at format) λ answers p3. field (result_at format) λ result p4. field (writes_in shape) λ writes p5.
        whole (record { unit = record { 0 = unit }; origin = origin; call = call; answers = answers; result = result; writes = writes })

    behind_onward : (unit : ℕ) (origin : Origin) → Onward (behind_origin unit origin)
    behind_onward unit origin =
        field_onward (call_in format shape) _ (onward (call_in format shape) (call_reads format shape)) (λ call p2.
        field_onward (answers_at format) _ (onward (answers_at format) (answers_read format)) (λ answers p3.
        field_onward (result_at format) _ (onward (result_at format) (result_reads format)) (λ result p4.
        field_onward (writes_in shape) _ (onward (writes_in shape) (writes_reads shape)) (λ writes p5.
        whole_onward (record { unit = record { 0 = unit }; origin = origin; call = call; answers = answers; result = result; writes = writes })))))

    record_alike : Alike (record_in format Logged shape) (record_in format Free shape)
    unfolding record_in
    record_alike at =
        field_alike (unit_at Logged) (unit_at Free) _ _ unit_alike
        (λ unit p0. field_alike (origin_at Logged) (origin_at Free) _ _ origin_alike (λ origin p1. same_alike (behind_origin unit origin)) (λ origin p1. behind_onward unit origin))
        (λ unit p0. field_onward (origin_at Free) _ (onward (origin_at Free) (origin_reads Free)) (λ origin p1. behind_onward unit origin)) at

    records_alike : (n : ℕ) → Alike (times (record_in format Logged shape) n) (times (record_in format Free shape) n)
    records_alike n at =
        chain_alike {S = Unit {0}} (λ s. record_in format Logged shape) (λ s. record_in format Free shape) (λ s x. s) (λ s. record_alike) (λ s. onward (record_in format Free shape) (record_reads format Free shape)) n tt at

    content_alike : Alike (content_in format Logged shape) (content_in format Free shape)
    unfolding content_in
    content_alike at =
        field_same (number_at w32) _ _ (λ n place.
        other_alike (eqb n upgrade_mark) (field program_at λ text here. whole (Upgrade text)) _ _
        (other_alike (ltb 64 n) (refused (Over place 64)) _ _
        (field_alike (times (record_in format Logged shape) n) (times (record_in format Free shape) n) _ _ (records_alike n)
        (λ records here. same_alike (whole (Records records))) (λ records here. whole_onward (Records records))))) at

    session_alike : (f : Format) (last : ℕ) → Alike (session_at f Logged last) (session_at f Free last)
    unfolding session_at field choice whole refused
    session_alike One last at = inl refl
    session_alike Two last at =
        and_same (number_at w64 bytes at) _ _
        (λ x is. elim (which (ltb x.0 last)) [
          | inl falls ↦ inl (rw falls refl)
          | inr stays ↦
              elim (which (may_be_parent Logged x.0)) [
                | inl may ↦ inl (rw (stays, may) refl)
                | inr not ↦ inr (at, rw (stays, not) refl, record { number = x.0; end = x.1; there = is; none = no_unit x.0 not }, rw stays (number_ends at x.0 x.1 is))
              ]
        ])

    front_alike : (last : ℕ) → Alike (front_in format Logged shape last) (front_in format Free shape last)
    unfolding front_in
    front_alike last at =
        field_alike (session_at format Logged last) (session_at format Free last) _ _ (session_alike format last)
        (λ session place. field_alike (content_in format Logged shape) (content_in format Free shape) _ _ content_alike (λ content here. same_alike (whole (session, content))) (λ content here. whole_onward (session, content)))
        (λ session place. field_onward (content_in format Free shape) _ (onward (content_in format Free shape) (content_reads format Free shape)) (λ content here. whole_onward (session, content))) at

  -- two readings that agree, each of a whole text
  whole_agree : {A : Type 0} (r s : Result (A × ℕ) CodecFault) (end : ℕ) → AgreesOn r s
      → Agrees bytes (and_then r (λ x. cond (eqb x.1 end) (Ok x.0) (Err (Trailing x.1)))) (and_then s (λ x. cond (eqb x.1 end) (Ok x.0) (Err (Trailing x.1))))
  whole_agree {A} r s end (inl same) = inl (ap (λ (t : Result (A × ℕ) CodecFault). and_then t (λ x. cond (eqb x.1 end) (Ok x.0) (Err (Trailing x.1)))) same)
  whole_agree {A} r (Ok x) end (inr bad) = inr (bad.0, ap (λ (t : Result (A × ℕ) CodecFault). and_then t (λ x. cond (eqb x.1 end) (Ok x.0) (Err (Trailing x.1)))) bad.1, bad.2, trailing (eqb x.1 end) x.0 bad.0 x.1 bad.3)
  whole_agree {A} r (Err d) end (inr bad) = inr (bad.0, ap (λ (t : Result (A × ℕ) CodecFault). and_then t (λ x. cond (eqb x.1 end) (Ok x.0) (Err (Trailing x.1)))) bad.1, bad.2, bad.3)

-- the two readings of a body
pub bodies_agree : (format : Format) (shape : Shape) (last : ℕ) (body : List ℕ) → Agrees body (body_with_session format Logged shape last body) (body_with_session format Free shape last body)
bodies_agree format shape last body = whole_agree body (front_in format Logged shape last body 0) (front_in format Free shape last body 0) (length body) (front_alike body format shape last 0)

-- records that are a program's, with numbers that a log has
numbered : (format : Format) (shape : Shape) (records : List CommitRecord) → AllByRecursion (IsRecordIn format Free shape) records → AllByRecursion (HasNumbers Logged) records → AllByRecursion (IsRecordIn format Logged shape) records
numbered format shape [] each all = tt
numbered format shape (r ∷ rs) each all = (record { fits = each.0.fits; units = all.0; call = each.0.call; writes = each.0.writes }, numbered format shape rs each.1 all.1)

content_is_logged : (format : Format) (shape : Shape) (content : Body) → IsContentIn format Free shape content → AreLogged content → IsContentIn format Logged shape content
content_is_logged format shape (Records records) is all = (is.0, numbered format shape records is.1 all)
content_is_logged format shape (Upgrade text) is all = is

session_is_logged : (format : Format) (last session : ℕ) → SessionFits format Free last session → may_be_parent Logged session ≡ true → SessionFits format Logged last session
session_is_logged One last session fits may = fits
session_is_logged Two last session fits may = (fits.0, (fits.1.0, may))

pub body_is_logged : (format : Format) (shape : Shape) (last session : ℕ) (content : Body) (body : List ℕ) → IsSessionBody format Free shape last session content body → may_be_parent Logged session ≡ true → AreLogged content → IsSessionBody format Logged shape last session content body
body_is_logged format shape last session content body is may all = record {
  session_fits = session_is_logged format last session is.session_fits may;
  content_fits = content_is_logged format shape content is.content_fits all;
  spelled = is.spelled;
}
