-- What the first 16 bytes of a manager file say of it.
use Rattle.std.proofs.Common.{◌≡◌, ◌≢◌, inl, inr, ℕ, ◌+◌, ◌<◌, ◌≤◌, nat_le, Bool, true, false, ◌&&◌, ◌==◌, if◌then◌else◌, Option, Some, None, List, [], ◌∷◌, length, take, drop, slice_index, bytes_eq, refl, sym, ◌∙◌, ap, subst, arith, get_or-take}
use Rattle.std.specs.Int.{w32, from_le_bytes}
use Rattle.std.proofs.lemmas.Bool.{cases_Bool, leb-true, le-leb}
use Rattle.std.proofs.lemmas.Slice.Eq.{bytes_eq-Decides}
use Rattle.std.proofs.lemmas.List.{take-take, drop-take, drop_more}
use Rattle.field_codec.specs.declared.formats.Format.{Format}
use Rattle.field_codec.specs.declared.formats.Format.TheVariants.{One, Two}
use Rattle.field_codec.specs.Formats.{magic_of}
use Rattle.silo_spec.specs.Silos.{IsFormat, IsMagic, is_magic, IsSilo}
use Rattle.silo_spec.proofs.Magics.{format_is_one, magic_named}
use Rattle.silo_spec.specs.Slots.{generation}
use Rattle.promise_spec.specs.Openings.{has_format}
use Rattle.silo_opening.specs.Steps.{IsNamedOtherwise}
use Rattle.silo_opening.specs.OpenedSilo.{is_header, header_of, header_in}
use Rattle.silo_opening.specs.declared.headers.Header.{Header}

pub first_in : (file bytes : List ℕ) → bytes ≡ take 16 file → slice_index bytes 0 ≡ slice_index file 0
first_in file bytes is = ap (λ (l : List ℕ). slice_index l 0) is ∙ get_or-take 16 file 0 0 (omega arith)

pub name_in : (file bytes : List ℕ) → bytes ≡ take 16 file → take 8 (drop 1 bytes) ≡ take 8 (drop 1 file)
name_in file bytes is = ap (λ (l : List ℕ). take 8 (drop 1 l)) is ∙ ap (λ (l : List ℕ). take 8 l) (drop-take 1 15 file) ∙ take-take 8 15 (drop 1 file) (omega arith)

pub front_silo : (magic : List ℕ → Type 0) (file bytes : List ℕ) → 16 ≤ length file → bytes ≡ take 16 file → slice_index bytes 0 ≡ 1 → magic (take 8 (drop 1 bytes)) → IsSilo magic file
front_silo magic file bytes long is gate named = record { long = long; gate = sym (first_in file bytes is) ∙ gate; named = subst magic (name_in file bytes is) named }

pub front_other : (magic : List ℕ → Type 0) (file bytes : List ℕ) → bytes ≡ take 16 file → (magic (take 8 (drop 1 bytes)) → ⊥) → IsNamedOtherwise magic file
front_other magic file bytes is other = inr (λ named. other (subst magic (sym (name_in file bytes is)) named))

-- ---- the generation

-- four bytes, one by one
four_by : (at : ℕ) (l : List ℕ) → at + 4 ≤ length l → take 4 (drop at l) ≡ slice_index l at ∷ slice_index l (at + 1) ∷ slice_index l (at + 2) ∷ slice_index l (at + 3) ∷ []
four_by at l long =
    let more : (n : ℕ) → n < length l → drop n l ≡ slice_index l n ∷ drop (n + 1) l = λ n low. drop_more l n 0 low in
    let two : at + 1 + 1 ≡ at + 2 = omega arith in
    let three : at + 2 + 1 ≡ at + 3 = omega arith in
    let all : drop at l ≡ slice_index l at ∷ slice_index l (at + 1) ∷ slice_index l (at + 2) ∷ slice_index l (at + 3) ∷ drop (at + 3 + 1) l =
    more at (omega (arith, long)) ∙ ap (λ (r : List ℕ). slice_index l at ∷ r) (more (at + 1) (omega (arith, long)) ∙ ap (λ (n : ℕ). slice_index l (at + 1) ∷ drop n l) two
    ∙ ap (λ (r : List ℕ). slice_index l (at + 1) ∷ r) (more (at + 2) (omega (arith, long)) ∙ ap (λ (n : ℕ). slice_index l (at + 2) ∷ drop n l) three
    ∙ ap (λ (r : List ℕ). slice_index l (at + 2) ∷ r) (more (at + 3) (omega (arith, long))))) in
    ap (λ (r : List ℕ). take 4 r) all

pub generation_by : (head : List ℕ) → 13 ≤ length head → generation head ≡ from_le_bytes w32 (slice_index head 9 ∷ slice_index head 10 ∷ slice_index head 11 ∷ slice_index head 12 ∷ [])
generation_by head long = ap (λ (l : List ℕ). from_le_bytes w32 l) (four_by 9 head (omega (arith, long)))

-- a file's header has its generation
generation_in : (file bytes : List ℕ) → bytes ≡ take 16 file → generation bytes ≡ generation file
generation_in file bytes is =
    ap (λ (l : List ℕ). from_le_bytes w32 (take 4 (drop 9 l))) is ∙ ap (λ (l : List ℕ). from_le_bytes w32 (take 4 l)) (drop-take 9 7 file) ∙ ap (λ (l : List ℕ). from_le_bytes w32 l) (take-take 4 7 (drop 9 file) (omega arith))

-- ---- the format

-- a manager file's format is asked of its name
pub is_format : (format : Format) (file : List ℕ) → IsFormat format (take 8 (drop 1 file)) → has_format format file ≡ true
is_format format file named = (bytes_eq-Decides (take 8 (drop 1 file)) (magic_of format)).1 named

pub is_other : (format other : Format) (file : List ℕ) → IsFormat other (take 8 (drop 1 file)) → other ≢ format → has_format format file ≡ false
is_other format other file named apart = by (has_format format file) refl
  where
    by : (b : Bool) → has_format format file ≡ b → has_format format file ≡ false
    by true e = absurd (apart (format_is_one other format (take 8 (drop 1 file)) named ((bytes_eq-Decides (take 8 (drop 1 file)) (magic_of format)).0 e)))
    by false e = e

-- a header says that which is named
pub format_is : (file : List ℕ) (format : Format) → IsFormat format (take 8 (drop 1 file)) → (header_of file).format ≡ format
format_is file One named = ap (λ (b : Bool). if b then One else Two) (is_format One file named)
format_is file Two named = ap (λ (b : Bool). if b then One else Two) (is_other One Two file named (λ e. two_not_one e))
  where
    two_not_one : Two ≡ One → ⊥
    two_not_one e = absurd cc

-- ---- the header

header_same : (file bytes : List ℕ) → bytes ≡ take 16 file → is_header bytes ≡ is_header file
header_same file bytes is = λ i. (first_in file bytes is i == 1) && is_magic (name_in file bytes is i)

says_same : (file bytes : List ℕ) → bytes ≡ take 16 file → header_of bytes ≡ header_of file
says_same file bytes is = λ i. record { generation = generation_in file bytes is i; format = if bytes_eq (name_in file bytes is i) (magic_of One) then One else Two }

-- a header that these bytes have, or don't have
abbrev pub header_if : List ℕ → Option Header
header_if bytes = if is_header bytes then Some (header_of bytes) else None

module _ (file : List ℕ) where
  abbrev header_by : Bool → Option Header
  header_by silo = if silo then Some (header_of file) else None

  -- a file that is too short
  pub header_short : (long : Bool) → long ≡ nat_le 16 (length file) → long ≡ false → None ≡ header_in file
  header_short long is short = sym (ap (λ (b : Bool). header_by (b && is_header file)) (sym is ∙ short))

  pub header_none : length file < 16 → None ≡ header_in file
  header_none short = elim (cases_Bool (nat_le 16 (length file))) [
    | inl long ↦ (let le : 16 ≤ length file = leb-true 16 (length file) long in absurd (omega (arith, le, short)))
    | inr low ↦ header_short (nat_le 16 (length file)) refl low
  ]

  -- of one that is long enough the first bytes tell
  pub header_told : (bytes : List ℕ) → 16 ≤ length file → bytes ≡ take 16 file → header_if bytes ≡ header_in file
  header_told bytes long is =
      (λ i. if header_same file bytes is i then Some (says_same file bytes is i) else None)
      ∙ sym (ap (λ (b : Bool). header_by (b && is_header file)) (le-leb 16 (length file) long))

-- ---- the bytes of a header

module _ (bytes : List ℕ) (gate : (slice_index bytes 0 == 1) ≡ true) where
  abbrev name : List ℕ
  name = take 8 (drop 1 bytes)

  header_then : header_if bytes ≡ (if is_magic name then Some (header_of bytes) else None)
  header_then = ap (λ (b : Bool). if b && is_magic name then Some (header_of bytes) else None) gate

  -- the next eight name no format
  pub no_name : (IsMagic name → ⊥) → None ≡ header_if bytes
  no_name other = sym (header_then ∙ ap (λ (b : Bool). if b then Some (header_of bytes) else None) (none (is_magic name) refl))
    where
      none : (b : Bool) → is_magic name ≡ b → is_magic name ≡ false
      none true e = absurd (other (magic_named name e))
      none false e = e
