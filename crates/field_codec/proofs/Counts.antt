-- The laws of numbers, counts, texts and lists.
use Rattle.std.proofs.Common.{◌≡◌, ℕ, ◌+◌, ◌<◌, ◌≤◌, ◌^◌, ◌%◌, Bool, true, false, cond, ltb, List, [], ◌∷◌, ◌++◌, length, take, drop, Ok, Err, refl, sym, ap, subst, ◌∙◌, arith, inl, inr}
use Rattle.std.specs.Int.{Width, w8, w16, w32, w64, byte_len, from_le_bytes, to_le_bytes}
use Rattle.std.specs.List.{flat_map, AllByRecursion}
use Rattle.std.specs.Str.{IsUtf8, is_utf8}
use Rattle.std.proofs.lemmas.Str.{is_utf8-from_IsUtf8, IsUtf8-from_is_utf8}
use Rattle.std.proofs.lemmas.Bool.{ltb-false, le-ltb, cases_lt}
use Rattle.std.proofs.lemmas.Nat.{le_bytes_2, le_bytes_4, le_bytes_8, from_le_bytes-to_le_bytes_2, from_le_bytes-to_le_bytes_4, from_le_bytes-to_le_bytes_8}
use Rattle.std.proofs.lemmas.List.{length-take, length-drop, get_or-drop, get_or-take, get_or_past, append-nil}
use Rattle.field_codec.specs.declared.faults.CodecFault.{CodecFault}
use Rattle.field_codec.specs.declared.faults.CodecFault.TheVariants.{Short, NotUtf8, Over}
use Rattle.field_codec.specs.declared.formats.Format.{Format}
use Rattle.field_codec.specs.declared.formats.Format.TheVariants.{One, Two}
use Rattle.field_codec.specs.Formats.{text_limit, field_limit}
use Rattle.field_codec.specs.Spelling.{Stands, spelling_of_text, TextFits, spelling_of_program, ProgramFits}
use Rattle.field_codec.specs.Readers.{AreBytes, Reader, whole, refused, field, choice, number_at, count_at, letters, text_at, bytes_at, program_at, times, list_at}
use Rattle.field_codec.specs.Results.{place_of}
use Rattle.field_codec.proofs.TextPlaces.{stands_end, stands_within}
use Rattle.field_codec.proofs.Readers.{Reads, Any, then, done, choose, never, said, past, chosen, ok_is}
use Rattle.field_codec.proofs.Chains.{times_reads}

-- ---- numbers

-- the numbers of this width are those below the limit, and each has one spelling
pub record IsWide (w : Width) (limit : ℕ) : Type 0 where
  pub some : 0 < byte_len w
  pub len : (n : ℕ) → length (to_le_bytes w n) ≡ byte_len w
  pub back : (bytes : List ℕ) → length bytes ≡ byte_len w → AreBytes bytes → to_le_bytes w (from_le_bytes w bytes) ≡ bytes
  pub again : (n : ℕ) → n < limit → from_le_bytes w (to_le_bytes w n) ≡ n
  pub below : (bytes : List ℕ) → AreBytes bytes → from_le_bytes w bytes < limit

byte_back : (bytes : List ℕ) → length bytes ≡ byte_len w8 → AreBytes bytes → to_le_bytes w8 (from_le_bytes w8 bytes) ≡ bytes
byte_back [] len are = absurd (omega (arith, len))
byte_back (b ∷ []) len are = let small : b < 256 = are 0 in let same : b % 256 ≡ b = omega arith in rw same refl
byte_back (b ∷ c ∷ bytes) len are = absurd (omega (arith, len))

wide8 : IsWide w8 (2 ^ 8)
wide8 = record {
  some = omega arith;
  len = λ n. refl;
  back = byte_back;
  again = λ n lt. omega arith;
  below = λ bytes are. omega (arith, are 0);
}

pub wide16 : IsWide w16 (2 ^ 16)
wide16 = record {
  some = omega arith;
  len = λ n. refl;
  back = λ bytes len are. le_bytes_2 bytes _ len are refl;
  again = λ n lt. from_le_bytes-to_le_bytes_2 n lt;
  below = λ bytes are. omega (arith, are 0, are 1);
}

pub wide32 : IsWide w32 (2 ^ 32)
wide32 = record {
  some = omega arith;
  len = λ n. refl;
  back = λ bytes len are. le_bytes_4 bytes _ len are refl;
  again = λ n lt. from_le_bytes-to_le_bytes_4 n lt;
  below = λ bytes are. omega (arith, are 0, are 1, are 2, are 3);
}

pub wide64 : IsWide w64 (2 ^ 64)
wide64 = record {
  some = omega arith;
  len = λ n. refl;
  back = λ bytes len are. le_bytes_8 bytes _ len are refl;
  again = λ n lt. from_le_bytes-to_le_bytes_8 n lt;
  below = λ bytes are. omega (arith, are 0, are 1, are 2, are 3, are 4, are 5, are 6, are 7);
}

-- a cut of bytes is bytes
pub AreBytes-cut : (n m : ℕ) (bytes : List ℕ) → AreBytes bytes → AreBytes (take n (drop m bytes))
AreBytes-cut n m bytes are i =
    elim (cases_lt i n) [
      | inl lt ↦ rw (get_or-take n (drop m bytes) i 0 lt, get_or-drop) (are (m + i))
      | inr le ↦ rw (get_or_past (take n (drop m bytes)) i 0 (omega (arith, length-take n (drop m bytes)))) (omega arith)
    ]

-- a test that failed, or what is behind it
stopped : {A : Type 0} (b : Bool) (d : CodecFault) (x : A) (e : CodecFault) → cond b (Err d) (Ok x) ≡ Err e → d ≡ e
stopped true d x e h = cc
stopped false d x e h = absurd cc

pub number_reads : (w : Width) (limit : ℕ) → IsWide w limit → (low : ℕ) → Reads low Any (to_le_bytes w) (λ n. n < limit) (number_at w)
number_reads w limit wide low = record {
  takes = λ bytes at n end are le e.
      let front = take (byte_len w) (drop at bytes) in
      let g = past (ltb (length bytes) (at + byte_len w)) (Short at) (Ok (from_le_bytes w front, at + byte_len w)) (n, end) e in
      let same : (let p : ℕ × ℕ = (from_le_bytes w front, at + byte_len w) in p) ≡ (n, end) = (let h = g.1 in cc) in
      let long : at + byte_len w ≤ length bytes = ltb-false _ _ g.0 in
      let n_is : from_le_bytes w front ≡ n = ap (λ (p : ℕ × ℕ). p.0) same in
      let end_is : at + byte_len w ≡ end = ap (λ (p : ℕ × ℕ). p.1) same in
      let cut = AreBytes-cut (byte_len w) at bytes are in
      let back : to_le_bytes w n ≡ front = rw (← n_is) (wide.back front (omega (arith, length-take (byte_len w) (drop at bytes), length-drop at bytes)) cut) in
      let len = wide.len n in
      (tt, rw (← n_is) (wide.below front cut), record { end_at = sym end_is ∙ ap (λ (k : ℕ). at + k) (sym len); here = rw len (sym back) });
  again = λ bytes at n end le known fits stands.
      let len = wide.len n in
      let long = stands_within bytes at end (to_le_bytes w n) (omega (arith, len, wide.some)) stands in
      let test : ltb (length bytes) (at + byte_len w) ≡ false = le-ltb _ _ (omega (arith, long, len)) in
      let front : take (byte_len w) (drop at bytes) ≡ to_le_bytes w n = subst (λ (k : ℕ). take k (drop at bytes) ≡ to_le_bytes w n) len stands.here in
      let end_is : end ≡ at + byte_len w = stands.end_at ∙ ap (λ (k : ℕ). at + k) len in
      rw (test, front, wide.again n fits, end_is) refl;
  falls = λ bytes at fault are low_le le e.
      let is : Short at ≡ fault = stopped (ltb (length bytes) (at + byte_len w)) (Short at) (from_le_bytes w (take (byte_len w) (drop at bytes)), at + byte_len w) fault e in
      subst (λ (f : CodecFault). place_of f ≤ length bytes) is le;
  goes = λ bytes at n end e.
      let g = past (ltb (length bytes) (at + byte_len w)) (Short at) (Ok (from_le_bytes w (take (byte_len w) (drop at bytes)), at + byte_len w)) (n, end) e in
      let is = ok_is (from_le_bytes w (take (byte_len w) (drop at bytes))) n (at + byte_len w) end g.1 in
      omega (arith, is.1);
  later = λ bytes at fault low_le e.
      let is : Short at ≡ fault = stopped (ltb (length bytes) (at + byte_len w)) (Short at) (from_le_bytes w (take (byte_len w) (drop at bytes)), at + byte_len w) fault e in
      subst (λ (f : CodecFault). low ≤ place_of f) is low_le;
}

pub byte_reads : (low : ℕ) → Reads low Any (to_le_bytes w8) (λ n. n < 2 ^ 8) (number_at w8)
byte_reads = number_reads w8 (2 ^ 8) wide8

pub reads16 : (low : ℕ) → Reads low Any (to_le_bytes w16) (λ n. n < 2 ^ 16) (number_at w16)
reads16 = number_reads w16 (2 ^ 16) wide16

pub reads32 : (low : ℕ) → Reads low Any (to_le_bytes w32) (λ n. n < 2 ^ 32) (number_at w32)
reads32 = number_reads w32 (2 ^ 32) wide32

pub reads64 : (low : ℕ) → Reads low Any (to_le_bytes w64) (λ n. n < 2 ^ 64) (number_at w64)
reads64 = number_reads w64 (2 ^ 64) wide64

-- ---- counts and lists

-- a number that is at most so much
pub count_reads : (w : Width) (limit most : ℕ) → IsWide w limit → most < limit → (low : ℕ) → Reads low Any (to_le_bytes w) (λ n. n ≤ most) (count_at w most)
unfolding count_at
count_reads w limit most wide lt low =
    let P : ℕ → ℕ → Type 0 = λ n c. Any c × (c ≡ n) in
    let Fits : ℕ → Type 0 = λ c. (c < limit) × (c ≤ most) in
    let spell : ℕ → List ℕ = λ c. to_le_bytes w c ++ [] in
    said low Any Any spell (to_le_bytes w) Fits (λ n. n ≤ most) (count_at w most) (λ c p. tt) (λ c p. tt) (λ c p. simp append-nil) (λ c p fits. fits.1) (λ c p fits. (omega arith, fits))
    (then (λ (c : ℕ). c) (to_le_bytes w) (λ n. n < limit) (number_at w) low Any (λ c. []) (λ c. c ≤ most) (λ n place. choice (ltb most n) (refused (Over place most)) (whole n)) (number_reads w limit wide low) λ n from.
    choose from (P n) (λ c. []) (λ c. c ≤ most) (ltb most n) (refused (Over from most)) (whole n)
    (λ over. never from (P n) (λ c. []) (λ c. c ≤ most) (Over from most) (omega arith) (λ c known le. let no : ltb most n ≡ false = le-ltb _ _ (subst (λ (k : ℕ). k ≤ most) known.1 le) in let clash : true ≡ false = sym over ∙ no in cc))
    (λ within. said from (P n) (P n) (λ c. []) (λ c. []) (λ c. Unit {0}) (λ c. c ≤ most) (whole n) (λ c p. p) (λ c p. p) (λ c p. refl) (λ c p fits. subst (λ (k : ℕ). k ≤ most) (sym p.1) (ltb-false _ _ within)) (λ c p fits. tt)
    (done from (P n) n (tt, refl) (λ d known. known.1))))

-- a number that passes a test, else a fault that names it
pub tested_reads : (w : Width) (limit : ℕ) → IsWide w limit → (test : ℕ → Bool) (fault : ℕ → CodecFault) → ((from : ℕ) → place_of (fault from) ≡ from) → (low : ℕ)
    → Reads low Any (to_le_bytes w) (λ n. (n < limit) × (test n ≡ true)) (field (number_at w) λ n place. choice (test n) (whole n) (refused (fault place)))
tested_reads w limit wide test fault placed low =
    let P : ℕ → ℕ → Type 0 = λ n c. Any c × (c ≡ n) in
    let Passes : ℕ → Type 0 = λ c. test c ≡ true in
    let Fits : ℕ → Type 0 = λ c. (c < limit) × Passes c in
    let spell : ℕ → List ℕ = λ c. to_le_bytes w c ++ [] in
    said low Any Any spell (to_le_bytes w) Fits Fits _ (λ c p. tt) (λ c p. tt) (λ c p. simp append-nil) (λ c p fits. fits) (λ c p fits. fits)
    (then (λ (c : ℕ). c) (to_le_bytes w) (λ n. n < limit) (number_at w) low Any (λ c. []) Passes (λ n place. choice (test n) (whole n) (refused (fault place))) (number_reads w limit wide low) λ n from.
    choose from (P n) (λ c. []) Passes (test n) (whole n) (refused (fault from))
    (λ passes. said from (P n) (P n) (λ c. []) (λ c. []) (λ c. Unit {0}) Passes (whole n) (λ c p. p) (λ c p. p) (λ c p. refl) (λ c p fits. ap test p.1 ∙ passes) (λ c p fits. tt)
    (done from (P n) n (tt, refl) (λ d known. known.1)))
    (λ fails. never from (P n) (λ c. []) Passes (fault from) (placed from) (λ c known is. let clash : true ≡ false = sym is ∙ ap test known.1 ∙ fails in cc)))

-- a count of at most so much, and so many of a kind
pub list_reads : {A : Type 0} (spell : A → List ℕ) (Fits : A → Type 0) (read : Reader A) → ((low : ℕ) → Reads low Any spell Fits read) → (w : Width) (limit most : ℕ) → IsWide w limit → most < limit
    → (low : ℕ) → Reads low Any (λ cs. to_le_bytes w (length cs) ++ flat_map spell cs) (λ cs. (length cs ≤ most) × AllByRecursion Fits cs) (list_at w most read)
unfolding list_at
list_reads {A} spell Fits read reads w limit most wide lt low =
    then (λ (cs : List A). length cs) (to_le_bytes w) (λ n. n ≤ most) (count_at w most) low Any (flat_map spell) (AllByRecursion Fits) (λ n place. times read n) (count_reads w limit most wide lt low) (λ n from. times_reads spell Fits read reads from n)

-- ---- texts

either_stopped : {A : Type 0} (P : CodecFault → Type 0) (b also : Bool) (c d : CodecFault) (x : A) (e : CodecFault) → P c → P d → cond b (Err c) (cond also (Ok x) (Err d)) ≡ Err e → P e
either_stopped P true also c d x e one two h = let is : c ≡ e = cc in subst P is one
either_stopped P false true c d x e one two h = absurd cc
either_stopped P false false c d x e one two h = let is : d ≡ e = cc in subst P is two

letters_read : (low n : ℕ) → Reads low (λ t. Any t × (length t ≡ n)) (λ t. t) IsUtf8 (letters n)
unfolding letters
letters_read low n = record {
  takes = λ bytes at t end are le e.
      let text = take n (drop at bytes) in
      let one = past (ltb (length bytes) (at + n)) (Short at) (cond (is_utf8 text) (Ok (text, at + n)) (Err (NotUtf8 at))) (t, end) e in
      let two = chosen (is_utf8 text) (text, at + n) (NotUtf8 at) (t, end) one.1 in
      let long : at + n ≤ length bytes = ltb-false _ _ one.0 in
      let text_is : text ≡ t = ap (λ (p : List ℕ × ℕ). p.0) two.1 in
      let end_is : at + n ≡ end = ap (λ (p : List ℕ × ℕ). p.1) two.1 in
      let len : length text ≡ n = omega (arith, long, length-take n (drop at bytes), length-drop at bytes) in
      subst (λ (u : List ℕ). (Any u × (length u ≡ n)) × IsUtf8 u × Stands bytes at u end) text_is
      ((tt, len), IsUtf8-from_is_utf8 text two.0, record { end_at = sym end_is ∙ ap (λ (k : ℕ). at + k) (sym len); here = rw len refl });
  again = λ bytes at t end le known fits stands.
      let text_is : take n (drop at bytes) ≡ t = subst (λ (k : ℕ). take k (drop at bytes) ≡ t) known.1 stands.here in
      let end_is : end ≡ at + n = stands.end_at ∙ ap (λ (k : ℕ). at + k) known.1 in
      let short : ltb (length bytes) (at + n) ≡ false = le-ltb _ _ (subst (λ (k : ℕ). k ≤ length bytes) end_is (stands_end bytes at end t le stands)) in
      rw (short, text_is, is_utf8-from_IsUtf8 t fits, end_is) refl;
  falls = λ bytes at fault are low_le le e.
      either_stopped (λ f. place_of f ≤ length bytes) (ltb (length bytes) (at + n)) (is_utf8 (take n (drop at bytes))) (Short at) (NotUtf8 at) (take n (drop at bytes), at + n) fault le le e;
  goes = λ bytes at t end e.
      let text = take n (drop at bytes) in
      let one = past (ltb (length bytes) (at + n)) (Short at) (cond (is_utf8 text) (Ok (text, at + n)) (Err (NotUtf8 at))) (t, end) e in
      let two = chosen (is_utf8 text) (text, at + n) (NotUtf8 at) (t, end) one.1 in
      let end_is : at + n ≡ end = ap (λ (p : List ℕ × ℕ). p.1) two.1 in
      omega (arith, end_is);
  later = λ bytes at fault low_le e.
      either_stopped (λ f. low ≤ place_of f) (ltb (length bytes) (at + n)) (is_utf8 (take n (drop at bytes))) (Short at) (NotUtf8 at) (take n (drop at bytes), at + n) fault low_le low_le e;
}

-- a text's length has 16 bits
pub text_limit_small : (f : Format) → text_limit f < 2 ^ 16
text_limit_small One = omega arith
text_limit_small Two = omega arith

-- a state's count has 16 bits
pub field_limit_small : (f : Format) → field_limit f < 2 ^ 16
field_limit_small One = omega arith
field_limit_small Two = omega arith

-- a state has room for what the format takes
pub field_limit_within : (f : Format) → field_limit f ≤ 64
field_limit_within One = omega arith
field_limit_within Two = omega arith

-- a text
pub text_reads : (f : Format) (low : ℕ) → Reads low Any spelling_of_text (TextFits f) (text_at f)
unfolding text_at
text_reads f low =
    then (λ (t : List ℕ). length t) (to_le_bytes w16) (λ n. n ≤ text_limit f) (count_at w16 (text_limit f)) low Any (λ t. t) IsUtf8 (λ n place. letters n)
    (count_reads w16 (2 ^ 16) (text_limit f) wide16 (text_limit_small f) low) (λ n from. letters_read from n)

either_short : {A : Type 0} (P : CodecFault → Type 0) (b : Bool) (c : CodecFault) (x : A) (e : CodecFault) → P c → cond b (Err c) (Ok x) ≡ Err e → P e
either_short P true c x e one h = let is : c ≡ e = cc in subst P is one
either_short P false c x e one h = absurd cc

pub bytes_read : (low n : ℕ) → Reads low (λ t. Any t × (length t ≡ n)) (λ t. t) (λ t. Unit {0}) (bytes_at n)
unfolding bytes_at
bytes_read low n = record {
  takes = λ bytes at t end are le e.
      let text = take n (drop at bytes) in
      let one = past (ltb (length bytes) (at + n)) (Short at) (Ok (text, at + n)) (t, end) e in
      let is = ok_is text t (at + n) end one.1 in
      let long : at + n ≤ length bytes = ltb-false _ _ one.0 in
      let len : length text ≡ n = omega (arith, long, length-take n (drop at bytes), length-drop at bytes) in
      subst (λ (u : List ℕ). (Any u × (length u ≡ n)) × Unit {0} × Stands bytes at u end) is.0
      ((tt, len), tt, record { end_at = sym is.1 ∙ ap (λ (k : ℕ). at + k) (sym len); here = rw len refl });
  again = λ bytes at t end le known fits stands.
      let text_is : take n (drop at bytes) ≡ t = subst (λ (k : ℕ). take k (drop at bytes) ≡ t) known.1 stands.here in
      let end_is : end ≡ at + n = stands.end_at ∙ ap (λ (k : ℕ). at + k) known.1 in
      let short : ltb (length bytes) (at + n) ≡ false = le-ltb _ _ (subst (λ (k : ℕ). k ≤ length bytes) end_is (stands_end bytes at end t le stands)) in
      rw (short, text_is, end_is) refl;
  falls = λ bytes at fault are low_le le e.
      either_short (λ f. place_of f ≤ length bytes) (ltb (length bytes) (at + n)) (Short at) (take n (drop at bytes), at + n) fault le e;
  goes = λ bytes at t end e.
      let one = past (ltb (length bytes) (at + n)) (Short at) (Ok (take n (drop at bytes), at + n)) (t, end) e in
      let is = ok_is (take n (drop at bytes)) t (at + n) end one.1 in
      omega (arith, is.1);
  later = λ bytes at fault low_le e.
      either_short (λ f. low ≤ place_of f) (ltb (length bytes) (at + n)) (Short at) (take n (drop at bytes), at + n) fault low_le e;
}

pub program_reads : (low : ℕ) → Reads low Any spelling_of_program ProgramFits program_at
unfolding program_at
program_reads low =
    said low Any Any spelling_of_program spelling_of_program (λ t. (length t ≤ 262144) × Unit {0}) ProgramFits program_at (λ t p. tt) (λ t p. tt) (λ t p. refl) (λ t p fits. fits.0) (λ t p fits. (fits, tt))
    (then (λ (t : List ℕ). length t) (to_le_bytes w32) (λ n. n ≤ 262144) (count_at w32 262144) low Any (λ t. t) (λ t. Unit {0}) (λ n place. bytes_at n)
    (count_reads w32 (2 ^ 32) 262144 wide32 (omega arith) low) (λ n from. bytes_read from n))
