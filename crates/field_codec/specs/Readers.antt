-- Reading fields from left to right. The first fault that is met is the answer, with its place.
use Rattle.std.specs.Prelude.{ℕ, zero, suc, ◌+◌, ◌<◌, List, [], ◌∷◌, length, take, drop, slice_index, Result, Ok, Err, Bool, Option, Some, None, nat_lt, ◌==◌, if◌then◌else◌}
use Rattle.std.specs.Int.{Width, w16, w32, byte_len, from_le_bytes}
use Rattle.std.specs.Str.{is_utf8}
use Rattle.field_codec.specs.declared.formats.Format.{Format}
use Rattle.field_codec.specs.Formats.{text_limit}
use Rattle.field_codec.specs.declared.faults.CodecFault.{CodecFault}
use Rattle.field_codec.specs.declared.faults.CodecFault.TheVariants.{Short, NotUtf8, Over, Trailing}

-- what stands in these bytes from a place on, and the place behind it
abbrev pub Reader : Type 0 → Type 0
Reader A = List ℕ → ℕ → Result (A × ℕ) CodecFault

-- go on with what was read, unless that was a fault
abbrev pub and_then : {A B : Type 0} → Result A CodecFault → (A → Result B CodecFault) → Result B CodecFault
and_then (Ok x) f = f x
and_then (Err fault) f = Err fault

-- each is a byte
abbrev pub AreBytes : List ℕ → Type 0
AreBytes bytes = (i : ℕ) → slice_index bytes i < 256

-- ---- how readers are joined

-- nothing more is read: this is the value
unfoldable pub whole : {C : Type 0} → C → Reader C
whole c bytes at = Ok (c, at)

-- nothing can be read: this is the fault
unfoldable pub refused : {C : Type 0} → CodecFault → Reader C
refused fault bytes at = Err fault

-- a field, and then the rest, by what the field holds and by its place
unfoldable pub field : {A C : Type 0} → Reader A → (A → ℕ → Reader C) → Reader C
field read rest bytes at = and_then (read bytes at) (λ x. rest x.0 at bytes x.1)

-- the one where the test holds, else the other
unfoldable pub choice : {C : Type 0} → Bool → Reader C → Reader C → Reader C
choice b read other bytes at = if b then read bytes at else other bytes at

-- the rest, by what is there, else this fault
unfoldable pub when_known : {A C : Type 0} → Option A → CodecFault → (A → Reader C) → Reader C
when_known (Some a) fault rest bytes at = rest a bytes at
when_known None fault rest bytes at = Err fault

-- so many of a kind, each read by what is known from those before it
unfoldable pub chain : {S A : Type 0} → (S → Reader A) → (S → A → S) → S → ℕ → Reader (List A)
chain read next s zero bytes at = Ok ([], at)
chain read next s (suc n) bytes at = and_then (read s bytes at) (λ x. and_then (chain read next (next s x.0) n bytes x.1) (λ xs. Ok (x.0 ∷ xs.0, xs.1)))

-- so many of a kind
abbrev pub times : {A : Type 0} → Reader A → ℕ → Reader (List A)
times read n = chain {S = Unit {0}} (λ s. read) (λ s x. s) tt n

-- the one thing of a whole text, with nothing behind it
abbrev pub whole_text : {A : Type 0} → Reader A → List ℕ → Result A CodecFault
whole_text read text = and_then (read text 0) λ x. if x.1 == length text then Ok x.0 else Err (Trailing x.1)

-- ---- the fields of every record

-- a number of a width, little-endian
abbrev pub number_at : Width → Reader ℕ
number_at w bytes at = if nat_lt (length bytes) (at + byte_len w) then Err (Short at) else Ok (from_le_bytes w (take (byte_len w) (drop at bytes)), at + byte_len w)

-- a count or a length that is at most the limit
unfoldable pub count_at : Width → ℕ → Reader ℕ
count_at w limit = field (number_at w) λ n place. choice (nat_lt limit n) (refused (Over place limit)) (whole n)

-- so many bytes of UTF-8
unfoldable pub letters : ℕ → Reader (List ℕ)
letters n bytes at = if nat_lt (length bytes) (at + n) then Err (Short at) else (let text = take n (drop at bytes) in if is_utf8 text then Ok (text, at + n) else Err (NotUtf8 at))

-- so many bytes, whatever they are
unfoldable pub bytes_at : ℕ → Reader (List ℕ)
bytes_at n bytes at = if nat_lt (length bytes) (at + n) then Err (Short at) else Ok (take n (drop at bytes), at + n)

-- a program's text: its length, and its bytes
unfoldable pub program_at : Reader (List ℕ)
program_at = field (count_at w32 262144) λ n place. bytes_at n

-- a text within the format's limit: its length, and its bytes
unfoldable pub text_at : Format → Reader (List ℕ)
text_at format = field (count_at w16 (text_limit format)) λ n place. letters n

-- a count of at most the limit, and so many of a kind
unfoldable pub list_at : {A : Type 0} → Width → ℕ → Reader A → Reader (List A)
list_at w limit read = field (count_at w limit) λ n place. times read n
