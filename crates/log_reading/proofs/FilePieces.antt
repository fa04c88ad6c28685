-- Pieces of a grain's file, and the texts that are cut from them.
use Rattle.std.proofs.Common.{◌≡◌, ℕ, ◌+◌, ◌-◌, ◌≤◌, Bool, IsTrue, List, [], ◌∷◌, Result, Ok, Err, IfOk, length, take, drop, refl, sym, ◌∙◌, ap, subst, arith, length-drop, drop-drop}
use Rattle.std.proofs.lemmas.List.{take-take, take-append-le, drop-take, length-take-le}
use Rattle.host_trait.specs.World.{Image, Filled}
use Rattle.host_trait.specs.declared.channels.FileId.TheVariants.{Grain}
use Rattle.base_types.specs.declared.calls.GrainId.{GrainId}
use Rattle.base_types.specs.declared.stores.Place.{Place}
use Rattle.grain_log.specs.Reads.{IsTextAt}
use Rattle.commit_log.specs.declared.records.Named.{Named}
use Rattle.log_reading.specs.declared.pieces.Piece.{Piece}
use Rattle.log_reading.specs.Pieces.{AreIn, IsPieceOf, IsTextIn}

-- where the files stay, a piece of them is one still
pub still_piece : (tells : Bool) (live : ℕ) (old new : Image) (piece : Piece) → (IsTrue tells → old ≡ new) → IsPieceOf tells live old piece → IsPieceOf tells live new piece
still_piece tells live old new piece same is = record {
  low = is.low;
  here = λ told. subst (λ (image : Image). AreIn (image (Grain live piece.grain)) piece.start piece.bytes.items) (same told) (is.here told);
}

-- no bytes are in every file
pub none_in : (file : List ℕ) (start : ℕ) (bytes : List ℕ) → length bytes ≡ 0 → AreIn file start bytes
none_in file start [] none = record { within = omega arith; same = refl }
none_in file start (byte ∷ bytes) none = absurd (omega (arith, none))

-- what was read is in the file
pub filled_in : (n at : ℕ) (file old new bytes : List ℕ) → Filled n at file old new → bytes ≡ take n new → AreIn file at bytes
filled_in n at file old new bytes filled are =
    let count = filled.count in
    let short : length (take n (drop at file)) ≡ n = length-take-le n (drop at file) (omega (arith, count, length-drop at file)) in
    let front : bytes ≡ take n (drop at file) =
    are ∙ ap (take n) filled.bytes ∙ take-append-le n (take n (drop at file)) (drop n old) (omega (arith, short)) ∙ take-take n n (drop at file) (omega arith) in
    let size : length bytes ≡ n = ap length front ∙ short in
    record {
      within = omega (arith, size, count);
      same = front ∙ ap (λ (m : ℕ). take m (drop at file)) (sym size);
    }

-- what is cut from bytes that are in a file stands in it
pub cut_in : (file bytes : List ℕ) (start from len : ℕ) → AreIn file start bytes → from + len ≤ length bytes → take len (drop from bytes) ≡ take len (drop (start + from) file)
cut_in file bytes start from len are within =
    let rest : ℕ = length bytes - from in
    let sum : length bytes ≡ from + rest = omega (arith, within) in
    let one : drop from bytes ≡ take rest (drop from (drop start file)) =
    ap (drop from) (are.same ∙ ap (λ (m : ℕ). take m (drop start file)) sum) ∙ drop-take from rest (drop start file) in
    let two : drop from (drop start file) ≡ drop (start + from) file = drop-drop from start file in
    ap (take len) (one ∙ ap (take rest) two) ∙ take-take len rest (drop (start + from) file) (omega (arith, within, sum))

-- so a named version's text does
pub text_stands : (file : List ℕ) (piece : Piece) (named : Named) (text : List ℕ) → AreIn file piece.start piece.bytes.items → IsTextIn piece named text → IsTextAt named.written.place file text
text_stands file piece named text are is =
    let place : Place = named.written.place in
    let low = is.behind in
    let within = is.within in
    let all = are.within in
    let sum : piece.start + (place.offset - piece.start) ≡ place.offset = omega (arith, low) in
    record {
      within = omega (arith, low, within, all);
      bytes = is.same ∙ cut_in file piece.bytes.items piece.start (place.offset - piece.start) place.len are within ∙ ap (λ (n : ℕ). take place.len (drop n file)) sum;
    }

pub text_in_image : (tells : Bool) (live : ℕ) (image : Image) (piece : Piece) (named : Named) (text : List ℕ) → IsPieceOf tells live image piece → IsTextIn piece named text → IsTrue tells
    → IsTextAt named.written.place (image (Grain live named.written.grain)) text
text_in_image tells live image piece named text of is told =
    subst (λ (g : GrainId). IsTextAt named.written.place (image (Grain live g)) text) (sym is.grain) (text_stands (image (Grain live piece.grain)) piece named text (of.here told) is)

-- what is so of each value is so of an answer's
pub weaker_ok : {A E : Type 0} (P Q : A → Type 0) (result : Result A E) → ((x : A) → P x → Q x) → IfOk result P → IfOk result Q
weaker_ok P Q (Ok x) on is = on x is
weaker_ok P Q (Err e) on is = tt
