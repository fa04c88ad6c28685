-- Which slot of an image is live.
use Rattle.std.proofs.Common.{◌≡◌, ◌≢◌, ◌⊎◌, inl, inr, ℕ, zero, suc, ◌+◌, ◌-◌, ◌<◌, ◌≤◌, Bool, true, false, ◌&&◌, nat_le, List, length, take, drop, slice_index, refl, sym, ap, subst, ◌∙◌, arith, get_or-take}
use Rattle.std.specs.Prelude.{◌==◌}
use Rattle.std.specs.Int.{w32, from_le_bytes}
use Rattle.std.proofs.lemmas.Bool.{cases_lt, and_parts, and_from, leb-true, le-leb, eqb-true, eq-eqb, false≢true}
use Rattle.std.proofs.lemmas.List.{take-take, drop-take}
use Rattle.host_trait.specs.declared.channels.FileId.{FileId}
use Rattle.host_trait.specs.declared.channels.FileId.TheVariants.{Manager}
use Rattle.host_trait.specs.Disk.{FileState, MayLeave}
use Rattle.host_trait.specs.Files.{slot_of}
use Rattle.host_trait.specs.World.{World, Moment, Disk, Image, IsImage, with_bytes}
use Rattle.host_trait.proofs.Runs.{image_with, with_bytes-there, with_bytes-other}
use Rattle.field_codec.specs.declared.formats.Format.{Format}
use Rattle.silo_spec.specs.Silos.{IsSilo, IsFormat, IsMagic, is_magic}
use Rattle.silo_spec.specs.Slots.{generation, IsLive, ShowsSilos}
use Rattle.silo_spec.proofs.Magics.{magic_named, named_magic}
use Rattle.promise_spec.specs.Openings.{is_silo}

-- ---- the test of a manager file

pub silo_read : (file : List ℕ) → is_silo file ≡ true → IsSilo IsMagic file
silo_read file e =
    let one = and_parts (nat_le 16 (length file)) ((slice_index file 0 == 1) && is_magic (take 8 (drop 1 file))) e in
    let two = and_parts (slice_index file 0 == 1) (is_magic (take 8 (drop 1 file))) one.1 in
    record { long = leb-true 16 (length file) one.0; gate = eqb-true (slice_index file 0) 1 two.0; named = magic_named (take 8 (drop 1 file)) two.1 }

pub silo_is : (file : List ℕ) → IsSilo IsMagic file → is_silo file ≡ true
silo_is file s =
    and_from (nat_le 16 (length file)) ((slice_index file 0 == 1) && is_magic (take 8 (drop 1 file))) (le-leb 16 (length file) s.long)
    (and_from (slice_index file 0 == 1) (is_magic (take 8 (drop 1 file))) (eq-eqb (slice_index file 0) 1 s.gate) (named_magic (take 8 (drop 1 file)) s.named))

-- a silo's, or not
pub silo_or_not : (file : List ℕ) → IsSilo IsMagic file ⊎ (IsSilo IsMagic file → ⊥)
silo_or_not file = by (is_silo file) refl
  where
    by : (b : Bool) → is_silo file ≡ b → IsSilo IsMagic file ⊎ (IsSilo IsMagic file → ⊥)
    by true e = inl (silo_read file e)
    by false e = inr (λ s. false≢true (sym e ∙ silo_is file s))

-- ---- the live slot

-- one slot of an image is live
pub one_slot : (one other : ℕ) (image : Image) → IsLive IsMagic one image → IsLive IsMagic other image → one ≡ other
one_slot zero zero image x y = refl
one_slot (suc zero) (suc zero) image x y = refl
one_slot zero (suc zero) image x y =
    let first : generation (image (Manager 1)) < generation (image (Manager 0)) + 1 = x.over y.silo in
    let second : generation (image (Manager 0)) < generation (image (Manager 1)) + 0 = y.over x.silo in
    absurd (omega (arith, first, second))
one_slot (suc zero) zero image x y =
    let first : generation (image (Manager 1)) < generation (image (Manager 0)) + 1 = y.over x.silo in
    let second : generation (image (Manager 0)) < generation (image (Manager 1)) + 0 = x.over y.silo in
    absurd (omega (arith, first, second))
one_slot (suc (suc a)) b image x y = absurd (omega (arith, x.slot))
one_slot zero (suc (suc b)) image x y = absurd (omega (arith, y.slot))
one_slot (suc zero) (suc (suc b)) image x y = absurd (omega (arith, y.slot))

-- of one manager file that is a silo's alone
pub only_live : (slot : ℕ) (image : Image) → slot ≤ 1 → IsSilo IsMagic (image (Manager slot)) → (IsSilo IsMagic (image (Manager (1 - slot))) → ⊥) → IsLive IsMagic slot image
only_live slot image low silo none = record { slot = low; silo = silo; over = λ s. absurd (none s) }

-- of two that are
pub either_live : (image : Image) → IsSilo IsMagic (image (Manager 0)) → IsSilo IsMagic (image (Manager 1)) → (live : ℕ) × IsLive IsMagic live image
either_live image a b = elim (cases_lt (generation (image (Manager 0))) (generation (image (Manager 1)))) [
  | inl later ↦
      let over : generation (image (Manager 0)) < generation (image (Manager 1)) + 0 = omega (arith, later) in
      (1, record { slot = omega arith; silo = b; over = λ s. over })
  | inr earlier ↦
      let over : generation (image (Manager 1)) < generation (image (Manager 0)) + 1 = omega (arith, earlier) in
      (0, record { slot = omega arith; silo = a; over = λ s. over })
]

-- some slot is live where some manager file is a silo's
pub some_live : (image : Image) (slot : ℕ) → slot ≤ 1 → IsSilo IsMagic (image (Manager slot)) → (live : ℕ) × IsLive IsMagic live image
some_live image zero low silo = elim (silo_or_not (image (Manager 1))) [
  | inl other ↦ either_live image silo other
  | inr none ↦ (0, only_live 0 image low silo none)
]
some_live image (suc zero) low silo = elim (silo_or_not (image (Manager 0))) [
  | inl other ↦ either_live image other silo
  | inr none ↦ (1, only_live 1 image low silo none)
]
some_live image (suc (suc slot)) low silo = absurd (omega (arith, low))

-- a manager file of another silo's slot
pub other_slot : (live : ℕ) → live ≤ 1 → Manager live ≢ Manager (1 - live)
other_slot live low e = let same : live ≡ 1 - live = ap slot_of e in absurd (omega (arith, same, low))

-- ---- it stays

-- the header's parts lie in the first 15 bytes
part_of : (from n : ℕ) (f g : List ℕ) → from + n ≤ 15 → take 15 f ≡ take 15 g → take n (drop from f) ≡ take n (drop from g)
part_of from n f g within same =
    let sum : from + (15 - from) ≡ 15 = omega (arith, within) in
    let few : n ≤ 15 - from = omega (arith, within) in
    let cut : (l : List ℕ) → drop from (take 15 l) ≡ take (15 - from) (drop from l) = λ l. ap (λ (k : ℕ). drop from (take k l)) (sym sum) ∙ drop-take from (15 - from) l in
    let middle : take (15 - from) (drop from f) ≡ take (15 - from) (drop from g) = sym (cut f) ∙ ap (λ (l : List ℕ). drop from l) same ∙ cut g in
    sym (take-take n (15 - from) (drop from f) few) ∙ ap (λ (l : List ℕ). take n l) middle ∙ take-take n (15 - from) (drop from g) few

-- files with one header have one generation, and are a silo's alike where they are long enough
pub header_generation : (f g : List ℕ) → take 15 f ≡ take 15 g → generation f ≡ generation g
header_generation f g head = ap (λ (l : List ℕ). from_le_bytes w32 l) (part_of 9 4 f g (omega arith) head)

pub header_silo : (names : List ℕ → Type 0) (f g : List ℕ) → take 15 f ≡ take 15 g → 16 ≤ length f → IsSilo names g → IsSilo names f
header_silo names f g head long silo =
    let one : 0 < 15 = omega arith in
    let gate : slice_index f 0 ≡ 1 = sym (get_or-take 15 f 0 0 one) ∙ ap (λ (l : List ℕ). slice_index l 0) head ∙ get_or-take 15 g 0 0 one ∙ silo.gate in
    record { long = long; gate = gate; named = subst names (sym (part_of 1 8 f g (omega arith) head)) silo.named }

-- a slot is live where another image's manager files have it live, and have the header of its own and, of the other's, the same bytes
-- or no silo's
pub live_moves : (live : ℕ) (from image : Image) → IsLive IsMagic live from → take 15 (image (Manager live)) ≡ take 15 (from (Manager live)) → 16 ≤ length (image (Manager live))
    → ((image (Manager (1 - live)) ≡ from (Manager (1 - live))) ⊎ (IsSilo IsMagic (image (Manager (1 - live))) → ⊥)) → IsLive IsMagic live image
live_moves live from image is head long other = record {
  slot = is.slot;
  silo = header_silo IsMagic (image (Manager live)) (from (Manager live)) head long is.silo;
  over = λ silo. by other silo;
}
  where
    mine : generation (image (Manager live)) ≡ generation (from (Manager live))
    mine = header_generation (image (Manager live)) (from (Manager live)) head

    by : (image (Manager (1 - live)) ≡ from (Manager (1 - live))) ⊎ (IsSilo IsMagic (image (Manager (1 - live))) → ⊥) → IsSilo IsMagic (image (Manager (1 - live)))
        → generation (image (Manager (1 - live))) < generation (image (Manager live)) + (1 - live)
    by (inl same) silo =
        let its : generation (image (Manager (1 - live))) ≡ generation (from (Manager (1 - live))) = ap generation same in
        omega (arith, mine, its, is.over (subst (IsSilo IsMagic) same silo))
    by (inr none) silo = absurd (none silo)

-- at a moment of a run, which leaves the other manager file and its own header
pub live_stays : (live : ℕ) (w : World) → live ≤ 1 → ((file : FileId) → MayLeave (w.disk file) (w.disk file).seen) → ((image : Image) → IsImage w.disk image → IsLive IsMagic live image)
    → (m : Moment) → m.disk (Manager (1 - live)) ≡ w.disk (Manager (1 - live)) → (image : Image) → IsImage m.disk image
    → take 15 (image (Manager live)) ≡ take 15 (w.disk (Manager live)).seen → 16 ≤ length (image (Manager live)) → IsLive IsMagic live image
live_stays live w low seen at m kept image is head long =
    let read : Image = λ file. (w.disk file).seen in
    let other : List ℕ = image (Manager (1 - live)) in
    let from : Image = with_bytes read (Manager (1 - live)) other in
    let possible : IsImage w.disk from = image_with w.disk read (Manager (1 - live)) other seen (subst (λ (s : FileState). MayLeave s other) kept (is (Manager (1 - live)))) in
    let there : from (Manager (1 - live)) ≡ other = with_bytes-there read (Manager (1 - live)) other in
    let here : from (Manager live) ≡ read (Manager live) = with_bytes-other read (Manager (1 - live)) other (Manager live) (other_slot live low) in
    live_moves live from image (at from possible) (head ∙ ap (λ (l : List ℕ). take 15 l) (sym here)) long (inl (sym there))

-- ---- manager files that read too short

-- what a crash leaves of such a file is no silo's, whatever it leaves of the others
pub shows_file : (disk : Disk) → ShowsSilos IsMagic disk → ((file : FileId) → MayLeave (disk file) (disk file).seen) → (slot : ℕ) → slot ≤ 1 → length (disk (Manager slot)).seen < 16
    → (bytes : List ℕ) → MayLeave (disk (Manager slot)) bytes → IsSilo IsMagic bytes → ⊥
shows_file disk shows seen slot low short bytes left silo =
    let read : Image = λ file. (disk file).seen in
    shows (with_bytes read (Manager slot) bytes) (image_with disk read (Manager slot) bytes seen left) slot low short
    (subst (IsSilo IsMagic) (sym (with_bytes-there read (Manager slot) bytes)) silo)
