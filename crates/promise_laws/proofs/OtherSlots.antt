-- Each image of each moment of `compact` has the log, in the slot that was live or in the other one.
use Rattle.std.proofs.Common.{◌≡◌, ◌≢◌, ◌⊎◌, inl, inr, ℕ, ◌+◌, ◌-◌, ◌<◌, ◌≤◌, ◌==◌, Bool, if◌then◌else◌, List, [], ◌∷◌, length, drop, slice_index, refl, sym, ap, subst, ◌∙◌, arith}
use Rattle.std.proofs.lemmas.Bool.{cases_eq, eq-eqb, ne_eqb}
use Rattle.host_trait.specs.declared.channels.FileId.{FileId}
use Rattle.host_trait.specs.declared.channels.FileId.TheVariants.{Manager}
use Rattle.host_trait.specs.Disk.{FileState, MayLeave, Tears}
use Rattle.host_trait.specs.Files.{slot_of}
use Rattle.host_trait.specs.World.{World, Moment, Image, IsImage, with_bytes}
use Rattle.host_trait.specs.Runs.{ChangesFile}
use Rattle.host_trait.proofs.Names.{cases_file}
use Rattle.host_trait.proofs.Runs.{image_from, settled_image, with_bytes-there, with_bytes-other}
use Rattle.field_codec.specs.declared.formats.Format.{Format}
use Rattle.silo_spec.specs.Silos.{IsMagic, IsSilo}
use Rattle.silo_spec.specs.Slots.{generation}
use Rattle.silo_spec.proofs.Magics.{silo_of_format}
use Rattle.promise_spec.specs.Entries.{Log}
use Rattle.promise_spec.specs.Logs.{IsLogIn, IsLogOf}
use Rattle.promise_spec.specs.Journals.{AllLogOf}
use Rattle.promise_spec.specs.EitherSlot.{HasEither, MayClose, IsFilling, IsCompactable, IsReadyToOpen}
use Rattle.promise_laws.proofs.MovedLogs.{log_moves}
use Rattle.promise_laws.proofs.GateBytes.{generation_stays}

-- the other slot's manager file isn't one of this slot's
apart : (live : ℕ) (file : FileId) → live ≤ 1 → slot_of file ≡ live → file ≢ Manager (1 - live)
apart live file low here is = omega (arith, low, sym here ∙ ap slot_of is)

-- a list by its first byte
first_byte : (l : List ℕ) (x : ℕ) → 0 < length l → slice_index l 0 ≡ x → l ≡ x ∷ drop 1 l
first_byte [] x some is = absurd (omega (arith, some))
first_byte (y ∷ l) x some is = ap (λ (z : ℕ). z ∷ l) is

-- files of a slot from one image, all others from another
mix : ℕ → Image → Image → Image
mix live a b file = if slot_of file == live then a file else b file

module _ (format : Format) (live : ℕ) (log : Log) (w : World) (can : IsCompactable format live log w) where
  -- An image whose files of the live slot are as they may be left, and whose other manager file is no silo's of as high a
  -- generation, still has the log.
  still : (image : Image) → ((file : FileId) → slot_of file ≡ live → MayLeave (w.disk file) (image file))
      → (IsSilo IsMagic (image (Manager (1 - live))) → generation (image (Manager (1 - live))) < generation (w.disk (Manager live)).seen + (1 - live)) → IsLogOf format live image log
  unfolding mix
  still image left below =
      let from : Image = mix live image (λ file. (w.disk file).seen) in
      let is : IsLogOf format live from log = can.logged from (λ file. possible file (cases_eq (slot_of file) live)) in
      let moved : (file : FileId) → slot_of file ≡ live → image file ≡ from file = λ file here. sym (mixed file here) in
      let seen : image (Manager live) ≡ (w.disk (Manager live)).seen = settled_image w.disk (Manager live) (w.disk (Manager live)).seen (image (Manager live)) can.lasts (left (Manager live) refl) in
      record {
        is_live = record {
          slot = can.slot;
          silo = subst (IsSilo IsMagic) (sym (moved (Manager live) refl)) is.is_live.silo;
          over = λ silo. subst (λ (l : List ℕ). generation (image (Manager (1 - live))) < generation l + (1 - live)) (sym seen) (below silo);
        };
        is = log_moves format live from image moved log is.is;
      }
    where
      mixed : (file : FileId) → slot_of file ≡ live → mix live image (λ file. (w.disk file).seen) file ≡ image file
      mixed file here = ap (λ (b : Bool). if b then image file else (w.disk file).seen) (eq-eqb (slot_of file) live here)

      possible : (file : FileId) → (slot_of file ≡ live) ⊎ (slot_of file ≡ live → ⊥) → MayLeave (w.disk file) (mix live image (λ file. (w.disk file).seen) file)
      possible file (inl here) = subst (MayLeave (w.disk file)) (sym (mixed file here)) (left file here)
      possible file (inr other) =
          subst (MayLeave (w.disk file)) (sym (ap (λ (b : Bool). if b then image file else (w.disk file).seen) (ne_eqb (slot_of file) live other))) (can.seen file)

  -- while the other header gate is closed
  pub closing : MayClose live w → (m : Moment) → ChangesFile (Manager (1 - live)) (Tears 0 1) w m → AllLogOf format live log m.disk
  closing below m changes image is =
      let comes = image_from (Manager (1 - live)) (Tears 0 1) w m changes image is in
      still image (λ file here. subst (MayLeave (w.disk file)) (sym (comes.others file (apart live file can.slot here))) (comes.possible file))
      (below (comes.from (Manager (1 - live))) (image (Manager (1 - live))) (comes.possible (Manager (1 - live))) comes.changed)

  -- while the other slot's files are filled
  pub filling : (m : Moment) → IsFilling live w.disk m → AllLogOf format live log m.disk
  filling m fills image is =
      still image (λ file here. subst (λ (s : FileState). MayLeave s (image file)) (fills.kept file here) (is file))
      (λ silo. absurd (fills.shut (image (Manager (1 - live))) (is (Manager (1 - live))) silo.gate))

  module _ (to : Format) (new : Log) (mid : World) (ready : IsReadyToOpen to live new w mid) (m : Moment) (changes : ChangesFile (Manager (1 - live)) (Tears 0 1) mid m) (image : Image) (is : IsImage m.disk image) where
    left_now : (file : FileId) → slot_of file ≡ live → MayLeave (w.disk file) (image file)
    left_now file here = subst (λ (s : FileState). MayLeave s (image file)) (changes.others file (apart live file can.slot here) ∙ ready.filling.kept file here) (is file)

    -- an image with the gate open has the new log in the other slot
    pub opened : slice_index (image (Manager (1 - live))) 0 ≡ 1 → IsLogOf to (1 - live) image new
    opened gate =
        let comes = image_from (Manager (1 - live)) (Tears 0 1) mid m changes image is in
        let from : Image = comes.from in
        let long : 0 < length (image (Manager (1 - live))) = omega (arith, ready.some from comes.possible, comes.changed.no_shorter) in
        let bytes : image (Manager (1 - live)) ≡ 1 ∷ drop 1 (from (Manager (1 - live))) = first_byte (image (Manager (1 - live))) 1 long gate ∙ ap (λ (l : List ℕ). 1 ∷ l) comes.changed.after in
        let moved : (file : FileId) → slot_of file ≡ 1 - live → image file ≡ with_bytes from (Manager (1 - live)) (1 ∷ drop 1 (from (Manager (1 - live)))) file = λ file here. elim (cases_file file (Manager (1 - live))) [
          | inl this ↦
              subst (λ (f : FileId). image f ≡ with_bytes from (Manager (1 - live)) (1 ∷ drop 1 (from (Manager (1 - live)))) f) (sym this)
              (bytes ∙ sym (with_bytes-there from (Manager (1 - live)) (1 ∷ drop 1 (from (Manager (1 - live))))))
          | inr other ↦ comes.others file other ∙ sym (with_bytes-other from (Manager (1 - live)) (1 ∷ drop 1 (from (Manager (1 - live)))) file other)
        ] in
        let whole : IsLogIn to (1 - live) image new = log_moves to (1 - live) (with_bytes from (Manager (1 - live)) (1 ∷ drop 1 (from (Manager (1 - live))))) image moved new (ready.whole from comes.possible) in
        let back : 1 - (1 - live) ≡ live = omega (arith, can.slot) in
        let old : image (Manager live) ≡ (w.disk (Manager live)).seen = settled_image w.disk (Manager live) (w.disk (Manager live)).seen (image (Manager live)) can.lasts (left_now (Manager live) refl) in
        let mine : generation (image (Manager (1 - live))) ≡ generation (w.disk (Manager live)).seen + 1 =
        generation_stays (from (Manager (1 - live))) (image (Manager (1 - live))) comes.changed ∙ ready.risen from comes.possible in
        let its : generation (image (Manager (1 - (1 - live)))) ≡ generation (w.disk (Manager live)).seen = ap (λ (s : ℕ). generation (image (Manager s))) back ∙ ap generation old in
        record {
          is_live = record { slot = omega arith; silo = silo_of_format to (image (Manager (1 - live))) whole.stands.silo; over = λ silo. omega (arith, mine, its) };
          is = whole;
        }

    -- one with it closed has the log in the slot that was live
    pub unopened : slice_index (image (Manager (1 - live))) 0 ≢ 1 → IsLogOf format live image log
    unopened shut = still image left_now (λ silo. absurd (shut silo.gate))

    -- whatever byte a crash leaves in the gate's place
    pub either : HasEither format to live log new image
    either = elim (cases_eq (slice_index (image (Manager (1 - live))) 0) 1) [
      | inl gate ↦ inr (opened gate)
      | inr shut ↦ inl (unopened shut)
    ]
