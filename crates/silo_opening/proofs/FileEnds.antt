-- The ends that are kept lie in their files.
use Rattle.std.proofs.Common.{◌≡◌, inl, inr, ℕ, ◌+◌, ◌-◌, ◌<◌, ◌≤◌, Bool, true, false, ltb, if◌then◌else◌, Option, Some, None, List, [], ◌∷◌, length, drop, take, Result, Ok, Err, refl, sym, ◌∙◌, ap, subst, arith, slice_get}
use Rattle.std.proofs.lemmas.Bool.{ltb-false, cases_lt}
use Rattle.std.proofs.lemmas.List.{length-take, length-drop}
use Rattle.std.proofs.lemmas.Slice.Eq.{bytes_eq-Decides}
use Rattle.std.specs.Int.{w64, to_le_bytes}
use Rattle.base_types.specs.declared.calls.GrainId.{GrainId}
use Rattle.base_types.specs.declared.calls.UnitNo.{UnitNo}
use Rattle.base_types.specs.declared.shapes.Shape.{Shape}
use Rattle.base_types.specs.declared.stores.Place.{Place}
use Rattle.base_types.specs.declared.stores.Version.{Version}
use Rattle.host_trait.specs.declared.channels.FileId.{FileId}
use Rattle.host_trait.specs.declared.channels.FileId.TheVariants.{Grain}
use Rattle.host_trait.specs.Files.{same_grain}
use Rattle.host_trait.specs.World.{Image}
use Rattle.field_codec.specs.declared.formats.Format.{Format}
use Rattle.field_codec.proofs.Counts.{wide64}
use Rattle.field_codec.proofs.Readers.{past}
use Rattle.grain_log.specs.Reads.{fields_of, is_beyond, is_owned, is_logged, in_file, text_in, version_of, version_at_place, version_by_owner}
use Rattle.grain_log.proofs.VersionUnits.{short_version}
use Rattle.commit_log.specs.declared.records.Named.{Named}
use Rattle.cell_model.proofs.Units.{same_grain-true}
use Rattle.log_reading.specs.Versions.{version_by_shape, version_numbered, missing_or, first_missing}
use Rattle.log_reading.specs.Sums.{end_after, greater_end}

-- an end that lies in a file, or none
abbrev pub LiesIn : ℕ → Option ℕ → Type 0
LiesIn size None = Unit {0}
LiesIn size (Some end) = end ≤ size

own_place : (b : Bool) (place : ℕ) (r : Result Version ℕ) (v : Version) → (if b then r else Err place) ≡ Ok v → (b ≡ true) × (r ≡ Ok v)
own_place true place r v e = (refl, e)
own_place false place r v e = absurd cc

within_by : (format : Format) (fields : Option ℕ) (place : Place) (file : List ℕ) (v : Version) → version_at_place format fields place file ≡ Ok v → place.len ≤ length file - place.offset
within_by format None place file v e = absurd cc
within_by format (Some fields) place file v e =
    let one = past (is_beyond format place) place.offset (text_in format fields place file) v e in
    let two = past (ltb (length file - place.offset) place.len) place.offset (in_file place.offset (version_of format fields (take place.len (drop place.offset file)))) v one.1 in
    ltb-false _ _ two.0

-- a version that is there has a number's bytes
long_at : (format : Format) (fields : Option ℕ) (place : Place) (file : List ℕ) (v : Version) → version_at_place format fields place file ≡ Ok v → 8 ≤ length (drop place.offset file)
long_at format None place file v e = absurd cc
long_at format (Some fields) place file v e =
    let one = past (is_beyond format place) place.offset (text_in format fields place file) v e in
    let two = past (ltb (length file - place.offset) place.len) place.offset (in_file place.offset (version_of format fields (take place.len (drop place.offset file)))) v one.1 in
    elim (cases_lt (length (drop place.offset file)) 8) [
      | inr long ↦ long
      | inl short ↦
          let text : List ℕ = take place.len (drop place.offset file) in
          let low : length text < 8 = omega (arith, short, length-take place.len (drop place.offset file)) in
          let none : in_file place.offset (version_of format fields text) ≡ Err (place.offset + 0) = ap (in_file place.offset) (short_version format fields text low) in
          let clash : Err (place.offset + 0) ≡ Ok v = sym none ∙ two.1 in
          absurd cc
    ]

module _ (format : Format) (live : ℕ) (shapes : List Shape) (image : Image) where
  -- the first eight bytes of a version that is there stand in its file
  long_by : (owner : Option UnitNo) (fields : Option ℕ) (place : Place) (file : List ℕ) (v : Version) → version_by_owner format fields owner place file ≡ Ok v → (place.len ≤ length file - place.offset) × (8 ≤ length (drop place.offset file))
  long_by (Some unit) fields place file v e =
      let found = own_place (is_owned unit place file) place.offset (version_at_place format fields place file) v e in
      let own = (bytes_eq-Decides (take 8 (drop place.offset file)) (to_le_bytes w64 unit.0)).0 found.0 in
      let eight : length (take 8 (drop place.offset file)) ≡ length (to_le_bytes w64 unit.0) = ap length own in
      (within_by format fields place file v found.1, omega (arith, eight, wide64.len unit.0, length-take 8 (drop place.offset file)))
  long_by None fields place file v e =
      let found = own_place (is_logged place file) place.offset (version_at_place format fields place file) v e in
      (within_by format fields place file v found.1, long_at format fields place file v found.1)

  -- the version that is named ends in its file
  named_lies : (n : Named) (v : Version) → version_numbered live format shapes image n ≡ Ok v → n.written.place.offset + n.written.place.len ≤ length (image (Grain live n.written.grain))
  named_lies n v e = by_shape (slice_get shapes n.program) e
    where
      by_shape : (o : Option Shape) → version_by_shape live format o image n ≡ Ok v → n.written.place.offset + n.written.place.len ≤ length (image (Grain live n.written.grain))
      by_shape None is = absurd cc
      by_shape (Some shape) is =
          let file = image (Grain live n.written.grain) in
          let place = n.written.place in
          let fits = long_by n.unit (fields_of (slice_get shape.types n.written.grain.kind)) place file v is in
          omega (arith, fits.0, fits.1, length-drop place.offset file)

  there_by : (g : GrainId) (r : Result Version ℕ) (later : Option (FileId × ℕ)) → missing_or live g r later ≡ None → ((v : Version) × (r ≡ Ok v)) × (later ≡ None)
  there_by g (Ok v) later e = ((v, refl), e)
  there_by g (Err place) later e = absurd cc

  later_lies : (size end : ℕ) (e : Option ℕ) → end ≤ size → LiesIn size e → LiesIn size (greater_end e end)
  later_lies size end None here lies = here
  later_lies size end (Some last) here lies = omega (arith, here, lies)

  one_lies : (size end : ℕ) (e : Option ℕ) (b : Bool) → (b ≡ true → end ≤ size) → LiesIn size e → LiesIn size (if b then greater_end e end else e)
  one_lies size end e true here lies = later_lies size end e (here refl) lies
  one_lies size end e false here lies = lies

  -- so does each end that is kept of versions that are there
  pub ends_lie : (named : List Named) → first_missing live format shapes image named ≡ None → (g : GrainId) (e : Option ℕ) → LiesIn (length (image (Grain live g))) e → LiesIn (length (image (Grain live g))) (end_after e named g)
  ends_lie [] whole g e lies = lies
  ends_lie (n ∷ named) whole g e lies =
      let t = there_by n.written.grain (version_numbered live format shapes image n) (first_missing live format shapes image named) whole in
      let end = n.written.place.offset + n.written.place.len in
      let here : same_grain n.written.grain g ≡ true → end ≤ length (image (Grain live g)) = λ same.
      subst (λ (h : GrainId). end ≤ length (image (Grain live h))) (same_grain-true n.written.grain g same) (named_lies n t.0.0 t.0.1) in
      ends_lie named t.1 g (if same_grain n.written.grain g then greater_end e end else e) (one_lies (length (image (Grain live g))) end e (same_grain n.written.grain g) here lies)

-- an end that is there
pub end_lies : (size end : ℕ) (e kept : Option ℕ) → kept ≡ e → LiesIn size e → kept ≡ Some end → end ≤ size
end_lies size end e kept same lies is = subst (LiesIn size) (sym same ∙ is) lies
