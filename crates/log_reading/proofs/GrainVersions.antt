-- The versions read by grains: what they leave, and where reading stops.
use Rattle.std.proofs.Common.{◌≡◌, inl, inr, ℕ, false, if◌then◌else◌, Option, Some, None, List, [], ◌∷◌, filter, Result, Ok, Err, refl, sym, ◌∙◌, ap, subst}
use Rattle.std.specs.List.{AllByRecursion}
use Rattle.std.proofs.lemmas.Bool.{cases_Bool, cond-true, cond-false}
use Rattle.base_types.specs.declared.calls.GrainId.{GrainId}
use Rattle.base_types.specs.declared.calls.Value.{Value}
use Rattle.base_types.specs.declared.shapes.Shape.{Shape}
use Rattle.base_types.specs.declared.stores.Version.{Version}
use Rattle.host_trait.specs.World.{Image}
use Rattle.host_trait.specs.declared.channels.FileId.{FileId}
use Rattle.host_trait.specs.declared.channels.FileId.TheVariants.{Grain}
use Rattle.field_codec.specs.declared.formats.Format.{Format}
use Rattle.commit_log.specs.declared.records.Named.{Named}
use Rattle.host_trait.specs.Files.{same_grain}
use Rattle.log_reading.specs.Versions.{is_before, named_by_grain, version_numbered, state_of, missing_or, first_missing}
use Rattle.log_reading.specs.Sums.{state_after, StopsAt}
use Rattle.log_reading.proofs.Orders.{by_grain_at, Climbs, by_grain_climbs, climbs_behind, irreflexive}
use Rattle.log_reading.proofs.NamedVersions.{none_missing}

module _ (live : ℕ) (format : Format) (shapes : List Shape) (image : Image) where
  abbrev State : Type 0
  State = Option (ℕ × List Value)

  abbrev step : State → Named → GrainId → State
  step s n g = if same_grain n.written.grain g then Some (n.program, state_of (version_numbered live format shapes image n)) else s

  -- only the grain's own versions count
  own_count : (ns : List Named) (s : State) (g : GrainId) → state_after live format shapes image s ns g ≡ state_after live format shapes image s (filter (λ (n : Named). same_grain n.written.grain g) ns) g
  own_count [] s g = refl
  own_count (n ∷ ns) s g = elim (cases_Bool (same_grain n.written.grain g)) [
    | inl e ↦ own_count ns (step s n g) g ∙ ap (λ (l : List Named). state_after live format shapes image s l g) (sym (cond-true (same_grain n.written.grain g) (n ∷ filter (λ (m : Named). same_grain m.written.grain g) ns) (filter (λ (m : Named). same_grain m.written.grain g) ns) e))
    | inr e ↦ ap (λ (t : State). state_after live format shapes image t ns g) (cond-false (same_grain n.written.grain g) (Some (n.program, state_of (version_numbered live format shapes image n))) s e) ∙ own_count ns s g
        ∙ ap (λ (l : List Named). state_after live format shapes image s l g) (sym (cond-false (same_grain n.written.grain g) (n ∷ filter (λ (m : Named). same_grain m.written.grain g) ns) (filter (λ (m : Named). same_grain m.written.grain g) ns) e))
  ]

  pub in_any_order : (s : State) (ns : List Named) (g : GrainId) → state_after live format shapes image s (named_by_grain ns) g ≡ state_after live format shapes image s ns g
  in_any_order s ns g = own_count (named_by_grain ns) s g ∙ ap (λ (l : List Named). state_after live format shapes image s l g) (by_grain_at g ns) ∙ sym (own_count ns s g)

  -- ---- where reading stops

  abbrev grain_or : GrainId → Option (FileId × ℕ) → GrainId
  grain_or d None = d
  grain_or d (Some (Grain slot g, place)) = g
  grain_or d (Some x) = d

  miss_by : (grain : GrainId) (r : Result Version ℕ) (later : Option (FileId × ℕ)) (P : GrainId → Type 0) (last : GrainId) (place : ℕ) → P grain → (later ≡ Some (Grain live last, place) → P last) → missing_or live grain r later ≡ Some (Grain live last, place) → P last
  miss_by grain (Err at) later P last place one on e = subst P (let same : grain ≡ last = ap (grain_or grain) e in same) one
  miss_by grain (Ok v) later P last place one on e = on e

  missing_in : (n : Named) (ns : List Named) (P : GrainId → Type 0) → P n.written.grain → AllByRecursion (λ m. P m.written.grain) ns → (last : GrainId) (place : ℕ) → first_missing live format shapes image (n ∷ ns) ≡ Some (Grain live last, place) → P last
  missing_in n [] P one all last place e = miss_by n.written.grain (version_numbered live format shapes image n) None P last place one (λ f. absurd cc) e
  missing_in n (m ∷ ms) P one all last place e = miss_by n.written.grain (version_numbered live format shapes image n) (first_missing live format shapes image (m ∷ ms)) P last place one (λ f. missing_in m ms P all.0 all.1 last place f) e

  pub in_order : (named : List Named) (file : FileId) (s : StopsAt live format shapes image (named_by_grain named) file) (last : GrainId) (place : ℕ) → first_missing live format shapes image (named_by_grain named) ≡ Some (Grain live last, place) → is_before last s.here.written.grain ≡ false
  in_order named file s last place is =
      let up : Climbs (s.here ∷ s.back) = climbs_behind s.front (s.here ∷ s.back) (subst Climbs s.are (by_grain_climbs named)) in
      let at : first_missing live format shapes image (s.here ∷ s.back) ≡ Some (Grain live last, place) = sym (none_missing live format shapes image s.front (s.here ∷ s.back) s.whole) ∙ ap (first_missing live format shapes image) (sym s.are) ∙ is in
      missing_in s.here s.back (λ g. is_before g s.here.written.grain ≡ false) (never s.here.written.grain) up.0 last place at
    where
      never : (g : GrainId) → is_before g g ≡ false
      never g = irreflexive g
