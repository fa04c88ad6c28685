-- Named versions, one after the other.
use Rattle.std.proofs.Common.{◌≡◌, ℕ, zero, suc, ◌+◌, ◌^◌, ◌<◌, Bool, true, false, if◌then◌else◌, Option, Some, None, List, [], ◌∷◌, ◌++◌, Result, Ok, Err, refl, sym, ◌∙◌, ap, subst, arith, append_assoc}
use Rattle.std.specs.Prelude.{unwrap_or, slice_get}
use Rattle.base_types.specs.declared.calls.GrainId.{GrainId}
use Rattle.base_types.specs.declared.calls.Value.{Value}
use Rattle.base_types.specs.declared.shapes.Shape.{Shape}
use Rattle.base_types.specs.declared.stores.Version.{Version}
use Rattle.base_types.specs.declared.places.Placed.{Placed}
use Rattle.host_trait.specs.declared.channels.FileId.{FileId}
use Rattle.host_trait.specs.declared.channels.FileId.TheVariants.{Grain}
use Rattle.host_trait.specs.World.{Image}
use Rattle.field_codec.specs.declared.formats.Format.{Format}
use Rattle.commit_log.specs.declared.records.Named.{Named}
use Rattle.host_trait.specs.Files.{same_grain}
use Rattle.script_tree.specs.Programs.{ProgramTree}
use Rattle.program_file.specs.Succession.{shapes_in_turn}
use Rattle.log_reading.specs.Versions.{version_named, version_by_shape, version_numbered, version_found, missing_or, first_missing, state_of}
use Rattle.base_types.specs.declared.places.Places.{Places}
use Rattle.base_types.specs.Places.{placed_in}
use Rattle.log_reading.specs.Sums.{state_after, placed_as, placed_after, end_after, greater_end, AreOfPrograms, StopsAt}

-- ---- by numbers

-- the version of a number, by the shape that it names
pub numbered_by : (live : ℕ) (format : Format) (shapes : List Shape) (image : Image) (n : Named) (shape : Shape) → slice_get shapes n.program ≡ Some shape
    → version_numbered live format shapes image n ≡ version_named live format shape image n
numbered_by live format shapes image n shape is = ap (λ (o : Option Shape). version_by_shape live format o image n) is

-- where it names none, there is no version
pub numbered_none : (live : ℕ) (format : Format) (shapes : List Shape) (image : Image) (n : Named) → slice_get shapes n.program ≡ None → version_numbered live format shapes image n ≡ Err n.written.place.offset
numbered_none live format shapes image n is = ap (λ (o : Option Shape). version_by_shape live format o image n) is

-- of one program each version that is there is of its shape
pub numbered_one : (live : ℕ) (format : Format) (shape : Shape) (image : Image) (n : Named) (v : Version) → version_numbered live format (shape ∷ []) image n ≡ Ok v → version_named live format shape image n ≡ Ok v
numbered_one live format shape image n v e = by_number n.program e
  where
    by_number : (number : ℕ) → version_by_shape live format (slice_get (shape ∷ []) number) image n ≡ Ok v → version_named live format shape image n ≡ Ok v
    by_number zero is = is
    by_number (suc number) is = absurd cc

-- ---- one after the other

module _ (live : ℕ) (format : Format) (shapes : List Shape) (image : Image) where
  abbrev missing_at : GrainId → Option (FileId × ℕ) → Result Version ℕ → Option (FileId × ℕ)
  missing_at grain later r = missing_or live grain r later

  pub missing_step : (x : Named) (rest : List Named) (v : Version) → version_numbered live format shapes image x ≡ Ok v → first_missing live format shapes image (x ∷ rest) ≡ first_missing live format shapes image rest
  missing_step x rest v e = ap (missing_at x.written.grain (first_missing live format shapes image rest)) e

  pub missing_here : (x : Named) (rest : List Named) (place : ℕ) → version_numbered live format shapes image x ≡ Err place → first_missing live format shapes image (x ∷ rest) ≡ Some (Grain live x.written.grain, place)
  missing_here x rest place e = ap (missing_at x.written.grain (first_missing live format shapes image rest)) e

  none_by : (grain : GrainId) (r : Result Version ℕ) (a b all : Option (FileId × ℕ)) → missing_or live grain r a ≡ None → (a ≡ None → b ≡ all) → missing_or live grain r b ≡ all
  none_by grain (Ok v) a b all none on = on none
  none_by grain (Err place) a b all none on = absurd cc

  -- where nothing is missing in the front, the first that is missing is behind it
  pub none_missing : (front back : List Named) → first_missing live format shapes image front ≡ None → first_missing live format shapes image (front ++ back) ≡ first_missing live format shapes image back
  none_missing [] back none = refl
  none_missing (x ∷ front) back none =
      none_by x.written.grain (version_numbered live format shapes image x) (first_missing live format shapes image front) (first_missing live format shapes image (front ++ back)) (first_missing live format shapes image back) none (λ also. none_missing front back also)

  -- those that were read are there, and these are left
  pub record Passed (named rest : List Named) : Type 0 where
    pub gone : List Named
    pub split : named ≡ gone ++ rest
    pub whole : first_missing live format shapes image gone ≡ None

  pub passed_none : (named : List Named) → Passed named named
  passed_none named = record { gone = []; split = refl; whole = refl }

  pub passed_more : (named items : List Named) → Passed named items → (x : Named) (rest : List Named) → items ≡ x ∷ rest → (v : Version) → version_numbered live format shapes image x ≡ Ok v → Passed named rest
  passed_more named items p x rest are v e = record {
    gone = p.gone ++ x ∷ [];
    split = p.split ∙ ap (λ (l : List Named). p.gone ++ l) are ∙ sym (append_assoc p.gone (x ∷ []) rest);
    whole = none_missing p.gone (x ∷ []) p.whole ∙ missing_step x [] v e;
  }

  pub passed_all : (named items : List Named) → Passed named items → items ≡ [] → first_missing live format shapes image named ≡ None
  passed_all named items p are = ap (first_missing live format shapes image) p.split ∙ none_missing p.gone items p.whole ∙ ap (first_missing live format shapes image) are

  pub passed_here : (named items : List Named) → Passed named items → (x : Named) (rest : List Named) → items ≡ x ∷ rest → (place : ℕ) → version_numbered live format shapes image x ≡ Err place
      → first_missing live format shapes image named ≡ Some (Grain live x.written.grain, place)
  passed_here named items p x rest are place e = ap (first_missing live format shapes image) p.split ∙ none_missing p.gone items p.whole ∙ ap (first_missing live format shapes image) are ∙ missing_here x rest place e

  pub stops_here : (named items : List Named) → Passed named items → (x : Named) (rest : List Named) → items ≡ x ∷ rest → (file : FileId) → file ≡ Grain live x.written.grain → StopsAt live format shapes image named file
  stops_here named items p x rest are file is = record { front = p.gone; here = x; back = rest; are = p.split ∙ ap (λ (l : List Named). p.gone ++ l) are; whole = p.whole; is = is }

  pub state_more : (x : Named) (rest items : List Named) (g : GrainId) (v : Version) (old new all : Option (ℕ × List Value)) → items ≡ x ∷ rest → version_numbered live format shapes image x ≡ Ok v
      → new ≡ (if same_grain x.written.grain g then Some (x.program, v.state) else old) → state_after live format shapes image old items g ≡ all → state_after live format shapes image new rest g ≡ all
  state_more x rest items g v old new all are found is so_far =
      ap (λ (s : Option (ℕ × List Value)). state_after live format shapes image s rest g) is
      ∙ ap (λ (r : Result Version ℕ). state_after live format shapes image (if same_grain x.written.grain g then Some (x.program, state_of r) else old) rest g) (sym found)
      ∙ ap (λ (l : List Named). state_after live format shapes image old l g) (sym are) ∙ so_far

  pub state_all : (items : List Named) (g : GrainId) (old all : Option (ℕ × List Value)) → items ≡ [] → state_after live format shapes image old items g ≡ all → old ≡ all
  state_all items g old all are so_far = ap (λ (l : List Named). state_after live format shapes image old l g) (sym are) ∙ so_far

module _ (live : ℕ) (format : Format) (programs : List ProgramTree) (image : Image) where
  pub place_more : (x : Named) (rest items : List Named) (g : GrainId) (v : Version) (old new all : Option Placed) → items ≡ x ∷ rest → version_numbered live format (shapes_in_turn programs) image x ≡ Ok v
      → new ≡ (if same_grain x.written.grain g then Some (placed_as programs x.written.grain x.written.place x.program v) else old) → placed_after live format programs image old items g ≡ all → placed_after live format programs image new rest g ≡ all
  place_more x rest items g v old new all are found is so_far =
      ap (λ (p : Option Placed). placed_after live format programs image p rest g) is
      ∙ ap (λ (r : Result Version ℕ). placed_after live format programs image (if same_grain x.written.grain g then Some (placed_as programs x.written.grain x.written.place x.program (version_found r)) else old) rest g) (sym found)
      ∙ ap (λ (l : List Named). placed_after live format programs image old l g) (sym are) ∙ so_far

  pub place_all : (items : List Named) (g : GrainId) (old all : Option Placed) → items ≡ [] → placed_after live format programs image old items g ≡ all → old ≡ all
  place_all items g old all are so_far = ap (λ (l : List Named). placed_after live format programs image old l g) (sym are) ∙ so_far

pub end_more : (x : Named) (rest items : List Named) (g : GrainId) (old new all : Option ℕ) → items ≡ x ∷ rest
    → new ≡ (if same_grain x.written.grain g then greater_end old (x.written.place.offset + x.written.place.len) else old) → end_after old items g ≡ all → end_after new rest g ≡ all
end_more x rest items g old new all are is so_far = ap (λ (s : Option ℕ). end_after s rest g) is ∙ ap (λ (l : List Named). end_after old l g) (sym are) ∙ so_far

-- an end that is kept lies below 2^63, where the place's end does and that of before
near_if : (b : Bool) (old : Option ℕ) (end : ℕ) → end < 2 ^ 63 → unwrap_or old 0 < 2 ^ 63 → unwrap_or (if b then greater_end old end else old) 0 < 2 ^ 63
near_if true None end near was = near
near_if true (Some last) end near was = omega (arith, near, was)
near_if false old end near was = was

pub near_more : (x : Named) (g : GrainId) (old new : Option ℕ) → x.written.place.offset + x.written.place.len < 2 ^ 63
    → new ≡ (if same_grain x.written.grain g then greater_end old (x.written.place.offset + x.written.place.len) else old) → unwrap_or old 0 < 2 ^ 63 → unwrap_or new 0 < 2 ^ 63
near_more x g old new near is was =
    subst (λ (s : Option ℕ). unwrap_or s 0 < 2 ^ 63) (sym is) (near_if (same_grain x.written.grain g) old (x.written.place.offset + x.written.place.len) near was)

pub end_all : (items : List Named) (g : GrainId) (old all : Option ℕ) → items ≡ [] → end_after old items g ≡ all → old ≡ all
end_all items g old all are so_far = ap (λ (l : List Named). end_after old l g) (sym are) ∙ so_far

-- a place that is kept has a number below the programs' count, where the version's has and those of before have
pub program_more : (programs : List ProgramTree) (x : Named) (v : Version) (count : ℕ) (old new : Places) → x.program < count
    → ((g : GrainId) → placed_in new g ≡ (if same_grain x.written.grain g then Some (placed_as programs x.written.grain x.written.place x.program v) else placed_in old g)) → AreOfPrograms count old → AreOfPrograms count new
program_more programs x v count old new low is was g p here = by_test (same_grain x.written.grain g) (sym (is g) ∙ here)
  where
    some_or : Placed → Option Placed → Placed
    some_or d None = d
    some_or d (Some q) = q

    by_test : (b : Bool) → (if b then Some (placed_as programs x.written.grain x.written.place x.program v) else placed_in old g) ≡ Some p → p.program < count
    by_test true e = subst (λ (q : Placed). q.program < count) (ap (some_or p) e) low
    by_test false e = was g p e
