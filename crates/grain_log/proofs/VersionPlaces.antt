-- Versions that are written one behind the other.
use Rattle.std.proofs.Common.{◌≡◌, ℕ, zero, suc, ◌+◌, ◌-◌, ◌<◌, ◌≤◌, List, [], ◌∷◌, ◌++◌, length, take, drop, get_or, refl, sym, ap, subst, ◌∙◌, append_assoc, length-append, arith}
use Rattle.std.proofs.lemmas.List.{take_at, drop_at, length-take}
use Rattle.base_types.specs.declared.stores.Place.{Place}
use Rattle.base_types.specs.declared.stores.Version.{Version}
use Rattle.host_trait.specs.Disk.{overlaid}
use Rattle.field_codec.specs.Spelling.{Stands, spelling_of_version}
use Rattle.field_codec.proofs.TextPlaces.{stands_first, stands_second}
use Rattle.grain_log.specs.Places.{spelling_of_versions, places_from, VersionsStand}

places_suc : (at : ℕ) (vs : List Version) (i : ℕ) (v : Version) → i < length vs → v ≡ get_or vs i v
    → places_from at (take (suc i) vs) ≡ places_from at (take i vs) ++ record { offset = at + length (spelling_of_versions (take i vs)); len = length (spelling_of_version v) } ∷ []
places_suc at [] i v lt is = absurd (omega arith)
places_suc at (w ∷ vs) zero v lt is =
    let same : v ≡ w = is in
    let here : at ≡ at + 0 = omega arith in
    λ x. record { offset = here x; len = length (spelling_of_version (sym same x)) } ∷ []
places_suc at (w ∷ vs) (suc i) v lt is =
    let size = length (spelling_of_version w) in
    let rest = spelling_of_versions (take i vs) in
    let on : (at + size) + length rest ≡ at + length (spelling_of_version w ++ rest) = omega (arith, length-append (spelling_of_version w) rest) in
    ap (λ (ps : List Place). record { offset = at; len = size } ∷ ps) (places_suc (at + size) vs i v (omega arith) is)
    ∙ (λ x. record { offset = at; len = size } ∷ (places_from (at + size) (take i vs) ++ record { offset = on x; len = length (spelling_of_version v) } ∷ []))

-- the places so far, and the next one
pub places_more : (at : ℕ) (vs : List Version) (i : ℕ) (v : Version) (old next : List Place) (offset len : ℕ) → i < length vs → v ≡ get_or vs i v → offset ≡ at + length (spelling_of_versions (take i vs)) → len ≡ length (spelling_of_version v)
    → next ≡ old ++ record { offset = offset; len = len } ∷ [] → old ≡ places_from at (take i vs) → next ≡ places_from at (take (i + 1) vs)
places_more at vs i v old next offset len lt is offset_is len_is pushed so_far =
    let on : suc i ≡ i + 1 = omega arith in
    pushed ∙ (λ x. so_far x ++ record { offset = offset_is x; len = len_is x } ∷ []) ∙ sym (subst (λ (k : ℕ). places_from at (take k vs) ≡ places_from at (take i vs) ++ record { offset = at + length (spelling_of_versions (take i vs)); len = length (spelling_of_version v) } ∷ []) on (places_suc at vs i v lt is))

-- the length of what was appended
pub size_is : (old new text : List ℕ) (start len : ℕ) → start ≡ length old → len ≡ length new → new ≡ old ++ text → len - start ≡ length text
size_is old new text start len start_is len_is grown =
    let sum : length new ≡ length (old ++ text) = ap length grown in
    omega (arith, start_is, len_is, sum, length-append old text)

-- ---- standing

stand_all : (file : List ℕ) (at end : ℕ) (vs : List Version) → Stands file at (spelling_of_versions vs) end → VersionsStand file at vs
stand_all file at end [] stands = tt
stand_all file at end (v ∷ vs) stands =
    (stands_first file at end (spelling_of_version v) (spelling_of_versions vs) stands, stand_all file (at + length (spelling_of_version v)) end vs (stands_second file at end (spelling_of_version v) (spelling_of_versions vs) stands))

-- what was written over a file stands there
pub written_stands : (file : List ℕ) (at : ℕ) (vs : List Version) → at ≤ length file → VersionsStand (overlaid file at (spelling_of_versions vs)) at vs
written_stands file at vs within =
    let text = spelling_of_versions vs in
    let after = drop (at + length text) file in
    let len : length (take at file) ≡ at = omega (arith, length-take at file) in
    let regroup : overlaid file at text ≡ take at file ++ (text ++ after) = append_assoc (take at file) text after in
    let behind : drop at (overlaid file at text) ≡ text ++ after = ap (drop at) regroup ∙ drop_at (take at file) (text ++ after) at len in
    stand_all (overlaid file at text) at (at + length text) vs (record { end_at = refl; here = ap (take (length text)) behind ∙ take_at text after (length text) refl })

-- and what stood before it stands there still
pub written_before : (file : List ℕ) (at : ℕ) (text : List ℕ) → at ≤ length file → take at (overlaid file at text) ≡ take at file
written_before file at text within =
    let after = drop (at + length text) file in
    let len : length (take at file) ≡ at = omega (arith, length-take at file) in
    ap (take at) (append_assoc (take at file) text after) ∙ take_at (take at file) (text ++ after) at len
