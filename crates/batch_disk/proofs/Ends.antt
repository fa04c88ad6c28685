-- Where the places of records end, and that what stands lies in its file.
use Rattle.std.proofs.Common.{◌≡◌, ℕ, ◌+◌, ◌<◌, ◌≤◌, ◌^◌, max, Bool, true, false, if◌then◌else◌, List, [], ◌∷◌, ◌++◌, length, take, drop, get_or, refl, sym, ◌∙◌, ap, subst, arith, length-append}
use Rattle.std.specs.Int.{w64, to_le_bytes}
use Rattle.std.specs.List.{flat_map, AllByRecursion}
use Rattle.std.proofs.lemmas.List.{length-take, length-drop, drop_more}
use Rattle.base_types.specs.declared.calls.UnitNo.{UnitNo}
use Rattle.base_types.specs.declared.calls.Value.{Value}
use Rattle.base_types.specs.declared.calls.GrainId.{GrainId}
use Rattle.base_types.specs.declared.shapes.Shape.{Shape}
use Rattle.base_types.specs.declared.stores.Version.{Version}
use Rattle.host_trait.specs.Files.{same_grain}
use Rattle.host_trait.specs.World.{Image}
use Rattle.host_trait.proofs.Names.{same_grain-is, same_grain-refl}
use Rattle.field_codec.specs.Spelling.{spelling_of_version, spelling_of_values}
use Rattle.commit_log.specs.declared.records.Written.{Written}
use Rattle.commit_log.specs.declared.records.CommitRecord.{CommitRecord}
use Rattle.host_trait.specs.declared.channels.FileId.TheVariants.{Grain}
use Rattle.field_codec.specs.declared.formats.Format.TheVariants.{Two}
use Rattle.promise_spec.specs.Records.{Commit}
use Rattle.promise_spec.specs.Versions.{IsKept, WriteStands, WritesStand}
use Rattle.batch_disk.specs.ImagesAtRest.{write_end, IsBelow, raised_end, raised_ends, all_writes}
use Rattle.batch_disk.proofs.Lists.{both_parts}

-- ---- ends

up_one : (b : Bool) (x y : ℕ) → x ≤ (if b then max x y else x)
up_one true x y = omega arith
up_one false x y = omega arith

pub raised_up : (ends : GrainId → ℕ) (ws : List Written) (g : GrainId) → ends g ≤ raised_ends ends ws g
raised_up ends [] g = omega arith
raised_up ends (w ∷ ws) g = omega (arith, up_one (same_grain w.grain g) (ends g) (write_end w), raised_up (raised_end ends w) ws g)

pub raised_each : (ends : GrainId → ℕ) (ws : List Written) → AllByRecursion (IsBelow (raised_ends ends ws)) ws
raised_each ends [] = tt
raised_each ends (w ∷ ws) =
    let here : raised_end ends w w.grain ≡ max (ends w.grain) (write_end w) = ap (λ (b : Bool). if b then max (ends w.grain) (write_end w) else ends w.grain) (same_grain-refl w.grain) in
    (omega (arith, here, raised_up (raised_end ends w) ws w.grain), raised_each (raised_end ends w) ws)

long_one : (b : Bool) (x y len : ℕ) → x ≤ len → (b ≡ true → y ≤ len) → (if b then max x y else x) ≤ len
long_one true x y len low more = omega (arith, low, more refl)
long_one false x y len low more = low

pub raised_long : (live : ℕ) (image : Image) (ends : GrainId → ℕ) (ws : List Written) → ((g : GrainId) → ends g ≤ length (image (Grain live g))) → AllByRecursion (λ w. write_end w ≤ length (image (Grain live w.grain))) ws
    → (g : GrainId) → raised_ends ends ws g ≤ length (image (Grain live g))
raised_long live image ends [] long each g = long g
raised_long live image ends (w ∷ ws) long each g =
    raised_long live image (raised_end ends w) ws
    (λ h. long_one (same_grain w.grain h) (ends h) (write_end w) (length (image (Grain live h))) (long h)
    (λ same. subst (λ (k : GrainId). write_end w ≤ length (image (Grain live k))) (same_grain-is w.grain h same) each.0))
    each.1 g

-- ---- what stands lies in its file

eight : (n : ℕ) → length (to_le_bytes w64 n) ≡ 8
eight n = refl

has_bytes : (v : Version) → 8 ≤ length (spelling_of_version v)
has_bytes v = omega (arith, eight v.unit.0, length-append (to_le_bytes w64 v.unit.0) (spelling_of_values v.state))

pub stands_within : (live : ℕ) (shape : Shape) (image : Image) (unit : UnitNo) (w : Written) (s : List Value) → WriteStands Two live shape image unit w s → write_end w ≤ length (image (Grain live w.grain))
stands_within live shape image unit w s st =
    let file = image (Grain live w.grain) in
    let size : length (take w.place.len (drop w.place.offset file)) ≡ w.place.len = ap length st.version.here ∙ st.version.version_is.len in
    omega (arith, size, st.version.version_is.len, has_bytes (record { unit = unit; state = s }), length-take w.place.len (drop w.place.offset file), length-drop w.place.offset file)

all_within : (live : ℕ) (shape : Shape) (image : Image) (unit : UnitNo) (ws : List Written) (ss : List (List Value)) → WritesStand Two live shape image unit ws ss → AllByRecursion (λ w. write_end w ≤ length (image (Grain live w.grain))) ws
all_within live shape image unit [] [] st = tt
all_within live shape image unit [] (s ∷ ss) st = absurd st
all_within live shape image unit (w ∷ ws) [] st = absurd st
all_within live shape image unit (w ∷ ws) (s ∷ ss) st = (stands_within live shape image unit w s st.0, all_within live shape image unit ws ss st.1)

pub kept_within : (live : ℕ) (shape : Shape) (image : Image) (batch : List Commit) → AllByRecursion (IsKept Two live shape image) batch → AllByRecursion (λ w. write_end w ≤ length (image (Grain live w.grain))) (all_writes batch)
kept_within live shape image [] kept = tt
kept_within live shape image (c ∷ batch) kept =
    both_parts (λ (w : Written). write_end w ≤ length (image (Grain live w.grain))) c.logged.writes (all_writes batch) (all_within live shape image c.logged.unit c.logged.writes c.states kept.0.whole) (kept_within live shape image batch kept.1)

-- ---- place by place

pub raised_same : (e f : GrainId → ℕ) (ws : List Written) → ((g : GrainId) → e g ≡ f g) → (g : GrainId) → raised_ends e ws g ≡ raised_ends f ws g
raised_same e f [] same g = same g
raised_same e f (w ∷ ws) same g =
    raised_same (raised_end e w) (raised_end f w) ws (λ h. ap (λ (n : ℕ). if same_grain w.grain h then max n (write_end w) else n) (same h)) g

pub raised_append : (e : GrainId → ℕ) (xs ys : List Written) (g : GrainId) → raised_ends e (xs ++ ys) g ≡ raised_ends (raised_ends e xs) ys g
raised_append e [] ys g = refl
raised_append e (x ∷ xs) ys g = raised_append (raised_end e x) xs ys g

-- one place of those that are left
pub next_raised : (e f all : GrainId → ℕ) (ws : List Written) (i : ℕ) (d : Written) (g : GrainId) → i < length ws → ((h : GrainId) → f h ≡ raised_end e (get_or ws i d) h)
    → raised_ends e (drop i ws) g ≡ all g → raised_ends f (drop (i + 1) ws) g ≡ all g
next_raised e f all ws i d g low one so_far =
    raised_same f (raised_end e (get_or ws i d)) (drop (i + 1) ws) one g ∙ ap (λ (l : List Written). raised_ends e l g) (sym (drop_more ws i d low)) ∙ so_far

-- one record of those that are left
pub next_record : (e f all : GrainId → ℕ) (rs : List CommitRecord) (i : ℕ) (r : CommitRecord) (g : GrainId) → i < length rs → r ≡ get_or rs i r → ((h : GrainId) → f h ≡ raised_ends e r.writes h)
    → raised_ends e (flat_map (λ r. r.writes) (drop i rs)) g ≡ all g → raised_ends f (flat_map (λ r. r.writes) (drop (i + 1) rs)) g ≡ all g
next_record e f all rs i r g low is one so_far =
    let rest : drop i rs ≡ r ∷ drop (i + 1) rs = drop_more rs i r low ∙ ap (λ (x : CommitRecord). x ∷ drop (i + 1) rs) (sym is) in
    let left : List Written = flat_map (λ (r : CommitRecord). r.writes) (drop (i + 1) rs) in
    raised_same f (raised_ends e r.writes) left one g ∙ sym (raised_append e r.writes left g) ∙ ap (λ (l : List CommitRecord). raised_ends e (flat_map (λ r. r.writes) l) g) (sym rest) ∙ so_far

-- ends that fit
small_one : (b : Bool) (x y : ℕ) → x < 2 ^ 63 → y < 2 ^ 63 → (if b then max x y else x) < 2 ^ 63
small_one true x y low lower = omega (arith, low, lower)
small_one false x y low lower = low

pub raised_one-small : (ends : GrainId → ℕ) (w : Written) → write_end w < 2 ^ 63 → ((g : GrainId) → ends g < 2 ^ 63) → (g : GrainId) → raised_end ends w g < 2 ^ 63
raised_one-small ends w fits low g = small_one (same_grain w.grain g) (ends g) (write_end w) (low g) fits
