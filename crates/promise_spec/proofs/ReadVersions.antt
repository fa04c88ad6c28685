-- The versions that the entries of a log name, from what is read and back.
use Rattle.std.proofs.Common.{◌≡◌, inl, inr, ℕ, zero, suc, ◌+◌, ◌^◌, ◌<◌, ◌≤◌, nat_lt, Bool, true, false, if◌then◌else◌, Option, Some, None, List, [], ◌∷◌, length, map, filter, take, drop, Result, Ok, Err, refl, sym, ◌∙◌, ap, subst, arith, length-append, slice_get}
use Rattle.std.proofs.lemmas.Bool.{cond_both, ltb-false, ltb-true, lt-ltb, or_parts, and_parts, and_from}
use Rattle.std.proofs.lemmas.List.{take-take, take_at}
use Rattle.std.proofs.lemmas.Slice.Eq.{bytes_eq-Decides}
use Rattle.std.specs.Int.{w64, to_le_bytes, from_le_bytes}
use Rattle.std.specs.List.{AllByRecursion}
use Rattle.base_types.specs.declared.calls.GrainId.{GrainId}
use Rattle.base_types.specs.declared.calls.UnitNo.{UnitNo}
use Rattle.base_types.specs.declared.calls.Value.{Value}
use Rattle.base_types.specs.declared.shapes.Shape.{Shape}
use Rattle.base_types.specs.declared.stores.Version.{Version}
use Rattle.host_trait.specs.declared.channels.FileId.{FileId}
use Rattle.host_trait.specs.declared.channels.FileId.TheVariants.{Grain}
use Rattle.host_trait.specs.World.{Image}
use Rattle.field_codec.specs.declared.formats.Format.{Format}
use Rattle.field_codec.specs.Formats.{version_limit}
use Rattle.field_codec.specs.Spelling.{spelling_of_values, spelling_of_version}
use Rattle.field_codec.specs.Readers.{AreBytes}
use Rattle.field_codec.specs.Units.{may_be_unit}
use Rattle.field_codec.specs.declared.units.Numbers.TheVariants.{Logged}
use Rattle.field_codec.proofs.Counts.{wide64, AreBytes-cut}
use Rattle.field_codec.proofs.Readers.{past}
use Rattle.grain_log.specs.declared.faults.VersionFault.{VersionFault}
use Rattle.grain_log.specs.declared.faults.VersionFault.TheVariants.{Damaged}
use Rattle.grain_log.specs.Places.{IsVersionAt}
use Rattle.grain_log.specs.Reads.{fields_of, is_beyond, is_logged, text_in, version_at_place, GivesVersion}
use Rattle.grain_log.proofs.Versions.{found_when, only_at}
use Rattle.commit_log.specs.declared.records.Written.{Written}
use Rattle.commit_log.specs.Bodies.{IsRecordIn}
use Rattle.core_model.specs.CoreState.{Member}
use Rattle.core_model.specs.Tests.{is_before}
use Rattle.cell_model.specs.Units as cell
use Rattle.cell_model.proofs.Units.{same_grain-true, same_grain-is, filter-stays}
use Rattle.script_holding.specs.Holding.{same_grain}
use Rattle.program_file.specs.Succession.{shapes_in_turn}
use Rattle.promise_spec.specs.Programs.{Program, shape_in}
use Rattle.promise_spec.specs.Records.{ascending_with, ascending}
use Rattle.promise_spec.specs.Entries.{LogEntry, Recorded, Upgraded}
use Rattle.promise_spec.specs.Versions.{WriteStands, WritesStand}
use Rattle.promise_spec.specs.Blocks.{MayFollow, AreKept}
use Rattle.promise_spec.specs.Openings.{ReadEntry, ReadRecord, ReadUpgrade, Named, named_by, named_by_grain, is_owned, version_named, version_by_shape, version_numbered, missing_or, first_missing, state_of, programs_read, types_read, entries_logged}
use Rattle.promise_spec.proofs.Lists.{parts_of, both_parts, each_of, all_of, in_flat, all_flat}

-- ---- grains in ascending order

with_by : (g x : GrainId) (h : GrainId) (hs : List GrainId) (same before : Bool) → same_grain g h ≡ same → (Member x (g ∷ hs) → Member x (ascending_with g hs)) → Member x (g ∷ h ∷ hs)
    → Member x (if same then h ∷ hs else (if before then g ∷ h ∷ hs else h ∷ ascending_with g hs))
with_by g x h hs true before is on (inl here) = inl (here ∙ same_grain-true g h is)
with_by g x h hs true before is on (inr there) = there
with_by g x h hs false true is on there = there
with_by g x h hs false false is on (inl here) = inr (on (inl here))
with_by g x h hs false false is on (inr (inl here)) = inl here
with_by g x h hs false false is on (inr (inr there)) = inr (on (inr there))

-- one more grain leaves out none
in_with : (g x : GrainId) (hs : List GrainId) → Member x (g ∷ hs) → Member x (ascending_with g hs)
in_with g x [] there = there
in_with g x (h ∷ hs) there = with_by g x h hs (same_grain g h) (is_before g h) refl (λ m. in_with g x hs m) there

in_ascending : (x : GrainId) (gs : List GrainId) → Member x gs → Member x (ascending gs)
in_ascending x [] none = absurd none
in_ascending x (g ∷ gs) (inl here) = in_with g x (ascending gs) (inl here)
in_ascending x (g ∷ gs) (inr there) = in_with g x (ascending gs) (inr (in_ascending x gs there))

-- ---- named versions in the order of their grains

in_map : {A B : Type 0} (f : A → B) (x : A) (xs : List A) → Member x xs → Member (f x) (map f xs)
in_map f x [] none = absurd none
in_map f x (y ∷ xs) (inl here) = inl (ap f here)
in_map f x (y ∷ xs) (inr there) = inr (in_map f x xs there)

all_kept : {A : Type 0} (P : A → Type 0) (test : A → Bool) (xs : List A) → AllByRecursion P xs → AllByRecursion P (filter test xs)
all_kept P test [] all = tt
all_kept P test (x ∷ xs) all = let more = all_kept P test xs all.1 in cond_both (test x) (x ∷ filter test xs) (filter test xs) (AllByRecursion P) (λ is. (all.0, more)) (λ other. more)

-- by grains there are the same versions
in_order : (n : Named) (named : List Named) → Member n named → Member n (named_by_grain named)
in_order n named there =
    let grain : Member n.written.grain (ascending (map (λ (m : Named). m.written.grain) named)) = in_ascending n.written.grain (map (λ (m : Named). m.written.grain) named) (in_map (λ (m : Named). m.written.grain) n named there) in
    let kept : Member n (filter (λ (m : Named). cell.same_grain m.written.grain n.written.grain) named) =
    filter-stays (λ (m : Named). cell.same_grain m.written.grain n.written.grain) named n there (same_grain-is n.written.grain n.written.grain refl) in
    in_flat (λ (g : GrainId). filter (λ (m : Named). cell.same_grain m.written.grain g) named) n.written.grain n (ascending (map (λ (m : Named). m.written.grain) named)) grain kept

pub all_in_order : (P : Named → Type 0) (named : List Named) → AllByRecursion P named → AllByRecursion P (named_by_grain named)
all_in_order P named all =
    all_flat P (λ (g : GrainId). filter (λ (m : Named). cell.same_grain m.written.grain g) named) (ascending (map (λ (m : Named). m.written.grain) named)) (λ g. all_kept P (λ (m : Named). cell.same_grain m.written.grain g) named all)

pub all_of_order : (P : Named → Type 0) (named : List Named) → AllByRecursion P (named_by_grain named) → AllByRecursion P named
all_of_order P named all = all_of P named (λ n there. each_of P (named_by_grain named) n all (in_order n named there))

-- ---- one version

-- a test that passed
passed : {A D : Type 0} (b : Bool) (d : D) (r : Result A D) (y : A) → (if b then r else Err d) ≡ Ok y → (b ≡ true) × (r ≡ Ok y)
passed true d r y e = (refl, e)
passed false d r y e = absurd cc

-- what is found, as the answer of a call that neither failed nor ran out of memory
as_answer : Result Version ℕ → Result Version VersionFault
as_answer (Ok v) = Ok v
as_answer (Err place) = Err (Damaged place)

answer_gives : (r : Result Version ℕ) → GivesVersion (as_answer r) r
unfolding as_answer
answer_gives (Ok v) = refl
answer_gives (Err place) = refl

gives_answer : (r : Result Version ℕ) (v : Version) → GivesVersion (as_answer r) (Ok v) → r ≡ Ok v
unfolding as_answer
gives_answer (Ok w) v e = sym e
gives_answer (Err place) v e = absurd cc

-- the version's spelling begins with its unit's number
first_eight : (len : ℕ) (file : List ℕ) (v : Version) → take len file ≡ spelling_of_version v → len ≡ length (spelling_of_version v) → take 8 file ≡ to_le_bytes w64 v.unit.0
first_eight len file v here size =
    let low : 8 ≤ len = omega (arith, size, length-append (to_le_bytes w64 v.unit.0) (spelling_of_values v.state), wide64.len v.unit.0) in
    sym (take-take 8 len file low) ∙ ap (λ (l : List ℕ). take 8 l) here ∙ take_at (to_le_bytes w64 v.unit.0) (spelling_of_values v.state) 8 (wide64.len v.unit.0)

-- two numbers of units with one spelling are one
units_same : (m n : ℕ) → m < 2 ^ 64 → n < 2 ^ 64 → to_le_bytes w64 m ≡ to_le_bytes w64 n → m ≡ n
units_same m n low also e = sym (wide64.again m low) ∙ ap (from_le_bytes w64) e ∙ wide64.again n also

-- the version that is named is there, by the shape of its program
abbrev pub IsThere : Format → ℕ → List Shape → Image → Named → Type 0
IsThere format live shapes image n = (v : Version) × (version_numbered live format shapes image n ≡ Ok v)

module _ (format : Format) (live : ℕ) (shape : Shape) (image : Image) where
  module _ (w : Written) where
    near_by : (o : Option ℕ) (v : Version) → version_at_place format o w.place (image (Grain live w.grain)) ≡ Ok v → w.place.offset < 2 ^ 63
    near_by None v e = absurd cc
    near_by (Some count) v e =
        let one = past (is_beyond format w.place) w.place.offset (text_in format count w.place (image (Grain live w.grain))) v e in
        let low : w.place.offset ≤ 9223372036854775807 = ltb-false 9223372036854775807 w.place.offset (or_parts (nat_lt 9223372036854775807 w.place.offset) (nat_lt (version_limit format) w.place.len) one.0).0 in
        omega (arith, low)

    -- a version that is read at its place stands there, with its own unit
    place_stands : AreBytes (image (Grain live w.grain)) → (v : Version) → version_at_place format (fields_of (slice_get shape.types w.grain.kind)) w.place (image (Grain live w.grain)) ≡ Ok v
        → WriteStands format live shape image v.unit w v.state × (take 8 (drop w.place.offset (image (Grain live w.grain))) ≡ to_le_bytes w64 v.unit.0) × (v.unit.0 < 2 ^ 64)
    place_stands are v e =
        let is = found_when (Unit {0}) format (fields_of (slice_get shape.types w.grain.kind)) w.place (image (Grain live w.grain)) (Ok v) (λ told. e) (λ told. AreBytes-cut w.place.len w.place.offset (image (Grain live w.grain)) are) tt in
        let first : take 8 (drop w.place.offset (image (Grain live w.grain))) ≡ to_le_bytes w64 v.unit.0 = first_eight w.place.len (drop w.place.offset (image (Grain live w.grain))) v is.2.here (sym is.2.version_is.len) in
        let count : is.0 ≡ length v.state = sym is.2.version_is.count in
        let there : IsVersionAt format (length v.state) w.place (image (Grain live w.grain)) v = subst (λ (n : ℕ). IsVersionAt format n w.place (image (Grain live w.grain)) v) count is.2 in (
          record {
            near = near_by (fields_of (slice_get shape.types w.grain.kind)) v e;
            fields = is.1 ∙ ap (λ (n : ℕ). Some n) count;
            version = there;
          },
          first,
          is.2.version_is.fits.unit,
        )

    -- a version that stands there is read at its place
    place_stood : (unit : UnitNo) (state : List Value) → WriteStands format live shape image unit w state
        → version_at_place format (fields_of (slice_get shape.types w.grain.kind)) w.place (image (Grain live w.grain)) ≡ Ok (record { unit = unit; state = state })
    place_stood unit state s =
        let v : Version = record { unit = unit; state = state } in
        let o : Option ℕ = fields_of (slice_get shape.types w.grain.kind) in
        let found : Result Version ℕ = version_at_place format o w.place (image (Grain live w.grain)) in
        gives_answer found v (only_at format o w.place (image (Grain live w.grain)) (as_answer found) (answer_gives found) (length state) v s.fields s.near s.version)

    -- and begins with its unit's number
    unit_stood : (unit : UnitNo) (state : List Value) → WriteStands format live shape image unit w state → take 8 (drop w.place.offset (image (Grain live w.grain))) ≡ to_le_bytes w64 unit.0
    unit_stood unit state s =
        first_eight w.place.len (drop w.place.offset (image (Grain live w.grain))) (record { unit = unit; state = state }) s.version.here (sym s.version.version_is.len)

  module _ (unit : UnitNo) (w : Written) where
    abbrev pub named_as : Named
    named_as = record { unit = Some unit; program = 0; written = w }

    -- a version that is read stands there
    pub stands : AreBytes (image (Grain live w.grain)) → unit.0 < 2 ^ 64 → (v : Version) → version_named live format shape image named_as ≡ Ok v → WriteStands format live shape image unit w v.state
    stands are low v e =
        let t = passed (is_owned unit w.place (image (Grain live w.grain))) w.place.offset (version_at_place format (fields_of (slice_get shape.types w.grain.kind)) w.place (image (Grain live w.grain))) v e in
        let is = place_stands w are v t.1 in
        let own : take 8 (drop w.place.offset (image (Grain live w.grain))) ≡ to_le_bytes w64 unit.0 =
        (bytes_eq-Decides (take 8 (drop w.place.offset (image (Grain live w.grain)))) (to_le_bytes w64 unit.0)).0 t.0 in
        let number : v.unit.0 ≡ unit.0 = units_same v.unit.0 unit.0 is.2 low (sym is.1 ∙ own) in
        subst (λ (n : ℕ). WriteStands format live shape image (record { 0 = n }) w v.state) number is.0

    -- a version that stands there is read
    pub stood : (state : List Value) → WriteStands format live shape image unit w state → version_named live format shape image named_as ≡ Ok (record { unit = unit; state = state })
    stood state s =
        let found : Result Version ℕ = version_at_place format (fields_of (slice_get shape.types w.grain.kind)) w.place (image (Grain live w.grain)) in
        let own : is_owned unit w.place (image (Grain live w.grain)) ≡ true =
        (bytes_eq-Decides (take 8 (drop w.place.offset (image (Grain live w.grain)))) (to_le_bytes w64 unit.0)).1 (unit_stood w unit state s) in
        ap (λ (b : Bool). if b then found else Err w.place.offset) own ∙ place_stood w unit state s

  -- ---- the versions of a checkpoint

  module _ (w : Written) where
    abbrev pub saved_as : Named
    saved_as = record { unit = None; program = 0; written = w }

    -- a version that is read there is a unit's that may be logged, and stands
    pub saved_stands : AreBytes (image (Grain live w.grain)) → (v : Version) → version_named live format shape image saved_as ≡ Ok v
        → ((0 < v.unit.0) × (v.unit.0 < 2 ^ 63)) × WriteStands format live shape image v.unit w v.state
    saved_stands are v e =
        let t = passed (is_logged w.place (image (Grain live w.grain))) w.place.offset (version_at_place format (fields_of (slice_get shape.types w.grain.kind)) w.place (image (Grain live w.grain))) v e in
        let is = place_stands w are v t.1 in
        let number : from_le_bytes w64 (take 8 (drop w.place.offset (image (Grain live w.grain)))) ≡ v.unit.0 = ap (from_le_bytes w64) is.1 ∙ wide64.again v.unit.0 is.2 in
        let may : may_be_unit Logged v.unit.0 ≡ true = sym (ap (may_be_unit Logged) number) ∙ t.0 in
        let both = and_parts (nat_lt 0 v.unit.0) (nat_lt v.unit.0 9223372036854775808) may in
        let above : 0 < v.unit.0 = ltb-true 0 v.unit.0 both.0 in
        let below : v.unit.0 < 9223372036854775808 = ltb-true v.unit.0 9223372036854775808 both.1 in
        ((above, omega (arith, below)), is.0)

    -- a version that stands there is read
    pub saved_stood : (unit : UnitNo) (state : List Value) → 0 < unit.0 → unit.0 < 2 ^ 63 → WriteStands format live shape image unit w state → version_named live format shape image saved_as ≡ Ok (record { unit = unit; state = state })
    saved_stood unit state above below s =
        let found : Result Version ℕ = version_at_place format (fields_of (slice_get shape.types w.grain.kind)) w.place (image (Grain live w.grain)) in
        let number : from_le_bytes w64 (take 8 (drop w.place.offset (image (Grain live w.grain)))) ≡ unit.0 = ap (from_le_bytes w64) (unit_stood w unit state s) ∙ wide64.again unit.0 (omega (arith, below)) in
        let may : may_be_unit Logged unit.0 ≡ true = and_from (nat_lt 0 unit.0) (nat_lt unit.0 9223372036854775808) (lt-ltb 0 unit.0 above) (lt-ltb unit.0 9223372036854775808 (omega (arith, below))) in
        let own : is_logged w.place (image (Grain live w.grain)) ≡ true = ap (may_be_unit Logged) number ∙ may in
        ap (λ (b : Bool). if b then found else Err w.place.offset) own ∙ place_stood w unit state s

  -- ---- the versions of a record

  -- states of versions that stand are read
  all_states : (unit : UnitNo) (ws : List Written) (states : List (List Value)) → WritesStand format live shape image unit ws states → map (λ w. state_of (version_named live format shape image (record { unit = Some unit; program = 0; written = w }))) ws ≡ states
  all_states unit [] [] all = refl
  all_states unit [] (state ∷ states) all = absurd all
  all_states unit (w ∷ ws) [] all = absurd all
  all_states unit (w ∷ ws) (state ∷ states) all =
      let one : state_of (version_named live format shape image (record { unit = Some unit; program = 0; written = w })) ≡ state = ap state_of (stood unit w state all.0) in
      let more = all_states unit ws states all.1 in
      λ i. one i ∷ more i

-- ---- by the number of the program of their time

module _ (format : Format) (live : ℕ) (shapes : List Shape) (image : Image) (number : ℕ) (shape : Shape) (at : slice_get shapes number ≡ Some shape) where
  -- the shape is taken by its number
  pub by_number : (unit : Option UnitNo) (w : Written)
      → version_numbered live format shapes image (record { unit = unit; program = number; written = w }) ≡ version_named live format shape image (record { unit = unit; program = 0; written = w })
  by_number unit w = ap (λ (o : Option Shape). version_by_shape live format o image (record { unit = unit; program = number; written = w })) at

  -- versions that are there stand, with the states that are read
  all_stand : (unit : UnitNo) (ws : List Written) → ((file : FileId) → AreBytes (image file)) → unit.0 < 2 ^ 64 → AllByRecursion (IsThere format live shapes image) (map (λ w. record { unit = Some unit; program = number; written = w }) ws)
      → WritesStand format live shape image unit ws (map (λ w. state_of (version_named live format shape image (record { unit = Some unit; program = 0; written = w }))) ws)
  all_stand unit [] are low all = tt
  all_stand unit (w ∷ ws) are low all =
      let read : version_named live format shape image (record { unit = Some unit; program = 0; written = w }) ≡ Ok all.0.0 = sym (by_number (Some unit) w) ∙ all.0.1 in
      let state : all.0.0.state ≡ state_of (version_named live format shape image (record { unit = Some unit; program = 0; written = w })) = ap state_of (sym read) in
      (subst (WriteStands format live shape image unit w) state (stands format live shape image unit w (are (Grain live w.grain)) low all.0.0 read), all_stand unit ws are low all.1)

  -- versions that stand are there
  all_there : (unit : UnitNo) (ws : List Written) (states : List (List Value)) → WritesStand format live shape image unit ws states
      → AllByRecursion (IsThere format live shapes image) (map (λ w. record { unit = Some unit; program = number; written = w }) ws)
  all_there unit [] states all = tt
  all_there unit (w ∷ ws) [] all = absurd all
  all_there unit (w ∷ ws) (state ∷ states) all =
      ((record { unit = unit; state = state }, by_number (Some unit) w ∙ stood format live shape image unit w state all.0), all_there unit ws states all.1)

-- ---- the versions of a log

-- an item of a list, and what stands behind it
pub item_at : {A : Type 0} (n : ℕ) (xs : List A) (x : A) (rest : List A) → drop n xs ≡ x ∷ rest → (slice_get xs n ≡ Some x) × (drop (n + 1) xs ≡ rest)
item_at zero [] x rest e = absurd cc
item_at zero (a ∷ xs) x rest e = (cc, cc)
item_at (suc n) [] x rest e = absurd cc
item_at (suc n) (a ∷ xs) x rest e =
    let t = item_at n xs x rest e in
    let one : suc n + 1 ≡ suc (n + 1) = omega arith in
    (t.0, ap (λ (m : ℕ). drop m (a ∷ xs)) one ∙ t.1)

-- an entry as it is read
abbrev pub entry_seen : LogEntry → ReadEntry
entry_seen (Recorded c) = ReadRecord c.logged
entry_seen (Upgraded q) = ReadUpgrade q

-- Each record is one of the program in force, and each program may follow the one before it.
abbrev pub AreFit : Format → Program → List ReadEntry → Type 0
AreFit format p [] = Unit {0}
AreFit format p (ReadRecord r ∷ later) = IsRecordIn format Logged (shape_in p) r × AreFit format p later
AreFit format p (ReadUpgrade q ∷ later) = MayFollow p q × AreFit format q later

-- entries that are kept are so
pub fit_of : (format : Format) (live : ℕ) (image : Image) (p : Program) (entries : List LogEntry) → AreKept format live image p entries → AreFit format p (map entry_seen entries)
fit_of format live image p [] all = tt
fit_of format live image p (Recorded c ∷ entries) all = (all.0.fits, fit_of format live image p entries all.1)
fit_of format live image p (Upgraded q ∷ entries) all = (all.0, fit_of format live image q entries all.1)

-- and are read with their states
pub same_entries : (format : Format) (live : ℕ) (image : Image) (p : Program) (entries : List LogEntry) → AreKept format live image p entries → entries_logged format live p image (map entry_seen entries) ≡ entries
same_entries format live image p [] kept = refl
same_entries format live image p (Recorded c ∷ entries) kept =
    let states = all_states format live (shape_in p) image c.logged.unit c.logged.writes c.states kept.0.whole in
    let more = same_entries format live image p entries kept.1 in
    λ i. Recorded (record { logged = c.logged; states = states i }) ∷ more i
same_entries format live image p (Upgraded q ∷ entries) kept = ap (λ (l : List LogEntry). Upgraded q ∷ l) (same_entries format live image q entries kept.1)

-- the shapes of the programs that come into force among entries
abbrev pub later_shapes : List ReadEntry → List Shape
later_shapes entries = shapes_in_turn (map (λ (q : Program). q.types) (programs_read entries))

module _ (format : Format) (live : ℕ) (shapes : List Shape) (image : Image) where
  -- from this number on the shapes are those of this program and of those that come into force among these entries
  abbrev pub AreShapes : ℕ → Program → List ReadEntry → Type 0
  AreShapes number p entries = drop number shapes ≡ shapes_in_turn (types_read p entries)

  -- entries whose versions are there are kept
  pub all_are_kept : ((file : FileId) → AreBytes (image file)) → (number : ℕ) (p : Program) (entries : List ReadEntry) → AreShapes number p entries → AreFit format p entries
      → AllByRecursion (IsThere format live shapes image) (named_by number entries) → AreKept format live image p (entries_logged format live p image entries)
  all_are_kept are number p [] goes fit there = tt
  all_are_kept are number p (ReadRecord r ∷ entries) goes fit there =
      let at = item_at number shapes (shape_in p) (later_shapes entries) goes in
      let t = parts_of (IsThere format live shapes image) (map (λ w. record { unit = Some r.unit; program = number; written = w }) r.writes) (named_by number entries) there in
      (record { fits = fit.0; whole = all_stand format live shapes image number (shape_in p) at.0 r.unit r.writes are fit.0.fits.unit t.0 }, all_are_kept are number p entries goes fit.1 t.1)
  all_are_kept are number p (ReadUpgrade q ∷ entries) goes fit there =
      let at = item_at number shapes (shape_in p) (later_shapes (ReadUpgrade q ∷ entries)) goes in
      (fit.0, all_are_kept are (number + 1) q entries at.1 fit.1 there)

  -- the versions of entries that are kept are there
  pub all_are_there : (number : ℕ) (p : Program) (entries : List LogEntry) → AreShapes number p (map entry_seen entries) → AreKept format live image p entries
      → AllByRecursion (IsThere format live shapes image) (named_by number (map entry_seen entries))
  all_are_there number p [] goes kept = tt
  all_are_there number p (Recorded c ∷ entries) goes kept =
      let at = item_at number shapes (shape_in p) (later_shapes (map entry_seen entries)) goes in
      both_parts (IsThere format live shapes image) (map (λ w. record { unit = Some c.logged.unit; program = number; written = w }) c.logged.writes) (named_by number (map entry_seen entries))
      (all_there format live shapes image number (shape_in p) at.0 c.logged.unit c.logged.writes c.states kept.0.whole) (all_are_there number p entries goes kept.1)
  all_are_there number p (Upgraded q ∷ entries) goes kept =
      let at = item_at number shapes (shape_in p) (later_shapes (ReadUpgrade q ∷ map entry_seen entries)) goes in
      all_are_there (number + 1) q entries at.1 kept.1

  -- ---- what is missing

  none_by : (n : Named) (found : Result Version ℕ) (later : Option (FileId × ℕ)) → missing_or live n.written.grain found later ≡ None → ((v : Version) × (found ≡ Ok v)) × (later ≡ None)
  none_by n (Ok v) later e = ((v, refl), e)
  none_by n (Err place) later e = absurd cc

  pub none_missing : (named : List Named) → first_missing live format shapes image named ≡ None → AllByRecursion (IsThere format live shapes image) named
  none_missing [] e = tt
  none_missing (n ∷ named) e =
      let t = none_by n (version_numbered live format shapes image n) (first_missing live format shapes image named) e in
      (t.0, none_missing named t.1)

  pub missing_none : (named : List Named) → AllByRecursion (IsThere format live shapes image) named → first_missing live format shapes image named ≡ None
  missing_none [] all = refl
  missing_none (n ∷ named) all = ap (λ (r : Result Version ℕ). missing_or live n.written.grain r (first_missing live format shapes image named)) all.0.1 ∙ missing_none named all.1
