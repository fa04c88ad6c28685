-- What stands at the places that a writer keeps stands there after each of its calls.
use Rattle.std.proofs.Common.{◌≡◌, ◌≢◌, inl, inr, ℕ, ◌+◌, ◌-◌, ◌<◌, ◌≤◌, ◌^◌, nat_lt, Bool, true, false, if◌then◌else◌, Option, Some, None, List, [], ◌∷◌, ◌++◌, length, take, drop, Result, Ok, Err, refl, sym, ◌∙◌, ap, subst, arith}
use Rattle.std.specs.Prelude.{slice_get}
use Rattle.std.specs.List.{flat_map, AllByRecursion}
use Rattle.std.proofs.lemmas.Bool.{cases_Bool, ltb-false, le-ltb}
use Rattle.base_types.specs.Places.{placed_in}
use Rattle.base_types.specs.declared.calls.GrainId.{GrainId}
use Rattle.base_types.specs.declared.calls.UnitNo.{UnitNo}
use Rattle.base_types.specs.declared.places.Placed.{Placed}
use Rattle.base_types.specs.declared.shapes.Shape.{Shape}
use Rattle.base_types.specs.declared.stores.Place.{Place}
use Rattle.base_types.specs.declared.stores.Version.{Version}
use Rattle.host_trait.specs.Files.{same_grain}
use Rattle.host_trait.specs.declared.channels.FileId.TheVariants.{Manager, Grain}
use Rattle.host_trait.specs.Disk.{FileState, MayLeave, Tears, settled, overlaid}
use Rattle.host_trait.specs.World.{World, Disk}
use Rattle.host_trait.specs.Runs.{RunsOnFile}
use Rattle.host_trait.proofs.Names.{cases_file, same_grain-is}
use Rattle.field_codec.proofs.Readers.{past}
use Rattle.field_codec.specs.declared.formats.Format.TheVariants.{Two}
use Rattle.field_codec.specs.Spelling.{VersionFits}
use Rattle.grain_log.specs.Places.{spelling_of_versions, IsVersionAt, WroteVersions}
use Rattle.grain_log.specs.Reads.{fields_of, is_beyond, in_file, version_of as version_read, text_in, version_at_place}
use Rattle.grain_log.specs.declared.faults.VersionFault.TheVariants.{Damaged}
use Rattle.grain_log.proofs.Versions.{only_at}
use Rattle.commit_log.specs.declared.records.CommitRecord.{CommitRecord}
use Rattle.commit_log.specs.declared.records.Written.{Written}
use Rattle.batch_disk.specs.ImagesAtRest.{IsBelow, Voted, StandsIn, NotAmong, AreOfType, voted_from, raised_ends}
use Rattle.script_tree.specs.Programs.{ProgramTree}
use Rattle.program_file.specs.Succession.{shapes_in_turn}
use Rattle.program_file.proofs.ProgramNumbers.{newest_last, meant_newest}
use Rattle.program_file.specs.ProgramsInTurn.{programs_in, newest_in}
use Rattle.program_file.specs.declared.programs_in_turn.ProgramsInTurn.{ProgramsInTurn}
use Rattle.batch_disk.specs.Writers.{file_end, kept_of, voted_of, programs_of, newest_number, HasSameEnds}
use Rattle.batch_disk.specs.KeptPlaces.{version_of, StandsAt, VoteStands, StandsBy, PlaceStands, PlacesStand}
use Rattle.batch_disk.specs.Records.{IsOwnPlace}
use Rattle.batch_disk.specs.MovedPlaces.{placed_new, version_among, moved_to, moved_by_write, moved_by_writes, moved_by_records}
use Rattle.batch_disk.specs.declared.writer.BatchWriter.{BatchWriter}
use Rattle.batch_disk.proofs.Lists.{each_of, each_leads, each_both, both_parts, each_list}
use Rattle.batch_disk.proofs.Ends.{raised_up, raised_each}
use Rattle.batch_disk.proofs.ImagePlaces.{below_same}
use Rattle.batch_disk.proofs.Votes.{same_in, stand_named}
use Rattle.batch_disk.proofs.WriterState.{each_voted}
use Rattle.batch_disk.proofs.MovedPlaces.{version_found}

-- ---- one file

-- what is read at a place below an offset is read there still, where the bytes up to the offset are the same
pub read_still : (o : Option ℕ) (place : Place) (at : ℕ) (old new : List ℕ) (v : Version) → place.offset + place.len ≤ at → take at new ≡ take at old → length old ≤ length new
    → version_at_place Two o place old ≡ Ok v → version_at_place Two o place new ≡ Ok v
read_still None place at old new v below same long is = absurd cc
read_still (Some fields) place at old new v below same long is =
    let one = past (is_beyond Two place) place.offset (text_in Two fields place old) v is in
    let two = past (nat_lt (length old - place.offset) place.len) place.offset (in_file place.offset (version_read Two fields (take place.len (drop place.offset old)))) v one.1 in
    let within : place.len ≤ length old - place.offset = ltb-false _ _ two.0 in
    let there : nat_lt (length new - place.offset) place.len ≡ false = le-ltb _ _ (omega (arith, within, long)) in
    let bytes : take place.len (drop place.offset new) ≡ take place.len (drop place.offset old) = below_same old new place.offset place.len at same below in
    let text : in_file place.offset (version_read Two fields (take place.len (drop place.offset new))) ≡ Ok v = ap (λ (l : List ℕ). in_file place.offset (version_read Two fields l)) bytes ∙ two.1 in
    ap (λ (b : Bool). if b then Err place.offset else text_in Two fields place new) one.0
    ∙ ap (λ (b : Bool). if b then Err place.offset else in_file place.offset (version_read Two fields (take place.len (drop place.offset new)))) there
    ∙ text

-- a version that stands at a place is read there
read_is : (o : Option ℕ) (place : Place) (file : List ℕ) (count : ℕ) (v : Version) → o ≡ Some count → place.offset < 2 ^ 63 → IsVersionAt Two count place file v
    → (r : Result Version ℕ) → version_at_place Two o place file ≡ r → version_at_place Two o place file ≡ Ok v
read_is o place file count v some low at (Ok w) is = is ∙ sym (only_at Two o place file (Ok w) is count v some low at)
read_is o place file count v some low at (Err e) is = absurd cc (only_at Two o place file (Err (Damaged e)) is count v some low at)

-- ---- one place

-- where it stands there by each shape
by_leads : (live : ℕ) (o : Option Shape) (d e : Disk) (g : GrainId) (place : Place) (v : Version) → ((shape : Shape) → StandsAt live shape d g place v → StandsAt live shape e g place v)
    → StandsBy live o d g place v → StandsBy live o e g place v
by_leads live None d e g place v lead st = st
by_leads live (Some shape) d e g place v lead st = lead shape st

place_leads : (live : ℕ) (programs : List ProgramTree) (d e : Disk) (low high : GrainId → ℕ) (g : GrainId)
    → ((shape : Shape) (p : Placed) (v : Version) → p.place.offset + p.place.len ≤ low g → StandsAt live shape d g p.place v → StandsAt live shape e g p.place v) → low g ≤ high g
    → (o : Option Placed) → PlaceStands live programs d low g o → PlaceStands live programs e high g o
place_leads live programs d e low high g lead up None st = tt
place_leads live programs d e low high g lead up (Some p) st = record {
  version = st.version;
  stands = by_leads live (slice_get (shapes_in_turn programs) p.program) d e g p.place st.version (λ shape here. lead shape p st.version st.below here) st.stands;
  known = st.known;
  below = omega (arith, st.below, up);
}

-- the programs are the same
same_programs : (a b : BatchWriter) → b.programs ≡ a.programs → programs_of a ≡ programs_of b
same_programs a b same = ap programs_in (sym same)

shape_stays : (a b : BatchWriter) (shape : Shape) → b.programs ≡ a.programs → slice_get (shapes_in_turn (programs_of a)) (newest_number a) ≡ Some shape → slice_get (shapes_in_turn (programs_of b)) (newest_number b) ≡ Some shape
shape_stays a b shape same is = ap (λ (k : ProgramsInTurn). slice_get (shapes_in_turn (programs_in k)) (newest_in k)) same ∙ is

module _ (live : ℕ) where
  -- what a vote wrote is read where it stands
  pub vote_read : (shape : Shape) (disk : Disk) (v : Voted) → StandsIn live shape (λ f. (disk f).seen) v → VoteStands live shape disk v
  vote_read shape disk v st =
      read_is (fields_of (slice_get shape.types v.write.grain.kind)) v.write.place (disk (Grain live v.write.grain)).seen (length v.state) (version_of v) st.fields st.near st.version
      (version_at_place Two (fields_of (slice_get shape.types v.write.grain.kind)) v.write.place (disk (Grain live v.write.grain)).seen) refl

  -- ---- a vote

  module _ (grain : GrainId) (at size most : ℕ) (old new : World) (run : RunsOnFile (Grain live grain) (Tears at size) most old new) where
    -- another grain's file is as it was
    stands_apart : (shape : Shape) (g : GrainId) (place : Place) (v : Version) → g ≢ grain → StandsAt live shape old.disk g place v → StandsAt live shape new.disk g place v
    stands_apart shape g place v apart st =
        subst (λ (s : FileState). version_at_place Two (fields_of (slice_get shape.types g.kind)) place s.seen ≡ Ok v) (sym (run.now.others (Grain live g) (λ e. apart (same_in live g grain e)))) st

    -- what ends below is as it was
    stands_below : (shape : Shape) (g : GrainId) (place : Place) (v : Version) (end : ℕ) → (g ≡ grain → end ≡ at) → place.offset + place.len ≤ end → StandsAt live shape old.disk g place v → StandsAt live shape new.disk g place v
    stands_below shape g place v end ends below st = elim (cases_file (Grain live g) (Grain live grain)) [
      | inl same ↦
          let is : g ≡ grain = same_in live g grain same in
          let moved : StandsAt live shape old.disk grain place v = subst (λ (h : GrainId). StandsAt live shape old.disk h place v) is st in
          let low : place.offset + place.len ≤ at = subst (λ (n : ℕ). place.offset + place.len ≤ n) (ends is) below in
          subst (λ (h : GrainId). StandsAt live shape new.disk h place v) (sym is)
          (read_still (fields_of (slice_get shape.types grain.kind)) place at (old.disk (Grain live grain)).seen (new.disk (Grain live grain)).seen v low run.seen.before run.seen.no_shorter moved)
      | inr apart ↦ stands_apart shape g place v (λ is. apart (ap (Grain live) is)) st
    ]

    pub places_with : (shape : Shape) (a b : BatchWriter) (batch : ℕ) (more : List Voted) → file_end a grain ≡ at → HasSameEnds a b → kept_of b ≡ voted_of batch a ++ more → NotAmong grain (voted_of batch a)
        → AllByRecursion (VoteStands live shape new.disk) more → PlacesStand live shape a old.disk → PlacesStand live shape b new.disk
    places_with shape a b batch more end same kept fresh stand st = record {
      shape_is = shape_stays a b shape same.programs st.shape_is;
      placed = λ g. subst (λ (ts : List ProgramTree). PlaceStands live ts new.disk (file_end b) g (placed_in b.places g)) (same_programs a b same.programs)
          (subst (PlaceStands live (programs_of a) new.disk (file_end b) g) (sym (same.places g))
          (place_leads live (programs_of a) old.disk new.disk (file_end a) (file_end b) g
          (λ s p v below here. stands_below s g p.place v (file_end a g) (λ is. ap (file_end a) is ∙ end) below here) (omega (arith, same.ends g))
          (placed_in a.places g) (st.placed g)));
      kept = subst (AllByRecursion (VoteStands live shape new.disk)) (sym kept)
          (both_parts (VoteStands live shape new.disk) (voted_of batch a) more
          (each_both (λ (v : Voted). v.write.grain ≢ grain) (VoteStands live shape old.disk) (VoteStands live shape new.disk) (λ v apart here. stands_apart shape v.write.grain v.write.place (version_of v) apart here) (voted_of batch a) fresh
          (each_voted (VoteStands live shape old.disk) a batch st.kept)) stand);
    }

  -- what a vote of yes wrote
  pub voted_stands : (shape : Shape) (grain : GrainId) (at : ℕ) (vs : List Version) (old new : World) → WroteVersions (Grain live grain) at vs old new → AreOfType shape grain vs → AllByRecursion (VersionFits Two) vs
      → at + length (spelling_of_versions vs) < 2 ^ 63 → AllByRecursion (VoteStands live shape new.disk) (voted_from grain at vs)
  voted_stands shape grain at vs old new wrote typed fits low =
      let file : List ℕ = overlaid (old.disk (Grain live grain)).seen at (spelling_of_versions vs) in
      let left : MayLeave (settled file) file = record { no_shorter = omega arith; no_longer = omega arith; same = λ i low there. refl } in
      let now : MayLeave (new.disk (Grain live grain)) (new.disk (Grain live grain)).seen = subst (λ (s : FileState). MayLeave s s.seen) (sym wrote.there) left in
      each_leads (StandsIn live shape (λ f. (new.disk f).seen)) (VoteStands live shape new.disk) (vote_read shape new.disk) (voted_from grain at vs)
      (stand_named live shape (λ f. (new.disk f).seen) grain at vs (wrote.stand (new.disk (Grain live grain)).seen now) typed fits low)

  -- ---- a seal

  -- once these records count
  module _ (programs : List ProgramTree) (shape : Shape) (n : ℕ) (last : n + 1 ≡ length programs) (is_shape : slice_get (shapes_in_turn programs) n ≡ Some shape) (disk : Disk) (ends : GrainId → ℕ) (kept : List Voted) (each : AllByRecursion (VoteStands live shape disk) kept) where
    one_stands : (u : UnitNo) (w : Written) (g : GrainId) (old : Option Placed) → IsOwnPlace kept u w → IsBelow ends w → PlaceStands live programs disk ends g old
        → PlaceStands live programs disk ends g (moved_by_write n kept u w.grain g old)
    one_stands u w g old own below st = elim (cases_Bool (same_grain w.grain g)) [
      | inl this ↦
          let f = version_found u w.grain kept w.place own in
          let grain : w.grain ≡ g = same_grain-is w.grain g this in
          let is : moved_by_write n kept u w.grain g old ≡ Some (placed_new n f.it.write.place (version_of f.it)) =
          ap (λ (b : Bool). if b then moved_to n (version_among u w.grain kept) old else old) this ∙ ap (λ (o : Option Voted). moved_to n o old) f.is in
          let here : StandsAt live shape disk g f.it.write.place (version_of f.it) =
          subst (λ (h : GrainId). StandsAt live shape disk h f.it.write.place (version_of f.it)) (f.grain ∙ grain) (each_of (VoteStands live shape disk) kept f.it each f.member) in
          let by : StandsBy live (slice_get (shapes_in_turn programs) n) disk g f.it.write.place (version_of f.it) =
          subst (λ (o : Option Shape). StandsBy live o disk g f.it.write.place (version_of f.it)) (sym is_shape) here in
          let at : f.it.write.place.offset + f.it.write.place.len ≤ ends w.grain = subst (λ (p : Place). p.offset + p.len ≤ ends w.grain) (sym f.place) below in
          let end : f.it.write.place.offset + f.it.write.place.len ≤ ends g = subst (λ (h : GrainId). f.it.write.place.offset + f.it.write.place.len ≤ ends h) grain at in
          subst (PlaceStands live programs disk ends g) (sym is)
          (record { version = version_of f.it; stands = by; known = sym (meant_newest programs n g (version_of f.it) last); below = end })
      | inr other ↦ subst (PlaceStands live programs disk ends g) (sym (ap (λ (b : Bool). if b then moved_to n (version_among u w.grain kept) old else old) other)) st
    ]

    writes_stand : (u : UnitNo) (ws : List Written) (g : GrainId) (old : Option Placed) → AllByRecursion (IsOwnPlace kept u) ws → AllByRecursion (IsBelow ends) ws → PlaceStands live programs disk ends g old
        → PlaceStands live programs disk ends g (moved_by_writes n kept u ws g old)
    writes_stand u [] g old own below st = st
    writes_stand u (w ∷ ws) g old own below st = writes_stand u ws g (moved_by_write n kept u w.grain g old) own.1 below.1 (one_stands u w g old own.0 below.0 st)

    records_stand : (rs : List CommitRecord) (g : GrainId) (old : Option Placed) → AllByRecursion (λ r. AllByRecursion (IsOwnPlace kept r.unit) r.writes) rs → AllByRecursion (λ r. AllByRecursion (IsBelow ends) r.writes) rs
        → PlaceStands live programs disk ends g old → PlaceStands live programs disk ends g (moved_by_records n kept rs g old)
    records_stand [] g old own below st = st
    records_stand (r ∷ rs) g old own below st = records_stand rs g (moved_by_writes n kept r.unit r.writes g old) own.1 below.1 (writes_stand r.unit r.writes g old own.0 below.0 st)

  module _ (shape : Shape) (a b : BatchWriter) (size most : ℕ) (old new : World) (run : RunsOnFile (Manager live) (Tears a.gate_at size) most old new) (st : PlacesStand live shape a old.disk) where
    -- grain files are as they were
    stands_still : (s : Shape) (g : GrainId) (place : Place) (v : Version) → StandsAt live s old.disk g place v → StandsAt live s new.disk g place v
    stands_still s g place v here =
        subst (λ (f : FileState). version_at_place Two (fields_of (slice_get s.types g.kind)) place f.seen ≡ Ok v) (sym (run.now.others (Grain live g) (λ e. absurd cc))) here

    kept_still : AllByRecursion (VoteStands live shape new.disk) (kept_of a)
    kept_still = each_leads (VoteStands live shape old.disk) (VoteStands live shape new.disk) (λ v here. stands_still shape v.write.grain v.write.place (version_of v) here) (kept_of a) st.kept

    placed_still : (ends : GrainId → ℕ) → ((g : GrainId) → file_end a g ≤ ends g) → (g : GrainId) → PlaceStands live (programs_of a) new.disk ends g (placed_in a.places g)
    placed_still ends up g =
        place_leads live (programs_of a) old.disk new.disk (file_end a) ends g (λ s p v below here. stands_still s g p.place v here) (up g) (placed_in a.places g) (st.placed g)

    -- sealed
    pub places_sealed : (rs : List CommitRecord) → AllByRecursion (λ r. AllByRecursion (IsOwnPlace (kept_of a) r.unit) r.writes) rs → kept_of b ≡ []
        → ((g : GrainId) → file_end b g ≡ raised_ends (file_end a) (flat_map (λ r. r.writes) rs) g) → b.programs ≡ a.programs
        → ((g : GrainId) → placed_in b.places g ≡ moved_by_records (newest_number a) (kept_of a) rs g (placed_in a.places g)) → PlacesStand live shape b new.disk
    places_sealed rs own none ends programs places =
        let ws : List Written = flat_map (λ (r : CommitRecord). r.writes) rs in
        let all : GrainId → ℕ = raised_ends (file_end a) ws in
        let below : AllByRecursion (λ (r : CommitRecord). AllByRecursion (IsBelow all) r.writes) rs = each_list (IsBelow all) (λ (r : CommitRecord). r.writes) rs (raised_each (file_end a) ws) in
        let same : all ≡ file_end b = λ i g. sym (ends g) i in
        record {
          shape_is = shape_stays a b shape programs st.shape_is;
          placed = λ g. subst (λ (ts : List ProgramTree). PlaceStands live ts new.disk (file_end b) g (placed_in b.places g)) (same_programs a b programs)
              (subst (λ (e : GrainId → ℕ). PlaceStands live (programs_of a) new.disk e g (placed_in b.places g)) same (subst (PlaceStands live (programs_of a) new.disk all g) (sym (places g))
              (records_stand (programs_of a) shape (newest_number a) (newest_last a.programs shape st.shape_is) st.shape_is new.disk all (kept_of a) kept_still rs g (placed_in a.places g) own below (placed_still all (raised_up (file_end a) ws) g))));
          kept = subst (AllByRecursion (VoteStands live shape new.disk)) (sym none) tt;
        }

    -- not sealed
    pub places_unsealed : HasSameEnds a b → kept_of b ≡ [] → PlacesStand live shape b new.disk
    places_unsealed same none = record {
      shape_is = shape_stays a b shape same.programs st.shape_is;
      placed = λ g. subst (λ (ts : List ProgramTree). PlaceStands live ts new.disk (file_end b) g (placed_in b.places g)) (same_programs a b same.programs)
          (subst (PlaceStands live (programs_of a) new.disk (file_end b) g) (sym (same.places g)) (placed_still (file_end b) (λ h. omega (arith, same.ends h)) g));
      kept = subst (AllByRecursion (VoteStands live shape new.disk)) (sym none) tt;
    }

    -- in doubt
    pub places_in_doubt : b ≡ record a { in_doubt = true } → PlacesStand live shape b new.disk
    places_in_doubt is = subst (λ (w : BatchWriter). PlacesStand live shape w new.disk) (sym is) (record { shape_is = st.shape_is; placed = placed_still (file_end a) (λ h. omega arith); kept = kept_still })
