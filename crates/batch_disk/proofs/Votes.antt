-- What each image keeps while a grain's versions are written at its file's end.
use Rattle.std.proofs.Common.{◌≡◌, ◌≢◌, inl, inr, ℕ, ◌+◌, ◌-◌, ◌<◌, ◌≤◌, ◌^◌, List, [], ◌∷◌, ◌++◌, length, take, drop, refl, sym, ◌∙◌, ap, subst, arith, length-append, slice_index}
use Rattle.std.specs.List.{AllByRecursion}
use Rattle.base_types.specs.declared.calls.GrainId.{GrainId}
use Rattle.base_types.specs.declared.shapes.Shape.{Shape}
use Rattle.base_types.specs.declared.stores.Version.{Version}
use Rattle.host_trait.specs.declared.channels.FileId.{FileId}
use Rattle.host_trait.specs.declared.channels.FileId.TheVariants.{Program as ProgramFile, Manager, Grain}
use Rattle.host_trait.specs.Disk.{MayLeave, Tears}
use Rattle.host_trait.specs.World.{World, Moment, Image, Passes, moment_of}
use Rattle.host_trait.specs.Runs.{ChangesFile}
use Rattle.host_trait.proofs.Names.{cases_file}
use Rattle.host_trait.proofs.Moments.{weaker}
use Rattle.host_trait.proofs.Runs.{each_image}
use Rattle.field_codec.specs.declared.formats.Format.TheVariants.{Two}
use Rattle.field_codec.specs.Spelling.{spelling_of_version, VersionFits}
use Rattle.gate_block.specs.Log.{HasBlocks}
use Rattle.grain_log.specs.Places as places
use Rattle.grain_log.specs.Places.{spelling_of_versions}
use Rattle.commit_log.specs.declared.records.Written.{Written}
use Rattle.promise_spec.specs.Records.{Commit}
use Rattle.promise_spec.specs.Crashes.{IsAside}
use Rattle.promise_spec.specs.Entries.{Log, records_of}
use Rattle.promise_spec.proofs.Slots.{live_moves}
use Rattle.batch_disk.specs.ImagesAtRest.{EachImage, IsBelow, AreBelow, AreNamedBy, PlacesAreNamed, Voted, StandsIn, NotAmong, IsAtRest, voted_from, AreOfType}
use Rattle.batch_disk.specs.Moments.{KeepsLog}
use Rattle.batch_disk.proofs.Lists.{each_leads, each_both, both_parts}
use Rattle.batch_disk.proofs.ImagePlaces.{IsSameAt, stands_same, named_lead, below_same, stands_up_same, begins_up_same, rests_log}

-- the grain of a grain file, another for any other file
abbrev grain_in : GrainId → FileId → GrainId
grain_in other (ProgramFile slot) = other
grain_in other (Manager slot) = other
grain_in other (Grain slot grain) = grain

pub not_manager : (live : ℕ) (grain : GrainId) → Manager live ≢ Grain live grain
not_manager live grain e = absurd cc

pub same_in : (live : ℕ) (g h : GrainId) → Grain live g ≡ Grain live h → g ≡ h
same_in live g h e = ap (grain_in g) e

module _ (live : ℕ) (shape : Shape) (ends : GrainId → ℕ) (grain : GrainId) (size : ℕ) (was image : Image)
    (others : (f : FileId) → f ≢ Grain live grain → image f ≡ was f) (changed : Tears (ends grain) size (was (Grain live grain)) (image (Grain live grain))) where
  -- what lies below the ends is the same
  same_below : (w : Written) → IsBelow ends w → IsSameAt live shape was image w
  same_below w below = elim (cases_file (Grain live w.grain) (Grain live grain)) [
    | inl same ↦
        below_same (was (Grain live w.grain)) (image (Grain live w.grain)) w.place.offset w.place.len (ends w.grain)
        (subst (λ (g : GrainId). take (ends g) (image (Grain live g)) ≡ take (ends g) (was (Grain live g))) (sym (same_in live w.grain grain same)) changed.before) below
    | inr apart ↦ ap (λ (l : List ℕ). take w.place.len (drop w.place.offset l)) (others (Grain live w.grain) apart)
  ]

  -- and what stands in another grain's file
  same_apart : (n : Voted) → n.write.grain ≢ grain → StandsIn live shape was n → StandsIn live shape image n
  same_apart n apart st = stands_same live shape was image n.unit n.write n.state
      (ap (λ (l : List ℕ). take n.write.place.len (drop n.write.place.offset l)) (others (Grain live n.write.grain) (λ e. apart (same_in live n.write.grain grain e)))) st

  long_still : ((g : GrainId) → ends g ≤ length (was (Grain live g))) → (g : GrainId) → ends g ≤ length (image (Grain live g))
  long_still long g = elim (cases_file (Grain live g) (Grain live grain)) [
    | inl same ↦ subst (λ (h : GrainId). ends h ≤ length (image (Grain live h))) (sym (same_in live g grain same)) (omega (arith, long grain, changed.no_shorter))
    | inr apart ↦ subst (λ (l : List ℕ). ends g ≤ length l) (sym (others (Grain live g) apart)) (long g)
  ]

  -- an image in which only the versions' bytes are torn keeps all that counts
  pub torn_rests : (head : List ℕ) (log : Log) (bodies : List (List ℕ)) (gate reached : ℕ) (voted : List Voted) → AreBelow ends (records_of log) → NotAmong grain voted
      → IsAtRest live shape head log bodies gate reached ends voted was → IsAtRest live shape head log bodies gate reached ends voted image
  torn_rests head log bodies gate reached voted below fresh is =
      let manager : image (Manager live) ≡ was (Manager live) = others (Manager live) (not_manager live grain) in
      let head : take 15 (image (Manager live)) ≡ take 15 (was (Manager live)) = ap (take 15) manager in
      let program : image (ProgramFile live) ≡ was (ProgramFile live) = others (ProgramFile live) (λ e. absurd cc) in
      let blocks : HasBlocks bodies gate (image (Manager live)) = subst (HasBlocks bodies gate) (sym manager) is.stands.stand in
      let places = each_leads (λ (c : Commit). AllByRecursion (IsBelow ends) c.logged.writes) (λ (c : Commit). AllByRecursion (IsSameAt live shape was image) c.logged.writes)
      (λ c each. each_leads (IsBelow ends) (IsSameAt live shape was image) same_below c.logged.writes each) (records_of log) below in
      let begun : AreNamedBy (IsSameAt live shape was image) is.stands.begins = named_lead (IsBelow ends) (IsSameAt live shape was image) is.stands.begins same_below is.begun in
      record {
        is_live = live_moves live was image is.is_live head (subst (λ (l : List ℕ). 16 ≤ length l) (sym manager) is.stands.silo.long) (inl (others (Manager (1 - live)) (λ e. absurd cc)));
        header = head ∙ is.header;
        stands = stands_up_same live shape was image log bodies gate reached is.stands head program blocks places begun;
        closed = subst (λ (l : List ℕ). slice_index l gate ≢ 1) (sym manager) is.closed;
        begun = subst (AreNamedBy (IsBelow ends)) (sym (begins_up_same live shape was image log bodies gate reached is.stands head program blocks places begun)) is.begun;
        long = long_still is.long;
        stand = each_both (λ (n : Voted). n.write.grain ≢ grain) (StandsIn live shape was) (StandsIn live shape image) same_apart voted fresh is.stand;
      }

-- ---- the versions, once they were written

pub stand_named : (live : ℕ) (shape : Shape) (image : Image) (grain : GrainId) (at : ℕ) (vs : List Version) → places.VersionsStand (image (Grain live grain)) at vs → AreOfType shape grain vs → AllByRecursion (VersionFits Two) vs
    → at + length (spelling_of_versions vs) < 2 ^ 63 → AllByRecursion (StandsIn live shape image) (voted_from grain at vs)
stand_named live shape image grain at [] stand typed fits low = tt
stand_named live shape image grain at (v ∷ vs) stand typed fits low =
    let size = length (spelling_of_version v) in
    let all : length (spelling_of_version v ++ spelling_of_versions vs) ≡ size + length (spelling_of_versions vs) = length-append (spelling_of_version v) (spelling_of_versions vs) in (
      record {
        near = omega (arith, low, all);
        fields = typed.0;
        version = record { version_is = record { fits = fits.0; count = refl; len = refl }; here = stand.0.here };
      },
      stand_named live shape image grain (at + size) vs stand.1 typed.1 fits.1 (omega (arith, low, all)),
    )

-- ---- a vote

aside_grain : (live : ℕ) (grain : GrainId) (f : FileId) → IsAside live f → f ≢ Grain live grain
aside_grain live grain (ProgramFile slot) aside e = absurd cc
aside_grain live grain (Manager slot) aside e = absurd cc
aside_grain live grain (Grain slot g) aside e = aside (ap (slot_in slot) e) where
  slot_in : ℕ → FileId → ℕ
  slot_in other (ProgramFile s) = other
  slot_in other (Manager s) = other
  slot_in other (Grain s g) = s

module _ (live : ℕ) (shape : Shape) (head : List ℕ) (log : Log) (bodies : List (List ℕ)) (gate reached : ℕ) (ends : GrainId → ℕ) (voted : List Voted) (grain : GrainId) (size : ℕ)
    (named : PlacesAreNamed shape log ends) (fresh : NotAmong grain voted) (old : World) (is : EachImage (IsAtRest live shape head log bodies gate reached ends voted) old.disk) where
  pub vote_rests : (m : Moment) → ChangesFile (Grain live grain) (Tears (ends grain) size) old m → EachImage (IsAtRest live shape head log bodies gate reached ends voted) m.disk
  vote_rests m changes image left =
      each_image (Grain live grain) (Tears (ends grain) size) (IsAtRest live shape head log bodies gate reached ends voted) (IsAtRest live shape head log bodies gate reached ends voted) old m changes
      (λ was now at others torn. torn_rests live shape ends grain size was now others torn head log bodies gate reached voted named.below fresh at) is image left

  pub vote_still : (m : Moment) → ChangesFile (Grain live grain) (Tears (ends grain) size) old m → KeepsLog live head log old m
  vote_still m changes =
      let each = vote_rests m changes in
      record {
        rest = record {
          output = changes.output;
          aside = λ f aside. changes.others f (aside_grain live grain f aside);
          header = λ image left. (each image left).header;
        };
        logs = λ image left. rests_log live shape head log bodies gate reached ends voted image (each image left);
      }

  -- CASE 1: at each moment no image's log changes
  pub vote_moments : (new : World) → Passes (ChangesFile (Grain live grain) (Tears (ends grain) size) old) old.past new.past → Passes (KeepsLog live head log old) old.past new.past
  vote_moments new run = weaker (ChangesFile (Grain live grain) (Tears (ends grain) size) old) (KeepsLog live head log old) vote_still run

  -- and after Ok the versions stand too
  pub vote_yes : (new : World) (versions : List Version) → ChangesFile (Grain live grain) (Tears (ends grain) size) old (moment_of new)
      → ((image : List ℕ) → MayLeave (new.disk (Grain live grain)) image → places.VersionsStand image (ends grain) versions) → AreOfType shape grain versions → AllByRecursion (VersionFits Two) versions
      → ends grain + length (spelling_of_versions versions) < 2 ^ 63 → EachImage (IsAtRest live shape head log bodies gate reached ends (voted ++ voted_from grain (ends grain) versions)) new.disk
  vote_yes new versions changes stand typed fits low image left =
      let rests = vote_rests (moment_of new) changes image left in
      record {
        is_live = rests.is_live;
        header = rests.header;
        stands = rests.stands;
        closed = rests.closed;
        begun = rests.begun;
        long = rests.long;
        stand = both_parts (StandsIn live shape image) voted (voted_from grain (ends grain) versions) rests.stand
            (stand_named live shape image grain (ends grain) versions (stand (image (Grain live grain)) (left (Grain live grain))) typed fits low);
      }
