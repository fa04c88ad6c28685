-- What stands in an image stands in another that has the same bytes at its places.
use Rattle.std.proofs.Common.{◌≡◌, ℕ, ◌+◌, ◌<◌, ◌≤◌, List, [], ◌∷◌, length, take, drop, slice_index, refl, sym, ◌∙◌, ap, arith, subst}
use Rattle.std.proofs.lemmas.List.{take-take, drop-take, get_or-take}
use Rattle.std.specs.Prelude.{⊤}
use Rattle.std.specs.List.{AllByRecursion}
use Rattle.base_types.specs.declared.calls.UnitNo.{UnitNo}
use Rattle.base_types.specs.declared.calls.Value.{Value}
use Rattle.base_types.specs.declared.calls.GrainId.{GrainId}
use Rattle.base_types.specs.declared.shapes.Shape.{Shape}
use Rattle.host_trait.specs.World.{Image}
use Rattle.field_codec.specs.declared.formats.Format.TheVariants.{Two}
use Rattle.gate_block.specs.Log.{HasBlocks}
use Rattle.cell_model.specs.Units.{Member}
use Rattle.field_codec.specs.declared.units.Numbers.TheVariants.{Logged}
use Rattle.commit_log.specs.Bodies.{IsRecordIn}
use Rattle.commit_log.specs.declared.records.Written.{Written}
use Rattle.host_trait.specs.declared.channels.FileId.TheVariants.{Manager, Program as ProgramFile, Grain}
use Rattle.silo_spec.specs.Silos.{IsFormat, HasProgram}
use Rattle.promise_spec.specs.Records.{Commit}
use Rattle.promise_spec.specs.Programs.{Program, shape_in}
use Rattle.promise_spec.specs.Entries.{LogEntry, Recorded, Upgraded, records_among, Log, records_of}
use Rattle.promise_spec.specs.Versions.{WriteStands, WritesStand, IsKept}
use Rattle.promise_spec.specs.Blocks.{AreKept, Saved, saved_by, IsSaved, Beginning, Fresh, From, BeginsWhole}
use Rattle.promise_spec.specs.Logs.{StandsUpTo, IsLog}
use Rattle.promise_spec.proofs.Slots.{header_silo}
use Rattle.batch_disk.specs.ImagesAtRest.{AreNamedBy, Voted, StandsIn, IsAtRest}
use Rattle.batch_disk.proofs.Lists.{each_of}

module _ (live : ℕ) (shape : Shape) (was image : Image) where
  -- the bytes at a place are the same in both
  abbrev pub IsSameAt : Written → Type 0
  IsSameAt w = take w.place.len (drop w.place.offset (image (Grain live w.grain))) ≡ take w.place.len (drop w.place.offset (was (Grain live w.grain)))

  pub stands_same : (unit : UnitNo) (w : Written) (s : List Value) → IsSameAt w → WriteStands Two live shape was unit w s → WriteStands Two live shape image unit w s
  stands_same unit w s same st = record { near = st.near; fields = st.fields; version = record { version_is = st.version.version_is; here = same ∙ st.version.here } }

  all_same : (unit : UnitNo) (ws : List Written) (ss : List (List Value)) → AllByRecursion IsSameAt ws → WritesStand Two live shape was unit ws ss → WritesStand Two live shape image unit ws ss
  all_same unit [] [] same st = tt
  all_same unit [] (s ∷ ss) same st = absurd st
  all_same unit (w ∷ ws) [] same st = absurd st
  all_same unit (w ∷ ws) (s ∷ ss) same st = (stands_same unit w s same.0 st.0, all_same unit ws ss same.1 st.1)

  pub kept_one : (c : Commit) → AllByRecursion IsSameAt c.logged.writes → IsKept Two live shape was c → IsKept Two live shape image c
  kept_one c same kept = record { fits = kept.fits; whole = all_same c.logged.unit c.logged.writes c.states same kept.whole }

-- so do the entries of a log
pub kept_same : (live : ℕ) (p : Program) (was image : Image) (entries : List LogEntry) → AllByRecursion (λ c. AllByRecursion (IsSameAt live (shape_in p) was image) c.logged.writes) (records_among entries)
    → AreKept Two live was p entries → AreKept Two live image p entries
kept_same live p was image [] same kept = tt
kept_same live p was image (Recorded c ∷ entries) same kept = (kept_one live (shape_in p) was image c same.0 kept.0, kept_same live p was image entries same.1 kept.1)
kept_same live p was image (Upgraded q ∷ entries) same kept = (kept.0, kept_same live q was image entries same kept.1)

-- what stands below a place stands there still, where the bytes up to that place are the same
pub below_same : (d c : List ℕ) (at len end : ℕ) → take end c ≡ take end d → at + len ≤ end → take len (drop at c) ≡ take len (drop at d)
below_same d c at len end same below =
    let cut : (l : List ℕ) → take len (drop at l) ≡ drop at (take (at + len) (take end l)) = λ l. sym (drop-take at len l) ∙ ap (drop at) (sym (take-take (at + len) end l below)) in
    cut c ∙ ap (λ (l : List ℕ). drop at (take (at + len) l)) same ∙ sym (cut d)

-- a shorter front of equal fronts is equal
pub shorter_front : (n m : ℕ) (c d : List ℕ) → n ≤ m → take m c ≡ take m d → take n c ≡ take n d
shorter_front n m c d low same = sym (take-take n m c low) ∙ ap (λ (l : List ℕ). take n l) same ∙ take-take n m d low

-- ---- records of what the votes wrote

-- each write of a unit, with its state, is among what the votes wrote
abbrev pub AreVoted : List Voted → UnitNo → List Written → List (List Value) → Type 0
AreVoted voted unit [] [] = ⊤
AreVoted voted unit [] (s ∷ ss) = ⊥
AreVoted voted unit (w ∷ ws) [] = ⊥
AreVoted voted unit (w ∷ ws) (s ∷ ss) = Member (record { unit = unit; write = w; state = s }) voted × AreVoted voted unit ws ss

-- a record within the limits, all of whose versions the votes wrote
pub record IsVoted (shape : Shape) (voted : List Voted) (c : Commit) : Type 0 where
  pub fits : IsRecordIn Two Logged shape c.logged
  pub whole : AreVoted voted c.logged.unit c.logged.writes c.states

-- the records of the open batch's units to commit
pub record IsNextBatch (shape : Shape) (voted : List Voted) (batch : List Commit) : Type 0 where
  pub size : length batch ≤ 64
  pub each : AllByRecursion (IsVoted shape voted) batch

-- what the votes wrote of a unit stands
pub voted_stand : (live : ℕ) (shape : Shape) (image : Image) (voted : List Voted) (unit : UnitNo) (ws : List Written) (ss : List (List Value)) → AreVoted voted unit ws ss → AllByRecursion (StandsIn live shape image) voted → WritesStand Two live shape image unit ws ss
voted_stand live shape image voted unit [] [] are each = tt
voted_stand live shape image voted unit [] (s ∷ ss) are each = absurd are
voted_stand live shape image voted unit (w ∷ ws) [] are each = absurd are
voted_stand live shape image voted unit (w ∷ ws) (s ∷ ss) are each = (each_of (StandsIn live shape image) voted (record { unit = unit; write = w; state = s }) each are.0, voted_stand live shape image voted unit ws ss are.1 each)

pub batch_stands : (live : ℕ) (shape : Shape) (image : Image) (voted : List Voted) (batch : List Commit) → AllByRecursion (IsVoted shape voted) batch → AllByRecursion (StandsIn live shape image) voted → AllByRecursion (IsKept Two live shape image) batch
batch_stands live shape image voted [] are each = tt
batch_stands live shape image voted (c ∷ batch) are each = (record { fits = are.0.fits; whole = voted_stand live shape image voted c.logged.unit c.logged.writes c.states are.0.whole each }, batch_stands live shape image voted batch are.1 each)

-- a checkpoint stands whole in an image as in another, where the bytes at its places are the same
saved_same : (live : ℕ) (p : Program) (was image : Image) (ss : List Saved) → AllByRecursion (λ (s : Saved). IsSameAt live (shape_in p) was image s.write) ss
    → AllByRecursion (IsSaved Two live p was) ss → AllByRecursion (IsSaved Two live p image) ss
saved_same live p was image [] same all = tt
saved_same live p was image (s ∷ ss) same all =
    (record { fits = all.0.fits; unit = all.0.unit; stands = stands_same live (shape_in p) was image s.unit s.write s.state same.0 all.0.stands }, saved_same live p was image ss same.1 all.1)

begins_same : (live : ℕ) (p : Program) (was image : Image) (b : Beginning) → AreNamedBy (IsSameAt live (shape_in p) was image) b → BeginsWhole Two live p was b → BeginsWhole Two live p image b
begins_same live p was image Fresh same whole = tt
begins_same live p was image (From ck) same whole = record {
  count = whole.count;
  next = whole.next;
  session = whole.session;
  sizes = whole.sizes;
  order = whole.order;
  each = saved_same live p was image (saved_by ck) same whole.each;
}

-- what is named of a beginning leads on
saved_lead : (P Q : Written → Type 0) (ss : List Saved) → ((w : Written) → P w → Q w) → AllByRecursion (λ (s : Saved). P s.write) ss → AllByRecursion (λ (s : Saved). Q s.write) ss
saved_lead P Q [] lead all = tt
saved_lead P Q (s ∷ ss) lead all = (lead s.write all.0, saved_lead P Q ss lead all.1)

pub named_lead : (P Q : Written → Type 0) (b : Beginning) → ((w : Written) → P w → Q w) → AreNamedBy P b → AreNamedBy Q b
named_lead P Q Fresh lead all = tt
named_lead P Q (From ck) lead all = saved_lead P Q (saved_by ck) lead all

-- A log stands in an image as in another, where the blocks stand there, the header and the program's file are the same, and so are
-- the bytes at its places.
pub stands_up_same : (live : ℕ) (shape : Shape) (was image : Image) (log : Log) (bodies : List (List ℕ)) (gate reached : ℕ) → (is : StandsUpTo Two live was log bodies gate reached)
    → take 15 (image (Manager live)) ≡ take 15 (was (Manager live)) → image (ProgramFile live) ≡ was (ProgramFile live) → HasBlocks bodies gate (image (Manager live))
    → AllByRecursion (λ c. AllByRecursion (IsSameAt live shape was image) c.logged.writes) (records_of log) → AreNamedBy (IsSameAt live shape was image) is.begins → StandsUpTo Two live image log bodies gate reached
stands_up_same live shape was image log bodies gate reached is head same blocks places begun =
    let byte : (i : ℕ) → i < 15 → slice_index (image (Manager live)) i ≡ slice_index (was (Manager live)) i =
    λ i low. sym (get_or-take 15 (image (Manager live)) i 0 low) ∙ ap (λ (l : List ℕ). slice_index l i) head ∙ get_or-take 15 (was (Manager live)) i 0 low in
    record {
      silo = header_silo (IsFormat Two) (image (Manager live)) (was (Manager live)) head (omega (arith, blocks.at, blocks.within)) is.silo;
      program = is.program;
      checked = is.checked;
      text = subst (HasProgram is.program.text) (sym same) is.text;
      begins = is.begins;
      kind = byte 13 (omega arith) ∙ is.kind;
      zero = byte 14 (omega arith) ∙ is.zero;
      base = is.base;
      whole = begins_same live is.program was image is.begins begun is.whole;
      blocks = is.blocks;
      fit = is.fit;
      never_fall = is.never_fall;
      spelled = is.spelled;
      stand = blocks;
      entries = is.entries;
      kept = kept_same live is.program was image log.entries places is.kept;
    }

-- it begins as there
pub begins_up_same : (live : ℕ) (shape : Shape) (was image : Image) (log : Log) (bodies : List (List ℕ)) (gate reached : ℕ) → (is : StandsUpTo Two live was log bodies gate reached)
    → (head : take 15 (image (Manager live)) ≡ take 15 (was (Manager live))) → (same : image (ProgramFile live) ≡ was (ProgramFile live)) → (blocks : HasBlocks bodies gate (image (Manager live)))
    → (places : AllByRecursion (λ c. AllByRecursion (IsSameAt live shape was image) c.logged.writes) (records_of log)) → (begun : AreNamedBy (IsSameAt live shape was image) is.begins)
    → (stands_up_same live shape was image log bodies gate reached is head same blocks places begun).begins ≡ is.begins
unfolding stands_up_same
begins_up_same live shape was image log bodies gate reached is head same blocks places begun = refl

-- each image's log between two steps
pub rests_log : (live : ℕ) (shape : Shape) (head : List ℕ) (log : Log) (bodies : List (List ℕ)) (gate reached : ℕ) (ends : GrainId → ℕ) (voted : List Voted) (image : Image)
    → IsAtRest live shape head log bodies gate reached ends voted image → IsLog live image log
rests_log live shape head log bodies gate reached ends voted image rests = record {
  is_live = rests.is_live;
  is = record { bodies = bodies; gate = gate; session = reached; stands = rests.stands; closed = rests.closed };
}
