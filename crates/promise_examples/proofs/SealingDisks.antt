-- The disks between, on the way of a deposit that is sealed: what their images have, and the moments that show them.
use Rattle.std.proofs.Common.{◌≡◌, ◌≢◌, ℕ, ◌<◌, ◌≤◌, inl, inr, Bool, true, false, if◌then◌else◌, List, [], ◌++◌, length, take, drop, slice_index, refl, sym, ◌∙◌, ap, arith, length-append, length-take}
use Rattle.std.proofs.lemmas.List.{ext_get_or, take-append-drop}
use Rattle.std.proofs.Common.{get_or-take}
use Rattle.base_types.specs.declared.calls.GrainId.{GrainId}
use Rattle.cell_model.specs.Units.{same_grain}
use Rattle.host_trait.specs.declared.channels.FileId.TheVariants.{Manager, Grain}
use Rattle.host_trait.specs.Disk.{FileState, MayLeave, settled}
use Rattle.host_trait.specs.World.{Image, IsImage, Disk, Moment}
use Rattle.host_trait.proofs.Crashes.{settled_only}
use Rattle.gate_block.specs.Log.{LogsUpTo}
use Rattle.silo_spec.specs.Silos.{manager, program_file, IsSilo}
use Rattle.silo_spec.specs.OpenedDisks.{opened_disk}
use Rattle.field_codec.specs.declared.formats.Format.TheVariants.{Two}
use Rattle.promise_spec.specs.Logs.{IsFormat}
use Rattle.promise_spec.specs.Courses.{Observed}
use Rattle.promise_spec.specs.Crashes.{LeavesAlone}
use Rattle.promise_examples.specs.Examples.{account_1, program_bytes, grain_bytes, block_bytes, manager_of, manager_bytes}
use Rattle.promise_examples.specs.DepositRuns.{HasNone, HasDeposit, MayHaveDeposit, LeavesOthers, IsBetween}
use Rattle.promise_examples.specs.WrittenRun.{new_manager, disk_of, new_disk, pending_block, pending_gate, sealing_disk, sealed_disk}
use Rattle.promise_examples.proofs.HostSteps.{account_is}
use Rattle.promise_examples.proofs.NewSilo.{gate_only, gate_is_silo, shut_has_none, has_none, same_aside, empty_images, sealing_images, sealed_images, opened_aside}

-- ---- the block while it's pending

module _ (block c : List ℕ) (left : MayLeave (pending_block block) c) where
  long : 16 ≤ length c
  long = left.no_shorter

  -- the header and the closed gate are as they were
  front_is : take 16 c ≡ new_manager
  front_is = ext_get_or 0 (take 16 c) new_manager size byte where
    size : length (take 16 c) ≡ 16
    size = omega (arith, length-take 16 c, long)

    byte : (i : ℕ) → i < length (take 16 c) → slice_index (take 16 c) i ≡ slice_index new_manager i
    byte i low =
        let within : i < 16 = omega (arith, size) in
        get_or-take 16 c i 0 within ∙ left.same i within (inl within, tt)

  pub block_is : c ≡ new_manager ++ drop 16 c
  block_is = sym (take-append-drop 16 c) ∙ ap (λ (l : List ℕ). l ++ drop 16 c) front_is

-- such a file is a silo's with an empty log
more_is_silo : (more : List ℕ) → IsSilo (IsFormat Two) (new_manager ++ more)
more_is_silo more = record { long = omega (arith, length-append new_manager more); gate = refl; named = refl }

more_has_none : (more : List ℕ) → LogsUpTo [] 15 (new_manager ++ more)
more_has_none more = record {
  blocks = record { small = tt; at = refl; within = omega (arith, length-append new_manager more); blocks = refl };
  closed = λ e. cc e;
}

-- ---- images

pub block_images : (block : List ℕ) (grain : FileState) (image : Image) → IsImage (disk_of (pending_block block) grain) image → HasNone image
block_images block grain image left =
    let more : List ℕ = drop 16 (image manager) in
    has_none image (settled_only program_bytes (image program_file) (left program_file)) (settled_only [] (image (Manager 1)) (left (Manager 1))) (new_manager ++ more) (more_is_silo more) refl refl (more_has_none more) (block_is block (image manager) (left manager))

pub staged_images : (block : List ℕ) (grain : FileState) (image : Image) → IsImage (disk_of (settled (manager_of block 0)) grain) image → HasNone image
staged_images block grain image left =
    has_none image (settled_only program_bytes (image program_file) (left program_file)) (settled_only [] (image (Manager 1)) (left (Manager 1))) (manager_of block 0) (gate_is_silo block 0) refl refl (shut_has_none block 0 (λ e. cc e))
    (settled_only (manager_of block 0) (image manager) (left manager))

-- ---- headers

-- each image of the file has a new silo's header
abbrev pub KeepsFront : FileState → Type 0
KeepsFront log = (c : List ℕ) → MayLeave log c → take 15 c ≡ take 15 new_manager

new_front : KeepsFront (settled new_manager)
new_front c left = ap (λ (f : List ℕ). take 15 f) (settled_only new_manager c left)

block_front : (block : List ℕ) → KeepsFront (pending_block block)
block_front block c left = ap (λ (f : List ℕ). take 15 f) (block_is block c left)

pub gate_front : (block : List ℕ) → KeepsFront (pending_gate block)
gate_front block c left = ap (λ (f : List ℕ). take 15 f) (gate_only block c left)

pub sealed_front : (block : List ℕ) (gate : ℕ) → KeepsFront (settled (manager_of block gate))
sealed_front block gate c left = ap (λ (f : List ℕ). take 15 f) (settled_only (manager_of block gate) c left)

-- ---- moments of a run in a new silo

module _ (r : Observed) (new : r.old.disk ≡ new_disk) where
  pub alone_of : (output : List ℕ) (log grain : FileState) → KeepsFront log → LeavesAlone 0 r (record { output = output; disk = disk_of log grain })
  alone_of output log grain keeps = record {
    aside = λ file is. same_aside (settled new_manager) (settled []) log grain file is ∙ sym (opened_aside (settled new_manager) (settled []) file is) ∙ sym (ap (λ (d : Disk). opened_disk d file) new);
    header = λ image left. keeps (image manager) (left manager) ∙ sym (ap (λ (d : Disk). take 15 (d manager).seen) new);
  }

  -- the files of other grains are empty on either disk
  same_grain_file : (log grain : FileState) (g : GrainId) (b : Bool) → same_grain g account_1 ≡ b → g ≢ account_1 → (if b then grain else settled []) ≡ (if b then settled [] else settled [])
  same_grain_file log grain g true is other = absurd (other (account_is g is))
  same_grain_file log grain g false is other = refl

  pub apart_of : (output : List ℕ) (log grain : FileState) → LeavesOthers r (record { output = output; disk = disk_of log grain })
  apart_of output log grain g other = same_grain_file log grain g (same_grain g account_1) refl other ∙ sym (ap (λ (d : Disk). d (Grain 0 g)) new)

  pub between_of : (output : List ℕ) (Has : Image → Type 0) (log grain : FileState) → KeepsFront log → ((image : Image) → IsImage (disk_of log grain) image → Has image) → IsBetween r output Has (record { output = output; disk = disk_of log grain })
  between_of output Has log grain keeps has = record { output = refl; images = has; alone = alone_of output log grain keeps; apart = apart_of output log grain }

  -- the moments of one output, for what each image has at them
  module _ (output : List ℕ) where
    pub at_new : (grain : FileState) → IsBetween r output HasNone (record { output = output; disk = disk_of (settled new_manager) grain })
    at_new grain = between_of output HasNone (settled new_manager) grain new_front (λ image left. empty_images image grain left)

    pub at_block : (block : List ℕ) (grain : FileState) → IsBetween r output HasNone (record { output = output; disk = disk_of (pending_block block) grain })
    at_block block grain = between_of output HasNone (pending_block block) grain (block_front block) (block_images block grain)

    pub at_staged : (block : List ℕ) (grain : FileState) → IsBetween r output HasNone (record { output = output; disk = disk_of (settled (manager_of block 0)) grain })
    at_staged block grain = between_of output HasNone (settled (manager_of block 0)) grain (sealed_front block 0) (staged_images block grain)

    pub at_sealing : IsBetween r output MayHaveDeposit (record { output = output; disk = sealing_disk })
    at_sealing = between_of output MayHaveDeposit (pending_gate block_bytes) (settled grain_bytes) (gate_front block_bytes) sealing_images

    pub at_sealed : IsBetween r output HasDeposit (record { output = output; disk = sealed_disk })
    at_sealed = between_of output HasDeposit (settled (manager_bytes 1)) (settled grain_bytes) (sealed_front block_bytes 1) sealed_images

-- a moment at which there is none is one at which there may be the deposit, and so is one at which there is
pub if_none : (r : Observed) (output : List ℕ) (m : Moment) → IsBetween r output HasNone m → IsBetween r output MayHaveDeposit m
if_none r output m is = record { output = is.output; images = λ image left. inl (is.images image left); alone = is.alone; apart = is.apart }

pub if_has : (r : Observed) (output : List ℕ) (m : Moment) → IsBetween r output HasDeposit m → IsBetween r output MayHaveDeposit m
if_has r output m is = record { output = is.output; images = λ image left. inr (is.images image left); alone = is.alone; apart = is.apart }
