-- The moments of a silo that is written anew: each image has the log, in the slot that was live or in the other one.
use Rattle.std.proofs.Common.{◌≡◌, ◌≢◌, inl, inr, ℕ, ◌+◌, ◌-◌, ◌≤◌, List, [], ◌∷◌, length, take, slice_index, refl, sym, ◌∙◌, ap, subst, arith}
use Rattle.host_trait.specs.declared.channels.FileId.{FileId}
use Rattle.host_trait.specs.declared.channels.FileId.TheVariants.{Manager, Grain}
use Rattle.host_trait.specs.Disk.{FileState, MayLeave, Tears, settled}
use Rattle.host_trait.specs.Files.{slot_of}
use Rattle.host_trait.specs.World.{World, Moment, Image, IsImage, moment_of}
use Rattle.host_trait.specs.Runs.{ChangesFile}
use Rattle.host_trait.proofs.Crashes.{settled_only}
use Rattle.host_trait.proofs.Names.{cases_file}
use Rattle.host_trait.proofs.Runs.{Change}
use Rattle.field_codec.specs.declared.formats.Format.{Format}
use Rattle.field_codec.specs.declared.formats.Format.TheVariants.{Two}
use Rattle.silo_spec.specs.Slots.{generation, ShowsSilos}
use Rattle.promise_spec.specs.Entries.{Log}
use Rattle.promise_spec.specs.Logs.{IsMagic, IsLogOf}
use Rattle.promise_spec.specs.Journals.{AllLogOf}
use Rattle.promise_spec.specs.EitherSlot.{StaysBelow, IsShutFile, KeepsSlot, IsFilling, IsCompactable, MayClose, IsReadyToOpen}
use Rattle.promise_spec.proofs.Slots.{shows_file}
use Rattle.promise_laws.proofs.GateBytes.{open_below, short_below, empty_below}
use Rattle.promise_laws.proofs.OtherSlots.{closing, filling, either}
use Rattle.checkpoint.specs.Steps.{Stays, KeepsGate, HasToClose, IsInCopying}
use Rattle.checkpoint.specs.NextGeneration.{IsOnTheWay}

-- the other slot's files aren't the live one's
pub other_file : (live : ℕ) (file other : FileId) → live ≤ 1 → slot_of file ≡ live → slot_of other ≡ 1 - live → file ≢ other
other_file live file other low here there same = (let slots : live ≡ 1 - live = sym here ∙ ap slot_of same ∙ there in omega (arith, low, slots))

keeps_slot : (live : ℕ) (other : FileId) (R : Change) (w : World) (m : Moment) → live ≤ 1 → slot_of other ≡ 1 - live → ChangesFile other R w m → KeepsSlot live w.disk m.disk
keeps_slot live other R w m low there changes file here = changes.others file (other_file live file other low here there)

-- ---- the manager file of the other slot is looked at, and its gate closed

-- what a look leaves, a crash could leave before
pub looked_image : (live : ℕ) (w : World) (m : Moment) → ChangesFile (Manager (1 - live)) Stays w m → (image : Image) → IsImage m.disk image → IsImage w.disk image
looked_image live w m changes image is file = elim (cases_file file (Manager (1 - live))) [
  | inl this ↦
      let from = changes.crash (image (Manager (1 - live))) (is (Manager (1 - live))) in
      subst (λ (f : FileId). MayLeave (w.disk f) (image f)) (sym this) (subst (MayLeave (w.disk (Manager (1 - live)))) (sym from.2) from.1)
  | inr other ↦ subst (λ (s : FileState). MayLeave s (image file)) (changes.others file other) (is file)
]

module _ (format : Format) (live : ℕ) (log new : Log) (w : World) (can : IsCompactable format live log w) where
  pub with_log : (m : Moment) → m.output ≡ w.output → KeepsSlot live w.disk m.disk → AllLogOf format live log m.disk → IsOnTheWay format live log new w m
  with_log m quiet kept all = record { quiet = quiet; kept = kept; either = λ image is. inl (all image is) }

  pub looking : (m : Moment) → ChangesFile (Manager (1 - live)) Stays w m → IsOnTheWay format live log new w m
  looking m changes = with_log m changes.output (keeps_slot live (Manager (1 - live)) Stays w m can.slot refl changes) (λ image is. can.logged image (looked_image live w m changes image is))

  module _ (mid : World) (now : ChangesFile (Manager (1 - live)) Stays w (moment_of mid)) (same : (mid.disk (Manager (1 - live))).seen ≡ (w.disk (Manager (1 - live))).seen) (seen : (file : FileId) → MayLeave (mid.disk file) (mid.disk file).seen) where
    live_stays : mid.disk (Manager live) ≡ w.disk (Manager live)
    live_stays = now.others (Manager live) (other_file live (Manager live) (Manager (1 - live)) can.slot refl refl)

    still_can : IsCompactable format live log mid
    still_can = record {
      slot = can.slot;
      seen = seen;
      lasts = subst (λ (s : FileState). s ≡ settled s.seen) (sym live_stays) can.lasts;
      logged = λ image is. can.logged image (looked_image live w (moment_of mid) now image is);
    }

    -- the other manager file is no silo's of as high a generation, or can't become one by its gate alone
    may_close : ShowsSilos IsMagic w.disk → HasToClose (mid.disk (Manager (1 - live))) → MayClose live mid
    may_close shows (inl empty) =
        empty_below (generation (mid.disk (Manager live)).seen + (1 - live)) (mid.disk (Manager (1 - live))) empty (seen (Manager (1 - live)))
        (λ bytes left silo.
        let from = now.crash bytes left in
        let before : MayLeave (w.disk (Manager (1 - live))) bytes = subst (MayLeave (w.disk (Manager (1 - live)))) (sym from.2) from.1 in
        shows_file w.disk shows can.seen (1 - live) (omega arith) (omega (arith, ap length (sym same ∙ empty))) bytes before silo)
    may_close shows (inr p) = elim p.1 [
      | inl short ↦ subst (StaysBelow (generation (mid.disk (Manager live)).seen + (1 - live))) (sym p.0) (short_below (generation (mid.disk (Manager live)).seen + (1 - live)) (mid.disk (Manager (1 - live))).seen short)
      | inr opened ↦
          let is : IsLogOf format live (λ file. (mid.disk file).seen) log = still_can.logged (λ file. (mid.disk file).seen) seen in
          subst (StaysBelow (generation (mid.disk (Manager live)).seen + (1 - live))) (sym p.0) (open_below (generation (mid.disk (Manager live)).seen + (1 - live)) (mid.disk (Manager (1 - live))).seen opened is.is_live.over)
    ]

    pub closing_gate : ShowsSilos IsMagic w.disk → HasToClose (mid.disk (Manager (1 - live))) → (m : Moment) → ChangesFile (Manager (1 - live)) (Tears 0 1) mid m → IsOnTheWay format live log new w m
    closing_gate shows close m changes =
        with_log m (changes.output ∙ now.output)
        (λ file here. keeps_slot live (Manager (1 - live)) (Tears 0 1) mid m can.slot refl changes file here ∙ keeps_slot live (Manager (1 - live)) Stays w (moment_of mid) can.slot refl now file here)
        (closing format live log mid still_can (may_close shows close) m changes)

  -- ---- the other slot's files are filled, and its gate opened

  pub filling_slot : (m : Moment) → m.output ≡ w.output → IsFilling live w.disk m → IsOnTheWay format live log new w m
  filling_slot m quiet fills = with_log m quiet fills.kept (filling format live log w can m fills)

  pub opening_gate : (mid : World) → IsReadyToOpen Two live new w mid → mid.output ≡ w.output → (m : Moment) → ChangesFile (Manager (1 - live)) (Tears 0 1) mid m → IsOnTheWay format live log new w m
  opening_gate mid ready quiet m changes = record {
    quiet = changes.output ∙ quiet;
    kept = λ file here. keeps_slot live (Manager (1 - live)) (Tears 0 1) mid m can.slot refl changes file here ∙ ready.filling.kept file here;
    either = λ image is. either format live log w can Two new mid ready m changes image is;
  }

-- ---- steps that keep the gate closed

pub shut_fills : (live : ℕ) (w : World) (m : Moment) → KeepsSlot live w.disk m.disk → IsShutFile (m.disk (Manager (1 - live))) → IsFilling live w.disk m
shut_fills live w m kept shut = record {
  kept = kept;
  shut = λ bytes left one. shut.closed (ap (λ (l : List ℕ). slice_index l 0) (sym (settled_only (m.disk (Manager (1 - live))).seen bytes (subst (λ (s : FileState). MayLeave s bytes) shut.lasts left))) ∙ one);
}

-- a write to a file of the other slot that is no manager file
pub file_fills : (live : ℕ) (other : FileId) (R : Change) (w mid : World) (m : Moment) → live ≤ 1 → slot_of other ≡ 1 - live → Manager (1 - live) ≢ other → ChangesFile other R mid m → IsFilling live w.disk (moment_of mid) → IsFilling live w.disk m
file_fills live other R w mid m low there apart changes fills = record {
  kept = λ file here. keeps_slot live other R mid m low there changes file here ∙ fills.kept file here;
  shut = λ bytes left. fills.shut bytes (subst (λ (s : FileState). MayLeave s bytes) (changes.others (Manager (1 - live)) apart) left);
}

-- copies
pub copies_fill : (live : ℕ) (w mid : World) (m : Moment) → live ≤ 1 → IsInCopying (1 - live) mid m → IsFilling live w.disk (moment_of mid) → IsFilling live w.disk m
copies_fill live w mid m low copies fills = record {
  kept = λ file here. copies.others file (λ grain same. other_file live file (Grain (1 - live) grain) low here refl same) ∙ fills.kept file here;
  shut = λ bytes left. fills.shut bytes (subst (λ (s : FileState). MayLeave s bytes) (copies.others (Manager (1 - live)) (λ grain same. cc same)) left);
}

first_of : (a b : List ℕ) → take 1 a ≡ take 1 b → slice_index a 0 ≡ slice_index b 0
first_of [] [] same = refl
first_of [] (y ∷ b) same = absurd cc
first_of (x ∷ a) [] same = absurd cc
first_of (x ∷ a) (y ∷ b) same = ap (λ (l : List ℕ). slice_index l 0) same

-- a write to the other manager file behind its gate
pub behind_fills : (live : ℕ) (w mid : World) (m : Moment) → live ≤ 1 → ChangesFile (Manager (1 - live)) KeepsGate mid m → IsFilling live w.disk (moment_of mid) → IsFilling live w.disk m
behind_fills live w mid m low changes fills = record {
  kept = λ file here. keeps_slot live (Manager (1 - live)) KeepsGate mid m low refl changes file here ∙ fills.kept file here;
  shut = λ bytes left one.
      let from = changes.crash bytes left in
      fills.shut from.0 from.1 (sym (first_of bytes from.0 from.2) ∙ one);
}
