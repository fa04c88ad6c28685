-- The moments of each step by which a silo is written anew.
use Rattle.std.proofs.Common.{◌≡◌, ◌⊎◌, inl, inr, ℕ, zero, suc, ◌+◌, ◌-◌, ◌<◌, ◌≤◌, List, [], ◌∷◌, ◌++◌, length, drop, slice_index, refl, sym, ◌∙◌, ap, subst, arith, length-append}
use Rattle.host_trait.specs.declared.channels.FileId.{FileId}
use Rattle.host_trait.specs.declared.channels.FileId.TheVariants.{Manager, Program as ProgramFile}
use Rattle.host_trait.specs.Disk.{FileState, MayLeave, Tears, overlaid, settled}
use Rattle.host_trait.specs.World.{World, Moment, Image, IsImage, Passes, Arrives, moment_of}
use Rattle.host_trait.specs.Runs.{ChangesFile, RunsOnFile}
use Rattle.host_trait.proofs.Moments.{both, weaker, same_moment, arrives_then}
use Rattle.host_trait.proofs.Names.{cases_file}
use Rattle.host_trait.proofs.Runs.{Change, asked_keeps, arrives_asked, image_from, settled_image}
use Rattle.field_codec.specs.declared.formats.Format.{Format}
use Rattle.field_codec.specs.declared.formats.Format.TheVariants.{Two}
use Rattle.gate_block.specs.Log.{open_blocks}
use Rattle.silo_spec.specs.Silos.{IsSilo}
use Rattle.silo_spec.specs.Slots.{generation, ShowsSilos}
use Rattle.commit_log.specs.declared.records.CheckpointHead.{CheckpointHead}
use Rattle.commit_log.specs.declared.records.Written.{Written}
use Rattle.promise_spec.specs.Entries.{Log}
use Rattle.promise_spec.specs.Logs.{IsMagic, IsLogOf}
use Rattle.promise_spec.specs.EitherSlot.{StaysBelow, IsShutFile, IsFilling, IsCompactable, IsReadyToOpen}
use Rattle.promise_spec.proofs.Slots.{shows_file}
use Rattle.promise_laws.proofs.GateBytes.{short_below, empty_below, generation_stays}
use Rattle.promise_laws.proofs.OtherSlots as slots
use Rattle.checkpoint.specs.Steps.{Stays, KeepsGate, HasToClose, ClosesGate, IsInCopying, OnlyCopies}
use Rattle.checkpoint.specs.ManagerBytes.{behind_gate}
use Rattle.checkpoint.specs.Pieces.{piece_bodies, HasPieces}
use Rattle.checkpoint.specs.NextGeneration.{IsOnTheWay, HasGone}
use Rattle.checkpoint.proofs.Rewriting.{looking, closing_gate, filling_slot, opening_gate, shut_fills, file_fills, copies_fill, behind_fills}

-- one of two slots is live, or the other one
other_of : (live slot : ℕ) → live ≤ 1 → slot ≤ 1 → (slot ≡ live) ⊎ (slot ≡ 1 - live)
other_of zero zero low here = inl refl
other_of zero (suc zero) low here = inr refl
other_of zero (suc (suc n)) low here = absurd (omega (arith, here))
other_of (suc zero) zero low here = inr refl
other_of (suc zero) (suc zero) low here = inl refl
other_of (suc zero) (suc (suc n)) low here = absurd (omega (arith, here))
other_of (suc (suc n)) slot low here = absurd (omega (arith, low))

-- ---- input and clock of the first step

pub closes_input : (slot : ℕ) (old new : World) → ClosesGate slot old new → new.input ≡ old.input
closes_input slot old new closes = elim closes.closed [
  | inl asked ↦ asked.input ∙ closes.looked.input
  | inr p ↦ p.1.input ∙ closes.looked.input
]

pub closes_clock : (slot : ℕ) (old new : World) → ClosesGate slot old new → Arrives old new
closes_clock slot old new closes = elim closes.closed [
  | inl asked ↦ arrives_then old closes.mid new closes.looked.clock (arrives_asked closes.mid new asked)
  | inr p ↦ arrives_then old closes.mid new closes.looked.clock p.1.clock
]

-- the file's length once its header and a closed gate are written
pub long_written : (g begins : ℕ) (blocks f : List ℕ) → 0 < length f → 16 ≤ length (overlaid f 1 (behind_gate g begins ++ (blocks ++ 0 ∷ [])))
long_written g begins blocks f some =
    long f (behind_gate g begins ++ (blocks ++ 0 ∷ [])) some (omega (arith, length-append blocks (0 ∷ []), length-append (behind_gate g begins) (blocks ++ 0 ∷ [])))
  where
    long : (f b : List ℕ) → 0 < length f → 15 ≤ length b → 16 ≤ length (overlaid f 1 b)
    long [] b none size = absurd (omega (arith, none))
    long (x ∷ f) b some size = omega (arith, size, length-append (x ∷ b) (drop (1 + length b) (x ∷ f)))

pub long_pieces : (g : ℕ) (head : CheckpointHead) (writes : List Written) (old new : FileState) → 0 < length old.seen → HasPieces g head writes old new → 16 ≤ length new.seen
long_pieces g head writes old new some pieces =
    subst (λ (s : FileState). 16 ≤ length s.seen) (sym pieces.file) (long_written g 1 (open_blocks (piece_bodies head pieces.front pieces.last)) old.seen some)

module _ (format : Format) (live : ℕ) (log next : Log) (w : World) (can : IsCompactable format live log w) (shown : ShowsSilos IsMagic w.disk) where
  -- the live slot's manager file is as it was
  live_shown : (m : World) → m.disk (Manager live) ≡ w.disk (Manager live) → (image : Image) → IsImage m.disk image → length (m.disk (Manager live)).seen < 16 → IsSilo IsMagic (image (Manager live)) → ⊥
  live_shown m same image is short silo =
      shows_file w.disk shown can.seen live can.slot (subst (λ (s : FileState). length s.seen < 16) same short) (image (Manager live)) (subst (λ (s : FileState). MayLeave s (image (Manager live))) same (is (Manager live))) silo

  -- ---- the gate is closed

  module _ (new : World) (closes : ClosesGate (1 - live) w new) where
    mid_seen : (file : FileId) → MayLeave (closes.mid.disk file) (closes.mid.disk file).seen
    mid_seen file = elim (cases_file file (Manager (1 - live))) [
      | inl this ↦ subst (λ (f : FileId). MayLeave (closes.mid.disk f) (closes.mid.disk f).seen) (sym this) closes.here
      | inr other ↦ subst (λ (s : FileState). MayLeave s s.seen) (sym (closes.looked.now.others file other)) (can.seen file)
    ]

    first : IsOnTheWay format live log next w (moment_of closes.mid)
    first = looking format live log next w can (moment_of closes.mid) closes.looked.now

    before : Passes (IsOnTheWay format live log next w) w.past closes.mid.past
    before = weaker (ChangesFile (Manager (1 - live)) Stays w) (IsOnTheWay format live log next w) (looking format live log next w can) closes.looked.moments

    -- what a crash could leave of the file that was looked at, it could before
    mid_left : (bytes : List ℕ) → MayLeave (closes.mid.disk (Manager (1 - live))) bytes → MayLeave (w.disk (Manager (1 - live))) bytes
    mid_left bytes left =
        let from = closes.looked.now.crash bytes left in
        subst (MayLeave (w.disk (Manager (1 - live)))) (sym from.2) from.1

    mid_short : length (closes.mid.disk (Manager (1 - live))).seen < 16 → (bytes : List ℕ) → MayLeave (closes.mid.disk (Manager (1 - live))) bytes → IsSilo IsMagic bytes → ⊥
    mid_short short bytes left silo =
        shows_file w.disk shown can.seen (1 - live) (omega arith) (omega (arith, short, ap length closes.looked.seen)) bytes (mid_left bytes left) silo

    stays_low : HasToClose (closes.mid.disk (Manager (1 - live))) → length (closes.mid.disk (Manager (1 - live))).seen < 16 → StaysBelow 0 (closes.mid.disk (Manager (1 - live)))
    stays_low (inl empty) short = empty_below 0 (closes.mid.disk (Manager (1 - live))) empty closes.here (mid_short short)
    stays_low (inr p) short = subst (StaysBelow 0) (sym p.0) (short_below 0 (closes.mid.disk (Manager (1 - live))).seen short)

    other_shown : (image : Image) → IsImage new.disk image → length (new.disk (Manager (1 - live))).seen < 16 → IsSilo IsMagic (image (Manager (1 - live))) → ⊥
    other_shown image is short silo = elim closes.closed [
      | inl asked ↦
          let same : new.disk (Manager (1 - live)) ≡ closes.mid.disk (Manager (1 - live)) = ap (λ (d : FileId → FileState). d (Manager (1 - live))) asked.disk in
          mid_short (subst (λ (s : FileState). length s.seen < 16) same short) (image (Manager (1 - live))) (subst (λ (s : FileState). MayLeave s (image (Manager (1 - live)))) same (is (Manager (1 - live)))) silo
      | inr p ↦
          let from = p.1.now.crash (image (Manager (1 - live))) (is (Manager (1 - live))) in
          let tears : Tears 0 1 (closes.mid.disk (Manager (1 - live))).seen (new.disk (Manager (1 - live))).seen = p.1.seen in
          let low : generation (image (Manager (1 - live))) < 0 = stays_low p.0 (omega (arith, short, tears.no_shorter)) from.0 (image (Manager (1 - live))) from.1 from.2 silo in
          absurd (omega (arith, low))
    ]

    closed_now : IsOnTheWay format live log next w (moment_of new)
    closed_now = elim closes.closed [
      | inl asked ↦ subst (IsOnTheWay format live log next w) (sym (same_moment closes.mid new asked.output asked.disk)) first
      | inr p ↦ closing_gate format live log next w can closes.mid closes.looked.now closes.looked.seen mid_seen shown p.0 (moment_of new) p.1.now
    ]

    pub gone_closed : HasGone format live log next w new
    gone_closed = record {
      moments = both (IsOnTheWay format live log next w) before (elim closes.closed [
        | inl asked ↦ asked_keeps (IsOnTheWay format live log next w) closes.mid new asked first
        | inr p ↦ weaker (ChangesFile (Manager (1 - live)) (Tears 0 1) closes.mid) (IsOnTheWay format live log next w)
            (closing_gate format live log next w can closes.mid closes.looked.now closes.looked.seen mid_seen shown p.0) p.1.moments
      ]);
      now = closed_now;
      shows = λ image is slot low short silo. elim (other_of live slot can.slot low) [
        | inl this ↦ live_shown new (closed_now.kept (Manager live) refl) image is (subst (λ (n : ℕ). length (new.disk (Manager n)).seen < 16) this short) (subst (λ (n : ℕ). IsSilo IsMagic (image (Manager n))) this silo)
        | inr other ↦ other_shown image is (subst (λ (n : ℕ). length (new.disk (Manager n)).seen < 16) other short) (subst (λ (n : ℕ). IsSilo IsMagic (image (Manager n))) other silo)
      ];
    }

  -- ---- the files are filled

  pub record IsFilled (m : World) : Type 0 where
    pub gone : HasGone format live log next w m
    pub fills : IsFilling live w.disk (moment_of m)

  fills_shown : (m : World) → IsFilling live w.disk (moment_of m) → ShowsSilos IsMagic m.disk
  fills_shown m fills image is slot low short silo = elim (other_of live slot can.slot low) [
    | inl this ↦ live_shown m (fills.kept (Manager live) refl) image is (subst (λ (n : ℕ). length (m.disk (Manager n)).seen < 16) this short) (subst (λ (n : ℕ). IsSilo IsMagic (image (Manager n))) this silo)
    | inr other ↦ (let there : IsSilo IsMagic (image (Manager (1 - live))) = subst (λ (n : ℕ). IsSilo IsMagic (image (Manager n))) other silo in fills.shut (image (Manager (1 - live))) (is (Manager (1 - live))) there.gate)
  ]

  pub begin_filling : (new : World) → HasGone format live log next w new → IsShutFile (new.disk (Manager (1 - live))) → IsFilled new
  begin_filling new gone shut = record { gone = gone; fills = shut_fills live w (moment_of new) gone.now.kept shut }

  -- calls that go on filling
  more_filling : (Q : Moment → Type 0) (mid new : World) → IsFilled mid → ((m : Moment) → Q m → m.output ≡ mid.output) → ((m : Moment) → Q m → IsFilling live w.disk m)
      → Passes Q mid.past new.past → Q (moment_of new) → IsFilled new
  more_filling Q mid new so_far quiet fills moments now =
      let go : (m : Moment) → Q m → IsOnTheWay format live log next w m = λ m q. filling_slot format live log next w can m (quiet m q ∙ so_far.gone.now.quiet) (fills m q) in
      record {
        gone = record {
          moments = both (IsOnTheWay format live log next w) so_far.gone.moments (weaker Q (IsOnTheWay format live log next w) go moments);
          now = go (moment_of new) now;
          shows = fills_shown new (fills (moment_of new) now);
        };
        fills = fills (moment_of new) now;
      }

  pub gone_program : (R : Change) (most : ℕ) (mid new : World) → IsFilled mid → RunsOnFile (ProgramFile (1 - live)) R most mid new → IsFilled new
  gone_program R most mid new so_far run =
      more_filling (ChangesFile (ProgramFile (1 - live)) R mid) mid new so_far (λ m q. q.output)
      (λ m q. file_fills live (ProgramFile (1 - live)) R w mid m can.slot refl (λ e. absurd cc) q so_far.fills) run.moments run.now

  pub gone_copies : (mid new : World) → IsFilled mid → OnlyCopies (1 - live) mid new → IsFilled new
  gone_copies mid new so_far only =
      more_filling (IsInCopying (1 - live) mid) mid new so_far (λ m q. q.output) (λ m q. copies_fill live w mid m can.slot q so_far.fills) only.moments only.now

  pub gone_pieces : (most : ℕ) (mid new : World) → IsFilled mid → RunsOnFile (Manager (1 - live)) KeepsGate most mid new → IsFilled new
  gone_pieces most mid new so_far run =
      more_filling (ChangesFile (Manager (1 - live)) KeepsGate mid) mid new so_far (λ m q. q.output) (λ m q. behind_fills live w mid m can.slot q so_far.fills) run.moments run.now

  -- ---- the gate is opened

  module _ (mid new : World) (so_far : IsFilled mid) (ready : IsReadyToOpen Two live next w mid) (run : RunsOnFile (Manager (1 - live)) (Tears 0 1) 1 mid new) where
    opening : (m : Moment) → ChangesFile (Manager (1 - live)) (Tears 0 1) mid m → IsOnTheWay format live log next w m
    opening m changes = opening_gate format live log next w can mid ready so_far.gone.now.quiet m changes

    pub gone_opened : 16 ≤ length (mid.disk (Manager (1 - live))).seen → HasGone format live log next w new
    gone_opened long = record {
      moments = both (IsOnTheWay format live log next w) so_far.gone.moments (weaker (ChangesFile (Manager (1 - live)) (Tears 0 1) mid) (IsOnTheWay format live log next w) opening run.moments);
      now = opening (moment_of new) run.now;
      shows = λ image is slot low short silo. elim (other_of live slot can.slot low) [
        | inl this ↦ live_shown new ((opening (moment_of new) run.now).kept (Manager live) refl) image is (subst (λ (n : ℕ). length (new.disk (Manager n)).seen < 16) this short) (subst (λ (n : ℕ). IsSilo IsMagic (image (Manager n))) this silo)
        | inr other ↦
            let tears : Tears 0 1 (mid.disk (Manager (1 - live))).seen (new.disk (Manager (1 - live))).seen = run.seen in
            let short_there : length (new.disk (Manager (1 - live))).seen < 16 = subst (λ (n : ℕ). length (new.disk (Manager n)).seen < 16) other short in
            absurd (omega (arith, long, tears.no_shorter, short_there))
      ];
    }

    pub opened_done : new.disk (Manager (1 - live)) ≡ settled (overlaid (mid.disk (Manager (1 - live))).seen 0 (1 ∷ [])) → (image : Image) → IsImage new.disk image
        → IsLogOf Two (1 - live) image next × (generation (image (Manager (1 - live))) ≡ generation (w.disk (Manager live)).seen + 1)
    opened_done done image is =
        let bytes : image (Manager (1 - live)) ≡ overlaid (mid.disk (Manager (1 - live))).seen 0 (1 ∷ []) =
        settled_image new.disk (Manager (1 - live)) (overlaid (mid.disk (Manager (1 - live))).seen 0 (1 ∷ [])) (image (Manager (1 - live))) done (is (Manager (1 - live))) in
        let gate : slice_index (image (Manager (1 - live))) 0 ≡ 1 = ap (λ (l : List ℕ). slice_index l 0) bytes in
        let comes = image_from (Manager (1 - live)) (Tears 0 1) mid (moment_of new) run.now image is in (
          slots.opened format live log w can Two next mid ready (moment_of new) run.now image is gate,
          generation_stays (comes.from (Manager (1 - live))) (image (Manager (1 - live))) comes.changed ∙ ready.risen comes.from comes.possible,
        )
