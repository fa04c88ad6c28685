-- The files of the other slot once they are filled: with its header gate open it has a checkpoint of the log.
use Rattle.std.proofs.Common.{◌≡◌, ℕ, ◌+◌, ◌-◌, ◌<◌, ◌≤◌, List, [], ◌∷◌, ◌++◌, map, length, take, drop, None, sym, ◌∙◌, ap, subst, arith, length-append}
use Rattle.std.specs.Int.{w32, to_le_bytes, from_le_bytes}
use Rattle.std.specs.List.{AllByRecursion, AllZip}
use Rattle.std.proofs.lemmas.List.{drop-drop, take_at}
use Rattle.base_types.specs.declared.calls.GrainId.{GrainId}
use Rattle.base_types.specs.declared.calls.Value.{Value}
use Rattle.host_trait.specs.declared.channels.FileId.TheVariants.{Manager, Program as ProgramFile, Grain}
use Rattle.host_trait.specs.Disk.{FileState, MayLeave, overlaid, settled}
use Rattle.host_trait.specs.World.{World, Image, IsImage, moment_of, with_bytes}
use Rattle.host_trait.proofs.Runs.{settled_image, with_bytes-there, with_bytes-other}
use Rattle.field_codec.specs.declared.formats.Format.TheVariants.{Two}
use Rattle.gate_block.specs.Log.{open_blocks, AreSmall}
use Rattle.commit_log.specs.declared.records.Named.{Named}
use Rattle.commit_log.specs.declared.records.Written.{Written}
use Rattle.commit_log.specs.Orders.{IsAscending}
use Rattle.silo_spec.specs.Silos.{HasProgram}
use Rattle.silo_spec.specs.Slots.{generation}
use Rattle.script_tree.specs.Programs.{ProgramTree}
use Rattle.promise_spec.specs.Programs.{Program}
use Rattle.promise_spec.specs.Entries.{Log, standing_of, checkpointed, is_among}
use Rattle.promise_spec.specs.Blocks.{Saved, Checkpoint, pieces_of, IsSaved, IsCheckpoint, standing_saved, From, IsSavedFrom}
use Rattle.promise_spec.specs.Logs.{IsLogIn, written_file}
use Rattle.promise_spec.specs.EitherSlot.{IsFilling, IsReadyToOpen}
use Rattle.promise_spec.proofs.WrittenFiles.{written_is_log, generation_is}
use Rattle.promise_spec.proofs.SavedStandings.{stands_for}
use Rattle.log_reading.specs.Steps.{seen_in}
use Rattle.checkpoint.specs.declared.compaction.Next.{Next}
use Rattle.checkpoint.specs.Copies.{writes_named, IsCopied}
use Rattle.checkpoint.specs.ManagerBytes.{behind_gate}
use Rattle.checkpoint.specs.Pieces.{piece_bodies, HasPieces}
use Rattle.checkpoint.specs.NextGeneration.{IsMadeOf, MayBeWritten}
use Rattle.checkpoint.proofs.Checkpoints.{opened_bytes, AreSavedIn, cut_saved, same_bodies, ascending_copies, AreSavedOf, saved_of, are_small, sizes_saved}

-- a program file that was written
pub has_program : (text file : List ℕ) → HasProgram text (overlaid file 0 (to_le_bytes w32 (length text) ++ text))
has_program text file = take_at (to_le_bytes w32 (length text) ++ text) (drop (0 + length (to_le_bytes w32 (length text) ++ text)) file) (4 + length text) (length-append (to_le_bytes w32 (length text)) text)

-- the generation stands behind the gate
pub generation_behind : (f : List ℕ) → generation (1 ∷ drop 1 f) ≡ generation f
generation_behind f = ap (λ (l : List ℕ). from_le_bytes w32 (take 4 l)) (drop-drop 8 1 f)

module _ (next : Next) (programs : List ProgramTree) (p : Program) (log : Log) (old new : World) (may : MayBeWritten next) (order : IsAscending None (map (λ n. n.written) next.latest)) (made : IsMadeOf next programs p (seen_in old.disk) log) (is_in : IsLogIn Two next.live (seen_in old.disk) log)
    (before : List ℕ) (program : new.disk (ProgramFile (1 - next.live)) ≡ settled (overlaid before 0 (to_le_bytes w32 (length next.text) ++ next.text)))
    (copies : List Named) (copied : AllZip (IsCopied next.live programs (seen_in old.disk) new.disk) next.latest copies)
    (file : FileState) (some : 0 < length file.seen) (pieces : HasPieces next.generation next.head (writes_named copies) file (new.disk (Manager (1 - next.live)))) where
  module _ (image : Image) (is : IsImage new.disk image) where
    manager_is : image (Manager (1 - next.live)) ≡ overlaid file.seen 1 (behind_gate next.generation 1 ++ (open_blocks (piece_bodies next.head pieces.front pieces.last) ++ 0 ∷ []))
    manager_is = settled_image new.disk (Manager (1 - next.live)) (overlaid file.seen 1 (behind_gate next.generation 1 ++ (open_blocks (piece_bodies next.head pieces.front pieces.last) ++ 0 ∷ [])))
        (image (Manager (1 - next.live))) pieces.file (is (Manager (1 - next.live)))

    abbrev opened : Image
    opened = with_bytes image (Manager (1 - next.live)) (1 ∷ drop 1 (image (Manager (1 - next.live))))

    grains_are : (grain : GrainId) → MayLeave (new.disk (Grain (1 - next.live) grain)) (opened (Grain (1 - next.live) grain))
    grains_are grain =
        subst (MayLeave (new.disk (Grain (1 - next.live) grain))) (sym (with_bytes-other image (Manager (1 - next.live)) (1 ∷ drop 1 (image (Manager (1 - next.live)))) (Grain (1 - next.live) grain) (λ e. absurd cc))) (is (Grain (1 - next.live) grain))

    saved : AreSavedOf next.live programs p made.newest (seen_in old.disk) new.disk opened grains_are log next.latest copies
    saved = saved_of next.live programs p made.newest (seen_in old.disk) new.disk opened grains_are log next.latest copies made.each copied pieces.cut.fits

    cut : AreSavedIn saved.saved pieces.front pieces.last
    cut = cut_saved pieces.front pieces.last saved.saved (saved.writes ∙ pieces.cut.all)

    abbrev ck : Checkpoint
    ck = record { count = next.head.count; next = next.head.next_unit.0; session = next.head.session; front = cut.before; last = cut.behind }

    same : pieces_of Two ck ≡ piece_bodies next.head pieces.front pieces.last
    same = same_bodies next.head saved.saved pieces.front pieces.last cut

    file_is : (rest : List ℕ) × (1 ∷ drop 1 (image (Manager (1 - next.live))) ≡ written_file next.generation (From ck) (pieces_of Two ck) rest)
    file_is =
        let t = opened_bytes next.generation 1 (piece_bodies next.head pieces.front pieces.last) file.seen some in
        (t.0, ap (λ (l : List ℕ). 1 ∷ drop 1 l) manager_is ∙ t.1 ∙ ap (λ (bs : List (List ℕ)). written_file next.generation (From ck) bs t.0) (sym same))

    risen : generation (image (Manager (1 - next.live))) ≡ next.generation
    risen = sym (generation_behind (image (Manager (1 - next.live)))) ∙ ap generation file_is.1 ∙ generation_is next.generation (From ck) (pieces_of Two ck) file_is.0 may.generation

    is_checkpoint : IsCheckpoint Two (1 - next.live) p opened ck
    is_checkpoint = record {
      count = may.count;
      next = may.next_unit;
      session = may.session;
      sizes = sizes_saved cut.before cut.behind (subst (AllByRecursion (λ (piece : List Written). length piece ≤ 65536)) (sym cut.fronts) pieces.cut.sizes)
          (subst (λ (l : List Written). length l ≤ 65536) (sym cut.lasts) pieces.cut.size);
      order = subst (IsAscending None) (sym (ap (λ (l : List Saved). map (λ s. s.write) l) cut.all ∙ saved.writes)) (ascending_copies next.live programs (seen_in old.disk) new.disk None next.latest copies copied order);
      each = subst (AllByRecursion (IsSaved Two (1 - next.live) p opened)) (sym cut.all) saved.each;
    }

    is_saved : IsSavedFrom (standing_of log) ck
    is_saved = record {
      count = made.count;
      next = made.next_unit;
      held = λ grain. ap (λ (l : List Saved). is_among (map (λ s. (s.write.grain, s.state)) l) grain) cut.all ∙ saved.held grain ∙ made.held grain;
      states = subst (λ (l : List Saved). AllByRecursion (λ (w : GrainId × List Value). w.1 ≡ (standing_of log).states w.0) (map (λ s. (s.write.grain, s.state)) l)) (sym cut.all) saved.states;
    }

    text_is : HasProgram p.text (opened (ProgramFile (1 - next.live)))
    text_is =
        let there : image (ProgramFile (1 - next.live)) ≡ overlaid before 0 (to_le_bytes w32 (length next.text) ++ next.text) =
        settled_image new.disk (ProgramFile (1 - next.live)) (overlaid before 0 (to_le_bytes w32 (length next.text) ++ next.text)) (image (ProgramFile (1 - next.live))) program (is (ProgramFile (1 - next.live))) in
        let here : opened (ProgramFile (1 - next.live)) ≡ overlaid before 0 (to_le_bytes w32 (length next.text) ++ next.text) =
        with_bytes-other image (Manager (1 - next.live)) (1 ∷ drop 1 (image (Manager (1 - next.live)))) (ProgramFile (1 - next.live)) (λ e. absurd cc) ∙ there in
        subst (λ (t : List ℕ). HasProgram t (opened (ProgramFile (1 - next.live)))) made.text (subst (HasProgram next.text) (sym here) (has_program next.text before))

    whole : IsLogIn Two (1 - next.live) opened (checkpointed log)
    whole =
        let manager : opened (Manager (1 - next.live)) ≡ written_file next.generation (From ck) (pieces_of Two ck) file_is.0 =
        with_bytes-there image (Manager (1 - next.live)) (1 ∷ drop 1 (image (Manager (1 - next.live)))) ∙ file_is.1 in
        let small : AreSmall (pieces_of Two ck) = subst AreSmall (sym same) (are_small next.head pieces.front pieces.last pieces.cut.sizes pieces.cut.size) in
        let written : IsLogIn Two (1 - next.live) opened (record { base = standing_saved p ck; entries = [] }) =
        written_is_log (1 - next.live) opened next.generation p ck file_is.0 manager made.checked text_is small is_checkpoint in
        let under : IsLogIn Two (1 - next.live) opened (record { base = standing_saved (standing_of log).program ck; entries = [] }) =
        subst (λ (q : Program). IsLogIn Two (1 - next.live) opened (record { base = standing_saved q ck; entries = [] })) (sym made.program) written in
        subst (IsLogIn Two (1 - next.live) opened) (stands_for Two next.live (seen_in old.disk) log ck is_in is_saved) under

  pub ready : IsFilling next.live old.disk (moment_of new) → IsReadyToOpen Two next.live (checkpointed log) old new
  ready fills = record {
    filling = fills;
    some = λ image is. some_of image is;
    risen = λ image is. risen image is ∙ made.generation_is;
    whole = λ image is. whole image is;
  }
    where
      long : (f b : List ℕ) → 0 < length f → 0 < length (overlaid f 1 b)
      long [] b none = absurd (omega (arith, none))
      long (x ∷ f) b none = omega arith

      some_of : (image : Image) → IsImage new.disk image → 0 < length (image (Manager (1 - next.live)))
      some_of image is = subst (λ (l : List ℕ). 0 < length l) (sym (manager_is image is)) (long file.seen (behind_gate next.generation 1 ++ (open_blocks (piece_bodies next.head pieces.front pieces.last) ++ 0 ∷ [])) some)
