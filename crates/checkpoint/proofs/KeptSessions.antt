-- What the checkpoint says of sessions that `compact` has written.
use Rattle.std.proofs.Common.{◌≡◌, ℕ, ◌-◌, ◌<◌, List, [], ◌∷◌, ◌++◌, length, drop, Ok, refl, sym, ◌∙◌, ap, subst}
use Rattle.host_trait.specs.declared.channels.FileId.TheVariants.{Manager, Program as ProgramFile}
use Rattle.host_trait.specs.Disk.{FileState, MayLeave, overlaid, settled}
use Rattle.host_trait.specs.World.{World, Image, IsImage}
use Rattle.host_trait.proofs.Crashes.{settled_only}
use Rattle.field_codec.specs.declared.formats.Format.TheVariants.{Two}
use Rattle.gate_block.specs.Log.{first_gate, open_blocks}
use Rattle.gate_block.proofs.Logs.{written_read}
use Rattle.commit_log.specs.declared.records.CheckpointHead.{CheckpointHead}
use Rattle.commit_log.specs.declared.records.Written.{Written}
use Rattle.log_reading.specs.Sessions.{session_in_file}
use Rattle.log_reading.specs.Steps.{seen_in}
use Rattle.program_file.specs.Files.{program_in_file}
use Rattle.promise_spec.proofs.Openings.{reads_is}
use Rattle.silo_opening.specs.declared.opened_silo.Opened.{Opened}
use Rattle.silo_opening.specs.OpenedSilo.{IsOpenedFrom}
use Rattle.checkpoint.specs.Pieces.{piece_bodies, HasPieces}
use Rattle.checkpoint.specs.KeptSessions.{SaysSession, KeepsSession}
use Rattle.checkpoint.proofs.Checkpoints.{opened_bytes, are_small}

-- once the header gate is open, the pieces are the log of each image
pub pieces_said : (g : ℕ) (head : CheckpointHead) (writes : List Written) (old mid new : FileState) (c : List ℕ) → 0 < length old.seen → HasPieces g head writes old mid → new ≡ settled (overlaid mid.seen 0 (1 ∷ [])) → MayLeave new c
    → SaysSession head.session c
pieces_said g head writes old mid new c some pieces opened left =
    let bodies : List (List ℕ) = piece_bodies head pieces.front pieces.last in
    let t = opened_bytes g 1 bodies old.seen some in
    let file : c ≡ 1 ∷ drop 1 mid.seen = settled_only (overlaid mid.seen 0 (1 ∷ [])) c (subst (λ (s : FileState). MayLeave s c) opened left) in
    let bytes = file ∙ ap (λ (s : FileState). 1 ∷ drop 1 s.seen) pieces.file ∙ t.1 in
    let behind : drop first_gate c ≡ open_blocks bodies ++ 0 ∷ t.0 = ap (λ (l : List ℕ). drop first_gate l) bytes in
    record {
      head = head;
      front = pieces.front;
      last = pieces.last;
      says = refl;
      bodies = (written_read bodies t.0 c (are_small head pieces.front pieces.last pieces.cut.sizes pieces.cut.size) behind).0;
    }

-- what was opened is what was read
pub session_kept : (o : Opened) (old new : World) → IsOpenedFrom (seen_in old.disk) o → ((image : Image) → IsImage new.disk image → SaysSession o.session (image (Manager (1 - o.slot)))) → KeepsSession old new
session_kept o old new from said live log first reads program image is =
    let both = reads_is o.slot live from.log log (sym from.reads ∙ reads) in
    let there : program_in_file (seen_in old.disk (ProgramFile o.slot)) ≡ Ok first = subst (λ (n : ℕ). program_in_file (seen_in old.disk (ProgramFile n)) ≡ Ok first) (sym both.0) program in
    let ok : Ok from.first ≡ Ok first = sym from.first_is ∙ there in
    let same : from.first ≡ first = cc ok in
    let session : o.session ≡ session_in_file Two first (seen_in old.disk (Manager live)) = from.session ∙ (λ i. session_in_file Two (same i) (seen_in old.disk (Manager (both.0 i)))) in
    subst (λ (n : ℕ). SaysSession n (image (Manager (1 - live)))) session (subst (λ (n : ℕ). SaysSession o.session (image (Manager (1 - n)))) both.0 (said image is))
