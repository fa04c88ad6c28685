use Rattle.std.proofs.Common.{◌≡◌, ◌+◌, length, Ok, sym, ◌∙◌, ap, subst}
use Rattle.host_trait.specs.declared.channels.FileId.TheVariants.{Manager}
use Rattle.commit_log.specs.Checkpoints.{piece_body_in}
use Rattle.gate_block.specs.Blocks.{whole, found_at, IsFoundAt}
use Rattle.log_reading.specs.declared.faults.FolderFault.{FolderFault}
use Rattle.log_reading.specs.Steps.{and_next, piece_of}
use Rattle.log_reading.proofs.Errors.{other_value}
use Rattle.log_reading.proofs.StepFaults.{quiet_fault, piece_damaged}
use Rattle.log_reading.proofs.bases.next_piece.Goals as goal

pub returns-in-Ok-clause-found : goal.returns-in-Ok-clause-found
returns-in-Ok-clause-found g c told =
    let gate = c.args.gate_at in
    let bytes = c.as_slice.result.now in
    let there : found_at gate ((g.H.Host.world c.args.host.now).disk (Manager c.args.slot)).seen ≡ whole bytes =
    subst (IsFoundAt gate ((g.H.Host.world c.args.host.now).disk (Manager c.args.slot)).seen) c.in-Ok-Some.field-0-is (c.in-Ok-Some.ensures.found told) ∙ ap whole (sym c.as_slice.ensures) in
    let size : length bytes ≡ c.len.result = ap length c.as_slice.ensures ∙ sym c.len.ensures in
    ap (piece_of c.args.format c.args.shape.now c.args.first c.args.last gate) there
    ∙ ap (and_next gate (length bytes)) c.in-Ok.ensures.found
    ∙ (λ i. Ok (c.in-Ok.piece, gate + 5 + size i))

pub returns-clause-damaged : goal.returns-clause-damaged
returns-clause-damaged g c file place is told =
    let gate = c.args.gate_at in
    let bytes = c.as_slice.result.now in
    let there : found_at gate ((g.H.Host.world c.args.host.now).disk (Manager c.args.slot)).seen ≡ whole bytes =
    subst (IsFoundAt gate ((g.H.Host.world c.args.host.now).disk (Manager c.args.slot)).seen) c.in-Ok-Some.field-0-is (c.in-Ok-Some.ensures.found told) ∙ ap whole (sym c.as_slice.ensures) in
    let here = c.in-Err.ensures.damaged file place (other_value _ (FolderFault.Damaged file place) is) in
    ap (piece_of c.args.format c.args.shape.now c.args.first c.args.last gate) there
    ∙ piece_damaged gate (length bytes) (piece_body_in c.args.format c.args.shape.now c.args.first c.args.last bytes) place here.1

pub returns-clause-calls : goal.returns-clause-calls
returns-clause-calls g c = record {
  ready = c.read_block.ensures.calls.ready;
  calm = tt;
  fault = quiet_fault c.in-Err.fault _ _ (λ file is. c.in-Err.ensures.failed file is) c.in-Ok-Some.ensures.calls.calm;
}
