use Rattle.std.proofs.Common.{rules, arith, ◌≡◌, [], ℕ, List, eqb, slice_index, Option, true, false, Some, Err, sym, ◌∙◌, ap, subst}
use Rattle.program_file.specs.Programs.{Program}
use Rattle.field_codec.specs.declared.formats.Format.{Format}
use Rattle.gate_block.specs.Blocks.{found_at}
use Rattle.gate_block.specs.Log.{bodies_of, gate_of}
use Rattle.host_trait.specs.World.{Disk}
use Rattle.host_trait.specs.declared.channels.FileId.TheVariants.{Manager}
use Rattle.host_trait.proofs.Runs.{asked_then}
use Rattle.commit_log.specs.declared.records.Written.{Written}
use Rattle.log_reading.specs.declared.faults.FolderFault.{FolderFault}
use Rattle.log_reading.specs.Blocks.{header_damage, behind_header, log_as, log_in_file}
use Rattle.log_reading.specs.Steps.{BeginsSaved, IsFollowedBy, log_base_of}
use Rattle.log_reading.proofs.Errors.{other_value}
use Rattle.log_reading.proofs.LogBlocks.{follows_begins}
use Rattle.host_trait.specs.declared.channels.Channel.{Channel}
use Rattle.log_reading.specs.Counts.{ReadFaulted}
use Rattle.host_trait.proofs.Counts.{none_then}
use Rattle.log_reading.proofs.bases.read_base.Goals as goal

-- a damaged header
damaged_log : (format : Format) (p : Program) (file : List ℕ) (place : ℕ) → header_damage file ≡ Some place → log_in_file format p file ≡ Err place
damaged_log format p file place is = ap (λ (d : Option ℕ). behind_header d (log_as format p (eqb (slice_index file 13) 1) (bodies_of file) (gate_of file) (found_at (gate_of file) file))) is

pub returns-in-Err-clause-damaged : goal.returns-in-Err-clause-damaged
returns-in-Err-clause-damaged g c file place is told p same =
    damaged_log c.args.format p ((g.H.Host.world c.args.host.now).disk (Manager c.args.slot)).seen place (c.in-Err.ensures.damaged file place (other_value _ (FolderFault.Damaged file place) is) told)

-- no checkpoint follows
pub returns-then-not-saved-clause-begins : goal.returns-then-not-saved-clause-begins
returns-then-not-saved-clause-begins g c told p same =
    let seen = ((g.H.Host.world c.args.host.now).disk (Manager c.args.slot)).seen in
    let none : c.in-Ok.saved ≡ false = search rules in
    let fresh : eqb (slice_index seen 13) 1 ≡ false = sym (c.in-Ok.ensures.begins told) ∙ none in
    subst (λ (l : List Written). IsFollowedBy c.args.format p seen (record { count = 0; next = 1; session = 0; writes = l }) [] [] 0 15) (sym c.new.ensures) (follows_begins c.args.format p seen (c.in-Ok.ensures.whole told) fresh)

pub returns-then-not-saved-clause-bound : goal.returns-then-not-saved-clause-bound
returns-then-not-saved-clause-bound g c = record { gate = omega arith; count = omega arith; some = omega arith; next = omega arith; session = omega arith }

-- the checkpoint
pub returns-in-Ok-read_checkpoint-clause-begins : goal.returns-in-Ok-read_checkpoint-clause-begins
returns-in-Ok-read_checkpoint-clause-begins g c told p shape =
    let seen : Disk → List ℕ = λ d. (d (Manager c.args.slot)).seen in
    let same = (c.check_header.ensures.asked told).disk in
    let is : c.in-Ok.saved ≡ true = search rules in
    let begins : BeginsSaved (seen (g.H.Host.world c.args.host.now).disk) = (c.in-Ok.ensures.whole told, sym (c.in-Ok.ensures.begins told) ∙ is) in
    let base = c.in-Ok-read_checkpoint.base in
    subst (λ (d : Disk). IsFollowedBy c.args.format p (seen d) (log_base_of base) [] [] base.session base.gate_at) same (c.in-Ok-read_checkpoint.ensures.begins told p shape (subst (λ (d : Disk). BeginsSaved (seen d)) (sym same) begins))

pub returns-in-Ok-read_checkpoint-clause-calls : goal.returns-in-Ok-read_checkpoint-clause-calls
returns-in-Ok-read_checkpoint-clause-calls g c = record {
  ready = λ at was. c.read_checkpoint.ensures.calls.ready at (c.check_header.ensures.calls.ready at was);
  calm = none_then _ _ _ c.in-Ok.ensures.calls.calm c.in-Ok-read_checkpoint.ensures.calls.calm;
  fault = tt;
}

pub returns-in-Ok-read_checkpoint-clause-asked : goal.returns-in-Ok-read_checkpoint-clause-asked
returns-in-Ok-read_checkpoint-clause-asked g c told = asked_then _ _ _ (c.check_header.ensures.asked told) (c.read_checkpoint.ensures.asked told)

pub returns-in-Err-read_checkpoint-clause-damaged : goal.returns-in-Err-read_checkpoint-clause-damaged
returns-in-Err-read_checkpoint-clause-damaged g c file place is told p shape =
    let seen : Disk → List ℕ = λ d. (d (Manager c.args.slot)).seen in
    let same = (c.check_header.ensures.asked told).disk in
    let saved : c.in-Ok.saved ≡ true = search rules in
    let begins : BeginsSaved (seen (g.H.Host.world c.args.host.now).disk) = (c.in-Ok.ensures.whole told, sym (c.in-Ok.ensures.begins told) ∙ saved) in
    let here = c.in-Err-read_checkpoint.ensures.damaged file place (other_value _ (FolderFault.Damaged file place) is) told p shape (subst (λ (d : Disk). BeginsSaved (seen d)) (sym same) begins) in
    subst (λ (d : Disk). log_in_file c.args.format p (seen d) ≡ Err place) same here

pub returns-in-Err-read_checkpoint-clause-calls : goal.returns-in-Err-read_checkpoint-clause-calls
returns-in-Err-read_checkpoint-clause-calls g c = record {
  ready = λ at was. c.read_checkpoint.ensures.calls.ready at (c.check_header.ensures.calls.ready at was);
  calm = tt;
  fault = subst (λ (x : Channel → ℕ). ReadFaulted c.in-Err-read_checkpoint.fault x (g.H.Host.faults c.read_checkpoint.new.host)) (λ i channel. c.in-Ok.ensures.calls.calm channel i) c.in-Err-read_checkpoint.ensures.calls.fault;
}

pub returns-in-Err-read_checkpoint-clause-asked : goal.returns-in-Err-read_checkpoint-clause-asked
returns-in-Err-read_checkpoint-clause-asked g c told = asked_then _ _ _ (c.check_header.ensures.asked told) (c.read_checkpoint.ensures.asked told)
