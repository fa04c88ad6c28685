use Rattle.std.proofs.Common.{◌≡◌, ◌-◌, ◌++◌, ℕ, List, length, drop, false, Result, Ok, Err, rules, sym, ◌∙◌, ap, subst}
use Rattle.std.specs.Prelude.{is_err, OnOk}
use Rattle.std.specs.Int.{w32, to_le_bytes}
use Rattle.std.specs.List.{AllZip}
use Rattle.std.proofs.lemmas.List.{take_at}
use Rattle.std.proofs.lemmas.Result.{err_from_is_err_and}
use Rattle.std.proofs.lemmas.Slice.Zip.{AllZip-long}
use Rattle.host_trait.specs.declared.channels.Channel.{Channel}
use Rattle.host_trait.specs.declared.channels.FileId.TheVariants.{Manager, Program as ProgramFile}
use Rattle.host_trait.specs.Faults.{NoneFailed}
use Rattle.host_trait.specs.Disk.{overlaid, settled}
use Rattle.field_codec.specs.declared.formats.Format.TheVariants.{Two}
use Rattle.commit_log.specs.declared.records.Named.{Named}
use Rattle.log_reading.specs.declared.faults.FolderFault.{FolderFault}
use Rattle.log_reading.specs.Counts.{ReadFaulted}
use Rattle.log_reading.specs.Steps.{seen_in}
use Rattle.log_reading.proofs.Errors.{other_value}
use Rattle.program_file.specs.Succession.{shapes_in_turn}
use Rattle.program_file.specs.ProgramsInTurn.{programs_in}
use Rattle.promise_spec.specs.Entries.{checkpointed}
use Rattle.checkpoint.specs.Copies.{writes_named, AreThere, IsCopied}
use Rattle.checkpoint.specs.Pieces.{HasPieces}
use Rattle.checkpoint.proofs.Fillings.{closes_quietly, run_quietly, copies_quietly, then_quietly, grains_kept, there_still, first_gone, second_filled, third_filled, fourth_filled, last_gone, last_done, some_left}
use Rattle.checkpoint.proofs.Endings.{calm_then}
use Rattle.checkpoint.proofs.KeptSessions.{pieces_said}
use Rattle.checkpoint.proofs.compaction.fill.Goals as goal

-- none was answered
on_ok : {T E : Type 0} (r : Result T E) {P : Type 0} → is_err r ≡ false → OnOk r P → P
on_ok (Ok x) is holds = holds
on_ok (Err e) is holds = absurd (cc is)

-- a fault behind calls that didn't fail
faulted_before : (e : FolderFault) (before mid after : Channel → ℕ) → NoneFailed before mid → ReadFaulted e mid after → ReadFaulted e before after
faulted_before e before mid after none faulted = subst (λ (f : Channel → ℕ). ReadFaulted e f after) (λ i c. none c i) faulted

pub returns-then-is_err-clause-gone : goal.returns-then-is_err-clause-gone
returns-then-is_err-clause-gone g c told p log may =
    let n = c.args.next in
    let w0 = g.H.Host.world c.args.host.now in
    let w1 = g.H.Host.world c.close_gate.new.host in
    let closes = c.close_gate.ensures.closes told in
    first_gone Two n.live log (checkpointed log) w0 w1 w1 may.can may.shown closes

pub returns-then-is_err-clause-quietly : goal.returns-then-is_err-clause-quietly
returns-then-is_err-clause-quietly g c told =
    let n = c.args.next in
    let w0 = g.H.Host.world c.args.host.now in
    let w1 = g.H.Host.world c.close_gate.new.host in
    let closes = c.close_gate.ensures.closes told in
    closes_quietly (1 - n.live) w0 w1 closes

pub returns-then-is_err-2-clause-gone : goal.returns-then-is_err-2-clause-gone
returns-then-is_err-2-clause-gone g c told p log may =
    let n = c.args.next in
    let w0 = g.H.Host.world c.args.host.now in
    let w1 = g.H.Host.world c.close_gate.new.host in
    let closes = c.close_gate.ensures.closes told in
    let w2 = g.H.Host.world c.write_program.new.host in
    let program = c.write_program.ensures.run told in
    let shut = on_ok c.close_gate.result (search rules) c.close_gate.ensures.shut told in
    (second_filled Two n.live log (checkpointed log) w0 w1 w2 may.can may.shown closes shut _ 1 program).gone

pub returns-then-is_err-2-clause-quietly : goal.returns-then-is_err-2-clause-quietly
returns-then-is_err-2-clause-quietly g c told =
    let n = c.args.next in
    let w0 = g.H.Host.world c.args.host.now in
    let w1 = g.H.Host.world c.close_gate.new.host in
    let closes = c.close_gate.ensures.closes told in
    let w2 = g.H.Host.world c.write_program.new.host in
    let program = c.write_program.ensures.run told in
    then_quietly w0 w1 w2 (closes_quietly (1 - n.live) w0 w1 closes) (run_quietly (ProgramFile (1 - n.live)) _ 1 w1 w2 program)

pub returns-in_err-copy_versions-clause-gone : goal.returns-in_err-copy_versions-clause-gone
returns-in_err-copy_versions-clause-gone g c told p log may =
    let n = c.args.next in
    let w0 = g.H.Host.world c.args.host.now in
    let w1 = g.H.Host.world c.close_gate.new.host in
    let closes = c.close_gate.ensures.closes told in
    let w2 = g.H.Host.world c.write_program.new.host in
    let program = c.write_program.ensures.run told in
    let w3 = g.H.Host.world c.copy_versions.new.host in
    let copies = c.copy_versions.ensures.only told in
    let shut = on_ok c.close_gate.result (search rules) c.close_gate.ensures.shut told in
    (third_filled Two n.live log (checkpointed log) w0 w1 w2 may.can may.shown closes shut _ 1 program w3 copies).gone

pub returns-in_err-copy_versions-clause-quietly : goal.returns-in_err-copy_versions-clause-quietly
returns-in_err-copy_versions-clause-quietly g c told =
    let n = c.args.next in
    let w0 = g.H.Host.world c.args.host.now in
    let w1 = g.H.Host.world c.close_gate.new.host in
    let closes = c.close_gate.ensures.closes told in
    let w2 = g.H.Host.world c.write_program.new.host in
    let program = c.write_program.ensures.run told in
    let w3 = g.H.Host.world c.copy_versions.new.host in
    let copies = c.copy_versions.ensures.only told in
    then_quietly w0 w2 w3 (then_quietly w0 w1 w2 (closes_quietly (1 - n.live) w0 w1 closes) (run_quietly (ProgramFile (1 - n.live)) _ 1 w1 w2 program)) (copies_quietly (1 - n.live) w2 w3 copies)

pub returns-in_err-write_pieces-clause-gone : goal.returns-in_err-write_pieces-clause-gone
returns-in_err-write_pieces-clause-gone g c told p log may =
    let n = c.args.next in
    let w0 = g.H.Host.world c.args.host.now in
    let w1 = g.H.Host.world c.close_gate.new.host in
    let closes = c.close_gate.ensures.closes told in
    let w2 = g.H.Host.world c.write_program.new.host in
    let program = c.write_program.ensures.run told in
    let w3 = g.H.Host.world c.copy_versions.new.host in
    let copies = c.copy_versions.ensures.only told in
    let w4 = g.H.Host.world c.write_pieces.new.host in
    let run = c.write_pieces.ensures.run told in
    let shut = on_ok c.close_gate.result (search rules) c.close_gate.ensures.shut told in
    (fourth_filled Two n.live log (checkpointed log) w0 w1 w2 may.can may.shown closes shut _ 1 program w3 copies w4 1 run).gone

pub returns-in_err-write_pieces-clause-quietly : goal.returns-in_err-write_pieces-clause-quietly
returns-in_err-write_pieces-clause-quietly g c told =
    let n = c.args.next in
    let w0 = g.H.Host.world c.args.host.now in
    let w1 = g.H.Host.world c.close_gate.new.host in
    let closes = c.close_gate.ensures.closes told in
    let w2 = g.H.Host.world c.write_program.new.host in
    let program = c.write_program.ensures.run told in
    let w3 = g.H.Host.world c.copy_versions.new.host in
    let copies = c.copy_versions.ensures.only told in
    let w4 = g.H.Host.world c.write_pieces.new.host in
    let run = c.write_pieces.ensures.run told in
    then_quietly w0 w3 w4 (then_quietly w0 w2 w3 (then_quietly w0 w1 w2 (closes_quietly (1 - n.live) w0 w1 closes) (run_quietly (ProgramFile (1 - n.live)) _ 1 w1 w2 program)) (copies_quietly (1 - n.live) w2 w3 copies)) (run_quietly (Manager (1 - n.live)) _ 1 w3 w4 run)

pub returns-then-is_err-3-clause-gone : goal.returns-then-is_err-3-clause-gone
returns-then-is_err-3-clause-gone g c told p log may =
    let n = c.args.next in
    let w0 = g.H.Host.world c.args.host.now in
    let w1 = g.H.Host.world c.close_gate.new.host in
    let closes = c.close_gate.ensures.closes told in
    let w2 = g.H.Host.world c.write_program.new.host in
    let program = c.write_program.ensures.run told in
    let w3 = g.H.Host.world c.copy_versions.new.host in
    let copies = c.copy_versions.ensures.only told in
    let w4 = g.H.Host.world c.write_pieces.new.host in
    let run = c.write_pieces.ensures.run told in
    let w5 = g.H.Host.world c.open_gate.new.host in
    let opening = c.open_gate.ensures.run told in
    let shut = on_ok c.close_gate.result (search rules) c.close_gate.ensures.shut told in
    let text = subst (λ (t : List ℕ). w2.disk (ProgramFile (1 - n.live)) ≡ settled (overlaid (w1.disk (ProgramFile (1 - n.live))).seen 0 (to_le_bytes w32 (length t) ++ t))) c.as_slice.ensures (on_ok c.write_program.result (search rules) c.write_program.ensures.ok told) in
    let same : c.as_mut_slice.result.now ≡ n.latest = c.as_mut_slice.ensures.value ∙ c.into_vec-latest.ensures in
    let copies_made : List Named = c.copy_versions.new.latest in
    let copied : AllZip (IsCopied n.live (programs_in c.args.programs.now) (seen_in w2.disk) w3.disk) n.latest copies_made = subst (λ (l : List Named). AllZip (IsCopied n.live (programs_in c.args.programs.now) (seen_in w2.disk) w3.disk) l copies_made) same (c.in_ok-copy_versions.ensures.copied told) in
    let size : length copies_made ≡ c.into_vec-latest.result.len = AllZip-long (IsCopied n.live (programs_in c.args.programs.now) (seen_in w2.disk) w3.disk) n.latest copies_made copied ∙ sym (ap (λ (l : List Named). length l) same) ∙ c.as_mut_slice.ensures.len in
    let named_so : c.as_slice-2.result.now ≡ copies_made = c.as_slice-2.ensures.value ∙ take_at copies_made (drop (length copies_made) c.into_vec-latest.result.items) c.into_vec-latest.result.len size in
    let pieces : HasPieces n.generation n.head (writes_named copies_made) (w3.disk (Manager (1 - n.live))) (w4.disk (Manager (1 - n.live))) =
    subst (λ (l : List Named). HasPieces n.generation n.head (writes_named l) (w3.disk (Manager (1 - n.live))) (w4.disk (Manager (1 - n.live)))) named_so (c.in_ok-write_pieces.ensures.written told) in
    last_gone n log w0 w1 w2 may.can may.shown closes shut _ 1 program w3 copies w4 1 run (programs_in c.args.programs.now) p c.requires.may (c.requires.order told) may.made text copies_made copied pieces w5 opening

pub returns-then-is_err-3-clause-quietly : goal.returns-then-is_err-3-clause-quietly
returns-then-is_err-3-clause-quietly g c told =
    let n = c.args.next in
    let w0 = g.H.Host.world c.args.host.now in
    let w1 = g.H.Host.world c.close_gate.new.host in
    let closes = c.close_gate.ensures.closes told in
    let w2 = g.H.Host.world c.write_program.new.host in
    let program = c.write_program.ensures.run told in
    let w3 = g.H.Host.world c.copy_versions.new.host in
    let copies = c.copy_versions.ensures.only told in
    let w4 = g.H.Host.world c.write_pieces.new.host in
    let run = c.write_pieces.ensures.run told in
    let w5 = g.H.Host.world c.open_gate.new.host in
    let opening = c.open_gate.ensures.run told in
    then_quietly w0 w4 w5 (then_quietly w0 w3 w4 (then_quietly w0 w2 w3 (then_quietly w0 w1 w2 (closes_quietly (1 - n.live) w0 w1 closes) (run_quietly (ProgramFile (1 - n.live)) _ 1 w1 w2 program)) (copies_quietly (1 - n.live) w2 w3 copies)) (run_quietly (Manager (1 - n.live)) _ 1 w3 w4 run)) (run_quietly (Manager (1 - n.live)) _ 1 w4 w5 opening)

pub returns-clause-gone : goal.returns-clause-gone
returns-clause-gone g c told p log may =
    let n = c.args.next in
    let w0 = g.H.Host.world c.args.host.now in
    let w1 = g.H.Host.world c.close_gate.new.host in
    let closes = c.close_gate.ensures.closes told in
    let w2 = g.H.Host.world c.write_program.new.host in
    let program = c.write_program.ensures.run told in
    let w3 = g.H.Host.world c.copy_versions.new.host in
    let copies = c.copy_versions.ensures.only told in
    let w4 = g.H.Host.world c.write_pieces.new.host in
    let run = c.write_pieces.ensures.run told in
    let w5 = g.H.Host.world c.open_gate.new.host in
    let opening = c.open_gate.ensures.run told in
    let shut = on_ok c.close_gate.result (search rules) c.close_gate.ensures.shut told in
    let text = subst (λ (t : List ℕ). w2.disk (ProgramFile (1 - n.live)) ≡ settled (overlaid (w1.disk (ProgramFile (1 - n.live))).seen 0 (to_le_bytes w32 (length t) ++ t))) c.as_slice.ensures (on_ok c.write_program.result (search rules) c.write_program.ensures.ok told) in
    let same : c.as_mut_slice.result.now ≡ n.latest = c.as_mut_slice.ensures.value ∙ c.into_vec-latest.ensures in
    let copies_made : List Named = c.copy_versions.new.latest in
    let copied : AllZip (IsCopied n.live (programs_in c.args.programs.now) (seen_in w2.disk) w3.disk) n.latest copies_made = subst (λ (l : List Named). AllZip (IsCopied n.live (programs_in c.args.programs.now) (seen_in w2.disk) w3.disk) l copies_made) same (c.in_ok-copy_versions.ensures.copied told) in
    let size : length copies_made ≡ c.into_vec-latest.result.len = AllZip-long (IsCopied n.live (programs_in c.args.programs.now) (seen_in w2.disk) w3.disk) n.latest copies_made copied ∙ sym (ap (λ (l : List Named). length l) same) ∙ c.as_mut_slice.ensures.len in
    let named_so : c.as_slice-2.result.now ≡ copies_made = c.as_slice-2.ensures.value ∙ take_at copies_made (drop (length copies_made) c.into_vec-latest.result.items) c.into_vec-latest.result.len size in
    let pieces : HasPieces n.generation n.head (writes_named copies_made) (w3.disk (Manager (1 - n.live))) (w4.disk (Manager (1 - n.live))) =
    subst (λ (l : List Named). HasPieces n.generation n.head (writes_named l) (w3.disk (Manager (1 - n.live))) (w4.disk (Manager (1 - n.live)))) named_so (c.in_ok-write_pieces.ensures.written told) in
    last_gone n log w0 w1 w2 may.can may.shown closes shut _ 1 program w3 copies w4 1 run (programs_in c.args.programs.now) p c.requires.may (c.requires.order told) may.made text copies_made copied pieces w5 opening

pub returns-clause-quietly : goal.returns-clause-quietly
returns-clause-quietly g c told =
    let n = c.args.next in
    let w0 = g.H.Host.world c.args.host.now in
    let w1 = g.H.Host.world c.close_gate.new.host in
    let closes = c.close_gate.ensures.closes told in
    let w2 = g.H.Host.world c.write_program.new.host in
    let program = c.write_program.ensures.run told in
    let w3 = g.H.Host.world c.copy_versions.new.host in
    let copies = c.copy_versions.ensures.only told in
    let w4 = g.H.Host.world c.write_pieces.new.host in
    let run = c.write_pieces.ensures.run told in
    let w5 = g.H.Host.world c.open_gate.new.host in
    let opening = c.open_gate.ensures.run told in
    then_quietly w0 w4 w5 (then_quietly w0 w3 w4 (then_quietly w0 w2 w3 (then_quietly w0 w1 w2 (closes_quietly (1 - n.live) w0 w1 closes) (run_quietly (ProgramFile (1 - n.live)) _ 1 w1 w2 program)) (copies_quietly (1 - n.live) w2 w3 copies)) (run_quietly (Manager (1 - n.live)) _ 1 w3 w4 run)) (run_quietly (Manager (1 - n.live)) _ 1 w4 w5 opening)

pub returns-clause-done : goal.returns-clause-done
returns-clause-done g c told = record {
  done = λ p log may image is.
      let n = c.args.next in
      let w0 = g.H.Host.world c.args.host.now in
      let w1 = g.H.Host.world c.close_gate.new.host in
      let closes = c.close_gate.ensures.closes told in
      let w2 = g.H.Host.world c.write_program.new.host in
      let program = c.write_program.ensures.run told in
      let w3 = g.H.Host.world c.copy_versions.new.host in
      let copies = c.copy_versions.ensures.only told in
      let w4 = g.H.Host.world c.write_pieces.new.host in
      let run = c.write_pieces.ensures.run told in
      let w5 = g.H.Host.world c.open_gate.new.host in
      let opening = c.open_gate.ensures.run told in
      let shut = on_ok c.close_gate.result (search rules) c.close_gate.ensures.shut told in
      let text = subst (λ (t : List ℕ). w2.disk (ProgramFile (1 - n.live)) ≡ settled (overlaid (w1.disk (ProgramFile (1 - n.live))).seen 0 (to_le_bytes w32 (length t) ++ t))) c.as_slice.ensures (on_ok c.write_program.result (search rules) c.write_program.ensures.ok told) in
      let same : c.as_mut_slice.result.now ≡ n.latest = c.as_mut_slice.ensures.value ∙ c.into_vec-latest.ensures in
      let copies_made : List Named = c.copy_versions.new.latest in
      let copied : AllZip (IsCopied n.live (programs_in c.args.programs.now) (seen_in w2.disk) w3.disk) n.latest copies_made = subst (λ (l : List Named). AllZip (IsCopied n.live (programs_in c.args.programs.now) (seen_in w2.disk) w3.disk) l copies_made) same (c.in_ok-copy_versions.ensures.copied told) in
      let size : length copies_made ≡ c.into_vec-latest.result.len = AllZip-long (IsCopied n.live (programs_in c.args.programs.now) (seen_in w2.disk) w3.disk) n.latest copies_made copied ∙ sym (ap (λ (l : List Named). length l) same) ∙ c.as_mut_slice.ensures.len in
      let named_so : c.as_slice-2.result.now ≡ copies_made = c.as_slice-2.ensures.value ∙ take_at copies_made (drop (length copies_made) c.into_vec-latest.result.items) c.into_vec-latest.result.len size in
      let pieces : HasPieces n.generation n.head (writes_named copies_made) (w3.disk (Manager (1 - n.live))) (w4.disk (Manager (1 - n.live))) =
      subst (λ (l : List Named). HasPieces n.generation n.head (writes_named l) (w3.disk (Manager (1 - n.live))) (w4.disk (Manager (1 - n.live)))) named_so (c.in_ok-write_pieces.ensures.written told) in
      last_done n log w0 w1 w2 may.can may.shown closes shut _ 1 program w3 copies w4 1 run (programs_in c.args.programs.now) p c.requires.may (c.requires.order told) may.made text copies_made copied pieces w5 opening (on_ok c.open_gate.result (search rules) c.open_gate.ensures.ok told) image is;
  session = λ image is.
      let n = c.args.next in
      let slot : ℕ = 1 - n.live in
      let w1 = g.H.Host.world c.close_gate.new.host in
      let w2 = g.H.Host.world c.write_program.new.host in
      let w3 = g.H.Host.world c.copy_versions.new.host in
      let w4 = g.H.Host.world c.write_pieces.new.host in
      let w5 = g.H.Host.world c.open_gate.new.host in
      let shut = on_ok c.close_gate.result (search rules) c.close_gate.ensures.shut told in
      pieces_said n.generation n.head _ (w3.disk (Manager slot)) (w4.disk (Manager slot)) (w5.disk (Manager slot)) (image (Manager slot)) (some_left slot _ 1 w1 w2 w3 shut (c.write_program.ensures.run told) (c.copy_versions.ensures.only told))
      (c.in_ok-write_pieces.ensures.written told) (on_ok c.open_gate.result (search rules) c.open_gate.ensures.ok told) (is (Manager slot));
}

pub returns-in_err-copy_versions-clause-damaged : goal.returns-in_err-copy_versions-clause-damaged
returns-in_err-copy_versions-clause-damaged g c =
    let p = err_from_is_err_and c.from_residual.result c.from_residual.ensures.1 in
    let n = c.args.next in
    let w0 = g.H.Host.world c.args.host.now in
    let w1 = g.H.Host.world c.close_gate.new.host in
    let w2 = g.H.Host.world c.write_program.new.host in
    rw (p.1, p.2) λ file place is told each.
    let still = there_still n.live (shapes_in_turn (programs_in c.args.programs.now)) w0.disk w2.disk (grains_kept n.live _ 1 w0 w1 w2 (c.close_gate.ensures.closes told) (c.write_program.ensures.run told)) n.latest each in
    c.in_err-copy_versions.ensures.damaged file place (other_value _ (FolderFault.Damaged file place) is) told
    (subst (AreThere n.live (shapes_in_turn (programs_in c.args.programs.now)) (seen_in w2.disk)) (sym (c.as_mut_slice.ensures.value ∙ c.into_vec-latest.ensures)) still)

pub write_pieces-requires-clause-gate : goal.write_pieces-requires-clause-gate
write_pieces-requires-clause-gate g c told =
    some_left (1 - c.args.next.live) _ 1 _ _ _ (on_ok c.close_gate.result (search rules) c.close_gate.ensures.shut told) (c.write_program.ensures.run told) (c.copy_versions.ensures.only told)

pub returns-in_err-write_pieces-clause-damaged : goal.returns-in_err-write_pieces-clause-damaged
returns-in_err-write_pieces-clause-damaged g c =
    let p = err_from_is_err_and c.from_residual-in_err-write_pieces.result c.from_residual-in_err-write_pieces.ensures.1 in
    rw (p.1, p.2) λ file place is told each. absurd (c.in_err-write_pieces.ensures.whole file place (other_value _ (FolderFault.Damaged file place) is))

pub returns-then-is_err-clause-calls : goal.returns-then-is_err-clause-calls
returns-then-is_err-clause-calls g c =
    let f0 = g.H.Host.faults c.args.host.now in
    let f1 = g.H.Host.faults c.close_gate.new.host in
    record {
      ready = c.close_gate.ensures.ready;
      calm = tt;
      fault = subst (λ (e : FolderFault). ReadFaulted e f0 f1) (sym c.manager_fault.ensures) (c.close_gate.ensures.faults.cause (search rules));
    }

pub returns-then-is_err-2-clause-calls : goal.returns-then-is_err-2-clause-calls
returns-then-is_err-2-clause-calls g c =
    let f0 = g.H.Host.faults c.args.host.now in
    let f1 = g.H.Host.faults c.close_gate.new.host in
    let f2 = g.H.Host.faults c.write_program.new.host in
    let calm1 : NoneFailed f0 f1 = c.close_gate.ensures.faults.calm (search rules) in
    record {
      ready = λ file was. c.write_program.ensures.ready file (c.close_gate.ensures.ready file was);
      calm = tt;
      fault = faulted_before (FolderFault.Failed (ProgramFile (1 - c.args.next.live))) f0 f1 f2 calm1 (c.write_program.ensures.faults.cause (search rules));
    }

pub returns-in_err-copy_versions-clause-calls : goal.returns-in_err-copy_versions-clause-calls
returns-in_err-copy_versions-clause-calls g c =
    let p = err_from_is_err_and c.from_residual.result c.from_residual.ensures.1 in
    let f0 = g.H.Host.faults c.args.host.now in
    let f1 = g.H.Host.faults c.close_gate.new.host in
    let f2 = g.H.Host.faults c.write_program.new.host in
    let f3 = g.H.Host.faults c.copy_versions.new.host in
    let calm1 : NoneFailed f0 f1 = c.close_gate.ensures.faults.calm (search rules) in
    let calm2 : NoneFailed f0 f2 = calm_then f0 f1 f2 calm1 (c.write_program.ensures.faults.calm (search rules)) in
    rw (p.1, p.2) (record {
      ready = λ file was. c.copy_versions.ensures.calls.ready file (c.write_program.ensures.ready file (c.close_gate.ensures.ready file was));
      calm = tt;
      fault = faulted_before c.in_err-copy_versions.field-0.0 f0 f2 f3 calm2 c.in_err-copy_versions.ensures.calls.fault;
    })

pub returns-in_err-write_pieces-clause-calls : goal.returns-in_err-write_pieces-clause-calls
returns-in_err-write_pieces-clause-calls g c =
    let p = err_from_is_err_and c.from_residual-in_err-write_pieces.result c.from_residual-in_err-write_pieces.ensures.1 in
    let f0 = g.H.Host.faults c.args.host.now in
    let f1 = g.H.Host.faults c.close_gate.new.host in
    let f2 = g.H.Host.faults c.write_program.new.host in
    let f3 = g.H.Host.faults c.copy_versions.new.host in
    let f4 = g.H.Host.faults c.write_pieces.new.host in
    let calm1 : NoneFailed f0 f1 = c.close_gate.ensures.faults.calm (search rules) in
    let calm2 : NoneFailed f0 f2 = calm_then f0 f1 f2 calm1 (c.write_program.ensures.faults.calm (search rules)) in
    let calm3 : NoneFailed f0 f3 = calm_then f0 f2 f3 calm2 c.in_ok-copy_versions.ensures.calls.calm in
    rw (p.1, p.2) (record {
      ready = λ file was. c.write_pieces.ensures.calls.ready file (c.copy_versions.ensures.calls.ready file (c.write_program.ensures.ready file (c.close_gate.ensures.ready file was)));
      calm = tt;
      fault = faulted_before c.in_err-write_pieces.field-0.0 f0 f3 f4 calm3 c.in_err-write_pieces.ensures.calls.fault;
    })

pub returns-clause-calls : goal.returns-clause-calls
returns-clause-calls g c =
    let f0 = g.H.Host.faults c.args.host.now in
    let f1 = g.H.Host.faults c.close_gate.new.host in
    let f2 = g.H.Host.faults c.write_program.new.host in
    let f3 = g.H.Host.faults c.copy_versions.new.host in
    let f4 = g.H.Host.faults c.write_pieces.new.host in
    let f5 = g.H.Host.faults c.open_gate.new.host in
    let calm1 : NoneFailed f0 f1 = c.close_gate.ensures.faults.calm (search rules) in
    let calm2 : NoneFailed f0 f2 = calm_then f0 f1 f2 calm1 (c.write_program.ensures.faults.calm (search rules)) in
    let calm3 : NoneFailed f0 f3 = calm_then f0 f2 f3 calm2 c.in_ok-copy_versions.ensures.calls.calm in
    let calm4 : NoneFailed f0 f4 = calm_then f0 f3 f4 calm3 c.in_ok-write_pieces.ensures.calls.calm in
    record {
      ready = λ file was. c.open_gate.ensures.ready file (c.write_pieces.ensures.calls.ready file (c.copy_versions.ensures.calls.ready file (c.write_program.ensures.ready file (c.close_gate.ensures.ready file was))));
      calm = calm_then f0 f4 f5 calm4 (c.open_gate.ensures.faults.calm (search rules));
      fault = tt;
    }
