use Rattle.std.proofs.Common.{◌≡◌, ◌≤◌, ◌-◌, length, false, Result, Ok, Err, rules, sym, subst}
use Rattle.std.specs.Prelude.{is_err, OnOk}
use Rattle.std.specs.List.{AllByRecursion}
use Rattle.std.proofs.lemmas.Result.{err_from_is_err_and}
use Rattle.host_trait.specs.declared.channels.FileId.TheVariants.{Manager, Program as ProgramFile}
use Rattle.host_trait.specs.Disk.{FileState}
use Rattle.field_codec.specs.declared.formats.Format.TheVariants.{One}
use Rattle.gate_block.specs.Log.{IsWhole}
use Rattle.log_reading.specs.declared.faults.FolderFault.{FolderFault}
use Rattle.log_reading.proofs.Errors.{other_value}
use Rattle.program_file.specs.Files.{text_in_file}
use Rattle.checkpoint.specs.CopiedFiles.{IsCopiedFile}
use Rattle.checkpoint.specs.Steps.{MayBeAny}
use Rattle.checkpoint.proofs.Fillings.{closes_quietly, run_quietly, copies_quietly, then_quietly, some_left, first_gone, second_filled, third_filled, fourth_filled}
use Rattle.checkpoint.proofs.MigratedSlots.{text_of, copied_gone, copied_done, live_program, live_grain, live_manager}
use Rattle.checkpoint.proofs.migration.copy_silo.Goals as goal

-- none was answered
on_ok : {T E : Type 0} (r : Result T E) {P : Type 0} → is_err r ≡ false → OnOk r P → P
on_ok (Ok x) is holds = holds
on_ok (Err e) is holds = absurd (cc is)

pub returns-then-is_err-clause-gone : goal.returns-then-is_err-clause-gone
returns-then-is_err-clause-gone g c told log may =
    let n = c.args.silo.now in
    first_gone One n.live log log (g.H.Host.world c.args.host.now) (g.H.Host.world c.close_gate.new.host) (g.H.Host.world c.close_gate.new.host) may.can may.shown (c.close_gate.ensures.closes told)

pub returns-then-is_err-clause-quietly : goal.returns-then-is_err-clause-quietly
returns-then-is_err-clause-quietly g c told = closes_quietly (1 - c.args.silo.now.live) _ _ (c.close_gate.ensures.closes told)

pub returns-in_err-copy_program-clause-gone : goal.returns-in_err-copy_program-clause-gone
returns-in_err-copy_program-clause-gone g c told log may =
    let n = c.args.silo.now in
    let w0 = g.H.Host.world c.args.host.now in
    let w1 = g.H.Host.world c.close_gate.new.host in
    let w2 = g.H.Host.world c.copy_program.new.host in
    let shut = on_ok c.close_gate.result (search rules) c.close_gate.ensures.shut told in
    (second_filled One n.live log log w0 w1 w2 may.can may.shown (c.close_gate.ensures.closes told) shut MayBeAny 1 (c.copy_program.ensures.run told)).gone

pub returns-in_err-copy_program-clause-quietly : goal.returns-in_err-copy_program-clause-quietly
returns-in_err-copy_program-clause-quietly g c told =
    let n = c.args.silo.now in
    then_quietly _ _ _ (closes_quietly (1 - n.live) _ _ (c.close_gate.ensures.closes told)) (run_quietly (ProgramFile (1 - n.live)) MayBeAny 1 _ _ (c.copy_program.ensures.run told))

pub returns-in_err-copy_files-clause-gone : goal.returns-in_err-copy_files-clause-gone
returns-in_err-copy_files-clause-gone g c told log may =
    let n = c.args.silo.now in
    let w0 = g.H.Host.world c.args.host.now in
    let w1 = g.H.Host.world c.close_gate.new.host in
    let w2 = g.H.Host.world c.copy_program.new.host in
    let w3 = g.H.Host.world c.copy_files.new.host in
    let shut = on_ok c.close_gate.result (search rules) c.close_gate.ensures.shut told in
    (third_filled One n.live log log w0 w1 w2 may.can may.shown (c.close_gate.ensures.closes told) shut MayBeAny 1 (c.copy_program.ensures.run told) w3 (c.copy_files.ensures.only told)).gone

pub returns-in_err-copy_files-clause-quietly : goal.returns-in_err-copy_files-clause-quietly
returns-in_err-copy_files-clause-quietly g c told =
    let n = c.args.silo.now in
    then_quietly _ _ _ (then_quietly _ _ _ (closes_quietly (1 - n.live) _ _ (c.close_gate.ensures.closes told)) (run_quietly (ProgramFile (1 - n.live)) MayBeAny 1 _ _ (c.copy_program.ensures.run told)))
    (copies_quietly (1 - n.live) _ _ (c.copy_files.ensures.only told))

pub returns-in_err-migrate_blocks-clause-gone : goal.returns-in_err-migrate_blocks-clause-gone
returns-in_err-migrate_blocks-clause-gone g c told log may =
    let n = c.args.silo.now in
    let w0 = g.H.Host.world c.args.host.now in
    let w1 = g.H.Host.world c.close_gate.new.host in
    let w2 = g.H.Host.world c.copy_program.new.host in
    let w3 = g.H.Host.world c.copy_files.new.host in
    let w4 = g.H.Host.world c.migrate_blocks.new.host in
    let shut = on_ok c.close_gate.result (search rules) c.close_gate.ensures.shut told in
    (fourth_filled One n.live log log w0 w1 w2 may.can may.shown (c.close_gate.ensures.closes told) shut MayBeAny 1 (c.copy_program.ensures.run told) w3 (c.copy_files.ensures.only told) w4 1 (c.migrate_blocks.ensures.run told)).gone

pub returns-in_err-migrate_blocks-clause-quietly : goal.returns-in_err-migrate_blocks-clause-quietly
returns-in_err-migrate_blocks-clause-quietly g c told =
    let n = c.args.silo.now in
    then_quietly _ _ _ (then_quietly _ _ _ (then_quietly _ _ _ (closes_quietly (1 - n.live) _ _ (c.close_gate.ensures.closes told)) (run_quietly (ProgramFile (1 - n.live)) MayBeAny 1 _ _ (c.copy_program.ensures.run told)))
    (copies_quietly (1 - n.live) _ _ (c.copy_files.ensures.only told))) (run_quietly (Manager (1 - n.live)) _ 1 _ _ (c.migrate_blocks.ensures.run told))

pub returns-then-is_err-2-clause-gone : goal.returns-then-is_err-2-clause-gone
returns-then-is_err-2-clause-gone g c told log may =
    let n = c.args.silo.now in
    let w0 = g.H.Host.world c.args.host.now in
    let w1 = g.H.Host.world c.close_gate.new.host in
    let w2 = g.H.Host.world c.copy_program.new.host in
    let w3 = g.H.Host.world c.copy_files.new.host in
    let w4 = g.H.Host.world c.migrate_blocks.new.host in
    let w5 = g.H.Host.world c.open_gate.new.host in
    let shut = on_ok c.close_gate.result (search rules) c.close_gate.ensures.shut told in
    let copied : AllByRecursion (IsCopiedFile n.live n.ends w2.disk w3.disk) n.grains =
    subst (AllByRecursion (IsCopiedFile n.live n.ends w2.disk w3.disk)) c.as_slice.ensures (c.in_ok-copy_files.ensures.copied told) in
    copied_gone n log w0 w1 w2 may.can may.shown (c.close_gate.ensures.closes told) shut MayBeAny 1 (c.copy_program.ensures.run told) w3 (c.copy_files.ensures.only told) w4 1 (c.migrate_blocks.ensures.run told)
    may.made c.requires.generation (c.in_ok-copy_program.ensures.copied told) copied (c.in_ok-migrate_blocks.ensures.written told) w5 (c.open_gate.ensures.run told)

pub returns-then-is_err-2-clause-quietly : goal.returns-then-is_err-2-clause-quietly
returns-then-is_err-2-clause-quietly g c told =
    let n = c.args.silo.now in
    then_quietly _ _ _ (then_quietly _ _ _ (then_quietly _ _ _ (then_quietly _ _ _ (closes_quietly (1 - n.live) _ _ (c.close_gate.ensures.closes told)) (run_quietly (ProgramFile (1 - n.live)) MayBeAny 1 _ _ (c.copy_program.ensures.run told)))
    (copies_quietly (1 - n.live) _ _ (c.copy_files.ensures.only told))) (run_quietly (Manager (1 - n.live)) _ 1 _ _ (c.migrate_blocks.ensures.run told)))
    (run_quietly (Manager (1 - n.live)) _ 1 _ _ (c.open_gate.ensures.run told))

pub returns-clause-gone : goal.returns-clause-gone
returns-clause-gone g c told log may =
    let n = c.args.silo.now in
    let w0 = g.H.Host.world c.args.host.now in
    let w1 = g.H.Host.world c.close_gate.new.host in
    let w2 = g.H.Host.world c.copy_program.new.host in
    let w3 = g.H.Host.world c.copy_files.new.host in
    let w4 = g.H.Host.world c.migrate_blocks.new.host in
    let w5 = g.H.Host.world c.open_gate.new.host in
    let shut = on_ok c.close_gate.result (search rules) c.close_gate.ensures.shut told in
    let copied : AllByRecursion (IsCopiedFile n.live n.ends w2.disk w3.disk) n.grains =
    subst (AllByRecursion (IsCopiedFile n.live n.ends w2.disk w3.disk)) c.as_slice.ensures (c.in_ok-copy_files.ensures.copied told) in
    copied_gone n log w0 w1 w2 may.can may.shown (c.close_gate.ensures.closes told) shut MayBeAny 1 (c.copy_program.ensures.run told) w3 (c.copy_files.ensures.only told) w4 1 (c.migrate_blocks.ensures.run told)
    may.made c.requires.generation (c.in_ok-copy_program.ensures.copied told) copied (c.in_ok-migrate_blocks.ensures.written told) w5 (c.open_gate.ensures.run told)

pub returns-clause-quietly : goal.returns-clause-quietly
returns-clause-quietly g c told =
    let n = c.args.silo.now in
    then_quietly _ _ _ (then_quietly _ _ _ (then_quietly _ _ _ (then_quietly _ _ _ (closes_quietly (1 - n.live) _ _ (c.close_gate.ensures.closes told)) (run_quietly (ProgramFile (1 - n.live)) MayBeAny 1 _ _ (c.copy_program.ensures.run told)))
    (copies_quietly (1 - n.live) _ _ (c.copy_files.ensures.only told))) (run_quietly (Manager (1 - n.live)) _ 1 _ _ (c.migrate_blocks.ensures.run told)))
    (run_quietly (Manager (1 - n.live)) _ 1 _ _ (c.open_gate.ensures.run told))

pub returns-clause-done : goal.returns-clause-done
returns-clause-done g c told log may =
    let n = c.args.silo.now in
    let w0 = g.H.Host.world c.args.host.now in
    let w1 = g.H.Host.world c.close_gate.new.host in
    let w2 = g.H.Host.world c.copy_program.new.host in
    let w3 = g.H.Host.world c.copy_files.new.host in
    let w4 = g.H.Host.world c.migrate_blocks.new.host in
    let w5 = g.H.Host.world c.open_gate.new.host in
    let shut = on_ok c.close_gate.result (search rules) c.close_gate.ensures.shut told in
    let copied : AllByRecursion (IsCopiedFile n.live n.ends w2.disk w3.disk) n.grains =
    subst (AllByRecursion (IsCopiedFile n.live n.ends w2.disk w3.disk)) c.as_slice.ensures (c.in_ok-copy_files.ensures.copied told) in
    copied_done n log w0 w1 w2 may.can may.shown (c.close_gate.ensures.closes told) shut MayBeAny 1 (c.copy_program.ensures.run told) w3 (c.copy_files.ensures.only told) w4 1 (c.migrate_blocks.ensures.run told)
    may.made c.requires.generation (c.in_ok-copy_program.ensures.copied told) copied (c.in_ok-migrate_blocks.ensures.written told) w5 (c.open_gate.ensures.run told) (on_ok c.open_gate.result (search rules) c.open_gate.ensures.ok told)

-- ---- no file is found damaged that can be read

pub returns-in_err-copy_program-clause-damaged : goal.returns-in_err-copy_program-clause-damaged
returns-in_err-copy_program-clause-damaged g c =
    let p = err_from_is_err_and c.from_residual.result c.from_residual.ensures.1 in
    let n = c.args.silo.now in
    rw (p.1, p.2) λ file place is told can.
    c.in_err-copy_program.ensures.damaged file place (other_value _ (FolderFault.Damaged file place) is) told can.program.text
    (subst (λ (s : FileState). text_in_file s.seen ≡ Ok can.program.text) (sym (live_program n.live _ _ c.requires.slot (c.close_gate.ensures.closes told))) (text_of ((g.H.Host.world c.args.host.now).disk (ProgramFile n.live)).seen can.program can.first))

pub returns-in_err-copy_files-clause-damaged : goal.returns-in_err-copy_files-clause-damaged
returns-in_err-copy_files-clause-damaged g c =
    let p = err_from_is_err_and c.from_residual-in_err-copy_files.result c.from_residual-in_err-copy_files.ensures.1 in
    let n = c.args.silo.now in
    rw (p.1, p.2) λ file place is told can.
    c.in_err-copy_files.ensures.damaged file place (other_value _ (FolderFault.Damaged file place) is) told
    (λ grain end ends. subst (λ (s : FileState). end ≤ length s.seen) (sym (live_grain n.live _ _ _ MayBeAny 1 c.requires.slot (c.close_gate.ensures.closes told) (c.copy_program.ensures.run told) grain)) (can.within grain end ends))

pub returns-in_err-migrate_blocks-clause-damaged : goal.returns-in_err-migrate_blocks-clause-damaged
returns-in_err-migrate_blocks-clause-damaged g c =
    let p = err_from_is_err_and c.from_residual-in_err-migrate_blocks.result c.from_residual-in_err-migrate_blocks.ensures.1 in
    let n = c.args.silo.now in
    rw (p.1, p.2) λ file place is told can.
    c.in_err-migrate_blocks.ensures.damaged file place (other_value _ (FolderFault.Damaged file place) is) told
    (subst (λ (s : FileState). IsWhole s.seen) (sym (live_manager n.live _ _ _ _ MayBeAny 1 c.requires.slot (c.close_gate.ensures.closes told) (c.copy_program.ensures.run told) (c.copy_files.ensures.only told))) can.whole)

pub migrate_blocks-requires-clause-gate : goal.migrate_blocks-requires-clause-gate
migrate_blocks-requires-clause-gate g c told =
    let n = c.args.silo.now in
    let shut = on_ok c.close_gate.result (search rules) c.close_gate.ensures.shut told in
    some_left (1 - n.live) MayBeAny 1 _ _ _ shut (c.copy_program.ensures.run told) (c.copy_files.ensures.only told)

pub migrate_blocks-requires-clause-long : goal.migrate_blocks-requires-clause-long
migrate_blocks-requires-clause-long g c told =
    let n = c.args.silo.now in
    subst (λ (s : FileState). 16 ≤ length s.seen) (sym (live_manager n.live _ _ _ _ MayBeAny 1 c.requires.slot (c.close_gate.ensures.closes told) (c.copy_program.ensures.run told) (c.copy_files.ensures.only told))) (c.requires.long told)
