use Rattle.std.proofs.Common.{◌≡◌, ◌+◌, ◌++◌, ℕ, List, length, is_ok, ◌∙◌, ap, arith, rules}
use Rattle.std.specs.Int.{w32, to_le_bytes}
use Rattle.host_trait.specs.Disk.{Tears, settled, overlaid}
use Rattle.host_trait.proofs.Runs.{run_synced, run_more_syncs}
use Rattle.host_trait.specs.declared.channels.FileId.TheVariants.{Program as ProgramFile}
use Rattle.silo_opening.proofs.FolderFilling.{length_written, text_written, text_stands}
use Rattle.silo_opening.proofs.creation.write_program.Goals as goal

pub returns-in_err-write_at-clause-run : goal.returns-in_err-write_at-clause-run
returns-in_err-write_at-clause-run g c told =
    let n : ℕ = length c.args.program.now in
    run_more_syncs (ProgramFile c.args.slot) (Tears 0 (4 + n)) 0 1 _ _ (omega arith) (length_written c.args.slot c.to_le_bytes-length.result n _ _ (search rules) (c.write_at.ensures.told told) (g.met.H.Host.seen_may_stay c.args.host.now (ProgramFile c.args.slot) told))

pub returns-in_err-write_at-2-clause-run : goal.returns-in_err-write_at-2-clause-run
returns-in_err-write_at-2-clause-run g c told =
    let n : ℕ = length c.args.program.now in
    run_more_syncs (ProgramFile c.args.slot) (Tears 0 (4 + n)) 0 1 _ _ (omega arith)
    (text_written c.args.slot c.to_le_bytes-length.result n _ _ _ (search rules) (c.write_at.ensures.told told) (g.met.H.Host.seen_may_stay c.args.host.now (ProgramFile c.args.slot) told) (c.in_ok-write_at.ensures.ok told) (c.write_at-2.ensures.told told)
    (g.met.H.Host.seen_may_stay c.write_at.new.self (ProgramFile c.args.slot) told))

pub returns-in_err-sync-clause-run : goal.returns-in_err-sync-clause-run
returns-in_err-sync-clause-run g c told =
    let n : ℕ = length c.args.program.now in
    run_synced (ProgramFile c.args.slot) (Tears 0 (4 + n)) 0 _ _ _
    (text_written c.args.slot c.to_le_bytes-length.result n _ _ _ (search rules) (c.write_at.ensures.told told) (g.met.H.Host.seen_may_stay c.args.host.now (ProgramFile c.args.slot) told) (c.in_ok-write_at.ensures.ok told) (c.write_at-2.ensures.told told)
    (g.met.H.Host.seen_may_stay c.write_at.new.self (ProgramFile c.args.slot) told))
    (is_ok c.sync.result) (c.sync.ensures.told told) (g.met.H.Host.seen_may_stay c.write_at-2.new.self (ProgramFile c.args.slot) told)

pub returns-clause-run : goal.returns-clause-run
returns-clause-run g c told =
    let n : ℕ = length c.args.program.now in
    run_synced (ProgramFile c.args.slot) (Tears 0 (4 + n)) 0 _ _ _
    (text_written c.args.slot c.to_le_bytes-length.result n _ _ _ (search rules) (c.write_at.ensures.told told) (g.met.H.Host.seen_may_stay c.args.host.now (ProgramFile c.args.slot) told) (c.in_ok-write_at.ensures.ok told) (c.write_at-2.ensures.told told)
    (g.met.H.Host.seen_may_stay c.write_at.new.self (ProgramFile c.args.slot) told))
    (is_ok c.sync.result) (c.sync.ensures.told told) (g.met.H.Host.seen_may_stay c.write_at-2.new.self (ProgramFile c.args.slot) told)

pub returns-clause-ok : goal.returns-clause-ok
returns-clause-ok g c told =
    let file = ProgramFile c.args.slot in
    let w0 = g.H.Host.world c.args.host.now in
    let text : List ℕ = c.args.program.now in
    let head : c.to_le_bytes-length.result ≡ to_le_bytes w32 (length text) = search rules in
    (c.in_ok-sync.ensures.told told).state
    ∙ ap settled (text_stands (w0.disk file) _ _ c.to_le_bytes-length.result text (search rules) (c.in_ok-write_at.ensures.ok told) (c.in_ok-write_at-2.ensures.ok told) ∙ ap (λ (h : List ℕ). overlaid (w0.disk file).seen 0 (h ++ text)) head)
