use Rattle.std.proofs.Common.{rules, ◌≡◌, ◌-◌, ℕ, true, is_ok, refl, ◌∙◌, ap, arith}
use Rattle.std.specs.Prelude.{Bool}
use Rattle.host_trait.specs.declared.channels.FileId.TheVariants.{Manager}
use Rattle.host_trait.specs.Disk.{after_sync}
use Rattle.host_trait.proofs.Runs.{run_more_syncs, run_synced}
use Rattle.checkpoint.specs.Steps.{KeepsGate}
use Rattle.checkpoint.proofs.Runs.{looked}
use Rattle.checkpoint.proofs.MigratedBlocks.{own_manager, keeps_then, keeps_asked, whole_migrated}
use Rattle.checkpoint.proofs.migrated_blocks.migrate_blocks.Goals as goal

pub returns-in_default-clause-run : goal.returns-in_default-clause-run
returns-in_default-clause-run g c told = looked (Manager (1 - c.args.live)) KeepsGate 1 _ _ (λ d. refl) (c.byte_at.ensures.asked told)

pub returns-in_err-at-clause-run : goal.returns-in_err-at-clause-run
returns-in_err-at-clause-run g c told =
    let slot : ℕ = 1 - c.args.live in
    run_more_syncs (Manager slot) KeepsGate 0 1 _ _ (omega arith) (keeps_then slot _ _ _ (keeps_asked slot _ _ (c.byte_at.ensures.asked told)) (c.put_header.ensures.run told))

pub returns-in_err-end-clause-run : goal.returns-in_err-end-clause-run
returns-in_err-end-clause-run g c told =
    let slot : ℕ = 1 - c.args.live in
    run_more_syncs (Manager slot) KeepsGate 0 1 _ _ (omega arith)
    (keeps_then slot _ _ _ (keeps_then slot _ _ _ (keeps_asked slot _ _ (c.byte_at.ensures.asked told)) (c.put_header.ensures.run told)) (c.put_blocks.ensures.run told))

pub returns-in_err-put-clause-run : goal.returns-in_err-put-clause-run
returns-in_err-put-clause-run g c told =
    let slot : ℕ = 1 - c.args.live in
    run_more_syncs (Manager slot) KeepsGate 0 1 _ _ (omega arith)
    (keeps_then slot _ _ _ (keeps_then slot _ _ _ (keeps_then slot _ _ _ (keeps_asked slot _ _ (c.byte_at.ensures.asked told)) (c.put_header.ensures.run told)) (c.put_blocks.ensures.run told)) (c.put.ensures.run told))

pub returns-in-Ok-sync-clause-run : goal.returns-in-Ok-sync-clause-run
returns-in-Ok-sync-clause-run g c told =
    let slot : ℕ = 1 - c.args.live in
    run_synced (Manager slot) KeepsGate 0 _ _ _
    (keeps_then slot _ _ _ (keeps_then slot _ _ _ (keeps_then slot _ _ _ (keeps_asked slot _ _ (c.byte_at.ensures.asked told)) (c.put_header.ensures.run told)) (c.put_blocks.ensures.run told)) (c.put.ensures.run told))
    (is_ok c.sync.result) (c.sync.ensures.told told) (g.met.H.Host.seen_may_stay c.put.new.host (Manager slot) told)

pub returns-in-Err-clause-run : goal.returns-in-Err-clause-run
returns-in-Err-clause-run g c told =
    let slot : ℕ = 1 - c.args.live in
    run_synced (Manager slot) KeepsGate 0 _ _ _
    (keeps_then slot _ _ _ (keeps_then slot _ _ _ (keeps_then slot _ _ _ (keeps_asked slot _ _ (c.byte_at.ensures.asked told)) (c.put_header.ensures.run told)) (c.put_blocks.ensures.run told)) (c.put.ensures.run told))
    (is_ok c.sync.result) (c.sync.ensures.told told) (g.met.H.Host.seen_may_stay c.put.new.host (Manager slot) told)

pub returns-in-Ok-sync-clause-written : goal.returns-in-Ok-sync-clause-written
returns-in-Ok-sync-clause-written g c told =
    let live = c.args.live in
    let w0 = g.H.Host.world c.args.host.now in
    let w1 = g.H.Host.world c.byte_at.new.host in
    let w2 = g.H.Host.world c.put_header.new.host in
    let w3 = g.H.Host.world c.put_blocks.new.host in
    let w4 = g.H.Host.world c.put.new.host in
    let w5 = g.H.Host.world c.sync.new.self in
    let ok : is_ok c.sync.result ≡ true = search rules in
    whole_migrated live c.args.generation c.in-Ok.begins c.in_ok-at.at c.in_ok-end.end w0 w1 w2 w3 w4 w5 (c.requires.gate told) (c.byte_at.ensures.asked told) (c.in-Ok.ensures.told told) (c.in_ok-at.ensures.written told) c.in_ok-at.ensures.end
    ((c.put_header.ensures.run told).now.others (Manager live) (own_manager live c.requires.slot)) (c.in_ok-end.ensures.written told) (c.in_ok-put.ensures.written told)
    ((c.sync.ensures.told told).state ∙ ap (λ (b : Bool). after_sync b (w4.disk (Manager (1 - live)))) ok)
