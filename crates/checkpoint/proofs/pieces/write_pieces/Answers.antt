use Rattle.std.proofs.Common.{◌≡◌, ◌+◌, ℕ, List, length, true, is_ok, ◌∙◌, ap, subst, arith, rules}
use Rattle.std.specs.Prelude.{Bool}
use Rattle.std.proofs.lemmas.Result.{err_from_is_err_and}
use Rattle.host_trait.specs.declared.channels.FileId.TheVariants.{Manager}
use Rattle.host_trait.specs.Disk.{after_sync}
use Rattle.host_trait.proofs.Runs.{run_then, run_more_syncs, run_synced}
use Rattle.gate_block.specs.Blocks.{block_at}
use Rattle.gate_block.specs.Log.{open_blocks}
use Rattle.log_reading.specs.declared.faults.FolderFault.{FolderFault}
use Rattle.log_reading.proofs.Errors.{other_value}
use Rattle.checkpoint.specs.Steps.{KeepsGate}
use Rattle.checkpoint.specs.Copies.{writes_named}
use Rattle.checkpoint.specs.ManagerBytes.{HasWritten}
use Rattle.checkpoint.specs.Pieces.{spelled_with, front_bodies}
use Rattle.checkpoint.proofs.Writing.{whole_pieces}
use Rattle.checkpoint.proofs.pieces.write_pieces.Goals as goal

pub returns-in_err-at-clause-run : goal.returns-in_err-at-clause-run
returns-in_err-at-clause-run g c told = run_more_syncs (Manager c.args.slot) KeepsGate 0 1 _ _ (omega arith) (c.put_header.ensures.run told)

pub returns-in_err-front-clause-run : goal.returns-in_err-front-clause-run
returns-in_err-front-clause-run g c told =
    run_more_syncs (Manager c.args.slot) KeepsGate 0 1 _ _ (omega arith) (run_then (Manager c.args.slot) KeepsGate KeepsGate 0 0 _ _ _ (λ e d k one two. two ∙ one) (c.put_header.ensures.run told) (c.put_front.ensures.run told))

pub returns-in_err-end-clause-run : goal.returns-in_err-end-clause-run
returns-in_err-end-clause-run g c told =
    run_more_syncs (Manager c.args.slot) KeepsGate 0 1 _ _ (omega arith)
    (run_then (Manager c.args.slot) KeepsGate KeepsGate 0 0 _ _ _ (λ e d k one two. two ∙ one)
    (run_then (Manager c.args.slot) KeepsGate KeepsGate 0 0 _ _ _ (λ e d k one two. two ∙ one) (c.put_header.ensures.run told) (c.put_front.ensures.run told)) (c.put_piece.ensures.run told))

pub returns-in_err-put-clause-run : goal.returns-in_err-put-clause-run
returns-in_err-put-clause-run g c told =
    run_more_syncs (Manager c.args.slot) KeepsGate 0 1 _ _ (omega arith)
    (run_then (Manager c.args.slot) KeepsGate KeepsGate 0 0 _ _ _ (λ e d k one two. two ∙ one)
    (run_then (Manager c.args.slot) KeepsGate KeepsGate 0 0 _ _ _ (λ e d k one two. two ∙ one)
    (run_then (Manager c.args.slot) KeepsGate KeepsGate 0 0 _ _ _ (λ e d k one two. two ∙ one) (c.put_header.ensures.run told) (c.put_front.ensures.run told)) (c.put_piece.ensures.run told)) (c.put.ensures.run told))

pub returns-in-Ok-clause-run : goal.returns-in-Ok-clause-run
returns-in-Ok-clause-run g c told =
    run_synced (Manager c.args.slot) KeepsGate 0 _ _ _
    (run_then (Manager c.args.slot) KeepsGate KeepsGate 0 0 _ _ _ (λ e d k one two. two ∙ one)
    (run_then (Manager c.args.slot) KeepsGate KeepsGate 0 0 _ _ _ (λ e d k one two. two ∙ one)
    (run_then (Manager c.args.slot) KeepsGate KeepsGate 0 0 _ _ _ (λ e d k one two. two ∙ one) (c.put_header.ensures.run told) (c.put_front.ensures.run told)) (c.put_piece.ensures.run told)) (c.put.ensures.run told))
    (is_ok c.sync.result) (c.sync.ensures.told told) (g.met.H.Host.seen_may_stay c.put.new.host (Manager c.args.slot) told)

pub returns-in-Err-clause-run : goal.returns-in-Err-clause-run
returns-in-Err-clause-run g c told =
    run_synced (Manager c.args.slot) KeepsGate 0 _ _ _
    (run_then (Manager c.args.slot) KeepsGate KeepsGate 0 0 _ _ _ (λ e d k one two. two ∙ one)
    (run_then (Manager c.args.slot) KeepsGate KeepsGate 0 0 _ _ _ (λ e d k one two. two ∙ one)
    (run_then (Manager c.args.slot) KeepsGate KeepsGate 0 0 _ _ _ (λ e d k one two. two ∙ one) (c.put_header.ensures.run told) (c.put_front.ensures.run told)) (c.put_piece.ensures.run told)) (c.put.ensures.run told))
    (is_ok c.sync.result) (c.sync.ensures.told told) (g.met.H.Host.seen_may_stay c.put.new.host (Manager c.args.slot) told)

pub returns-in-Ok-clause-written : goal.returns-in-Ok-clause-written
returns-in-Ok-clause-written g c told =
    let slot = c.args.slot in
    let head = c.args.head in
    let w0 = g.H.Host.world c.args.host.now in
    let w1 = g.H.Host.world c.put_header.new.host in
    let w2 = g.H.Host.world c.put_front.new.host in
    let w3 = g.H.Host.world c.put_piece.new.host in
    let w4 = g.H.Host.world c.put.new.host in
    let w5 = g.H.Host.world c.sync.new.self in
    let made = c.in_ok-front.ensures.written in
    let blocks : List ℕ = open_blocks (front_bodies head made.front) in
    let block : List ℕ = block_at (spelled_with head 0 (writes_named c.in_ok-front.front.rest.now)) in
    let begins : c.in_ok-at.at ≡ 15 = c.in_ok-at.ensures.end in
    let first_end : c.in_ok-front.front.end ≡ 15 + length blocks = made.ends ∙ ap (λ (k : ℕ). k + length blocks) begins in
    let last_end : c.in_ok-end.end ≡ 15 + length blocks + length block = c.in_ok-end.ensures.end.0 ∙ ap (λ (k : ℕ). k + length block) first_end in
    let ok : is_ok c.sync.result ≡ true = search rules in
    whole_pieces slot c.args.generation head c.args.copies.now c.in_ok-front.front.rest.now w0 w1 w2 w3 w4 w5 (c.requires.gate told) (c.in_ok-at.ensures.written told) made.front made.all made.sizes made.fits c.in_ok-front.ensures.size c.in_ok-end.ensures.fits
    (subst (λ (k : ℕ). HasWritten slot k blocks w1 w2) begins (made.written told)) (subst (λ (k : ℕ). HasWritten slot k block w2 w3) first_end (c.in_ok-end.ensures.written told))
    (subst (λ (k : ℕ). HasWritten slot k _ w3 w4) last_end (c.in_ok-put.ensures.written told))
    ((c.sync.ensures.told told).state ∙ ap (λ (b : Bool). after_sync b (w4.disk (Manager slot))) ok)

pub returns-in_err-at-clause-whole : goal.returns-in_err-at-clause-whole
returns-in_err-at-clause-whole g c =
    let p = err_from_is_err_and c.from_residual.result c.from_residual.ensures.1 in
    rw (p.1, p.2) λ other place is. c.in_err-at.ensures.whole other place (other_value _ (FolderFault.Damaged other place) is)

pub returns-in_err-front-clause-whole : goal.returns-in_err-front-clause-whole
returns-in_err-front-clause-whole g c =
    let p = err_from_is_err_and c.from_residual-in_err-front.result c.from_residual-in_err-front.ensures.1 in
    rw (p.1, p.2) λ other place is. c.in_err-front.ensures.whole other place (other_value _ (FolderFault.Damaged other place) is)

pub returns-in_err-end-clause-whole : goal.returns-in_err-end-clause-whole
returns-in_err-end-clause-whole g c =
    let p = err_from_is_err_and c.from_residual-in_err-end.result c.from_residual-in_err-end.ensures.1 in
    rw (p.1, p.2) λ other place is. c.in_err-end.ensures.whole other place (other_value _ (FolderFault.Damaged other place) is)

pub returns-in_err-put-clause-whole : goal.returns-in_err-put-clause-whole
returns-in_err-put-clause-whole g c =
    let p = err_from_is_err_and c.from_residual-in_err-put.result c.from_residual-in_err-put.ensures.1 in
    rw (p.1, p.2) λ other place is. c.in_err-put.ensures.whole other place (other_value _ (FolderFault.Damaged other place) is)
