use Rattle.std.proofs.Common.{◌≡◌, ℕ, List, length, ◌∙◌, ap}
use Rattle.host_trait.specs.Disk.{overlaid}
use Rattle.host_trait.specs.World.{Disk}
use Rattle.checkpoint.specs.Steps.{MayBeAny}
use Rattle.checkpoint.proofs.Runs.{looked}
use Rattle.checkpoint.proofs.CopiedFiles.{copy_long, copy_more, piece_run}
use Rattle.checkpoint.proofs.copied_files.copy_piece.Goals as goal

pub returns-in_err-bytes-clause-run : goal.returns-in_err-bytes-clause-run
returns-in_err-bytes-clause-run g c told = looked c.args.to MayBeAny 0 _ _ (λ d. tt) (c.read_piece.ensures.asked told)

pub returns-in-Ok-clause-run : goal.returns-in-Ok-clause-run
returns-in-Ok-clause-run g c told =
    piece_run c.args.to c.args.at (length c.deref.result.now) _ _ _ (c.read_piece.ensures.asked told) (c.write_at.ensures.told told) (g.met.H.Host.seen_may_stay c.read_piece.new.host c.args.to told) (copy_long c.args.at _ _ (c.requires.begins told))

pub returns-in-Ok-clause-copied : goal.returns-in-Ok-clause-copied
returns-in-Ok-clause-copied g c told =
    let w0 = g.H.Host.world c.args.host.now in
    let w2 = g.H.Host.world c.write_at.new.self in
    let from = c.args.from in
    let to = c.args.to in
    let bytes : List ℕ = c.deref.result.now in
    let asked = c.read_piece.ensures.asked told in
    let read = c.in_ok-bytes.ensures.read told in
    let size : length bytes ≡ c.args.size = ap (λ (l : List ℕ). length l) c.deref.ensures.value ∙ c.in_ok-bytes.ensures.size in
    copy_more c.args.at c.args.size (w0.disk from).seen (w0.disk to).seen (w2.disk to).seen bytes (c.requires.begins told) read.0 size (c.deref.ensures.value ∙ read.1)
    ((c.in-Ok.ensures.ok told).seen ∙ ap (λ (d : Disk). overlaid (d to).seen c.args.at bytes) asked.disk)

pub returns-clause-run : goal.returns-clause-run
returns-clause-run g c told =
    piece_run c.args.to c.args.at (length c.deref.result.now) _ _ _ (c.read_piece.ensures.asked told) (c.write_at.ensures.told told) (g.met.H.Host.seen_may_stay c.read_piece.new.host c.args.to told) (copy_long c.args.at _ _ (c.requires.begins told))
