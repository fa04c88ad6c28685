use Rattle.std.proofs.Common.{rules, ◌≡◌, ◌+◌, ◌≤◌, ℕ, true, is_ok, length, refl, sym, ◌∙◌, ap, subst, arith}
use Rattle.std.specs.Prelude.{Bool}
use Rattle.std.proofs.lemmas.Result.{err_from_is_err_and}
use Rattle.host_trait.specs.Disk.{FileState, after_sync}
use Rattle.host_trait.proofs.Runs.{run_started, run_then, run_more_syncs, run_synced}
use Rattle.log_reading.specs.declared.faults.FolderFault.{FolderFault}
use Rattle.log_reading.proofs.Errors.{other_value}
use Rattle.checkpoint.specs.Steps.{MayBeAny}
use Rattle.checkpoint.specs.CopiedFiles.{BeginsAs}
use Rattle.checkpoint.proofs.CopiedFiles.{ask_still, none_copied_yet, copy_synced}
use Rattle.checkpoint.proofs.copied_files.copy_front.Goals as goal

pub loop-at-init : goal.loop-at-init
loop-at-init g c = record {
  low = omega arith;
  from = c.requires.from;
  to = c.requires.to;
  run = λ told. run_started c.args.to MayBeAny (g.H.Host.world c.args.host.now) (λ d. tt);
  begins = λ told. none_copied_yet _ _;
  calm = λ channel. refl;
  ready = λ file was. was;
}

pub copy_piece-requires-clause-begins : goal.copy_piece-requires-clause-begins
copy_piece-requires-clause-begins g c told =
    let inv = c.loop-at.invariant in
    subst (λ (s : FileState). BeginsAs c.loop-at.at s.seen ((g.H.Host.world c.loop-at.host).disk c.args.to).seen) (sym ((inv.run told).now.others c.args.from c.requires.apart)) (inv.begins told)

pub returns-in_err-copy_piece-clause-run : goal.returns-in_err-copy_piece-clause-run
returns-in_err-copy_piece-clause-run g c told =
    run_more_syncs c.args.to MayBeAny 0 1 _ _ (omega arith) (run_then c.args.to MayBeAny MayBeAny 0 0 _ _ _ (λ e d k one two. tt) (c.loop-at.invariant.run told) (c.copy_piece.ensures.run told))

pub returns-in_err-copy_piece-clause-damaged : goal.returns-in_err-copy_piece-clause-damaged
returns-in_err-copy_piece-clause-damaged g c =
    let p = err_from_is_err_and c.from_residual.result c.from_residual.ensures.1 in
    let inv = c.loop-at.invariant in
    rw (p.1, p.2) λ file place is told within.
    c.in_err-copy_piece.ensures.damaged file place (other_value _ (FolderFault.Damaged file place) is) told
    (subst (λ (s : FileState). c.loop-at.at + c.piece_size-size.result ≤ length s.seen) (sym ((inv.run told).now.others c.args.from c.requires.apart)) (omega (arith, within, inv.low, c.piece_size-size.ensures.within)))

pub loop-at-preserved : goal.loop-at-preserved
loop-at-preserved g c =
    let inv = c.loop-at.invariant in
    let w0 = g.H.Host.world c.args.host.now in
    let w1 = g.H.Host.world c.loop-at.host in
    let w2 = g.H.Host.world c.copy_piece.new.host in
    record {
      low = omega (arith, inv.low, c.piece_size-size.ensures.within);
      from = ask_still _ _ c.args.from c.copy_piece.ensures.calls.ready inv.from;
      to = ask_still _ _ c.args.to c.copy_piece.ensures.calls.ready inv.to;
      run = λ told. run_then c.args.to MayBeAny MayBeAny 0 0 w0 w1 w2 (λ e d k one two. tt) (inv.run told) (c.copy_piece.ensures.run told);
      begins = λ told. subst (λ (s : FileState). BeginsAs (c.loop-at.at + c.piece_size-size.result) s.seen (w2.disk c.args.to).seen) ((inv.run told).now.others c.args.from c.requires.apart) (c.in_ok-copy_piece.ensures.copied told);
      calm = λ channel. c.in_ok-copy_piece.ensures.calls.calm channel ∙ inv.calm channel;
      ready = λ file was. c.copy_piece.ensures.calls.ready file (inv.ready file was);
    }

pub returns-in-Ok-clause-run : goal.returns-in-Ok-clause-run
returns-in-Ok-clause-run g c told =
    run_synced c.args.to MayBeAny 0 _ _ _ (c.loop-at.invariant.run told) (is_ok c.sync.result) (c.sync.ensures.told told) (g.met.H.Host.seen_may_stay c.loop-at.host c.args.to told)

pub returns-in-Err-clause-run : goal.returns-in-Err-clause-run
returns-in-Err-clause-run g c told =
    run_synced c.args.to MayBeAny 0 _ _ _ (c.loop-at.invariant.run told) (is_ok c.sync.result) (c.sync.ensures.told told) (g.met.H.Host.seen_may_stay c.loop-at.host c.args.to told)

pub returns-in-Ok-clause-copied : goal.returns-in-Ok-clause-copied
returns-in-Ok-clause-copied g c told =
    let inv = c.loop-at.invariant in
    let w0 = g.H.Host.world c.args.host.now in
    let w1 = g.H.Host.world c.loop-at.host in
    let w2 = g.H.Host.world c.sync.new.self in
    let done : c.loop-at.at ≡ c.args.end = search (rules, arith) in
    let ok : is_ok c.sync.result ≡ true = search rules in
    copy_synced c.args.end (w0.disk c.args.from).seen (w1.disk c.args.to) (w2.disk c.args.to) (subst (λ (n : ℕ). BeginsAs n (w0.disk c.args.from).seen (w1.disk c.args.to).seen) done (inv.begins told))
    ((c.sync.ensures.told told).state ∙ ap (λ (b : Bool). after_sync b (w1.disk c.args.to)) ok)
