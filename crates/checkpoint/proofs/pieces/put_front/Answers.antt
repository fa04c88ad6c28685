use Rattle.std.proofs.Common.{◌≡◌, ◌≤◌, ◌++◌, List, length, refl, sym, ◌∙◌, arith}
use Rattle.std.proofs.lemmas.List.{take-append-drop}
use Rattle.std.proofs.lemmas.Result.{err_from_is_err_and}
use Rattle.host_trait.specs.declared.channels.FileId.TheVariants.{Manager}
use Rattle.host_trait.proofs.Runs.{run_started, run_then}
use Rattle.commit_log.specs.declared.records.Named.{Named}
use Rattle.log_reading.specs.declared.faults.FolderFault.{FolderFault}
use Rattle.log_reading.proofs.Errors.{other_value}
use Rattle.checkpoint.specs.Steps.{KeepsGate}
use Rattle.checkpoint.proofs.ManagerBytes.{calm_read}
use Rattle.checkpoint.proofs.Writing.{first_front, more_front}
use Rattle.checkpoint.proofs.pieces.put_front.Goals as goal

pub loop-rest-init : goal.loop-rest-init
loop-rest-init g c = record {
  low = c.requires.behind.0;
  high = c.requires.behind.1;
  run = λ told. run_started (Manager c.args.slot) KeepsGate (g.H.Host.world c.args.host.now) (λ d. refl);
  written = first_front g.H.Host.tells c.args.slot c.args.at c.args.head c.args.copies.now (g.H.Host.world c.args.host.now) (λ told. run_started (Manager c.args.slot) KeepsGate (g.H.Host.world c.args.host.now) (λ d. refl));
  within = c.requires.place;
  calm = λ channel. refl;
  ready = λ file was. was;
}

pub returns-in_err-end-clause-run : goal.returns-in_err-end-clause-run
returns-in_err-end-clause-run g c told =
    run_then (Manager c.args.slot) KeepsGate KeepsGate 0 0 _ _ _ (λ e d k one two. two ∙ one) (c.loop-rest.invariant.run told) (c.put_piece.ensures.run told)

pub returns-in_err-end-clause-calls : goal.returns-in_err-end-clause-calls
returns-in_err-end-clause-calls g c =
    let p = err_from_is_err_and c.from_residual.result c.from_residual.ensures.1 in
    let inv = c.loop-rest.invariant in
    rw (p.1, p.2) (record {
      ready = λ file was. c.put_piece.ensures.calls.ready file (inv.ready file was);
      calm = tt;
      fault = calm_read _ _ _ _ inv.calm c.in_err-end.ensures.calls.fault;
    })

pub loop-rest-preserved : goal.loop-rest-preserved
loop-rest-preserved g c =
    let inv = c.loop-rest.invariant in
    let rest : List Named = c.loop-rest.rest.now in
    let piece : List Named = c.split_at.result.0.now in
    let behind : List Named = c.split_at.result.1.now in
    let front = c.split_at.ensures.front in
    let back = c.split_at.ensures.back in
    let split : rest ≡ piece ++ behind = sym (take-append-drop 65536 rest) ∙ (λ i. sym front i ++ sym back i) in
    let size : length piece ≤ 65536 = omega (arith, c.split_at.ensures.front_len) in
    let w0 = g.H.Host.world c.args.host.now in
    let w1 = g.H.Host.world c.loop-rest.host in
    let w2 = g.H.Host.world c.put_piece.new.host in
    record {
      low = omega (arith, c.in_ok-end.ensures.end.0, inv.low);
      high = c.in_ok-end.ensures.end.1;
      run = λ told. run_then (Manager c.args.slot) KeepsGate KeepsGate 0 0 w0 w1 w2 (λ e d k one two. two ∙ one) (inv.run told) (c.put_piece.ensures.run told);
      written = more_front g.H.Host.tells c.args.slot c.args.at c.loop-rest.end c.in_ok-end.end c.args.head c.args.copies.now rest piece behind w0 w1 w2 inv.written split size c.in_ok-end.ensures.fits c.in_ok-end.ensures.end.0
          c.requires.place c.in_ok-end.ensures.written;
      within = c.in_ok-end.ensures.within;
      calm = λ channel. c.in_ok-end.ensures.calls.calm channel ∙ inv.calm channel;
      ready = λ file was. c.put_piece.ensures.calls.ready file (inv.ready file was);
    }

pub returns-in_err-end-clause-whole : goal.returns-in_err-end-clause-whole
returns-in_err-end-clause-whole g c =
    let p = err_from_is_err_and c.from_residual.result c.from_residual.ensures.1 in
    rw (p.1, p.2) λ other place is. c.in_err-end.ensures.whole other place (other_value _ (FolderFault.Damaged other place) is)
