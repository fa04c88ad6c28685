use Rattle.std.proofs.Common.{rules, ◌≡◌, ◌+◌, ◌-◌, ◌^◌, ◌<◌, ℕ, Bool, List, length, take, drop, refl, sym, ◌∙◌, subst, arith}
use Rattle.std.proofs.lemmas.Result.{err_from_is_err_and}
use Rattle.host_trait.specs.declared.channels.FileId.TheVariants.{Manager}
use Rattle.host_trait.specs.Disk.{FileState}
use Rattle.host_trait.proofs.Runs.{run_started}
use Rattle.gate_block.specs.Blocks.{shut, bad, whole, found_at, block_at}
use Rattle.log_reading.specs.declared.faults.FolderFault.{FolderFault}
use Rattle.log_reading.proofs.Errors.{other_value}
use Rattle.checkpoint.specs.Steps.{KeepsGate}
use Rattle.checkpoint.specs.MigratedBlocks.{with_session, more_follow}
use Rattle.checkpoint.proofs.MigratedBlocks.{AreMigrated, none_migrated, own_manager, keeps_then, keeps_asked, written_asked, asked_written, more_migrated, all_migrated, whole_undamaged}
use Rattle.checkpoint.proofs.migrated_blocks.put_blocks.Goals as goal

pub loop-body-init : goal.loop-body-init
loop-body-init g c = record {
  gate = omega arith;
  low = c.requires.behind.0;
  high = c.requires.behind.1;
  run = λ told. run_started (Manager (1 - c.args.live)) KeepsGate (g.H.Host.world c.args.host.now) (λ d. refl);
  migrated = λ told. none_migrated c.args.begins c.args.live c.args.at (g.H.Host.world c.args.host.now) (c.requires.long told);
  within = c.requires.place;
  calm = λ channel. refl;
  ready = λ file was. was;
}

pub returns-in_err-body-clause-run : goal.returns-in_err-body-clause-run
returns-in_err-body-clause-run g c told = keeps_then (1 - c.args.live) _ _ _ (c.loop-body.invariant.run told) (keeps_asked (1 - c.args.live) _ _ (c.next_body.ensures.asked told))

pub returns-in_err-body-clause-damaged : goal.returns-in_err-body-clause-damaged
returns-in_err-body-clause-damaged g c =
    let p = err_from_is_err_and c.from_residual.result c.from_residual.ensures.1 in
    let inv = c.loop-body.invariant in
    let live = c.args.live in
    rw (p.1, p.2) λ file place is told logged.
    whole_undamaged c.args.begins c.loop-body.is_piece live c.args.at c.loop-body.gate_at c.loop-body.end _ _ (inv.migrated told)
    (subst (λ (s : FileState). found_at c.loop-body.gate_at s.seen ≡ bad) ((inv.run told).now.others (Manager live) (own_manager live c.requires.slot)) (c.in_err-body.ensures.bad file place (other_value _ (FolderFault.Damaged file place) is) told)) logged

pub returns-in_err-end-clause-run : goal.returns-in_err-end-clause-run
returns-in_err-end-clause-run g c told =
    keeps_then (1 - c.args.live) _ _ _ (keeps_then (1 - c.args.live) _ _ _ (c.loop-body.invariant.run told) (keeps_asked (1 - c.args.live) _ _ (c.next_body.ensures.asked told))) (c.put_block.ensures.run told)

pub loop-body-preserved : goal.loop-body-preserved
loop-body-preserved g c =
    let inv = c.loop-body.invariant in
    let live = c.args.live in
    let gate = c.loop-body.gate_at in
    let piece = c.loop-body.is_piece in
    let b : List ℕ = c.as_slice.result.now in
    let w0 = g.H.Host.world c.args.host.now in
    let w1 = g.H.Host.world c.loop-body.host in
    let w2 = g.H.Host.world c.next_body.new.host in
    let w3 = g.H.Host.world c.put_block.new.host in
    let len : c.len.result ≡ length b = search rules in
    let more : c.more_follow-is_piece.result ≡ more_follow piece b = search rules in
    let next : gate + 5 + c.len.result < 2 ^ 63 = search rules in
    let small : length b < 2 ^ 32 = search rules in
    record {
      gate = next;
      low = omega (arith, c.in_ok-end.ensures.end.0, inv.low);
      high = c.in_ok-end.ensures.end.1;
      run = λ told. keeps_then (1 - live) w0 w2 w3 (keeps_then (1 - live) w0 w1 w2 (inv.run told) (keeps_asked (1 - live) w1 w2 (c.next_body.ensures.asked told))) (c.put_block.ensures.run told);
      migrated = λ told.
          let same = (inv.run told).now.others (Manager live) (own_manager live c.requires.slot) in
          let found : found_at gate (w1.disk (Manager live)).seen ≡ whole b = search rules in
          let spelled : take (5 + length b) (drop gate (w1.disk (Manager live)).seen) ≡ block_at b = search rules in
          let one = more_migrated c.args.begins piece live c.args.at gate c.loop-body.end c.in_ok-end.end b w0 w1 w3 (c.requires.place told) (inv.migrated told)
          (subst (λ (s : FileState). found_at gate s.seen ≡ whole b) same found) (subst (λ (s : FileState). take (5 + length b) (drop gate s.seen) ≡ block_at b) same spelled) small c.in_ok-end.ensures.end.0
          (asked_written (1 - live) c.loop-body.end (block_at (with_session piece b)) w1 w2 w3 (c.next_body.ensures.asked told) (c.in_ok-end.ensures.written told)) in
          subst (λ (m : Bool). AreMigrated c.args.begins m live c.args.at (gate + 5 + c.len.result) c.in_ok-end.end w0 w3) (sym more)
          (subst (λ (n : ℕ). AreMigrated c.args.begins (more_follow piece b) live c.args.at (gate + 5 + n) c.in_ok-end.end w0 w3) (sym len) one);
      within = c.in_ok-end.ensures.within;
      calm = λ channel. c.in_ok-end.ensures.calls.calm channel ∙ (c.in_ok-body.ensures.calls.calm channel ∙ inv.calm channel);
      ready = λ file was. c.put_block.ensures.calls.ready file (c.next_body.ensures.calls.ready file (inv.ready file was));
    }

pub returns-clause-run : goal.returns-clause-run
returns-clause-run g c told = keeps_then (1 - c.args.live) _ _ _ (c.loop-body.invariant.run told) (keeps_asked (1 - c.args.live) _ _ (c.next_body.ensures.asked told))

pub returns-clause-written : goal.returns-clause-written
returns-clause-written g c told =
    let inv = c.loop-body.invariant in
    let live = c.args.live in
    let gate = c.loop-body.gate_at in
    let w0 = g.H.Host.world c.args.host.now in
    let w1 = g.H.Host.world c.loop-body.host in
    let w2 = g.H.Host.world c.next_body.new.host in
    let found : found_at gate (w1.disk (Manager live)).seen ≡ shut = search rules in
    written_asked live c.args.at c.loop-body.end c.args.begins w0 w1 w2
    (all_migrated c.args.begins c.loop-body.is_piece live c.args.at gate c.loop-body.end w0 w1 (inv.migrated told)
    (subst (λ (s : FileState). found_at gate s.seen ≡ shut) ((inv.run told).now.others (Manager live) (own_manager live c.requires.slot)) found)) (c.next_body.ensures.asked told)
