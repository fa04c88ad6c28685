use Rattle.std.proofs.Common.{◌+◌, ◌-◌, ◌<◌, ◌≤◌, List, length, drop, get_or, refl, sym, ◌∙◌, subst, arith}
use Rattle.std.proofs.lemmas.Result.{err_from_is_err_and}
use Rattle.base_types.specs.declared.calls.GrainId.{GrainId}
use Rattle.host_trait.specs.Disk.{FileState}
use Rattle.log_reading.specs.declared.faults.FolderFault.{FolderFault}
use Rattle.log_reading.proofs.Errors.{other_value}
use Rattle.checkpoint.specs.Steps.{MayBeAny}
use Rattle.checkpoint.proofs.GrainFiles.{none_copied, copied_on, live_stays}
use Rattle.checkpoint.proofs.CopiedFiles.{first_files, more_files, all_files, copied_from, next_grain, none_left}
use Rattle.checkpoint.proofs.copied_files.copy_files.Goals as goal

abbrev no_grain : GrainId
no_grain = record { kind = 0; key = 0 }

pub loop-grain-init : goal.loop-grain-init
loop-grain-init g c = record {
  only = λ told. none_copied (1 - c.args.live) (g.H.Host.world c.args.host.now);
  copied = λ told. first_files c.args.live c.args.ends.now (g.H.Host.world c.args.host.now).disk (g.H.Host.world c.args.host.now).disk c.args.grains.now;
  calm = λ channel. refl;
  ready = λ file was. was;
}

pub returns-in_err-copy_named-clause-only : goal.returns-in_err-copy_named-clause-only
returns-in_err-copy_named-clause-only g c told =
    copied_on (1 - c.args.live) (get_or c.args.grains.now c.loop-grain.grain-index no_grain) MayBeAny 1 _ _ _ (c.loop-grain.invariant.only told) (c.copy_named.ensures.run told)

pub returns-in_err-copy_named-clause-damaged : goal.returns-in_err-copy_named-clause-damaged
returns-in_err-copy_named-clause-damaged g c =
    let p = err_from_is_err_and c.from_residual.result c.from_residual.ensures.1 in
    let inv = c.loop-grain.invariant in
    let x : GrainId = get_or c.args.grains.now c.loop-grain.grain-index no_grain in
    rw (p.1, p.2) λ file place is told all.
    c.in_err-copy_named.ensures.damaged file place (other_value _ (FolderFault.Damaged file place) is) told
    (λ end ends. subst (λ (s : FileState). end ≤ length s.seen) (sym (live_stays c.args.live _ _ c.requires.slot (inv.only told) x)) (all x end ends))

pub loop-grain-preserved : goal.loop-grain-preserved
loop-grain-preserved g c =
    let inv = c.loop-grain.invariant in
    let i = c.loop-grain.grain-index in
    let grains : List GrainId = c.args.grains.now in
    let x : GrainId = get_or grains i no_grain in
    let live = c.args.live in
    let w0 = g.H.Host.world c.args.host.now in
    let w1 = g.H.Host.world c.loop-grain.host in
    let w2 = g.H.Host.world c.copy_named.new.host in
    let within : i < length grains = omega arith in
    record {
      only = λ told. copied_on (1 - live) x MayBeAny 1 w0 w1 w2 (inv.only told) (c.copy_named.ensures.run told);
      copied = λ told. more_files live c.args.ends.now w0.disk w1.disk w2.disk grains (drop i grains) (drop (i + 1) grains) x (next_grain i grains no_grain within) (λ file other. (c.copy_named.ensures.run told).now.others file other) (inv.copied told)
          (copied_from live c.args.ends.now w0.disk w1.disk w2.disk x (live_stays live w0 w1 c.requires.slot (inv.only told) x) (c.in_ok-copy_named.ensures.copied told));
      calm = λ channel. c.in_ok-copy_named.ensures.calls.calm channel ∙ inv.calm channel;
      ready = λ file was. c.copy_named.ensures.calls.ready file (inv.ready file was);
    }

pub returns-clause-copied : goal.returns-clause-copied
returns-clause-copied g c told =
    let none = none_left c.loop-grain.grain-index c.args.grains.now c.loop-grain-test.false in
    all_files c.args.live c.args.ends.now _ _ c.args.grains.now (drop c.loop-grain.grain-index c.args.grains.now) none (c.loop-grain.invariant.copied told)
