use Rattle.std.proofs.Common.{◌-◌, sym, ◌∙◌, subst, arith}
use Rattle.host_trait.specs.declared.channels.FileId.TheVariants.{Grain}
use Rattle.host_trait.specs.World.{World}
use Rattle.host_trait.specs.Runs.{RunsOnFile}
use Rattle.host_trait.proofs.Runs.{run_started, run_more_syncs}
use Rattle.checkpoint.specs.Steps.{MayBeAny}
use Rattle.checkpoint.proofs.copied_files.copy_file.Goals as goal

pub returns-in_err-ready-clause-run : goal.returns-in_err-ready-clause-run
returns-in_err-ready-clause-run g c told =
    let file = Grain (1 - c.args.live) c.args.grain in
    let w0 = g.H.Host.world c.args.host.now in
    subst (λ (w : World). RunsOnFile file MayBeAny 1 w0 w) (sym (c.ready.ensures.told told))
    (run_more_syncs file MayBeAny 0 1 w0 w0 (omega arith) (run_started file MayBeAny w0 (λ d. tt)))

pub returns-in_err-ready-2-clause-run : goal.returns-in_err-ready-2-clause-run
returns-in_err-ready-2-clause-run g c told =
    let file = Grain (1 - c.args.live) c.args.grain in
    let w0 = g.H.Host.world c.args.host.now in
    subst (λ (w : World). RunsOnFile file MayBeAny 1 w0 w) (sym (c.ready-2.ensures.told told ∙ c.ready.ensures.told told))
    (run_more_syncs file MayBeAny 0 1 w0 w0 (omega arith) (run_started file MayBeAny w0 (λ d. tt)))

pub returns-in_err-copy_front-clause-run : goal.returns-in_err-copy_front-clause-run
returns-in_err-copy_front-clause-run g c told =
    subst (λ (w : World). RunsOnFile (Grain (1 - c.args.live) c.args.grain) MayBeAny 1 w (g.H.Host.world c.copy_front.new.host)) (c.ready-2.ensures.told told ∙ c.ready.ensures.told told) (c.copy_front.ensures.run told)

pub returns-clause-run : goal.returns-clause-run
returns-clause-run g c told =
    subst (λ (w : World). RunsOnFile (Grain (1 - c.args.live) c.args.grain) MayBeAny 1 w (g.H.Host.world c.copy_front.new.host)) (c.ready-2.ensures.told told ∙ c.ready.ensures.told told) (c.copy_front.ensures.run told)
