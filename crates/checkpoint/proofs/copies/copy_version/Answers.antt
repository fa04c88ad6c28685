use Rattle.std.proofs.Common.{◌-◌}
use Rattle.host_trait.specs.declared.channels.FileId.TheVariants.{Grain}
use Rattle.host_trait.proofs.Runs.{run_then}
use Rattle.checkpoint.specs.Steps.{MayBeAny}
use Rattle.checkpoint.proofs.Runs.{only_run, looked}
use Rattle.checkpoint.proofs.copies.copy_version.Goals as goal

pub returns-in-Err-clause-run : goal.returns-in-Err-clause-run
returns-in-Err-clause-run g c told = looked (Grain (1 - c.args.live) c.args.named.written.grain) MayBeAny 1 _ _ (λ d. tt) (c.carried_version.ensures.asked told)

pub returns-clause-run : goal.returns-clause-run
returns-clause-run g c told =
    run_then (Grain (1 - c.args.live) c.args.named.written.grain) MayBeAny MayBeAny 0 1 _ _ _ (λ e d k one two. tt)
    (only_run (Grain (1 - c.args.live) c.args.named.written.grain) MayBeAny _ _ (λ d. tt) (c.carried_version.ensures.asked told)) (c.put_version.ensures.run told)

pub returns-in_err-place-clause-run : goal.returns-in_err-place-clause-run
returns-in_err-place-clause-run g c told =
    run_then (Grain (1 - c.args.live) c.args.named.written.grain) MayBeAny MayBeAny 0 1 _ _ _ (λ e d k one two. tt)
    (only_run (Grain (1 - c.args.live) c.args.named.written.grain) MayBeAny _ _ (λ d. tt) (c.carried_version.ensures.asked told)) (c.put_version.ensures.run told)
