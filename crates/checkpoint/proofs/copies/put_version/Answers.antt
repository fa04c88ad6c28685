use Rattle.host_trait.proofs.Runs.{run_weaker}
use Rattle.checkpoint.specs.Steps.{MayBeAny}
use Rattle.checkpoint.proofs.copies.put_version.Goals as goal

pub returns-in-Ok-clause-run : goal.returns-in-Ok-clause-run
returns-in-Ok-clause-run g c told = run_weaker c.args.file _ MayBeAny 1 _ _ (λ d e tears. tt) (c.write_versions.ensures.run told)

pub returns-in-Err-Failed-clause-run : goal.returns-in-Err-Failed-clause-run
returns-in-Err-Failed-clause-run g c told = run_weaker c.args.file _ MayBeAny 1 _ _ (λ d e tears. tt) (c.write_versions.ensures.run told)

pub returns-clause-run : goal.returns-clause-run
returns-clause-run g c told = run_weaker c.args.file _ MayBeAny 1 _ _ (λ d e tears. tt) (c.write_versions.ensures.run told)
