use Rattle.std.proofs.Common.{◌-◌}
use Rattle.host_trait.specs.declared.channels.FileId.TheVariants.{Program as ProgramFile}
use Rattle.host_trait.proofs.Runs.{run_then, run_weaker}
use Rattle.checkpoint.specs.Steps.{MayBeAny}
use Rattle.checkpoint.proofs.Runs.{only_run, looked}
use Rattle.checkpoint.proofs.copied_program.copy_program.Goals as goal

pub returns-in-Err-Damaged-clause-run : goal.returns-in-Err-Damaged-clause-run
returns-in-Err-Damaged-clause-run g c told = looked (ProgramFile (1 - c.args.live)) MayBeAny 1 _ _ (λ d. tt) (c.read_text.ensures.asked told)

pub returns-in-Err-Failed-clause-run : goal.returns-in-Err-Failed-clause-run
returns-in-Err-Failed-clause-run g c told = looked (ProgramFile (1 - c.args.live)) MayBeAny 1 _ _ (λ d. tt) (c.read_text.ensures.asked told)

pub returns-in-Err-Memory-clause-run : goal.returns-in-Err-Memory-clause-run
returns-in-Err-Memory-clause-run g c told = looked (ProgramFile (1 - c.args.live)) MayBeAny 1 _ _ (λ d. tt) (c.read_text.ensures.asked told)

pub returns-in-Ok-write_program-clause-run : goal.returns-in-Ok-write_program-clause-run
returns-in-Ok-write_program-clause-run g c told =
    run_then (ProgramFile (1 - c.args.live)) MayBeAny MayBeAny 0 1 _ _ _ (λ e d k one two. tt) (only_run (ProgramFile (1 - c.args.live)) MayBeAny _ _ (λ d. tt) (c.read_text.ensures.asked told))
    (run_weaker (ProgramFile (1 - c.args.live)) _ MayBeAny 1 _ _ (λ d e tears. tt) (c.write_program.ensures.run told))

pub returns-clause-run : goal.returns-clause-run
returns-clause-run g c told =
    run_then (ProgramFile (1 - c.args.live)) MayBeAny MayBeAny 0 1 _ _ _ (λ e d k one two. tt) (only_run (ProgramFile (1 - c.args.live)) MayBeAny _ _ (λ d. tt) (c.read_text.ensures.asked told))
    (run_weaker (ProgramFile (1 - c.args.live)) _ MayBeAny 1 _ _ (λ d e tears. tt) (c.write_program.ensures.run told))
