use Rattle.std.proofs.Common.{refl}
use Rattle.history_core.specs.Cores.{run_of}
use Rattle.script_tree.specs.Programs.{program_tree}
use Rattle.unit_crew.specs.Crews.{IsBasisOf}
use Rattle.silo_workers.proofs.PassReturns.{worked-idle}
use Rattle.silo_workers.proofs.work.work.Goals as goal

pub returns-then-load : goal.returns-then-load
returns-then-load g c =
    record { back = ((refl, c.requires.fresh.0.1, c.requires.fresh.0.2, c.requires.fresh.0.3), worked-idle run_of (IsBasisOf (program_tree c.args.checked.now) c.args.before (g.L.Lines.lines c.args.lines)) c.args.pass.me.0 c.requires.fresh.3, tt) }
