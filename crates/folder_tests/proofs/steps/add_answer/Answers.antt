use Rattle.std.proofs.Common.{length}
use Rattle.folder_tests.proofs.steps.add_answer.Goals as goal

pub write_at-requires-clause-place : goal.write_at-requires-clause-place
write_at-requires-clause-place g c told =
    c.requires.untold c.args.step.now.at (length ((g.H.Host.world c.ready.new.self).disk c.args.file).seen) told
