use Rattle.std.proofs.Common.{true≢false, sym, ◌∙◌}
use Rattle.script_tree.specs.Programs.{program_tree}
use Rattle.core_access.specs.PassSights.{sight_of}
use Rattle.history_core.specs.Cores.{run_of}
use Rattle.unit_crew.specs.Crews.{IsBasisOf}
use Rattle.worker_rules.proofs.JoinedPasses.{gathers-returns}
use Rattle.silo_workers.specs.WorkerPasses.{HasWorked}
use Rattle.silo_workers.specs.declared.work.WorkEnd.TheVariants.{Idle}
use Rattle.silo_workers.proofs.PassReturns.{returned-same}
use Rattle.silo_workers.proofs.JoinedPasses.{settles-none}
use Rattle.silo_workers.proofs.crowd.settle_for.Goals as goal
use Rattle.run_books.specs.Stages.{side_of}

pub returns-then-not-started-clause-together : goal.returns-then-not-started-clause-together
returns-then-not-started-clause-together g c =
    let asked = IsBasisOf (program_tree c.args.team.now.checked.now) c.args.team.now.before (g.L.Lines.lines c.args.team.now.lines.now) in
    let v = c.args.pass.me.0 in (
      c.requires.fresh.0,
      gathers-returns run_of _ (HasWorked asked Idle) v v (returned-same run_of _ v
          record { beside = settles-none tt g.H.Host.tells c.args.shape.now (side_of g.H.Host.world g.H.Host.faults c.args.settler.now c.args.host.now) (sight_of run_of v); none = λ q. c.requires.fresh.3 }),
      tt,
    )

pub returns-clause-together : goal.returns-clause-together
returns-clause-together g c =
    let asked = IsBasisOf (program_tree c.args.team.now.checked.now) c.args.team.now.before (g.L.Lines.lines c.args.team.now.lines.now) in
    let back = c.settle_by_pass-pass.ensures.returns in (
      c.settle_by_pass-pass.ensures.own,
      gathers-returns run_of _ (HasWorked asked Idle) c.args.pass.me.0 c.settle_by_pass-pass.result.0.me.0 record {
        first = back.first;
        seen = back.seen;
        number = back.number;
        split_off = back.split_off;
        joined = back.joined;
        holds = record { beside = back.holds; none = λ q. absurd (true≢false (sym c.if-not-started.false ∙ q)) };
      },
      tt,
    )
