use Rattle.core_access.specs.PassSights.{sight_of}
use Rattle.history_core.specs.Cores.{run_of}
use Rattle.script_tree.specs.Programs.{program_tree}
use Rattle.unit_crew.specs.Crews.{IsBasisOf}
use Rattle.silo_workers.specs.WorkerPasses.{HasWorked}
use Rattle.silo_workers.specs.declared.work.WorkEnd.TheVariants.{Through, Lacking}
use Rattle.silo_workers.proofs.PassReturns.{begun-shown, returned, worked-through, worked-lacking}
use Rattle.silo_workers.proofs.work.carry.Goals as goal
use Rattle.std.proofs.Common.{rules, ◌+◌, length}

pub returns-in-Ok : goal.returns-in-Ok
returns-in-Ok g c =
    let asked = IsBasisOf (program_tree c.args.checked.now) c.args.before (g.L.Lines.lines c.args.lines) in
    let said = c.in-Ok.ensures in
    record {
      back = (
        search rules,
        returned run_of c.args.pass.me.0 c.carry_lines-carried.new.access.pass.me.0 (HasWorked asked Through) _ _ _ _ said.kept.aside said.first said.number said.seen
            (worked-through run_of c.args.pass.me.0 c.carry_lines-carried.new.access.pass.me.0 asked said.counts said.works said.promise said.through),
        begun-shown (c.args.before + length (g.L.Lines.lines c.args.lines)) (sight_of run_of c.carry_lines-carried.new.access.pass.me.0) said.shown (run_of c.args.pass.me.0.first) said.first,
      );
    }

pub returns-in-Err : goal.returns-in-Err
returns-in-Err g c =
    let asked = IsBasisOf (program_tree c.args.checked.now) c.args.before (g.L.Lines.lines c.args.lines) in
    let said = c.in-Err.ensures in
    record {
      back = (
        search rules,
        returned run_of c.args.pass.me.0 c.carry_lines-carried.new.access.pass.me.0 (HasWorked asked Lacking) _ _ _ _ said.kept.aside said.first said.number said.seen
            (worked-lacking run_of c.args.pass.me.0 c.carry_lines-carried.new.access.pass.me.0 asked said.counts said.works said.promise),
        tt,
      );
    }
