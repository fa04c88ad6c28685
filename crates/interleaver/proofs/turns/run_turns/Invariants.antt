use Rattle.std.proofs.Common.{◌≡◌, ◌+◌, []}
use Rattle.std.specs.Prelude.{Bool, true, Ok}
use Rattle.history_core.specs.Cores.{run_of}
use Rattle.script_tree.specs.Programs.{program_tree}
use Rattle.script_check.specs.Shapes.{type_shapes}
use Rattle.run_books.specs.RecordFrame.{TurnsBeside}
use Rattle.turn_rules.specs.TurnLoop.{no_pass}
use Rattle.interleaver.specs.TurnStages.{WentOn, turn_stage, HoldsUnits}
use Rattle.interleaver.proofs.turns.run_turns.Given as goal
use Rattle.interleaver.specs.Turns.{WhereTurnsBegin}
use Rattle.run_books.specs.Stages.{stage_of, StaysSafe}

abbrev pub invariant-loop-turn : goal.invariant-loop-turn
invariant-loop-turn g l = record {
  units : HoldsUnits (program_tree l.checked) (run_of l.core) l.state;
  shape : l.state.shape.types ≡ type_shapes (program_tree l.checked);
  turns : l.state.begun + l.state.used ≡ l._turn;
  unused : l.used ≡ l.fn.used;
  lines : g.L.Lines.lines l.lines ≡ g.L.Lines.lines l.fn.lines;
  safe : StaysSafe g.H.Host.tells g.H.Host.is_ready g.H.Host.world l.settler.writer l.fn.host l.host;
  beside : TurnsBeside {T = Bool} g.H.Host.tells (stage_of g.H.Host.world g.H.Host.faults (run_of l.fn.core) l.fn.settler l.fn.host) (stage_of g.H.Host.world g.H.Host.faults (run_of l.core) l.settler l.host) (Ok true);
  went : WhereTurnsBegin g.H.Host.tells (program_tree l.checked) (g.L.Lines.lines l.fn.lines) l.width l.turns l.fn.used
      (stage_of g.H.Host.world g.H.Host.faults (run_of l.fn.core) l.fn.settler l.fn.host)
      (λ o b. WentOn g.H.Host.tells o (program_tree l.checked) (g.L.Lines.lines l.fn.lines) l.width l.turns b
      (record { at = stage_of g.H.Host.world g.H.Host.faults (run_of l.fn.core) l.fn.settler l.fn.host; agents = []; begun = 0; used = l.fn.used; pass = no_pass })
      (turn_stage (stage_of g.H.Host.world g.H.Host.faults (run_of l.core) l.settler l.host) l.state));
}
