use Rattle.std.proofs.Common.{◌≡◌, ◌-◌, ◌≤◌, length, ℕ, List, Bool, true, false, Ok}
use Rattle.std.specs.Prelude.{take}
use Rattle.request_wire.specs.declared.requests.Line.{Line}
use Rattle.history_core.specs.Cores.{run_of}
use Rattle.script_tree.specs.Programs.{program_tree}
use Rattle.turn_rules.specs.TurnLoop.{Pass, has_room, no_pass}
use Rattle.unit_carrier.specs.CarriedUnits.{as_carried, units_carried}
use Rattle.run_books.specs.Beginnings.{Outset}
use Rattle.run_books.specs.Books.{Books}
use Rattle.run_books.specs.RecordFrame.{TurnsBeside}
use Rattle.run_books.specs.Stages.{stage_of, StaysSafe}
use Rattle.interleaver.specs.Flights.{loop_at}
use Rattle.interleaver.specs.TurnStages.{HoldsUnits, IsAsking, IsUnderWay, WentOn, passing_stage, turn_stage}
use Rattle.interleaver.specs.SureUnits.{LackNone, SureBySpace}
use Rattle.interleaver.proofs.turns.Turns.ask_all.Given as goal

abbrev pub invariant-loop-index : goal.invariant-loop-index
invariant-loop-index g l = record {
  units : HoldsUnits (program_tree l.checked) (run_of l.core) l.self;
  same : as_carried l.self.agents.list.items ≡ as_carried l.initial.self.agents.list.items;
  past : l.self.front ≤ l.index;
  front : l.self.front ≡ l.initial.self.front;
  begun : l.self.begun ≡ l.initial.self.begun;
  used : l.self.used ≡ l.initial.self.used;
  shape : l.self.shape ≡ l.initial.self.shape;
  doubted : l.settler.doubted ≡ l.initial.settler.doubted;
  safe : StaysSafe g.H.Host.tells g.H.Host.is_ready g.H.Host.world l.settler.writer l.initial.host l.host;
  beside : TurnsBeside {T = Bool} g.H.Host.tells (stage_of g.H.Host.world g.H.Host.faults (run_of l.initial.core) l.initial.settler l.initial.host) (stage_of g.H.Host.world g.H.Host.faults (run_of l.core) l.settler l.host) (Ok true);
  went : (o : Outset) (b : Books) (lines : List Line) (width : ℕ) (picks : List ℕ) → IsUnderWay g.H.Host.tells o (program_tree l.checked) lines width picks b (turn_stage (stage_of g.H.Host.world g.H.Host.faults (run_of l.initial.core) l.initial.settler l.initial.host) l.initial.self)
      → has_room (loop_at o (run_of l.initial.core) l.initial.self.agents.list.items l.initial.self.used no_pass) ≡ false
      → (p : Pass) × WentOn g.H.Host.tells o (program_tree l.checked) lines width picks b (turn_stage (stage_of g.H.Host.world g.H.Host.faults (run_of l.initial.core) l.initial.settler l.initial.host) l.initial.self)
      (passing_stage (stage_of g.H.Host.world g.H.Host.faults (run_of l.core) l.settler l.host) l.self p)
      × IsAsking o (passing_stage (stage_of g.H.Host.world g.H.Host.faults (run_of l.core) l.settler l.host) l.self p) l.index;
  space : SureBySpace l.self.sure (run_of l.core);
  lack : l.sure ≡ true → LackNone (program_tree l.checked) (run_of l.core) (take l.index (units_carried l.self.agents.list.items));
}

abbrev pub decreases-loop-index : goal.decreases-loop-index
decreases-loop-index g l = length l.self.agents.list.items - l.index
