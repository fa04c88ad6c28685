use Rattle.std.proofs.lemmas.Result.{err_from_is_err_and}
use Rattle.history_core.specs.Cores.{run_of}
use Rattle.script_tree.specs.Programs.{program_tree}
use Rattle.unit_carrier.specs.CarriedUnits.{units_carried}
use Rattle.interleaver.proofs.BegunLines.{begins-looked}
use Rattle.interleaver.proofs.SureUnits.{begins-sure}
use Rattle.interleaver.proofs.turns.Turns.begin.Goals as goal

pub returns-clause-units : goal.returns-clause-units
returns-clause-units g c = record {
  carried = c.in_ok-began.ensures.carried;
  looked = begins-looked (program_tree c.args.checked.now) c.args.line.now.number c.args.line.now.what c.args.self.now.looked (run_of c.args.core.now) (run_of c.begin_line.new.access) c.args.self.now.agents.list.items
      (units_carried c.begin_line.new.agents.list.items) c.in_ok-began.began c.requires.carried c.requires.carried.holds.above c.in_ok-began.ensures.begins c.requires.looked;
  freed = tt;
  sure = begins-sure (program_tree c.args.checked.now) c.args.line.now.number c.args.line.now.what (run_of c.args.core.now) (run_of c.begin_line.new.access) c.args.self.now.agents.list.items (units_carried c.begin_line.new.agents.list.items)
      c.in_ok-began.began c.args.self.now.sure c.args.self.now.moved c.requires.carried c.requires.carried.holds.above c.in_ok-began.ensures.begins c.requires.sure;
}

pub returns-in_err-began-clause-units : goal.returns-in_err-began-clause-units
returns-in_err-began-clause-units g c = let q = err_from_is_err_and c.from_residual.result c.from_residual.ensures.1 in rw q.1 tt

pub returns-in_err-began-clause-begins : goal.returns-in_err-began-clause-begins
returns-in_err-began-clause-begins g c = let q = err_from_is_err_and c.from_residual.result c.from_residual.ensures.1 in rw q.1 tt

pub returns-in_err-began-clause-begun : goal.returns-in_err-began-clause-begun
returns-in_err-began-clause-begun g c = let q = err_from_is_err_and c.from_residual.result c.from_residual.ensures.1 in rw q.1 tt
