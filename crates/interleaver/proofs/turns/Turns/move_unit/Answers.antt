use Rattle.std.proofs.Common.{◌≡◌, ◌∙◌, refl, sym, subst, Some}
use Rattle.std.specs.Prelude.{Option, slice_get}
use Rattle.std.proofs.lemmas.Option.{slice_get_read}
use Rattle.std.proofs.lemmas.Result.{err_from_is_err_and}
use Rattle.core_model.specs.CoreState.{UnitNo}
use Rattle.history_core.specs.Cores.{run_of}
use Rattle.script_tree.specs.Programs.{program_tree}
use Rattle.unit_carrier.specs.CarriedUnits.{unit_at, units_carried}
use Rattle.unit_carrier.proofs.Places.{unit-here}
use Rattle.interleaver.specs.LastLook.{IsLooked}
use Rattle.interleaver.specs.SureUnits.{AreSure}
use Rattle.interleaver.proofs.LastLook.{moves-looked}
use Rattle.interleaver.proofs.SureUnits.{moves-sure}
use Rattle.interleaver.proofs.turns.Turns.move_unit.Goals as goal

pub returns-clause-units : goal.returns-clause-units
returns-clause-units g c = record {
  carried = c.in_ok-went.ensures.carried;
  looked = subst (λ (o : Option _). IsLooked o (run_of c.advance.new.access) (units_carried c.advance.new.self.list.items)) (sym c.looked_after-self.ensures)
      (moves-looked (program_tree c.args.checked.now) c.args.self.now.looked (run_of c.args.core.now) (run_of c.advance.new.access) (unit_at c.args.self.now.agents.list.items c.args.index) c.args.self.now.agents.list.items c.advance.new.self.list.items c.in_ok-went.went
      c.requires.units.carried c.advance.ensures.acts c.in_ok-went.ensures.steps c.requires.units.looked);
  freed = c.advance.ensures.freed c.known_before-self.result c.known_before-self.ensures.before (c.known_before-self.ensures.freed c.args.self.now.agents.list.items c.requires.units.freed);
  sure =
      let q : slice_get c.args.self.now.agents.list.items c.args.index ≡ Some c.index.result.now = slice_get_read c.args.self.now.agents.list.items _ c.args.index c.index.result.now refl c.requires.within c.index.ensures in
      let own : unit_at c.args.self.now.agents.list.items c.args.index ≡ c.unit-unit.result = unit-here c.args.self.now.agents.list.items c.args.index c.index.result.now q ∙ sym c.unit-unit.ensures in
      subst (λ (u : UnitNo). AreSure (program_tree c.args.checked.now) (run_of c.advance.new.access) (units_carried c.advance.new.self.list.items) c.sure_after-self.result (Some u)) own
      (moves-sure (program_tree c.args.checked.now) (run_of c.args.core.now) (run_of c.advance.new.access) (unit_at c.args.self.now.agents.list.items c.args.index) c.args.self.now.agents.list.items (units_carried c.advance.new.self.list.items) c.in_ok-went.went
      c.args.self.now.sure c.sure_after-self.result c.args.self.now.moved c.requires.units.carried c.requires.units.carried.holds.above c.sure_after-self.ensures.below c.sure_after-self.ensures.none c.advance.ensures.acts c.in_ok-went.ensures.steps c.requires.units.sure);
}

pub returns-in_err-went-clause-units : goal.returns-in_err-went-clause-units
returns-in_err-went-clause-units g c = let q = err_from_is_err_and c.from_residual.result c.from_residual.ensures.1 in rw q.1 tt

pub returns-in_err-went-clause-moves : goal.returns-in_err-went-clause-moves
returns-in_err-went-clause-moves g c = let q = err_from_is_err_and c.from_residual.result c.from_residual.ensures.1 in rw q.1 tt
