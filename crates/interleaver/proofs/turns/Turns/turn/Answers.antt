use Rattle.std.proofs.Common.{◌∙◌, refl, sym, ap, arith, true}
use Rattle.std.specs.Prelude.{Ok, Err}
use Rattle.std.proofs.lemmas.Result.{err_from_is_err_and}
use Rattle.history_core.specs.Cores.{run_of}
use Rattle.script_tree.specs.Programs.{program_tree}
use Rattle.run_books.specs.declared.faults.RunFault.TheVariants.{Memory}
use Rattle.interleaver.proofs.RecordFrame.{begins-beside, none-beside, puts-beside}
use Rattle.run_books.proofs.BooksOthers.{others-keep}
use Rattle.interleaver.proofs.PickedTurns.{says-lack}
use Rattle.interleaver.proofs.Rooms.{dropped-way, line-out-says, line-says, room-none, says-from, still-carried, unread-says}
use Rattle.interleaver.proofs.SureUnits.{dropped-sure}
use Rattle.interleaver.proofs.turns.Turns.turn.Goals as goal
use Rattle.turn_rules.specs.TurnLoop.{no_pass}
use Rattle.interleaver.specs.TurnStages.{turn_stage}
use Rattle.run_books.specs.Stages.{stage_of}

pub drop_unless_doubted-requires-clause-carried : goal.drop_unless_doubted-requires-clause-carried
drop_unless_doubted-requires-clause-carried g c = (program_tree c.args.checked.now, c.requires.units.carried)

pub next_line-requires : goal.next_line-requires
next_line-requires g c = record {
  known = (
    program_tree c.args.checked.now,
    run_of c.args.core.now,
    still-carried (program_tree c.args.checked.now) (run_of c.args.core.now) c.args.settler.now.doubted c.args.self.now.agents.list.items c.drop_unless_doubted.new.agents.list.items c.drop_unless_doubted.ensures.flown c.requires.units.carried,
    c.drop_unless_doubted.ensures.looked,
  );
}

pub begin-requires-clause-carried : goal.begin-requires-clause-carried
begin-requires-clause-carried g c = still-carried (program_tree c.args.checked.now) (run_of c.args.core.now) c.args.settler.now.doubted c.args.self.now.agents.list.items c.drop_unless_doubted.new.agents.list.items c.drop_unless_doubted.ensures.flown c.requires.units.carried

pub begin-requires-clause-looked : goal.begin-requires-clause-looked
begin-requires-clause-looked g c = c.drop_unless_doubted.ensures.looked

pub begin-requires-clause-sure : goal.begin-requires-clause-sure
begin-requires-clause-sure g c = dropped-sure (program_tree c.args.checked.now) (run_of c.args.core.now) c.args.settler.now.doubted c.args.self.now.agents.list.items c.drop_unless_doubted.new.agents.list.items c.args.self.now.sure c.args.self.now.moved c.drop_unless_doubted.ensures.flown c.requires.units.sure

pub returns-in_err-line-clause-turns : goal.returns-in_err-line-clause-turns
returns-in_err-line-clause-turns g c = record {
  says = λ o b way.
      let p = err_from_is_err_and c.from_residual.result c.from_residual.ensures.1 in
      says-lack g.H.Host.tells o (program_tree c.args.checked.now) (g.L.Lines.lines c.args.lines.now) c.args.width c.args.picks.now b (turn_stage (stage_of g.H.Host.world g.H.Host.faults (run_of c.args.core.now) c.args.settler.now c.args.host.now) c.args.self.now) (record { at = stage_of g.H.Host.world g.H.Host.faults (run_of c.args.core.now) c.args.settler.now c.args.host.now; agents = c.drop_unless_doubted.new.agents.list.items; begun = c.args.self.now.begun; used = c.args.self.now.used; pass = no_pass }) c.from_residual.result Memory (p.1 ∙ ap Err p.2)
      (unread-says g.H.Host.tells o (program_tree c.args.checked.now) (g.L.Lines.lines c.args.lines.now) c.args.width c.args.picks.now b (turn_stage (stage_of g.H.Host.world g.H.Host.faults (run_of c.args.core.now) c.args.settler.now c.args.host.now) c.args.self.now) c.drop_unless_doubted.new.agents.list.items c.drop_unless_doubted.ensures.flown c.requires.units.carried way others-keep);
  beside = none-beside g.H.Host.tells (run_of c.args.core.now) (run_of c.args.core.now) c.args.settler.now (g.H.Host.faults c.args.host.now) (g.H.Host.world c.args.host.now) c.from_residual.result refl;
}

pub returns-in_err-begin-in-Some-clause-turns : goal.returns-in_err-begin-in-Some-clause-turns
returns-in_err-begin-in-Some-clause-turns g c = record {
  says = λ o b way.
      let p = err_from_is_err_and c.from_residual-in_err-begin-in-Some.result c.from_residual-in_err-begin-in-Some.ensures.1 in
      says-lack g.H.Host.tells o (program_tree c.args.checked.now) (g.L.Lines.lines c.args.lines.now) c.args.width c.args.picks.now b (turn_stage (stage_of g.H.Host.world g.H.Host.faults (run_of c.args.core.now) c.args.settler.now c.args.host.now) c.args.self.now) (turn_stage (stage_of g.H.Host.world g.H.Host.faults (run_of c.begin.new.core) c.args.settler.now c.args.host.now) c.begin.new.self) c.from_residual-in_err-begin-in-Some.result Memory (p.1 ∙ ap Err (p.2 ∙ c.in_err-begin-in-Some.ensures.memory))
      (line-out-says g.H.Host.tells o (program_tree c.args.checked.now) (g.L.Lines.lines c.args.lines.now) c.args.width c.args.picks.now b (turn_stage (stage_of g.H.Host.world g.H.Host.faults (run_of c.args.core.now) c.args.settler.now c.args.host.now) c.args.self.now) c.drop_unless_doubted.new.agents.list.items c.drop_unless_doubted.ensures.flown c.requires.units.carried way others-keep refl c.in-Some.line (sym c.in-Some.is ∙ c.in_ok-line.ensures.next) (run_of c.begin.new.core) c.in_err-begin-in-Some.ensures.put);
  beside = puts-beside g.H.Host.tells (run_of c.args.core.now) (run_of c.begin.new.core) c.args.settler.now (g.H.Host.faults c.args.host.now) (g.H.Host.world c.args.host.now) c.from_residual-in_err-begin-in-Some.result (program_tree c.args.checked.now) c.in-Some.line c.in_err-begin-in-Some.ensures.put;
}

pub returns-in_ok-begin-in-Some-clause-turns : goal.returns-in_ok-begin-in-Some-clause-turns
returns-in_ok-begin-in-Some-clause-turns g c = record {
  says = λ o b way.
      line-says g.H.Host.tells o (program_tree c.args.checked.now) (g.L.Lines.lines c.args.lines.now) c.args.width c.args.picks.now b (turn_stage (stage_of g.H.Host.world g.H.Host.faults (run_of c.args.core.now) c.args.settler.now c.args.host.now) c.args.self.now) c.drop_unless_doubted.new.agents.list.items c.drop_unless_doubted.ensures.flown c.requires.units.carried way others-keep refl c.in-Some.line (sym c.in-Some.is ∙ c.in_ok-line.ensures.next) (turn_stage (stage_of g.H.Host.world g.H.Host.faults (run_of c.begin.new.core) c.args.settler.now c.args.host.now) c.begin.new.self) c.in_ok-begin-in-Some.ensures.begins c.begin.ensures.used refl c.in_ok-begin-in-Some.ensures.begun refl refl refl;
  beside = begins-beside g.H.Host.tells (run_of c.args.core.now) (run_of c.begin.new.core) c.args.settler.now (g.H.Host.faults c.args.host.now) (g.H.Host.world c.args.host.now) (Ok true) (program_tree c.args.checked.now) c.in-Some.line c.drop_unless_doubted.new.agents.list.items c.begin.new.self.agents.list.items c.in_ok-begin-in-Some.ensures.begins;
}

pub move_one-requires-clause-units : goal.move_one-requires-clause-units
move_one-requires-clause-units g c = record {
  carried = still-carried (program_tree c.args.checked.now) (run_of c.args.core.now) c.args.settler.now.doubted c.args.self.now.agents.list.items c.drop_unless_doubted.new.agents.list.items c.drop_unless_doubted.ensures.flown c.requires.units.carried;
  looked = c.drop_unless_doubted.ensures.looked;
  freed = c.drop_unless_doubted.ensures.freed;
  sure = dropped-sure (program_tree c.args.checked.now) (run_of c.args.core.now) c.args.settler.now.doubted c.args.self.now.agents.list.items c.drop_unless_doubted.new.agents.list.items c.args.self.now.sure c.args.self.now.moved c.drop_unless_doubted.ensures.flown c.requires.units.sure;
}

pub returns-in-None-clause-turns : goal.returns-in-None-clause-turns
returns-in-None-clause-turns g c = record {
  says = λ o b way.
      says-from g.H.Host.tells o (program_tree c.args.checked.now) (g.L.Lines.lines c.args.lines.now) c.args.width c.args.picks.now b (turn_stage (stage_of g.H.Host.world g.H.Host.faults (run_of c.args.core.now) c.args.settler.now c.args.host.now) c.args.self.now) c.drop_unless_doubted.new.agents.list.items c.drop_unless_doubted.ensures.flown c.requires.units.carried way
      (turn_stage (stage_of g.H.Host.world g.H.Host.faults (run_of c.move_one.new.core) c.move_one.new.settler c.move_one.new.host) c.move_one.new.self) c.move_one.result
      (c.move_one.ensures.turns.says o b (g.L.Lines.lines c.args.lines.now) c.args.width (dropped-way g.H.Host.tells o (program_tree c.args.checked.now) (g.L.Lines.lines c.args.lines.now) c.args.width c.args.picks.now b (turn_stage (stage_of g.H.Host.world g.H.Host.faults (run_of c.args.core.now) c.args.settler.now c.args.host.now) c.args.self.now) c.drop_unless_doubted.new.agents.list.items c.drop_unless_doubted.ensures.flown c.requires.units.carried way) (room-none g.H.Host.tells o (program_tree c.args.checked.now) (g.L.Lines.lines c.args.lines.now) c.args.width c.args.picks.now b (turn_stage (stage_of g.H.Host.world g.H.Host.faults (run_of c.args.core.now) c.args.settler.now c.args.host.now) c.args.self.now) c.drop_unless_doubted.new.agents.list.items c.drop_unless_doubted.ensures.flown c.requires.units.carried way (sym c.in-None.is ∙ c.in_ok-line.ensures.next)));
  beside = c.move_one.ensures.turns.beside;
}

pub drop_unless_doubted-requires-clause-looked : goal.drop_unless_doubted-requires-clause-looked
drop_unless_doubted-requires-clause-looked g c = c.requires.units.looked

pub drop_unless_doubted-requires-clause-freed : goal.drop_unless_doubted-requires-clause-freed
drop_unless_doubted-requires-clause-freed g c = c.requires.units.freed

pub returns-in_err-line-clause-units : goal.returns-in_err-line-clause-units
returns-in_err-line-clause-units g c = let p = err_from_is_err_and c.from_residual.result c.from_residual.ensures.1 in rw p.1 tt

pub returns-in_err-line-clause-used : goal.returns-in_err-line-clause-used
returns-in_err-line-clause-used g c = let p = err_from_is_err_and c.from_residual.result c.from_residual.ensures.1 in rw p.1 tt

pub returns-in_err-line-clause-goes : goal.returns-in_err-line-clause-goes
returns-in_err-line-clause-goes g c = let p = err_from_is_err_and c.from_residual.result c.from_residual.ensures.1 in rw p.1 tt

pub returns-in_err-line-clause-same : goal.returns-in_err-line-clause-same
returns-in_err-line-clause-same g c = c.next_line.ensures.same

pub returns-in_err-line-clause-safe : goal.returns-in_err-line-clause-safe
returns-in_err-line-clause-safe g c = record { safe = c.requires.safe; ready = λ file was. was }

pub returns-in_err-begin-in-Some-clause-units : goal.returns-in_err-begin-in-Some-clause-units
returns-in_err-begin-in-Some-clause-units g c = let p = err_from_is_err_and c.from_residual-in_err-begin-in-Some.result c.from_residual-in_err-begin-in-Some.ensures.1 in rw p.1 tt

pub returns-in_err-begin-in-Some-clause-used : goal.returns-in_err-begin-in-Some-clause-used
returns-in_err-begin-in-Some-clause-used g c = let p = err_from_is_err_and c.from_residual-in_err-begin-in-Some.result c.from_residual-in_err-begin-in-Some.ensures.1 in rw p.1 tt

pub returns-in_err-begin-in-Some-clause-goes : goal.returns-in_err-begin-in-Some-clause-goes
returns-in_err-begin-in-Some-clause-goes g c = let p = err_from_is_err_and c.from_residual-in_err-begin-in-Some.result c.from_residual-in_err-begin-in-Some.ensures.1 in rw p.1 tt

pub returns-in_err-begin-in-Some-clause-same : goal.returns-in_err-begin-in-Some-clause-same
returns-in_err-begin-in-Some-clause-same g c = c.next_line.ensures.same

pub returns-in_err-begin-in-Some-clause-shape : goal.returns-in_err-begin-in-Some-clause-shape
returns-in_err-begin-in-Some-clause-shape g c = c.begin.ensures.shape

pub returns-in_err-begin-in-Some-clause-safe : goal.returns-in_err-begin-in-Some-clause-safe
returns-in_err-begin-in-Some-clause-safe g c = record { safe = c.requires.safe; ready = λ file was. was }

pub returns-in_ok-begin-in-Some-clause-units : goal.returns-in_ok-begin-in-Some-clause-units
returns-in_ok-begin-in-Some-clause-units g c = c.in_ok-begin-in-Some.ensures.units

pub returns-in_ok-begin-in-Some-clause-used : goal.returns-in_ok-begin-in-Some-clause-used
returns-in_ok-begin-in-Some-clause-used g c = let used = c.begin.ensures.used in omega (arith, used)

pub returns-in_ok-begin-in-Some-clause-goes : goal.returns-in_ok-begin-in-Some-clause-goes
returns-in_ok-begin-in-Some-clause-goes g c = λ is. let used = c.begin.ensures.used in let begun = c.in_ok-begin-in-Some.ensures.begun in omega (arith, used, begun)

pub returns-in_ok-begin-in-Some-clause-same : goal.returns-in_ok-begin-in-Some-clause-same
returns-in_ok-begin-in-Some-clause-same g c = c.next_line.ensures.same

pub returns-in_ok-begin-in-Some-clause-shape : goal.returns-in_ok-begin-in-Some-clause-shape
returns-in_ok-begin-in-Some-clause-shape g c = c.begin.ensures.shape

pub returns-in_ok-begin-in-Some-clause-safe : goal.returns-in_ok-begin-in-Some-clause-safe
returns-in_ok-begin-in-Some-clause-safe g c = record { safe = c.requires.safe; ready = λ file was. was }

pub returns-in-None-clause-units : goal.returns-in-None-clause-units
returns-in-None-clause-units g c = c.move_one.ensures.units

pub returns-in-None-clause-used : goal.returns-in-None-clause-used
returns-in-None-clause-used g c = c.move_one.ensures.used

pub returns-in-None-clause-goes : goal.returns-in-None-clause-goes
returns-in-None-clause-goes g c = c.move_one.ensures.goes

pub returns-in-None-clause-same : goal.returns-in-None-clause-same
returns-in-None-clause-same g c = c.next_line.ensures.same

pub returns-in-None-clause-shape : goal.returns-in-None-clause-shape
returns-in-None-clause-shape g c = c.move_one.ensures.shape

pub returns-in-None-clause-safe : goal.returns-in-None-clause-safe
returns-in-None-clause-safe g c = c.move_one.ensures.safe
