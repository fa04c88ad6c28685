use Rattle.std.proofs.Common.{◌≡◌, ◌+◌, ◌≤◌, ◌∙◌, ℕ, true, refl, ap, subst}
use Rattle.std.specs.Prelude.{Bool, Result, Ok, Err, IfOk}
use Rattle.std.proofs.lemmas.Result.{err_from_is_err_and}
use Rattle.base_types.specs.declared.shapes.Shape.{Shape}
use Rattle.history_core.specs.Cores.{run_of}
use Rattle.script_tree.specs.Programs.{program_tree}
use Rattle.run_books.specs.declared.faults.RunFault.{RunFault}
use Rattle.run_books.specs.Stages.{stage_of}
use Rattle.run_books.proofs.SettlerFrame.{one-after-another}
use Rattle.interleaver.specs.TurnStages.{PassGoesOn, turn_stage}
use Rattle.interleaver.proofs.PassAnswers.{behind-pass, pass-fails}
use Rattle.interleaver.proofs.PickedTurns.{says-lack}
use Rattle.interleaver.proofs.RecordFrame.{beside-err}
use Rattle.interleaver.proofs.turns.Turns.move_one.Goals as goal

pub returns-in_err-load_pass-clause-turns : goal.returns-in_err-load_pass-clause-turns
returns-in_err-load_pass-clause-turns g c =
    let p = err_from_is_err_and c.from_residual.result c.from_residual.ensures.1 in
    let passes : PassGoesOn g.H.Host.tells (program_tree c.args.checked.now) (turn_stage (stage_of g.H.Host.world g.H.Host.faults (run_of c.args.core.now) c.args.settler.now c.args.host.now) c.args.self.now) (stage_of g.H.Host.world g.H.Host.faults (run_of c.load_pass.new.core) c.load_pass.new.settler c.load_pass.new.host) c.load_pass.new.self (Err c.in_err-load_pass.field-0.0) =
    subst (λ (x : Result Unit RunFault). PassGoesOn g.H.Host.tells (program_tree c.args.checked.now) (turn_stage (stage_of g.H.Host.world g.H.Host.faults (run_of c.args.core.now) c.args.settler.now c.args.host.now) c.args.self.now) (stage_of g.H.Host.world g.H.Host.faults (run_of c.load_pass.new.core) c.load_pass.new.settler c.load_pass.new.host) c.load_pass.new.self x) c.in_err-load_pass.was c.load_pass.ensures.passes in
    record {
      says = λ o b lines width way full.
          says-lack g.H.Host.tells o (program_tree c.args.checked.now) lines width c.args.picks.now b (turn_stage (stage_of g.H.Host.world g.H.Host.faults (run_of c.args.core.now) c.args.settler.now c.args.host.now) c.args.self.now) (turn_stage (stage_of g.H.Host.world g.H.Host.faults (run_of c.load_pass.new.core) c.load_pass.new.settler c.load_pass.new.host) c.load_pass.new.self) c.from_residual.result c.in_err-load_pass.field-0.0 (p.1 ∙ ap Err p.2)
          (pass-fails g.H.Host.tells (program_tree c.args.checked.now) c.args.picks.now (turn_stage (stage_of g.H.Host.world g.H.Host.faults (run_of c.args.core.now) c.args.settler.now c.args.host.now) c.args.self.now) (stage_of g.H.Host.world g.H.Host.faults (run_of c.load_pass.new.core) c.load_pass.new.settler c.load_pass.new.host) c.load_pass.new.self (turn_stage (stage_of g.H.Host.world g.H.Host.faults (run_of c.load_pass.new.core) c.load_pass.new.settler c.load_pass.new.host) c.load_pass.new.self) c.in_err-load_pass.field-0.0 refl passes o b lines width way full);
      beside = beside-err g.H.Host.tells (run_of c.args.core.now) (run_of c.load_pass.new.core) c.args.settler.now c.load_pass.new.settler (g.H.Host.faults c.args.host.now) (g.H.Host.faults c.load_pass.new.host) (g.H.Host.world c.args.host.now) (g.H.Host.world c.load_pass.new.host)
          c.in_err-load_pass.field-0.0 passes.beside c.from_residual.result (p.1 ∙ ap Err p.2);
    }

pub returns-clause-turns : goal.returns-clause-turns
returns-clause-turns g c =
    let passes : PassGoesOn {T = Unit} g.H.Host.tells (program_tree c.args.checked.now) (turn_stage (stage_of g.H.Host.world g.H.Host.faults (run_of c.args.core.now) c.args.settler.now c.args.host.now) c.args.self.now) (stage_of g.H.Host.world g.H.Host.faults (run_of c.load_pass.new.core) c.load_pass.new.settler c.load_pass.new.host) c.load_pass.new.self (Ok tt) =
    subst (λ (x : Result Unit RunFault). PassGoesOn {T = Unit} g.H.Host.tells (program_tree c.args.checked.now) (turn_stage (stage_of g.H.Host.world g.H.Host.faults (run_of c.args.core.now) c.args.settler.now c.args.host.now) c.args.self.now) (stage_of g.H.Host.world g.H.Host.faults (run_of c.load_pass.new.core) c.load_pass.new.settler c.load_pass.new.host) c.load_pass.new.self x) c.in_ok-load_pass.was c.load_pass.ensures.passes in
    record {
      says = behind-pass {T = Unit} g.H.Host.tells (program_tree c.args.checked.now) c.args.picks.now (turn_stage (stage_of g.H.Host.world g.H.Host.faults (run_of c.args.core.now) c.args.settler.now c.args.host.now) c.args.self.now) (stage_of g.H.Host.world g.H.Host.faults (run_of c.load_pass.new.core) c.load_pass.new.settler c.load_pass.new.host) c.load_pass.new.self (turn_stage (stage_of g.H.Host.world g.H.Host.faults (run_of c.move_picked.new.core) c.move_picked.new.settler c.move_picked.new.host) c.move_picked.new.self) tt c.move_picked.result passes
          (λ o b lines width p way passed. c.move_picked.ensures.turns.says o b lines width p way passed);
      beside = one-after-another {T = Unit} {U = Bool} g.H.Host.tells (run_of c.args.core.now) (run_of c.load_pass.new.core) (run_of c.move_picked.new.core) c.args.settler.now c.load_pass.new.settler c.move_picked.new.settler
          (g.H.Host.faults c.args.host.now) (g.H.Host.faults c.load_pass.new.host) (g.H.Host.faults c.move_picked.new.host) (g.H.Host.world c.args.host.now) (g.H.Host.world c.load_pass.new.host) (g.H.Host.world c.move_picked.new.host)
          tt c.move_picked.result passes.beside c.move_picked.ensures.turns.beside;
    }

pub load_pass-requires-clause-units : goal.load_pass-requires-clause-units
load_pass-requires-clause-units g c = record {
  carried = c.requires.units.carried;
  looked = c.requires.units.looked;
  freed = c.freed_front-self.ensures.freed;
  sure = c.requires.units.sure;
}

pub returns-in_err-load_pass-clause-units : goal.returns-in_err-load_pass-clause-units
returns-in_err-load_pass-clause-units g c = let p = err_from_is_err_and c.from_residual.result c.from_residual.ensures.1 in rw p.1 tt

pub returns-in_err-load_pass-clause-used : goal.returns-in_err-load_pass-clause-used
returns-in_err-load_pass-clause-used g c = let p = err_from_is_err_and c.from_residual.result c.from_residual.ensures.1 in rw p.1 tt

pub returns-in_err-load_pass-clause-goes : goal.returns-in_err-load_pass-clause-goes
returns-in_err-load_pass-clause-goes g c = let p = err_from_is_err_and c.from_residual.result c.from_residual.ensures.1 in rw p.1 tt

pub returns-in_err-load_pass-clause-shape : goal.returns-in_err-load_pass-clause-shape
returns-in_err-load_pass-clause-shape g c = c.load_pass.ensures.shape

pub returns-in_err-load_pass-clause-safe : goal.returns-in_err-load_pass-clause-safe
returns-in_err-load_pass-clause-safe g c = c.load_pass.ensures.safe

pub returns-clause-units : goal.returns-clause-units
returns-clause-units g c = c.move_picked.ensures.units

pub returns-clause-used : goal.returns-clause-used
returns-clause-used g c = subst (λ (n : ℕ). IfOk c.move_picked.result (λ more. c.move_picked.new.self.used ≤ n + 1)) c.load_pass.ensures.used c.move_picked.ensures.used

pub returns-clause-goes : goal.returns-clause-goes
returns-clause-goes g c = subst (λ (n : ℕ). IfOk c.move_picked.result (λ (more : Bool). more ≡ true → c.move_picked.new.self.begun + c.move_picked.new.self.used ≡ c.args.self.now.begun + n + 1)) c.load_pass.ensures.used
    (subst (λ (n : ℕ). IfOk c.move_picked.result (λ (more : Bool). more ≡ true → c.move_picked.new.self.begun + c.move_picked.new.self.used ≡ n + c.load_pass.new.self.used + 1)) c.load_pass.ensures.begun c.move_picked.ensures.goes)

pub returns-clause-shape : goal.returns-clause-shape
returns-clause-shape g c = c.move_picked.ensures.shape ∙ c.load_pass.ensures.shape

pub returns-clause-safe : goal.returns-clause-safe
returns-clause-safe g c = record { safe = c.move_picked.ensures.safe.safe; ready = λ file was. c.move_picked.ensures.safe.ready file (c.load_pass.ensures.safe.ready file was) }

pub move_picked-requires-clause-units : goal.move_picked-requires-clause-units
move_picked-requires-clause-units g c = c.in_ok-load_pass.ensures.units

pub move_picked-requires-clause-safe : goal.move_picked-requires-clause-safe
move_picked-requires-clause-safe g c = c.load_pass.ensures.safe.safe

pub move_picked-requires-clause-shape : goal.move_picked-requires-clause-shape
move_picked-requires-clause-shape g c = ap (λ (x : Shape). x.types) c.load_pass.ensures.shape ∙ c.requires.shape
