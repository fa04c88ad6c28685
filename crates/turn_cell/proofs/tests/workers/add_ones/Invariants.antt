use Rattle.std.specs.Prelude.{⊤}
use Rattle.turn_cell.specs.Passes.{IsPassOf, pass_view}
use Rattle.turn_cell.specs.PassContracts.{Continues}
use Rattle.turn_cell.proofs.tests.workers.add_ones.Given as goal

abbrev pub invariant-loop : goal.invariant-loop
invariant-loop g l = IsPassOf l.cell l.pass × Continues (λ _. ⊤) (pass_view l.initial.pass) (pass_view l.pass)
