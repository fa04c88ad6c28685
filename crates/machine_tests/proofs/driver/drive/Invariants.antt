use Rattle.script_tree.specs.Programs.{program_tree}
use Rattle.script_machine.specs.Machines.{Fits}
use Rattle.machine_tests.proofs.driver.drive.Given as goal

-- the input answers what the machine asks for
abbrev pub invariant-loop : goal.invariant-loop
invariant-loop l = Fits (program_tree l.program) l.machine l.input
