-- What a turn of the settler comes to in a run.
use Rattle.std.specs.Prelude.{Result, Ok, Err}
use Rattle.settle_loop.specs.declared.settler.Turned.{Turned}
use Rattle.settle_loop.specs.declared.settler.Turned.TheVariants.{Stepped, Nothing, Stop}
use Rattle.settle_loop.specs.declared.settler.StopCause.TheVariants as cause
use Rattle.run_books.specs.declared.faults.RunFault.{RunFault}
use Rattle.run_books.specs.declared.faults.RunFault.TheVariants.{InDoubt, WriteFault, LoadFault, LoadDamaged}

-- where it stopped, the fault by which the run ends; else the run goes on
abbrev pub ended_by : Turned → Result Unit RunFault
ended_by Stepped = Ok tt
ended_by Nothing = Ok tt
ended_by (Stop cause.InDoubt) = Err InDoubt
ended_by (Stop cause.WriteFault) = Err WriteFault
ended_by (Stop (cause.LoadFault file)) = Err (LoadFault file)
ended_by (Stop (cause.LoadDamaged file place)) = Err (LoadDamaged file place)
