use Rattle.std.proofs.Common.{[], Ok, Err, refl, sym, ap}
use Rattle.promise_spec.specs.Words.{plain_manner}
use Rattle.silo_opening.specs.Inits.{ending_of}
use Rattle.silo_opening.specs.declared.silo_init.InitFault.{InitFault}
use Rattle.silo_top.specs.declared.status.Status.{Status}
use Rattle.silo_top.proofs.InitCalls.{made}
use Rattle.silo_top.proofs.commands.make.Goals as goal

pub returns-in-Ok-clause-makes : goal.returns-in-Ok-clause-makes
returns-in-Ok-clause-makes g c = λ told. made {A = Unit {0}} plain_manner [] (g.H.Host.world c.args.host.now) (g.H.Host.world c.init.new.host) (g.H.Host.faults c.args.host.now) (g.H.Host.faults c.init.new.host) (Ok c.in-Ok.field-0) Status.Done refl (c.in-Ok.ensures.makes told)

pub returns-in-Err-ReadFault-clause-makes : goal.returns-in-Err-ReadFault-clause-makes
returns-in-Err-ReadFault-clause-makes g c = λ told. made {A = Unit {0}} plain_manner [] (g.H.Host.world c.args.host.now) (g.H.Host.world c.init.new.host) (g.H.Host.faults c.args.host.now) (g.H.Host.faults c.init.new.host) (Err c.in-Err-ReadFault.field-0) Status.ReadFault
    (ap (λ (e : InitFault). ending_of {A = Unit {0}} (Err e)) (sym c.in-Err-ReadFault.field-0-is)) (c.in-Err-ReadFault.ensures.makes told)

pub returns-in-Err-InputTooLong-clause-makes : goal.returns-in-Err-InputTooLong-clause-makes
returns-in-Err-InputTooLong-clause-makes g c = λ told. made {A = Unit {0}} plain_manner [] (g.H.Host.world c.args.host.now) (g.H.Host.world c.init.new.host) (g.H.Host.faults c.args.host.now) (g.H.Host.faults c.init.new.host) (Err c.in-Err-InputTooLong.field-0) (Status.InputTooLong 0)
    (ap (λ (e : InitFault). ending_of {A = Unit {0}} (Err e)) (sym c.in-Err-InputTooLong.field-0-is)) (c.in-Err-InputTooLong.ensures.makes told)

pub returns-in-Err-BadProgram-clause-makes : goal.returns-in-Err-BadProgram-clause-makes
returns-in-Err-BadProgram-clause-makes g c = λ told. made {A = Unit {0}} plain_manner [] (g.H.Host.world c.args.host.now) (g.H.Host.world c.init.new.host) (g.H.Host.faults c.args.host.now) (g.H.Host.faults c.init.new.host) (Err c.in-Err-BadProgram.field-0) (Status.BadProgram c.in-Err-BadProgram.fault)
    (ap (λ (e : InitFault). ending_of {A = Unit {0}} (Err e)) (sym c.in-Err-BadProgram.field-0-is)) (c.in-Err-BadProgram.ensures.makes told)

pub returns-in-Err-AlreadyASilo-clause-makes : goal.returns-in-Err-AlreadyASilo-clause-makes
returns-in-Err-AlreadyASilo-clause-makes g c = λ told. made {A = Unit {0}} plain_manner [] (g.H.Host.world c.args.host.now) (g.H.Host.world c.init.new.host) (g.H.Host.faults c.args.host.now) (g.H.Host.faults c.init.new.host) (Err c.in-Err-AlreadyASilo.field-0) Status.AlreadyASilo
    (ap (λ (e : InitFault). ending_of {A = Unit {0}} (Err e)) (sym c.in-Err-AlreadyASilo.field-0-is)) (c.in-Err-AlreadyASilo.ensures.makes told)

pub returns-in-Err-DiskFault-clause-makes : goal.returns-in-Err-DiskFault-clause-makes
returns-in-Err-DiskFault-clause-makes g c = λ told. made {A = Unit {0}} plain_manner [] (g.H.Host.world c.args.host.now) (g.H.Host.world c.init.new.host) (g.H.Host.faults c.args.host.now) (g.H.Host.faults c.init.new.host) (Err c.in-Err-DiskFault.field-0) (Status.DiskFault c.in-Err-DiskFault.file)
    (ap (λ (e : InitFault). ending_of {A = Unit {0}} (Err e)) (sym c.in-Err-DiskFault.field-0-is)) (c.in-Err-DiskFault.ensures.makes told)

pub returns-in-Err-Memory-clause-makes : goal.returns-in-Err-Memory-clause-makes
returns-in-Err-Memory-clause-makes g c = λ told. made {A = Unit {0}} plain_manner [] (g.H.Host.world c.args.host.now) (g.H.Host.world c.init.new.host) (g.H.Host.faults c.args.host.now) (g.H.Host.faults c.init.new.host) (Err c.in-Err-Memory.field-0) Status.Memory
    (ap (λ (e : InitFault). ending_of {A = Unit {0}} (Err e)) (sym c.in-Err-Memory.field-0-is)) (c.in-Err-Memory.ensures.makes told)
