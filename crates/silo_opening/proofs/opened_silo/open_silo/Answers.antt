use Rattle.silo_opening.proofs.opened_silo.open_silo.Goals as goal

pub returns-in-Ok-Some-clause-opened : goal.returns-in-Ok-Some-clause-opened
returns-in-Ok-Some-clause-opened g c = rw c.in-Ok-Some.field-0-is at c.in-Ok-Some.ensures.opened

pub returns-in-Ok-Some-clause-bounds : goal.returns-in-Ok-Some-clause-bounds
returns-in-Ok-Some-clause-bounds g c = rw c.in-Ok-Some.field-0-is at c.in-Ok-Some.ensures.bounds

pub returns-in-Ok-Some-clause-calls : goal.returns-in-Ok-Some-clause-calls
returns-in-Ok-Some-clause-calls g c = record { ready = c.open_silo_in.ensures.calls.ready; calm = c.in-Ok-Some.ensures.calls.calm; fault = tt }

pub returns-in-Ok-None-clause-calls : goal.returns-in-Ok-None-clause-calls
returns-in-Ok-None-clause-calls g c = record { ready = c.open_silo_in.ensures.calls.ready; calm = tt; fault = c.in-Ok-None.ensures.calls.calm }

pub returns-in-Err-clause-calls : goal.returns-in-Err-clause-calls
returns-in-Err-clause-calls g c = record { ready = c.open_silo_in.ensures.calls.ready; calm = tt; fault = c.in-Err.ensures.calls.fault }
