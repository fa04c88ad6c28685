use Rattle.std.proofs.Common.{refl, sym, ◌∙◌, ap}
use Rattle.host_memory.specs.declared.files.Stored.{Stored}
use Rattle.host_memory.specs.Table.{faults_of}
use Rattle.host_memory.proofs.Tables.{was}
use Rattle.host_memory.proofs.files.faults_of.Goals as goal

pub returns-in-Some : goal.returns-in-Some
returns-in-Some c =
    let e = c.index-files-i.result in
    ap (λ (x : Stored). x.faults) (sym c.index-files-i.is) ∙ sym (ap faults_of (was c.args.files.now c.args.file c.in-Some.i e e c.in-Some.ensures.found c.index-files-i.is refl))
