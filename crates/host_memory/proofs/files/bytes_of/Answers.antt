use Rattle.std.proofs.Common.{refl, sym, ◌∙◌, ap}
use Rattle.host_memory.specs.declared.files.Stored.{Stored}
use Rattle.host_memory.specs.Table.{bytes_of}
use Rattle.host_memory.proofs.Tables.{was}
use Rattle.host_memory.proofs.files.bytes_of.Goals as goal

pub returns : goal.returns
returns c =
    let e = c.index-files-i.result in
    c.deref.ensures.value ∙ ap (λ (x : Stored). x.bytes.items) (sym c.index-files-i.is) ∙ sym (ap bytes_of (was c.args.files.now c.args.file c.entry_of-i.result e e c.entry_of-i.ensures c.index-files-i.is refl))
