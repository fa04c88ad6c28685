use Rattle.std.proofs.Common.{List, subst}
use Rattle.host_memory.specs.declared.files.Stored.{Stored}
use Rattle.host_memory.specs.Table.{IsAt}
use Rattle.host_memory.proofs.Tables.{set_stays, set_same_faults, set_bytes, set_written}
use Rattle.host_memory.proofs.files.replace.Goals as goal

pub returns-clause-bytes : goal.returns-clause-bytes
returns-clause-bytes c =
    set_bytes c.args.files.now.items c.args.file c.entry_of-i.result c.index_mut.result.now c.replace.new.self (subst (λ (l : List Stored). IsAt l c.args.file c.entry_of-i.result) c.deref.ensures.value c.entry_of-i.ensures) c.index_mut.ensures.value c.replace.ensures.file c.args.bytes.items c.replace.ensures.bytes

pub returns-clause-written : goal.returns-clause-written
returns-clause-written c =
    set_written c.args.files.now.items c.args.file c.entry_of-i.result c.index_mut.result.now c.replace.new.self (subst (λ (l : List Stored). IsAt l c.args.file c.entry_of-i.result) c.deref.ensures.value c.entry_of-i.ensures) c.index_mut.ensures.value c.replace.ensures.file c.replace.ensures.written

pub returns-clause-stays : goal.returns-clause-stays
returns-clause-stays c = set_stays c.args.files.now.items c.args.file c.entry_of-i.result c.index_mut.result.now c.replace.new.self (subst (λ (l : List Stored). IsAt l c.args.file c.entry_of-i.result) c.deref.ensures.value c.entry_of-i.ensures) c.index_mut.ensures.value c.replace.ensures.file

pub returns-clause-faults : goal.returns-clause-faults
returns-clause-faults c =
    set_same_faults c.args.files.now.items c.args.file c.entry_of-i.result c.index_mut.result.now c.replace.new.self (subst (λ (l : List Stored). IsAt l c.args.file c.entry_of-i.result) c.deref.ensures.value c.entry_of-i.ensures) c.index_mut.ensures.value c.replace.ensures.file c.replace.ensures.faults
