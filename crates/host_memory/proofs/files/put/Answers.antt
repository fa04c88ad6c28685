use Rattle.std.proofs.Common.{◌≤◌, ℕ, List, length, refl, sym, ◌∙◌, ap, subst, rules}
use Rattle.host_trait.specs.Disk.{overlaid}
use Rattle.host_memory.specs.Entries.{IsSame}
use Rattle.host_memory.specs.declared.files.Stored.{Stored}
use Rattle.host_memory.specs.Table.{IsAt, bytes_of, bytes_in}
use Rattle.host_memory.proofs.Tables.{was, set_stays, set_same_bytes, set_same_faults, set_bytes, set_written}
use Rattle.host_memory.proofs.files.put.Goals as goal

pub put-requires : goal.put-requires
put-requires c =
    let e = c.index_mut.result.now in
    subst (λ (l : List ℕ). c.args.at ≤ length l) (ap bytes_of (was c.args.files.now.items c.args.file c.entry_of-i.result e e (subst (λ (l : List Stored). IsAt l c.args.file c.entry_of-i.result) c.deref.ensures.value c.entry_of-i.ensures) c.index_mut.ensures.value refl)) c.requires.place

pub returns-in_err-put-clause-err : goal.returns-in_err-put-clause-err
returns-in_err-put-clause-err c =
    let e = c.index_mut.result.now in
    let same : IsSame e c.put.new.self = search rules in
    let all = set_same_bytes c.args.files.now.items c.args.file c.entry_of-i.result e c.put.new.self (subst (λ (l : List Stored). IsAt l c.args.file c.entry_of-i.result) c.deref.ensures.value c.entry_of-i.ensures) c.index_mut.ensures.value same.file same.bytes same.written in
    search rules

pub returns-in_err-put-clause-stays : goal.returns-in_err-put-clause-stays
returns-in_err-put-clause-stays c =
    let e = c.index_mut.result.now in
    let same : IsSame e c.put.new.self = search rules in
    set_stays c.args.files.now.items c.args.file c.entry_of-i.result e c.put.new.self (subst (λ (l : List Stored). IsAt l c.args.file c.entry_of-i.result) c.deref.ensures.value c.entry_of-i.ensures) c.index_mut.ensures.value same.file

pub returns-in_err-put-clause-faults : goal.returns-in_err-put-clause-faults
returns-in_err-put-clause-faults c =
    let e = c.index_mut.result.now in
    let same : IsSame e c.put.new.self = search rules in
    set_same_faults c.args.files.now.items c.args.file c.entry_of-i.result e c.put.new.self (subst (λ (l : List Stored). IsAt l c.args.file c.entry_of-i.result) c.deref.ensures.value c.entry_of-i.ensures) c.index_mut.ensures.value same.file same.faults

pub returns-clause-bytes : goal.returns-clause-bytes
returns-clause-bytes c =
    let e = c.index_mut.result.now in
    let done = c.in_ok-put.ensures.ok in
    let there = was c.args.files.now.items c.args.file c.entry_of-i.result e e (subst (λ (l : List Stored). IsAt l c.args.file c.entry_of-i.result) c.deref.ensures.value c.entry_of-i.ensures) c.index_mut.ensures.value refl in
    set_bytes c.args.files.now.items c.args.file c.entry_of-i.result e c.put.new.self (subst (λ (l : List Stored). IsAt l c.args.file c.entry_of-i.result) c.deref.ensures.value c.entry_of-i.ensures) c.index_mut.ensures.value done.file (overlaid (bytes_in c.args.files.now.items c.args.file) c.args.at c.args.bytes.now)
    (done.bytes ∙ ap (λ (l : List ℕ). overlaid l c.args.at c.args.bytes.now) (sym (ap bytes_of there)))

pub returns-clause-written : goal.returns-clause-written
returns-clause-written c =
    let done = c.in_ok-put.ensures.ok in
    set_written c.args.files.now.items c.args.file c.entry_of-i.result c.index_mut.result.now c.put.new.self (subst (λ (l : List Stored). IsAt l c.args.file c.entry_of-i.result) c.deref.ensures.value c.entry_of-i.ensures) c.index_mut.ensures.value done.file done.written

pub returns-clause-stays : goal.returns-clause-stays
returns-clause-stays c = set_stays c.args.files.now.items c.args.file c.entry_of-i.result c.index_mut.result.now c.put.new.self (subst (λ (l : List Stored). IsAt l c.args.file c.entry_of-i.result) c.deref.ensures.value c.entry_of-i.ensures) c.index_mut.ensures.value c.in_ok-put.ensures.ok.file

pub returns-clause-faults : goal.returns-clause-faults
returns-clause-faults c =
    let done = c.in_ok-put.ensures.ok in
    set_same_faults c.args.files.now.items c.args.file c.entry_of-i.result c.index_mut.result.now c.put.new.self (subst (λ (l : List Stored). IsAt l c.args.file c.entry_of-i.result) c.deref.ensures.value c.entry_of-i.ensures) c.index_mut.ensures.value done.file done.faults
