use Rattle.std.proofs.Common.{◌≤◌, ℕ, List, refl, sym, ap, subst}
use Rattle.host_trait.specs.Faults.{Rose}
use Rattle.host_memory.specs.declared.files.Stored.{Stored}
use Rattle.host_memory.specs.Table.{IsAt, faults_of, faults_in}
use Rattle.host_memory.proofs.Tables.{was, set_stays, set_same_bytes, set_faults, set_other_faults}
use Rattle.host_memory.proofs.files.raise.Goals as goal

pub returns-clause-rose : goal.returns-clause-rose
returns-clause-rose c =
    let e = c.index_mut.result.now in
    let there = was c.args.files.now.items c.args.file c.entry_of-i.result e e (subst (λ (l : List Stored). IsAt l c.args.file c.entry_of-i.result) c.deref.ensures.value c.entry_of-i.ensures) c.index_mut.ensures.value refl in
    let here = set_faults c.args.files.now.items c.args.file c.entry_of-i.result e c.raise.new.self (subst (λ (l : List Stored). IsAt l c.args.file c.entry_of-i.result) c.deref.ensures.value c.entry_of-i.ensures) c.index_mut.ensures.value c.raise.ensures.file in
    subst (λ (n : ℕ). Rose (faults_in c.args.files.now.items c.args.file) n) (sym here) (subst (λ (n : ℕ). Rose n c.raise.new.self.faults) (sym (ap faults_of there)) c.raise.ensures.rose)

pub returns-clause-later : goal.returns-clause-later
returns-clause-later c =
    let e = c.index_mut.result.now in
    let there = was c.args.files.now.items c.args.file c.entry_of-i.result e e (subst (λ (l : List Stored). IsAt l c.args.file c.entry_of-i.result) c.deref.ensures.value c.entry_of-i.ensures) c.index_mut.ensures.value refl in
    let here = set_faults c.args.files.now.items c.args.file c.entry_of-i.result e c.raise.new.self (subst (λ (l : List Stored). IsAt l c.args.file c.entry_of-i.result) c.deref.ensures.value c.entry_of-i.ensures) c.index_mut.ensures.value c.raise.ensures.file in
    subst (λ (n : ℕ). faults_in c.args.files.now.items c.args.file ≤ n) (sym here) (subst (λ (n : ℕ). n ≤ c.raise.new.self.faults) (sym (ap faults_of there)) c.raise.ensures.later)

pub returns-clause-others : goal.returns-clause-others
returns-clause-others c = set_other_faults c.args.files.now.items c.args.file c.entry_of-i.result c.index_mut.result.now c.raise.new.self (subst (λ (l : List Stored). IsAt l c.args.file c.entry_of-i.result) c.deref.ensures.value c.entry_of-i.ensures) c.index_mut.ensures.value c.raise.ensures.file

pub returns-clause-stays : goal.returns-clause-stays
returns-clause-stays c = set_stays c.args.files.now.items c.args.file c.entry_of-i.result c.index_mut.result.now c.raise.new.self (subst (λ (l : List Stored). IsAt l c.args.file c.entry_of-i.result) c.deref.ensures.value c.entry_of-i.ensures) c.index_mut.ensures.value c.raise.ensures.file

pub returns-clause-bytes : goal.returns-clause-bytes
returns-clause-bytes c =
    set_same_bytes c.args.files.now.items c.args.file c.entry_of-i.result c.index_mut.result.now c.raise.new.self (subst (λ (l : List Stored). IsAt l c.args.file c.entry_of-i.result) c.deref.ensures.value c.entry_of-i.ensures) c.index_mut.ensures.value c.raise.ensures.file c.raise.ensures.bytes c.raise.ensures.written
