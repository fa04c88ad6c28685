use Rattle.std.proofs.Common.{◌≡◌, None, true, false, List, refl, sym, subst, rules}
use Rattle.host_memory.specs.declared.files.Stored.{Stored}
use Rattle.host_memory.specs.Table.{stored_in, is_kept, IsAt, StaysKept, SameBytes, SameFaults}
use Rattle.host_memory.proofs.Tables.{at_kept, push_kept, push_stays, push_bytes, push_faults}
use Rattle.host_memory.proofs.files.keep.Goals as goal

pub returns-in-Some-clause-kept : goal.returns-in-Some-clause-kept
returns-in-Some-clause-kept c =
    let at : IsAt c.deref.result.now c.args.file c.in-Some.field-0 = search rules in
    subst (λ (l : List Stored). is_kept l c.args.file ≡ true) c.deref.ensures.value (at_kept c.deref.result.now c.args.file c.in-Some.field-0 at)

pub returns-clause-kept : goal.returns-clause-kept
returns-clause-kept c =
    let e : Stored = record { file = c.args.file; bytes = c.new.result; written = false; faults = 0 } in
    let none : stored_in c.args.files.now.items c.args.file ≡ None = search rules in
    subst (λ (l : List Stored). is_kept l c.args.file ≡ true) (sym c.in_ok-push.ensures.items) (push_kept c.args.files.now.items e none)

pub returns-clause-stays : goal.returns-clause-stays
returns-clause-stays c =
    let e : Stored = record { file = c.args.file; bytes = c.new.result; written = false; faults = 0 } in
    let none : stored_in c.args.files.now.items c.args.file ≡ None = search rules in
    subst (λ (l : List Stored). StaysKept c.args.files.now.items l) (sym c.in_ok-push.ensures.items) (push_stays c.args.files.now.items e none)

pub returns-clause-bytes : goal.returns-clause-bytes
returns-clause-bytes c =
    let e : Stored = record { file = c.args.file; bytes = c.new.result; written = false; faults = 0 } in
    let none : stored_in c.args.files.now.items c.args.file ≡ None = search rules in
    subst (λ (l : List Stored). SameBytes c.args.files.now.items l) (sym c.in_ok-push.ensures.items) (push_bytes c.args.files.now.items e none c.new.ensures.items refl)

pub returns-clause-faults : goal.returns-clause-faults
returns-clause-faults c =
    let e : Stored = record { file = c.args.file; bytes = c.new.result; written = false; faults = 0 } in
    let none : stored_in c.args.files.now.items c.args.file ≡ None = search rules in
    subst (λ (l : List Stored). SameFaults c.args.files.now.items l) (sym c.in_ok-push.ensures.items) (push_faults c.args.files.now.items e none refl)
