use Rattle.std.proofs.Common.{◌≡◌, true, false, refl, sym, ◌∙◌, ap, rules}
use Rattle.host_memory.specs.declared.files.Stored.{Stored}
use Rattle.host_memory.specs.Table.{bytes_of, written_of}
use Rattle.host_memory.proofs.Tables.{was}
use Rattle.host_memory.proofs.files.find.Goals as goal

pub returns-then-not-files-i-clause-none : goal.returns-then-not-files-i-clause-none
returns-then-not-files-i-clause-none c =
    let e = c.index-files-i.result in
    let unwritten : e.written ≡ false = search rules in
    ap written_of (was c.args.files.now c.args.file c.in_ok-i.i e e c.in_ok-i.ensures.found c.index-files-i.is refl) ∙ unwritten

pub returns-clause-some : goal.returns-clause-some
returns-clause-some c =
    let e = c.index-files-i-2.result in
    let d = c.index-files-i.result in
    let written : d.written ≡ true = search rules in (
      ap written_of (was c.args.files.now c.args.file c.in_ok-i.i d d c.in_ok-i.ensures.found c.index-files-i.is refl) ∙ written,
      c.deref.ensures.value ∙ ap (λ (x : Stored). x.bytes.items) (sym c.index-files-i-2.is) ∙ sym (ap bytes_of (was c.args.files.now c.args.file c.in_ok-i.i e e c.in_ok-i.ensures.found c.index-files-i-2.is refl)),
    )
