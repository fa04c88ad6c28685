use Rattle.std.proofs.Common.{◌≡◌, ◌<◌, List, length, take, get_or, false, ◌∙◌, ap, subst, rules}
use Rattle.std.proofs.lemmas.List.{take_more}
use Rattle.host_trait.specs.Files.{same_file}
use Rattle.host_memory.specs.declared.files.Stored.{Stored}
use Rattle.host_memory.specs.Table.{stored_in}
use Rattle.host_memory.proofs.Tables.{none-push}
use Rattle.host_memory.proofs.files.position_of.Goals as goal

pub loop-i-preserved : goal.loop-i-preserved
loop-i-preserved c =
    let files = c.args.files.now in
    let i = c.loop-i.i in
    let e = c.index-files-i.result in
    let low : i < length files = search rules in
    let other : same_file e.file c.args.file ≡ false = search rules in
    let there : same_file (get_or files i e).file c.args.file ≡ false = subst (λ (x : Stored). same_file x.file c.args.file ≡ false) c.index-files-i.is other in
    ap (λ (l : List Stored). stored_in l c.args.file) (take_more files i e low) ∙ none-push (take i files) (get_or files i e) c.args.file c.loop-i.invariant there
