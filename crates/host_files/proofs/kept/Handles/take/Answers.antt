use Rattle.std.proofs.Common.{sym, ◌∙◌}
use Rattle.host_files.proofs.KeptHandles.{is_of_file, is_so_of_file}
use Rattle.host_files.proofs.kept.Handles.take.Goals as goal

pub returns-in-Some-remove-clause-file : goal.returns-in-Some-remove-clause-file
returns-in-Some-remove-clause-file g c =
    let kept = c.in-Some-remove.kept in
    kept.serves ∙ is_of_file (λ k. k.file) _ c.args.file c.in-Some.at kept (sym c.place_of.ensures ∙ c.in-Some.is) c.in-Some-remove.ensures.value

pub returns-in-Some-remove-clause-like : goal.returns-in-Some-remove-clause-like
returns-in-Some-remove-clause-like g c = λ is_so all.
    is_so_of_file (λ k. k.file) is_so _ c.args.file c.in-Some.at c.in-Some-remove.kept (sym c.place_of.ensures ∙ c.in-Some.is) c.in-Some-remove.ensures.value all
