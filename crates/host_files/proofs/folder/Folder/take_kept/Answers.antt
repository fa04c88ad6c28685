use Rattle.std.proofs.Common.{sym, ◌∙◌, ap}
use Rattle.host_files.proofs.folder.Folder.take_kept.Goals as goal

pub returns-in_err-refuse_missing-clause-fine : goal.returns-in_err-refuse_missing-clause-fine
returns-in_err-refuse_missing-clause-fine g c = λ told well regular.
    let same = ap (λ (s : _). (g.S.SystemCalls.answered s).refusals) c.take_open.ensures.system in
    absurd (c.in_err-refuse_missing.ensures.refused told regular (well.unrefused ∙ sym same))
