use Rattle.std.proofs.Common.{◌≡◌, Bool, is_ok, sym, subst, rules}
use Rattle.host_trait.specs.declared.channels.FileId.{FileId}
use Rattle.host_trait.specs.World.{Synced}
use Rattle.host_files.proofs.host.FolderHostHost.sync.Goals as goal

pub returns-in_err-count_sync-clause-told : goal.returns-in_err-count_sync-clause-told
returns-in_err-count_sync-clause-told g c = λ told.
    let same : is_ok c.from_residual.result ≡ is_ok c.sync-answer.result = search rules in
    let old = (g.S.SystemCalls.state c.args.self.now.folder.system).world in
    let new = (g.S.SystemCalls.state c.sync-answer.new.self.system).world in
    subst (λ (ok : Bool). Synced c.args.file ok old new) (sym same)
    (subst (λ (f : FileId). Synced f (is_ok c.sync-answer.result) old new) c.asked.ensures.file (c.sync-answer.ensures.told told).synced)
