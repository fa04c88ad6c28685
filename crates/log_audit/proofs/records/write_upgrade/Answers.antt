use Rattle.std.proofs.Common.{◌≡◌, ℕ, List, [], refl, ◌∙◌, subst}
use Rattle.std.specs.Prelude.{is_ok}
use Rattle.std.proofs.lemmas.Result.{err_from_is_err_and}
use Rattle.promise_spec.specs.Reports.{line_of}
use Rattle.log_audit.specs.Lines.{upgrade_data}
use Rattle.log_audit.specs.ReportOutput.{PutsPart}
use Rattle.log_audit.proofs.TextParts.{none_put, part_front}
use Rattle.log_audit.proofs.records.write_upgrade.Goals as goal

pub returns-in_err-line-clause-puts : goal.returns-in_err-line-clause-puts
returns-in_err-line-clause-puts g c =
    let p = err_from_is_err_and c.from_residual.result c.from_residual.ensures.1 in
    rw p.1 λ told. part_front _ _ [] _ _ (none_put (g.H.Host.world c.args.host.now)) refl

pub returns-clause-puts : goal.returns-clause-puts
returns-clause-puts g c told =
    let line : c.as_bytes.result.now ≡ line_of (upgrade_data c.args.session c.args.length) = c.as_bytes.ensures.value ∙ c.in_ok-line.ensures in
    subst (λ (l : List ℕ). PutsPart l (is_ok c.write_line.result) (g.H.Host.world c.args.host.now) (g.H.Host.world c.write_line.new.host)) line (c.write_line.ensures.puts told)
