use Rattle.std.proofs.Common.{◌≡◌, ℕ, List, [], true, false, refl, sym, ◌∙◌, ap, subst}
use Rattle.std.proofs.lemmas.Result.{err_from_is_err_and}
use Rattle.base_types.specs.declared.shapes.Shape.{Shape}
use Rattle.commit_log.specs.declared.records.CommitRecord.{CommitRecord}
use Rattle.log_reading.specs.Entries.{entry_said}
use Rattle.log_reading.specs.declared.bodies.Said.{Said}
use Rattle.log_audit.specs.InForce.{types_in_force, HasShape}
use Rattle.log_audit.specs.declared.in_force.InForce.{InForce}
use Rattle.log_audit.specs.Lines.{record_lines, said_lines}
use Rattle.log_audit.specs.ReportOutput.{PutsPart}
use Rattle.log_audit.proofs.TextParts.{none_put, part_front}
use Rattle.log_audit.proofs.records.write_said.Goals as goal

-- the lines of records are those of what a block says that has them
said_records : (now : InForce) → HasShape now → (session : ℕ) (records : List CommitRecord) (said : Said) → said ≡ Said.Records records
    → record_lines now.shape (types_in_force now) session records ≡ said_lines (types_in_force now) session (entry_said said)
said_records now shape session records said is =
    ap (λ (s : Shape). record_lines s (types_in_force now) session records) shape ∙ ap (λ (x : Said). said_lines (types_in_force now) session (entry_said x)) (sym is)

pub returns-in_err-write_records-in-Records-clause-puts : goal.returns-in_err-write_records-in-Records-clause-puts
returns-in_err-write_records-in-Records-clause-puts g c =
    let p = err_from_is_err_and c.from_residual.result c.from_residual.ensures.1 in
    let now = c.args.now.now in
    let records = c.in-Records.records in
    let lines : record_lines now.shape (types_in_force now) c.args.session c.as_slice.result.now ≡ said_lines (types_in_force now) c.args.session (entry_said c.args.said) =
    ap (λ (l : List CommitRecord). record_lines now.shape (types_in_force now) c.args.session l) c.as_slice.ensures ∙ said_records now c.requires.shape c.args.session records c.args.said c.in-Records.is in
    rw p.1 λ told. subst (λ (l : List ℕ). PutsPart l false (g.H.Host.world c.args.host.now) (g.H.Host.world c.write_records.new.host)) lines (c.in_err-write_records-in-Records.ensures.puts told)

pub returns-in_ok-write_records-in-Records-clause-puts : goal.returns-in_ok-write_records-in-Records-clause-puts
returns-in_ok-write_records-in-Records-clause-puts g c told =
    let now = c.args.now.now in
    let records = c.in-Records.records in
    let lines : record_lines now.shape (types_in_force now) c.args.session c.as_slice.result.now ≡ said_lines (types_in_force now) c.args.session (entry_said c.args.said) =
    ap (λ (l : List CommitRecord). record_lines now.shape (types_in_force now) c.args.session l) c.as_slice.ensures ∙ said_records now c.requires.shape c.args.session records c.args.said c.in-Records.is in
    subst (λ (l : List ℕ). PutsPart l true (g.H.Host.world c.args.host.now) (g.H.Host.world c.write_records.new.host)) lines (c.in_ok-write_records-in-Records.ensures.puts told)

pub returns-in_err-change_to-in-Upgrade-clause-puts : goal.returns-in_err-change_to-in-Upgrade-clause-puts
returns-in_err-change_to-in-Upgrade-clause-puts g c =
    let p = err_from_is_err_and c.from_residual-in_err-change_to-in-Upgrade.result c.from_residual-in_err-change_to-in-Upgrade.ensures.1 in
    rw p.1 λ told. part_front _ _ [] _ _ (none_put (g.H.Host.world c.args.host.now)) refl
