use Rattle.std.proofs.Common.{◌++◌, ◌∙◌, ap, List}
use Rattle.base_types.specs.declared.calls.UnitNo.{UnitNo}
use Rattle.base_types.specs.declared.stores.Version.{Version}
use Rattle.core_model.specs.Tests.{is_bad}
use Rattle.unit_table.specs.Table.{verdict_in}
use Rattle.open_batch.specs.Members.{version_by}
use Rattle.open_batch.proofs.Steps.{flat-step}
use Rattle.open_batch.proofs.outcomes.versions_of.Goals as goal

pub loop-member-preserved : goal.loop-member-preserved
loop-member-preserved c =
    let of = version_by (λ (u : UnitNo). is_bad (verdict_in c.args.units.now u)) c.args.grain in
    let unit = c.member-item.result in
    c.in_ok-add_version.ensures
    ∙ ap (λ (t : List Version). t ++ of unit) c.loop-member.invariant
    ∙ flat-step of c.args.members.now c.loop-member.member-index unit c.loop-member-test.true c.member-item.is
