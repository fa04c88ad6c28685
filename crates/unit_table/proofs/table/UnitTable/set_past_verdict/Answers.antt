use Rattle.std.proofs.Common.{◌-◌, refl, ap, sym, ◌∙◌}
use Rattle.std.specs.Vec.{with_item}
use Rattle.core_model.specs.CoreState.{put}
use Rattle.unit_table.specs.KnownUnits.{KnownUnit}
use Rattle.unit_table.specs.Table.{known_in}
use Rattle.unit_table.proofs.Tables.{past-within, past-read, past-set}
use Rattle.unit_table.proofs.table.UnitTable.set_past_verdict.Goals as goal

pub returns-clause-known : goal.returns-clause-known
returns-clause-known c =
    let t = c.args.self.now in
    let u = c.args.unit in
    let y = c.index_mut-past.result.now in
    let x = record y { verdict = c.args.verdict } in
    let k = u.0 - t.base in
    let inside = past-within t u c.requires in
    past-set t (record t { past = with_item t.past k x }) u k x refl refl refl refl inside.1 inside.0
    ∙ ap (λ (y : KnownUnit). put (known_in t) u (record y { verdict = c.args.verdict })) (sym (past-read t u k y inside.0 inside.1 c.index_mut-past.ensures.value))
