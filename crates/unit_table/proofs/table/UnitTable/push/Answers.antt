use Rattle.std.proofs.Common.{refl, ap, ◌∙◌}
use Rattle.core_model.specs.CoreState.{put}
use Rattle.unit_table.specs.Table.{known_in, next_in}
use Rattle.unit_table.proofs.Tables.{known-push}
use Rattle.unit_table.proofs.table.UnitTable.push.Goals as goal

pub returns-in-Some-clause-known : goal.returns-in-Some-clause-known
returns-in-Some-clause-known c =
    let t = c.args.self.now in
    let n = record t { units = c.push_back_reserved.new.self; spare = c.take.new.self } in
    known-push t n _ (record { base = refl; past = refl }) c.push_back_reserved.ensures.items
    ∙ ap (put (known_in t) (record { 0 = next_in t })) c.begin.ensures
