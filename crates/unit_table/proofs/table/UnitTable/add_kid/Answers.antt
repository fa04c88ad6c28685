use Rattle.std.proofs.Common.{refl, [], ◌∷◌, ◌++◌}
use Rattle.std.specs.VecDeque.{deque_with_item}
use Rattle.unit_table.specs.KnownUnits.{KnownUnit}
use Rattle.unit_table.proofs.Tables.{known-changed}
use Rattle.unit_table.proofs.table.UnitTable.add_kid.Goals as goal

pub returns-clause-known : goal.returns-clause-known
returns-clause-known c =
    let t = c.args.self.now in
    let n = record t { units = deque_with_item t.units c.place-at.result c.add_kid.new.self } in
    known-changed t n c.args.parent c.place-at.result c.index_mut-entry.result.now c.add_kid.new.self
    (λ (k : KnownUnit). record k { kids = k.kids ++ c.args.unit ∷ [] })
    (record { base = refl; past = refl }) refl c.place-at.ensures.at c.place-at.ensures.within c.index_mut-entry.ensures.value c.add_kid.ensures
