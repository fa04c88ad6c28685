use Rattle.std.proofs.Common.{refl}
use Rattle.std.specs.VecDeque.{deque_with_item}
use Rattle.unit_table.specs.KnownUnits.{KnownUnit, phase_at}
use Rattle.unit_table.proofs.Tables.{known-changed}
use Rattle.unit_table.proofs.table.UnitTable.close.Goals as goal

pub returns-clause-known : goal.returns-clause-known
returns-clause-known c =
    let t = c.args.self.now in
    let n = record t { wants = c.drop_wants.new.wants; units = deque_with_item t.units c.place-at.result c.end.new.self } in
    known-changed t n c.args.unit c.place-at.result c.index_mut-entry.result.now c.end.new.self
    (λ (k : KnownUnit). record k { phase = phase_at c.args.ending; verdict = c.args.verdict; result = c.args.outcome })
    (record { base = refl; past = refl }) refl c.place-at.ensures.at c.place-at.ensures.within c.index_mut-entry.ensures.value c.end.ensures.known
