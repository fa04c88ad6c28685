use Rattle.std.proofs.Common.{◌≡◌, refl, [], ◌∷◌, ◌++◌}
use Rattle.std.specs.VecDeque.{deque_with_item}
use Rattle.core_model.specs.CoreState.{put}
use Rattle.unit_table.specs.declared.table.UnitTable.{UnitTable}
use Rattle.unit_table.specs.KnownUnits.{KnownUnit}
use Rattle.unit_table.specs.Parts.{deps_after}
use Rattle.unit_table.specs.Table.{known_in}
use Rattle.unit_table.proofs.Tables.{known-changed, read-units, attr-kept}
use Rattle.unit_table.proofs.table.UnitTable.note_read.Goals as goal
use Rattle.unit_table.proofs.table.UnitTable.note_read.Goals.{After-add_read}

-- the table at the end
abbrev left : After-add_read → UnitTable
left c = record c.args.self.now { wants = c.drop_want.new.wants; units = deque_with_item c.args.self.now.units c.place-at.result c.add_read.new.self }

-- what is known of a unit, after the read
abbrev has_read : After-add_read → KnownUnit → KnownUnit
has_read c k = record k { reads = k.reads ++ c.args.read ∷ []; deps = deps_after c.args.depends k.deps c.args.read.source }

-- the unit has read, and nothing else is known
read_more : (c : After-add_read) → known_in (left c) ≡ put (known_in c.args.self.now) c.args.unit (has_read c (known_in c.args.self.now c.args.unit))
read_more c =
    known-changed c.args.self.now (left c) c.args.unit c.place-at.result c.index_mut-entry.result.now c.add_read.new.self (has_read c)
    (record { base = refl; past = refl }) refl c.place-at.ensures.at c.place-at.ensures.within c.index_mut-entry.ensures.value c.add_read.ensures

pub returns-clause-units : goal.returns-clause-units
returns-clause-units c =
    read-units c.args.self.now (left c.before) c.args.unit c.args.read c.args.depends (read_more c.before) c.drop_want.ensures
    (record { next = refl; lines = refl; rest = record { base = refl; kinds = refl; halt = refl } })

pub returns-clause-verdict : goal.returns-clause-verdict
returns-clause-verdict c = attr-kept (λ (k : KnownUnit). k.verdict) (known_in c.args.self.now) (known_in (left c.before)) c.args.unit _ (read_more c.before) refl

pub returns-clause-result : goal.returns-clause-result
returns-clause-result c = attr-kept (λ (k : KnownUnit). k.result) (known_in c.args.self.now) (known_in (left c.before)) c.args.unit _ (read_more c.before) refl
