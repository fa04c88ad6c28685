use Rattle.std.proofs.Common.{◌≡◌, refl, sym, ap, ◌∙◌}
use Rattle.std.specs.VecDeque.{deque_with_item}
use Rattle.core_model.specs.CoreState.{put}
use Rattle.core_model.specs.Tests.{is_over}
use Rattle.unit_table.specs.declared.table.UnitTable.{UnitTable}
use Rattle.unit_table.specs.KnownUnits.{KnownUnit}
use Rattle.unit_table.specs.Table.{known_in}
use Rattle.unit_table.proofs.Tables.{known-read, known-changed, decided-units, attr-put, attr-kept}
use Rattle.unit_table.proofs.table.UnitTable.set_verdict.Goals as goal
use Rattle.unit_table.proofs.table.UnitTable.set_verdict.Goals.{After-set_verdict}

-- the table at the end
abbrev left : After-set_verdict → UnitTable
left c = record c.args.self.now { units = deque_with_item c.args.self.now.units c.place-at.result c.set_verdict.new.self }

-- the unit's verdict alone is another
judged : (c : After-set_verdict) → known_in (left c) ≡ put (known_in c.args.self.now) c.args.unit (record (known_in c.args.self.now c.args.unit) { verdict = c.args.verdict })
judged c =
    known-changed c.args.self.now (left c) c.args.unit c.place-at.result c.index_mut-entry.result.now c.set_verdict.new.self
    (λ (k : KnownUnit). record k { verdict = c.args.verdict })
    (record { base = refl; past = refl }) refl c.place-at.ensures.at c.place-at.ensures.within c.index_mut-entry.ensures.value c.set_verdict.ensures

pub returns-clause-units : goal.returns-clause-units
returns-clause-units c =
    decided-units c.args.self.now (left c.before) c.args.unit c.args.verdict (judged c.before) refl
    (record { next = refl; lines = refl; rest = record { base = refl; kinds = refl; halt = refl } })

pub returns-clause-verdict : goal.returns-clause-verdict
returns-clause-verdict c = attr-put (λ (k : KnownUnit). k.verdict) (known_in c.args.self.now) (known_in (left c.before)) c.args.unit _ (judged c.before)

pub returns-clause-result : goal.returns-clause-result
returns-clause-result c = attr-kept (λ (k : KnownUnit). k.result) (known_in c.args.self.now) (known_in (left c.before)) c.args.unit _ (judged c.before) refl

pub set_verdict-requires : goal.set_verdict-requires
set_verdict-requires c =
    ap (λ (k : KnownUnit). is_over k.phase) (sym (known-read c.args.self.now c.args.unit c.place-at.result c.index_mut-entry.result.now c.place-at.ensures.at c.place-at.ensures.within c.index_mut-entry.ensures.value))
    ∙ c.requires

pub returns-then-is_past-clause-units : goal.returns-then-is_past-clause-units
returns-then-is_past-clause-units c =
    decided-units c.args.self.now c.set_past_verdict.new.self c.args.unit c.args.verdict c.set_past_verdict.ensures.known c.set_past_verdict.ensures.wants
    (record { next = c.set_past_verdict.ensures.next; lines = c.set_past_verdict.ensures.lines; rest = c.set_past_verdict.ensures.rest })

pub returns-then-is_past-clause-verdict : goal.returns-then-is_past-clause-verdict
returns-then-is_past-clause-verdict c =
    attr-put (λ (k : KnownUnit). k.verdict) (known_in c.args.self.now) (known_in c.set_past_verdict.new.self) c.args.unit _ c.set_past_verdict.ensures.known

pub returns-then-is_past-clause-result : goal.returns-then-is_past-clause-result
returns-then-is_past-clause-result c =
    attr-kept (λ (k : KnownUnit). k.result) (known_in c.args.self.now) (known_in c.set_past_verdict.new.self) c.args.unit _ c.set_past_verdict.ensures.known refl
