use Rattle.std.proofs.Common.{◌≡◌, ℕ, ◌+◌, ap, ◌∙◌}
use Rattle.unit_table.specs.KnownUnits.{just_begun, with_kid}
use Rattle.unit_table.specs.Table.{known_in, next_in}
use Rattle.unit_table.proofs.UnitBegins.{Counted, Pushed, begin-units, begin-verdict, begin-result}
use Rattle.unit_table.proofs.table.UnitTable.begin.Goals as goal
use Rattle.unit_table.proofs.table.UnitTable.begin.Goals.{After-push}

-- the parent has one child more
counted : (c : After-push) → Counted c.args.self.now c.count.new.self c.args.origin (record { 0 = next_in c.args.self.now })
counted c =
    let t = c.args.self.now in
    let number : t.base + c.len.result + c.len-2.result ≡ next_in t = λ i. t.base + c.len.ensures i + c.len-2.ensures i in
    record {
      known = c.count.ensures.known ∙ ap (λ (q : ℕ). with_kid (known_in t) c.args.origin (record { 0 = q })) number;
      lines = c.count.ensures.lines;
      room = c.count.ensures.room;
      rest = c.count.ensures.rest;
    }

-- and the unit is known
pushed : (c : After-push) → Pushed c.count.new.self c.push.new.self (just_begun c.args.origin c.args.call c.args.plain)
pushed c = record {
  known = c.push.ensures.known;
  lines = c.push.ensures.lines;
  next = c.push.ensures.next;
  wants = c.push.ensures.wants;
  rest = c.push.ensures.rest;
}

pub returns-clause-units : goal.returns-clause-units
returns-clause-units c = begin-units c.args.self.now c.count.new.self c.push.new.self c.args.origin c.args.call c.args.plain (counted c) (pushed c)

pub returns-clause-verdict : goal.returns-clause-verdict
returns-clause-verdict c = begin-verdict c.args.self.now c.count.new.self c.push.new.self c.args.origin c.args.call c.args.plain (counted c) (pushed c)

pub returns-clause-result : goal.returns-clause-result
returns-clause-result c = begin-result c.args.self.now c.count.new.self c.push.new.self c.args.origin c.args.call c.args.plain (counted c) (pushed c)
