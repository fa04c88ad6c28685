use Rattle.std.proofs.Common.{◌≡◌, ◌+◌, ◌∷◌, ◌++◌, [], Bool, true, refl, sym, ap, ◌∙◌, length, length-append, arith}
use Rattle.std.specs.Prelude.{is_ok, if◌then◌else◌}
use Rattle.unit_table.specs.declared.table.UnitTable.{UnitTable}
use Rattle.unit_table.specs.Table.{next_in}
use Rattle.unit_table.proofs.Entries.{first-of}
use Rattle.unit_table.proofs.Tables.{known-forgotten, same-units, counts-moved}
use Rattle.unit_table.proofs.table.UnitTable.forget_one.Goals as goal
use Rattle.unit_table.proofs.table.UnitTable.forget_one.Goals.{After-pop_front}

-- the table at the end
abbrev left : After-pop_front → UnitTable
left c = record c.args.self.now { past = c.push.new.self; units = c.pop_front.new.self }

-- one more result has gone
gone : (c : After-pop_front) → c.push.new.self.items ≡ c.args.self.now.past.items ++ c.in-Some-past.past ∷ []
gone c =
    let xs = c.args.self.now.past.items in
    let done : is_ok c.push.result ≡ true = sym c.is_ok.ensures.value ∙ c.if-is_ok.true in
    c.push.ensures.items ∙ ap (λ (b : Bool). if b then xs ++ c.in-Some-past.past ∷ [] else xs) done

-- it was the first that was kept
kept : (c : After-pop_front) → c.args.self.now.units.items ≡ c.in-Some.entry.now ∷ c.pop_front.new.self.items
kept c =
    let len = c.args.self.now.units.ok.0 in
    let many = c.in-Some.ensures.variant.0 refl in
    first-of c.args.self.now.units.items c.in-Some.entry.now (omega (arith, len, many)) c.in-Some.ensures.lookup
    ∙ ap (λ ys. c.in-Some.entry.now ∷ ys) (sym c.pop_front.ensures.rest)

-- as many units are known
counts : (c : After-pop_front) → next_in (left c) ≡ next_in c.args.self.now
counts c = counts-moved c.args.self.now (left c) c.in-Some-past.past c.in-Some.entry.now refl (gone c) (kept c)

pub returns-then-is_ok-clause-same : goal.returns-then-is_ok-clause-same
returns-then-is_ok-clause-same c =
    let t = c.args.self.now in
    same-units t (left c.before) (known-forgotten t (left c.before) c.before.in-Some-past.past c.before.in-Some.entry.now refl (gone c.before) (kept c.before) c.before.in-Some-past.ensures)
    (record { next = counts c.before; lines = refl; rest = record { base = refl; kinds = refl; halt = refl } })
    refl

pub returns-then-is_ok-clause-next : goal.returns-then-is_ok-clause-next
returns-then-is_ok-clause-next c = counts c.before
