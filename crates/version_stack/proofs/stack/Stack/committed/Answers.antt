use Rattle.std.proofs.Common.{◌≡◌, ◌∙◌, sym, ap, reverse, position, length, Some, None, arith}
use Rattle.cell_model.specs.Stacks.{is_of, committed_stack}
use Rattle.version_stack.proofs.Places.{committed-missing, committed-keeps, found-within}
use Rattle.version_stack.proofs.stack.Stack.committed.Goals as goal

pub returns-in_default-clause-versions : goal.returns-in_default-clause-versions
returns-in_default-clause-versions c =
    let e : position (is_of c.args.unit) (reverse c.self.inside.entries.items) ≡ None = ap (λ xs. position (is_of c.args.unit) (reverse xs)) (sym c.deref.ensures.value) ∙ sym c.in_default.ensures in
    ap (λ s. s.versions) (sym c.self.view_is) ∙ sym (committed-missing c.args.unit (reverse c.self.inside.entries.items) e) ∙ ap (λ s. committed_stack c.args.unit s.versions) c.self.view_is

pub returns-clause-versions : goal.returns-clause-versions
returns-clause-versions c =
    let e : position (is_of c.args.unit) (reverse c.self.inside.entries.items) ≡ Some c.in-Some.above = ap (λ xs. position (is_of c.args.unit) (reverse xs)) (sym c.deref.ensures.value) ∙ sym c.in-Some.ensures in
    let within = found-within (is_of c.args.unit) c.self.inside.entries.items c.in-Some.above e in
    ap reverse (c.drop-drain.ensures.items ∙ c.drain.ensures.kept)
    ∙ committed-keeps c.args.unit c.self.inside.entries.items c.in-Some.above _ e (omega (arith, within, ap length c.deref.ensures.value))
    ∙ ap (λ s. committed_stack c.args.unit s.versions) c.self.view_is
