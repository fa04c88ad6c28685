use Rattle.std.proofs.Common.{◌≡◌, ◌∙◌, sym, ap, reverse, position, Some, None}
use Rattle.cell_model.specs.Stacks.{is_of, removed, has_version}
use Rattle.version_stack.proofs.Places.{cut-found, cut-missing, any-found, any-missing}
use Rattle.version_stack.proofs.stack.Stack.remove_from.Goals as goal

pub returns-in-Some-clause-versions : goal.returns-in-Some-clause-versions
returns-in-Some-clause-versions c =
    let e : position (is_of c.args.unit) c.self.inside.entries.items ≡ Some c.in-Some.at = ap (position (is_of c.args.unit)) (sym c.deref.ensures.value) ∙ sym c.in-Some.ensures in
    ap reverse c.truncate.ensures.items ∙ sym (cut-found (is_of c.args.unit) c.self.inside.entries.items c.in-Some.at e) ∙ ap (λ s. removed c.args.unit s.versions) c.self.view_is

pub returns-in-Some-clause-found : goal.returns-in-Some-clause-found
returns-in-Some-clause-found c =
    let e : position (is_of c.args.unit) c.self.inside.entries.items ≡ Some c.in-Some.at = ap (position (is_of c.args.unit)) (sym c.deref.ensures.value) ∙ sym c.in-Some.ensures in
    sym (any-found (is_of c.args.unit) c.self.inside.entries.items c.in-Some.at e) ∙ ap (λ s. has_version c.args.unit s.versions) c.self.view_is

pub returns-in-None-clause-versions : goal.returns-in-None-clause-versions
returns-in-None-clause-versions c =
    let e : position (is_of c.args.unit) c.self.inside.entries.items ≡ None = ap (position (is_of c.args.unit)) (sym c.deref.ensures.value) ∙ sym c.in-None.ensures in
    ap (λ s. s.versions) (sym c.self.view_is) ∙ sym (cut-missing (is_of c.args.unit) c.self.inside.entries.items e) ∙ ap (λ s. removed c.args.unit s.versions) c.self.view_is

pub returns-in-None-clause-found : goal.returns-in-None-clause-found
returns-in-None-clause-found c =
    let e : position (is_of c.args.unit) c.self.inside.entries.items ≡ None = ap (position (is_of c.args.unit)) (sym c.deref.ensures.value) ∙ sym c.in-None.ensures in
    sym (any-missing (is_of c.args.unit) c.self.inside.entries.items e) ∙ ap (λ s. has_version c.args.unit s.versions) c.self.view_is
