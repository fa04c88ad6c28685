use Rattle.std.proofs.Common.{◌≡◌, ℕ, List, [], ◌∷◌, ◌++◌, length, ap, sym, ◌∙◌, arith}
use Rattle.std.specs.Prelude.{slice_get}
use Rattle.script_values.specs.declared.locals.Local.{Local}
use Rattle.script_values.specs.Expressions.{Locals}
use Rattle.script_meaning.specs.Calls.{bound}
use Rattle.script_meaning.proofs.Bindings.{bound_none, bound_next, bound_more, bound_all}
use Rattle.script_meaning.proofs.targets.bind_each.Goals as goal

pub loop-value-init : goal.loop-value-init
loop-value-init c = c.requires ∙ sym (bound_none c.args.params.now.list.items)

pub loop-value-preserved : goal.loop-value-preserved
loop-value-preserved c =
    let names = c.args.params.now.list.items in
    let values = c.loop-value.yielded in
    let value = c.in-Some.value in
    let param = c.in-Some-get.param.now in
    let count : c.len.result ≡ length c.loop-value.locals.items = omega arith in
    let there = sym (bound_next names values) ∙ ap (slice_get names) (sym (count ∙ ap length c.loop-value.invariant)) ∙ sym c.in-Some-get.ensures in
    (c.in_ok-push.ensures {u = tt}).items
    ∙ ap (λ (l : Locals). l ++ ((record { name = c.in_ok-name.name; value = value }) ∷ [])) c.loop-value.invariant
    ∙ ap (λ (n : List ℕ). let one : Local = record { name = n; value = value } in bound names values ++ (one ∷ [])) (c.in_ok-name.ensures {u = tt})
    ∙ sym (bound_more names values param value there)

pub loop-value-preserved-in_default : goal.loop-value-preserved-in_default
loop-value-preserved-in_default c =
    let names = c.args.params.now.list.items in
    let values = c.loop-value.yielded in
    let count : c.len.result ≡ length c.loop-value.locals.items = omega arith in
    let none = sym (bound_next names values) ∙ ap (slice_get names) (sym (count ∙ ap length c.loop-value.invariant)) ∙ sym (c.in_default.ensures {u = tt}) in
    c.loop-value.invariant ∙ sym (bound_all names values (c.in-Some.value ∷ []) none)
