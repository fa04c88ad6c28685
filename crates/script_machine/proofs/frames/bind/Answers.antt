use Rattle.std.proofs.Common.{◌≡◌, ◌++◌, ◌⊎◌, inl, inr, length, ap, sym, ◌∙◌, arith, ⊎_elim, append-nil, List}
use Rattle.script_values.specs.declared.locals.Local.{Local}
use Rattle.script_machine.proofs.Entries.{bound_end, min_is_one}
use Rattle.script_machine.proofs.frames.bind.Goals as goal

pub returns : goal.returns
returns c =
    let names = c.args.params.now in
    let values = c.args.args.now in
    let i = c.loop-i.i in
    let which : (i ≡ length names) ⊎ (i ≡ length values) = ⊎_elim (λ e. inl (omega (arith, e, c.min-count.ensures, c.loop-i-test.false, c.loop-i.auto.i-end))) (λ e. inr (omega (arith, e, c.min-count.ensures, c.loop-i-test.false, c.loop-i.auto.i-end))) (min_is_one (length names) (length values)) in
    sym (append-nil c.loop-i.locals.items) ∙ ap (λ (l : List Local). c.loop-i.locals.items ++ l) (sym (bound_end i names values which)) ∙ c.loop-i.invariant
