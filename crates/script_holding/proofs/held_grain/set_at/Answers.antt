use Rattle.std.proofs.Common.{◌≡◌, ◌<◌, List, ◌∷◌, length, sym, ap, ◌∙◌, arith, Bool}
use Rattle.std.specs.Prelude.{if◌then◌else◌, slice_set}
use Rattle.script_values.proofs.Writes.{write_at}
use Rattle.script_holding.specs.Holding.{change, with_field}
use Rattle.script_holding.specs.declared.held_grain.Held.{Held}
use Rattle.script_holding.proofs.held_grain.set_at.Goals as goal

pub returns-then-same_grain : goal.returns-then-same_grain
returns-then-same_grain c =
    let within : c.loop-i.i < length c.loop-i.held.items = omega arith in
    let x = c.index.result.now in
    let written : Held → Held = (with_field c.args.field c.args.value) in
    let meant : (rest : List Held) → change c.args.grain written (x ∷ rest) ≡ written x ∷ rest = λ rest. ap (λ (b : Bool). if b then written x ∷ rest else x ∷ change c.args.grain written rest) (sym c.if-same_grain.ensures) in
    ap (λ (one : Held). slice_set c.loop-i.held.items c.loop-i.i one) c.set_held.ensures
    ∙ write_at (change c.args.grain written) written c.loop-i.held.items c.args.held.now.items c.loop-i.i x c.index_mut.result.now (c.loop-i.invariant.1 c.args.value) within c.index.ensures c.index_mut.ensures.value meant
