use Rattle.std.proofs.Common.{◌≡◌, ◌∙◌, sym, ap, arith, reverse, position, length, Some, None}
use Rattle.std.proofs.lemmas.List.{take_all}
use Rattle.cell_model.specs.Stacks.{is_of}
use Rattle.version_stack.proofs.Places.{cut-found, cut-missing}
use Rattle.version_stack.proofs.stack.left_without.Goals as goal

pub returns-in-Some-clause-left : goal.returns-in-Some-clause-left
returns-in-Some-clause-left c =
    let e : position (is_of c.args.unit) c.args.entries.now ≡ Some c.in-Some.at = sym c.in-Some.ensures in
    sym (cut-found (is_of c.args.unit) c.args.entries.now c.in-Some.at e)

pub returns-in-None-clause-left : goal.returns-in-None-clause-left
returns-in-None-clause-left c =
    let e : position (is_of c.args.unit) c.args.entries.now ≡ None = sym c.in-None.ensures in
    ap reverse (take_all (length c.args.entries.now) c.args.entries.now (omega arith)) ∙ sym (cut-missing (is_of c.args.unit) c.args.entries.now e)
