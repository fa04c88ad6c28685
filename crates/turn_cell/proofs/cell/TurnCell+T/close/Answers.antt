use Rattle.std.proofs.Common.{◌≡◌, Some, rules, sym, ap, ◌∙◌}
use Rattle.turn_cell.proofs.Ends.{has_object, closes}
use Rattle.turn_cell.proofs.cell.TurnCell+T.close.Goals as goal

pub into_object-requires : goal.into_object-requires
into_object-requires g c =
    let f = c.close_with-closed.ensures.values.2 in
    let p = c.requires.0 in
    has_object _ _ _ _ _ f.0 f.1.0 f.1.1 p.3 p.2 c.requires.1 _ f.4 _ (search rules)

pub returns : goal.returns
returns g c =
    let f = c.close_with-closed.ensures.values.2 in
    let p = c.requires.0 in
    let unboxed : c.into_inner.result ≡ c.into_object.result.value = search rules in
    closes _ _ _ _ _ f.0 f.1.0 f.1.1 p.3 p.2 c.requires.1 _ f.4 _ (search rules) c.into_inner.result (c.into_object.ensures ∙ ap Some (sym unboxed))
