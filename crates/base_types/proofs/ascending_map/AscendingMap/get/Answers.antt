use Rattle.std.proofs.Common.{◌∙◌, sym, ap, subst, List}
use Rattle.std.specs.BTreeMap.{is_at}
use Rattle.std.specs.Map.{lookup}
use Rattle.base_types.specs.MapEntries.{IsPlaceOf, IsGapFor}
use Rattle.base_types.proofs.MapEdits.{value_in, passes_by, none_at_gap}
use Rattle.base_types.proofs.ascending_map.AscendingMap.get.Goals as goal

pub returns-in-Ok : goal.returns-in-Ok
returns-in-Ok g c =
    let xs = c.self.inside.ascending.items in
    let place = subst (λ (l : List _). IsPlaceOf g.K.Ord.cmp c.args.key l c.in-Ok.at) c.as_slice.ensures.value c.in-Ok.ensures.found in
    sym (value_in g.met.K.Ord.total xs c.self.inside.others.entries c.args.key c.in-Ok.at c.index.result.now c.self.invariant place c.index.ensures)
    ∙ ap (lookup (is_at (g.K.Ord.cmp c.args.key))) c.self.view_is

pub returns-in-Err : goal.returns-in-Err
returns-in-Err g c =
    let xs = c.self.inside.ascending.items in
    let gap = subst (λ (l : List _). IsGapFor g.K.Ord.cmp c.args.key l c.in-Err.field-0) c.as_slice.ensures.value c.in-Err.ensures.absent in
    c.get.ensures.value
    ∙ sym (passes_by g.met.K.Ord.total xs c.self.inside.others.entries c.args.key (none_at_gap g.met.K.Ord.total xs c.args.key c.in-Err.field-0 gap))
    ∙ ap (lookup (is_at (g.K.Ord.cmp c.args.key))) c.self.view_is
