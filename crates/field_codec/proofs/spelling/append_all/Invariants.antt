use Rattle.std.proofs.Common.{◌≡◌, ◌++◌, take}
use Rattle.std.specs.List.{flat_map, AllByRecursion}
use Rattle.field_codec.proofs.spelling.append_all.Given as goal

abbrev pub invariant-loop-item : goal.invariant-loop-item
invariant-loop-item g l = record {
  spelled : l.into.items ≡ l.fn.into.items ++ flat_map g.T.Spelled.spelling (take l.item-index l.items);
  fitting : AllByRecursion g.T.Spelled.fits (take l.item-index l.items);
}
