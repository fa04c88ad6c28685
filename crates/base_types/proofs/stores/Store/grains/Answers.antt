-- At the end each key of the map has come.
use Rattle.std.proofs.Common.{sym, ap, ◌∙◌, subst}
use Rattle.std.specs.List.Sorted.{IsStrictlySortedBy}
use Rattle.std.specs.Map.Iter.{deref}
use Rattle.std.specs.Ordering.{eq_by_cmp}
use Rattle.std.specs.Set.{is_member}
use Rattle.std.proofs.lemmas.Map.Iter.{iter_end}
use Rattle.base_types.specs.Stores.{grain_cmp}
use Rattle.base_types.proofs.stores.Store.grains.Goals as goal

pub returns : goal.returns
returns c =
    let all = (iter_end deref _ _ _ _ _ _ c.into_iter-grain-iterator.ensures.into_iter_gives c.loop-grain.yielded_by c.in-None.is c.next.ensures.steps).0 in
    let taken = c.loop-grain.invariant ∙ all in
    record { listed = λ grain. ap (λ keys. is_member (eq_by_cmp grain_cmp) keys grain) taken ∙ sym (c.keys-grain-items.ensures.has grain); ordered = subst (IsStrictlySortedBy grain_cmp) (sym (taken ∙ c.keys-grain-items.ensures.rest)) c.keys-grain-items.ensures.ordered }
