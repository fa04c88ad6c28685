use Rattle.std.proofs.Common.{◌≡◌, ◌++◌, length, set, sym, subst, List, arith}
use Rattle.std.specs.Map.{keys_of}
use Rattle.std.specs.List.Sorted.{IsStrictlySortedBy}
use Rattle.std.proofs.lemmas.Bool.Decides.{nat_tests}
use Rattle.base_types.specs.MapEntries.{IsPlaceOf, IsGapFor, SetsValue}
use Rattle.base_types.proofs.MapEdits.{same_keys, sets_in, sets_pushed, sets_other, none_at_gap, sorted_pushed, less_all}
use Rattle.base_types.proofs.ascending_map.AscendingMap.insert.Goals as goal

pub invariant_of-self : goal.invariant_of-self
invariant_of-self g c =
    let xs = c.self.inside.ascending.items in
    subst (IsStrictlySortedBy g.K.Ord.cmp) (sym (same_keys xs c.in-Ok.at c.index_mut.result.now c.args.value c.index_mut.ensures.value)) c.self.invariant

pub returns-in-Ok-clause-ok : goal.returns-in-Ok-clause-ok
returns-in-Ok-clause-ok g c =
    let xs = c.self.inside.ascending.items in
    let ys = c.self.inside.others.entries in
    let e = c.index_mut.result.now in
    let place = subst (λ (l : List _). IsPlaceOf g.K.Ord.cmp c.args.key l c.in-Ok.at) c.as_slice.ensures.value c.in-Ok.ensures.found in
    subst (λ (l : List _). SetsValue g.K.Ord.cmp l (set xs c.in-Ok.at (e.0, c.args.value) ++ ys) c.args.key c.args.value) c.self.view_is
    (sets_in g.met.K.Ord.total xs ys c.args.key c.args.value c.in-Ok.at e c.self.invariant place c.index_mut.ensures.value)

pub invariant_of-self-then-at-len : goal.invariant_of-self-then-at-len
invariant_of-self-then-at-len g c =
    let xs = c.self.inside.ascending.items in
    let gap = subst (λ (l : List _). IsGapFor g.K.Ord.cmp c.args.key l c.in-Err.at) c.as_slice.ensures.value c.in-Err.ensures.absent in
    let all : c.in-Err.at ≡ length xs = grind (arith, nat_tests, c.if-at-len.true, c.len.ensures) in
    subst (λ (l : List _). IsStrictlySortedBy g.K.Ord.cmp (keys_of l)) (sym c.in_ok-push-in-Err.ensures.items)
    (sorted_pushed g.met.K.Ord.total xs c.args.key c.args.value c.self.invariant (less_all g.met.K.Ord.total xs c.args.key c.in-Err.at gap all))

pub returns-then-at-len-clause-ok : goal.returns-then-at-len-clause-ok
returns-then-at-len-clause-ok g c =
    let xs = c.self.inside.ascending.items in
    let ys = c.self.inside.others.entries in
    let gap = subst (λ (l : List _). IsGapFor g.K.Ord.cmp c.args.key l c.in-Err.at) c.as_slice.ensures.value c.in-Err.ensures.absent in
    subst (λ (l : List _). SetsValue g.K.Ord.cmp l (c.push.new.self.items ++ ys) c.args.key c.args.value) c.self.view_is
    (subst (λ (l : List _). SetsValue g.K.Ord.cmp (xs ++ ys) (l ++ ys) c.args.key c.args.value) (sym c.in_ok-push-in-Err.ensures.items)
    (sets_pushed g.met.K.Ord.total xs ys c.args.key c.args.value (none_at_gap g.met.K.Ord.total xs c.args.key c.in-Err.at gap)))

pub returns-in_ok-insert-in-Err-clause-ok : goal.returns-in_ok-insert-in-Err-clause-ok
returns-in_ok-insert-in-Err-clause-ok g c =
    let xs = c.self.inside.ascending.items in
    let ys = c.self.inside.others.entries in
    let gap = subst (λ (l : List _). IsGapFor g.K.Ord.cmp c.args.key l c.in-Err.at) c.as_slice.ensures.value c.in-Err.ensures.absent in
    subst (λ (l : List _). SetsValue g.K.Ord.cmp l (xs ++ c.insert.new.self.entries) c.args.key c.args.value) c.self.view_is
    (sets_other g.met.K.Ord.total xs ys c.insert.new.self.entries c.args.key c.args.value (none_at_gap g.met.K.Ord.total xs c.args.key c.in-Err.at gap) c.in_ok-insert-in-Err.ensures.updates.0)
