use Rattle.std.proofs.Common.{◌≡◌, ◌∙◌, ◌++◌, set, sym, ap, subst, refl, List, IsSome, is_some, None, true≢false}
use Rattle.std.specs.BTreeMap.{is_at}
use Rattle.std.specs.Map.{lookup}
use Rattle.std.specs.Option.{option_copied_mut}
use Rattle.std.specs.List.Sorted.{IsStrictlySortedBy}
use Rattle.base_types.specs.MapEntries.{IsPlaceOf, IsGapFor, SetsValue}
use Rattle.base_types.proofs.MapEdits.{same_keys, sets_in, sets_other, none_at_gap, passes_by}
use Rattle.base_types.proofs.ascending_map.AscendingMap.replace.Goals as goal

pub invariant_of-self : goal.invariant_of-self
invariant_of-self g c =
    let xs = c.self.inside.ascending.items in
    subst (IsStrictlySortedBy g.K.Ord.cmp) (sym (same_keys xs c.in-Ok.at c.index_mut.result.now c.args.value c.index_mut.ensures.value)) c.self.invariant

pub returns-in-Ok : goal.returns-in-Ok
returns-in-Ok g c =
    let xs = c.self.inside.ascending.items in
    let ys = c.self.inside.others.entries in
    let e = c.index_mut.result.now in
    let place = subst (λ (l : List _). IsPlaceOf g.K.Ord.cmp c.args.key l c.in-Ok.at) c.as_slice.ensures.value c.in-Ok.ensures.found in
    subst (λ (l : List _). SetsValue g.K.Ord.cmp l (set xs c.in-Ok.at (e.0, c.args.value) ++ ys) c.args.key c.args.value) c.self.view_is
    (sets_in g.met.K.Ord.total xs ys c.args.key c.args.value c.in-Ok.at e c.self.invariant place c.index_mut.ensures.value)

pub returns-in-Some : goal.returns-in-Some
returns-in-Some g c =
    let xs = c.self.inside.ascending.items in
    let ys = c.self.inside.others.entries in
    let new = c.get_mut.follows.lender c.args.value in
    let gap = subst (λ (l : List _). IsGapFor g.K.Ord.cmp c.args.key l c.in-Err.field-0) c.as_slice.ensures.value c.in-Err.ensures.absent in
    let updates = (c.get_mut.follows.holds c.args.value).3 (subst IsSome c.in-Some.ensures.value refl) in
    subst (λ (l : List _). SetsValue g.K.Ord.cmp l (xs ++ new.entries) c.args.key c.args.value) c.self.view_is
    (sets_other g.met.K.Ord.total xs ys new.entries c.args.key c.args.value (none_at_gap g.met.K.Ord.total xs c.args.key c.in-Err.field-0 gap) updates.0)

pub returns-in_default : goal.returns-in_default
returns-in_default g c =
    let xs = c.self.inside.ascending.items in
    let ys = c.self.inside.others.entries in
    let look = lookup (is_at (g.K.Ord.cmp c.args.key)) in
    let gap = subst (λ (l : List _). IsGapFor g.K.Ord.cmp c.args.key l c.in-Err.field-0) c.as_slice.ensures.value c.in-Err.ensures.absent in
    let none : look ys ≡ None = sym c.get_mut.ensures.value ∙ ap option_copied_mut c.in_default.is in
    let gone : look c.args.self.now ≡ None = sym (ap look c.self.view_is) ∙ passes_by g.met.K.Ord.total xs ys c.args.key (none_at_gap g.met.K.Ord.total xs c.args.key c.in-Err.field-0 gap) ∙ none in
    absurd (true≢false (sym c.requires ∙ ap is_some gone))
