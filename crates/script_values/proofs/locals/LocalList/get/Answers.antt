use Rattle.std.proofs.Common.{◌≡◌, ◌∙◌, sym, ap, List, None}
use Rattle.script_scopes.specs.Places.{name_place}
use Rattle.script_values.specs.declared.locals.Local.{Local}
use Rattle.script_values.specs.Expressions.{local_named}
use Rattle.script_values.specs.LocalNames.{names_of}
use Rattle.script_values.proofs.LocalPlaces.{named_none}
use Rattle.script_values.proofs.AddedNodes.{found_held}
use Rattle.script_values.proofs.locals.LocalList.get.Goals as goal

pub returns-in-None : goal.returns-in-None
returns-in-None c =
    let old = c.self.inside.list.items in
    let is = found_held c.self.inside.nodes.items c.as_slice.result.now old c.as_slice-2.result.now c.self.inside.others c.args.name.now c.digest_of.result c.seek-end.result c.place.result c.as_slice.ensures.value c.as_slice-2.ensures.value c.digest_of.ensures c.seek-end.ensures c.place.ensures in
    let none : name_place c.args.name.now (names_of old) ≡ None = sym (c.self.invariant.places c.args.name.now) ∙ is ∙ c.in-None.is in
    sym (named_none c.args.name.now old none) ∙ ap (λ (l : List Local). local_named c.args.name.now l) c.self.view_is

pub value_at-requires : goal.value_at-requires
value_at-requires c =
    let old = c.self.inside.list.items in
    let is = found_held c.self.inside.nodes.items c.as_slice.result.now old c.as_slice-2.result.now c.self.inside.others c.args.name.now c.digest_of.result c.seek-end.result c.place.result c.as_slice.ensures.value c.as_slice-2.ensures.value c.digest_of.ensures c.seek-end.ensures c.place.ensures in
    ap (λ (l : List Local). name_place c.args.name.now (names_of l)) c.as_slice-in-Some.ensures.value ∙ sym (c.self.invariant.places c.args.name.now) ∙ is ∙ c.in-Some.is
