use Rattle.std.proofs.Common.{rules, ◌≡◌, ◌∷◌, ◌++◌, [], ◌∙◌, sym, ap, ℕ, List, length, Some, None}
use Rattle.std.proofs.lemmas.List.{length-map}
use Rattle.script_scopes.specs.Names.{Scope}
use Rattle.script_scopes.specs.Places.{name_place}
use Rattle.script_values.specs.declared.locals.Local.{Local}
use Rattle.script_values.specs.LocalNames.{names_of}
use Rattle.script_values.specs.Expressions.{put_local}
use Rattle.script_values.specs.Nodes.{place_found}
use Rattle.script_values.proofs.LocalPlaces.{keeps_names, put_behind}
use Rattle.script_values.proofs.AddedNodes.{found_held}
use Rattle.script_values.proofs.locals.LocalList.put.Goals as goal

pub invariant_of-self : goal.invariant_of-self
invariant_of-self c =
    let old : List Local = c.self.inside.list.items in
    let new : List Local = c.give.new.list.items in
    let is = found_held c.self.inside.nodes.items c.as_slice.result.now old c.as_slice-2.result.now c.self.inside.others c.args.name.now c.digest_of-digest.result c.seek-end.result c.place.result c.as_slice.ensures.value c.as_slice-2.ensures.value c.digest_of-digest.ensures c.seek-end.ensures c.place.ensures in
    let here : name_place c.args.name.now (names_of old) ≡ Some c.in-Some.at = sym (c.self.invariant.places c.args.name.now) ∙ is ∙ c.in-Some.is in
    let same : names_of new ≡ names_of old = ap names_of c.give.ensures ∙ keeps_names c.args.name.now c.args.value old c.in-Some.at here in
    let long : length old ≡ length new = sym (length-map old (λ l. l.name)) ∙ sym (ap length same) ∙ length-map new (λ l. l.name) in
    record {
      even = c.self.invariant.even ∙ long;
      places = λ q. ap (λ (n : Scope). place_found c.self.inside.nodes.items n c.self.inside.others q) same ∙ c.self.invariant.places q ∙ ap (λ (l : Scope). name_place q l) (sym same);
    }

pub returns-in_ok-add-in-None-clause-ok : goal.returns-in_ok-add-in-None-clause-ok
returns-in_ok-add-in-None-clause-ok c =
    let old : List Local = c.self.inside.list.items in
    let is = found_held c.self.inside.nodes.items c.as_slice.result.now old c.as_slice-2.result.now c.self.inside.others c.args.name.now c.digest_of-digest.result c.seek-end.result c.place.result c.as_slice.ensures.value c.as_slice-2.ensures.value c.digest_of-digest.ensures c.seek-end.ensures c.place.ensures in
    let none : name_place c.args.name.now (names_of old) ≡ None = sym (c.self.invariant.places c.args.name.now) ∙ is ∙ c.in-None.is in
    let named : c.in_ok-name-in-None.name ≡ c.args.name.now = search rules in
    c.in_ok-add-in-None.ensures.items
    ∙ ap (λ (n : List ℕ). let one : Local = record { name = n; value = c.args.value } in old ++ one ∷ []) named
    ∙ sym (put_behind c.args.name.now old none c.args.value)
    ∙ ap (λ (l : List Local). put_local c.args.name.now c.args.value l) c.self.view_is
