use Rattle.std.proofs.Common.{rules, ◌≡◌, ◌+◌, ◌∷◌, ◌++◌, [], ◌∙◌, sym, ap, ℕ, List, length, length-append, true, false, Option}
use Rattle.std.specs.Option.{is_some}
use Rattle.std.proofs.lemmas.List.{length-map}
use Rattle.script_scopes.specs.Names.{Scope}
use Rattle.script_scopes.specs.Places.{name_place}
use Rattle.script_scopes.proofs.ScopePlaces.{kept_places}
use Rattle.script_values.specs.declared.locals.Local.{Local}
use Rattle.script_values.specs.declared.nodes.NameNode.{NameNode}
use Rattle.script_values.specs.LocalNames.{names_of}
use Rattle.script_values.specs.Nodes.{node_of, place_found}
use Rattle.script_values.proofs.LocalPlaces.{names_more}
use Rattle.script_values.proofs.AddedNodes.{found_held, kept_found}
use Rattle.script_values.proofs.locals.LocalList.push.Goals as goal

pub invariant_of-self-then-is_some : goal.invariant_of-self-then-is_some
invariant_of-self-then-is_some c =
    let old : List Local = c.self.inside.list.items in
    let one = c.args.local in
    let nodes = c.self.inside.nodes.items in
    let others = c.self.inside.others in
    let pushed : c.push_reserved.new.self.items ≡ old ++ one ∷ [] = search rules in
    let grown : c.add_node.new.nodes.items ≡ nodes ++ node_of c.digest_of-digest.result false ∷ [] = search rules in
    let more : names_of c.push_reserved.new.self.items ≡ names_of old ++ one.name ∷ [] = ap names_of pushed ∙ names_more old one in
    let even : length nodes ≡ length (names_of old) = c.self.invariant.even ∙ sym (length-map old (λ l. l.name)) in
    let is : place_found nodes (names_of old) others one.name ≡ c.place.result = found_held nodes c.as_slice.result.now old c.as_slice-2.result.now others one.name c.digest_of-digest.result c.seek-end.result c.place.result c.as_slice.ensures.value c.as_slice-2.ensures.value c.digest_of-digest.ensures c.seek-end.ensures c.place.ensures in
    let there : is_some c.place.result ≡ true = search rules in
    let among : is_some (place_found nodes (names_of old) others one.name) ≡ true = ap (λ (o : Option ℕ). is_some o) is ∙ there in
    let longer : length c.add_node.new.nodes.items ≡ length c.push_reserved.new.self.items =
    ap length grown ∙ length-append nodes (node_of c.digest_of-digest.result false ∷ []) ∙ ap (λ (n : ℕ). n + 1) c.self.invariant.even ∙ sym (ap length pushed ∙ length-append old (one ∷ []))
    in
    record {
      even = longer;
      places = λ q.
          ap (λ (n : Scope). place_found c.add_node.new.nodes.items n others q) more
          ∙ ap (λ (k : List NameNode). place_found k (names_of old ++ one.name ∷ []) others q) grown
          ∙ kept_found nodes (names_of old) others one.name even c.digest_of-digest.result q
          ∙ kept_places (place_found nodes (names_of old) others) (names_of old) one.name c.self.invariant.places among q
          ∙ ap (λ (l : Scope). name_place q l) (sym more);
    }
