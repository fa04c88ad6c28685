use Rattle.std.proofs.Common.{rules, ◌≡◌, [], List, sym, ap, ◌∙◌}
use Rattle.script_scopes.specs.Places.{name_place}
use Rattle.script_values.specs.declared.locals.Local.{Local}
use Rattle.script_values.specs.declared.nodes.NameNode.{NameNode}
use Rattle.script_values.specs.LocalNames.{names_of}
use Rattle.script_values.specs.Nodes.{place_found}
use Rattle.script_values.proofs.AddedNodes.{none_found}
use Rattle.script_values.proofs.locals.FrameLocals.new.Goals as goal

pub invariant_of-result : goal.invariant_of-result
invariant_of-result c =
    let list : c.new.result.items ≡ [] = search rules in
    let nodes : c.new-2.result.items ≡ [] = search rules in
    record {
      even = search rules;
      places = λ name.
          ap (λ (n : List NameNode). place_found n (names_of c.new.result.items) c.new-3.result name) nodes
          ∙ ap (λ (l : List Local). place_found [] (names_of l) c.new-3.result name) list
          ∙ none_found c.new-3.result name (c.new-3.ensures name)
          ∙ ap (λ (l : List Local). name_place name (names_of l)) (sym list);
    }
