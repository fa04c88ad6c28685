use Rattle.std.proofs.Common.{rules, ◌≡◌, ◌∷◌, ◌++◌, [], ℕ, List, Some, None, true, false, length, refl, sym, ap, ◌∙◌, subst}
use Rattle.std.specs.Prelude.{bytes_eq, slice_get}
use Rattle.std.specs.Map.{update}
use Rattle.std.specs.Option.{option_or}
use Rattle.std.proofs.lemmas.List.{length-map}
use Rattle.script_scopes.specs.Places.{place_in}
use Rattle.script_values.specs.declared.locals.Local.{Local}
use Rattle.script_values.specs.declared.nodes.NameNode.{NameNode}
use Rattle.script_values.specs.declared.nodes.End.TheVariants.{Free}
use Rattle.script_values.specs.LocalNames.{names_of}
use Rattle.script_values.specs.Nodes.{name_digest, node_of, named_at, way_end, place_end, place_found, GainsKid}
use Rattle.script_values.proofs.Ways.{free_found}
use Rattle.script_values.proofs.AddedNodes.{some_at, noted_link, noted_first, noted_other}
use Rattle.script_values.proofs.nodes.note.Goals as goal

names_length : (list : List Local) → length (names_of list) ≡ length list
names_length list = length-map list (λ l. l.name)

pub link-requires-clause-at : goal.link-requires-clause-at
link-requires-clause-at c =
    let nodes = c.args.nodes.now.items in
    let end : way_end nodes (names_of c.args.list.now) c.args.name.now c.args.digest ≡ Free c.in-Free.node c.in-Free.way = sym c.requires.end ∙ c.in-Free.is in
    some_at nodes c.in-Free.node (slice_get nodes c.in-Free.node) refl (free_found (named_at nodes (names_of c.args.list.now) c.args.name.now c.args.digest) (slice_get nodes) c.in-Free.node c.in-Free.way 31 c.args.digest 0 end).there

pub link-requires-clause-way : goal.link-requires-clause-way
link-requires-clause-way c =
    let nodes = c.args.nodes.now.items in
    let end : way_end nodes (names_of c.args.list.now) c.args.name.now c.args.digest ≡ Free c.in-Free.node c.in-Free.way = sym c.requires.end ∙ c.in-Free.is in
    (free_found (named_at nodes (names_of c.args.list.now) c.args.name.now c.args.digest) (slice_get nodes) c.in-Free.node c.in-Free.way 31 c.args.digest 0 end).way

pub returns-in-Ok-clause-ok : goal.returns-in-Ok-clause-ok
returns-in-Ok-clause-ok c = λ q.
    let nodes = c.args.nodes.now.items in
    let names = names_of c.args.list.now in
    let name = c.args.name.now in
    let others = c.args.others.now in
    let new = c.link.new.nodes.items in
    let p = c.in-Free.node in
    let w = c.in-Free.way in
    let even : length nodes ≡ length names = c.requires.even ∙ sym (names_length c.args.list.now) in
    let number : c.in-Ok.number ≡ length nodes = search rules in
    let linked : GainsKid (nodes ++ node_of c.args.digest true ∷ []) new p w c.in-Ok.number = c.in_ok-link.ensures.ok in
    let at : GainsKid (nodes ++ node_of c.args.digest true ∷ []) new p w (length nodes) = subst (λ (n : ℕ). GainsKid (nodes ++ node_of c.args.digest true ∷ []) new p w n) number linked in
    let gains : GainsKid (nodes ++ node_of (name_digest name) true ∷ []) new p w (length nodes) = subst (λ (d : ℕ). GainsKid (nodes ++ node_of d true ∷ []) new p w (length nodes)) c.requires.digest at in
    let end : way_end nodes names name (name_digest name) ≡ Free p w = ap (λ (d : ℕ). way_end nodes names name d) (sym c.requires.digest) ∙ sym c.requires.end ∙ c.in-Free.is in
    noted_link nodes names others name even new p w gains end q
    ∙ ap (λ (n : ℕ). update bytes_eq (place_found nodes names others) name (Some n) q) (names_length c.args.list.now)

pub returns-then-is_empty-clause-ok : goal.returns-then-is_empty-clause-ok
returns-then-is_empty-clause-ok c = λ q.
    let nodes = c.args.nodes.now.items in
    let names = names_of c.args.list.now in
    let name = c.args.name.now in
    let others = c.args.others.now in
    let even : length nodes ≡ length names = c.requires.even ∙ sym (names_length c.args.list.now) in
    let none : length nodes ≡ 0 = search rules in
    let new : c.add_node.new.nodes.items ≡ nodes ++ node_of (name_digest name) true ∷ [] = c.in_ok-add_node.ensures ∙ ap (λ (d : ℕ). nodes ++ node_of d true ∷ []) c.requires.digest in
    ap (λ (l : List NameNode). place_found l (names ++ name ∷ []) others q) new
    ∙ noted_first nodes names others name even none q
    ∙ ap (λ (n : ℕ). update bytes_eq (place_found nodes names others) name (Some n) q) (names_length c.args.list.now)

pub returns-clause-ok : goal.returns-clause-ok
returns-clause-ok c = λ q.
    let nodes = c.args.nodes.now.items in
    let names = names_of c.args.list.now in
    let name = c.args.name.now in
    let others = c.args.others.now in
    let even : length nodes ≡ length names = c.requires.even ∙ sym (names_length c.args.list.now) in
    let pushed : c.push_reserved.new.self.items ≡ nodes ++ node_of c.args.digest false ∷ [] = search rules in
    let new : c.push_reserved.new.self.items ≡ nodes ++ node_of (name_digest name) false ∷ [] = pushed ∙ ap (λ (d : ℕ). nodes ++ node_of d false ∷ []) c.requires.digest in
    let none : place_found nodes names others name ≡ None = ap (λ (d : ℕ). option_or (place_end (way_end nodes names name d)) (place_in others name)) (sym c.requires.digest) ∙ ap (λ e. option_or (place_end e) (place_in others name)) (sym c.requires.end) ∙ c.requires.none in
    let notes : (other : List ℕ) → place_in c.note.new.self other ≡ update bytes_eq (place_in others) name (Some (length names)) other = λ other.
    c.in_ok-note.ensures.ok other ∙ ap (λ (n : ℕ). update bytes_eq (place_in others) name (Some n) other) (sym (names_length c.args.list.now))
    in
    ap (λ (l : List NameNode). place_found l (names ++ name ∷ []) c.note.new.self q) new
    ∙ noted_other nodes names others name even c.note.new.self none notes q
    ∙ ap (λ (n : ℕ). update bytes_eq (place_found nodes names others) name (Some n) q) (names_length c.args.list.now)
