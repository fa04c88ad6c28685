use Rattle.std.proofs.Common.{rules, ◌≡◌, ◌+◌, ◌∷◌, ◌++◌, [], ◌∙◌, sym, ap, ℕ, List, length, length-append, false, Option, Some, None}
use Rattle.std.specs.Prelude.{bytes_eq}
use Rattle.std.specs.Map.{update}
use Rattle.std.specs.Option.{is_some}
use Rattle.std.proofs.lemmas.List.{length-map}
use Rattle.script_scopes.specs.Names.{Scope}
use Rattle.script_scopes.specs.Places.{name_place}
use Rattle.script_scopes.proofs.ScopePlaces.{noted_places}
use Rattle.script_values.specs.declared.locals.Local.{Local}
use Rattle.script_values.specs.LocalNames.{names_of}
use Rattle.script_values.specs.Nodes.{place_found}
use Rattle.script_values.proofs.LocalPlaces.{names_more}
use Rattle.script_values.proofs.AddedNodes.{found_here}
use Rattle.script_values.proofs.locals.add.Goals as goal

pub returns-clause-has : goal.returns-clause-has
returns-clause-has c =
    let old : List Local = c.args.list.now.items in
    let one = c.args.local in
    let nodes = c.args.nodes.now.items in
    let others = c.args.others.now in
    let nodes' = c.note.new.nodes.items in
    let others' = c.note.new.others in
    let same : c.as_slice.result.now ≡ old = search rules in
    let pushed : c.push_reserved.new.self.items ≡ old ++ one ∷ [] = search rules in
    let more : names_of c.push_reserved.new.self.items ≡ names_of old ++ one.name ∷ [] = ap names_of pushed ∙ names_more old one in
    let places : (q : List ℕ) → place_found nodes' (names_of old ++ one.name ∷ []) others' q ≡ update bytes_eq (place_found nodes (names_of old) others) one.name (Some (length old)) q = λ q.
    ap (λ (l : List Local). place_found nodes' (names_of l ++ one.name ∷ []) others' q) (sym same)
    ∙ c.in_ok-note.ensures.ok q
    ∙ ap (λ (l : List Local). update bytes_eq (place_found nodes (names_of l) others) one.name (Some (length l)) q) same
    in
    let none : place_found nodes (names_of old) others one.name ≡ None = found_here nodes (names_of old) others one.name c.args.digest c.args.end None c.requires.digest c.requires.end (sym c.requires.none) in
    let unseen : is_some (place_found nodes (names_of old) others one.name) ≡ false = ap (λ (o : Option ℕ). is_some o) none in
    let last : length old ≡ length (names_of old) = sym (length-map old (λ l. l.name)) in
    let even : length nodes' ≡ length c.push_reserved.new.self.items = c.in_ok-note.ensures.even ∙ ap (λ (l : List Local). length l + 1) same ∙ sym (ap length pushed ∙ length-append old (one ∷ [])) in
    record {
      even = even;
      places = λ q.
          ap (λ (n : Scope). place_found nodes' n others' q) more
          ∙ noted_places (place_found nodes (names_of old) others) (names_of old) one.name (place_found nodes' (names_of old ++ one.name ∷ []) others') (length old) c.requires.has.places unseen last places q
          ∙ ap (λ (l : Scope). name_place q l) (sym more);
    }
