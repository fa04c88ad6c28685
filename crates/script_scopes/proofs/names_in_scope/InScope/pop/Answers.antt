use Rattle.std.proofs.Common.{◌≡◌, ◌∷◌, ◌++◌, [], ◌∙◌, sym, ap, rules, ℕ, List, map, length, true, false, nat_eq, Some, None, Bor, bytes_eq}
use Rattle.std.specs.Map.{update}
use Rattle.std.specs.Option.{is_some, option_eq}
use Rattle.script_scopes.specs.Names.{Scope}
use Rattle.script_scopes.specs.Places.{place_in, name_place}
use Rattle.script_scopes.proofs.Lists.{map_length, pushed}
use Rattle.script_scopes.proofs.ScopePlaces.{left_places, forgotten_places}
use Rattle.script_scopes.proofs.names_in_scope.InScope.pop.Goals as goal

pub invariant_of-self-then-eq : goal.invariant_of-self-then-eq
invariant_of-self-then-eq c =
    let xs : Scope = map (λ n. n.now) c.pop.new.self.items in
    let before : map (λ n. n.now) c.self.inside.list.items ≡ xs ++ c.in-Some.name.now ∷ [] = pushed (λ n. n.now) c.self.inside.list.items c.pop.new.self.items c.in-Some.name c.in-Some.ensures.items in
    let has : (q : List ℕ) → place_in c.self.inside.places q ≡ name_place q (xs ++ c.in-Some.name.now ∷ []) = λ q. c.self.invariant q ∙ ap (λ (l : Scope). name_place q l) before in
    let size : c.len.result ≡ length c.pop.new.self.items = search rules in
    let is : c.len.result ≡ length xs = size ∙ sym (map_length (λ n. n.now) c.pop.new.self.items) in
    let last : option_eq nat_eq (place_in c.self.inside.places c.in-Some.name.now) (Some c.len.result) ≡ true = search rules in
    forgotten_places (place_in c.self.inside.places) xs c.in-Some.name.now has (place_in c.forget.new.self) c.len.result is last c.forget.ensures

pub invariant_of-self-else-eq : goal.invariant_of-self-else-eq
invariant_of-self-else-eq c =
    let xs : Scope = map (λ n. n.now) c.pop.new.self.items in
    let before : map (λ n. n.now) c.self.inside.list.items ≡ xs ++ c.in-Some.name.now ∷ [] = pushed (λ n. n.now) c.self.inside.list.items c.pop.new.self.items c.in-Some.name c.in-Some.ensures.items in
    let has : (q : List ℕ) → place_in c.self.inside.places q ≡ name_place q (xs ++ c.in-Some.name.now ∷ []) = λ q. c.self.invariant q ∙ ap (λ (l : Scope). name_place q l) before in
    let size : c.len.result ≡ length c.pop.new.self.items = search rules in
    let is : c.len.result ≡ length xs = size ∙ sym (map_length (λ n. n.now) c.pop.new.self.items) in
    let before_too : option_eq nat_eq (place_in c.self.inside.places c.in-Some.name.now) (Some c.len.result) ≡ false = search rules in
    left_places (place_in c.self.inside.places) xs c.in-Some.name.now has c.len.result is before_too
