use Rattle.std.proofs.Common.{◌≡◌, ◌∷◌, ◌++◌, [], ◌∙◌, sym, ap, rules, ℕ, List, map, length, true, false, nat_eq, Some, None, Bor, bytes_eq}
use Rattle.std.specs.Map.{update}
use Rattle.std.specs.Option.{is_some, option_eq}
use Rattle.script_scopes.specs.Names.{Scope}
use Rattle.script_scopes.specs.Places.{place_in, name_place}
use Rattle.script_scopes.proofs.Lists.{map_length, pushed}
use Rattle.script_scopes.proofs.ScopePlaces.{kept_places, noted_places}
use Rattle.script_scopes.proofs.names_in_scope.InScope.push.Goals as goal

pub invariant_of-self-then-is_some : goal.invariant_of-self-then-is_some
invariant_of-self-then-is_some c = λ q.
    let xs : Scope = map (λ n. n.now) c.self.inside.list.items in
    let more : map (λ n. n.now) c.push.new.self.items ≡ xs ++ c.args.name.now ∷ [] = pushed (λ n. n.now) c.push.new.self.items c.self.inside.list.items c.args.name c.in_ok-push.ensures.items in
    let among : is_some (place_in c.self.inside.places c.args.name.now) ≡ true = search rules in
    kept_places (place_in c.self.inside.places) xs c.args.name.now c.self.invariant among q ∙ ap (λ (l : Scope). name_place q l) (sym more)

pub invariant_of-self-in-Ok : goal.invariant_of-self-in-Ok
invariant_of-self-in-Ok c = λ q.
    let xs : Scope = map (λ n. n.now) c.self.inside.list.items in
    let more : map (λ n. n.now) c.push.new.self.items ≡ xs ++ c.args.name.now ∷ [] = pushed (λ n. n.now) c.push.new.self.items c.self.inside.list.items c.args.name c.in_ok-push.ensures.items in
    let none : is_some (place_in c.self.inside.places c.args.name.now) ≡ false = search rules in
    let size : c.len-at.result ≡ length c.self.inside.list.items = search rules in
    let last : c.len-at.result ≡ length xs = size ∙ sym (map_length (λ n. n.now) c.self.inside.list.items) in
    let notes : (other : List ℕ) → place_in c.note.new.self other ≡ update bytes_eq (place_in c.self.inside.places) c.args.name.now (Some c.len-at.result) other = search rules in
    noted_places (place_in c.self.inside.places) xs c.args.name.now (place_in c.note.new.self) c.len-at.result c.self.invariant none last notes q ∙ ap (λ (l : Scope). name_place q l) (sym more)
