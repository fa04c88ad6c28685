use Rattle.std.proofs.Common.{◌≡◌, ◌∙◌, ap, rules, ℕ, List, None, bytes_eq}
use Rattle.std.specs.Map.{update}
use Rattle.std.proofs.lemmas.Map.Text.{btree_map_updates_text}
use Rattle.script_scopes.specs.Places.{place_in}
use Rattle.script_scopes.proofs.places.NamePlaces.forget.Goals as goal

pub returns : goal.returns
returns c = λ other.
    let same : c.as_str.result.now ≡ c.args.name.now = search rules in
    btree_map_updates_text c.as_str.result.now c.args.self.now.map c.remove.new.self None c.remove.ensures.updates other
    ∙ ap (λ (bytes : List ℕ). update bytes_eq (place_in c.args.self.now) bytes None other) same
