use Rattle.std.proofs.Common.{◌≡◌, ◌∙◌, ap, rules, ℕ, List, Some, bytes_eq}
use Rattle.std.specs.Prelude.{string_bytes}
use Rattle.std.specs.Map.{update}
use Rattle.std.proofs.lemmas.Map.Text.{btree_map_updates_text}
use Rattle.script_scopes.specs.Places.{place_in}
use Rattle.script_scopes.proofs.places.NamePlaces.note.Goals as goal

pub returns-clause-ok : goal.returns-clause-ok
returns-clause-ok c = λ other.
    let same : string_bytes c.in_ok-key.key ≡ c.args.name.now = search rules in
    btree_map_updates_text (string_bytes c.in_ok-key.key) c.args.self.now.map c.insert.new.self (Some c.args.at) c.in_ok-insert.ensures.updates other
    ∙ ap (λ (bytes : List ℕ). update bytes_eq (place_in c.args.self.now) bytes (Some c.args.at) other) same
