use Rattle.std.proofs.Common.{rules, ◌≡◌, ◌+◌, ◌++◌, ◌∷◌, [], List, map, drop, ap, ◌∙◌}
use Rattle.std.proofs.lemmas.List.{map-append}
use Rattle.request_wire.specs.Reply.{value_data}
use Rattle.serde_json.specs.Data.{Data, array}
use Rattle.serde_json.specs.View as seen
use Rattle.serde_json.proofs.Views.{view-Array}
use Rattle.log_reading.proofs.RecordSums.{next_item, no_item}
use Rattle.log_audit.proofs.Items.{items_are, item_more, items_all}
use Rattle.log_audit.proofs.parts.args_json.Goals as goal

pub loop-value-preserved : goal.loop-value-preserved
loop-value-preserved c =
    let i = c.loop-value.value-index in
    let xs = c.args.values.now in
    let x = c.value-item.result in
    let v = c.in_ok-value_json.field-0 in
    let pushed : c.push.new.self.items ≡ c.loop-value.items.items ++ v ∷ [] = search rules in
    item_more (map seen.view c.loop-value.items.items) (map seen.view c.push.new.self.items) _ x (drop (i + 1) xs) (drop i xs) (seen.view v) (next_item i xs x c.loop-value-test.true c.value-item.is)
    (ap (map seen.view) pushed ∙ map-append seen.view c.loop-value.items.items (v ∷ [])) c.in_ok-value_json.ensures c.loop-value.invariant

pub returns : goal.returns
returns c =
    let xs = c.args.values.now in
    view-Array c.loop-value.items
    ∙ ap (λ (l : List Data). array (seen.items_of l)) (items_all (map seen.view c.loop-value.items.items) (map value_data xs) (drop c.loop-value.value-index xs) (no_item c.loop-value.value-index xs c.loop-value-test.false) c.loop-value.invariant)
    ∙ ap array (items_are xs)
