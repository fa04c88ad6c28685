use Rattle.std.proofs.Common.{◌≡◌, ℕ, ap, rules}
use Rattle.base_types.specs.declared.calls.Value.{Value}
use Rattle.script_values.specs.Faults.{key}
use Rattle.script_holding.specs.Holding.{Holding}
use Rattle.script_meaning.specs.Requests.{Requests, stop}
use Rattle.script_meaning.specs.Calls.{with_key}
use Rattle.script_machine.proofs.Stops.{key_at}
use Rattle.script_machine.proofs.calls.key_of.Goals as goal

pub returns-in-Text : goal.returns-in-Text
returns-in-Text c = key_at _ _ c.stop_at.ensures c.args.place (λ has go. ap (λ (v : Value). with_key v has go) c.in-Text.is)

pub returns-in-Err : goal.returns-in-Err
returns-in-Err c =
    let ends : (has : Holding) (go : ℕ → Requests) → with_key c.args.place has go ≡ stop key has = search rules in
    key_at _ _ c.stop_at-in-Err.ensures c.args.place ends
