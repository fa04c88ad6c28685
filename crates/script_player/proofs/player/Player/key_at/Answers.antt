use Rattle.std.proofs.Common.{◌≡◌, pos, true, ap, ◌∙◌, arith}
use Rattle.std.specs.Prelude.{int_lt}
use Rattle.std.proofs.lemmas.Int.{ints}
use Rattle.base_types.specs.declared.calls.Value.{Value}
use Rattle.script_values.specs.Faults.{kind, key}
use Rattle.script_meaning.specs.Calls.{with_key}
use Rattle.script_player.proofs.PlayProgress.{ends_at, key_below, key_past}
use Rattle.script_player.proofs.player.Player.key_at.Goals as goal

pub returns-then-number-lt0 : goal.returns-then-number-lt0
returns-then-number-lt0 c = λ world go.
    let has = c.args.self.now.has in
    let below : int_lt c.in-Int.number (pos 0) ≡ true = grind (arith, ints) in
    ends_at world has c.args.self.now.progress c.stop_at.result key (with_key c.args.place.now has go) c.stop_at.ensures
    (ap (λ (place : Value). with_key place has go) c.in-Int.is ∙ key_below c.in-Int.number has go below)

pub returns-then-number-gt4294967295 : goal.returns-then-number-gt4294967295
returns-then-number-gt4294967295 c = λ world go.
    let has = c.args.self.now.has in
    let past : int_lt (pos 4294967295) c.in-Int.number ≡ true = grind (arith, ints) in
    ends_at world has c.args.self.now.progress c.stop_at-then-number-gt4294967295.result key (with_key c.args.place.now has go) c.stop_at-then-number-gt4294967295.ensures
    (ap (λ (place : Value). with_key place has go) c.in-Int.is ∙ key_past c.in-Int.number has go past)

pub returns-in-Text : goal.returns-in-Text
returns-in-Text c = λ world go.
    ends_at world c.args.self.now.has c.args.self.now.progress c.stop_at-in-Text.result kind (with_key c.args.place.now c.args.self.now.has go) c.stop_at-in-Text.ensures
    (ap (λ (place : Value). with_key place c.args.self.now.has go) c.in-Text.is)
