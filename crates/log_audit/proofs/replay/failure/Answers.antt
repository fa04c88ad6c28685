use Rattle.std.proofs.Common.{◌≡◌, Bool, List, length, sym, ◌∙◌, ap}
use Rattle.std.specs.Prelude.{not}
use Rattle.base_types.specs.declared.calls.GrainId.{GrainId}
use Rattle.base_types.specs.declared.calls.Value.{Value}
use Rattle.core_model.specs.Equality.{same_list}
use Rattle.script_player.specs.PlayState.{played_of}
use Rattle.log_audit.specs.Replays.{same_write, agree}
use Rattle.log_audit.proofs.replay.failure.Goals as goal

pub returns-then-agrees : goal.returns-then-agrees
returns-then-agrees c =
    let r = c.args.entry.now in
    let given = played_of c.args.played in
    let same : c.are_same_writes-same.result ≡ same_list same_write given.writes c.args.kept.now =
    c.are_same_writes-same.ensures ∙ ap (λ (ws : List (GrainId × List Value)). same_list same_write ws c.args.kept.now) c.as_slice.ensures in
    sym (ap (λ (b : Bool). agree b given.result r.result (length given.asked) (length r.answers)) same) ∙ sym c.agrees.ensures ∙ c.if-agrees.true

pub returns : goal.returns
returns c =
    let r = c.args.entry.now in
    let given = played_of c.args.played in
    let same : c.are_same_writes-same.result ≡ same_list same_write given.writes c.args.kept.now =
    c.are_same_writes-same.ensures ∙ ap (λ (ws : List (GrainId × List Value)). same_list same_write ws c.args.kept.now) c.as_slice.ensures in (
      sym (ap (λ (b : Bool). agree b given.result r.result (length given.asked) (length r.answers)) same) ∙ sym c.agrees.ensures ∙ c.if-agrees.false,
      (λ i. record { unit = r.unit; kept = c.in_ok-logged.ensures i; played = given.result; states_differ = not (same i) }),
    )
