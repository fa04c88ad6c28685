use Rattle.std.proofs.Common.{◌≡◌, ℕ, ◌+◌, ◌-◌, ◌++◌, [], ◌∷◌, Ok, List, ap, ◌∙◌, arith}
use Rattle.base_types.specs.declared.calls.Call.{Call}
use Rattle.request_wire.specs.declared.requests.Line.{Line}
use Rattle.promise_spec.specs.Loads.{next_number, transfer_by, transfers_after}
use Rattle.bank_load.specs.Requests.{numbered_from}
use Rattle.bank_load.proofs.Numbering.{transfer_more}
use Rattle.bank_load.proofs.requests.push_transfers.Goals as goal

pub loop-done-preserved : goal.loop-done-preserved
loop-done-preserved c =
    let d : ℕ = c.loop-done.done in
    let left : ℕ = c.args.transfers - (d + 1) in
    let called : c.in_ok-call.call ≡ transfer_by (next_number c.loop-done.x) = c.in_ok-call.ensures ∙ ap (λ (y : ℕ). transfer_by y) c.next_number-x.ensures in
    let pushed : c.push.new.self ≡ c.loop-done.lines ++ (record { number = d + 65; what = Ok (transfer_by (next_number c.loop-done.x)) } ∷ []) =
    c.in_ok-push.ensures.pushed ∙ ap (λ (x : Call). c.loop-done.lines ++ (record { number = d + 65; what = Ok x } ∷ [])) called in
    let third : c.next_number-x-in-loop-done.result ≡ next_number (next_number (next_number c.loop-done.x)) =
    c.next_number-x-in-loop-done.ensures ∙ ap (λ (y : ℕ). next_number y) (c.next_number.ensures ∙ ap (λ (y : ℕ). next_number y) c.next_number-x.ensures) in
    record {
      within = omega (arith, c.loop-done-test.true);
      all = ap (λ (y : ℕ). c.push.new.self ++ numbered_from (64 + (d + 1)) (transfers_after y left)) third
          ∙ ap (λ (l : List Line). l ++ numbered_from (64 + (d + 1)) (transfers_after (next_number (next_number (next_number c.loop-done.x))) left)) pushed
          ∙ transfer_more c.loop-done.lines c.loop-done.x d c.args.transfers (c.args.lines.now ++ numbered_from 64 (transfers_after c.args.seed c.args.transfers)) (omega (arith, c.loop-done-test.true)) c.loop-done.invariant.all;
    }
