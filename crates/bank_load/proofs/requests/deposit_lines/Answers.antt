use Rattle.std.proofs.Common.{◌≡◌, ◌+◌, ◌-◌, ◌++◌, [], ◌∷◌, Ok, List, ap, ◌∙◌, arith}
use Rattle.base_types.specs.declared.calls.Call.{Call}
use Rattle.request_wire.specs.declared.requests.Line.{Line}
use Rattle.promise_spec.specs.Loads.{account, first_method, deposits_from}
use Rattle.bank_load.specs.Requests.{numbered_from}
use Rattle.bank_load.proofs.Numbering.{deposit_more}
use Rattle.bank_load.proofs.requests.deposit_lines.Goals as goal

pub loop-key-preserved : goal.loop-key-preserved
loop-key-preserved c =
    let pushed : c.push.new.self ≡ c.loop-key.lines ++ (record { number = c.loop-key.key + 1; what = Ok (first_method (account c.loop-key.key) (1000 ∷ [])) } ∷ []) =
    c.in_ok-push.ensures.pushed ∙ ap (λ (x : Call). c.loop-key.lines ++ (record { number = c.loop-key.key + 1; what = Ok x } ∷ [])) c.in_ok-call.ensures in
    record {
      within = omega (arith, c.loop-key-test.true);
      all = ap (λ (l : List Line). l ++ numbered_from (c.loop-key.key + 1) (deposits_from (c.loop-key.key + 1) (64 - (c.loop-key.key + 1)))) pushed
          ∙ deposit_more c.loop-key.lines c.loop-key.key (numbered_from 0 (deposits_from 0 64)) (omega (arith, c.loop-key-test.true)) c.loop-key.invariant.all;
    }
