use Rattle.std.proofs.Common.{rules, ◌≡◌}
use Rattle.silo_upgrade.specs.Steps.{upgrade_body, upgrade_block}
use Rattle.silo_upgrade.proofs.SealedTexts.{next_block, gate_moves, sealed_logs, unsealed_logs, doubted_logs}
use Rattle.silo_upgrade.proofs.sealing.seal_upgrade.Goals as goal

pub seal-requires-clause-block : goal.seal-requires-clause-block
seal-requires-clause-block g c =
    let is : c.as_slice.result.now ≡ upgrade_block c.args.session c.args.text.now = search rules in
    record { body = upgrade_body c.args.session c.args.text.now; small = c.encode_upgrade.ensures.small; is = is }

pub returns-in-Sealed-clause-logs : goal.returns-in-Sealed-clause-logs
returns-in-Sealed-clause-logs g c told bodies each =
    let w = g.H.Host.world c.args.host.now in
    let v = g.H.Host.world c.seal.new.host in
    let is : c.as_slice.result.now ≡ upgrade_block c.args.session c.args.text.now = search rules in
    let next = next_block c.args.slot c.args.gate_at c.args.session c.args.text.now c.as_slice.result.now bodies w v is c.encode_upgrade.ensures.small each in
    sealed_logs c.args.slot c.args.gate_at c.args.session c.args.text.now c.as_slice.result.now bodies w v is (c.seal.ensures.moments told bodies (upgrade_body c.args.session c.args.text.now) next)
    c.in-Sealed.next_gate c.in-Sealed.ensures.cause.0 (c.in-Sealed.ensures.logs told bodies (upgrade_body c.args.session c.args.text.now) next)

pub returns-in-Sealed-clause-done : goal.returns-in-Sealed-clause-done
returns-in-Sealed-clause-done g c told =
    let w = g.H.Host.world c.args.host.now in
    let v = g.H.Host.world c.seal.new.host in
    let is : c.as_slice.result.now ≡ upgrade_block c.args.session c.args.text.now = search rules in
    record {
      count = (c.in-Sealed.ensures.end told).1;
      logs = λ bodies each.
          let next = next_block c.args.slot c.args.gate_at c.args.session c.args.text.now c.as_slice.result.now bodies w v is c.encode_upgrade.ensures.small each in
          gate_moves c.args.slot c.args.gate_at c.args.session c.args.text.now c.as_slice.result.now bodies w v is
          c.in-Sealed.next_gate c.in-Sealed.ensures.cause.0 (c.in-Sealed.ensures.logs told bodies (upgrade_body c.args.session c.args.text.now) next);
    }

pub returns-in-NotSealed-clause-logs : goal.returns-in-NotSealed-clause-logs
returns-in-NotSealed-clause-logs g c told bodies each =
    let w = g.H.Host.world c.args.host.now in
    let v = g.H.Host.world c.seal.new.host in
    let is : c.as_slice.result.now ≡ upgrade_block c.args.session c.args.text.now = search rules in
    let next = next_block c.args.slot c.args.gate_at c.args.session c.args.text.now c.as_slice.result.now bodies w v is c.encode_upgrade.ensures.small each in
    unsealed_logs c.args.slot c.args.gate_at c.args.session c.args.text.now c.as_slice.result.now bodies w v is (c.seal.ensures.moments told bodies (upgrade_body c.args.session c.args.text.now) next)
    (c.in-NotSealed.ensures.logs told bodies (upgrade_body c.args.session c.args.text.now) next).1

pub returns-clause-logs : goal.returns-clause-logs
returns-clause-logs g c told bodies each =
    let w = g.H.Host.world c.args.host.now in
    let v = g.H.Host.world c.seal.new.host in
    let is : c.as_slice.result.now ≡ upgrade_block c.args.session c.args.text.now = search rules in
    let next = next_block c.args.slot c.args.gate_at c.args.session c.args.text.now c.as_slice.result.now bodies w v is c.encode_upgrade.ensures.small each in
    doubted_logs c.args.slot c.args.gate_at c.args.session c.args.text.now c.as_slice.result.now bodies w v is (c.seal.ensures.moments told bodies (upgrade_body c.args.session c.args.text.now) next)
    (c.in-InDoubt.ensures.logs told bodies (upgrade_body c.args.session c.args.text.now) next)
