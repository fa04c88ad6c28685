use Rattle.std.proofs.Common.{◌≡◌, ◌+◌, ◌≤◌, true, ℕ, length, take, drop, slice_index, ◌∙◌, sym, ap, arith, rules}
use Rattle.std.proofs.lemmas.Bool.{eqb-true}
use Rattle.std.specs.Int.{w32, to_le_bytes}
use Rattle.host_trait.specs.World.{Disk}
use Rattle.host_trait.proofs.Runs.{asked_then, once_asked}
use Rattle.gate_block.specs.Gates.{is_open_at}
use Rattle.gate_block.proofs.Logs.{spelled}
use Rattle.gate_block.proofs.blocks.read_block.Goals as goal

pub returns-in_err-size-clause-asked : goal.returns-in_err-size-clause-asked
returns-in_err-size-clause-asked g c told = asked_then _ _ _ (c.is_open.ensures.asked told) (c.read_size.ensures.asked told)

pub returns-in_default-clause-asked : goal.returns-in_default-clause-asked
returns-in_default-clause-asked g c told = asked_then _ _ _ (c.is_open.ensures.asked told) (c.read_size.ensures.asked told)

pub returns-in_err-end-clause-asked : goal.returns-in_err-end-clause-asked
returns-in_err-end-clause-asked g c told = once_asked _ _ _ (asked_then _ _ _ (c.is_open.ensures.asked told) (c.read_size.ensures.asked told)) (c.length.ensures.told told)

pub returns-then-end-gate_at-clause-asked : goal.returns-then-end-gate_at-clause-asked
returns-then-end-gate_at-clause-asked g c told = once_asked _ _ _ (asked_then _ _ _ (c.is_open.ensures.asked told) (c.read_size.ensures.asked told)) (c.length.ensures.told told)

pub returns-in_err-body-clause-asked : goal.returns-in_err-body-clause-asked
returns-in_err-body-clause-asked g c told =
    asked_then _ _ _ (once_asked _ _ _ (asked_then _ _ _ (c.is_open.ensures.asked told) (c.read_size.ensures.asked told)) (c.length.ensures.told told)) (c.read_body.ensures.asked told)

pub returns-in-Some-2-clause-asked : goal.returns-in-Some-2-clause-asked
returns-in-Some-2-clause-asked g c told =
    asked_then _ _ _ (once_asked _ _ _ (asked_then _ _ _ (c.is_open.ensures.asked told) (c.read_size.ensures.asked told)) (c.length.ensures.told told)) (c.read_body.ensures.asked told)

pub returns-in-Some-2-clause-spelled : goal.returns-in-Some-2-clause-spelled
returns-in-Some-2-clause-spelled g c told =
    let gate = c.args.gate_at in
    let seen = ((g.H.Host.world c.args.host.now).disk c.args.file).seen in
    let first = c.is_open.ensures.asked told in
    let second = asked_then _ _ _ first (c.read_size.ensures.asked told) in
    let third = once_asked _ _ _ second (c.length.ensures.told told) in
    let same-1 : ((g.H.Host.world c.is_open.new.host).disk c.args.file).seen ≡ seen = ap (λ (d : Disk). (d c.args.file).seen) first.disk in
    let same-2 : ((g.H.Host.world c.read_size.new.host).disk c.args.file).seen ≡ seen = ap (λ (d : Disk). (d c.args.file).seen) second.disk in
    let same-3 : ((g.H.Host.world c.length.new.self).disk c.args.file).seen ≡ seen = ap (λ (d : Disk). (d c.args.file).seen) third.disk in
    let opened : is_open_at gate seen ≡ true = search rules in
    let size = c.in-Some.size in
    let field : take 4 (drop (gate + 1) seen) ≡ to_le_bytes w32 size = search rules in
    let body = c.in-Some-2.body in
    let len : length body ≡ size = search rules in
    let is : body ≡ take size (drop (gate + 5) seen) = search rules in
    let end : c.in_ok-end.end ≡ length seen = search rules in
    let enough : gate + 6 + size ≤ c.in_ok-end.end = search rules in
    spelled gate body seen (omega (arith, enough, end, len)) (eqb-true (slice_index seen gate) 1 opened) (field ∙ ap (λ (n : ℕ). to_le_bytes w32 n) (sym len)) (is ∙ ap (λ (n : ℕ). take n (drop (gate + 5) seen)) (sym len))
