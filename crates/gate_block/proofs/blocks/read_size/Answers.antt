use Rattle.std.proofs.Common.{◌≡◌, true, rules, sym, ◌∙◌}
use Rattle.gate_block.proofs.blocks.read_size.Goals as goal

pub returns-clause-some : goal.returns-clause-some
returns-clause-some g c told =
    let full : c.in_ok-read_full.field-0 ≡ true = search rules in
    let read = c.in_ok-read_full.ensures.full told full in
    (read.0, sym (c.number.ensures ∙ read.1))
