use Rattle.std.proofs.Common.{◌≡◌, ◌<◌, ◌||◌, set, length, get_or, ◌∙◌, ap, rules}
use Rattle.std.proofs.lemmas.List.Edits.{map_over_more}
use Rattle.host_memory.specs.declared.plan.Planned.{Planned}
use Rattle.host_memory.specs.Plans.{is_due, counted}
use Rattle.host_memory.proofs.Countdown.{or_then, or_else, reached, due_more}
use Rattle.host_memory.proofs.plan.count_down.Goals as goal
use Rattle.host_memory.proofs.plan.count_down.Goals.{then-count, else-count}

pub loop-i-preserved : goal.loop-i-preserved
loop-i-preserved c =
    let old = c.args.faults.now.items in
    let i = c.loop-i.i in
    let e = c.index_mut.result.now in
    let low : i < length old = search rules in
    let now : c.if-count.due ≡ (c.loop-i.due || c.count.result) = elim c.if-count.branch [
      | then-count w ↦ or_then c.loop-i.due c.count.result c.if-count.due w.if-count.true w.due-is
      | else-count w ↦ or_else c.loop-i.due c.count.result c.if-count.due w.if-count.false w.due-is
    ] in
    let here : e ≡ get_or old i e = reached (counted c.args.what c.args.channel) old c.loop-i.faults.items i e low c.loop-i.invariant.1 c.index_mut.ensures.value in (
      due_more (is_due c.args.what c.args.channel) old i e c.loop-i.due c.count.result c.if-count.due low here now c.loop-i.invariant.0 c.count.ensures.due,
      ap (λ (x : Planned). set c.loop-i.faults.items i x) c.count.ensures.after ∙ map_over_more (counted c.args.what c.args.channel) old c.loop-i.faults.items i e low c.loop-i.invariant.1 c.index_mut.ensures.value,
    )
