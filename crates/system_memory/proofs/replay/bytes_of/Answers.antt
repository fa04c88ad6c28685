use Rattle.std.proofs.Common.{◌≡◌, take, sym, ◌∙◌, ap, rules}
use Rattle.system_memory.specs.MemoryState.{MemoryState, held_of}
use Rattle.system_memory.proofs.Parts.{held_next}
use Rattle.system_memory.proofs.replay.bytes_of.Goals as goal

pub loop-event-preserved : goal.loop-event-preserved
loop-event-preserved c =
    let events = c.args.events.now in
    let i = c.loop-event.event-index in
    let same : c.deref.result.now ≡ c.loop-event.bytes.items = search rules in
    sym (
    ap (λ (h : MemoryState). (h.disk c.args.file).seen) (held_next events i c.event-item.result c.loop-event-test.true c.event-item.is)
    ∙ c.in_ok-bytes.ensures (held_of (take i events)) (sym c.loop-event.invariant ∙ sym same)
    )
