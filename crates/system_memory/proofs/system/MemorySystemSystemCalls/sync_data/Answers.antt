use Rattle.std.proofs.Common.{false, drop, sym, subst}
use Rattle.system_calls.specs.System.{System, SyncsData}
use Rattle.system_memory.specs.ShownState.{system_in}
use Rattle.system_memory.proofs.system.MemorySystemSystemCalls.sync_data.Goals as goal

pub returns-then-is_refused-clause-told : goal.returns-then-is_refused-clause-told
returns-then-is_refused-clause-told c = λ told.
    subst (λ (s : System). SyncsData c.args.opened.now.file false (system_in c.args.self.now) s) (sym c.refuse.ensures.state)
    (c.note_doubted.ensures.told (drop c.args.self.now.taken c.args.self.now.input.items))

pub returns-in-Ok-clause-told : goal.returns-in-Ok-clause-told
returns-in-Ok-clause-told c = λ told. c.in-Ok.ensures.told (drop c.args.self.now.taken c.args.self.now.input.items)
