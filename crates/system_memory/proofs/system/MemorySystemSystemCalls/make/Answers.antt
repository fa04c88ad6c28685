use Rattle.std.proofs.Common.{drop}
use Rattle.system_memory.proofs.system.MemorySystemSystemCalls.make.Goals as goal

pub returns-in-Ok-note_made-clause-told : goal.returns-in-Ok-note_made-clause-told
returns-in-Ok-note_made-clause-told c = λ told. c.in-Ok-note_made.ensures.told (drop c.args.self.now.taken c.args.self.now.input.items)
