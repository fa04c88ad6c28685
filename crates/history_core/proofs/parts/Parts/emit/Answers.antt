use Rattle.history_core.proofs.OtherEvents.{does-emit, some-entry}
use Rattle.history_core.proofs.parts.Parts.emit.Goals as goal

pub emit-requires : goal.emit-requires
emit-requires c = some-entry c.args.self.now c.requires.can

pub returns-clause-ok : goal.returns-clause-ok
returns-clause-ok c = does-emit c.args.self.now c.emit.new.self c.emit.ensures.entries c.emit.ensures.emitted c.emit.ensures.spare
