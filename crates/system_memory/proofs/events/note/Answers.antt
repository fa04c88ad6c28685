use Rattle.std.proofs.Common.{◌≡◌, [], ◌∷◌, ◌++◌, rules}
use Rattle.system_memory.proofs.Parts.{held_more}
use Rattle.system_memory.proofs.events.note.Goals as goal

pub returns-clause-ok : goal.returns-clause-ok
returns-clause-ok c =
    let pushed : c.push.new.self.items ≡ c.args.events.now.items ++ c.args.event ∷ [] = search rules in
    held_more c.args.events.now.items c.push.new.self.items c.args.event pushed
