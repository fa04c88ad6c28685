use Rattle.std.proofs.Common.{◌≡◌, sym, subst, rules}
use Rattle.system_calls.specs.System.{MakesFile}
use Rattle.system_memory.specs.MemoryState.{MemoryState, held_of, system_of, IsKeepable, make_file}
use Rattle.system_memory.proofs.Parts.{makes, make_bare}
use Rattle.system_memory.proofs.events.note_made.Goals as goal

pub returns-clause-told : goal.returns-clause-told
returns-clause-told c input =
    let old = held_of c.args.events.now.items in
    let held : held_of c.note.new.events.items ≡ make_file c.args.file old = search rules in
    subst (λ (h : MemoryState). MakesFile c.args.file (system_of input old) (system_of input h)) (sym held) (makes c.args.file input old)

pub returns-clause-kept : goal.returns-clause-kept
returns-clause-kept c kept =
    let old = held_of c.args.events.now.items in
    let held : held_of c.note.new.events.items ≡ make_file c.args.file old = search rules in
    subst (λ (h : MemoryState). IsKeepable h) (sym held) ((kept.0, make_bare c.args.file old c.requires kept.0 kept.1))
