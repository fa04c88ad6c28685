use Rattle.std.proofs.Common.{◌≡◌, false, sym, subst, rules}
use Rattle.system_calls.specs.System.{EntersAll}
use Rattle.system_memory.specs.MemoryState.{MemoryState, held_of, system_of, IsKeepable, lose_entries}
use Rattle.system_memory.proofs.Parts.{loses}
use Rattle.system_memory.proofs.events.note_lost.Goals as goal

pub returns-clause-told : goal.returns-clause-told
returns-clause-told c input =
    let old = held_of c.args.events.now.items in
    let held : held_of c.note.new.events.items ≡ lose_entries old = search rules in
    subst (λ (h : MemoryState). EntersAll false (system_of input old) (system_of input h)) (sym held) (loses input old)

pub returns-clause-kept : goal.returns-clause-kept
returns-clause-kept c kept =
    let old = held_of c.args.events.now.items in
    let held : held_of c.note.new.events.items ≡ lose_entries old = search rules in
    subst (λ (h : MemoryState). IsKeepable h) (sym held) (kept)
