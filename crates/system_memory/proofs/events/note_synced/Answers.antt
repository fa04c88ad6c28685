use Rattle.std.proofs.Common.{◌≡◌, true, sym, subst, rules}
use Rattle.system_calls.specs.System.{SyncsData}
use Rattle.system_memory.specs.MemoryState.{MemoryState, held_of, system_of, IsKeepable, sync_file}
use Rattle.system_memory.proofs.Parts.{syncs_file, sync_stays, sync_bare}
use Rattle.system_memory.proofs.events.note_synced.Goals as goal

pub returns-clause-told : goal.returns-clause-told
returns-clause-told c input =
    let old = held_of c.args.events.now.items in
    let held : held_of c.note.new.events.items ≡ sync_file c.args.file old = search rules in
    subst (λ (h : MemoryState). SyncsData c.args.file true (system_of input old) (system_of input h)) (sym held) (syncs_file c.args.file input old)

pub returns-clause-kept : goal.returns-clause-kept
returns-clause-kept c kept =
    let old = held_of c.args.events.now.items in
    let held : held_of c.note.new.events.items ≡ sync_file c.args.file old = search rules in
    subst (λ (h : MemoryState). IsKeepable h) (sym held) ((sync_stays c.args.file old kept.0, sync_bare c.args.file old c.requires kept.1))
