use Rattle.std.proofs.Common.{◌≡◌, ℕ, List, take, drop, sym, ◌∙◌, ap, subst}
use Rattle.system_calls.specs.System.{AppendsPart}
use Rattle.system_memory.specs.MemoryState.{MemoryState, held_of, system_of, IsKeepable, put_out}
use Rattle.system_memory.proofs.Parts.{appends}
use Rattle.system_memory.proofs.events.note_emitted.Goals as goal

pub returns-clause-ok : goal.returns-clause-ok
returns-clause-ok c input =
    let old = held_of c.args.events.now.items in
    let part : c.in_ok-part.part.items ≡ (take c.args.count (drop c.args.from c.args.bytes.now)) = c.in_ok-part.ensures in
    let held : held_of c.note.new.events.items ≡ put_out c.args.from (take c.args.count (drop c.args.from c.args.bytes.now)) old = c.in_ok-note.ensures.ok ∙ ap (λ (l : List ℕ). put_out c.args.from l old) part in
    subst (λ (h : MemoryState). AppendsPart c.args.count c.args.from c.args.bytes.now (system_of input old) (system_of input h)) (sym held) (appends c.args.count c.args.from c.args.bytes.now input old c.requires.some)

pub returns-clause-kept : goal.returns-clause-kept
returns-clause-kept c kept =
    let old = held_of c.args.events.now.items in
    let part : c.in_ok-part.part.items ≡ (take c.args.count (drop c.args.from c.args.bytes.now)) = c.in_ok-part.ensures in
    let held : held_of c.note.new.events.items ≡ put_out c.args.from (take c.args.count (drop c.args.from c.args.bytes.now)) old = c.in_ok-note.ensures.ok ∙ ap (λ (l : List ℕ). put_out c.args.from l old) part in
    subst (λ (h : MemoryState). IsKeepable h) (sym held) (kept)
