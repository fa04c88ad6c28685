use Rattle.std.proofs.Common.{◌≡◌, ◌+◌, ◌≤◌, ℕ, List, length, take, drop, sym, ◌∙◌, ap, subst}
use Rattle.system_calls.specs.System.{WritesPart, FailsPart}
use Rattle.system_memory.specs.MemoryState.{MemoryState, held_of, system_of, IsKeepable, write_part}
use Rattle.system_memory.proofs.Parts.{writes, fails, part_fits, write_stays, write_bare}
use Rattle.system_memory.proofs.events.note_wrote.Goals as goal

pub returns-clause-ok : goal.returns-clause-ok
returns-clause-ok c input =
    let old = held_of c.args.events.now.items in
    let part : c.in_ok-part.part.items ≡ (take c.args.count (drop c.args.from c.args.bytes.now)) = c.in_ok-part.ensures in
    let held : held_of c.note.new.events.items ≡ write_part c.args.file c.args.at (length c.args.bytes.now) c.args.from (c.args.at + c.args.from) (take c.args.count (drop c.args.from c.args.bytes.now)) old = c.in_ok-note.ensures.ok ∙ ap (λ (l : List ℕ). write_part c.args.file c.args.at (length c.args.bytes.now) c.args.from (c.args.at + c.args.from) l old) part in
    subst (λ (h : MemoryState). WritesPart c.args.count c.args.from c.args.file c.args.at c.args.bytes.now (system_of input old) (system_of input h)) (sym held) (writes c.args.count c.args.from c.args.file c.args.at c.args.bytes.now input old c.requires.some)

pub returns-clause-torn : goal.returns-clause-torn
returns-clause-torn c input =
    let old = held_of c.args.events.now.items in
    let part : c.in_ok-part.part.items ≡ (take c.args.count (drop c.args.from c.args.bytes.now)) = c.in_ok-part.ensures in
    let held : held_of c.note.new.events.items ≡ write_part c.args.file c.args.at (length c.args.bytes.now) c.args.from (c.args.at + c.args.from) (take c.args.count (drop c.args.from c.args.bytes.now)) old = c.in_ok-note.ensures.ok ∙ ap (λ (l : List ℕ). write_part c.args.file c.args.at (length c.args.bytes.now) c.args.from (c.args.at + c.args.from) l old) part in
    let fits : c.args.from + length (take c.args.count (drop c.args.from c.args.bytes.now)) ≤ length c.args.bytes.now = part_fits c.args.count c.args.from c.args.bytes.now c.requires.from c.requires.within in
    subst (λ (h : MemoryState). FailsPart c.args.from c.args.file c.args.at (length c.args.bytes.now) (system_of input old) (system_of input h)) (sym held)
    (fails c.args.from c.args.file c.args.at (length c.args.bytes.now) (take c.args.count (drop c.args.from c.args.bytes.now)) input old c.requires.place fits)

pub returns-clause-kept : goal.returns-clause-kept
returns-clause-kept c kept =
    let old = held_of c.args.events.now.items in
    let part : c.in_ok-part.part.items ≡ (take c.args.count (drop c.args.from c.args.bytes.now)) = c.in_ok-part.ensures in
    let held : held_of c.note.new.events.items ≡ write_part c.args.file c.args.at (length c.args.bytes.now) c.args.from (c.args.at + c.args.from) (take c.args.count (drop c.args.from c.args.bytes.now)) old = c.in_ok-note.ensures.ok ∙ ap (λ (l : List ℕ). write_part c.args.file c.args.at (length c.args.bytes.now) c.args.from (c.args.at + c.args.from) l old) part in
    subst (λ (h : MemoryState). IsKeepable h) (sym held) (let fits : c.args.from + length (take c.args.count (drop c.args.from c.args.bytes.now)) ≤ length c.args.bytes.now = part_fits c.args.count c.args.from c.args.bytes.now c.requires.from c.requires.within in (write_stays c.args.file c.args.at (length c.args.bytes.now) c.args.from (take c.args.count (drop c.args.from c.args.bytes.now)) old c.requires.place fits kept.0, write_bare c.args.file c.args.at (length c.args.bytes.now) c.args.from (take c.args.count (drop c.args.from c.args.bytes.now)) old kept.1))
