use Rattle.std.proofs.Common.{◌≡◌, true, List, ℕ, sym, subst, rules}
use Rattle.host_trait.specs.Disk.{MayLeave}
use Rattle.host_memory.specs.Replay.{state_at}
use Rattle.host_memory.specs.ShownState.{world_in, is_written}
use Rattle.host_memory.proofs.CrashDraws.{drawing_late, drawing_off, drawing_had, drawing_new}
use Rattle.host_memory.proofs.host.MemoryHost.draw.Goals as goal

pub returns-then-noted-until-clause-drawn : goal.returns-then-noted-until-clause-drawn
returns-then-noted-until-clause-drawn c count low is drawing =
    drawing_late c.args.events.now c.args.until count c.args.noted.now low is (is_written c.args.self.now) (world_in c.args.self.now).disk drawing c.if-noted-until.true

pub returns-in_default-clause-drawn : goal.returns-in_default-clause-drawn
returns-in_default-clause-drawn c count low is drawing =
    drawing_off c.args.events.now c.args.until count c.args.noted.now low is (is_written c.args.self.now) (world_in c.args.self.now).disk drawing c.in_default.ensures.none

pub returns-then-is_some-clause-drawn : goal.returns-then-is_some-clause-drawn
returns-then-is_some-clause-drawn c count low is drawing =
    let had : is_written c.args.self.now c.in-Some.file ≡ true = search rules in
    drawing_had c.args.events.now c.args.until count c.args.noted.now low is (is_written c.args.self.now) (world_in c.args.self.now).disk drawing c.in-Some.file c.in-Some.ensures.some had

pub returns-clause-drawn : goal.returns-clause-drawn
returns-clause-drawn c count low is drawing =
    let done = c.in_ok-put_file.ensures.ok in
    drawing_new c.args.events.now c.args.until count c.args.noted.now low is (is_written c.args.self.now) (world_in c.args.self.now).disk drawing c.in-Some.file c.deref.result.now (is_written c.put_file.new.self) (world_in c.put_file.new.self).disk
    c.in-Some.ensures.some done.written done.disk
    (subst (λ (l : List ℕ). MayLeave (state_at c.args.until c.args.events.now c.in-Some.file) l) (sym c.deref.ensures.value) c.in_ok-bytes.ensures.left)
