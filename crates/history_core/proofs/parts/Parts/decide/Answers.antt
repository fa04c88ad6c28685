use Rattle.std.proofs.Common.{◌≡◌, ◌∙◌, sym, ap, refl, arith, true, false, nat_lt, Some}
use Rattle.std.proofs.lemmas.Bool.{lt-ltb}
use Rattle.open_batch.specs.TakenBatch.{TakenBatch}
use Rattle.history_core.specs.declared.parts.Parts.{Parts}
use Rattle.history_core.proofs.Decides.{Judges, undecided, does-decide, does-decide-none, ready-decided}
use Rattle.history_core.proofs.parts.Parts.decide.Goals as goal

pub judge-commits-requires : goal.judge-commits-requires
judge-commits-requires c = undecided c.args.self.now c.args.number c.requires.can

pub returns-then-commits-gt0-clause-ok : goal.returns-then-commits-gt0-clause-ok
returns-then-commits-gt0-clause-ok c =
    let e = c.judge-commits.ensures in
    let judges : (x : TakenBatch) → c.args.self.now.batch ≡ Some x → Judges c.args.self.now c.judge-commits.new.self x = λ x q. record {
      units = e.units;
      result = e.result;
      verdict = e.verdict x q;
      batch = e.batch x q;
      cells = e.cells;
      waiting = e.waiting;
      batches = e.batches;
      doubt = e.doubt;
      entries = e.entries;
      learn = e.learn;
      last = e.last;
      handed = e.handed;
    } in
    does-decide c.args.self.now c.judge-commits.new.self c.args.number c.judge-commits.result judges e.commits (lt-ltb 0 c.judge-commits.result (omega arith))

pub close-requires : goal.close-requires
close-requires c =
    let e = c.judge-commits.ensures in
    let judges : (x : TakenBatch) → c.args.self.now.batch ≡ Some x → Judges c.args.self.now c.judge-commits.new.self x = λ x q. record {
      units = e.units;
      result = e.result;
      verdict = e.verdict x q;
      batch = e.batch x q;
      cells = e.cells;
      waiting = e.waiting;
      batches = e.batches;
      doubt = e.doubt;
      entries = e.entries;
      learn = e.learn;
      last = e.last;
      handed = e.handed;
    } in
    ready-decided c.args.self.now c.judge-commits.new.self c.args.number c.requires.can judges

pub returns-clause-ok : goal.returns-clause-ok
returns-clause-ok c =
    let e = c.judge-commits.ensures in
    let judges : (x : TakenBatch) → c.args.self.now.batch ≡ Some x → Judges c.args.self.now c.judge-commits.new.self x = λ x q. record {
      units = e.units;
      result = e.result;
      verdict = e.verdict x q;
      batch = e.batch x q;
      cells = e.cells;
      waiting = e.waiting;
      batches = e.batches;
      doubt = e.doubt;
      entries = e.entries;
      learn = e.learn;
      last = e.last;
      handed = e.handed;
    } in
    let zero : c.judge-commits.result ≡ 0 = omega arith in
    does-decide-none c.args.self.now c.judge-commits.new.self c.close.new.self c.args.number c.judge-commits.result judges e.commits (ap (nat_lt 0) zero) c.close.ensures.closes c.close.ensures.doubt
