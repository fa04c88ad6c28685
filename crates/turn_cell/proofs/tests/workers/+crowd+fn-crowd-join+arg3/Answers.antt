use Rattle.std.specs.Prelude.{⊤}
use Rattle.turn_cell.proofs.CallSums.{gathers_continued, gathers_split}
use Rattle.turn_cell.proofs.tests.workers.+crowd+fn-crowd-join+arg3.Goals as goal

pub returns-clause-carried : goal.returns-clause-carried
returns-clause-carried g n c =
    let mine = c.join-other.result.1.0.me.0 in
    let theirs = c.join-other.result.0.0.me.0 in
    let all = gathers_continued (λ _. ⊤) c.split-pass.result.1.me.0 theirs c.join-other.ensures.first.1 in
    gathers_split _ _ _ (λ _. ⊤) c.args.pass.me.0 c.split-pass.result.0.me.0 mine c.split-pass.result.1.me.0 theirs c.join.result.me.0 c.split-pass.ensures.splitter c.split-pass.ensures.split_off c.join-other.ensures.second.1 all tt c.join.ensures.joins
