use Rattle.std.proofs.Common.{◌≡◌, ◌∙◌, sym, ap, Some, drop, ◌+◌, ◌-◌, ◌∷◌, List, arith}
use Rattle.core_model.specs.CoreState.{Write}
use Rattle.core_parts.specs.States.{handed_in}
use Rattle.history_core.specs.HandedWrites.{with_writes, put_handed}
use Rattle.history_core.proofs.Loops.{drop-at, puts-is}
use Rattle.history_core.proofs.finish.hand.Goals as goal

pub loop-at-preserved : goal.loop-at-preserved
loop-at-preserved c =
    let x : Write = c.index-writes-at.result in
    let at = c.loop-at.at in
    let back : at - 1 + 1 ≡ at = omega arith in
    let front : drop (at - 1) c.args.writes.now ≡ x ∷ drop at c.args.writes.now = drop-at c.args.writes.now (at - 1) x (omega (arith, c.loop-at.invariant.within)) c.index-writes-at.is ∙ ap (λ k. x ∷ drop k c.args.writes.now) back in record {
      rest =
          puts-is c.loop-at.handed c.keep.new.self c.args.unit x.0 (Some c.in_ok-state.state) c.in_ok-keep.ensures.ok
          ∙ (λ i. put_handed (c.loop-at.invariant.rest i) c.args.unit x.0 (Some (c.in_ok-state.ensures i)))
          ∙ ap (with_writes (handed_in c.args.handed.now) c.args.unit) (sym front);
      within = omega (arith, c.loop-at.invariant.within);
      others = λ y g n. c.in_ok-keep.ensures.ok.others y g (λ t. n t.0) ∙ c.loop-at.invariant.others y g n;
    }
