use Rattle.std.proofs.Common.{◌≡◌, ◌∙◌, sym, ap, None, drop, ◌+◌, ◌∷◌, List}
use Rattle.core_model.specs.declared.effects.Read.{Read}
use Rattle.core_parts.specs.States.{handed_in}
use Rattle.history_core.specs.HandedWrites.{cleared}
use Rattle.history_core.proofs.Loops.{drop-at, puts-is}
use Rattle.history_core.proofs.finish.clear.Goals as goal

pub loop-read-preserved : goal.loop-read-preserved
loop-read-preserved c =
    let r : Read = c.read-item.result in
    let i = c.loop-read.read-index in record {
      rest =
          ap (λ f. cleared f c.args.unit (drop (i + 1) c.args.reads.now)) (puts-is c.loop-read.handed c.take.new.self c.args.unit r.grain None c.take.ensures.gone)
          ∙ ap (cleared (handed_in c.loop-read.handed) c.args.unit) (sym (drop-at c.args.reads.now i r c.loop-read-test.true c.read-item.is))
          ∙ c.loop-read.invariant.rest;
      others = λ x g n. c.take.ensures.gone.others x g (λ t. n t.0) ∙ c.loop-read.invariant.others x g n;
    }
