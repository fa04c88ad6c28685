use Rattle.std.proofs.Common.{◌≡◌, take}
use Rattle.cell_model.specs.Sources.{is_among}
use Rattle.cell_model.specs.Decisions.{all_decided}
use Rattle.cascade_abort.proofs.batch.decide_all.Given as goal

abbrev pub invariant-loop-at : goal.invariant-loop-at
invariant-loop-at l = take l.at l.into ≡ take l.at (all_decided (is_among l.aborted) l.batch)
