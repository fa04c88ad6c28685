use Rattle.std.proofs.Common.{◌≡◌, drop}
use Rattle.history_core.specs.Effects.{answered_in, outcome_kept}
use Rattle.history_core.proofs.effects.are_answers.Given as goal

abbrev pub invariant-loop-at : goal.invariant-loop-at
invariant-loop-at l = answered_in (outcome_kept l.table) (drop l.at l.units) (drop l.at l.answers) ≡ answered_in (outcome_kept l.table) l.units l.answers
