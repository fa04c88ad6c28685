-- The worked calls, computed.
use Rattle.std.proofs.Common.{refl}
use Rattle.script_scopes.specs.Expressions.{expression_fault, arguments_fault, call_fault}
use Rattle.script_scopes.specs.Statements.{source_fault, statement_fault, block_fault, else_fault}
use Rattle.script_check.specs.Programs.{each_fault, program_fault}
use Rattle.script_meaning.specs.Play.{play_over, next, unit}
use Rattle.script_meaning.specs.WorkedExamples.{WorkedPlays, WorkedNexts}

pub worked_plays_lem : WorkedPlays
unfolding play_over unit program_fault each_fault block_fault statement_fault else_fault expression_fault arguments_fault call_fault source_fault
worked_plays_lem = record {
  checked = refl;
  transfers = refl;
  to_itself = refl;
  too_little = refl;
  another_length = refl;
  child_aborted = refl;
  child_unanswered = refl;
  child_ended = refl;
  aside = refl;
  aside_faulted = refl;
  aside_aborted = refl;
  split = refl;
  needs = refl;
  lone = refl;
  calls_lone = refl;
  last_step = refl;
  past_steps = refl;
  deepest = refl;
  past_depth = refl;
  last_grain = refl;
  past_grains = refl;
  last_unit = refl;
  past_units = refl;
  last_place = refl;
  past_places = refl;
  before_places = refl;
  no_place = refl;
}

pub worked_nexts_lem : WorkedNexts
unfolding next unit
worked_nexts_lem = record {
  shared = refl;
  raised = refl;
  doubled = refl;
  first_own = refl;
  then_child = refl;
  then_over = refl;
}
