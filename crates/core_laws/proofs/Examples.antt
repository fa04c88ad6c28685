-- The computed runs come to what is said of them.
use Rattle.std.proofs.Common.{refl}
use Rattle.core_model.specs.CoreState.{put, put_grain}
use Rattle.core_model.specs.ComputedRuns.{RunsAreComputed}

pub computed : RunsAreComputed
unfolding put put_grain
computed = record {
  both_commit = refl;
  vote_and_dependent = refl;
  both_in_doubt = refl;
  one_of_two = refl;
  younger_dies = refl;
  older_waits = refl;
  older_is_told = refl;
  read_before_write = refl;
  failed_block = refl;
  doomed_reader = refl;
  one_in_memory = refl;
  child_refused = refl;
  plain_parent = refl;
  shared = refl;
  snapshot_ends = refl;
  entries_written = refl;
  one_planned = refl;
  planned_in_order = refl;
  not_learnt = refl;
  learnt = refl;
  settler_shown = refl;
  shown_in_doubt = refl;
}
