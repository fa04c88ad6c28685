-- What the core's laws speak of: the test that an effect is a play, and the run of the events that applied.
use Rattle.std.specs.Prelude.{Bool, ◌&&◌, ◌==◌, length, map}
use Rattle.core_model.specs.declared.effects.Effect.{Effect}
use Rattle.core_model.specs.CoreState.{same_grain}
use Rattle.core_model.specs.Equality.{same_list, same_state, same_outcome}
use Rattle.core_model.specs.LegalRuns.{Run}
use Rattle.script_tree.specs.Programs.{ProgramTree}
use Rattle.script_meaning.specs.Play.{GrainState}
use Rattle.promise_spec.specs.Cores.{applied_in}
use Rattle.promise_spec.specs.UnitRule.{played_by}

-- one grain in one state
abbrev pub same_found : GrainState → GrainState → Bool
same_found a b = same_grain a.0 b.0 && same_state a.1 b.1

-- the effect is what its call does over its reads and answers, and it has an answer for each unit that was asked for
abbrev pub is_play : ProgramTree → Effect → Bool
is_play types e =
    same_outcome (played_by types e).result e.result
    && ((length (played_by types e).asked == length e.answers)
    && (same_list same_found (played_by types e).reads (map (λ r. (r.grain, r.state)) e.reads)
    && same_list same_found (played_by types e).writes e.writes))

-- the run of the events that applied, and of no others
abbrev pub applied_run : Run → Run
applied_run r = record r { events = applied_in r }
