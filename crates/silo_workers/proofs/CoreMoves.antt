-- A core may be moved to another thread: piece by piece, since it is large.
use mathlib.Core.List.{List, [], ◌∷◌}
use mir.Syntax.{Sym}
use denote.RattleType.{RattleType}
use denote.Param.Send.{IsSend, AllSend, sendable, view_send}
use denote.Struct.Field.{row_field}
use denote.Struct.Tuple.{type_at, TupleAt}
use denote.Param.SendFields.{FieldsHave, as_row_send, declared_send}
use Rattle.std.proofs.Crossing.{crosses}
use Rattle.std.proofs.MapsCrossing.{crosses as maps}
use Rattle.lru.proofs.Crosses.{KeyRef-send, List-send, Deed-send}
use Rattle.base_types.specs.contracts.state.State as state
use Rattle.activations.specs.contracts.recent.Recent as recent
use Rattle.activations.specs.contracts.recent.Recent.TheInside as recent_inside
use Rattle.core_model.specs.contracts.effects.Read as read
use Rattle.core_parts.specs.contracts.entry_list.EntryList as entries
use Rattle.core_parts.specs.contracts.entry_list.EntryList.TheInside as entries_inside
use Rattle.core_parts.specs.contracts.last_states.LastStates as last
use Rattle.dependency_sets.specs.contracts.set.DepSet as deps
use Rattle.history_core.specs.contracts.parts.Parts as parts
use Rattle.history_core.specs.contracts.whole_core.Core as core
use Rattle.history_core.specs.contracts.whole_core.Core.TheInside as inside
use Rattle.open_batch.specs.contracts.members.FinishedUnit as finished
use Rattle.unit_table.specs.contracts.entry.RunningUnit as running
use Rattle.unit_table.specs.contracts.entry.PastUnit as past
use Rattle.unit_table.specs.contracts.entry.UnitEntry as entry
use Rattle.unit_table.specs.contracts.table.UnitTable as units

state_send : IsSend state.the_row
state_send = search (sendable, crosses, maps) depth 60 fits 90000

deps_send : IsSend deps.the_row
deps_send = search (sendable, crosses, maps) depth 60 fits 90000

read_send : IsSend read.the_row
read_send = search (sendable, crosses, maps, state_send) depth 60 fits 90000

finished_send : IsSend finished.the_row
finished_send = search (sendable, crosses, maps, deps_send) depth 60 fits 90000

running_send : IsSend running.the_row
running_send = search (sendable, crosses, maps, read_send, deps_send) depth 60 fits 90000

entry_send : IsSend entry.the_row
entry_send = search (sendable, crosses, maps, running_send) depth 60 fits 90000

past_send : IsSend past.the_row
past_send = search (sendable, crosses, maps) depth 60 fits 90000

units_send : IsSend units.the_row
units_send = search (sendable, crosses, maps, entry_send, running_send, past_send) depth 60 fits 90000

entries_send : IsSend entries.the_row
entries_send = view_send _ _ _ _ _ (declared_send entries_inside.the_type (search sendable, (search (sendable, crosses, maps) depth 60 fits 90000, (search sendable depth 20, tt))))

-- the grains that were used last
recent_send : IsSend recent.the_row
recent_send = view_send _ _ _ _ _ (declared_send recent_inside.the_type (search (sendable, crosses, maps, KeyRef-send, List-send, Deed-send) depth 60 fits 90000, tt))

-- the last states, kept or known to contracts alone
last_send : IsSend last.the_row
last_send = declared_send last.the_type (search (sendable, crosses, maps, state_send) depth 60 fits 90000, (search sendable depth 20, tt))

parts_send : IsSend parts.the_row
parts_send = declared_send parts.the_type (
  units_send,
  (
    search (sendable, crosses, maps, recent_send) depth 40 fits 30000,
    (
      search (sendable, crosses, maps, finished_send) depth 40 fits 30000,
      (
        search sendable,
        (
          search (sendable, crosses, maps) depth 40 fits 30000,
          (
            search sendable,
            (
              entries_send,
              (
                search (sendable, crosses, maps) depth 40 fits 30000,
                (
                  last_send,
                  (search (sendable, crosses, maps) depth 40 fits 30000, tt),
                ),
              ),
            ),
          ),
        ),
      ),
    ),
  ),
)

-- a core
pub core_send : IsSend core.the_row
core_send = view_send _ _ _ _ _ (declared_send inside.the_type (parts_send, (search sendable, (search sendable, (search sendable depth 20, tt)))))

-- what a closure captured
captures : (ν : Sym) (Ts : List RattleType) → AllSend Ts → FieldsHave IsSend (type_at ν Ts).parts
captures ν [] s = tt
captures ν (T ∷ Ts) s = (as_row_send (row_field T) s.0, captures ν Ts s.1)

-- so a closure may be moved where each thing that it captured may
pub captures_send : (ν : Sym) (Ts : List RattleType) → AllSend Ts → IsSend (TupleAt ν Ts)
captures_send ν Ts s = declared_send (type_at ν Ts) (captures ν Ts s)
