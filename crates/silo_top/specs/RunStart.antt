-- What a run starts with.
use Rattle.std.specs.Prelude.{◌≡◌, ◌+◌, List, [], false, length, slice_get, unwrap_or}
use Rattle.base_types.specs.Stores.{end_in}
use Rattle.base_types.specs.declared.calls.GrainId.{GrainId}
use Rattle.base_types.specs.declared.calls.Value.{Value}
use Rattle.base_types.specs.declared.places.Places.{Places}
use Rattle.base_types.specs.declared.shapes.Shape.{Shape}
use Rattle.base_types.specs.Places.{placed_in}
use Rattle.cell_table.specs.Table.{initial_fields, known_in, state_or}
use Rattle.history_core.specs.Cores.{run_of}
use Rattle.promise_spec.specs.Cores.{memory_limit}
use Rattle.script_tree.specs.Programs.{program_tree}
use Rattle.script_check.specs.Shapes.{type_shapes}
use Rattle.batch_disk.specs.Writers.{file_end, kept_of, programs_of as writers_programs}
use Rattle.program_file.specs.Succession.{ArePrograms}
use Rattle.silo_opening.specs.OpenedSilo.{programs_of}
use Rattle.silo_opening.specs.declared.opened_silo.Opened.{Opened}
use Rattle.silo_top.specs.declared.run_start.Started.{Started}

-- the state with which a grain opens: that of the version at its place, or its type's initial fields
abbrev pub placed_state : Shape → Places → GrainId → List Value
placed_state shape places g = state_or (known_in (placed_in places g)) (initial_fields (slice_get shape.types g.kind))

-- The program and the slot are the opened silo's. The core has no events; its units are numbered from the next one on, its grains open
-- with the states of the versions at their places, and it keeps so many of those used last in memory. The settler goes on at the log's
-- gate, at the ends that the log names and at the places of the grains' last versions, knows the log's programs, and has written no
-- replies. Its blocks have the session that follows the greatest of the log.
pub record IsStartOf (o : Opened) (s : Started) : Type 0 where
  pub checked : s.checked ≡ o.checked
  pub slot : s.slot ≡ o.slot
  pub run : run_of s.core ≡ record {
    base = o.next_unit.0;
    kinds = length (type_shapes (program_tree o.checked));
    capacity = memory_limit;
    opening = placed_state (record { types = type_shapes (program_tree o.checked) }) o.places;
    events = [];
  }
  pub settles : s.settler.writer.slot ≡ o.slot
  pub session : s.settler.writer.session ≡ o.session + 1
  pub gate : s.settler.writer.gate_at ≡ o.gate_at
  pub ends : (g : GrainId) → file_end s.settler.writer g ≡ unwrap_or (end_in o.ends g) 0
  pub places : s.settler.writer.places ≡ o.places
  pub programs : writers_programs s.settler.writer ≡ programs_of o
  pub in_turn : ArePrograms (writers_programs s.settler.writer)
  pub kept : kept_of s.settler.writer ≡ []
  pub sealing : s.settler.writer.in_doubt ≡ false
  pub written : s.settler.written ≡ 0
  pub doubted : s.settler.doubted ≡ false
