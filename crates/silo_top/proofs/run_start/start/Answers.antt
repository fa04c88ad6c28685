use Rattle.std.proofs.Common.{◌≡◌, ℕ, Option, length, [], refl, ◌∙◌}
use Rattle.base_types.specs.declared.places.Places.{Places}
use Rattle.base_types.specs.declared.shapes.Shape.{Shape}
use Rattle.script_tree.specs.Programs.{program_tree}
use Rattle.script_check.specs.Shapes.{type_shapes}
use Rattle.core_model.specs.LegalRuns.{Run}
use Rattle.promise_spec.specs.Cores.{memory_limit}
use Rattle.silo_top.specs.RunStart.{placed_state}
use Rattle.silo_top.proofs.run_start.start.Goals as goal

pub returns-clause-start : goal.returns-clause-start
returns-clause-start c =
    let made = c.in-Ok-new.ensures in
    let started : Shape → Places → Option ℕ → Run = λ s places limit. record { base = c.args.opened.next_unit.0; kinds = length s.types; capacity = limit; opening = placed_state s places; events = [] } in
    let shape : c.in-Ok.shape ≡ record { types = type_shapes (program_tree c.args.opened.checked) } = (λ i. record { types = c.in-Ok.ensures i }) in
    record {
      checked = refl;
      slot = refl;
      run = c.new-core.ensures.run ∙ (λ i. started (shape i) (c.of.ensures i) (c.in-Ok-unused_memory.ensures.limit i));
      settles = made.slot;
      session = made.session ∙ c.in-Some.ensures.next.0;
      gate = made.gate;
      ends = made.ends;
      places = made.places;
      programs = made.programs;
      in_turn = made.bounds.programs;
      kept = made.kept;
      sealing = made.sealing;
      written = made.written;
      doubted = made.doubted;
    }
