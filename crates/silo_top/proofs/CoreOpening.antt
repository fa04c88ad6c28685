-- The states with which the core opens, and what a settler's first calls need of the files.
use Rattle.std.proofs.Common.{◌≡◌, ℕ, suc, ◌≤◌, List, [], ◌∷◌, Option, Some, None, length, slice_get, unwrap_or, refl, sym, ◌∙◌, ap, subst, arith}
use Rattle.std.specs.Prelude.{option_map}
use Rattle.std.proofs.lemmas.Option.{slice_get-map}
use Rattle.base_types.specs.Stores.{end_in}
use Rattle.base_types.specs.Places.{placed_in}
use Rattle.base_types.specs.declared.places.Placed.{Placed}
use Rattle.base_types.specs.declared.calls.GrainId.{GrainId}
use Rattle.base_types.specs.declared.calls.Value.{Value}
use Rattle.std.specs.List.{AllByRecursion}
use Rattle.host_trait.specs.declared.channels.FileId.TheVariants.{Manager, Grain}
use Rattle.host_trait.specs.declared.channels.FileId.{FileId}
use Rattle.host_trait.specs.World.{Image, Disk}
use Rattle.gate_block.specs.Gates.{IsClosedAt}
use Rattle.batch_disk.specs.ImagesAtRest.{Voted, write_end}
use Rattle.batch_disk.specs.Writers.{FitsSlot, FitsDisk}
use Rattle.cell_table.specs.Table.{initial_fields, known_in, state_or}
use Rattle.script_tree.specs.Programs.{TypeTree, ProgramTree, program_tree}
use Rattle.script_check.specs.Shapes.{type_shape, type_shapes}
use Rattle.script_meaning.specs.Play.{initial_of}
use Rattle.field_codec.specs.declared.formats.Format.TheVariants.{Two}
use Rattle.promise_spec.specs.Entries.{initial_states, standing_of}
use Rattle.promise_spec.specs.Programs.{shape_in}
use Rattle.promise_spec.specs.Cores.{core_from, memory_limit}
use Rattle.history_core.specs.Cores.{run_of}
use Rattle.silo_opening.specs.OpenedSilo.{IsOpenedFrom, program_in, programs_of}
use Rattle.silo_opening.proofs.PlacedStates.{known_stand}
use Rattle.log_reading.proofs.PlacedVersions.{known_state}
use Rattle.silo_opening.specs.declared.opened_silo.Opened.{Opened}
use Rattle.log_reading.specs.Steps.{seen_in}
use Rattle.silo_top.specs.LoadSteps.{LiesWithin}
use Rattle.silo_top.specs.RunStart.{IsStartOf, placed_state}
use Rattle.silo_top.specs.declared.run_start.Started.{Started}

-- ---- the core's run

-- a type's initial fields are its shape's
initial_at : (t : Option TypeTree) → initial_fields (option_map type_shape t) ≡ initial_of t
initial_at None = refl
initial_at (Some t) = refl

-- a state that is kept, or else the initial one
kept_or : (state : Option (List Value)) (initial : List Value) → state_or state initial ≡ unwrap_or state initial
kept_or None initial = refl
kept_or (Some state) initial = refl

-- what is known of a place is its version's state
known_same : (image : Image) (o : Opened) (p : Option Placed) → known_in p ≡ known_state o.slot Two (programs_of o) image p
known_same image o None = refl
known_same image o (Some p) = refl

-- the core opens with what the log stands for
states_are : (image : Image) (o : Opened) (is : IsOpenedFrom image o) (g : GrainId)
    → placed_state (record { types = type_shapes (program_tree o.checked) }) o.places g ≡ (standing_of is.log).states g
states_are image o is g =
    kept_or (known_in (placed_in o.places g)) (initial_fields (slice_get (type_shapes (program_tree o.checked)) g.kind))
    ∙ ap (λ (initial : List Value). unwrap_or (known_in (placed_in o.places g)) initial) (ap initial_fields (slice_get-map type_shape (program_tree o.checked) g.kind) ∙ initial_at (slice_get (program_tree o.checked) g.kind))
    ∙ ap (λ (s : Option (List Value)). unwrap_or s (initial_states (program_in o) g)) (known_same image o (placed_in o.places g))
    ∙ known_stand image o is g

pub many_types : (types : ProgramTree) → length (type_shapes types) ≡ length types
many_types [] = refl
many_types (t ∷ types) = ap suc (many_types types)

-- so its run is that of the log's standing
pub start_is : (image : Image) (o : Opened) (s : Started) → (is : IsOpenedFrom image o) → IsStartOf o s → run_of s.core ≡ core_from (program_tree o.checked) (standing_of is.log) []
start_is image o s is start = start.run ∙ (λ i. record {
  base = is.next i;
  kinds = many_types (program_tree o.checked) i;
  capacity = memory_limit;
  opening = λ g. states_are image o is g i;
  events = [];
})

-- ---- the files

-- the settler's ends lie in the files, as they read
ends_within : (image : Image) (o : Opened) (g : GrainId) (end : Option ℕ) → end_in o.ends g ≡ end → IsOpenedFrom image o → unwrap_or end 0 ≤ length (image (Grain o.slot g))
ends_within image o g None e is = omega arith
ends_within image o g (Some end) e is = is.within g end e

-- So the settler's first calls find the files as they need them.
pub fits_at : (image : Image) (o : Opened) (s : Started) (disk : Disk) → IsOpenedFrom image o → IsStartOf o s → ((file : FileId) → (disk file).seen ≡ image file) → FitsDisk s.settler.writer disk
fits_at image o s disk is start seen = subst (λ (slot : ℕ). FitsSlot slot s.settler.writer disk) (sym start.settles) (record {
  long = λ g. subst (λ (n : ℕ). n ≤ length (disk (Grain o.slot g)).seen) (sym (start.ends g))
      (subst (λ (file : List ℕ). unwrap_or (end_in o.ends g) 0 ≤ length file) (sym (seen (Grain o.slot g))) (ends_within image o g (end_in o.ends g) refl is));
  kept = subst (λ (vs : List Voted). AllByRecursion (λ (v : Voted). write_end v.write ≤ length (disk (Grain o.slot v.write.grain)).seen) vs) (sym start.kept) tt;
  closed = λ sure. subst (λ (gate : ℕ). IsClosedAt gate (disk (Manager o.slot)).seen) (sym start.gate) (subst (IsClosedAt o.gate_at) (sym (seen (Manager o.slot))) is.closed);
})

-- the same, of files as they read
pub fits_within : (o : Opened) (s : Started) (disk : Disk) → LiesWithin (seen_in disk) o → IsStartOf o s → FitsDisk s.settler.writer disk
fits_within o s disk lies start = subst (λ (slot : ℕ). FitsSlot slot s.settler.writer disk) (sym start.settles) (record {
  long = λ g. subst (λ (n : ℕ). n ≤ length (disk (Grain o.slot g)).seen) (sym (start.ends g)) (by g (end_in o.ends g) refl);
  kept = subst (λ (vs : List Voted). AllByRecursion (λ (v : Voted). write_end v.write ≤ length (disk (Grain o.slot v.write.grain)).seen) vs) (sym start.kept) tt;
  closed = λ sure. subst (λ (gate : ℕ). IsClosedAt gate (disk (Manager o.slot)).seen) (sym start.gate) lies.closed;
})
  where
    by : (g : GrainId) (end : Option ℕ) → end_in o.ends g ≡ end → unwrap_or end 0 ≤ length (disk (Grain o.slot g)).seen
    by g None e = omega arith
    by g (Some end) e = lies.within g end e
