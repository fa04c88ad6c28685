-- Where a run begins, each grain's place is that of the log that was opened, and stands for its state.
use Rattle.std.proofs.Common.{◌≡◌, ℕ, ◌+◌, ◌≤◌, List, [], ◌∷◌, length, map, Bool, true, false, Option, Some, None, Ok, slice_get, refl, sym, ◌∙◌, ap, subst, arith}
use Rattle.std.specs.Prelude.{if◌then◌else◌, unwrap_or, ⊤}
use Rattle.std.specs.List.{AllByRecursion}
use Rattle.base_types.specs.Places.{placed_in}
use Rattle.base_types.specs.Stores.{end_in}
use Rattle.base_types.specs.declared.calls.GrainId.{GrainId}
use Rattle.base_types.specs.declared.calls.Value.{Value}
use Rattle.base_types.specs.declared.places.Placed.{Placed}
use Rattle.base_types.specs.declared.places.Places.{Places}
use Rattle.base_types.specs.declared.shapes.Shape.{Shape}
use Rattle.base_types.specs.declared.stores.Place.{Place}
use Rattle.base_types.specs.declared.stores.Version.{Version}
use Rattle.host_trait.specs.Files.{same_grain}
use Rattle.host_trait.specs.World.{World, Disk, Image}
use Rattle.host_trait.specs.declared.channels.FileId.TheVariants.{Grain}
use Rattle.field_codec.specs.declared.formats.Format.{Format}
use Rattle.field_codec.specs.declared.formats.Format.TheVariants.{Two}
use Rattle.core_model.specs.CoreState.{Member}
use Rattle.commit_log.specs.declared.records.Named.{Named}
use Rattle.log_reading.specs.Versions.{named_in, named_by_grain, version_found, version_numbered}
use Rattle.log_reading.specs.PlacedVersions.{version_placed, placed_by_shape}
use Rattle.log_reading.proofs.PlacedVersions.{IsStanding, known_state}
use Rattle.log_reading.specs.Sums.{placed_as, placed_after, greater_end, end_after}
use Rattle.script_tree.specs.Programs.{ProgramTree, program_tree}
use Rattle.script_check.specs.Shapes.{type_shapes}
use Rattle.program_file.specs.Succession.{ArePrograms, newest_program, shapes_in_turn}
use Rattle.program_file.proofs.ProgramNumbers.{newest_shape}
use Rattle.script_check.specs.Comparison.{last_program}
use Rattle.core_model.specs.LegalRuns.{Run}
use Rattle.log_reading.specs.Steps.{seen_in}
use Rattle.silo_spec.specs.OpenedDisks.{OnlyOpens}
use Rattle.silo_opening.proofs.OpeningCalls.{opens_untouched}
use Rattle.silo_top.proofs.CoreOpening.{start_is}
use Rattle.promise_spec.specs.Entries.{Log, Standing, Recorded, Upgraded, initial_states, after_entry, after_entries, standing_of}
use Rattle.promise_spec.specs.Openings.{commit_of, entries_logged, log_of}
use Rattle.log_reading.specs.Blocks.{ReadEntry, ReadRecord, ReadUpgrade, programs_read}
use Rattle.promise_spec.specs.Programs.{Program, shape_in}
use Rattle.batch_disk.specs.ImagesAtRest.{Voted}
use Rattle.batch_disk.specs.KeptPlaces.{VoteStands, StandsBy, IsTold, PlaceStands, PlacesStand}
use Rattle.batch_disk.specs.Writers.{file_end, kept_of, programs_of as writers_programs, newest_number}
use Rattle.batch_disk.specs.declared.writer.BatchWriter.{BatchWriter}
use Rattle.run_books.specs.Beginnings.{Outset}
use Rattle.run_books.specs.Places.{IsPlacedAs, IsOfOpening, KeepsVersions}
use Rattle.silo_opening.specs.OpenedSilo.{program_in, programs_of, shapes_of, IsOpenedFrom}
use Rattle.silo_opening.specs.declared.opened_silo.Opened.{Opened}
use Rattle.silo_opening.proofs.PlacedStates.{opened_stand, known_stand}
use Rattle.silo_top.specs.RunStart.{IsStartOf, placed_state}
use Rattle.silo_top.specs.declared.run_start.Started.{Started}
use Rattle.silo_top.proofs.TurnStart.{start_run, no_books}

-- ---- what the log names

module _ (live : ℕ) (format : Format) (programs : List ProgramTree) (image : Image) where
  -- no place is of the run's own
  old_places : (named : List Named) (g : GrainId) (p : Option Placed) → IsPlacedAs None p → IsPlacedAs None (placed_after live format programs image p named g)
  old_places [] g p is = is
  old_places (n ∷ named) g p is =
      old_places named g (if same_grain n.written.grain g then Some (placed_as programs n.written.grain n.written.place n.program (version_found (version_numbered live format (shapes_in_turn programs) image n))) else p) (by (same_grain n.written.grain g))
    where
      by : (b : Bool) → IsPlacedAs None (if b then Some (placed_as programs n.written.grain n.written.place n.program (version_found (version_numbered live format (shapes_in_turn programs) image n))) else p)
      by true = refl
      by false = is

  -- a place ends at most here
  abbrev EndsBy : Option Placed → ℕ → Type 0
  EndsBy None end = ⊤
  EndsBy (Some p) end = p.place.offset + p.place.len ≤ end

  later_end : (p : Option Placed) (a b : ℕ) → a ≤ b → EndsBy p a → EndsBy p b
  later_end None a b le is = tt
  later_end (Some p) a b le is = omega (arith, le, is)

  -- and each at most where the ends that the log names are
  near_places : (named : List Named) (g : GrainId) (p : Option Placed) (end : Option ℕ) → EndsBy p (unwrap_or end 0) → EndsBy (placed_after live format programs image p named g) (unwrap_or (end_after end named g) 0)
  near_places [] g p end is = is
  near_places (n ∷ named) g p end is =
      near_places named g (if same_grain n.written.grain g then Some (placed_as programs n.written.grain n.written.place n.program (version_found (version_numbered live format (shapes_in_turn programs) image n))) else p)
      (if same_grain n.written.grain g then greater_end end (n.written.place.offset + n.written.place.len) else end) (by (same_grain n.written.grain g))
    where
      up : (e : Option ℕ) → n.written.place.offset + n.written.place.len ≤ unwrap_or (greater_end e (n.written.place.offset + n.written.place.len)) 0
      up None = omega arith
      up (Some last) = omega arith

      by : (b : Bool) → EndsBy (if b then Some (placed_as programs n.written.grain n.written.place n.program (version_found (version_numbered live format (shapes_in_turn programs) image n))) else p) (unwrap_or (if b then greater_end end (n.written.place.offset + n.written.place.len) else end) 0)
      by true = up end
      by false = is

-- ---- the program in force behind a log's entries

-- it is the last of those that the entries brought into force
last_of : (live : ℕ) (image : Image) (before : Standing) (p : Program) (entries : List ReadEntry) → before.program ≡ p
    → (after_entries before (entries_logged Two live p image entries)).program.types ≡ last_program p.types (map (λ (q : Program). q.types) (programs_read entries))
last_of live image before p [] is = ap (λ (q : Program). q.types) is
last_of live image before p (ReadRecord r ∷ entries) is = last_of live image (after_entry before (Recorded (commit_of Two live (shape_in p) image r))) p entries is
last_of live image before p (ReadUpgrade q ∷ entries) is = last_of live image (after_entry before (Upgraded q)) q entries refl

-- ---- an opened silo

module _ (image : Image) (x : Opened) (is : IsOpenedFrom image x) (writer : BatchWriter) (places : writer.places ≡ x.places) (kept : kept_of writer ≡ []) (ends : (g : GrainId) → file_end writer g ≡ unwrap_or (end_in x.ends g) 0)
    (trees : writers_programs writer ≡ programs_of x) (are : ArePrograms (writers_programs writer)) where
  places_are : (g : GrainId) → placed_in writer.places g ≡ placed_in x.places g
  places_are g = ap (λ (ps : Places). placed_in ps g) places

  old_one : (g : GrainId) → IsPlacedAs None (placed_in x.places g)
  old_one g = subst (IsPlacedAs None) (sym (is.places g)) (old_places x.slot Two (programs_of x) image (named_by_grain (named_in is.read)) g None tt)

  near_one : (g : GrainId) → EndsBy x.slot Two (programs_of x) image (placed_in x.places g) (unwrap_or (end_in x.ends g) 0)
  near_one g =
      subst (λ (p : Option Placed). EndsBy x.slot Two (programs_of x) image p (unwrap_or (end_in x.ends g) 0)) (sym (is.places g))
      (subst (λ (e : Option ℕ). EndsBy x.slot Two (programs_of x) image (placed_after x.slot Two (programs_of x) image None (named_by_grain (named_in is.read)) g) (unwrap_or e 0)) (sym (is.ends g))
      (near_places x.slot Two (programs_of x) image (named_by_grain (named_in is.read)) g None None tt))

  -- what a place stands for
  of_opening : (g : GrainId) (p : Option Placed) → placed_in x.places g ≡ p → IsOfOpening (initial_states (program_in x) g) ((standing_of is.log).states g) p
  of_opening g None q = sym (sym (ap (λ (p : Option Placed). unwrap_or (known_state x.slot Two (programs_of x) image p) (initial_states (program_in x) g)) q) ∙ known_stand image x is g)
  of_opening g (Some p) q = λ old. sym (ap (λ (r : Option Placed). unwrap_or (known_state x.slot Two (programs_of x) image r) (initial_states (program_in x) g)) q) ∙ known_stand image x is g

  -- the program in force is the last of them
  log_now : (standing_of (log_of Two x.slot is.first image is.read)).program ≡ program_in x
  log_now = ap (λ (l : Log). (standing_of l).program) (sym is.log_is) ∙ is.program

  newest_now : newest_program (writers_programs writer) ≡ program_tree x.checked
  newest_now =
      ap newest_program (trees ∙ is.programs)
      ∙ sym (last_of x.slot image (log_of Two x.slot is.first image is.read).base is.first is.read.entries refl)
      ∙ ap (λ (p : Program). p.types) log_now

  shape_now : slice_get (shapes_in_turn (writers_programs writer)) (newest_number writer) ≡ Some (shape_in (program_in x))
  shape_now = newest_shape writer.programs are ∙ ap (λ (t : ProgramTree). Some (record { types = type_shapes t })) newest_now

  module _ (o : Outset) (live : o.live ≡ x.slot) (types : o.program.types ≡ (program_in x).types) (disk : Disk) (seen : (g : GrainId) → (disk (Grain x.slot g)).seen ≡ image (Grain x.slot g)) where
    -- a version that the image has stands in the file
    stands_by : (s : Option Shape) (g : GrainId) (place : Place) (v : Version) → placed_by_shape x.slot Two s image g place ≡ Ok v → StandsBy x.slot s disk g place v
    stands_by None g place v is = absurd cc
    stands_by (Some shape) g place v is = ap (λ (bytes : List ℕ). version_placed x.slot Two shape (λ file. bytes) g place) (seen g) ∙ is

    told : (g : GrainId) (p : Placed) → placed_in x.places g ≡ Some p → IsTold x.slot (programs_of x) disk (file_end writer) g p
    told g p q =
        let st : IsStanding x.slot Two (programs_of x) image g (Some p) = subst (IsStanding x.slot Two (programs_of x) image g) q (opened_stand image x is g) in
        record {
          version = st.0;
          stands = stands_by (slice_get (shapes_of x) p.program) g p.place st.0 st.1;
          known = st.2;
          below = subst (λ (n : ℕ). p.place.offset + p.place.len ≤ n) (sym (ends g)) (subst (λ (r : Option Placed). EndsBy x.slot Two (programs_of x) image r (unwrap_or (end_in x.ends g) 0)) q (near_one g));
        }

    stands : (g : GrainId) (p : Option Placed) → placed_in x.places g ≡ p → PlaceStands x.slot (programs_of x) disk (file_end writer) g p
    stands g None q = tt
    stands g (Some p) q = told g p q

    all_stand_so : PlacesStand x.slot (shape_in (program_in x)) writer disk
    all_stand_so = record {
      shape_is = shape_now;
      placed = λ g. subst (λ (ts : List ProgramTree). PlaceStands x.slot ts disk (file_end writer) g (placed_in writer.places g)) (sym trees)
          (subst (PlaceStands x.slot (programs_of x) disk (file_end writer) g) (sym (places_are g)) (stands g (placed_in x.places g) refl));
      kept = subst (AllByRecursion (VoteStands x.slot (shape_in (program_in x)) disk)) (sym kept) tt;
    }

    -- the versions are known
    pub versions_begin : (base kinds : ℕ) (opening : GrainId → List Value) → opening ≡ (standing_of is.log).states → KeepsVersions o no_books (start_run base kinds opening) writer disk
    versions_begin base kinds opening states = record {
      votes = λ v there. absurd (subst (Member v) kept there);
      stand = subst (λ (n : ℕ). PlacesStand n (shape_in o.program) writer disk) (sym live)
          (subst (λ (ts : ProgramTree). PlacesStand x.slot (shape_in (record { text = []; types = ts })) writer disk) (sym types) all_stand_so);
      own = λ g. subst (IsPlacedAs None) (sym (places_are g)) (old_one g);
      opened = λ g.
          subst (λ (ts : ProgramTree). IsOfOpening (initial_states (record { text = []; types = ts }) g) (opening g) (placed_in writer.places g)) (sym types)
          (subst (λ (f : GrainId → List Value). IsOfOpening (initial_states (program_in x) g) (f g) (placed_in writer.places g)) (sym states)
          (subst (IsOfOpening (initial_states (program_in x) g) ((standing_of is.log).states g)) (sym (places_are g)) (of_opening g (placed_in x.places g) refl)));
      loads = tt;
    }

-- ---- behind an opening

-- the folder reads as this silo, and beside its opening there was nothing but asking
pub record OpensSo (old mid : World) (x : Opened) : Type 0 where
  pub opened : IsOpenedFrom (seen_in old.disk) x
  pub run : OnlyOpens old mid

-- so the versions are known where the run begins
pub versions_behind : (old mid : World) (x : Opened) (st : Started) → IsStartOf x st → OpensSo old mid x → (o : Outset) → o.live ≡ x.slot → o.program.types ≡ (program_in x).types
    → KeepsVersions o no_books (start_run x.next_unit.0 (length (type_shapes (program_tree x.checked))) (placed_state (record { types = type_shapes (program_tree x.checked) }) x.places)) st.settler.writer mid.disk
versions_behind old mid x st start so o live types =
    versions_begin (seen_in old.disk) x so.opened st.settler.writer start.places start.kept start.ends start.programs start.in_turn o live types mid.disk (λ g. (opens_untouched _ old mid so.run).seen (Grain x.slot g))
    x.next_unit.0 (length (type_shapes (program_tree x.checked))) (placed_state (record { types = type_shapes (program_tree x.checked) }) x.places)
    (ap (λ (r : Run). r.opening) (sym start.run ∙ start_is (seen_in old.disk) x st so.opened start))
