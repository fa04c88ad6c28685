-- Why an opened folder couldn't be read again, as a refusal.
use Rattle.std.proofs.Common.{◌≡◌, ◌⊎◌, ◌+◌, ◌≤◌, inl, inr, ℕ, List, arith, [], ◌∷◌, ◌++◌, map, drop, Some, None, Option, Ok, Err, sym, ◌∙◌, ap, subst}
use Rattle.std.specs.Prelude.{slice_get}
use Rattle.std.specs.List.{AllByRecursion}
use Rattle.base_types.specs.declared.calls.UnitNo.{UnitNo}
use Rattle.base_types.specs.declared.shapes.Shape.{Shape}
use Rattle.host_trait.specs.declared.channels.FileId.{FileId}
use Rattle.host_trait.specs.declared.channels.FileId.TheVariants.{Manager, Grain}
use Rattle.host_trait.specs.World.{Image}
use Rattle.commit_log.specs.declared.records.CommitRecord.{CommitRecord}
use Rattle.commit_log.specs.declared.records.Named.{Named}
use Rattle.commit_log.specs.declared.records.Written.{Written}
use Rattle.core_model.specs.CoreState.{Member}
use Rattle.log_reading.specs.Blocks.{program_after}
use Rattle.log_reading.specs.declared.faults.FolderFault.{FolderFault}
use Rattle.program_file.specs.Succession.{shapes_in_turn}
use Rattle.silo_opening.specs.OpenedSilo.{in_folder, ending_of, shapes_of, IsOpenedFrom}
use Rattle.silo_opening.specs.declared.opened_silo.Opened.{Opened}
use Rattle.promise_spec.specs.Programs.{Program, shape_in}
use Rattle.promise_spec.specs.Openings.{Reading, Reads, ReadEntry, ReadRecord, ReadUpgrade, named_by, named_of_base, named_in, named_by_grain, types_read, opened_as}
use Rattle.silo_spec.specs.Silos.{IsEitherManager}
use Rattle.std.proofs.lemmas.Bool.{cases_eq}
use Rattle.field_codec.specs.declared.formats.Format.TheVariants.{Two}
use Rattle.promise_spec.specs.Refusals.{IsRefusedBy}
use Rattle.promise_spec.proofs.Lists.{parts_of, each_of, in_append}
use Rattle.promise_spec.proofs.Openings.{reads_is_live}
use Rattle.promise_spec.proofs.ReadVersions.{IsThere, by_number, item_at, later_shapes, all_of_order, none_missing}
use Rattle.log_audit.specs.RereadFaults.{IsWriteFault, IsRecordFault, IsEntryFault, IsRereadFault}

-- ---- faults among entries

module _ (live : ℕ) (image : Image) where
  memory_fault : (p : Program) (entries : List ReadEntry) (e : FolderFault) → e ≡ FolderFault.Memory → IsEntryFault live p image entries e
  memory_fault p [] e memory = memory
  memory_fault p (ReadRecord r ∷ entries) e memory = inr (memory_fault p entries e memory)
  memory_fault p (ReadUpgrade q ∷ entries) e memory = memory_fault q entries e memory

  -- those of entries before others, and behind others
  pub fault_before : (p : Program) (front more : List ReadEntry) (e : FolderFault) → IsEntryFault live p image front e → IsEntryFault live p image (front ++ more) e
  fault_before p [] more e memory = memory_fault p more e memory
  fault_before p (ReadRecord r ∷ front) more e (inl here) = inl here
  fault_before p (ReadRecord r ∷ front) more e (inr later) = inr (fault_before p front more e later)
  fault_before p (ReadUpgrade q ∷ front) more e f = fault_before q front more e f

  pub fault_behind : (p : Program) (front more : List ReadEntry) (e : FolderFault) → IsEntryFault live (program_after p front) image more e → IsEntryFault live p image (front ++ more) e
  fault_behind p [] more e f = f
  fault_behind p (ReadRecord r ∷ front) more e f = inr (fault_behind p front more e f)
  fault_behind p (ReadUpgrade q ∷ front) more e f = fault_behind q front more e f

  -- those of the records of a block
  pub fault_of_records : (p : Program) (records : List CommitRecord) (e : FolderFault) → IsRecordFault live (shape_in p) image records e → IsEntryFault live p image (map ReadRecord records) e
  fault_of_records p [] e f = absurd f.1
  fault_of_records p (r ∷ records) e f = elim f.1 [
    | inl here ↦ inl (subst (λ (x : CommitRecord). IsWriteFault live (shape_in p) image (Some x.unit) x.writes e) here f.2)
    | inr there ↦ inr (fault_of_records p records e (f.0, there, f.2))
  ]

  -- ---- what they name

  in_map : {A B : Type 0} (f : A → B) (x : A) (xs : List A) → Member x xs → Member (f x) (map f xs)
  in_map f x [] none = absurd none
  in_map f x (y ∷ xs) (inl here) = inl (ap f here)
  in_map f x (y ∷ xs) (inr there) = inr (in_map f x xs there)

  abbrev named_at : Option UnitNo → ℕ → Written → Named
  named_at unit number w = record { unit = unit; program = number; written = w }

  -- a grain whose file has the fault
  named_one : (number : ℕ) (p : Program) (entries : List ReadEntry) (at : FileId) → IsEntryFault live p image entries (FolderFault.Failed at) → (n : Named) × Member n (named_by number entries) × (at ≡ Grain live n.written.grain)
  named_one number p [] at none = absurd (cc none)
  named_one number p (ReadRecord r ∷ entries) at (inl f) =
      (named_at (Some r.unit) number f.0, in_append (named_at (Some r.unit) number f.0) (map (named_at (Some r.unit) number) r.writes) (named_by number entries) (inl (in_map (named_at (Some r.unit) number) f.0 r.writes f.1)), f.2)
  named_one number p (ReadRecord r ∷ entries) at (inr later) =
      let t = named_one number p entries at later in
      (t.0, in_append t.0 (map (named_at (Some r.unit) number) r.writes) (named_by number entries) (inr t.1), t.2)
  named_one number p (ReadUpgrade q ∷ entries) at f = named_one (number + 1) q entries at f

  module _ (shapes : List Shape) where
    -- no write of these has a version that isn't there
    none_damaged : (unit : Option UnitNo) (number : ℕ) (shape : Shape) (ws : List Written) → slice_get shapes number ≡ Some shape → AllByRecursion (IsThere Two live shapes image) (map (named_at unit number) ws)
        → (at : FileId) (place : ℕ) → IsWriteFault live shape image unit ws (FolderFault.Damaged at place) → ⊥
    none_damaged unit number shape ws here there at place f =
        let one = each_of (IsThere Two live shapes image) (map (named_at unit number) ws) (named_at unit number f.0) there (in_map (named_at unit number) f.0 ws f.1) in
        (let no : Err place ≡ Ok one.0 = sym f.2 ∙ sym (by_number Two live shapes image number shape here unit f.0) ∙ one.1 in cc no)

    none_broken : (number : ℕ) (p : Program) (entries : List ReadEntry) → drop number shapes ≡ shapes_in_turn (types_read p entries) → AllByRecursion (IsThere Two live shapes image) (named_by number entries)
        → (at : FileId) (place : ℕ) → IsEntryFault live p image entries (FolderFault.Damaged at place) → ⊥
    none_broken number p [] goes there at place none = absurd (cc none)
    none_broken number p (ReadRecord r ∷ entries) goes there at place f =
        let here = item_at number shapes (shape_in p) (later_shapes entries) goes in
        let t = parts_of (IsThere Two live shapes image) (map (named_at (Some r.unit) number) r.writes) (named_by number entries) there in
        elim f [
          | inl now ↦ none_damaged (Some r.unit) number (shape_in p) r.writes here.0 t.0 at place now
          | inr later ↦ none_broken number p entries goes t.1 at place later
        ]
    none_broken number p (ReadUpgrade q ∷ entries) goes there at place f =
        let here = item_at number shapes (shape_in p) (later_shapes (ReadUpgrade q ∷ entries)) goes in
        none_broken (number + 1) q entries here.1 there at place f

-- ---- of an opened folder

module _ (image : Image) (opened : Opened) (o : IsOpenedFrom image opened) where
  all_there : AllByRecursion (IsThere Two opened.slot (shapes_of opened) image) (named_in o.read)
  all_there = all_of_order (IsThere Two opened.slot (shapes_of opened) image) (named_in o.read) (none_missing Two opened.slot (shapes_of opened) image (named_by_grain (named_in o.read)) o.whole)

  shapes_are : drop 0 (shapes_of opened) ≡ shapes_in_turn (types_read o.first o.read.entries)
  shapes_are = ap shapes_in_turn o.programs

  either_slot : opened.slot ≤ 1 → (opened.slot ≡ 0) ⊎ (opened.slot ≡ 1)
  either_slot low = elim (cases_eq opened.slot 0) [
    | inl first ↦ inl first
    | inr later ↦ inr (omega (arith, low, later))
  ]

  a_manager : opened.slot ≤ 1 → IsEitherManager (Manager opened.slot)
  a_manager low = elim (either_slot low) [
    | inl first ↦ inl (ap (λ (slot : ℕ). Manager slot) first)
    | inr other ↦ inr (ap (λ (slot : ℕ). Manager slot) other)
  ]

  there_parts : AllByRecursion (IsThere Two opened.slot (shapes_of opened) image) (named_of_base o.read.base) × AllByRecursion (IsThere Two opened.slot (shapes_of opened) image) (named_by 0 o.read.entries)
  there_parts = parts_of (IsThere Two opened.slot (shapes_of opened) image) (named_of_base o.read.base) (named_by 0 o.read.entries) all_there

  -- a grain whose file has the fault is one that the log names
  refused_grain : (at : FileId) (n : Named) → at ≡ Grain opened.slot n.written.grain → Member n (named_in o.read) → IsRefusedBy Two image (Reads opened.slot o.log) (ending_of (in_folder (FolderFault.Failed at)))
  refused_grain at n is there =
      inr (n.written.grain, is, record { program = o.first; log = o.read; first = o.first_is; then_log = o.read_as; named = in_map opened.slot image (λ (m : Named). m.written.grain) n (named_in o.read) there })

  refused_by : opened.slot ≤ 1 → (e : FolderFault) → IsRereadFault opened.slot o.first image o.read e → IsRefusedBy Two image (Reads opened.slot o.log) (ending_of (in_folder e))
  refused_by low (FolderFault.Damaged at place) (inl here) = absurd (let no : Err place ≡ Ok o.read = sym here ∙ o.read_as in cc no)
  refused_by low (FolderFault.Damaged at place) (inr (inl f)) =
      absurd (none_damaged opened.slot image (shapes_of opened) None 0 (shape_in o.first) o.read.base.writes (item_at 0 (shapes_of opened) (shape_in o.first) (later_shapes o.read.entries) shapes_are).0 there_parts.0 at place f)
  refused_by low (FolderFault.Damaged at place) (inr (inr f)) = absurd (none_broken opened.slot image (shapes_of opened) 0 o.first o.read.entries shapes_are there_parts.1 at place f)
  refused_by low (FolderFault.Failed at) (inl here) = inl (inl (subst IsEitherManager (sym here) (a_manager low)))
  refused_by low (FolderFault.Failed at) (inr (inl f)) =
      refused_grain at (named_at opened.slot image None 0 f.0) f.2
      (in_append (named_at opened.slot image None 0 f.0) (named_of_base o.read.base) (named_by 0 o.read.entries) (inl (in_map opened.slot image (named_at opened.slot image None 0) f.0 o.read.base.writes f.1)))
  refused_by low (FolderFault.Failed at) (inr (inr f)) =
      let t = named_one opened.slot image 0 o.first o.read.entries at f in
      refused_grain at t.0 t.2 (in_append t.0 (named_of_base o.read.base) (named_by 0 o.read.entries) (inr t.1))
  refused_by low FolderFault.Memory f = tt

  pub refused_again : (e : FolderFault) → IsRereadFault opened.slot o.first image o.read e → IsRefusedBy Two image (opened_as image) (ending_of (in_folder e))
  refused_again e f = subst (λ (r : Reading). IsRefusedBy Two image r (ending_of (in_folder e))) (sym o.reads) (refused_by (reads_is_live Two image opened.slot o.log o.reads).slot e f)
