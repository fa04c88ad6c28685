-- The files of the other slot once they are copied in format 2: with its header gate open it has the very same log.
use Rattle.std.proofs.Common.{◌≡◌, inl, inr, ℕ, ◌+◌, ◌-◌, ◌<◌, ◌≤◌, ◌^◌, nat_lt, ◌||◌, Bool, true, List, [], ◌∷◌, ◌++◌, length, take, drop, slice_index, None, Some, Ok, refl, sym, ◌∙◌, ap, subst, arith}
use Rattle.std.specs.Prelude.{Option, Result, Err, is_some, unwrap_or, if◌then◌else◌}
use Rattle.std.specs.Int.{w32, to_le_bytes, from_le_bytes}
use Rattle.std.specs.List.{list_any, AllByRecursion}
use Rattle.std.specs.Option.{option_flatten}
use Rattle.std.specs.Ordering.{eq_by_cmp}
use Rattle.std.specs.Set.{is_member}
use Rattle.std.proofs.lemmas.Bool.{cases_Bool}
use Rattle.base_types.specs.declared.calls.GrainId.{GrainId}
use Rattle.base_types.specs.declared.places.Placed.{Placed}
use Rattle.base_types.specs.Places.{placed_in}
use Rattle.base_types.specs.Stores.{grain_cmp, end_in}
use Rattle.host_trait.specs.declared.channels.FileId.TheVariants.{Manager, Program as ProgramFile, Grain}
use Rattle.host_trait.specs.Disk.{FileState, Tears, overlaid, settled}
use Rattle.host_trait.specs.Files.{same_grain}
use Rattle.host_trait.specs.World.{World, Image, IsImage, with_bytes}
use Rattle.host_trait.specs.Runs.{RunsOnFile}
use Rattle.host_trait.proofs.Runs.{Change, settled_image, with_bytes-there, with_bytes-other}
use Rattle.field_codec.specs.declared.formats.Format.{Format}
use Rattle.field_codec.specs.declared.formats.Format.TheVariants.{One, Two}
use Rattle.gate_block.specs.Blocks.{shut, found_at}
use Rattle.gate_block.specs.Log.{open_blocks, gate_of, IsWhole}
use Rattle.gate_block.proofs.Logs.{closed_shut}
use Rattle.commit_log.specs.declared.records.Named.{Named}
use Rattle.log_reading.specs.Blocks.{log_in_file}
use Rattle.log_reading.specs.Steps.{seen_in}
use Rattle.log_reading.specs.Sums.{placed_as, placed_after, greater_end, end_after}
use Rattle.log_reading.specs.Versions.{named_in, named_by_grain, version_numbered, version_found}
use Rattle.log_reading.proofs.PlacedVersions.{same_by_order}
use Rattle.script_tree.specs.Programs.{ProgramTree}
use Rattle.program_file.specs.declared.faults.ProgramFault.{ProgramFault}
use Rattle.program_file.specs.Succession.{shapes_in_turn}
use Rattle.program_file.specs.Files.{text_in_file, with_types, program_in_file}
use Rattle.program_file.specs.Programs.{Program, text_limit, program_in}
use Rattle.silo_opening.specs.declared.opened_silo.Opened.{Opened}
use Rattle.silo_opening.specs.OpenedSilo.{programs_of, IsOpenedIn}
use Rattle.silo_spec.specs.Silos.{HasProgram}
use Rattle.silo_spec.specs.OtherSlot.{IsShutFile}
use Rattle.silo_spec.specs.Slots.{generation, ShowsSilos}
use Rattle.promise_spec.specs.Entries.{Log}
use Rattle.promise_spec.specs.Logs.{IsMagic, IsLogIn}
use Rattle.promise_spec.specs.EitherSlot.{IsCompactable, IsReadyToOpen}
use Rattle.promise_spec.proofs.Slots.{other_slot}
use Rattle.promise_laws.specs.MigratedFiles.{migrated_in, migrated_file}
use Rattle.promise_laws.proofs.MigratedLogs.{migrated_log, generation_is}
use Rattle.checkpoint.specs.declared.migration.OldSilo.{OldSilo}
use Rattle.checkpoint.specs.Steps.{KeepsGate, ClosesGate, OnlyCopies}
use Rattle.checkpoint.specs.ManagerBytes.{behind_gate}
use Rattle.checkpoint.specs.CopiedProgram.{HasCopiedText}
use Rattle.checkpoint.specs.CopiedFiles.{IsCopyOf, IsCopiedFile}
use Rattle.checkpoint.specs.MigratedBlocks.{HasMigrated}
use Rattle.checkpoint.specs.NextGeneration.{HasGone, HasNextSilo}
use Rattle.checkpoint.specs.Migration.{IsOldOf, CanBeCopied, IsCopiedFrom}
use Rattle.checkpoint.proofs.Checkpoints.{opened_bytes}
use Rattle.checkpoint.proofs.Filled.{has_program, generation_behind}
use Rattle.checkpoint.proofs.Moments.{long_written}
use Rattle.checkpoint.proofs.Fillings.{closes_others, grains_kept, first_gone, second_filled, third_filled, fourth_filled, fifth_gone, fifth_done, some_there}

-- ---- the text of a program file

text_typed : (text : List ℕ) (r : Result ProgramTree ProgramFault) (p : Program) → with_types text r ≡ Ok p → text ≡ p.text
text_typed text (Ok types) p e = (let same : record { text = text; types = types } ≡ p = cc e in ap (λ (q : Program). q.text) same)
text_typed text (Err fault) p e = absurd cc

-- it is that of the program that is read of the file
pub text_of : (file : List ℕ) (p : Program) → program_in_file file ≡ Ok p → text_in_file file ≡ Ok p.text
text_of file p e = elim (cases_Bool (nat_lt (length file) 4)) [
  | inl short ↦ absurd (let wrong = rw short at e in cc)
  | inr long ↦
      let e1 = rw long at e in
      elim (cases_Bool (nat_lt text_limit (from_le_bytes w32 (take 4 file)))) [
        | inl large ↦ absurd (let wrong = rw large at e1 in cc)
        | inr small ↦
            let e2 = rw small at e1 in
            elim (cases_Bool (nat_lt (length file) (4 + from_le_bytes w32 (take 4 file)))) [
              | inl cut ↦ absurd (let wrong = rw cut at e2 in cc)
              | inr fits ↦
                  let e3 = rw fits at e2 in
                  let text : List ℕ = take (from_le_bytes w32 (take 4 file)) (drop 4 file) in
                  rw (long, small, fits) (ap (λ (l : List ℕ). Ok l) (text_typed text (program_in text) p e3))
            ]
      ]
]

pub one_text : (file text : List ℕ) (p : Program) → program_in_file file ≡ Ok p → text_in_file file ≡ Ok text → text ≡ p.text
one_text file text p e is = (let both : Ok text ≡ Ok p.text = sym is ∙ text_of file p e in cc both)

-- ---- the grains that have an end

-- each grain of a list has what all of them have
pub among_all : (P : GrainId → Type 0) (grains : List GrainId) (grain : GrainId) → AllByRecursion P grains → is_member (eq_by_cmp grain_cmp) grains grain ≡ true → P grain
among_all P [] grain all e = absurd cc
among_all P (g ∷ grains) grain all e = elim (cases_Bool (eq_by_cmp grain_cmp grain g)) [
  | inl is ↦ subst P (sym (same_by_order grain g is)) all.0
  | inr is ↦ among_all P grains grain all.1 (sym (ap (λ (b : Bool). b || list_any (eq_by_cmp grain_cmp grain) grains) is) ∙ e)
]

-- a grain that has an end has a place
placed_with : (live : ℕ) (format : Format) (programs : List ProgramTree) (image : Image) (named : List Named) (grain : GrainId) (end : Option ℕ) (placed : Option Placed) → (is_some end ≡ true → is_some placed ≡ true)
    → is_some (end_after end named grain) ≡ true → is_some (placed_after live format programs image placed named grain) ≡ true
placed_with live format programs image [] grain end placed so_far e = so_far e
placed_with live format programs image (n ∷ named) grain end placed so_far e =
    let here : Placed = placed_as programs n.written.grain n.written.place n.program (version_found (version_numbered live format (shapes_in_turn programs) image n)) in
    let later : ℕ = n.written.place.offset + n.written.place.len in
    elim (cases_Bool (same_grain n.written.grain grain)) [
      | inl is ↦
          ap (λ (b : Bool). is_some (placed_after live format programs image (if b then Some here else placed) named grain)) is
          ∙ placed_with live format programs image named grain (greater_end end later) (Some here) (λ any. refl)
          (sym (ap (λ (b : Bool). is_some (end_after (if b then greater_end end later else end) named grain)) is) ∙ e)
      | inr is ↦
          ap (λ (b : Bool). is_some (placed_after live format programs image (if b then Some here else placed) named grain)) is
          ∙ placed_with live format programs image named grain end placed so_far
          (sym (ap (λ (b : Bool). is_some (end_after (if b then greater_end end later else end) named grain)) is) ∙ e)
    ]

seat_of_value : (o : Option (Option Placed)) → is_some (option_flatten o) ≡ true → is_some o ≡ true
seat_of_value None e = absurd cc
seat_of_value (Some p) e = refl

-- ---- what an opened silo gives

module _ (o : Opened) (silo : OldSilo) (is : IsOldOf o silo) (w : World) (opened : IsOpenedIn One (seen_in w.disk) o) where
  ends_same : (grain : GrainId) → end_in silo.ends grain ≡ end_in o.ends grain
  ends_same grain = (λ i. end_in (is.ends i) grain)

  listed : (grain : GrainId) (end : ℕ) → end_in silo.ends grain ≡ Some end → is_member (eq_by_cmp grain_cmp) silo.grains grain ≡ true
  listed grain end ends =
      let there : is_some (end_after None (named_by_grain (named_in opened.read)) grain) ≡ true = ap is_some (sym (opened.ends grain) ∙ sym (ends_same grain) ∙ ends) in
      let placed : is_some (placed_in o.places grain) ≡ true =
      ap is_some (opened.places grain) ∙ placed_with o.slot One (programs_of o) (seen_in w.disk) (named_by_grain (named_in opened.read)) grain None None (λ none. absurd (cc none)) there in
      is.grains grain ∙ seat_of_value _ placed

  pub copied_from : generation (seen_in w.disk (Manager o.slot)) ≡ o.generation → IsCopiedFrom silo w
  copied_from so =
      let slot : o.slot ≡ silo.live = sym is.live in
      record {
        program = opened.first;
        first = subst (λ (n : ℕ). program_in_file (seen_in w.disk (ProgramFile n)) ≡ Ok opened.first) slot opened.first_is;
        read = opened.read;
        read_as = subst (λ (n : ℕ). log_in_file One opened.first (seen_in w.disk (Manager n)) ≡ Ok opened.read) slot opened.read_as;
        ends = λ grain. ends_same grain ∙ opened.ends grain;
        listed = listed;
        generation_is = is.generation_is ∙ ap (λ (n : ℕ). n + 1) (sym so) ∙ ap (λ (n : ℕ). generation (seen_in w.disk (Manager n)) + 1) slot;
      }

  pub can_be_copied : CanBeCopied silo w
  can_be_copied =
      let slot : o.slot ≡ silo.live = sym is.live in
      let file : List ℕ = seen_in w.disk (Manager o.slot) in
      let closed : found_at (gate_of file) file ≡ shut = ap (λ (n : ℕ). found_at n file) opened.gate ∙ closed_shut o.gate_at file opened.closed.1 in
      record {
        program = opened.first;
        first = subst (λ (n : ℕ). program_in_file (seen_in w.disk (ProgramFile n)) ≡ Ok opened.first) slot opened.first_is;
        whole = subst (λ (n : ℕ). IsWhole (seen_in w.disk (Manager n))) slot closed;
        within = λ grain end ends. subst (λ (n : ℕ). end ≤ length (w.disk (Grain n grain)).seen) slot (opened.within grain end (sym (ends_same grain) ∙ ends));
      }

-- ---- files of the live slot stay

pub live_program : (live : ℕ) (w0 w1 : World) → live ≤ 1 → ClosesGate (1 - live) w0 w1 → w1.disk (ProgramFile live) ≡ w0.disk (ProgramFile live)
live_program live w0 w1 low closes = closes_others (1 - live) w0 w1 closes (ProgramFile live) (λ e. absurd cc)

pub live_grain : (live : ℕ) (w0 w1 w2 : World) (R : Change) (most : ℕ) → live ≤ 1 → ClosesGate (1 - live) w0 w1 → RunsOnFile (ProgramFile (1 - live)) R most w1 w2 → (grain : GrainId) → w2.disk (Grain live grain) ≡ w0.disk (Grain live grain)
live_grain live w0 w1 w2 R most low closes program grain = grains_kept live R most w0 w1 w2 closes program live grain

pub live_manager : (live : ℕ) (w0 w1 w2 w3 : World) (R : Change) (most : ℕ) → live ≤ 1 → ClosesGate (1 - live) w0 w1 → RunsOnFile (ProgramFile (1 - live)) R most w1 w2 → OnlyCopies (1 - live) w2 w3 → w3.disk (Manager live) ≡ w0.disk (Manager live)
live_manager live w0 w1 w2 w3 R most low closes program copies =
    copies.now.others (Manager live) (λ grain e. absurd cc) ∙ program.now.others (Manager live) (λ e. absurd cc) ∙ closes_others (1 - live) w0 w1 closes (Manager live) (other_slot live low)

-- ---- the files that were copied

module _ (silo : OldSilo) (log : Log) (w0 w1 w2 : World) (can : IsCompactable One silo.live log w0) (shown : ShowsSilos IsMagic w0.disk) (closes : ClosesGate (1 - silo.live) w0 w1)
    (closed : IsShutFile (w1.disk (Manager (1 - silo.live)))) (R : Change) (most : ℕ) (program : RunsOnFile (ProgramFile (1 - silo.live)) R most w1 w2) (w3 : World) (copies : OnlyCopies (1 - silo.live) w2 w3)
    (w4 : World) (most_blocks : ℕ) (run : RunsOnFile (Manager (1 - silo.live)) KeepsGate most_blocks w3 w4) (made : IsCopiedFrom silo w0) (low : silo.generation < 2 ^ 32) (text : HasCopiedText silo.live w1.disk w2.disk)
    (copied : AllByRecursion (IsCopiedFile silo.live silo.ends w2.disk w3.disk) silo.grains)
    (migrated : HasMigrated silo.generation (w3.disk (Manager silo.live)).seen (w3.disk (Manager (1 - silo.live))) (w4.disk (Manager (1 - silo.live)))) where
  abbrev old : Image
  old = seen_in w0.disk

  abbrev there : ℕ
  there = 1 - silo.live

  some : 0 < length (w3.disk (Manager there)).seen
  some = some_there One silo.live log log w0 w1 w2 can shown closes closed R most program w3 copies

  -- the live slot's files are as they were
  program_kept : w1.disk (ProgramFile silo.live) ≡ w0.disk (ProgramFile silo.live)
  program_kept = (first_gone One silo.live log log w0 w1 w2 can shown closes).now.kept (ProgramFile silo.live) refl

  grain_kept : (grain : GrainId) → w2.disk (Grain silo.live grain) ≡ w0.disk (Grain silo.live grain)
  grain_kept grain = (second_filled One silo.live log log w0 w1 w2 can shown closes closed R most program).fills.kept (Grain silo.live grain) refl

  manager_kept : w3.disk (Manager silo.live) ≡ w0.disk (Manager silo.live)
  manager_kept = (third_filled One silo.live log log w0 w1 w2 can shown closes closed R most program w3 copies).fills.kept (Manager silo.live) refl

  -- the manager file, behind its gate
  manager_file : w4.disk (Manager there) ≡ settled (overlaid (w3.disk (Manager there)).seen 1 (behind_gate silo.generation (slice_index (old (Manager silo.live)) 13) ++ (open_blocks (migrated_in (old (Manager silo.live))) ++ 0 ∷ [])))
  manager_file =
      migrated ∙ ap (λ (s : FileState). settled (overlaid (w3.disk (Manager there)).seen 1 (behind_gate silo.generation (slice_index s.seen 13) ++ (open_blocks (migrated_in s.seen) ++ 0 ∷ [])))) manager_kept

  -- the program's file, with the text of the first program
  program_file : w4.disk (ProgramFile there) ≡ settled (overlaid (w1.disk (ProgramFile there)).seen 0 (to_le_bytes w32 (length made.program.text) ++ made.program.text))
  program_file =
      let same : text.text ≡ made.program.text =
      one_text (old (ProgramFile silo.live)) text.text made.program made.first (sym (ap (λ (s : FileState). text_in_file s.seen) program_kept) ∙ text.from) in
      run.now.others (ProgramFile there) (λ e. absurd cc) ∙ copies.now.others (ProgramFile there) (λ grain e. absurd cc) ∙ text.to
      ∙ ap (λ (t : List ℕ). settled (overlaid (w1.disk (ProgramFile there)).seen 0 (to_le_bytes w32 (length t) ++ t))) same

  -- the grains' files, up to their ends
  grain_file : (grain : GrainId) (end : ℕ) → end_in silo.ends grain ≡ Some end → IsCopyOf end (old (Grain silo.live grain)) (w4.disk (Grain there grain))
  grain_file grain end ends =
      let one : IsCopyOf end (w2.disk (Grain silo.live grain)).seen (w3.disk (Grain there grain)) =
      among_all (IsCopiedFile silo.live silo.ends w2.disk w3.disk) silo.grains grain copied (made.listed grain end ends) end ends in
      let here : IsCopyOf end (w2.disk (Grain silo.live grain)).seen (w4.disk (Grain there grain)) =
      subst (IsCopyOf end (w2.disk (Grain silo.live grain)).seen) (sym (run.now.others (Grain there grain) (λ e. absurd cc))) one in
      subst (λ (s : FileState). IsCopyOf end s.seen (w4.disk (Grain there grain))) (grain_kept grain) here

  module _ (image : Image) (is : IsImage w4.disk image) where
    abbrev opened : Image
    opened = with_bytes image (Manager there) (1 ∷ drop 1 (image (Manager there)))

    manager_is : image (Manager there) ≡ overlaid (w3.disk (Manager there)).seen 1 (behind_gate silo.generation (slice_index (old (Manager silo.live)) 13) ++ (open_blocks (migrated_in (old (Manager silo.live))) ++ 0 ∷ []))
    manager_is =
        settled_image w4.disk (Manager there) (overlaid (w3.disk (Manager there)).seen 1 (behind_gate silo.generation (slice_index (old (Manager silo.live)) 13) ++ (open_blocks (migrated_in (old (Manager silo.live))) ++ 0 ∷ [])))
        (image (Manager there)) manager_file (is (Manager there))

    file_is : (rest : List ℕ) × (1 ∷ drop 1 (image (Manager there)) ≡ migrated_file silo.generation (old (Manager silo.live)) rest)
    file_is =
        let t = opened_bytes silo.generation (slice_index (old (Manager silo.live)) 13) (migrated_in (old (Manager silo.live))) (w3.disk (Manager there)).seen some in
        (t.0, ap (λ (l : List ℕ). 1 ∷ drop 1 l) manager_is ∙ t.1)

    risen : generation (image (Manager there)) ≡ silo.generation
    risen = sym (generation_behind (image (Manager there))) ∙ ap generation file_is.1 ∙ generation_is silo.generation (old (Manager silo.live)) file_is.0 low

    text_is : HasProgram made.program.text (opened (ProgramFile there))
    text_is =
        let bytes : List ℕ = overlaid (w1.disk (ProgramFile there)).seen 0 (to_le_bytes w32 (length made.program.text) ++ made.program.text) in
        let here : opened (ProgramFile there) ≡ bytes =
        with_bytes-other image (Manager there) (1 ∷ drop 1 (image (Manager there))) (ProgramFile there) (λ e. absurd cc) ∙ settled_image w4.disk (ProgramFile there) bytes (image (ProgramFile there)) program_file (is (ProgramFile there)) in
        subst (HasProgram made.program.text) (sym here) (has_program made.program.text (w1.disk (ProgramFile there)).seen)

    begins_alike : (grain : GrainId) (end : Option ℕ) → end_in silo.ends grain ≡ end → take (unwrap_or end 0) (opened (Grain there grain)) ≡ take (unwrap_or end 0) (old (Grain silo.live grain))
    begins_alike grain None ends = refl
    begins_alike grain (Some end) ends =
        let copy = grain_file grain end ends in
        let here : opened (Grain there grain) ≡ (w4.disk (Grain there grain)).seen =
        with_bytes-other image (Manager there) (1 ∷ drop 1 (image (Manager there))) (Grain there grain) (λ e. absurd cc)
        ∙ settled_image w4.disk (Grain there grain) (w4.disk (Grain there grain)).seen (image (Grain there grain)) copy.lasts (is (Grain there grain)) in
        ap (λ (l : List ℕ). take end l) here ∙ copy.begins.same

    whole : IsLogIn Two there opened log
    whole =
        migrated_log silo.live old log (can.logged old can.seen).is there opened made.program made.read silo.generation file_is.0 made.first made.read_as text_is
        (λ grain. subst (λ (end : Option ℕ). take (unwrap_or end 0) (opened (Grain there grain)) ≡ take (unwrap_or end 0) (old (Grain silo.live grain))) (made.ends grain) (begins_alike grain (end_in silo.ends grain) refl))
        (with_bytes-there image (Manager there) (1 ∷ drop 1 (image (Manager there))) ∙ file_is.1)

    some_left : 0 < length (image (Manager there))
    some_left = subst (λ (l : List ℕ). 0 < length l) (sym manager_is) (omega (arith, long_written silo.generation (slice_index (old (Manager silo.live)) 13) (open_blocks (migrated_in (old (Manager silo.live)))) (w3.disk (Manager there)).seen some))

  all_ready : IsReadyToOpen Two silo.live log w0 w4
  all_ready = record {
    filling = (fourth_filled One silo.live log log w0 w1 w2 can shown closes closed R most program w3 copies w4 most_blocks run).fills;
    some = λ image is. some_left image is;
    risen = λ image is. risen image is ∙ made.generation_is;
    whole = λ image is. whole image is;
  }

  long : 16 ≤ length (w4.disk (Manager there)).seen
  long =
      subst (λ (f : FileState). 16 ≤ length f.seen) (sym manager_file)
      (long_written silo.generation (slice_index (old (Manager silo.live)) 13) (open_blocks (migrated_in (old (Manager silo.live)))) (w3.disk (Manager there)).seen some)

  module _ (w5 : World) (opening : RunsOnFile (Manager there) (Tears 0 1) 1 w4 w5) where
    pub copied_gone : HasGone One silo.live log log w0 w5
    copied_gone = fifth_gone One silo.live log log w0 w1 w2 can shown closes closed R most program w3 copies w4 most_blocks run all_ready w5 opening long

    pub copied_done : w5.disk (Manager there) ≡ settled (overlaid (w4.disk (Manager there)).seen 0 (1 ∷ [])) → HasNextSilo silo.live silo.generation log w5.disk
    copied_done done image is =
        let t = fifth_done One silo.live log log w0 w1 w2 can shown closes closed R most program w3 copies w4 most_blocks run all_ready w5 opening done image is in
        (t.0, t.1 ∙ sym made.generation_is)
