-- The texts of the reports, from what was opened and read again.
use Rattle.std.proofs.Common.{◌≡◌, ℕ, List, [], ◌∷◌, ◌++◌, refl, sym, ◌∙◌, ap}
use Rattle.std.specs.Prelude.{zip}
use Rattle.std.specs.List.{flat_map, list_any}
use Rattle.base_types.specs.declared.calls.GrainId.{GrainId}
use Rattle.base_types.specs.declared.stores.Store.{Store}
use Rattle.base_types.specs.Grains.{same_grain}
use Rattle.host_trait.specs.World.{Image}
use Rattle.field_codec.specs.declared.formats.Format.TheVariants.{Two}
use Rattle.log_reading.specs.Versions.{ascending}
use Rattle.script_meaning.specs.Play.{found_in}
use Rattle.silo_opening.specs.OpenedSilo.{program_in, AreStates, IsOpenedFrom}
use Rattle.silo_opening.specs.declared.opened_silo.Opened.{Opened}
use Rattle.promise_spec.specs.Programs.{Program, shape_in}
use Rattle.promise_spec.specs.Records.{Commit}
use Rattle.promise_spec.specs.Entries.{Recorded, Upgraded, Standing, Log, after_entry, standing_of}
use Rattle.promise_spec.specs.Openings.{ReadEntry, ReadRecord, ReadUpgrade, commit_of, entries_logged, log_of}
use Rattle.promise_spec.specs.Reports.{line_of, AreHeld, grain_line, show_text, record_line, upgrade_line, entries_text, history_text}
use Rattle.log_audit.specs.Lines.{grain_data, grain_lines, count_data, entry_lines}
use Rattle.log_audit.specs.WrittenGrains.{grains_of_log, grains_added}
use Rattle.log_audit.proofs.GrainOrder.{are_ascending, ascending_twice, any_ascending}
use Rattle.log_audit.proofs.HeldGrains.{held_of_log}

-- the text of entries that are read is that of the log's
pub history_same : (live : ℕ) (p : Program) (image : Image) (before : Standing) → before.program ≡ p → (sessions : List ℕ) (entries : List ReadEntry)
    → entries_text before (zip sessions (entries_logged Two live p image entries)) ≡ entry_lines p (zip sessions entries)
history_same live p image before is [] entries = refl
history_same live p image before is (session ∷ sessions) [] = refl
history_same live p image before is (session ∷ sessions) (ReadRecord r ∷ entries) =
    let one : Commit = commit_of Two live (shape_in p) image r in
    let later = history_same live p image (after_entry before (Recorded one)) is sessions entries in
    λ i. record_line (is i) session one ++ later i
history_same live p image before is (session ∷ sessions) (ReadUpgrade q ∷ entries) =
    ap (λ (l : List ℕ). upgrade_line session q ++ l) (history_same live q image (after_entry before (Upgraded q)) refl sessions entries)

module _ (image : Image) (o : Opened) (is : IsOpenedFrom image o) where
  -- the program in force
  abbrev p : Program
  p = program_in o

  pub history_opened : (sessions : List ℕ) → history_text sessions is.log ≡ entry_lines is.first (zip sessions is.read.entries)
  history_opened sessions = ap (history_text sessions) is.log_is ∙ history_same o.slot is.first image (log_of Two o.slot is.first image is.read).base refl sessions is.read.entries

  -- each grain has the state that it has in a store of the log's states
  module _ (store : Store) (are : AreStates p store is.log) where
    line_same : (g : GrainId) → grain_line (standing_of is.log) g ≡ line_of (grain_data (shape_in p) p.types g (found_in p.types store g))
    line_same g =
        let state : (standing_of is.log).states g ≡ found_in p.types store g = sym (are g) in
        λ i. line_of (grain_data (shape_in (is.program i)) (is.program i).types g (state i))

    pub show_opened : (kept : List GrainId) → show_text kept is.log ≡ grain_lines (shape_in p) p.types store kept ++ line_of (count_data o.count)
    show_opened kept =
        let count : (standing_of is.log).count ≡ o.count = sym is.count in
        λ i. flat_map (λ g. line_same g i) kept ++ line_of (count_data (count i))

  -- the grains that the log names, ascending
  abbrev pub named_grains : List GrainId
  named_grains = grains_added [] (grains_of_log is.read)

  -- the grains that the log names are those that have a state in the store
  pub grains_held : (kept : List GrainId) → kept ≡ grains_added [] (grains_of_log is.read) → AreHeld kept (standing_of is.log)
  grains_held kept are =
      let up : kept ≡ ascending (grains_of_log is.read) = are ∙ are_ascending (grains_of_log is.read) in
      record {
        order = ap ascending up ∙ ascending_twice (grains_of_log is.read) ∙ sym up;
        held = λ grain. ap (λ (l : List GrainId). list_any (λ g. same_grain g grain) l) up ∙ any_ascending grain (grains_of_log is.read) ∙ held_of_log grain o.slot image is.first is.read ∙ ap (λ (l : Log). (standing_of l).held grain) (sym is.log_is);
      }

  pub held_names : AreHeld named_grains (standing_of is.log)
  held_names = grains_held named_grains refl
