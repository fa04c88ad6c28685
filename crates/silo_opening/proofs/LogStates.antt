-- What the versions leave, read by grains and carried from the programs of their time, is what the log stands for.
use Rattle.std.proofs.Common.{◌≡◌, ℕ, ◌+◌, Bool, true, false, if◌then◌else◌, Option, Some, None, List, [], ◌∷◌, length, refl, ◌∙◌, ap, arith}
use Rattle.std.specs.Prelude.{unwrap_or, option_map}
use Rattle.base_types.specs.declared.calls.GrainId.{GrainId}
use Rattle.base_types.specs.declared.calls.Value.{Value}
use Rattle.base_types.specs.declared.shapes.Shape.{Shape}
use Rattle.host_trait.specs.Files.{same_grain}
use Rattle.host_trait.specs.World.{Image}
use Rattle.field_codec.specs.declared.formats.Format.{Format}
use Rattle.commit_log.specs.declared.records.Named.{Named}
use Rattle.script_tree.specs.Programs.{ProgramTree}
use Rattle.program_file.specs.Succession.{newest_program, carried_from}
use Rattle.log_reading.specs.Blocks.{ReadEntry, ReadRecord, ReadUpgrade, LogRead, records_read, program_after, types_read, shapes_read}
use Rattle.log_reading.specs.Versions.{named_in, named_by_grain, version_numbered, state_of}
use Rattle.log_reading.specs.Sums.{next_after, state_after}
use Rattle.log_reading.proofs.GrainVersions.{in_any_order}
use Rattle.promise_spec.specs.Programs.{Program, shape_in}
use Rattle.promise_spec.specs.Entries.{Recorded, Upgraded, Standing, initial_states, after_entry, after_entries, standing_of}
use Rattle.promise_spec.specs.Openings.{commit_of, entries_logged, log_of}
use Rattle.upgraded_logs.specs.KeptStates.{NumberedState}
use Rattle.upgraded_logs.proofs.NumberedStates.{numbered, last_numbered, states_meant}

-- a number and a state, as one
to_numbered : ℕ × List Value → NumberedState
to_numbered x = record { number = x.0; state = x.1 }

module _ (format : Format) (live : ℕ) (shapes : List Shape) (image : Image) (g : GrainId) where
  one_step : (b : Bool) (n : Named) (s : Option (ℕ × List Value))
      → option_map to_numbered (if b then Some (n.program, state_of (version_numbered live format shapes image n)) else s) ≡ (if b then Some (numbered format live shapes image n) else option_map to_numbered s)
  unfolding to_numbered
  one_step true n s = refl
  one_step false n s = refl

  -- what is left of a grain is its last version, with the number of its program
  last_is_left : (named : List Named) (s : Option (ℕ × List Value))
      → option_map to_numbered (state_after live format shapes image s named g) ≡ last_numbered format live shapes image (option_map to_numbered s) named g
  last_is_left [] s = refl
  last_is_left (n ∷ named) s =
      last_is_left named (if same_grain n.written.grain g then Some (n.program, state_of (version_numbered live format shapes image n)) else s)
      ∙ ap (λ (t : Option NumberedState). last_numbered format live shapes image t named g) (one_step (same_grain n.written.grain g) n s)

-- the state that one means which was written under the program of a number
abbrev pub carried_pair : List ProgramTree → GrainId → ℕ × List Value → List Value
carried_pair programs g x = carried_from programs x.0 g.kind x.1

both_mapped : (programs : List ProgramTree) (g : GrainId) (o : Option (ℕ × List Value)) (d : List Value)
    → unwrap_or (option_map (carried_pair programs g) o) d ≡ unwrap_or (option_map (λ (n : NumberedState). carried_from programs n.number g.kind n.state) (option_map to_numbered o)) d
unfolding to_numbered
both_mapped programs g None d = refl
both_mapped programs g (Some x) d = refl

-- what is left of a grain means the state for which the log stands
pub counts : (format : Format) (live : ℕ) (p : Program) (image : Image) (l : LogRead) (g : GrainId)
    → unwrap_or (option_map (carried_pair (types_read p l.entries) g) (state_after live format (shapes_read p l) image None (named_by_grain (named_in l)) g)) (initial_states (standing_of (log_of format live p image l)).program g)
    ≡ (standing_of (log_of format live p image l)).states g
counts format live p image l g =
    let programs : List ProgramTree = types_read p l.entries in
    let initial : List Value = initial_states (standing_of (log_of format live p image l)).program g in
    ap (λ (o : Option (ℕ × List Value)). unwrap_or (option_map (carried_pair programs g) o) initial) (in_any_order live format (shapes_read p l) image None (named_in l) g)
    ∙ both_mapped programs g (state_after live format (shapes_read p l) image None (named_in l) g) initial
    ∙ ap (λ (o : Option NumberedState). unwrap_or (option_map (λ (n : NumberedState). carried_from programs n.number g.kind n.state) o) initial) (last_is_left format live (shapes_read p l) image g (named_in l) None)
    ∙ states_meant format live p image l g

-- ---- a standing's other parts

module _ (format : Format) (live : ℕ) (image : Image) where
  pub count_is : (s : Standing) (p : Program) (entries : List ReadEntry) → (after_entries s (entries_logged format live p image entries)).count ≡ s.count + length entries
  count_is s p [] = omega arith
  count_is s p (ReadRecord r ∷ later) = let more = count_is (after_entry s (Recorded (commit_of format live (shape_in p) image r))) p later in omega (arith, more)
  count_is s p (ReadUpgrade q ∷ later) = let more = count_is (after_entry s (Upgraded q)) q later in omega (arith, more)

  pub next_is : (s : Standing) (p : Program) (entries : List ReadEntry) → (after_entries s (entries_logged format live p image entries)).next ≡ next_after s.next (records_read entries)
  next_is s p [] = refl
  next_is s p (ReadRecord r ∷ later) = next_is (after_entry s (Recorded (commit_of format live (shape_in p) image r))) p later
  next_is s p (ReadUpgrade q ∷ later) = next_is (after_entry s (Upgraded q)) q later

  -- the program that is in force behind entries
  pub program_is : (s : Standing) (p : Program) (entries : List ReadEntry) → s.program ≡ p → (after_entries s (entries_logged format live p image entries)).program ≡ program_after p entries
  program_is s p [] same = same
  program_is s p (ReadRecord r ∷ later) same = program_is (after_entry s (Recorded (commit_of format live (shape_in p) image r))) p later same
  program_is s p (ReadUpgrade q ∷ later) same = program_is (after_entry s (Upgraded q)) q later refl

-- is the newest of those that come into force
pub newest_is : (p : Program) (entries : List ReadEntry) → newest_program (types_read p entries) ≡ (program_after p entries).types
newest_is p [] = refl
newest_is p (ReadRecord r ∷ later) = newest_is p later
newest_is p (ReadUpgrade q ∷ later) = newest_is q later
