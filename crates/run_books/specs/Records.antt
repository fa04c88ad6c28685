-- The record of a run: what holds where it begins, and again where it ends, however it ends.
use Rattle.std.specs.Prelude.{◌≡◌, ◌<◌, ◌≤◌, ◌+◌, ◌*◌, ℕ, Bool, false, IsTrue, List, [], length, is_some, None, Result, Ok, Err}
use Rattle.base_types.specs.declared.calls.GrainId.{GrainId}
use Rattle.host_trait.specs.declared.channels.Channel.{Channel}
use Rattle.host_trait.specs.declared.channels.Channel.TheVariants.{File, Output}
use Rattle.host_trait.specs.Faults.{Rose}
use Rattle.host_trait.specs.declared.channels.FileId.{FileId}
use Rattle.host_trait.specs.declared.channels.FileId.TheVariants.{Grain, Manager}
use Rattle.host_trait.specs.World.{World, Passes}
use Rattle.core_model.specs.LegalRuns.{Run, ends}
use Rattle.core_model.specs.Settler.{settler_step, Rests}
use Rattle.promise_spec.specs.Programs.{shape_in}
use Rattle.promise_spec.specs.Outputs.{Grew}
use Rattle.promise_spec.specs.Cores.{how_many}
use Rattle.promise_spec.specs.UnitRule.{KeepsUnitRule}
use Rattle.promise_spec.specs.Causes.{AreFaults, RunHasDoubt, NoneRose, is_vote, is_vote_of, is_sealed, is_unsealed}
use Rattle.promise_spec.specs.Journals.{entries_of}
use Rattle.promise_spec.specs.Explanation.{IsUnloaded}
use Rattle.turn_rules.specs.QuietRun.{HasRun}
use Rattle.run_books.specs.declared.faults.RunFault.{RunFault}
use Rattle.run_books.specs.declared.faults.RunFault.TheVariants.{InDoubt, WriteFault, LoadFault, LoadDamaged, Memory}
use Rattle.run_books.specs.Beginnings.{Outset, basis_of}
use Rattle.run_books.specs.Books.{Books, AreBooked, IsPutOut, IsCutOff}
use Rattle.run_books.specs.Images.{LastsSo}
use Rattle.run_books.specs.Places.{KeepsVersions}
use Rattle.run_books.specs.Stages.{Stage}

-- the file is as it was, at each moment and now
pub record KeepsFile (file : FileId) (old now : World) : Type 0 where
  pub moments : Passes (λ m. m.disk file ≡ old.disk file) old.past now.past
  pub now_is : now.disk file ≡ old.disk file

-- Where nothing failed there was one sync for each vote, and two for each batch on disk; and whatever failed no more than one for
-- each vote, and two for each batch that was to be on disk. A grain's file that no event votes on is as it was.
pub record CountsCalls (o : Outset) (r : Run) (faults : Channel → ℕ) (now : World) : Type 0 where
  pub each : NoneRose o.faults faults → now.syncs ≡ o.world.syncs + (how_many is_vote r + 2 * how_many is_sealed r)
  pub most : now.syncs ≤ o.world.syncs + (how_many is_vote r + 2 * (how_many is_sealed r + how_many is_unsealed r))
  pub unvoted : (g : GrainId) → how_many (is_vote_of g) r ≡ 0 → KeepsFile (Grain o.live g) o.world now

-- What a host that tells shows over any folder, sound or not: the output grew by the lines of what is written and a rest of a
-- line, how many syncs were asked, and which files were written.
pub record ShowsOutside (o : Outset) (b : Books) (r : Run) (faults : Channel → ℕ) (now : World) : Type 0 where
  pub output : Grew (shape_in o.program) o.world.output now.output (entries_of b.said) b.rest
  pub calls : CountsCalls o r faults now

-- No more faults show in the events than were counted, and no count fell. The books are those of the core's last state. The
-- settler is in the run's slot, and knows of a doubt, as its writer does, and how many entries are written. Over a host that tells its
-- writer knows where each grain's last version stands, and each load was true.
pub record KeepsBooks (tells : Bool) (o : Outset) (b : Books) (s : Stage) : Type 0 where
  pub faults : AreFaults o.live s.run o.faults s.faults
  pub later : (c : Channel) → o.faults c ≤ s.faults c
  pub booked : AreBooked b (ends s.run)
  pub said : IsPutOut s.settler.quiet b (ends s.run)
  pub cut : IsCutOff (shape_in o.program) b (ends s.run)
  pub slot : s.settler.writer.slot ≡ o.live
  pub doubt : s.settler.doubted ≡ is_some (ends s.run).manager.doubt
  pub unsure : s.settler.writer.in_doubt ≡ s.settler.doubted
  pub written : s.settler.written ≡ (ends s.run).manager.emitted
  pub versions : IsTrue tells → KeepsVersions o b s.run s.settler.writer s.world.disk
  pub outside : IsTrue tells → ShowsOutside o b s.run s.faults s.world

-- Units are numbered from 1 or later. The events keep the unit rule, and the books are kept.
pub record KeepsRecord (tells : Bool) (o : Outset) (b : Books) (s : Stage) : Type 0 where
  pub above : 0 < s.run.base
  pub units : KeepsUnitRule (basis_of o) s.run
  pub books : KeepsBooks tells o b s

-- All is settled and written, each line has its entry, nothing is or was in doubt, no stop stands, and nobody can move: no unit runs or
-- has a lock, and the settler has nothing to do.
pub record HasCarriedAll (o : Outset) (s : Stage) : Type 0 where
  pub run : HasRun (length o.asked) (ends s.run)
  pub none : (ends s.run).manager.doubt ≡ None
  pub never : RunHasDoubt s.run → ⊥
  pub unstopped : (ends s.run).units.halt ≡ false
  pub rests : settler_step (ends s.run) ≡ Rests
  pub written : s.settler.written ≡ (ends s.run).units.lines

-- A batch is in doubt, all that is settled is written, and the manager file's count of faults rose.
pub record HasDoubted (o : Outset) (r : Run) (faults : Channel → ℕ) : Type 0 where
  pub doubt : RunHasDoubt r
  pub written : length (ends r).manager.settled ≤ (ends r).manager.emitted
  pub rose : Rose (o.faults (File (Manager o.live))) (faults (File (Manager o.live)))

-- A grain that was to be brought into memory wasn't, since its file failed; nothing was in doubt.
pub record HasFailedToLoad (o : Outset) (r : Run) (faults : Channel → ℕ) (file : FileId) : Type 0 where
  pub grain : GrainId
  pub file_is : file ≡ Grain o.live grain
  pub unloaded : IsUnloaded r grain
  pub sure : RunHasDoubt r → ⊥
  pub rose : Rose (o.faults (File file)) (faults (File file))

-- No version of a grain stood at its place, where over a host that tells one does; nothing was in doubt.
pub record HasFoundNone (tells : Bool) (r : Run) : Type 0 where
  pub untold : IsTrue tells → ⊥
  pub sure : RunHasDoubt r → ⊥

-- What the answer says. A line is cut off only where the output failed.
abbrev pub TurnsEndAs : Bool → Outset → Books → Stage → {T : Type 0} → Result T RunFault → Type 0
TurnsEndAs tells o b s (Ok done) = HasCarriedAll o s × (b.rest ≡ [])
TurnsEndAs tells o b s (Err InDoubt) = HasDoubted o s.run s.faults × (b.rest ≡ [])
TurnsEndAs tells o b s (Err WriteFault) = Rose (o.faults Output) (s.faults Output)
TurnsEndAs tells o b s (Err (LoadFault file)) = HasFailedToLoad o s.run s.faults file × (b.rest ≡ [])
TurnsEndAs tells o b s (Err (LoadDamaged file place)) = HasFoundNone tells s.run × (b.rest ≡ [])
TurnsEndAs tells o b s (Err Memory) = b.rest ≡ []

-- The record that held where the run began holds again with more in its books, and so does what the images keep, if they
-- kept it; and the answer says how it ended.
pub record RecordGoesOn {T : Type 0} (tells : Bool) (o : Outset) (b : Books) (before after : Stage) (result : Result T RunFault) : Type 0 where
  pub books : Books
  pub record_kept : KeepsRecord tells o books after
  pub lasts : IsTrue tells → (head : List ℕ) → LastsSo o head b before.run before.settler.writer before.world
      → LastsSo o head books after.run after.settler.writer after.world
  pub ended : TurnsEndAs tells o books after result
