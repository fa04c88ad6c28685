-- What a step of the settler, a load, or an event of others, leaves of a run's books.
use Rattle.std.specs.Prelude.{◌≡◌, ◌≤◌, ◌<◌, ◌-◌, ◌^◌, ℕ, Bool, true, false, IsTrue, List, [], length, take, Result, Ok, Err, ⊤}
use Rattle.std.specs.List.{AllByRecursion}
use Rattle.base_types.specs.declared.shapes.Shape.{Shape}
use Rattle.host_trait.specs.declared.channels.Channel.TheVariants.{Output}
use Rattle.host_trait.specs.Faults.{Rose}
use Rattle.core_model.specs.CoreState.{CoreState}
use Rattle.core_model.specs.LegalRuns.{Run, ends}
use Rattle.core_model.specs.Settler.{Step, settler_step, Rests}
use Rattle.script_check.specs.AcceptedPrograms.{IsAcceptedProgram}
use Rattle.promise_spec.specs.Programs.{shape_in}
use Rattle.promise_spec.specs.UnitRule.{KeepsUnitRule}
use Rattle.promise_spec.specs.Journals.{entries_of}
use Rattle.settle_loop.specs.SettlerStep.{wanted_step}
use Rattle.settle_loop.specs.declared.settler.Turned.{Turned}
use Rattle.settle_loop.specs.declared.settler.Turned.TheVariants.{Stepped, Nothing, Stop}
use Rattle.settle_loop.specs.declared.settler.StopCause.TheVariants.{InDoubt, WriteFault, LoadFault, LoadDamaged}
use Rattle.run_books.specs.Beginnings.{Outset, basis_of}
use Rattle.run_books.specs.Books.{Books}
use Rattle.run_books.specs.Images.{LastsSo}
use Rattle.run_books.specs.Records.{KeepsBooks, HasDoubted, HasFailedToLoad, HasFoundNone}
use Rattle.run_books.specs.Stages.{Stage}

-- what was put out is what the core was told of
abbrev pub IsAsTold : Bool → Books → CoreState → Type 0
IsAsTold true b w = ⊤
IsAsTold false b w = entries_of b.said ≡ take w.manager.emitted w.manager.settled

-- No line is cut off, and what was put out is what the core was told of. What isn't, where it will be, is settled entry by entry.
-- So the next entry is that which comes next.
pub record AreEven (quiet : Bool) (b : Books) (w : CoreState) : Type 0 where
  pub rest : b.rest ≡ []
  pub told : IsAsTold quiet b w
  pub single : quiet ≡ false → AllByRecursion (λ s. length s.entries ≤ 1) b.unsaid

-- What is known of a run where its settler goes on: its units are numbered from 1 or later and keep the unit rule, the program is
-- a checked one with this shape, numbers and counts have room, and the run isn't stopped.
pub record CanSettle (o : Outset) (shape : Shape) (r : Run) : Type 0 where
  pub above : 0 < r.base
  pub units : KeepsUnitRule (basis_of o) r
  pub kinds : r.kinds ≡ length o.program.types
  pub shape_is : shape ≡ shape_in o.program
  pub accepted : IsAcceptedProgram o.program.types
  pub numbers : (ends r).units.next ≤ 2 ^ 63
  pub room : (ends r).manager.emitted < 2 ^ 64 - 1
  pub unstopped : (ends r).units.halt ≡ false

-- what the answer says of the run, where each step is the one that this makes of the core's state
abbrev pub SaysBy : Bool → (CoreState → Step) → Outset → Books → Stage → {E : Type 0} → Result Turned E → Type 0
SaysBy tells next o b s (Ok Stepped) = AreEven s.settler.quiet b (ends s.run)
SaysBy tells next o b s (Ok Nothing) = AreEven s.settler.quiet b (ends s.run) × (next (ends s.run) ≡ Rests)
SaysBy tells next o b s (Ok (Stop InDoubt)) = HasDoubted o s.run s.faults × (b.rest ≡ [])
SaysBy tells next o b s (Ok (Stop WriteFault)) = Rose (o.faults Output) (s.faults Output)
SaysBy tells next o b s (Ok (Stop (LoadFault file))) = HasFailedToLoad o s.run s.faults file × (b.rest ≡ [])
SaysBy tells next o b s (Ok (Stop (LoadDamaged file place))) = HasFoundNone tells s.run × (b.rest ≡ [])
SaysBy tells next o b s (Err lack) = b.rest ≡ []

-- so the answer of a step says
abbrev pub SaysOfStep : Bool → Outset → Books → Stage → {E : Type 0} → Result Turned E → Type 0
SaysOfStep tells o b s result = SaysBy tells settler_step o b s result

-- and that of a load
abbrev pub SaysOfLoad : Bool → Outset → Books → Stage → {E : Type 0} → Result Turned E → Type 0
SaysOfLoad tells o b s result = SaysBy tells wanted_step o b s result

-- The books that were kept are kept again, with more in them, and so is what the images keep, if they kept it.
pub record BooksGoOn (tells : Bool) (o : Outset) (b : Books) (before after : Stage) : Type 0 where
  pub books : Books
  pub kept : KeepsBooks tells o books after
  pub lasts : IsTrue tells → (head : List ℕ) → LastsSo o head b before.run before.settler.writer before.world
      → LastsSo o head books after.run after.settler.writer after.world
