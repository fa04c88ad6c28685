-- How a run goes on behind the opening.
use Rattle.std.specs.Prelude.{◌≡◌, ◌+◌, ℕ, Err}
use Rattle.host_trait.specs.declared.channels.FileId.TheVariants.{Manager}
use Rattle.host_trait.specs.Disk.{settled}
use Rattle.host_trait.specs.World.{World}
use Rattle.silo_spec.specs.OpenedDisks.{opening_syncs, opened_disk, OnlyOpens}
use Rattle.log_reading.specs.Steps.{seen_in}
use Rattle.promise_laws.specs.Closings.{ReadsMayStay}
use Rattle.run_books.specs.declared.faults.RunFault.{RunFault}
use Rattle.run_books.specs.RunCourse.{turns_ending}
use Rattle.promise_spec.specs.Endings.{Ending}
use Rattle.silo_opening.specs.OpenedSilo.{IsOpenedFrom}
use Rattle.silo_opening.specs.declared.opened_silo.Opened.{Opened}

-- The world behind an opening that gave this silo: each manager file of 16 bytes or more was synced once, the live one among them, and
-- beside that there was nothing but asking.
pub record IsBehindOpening (old mid : World) (o : Opened) : Type 0 where
  pub opened : IsOpenedFrom (seen_in old.disk) o
  pub settled : mid.disk (Manager o.slot) ≡ settled (old.disk (Manager o.slot)).seen
  pub count : mid.syncs ≡ old.syncs + opening_syncs (seen_in old.disk)
  pub left : mid.disk ≡ opened_disk old.disk
  pub run : OnlyOpens old mid
  pub stays : ReadsMayStay old

-- how a run in this slot ends whose turns ended by this fault
abbrev pub ending_by_turns : ℕ → RunFault → Ending
ending_by_turns live fault = turns_ending {T = Unit {0}} live (Err fault)
