-- The order clause: the order is the opening log, followed by what the one-thread store gives from there.
use Rattle.std.specs.Prelude.{◌≡◌}
use Rattle.host_trait.specs.World.{Image, IsImage, moment_of, last_of}
use Rattle.promise_spec.specs.SerialExecution.{IsSerial}
use Rattle.promise_spec.specs.Logs.{IsLog}
use Rattle.promise_spec.specs.Programs.{Program}
use Rattle.promise_spec.specs.Moments.{IsLongest}
use Rattle.promise_spec.specs.Courses.{Observed, Course, order, moments, seen_at_entry, program_in_force}
use Rattle.promise_spec.specs.Entries.{standing_of}

-- what the opening log is: at the return of the opening's last sync each image is one of those at entry, and has this
-- log
pub record IsOpened (r : Observed) (c : Course) (image : Image) : Type 0 where
  pub entry : IsImage r.old.disk image
  pub log : IsLog c.live image c.opening

-- The program is that in force at the opening log's end, which is the folder's as its files read at entry. The order is the longest log that an image of any moment
-- has. It is the opening log, followed by records that are serial from the states that the opening log stands for.
pub record IsOrdered (p : Program) (r : Observed) (c : Course) : Type 0 where
  pub in_force : program_in_force c ≡ p
  pub read : IsLog c.live (seen_at_entry r) c.opening
  pub opened : (image : Image) → IsImage (last_of (moment_of r.old) c.early).disk image → IsOpened r c image
  pub longest : IsLongest c.live (moments r c) (order c)
  pub serial : IsSerial p.types (standing_of c.opening).states c.added
