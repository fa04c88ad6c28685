-- A run that goes on behind `open_silo`.
use Rattle.std.specs.Prelude.{◌≡◌, ℕ, ◌++◌}
use Rattle.host_trait.specs.World as host
use Rattle.host_trait.specs.World.{Image}
use Rattle.silo_spec.specs.OpenedDisks.{opened_disk, OnlyOpens}
use Rattle.script_tree.specs.Programs.{program_tree}
use Rattle.promise_spec.specs.Programs.{Program}
use Rattle.promise_spec.specs.Entries.{Log}
use Rattle.promise_spec.specs.Courses.{Observed, Course}
use Rattle.silo_opening.specs.OpenedSilo.{IsOpenedFrom}
use Rattle.silo_opening.specs.declared.opened_silo.Opened.{Opened}

-- the program of an opened silo
abbrev pub program_of : {image : Image} {o : Opened} → IsOpenedFrom image o → Program
program_of {image} {o} is = record { text = o.text; types = program_tree o.checked }

-- The course begins with the log that was opened, in the slot that was. Its early moments are those of the opening, which ends in
-- the world `mid` as `open_silo` ensures, and the late ones come behind it.
pub record FollowsOpening (r : Observed) (c : Course) (mid : host.World) (slot : ℕ) (log : Log) : Type 0 where
  pub live : c.live ≡ slot
  pub opening : c.opening ≡ log
  pub run : OnlyOpens r.old mid
  pub left : mid.disk ≡ opened_disk r.old.disk
  pub early : mid.past ≡ r.old.past ++ c.early
  pub late : r.new.past ≡ mid.past ++ c.late
