-- Where a run stands: what a call finds, and what it leaves.
use Rattle.std.specs.Prelude.{ℕ}
use Rattle.host_trait.specs.declared.channels.Channel.{Channel}
use Rattle.host_trait.specs.World.{World}
use Rattle.core_model.specs.LegalRuns.{Run}
pub use Rattle.batch_disk.specs.Writers.{IsSafe, StaysSafe}
use Rattle.settle_loop.specs.declared.settler.Settler.{Settler}

-- what stands beside the core: the settler, the host's counts of faults, and the host's world
pub record Side : Type 0 where
  pub settler : Settler
  pub faults : Channel → ℕ
  pub world : World

-- the core's run, and what stands beside it
pub record Stage : Type 0 where
  pub run : Run
  pub settler : Settler
  pub faults : Channel → ℕ
  pub world : World

-- the stage of these parts
abbrev pub stage_by : Run → Settler → (Channel → ℕ) → World → Stage
stage_by r settler counts now = record { run = r; settler = settler; faults = counts; world = now }

-- what stands beside the core, by its parts
abbrev pub side_by : Settler → (Channel → ℕ) → World → Side
side_by settler counts now = record { settler = settler; faults = counts; world = now }

-- the stage of this run with that beside it
abbrev pub stage_with : Run → Side → Stage
stage_with r side = record { run = r; settler = side.settler; faults = side.faults; world = side.world }

-- what stands beside the core, where a host shows this world and these counts
abbrev pub side_of : {H : Type 0} → (H → World) → (H → Channel → ℕ) → Settler → H → Side
side_of world faults settler host = record { settler = settler; faults = faults host; world = world host }

-- the stage of a run, where a host shows this world and these counts
abbrev pub stage_of : {H : Type 0} → (H → World) → (H → Channel → ℕ) → Run → Settler → H → Stage
stage_of world faults r settler host = record { run = r; settler = settler; faults = faults host; world = world host }
