-- What a run leaves beside its record.
use Rattle.std.specs.Prelude.{◌≡◌, ℕ, Bool, true, IsTrue, List, ◌++◌, Result, Ok, Err, ⊤}
use Rattle.host_trait.specs.declared.channels.Channel.TheVariants.{Input, Output}
use Rattle.host_trait.specs.World.{World, Moment, Passes}
use Rattle.core_model.specs.declared.events.CoreEvent.{CoreEvent}
use Rattle.core_model.specs.Laws.{extended}
use Rattle.run_books.specs.declared.faults.RunFault.{RunFault}
use Rattle.run_books.specs.declared.faults.RunFault.TheVariants.{InDoubt, WriteFault, LoadFault, LoadDamaged, Memory}
use Rattle.run_books.specs.Stages.{Stage}

-- the output's count of faults rises only where the answer says that the output failed
abbrev pub EmitsAs : {T : Type 0} → Result T RunFault → ℕ → ℕ → Type 0
EmitsAs (Ok done) old new = new ≡ old
EmitsAs (Err InDoubt) old new = new ≡ old
EmitsAs (Err WriteFault) old new = ⊤
EmitsAs (Err (LoadFault file)) old new = new ≡ old
EmitsAs (Err (LoadDamaged file place)) old new = new ≡ old
EmitsAs (Err Memory) old new = new ≡ old

-- nothing was put out, at each moment and now
pub record IsHushed (now now' : World) : Type 0 where
  pub output : now'.output ≡ now.output
  pub moments : Passes (λ m. m.output ≡ now.output) now.past now'.past

-- The core's run goes on by further events, and the settler stays loud or quiet. No input is pulled, over a host that tells its clock goes
-- on, and of input and output nothing failed that the answer doesn't say. A quiet settler puts nothing out.
pub record TurnsBeside {T : Type 0} (tells : Bool) (before after : Stage) (result : Result T RunFault) : Type 0 where
  pub more : List CoreEvent
  pub core : after.run ≡ extended before.run more
  pub quiet : after.settler.quiet ≡ before.settler.quiet
  pub input : IsTrue tells → after.world.input ≡ before.world.input
  pub past : IsTrue tells → (later : List Moment) × (after.world.past ≡ before.world.past ++ later)
  pub pulled : after.faults Input ≡ before.faults Input
  pub emitted : EmitsAs result (before.faults Output) (after.faults Output)
  pub calm : before.settler.quiet ≡ true → after.faults Output ≡ before.faults Output
  pub hushed : before.settler.quiet ≡ true → IsTrue tells → IsHushed before.world after.world
