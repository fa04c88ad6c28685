-- A step of the settler as a run's journal takes it: what it leaves of the logs of all images, and of the output.
use Rattle.std.specs.Prelude.{◌≡◌, ◌⊎◌, ℕ, List, [], ◌∷◌, ◌++◌, Bool, true, false}
use Rattle.std.specs.List.{AllByRecursion}
use Rattle.base_types.specs.declared.calls.GrainId.{GrainId}
use Rattle.base_types.specs.declared.entries.Entry.{Entry}
use Rattle.base_types.specs.declared.shapes.Shape.{Shape}
use Rattle.host_trait.specs.declared.channels.FileId.TheVariants.{Manager}
use Rattle.host_trait.specs.World.{World, Passes, IsEmitted, moment_of}
use Rattle.request_wire.specs.Reply.{reply_line}
use Rattle.field_codec.specs.declared.formats.Format.TheVariants.{Two}
use Rattle.core_model.specs.CoreState.{CoreState}
use Rattle.core_model.specs.declared.effects.Effect.{Effect}
use Rattle.core_model.specs.declared.events.CoreEvent.{CoreEvent}
use Rattle.core_model.specs.declared.events.CoreEvent.TheVariants.{Sealed, Doubt, Emitted}
use Rattle.core_model.specs.Settler.{settler_step, Votes, Seals as SealStep, versions_to_write, to_commit}
use Rattle.promise_spec.specs.Programs.{Program, shape_in}
use Rattle.promise_spec.specs.Records.{Commit, AreRecordsOf}
use Rattle.promise_spec.specs.Journals.{Settlement, Seals, Doubts}
use Rattle.promise_spec.specs.Logs.{IsLog}
use Rattle.promise_spec.specs.Entries.{Log, grown}
use Rattle.promise_spec.specs.Blocks.{Records, body_of}
use Rattle.batch_disk.specs.ImagesAtRest.{NotAmong, AreOfType, SomeImage}
use Rattle.batch_disk.specs.Moments.{LeavesRest}
use Rattle.batch_disk.specs.Writers.{voted_of, KeepsDisk}
use Rattle.batch_disk.specs.Records.{MayBeLogged, IsAsWritten}
use Rattle.batch_disk.specs.Seals.{may_open, IsSealInDoubt}
use Rattle.batch_disk.specs.declared.writer.BatchWriter.{BatchWriter}

-- What the core's batch has to be for the step that this state asks for: no version of the grain is kept yet, and the units'
-- versions are of its type; the units to commit are the program's, and what the votes wrote of them is what they wrote.
pub record IsFair (shape : Shape) (writer : BatchWriter) (w : CoreState) : Type 0 where
  pub vote : (n : ℕ) (g : GrainId) → settler_step w ≡ Votes n g → NotAmong g (voted_of n writer) × AreOfType shape g (versions_to_write w w.manager.batch g)
  pub seal : (n : ℕ) → settler_step w ≡ SealStep n
      → AllByRecursion (MayBeLogged shape) (to_commit w w.manager.batch) × AllByRecursion (IsAsWritten (voted_of n writer)) (to_commit w w.manager.batch)

-- a batch's records, as one settlement without entries
abbrev pub as_settled : List Commit → Settlement
as_settled batch = record { commits = batch; entries = [] }

module _ (live : ℕ) (p : Program) (head : List ℕ) (log : Log) (bodies : List (List ℕ)) (before after : BatchWriter) (old new : World) where
  -- Nothing is put out and no log changes, at no moment, and the writer keeps the disk.
  pub record LeavesLogs : Type 0 where
    pub seals : Seals live log [] old new
    pub rest : Passes (LeavesRest live head old) old.past new.past
    pub rest_now : LeavesRest live head old (moment_of new)
    pub disk : KeepsDisk live (shape_in p) head log bodies after new.disk

  -- The batch of these units is sealed in the writer's session: each image has it behind the logs of before.
  pub record SealsBatch (effects : List Effect) (batch : List Commit) : Type 0 where
    pub records : AreRecordsOf effects batch
    pub seals : Seals live log (as_settled batch ∷ []) old new
    pub rest : Passes (LeavesRest live head old) old.past new.past
    pub rest_now : LeavesRest live head old (moment_of new)
    pub disk : KeepsDisk live (shape_in p) head (grown log batch) (bodies ++ body_of Two (Records before.session batch) ∷ []) after new.disk

  -- It is in doubt. Where no crash may leave its gate open no image has it; else some has it.
  pub record DoubtsBatch (gate : ℕ) (effects : List Effect) (batch : List Commit) : Type 0 where
    pub records : AreRecordsOf effects batch
    pub journal : ((may_open gate (new.disk (Manager live)) ≡ false) × Seals live log [] old new)
        ⊎ ((may_open gate (new.disk (Manager live)) ≡ true)
        × (Doubts live log (as_settled batch) old new × SomeImage (λ image. IsLog live image (grown log batch)) new.disk))
    pub rest : Passes (LeavesRest live head old) old.past new.past
    pub doubt : IsSealInDoubt live head log bodies batch gate before.session old new

  -- by the event that was made, and the batch whose records were made
  abbrev pub JournalsAs : CoreEvent → Bool → CoreState → List Commit → Type 0
  JournalsAs (Sealed n) quiet w batch = SealsBatch (to_commit w w.manager.batch) batch
  JournalsAs (Doubt n) quiet w batch = DoubtsBatch before.gate_at (to_commit w w.manager.batch) batch ⊎ (new ≡ old)
  JournalsAs Emitted true w batch = (new ≡ old) × (after ≡ before)
  JournalsAs Emitted false w batch = (after ≡ before) × ((entry : Entry) × IsEmitted (reply_line (shape_in p) entry) old new)
  JournalsAs _ quiet w batch = LeavesLogs
