-- What the books are to a step of the settler, to a load, and to an event of others: as it is stated.
use Rattle.std.specs.Prelude.{◌≡◌, ◌<◌, ℕ, Bool, false, IsTrue, List, [], ◌∷◌, None, Result}
use Rattle.base_types.specs.declared.shapes.Shape.{Shape}
use Rattle.host_trait.specs.declared.channels.Channel.{Channel}
use Rattle.host_trait.specs.World.{World}
use Rattle.base_types.specs.declared.stores.Version.{Version}
use Rattle.core_model.specs.CoreState.{CoreState}
use Rattle.core_model.specs.Settler.{versions_to_write}
use Rattle.core_model.specs.declared.events.CoreEvent.{CoreEvent}
use Rattle.core_model.specs.declared.events.CoreEvent.TheVariants.{Vote}
use Rattle.core_model.specs.Laws.{extended}
use Rattle.core_model.specs.LegalRuns.{Run, ends}
use Rattle.core_access.specs.OneHolder.{none_comes, own_sight}
use Rattle.core_access.specs.SettlerEvents.{is_settling}
use Rattle.promise_spec.specs.UnitRule.{KeepsUnitRule}
use Rattle.batch_disk.specs.VoteAnswers.{VotesOn}
use Rattle.batch_disk.specs.declared.writer.BatchWriter.{BatchWriter}
use Rattle.settle_loop.specs.HostSteps.{DoesFor}
use Rattle.settle_loop.specs.SettlerStep.{TurnsAs, TurnsBy, wanted_step}
use Rattle.settle_loop.specs.declared.settler.Settler.{Settler}
use Rattle.settle_loop.specs.declared.settler.Turned.{Turned}
use Rattle.run_books.specs.Beginnings.{Outset, basis_of}
use Rattle.run_books.specs.Books.{Books}
use Rattle.run_books.specs.Records.{KeepsBooks}
use Rattle.run_books.specs.BooksSteps.{AreEven, CanSettle, SaysOfLoad, SaysOfStep, BooksGoOn}
use Rattle.run_books.specs.Stages.{stage_by, stage_of}

-- What was done for an event, as it is known in the state in which the event comes: of a vote the versions are those that are shown there
-- where loads are true, and so over a host that tells.
abbrev pub DidFor : {H : Type 0} → Bool → (H → World) → (H → Channel → ℕ) → ℕ → CoreEvent → Bool → Shape → CoreState → BatchWriter → BatchWriter → H → H → Type 0
DidFor tells world faults live (Vote n g said) quiet shape w before after old new =
    (versions : List Version) × (IsTrue tells → versions ≡ versions_to_write w w.manager.batch g) × VotesOn tells world faults live n g said versions before after old new
DidFor tells world faults live e quiet shape w before after old new = DoesFor tells world faults live e quiet shape w before after old new

-- A step of the settler, over a core alone, with its answer.
abbrev pub SettledKeep : Type 1
SettledKeep = (H E : Type 0) (tells : Bool) (world : H → World) (faults : H → Channel → ℕ) (o : Outset) (b : Books) (shape : Shape) (r r' : Run) (before after : Settler) (old new : H) (result : Result Turned E)
    → CanSettle o shape r → KeepsUnitRule (basis_of o) r' → AreEven before.quiet b (ends r) → KeepsBooks tells o b (stage_of world faults r before old)
    → TurnsAs tells world faults none_comes shape before after (own_sight r) (own_sight r') old new result
    → (g : BooksGoOn tells o b (stage_of world faults r before old) (stage_of world faults r' after new)) × SaysOfStep tells o g.books (stage_of world faults r' after new) result

-- A load of the first of the grains that units want, over a core alone where nothing is in doubt, with its answer.
abbrev pub LoadedKeep : Type 1
LoadedKeep = (H E : Type 0) (tells : Bool) (world : H → World) (faults : H → Channel → ℕ) (o : Outset) (b : Books) (shape : Shape) (r r' : Run) (before after : Settler) (old new : H) (result : Result Turned E)
    → CanSettle o shape r → (ends r).manager.doubt ≡ None → KeepsUnitRule (basis_of o) r' → AreEven before.quiet b (ends r) → KeepsBooks tells o b (stage_of world faults r before old)
    → TurnsBy tells world faults none_comes shape wanted_step before after (own_sight r) (own_sight r') old new result
    → (g : BooksGoOn tells o b (stage_of world faults r before old) (stage_of world faults r' after new)) × SaysOfLoad tells o g.books (stage_of world faults r' after new) result

-- An event that isn't the settler's, put or not, with host and settler as they are.
abbrev pub OthersKeep : Type 0
OthersKeep = (tells : Bool) (o : Outset) (b : Books) (r : Run) (e : CoreEvent) (settler : Settler) (counts : Channel → ℕ) (now : World)
    → 0 < r.base → KeepsUnitRule (basis_of o) r → KeepsUnitRule (basis_of o) (extended r (e ∷ [])) → is_settling e ≡ false
    → AreEven settler.quiet b (ends r) → KeepsBooks tells o b (stage_by r settler counts now)
    → (g : BooksGoOn tells o b (stage_by r settler counts now) (stage_by (extended r (e ∷ [])) settler counts now)) × AreEven settler.quiet g.books (ends (extended r (e ∷ [])))
