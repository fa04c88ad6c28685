-- Histories of the core model's computed runs, read.
use Rattle.std.specs.Prelude.{◌≡◌, pos, List, [], ◌∷◌, ◌++◌, false, true, Some, None}
use Rattle.base_types.specs.declared.calls.Origin.TheVariants.{Line}
use Rattle.base_types.specs.declared.calls.Value.TheVariants.{Int}
use Rattle.base_types.specs.declared.calls.Outcome.TheVariants as outcome
use Rattle.base_types.specs.declared.calls.Mode.TheVariants.{Read as Shared, Update as Alone}
use Rattle.base_types.specs.declared.entries.Settled.TheVariants as settled
use Rattle.core_model.specs.declared.events.CoreEvent.{CoreEvent}
use Rattle.core_model.specs.declared.events.CoreEvent.TheVariants.{Begin, Grant, Refuse, Finish, Release, Take, Vote, Decide, NotSealed, Learn}
use Rattle.core_model.specs.declared.events.CoreReply.TheVariants as reply
use Rattle.core_model.specs.ComputedRuns.{account, unit, deposit, balance, found, deposited, entry, bank, settled_in, dirty_read, wait_for_younger}
use Rattle.core_history.specs.Histories.{Applied, history_from}
use Rattle.core_history.specs.Units.{finish_order, runs, held, reads_in}
use Rattle.core_history.specs.Batches.{batches_in}
use Rattle.core_history.specs.Fates.{IsDeadIn}
use Rattle.core_history.specs.GoneVersions.{IsGone}

-- what a bank's history tells
abbrev pub told : List CoreEvent → List Applied
told es = history_from bank es

-- a deposit, and a look at the balance after it
abbrev pub one_after_other : List CoreEvent
one_after_other =
    Begin (Line 1) (deposit 1 5) false ∷ Begin (Line 2) (balance 1) false ∷
    Grant (unit 1) (account 1) Alone ∷ deposited 1 1 5 0 0 ∷ Release (unit 1) (account 1) ∷ Grant (unit 2) (account 1) Shared ∷ []

-- the file of the account fails
abbrev pub failed_vote : List CoreEvent
failed_vote = dirty_read ++ Vote 1 (account 1) false ∷ Decide 1 ∷ []

-- A unit reads two deposits that aren't decided; the file of the second one's account fails.
abbrev pub two_sources : List CoreEvent
two_sources =
    Begin (Line 1) (deposit 1 5) false ∷ Begin (Line 2) (deposit 2 4) false ∷ Begin (Line 3) (balance 1) false ∷
    Grant (unit 1) (account 1) Alone ∷ deposited 1 1 5 0 0 ∷ Release (unit 1) (account 1) ∷
    Grant (unit 2) (account 2) Alone ∷ deposited 2 2 4 0 0 ∷ Release (unit 2) (account 2) ∷
    Grant (unit 3) (account 1) Shared ∷ Grant (unit 3) (account 2) Shared ∷
    Finish (unit 3) (record {
      unit = unit 3;
      origin = Line 3;
      call = balance 1;
      answers = [];
      reads = found 1 5 1 ∷ found 2 4 2 ∷ [];
      writes = [];
      result = outcome.Value (Int (pos 5));
    }) ∷
    Release (unit 3) (account 1) ∷ Release (unit 3) (account 2) ∷
    Take ∷ Vote 1 (account 1) true ∷ Vote 1 (account 2) false ∷ Decide 1 ∷ []

-- A unit reads two deposits whose batch isn't on disk, and only the second one's account has learnt of it.
abbrev pub one_learnt : List CoreEvent
one_learnt =
    Begin (Line 1) (deposit 1 5) false ∷ Begin (Line 2) (deposit 2 4) false ∷ Begin (Line 3) (balance 1) false ∷
    Grant (unit 1) (account 1) Alone ∷ deposited 1 1 5 0 0 ∷ Release (unit 1) (account 1) ∷
    Grant (unit 2) (account 2) Alone ∷ deposited 2 2 4 0 0 ∷ Release (unit 2) (account 2) ∷
    Grant (unit 3) (account 1) Shared ∷ Grant (unit 3) (account 2) Shared ∷
    Take ∷ Vote 1 (account 1) true ∷ Vote 1 (account 2) true ∷ Decide 1 ∷ NotSealed 1 ∷ []

-- what the second account then learns
abbrev pub learns : Applied
learns = record { event = Learn (unit 2) (account 2); reply = reply.Done }

-- What these histories tell, by computing them.
pub record HistoriesAreRead : Type 0 where
  -- two units hold a grain, one after the other
  pub who_holds : held (unit 2) (account 1) (told one_after_other) ≡ Some Shared
  pub who_released : held (unit 1) (account 1) (told dirty_read) ≡ None
  -- a look at the balance that reads a deposit before it is decided
  pub what_was_read : reads_in (unit 2) (told dirty_read) ≡ found 1 5 1 ∷ []
  pub one_batch : batches_in (told dirty_read) ≡ (unit 1 ∷ unit 2 ∷ []) ∷ []
  -- what doesn't apply isn't told: the older unit asks too early, and isn't refused
  pub who_waited : finish_order (told wait_for_younger) ≡ unit 2 ∷ unit 1 ∷ []
  pub what_waited_found : reads_in (unit 1) (told wait_for_younger) ≡ found 1 3 2 ∷ []
  pub both_ended : runs (unit 1) (told wait_for_younger) ≡ false
  -- the file of the account fails: who read it is dead, too
  pub failed_vote_kills : IsDeadIn (told failed_vote) (unit 2)
  -- it is told of the second one, the only one that was dead once the batch was decided
  pub told_of_second : settled_in (two_sources ++ NotSealed 1 ∷ []) ≡ entry 1 settled.Disk ∷ entry 2 (settled.Vote (account 2)) ∷ entry 3 (settled.Dependency (unit 2)) ∷ []
  -- the first one dies with the batch, later: so the dead after the event that ends a batch would name the wrong one
  pub first_dies_later : IsDeadIn (told (two_sources ++ NotSealed 1 ∷ [])) (unit 1)
  -- it is refused for the second one: the first one is older, a source and dead too, but its version isn't gone
  pub refused_for_second : settled_in (one_learnt ++ Learn (unit 2) (account 2) ∷ Refuse (unit 3) (account 3) Shared ∷ []) ≡ entry 1 settled.Disk ∷ entry 2 settled.Disk ∷ entry 3 (settled.Dependency (unit 2)) ∷ []
  -- what it read of the second one is gone once the account has learnt of it
  pub second_is_gone : IsGone (told one_learnt ++ (learns ∷ [])) (found 2 4 2)
