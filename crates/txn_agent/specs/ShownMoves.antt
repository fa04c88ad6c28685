-- What a look tells of whether the unit moves.
use Rattle.std.specs.Prelude.{◌≡◌, Bool, false}
use Rattle.core_model.specs.Tests.{is_decided}
use Rattle.core_model.specs.LegalRuns.{Run, ends}
use Rattle.script_tree.specs.Programs.{ProgramTree}
use Rattle.promise_spec.specs.UnitAnswers.{got_in}
use Rattle.promise_spec.specs.TurnRule.{can_move}
use Rattle.txn_agent.specs.declared.work.Carried.{Carried}
use Rattle.txn_agent.specs.declared.work.Doing.{Doing}
use Rattle.txn_agent.specs.declared.work.Doing.TheVariants.{Asks, Awaits, Frees, Stopped}

-- by the turn rule, the unit can move
abbrev pub moves : ProgramTree → Run → Carried → Bool
moves types r c = can_move types (ends r) (got_in r) c.unit

-- The answer is the turn rule's. Where the unit waits for a child it is whether the child is decided by now, and then the
-- unit has its outcome to hear first; a unit that was stopped moves no more.
abbrev pub ShowsMove : ProgramTree → Run → Carried → Doing → Bool → Type 0
ShowsMove types r c (Asks work pause) b = b ≡ moves types r c
ShowsMove types r c (Awaits work child) b = (b ≡ is_decided (ends r) child) × (b ≡ false → moves types r c ≡ false)
ShowsMove types r c (Frees held) b = b ≡ moves types r c
ShowsMove types r c Stopped b = b ≡ false
