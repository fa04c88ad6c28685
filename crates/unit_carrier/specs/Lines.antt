-- How the next line of a run comes to the core.
use Rattle.std.specs.Prelude.{◌≡◌, ◌↔◌, ℕ, Bool, true, false, List, [], ◌∷◌, ◌++◌, Ok, Err, Option, Some, None, Result}
use Rattle.base_types.specs.declared.calls.Call.{Call}
use Rattle.base_types.specs.declared.entries.BadRequest.{BadRequest}
use Rattle.base_types.specs.declared.calls.Origin.TheVariants.{Line as OfLine}
use Rattle.core_model.specs.CoreState.{UnitNo}
use Rattle.core_model.specs.declared.events.CoreEvent.{CoreEvent}
use Rattle.core_model.specs.declared.events.CoreEvent.TheVariants.{Bad, Begin}
use Rattle.core_model.specs.declared.events.CoreReply.{CoreReply}
use Rattle.core_access.specs.Sights.{Sight, Tells}
use Rattle.script_tree.specs.Programs.{ProgramTree}
use Rattle.script_tree.specs.Options.{entered}
use Rattle.script_tree.specs.declared.options.Entered.{Entered}
use Rattle.script_tree.specs.declared.options.Entered.TheVariants.{NewUnit}
use Rattle.script_meaning.specs.Calls.{Target}
use Rattle.script_meaning.specs.Play.{IsTransaction}
use Rattle.txn_agent.specs.declared.agent.Agent.{Agent}
use Rattle.txn_agent.specs.Replies.{began_by}
use Rattle.unit_carrier.specs.CarriedUnits.{CarriesOneMore}

-- a call that enters so is a unit of its own
abbrev pub is_new_unit : Entered → Bool
is_new_unit NewUnit = true
is_new_unit _ = false

-- so is a call of this method, outside a transaction
abbrev pub makes_unit : Option Target → Bool
makes_unit None = false
makes_unit (Some target) = is_new_unit (entered target.method.option false)

-- the event of a line of this number that reads so: it begins its call as a unit, a plain run where the call makes no
-- transaction; or it is bad
abbrev pub IsEventOf : ProgramTree → ℕ → Result Call BadRequest → CoreEvent → Type 0
IsEventOf types number (Ok call) e = (plain : Bool) × (e ≡ Begin (OfLine number) call plain) × ((plain ≡ false) ↔ IsTransaction types call)
IsEventOf types number (Err why) e = e ≡ Bad number why

-- the units with the one that began
abbrev pub with_begun : List UnitNo → Option UnitNo → List UnitNo
with_begun units None = units
with_begun units (Some unit) = units ++ unit ∷ []

-- The line's event was put, and answered so.
pub record PutsLine (may_come : CoreEvent → Bool) (types : ProgramTree) (number : ℕ) (what : Result Call BadRequest) (s t : Sight) (r : CoreReply) : Type 0 where
  pub e : CoreEvent
  pub is : IsEventOf types number what e
  pub told : Tells may_come s e r t

-- The line's event was put; a unit that began is carried, behind all others.
pub record BeginsOn (may_come : CoreEvent → Bool) (types : ProgramTree) (number : ℕ) (what : Result Call BadRequest) (s t : Sight) (before after : List UnitNo) (began : Option UnitNo) : Type 0 where
  pub r : CoreReply
  pub put : PutsLine may_come types number what s t r
  pub is : began ≡ began_by r
  pub units : after ≡ with_begun before began

-- the unit of a line's call is carried too, where it began
abbrev pub CarriesBegun : ProgramTree → ℕ → Call → Bool → List Agent → List Agent → Option UnitNo → Type 0
CarriesBegun types number call plain before after None = after ≡ before
CarriesBegun types number call plain before after (Some unit) = CarriesOneMore types unit (OfLine number) call plain before after

-- A call's event was put, by whatever access; a unit that began is carried, behind all others.
pub record StartsCall (may_come : CoreEvent → Bool) (types : ProgramTree) (number : ℕ) (call : Call) (s t : Sight) (before after : List Agent) (began : Option UnitNo) : Type 0 where
  pub plain : Bool
  pub of_kind : (plain ≡ false) ↔ IsTransaction types call
  pub r : CoreReply
  pub told : Tells may_come s (Begin (OfLine number) call plain) r t
  pub is : began ≡ began_by r
  pub carries : CarriesBegun types number call plain before after began

-- A bad line's event was put; no unit began.
pub record SpoilsLine (may_come : CoreEvent → Bool) (number : ℕ) (why : BadRequest) (s t : Sight) (before after : List Agent) (began : Option UnitNo) : Type 0 where
  pub r : CoreReply
  pub told : Tells may_come s (Bad number why) r t
  pub is : began ≡ None
  pub same : after ≡ before

-- a line's event was put, by what the line reads as
abbrev pub StartsLine : (CoreEvent → Bool) → ProgramTree → ℕ → Result Call BadRequest → Sight → Sight → List Agent → List Agent → Option UnitNo → Type 0
StartsLine may types number (Ok call) s t before after began = StartsCall may types number call s t before after began
StartsLine may types number (Err why) s t before after began = SpoilsLine may number why s t before after began
