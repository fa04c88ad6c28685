-- What is known of a unit that runs.
use Rattle.std.proofs.Common.{◌≡◌, ◌-◌, ◌≤◌, true, false, inl, inr, refl, sym, ap, ◌∙◌, arith, Option, Some, None}
use Rattle.std.specs.Prelude.{is_some}
use Rattle.std.proofs.lemmas.Bool.{cases_lt}
use Rattle.base_types.specs.declared.calls.Outcome.TheVariants.{Aborted as aborted}
use Rattle.core_model.specs.CoreState.{UnitNo}
use Rattle.core_model.specs.Tests.{is_running}
use Rattle.core_model.specs.declared.phases.Verdict.TheVariants.{Open}
use Rattle.unit_table.specs.declared.entry.Ending.{Ending}
use Rattle.unit_table.specs.declared.entry.Ending.TheVariants as ending
use Rattle.unit_table.specs.declared.entry.PastUnit.{PastUnit}
use Rattle.unit_table.specs.declared.entry.UnitEntry.{UnitEntry}
use Rattle.unit_table.specs.declared.entry.UnitEntry.TheVariants as entry
use Rattle.unit_table.specs.declared.table.UnitTable.{UnitTable}
use Rattle.unit_table.proofs.Entries.{entry-before}
use Rattle.unit_table.proofs.Tables.{past-none}
use Rattle.unit_table.specs.KnownUnits.{phase_at}
use Rattle.unit_table.specs.Table.{first_in, entry_in, past_in, known_by, phase_in, verdict_in, result_in}

ends : {A : Type 0} (how : Ending) → is_running (phase_at how) ≡ true → A
ends ending.Finished e = cc
ends ending.Refused e = cc
ends ending.Ended e = cc

open_entry : (p : Option PastUnit) (o : Option UnitEntry) → is_running (known_by p o).phase ≡ true → ((known_by p o).verdict ≡ Open) × ((known_by p o).result ≡ aborted)
open_entry (Some x) o e = ends x.ending e
open_entry None None e = cc
open_entry None (Some (entry.Running x)) e = (refl, refl)
open_entry None (Some (entry.Over x)) e = ends x.ending e

has_entry : (p : Option PastUnit) (o : Option UnitEntry) → is_running (known_by p o).phase ≡ true → (p ≡ None) × (is_some o ≡ true)
has_entry (Some x) o e = ends x.ending e
has_entry None None e = cc
has_entry None (Some x) e = (refl, refl)

-- nothing is decided of it
pub running-open : (t : UnitTable) (u : UnitNo) → is_running (phase_in t u) ≡ true → verdict_in t u ≡ Open
running-open t u e = (open_entry (past_in t u) (entry_in t u) e).0

-- it has no result
pub running-resultless : (t : UnitTable) (u : UnitNo) → is_running (phase_in t u) ≡ true → result_in t u ≡ aborted
running-resultless t u e = (open_entry (past_in t u) (entry_in t u) e).1

-- all that is known of it is kept
pub running-kept : (t : UnitTable) (u : UnitNo) → is_running (phase_in t u) ≡ true → (past_in t u ≡ None) × (is_some (entry_in t u) ≡ true)
running-kept t u e = has_entry (past_in t u) (entry_in t u) e

-- it is one of those that keep their results, or of the later ones
pub running-late : (t : UnitTable) (u : UnitNo) → is_running (phase_in t u) ≡ true → first_in t ≤ u.0
running-late t u e = elim (cases_lt u.0 (first_in t)) [
  | inl before ↦ (let none : is_some (entry_in t u) ≡ false = ap is_some (entry-before (first_in t) t.units.items u before) in let some = (running-kept t u e).1 in absurd (cc (sym some ∙ none)))
  | inr behind ↦ behind
]

-- and so are those with a higher number
pub later-kept : (t : UnitTable) (u : UnitNo) → first_in t ≤ u.0 → past_in t u ≡ None
later-kept t u late = past-none t u (u.0 - first_in t) (omega (arith, late))
