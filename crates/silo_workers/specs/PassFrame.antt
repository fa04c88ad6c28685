-- What a pass has beside what it knows of the core: no call changes it.
use Rattle.std.specs.Prelude.{ℕ, List}
use Rattle.atomic_table.specs.Seated.{TableId}
use Rattle.core_model.specs.declared.events.CoreEvent.{CoreEvent}
use Rattle.core_model.specs.declared.events.CoreReply.{CoreReply}
use Rattle.turn_cell.specs.declared.view.Kept.{Kept}
use Rattle.turn_cell.specs.declared.view.View.{View}

-- its cell, its seat there, and which passes were split off from it and joined into it
pub record PassAside : Type 0 where
  pub table : TableId
  pub seat : ℕ
  pub splits : ℕ
  pub split_off : List (List ℕ)
  pub joined : List (Kept CoreEvent CoreReply)

-- these, by their parts
abbrev pub aside_of : {T : Type 0} → TableId → ℕ → View T CoreEvent CoreReply → PassAside
aside_of table seat v = record { table = table; seat = seat; splits = v.hand.splits; split_off = v.hand.split_off; joined = v.hand.joined }
