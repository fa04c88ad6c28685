-- The object that lies at a place.
use Rattle.std.specs.Prelude.{Option, None, Some}
use Rattle.turn_cell.specs.declared.place.Place.{Place}
use Rattle.turn_cell.specs.declared.place.Place.TheVariants.{Out, Home, Done}

-- the object that is at home, where it is
abbrev pub object_in : {T E R : Type 0} → Place T E R → Option T
object_in Out = None
object_in (Home o) = Some o.value
object_in (Done o e r) = Some o.value
