-- Lines and the entries that answer them.
use Rattle.std.specs.Prelude.{◌≡◌, ◌⊎◌, ◌≤◌, ◌<◌, ℕ, List, [], ◌∷◌, length, ⊤}
use Rattle.base_types.specs.declared.calls.Origin.TheVariants.{Line}
use Rattle.core_model.specs.CoreState.{UnitNo, nobody, Member, Unborn, Finished, Refused, Ended, Entry, CoreState}

-- the unit began for that line
abbrev pub HasBegunFor : CoreState → UnitNo → ℕ → Type 0
HasBegunFor w u n = (w.units.phase u ≡ Unborn → ⊥) × (w.units.origin u ≡ Line n)

-- the unit was refused, came to its end as a plain run, or stands in a closed batch
abbrev pub IsSettled : CoreState → UnitNo → Type 0
IsSettled w u = (w.units.phase u ≡ Refused) ⊎ ((w.units.phase u ≡ Ended) ⊎ ((w.units.phase u ≡ Finished) × (w.manager.place u ≤ w.manager.closed)))

-- no two entries have one line
abbrev pub DifferInLine : List Entry → Type 0
DifferInLine [] = ⊤
DifferInLine (x ∷ xs) = ((y : Entry) → Member y xs → x.line ≡ y.line → ⊥) × DifferInLine xs

-- the entries of finished units stand as the units do in the finish order
abbrev pub SettleInOrder : CoreState → List Entry → Type 0
SettleInOrder w [] = ⊤
SettleInOrder w (x ∷ xs) =
    ((y : Entry) → Member y xs → w.units.phase x.unit ≡ Finished → w.units.phase y.unit ≡ Finished → w.manager.place x.unit < w.manager.place y.unit) × SettleInOrder w xs

-- each line so far has its unit or its entry
abbrev pub LinesAreTaken : CoreState → Type 0
LinesAreTaken w = (n : ℕ) → 0 < n → n ≤ w.units.lines → ((u : UnitNo) × HasBegunFor w u n) ⊎ ((x : Entry) × Member x w.manager.settled × (x.line ≡ n))

-- Each line that began has one unit or is bad, and each entry is of such a line. There is one for each line that is bad or
-- whose unit is settled, and no other; those of finished units stand in the finish order. No line is left out.
pub record EntriesAreOnce (w : CoreState) : Type 0 where
  pub within : (u : UnitNo) (n : ℕ) → HasBegunFor w u n → (0 < n) × (n ≤ w.units.lines)
  pub one_unit : (u v : UnitNo) (n : ℕ) → HasBegunFor w u n → HasBegunFor w v n → u ≡ v
  pub differ : DifferInLine w.manager.settled
  pub entry : (x : Entry) → Member x w.manager.settled → (0 < x.line) × (x.line ≤ w.units.lines) × (((x.unit ≡ nobody) × ((u : UnitNo) → HasBegunFor w u x.line → ⊥)) ⊎ (HasBegunFor w x.unit x.line × IsSettled w x.unit))
  pub complete : (u : UnitNo) (n : ℕ) → HasBegunFor w u n → IsSettled w u → (x : Entry) × Member x w.manager.settled × (x.unit ≡ u) × (x.line ≡ n)
  pub order : SettleInOrder w w.manager.settled
  pub written : w.manager.emitted ≤ length w.manager.settled
  pub taken : LinesAreTaken w
