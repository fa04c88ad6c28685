-- What those who share a core promise of the events that they put, and what that gives for the whole history.
use Rattle.std.specs.Prelude.{◌≡◌, ℕ, ◌≤◌, true, List, ◌∷◌, ◌++◌, length}
use Rattle.base_types.specs.Lists.{Member}
use Rattle.core_model.specs.CoreState.{UnitNo}
use Rattle.core_model.specs.declared.events.CoreEvent.{CoreEvent}
use Rattle.core_model.specs.declared.events.CoreReply.TheVariants.{Began}
use Rattle.core_model.specs.LegalRuns.{Run}
use Rattle.turn_rules.specs.NextEvent.{is_own}
use Rattle.turn_cell.specs.History.{entries_of, StartsWith}
pub use Rattle.core_access.specs.Histories.{Told, reply_in, run_after, IsTrue}

-- each event of a unit is of one that began by an entry of the same list
abbrev pub OwnsUnits : List Told → Type 0
OwnsUnits mine = (e : Told) (u : UnitNo) → Member e mine → is_own u e.event ≡ true → (b : Told) × Member b mine × (b.reply ≡ Began u)

-- no entry of another number is an event of the unit
abbrev pub Quiet : List ℕ → UnitNo → List Told → Type 0
Quiet n u seen = (e : Told) → Member e seen → is_own u e.event ≡ true → e.by ≡ n

-- Due says when an event may come behind a run: of the unit rule, `MayCome`.
module _ (Due : Run → CoreEvent → Type 0) (first : Run) where
  -- the entry is due behind what came before, if no entry of another number before it is an event of its unit
  abbrev pub IsDueBehind : List ℕ → List Told → Told → Type 0
  IsDueBehind n before e = ((u : UnitNo) → is_own u e.event ≡ true → Quiet n u before) → Due (run_after first before) e.event

  -- each entry of this number is so
  abbrev pub AllDue : List ℕ → List Told → Type 0
  AllDue n seen = (before : List Told) (e : Told) (rest : List Told) → seen ≡ before ++ (e ∷ rest) → e.by ≡ n → IsDueBehind n before e

  -- What the holder of a pass promises of the entries with its number: they are of units that it began, and each is due
  -- at its place. What it saw is a history in which these entries stand; that they are all of its number is known once
  -- the cell is closed.
  pub record Promised (n : List ℕ) (seen mine : List Told) : Type 0 where
    pub owns : OwnsUnits mine
    pub some : length mine ≤ length (entries_of n seen)
    pub due : entries_of n seen ≡ mine → AllDue n seen

  -- the same where more may be seen by now
  pub record Keeps (log : List Told) (n : List ℕ) (mine : List Told) : Type 0 where
    pub seen : List Told
    pub begins : StartsWith log seen
    pub promise : Promised n seen mine

  -- every number of the history has such a promise, of all its entries
  abbrev pub AllPromise : List Told → Type 0
  AllPromise log = (e : Told) → Member e log → (mine : List Told) × (entries_of e.by log ≡ mine) × Keeps log e.by mine

  -- each event of the history is due behind those before it
  abbrev pub IsRuled : List Told → Type 0
  IsRuled log = (before : List Told) (e : Told) (rest : List Told) → log ≡ before ++ (e ∷ rest) → Due (run_after first before) e.event
