-- What holds of these words.
use Rattle.std.specs.Prelude.{◌≡◌, ◌↔◌, ◌<◌, ◌≤◌, List, [], ◌∷◌, ◌++◌, Bool, true, false, None, ◌⊎◌}
use Rattle.std.specs.List.{list_any as any}
use Rattle.cell_model.specs.Stacks.{Version, top, committed_stack, removed, has_version}
use Rattle.cell_model.specs.Locks.{Hold, Mode, Ask, Free, Held, MustWait, MustDie, covers, conflicts, granted, dropped, holds_lock}
use Rattle.cell_model.specs.Sources.{with_source}
use Rattle.cell_model.specs.Decisions.{Prepared, Commit, decision, all_decided, and_itself}
use Rattle.cell_model.specs.Units.{UnitNo, Member, UnitsAscend}

-- the unit is the oldest of the holders who conflict
pub record IsOldestRival (holds : List Hold) (unit : UnitNo) (mode : Mode) (holder : UnitNo) : Type 0 where
  pub rival : (h : Hold) × Member h holds × (conflicts unit mode h ≡ true) × (h.unit ≡ holder)
  pub oldest : (h : Hold) → Member h holds → conflicts unit mode h ≡ true → holder.0 ≤ h.unit.0

-- when each answer comes
abbrev pub AnswersExactly : List Hold → UnitNo → Mode → Ask → Type 0
AnswersExactly holds unit mode Held = any (covers unit mode) holds ≡ true
AnswersExactly holds unit mode Free = (any (covers unit mode) holds ≡ false) × ((h : Hold) → Member h holds → conflicts unit mode h ≡ false)
AnswersExactly holds unit mode (MustWait holder) = (any (covers unit mode) holds ≡ false) × IsOldestRival holds unit mode holder × (unit.0 < holder.0)
AnswersExactly holds unit mode (MustDie holder) = (any (covers unit mode) holds ≡ false) × IsOldestRival holds unit mode holder × (holder.0 < unit.0)

-- The newest version of the unit is the new bottom; all above it is kept, and nothing below it.
pub record KeepsDownTo (unit : UnitNo) (stack kept : List Version) : Type 0 where
  pub above : List Version
  pub own : Version
  pub below : List Version
  pub split : stack ≡ above ++ own ∷ below
  pub its : own.unit ≡ unit
  pub newest : has_version unit above ≡ false
  pub rest : kept ≡ above ++ own ∷ []

-- The oldest version of the unit is taken off, and all above it; all below it is kept.
pub record TakesOffFrom (unit : UnitNo) (stack kept : List Version) : Type 0 where
  pub above : List Version
  pub own : Version
  pub split : stack ≡ above ++ own ∷ kept
  pub its : own.unit ≡ unit
  pub oldest : has_version unit kept ≡ false

-- a stack where a unit's decision is learnt
pub record StackFollows (unit : UnitNo) (stack : List Version) : Type 0 where
  pub bottom : has_version unit stack ≡ true → KeepsDownTo unit stack (committed_stack unit stack)
  pub taken_off : has_version unit stack ≡ true → TakesOffFrom unit stack (removed unit stack)
  pub same_top : top (committed_stack unit stack) ≡ top stack
  pub gone : has_version unit (removed unit stack) ≡ false
  pub strangers : has_version unit stack ≡ false → (committed_stack unit stack ≡ stack) × (removed unit stack ≡ stack)

-- who holds a lock after a grant and after it is dropped
pub record LocksFollow (holds : List Hold) (unit : UnitNo) (mode : Mode) : Type 0 where
  pub given : Member (record { unit = unit; mode = mode }) (granted holds unit mode)
  pub gone : holds_lock unit (dropped holds unit) ≡ false
  pub others : (h : Hold) → (h.unit ≡ unit → ⊥) → Member h (granted holds unit mode) ↔ Member h holds

-- a set of sources with one more
pub record SourcesFollow (sources : List UnitNo) (source : UnitNo) : Type 0 where
  pub ascending : UnitsAscend (with_source sources source)
  pub has : (u : UnitNo) → Member u (with_source sources source) ↔ ((u ≡ source) ⊎ Member u sources)

-- the dead after a batch: those of before, and who can't commit
abbrev pub fallen : (UnitNo → Bool) → List Prepared → UnitNo → Bool
fallen dead [] = dead
fallen dead (p ∷ ps) = fallen (and_itself dead p) ps

-- a unit commits exactly where its files were written and none of its sources is dead
abbrev pub CommitsExactly : (UnitNo → Bool) → Prepared → Type 0
CommitsExactly dead p =
    (decision dead p ≡ Commit) ↔ ((p.failed ≡ None) × ((d : UnitNo) → Member d p.deps → dead d ≡ false))

-- each unit is decided where those before it are
abbrev pub DecidesInOrder : (UnitNo → Bool) → List Prepared → Prepared → List Prepared → Type 0
DecidesInOrder dead before p later =
    all_decided dead (before ++ p ∷ later) ≡ all_decided dead before ++ decision (fallen dead before) p ∷ all_decided (fallen dead (before ++ p ∷ [])) later
