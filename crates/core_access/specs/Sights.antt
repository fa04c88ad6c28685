-- What one knows of a core through an access, and what a call of it leaves of that.
use Rattle.std.specs.Prelude.{◌≡◌, ◌⊎◌, ◌≤◌, ℕ, List, [], ◌∷◌, ◌++◌, length, Bool, true}
use Rattle.base_types.specs.Lists.{Member}
use Rattle.core_model.specs.declared.events.CoreEvent.{CoreEvent}
use Rattle.core_model.specs.declared.events.CoreReply.{CoreReply}
use Rattle.core_model.specs.LegalRuns.{Run}
use Rattle.turn_cell.specs.History.{entry, entries_of}
use Rattle.core_access.specs.Histories.{Told, reply_in, run_after, IsTrue}

-- what is known through an access
pub record Sight : Type 0 where
  pub first : Run  -- the run from which all that was seen goes on
  pub number : List ℕ  -- the number of one's own entries
  pub seen : List Told  -- all entries that were seen, oldest first
  pub mine : List Told  -- those that were put through this access

-- the run up to all that was seen: of it each answer and each reply is
abbrev pub run_seen : Sight → Run
run_seen s = run_after s.first s.seen

-- each reply of what was seen is the core's
abbrev pub IsHistory : Sight → Type 0
IsHistory s = IsTrue s.first s.seen

-- these entries were seen too
abbrev pub saw : Sight → List Told → Sight
saw s rest = record { first = s.first; number = s.number; seen = s.seen ++ rest; mine = s.mine }

-- this event was put through the access
abbrev pub told : Sight → CoreEvent → CoreReply → Sight
told s e r = record { first = s.first; number = s.number; seen = s.seen ++ (entry s.number e r ∷ []); mine = s.mine ++ (entry s.number e r ∷ []) }

-- each entry is of an event that passes the test
abbrev pub AllPass : (CoreEvent → Bool) → List Told → Type 0
AllPass test entries = (x : Told) → Member x entries → test x.event ≡ true

-- Events that may come were seen, and nothing else changed.
pub record Looks (may_come : CoreEvent → Bool) (s t : Sight) : Type 0 where
  pub rest : List Told
  pub others : AllPass may_come rest
  pub sight : t ≡ saw s rest

-- Events that may come were seen, and behind them this one was put, with the core's reply there.
pub record Tells (may_come : CoreEvent → Bool) (s : Sight) (e : CoreEvent) (r : CoreReply) (t : Sight) : Type 0 where
  pub rest : List Told
  pub others : AllPass may_come rest
  pub reply : r ≡ reply_in (run_seen (saw s rest)) e
  pub sight : t ≡ told (saw s rest) e r

-- one's own entries are among those of one's number that were seen, by their count
abbrev pub Counts : Sight → Type 0
Counts s = length s.mine ≤ length (entries_of s.number s.seen)

-- Nobody else interfered: each entry of another number is of an event that passes the test, and all entries of one's number
-- are one's own. That can't be seen while others have the core; it is known once their entries are.
pub record IsAlone (harmless : CoreEvent → Bool) (s : Sight) : Type 0 where
  pub others : (x : Told) → Member x s.seen → (x.by ≡ s.number) ⊎ (harmless x.event ≡ true)
  pub own : entries_of s.number s.seen ≡ s.mine

-- this holds of the run by now, if nobody else interfered
abbrev pub IfAlone : (CoreEvent → Bool) → Sight → (Run → Type 0) → Type 0
IfAlone harmless s P = IsAlone harmless s → P (run_seen s)
