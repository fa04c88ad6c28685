-- Why units are aborted, by the core's events, and what the counts of faults say of them.
use Rattle.std.specs.Prelude.{◌≡◌, ℕ, ◌+◌, ◌*◌, ◌-◌, ◌^◌, ◌<◌, ◌≤◌, min, Bool, true, false, ◌&&◌, not, List, ◌∷◌, ◌++◌}
use Rattle.base_types.specs.declared.entries.Settled.{Settled}
use Rattle.host_trait.specs.declared.channels.Channel.{Channel}
use Rattle.host_trait.specs.declared.channels.Channel.TheVariants.{File}
use Rattle.host_trait.specs.declared.channels.FileId.TheVariants.{Manager, Grain}
use Rattle.host_trait.specs.World.{Image}
use Rattle.core_model.specs.declared.phases.Verdict.TheVariants.{Aborted}
use Rattle.core_model.specs.CoreState.{UnitNo, GrainId, same_grain, Member, Entry}
use Rattle.core_model.specs.Causes.{IsAbort, HasCause, IsCaused}
use Rattle.core_model.specs.declared.events.CoreEvent.{CoreEvent}
use Rattle.core_model.specs.declared.events.CoreEvent.TheVariants.{Vote, Sealed, NotSealed, Doubt}
use Rattle.core_model.specs.Events.{applies, step, run}
use Rattle.core_model.specs.LegalRuns.{Run, begins, ends}
use Rattle.silo_spec.specs.OpenedDisks.{opening_syncs}
use Rattle.promise_spec.specs.Cores.{AppliesAt, how_many}

-- an event of the run aborted the unit, with this cause
pub record IsAbortedFor (r : Run) (u : UnitNo) (why : Settled) : Type 0 where
  pub before : List CoreEvent
  pub event : CoreEvent
  pub later : List CoreEvent
  pub split : r.events ≡ before ++ (event ∷ later)
  pub applied : applies (run (begins r) before) event ≡ true
  pub abort : IsAbort why
  pub cause : HasCause (run (begins r) before) event (step (run (begins r) before) event) u why

-- Each entry is settled by an event, with the cause that it names, and each aborted unit is aborted so, a child too.
pub record AreCaused (r : Run) : Type 0 where
  pub entries : (x : Entry) → Member x (ends r).manager.settled → IsCaused r x
  pub units : (u : UnitNo) → (ends r).manager.verdict u ≡ Aborted → (why : Settled) × IsAbortedFor r u why

-- no count rose, and none stands at its last value, where a rise can't be seen
abbrev pub NoneRose : (Channel → ℕ) → (Channel → ℕ) → Type 0
NoneRose old new = (c : Channel) → (new c ≡ old c) × (old c < 2 ^ 64 - 1)

-- a count rose by at least so much, or stands at its last value
abbrev pub RoseBy : ℕ → ℕ → ℕ → Type 0
RoseBy n old new = min (old + n) (2 ^ 64 - 1) ≤ new

-- ---- what events tell of files

-- a vote
abbrev pub is_vote : CoreEvent → Bool
is_vote (Vote n g kept) = true
is_vote _ = false

-- a vote on this grain's file
abbrev pub is_vote_of : GrainId → CoreEvent → Bool
is_vote_of g (Vote n h kept) = same_grain h g
is_vote_of g _ = false

-- a vote that this grain's file wasn't written
abbrev pub is_no : GrainId → CoreEvent → Bool
is_no g (Vote n h kept) = same_grain h g && not kept
is_no g _ = false

-- a batch that is on disk
abbrev pub is_sealed : CoreEvent → Bool
is_sealed (Sealed n) = true
is_sealed _ = false

-- a batch that isn't on disk, or of which nobody knows
abbrev pub is_unsealed : CoreEvent → Bool
is_unsealed (NotSealed n) = true
is_unsealed (Doubt n) = true
is_unsealed _ = false

-- how many syncs a run over this folder asks for where nothing fails: the opening's, one for each vote, and two for each batch on
-- disk
abbrev pub syncs_of : Image → Run → ℕ
syncs_of image r = opening_syncs image + (how_many is_vote r + 2 * how_many is_sealed r)

-- how many syncs it asks for at most, whatever fails: the opening's, one for each vote, and two for each batch that was to be on
-- disk
abbrev pub most_syncs_of : Image → Run → ℕ
most_syncs_of image r = opening_syncs image + (how_many is_vote r + 2 * (how_many is_sealed r + how_many is_unsealed r))

-- No more votes of no came on a grain than its live file's count of faults rose by, and no more batches failed to be
-- sealed than the live manager file's rose by.
pub record AreFaults (live : ℕ) (r : Run) (old new : Channel → ℕ) : Type 0 where
  pub votes : (g : GrainId) → RoseBy (how_many (is_no g) r) (old (File (Grain live g))) (new (File (Grain live g)))
  pub seals : RoseBy (how_many is_unsealed r) (old (File (Manager live))) (new (File (Manager live)))

-- a batch was left in doubt
pub record RunHasDoubt (r : Run) : Type 0 where
  pub at : ℕ
  pub number : ℕ
  pub doubt : AppliesAt r at (Doubt number)
