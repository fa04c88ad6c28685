-- Counts of faults, one for each channel.
use Rattle.std.specs.Prelude.{◌≡◌, ◌≢◌, ℕ, ◌+◌, ◌-◌, ◌^◌, ◌≤◌, min, Bool, Result, IsOk, IsErr, OnOk, IfErr}
use Rattle.host_trait.specs.declared.channels.Channel.{Channel}
use Rattle.host_trait.specs.declared.channels.FileId.{FileId}
use Rattle.host_trait.specs.Files.{StaysReady}

-- the count rose, or stands at the last value of a `u64`
abbrev pub Rose : ℕ → ℕ → Type 0
Rose old new = min (old + 1) (2 ^ 64 - 1) ≤ new

-- no count has changed
abbrev pub NoneFailed : (Channel → ℕ) → (Channel → ℕ) → Type 0
NoneFailed old new = (c : Channel) → new c ≡ old c

-- no other count has changed, and this one hasn't fallen
pub record CountsOn (channel : Channel) (old new : Channel → ℕ) : Type 0 where
  pub others : (c : Channel) → c ≢ channel → new c ≡ old c
  pub later : old channel ≤ new channel

-- a call on this channel failed: its count rose, and no other has changed
pub record FailedOn (channel : Channel) (old new : Channel → ℕ) : Type 0 where
  pub counts : CountsOn channel old new
  pub rose : Rose (old channel) (new channel)

-- a call on this channel: no count changes where it succeeds, and where it fails the channel's count rises and no other changes
pub record Counted {T E : Type 0} (channel : Channel) (result : Result T E) (old new : Channel → ℕ) : Type 0 where
  pub calm : IsOk result → NoneFailed old new
  pub cause : IsErr result → FailedOn channel old new

-- What a function leaves of the host that it calls: each file that was ready is, no count has changed where it succeeds, and where it fails the
-- counts are such as its fault says.
pub record HasCalled {T E Host : Type 0} (faulted : E → (Channel → ℕ) → (Channel → ℕ) → Type 0) (result : Result T E)
    (is_ready : Host → FileId → Bool) (faults : Host → Channel → ℕ) (old new : Host) : Type 0 where
  pub ready : StaysReady (is_ready old) (is_ready new)
  pub calm : OnOk result (NoneFailed (faults old) (faults new))
  pub fault : IfErr result (λ e. faulted e (faults old) (faults new))
