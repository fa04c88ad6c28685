-- What a call makes of what is kept.
use Rattle.std.specs.Prelude.{◌≡◌, Bool, true, false, ◌&&◌, not, is_none}
use Rattle.std.specs.declared.result.Result.{Result}
use Rattle.std.specs.declared.result.Result.TheVariants.{Ok, Err}
use Rattle.std.specs.declared.alloc.AllocError.{AllocError}
use Rattle.core_model.specs.CoreState.{CoreState}
use Rattle.core_model.specs.declared.events.CoreEvent.TheVariants.{Bad, Begin, Grant, Refuse, Finish, EndPlain, EndSnapshot, Take, Want, Load}
use Rattle.core_model.specs.Changes.{swept}
use Rattle.core_model.specs.Events.{applies, does, step, reply_to, reply_with, reply_without}
use Rattle.core_model.specs.declared.events.CoreEvent.{CoreEvent}
use Rattle.core_model.specs.declared.events.CoreReply.{CoreReply}
use Rattle.history_core.specs.declared.parts.Parts.{Parts}
use Rattle.history_core.specs.KeptParts.{PartsStand, IsCoreReached}

-- no stop stands: no batch is in doubt, and the run isn't to stop
abbrev pub is_going : CoreState → Bool
is_going w = is_none w.manager.doubt && not w.units.halt

-- what is kept stands for a state in which the event applies
abbrev pub CanDo : Parts → CoreEvent → Type 0
CanDo p e = (w : CoreState) × PartsStand p w × IsCoreReached w × (applies w e ≡ true)

-- whatever state is stood for, it still is
abbrev pub KeepsMeaning : Parts → Parts → Type 0
KeepsMeaning p q = (w : CoreState) → PartsStand p w → PartsStand q w

-- whatever state is stood for, the test tells whether the event applies there
abbrev pub Tells : Parts → CoreEvent → Bool → Type 0
Tells p e told = (w : CoreState) → PartsStand p w → IsCoreReached w → told ≡ applies w e

-- whatever state is stood for, where the event applies what it does there is stood for, and the reply is that of the event
abbrev pub Changes : Parts → CoreEvent → CoreReply → Parts → Type 0
Changes p e reply q = (w : CoreState) → PartsStand p w → IsCoreReached w → applies w e ≡ true → PartsStand q (does w e) × (reply ≡ reply_with w e)

-- and what it leaves, once the grains that it leaves idle are out of memory
abbrev pub Does : Parts → CoreEvent → CoreReply → Parts → Type 0
Does p e reply q = (w : CoreState) → PartsStand p w → IsCoreReached w → applies w e ≡ true → PartsStand q (swept (does w e)) × (reply ≡ reply_with w e)

-- whatever state is stood for, its step is stood for, and the reply is its reply
abbrev pub Takes : Parts → CoreEvent → CoreReply → Parts → Type 0
Takes p e reply q = (w : CoreState) → PartsStand p w → IsCoreReached w → PartsStand q (step w e) × (reply ≡ reply_to w e)

-- whatever state is stood for, where the event doesn't apply the reply is the one to that
abbrev pub Refuses : Parts → CoreEvent → CoreReply → Type 0
Refuses p e reply = (w : CoreState) → PartsStand p w → IsCoreReached w → applies w e ≡ false → reply ≡ reply_without w e

-- the event may want memory: no earlier one made its room
abbrev pub takes_memory : CoreEvent → Bool
takes_memory (Bad line why) = true
takes_memory (Begin origin call plain) = true
takes_memory (Grant u g mode) = true
takes_memory (Refuse u g mode) = true
takes_memory (Finish u effect) = true
takes_memory (EndPlain u effect) = true
takes_memory (EndSnapshot u at outcome) = true
takes_memory Take = true
takes_memory (Want u g) = true
takes_memory (Load g u state) = true
takes_memory _ = false

-- whatever state is stood for, it still is; and the event may want memory
abbrev pub LeavesMeaning : Parts → CoreEvent → Parts → Type 0
LeavesMeaning p e q = KeepsMeaning p q × (takes_memory e ≡ true)

-- the answer of a call, with the event that comes back where there is no memory
abbrev pub with_event : Result CoreReply AllocError → CoreEvent → Result CoreReply (AllocError × CoreEvent)
with_event (Ok reply) e = Ok reply
with_event (Err error) e = Err (error, e)
