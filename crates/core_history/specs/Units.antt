-- What a history tells of a unit: whether it runs, what it holds, reads and writes.
use Rattle.std.specs.Prelude.{◌≡◌, ℕ, List, [], ◌∷◌, ◌++◌, Bool, false, ◌&&◌, not, Option, Some, None, if◌then◌else◌, option_map}
use Rattle.std.specs.List.{list_any as any, flat_map, fold}
use Rattle.base_types.specs.declared.calls.Origin.TheVariants.{Line}
use Rattle.core_model.specs.declared.events.CoreReply.{CoreReply}
use Rattle.core_model.specs.declared.events.CoreReply.TheVariants as reply
use Rattle.core_model.specs.declared.effects.Read.{Read}
use Rattle.core_model.specs.declared.effects.Effect.{Effect}
use Rattle.core_model.specs.CoreState.{UnitNo, GrainId, Mode, Value, Call, Outcome, Write, Member, same_unit, same_grain}
use Rattle.core_model.specs.Tests.{state_written}
use Rattle.core_model.specs.declared.events.CoreEvent.{CoreEvent}
use Rattle.core_model.specs.declared.events.CoreEvent.TheVariants.{Bad, Begin, Grant, Refuse, Finish, EndPlain, EndSnapshot, Release, Take, Vote, Decide, Sealed, NotSealed, Doubt, Learn, Emitted, Halt, Want, Load}
use Rattle.core_history.specs.Histories.{Applied}

-- the unit that finishes, where one does
abbrev pub finisher : CoreEvent → List UnitNo
finisher (Finish u effect) = u ∷ []
finisher (Bad line why) = []
finisher (Begin origin call plain) = []
finisher (Grant v k new) = []
finisher (Refuse v k new) = []
finisher (EndPlain v effect) = []
finisher (EndSnapshot v at outcome) = []
finisher (Release v k) = []
finisher Take = []
finisher (Vote n k kept) = []
finisher (Decide n) = []
finisher (Sealed n) = []
finisher (NotSealed n) = []
finisher (Doubt n) = []
finisher (Learn v k) = []
finisher Emitted = []
finisher Halt = []
finisher (Want v k) = []
finisher (Load k v state) = []

-- the units that finished, in that order
abbrev pub finish_order : List Applied → List UnitNo
finish_order h = flat_map (λ a. finisher a.event) h

-- the reply to the unit's begin
abbrev pub is_begin_of : UnitNo → CoreReply → Bool
is_begin_of u (reply.Began v) = same_unit v u
is_begin_of u reply.Unapplied = false
is_begin_of u reply.Done = false
is_begin_of u (reply.Granted state source) = false
is_begin_of u (reply.NotGranted ask) = false
is_begin_of u (reply.Doomed source) = false
is_begin_of u reply.NotActive = false
is_begin_of u reply.NotLoaded = false
is_begin_of u (reply.Taken batch) = false
is_begin_of u (reply.Decided commits) = false

-- the unit began for that line
abbrev pub BeganFor : List Applied → UnitNo → ℕ → Type 0
BeganFor h u n = (call : Call) × ((plain : Bool) × Member (record { event = Begin (Line n) call plain; reply = reply.Began u }) h)

-- the unit finishes, ends as a plain run, or is refused
abbrev pub is_end_of : UnitNo → CoreEvent → Bool
is_end_of u (Finish v effect) = same_unit v u
is_end_of u (EndPlain v effect) = same_unit v u
is_end_of u (EndSnapshot v at outcome) = same_unit v u
is_end_of u (Refuse v g mode) = same_unit v u
is_end_of u (Bad line why) = false
is_end_of u (Begin origin call plain) = false
is_end_of u (Grant v k new) = false
is_end_of u (Release v k) = false
is_end_of u Take = false
is_end_of u (Vote n k kept) = false
is_end_of u (Decide n) = false
is_end_of u (Sealed n) = false
is_end_of u (NotSealed n) = false
is_end_of u (Doubt n) = false
is_end_of u (Learn v k) = false
is_end_of u Emitted = false
is_end_of u Halt = false
is_end_of u (Want v k) = false
is_end_of u (Load k v state) = false

-- the unit has begun
abbrev pub has_begun : UnitNo → List Applied → Bool
has_begun u h = any (λ a. is_begin_of u a.reply) h

-- the unit has ended
abbrev pub has_ended : UnitNo → List Applied → Bool
has_ended u h = any (λ a. is_end_of u a.event) h

-- the unit has begun and hasn't ended
abbrev pub runs : UnitNo → List Applied → Bool
runs u h = has_begun u h && not (has_ended u h)

-- the unit's mode of the grain after an event: a grant sets it, a release ends it
abbrev pub mode_after : UnitNo → GrainId → Option Mode → CoreEvent → Option Mode
mode_after u g mode (Grant v k new) = if same_unit v u && same_grain k g then Some new else mode
mode_after u g mode (Release v k) = if same_unit v u && same_grain k g then None else mode
mode_after u g mode (Bad line why) = mode
mode_after u g mode (Begin origin call plain) = mode
mode_after u g mode (Refuse v k new) = mode
mode_after u g mode (Finish v effect) = mode
mode_after u g mode (EndPlain v effect) = mode
mode_after u g mode (EndSnapshot v at outcome) = mode
mode_after u g mode Take = mode
mode_after u g mode (Vote n k kept) = mode
mode_after u g mode (Decide n) = mode
mode_after u g mode (Sealed n) = mode
mode_after u g mode (NotSealed n) = mode
mode_after u g mode (Doubt n) = mode
mode_after u g mode (Learn v k) = mode
mode_after u g mode Emitted = mode
mode_after u g mode Halt = mode
mode_after u g mode (Want v k) = mode
mode_after u g mode (Load k v state) = mode

-- the mode in which the unit holds the grain, none where it doesn't
abbrev pub held : UnitNo → GrainId → List Applied → Option Mode
held u g h = fold (λ mode a. mode_after u g mode a.event) None h

-- what the reply to a grant of that grain shows
abbrev pub read_in : GrainId → CoreReply → Option Read
read_in g (reply.Granted state source) = Some (record { grain = g; state = state; source = source })
read_in g reply.Unapplied = None
read_in g reply.Done = None
read_in g (reply.Began v) = None
read_in g (reply.NotGranted ask) = None
read_in g (reply.Doomed source) = None
read_in g reply.NotActive = None
read_in g reply.NotLoaded = None
read_in g (reply.Taken batch) = None
read_in g (reply.Decided commits) = None

-- what a grant to the unit shows
abbrev pub shown : UnitNo → CoreEvent → CoreReply → Option Read
shown u (Grant v g mode) answer = if same_unit v u then read_in g answer else None
shown u (Bad line why) answer = None
shown u (Begin origin call plain) answer = None
shown u (Refuse v k new) answer = None
shown u (Finish v effect) answer = None
shown u (EndPlain v effect) answer = None
shown u (EndSnapshot v at outcome) answer = None
shown u (Release v k) answer = None
shown u Take answer = None
shown u (Vote n k kept) answer = None
shown u (Decide n) answer = None
shown u (Sealed n) answer = None
shown u (NotSealed n) answer = None
shown u (Doubt n) answer = None
shown u (Learn v k) answer = None
shown u Emitted answer = None
shown u Halt answer = None
shown u (Want v k) answer = None
shown u (Load k v state) answer = None

-- one of these reads is of the grain
abbrev pub has_read : GrainId → List Read → Bool
has_read g reads = any (λ r. same_grain r.grain g) reads

-- the reads with what a grant shows, where it's the first of its grain
abbrev pub with_read : List Read → Option Read → List Read
with_read reads None = reads
with_read reads (Some r) = if has_read r.grain reads then reads else reads ++ r ∷ []

-- what the unit read: what its first grant of each grain showed, in that order
abbrev pub reads_in : UnitNo → List Applied → List Read
reads_in u h = fold (λ reads a. with_read reads (shown u a.event a.reply)) [] h

-- the unit's effect after an event
abbrev pub effect_after : UnitNo → Option Effect → CoreEvent → Option Effect
effect_after u last (Finish v effect) = if same_unit v u then Some effect else last
effect_after u last (Bad line why) = last
effect_after u last (Begin origin call plain) = last
effect_after u last (Grant v k new) = last
effect_after u last (Refuse v k new) = last
effect_after u last (EndPlain v other) = last
effect_after u last (EndSnapshot v at outcome) = last
effect_after u last (Release v k) = last
effect_after u last Take = last
effect_after u last (Vote n k kept) = last
effect_after u last (Decide n) = last
effect_after u last (Sealed n) = last
effect_after u last (NotSealed n) = last
effect_after u last (Doubt n) = last
effect_after u last (Learn v k) = last
effect_after u last Emitted = last
effect_after u last Halt = last
effect_after u last (Want v k) = last
effect_after u last (Load k v state) = last

-- the effect with which the unit finished, none where it hasn't
abbrev pub effect_in : UnitNo → List Applied → Option Effect
effect_in u h = fold (λ last a. effect_after u last a.event) None h

-- what an effect wrote, nothing where there is none
abbrev pub writes_of : Option Effect → List Write
writes_of None = []
writes_of (Some effect) = effect.writes

-- what the unit wrote
abbrev pub writes_in : UnitNo → List Applied → List Write
writes_in u h = writes_of (effect_in u h)

-- the result with which the unit finished, none where it hasn't
abbrev pub result_in : UnitNo → List Applied → Option Outcome
result_in u h = option_map (λ (effect : Effect). effect.result) (effect_in u h)

-- the unit wrote the grain
abbrev pub WroteIn : List Applied → UnitNo → GrainId → Type 0
WroteIn h u g = (v : List Value) × (state_written g (writes_in u h) ≡ Some v)
