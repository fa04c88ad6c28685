-- Where an event applies, the state after it, and its reply.
use Rattle.std.specs.Prelude.{ℕ, ◌+◌, List, [], ◌∷◌, ◌++◌, Bool, true, false, ◌&&◌, ◌||◌, not, Option, Some, None, ◌==◌, nat_lt, if◌then◌else◌, length, take, filter, is_some, is_none}
use Rattle.base_types.specs.declared.calls.Origin.TheVariants.{Line, Child}
use Rattle.base_types.specs.declared.calls.Outcome.TheVariants.{Aborted as aborted}
use Rattle.cell_model.specs.declared.locks.Ask.TheVariants as locks
use Rattle.cell_model.specs.Locks.{holds_lock, is_hold_of, is_update}
use Rattle.cell_model.specs.Decisions.{is_commit}
pub use Rattle.core_model.specs.declared.events.CoreEvent.{CoreEvent}
pub use Rattle.core_model.specs.declared.events.CoreEvent.TheVariants.{Bad, Begin, Grant, Refuse, Finish, EndPlain, EndSnapshot, Release, Take, Vote, Decide, Sealed, NotSealed, Doubt, Learn, Emitted, Halt, Want, Load}
use Rattle.core_model.specs.declared.events.CoreReply.{CoreReply}
use Rattle.core_model.specs.declared.events.CoreReply.TheVariants as reply
use Rattle.core_model.specs.declared.questions.AskAnswer.{AskAnswer}
use Rattle.core_model.specs.declared.questions.AskAnswer.TheVariants as answer
use Rattle.core_model.specs.Equality.{same_origin, same_call, same_reads, same_outcome}
use Rattle.core_model.specs.CoreState.{UnitNo, GrainId, nobody, same_unit, same_grain, Version, top, Value, Origin, Outcome, Effect, Unborn, Open, Batch, Units, Cells, Manager, CoreState}
use Rattle.core_model.specs.Tests.{any, all, is_running, is_over, is_final, state_written, is_decided, answered_by, ask_answer, is_active, free_prefix, waiting, is_planned, is_vote_on, is_voted, is_wanted, is_empty}
use Rattle.core_model.specs.Changes.{spoiled_line, new_unit, begun, cleaned, after_grant, refusal, refused_by, finished, after_end, after_release, after_take, voted, decisions_of, decided, on_batch, on_decided, sealed, spoiled, in_doubt, after_learn, loaded, swept}

-- the lock can be had
abbrev pub is_free_answer : AskAnswer → Bool
is_free_answer answer.Free = true
is_free_answer answer.NotActive = false
is_free_answer (answer.Doomed source) = false
is_free_answer answer.Held = false
is_free_answer (answer.MustDie holder) = false
is_free_answer (answer.MustWait holder) = false
is_free_answer answer.Absent = false

-- the next line, or the next child of a running unit whose children are decided
abbrev pub can_begin : CoreState → Origin → Bool
can_begin w (Line n) = n == w.units.lines + 1
can_begin w (Child p i d) =
    is_running (w.units.phase p) && ((i == length (w.units.kids p)) && all (is_decided w) (w.units.kids p))

-- the effect is of the unit's call, with its children's outcomes
abbrev pub is_of_call : CoreState → UnitNo → Effect → Bool
is_of_call w u effect =
    same_unit effect.unit u
    && (same_origin effect.origin (w.units.origin u)
    && (same_call effect.call (w.units.call u) && answered_by w (w.units.kids u) effect.answers))

-- the unit holds the grain alone
abbrev pub holds_alone : CoreState → UnitNo → GrainId → Bool
holds_alone w u g = any (λ h. is_hold_of u h && is_update h.mode) (w.cells.holds g)

-- a running transaction has that effect
abbrev pub can_finish : CoreState → UnitNo → Effect → Bool
can_finish w u effect =
    (is_running (w.units.phase u) && not (w.units.plain u))
    && (is_of_call w u effect
    && (same_reads effect.reads (w.units.reads u) && all (λ x. holds_alone w u x.0) effect.writes))

-- a running plain run has that effect, without reads and writes
abbrev pub can_end_plain : CoreState → UnitNo → Effect → Bool
can_end_plain w u effect =
    (is_running (w.units.phase u) && w.units.plain u)
    && (is_of_call w u effect && (is_empty effect.reads && is_empty effect.writes))

-- a running plain run without children has that outcome, which is no abort
abbrev pub can_end_snapshot : CoreState → UnitNo → Outcome → Bool
can_end_snapshot w u outcome =
    (is_running (w.units.phase u) && w.units.plain u)
    && (is_empty (w.units.kids u) && not (same_outcome outcome aborted))

-- how many units a batch would have
abbrev pub batch_size : CoreState → ℕ
batch_size w = free_prefix w (take 64 (waiting w))

-- that batch is open, isn't decided, and passes the test
abbrev pub is_open : ℕ → (Batch → Bool) → Option Batch → Bool
is_open number test None = false
is_open number test (Some b) = (b.number == number) && (is_none b.decisions && test b)

-- that batch is open and decided
abbrev pub is_judged : ℕ → Option Batch → Bool
is_judged number None = false
is_judged number (Some b) = (b.number == number) && is_some b.decisions

-- the unit wrote the grain, is decided, and the grain hasn't learnt it
abbrev pub can_learn : CoreState → UnitNo → GrainId → Bool
can_learn w u g =
    is_some (state_written g (w.manager.writes u)) && (is_final (w.manager.verdict u) && not (w.cells.learnt u g))

-- the unit runs, has no lock of the grain and doesn't wait for it yet
abbrev pub can_want : CoreState → UnitNo → GrainId → Bool
can_want w u g =
    is_active w u g
    && (not (holds_lock u (w.cells.holds g)) && not (any (λ t. same_unit t.0 u && same_grain t.1 g) w.units.wants))

-- where an event applies, but for a stop
abbrev pub can : CoreState → CoreEvent → Bool
can w (Bad line why) = line == w.units.lines + 1
can w (Begin origin call plain) = can_begin w origin
can w (Grant u g mode) = is_free_answer (ask_answer w u g mode)
can w (Refuse u g mode) = is_some (refusal g (ask_answer w u g mode))
can w (Finish u effect) = can_finish w u effect
can w (EndPlain u effect) = can_end_plain w u effect
can w (EndSnapshot u at outcome) = can_end_snapshot w u outcome
can w (Release u g) = is_over (w.units.phase u) && holds_lock u (w.cells.holds g)
can w Take = is_none w.manager.batch && nat_lt 0 (batch_size w)
can w (Vote n g kept) = is_open n (λ b. is_planned b g && not (any (is_vote_on g) b.votes)) w.manager.batch
can w (Decide n) = is_open n is_voted w.manager.batch
can w (Sealed n) = is_judged n w.manager.batch
can w (NotSealed n) = is_judged n w.manager.batch
can w (Doubt n) = is_judged n w.manager.batch
can w (Learn u g) = can_learn w u g
can w Emitted = nat_lt w.manager.emitted (length w.manager.settled)
can w Halt = not w.units.halt
can w (Want u g) = can_want w u g
can w (Load g u state) = not (w.cells.here g) && is_wanted w.units.wants g

-- after a doubt entries are written and locks given back
abbrev pub is_after_doubt : CoreEvent → Bool
is_after_doubt (Release u g) = true
is_after_doubt Emitted = true
is_after_doubt (Bad line why) = false
is_after_doubt (Begin origin call plain) = false
is_after_doubt (Grant v g mode) = false
is_after_doubt (Refuse v g mode) = false
is_after_doubt (Finish v effect) = false
is_after_doubt (EndPlain v effect) = false
is_after_doubt (EndSnapshot v at outcome) = false
is_after_doubt Take = false
is_after_doubt (Vote n g kept) = false
is_after_doubt (Decide n) = false
is_after_doubt (Sealed n) = false
is_after_doubt (NotSealed n) = false
is_after_doubt (Doubt n) = false
is_after_doubt (Learn v g) = false
is_after_doubt Halt = false
is_after_doubt (Want v g) = false
is_after_doubt (Load g v state) = false

-- after a stop the answer of the open batch comes too
abbrev pub is_after_halt : CoreEvent → Bool
is_after_halt (Sealed n) = true
is_after_halt (NotSealed n) = true
is_after_halt (Doubt n) = true
is_after_halt e = is_after_doubt e

-- no stop is against it
abbrev pub is_allowed : CoreState → CoreEvent → Bool
is_allowed w e =
    (is_none w.manager.doubt || is_after_doubt e) && (not w.units.halt || is_after_halt e)

-- the event applies
abbrev pub applies : CoreState → CoreEvent → Bool
applies w e = is_allowed w e && can w e

-- what the event does where it applies
abbrev pub does : CoreState → CoreEvent → CoreState
does w (Bad line why) = spoiled_line w line why
does w (Begin origin call plain) = begun w origin call plain
does w (Grant u g mode) = after_grant w u g mode
does w (Refuse u g mode) = refused_by w u (refusal g (ask_answer w u g mode))
does w (Finish u effect) = finished w u effect
does w (EndPlain u effect) = after_end w u effect.answers effect.result None
does w (EndSnapshot u at outcome) = after_end w u [] outcome (Some at)
does w (Release u g) = after_release w u g
does w Take = after_take w (batch_size w)
does w (Vote n g kept) = on_batch w (λ b. voted w b g kept) w.manager.batch
does w (Decide n) = on_batch w (decided w) w.manager.batch
does w (Sealed n) = on_decided w (sealed w) w.manager.batch
does w (NotSealed n) = on_decided w (spoiled w) w.manager.batch
does w (Doubt n) = on_decided w (in_doubt w) w.manager.batch
does w (Learn u g) = after_learn w u g
does w Emitted = record w { manager = record w.manager { emitted = w.manager.emitted + 1 } }
does w Halt = record w { units = record w.units { halt = true } }
does w (Want u g) = record w { units = record w.units { wants = w.units.wants ++ (u, g) ∷ [] } }
does w (Load g u state) = loaded w g u state

-- the state after an event
abbrev pub step : CoreState → CoreEvent → CoreState
step w e = if applies w e then swept (does w e) else w

-- the state after a list of events
abbrev pub run : CoreState → List CoreEvent → CoreState
run w [] = w
run w (e ∷ es) = run (step w e) es

-- nobody has begun
abbrev pub first_units : ℕ → ℕ → Units
first_units base kinds = record {
  next = base;
  lines = 0;
  kinds = kinds;
  phase = λ u. Unborn;
  origin = λ u. Line 0;
  call = λ u. record { grain = record { kind = 0; key = 0 }; method = 0; args = [] };
  plain = λ u. false;
  kids = λ u. [];
  reads = λ u. [];
  deps = λ u. [];
  seen_at = λ u. None;
  wants = [];
  halt = false;
}

-- each grain has its opening state, and is in memory where memory has no limit
abbrev pub first_cells : Option ℕ → (GrainId → List Value) → Cells
first_cells capacity opening = record {
  stack = λ g. record { unit = nobody; state = opening g } ∷ [];
  holds = λ g. [];
  readings = λ g. [];
  learnt = λ u g. false;
  here = λ g. is_none capacity;
  recent = [];
  capacity = capacity;
}

-- nothing is finished, decided or settled
abbrev pub first_manager : Manager
first_manager = record {
  order = [];
  place = λ u. 0;
  writes = λ u. [];
  answers = λ u. [];
  result = λ u. aborted;
  verdict = λ u. Open;
  closed = 0;
  batches = 0;
  batch = None;
  past = [];
  doubt = None;
  settled = [];
  emitted = 0;
}

-- the first state: the number of the first unit, the program's types, how many grains stay in memory, and their states
abbrev pub start : ℕ → ℕ → Option ℕ → (GrainId → List Value) → CoreState
start base kinds capacity opening = record {
  units = first_units base kinds;
  cells = first_cells capacity opening;
  manager = first_manager;
}

-- the reply to a grant that doesn't apply, by what the core answers to the asker
abbrev pub not_granted : AskAnswer → CoreReply
not_granted answer.NotActive = reply.NotActive
not_granted (answer.Doomed source) = reply.Doomed source
not_granted answer.Held = reply.NotGranted locks.Held
not_granted (answer.MustDie holder) = reply.NotGranted (locks.MustDie holder)
not_granted (answer.MustWait holder) = reply.NotGranted (locks.MustWait holder)
not_granted answer.Absent = reply.NotLoaded
not_granted answer.Free = reply.Unapplied

-- the reply to an event that doesn't apply
abbrev pub reply_without : CoreState → CoreEvent → CoreReply
reply_without w (Grant u g mode) = if is_allowed w (Grant u g mode) then not_granted (ask_answer w u g mode) else reply.Unapplied
reply_without w (Bad line why) = reply.Unapplied
reply_without w (Begin origin call plain) = reply.Unapplied
reply_without w (Refuse v g mode) = reply.Unapplied
reply_without w (Finish v effect) = reply.Unapplied
reply_without w (EndPlain v effect) = reply.Unapplied
reply_without w (EndSnapshot v at outcome) = reply.Unapplied
reply_without w (Release v g) = reply.Unapplied
reply_without w Take = reply.Unapplied
reply_without w (Vote n g kept) = reply.Unapplied
reply_without w (Decide n) = reply.Unapplied
reply_without w (Sealed n) = reply.Unapplied
reply_without w (NotSealed n) = reply.Unapplied
reply_without w (Doubt n) = reply.Unapplied
reply_without w (Learn v g) = reply.Unapplied
reply_without w Emitted = reply.Unapplied
reply_without w Halt = reply.Unapplied
reply_without w (Want v g) = reply.Unapplied
reply_without w (Load g v state) = reply.Unapplied

-- what a grant replies
abbrev pub read_reply : Version → CoreReply
read_reply x = reply.Granted x.state x.unit

-- how many units of the batch can commit
abbrev pub decided_reply : CoreState → Option Batch → CoreReply
decided_reply w None = reply.Unapplied
decided_reply w (Some b) = reply.Decided (length (filter is_commit (decisions_of w b)))

-- the reply to an event that applies
abbrev pub reply_with : CoreState → CoreEvent → CoreReply
reply_with w (Begin origin call plain) = reply.Began (new_unit w)
reply_with w (Grant u g mode) = read_reply (top (cleaned w g))
reply_with w Take = reply.Taken (w.manager.batches + 1)
reply_with w (Decide n) = decided_reply w w.manager.batch
reply_with w (Bad line why) = reply.Done
reply_with w (Refuse v g mode) = reply.Done
reply_with w (Finish v effect) = reply.Done
reply_with w (EndPlain v effect) = reply.Done
reply_with w (EndSnapshot v at outcome) = reply.Done
reply_with w (Release v g) = reply.Done
reply_with w (Vote n g kept) = reply.Done
reply_with w (Sealed n) = reply.Done
reply_with w (NotSealed n) = reply.Done
reply_with w (Doubt n) = reply.Done
reply_with w (Learn v g) = reply.Done
reply_with w Emitted = reply.Done
reply_with w Halt = reply.Done
reply_with w (Want v g) = reply.Done
reply_with w (Load g v state) = reply.Done

-- the reply to an event
abbrev pub reply_to : CoreState → CoreEvent → CoreReply
reply_to w e = if applies w e then reply_with w e else reply_without w e
