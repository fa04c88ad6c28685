-- What an event does where it applies.
use Rattle.std.specs.Prelude.{ℕ, ◌+◌, List, [], ◌∷◌, ◌++◌, Bool, true, ◌&&◌, ◌||◌, not, Option, Some, None, if◌then◌else◌, length, take, filter, map}
use Rattle.base_types.specs.declared.calls.Origin.TheVariants.{Line, Child}
use Rattle.base_types.specs.declared.entries.Settled.TheVariants as settled
use Rattle.base_types.specs.declared.entries.BadRequest.{BadRequest}
use Rattle.cell_model.specs.declared.outcomes.Decision.TheVariants as decision
use Rattle.cell_model.specs.Locks as locks
use Rattle.cell_model.specs.Locks.{dropped, holds_lock}
use Rattle.cell_model.specs.Sources.{with_source}
use Rattle.cell_model.specs.Decisions as decisions
use Rattle.cell_model.specs.Decisions.{is_commit}
use Rattle.cell_model.specs.Cells.{with_reading, without_reading, stacked, learnt}
use Rattle.core_model.specs.declared.questions.AskAnswer.{AskAnswer}
use Rattle.core_model.specs.declared.questions.AskAnswer.TheVariants as answer
use Rattle.core_model.specs.CoreState.{UnitNo, GrainId, nobody, same_unit, same_grain, Version, top, cut, Mode, Value, Call, Outcome, Origin, Entry, Settled, Read, Effect, Decision, put, put_grain, Running, Finished, Refused, Ended, Verdict, Open, Chosen, Condemned, Committed, Aborted, Batch, CoreState}
use Rattle.core_model.specs.Tests.{any, is_committed, is_aborted, is_bad, state_written, waiting, members, planned, prepared, is_idle, is_recent}

-- a line's unit has an entry for it, a child has none
abbrev pub entry_for : Origin → UnitNo → Settled → List Entry
entry_for (Line n) u what = record { line = n; unit = u; what = what } ∷ []
entry_for (Child p i d) u what = []

-- the waits of the others
abbrev pub without_wants : UnitNo → List (UnitNo × GrainId) → List (UnitNo × GrainId)
without_wants u wants = filter (λ t. not (same_unit t.0 u)) wants

-- the waits but the unit's for that grain
abbrev pub without_want : UnitNo → GrainId → List (UnitNo × GrainId) → List (UnitNo × GrainId)
without_want u g wants = filter (λ t. not (same_unit t.0 u && same_grain t.1 g)) wants

-- the next line is bad
abbrev pub spoiled_line : CoreState → ℕ → BadRequest → CoreState
spoiled_line w line why = record w {
  units = record w.units { lines = w.units.lines + 1 };
  manager = record w.manager { settled = w.manager.settled ++ record { line = line; unit = nobody; what = settled.Bad why } ∷ [] };
}

-- the unit that begins next
abbrev pub new_unit : CoreState → UnitNo
new_unit w = record { 0 = w.units.next }

-- one more line has begun, where the unit is a line's
abbrev pub lines_with : ℕ → Origin → ℕ
lines_with lines (Line n) = lines + 1
lines_with lines (Child p i d) = lines

-- a child stands last among its parent's children
abbrev pub kids_with : (UnitNo → List UnitNo) → Origin → UnitNo → UnitNo → List UnitNo
kids_with kids (Line n) u = kids
kids_with kids (Child p i d) u = put kids p (kids p ++ u ∷ [])

-- a unit runs
abbrev pub begun : CoreState → Origin → Call → Bool → CoreState
begun w origin call plain = record w {
  units = record w.units {
    next = w.units.next + 1;
    lines = lines_with w.units.lines origin;
    phase = put w.units.phase (new_unit w) Running;
    origin = put w.units.origin (new_unit w) origin;
    call = put w.units.call (new_unit w) call;
    plain = put w.units.plain (new_unit w) plain;
    kids = kids_with w.units.kids origin (new_unit w);
  };
}

-- the grain has that stack
abbrev pub restacked : CoreState → GrainId → List Version → CoreState
restacked w g xs = record w { cells = record w.cells { stack = put_grain w.cells.stack g xs } }

-- the stack without the versions of aborted units and what stands above them
abbrev pub cleaned : CoreState → GrainId → List Version
cleaned w g = cut (λ x. is_aborted (w.manager.verdict x.unit)) (w.cells.stack g)

-- the grain is the one used last; the oldest goes where there are too many
abbrev pub touched : Option ℕ → GrainId → List GrainId → List GrainId
touched None g recent = recent
touched (Some n) g recent = take n (g ∷ filter (λ k. not (same_grain k g)) recent)

-- what a unit reads where that version is on top
abbrev pub read_of : GrainId → Version → Read
read_of g x = record { grain = g; state = x.state; source = x.unit }

-- the opening state, or known committed
abbrev pub is_sure : CoreState → UnitNo → Bool
is_sure w u = same_unit u nobody || is_committed (w.manager.verdict u)

-- the source is a dependency where it isn't sure
abbrev pub deps_with : CoreState → List UnitNo → UnitNo → List UnitNo
deps_with w deps source = if is_sure w source then deps else with_source deps source

-- the unit locks the grain and reads the version on top
abbrev pub after_lock : CoreState → UnitNo → GrainId → Mode → CoreState
after_lock w u g mode = record w {
  units = record w.units {
    reads = put w.units.reads u (w.units.reads u ++ read_of g (top (w.cells.stack g)) ∷ []);
    deps = put w.units.deps u (deps_with w (w.units.deps u) (top (w.cells.stack g)).unit);
    wants = without_want u g w.units.wants;
  };
  cells = record w.cells {
    holds = put_grain w.cells.holds g (locks.granted (w.cells.holds g) u mode);
    readings = put_grain w.cells.readings g (with_reading (w.cells.readings g) u (top (w.cells.stack g)).unit);
    recent = touched w.cells.capacity g w.cells.recent;
  };
}

-- the unit's lock gets that mode
abbrev pub after_raise : CoreState → UnitNo → GrainId → Mode → CoreState
after_raise w u g mode = record w {
  cells = record w.cells {
    holds = put_grain w.cells.holds g (locks.granted (w.cells.holds g) u mode);
    readings = put_grain w.cells.readings g (with_reading (w.cells.readings g) u (top (w.cells.stack g)).unit);
  };
}

-- the grain's stack is cleaned, then the unit gets the lock
abbrev pub after_grant : CoreState → UnitNo → GrainId → Mode → CoreState
after_grant w u g mode =
    if holds_lock u (w.cells.holds g)
    then after_raise (restacked w g (cleaned w g)) u g mode
    else after_lock (restacked w g (cleaned w g)) u g mode

-- why a unit that asks can be refused, if it can
abbrev pub refusal : GrainId → AskAnswer → Option Settled
refusal g (answer.MustDie holder) = Some (settled.Lock holder g)
refusal g (answer.Doomed source) = Some (settled.Dependency source)
refusal g answer.NotActive = None
refusal g answer.Held = None
refusal g (answer.MustWait holder) = None
refusal g answer.Absent = None
refusal g answer.Free = None

-- the unit is aborted, and its line is settled
abbrev pub after_refusal : CoreState → UnitNo → Settled → CoreState
after_refusal w u why = record w {
  units = record w.units { phase = put w.units.phase u Refused; wants = without_wants u w.units.wants };
  manager = record w.manager {
    verdict = put w.manager.verdict u Aborted;
    settled = w.manager.settled ++ entry_for (w.units.origin u) u why;
  };
}

-- the unit is aborted for the cause, where there is one
abbrev pub refused_by : CoreState → UnitNo → Option Settled → CoreState
refused_by w u None = w
refused_by w u (Some why) = after_refusal w u why

-- a transaction takes the last place in the finish order
abbrev pub finished : CoreState → UnitNo → Effect → CoreState
finished w u effect = record w {
  units = record w.units { phase = put w.units.phase u Finished; wants = without_wants u w.units.wants };
  manager = record w.manager {
    order = w.manager.order ++ u ∷ [];
    place = put w.manager.place u (length w.manager.order + 1);
    writes = put w.manager.writes u effect.writes;
    answers = put w.manager.answers u effect.answers;
    result = put w.manager.result u effect.result;
  };
}

-- a plain run has ended, and its line is settled
abbrev pub after_end : CoreState → UnitNo → List Outcome → Outcome → Option ℕ → CoreState
after_end w u answers result at = record w {
  units = record w.units {
    phase = put w.units.phase u Ended;
    seen_at = put w.units.seen_at u at;
    wants = without_wants u w.units.wants;
  };
  manager = record w.manager {
    answers = put w.manager.answers u answers;
    result = put w.manager.result u result;
    settled = w.manager.settled ++ entry_for (w.units.origin u) u (settled.Done result);
  };
}

-- the unit's new version goes on the grain's stack, and its lock goes
abbrev pub after_release : CoreState → UnitNo → GrainId → CoreState
after_release w u g = record w {
  cells = record w.cells {
    stack = put_grain w.cells.stack g (stacked (w.cells.readings g) (w.cells.stack g) u (state_written g (w.manager.writes u)));
    holds = put_grain w.cells.holds g (dropped (w.cells.holds g) u);
    readings = put_grain w.cells.readings g (without_reading (w.cells.readings g) u);
  };
}

-- that batch is open, or none
abbrev pub with_batch : CoreState → Option Batch → CoreState
with_batch w b = record w { manager = record w.manager { batch = b } }

-- the next batch, of that many units, with its plan
abbrev pub new_batch : CoreState → ℕ → Batch
new_batch w size = record {
  number = w.manager.batches + 1;
  size = size;
  plan = planned w (take size (waiting w));
  votes = [];
  decisions = None;
}

-- a batch of that many units is open
abbrev pub after_take : CoreState → ℕ → CoreState
after_take w size = record w {
  manager = record w.manager { batches = w.manager.batches + 1; batch = Some (new_batch w size) };
}

-- one more vote
abbrev pub voted : CoreState → Batch → GrainId → Bool → CoreState
voted w b g kept = with_batch w (Some (record b { votes = b.votes ++ (g, kept) ∷ [] }))

-- the decisions of a batch
abbrev pub decisions_of : CoreState → Batch → List Decision
decisions_of w b = decisions.all_decided (λ u. is_bad (w.manager.verdict u)) (map (prepared w b) (members w b))

-- the verdict that a decision makes
abbrev pub verdict_of : Decision → Verdict
verdict_of d = if is_commit d then Chosen else Condemned

-- the verdicts with one for each unit of the batch
abbrev pub judged : List UnitNo → List Decision → (UnitNo → Verdict) → UnitNo → Verdict
judged (u ∷ us) (d ∷ ds) verdict = judged us ds (put verdict u (verdict_of d))
judged [] ds verdict = verdict
judged (u ∷ us) [] verdict = verdict

-- the open batch is decided
abbrev pub with_decisions : CoreState → Batch → List Decision → CoreState
with_decisions w b ds = record w {
  manager = record w.manager {
    verdict = judged (members w b) ds w.manager.verdict;
    batch = Some (record b { decisions = Some ds });
  };
}

-- what becomes of a decided unit where its batch is on disk
abbrev pub seal : Verdict → Verdict
seal Chosen = Committed
seal Condemned = Aborted
seal Open = Open
seal Committed = Committed
seal Aborted = Aborted

-- where it never will be
abbrev pub spoil : Verdict → Verdict
spoil Chosen = Aborted
spoil Condemned = Aborted
spoil Open = Open
spoil Committed = Committed
spoil Aborted = Aborted

-- where nobody knows
abbrev pub leave : Verdict → Verdict
leave Condemned = Aborted
leave Open = Open
leave Chosen = Chosen
leave Committed = Committed
leave Aborted = Aborted

-- what a unit's line is told: its cause, or the given answer where it could commit
abbrev pub told : Settled → Decision → Settled
told answer decision.Commit = answer
told answer (decision.Vote g) = settled.Vote g
told answer (decision.Dependency on) = settled.Dependency on

-- the entries of a batch, in its order
abbrev pub entries_in : CoreState → (UnitNo → Settled) → List UnitNo → List Decision → List Entry
entries_in w answer (u ∷ us) (d ∷ ds) = entry_for (w.units.origin u) u (told (answer u) d) ++ entries_in w answer us ds
entries_in w answer [] ds = []
entries_in w answer (u ∷ us) [] = []

-- a unit's result, for its line
abbrev pub result_told : CoreState → UnitNo → Settled
result_told w u = settled.Done (w.manager.result u)

-- the batch is settled and closed
abbrev pub closed : CoreState → (Verdict → Verdict) → (UnitNo → Settled) → Batch → List Decision → CoreState
closed w f answer b ds = record w {
  manager = record w.manager {
    verdict = λ u. f (w.manager.verdict u);
    settled = w.manager.settled ++ entries_in w answer (members w b) ds;
    closed = w.manager.closed + b.size;
    batch = None;
    past = w.manager.past ++ record b { decisions = Some ds } ∷ [];
  };
}

-- the batch is on disk
abbrev pub sealed : CoreState → Batch → List Decision → CoreState
sealed w b ds = closed w seal (result_told w) b ds

-- the batch isn't on disk and never will be
abbrev pub spoiled : CoreState → Batch → List Decision → CoreState
spoiled w b ds = closed w spoil (λ u. settled.Disk) b ds

-- nobody knows whether the batch is on disk
abbrev pub in_doubt : CoreState → Batch → List Decision → CoreState
in_doubt w b ds = record w {
  manager = record (closed w leave (λ u. settled.InDoubt) b ds).manager { doubt = Some w.manager.closed };
}

-- a batch in which nothing can commit is settled and closed at once
abbrev pub decided_by : CoreState → Batch → List Decision → CoreState
decided_by w b ds =
    if any is_commit ds then with_decisions w b ds else sealed (with_decisions w b ds) b ds

-- the open batch is decided, by its votes and the verdicts so far
abbrev pub decided : CoreState → Batch → CoreState
decided w b = decided_by w b (decisions_of w b)

-- a change to the open batch
abbrev pub on_batch : CoreState → (Batch → CoreState) → Option Batch → CoreState
on_batch w f None = w
on_batch w f (Some b) = f b

-- a change by the decisions, where there are any
abbrev pub on_decisions : CoreState → (List Decision → CoreState) → Option (List Decision) → CoreState
on_decisions w f None = w
on_decisions w f (Some ds) = f ds

-- a change to the open batch, with its decisions
abbrev pub on_decided : CoreState → (Batch → List Decision → CoreState) → Option Batch → CoreState
on_decided w f None = w
on_decided w f (Some b) = on_decisions w (f b) b.decisions

-- the grain learns the unit's decision
abbrev pub after_learn : CoreState → UnitNo → GrainId → CoreState
after_learn w u g = record w {
  cells = record w.cells {
    stack = put_grain w.cells.stack g (learnt (is_committed (w.manager.verdict u)) u (w.cells.stack g));
    learnt = put w.cells.learnt u (put_grain (w.cells.learnt u) g true);
  };
}

-- the grain is in memory, with that version
abbrev pub loaded : CoreState → GrainId → UnitNo → List Value → CoreState
loaded w g u state = record w {
  cells = record w.cells {
    stack = put_grain w.cells.stack g (record { unit = u; state = state } ∷ []);
    here = put_grain w.cells.here g true;
    recent = touched w.cells.capacity g w.cells.recent;
  };
}

-- the grain stays in memory: it was used lately, or isn't idle
abbrev pub stays : CoreState → GrainId → Bool
stays w g = w.cells.here g && (is_recent w g || not (is_idle w g))

-- idle grains that weren't used lately leave memory, where it has a limit
abbrev pub swept_by : CoreState → Option ℕ → CoreState
swept_by w None = w
swept_by w (Some n) = record w { cells = record w.cells { here = λ g. stays w g } }

-- idle grains have left memory
abbrev pub swept : CoreState → CoreState
swept w = swept_by w w.cells.capacity
