-- What carries lines can go on, and what follows, however the lines are carried of a load that has begun.
use Rattle.std.specs.Prelude.{◌≡◌, ◌<◌, ℕ, Bool, List, length, Result, Ok, Err}
use Rattle.host_trait.specs.declared.channels.Channel.{Channel}
use Rattle.host_trait.specs.World.{World}
use Rattle.core_model.specs.LegalRuns.{ends}
use Rattle.history_core.specs.Cores.{run_of}
use Rattle.history_core.specs.declared.whole_core.Core.{Core}
use Rattle.request_wire.specs.declared.requests.Line.{Line}
use Rattle.script_tree.specs.Programs.{program_tree}
use Rattle.settle_loop.specs.declared.settler.Settler.{Settler}
use Rattle.promise_laws.specs.Closings.{ReadsMayStay}
use Rattle.promise_spec.specs.Words.{Manner, Load}
use Rattle.promise_spec.specs.Endings.{HasFailedAs, MayEndLoad}
use Rattle.promise_spec.specs.Loads.{Loads}
use Rattle.bank_load.specs.Summaries.{summary_line, total_kept}
use Rattle.run_books.specs.Stages.{Side, stage_by, side_by, IsSafe}
use Rattle.run_books.specs.declared.faults.RunFault.{RunFault}
use Rattle.silo_top.specs.declared.run_start.Started.{Started}
use Rattle.silo_top.specs.declared.status.Status.{Status}
use Rattle.silo_top.specs.Statuses.{status_ending}
use Rattle.silo_top.specs.CallAnswers.{shown, AnswersRun}
use Rattle.silo_top.specs.LineExecution.{CarriedLines}
use Rattle.silo_top.specs.LoadSteps.{load_ending, SaysSummary, MaySaySummary}

-- lines can be carried by what was started
pub record CanCarry (tells : Bool) (s : Started) (now : World) : Type 0 where
  pub above : 0 < (run_of s.core).base
  pub safe : IsSafe tells s.settler.writer now

-- they were, in this manner and from the first pick on, and ended so
pub record WasCarried (tells : Bool) (s : Started) (lines : List Line) (counts : Channel → ℕ) (now : World) (m : Manner) (after : Side) (result : Result Core RunFault) : Type 0 where
  pub wide : 0 < m.width
  pub used : ℕ
  pub carried : CarriedLines tells m (program_tree s.checked) lines 0 used (stage_by (run_of s.core) s.settler counts now) after result

-- ---- a load

-- how a load in this slot ends behind its lines: by the fault that ended them, or by its summary
abbrev pub LoadCounts : ℕ → Result Core RunFault → Status → (Channel → ℕ) → (Channel → ℕ) → Type 0
LoadCounts live (Ok core) status after final = HasFailedAs (status_ending status) after final × MaySaySummary (status_ending status)
LoadCounts live (Err fault) status after final = (status_ending status ≡ load_ending live fault) × (final ≡ after)

-- what it says: nothing, or its summary of so many requests
abbrev pub LoadSays : Result Core RunFault → ℕ → Status → World → World → Type 0
LoadSays (Ok core) requests status new last =
    SaysSummary (summary_line (ends (run_of core)).manager.settled requests (total_kept (ends (run_of core)) 64)) (status_ending status) new last
LoadSays (Err fault) requests status new last = last ≡ new

-- over a host that tells, a load that began in this old world keeps its promise
abbrev pub LoadsOn : ℕ → ℕ → Bool → Started → List Line → (Channel → ℕ) → World → (Channel → ℕ) → World → Type 0
LoadsOn n seed tells s lines before old counts now =
    (m : Manner) (settler' : Settler) (after : Channel → ℕ) (new : World) (result : Result Core RunFault) (requests : ℕ) (status : Status) (final : Channel → ℕ) (last : World)
    → WasCarried tells s lines counts now m (side_by settler' after new) result → ReadsMayStay new → LoadCounts s.slot result status after final → LoadSays result requests status new last
    → requests ≡ length lines → Loads n seed m (shown old last before final status (Load n seed m))

-- over any host, what it answers is right
abbrev pub LoadAnswersOn : Bool → Started → List Line → (Channel → ℕ) → (Channel → ℕ) → World → Type 0
LoadAnswersOn tells s lines before counts now =
    (m : Manner) (settler' : Settler) (after : Channel → ℕ) (new : World) (result : Result Core RunFault) (status : Status) (final : Channel → ℕ)
    → WasCarried tells s lines counts now m (side_by settler' after new) result → LoadCounts s.slot result status after final → AnswersRun MayEndLoad (status_ending status) before final
