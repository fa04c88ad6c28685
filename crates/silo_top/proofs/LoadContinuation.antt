-- However the lines of a load were carried, it keeps what is promised behind its opening.
use Rattle.std.proofs.Common.{◌≡◌, ℕ, ◌<◌, Bool, true, IsTrue, List, length, Result, Ok, Err, refl, sym, subst}
use Rattle.host_trait.specs.declared.channels.Channel.{Channel}
use Rattle.host_trait.specs.Faults.{NoneFailed}
use Rattle.host_trait.specs.World.{World}
use Rattle.core_model.specs.LegalRuns.{Run, ends}
use Rattle.history_core.specs.Cores.{run_of}
use Rattle.history_core.specs.declared.whole_core.Core.{Core}
use Rattle.program_file.specs.Programs.{program_in}
use Rattle.promise_laws.specs.Closings.{ReadsMayStay}
use Rattle.request_wire.specs.declared.requests.Line.{Line}
use Rattle.script_tree.specs.Programs.{program_tree}
use Rattle.settle_loop.specs.declared.settler.Settler.{Settler}
use Rattle.run_books.specs.declared.faults.RunFault.{RunFault}
use Rattle.promise_spec.specs.Endings.{Ending, MayEndLoad}
use Rattle.promise_spec.specs.Words.{Manner}
use Rattle.promise_spec.specs.Loads.{bank_text, load_calls, AskFor}
use Rattle.bank_load.specs.Requests.{load_texts}
use Rattle.bank_load.specs.Summaries.{summary_line, total_kept}
use Rattle.silo_opening.specs.declared.opened_silo.Opened.{Opened}
use Rattle.silo_top.specs.declared.run_start.Started.{Started}
use Rattle.silo_top.specs.declared.status.Status.{Status}
use Rattle.silo_top.specs.CallAnswers.{AnswersRun}
use Rattle.silo_top.specs.LineExecution.{CarriedLines}
use Rattle.silo_top.specs.Continuation.{LoadCounts, LoadSays}
use Rattle.silo_top.specs.LoadSteps.{IsNewBank, CarriesLoad, SaysSummary}
use Rattle.silo_top.specs.RunBehindOpening.{IsBehindOpening}
use Rattle.silo_top.specs.RunStart.{IsStartOf}
use Rattle.silo_top.specs.Statuses.{status_ending}
use Rattle.silo_top.proofs.ShownCalls.{observed_call}
use Rattle.silo_top.proofs.OpenedPlaces.{OpensSo}
use Rattle.silo_top.proofs.LoadAnswers.{turns_faulted, summary_answers}
use Rattle.silo_top.proofs.WholeLoads.{failed_carries, summed_carries}
use Rattle.silo_top.proofs.ReadLines.{AreReadFrom}
use Rattle.run_books.specs.Stages.{side_by, stage_by}

-- over a host that tells
pub load_carries : (n seed : ℕ) (m : Manner) (x : Opened) (st : Started) (old mid new : World) (before between after : Channel → ℕ) (result : Result Core RunFault) → IsBehindOpening old mid x → IsStartOf x st
    → program_in bank_text ≡ Ok (program_tree x.checked) → IsNewBank old → ReadsMayStay mid → ReadsMayStay new → st.settler.quiet ≡ true → (lines : List Line) → AreReadFrom (program_tree x.checked) 0 (load_texts n seed) lines
    → 0 < m.width → 0 < x.next_unit.0 → NoneFailed before between → (settler' : Settler) (used : ℕ) → CarriedLines true m (program_tree x.checked) lines 0 used (stage_by (run_of st.core) st.settler between mid) (side_by settler' after new) result
    → AskFor (program_tree x.checked) (load_texts n seed) (load_calls n seed) → (requests : ℕ) → requests ≡ length (load_texts n seed) → (status : Status) (final : Channel → ℕ) (last : World)
    → LoadCounts x.slot result status after final → LoadSays result requests status new last → CarriesLoad n seed (observed_call m (load_texts n seed) old last before final status)
load_carries n seed m x st old mid new before between after (Err fault) behind start bank_is bank stay_mid stay_new quiet lines are wide above none settler' used carried asks requests many status final last counts says =
    subst (λ (w : World). CarriesLoad n seed (observed_call m (load_texts n seed) old w before final status)) (sym says)
    (subst (λ (f : Channel → ℕ). CarriesLoad n seed (observed_call m (load_texts n seed) old new before f status)) (sym counts.1)
    (failed_carries n seed m x st old mid new before between after (Err fault) behind start bank_is bank stay_mid stay_new quiet lines are wide above none carried.left settler' used carried.carries carried.beside asks fault refl status counts.0))
load_carries n seed m x st old mid new before between after (Ok core) behind start bank_is bank stay_mid stay_new quiet lines are wide above none settler' used carried asks requests many status final last counts says =
    summed_carries n seed m x st old mid new before between after (Ok core) behind start bank_is bank stay_mid stay_new quiet lines are wide above none carried.left settler' used carried.carries carried.beside asks core refl status last final requests many
    (subst (λ (r : Run). SaysSummary (summary_line (ends r).manager.settled requests (total_kept (ends r) 64)) (status_ending status) new last) carried.core says)
    counts.0 counts.1

-- over any host
pub load_answers : (tells : Bool) (n seed : ℕ) (m : Manner) (x : Opened) (st : Started) (mid new : World) (between after : Channel → ℕ) (result : Result Core RunFault) → IsStartOf x st → (IsTrue tells → (old : World) × OpensSo old mid x) → st.settler.quiet ≡ true → (lines : List Line)
    → AreReadFrom (program_tree x.checked) 0 (load_texts n seed) lines → 0 < m.width → 0 < x.next_unit.0 → (settler' : Settler) (used : ℕ)
    → CarriedLines tells m (program_tree x.checked) lines 0 used (stage_by (run_of st.core) st.settler between mid) (side_by settler' after new) result → (status : Status) (final : Channel → ℕ) → LoadCounts x.slot result status after final → AnswersRun MayEndLoad (status_ending status) between final
load_answers tells n seed m x st mid new between after (Err fault) start opens quiet lines are wide above settler' used carried status final counts =
    subst (λ (f : Channel → ℕ). AnswersRun MayEndLoad (status_ending status) between f) (sym counts.1)
    (subst (λ (e : Ending). AnswersRun MayEndLoad e between after) (sym counts.0)
    (turns_faulted tells m x st (load_texts n seed) lines mid new between after (Err fault) carried.left settler' used start opens quiet wide above are carried.carries carried.beside fault refl))
load_answers tells n seed m x st mid new between after (Ok core) start opens quiet lines are wide above settler' used carried status final counts =
    summary_answers (status_ending status) between after final counts.1 counts.0 carried.beside.pulled (carried.beside.calm quiet)
