-- What a load answers over every host, where its turns ended.
use Rattle.std.proofs.Common.{◌≡◌, ◌≢◌, inl, inr, ℕ, ◌<◌, ◌≤◌, Bool, true, false, IsTrue, List, [], length, Result, Err, refl, sym, ◌∙◌, subst, arith}
use Rattle.std.specs.Prelude.{not}
use Rattle.host_trait.specs.declared.channels.Channel.{Channel}
use Rattle.host_trait.specs.declared.channels.Channel.TheVariants.{Input, Output}
use Rattle.host_trait.specs.Faults.{Rose}
use Rattle.host_trait.specs.World.{World}
use Rattle.request_wire.specs.declared.requests.Line.{Line}
use Rattle.script_tree.specs.Programs.{ProgramTree, program_tree}
use Rattle.core_model.specs.LegalRuns.{Run}
use Rattle.history_core.specs.Cores.{run_of}
use Rattle.promise_spec.specs.Entries.{new_log}
use Rattle.promise_spec.specs.Endings as ending
use Rattle.promise_spec.specs.Endings.{Ending, HasRisen, HasFailedAs, IsLoadCarried, MayEndLoad, BadUse, ReadFault, WriteFault as Unwritten}
use Rattle.settle_loop.specs.declared.settler.Settler.{Settler}
use Rattle.run_books.specs.declared.faults.RunFault.{RunFault}
use Rattle.run_books.specs.declared.faults.RunFault.TheVariants.{InDoubt, WriteFault, Memory, LoadFault, LoadDamaged}
use Rattle.run_books.specs.Beginnings.{Outset}
use Rattle.run_books.specs.RecordFrame.{TurnsBeside}
use Rattle.run_books.specs.Records.{TurnsEndAs}
use Rattle.promise_spec.specs.Words.{Manner}
use Rattle.silo_opening.specs.declared.opened_silo.Opened.{Opened}
use Rattle.script_check.specs.Shapes.{type_shapes}
use Rattle.input_windows.specs.Pulls.{PulledOnly}
use Rattle.silo_top.specs.declared.run_start.Started.{Started}
use Rattle.silo_top.specs.CallAnswers.{AnswersRun}
use Rattle.silo_top.specs.LineExecution.{StartsRun, CarriedOn, CarriesOn}
use Rattle.silo_top.specs.LoadSteps.{MaySaySummary, load_ending}
use Rattle.silo_top.proofs.ReadLines.{AreReadFrom}
use Rattle.silo_top.specs.RunStart.{IsStartOf, placed_state}
use Rattle.silo_top.proofs.OpenedPlaces.{OpensSo, versions_behind}
use Rattle.silo_top.proofs.TurnStart.{no_books, starts_kept, starts_quiet, starts_fresh, starts_outset}
use Rattle.silo_top.proofs.CoreOpening.{many_types}
use Rattle.input_windows.proofs.Still.{still_none}
use Rattle.silo_top.proofs.WholeLoads.{load_risen}
use Rattle.run_books.specs.Stages.{stage_by}

-- a core without events, and a settler that has written nothing: lines can be carried, whatever log the outset is told of
start_fresh : (tells : Bool) (m : Manner) (x : Opened) (st : Started) (texts : List (List ℕ)) (lines : List Line) (w0 w1 : World) (f0 f1 : Channel → ℕ)
    → IsStartOf x st → (IsTrue tells → (old : World) × OpensSo old w1 x) → (IsTrue tells → PulledOnly w0 w1) → ((c : Channel) → f0 c ≤ f1 c) → 0 < m.width → 0 < x.next_unit.0 → AreReadFrom (program_tree x.checked) 0 texts lines
    → StartsRun tells m (record { live = x.slot; program = record { text = []; types = program_tree x.checked }; asked = texts; opening = new_log (record { text = []; types = program_tree x.checked }); ruled = not m.threaded; windowed = false; width = m.width; picks = m.picks; faults = f0; world = w0 }) no_books (program_tree x.checked) lines 0 (stage_by (run_of st.core) st.settler f1 w1)
start_fresh tells m x st texts lines w0 w1 f0 f1 start opens still later wide above are =
    let types : ProgramTree = program_tree x.checked in
    let o : Outset = record { live = x.slot; program = record { text = []; types = types }; asked = texts; opening = new_log (record { text = []; types = types }); ruled = not m.threaded; windowed = false; width = m.width; picks = m.picks; faults = f0; world = w0 } in
    let base : ℕ = x.next_unit.0 in
    let kinds : ℕ = length (type_shapes types) in
    let opening = placed_state (record { types = type_shapes types }) x.places in
    subst (λ (r : Run). StartsRun tells m o no_books types lines 0 (stage_by r st.settler f1 w1)) (sym start.run) (record {
      outset = starts_outset base kinds opening o types texts lines m.width m.picks are (many_types types) refl refl refl wide refl (λ n low high. refl);
      can = starts_quiet base kinds opening types texts lines st.settler are start.doubted start.written;
      ruled = refl;
      fresh = starts_fresh base kinds opening o;
      kept = starts_kept base kinds opening tells o st.settler f1 w1 above later start.written start.doubted start.sealing start.settles (λ told. versions_behind (opens told).0 w1 x st start (opens told).1 o refl refl) still;
    })

-- a load whose turns ended by a fault names it, and nothing of the input or the output failed
faulted_answers : (live : ℕ) (fault : RunFault) (old new : Channel → ℕ) → HasRisen (load_ending live fault) old new → new Input ≡ old Input → new Output ≡ old Output → AnswersRun MayEndLoad (load_ending live fault) old new
faulted_answers live fault old new risen pulled calm = record {
  good = good fault;
  risen = risen;
  input = λ other. absurd (other pulled);
  output = λ other. absurd (other calm);
  exact = λ unbegun. absurd (unbegun (begun fault));
}
  where
    good : (f : RunFault) → load_ending live f ≢ BadUse
    good InDoubt t = cc t
    good WriteFault t = cc t
    good Memory t = cc t
    good (LoadFault file) t = cc t
    good (LoadDamaged file place) t = cc t

    begun : (f : RunFault) → MayEndLoad (load_ending live f)
    begun InDoubt = inl tt
    begun WriteFault = inl tt
    begun Memory = inl tt
    begun (LoadFault file) = inl tt
    begun (LoadDamaged file place) = inr tt

-- so it is over every host
pub turns_faulted : {T : Type 0} (tells : Bool) (m : Manner) (x : Opened) (st : Started) (texts : List (List ℕ)) (lines : List Line) (w1 w2 : World) (f1 f2 : Channel → ℕ) (result : Result T RunFault) (r' : Run) (s' : Settler) (used : ℕ)
    → IsStartOf x st → (IsTrue tells → (old : World) × OpensSo old w1 x) → st.settler.quiet ≡ true → 0 < m.width → 0 < x.next_unit.0 → AreReadFrom (program_tree x.checked) 0 texts lines
    → CarriesOn tells m (program_tree x.checked) lines 0 used (stage_by (run_of st.core) st.settler f1 w1) (stage_by r' s' f2 w2) result
    → TurnsBeside tells (stage_by (run_of st.core) st.settler f1 w1) (stage_by r' s' f2 w2) result → (fault : RunFault) → result ≡ Err fault → AnswersRun MayEndLoad (load_ending x.slot fault) f1 f2
turns_faulted {T} tells m x st texts lines w1 w2 f1 f2 result r' s' used start opens hush wide above are carries beside fault q =
    let o : Outset = record { live = x.slot; program = record { text = []; types = program_tree x.checked }; asked = texts; opening = new_log (record { text = []; types = program_tree x.checked }); ruled = not m.threaded; windowed = false; width = m.width; picks = m.picks; faults = f1; world = w1 } in
    let goes : CarriedOn {T = T} tells m o no_books used (stage_by (run_of st.core) st.settler f1 w1) (stage_by r' s' f2 w2) result =
    carries o no_books (start_fresh tells m x st texts lines w1 w1 f1 f1 start opens (λ told. still_none w1) (λ c. omega arith) wide above are) in
    let ended : TurnsEndAs tells o goes.on.books (stage_by r' s' f2 w2) {T = T} (Err fault) = subst (TurnsEndAs tells o goes.on.books (stage_by r' s' f2 w2)) q goes.on.ended in
    faulted_answers x.slot fault f1 f2 (load_risen T tells o goes.on.books r' s' f2 w2 fault ended) beside.pulled (beside.calm hush)

-- where the summary was to be printed
pub summary_answers : (e : Ending) (old mid new : Channel → ℕ) → MaySaySummary e → HasFailedAs e mid new → mid Input ≡ old Input → mid Output ≡ old Output → AnswersRun MayEndLoad e old new
summary_answers e old mid new may failed pulled calm =
    record {
      good = good_by e may;
      risen = risen_by e may failed;
      input = λ other. absurd (other (pulled_by e may failed));
      output = output_by e may failed;
      exact = λ unbegun. absurd (unbegun (begun_by e may));
    }
  where
    pulled_by : (y : Ending) → MaySaySummary y → HasFailedAs y mid new → new Input ≡ old Input
    pulled_by y (inl q) f = (subst (λ (z : Ending). HasFailedAs z mid new) q f) Input ∙ pulled
    pulled_by y (inr (inl q)) f = (subst (λ (z : Ending). HasFailedAs z mid new) q f).counts.others Input (λ t. cc t) ∙ pulled
    pulled_by y (inr (inr q)) f = (subst (λ (z : Ending). HasFailedAs z mid new) q f) Input ∙ pulled

    output_by : (y : Ending) → MaySaySummary y → HasFailedAs y mid new → new Output ≢ old Output → y ≡ Unwritten
    output_by y (inl q) f other = absurd (other ((subst (λ (z : Ending). HasFailedAs z mid new) q f) Output ∙ calm))
    output_by y (inr (inl q)) f other = q
    output_by y (inr (inr q)) f other = absurd (other ((subst (λ (z : Ending). HasFailedAs z mid new) q f) Output ∙ calm))

    risen_by : (y : Ending) → MaySaySummary y → HasFailedAs y mid new → HasRisen y old new
    risen_by y (inl q) f = subst (λ (z : Ending). HasRisen z old new) (sym q) tt
    risen_by y (inr (inl q)) f = subst (λ (z : Ending). HasRisen z old new) (sym q) (subst (λ (k : ℕ). Rose k (new Output)) calm (subst (λ (z : Ending). HasFailedAs z mid new) q f).rose)
    risen_by y (inr (inr q)) f = subst (λ (z : Ending). HasRisen z old new) (sym q) tt

    good_by : (y : Ending) → MaySaySummary y → y ≢ BadUse
    good_by y (inl q) t = (let z : ending.Done ≡ BadUse = sym q ∙ t in cc z)
    good_by y (inr (inl q)) t = (let z : Unwritten ≡ BadUse = sym q ∙ t in cc z)
    good_by y (inr (inr q)) t = (let z : ending.Memory ≡ BadUse = sym q ∙ t in cc z)

    begun_by : (y : Ending) → MaySaySummary y → MayEndLoad y
    begun_by y (inl q) = inl (subst IsLoadCarried (sym q) tt)
    begun_by y (inr (inl q)) = inl (subst IsLoadCarried (sym q) tt)
    begun_by y (inr (inr q)) = inl (subst IsLoadCarried (sym q) tt)
