-- A run goes on with the next window of its input, or to its end.
use Rattle.std.proofs.Common.{◌≡◌, ◌≢◌, inl, inr, ◌⊎◌, ℕ, ◌%◌, ◌<◌, ◌≤◌, ◌==◌, Bool, true, false, IsTrue, List, [], ◌++◌, length, Option, Result, Ok, Err, refl, sym, ◌∙◌, ap, subst, arith, append-nil, append_assoc, length-append}
use Rattle.std.specs.Prelude.{take, not, IfOk}
use Rattle.host_trait.specs.declared.channels.Channel.{Channel}
use Rattle.host_trait.specs.declared.channels.Channel.TheVariants.{Input, Output, File}
use Rattle.host_trait.specs.declared.channels.FileId.{FileId}
use Rattle.host_trait.specs.declared.channels.FileId.TheVariants.{Manager}
use Rattle.host_trait.specs.Faults.{NoneFailed, Rose}
use Rattle.host_trait.specs.World.{World, Moment}
use Rattle.request_wire.specs.Lines.{lines_of}
use Rattle.request_wire.specs.declared.requests.Line.{Line}
use Rattle.run_lines.specs.LineReadings.{lines_from_texts}
use Rattle.script_tree.specs.Programs.{ProgramTree, program_tree}
use Rattle.core_model.specs.LegalRuns.{Run}
use Rattle.core_model.specs.Laws.{extended}
use Rattle.core_model.specs.declared.events.CoreEvent.{CoreEvent}
use Rattle.history_core.specs.Cores.{run_of}
use Rattle.history_core.specs.declared.whole_core.Core.{Core}
use Rattle.input_windows.specs.GivenWindows.{HasGiven, HasNext, IsGood, InputEndsAs, InputEnds}
use Rattle.input_windows.specs.Pulls.{PulledOnly}
use Rattle.input_windows.specs.Windows.{window_in, left_in, before_in}
use Rattle.input_windows.specs.declared.windows.InputWindows.{InputWindows}
use Rattle.input_windows.proofs.GivenWindows.{given_still, given_front, given_allows}
use Rattle.promise_spec.specs.Cores.{core_from}
use Rattle.promise_spec.specs.Endings as ending
use Rattle.promise_spec.specs.Endings.{Ending, IsCarried, MayEndRun, IsDiskFault, IsAllWritten, HasRisen, HasFailedAs}
use Rattle.promise_spec.specs.Entries.{Log, standing_of}
use Rattle.promise_spec.specs.Courses.{Observed}
use Rattle.promise_spec.specs.Promise.{AllowsAll, AllowsSome, AllowedBy}
use Rattle.promise_spec.specs.TurnRule.{at_seam, picks_used}
use Rattle.promise_spec.specs.Windows.{feeds, first_bad, in_windows, before_first, whole_windows}
use Rattle.promise_spec.specs.Words.{Manner}
use Rattle.promise_laws.specs.Closings.{ReadsMayStay}
use Rattle.settle_loop.specs.declared.settler.Settler.{Settler}
use Rattle.interleaver.specs.Turns.{StandsBehind, LinesMayBegin}
use Rattle.interleaver.proofs.RunningTurns.{turns-record}
use Rattle.interleaver.proofs.WindowSequence.{window-begins, window-ends}
use Rattle.run_books.specs.Beginnings.{Outset}
use Rattle.run_books.specs.Books.{Books}
use Rattle.run_books.specs.RecordFrame.{TurnsBeside, EmitsAs}
use Rattle.run_books.specs.Records.{KeepsRecord, HasCarriedAll, TurnsEndAs}
use Rattle.run_books.specs.RunCourse.{turns_ending}
use Rattle.run_books.specs.Stages.{IsSafe, Stage, stage_by, side_by}
use Rattle.run_books.specs.declared.faults.RunFault.{RunFault}
use Rattle.run_books.specs.declared.faults.RunFault.TheVariants.{InDoubt, WriteFault, LoadFault, LoadDamaged, Memory}
use Rattle.run_books.proofs.MoreLines.{lasts-more}
use Rattle.run_books.proofs.ShownRecord.{ends-by, ends-carried}
use Rattle.silo_opening.specs.declared.opened_silo.Opened.{Opened}
use Rattle.silo_top.specs.CallAnswers.{AnswersRun}
use Rattle.silo_top.specs.Continuation.{CanCarry}
use Rattle.silo_top.specs.LineExecution.{CarriedOn, CarriedLines}
use Rattle.silo_top.specs.RunBehindOpening.{IsBehindOpening, ending_by_turns}
use Rattle.silo_top.specs.RunWindows.{WasOpened, outset_of, IsBetweenWindows, KeepsRunImages, IsRunUnderWay, HasKept}
use Rattle.silo_top.specs.Statuses.{status_ending}
use Rattle.silo_top.specs.declared.run_start.Started.{Started}
use Rattle.silo_top.specs.declared.run_windows.Running.{Running}
use Rattle.silo_top.specs.declared.status.Status.{Status}
use Rattle.silo_top.proofs.PulledRecord.{turns_pulled, lasts_pulled}
use Rattle.silo_top.proofs.RunEnds.{ReadSo, RunLeaves, leaves_promised}
use Rattle.silo_top.proofs.ShownCalls.{observed_run}

abbrev Counts : Type 0
Counts = Channel → ℕ

-- ---- while input is pulled

module _ (tells : Bool) (o : Outset) (b : Books) (used : ℕ) (r : Run) (s : Settler) (f f' : Counts) (now now' : World) (pulled : IsTrue tells → PulledOnly now now') (between : IsBetweenWindows tells o b used (stage_by r s f now)) where
  pub stands_pulled : f' Output ≡ f Output → ((file : FileId) → f' (File file) ≡ f (File file)) → f Input ≤ f' Input → StandsBehind tells o b used (stage_by r s f' now')
  stands_pulled output files more = record {
    lines = between.stands.lines;
    can = between.stands.can;
    fresh = between.stands.fresh;
    kept = turns_pulled tells o b r s f f' now now' pulled between.pulled output files more between.stands.kept;
  }

  pub carried_pulled : HasCarriedAll o (stage_by r s f' now')
  carried_pulled = let c = between.carried in record { run = c.run; none = c.none; never = c.never; unstopped = c.unstopped; rests = c.rests; written = c.written }

  pub images_pulled : (old : World) → IsTrue tells → KeepsRunImages old o b (stage_by r s f now) → KeepsRunImages old o b (stage_by r s f' now')
  images_pulled old told i = record {
    run = i.run;
    past = (i.past.0 ++ (pulled told).moments.more, (pulled told).moments.past ∙ ap (λ (l : List Moment). l ++ (pulled told).moments.more) i.past.1 ∙ append_assoc o.world.past i.past.0 (pulled told).moments.more);
    lasts = λ all. lasts_pulled o (take 15 (old.disk (Manager o.live)).seen) b r s.writer now now' (pulled told) (i.lasts all) (between.stands.kept.books.outside told).output.proper between.stands.fresh.doubted between.stands.fresh.rest;
  }

-- ---- the input ends

module _ (tells : Bool) (pulled : List ℕ) (asked : List (List ℕ)) (now : World) where
  carried_by : (e : Ending) → InputEndsAs e tells pulled asked now → IsCarried e
  carried_by ending.Done a = tt
  carried_by ending.BadUse a = absurd a
  carried_by ending.Memory a = tt
  carried_by ending.ReadFault a = tt
  carried_by ending.WriteFault a = absurd a
  carried_by (ending.DiskFault file) a = absurd a
  carried_by ending.NotASilo a = absurd a
  carried_by ending.AlreadyASilo a = absurd a
  carried_by (ending.Damaged file place) a = absurd a
  carried_by (ending.BadProgram fault) a = absurd a
  carried_by ending.LastGeneration a = absurd a
  carried_by (ending.UpgradeRefused at) a = absurd a
  carried_by ending.OldFormat a = absurd a
  carried_by ending.NotOld a = absurd a
  carried_by (ending.InputTooLong line) a = tt

  no_file : (e : Ending) → InputEndsAs e tells pulled asked now → IsDiskFault e → ⊥
  no_file ending.Done a d = absurd d
  no_file ending.BadUse a d = absurd a
  no_file ending.Memory a d = absurd d
  no_file ending.ReadFault a d = absurd d
  no_file ending.WriteFault a d = absurd a
  no_file (ending.DiskFault file) a d = absurd a
  no_file ending.NotASilo a d = absurd a
  no_file ending.AlreadyASilo a d = absurd a
  no_file (ending.Damaged file place) a d = absurd a
  no_file (ending.BadProgram fault) a d = absurd a
  no_file ending.LastGeneration a d = absurd a
  no_file (ending.UpgradeRefused at) a d = absurd a
  no_file ending.OldFormat a d = absurd a
  no_file ending.NotOld a d = absurd a
  no_file (ending.InputTooLong line) a d = absurd d

  good_by : (e : Ending) → InputEndsAs e tells pulled asked now → e ≢ ending.BadUse
  good_by ending.BadUse a q = absurd a
  good_by ending.Done a q = cc q
  good_by ending.Memory a q = cc q
  good_by ending.ReadFault a q = cc q
  good_by ending.WriteFault a q = absurd a
  good_by (ending.DiskFault file) a q = absurd a
  good_by ending.NotASilo a q = absurd a
  good_by ending.AlreadyASilo a q = absurd a
  good_by (ending.Damaged file place) a q = absurd a
  good_by (ending.BadProgram fault) a q = absurd a
  good_by ending.LastGeneration a q = absurd a
  good_by (ending.UpgradeRefused at) a q = absurd a
  good_by ending.OldFormat a q = absurd a
  good_by ending.NotOld a q = absurd a
  good_by (ending.InputTooLong line) a q = cc q

  -- no other channel's count has changed, and the input's hasn't fallen
  others_by : (f f' : Counts) (e : Ending) → InputEndsAs e tells pulled asked now → HasFailedAs e f f' → (f' Output ≡ f Output) × ((file : FileId) → f' (File file) ≡ f (File file)) × (f Input ≤ f' Input)
  others_by f f' e a failed = by e a failed
    where
      calm : NoneFailed f f' → (f' Output ≡ f Output) × ((file : FileId) → f' (File file) ≡ f (File file)) × (f Input ≤ f' Input)
      calm n = (n Output, λ file. n (File file), (let i = n Input in omega (arith, i)))

      by : (e : Ending) → InputEndsAs e tells pulled asked now → HasFailedAs e f f' → (f' Output ≡ f Output) × ((file : FileId) → f' (File file) ≡ f (File file)) × (f Input ≤ f' Input)
      by ending.Done a n = calm n
      by ending.BadUse a n = absurd a
      by ending.Memory a n = calm n
      by ending.ReadFault a n = (n.counts.others Output (λ q. cc q), λ file. n.counts.others (File file) (λ q. cc q), n.counts.later)
      by ending.WriteFault a n = absurd a
      by (ending.DiskFault file) a n = absurd a
      by ending.NotASilo a n = absurd a
      by ending.AlreadyASilo a n = absurd a
      by (ending.Damaged file place) a n = absurd a
      by (ending.BadProgram fault) a n = absurd a
      by ending.LastGeneration a n = absurd a
      by (ending.UpgradeRefused at) a n = absurd a
      by ending.OldFormat a n = absurd a
      by ending.NotOld a n = absurd a
      by (ending.InputTooLong line) a n = calm n

  -- a failed pull is shown by its count, and no other fault of the input is passed over
  risen_by : (old f f' : Counts) → f Input ≡ old Input → (e : Ending) → InputEndsAs e tells pulled asked now → HasFailedAs e f f' → HasRisen e old f'
  risen_by old f f' same ending.Done a n = tt
  risen_by old f f' same ending.BadUse a n = absurd a
  risen_by old f f' same ending.Memory a n = tt
  risen_by old f f' same ending.ReadFault a n = subst (λ (k : ℕ). Rose k (f' Input)) same n.rose
  risen_by old f f' same ending.WriteFault a n = absurd a
  risen_by old f f' same (ending.DiskFault file) a n = absurd a
  risen_by old f f' same ending.NotASilo a n = absurd a
  risen_by old f f' same ending.AlreadyASilo a n = absurd a
  risen_by old f f' same (ending.Damaged file place) a n = absurd a
  risen_by old f f' same (ending.BadProgram fault) a n = absurd a
  risen_by old f f' same ending.LastGeneration a n = absurd a
  risen_by old f f' same (ending.UpgradeRefused at) a n = absurd a
  risen_by old f f' same ending.OldFormat a n = absurd a
  risen_by old f f' same ending.NotOld a n = absurd a
  risen_by old f f' same (ending.InputTooLong line) a n = tt

  named_by : (old f f' : Counts) → f Input ≡ old Input → (e : Ending) → InputEndsAs e tells pulled asked now → HasFailedAs e f f' → f' Input ≢ old Input → e ≡ ending.ReadFault
  named_by old f f' same ending.Done a n other = absurd (other (n Input ∙ same))
  named_by old f f' same ending.BadUse a n other = absurd a
  named_by old f f' same ending.Memory a n other = absurd (other (n Input ∙ same))
  named_by old f f' same ending.ReadFault a n other = refl
  named_by old f f' same ending.WriteFault a n other = absurd a
  named_by old f f' same (ending.DiskFault file) a n other = absurd a
  named_by old f f' same ending.NotASilo a n other = absurd a
  named_by old f f' same ending.AlreadyASilo a n other = absurd a
  named_by old f f' same (ending.Damaged file place) a n other = absurd a
  named_by old f f' same (ending.BadProgram fault) a n other = absurd a
  named_by old f f' same ending.LastGeneration a n other = absurd a
  named_by old f f' same (ending.UpgradeRefused at) a n other = absurd a
  named_by old f f' same ending.OldFormat a n other = absurd a
  named_by old f f' same ending.NotOld a n other = absurd a
  named_by old f f' same (ending.InputTooLong line) a n other = absurd (other (n Input ∙ same))

  -- the lines of the windows that stand whole are some windows'
  some_windows : IsGood pulled asked → AllowsSome pulled (length asked)
  some_windows g =
      let windows = g.windows in
      record {
        windows = (let n = windows ∙ ap (λ (x : Option ℕ). before_first x (feeds pulled)) g.good in by (feeds pulled) n);
        most = omega (arith, windows);
      }
    where
      by : (n : ℕ) → length asked ≡ in_windows n → length asked % 4096 ≡ 0
      by n q = omega (arith, q)

module _ (m : Manner) (old now : World) (before after : Counts) (status : Status) (asked : List (List ℕ)) (i : InputEnds true old.input asked (status_ending status) now) where
  is_told : IsTrue true
  is_told = cc

  allowed_by : (e : Ending) → InputEndsAs e true i.pulled asked now → AllowedBy e i.pulled (observed_run m old now before after status) (length asked)
  allowed_by ending.Done a = record {
    input = a.input is_told;
    all = ap length (sym (ap lines_of (i.whole is_told ∙ ap (λ (l : List ℕ). i.pulled ++ l) (a.input is_told) ∙ append-nil i.pulled) ∙ a.lines));
  }
  allowed_by ending.BadUse a = absurd a
  allowed_by ending.Memory a = inr (some_windows true i.pulled asked now a)
  allowed_by ending.ReadFault a = record { good = a.good; windows = a.windows }
  allowed_by ending.WriteFault a = absurd a
  allowed_by (ending.DiskFault file) a = absurd a
  allowed_by ending.NotASilo a = absurd a
  allowed_by ending.AlreadyASilo a = absurd a
  allowed_by (ending.Damaged file place) a = absurd a
  allowed_by (ending.BadProgram fault) a = absurd a
  allowed_by ending.LastGeneration a = absurd a
  allowed_by (ending.UpgradeRefused at) a = absurd a
  allowed_by ending.OldFormat a = absurd a
  allowed_by ending.NotOld a = absurd a
  allowed_by (ending.InputTooLong line) a = record {
    number = a.number;
    first = ap (λ (l : List ℕ). first_bad 0 (lines_of l)) (i.whole is_told) ∙ a.bad now.input;
    found = ap (λ (l : List ℕ). first_bad 0 (lines_of l)) (sym (append-nil i.pulled)) ∙ a.bad [];
    before = a.before;
    is_told = a.is_told;
  }

  pub ends_reading : ReadSo (observed_run m old now before after status) asked
  ends_reading = record {
    pulled = i.pulled;
    input = i.whole is_told;
    front = i.front is_told;
    good = i.good;
    allowed = allowed_by (status_ending status) i.by;
  }

-- ---- a run that is under way

-- the program text and the log that an opening tells of are these
module _ (tells : Bool) (m : Manner) (x : Opened) (asked : List (List ℕ)) (before : Counts) (old mid : World) (b : Books) (used : ℕ) (s : Stage) where
  between_opened : (text : List ℕ) (log : Log) (w : WasOpened old mid x text log) → IsBetweenWindows tells (outset_of m x text log asked before mid) b used s
      → IsBetweenWindows tells (outset_of m x x.text w.behind.opened.log asked before mid) b used s
  between_opened text log w between =
      subst (λ (t : List ℕ). IsBetweenWindows tells (outset_of m x t w.behind.opened.log asked before mid) b used s) (sym w.text_is)
      (subst (λ (l : Log). IsBetweenWindows tells (outset_of m x text l asked before mid) b used s) (sym w.log_is) between)

  images_opened : (text : List ℕ) (log : Log) (w : WasOpened old mid x text log) → KeepsRunImages old (outset_of m x text log asked before mid) b s
      → KeepsRunImages old (outset_of m x x.text w.behind.opened.log asked before mid) b s
  images_opened text log w images =
      subst (λ (t : List ℕ). KeepsRunImages old (outset_of m x t w.behind.opened.log asked before mid) b s) (sym w.text_is)
      (subst (λ (l : Log). KeepsRunImages old (outset_of m x text l asked before mid) b s) (sym w.log_is) images)

-- ---- no further window comes

module _ (m : Manner) (x : Opened) (asked : List (List ℕ)) (before f f' : Counts) (old mid now now' : World) (b : Books) (used : ℕ) (r : Run) (s : Settler) (status : Status) (is : IsBehindOpening old mid x) where
  abbrev o : Outset
  o = outset_of m x x.text is.opened.log asked before mid

  -- what the run leaves then
  ends_leaves : IsBetweenWindows true o b used (stage_by r s f now) → KeepsRunImages old o b (stage_by r s f now) → PulledOnly now now' → InputEnds true old.input asked (status_ending status) now' → HasFailedAs (status_ending status) f f'
      → RunLeaves m o b r s (observed_run m old now' before f' status)
  ends_leaves between images pulled i failed =
      let others = others_by true i.pulled asked now' f f' (status_ending status) i.by failed in
      let stands = stands_pulled true o b used r s f f' now now' (λ t. pulled) between others.0 others.1 others.2 in
      let kept = images_pulled true o b used r s f f' now now' (λ t. pulled) between old told images in
      record {
        kept = turns-record stands.kept;
        turns = λ one. stands.kept.turns (ap not one);
        ends_so = ends-carried o (stage_by r s f' now') (status_ending status) (carried_pulled true o b used r s f f' now now' (λ t. pulled) between) (no_file true i.pulled asked now' (status_ending status) i.by);
        whole = λ other. between.stands.fresh.rest;
        risen = risen_by true i.pulled asked now' before f f' between.pulled (status_ending status) i.by failed;
        carried = carried_by true i.pulled asked now' (status_ending status) i.by;
        loud = between.loud;
        run = images.run;
        none = between.none;
        read = ends_reading m old now' before f' status asked i;
        answered = λ written. between.carried.run.answered;
        past = kept.past;
        lasts = kept.lasts;
      }
    where
      told : IsTrue true
      told = cc

-- so the run has kept its promise
pub ends_kept : (tells : Bool) (m : Manner) (before : Counts) (old : World) (run : Running) (f f' : Counts) (now now' : World) (status : Status) (u : IsRunUnderWay tells m before old run f now) → (IsTrue tells → PulledOnly now now')
    → InputEnds tells old.input u.asked (status_ending status) now' → HasFailedAs (status_ending status) f f' → (IsTrue tells → ReadsMayStay now') → HasKept tells m before old status f' now'
ends_kept tells m before old run f f' now now' status u pulled i failed stay =
    let r : Run = run_of run.started.core in
    let s : Settler = run.started.settler in
    let e : Ending = status_ending status in
    record {
      promises = λ told.
          let w : WasOpened old u.mid u.opened u.text u.log = u.told told in
          let x : Opened = u.opened in
          leaves_promised m x u.asked old u.mid now' before f' status u.books r s w.behind w.stays (stay told)
          (ends_leaves m x u.asked before f f' old u.mid now now' u.books run.used r s status w.behind
          (between_opened true m x u.asked before old u.mid u.books run.used (stage_by r s f now) u.text u.log w (subst (λ (t : Bool). IsBetweenWindows t (outset_of m x u.text u.log u.asked before u.mid) u.books run.used (stage_by r s f now)) told u.between))
          (images_opened true m x u.asked before old u.mid u.books run.used (stage_by r s f now) u.text u.log w (u.images told))
          (pulled told) (subst (λ (t : Bool). InputEnds t old.input u.asked e now') told i) failed);
      answers = record {
        good = good_by tells i.pulled u.asked now' e i.by;
        risen = risen_by tells i.pulled u.asked now' before f f' u.between.pulled e i.by failed;
        input = named_by tells i.pulled u.asked now' before f f' u.between.pulled e i.by failed;
        output = λ other. absurd (other ((others_by tells i.pulled u.asked now' f f' e i.by failed).0 ∙ u.between.emitted));
        exact = λ none. absurd (none (inl (carried_by tells i.pulled u.asked now' e i.by)));
      };
    }

-- ---- what a fault of the turns says

fault_carried : (tells : Bool) → IsTrue tells → (o : Outset) (b : Books) (s : Stage) (fault : RunFault) → TurnsEndAs tells o b s {T = Core} (Err fault) → IsCarried (ending_by_turns o.live fault)
fault_carried tells told o b s InDoubt e = tt
fault_carried tells told o b s WriteFault e = tt
fault_carried tells told o b s Memory e = tt
fault_carried tells told o b s (LoadFault file) e = tt
fault_carried tells told o b s (LoadDamaged file place) e = absurd (e.0.untold told)

-- over any host
fault_goes : (live : ℕ) (fault : RunFault) → MayEndRun (ending_by_turns live fault)
fault_goes live InDoubt = inl tt
fault_goes live WriteFault = inl tt
fault_goes live Memory = inl tt
fault_goes live (LoadFault file) = inl tt
fault_goes live (LoadDamaged file place) = inr tt

fault_good : (live : ℕ) (fault : RunFault) → ending_by_turns live fault ≢ ending.BadUse
fault_good live InDoubt q = cc q
fault_good live WriteFault q = cc q
fault_good live Memory q = cc q
fault_good live (LoadFault file) q = cc q
fault_good live (LoadDamaged file place) q = cc q

fault_unwritten : (live : ℕ) (fault : RunFault) → IsAllWritten (ending_by_turns live fault) → ⊥
fault_unwritten live InDoubt w = w
fault_unwritten live WriteFault w = w
fault_unwritten live Memory w = w
fault_unwritten live (LoadFault file) w = w
fault_unwritten live (LoadDamaged file place) w = w

fault_output : (live : ℕ) (fault : RunFault) (old mid new : ℕ) → mid ≡ old → EmitsAs {T = Core} (Err fault) mid new → new ≢ old → ending_by_turns live fault ≡ ending.WriteFault
fault_output live InDoubt old mid new calm e other = absurd (other (e ∙ calm))
fault_output live WriteFault old mid new calm e other = refl
fault_output live Memory old mid new calm e other = absurd (other (e ∙ calm))
fault_output live (LoadFault file) old mid new calm e other = absurd (other (e ∙ calm))
fault_output live (LoadDamaged file place) old mid new calm e other = absurd (other (e ∙ calm))

fault_risen : (tells : Bool) (o : Outset) (b : Books) (s : Stage) (fault : RunFault) → TurnsEndAs tells o b s {T = Core} (Err fault) → HasRisen (ending_by_turns o.live fault) o.faults s.faults
fault_risen tells o b s InDoubt e = e.0.rose
fault_risen tells o b s WriteFault e = e
fault_risen tells o b s Memory e = tt
fault_risen tells o b s (LoadFault file) e = e.0.rose
fault_risen tells o b s (LoadDamaged file place) e = tt

fault_rest : (tells : Bool) (o : Outset) (b : Books) (s : Stage) (fault : RunFault) → TurnsEndAs tells o b s {T = Core} (Err fault) → ending_by_turns o.live fault ≢ ending.WriteFault → b.rest ≡ []
fault_rest tells o b s InDoubt e other = e.1
fault_rest tells o b s WriteFault e other = absurd (other refl)
fault_rest tells o b s Memory e other = e
fault_rest tells o b s (LoadFault file) e other = e.1
fault_rest tells o b s (LoadDamaged file place) e other = e.1

-- and which lines may begin, where it comes in a window
fault_allowed : (live : ℕ) (fault : RunFault) (pulled : List ℕ) (r : Observed) (allowed : ℕ) → AllowsAll r allowed ⊎ AllowsSome pulled allowed → AllowedBy (ending_by_turns live fault) pulled r allowed
fault_allowed live InDoubt pulled r allowed a = a
fault_allowed live WriteFault pulled r allowed a = a
fault_allowed live Memory pulled r allowed a = a
fault_allowed live (LoadFault file) pulled r allowed a = a
fault_allowed live (LoadDamaged file place) pulled r allowed a = a

-- whatever else it would have come to
same_ending : (live : ℕ) (fault : RunFault) → ending_by_turns live fault ≡ turns_ending {T = Core} live (Err fault)
same_ending live InDoubt = refl
same_ending live WriteFault = refl
same_ending live Memory = refl
same_ending live (LoadFault file) = refl
same_ending live (LoadDamaged file place) = refl

-- on one thread
alone_by : (threaded : Bool) → not threaded ≡ true → threaded ≡ false
alone_by false q = refl
alone_by true q = absurd (cc q)

-- ---- a further window is carried

module _ (tells : Bool) (m : Manner) (before : Counts) (old : World) (run : Running) (f0 f f' : Counts) (w0 now now' : World) (windows : InputWindows) (used : ℕ) (settler : Settler) (result : Result Core RunFault)
    (u : IsRunUnderWay tells m before old run f0 w0) (next : HasNext tells old.input u.asked windows now) (calm : NoneFailed f0 f) (pulled : IsTrue tells → PulledOnly w0 now)
    (carried : CarriedLines tells m (program_tree run.started.checked) (lines_from_texts (program_tree run.started.checked) (before_in windows) (lines_of (window_in windows))) run.used used
    (stage_by (run_of run.started.core) run.started.settler f now) (side_by settler f' now') result) where
  abbrev texts : List (List ℕ)
  texts = lines_of (window_in windows)

  abbrev asked : List (List ℕ)
  asked = u.asked ++ texts

  abbrev types : ProgramTree
  types = program_tree u.opened.checked

  abbrev r : Run
  r = run_of run.started.core

  abbrev at : Stage
  at = stage_by r run.started.settler f now

  abbrev so_far : Outset
  so_far = outset_of m u.opened u.text u.log u.asked before u.mid

  -- the outset with the window's lines
  abbrev out : Outset
  out = outset_of m u.opened u.text u.log asked before u.mid

  stands : StandsBehind tells so_far u.books run.used at
  stands = stands_pulled tells so_far u.books run.used r run.started.settler f0 f w0 now pulled u.between (calm Output) (λ file. calm (File file)) (let e = calm Input in omega (arith, e))

  seam : at_seam true (length u.asked) ≡ true
  seam = subst (λ (n : ℕ). (n == 0) ≡ true) (sym next.seam) refl

  begins : LinesMayBegin tells out u.books types (lines_from_texts types (length u.asked) texts) m.width m.picks run.used at
  begins = window-begins tells so_far u.books run.used at types texts stands seam next.most refl u.between.kinds u.wide

  carried_so : CarriedLines tells m types (lines_from_texts types (length u.asked) texts) run.used used at (side_by settler f' now') result
  carried_so =
      subst (λ (n : ℕ). CarriedLines tells m types (lines_from_texts types n texts) run.used used at (side_by settler f' now') result) next.before
      (subst (λ (k : ProgramTree). CarriedLines tells m k (lines_from_texts k (before_in windows) texts) run.used used at (side_by settler f' now') result) (ap program_tree u.checked) carried)

  abbrev left : Run
  left = carried_so.left

  abbrev then_at : Stage
  then_at = stage_by left settler f' now'

  goes : CarriedOn tells m out u.books used at then_at result
  goes = carried_so.carries out u.books (record { outset = begins.outset; can = begins.can; ruled = refl; fresh = begins.fresh; kept = begins.kept })

  beside : TurnsBeside tells at then_at result
  beside = carried_so.beside

  abbrev books : Books
  books = goes.on.books

  images : IsTrue tells → KeepsRunImages old out books then_at
  images told =
      let i = images_pulled tells so_far u.books run.used r run.started.settler f0 f w0 now pulled u.between old told (u.images told) in
      let head : List ℕ = take 15 (old.disk (Manager u.opened.slot)).seen in
      let later = beside.past told in
      record {
        run = beside.core ∙ ap (λ (z : Run). extended z beside.more) i.run
            ∙ ap (λ (es : List CoreEvent). core_from types (standing_of u.log) es) (sym (ap (λ (z : Run). z.events) beside.core));
        past = (i.past.0 ++ later.0, later.1 ∙ ap (λ (l : List Moment). l ++ later.0) i.past.1 ∙ append_assoc u.mid.past i.past.0 later.0);
        lasts = λ all. goes.on.lasts told head (lasts-more so_far texts head u.books r run.started.settler.writer now (i.lasts all));
      }

  some_lines : asked ≡ [] → ⊥
  some_lines q = let n = ap length q in let l = length-append u.asked texts in let some = next.some in absurd (omega (arith, n, l, some))

  given : HasGiven tells old.input asked windows now'
  given = given_still tells old.input asked windows now next.given now' (λ told. beside.input told)

  -- ---- all its lines are carried

  module _ (core : Core) (is : result ≡ Ok core) where
    ended : TurnsEndAs tells out books then_at {T = Core} (Ok core)
    ended = subst (TurnsEndAs tells out books then_at) is goes.on.ended

    core_is : run_of core ≡ left
    core_is = subst (λ (y : Result Core RunFault). IfOk y (λ c. run_of c ≡ left)) is carried_so.core

    between : IsBetweenWindows tells out books used then_at
    between = record {
      stands = window-ends tells out books then_at
          (record { above = goes.on.record_kept.above; units = goes.on.record_kept.units; turns = λ ruled. goes.turns (alone_by m.threaded ruled); books = goes.on.record_kept.books })
          used ended.0 ended.1
          (λ ruled. subst (λ (y : Result Core RunFault). IfOk y (λ _. picks_used left (length left.events) ≡ used)) is (goes.used_by (alone_by m.threaded ruled)));
      carried = ended.0;
      kinds = ap (λ (z : Run). z.kinds) beside.core ∙ u.between.kinds;
      none = λ q. absurd (some_lines q);
      loud = beside.quiet ∙ u.between.loud;
      pulled = beside.pulled ∙ calm Input ∙ u.between.pulled;
      emitted = subst (λ (y : Result Core RunFault). EmitsAs y (f Output) (f' Output)) is beside.emitted ∙ calm Output ∙ u.between.emitted;
    }

    pub goes_on : IsRunUnderWay tells m before old (record { started = record { slot = run.started.slot; checked = run.started.checked; core = core; settler = settler }; windows = windows; used = used }) f' now'
    goes_on = record {
      opened = u.opened;
      text = u.text;
      log = u.log;
      mid = u.mid;
      asked = asked;
      books = books;
      wide = u.wide;
      slot = u.slot;
      checked = u.checked;
      told = u.told;
      given = given;
      between = subst (λ (z : Run). IsBetweenWindows tells out books used (stage_by z settler f' now')) (sym core_is) between;
      images = λ told. subst (λ (z : Run). KeepsRunImages old out books (stage_by z settler f' now')) (sym core_is) (images told);
    }

  -- ---- a fault ends it

  module _ (fault : RunFault) (is : result ≡ Err fault) (status : Status) (ends_as : status_ending status ≡ ending_by_turns u.opened.slot fault) where
    faulted : TurnsEndAs tells out books then_at {T = Core} (Err fault)
    faulted = subst (TurnsEndAs tells out books then_at) is goes.on.ended

    reads_so : IsTrue tells → ReadSo (observed_run m old now' before f' status) asked
    reads_so told = record {
      pulled = given.given ++ left_in windows;
      input = given.whole told ∙ sym (append_assoc given.given (left_in windows) now'.input);
      front = given_front tells old.input asked windows now' given told;
      good = given.good;
      allowed = subst (λ (e : Ending). AllowedBy e (given.given ++ left_in windows) (observed_run m old now' before f' status) (length asked)) (sym ends_as)
          (fault_allowed u.opened.slot fault (given.given ++ left_in windows) (observed_run m old now' before f' status) (length asked) (by (given_allows tells old.input asked windows now' given told)));
    }
      where
        by : ((now'.input ≡ []) × (length asked ≡ length (lines_of old.input))) ⊎ ((length asked % 4096 ≡ 0) × (length asked ≤ whole_windows (given.given ++ left_in windows)))
            → AllowsAll (observed_run m old now' before f' status) (length asked) ⊎ AllowsSome (given.given ++ left_in windows) (length asked)
        by (inl a) = inl (record { input = a.0; all = a.1 })
        by (inr a) = inr (record { windows = a.0; most = a.1 })

    leaves : IsTrue tells → RunLeaves m out books left settler (observed_run m old now' before f' status)
    leaves told = record {
      kept = subst (λ (t : Bool). KeepsRecord t out books then_at) told goes.on.record_kept;
      turns = goes.turns;
      ends_so = ends-by tells out books then_at result (status_ending status) goes.on.ended (ends_as ∙ same_ending u.opened.slot fault ∙ ap (turns_ending u.opened.slot) (sym is));
      whole = λ other. fault_rest tells out books then_at fault faulted (λ q. other (ends_as ∙ q));
      risen = subst (λ (e : Ending). HasRisen e before f') (sym ends_as) (fault_risen tells out books then_at fault faulted);
      carried = subst IsCarried (sym ends_as) (fault_carried tells told out books then_at fault faulted);
      loud = beside.quiet ∙ u.between.loud;
      run = (images told).run;
      none = λ q. absurd (some_lines q);
      read = reads_so told;
      answered = λ written. absurd (fault_unwritten u.opened.slot fault (subst IsAllWritten ends_as written));
      past = (images told).past;
      lasts = (images told).lasts;
    }

    pub fault_kept : (IsTrue tells → ReadsMayStay now') → HasKept tells m before old status f' now'
    fault_kept stay = record {
      promises = λ told.
          let w : WasOpened old u.mid u.opened u.text u.log = u.told told in
          leaves_promised m u.opened asked old u.mid now' before f' status books left settler w.behind w.stays (stay told)
          (subst (λ (t : List ℕ). RunLeaves m (outset_of m u.opened t w.behind.opened.log asked before u.mid) books left settler (observed_run m old now' before f' status)) (sym w.text_is)
          (subst (λ (l : Log). RunLeaves m (outset_of m u.opened u.text l asked before u.mid) books left settler (observed_run m old now' before f' status)) (sym w.log_is) (leaves told)));
      answers = subst (λ (e : Ending). AnswersRun MayEndRun e before f') (sym ends_as) (record {
        good = fault_good u.opened.slot fault;
        risen = fault_risen tells out books then_at fault faulted;
        input = λ other. absurd (other (beside.pulled ∙ calm Input ∙ u.between.pulled));
        output = fault_output u.opened.slot fault (before Output) (f Output) (f' Output) (calm Output ∙ u.between.emitted)
            (subst (λ (y : Result Core RunFault). EmitsAs y (f Output) (f' Output)) is beside.emitted);
        exact = λ none. absurd (none (fault_goes u.opened.slot fault));
      });
    }

-- where all lines of a window are carried, those of a further one can be
pub can_further : (tells : Bool) (st : Started) (core : Core) (settler : Settler) (now now' : World) (m : Manner) (of : ProgramTree) (lines : List Line) (used used' : ℕ) (f f' : Counts) (mid : World) (result : Result Core RunFault)
    → CarriedLines tells m of lines used used' (stage_by (run_of st.core) st.settler f mid) (side_by settler f' now') result → result ≡ Ok core → CanCarry tells st now → IsSafe tells settler.writer now'
    → CanCarry tells (record { slot = st.slot; checked = st.checked; core = core; settler = settler }) now'
can_further tells st core settler now now' m of lines used used' f f' mid result carried is can safe =
    let core_is : run_of core ≡ carried.left = subst (λ (y : Result Core RunFault). IfOk y (λ c. run_of c ≡ carried.left)) is carried.core in
    record {
      above = subst (λ (z : Run). 0 < z.base) (sym (core_is ∙ carried.beside.core)) can.above;
      safe = safe;
    }
