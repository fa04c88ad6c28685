-- A load from its opening to its end, over a host that tells.
use Rattle.std.proofs.Common.{◌≡◌, ◌≢◌, ◌⊎◌, inl, inr, ℕ, ◌+◌, ◌<◌, ◌≤◌, Bool, true, IsTrue, List, [], ◌∷◌, ◌++◌, length, Result, Ok, Err, refl, sym, ◌∙◌, ap, subst, arith, append-nil, append_assoc, false}
use Rattle.std.specs.Prelude.{take, not}
use Rattle.std.proofs.lemmas.List.{append_cancel_left}
use Rattle.base_types.specs.declared.calls.GrainId.{GrainId}
use Rattle.host_trait.specs.declared.channels.Channel.{Channel}
use Rattle.host_trait.specs.declared.channels.Channel.TheVariants.{Output, File}
use Rattle.host_trait.specs.declared.channels.FileId.{FileId}
use Rattle.host_trait.specs.declared.channels.FileId.TheVariants.{Manager, Grain}
use Rattle.host_trait.specs.Faults.{NoneFailed, Rose}
use Rattle.host_trait.specs.Disk.{FileState, MayLeave}
use Rattle.host_trait.specs.World.{World, Disk, Moment, Image, IsImage}
use Rattle.host_trait.proofs.Crashes.{settled_only}
use Rattle.request_wire.specs.declared.requests.Line.{Line}
use Rattle.script_tree.specs.Programs.{program_tree}
use Rattle.core_model.specs.CoreState.{Member, CoreState}
use Rattle.core_model.specs.LegalRuns.{Run, ends}
use Rattle.core_model.specs.declared.events.CoreEvent.{CoreEvent}
use Rattle.history_core.specs.Cores.{run_of}
use Rattle.log_reading.specs.Steps.{seen_in}
use Rattle.program_file.specs.Programs.{program_in}
use Rattle.silo_spec.specs.OpenedDisks.{opening_syncs}
use Rattle.promise_spec.specs.Logs.{IsLog, IsPrefix}
use Rattle.promise_spec.specs.Programs.{Program, IsChecked, shape_in}
use Rattle.promise_spec.specs.Entries.{Log, standing_of, new_log, grown}
use Rattle.promise_spec.specs.Outputs.{reply_lines}
use Rattle.promise_spec.specs.Cores.{core_from, how_many}
use Rattle.promise_spec.specs.Causes.{NoneRose, AreFaults, RoseBy, RunHasDoubt, is_vote, is_vote_of, is_no, is_unsealed, is_sealed, syncs_of, most_syncs_of}
use Rattle.promise_spec.specs.Commands.{MayCut, Prints}
use Rattle.promise_spec.specs.Endings as ending
use Rattle.promise_spec.specs.Endings.{Ending, HasRisen, HasFailedAs, IsLoadCarried, EndingMayDoubt}
use Rattle.promise_spec.specs.Promise.{IsAnswered}
use Rattle.promise_spec.specs.Journals.{Settlement, AllLog, commits_of, entries_of}
use Rattle.promise_spec.specs.Courses.{Observed, Course, core_run, core_end}
use Rattle.promise_spec.specs.Loads.{bank_text, load_calls, summary_text, AskFor, KeepsLoad}
use Rattle.promise_spec.proofs.Lists.{all_of, each_of}
use Rattle.promise_laws.specs.Closings.{ReadsMayStay, IsBehind}
use Rattle.promise_laws.specs.Obligations.{ExplainsEvents, Opens, Lasts}
use Rattle.promise_laws.proofs.KeptRuns.{opens_whole}
use Rattle.settle_loop.specs.declared.settler.Settler.{Settler}
use Rattle.batch_disk.specs.ImagesAtRest.{SomeImage}
use Rattle.run_books.specs.declared.faults.RunFault.{RunFault}
use Rattle.run_books.specs.declared.faults.RunFault.TheVariants.{InDoubt, WriteFault, Memory, LoadFault, LoadDamaged}
use Rattle.run_books.specs.Beginnings.{Outset}
use Rattle.run_books.specs.RecordFrame.{IsHushed, TurnsBeside}
use Rattle.run_books.specs.Books.{Books, booked_journal, IsPutOut}
use Rattle.run_books.specs.RunCourse.{IsCourseOf, turns_ending}
use Rattle.run_books.specs.Images.{LastsSo}
use Rattle.run_books.specs.Records.{KeepsFile, TurnsEndAs, HasCarriedAll}
use Rattle.interleaver.specs.Turns.{KeepsTurns}
use Rattle.promise_spec.specs.Words.{Manner}
use Rattle.silo_top.specs.LineExecution.{StartsRun, CarriedOn, CarriesOn}
use Rattle.run_books.proofs.ShownRecord.{explains, ends-by}
use Rattle.run_books.proofs.TurnImages.{lasts}
use Rattle.run_books.proofs.BooksCalls.{file-on}
use Rattle.run_books.proofs.UnvotedFiles.{unvoted_behind}
use Rattle.command_rules.specs.RunsBehindOpening.{program_of, FollowsOpening}
use Rattle.command_rules.proofs.RunsBehindOpening.{behind}
use Rattle.silo_opening.specs.declared.opened_silo.Opened.{Opened}
use Rattle.bank_load.specs.Requests.{load_texts}
use Rattle.bank_load.specs.Summaries.{summary_line, total_kept}
use Rattle.command_rules.specs.LoadObligations.{HasWhole, ShowsLoad}
use Rattle.command_rules.proofs.LoadKept.{kept_load}
use Rattle.command_rules.proofs.Balances.{totals_kept}
use Rattle.promise_laws.proofs.Bases.{reads_above}
use Rattle.promise_laws.proofs.ShownRuns.{explained}
use Rattle.silo_top.specs.declared.status.Status.{Status}
use Rattle.silo_top.specs.Statuses.{status_ending}
use Rattle.silo_top.specs.declared.run_start.Started.{Started}
use Rattle.silo_top.proofs.ShownCalls.{observed_call}
use Rattle.silo_top.proofs.ReadLines.{AreReadFrom}
use Rattle.silo_top.specs.RunStart.{IsStartOf}
use Rattle.silo_top.specs.RunBehindOpening.{IsBehindOpening}
use Rattle.silo_top.specs.LoadSteps.{IsNewBank, CarriesLoad, MaySaySummary, SaysSummary, load_ending}
use Rattle.silo_top.proofs.RunEnds.{all_syncs, most_syncs}
use Rattle.silo_top.proofs.OpenedImages.{starts_resting}
use Rattle.run_books.specs.Places.{KeepsVersions}
use Rattle.silo_top.proofs.OpenedPlaces.{versions_behind}
use Rattle.silo_top.proofs.TurnStart.{no_books, starts_kept, starts_quiet, starts_fresh, starts_outset}
use Rattle.silo_top.proofs.StartImages.{starts_lasting}
use Rattle.silo_top.proofs.LoadStart.{bank_of, bank_checked, bank_whole, opened_same}
use Rattle.silo_top.proofs.CoreOpening.{start_is}
use Rattle.input_windows.proofs.Still.{still_none}
use Rattle.silo_opening.proofs.OpeningCalls.{opens_untouched}
use Rattle.run_books.specs.Stages.{Stage, stage_by}

-- what a list of books that are none says
rest_by : (b : Books) (mid new : World) → new.output ≡ mid.output ++ b.rest → new.output ≡ mid.output → b.rest ≡ []
rest_by b mid new grew same = append_cancel_left mid.output b.rest [] (sym grew ∙ same ∙ sym (append-nil mid.output))

-- ---- what an ending says

-- where a summary was to be printed, no file failed
files_same : (e : Ending) (old new : Channel → ℕ) → MaySaySummary e → HasFailedAs e old new → (file : FileId) → new (File file) ≡ old (File file)
files_same e old new (inl q) f file = (subst (λ (y : Ending). HasFailedAs y old new) q f) (File file)
files_same e old new (inr (inl q)) f file = (subst (λ (y : Ending). HasFailedAs y old new) q f).counts.others (File file) (λ t. cc t)
files_same e old new (inr (inr q)) f file = (subst (λ (y : Ending). HasFailedAs y old new) q f) (File file)

-- a failed output is shown by its count
summary_risen : (e : Ending) (old mid new : Channel → ℕ) → MaySaySummary e → HasFailedAs e mid new → mid Output ≡ old Output → HasRisen e old new
summary_risen e old mid new (inl q) f calm = subst (λ (y : Ending). HasRisen y old new) (sym q) tt
summary_risen e old mid new (inr (inl q)) f calm =
    subst (λ (y : Ending). HasRisen y old new) (sym q) (subst (λ (k : ℕ). Rose k (new Output)) calm (subst (λ (y : Ending). HasFailedAs y mid new) q f).rose)
summary_risen e old mid new (inr (inr q)) f calm = subst (λ (y : Ending). HasRisen y old new) (sym q) tt

summary_begun : (e : Ending) → MaySaySummary e → IsLoadCarried e
summary_begun e (inl q) = subst IsLoadCarried (sym q) tt
summary_begun e (inr (inl q)) = subst IsLoadCarried (sym q) tt
summary_begun e (inr (inr q)) = subst IsLoadCarried (sym q) tt

summary_no_file : (e : Ending) → MaySaySummary e → (file : FileId) → e ≡ ending.DiskFault file → ⊥
summary_no_file e (inl q) file t = (let z : ending.Done ≡ ending.DiskFault file = sym q ∙ t in cc z)
summary_no_file e (inr (inl q)) file t = (let z : ending.WriteFault ≡ ending.DiskFault file = sym q ∙ t in cc z)
summary_no_file e (inr (inr q)) file t = (let z : ending.Memory ≡ ending.DiskFault file = sym q ∙ t in cc z)

summary_cut : (e : Ending) → MaySaySummary e → (e ≡ ending.Done) ⊎ MayCut e
summary_cut e (inl q) = inl q
summary_cut e (inr (inl q)) = inr (subst MayCut (sym q) tt)
summary_cut e (inr (inr q)) = inr (subst MayCut (sym q) tt)

summary_memory : (e : Ending) → MaySaySummary e → e ≢ ending.Done → e ≢ ending.WriteFault → e ≡ ending.Memory
summary_memory e (inl q) one other = absurd (one q)
summary_memory e (inr (inl q)) one other = absurd (other q)
summary_memory e (inr (inr q)) one other = q

-- the faults of files alone count
faults_same : (live : ℕ) (r : Run) (old mid new : Channel → ℕ) → ((file : FileId) → new (File file) ≡ mid (File file)) → AreFaults live r old mid → AreFaults live r old new
faults_same live r old mid new same f = record {
  votes = λ g. subst (λ (k : ℕ). RoseBy (how_many (is_no g) r) (old (File (Grain live g))) k) (sym (same (Grain live g))) (f.votes g);
  seals = subst (λ (k : ℕ). RoseBy (how_many is_unsealed r) (old (File (Manager live))) k) (sym (same (Manager live))) f.seals;
}

-- how a load ends whose turns ended by a fault
load_begun : (T : Type 0) (o : Outset) (b : Books) (s : Stage) (fault : RunFault) → TurnsEndAs true o b s {T = T} (Err fault) → IsLoadCarried (load_ending o.live fault)
load_begun T o b s InDoubt e = tt
load_begun T o b s WriteFault e = tt
load_begun T o b s Memory e = tt
load_begun T o b s (LoadFault file) e = tt
load_begun T o b s (LoadDamaged file place) e = absurd (e.0.untold refl)

load_doubt : (T : Type 0) (o : Outset) (b : Books) (s : Stage) (fault : RunFault) → TurnsEndAs true o b s {T = T} (Err fault) → EndingMayDoubt (load_ending o.live fault)
load_doubt T o b s InDoubt e = tt
load_doubt T o b s WriteFault e = tt
load_doubt T o b s Memory e = tt
load_doubt T o b s (LoadFault file) e = tt
load_doubt T o b s (LoadDamaged file place) e = absurd (e.0.untold refl)

load_undone : (live : ℕ) (fault : RunFault) → load_ending live fault ≢ ending.Done
load_undone live InDoubt t = cc t
load_undone live WriteFault t = cc t
load_undone live Memory t = cc t
load_undone live (LoadFault file) t = cc t
load_undone live (LoadDamaged file place) t = cc t

load_unwritten : (live : ℕ) (fault : RunFault) → load_ending live fault ≢ ending.WriteFault
load_unwritten live InDoubt t = cc t
load_unwritten live WriteFault t = cc t
load_unwritten live Memory t = cc t
load_unwritten live (LoadFault file) t = cc t
load_unwritten live (LoadDamaged file place) t = cc t

load_file : (live : ℕ) (fault : RunFault) (file : FileId) → load_ending live fault ≡ ending.DiskFault file → turns_ending {T = Unit {0}} live (Err fault) ≡ ending.DiskFault file
load_file live InDoubt file t = t
load_file live WriteFault file t = absurd (cc t)
load_file live Memory file t = absurd (cc t)
load_file live (LoadFault other) file t = t
load_file live (LoadDamaged other place) file t = absurd (cc t)

pub load_risen : (T : Type 0) (tells : Bool) (o : Outset) (b : Books) (r : Run) (s : Settler) (counts : Channel → ℕ) (now : World) (fault : RunFault) → TurnsEndAs tells o b (stage_by r s counts now) {T = T} (Err fault) → HasRisen (load_ending o.live fault) o.faults counts
load_risen T tells o b r s counts now InDoubt e = e.0.rose
load_risen T tells o b r s counts now WriteFault e = tt
load_risen T tells o b r s counts now Memory e = tt
load_risen T tells o b r s counts now (LoadFault file) e = e.0.rose
load_risen T tells o b r s counts now (LoadDamaged file place) e = tt

module _ {T : Type 0} (n seed : ℕ) (m : Manner) (x : Opened) (st : Started) (old mid new : World) (before between after : Channel → ℕ) (result : Result T RunFault) (is : IsBehindOpening old mid x) (start : IsStartOf x st)
    (reads : program_in bank_text ≡ Ok (program_tree x.checked)) (bank : IsNewBank old) (stay_mid : ReadsMayStay mid) (stay_new : ReadsMayStay new) (hush : st.settler.quiet ≡ true) where
  abbrev pub p : Program
  p = program_of is.opened

  abbrev pub log : Log
  log = is.opened.log

  -- it opened the bank program, with an empty log
  pub same : (p ≡ bank_of (program_tree x.checked)) × (log ≡ new_log (bank_of (program_tree x.checked)))
  same = opened_same (program_tree x.checked) reads x old bank is.stays is.opened

  pub checked : IsChecked p
  checked = subst IsChecked (sym same.0) (bank_checked (program_tree x.checked) reads)

  pub text : p.text ≡ bank_text
  text = ap (λ (q : Program). q.text) same.0

  abbrev pub out : Outset
  out = record { live = x.slot; program = p; asked = load_texts n seed; opening = log; ruled = not m.threaded; windowed = false; width = m.width; picks = m.picks; faults = before; world = mid }

  abbrev pub r0 : Run
  r0 = core_from p.types (standing_of log) []

  abbrev head : List ℕ
  head = take 15 (old.disk (Manager x.slot)).seen

  -- ---- the turns begin

  module _ (lines : List Line) (are : AreReadFrom (program_tree x.checked) 0 (load_texts n seed) lines) (wide : 0 < m.width) (above : 0 < x.next_unit.0) (none : NoneFailed before between) (r' : Run) (s' : Settler)
      (used : ℕ) (carried : CarriesOn true m (program_tree x.checked) lines 0 used (stage_by (run_of st.core) st.settler between mid) (stage_by r' s' after new) result)
      (aside : TurnsBeside true (stage_by (run_of st.core) st.settler between mid) (stage_by r' s' after new) result) where
    began : run_of st.core ≡ r0
    began = start_is (seen_in old.disk) x st is.opened start

    base : 0 < r0.base
    base = subst (λ (k : ℕ). 0 < k) is.opened.next above

    kept_first : KeepsTurns true out no_books (stage_by r0 st.settler between mid)
    kept_first = starts_kept r0.base r0.kinds r0.opening true out st.settler between mid base (λ c. let e = none c in omega (arith, e)) start.written start.doubted start.sealing start.settles
        (λ told. subst (λ (r : Run). KeepsVersions out no_books r st.settler.writer mid.disk) (sym start.run ∙ began) (versions_behind old mid x st start (record { opened = is.opened; run = is.run }) out refl refl)) (λ told. still_none mid)

    first : StartsRun true m out no_books (program_tree x.checked) lines 0 (stage_by r0 st.settler between mid)
    first = record {
      outset = starts_outset r0.base r0.kinds r0.opening out (program_tree x.checked) (load_texts n seed) lines m.width m.picks are refl refl refl refl wide refl (λ n low high. refl);
      can = starts_quiet r0.base r0.kinds r0.opening (program_tree x.checked) (load_texts n seed) lines st.settler are start.doubted start.written;
      ruled = refl;
      fresh = starts_fresh r0.base r0.kinds r0.opening out;
      kept = kept_first;
    }

    pub goes : CarriedOn true m out no_books used (stage_by r0 st.settler between mid) (stage_by r' s' after new) result
    goes = subst (λ (r : Run). CarriedOn true m out no_books used (stage_by r st.settler between mid) (stage_by r' s' after new) result) began
        (carried out no_books (subst (λ (r : Run). StartsRun true m out no_books (program_tree x.checked) lines 0 (stage_by r st.settler between mid)) (sym began) first))

    pub beside : TurnsBeside true (stage_by r0 st.settler between mid) (stage_by r' s' after new) result
    beside = subst (λ (r : Run). TurnsBeside true (stage_by r st.settler between mid) (stage_by r' s' after new) result) began aside

    -- ---- what they wrote: nothing

    abbrev pub b : Books
    b = goes.on.books

    told : IsTrue true
    told = cc

    pub later : (l : List Moment) × (new.past ≡ mid.past ++ l)
    later = beside.past told

    hushed : IsHushed mid new
    hushed = beside.hushed hush told

    pub same_output : new.output ≡ old.output
    same_output = hushed.output ∙ is.run.now.output

    pub hushed_moment : (m : Moment) → Member m later.0 → m.output ≡ old.output
    hushed_moment m there =
        let moments : later.0 ≡ hushed.moments.more = append_cancel_left mid.past later.0 hushed.moments.more (sym later.1 ∙ hushed.moments.past) in
        each_of (λ (y : Moment). y.output ≡ mid.output) hushed.moments.more m hushed.moments.each (subst (Member m) moments there) ∙ is.run.now.output

    said_none : b.said ≡ []
    said_none = subst (λ (quiet : Bool). IsPutOut quiet b (ends r')) (beside.quiet ∙ hush) goes.on.record_kept.books.said

    rest_none : b.rest ≡ []
    rest_none = rest_by b mid new (subst (λ (s : List Settlement). new.output ≡ mid.output ++ (reply_lines (shape_in p) (entries_of s) ++ b.rest)) said_none (goes.on.record_kept.books.outside told).output.output) hushed.output

    -- ---- the course of the turns

    abbrev pub c0 : Course
    c0 = record { live = x.slot; opening = log; added = commits_of (booked_journal b); early = is.run.clock.more; late = later.0; allowed = length (load_texts n seed); events = r'.events; entries = []; rest = [] }

    abbrev pub seen : Observed
    seen = record { manner = m; asked = load_texts n seed; windowed = false; old = old; new = new; faults_before = before; faults_after = after; ending = turns_ending x.slot result }

    pub run_is : core_run p c0 ≡ r'
    run_is = ap (λ (es : List CoreEvent). core_from p.types (standing_of log) es) (ap (λ (r : Run). r.events) beside.core) ∙ sym beside.core

    course : IsCourseOf out b r' seen c0
    course = record {
      live = refl;
      opening = refl;
      added = refl;
      entries = sym (ap entries_of said_none);
      rest = sym rest_none;
      run = run_is;
      asked = refl;
      width = refl;
      picks = refl;
      before = refl;
      output = sym is.run.now.output;
    }

    follows : FollowsOpening seen c0 mid x.slot log
    follows = record { live = refl; opening = refl; run = is.run; left = is.left; early = is.run.clock.past; late = later.1 }

    stands : IsBehind seen c0 mid
    stands = behind x seen c0 mid is.opened follows

    opens : Opens seen c0
    opens = opens_whole p seen c0 mid stands (bank_whole (program_tree x.checked) reads old bank) is.stays stay_mid

    -- ---- what lasts

    all : AllLog x.slot log mid.disk
    all = subst (λ (m : Moment). AllLog x.slot log m.disk) stands.last opens.opened

    seen_left : IsImage mid.disk (seen_in old.disk)
    seen_left file = subst (MayLeave (mid.disk file)) ((opens_untouched _ old mid is.run).seen file) (stay_mid file)

    lasting : LastsSo out head b r' s'.writer new
    lasting = goes.on.lasts told head (starts_lasting out head r0.base r0.kinds r0.opening st.settler.writer mid (still_none mid) all base
        (λ image image_is. ap (take 15) (settled_only (old.disk (Manager x.slot)).seen (image (Manager x.slot)) (subst (λ (f : FileState). MayLeave f (image (Manager x.slot))) is.settled (image_is (Manager x.slot)))))
        (λ sure. starts_resting out x st (seen_in old.disk) is.opened start refl is.opened.program refl r0 mid.disk is.settled (ap (λ (f : FileState). f.seen) is.settled) seen_left all))

    pub lasts_so : Lasts p seen c0
    lasts_so = lasts true out head b r' s' seen c0 refl goes.on.record_kept lasting course refl stands opens stay_new

    -- an image at the end has the whole order
    pub has_whole : HasWhole c0 new
    has_whole = by b.doubted refl
      where
        by : (d : List Settlement) → b.doubted ≡ d → HasWhole c0 new
        by [] q =
            let image : Image = λ file. (new.disk file).seen in
            let whole : booked_journal b ≡ b.said ++ b.unsaid = ap (λ (l : List Settlement). (b.said ++ b.unsaid) ++ l) q ∙ append-nil (b.said ++ b.unsaid) in
            record {
              image = image;
              left = stay_new;
              has = elim (lasting.journal.log image stay_new) [
                | inl was ↦ subst (λ (l : List Settlement). IsLog x.slot image (grown log (commits_of l))) (sym whole) was
                | inr has ↦ has
              ];
            }
        by (batch ∷ more) q =
            let some : SomeImage (λ image. IsLog x.slot image (grown log (commits_of (booked_journal b)))) new.disk = lasting.some (λ none. is_some batch more (sym q ∙ none)) in
            record { image = some.image; left = some.left; has = some.holds }
          where
            is_some : (y : Settlement) (ys : List Settlement) → y ∷ ys ≡ [] → ⊥
            is_some y ys t = absurd cc

    -- the files that no event votes on
    unvoted_so : (g : GrainId) → how_many (is_vote_of g) (core_run p c0) ≡ 0 → KeepsFile (Grain x.slot g) mid new
    unvoted_so g no_vote = (goes.on.record_kept.books.outside told).calls.unvoted g (subst (λ (y : Run). how_many (is_vote_of g) y ≡ 0) run_is no_vote)

    pub explains_so : ExplainsEvents p seen c0
    explains_so = explains true out b r' s' seen c0 goes.on.record_kept (goes.on.record_kept.books.versions refl).loads (ends-by true out b (stage_by r' s' after new) result (turns_ending x.slot result) goes.on.ended refl) goes.turns course (unvoted_behind p seen c0 mid stands unvoted_so)

    -- ---- a load that ends so

    module _ (asks : AskFor (program_tree x.checked) (load_texts n seed) (load_calls n seed)) (last : World) (final : Channel → ℕ) (status : Status) (behind_turns : List Moment) (last_past : last.past ≡ new.past ++ behind_turns)
        (last_disk : last.disk ≡ new.disk) (last_left : (m : Moment) → Member m behind_turns → m.disk ≡ new.disk) (last_input : last.input ≡ new.input) (files : (file : FileId) → final (File file) ≡ after (File file)) where
      abbrev pub e : Ending
      e = status_ending status

      abbrev pub r : Observed
      r = observed_call m (load_texts n seed) old last before final status

      abbrev pub c : Course
      c = record c0 { late = later.0 ++ behind_turns; entries = (core_end p c0).manager.settled }

      -- it stands behind the opening, and the files are as the turns left them
      still_behind : IsBehind r c mid
      still_behind = behind x r c mid is.opened (record {
        live = refl;
        opening = refl;
        run = is.run;
        left = is.left;
        early = is.run.clock.past;
        late = last_past ∙ ap (λ (l : List Moment). l ++ behind_turns) later.1 ∙ append_assoc mid.past later.0 behind_turns;
      })

      said_file : (file : FileId) → KeepsFile file new last
      said_file file = record {
        moments = record { more = behind_turns; past = last_past; each = all_of (λ (y : Moment). y.disk file ≡ new.disk file) behind_turns (λ y there. ap (λ (d : Disk). d file) (last_left y there)) };
        now_is = ap (λ (d : Disk). d file) last_disk;
      }

      -- so many syncs were asked at most
      most_so : last.syncs ≡ new.syncs → last.syncs ≤ old.syncs + most_syncs_of (seen_in old.disk) (core_run p c0)
      most_so said =
          subst (λ (k : ℕ). k ≤ old.syncs + most_syncs_of (seen_in old.disk) (core_run p c0)) (sym said)
          (subst (λ (y : Run). new.syncs ≤ old.syncs + most_syncs_of (seen_in old.disk) y) (sym run_is)
          (most_syncs new.syncs mid.syncs old.syncs (opening_syncs (seen_in old.disk)) (how_many is_vote r') (how_many is_sealed r') (how_many is_unsealed r') (goes.on.record_kept.books.outside told).calls.most is.count))

      -- what its events explain
      explains_at : ((file : FileId) → e ≡ ending.DiskFault file → turns_ending x.slot result ≡ ending.DiskFault file) → (RunHasDoubt (core_run p c0) → EndingMayDoubt e) → ExplainsEvents p r c
      explains_at file doubt = record {
        records = explains_so.records;
        units = explains_so.units;
        turns = explains_so.turns;
        loads = explains_so.loads;
        faults = faults_same x.slot (core_run p c0) before after final files explains_so.faults;
        doubted = λ f t. explains_so.doubted f (file f t);
        ended = doubt;
        unvoted = unvoted_behind p r c mid still_behind (λ g no_vote. file-on (Grain x.slot g) mid new last (unvoted_so g no_vote) (said_file (Grain x.slot g)));
      }

      asked : AskFor p.types (load_texts n seed) (load_calls n seed)
      asked = asks

      -- what it has to show, but how it ended
      shows : ExplainsEvents p r c → ((behind_turns ≡ []) × (last.output ≡ old.output)) ⊎ (RunHasDoubt (core_run p c) → ⊥) → Prints (summary_text r c) r → (e ≢ ending.Done → e ≢ ending.WriteFault → last.output ≡ old.output)
          → IsLoadCarried e → HasRisen e before final → ((e ≡ ending.Done) ⊎ (e ≡ ending.WriteFault) → IsAnswered c) → (e ≡ ending.WriteFault → RunHasDoubt (core_run p c) → ⊥)
          → (NoneRose before final → e ≡ ending.Done → last.syncs ≡ old.syncs + syncs_of (seen_in old.disk) (core_run p c)) → last.syncs ≡ new.syncs → ShowsLoad p n seed r c new after (turns_ending x.slot result) later.0 behind_turns
      shows explains_r printed output silent begun risen done undoubted syncs said = record {
        in_force = is.opened.program;
        asked = asked;
        lasts = lasts_so;
        whole = record { image = has_whole.image; left = has_whole.left; has = has_whole.has };
        hushed = hushed_moment;
        late = refl;
        past = last_past;
        disk = last_disk;
        left = last_left;
        explains = explains_r;
        settled = refl;
        printed = printed;
        output = output;
        silent = silent;
        unread = last_input ∙ beside.input told ∙ is.run.input;
        carried = begun;
        allowed = refl;
        risen = risen;
        done = done;
        undoubted = undoubted;
        syncs = syncs;
        most = most_so said;
      }

      carries : ShowsLoad p n seed r c new after (turns_ending x.slot result) later.0 behind_turns → CarriesLoad n seed r
      carries s = record {
        carried = inr (
          c,
          ap (λ (q : Program). q.text) is.opened.program ∙ text,
          subst (λ (q : Program). KeepsLoad q n seed r c) (sym is.opened.program) (kept_load p n seed r c new after (turns_ending x.slot result) later.0 behind_turns s),
        );
      }

    -- the turns ended by a fault
    pub failed_carries : AskFor (program_tree x.checked) (load_texts n seed) (load_calls n seed) → (fault : RunFault) → result ≡ Err fault → (status : Status) → status_ending status ≡ load_ending x.slot fault
        → CarriesLoad n seed (observed_call m (load_texts n seed) old new before after status)
    failed_carries asks fault q status ends_as =
        let ended : TurnsEndAs true out b (stage_by r' s' after new) {T = T} (Err fault) = subst (TurnsEndAs true out b (stage_by r' s' after new)) q goes.on.ended in
        let past : new.past ≡ new.past ++ [] = sym (append-nil new.past) in
        carries asks new after status [] past refl (λ m there. absurd there) refl (λ file. refl)
        (shows asks new after status [] past refl (λ m there. absurd there) refl (λ file. refl)
        (explains_at asks new after status [] past refl (λ m there. absurd there) refl (λ file. refl)
        (λ file t. ap (turns_ending x.slot) q ∙ load_file x.slot fault file (sym ends_as ∙ t)) (λ d. subst EndingMayDoubt (sym ends_as) (load_doubt T out b (stage_by r' s' after new) fault ended)))
        (inl (refl, same_output))
        (record { added = []; output = same_output ∙ sym (append-nil old.output); front = (_, refl); whole = λ t. absurd (load_undone x.slot fault (sym ends_as ∙ t)); none = inl refl })
        (λ one other. same_output)
        (subst IsLoadCarried (sym ends_as) (load_begun T out b (stage_by r' s' after new) fault ended))
        (subst (λ (y : Ending). HasRisen y before after) (sym ends_as) (load_risen T true out b r' s' after new fault ended))
        (λ which. elim which [ inl t ↦ absurd (load_undone x.slot fault (sym ends_as ∙ t)) | inr t ↦ absurd (load_unwritten x.slot fault (sym ends_as ∙ t)) ])
        (λ t d. load_unwritten x.slot fault (sym ends_as ∙ t))
        (λ calm t. absurd (load_undone x.slot fault (sym ends_as ∙ t))) refl)

    -- all lines are carried, and the summary was to be printed
    pub summed_carries : AskFor (program_tree x.checked) (load_texts n seed) (load_calls n seed) → (done : T) → result ≡ Ok done → (status : Status) (last : World) (final : Channel → ℕ) (requests : ℕ) → requests ≡ length (load_texts n seed)
        → SaysSummary (summary_line (ends r').manager.settled requests (total_kept (ends r') 64)) (status_ending status) new last → HasFailedAs (status_ending status) after final → MaySaySummary (status_ending status)
        → CarriesLoad n seed (observed_call m (load_texts n seed) old last before final status)
    summed_carries asks done q status last final requests many says failed may =
        let ended : HasCarriedAll out (stage_by r' s' after new) = (subst (TurnsEndAs true out b (stage_by r' s' after new)) q goes.on.ended).0 in
        let same_files : (file : FileId) → final (File file) ≡ after (File file) = files_same (status_ending status) after final may failed in
        let sure : RunHasDoubt (core_run p c0) → ⊥ = λ d. ended.never (subst RunHasDoubt run_is d) in
        let explains_r = explains_at asks last final status says.told says.past says.disk says.left says.input same_files (λ file t. absurd (summary_no_file (status_ending status) may file t)) (λ d. absurd (sure d)) in
        let opens_above : 0 < log.base.next = reads_above x.slot (seen_in old.disk) log is.opened.reads in
        let opening_is : log ≡ new_log p = same.1 ∙ ap new_log (sym same.0) in
        let rr : Observed = observed_call m (load_texts n seed) old last before final status in
        let cc0 : Course = record c0 { late = later.0 ++ says.told; entries = (core_end p c0).manager.settled } in
        let text_is : summary_line (ends r').manager.settled requests (total_kept (ends r') 64) ≡ summary_text rr cc0 =
        (λ i. summary_line (ends (run_is' i)).manager.settled (many i) (total_kept (ends (run_is' i)) 64))
        ∙ ap (λ z. summary_line (core_end p c0).manager.settled (length (load_texts n seed)) z) (sym (totals_kept p rr cc0 (explained p rr cc0 opens_above explains_r) checked text opening_is sure)) in
        carries asks last final status says.told says.past says.disk says.left says.input same_files
        (shows asks last final status says.told says.past says.disk says.left says.input same_files
        explains_r
        (inr sure)
        (record {
          added = says.added;
          output = says.output ∙ ap (λ (l : List ℕ). l ++ says.added) same_output;
          front = subst (IsPrefix says.added) text_is says.front;
          whole = λ t. says.whole t ∙ text_is;
          none = inr (summary_cut (status_ending status) may);
        })
        (λ one other. ap (λ (w : World). w.output) (says.none (summary_memory (status_ending status) may one other)) ∙ same_output)
        (summary_begun (status_ending status) may)
        (summary_risen (status_ending status) before after final may failed (beside.calm hush ∙ none Output))
        (λ which i low high. (let k = ended.run.answered i low high in (k.0, subst (λ (w : CoreState). Member k.0 w.manager.settled) (sym (ap ends run_is)) k.1, k.2)))
        (λ t d. sure d)
        (λ calm t. says.syncs ∙ subst (λ (y : Run). new.syncs ≡ old.syncs + syncs_of (seen_in old.disk) y) (sym run_is)
        (all_syncs new.syncs mid.syncs old.syncs (opening_syncs (seen_in old.disk)) (how_many is_vote r') (how_many is_sealed r')
        ((goes.on.record_kept.books.outside told).calls.each (λ ch. (let a = calm ch in let f = (subst (λ (y : Ending). HasFailedAs y after final) t failed) ch in (sym f ∙ a.0, a.1))))
        is.count)) says.syncs)
      where
        run_is' : r' ≡ core_run p c0
        run_is' = sym run_is
