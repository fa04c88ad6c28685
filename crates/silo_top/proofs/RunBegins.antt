-- A run that has just opened its folder is under way: no line was asked yet.
use Rattle.std.proofs.Common.{◌≡◌, ℕ, ◌<◌, Bool, true, false, IsTrue, true≢false, List, [], length, refl, sym, ◌∙◌, ap, subst, arith, append-nil}
use Rattle.std.specs.Prelude.{take}
use Rattle.host_trait.specs.declared.channels.Channel.{Channel}
use Rattle.host_trait.specs.declared.channels.Channel.TheVariants.{Input, Output}
use Rattle.host_trait.specs.declared.channels.FileId.TheVariants.{Manager}
use Rattle.host_trait.specs.Disk.{FileState, MayLeave}
use Rattle.host_trait.specs.Faults.{NoneFailed}
use Rattle.host_trait.specs.World.{World, IsImage}
use Rattle.host_trait.proofs.Crashes.{settled_only}
use Rattle.script_tree.specs.Programs.{ProgramTree, program_tree}
use Rattle.script_check.specs.Shapes.{type_shapes}
use Rattle.core_model.specs.LegalRuns.{Run}
use Rattle.history_core.specs.Cores.{run_of}
use Rattle.log_reading.specs.Steps.{seen_in}
use Rattle.input_windows.specs.Windows.{left_in, given_in, is_last_in}
use Rattle.input_windows.specs.declared.windows.InputWindows.{InputWindows}
use Rattle.input_windows.proofs.GivenWindows.{given_none}
use Rattle.input_windows.proofs.Still.{still_none}
use Rattle.promise_spec.specs.Cores.{core_from}
use Rattle.promise_spec.specs.Entries.{Log, new_log, standing_of}
use Rattle.promise_spec.specs.Journals.{AllLog}
use Rattle.promise_spec.specs.Words.{Manner}
use Rattle.promise_laws.specs.Closings.{ReadsMayStay}
use Rattle.interleaver.specs.Turns.{KeepsTurns}
use Rattle.interleaver.proofs.WindowSequence.{window-ends}
use Rattle.run_books.specs.Beginnings.{Outset}
use Rattle.run_books.specs.Images.{LastsSo}
use Rattle.run_books.specs.Records.{HasCarriedAll}
use Rattle.run_books.specs.Stages.{stage_by}
use Rattle.silo_opening.specs.declared.opened_silo.Opened.{Opened}
use Rattle.silo_top.specs.RunBehindOpening.{IsBehindOpening}
use Rattle.silo_top.specs.RunStart.{IsStartOf, placed_state}
use Rattle.silo_top.specs.RunWindows.{WasOpened, outset_of, IsBetweenWindows, KeepsRunImages, IsRunUnderWay}
use Rattle.silo_top.specs.declared.run_start.Started.{Started}
use Rattle.silo_top.proofs.CoreOpening.{start_is, many_types}
use Rattle.silo_top.proofs.OpenedImages.{starts_resting}
use Rattle.silo_top.proofs.OpenedPlaces.{versions_behind}
use Rattle.silo_top.proofs.StartImages.{starts_lasting}
use Rattle.silo_top.proofs.TurnStart.{start_run, no_books, starts_kept, starts_carried}
use Rattle.silo_opening.proofs.OpeningCalls.{opens_untouched}

is_true : IsTrue true
is_true = cc

-- what the opening tells, where the host tells: the program text and the log
was_opened : (tells : Bool) (old mid : World) (x : Opened) → (IsTrue tells → IsBehindOpening old mid x) → (IsTrue tells → ReadsMayStay mid) → (text : List ℕ) × (log : Log) × (IsTrue tells → WasOpened old mid x text log)
was_opened true old mid x behind stays = (
  x.text,
  (behind is_true).opened.log,
  λ told. record { behind = behind is_true; text_is = refl; log_is = refl; stays = stays is_true },
)
was_opened false old mid x behind stays = ([], new_log (record { text = []; types = program_tree x.checked }), λ told. absurd (true≢false (sym told)))

-- over a host that tells, an image that the reads show is one still
seen_left : (x : Opened) (old mid : World) → IsBehindOpening old mid x → ReadsMayStay mid → IsImage mid.disk (seen_in old.disk)
seen_left x old mid is stay file = subst (MayLeave (mid.disk file)) ((opens_untouched _ old mid is.run).seen file) (stay file)

module _ (tells : Bool) (m : Manner) (x : Opened) (st : Started) (old mid : World) (before counts : Channel → ℕ) (start : IsStartOf x st) (wide : 0 < m.width) (above : 0 < x.next_unit.0) (loud : st.settler.quiet ≡ false) (calm : NoneFailed before counts)
    (text : List ℕ) (log : Log) (told_of : IsTrue tells → WasOpened old mid x text log) where
  abbrev types : ProgramTree
  types = program_tree x.checked

  abbrev o : Outset
  o = outset_of m x text log [] before mid

  abbrev first : Run
  first = start_run x.next_unit.0 (length (type_shapes types)) (placed_state (record { types = type_shapes types }) x.places)

  kept : KeepsTurns tells o no_books (stage_by first st.settler counts mid)
  kept = starts_kept first.base first.kinds first.opening tells o st.settler counts mid above (λ c. let e = calm c in omega (arith, e)) start.written start.doubted start.sealing start.settles
      (λ told. versions_behind old mid x st start (record { opened = (told_of told).behind.opened; run = (told_of told).behind.run }) o refl refl) (λ told. still_none mid)

  carried : HasCarriedAll o (stage_by first st.settler counts mid)
  carried = starts_carried first.base first.kinds first.opening o st.settler counts mid refl start.written

  between_first : IsBetweenWindows tells o no_books 0 (stage_by first st.settler counts mid)
  between_first = record {
    stands = window-ends tells o no_books (stage_by first st.settler counts mid) kept 0 carried refl (λ ruled. refl);
    carried = carried;
    kinds = many_types types;
    none = λ q. refl;
    loud = loud;
    pulled = calm Input;
    emitted = calm Output;
  }

  pub begins_between : IsBetweenWindows tells o no_books 0 (stage_by (run_of st.core) st.settler counts mid)
  begins_between = subst (λ (r : Run). IsBetweenWindows tells o no_books 0 (stage_by r st.settler counts mid)) (sym start.run) between_first

  -- ---- over a host that tells

  module _ (told : IsTrue tells) where
    abbrev w : WasOpened old mid x text log
    w = told_of told

    abbrev is : IsBehindOpening old mid x
    is = w.behind

    abbrev r0 : Run
    r0 = core_from types (standing_of log) []

    same : run_of st.core ≡ r0
    same = start_is (seen_in old.disk) x st is.opened start ∙ ap (λ (l : Log). core_from types (standing_of l) []) w.log_is

    base : 0 < r0.base
    base = subst (λ (r : Run). 0 < r.base) same (subst (λ (r : Run). 0 < r.base) (sym start.run) above)

    lasts : AllLog x.slot log mid.disk → LastsSo o (take 15 (old.disk (Manager x.slot)).seen) no_books r0 st.settler.writer mid
    lasts all = starts_lasting o (take 15 (old.disk (Manager x.slot)).seen) r0.base r0.kinds r0.opening st.settler.writer mid (still_none mid) all base
        (λ image image_is. ap (take 15) (settled_only (old.disk (Manager x.slot)).seen (image (Manager x.slot)) (subst (λ (f : FileState). MayLeave f (image (Manager x.slot))) is.settled (image_is (Manager x.slot)))))
        (λ sure. starts_resting o x st (seen_in old.disk) is.opened start (sym w.log_is) (in_force w.log_is w.text_is) refl r0 mid.disk is.settled (ap (λ (f : FileState). f.seen) is.settled) (seen_left x old mid is w.stays) all)
      where
        in_force : is.opened.log ≡ log → x.text ≡ text → (standing_of log).program ≡ o.program
        in_force a b = ap (λ (l : Log). (standing_of l).program) (sym a) ∙ is.opened.program ∙ ap (λ (t : List ℕ). record { text = t; types = types }) b

    pub begins_images : KeepsRunImages old o no_books (stage_by (run_of st.core) st.settler counts mid)
    begins_images = subst (λ (r : Run). KeepsRunImages old o no_books (stage_by r st.settler counts mid)) (sym same) (record {
      run = refl;
      past = ([], sym (append-nil mid.past));
      lasts = lasts;
    })

pub begins : (tells : Bool) (m : Manner) (x : Opened) (st : Started) (windows : InputWindows) (old mid : World) (before counts : Channel → ℕ) → IsStartOf x st → 0 < m.width → 0 < x.next_unit.0 → st.settler.quiet ≡ false → NoneFailed before counts
    → (IsTrue tells → IsBehindOpening old mid x) → (IsTrue tells → ReadsMayStay mid) → left_in windows ≡ [] → given_in windows ≡ 0 → is_last_in windows ≡ false
    → IsRunUnderWay tells m before old (record { started = st; windows = windows; used = 0 }) counts mid
begins tells m x st windows old mid before counts start wide above loud calm behind stays left zero_is first =
    let t = was_opened tells old mid x behind stays in
    record {
      opened = x;
      text = t.0;
      log = t.1;
      mid = mid;
      asked = [];
      books = no_books;
      wide = wide;
      slot = start.slot;
      checked = start.checked;
      told = t.2;
      given = given_none tells old.input windows mid (λ told. sym (behind told).run.input) left zero_is first;
      between = begins_between tells m x st old mid before counts start wide above loud calm t.0 t.1 t.2;
      images = λ told. begins_images tells m x st old mid before counts start wide above loud calm t.0 t.1 t.2 told;
    }
