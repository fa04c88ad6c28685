-- The end of a run: what it leaves there is its promise.
use Rattle.std.proofs.Common.{◌≡◌, ◌≢◌, inl, ℕ, ◌+◌, ◌*◌, ◌≤◌, true, false, IsTrue, List, [], ◌∷◌, ◌++◌, length, None, refl, sym, ◌∙◌, ap, subst, arith}
use Rattle.std.specs.Prelude.{take, drop}
use Rattle.std.proofs.lemmas.List.{take-append-drop}
use Rattle.base_types.specs.declared.entries.Entry.{Entry}
use Rattle.host_trait.specs.declared.channels.Channel.{Channel}
use Rattle.host_trait.specs.declared.channels.FileId.TheVariants.{Manager}
use Rattle.host_trait.specs.World.{World, Moment}
use Rattle.request_wire.specs.Lines.{lines_of}
use Rattle.core_model.specs.CoreState.{Member}
use Rattle.core_model.specs.LegalRuns.{Run, ends}
use Rattle.turn_rules.specs.RunCounts.{HasEntry}
use Rattle.log_reading.specs.Steps.{seen_in}
use Rattle.silo_spec.specs.OpenedDisks.{opening_syncs}
use Rattle.promise_spec.specs.Programs.{Program, shape_in}
use Rattle.promise_spec.specs.Entries.{Log, standing_of}
use Rattle.promise_spec.specs.Outputs.{Grew}
use Rattle.promise_spec.specs.Cores.{core_from, how_many}
use Rattle.promise_spec.specs.Causes.{is_vote, is_vote_of, is_sealed, is_unsealed, syncs_of, most_syncs_of}
use Rattle.promise_spec.specs.Journals.{AllLog, commits_of, entries_of}
use Rattle.promise_spec.specs.Endings.{WriteFault as Unwritten, HasRisen, IsCarried, IsAllWritten}
use Rattle.promise_spec.specs.Courses.{Observed, Course, seen_at_entry, core_run}
use Rattle.promise_spec.specs.Explanation.{AreSettled}
use Rattle.promise_spec.specs.Promise.{AllowedBy, Promises}
use Rattle.promise_spec.specs.TurnRule.{KeepsTurnRule}
use Rattle.promise_spec.specs.Windows.{first_bad}
use Rattle.promise_spec.specs.Words.{Manner}
use Rattle.promise_laws.specs.Closings.{ReadsMayStay, IsBehind}
use Rattle.promise_laws.specs.Obligations.{ShowsAnywhere}
use Rattle.promise_laws.proofs.KeptRuns.{carried_promised}
use Rattle.settle_loop.specs.declared.settler.Settler.{Settler}
use Rattle.run_books.specs.Beginnings.{Outset, with_more}
use Rattle.run_books.specs.Books.{Books, booked_journal}
use Rattle.run_books.specs.Images.{LastsSo}
use Rattle.run_books.specs.Records.{KeepsRecord}
use Rattle.run_books.specs.RunCourse.{EndsSo, IsCourseOf}
use Rattle.run_books.specs.Stages.{stage_by}
use Rattle.run_books.proofs.MoreLines.{begun-lines, record-more, lasts-more}
use Rattle.run_books.proofs.ShownRecord.{explains, settled}
use Rattle.run_books.proofs.TurnImages.{lasts}
use Rattle.run_books.proofs.UnvotedFiles.{unvoted_behind}
use Rattle.command_rules.specs.RunsBehindOpening.{program_of, FollowsOpening}
use Rattle.command_rules.proofs.RunsBehindOpening.{behind}
use Rattle.silo_opening.specs.declared.opened_silo.Opened.{Opened}
use Rattle.silo_top.specs.declared.status.Status.{Status}
use Rattle.silo_top.specs.RunBehindOpening.{IsBehindOpening}
use Rattle.silo_top.specs.RunWindows.{outset_of}
use Rattle.silo_top.proofs.ShownCalls.{observed_run}

-- ---- what it leaves

-- What was read of the input, and that no line begins but those that were asked: they are its first, and none is bad.
pub record ReadSo (r : Observed) (asked : List (List ℕ)) : Type 0 where
  pub pulled : List ℕ
  pub input : r.old.input ≡ pulled ++ r.new.input
  pub front : take (length asked) (lines_of r.old.input) ≡ asked
  pub good : first_bad 0 asked ≡ None
  pub allowed : AllowedBy r.ending pulled r (length asked)

-- What a run leaves at its end, of whose record this was told: the record, over the lines so far; how it ends; what it read; and what
-- has lasted since the opening.
pub record RunLeaves (m : Manner) (o : Outset) (b : Books) (r : Run) (s : Settler) (seen : Observed) : Type 0 where
  pub kept : KeepsRecord true o b (stage_by r s seen.faults_after seen.new)
  pub turns : m.threaded ≡ false → KeepsTurnRule o.program.types true (length o.asked) o.width o.picks r
  pub ends_so : EndsSo o r seen.ending
  pub whole : seen.ending ≢ Unwritten → b.rest ≡ []
  pub risen : HasRisen seen.ending seen.faults_before seen.faults_after
  pub carried : IsCarried seen.ending
  pub loud : s.quiet ≡ false
  pub run : r ≡ core_from o.program.types (standing_of o.opening) r.events
  pub none : o.asked ≡ [] → r.events ≡ []
  pub read : ReadSo seen o.asked
  pub answered : IsAllWritten seen.ending → (n : ℕ) → 1 ≤ n → n ≤ length o.asked → HasEntry (ends r) n
  pub past : (l : List Moment) × (seen.new.past ≡ o.world.past ++ l)
  pub lasts : AllLog o.live o.opening o.world.disk → LastsSo o (take 15 (seen.old.disk (Manager o.live)).seen) b r s.writer seen.new

-- ---- how many syncs it asked for

pub all_syncs : (new mid old own v s : ℕ) → new ≡ mid + (v + 2 * s) → mid ≡ old + own → new ≡ old + (own + (v + 2 * s))
all_syncs new mid old own v s a b = omega (arith, a, b)

pub most_syncs : (new mid old own v s u : ℕ) → new ≤ mid + (v + 2 * (s + u)) → mid ≡ old + own → new ≤ old + (own + (v + 2 * (s + u)))
most_syncs new mid old own v s u a b = omega (arith, a, b)

none_long : (asked : List (List ℕ)) → length asked ≡ 0 → asked ≡ []
none_long [] q = refl
none_long (a ∷ asked) q = absurd (omega (arith, q))

-- ---- its promise

told : IsTrue true
told = cc

module _ (m : Manner) (x : Opened) (asked : List (List ℕ)) (old mid new : World) (before after : Channel → ℕ) (status : Status) (b : Books) (r' : Run) (s' : Settler) (is : IsBehindOpening old mid x) (stay_mid : ReadsMayStay mid) (stay_new : ReadsMayStay new)
    (leaves : RunLeaves m (outset_of m x x.text is.opened.log asked before mid) b r' s' (observed_run m old new before after status)) where
  abbrev p : Program
  p = program_of is.opened

  abbrev log : Log
  log = is.opened.log

  abbrev so_far : Outset
  so_far = outset_of m x x.text log asked before mid

  -- the lines of the input behind those so far
  abbrev rest : List (List ℕ)
  rest = drop (length asked) (lines_of old.input)

  -- the outset with all lines of the input
  abbrev out : Outset
  out = with_more so_far rest

  all_lines : asked ++ rest ≡ lines_of old.input
  all_lines = ap (λ (l : List (List ℕ)). l ++ rest) (sym leaves.read.front) ∙ take-append-drop (length asked) (lines_of old.input)

  abbrev seen : Observed
  seen = observed_run m old new before after status

  kept : KeepsRecord true out b (stage_by r' s' after new)
  kept = record-more so_far rest true b (stage_by r' s' after new) leaves.kept

  ends_so : EndsSo out r' seen.ending
  ends_so = record { doubted = leaves.ends_so.doubted; ended = leaves.ends_so.ended; written = leaves.ends_so.written }

  abbrev c : Course
  c = record { live = x.slot; opening = log; added = commits_of (booked_journal b); early = is.run.clock.more; late = leaves.past.0; allowed = length asked; events = r'.events; entries = entries_of b.said; rest = b.rest }

  run_is : core_run p c ≡ r'
  run_is = sym leaves.run

  course : IsCourseOf out b r' seen c
  course = record {
    live = refl;
    opening = refl;
    added = refl;
    entries = refl;
    rest = refl;
    run = run_is;
    asked = sym all_lines;
    width = refl;
    picks = refl;
    before = refl;
    output = sym is.run.now.output;
  }

  follows : FollowsOpening seen c mid x.slot log
  follows = record { live = refl; opening = refl; run = is.run; left = is.left; early = is.run.clock.past; late = leaves.past.1 }

  stands : IsBehind seen c mid
  stands = behind x seen c mid is.opened follows

  are_settled : AreSettled p seen c
  are_settled = settled true out b r' s' seen c leaves.loud kept ends_so course

  answers : ShowsAnywhere p seen c
  answers = record {
    in_force = is.opened.program;
    explains = explains true out b r' s' seen c kept (kept.books.versions refl).loads ends_so leaves.turns course
        (unvoted_behind p seen c mid stands (λ g none. (kept.books.outside told).calls.unvoted g (subst (λ (r : Run). how_many (is_vote_of g) r ≡ 0) run_is none)));
    settled = are_settled;
    output = subst (λ (l : List ℕ). Grew (shape_in p) l new.output (entries_of b.said) b.rest) is.run.now.output (kept.books.outside told).output;
    whole = leaves.whole;
    ends = record {
      given = refl;
      risen = leaves.risen;
      carried = leaves.carried;
      read = record {
        pulled = leaves.read.pulled;
        input = leaves.read.input;
        few = subst (λ (r : Run). (ends r).units.lines ≤ length asked) (sym run_is) (begun-lines so_far r' leaves.kept.units);
        none = λ zero_is. leaves.none (none_long asked zero_is);
        good = ap (first_bad 0) leaves.read.front ∙ leaves.read.good;
        allowed = leaves.read.allowed;
      };
      answered = λ written n low high. (let k = leaves.answered written n low high in
          (k.0, subst (λ (l : List Entry). Member k.0 l) (sym (are_settled.all (inl written) ∙ ap (λ (r : Run). (ends r).manager.settled) run_is)) k.1, k.2));
      syncs = λ none counts. subst (λ (r : Run). new.syncs ≡ old.syncs + syncs_of (seen_in old.disk) r) (sym run_is)
          (all_syncs new.syncs mid.syncs old.syncs (opening_syncs (seen_in old.disk)) (how_many is_vote r') (how_many is_sealed r') ((kept.books.outside told).calls.each none) is.count);
      most = subst (λ (r : Run). new.syncs ≤ old.syncs + most_syncs_of (seen_in old.disk) r) (sym run_is)
          (most_syncs new.syncs mid.syncs old.syncs (opening_syncs (seen_in old.disk)) (how_many is_vote r') (how_many is_sealed r') (how_many is_unsealed r') (kept.books.outside told).calls.most is.count);
    };
  }

  -- so the run has kept its promise
  pub leaves_promised : Promises m seen
  leaves_promised = carried_promised m p seen c mid answers refl refl stands is.stays stay_mid
      (λ opens. (let all : AllLog x.slot log mid.disk = subst (λ (y : Moment). AllLog x.slot log y.disk) stands.last opens.opened in
      let head : List ℕ = take 15 (seen_at_entry seen (Manager x.slot)) in
      lasts true out head b r' s' seen c refl kept (lasts-more so_far rest head b r' s'.writer new (leaves.lasts all)) course refl stands opens stay_new))
