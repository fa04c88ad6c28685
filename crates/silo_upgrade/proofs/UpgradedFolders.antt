-- What `upgrade` shows of the folder, behind an input that was read as a program.
use Rattle.std.proofs.Common.{◌≡◌, inl, ℕ, ◌+◌, ◌<◌, ◌≤◌, ◌^◌, List, [], length, take, Some, Ok, refl, sym, ◌∙◌, ap, subst, arith}
use Rattle.host_trait.specs.declared.channels.Channel.{Channel}
use Rattle.host_trait.specs.declared.channels.FileId.{FileId}
use Rattle.host_trait.specs.declared.channels.FileId.TheVariants.{Manager}
use Rattle.host_trait.specs.Disk.{FileState, MayLeave, Tears, settled}
use Rattle.host_trait.specs.Faults.{NoneFailed}
use Rattle.host_trait.specs.Runs.{ChangesFile, RunsOnFile}
use Rattle.host_trait.specs.World.{World, Moment, Disk, Image, IsImage, Passes, Arrives, moment_of, last_of}
use Rattle.host_trait.proofs.Crashes.{settled_only}
use Rattle.host_trait.proofs.Moments.{met, weaker, same_moment, arrives_still, arrives_then}
use Rattle.std.proofs.lemmas.List.{append_cancel_left}
use Rattle.field_codec.specs.declared.formats.Format.TheVariants.{Two}
use Rattle.gate_block.specs.Log.{EachLogsOrMore, gate_of}
use Rattle.script_tree.specs.Programs.{ProgramTree, program_tree}
use Rattle.script_check.specs.Comparison.{GoesOnFrom, compared}
use Rattle.program_file.specs.Programs.{program_in}
use Rattle.log_reading.specs.Steps.{seen_in}
use Rattle.silo_spec.specs.Moments.{IsAsAtEntry, IsUntouched}
use Rattle.silo_spec.specs.OpenedDisks.{opened_disk, opening_syncs, OnlyOpens}
use Rattle.silo_spec.specs.Slots.{ShowsSilos}
use Rattle.promise_spec.specs.Programs.{Program}
use Rattle.promise_spec.specs.Entries.{Log, standing_of, upgraded}
use Rattle.promise_spec.specs.Blocks.{MayFollow}
use Rattle.promise_spec.specs.Logs.{IsMagic, IsLog}
use Rattle.promise_spec.specs.Images.{IsWholeFolder}
use Rattle.promise_spec.specs.Journals.{AllLog}
use Rattle.promise_spec.specs.Openings.{Reads, opened_as, session_in_file}
use Rattle.promise_spec.specs.Words.{Manner}
use Rattle.promise_spec.specs.Endings.{Ending, Done, UpgradeRefused, HasFailedAs}
use Rattle.promise_spec.specs.Courses.{Observed, Course}
use Rattle.promise_spec.specs.Commands.{IsProgramText}
use Rattle.promise_spec.specs.Refusals.{IsRefusedBy}
use Rattle.promise_spec.specs.Upgrading.{IsUpgradeUnopened, IsUpgradeRefused, IsUpgrading, Upgrades, UpgradesAs, IsUpgraded}
use Rattle.promise_spec.proofs.Lists.{each_of}
use Rattle.promise_spec.proofs.Batched.{base_program}
use Rattle.promise_spec.proofs.OneLog.{one_log}
use Rattle.promise_spec.proofs.Openings.{program_checked}
use Rattle.promise_spec.proofs.ReadSessions.{greatest_read}
use Rattle.promise_laws.specs.Closings.{IsBehind}
use Rattle.promise_laws.specs.Obligations.{Opens}
use Rattle.promise_laws.proofs.KeptRuns.{opens_whole, gather}
use Rattle.silo_opening.specs.declared.opened_silo.Opened.{Opened}
use Rattle.silo_opening.specs.OpenedSilo.{LeavesOpened}
use Rattle.silo_opening.proofs.InitSteps.{untouched_from}
use Rattle.silo_opening.proofs.OpeningCalls.{opens_same, opens_untouched}
use Rattle.silo_upgrade.specs.Endings.{ended_so}
use Rattle.silo_upgrade.specs.Steps.{HasReadText, upgrade_block, upgrade_body, SealsText, LogsOrUpgrades, HasSealedText}
use Rattle.silo_upgrade.proofs.SealedImages.{logged_bodies, each_logs, header_still, log_upgraded, log_either, not_upgraded, session_greatest, shows_still}

-- The input was the text of a program.
module _ (manner : Manner) (asked : List (List ℕ)) (f0 : Channel → ℕ) (w0 w1 : World) (text : List ℕ) (types : ProgramTree) (read : HasReadText text w0 w1) (small : length text ≤ 262144) (is : program_in text ≡ Ok types) where
  seen_same : seen_in w1.disk ≡ seen_in w0.disk
  seen_same = ap seen_in read.disk

  small_there : length w0.input ≤ 262144
  small_there = subst (λ (t : List ℕ). length t ≤ 262144) (sym read.input) small

  is_there : program_in w0.input ≡ Ok types
  is_there = ap program_in read.input ∙ is

  -- so it is told, however the command ends
  abbrev program_text : (w : World) (after : Channel → ℕ) (e : Ending) → w.input ≡ [] → IsProgramText (ended_so manner asked w0 w f0 after e)
  program_text w after e end = record { input = end; small = small_there; types = types; reads = is_there }

  module _ (w2 : World) (opens : OnlyOpens w1 w2) where
    end_there : w2.input ≡ []
    end_there = opens.input ∙ read.end

    untouched : IsUntouched w0 w2
    untouched = untouched_from w0 w1 read.disk read.output read.moments w2 (opens_untouched (opening_syncs (seen_in w1.disk)) w1 w2 opens)

    few_syncs : w2.syncs ≤ w0.syncs + opening_syncs (seen_in w0.disk)
    few_syncs =
        let same : opening_syncs (seen_in w1.disk) ≡ opening_syncs (seen_in w0.disk) = ap opening_syncs seen_same in
        omega (arith, opens.syncs, read.syncs, same)

    -- the folder wasn't opened
    pub is_unopened : (f2 : Channel → ℕ) (e : Ending) → IsRefusedBy Two (seen_in w1.disk) (opened_as (seen_in w1.disk)) e → HasFailedAs e f0 f2 → IsUpgradeUnopened (ended_so manner asked w0 w2 f0 f2 e)
    is_unopened f2 e refused failed = record {
      text = program_text w2 f2 e end_there;
      untouched = untouched;
      syncs = few_syncs;
      refused = subst (λ (i : Image). IsRefusedBy Two i (opened_as i) e) seen_same refused;
      failed = failed;
    }

    module _ (o : Opened) (left : LeavesOpened w1 w2 o) where
      abbrev log : Log
      log = left.opened.log

      reads_so : opened_as (seen_in w0.disk) ≡ Reads o.slot log
      reads_so = subst (λ (i : Image). opened_as i ≡ Reads o.slot log) seen_same left.opened.reads

      in_force : (standing_of log).program.types ≡ program_tree o.checked
      in_force = ap (λ (p : Program). p.types) left.opened.program

      syncs_there : w2.syncs ≡ w0.syncs + opening_syncs (seen_in w0.disk)
      syncs_there =
          let same : opening_syncs (seen_in w1.disk) ≡ opening_syncs (seen_in w0.disk) = ap opening_syncs seen_same in
          omega (arith, left.count, read.syncs, same)

      -- it was, but the program may not follow
      pub is_refused : (f2 : Channel → ℕ) (at : ℕ) → compared (program_tree o.checked) types (length text) ≡ Some at → NoneFailed f0 f2 → IsUpgradeRefused (ended_so manner asked w0 w2 f0 f2 (UpgradeRefused at))
      is_refused f2 at other calm = record {
        text = program_text w2 f2 (UpgradeRefused at) end_there;
        live = o.slot;
        log = log;
        reads = reads_so;
        at = at;
        other = (λ i. compared (in_force i) types (length (read.input i))) ∙ other;
        ending = refl;
        untouched = untouched;
        syncs = syncs_there;
        calm = calm;
      }

      -- ---- the upgrade is sealed

      module _ (follows : GoesOnFrom (program_tree o.checked) types) (w3 : World) (f3 : Channel → ℕ) (e : Ending) (session : ℕ) (next : session ≡ o.session + 1) (low : session < 2 ^ 63) (run : RunsOnFile (Manager o.slot) (Tears o.gate_at (length (upgrade_block session text) + 1)) 2 w2 w3) where
        abbrev r : Observed
        r = ended_so manner asked w0 w3 f0 f3 e

        -- the program that comes into force
        abbrev p : Program
        p = record { text = text; types = types }

        goes_on : GoesOnFrom (standing_of log).program.types types
        goes_on = subst (λ (t : ProgramTree). GoesOnFrom t types) (sym in_force) follows

        may_follow : MayFollow (standing_of log).program p
        may_follow = (program_checked text types small is, goes_on)

        -- as a course that adds no record
        abbrev c : Course
        c = record { live = o.slot; opening = log; added = []; early = untouched.moments.more; late = run.moments.more; allowed = 0; events = []; entries = []; rest = [] }

        disk_is : w2.disk ≡ opened_disk w0.disk
        disk_is = left.left ∙ ap opened_disk read.disk

        settled_so : w2.disk (Manager o.slot) ≡ settled (w0.disk (Manager o.slot)).seen
        settled_so = left.settled ∙ ap (λ (d : Disk). settled (d (Manager o.slot)).seen) read.disk

        clock : Arrives w0 w2
        clock = arrives_then w0 w1 w2 (arrives_still w0 w1 read.moments (same_moment w0 w1 read.output read.disk)) opens.clock

        behind : IsBehind r c w2
        behind = record {
          reads = reads_so;
          untouched = untouched;
          settled = settled_so;
          others = λ file other. ap (λ (d : Disk). d file) disk_is;
          early = untouched.moments.past;
          last = ap (last_of (moment_of w0)) (append_cancel_left w0.past untouched.moments.more clock.more (sym untouched.moments.past ∙ clock.past)) ∙ clock.last;
          late = run.moments.past;
        }

        lasts : w2.disk (Manager o.slot) ≡ settled (w2.disk (Manager o.slot)).seen
        lasts = settled_so ∙ ap (λ (s : FileState). settled s.seen) (sym settled_so)

        ends : gate_of (w2.disk (Manager o.slot)).seen ≡ o.gate_at
        ends = ap (λ (i : Image). gate_of (i (Manager o.slot))) (opens_same (opening_syncs (seen_in w1.disk)) w1 w2 opens) ∙ left.opened.gate

        -- no session of the log is above the upgrade's
        after : session_in_file Two log.base.program (w2.disk (Manager o.slot)).seen ≤ session
        after =
            let first : log.base.program ≡ left.opened.first = ap (λ (l : Log). l.base.program) left.opened.log_is in
            let file : (w2.disk (Manager o.slot)).seen ≡ seen_in w1.disk (Manager o.slot) = ap (λ (i : Image). i (Manager o.slot)) (opens_same (opening_syncs (seen_in w1.disk)) w1 w2 opens) in
            let same : session_in_file Two log.base.program (w2.disk (Manager o.slot)).seen ≡ o.session = (λ i. session_in_file Two (first i) (file i)) ∙ sym left.opened.session in
            omega (arith, same, next)

        module _ (seals : SealsText o.slot o.gate_at session text w2 w3) (done : e ≡ Done → HasSealedText o.slot o.gate_at session text w2 w3) (stay : (file : FileId) → MayLeave (w0.disk file) (w0.disk file).seen)
            (stay_too : (file : FileId) → MayLeave (w2.disk file) (w2.disk file).seen) (whole : IsWholeFolder w0) where
          opened : Opens r c
          opened = opens_whole p r c w2 behind whole stay stay_too

          all : AllLog o.slot log w2.disk
          all = subst (λ (m : Moment). AllLog o.slot log m.disk) behind.last opened.opened

          shown : ShowsSilos IsMagic w2.disk
          shown image is n low short silo = whole.shows image (untouched.now.images image is) n low (subst (λ (l : List ℕ). length l < 16) (untouched.seen (Manager n)) short) silo

          abbrev bodies : List (List ℕ)
          bodies = logged_bodies o.slot o.gate_at log w2 stay_too lasts all ends session low after

          sealed : LogsOrUpgrades o.slot o.gate_at session text bodies w2 w3
          sealed = seals bodies (each_logs o.slot o.gate_at log w2 stay_too lasts all ends session low after)

          -- a moment of it
          abbrev IsAMoment : Moment → Type 0
          IsAMoment m = ChangesFile (Manager o.slot) (Tears o.gate_at (length (upgrade_block session text) + 1)) w2 m × EachLogsOrMore bodies (upgrade_body session text) o.gate_at (Manager o.slot) m.disk

          upgrading : (m : Moment) → IsAMoment m → IsUpgrading o.slot log p r m
          upgrading m at = record {
            quiet = at.0.output ∙ untouched.now.quiet;
            others = λ file other. at.0.others file other ∙ ap (λ (d : Disk). d file) disk_is;
            header = λ image is. header_still o.slot o.gate_at log w2 stay_too lasts all ends session low after (length (upgrade_block session text) + 1) m at.0 image is ∙ ap (take 15) (untouched.seen (Manager o.slot));
            either = λ image is. log_either o.slot o.gate_at log w2 stay_too lasts all ends session low after (length (upgrade_block session text) + 1) m at.0 image is p may_follow (at.1 (image (Manager o.slot)) (is (Manager o.slot)));
          }

          first : IsUpgrading o.slot log p r (moment_of w2)
          first = record {
            quiet = untouched.now.quiet;
            others = λ file other. ap (λ (d : Disk). d file) disk_is;
            header = λ image is. ap (take 15) (settled_only (w0.disk (Manager o.slot)).seen (image (Manager o.slot)) (subst (λ (s : FileState). MayLeave s (image (Manager o.slot))) settled_so (is (Manager o.slot))));
            either = λ image is. inl (all image is);
          }

          passes : Passes (IsUpgrading o.slot log p r) w2.past w3.past
          passes = weaker IsAMoment (IsUpgrading o.slot log p r) upgrading
              (met (ChangesFile (Manager o.slot) (Tears o.gate_at (length (upgrade_block session text) + 1)) w2) (λ m. EachLogsOrMore bodies (upgrade_body session text) o.gate_at (Manager o.slot) m.disk) run.moments sealed.moments)

          -- the upgrade's session is the greatest of an image that has the upgrade
          abbrev IsGreatest : Moment → Type 0
          IsGreatest m = (image : Image) → IsImage m.disk image → (has : IsLog o.slot image (upgraded log p)) → has.is.session ≡ session

          greatest : (m : Moment) → IsAMoment m → IsGreatest m
          greatest m at image is has = session_greatest o.slot o.gate_at log w2 stay_too lasts all ends session low after (length (upgrade_block session text) + 1) m at.0 image is p may_follow (at.1 (image (Manager o.slot)) (is (Manager o.slot))) has

          first_greatest : IsGreatest (moment_of w2)
          first_greatest image is has = absurd (not_upgraded log p (one_log Two Two o.slot o.slot image log (upgraded log p) (all image is) has))

          greatest_passes : Passes IsGreatest w2.past w3.past
          greatest_passes = weaker IsAMoment IsGreatest greatest
              (met (ChangesFile (Manager o.slot) (Tears o.gate_at (length (upgrade_block session text) + 1)) w2) (λ m. EachLogsOrMore bodies (upgrade_body session text) o.gate_at (Manager o.slot) m.disk) run.moments sealed.moments)

          -- and follows the greatest that was read
          follows_read : session ≡ opened.read.is.session + 1
          follows_read =
              let was = opened.read.is in
              let program : was.stands.program ≡ left.opened.first = sym (base_program Two o.slot (seen_in w0.disk) log was.bodies was.gate was.session was.stands) ∙ ap (λ (l : Log). l.base.program) left.opened.log_is in
              let file : seen_in w0.disk (Manager o.slot) ≡ seen_in w1.disk (Manager o.slot) = ap (λ (i : Image). i (Manager o.slot)) (sym seen_same) in
              let same : was.session ≡ o.session = greatest_read Two o.slot (seen_in w0.disk) log was ∙ (λ i. session_in_file Two (program i) (file i)) ∙ sym left.opened.session in
              omega (arith, same, next)

          pub upgrades : Upgrades o.slot log p r
          upgrades = record {
            read = opened.read;
            early = untouched.moments.more;
            late = run.moments.more;
            past = opened.past;
            before = λ m there. each_of (IsAsAtEntry w0) untouched.moments.more m untouched.moments.each there;
            moments = gather p r c w2 behind (IsUpgrading o.slot log p r) first passes (upgrading (moment_of w3) (run.now, sealed.now));
            session = λ image may has. gather p r c w2 behind IsGreatest first_greatest greatest_passes (greatest (moment_of w3) (run.now, sealed.now)) may.moment may.member image may.left has ∙ follows_read;
            shows = shows_still o.slot o.gate_at log w2 stay_too lasts all ends session low after (length (upgrade_block session text) + 1) 2 w3 run shown;
            done = λ end image is.
                let has = done end in
                log_upgraded o.slot o.gate_at log w2 stay_too lasts all ends session low after (length (upgrade_block session text) + 1) (moment_of w3) run.now image is p may_follow (o.gate_at + length (upgrade_block session text))
                (has.logs bodies (each_logs o.slot o.gate_at log w2 stay_too lasts all ends session low after) (image (Manager o.slot)) (is (Manager o.slot)));
          }

        -- the log was upgraded, as far as the call came
        pub is_upgraded : UpgradesAs e o.slot r → HasFailedAs e f0 f3 → (IsWholeFolder w0 → Upgrades o.slot log p r) → IsUpgraded r
        is_upgraded ends_as failed over = record {
          text = program_text w3 f3 e (run.input ∙ end_there);
          live = o.slot;
          log = log;
          reads = reads_so;
          goes_on = goes_on;
          quiet = run.now.output ∙ untouched.now.quiet;
          ends_as = ends_as;
          most = omega (arith, run.syncs, syncs_there);
          failed = failed;
          over_whole = λ whole. subst (λ (t : List ℕ). Upgrades o.slot log (record { text = t; types = types }) r) (sym read.input) (over whole);
        }

        -- done, with two syncs
        pub done_so : HasSealedText o.slot o.gate_at session text w2 w3 → w3.syncs ≡ w0.syncs + opening_syncs (seen_in w0.disk) + 2
        done_so has = omega (arith, has.count, syncs_there)

        -- and with nothing written
        pub nothing_so : w3 ≡ w2 → IsUntouched w0 w3
        nothing_so same = subst (IsUntouched w0) (sym same) untouched
