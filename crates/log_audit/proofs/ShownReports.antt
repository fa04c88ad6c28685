-- A report of a folder, opened or not, as its call shows it.
use Rattle.std.proofs.Common.{◌≡◌, inr, ℕ, true, List, ◌++◌, Option, Result, Ok, Err, refl, sym, ◌∙◌, ap, subst}
use Rattle.std.specs.Prelude.{is_ok}
use Rattle.base_types.specs.declared.calls.GrainId.{GrainId}
use Rattle.host_trait.specs.declared.channels.Channel.{Channel}
use Rattle.host_trait.specs.declared.channels.FileId.TheVariants.{Manager, Program as ProgramFile}
use Rattle.host_trait.specs.Disk.{settled}
use Rattle.host_trait.specs.Faults.{NoneFailed}
use Rattle.host_trait.specs.World.{World, Moment, Disk, IsImage, moment_of}
use Rattle.host_trait.proofs.Moments.{both, weaker}
use Rattle.host_trait.proofs.Runs.{settled_image}
use Rattle.field_codec.specs.declared.formats.Format.TheVariants.{Two}
use Rattle.log_reading.specs.Sessions.{sessions_read}
use Rattle.log_reading.specs.Steps.{seen_in}
use Rattle.silo_spec.specs.Moments.{IsAsAtEntry}
use Rattle.silo_spec.specs.OpenedDisks.{OnlyOpens}
use Rattle.silo_opening.specs.Counts.{OpenFaulted}
use Rattle.silo_opening.specs.OpenedSilo.{ending_of}
use Rattle.silo_opening.specs.declared.faults.OpenFault.{OpenFault}
use Rattle.silo_opening.proofs.OpeningCalls.{opens_untouched}
use Rattle.promise_spec.specs.Entries.{Log, standing_of}
use Rattle.promise_spec.specs.Programs.{Program}
use Rattle.promise_spec.specs.Openings.{Reads, program_in_file, opened_as}
use Rattle.promise_spec.specs.Words.{Manner}
use Rattle.promise_spec.specs.Refusals.{IsRefusedBy, IsUnopened}
use Rattle.promise_spec.specs.Reports.{AreHeld, show_text, history_text, audit_text}
use Rattle.promise_spec.specs.Commands.{LeavesAsBefore, IsReported, IsHistoryTold, IsShown, IsFirstBad, IsAudited}
use Rattle.promise_spec.specs.Endings.{Ending, Done, BadUse, Memory, ReadFault, WriteFault, DiskFault, NotASilo, AlreadyASilo, Damaged, BadProgram, InputTooLong, LastGeneration, UpgradeRefused, OldFormat, NotOld, HasRisen, HasFailedAs}
use Rattle.log_audit.specs.declared.faults.ReportFault.{ReportFault}
use Rattle.log_audit.specs.Endings.{report_ending, reported_as, MayEnd}
use Rattle.log_audit.specs.ReportOutput.{PutsPart}

abbrev Counts : Type 0
Counts = Channel → ℕ

-- ---- counts

-- calls that raised nothing, and then those of this ending
pub failed_then : (e : Ending) (a b c : Counts) → NoneFailed a b → HasFailedAs e b c → HasFailedAs e a c
failed_then e a b c none failed = subst (λ (x : Counts). HasFailedAs e x c) (λ i channel. none channel i) failed

pub open_failed : (old new : Counts) (e : OpenFault) → OpenFaulted e old new → HasFailedAs (ending_of e) old new
open_failed old new OpenFault.NotASilo f = f
open_failed old new OpenFault.OldFormat f = f
open_failed old new (OpenFault.Damaged file place) f = f
open_failed old new (OpenFault.DiskFault file) f = f
open_failed old new OpenFault.LastGeneration f = f
open_failed old new OpenFault.Memory f = f

-- a fault that the ending names exactly is shown by its count
pub failed_risen : (old new : Counts) (e : Ending) → HasFailedAs e old new → HasRisen e old new
failed_risen old new Done f = tt
failed_risen old new BadUse f = tt
failed_risen old new Memory f = tt
failed_risen old new ReadFault f = f.rose
failed_risen old new WriteFault f = f.rose
failed_risen old new (DiskFault file) f = f.rose
failed_risen old new NotASilo f = tt
failed_risen old new AlreadyASilo f = tt
failed_risen old new (Damaged file place) f = tt
failed_risen old new (BadProgram fault) f = tt
failed_risen old new (InputTooLong line) f = tt
failed_risen old new LastGeneration f = tt
failed_risen old new (UpgradeRefused at) f = tt
failed_risen old new OldFormat f = tt
failed_risen old new NotOld f = tt

-- no report ends with bad use
pub never_bad_use : {A : Type 0} (r : Result A ReportFault) → report_ending r ≡ BadUse → ⊥
never_bad_use (Ok x) e = absurd cc
never_bad_use (Err ReportFault.NotASilo) e = absurd cc
never_bad_use (Err ReportFault.OldFormat) e = absurd cc
never_bad_use (Err (ReportFault.Damaged file place)) e = absurd cc
never_bad_use (Err (ReportFault.DiskFault file)) e = absurd cc
never_bad_use (Err ReportFault.WriteFault) e = absurd cc
never_bad_use (Err ReportFault.Memory) e = absurd cc

-- only an answer without a fault is done
pub done_ok : {A : Type 0} (r : Result A ReportFault) → report_ending r ≡ Done → is_ok r ≡ true
done_ok (Ok x) e = refl
done_ok (Err ReportFault.NotASilo) e = absurd cc
done_ok (Err ReportFault.OldFormat) e = absurd cc
done_ok (Err (ReportFault.Damaged file place)) e = absurd cc
done_ok (Err (ReportFault.DiskFault file)) e = absurd cc
done_ok (Err ReportFault.WriteFault) e = absurd cc
done_ok (Err ReportFault.Memory) e = absurd cc

-- ---- the call

-- a folder that wasn't opened
pub not_opened : {A : Type 0} (manner : Manner) (asked : List (List ℕ)) (old new : World) (before after : Counts) (result : Result A ReportFault) (e : OpenFault) → report_ending result ≡ ending_of e → OnlyOpens old new
    → IsRefusedBy Two (seen_in old.disk) (opened_as (seen_in old.disk)) (ending_of e) → OpenFaulted e before after → IsUnopened (reported_as manner asked old new before after result)
not_opened manner asked old new before after result e is run refused faulted = record {
  untouched = opens_untouched _ old new run;
  unread = run.input;
  syncs = run.syncs;
  refused = subst (λ (x : Ending). IsRefusedBy Two (seen_in old.disk) (opened_as (seen_in old.disk)) x) (sym is) refused;
  failed = subst (λ (x : Ending). HasFailedAs x before after) (sym is) (open_failed before after e faulted);
}

module _ (live : ℕ) (old mid : World) (settles : mid.disk (Manager live) ≡ settled (old.disk (Manager live)).seen) (run : OnlyOpens old mid) where
  early : (m : Moment) → IsAsAtEntry old m → LeavesAsBefore live old m
  early m entry image is = (entry.images image is, λ other. absurd (other entry.quiet))

  late : (m : Moment) → m.disk ≡ mid.disk → LeavesAsBefore live old m
  late m same image is =
      let there : IsImage mid.disk image = subst (λ (d : Disk). IsImage d image) same is in
      ((opens_untouched _ old mid run).now.images image there, λ other. settled_image mid.disk (Manager live) (old.disk (Manager live)).seen (image (Manager live)) settles (there (Manager live)))

  -- a report of one that was
  pub is_reported : {A : Type 0} (text : Log → List ℕ) (log : Log) (manner : Manner) (asked : List (List ℕ)) (new : World) (before after : Counts) (result : Result A ReportFault)
      → opened_as (seen_in old.disk) ≡ Reads live log → PutsPart (text log) (is_ok result) mid new → MayEnd (report_ending result) → HasFailedAs (report_ending result) before after
      → IsReported text (reported_as manner asked old new before after result)
  is_reported text log manner asked new before after result reads part end failed = record {
    live = live;
    log = log;
    reads = reads;
    prints = record {
      added = part.added;
      output = part.puts.output ∙ ap (λ (l : List ℕ). l ++ part.added) run.now.output;
      front = part.front;
      whole = λ done. part.whole (done_ok result done);
      none = inr end;
    };
    unread = part.puts.input ∙ run.input;
    moments = both _ (weaker _ _ early (opens_untouched _ old mid run).moments) (weaker _ _ late part.puts.moments);
    now = late (moment_of new) part.puts.disk;
    seen = λ file. ap (λ (d : Disk). (d file).seen) part.puts.disk ∙ (opens_untouched _ old mid run).seen file;
    ending = end;
    risen = failed_risen before after (report_ending result) failed;
  }

  -- the entries of one that was
  pub is_history : {A : Type 0} (sessions : List ℕ) (log : Log) (manner : Manner) (asked : List (List ℕ)) (new : World) (before after : Counts) (result : Result A ReportFault)
      → opened_as (seen_in old.disk) ≡ Reads live log → PutsPart (history_text sessions log) (is_ok result) mid new → MayEnd (report_ending result) → HasFailedAs (report_ending result) before after
      → (first : Program) → program_in_file (seen_in old.disk (ProgramFile live)) ≡ Ok first → sessions ≡ sessions_read Two first (seen_in old.disk (Manager live))
      → IsHistoryTold (reported_as manner asked old new before after result)
  unfolding is_reported
  is_history sessions log manner asked new before after result reads part end failed first first_is are = record {
    sessions = sessions;
    report = is_reported (history_text sessions) log manner asked new before after result reads part end failed;
    program = first;
    first = first_is;
    are = are;
  }

  -- the states of one that was
  pub is_shown : {A : Type 0} (grains : List GrainId) (log : Log) (manner : Manner) (asked : List (List ℕ)) (new : World) (before after : Counts) (result : Result A ReportFault)
      → opened_as (seen_in old.disk) ≡ Reads live log → AreHeld grains (standing_of log) → PutsPart (show_text grains log) (is_ok result) mid new → MayEnd (report_ending result) → HasFailedAs (report_ending result) before after
      → IsShown (reported_as manner asked old new before after result)
  unfolding is_reported
  is_shown grains log manner asked new before after result reads held part end failed =
      record { grains = grains; report = is_reported (show_text grains) log manner asked new before after result reads part end failed; held = held }

  -- an audit of one that was
  pub is_audited : {A : Type 0} (unit : Option ℕ) (log : Log) (manner : Manner) (asked : List (List ℕ)) (new : World) (before after : Counts) (result : Result A ReportFault)
      → opened_as (seen_in old.disk) ≡ Reads live log → PutsPart (audit_text log unit) (is_ok result) mid new → MayEnd (report_ending result) → HasFailedAs (report_ending result) before after → IsFirstBad log unit
      → IsAudited (reported_as manner asked old new before after result)
  unfolding is_reported
  is_audited unit log manner asked new before after result reads part end failed first =
      record { first_bad = unit; report = is_reported (λ l. audit_text l unit) log manner asked new before after result reads part end failed; first = first }
