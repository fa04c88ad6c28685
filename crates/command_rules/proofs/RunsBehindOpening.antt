-- What stands behind an opening.
use Rattle.std.proofs.Common.{◌≡◌, ℕ, sym, ◌∙◌, ap, subst, arith}
use Rattle.std.proofs.lemmas.List.{append_cancel_left}
use Rattle.host_trait.specs.declared.channels.FileId.TheVariants.{Manager}
use Rattle.host_trait.specs.Disk.{settled}
use Rattle.host_trait.specs.World as host
use Rattle.host_trait.specs.World.{Disk, moment_of, last_of}
use Rattle.log_reading.specs.Steps.{seen_in}
use Rattle.field_codec.specs.declared.formats.Format.TheVariants.{Two}
use Rattle.silo_spec.specs.Silos.{IsMagic}
use Rattle.silo_spec.specs.Slots.{IsLive}
use Rattle.promise_spec.specs.Entries.{Log, standing_of}
use Rattle.promise_spec.specs.Openings.{Reads}
use Rattle.promise_spec.proofs.Openings.{reads_is_live}
use Rattle.promise_spec.specs.Courses.{Observed, Course, program_in_force}
use Rattle.promise_spec.specs.Images.{IsWholeFolder}
use Rattle.promise_laws.specs.Closings.{ReadsMayStay, IsBehind}
use Rattle.promise_laws.specs.Obligations.{Opens}
use Rattle.promise_laws.proofs.KeptRuns.{opens_whole}
use Rattle.silo_opening.specs.OpenedSilo.{IsOpenedFrom}
use Rattle.silo_opening.proofs.OpeningCalls.{long_opened, opens_untouched}
use Rattle.silo_opening.specs.declared.opened_silo.Opened.{Opened}
use Rattle.command_rules.specs.RunsBehindOpening.{program_of, FollowsOpening}

pub behind : (o : Opened) (r : Observed) (c : Course) (mid : host.World) (is : IsOpenedFrom (seen_in r.old.disk) o) → FollowsOpening r c mid o.slot is.log → IsBehind r c mid
behind o r c mid is follows = record {
  reads = is.reads ∙ (λ i. Reads (slot i) (log i));
  untouched = opens_untouched _ r.old mid follows.run;
  settled = subst (λ (s : ℕ). mid.disk (Manager s) ≡ settled (r.old.disk (Manager s)).seen) slot here;
  others = λ file other. ap (λ (d : Disk). d file) follows.left;
  early = follows.early;
  last = subst (λ ms. last_of (moment_of r.old) ms ≡ moment_of mid) (append_cancel_left r.old.past follows.run.clock.more c.early (sym follows.run.clock.past ∙ follows.early)) follows.run.clock.last;
  late = follows.late;
}
  where
    slot : o.slot ≡ c.live
    slot = sym follows.live

    log : is.log ≡ c.opening
    log = sym follows.opening

    live : IsLive IsMagic o.slot (seen_in r.old.disk)
    live = reads_is_live Two (seen_in r.old.disk) o.slot is.log is.reads

    -- the live manager file is a silo's, and so it was synced
    here : mid.disk (Manager o.slot) ≡ settled (r.old.disk (Manager o.slot)).seen
    here =
        let first = live.slot in
        ap (λ (d : Disk). d (Manager o.slot)) follows.left ∙ long_opened o.slot (r.old.disk (Manager o.slot)) (omega (arith, first)) live.silo.long

-- the program in force is that of the opened silo
pub in_force : (o : Opened) (r : Observed) (c : Course) (mid : host.World) (is : IsOpenedFrom (seen_in r.old.disk) o) → FollowsOpening r c mid o.slot is.log → program_in_force c ≡ program_of is
in_force o r c mid is follows = ap (λ (l : Log). (standing_of l).program) follows.opening ∙ is.program

pub opens : (o : Opened) (r : Observed) (c : Course) (mid : host.World) (is : IsOpenedFrom (seen_in r.old.disk) o) → FollowsOpening r c mid o.slot is.log → IsWholeFolder r.old → ReadsMayStay r.old → ReadsMayStay mid → Opens r c
opens o r c mid is follows whole stay stay_mid = opens_whole (program_of is) r c mid (behind o r c mid is follows) whole stay stay_mid
