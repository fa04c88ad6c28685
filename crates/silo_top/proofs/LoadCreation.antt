-- The making of a load's silo, and its opening.
use Rattle.std.proofs.Common.{◌≡◌, ◌⊎◌, inl, inr, ℕ, zero, suc, ◌+◌, ◌≤◌, List, [], Result, Ok, Err, refl, sym, ap, subst, false, arith}
use Rattle.host_trait.specs.declared.channels.Channel.{Channel}
use Rattle.host_trait.specs.declared.channels.FileId.{FileId}
use Rattle.host_trait.specs.declared.channels.FileId.TheVariants.{Manager}
use Rattle.host_trait.specs.Faults.{NoneFailed}
use Rattle.host_trait.specs.Disk.{FileState, MayLeave, settled}
use Rattle.host_trait.specs.World.{World, Disk, Image, IsImage}
use Rattle.host_trait.proofs.Crashes.{settled_only}
use Rattle.log_reading.specs.Steps.{seen_in}
use Rattle.script_tree.specs.Programs.{program_tree}
use Rattle.script_tree.specs.declared.programs.Program.{Program as Tree}
use Rattle.program_file.specs.Programs.{program_in}
use Rattle.field_codec.specs.declared.formats.Format.TheVariants.{Two}
use Rattle.silo_spec.specs.Silos.{IsMagic, manager, IsSilo, IsNewSilo, IsEitherManager}
use Rattle.silo_spec.proofs.Magics.{silo_of_format}
use Rattle.silo_spec.specs.Slots.{IsLive, IsSiloImage, ShowsSilos}
use Rattle.silo_spec.specs.Moments.{IsUntouched}
use Rattle.silo_spec.specs.Creation.{StaysBeside, CameThisFar, FromFirstSync, IsNewAt}
use Rattle.silo_spec.specs.OpenedDisks.{OnlyOpens}
use Rattle.promise_spec.specs.Openings.{opened_as}
use Rattle.promise_spec.specs.Refusals.{IsRefusedBy}
use Rattle.promise_spec.specs.Words.{Manner}
use Rattle.promise_spec.specs.Endings as ending
use Rattle.promise_spec.specs.Endings.{Ending, HasFailedAs, HasRisen, MayEndLoad}
use Rattle.promise_spec.specs.Courses.{Observed}
use Rattle.promise_spec.specs.Loads.{bank_text, IsUnmade, Loads}
use Rattle.promise_laws.specs.Closings.{ReadsMayStay}
use Rattle.promise_spec.proofs.Slots.{some_live}
use Rattle.silo_opening.specs.Counts.{CreateFaulted, OpenFaulted}
use Rattle.silo_opening.specs.NewSilos.{ManagersStay}
use Rattle.silo_opening.specs.OpenedSilo.{ending_of}
use Rattle.silo_opening.specs.Steps.{ReadsSilo}
use Rattle.silo_opening.specs.declared.faults.CreateFault.{CreateFault}
use Rattle.silo_opening.specs.declared.faults.OpenFault.{OpenFault}
use Rattle.silo_opening.specs.declared.opened_silo.Opened.{Opened}
use Rattle.silo_top.specs.declared.status.Status.{Status}
use Rattle.silo_top.specs.Statuses.{status_ending}
use Rattle.silo_top.specs.CallAnswers.{AnswersRun}
use Rattle.silo_top.specs.LoadSteps.{IsMadeFrom, CarriesLoad, LiesWithin, creation_ending}
use Rattle.silo_top.specs.RunBehindOpening.{IsBehindOpening}
use Rattle.silo_top.proofs.ShownCalls.{observed_call}
use Rattle.silo_top.proofs.FaultCounts.{exactly_answers, open_failed, open_good}
use Rattle.silo_top.proofs.LoadStart.{with_checked}
use Rattle.silo_opening.proofs.OpeningCalls.{opens_untouched}
use Rattle.silo_top.proofs.UnopenedFolders.{refused_unopened}

-- an answer that is this fault, or none
abbrev fault_of : (A : Type 0) → CreateFault → Result A CreateFault
fault_of A e = Err e

abbrev done_of : (A : Type 0) → A → Result A CreateFault
done_of A done = Ok done

-- ---- a folder that reads as a silo, by its manager files and by its live slot

reads_silo : (disk : Disk) → IsSiloImage IsMagic (seen_in disk) → ReadsSilo IsMagic disk
reads_silo disk (zero, live) = inl live.silo
reads_silo disk (suc zero, live) = inr live.silo
reads_silo disk (suc (suc n), live) = absurd (omega (arith, live.slot))

was_silo : (disk : Disk) → ReadsSilo IsMagic disk → IsSiloImage IsMagic (seen_in disk)
was_silo disk (inl silo) = some_live (seen_in disk) 0 (omega arith) silo
was_silo disk (inr silo) = some_live (seen_in disk) 1 (omega arith) silo

-- ---- it wasn't made

-- the file that a fault names
same_file : (A : Type 0) (a b : FileId) → fault_of A (CreateFault.DiskFault a) ≡ fault_of A (CreateFault.DiskFault b) → b ≡ a
same_file A a b e = cc

-- a call on a silo was refused, for a manager file where a fault was
abbrev IsRefusedOn : Type 0 → CreateFault → Type 0
IsRefusedOn A e = (fault_of A e ≡ fault_of A CreateFault.AlreadyASilo) ⊎ ((file : FileId) × IsEitherManager file × (fault_of A e ≡ fault_of A (CreateFault.DiskFault file)))

module _ (m : Manner) (asked : List (List ℕ)) (old new : World) (before after : Channel → ℕ) where
  abbrev ended_so : Ending → Observed
  ended_so e = record { manner = m; asked = asked; windowed = false; old = old; new = new; faults_before = before; faults_after = after; ending = e }

  pub uncreated : (A : Type 0) (e : CreateFault) (status : Status) → status_ending status ≡ creation_ending e → StaysBeside old new → (ShowsSilos IsMagic old.disk → CameThisFar IsMagic bank_text old new)
      → (ShowsSilos IsMagic old.disk → ShowsSilos IsMagic new.disk) → CreateFaulted e before after → (fault_of A e ≡ fault_of A CreateFault.AlreadyASilo → ReadsSilo IsMagic old.disk)
      → (fault_of A e ≡ fault_of A CreateFault.AlreadyASilo → ManagersStay old new) → (ReadsSilo IsMagic old.disk → IsRefusedOn A e) → (ReadsSilo IsMagic old.disk → IsUntouched old new)
      → IsUnmade (observed_call m asked old new before after status)
  uncreated A e status is beside makes shows faulted already lasts silo kept = subst (λ (y : Ending). IsUnmade (ended_so y)) (sym is) (by e faulted already lasts silo)
    where
      by : (x : CreateFault) → CreateFaulted x before after → (fault_of A x ≡ fault_of A CreateFault.AlreadyASilo → ReadsSilo IsMagic old.disk)
          → (fault_of A x ≡ fault_of A CreateFault.AlreadyASilo → ManagersStay old new) → (ReadsSilo IsMagic old.disk → IsRefusedOn A x) → IsUnmade (ended_so (creation_ending x))
      by CreateFault.AlreadyASilo f a l s = record {
        beside = beside;
        makes = makes;
        shows = shows;
        ends_as = (was_silo old.disk (a refl), kept (a refl), λ image is_image slot low some. settled_only (old.disk (Manager slot)).seen (image (Manager slot)) (subst (λ (y : FileState). MayLeave y (image (Manager slot))) (l refl slot low some) (is_image (Manager slot))));
        failed = f;
      }
      by (CreateFault.DiskFault file) f a l s = record {
        beside = beside;
        makes = makes;
        shows = shows;
        ends_as = (
          f.0,
          λ was.
              let reads : ReadsSilo IsMagic old.disk = reads_silo old.disk was in
              (elim (s reads) [ inl other ↦ absurd cc | inr at ↦ subst IsEitherManager (same_file A file at.0 at.2) at.1 ], kept reads),
        );
        failed = f.1;
      }

pub uncreated_answers : (e : CreateFault) (status : Status) (before after : Channel → ℕ) → status_ending status ≡ creation_ending e → CreateFaulted e before after → AnswersRun MayEndLoad (status_ending status) before after
uncreated_answers e status before after is faulted = subst (λ (y : Ending). AnswersRun MayEndLoad y before after) (sym is) (by e faulted)
  where
    by : (x : CreateFault) → CreateFaulted x before after → AnswersRun MayEndLoad (creation_ending x) before after
    by CreateFault.AlreadyASilo f = exactly_answers before after MayEndLoad ending.AlreadyASilo (λ q. cc q) f
    by (CreateFault.DiskFault file) f = exactly_answers before after MayEndLoad (ending.DiskFault file) (λ q. cc q) f.1

-- ---- it was made

pub made_from : (A : Type 0) (old new : World) (done : A)
    → (ReadsSilo IsMagic old.disk → (done_of A done ≡ fault_of A CreateFault.AlreadyASilo) ⊎ ((file : FileId) × IsEitherManager file × (done_of A done ≡ fault_of A (CreateFault.DiskFault file))))
    → StaysBeside old new → (ShowsSilos IsMagic old.disk → CameThisFar IsMagic bank_text old new) → (ShowsSilos IsMagic old.disk → ShowsSilos IsMagic new.disk)
    → ((image : Image) → IsImage new.disk image → IsNewSilo bank_text image) → (ShowsSilos IsMagic old.disk → (image : Image) → IsImage new.disk image → IsLive IsMagic 0 image)
    → ReadsMayStay new → old.syncs + 4 ≤ new.syncs → new.syncs ≤ old.syncs + 6 → IsMadeFrom old new
made_from A old new done silo beside makes shows images live stay least most = record {
  absent = absent;
  beside = beside;
  makes = λ short. by (makes short);
  each = images;
  bank = λ short. record { each = images; live = live short; shows = shows short };
  stays = stay;
  syncs = (least, most);
}
  where
    absent : IsSiloImage IsMagic (seen_in old.disk) → ⊥
    absent was = elim (silo (reads_silo old.disk was)) [ inl q ↦ (let t : ⊥ = cc in t) | inr q ↦ (let e = q.2 in let t : ⊥ = cc in t) ]

    by : CameThisFar IsMagic bank_text old new → FromFirstSync (IsNewAt IsMagic bank_text) old new
    by (inl untouched) = absurd (absent (was_silo old.disk (inl (subst (IsSilo IsMagic) (untouched.seen manager) (silo_of_format Two (seen_in new.disk manager) (images (seen_in new.disk) stay).silo)))))
    by (inr first) = first

-- where a silo was made, and the folder read as none, slot 0 is the one that reads as live
pub live_seen : (old new : World) → IsMadeFrom old new → IsLive IsMagic 0 (seen_in new.disk)
live_seen old new made = record {
  slot = omega arith;
  silo = silo_of_format Two (seen_in new.disk (Manager 0)) (made.each (seen_in new.disk) made.stays).silo;
  over = λ other. absurd (made.absent (was_silo old.disk (inr (subst (IsSilo IsMagic) (looked made.beside.now.other) other))));
}
  where
    looked : (new.disk (Manager 1) ≡ old.disk (Manager 1)) ⊎ (new.disk (Manager 1) ≡ settled (old.disk (Manager 1)).seen) → (new.disk (Manager 1)).seen ≡ (old.disk (Manager 1)).seen
    looked (inl same) = ap (λ (f : FileState). f.seen) same
    looked (inr looked_at) = ap (λ (f : FileState). f.seen) looked_at

pub made_loads : (n seed : ℕ) (m : Manner) (asked : List (List ℕ)) (old made new : World) (before between after : Channel → ℕ) (status : Status) → IsMadeFrom old made → NoneFailed before between
    → AnswersRun MayEndLoad (status_ending status) before after → (ShowsSilos IsMagic old.disk → CarriesLoad n seed (observed_call m asked made new between after status)) → Loads n seed m (observed_call m asked old new before after status)
made_loads n seed m asked old made new before between after status is none answers carries = record {
  manner = refl;
  windowed = refl;
  answers = inr (record {
    made = made;
    has = record {
      absent = is.absent;
      beside = is.beside;
      makes = is.makes;
      shows = λ short. (is.bank short).shows;
      stays = is.stays;
      new = λ image left. (is.each image left, λ short. (is.bank short).live image left);
      syncs = is.syncs;
    };
    good = answers.good;
    risen = answers.risen;
    carried = λ short. (so short).carried;
  });
}
  where
    so : ShowsSilos IsMagic old.disk → CarriesLoad n seed (observed_call m asked made new before after status)
    so short = subst (λ (f : Channel → ℕ). CarriesLoad n seed (observed_call m asked made new f after status)) (λ i c. none c i) (carries short)

-- ---- it wasn't opened

pub unopened_carries : (n seed : ℕ) (m : Manner) (asked : List (List ℕ)) (bank : Tree) (old new : World) (before after : Channel → ℕ) (e : OpenFault) (status : Status) → program_in bank_text ≡ Ok (program_tree bank) → status_ending status ≡ ending_of e
    → OnlyOpens old new → IsRefusedBy Two (seen_in old.disk) (opened_as (seen_in old.disk)) (ending_of e) → OpenFaulted e before after → CarriesLoad n seed (observed_call m asked old new before after status)
unopened_carries n seed m asked bank old new before after e status reads is run refused faulted = record {
  carried = inl (refused_unopened m asked old new before after e status is run refused faulted);
}

pub unopened_answers : (may : Ending → Type 0) (e : OpenFault) (status : Status) (before after : Channel → ℕ) → status_ending status ≡ ending_of e → OpenFaulted e before after → AnswersRun may (status_ending status) before after
unopened_answers may e status before after is faulted = subst (λ (y : Ending). AnswersRun may y before after) (sym is) (exactly_answers before after may (ending_of e) (open_good before after e) (open_failed before after e faulted))

-- where there was no memory behind the opening
pub starved_carries : (n seed : ℕ) (m : Manner) (asked : List (List ℕ)) (x : Opened) (old mid : World) (before after : Channel → ℕ) → program_in bank_text ≡ Ok (program_tree x.checked) → IsBehindOpening old mid x → NoneFailed before after
    → CarriesLoad n seed (observed_call m asked old mid before after Status.Memory)
starved_carries n seed m asked x old mid before after reads is none = record {
  carried = inl (record { untouched = opens_untouched _ old mid is.run; unread = is.run.input; syncs = is.run.syncs; refused = tt; failed = none });
}

-- what was opened lies in the files as they read behind the opening
pub lies_within : (x : Opened) (bank : Tree) (old mid : World) → IsBehindOpening old mid x → LiesWithin (seen_in mid.disk) (with_checked x bank)
lies_within x bank old mid is =
    subst (λ (image : Image). LiesWithin image (with_checked x bank)) (λ i file. sym ((opens_untouched _ old mid is.run).seen file) i)
    (record { within = is.opened.within; closed = is.opened.closed })
