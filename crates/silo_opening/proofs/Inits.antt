-- A call of `init`: what it comes to before the folder is touched, and what `create` makes of it.
use Rattle.std.proofs.Common.{◌≡◌, ◌≢◌, ◌⊎◌, inl, inr, ℕ, zero, suc, ◌<◌, ◌≤◌, List, [], length, Option, Some, None, Result, Ok, Err, refl, sym, ◌∙◌, ap, subst, arith}
use Rattle.host_trait.specs.declared.channels.Channel.{Channel}
use Rattle.host_trait.specs.declared.channels.FileId.{FileId}
use Rattle.host_trait.specs.declared.channels.FileId.TheVariants.{Manager}
use Rattle.host_trait.specs.Faults.{NoneFailed}
use Rattle.host_trait.specs.Disk.{settled}
use Rattle.host_trait.specs.World.{World, Image, IsImage, Disk, Passes, moment_of}
use Rattle.host_trait.proofs.Runs.{settled_image}
use Rattle.program_file.specs.declared.faults.ProgramFault.{ProgramFault}
use Rattle.program_file.specs.Programs.{text_limit}
use Rattle.program_file.specs.Answers.{program_fault_place, IsFaultOf}
use Rattle.silo_spec.specs.Silos.{IsEitherManager, IsNewSilo, IsMagic}
use Rattle.silo_spec.specs.Slots.{IsLive, IsSiloImage, ShowsSilos}
use Rattle.silo_spec.specs.Moments.{IsUntouched}
use Rattle.silo_spec.specs.Creation.{StaysBeside, CameThisFar}
use Rattle.promise_spec.specs.Words.{Manner}
use Rattle.promise_spec.specs.Commands.{MakesSilo, MakesAs, IsProgramText}
use Rattle.promise_spec.specs.Endings.{HasRisen}
use Rattle.promise_spec.proofs.Slots.{some_live}
use Rattle.log_reading.specs.Steps.{seen_in}
use Rattle.silo_opening.specs.Steps.{ReadsSilo}
use Rattle.silo_opening.proofs.ManagerLook.{SeenMayStay}
use Rattle.silo_opening.specs.declared.faults.CreateFault.{CreateFault}
use Rattle.silo_opening.specs.declared.input.InputFault.{InputFault}
use Rattle.silo_opening.specs.declared.silo_init.InitFault.{InitFault}
use Rattle.silo_opening.specs.Counts.{InputFaulted, CreateFaulted, InitFaulted}
use Rattle.silo_opening.specs.Inits.{in_input, in_program, in_creation, ending_of, ended_with}
use Rattle.silo_opening.proofs.InitSteps.{untouched_from, untouched_so_far, beside_all, beside_last, beside_so_far, beside_here, makes_from}

-- an answer that is this fault
abbrev pub failed : {A E : Type 0} → E → Result A E
failed e = Err e

-- no answer is both a silo and a fault
pub made_no_fault : {A E : Type 0} (made : A) (one : E) (P : FileId → Type 0) (other : FileId → E) → (Ok made ≡ failed one) ⊎ ((file : FileId) × P file × (Ok made ≡ failed (other file))) → ⊥
made_no_fault made one P other (inl is) = absurd cc
made_no_fault made one P other (inr is) = absurd (let e = is.2 in cc)

-- the file that a fault names
same_file_of : {A : Type 0} (a b : FileId) → failed {A = A} (CreateFault.DiskFault a) ≡ failed (CreateFault.DiskFault b) → a ≡ b
same_file_of a b e = cc

-- a folder that reads as a silo, by its manager files and by its live slot
reads_silo : (old : World) → IsSiloImage IsMagic (seen_in old.disk) → ReadsSilo IsMagic old.disk
reads_silo old (zero, live) = inl live.silo
reads_silo old (suc zero, live) = inr live.silo
reads_silo old (suc (suc n), live) = absurd (omega (arith, live.slot))

was_silo : (old : World) → ReadsSilo IsMagic old.disk → IsSiloImage IsMagic (seen_in old.disk)
was_silo old (inl silo) = some_live (seen_in old.disk) 0 (omega arith) silo
was_silo old (inr silo) = some_live (seen_in old.disk) 1 (omega arith) silo

-- where no count has changed, the counts are the same
pub same_counts : (old new : Channel → ℕ) → NoneFailed old new → new ≡ old
same_counts old new calm = λ i c. calm c i

-- the counts of an input that wasn't read
pub input_counts : (old new : Channel → ℕ) (e : InputFault) → InputFaulted e old new → InitFaulted (in_input e) old new
input_counts old new InputFault.Memory faulted = faulted
input_counts old new InputFault.Failed faulted = faulted
input_counts old new InputFault.TooLong faulted = faulted

-- those of a text that is no program
pub program_counts : (old new : Channel → ℕ) (fault : ProgramFault) (o : Option ℕ) → NoneFailed old new → InitFaulted (in_program fault o) old new
program_counts old new fault (Some place) calm = calm
program_counts old new fault None calm = calm

-- those of a silo that wasn't made
pub creation_counts : (old new : Channel → ℕ) (e : CreateFault) → CreateFaulted e old new → InitFaulted (in_creation e) old new
creation_counts old new CreateFault.AlreadyASilo faulted = faulted
creation_counts old new (CreateFault.DiskFault file) faulted = faulted

module _ (A : Type 0) (manner : Manner) (asked : List (List ℕ)) (old mid : World) (before after : Channel → ℕ) (disk : mid.disk ≡ old.disk) (output : mid.output ≡ old.output)
    (still : Passes (λ m. m ≡ moment_of old) old.past mid.past) where
  -- nothing of the folder was touched
  pub refused_early : (e : InitFault) → MakesAs (ending_of (failed {A = A} e)) (ended_with manner asked old mid before after (failed {A = A} e)) → HasRisen (ending_of (failed {A = A} e)) before after
      → MakesSilo (ended_with manner asked old mid before after (failed {A = A} e))
  refused_early e ended risen = record {
    beside = beside_so_far old mid disk output still;
    beside_now = beside_here old mid disk output still;
    makes = λ shows. inl (untouched_so_far old mid disk output still);
    shows = λ shows. subst (ShowsSilos IsMagic) (sym disk) shows;
    ends_as = ended;
    risen = risen;
  }

  -- the input wasn't read
  pub input_refused : (e : InputFault) → InputFaulted e before after → (e ≡ InputFault.TooLong → text_limit < length old.input)
      → MakesSilo (ended_with manner asked old mid before after (failed {A = A} (in_input e)))
  input_refused InputFault.Memory faulted long = refused_early InitFault.Memory (untouched_so_far old mid disk output still) tt
  input_refused InputFault.Failed faulted long = refused_early InitFault.ReadFault (untouched_so_far old mid disk output still) faulted.rose
  input_refused InputFault.TooLong faulted long = refused_early InitFault.InputTooLong (refl, long refl, untouched_so_far old mid disk output still) tt

  -- it was, and is no program: with the place that is named, or none
  program_by : (fault : ProgramFault) (o : Option ℕ) → mid.input ≡ [] → length old.input ≤ text_limit → IsFaultOf old.input fault o
      → MakesSilo (ended_with manner asked old mid before after (failed {A = A} (in_program fault o)))
  program_by fault (Some place) end small is = refused_early (InitFault.BadProgram fault) ((end, small, is), untouched_so_far old mid disk output still) tt
  program_by fault None end small is = refused_early InitFault.Memory (untouched_so_far old mid disk output still) tt

  -- it was, and is no program
  pub program_refused : (fault : ProgramFault) → mid.input ≡ [] → length old.input ≤ text_limit → IsFaultOf old.input fault (program_fault_place fault)
      → MakesSilo (ended_with manner asked old mid before after (failed {A = A} (in_program fault (program_fault_place fault))))
  program_refused fault end small is = program_by fault (program_fault_place fault) end small is

  module _ (new : World) (beside : StaysBeside mid new) (makes : ShowsSilos IsMagic mid.disk → CameThisFar IsMagic old.input mid new) (kept : ReadsSilo IsMagic mid.disk → IsUntouched mid new)
      (text : IsProgramText (ended_with {A = A} manner asked old new before after (Err InitFault.Memory))) (here : SeenMayStay old)
      (shown : ShowsSilos IsMagic mid.disk → ShowsSilos IsMagic new.disk) where
    -- the manager files are as they were at first
    same_log : (slot : ℕ) → (mid.disk (Manager slot)).seen ≡ (old.disk (Manager slot)).seen
    same_log slot = ap (λ (d : Disk). (d (Manager slot)).seen) disk

    there : ReadsSilo IsMagic old.disk → ReadsSilo IsMagic mid.disk
    there silo = subst (ReadsSilo IsMagic) (sym disk) silo

    -- the folder was touched, or left as it was
    pub made_so : (result : Result A InitFault) → MakesAs (ending_of result) (ended_with manner asked old new before after result) → HasRisen (ending_of result) before after
        → MakesSilo (ended_with manner asked old new before after result)
    made_so result ended risen = record {
      beside = beside_all old mid disk output still new beside;
      beside_now = beside_last old mid disk output still new beside;
      makes = λ shows. makes_from old mid disk output still old.input here shows new (λ silo. kept (there silo)) (makes (subst (ShowsSilos IsMagic) (sym disk) shows));
      shows = λ shows. shown (subst (ShowsSilos IsMagic) (sym disk) shows);
      ends_as = ended;
      risen = risen;
    }

    -- a silo was made
    pub is_made : (made : A) → ((image : Image) → IsImage new.disk image → IsNewSilo old.input image) → (ShowsSilos IsMagic mid.disk → (image : Image) → IsImage new.disk image → IsLive IsMagic 0 image) → (ReadsSilo IsMagic mid.disk → ⊥)
        → MakesSilo (ended_with manner asked old new before after (Ok made))
    is_made made new_one live lacks = made_so (Ok made) (
      text_is,
      (λ was. lacks (there (reads_silo old was))),
      λ image is. (new_one image is, λ shows. live (subst (ShowsSilos IsMagic) (sym disk) shows) image is),
    ) tt
      where
        text_is : IsProgramText (ended_with {A = A} manner asked old new before after (Ok made))
        text_is = record { input = text.input; small = text.small; types = text.types; reads = text.reads }

    -- the text is a program's, whatever the fault
    text_of : (e : InitFault) → IsProgramText (ended_with {A = A} manner asked old new before after (Err e))
    text_of e = record { input = text.input; small = text.small; types = text.types; reads = text.reads }

    -- none was
    pub creation_refused : (e : CreateFault) → CreateFaulted e before after
        → (failed {A = A} e ≡ failed CreateFault.AlreadyASilo → ReadsSilo IsMagic mid.disk)
        → (failed {A = A} e ≡ failed CreateFault.AlreadyASilo → (slot : ℕ) → slot ≤ 1 → (mid.disk (Manager slot)).seen ≢ [] → new.disk (Manager slot) ≡ settled (mid.disk (Manager slot)).seen)
        → (ReadsSilo IsMagic mid.disk → (failed {A = A} e ≡ failed CreateFault.AlreadyASilo) ⊎ ((file : FileId) × IsEitherManager file × (failed {A = A} e ≡ failed (CreateFault.DiskFault file))))
        → MakesSilo (ended_with manner asked old new before after (failed {A = A} (in_creation e)))
    creation_refused CreateFault.AlreadyASilo faulted already lasts silo =
        let reads = already refl in
        made_so (Err InitFault.AlreadyASilo) (
          text_of InitFault.AlreadyASilo,
          was_silo old (subst (ReadsSilo IsMagic) disk reads),
          untouched_from old mid disk output still new (kept reads),
          λ image is slot low some.
              let last = lasts refl slot low (λ none. some (sym (same_log slot) ∙ none)) in
              settled_image new.disk (Manager slot) (mid.disk (Manager slot)).seen (image (Manager slot)) last (is (Manager slot)) ∙ same_log slot,
        ) tt
    creation_refused (CreateFault.DiskFault file) faulted already lasts silo =
        made_so (Err (InitFault.DiskFault file)) (
          text_of (InitFault.DiskFault file),
          faulted.0,
          λ was.
              let reads = there (reads_silo old was) in
              (elim (silo reads) [ inl other ↦ absurd cc | inr at ↦ (let same : file ≡ at.0 = same_file_of file at.0 at.2 in subst IsEitherManager (sym same) at.1) ], untouched_from old mid disk output still new (kept reads)),
        ) faulted.1.rose
