-- Faults of reading again, as those of a report.
use Rattle.std.proofs.Common.{◌≡◌, ◌⊎◌, inl, inr, ℕ, List, Result, Ok, Err, refl, sym, ◌∙◌, ap, subst}
use Rattle.base_types.specs.declared.calls.GrainId.{GrainId}
use Rattle.host_trait.specs.declared.channels.Channel.{Channel}
use Rattle.host_trait.specs.declared.channels.FileId.{FileId}
use Rattle.host_trait.specs.declared.channels.FileId.TheVariants.{Grain}
use Rattle.host_trait.specs.Faults.{NoneFailed}
use Rattle.field_codec.specs.declared.formats.Format.TheVariants.{Two}
use Rattle.log_reading.specs.Blocks.{LogRead, log_in_file}
use Rattle.log_reading.specs.Counts.{ReadFaulted}
use Rattle.log_reading.specs.Steps.{next_in}
use Rattle.log_reading.specs.declared.faults.FolderFault.{FolderFault}
use Rattle.log_reading.proofs.Errors.{failed}
use Rattle.script_tree.specs.Programs.{ProgramTree}
use Rattle.promise_spec.specs.Programs.{Program}
use Rattle.promise_spec.specs.Endings.{HasFailedAs}
use Rattle.silo_opening.specs.declared.faults.OpenFault.{OpenFault}
use Rattle.silo_opening.specs.Counts.{OpenFaulted}
use Rattle.silo_opening.specs.OpenedSilo.{in_folder, ending_of}
use Rattle.log_audit.specs.Endings.{fault_ending, MayEnd, from_folder}
use Rattle.log_audit.specs.declared.faults.ReportFault.{ReportFault}
use Rattle.log_audit.specs.RereadFaults.{IsLogFault, IsBlockFault}

pub folder_failed : (old new : Channel → ℕ) (e : FolderFault) → ReadFaulted e old new → HasFailedAs (fault_ending (from_folder e)) old new
folder_failed old new (FolderFault.Damaged at place) f = f
folder_failed old new (FolderFault.Failed at) f = f
folder_failed old new FolderFault.Memory f = f

-- calls that raised nothing, and then those of a fault
pub read_then : (a b c : Channel → ℕ) (e : FolderFault) → NoneFailed a b → ReadFaulted e b c → ReadFaulted e a c
read_then a b c e none failed = subst (λ (x : Channel → ℕ). ReadFaulted e x c) (λ i channel. none channel i) failed

pub open_faulted : (old new : Channel → ℕ) (e : FolderFault) → ReadFaulted e old new → OpenFaulted (in_folder e) old new
open_faulted old new (FolderFault.Damaged at place) f = f
open_faulted old new (FolderFault.Failed at) f = f
open_faulted old new FolderFault.Memory f = f

-- a report that meets want of memory, or a call on a grain's file that failed, was cut
pub opened_ends : (slot : ℕ) (e : OpenFault) → (e ≡ OpenFault.Memory) ⊎ ((grain : GrainId) × (e ≡ OpenFault.DiskFault (Grain slot grain))) → (fault : ReportFault) → fault_ending fault ≡ ending_of e → MayEnd (fault_ending fault)
opened_ends slot e (inl memory) fault is = subst MayEnd (sym (is ∙ ap ending_of memory)) (inr tt)
opened_ends slot e (inr failed) fault is = subst MayEnd (sym (is ∙ ap ending_of failed.1)) (inr tt)

abbrev refused : {A : Type 0} → OpenFault → Result A OpenFault
refused e = Err e

-- no fault of reading a log again is that of its generation
pub never_last : {A : Type 0} (e : OpenFault) (fault : FolderFault) → e ≡ in_folder fault → refused {A = A} e ≡ refused OpenFault.LastGeneration → ⊥
never_last e (FolderFault.Damaged at place) is last = absurd cc
never_last e (FolderFault.Failed at) is last = absurd cc
never_last e FolderFault.Memory is last = absurd cc

pub folder_ends : (p : Program) (file : List ℕ) (slot : ℕ) (log : LogRead) → log_in_file Two p file ≡ Ok log → (e : FolderFault) → IsLogFault slot p file e → MayEnd (fault_ending (from_folder e))
folder_ends p file slot log is (FolderFault.Damaged at place) here = absurd (let no : Err place ≡ Ok log = sym here ∙ is in cc)
folder_ends p file slot log is (FolderFault.Failed at) here = inr tt
folder_ends p file slot log is FolderFault.Memory here = inr tt

pub block_fault : {A : Type 0} (types : ProgramTree) (file : List ℕ) (last gate : ℕ) (e : FolderFault) → ((at : FileId) (place : ℕ) → failed {A = A} e ≡ failed (FolderFault.Damaged at place) → next_in Two types last gate file ≡ Err place)
    → IsBlockFault types last gate file (from_folder e)
block_fault types file last gate (FolderFault.Damaged at place) damaged = damaged at place refl
block_fault types file last gate (FolderFault.Failed at) damaged = tt
block_fault types file last gate FolderFault.Memory damaged = tt
