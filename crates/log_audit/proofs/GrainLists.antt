-- The grains that a log names, as they are read block by block.
use Rattle.std.proofs.Common.{◌≡◌, ℕ, List, [], ◌++◌, map, Some, None, Ok, Err, refl, sym, ◌∙◌, ap, subst, append_assoc, append-nil}
use Rattle.std.proofs.lemmas.Grind.{flat_map-append}
use Rattle.base_types.specs.declared.calls.GrainId.{GrainId}
use Rattle.field_codec.specs.declared.formats.Format.TheVariants.{Two}
use Rattle.commit_log.specs.declared.records.CommitRecord.{CommitRecord}
use Rattle.commit_log.specs.declared.records.Written.{Written}
use Rattle.host_trait.specs.declared.channels.FileId.{FileId}
use Rattle.host_trait.specs.declared.channels.FileId.TheVariants.{Manager}
use Rattle.script_tree.specs.Programs.{ProgramTree}
use Rattle.log_reading.specs.Entries as says
use Rattle.log_reading.specs.Entries.{BodyEntry}
use Rattle.log_reading.specs.Blocks.{LogBase, ReadEntry, LogRead, entries_said, program_after, records_read, log_in_file}
use Rattle.log_reading.specs.Steps.{next_in, IsFollowedBy}
use Rattle.log_reading.specs.declared.faults.FolderFault.{FolderFault}
use Rattle.log_reading.proofs.LogBlocks.{follows_on, follows_breaks, after_more}
use Rattle.log_reading.proofs.Errors.{failed}
use Rattle.promise_spec.specs.Programs.{Program}
use Rattle.log_audit.specs.InForce.{types_behind}
use Rattle.log_audit.specs.WrittenGrains.{grains_recorded, grains_said, grains_of_log, grains_added}
use Rattle.log_audit.specs.RereadFaults.{IsLogFault}
use Rattle.log_audit.proofs.GrainOrder.{grains_added-append}
use Rattle.log_audit.proofs.ReadEntries.{behind_is, all_read, records_both, records_seen}

recorded_both : (a b : List CommitRecord) → grains_recorded (a ++ b) ≡ grains_recorded a ++ grains_recorded b
recorded_both a b = flat_map-append (λ (r : CommitRecord). map (λ (w : Written). w.grain) r.writes) a b

-- the grains of what a block says are those of its entries
said_are : (entry : BodyEntry) → grains_recorded (records_read (entries_said entry)) ≡ grains_said entry
said_are (says.Recorded records) = ap grains_recorded (records_seen records)
said_are (says.Upgraded p) = refl

-- the grains of the log's beginning and of the entries that were read, behind which these types are in force
pub record HasGrains (p : Program) (file : List ℕ) (last gate : ℕ) (types : ProgramTree) (kept : List GrainId) : Type 0 where
  pub base : LogBase
  pub entries : List ReadEntry
  pub sessions : List ℕ
  pub follows : IsFollowedBy Two p file base entries sessions last gate
  pub in_force : (program_after p entries).types ≡ types
  pub are : kept ≡ grains_added [] (grains_of_log (record { base = base; entries = entries }))

module _ (p : Program) (file : List ℕ) where
  pub grains_begun : (base : LogBase) (last gate : ℕ) (types : ProgramTree) (kept : List GrainId) → p.types ≡ types → IsFollowedBy Two p file base [] [] last gate → kept ≡ grains_added [] (map (λ w. w.grain) base.writes)
      → HasGrains p file last gate types kept
  grains_begun base last gate types kept first begins are = record {
    base = base;
    entries = [];
    sessions = [];
    follows = begins;
    in_force = first;
    are = are ∙ ap (grains_added []) (sym (append-nil (map (λ (w : Written). w.grain) base.writes)));
  }

  module _ (last gate : ℕ) (types : ProgramTree) (kept : List GrainId) (h : HasGrains p file last gate types kept) where
    pub grains_more : (session : ℕ) (entry : BodyEntry) (behind : ℕ) (new : List GrainId) → new ≡ grains_added kept (grains_said entry) → next_in Two types last gate file ≡ Ok (Some (session, entry, behind)) → HasGrains p file session behind (types_behind types entry) new
    grains_more session entry behind new put step =
        let saved : List GrainId = map (λ (w : Written). w.grain) h.base.writes in
        let all : grains_recorded (records_read (h.entries ++ entries_said entry)) ≡ grains_recorded (records_read h.entries) ++ grains_said entry =
        ap grains_recorded (records_both h.entries (entries_said entry)) ∙ recorded_both (records_read h.entries) (records_read (entries_said entry))
        ∙ ap (λ (l : List GrainId). grains_recorded (records_read h.entries) ++ l) (said_are entry) in
        record {
          base = h.base;
          entries = h.entries ++ entries_said entry;
          sessions = h.sessions ++ map (λ e. session) (entries_said entry);
          follows = follows_on Two p file h.base h.entries h.sessions last gate h.follows session entry behind (subst (λ (t : ProgramTree). next_in Two t last gate file ≡ Ok (Some (session, entry, behind))) (sym h.in_force) step);
          in_force = ap (λ (q : Program). q.types) (after_more p h.entries entry) ∙ behind_is (program_after p h.entries) types entry h.in_force;
          are =
              put ∙ ap (λ (l : List GrainId). grains_added l (grains_said entry)) h.are ∙ sym (grains_added-append [] (saved ++ grains_recorded (records_read h.entries)) (grains_said entry))
              ∙ ap (grains_added []) (append_assoc saved (grains_recorded (records_read h.entries)) (grains_said entry) ∙ ap (λ (l : List GrainId). saved ++ l) (sym all));
        }

    pub grains_ended : next_in Two types last gate file ≡ Ok None → (log : LogRead) → log_in_file Two p file ≡ Ok log → kept ≡ grains_added [] (grains_of_log log)
    grains_ended end log is =
        let same = all_read p file h.base h.entries h.sessions last gate h.follows (subst (λ (t : ProgramTree). next_in Two t last gate file ≡ Ok None) (sym h.in_force) end) log is in
        h.are ∙ (λ i. grains_added [] (map (λ (w : Written). w.grain) (same.0 i).writes ++ grains_recorded (records_read (same.1 i))))

    pub grains_broken : (place : ℕ) → next_in Two types last gate file ≡ Err place → log_in_file Two p file ≡ Err place
    grains_broken place step = follows_breaks Two p file h.base h.entries h.sessions last gate h.follows place (subst (λ (t : ProgramTree). next_in Two t last gate file ≡ Err place) (sym h.in_force) step)

  -- a fault of reading the log
  pub log_fault : {A : Type 0} (slot : ℕ) (e : FolderFault) → ((at : FileId) (place : ℕ) → failed {A = A} e ≡ failed (FolderFault.Damaged at place) → log_in_file Two p file ≡ Err place)
      → ((at : FileId) → failed {A = A} e ≡ failed (FolderFault.Failed at) → at ≡ Manager slot) → IsLogFault slot p file e
  log_fault slot (FolderFault.Damaged at place) damaged fails = damaged at place refl
  log_fault slot (FolderFault.Failed at) damaged fails = fails at refl
  log_fault slot FolderFault.Memory damaged fails = tt
