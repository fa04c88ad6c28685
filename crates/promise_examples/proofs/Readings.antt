-- What the folders like that of the first deposit read as.
use Rattle.std.proofs.Common.{◌≡◌, ◌≢◌, ℕ, zero, suc, ◌<◌, Bool, true, false, Option, Some, List, [], ◌∷◌, ◌++◌, length, take, drop, slice_index, nat_lt, Result, if◌then◌else◌, refl, subst, ◌∙◌, ap, arith}
use Rattle.std.specs.Prelude.{◌==◌}
use Rattle.std.proofs.lemmas.Bool.{ne_eqb, lt-leb}
use Rattle.std.proofs.lemmas.List.{take_at}
use Rattle.host_trait.specs.declared.channels.FileId.TheVariants.{Manager, Grain}
use Rattle.host_trait.specs.World.{Image}
use Rattle.field_codec.specs.declared.formats.Format.TheVariants.{One, Two}
use Rattle.field_codec.specs.Readers.{whole, refused, field, choice, when_known, chain, count_at, list_at}
use Rattle.field_codec.specs.Fields.{value_at, exactly_at, session_at, unit_at, origin_at, answer_at, result_at}
use Rattle.gate_block.specs.Blocks.{found_at}
use Rattle.gate_block.specs.Log.{bodies_of, gate_of}
use Rattle.commit_log.specs.Contents.{content_in}
use Rattle.commit_log.specs.Sessions.{front_in}
use Rattle.commit_log.specs.Fields.{grain_in, call_in, write_in, writes_in, record_in}
use Rattle.grain_log.specs.Reads.{version_in}
use Rattle.silo_spec.specs.Silos.{manager, program_file}
use Rattle.promise_spec.specs.Programs.{Program}
use Rattle.promise_spec.specs.Logs.{IsMagic}
use Rattle.promise_spec.specs.Openings.{NoSilo, OtherFormat, DamagedAt, Reads, is_silo, has_format, program_in_file, header_damage, behind_header, log_as, with_program, live_of, with_slot, with_log, reading_in, opened_as}
use Rattle.promise_spec.proofs.Openings.{no_silo_is_read}
use Rattle.promise_laws.specs.MigratedFiles.{migrated_file}
use Rattle.promise_examples.specs.Examples.{account_log, account_program, account_1, account_2, first_commit, program_bytes, grain_bytes, manager_bytes, folder, torn_folder}
use Rattle.promise_examples.specs.Readings.{changed, folder_of, program_folder, log_folder, log_changed, grain_folder, two_writes, same_account, version_by, two_folder, old_manager_bytes}
use Rattle.promise_examples.proofs.NewSilo.{file_is_read}
use Rattle.silo_spec.specs.Silos.{IsSilo}
use Rattle.silo_spec.specs.Slots.{generation, IsLive}
use Rattle.promise_examples.proofs.AccountLogs.{no_bytes}

-- ---- folders whose program file is the accounts'

-- what the manager files read as
pub record Logs : Type 0 where
  pub deposit : opened_as (folder 1 grain_bytes) ≡ Reads 0 (account_log (first_commit ∷ []))
  pub closed : opened_as (folder 0 grain_bytes) ≡ Reads 0 (account_log [])
  pub torn : opened_as (torn_folder 80) ≡ DamagedAt manager 16
  pub cut : opened_as (torn_folder 16) ≡ DamagedAt manager 16
  pub count : opened_as (log_changed 28 65) ≡ DamagedAt manager 28
  pub origin : opened_as (log_changed 40 2) ≡ DamagedAt manager 40
  pub argument : opened_as (log_changed 55 2) ≡ DamagedAt manager 55
  pub result : opened_as (log_changed 66 0) ≡ DamagedAt manager 66
  pub value : opened_as (log_changed 67 2) ≡ DamagedAt manager 67
  pub unit : opened_as (log_changed 32 0) ≡ DamagedAt manager 32
  pub type : opened_as (log_changed 45 1) ≡ DamagedAt manager 45
  pub method : opened_as (log_changed 51 2) ≡ DamagedAt manager 51
  pub params : opened_as (log_changed 53 2) ≡ DamagedAt manager 53
  pub great_unit : opened_as (log_changed 39 128) ≡ DamagedAt manager 32
  pub arguments : opened_as (log_changed 53 9) ≡ DamagedAt manager 53
  pub written_type : opened_as (log_changed 78 1) ≡ DamagedAt manager 78
  pub order : opened_as (log_folder two_writes) ≡ DamagedAt manager 96
  pub short : opened_as (log_changed 16 75) ≡ DamagedAt manager 92
  pub trailing : opened_as (log_folder (changed 16 77 (manager_bytes 1) ++ 0 ∷ [])) ≡ DamagedAt manager 96
  pub later : opened_as (log_folder (changed 109 65 same_account)) ≡ DamagedAt manager 109
  pub earlier : opened_as (log_folder (changed 32 0 (changed 109 65 same_account))) ≡ DamagedAt manager 32
  pub great_session : opened_as (log_changed 27 128) ≡ DamagedAt manager 20
  pub falls : opened_as (log_folder (changed 101 0 same_account)) ≡ DamagedAt manager 101
  pub session_first : opened_as (log_folder (changed 101 0 (changed 109 65 same_account))) ≡ DamagedAt manager 101

pub logs_read : Logs
unfolding whole refused field choice when_known chain count_at list_at value_at exactly_at unit_at origin_at answer_at result_at grain_in call_in write_in writes_in record_in version_in content_in front_in session_at
logs_read = record {
  deposit = ap (λ (r : Result Program ℕ). with_program Two 0 (folder 1 grain_bytes) r) file_is_read;
  closed = ap (λ (r : Result Program ℕ). with_program Two 0 (folder 0 grain_bytes) r) file_is_read;
  torn = ap (λ (r : Result Program ℕ). with_program Two 0 (torn_folder 80) r) file_is_read;
  cut = ap (λ (r : Result Program ℕ). with_program Two 0 (torn_folder 16) r) file_is_read;
  count = ap (λ (r : Result Program ℕ). with_program Two 0 (log_changed 28 65) r) file_is_read;
  origin = ap (λ (r : Result Program ℕ). with_program Two 0 (log_changed 40 2) r) file_is_read;
  argument = ap (λ (r : Result Program ℕ). with_program Two 0 (log_changed 55 2) r) file_is_read;
  result = ap (λ (r : Result Program ℕ). with_program Two 0 (log_changed 66 0) r) file_is_read;
  value = ap (λ (r : Result Program ℕ). with_program Two 0 (log_changed 67 2) r) file_is_read;
  unit = ap (λ (r : Result Program ℕ). with_program Two 0 (log_changed 32 0) r) file_is_read;
  type = ap (λ (r : Result Program ℕ). with_program Two 0 (log_changed 45 1) r) file_is_read;
  method = ap (λ (r : Result Program ℕ). with_program Two 0 (log_changed 51 2) r) file_is_read;
  params = ap (λ (r : Result Program ℕ). with_program Two 0 (log_changed 53 2) r) file_is_read;
  great_unit = ap (λ (r : Result Program ℕ). with_program Two 0 (log_changed 39 128) r) file_is_read;
  arguments = ap (λ (r : Result Program ℕ). with_program Two 0 (log_changed 53 9) r) file_is_read;
  written_type = ap (λ (r : Result Program ℕ). with_program Two 0 (log_changed 78 1) r) file_is_read;
  order = ap (λ (r : Result Program ℕ). with_program Two 0 (log_folder two_writes) r) file_is_read;
  short = ap (λ (r : Result Program ℕ). with_program Two 0 (log_changed 16 75) r) file_is_read;
  trailing = ap (λ (r : Result Program ℕ). with_program Two 0 (log_folder (changed 16 77 (manager_bytes 1) ++ 0 ∷ [])) r) file_is_read;
  later = ap (λ (r : Result Program ℕ). with_program Two 0 (log_folder (changed 109 65 same_account)) r) file_is_read;
  earlier = ap (λ (r : Result Program ℕ). with_program Two 0 (log_folder (changed 32 0 (changed 109 65 same_account))) r) file_is_read;
  great_session = ap (λ (r : Result Program ℕ). with_program Two 0 (log_changed 27 128) r) file_is_read;
  falls = ap (λ (r : Result Program ℕ). with_program Two 0 (log_folder (changed 101 0 same_account)) r) file_is_read;
  session_first = ap (λ (r : Result Program ℕ). with_program Two 0 (log_folder (changed 101 0 (changed 109 65 same_account))) r) file_is_read;
}

-- what the grains' files read as
pub record Versions : Type 0 where
  pub cut : opened_as (grain_folder (take 10 grain_bytes)) ≡ DamagedAt (Grain 0 account_1) 0
  pub owner : opened_as (grain_folder (version_by 2)) ≡ DamagedAt (Grain 0 account_1) 0
  pub tag : opened_as (grain_folder (changed 10 2 grain_bytes)) ≡ DamagedAt (Grain 0 account_1) 10
  pub fields : opened_as (grain_folder (changed 8 2 grain_bytes)) ≡ DamagedAt (Grain 0 account_1) 8
  pub behind : opened_as (folder_of program_bytes same_account (version_by 1 ++ changed 10 2 (version_by 2))) ≡ DamagedAt (Grain 0 account_1) 29
  pub cut_behind : opened_as (folder_of program_bytes same_account (version_by 1 ++ take 10 (version_by 2))) ≡ DamagedAt (Grain 0 account_1) 19
  pub earlier : opened_as (folder_of program_bytes same_account (changed 10 2 (version_by 1))) ≡ DamagedAt (Grain 0 account_1) 10
  pub lower : opened_as (two_folder (changed 10 2 (version_by 2)) (take 10 (version_by 1))) ≡ DamagedAt (Grain 0 account_1) 10
  pub upper : opened_as (two_folder (version_by 2) (changed 10 2 (version_by 1))) ≡ DamagedAt (Grain 0 account_2) 10
  pub block_first : opened_as (folder_of program_bytes (take 80 (manager_bytes 1)) (take 10 grain_bytes)) ≡ DamagedAt manager 16

pub versions_read : Versions
unfolding whole refused field choice when_known chain count_at list_at value_at exactly_at unit_at origin_at answer_at result_at grain_in call_in write_in writes_in record_in version_in content_in front_in session_at
versions_read = record {
  cut = ap (λ (r : Result Program ℕ). with_program Two 0 (grain_folder (take 10 grain_bytes)) r) file_is_read;
  owner = ap (λ (r : Result Program ℕ). with_program Two 0 (grain_folder (version_by 2)) r) file_is_read;
  tag = ap (λ (r : Result Program ℕ). with_program Two 0 (grain_folder (changed 10 2 grain_bytes)) r) file_is_read;
  fields = ap (λ (r : Result Program ℕ). with_program Two 0 (grain_folder (changed 8 2 grain_bytes)) r) file_is_read;
  behind = ap (λ (r : Result Program ℕ). with_program Two 0 (folder_of program_bytes same_account (version_by 1 ++ changed 10 2 (version_by 2))) r) file_is_read;
  cut_behind = ap (λ (r : Result Program ℕ). with_program Two 0 (folder_of program_bytes same_account (version_by 1 ++ take 10 (version_by 2))) r) file_is_read;
  earlier = ap (λ (r : Result Program ℕ). with_program Two 0 (folder_of program_bytes same_account (changed 10 2 (version_by 1))) r) file_is_read;
  lower = ap (λ (r : Result Program ℕ). with_program Two 0 (two_folder (changed 10 2 (version_by 2)) (take 10 (version_by 1))) r) file_is_read;
  upper = ap (λ (r : Result Program ℕ). with_program Two 0 (two_folder (version_by 2) (changed 10 2 (version_by 1))) r) file_is_read;
  block_first = ap (λ (r : Result Program ℕ). with_program Two 0 (folder_of program_bytes (take 80 (manager_bytes 1)) (take 10 grain_bytes)) r) file_is_read;
}

-- ---- folders that are no silo

-- where no manager file is a silo's
no_silo : (image : Image) → is_silo (image manager) ≡ false → is_silo (image (Manager 1)) ≡ false → opened_as image ≡ NoSilo
no_silo image is other = rw (is, other) refl

pub short : opened_as (log_folder (take 15 (manager_bytes 1))) ≡ NoSilo
short = no_silo (log_folder (take 15 (manager_bytes 1))) refl refl

pub header_gate : (byte : ℕ) → byte ≢ 1 → opened_as (log_changed 0 byte) ≡ NoSilo
header_gate byte other = no_silo (log_changed 0 byte) (rw (ne_eqb byte 1 other) refl) refl

-- such a folder has a silo in slot 0 alone
first_of : (live : ℕ) (file : List ℕ) → IsLive IsMagic live (log_folder file) → IsSilo IsMagic file
first_of zero file is = is.silo
first_of (suc zero) file is = absurd (no_bytes [] refl is.silo)
first_of (suc (suc slot)) file is = absurd (omega (arith, is.slot))

pub other_magic : (name : List ℕ) → length name ≡ 8 → (IsMagic name → ⊥) → opened_as (log_folder (1 ∷ (name ++ drop 9 (manager_bytes 1)))) ≡ NoSilo
other_magic name long other = (no_silo_is_read Two (log_folder (1 ∷ (name ++ drop 9 (manager_bytes 1))))).1 (λ live is.
    let silo = first_of live (1 ∷ (name ++ drop 9 (manager_bytes 1))) is in
    other (subst IsMagic (take_at name (drop 9 (manager_bytes 1)) 8 long) silo.named))

pub silo_first : opened_as (folder_of (take 3 program_bytes) (take 15 (manager_bytes 1)) grain_bytes) ≡ NoSilo
silo_first = no_silo (folder_of (take 3 program_bytes) (take 15 (manager_bytes 1)) grain_bytes) refl refl

-- ---- folders whose manager file's header is damaged

-- where a silo's header is damaged, that is what the folder reads as
header_damaged : (file : List ℕ) (place : ℕ) → is_silo file ≡ true → has_format Two file ≡ true → header_damage file ≡ Some place → opened_as (log_folder file) ≡ DamagedAt manager place
header_damaged file place silo format damage =
    ap (λ (b : Bool). with_slot Two (log_folder file) (live_of b false (nat_lt (generation file) (generation [])))) silo
    ∙ ap (λ (b : Bool). if b then with_program Two 0 (log_folder file) (program_in_file program_bytes) else OtherFormat) format
    ∙ ap (λ (r : Result Program ℕ). with_program Two 0 (log_folder file) r) file_is_read
    ∙ ap (λ (d : Option ℕ). with_log Two 0 account_program (log_folder file) (behind_header d (log_as Two account_program (slice_index file 13 == 1) (bodies_of file) (gate_of file) (found_at (gate_of file) file)))) damage

pub header_byte : (byte : ℕ) → 1 < byte → opened_as (log_changed 13 byte) ≡ DamagedAt manager 13
header_byte byte above = header_damaged (changed 13 byte (manager_bytes 1)) 13 refl refl (rw (lt-leb byte 1 above) refl)

pub next_header_byte : (byte : ℕ) → byte ≢ 0 → opened_as (log_changed 14 byte) ≡ DamagedAt manager 14
next_header_byte byte other = header_damaged (changed 14 byte (manager_bytes 1)) 14 refl refl (rw (ne_eqb byte 0 other) refl)

pub header_first : opened_as (log_folder (changed 14 1 (take 80 (manager_bytes 1)))) ≡ DamagedAt manager 14
header_first = header_damaged (changed 14 1 (take 80 (manager_bytes 1))) 14 refl refl refl

-- ---- folders whose program file is damaged

pub program_short : opened_as (program_folder (take 3 program_bytes)) ≡ DamagedAt program_file 3
program_short = refl

pub program_cut : opened_as (program_folder (take 100 program_bytes)) ≡ DamagedAt program_file 100
program_cut = refl

pub program_less : opened_as (program_folder (changed 0 180 program_bytes)) ≡ DamagedAt program_file 183
program_less = refl

pub program_long : opened_as (program_folder (1 ∷ 0 ∷ 4 ∷ 0 ∷ [])) ≡ DamagedAt program_file 0
program_long = refl

pub program_first : opened_as (folder_of (take 3 program_bytes) (take 80 (manager_bytes 1)) (take 10 grain_bytes)) ≡ DamagedAt program_file 3
program_first = refl

pub program_before_header : opened_as (folder_of (take 3 program_bytes) (changed 13 255 (manager_bytes 1)) grain_bytes) ≡ DamagedAt program_file 3
program_before_header = refl

-- ---- folders of format 1

-- the folder of the first deposit in format 1 is another's than those that are read, and reads as the same log in its own
pub record OldFolders : Type 0 where
  pub old : opened_as (log_folder old_manager_bytes) ≡ OtherFormat
  pub new : reading_in One (folder 1 grain_bytes) ≡ OtherFormat
  pub read : reading_in One (log_folder old_manager_bytes) ≡ Reads 0 (account_log (first_commit ∷ []))
  pub migrated : migrated_file 0 old_manager_bytes [] ≡ manager_bytes 1

pub old_folders_read : OldFolders
unfolding whole refused field choice when_known chain count_at list_at value_at exactly_at unit_at origin_at answer_at result_at grain_in call_in write_in writes_in record_in version_in content_in front_in session_at
old_folders_read = record {
  old = refl;
  new = refl;
  read = ap (λ (r : Result Program ℕ). with_program One 0 (log_folder old_manager_bytes) r) file_is_read;
  migrated = refl;
}
