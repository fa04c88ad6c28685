-- The calls of `init` that are written out keep what `init` promises, by a host's calls.
use Rattle.std.proofs.Common.{◌≡◌, ◌≢◌, inl, inr, ℕ, zero, suc, ◌+◌, ◌<◌, ◌≤◌, Bool, true, false, if◌then◌else◌, List, [], ◌∷◌, ◌++◌, length, take, slice_index, get_or, refl, sym, ◌∙◌, ap, subst, arith, lit≤}
use Rattle.std.specs.List.{AllByRecursion}
use Rattle.std.proofs.lemmas.List.{ext_get_or}
use Rattle.host_trait.proofs.Runs.{settled_image}
use Rattle.host_trait.specs.declared.channels.FileId.{FileId}
use Rattle.host_trait.specs.declared.channels.FileId.TheVariants.{Manager, Program as ProgramFile, Grain}
use Rattle.host_trait.specs.Disk.{FileState, Untouched, MayLeave, Tears, Overwrote, settled}
use Rattle.host_trait.specs.World.{Moment, Image, Disk, IsImage}
use Rattle.host_trait.proofs.Crashes.{settled_only, Tears-overlaid}
use Rattle.cell_model.specs.Units.{same_grain}
use Rattle.gate_block.specs.Log.{bodies_of, IsWhole}
use Rattle.silo_spec.specs.Silos.{manager, program_file, IsSilo, IsNewSilo, HasProgram}
use Rattle.silo_spec.specs.Moments.{IsUntouched}
use Rattle.silo_spec.specs.Slots.{IsLive, ShowsSilos}
use Rattle.silo_spec.specs.Creation.{IsBeside, IsNewAt, IsNewIfSilo}
use Rattle.promise_spec.proofs.Slots.{only_live}
use Rattle.promise_examples.proofs.AccountLogs.{no_bytes}
use Rattle.promise_spec.specs.Programs.{text_limit, program_in}
use Rattle.field_codec.specs.declared.formats.Format.TheVariants.{Two}
use Rattle.silo_spec.proofs.Magics.{silo_of_format}
use Rattle.promise_spec.specs.Logs.{IsFormat, IsMagic}
use Rattle.promise_spec.specs.Words.{Command, Init, Run, Show, History, Audit, Load, Check, Compact, Upgrade, Migrate, Say}
use Rattle.promise_spec.specs.Courses.{Observed}
use Rattle.promise_spec.specs.Promise.{IsSoundFolder}
use Rattle.promise_spec.specs.Commands.{IsProgramText, WasSilo, MakesSilo, ManagersLast}
use Rattle.promise_spec.specs.Calls.{Obeys, Serves}
use Rattle.promise_spec.proofs.Words.{one_command}
use Rattle.promise_examples.specs.Examples.{account_text, accounts, program_bytes, account_1}
use Rattle.promise_examples.specs.HostCalls.{HostStep, IsStep, Lead, Write, Sync, FailedSync, IsHosted}
use Rattle.promise_examples.specs.WrittenRun.{new_manager, new_disk, moment}
use Rattle.promise_examples.specs.WrittenInit.{init_words, head_disk, header_bytes, length_field, length_pending, text_pending, closing_gate, header_pending, opening_gate, empty_disk, made_disk, opening_disk, unsynced, filling, init_before, init_after, made, init_at, opening_steps, made_steps, again_before, again_after, made_again, again_steps, cut_text, cut_before, cut_after, unmade, unmade_steps, halted_after, halted, halted_steps, other_words, unused}
use Rattle.promise_examples.specs.WrittenDoubt.{one_fault}
use Rattle.promise_examples.proofs.AccountText.{account_is_checked}
use Rattle.promise_examples.proofs.NewSilo.{sound_world, text_is_read, settled_stays}
use Rattle.promise_examples.proofs.BadTexts.{cut_is_no_program}
use Rattle.promise_examples.proofs.WrittenDoubt.{manager_fails}
use Rattle.promise_examples.proofs.HostSteps.{held, pulled, ended}

-- ---- what images have

-- a manager file whose header gate is closed, or that is too short, is no silo's
shut_none : (file : List ℕ) → slice_index file 0 ≡ 0 → IsSilo IsMagic file → ⊥
shut_none file shut silo = let e : 0 ≡ 1 = sym shut ∙ silo.gate in cc e

-- the new silo
new_silo : (image : Image) → image manager ≡ new_manager → image program_file ≡ program_bytes → IsNewSilo account_text image
new_silo image log_is program_is = record {
  silo = subst (λ (f : List ℕ). IsSilo (IsFormat Two) f) (sym log_is) (record { long = lit≤ tt; gate = refl; named = refl });
  header = ap (λ (f : List ℕ). take 16 f) log_is;
  program = subst (λ (f : List ℕ). HasProgram account_text f) (sym program_is) refl;
  empty = ap bodies_of log_is;
  whole = subst (λ (f : List ℕ). IsWhole f) (sym log_is) refl;
}

-- where slot 1 has no manager file, an image is a silo by slot 0 alone
first_of : (image : Image) → image (Manager 1) ≡ [] → (live : ℕ) → IsLive IsMagic live image → (live ≡ 0) × IsSilo IsMagic (image manager)
first_of image alone zero is = (refl, is.silo)
first_of image alone (suc zero) is = absurd (no_bytes (image (Manager 1)) alone is.silo)
first_of image alone (suc (suc slot)) is = absurd (omega (arith, is.slot))

-- and is the new one where it is one by slot 0
new_if : (program log : FileState) (image : Image) → IsImage (head_disk program log) image → (IsSilo IsMagic (image manager) → IsNewSilo account_text image) → IsNewIfSilo IsMagic account_text image
new_if program log image left new live is =
    let first = first_of image (settled_only [] (image (Manager 1)) (left (Manager 1))) live is in
    (first.0, new first.1)

-- while the gate is shut in each image, none is a silo
shut_at : (program log : FileState) → ((c : List ℕ) → MayLeave log c → slice_index c 0 ≡ 0) → IsNewAt IsMagic account_text (moment [] (head_disk program log))
shut_at program log shut image left = new_if program log image left (λ silo. absurd (shut_none (image manager) (shut (image manager) (left manager)) silo))

-- nor while the manager file is too short
short_at : (program log : FileState) → log.longest < 16 → IsNewAt IsMagic account_text (moment [] (head_disk program log))
short_at program log short image left = new_if program log image left (λ silo. absurd (omega (arith, silo.long, (left manager).no_longer, short)))

settled_shut : (bytes c : List ℕ) → slice_index bytes 0 ≡ 0 → MayLeave (settled bytes) c → slice_index c 0 ≡ 0
settled_shut bytes c shut left = ap (λ (l : List ℕ). slice_index l 0) (settled_only bytes c left) ∙ shut

header_shut : (c : List ℕ) → MayLeave header_pending c → slice_index c 0 ≡ 0
header_shut c left = left.same 0 (omega arith) (inl (omega arith), tt)

-- all but the header gate is the base's
opening_is : (c : List ℕ) → MayLeave opening_gate c → c ≡ slice_index c 0 ∷ header_bytes
opening_is c left = ext_get_or 0 c (slice_index c 0 ∷ header_bytes) size byte where
  size : length c ≡ 16
  size =
      let low : 16 ≤ length c = left.no_shorter in
      let high : length c ≤ 16 = left.no_longer in
      omega (arith, low, high)

  byte : (i : ℕ) → i < length c → slice_index c i ≡ slice_index (slice_index c 0 ∷ header_bytes) i
  byte zero low = refl
  byte (suc i) low = left.same (suc i) (let high : length c ≤ 16 = left.no_longer in omega (arith, low, high)) (inr (omega arith), tt)

-- an image of the disk while the gate is pending is the new silo, or none
pub opening_at : IsNewAt IsMagic account_text (moment [] opening_disk)
opening_at image left = new_if (settled program_bytes) opening_gate image left (λ silo.
    new_silo image (opening_is (image manager) (left manager) ∙ ap (λ (g : ℕ). g ∷ header_bytes) silo.gate) (settled_only program_bytes (image program_file) (left program_file)))

-- each image of the disk that was made is the new silo
made_images : (image : Image) → IsImage made_disk image → IsNewSilo account_text image
made_images image left = new_silo image (settled_only new_manager (image manager) (left manager)) (settled_only program_bytes (image program_file) (left program_file))

-- and its slot is the live one
made_live : (image : Image) → IsImage made_disk image → IsLive IsMagic 0 image
made_live image left = only_live 0 image (omega arith) (silo_of_format Two (image manager) (made_images image left).silo) (no_bytes (image (Manager 1)) (settled_only [] (image (Manager 1)) (left (Manager 1))))

-- slot 1 has no manager file, and that of slot 0 reads as long as a header and a gate, or no image is longer than it reads
shows_long : (program log : FileState) → 16 ≤ length log.seen → ShowsSilos IsMagic (head_disk program log)
shows_long program log long image left zero low short silo = absurd (omega (arith, long, short))
shows_long program log long image left (suc zero) low short silo = no_bytes (image (Manager 1)) (settled_only [] (image (Manager 1)) (left (Manager 1))) silo
shows_long program log long image left (suc (suc slot)) low short silo = absurd (omega (arith, low))

-- ---- the other files

beside_log : (program log later : FileState) (f : FileId) → f ≢ manager → head_disk program later f ≡ head_disk program log f
beside_log program log later (ProgramFile zero) other = refl
beside_log program log later (ProgramFile (suc slot)) other = refl
beside_log program log later (Manager zero) other = absurd (other refl)
beside_log program log later (Manager (suc slot)) other = refl
beside_log program log later (Grain slot grain) other = refl

beside_program : (program later log : FileState) (f : FileId) → f ≢ program_file → head_disk later log f ≡ head_disk program log f
beside_program program later log (ProgramFile zero) other = absurd (other refl)
beside_program program later log (ProgramFile (suc slot)) other = refl
beside_program program later log (Manager slot) other = beside_slot slot where
  beside_slot : (slot : ℕ) → head_disk later log (Manager slot) ≡ head_disk program log (Manager slot)
  beside_slot zero = refl
  beside_slot (suc n) = refl
beside_program program later log (Grain slot grain) other = refl

empty_is : (f : FileId) → empty_disk f ≡ settled []
empty_is (ProgramFile zero) = refl
empty_is (ProgramFile (suc slot)) = refl
empty_is (Manager zero) = refl
empty_is (Manager (suc slot)) = refl
empty_is (Grain slot grain) = refl

-- a moment over an empty folder
beside_empty : (program log : FileState) → IsBeside init_before (moment [] (head_disk program log))
beside_empty program log = record {
  output = refl;
  other = inl refl;
  others = λ f no_log no_other no_program. beside_program (settled []) program log f no_program ∙ beside_log (settled []) (settled []) log f no_log;
}

-- ---- the moments

made_at : IsNewAt IsMagic account_text (moment [] made_disk)
made_at image left = new_if (settled program_bytes) (settled new_manager) image left (λ silo. made_images image left)

-- those up to that at which the gate is opened
filled_later : (disk : Disk) → IsNewAt IsMagic account_text (moment [] disk) → AllByRecursion (IsNewAt IsMagic account_text) (filling ++ moment [] disk ∷ [])
filled_later disk last = (
  shut_at (settled []) (settled (0 ∷ [])) (λ c left. settled_shut (0 ∷ []) c refl left),
  (
    shut_at length_pending (settled (0 ∷ [])) (λ c left. settled_shut (0 ∷ []) c refl left),
    (
      shut_at text_pending (settled (0 ∷ [])) (λ c left. settled_shut (0 ∷ []) c refl left),
      (
        shut_at (settled program_bytes) (settled (0 ∷ [])) (λ c left. settled_shut (0 ∷ []) c refl left),
        (
          shut_at (settled program_bytes) header_pending header_shut,
          (shut_at (settled program_bytes) (settled (0 ∷ header_bytes)) (λ c left. settled_shut (0 ∷ header_bytes) c refl left), (opening_at, (last, tt))),
        ),
      ),
    ),
  ),
)

-- and the first, at which the file is too short
filled_by : (disk : Disk) → IsNewAt IsMagic account_text (moment [] disk) → AllByRecursion (IsNewAt IsMagic account_text) (unsynced ∷ (filling ++ moment [] disk ∷ []))
filled_by disk last = (short_at (settled []) closing_gate (omega arith), filled_later disk last)

-- no file but the two changes
beside_all : (program log : FileState) → AllByRecursion (IsBeside init_before) (unsynced ∷ (filling ++ moment [] (head_disk program log) ∷ []))
beside_all program log = (
  beside_empty (settled []) closing_gate,
  (
    beside_empty (settled []) (settled (0 ∷ [])),
    (
      beside_empty length_pending (settled (0 ∷ [])),
      (
        beside_empty text_pending (settled (0 ∷ [])),
        (
          beside_empty (settled program_bytes) (settled (0 ∷ [])),
          (
            beside_empty (settled program_bytes) header_pending,
            (beside_empty (settled program_bytes) (settled (0 ∷ header_bytes)), (beside_empty (settled program_bytes) opening_gate, (beside_empty program log, tt))),
          ),
        ),
      ),
    ),
  ),
)

-- ---- the call

account_is_text : (r : Observed) → r.old.input ≡ account_text → r.new.input ≡ [] → IsProgramText r
account_is_text r given left = record {
  input = left;
  small = subst (λ (text : List ℕ). length text ≤ text_limit) (sym given) account_is_checked.small;
  types = accounts;
  reads = ap program_in given ∙ text_is_read;
}

none_before : (WasSilo made) → ⊥
none_before silo = no_bytes [] refl (first_of (λ file. (empty_disk file).seen) refl silo.0 silo.1).1

pub init_makes : MakesSilo made
init_makes = record {
  beside = record { more = unsynced ∷ (filling ++ moment [] made_disk ∷ []); past = refl; each = beside_all (settled program_bytes) (settled new_manager) };
  beside_now = beside_empty (settled program_bytes) (settled new_manager);
  makes = λ shown. inr (record {
    moments = record {
      turn = [];
      early = record { more = []; past = refl; each = tt };
      late = record { more = unsynced ∷ (filling ++ moment [] made_disk ∷ []); past = refl; each = filled_by made_disk made_at };
    };
    now = made_at;
  });
  shows = λ shown. shows_long (settled program_bytes) (settled new_manager) (lit≤ tt);
  ends_as = (account_is_text made refl refl, none_before, λ image left. (made_images image left, λ shown. made_live image left));
  risen = tt;
}

-- the new silo's disk is that in which the runs begin
pub as_written : (f : FileId) → made_disk f ≡ new_disk f
as_written (ProgramFile zero) = refl
as_written (ProgramFile (suc slot)) = refl
as_written (Manager zero) = refl
as_written (Manager (suc slot)) = refl
as_written (Grain zero grain) = either_way (same_grain grain account_1) where
  either_way : (b : Bool) → settled [] ≡ (if b then settled [] else settled [])
  either_way true = refl
  either_way false = refl
as_written (Grain (suc slot) grain) = refl

pub sound_after : IsSoundFolder init_after
sound_after = sound_world init_after (λ image left f. subst (λ (file : FileState). MayLeave file (image f)) (as_written f) (left f)) (shows_long (settled program_bytes) (settled new_manager) (lit≤ tt))

-- ---- the host's calls

-- a write of this file
wrote : (file : FileId) (old later : Disk) (syncs : ℕ) (past : List Moment) (at : ℕ) (bytes : List ℕ) → ((f : FileId) → f ≢ file → later f ≡ old f) → at ≤ length (old file).seen
    → Overwrote at bytes (old file) (later file)
    → IsStep (Write file at bytes) (held [] [] old syncs past (λ channel. 0)) (held [] [] later syncs (past ++ moment [] later ∷ []) (λ channel. 0))
wrote file old later syncs past at bytes others within over = record {
  says = (
    record {
      place = within;
      written = record {
        state = record { pends = inl over.pends; seen = subst (λ (l : List ℕ). Tears at (length bytes) (old file).seen l) (sym over.seen) (Tears-overlaid at bytes (old file).seen within) };
        others = others;
        input = refl;
        output = refl;
        syncs = refl;
        past = inl refl;
      };
    },
    over,
  );
  counts = λ channel. refl;
}

-- a sync of it
synced : (file : FileId) (old later : Disk) (syncs : ℕ) (past : List Moment) → ((f : FileId) → f ≢ file → later f ≡ old f) → later file ≡ settled (old file).seen
    → IsStep (Sync file) (held [] [] old syncs past (λ channel. 0)) (held [] [] later (syncs + 1) (past ++ moment [] later ∷ []) (λ channel. 0))
synced file old later syncs past others is = record {
  says = (
    record { state = is; others = others; input = refl; output = refl; counted = omega arith; once = omega arith; past = inl refl },
    refl,
  );
  counts = λ channel. refl;
}

-- the file's bytes are these from that place on
closing_wrote : Overwrote 0 (0 ∷ []) (settled []) closing_gate
closing_wrote = record { pends = record { base = refl; ranges = refl; longest = refl }; seen = refl }

length_wrote : Overwrote 0 length_field (settled []) length_pending
length_wrote = record { pends = record { base = refl; ranges = refl; longest = refl }; seen = refl }

text_wrote : Overwrote 4 account_text length_pending text_pending
text_wrote = record { pends = record { base = refl; ranges = refl; longest = refl }; seen = refl }

header_wrote : Overwrote 1 header_bytes (settled (0 ∷ [])) header_pending
header_wrote = record { pends = record { base = refl; ranges = refl; longest = refl }; seen = refl }

opening_wrote : Overwrote 0 (1 ∷ []) (settled (0 ∷ header_bytes)) opening_gate
opening_wrote = record { pends = record { base = refl; ranges = refl; longest = refl }; seen = refl }

-- so many of the moments
abbrev past : ℕ → List Moment
past many = take many (unsynced ∷ filling)

-- the steps up to the open gate, and one more
steps_then : (last : HostStep) → IsStep last.call (init_at [] opening_disk 3 8) last.after → Lead (init_at account_text empty_disk 0 0) (opening_steps ++ last ∷ []) last.after
steps_then last is = (
  pulled [] empty_disk 0 (past 0) (λ channel. 0) account_text (λ none. cc none),
  (
    ended [] empty_disk 0 (past 0) (λ channel. 0) account_text,
    (
      wrote manager empty_disk (head_disk (settled []) closing_gate) 0 (past 0) 0 (0 ∷ []) (beside_log (settled []) (settled []) closing_gate) (omega arith) closing_wrote,
      (
        synced manager (head_disk (settled []) closing_gate) (head_disk (settled []) (settled (0 ∷ []))) 0 (past 1) (beside_log (settled []) closing_gate (settled (0 ∷ []))) refl,
        (
          wrote program_file (head_disk (settled []) (settled (0 ∷ []))) (head_disk length_pending (settled (0 ∷ []))) 1 (past 2) 0 length_field (beside_program (settled []) length_pending (settled (0 ∷ []))) (omega arith) length_wrote,
          (
            wrote program_file (head_disk length_pending (settled (0 ∷ []))) (head_disk text_pending (settled (0 ∷ []))) 1 (past 3) 4 account_text (beside_program length_pending text_pending (settled (0 ∷ []))) (omega arith) text_wrote,
            (
              synced program_file (head_disk text_pending (settled (0 ∷ []))) (head_disk (settled program_bytes) (settled (0 ∷ []))) 1 (past 4) (beside_program text_pending (settled program_bytes) (settled (0 ∷ []))) refl,
              (
                wrote manager (head_disk (settled program_bytes) (settled (0 ∷ []))) (head_disk (settled program_bytes) header_pending) 2 (past 5) 1 header_bytes (beside_log (settled program_bytes) (settled (0 ∷ [])) header_pending) (omega arith) header_wrote,
                (
                  synced manager (head_disk (settled program_bytes) header_pending) (head_disk (settled program_bytes) (settled (0 ∷ header_bytes))) 2 (past 6) (beside_log (settled program_bytes) header_pending (settled (0 ∷ header_bytes))) refl,
                  (wrote manager (head_disk (settled program_bytes) (settled (0 ∷ header_bytes))) opening_disk 3 (past 7) 0 (1 ∷ []) (beside_log (settled program_bytes) (settled (0 ∷ header_bytes)) opening_gate) (omega arith) opening_wrote, (is, refl)),
                ),
              ),
            ),
          ),
        ),
      ),
    ),
  ),
)

pub is_hosted : IsHosted made made_steps
is_hosted =
    steps_then (record { call = Sync manager; after = record { world = init_after; faults = λ channel. 0 } })
    (synced manager opening_disk made_disk 3 (past 8) (beside_log (settled program_bytes) opening_gate (settled new_manager)) refl)

-- ---- the word

-- the word says this command alone
pub serves_init : (r : Observed) → MakesSilo r → Serves init_words (λ c. r)
serves_init r makes = record {
  obeys = λ c says. subst (λ (d : Command). Obeys d r) (one_command (λ g. true) init_words Init c refl says) makes;
  refuses = λ none. absurd (none Init refl);
}

-- ---- over the folder that this left

-- at each moment all is as at entry
again_untouched : IsUntouched again_before again_after
again_untouched = record {
  moments = record { more = moment [] made_disk ∷ []; past = refl; each = (record { quiet = refl; images = λ image left. left }, tt) };
  now = record { quiet = refl; images = λ image left. left };
  seen = λ file. refl;
}

again_beside : IsBeside again_before (moment [] made_disk)
again_beside = record { output = refl; other = inl refl; others = λ f no_log no_other no_program. refl }

-- nothing is pending in the manager files
again_lasts : ManagersLast made_again
again_lasts image left zero low some = settled_image made_disk manager new_manager (image manager) refl (left manager)
again_lasts image left (suc zero) low some = absurd (some refl)
again_lasts image left (suc (suc slot)) low some = absurd (omega (arith, low))

-- the folder is a silo
again_silo : WasSilo made_again
again_silo = (0, only_live 0 (λ file. (made_disk file).seen) (omega arith) (silo_of_format Two new_manager (record { long = lit≤ tt; gate = refl; named = refl })) (no_bytes [] refl))

pub again_makes : MakesSilo made_again
again_makes = record {
  beside = record { more = moment [] made_disk ∷ []; past = refl; each = (again_beside, tt) };
  beside_now = again_beside;
  makes = λ shown. inl again_untouched;
  shows = λ shown. shown;
  ends_as = (account_is_text made_again refl refl, again_silo, again_untouched, again_lasts);
  risen = tt;
}

pub again_hosted : IsHosted made_again again_steps
again_hosted = (
  pulled [] made_disk 0 [] (λ channel. 0) account_text (λ none. cc none),
  (
    ended [] made_disk 0 [] (λ channel. 0) account_text,
    (synced manager made_disk made_disk 0 [] (λ f other. refl) refl, refl),
  ),
)

-- ---- of a text that is no program

cut_untouched : IsUntouched cut_before cut_after
cut_untouched = record {
  moments = record { more = []; past = refl; each = tt };
  now = record { quiet = refl; images = λ image left. left };
  seen = λ file. refl;
}

pub unmade_makes : MakesSilo unmade
unmade_makes = record {
  beside = record { more = []; past = refl; each = tt };
  beside_now = record { output = refl; other = inl refl; others = λ f no_log no_other no_program. refl };
  makes = λ shown. inl cut_untouched;
  shows = λ shown. shown;
  ends_as = ((refl, lit≤ tt, cut_is_no_program), cut_untouched);
  risen = tt;
}

pub unmade_hosted : IsHosted unmade unmade_steps
unmade_hosted = (
  pulled [] empty_disk 0 [] (λ channel. 0) cut_text (λ none. cc none),
  (ended [] empty_disk 0 [] (λ channel. 0) cut_text, refl),
)

-- ---- where the last sync fails

pub halted_makes : MakesSilo halted
halted_makes = record {
  beside = record { more = unsynced ∷ (filling ++ moment [] opening_disk ∷ []); past = refl; each = beside_all (settled program_bytes) opening_gate };
  beside_now = beside_empty (settled program_bytes) opening_gate;
  makes = λ shown. inr (record {
    moments = record {
      turn = [];
      early = record { more = []; past = refl; each = tt };
      late = record { more = unsynced ∷ (filling ++ moment [] opening_disk ∷ []); past = refl; each = filled_by opening_disk opening_at };
    };
    now = opening_at;
  });
  shows = λ shown. shows_long (settled program_bytes) opening_gate (lit≤ tt);
  ends_as = (account_is_text halted refl refl, inl (inl refl), λ silo. absurd (none_before silo));
  risen = manager_fails.rose;
}

pub halted_hosted : IsHosted halted halted_steps
halted_hosted =
    steps_then (record { call = FailedSync manager; after = record { world = halted_after; faults = one_fault } })
    (record {
      says = record { state = refl; others = λ f other. refl; input = refl; output = refl; counted = omega arith; once = omega arith; past = inl refl };
      counts = manager_fails;
    })

-- a folder of the program file and a manager file with this header gate
abbrev gated : ℕ → Image
gated gate (ProgramFile zero) = program_bytes
gated gate (ProgramFile (suc slot)) = []
gated gate (Manager zero) = gate ∷ header_bytes
gated gate (Manager (suc slot)) = []
gated gate (Grain slot grain) = []

-- a crash may leave it, whatever the gate is
gate_left : (gate : ℕ) → MayLeave opening_gate (gate ∷ header_bytes)
gate_left gate = record { no_shorter = omega arith; no_longer = omega arith; same = same } where
  same : (i : ℕ) → i < 16 → Untouched ((0, 1) ∷ []) i → slice_index (gate ∷ header_bytes) i ≡ slice_index (0 ∷ header_bytes) i
  same zero low (inl before, rest) = absurd (omega (arith, before))
  same zero low (inr behind, rest) = absurd (omega (arith, behind))
  same (suc i) low out = refl

gated_left : (gate : ℕ) → IsImage opening_disk (gated gate)
gated_left gate (ProgramFile zero) = settled_stays program_bytes
gated_left gate (ProgramFile (suc slot)) = settled_stays []
gated_left gate (Manager zero) = gate_left gate
gated_left gate (Manager (suc slot)) = settled_stays []
gated_left gate (Grain slot grain) = settled_stays []

-- so a crash may leave the new silo, and may leave none
pub halted_open : (image : Image) × IsImage opening_disk image × IsNewSilo account_text image
halted_open = (gated 1, gated_left 1, new_silo (gated 1) refl refl)

pub halted_shut : (image : Image) × IsImage opening_disk image × (IsSilo IsMagic (image manager) → ⊥)
halted_shut = (gated 0, gated_left 0, shut_none (0 ∷ header_bytes) refl)

-- ---- words that say nothing

pub other_say : (c : Command) → Say (λ g. true) other_words c → ⊥
other_say Init says = absurd (cc says)
other_say (Run m) says = absurd (cc says.words_are)
other_say Show says = absurd (cc says)
other_say History says = absurd (cc says)
other_say Audit says = absurd (cc says)
other_say (Load n seed m) says = let letter : ◌≡◌ {A = ℕ} 105 108 = ap (λ (l : List (List ℕ)). get_or (get_or l 0 []) 0 0) says.words_are in absurd (omega (arith, letter))
other_say (Check n seed) says = let letter : ◌≡◌ {A = ℕ} 105 99 = ap (λ (l : List (List ℕ)). get_or (get_or l 0 []) 0 0) says.words_are in absurd (omega (arith, letter))
other_say Compact says = let letter : ◌≡◌ {A = ℕ} 105 99 = ap (λ (l : List (List ℕ)). get_or (get_or l 0 []) 0 0) says in absurd (omega (arith, letter))
other_say Migrate says = let letter : ◌≡◌ {A = ℕ} 105 109 = ap (λ (l : List (List ℕ)). get_or (get_or l 0 []) 0 0) says in absurd (omega (arith, letter))
other_say Upgrade says = let letter : ◌≡◌ {A = ℕ} 105 117 = ap (λ (l : List (List ℕ)). get_or (get_or l 0 []) 0 0) says in absurd (omega (arith, letter))

pub serves_none : (words : List (List ℕ)) → ((c : Command) → Say (λ g. true) words c → ⊥) → Serves words (λ c. unused)
serves_none words none = record {
  obeys = λ c says. absurd (none c says);
  refuses = λ never c. record { ending = inl refl; unused = refl; calm = λ channel. refl };
}

pub serves_other : Serves other_words (λ c. unused)
serves_other = serves_none other_words other_say
