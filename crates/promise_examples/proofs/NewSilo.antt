-- The disks of a new silo of the accounts, and of one whose first deposit is sealed or being sealed: what their images have.
use Rattle.std.proofs.Common.{◌≡◌, ◌≢◌, ◌⊎◌, inl, inr, ℕ, zero, suc, ◌+◌, ◌^◌, ◌<◌, ◌≤◌, Bool, true, false, if◌then◌else◌, List, [], ◌∷◌, ◌++◌, length, map, drop, slice_index, Option, Some, Result, Ok, refl, sym, ◌∙◌, ap, subst, arith, length-append, lit≤, lit<}
use Rattle.std.specs.Prelude.{codes, nat_lt}
use Rattle.std.specs.Option.{ok_or}
use Rattle.std.proofs.lemmas.Bool.{cases_eq, cases_lt}
use Rattle.std.proofs.lemmas.List.{ext_get_or, drop_all}
use Rattle.json.proofs.Printed.Utf8.{are_ascii, IsUtf8-are_ascii}
use Rattle.serde_json.specs.Data.{Data, unsigned, number, string, array, object, no_items, item, no_members, member}
use Rattle.serde_json.specs.Read.{read}
use Rattle.serde_json.proofs.OnLiterals.{serde_json_on_literals}
use Rattle.base_types.specs.declared.calls.Call.{Call}
use Rattle.base_types.specs.declared.entries.BadRequest.{BadRequest}
use Rattle.base_types.specs.declared.entries.BadRequest.TheVariants.{Json, Shape, Grain as BadGrain, Method, Args}
use Rattle.script_tree.specs.Programs.{ProgramTree}
use Rattle.host_trait.specs.declared.channels.FileId.{FileId}
use Rattle.host_trait.specs.declared.channels.FileId.TheVariants.{Manager, Program as ProgramFile, Grain}
use Rattle.host_trait.specs.Disk.{FileState, Untouched, MayLeave, settled}
use Rattle.host_trait.specs.World.{Image, IsImage, World}
use Rattle.host_trait.proofs.Crashes.{settled_only}
use Rattle.field_codec.specs.declared.formats.Format.TheVariants.{Two}
use Rattle.gate_block.specs.Log.{LogsUpTo, gate_of}
use Rattle.gate_block.proofs.Logs as blocks
use Rattle.grain_log.specs.Places.{IsVersionAt}
use Rattle.cell_model.specs.Units.{same_grain}
use Rattle.silo_spec.specs.Slots.{ShowsSilos}
use Rattle.silo_spec.specs.Silos.{manager, program_file, IsSilo, HasProgram}
use Rattle.request_wire.specs.Names.{TypeNames, names_in}
use Rattle.request_wire.specs.Request.{shape_of, grain_of, method_of, args_of, passed, call_of}
use Rattle.request_wire.proofs.Arguments.{json_of-read}
use Rattle.silo_spec.specs.OpenedDisks.{opened_disk}
use Rattle.promise_spec.specs.Programs.{ProgramFault, program_in}
use Rattle.promise_spec.specs.Openings.{with_types, program_in_file}
use Rattle.field_codec.specs.Formats.{magic_of}
use Rattle.promise_spec.specs.Logs.{IsFormat, IsMagic, HasLog}
use Rattle.promise_spec.specs.Crashes.{IsAside}
use Rattle.promise_spec.specs.Promise.{IsSoundFolder}
use Rattle.field_codec.specs.Examples.{first_version}
use Rattle.promise_examples.specs.Examples.{account_log, account_text, accounts, account_program, program_bytes, account_1, deposit_of, read_call, grain_bytes, block_bytes, manager_of, manager_bytes, first_commit}
use Rattle.promise_examples.specs.DepositRuns.{HasNone, HasDeposit}
use Rattle.promise_examples.specs.WrittenRun.{new_manager, disk_of, new_disk, pending_gate, sealing_disk, sealed_disk}
use Rattle.promise_examples.proofs.FirstDeposit.{logged_batch, logged}
use Rattle.promise_examples.proofs.AccountText.{account_is_checked}
use Rattle.promise_spec.specs.Images.{IsSound}
use Rattle.promise_examples.proofs.AccountLogs.{no_bytes, account_logged}
use Rattle.promise_spec.proofs.Batched.{batch_body}
use Rattle.promise_spec.proofs.OneLog.{one_log}
use Rattle.promise_spec.proofs.Prefixes.{of_itself}
use Rattle.promise_spec.proofs.Slots.{one_slot}
use Rattle.promise_spec.specs.Prefixes.{IsPrefixOf}
use Rattle.promise_spec.specs.Entries.{Log}

-- ---- what images have

pub program_spelled : HasProgram account_text program_bytes
program_spelled = refl

module _ (image : Image) (program_is : image program_file ≡ program_bytes) where
  pub has_program : HasProgram account_program.text (image program_file)
  has_program = subst (λ (file : List ℕ). HasProgram account_text file) (sym program_is) program_spelled

module _ (image : Image) (program_is : image program_file ≡ program_bytes) (alone : image (Manager 1) ≡ []) where
  -- a manager file whose first gate is closed
  pub has_none : (file : List ℕ) → IsSilo (IsFormat Two) file → slice_index file 13 ≡ 0 → slice_index file 14 ≡ 0 → LogsUpTo [] 15 file → image manager ≡ file → HasNone image
  has_none file silo kind nought blocks is = (
    account_logged image [] alone (subst (λ (f : List ℕ). IsSilo (IsFormat Two) f) (sym is) silo) (has_program image program_is) (record {
      kind = ap (λ (f : List ℕ). slice_index f 13) is ∙ kind;
      zero = ap (λ (f : List ℕ). slice_index f 14) is ∙ nought;
      batches = [];
      gate = 15;
      blocks = subst (λ (f : List ℕ). LogsUpTo [] 15 f) (sym is) blocks;
      may = lit< tt;
      sizes = tt;
      are = refl;
      kept = tt;
    }),
    has_program image program_is,
  )

  -- the first deposit's files
  pub has_deposit : image manager ≡ manager_bytes 1 → image (Grain 0 account_1) ≡ grain_bytes → HasDeposit image
  has_deposit is grain_is =
      let stands = logged_batch.kept.0.whole.0 in (
        account_logged image (first_commit ∷ []) alone (subst (λ (f : List ℕ). IsSilo (IsFormat Two) f) (sym is) logged.is.stands.silo) (has_program image program_is) (record {
          kind = ap (λ (f : List ℕ). slice_index f 13) is ∙ logged_batch.kind;
          zero = ap (λ (f : List ℕ). slice_index f 14) is ∙ logged_batch.zero;
          batches = logged_batch.batches;
          gate = logged_batch.gate;
          blocks = subst (λ (f : List ℕ). LogsUpTo (map (batch_body Two 1) logged_batch.batches) logged_batch.gate f) (sym is) logged_batch.blocks;
          may = logged_batch.may;
          sizes = logged_batch.sizes;
          are = logged_batch.are;
          kept = (
            record {
              fits = logged_batch.kept.0.fits;
              whole = (
                record {
                  near = stands.near;
                  fields = stands.fields;
                  version = subst (λ (f : List ℕ). IsVersionAt Two 1 (record { offset = 0; len = 19 }) f first_version) (sym grain_is) stands.version;
                },
                tt,
              );
            },
            tt,
          );
        }),
        has_program image program_is,
      )

new_is_silo : IsSilo (IsFormat Two) new_manager
new_is_silo = record { long = omega arith; gate = refl; named = refl }

new_has_none : LogsUpTo [] 15 new_manager
new_has_none = record { blocks = record { small = tt; at = refl; within = omega arith; blocks = refl }; closed = λ e. cc e }

pub manager_long : (block : List ℕ) (g : ℕ) → length (manager_of block g) ≡ 16 + length block
manager_long block g = length-append (1 ∷ (magic_of Two ++ 0 ∷ 0 ∷ 0 ∷ 0 ∷ 0 ∷ 0 ∷ g ∷ [])) block

pub gate_is_silo : (block : List ℕ) (g : ℕ) → IsSilo (IsFormat Two) (manager_of block g)
gate_is_silo block g = record { long = omega (arith, manager_long block g); gate = refl; named = refl }

pub shut_has_none : (block : List ℕ) (g : ℕ) → g ≢ 1 → LogsUpTo [] 15 (manager_of block g)
shut_has_none block g shut = record { blocks = record { small = tt; at = refl; within = omega (arith, manager_long block g); blocks = refl }; closed = shut }

-- ---- what a crash leaves of the pending gate

-- lists that differ in one item are alike elsewhere
other_items : (front back : List ℕ) (g h i : ℕ) → i ≢ length front → slice_index (front ++ (g ∷ back)) i ≡ slice_index (front ++ (h ∷ back)) i
other_items [] back g h zero other = absurd (other refl)
other_items [] back g h (suc i) other = refl
other_items (x ∷ front) back g h zero other = refl
other_items (x ∷ front) back g h (suc i) other = other_items front back g h i (λ same. other (ap suc same))

header : List ℕ
header = 1 ∷ (magic_of Two ++ 0 ∷ 0 ∷ 0 ∷ 0 ∷ 0 ∷ 0 ∷ [])

pub other_bytes : (block : List ℕ) (g h i : ℕ) → i ≢ 15 → slice_index (manager_of block g) i ≡ slice_index (manager_of block h) i
unfolding header
other_bytes block g h i other = other_items header block g h i other

-- all but the gate's byte is the base's
pub gate_only : (block c : List ℕ) → MayLeave (pending_gate block) c → c ≡ manager_of block (slice_index c 15)
gate_only block c left = ext_get_or 0 c (manager_of block (slice_index c 15)) (size ∙ sym (manager_long block (slice_index c 15))) byte where
  size : length c ≡ 16 + length block
  size =
      let low : length (manager_of block 0) ≤ length c = left.no_shorter in
      let high : length c ≤ length (manager_of block 0) = left.no_longer in
      omega (arith, low, high, manager_long block 0)

  outside : (i : ℕ) → i ≢ 15 → Untouched ((15, 1) ∷ []) i
  outside i other = elim (cases_lt i 15) [
    | inl before ↦ (inl before, tt)
    | inr behind ↦ (inr (omega (arith, other)), tt)
  ]

  byte : (i : ℕ) → i < length c → slice_index c i ≡ slice_index (manager_of block (slice_index c 15)) i
  byte i low = elim (cases_eq i 15) [
    | inl is ↦ subst (λ (k : ℕ). slice_index c k ≡ slice_index (manager_of block (slice_index c 15)) k) (sym is) refl
    | inr other ↦
        (let within : i < length (manager_of block 0) = omega (arith, low, size, manager_long block 0) in left.same i within (outside i other)) ∙ other_bytes block 0 (slice_index c 15) i other
  ]

-- ---- the disks' images

module _ (image : Image) where
  -- a new silo's manager file has an empty log, whatever the file of `account/1` is
  pub empty_images : (grain : FileState) → IsImage (disk_of (settled new_manager) grain) image → HasNone image
  empty_images grain left = has_none image (settled_only program_bytes (image program_file) (left program_file)) (settled_only [] (image (Manager 1)) (left (Manager 1))) new_manager new_is_silo refl refl new_has_none (settled_only new_manager (image manager) (left manager))

  pub new_images : IsImage new_disk image → HasNone image
  new_images left = empty_images (settled []) left

  pub sealing_images : IsImage sealing_disk image → HasNone image ⊎ HasDeposit image
  sealing_images left =
      let program_is : image program_file ≡ program_bytes = settled_only program_bytes (image program_file) (left program_file) in
      let alone : image (Manager 1) ≡ [] = settled_only [] (image (Manager 1)) (left (Manager 1)) in
      let grain_is : image (Grain 0 account_1) ≡ grain_bytes = settled_only grain_bytes (image (Grain 0 account_1)) (left (Grain 0 account_1)) in
      let gate = slice_index (image manager) 15 in
      let is : image manager ≡ manager_bytes gate = gate_only block_bytes (image manager) (left manager) in
      elim (cases_eq gate 1) [
        | inl open_gate ↦ inr (has_deposit image program_is alone (is ∙ ap manager_bytes open_gate) grain_is)
        | inr shut ↦ inl (has_none image program_is alone (manager_bytes gate) (gate_is_silo block_bytes gate) refl refl (shut_has_none block_bytes gate shut) is)
      ]

  pub sealed_images : IsImage sealed_disk image → HasDeposit image
  sealed_images left =
      has_deposit image (settled_only program_bytes (image program_file) (left program_file)) (settled_only [] (image (Manager 1)) (left (Manager 1))) (settled_only (manager_bytes 1) (image manager) (left manager))
      (settled_only grain_bytes (image (Grain 0 account_1)) (left (Grain 0 account_1)))

-- a manager file whose log ends at its last byte has nothing behind it, as a shorter one has nothing there
pub ends_there : (bodies : List (List ℕ)) (gate : ℕ) (c file was : List ℕ) → c ≡ file → LogsUpTo bodies gate file → length file ≡ gate + 1 → length was ≤ gate + 1 → drop (gate_of c + 1) c ≡ drop (gate_of c + 1) was
ends_there bodies gate c file was is up long short =
    let at : gate_of c ≡ gate = ap gate_of is ∙ (blocks.logged bodies gate file up).1 in
    let size : length c ≡ gate + 1 = ap length is ∙ long in
    ap (λ (n : ℕ). drop (n + 1) c) at ∙ drop_all (gate + 1) c (omega (arith, size)) ∙ sym (drop_all (gate + 1) was short) ∙ ap (λ (n : ℕ). drop (n + 1) was) (sym at)

-- files of other slots, and the program's, are the same on both disks
pub same_aside : (log grain later_log later_grain : FileState) (file : FileId) → IsAside 0 file → disk_of later_log later_grain file ≡ disk_of log grain file
same_aside log grain later_log later_grain (ProgramFile zero) is = refl
same_aside log grain later_log later_grain (ProgramFile (suc slot)) is = refl
same_aside log grain later_log later_grain (Manager zero) is = absurd (is refl)
same_aside log grain later_log later_grain (Manager (suc slot)) is = refl
same_aside log grain later_log later_grain (Grain zero g) is = absurd (is refl)
same_aside log grain later_log later_grain (Grain (suc slot) g) is = refl

-- and an opening leaves them as they are
pub opened_aside : (log grain : FileState) (file : FileId) → IsAside 0 file → opened_disk (disk_of log grain) file ≡ disk_of log grain file
opened_aside log grain (ProgramFile slot) is = refl
opened_aside log grain (Manager zero) is = absurd (is refl)
opened_aside log grain (Manager (suc slot)) is = refl
opened_aside log grain (Grain slot g) is = refl

pub settled_stays : (bytes : List ℕ) → MayLeave (settled bytes) bytes
settled_stays bytes = record { no_shorter = omega arith; no_longer = omega arith; same = λ i low untouched. refl }

pub grain_stays : (bytes : List ℕ) (b : Bool) → MayLeave (if b then settled bytes else settled []) (if b then settled bytes else settled []).seen
grain_stays bytes true = settled_stays bytes
grain_stays bytes false = settled_stays []

-- where nothing is pending a crash may leave what a read gives
pub seen_possible : (log grain : List ℕ) (file : FileId) → MayLeave (disk_of (settled log) (settled grain) file) (disk_of (settled log) (settled grain) file).seen
seen_possible log grain (ProgramFile zero) = settled_stays program_bytes
seen_possible log grain (ProgramFile (suc slot)) = settled_stays []
seen_possible log grain (Manager zero) = settled_stays log
seen_possible log grain (Manager (suc slot)) = settled_stays []
seen_possible log grain (Grain zero g) = grain_stays grain (same_grain g account_1)
seen_possible log grain (Grain (suc slot) g) = settled_stays []

-- what a read gives in a new silo
abbrev pub new_folder : Image
new_folder file = (new_disk file).seen

-- its manager file is as long as a header and a gate, and slot 1 has none
pub new_shows : ShowsSilos IsMagic new_disk
new_shows image left zero low short silo = absurd (let long : 16 ≤ length new_manager = lit≤ tt in omega (arith, long, short))
new_shows image left (suc zero) low short silo = no_bytes (image (Manager 1)) (settled_only [] (image (Manager 1)) (left (Manager 1))) silo
new_shows image left (suc (suc slot)) low short silo = absurd (omega (arith, low))

-- each image has the empty log
pub sound_world : (w : World) → ((image : Image) → IsImage w.disk image → IsImage new_disk image) → ShowsSilos IsMagic w.disk → IsSoundFolder w
sound_world w same shows = record {
  chain = λ one other is_one is_other a b has_a has_b.
      (let a_is : a ≡ account_log [] = log_is one is_one a has_a in
      let b_is : b ≡ account_log [] = log_is other is_other b has_b in
      inl (subst (λ (l : Log). IsPrefixOf l b) (sym a_is) (subst (λ (l : Log). IsPrefixOf (account_log []) l) (sym b_is) (of_itself (account_log [])))));
  sound = λ image left live is.
      (let new = (new_images image (same image left)).0 in
      subst (λ (slot : ℕ). IsSound slot image) (one_slot 0 live image new.is_live is) (record { format = Two; log = account_log []; is = new; serial = tt; numbered = tt }));
  shows = shows;
}
  where
    log_is : (image : Image) → IsImage w.disk image → (log : Log) → HasLog image log → log ≡ account_log []
    log_is image left log has = one_log has.0 Two has.1 0 image log (account_log []) has.2 (new_images image (same image left)).0

-- ---- the program file

-- the text is read as its types
pub text_is_read : program_in account_text ≡ Ok accounts
text_is_read = rw (account_is_checked.parsed, account_is_checked.checked) refl

-- the program file is read as the program
pub file_is_read : program_in_file program_bytes ≡ Ok account_program
file_is_read = ap (λ (r : Result ProgramTree ProgramFault). with_types account_text r) text_is_read

-- ---- lines of requests

-- the call that a JSON value asks
abbrev call_from : List TypeNames → Option Data → Result Call BadRequest
call_from types read_as = passed (ok_or read_as Json)
    (λ d. passed (ok_or (shape_of d) Shape)
    (λ shape. passed (ok_or (grain_of types shape.1) BadGrain)
    (λ grain. passed (ok_or (method_of types grain.0.kind grain.1) Method)
    (λ method. passed (ok_or (args_of method.1 shape.0) Args)
    (λ args. Ok (record { grain = grain.0; method = method.0; args = args }))))))

-- what a deposit's line is as JSON
abbrev pub deposit_data : ℕ → Data
deposit_data n =
    object (member (codes "args") (array (item (number (unsigned n)) no_items)) (member (codes "call") (string (codes "account/1.deposit")) no_members))

data_asks : (n : ℕ) → nat_lt n (2 ^ 63) ≡ true → call_from (names_in accounts) (Some (deposit_data n)) ≡ Ok (deposit_of n)
unfolding serde_json_on_literals
data_asks n fits = rw fits refl

-- a line of ASCII that is this as JSON asks for the deposit
pub line_asks : (line : List ℕ) (n : ℕ) → are_ascii line ≡ true → read line ≡ Some (deposit_data n) → nat_lt n (2 ^ 63) ≡ true → call_of (names_in accounts) line ≡ Ok (deposit_of n)
line_asks line n ascii is fits =
    ap (λ (d : Option Data). call_from (names_in accounts) d) (sym (json_of-read line (deposit_data n) (IsUtf8-are_ascii line ascii) is)) ∙ data_asks n fits

-- what a read's line is as JSON
abbrev pub read_data : Data
read_data = object (member (codes "args") (array no_items) (member (codes "call") (string (codes "account/1.read")) no_members))

read_data_asks : call_from (names_in accounts) (Some read_data) ≡ Ok read_call
unfolding serde_json_on_literals
read_data_asks = refl

-- a line of ASCII that is this as JSON asks for the read
pub read_asks : (line : List ℕ) → are_ascii line ≡ true → read line ≡ Some read_data → call_of (names_in accounts) line ≡ Ok read_call
read_asks line ascii is =
    ap (λ (d : Option Data). call_from (names_in accounts) d) (sym (json_of-read line read_data (IsUtf8-are_ascii line ascii) is)) ∙ read_data_asks
