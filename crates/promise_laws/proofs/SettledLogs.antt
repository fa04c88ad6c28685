-- Over a whole folder, what has the manager files as they read has the log that was read.
use Rattle.std.proofs.Common.{◌≡◌, ◌⊎◌, inl, inr, ℕ, ◌+◌, ◌-◌, ◌≤◌, List, [], ◌∷◌, ◌++◌, length, map, take, drop, slice_index, Result, Ok, refl, sym, ap, subst, ◌∙◌, arith, length-append, append-nil}
use Rattle.std.specs.Int.{w32, w64, to_le_bytes, from_le_bytes}
use Rattle.std.specs.List.{flat_map}
use Rattle.std.proofs.lemmas.Bool.{cases_lt}
use Rattle.std.proofs.lemmas.List.{length-map, take_at}
use Rattle.host_trait.specs.Disk.{MayLeave}
use Rattle.host_trait.specs.declared.channels.FileId.{FileId}
use Rattle.host_trait.specs.declared.channels.FileId.TheVariants.{Manager}
use Rattle.host_trait.specs.World.{World, Disk, Image, IsImage}
use Rattle.field_codec.specs.declared.formats.Format.{Format}
use Rattle.field_codec.specs.Spelling.{spelling_of_session}
use Rattle.field_codec.proofs.Counts.{wide64}
use Rattle.gate_block.specs.Log.{LogsUpTo}
use Rattle.gate_block.proofs.Logs as blocks
use Rattle.commit_log.specs.Spelling.{spelling_of_write}
use Rattle.silo_spec.specs.Silos.{IsMagic, IsSilo}
use Rattle.silo_spec.specs.Slots.{IsLive}
use Rattle.silo_spec.proofs.Magics.{silo_format}
use Rattle.promise_spec.specs.Programs.{Program}
use Rattle.promise_spec.specs.Entries.{LogEntry, Standing, Log}
use Rattle.promise_spec.specs.Blocks.{body_of, Saved, spelled_piece, Checkpoint, Beginning, Fresh, From, begin_byte, base_of, bodies_before, BeginsWhole}
use Rattle.promise_spec.specs.Logs.{IsFormat, IsLogIn, IsLogOf, IsPrefix}
use Rattle.promise_spec.specs.Openings.{LogRead, log_in_file}
use Rattle.promise_spec.specs.Prefixes.{IsPrefixOf}
use Rattle.promise_spec.specs.Images.{AreChained, IsWholeSilo, IsWholeIfSilo, IsWholeFolder}
use Rattle.promise_spec.specs.Journals.{AllLogOf}
use Rattle.promise_spec.proofs.Growing.{program_begins}
use Rattle.promise_spec.proofs.Prefixes.{of_one_position}
use Rattle.promise_spec.proofs.ReadLogs.{IsReadIn, read_in}
use Rattle.promise_spec.proofs.ReadVersions.{entry_seen}
use Rattle.promise_spec.proofs.Slots.{live_moves}

-- ---- where the logs of one manager file begin

-- the count that the first piece of a checkpoint says
said : List (List ℕ) → List ℕ
said [] = []
said (body ∷ bodies) = take 8 (drop 1 body)

-- what stands behind it
behind_count : Format → Checkpoint → List Saved → List ℕ
behind_count format ck piece = to_le_bytes w64 ck.next ++ (spelling_of_session format ck.session ++ (to_le_bytes w32 (length (map (λ (s : Saved). s.write) piece)) ++ flat_map spelling_of_write (map (λ (s : Saved). s.write) piece)))

says_by : (format : Format) (ck : Checkpoint) (front : List (List Saved)) (last : List Saved) (rest : List (List ℕ)) → said ((map (spelled_piece format ck 1) front ++ spelled_piece format ck 0 last ∷ []) ++ rest) ≡ to_le_bytes w64 ck.count
unfolding said behind_count
says_by format ck [] last rest = take_at (to_le_bytes w64 ck.count) (behind_count format ck last) 8 (wide64.len ck.count)
says_by format ck (piece ∷ front) last rest = take_at (to_le_bytes w64 ck.count) (behind_count format ck piece) 8 (wide64.len ck.count)

pub begin_counts : (format : Format) (live : ℕ) (p q : Program) (x y : Image) (a b : Beginning) → BeginsWhole format live p x a → BeginsWhole format live q y b → begin_byte a ≡ begin_byte b → (rest more : List (List ℕ))
    → bodies_before format a ++ rest ≡ bodies_before format b ++ more → (base_of p a).count ≡ (base_of q b).count
begin_counts format live p q x y Fresh Fresh whole whole_too kind rest more same = refl
begin_counts format live p q x y Fresh (From dk) whole whole_too kind rest more same = absurd (omega (arith, kind))
begin_counts format live p q x y (From ck) Fresh whole whole_too kind rest more same = absurd (omega (arith, kind))
begin_counts format live p q x y (From ck) (From dk) whole whole_too kind rest more same =
    let bytes : to_le_bytes w64 ck.count ≡ to_le_bytes w64 dk.count = sym (says_by format ck ck.front ck.last rest) ∙ ap said same ∙ says_by format dk dk.front dk.last more in
    sym (wide64.again ck.count (omega (arith, whole.count))) ∙ ap (from_le_bytes w64) bytes ∙ wide64.again dk.count (omega (arith, whole_too.count))

-- logs of images with one live manager file begin at one position
pub counts_same : (format : Format) (live : ℕ) (one other : Image) (a b : Log) → one (Manager live) ≡ other (Manager live) → IsLogIn format live one a → IsLogIn format live other b → a.base.count ≡ b.base.count
counts_same format live one other a b same is too =
    let x = is.stands in
    let y = too.stands in
    let here : LogsUpTo is.bodies is.gate (one (Manager live)) = record { blocks = x.stand; closed = is.closed } in
    let there : LogsUpTo too.bodies too.gate (one (Manager live)) = subst (LogsUpTo too.bodies too.gate) (sym same) (record { blocks = y.stand; closed = too.closed }) in
    let bodies : is.bodies ≡ too.bodies = (blocks.one_log is.bodies too.bodies is.gate too.gate (one (Manager live)) here there).0 in
    let kind : begin_byte x.begins ≡ begin_byte y.begins = sym x.kind ∙ ap (λ (l : List ℕ). slice_index l 13) same ∙ y.kind in
    ap (λ (s : Standing). s.count) x.base
    ∙ begin_counts format live x.program y.program one other x.begins y.begins x.whole y.whole kind (map (body_of format) x.blocks) (map (body_of format) y.blocks) (sym x.spelled ∙ bodies ∙ y.spelled)
    ∙ sym (ap (λ (s : Standing). s.count) y.base)

-- ---- how many entries they have

-- as many as were read
entries_count : (format : Format) (live : ℕ) (p : Program) (image : Image) (log : Log) (is : IsReadIn format live p image log) → length is.l.entries ≡ length log.entries
entries_count format live p image log is = ap length is.entries ∙ length-map log.entries entry_seen

read_same : (a b : LogRead) (r : Result LogRead ℕ) → r ≡ Ok a → r ≡ Ok b → a ≡ b
read_same a b r e f = let is : Ok a ≡ Ok b = sym e ∙ f in cc

-- under one program they have equally many
lengths_same : (format : Format) (live : ℕ) (p : Program) (one other : Image) (a b : Log) → one (Manager live) ≡ other (Manager live) → IsReadIn format live p one a → IsReadIn format live p other b → length a.entries ≡ length b.entries
lengths_same format live p one other a b same x y =
    let read : x.l ≡ y.l = read_same x.l y.l (log_in_file format p (one (Manager live))) x.read (ap (log_in_file format p) same ∙ y.read) in
    sym (entries_count format live p one a x) ∙ ap (λ (l : LogRead). length l.entries) read ∙ entries_count format live p other b y

-- a first part that is no shorter is all
front_is : (a b : List LogEntry) → IsPrefix a b → length a ≡ length b → a ≡ b
front_is a b front same = go front.0 front.1
  where
    go : (rest : List LogEntry) → b ≡ a ++ rest → a ≡ b
    go [] e = sym (append-nil a) ∙ sym e
    go (c ∷ rest) e =
        let long : length b ≡ length a + length (c ∷ rest) = ap length e ∙ length-append a (c ∷ rest) in
        absurd (omega (arith, long, same))

-- logs of two images with one live manager file, of which one is a prefix of the other, are one
one_of : (format : Format) (live : ℕ) (one other : Image) (a b : Log) → one (Manager live) ≡ other (Manager live) → IsLogOf format live one a → IsLogOf format live other b → IsPrefixOf a b → a ≡ b
one_of format live one other a b same x y front =
    let t = of_one_position a b (counts_same format live one other a b same x.is y.is) front in
    let p : Program = x.is.stands.program in
    let q : Program = y.is.stands.program in
    let program : p ≡ q =
    sym (ap (λ (s : Standing). s.program) x.is.stands.base ∙ program_begins p x.is.stands.begins)
    ∙ ap (λ (s : Standing). s.program) t.0
    ∙ (ap (λ (s : Standing). s.program) y.is.stands.base ∙ program_begins q y.is.stands.begins) in
    let first : IsReadIn format live q one a = subst (λ (r : Program). IsReadIn format live r one a) program (read_in format live one a x.is) in
    let entries : a.entries ≡ b.entries = front_is a.entries b.entries t.1 (lengths_same format live q one other a b same first (read_in format live other b y.is)) in
    λ i. record { base = t.0 i; entries = entries i }

-- chained images with one live manager file, of which the other is whole, have one log, in the format that this file names
chained_same : (format : Format) (live : ℕ) (one other : Image) (log : Log) → AreChained one other → IsWholeIfSilo other → one (Manager live) ≡ other (Manager live) → IsLive IsMagic live other → IsLogOf format live one log → IsLogOf format live other log
chained_same format live one other log chain whole same too is =
    let w : IsWholeSilo live other = whole live too in
    let named : w.format ≡ format = silo_format w.format format (other (Manager live)) w.is.is.stands.silo (subst (IsSilo (IsFormat format)) same is.is.stands.silo) in
    let its : IsLogOf format live other w.log = subst (λ (f : Format). IsLogOf f live other w.log) named w.is in
    let alike : log ≡ w.log = elim (chain log w.log (format, live, is) (format, live, its)) [
      | inl f ↦ one_of format live one other log w.log same is its f
      | inr f ↦ sym (one_of format live other one w.log log (sym same) its is f)
    ] in
    subst (IsLogOf format live other) (sym alike) its

-- The files as they read have this log; each image of the disk is one of the folder's, with the live manager file as it reads, and
-- the other one too where it reads 16 bytes or more.
pub settled_logs : (format : Format) (live : ℕ) (w : World) (disk : Disk) (log : Log) → IsWholeFolder w → ((file : FileId) → MayLeave (w.disk file) (w.disk file).seen)
    → ((image : Image) → IsImage disk image → IsImage w.disk image
    × ((slot : ℕ) → slot ≤ 1 → (slot ≡ live) ⊎ (16 ≤ length (w.disk (Manager slot)).seen) → image (Manager slot) ≡ (w.disk (Manager slot)).seen))
    → IsLogOf format live (λ file. (w.disk file).seen) log → AllLogOf format live log disk
settled_logs format live w disk log whole seen stays is image left =
    let t = stays image left in
    let read : Image = λ file. (w.disk file).seen in
    let low : live ≤ 1 = is.is_live.slot in
    let low_too : 1 - live ≤ 1 = omega arith in
    let mine : image (Manager live) ≡ read (Manager live) = t.1 live low (inl refl) in
    let long : 16 ≤ length (image (Manager live)) = subst (λ (l : List ℕ). 16 ≤ length l) (sym mine) is.is_live.silo.long in
    let other : (image (Manager (1 - live)) ≡ read (Manager (1 - live))) ⊎ (IsSilo IsMagic (image (Manager (1 - live))) → ⊥) = elim (cases_lt (length (read (Manager (1 - live)))) 16) [
      | inl short ↦ inr (λ silo. whole.shows image t.0 (1 - live) low_too short silo)
      | inr enough ↦ inl (t.1 (1 - live) low_too (inr enough))
    ] in
    let is_live : IsLive IsMagic live image = live_moves live read image is.is_live (ap (take 15) mine) long other in
    chained_same format live read image log (whole.chain read image seen t.0) (whole.whole image t.0) (sym mine) is_live is
