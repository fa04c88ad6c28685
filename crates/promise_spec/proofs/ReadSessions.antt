-- The sessions of a log's blocks are what is read of them.
use Rattle.std.proofs.Common.{◌≡◌, ℕ, ◌+◌, ◌^◌, ◌<◌, ◌≤◌, Bool, if◌then◌else◌, List, [], ◌∷◌, ◌++◌, map, slice_index, take, Result, Ok, refl, sym, ◌∙◌, ap, subst, arith}
use Rattle.std.specs.Prelude.{◌==◌}
use Rattle.std.specs.Int.{w64, to_le_bytes, from_le_bytes}
use Rattle.std.specs.List.{flat_map, AllByRecursion}
use Rattle.std.proofs.lemmas.List.{take_at}
use Rattle.host_trait.specs.declared.channels.FileId.TheVariants.{Manager}
use Rattle.host_trait.specs.World.{Image}
use Rattle.field_codec.specs.declared.formats.Format.{Format}
use Rattle.field_codec.specs.declared.formats.Format.TheVariants.{One, Two}
use Rattle.field_codec.specs.Fields.{session_of}
use Rattle.field_codec.proofs.Counts.{wide64}
use Rattle.gate_block.specs.Log.{bodies_of}
use Rattle.gate_block.proofs.Logs.{logged}
use Rattle.commit_log.specs.declared.contents.Body.TheVariants as body
use Rattle.commit_log.specs.Contents.{spelling_of_content}
use Rattle.log_reading.specs.Entries.{SessionEntry, body_with}
use Rattle.log_reading.specs.Blocks.{program_behind}
use Rattle.log_reading.specs.Sessions.{behind_pieces, bodies_of_entries, last_session, session_by, and_sessions, sessions_behind, sessions_by}
use Rattle.log_reading.proofs.EntriesRead.{session_said, one_read}
use Rattle.promise_spec.specs.Programs.{Program}
use Rattle.promise_spec.specs.Records.{Commit}
use Rattle.promise_spec.specs.Entries.{LogEntry, Recorded, Log}
use Rattle.promise_spec.specs.Blocks.{Block, Records, Upgrade, session_in, entries_in, sessions_in, body_of, SessionIs, BlockFits, NeverFall, Saved, Checkpoint, spelled_piece, pieces_of, Beginning, Fresh, From, begin_byte, session_before, bodies_before, BeginsWhole}
use Rattle.promise_spec.specs.Logs.{IsLogIn}
use Rattle.promise_spec.specs.Openings.{ReadEntry, ReadRecord, LogRead, entries_said, AreEntriesIn, log_in_file, session_in_file, sessions_read}
use Rattle.promise_spec.proofs.ReadVersions.{entry_seen, AreFit, fit_of}
use Rattle.promise_spec.proofs.ReadLogs.{read_base, said_of, bodies_said, all_said, IsReadIn, read_in, read_is}

-- ---- the session of a block

-- eight bytes in front of what is said are read back
eight_back : (session : ℕ) (content : List ℕ) → session < 2 ^ 63 → from_le_bytes w64 (take 8 (to_le_bytes w64 session ++ content)) ≡ session
eight_back session content low =
    ap (from_le_bytes w64) (take_at (to_le_bytes w64 session) content 8 (wide64.len session)) ∙ wide64.again session (omega (arith, low))

-- a body names the session of its block
session_told : (format : Format) (b : Block) → BlockFits format b → session_of format (body_of format b) ≡ session_in b
session_told One (Records session batch) fits = sym fits.1
session_told One (Upgrade session p) fits = sym fits
session_told Two (Records session batch) fits = eight_back session (spelling_of_content (body.Records (map (λ c. c.logged) batch))) fits.1
session_told Two (Upgrade session p) fits = eight_back session (spelling_of_content (body.Upgrade p.text)) fits

-- that of the last block is the greatest
sessions_told : (format : Format) (from to : ℕ) (blocks : List Block) → AllByRecursion (BlockFits format) blocks → NeverFall from blocks to
    → to ≡ last_session format from (map (body_of format) blocks)
sessions_told format from to [] fit up = sym up
sessions_told format from to (b ∷ blocks) fit up =
    sessions_told format (session_in b) to blocks fit.1 up.1
    ∙ ap (λ (session : ℕ). last_session format session (map (body_of format) blocks)) (sym (session_told format b fit.0))

-- ---- of each entry

-- the session of a body for each entry that it says
abbrev sessions_said : SessionEntry → List ℕ
sessions_said b = map (λ (e : ReadEntry). b.session) (entries_said b.entry)

each_said : (format : Format) (p : Program) (last : ℕ) (said : List SessionEntry) → AreEntriesIn format p last said
    → sessions_behind format p last (map (body_with format) said) ≡ flat_map sessions_said said
each_said format p last [] all = refl
each_said format p last (b ∷ said) all =
    let bytes : List ℕ = body_with format b in
    let more = λ (q : Program). sessions_behind format q (session_of format bytes) (map (body_with format) said) in
    let told : session_of format bytes ≡ b.session = session_said format last b.session b.entry all.0.0 in
    ap (and_sessions p (session_of format bytes) more) (one_read format p last b all.0)
    ∙ (λ i. map (λ (e : ReadEntry). told i) (entries_said b.entry) ++ sessions_behind format (program_behind p b.entry) (told i) (map (body_with format) said))
    ∙ ap (λ (l : List ℕ). sessions_said b ++ l) (each_said format (program_behind p b.entry) b.session said all.1)

same_batch : (session : ℕ) (batch : List Commit)
    → map (λ (e : ReadEntry). session) (map ReadRecord (map (λ (c : Commit). c.logged) batch)) ≡ map (λ (e : LogEntry). session) (map Recorded batch)
same_batch session [] = refl
same_batch session (c ∷ batch) = ap (λ (l : List ℕ). session ∷ l) (same_batch session batch)

same_sessions : (blocks : List Block) → flat_map sessions_said (map said_of blocks) ≡ flat_map sessions_in blocks
same_sessions [] = refl
same_sessions (Records session batch ∷ blocks) = λ i. same_batch session batch i ++ same_sessions blocks i
same_sessions (Upgrade session p ∷ blocks) = ap (λ (l : List ℕ). session ∷ l) (same_sessions blocks)

-- ---- none is too great

session_small : (format : Format) (session : ℕ) → SessionIs format session → session < 2 ^ 63
session_small One session is = omega (arith, is)
session_small Two session is = is

block_small : (format : Format) (b : Block) → BlockFits format b → session_in b < 2 ^ 63
block_small format (Records session batch) fits = session_small format session fits.1
block_small format (Upgrade session p) fits = session_small format session fits

sessions_small : (format : Format) (from to : ℕ) (blocks : List Block) → from < 2 ^ 63 → AllByRecursion (BlockFits format) blocks → NeverFall from blocks to → to < 2 ^ 63
sessions_small format from to [] low fit up = subst (λ (session : ℕ). session < 2 ^ 63) up low
sessions_small format from to (b ∷ blocks) low fit up = sessions_small format (session_in b) to blocks (block_small format b fit.0) fit.1 up.1

begins_small : (format : Format) (slot : ℕ) (p : Program) (image : Image) (b : Beginning) → BeginsWhole format slot p image b → session_before b < 2 ^ 63
begins_small format slot p image Fresh whole = omega arith
begins_small format slot p image (From ck) whole = session_small format ck.session whole.session

-- ---- behind a beginning

-- behind the pieces of a checkpoint stand the bodies of the blocks
pieces_passed : (format : Format) (ck : Checkpoint) (front : List (List Saved)) (last : List Saved) (rest : List (List ℕ))
    → behind_pieces ((map (spelled_piece format ck 1) front ++ spelled_piece format ck 0 last ∷ []) ++ rest) ≡ rest
pieces_passed format ck [] last rest = refl
pieces_passed format ck (piece ∷ front) last rest = pieces_passed format ck front last rest

begin_passed : (format : Format) (b : Beginning) (rest : List (List ℕ))
    → (if begin_byte b == 1 then behind_pieces (bodies_before format b ++ rest) else (bodies_before format b ++ rest)) ≡ rest
begin_passed format Fresh rest = refl
begin_passed format (From ck) rest = pieces_passed format ck ck.front ck.last rest

base_session : (b : Beginning) → (read_base b).session ≡ session_before b
base_session Fresh = refl
base_session (From ck) = refl

-- the bodies that say a log's entries are those of its blocks
module _ (format : Format) (slot : ℕ) (image : Image) (log : Log) (is : IsLogIn format slot image log) where
  abbrev file : List ℕ
  file = image (Manager slot)

  abbrev blocks : List Block
  blocks = is.stands.blocks

  abbrev from : ℕ
  from = session_before is.stands.begins

  bodies_read : bodies_of_entries file ≡ map (body_of format) blocks
  bodies_read =
      let s = is.stands in
      let t = logged is.bodies is.gate file (record { blocks = s.stand; closed = is.closed }) in
      ap (λ (n : ℕ). if n == 1 then behind_pieces (bodies_of file) else bodies_of file) s.kind
      ∙ ap (λ (bs : List (List ℕ)). if begin_byte s.begins == 1 then behind_pieces bs else bs) (t.0 ∙ s.spelled)
      ∙ begin_passed format s.begins (map (body_of format) blocks)

  -- what is read of the file
  abbrev read : IsReadIn format slot is.stands.program image log
  read = read_in format slot image log is

  base_read : read.l.base.session ≡ from
  base_read = ap (λ (l : LogRead). l.base.session) (read_is format slot image log is) ∙ base_session is.stands.begins

  -- The greatest session up to which a slot's files have a log is read of them.
  pub greatest_read : is.session ≡ session_in_file format is.stands.program file
  greatest_read =
      sessions_told format from is.session blocks is.stands.fit is.stands.never_fall
      ∙ (λ i. last_session format (sym base_read i) (sym bodies_read i))
      ∙ sym (ap (session_by format file) read.read)

  -- It is below 2 to the 63.
  pub greatest_small : is.session < 2 ^ 63
  greatest_small =
      sessions_small format from is.session blocks (begins_small format slot is.stands.program image is.stands.begins is.stands.whole) is.stands.fit is.stands.never_fall

  -- Each entry is read with the session of its block.
  pub each_read : sessions_read format is.stands.program file ≡ flat_map sessions_in blocks
  each_read =
      let s = is.stands in
      let seen : AreFit format s.program (map entry_seen log.entries) = fit_of format slot image s.program log.entries s.kept in
      let fits : AreFit format s.program (map entry_seen (flat_map entries_in blocks)) = subst (λ (entries : List LogEntry). AreFit format s.program (map entry_seen entries)) s.entries seen in
      ap (sessions_by format s.program file) read.read
      ∙ (λ i. sessions_behind format s.program (base_read i) (bodies_read i))
      ∙ ap (sessions_behind format s.program from) (bodies_said format blocks)
      ∙ each_said format s.program from (map said_of blocks) (all_said format s.program from blocks is.session s.fit s.never_fall fits)
      ∙ same_sessions blocks
