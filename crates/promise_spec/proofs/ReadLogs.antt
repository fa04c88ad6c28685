-- The log of a slot's files, from what is read and back.
use Rattle.std.proofs.Common.{◌≡◌, ℕ, zero, suc, ◌^◌, ◌<◌, ◌≤◌, nat_le, Bool, true, false, if◌then◌else◌, Option, None, Some, List, [], ◌∷◌, ◌++◌, length, map, slice_index, Result, Ok, Err, refl, sym, ◌∙◌, ap, subst, arith, append_assoc, append-nil, slice_get}
use Rattle.std.specs.Prelude.{◌==◌}
use Rattle.std.proofs.lemmas.Bool.{eqb-true, eq-eqb, leb-true, le-leb, lt-ltb, ltb-true, false≢true}
use Rattle.std.proofs.lemmas.List.{length-map, map-append}
use Rattle.std.proofs.lemmas.Option.{slice_get_within}
use Rattle.std.specs.List.{flat_map, AllByRecursion}
use Rattle.base_types.specs.declared.calls.GrainId.{GrainId}
use Rattle.base_types.specs.declared.calls.UnitNo.{UnitNo}
use Rattle.base_types.specs.declared.calls.Value.{Value}
use Rattle.base_types.specs.declared.shapes.Shape.{Shape}
use Rattle.base_types.specs.declared.shapes.TypeShape.{TypeShape}
use Rattle.base_types.specs.declared.stores.Version.{Version}
use Rattle.host_trait.specs.declared.channels.FileId.{FileId}
use Rattle.host_trait.specs.declared.channels.FileId.TheVariants.{Manager, Program as ProgramFile, Grain}
use Rattle.host_trait.specs.World.{Image}
use Rattle.field_codec.specs.declared.formats.Format.{Format}
use Rattle.field_codec.specs.declared.formats.Format.TheVariants.{One, Two}
use Rattle.field_codec.specs.Units.{SessionFits}
use Rattle.field_codec.specs.declared.units.Numbers.TheVariants.{Logged}
use Rattle.field_codec.specs.Chains.{Chained}
use Rattle.field_codec.specs.Readers.{AreBytes}
use Rattle.gate_block.specs.Blocks.{BehindGate, shut, found_at}
use Rattle.gate_block.specs.Log.{first_gate, bodies_of, gate_of, LogsUpTo}
use Rattle.gate_block.proofs.Logs.{logged}
use Rattle.grain_log.specs.Reads.{fields_of}
use Rattle.commit_log.specs.declared.records.CheckpointHead.{CheckpointHead}
use Rattle.commit_log.specs.declared.records.CommitRecord.{CommitRecord}
use Rattle.commit_log.specs.declared.records.Written.{Written}
use Rattle.commit_log.specs.Orders.{grain_after, IsAscending}
use Rattle.commit_log.specs.Spelling.{WriteFits}
use Rattle.commit_log.specs.declared.contents.Body.TheVariants as body
use Rattle.commit_log.specs.Sessions.{spelling_with_session}
use Rattle.commit_log.specs.Bodies.{IsShapeType, IsRecordIn}
use Rattle.commit_log.specs.Checkpoints.{spelling_of_piece, IsSavedIn}
use Rattle.silo_spec.specs.Silos.{IsSilo, HasProgram}
use Rattle.promise_spec.specs.Programs.{Program, IsChecked, shape_in}
use Rattle.promise_spec.specs.Records.{Commit}
use Rattle.promise_spec.specs.Entries.{LogEntry, Recorded, Upgraded, Standing, Log}
use Rattle.promise_spec.specs.Versions.{WriteStands}
use Rattle.promise_spec.specs.Blocks.{Block, Records, Upgrade, session_in, entries_in, body_of, SessionIs, BlockFits, NeverFall, Saved, Checkpoint, saved_by, spelled_piece, pieces_of, IsSaved, IsCheckpoint, standing_with, Beginning, Fresh, From, begin_byte, base_of, session_before, bodies_before, BeginsWhole}
use Rattle.promise_spec.specs.Logs.{IsFormat, IsLogIn}
use Rattle.promise_spec.specs.Openings.{LogBase, ReadEntry, ReadRecord, ReadUpgrade, LogRead, fresh_base, header_damage, behind_header, behind_base, saved_behind, entries_said, no_more, no_piece, entries_behind, AreEntriesIn, AreSaidBy, log_as, log_in_file, programs_read, shapes_read, named_by, named_of_base, named_in, named_by_grain, version_named, first_missing, state_of, commit_of, states_read, entries_logged, log_of}
use Rattle.promise_spec.proofs.Lists.{parts_of, both_parts}
use Rattle.log_reading.specs.Entries as says
use Rattle.log_reading.specs.Entries.{BodyEntry, SessionEntry, IsEntryIn, body_said, body_with}
use Rattle.log_reading.specs.Blocks.{program_behind}
use Rattle.log_reading.proofs.EntriesRead.{reads, only}
use Rattle.promise_spec.proofs.ReadBlocks.{bodies_bytes, is_logged, no_whole, ended}
use Rattle.promise_spec.proofs.ReadCheckpoints.{joined, pieces_read, AreSavedPieces, base_by, pieces_of_read, saved_next}
use Rattle.promise_spec.proofs.ReadVersions.{IsThere, saved_as, saved_stands, saved_stood, by_number, all_in_order, all_of_order, entry_seen, AreFit, fit_of, same_entries, all_are_kept, all_are_there, none_missing, missing_none}

-- ---- lists of lists

flat_mapped : {A B : Type 0} (f : A → B) (xs : List (List A)) → flat_map (λ batch. batch) (map (map f) xs) ≡ map f (flat_map (λ batch. batch) xs)
flat_mapped f [] = refl
flat_mapped {A} {B} f (x ∷ xs) = ap (λ (l : List B). map f x ++ l) (flat_mapped f xs) ∙ sym (map-append f x (flat_map (λ batch. batch) xs))

sizes_map : {A B : Type 0} (most : ℕ) (f : A → B) (xs : List (List A)) → AllByRecursion (λ batch. length batch ≤ most) xs → AllByRecursion (λ batch. length batch ≤ most) (map (map f) xs)
sizes_map most f [] all = tt
sizes_map most f (x ∷ xs) all = (subst (λ (n : ℕ). n ≤ most) (sym (length-map x f)) all.0, sizes_map most f xs all.1)

-- ---- the header

-- a header's damage, by the tests of its two bytes
abbrev whole_by : Bool → Bool → Option ℕ
whole_by b c = if b then (if c then None else Some 14) else Some 13

-- of two tests, both
both_pass : (b c : Bool) → whole_by b c ≡ None → (b ≡ true) × (c ≡ true)
both_pass true true e = (refl, refl)
both_pass true false e = absurd cc
both_pass false c e = absurd cc

header_none : (file : List ℕ) → header_damage file ≡ None → (slice_index file 13 ≤ 1) × (slice_index file 14 ≡ 0)
header_none file e =
    let t = both_pass (nat_le (slice_index file 13) 1) (slice_index file 14 == 0) e in
    (leb-true (slice_index file 13) 1 t.0, eqb-true (slice_index file 14) 0 t.1)

pub none_header : (file : List ℕ) → slice_index file 13 ≤ 1 → slice_index file 14 ≡ 0 → header_damage file ≡ None
none_header file low none =
    ap (λ (b : Bool). whole_by b (slice_index file 14 == 0)) (le-leb (slice_index file 13) 1 low)
    ∙ ap (λ (b : Bool). whole_by true b) (eq-eqb (slice_index file 14) 0 none)

-- a log that is read of a file is that behind its header, which isn't damaged
header_whole : (damage : Option ℕ) (read : Result LogRead ℕ) (l : LogRead) → behind_header damage read ≡ Ok l → (damage ≡ None) × (read ≡ Ok l)
header_whole None read l e = (refl, e)
header_whole (Some place) read l e = absurd cc

pub begin_low : (b : Beginning) → begin_byte b ≤ 1
begin_low Fresh = omega arith
begin_low (From ck) = omega arith

-- ---- checkpoints

-- the writes of its pieces
abbrev writes_of : List Saved → List Written
writes_of ss = map (λ (s : Saved). s.write) ss

-- what a beginning is as it is read
abbrev pub read_base : Beginning → LogBase
read_base Fresh = fresh_base
read_base (From ck) = record { count = ck.count; next = ck.next; session = ck.session; writes = writes_of (saved_by ck) }

fronts_are : (format : Format) (ck : Checkpoint) (front : List (List Saved)) → map (spelled_piece format ck 1) front ≡ map (spelling_of_piece format 1 ck.count ck.next ck.session) (map writes_of front)
fronts_are format ck [] = refl
fronts_are format ck (piece ∷ front) = ap (λ (l : List (List ℕ)). spelled_piece format ck 1 piece ∷ l) (fronts_are format ck front)

joined_are : (front : List (List Saved)) (last : List Saved) → joined (map writes_of front) (writes_of last) ≡ writes_of (flat_map (λ piece. piece) front ++ last)
joined_are front last =
    ap (λ (l : List Written). l ++ writes_of last) (flat_mapped (λ (s : Saved). s.write) front) ∙ sym (map-append (λ (s : Saved). s.write) (flat_map (λ piece. piece) front) last)

pieces_are : (format : Format) (ck : Checkpoint) (rest : List (List ℕ))
    → pieces_of format ck ++ rest ≡ map (spelling_of_piece format 1 ck.count ck.next ck.session) (map writes_of ck.front) ++ spelling_of_piece format 0 ck.count ck.next ck.session (writes_of ck.last) ∷ rest
pieces_are format ck rest =
    append_assoc (map (spelled_piece format ck 1) ck.front) (spelled_piece format ck 0 ck.last ∷ []) rest
    ∙ ap (λ (l : List (List ℕ)). l ++ spelled_piece format ck 0 ck.last ∷ rest) (fronts_are format ck ck.front)

-- ---- sessions

-- a session that may stand before blocks: in format 1 there is 1 at most
abbrev MayStand : Format → ℕ → Type 0
MayStand One last = last ≤ 1
MayStand Two last = Unit {0}

-- a session that a log may have, and that isn't below the one before, is read as one
pub session_fits : (format : Format) (last session : ℕ) → last ≤ session → SessionIs format session → SessionFits format Logged last session
session_fits One last session up is = is
session_fits Two last session up is = (omega (arith, is), (up, lt-ltb session 9223372036854775808 (omega (arith, is))))

-- and back
pub session_is : (format : Format) (last session : ℕ) → SessionFits format Logged last session → SessionIs format session
session_is One last session fits = fits
session_is Two last session fits = let low : session < 9223372036854775808 = ltb-true session 9223372036854775808 fits.1.1 in omega (arith, low)

session_up : (format : Format) (last session : ℕ) → MayStand format last → SessionFits format Logged last session → last ≤ session
session_up One last session may fits = omega (arith, may, fits)
session_up Two last session may fits = fits.1.0

session_stands : (format : Format) (session : ℕ) → SessionIs format session → MayStand format session
session_stands One session is = omega (arith, is)
session_stands Two session is = tt

module _ (format : Format) (live : ℕ) (p : Program) (image : Image) where
  kind_by : (w : Written) (count : ℕ) (o : Option TypeShape) → slice_get (shape_in p).types w.grain.kind ≡ o → fields_of o ≡ Some count → IsShapeType (shape_in p) w.grain.kind
  kind_by w count None is e = absurd cc
  kind_by w count (Some type) is e = slice_get_within (shape_in p).types w.grain.kind type is

  is_type : (s : Saved) → IsSaved format live p image s → IsShapeType (shape_in p) s.write.grain.kind
  is_type s is = kind_by s.write (length s.state) (slice_get (shape_in p).types s.write.grain.kind) refl is.stands.fields

  -- versions that are saved and ascend hang together
  hang : (last : Option GrainId) (ss : List Saved) → IsAscending last (writes_of ss) → AllByRecursion (IsSaved format live p image) ss → Chained (IsSavedIn (shape_in p)) grain_after last (writes_of ss)
  hang last [] up all = tt
  hang last (s ∷ ss) up all = ((all.0.fits, (is_type s all.0, up.0)), hang (grain_after last s.write) ss up.1 all.1)

  -- they are there, by the shapes of a log of which this program is the first
  saved_there : (shapes : List Shape) → slice_get shapes 0 ≡ Some (shape_in p) → (ss : List Saved) → AllByRecursion (IsSaved format live p image) ss
      → AllByRecursion (IsThere format live shapes image) (map (saved_as format live (shape_in p) image) (writes_of ss))
  saved_there shapes first [] all = tt
  saved_there shapes first (s ∷ ss) all =
      ((record { unit = s.unit; state = s.state }, by_number format live shapes image 0 (shape_in p) first None s.write ∙ saved_stood format live (shape_in p) image s.write s.unit s.state all.0.unit.0 all.0.unit.1 all.0.stands), saved_there shapes first ss all.1)

  -- with the states that are read
  state_read : Written → GrainId × List Value
  state_read w = (w.grain, state_of (version_named live format (shape_in p) image (saved_as format live (shape_in p) image w)))

  saved_states : (ss : List Saved) → AllByRecursion (IsSaved format live p image) ss → map state_read (writes_of ss) ≡ map (λ (s : Saved). (s.write.grain, s.state)) ss
  unfolding state_read
  saved_states [] all = refl
  saved_states (s ∷ ss) all =
      let one : state_of (version_named live format (shape_in p) image (saved_as format live (shape_in p) image s.write)) ≡ s.state =
      ap state_of (saved_stood format live (shape_in p) image s.write s.unit s.state all.0.unit.0 all.0.unit.1 all.0.stands) in
      let more = saved_states ss all.1 in
      λ i. (s.write.grain, one i) ∷ more i

  states_again : (base : LogBase) → states_read format live (shape_in p) image base ≡ map state_read base.writes
  unfolding state_read
  states_again base = refl

  -- ---- what stands is read

  -- What is read of a slot's files is this log.
  pub record IsReadIn (log : Log) : Type 0 where
    pub l : LogRead
    pub read : log_in_file format p (image (Manager live)) ≡ Ok l
    pub whole : first_missing live format (shapes_read p l) image (named_by_grain (named_in l)) ≡ None
    pub is : log_of format live p image l ≡ log
    pub entries : l.entries ≡ map entry_seen log.entries
    pub count : l.base.count ≡ log.base.count

  -- a beginning, and the entries behind it
  pub begins_read : (b : Beginning) → BeginsWhole format live p image b → (bodies : List (List ℕ)) (entries : List ReadEntry) → ((gate : ℕ) → entries_behind format p (session_before b) gate bodies (Ok []) ≡ Ok entries)
      → (gate : ℕ) → log_as format p (begin_byte b == 1) (bodies_before format b ++ bodies) gate shut ≡ Ok (record { base = read_base b; entries = entries })
  begins_read Fresh whole bodies entries reads gate = ap (behind_base fresh_base) (reads first_gate)
  begins_read (From ck) whole bodies entries reads gate =
      let head : CheckpointHead = record { count = ck.count; next_unit = record { 0 = ck.next }; session = ck.session } in
      let front : List (List Written) = map writes_of ck.front in
      let last : List Written = writes_of ck.last in
      let sizes = parts_of (λ (piece : List Saved). length piece ≤ 65536) ck.front (ck.last ∷ []) whole.sizes in
      let all : joined front last ≡ writes_of (saved_by ck) = joined_are ck.front ck.last in
      let goes = subst (λ (ws : List Written). Chained (IsSavedIn (shape_in p)) grain_after None ws) (sym all) (hang None (saved_by ck) whole.order whole.each) in
      let t = pieces_read format p head whole.count (omega (arith, whole.next.0), whole.next.1) (session_fits format 0 ck.session (omega arith) whole.session) bodies (Ok []) gate first_gate None tt [] front last (sizes_map 65536 (λ (s : Saved). s.write) ck.front sizes.0)
      (subst (λ (n : ℕ). n ≤ 65536) (sym (length-map ck.last (λ (s : Saved). s.write))) sizes.1.0) goes in
      ap (λ (bs : List (List ℕ)). saved_behind format p first_gate None [] bs (Ok []) gate) (pieces_are format ck bodies)
      ∙ t.1
      ∙ ap (behind_base (record { count = ck.count; next = ck.next; session = ck.session; writes = joined front last })) (reads t.0)
      ∙ (λ i. Ok (record { base = record { count = ck.count; next = ck.next; session = ck.session; writes = all i }; entries = entries }))

  pub begins_there : (shapes : List Shape) → slice_get shapes 0 ≡ Some (shape_in p) → (b : Beginning) → BeginsWhole format live p image b → AllByRecursion (IsThere format live shapes image) (named_of_base (read_base b))
  begins_there shapes first Fresh whole = tt
  begins_there shapes first (From ck) whole = saved_there shapes first (saved_by ck) whole.each

  pub begins_stand : (b : Beginning) → BeginsWhole format live p image b
      → standing_with p (read_base b).count (read_base b).next (states_read format live (shape_in p) image (read_base b)) ≡ base_of p b
  begins_stand Fresh whole = refl
  begins_stand (From ck) whole =
      ap (standing_with p ck.count ck.next) (states_again (read_base (From ck)) ∙ saved_states (saved_by ck) whole.each)

  pub base_count : (b : Beginning) → (read_base b).count ≡ (base_of p b).count
  base_count Fresh = refl
  base_count (From ck) = refl

-- ---- blocks and what they say

-- what a block says
abbrev pub said_of : Block → SessionEntry
said_of (Records session batch) = record { session = session; entry = says.Recorded (map (λ (c : Commit). c.logged) batch) }
said_of (Upgrade session p) = record { session = session; entry = says.Upgraded p }

pub bodies_said : (format : Format) (blocks : List Block) → map (body_of format) blocks ≡ map (body_with format) (map said_of blocks)
bodies_said format [] = refl
bodies_said format (Records session batch ∷ blocks) = ap (λ (l : List (List ℕ)). body_of format (Records session batch) ∷ l) (bodies_said format blocks)
bodies_said format (Upgrade session p ∷ blocks) = ap (λ (l : List (List ℕ)). body_of format (Upgrade session p) ∷ l) (bodies_said format blocks)

seen_again : (batch : List Commit) → map entry_seen (map Recorded batch) ≡ map ReadRecord (map (λ (c : Commit). c.logged) batch)
seen_again [] = refl
seen_again (c ∷ batch) = ap (λ (l : List ReadEntry). ReadRecord c.logged ∷ l) (seen_again batch)

entries_seen : (blocks : List Block) → flat_map (λ (b : SessionEntry). entries_said b.entry) (map said_of blocks) ≡ map entry_seen (flat_map entries_in blocks)
entries_seen [] = refl
entries_seen (Records session batch ∷ blocks) =
    (λ i. sym (seen_again batch) i ++ entries_seen blocks i) ∙ sym (map-append entry_seen (map Recorded batch) (flat_map entries_in blocks))
entries_seen (Upgrade session p ∷ blocks) = ap (λ (l : List ReadEntry). ReadUpgrade p ∷ l) (entries_seen blocks)

-- the records of a batch before other entries
batch_fits : (format : Format) (p : Program) (batch : List Commit) (more : List LogEntry) → AreFit format p (map entry_seen (map Recorded batch ++ more))
    → AllByRecursion (IsRecordIn format Logged (shape_in p)) (map (λ (c : Commit). c.logged) batch) × AreFit format p (map entry_seen more)
batch_fits format p [] more fit = (tt, fit)
batch_fits format p (c ∷ batch) more fit = let t = batch_fits format p batch more fit.1 in ((fit.0, t.0), t.1)

pub all_said : (format : Format) (p : Program) (last : ℕ) (blocks : List Block) (to : ℕ) → AllByRecursion (BlockFits format) blocks → NeverFall last blocks to
    → AreFit format p (map entry_seen (flat_map entries_in blocks)) → AreEntriesIn format p last (map said_of blocks)
all_said format p last [] to sizes up fit = tt
all_said format p last (Records session batch ∷ blocks) to sizes up fit =
    let t = batch_fits format p batch (flat_map entries_in blocks) fit in
    let few : length (map (λ (c : Commit). c.logged) batch) ≤ 64 = subst (λ (n : ℕ). n ≤ 64) (sym (length-map batch (λ (c : Commit). c.logged))) sizes.0.0 in
    ((session_fits format last session up.0 sizes.0.1, (few, t.0)), all_said format p session blocks to sizes.1 up.1 t.1)
all_said format p last (Upgrade session q ∷ blocks) to sizes up fit =
    ((session_fits format last session up.0 sizes.0, fit.0), all_said format q session blocks to sizes.1 up.1 fit.1)

-- the entries of these blocks are read
pub blocks_read : (format : Format) (p : Program) (last : ℕ) (blocks : List Block) (to : ℕ) (entries : List LogEntry) → AllByRecursion (BlockFits format) blocks → NeverFall last blocks to
    → entries ≡ flat_map entries_in blocks → AreFit format p (map entry_seen entries)
    → (gate : ℕ) → entries_behind format p last gate (map (body_of format) blocks) (Ok []) ≡ Ok (map entry_seen entries)
blocks_read format p last blocks to entries sizes up are fit gate =
    let fits : AreFit format p (map entry_seen (flat_map entries_in blocks)) = subst (λ (es : List LogEntry). AreFit format p (map entry_seen es)) are fit in
    ap (λ (l : List (List ℕ)). entries_behind format p last gate l (Ok [])) (bodies_said format blocks)
    ∙ reads format p last gate (map said_of blocks) [] (all_said format p last blocks to sizes up fits)
    ∙ ap (λ (l : List ReadEntry). Ok l) (append-nil (flat_map (λ (b : SessionEntry). entries_said b.entry) (map said_of blocks)) ∙ entries_seen blocks ∙ ap (map entry_seen) (sym are))

-- the log of a slot's files is read of them
unfoldable pub read_in : (format : Format) (live : ℕ) (image : Image) (log : Log) → (is : IsLogIn format live image log) → IsReadIn format live is.stands.program image log
read_in format live image log is =
    let s = is.stands in
    let p : Program = s.program in
    let file : List ℕ = image (Manager live) in
    let t = logged is.bodies is.gate file (record { blocks = s.stand; closed = is.closed }) in
    let seen : List ReadEntry = map entry_seen log.entries in
    let fit : AreFit format p seen = fit_of format live image p log.entries s.kept in
    let reads_all : (gate : ℕ) → entries_behind format p (session_before s.begins) gate (map (body_of format) s.blocks) (Ok []) ≡ Ok seen =
    λ gate. blocks_read format p (session_before s.begins) s.blocks is.session log.entries s.fit s.never_fall s.entries fit gate in
    let l : LogRead = record { base = read_base s.begins; entries = seen } in
    let shapes : List Shape = shapes_read p l in
    let named : AllByRecursion (IsThere format live shapes image) (named_in l) =
    both_parts (IsThere format live shapes image) (named_of_base (read_base s.begins)) (named_by 0 seen) (begins_there format live p image shapes refl s.begins s.whole) (all_are_there format live shapes image 0 p log.entries refl s.kept) in
    let entries : entries_logged format live p image seen ≡ log.entries = same_entries format live image p log.entries s.kept in
    let base : standing_with p l.base.count l.base.next (states_read format live (shape_in p) image l.base) ≡ log.base = begins_stand format live p image s.begins s.whole ∙ sym s.base in
    record {
      l = l;
      read =
          ap (λ (damage : Option ℕ). behind_header damage (log_as format p (slice_index file 13 == 1) (bodies_of file) (gate_of file) (found_at (gate_of file) file)))
          (none_header file (subst (λ (n : ℕ). n ≤ 1) (sym s.kind) (begin_low s.begins)) s.zero)
          ∙ ap (λ (n : ℕ). log_as format p (n == 1) (bodies_of file) (gate_of file) (found_at (gate_of file) file)) s.kind
          ∙ ap (λ (f : BehindGate). log_as format p (begin_byte s.begins == 1) (bodies_of file) (gate_of file) f) t.2
          ∙ ap (λ (bs : List (List ℕ)). log_as format p (begin_byte s.begins == 1) bs (gate_of file) shut) (t.0 ∙ s.spelled)
          ∙ begins_read format live p image s.begins s.whole (map (body_of format) s.blocks) seen reads_all (gate_of file);
      whole = missing_none format live shapes image (named_by_grain (named_in l)) (all_in_order (IsThere format live shapes image) (named_in l) named);
      is = λ i. record { base = base i; entries = entries i };
      entries = refl;
      count = base_count format live p image s.begins ∙ sym (ap (λ (b : Standing). b.count) s.base);
    }

-- it is what the log begins with, and its entries
pub read_is : (format : Format) (live : ℕ) (image : Image) (log : Log) (is : IsLogIn format live image log) → (read_in format live image log is).l ≡ record { base = read_base is.stands.begins; entries = map entry_seen log.entries }
unfolding read_in
read_is format live image log is = refl

-- ---- what is read stands

logged_back : (format : Format) (live : ℕ) (shape : Shape) (image : Image) (records : List CommitRecord) → map (λ (c : Commit). c.logged) (map (commit_of format live shape image) records) ≡ records
logged_back format live shape image [] = refl
logged_back format live shape image (r ∷ records) = ap (λ (l : List CommitRecord). r ∷ l) (logged_back format live shape image records)

-- the session of the last of these, or the one before where there are none
abbrev last_said : ℕ → List SessionEntry → ℕ
last_said last [] = last
last_said last (b ∷ said) = last_said b.session said

module _ (format : Format) (live : ℕ) (image : Image) where
  -- the block that says this, each record with its states by the program of its time
  block_said : Program → ℕ → BodyEntry → Block
  block_said p session (says.Recorded records) = Records session (map (commit_of format live (shape_in p) image) records)
  block_said p session (says.Upgraded q) = Upgrade session q

  blocks_said : Program → List SessionEntry → List Block
  blocks_said p [] = []
  blocks_said p (b ∷ said) = block_said p b.session b.entry ∷ blocks_said (program_behind p b.entry) said

  one_fits : (p : Program) (last session : ℕ) (entry : BodyEntry) → SessionFits format Logged last session → IsEntryIn format p entry → BlockFits format (block_said p session entry)
  unfolding block_said
  one_fits p last session (says.Recorded records) fits is = (subst (λ (n : ℕ). n ≤ 64) (sym (length-map records (commit_of format live (shape_in p) image))) is.0, session_is format last session fits)
  one_fits p last session (says.Upgraded q) fits is = session_is format last session fits

  said_fit : (p : Program) (last : ℕ) (said : List SessionEntry) → AreEntriesIn format p last said → AllByRecursion (BlockFits format) (blocks_said p said)
  unfolding blocks_said
  said_fit p last [] all = tt
  said_fit p last (b ∷ said) all = (one_fits p last b.session b.entry all.0.0 all.0.1, said_fit (program_behind p b.entry) b.session said all.1)

  one_rises : (p : Program) (last session : ℕ) (entry : BodyEntry) (more : List Block) (to : ℕ) → last ≤ session → NeverFall session more to → NeverFall last (block_said p session entry ∷ more) to
  unfolding block_said
  one_rises p last session (says.Recorded records) more to up rest = (up, rest)
  one_rises p last session (says.Upgraded q) more to up rest = (up, rest)

  said_rise : (p : Program) (last : ℕ) (said : List SessionEntry) → MayStand format last → AreEntriesIn format p last said → NeverFall last (blocks_said p said) (last_said last said)
  unfolding blocks_said
  said_rise p last [] may all = refl
  said_rise p last (b ∷ said) may all =
      one_rises p last b.session b.entry (blocks_said (program_behind p b.entry) said) (last_said b.session said) (session_up format last b.session may all.0.0)
      (said_rise (program_behind p b.entry) b.session said (session_stands format b.session (session_is format last b.session all.0.0)) all.1)

  one_back : (p : Program) (session : ℕ) (entry : BodyEntry) → body_said format session entry ≡ body_of format (block_said p session entry)
  unfolding block_said
  one_back p session (says.Recorded records) = ap (λ (rs : List CommitRecord). spelling_with_session format session (body.Records rs)) (sym (logged_back format live (shape_in p) image records))
  one_back p session (says.Upgraded q) = refl

  bodies_back : (p : Program) (said : List SessionEntry) → map (body_with format) said ≡ map (body_of format) (blocks_said p said)
  unfolding blocks_said
  bodies_back p [] = refl
  bodies_back p (b ∷ said) =
      let one : body_with format b ≡ body_of format (block_said p b.session b.entry) = one_back p b.session b.entry in
      let more = bodies_back (program_behind p b.entry) said in
      λ i. one i ∷ more i

  -- records before other entries
  records_before : (p : Program) (records : List CommitRecord) (more : List ReadEntry)
      → entries_logged format live p image (map ReadRecord records ++ more) ≡ map Recorded (map (commit_of format live (shape_in p) image) records) ++ entries_logged format live p image more
  records_before p [] more = refl
  records_before p (r ∷ records) more = ap (λ (l : List LogEntry). Recorded (commit_of format live (shape_in p) image r) ∷ l) (records_before p records more)

  entries_before : (p : Program) (session : ℕ) (entry : BodyEntry) (more : List ReadEntry)
      → entries_logged format live p image (entries_said entry ++ more) ≡ entries_in (block_said p session entry) ++ entries_logged format live (program_behind p entry) image more
  unfolding block_said
  entries_before p session (says.Recorded records) more = records_before p records more
  entries_before p session (says.Upgraded q) more = refl

  entries_back : (p : Program) (said : List SessionEntry)
      → entries_logged format live p image (flat_map (λ (b : SessionEntry). entries_said b.entry) said) ≡ flat_map entries_in (blocks_said p said)
  unfolding blocks_said
  entries_back p [] = refl
  entries_back p (b ∷ said) =
      entries_before p b.session b.entry (flat_map (λ (b : SessionEntry). entries_said b.entry) said)
      ∙ ap (λ (l : List LogEntry). entries_in (block_said p b.session b.entry) ++ l) (entries_back (program_behind p b.entry) said)

-- what is said of whole bodies fits
records_fit : (format : Format) (p : Program) (records : List CommitRecord) (more : List ReadEntry) → AllByRecursion (IsRecordIn format Logged (shape_in p)) records → AreFit format p more → AreFit format p (map ReadRecord records ++ more)
records_fit format p [] more all rest = rest
records_fit format p (r ∷ records) more all rest = (all.0, records_fit format p records more all.1 rest)

entry_fits : (format : Format) (p : Program) (entry : BodyEntry) (more : List ReadEntry) → IsEntryIn format p entry → AreFit format (program_behind p entry) more → AreFit format p (entries_said entry ++ more)
entry_fits format p (says.Recorded records) more is rest = records_fit format p records more is.1 rest
entry_fits format p (says.Upgraded q) more is rest = (is, rest)

entries_fit : (format : Format) (p : Program) (last : ℕ) (said : List SessionEntry) → AreEntriesIn format p last said → AreFit format p (flat_map (λ (b : SessionEntry). entries_said b.entry) said)
entries_fit format p last [] all = tt
entries_fit format p last (b ∷ said) all =
    entry_fits format p b.entry (flat_map (λ (b : SessionEntry). entries_said b.entry) said) all.0.1 (entries_fit format (program_behind p b.entry) b.session said all.1)

-- a session may stand before the blocks of a beginning that is whole
begins_may : (format : Format) (live : ℕ) (p : Program) (image : Image) (b : Beginning) → BeginsWhole format live p image b → MayStand format (session_before b)
begins_may One live p image Fresh whole = omega arith
begins_may Two live p image Fresh whole = tt
begins_may format live p image (From ck) whole = session_stands format ck.session whole.session

module _ (format : Format) (live : ℕ) (p : Program) (image : Image) (are : (file : FileId) → AreBytes (image file)) (silo : IsSilo (IsFormat format) (image (Manager live))) (checked : IsChecked p) (text : HasProgram p.text (image (ProgramFile live)))
    (l : LogRead) (whole : first_missing live format (shapes_read p l) image (named_by_grain (named_in l)) ≡ None) where
  abbrev manager_file : List ℕ
  manager_file = image (Manager live)

  -- each version that it names is there
  named_there : AllByRecursion (IsThere format live (shapes_read p l) image) (named_in l)
  named_there = all_of_order (IsThere format live (shapes_read p l) image) (named_in l) (none_missing format live (shapes_read p l) image (named_by_grain (named_in l)) whole)

  -- behind a beginning that stands, entries that were read are blocks
  finish : (b : Beginning) → slice_index manager_file 13 ≡ begin_byte b → slice_index manager_file 14 ≡ 0 → standing_with p l.base.count l.base.next (states_read format live (shape_in p) image l.base) ≡ base_of p b
      → BeginsWhole format live p image b → (rest : List (List ℕ)) → bodies_of manager_file ≡ bodies_before format b ++ rest → AllByRecursion AreBytes rest
      → (gate : ℕ) → entries_behind format p (session_before b) gate rest (no_more (gate_of manager_file) (found_at (gate_of manager_file) manager_file)) ≡ Ok l.entries → IsLogIn format live image (log_of format live p image l)
  finish b kind nought base begins rest split bytes gate read =
      let r : AreSaidBy format p (session_before b) rest (no_more (gate_of manager_file) (found_at (gate_of manager_file) manager_file)) l.entries =
      only format p (session_before b) gate rest (no_more (gate_of manager_file) (found_at (gate_of manager_file) manager_file)) l.entries bytes read in
      let end = ended (gate_of manager_file) (found_at (gate_of manager_file) manager_file) r.rest (no_whole manager_file) r.ended in
      let all : List ReadEntry = flat_map (λ (x : SessionEntry). entries_said x.entry) r.said in
      let same : l.entries ≡ all = r.are ∙ ap (λ (x : List ReadEntry). all ++ x) end.1 ∙ append-nil all in
      let fit : AreFit format p l.entries = subst (AreFit format p) (sym same) (entries_fit format p (session_before b) r.said r.entries) in
      let there = parts_of (IsThere format live (shapes_read p l) image) (named_of_base l.base) (named_by 0 l.entries) named_there in
      let logs : LogsUpTo (bodies_of manager_file) (gate_of manager_file) manager_file = is_logged manager_file (are (Manager live)) (omega (arith, silo.long)) end.0 in
      record {
        bodies = bodies_of manager_file;
        gate = gate_of manager_file;
        session = last_said (session_before b) r.said;
        stands = record {
          silo = silo;
          program = p;
          checked = checked;
          text = text;
          begins = b;
          kind = kind;
          zero = nought;
          base = base;
          whole = begins;
          blocks = blocks_said format live image p r.said;
          fit = said_fit format live image p (session_before b) r.said r.entries;
          never_fall = said_rise format live image p (session_before b) r.said (begins_may format live p image b begins) r.entries;
          spelled = split ∙ ap (λ (bs : List (List ℕ)). bodies_before format b ++ bs) (r.bodies_are ∙ bodies_back format live image p r.said);
          stand = logs.blocks;
          entries = ap (entries_logged format live p image) same ∙ entries_back format live image p r.said;
          kept = all_are_kept format live (shapes_read p l) image are 0 p l.entries refl fit there.1;
        };
        closed = logs.closed;
      }

  -- the version that is read of a write, as it is saved
  unit_of : Result Version ℕ → UnitNo
  unit_of (Ok v) = v.unit
  unit_of (Err place) = record { 0 = 0 }

  saved_read : Written → Saved
  saved_read w = record {
    unit = unit_of (version_named live format (shape_in p) image (saved_as format live (shape_in p) image w));
    write = w;
    state = state_of (version_named live format (shape_in p) image (saved_as format live (shape_in p) image w));
  }

  writes_back : (ws : List Written) → writes_of (map saved_read ws) ≡ ws
  unfolding saved_read
  writes_back [] = refl
  writes_back (w ∷ ws) = ap (λ (x : List Written). w ∷ x) (writes_back ws)

  states_back : (ws : List Written) → map (λ (s : Saved). (s.write.grain, s.state)) (map saved_read ws) ≡ map (state_read format live p image) ws
  unfolding saved_read state_read
  states_back [] = refl
  states_back (w ∷ ws) = ap (λ (x : List (GrainId × List Value)). state_read format live p image w ∷ x) (states_back ws)

  all_ascend : (last : Option GrainId) (ws : List Written) → Chained (IsSavedIn (shape_in p)) grain_after last ws → IsAscending last ws
  all_ascend last [] all = tt
  all_ascend last (w ∷ ws) all = (all.0.1.1, all_ascend (grain_after last w) ws all.1)

  one_saved : (w : Written) → WriteFits w → IsThere format live (shapes_read p l) image (saved_as format live (shape_in p) image w) → IsSaved format live p image (saved_read w)
  unfolding saved_read unit_of
  one_saved w fits there =
      let is = saved_stands format live (shape_in p) image w (are (Grain live w.grain)) there.0 there.1 in
      let unit : unit_of (version_named live format (shape_in p) image (saved_as format live (shape_in p) image w)) ≡ there.0.unit = ap unit_of there.1 in
      let state : state_of (version_named live format (shape_in p) image (saved_as format live (shape_in p) image w)) ≡ there.0.state = ap state_of there.1 in
      record {
        fits = fits;
        unit = subst (λ (u : UnitNo). (0 < u.0) × (u.0 < 2 ^ 63)) (sym unit) is.0;
        stands = subst (λ (u : UnitNo). WriteStands format live (shape_in p) image u w (state_of (version_named live format (shape_in p) image (saved_as format live (shape_in p) image w)))) (sym unit)
            (subst (WriteStands format live (shape_in p) image there.0.unit w) (sym state) is.1);
      }

  each_saved : (last : Option GrainId) (ws : List Written) → Chained (IsSavedIn (shape_in p)) grain_after last ws → AllByRecursion (IsThere format live (shapes_read p l) image) (map (saved_as format live (shape_in p) image) ws)
      → AllByRecursion (IsSaved format live p image) (map saved_read ws)
  each_saved last [] all there = tt
  each_saved last (w ∷ ws) all there = (one_saved w all.0.0 there.0, each_saved (grain_after last w) ws all.1 there.1)

  -- the checkpoint that was read
  module _ (bodies : List (List ℕ)) (end : Result (List ReadEntry) ℕ) (r : AreSavedPieces format p None [] bodies end l) where
    ck : Checkpoint
    ck = record { count = r.head.count; next = r.head.next_unit.0; session = r.head.session; front = map (map saved_read) r.front; last = map saved_read r.last }

    saved_are : saved_by ck ≡ map saved_read (joined r.front r.last)
    unfolding ck
    saved_are =
        ap (λ (x : List Saved). x ++ map saved_read r.last) (flat_mapped saved_read r.front) ∙ sym (map-append saved_read (flat_map (λ piece. piece) r.front) r.last)

    base_writes : l.base.writes ≡ joined r.front r.last
    base_writes = ap (λ (b : LogBase). b.writes) r.base

    fronts_back : (count next session : ℕ) (front : List (List Written)) (other : Checkpoint) → other.count ≡ count → other.next ≡ next → other.session ≡ session
        → map (spelled_piece format other 1) (map (map saved_read) front) ≡ map (spelling_of_piece format 1 count next session) front
    fronts_back count next session [] other e f g = refl
    fronts_back count next session (ws ∷ front) other e f g =
        let one : spelled_piece format other 1 (map saved_read ws) ≡ spelling_of_piece format 1 count next session ws = λ i. spelling_of_piece format 1 (e i) (f i) (g i) (writes_back ws i) in
        let more = fronts_back count next session front other e f g in
        λ i. one i ∷ more i

    bodies_split : bodies ≡ pieces_of format ck ++ r.rest
    unfolding ck
    bodies_split =
        r.spelled
        ∙ (λ i. sym (fronts_back r.head.count r.head.next_unit.0 r.head.session r.front ck refl refl refl) i ++ spelling_of_piece format 0 r.head.count r.head.next_unit.0 r.head.session (sym (writes_back r.last) i) ∷ r.rest)
        ∙ sym (append_assoc (map (spelled_piece format ck 1) ck.front) (spelled_piece format ck 0 ck.last ∷ []) r.rest)

    is_checkpoint : IsCheckpoint format live p image ck
    unfolding ck
    is_checkpoint = record {
      count = r.low;
      next = (omega (arith, r.next.0), r.next.1);
      session = session_is format 0 r.head.session r.session;
      sizes = both_parts (λ (piece : List Saved). length piece ≤ 65536) ck.front (ck.last ∷ []) (sizes_map 65536 saved_read r.front r.sizes)
          (subst (λ (n : ℕ). n ≤ 65536) (sym (length-map r.last saved_read)) r.size, tt);
      order = subst (IsAscending None) (sym (ap writes_of saved_are ∙ writes_back (joined r.front r.last))) (all_ascend None (joined r.front r.last) r.goes);
      each = subst (AllByRecursion (IsSaved format live p image)) (sym saved_are)
          (each_saved None (joined r.front r.last) r.goes
          (subst (λ (ws : List Written). AllByRecursion (IsThere format live (shapes_read p l) image) (map (saved_as format live (shape_in p) image) ws)) base_writes
          (parts_of (IsThere format live (shapes_read p l) image) (named_of_base l.base) (named_by 0 l.entries) named_there).0));
    }

    entries_there : entries_behind format p (session_before (From ck)) r.gate r.rest end ≡ Ok l.entries
    unfolding ck
    entries_there = r.entries

    base_is : standing_with p l.base.count l.base.next (states_read format live (shape_in p) image l.base) ≡ base_of p (From ck)
    unfolding ck
    base_is =
        (λ i. standing_with p (r.base i).count (r.base i).next (states_read format live (shape_in p) image (r.base i)))
        ∙ ap (standing_with p r.head.count r.head.next_unit.0)
        (states_again format live p image (record { count = r.head.count; next = r.head.next_unit.0; session = r.head.session; writes = joined r.front r.last })
        ∙ sym (states_back (joined r.front r.last)) ∙ sym (ap (map (λ (s : Saved). (s.write.grain, s.state))) saved_are))

  by_kind : (flag : Bool) → (slice_index manager_file 13 == 1) ≡ flag → slice_index manager_file 13 ≤ 1 → slice_index manager_file 14 ≡ 0
      → log_as format p flag (bodies_of manager_file) (gate_of manager_file) (found_at (gate_of manager_file) manager_file) ≡ Ok l → IsLogIn format live image (log_of format live p image l)
  by_kind false kind low nought e =
      let none : slice_index manager_file 13 ≡ 0 = small (slice_index manager_file 13) low kind in
      let t = base_by format p fresh_base (entries_behind format p 0 first_gate (bodies_of manager_file) (no_more (gate_of manager_file) (found_at (gate_of manager_file) manager_file))) l e in
      finish Fresh none nought (λ i. standing_with p (t.0 i).count (t.0 i).next (states_read format live (shape_in p) image (t.0 i))) tt (bodies_of manager_file) refl
      (bodies_bytes manager_file (are (Manager live)) (length manager_file) first_gate) first_gate t.1
    where
      small : (n : ℕ) → n ≤ 1 → (n == 1) ≡ false → n ≡ 0
      small zero le none = refl
      small (suc zero) le none = absurd (false≢true (sym none))
      small (suc (suc n)) le none = absurd (omega (arith, le))
  by_kind true kind low nought e =
      let one : slice_index manager_file 13 ≡ 1 = eqb-true (slice_index manager_file 13) 1 kind in
      let end = no_more (gate_of manager_file) (found_at (gate_of manager_file) manager_file) in
      let r = pieces_of_read format p first_gate None [] (bodies_of manager_file) end (no_piece (gate_of manager_file) (found_at (gate_of manager_file) manager_file)) l
      (bodies_bytes manager_file (are (Manager live)) (length manager_file) first_gate) e in
      finish (From (ck (bodies_of manager_file) end r)) one nought (base_is (bodies_of manager_file) end r) (is_checkpoint (bodies_of manager_file) end r) r.rest (bodies_split (bodies_of manager_file) end r) r.bytes r.gate (entries_there (bodies_of manager_file) end r)

  -- a log that is read of a slot's files is theirs
  pub stands_in : log_in_file format p manager_file ≡ Ok l → IsLogIn format live image (log_of format live p image l)
  stands_in e =
      let h = header_whole (header_damage manager_file) (log_as format p (slice_index manager_file 13 == 1) (bodies_of manager_file) (gate_of manager_file) (found_at (gate_of manager_file) manager_file)) l e in
      let parts = header_none manager_file h.0 in
      by_kind (slice_index manager_file 13 == 1) refl parts.0 parts.1 h.1

-- The number of the unit that is next where a log begins that is read is above 0.
pub next_read : (format : Format) (p : Program) (file : List ℕ) (l : LogRead) → log_in_file format p file ≡ Ok l → 0 < l.base.next
next_read format p file l e =
    by (slice_index file 13 == 1) (header_whole (header_damage file) (log_as format p (slice_index file 13 == 1) (bodies_of file) (gate_of file) (found_at (gate_of file) file)) l e).1
  where
    by : (flag : Bool) → log_as format p flag (bodies_of file) (gate_of file) (found_at (gate_of file) file) ≡ Ok l → 0 < l.base.next
    by false e =
        let t = base_by format p fresh_base (entries_behind format p 0 first_gate (bodies_of file) (no_more (gate_of file) (found_at (gate_of file) file))) l e in
        let one : 0 < 1 = omega arith in
        subst (λ (b : LogBase). 0 < b.next) (sym t.0) one
    by true e =
        saved_next format p first_gate None [] (bodies_of file) (no_more (gate_of file) (found_at (gate_of file) file)) (no_piece (gate_of file) (found_at (gate_of file) file)) l e
