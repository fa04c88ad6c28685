-- Where a manager file may have the block of a batch in doubt, an image has the batch.
use Rattle.std.proofs.Common.{◌≡◌, ◌⊎◌, inl, inr, ℕ, ◌+◌, ◌<◌, ◌≤◌, ◌^◌, List, [], ◌∷◌, ◌++◌, length, map, take, drop, slice_index, Result, Ok, refl, sym, ap, subst, ◌∙◌, arith, length-append, append_assoc}
use Rattle.std.specs.Prelude.{◌==◌, ◌%◌}
use Rattle.std.specs.Int.{w32, to_le_bytes}
use Rattle.std.specs.List.{flat_map, AllByRecursion}
use Rattle.std.proofs.lemmas.List.{map-append, length-map, take_at, take-take}
use Rattle.base_types.specs.declared.shapes.Shape.{Shape}
use Rattle.host_trait.specs.Disk.{MayLeave}
use Rattle.host_trait.specs.World.{Disk, Image, IsImage, with_bytes}
use Rattle.host_trait.proofs.Runs.{image_with, with_bytes-there}
use Rattle.host_trait.specs.declared.channels.FileId.TheVariants.{Manager}
use Rattle.field_codec.specs.declared.formats.Format.TheVariants.{Two}
use Rattle.field_codec.specs.declared.units.Numbers.TheVariants.{Logged}
use Rattle.field_codec.proofs.Counts.{wide32}
use Rattle.gate_block.specs.Blocks.{shut}
use Rattle.gate_block.specs.Log.{LogsUpTo}
use Rattle.gate_block.proofs.Logs as blocks
use Rattle.commit_log.specs.Bodies.{IsRecordIn}
use Rattle.field_codec.specs.Spelling.{spelling_of_program}
use Rattle.commit_log.specs.Contents.{upgrade_mark}
use Rattle.commit_log.specs.Spelling.{spelling_of_record}
use Rattle.commit_log.specs.Checkpoints.{spelling_of_piece}
use Rattle.commit_log.proofs.CheckpointPieces.{piece_length}
use Rattle.promise_spec.specs.Records.{Commit}
use Rattle.promise_spec.specs.Programs.{Program, shape_in}
use Rattle.promise_spec.specs.Entries.{LogEntry, Recorded, Upgraded, Standing, after_entry, after_entries, Log, standing_of, grown}
use Rattle.promise_spec.specs.Blocks.{Block, Records, Upgrade, entries_in, body_of, BlockFits, NeverFall, Saved, Checkpoint, spelled_piece, pieces_of, Beginning, Fresh, From, begin_byte, base_of, session_before, bodies_before, BeginsWhole}
use Rattle.promise_spec.specs.Logs.{StandsUpTo, IsLog}
use Rattle.promise_spec.specs.Openings.{ReadEntry, LogRead, log_as}
use Rattle.promise_spec.proofs.Standings.{grown_none}
use Rattle.promise_spec.proofs.Growing.{program_begins, entries_more, rises}
use Rattle.promise_spec.proofs.Batched.{base_program}
use Rattle.promise_spec.proofs.ReadLogs.{begins_read, blocks_read}
use Rattle.promise_spec.proofs.ReadVersions.{entry_seen, AreFit, fit_of}
use Rattle.promise_spec.proofs.Lists.{parts_of, both_parts}

-- a record is within the format's limits
abbrev pub Fits : Shape → Commit → Type 0
Fits shape c = IsRecordIn Two Logged shape c.logged

-- entries that fit behind others that do
fit_both : (before : Standing) (entries more : List LogEntry) → AreFit Two before.program (map entry_seen entries) → AreFit Two (after_entries before entries).program (map entry_seen more)
    → AreFit Two before.program (map entry_seen (entries ++ more))
fit_both before [] more fit all = all
fit_both before (Recorded c ∷ entries) more fit all = (fit.0, fit_both (after_entry before (Recorded c)) entries more fit.1 all)
fit_both before (Upgraded q ∷ entries) more fit all = (fit.0, fit_both (after_entry before (Upgraded q)) entries more fit.1 all)

batch_fit : (p : Program) (batch : List Commit) → AllByRecursion (Fits (shape_in p)) batch → AreFit Two p (map entry_seen (map Recorded batch))
batch_fit p [] all = tt
batch_fit p (c ∷ batch) all = (all.0, batch_fit p batch all.1)

-- two logs that one answer gives have one list of entries
entries_same : (r : Result LogRead ℕ) (l m : LogRead) → r ≡ Ok l → r ≡ Ok m → l.entries ≡ m.entries
entries_same r l m e f =
    let same : l ≡ m = (let is : Ok l ≡ Ok m = sym e ∙ f in cc) in
    ap (λ (x : LogRead). x.entries) same

-- a list that a part of is no longer
nothing_more : (batch : List Commit) → length batch ≡ 0 → batch ≡ []
nothing_more [] e = refl
nothing_more (c ∷ batch) e = absurd (omega (arith, e))

-- ---- no piece of a checkpoint is the body of a block behind it

-- the body of a block of records or an upgrade
record IsEntryBody (body : List ℕ) : Type 0 where
  block : Block
  fits : BlockFits Two block
  is : body ≡ body_of Two block

entry_bodies : (blocks : List Block) → AllByRecursion (BlockFits Two) blocks → AllByRecursion IsEntryBody (map (body_of Two) blocks)
entry_bodies [] all = tt
entry_bodies (block ∷ blocks) all = (record { block = block; fits = all.0; is = refl }, entry_bodies blocks all.1)

-- the four bytes behind a batch's session are its number of records
batch_count : (session : ℕ) (batch : List Commit) → take 4 (drop 8 (body_of Two (Records session batch))) ≡ to_le_bytes w32 (length (map (λ (c : Commit). c.logged) batch))
batch_count session batch =
    take_at (to_le_bytes w32 (length (map (λ (c : Commit). c.logged) batch))) (flat_map spelling_of_record (map (λ (c : Commit). c.logged) batch)) 4 (wide32.len (length (map (λ (c : Commit). c.logged) batch)))

-- and those behind an upgrade's the mark
mark_first : (session : ℕ) (p : Program) → take 4 (drop 8 (body_of Two (Upgrade session p))) ≡ to_le_bytes w32 upgrade_mark
mark_first session p = take_at (to_le_bytes w32 upgrade_mark) (spelling_of_program p.text) 4 (wide32.len upgrade_mark)

-- the ninth byte of a piece of a checkpoint at position 0 is zero
ninth_zero : (ck : Checkpoint) → ck.count ≡ 0 → (last : List Saved) → take 1 (drop 8 (spelled_piece Two ck 0 last)) ≡ 0 ∷ []
ninth_zero ck none last = ap (λ (n : ℕ). take 1 (drop 8 (spelling_of_piece Two 0 n ck.next ck.session (map (λ (s : Saved). s.write) last)))) none

-- such a piece is longer than the body of no records
no_piece_of : (ck : Checkpoint) → ck.count ≡ 0 → (last : List Saved) (block : Block) → BlockFits Two block → spelled_piece Two ck 0 last ≡ body_of Two block → ⊥
no_piece_of ck none last (Records session batch) fits is =
    let n : ℕ = length (map (λ (c : Commit). c.logged) batch) in
    let low : n ≤ 64 = subst (λ (m : ℕ). m ≤ 64) (sym (length-map batch (λ (c : Commit). c.logged))) fits.0 in
    let byte : take 1 (to_le_bytes w32 n) ≡ 0 ∷ [] =
    ap (λ (l : List ℕ). take 1 l) (sym (batch_count session batch)) ∙ take-take 1 4 (drop 8 (body_of Two (Records session batch))) (omega arith)
    ∙ ap (λ (l : List ℕ). take 1 (drop 8 l)) (sym is) ∙ ninth_zero ck none last in
    let rest : n % 256 ≡ 0 = ap (λ (l : List ℕ). slice_index l 0) byte in
    let zero_records : n ≡ 0 = omega (arith, rest, low) in
    let empty : batch ≡ [] = nothing_more batch (sym (length-map batch (λ (c : Commit). c.logged)) ∙ zero_records) in
    let twelve : length (spelled_piece Two ck 0 last) ≡ 12 = ap length is ∙ ap (λ (b : List Commit). length (body_of Two (Records session b))) empty in
    omega (arith, twelve, piece_length Two 0 ck.count ck.next ck.session (map (λ (s : Saved). s.write) last))
no_piece_of ck none last (Upgrade session p) fits is =
    let byte : take 1 (to_le_bytes w32 upgrade_mark) ≡ 0 ∷ [] =
    ap (λ (l : List ℕ). take 1 l) (sym (mark_first session p)) ∙ take-take 1 4 (drop 8 (body_of Two (Upgrade session p))) (omega arith)
    ∙ ap (λ (l : List ℕ). take 1 (drop 8 l)) (sym is) ∙ ninth_zero ck none last in
    let same : 255 ≡ 0 = ap (λ (l : List ℕ). slice_index l 0) byte in
    omega (arith, same)

no_piece : (ck : Checkpoint) → ck.count ≡ 0 → (last : List Saved) → IsEntryBody (spelled_piece Two ck 0 last) → ⊥
no_piece ck none last b = no_piece_of ck none last b.block b.fits b.is

-- it stands among its pieces
last_among : (P : List ℕ → Type 0) (ck : Checkpoint) (rest : List (List ℕ)) → AllByRecursion P (pieces_of Two ck ++ rest) → P (spelled_piece Two ck 0 ck.last)
last_among P ck rest all = (parts_of P (map (spelled_piece Two ck 1) ck.front) (spelled_piece Two ck 0 ck.last ∷ []) (parts_of P (pieces_of Two ck) rest all).0).1.0

-- so what begins at position 0 has one kind of beginning
one_kind : (p q : Program) (a b : Beginning) → (base_of p a).count ≡ (base_of q b).count → (xs ys : List Block) → AllByRecursion (BlockFits Two) xs → AllByRecursion (BlockFits Two) ys
    → bodies_before Two a ++ map (body_of Two) xs ≡ bodies_before Two b ++ map (body_of Two) ys → begin_byte a ≡ begin_byte b
one_kind p q Fresh Fresh count xs ys fit fit_too same = refl
one_kind p q (From ck) (From dk) count xs ys fit fit_too same = refl
one_kind p q Fresh (From dk) count xs ys fit fit_too same =
    absurd (no_piece dk (sym count) dk.last (last_among IsEntryBody dk (map (body_of Two) ys) (subst (AllByRecursion IsEntryBody) same (entry_bodies xs fit))))
one_kind p q (From ck) Fresh count xs ys fit fit_too same =
    absurd (no_piece ck count ck.last (last_among IsEntryBody ck (map (body_of Two) xs) (subst (AllByRecursion IsEntryBody) (sym same) (entry_bodies ys fit_too))))

module _ (live : ℕ) (disk : Disk) (some : Image) (before : Log) (bodies : List (List ℕ)) (at reached session : ℕ) (batch : List Commit) (gate : ℕ) (c : List ℕ) (s : StandsUpTo Two live some before bodies at reached)
    (later : reached ≤ session) (may_be : session < 2 ^ 63) where
  -- the image with those bytes in the live manager file has the batch
  pub image_in_doubt : length batch ≤ 64 → AllByRecursion (Fits (shape_in (standing_of before).program)) batch → MayLeave (disk (Manager live)) c → LogsUpTo (bodies ++ body_of Two (Records session batch) ∷ []) gate c
      → (rest : Image) → IsImage disk rest
      → ((image : Image) → IsImage disk image → IsLog live image before ⊎ IsLog live image (grown before batch))
      → (image : Image) × (IsImage disk image × IsLog live image (grown before batch))
  image_in_doubt small fits may logs rest left each = (with_bytes rest (Manager live) c, (possible, by (each (with_bytes rest (Manager live) c) possible)))
    where
      possible : IsImage disk (with_bytes rest (Manager live) c)
      possible = image_with disk rest (Manager live) c left may

      moved : LogsUpTo (bodies ++ body_of Two (Records session batch) ∷ []) gate (with_bytes rest (Manager live) c (Manager live))
      moved = subst (LogsUpTo (bodies ++ body_of Two (Records session batch) ∷ []) gate) (sym (with_bytes-there rest (Manager live) c)) logs

      by : IsLog live (with_bytes rest (Manager live) c) before ⊎ IsLog live (with_bytes rest (Manager live) c) (grown before batch) → IsLog live (with_bytes rest (Manager live) c) (grown before batch)
      by (inr has) = has
      by (inl was) =
          let x = was.is.stands in
          let file : List ℕ = with_bytes rest (Manager live) c (Manager live) in
          let here : LogsUpTo was.is.bodies was.is.gate file = record { blocks = x.stand; closed = was.is.closed } in
          let same : was.is.bodies ≡ bodies ++ body_of Two (Records session batch) ∷ [] = (blocks.one_log was.is.bodies (bodies ++ body_of Two (Records session batch) ∷ []) was.is.gate gate file here moved).0 in
          let split : bodies_before Two x.begins ++ map (body_of Two) x.blocks ≡ bodies_before Two s.begins ++ map (body_of Two) (s.blocks ++ Records session batch ∷ []) =
          sym x.spelled ∙ same ∙ ap (λ (l : List (List ℕ)). l ++ body_of Two (Records session batch) ∷ []) s.spelled
          ∙ append_assoc (bodies_before Two s.begins) (map (body_of Two) s.blocks) (body_of Two (Records session batch) ∷ [])
          ∙ ap (λ (l : List (List ℕ)). bodies_before Two s.begins ++ l) (sym (map-append (body_of Two) s.blocks (Records session batch ∷ []))) in
          let base : base_of x.program x.begins ≡ base_of s.program s.begins = sym x.base ∙ s.base in
          let program : x.program ≡ s.program = sym (program_begins x.program x.begins) ∙ ap (λ (n : Standing). n.program) base ∙ program_begins s.program s.begins in
          let sizes : AllByRecursion (BlockFits Two) (s.blocks ++ Records session batch ∷ []) = both_parts (BlockFits Two) s.blocks (Records session batch ∷ []) s.fit ((small, may_be), tt) in
          let up : NeverFall (session_before s.begins) (s.blocks ++ Records session batch ∷ []) session = rises (session_before s.begins) reached s.blocks (Records session batch) s.never_fall later in
          let entries : (grown before batch).entries ≡ flat_map entries_in (s.blocks ++ Records session batch ∷ []) =
          ap (λ (l : List LogEntry). l ++ map Recorded batch) s.entries ∙ sym (entries_more s.blocks (Records session batch)) in
          let seen : List ReadEntry = map entry_seen before.entries in
          let seen_more : List ReadEntry = map entry_seen (grown before batch).entries in
          let begins : before.base.program ≡ s.program = base_program Two live some before bodies at reached s in
          let fit_before : AreFit Two s.program seen = fit_of Two live some s.program before.entries s.kept in
          let fit_all : AreFit Two s.program seen_more = subst (λ (p : Program). AreFit Two p seen_more) begins
          (fit_both before.base before.entries (map Recorded batch) (subst (λ (p : Program). AreFit Two p seen) (sym begins) fit_before) (batch_fit (standing_of before).program batch fits)) in
          let whole : BeginsWhole Two live s.program (with_bytes rest (Manager live) c) x.begins = subst (λ (q : Program). BeginsWhole Two live q (with_bytes rest (Manager live) c) x.begins) program x.whole in
          let kind : begin_byte x.begins ≡ begin_byte s.begins =
          one_kind x.program s.program x.begins s.begins (ap (λ (n : Standing). n.count) base) x.blocks (s.blocks ++ Records session batch ∷ []) x.fit sizes split in
          let first = begins_read Two live s.program (with_bytes rest (Manager live) c) x.begins whole (map (body_of Two) x.blocks) seen
          (λ at. blocks_read Two s.program (session_before x.begins) x.blocks was.is.session before.entries x.fit x.never_fall x.entries fit_before at) 0 in
          let second = begins_read Two live s.program some s.begins s.whole (map (body_of Two) (s.blocks ++ Records session batch ∷ [])) seen_more
          (λ at. blocks_read Two s.program (session_before s.begins) (s.blocks ++ Records session batch ∷ []) session (grown before batch).entries sizes up entries fit_all at) 0 in
          let reads : log_as Two s.program (begin_byte x.begins == 1) (bodies_before Two x.begins ++ map (body_of Two) x.blocks) 0 shut
          ≡ log_as Two s.program (begin_byte s.begins == 1) (bodies_before Two s.begins ++ map (body_of Two) (s.blocks ++ Records session batch ∷ [])) 0 shut =
          λ i. log_as Two s.program (kind i == 1) (split i) 0 shut in
          let are : seen ≡ seen_more = entries_same _ _ _ first (reads ∙ second) in
          let long : length before.entries ≡ length before.entries + length batch =
          sym (length-map before.entries entry_seen) ∙ ap length are ∙ length-map (grown before batch).entries entry_seen ∙ length-append before.entries (map Recorded batch)
          ∙ ap (λ (n : ℕ). length before.entries + n) (length-map batch Recorded) in
          let none : batch ≡ [] = nothing_more batch (omega (arith, long)) in
          subst (λ (l : List Commit). IsLog live (with_bytes rest (Manager live) c) (grown before l)) (sym none) (subst (IsLog live (with_bytes rest (Manager live) c)) (sym (grown_none before)) was)
