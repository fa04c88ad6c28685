-- Blocks that get a session, one behind the other.
use Rattle.std.proofs.Common.{◌≡◌, ◌≢◌, ℕ, ◌+◌, ◌-◌, ◌^◌, ◌<◌, ◌≤◌, ◌==◌, min, Bool, true, false, if◌then◌else◌, List, [], ◌∷◌, ◌++◌, length, map, take, drop, slice_index, refl, sym, ◌∙◌, ap, subst, arith, append_assoc, append-nil, length-append, take-append-drop}
use Rattle.std.specs.Int.{w32, w64, to_le_bytes}
use Rattle.std.proofs.lemmas.List.{take_min, append_cancel_left}
use Rattle.host_trait.specs.declared.channels.FileId.TheVariants.{Manager}
use Rattle.host_trait.specs.Disk.{FileState, overlaid, settled}
use Rattle.host_trait.specs.Files.{slot_of}
use Rattle.host_trait.specs.World.{World, Disk}
use Rattle.host_trait.specs.Runs.{RunsOnFile, OnlyAsked}
use Rattle.host_trait.proofs.Runs.{run_started, run_then}
use Rattle.gate_block.specs.Blocks.{shut, bad, whole, found_at, block_at}
use Rattle.gate_block.specs.Log.{bodies_of, open_blocks, HasBlocks, IsWhole}
use Rattle.gate_block.proofs.Logs.{is_whole, walked, damaged, no_blocks, read_more}
use Rattle.promise_laws.specs.MigratedFiles.{migrated_body, migrated_piece, migrated_pieces, migrated_in}
use Rattle.checkpoint.specs.Steps.{KeepsGate}
use Rattle.checkpoint.specs.ManagerBytes.{behind_gate, HasWritten}
use Rattle.checkpoint.specs.MigratedBlocks.{with_session, session_place, more_follow, bodies_with_session, HasBlocksWritten, HasMigrated}
use Rattle.checkpoint.proofs.Runs.{only_run}
use Rattle.checkpoint.proofs.ManagerBytes.{none_written, written_twice, more_blocks}

-- ---- one block

-- past the end there is nothing more to take
place_min : (body : List ℕ) → (take (min 17 (length body)) body ≡ take 17 body) × (drop (min 17 (length body)) body ≡ drop 17 body)
place_min body =
    let n : ℕ = min 17 (length body) in
    let front : take n body ≡ take 17 body = take_min 17 body in
    let both : take 17 body ++ drop n body ≡ take 17 body ++ drop 17 body =
    ap (λ (l : List ℕ). l ++ drop n body) (sym front) ∙ take-append-drop n body ∙ sym (take-append-drop 17 body) in
    (front, append_cancel_left (take 17 body) (drop n body) (drop 17 body) both)

longer : (a b : List ℕ) (body : List ℕ) → a ++ b ≡ body → length (a ++ (to_le_bytes w64 1 ++ b)) ≡ length body + 8
longer a b body is =
    let session : length (to_le_bytes w64 1) ≡ 8 = refl in
    omega (arith, session, ap (λ (l : List ℕ). length l) is, length-append a b, length-append a (to_le_bytes w64 1 ++ b), length-append (to_le_bytes w64 1) b)

pub session_length : (is_piece : Bool) (body : List ℕ) → length (with_session is_piece body) ≡ length body + 8
session_length true body = longer (take 17 body) (drop 17 body) body (take-append-drop 17 body)
session_length false body = longer [] body body refl

-- the parts of a body
parts : (is_piece : Bool) (body : List ℕ) → take (session_place is_piece (length body)) body ++ (to_le_bytes w64 1 ++ drop (session_place is_piece (length body)) body) ≡ with_session is_piece body
parts true body = (let p = place_min body in λ i. p.0 i ++ (to_le_bytes w64 1 ++ p.1 i))
parts false body = refl

-- the bytes of a block, part by part
pub block_is : (is_piece : Bool) (body : List ℕ)
    → ((((1 ∷ []) ++ to_le_bytes w32 (length body + 8)) ++ take (session_place is_piece (length body)) body) ++ to_le_bytes w64 1) ++ drop (session_place is_piece (length body)) body ≡ block_at (with_session is_piece body)
block_is is_piece body =
    let size : List ℕ = to_le_bytes w32 (length body + 8) in
    let front : List ℕ = take (session_place is_piece (length body)) body in
    let rest : List ℕ = drop (session_place is_piece (length body)) body in
    let session : List ℕ = to_le_bytes w64 1 in
    let all : ((((1 ∷ []) ++ size) ++ front) ++ session) ++ rest ≡ (1 ∷ size) ++ (front ++ (session ++ rest)) =
    append_assoc ((1 ∷ size) ++ front) session rest ∙ append_assoc (1 ∷ size) front (session ++ rest) in
    let spelled : (1 ∷ size) ++ (front ++ (session ++ rest)) ≡ 1 ∷ (to_le_bytes w32 (length (with_session is_piece body)) ++ with_session is_piece body) =
    λ i. 1 ∷ (to_le_bytes w32 (sym (session_length is_piece body) i) ++ parts is_piece body i) in
    all ∙ spelled

-- ---- bodies

by_kind : (kind : Bool) (bodies : List (List ℕ)) → bodies_with_session kind bodies ≡ (if kind then migrated_pieces bodies else map migrated_body bodies)
by_kind true bodies = refl
by_kind false bodies = refl

none_with_session : (kind : Bool) → bodies_with_session kind [] ≡ []
none_with_session true = refl
none_with_session false = refl

next_with_session : (kind : Bool) (body : List ℕ) (rest : List (List ℕ)) → bodies_with_session kind (body ∷ rest) ≡ with_session kind body ∷ bodies_with_session (more_follow kind body) rest
next_with_session true body rest = ap (λ (l : List (List ℕ)). migrated_piece body ∷ l) (sym (by_kind (slice_index body 0 == 1) rest))
next_with_session false body rest = refl

-- ---- blocks one behind the other

-- Up to this gate the bodies were read, and up to this end their blocks were written, each with the session; a piece is due next, or not.
pub record AreMigrated (begins is_piece : Bool) (live start gate end : ℕ) (old new : World) : Type 0 where
  pub front : List (List ℕ)
  pub made : List (List ℕ)
  pub read : HasBlocks front gate (old.disk (Manager live)).seen
  pub goes_on : (rest : List (List ℕ)) → bodies_with_session begins (front ++ rest) ≡ made ++ bodies_with_session is_piece rest
  pub ends : end ≡ start + length (open_blocks made)
  pub written : HasWritten (1 - live) start (open_blocks made) old new

pub none_migrated : (begins : Bool) (live start : ℕ) (w : World) → 16 ≤ length (w.disk (Manager live)).seen → AreMigrated begins begins live start 15 start w w
none_migrated begins live start w long = record {
  front = [];
  made = [];
  read = no_blocks (w.disk (Manager live)).seen (omega (arith, long));
  goes_on = λ rest. refl;
  ends = omega arith;
  written = none_written (1 - live) start w (run_started (Manager (1 - live)) KeepsGate w (λ d. refl));
}

-- the live slot's manager file isn't the other one
pub own_manager : (live : ℕ) → live ≤ 1 → Manager live ≢ Manager (1 - live)
own_manager live low same = (let slots : live ≡ 1 - live = ap slot_of same in omega (arith, low, slots))

pub keeps_then : (slot : ℕ) (old mid new : World) → RunsOnFile (Manager slot) KeepsGate 0 old mid → RunsOnFile (Manager slot) KeepsGate 0 mid new → RunsOnFile (Manager slot) KeepsGate 0 old new
keeps_then slot old mid new first second = run_then (Manager slot) KeepsGate KeepsGate 0 0 old mid new (λ e d c one two. two ∙ one) first second

pub keeps_asked : (slot : ℕ) (old new : World) → OnlyAsked old new → RunsOnFile (Manager slot) KeepsGate 0 old new
keeps_asked slot old new asked = only_run (Manager slot) KeepsGate old new (λ d. refl) asked

-- what was written before calls that only asked
pub written_asked : (live at end : ℕ) (begins : Bool) (w0 w1 w2 : World) → HasBlocksWritten live at end begins w0 w1 → OnlyAsked w1 w2 → HasBlocksWritten live at end begins w0 w2
written_asked live at end begins w0 w1 w2 has asked = record {
  ends = has.ends;
  written = record {
    run = keeps_then (1 - live) w0 w1 w2 has.written.run (keeps_asked (1 - live) w1 w2 asked);
    seen = ap (λ (d : Disk). (d (Manager (1 - live))).seen) asked.disk ∙ has.written.seen;
  };
}

-- what was written behind calls that only asked
pub asked_written : (slot at : ℕ) (bytes : List ℕ) (w0 w1 w2 : World) → OnlyAsked w0 w1 → HasWritten slot at bytes w1 w2 → HasWritten slot at bytes w0 w2
asked_written slot at bytes w0 w1 w2 asked written = record {
  run = run_then (Manager slot) KeepsGate KeepsGate 0 0 w0 w1 w2 (λ e d c one two. two ∙ one) (only_run (Manager slot) KeepsGate w0 w1 (λ d. refl) asked) written.run;
  seen = written.seen ∙ ap (λ (d : Disk). overlaid (d (Manager slot)).seen at bytes) asked.disk;
}

pub more_migrated : (begins is_piece : Bool) (live start gate end later : ℕ) (body : List ℕ) (old mid new : World) → start ≤ length (old.disk (Manager (1 - live))).seen → AreMigrated begins is_piece live start gate end old mid
    → found_at gate (old.disk (Manager live)).seen ≡ whole body → take (5 + length body) (drop gate (old.disk (Manager live)).seen) ≡ block_at body → length body < 2 ^ 32
    → later ≡ end + length (block_at (with_session is_piece body)) → HasWritten (1 - live) end (block_at (with_session is_piece body)) mid new
    → AreMigrated begins (more_follow is_piece body) live start (gate + 5 + length body) later old new
more_migrated begins is_piece live start gate end later body old mid new within so_far found spelled small grows written =
    let one : List ℕ = with_session is_piece body in
    let blocks : List ℕ = open_blocks so_far.made in
    let joined : open_blocks (so_far.made ++ one ∷ []) ≡ blocks ++ block_at one = more_blocks so_far.made one in
    let size : length (open_blocks (so_far.made ++ one ∷ [])) ≡ length blocks + length (block_at one) = ap (λ (l : List ℕ). length l) joined ∙ length-append blocks (block_at one) in
    record {
      front = so_far.front ++ body ∷ [];
      made = so_far.made ++ one ∷ [];
      read = read_more so_far.front gate body (old.disk (Manager live)).seen so_far.read found spelled small;
      goes_on = λ rest.
          ap (bodies_with_session begins) (append_assoc so_far.front (body ∷ []) rest) ∙ so_far.goes_on (body ∷ rest)
          ∙ ap (λ (l : List (List ℕ)). so_far.made ++ l) (next_with_session is_piece body rest) ∙ sym (append_assoc so_far.made (one ∷ []) (bodies_with_session (more_follow is_piece body) rest));
      ends = omega (arith, grows, so_far.ends, size);
      written = subst (λ (l : List ℕ). HasWritten (1 - live) start l old new) (sym joined)
          (written_twice (1 - live) start blocks (block_at one) old mid new within so_far.written (subst (λ (k : ℕ). HasWritten (1 - live) k (block_at one) mid new) so_far.ends written));
    }

-- all of them, where the gate is closed
pub all_migrated : (begins is_piece : Bool) (live start gate end : ℕ) (old new : World) → AreMigrated begins is_piece live start gate end old new → found_at gate (old.disk (Manager live)).seen ≡ shut
    → HasBlocksWritten live start end begins old new
all_migrated begins is_piece live start gate end old new so_far found =
    let file : List ℕ = (old.disk (Manager live)).seen in
    let bodies : bodies_of file ≡ so_far.front = (walked so_far.front gate file so_far.read (ap is_whole found)).0 in
    let made : so_far.made ≡ bodies_with_session begins (bodies_of file) =
    sym (append-nil so_far.made) ∙ ap (λ (l : List (List ℕ)). so_far.made ++ l) (sym (none_with_session is_piece)) ∙ sym (so_far.goes_on [])
    ∙ ap (bodies_with_session begins) (append-nil so_far.front ∙ sym bodies) in
    record {
      ends = so_far.ends ∙ ap (λ (l : List (List ℕ)). start + length (open_blocks l)) made;
      written = subst (λ (l : List (List ℕ)). HasWritten (1 - live) start (open_blocks l) old new) made so_far.written;
    }

-- a log that ends at a closed gate has no damaged block
pub whole_undamaged : (begins is_piece : Bool) (live start gate end : ℕ) (old new : World) → AreMigrated begins is_piece live start gate end old new → found_at gate (old.disk (Manager live)).seen ≡ bad
    → IsWhole (old.disk (Manager live)).seen → ⊥
whole_undamaged begins is_piece live start gate end old new so_far found is =
    let there = damaged so_far.front gate (old.disk (Manager live)).seen so_far.read found in
    let both : bad ≡ shut = sym there.2 ∙ is in
    cc

-- ---- the whole file

-- the log's blocks by the byte that says how it begins
in_file : (file : List ℕ) → bodies_with_session (slice_index file 13 == 1) (bodies_of file) ≡ migrated_in file
in_file file = by_kind (slice_index file 13 == 1) (bodies_of file)

pub whole_migrated : (live generation begins at end : ℕ) (w0 w1 w2 w3 w4 w5 : World) → 1 ≤ length (w0.disk (Manager (1 - live))).seen → OnlyAsked w0 w1 → begins ≡ slice_index (w0.disk (Manager live)).seen 13
    → HasWritten (1 - live) 1 (behind_gate generation begins) w1 w2 → at ≡ 15 → w2.disk (Manager live) ≡ w1.disk (Manager live) → HasBlocksWritten live at end (begins == 1) w2 w3 → HasWritten (1 - live) end (0 ∷ []) w3 w4
    → w5.disk (Manager (1 - live)) ≡ settled (w4.disk (Manager (1 - live))).seen
    → HasMigrated generation (w0.disk (Manager live)).seen (w0.disk (Manager (1 - live))) (w5.disk (Manager (1 - live)))
whole_migrated live generation begins at end w0 w1 w2 w3 w4 w5 some asked kind header place kept blocks last synced =
    let file : List ℕ = (w0.disk (Manager live)).seen in
    let all : List ℕ = open_blocks (migrated_in file) in
    let front : List ℕ = behind_gate generation begins in
    let same : (w2.disk (Manager live)).seen ≡ file = ap (λ (s : FileState). s.seen) (kept ∙ ap (λ (d : Disk). d (Manager live)) asked.disk) in
    let bodies : bodies_with_session (begins == 1) (bodies_of (w2.disk (Manager live)).seen) ≡ migrated_in file =
    (λ i. bodies_with_session (kind i == 1) (bodies_of (same i))) ∙ in_file file in
    let middle : HasWritten (1 - live) 15 all w2 w3 =
    subst (λ (k : ℕ). HasWritten (1 - live) k all w2 w3) place (subst (λ (l : List (List ℕ)). HasWritten (1 - live) at (open_blocks l) w2 w3) bodies blocks.written) in
    let end_is : end ≡ 15 + length all = blocks.ends ∙ (λ i. place i + length (open_blocks (bodies i))) in
    let header_size : 1 + length front ≡ 15 = size generation begins in
    let a : HasWritten (1 - live) 1 (front ++ all) w1 w3 =
    written_twice (1 - live) 1 front all w1 w2 w3 (subst (λ (d : Disk). 1 ≤ length (d (Manager (1 - live))).seen) (sym asked.disk) some) header (subst (λ (k : ℕ). HasWritten (1 - live) k all w2 w3) (sym header_size) middle) in
    let a_size : 1 + length (front ++ all) ≡ end = omega (arith, header_size, end_is, length-append front all) in
    let b : HasWritten (1 - live) 1 ((front ++ all) ++ 0 ∷ []) w1 w4 =
    written_twice (1 - live) 1 (front ++ all) (0 ∷ []) w1 w3 w4 (subst (λ (d : Disk). 1 ≤ length (d (Manager (1 - live))).seen) (sym asked.disk) some) a (subst (λ (k : ℕ). HasWritten (1 - live) k (0 ∷ []) w3 w4) (sym a_size) last) in
    let bytes : (front ++ all) ++ 0 ∷ [] ≡ behind_gate generation (slice_index file 13) ++ (all ++ 0 ∷ []) =
    append_assoc front all (0 ∷ []) ∙ ap (λ (k : ℕ). behind_gate generation k ++ (all ++ 0 ∷ [])) kind in
    let before : (w1.disk (Manager (1 - live))).seen ≡ (w0.disk (Manager (1 - live))).seen = ap (λ (d : Disk). (d (Manager (1 - live))).seen) asked.disk in
    synced ∙ ap (λ (l : List ℕ). settled l) (b.seen ∙ (λ i. overlaid (before i) 1 (bytes i)))
  where
    size : (g b : ℕ) → 1 + length (behind_gate g b) ≡ 15
    size g b = refl
