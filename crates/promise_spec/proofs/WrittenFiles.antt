-- What is written as a checkpoint is a log.
use Rattle.std.proofs.Common.{◌≡◌, ℕ, ◌+◌, ◌^◌, ◌<◌, List, [], ◌∷◌, ◌++◌, length, map, take, drop, slice_index, refl, sym, ap, subst, ◌∙◌, arith, append-nil, length-append}
use Rattle.std.proofs.lemmas.Nat.{from_le_bytes-to_le_bytes_4}
use Rattle.std.specs.Int.{w32, to_le_bytes, from_le_bytes}
use Rattle.host_trait.specs.declared.channels.FileId.TheVariants.{Manager, Program as ProgramFile}
use Rattle.host_trait.specs.World.{Image}
use Rattle.field_codec.specs.declared.formats.Format.TheVariants.{Two}
use Rattle.std.specs.List.{flat_map, AllByRecursion}
use Rattle.gate_block.specs.Log.{LogsUpTo, open_blocks, AreSmall, first_gate}
use Rattle.gate_block.proofs.Logs.{written_logs}
use Rattle.silo_spec.specs.Silos.{IsSilo, HasProgram}
use Rattle.silo_spec.specs.Slots.{generation}
use Rattle.promise_spec.specs.Programs.{Program, IsChecked}
use Rattle.promise_spec.specs.Blocks.{Block, entries_in, body_of, BlockFits, NeverFall, AreKept, Checkpoint, IsCheckpoint, pieces_of, standing_saved, Beginning, From, begin_byte, base_of, session_before, bodies_before, BeginsWhole}
use Rattle.promise_spec.specs.Logs.{IsFormat, IsLogIn, written_file}

module _ (g : ℕ) (b : Beginning) (bodies : List (List ℕ)) (rest : List ℕ) where
  abbrev file : List ℕ
  file = written_file g b bodies rest

  -- what stands behind the first 15 bytes
  behind : drop first_gate file ≡ open_blocks bodies ++ 0 ∷ rest
  behind = refl

  is_silo_file : IsSilo (IsFormat Two) file
  is_silo_file =
      let all : length file ≡ 15 + length (open_blocks bodies ++ 0 ∷ rest) = length-append (take first_gate file) (drop first_gate file) in
      let gate : length (0 ∷ rest) ≡ 1 + length rest = length-append (0 ∷ []) rest in
      record { long = omega (arith, all, gate, length-append (open_blocks bodies) (0 ∷ rest)); gate = refl; named = refl }

  field_is : take 4 (drop 9 file) ≡ to_le_bytes w32 g
  field_is = refl

  pub generation_is : g < 2 ^ 32 → generation (written_file g b bodies rest) ≡ g
  generation_is low = ap (λ (l : List ℕ). from_le_bytes w32 l) field_is ∙ from_le_bytes-to_le_bytes_4 g low

  kind_is : slice_index file 13 ≡ begin_byte b
  kind_is = refl

  zero_is : slice_index file 14 ≡ 0
  zero_is = refl

-- the files of a slot that was filled with a beginning and blocks behind it
pub written_stands : (slot : ℕ) (image : Image) (g : ℕ) (p : Program) (b : Beginning) (blocks : List Block) (session : ℕ) (rest : List ℕ)
    → image (Manager slot) ≡ written_file g b (bodies_before Two b ++ map (body_of Two) blocks) rest
    → IsChecked p → HasProgram p.text (image (ProgramFile slot)) → AreSmall (bodies_before Two b ++ map (body_of Two) blocks) → BeginsWhole Two slot p image b
    → AllByRecursion (BlockFits Two) blocks → NeverFall (session_before b) blocks session → AreKept Two slot image p (flat_map entries_in blocks)
    → IsLogIn Two slot image (record { base = base_of p b; entries = flat_map entries_in blocks })
written_stands slot image g p b blocks session rest is checked text small whole fit up kept =
    let bodies : List (List ℕ) = bodies_before Two b ++ map (body_of Two) blocks in
    let back : written_file g b bodies rest ≡ image (Manager slot) = sym is in
    let place : ℕ = first_gate + length (open_blocks bodies) in
    let logs : LogsUpTo bodies place (image (Manager slot)) =
    subst (LogsUpTo bodies place) back (written_logs bodies rest (written_file g b bodies rest) small (behind g b bodies rest)) in
    record {
      bodies = bodies;
      gate = place;
      session = session;
      stands = record {
        silo = subst (IsSilo (IsFormat Two)) back (is_silo_file g b bodies rest);
        program = p;
        checked = checked;
        text = text;
        begins = b;
        kind = subst (λ (l : List ℕ). slice_index l 13 ≡ begin_byte b) back (kind_is g b bodies rest);
        zero = subst (λ (l : List ℕ). slice_index l 14 ≡ 0) back (zero_is g b bodies rest);
        base = refl;
        whole = whole;
        blocks = blocks;
        fit = fit;
        never_fall = up;
        spelled = refl;
        stand = logs.blocks;
        entries = refl;
        kept = kept;
      };
      closed = logs.closed;
    }

-- with a checkpoint alone
pub written_is_log : (slot : ℕ) (image : Image) (g : ℕ) (p : Program) (ck : Checkpoint) (rest : List ℕ) → image (Manager slot) ≡ written_file g (From ck) (pieces_of Two ck) rest
    → IsChecked p → HasProgram p.text (image (ProgramFile slot)) → AreSmall (pieces_of Two ck) → IsCheckpoint Two slot p image ck
    → IsLogIn Two slot image (record { base = standing_saved p ck; entries = [] })
written_is_log slot image g p ck rest is checked text small whole =
    let none : pieces_of Two ck ≡ pieces_of Two ck ++ [] = sym (append-nil (pieces_of Two ck)) in
    written_stands slot image g p (From ck) [] ck.session rest (is ∙ ap (λ (bodies : List (List ℕ)). written_file g (From ck) bodies rest) none) checked text
    (subst AreSmall none small) whole tt refl tt
