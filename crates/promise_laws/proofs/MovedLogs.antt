-- A slot's log rests on that slot's files alone.
use Rattle.std.proofs.Common.{◌≡◌, ℕ, ◌<◌, List, [], ◌∷◌, length, take, slice_index, refl, sym, ap, subst, ◌∙◌, arith}
use Rattle.std.specs.List.{AllByRecursion}
use Rattle.std.proofs.lemmas.List.{get_or-take}
use Rattle.base_types.specs.declared.calls.GrainId.{GrainId}
use Rattle.base_types.specs.declared.calls.UnitNo.{UnitNo}
use Rattle.base_types.specs.declared.calls.Value.{Value}
use Rattle.base_types.specs.declared.shapes.Shape.{Shape}
use Rattle.host_trait.specs.declared.channels.FileId.{FileId}
use Rattle.host_trait.specs.declared.channels.FileId.TheVariants.{Manager, Program as ProgramFile, Grain}
use Rattle.host_trait.specs.Files.{slot_of}
use Rattle.host_trait.specs.World.{Image}
use Rattle.field_codec.specs.declared.formats.Format.{Format}
use Rattle.gate_block.specs.Log.{HasBlocks}
use Rattle.grain_log.specs.Places.{IsVersionAt}
use Rattle.commit_log.specs.declared.records.Written.{Written}
use Rattle.silo_spec.specs.Silos.{IsFormat, IsSilo, HasProgram}
use Rattle.promise_spec.specs.Programs.{Program, shape_in}
use Rattle.promise_spec.specs.Records.{Commit}
use Rattle.promise_spec.specs.Versions.{WriteStands, WritesStand, IsKept}
use Rattle.promise_spec.specs.Entries.{LogEntry, Recorded, Upgraded, Log}
use Rattle.promise_spec.specs.Blocks.{Saved, saved_by, IsSaved, AreKept, Beginning, Fresh, From, begin_byte, BeginsWhole}
use Rattle.promise_spec.specs.Logs.{StandsUpTo, IsLogIn}
use Rattle.promise_spec.proofs.Slots.{header_silo}

-- ---- what rests on the files of grains alone

module _ (format : Format) (slot : ℕ) (one other : Image) (same : (grain : GrainId) → other (Grain slot grain) ≡ one (Grain slot grain)) where
  write_moves : (shape : Shape) (unit : UnitNo) (w : Written) (state : List Value) → WriteStands format slot shape one unit w state → WriteStands format slot shape other unit w state
  write_moves shape unit w state s = record {
    near = s.near;
    fields = s.fields;
    version = subst (λ (l : List ℕ). IsVersionAt format (length state) w.place l (record { unit = unit; state = state })) (sym (same w.grain)) s.version;
  }

  writes_move : (shape : Shape) (unit : UnitNo) (ws : List Written) (states : List (List Value)) → WritesStand format slot shape one unit ws states → WritesStand format slot shape other unit ws states
  writes_move shape unit [] [] all = tt
  writes_move shape unit [] (s ∷ states) all = absurd all
  writes_move shape unit (w ∷ ws) [] all = absurd all
  writes_move shape unit (w ∷ ws) (s ∷ states) all = (write_moves shape unit w s all.0, writes_move shape unit ws states all.1)

  commit_moves : (shape : Shape) (c : Commit) → IsKept format slot shape one c → IsKept format slot shape other c
  commit_moves shape c is = record { fits = is.fits; whole = writes_move shape c.logged.unit c.logged.writes c.states is.whole }

  kept_moves : (p : Program) (entries : List LogEntry) → AreKept format slot one p entries → AreKept format slot other p entries
  kept_moves p [] all = tt
  kept_moves p (Recorded c ∷ entries) all = (commit_moves (shape_in p) c all.0, kept_moves p entries all.1)
  kept_moves p (Upgraded q ∷ entries) all = (all.0, kept_moves q entries all.1)

  saved_moves : (p : Program) (all_saved : List Saved) → AllByRecursion (IsSaved format slot p one) all_saved → AllByRecursion (IsSaved format slot p other) all_saved
  saved_moves p [] all = tt
  saved_moves p (s ∷ more) all =
      (record { fits = all.0.fits; unit = all.0.unit; stands = write_moves (shape_in p) s.unit s.write s.state all.0.stands }, saved_moves p more all.1)

  begins_moves : (p : Program) (b : Beginning) → BeginsWhole format slot p one b → BeginsWhole format slot p other b
  begins_moves p Fresh whole = tt
  begins_moves p (From ck) whole = record {
    count = whole.count;
    next = whole.next;
    session = whole.session;
    sizes = whole.sizes;
    order = whole.order;
    each = saved_moves p (saved_by ck) whole.each;
  }

-- ---- the log

-- It stands in an image with other bytes in the manager file, where the header is the same and its blocks stand there too.
pub stands_behind : (format : Format) (slot : ℕ) (one other : Image) (log : Log) (bodies : List (List ℕ)) (gate session : ℕ) → StandsUpTo format slot one log bodies gate session
    → ((grain : GrainId) → other (Grain slot grain) ≡ one (Grain slot grain)) → other (ProgramFile slot) ≡ one (ProgramFile slot)
    → take 15 (other (Manager slot)) ≡ take 15 (one (Manager slot)) → HasBlocks bodies gate (other (Manager slot)) → StandsUpTo format slot other log bodies gate session
stands_behind format slot one other log bodies gate session is grains program head there =
    let byte : (i : ℕ) → i < 15 → slice_index (other (Manager slot)) i ≡ slice_index (one (Manager slot)) i =
    λ i low. sym (get_or-take 15 (other (Manager slot)) i 0 low) ∙ ap (λ (l : List ℕ). slice_index l i) head ∙ get_or-take 15 (one (Manager slot)) i 0 low in
    record {
      silo = header_silo (IsFormat format) (other (Manager slot)) (one (Manager slot)) head (omega (arith, there.at, there.within)) is.silo;
      program = is.program;
      checked = is.checked;
      text = subst (HasProgram is.program.text) (sym program) is.text;
      begins = is.begins;
      kind = byte 13 (omega arith) ∙ is.kind;
      zero = byte 14 (omega arith) ∙ is.zero;
      base = is.base;
      whole = begins_moves format slot one other grains is.program is.begins is.whole;
      blocks = is.blocks;
      fit = is.fit;
      never_fall = is.never_fall;
      spelled = is.spelled;
      stand = there;
      entries = is.entries;
      kept = kept_moves format slot one other grains is.program log.entries is.kept;
    }

module _ (format : Format) (slot : ℕ) (one other : Image) (same : (file : FileId) → slot_of file ≡ slot → other file ≡ one file) where
  manager_same : one (Manager slot) ≡ other (Manager slot)
  manager_same = sym (same (Manager slot) refl)

  stands_moves : (log : Log) (bodies : List (List ℕ)) (gate session : ℕ) → StandsUpTo format slot one log bodies gate session → StandsUpTo format slot other log bodies gate session
  stands_moves log bodies gate session is = record {
    silo = subst (IsSilo (IsFormat format)) manager_same is.silo;
    program = is.program;
    checked = is.checked;
    text = subst (HasProgram is.program.text) (sym (same (ProgramFile slot) refl)) is.text;
    begins = is.begins;
    kind = subst (λ (l : List ℕ). slice_index l 13 ≡ begin_byte is.begins) manager_same is.kind;
    zero = subst (λ (l : List ℕ). slice_index l 14 ≡ 0) manager_same is.zero;
    base = is.base;
    whole = begins_moves format slot one other (λ grain. same (Grain slot grain) refl) is.program is.begins is.whole;
    blocks = is.blocks;
    fit = is.fit;
    never_fall = is.never_fall;
    spelled = is.spelled;
    stand = subst (HasBlocks bodies gate) manager_same is.stand;
    entries = is.entries;
    kept = kept_moves format slot one other (λ grain. same (Grain slot grain) refl) is.program log.entries is.kept;
  }

  pub log_moves : (log : Log) → IsLogIn format slot one log → IsLogIn format slot other log
  log_moves log is = record {
    bodies = is.bodies;
    gate = is.gate;
    session = is.session;
    stands = stands_moves log is.bodies is.gate is.session is.stands;
    closed = λ gate_open. is.closed (ap (λ (l : List ℕ). slice_index l is.gate) manager_same ∙ gate_open);
  }
