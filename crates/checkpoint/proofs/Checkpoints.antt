-- What stands in the other slot once it is filled is a checkpoint of the log.
use Rattle.std.proofs.Common.{◌≡◌, ℕ, zero, suc, ◌+◌, ◌-◌, ◌<◌, ◌≤◌, ◌^◌, Bool, List, [], ◌∷◌, ◌++◌, map, length, take, drop, Some, Ok, refl, sym, ◌∙◌, ap, subst, arith, append_assoc}
use Rattle.std.specs.Prelude.{Option, ◌||◌, slice_get}
use Rattle.std.specs.List.{flat_map, list_any, AllByRecursion, AllZip}
use Rattle.std.specs.Int.{w32, to_le_bytes}
use Rattle.std.proofs.lemmas.List.{length-map}
use Rattle.base_types.specs.declared.calls.GrainId.{GrainId}
use Rattle.base_types.specs.declared.calls.UnitNo.{UnitNo}
use Rattle.base_types.specs.declared.calls.Value.{Value}
use Rattle.base_types.specs.declared.stores.Version.{Version}
use Rattle.base_types.specs.Grains.{same_grain}
use Rattle.host_trait.specs.declared.channels.FileId.TheVariants.{Grain}
use Rattle.host_trait.specs.Disk.{MayLeave, overlaid}
use Rattle.host_trait.specs.World.{Disk, Image}
use Rattle.host_trait.proofs.Runs.{settled_image}
use Rattle.field_codec.specs.declared.formats.Format.TheVariants.{Two}
use Rattle.field_codec.specs.Formats.{magic_of}
use Rattle.field_codec.specs.Spelling.{spelling_of_version}
use Rattle.gate_block.specs.Log.{open_blocks, AreSmall}
use Rattle.commit_log.specs.declared.records.CheckpointHead.{CheckpointHead}
use Rattle.commit_log.specs.declared.records.Named.{Named}
use Rattle.commit_log.specs.declared.records.Written.{Written}
use Rattle.commit_log.specs.Orders.{IsAscending}
use Rattle.commit_log.specs.Spelling.{WriteFits}
use Rattle.commit_log.proofs.CheckpointPieces.{piece_length}
use Rattle.promise_spec.specs.Programs.{Program}
use Rattle.promise_spec.specs.Entries.{Log, is_among, standing_of}
use Rattle.promise_spec.specs.Blocks.{Saved, pieces_of, IsSaved}
use Rattle.script_tree.specs.Programs.{ProgramTree}
use Rattle.script_check.specs.Shapes.{value_of, type_shapes}
use Rattle.script_check.specs.Carrying.{fields_of_kind}
use Rattle.program_file.specs.Succession.{newest_program, carried_from}
use Rattle.program_file.specs.ProgramsInTurn.{HasItsFields}
use Rattle.grain_log.specs.Reads.{fields_of}
use Rattle.checkpoint.specs.Copies.{name_of_copy, writes_named, IsCopied}
use Rattle.checkpoint.specs.ManagerBytes.{behind_gate}
use Rattle.checkpoint.specs.Pieces.{spelled_with, front_bodies, piece_bodies}
use Rattle.checkpoint.specs.NextGeneration.{IsLastVersionOf}

-- ---- the manager file's bytes

-- with the header gate open they are those of a written log
pub opened_bytes : (g begins : ℕ) (bodies : List (List ℕ)) (f : List ℕ) → 0 < length f
    → (rest : List ℕ) × (1 ∷ drop 1 (overlaid f 1 (behind_gate g begins ++ (open_blocks bodies ++ 0 ∷ []))) ≡ 1 ∷ (magic_of Two ++ (to_le_bytes w32 g ++ (begins ∷ 0 ∷ (open_blocks bodies ++ 0 ∷ rest)))))
opened_bytes g begins bodies [] some = absurd (omega (arith, some))
opened_bytes g begins bodies (x ∷ f) some =
    let blocks : List ℕ = open_blocks bodies in
    let header : List ℕ = behind_gate g begins in
    let rest : List ℕ = drop (1 + length (header ++ (blocks ++ 0 ∷ []))) (x ∷ f) in
    let parts : (header ++ (blocks ++ 0 ∷ [])) ++ rest ≡ header ++ (blocks ++ (0 ∷ rest)) =
    append_assoc header (blocks ++ 0 ∷ []) rest ∙ ap (λ (l : List ℕ). header ++ l) (append_assoc blocks (0 ∷ []) rest) in
    let spread : header ++ (blocks ++ (0 ∷ rest)) ≡ magic_of Two ++ (to_le_bytes w32 g ++ (begins ∷ 0 ∷ (blocks ++ (0 ∷ rest)))) =
    append_assoc (magic_of Two) (to_le_bytes w32 g ++ (begins ∷ 0 ∷ [])) (blocks ++ (0 ∷ rest)) ∙ ap (λ (l : List ℕ). magic_of Two ++ l) (append_assoc (to_le_bytes w32 g) (begins ∷ 0 ∷ []) (blocks ++ (0 ∷ rest))) in
    (rest, ap (λ (l : List ℕ). 1 ∷ l) (parts ∙ spread))

-- ---- what was cut

-- saved versions by the pieces that their writes are cut into
pub record AreSavedIn (saved : List Saved) (front : List (List Written)) (last : List Written) : Type 0 where
  pub before : List (List Saved)
  pub behind : List Saved
  pub all : flat_map (λ piece. piece) before ++ behind ≡ saved
  pub fronts : map (λ (piece : List Saved). map (λ s. s.write) piece) before ≡ front
  pub lasts : map (λ s. s.write) behind ≡ last

writes_of : List Saved → List Written
writes_of saved = map (λ s. s.write) saved

cut_one : (piece : List Written) (more : List Written) (saved : List Saved) → map (λ s. s.write) saved ≡ piece ++ more
    → (first : List Saved) × (rest : List Saved) × (first ++ rest ≡ saved) × (map (λ s. s.write) first ≡ piece) × (map (λ s. s.write) rest ≡ more)
cut_one [] more saved e = ([], saved, refl, refl, e)
cut_one (w ∷ piece) more [] e = absurd cc
cut_one (w ∷ piece) more (s ∷ saved) e =
    let head : s.write ≡ w = cc e in
    let tail : map (λ s. s.write) saved ≡ piece ++ more = cc e in
    let t = cut_one piece more saved tail in
    (s ∷ t.0, t.1, ap (λ (l : List Saved). s ∷ l) t.2, (λ i. head i ∷ t.3 i), t.4)

pub cut_saved : (front : List (List Written)) (last : List Written) (saved : List Saved) → map (λ s. s.write) saved ≡ flat_map (λ piece. piece) front ++ last → AreSavedIn saved front last
cut_saved [] last saved e = record { before = []; behind = saved; all = refl; fronts = refl; lasts = e }
cut_saved (piece ∷ front) last saved e =
    let t = cut_one piece (flat_map (λ piece. piece) front ++ last) saved (e ∙ append_assoc piece (flat_map (λ piece. piece) front) last) in
    let more = cut_saved front last t.1 t.4 in
    record {
      before = t.0 ∷ more.before;
      behind = more.behind;
      all = append_assoc t.0 (flat_map (λ piece. piece) more.before) more.behind ∙ ap (λ (l : List Saved). t.0 ++ l) more.all ∙ t.2;
      fronts = λ i. t.3 i ∷ more.fronts i;
      lasts = more.lasts;
    }

-- the bodies of the pieces are those that were written
pub same_bodies : (head : CheckpointHead) (saved : List Saved) (front : List (List Written)) (last : List Written) (are : AreSavedIn saved front last)
    → pieces_of Two (record { count = head.count; next = head.next_unit.0; session = head.session; front = are.before; last = are.behind }) ≡ piece_bodies head front last
same_bodies head saved front last are =
    let spelled : List (List Written) → List (List ℕ) = λ pieces. map (spelled_with head 1) pieces in
    let fronts : map (λ (piece : List Saved). spelled_with head 1 (map (λ s. s.write) piece)) are.before ≡ spelled front =
    map_twice (spelled_with head 1) are.before ∙ ap spelled are.fronts in
    λ i. fronts i ++ spelled_with head 0 (are.lasts i) ∷ []
  where
    map_twice : (f : List Written → List ℕ) (pieces : List (List Saved)) → map (λ (piece : List Saved). f (map (λ s. s.write) piece)) pieces ≡ map f (map (λ (piece : List Saved). map (λ s. s.write) piece) pieces)
    map_twice f [] = refl
    map_twice f (piece ∷ pieces) = ap (λ (l : List (List ℕ)). f (map (λ s. s.write) piece) ∷ l) (map_twice f pieces)

-- ---- the copies as saved versions

-- copies go by the same grains
pub ascending_copies : (live : ℕ) (programs : List ProgramTree) (seen : Image) (disk : Disk) (last : Option GrainId) (latest copies : List Named) → AllZip (IsCopied live programs seen disk) latest copies
    → IsAscending last (map (λ n. n.written) latest) → IsAscending last (writes_named copies)
ascending_copies live programs seen disk last [] [] copied up = tt
ascending_copies live programs seen disk last [] (copy ∷ copies) copied up = absurd copied
ascending_copies live programs seen disk last (n ∷ latest) [] copied up = absurd copied
ascending_copies live programs seen disk last (n ∷ latest) (copy ∷ copies) copied up =
    let same : copy.written.grain ≡ n.written.grain = ap (λ (m : Named). m.written.grain) copied.0.named in
    subst (λ (g : GrainId). IsAscending last (record { grain = g; place = copy.written.place } ∷ writes_named copies)) (sym same)
    (up.0, ascending_copies live programs seen disk (Some n.written.grain) latest copies copied.1 up.1)

-- a state with its type's fields has as many as the shape says
fields_said : (types : ProgramTree) (kind count : ℕ) → kind < length types → count ≡ length (fields_of_kind types kind) → fields_of (slice_get (type_shapes types) kind) ≡ Some count
fields_said [] kind count low is = absurd (omega (arith, low))
fields_said (x ∷ types) zero count low is = ap (λ (n : ℕ). Some n) (length-map x.fields (λ f. value_of f.initial) ∙ sym is)
fields_said (x ∷ types) (suc kind) count low is = fields_said types kind count (omega (arith, low)) is

module _ (live : ℕ) (programs : List ProgramTree) (p : Program) (newest : newest_program programs ≡ p.types) (seen : Image) (disk : Disk) (image : Image)
    (is : (grain : GrainId) → MayLeave (disk (Grain (1 - live) grain)) (image (Grain (1 - live) grain))) (log : Log) where
  -- saved versions of these names
  pub record AreSavedOf (latest copies : List Named) : Type 0 where
    pub saved : List Saved
    pub writes : map (λ s. s.write) saved ≡ writes_named copies
    pub each : AllByRecursion (IsSaved Two (1 - live) p image) saved
    pub states : AllByRecursion (λ (w : GrainId × List Value). w.1 ≡ (standing_of log).states w.0) (map (λ s. (s.write.grain, s.state)) saved)
    pub held : (grain : GrainId) → is_among (map (λ s. (s.write.grain, s.state)) saved) grain ≡ list_any (λ (n : Named). same_grain n.written.grain grain) latest

  -- the saved version of a copy
  abbrev pub saved_at : (n copy : Named) → IsCopied live programs seen disk n copy → Saved
  saved_at n copy c = record { unit = c.copied.unit; write = (name_of_copy n.written.grain (length (spelling_of_version c.copied))).written; state = c.copied.state }

  one_version : (n copy : Named) → (l : IsLastVersionOf live programs seen log n) → (c : IsCopied live programs seen disk n copy) → c.carried.version ≡ l.version
  one_version n copy l c = let both : Ok c.carried.version ≡ Ok l.version = sym c.carried.found ∙ l.there in cc both

  -- its state is what the version that is named means
  state_of_copy : (n copy : Named) → (l : IsLastVersionOf live programs seen log n) → (c : IsCopied live programs seen disk n copy) → c.copied.state ≡ (standing_of log).states n.written.grain
  state_of_copy n copy l c = ap (λ (v : Version). v.state) c.carried.meant ∙ ap (λ (v : Version). carried_from programs n.program n.written.grain.kind v.state) (one_version n copy l c) ∙ l.state

  unit_of_copy : (n copy : Named) → (l : IsLastVersionOf live programs seen log n) → (c : IsCopied live programs seen disk n copy) → c.copied.unit ≡ l.version.unit
  unit_of_copy n copy l c = ap (λ (v : Version). v.unit) c.carried.meant ∙ ap (λ (v : Version). v.unit) (one_version n copy l c)

  one_saved : (n copy : Named) → (l : IsLastVersionOf live programs seen log n) → (c : IsCopied live programs seen disk n copy) → WriteFits copy.written → IsSaved Two (1 - live) p image (saved_at n copy c)
  one_saved n copy l c fits =
      let file : image (Grain (1 - live) n.written.grain) ≡ (disk (Grain (1 - live) n.written.grain)).seen =
      settled_image disk (Grain (1 - live) n.written.grain) (disk (Grain (1 - live) n.written.grain)).seen (image (Grain (1 - live) n.written.grain)) c.stands.lasts (is n.written.grain) in
      let typed : HasItsFields p.types n.written.grain c.copied.state = subst (λ (t : ProgramTree). HasItsFields t n.written.grain c.copied.state) newest c.typed in
      record {
        fits = subst WriteFits (ap (λ (m : Named). m.written) c.named) fits;
        unit = subst (λ (u : UnitNo). (0 < u.0) × (u.0 < 2 ^ 63)) (sym (unit_of_copy n copy l c)) l.unit;
        stands = record {
          near = omega arith;
          fields = fields_said p.types n.written.grain.kind (length c.copied.state) typed.kind typed.fields;
          version = record {
            version_is = record { fits = c.fits; count = refl; len = refl };
            here = ap (λ (f : List ℕ). take (length (spelling_of_version c.copied)) f) file ∙ c.stands.there;
          };
        };
      }

  pub saved_of : (latest copies : List Named) → AllByRecursion (IsLastVersionOf live programs seen log) latest → AllZip (IsCopied live programs seen disk) latest copies → AllByRecursion WriteFits (writes_named copies)
      → AreSavedOf latest copies
  saved_of [] [] last copied fits = record { saved = []; writes = refl; each = tt; states = tt; held = λ grain. refl }
  saved_of [] (copy ∷ copies) last copied fits = absurd copied
  saved_of (n ∷ latest) [] last copied fits = absurd copied
  saved_of (n ∷ latest) (copy ∷ copies) last copied fits =
      let more = saved_of latest copies last.1 copied.1 fits.1 in
      let l = last.0 in
      let c = copied.0 in
      record {
        saved = saved_at n copy c ∷ more.saved;
        writes = λ i. (sym c.named i).written ∷ more.writes i;
        each = (one_saved n copy l c fits.0, more.each);
        states = (state_of_copy n copy l c, more.states);
        held = λ grain. ap (λ (b : Bool). same_grain n.written.grain grain || b) (more.held grain);
      }

-- ---- sizes

small_pieces : (head : CheckpointHead) (flag : ℕ) (pieces : List (List Written)) → AllByRecursion (λ (piece : List Written). length piece ≤ 65536) pieces → AreSmall (map (spelled_with head flag) pieces)
small_pieces head flag [] sizes = tt
small_pieces head flag (piece ∷ pieces) sizes = (omega (arith, piece_length Two flag head.count head.next_unit.0 head.session piece, sizes.0), small_pieces head flag pieces sizes.1)

small_both : (a b : List (List ℕ)) → AreSmall a → AreSmall b → AreSmall (a ++ b)
small_both [] b first second = second
small_both (x ∷ a) b first second = (first.0, small_both a b first.1 second)

pub are_small : (head : CheckpointHead) (front : List (List Written)) (last : List Written) → AllByRecursion (λ (piece : List Written). length piece ≤ 65536) front → length last ≤ 65536 → AreSmall (piece_bodies head front last)
are_small head front last sizes size =
    small_both (front_bodies head front) (spelled_with head 0 last ∷ []) (small_pieces head 1 front sizes)
    (omega (arith, piece_length Two 0 head.count head.next_unit.0 head.session last, size), tt)

-- saved pieces are as long as their writes
pub sizes_saved : (before : List (List Saved)) (behind : List Saved) → AllByRecursion (λ (piece : List Written). length piece ≤ 65536) (map (λ (piece : List Saved). map (λ s. s.write) piece) before)
    → length (map (λ (s : Saved). s.write) behind) ≤ 65536 → AllByRecursion (λ (piece : List Saved). length piece ≤ 65536) (before ++ behind ∷ [])
sizes_saved [] behind sizes size = (omega (arith, size, length-map behind (λ (s : Saved). s.write)), tt)
sizes_saved (piece ∷ before) behind sizes size = (omega (arith, sizes.0, length-map piece (λ (s : Saved). s.write)), sizes_saved before behind sizes.1 size)
