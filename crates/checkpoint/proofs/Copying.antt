-- Versions that are copied one by one, each into the file of another grain.
use Rattle.std.proofs.Common.{◌≡◌, ◌≢◌, ℕ, ◌+◌, ◌-◌, ◌<◌, ◌≤◌, List, [], ◌∷◌, ◌++◌, map, length, take, set, Some, None, refl, sym, ◌∙◌, ap, subst, arith, append_assoc, append-nil, length-append}
use Rattle.std.specs.Prelude.{Option, drop, slice_get}
use Rattle.std.specs.List.{AllByRecursion, AllZip}
use Rattle.std.proofs.lemmas.List.{take_at, set_at, length-drop, drop-set-lt}
use Rattle.std.proofs.lemmas.List.Elements.{AllZip-push}
use Rattle.base_types.specs.declared.calls.GrainId.{GrainId}
use Rattle.base_types.specs.declared.shapes.Shape.{Shape}
use Rattle.base_types.specs.declared.stores.Version.{Version}
use Rattle.host_trait.specs.declared.channels.FileId.{FileId}
use Rattle.host_trait.specs.declared.channels.FileId.TheVariants.{Grain}
use Rattle.host_trait.specs.Disk.{FileState, overlaid, settled}
use Rattle.host_trait.specs.World.{World, Disk, Image}
use Rattle.field_codec.specs.declared.formats.Format.TheVariants.{Two}
use Rattle.field_codec.specs.Spelling.{spelling_of_version}
use Rattle.grain_log.specs.Places.{spelling_of_versions}
use Rattle.grain_log.specs.Reads.{fields_of, version_by_owner}
use Rattle.commit_log.specs.declared.records.Named.{Named}
use Rattle.commit_log.specs.Orders.{IsAscending}
use Rattle.log_reading.specs.Steps.{seen_in}
use Rattle.log_reading.specs.Versions.{version_by_shape, version_numbered}
use Rattle.script_tree.specs.Programs.{ProgramTree}
use Rattle.program_file.specs.Succession.{shapes_in_turn}
use Rattle.base_types.proofs.GrainOrder.{Before, to_before, irref, chain}
use Rattle.checkpoint.specs.Steps.{OnlyCopies}
use Rattle.checkpoint.specs.Copies.{StandsFirst, IsMeantVersion, IsCopied}
use Rattle.checkpoint.proofs.GrainFiles.{live_stays}

-- ---- grains in ascending order

behind : (last : GrainId) (front : List Named) (n : Named) (rest : List Named) → IsAscending (Some last) (map (λ m. m.written) (front ++ n ∷ rest)) → Before last n.written.grain
behind last [] n rest up = to_before last n.written.grain up.0
behind last (m ∷ front) n rest up = chain last m.written.grain n.written.grain (to_before last m.written.grain up.0) (behind m.written.grain front n rest up.1)

-- none of those before one is of its grain
pub apart_grains : (last : Option GrainId) (front : List Named) (n : Named) (rest : List Named) → IsAscending last (map (λ m. m.written) (front ++ n ∷ rest))
    → AllByRecursion (λ (m : Named). m.written.grain ≢ n.written.grain) front
apart_grains last [] n rest up = tt
apart_grains last (m ∷ front) n rest up =
    ((λ same. irref m.written.grain n.written.grain same (behind m.written.grain front n rest up.1)), apart_grains (Some m.written.grain) front n rest up.1)

-- ---- copies that stand

copy_stays : (live : ℕ) (programs : List ProgramTree) (seen : Image) (old new : Disk) (m copy : Named) → new (Grain (1 - live) m.written.grain) ≡ old (Grain (1 - live) m.written.grain) → IsCopied live programs seen old m copy → IsCopied live programs seen new m copy
copy_stays live programs seen old new m copy same is = record {
  copied = is.copied;
  carried = is.carried;
  typed = is.typed;
  fits = is.fits;
  named = is.named;
  stands = subst (StandsFirst is.copied) (sym same) is.stands;
}

pub copies_stay : (live : ℕ) (programs : List ProgramTree) (seen : Image) (old new : Disk) (front copies : List Named) (grain : GrainId) → AllByRecursion (λ (m : Named). m.written.grain ≢ grain) front
    → ((file : FileId) → file ≢ Grain (1 - live) grain → new file ≡ old file) → AllZip (IsCopied live programs seen old) front copies → AllZip (IsCopied live programs seen new) front copies
copies_stay live programs seen old new [] [] grain apart others all = tt
copies_stay live programs seen old new [] (copy ∷ copies) grain apart others all = absurd all
copies_stay live programs seen old new (m ∷ front) [] grain apart others all = absurd all
copies_stay live programs seen old new (m ∷ front) (copy ∷ copies) grain apart others all =
    (copy_stays live programs seen old new m copy (others (Grain (1 - live) m.written.grain) (λ same. apart.0 (grain_same same))) all.0, copies_stay live programs seen old new front copies grain apart.1 others all.1)
  where
    grain_same : {s : ℕ} {a b : GrainId} → Grain s a ≡ Grain s b → a ≡ b
    grain_same {s} {a} {b} same = ap grain_in same
      where
        grain_in : FileId → GrainId
        grain_in (Grain slot grain) = grain
        grain_in other = a

-- a first part of them is copied, in whose place the copies are named, and the rest is named as before
pub record AreCopied (live : ℕ) (programs : List ProgramTree) (seen : Image) (disk : Disk) (all now rest : List Named) : Type 0 where
  pub front : List Named
  pub copies : List Named
  pub split : all ≡ front ++ rest
  pub made : now ≡ copies ++ rest
  pub each : AllZip (IsCopied live programs seen disk) front copies

pub first_copies : (live : ℕ) (programs : List ProgramTree) (seen : Image) (disk : Disk) (all : List Named) → AreCopied live programs seen disk all all all
first_copies live programs seen disk all = record { front = []; copies = []; split = refl; made = refl; each = tt }

pub more_copies : (live : ℕ) (programs : List ProgramTree) (seen : Image) (old new : Disk) (all now : List Named) (i : ℕ) (n copy : Named) → IsAscending None (map (λ m. m.written) all)
    → ((file : FileId) → file ≢ Grain (1 - live) n.written.grain → new file ≡ old file) → i < length now → drop i now ≡ n ∷ drop (i + 1) now
    → AreCopied live programs seen old all now (drop i now) → IsCopied live programs seen new n copy → AreCopied live programs seen new all (set now i copy) (drop (i + 1) (set now i copy))
more_copies live programs seen old new all now i n copy up others within next so_far one =
    let rest : List Named = drop (i + 1) now in
    let split : all ≡ so_far.front ++ n ∷ rest = so_far.split ∙ ap (λ (l : List Named). so_far.front ++ l) next in
    let made : now ≡ so_far.copies ++ n ∷ rest = so_far.made ∙ ap (λ (l : List Named). so_far.copies ++ l) next in
    let total : length now ≡ length so_far.copies + length (drop i now) = ap (λ (l : List Named). length l) so_far.made ∙ length-append so_far.copies (drop i now) in
    let size : length so_far.copies ≡ i = omega (arith, total, length-drop i now, within) in
    let later : set now i copy ≡ so_far.copies ++ copy ∷ rest = ap (λ (l : List Named). set l i copy) made ∙ set_at so_far.copies n rest copy i size in
    let same : drop (i + 1) (set now i copy) ≡ rest = drop-set-lt (i + 1) now i copy (omega arith) in
    let apart = apart_grains None so_far.front n rest (subst (λ (l : List Named). IsAscending None (map (λ m. m.written) l)) split up) in
    record {
      front = so_far.front ++ n ∷ [];
      copies = so_far.copies ++ copy ∷ [];
      split = split ∙ sym (append_assoc so_far.front (n ∷ []) rest) ∙ ap (λ (l : List Named). (so_far.front ++ n ∷ []) ++ l) (sym same);
      made = later ∙ sym (append_assoc so_far.copies (copy ∷ []) rest) ∙ ap (λ (l : List Named). (so_far.copies ++ copy ∷ []) ++ l) (sym same);
      each = AllZip-push (IsCopied live programs seen new) so_far.front so_far.copies n copy (copies_stay live programs seen old new so_far.front so_far.copies n.written.grain apart others so_far.each) one;
    }

pub all_copies : (live : ℕ) (programs : List ProgramTree) (seen : Image) (disk : Disk) (all now rest : List Named) → rest ≡ [] → AreCopied live programs seen disk all now rest → AllZip (IsCopied live programs seen disk) all now
all_copies live programs seen disk all now rest none so_far =
    let split : all ≡ so_far.front = so_far.split ∙ ap (λ (l : List Named). so_far.front ++ l) none ∙ append-nil so_far.front in
    let made : now ≡ so_far.copies = so_far.made ∙ ap (λ (l : List Named). so_far.copies ++ l) none ∙ append-nil so_far.copies in
    subst (λ (l : List Named). AllZip (IsCopied live programs seen disk) l now) (sym split) (subst (λ (l : List Named). AllZip (IsCopied live programs seen disk) so_far.front l) (sym made) so_far.each)

-- ---- one copy

-- a version that stands at the start of a file of its own bytes and what was behind
pub first_stands : (version : Version) (old new : FileState) → new ≡ settled (overlaid old.seen 0 (spelling_of_versions (version ∷ []))) → StandsFirst version new
first_stands version old new done =
    let text : List ℕ = spelling_of_version version in
    let one : spelling_of_versions (version ∷ []) ≡ text = append-nil text in
    let file : new.seen ≡ overlaid old.seen 0 text = ap (λ (s : FileState). s.seen) done ∙ ap (λ (t : List ℕ). overlaid old.seen 0 t) one in
    record {
      lasts = done ∙ ap (λ (s : FileState). settled s.seen) (sym done);
      there = ap (λ (l : List ℕ). take (length text) l) file ∙ take_at text (drop (0 + length text) old.seen) (length text) refl;
    }

-- what is named in files that are as they were
pub numbered_same : (live : ℕ) (shapes : List Shape) (old new : Image) (n : Named) → new (Grain live n.written.grain) ≡ old (Grain live n.written.grain)
    → version_numbered live Two shapes new n ≡ version_numbered live Two shapes old n
numbered_same live shapes old new n same = by (slice_get shapes n.program)
  where
    by : (o : Option Shape) → version_by_shape live Two o new n ≡ version_by_shape live Two o old n
    by None = refl
    by (Some shape) = ap (λ (f : List ℕ). version_by_owner Two (fields_of (slice_get shape.types n.written.grain.kind)) n.unit n.written.place f) same

-- the live slot's files are as they were, and so is what is named in them
pub named_stays : (live : ℕ) (shapes : List Shape) (old new : World) (n : Named) → live ≤ 1 → OnlyCopies (1 - live) old new
    → version_numbered live Two shapes (seen_in new.disk) n ≡ version_numbered live Two shapes (seen_in old.disk) n
named_stays live shapes old new n low only =
    numbered_same live shapes (seen_in old.disk) (seen_in new.disk) n (ap (λ (s : FileState). s.seen) (live_stays live old new low only n.written.grain))

-- a version that is carried from files that are as they were
pub carried_same : (live : ℕ) (programs : List ProgramTree) (old new : Image) (n : Named) (v : Version) → version_numbered live Two (shapes_in_turn programs) new n ≡ version_numbered live Two (shapes_in_turn programs) old n
    → IsMeantVersion live programs new n v → IsMeantVersion live programs old n v
carried_same live programs old new n v same is = record { version = is.version; found = sym same ∙ is.found; meant = is.meant }

-- a copy of a version that was named before copies
pub copied_before : (live : ℕ) (programs : List ProgramTree) (old mid : World) (disk : Disk) (n copy : Named) → live ≤ 1 → OnlyCopies (1 - live) old mid
    → IsCopied live programs (seen_in mid.disk) disk n copy → IsCopied live programs (seen_in old.disk) disk n copy
copied_before live programs old mid disk n copy low only is = record {
  copied = is.copied;
  carried = carried_same live programs (seen_in old.disk) (seen_in mid.disk) n is.copied (named_stays live (shapes_in_turn programs) old mid n low only) is.carried;
  typed = is.typed;
  fits = is.fits;
  named = is.named;
  stands = is.stands;
}

-- each of them is there, and so the next one is
pub next_there : (P : Named → Type 0) (all front : List Named) (n : Named) (rest : List Named) → all ≡ front ++ n ∷ rest → AllByRecursion P all → P n
next_there P all front n rest split each = go front (subst (AllByRecursion P) split each)
  where
    go : (front : List Named) → AllByRecursion P (front ++ n ∷ rest) → P n
    go [] each = each.0
    go (m ∷ front) each = go front each.1
