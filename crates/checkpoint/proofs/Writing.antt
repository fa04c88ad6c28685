-- The checkpoint's pieces, written one behind the other.
use Rattle.std.proofs.Common.{◌≡◌, ℕ, ◌+◌, ◌≤◌, List, [], ◌∷◌, ◌++◌, map, length, refl, sym, ◌∙◌, ap, subst, arith, append_assoc, length-append, append-nil}
use Rattle.std.specs.Prelude.{Bool, IsTrue}
use Rattle.std.specs.List.{flat_map, AllByRecursion}
use Rattle.std.proofs.lemmas.List.{length-map}
use Rattle.host_trait.specs.declared.channels.FileId.TheVariants.{Manager}
use Rattle.host_trait.specs.Disk.{overlaid, settled}
use Rattle.host_trait.specs.World.{World}
use Rattle.host_trait.specs.Runs.{RunsOnFile}
use Rattle.gate_block.specs.Blocks.{block_at}
use Rattle.gate_block.specs.Log.{open_blocks}
use Rattle.commit_log.specs.declared.records.CheckpointHead.{CheckpointHead}
use Rattle.commit_log.specs.declared.records.Named.{Named}
use Rattle.commit_log.specs.declared.records.Written.{Written as Write}
use Rattle.commit_log.specs.Spelling.{WriteFits}
use Rattle.checkpoint.specs.Steps.{KeepsGate}
use Rattle.checkpoint.specs.Copies.{writes_named}
use Rattle.checkpoint.specs.ManagerBytes.{behind_gate, HasWritten}
use Rattle.checkpoint.specs.Pieces.{spelled_with, front_bodies, piece_bodies, HasFront, HasPieces}
use Rattle.checkpoint.proofs.ManagerBytes.{none_written, written_twice, more_blocks}

-- ---- pieces

map-both : {A B : Type 0} (f : A → B) (xs ys : List A) → map f (xs ++ ys) ≡ map f xs ++ map f ys
map-both f [] ys = refl
map-both f (x ∷ xs) ys = ap (λ (l : List _). f x ∷ l) (map-both f xs ys)

flat_more : (front : List (List Write)) (piece : List Write) → flat_map (λ p. p) (front ++ piece ∷ []) ≡ flat_map (λ p. p) front ++ piece
flat_more [] piece = append-nil piece
flat_more (p ∷ front) piece = ap (λ (l : List Write). p ++ l) (flat_more front piece) ∙ sym (append_assoc p (flat_map (λ p. p) front) piece)

all_more : {A : Type 0} (P : A → Type 0) (xs : List A) (x : A) → AllByRecursion P xs → P x → AllByRecursion P (xs ++ x ∷ [])
all_more P [] x all one = (one, tt)
all_more P (y ∷ xs) x all one = (all.0, all_more P xs x all.1 one)

all_both : {A : Type 0} (P : A → Type 0) (xs ys : List A) → AllByRecursion P xs → AllByRecursion P ys → AllByRecursion P (xs ++ ys)
all_both P [] ys first second = second
all_both P (x ∷ xs) ys first second = (first.0, all_both P xs ys first.1 second)

-- no piece yet
pub first_front : (tells : Bool) (slot at : ℕ) (head : CheckpointHead) (copies : List Named) (w : World) → (IsTrue tells → RunsOnFile (Manager slot) KeepsGate 0 w w)
    → HasFront tells slot at head copies copies at w w
first_front tells slot at head copies w run = record {
  front = [];
  all = refl;
  sizes = tt;
  fits = tt;
  ends = omega arith;
  written = λ told. none_written slot at w (run told);
}

-- one piece more
pub more_front : (tells : Bool) (slot at end later : ℕ) (head : CheckpointHead) (copies rest piece behind : List Named) (old mid new : World)
    → HasFront tells slot at head copies rest end old mid → rest ≡ piece ++ behind → length piece ≤ 65536 → AllByRecursion WriteFits (writes_named piece)
    → later ≡ end + length (block_at (spelled_with head 1 (writes_named piece)))
    → (IsTrue tells → at ≤ length (old.disk (Manager slot)).seen)
    → (IsTrue tells → HasWritten slot end (block_at (spelled_with head 1 (writes_named piece))) mid new)
    → HasFront tells slot at head copies behind later old new
more_front tells slot at end later head copies rest piece behind old mid new so_far split size fits grows within written =
    let one : List Write = writes_named piece in
    let body : List ℕ = spelled_with head 1 one in
    let bodies : List (List ℕ) = front_bodies head so_far.front in
    let all_bodies : front_bodies head (so_far.front ++ one ∷ []) ≡ bodies ++ body ∷ [] = map-both (spelled_with head 1) so_far.front (one ∷ []) in
    let blocks : open_blocks (front_bodies head (so_far.front ++ one ∷ [])) ≡ open_blocks bodies ++ block_at body = ap open_blocks all_bodies ∙ more_blocks bodies body in
    let size_of : length (open_blocks (front_bodies head (so_far.front ++ one ∷ []))) ≡ length (open_blocks bodies) + length (block_at body) = ap (λ (l : List ℕ). length l) blocks ∙ length-append (open_blocks bodies) (block_at body) in
    record {
      front = so_far.front ++ one ∷ [];
      all = so_far.all ∙ ap (λ (l : List Named). flat_map (λ p. p) so_far.front ++ writes_named l) split ∙ ap (λ (l : List Write). flat_map (λ p. p) so_far.front ++ l) (map-both (λ (n : Named). n.written) piece behind)
          ∙ sym (append_assoc (flat_map (λ p. p) so_far.front) one (writes_named behind)) ∙ ap (λ (l : List Write). l ++ writes_named behind) (sym (flat_more so_far.front one));
      sizes = all_more (λ (p : List Write). length p ≤ 65536) so_far.front one so_far.sizes (omega (arith, size, length-map piece (λ (n : Named). n.written)));
      fits = subst (AllByRecursion WriteFits) (sym (flat_more so_far.front one)) (all_both WriteFits (flat_map (λ p. p) so_far.front) one so_far.fits fits);
      ends = omega (arith, grows, so_far.ends, size_of);
      written = λ told. subst (λ (l : List ℕ). HasWritten slot at l old new) (sym blocks)
          (written_twice slot at (open_blocks bodies) (block_at body) old mid new (within told) (so_far.written told)
          (subst (λ (k : ℕ). HasWritten slot k (block_at body) mid new) so_far.ends (written told)));
    }

-- the whole file, once it is synced
pub whole_pieces : (slot generation : ℕ) (head : CheckpointHead) (copies rest : List Named) (at_entry begun cut named closed new : World)
    → 1 ≤ length (at_entry.disk (Manager slot)).seen
    → HasWritten slot 1 (behind_gate generation 1) at_entry begun
    → (front : List (List Write)) → writes_named copies ≡ flat_map (λ p. p) front ++ writes_named rest → AllByRecursion (λ (p : List Write). length p ≤ 65536) front
    → AllByRecursion WriteFits (flat_map (λ p. p) front) → length rest ≤ 65536 → AllByRecursion WriteFits (writes_named rest)
    → HasWritten slot 15 (open_blocks (front_bodies head front)) begun cut
    → HasWritten slot (15 + length (open_blocks (front_bodies head front))) (block_at (spelled_with head 0 (writes_named rest))) cut named
    → HasWritten slot (15 + length (open_blocks (front_bodies head front)) + length (block_at (spelled_with head 0 (writes_named rest)))) (0 ∷ []) named closed
    → new.disk (Manager slot) ≡ settled (closed.disk (Manager slot)).seen
    → HasPieces generation head (writes_named copies) (at_entry.disk (Manager slot)) (new.disk (Manager slot))
whole_pieces slot generation head copies rest at_entry begun cut named closed new some header front all sizes fits size lasts first second third synced =
    let last : List Write = writes_named rest in
    let blocks : List ℕ = open_blocks (front_bodies head front) in
    let block : List ℕ = block_at (spelled_with head 0 last) in
    let header_size : 1 + length (behind_gate generation 1) ≡ 15 = behind_size generation in
    let a : HasWritten slot 1 (behind_gate generation 1 ++ blocks) at_entry cut =
    written_twice slot 1 (behind_gate generation 1) blocks at_entry begun cut some header (subst (λ (k : ℕ). HasWritten slot k blocks begun cut) (sym header_size) first) in
    let a_size : 1 + length (behind_gate generation 1 ++ blocks) ≡ 15 + length blocks = omega (arith, header_size, length-append (behind_gate generation 1) blocks) in
    let b : HasWritten slot 1 ((behind_gate generation 1 ++ blocks) ++ block) at_entry named =
    written_twice slot 1 (behind_gate generation 1 ++ blocks) block at_entry cut named some a (subst (λ (k : ℕ). HasWritten slot k block cut named) (sym a_size) second) in
    let b_size : 1 + length ((behind_gate generation 1 ++ blocks) ++ block) ≡ 15 + length blocks + length block = omega (arith, a_size, length-append (behind_gate generation 1 ++ blocks) block) in
    let c : HasWritten slot 1 (((behind_gate generation 1 ++ blocks) ++ block) ++ 0 ∷ []) at_entry closed =
    written_twice slot 1 ((behind_gate generation 1 ++ blocks) ++ block) (0 ∷ []) at_entry named closed some b (subst (λ (k : ℕ). HasWritten slot k (0 ∷ []) named closed) (sym b_size) third) in
    let joined : open_blocks (piece_bodies head front last) ≡ blocks ++ block = more_blocks (front_bodies head front) (spelled_with head 0 last) in
    let bytes : ((behind_gate generation 1 ++ blocks) ++ block) ++ 0 ∷ [] ≡ behind_gate generation 1 ++ (open_blocks (piece_bodies head front last) ++ 0 ∷ []) =
    ap (λ (l : List ℕ). l ++ 0 ∷ []) (append_assoc (behind_gate generation 1) blocks block) ∙ append_assoc (behind_gate generation 1) (blocks ++ block) (0 ∷ [])
    ∙ ap (λ (l : List ℕ). behind_gate generation 1 ++ (l ++ 0 ∷ [])) (sym joined) in
    record {
      front = front;
      last = last;
      cut = record {
        all = all;
        sizes = sizes;
        size = omega (arith, size, length-map rest (λ (n : Named). n.written));
        fits = subst (AllByRecursion WriteFits) (sym all) (all_both WriteFits (flat_map (λ p. p) front) last fits lasts);
      };
      file = synced ∙ ap (λ (l : List ℕ). settled l) (c.seen ∙ ap (λ (l : List ℕ). overlaid (at_entry.disk (Manager slot)).seen 1 l) bytes);
    }
  where
    behind_size : (g : ℕ) → 1 + length (behind_gate g 1) ≡ 15
    behind_size g = refl
