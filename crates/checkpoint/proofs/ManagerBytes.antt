-- Bytes that are written to a manager file one behind the other.
use Rattle.std.proofs.Common.{◌≡◌, ℕ, ◌+◌, ◌≤◌, List, [], ◌∷◌, ◌++◌, length, take, drop, sym, ◌∙◌, ap, subst, arith, append_assoc, length-append, length-take-le, append-nil}
use Rattle.std.specs.Prelude.{Result, Ok, Err, OnOk}
use Rattle.std.proofs.lemmas.List.{drop-drop, take_at, drop_at, take-append-drop}
use Rattle.host_trait.specs.declared.channels.Channel.{Channel}
use Rattle.host_trait.specs.declared.channels.FileId.TheVariants.{Manager}
use Rattle.host_trait.specs.Faults.{NoneFailed}
use Rattle.log_reading.specs.declared.faults.FolderFault.{FolderFault}
use Rattle.log_reading.specs.Counts.{ReadFaulted}
use Rattle.host_trait.specs.Disk.{MayLeave, Tears, Overwrote, overlaid}
use Rattle.host_trait.specs.World.{World, Written}
use Rattle.host_trait.specs.Runs.{RunsOnFile}
use Rattle.host_trait.proofs.Runs.{run_one_write, run_weaker, run_then}
use Rattle.gate_block.specs.Blocks.{block_at}
use Rattle.gate_block.specs.Log.{open_blocks}
use Rattle.checkpoint.specs.Steps.{KeepsGate}
use Rattle.checkpoint.specs.ManagerBytes.{HasWritten}
use Rattle.checkpoint.proofs.Runs.{gate_stays}

-- two writes, the second right behind the first
pub overlaid-twice : (at : ℕ) (a b f : List ℕ) → at ≤ length f → overlaid (overlaid f at a) (at + length a) b ≡ overlaid f at (a ++ b)
overlaid-twice at a b f within =
    let n : ℕ = at + length a in
    let q : List ℕ = take at f ++ a in
    let rest : List ℕ = drop n f in
    let size : length q ≡ n = length-append (take at f) a ∙ ap (λ (k : ℕ). k + length a) (length-take-le at f within) in
    let front : take n (q ++ rest) ≡ q = take_at q rest n size in
    let back : drop (n + length b) (q ++ rest) ≡ drop (n + length b) f =
    sym (drop-drop (length b) n (q ++ rest)) ∙ ap (λ (l : List ℕ). drop (length b) l) (drop_at q rest n size) ∙ drop-drop (length b) n f in
    let whole : n + length b ≡ at + length (a ++ b) = omega (arith, length-append a b) in
    ap (λ (l : List ℕ). (l ++ b) ++ drop (n + length b) (q ++ rest)) front
    ∙ ap (λ (l : List ℕ). (q ++ b) ++ l) back
    ∙ ap (λ (l : List ℕ). l ++ drop (n + length b) f) (append_assoc (take at f) a b)
    ∙ ap (λ (k : ℕ). (take at f ++ (a ++ b)) ++ drop k f) whole

-- the file goes on that far
pub reaches : (at : ℕ) (bytes f : List ℕ) → at ≤ length f → at + length bytes ≤ length (overlaid f at bytes)
reaches at bytes f within =
    omega (arith, length-append (take at f ++ bytes) (drop (at + length bytes) f), length-append (take at f) bytes, length-take-le at f within)

-- one write behind byte 0
module _ (slot at n : ℕ) (old new : World) (low : 1 ≤ at) (here : MayLeave (old.disk (Manager slot)) (old.disk (Manager slot)).seen) (within : at ≤ length (old.disk (Manager slot)).seen)
    (written : Written (Manager slot) at n old new) where
  pub put_run : RunsOnFile (Manager slot) KeepsGate 0 old new
  put_run = run_weaker (Manager slot) (Tears at n) KeepsGate 0 old new (λ d c tears. gate_stays at n d c low tears) (run_one_write (Manager slot) at n old new written here within)

pub put_written : (slot at : ℕ) (bytes : List ℕ) (old new : World) → RunsOnFile (Manager slot) KeepsGate 0 old new → Overwrote at bytes (old.disk (Manager slot)) (new.disk (Manager slot)) → HasWritten slot at bytes old new
put_written slot at bytes old new run over = record { run = run; seen = over.seen }

-- nothing was written yet
pub none_written : (slot at : ℕ) (w : World) → RunsOnFile (Manager slot) KeepsGate 0 w w → HasWritten slot at [] w w
none_written slot at w run = record {
  run = run;
  seen = sym (whole (w.disk (Manager slot)).seen at);
}
  where
    whole : (l : List ℕ) (k : ℕ) → overlaid l k [] ≡ l
    whole l k =
        let same : k + 0 ≡ k = omega arith in
        ap (λ (m : List ℕ). m ++ drop (k + 0) l) (append-nil (take k l)) ∙ ap (λ (n : ℕ). take k l ++ drop n l) same ∙ take-append-drop k l

-- one behind the other
pub written_twice : (slot at : ℕ) (a b : List ℕ) (old mid new : World) → at ≤ length (old.disk (Manager slot)).seen
    → HasWritten slot at a old mid → HasWritten slot (at + length a) b mid new → HasWritten slot at (a ++ b) old new
written_twice slot at a b old mid new within first second = record {
  run = run_then (Manager slot) KeepsGate KeepsGate 0 0 old mid new (λ e d c one two. two ∙ one) first.run second.run;
  seen = second.seen ∙ ap (λ (l : List ℕ). overlaid l (at + length a) b) first.seen ∙ overlaid-twice at a b (old.disk (Manager slot)).seen within;
}

-- the open blocks of some bodies, and of one more
pub more_blocks : (bodies : List (List ℕ)) (body : List ℕ) → open_blocks (bodies ++ body ∷ []) ≡ open_blocks bodies ++ block_at body
more_blocks [] body = append-nil (block_at body)
more_blocks (b ∷ bodies) body = ap (λ (l : List ℕ). block_at b ++ l) (more_blocks bodies body) ∙ sym (append_assoc (block_at b) (open_blocks bodies) (block_at body))

-- what a success says, said otherwise
pub ok_then : {T E : Type 0} (P Q : Type 0) (r : Result T E) → (P → Q) → OnOk r P → OnOk r Q
ok_then P Q (Ok value) leads is = leads is
ok_then P Q (Err error) leads is = tt

-- a fault behind calls that didn't fail
pub calm_read : (fault : FolderFault) (before mid after : Channel → ℕ) → NoneFailed before mid → ReadFaulted fault mid after → ReadFaulted fault before after
calm_read fault before mid after none is = subst (λ (f : Channel → ℕ). ReadFaulted fault f after) (λ i c. none c i) is
