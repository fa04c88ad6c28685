-- Files that are copied piece by piece, and one by one.
use Rattle.std.proofs.Common.{◌≡◌, ◌≢◌, inl, inr, ℕ, ◌+◌, ◌-◌, ◌<◌, ◌≤◌, Bool, List, [], ◌∷◌, ◌++◌, length, take, drop, refl, sym, ◌∙◌, ap, subst, arith, length-append, length-take, take-append-drop, append_assoc, append-nil, get_or, drop-cons, add-one}
use Rattle.std.specs.List.{AllByRecursion}
use Rattle.std.proofs.Math.ListN.{drop_of_length-le}
use Rattle.std.proofs.lemmas.List.{take-take, take_at, drop-take}
use Rattle.base_types.specs.declared.calls.GrainId.{GrainId}
use Rattle.base_types.specs.declared.stores.Ends.{Ends}
use Rattle.host_trait.specs.declared.channels.FileId.{FileId}
use Rattle.host_trait.specs.declared.channels.FileId.TheVariants.{Program, Manager, Grain}
use Rattle.host_trait.specs.Disk.{FileState, MayLeave, Tears, overlaid, settled}
use Rattle.host_trait.specs.Files.{MayAsk, StaysReady}
use Rattle.host_trait.specs.World.{World, Disk, Written}
use Rattle.host_trait.specs.Runs.{RunsOnFile, OnlyAsked}
use Rattle.host_trait.proofs.Names.{cases_file}
use Rattle.host_trait.proofs.Runs.{run_one_write, run_weaker, run_then}
use Rattle.checkpoint.specs.Steps.{MayBeAny}
use Rattle.checkpoint.specs.CopiedFiles.{BeginsAs, IsCopyOf, IsCopiedFile}
use Rattle.checkpoint.proofs.Runs.{only_run}

-- a file that a call may be given it may be given still
pub ask_still : (old new : FileId → Bool) (file : FileId) → StaysReady old new → MayAsk old file → MayAsk new file
ask_still old new (Program slot) stays may = may
ask_still old new (Manager slot) stays may = may
ask_still old new (Grain slot grain) stays may = (may.0, stays (Grain slot grain) may.1)

-- ---- one file

-- the copy is as long, at least
pub copy_long : (end : ℕ) (a b : List ℕ) → BeginsAs end a b → end ≤ length b
copy_long end a b is = omega (arith, is.within, ap (λ (l : List ℕ). length l) is.same, length-take end a, length-take end b)

-- nothing is copied yet
pub none_copied_yet : (a b : List ℕ) → BeginsAs 0 a b
none_copied_yet a b = record { within = omega arith; same = refl }

take_both : (n m : ℕ) (l : List ℕ) → take (n + m) l ≡ take n l ++ take m (drop n l)
take_both n m l = sym (take-append-drop n (take (n + m) l)) ∙ (λ i. take-take n (n + m) l (omega arith) i ++ drop-take n m l i)

-- a piece more
pub copy_more : (at size : ℕ) (a b c bytes : List ℕ) → BeginsAs at a b → size ≤ length a - at → length bytes ≡ size → bytes ≡ take size (drop at a) → c ≡ overlaid b at bytes → BeginsAs (at + size) a c
copy_more at size a b c bytes is more long read wrote =
    let q : List ℕ = take at b ++ bytes in
    let size_q : length q ≡ at + size = omega (arith, length-append (take at b) bytes, length-take at b, copy_long at a b is, long) in
    let front : take (at + size) c ≡ q = ap (λ (l : List ℕ). take (at + size) l) wrote ∙ take_at q (drop (at + length bytes) b) (at + size) size_q in
    let same : q ≡ take (at + size) a = (λ i. is.same i ++ read i) ∙ sym (take_both at size a) in
    record { within = omega (arith, is.within, more); same = front ∙ same }

-- the calls on a piece: bytes were read, and then written to another file
pub piece_run : (to : FileId) (at n : ℕ) (w0 w1 w2 : World) → OnlyAsked w0 w1 → Written to at n w1 w2 → MayLeave (w1.disk to) (w1.disk to).seen → at ≤ length (w0.disk to).seen → RunsOnFile to MayBeAny 0 w0 w2
piece_run to at n w0 w1 w2 asked written here within =
    run_then to MayBeAny MayBeAny 0 0 w0 w1 w2 (λ e d c one two. tt) (only_run to MayBeAny w0 w1 (λ d. tt) asked)
    (run_weaker to (Tears at n) MayBeAny 0 w1 w2 (λ d c tears. tt) (run_one_write to at n w1 w2 written here (subst (λ (d : Disk). at ≤ length (d to).seen) (sym asked.disk) within)))

-- what is copied, once it is synced
pub copy_synced : (end : ℕ) (a : List ℕ) (mid new : FileState) → BeginsAs end a mid.seen → new ≡ settled mid.seen → IsCopyOf end a new
copy_synced end a mid new is synced = record {
  lasts = synced ∙ ap (λ (s : FileState). settled s.seen) (sym synced);
  begins = subst (λ (s : FileState). BeginsAs end a s.seen) (sym synced) is;
}

-- ---- one after the other

-- a copy in a file that stays
copy_stays : (live : ℕ) (ends : Ends) (old mid new : Disk) (m grain : GrainId) → ((file : FileId) → file ≢ Grain (1 - live) grain → new file ≡ mid file) → IsCopiedFile live ends old new grain → IsCopiedFile live ends old mid m → IsCopiedFile live ends old new m
copy_stays live ends old mid new m grain others again is = elim (cases_file (Grain (1 - live) m) (Grain (1 - live) grain)) [
  | inl same ↦ subst (IsCopiedFile live ends old new) (sym (grain_same same)) again
  | inr other ↦ λ end ends_there. subst (IsCopyOf end (old (Grain live m)).seen) (sym (others (Grain (1 - live) m) other)) (is end ends_there)
]
  where
    grain_same : {s : ℕ} {a b : GrainId} → Grain s a ≡ Grain s b → a ≡ b
    grain_same {s} {a} {b} same = ap grain_in same
      where
        grain_in : FileId → GrainId
        grain_in (Grain slot g) = g
        grain_in other = a

-- one file more
pub files_more : (live : ℕ) (ends : Ends) (old mid new : Disk) (front : List GrainId) (grain : GrainId) → ((file : FileId) → file ≢ Grain (1 - live) grain → new file ≡ mid file)
    → AllByRecursion (IsCopiedFile live ends old mid) front → IsCopiedFile live ends old new grain → AllByRecursion (IsCopiedFile live ends old new) (front ++ grain ∷ [])
files_more live ends old mid new [] grain others so_far one = (one, tt)
files_more live ends old mid new (m ∷ front) grain others so_far one =
    (copy_stays live ends old mid new m grain others one so_far.0, files_more live ends old mid new front grain others so_far.1 one)

-- a file that is copied from one that stays
pub copied_from : (live : ℕ) (ends : Ends) (old mid new : Disk) (grain : GrainId) → mid (Grain live grain) ≡ old (Grain live grain) → IsCopiedFile live ends mid new grain → IsCopiedFile live ends old new grain
copied_from live ends old mid new grain same is end there = subst (λ (s : FileState). IsCopyOf end s.seen (new (Grain (1 - live) grain))) same (is end there)

-- a first part of these grains' files is copied
pub record AreFilesCopied (live : ℕ) (ends : Ends) (old new : Disk) (all rest : List GrainId) : Type 0 where
  pub front : List GrainId
  pub split : all ≡ front ++ rest
  pub each : AllByRecursion (IsCopiedFile live ends old new) front

pub first_files : (live : ℕ) (ends : Ends) (old new : Disk) (all : List GrainId) → AreFilesCopied live ends old new all all
first_files live ends old new all = record { front = []; split = refl; each = tt }

pub more_files : (live : ℕ) (ends : Ends) (old mid new : Disk) (all rest later : List GrainId) (grain : GrainId) → rest ≡ grain ∷ later → ((file : FileId) → file ≢ Grain (1 - live) grain → new file ≡ mid file)
    → AreFilesCopied live ends old mid all rest → IsCopiedFile live ends old new grain → AreFilesCopied live ends old new all later
more_files live ends old mid new all rest later grain next others so_far one = record {
  front = so_far.front ++ grain ∷ [];
  split = so_far.split ∙ ap (λ (l : List GrainId). so_far.front ++ l) next ∙ sym (append_assoc so_far.front (grain ∷ []) later);
  each = files_more live ends old mid new so_far.front grain others so_far.each one;
}

pub all_files : (live : ℕ) (ends : Ends) (old new : Disk) (all rest : List GrainId) → rest ≡ [] → AreFilesCopied live ends old new all rest → AllByRecursion (IsCopiedFile live ends old new) all
all_files live ends old new all rest none so_far =
    subst (AllByRecursion (IsCopiedFile live ends old new)) (sym (so_far.split ∙ ap (λ (l : List GrainId). so_far.front ++ l) none ∙ append-nil so_far.front)) so_far.each

-- the next of them
pub next_grain : (i : ℕ) (grains : List GrainId) (d : GrainId) → i < length grains → drop i grains ≡ get_or grains i d ∷ drop (i + 1) grains
next_grain i grains d low = rw (add-one, drop-cons grains i d) refl

pub none_left : (i : ℕ) (grains : List GrainId) → length grains ≤ i → drop i grains ≡ []
none_left i grains high = drop_of_length-le grains high
