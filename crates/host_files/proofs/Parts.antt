-- Reads and writes that are made part by part.
use Rattle.std.proofs.Common.{◌≡◌, ◌⊎◌, inl, inr, append-nil, ℕ, zero, suc, ◌+◌, ◌-◌, min, ◌^◌, ◌<◌, ◌≤◌, List, [], ◌∷◌, ◌++◌, length, take, drop, refl, sym, ◌∙◌, ap, subst, arith, append_assoc, length-append, length-take, length-drop, take-append-drop, length-take-le, take_all, take-add}
use Rattle.std.proofs.lemmas.Bool.{cases_lt}
use Rattle.std.proofs.lemmas.List.{drop-drop, take_at, drop_at}
use Rattle.host_trait.specs.declared.channels.FileId.{FileId}
use Rattle.host_trait.specs.Disk.{FileState, Tears, Pends, Overwrote, overlaid}
use Rattle.host_trait.specs.World.{World, Moment, Emitted, Filled, Written, Ticks, moment_of}
use Rattle.host_trait.proofs.Crashes.{Tears-trans, Tears-wider, Tears-overlaid}
use Rattle.host_files.specs.Windows.{TookSome}
use Rattle.system_calls.specs.System.{System, SameEntries, SameBeside, IsReadPart, AppendsPart, MayWriteOn, IsLastPending, WritesPart, FailsPart, TearsFrom, PendsFrom, KeepsTime}

pub same_entries : (old : System) → SameEntries old old
same_entries old = record { entered = refl; doubtful = refl; lost = refl }

pub entries_on : (old mid new : System) → SameEntries old mid → SameEntries mid new → SameEntries old new
entries_on old mid new a b = record { entered = b.entered ∙ a.entered; doubtful = b.doubtful ∙ a.doubtful; lost = b.lost ∙ a.lost }

-- what begins is a moment of its own
pub begins : (from : ℕ) (old new : World) → from ≡ 0 → KeepsTime from old new → new.past ≡ old.past ++ moment_of new ∷ []
begins zero old new e kept = kept
begins (suc from) old new e kept = absurd (omega (arith, e))

-- what goes on is of the moment in which it began
pub goes_on : (from : ℕ) (old new : World) → 0 < from → KeepsTime from old new → (before : List Moment) → old.past ≡ before ++ moment_of old ∷ [] → new.past ≡ before ++ moment_of new ∷ []
goes_on zero old new low kept = absurd (omega (arith, low))
goes_on (suc from) old new low kept = kept

-- so many bytes were put out so far, all in one moment
pub record PutSome (done : ℕ) (bytes : List ℕ) (old now : System) : Type 0 where
  pub input : now.world.input ≡ old.world.input
  pub output : now.world.output ≡ old.world.output ++ take done bytes
  pub disk : now.world.disk ≡ old.world.disk
  pub syncs : now.world.syncs ≡ old.world.syncs
  pub entries : SameEntries old now
  pub past : ((done ≡ 0) × (now ≡ old)) ⊎ ((0 < done) × (now.world.past ≡ old.world.past ++ moment_of now.world ∷ []))

pub put_none : (bytes : List ℕ) (old : System) → PutSome 0 bytes old old
put_none bytes old = record {
  input = refl;
  output = sym (append-nil old.world.output);
  disk = refl;
  syncs = refl;
  entries = same_entries old;
  past = inl (refl, refl);
}

put_past : (from n : ℕ) (old now new : System) → 0 < n → KeepsTime from now.world new.world
    → ((from ≡ 0) × (now ≡ old)) ⊎ ((0 < from) × (now.world.past ≡ old.world.past ++ moment_of now.world ∷ []))
    → new.world.past ≡ old.world.past ++ moment_of new.world ∷ []
put_past from n old now new some time (inl first) = begins from now.world new.world first.0 time ∙ ap (λ (s : System). s.world.past ++ moment_of new.world ∷ []) first.1
put_past from n old now new some time (inr later) = goes_on from now.world new.world later.0 time old.world.past later.1

pub put_more : (from n : ℕ) (bytes : List ℕ) (old now new : System) → PutSome from bytes old now → 0 < n → AppendsPart n from bytes now new → PutSome (from + n) bytes old new
put_more from n bytes old now new so some out = record {
  input = out.input ∙ so.input;
  output = out.output ∙ ap (λ (l : List ℕ). l ++ take n (drop from bytes)) so.output
      ∙ append_assoc old.world.output (take from bytes) (take n (drop from bytes))
      ∙ ap (λ (l : List ℕ). old.world.output ++ l) (sym (take-add from n bytes));
  disk = out.disk ∙ so.disk;
  syncs = out.syncs ∙ so.syncs;
  entries = entries_on old now new so.entries out.entries;
  past = inr (omega (arith, some), put_past from n old now new some (out.past some) so.past);
}

put_ticks : (done : ℕ) (old now : System) → ((done ≡ 0) × (now ≡ old)) ⊎ ((0 < done) × (now.world.past ≡ old.world.past ++ moment_of now.world ∷ [])) → Ticks old.world now.world
put_ticks done old now (inl first) = inr (ap (λ (s : System). s.world.past) first.1, ap (λ (s : System). moment_of s.world) first.1)
put_ticks done old now (inr later) = inl later.1

pub put_part : (done : ℕ) (bytes : List ℕ) (old now : System) → done ≤ length bytes → PutSome done bytes old now → Emitted done bytes old.world now.world
put_part done bytes old now within so = record {
  count = within;
  input = so.input;
  output = so.output;
  disk = so.disk;
  syncs = so.syncs;
  past = put_ticks done old now so.past;
}

pub put_whole : (done : ℕ) (bytes : List ℕ) (old now : System) → done ≤ length bytes → length bytes ≤ done → PutSome done bytes old now → Emitted (length bytes) bytes old.world now.world
put_whole done bytes old now within all so =
    let same : done ≡ length bytes = omega (arith, within, all) in
    subst (λ (n : ℕ). Emitted n bytes old.world now.world) same (put_part done bytes old now within so)

-- the file with some bytes, and then more behind them
pub overlay_more : (at from n : ℕ) (file bytes : List ℕ) → at ≤ length file → from ≤ length bytes
    → overlaid (overlaid file at (take from bytes)) (at + from) (take n (drop from bytes)) ≡ overlaid file at (take (from + n) bytes)
overlay_more at from n file bytes low within =
    let a = take from bytes in
    let b = take n (drop from bytes) in
    let size : length a ≡ from = length-take-le from bytes within in
    let front : length (take at file ++ a) ≡ at + from = omega (arith, length-append (take at file) a, length-take-le at file low, size) in
    let rest = drop (at + length a) file in
    let head : take (at + from) (overlaid file at a) ≡ take at file ++ a = take_at (take at file ++ a) rest (at + from) front in
    let tail : drop (at + from + length b) (overlaid file at a) ≡ drop (length b) rest =
    sym (drop-drop (length b) (at + from) (overlaid file at a)) ∙ ap (λ (l : List ℕ). drop (length b) l) (drop_at (take at file ++ a) rest (at + from) front) in
    let sizes : at + length a + length b ≡ at + length (a ++ b) = omega (arith, length-append a b) in
    let back : drop (length b) rest ≡ drop (at + length (a ++ b)) file = drop-drop (length b) (at + length a) file ∙ ap (λ (k : ℕ). drop k file) sizes in
    let whole : overlaid file at (a ++ b) ≡ overlaid file at (take (from + n) bytes) = ap (λ (l : List ℕ). overlaid file at l) (sym (take-add from n bytes)) in
    ap (λ (l : List ℕ). l ++ b ++ drop (at + from + length b) (overlaid file at a)) head
    ∙ ap (λ (l : List ℕ). (take at file ++ a) ++ b ++ l) (tail ∙ back)
    ∙ ap (λ (l : List ℕ). l ++ drop (at + length (a ++ b)) file) (append_assoc (take at file) a b)
    ∙ whole

-- so many bytes of a write were written so far, all in one moment, and its range is pending from the first on
pub record WroteSome (done : ℕ) (file : FileId) (at : ℕ) (bytes : List ℕ) (old now : System) : Type 0 where
  pub beside : SameBeside file old now
  pub seen : (now.world.disk file).seen ≡ overlaid (old.world.disk file).seen at (take done bytes)
  pub past : ((done ≡ 0) × (now ≡ old))
      ⊎ ((0 < done) × (now.world.past ≡ old.world.past ++ moment_of now.world ∷ []) × Pends at (length bytes) (old.world.disk file) (now.world.disk file))

pub beside_same : (file : FileId) (old : System) → SameBeside file old old
beside_same file old = record { others = λ f apart. refl; input = refl; output = refl; syncs = refl; entries = same_entries old }

pub beside_on : (file : FileId) (old mid new : System) → SameBeside file old mid → SameBeside file mid new → SameBeside file old new
beside_on file old mid new a b = record {
  others = λ f apart. b.others f apart ∙ a.others f apart;
  input = b.input ∙ a.input;
  output = b.output ∙ a.output;
  syncs = b.syncs ∙ a.syncs;
  entries = entries_on old mid new a.entries b.entries;
}

overlay_none : (file : List ℕ) (at : ℕ) → file ≡ overlaid file at []
overlay_none file at =
    let none : at + 0 ≡ at = omega arith in
    sym (ap (λ (l : List ℕ). l ++ drop (at + 0) file) (append-nil (take at file)) ∙ ap (λ (k : ℕ). take at file ++ drop k file) none ∙ take-append-drop at file)

pub wrote_none : (file : FileId) (at : ℕ) (bytes : List ℕ) (old : System) → WroteSome 0 file at bytes old old
wrote_none file at bytes old = record { beside = beside_same file old; seen = overlay_none (old.world.disk file).seen at; past = inl (refl, refl) }

reaches_on : (at done : ℕ) (bytes seen now : List ℕ) → done ≤ length bytes → at ≤ length seen → now ≡ overlaid seen at (take done bytes) → at + done ≤ length now
reaches_on at done bytes seen now within low is =
    let b = take done bytes in
    omega (arith, ap length is, length-append (take at seen ++ b) (drop (at + length b) seen), length-append (take at seen) b, length-take-le at seen low, length-take-le done bytes within)

last_pending : (done : ℕ) (file : FileId) (at size : ℕ) (old now : System) → 0 < done
    → ((done ≡ 0) × (now ≡ old)) ⊎ ((0 < done) × (now.world.past ≡ old.world.past ++ moment_of now.world ∷ []) × Pends at size (old.world.disk file) (now.world.disk file))
    → IsLastPending at size (now.world.disk file)
last_pending done file at size old now some (inl first) = absurd (omega (arith, some, first.0))
last_pending done file at size old now some (inr later) = record { before = (old.world.disk file).ranges; ranges = later.2.ranges; longest = omega (arith, later.2.longest) }

-- a write goes on where it stopped
pub may_go_on : (done : ℕ) (file : FileId) (at : ℕ) (bytes : List ℕ) (old now : System) → done ≤ length bytes → at ≤ length (old.world.disk file).seen → WroteSome done file at bytes old now → MayWriteOn done at (length bytes) (now.world.disk file)
may_go_on done file at bytes old now within low so = record {
  reach = reaches_on at done bytes (old.world.disk file).seen (now.world.disk file).seen within low so.seen;
  pending = λ some. last_pending done file at (length bytes) old now some so.past;
}

pends_first : (from at size : ℕ) (old new : FileState) → from ≡ 0 → PendsFrom from at size old new → Pends at size old new
pends_first zero at size old new e pends = pends
pends_first (suc from) at size old new e pends = absurd (omega (arith, e))

pends_on : (from at size : ℕ) (old now new : FileState) → 0 < from → PendsFrom from at size now new → Pends at size old now → Pends at size old new
pends_on zero at size old now new low pends first = absurd (omega (arith, low))
pends_on (suc from) at size old now new low pends first = record { base = pends.0 ∙ first.base; ranges = pends.1 ∙ first.ranges; longest = pends.2 ∙ first.longest }

write_past : (from : ℕ) (file : FileId) (at size : ℕ) (old now new : System) → KeepsTime from now.world new.world
    → ((from ≡ 0) × (now ≡ old)) ⊎ ((0 < from) × (now.world.past ≡ old.world.past ++ moment_of now.world ∷ []) × Pends at size (old.world.disk file) (now.world.disk file))
    → new.world.past ≡ old.world.past ++ moment_of new.world ∷ []
write_past from file at size old now new time (inl first) = begins from now.world new.world first.0 time ∙ ap (λ (s : System). s.world.past ++ moment_of new.world ∷ []) first.1
write_past from file at size old now new time (inr later) = goes_on from now.world new.world later.0 time old.world.past later.1

write_pends : (from : ℕ) (file : FileId) (at size : ℕ) (old now new : System) → PendsFrom from at size (now.world.disk file) (new.world.disk file)
    → ((from ≡ 0) × (now ≡ old)) ⊎ ((0 < from) × (now.world.past ≡ old.world.past ++ moment_of now.world ∷ []) × Pends at size (old.world.disk file) (now.world.disk file))
    → Pends at size (old.world.disk file) (new.world.disk file)
write_pends from file at size old now new pends (inl first) = subst (λ (s : System). Pends at size (s.world.disk file) (new.world.disk file)) first.1 (pends_first from at size (now.world.disk file) (new.world.disk file) first.0 pends)
write_pends from file at size old now new pends (inr later) = pends_on from at size (old.world.disk file) (now.world.disk file) (new.world.disk file) later.0 pends later.2

write_seen : (from n : ℕ) (file : FileId) (at : ℕ) (bytes : List ℕ) (old now new : System) → from ≤ length bytes → at ≤ length (old.world.disk file).seen
    → WroteSome from file at bytes old now → WritesPart n from file at bytes now new → (new.world.disk file).seen ≡ overlaid (old.world.disk file).seen at (take (from + n) bytes)
write_seen from n file at bytes old now new within low so part =
    part.seen ∙ ap (λ (l : List ℕ). overlaid l (at + from) (take n (drop from bytes))) so.seen ∙ overlay_more at from n (old.world.disk file).seen bytes low within

pub write_more : (from n : ℕ) (file : FileId) (at : ℕ) (bytes : List ℕ) (old now new : System) → from ≤ length bytes → at ≤ length (old.world.disk file).seen → 0 < n
    → WroteSome from file at bytes old now → WritesPart n from file at bytes now new → WroteSome (from + n) file at bytes old new
write_more from n file at bytes old now new within low some so part =
    let goes : n ≡ 0 → length bytes ≡ 0 = λ none. absurd (omega (arith, some, none)) in
    record {
      beside = beside_on file old now new so.beside part.beside;
      seen = write_seen from n file at bytes old now new within low so part;
      past = inr (omega (arith, some), write_past from file at (length bytes) old now new (part.past goes) so.past, write_pends from file at (length bytes) old now new (part.pends goes) so.past);
    }

pub overwrites : (from n : ℕ) (file : FileId) (at : ℕ) (bytes : List ℕ) (old now new : System) → from ≤ length bytes → at ≤ length (old.world.disk file).seen
    → (n ≡ 0 → length bytes ≡ 0) → length bytes ≤ from + n
    → WroteSome from file at bytes old now → WritesPart n from file at bytes now new → Overwrote at bytes (old.world.disk file) (new.world.disk file)
overwrites from n file at bytes old now new within low goes all so part = record {
  pends = write_pends from file at (length bytes) old now new (part.pends goes) so.past;
  seen = write_seen from n file at bytes old now new within low so part ∙ ap (λ (l : List ℕ). overlaid (old.world.disk file).seen at l) (take_all (from + n) bytes all);
}

pub wrote_whole : (from n : ℕ) (file : FileId) (at : ℕ) (bytes : List ℕ) (old now new : System) → from ≤ length bytes → at ≤ length (old.world.disk file).seen
    → (n ≡ 0 → length bytes ≡ 0) → length bytes ≤ from + n
    → WroteSome from file at bytes old now → WritesPart n from file at bytes now new → Written file at (length bytes) old.world new.world
wrote_whole from n file at bytes old now new within low goes all so part =
    let done = overwrites from n file at bytes old now new within low goes all so part in
    let beside = beside_on file old now new so.beside part.beside in
    record {
      state = record {
        pends = inl done.pends;
        seen = subst (λ (l : List ℕ). Tears at (length bytes) (old.world.disk file).seen l) (sym done.seen) (Tears-overlaid at bytes (old.world.disk file).seen low);
      };
      others = beside.others;
      input = beside.input;
      output = beside.output;
      syncs = beside.syncs;
      past = inl (write_past from file at (length bytes) old now new (part.past goes) so.past);
    }

short_tear : (at done : ℕ) (bytes seen : List ℕ) → at ≤ length seen → Tears at (length bytes) seen (overlaid seen at (take done bytes))
short_tear at done bytes seen low =
    Tears-wider at (length (take done bytes)) at (length bytes) seen (overlaid seen at (take done bytes)) (omega arith) (omega (arith, length-take done bytes)) (Tears-overlaid at (take done bytes) seen low)

some_tears : (done : ℕ) (file : FileId) (at : ℕ) (bytes : List ℕ) (old now : System) → at ≤ length (old.world.disk file).seen → WroteSome done file at bytes old now
    → Tears at (length bytes) (old.world.disk file).seen (now.world.disk file).seen
some_tears done file at bytes old now low so = subst (λ (l : List ℕ). Tears at (length bytes) (old.world.disk file).seen l) (sym so.seen) (short_tear at done bytes (old.world.disk file).seen low)

some_state : (done : ℕ) (file : FileId) (at size : ℕ) (old now : System)
    → ((done ≡ 0) × (now ≡ old)) ⊎ ((0 < done) × (now.world.past ≡ old.world.past ++ moment_of now.world ∷ []) × Pends at size (old.world.disk file) (now.world.disk file))
    → Pends at size (old.world.disk file) (now.world.disk file) ⊎ (now.world.disk file ≡ old.world.disk file)
some_state done file at size old now (inl first) = inr (ap (λ (s : System). s.world.disk file) first.1)
some_state done file at size old now (inr later) = inl later.2

some_ticks : (done : ℕ) (file : FileId) (at size : ℕ) (old now : System)
    → ((done ≡ 0) × (now ≡ old)) ⊎ ((0 < done) × (now.world.past ≡ old.world.past ++ moment_of now.world ∷ []) × Pends at size (old.world.disk file) (now.world.disk file))
    → Ticks old.world now.world
some_ticks done file at size old now (inl first) = inr (ap (λ (s : System). s.world.past) first.1, ap (λ (s : System). moment_of s.world) first.1)
some_ticks done file at size old now (inr later) = inl later.1

-- a write that stopped in between
pub wrote_some : (done : ℕ) (file : FileId) (at : ℕ) (bytes : List ℕ) (old now : System) → at ≤ length (old.world.disk file).seen → WroteSome done file at bytes old now → Written file at (length bytes) old.world now.world
wrote_some done file at bytes old now low so = record {
  state = record { pends = some_state done file at (length bytes) old now so.past; seen = some_tears done file at bytes old now low so };
  others = so.beside.others;
  input = so.beside.input;
  output = so.beside.output;
  syncs = so.beside.syncs;
  past = some_ticks done file at (length bytes) old now so.past;
}

fails_first : (from : ℕ) (file : FileId) (at size : ℕ) (now new : System) → from ≡ 0 → TearsFrom from file at size now new → Written file at size now.world new.world
fails_first zero file at size now new e torn = torn
fails_first (suc from) file at size now new e torn = absurd (omega (arith, e))

fails_later : (from : ℕ) (file : FileId) (at size : ℕ) (now new : System) → 0 < from → TearsFrom from file at size now new
    → PendsFrom from at size (now.world.disk file) (new.world.disk file) × Tears at size (now.world.disk file).seen (new.world.disk file).seen × KeepsTime from now.world new.world
fails_later zero file at size now new low torn = absurd (omega (arith, low))
fails_later (suc from) file at size now new low torn = torn

fails_so : (from : ℕ) (file : FileId) (at : ℕ) (bytes : List ℕ) (old now new : System) → at ≤ length (old.world.disk file).seen → WroteSome from file at bytes old now → FailsPart from file at (length bytes) now new
    → ((from ≡ 0) × (now ≡ old)) ⊎ ((0 < from) × (now.world.past ≡ old.world.past ++ moment_of now.world ∷ []) × Pends at (length bytes) (old.world.disk file) (now.world.disk file))
    → Written file at (length bytes) old.world new.world
fails_so from file at bytes old now new low so part (inl first) =
    subst (λ (s : System). Written file at (length bytes) s.world new.world) first.1 (fails_first from file at (length bytes) now new first.0 part.torn)
fails_so from file at bytes old now new low so part (inr later) =
    let torn = fails_later from file at (length bytes) now new later.0 part.torn in
    let beside = beside_on file old now new so.beside part.beside in
    record {
      state = record {
        pends = inl (pends_on from at (length bytes) (old.world.disk file) (now.world.disk file) (new.world.disk file) later.0 torn.0 later.2);
        seen = Tears-trans at (length bytes) (old.world.disk file).seen (now.world.disk file).seen (new.world.disk file).seen (some_tears from file at bytes old now low so) torn.1;
      };
      others = beside.others;
      input = beside.input;
      output = beside.output;
      syncs = beside.syncs;
      past = inl (goes_on from now.world new.world later.0 torn.2 old.world.past later.1);
    }

-- a write of which a part failed
pub write_fails : (from : ℕ) (file : FileId) (at : ℕ) (bytes : List ℕ) (old now new : System) → at ≤ length (old.world.disk file).seen → WroteSome from file at bytes old now → FailsPart from file at (length bytes) now new
    → Written file at (length bytes) old.world new.world
write_fails from file at bytes old now new low so part = fails_so from file at bytes old now new low so part so.past

-- so many bytes of a file were read so far
pub record ReadSome (count at : ℕ) (file old now : List ℕ) : Type 0 where
  pub within : 0 < count → at + count ≤ length file
  pub small : 0 < count → at + count < 2 ^ 63
  pub bytes : now ≡ take count (drop at file) ++ drop count old

pub read_none : (at : ℕ) (file old : List ℕ) → ReadSome 0 at file old old
read_none at file old = record { within = λ low. absurd (omega (arith, low)); small = λ low. absurd (omega (arith, low)); bytes = refl }

read_front : (count at : ℕ) (file old : List ℕ) → (0 < count → at + count ≤ length file) → length (take count (drop at file)) ≡ count
read_front zero at file old within = refl
read_front (suc count) at file old within = length-take-le (suc count) (drop at file) (omega (arith, within (omega arith), length-drop at file))

pub read_more : (count more at : ℕ) (file old now new : List ℕ) → 0 < more → ReadSome count at file old now → IsReadPart more count at file now new → ReadSome (count + more) at file old new
read_more count more at file old now new some so part =
    let size = read_front count at file old so.within in
    let head : take count now ≡ take count (drop at file) = ap (λ (l : List ℕ). take count l) so.bytes ∙ take_at (take count (drop at file)) (drop count old) count size in
    let tail : drop (count + more) now ≡ drop (count + more) old =
    ap (λ (k : ℕ). drop k now) (omega arith) ∙ sym (drop-drop more count now)
    ∙ ap (λ (l : List ℕ). drop more l) (ap (λ (l : List ℕ). drop count l) so.bytes ∙ drop_at (take count (drop at file)) (drop count old) count size)
    ∙ drop-drop more count old in
    let there : drop (at + count) file ≡ drop count (drop at file) = sym (drop-drop count at file) in
    record {
      within = λ low. omega (arith, part.within some);
      small = λ low. omega (arith, part.small some);
      bytes = part.bytes
          ∙ ap (λ (l : List ℕ). l ++ (take more (drop (at + count) file) ++ drop (count + more) now)) head
          ∙ ap (λ (l : List ℕ). take count (drop at file) ++ (take more l ++ drop (count + more) now)) there
          ∙ ap (λ (l : List ℕ). take count (drop at file) ++ (take more (drop count (drop at file)) ++ l)) tail
          ∙ sym (append_assoc (take count (drop at file)) (take more (drop count (drop at file))) (drop (count + more) old))
          ∙ ap (λ (l : List ℕ). l ++ drop (count + more) old) (sym (take-add count more (drop at file)));
    }

-- there are enough of them
pub took_enough : (count least at : ℕ) (file old now : List ℕ) → least ≤ count → ReadSome count at file old now → TookSome count least at file old now
took_enough count least at file old now all so = record { within = so.within; end = λ low. absurd (omega (arith, low, all)); bytes = so.bytes }

-- the file ends
pub took_end : (count least at : ℕ) (file old now new : List ℕ) → count < length old → length now ≡ length old → ReadSome count at file old now → IsReadPart 0 count at file now new → TookSome count least at file old new
took_end zero least at file old now new low same so part =
    record { within = so.within; end = λ short. part.end refl (omega (arith, low, same)); bytes = part.bytes ∙ so.bytes }
took_end (suc count) least at file old now new low same so part =
    let none : suc count + 0 ≡ suc count = omega arith in
    record { within = so.within; end = λ short. part.end refl (omega (arith, low, same)); bytes = part.bytes ∙ ap (λ (k : ℕ). take (suc count) now ++ drop k now) none ∙ take-append-drop (suc count) now ∙ so.bytes }

-- how many bytes a slice of this size takes from this offset on
took_count : (count size at file : ℕ) → count ≤ size → (0 < count → at + count ≤ file) → (count < size → file ≤ at + count) → count ≡ min size (file - at)
took_count zero size at file low within end = elim (cases_lt 0 size) [
  | inl some ↦ omega (arith, end some)
  | inr none ↦ omega (arith, none)
]
took_count (suc count) size at file low within end = elim (cases_lt (suc count) size) [
  | inl short ↦ omega (arith, low, end short, within (omega arith))
  | inr full ↦ omega (arith, low, full, within (omega arith))
]

-- the slice is full, or the file ends
pub took_whole : (count at : ℕ) (file old now : List ℕ) → count ≤ length old → TookSome count (length old) at file old now → Filled count at file old now
took_whole count at file old now low so = record { count = took_count count (length old) at (length file) low so.within so.end; bytes = so.bytes }

-- where the rest was written by no byte, there was none to write
pub goes_to : (done more size : ℕ) → (0 < done → done < size) → size ≤ done + more → more ≡ 0 → size ≡ 0
goes_to zero more size goes all none = omega (arith, all, none)
goes_to (suc done) more size goes all none = absurd (omega (arith, goes (omega arith), all, none))
