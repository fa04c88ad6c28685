-- What one event more makes, and that it is what the system's calls say.
use Rattle.std.proofs.Common.{◌≡◌, ◌≢◌, ◌⊎◌, inl, inr, ℕ, zero, suc, ◌+◌, ◌-◌, ◌<◌, ◌≤◌, Bool, true, false, if◌then◌else◌, IsTrue, List, [], ◌∷◌, ◌++◌, length, take, drop, refl, sym, ◌∙◌, ap, subst, arith, length-append, length-take, length-drop, get_or}
use Rattle.std.proofs.lemmas.List.{take_at, take_more}
use Rattle.std.proofs.lemmas.Bool.{false≢true}
use Rattle.host_trait.specs.declared.channels.FileId.{FileId}
use Rattle.host_trait.specs.Disk.{FileState, Untouched, MayLeave, Tears, overlaid, settled}
use Rattle.host_trait.specs.World.{World, Moment, Disk, moment_of}
use Rattle.host_trait.proofs.Names.{same_file-refl, other_file, cases_file}
use Rattle.host_trait.proofs.Crashes.{Tears-wider, Tears-overlaid, Tears-at, torn_may_stay}
use Rattle.system_calls.specs.System.{System, SameEntries, SameBeside, MakesFile, EntersAll, SyncsData, AppendsPart, KeepsTime, MayWriteOn, IsLastPending, PendsFrom, WritesPart, TearsFrom, FailsPart}
use Rattle.system_memory.specs.declared.events.Event.{Event}
use Rattle.system_memory.specs.MemoryState.{MemoryState, nothing, timed, part_written, disk_with, flag_with, put_out, write_part, sync_file, doubt_file, make_file, enter_all, lose_entries, after_event, after_events, held_of, system_of, AllStay, BareUnentered}

pub after_events-push : (h : MemoryState) (events : List Event) (e : Event) → after_events (events ++ e ∷ []) h ≡ after_event e (after_events events h)
after_events-push h [] e = refl
after_events-push h (x ∷ events) e = after_events-push (after_event x h) events e

-- one event more
pub held_more : (events new : List Event) (e : Event) → new ≡ events ++ e ∷ [] → held_of new ≡ after_event e (held_of events)
held_more events new e is = ap held_of is ∙ after_events-push nothing events e

pub there : (file : FileId) (change : FileState → FileState) (disk : Disk) → disk_with file change disk file ≡ change (disk file)
there file change disk = ap (λ (b : Bool). if b then change (disk file) else disk file) (same_file-refl file)

pub elsewhere : (file : FileId) (change : FileState → FileState) (disk : Disk) (f : FileId) → f ≢ file → disk_with file change disk f ≡ disk f
elsewhere file change disk f apart = ap (λ (b : Bool). if b then change (disk f) else disk f) (other_file file f (λ e. apart (sym e)))

flag_elsewhere : (file : FileId) (value : Bool) (flags : FileId → Bool) (f : FileId) → f ≢ file → flag_with file value flags f ≡ flags f
flag_elsewhere file value flags f apart = ap (λ (b : Bool). if b then value else flags f) (other_file file f (λ e. apart (sym e)))

same : (input : List ℕ) (h : MemoryState) → SameEntries (system_of input h) (system_of input h)
same input h = record { entered = refl; doubtful = refl; lost = refl }

-- a moment takes the place of the last one
front_of : (past before : List Moment) (last : Moment) → past ≡ before ++ last ∷ [] → take (length past - 1) past ≡ before
front_of past before last is =
    ap (λ (l : List Moment). take (length l - 1) l) is
    ∙ take_at before (last ∷ []) (length (before ++ last ∷ []) - 1) (omega (arith, length-append before (last ∷ [])))

keeps_time : (from : ℕ) (old new : World) → new.past ≡ timed from old.past (moment_of new) → KeepsTime from old new
keeps_time zero old new is = is
keeps_time (suc from) old new is = λ before was. is ∙ ap (λ (l : List Moment). l ++ moment_of new ∷ []) (front_of old.past before (moment_of old) was)

-- bytes that are put out
pub appends : (n from : ℕ) (bytes input : List ℕ) (h : MemoryState) → 0 < n → AppendsPart n from bytes (system_of input h) (system_of input (put_out from (take n (drop from bytes)) h))
appends n from bytes input h some = record {
  input = refl;
  output = refl;
  disk = refl;
  syncs = refl;
  past = λ more. keeps_time from (system_of input h).world (system_of input (put_out from (take n (drop from bytes)) h)).world refl;
  none = λ none. absurd (omega (arith, some, none));
  entries = record { entered = refl; doubtful = refl; lost = refl };
}

pends_from : (from at size place : ℕ) (bytes : List ℕ) (s : FileState) → PendsFrom from at size s (part_written from at size place bytes s)
pends_from zero at size place bytes s = record { base = refl; ranges = refl; longest = refl }
pends_from (suc from) at size place bytes s = (refl, refl, refl)

beside : (file : FileId) (at size from place : ℕ) (bytes input : List ℕ) (h : MemoryState) → SameBeside file (system_of input h) (system_of input (write_part file at size from place bytes h))
beside file at size from place bytes input h = record {
  others = λ f apart. elsewhere file (part_written from at size place bytes) h.disk f apart;
  input = refl;
  output = refl;
  syncs = refl;
  entries = record { entered = refl; doubtful = refl; lost = refl };
}

-- a part of a write
pub writes : (n from : ℕ) (file : FileId) (at : ℕ) (bytes input : List ℕ) (h : MemoryState) → (n ≡ 0 → length bytes ≡ 0)
    → WritesPart n from file at bytes (system_of input h) (system_of input (write_part file at (length bytes) from (at + from) (take n (drop from bytes)) h))
writes n from file at bytes input h some =
    let size = length bytes in
    let part = take n (drop from bytes) in
    let change = part_written from at size (at + from) part in
    let new = system_of input (write_part file at size from (at + from) part h) in
    record {
      beside = beside file at size from (at + from) part input h;
      pends = λ begun. subst (λ (s : FileState). PendsFrom from at size (h.disk file) s) (sym (there file change h.disk)) (pends_from from at size (at + from) part (h.disk file));
      seen = ap (λ (s : FileState). s.seen) (there file change h.disk);
      past = λ begun. keeps_time from (system_of input h).world new.world refl;
      none = λ none rest. absurd (omega (arith, some none, rest));
    }

part_tears : (at size from : ℕ) (part seen : List ℕ) → at + from ≤ length seen → from + length part ≤ size → Tears at size seen (overlaid seen (at + from) part)
part_tears at size from part seen reach fits =
    Tears-wider (at + from) (length part) at size seen (overlaid seen (at + from) part) (omega arith) (omega (arith, fits)) (Tears-overlaid (at + from) part seen reach)

tears_from : (from : ℕ) (file : FileId) (at size : ℕ) (old new : System) → SameBeside file old new → PendsFrom from at size (old.world.disk file) (new.world.disk file)
    → Tears at size (old.world.disk file).seen (new.world.disk file).seen → KeepsTime from old.world new.world → TearsFrom from file at size old new
tears_from zero file at size old new same pends seen time = record {
  state = record { pends = inl pends; seen = seen };
  others = same.others;
  input = same.input;
  output = same.output;
  syncs = same.syncs;
  past = inl time;
}
tears_from (suc from) file at size old new same pends seen time = (pends, seen, time)

-- a part of a write, after which the call is refused
pub fails : (from : ℕ) (file : FileId) (at size : ℕ) (part input : List ℕ) (h : MemoryState) → MayWriteOn from at size (h.disk file) → from + length part ≤ size
    → FailsPart from file at size (system_of input h) (system_of input (write_part file at size from (at + from) part h))
fails from file at size part input h goes fits =
    let change = part_written from at size (at + from) part in
    let old = system_of input h in
    let new = system_of input (write_part file at size from (at + from) part h) in
    let now = sym (there file change h.disk) in
    let same = beside file at size from (at + from) part input h in
    record {
      beside = same;
      torn = tears_from from file at size old new same
          (subst (λ (s : FileState). PendsFrom from at size (h.disk file) s) now (pends_from from at size (at + from) part (h.disk file)))
          (subst (λ (s : FileState). Tears at size (h.disk file).seen s.seen) now (part_tears at size from part (h.disk file).seen goes.reach fits))
          (keeps_time from old.world new.world refl);
    }

none_tears : (at size : ℕ) (seen : List ℕ) → Tears at size seen seen
none_tears at size seen = record { before = refl; after = refl; no_shorter = omega arith; no_longer = omega arith }

-- a part of a write that is refused before anything is done
pub fails_unbegun : (from : ℕ) (file : FileId) (at size : ℕ) (s : System) → FailsPart from file at size s s
fails_unbegun from file at size s = record {
  beside = record { others = λ f apart. refl; input = refl; output = refl; syncs = refl; entries = record { entered = refl; doubtful = refl; lost = refl } };
  torn = unbegun from;
} where
  unbegun : (from : ℕ) → TearsFrom from file at size s s
  unbegun zero = record {
    state = record { pends = inr refl; seen = none_tears at size (s.world.disk file).seen };
    others = λ f apart. refl;
    input = refl;
    output = refl;
    syncs = refl;
    past = inr (refl, refl);
  }
  unbegun (suc from) = ((refl, refl, refl), none_tears at size (s.world.disk file).seen, λ before is. is)

-- a sync of a file
pub syncs_file : (file : FileId) (input : List ℕ) (h : MemoryState) → SyncsData file true (system_of input h) (system_of input (sync_file file h))
syncs_file file input h = record {
  synced = record {
    state = there file (λ s. settled s.seen) h.disk;
    others = λ f apart. elsewhere file (λ s. settled s.seen) h.disk f apart;
    input = refl;
    output = refl;
    counted = omega arith;
    once = omega arith;
    past = inl refl;
  };
  count = λ ok. refl;
  entered = refl;
  lost = refl;
  others = λ f apart. refl;
  calm = λ ok. refl;
}

-- and one that is refused
pub doubts_file : (file : FileId) (input : List ℕ) (h : MemoryState) → SyncsData file false (system_of input h) (system_of input (doubt_file file h))
doubts_file file input h = record {
  synced = record { state = refl; others = λ f apart. refl; input = refl; output = refl; counted = omega arith; once = omega arith; past = inr (refl, refl) };
  count = λ ok. absurd (false≢true ok);
  entered = refl;
  lost = refl;
  others = λ f apart. flag_elsewhere file true h.is_doubtful f apart;
  calm = λ ok. absurd (false≢true ok);
}

pub sync_unbegun : (file : FileId) (s : System) → SyncsData file false s s
sync_unbegun file s = record {
  synced = record { state = refl; others = λ f apart. refl; input = refl; output = refl; counted = omega arith; once = omega arith; past = inr (refl, refl) };
  count = λ ok. absurd (false≢true ok);
  entered = refl;
  lost = refl;
  others = λ f apart. refl;
  calm = λ ok. absurd (false≢true ok);
}

pub makes : (file : FileId) (input : List ℕ) (h : MemoryState) → MakesFile file (system_of input h) (system_of input (make_file file h))
makes file input h = record { world = refl; others = λ f apart. flag_elsewhere file false h.is_entered f apart; doubtful = refl; lost = refl }

-- what a read gives may stay
here_stays : (file : FileId) (change : FileState → FileState) (disk : Disk) → MayLeave (change (disk file)) (change (disk file)).seen → ((f : FileId) → MayLeave (disk f) (disk f).seen)
    → (f : FileId) → MayLeave (disk_with file change disk f) (disk_with file change disk f).seen
here_stays file change disk here stay f = elim (cases_file f file) [
  | inl is ↦ subst (λ (g : FileId). MayLeave (disk_with file change disk g) (disk_with file change disk g).seen) (sym is) (subst (λ (s : FileState). MayLeave s s.seen) (sym (there file change disk)) here)
  | inr apart ↦ subst (λ (s : FileState). MayLeave s s.seen) (sym (elsewhere file change disk f apart)) (stay f)
]

bare_stays : (file : FileId) (change : FileState → FileState) (h : MemoryState) → ((s : FileState) → (change s).base ≡ s.base) → BareUnentered h
    → (f : FileId) → h.is_entered f ≡ false → (disk_with file change h.disk f).base ≡ []
bare_stays file change h same bare f lost = elim (cases_file f file) [
  | inl is ↦
      subst (λ (g : FileId). (disk_with file change h.disk g).base ≡ []) (sym is)
      (ap (λ (s : FileState). s.base) (there file change h.disk) ∙ same (h.disk file) ∙ bare file (subst (λ (g : FileId). h.is_entered g ≡ false) is lost))
  | inr apart ↦ ap (λ (s : FileState). s.base) (elsewhere file change h.disk f apart) ∙ bare f lost
]

-- bytes in a range that is pending
goes_stays : (at size : ℕ) (s : FileState) (new : List ℕ) → IsLastPending at size s → MayLeave s s.seen → Tears at size s.seen new → MayLeave s new
goes_stays at size s new last stay tears = record {
  no_shorter = omega (arith, stay.no_shorter, tears.no_shorter);
  no_longer = omega (arith, stay.no_longer, tears.no_longer, last.longest);
  same = λ i low untouched.
      let apart : ((i < at) ⊎ (at + size ≤ i)) × Untouched last.before i = subst (λ (rs : List (ℕ × ℕ)). Untouched rs i) last.ranges untouched in
      Tears-at at size s.seen new tears i apart.0 ∙ stay.same i low untouched;
}

part_stays : (from at size : ℕ) (part : List ℕ) (s : FileState) → MayWriteOn from at size s → from + length part ≤ size → MayLeave s s.seen
    → MayLeave (part_written from at size (at + from) part s) (part_written from at size (at + from) part s).seen
part_stays zero at size part s goes fits stay =
    torn_may_stay at size s (part_written zero at size (at + zero) part s) (record { base = refl; ranges = refl; longest = refl }) s.seen (overlaid s.seen (at + zero) part) stay
    (part_tears at size zero part s.seen goes.reach fits)
part_stays (suc from) at size part s goes fits stay =
    let left = goes_stays at size s (overlaid s.seen (at + suc from) part) (goes.pending (omega arith)) stay (part_tears at size (suc from) part s.seen goes.reach fits) in
    record { no_shorter = left.no_shorter; no_longer = left.no_longer; same = left.same }

pub write_stays : (file : FileId) (at size from : ℕ) (part : List ℕ) (h : MemoryState) → MayWriteOn from at size (h.disk file) → from + length part ≤ size → AllStay h → AllStay (write_part file at size from (at + from) part h)
write_stays file at size from part h goes fits stay = here_stays file (part_written from at size (at + from) part) h.disk (part_stays from at size part (h.disk file) goes fits (stay file)) stay

pub write_bare : (file : FileId) (at size from : ℕ) (part : List ℕ) (h : MemoryState) → BareUnentered h → BareUnentered (write_part file at size from (at + from) part h)
write_bare file at size from part h bare = bare_stays file (part_written from at size (at + from) part) h (λ s. refl) bare

settled_stay : (bytes : List ℕ) → MayLeave (settled bytes) bytes
settled_stay bytes = record { no_shorter = omega arith; no_longer = omega arith; same = λ i low untouched. refl }

pub sync_stays : (file : FileId) (h : MemoryState) → AllStay h → AllStay (sync_file file h)
sync_stays file h stay = here_stays file (λ s. settled s.seen) h.disk (settled_stay (h.disk file).seen) stay

pub sync_bare : (file : FileId) (h : MemoryState) → IsTrue (h.is_entered file) → BareUnentered h → BareUnentered (sync_file file h)
sync_bare file h entered bare f lost = elim (cases_file f file) [
  | inl is ↦ absurd (false≢true (sym (subst (λ (g : FileId). h.is_entered g ≡ false) is lost) ∙ entered))
  | inr apart ↦ ap (λ (s : FileState). s.base) (elsewhere file (λ s. settled s.seen) h.disk f apart) ∙ bare f lost
]

-- a file that is made has no bytes
pub make_bare : (file : FileId) (h : MemoryState) → (h.disk file).seen ≡ [] → AllStay h → BareUnentered h → BareUnentered (make_file file h)
make_bare file h none stay bare f lost = elim (cases_file f file) [
  | inl is ↦ subst (λ (g : FileId). (h.disk g).base ≡ []) (sym is) (no_bytes (h.disk file).base (omega (arith, (stay file).no_shorter, ap length none)))
  | inr apart ↦ bare f (sym (flag_elsewhere file false h.is_entered f apart) ∙ lost)
] where
  no_bytes : (l : List ℕ) → length l ≤ 0 → l ≡ []
  no_bytes [] low = refl
  no_bytes (x ∷ l) low = absurd (omega (arith, low))

-- how often a replay stands at an event
pub held_next : (events : List Event) (i : ℕ) (e : Event) → i < length events → e ≡ get_or events i e → held_of (take (i + 1) events) ≡ after_event e (held_of (take i events))
held_next events i e low is =
    ap held_of (take_more events i e low ∙ ap (λ (x : Event). take i events ++ x ∷ []) (sym is)) ∙ after_events-push nothing (take i events) e

pub enters : (input : List ℕ) (h : MemoryState) → EntersAll true (system_of input h) (system_of input (enter_all h))
enters input h = record { world = refl; entered = λ ok f. refl; calm = λ ok. refl; stays = λ f was. refl; doubtful = refl }

pub loses : (input : List ℕ) (h : MemoryState) → EntersAll false (system_of input h) (system_of input (lose_entries h))
loses input h = record { world = refl; entered = λ ok. absurd (false≢true ok); calm = λ ok. absurd (false≢true ok); stays = λ f was. was; doubtful = refl }

pub true≢false : true ≡ false → ⊥
true≢false is = false≢true (sym is)

-- a part of a text is within it
pub part_fits : (n from : ℕ) (bytes : List ℕ) → from ≤ length bytes → n ≤ length bytes - from → from + length (take n (drop from bytes)) ≤ length bytes
part_fits n from bytes low within = omega (arith, low, within, length-take n (drop from bytes), length-drop from bytes)

pub enter_unbegun : (s : System) → EntersAll false s s
enter_unbegun s = record { world = refl; entered = λ ok. absurd (false≢true ok); calm = λ ok. absurd (false≢true ok); stays = λ f was. was; doubtful = refl }

pub make_unbegun : (file : FileId) (s : System) → MakesFile file s s
make_unbegun file s = record { world = refl; others = λ f apart. refl; doubtful = refl; lost = refl }
