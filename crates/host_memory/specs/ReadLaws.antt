-- What a read gives is always among what a crash may leave.
use Rattle.std.specs.Prelude.{◌≡◌, ◌⊎◌, ℕ, ◌+◌, ◌-◌, ◌<◌, ◌≤◌, min, Bool, true, false, if◌then◌else◌, List, [], ◌∷◌, ◌++◌, length, take, drop, slice_index, nat_le, refl}
use Rattle.std.proofs.Common.{inl, inr, ◌∙◌, ap, arith, length-append, length-take, length-drop, get_or-take}
use Rattle.std.proofs.lemmas.List.{get_or_append_left, get_or-append_right, get_or-drop}
use Rattle.host_trait.specs.declared.channels.FileId.{FileId}
use Rattle.host_trait.specs.Disk.{FileState, MayLeave, overlaid, settled}
use Rattle.host_memory.specs.declared.events.Event.{Event}
use Rattle.host_memory.specs.declared.events.Event.TheVariants.{Emitted, Wrote, Tore, Synced, Put}
use Rattle.host_memory.specs.declared.events.Noted.{Noted}
use Rattle.host_memory.specs.Replay.{is_on, changed, state_step, after_all, after_some, state_of, state_at}

-- what a read gives of this file may stay behind a crash
abbrev pub SeenStays : FileState → Type 0
SeenStays file = MayLeave file file.seen

-- so it is of a file whose bytes all last
pub settled_stays : (bytes : List ℕ) → SeenStays (settled bytes)
settled_stays bytes = record { no_shorter = omega arith; no_longer = omega arith; same = λ i low untouched. refl }

module _ (at : ℕ) (bytes old : List ℕ) where
  overlaid_length : length (overlaid old at bytes) ≡ min at (length old) + length bytes + (length old - (at + length bytes))
  overlaid_length = omega (arith, length-append (take at old ++ bytes) (drop (at + length bytes) old), length-append (take at old) bytes, length-take at old, length-drop (at + length bytes) old)

  overlaid_below : (i : ℕ) → i < length old → i < at → slice_index (overlaid old at bytes) i ≡ slice_index old i
  overlaid_below i within low =
      get_or_append_left (take at old ++ bytes) _ 0 i (omega (arith, length-append (take at old) bytes, length-take at old))
      ∙ get_or_append_left (take at old) bytes 0 i (omega (arith, length-take at old)) ∙ get_or-take at old i 0 low

  overlaid_above : (i : ℕ) → i < length old → at + length bytes ≤ i → slice_index (overlaid old at bytes) i ≡ slice_index old i
  overlaid_above i within high =
      let back : at + length bytes + (i - (at + length bytes)) ≡ i = omega arith in
      get_or-append_right (take at old ++ bytes) _ (at + length bytes) i 0 (omega (arith, length-append (take at old) bytes, length-take at old)) high
      ∙ get_or-drop (at + length bytes) old (i - (at + length bytes)) 0 ∙ ap (slice_index old) back

-- it stays so by an event
changed_stays : (e : Event) (s : FileState) → SeenStays s → SeenStays (changed e s)
changed_stays (Emitted bytes) s here = here
changed_stays (Wrote file at bytes) s here = record {
  no_shorter = omega (arith, overlaid_length at bytes.items s.seen, here.no_shorter);
  no_longer = omega (arith, overlaid_length at bytes.items s.seen, here.no_longer);
  same = λ i low untouched. outside i low untouched.0 ∙ here.same i low untouched.1;
} where
  outside : (i : ℕ) → i < length s.base → (i < at) ⊎ (at + length bytes.items ≤ i) → slice_index (overlaid s.seen at bytes.items) i ≡ slice_index s.seen i
  outside i low (inl below) = overlaid_below at bytes.items s.seen i (omega (arith, here.no_shorter)) below
  outside i low (inr above) = overlaid_above at bytes.items s.seen i (omega (arith, here.no_shorter)) above
changed_stays (Tore file at len) s here = record { no_shorter = here.no_shorter; no_longer = omega (arith, here.no_longer); same = λ i low untouched. here.same i low untouched.1 }
changed_stays (Synced file true) s here = settled_stays s.seen
changed_stays (Synced file false) s here = here
changed_stays (Put file bytes) s here = settled_stays bytes.items

-- by an event, whichever file it is about
step_stays : (f : FileId) (e : Event) (s : FileState) → SeenStays s → SeenStays (state_step f e s)
step_stays f e s here = by (is_on f e)
  where
    by : (b : Bool) → SeenStays (if b then changed e s else s)
    by true = changed_stays e s here
    by false = here

-- by any events, one after the other
all_stay : (f : FileId) (events : List Noted) (s : FileState) → SeenStays s → SeenStays (after_all (state_step f) s events)
all_stay f [] s here = here
all_stay f (noted ∷ events) s here = all_stay f events (state_step f noted.event s) (step_stays f noted.event s here)

-- and of each file after any events
pub stays : (events : List Noted) (f : FileId) → SeenStays (state_of events f)
stays events f = all_stay f events (settled []) (settled_stays [])

-- by those of them that came up to a stamp
some_stay : (f : FileId) (until : ℕ) (events : List Noted) (s : FileState) → SeenStays s → SeenStays (after_some (state_step f) until s events)
some_stay f until [] s here = here
some_stay f until (noted ∷ events) s here = some_stay f until events (if nat_le noted.stamp until then state_step f noted.event s else s) (by (nat_le noted.stamp until))
  where
    by : (b : Bool) → SeenStays (if b then state_step f noted.event s else s)
    by true = step_stays f noted.event s here
    by false = here

-- and by the events up to a stamp
pub some_stays : (until : ℕ) (events : List Noted) (f : FileId) → SeenStays (state_at until events f)
some_stays until events f = some_stay f until events (settled []) (settled_stays [])
