-- What one event more, or one call more, makes of the world.
use Rattle.std.proofs.Common.{◌≡◌, ◌⊎◌, inl, inr, ℕ, zero, suc, ◌+◌, ◌*◌, ◌≤◌, ◌<◌, nat_le, Bool, true, false, if◌then◌else◌, ◌||◌, List, [], ◌∷◌, ◌++◌, Vec, length, take, get_or, refl, sym, ◌∙◌, ap, subst, arith, append-nil}
use Rattle.std.specs.declared.alloc.Global.{Global}
use Rattle.std.proofs.lemmas.Bool.{and_parts, and_from, leb-true, le-leb, lt-leb}
use Rattle.std.proofs.lemmas.List.{take_all, take_more}
use Rattle.host_trait.specs.declared.channels.FileId.{FileId}
use Rattle.host_trait.specs.Disk.{FileState, Wrote, Overwrote, settled}
use Rattle.host_trait.specs.Files.{same_file}
use Rattle.host_trait.specs.World.{Disk, Moment, Asked, Emitted, Written, Synced, moment_of}
use Rattle.host_trait.proofs.Names.{same_file-refl, other_file}
use Rattle.host_trait.proofs.Crashes.{Tears-refl, Tears-overlaid}
use Rattle.host_memory.specs.declared.events.Event.{Event}
use Rattle.host_memory.specs.declared.events.Event.TheVariants as event
use Rattle.host_memory.specs.declared.events.Noted.{Noted}
use Rattle.host_memory.specs.Replay.{is_on, changed, state_step, written_step, output_step, syncs_step, after_all, after_some, state_of, written_by, output_of, syncs_of, state_at, moment_at, moments_of, world_of, are_by, AreBy, IsTorn}

pub after_all-push : {S : Type 0} (step : Event → S → S) (s : S) (events : List Noted) (e : Noted) → after_all step s (events ++ e ∷ []) ≡ step e.event (after_all step s events)
after_all-push step s [] e = refl
after_all-push step s (x ∷ events) e = after_all-push step (step x.event s) events e

-- where no event is later, the stamps up to there are all
pub some_is_all : {S : Type 0} (step : Event → S → S) (until : ℕ) (s : S) (events : List Noted) → AreBy until events → after_some step until s events ≡ after_all step s events
some_is_all step until s [] by = refl
some_is_all step until s (x ∷ events) by =
    let both = and_parts (nat_le x.stamp until) (are_by until events) by in
    ap (λ (b : Bool). after_some step until (if b then step x.event s else s) events) both.0 ∙ some_is_all step until (step x.event s) events both.1

-- an event that comes later changes nothing of before
some-push : {S : Type 0} (step : Event → S → S) (until : ℕ) (s : S) (events : List Noted) (e : Noted) → until < e.stamp → after_some step until s (events ++ e ∷ []) ≡ after_some step until s events
some-push step until s [] e later = ap (λ (b : Bool). if b then step e.event s else s) (lt-leb e.stamp until later)
some-push step until s (x ∷ events) e later = some-push step until (if nat_le x.stamp until then step x.event s else s) events e later

moment-push : (until : ℕ) (events : List Noted) (e : Noted) → until < e.stamp → moment_at until (events ++ e ∷ []) ≡ moment_at until events
moment-push until events e later =
    let output = some-push output_step until [] events e later in
    let disk : (f : FileId) → state_at until (events ++ e ∷ []) f ≡ state_at until events f = λ f. some-push (state_step f) until (settled []) events e later in
    λ i. record { output = output i; disk = λ f. disk f i }

moments-push : (calls : ℕ) (events : List Noted) (e : Noted) → 2 * calls < e.stamp → moments_of (events ++ e ∷ []) calls ≡ moments_of events calls
moments-push zero events e later = refl
moments-push (suc calls) events e later =
    ap (λ (l : List Moment). l ++ moment_at (2 * suc calls) (events ++ e ∷ []) ∷ []) (moments-push calls events e (omega (arith, later)))
    ∙ ap (λ (m : Moment). moments_of events calls ++ m ∷ []) (moment-push (2 * suc calls) events e later)

pub AreBy-weaker : (a b : ℕ) (events : List Noted) → a ≤ b → AreBy a events → AreBy b events
AreBy-weaker a b [] up by = refl
AreBy-weaker a b (x ∷ events) up by =
    let both = and_parts (nat_le x.stamp a) (are_by a events) by in
    let low : x.stamp ≤ a = leb-true x.stamp a both.0 in
    and_from (nat_le x.stamp b) (are_by b events) (le-leb x.stamp b (omega (arith, low, up))) (AreBy-weaker a b events up both.1)

pub AreBy-push : (a : ℕ) (events : List Noted) (e : Noted) → AreBy a events → e.stamp ≤ a → AreBy a (events ++ e ∷ [])
AreBy-push a [] e by low = and_from (nat_le e.stamp a) true (le-leb e.stamp a low) refl
AreBy-push a (x ∷ events) e by low =
    let both = and_parts (nat_le x.stamp a) (are_by a events) by in
    and_from (nat_le x.stamp a) (are_by a (events ++ e ∷ [])) both.0 (AreBy-push a events e both.1 low)

-- the moment that is now
moment_now : (until : ℕ) (events : List Noted) → AreBy until events → moment_at until events ≡ (record { output = output_of events; disk = λ f. state_of events f })
moment_now until events by =
    let output = some_is_all output_step until [] events by in
    let disk : (f : FileId) → state_at until events f ≡ state_of events f = λ f. some_is_all (state_step f) until (settled []) events by in
    λ i. record { output = output i; disk = λ f. disk f i }

next_call : (calls : ℕ) (events : List Noted) → moments_of events (calls + 1) ≡ moments_of events calls ++ moment_at (2 * (calls + 1)) events ∷ []
next_call calls events =
    let next : calls + 1 ≡ suc calls = omega arith in
    ap (moments_of events) next ∙ ap (λ (n : ℕ). moments_of events calls ++ moment_at (2 * n) events ∷ []) (sym next)

module _ (input : List ℕ) (events : List Noted) (call : ℕ) (clock : AreBy (2 * call + 1) events) where
  quiet_ticks : moments_of events (call + 1) ≡ moments_of events call ++ moment_of (world_of input events (call + 1)) ∷ []
  quiet_ticks = next_call call events ∙ ap (λ (m : Moment). moments_of events call ++ m ∷ []) (moment_now (2 * (call + 1)) events (AreBy-weaker (2 * call + 1) (2 * (call + 1)) events (omega arith) clock))

  -- a call that changed nothing, or that wasn't counted
  pub asked : (next : ℕ) → (next ≡ call + 1) ⊎ (next ≡ call) → Asked (world_of input events call) (world_of input events next)
  asked next (inl is) = subst (λ (n : ℕ). Asked (world_of input events call) (world_of input events n)) (sym is) (record { input = refl; output = refl; disk = refl; syncs = refl; past = inl quiet_ticks })
  asked next (inr is) = subst (λ (n : ℕ). Asked (world_of input events call) (world_of input events n)) (sym is) (record { input = refl; output = refl; disk = refl; syncs = refl; past = inr (refl, refl) })

  pub none_emitted : (next : ℕ) (bytes : List ℕ) → (next ≡ call + 1) ⊎ (next ≡ call) → Emitted 0 bytes (world_of input events call) (world_of input events next)
  none_emitted next bytes tick =
      let quiet = asked next tick in
      record { count = omega arith; input = quiet.input; output = quiet.output ∙ sym (append-nil (output_of events)); disk = quiet.disk; syncs = quiet.syncs; past = quiet.past }

  pub none_written : (next : ℕ) (file : FileId) (at n : ℕ) → (next ≡ call + 1) ⊎ (next ≡ call) → Written file at n (world_of input events call) (world_of input events next)
  none_written next file at n tick =
      let quiet = asked next tick in
      record {
        state = record { pends = inr (ap (λ (d : Disk). d file) quiet.disk); seen = Tears-refl at n (state_of events file).seen };
        others = λ f other. ap (λ (d : Disk). d f) quiet.disk;
        input = quiet.input;
        output = quiet.output;
        syncs = quiet.syncs;
        past = quiet.past;
      }

  pub none_synced : (next : ℕ) (file : FileId) → (next ≡ call + 1) ⊎ (next ≡ call) → Synced file false (world_of input events call) (world_of input events next)
  none_synced next file tick =
      let quiet = asked next tick in
      record { state = refl; others = λ f other. refl; input = refl; output = refl; counted = omega arith; once = omega arith; past = quiet.past }

  module _ (e : Event) where
    pub clock_on : AreBy (2 * (call + 1) + 1) (events ++ (record { stamp = 2 * (call + 1); event = e }) ∷ [])
    clock_on = AreBy-push (2 * (call + 1) + 1) events (record { stamp = 2 * (call + 1); event = e }) (AreBy-weaker (2 * call + 1) (2 * (call + 1) + 1) events (omega arith) clock) (omega arith)

    event_ticks : moments_of (events ++ (record { stamp = 2 * (call + 1); event = e }) ∷ []) (call + 1)
        ≡ moments_of events call ++ moment_of (world_of input (events ++ (record { stamp = 2 * (call + 1); event = e }) ∷ []) (call + 1)) ∷ []
    event_ticks =
        let n : Noted = record { stamp = 2 * (call + 1); event = e } in
        let by : AreBy (2 * (call + 1)) (events ++ n ∷ []) = AreBy-push (2 * (call + 1)) events n (AreBy-weaker (2 * call + 1) (2 * (call + 1)) events (omega arith) clock) (omega arith) in
        next_call call (events ++ n ∷ [])
        ∙ ap (λ (l : List Moment). l ++ moment_at (2 * (call + 1)) (events ++ n ∷ []) ∷ []) (moments-push call events n (omega arith))
        ∙ ap (λ (m : Moment). moments_of events call ++ m ∷ []) (moment_now (2 * (call + 1)) (events ++ n ∷ []) by)

    -- a file that the event is on, and all others
    pub on_file : (file : FileId) → is_on file e ≡ true → state_of (events ++ (record { stamp = 2 * (call + 1); event = e }) ∷ []) file ≡ changed e (state_of events file)
    on_file file is =
        after_all-push (state_step file) (settled []) events (record { stamp = 2 * (call + 1); event = e }) ∙ ap (λ (b : Bool). if b then changed e (state_of events file) else state_of events file) is

    pub off_file : (f : FileId) → is_on f e ≡ false → state_of (events ++ (record { stamp = 2 * (call + 1); event = e }) ∷ []) f ≡ state_of events f
    off_file f other =
        after_all-push (state_step f) (settled []) events (record { stamp = 2 * (call + 1); event = e }) ∙ ap (λ (b : Bool). if b then changed e (state_of events f) else state_of events f) other

    pub output_on : output_of (events ++ (record { stamp = 2 * (call + 1); event = e }) ∷ []) ≡ output_step e (output_of events)
    output_on = after_all-push output_step [] events (record { stamp = 2 * (call + 1); event = e })

    pub syncs_on : syncs_of (events ++ (record { stamp = 2 * (call + 1); event = e }) ∷ []) ≡ syncs_step e (syncs_of events)
    syncs_on = after_all-push syncs_step 0 events (record { stamp = 2 * (call + 1); event = e })

  pub one_emitted : (bytes : Vec ℕ Global) → Emitted (length bytes.items) bytes.items (world_of input events call) (world_of input (events ++ (record { stamp = 2 * (call + 1); event = event.Emitted bytes }) ∷ []) (call + 1))
  one_emitted bytes =
      let e = event.Emitted bytes in
      let disk : (f : FileId) → state_of (events ++ (record { stamp = 2 * (call + 1); event = e }) ∷ []) f ≡ state_of events f = λ f. off_file e f refl in
      record {
        count = omega arith;
        input = refl;
        output = output_on e ∙ ap (λ (l : List ℕ). output_of events ++ l) (sym (take_all (length bytes.items) bytes.items (omega arith)));
        disk = λ i f. disk f i;
        syncs = syncs_on e;
        past = inl (event_ticks e);
      }

  pub overwrote : (file : FileId) (at : ℕ) (bytes : Vec ℕ Global) → Overwrote at bytes.items (state_of events file) (state_of (events ++ (record { stamp = 2 * (call + 1); event = event.Wrote file at bytes }) ∷ []) file)
  overwrote file at bytes =
      subst (λ (s : FileState). Overwrote at bytes.items (state_of events file) s) (sym (on_file (event.Wrote file at bytes) file (same_file-refl file)))
      (record { pends = record { base = refl; ranges = refl; longest = refl }; seen = refl })

  pub one_written : (file : FileId) (at : ℕ) (bytes : Vec ℕ Global) → at ≤ length (state_of events file).seen
      → Written file at (length bytes.items) (world_of input events call) (world_of input (events ++ (record { stamp = 2 * (call + 1); event = event.Wrote file at bytes }) ∷ []) (call + 1))
  one_written file at bytes within =
      let e = event.Wrote file at bytes in
      record {
        state = subst (λ (s : FileState). Wrote at (length bytes.items) (state_of events file) s) (sym (on_file e file (same_file-refl file)))
            (record { pends = inl (record { base = refl; ranges = refl; longest = refl }); seen = Tears-overlaid at bytes.items (state_of events file).seen within });
        others = λ f other. off_file e f (other_file file f (λ is. other (sym is)));
        input = refl;
        output = output_on e;
        syncs = syncs_on e;
        past = inl (event_ticks e);
      }

  pub torn : (file : FileId) (at len : ℕ) → IsTorn at len (state_of events file) (state_of (events ++ (record { stamp = 2 * (call + 1); event = event.Tore file at len }) ∷ []) file)
  torn file at len =
      subst (λ (s : FileState). IsTorn at len (state_of events file) s) (sym (on_file (event.Tore file at len) file (same_file-refl file)))
      (record { pends = record { base = refl; ranges = refl; longest = refl }; seen = refl })

  pub one_torn : (file : FileId) (at len : ℕ) → Written file at len (world_of input events call) (world_of input (events ++ (record { stamp = 2 * (call + 1); event = event.Tore file at len }) ∷ []) (call + 1))
  one_torn file at len =
      let e = event.Tore file at len in
      record {
        state = subst (λ (s : FileState). Wrote at len (state_of events file) s) (sym (on_file e file (same_file-refl file)))
            (record { pends = inl (record { base = refl; ranges = refl; longest = refl }); seen = Tears-refl at len (state_of events file).seen });
        others = λ f other. off_file e f (other_file file f (λ is. other (sym is)));
        input = refl;
        output = output_on e;
        syncs = syncs_on e;
        past = inl (event_ticks e);
      }

  pub one_synced : (file : FileId) (ok : Bool) → Synced file ok (world_of input events call) (world_of input (events ++ (record { stamp = 2 * (call + 1); event = event.Synced file ok }) ∷ []) (call + 1))
  one_synced file ok =
      let e = event.Synced file ok in
      let syncs = syncs_on e in
      record {
        state = on_file e file (same_file-refl file);
        others = λ f other. off_file e f (other_file file f (λ is. other (sym is)));
        input = refl;
        output = output_on e;
        counted = omega (arith, syncs);
        once = omega (arith, syncs);
        past = inl (event_ticks e);
      }

pub tick_clock : (call next : ℕ) (events : List Noted) → (next ≡ call + 1) ⊎ (next ≡ call) → AreBy (2 * call + 1) events → AreBy (2 * next + 1) events
tick_clock call next events (inl is) clock = AreBy-weaker (2 * call + 1) (2 * next + 1) events (omega (arith, is)) clock
tick_clock call next events (inr is) clock = AreBy-weaker (2 * call + 1) (2 * next + 1) events (omega (arith, is)) clock

if_or : (a b : Bool) → (if a then true || b else b) ≡ (a || b)
if_or true b = refl
if_or false b = refl

-- what is put into a file from outside, after so many calls
module _ (events : List Noted) (call : ℕ) (file : FileId) (bytes : Vec ℕ Global) where
  pub placed_disk : (f : FileId) → state_of (events ++ (record { stamp = 2 * call + 1; event = event.Put file bytes }) ∷ []) f ≡ (if same_file file f then settled bytes.items else state_of events f)
  placed_disk f = after_all-push (state_step f) (settled []) events (record { stamp = 2 * call + 1; event = event.Put file bytes })

  pub placed_written : (f : FileId) → written_by (events ++ (record { stamp = 2 * call + 1; event = event.Put file bytes }) ∷ []) f ≡ (same_file file f || written_by events f)
  placed_written f = after_all-push (written_step f) false events (record { stamp = 2 * call + 1; event = event.Put file bytes }) ∙ if_or (same_file file f) (written_by events f)

  pub placed_past : moments_of (events ++ (record { stamp = 2 * call + 1; event = event.Put file bytes }) ∷ []) call ≡ moments_of events call
  placed_past = moments-push call events (record { stamp = 2 * call + 1; event = event.Put file bytes }) (omega arith)

  pub placed_output : output_of (events ++ (record { stamp = 2 * call + 1; event = event.Put file bytes }) ∷ []) ≡ output_of events
  placed_output = after_all-push output_step [] events (record { stamp = 2 * call + 1; event = event.Put file bytes })

  pub placed_syncs : syncs_of (events ++ (record { stamp = 2 * call + 1; event = event.Put file bytes }) ∷ []) ≡ syncs_of events
  placed_syncs = after_all-push syncs_step 0 events (record { stamp = 2 * call + 1; event = event.Put file bytes })

  pub placed_clock : AreBy (2 * call + 1) events → AreBy (2 * call + 1) (events ++ (record { stamp = 2 * call + 1; event = event.Put file bytes }) ∷ [])
  placed_clock clock = AreBy-push (2 * call + 1) events (record { stamp = 2 * call + 1; event = event.Put file bytes }) clock (omega arith)

-- the syncs of one event more
pub syncs_more : (events : List Noted) (i syncs one : ℕ) (e : Noted) → i < length events → e ≡ get_or events i e → syncs ≡ syncs_of (take i events) → ((n : ℕ) → syncs_step e.event n ≡ n + one) → syncs + one ≡ syncs_of (take (i + 1) events)
syncs_more events i syncs one e low is so_far value =
    ap (λ (n : ℕ). n + one) so_far ∙ sym (value (syncs_of (take i events))) ∙ sym (after_all-push syncs_step 0 (take i events) e)
    ∙ sym (ap syncs_of (take_more events i e low ∙ ap (λ (x : Noted). take i events ++ x ∷ []) (sym is)))
