-- What each image keeps while the records of a batch are sealed.
use Rattle.std.proofs.Common.{◌≡◌, ◌≢◌, ◌⊎◌, inl, inr, ℕ, ◌+◌, ◌-◌, ◌<◌, ◌≤◌, ◌^◌, List, [], ◌∷◌, ◌++◌, length, slice_index, take, drop, true, false, refl, sym, ◌∙◌, ap, subst, arith, append_assoc, length-append}
use Rattle.std.specs.List.{AllByRecursion}
use Rattle.std.proofs.lemmas.List.{length-take, take_at, drop_at}
use Rattle.std.proofs.lemmas.Bool.{cases_lt, cases_eq}
use Rattle.base_types.specs.declared.calls.GrainId.{GrainId}
use Rattle.base_types.specs.declared.shapes.Shape.{Shape}
use Rattle.host_trait.specs.declared.channels.FileId.{FileId}
use Rattle.host_trait.specs.declared.channels.FileId.TheVariants.{Program as ProgramFile, Manager, Grain}
use Rattle.host_trait.specs.Disk.{FileState, MayLeave, Tears}
use Rattle.host_trait.specs.World.{World, Moment, Disk, Image, IsImage, Passes, moment_of, with_bytes}
use Rattle.host_trait.specs.Runs.{ChangesFile}
use Rattle.host_trait.proofs.Crashes.{Tears-overlaid, Tears-at}
use Rattle.host_trait.proofs.Moments.{met, weaker}
use Rattle.host_trait.proofs.Names.{cases_file}
use Rattle.host_trait.proofs.Runs.{image_from, with_bytes-there, with_bytes-other}
use Rattle.field_codec.specs.declared.formats.Format.TheVariants.{Two}
use Rattle.gate_block.specs.Blocks.{block_of}
use Rattle.gate_block.specs.Log.{HasBlocks, LogsUpTo, SomeLogs, EachLogs, EachLogsOrMore}
use Rattle.gate_block.proofs.Logs.{blocks_same, still_closed, one_log}
use Rattle.commit_log.specs.declared.records.Written.{Written}
use Rattle.commit_log.specs.declared.gate.Sealing.TheVariants.{InDoubt}
use Rattle.commit_log.specs.SealImages.{staged, EndsAs, DoubtAs, StaysClosed}
use Rattle.promise_spec.specs.Records.{Commit}
use Rattle.promise_spec.specs.Crashes.{IsAside}
use Rattle.promise_spec.specs.Programs.{shape_in}
use Rattle.promise_spec.specs.Entries.{Standing, Log, records_of, standing_of, grown}
use Rattle.promise_spec.specs.Versions.{IsKept}
use Rattle.promise_spec.specs.Blocks.{Records, body_of}
use Rattle.silo_spec.specs.Silos.{IsMagic}
use Rattle.silo_spec.specs.Slots.{IsLive}
use Rattle.promise_spec.specs.Logs.{StandsUpTo, IsLog}
use Rattle.promise_spec.proofs.Standings.{program_stays, grown_records, grown_stands}
use Rattle.promise_spec.proofs.Growing.{sealed as grows, sealed_begins as grows_begin}
use Rattle.promise_spec.proofs.Slots.{live_moves, other_slot}
use Rattle.batch_disk.specs.ImagesAtRest.{EachImage, SomeImage, IsBelow, AreBelow, AreNamedBy, PlacesAreNamed, Voted, StandsIn, IsAtRest, raised_ends, all_writes}
use Rattle.batch_disk.specs.Moments.{LeavesRest, KeepsLog, IsSeam}
use Rattle.batch_disk.specs.Seals.{may_open, NoneHas, IsSealInDoubt}
use Rattle.batch_disk.proofs.Lists.{each_any, each_leads, each_list, both_parts}
use Rattle.batch_disk.proofs.Ends.{raised_up, raised_each, raised_long, kept_within}
use Rattle.batch_disk.proofs.OpenGates.{opens, stays_shut}
use Rattle.batch_disk.proofs.ImagePlaces.{IsSameAt, IsNextBatch, stands_same, named_lead, stands_up_same, begins_up_same, shorter_front, batch_stands}

-- the slot of a manager file, this one for any other file
abbrev slot_in : ℕ → FileId → ℕ
slot_in other (ProgramFile s) = other
slot_in other (Manager s) = s
slot_in other (Grain s g) = other

aside_manager : (live : ℕ) (f : FileId) → IsAside live f → f ≢ Manager live
aside_manager live (ProgramFile slot) aside e = absurd cc
aside_manager live (Manager slot) aside e = aside (ap (slot_in slot) e)
aside_manager live (Grain slot g) aside e = absurd cc

-- an image with other bytes in one file, where both may be left
pub with_left : (disk : Disk) (image : Image) (file : FileId) (c : List ℕ) → IsImage disk image → MayLeave (disk file) c → IsImage disk (with_bytes image file c)
with_left disk image file c is left f = elim (cases_file f file) [
  | inl same ↦
      subst (λ (g : FileId). MayLeave (disk g) (with_bytes image file c g)) (sym same)
      (subst (λ (l : List ℕ). MayLeave (disk file) l) (sym (with_bytes-there image file c)) left)
  | inr other ↦ subst (λ (l : List ℕ). MayLeave (disk f) l) (sym (with_bytes-other image file c f other)) (is f)
]

module _ (live : ℕ) (shape : Shape) (head : List ℕ) (log : Log) (bodies : List (List ℕ)) (gate reached session : ℕ) (ends : GrainId → ℕ) (voted : List Voted) (batch : List Commit) (named : PlacesAreNamed shape log ends) (later : reached ≤ session) (may : session < 2 ^ 63) (next : IsNextBatch shape voted batch) where
  -- ---- one image

  module _ (was image : Image) (at : IsAtRest live shape head log bodies gate reached ends voted was) (others : (f : FileId) → f ≢ (Manager live) → image f ≡ was f) (n : ℕ) (torn : Tears gate n (was (Manager live)) (image (Manager live))) where
    grains : (g : GrainId) → image (Grain live g) ≡ was (Grain live g)
    grains g = others (Grain live g) (λ e. absurd cc)

    any_same : (w : Written) → IsSameAt live shape was image w
    any_same w = ap (λ (l : List ℕ). take w.place.len (drop w.place.offset l)) (grains w.grain)

    pub still_head : take 15 (image (Manager live)) ≡ head
    still_head = shorter_front 15 gate (image (Manager live)) (was (Manager live)) (omega (arith, at.stands.stand.at)) torn.before ∙ at.header

    still_front : HasBlocks bodies gate (image (Manager live))
    still_front = blocks_same bodies gate (was (Manager live)) (image (Manager live)) at.stands.stand (omega (arith, at.stands.stand.within, torn.no_shorter)) torn.before

    -- the log stands up to the gate
    same_head : take 15 (image (Manager live)) ≡ take 15 (was (Manager live))
    same_head = still_head ∙ sym at.header

    same_program : image (ProgramFile live) ≡ was (ProgramFile live)
    same_program = others (ProgramFile live) (λ e. absurd cc)

    same_places : AllByRecursion (λ c. AllByRecursion (IsSameAt live shape was image) c.logged.writes) (records_of log)
    same_places = each_any (λ (c : Commit). AllByRecursion (IsSameAt live shape was image) c.logged.writes) (λ c. each_any (IsSameAt live shape was image) any_same c.logged.writes) (records_of log)

    same_begun : AreNamedBy (IsSameAt live shape was image) at.stands.begins
    same_begun = named_lead (IsBelow ends) (IsSameAt live shape was image) at.stands.begins (λ w low. any_same w) at.begun

    pub still_stands : StandsUpTo Two live image log bodies gate reached
    still_stands = stands_up_same live shape was image log bodies gate reached at.stands same_head same_program still_front same_places same_begun

    still_begun : AreNamedBy (IsBelow ends) still_stands.begins
    unfolding still_stands
    still_begun = subst (AreNamedBy (IsBelow ends)) (sym (begins_up_same live shape was image log bodies gate reached at.stands same_head same_program still_front same_places same_begun)) at.begun

    -- the slot is live still
    still_live : IsLive IsMagic live image
    still_live = live_moves live was image at.is_live same_head still_stands.silo.long (inl (others (Manager (1 - live)) (λ e. other_slot live at.is_live.slot (sym e))))

    still_long : (g : GrainId) → ends g ≤ length (image (Grain live g))
    still_long g = subst (λ (l : List ℕ). ends g ≤ length l) (sym (grains g)) (at.long g)

    still_voted : AllByRecursion (StandsIn live shape image) voted
    still_voted = each_leads (StandsIn live shape was) (StandsIn live shape image) (λ v st. stands_same live shape was image v.unit v.write v.state (any_same v.write) st) voted at.stand

    whole_batch : AllByRecursion (IsKept Two live shape image) batch
    whole_batch = batch_stands live shape image voted batch next.each still_voted

    pub rests_still : LogsUpTo bodies gate (image (Manager live)) → IsAtRest live shape head log bodies gate reached ends voted image
    rests_still logs = record { is_live = still_live; header = still_head; stands = still_stands; closed = logs.closed; begun = still_begun; long = still_long; stand = still_voted }

    pub log_still : LogsUpTo bodies gate (image (Manager live)) → IsLog live image log
    log_still logs = record {
      is_live = still_live;
      is = record { bodies = bodies; gate = gate; session = reached; stands = still_stands; closed = logs.closed };
    }

    -- and with the batch's block behind it, up to the next one
    more_stands : (to : ℕ) → LogsUpTo (bodies ++ body_of Two (Records session batch) ∷ []) to (image (Manager live)) → StandsUpTo Two live image (grown log batch) (bodies ++ body_of Two (Records session batch) ∷ []) to session
    more_stands to logs =
        grows Two live image log bodies gate reached still_stands session later may batch to next.size (subst (λ (s : Shape). AllByRecursion (IsKept Two live s image) batch) named.shape_is whole_batch) logs.blocks

    more_begun : (to : ℕ) → (logs : LogsUpTo (bodies ++ body_of Two (Records session batch) ∷ []) to (image (Manager live))) → AreNamedBy (IsBelow (raised_ends ends (all_writes batch))) (more_stands to logs).begins
    unfolding more_stands
    more_begun to logs =
        subst (AreNamedBy (IsBelow (raised_ends ends (all_writes batch))))
        (sym (grows_begin Two live image log bodies gate reached still_stands session later may batch to next.size (subst (λ (s : Shape). AllByRecursion (IsKept Two live s image) batch) named.shape_is whole_batch) logs.blocks))
        (named_lead (IsBelow ends) (IsBelow (raised_ends ends (all_writes batch))) still_stands.begins (λ w low. omega (arith, low, raised_up ends (all_writes batch) w.grain)) still_begun)

    pub log_more : (to : ℕ) → LogsUpTo (bodies ++ body_of Two (Records session batch) ∷ []) to (image (Manager live)) → IsLog live image (grown log batch)
    log_more to logs = record {
      is_live = still_live;
      is = record { bodies = bodies ++ body_of Two (Records session batch) ∷ []; gate = to; session = session; stands = more_stands to logs; closed = logs.closed };
    }

    pub rests_more : (to : ℕ) → LogsUpTo (bodies ++ body_of Two (Records session batch) ∷ []) to (image (Manager live))
        → IsAtRest live shape head (grown log batch) (bodies ++ body_of Two (Records session batch) ∷ []) to session (raised_ends ends (all_writes batch)) [] image
    rests_more to logs = record {
      is_live = still_live;
      header = still_head;
      stands = more_stands to logs;
      closed = logs.closed;
      begun = more_begun to logs;
      long = raised_long live image ends (all_writes batch) still_long (kept_within live shape image batch whole_batch);
      stand = tt;
    }

  -- what no image decides, once the batch counts
  pub named_more : PlacesAreNamed shape (grown log batch) (raised_ends ends (all_writes batch))
  named_more =
      let to = raised_ends ends (all_writes batch) in
      let program : (standing_of (grown log batch)).program ≡ (standing_of log).program =
      ap (λ (s : Standing). s.program) (grown_stands log batch) ∙ program_stays (standing_of log) batch in
      record {
        shape_is = named.shape_is ∙ ap shape_in (sym program);
        below = subst (AreBelow to) (sym (grown_records log batch)) (both_parts (λ (c : Commit). AllByRecursion (IsBelow to) c.logged.writes) (records_of log) batch
            (each_leads (λ (c : Commit). AllByRecursion (IsBelow ends) c.logged.writes) (λ (c : Commit). AllByRecursion (IsBelow to) c.logged.writes)
            (λ c each. each_leads (IsBelow ends) (IsBelow to) (λ w low. omega (arith, low, raised_up ends (all_writes batch) w.grain)) c.logged.writes each) (records_of log) named.below)
            (each_list (IsBelow to) (λ (c : Commit). c.logged.writes) batch (raised_each ends (all_writes batch))));
      }

  -- ---- moments

  module _ (old : World) (is : EachImage (IsAtRest live shape head log bodies gate reached ends voted) old.disk) (n : ℕ) where
    seal_rest : (m : Moment) → ChangesFile (Manager live) (Tears gate n) old m → LeavesRest live head old m
    seal_rest m changes = record {
      output = changes.output;
      aside = λ f aside. changes.others f (aside_manager live f aside);
      header = λ image left.
          let from = image_from (Manager live) (Tears gate n) old m changes image left in
          still_head from.from image (is from.from from.possible) from.others n from.changed;
    }

    -- at each moment each image's log is as it was, or has the batch whole
    pub seal_seam : (m : Moment) → ChangesFile (Manager live) (Tears gate n) old m → EachLogsOrMore bodies (body_of Two (Records session batch)) gate (Manager live) m.disk → IsSeam live head log batch old m
    seal_seam m changes logs = record {
      rest = seal_rest m changes;
      logs = λ image left.
          let from = image_from (Manager live) (Tears gate n) old m changes image left in
          let at = is from.from from.possible in
          elim (logs (image (Manager live)) (left (Manager live))) [
            | inl as_it_was ↦ inl (log_still from.from image at from.others n from.changed as_it_was)
            | inr more ↦ inr (log_more from.from image at from.others n from.changed (gate + length (block_of (body_of Two (Records session batch)))) more)
          ];
    }

    -- and where none has it, as it was
    pub seal_still : (m : Moment) → ChangesFile (Manager live) (Tears gate n) old m → EachLogs bodies gate (Manager live) m.disk → KeepsLog live head log old m
    seal_still m changes logs = record {
      rest = seal_rest m changes;
      logs = λ image left.
          let from = image_from (Manager live) (Tears gate n) old m changes image left in
          log_still from.from image (is from.from from.possible) from.others n from.changed (logs (image (Manager live)) (left (Manager live)));
    }

    pub seal_moments : (new : World) → Passes (ChangesFile (Manager live) (Tears gate n) old) old.past new.past → Passes (λ m. EachLogsOrMore bodies (body_of Two (Records session batch)) gate (Manager live) m.disk) old.past new.past
        → Passes (IsSeam live head log batch old) old.past new.past
    seal_moments new run logs =
        weaker (λ m. ChangesFile (Manager live) (Tears gate n) old m × EachLogsOrMore bodies (body_of Two (Records session batch)) gate (Manager live) m.disk) (IsSeam live head log batch old)
        (λ m both. seal_seam m both.0 both.1) (met (ChangesFile (Manager live) (Tears gate n) old) (λ m. EachLogsOrMore bodies (body_of Two (Records session batch)) gate (Manager live) m.disk) run logs)

    pub still_moments : (new : World) → Passes (ChangesFile (Manager live) (Tears gate n) old) old.past new.past → Passes (λ m. EachLogs bodies gate (Manager live) m.disk) old.past new.past
        → Passes (KeepsLog live head log old) old.past new.past
    still_moments new run logs =
        weaker (λ m. ChangesFile (Manager live) (Tears gate n) old m × EachLogs bodies gate (Manager live) m.disk) (KeepsLog live head log old)
        (λ m both. seal_still m both.0 both.1) (met (ChangesFile (Manager live) (Tears gate n) old) (λ m. EachLogs bodies gate (Manager live) m.disk) run logs)

    -- ---- after it

    module _ (new : World) (moments : Passes (ChangesFile (Manager live) (Tears gate n) old) old.past new.past) (changes : ChangesFile (Manager live) (Tears gate n) old (moment_of new)) where
      pub rests_sealed : (to : ℕ) → EachLogs (bodies ++ body_of Two (Records session batch) ∷ []) to (Manager live) new.disk → EachImage (IsAtRest live shape head (grown log batch) (bodies ++ body_of Two (Records session batch) ∷ []) to session (raised_ends ends (all_writes batch)) []) new.disk
      rests_sealed to logs image left =
          let from = image_from (Manager live) (Tears gate n) old (moment_of new) changes image left in
          rests_more from.from image (is from.from from.possible) from.others n from.changed to (logs (image (Manager live)) (left (Manager live)))

      pub rests_unsealed : EachLogs bodies gate (Manager live) new.disk → EachImage (IsAtRest live shape head log bodies gate reached ends voted) new.disk
      rests_unsealed logs image left =
          let from = image_from (Manager live) (Tears gate n) old (moment_of new) changes image left in
          rests_still from.from image (is from.from from.possible) from.others n from.changed (logs (image (Manager live)) (left (Manager live)))

      module _ (old_seen : (f : FileId) → MayLeave (old.disk f) (old.disk f).seen) (new_seen : (f : FileId) → MayLeave (new.disk f) (new.disk f).seen) (block : List ℕ) (is_block : block ≡ block_of (body_of Two (Records session batch))) where
        -- the image as it reads, with these bytes in the manager file, has the batch
        some_has : SomeLogs (bodies ++ body_of Two (Records session batch) ∷ []) (gate + length block) (Manager live) new.disk → SomeImage (λ image. IsLog live image (grown log batch)) new.disk
        some_has some =
            let image : Image = with_bytes (λ f. (new.disk f).seen) (Manager live) some.image in
            let left : IsImage new.disk image = with_left new.disk (λ f. (new.disk f).seen) (Manager live) some.image new_seen some.left in
            let from = image_from (Manager live) (Tears gate n) old (moment_of new) changes image left in
            record {
              image = image;
              left = left;
              holds = log_more from.from image (is from.from from.possible) from.others n from.changed (gate + length block)
                  (subst (λ (l : List ℕ). LogsUpTo (bodies ++ body_of Two (Records session batch) ∷ []) (gate + length block) l) (sym (with_bytes-there (λ f. (new.disk f).seen) (Manager live) some.image)) some.logs);
            }

        -- the gate of an image that has the batch is open
        is_open : (c : List ℕ) → HasBlocks bodies gate c → LogsUpTo (bodies ++ body_of Two (Records session batch) ∷ []) (gate + length block) c → slice_index c gate ≡ 1
        is_open c front logs = elim (cases_eq (slice_index c gate) 1) [
          | inl one ↦ one
          | inr closed ↦ absurd (
              let same : bodies ++ body_of Two (Records session batch) ∷ [] ≡ bodies =
              (one_log (bodies ++ body_of Two (Records session batch) ∷ []) bodies (gate + length block) gate c logs (record { blocks = front; closed = closed })).0 in
              omega (arith, ap length same, length-append bodies (body_of Two (Records session batch) ∷ []))
              )
        ]

        -- which of the two a doubt is
        which_doubt : ((c : List ℕ) → MayLeave (new.disk (Manager live)) c → HasBlocks bodies gate c) → gate < length (staged live gate block old) → slice_index (staged live gate block old) gate ≢ 1
            → StaysClosed live bodies gate block old new ⊎ SomeLogs (bodies ++ body_of Two (Records session batch) ∷ []) (gate + length block) (Manager live) new.disk
            → ((may_open gate (new.disk (Manager live)) ≡ false) × NoneHas live head log old new)
            ⊎ ((may_open gate (new.disk (Manager live)) ≡ true) × SomeImage (λ image. IsLog live image (grown log batch)) new.disk)
        which_doubt front long shut (inl closed) =
            inl (
              subst (λ (f : FileState). may_open gate f ≡ false) (sym closed.lasts) (stays_shut gate (staged live gate block old) long shut),
              record { moments = still_moments new moments closed.moments; logs = (seal_still (moment_of new) changes closed.now).logs },
            )
        which_doubt front long shut (inr some) = inr (opens gate (new.disk (Manager live)) some.image some.left (is_open some.image (front some.image some.left) some.logs), some_has some)

        pub in_doubt : EndsAs live InDoubt gate block old new → EachLogsOrMore bodies (body_of Two (Records session batch)) gate (Manager live) new.disk → DoubtAs live InDoubt bodies (body_of Two (Records session batch)) gate block old new
            → IsSealInDoubt live head log bodies batch gate session old new
        in_doubt ends_as logs which =
            let file = (old.disk (Manager live)).seen in
            let front = is (λ f. (old.disk f).seen) old_seen in
            let whole : List ℕ = staged live gate block old in
            let within : gate + 1 ≤ length file = omega (arith, front.stands.stand.within) in
            let over : Tears (gate + 1) (length block) file whole = Tears-overlaid (gate + 1) block file within in
            let low : gate ≤ gate + 1 = omega arith in
            let long : gate < length whole = omega (arith, front.stands.stand.within, over.no_shorter) in
            let head_same : take gate whole ≡ take gate file = shorter_front gate (gate + 1) whole file low over.before in
            let size : length (take (gate + 1) file) ≡ gate + 1 = omega (arith, length-take (gate + 1) file, within) in
            let rest = drop (gate + 1 + length block) file in
            let behind : drop (gate + 1) whole ≡ block ++ rest = ap (drop (gate + 1)) (append_assoc (take (gate + 1) file) block rest) ∙ drop_at (take (gate + 1) file) (block ++ rest) (gate + 1) size in
            let fronts : (c : List ℕ) → MayLeave (new.disk (Manager live)) c → HasBlocks bodies gate c =
            (λ c left.
            let torn = ends_as c left in
            let there : gate < length c = omega (arith, long, torn.no_shorter) in
            blocks_same bodies gate file c front.stands.stand there (torn.before ∙ head_same)) in
            let closed = still_closed gate (length block) file whole (front.stands.stand.within, front.closed) over in
            record {
              rest = seal_rest (moment_of new) changes;
              logs = (seal_seam (moment_of new) changes logs).logs;
              reached = reached;
              later = later;
              front = λ image left.
                  let from = image_from (Manager live) (Tears gate n) old (moment_of new) changes image left in
                  still_stands from.from image (is from.from from.possible) from.others n from.changed;
              block = λ image left.
                  let torn = ends_as (image (Manager live)) (left (Manager live)) in
                  subst (λ (b : List ℕ). take (length b) (drop (gate + 1) (image (Manager live))) ≡ b) is_block (ap (take (length block)) (torn.after ∙ behind) ∙ take_at block rest (length block) refl);
              differ = λ one other left right.
                  let a = ends_as (one (Manager live)) (left (Manager live)) in
                  let b = ends_as (other (Manager live)) (right (Manager live)) in
                  record {
                    long = omega (arith, a.no_shorter, a.no_longer, b.no_shorter, b.no_longer, long);
                    same = λ i apart.
                        let where_is : (i < gate) ⊎ (gate + 1 ≤ i) = elim (cases_lt i gate) [
                          | inl before ↦ inl before
                          | inr from ↦ elim (cases_lt gate i) [
                            | inl after ↦ inr (omega (arith, after))
                            | inr upto ↦ absurd (let e : i ≡ gate = omega (arith, from, upto) in apart e)
                          ]
                        ] in
                        Tears-at gate 1 whole (one (Manager live)) a i where_is ∙ sym (Tears-at gate 1 whole (other (Manager live)) b i where_is);
                  };
              which = which_doubt fronts closed.0 closed.1 which;
            }
