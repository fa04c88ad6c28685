-- What the writer keeps, from call to call.
use Rattle.std.proofs.Common.{◌≡◌, inl, inr, ℕ, ◌+◌, ◌<◌, ◌≤◌, ◌^◌, ◌==◌, Bool, true, false, if◌then◌else◌, List, [], ◌∷◌, ◌++◌, length, take, drop, refl, sym, ◌∙◌, ap, subst, arith, length-append}
use Rattle.std.specs.Prelude.{unwrap_or}
use Rattle.std.specs.List.{AllByRecursion}
use Rattle.std.proofs.lemmas.Bool.{eq-eqb}
use Rattle.std.proofs.lemmas.List.{length-take}
use Rattle.base_types.specs.Places.{placed_in, has_seat, KeepsSeats}
use Rattle.base_types.specs.Stores.{end_in, has_room, KeepsRoom}
use Rattle.base_types.specs.declared.calls.GrainId.{GrainId}
use Rattle.base_types.specs.declared.shapes.Shape.{Shape}
use Rattle.base_types.specs.declared.stores.Place.{Place}
use Rattle.base_types.specs.declared.stores.Version.{Version}
use Rattle.host_trait.specs.declared.channels.FileId.{FileId}
use Rattle.host_trait.specs.declared.channels.FileId.TheVariants.{Manager, Grain}
use Rattle.host_trait.specs.Disk.{FileState, MayLeave, Tears, settled, overlaid}
use Rattle.host_trait.specs.World.{World, Disk, Passes, moment_of}
use Rattle.host_trait.specs.Runs.{RunsOnFile}
use Rattle.host_trait.proofs.Crashes.{Tears-refl}
use Rattle.host_trait.proofs.Names.{cases_file}
use Rattle.host_trait.proofs.Runs.{run_started, run_more_syncs}
use Rattle.field_codec.specs.declared.formats.Format.TheVariants.{Two}
use Rattle.field_codec.specs.Spelling.{VersionFits, spelling_of_version}
use Rattle.gate_block.specs.Gates.{IsClosedAt}
use Rattle.grain_log.specs.Places as places
use Rattle.grain_log.specs.Places.{spelling_of_versions, places_from}
use Rattle.promise_spec.specs.Entries.{Log}
use Rattle.promise_spec.specs.Logs.{IsLog}
use Rattle.cell_model.specs.Units.{Member}
use Rattle.batch_disk.specs.ImagesAtRest.{EachImage, write_end, PlacesAreNamed, Voted, StandsIn, NotAmong, IsAtRest, AreOfType, voted_at, voted_from}
use Rattle.batch_disk.specs.Moments.{KeepsLog}
use Rattle.batch_disk.specs.Writers.{file_end, kept_of, voted_of, CanCount, HasSeat, IsInBounds, FitsSlot, FitsDisk, KeepsDisk, HasSameEnds}
use Rattle.program_file.specs.Succession.{ArePrograms}
use Rattle.program_file.specs.ProgramsInTurn.{programs_in, HasShapes}
use Rattle.program_file.specs.declared.programs_in_turn.ProgramsInTurn.{ProgramsInTurn}
use Rattle.batch_disk.specs.declared.writer.BatchWriter.{BatchWriter}
use Rattle.batch_disk.proofs.Lists.{each_leads, both_parts}
use Rattle.batch_disk.proofs.Ends.{stands_within}
use Rattle.batch_disk.proofs.ImagePlaces.{rests_log}
use Rattle.batch_disk.proofs.Votes.{not_manager, vote_rests, vote_moments, vote_yes}

-- ---- what is kept of one batch

each_if : {A : Type 0} (P : A → Type 0) (b : Bool) (xs : List A) → AllByRecursion P xs → AllByRecursion P (if b then xs else [])
each_if P true xs all = all
each_if P false xs all = tt

within_if : (b : Bool) (vs : List Voted) (v : Voted) → Member v (if b then vs else []) → Member v vs
within_if true vs v there = there
within_if false vs v none = absurd none

-- what holds of all that is kept holds of what is kept of a batch
pub each_voted : (P : Voted → Type 0) (w : BatchWriter) (batch : ℕ) → AllByRecursion P (kept_of w) → AllByRecursion P (voted_of batch w)
each_voted P w batch all = each_if P (w.batch == batch) (kept_of w) all

pub voted_within : (w : BatchWriter) (batch : ℕ) (v : Voted) → Member v (voted_of batch w) → Member v (kept_of w)
voted_within w batch v there = within_if (w.batch == batch) (kept_of w) v there

-- ends that are the same are the same as one function
pub ends_same : (a b : BatchWriter) → HasSameEnds a b → file_end a ≡ file_end b
ends_same a b same = λ i g. sym (same.ends g) i

-- no other end, twice
pub same_twice : (a b c : BatchWriter) → HasSameEnds a b → HasSameEnds b c → HasSameEnds a c
same_twice a b c one two = record { slot = two.slot ∙ one.slot; gate = two.gate ∙ one.gate; session = two.session ∙ one.session; ends = λ g. two.ends g ∙ one.ends g; places = λ g. two.places g ∙ one.places g; programs = two.programs ∙ one.programs; doubt = two.doubt ∙ one.doubt }

-- ---- in bounds

-- what can count still can, where no grain has lost its room
can_still : (a b : BatchWriter) (vs : List Voted) → KeepsRoom a.ends b.ends → AllByRecursion (CanCount a) vs → AllByRecursion (CanCount b) vs
can_still a b vs room can = each_leads (CanCount a) (CanCount b) (λ v one. (room v.write.grain one.0, one.1)) vs can

-- and so can what can be a last version
can_still_be : (a b : BatchWriter) (vs : List Voted) → KeepsSeats a.places b.places → AllByRecursion (HasSeat a) vs → AllByRecursion (HasSeat b) vs
can_still_be a b vs seats can = each_leads (HasSeat a) (HasSeat b) (λ v one. seats v.write.grain one) vs can

pub bounds_with : (a b : BatchWriter) (vs : List Voted) → HasSameEnds a b → kept_of b ≡ vs → AllByRecursion (CanCount b) vs → AllByRecursion (HasSeat b) vs → IsInBounds a → IsInBounds b
bounds_with a b vs same kept can seated bounds = record {
  slot = subst (λ (n : ℕ). n ≤ 1) (sym same.slot) bounds.slot;
  gate = subst (λ (n : ℕ). n < 2 ^ 63) (sym same.gate) bounds.gate;
  session = subst (λ (n : ℕ). n < 2 ^ 63) (sym same.session) bounds.session;
  ends = λ g. subst (λ (n : ℕ). n < 2 ^ 63) (sym (same.ends g)) (bounds.ends g);
  kept = subst (AllByRecursion (CanCount b)) (sym kept) can;
  seats = subst (AllByRecursion (HasSeat b)) (sym kept) seated;
  programs = subst (λ (k : ProgramsInTurn). ArePrograms (programs_in k)) (sym same.programs) bounds.programs;
  shapes = subst HasShapes (sym same.programs) bounds.shapes;
  numbered = λ g p is. subst (λ (k : ProgramsInTurn). p.program < length k.checked) (sym same.programs) (bounds.numbered g p (sym (same.places g) ∙ is));
}

pub bounds_some : (a b : BatchWriter) (batch : ℕ) → HasSameEnds a b → kept_of b ≡ voted_of batch a → KeepsRoom a.ends b.ends → KeepsSeats a.places b.places → IsInBounds a → IsInBounds b
bounds_some a b batch same kept room seats bounds =
    bounds_with a b (voted_of batch a) same kept (can_still a b (voted_of batch a) room (each_voted (CanCount a) a batch bounds.kept)) (can_still_be a b (voted_of batch a) seats (each_voted (HasSeat a) a batch bounds.seats)) bounds

can_voted : (b : BatchWriter) (grain : GrainId) (at : ℕ) (vs : List Version) → has_room b.ends grain ≡ true → at + length (spelling_of_versions vs) < 2 ^ 63 → AllByRecursion (CanCount b) (voted_from grain at vs)
can_voted b grain at [] there low = tt
can_voted b grain at (v ∷ vs) there low =
    let size = length (spelling_of_version v) in
    let all : length (spelling_of_version v ++ spelling_of_versions vs) ≡ size + length (spelling_of_versions vs) = length-append (spelling_of_version v) (spelling_of_versions vs) in
    ((there, omega (arith, low, all)), can_voted b grain (at + size) vs there (omega (arith, low, all)))

seated_voted : (b : BatchWriter) (grain : GrainId) (at : ℕ) (vs : List Version) → has_seat b.places grain ≡ true → AllByRecursion (HasSeat b) (voted_from grain at vs)
seated_voted b grain at [] there = tt
seated_voted b grain at (v ∷ vs) there = (there, seated_voted b grain (at + length (spelling_of_version v)) vs there)

pub bounds_more : (a b : BatchWriter) (batch : ℕ) (grain : GrainId) (at : ℕ) (vs : List Version) → HasSameEnds a b → kept_of b ≡ voted_of batch a ++ voted_from grain at vs → KeepsRoom a.ends b.ends → KeepsSeats a.places b.places
    → has_room b.ends grain ≡ true → has_seat b.places grain ≡ true → at + length (spelling_of_versions vs) < 2 ^ 63 → IsInBounds a → IsInBounds b
bounds_more a b batch grain at vs same kept room seats there seat low bounds =
    bounds_with a b (voted_of batch a ++ voted_from grain at vs) same kept
    (both_parts (CanCount b) (voted_of batch a) (voted_from grain at vs) (can_still a b (voted_of batch a) room (each_voted (CanCount a) a batch bounds.kept)) (can_voted b grain at vs there low))
    (both_parts (HasSeat b) (voted_of batch a) (voted_from grain at vs) (can_still_be a b (voted_of batch a) seats (each_voted (HasSeat a) a batch bounds.seats)) (seated_voted b grain at vs seat)) bounds

-- ---- on the files as they read

-- a place lies in its file
abbrev pub LiesIn : ℕ → Disk → Voted → Type 0
LiesIn live disk v = write_end v.write ≤ length (disk (Grain live v.write.grain)).seen

module _ (live : ℕ) (grain : GrainId) (at size most : ℕ) (old new : World) (run : RunsOnFile (Grain live grain) (Tears at size) most old new) where
  -- no grain file gets shorter
  pub no_shorter : (g : GrainId) → length (old.disk (Grain live g)).seen ≤ length (new.disk (Grain live g)).seen
  no_shorter g = elim (cases_file (Grain live g) (Grain live grain)) [
    | inl same ↦ subst (λ (f : FileId). length (old.disk f).seen ≤ length (new.disk f).seen) (sym same) run.seen.no_shorter
    | inr apart ↦ subst (λ (s : FileState). length (old.disk (Grain live g)).seen ≤ length s.seen) (sym (run.now.others (Grain live g) apart)) (omega arith)
  ]

  lie_still : (vs : List Voted) → AllByRecursion (LiesIn live old.disk) vs → AllByRecursion (LiesIn live new.disk) vs
  lie_still vs all = each_leads (LiesIn live old.disk) (LiesIn live new.disk) (λ v low. omega (arith, low, no_shorter v.write.grain)) vs all

  pub fits_with : (a b : BatchWriter) (vs : List Voted) → HasSameEnds a b → kept_of b ≡ vs → AllByRecursion (LiesIn live new.disk) vs → FitsSlot live a old.disk → FitsSlot live b new.disk
  fits_with a b vs same kept lie fits = record {
    long = λ g. omega (arith, same.ends g, fits.long g, no_shorter g);
    kept = subst (AllByRecursion (LiesIn live new.disk)) (sym kept) lie;
    closed = λ sure.
        let before : IsClosedAt a.gate_at (old.disk (Manager live)).seen = fits.closed (sym same.doubt ∙ sure) in
        let file : (new.disk (Manager live)).seen ≡ (old.disk (Manager live)).seen = ap (λ (s : FileState). s.seen) (run.now.others (Manager live) (not_manager live grain)) in
        subst (λ (n : ℕ). IsClosedAt n (new.disk (Manager live)).seen) (sym same.gate) (subst (IsClosedAt a.gate_at) (sym file) before);
  }

  pub fits_some : (a b : BatchWriter) (batch : ℕ) → HasSameEnds a b → kept_of b ≡ voted_of batch a → FitsSlot live a old.disk → FitsSlot live b new.disk
  fits_some a b batch same kept fits = fits_with a b (voted_of batch a) same kept (lie_still (voted_of batch a) (each_voted (LiesIn live old.disk) a batch fits.kept)) fits

  lie_voted : (from : ℕ) (vs : List Version) → from + length (spelling_of_versions vs) ≤ length (new.disk (Grain live grain)).seen → AllByRecursion (LiesIn live new.disk) (voted_from grain from vs)
  lie_voted from [] low = tt
  lie_voted from (v ∷ vs) low =
      let one = length (spelling_of_version v) in
      let all : length (spelling_of_version v ++ spelling_of_versions vs) ≡ one + length (spelling_of_versions vs) = length-append (spelling_of_version v) (spelling_of_versions vs) in
      (omega (arith, low, all), lie_voted (from + one) vs (omega (arith, low, all)))

  pub fits_more : (a b : BatchWriter) (batch : ℕ) (vs : List Version) → HasSameEnds a b → kept_of b ≡ voted_of batch a ++ voted_from grain at vs → at ≤ length (old.disk (Grain live grain)).seen
      → new.disk (Grain live grain) ≡ settled (overlaid (old.disk (Grain live grain)).seen at (spelling_of_versions vs)) → FitsSlot live a old.disk → FitsSlot live b new.disk
  fits_more a b batch vs same kept within there fits =
      let file = (old.disk (Grain live grain)).seen in
      let bytes = spelling_of_versions vs in
      let now : (new.disk (Grain live grain)).seen ≡ overlaid file at bytes = ap (λ (s : FileState). s.seen) there in
      let size : length (overlaid file at bytes) ≡ length (take at file ++ bytes) + length (drop (at + length bytes) file) = length-append (take at file ++ bytes) (drop (at + length bytes) file) in
      let front : length (take at file ++ bytes) ≡ length (take at file) + length bytes = length-append (take at file) bytes in
      let long : at + length bytes ≤ length (new.disk (Grain live grain)).seen = omega (arith, ap length now, size, front, length-take at file, within) in
      fits_with a b (voted_of batch a ++ voted_from grain at vs) same kept
      (both_parts (LiesIn live new.disk) (voted_of batch a) (voted_from grain at vs) (lie_still (voted_of batch a) (each_voted (LiesIn live old.disk) a batch fits.kept)) (lie_voted at vs long)) fits

-- the files of its own slot fit a writer that has stayed in it
pub own_fits : (a b : BatchWriter) (disk : Disk) → b.slot ≡ a.slot → FitsSlot a.slot b disk → FitsDisk b disk
own_fits a b disk same fits = subst (λ (n : ℕ). FitsSlot n b disk) (sym same) fits

-- no call at all is such a run
pub no_run : (file : FileId) (at size : ℕ) (w : World) → RunsOnFile file (Tears at size) 1 w w
no_run file at size w = run_more_syncs file (Tears at size) 0 1 w w (omega arith) (run_started file (Tears at size) w (Tears-refl at size))

-- ---- in each image

module _ (live : ℕ) (shape : Shape) (head : List ℕ) (log : Log) (bodies : List (List ℕ)) where
  -- what is kept of one batch stands
  pub rests_some : (a : BatchWriter) (batch : ℕ) (disk : Disk) → (keeps : KeepsDisk live shape head log bodies a disk) → EachImage (IsAtRest live shape head log bodies a.gate_at keeps.reached (file_end a) (voted_of batch a)) disk
  rests_some a batch disk keeps image left =
      let rests = keeps.images image left in
      record { is_live = rests.is_live; header = rests.header; stands = rests.stands; closed = rests.closed; begun = rests.begun; long = rests.long; stand = each_voted (StandsIn live shape image) a batch rests.stand }

  -- a writer with these ends that keeps these versions
  pub keeps_with : (a b : BatchWriter) (voted : List Voted) (disk : Disk) (reached : ℕ) → HasSameEnds a b → kept_of b ≡ voted → reached ≤ a.session → PlacesAreNamed shape log (file_end a)
      → EachImage (IsAtRest live shape head log bodies a.gate_at reached (file_end a) voted) disk → KeepsDisk live shape head log bodies b disk
  keeps_with a b voted disk reached same kept later named rests = record {
    named = subst (λ (e : GrainId → ℕ). PlacesAreNamed shape log e) (ends_same a b same) named;
    reached = reached;
    later = subst (λ (n : ℕ). reached ≤ n) (sym same.session) later;
    images = λ image left.
        let one = subst (λ (n : ℕ). IsAtRest live shape head log bodies n reached (file_end a) voted image) (sym same.gate) (rests image left) in
        let two = subst (λ (vs : List Voted). IsAtRest live shape head log bodies b.gate_at reached (file_end a) vs image) (sym kept) one in
        subst (λ (e : GrainId → ℕ). IsAtRest live shape head log bodies b.gate_at reached e (kept_of b) image) (ends_same a b same) two;
  }

  -- dropping what is kept of others
  pub keeps_some : (a b : BatchWriter) (batch : ℕ) (disk : Disk) → HasSameEnds a b → kept_of b ≡ voted_of batch a → KeepsDisk live shape head log bodies a disk → KeepsDisk live shape head log bodies b disk
  keeps_some a b batch disk same kept keeps = keeps_with a b (voted_of batch a) disk keeps.reached same kept keeps.later keeps.named (rests_some a batch disk keeps)

  module _ (a : BatchWriter) (batch : ℕ) (grain : GrainId) (size : ℕ) (old new : World) (fresh : NotAmong grain (voted_of batch a)) (keeps : KeepsDisk live shape head log bodies a old.disk)
      (run : RunsOnFile (Grain live grain) (Tears (file_end a grain) size) 1 old new) where
    -- at each moment of a vote
    pub vote_keeps_log : Passes (KeepsLog live head log old) old.past new.past
    vote_keeps_log = vote_moments live shape head log bodies a.gate_at keeps.reached (file_end a) (voted_of batch a) grain size keeps.named fresh old (rests_some a batch old.disk keeps) new run.moments

    -- after a vote of no, or without memory
    pub keeps_no : (b : BatchWriter) → HasSameEnds a b → kept_of b ≡ voted_of batch a → KeepsDisk live shape head log bodies b new.disk
    keeps_no b same kept =
        keeps_with a b (voted_of batch a) new.disk keeps.reached same kept keeps.later keeps.named
        (vote_rests live shape head log bodies a.gate_at keeps.reached (file_end a) (voted_of batch a) grain size keeps.named fresh old (rests_some a batch old.disk keeps) (moment_of new) run.now)

  -- after a vote of yes
  pub keeps_yes : (a : BatchWriter) (batch : ℕ) (grain : GrainId) (vs : List Version) (old new : World) → NotAmong grain (voted_of batch a) → KeepsDisk live shape head log bodies a old.disk
      → RunsOnFile (Grain live grain) (Tears (file_end a grain) (length (spelling_of_versions vs))) 1 old new → (b : BatchWriter) → HasSameEnds a b → kept_of b ≡ voted_of batch a ++ voted_from grain (file_end a grain) vs
      → ((image : List ℕ) → MayLeave (new.disk (Grain live grain)) image → places.VersionsStand image (file_end a grain) vs) → AreOfType shape grain vs → AllByRecursion (VersionFits Two) vs
      → file_end a grain + length (spelling_of_versions vs) < 2 ^ 63 → KeepsDisk live shape head log bodies b new.disk
  keeps_yes a batch grain vs old new fresh keeps run b same kept stand typed fits low =
      keeps_with a b (voted_of batch a ++ voted_from grain (file_end a grain) vs) new.disk keeps.reached same kept keeps.later keeps.named
      (vote_yes live shape head log bodies a.gate_at keeps.reached (file_end a) (voted_of batch a) grain (length (spelling_of_versions vs)) keeps.named fresh old (rests_some a batch old.disk keeps) new vs run.now stand typed fits low)

  -- ---- what the calls ask of the files holds where the writer keeps the disk

  lie_seen : (disk : Disk) (vs : List Voted) → AllByRecursion (StandsIn live shape (λ f. (disk f).seen)) vs → AllByRecursion (LiesIn live disk) vs
  lie_seen disk vs stand = each_leads (StandsIn live shape (λ f. (disk f).seen)) (LiesIn live disk) (λ v st. stands_within live shape (λ f. (disk f).seen) v.unit v.write v.state st) vs stand

  pub keeps_fits : (w : BatchWriter) (disk : Disk) → KeepsDisk live shape head log bodies w disk → ((f : FileId) → MayLeave (disk f) (disk f).seen) → FitsSlot live w disk
  keeps_fits w disk keeps seen =
      let rests = keeps.images (λ f. (disk f).seen) seen in
      record { long = rests.long; kept = lie_seen disk (kept_of w) rests.stand; closed = λ sure. (rests.stands.stand.within, rests.closed) }

  -- each image's log
  pub keeps_log : (w : BatchWriter) (disk : Disk) → KeepsDisk live shape head log bodies w disk → EachImage (λ image. IsLog live image log) disk
  keeps_log w disk keeps image left = rests_log live shape head log bodies w.gate_at keeps.reached (file_end w) (kept_of w) image (keeps.images image left)

-- ---- a writer that has gone to a batch, and has room

-- what is kept of the batch that the writer keeps
pub voted_is : (w : BatchWriter) (batch : ℕ) → w.batch ≡ batch → voted_of batch w ≡ kept_of w
voted_is w batch is = ap (λ (b : Bool). if b then kept_of w else []) (eq-eqb w.batch batch is)

-- It keeps what was kept of this batch, ends and places are as they were, and no grain has lost its room.
pub record IsReadyFor (batch : ℕ) (a b : BatchWriter) : Type 0 where
  pub same : HasSameEnds a b
  pub kept : kept_of b ≡ voted_of batch a
  pub goes_to : b.batch ≡ batch
  pub room : KeepsRoom a.ends b.ends
  pub seats : KeepsSeats a.places b.places

pub ready_for : (batch : ℕ) (a m b : BatchWriter) → HasSameEnds a m → kept_of m ≡ voted_of batch a → m.batch ≡ batch → m.ends ≡ a.ends → m.places ≡ a.places → HasSameEnds m b → kept_of b ≡ kept_of m → b.batch ≡ m.batch → KeepsRoom m.ends b.ends
    → KeepsSeats m.places b.places → IsReadyFor batch a b
ready_for batch a m b one kept is ends places two still stays room seats = record {
  same = same_twice a m b one two;
  kept = still ∙ kept;
  goes_to = stays ∙ is;
  room = subst (λ e. KeepsRoom e b.ends) ends room;
  seats = subst (λ p. KeepsSeats p b.places) places seats;
}

-- ends and places that are the same value
pub same_by : (a b : BatchWriter) → b.slot ≡ a.slot → b.gate_at ≡ a.gate_at → b.session ≡ a.session → b.in_doubt ≡ a.in_doubt → b.ends ≡ a.ends → b.places ≡ a.places → b.programs ≡ a.programs → HasSameEnds a b
same_by a b slot gate session doubt ends places programs =
    record { slot = slot; gate = gate; session = session; ends = λ g. ap (λ e. unwrap_or (end_in e g) 0) ends; places = λ g. ap (λ p. placed_in p g) places; programs = programs; doubt = doubt }

-- it keeps versions more
pub record KeepsMore (batch : ℕ) (grain : GrainId) (at : ℕ) (vs : List Version) (a b : BatchWriter) : Type 0 where
  pub same : HasSameEnds a b
  pub kept : kept_of b ≡ voted_of batch a ++ voted_from grain at vs
  pub goes_to : b.batch ≡ batch
  pub room : KeepsRoom a.ends b.ends
  pub seats : KeepsSeats a.places b.places

pub keeps_more : (batch : ℕ) (grain : GrainId) (at : ℕ) (vs : List Version) (ps : List Place) (a m b : BatchWriter) → IsReadyFor batch a m → ps ≡ places_from at vs → kept_of b ≡ kept_of m ++ voted_at grain ps vs
    → b.slot ≡ m.slot → b.gate_at ≡ m.gate_at → b.session ≡ m.session → b.in_doubt ≡ m.in_doubt → b.batch ≡ m.batch → b.ends ≡ m.ends → b.places ≡ m.places → b.programs ≡ m.programs → KeepsMore batch grain at vs a b
keeps_more batch grain at vs ps a m b ready places kept slot gate session doubt stays ends placed programs = record {
  same = same_twice a m b ready.same (same_by m b slot gate session doubt ends placed programs);
  kept = kept ∙ (λ i. ready.kept i ++ voted_at grain (places i) vs);
  goes_to = stays ∙ ready.goes_to;
  room = subst (λ e. KeepsRoom a.ends e) (sym ends) ready.room;
  seats = subst (λ p. KeepsSeats a.places p) (sym placed) ready.seats;
}

-- as many places as versions
pub places-length : (at : ℕ) (vs : List Version) → length (places_from at vs) ≡ length vs
places-length at [] = refl
places-length at (v ∷ vs) = let more = places-length (at + length (spelling_of_version v)) vs in omega (arith, more)

-- where a version goes is the end that it was asked for
pub run_at : (live : ℕ) (grain : GrainId) (at from size : ℕ) (old new : World) → at ≡ from → RunsOnFile (Grain live grain) (Tears at size) 1 old new → RunsOnFile (Grain live grain) (Tears from size) 1 old new
run_at live grain at from size old new is run = subst (λ (n : ℕ). RunsOnFile (Grain live grain) (Tears n size) 1 old new) is run
