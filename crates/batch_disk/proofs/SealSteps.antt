-- What a seal leaves of the writer and of the disk.
use Rattle.std.proofs.Common.{◌≡◌, ℕ, ◌+◌, ◌<◌, ◌≤◌, ◌^◌, true, false, List, [], ◌∷◌, ◌++◌, length, refl, sym, ◌∙◌, ap, subst, arith}
use Rattle.std.specs.List.{flat_map, AllByRecursion}
use Rattle.std.proofs.lemmas.Bool.{false≢true}
use Rattle.base_types.specs.Places.{has_seat}
use Rattle.base_types.specs.Stores.{has_room}
use Rattle.base_types.specs.declared.calls.GrainId.{GrainId}
use Rattle.base_types.specs.declared.shapes.Shape.{Shape}
use Rattle.host_trait.specs.declared.channels.FileId.{FileId}
use Rattle.host_trait.specs.declared.channels.FileId.TheVariants.{Manager, Grain}
use Rattle.host_trait.specs.Disk.{FileState, MayLeave, Tears, settled, overlaid}
use Rattle.host_trait.specs.World.{World, Image, Passes, with_bytes}
use Rattle.host_trait.specs.Runs.{RunsOnFile}
use Rattle.host_trait.proofs.Crashes.{Tears-overlaid}
use Rattle.host_trait.proofs.Runs.{with_bytes-there}
use Rattle.field_codec.specs.declared.formats.Format.TheVariants.{Two}
use Rattle.gate_block.specs.Blocks.{block_of}
use Rattle.gate_block.specs.Gates.{IsClosedAt}
use Rattle.gate_block.specs.Log.{LogsUpTo, EachLogs, EachLogsOrMore}
use Rattle.gate_block.proofs.Logs.{still_closed}
use Rattle.commit_log.specs.declared.records.Written.{Written}
use Rattle.commit_log.specs.declared.records.CommitRecord.{CommitRecord}
use Rattle.commit_log.specs.declared.gate.Sealing.{Sealing}
use Rattle.commit_log.specs.declared.gate.Sealing.TheVariants.{NotSealed, InDoubt}
use Rattle.commit_log.specs.SealImages.{staged, EndsAs, IsNextBlock, LogsAs, DoubtAs}
use Rattle.commit_log.specs.Spelling.{RecordsFit}
use Rattle.core_model.specs.declared.effects.Effect.{Effect}
use Rattle.promise_spec.specs.Records.{Commit}
use Rattle.promise_spec.specs.Entries.{Log, grown}
use Rattle.promise_spec.specs.Blocks.{Records, body_of}
use Rattle.batch_disk.specs.ImagesAtRest.{write_end, PlacesAreNamed, Voted, IsAtRest, raised_ends, all_writes}
use Rattle.batch_disk.specs.Moments.{KeepsLog}
use Rattle.batch_disk.specs.Writers.{file_end, kept_of, voted_of, CanCount, HasSeat, FitsSlot, KeepsDisk, HasSameEnds}
use Rattle.batch_disk.specs.Records.{commits_by, sealed_body, AreRecordsFor, IsPlaceOfOne, MayBeLogged, IsAsWritten}
use Rattle.batch_disk.specs.Seals.{StandsAfter, SealsAs}
use Rattle.batch_disk.specs.declared.writer.BatchWriter.{BatchWriter}
use Rattle.batch_disk.proofs.Lists.{each_of, each_leads, all_lists, flat_of_map}
use Rattle.batch_disk.proofs.Ends.{raised_long}
use Rattle.batch_disk.proofs.ImagePlaces.{IsNextBatch}
use Rattle.batch_disk.proofs.NextGate.{next_closed}
use Rattle.batch_disk.proofs.BatchRecords.{records_are, logged_are, next_batch}
use Rattle.batch_disk.proofs.ImagesSealed as sealed
use Rattle.batch_disk.proofs.WriterState.{LiesIn, voted_within, keeps_with}

-- ---- what the records name is kept

-- what holds of each place that is kept holds of each that the records name
pub of_kept : (P : Written → Type 0) (kept : List Voted) → AllByRecursion (λ v. P v.write) kept → (ws : List Written) → AllByRecursion (IsPlaceOfOne kept) ws → AllByRecursion P ws
of_kept P kept all [] are = tt
of_kept P kept all (w ∷ ws) are = (subst P are.0.place (each_of (λ (v : Voted). P v.write) kept are.0.version all are.0.member), of_kept P kept all ws are.1)

-- a place can count without memory
abbrev pub WriteCanCount : BatchWriter → Written → Type 0
WriteCanCount a w = (has_room a.ends w.grain ≡ true) × (write_end w < 2 ^ 63)

pub records_can_count : (a : BatchWriter) (rs : List CommitRecord) → AllByRecursion (CanCount a) (kept_of a) → AllByRecursion (λ r. AllByRecursion (IsPlaceOfOne (kept_of a)) r.writes) rs
    → AllByRecursion (λ r. AllByRecursion (WriteCanCount a) r.writes) rs
records_can_count a rs can are =
    each_leads (λ (r : CommitRecord). AllByRecursion (IsPlaceOfOne (kept_of a)) r.writes) (λ (r : CommitRecord). AllByRecursion (WriteCanCount a) r.writes)
    (λ r one. of_kept (WriteCanCount a) (kept_of a) can r.writes one) rs are

-- and can be a last version without memory
pub records_seated : (a : BatchWriter) (rs : List CommitRecord) → AllByRecursion (HasSeat a) (kept_of a) → AllByRecursion (λ r. AllByRecursion (IsPlaceOfOne (kept_of a)) r.writes) rs
    → AllByRecursion (λ r. AllByRecursion (λ w. has_seat a.places w.grain ≡ true) r.writes) rs
records_seated a rs can are =
    each_leads (λ (r : CommitRecord). AllByRecursion (IsPlaceOfOne (kept_of a)) r.writes) (λ (r : CommitRecord). AllByRecursion (λ w. has_seat a.places w.grain ≡ true) r.writes)
    (λ r one. of_kept (λ (w : Written). has_seat a.places w.grain ≡ true) (kept_of a) can r.writes one) rs are

-- ---- on the files as they read

module _ (live : ℕ) (a b : BatchWriter) (n most : ℕ) (old new : World) (run : RunsOnFile (Manager live) (Tears a.gate_at n) most old new) (fits : FitsSlot live a old.disk) where
  grain_same : (g : GrainId) → new.disk (Grain live g) ≡ old.disk (Grain live g)
  grain_same g = run.now.others (Grain live g) (λ e. absurd cc)

  -- grain files are as they were
  long_still : (g : GrainId) → file_end a g ≤ length (new.disk (Grain live g)).seen
  long_still g = subst (λ (s : FileState). file_end a g ≤ length s.seen) (sym (grain_same g)) (fits.long g)

  lie_still : (vs : List Voted) → AllByRecursion (LiesIn live old.disk) vs → AllByRecursion (LiesIn live new.disk) vs
  lie_still vs all = each_leads (LiesIn live old.disk) (LiesIn live new.disk) (λ v low. subst (λ (s : FileState). write_end v.write ≤ length s.seen) (sym (grain_same v.write.grain)) low) vs all

  pub fits_sealed : (to : ℕ) (rs : List CommitRecord) (block : List ℕ) → a.in_doubt ≡ false → block ≡ block_of (sealed_body a.session rs) → AllByRecursion (λ r. AllByRecursion (IsPlaceOfOne (kept_of a)) r.writes) rs
      → new.disk (Manager live) ≡ settled (overlaid (staged live a.gate_at block old) a.gate_at (1 ∷ [])) → to ≡ a.gate_at + length block
      → b.gate_at ≡ to → kept_of b ≡ [] → ((g : GrainId) → file_end b g ≡ raised_ends (file_end a) (flat_map (λ r. r.writes) rs) g) → FitsSlot live b new.disk
  fits_sealed to rs block sure is are there next gate none ends =
      let before : IsClosedAt a.gate_at (old.disk (Manager live)).seen = fits.closed sure in
      let ws : List Written = flat_map (λ (r : CommitRecord). r.writes) rs in
      let lie : AllByRecursion (λ (v : Voted). write_end v.write ≤ length (new.disk (Grain live v.write.grain)).seen) (kept_of a) = lie_still (kept_of a) fits.kept in
      let each : AllByRecursion (λ (w : Written). write_end w ≤ length (new.disk (Grain live w.grain)).seen) ws =
      all_lists (λ (w : Written). write_end w ≤ length (new.disk (Grain live w.grain)).seen) (λ (r : CommitRecord). r.writes) rs
      (each_leads (λ (r : CommitRecord). AllByRecursion (IsPlaceOfOne (kept_of a)) r.writes) (λ (r : CommitRecord). AllByRecursion (λ (w : Written). write_end w ≤ length (new.disk (Grain live w.grain)).seen) r.writes)
      (λ r one. of_kept (λ (w : Written). write_end w ≤ length (new.disk (Grain live w.grain)).seen) (kept_of a) lie r.writes one) rs are) in
      let body = sealed_body a.session rs in
      let file = (old.disk (Manager live)).seen in
      let whole : staged live a.gate_at block old ≡ overlaid file (a.gate_at + 1) (block_of body) = ap (λ (l : List ℕ). overlaid file (a.gate_at + 1) l) is in
      let now : (new.disk (Manager live)).seen ≡ overlaid (overlaid file (a.gate_at + 1) (block_of body)) a.gate_at (1 ∷ []) =
      ap (λ (s : FileState). s.seen) there ∙ ap (λ (l : List ℕ). overlaid l a.gate_at (1 ∷ [])) whole in
      let size = Tears-overlaid (a.gate_at + 1) (block_of body) file (omega (arith, before.0)) in
      let within : a.gate_at ≤ length (overlaid file (a.gate_at + 1) (block_of body)) = omega (arith, before.0, size.no_shorter) in
      let shut : IsClosedAt (a.gate_at + length (block_of body)) (overlaid (overlaid file (a.gate_at + 1) (block_of body)) a.gate_at (1 ∷ [])) =
      next_closed a.gate_at file body before.0 (overlaid (overlaid file (a.gate_at + 1) (block_of body)) a.gate_at (1 ∷ []))
      (Tears-overlaid a.gate_at (1 ∷ []) (overlaid file (a.gate_at + 1) (block_of body)) within) in
      let at : a.gate_at + length (block_of body) ≡ b.gate_at = ap (λ (l : List ℕ). a.gate_at + length l) (sym is) ∙ sym next ∙ sym gate in
      record {
        long = λ g. subst (λ (e : ℕ). e ≤ length (new.disk (Grain live g)).seen) (sym (ends g)) (raised_long live (λ f. (new.disk f).seen) (file_end a) ws long_still each g);
        kept = subst (AllByRecursion (LiesIn live new.disk)) (sym none) tt;
        closed = λ _. subst (λ (e : ℕ). IsClosedAt e (new.disk (Manager live)).seen) at (subst (IsClosedAt (a.gate_at + length (block_of body))) (sym now) shut);
      }

  pub fits_unsealed : (size : ℕ) → a.in_doubt ≡ false → Tears (a.gate_at + 1) size (old.disk (Manager live)).seen (new.disk (Manager live)).seen → HasSameEnds a b → kept_of b ≡ [] → FitsSlot live b new.disk
  fits_unsealed size sure torn same none = record {
    long = λ g. subst (λ (e : ℕ). e ≤ length (new.disk (Grain live g)).seen) (sym (same.ends g)) (long_still g);
    kept = subst (AllByRecursion (LiesIn live new.disk)) (sym none) tt;
    closed = λ _. subst (λ (e : ℕ). IsClosedAt e (new.disk (Manager live)).seen) (sym same.gate) (still_closed a.gate_at size (old.disk (Manager live)).seen (new.disk (Manager live)).seen (fits.closed sure) torn);
  }

  pub fits_in_doubt : b ≡ record a { in_doubt = true } → FitsSlot live b new.disk
  fits_in_doubt is = subst (λ (w : BatchWriter). FitsSlot live w new.disk) (sym is) (record { long = long_still; kept = lie_still (kept_of a) fits.kept; closed = λ sure. absurd (false≢true (sym sure)) })

-- ---- in each image

module _ (live : ℕ) (shape : Shape) (head : List ℕ) (log : Log) (bodies : List (List ℕ)) (batch : ℕ) (es : List Effect) (a : BatchWriter) (rs : List CommitRecord) (block : List ℕ) (may : a.session < 2 ^ 63) (fits : RecordsFit Two rs) (small : length (sealed_body a.session rs) < 2 ^ 32) (is : block ≡ block_of (sealed_body a.session rs))
    (are : AreRecordsFor (voted_of batch a) es rs) (logged : AllByRecursion (MayBeLogged shape) es) (true_of : AllByRecursion (IsAsWritten (voted_of batch a)) es)
    (old new : World) (keeps : KeepsDisk live shape head log bodies a old.disk) (old_seen : (f : FileId) → MayLeave (old.disk f) (old.disk f).seen) where
  abbrev commits : List Commit
  commits = commits_by es rs

  next : IsNextBatch shape (kept_of a) commits
  next = next_batch shape (voted_of batch a) (kept_of a) es rs (voted_within a batch) are fits.1 fits.0 logged true_of

  body_is : sealed_body a.session rs ≡ body_of Two (Records a.session commits)
  body_is = ap (sealed_body a.session) (sym (logged_are (voted_of batch a) es rs are))

  spelled : block ≡ block_of (body_of Two (Records a.session commits))
  spelled = is ∙ ap block_of body_is

  each_logs : EachLogs bodies a.gate_at (Manager live) old.disk
  each_logs c left =
      let seen : Image = λ f. (old.disk f).seen in
      let rest = keeps.images (with_bytes seen (Manager live) c) (sealed.with_left old.disk seen (Manager live) c old_seen left) in
      subst (λ (l : List ℕ). LogsUpTo bodies a.gate_at l) (with_bytes-there seen (Manager live) c)
      (record { blocks = rest.stands.stand; closed = rest.closed })

  pub is_next : IsNextBlock live bodies (body_of Two (Records a.session commits)) a.gate_at block old
  is_next = record { block_is = spelled; small = subst (λ (l : List ℕ). length l < 2 ^ 32) body_is small; logs = each_logs }

  module _ (run : RunsOnFile (Manager live) (Tears a.gate_at (length block + 1)) 2 old new) where
    -- the seam
    pub seals_as : (answer : Sealing) (b : BatchWriter) → Passes (λ m. EachLogsOrMore bodies (body_of Two (Records a.session commits)) a.gate_at (Manager live) m.disk) old.past new.past
        → StandsAfter live shape head log bodies commits answer a b old new → SealsAs live shape head log bodies es rs answer a b old new
    seals_as answer b moments stands = record {
      batch = commits;
      made_of = refl;
      records = records_are (voted_of batch a) es rs are;
      moments = sealed.seal_moments live shape head log bodies a.gate_at keeps.reached a.session (file_end a) (kept_of a) commits keeps.named keeps.later may next old keeps.images (length block + 1) new run.moments moments;
      stands = stands;
    }

    pub stands_sealed : (to : ℕ) (b : BatchWriter) → EachLogs (bodies ++ body_of Two (Records a.session commits) ∷ []) to (Manager live) new.disk → b.gate_at ≡ to → b.session ≡ a.session → kept_of b ≡ []
        → ((g : GrainId) → file_end b g ≡ raised_ends (file_end a) (flat_map (λ r. r.writes) rs) g) → KeepsDisk live shape head (grown log commits) (bodies ++ body_of Two (Records a.session commits) ∷ []) b new.disk
    stands_sealed to b logs gate session none ends =
        let writes : flat_map (λ (r : CommitRecord). r.writes) rs ≡ all_writes commits =
        ap (flat_map (λ (r : CommitRecord). r.writes)) (sym (logged_are (voted_of batch a) es rs are)) ∙ flat_of_map (λ (r : CommitRecord). r.writes) (λ (c : Commit). c.logged) commits in
        let says : (g : GrainId) → raised_ends (file_end a) (all_writes commits) g ≡ file_end b g = λ g. ap (λ (ws : List Written). raised_ends (file_end a) ws g) (sym writes) ∙ sym (ends g) in
        let all : raised_ends (file_end a) (all_writes commits) ≡ file_end b = λ i g. says g i in
        record {
          named = subst (λ (e : GrainId → ℕ). PlacesAreNamed shape (grown log commits) e) all
              (sealed.named_more live shape head log bodies a.gate_at keeps.reached a.session (file_end a) (kept_of a) commits keeps.named keeps.later may next);
          reached = a.session;
          later = subst (λ (n : ℕ). a.session ≤ n) (sym session) (omega arith);
          images = λ image left.
              let one = sealed.rests_sealed live shape head log bodies a.gate_at keeps.reached a.session (file_end a) (kept_of a) commits keeps.named keeps.later may next old keeps.images (length block + 1) new run.moments run.now to logs image left in
              let two = subst (λ (e : GrainId → ℕ). IsAtRest live shape head (grown log commits) (bodies ++ body_of Two (Records a.session commits) ∷ []) to a.session e [] image) all one in
              let three = subst (λ (n : ℕ). IsAtRest live shape head (grown log commits) (bodies ++ body_of Two (Records a.session commits) ∷ []) n a.session (file_end b) [] image) (sym gate) two in
              subst (λ (vs : List Voted). IsAtRest live shape head (grown log commits) (bodies ++ body_of Two (Records a.session commits) ∷ []) b.gate_at a.session (file_end b) vs image) (sym none) three;
        }

    pub stands_unsealed : (b : BatchWriter) → LogsAs live NotSealed bodies (body_of Two (Records a.session commits)) a.gate_at old new → HasSameEnds a b → kept_of b ≡ []
        → Passes (KeepsLog live head log old) old.past new.past × KeepsDisk live shape head log bodies b new.disk
    stands_unsealed b logs same none = (
      sealed.still_moments live shape head log bodies a.gate_at keeps.reached a.session (file_end a) (kept_of a) commits keeps.named keeps.later may next old keeps.images (length block + 1) new run.moments logs.0,
      keeps_with live shape head log bodies a b [] new.disk keeps.reached same none keeps.later keeps.named (λ image left.
          let rests = sealed.rests_unsealed live shape head log bodies a.gate_at keeps.reached a.session (file_end a) (kept_of a) commits keeps.named keeps.later may next old keeps.images (length block + 1) new run.moments run.now logs.1 image left in
          record { is_live = rests.is_live; header = rests.header; stands = rests.stands; closed = rests.closed; begun = rests.begun; long = rests.long; stand = tt }),
    )

    pub stands_in_doubt : (b : BatchWriter) → ((f : FileId) → MayLeave (new.disk f) (new.disk f).seen) → EndsAs live InDoubt a.gate_at block old new → LogsAs live InDoubt bodies (body_of Two (Records a.session commits)) a.gate_at old new
        → DoubtAs live InDoubt bodies (body_of Two (Records a.session commits)) a.gate_at block old new → StandsAfter live shape head log bodies commits InDoubt a b old new
    stands_in_doubt b new_seen ends logs which =
        sealed.in_doubt live shape head log bodies a.gate_at keeps.reached a.session (file_end a) (kept_of a) commits keeps.named keeps.later may next old keeps.images (length block + 1) new run.moments run.now old_seen new_seen block spelled ends logs which
