-- What each image has while an upgrade is sealed behind its log.
use Rattle.std.proofs.Common.{◌≡◌, ◌≢◌, ◌⊎◌, inl, inr, ℕ, ◌+◌, ◌-◌, ◌<◌, ◌≤◌, ◌^◌, List, [], ◌∷◌, ◌++◌, length, take, sym, ◌∙◌, ap, subst, arith, length-append}
use Rattle.std.proofs.lemmas.List.{take-take}
use Rattle.host_trait.specs.declared.channels.FileId.{FileId}
use Rattle.host_trait.specs.declared.channels.FileId.TheVariants.{Manager, Program as ProgramFile, Grain}
use Rattle.host_trait.specs.Disk.{FileState, MayLeave, Tears, settled}
use Rattle.host_trait.specs.World.{World, Moment, Image, IsImage, moment_of}
use Rattle.host_trait.specs.Runs.{ChangesFile, RunsOnFile}
use Rattle.host_trait.proofs.Crashes.{settled_only}
use Rattle.host_trait.proofs.Names.{cases_file}
use Rattle.host_trait.proofs.Runs.{image_from}
use Rattle.field_codec.specs.declared.formats.Format.TheVariants.{Two}
use Rattle.gate_block.specs.Blocks.{block_of}
use Rattle.gate_block.specs.Log.{HasBlocks, LogsUpTo, EachLogs, gate_of}
use Rattle.gate_block.proofs.Logs.{blocks_same, logged, one_log}
use Rattle.log_reading.specs.Steps.{seen_in}
use Rattle.silo_spec.specs.Silos.{IsSilo}
use Rattle.silo_spec.specs.Slots.{IsLive, ShowsSilos}
use Rattle.promise_spec.specs.Programs.{Program}
use Rattle.promise_spec.specs.Entries.{Upgraded, Log, standing_of, upgraded}
use Rattle.promise_spec.specs.Blocks.{Upgrade, body_of, MayFollow}
use Rattle.promise_spec.specs.Logs.{IsMagic, StandsUpTo, IsLogIn, IsLog}
use Rattle.promise_spec.specs.Journals.{AllLog}
use Rattle.promise_spec.specs.Openings.{session_in_file}
use Rattle.promise_spec.proofs.Batched.{base_program}
use Rattle.promise_spec.proofs.Growing.{sealed_upgrade}
use Rattle.promise_spec.proofs.OneLog.{one_log as one_log_of}
use Rattle.promise_spec.proofs.ReadSessions.{greatest_read}
use Rattle.promise_spec.proofs.Slots.{live_moves, other_slot}
use Rattle.promise_laws.proofs.MovedLogs.{stands_behind}

-- a shorter front of equal fronts is equal
shorter_front : (n m : ℕ) (c d : List ℕ) → n ≤ m → take m c ≡ take m d → take n c ≡ take n d
shorter_front n m c d low same = sym (take-take n m c low) ∙ ap (λ (l : List ℕ). take n l) same ∙ take-take n m d low

-- a slot's log has one greatest session
one_session : (slot : ℕ) (image : Image) (log : Log) (x y : IsLogIn Two slot image log) → x.session ≡ y.session
one_session slot image log x y =
    let program : x.stands.program ≡ y.stands.program = sym (base_program Two slot image log x.bodies x.gate x.session x.stands) ∙ base_program Two slot image log y.bodies y.gate y.session y.stands in
    greatest_read Two slot image log x ∙ ap (λ (p : Program). session_in_file Two p (image (Manager slot))) program ∙ sym (greatest_read Two slot image log y)

-- a log with an upgrade more is another one
pub not_upgraded : (log : Log) (p : Program) → log ≢ upgraded log p
not_upgraded log p same =
    let size : length log.entries ≡ length (log.entries ++ Upgraded p ∷ []) = ap (λ (l : Log). length l.entries) same in
    omega (arith, size, length-append log.entries (Upgraded p ∷ []))

-- Each image has the log, and nothing is pending in the slot's manager file, whose log ends at this gate.
module _ (slot gate : ℕ) (log : Log) (w : World) (stay : (file : FileId) → MayLeave (w.disk file) (w.disk file).seen) (lasts : w.disk (Manager slot) ≡ settled (w.disk (Manager slot)).seen)
    (all : AllLog slot log w.disk) (ends : gate_of (w.disk (Manager slot)).seen ≡ gate) (session : ℕ) (may : session < 2 ^ 63) (after : session_in_file Two log.base.program (w.disk (Manager slot)).seen ≤ session) where
  own : IsLog slot (seen_in w.disk) log
  own = all (seen_in w.disk) stay

  own_logs : LogsUpTo own.is.bodies own.is.gate (w.disk (Manager slot)).seen
  own_logs = record { blocks = own.is.stands.stand; closed = own.is.closed }

  gate_is : own.is.gate ≡ gate
  gate_is = sym (logged own.is.bodies own.is.gate (w.disk (Manager slot)).seen own_logs).1 ∙ ends

  abbrev bodies : List (List ℕ)
  bodies = own.is.bodies

  logs_there : LogsUpTo bodies gate (w.disk (Manager slot)).seen
  logs_there = subst (λ (g : ℕ). LogsUpTo bodies g (w.disk (Manager slot)).seen) gate_is own_logs

  -- the manager file is in each image as it reads
  settled_there : (c : List ℕ) → MayLeave (w.disk (Manager slot)) c → c ≡ (w.disk (Manager slot)).seen
  settled_there c left = settled_only (w.disk (Manager slot)).seen c (subst (λ (s : FileState). MayLeave s c) lasts left)

  -- so each has its bodies
  pub logged_bodies : List (List ℕ)
  logged_bodies = bodies

  pub each_logs : EachLogs logged_bodies gate (Manager slot) w.disk
  unfolding logged_bodies
  each_logs c left = subst (LogsUpTo bodies gate) (sym (settled_there c left)) logs_there

  -- the log stands in each up to the gate, with no session above this one
  record Stands (image : Image) : Type 0 where
    pub reached : ℕ
    pub later : reached ≤ session
    pub is : StandsUpTo Two slot image log bodies gate reached

  stands_at : (image : Image) → IsImage w.disk image → Stands image
  stands_at image left =
      let has : IsLog slot image log = all image left in
      let there : image (Manager slot) ≡ (w.disk (Manager slot)).seen = settled_there (image (Manager slot)) (left (Manager slot)) in
      let logs : LogsUpTo has.is.bodies has.is.gate (image (Manager slot)) = record { blocks = has.is.stands.stand; closed = has.is.closed } in
      let one = one_log has.is.bodies bodies has.is.gate gate (w.disk (Manager slot)).seen (subst (LogsUpTo has.is.bodies has.is.gate) there logs) logs_there in
      let program : has.is.stands.program ≡ log.base.program = sym (base_program Two slot image log has.is.bodies has.is.gate has.is.session has.is.stands) in
      let greatest : has.is.session ≡ session_in_file Two log.base.program (w.disk (Manager slot)).seen = greatest_read Two slot image log has.is ∙ (λ i. session_in_file Two (program i) (there i)) in
      record {
        reached = has.is.session;
        later = omega (arith, greatest, after);
        is = subst (λ (g : ℕ). StandsUpTo Two slot image log bodies g has.is.session) one.1 (subst (λ (bs : List (List ℕ)). StandsUpTo Two slot image log bs has.is.gate has.is.session) one.0 has.is.stands);
      }

  -- ---- a moment at which the manager file has other bytes from the gate on

  module _ (n : ℕ) (m : Moment) (changes : ChangesFile (Manager slot) (Tears gate n) w m) (image : Image) (left : IsImage m.disk image) where
    abbrev from : Image
    from = (image_from (Manager slot) (Tears gate n) w m changes image left).from

    possible : IsImage w.disk from
    possible = (image_from (Manager slot) (Tears gate n) w m changes image left).possible

    others : (file : FileId) → file ≢ Manager slot → image file ≡ from file
    others = (image_from (Manager slot) (Tears gate n) w m changes image left).others

    torn : Tears gate n (from (Manager slot)) (image (Manager slot))
    torn = (image_from (Manager slot) (Tears gate n) w m changes image left).changed

    front : HasBlocks bodies gate (from (Manager slot))
    front = (stands_at from possible).is.stand

    header_from : take 15 (image (Manager slot)) ≡ take 15 (from (Manager slot))
    header_from = shorter_front 15 gate (image (Manager slot)) (from (Manager slot)) (omega (arith, front.at)) torn.before

    -- the header is as it read
    pub header_still : take 15 (image (Manager slot)) ≡ take 15 (w.disk (Manager slot)).seen
    header_still = header_from ∙ ap (λ (l : List ℕ). take 15 l) (settled_there (from (Manager slot)) (possible (Manager slot)))

    still_blocks : HasBlocks bodies gate (image (Manager slot))
    still_blocks = blocks_same bodies gate (from (Manager slot)) (image (Manager slot)) front (omega (arith, front.within, torn.no_shorter)) torn.before

    -- the log stands still
    still_stands : StandsUpTo Two slot image log bodies gate (stands_at from possible).reached
    still_stands = stands_behind Two slot from image log bodies gate (stands_at from possible).reached (stands_at from possible).is (λ grain. others (Grain slot grain) (λ e. absurd cc)) (others (ProgramFile slot) (λ e. absurd cc)) header_from still_blocks

    still_live : IsLive IsMagic slot image
    still_live =
        let was : IsLog slot from log = all from possible in
        live_moves slot from image was.is_live header_from still_stands.silo.long (inl (others (Manager (1 - slot)) (λ e. other_slot slot was.is_live.slot (sym e))))

    -- it is the image's, where that has these bodies
    log_still : LogsUpTo bodies gate (image (Manager slot)) → IsLog slot image log
    log_still logs = record { is_live = still_live; is = record { bodies = bodies; gate = gate; session = (stands_at from possible).reached; stands = still_stands; closed = logs.closed } }

    module _ (p : Program) (follows : MayFollow (standing_of log).program p) where
      -- and with the upgrade, where that stands behind them
      pub log_upgraded : (next : ℕ) → LogsUpTo (logged_bodies ++ body_of Two (Upgrade session p) ∷ []) next (image (Manager slot)) → IsLog slot image (upgraded log p)
      unfolding logged_bodies
      log_upgraded next logs = record {
        is_live = still_live;
        is = record { bodies = bodies ++ body_of Two (Upgrade session p) ∷ []; gate = next; session = session; stands = sealed_upgrade Two slot image log bodies gate (stands_at from possible).reached still_stands session (stands_at from possible).later may p next follows logs.blocks; closed = logs.closed };
      }

      pub log_either : LogsUpTo logged_bodies gate (image (Manager slot)) ⊎ LogsUpTo (logged_bodies ++ body_of Two (Upgrade session p) ∷ []) (gate + length (block_of (body_of Two (Upgrade session p)))) (image (Manager slot))
          → IsLog slot image log ⊎ IsLog slot image (upgraded log p)
      unfolding logged_bodies
      log_either (inl logs) = inl (log_still logs)
      log_either (inr logs) = inr (log_upgraded (gate + length (block_of (body_of Two (Upgrade session p)))) logs)

      -- where the image has it, its session is the greatest
      pub session_greatest : LogsUpTo logged_bodies gate (image (Manager slot)) ⊎ LogsUpTo (logged_bodies ++ body_of Two (Upgrade session p) ∷ []) (gate + length (block_of (body_of Two (Upgrade session p)))) (image (Manager slot))
          → (has : IsLog slot image (upgraded log p)) → has.is.session ≡ session
      unfolding logged_bodies
      session_greatest (inl logs) has = absurd (not_upgraded log p (one_log_of Two Two slot slot image log (upgraded log p) (log_still logs) has))
      session_greatest (inr logs) has =
          let next : ℕ = gate + length (block_of (body_of Two (Upgrade session p))) in
          one_session slot image (upgraded log p) has.is
          (record { bodies = bodies ++ body_of Two (Upgrade session p) ∷ []; gate = next; session = session; stands = sealed_upgrade Two slot image log bodies gate (stands_at from possible).reached still_stands session (stands_at from possible).later may p next follows logs.blocks; closed = logs.closed })

  -- ---- at the end

  -- no image is a silo by a slot whose manager file reads too short
  pub shows_still : (n most : ℕ) (new : World) → RunsOnFile (Manager slot) (Tears gate n) most w new → ShowsSilos IsMagic w.disk → ShowsSilos IsMagic new.disk
  shows_still n most new run shows image left k low short silo = elim (cases_file (Manager k) (Manager slot)) [
    | inl same ↦
        let long : 16 ≤ length (w.disk (Manager slot)).seen = own.is_live.silo.long in
        let here : length (new.disk (Manager slot)).seen < 16 = subst (λ (f : FileId). length (new.disk f).seen < 16) same short in
        absurd (omega (arith, long, here, run.seen.no_shorter))
    | inr other ↦
        let comes = image_from (Manager slot) (Tears gate n) w (moment_of new) run.now image left in
        shows comes.from comes.possible k low (subst (λ (s : FileState). length s.seen < 16) (run.now.others (Manager k) other) short) (subst (IsSilo IsMagic) (comes.others (Manager k) other) silo)
  ]
