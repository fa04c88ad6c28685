-- All steps by which a silo is written anew, one behind the other.
use Rattle.std.proofs.Common.{◌≡◌, ◌≢◌, inl, inr, ℕ, ◌+◌, ◌-◌, ◌<◌, ◌≤◌, true, List, [], ◌∷◌, ◌++◌, map, length, None, Result, Ok, Err, is_ok, sym, ◌∙◌, ap, subst, arith}
use Rattle.std.specs.Prelude.{OnOk}
use Rattle.std.specs.Int.{w32, to_le_bytes}
use Rattle.std.specs.List.{AllZip}
use Rattle.std.proofs.lemmas.Bool.{false≢true}
use Rattle.base_types.specs.declared.calls.GrainId.{GrainId}
use Rattle.base_types.specs.declared.shapes.Shape.{Shape}
use Rattle.host_trait.specs.declared.channels.FileId.{FileId}
use Rattle.host_trait.specs.declared.channels.FileId.TheVariants.{Manager, Program as ProgramFile, Grain}
use Rattle.host_trait.specs.Disk.{FileState, Tears, overlaid, settled}
use Rattle.host_trait.specs.World.{World, Disk}
use Rattle.host_trait.specs.Runs.{RunsOnFile}
use Rattle.host_trait.proofs.Moments.{arrives_then}
use Rattle.host_trait.proofs.Runs.{Change}
use Rattle.field_codec.specs.declared.formats.Format.{Format}
use Rattle.field_codec.specs.declared.formats.Format.TheVariants.{Two}
use Rattle.commit_log.specs.declared.records.Named.{Named}
use Rattle.commit_log.specs.Orders.{IsAscending}
use Rattle.log_reading.specs.Steps.{seen_in}
use Rattle.log_reading.specs.Versions.{version_numbered}
use Rattle.script_tree.specs.Programs.{ProgramTree}
use Rattle.program_file.specs.Succession.{shapes_in_turn}
use Rattle.silo_spec.specs.Slots.{generation, ShowsSilos}
use Rattle.promise_spec.specs.Programs.{Program}
use Rattle.promise_spec.specs.Entries.{Log, checkpointed}
use Rattle.promise_spec.specs.Logs.{IsMagic, IsLogIn}
use Rattle.promise_spec.specs.EitherSlot.{IsShutFile, IsCompactable, IsReadyToOpen}
use Rattle.checkpoint.specs.declared.compaction.Next.{Next}
use Rattle.checkpoint.specs.Steps.{KeepsGate, ClosesGate, OnlyCopies}
use Rattle.checkpoint.specs.Copies.{writes_named, AreThere, StandsFirst, IsCopied}
use Rattle.checkpoint.specs.Pieces.{HasPieces}
use Rattle.checkpoint.specs.NextGeneration.{IsMadeOf, HasGone, HasNextSilo, IsQuietly, MayBeWritten}
use Rattle.checkpoint.proofs.Copying.{numbered_same, carried_same}
use Rattle.checkpoint.proofs.Filled.{ready}
use Rattle.checkpoint.proofs.Moments.{closes_input, closes_clock, IsFilled, gone_closed, begin_filling, gone_program, gone_copies, gone_pieces, gone_opened, opened_done, long_pieces}

-- what a result says that is Ok
pub when_ok : {T E : Type 0} (P : Type 0) (r : Result T E) → OnOk r P → is_ok r ≡ true → P
when_ok P (Ok value) is ok = is
when_ok P (Err error) is ok = absurd (false≢true ok)

-- ---- what the first steps leave, whatever the folder

-- closing a gate emits nothing
closes_output : (slot : ℕ) (old new : World) → ClosesGate slot old new → new.output ≡ old.output
closes_output slot old new closes = elim closes.closed [
  | inl asked ↦ asked.output ∙ closes.looked.now.output
  | inr p ↦ p.1.now.output ∙ closes.looked.now.output
]

-- nor does it take input, and the clock goes on
pub closes_quietly : (slot : ℕ) (old new : World) → ClosesGate slot old new → IsQuietly old new
closes_quietly slot old new closes = record { quiet = closes_output slot old new closes; unread = closes_input slot old new closes; clock = closes_clock slot old new closes }

-- the same of a run on one file, and of copies
pub run_quietly : (file : FileId) (R : Change) (most : ℕ) (old new : World) → RunsOnFile file R most old new → IsQuietly old new
run_quietly file R most old new run = record { quiet = run.now.output; unread = run.input; clock = run.clock }

pub copies_quietly : (slot : ℕ) (old new : World) → OnlyCopies slot old new → IsQuietly old new
copies_quietly slot old new copies = record { quiet = copies.now.output; unread = copies.input; clock = copies.clock }

-- and of what goes on behind such a step
pub then_quietly : (old mid new : World) → IsQuietly old mid → IsQuietly mid new → IsQuietly old new
then_quietly old mid new first second = record {
  quiet = second.quiet ∙ first.quiet;
  unread = second.unread ∙ first.unread;
  clock = arrives_then old mid new first.clock second.clock;
}

-- closing leaves all other files
pub closes_others : (slot : ℕ) (old new : World) → ClosesGate slot old new → (file : FileId) → file ≢ Manager slot → new.disk file ≡ old.disk file
closes_others slot old new closes file other = elim closes.closed [
  | inl asked ↦ ap (λ (d : Disk). d file) asked.disk ∙ closes.looked.now.others file other
  | inr p ↦ p.1.now.others file other ∙ closes.looked.now.others file other
]

-- so the grains' files are as they were, behind the program's too
pub grains_kept : (live : ℕ) (R : Change) (most : ℕ) (old mid new : World) → ClosesGate (1 - live) old mid → RunsOnFile (ProgramFile (1 - live)) R most mid new → (slot : ℕ) (grain : GrainId) → new.disk (Grain slot grain) ≡ old.disk (Grain slot grain)
grains_kept live R most old mid new closes run slot grain = run.now.others (Grain slot grain) (λ e. absurd cc) ∙ closes_others (1 - live) old mid closes (Grain slot grain) (λ e. absurd cc)

-- and the closed header gate of the manager file is there still
pub some_left : (slot : ℕ) (R : Change) (most : ℕ) (old mid new : World) → IsShutFile (old.disk (Manager slot)) → RunsOnFile (ProgramFile slot) R most old mid → OnlyCopies slot mid new → 1 ≤ length (new.disk (Manager slot)).seen
some_left slot R most old mid new shut program copies =
    let same : new.disk (Manager slot) ≡ old.disk (Manager slot) = copies.now.others (Manager slot) (λ grain e. absurd cc) ∙ program.now.others (Manager slot) (λ e. absurd cc) in
    subst (λ (s : FileState). 1 ≤ length s.seen) (sym same) (omega (arith, shut.some))

seen_still : (live : ℕ) (shapes : List Shape) (old new : Disk) (n : Named) → new (Grain live n.written.grain) ≡ old (Grain live n.written.grain)
    → version_numbered live Two shapes (seen_in new) n ≡ version_numbered live Two shapes (seen_in old) n
seen_still live shapes old new n same = numbered_same live shapes (seen_in old) (seen_in new) n (ap (λ (s : FileState). s.seen) same)

-- and what is named there is there still
pub there_still : (live : ℕ) (shapes : List Shape) (old new : Disk) → ((slot : ℕ) (grain : GrainId) → new (Grain slot grain) ≡ old (Grain slot grain)) → (named : List Named)
    → AreThere live shapes (seen_in old) named → AreThere live shapes (seen_in new) named
there_still live shapes old new same [] all = tt
there_still live shapes old new same (n ∷ named) all =
    ((all.0.0, seen_still live shapes old new n (same live n.written.grain) ∙ all.0.1), there_still live shapes old new same named all.1)

-- the copies of what was named before, in files that stay
copied_still : (live : ℕ) (programs : List ProgramTree) (old mid disk new : Disk) → ((slot : ℕ) (grain : GrainId) → mid (Grain slot grain) ≡ old (Grain slot grain)) → ((slot : ℕ) (grain : GrainId) → new (Grain slot grain) ≡ disk (Grain slot grain))
    → (named copies : List Named) → AllZip (IsCopied live programs (seen_in mid) disk) named copies → AllZip (IsCopied live programs (seen_in old) new) named copies
copied_still live programs old mid disk new before behind [] [] all = tt
copied_still live programs old mid disk new before behind [] (copy ∷ copies) all = absurd all
copied_still live programs old mid disk new before behind (n ∷ named) [] all = absurd all
copied_still live programs old mid disk new before behind (n ∷ named) (copy ∷ copies) all =
    let is = all.0 in (
      record {
        copied = is.copied;
        carried = carried_same live programs (seen_in old) (seen_in mid) n is.copied (seen_still live (shapes_in_turn programs) old mid n (before live n.written.grain)) is.carried;
        typed = is.typed;
        fits = is.fits;
        named = is.named;
        stands = subst (StandsFirst is.copied) (sym (behind (1 - live) n.written.grain)) is.stands;
      },
      copied_still live programs old mid disk new before behind named copies all.1,
    )

-- ---- over a folder that may be written anew

module _ (format : Format) (live : ℕ) (log next : Log) (w0 w1 w2 : World) (can : IsCompactable format live log w0) (shown : ShowsSilos IsMagic w0.disk) (closes : ClosesGate (1 - live) w0 w1) where
  pub first_gone : HasGone format live log next w0 w1
  first_gone = gone_closed format live log next w0 can shown w1 closes

  module _ (shut : IsShutFile (w1.disk (Manager (1 - live)))) (R : Change) (most : ℕ) (program : RunsOnFile (ProgramFile (1 - live)) R most w1 w2) where
    pub second_filled : IsFilled format live log next w0 can shown w2
    second_filled = gone_program format live log next w0 can shown R most w1 w2 (begin_filling format live log next w0 can shown w1 (gone_closed format live log next w0 can shown w1 closes) shut) program

    module _ (w3 : World) (copies : OnlyCopies (1 - live) w2 w3) where
      pub third_filled : IsFilled format live log next w0 can shown w3
      third_filled = gone_copies format live log next w0 can shown w2 w3 second_filled copies

      pub some_there : 0 < length (w3.disk (Manager (1 - live))).seen
      some_there =
          let same : w3.disk (Manager (1 - live)) ≡ w1.disk (Manager (1 - live)) =
          copies.now.others (Manager (1 - live)) (λ grain e. absurd cc) ∙ program.now.others (Manager (1 - live)) (λ e. absurd cc) in
          subst (λ (s : FileState). 0 < length s.seen) (sym same) shut.some

      module _ (w4 : World) (most_pieces : ℕ) (run : RunsOnFile (Manager (1 - live)) KeepsGate most_pieces w3 w4) where
        pub fourth_filled : IsFilled format live log next w0 can shown w4
        fourth_filled = gone_pieces format live log next w0 can shown most_pieces w3 w4 third_filled run

        module _ (all_ready : IsReadyToOpen Two live next w0 w4) (w5 : World) (opening : RunsOnFile (Manager (1 - live)) (Tears 0 1) 1 w4 w5) where
          pub fifth_gone : 16 ≤ length (w4.disk (Manager (1 - live))).seen → HasGone format live log next w0 w5
          fifth_gone long = gone_opened format live log next w0 can shown w4 w5 fourth_filled all_ready opening long

          pub fifth_done : w5.disk (Manager (1 - live)) ≡ settled (overlaid (w4.disk (Manager (1 - live))).seen 0 (1 ∷ [])) → HasNextSilo live (generation (w0.disk (Manager live)).seen + 1) next w5.disk
          fifth_done done = opened_done format live log next w0 can shown w4 w5 fourth_filled all_ready opening done

-- ---- over one that may be compacted

module _ (next : Next) (log : Log) (w0 w1 w2 : World) (can : IsCompactable Two next.live log w0) (shown : ShowsSilos IsMagic w0.disk) (closes : ClosesGate (1 - next.live) w0 w1)
    (shut : IsShutFile (w1.disk (Manager (1 - next.live)))) (R : Change) (most : ℕ) (program : RunsOnFile (ProgramFile (1 - next.live)) R most w1 w2) (w3 : World) (copies : OnlyCopies (1 - next.live) w2 w3)
    (w4 : World) (most_pieces : ℕ) (run : RunsOnFile (Manager (1 - next.live)) KeepsGate most_pieces w3 w4) (programs : List ProgramTree) (p : Program) (may : MayBeWritten next)
    (order : IsAscending None (map (λ n. n.written) next.latest)) (made : IsMadeOf next programs p (seen_in w0.disk) log)
    (text : w2.disk (ProgramFile (1 - next.live)) ≡ settled (overlaid (w1.disk (ProgramFile (1 - next.live))).seen 0 (to_le_bytes w32 (length next.text) ++ next.text)))
    (copies_made : List Named) (copied : AllZip (IsCopied next.live programs (seen_in w2.disk) w3.disk) next.latest copies_made)
    (pieces : HasPieces next.generation next.head (writes_named copies_made) (w3.disk (Manager (1 - next.live))) (w4.disk (Manager (1 - next.live)))) where
  some_before : 0 < length (w3.disk (Manager (1 - next.live))).seen
  some_before = some_there Two next.live log (checkpointed log) w0 w1 w2 can shown closes shut R most program w3 copies

  all_ready : IsReadyToOpen Two next.live (checkpointed log) w0 w4
  all_ready =
      let is : IsLogIn Two next.live (seen_in w0.disk) log = (can.logged (seen_in w0.disk) can.seen).is in
      let filled = fourth_filled Two next.live log (checkpointed log) w0 w1 w2 can shown closes shut R most program w3 copies w4 most_pieces run in
      let written : w4.disk (ProgramFile (1 - next.live)) ≡ settled (overlaid (w1.disk (ProgramFile (1 - next.live))).seen 0 (to_le_bytes w32 (length next.text) ++ next.text)) =
      run.now.others (ProgramFile (1 - next.live)) (λ e. absurd cc) ∙ copies.now.others (ProgramFile (1 - next.live)) (λ grain e. absurd cc) ∙ text in
      ready next programs p log w0 w4 may order made is (w1.disk (ProgramFile (1 - next.live))).seen written copies_made
      (copied_still next.live programs w0.disk w2.disk w3.disk w4.disk (grains_kept next.live R most w0 w1 w2 closes program) (λ slot grain. run.now.others (Grain slot grain) (λ e. absurd cc)) next.latest copies_made copied)
      (w3.disk (Manager (1 - next.live))) some_before pieces filled.fills

  module _ (w5 : World) (opening : RunsOnFile (Manager (1 - next.live)) (Tears 0 1) 1 w4 w5) where
    pub last_gone : HasGone Two next.live log (checkpointed log) w0 w5
    last_gone =
        fifth_gone Two next.live log (checkpointed log) w0 w1 w2 can shown closes shut R most program w3 copies w4 most_pieces run all_ready w5 opening
        (long_pieces next.generation next.head (writes_named copies_made) (w3.disk (Manager (1 - next.live))) (w4.disk (Manager (1 - next.live))) some_before pieces)

    pub last_done : w5.disk (Manager (1 - next.live)) ≡ settled (overlaid (w4.disk (Manager (1 - next.live))).seen 0 (1 ∷ [])) → HasNextSilo next.live next.generation (checkpointed log) w5.disk
    last_done done image is =
        let t = fifth_done Two next.live log (checkpointed log) w0 w1 w2 can shown closes shut R most program w3 copies w4 most_pieces run all_ready w5 opening done image is in
        (t.0, t.1 ∙ sym made.generation_is)
