-- The images while the program file is written, then what stands behind the header gate, and then the gate.
use Rattle.std.proofs.Common.{◌≡◌, ◌≢◌, inl, inr, ℕ, zero, suc, ◌+◌, ◌<◌, ◌≤◌, List, [], ◌∷◌, ◌++◌, length, take, drop, slice_index, refl, sym, ◌∙◌, ap, subst, arith, length-append}
use Rattle.std.proofs.lemmas.Grind.{common_steps}
use Rattle.std.proofs.lemmas.List.{take_at}
use Rattle.std.specs.Int.{w32, to_le_bytes}
use Rattle.host_trait.specs.declared.channels.FileId.TheVariants.{Program as ProgramFile}
use Rattle.host_trait.specs.Disk.{FileState, MayLeave, Tears, Overwrote, settled, overlaid}
use Rattle.host_trait.specs.World.{World, Moment, Image, IsImage, Written, moment_of}
use Rattle.host_trait.specs.Runs.{ChangesFile, RunsOnFile}
use Rattle.host_trait.proofs.Crashes.{Tears-at, Tears-trans, Tears-wider}
use Rattle.host_trait.proofs.Runs.{Change, settled_image, run_one_write, run_wrote, run_weaker}
use Rattle.field_codec.specs.declared.formats.Format.TheVariants.{Two}
use Rattle.field_codec.specs.Formats.{magic_of}
use Rattle.gate_block.specs.Log.{LogsUpTo, first_gate}
use Rattle.gate_block.proofs.Logs.{no_blocks, logged}
use Rattle.silo_spec.specs.OtherSlot.{IsShutFile}
use Rattle.silo_spec.specs.Silos.{manager, program_file, IsSilo, HasProgram, IsNewSilo, new_header, IsMagic}
use Rattle.silo_spec.specs.Creation.{IsNewAt, IsMade}
use Rattle.silo_opening.specs.Steps.{LacksSilo, HasNoSilo}
use Rattle.silo_opening.proofs.Fronts.{first_in, name_in}
use Rattle.silo_opening.proofs.GateClosing.{changes_lacks}

log_apart : manager ≢ program_file
log_apart e = cc

program_apart : program_file ≢ manager
program_apart e = cc

-- what stands behind the header gate
abbrev pub header : List ℕ
header = magic_of Two ++ 0 ∷ 0 ∷ 0 ∷ 0 ∷ 0 ∷ 0 ∷ 0 ∷ []

-- the program file's text behind its length
abbrev pub program_bytes : List ℕ → List ℕ
program_bytes text = to_le_bytes w32 (length text) ++ text

closed_silo : {A : Type 0} (file c : List ℕ) → slice_index file 0 ≢ 1 → slice_index c 0 ≡ slice_index file 0 → IsSilo IsMagic c → A
closed_silo file c closed same silo = absurd (closed (sym same ∙ silo.gate))

gate_after : (file : List ℕ) → 0 < length file → slice_index (overlaid file 1 header) 15 ≡ 0
gate_after [] some = absurd (omega arith)
gate_after (x ∷ file) some = refl

header_after : (file : List ℕ) → 0 < length file → take 16 (overlaid (overlaid file 1 header) 0 (1 ∷ [])) ≡ new_header
header_after [] some = absurd (omega arith)
header_after (x ∷ file) some = refl

header_long : (file : List ℕ) → 0 < length file → 16 ≤ length (overlaid file 1 header)
header_long [] some = absurd (omega arith)
header_long (x ∷ file) some = omega arith

has_program : (text file : List ℕ) → HasProgram text (overlaid file 0 (program_bytes text))
has_program text file = take_at (program_bytes text) (drop (0 + length (program_bytes text)) file) (4 + length text) (length-append (to_le_bytes w32 (length text)) text)

-- no block behind a closed first gate
pub new_log : (c : List ℕ) → 16 ≤ length c → slice_index c 15 ≡ 0 → LogsUpTo [] first_gate c
new_log c long closed = record { blocks = no_blocks c long; closed = λ one. let wrong : 0 ≡ 1 = sym closed ∙ one in omega (arith, wrong) }

-- a silo whose first gate is closed
pub new_silo : (text : List ℕ) (image : Image) → 16 ≤ length (image manager) → take 16 (image manager) ≡ new_header → HasProgram text (image program_file) → slice_index (image manager) 15 ≡ 0 → IsNewSilo text image
new_silo text image long head program closed =
    let file : List ℕ = image manager in
    let log = logged [] first_gate file (new_log file long closed) in
    let named : magic_of Two ≡ take 8 (drop 1 file) = name_in file new_header (sym head) in
    record { silo = record { long = long; gate = sym (first_in file new_header (sym head)); named = sym named }; header = head; program = program; empty = log.0; whole = log.2 }

-- the first bytes of a file, by its first one and those behind it
first_and_rest : (c : List ℕ) (x : ℕ) (rest : List ℕ) → 16 ≤ length c → slice_index c 0 ≡ x → take 15 (drop 1 c) ≡ rest → take 16 c ≡ x ∷ rest
first_and_rest [] x rest long first behind = absurd (omega (arith, long))
first_and_rest (y ∷ c) x rest long first behind =
    let one : y ≡ x = first in
    let more : take 15 c ≡ rest = behind in
    λ i. one i ∷ more i

header_behind : (file : List ℕ) → 0 < length file → take 15 (drop 1 (overlaid file 1 header)) ≡ header
header_behind [] some = absurd (omega arith)
header_behind (x ∷ file) some = refl

-- a moment at which no image is a silo
pub no_silo_at : (text : List ℕ) (m : Moment) → HasNoSilo IsMagic m → IsNewAt IsMagic text m
no_silo_at text m none image is zero live = absurd (none.0 image is live.silo)
no_silo_at text m none image is (suc zero) live = absurd (none.1 image is live.silo)
no_silo_at text m none image is (suc (suc n)) live = absurd (omega (arith, live.slot))

-- A moment at which slot 1's manager file is a silo's in no image, and each image in which slot 0's is one is a new silo.
pub new_at : (text : List ℕ) (m : Moment) → LacksSilo IsMagic 1 m → ((image : Image) → IsImage m.disk image → IsSilo IsMagic (image manager) → IsNewSilo text image) → IsNewAt IsMagic text m
new_at text m lacks first image is zero live = (refl, first image is live.silo)
new_at text m lacks first image is (suc zero) live = absurd (lacks image is live.silo)
new_at text m lacks first image is (suc (suc n)) live = absurd (omega (arith, live.slot))

-- slot 1's manager file is a silo's in no image still, while the program file is written, and while slot 0's manager file is
pub lacks_program : (text : List ℕ) (w : World) → LacksSilo IsMagic 1 (moment_of w) → (m : Moment) → ChangesFile program_file (Tears 0 (4 + length text)) w m → LacksSilo IsMagic 1 m
lacks_program text w lacks m changes = changes_lacks IsMagic program_file (Tears 0 (4 + length text)) 1 (λ e. absurd cc) w lacks m changes

pub lacks_log : (R : Change) (w : World) → LacksSilo IsMagic 1 (moment_of w) → (m : Moment) → ChangesFile manager R w m → LacksSilo IsMagic 1 m
lacks_log R w lacks m changes = changes_lacks IsMagic manager R 1 (λ e. absurd cc) w lacks m changes

module _ (text : List ℕ) (w0 : World) (shut : IsShutFile (w0.disk manager)) where
  -- while the program file is written the gate is closed in each image
  pub program_shut : (m : Moment) → ChangesFile program_file (Tears 0 (4 + length text)) w0 m → LacksSilo IsMagic 0 m
  program_shut m changes image is silo =
      let c : List ℕ = image manager in
      let was : c ≡ (w0.disk manager).seen = settled_image m.disk manager (w0.disk manager).seen c (changes.others manager log_apart ∙ shut.lasts) (is manager) in
      closed_silo (w0.disk manager).seen c shut.closed (ap (λ (l : List ℕ). slice_index l 0) was) silo

  pub while_program : LacksSilo IsMagic 1 (moment_of w0) → (m : Moment) → ChangesFile program_file (Tears 0 (4 + length text)) w0 m → IsNewAt IsMagic text m
  while_program lacks m changes = no_silo_at text m (program_shut m changes, lacks_program text w0 lacks m changes)

  module _ (w1 : World) (program : ChangesFile program_file (Tears 0 (4 + length text)) w0 (moment_of w1)) where
    lasts1 : w1.disk manager ≡ settled (w0.disk manager).seen
    lasts1 = program.others manager log_apart ∙ shut.lasts

    -- and while the bytes behind the gate are written
    pub header_shut : (m : Moment) → ChangesFile manager (Tears 1 15) w1 m → LacksSilo IsMagic 0 m
    header_shut m changes image is silo =
        let c : List ℕ = image manager in
        let from = changes.crash c (is manager) in
        let was : from.0 ≡ (w0.disk manager).seen = settled_image w1.disk manager (w0.disk manager).seen from.0 lasts1 from.1 in
        let low : 0 < 1 = omega arith in
        closed_silo (w0.disk manager).seen c shut.closed (Tears-at 1 15 from.0 c from.2 0 (inl low) ∙ ap (λ (l : List ℕ). slice_index l 0) was) silo

    pub while_header : LacksSilo IsMagic 1 (moment_of w1) → (m : Moment) → ChangesFile manager (Tears 1 15) w1 m → IsNewAt IsMagic text m
    while_header lacks m changes = no_silo_at text m (header_shut m changes, lacks_log (Tears 1 15) w1 lacks m changes)

    module _ (written : w1.disk program_file ≡ settled (overlaid (w0.disk program_file).seen 0 (program_bytes text))) (w2 : World) (head : ChangesFile manager (Tears 1 15) w1 (moment_of w2))
        (headed : w2.disk manager ≡ settled (overlaid (w1.disk manager).seen 1 header)) where
      file2 : List ℕ
      file2 = overlaid (w0.disk manager).seen 1 header

      lasts2 : w2.disk manager ≡ settled file2
      unfolding file2
      lasts2 = headed ∙ ap (λ (s : FileState). settled (overlaid s.seen 1 header)) lasts1

      program2 : w2.disk program_file ≡ settled (overlaid (w0.disk program_file).seen 0 (program_bytes text))
      program2 = head.others program_file program_apart ∙ written

      long2 : 16 ≤ length file2
      unfolding file2
      long2 = header_long (w0.disk manager).seen shut.some

      -- the file is long enough then
      pub seen_long : (w3 : World) → Tears 0 1 (w2.disk manager).seen (w3.disk manager).seen → 16 ≤ length (w3.disk manager).seen
      seen_long w3 tears = let size : length (w2.disk manager).seen ≡ length file2 = ap (λ (s : FileState). length s.seen) lasts2 in omega (arith, tears.no_shorter, size, long2)

      -- while the gate is opened
      pub while_opened : LacksSilo IsMagic 1 (moment_of w2) → (m : Moment) → ChangesFile manager (Tears 0 1) w2 m → IsNewAt IsMagic text m
      unfolding file2
      while_opened lacks m changes = new_at text m (lacks_log (Tears 0 1) w2 lacks m changes) (λ image is silo.
          let c : List ℕ = image manager in
          let p : List ℕ = image program_file in
          let from = changes.crash c (is manager) in
          let was : from.0 ≡ file2 = settled_image w2.disk manager file2 from.0 lasts2 from.1 in
          let high : 0 + 1 ≤ 15 = omega arith in
          let closed : slice_index c 15 ≡ 0 = Tears-at 0 1 from.0 c from.2 15 (inr high) ∙ ap (λ (l : List ℕ). slice_index l 15) was ∙ gate_after (w0.disk manager).seen shut.some in
          let text_is : p ≡ overlaid (w0.disk program_file).seen 0 (program_bytes text) = settled_image m.disk program_file _ p (changes.others program_file program_apart ∙ program2) (is program_file) in
          let behind : take 15 (drop 1 c) ≡ header = ap (λ (l : List ℕ). take 15 l) from.2.after ∙ ap (λ (l : List ℕ). take 15 (drop 1 l)) was ∙ header_behind (w0.disk manager).seen shut.some in
          new_silo text image silo.long (first_and_rest c 1 header silo.long silo.gate behind) (subst (λ (l : List ℕ). HasProgram text l) (sym text_is) (has_program text (w0.disk program_file).seen)) closed)

      -- and once it is open
      pub filled : (w3 : World) → ChangesFile manager (Tears 0 1) w2 (moment_of w3) → w3.disk manager ≡ settled (overlaid (w2.disk manager).seen 0 (1 ∷ [])) → IsMade text w3.disk
      unfolding file2
      filled w3 changes opened =
          let log : w3.disk manager ≡ settled (overlaid file2 0 (1 ∷ [])) = opened ∙ ap (λ (s : FileState). settled (overlaid s.seen 0 (1 ∷ []))) lasts2 in
          let program3 : w3.disk program_file ≡ settled (overlaid (w0.disk program_file).seen 0 (program_bytes text)) = changes.others program_file program_apart ∙ program2 in
          record {
            log_lasts = log ∙ ap (λ (s : FileState). settled s.seen) (sym log);
            header = ap (λ (s : FileState). take 16 s.seen) log ∙ header_after (w0.disk manager).seen shut.some;
            program_lasts = program3 ∙ ap (λ (s : FileState). settled s.seen) (sym program3);
            program = subst (λ (s : FileState). HasProgram text s.seen) (sym program3) (has_program text (w0.disk program_file).seen);
          }

-- the length was written, four bytes
pub length_written : (slot : ℕ) (head : List ℕ) (n : ℕ) (w0 w1 : World) → length head ≡ 4 → Written (ProgramFile slot) 0 (length head) w0 w1 → MayLeave (w0.disk (ProgramFile slot)) (w0.disk (ProgramFile slot)).seen → RunsOnFile (ProgramFile slot) (Tears 0 (4 + n)) 0 w0 w1
length_written slot head n w0 w1 size written here =
    run_weaker (ProgramFile slot) (Tears 0 (length head)) (Tears 0 (4 + n)) 0 w0 w1 (λ d c tears. Tears-wider 0 (length head) 0 (4 + n) d c (omega arith) (omega (arith, size)) tears)
    (run_one_write (ProgramFile slot) 0 (length head) w0 w1 written here (omega arith))

long_enough : (head : List ℕ) (old new : FileState) → length head ≡ 4 → Overwrote 0 head old new → 4 ≤ length new.seen
long_enough head old new size overwrote = omega (arith, ap length overwrote.seen, length-append head (drop (0 + length head) old.seen), size)

-- and then the text behind it
pub text_written : (slot : ℕ) (head : List ℕ) (n : ℕ) (w0 w1 w2 : World) → length head ≡ 4 → Written (ProgramFile slot) 0 (length head) w0 w1 → MayLeave (w0.disk (ProgramFile slot)) (w0.disk (ProgramFile slot)).seen → Overwrote 0 head (w0.disk (ProgramFile slot)) (w1.disk (ProgramFile slot))
    → Written (ProgramFile slot) 4 n w1 w2 → MayLeave (w1.disk (ProgramFile slot)) (w1.disk (ProgramFile slot)).seen → RunsOnFile (ProgramFile slot) (Tears 0 (4 + n)) 0 w0 w2
text_written slot head n w0 w1 w2 size written here overwrote behind there =
    run_wrote (ProgramFile slot) (Tears 0 (4 + n)) 0 w0 w1 w2 (length_written slot head n w0 w1 size written here) 4 n behind there (long_enough head (w0.disk (ProgramFile slot)) (w1.disk (ProgramFile slot)) size overwrote)
    (λ e d c first second. Tears-trans 0 (4 + n) e d c first (Tears-wider 4 n 0 (4 + n) d c (omega arith) (omega arith) second))

-- bytes at the front, and then bytes behind them
overlaid_behind : (file head text : List ℕ) → length head ≡ 4 → overlaid (overlaid file 0 head) 4 text ≡ overlaid file 0 (head ++ text)
overlaid_behind file head text size = grind (arith, common_steps)

-- the file then has the length and the text
pub text_stands : (old mid new : FileState) (head text : List ℕ) → length head ≡ 4 → Overwrote 0 head old mid → Overwrote 4 text mid new → new.seen ≡ overlaid old.seen 0 (head ++ text)
text_stands old mid new head text size first second = second.seen ∙ ap (λ (l : List ℕ). overlaid l 4 text) first.seen ∙ overlaid_behind old.seen head text size
