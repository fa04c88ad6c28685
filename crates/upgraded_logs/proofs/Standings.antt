-- What entries stand for, one behind the other.
use Rattle.std.proofs.Common.{◌≡◌, ℕ, List, [], ◌∷◌, ◌++◌, map, refl}
use Rattle.host_trait.specs.World.{Image}
use Rattle.field_codec.specs.declared.formats.Format.{Format}
use Rattle.script_check.specs.Comparison.{GoOnInTurn, last_program}
use Rattle.promise_spec.specs.Programs.{Program}
use Rattle.promise_spec.specs.Entries.{Standing, LogEntry, Recorded, Upgraded, after_entry, after_entries, programs_among}
use Rattle.promise_spec.specs.SerialExecution.{IsSerialFrom}
use Rattle.promise_spec.specs.Blocks.{MayFollow, AreKept}

pub stands : (before : Standing) (entries : List LogEntry) (q : Program) → after_entries before (entries ++ Upgraded q ∷ []) ≡ after_entry (after_entries before entries) (Upgraded q)
stands before [] q = refl
stands before (e ∷ entries) q = stands (after_entry before e) entries q

pub kept : (format : Format) (live : ℕ) (image : Image) (before : Standing) (entries : List LogEntry) (q : Program)
    → (AreKept format live image before.program (entries ++ Upgraded q ∷ []) → AreKept format live image before.program entries × MayFollow (after_entries before entries).program q)
    × (AreKept format live image before.program entries × MayFollow (after_entries before entries).program q → AreKept format live image before.program (entries ++ Upgraded q ∷ []))
kept format live image before [] q = (λ h. (tt, h.0), λ h. (h.1, tt))
kept format live image before (Recorded c ∷ entries) q =
    let r = kept format live image (after_entry before (Recorded c)) entries q in
    (λ h. (let s = r.0 h.1 in ((h.0, s.0), s.1)), λ h. (h.0.0, r.1 (h.0.1, h.1)))
kept format live image before (Upgraded u ∷ entries) q =
    let r = kept format live image (after_entry before (Upgraded u)) entries q in
    (λ h. (let s = r.0 h.1 in ((h.0, s.0), s.1)), λ h. (h.0.0, r.1 (h.0.1, h.1)))

pub serial : (before : Standing) (entries : List LogEntry) (q : Program)
    → (IsSerialFrom before (entries ++ Upgraded q ∷ []) → IsSerialFrom before entries) × (IsSerialFrom before entries → IsSerialFrom before (entries ++ Upgraded q ∷ []))
serial before [] q = (λ h. h, λ h. h)
serial before (Recorded c ∷ entries) q =
    let r = serial (after_entry before (Recorded c)) entries q in
    (λ h. (h.0, r.0 h.1), λ h. (h.0, r.1 h.1))
serial before (Upgraded u ∷ entries) q = serial (after_entry before (Upgraded u)) entries q

pub programs : (format : Format) (live : ℕ) (image : Image) (p : Program) (entries : List LogEntry) → AreKept format live image p entries → GoOnInTurn p.types (map (λ q. q.types) (programs_among entries))
programs format live image p [] h = tt
programs format live image p (Recorded c ∷ entries) h = programs format live image p entries h.1
programs format live image p (Upgraded q ∷ entries) h = (h.0.1, programs format live image q entries h.1)

pub last : (before : Standing) (entries : List LogEntry) → (after_entries before entries).program.types ≡ last_program before.program.types (map (λ q. q.types) (programs_among entries))
last before [] = refl
last before (Recorded c ∷ entries) = last (after_entry before (Recorded c)) entries
last before (Upgraded q ∷ entries) = last (after_entry before (Upgraded q)) entries
