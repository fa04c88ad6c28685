use Rattle.std.proofs.Common.{◌≡◌, [], ◌∷◌, ◌++◌, ◌+◌, ◌*◌, if◌then◌else◌, ℕ, List, refl, sym, ◌∙◌, ap, subst, rules}
use Rattle.host_trait.specs.Disk.{settled}
use Rattle.host_trait.specs.Files.{same_file}
use Rattle.host_memory.specs.declared.events.Event.TheVariants as event
use Rattle.host_memory.specs.declared.events.Noted.{Noted}
use Rattle.host_memory.specs.Replay.{AreBy, AreSeen, state_of, written_by, output_of, syncs_of, moments_of}
use Rattle.host_memory.proofs.Worlds.{placed_disk, placed_written, placed_past, placed_output, placed_syncs, placed_clock}
use Rattle.host_memory.proofs.SeenFiles.{seen_same, seen_given}
use Rattle.host_memory.proofs.events.place.Goals as goal

pub returns-clause-disk : goal.returns-clause-disk
returns-clause-disk c f =
    let copy = c.in_ok-copy.copy in
    let old = c.args.events.now.items in
    let noted : c.push-noted.new.self.items ≡ old ++ (record { stamp = 2 * c.args.call + 1; event = event.Put c.args.file copy }) ∷ [] = search rules in
    let same : copy.items ≡ c.args.bytes.now = search rules in
    ap (λ (l : List Noted). state_of l f) noted ∙ placed_disk old c.args.call c.args.file copy f ∙ ap (λ (bytes : List ℕ). if same_file c.args.file f then settled bytes else state_of old f) same

pub returns-clause-written : goal.returns-clause-written
returns-clause-written c f =
    let copy = c.in_ok-copy.copy in
    let old = c.args.events.now.items in
    let noted : c.push-noted.new.self.items ≡ old ++ (record { stamp = 2 * c.args.call + 1; event = event.Put c.args.file copy }) ∷ [] = search rules in
    ap (λ (l : List Noted). written_by l f) noted ∙ placed_written old c.args.call c.args.file copy f

pub returns-clause-past : goal.returns-clause-past
returns-clause-past c =
    let copy = c.in_ok-copy.copy in
    let old = c.args.events.now.items in
    let noted : c.push-noted.new.self.items ≡ old ++ (record { stamp = 2 * c.args.call + 1; event = event.Put c.args.file copy }) ∷ [] = search rules in
    ap (λ (l : List Noted). moments_of l c.args.call) noted ∙ placed_past old c.args.call c.args.file copy

pub returns-clause-output : goal.returns-clause-output
returns-clause-output c =
    let copy = c.in_ok-copy.copy in
    let old = c.args.events.now.items in
    let noted : c.push-noted.new.self.items ≡ old ++ (record { stamp = 2 * c.args.call + 1; event = event.Put c.args.file copy }) ∷ [] = search rules in
    ap output_of noted ∙ placed_output old c.args.call c.args.file copy

pub returns-clause-syncs : goal.returns-clause-syncs
returns-clause-syncs c =
    let copy = c.in_ok-copy.copy in
    let old = c.args.events.now.items in
    let noted : c.push-noted.new.self.items ≡ old ++ (record { stamp = 2 * c.args.call + 1; event = event.Put c.args.file copy }) ∷ [] = search rules in
    ap syncs_of noted ∙ placed_syncs old c.args.call c.args.file copy

pub returns-clause-clock : goal.returns-clause-clock
returns-clause-clock c =
    let copy = c.in_ok-copy.copy in
    let old = c.args.events.now.items in
    let noted : c.push-noted.new.self.items ≡ old ++ (record { stamp = 2 * c.args.call + 1; event = event.Put c.args.file copy }) ∷ [] = search rules in
    subst (λ (l : List Noted). AreBy (2 * c.args.call + 1) l) (sym noted) (placed_clock old c.args.call c.args.file copy c.requires.clock)

pub returns-clause-seen : goal.returns-clause-seen
returns-clause-seen c =
    let copy = c.in_ok-copy.copy in
    let old = c.args.events.now.items in
    let noted : c.push-noted.new.self.items ≡ old ++ (record { stamp = 2 * c.args.call + 1; event = event.Put c.args.file copy }) ∷ [] = search rules in
    let same : copy.items ≡ c.args.bytes.now = search rules in
    let held = c.in_ok-held.held in
    let same-held : held.items ≡ c.args.bytes.now = search rules in
    let kept : AreSeen c.keep.new.files.items old = seen_same c.args.files.now.items c.keep.new.files.items old c.keep.ensures.bytes c.requires.seen in
    subst (λ (l : List Noted). AreSeen c.replace.new.files.items l) (sym noted)
    (
    seen_given c.keep.new.files.items c.replace.new.files.items old (record { stamp = 2 * c.args.call + 1; event = event.Put c.args.file copy }) c.args.file held.items kept (λ f. refl) refl (same ∙ sym same-held)
    c.replace.ensures.bytes c.replace.ensures.written
    )
