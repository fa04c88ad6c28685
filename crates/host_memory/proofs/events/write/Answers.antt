use Rattle.std.proofs.Common.{◌≡◌, [], ◌∷◌, ◌++◌, ◌+◌, ◌*◌, ℕ, List, length, refl, sym, ◌∙◌, ap, subst, rules}
use Rattle.host_trait.specs.Disk.{Overwrote, overlaid}
use Rattle.host_trait.specs.World.{Written}
use Rattle.host_memory.specs.declared.events.Event.TheVariants as event
use Rattle.host_memory.specs.declared.events.Noted.{Noted}
use Rattle.host_memory.specs.Table.{bytes_in}
use Rattle.host_memory.specs.Replay.{AreBy, AreSeen, state_of, output_of, world_of}
use Rattle.host_memory.proofs.Worlds.{one_written, overwrote, output_on, clock_on}
use Rattle.host_memory.proofs.SeenFiles.{seen_given}
use Rattle.host_memory.proofs.events.write.Goals as goal

pub returns-clause-told : goal.returns-clause-told
returns-clause-told c input =
    let copy = c.in_ok-copy.copy in
    let old = c.args.events.now.items in
    let same : copy.items ≡ c.args.bytes.now = search rules in
    let noted : c.push-noted.new.self.items ≡ old ++ (record { stamp = 2 * (c.args.call + 1); event = event.Wrote c.args.file c.args.at copy }) ∷ [] = search rules in
    subst (λ (l : List Noted). Written c.args.file c.args.at (length c.args.bytes.now) (world_of input old c.args.call) (world_of input l (c.args.call + 1))) (sym noted)
    (
    subst
    (λ (l : List ℕ). Written c.args.file c.args.at (length l) (world_of input old c.args.call)
    (world_of input (old ++ (record { stamp = 2 * (c.args.call + 1); event = event.Wrote c.args.file c.args.at copy }) ∷ []) (c.args.call + 1)))
    same (one_written input old c.args.call c.requires.clock c.args.file c.args.at copy c.requires.place)
    )

pub returns-clause-ok : goal.returns-clause-ok
returns-clause-ok c =
    let copy = c.in_ok-copy.copy in
    let old = c.args.events.now.items in
    let same : copy.items ≡ c.args.bytes.now = search rules in
    let noted : c.push-noted.new.self.items ≡ old ++ (record { stamp = 2 * (c.args.call + 1); event = event.Wrote c.args.file c.args.at copy }) ∷ [] = search rules in
    subst (λ (l : List Noted). Overwrote c.args.at c.args.bytes.now (state_of old c.args.file) (state_of l c.args.file)) (sym noted)
    (
    subst
    (λ (l : List ℕ). Overwrote c.args.at l (state_of old c.args.file)
    (state_of (old ++ (record { stamp = 2 * (c.args.call + 1); event = event.Wrote c.args.file c.args.at copy }) ∷ []) c.args.file))
    same (overwrote [] old c.args.call c.requires.clock c.args.file c.args.at copy)
    )

pub returns-clause-seen : goal.returns-clause-seen
returns-clause-seen c =
    let copy = c.in_ok-copy.copy in
    let old = c.args.events.now.items in
    let files = c.args.files.now.items in
    let same : copy.items ≡ c.args.bytes.now = search rules in
    let noted : c.push-noted.new.self.items ≡ old ++ (record { stamp = 2 * (c.args.call + 1); event = event.Wrote c.args.file c.args.at copy }) ∷ [] = search rules in
    let over : overlaid (state_of old c.args.file).seen c.args.at copy.items ≡ overlaid (bytes_in files c.args.file) c.args.at c.args.bytes.now =
    ap (λ (l : List ℕ). overlaid l c.args.at copy.items) (sym (c.requires.seen c.args.file).0) ∙ ap (λ (l : List ℕ). overlaid (bytes_in files c.args.file) c.args.at l) same in
    subst (λ (l : List Noted). AreSeen c.put.new.files.items l) (sym noted)
    (
    seen_given files c.put.new.files.items old (record { stamp = 2 * (c.args.call + 1); event = event.Wrote c.args.file c.args.at copy }) c.args.file (overlaid (bytes_in files c.args.file) c.args.at c.args.bytes.now) c.requires.seen
    (λ f. refl) refl over c.in_ok-put.ensures.bytes c.in_ok-put.ensures.written
    )

pub returns-clause-output : goal.returns-clause-output
returns-clause-output c =
    let copy = c.in_ok-copy.copy in
    let old = c.args.events.now.items in
    let noted : c.push-noted.new.self.items ≡ old ++ (record { stamp = 2 * (c.args.call + 1); event = event.Wrote c.args.file c.args.at copy }) ∷ [] = search rules in
    ap output_of noted ∙ output_on [] old c.args.call c.requires.clock (event.Wrote c.args.file c.args.at copy)

pub returns-clause-clock : goal.returns-clause-clock
returns-clause-clock c =
    let copy = c.in_ok-copy.copy in
    let old = c.args.events.now.items in
    let noted : c.push-noted.new.self.items ≡ old ++ (record { stamp = 2 * (c.args.call + 1); event = event.Wrote c.args.file c.args.at copy }) ∷ [] = search rules in
    subst (λ (l : List Noted). AreBy (2 * (c.args.call + 1) + 1) l) (sym noted) (clock_on [] old c.args.call c.requires.clock (event.Wrote c.args.file c.args.at copy))
