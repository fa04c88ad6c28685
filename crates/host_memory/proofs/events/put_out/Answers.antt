use Rattle.std.proofs.Common.{◌≡◌, [], ◌∷◌, ◌++◌, ◌+◌, ◌*◌, ℕ, List, length, sym, ◌∙◌, ap, subst, rules}
use Rattle.host_trait.specs.World.{Emitted}
use Rattle.host_memory.specs.declared.events.Event.TheVariants as event
use Rattle.host_memory.specs.declared.events.Noted.{Noted}
use Rattle.host_memory.specs.Replay.{AreBy, AreSeen, output_of, world_of}
use Rattle.host_memory.proofs.Worlds.{one_emitted, output_on, clock_on}
use Rattle.host_memory.proofs.SeenFiles.{seen_emitted}
use Rattle.host_memory.proofs.events.put_out.Goals as goal

pub returns-clause-ok : goal.returns-clause-ok
returns-clause-ok c input =
    let copy = c.in_ok-copy.copy in
    let old = c.args.events.now.items in
    let same : copy.items ≡ c.args.bytes.now = search rules in
    let noted : c.note.new.events.items ≡ old ++ (record { stamp = 2 * (c.args.call + 1); event = event.Emitted copy }) ∷ [] = search rules in
    subst (λ (l : List Noted). Emitted (length c.args.bytes.now) c.args.bytes.now (world_of input old c.args.call) (world_of input l (c.args.call + 1))) (sym noted)
    (
    subst (λ (l : List ℕ). Emitted (length l) l (world_of input old c.args.call) (world_of input (old ++ (record { stamp = 2 * (c.args.call + 1); event = event.Emitted copy }) ∷ []) (c.args.call + 1))) same
    (one_emitted input old c.args.call c.requires.clock copy)
    )

pub returns-clause-shown : goal.returns-clause-shown
returns-clause-shown c =
    let copy = c.in_ok-copy.copy in
    let old = c.args.events.now.items in
    let same : copy.items ≡ c.args.bytes.now = search rules in
    let noted : c.note.new.events.items ≡ old ++ (record { stamp = 2 * (c.args.call + 1); event = event.Emitted copy }) ∷ [] = search rules in
    let grown : c.extend_from_slice.new.self.items ≡ c.args.output.now.items ++ c.args.bytes.now = search rules in
    grown ∙ ap (λ (l : List ℕ). l ++ c.args.bytes.now) c.requires.shown ∙ ap (λ (l : List ℕ). output_of old ++ l) (sym same)
    ∙ sym (ap output_of noted ∙ output_on [] old c.args.call c.requires.clock (event.Emitted copy))

pub returns-clause-seen : goal.returns-clause-seen
returns-clause-seen c files seen =
    let copy = c.in_ok-copy.copy in
    let old = c.args.events.now.items in
    let noted : c.note.new.events.items ≡ old ++ (record { stamp = 2 * (c.args.call + 1); event = event.Emitted copy }) ∷ [] = search rules in
    subst (λ (l : List Noted). AreSeen files l) (sym noted) (seen_emitted files old (2 * (c.args.call + 1)) copy seen)

pub returns-clause-clock : goal.returns-clause-clock
returns-clause-clock c =
    let copy = c.in_ok-copy.copy in
    let old = c.args.events.now.items in
    let noted : c.note.new.events.items ≡ old ++ (record { stamp = 2 * (c.args.call + 1); event = event.Emitted copy }) ∷ [] = search rules in
    subst (λ (l : List Noted). AreBy (2 * (c.args.call + 1) + 1) l) (sym noted) (clock_on [] old c.args.call c.requires.clock (event.Emitted copy))
