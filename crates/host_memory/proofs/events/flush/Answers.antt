use Rattle.std.proofs.Common.{[], ◌+◌, ◌*◌, List, sym, ◌∙◌, ap, subst}
use Rattle.host_trait.specs.World.{Synced}
use Rattle.host_memory.specs.declared.events.Event.TheVariants as event
use Rattle.host_memory.specs.declared.events.Noted.{Noted}
use Rattle.host_memory.specs.Replay.{AreBy, AreSeen, output_of, syncs_of, world_of}
use Rattle.host_memory.proofs.Worlds.{one_synced, output_on, syncs_on, clock_on}
use Rattle.host_memory.proofs.SeenFiles.{seen_synced}
use Rattle.host_memory.proofs.events.flush.Goals as goal

pub returns-clause-told : goal.returns-clause-told
returns-clause-told c input =
    subst (λ (l : List Noted). Synced c.args.file c.args.ok (world_of input c.args.events.now.items c.args.call) (world_of input l (c.args.call + 1))) (sym c.in_ok-note.ensures.ok)
    (one_synced input c.args.events.now.items c.args.call c.requires.clock c.args.file c.args.ok)

pub returns-clause-count : goal.returns-clause-count
returns-clause-count c = ap syncs_of c.in_ok-note.ensures.ok ∙ syncs_on [] c.args.events.now.items c.args.call c.requires.clock (event.Synced c.args.file c.args.ok)

pub returns-clause-seen : goal.returns-clause-seen
returns-clause-seen c files seen =
    subst (λ (l : List Noted). AreSeen files l) (sym c.in_ok-note.ensures.ok) (seen_synced files c.args.events.now.items (2 * (c.args.call + 1)) c.args.file c.args.ok seen)

pub returns-clause-output : goal.returns-clause-output
returns-clause-output c = ap output_of c.in_ok-note.ensures.ok ∙ output_on [] c.args.events.now.items c.args.call c.requires.clock (event.Synced c.args.file c.args.ok)

pub returns-clause-clock : goal.returns-clause-clock
returns-clause-clock c =
    subst (λ (l : List Noted). AreBy (2 * (c.args.call + 1) + 1) l) (sym c.in_ok-note.ensures.ok) (clock_on [] c.args.events.now.items c.args.call c.requires.clock (event.Synced c.args.file c.args.ok))
