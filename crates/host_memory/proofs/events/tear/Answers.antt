use Rattle.std.proofs.Common.{[], ◌+◌, ◌*◌, List, sym, ◌∙◌, ap, subst}
use Rattle.host_trait.specs.World.{Written}
use Rattle.host_memory.specs.declared.events.Event.TheVariants as event
use Rattle.host_memory.specs.declared.events.Noted.{Noted}
use Rattle.host_memory.specs.Replay.{AreBy, AreSeen, IsTorn, state_of, output_of, world_of}
use Rattle.host_memory.proofs.Worlds.{one_torn, torn, output_on, clock_on}
use Rattle.host_memory.proofs.SeenFiles.{seen_torn}
use Rattle.host_memory.proofs.events.tear.Goals as goal

pub returns-clause-told : goal.returns-clause-told
returns-clause-told c input =
    subst (λ (l : List Noted). Written c.args.file c.args.at c.args.len (world_of input c.args.events.now.items c.args.call) (world_of input l (c.args.call + 1))) (sym c.in_ok-note.ensures.ok)
    (one_torn input c.args.events.now.items c.args.call c.requires.clock c.args.file c.args.at c.args.len)

pub returns-clause-torn : goal.returns-clause-torn
returns-clause-torn c =
    subst (λ (l : List Noted). IsTorn c.args.at c.args.len (state_of c.args.events.now.items c.args.file) (state_of l c.args.file)) (sym c.in_ok-note.ensures.ok)
    (torn [] c.args.events.now.items c.args.call c.requires.clock c.args.file c.args.at c.args.len)

pub returns-clause-seen : goal.returns-clause-seen
returns-clause-seen c files seen =
    subst (λ (l : List Noted). AreSeen files l) (sym c.in_ok-note.ensures.ok) (seen_torn files c.args.events.now.items (2 * (c.args.call + 1)) c.args.file c.args.at c.args.len seen)

pub returns-clause-output : goal.returns-clause-output
returns-clause-output c = ap output_of c.in_ok-note.ensures.ok ∙ output_on [] c.args.events.now.items c.args.call c.requires.clock (event.Tore c.args.file c.args.at c.args.len)

pub returns-clause-clock : goal.returns-clause-clock
returns-clause-clock c =
    subst (λ (l : List Noted). AreBy (2 * (c.args.call + 1) + 1) l) (sym c.in_ok-note.ensures.ok) (clock_on [] c.args.events.now.items c.args.call c.requires.clock (event.Tore c.args.file c.args.at c.args.len))
