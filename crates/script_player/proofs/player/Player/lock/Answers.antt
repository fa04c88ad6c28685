use Rattle.std.proofs.Common.{Option, Some, ap, sym, ◌∙◌}
use Rattle.base_types.specs.declared.calls.Mode.{Mode}
use Rattle.base_types.specs.declared.calls.Mode.TheVariants.{Read}
use Rattle.script_holding.specs.Holding.{Holding, change, raised, with_held}
use Rattle.script_meaning.specs.Calls.{locked}
use Rattle.script_player.specs.PlayState.{heard}
use Rattle.script_player.proofs.PlayProgress.{heard_raise}
use Rattle.script_player.proofs.player.Player.lock.Goals as goal

pub returns-in-Update-clause-led : goal.returns-in-Update-clause-led
returns-in-Update-clause-led c = λ go.
    let world = c.args.world.now in
    let has = c.args.self.now.has in
    let progress = c.args.self.now.progress in
    let grain = c.args.grain in
    let fields = c.args.fields.now in
    let shared = sym c.mode_of.ensures ∙ c.in-Some-Read.is ∙ ap (λ (m : Mode). Some m) c.in-Some-Read.field-0-is in
    ap (λ (h : Holding). heard world progress (go h)) c.raise.ensures
    ∙ heard_raise world progress grain (go (with_held has (change grain raised has.held)))
    ∙ ap (λ (m : Mode). heard world progress (locked (Some Read) m grain fields go has)) (sym c.in-Update.is)
    ∙ ap (λ (o : Option Mode). heard world progress (locked o c.args.mode grain fields go has)) (sym shared)
